use Rattle.std.proofs.Common.{◌≡◌, ◌++◌, map, string_bytes}
use Rattle.htmlspec.specs.WrittenUnits.{is_deep_text, read_html}
use Rattle.mdhtml.specs.UnitWriters.{entities_of, options_of}
use Rattle.mdhtml.proofs.TextsWritten.{deep_from, rest}
use Rattle.mdhtml.proofs.unit_writer.UnitWriter.write_texts.Given as goal

-- the HTML so far and that of the rest are all, and none so far was too deep
abbrev pub invariant-loop-text : goal.invariant-loop-text
invariant-loop-text g l = record {
  options : options_of l.self ≡ options_of l.fn.self;
  entities : entities_of l.self ≡ entities_of l.fn.self;
  texts : map string_bytes l.self.texts.items ++ rest (read_html (options_of l.fn.self) (entities_of l.fn.self) (g.L.Labels.target l.labels)) l.texts l.text-index
      ≡ rest (read_html (options_of l.fn.self) (entities_of l.fn.self) (g.L.Labels.target l.labels)) l.texts 0;
  fits : deep_from (is_deep_text (options_of l.fn.self) (entities_of l.fn.self) (g.L.Labels.target l.labels)) l.texts l.text-index
      ≡ deep_from (is_deep_text (options_of l.fn.self) (entities_of l.fn.self) (g.L.Labels.target l.labels)) l.texts 0;
}
