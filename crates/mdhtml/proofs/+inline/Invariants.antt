use Rattle.std.proofs.Common.{◌≡◌, ◌++◌, string_bytes, drop}
use Rattle.mdinline.specs.TreeView.{inlines_view}
use Rattle.htmlspec.specs.InlineHtml.{inlines_html}
use Rattle.mdhtml.proofs.+inline.Given as goal

abbrev pub invariant-inlines::write_inlines-loop-inline : goal.invariant-inlines::write_inlines-loop-inline
invariant-inlines::write_inlines-loop-inline l =
    string_bytes l.out ++ inlines_html l.options (inlines_view (drop l.inline-index l.inlines)) ≡ string_bytes l.fn.out ++ inlines_html l.options (inlines_view l.inlines)
