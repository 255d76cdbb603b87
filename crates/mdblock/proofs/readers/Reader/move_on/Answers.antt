use Rattle.std.proofs.Common.{◌≡◌, ◌+◌, ◌≤◌, ◌^◌, ◌-◌, Some, map, string_bytes, ap, subst, sym, ◌∙◌}
use Rattle.std.specs.Prelude.{option_map}
use Rattle.mdleaf.specs.DefinedLinks.{definition_of}
use Rattle.mdblock.specs.FoundLists.{join_mark}
use Rattle.mdblock.specs.held.Following.{moved_reading}
use Rattle.mdblock.specs.held.ReaderState.{ReaderState, unit_so_far}
use Rattle.mdblock.specs.held.Reads.{Reads}
use Rattle.mdblock.proofs.ItemStarts.{further_begin}
use Rattle.mdblock.proofs.readers.Reader.move_on.Goals as goal

pub returns-clause-moved : goal.returns-clause-moved
returns-clause-moved c = λ limit e ls w.
    let i = c.self.inside in
    let held = c.in-Some.held in
    let n = c.args.lines in
    let was : ReaderState = record { entities = i.entities.now; limit = i.limit; fed = i.fed; held = Some (unit_so_far held) } in
    let view : was ≡ c.args.self.now =
    ap (λ z. record { entities = i.entities.now; limit = i.limit; fed = i.fed; held = option_map unit_so_far z }) (sym c.in-Some.is) ∙ c.self.view_is in
    let begin = c.moved_begin-held.ensures ∙ further_begin limit e was ls n (subst (λ (z : ReaderState). n + z.fed ≤ 2 ^ 64 - 1) (sym view) c.requires) (subst (λ (z : ReaderState). Reads limit e z ls) (sym view) w) in
    ap (λ z. record {
      entities = i.entities.now;
      limit = i.limit;
      fed = n + i.fed;
      held = Some (record {
        level = held.level;
        definitions = map definition_of held.gathering.definitions.items;
        texts = map string_bytes held.gathering.texts.items;
        begin = z;
        marks = map join_mark held.joins.items;
        joined = held.joined;
      });
    }) begin
    ∙ ap (moved_reading n) view
