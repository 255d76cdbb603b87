use Rattle.std.proofs.Common.{◌==◌, ◌∷◌, ◌++◌, [], refl, reverse, sym, ap, ◌∙◌, string_bytes}
use Rattle.mdinline.specs.TreeView.{inlines_view}
use Rattle.mdinline.specs.declared.inlines.Inline.TheBlock as made
use Rattle.mdinline.specs.held.TreeBuilding.{built}
use Rattle.mdinline.proofs.BuiltRows.{text_ended}
use Rattle.mdinline.proofs.JoinedRows.{none_joined, some_text, text_more, text_row, tree_whole}
use Rattle.mdinline.proofs.ReadHolding.{no_items}
use Rattle.mdinline.proofs.trees.TreeBuilder.finish_text.Goals as goal

pub returns-then-is_empty-clause-tree : goal.returns-then-is_empty-clause-tree
returns-then-is_empty-clause-tree c = λ none.
    let s = c.args.self in
    let empty = c.is_empty.ensures ∙ ap (λ n. n == 0) s.text.bytes.ok.0 in
    ap inlines_view (sym c.requires)
    ∙ tree_whole s.frames.items s.row.items (string_bytes s.text) (built s) none (no_items (string_bytes s.text) c.is_empty.result empty c.if-is_empty.true) refl
    (none_joined s.frames.items s.row.items none c.requires).last.joined

pub returns-clause-tree : goal.returns-clause-tree
returns-clause-tree c = λ none.
    let s = c.args.self in
    let t = c.in_ok-text.text in
    let row = made.Text t ∷ [] in
    let frames = reverse s.frames.items in
    let lone = ap (λ is. is ++ row) (sym c.requires) in
    let same = c.in_ok-text.ensures.ok ∙ c.deref.ensures in
    let empty = c.is_empty.ensures ∙ ap (λ n. n == 0) s.text.bytes.ok.0 in
    let ended = text_row t (string_bytes s.text) same (some_text (string_bytes s.text) (string_bytes t) c.is_empty.result same empty c.if-is_empty.false) in
    tree_whole s.frames.items row [] (built s) none refl
    (text_ended frames s.row.items row row (string_bytes s.text) s.nested lone ended.events)
    (text_more frames s.row.items row row (string_bytes s.text) s.nested lone ended (none_joined s.frames.items s.row.items none c.requires)).last
