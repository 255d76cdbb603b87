use Rattle.std.proofs.Common.{◌≡◌, ◌+◌, ◌++◌, ◌<◌, drop, length, map, take, sym, ◌∙◌, ap, arith}
use Rattle.std.proofs.lemmas.List.{drop-map, drop_at, take-map, take_at}
use Rattle.mdblock.specs.FoundLists.{join_mark}
use Rattle.mdblock.specs.Insets.{marks_in_front}
use Rattle.mdblock.specs.Spliced.{mark_at, mark_further}
use Rattle.mdblock.proofs.InsetLaws.{mark_in_front}
use Rattle.mdblock.proofs.units.insets.joins.put_joins.Goals as goal

pub returns : goal.returns
returns c =
    let j = c.args.join in
    let old = map join_mark c.args.joins.now.items in
    let F = marks_in_front c.args.stay old (map join_mark c.args.part.items) in
    let N = c.put_front_joins.new.joins.items in
    let is : map join_mark N ≡ F ++ drop (length F) old = c.put_front_joins.ensures in
    let size = c.requires.room in
    let inside : j < length F = omega (arith, size) in
    let to : join_mark c.join_at-to.result ≡ mark_at F j =
    c.join_at-to.ensures ∙ ap (λ z. mark_at (map join_mark z) j) c.deref.ensures.value ∙ ap (λ z. mark_at z j) is ∙ mark_in_front F (drop (length F) old) j inside in
    let first : map join_mark (take (j + 1) N) ≡ F = sym (take-map join_mark (j + 1) N) ∙ ap (take (j + 1)) is ∙ take_at F (drop (length F) old) (j + 1) size in
    let later : map join_mark (drop (j + 1) N) ≡ drop (j + 1) old =
    sym (drop-map join_mark (j + 1) N) ∙ ap (drop (j + 1)) is ∙ drop_at F (drop (length F) old) (j + 1) size ∙ ap (λ z. drop z old) size in
    c.move_later_joins.ensures
    ∙ ap (λ z. z ++ map (mark_further (join_mark c.args.from) (join_mark c.join_at-to.result)) (map join_mark (drop (j + 1) N))) first
    ∙ ap (λ z. F ++ map (mark_further (join_mark c.args.from) z) (map join_mark (drop (j + 1) N))) to
    ∙ ap (λ z. F ++ map (mark_further (join_mark c.args.from) (mark_at F j)) z) later
