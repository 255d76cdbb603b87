use Rattle.std.proofs.Common.{◌≡◌, ◌+◌, ◌&&◌, false, map, take, sym, ◌∙◌, ap}
use Rattle.std.proofs.lemmas.List.{take-map}
use Rattle.mdblock.specs.Bases.{base_view}
use Rattle.mdblock.specs.FoundLists.{join_mark}
use Rattle.mdblock.specs.Fronted.{base_mark}
use Rattle.mdblock.specs.Spliced.{no_mark, tight_list}
use Rattle.mdblock.proofs.TightSeams.{tight_both}
use Rattle.mdblock.proofs.seams.is_tight_behind.Goals as goal

pub returns-then-is_tight : goal.returns-then-is_tight
returns-then-is_tight c =
    let b = base_view c.args.base.now in
    let n = b.join + 1 in
    let P = map join_mark c.args.later.now in
    let first : c.is_tight.result ≡ tight_list c.args.parted (take n b.list.marks) =
    c.is_tight.ensures ∙ ap (tight_list c.args.parted) (ap (map join_mark) c.before-first.ensures ∙ sym (take-map join_mark n c.joins.result.now) ∙ ap (take n) c.joins.ensures) in
    c.is_tight-then-is_tight.ensures
    ∙ sym (tight_both c.args.parted (take n b.list.marks) P no_mark (base_mark b) ∙ ap (λ z. z && tight_list false P) (sym first ∙ c.if-is_tight.true))

pub returns-else-is_tight : goal.returns-else-is_tight
returns-else-is_tight c =
    let b = base_view c.args.base.now in
    let n = b.join + 1 in
    let P = map join_mark c.args.later.now in
    let first : c.is_tight.result ≡ tight_list c.args.parted (take n b.list.marks) =
    c.is_tight.ensures ∙ ap (tight_list c.args.parted) (ap (map join_mark) c.before-first.ensures ∙ sym (take-map join_mark n c.joins.result.now) ∙ ap (take n) c.joins.ensures) in
    c.if-is_tight.false
    ∙ sym (tight_both c.args.parted (take n b.list.marks) P no_mark (base_mark b) ∙ ap (λ z. z && tight_list false P) (sym first ∙ c.if-is_tight.false))
