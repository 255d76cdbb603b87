use Rattle.std.proofs.Common.{ℕ, List, ◌≡◌, ◌+◌, ◌-◌, ◌++◌, min, Some, get_or, drop, refl, ap, ◌∙◌, sym, subst, arith}
use Rattle.std.proofs.lemmas.Bool.Decides.{nat_tests}
use Rattle.blockspec.specs.ItemMarks.{ItemMark}
use Rattle.mdblock.specs.FoundLists.{FoundList}
use Rattle.mdview.specs.UnitsFound.{found_in}
use Rattle.mdblock.specs.Seams.{ListSeam, seam_front, seam_list}
use Rattle.mdblock.specs.Fronted.{IsInOrder}
use Rattle.mdblock.specs.Insets.{MayFit}
use Rattle.mdblock.specs.Spliced.{mark_at}
use Rattle.mdview.specs.HeldLists.{IsBaseIn, unplaced}
use Rattle.mdview.proofs.KeptLists.{meets_placed}
use Rattle.mdview.proofs.NearRead.{if_some}
use Rattle.mdview.proofs.HeldJoins.{joined_mark, no_join}
use Rattle.mdview.proofs.blocks.joined_lists.join_held.Goals as goal

pub returns-clause-place : goal.returns-clause-place
returns-clause-place c =
    let same = c.found-old.ensures in
    let mark = joined_mark c.joins.result.now c.args.item.unit.now.read.items c.args.item.item no_join (c.joins.ensures ∙ ap (λ (f : FoundList). f.marks) same) c.requires.item in
    let line = ap (λ (m : ItemMark). m.line) mark in
    let lines = c.lines.ensures ∙ ap (λ (f : FoundList). f.lines) same in (
      refl,
      refl,
      c.saturating_add.ensures,
      c.saturating_add-2.ensures ∙ ap (λ n. min (c.args.line + n) 18446744073709551615) (c.saturating_sub.ensures ∙ ap (λ n. n - (get_or c.joins.result.now c.args.item.item no_join).line) lines ∙ ap (λ n. c.args.item.unit.now.read.lines - n) (sym line)),
    )

pub push_joined-requires-clause-from : goal.push_joined-requires-clause-from
push_joined-requires-clause-from c =
    let mark = joined_mark c.joins.result.now c.args.item.unit.now.read.items c.args.item.item no_join (c.joins.ensures ∙ ap (λ (f : FoundList). f.marks) c.found-old.ensures) c.requires.item in
    ap (λ (m : ItemMark). m.texts) (sym mark)

pub push_joined-requires-clause-base : goal.push_joined-requires-clause-base
push_joined-requires-clause-base c = λ own.
    subst (IsBaseIn c.args.item.unit.now) (sym c.in_ok-seam.ensures.parts.0)
    (c.requires.base (grind (arith, nat_tests, own)))

pub returns-clause-list : goal.returns-clause-list
unfolding found_in
returns-clause-list c =
    let same = c.found-old.ensures in
    let old = c.found-old.result.now in
    let k = c.args.item.item in
    let list = seam_list c.in_ok-seam.seam in (
      list,
      c.in_ok-list.ensures.list,
      λ limit e xs l zs ys m.
          let at = c.in_ok-seam.ensures.list limit e xs l zs ys (meets_placed limit e c.args.reader old c.args.item.unit.now same k xs l zs ys m) in (
            at.begin,
            at.units,
            at.stands,
            subst (λ (f : FoundList). (kept : List (List ℕ)) × (list.unit.texts ≡ kept ++ drop (mark_at f.marks k).texts f.unit.texts)) same (at.kept, at.texts),
          ),
      λ limit e xs l zs ys m.
          ap (λ kept. Some kept) (c.in_ok-list.ensures.kept (c.in_ok-seam.ensures.fits limit e xs l zs ys (meets_placed limit e c.args.reader old c.args.item.unit.now same k xs l zs ys m)).0),
    )

pub returns-clause-seam : goal.returns-clause-seam
returns-clause-seam c =
    let old = c.found-old.result.now in
    let u = c.args.item.unit.now in
    let parts = c.in_ok-seam.ensures.parts in
    if_some c.in_ok-list.list (λ (s : ListSeam) w. record {
      old = ap (λ (z : ListSeam). unplaced z.old) w.0 ∙ ap unplaced parts.1 ∙ c.found-old.ensures;
      stays = w.1;
      kept = ap (λ kept. Some kept) w.2;
      fits = λ limit e xs l zs ys m. subst (λ (z : ListSeam). MayFit (seam_front z) z.old z.join × IsInOrder z.base) (sym w.0)
          (c.in_ok-seam.ensures.fits limit e xs l zs ys (meets_placed limit e c.args.reader old u c.found-old.ensures c.args.item.item xs l zs ys m));
    }) c.in_ok-list.ensures.seam
