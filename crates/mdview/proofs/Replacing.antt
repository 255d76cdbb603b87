-- What an edit brings, by what was read.
use Rattle.std.proofs.Common.{◌≡◌, ℕ, Bool, true, false, List, Result, Ok, Err, arith, drop, length, map, refl, ap, ◌∙◌, sym, subst, take, if◌then◌else◌}
use Rattle.std.specs.Prelude.{IfOk, nat_eq}
use Rattle.std.proofs.lemmas.Bool.Decides.{nat_tests}
use Rattle.mdtext.specs.EntityTable.{EntityTable}
use Rattle.blockspec.specs.BlockUnits.{units}
use Rattle.mdsource.specs.Stretch.{Places, from_line, meeting_line}
use Rattle.mdsource.specs.UnitTiles.{front_of, tile_of}
use Rattle.mdsource.proofs.TileSplices.{front_kept, front_read}
use Rattle.mdview.specs.HeldBlocks.{HoldsUnits, IsReplacing, IsReread, old_lines, places_of, unit_lines}
use Rattle.mdview.specs.HeldLists.{StandForUnits, list_in, unplaced}
use Rattle.mdview.specs.HeldTexts.{head_read}
use Rattle.mdview.specs.HeldUnit.{HeldUnit, read_of}
use Rattle.mdview.specs.NewText.{lines_of}
use Rattle.mdview.specs.UnitsFound.{found_in, units_found}
use Rattle.mdview.specs.Update.{units_brought}
use Rattle.mdsource.specs.declared.fault.EditFault.{EditFault}
use Rattle.mdview.specs.declared.source.new_text.NewText.{NewText}
use Rattle.mdview.specs.declared.blocks.reparse.Reparsed.{Reparsed}
use Rattle.mdview.specs.declared.update.Update.{Update}
use Rattle.mdview.proofs.HeldTiles.{tiles_found}
use Rattle.mdview.proofs.ListsStand.{stand_found, stand_unplaced}
use Rattle.mdview.proofs.ReadStretches.{is_edit}

module _ (e : EntityTable) (text : NewText) (was : ℕ) (held : List HeldUnit) (reparsed : Reparsed) (w : HoldsUnits e (old_lines text) was (map read_of held)) (r : IsReread e text reparsed) where
  pub head_behind : (head : ℕ) → head ≡ head_read was reparsed
      → head ≡ front_of (length (lines_of text)) (units e (lines_of text))
  head_behind head is = is ∙ by (nat_eq reparsed.from 0) refl
    where
      p : Places
      p = places_of e text

      by : (t : Bool) → nat_eq reparsed.from 0 ≡ t → (if t then front_of reparsed.meet (units_found reparsed) else was) ≡ front_of (length (lines_of text)) (units e (lines_of text))
      by true h =
          let from : reparsed.from ≡ 0 = grind (arith, nat_tests, h) in
          ap (front_of reparsed.meet) (r.found ∙ ap (λ n. units e (drop n (take reparsed.meet (lines_of text)))) from)
          ∙ ap (λ n. front_of n (units e (take n (lines_of text)))) r.meet
          ∙ sym (front_read e (old_lines text) (lines_of text) p (is_edit e text))
      by false h =
          let inside : from_line p ≡ 0 → ⊥ = λ none. let from = r.from in let zero : reparsed.from ≡ 0 = from ∙ none in clash zero h in
          w.before ∙ sym (front_kept e (old_lines text) (lines_of text) p (is_edit e text) inside)
        where
          clash : reparsed.from ≡ 0 → nat_eq reparsed.from 0 ≡ false → ⊥
          clash zero other = grind (arith, nat_tests, zero, other)

  pub replacing : (result : Result Update EditFault) → IfOk result (λ u. (u.first ≡ reparsed.first) × (u.next ≡ reparsed.next))
      → IfOk result (λ u. map list_in (units_brought held u) ≡ map unplaced (found_in reparsed))
      → IfOk result (λ u. u.head ≡ head_read was reparsed) → IfOk result (IsReplacing e held text)
  replacing (Ok update) place lists head = record {
    first = place.0 ∙ r.first;
    next = place.1 ∙ r.next;
    head = head_behind update.head head;
    units = tiles_found (units_brought held update) (found_in reparsed) lists ∙ ap (map tile_of) (r.found ∙ ap (units e) same);
    stands = subst (λ fs. StandForUnits e fs (unit_lines e (drop (from_line (places_of e text)) (take (meeting_line (places_of e text)) (lines_of text))))) (sym lists)
        (subst (λ ls. StandForUnits e (map unplaced (found_in reparsed)) (unit_lines e ls)) same
        (stand_unplaced e (found_in reparsed) (unit_lines e ls) (stand_found e ls (found_in reparsed) r.found r.stands)));
  }
    where
      ls : List (List ℕ)
      ls = drop reparsed.from (take reparsed.meet (lines_of text))

      same : ls ≡ drop (from_line (places_of e text)) (take (meeting_line (places_of e text)) (lines_of text))
      same =
          ap (λ n. drop n (take reparsed.meet (lines_of text))) r.from
          ∙ ap (λ n. drop (from_line (places_of e text)) (take n (lines_of text))) r.meet
  replacing (Err fault) place lists head = tt
