use Rattle.std.proofs.Common.{arith, length-drop, ◌≡◌, ◌∙◌, ◌-◌, ◌++◌, None, ap, drop, length, map, sym, take}
use Rattle.std.specs.Option.{option_or}
use Rattle.std.proofs.lemmas.List.{drop-map, take-map, take_all}
use Rattle.std.proofs.lemmas.Simd.{map-map}
use Rattle.blockspec.specs.UnitTree.{FoundUnit}
use Rattle.mdblock.specs.FoundLists.{found_unit}
use Rattle.mdblock.specs.Seams.{ListSeam}
use Rattle.mdsource.specs.LabelTable.{table_of}
use Rattle.mdview.specs.HeldUnit.{unit_in}
use Rattle.mdview.specs.LabelTargets.{at, definitions_by, target_held}
use Rattle.mdsource.specs.Preludes.{target_beside}
use Rattle.mdview.specs.ToldLabels.{labels_by, told, told_by, touched_by}
use Rattle.mdview.specs.UnitsFound.{IsHeldOn, found_in}
use Rattle.mdview.proofs.KeptLists.{defined_with, defines_none}
use Rattle.mdview.proofs.NearRead.{if_some}
use Rattle.mdview.proofs.LedByUnits.{edit_leads, elsewhere_then, units_cut}
use Rattle.mdview.proofs.labels.changes.LabelChanges.of.Goals as goal

pub returns-clause-led : goal.returns-clause-led
unfolding found_in
returns-clause-led c = λ q.
    let held = c.args.held.now in
    let units = held.units.now.items in
    let first = c.args.reparsed.now.first in
    let next = c.args.reparsed.now.next in
    let front = map unit_in (take first units) in
    let gone = map unit_in (take (next - first) (drop first units)) in
    let found = map (λ one. one.unit) c.args.reparsed.now.found.items in
    let all = map (λ one. one.unit) (found_in c.args.reparsed.now) in
    let none = if_some c.args.reparsed.now.list (λ (s : ListSeam) (w : IsHeldOn units c.args.reparsed.now s). defines_none s w.stays w.fits.0) c.requires.list in
    let back = map unit_in (drop next units) in
    let from_front : take (first - 0) (drop 0 units) ≡ take first units = let n : first - 0 ≡ first = omega arith in ap (λ n. take n units) n in
    let touched_gone : told c.touch_held.new.self q ≡ touched_by (labels_by gone) q None = c.in_ok-touch_held.ensures q ∙ ap (touched_by (labels_by gone) q) (c.new-touched.ensures q) in
    let touched : told c.touch_found.new.self q ≡ touched_by (labels_by found) q (touched_by (labels_by gone) q None) =
    c.in_ok-touch_found.ensures q ∙ ap (λ found. touched_by (labels_by (map (λ one. one.unit) found)) q (told c.touch_held.new.self q)) c.deref.ensures.value
    ∙ ap (touched_by (labels_by found) q) touched_gone in
    let seen : told c.define_all.new.self q
    ≡ told_by (definitions_by (front ++ map (λ one. one.unit) c.deref-2.result.now ++ map unit_in (take (length units - next) (drop next units)))) q (told c.touch_found.new.self q) =
    c.in_ok-define_all.ensures q
    ∙ ap (λ front. told_by (definitions_by (map unit_in front ++ map (λ one. one.unit) c.deref-2.result.now ++ map unit_in (take (length units - next) (drop next units)))) q (told c.touch_found.new.self q)) from_front in
    let to_end : take (length units - next) (drop next units) ≡ drop next units = take_all (length units - next) (drop next units) (omega (arith, length-drop next units)) in
    let is : told c.define_all.new.self q ≡ told_by (definitions_by (front ++ found ++ back)) q (touched_by (labels_by found) q (touched_by (labels_by gone) q None)) =
    seen ∙ ap (λ back. told_by (definitions_by (front ++ map (λ one. one.unit) c.deref-2.result.now ++ map unit_in back)) q (told c.touch_found.new.self q)) to_end
    ∙ ap (λ found. told_by (definitions_by (front ++ map (λ one. one.unit) found ++ back)) q (told c.touch_found.new.self q)) c.deref-2.ensures.value
    ∙ ap (told_by (definitions_by (front ++ found ++ back)) q) touched in
    let before = c.args.held.now.led q ∙ ap (λ us. option_or (table_of (definitions_by us) q) (target_beside held.prelude.now q)) (units_cut unit_in units first next c.requires.first) in
    edit_leads front gone found back q (at q c.in_ok-changed.field-0.entries) (told c.define_all.new.self q) (target_held held.labels.now q) (target_beside held.prelude.now q) is (c.in_ok-changed.ensures q) before
    ∙ ap (λ ds. option_or (table_of ds q) (target_beside held.prelude.now q)) (sym (defined_with front c.args.reparsed.now.found.items c.args.reparsed.now.list back none))
    ∙ ap (λ us. option_or (table_of (definitions_by (us ++ all ++ back)) q) (target_beside held.prelude.now q)) (sym (take-map unit_in first units))
    ∙ ap (λ us. option_or (table_of (definitions_by (take first (map unit_in units) ++ all ++ us)) q) (target_beside held.prelude.now q)) (sym (drop-map unit_in next units))
    ∙ ap (λ us. option_or (table_of (definitions_by (take first (map unit_in units) ++ us ++ drop next (map unit_in units))) q) (target_beside held.prelude.now q))
    (sym (map-map (λ (one : FoundUnit). one.unit) found_unit (found_in c.args.reparsed.now)))

pub returns-clause-elsewhere : goal.returns-clause-elsewhere
returns-clause-elsewhere c = λ q.
    let held = c.args.held.now in
    elsewhere_then (at q c.in_ok-changed.field-0.entries) (target_held held.labels.now q) (told c.define_all.new.self q) (target_beside held.prelude.now q) (c.in_ok-changed.ensures q)
