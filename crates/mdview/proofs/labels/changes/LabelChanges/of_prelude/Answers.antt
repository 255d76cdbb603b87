use Rattle.std.proofs.Common.{◌≡◌, ◌∙◌, ◌-◌, ◌++◌, [], None, List, ap, arith, drop, length, map, take}
use Rattle.std.proofs.lemmas.List.{append-nil, take_all}
use Rattle.mdview.specs.HeldUnit.{HeldUnit, unit_in}
use Rattle.mdview.specs.LabelTargets.{at, definitions_by, target_held}
use Rattle.mdsource.specs.Preludes.{target_beside}
use Rattle.mdview.specs.ToldLabels.{told, told_by, touched_by}
use Rattle.mdview.proofs.LedByUnits.{elsewhere_then, prelude_leads}
use Rattle.mdview.proofs.labels.changes.LabelChanges.of_prelude.Goals as goal

pub returns-clause-led : goal.returns-clause-led
returns-clause-led c = λ q.
    let held = c.args.held.now in
    let us : List HeldUnit = held.units.now.items in
    let units = map unit_in us in
    let all : (take (c.len-all.result - 0) (drop 0 us) ≡ us) × (take (length us - c.len-all.result) (drop c.len-all.result us) ≡ []) =
    let front : c.len-all.result - 0 ≡ length us = omega (arith, c.len-all.ensures) in
    let back : length us - c.len-all.result ≡ 0 = omega (arith, c.len-all.ensures) in
    (ap (λ n. take n us) front ∙ take_all (length us) us (omega arith), ap (λ n. take n (drop c.len-all.result us)) back) in
    let olds = map (λ e. e.0) held.prelude.now.labels in
    let news = map (λ e. e.0) c.args.prelude.now.labels in
    let touched_old : told c.touch_prelude.new.self q ≡ touched_by olds q None = c.in_ok-touch_prelude.ensures q ∙ ap (touched_by olds q) (c.new-touched.ensures q) in
    let touched : told c.touch_prelude-2.new.self q ≡ touched_by news q (touched_by olds q None) = c.in_ok-touch_prelude-2.ensures q ∙ ap (touched_by news q) touched_old in
    let is : told c.define_all.new.self q ≡ told_by (definitions_by units) q (touched_by news q (touched_by olds q None)) =
    c.in_ok-define_all.ensures q
    ∙ ap (λ front. told_by (definitions_by (map unit_in front ++ [] ++ map unit_in (take (length us - c.len-all.result) (drop c.len-all.result us)))) q (told c.touch_prelude-2.new.self q)) all.0
    ∙ ap (λ back. told_by (definitions_by (units ++ [] ++ map unit_in back)) q (told c.touch_prelude-2.new.self q)) all.1
    ∙ ap (λ us. told_by (definitions_by us) q (told c.touch_prelude-2.new.self q)) (append-nil (units ++ []) ∙ append-nil units)
    ∙ ap (told_by (definitions_by units) q) touched in
    prelude_leads (definitions_by units) held.prelude.now.labels c.args.prelude.now.labels q (at q c.in_ok-changed.field-0.entries) (told c.define_all.new.self q) (target_held held.labels.now q)
    is (c.in_ok-changed.ensures q) (c.args.held.now.led q)

pub returns-clause-elsewhere : goal.returns-clause-elsewhere
returns-clause-elsewhere c = λ q.
    let held = c.args.held.now in
    elsewhere_then (at q c.in_ok-changed.field-0.entries) (target_held held.labels.now q) (told c.define_all.new.self q) (target_beside c.args.prelude.now q) (c.in_ok-changed.ensures q)
