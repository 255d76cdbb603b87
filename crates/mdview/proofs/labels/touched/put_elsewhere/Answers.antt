use Rattle.std.proofs.Common.{◌≡◌, ◌∙◌, ap, option_map, sym, true, false}
use Rattle.std.specs.Option.{option_copied}
use Rattle.inlinespec.specs.LabelMap.{target_of}
use Rattle.mdsource.specs.Changes.{is_same_target}
use Rattle.mdview.specs.LabelTargets.{target_held}
use Rattle.mdview.proofs.Elsewhere.{found_led, left_out, put_in}
use Rattle.mdview.proofs.labels.touched.put_elsewhere.Goals as goal

pub returns-in_ok-insert : goal.returns-in_ok-insert
returns-in_ok-insert c = λ q.
    let before = target_held c.args.held.now in
    let other : is_same_target (before c.args.label) (option_map target_of c.args.target) ≡ false =
    ap (λ o. is_same_target o (option_map target_of c.args.target)) (sym (found_led c.find.result (before c.args.label) c.find.ensures))
    ∙ sym (c.is_same.ensures ∙ ap (λ t. is_same_target (option_map target_of (option_copied c.find.result)) (option_map target_of t)) c.as_ref.ensures.value) ∙ c.if-not-is_same.true in
    put_in c.args.label q c.args.target before c.args.changed.now.entries c.insert.new.self.entries other (c.in_ok-insert.ensures.updates.0 q)

pub returns-else-not-is_same : goal.returns-else-not-is_same
returns-else-not-is_same c = λ q.
    let before = target_held c.args.held.now in
    let same : is_same_target (before c.args.label) (option_map target_of c.args.target) ≡ true =
    ap (λ o. is_same_target o (option_map target_of c.args.target)) (sym (found_led c.find.result (before c.args.label) c.find.ensures))
    ∙ sym (c.is_same.ensures ∙ ap (λ t. is_same_target (option_map target_of (option_copied c.find.result)) (option_map target_of t)) c.as_ref.ensures.value) ∙ c.if-not-is_same.false in
    left_out c.args.label q c.args.target before c.args.changed.now.entries same
