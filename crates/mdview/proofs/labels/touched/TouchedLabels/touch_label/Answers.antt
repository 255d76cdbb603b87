use Rattle.std.proofs.Common.{◌∙◌, Some, None, ap, cond, sym}
use Rattle.std.specs.BTreeMap.{is_at}
use Rattle.std.specs.Cmp.Lexicographic.{slice_cmp}
use Rattle.std.specs.Ordering.{nat_cmp}
use Rattle.mdview.specs.LabelTargets.{at}
use Rattle.mdview.proofs.ToldLaws.{touched_first}
use Rattle.mdview.proofs.labels.touched.TouchedLabels.touch_label.Goals as goal

pub returns-in_ok-insert : goal.returns-in_ok-insert
returns-in_ok-insert c = λ q.
    let old = c.args.self.now.targets.entries in
    let new = c.insert.new.self.entries in
    let put = c.in_ok-insert.ensures.updates.0 q ∙ ap (λ key. cond (is_at (slice_cmp nat_cmp key) q) (Some None) (at q old)) c.in_ok-copy.ensures in
    touched_first old new c.args.label.now q (sym c.contains_key.ensures ∙ c.if-not-contains_key.true) put
