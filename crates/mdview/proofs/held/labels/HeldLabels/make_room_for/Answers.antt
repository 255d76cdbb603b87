use Rattle.std.proofs.Common.{◌∙◌, Some, None, ap, cond, sym}
use Rattle.std.specs.BTreeMap.{insert_entry, is_at}
use Rattle.std.specs.Cmp.Lexicographic.{slice_cmp}
use Rattle.std.specs.Ordering.{nat_cmp}
use Rattle.mdview.specs.LabelTargets.{at, leading}
use Rattle.mdview.proofs.Elsewhere.{room_leads, room_made}
use Rattle.mdview.proofs.LedLabels.{room_leads_nowhere}
use Rattle.mdview.proofs.held.labels.HeldLabels.make_room_for.Goals as goal

pub returns-in_ok-insert : goal.returns-in_ok-insert
returns-in_ok-insert c =
    let old = c.args.self.now.targets.entries in
    record {
      led = ap leading c.in_ok-insert.ensures.entries
          ∙ ap (λ label. leading (insert_entry (slice_cmp nat_cmp) old label None)) c.in_ok-copy.ensures
          ∙ room_leads_nowhere c.args.label.now old (sym c.contains_key.ensures ∙ c.if-not-contains_key.true);
      room = λ q. room_made old c.insert.new.self.entries c.args.label.now q
          (c.in_ok-insert.ensures.updates.0 q ∙ ap (λ key. cond (is_at (slice_cmp nat_cmp key) q) (Some None) (at q old)) c.in_ok-copy.ensures);
      same = λ q. room_leads old c.insert.new.self.entries c.args.label.now q (sym c.contains_key.ensures ∙ c.if-not-contains_key.true)
          (c.in_ok-insert.ensures.updates.0 q ∙ ap (λ key. cond (is_at (slice_cmp nat_cmp key) q) (Some None) (at q old)) c.in_ok-copy.ensures);
    }
