use Rattle.std.proofs.Common.{Some, None, ap, is_some, option_map, sym}
use Rattle.inlinespec.specs.LabelMap.{target_of}
use Rattle.mdview.proofs.Elsewhere.{set_leads, set_leaves}
use Rattle.mdview.proofs.held.labels.HeldLabels.set.Goals as goal

pub returns-in-None-clause-led : goal.returns-in-None-clause-led
returns-in-None-clause-led c = λ q.
    set_leads c.args.self.now.targets.entries c.remove.new.self.entries c.args.label.now q c.args.target None (ap (option_map target_of) (sym c.in-None.is)) (c.remove.ensures.updates.0 q)

pub returns-in-None-clause-room : goal.returns-in-None-clause-room
returns-in-None-clause-room c = λ q. set_leaves c.args.self.now.targets.entries c.remove.new.self.entries c.args.label.now q None (c.remove.ensures.updates.0 q)

pub returns-in-Some-get_mut-clause-led : goal.returns-in-Some-get_mut-clause-led
returns-in-Some-get_mut-clause-led c = λ q.
    let w = Some c.in-Some.field-0 in
    set_leads c.args.self.now.targets.entries (c.get_mut.follows.lender w).entries c.args.label.now q c.args.target (Some w) (ap (option_map target_of) (sym c.in-Some.is))
    (((c.get_mut.follows.holds w).3 (ap is_some (sym c.in-Some-get_mut.ensures.value))).0 q)

pub returns-in-Some-get_mut-clause-room : goal.returns-in-Some-get_mut-clause-room
returns-in-Some-get_mut-clause-room c = λ q.
    let w = Some c.in-Some.field-0 in
    set_leaves c.args.self.now.targets.entries (c.get_mut.follows.lender w).entries c.args.label.now q (Some w)
    (((c.get_mut.follows.holds w).3 (ap is_some (sym c.in-Some-get_mut.ensures.value))).0 q)
