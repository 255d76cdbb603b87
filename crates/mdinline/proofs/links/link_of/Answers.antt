use Rattle.std.proofs.Common.{◌+◌}
use Rattle.mdinline.proofs.Marks.{label_link, linked}
use Rattle.mdinline.proofs.links.link_of.Goals as goal

pub returns-in-Some-link_label-clause-end : goal.returns-in-Some-link_label-clause-end
returns-in-Some-link_label-clause-end g c =
    linked (λ r. r.end) c.look_up.result c.args.text.now (c.args.at + 1) (c.in-Some-link_label.span.end + 1)
    c.look_up.ensures.end (label_link c.args.text.now (c.args.at + 1) c.in-Some-link_label.span c.utf8.text c.in-Some-link_label.ensures.enclosed)

pub returns-in-Some-link_label-clause-goal : goal.returns-in-Some-link_label-clause-goal
returns-in-Some-link_label-clause-goal g c = c.look_up.ensures.goal c.args.text.now

pub returns-clause-goal : goal.returns-clause-goal
returns-clause-goal g c = c.look_up-2.ensures.goal c.args.text.now
