use Rattle.std.proofs.Common.{◌∙◌}
use Rattle.mdhtml.proofs.InsetLists.{around_html, around_ends}
use Rattle.mdhtml.proofs.lists.inset_lists.append_inset_anew.Goals as goal

pub returns-clause-html : goal.returns-clause-html
returns-clause-html c = λ _.
    c.in_ok-write_around.ensures.html
    ∙ around_html c.args.options.now c.args.like.now.front c.args.texts.now c.args.like.now.texts.now c.requires.room c.in-Some.other
    (record { items = c.args.items; front = c.args.front; later = c.args.later }) _ c.in-Some.ensures c.requires.order c.requires.before c.requires.behind

pub returns-clause-ends : goal.returns-clause-ends
returns-clause-ends c = λ _.
    c.in_ok-write_around.ensures.ends
    ∙ around_ends c.args.options.now c.args.like.now.front c.args.texts.now c.args.like.now.texts.now c.requires.room c.in-Some.other
    (record { items = c.args.items; front = c.args.front; later = c.args.later }) _ c.in-Some.ensures c.requires.order c.requires.before c.requires.behind
