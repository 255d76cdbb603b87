use Rattle.std.proofs.Common.{◌∙◌}
use Rattle.std.proofs.lemmas.Result.{IfOk-weaker}
use Rattle.mdhtml.proofs.InsetLists.{around_html, around_ends}
use Rattle.mdhtml.proofs.lists.inset_lists.append_inset_list.Goals as goal

pub returns-clause-html : goal.returns-clause-html
returns-clause-html c =
    IfOk-weaker c.append_between.result _ _
    (λ done html yes. html yes ∙ around_html c.args.options.now c.args.like.now.front c.args.texts.now c.args.like.now.texts.now c.requires.room c.in-Some.other
    (record { items = c.args.items; front = c.args.front; later = c.args.later }) _ c.in-Some.ensures c.requires.order c.requires.before c.requires.behind)
    c.append_between.ensures.html

pub returns-clause-ends : goal.returns-clause-ends
returns-clause-ends c =
    IfOk-weaker c.append_between.result _ _
    (λ done ends yes. ends yes ∙ around_ends c.args.options.now c.args.like.now.front c.args.texts.now c.args.like.now.texts.now c.requires.room c.in-Some.other
    (record { items = c.args.items; front = c.args.front; later = c.args.later }) _ c.in-Some.ensures c.requires.order c.requires.before c.requires.behind)
    c.append_between.ensures.ends
