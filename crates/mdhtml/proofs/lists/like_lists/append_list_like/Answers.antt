use Rattle.std.proofs.Common.{◌-◌, ◌∙◌, ◌++◌, false, [], length, ap, sym}
use Rattle.std.proofs.lemmas.Result.{IfOk-weaker}
use Rattle.blockspec.specs.BlockTree.{list}
use Rattle.mdblock.specs.BlockView.{items_view, kind_view}
use Rattle.mdhtml.specs.held.KeptItems.{list_begins}
use Rattle.htmlspec.specs.BlockHtml.{block_html, list_close, texts_html}
use Rattle.htmlspec.specs.ListEnds.{item_ends}
use Rattle.mdhtml.proofs.LikeLists.{like_items_in, like_around, like_ends_around}
use Rattle.mdhtml.proofs.lists.like_lists.append_list_like.Goals as goal

pub append_between-requires-clause-within : goal.append_between-requires-clause-within
append_between-requires-clause-within c =
    let items = c.args.list.now.items.now in
    let same = c.same_ends-same.result in
    like_items_in (length c.args.texts.now) same.front (length items - same.behind - same.front) items c.requires.within

pub returns-clause-html : goal.returns-clause-html
returns-clause-html c =
    let o = c.args.options.now in
    let texts = c.args.texts.now in
    let list' = c.args.list.now in
    let other = c.args.other.now in
    let T = texts_html o texts in
    let is = items_view list'.items.now in
    IfOk-weaker c.append_between.result _ _
    (λ done html yes.
    html yes
    ∙ ap (λ z. z ++ list_close (kind_view other.kind))
    (like_around o texts c.args.like.now.texts.now list'.items.now other.items.now c.same_ends-same.result c.same_ends-same.ensures other.tight (list_begins (kind_view other.kind)))
    ∙ ap (λ z. block_html o T false (list z other.tight is) []) (sym c.requires.kind)
    ∙ ap (λ z. block_html o T false (list (kind_view list'.kind) z is) []) (sym c.requires.tight))
    c.append_between.ensures.html

pub returns-clause-ends : goal.returns-clause-ends
returns-clause-ends c =
    let o = c.args.options.now in
    let texts = c.args.texts.now in
    let list' = c.args.list.now in
    let other = c.args.other.now in
    let T = texts_html o texts in
    let is = items_view list'.items.now in
    IfOk-weaker c.append_between.result _ _
    (λ done ends yes.
    ends yes
    ∙ like_ends_around o texts c.args.like.now.texts.now list'.items.now other.items.now c.same_ends-same.result c.same_ends-same.ensures other.tight (list_begins (kind_view other.kind))
    ∙ ap (λ z. item_ends o T other.tight is (list_begins z)) (sym c.requires.kind)
    ∙ ap (λ z. item_ends o T z is (list_begins (kind_view list'.kind))) (sym c.requires.tight))
    c.append_between.ensures.ends
