use Rattle.std.proofs.Common.{◌≡◌, ◌≤◌, ◌∙◌, ◌++◌, length, ap, sym, string_bytes, arith}
use Rattle.mdblock.specs.BlockView.{kind_view}
use Rattle.mdhtml.specs.held.KeptItems.{list_begins}
use Rattle.htmlspec.specs.BlockHtml.{list_close, texts_html}
use Rattle.mdhtml.proofs.KeptItems.{MadeAround, made_around}
use Rattle.mdhtml.proofs.ItemsTogether.{like_ends_count}
use Rattle.mdhtml.proofs.lists.kept_items.append_between.Goals.{After-begin_list, In_ok-reserve-in-Some-2}
use Rattle.mdhtml.proofs.lists.kept_items.append_between.Goals as goal

ends_counted : (c : After-begin_list) → length c.args.like.now.ends.now ≡ length c.args.other.now.items.now
ends_counted c =
    let other = c.args.other.now in
    ap length c.requires.like_ends
    ∙ like_ends_count c.args.options.now (texts_html c.args.options.now c.args.like.now.texts.now) other.tight other.items.now (list_begins (kind_view other.kind))

front_within : (c : After-begin_list) → c.args.between.now.front ≤ length c.args.like.now.ends.now
front_within c = let n = ends_counted c in let h = c.requires.front in omega (arith, n, h)

later_within : (c : After-begin_list) → c.args.between.now.later ≤ length c.args.like.now.ends.now
later_within c = let n = ends_counted c in let h = c.requires.later in omega (arith, n, h)

made : (c : In_ok-reserve-in-Some-2)
    → MadeAround c.args.options.now c.args.texts.now c.args.like.now.texts.now c.args.other.now c.args.between.now c.args.like.now c.in-Some.kept (string_bytes c.reserve-in-Some.new.self)
made c =
    let stays = c.in_ok-reserve-in-Some-2.ensures.bytes in
    made_around c.args.options.now c.args.texts.now c.args.like.now.texts.now c.args.other.now c.args.between.now c.requires.front c.requires.later c.args.like.now c.in-Some.kept c.len.result
    (string_bytes c.args.out.now) (string_bytes c.reserve-in-Some.new.self) c.requires.no_text (c.len.ensures ∙ c.begin_list.new.out.bytes.ok.0 ∙ ap length (sym stays)) (stays ∙ c.in_ok-begin_list.ensures)
    c.requires.like_html c.requires.like_ends c.in-Some.ensures

pub kept_html-requires-clause-front : goal.kept_html-requires-clause-front
kept_html-requires-clause-front c = front_within (goal.at.kept_html-requires-clause-front c).After-begin_list

pub kept_html-requires-clause-tail : goal.kept_html-requires-clause-tail
kept_html-requires-clause-tail c = later_within (goal.at.kept_html-requires-clause-tail c).After-begin_list

pub append_kept-requires-clause-front : goal.append_kept-requires-clause-front
append_kept-requires-clause-front c = front_within (goal.at.append_kept-requires-clause-front c).After-begin_list

pub append_kept-requires-clause-later : goal.append_kept-requires-clause-later
append_kept-requires-clause-later c = later_within (goal.at.append_kept-requires-clause-later c).After-begin_list

pub append_kept-requires-clause-tail : goal.append_kept-requires-clause-tail
append_kept-requires-clause-tail c = (made (goal.at.append_kept-requires-clause-tail c).In_ok-reserve-in-Some-2).tail

pub returns-in_ok-close_list-in-Some-clause-html : goal.returns-in_ok-close_list-in-Some-clause-html
returns-in_ok-close_list-in-Some-clause-html c = λ _.
    let m = made (goal.at.returns-in_ok-close_list-in-Some-clause-html c).In_ok-reserve-in-Some-2 in
    c.in_ok-close_list-in-Some.ensures ∙ ap (λ z. z ++ list_close (kind_view c.args.other.now.kind)) (c.in_ok-append_kept-in-Some.ensures.html ∙ m.html)

pub returns-in_ok-close_list-in-Some-clause-ends : goal.returns-in_ok-close_list-in-Some-clause-ends
returns-in_ok-close_list-in-Some-clause-ends c = λ _.
    let m = made (goal.at.returns-in_ok-close_list-in-Some-clause-ends c).In_ok-reserve-in-Some-2 in
    c.in_ok-append_kept-in-Some.ensures.ends ∙ m.ends
