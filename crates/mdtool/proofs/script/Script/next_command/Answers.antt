use Rattle.std.proofs.Common.{◌≡◌, ◌+◌, ◌∷◌, [], sym, ap, ◌∙◌, refl, Some}
use Rattle.std.proofs.lemmas.Result.{err_from_is_err_and}
use Rattle.mdsource.specs.Calls.{edit, set_prelude}
use Rattle.mdtool.specs.Commands.{capped, head_of}
use Rattle.mdtool.specs.Pending.{Pending, Reads}
use Rattle.mdtool.specs.declared.command.Header.{Header}
use Rattle.mdtool.specs.Views.{head_view}
use Rattle.mdtool.proofs.CommandReading.{over_stops, head_read, head_number, bad_stops, html_read, texts_read, texts_stop, fails_first}
use Rattle.mdtool.proofs.script.Script.next_command.Given.{Over}
use Rattle.mdtool.proofs.script.Script.next_command.Goals.{After-use_line, In-Some-head}
use Rattle.mdtool.proofs.script.Script.next_command.Goals as goal

-- the line of the head
line_read : (g : Over) (c : After-use_line g)
    → Reads (g.R.Feed.left c.args.feed.now) c.args.self.now (c.front.result.now ∷ []) (g.R.Feed.left c.find_line.new.feed) c.use_line.new.self
line_read g c =
    let found = rw c.in-Some.is at c.in_ok-len.ensures.steps in
    head_read _ _ _ _ _ _ c.front.result.now found.0 found.1 c.use_line.ensures c.front.ensures

-- its number, as it is held then
line_number : (g : Over) (c : After-use_line g) (now : Pending) → now ≡ c.use_line.new.self → now.lines ≡ capped (c.args.self.now.lines + 1)
line_number g c now is =
    let found = rw c.in-Some.is at c.in_ok-len.ensures.steps in
    head_number _ _ _ _ _ _ found.0 (is ∙ c.use_line.ensures)

-- the head that it has
line_head : (g : Over) (c : In-Some-head g) (head : Header) → c.in-Some-head.head ≡ head → head_of c.front.result.now ≡ Some (head_view head)
line_head g c head is = sym c.in-Some-head.ensures ∙ ap (λ (h : Header). Some (head_view h)) is

pub returns-in_default-clause-next : goal.returns-in_default-clause-next
returns-in_default-clause-next g c =
    let found = rw c.in_default.is at c.in_ok-len.ensures.steps in
    over_stops _ _ _ _ _ found.0 found.1

pub returns-in_err-len-clause-next : goal.returns-in_err-len-clause-next
returns-in_err-len-clause-next g c =
    let p = err_from_is_err_and c.from_residual.result c.from_residual.ensures.1 in
    rw (p.1, p.2) (fails_first c.in_err-len.field-0.0 _ _ _ _ _ _ _ (λ r. over_stops _ _ _ _ _ r.0 r.1) (λ d. d) c.in_err-len.ensures.steps)

pub returns-in_default-head-clause-next : goal.returns-in_default-head-clause-next
returns-in_default-head-clause-next g c =
    let at = (goal.at.returns-in_default-head-clause-next g c).After-use_line in
    bad_stops _ _ _ _ _ _ (line_read g at) (sym c.in_default-head.ensures) (line_number g at _ c.self.view_is)

pub returns-in_err-add-in-Edit-clause-next : goal.returns-in_err-add-in-Edit-clause-next
returns-in_err-add-in-Edit-clause-next g c =
    let at = goal.at.returns-in_err-add-in-Edit-clause-next g c in
    let p = err_from_is_err_and c.from_residual-in_err-add-in-Edit.result c.from_residual-in_err-add-in-Edit.ensures.1 in
    rw (p.1, p.2) (texts_stop c.in_err-add-in-Edit.field-0.0 _ _ _ _ _ _ _ _ (edit c.in-Edit.at c.in-Edit.del) _ _
    (line_read g at.After-use_line) (line_head g at.In-Some-head _ c.in-Edit.is) (λ _. refl) (line_number g at.After-use_line _ c.self.view_is) c.in_err-add-in-Edit.ensures.texts)

pub returns-in_ok-add-in-Edit-clause-next : goal.returns-in_ok-add-in-Edit-clause-next
returns-in_ok-add-in-Edit-clause-next g c =
    let at = goal.at.returns-in_ok-add-in-Edit-clause-next g c in
    texts_read _ _ _ _ _ _ _ _ (edit c.in-Edit.at c.in-Edit.del) _ _
    (line_read g at.After-use_line) (line_head g at.In-Some-head _ c.in-Edit.is) (λ _. refl) c.in_ok-add-in-Edit.ensures.texts

pub returns-in-Html-clause-next : goal.returns-in-Html-clause-next
returns-in-Html-clause-next g c =
    let at = goal.at.returns-in-Html-clause-next g c in
    html_read _ _ _ _ _ (line_read g at.After-use_line) (line_head g at.In-Some-head _ c.in-Html.is)

pub returns-in_err-lines-in-Prelude-clause-next : goal.returns-in_err-lines-in-Prelude-clause-next
returns-in_err-lines-in-Prelude-clause-next g c =
    let at = goal.at.returns-in_err-lines-in-Prelude-clause-next g c in
    let p = err_from_is_err_and c.from_residual-in_err-lines-in-Prelude.result c.from_residual-in_err-lines-in-Prelude.ensures.1 in
    rw (p.1, p.2) (texts_stop c.in_err-lines-in-Prelude.field-0.0 _ _ _ _ _ _ _ _ set_prelude _ _
    (line_read g at.After-use_line) (line_head g at.In-Some-head _ c.in-Prelude.is) (λ _. refl) (line_number g at.After-use_line _ c.self.view_is) c.in_err-lines-in-Prelude.ensures.texts)

pub returns-in_ok-lines-in-Prelude-clause-next : goal.returns-in_ok-lines-in-Prelude-clause-next
returns-in_ok-lines-in-Prelude-clause-next g c =
    let at = goal.at.returns-in_ok-lines-in-Prelude-clause-next g c in
    texts_read _ _ _ _ _ _ _ _ set_prelude _ _
    (line_read g at.After-use_line) (line_head g at.In-Some-head _ c.in-Prelude.is) (λ _. refl) c.in_ok-lines-in-Prelude.ensures.texts
