use Rattle.std.proofs.Common.{ap, sym, ◌∙◌}
use Rattle.mdscan.specs.Blanks.{begins_with}
use Rattle.mdblock.proofs.FirstBytes.{quote_first, heading_first, html_first, fence_or_none, none_first}
use Rattle.mdblock.specs.held.StartKind.{mode_view}
use Rattle.mdblock.proofs.block_starts.before_underline.Goals as goal

pub returns-then-begins-clause-kind : goal.returns-then-begins-clause-kind
returns-then-begins-clause-kind c =
    let first = ap (begins_with 62) (sym c.text-text.ensures) ∙ sym c.begins.ensures ∙ c.if-begins.true in
    sym (quote_first (mode_view c.args.mode) c.args.line.now first)

pub returns-then-begins-2-clause-kind : goal.returns-then-begins-2-clause-kind
returns-then-begins-2-clause-kind c =
    let first = ap (begins_with 35) (sym c.text-text.ensures) ∙ sym c.begins-2.ensures ∙ c.if-begins-2.true in
    c.heading.ensures.kind ∙ sym (heading_first (mode_view c.args.mode) c.args.line.now first)

pub returns-then-begins-3-clause-kind : goal.returns-then-begins-3-clause-kind
returns-then-begins-3-clause-kind c =
    let first = ap (begins_with 60) (sym c.text-text.ensures) ∙ sym c.begins-3.ensures ∙ c.if-begins-3.true in
    c.html.ensures.kind ∙ sym (html_first (mode_view c.args.mode) c.args.line.now first)

pub returns-then-begins-4-clause-kind : goal.returns-then-begins-4-clause-kind
returns-then-begins-4-clause-kind c =
    let q = ap (begins_with 62) (sym c.text-text.ensures) ∙ sym c.begins.ensures ∙ c.if-begins.false in
    let a = ap (begins_with 35) (sym c.text-text.ensures) ∙ sym c.begins-2.ensures ∙ c.if-begins-2.false in
    let h = ap (begins_with 60) (sym c.text-text.ensures) ∙ sym c.begins-3.ensures ∙ c.if-begins-3.false in
    c.fenced_code.ensures.kind ∙ sym (fence_or_none (mode_view c.args.mode) c.args.line.now q a h)

pub returns-clause-kind : goal.returns-clause-kind
returns-clause-kind c =
    let q = ap (begins_with 62) (sym c.text-text.ensures) ∙ sym c.begins.ensures ∙ c.if-begins.false in
    let a = ap (begins_with 35) (sym c.text-text.ensures) ∙ sym c.begins-2.ensures ∙ c.if-begins-2.false in
    let h = ap (begins_with 60) (sym c.text-text.ensures) ∙ sym c.begins-3.ensures ∙ c.if-begins-3.false in
    let g = ap (begins_with 96) (sym c.text-text.ensures) ∙ sym c.begins-4.ensures ∙ c.if-begins-4.false in
    let f = ap (begins_with 126) (sym c.text-text.ensures) ∙ sym c.begins-else-begins-4.ensures ∙ c.if-begins-5.false in
    sym (none_first (mode_view c.args.mode) c.args.line.now q a h f g)
