use Rattle.std.proofs.Common.{ap, ◌∙◌, ◌++◌, reverse}
use Rattle.inlinespec.specs.InlineEvents.{written}
use Rattle.mdinline.specs.held.OpenRows.{innermost, row_events, spread}
use Rattle.mdinline.specs.held.TreeBuilding.{built}
use Rattle.mdinline.proofs.BuiltRows.{added, built_rows}
use Rattle.mdinline.proofs.JoinedRows.{inline_more}
use Rattle.mdinline.proofs.trees.TreeBuilder.add.Goals as goal

pub returns-clause-events : goal.returns-clause-events
returns-clause-events c =
    let s = c.end_text.new.self in
    let all = built c.args.self.now in
    let frames = reverse s.frames.items in
    let row = c.push.new.self.items in
    let now = c.in_ok-end_text.ensures in
    ap (λ t. (spread frames row ++ row_events (innermost frames row)) ++ written t) now.text
    ∙ added frames s.row.items row c.args.inline all s.nested c.in_ok-push.ensures.items (built_rows s all now.text now.events)

pub returns-clause-joined : goal.returns-clause-joined
returns-clause-joined c = λ apart h.
    let s = c.end_text.new.self in
    inline_more (reverse s.frames.items) s.row.items c.push.new.self.items c.args.inline s.nested c.in_ok-push.ensures.items apart (c.in_ok-end_text.ensures.joined h)
