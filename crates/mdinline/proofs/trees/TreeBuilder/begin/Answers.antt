use Rattle.std.proofs.Common.{ap, ◌∙◌, ◌++◌, reverse}
use Rattle.inlinespec.specs.InlineEvents.{written}
use Rattle.mdinline.specs.held.OpenRows.{innermost, row_events, spread}
use Rattle.mdinline.specs.held.TreeBuilding.{built}
use Rattle.mdinline.specs.declared.trees.Frame.{Frame}
use Rattle.mdinline.proofs.BuiltRows.{built_rows, entered}
use Rattle.mdinline.proofs.JoinedRows.{span_begun}
use Rattle.mdinline.proofs.trees.TreeBuilder.begin.Goals as goal

pub returns-clause-events : goal.returns-clause-events
returns-clause-events c =
    let s = c.end_text.new.self in
    let all = built c.args.self.now in
    let frame : Frame = record { span = c.args.span; begin = c.len-begin.result } in
    let frames = reverse c.push.new.self.items in
    let now = c.in_ok-end_text.ensures in
    ap (λ t. (spread frames s.row.items ++ row_events (innermost frames s.row.items)) ++ written t) now.text
    ∙ entered s.frames.items c.push.new.self.items frame s.row.items all c.in_ok-push.ensures.items (c.len-begin.ensures ∙ s.row.ok.0) (built_rows s all now.text now.events)

pub returns-clause-joined : goal.returns-clause-joined
returns-clause-joined c = λ h.
    let s = c.end_text.new.self in
    let frame : Frame = record { span = c.args.span; begin = c.len-begin.result } in
    span_begun s.frames.items c.push.new.self.items frame s.row.items c.in_ok-push.ensures.items (c.len-begin.ensures ∙ s.row.ok.0) (c.in_ok-end_text.ensures.joined h)
