use Rattle.std.proofs.Common.{◌≡◌, ◌≤◌, ◌∷◌, [], ap, ◌∙◌, ◌++◌, List, arith, length, length-append, reverse, string_bytes, take}
use Rattle.inlinespec.specs.InlineEvents.{written}
use Rattle.mdinline.specs.TreeView.{inline_view, inlines_view}
use Rattle.mdinline.specs.held.OpenRows.{innermost, open_span, row_events, spread}
use Rattle.mdinline.specs.held.TreeTakings.{takes_leave}
use Rattle.mdinline.specs.declared.inlines.Inline.{Inline}
use Rattle.mdinline.proofs.BuiltRows.{left}
use Rattle.mdinline.proofs.JoinedRows.{span_apart, span_ended}
use Rattle.mdinline.proofs.NestedRows.{nested_leave, nested_left}
use Rattle.mdinline.proofs.trees.TreeBuilderInlineSink.leave.Goals as goal

pub take_inside-requires : goal.take_inside-requires
take_inside-requires c =
    let s = c.args.self.now in
    (nested_leave s.frames.items c.pop.new.self.items c.in-Some.frame (length s.row.items) c.in-Some.ensures.items s.nested).0

pub invariant_of-self-2 : goal.invariant_of-self-2
invariant_of-self-2 c =
    let s = c.args.self.now in
    let frame = c.in-Some.frame in
    let row = c.push.new.self in
    let longer : frame.begin ≤ length row.items = omega (arith, c.take_inside.ensures.kept, c.push.ensures.lower_bound, c.take_inside.new.row.ok.0, row.ok.0) in
    record { nested = nested_left s.frames.items c.pop.new.self.items frame (length row.items) (length s.row.items) c.in-Some.ensures.items longer s.nested }

pub returns : goal.returns
returns c =
    let s = c.args.self.now in
    let frame = c.in-Some.frame in
    let popped = c.pop.new.self.items in
    let row = c.push.new.self.items in
    let span = c.span_of.result in
    let frames = c.in-Some.ensures.items in
    let taken = c.in_ok-inside.ensures in
    let pushed : row ≡ take frame.begin s.row.items ++ span ∷ [] = c.in_ok-push.ensures.items ∙ ap (λ (is : List Inline). is ++ span ∷ []) taken.row in
    takes_leave s _
    (ap (λ t. (spread (reverse popped) row ++ row_events (innermost (reverse popped) row)) ++ written t) taken.text
    ∙ left s.frames.items popped frame s.row.items row c.in_ok-inside.inside.items taken.inside.tail span (string_bytes s.text) s.nested frames pushed taken.inside.row_is
    taken.inside.text.events c.span_of.ensures.events)
    (ap length frames ∙ length-append popped (frame ∷ []))
    (span_ended s.frames.items popped frame s.row.items row c.in_ok-inside.inside.items taken.inside.tail span (string_bytes s.text) s.nested frames pushed taken.inside.row_is taken.inside.text
    (span_apart (inline_view span) (open_span frame.span) (inlines_view c.in_ok-inside.inside.items) c.span_of.ensures.view))
