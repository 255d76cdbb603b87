use Rattle.std.proofs.Common.{ap, ◌∙◌, ◌++◌, length, reverse, string_bytes}
use Rattle.inlinespec.specs.InlineEvents.{written}
use Rattle.mdinline.specs.held.OpenRows.{innermost, row_events, spread}
use Rattle.mdinline.proofs.BuiltRows.{text_ended}
use Rattle.mdinline.proofs.JoinedRows.{text_more}
use Rattle.mdinline.proofs.NestedRows.{nested_longer}
use Rattle.mdinline.proofs.trees.TreeBuilder.end_text.Goals as goal

pub invariant_of-self : goal.invariant_of-self
invariant_of-self c =
    let s = c.args.self.now in
    record { nested = nested_longer (reverse s.frames.items) (length s.row.items) (length c.push_text.new.row.items) c.push_text.ensures.kept s.nested }

pub returns-clause-events : goal.returns-clause-events
returns-clause-events c =
    let s = c.args.self.now in
    let frames = reverse s.frames.items in
    let row = c.push_text.new.row.items in
    let put = c.in_ok-push_text.ensures in
    ap (λ t. (spread frames row ++ row_events (innermost frames row)) ++ written t) put.text
    ∙ text_ended frames s.row.items row put.row.tail (string_bytes s.text) s.nested put.row.row_is put.row.text.events

pub returns-clause-joined : goal.returns-clause-joined
returns-clause-joined c = λ h.
    let s = c.args.self.now in
    let put = c.in_ok-push_text.ensures.row in
    text_more (reverse s.frames.items) s.row.items c.push_text.new.row.items put.tail (string_bytes s.text) s.nested put.row_is put.text h
