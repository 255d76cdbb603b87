use Rattle.std.proofs.Common.{◌≡◌, map, ap, ◌∙◌}
use Rattle.mdsource.specs.Calls.{Call, edit, set_prelude}
use Rattle.mdtool.proofs.EditReplies.{edit_replied}
use Rattle.mdtool.proofs.serving.ReplyFormReplier.reply_to.Goals as goal

pub returns-in_ok-lines-in-Edit : goal.returns-in_ok-lines-in-Edit
returns-in_ok-lines-in-Edit c =
    let texts : map (λ line. line.now) c.deref-in-Edit.result.now ≡ c.in-Edit.add = ap (map (λ line. line.now)) c.deref-in-Edit.ensures.value ∙ c.in_ok-lines-in-Edit.ensures in
    let call : Call = edit c.in-Edit.at c.in-Edit.del c.in-Edit.add in
    rw c.in-Edit.is (edit_replied c.edit_reply-in-Edit.result c.args.self.now c.args.preview.now c.edit-answer.new.self call c.edit-answer.result _ c.len-before.ensures (rw texts at c.edit-answer.ensures.outcome) c.edit_reply-in-Edit.ensures)

pub returns-in_ok-lines-in-Prelude : goal.returns-in_ok-lines-in-Prelude
returns-in_ok-lines-in-Prelude c =
    let texts : map (λ line. line.now) c.deref.result.now ≡ c.in-Prelude.lines = ap (map (λ line. line.now)) c.deref.ensures.value ∙ c.in_ok-lines-in-Prelude.ensures in
    let call : Call = set_prelude c.in-Prelude.lines in
    rw c.in-Prelude.is (edit_replied c.edit_reply.result c.args.self.now c.args.preview.now c.set_prelude-answer.new.self call c.set_prelude-answer.result _ c.len-before.ensures (rw texts at c.set_prelude-answer.ensures.outcome) c.edit_reply.ensures)
