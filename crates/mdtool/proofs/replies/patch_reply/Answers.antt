use Rattle.std.proofs.Common.{ap, ◌∙◌, arith}
use Rattle.std.proofs.lemmas.Result.{IfOk-weaker}
use Rattle.mdtool.specs.Replies.{patch_line}
use Rattle.mdtool.proofs.PatchLine.{patch_printed}
use Rattle.mdtool.proofs.replies.patch_reply.Goals as goal

pub returns : goal.returns
returns c =
    let s = c.patch.inside in
    let printed = patch_printed (record { first = s.first; removed = s.removed; added = s.added; again = s.again.items }) c.len-again.result (omega (arith, c.len-again.ensures, s.again.ok.0)) in
    IfOk-weaker c.format.result _ _ (λ s' h. h ∙ printed ∙ ap patch_line c.patch.view_is) c.format.ensures.ok
