use Rattle.std.proofs.Common.{◌≡◌, ◌+◌, ◌++◌, length, string_bytes}
use Rattle.blockspec.specs.BlockUnits.{begins}
use Rattle.mdsource.specs.Patch.{brought}
use Rattle.mdview.specs.Document.{pieces_of}
use Rattle.mdtool.specs.Replies.{moved_line, patch_line, pieces_reply}
use Rattle.mdtool.proofs.replies.accepted_reply.Given as goal

-- the pieces up to this one are told
abbrev pub invariant-loop-number : goal.invariant-loop-number
invariant-loop-number l =
    string_bytes l.reply ++ pieces_reply l.form (begins l.preview.entities l.preview.lines) l.number-iterator
    ≡ patch_line l.patch ++ moved_line l.form (l.patch.first + l.patch.added) l.before (length l.preview.lines) ++ pieces_reply l.form (begins l.preview.entities l.preview.lines) (brought l.patch 0 (pieces_of l.preview))
