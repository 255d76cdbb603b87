use Rattle.std.proofs.Common.{◌≡◌, ◌++◌, string_bytes}
use Rattle.std.specs.List.{concat}
use Rattle.mdview.specs.Document.{pieces_of}
use Rattle.mdtool.proofs.replies.push_pieces.Given as goal

abbrev pub invariant-loop-piece : goal.invariant-loop-piece
invariant-loop-piece l = string_bytes l.html ++ concat l.piece-iterator ≡ string_bytes l.fn.html ++ concat (pieces_of l.preview)
