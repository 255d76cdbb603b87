-- The pieces of a text from left to right, before its delimiter runs are paired.
use Rattle.std.specs.Prelude.{ℕ, Bool, true, false, List, codes}
use Rattle.mdpair.specs.declared.delimiter_runs.DelimiterRun.{DelimiterRun}
use Rattle.inlinespec.specs.InlineEvents.{Event, written}

-- A piece is made already (told with it: whether a link that brackets made lies in it), or a delimiter run, or an opening bracket (told with it:
-- where the text behind it begins).
pub data Piece : Type 0 where
  Made : (has_link : Bool) → List Event → Piece
  Run : DelimiterRun → Piece
  Opening : (image : Bool) → (begin : ℕ) → Piece

-- an opening bracket as text
abbrev pub bracket_text : (image : Bool) → List Event
bracket_text true = written (codes "![")
bracket_text false = written (codes "[")
