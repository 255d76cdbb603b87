use denote.Shadow.{shadow}
use denote.Text.{Utf8}
use Rattle.std.proofs.Common.{◌≡◌, ◌++◌, length, take, string_bytes}
use Rattle.mdtext.specs.HtmlEscapes.{escaped}
use Rattle.mdtext.proofs.html_escapes.append_escaped.Given as goal

abbrev pub invariant-loop-byte : goal.invariant-loop-byte
invariant-loop-byte l = record {
  text : shadow (Utf8 l.rest);
  written : string_bytes l.out ++ escaped l.rest ≡ string_bytes l.fn.out ++ escaped l.text;
  keeps : take (length (string_bytes l.fn.out)) (string_bytes l.out) ≡ string_bytes l.fn.out;
}

abbrev pub decreases-loop-byte : goal.decreases-loop-byte
decreases-loop-byte l = length l.rest
