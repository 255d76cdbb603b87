use Rattle.std.proofs.Common.{◌≡◌, ◌++◌, length, string_bytes}
use denote.Shadow.{shadow}
use denote.Text.{Utf8}
use Rattle.mdtext.specs.HtmlEscapes.{escaped}
use Rattle.inlinespec.specs.CodeSpans.{as_one_line}
use Rattle.mdhtml.proofs.code_spans.write_as_one_line.Given as goal

abbrev pub invariant-loop-line : goal.invariant-loop-line
invariant-loop-line l = record {
  text : shadow (Utf8 l.rest);
  written : string_bytes l.out ++ escaped (as_one_line l.rest) ≡ string_bytes l.fn.out ++ escaped (as_one_line l.content);
}

abbrev pub decreases-loop-line : goal.decreases-loop-line
decreases-loop-line l = length l.rest
