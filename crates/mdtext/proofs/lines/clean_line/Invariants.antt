use denote.Shadow.{shadow}
use denote.Text.{Utf8}
use Rattle.std.proofs.Common.{◌≡◌, ◌++◌, length, string_bytes}
use Rattle.mdtext.specs.Lines.{without_nul}
use Rattle.mdtext.proofs.lines.clean_line.Given as goal

abbrev pub invariant-loop-clean : goal.invariant-loop-clean
invariant-loop-clean l = record {
  text : shadow (Utf8 l.rest);
  written : string_bytes l.clean ++ without_nul l.rest ≡ without_nul l.line;
}

abbrev pub decreases-loop-clean : goal.decreases-loop-clean
decreases-loop-clean l = length l.rest
