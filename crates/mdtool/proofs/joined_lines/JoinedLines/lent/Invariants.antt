use Rattle.std.proofs.Common.{◌≡◌, ◌++◌, map, drop}
use denote.Text.{Utf8}
use denote.Shadow.{shadow}
use Rattle.std.specs.Str.{IsUtf8}
use Rattle.mdtool.specs.LineLengths.{AreLengths, cut}
use Rattle.mdtool.proofs.joined_lines.JoinedLines.lent.Given as goal

abbrev pub invariant-loop-len : goal.invariant-loop-len
invariant-loop-len l = record {
  are : AreLengths (drop l.len-index l.len-items) l.rest;
  lines : map (λ line. line.now) l.lent.items ++ cut (drop l.len-index l.len-items) l.rest ≡ l.self;
  utf8 : IsUtf8 l.rest;
  text : shadow (Utf8 l.rest);
}
