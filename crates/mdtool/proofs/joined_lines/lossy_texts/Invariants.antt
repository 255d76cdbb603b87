use Rattle.std.proofs.Common.{◌≡◌, ◌≤◌, ◌++◌, length, map, drop}
use Rattle.std.specs.Str.Lossy.{utf8_lossy}
use Rattle.mdtool.specs.LineLengths.{AreLengths, cut}
use Rattle.mdtool.proofs.joined_lines.lossy_texts.Given as goal

abbrev pub invariant-loop-len : goal.invariant-loop-len
invariant-loop-len l = record {
  are : AreLengths (drop l.len-index l.lens) l.rest;
  within : length l.rest ≤ length l.bytes;
  lines : l.texts ++ map utf8_lossy (cut (drop l.len-index l.lens) l.rest) ≡ map utf8_lossy (cut l.fn.lens l.fn.bytes);
}
