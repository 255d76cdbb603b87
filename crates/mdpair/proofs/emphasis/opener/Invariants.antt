use Rattle.std.proofs.Common.{◌≡◌, take}
use Rattle.mdpair.specs.Matches.{nearest, stack}
use Rattle.mdpair.specs.OpenersBottom.{IsBottom, Descends}
use Rattle.mdpair.proofs.emphasis.opener.Given as goal

abbrev pub invariant-loop-i : goal.invariant-loop-i
invariant-loop-i l = record {
  same : nearest l.closer (stack l.passed) ≡ nearest l.closer (stack (take l.i l.passed));
  falls : Descends (stack (take l.i l.passed));
  bottom : IsBottom l.bottom l.closer (stack (take l.i l.passed));
}
