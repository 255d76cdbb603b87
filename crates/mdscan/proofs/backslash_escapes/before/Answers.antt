use Rattle.std.proofs.Common.{ℕ, false, arith, sym, ◌∙◌}
use Rattle.mdscan.specs.BackslashEscapes.{run_after}
use Rattle.mdscan.proofs.Stops.{past_byte}
use Rattle.mdscan.proofs.backslash_escapes.before.Goals as goal

pub loop-at-preserved : goal.loop-at-preserved
loop-at-preserved c =
    let text = c.args.text.now in
    let stops = c.args.stops.now in
    let all : ℕ = run_after false stops text in
    rw c.escapes_next-escaped.ensures (past_byte c.loop-at.escaped stops text c.loop-at.at all (omega arith) (sym c.stops_here.ensures ∙ c.if-stops_here.false) c.loop-at.invariant)
