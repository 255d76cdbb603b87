use Rattle.std.proofs.Common.{◌≡◌, ◌≤◌}
use Rattle.std.specs.Vec.{vec_len}
use Rattle.mdchunks.proofs.chunks.Chunks.reserve_splice.Given as goal

abbrev pub invariant-loop : goal.invariant-loop
invariant-loop g l = record {
  chunks : l.self-inside.chunks ≡ l.initial.self-inside.chunks;
  len : l.self-inside.len ≡ l.initial.self-inside.len;
  near : l.self-inside.near ≡ l.initial.self-inside.near;
  spare : l.counter ≤ vec_len l.self-inside.spare;
}
