use Rattle.std.proofs.Common.{lit<}
use Rattle.mdscan.proofs.Boundaries.{mark_boundary}
use Rattle.mdscan.proofs.code_fences.backtick_fence.Goals as goal

pub fence_line-requires-clause-boundary : goal.fence_line-requires-clause-boundary
fence_line-requires-clause-boundary c = mark_boundary c.args.line.now c.as_bytes-bytes.result.now 96 c.leading-backticks.result c.as_bytes-bytes.ensures.value c.leading-backticks.ensures.count (lit< tt) c.utf8.line
