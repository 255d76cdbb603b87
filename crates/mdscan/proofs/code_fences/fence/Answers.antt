use Rattle.std.proofs.Common.{lit<}
use Rattle.mdscan.proofs.Boundaries.{mark_boundary}
use Rattle.mdscan.proofs.code_fences.fence.Goals as goal

pub fence_line-requires-clause-boundary : goal.fence_line-requires-clause-boundary
fence_line-requires-clause-boundary c = mark_boundary c.args.rest.now c.as_bytes.result.now 126 c.leading-tildes.result c.as_bytes.ensures.value c.leading-tildes.ensures.count (lit< tt) c.utf8.rest
