use Rattle.std.proofs.Common.{ℕ, ◌≤◌, length}
use Rattle.serde_json.specs.Data.{Members}
use Rattle.mdtext.specs.MemberTexts.{AreHeld, gathered}
use Rattle.mdtext.proofs.MemberOrder.{Gathers}
use Rattle.mdtext.proofs.TokenReading.{MembersGoOn}
use Rattle.mdtext.proofs.entity_reading.read_members.Given as goal

abbrev pub invariant-loop-members : goal.invariant-loop-members
invariant-loop-members l = (n : ℕ) × (length l.reader ≤ n) × (found : Members) × MembersGoOn 126 l.initial.reader n l.reader found × Gathers found (gathered l.members) × AreHeld l.members

abbrev pub decreases-loop-members : goal.decreases-loop-members
decreases-loop-members l = length l.reader
