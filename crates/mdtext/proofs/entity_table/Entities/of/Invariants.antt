use Rattle.std.proofs.Common.{◌≡◌, drop, []}
use Rattle.mdtext.specs.EntityTable.{put_all}
use Rattle.mdtext.proofs.Tables.{told}
use Rattle.mdtext.proofs.entity_table.Entities.of.Given as goal

abbrev pub invariant-loop-name : goal.invariant-loop-name
invariant-loop-name l = put_all (told (drop l.name-index l.pairs)) l.texts ≡ put_all (told l.pairs) []
