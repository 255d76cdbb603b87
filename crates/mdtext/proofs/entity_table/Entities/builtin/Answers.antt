-- The pairs of the constant, put in turn, are the names.
use Rattle.std.proofs.Math.Utf8.{encode}
use Rattle.mdtext.proofs.entity_table.Entities.builtin.Goals as goal

pub returns : goal.returns
unfolding encode
returns c = c.of.ensures
