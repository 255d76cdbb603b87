use Rattle.std.proofs.Common.{rules}
use Rattle.mdtext.specs.Columns.{unindented}
use Rattle.text_tests.proofs.characters_and_lines.columns.marker_and_tabs.Goals as goal

pub skip_mark-requires : goal.skip_mark-requires
unfolding unindented
skip_mark-requires g c = search rules
