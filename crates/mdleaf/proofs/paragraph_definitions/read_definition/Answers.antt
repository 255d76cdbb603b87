use Rattle.std.proofs.Common.{ap, ◌∙◌}
use Rattle.mdtext.specs.Labels.{is_label}
use Rattle.mdleaf.proofs.LabelText.{label_is}
use Rattle.mdleaf.proofs.paragraph_definitions.read_definition.Goals as goal

pub read_label-requires : goal.read_label-requires
read_label-requires c = ap is_label c.part_of.ensures ∙ label_is c.args.text.now c.args.def.label c.utf8.text c.requires.spans.label c.requires.label
