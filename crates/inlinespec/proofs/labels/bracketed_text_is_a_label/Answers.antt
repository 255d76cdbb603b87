use Rattle.std.proofs.Common.{Some, None, ap}
use Rattle.std.specs.Prelude.{if◌then◌else◌}
use Rattle.mdscan.specs.Spans.{part}
use Rattle.mdtext.specs.Labels.{collapsed, folded}
use Rattle.mdleaf.proofs.LabelText.{label_is}
use Rattle.inlinespec.proofs.labels.bracketed_text_is_a_label.Goals as goal

pub returns : goal.returns
returns c = λ text inside valid span there.
    ap (λ t. if t then Some (folded (collapsed (part text inside))) else None) (label_is text inside valid span there)
