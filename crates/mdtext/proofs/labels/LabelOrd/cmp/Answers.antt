use Rattle.std.proofs.Common.{◌∙◌, ap, string_bytes}
use Rattle.std.specs.Cmp.Lexicographic.{slice_cmp}
use Rattle.std.specs.Ordering.{nat_cmp}
use Rattle.mdtext.proofs.LabelFronts.{by_fronts}
use Rattle.mdtext.proofs.labels.LabelOrd.cmp.Goals as goal

pub returns-in_default : goal.returns-in_default
returns-in_default c =
    by_fronts (string_bytes c.self.inside.folded) (string_bytes c.other.inside.folded) c.self.inside.front c.other.inside.front c.cmp.result c.self.invariant c.other.invariant c.cmp.ensures c.in_default.not-Equal
    ∙ ap (λ text. slice_cmp nat_cmp text (string_bytes c.other.inside.folded)) c.self.view_is
    ∙ ap (slice_cmp nat_cmp c.args.self.now) c.other.view_is
