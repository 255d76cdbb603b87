use Rattle.std.proofs.Common.{ap, map, sym, ◌∙◌}
use Rattle.mdsource.specs.SourceLimits.{first_with_ending}
use Rattle.mdsource.proofs.PlainLines.{none_with_ending}
use Rattle.mdsource.proofs.added_lines.AddedLines.first_line_break.Goals as goal

pub returns-then-self : goal.returns-then-self
returns-then-self c = sym (none_with_ending 0 (map (λ line. line.now) c.self.inside.lines.now) (c.self.invariant c.if-self.true)) ∙ ap (first_with_ending 0) c.self.view_is
