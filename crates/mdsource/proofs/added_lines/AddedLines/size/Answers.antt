use Rattle.std.proofs.Common.{◌-◌, ◌^◌, min, map, sym, ap, ◌∙◌}
use Rattle.mdtext.specs.Lines.{without_nul}
use Rattle.mdsource.specs.SourceLimits.{size_of}
use Rattle.mdsource.proofs.PlainLines.{plain_lines_stay}
use Rattle.mdsource.proofs.added_lines.AddedLines.size.Goals as goal

pub returns-then-self : goal.returns-then-self
returns-then-self c =
    c.plain_size.ensures ∙ ap (λ ls. min (size_of ls) (2 ^ 64 - 1)) (sym (plain_lines_stay _ (c.self.invariant c.if-self.true)) ∙ ap (map without_nul) c.self.view_is)
