use Rattle.std.proofs.Common.{map, sym, ap, ◌∙◌}
use Rattle.std.proofs.lemmas.Result.{IfOk-weaker}
use Rattle.mdtext.specs.Lines.{without_nul}
use Rattle.mdsource.proofs.PlainLines.{plain_lines_stay}
use Rattle.mdsource.proofs.added_lines.AddedLines.cleaned.Goals as goal

pub returns-then-self : goal.returns-then-self
returns-then-self c =
    IfOk-weaker c.copied.result _ _ (λ copied h. h ∙ sym (plain_lines_stay _ (c.self.invariant c.if-self.true)) ∙ ap (map without_nul) c.self.view_is) c.copied.ensures
