use Rattle.std.proofs.Common.{◌++◌, [], ◌∷◌, ◌∙◌, ap, refl}
use Rattle.mdbatch.specs.declared.gathered.Waiting.{Waiting}
use Rattle.mdbatch.proofs.gathered.Gathered.keep.Goals as goal

pub returns-clause-waits : goal.returns-clause-waits
returns-clause-waits c =
    let one : Waiting = record { before = c.in_ok-before.before; found = c.args.found } in (
      one,
      c.in_ok-push.ensures.items ∙ ap (λ w. w.items ++ one ∷ []) c.taken_html.ensures.waiting,
      refl,
      c.in_ok-before.ensures.taken,
    )
