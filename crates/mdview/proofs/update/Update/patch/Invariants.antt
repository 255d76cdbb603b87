use Rattle.std.proofs.Common.{◌≡◌, ◌++◌, drop, map}
use Rattle.mdview.specs.declared.inlines.concerned_texts.Again.{Again}
use Rattle.mdview.specs.Update.{number_after}
use Rattle.mdview.proofs.update.Update.patch.Given as goal

-- the numbers so far and those of the rest are those of all
abbrev pub invariant-loop-one : goal.invariant-loop-one
invariant-loop-one l = l.again.items ++ map (λ (one : Again). number_after l.fn.self one.unit) (drop l.one-index l.fn.self.again.items) ≡ map (λ (one : Again). number_after l.fn.self one.unit) l.fn.self.again.items
