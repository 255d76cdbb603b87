-- The bottom of a search for an opener: a place below which no run opens what such a closer closes (CommonMark, appendix, process emphasis: openers_bottom).
use Rattle.std.specs.Prelude.{◌≡◌, ℕ, ◌%◌, ◌<◌, ◌≤◌, false, List, [], ◌∷◌}
use Rattle.std.specs.List.{AllByRecursion}
use Rattle.mdpair.specs.declared.delimiter_runs.DelimiterChar.TheVariants.{Tilde}
use Rattle.mdpair.specs.declared.delimiter_runs.DelimiterRun.{DelimiterRun}
use Rattle.mdpair.specs.declared.emphasis.Remaining.{Remaining}
use Rattle.mdpair.specs.declared.searches.Bottom.{Bottom}
use Rattle.mdpair.specs.DelimiterRun.{can_both, is_admissible}
use Rattle.mdpair.specs.Matches.{IsBelow}

-- Closers that share a bottom: of one character, with one remainder of the length by 3, and alike in whether they can also open; tildes of one length.
pub record IsSameKind (c d : DelimiterRun) : Type 0 where
  pub delimiter : c.delimiter ≡ d.delimiter
  pub thirds : c.length % 3 ≡ d.length % 3
  pub both : can_both c ≡ can_both d
  pub tildes : c.delimiter ≡ Tilde → c.length ≡ d.length

-- among these runs none below the place opens what the closer closes
abbrev pub IsBottom : ℕ → DelimiterRun → List Remaining → Type 0
IsBottom bottom c ls = AllByRecursion (λ l. l.place < bottom → is_admissible l.run c ≡ false) ls

-- the places fall, as those of runs that are read backwards do
abbrev pub Descends : List Remaining → Type 0
Descends [] = Unit {0}
Descends (l ∷ ls) = AllByRecursion (IsBelow l.place) ls × Descends ls

-- a bottom for its closer's kind, and no higher than a place
abbrev pub IsBottomUpTo : ℕ → List Remaining → Bottom → Type 0
IsBottomUpTo k passed b = (b.place ≤ k) × IsBottom b.place b.closer passed
