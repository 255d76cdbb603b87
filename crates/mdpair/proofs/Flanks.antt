-- What a run can do by what its neighbours are is what it can do by the characters.
use Rattle.std.proofs.Common.{◌≡◌, ℕ, Option, refl}
use Rattle.mdpair.specs.declared.delimiter_runs.DelimiterChar.{DelimiterChar}
use Rattle.mdpair.specs.declared.delimiter_runs.DelimiterChar.TheVariants.{Asterisk, Underscore, Tilde}
use Rattle.mdpair.specs.Neighbours.{left_flanking, right_flanking, opens_between, closes_between}
use Rattle.mdpair.specs.Flanks.{bounds, neighbour_at}

pub opens_as : (d : DelimiterChar) (n : ℕ) (before after : Option ℕ) → bounds d n (neighbour_at before) (neighbour_at after) ≡ opens_between d n before after
unfolding left_flanking right_flanking opens_between
opens_as Asterisk n before after = refl
opens_as Underscore n before after = refl
opens_as Tilde n before after = refl

pub closes_as : (d : DelimiterChar) (n : ℕ) (before after : Option ℕ) → bounds d n (neighbour_at after) (neighbour_at before) ≡ closes_between d n before after
unfolding left_flanking right_flanking closes_between
closes_as Asterisk n before after = refl
closes_as Underscore n before after = refl
closes_as Tilde n before after = refl
