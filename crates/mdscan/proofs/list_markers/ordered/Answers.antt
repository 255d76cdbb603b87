use Rattle.std.proofs.Common.{ℕ, take, sym, subst}
use Rattle.std.specs.Str.Parse.{AllDigits}
use Rattle.mdscan.proofs.Digits.{digits_front}
use Rattle.mdscan.proofs.list_markers.ordered.Goals as goal

pub number-requires-clause-digits : goal.number-requires-clause-digits
number-requires-clause-digits c = subst (λ (n : ℕ). AllDigits 10 (take n c.args.line.now)) (sym c.leading_digits-digits.ensures.count) (digits_front c.args.line.now)
