use Rattle.std.proofs.Common.{◌≡◌, ◌-◌, ◌<◌, ◌≤◌, ℕ, true, nat_eq, arith}
use Rattle.std.proofs.lemmas.Bool.Decides.{nat_tests}
use Rattle.mdhtml.proofs.AlikeBlocks.{like_text}
use Rattle.mdhtml.specs.declared.lists.same_blocks.SharedTexts.{SharedTexts}
use Rattle.mdhtml.specs.held.Alike.{TextAlike}
use Rattle.mdhtml.proofs.lists.same_blocks.same_text.Goals as goal

same_place : (a b : ℕ) → nat_eq a b ≡ true → a ≡ b
same_place a b e = grind (arith, nat_tests)

shared_text : (s : SharedTexts) (p q : ℕ) → s.at ≤ p → s.like_at ≤ q → p - s.at < s.count → nat_eq (p - s.at) (q - s.like_at) ≡ true → TextAlike s p q
shared_text s p q low like_low high e =
    let k = same_place (p - s.at) (q - s.like_at) e in
    like_text s p q (p - s.at) (omega arith) (omega (arith, k)) high

pub returns-then-here-shared : goal.returns-then-here-shared
returns-then-here-shared c = λ e. shared_text c.args.shared c.args.text c.args.like (omega arith) (omega arith) (omega arith) e
