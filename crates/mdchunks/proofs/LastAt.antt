-- The last member that begins at or below a weight, by the list that it lies in.
use Rattle.std.proofs.Common.{◌≡◌, ℕ, ◌+◌, ◌-◌, ◌^◌, ◌<◌, ◌≤◌, ◌⊎◌, List, length, take, get_or, min, ap, sym, ◌∙◌, arith, inl, inr}
use Rattle.std.proofs.lemmas.Bool.{cases_lt}
use Rattle.std.proofs.lemmas.List.{take_all}
use Rattle.mdchunks.specs.Lists.{joined, weigh}
use Rattle.mdchunks.specs.Sequences.{IsLastAt}
use Rattle.mdchunks.proofs.Joined.{length_front, length_more}
use Rattle.mdchunks.proofs.WeightSums.{weigh_inside}

-- where a member lies in a list of some lists: the numbers of those in front of it are added
pub record Inside {A : Type 0} (w : A → ℕ) (xss : List (List A)) (i start sum : ℕ) (ys : List A) : Type 0 where
  pub here : i < length xss
  pub read : ys ≡ get_or xss i ys
  pub before : start ≡ length (joined (take i xss))
  pub weight : sum ≡ weigh w (joined (take i xss))

-- what the members in front of a place of the list weigh
pub weigh_at : {A : Type 0} (w : A → ℕ) (xss : List (List A)) (i start sum k : ℕ) (ys : List A) → Inside w xss i start sum ys → k ≤ length ys →
    min (sum + weigh w (take k ys)) (2 ^ 64 - 1) ≡ weigh w (take (start + k) (joined xss))
weigh_at w xss i start sum k ys s within =
    let long : length (get_or xss i ys) ≡ length ys = ap length (sym s.read) in
    let whole = weigh_inside w xss i k (start + k) ys s.here (omega (arith, long, within)) (ap (λ n. n + k) (sym s.before)) in
    let read = s.read in
    let weight = s.weight in
    cc

pub ends_within : {A : Type 0} (w : A → ℕ) (xss : List (List A)) (i start sum : ℕ) (ys : List A) → Inside w xss i start sum ys → start + length ys ≤ length (joined xss)
ends_within w xss i start sum ys s =
    let long : length (get_or xss i ys) ≡ length ys = ap length (sym s.read) in
    let all = length_front xss i ys s.here in
    omega (arith, s.before, long, all)

-- the last list ends where all do
ends_last : {A : Type 0} (w : A → ℕ) (xss : List (List A)) (i start sum : ℕ) (ys : List A) → Inside w xss i start sum ys → i + 1 ≡ length xss → length (joined xss) ≡ start + length ys
ends_last w xss i start sum ys s e =
    let long : length (get_or xss i ys) ≡ length ys = ap length (sym s.read) in
    let all : length (joined xss) ≡ length (joined (take (i + 1) xss)) = ap (λ zss. length (joined zss)) (sym (take_all (i + 1) xss (omega (arith, e)))) in
    omega (arith, s.before, long, all, length_more xss i ys s.here)

above : {A : Type 0} (w : A → ℕ) (xss : List (List A)) (i start sum k weight : ℕ) (ys : List A) → Inside w xss i start sum ys → k < length ys →
    (k + 1 < length ys → weight < min (sum + weigh w (take (k + 1) ys)) (2 ^ 64 - 1)) → (i + 1 ≡ length xss) ⊎ (weight < min (sum + weigh w ys) (2 ^ 64 - 1)) →
    start + k + 1 < length (joined xss) → (k + 1 < length ys) ⊎ (length ys ≤ k + 1) → weight < weigh w (take (start + (k + 1)) (joined xss))
above w xss i start sum k weight ys s within next last more (inl one) =
    let e = weigh_at w xss i start sum (k + 1) ys s (omega arith) in
    let h = next one in
    omega (arith, e, h)
above w xss i start sum k weight ys s within next (inl one) more (inr end) =
    let e = ends_last w xss i start sum ys s one in
    absurd (omega (arith, e, more, within, end))
above w xss i start sum k weight ys s within next (inr low) more (inr end) =
    let e = weigh_at w xss i start sum (k + 1) ys s (omega arith) in
    let all : weigh w (take (k + 1) ys) ≡ weigh w ys = ap (weigh w) (take_all (k + 1) ys end) in
    omega (arith, e, all, low)

pub last_at : {A : Type 0} (w : A → ℕ) (xss : List (List A)) (i start sum k front weight : ℕ) (ys : List A) → Inside w xss i start sum ys → k < length ys →
    front ≡ min (sum + weigh w (take k ys)) (2 ^ 64 - 1) → front ≤ weight →
    (k + 1 < length ys → weight < min (sum + weigh w (take (k + 1) ys)) (2 ^ 64 - 1)) → (i + 1 ≡ length xss) ⊎ (weight < min (sum + weigh w ys) (2 ^ 64 - 1)) →
    IsLastAt w (joined xss) weight (start + k) front
last_at w xss i start sum k front weight ys s within is below next last =
    let one : start + k + 1 ≡ start + (k + 1) = omega arith in
    let ends = ends_within w xss i start sum ys s in
    record {
      within = omega (arith, ends, within);
      sum = is ∙ weigh_at w xss i start sum k ys s (omega arith);
      below = below;
      next = λ more. rw one (above w xss i start sum k weight ys s within next last more (cases_lt (k + 1) (length ys)));
    }
