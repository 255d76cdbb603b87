-- Where an edit begins and ends reading, both texts may be cut, and what stands before and behind is the same in both.
use Rattle.std.proofs.Common.{◌≡◌, ℕ, ◌+◌, ◌-◌, ◌<◌, ◌≤◌, ◌⊎◌, inl, inr, Bool, true, false, List, [], ◌∷◌, ◌++◌, length, map, take, drop, Option, Some, None, refl, sym, ◌∙◌, ap, subst, arith, nat_lt, max}
use Rattle.std.specs.Prelude.{Contains, cond, nat_le, nat_eq}
use Rattle.std.specs.List.{filter, find, fold, list_any}
use Rattle.std.specs.Option.{unwrap_or}
use Rattle.std.proofs.lemmas.Bool.Decides.{nat_tests}
use Rattle.std.proofs.lemmas.Bool.{eqb-true, and_parts}
use Rattle.std.proofs.lemmas.List.{take-append-drop, take-take, drop-drop, length-take-le}
use Rattle.std.proofs.lemmas.List.Elements.{All-contains, All-filter, All-contains_itself, filter_passes, Contains-append_right, Contains-append_left, Contains-push}
use Rattle.std.proofs.lemmas.Map.Views.{Contains-from_any}
use Rattle.mdtext.specs.EntityTable.{EntityTable}
use Rattle.blockspec.specs.BlockUnits.{begins, units}
use Rattle.blockspec.specs.UnitBegin.{shift_found}
use Rattle.mdsource.specs.Spliced.{in_parts}
use Rattle.mdsource.specs.Stretch.{Places, from_line, old_line, is_meeting, meeting_line}
use Rattle.mdsource.proofs.Cuts.{IsCut, units_cut, beginning_kept}

-- ---- lists of numbers

either_max : (a b : ℕ) → (max a b ≡ a) ⊎ (max a b ≡ b)
either_max a b = by (nat_lt a b) refl
  where
    by : (t : Bool) → nat_lt a b ≡ t → (max a b ≡ a) ⊎ (max a b ≡ b)
    by true h = inr (grind (arith, nat_tests, h))
    by false h = inl (grind (arith, nat_tests, h))

greatest : (xs : List ℕ) (a : ℕ) → (fold max a xs ≡ a) ⊎ Contains xs (fold max a xs)
greatest [] a = inl refl
greatest (x ∷ xs) a = by (greatest xs (max a x)) (either_max a x)
  where
    by : (fold max (max a x) xs ≡ max a x) ⊎ Contains xs (fold max (max a x) xs) → (max a x ≡ a) ⊎ (max a x ≡ x) →
        (fold max (max a x) xs ≡ a) ⊎ Contains (x ∷ xs) (fold max (max a x) xs)
    by (inl h) (inl k) = inl (h ∙ k)
    by (inl h) (inr k) = inr (subst (λ z. Contains (x ∷ xs) z) (sym (h ∙ k)) (Contains-append_left (x ∷ []) xs x (Contains-push [] x)))
    by (inr w) k = inr (Contains-append_right (x ∷ []) xs (fold max (max a x) xs) w)

kept_by : {X : Type 0} (p : X → Bool) (xs : List X) (x : X) → Contains (filter p xs) x → Contains xs x × (p x ≡ true)
kept_by p xs x w = (
  All-contains (Contains xs) (filter p xs) x (All-filter p (Contains xs) xs (All-contains_itself xs)) w,
  All-contains (λ y. p y ≡ true) (filter p xs) x (filter_passes p xs) w,
)

pub found_is : {X : Type 0} (p : X → Bool) (xs : List X) (x : X) → find p xs ≡ Some x → Contains xs x × (p x ≡ true)
found_is p [] x h = cc
found_is p (y ∷ ys) x h = by (p y) refl (λ k. found_is p ys x k) h
  where
    by : (t : Bool) → p y ≡ t → (find p ys ≡ Some x → Contains ys x × (p x ≡ true)) → cond t (Some y) (find p ys) ≡ Some x → Contains (y ∷ ys) x × (p x ≡ true)
    by true e rest k =
        let same : y ≡ x = ap (λ z. unwrap_or z y) k in
        (subst (λ z. Contains (y ∷ ys) z) same (Contains-append_left (y ∷ []) ys y (Contains-push [] y)), subst (λ z. p z ≡ true) same e)
    by false e rest k = let later = rest k in (Contains-append_right (y ∷ []) ys x later.0, later.1)

-- ---- an edit

-- what an edit of a text leaves: the places of it, and both texts the same before and behind
pub record IsEdit (e : EntityTable) (old new : List (List ℕ)) (p : Places) : Type 0 where
  pub olds : p.old_begins ≡ begins e old
  pub news : p.new_begins ≡ begins e new
  pub lines : p.new_lines ≡ length new
  pub fits : p.at + p.gone ≤ length old
  pub sizes : length new + p.gone ≡ length old + p.come
  pub front : take p.at new ≡ take p.at old
  pub back : drop (p.at + p.come) new ≡ drop (p.at + p.gone) old

-- Reading begins with the first line, or with the beginning of a unit above the edit.
abbrev pub BeginsAbove : EntityTable → List (List ℕ) → Places → Type 0
BeginsAbove e old p = (from_line p ≡ 0) ⊎ ((from_line p < p.at) × Contains (begins e old) (from_line p))

pub begins_above : (e : EntityTable) (old new : List (List ℕ)) (p : Places) → IsEdit e old new p → BeginsAbove e old p
begins_above e old new p w = by (greatest (filter (λ b. nat_lt b p.at) p.old_begins) 0)
  where
    by : (from_line p ≡ 0) ⊎ Contains (filter (λ b. nat_lt b p.at) p.old_begins) (from_line p) → BeginsAbove e old p
    by (inl h) = inl h
    by (inr h) =
        let k = kept_by (λ b. nat_lt b p.at) p.old_begins (from_line p) h in
        let above = k.1 in
        inr (grind (arith, nat_tests, above), subst (λ z. Contains z (from_line p)) w.olds k.0)

pub from_above : (e : EntityTable) (old new : List (List ℕ)) (p : Places) → IsEdit e old new p → from_line p ≤ p.at
from_above e old new p w = by (begins_above e old new p w)
  where
    by : BeginsAbove e old p → from_line p ≤ p.at
    by (inl h) = omega (arith, h)
    by (inr h) = let s = h.0 in omega (arith, s)

-- Reading ends at the end of the text, or at a line behind the edit at which a unit begins in both texts.
abbrev pub MeetsBehind : EntityTable → (old new : List (List ℕ)) → Places → Type 0
MeetsBehind e old new p =
    (meeting_line p ≡ length new)
    ⊎ ((p.at + p.come ≤ meeting_line p) × Contains (begins e new) (meeting_line p) × Contains (begins e old) (old_line p (meeting_line p)))

pub meets_behind : (e : EntityTable) (old new : List (List ℕ)) (p : Places) → IsEdit e old new p → MeetsBehind e old new p
meets_behind e old new p w = by (find (is_meeting p) p.new_begins) refl
  where
    by : (o : Option ℕ) → find (is_meeting p) p.new_begins ≡ o → MeetsBehind e old new p
    by None h = inl (ap (λ z. unwrap_or z p.new_lines) h ∙ w.lines)
    by (Some m) h =
        let is : meeting_line p ≡ m = ap (λ z. unwrap_or z p.new_lines) h in
        let f = found_is (is_meeting p) p.new_begins m h in
        let both = and_parts (nat_le (p.at + p.come) m) (list_any (nat_eq (old_line p m)) p.old_begins) f.1 in
        let behind = both.0 in
        inr (subst (λ z. (p.at + p.come ≤ z) × Contains (begins e new) z × Contains (begins e old) (old_line p z)) (sym is) (
          grind (arith, nat_tests, behind),
          subst (λ z. Contains z m) w.news f.0,
          subst (λ z. Contains z (old_line p m)) w.olds (Contains-from_any eqb-true (old_line p m) p.old_begins both.1),
        ))

-- where the meeting line stands, in both texts
pub record Meets (e : EntityTable) (old new : List (List ℕ)) (p : Places) : Type 0 where
  pub behind : p.at + p.come ≤ meeting_line p
  pub behind_old : p.at + p.gone ≤ old_line p (meeting_line p)
  pub in_new : IsCut e new (meeting_line p)
  pub in_old : IsCut e old (old_line p (meeting_line p))
  pub same : drop (meeting_line p) new ≡ drop (old_line p (meeting_line p)) old

same_behind : (e : EntityTable) (old new : List (List ℕ)) (p : Places) → IsEdit e old new p → (m : ℕ) → p.at + p.come ≤ m → drop m new ≡ drop (old_line p m) old
same_behind e old new p w m h =
    let k = m - (p.at + p.come) in
    let is : (p.at + p.come) + k ≡ m = omega (arith, h) in
    let was : (p.at + p.gone) + k ≡ old_line p m = omega (arith, h) in
    ap (λ z. drop z new) (sym is) ∙ sym (drop-drop k (p.at + p.come) new) ∙ ap (drop k) w.back ∙ drop-drop k (p.at + p.gone) old ∙ ap (λ z. drop z old) was

pub meets : (e : EntityTable) (old new : List (List ℕ)) (p : Places) → IsEdit e old new p → Meets e old new p
meets e old new p w = by (meets_behind e old new p w)
  where
    by : MeetsBehind e old new p → Meets e old new p
    by (inl h) =
        let a = w.fits in
        let b = w.sizes in
        let behind : p.at + p.come ≤ meeting_line p = omega (arith, a, b, h) in
        let was : old_line p (meeting_line p) ≡ length old = omega (arith, a, b, h) in
        record {
          behind = behind;
          behind_old = omega (arith, a, was);
          in_new = inr (inl h);
          in_old = inr (inl was);
          same = same_behind e old new p w (meeting_line p) behind;
        }
    by (inr h) =
        let behind = h.0 in
        record {
          behind = behind;
          behind_old = omega (arith, behind);
          in_new = inr (inr h.1);
          in_old = inr (inr h.2);
          same = same_behind e old new p w (meeting_line p) behind;
        }

-- Any text with the same lines in front of the edit may be cut where reading begins.
pub from_cut : (e : EntityTable) (old new : List (List ℕ)) (p : Places) → IsEdit e old new p → (text : List (List ℕ)) → take p.at text ≡ take p.at old → IsCut e text (from_line p)
from_cut e old new p w text same = by (begins_above e old new p w)
  where
    by : BeginsAbove e old p → IsCut e text (from_line p)
    by (inl h) = inl h
    by (inr h) =
        let fits = w.fits in
        let small = h.0 in
        let size = length-take-le p.at old (omega (arith, fits)) in
        let whole : (xs : List (List ℕ)) → take p.at xs ≡ take p.at old → take p.at old ++ drop p.at xs ≡ xs =
        λ xs is. ap (λ z. z ++ drop p.at xs) (sym is) ∙ take-append-drop p.at xs in
        let kept = beginning_kept e (take p.at old) (drop p.at old) (drop p.at text) (from_line p) (omega (arith, small, size))
        (subst (λ z. Contains (begins e z) (from_line p)) (sym (whole old refl)) h.1) in
        inr (inr (subst (λ z. Contains (begins e z) (from_line p)) (whole text same) kept))

three_parts : (e : EntityTable) (old new : List (List ℕ)) (p : Places) → IsEdit e old new p → (text : List (List ℕ)) → take p.at text ≡ take p.at old →
    (to : ℕ) → p.at ≤ to → IsCut e text to → units e text ≡ in_parts e old text (from_line p) to
three_parts e old new p w text same to h cut =
    let above = from_above e old new p w in
    let from = from_line p in
    let front : take p.at (take to text) ≡ take p.at old = take-take p.at to text h ∙ same in
    let short : take from (take to text) ≡ take from old =
    sym (take-take from p.at (take to text) above) ∙ ap (take from) front ∙ take-take from p.at old above in
    units_cut e text to cut
    ∙ ap (λ z. z ++ map (shift_found to) (units e (drop to text)))
    (units_cut e (take to text) from (from_cut e old new p w (take to text) front)
    ∙ ap (λ z. units e z ++ map (shift_found from) (units e (drop from (take to text)))) short)

-- The units of the new text are those in front, those from where reading begins to where it ends, and those behind, so many lines further on.
pub new_parts : (e : EntityTable) (old new : List (List ℕ)) (p : Places) → IsEdit e old new p → units e new ≡ in_parts e old new (from_line p) (meeting_line p)
new_parts e old new p w =
    let behind = (meets e old new p w).behind in
    three_parts e old new p w new w.front (meeting_line p) (omega (arith, behind)) (meets e old new p w).in_new

-- and those of the old one
pub old_parts : (e : EntityTable) (old new : List (List ℕ)) (p : Places) → IsEdit e old new p →
    units e old ≡ in_parts e old old (from_line p) (old_line p (meeting_line p))
old_parts e old new p w =
    let behind = (meets e old new p w).behind_old in
    three_parts e old new p w old refl (old_line p (meeting_line p)) (omega (arith, behind)) (meets e old new p w).in_old
