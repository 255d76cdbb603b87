-- A text up to its first special byte, and past it.
use Rattle.std.proofs.Common.{◌≡◌, ℕ, ◌+◌, ◌<◌, ◌≤◌, Bool, true, false, List, [], ◌∷◌, ◌++◌, length, take, get_or, refl, ap, sym, ◌∙◌, arith, subst, cond, not, ◌||◌}
use Rattle.std.proofs.lemmas.List.{append_assoc, append-nil}
use Rattle.std.specs.List.{slice_range, position_or_len, flat_map, list_any}
use Rattle.std.proofs.lemmas.List.Sums.{prefix_len_stops, prefix_len-le-length}
use Rattle.mdtext.specs.ByteClass.{in_class}

-- n bytes that fail the test stand at the front, and one that passes it or the end after them
pub record Stops (p : ℕ → Bool) (bs : List ℕ) (n : ℕ) : Type 0 where
  pub within : n ≤ length bs
  pub plain : list_any p (take n bs) ≡ false
  pub special : n < length bs → p (get_or bs n 0) ≡ true

one_plain : (p : ℕ → Bool) (t : Bool) (b : ℕ) (bs : List ℕ) (n : ℕ) → p b ≡ t → list_any p (take n bs) ≡ false → list_any p (take (cond (not t) (1 + n) 0) (b ∷ bs)) ≡ false
one_plain p true b bs n e h = refl
one_plain p false b bs n e h = grind (arith, e, h)

pub front_plain : (p : ℕ → Bool) (bs : List ℕ) → list_any p (take (position_or_len p bs) bs) ≡ false
front_plain p [] = refl
front_plain p (b ∷ bs) = one_plain p (p b) b bs _ refl (front_plain p bs)

pub stops : (p q : ℕ → Bool) (bs view : List ℕ) (n : ℕ) → n ≡ position_or_len q view → q ≡ p → view ≡ bs → Stops p bs n
stops p q bs view n e h g =
    let stop : position_or_len p bs ≡ n = sym (e ∙ ap (λ k. position_or_len k view) h ∙ ap (position_or_len p) g) in
    subst (Stops p bs) stop (record {
      within = prefix_len-le-length _ bs;
      plain = front_plain p bs;
      special = λ h. grind (arith, prefix_len_stops);
    })

front : (bs : List ℕ) (n : ℕ) → slice_range bs 0 n ≡ take n bs
front bs n = grind arith

pub run_plain : (p : ℕ → Bool) (bs run : List ℕ) (n : ℕ) → Stops p bs n → run ≡ slice_range bs 0 n → list_any p run ≡ false
run_plain p bs run n s e = ap (list_any p) (e ∙ front bs n) ∙ s.plain

-- f replaces the bytes of the class alone
pub record Replaces (class : List ℕ) (f : ℕ → List ℕ) : Type 0 where
  pub plain : (b : ℕ) → in_class class b ≡ false → f b ≡ b ∷ []

pub either_false : (a b : Bool) → (a || b) ≡ false → (a ≡ false) × (b ≡ false)
either_false true b h = cc
either_false false b h = (refl, h)

-- a run of plain bytes stays
pub run_stays : (class : List ℕ) (f : ℕ → List ℕ) → Replaces class f → (run rest : List ℕ) → list_any (in_class class) run ≡ false → flat_map f (run ++ rest) ≡ run ++ flat_map f rest
run_stays class f r [] rest h = refl
run_stays class f r (b ∷ run) rest h =
    let each = either_false _ _ h in
    ap (λ l. l ++ flat_map f (run ++ rest)) (r.plain b each.0) ∙ ap (λ l. b ∷ l) (run_stays class f r run rest each.1)

-- the run and what stands for the special byte after it are written
pub write_run : (class : List ℕ) (f : ℕ → List ℕ) → Replaces class f → (seen out plain after rest text : List ℕ) (b : ℕ) → seen ≡ class → list_any (in_class seen) plain ≡ false → rest ≡ plain ++ b ∷ after
    → out ++ flat_map f rest ≡ text → ((out ++ plain) ++ f b) ++ flat_map f after ≡ text
write_run class f r seen out plain after rest text b e h g w =
    append_assoc (out ++ plain) (f b) (flat_map f after) ∙ append_assoc out plain (f b ++ flat_map f after)
    ∙ ap (λ l. out ++ l) (sym (run_stays class f r plain (b ∷ after) (ap (λ s. list_any (in_class s) plain) (sym e) ∙ h)))
    ∙ ap (λ l. out ++ flat_map f l) (sym g) ∙ w

-- the last run is written
pub write_last : (class : List ℕ) (f : ℕ → List ℕ) → Replaces class f → (seen out plain rest text : List ℕ) → seen ≡ class → list_any (in_class seen) plain ≡ false → rest ≡ plain
    → out ++ flat_map f rest ≡ text → out ++ plain ≡ text
write_last class f r seen out plain rest text e h g w =
    ap (λ l. out ++ l) (sym (append-nil plain)) ∙ ap (λ l. out ++ l) (sym (run_stays class f r plain [] (ap (λ s. list_any (in_class s) plain) (sym e) ∙ h)))
    ∙ ap (λ l. out ++ flat_map f l) (append-nil plain) ∙ ap (λ l. out ++ flat_map f l) (sym g) ∙ w

-- what a text becomes byte by byte, it becomes part by part
pub parts : (f : ℕ → List ℕ) (xs ys : List ℕ) → flat_map f (xs ++ ys) ≡ flat_map f xs ++ flat_map f ys
parts f [] ys = refl
parts f (x ∷ xs) ys = ap (λ l. f x ++ l) (parts f xs ys) ∙ sym (append_assoc (f x) (flat_map f xs) (flat_map f ys))
