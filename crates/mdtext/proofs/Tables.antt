-- Pairs that are put into a table of entities in turn, and entries of any kind that are seen as pairs.
use Rattle.std.proofs.Common.{◌≡◌, ℕ, ◌+◌, ◌<◌, List, [], ◌∷◌, map, refl, ap, ◌∙◌, sym, Ordering, Less, Equal, Greater, Bor, drop, length, get_or}
use Rattle.std.proofs.lemmas.List.{drop_more}
use Rattle.std.specs.BTreeMap.{insert_entry}
use Rattle.std.specs.Cmp.Lexicographic.{slice_cmp}
use Rattle.std.specs.Ordering.{nat_cmp, match_ordering}
use Rattle.mdtext.specs.EntityTable.{EntityNames, put_all}

-- ---- entries of any kind, seen as pairs of bytes and values

module _ {K V W : Type 0} (key : K → List ℕ) (view : V → W) where
  by_order : (o : Ordering) (a b c : List (K × V)) (d : List (List ℕ × W)) → map (λ e. (key e.0, view e.1)) c ≡ d →
      map (λ e. (key e.0, view e.1)) (match_ordering o a b c) ≡ match_ordering o (map (λ e. (key e.0, view e.1)) a) (map (λ e. (key e.0, view e.1)) b) d
  by_order Less a b c d h = refl
  by_order Equal a b c d h = refl
  by_order Greater a b c d h = h

  pub inserted : (entries : List (K × V)) (k : K) (v : V) → map (λ e. (key e.0, view e.1)) (insert_entry (λ a b. slice_cmp nat_cmp (key a) (key b)) entries k v)
      ≡ insert_entry (slice_cmp nat_cmp) (map (λ e. (key e.0, view e.1)) entries) (key k) (view v)
  inserted [] k v = refl
  inserted (e ∷ entries) k v = by_order _ _ _ _ _ (ap (λ t. (key e.0, view e.1) ∷ t) (inserted entries k v))

-- ---- entities

-- the pairs of references, by what they point to
abbrev pub told : List (Bor (List ℕ) × Bor (List ℕ)) → List (List ℕ × List ℕ)
told pairs = map (λ p. (p.0.now, p.1.now)) pairs

-- one more of the pairs
pub one_put : (pairs : List (Bor (List ℕ) × Bor (List ℕ))) (i : ℕ) (d : Bor (List ℕ) × Bor (List ℕ)) (old new all : EntityNames) → i < length pairs
    → new ≡ insert_entry (slice_cmp nat_cmp) old (get_or pairs i d).0.now (get_or pairs i d).1.now → put_all (told (drop i pairs)) old ≡ all → put_all (told (drop (i + 1) pairs)) new ≡ all
one_put pairs i d old new all h e w = ap (put_all (told (drop (i + 1) pairs))) e ∙ ap (λ ps. put_all (told ps) old) (sym (drop_more pairs i d h)) ∙ w
