-- Texts that are put into order by their names, ties as they stood, make the table that they made in turn; and that table as they are put in one by one.
use Rattle.std.proofs.Common.{◌≡◌, ℕ, suc, ◌+◌, ◌<◌, ◌≤◌, List, [], ◌∷◌, ◌++◌, ◌&&◌, not, length, map, drop, get_or, Bool, true, false, Some, None, refl, sym, ap, ap₂, ◌∙◌, arith, Ordering, Less, Equal, Greater}
use Rattle.std.proofs.lemmas.Cmp.{nat_list_cmp_total}
use Rattle.std.proofs.lemmas.List.{drop_more, drop_all, length-drop, get_or-drop, get_or_default}
use Rattle.std.proofs.lemmas.List.Elements.{filter-append}
use Rattle.std.proofs.lemmas.List.Sorted.{ranks_by, sorted_far}
use Rattle.std.proofs.lemmas.Map.Lookups.{exact_bytes}
use Rattle.std.specs.BTreeMap.{insert_entry}
use Rattle.std.specs.Prelude.{⊤}
use Rattle.std.specs.Cmp.{IsStrictWeakOrder}
use Rattle.std.specs.Cmp.Lexicographic.{slice_cmp}
use Rattle.std.specs.List.{filter}
use Rattle.std.specs.List.Sorted.{IsStableBy}
use Rattle.std.specs.Ordering.{nat_cmp, is_lt, ordering_reverse}
use Rattle.mdtext.specs.EntityTable.{EntityNames}
use Rattle.mdtext.specs.MemberTexts.{Given, StandInOrder, all_given, given, name_in, put_each}
use Rattle.mdtext.specs.declared.named_texts.Span.{Span}
use Rattle.mdtext.proofs.MemberOrder.{absorbed, all_texted, no_text, put_in, same, swapped, texted, texted_put}

-- ---- names that are the same

true-false : true ≡ false → ⊥
true-false e = cc

-- what stands for a span that is not there
abbrev pub no_span : Span
no_span = record { name = 0; text = 0; end = 0 }

module _ (bytes : List ℕ) where
  abbrev key : Span → List ℕ
  key s = name_in bytes s

  abbrev told : Span → Given
  told s = given bytes s

  abbrev pub goes_before : Span → Span → Bool
  goes_before a b = is_lt (slice_cmp nat_cmp (key a) (key b))

  pub is_order : IsStrictWeakOrder goes_before
  is_order = ranks_by nat_list_cmp_total key

  abbrev tie_by : List ℕ → Span → Bool
  tie_by k b = not (is_lt (slice_cmp nat_cmp k (key b))) && not (is_lt (slice_cmp nat_cmp (key b) k))

  abbrev tie : Span → Span → Bool
  tie a b = tie_by (key a) b

  tied_names : (a b : Span) → key a ≡ key b → tie a b ≡ true
  tied_names a b e = rw (ap (λ k. slice_cmp nat_cmp k (key b)) e ∙ same (key b), ap (slice_cmp nat_cmp (key b)) e ∙ same (key b)) refl

  equal_by : (a b : Span) (o : Ordering) → slice_cmp nat_cmp (key a) (key b) ≡ o → tie a b ≡ true → slice_cmp nat_cmp (key a) (key b) ≡ Equal
  equal_by a b Less h e = absurd (true-false (sym e ∙ rw h refl))
  equal_by a b Equal h e = h
  equal_by a b Greater h e =
      let back : slice_cmp nat_cmp (key b) (key a) ≡ Less = nat_list_cmp_total.antisymm (key b) (key a) ∙ ap ordering_reverse h in
      absurd (true-false (sym e ∙ rw (h, back) refl))

  same_names : (a b : Span) → tie a b ≡ true → key a ≡ key b
  same_names a b e = exact_bytes (key a) (key b) (equal_by a b (slice_cmp nat_cmp (key a) (key b)) refl e)

  other_names : (a b : Span) → tie b a ≡ false → slice_cmp nat_cmp (key a) (key b) ≡ Equal → ⊥
  other_names a b h e = true-false (sym (tied_names b a (sym (exact_bytes (key a) (key b) e))) ∙ h)

  -- ---- one is taken to the front of those that have other names

  abbrev head_or : Span → List Span → Span
  head_or d [] = d
  head_or d (x ∷ xs) = x

  abbrev behind : List Span → List Span
  behind [] = []
  behind (x ∷ xs) = xs

  kept : (y x : Span) (xs : List Span) → tie y x ≡ true → filter (tie y) (x ∷ xs) ≡ x ∷ filter (tie y) xs
  kept y x xs h = rw h refl

  passed : (y x : Span) (xs : List Span) → tie y x ≡ false → filter (tie y) (x ∷ xs) ≡ filter (tie y) xs
  passed y x xs h = rw h refl

  none_kept : (x : Span) (xs : List Span) → [] ≡ x ∷ xs → ⊥
  none_kept x xs e = cc

  abbrev Parts : Span → List Span → Type 0
  Parts y xs = (fs : List Span) × (bs : List Span) × (xs ≡ fs ++ y ∷ bs) × (filter (tie y) fs ≡ [])

  parts_at : (y x : Span) (rest xs : List Span) (b : Bool) → tie y x ≡ b → filter (tie y) (x ∷ xs) ≡ y ∷ rest → (filter (tie y) xs ≡ y ∷ rest → Parts y xs) → Parts y (x ∷ xs)
  parts_at y x rest xs true h e later = ([], xs, ap (λ z. z ∷ xs) (ap (head_or y) (sym (kept y x xs h) ∙ e)), refl)
  parts_at y x rest xs false h e later =
      let r = later (sym (passed y x xs h) ∙ e) in
      (x ∷ r.0, r.1, ap (λ l. x ∷ l) r.2, passed y x r.0 h ∙ r.3)

  parts : (y : Span) (rest xs : List Span) → filter (tie y) xs ≡ y ∷ rest → Parts y xs
  parts y rest [] e = absurd (none_kept y rest e)
  parts y rest (x ∷ xs) e = parts_at y x rest xs (tie y x) refl e (parts y rest xs)

  abbrev put : List Given → Span → List Given
  put table m = put_in table (told m).0 (told m).1

  in_front_at : (y a : Span) (fs bs : List Span) (table : List Given) (b : Bool) → tie y a ≡ b → filter (tie y) (a ∷ fs) ≡ []
      → (filter (tie y) fs ≡ [] → put_each (map told (fs ++ y ∷ bs)) (put table a) ≡ put_each (map told (fs ++ bs)) (put (put table a) y))
      → put_each (map told (fs ++ y ∷ bs)) (put table a) ≡ put_each (map told (fs ++ bs)) (put (put table y) a)
  in_front_at y a fs bs table true h e later = absurd (none_kept a (filter (tie y) fs) (sym e ∙ kept y a fs h))
  in_front_at y a fs bs table false h e later =
      later (sym (passed y a fs h) ∙ e) ∙ ap (put_each (map told (fs ++ bs))) (swapped (told a).0 (told a).1 (told y).0 (told y).1 (other_names a y h) table)

  in_front : (y : Span) (fs bs : List Span) (table : List Given) → filter (tie y) fs ≡ [] → put_each (map told (fs ++ y ∷ bs)) table ≡ put_each (map told (fs ++ bs)) (put table y)
  in_front y [] bs table e = refl
  in_front y (a ∷ fs) bs table e = in_front_at y a fs bs table (tie y a) refl e (in_front y fs bs (put table a))

  -- ---- a stable sort

  stable_at : (y z : Span) (fs bs ys : List Span) (b : Bool) → tie z y ≡ b → filter (tie y) fs ≡ [] → filter (tie z) (y ∷ ys) ≡ filter (tie z) (fs ++ y ∷ bs) → filter (tie z) ys ≡ filter (tie z) (fs ++ bs)
  stable_at y z fs bs ys true h none e =
      let nothing : filter (tie z) fs ≡ [] = ap (λ k. filter (tie_by k) fs) (same_names z y h) ∙ none in
      let both = sym (kept z y ys h) ∙ e ∙ filter-append (tie z) fs (y ∷ bs) ∙ ap₂ (λ l r. l ++ r) nothing (kept z y bs h) in
      ap behind both ∙ ap (λ l. l ++ filter (tie z) bs) (sym nothing) ∙ sym (filter-append (tie z) fs bs)
  stable_at y z fs bs ys false h none e =
      sym (passed z y ys h) ∙ e ∙ filter-append (tie z) fs (y ∷ bs) ∙ ap (λ r. filter (tie z) fs ++ r) (passed z y bs h) ∙ sym (filter-append (tie z) fs bs)

  resorted : (ys xs : List Span) (table : List Given) → ((z : Span) → filter (tie z) ys ≡ filter (tie z) xs) → put_each (map told xs) table ≡ put_each (map told ys) table
  resorted [] [] table h = refl
  resorted [] (x ∷ xs) table h = absurd (none_kept x (filter (tie x) xs) (h x ∙ kept x x xs (tied_names x x refl)))
  resorted (y ∷ ys) xs table h =
      let p = parts y (filter (tie y) ys) xs (sym (h y) ∙ kept y y ys (tied_names y y refl)) in
      ap (λ l. put_each (map told l) table) p.2 ∙ in_front y p.0 p.1 table p.3
      ∙ resorted ys (p.0 ++ p.1) (put table y) (λ z. stable_at y z p.0 p.1 ys (tie z y) refl p.3 (h z ∙ ap (filter (tie z)) p.2))

  pub sorted_stably : (xs ys : List Span) → IsStableBy goes_before xs ys → put_each (map told xs) [] ≡ put_each (map told ys) []
  sorted_stably xs ys h = resorted ys xs [] h

  -- ---- texts in order, put in one by one

  -- with what is left put into the table so far, all are told
  abbrev pub TableGoesOn : List Span → ℕ → EntityNames → Type 0
  TableGoesOn ms i table = all_given (put_each (map told (drop i ms)) (texted table)) ≡ all_given (put_each (map told ms) [])

  module _ (ms : List Span) (i : ℕ) (table : EntityNames) (d : Span) (within : i < length ms) where
    opened : put_each (map told (drop i ms)) (texted table) ≡ put_each (map told (drop (i + 1) ms)) (put (texted table) (get_or ms i d))
    opened = ap (λ l. put_each (map told l) (texted table)) (drop_more ms i d within)

    -- one that is given again changes nothing
    pub given_again : TableGoesOn ms i table → i + 1 < length ms → key (get_or ms i d) ≡ key (get_or ms (i + 1) d) → TableGoesOn ms (i + 1) table
    given_again go more e =
        let next = drop_more ms (i + 1) d more in
        let one = get_or ms i d in
        let two = get_or ms (i + 1) d in
        let twice : put (put (texted table) one) two ≡ put (texted table) two = ap (λ k. put_in (put_in (texted table) k (told one).1) (key two) (told two).1) e ∙ absorbed (texted table) (key two) (told one).1 (told two).1 in
        let left = map told (drop (i + 1 + 1) ms) in
        ap (λ l. all_given (put_each (map told l) (texted table))) next
        ∙ ap (λ t. all_given (put_each left t)) (sym twice)
        ∙ ap (λ l. all_given (put_each (map told l) (put (texted table) one))) (sym next)
        ∙ ap all_given (sym opened) ∙ go

    pub text_put : (text : List ℕ) (next : EntityNames) → TableGoesOn ms i table → (told (get_or ms i d)).1 ≡ Some text → next ≡ insert_entry (slice_cmp nat_cmp) table (key (get_or ms i d)) text → TableGoesOn ms (i + 1) next
    text_put text next go e n =
        let one = get_or ms i d in
        ap (λ t. all_given (put_each (map told (drop (i + 1) ms)) t))
        (ap texted n ∙ sym (texted_put table (key one) text) ∙ ap (put_in (texted table) (key one)) (sym e))
        ∙ ap all_given (sym opened) ∙ go

  pub table_ends : (ms : List Span) (i : ℕ) (table : EntityNames) → TableGoesOn ms i table → length ms ≤ i → all_given (put_each (map told ms) []) ≡ Some table
  table_ends ms i table go h = sym go ∙ ap (λ l. all_given (put_each (map told l) (texted table))) (drop_all i ms h) ∙ all_texted table

  -- ---- a name that is given no text, and not again

  abbrev HaveOtherNames : Span → List Span → Type 0
  HaveOtherNames m [] = ⊤
  HaveOtherNames m (x ∷ xs) = (slice_cmp nat_cmp (key m) (key x) ≡ Equal → ⊥) × HaveOtherNames m xs

  put_behind : (m : Span) (xs : List Span) (table : List Given) → HaveOtherNames m xs → put_each (map told xs) (put table m) ≡ put (put_each (map told xs) table) m
  put_behind m [] table h = refl
  put_behind m (x ∷ xs) table h = ap (put_each (map told xs)) (swapped (told m).0 (told m).1 (told x).0 (told x).1 h.0 table) ∙ put_behind m xs (put table x) h.1

  others_from : (m : Span) (xs : List Span) → ((j : ℕ) (d : Span) → j < length xs → slice_cmp nat_cmp (key m) (key (get_or xs j d)) ≡ Equal → ⊥) → HaveOtherNames m xs
  others_from m [] h = tt
  others_from m (x ∷ xs) h = (h 0 m (omega arith), others_from m xs (λ j d lt. h (suc j) d (omega (arith, lt))))

  less_not : (a b : List ℕ) → is_lt (slice_cmp nat_cmp a b) ≡ false → slice_cmp nat_cmp a b ≡ Less → ⊥
  less_not a b h e = true-false (sym (ap is_lt e) ∙ h)

  pub rises_by : (a b : List ℕ) (o : Ordering) → slice_cmp nat_cmp a b ≡ o → is_lt (slice_cmp nat_cmp b a) ≡ false → (a ≡ b → ⊥) → slice_cmp nat_cmp a b ≡ Less
  rises_by a b Less h up other = h
  rises_by a b Equal h up other = absurd (other (exact_bytes a b h))
  rises_by a b Greater h up other = absurd (less_not b a up (nat_list_cmp_total.antisymm b a ∙ ap ordering_reverse h))

  module _ (ms : List Span) (i : ℕ) (d : Span) (sorted : StandInOrder bytes ms) (within : i < length ms) where
    same_there : (j : ℕ) (e : Span) → i + 1 + j < length ms → get_or (drop (i + 1) ms) j e ≡ get_or ms (i + 1 + j) d
    same_there j e lt = get_or-drop (i + 1) ms j e ∙ get_or_default ms (i + 1 + j) e d lt

    pub others : (i + 1 < length ms → key (get_or ms i d) ≡ key (get_or ms (i + 1) d) → ⊥) → (j : ℕ) (e : Span) → j < length (drop (i + 1) ms) → slice_cmp nat_cmp (key (get_or ms i d)) (key (get_or (drop (i + 1) ms) j e)) ≡ Equal → ⊥
    others last j e lt is =
        let count = length-drop (i + 1) ms in
        let more : i + 1 < length ms = omega (arith, lt, count) in
        let there : get_or (drop (i + 1) ms) j e ≡ get_or ms (i + 1 + j) d = same_there j e (omega (arith, lt, count)) in
        let one = key (get_or ms i d) in
        let two = key (get_or ms (i + 1) d) in
        let up : slice_cmp nat_cmp one two ≡ Less = rises_by one two (slice_cmp nat_cmp one two) refl (sorted_far goes_before is_order ms sorted i (i + 1) d (omega arith) more) (last more) in
        let far : is_lt (slice_cmp nat_cmp (key (get_or ms (i + 1 + j) d)) two) ≡ false = sorted_far goes_before is_order ms sorted (i + 1) (i + 1 + j) d (omega arith) (omega (arith, lt, count)) in
        let again : one ≡ key (get_or ms (i + 1 + j) d) = exact_bytes one (key (get_or (drop (i + 1) ms) j e)) is ∙ ap key there in
        less_not one two (ap (λ k. is_lt (slice_cmp nat_cmp k two)) again ∙ far) up

    pub text_missing : (table : EntityNames) → TableGoesOn ms i table → (i + 1 < length ms → key (get_or ms i d) ≡ key (get_or ms (i + 1) d) → ⊥) → (told (get_or ms i d)).1 ≡ None → all_given (put_each (map told ms) []) ≡ None
    text_missing table go last e =
        let one = get_or ms i d in
        let left = drop (i + 1) ms in
        sym go ∙ ap all_given (opened ms i table d within ∙ put_behind one left (texted table) (others_from one left (others last)) ∙ ap (put_in (put_each (map told left) (texted table)) (key one)) e)
        ∙ no_text (put_each (map told left) (texted table)) (key one)
