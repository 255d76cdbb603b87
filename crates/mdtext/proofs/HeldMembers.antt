-- What members give, as it is held: what stays as the bytes grow, and what is a table as it stands.
use Rattle.std.proofs.Common.{◌≡◌, ℕ, zero, suc, ◌+◌, ◌-◌, ◌<◌, ◌≤◌, List, [], ◌∷◌, ◌++◌, length, map, drop, take, get_or, leb, true, false, Some, None, IfSome, All, refl, sym, ap, ap₂, ◌∙◌, subst, arith, ◌⊎◌, ⊎_elim, Less, Equal}
use Rattle.std.proofs.lemmas.Bool.{cases_order, le-leb, lt-leb}
use Rattle.std.proofs.lemmas.Bool.Decides.{leb_tells}
use Rattle.std.proofs.lemmas.List.{drop_all, drop_more, get_or_default, get_or-drop, length-append, length-drop, take_all}
use Rattle.std.proofs.lemmas.List.Elements.{All-head, All-map, All-tail, All-weaker}
use Rattle.std.proofs.lemmas.List.Sorted.{All-permutation, sorted_far}
use Rattle.std.proofs.Math.Seq.{drop-append_seam}
use Rattle.std.specs.Cmp.Lexicographic.{slice_cmp}
use Rattle.std.specs.List.{AllByRecursion, slice_range}
use Rattle.std.specs.List.Sorted.{IsPermutation, IsStrictlySortedBy}
use Rattle.std.specs.Map.{keys_of, values_of}
use Rattle.std.specs.Option.{unwrap_or}
use Rattle.std.specs.Ordering.{is_lt, nat_cmp}
use Rattle.std.specs.Str.{IsUtf8}
use Rattle.mdtext.specs.MemberTexts.{Given, IsHeld, IsTable, StandInOrder, all_given, gathered, given, given_table, name_in, part, put_each}
use Rattle.mdtext.specs.NamedTexts.{AreNamedTexts, named_text, named_texts}
use Rattle.mdtext.specs.declared.member_texts.MemberTexts.{MemberTexts}
use Rattle.mdtext.specs.declared.named_texts.Span.{Span}
use Rattle.mdtext.proofs.MemberOrder.{all_texted, put_in, same, swapped, texted}
use Rattle.mdtext.proofs.NamedPlaces.{part_kept, text_there}
use Rattle.mdtext.proofs.ResortedTexts.{goes_before, is_order, no_span, others, rises_by}

-- ---- the parts of the bytes

part_by : (bytes more : List ℕ) (a b : ℕ) → b ≤ length bytes → ((leb a b ≡ true) × (a ≤ b)) ⊎ ((leb a b ≡ false) × (b < a)) → part (bytes ++ more) a b ≡ part bytes a b
part_by bytes more a b within t =
    ⊎_elim
    (λ le. let longer : b ≤ length (bytes ++ more) = omega (arith, within, length-append bytes more) in
    rw (le.0, le-leb b (length bytes) within, le-leb b (length (bytes ++ more)) longer) (ap Some (part_kept bytes more a b le.1 within)))
    (λ gt. rw gt.0 refl)
    t

pub part_same : (bytes more : List ℕ) (a b : ℕ) → b ≤ length bytes → part (bytes ++ more) a b ≡ part bytes a b
part_same bytes more a b within = part_by bytes more a b within (leb_tells a b)

pub part_is : (bytes : List ℕ) (a b : ℕ) → a ≤ b → b ≤ length bytes → part bytes a b ≡ Some (slice_range bytes a b)
part_is bytes a b le within = rw (le-leb a b le, le-leb b (length bytes) within) refl

pub no_part : (bytes : List ℕ) (a b : ℕ) → b < a → part bytes a b ≡ None
no_part bytes a b gt = rw (lt-leb a b gt) refl

module _ (bytes more : List ℕ) where
  given_same : (s : Span) → IsHeld bytes s → given (bytes ++ more) s ≡ given bytes s
  given_same s h = ap₂ (λ n t. (unwrap_or n [], t)) (part_same bytes more s.name s.text h.1) (part_same bytes more s.text s.end h.2)

  pub all_given_same : (ss : List Span) → All (IsHeld bytes) ss → map (given (bytes ++ more)) ss ≡ map (given bytes) ss
  all_given_same [] h = refl
  all_given_same (s ∷ ss) h = ap₂ (λ g gs. g ∷ gs) (given_same s (All-head (IsHeld bytes) s ss h)) (all_given_same ss (All-tail (IsHeld bytes) s ss h))

  held_same : (s : Span) → IsHeld bytes s → IsHeld (bytes ++ more) s
  held_same s h =
      let is = given_same s h in
      (h.0, omega (arith, h.1, length-append bytes more), omega (arith, h.2, length-append bytes more), subst (λ g. IsUtf8 g.0) (sym is) h.3, subst (λ g. IfSome g.1 IsUtf8) (sym is) h.4)

  pub all_held_same : (ss : List Span) → All (IsHeld bytes) ss → All (IsHeld (bytes ++ more)) ss
  all_held_same ss h = All-weaker (IsHeld bytes) (IsHeld (bytes ++ more)) held_same ss h

-- a span that is held, by its name and its text
module _ (bytes : List ℕ) where
  pub named_at : (s : Span) → IsHeld bytes s → name_in bytes s ≡ (named_text bytes s).0
  named_at s h = ap (λ o. unwrap_or o []) (part_is bytes s.name s.text h.0 h.1)

  pub text_at : (s : Span) → IsHeld bytes s → s.text ≤ s.end → part bytes s.text s.end ≡ Some (named_text bytes s).1
  text_at s h le = part_is bytes s.text s.end le h.2

-- spans in another order, where the values are told in other words
pub moved_held : (b bytes : List ℕ) (ss spans new : List Span) → b ≡ bytes → ss ≡ spans → IsPermutation ss new → All (IsHeld bytes) spans → All (IsHeld b) new
moved_held b bytes ss spans new e f moved held = All-permutation (IsHeld b) ss new moved (subst (All (IsHeld b)) (sym f) (subst (λ x. All (IsHeld x) spans) (sym e) held))

-- what was appended is what is given there
module _ (bytes name text : List ℕ) (s : Span) (n : s.name ≡ length bytes) (t : s.text ≡ length bytes + length name) (e : s.end ≡ length (bytes ++ name ++ text)) where
  long : length (bytes ++ name ++ text) ≡ length bytes + length name + length text
  long = length-append (bytes ++ name) text ∙ ap (λ k. k + length text) (length-append bytes name)

  pub given_there : given (bytes ++ name ++ text) s ≡ (name, Some text)
  given_there =
      let there = text_there bytes name text s n t e in
      ap₂ (λ x y. (unwrap_or x [], y)) (part_is (bytes ++ name ++ text) s.name s.text (omega (arith, n, t)) (omega (arith, t, long))) (part_is (bytes ++ name ++ text) s.text s.end (omega (arith, t, e, long)) (omega (arith, e)))
      ∙ ap₂ (λ x y. (x, Some y)) (ap (λ p. p.0) there) (ap (λ p. p.1) there)

  pub held_there : IsUtf8 name → IsUtf8 text → IsHeld (bytes ++ name ++ text) s
  held_there a b =
      let is = given_there in
      (omega (arith, n, t), omega (arith, t, long), omega (arith, e), subst (λ g. IsUtf8 g.0) (sym is) a, subst (λ g. IfSome g.1 IsUtf8) (sym is) b)

-- a name that has no text
module _ (bytes name : List ℕ) (s : Span) (n : s.name ≡ length bytes) (t : s.text ≡ length (bytes ++ name)) (e : s.end ≡ length bytes) (some : 0 < length name) where
  bare_long : length (bytes ++ name) ≡ length bytes + length name
  bare_long = length-append bytes name

  name_at_end : slice_range (bytes ++ name) s.name s.text ≡ name
  name_at_end =
      let front : drop s.name (bytes ++ name) ≡ name = ap (λ k. drop k (bytes ++ name)) n ∙ drop-append_seam bytes name in
      let enough : length name ≤ s.text - s.name = omega (arith, n, t, bare_long) in
      ap (take (s.text - s.name)) front ∙ take_all (s.text - s.name) name enough

  pub given_bare : given (bytes ++ name) s ≡ (name, None)
  given_bare =
      ap₂ (λ x y. (unwrap_or x [], y)) (part_is (bytes ++ name) s.name s.text (omega (arith, n, t, bare_long)) (omega (arith, t)) ∙ ap Some name_at_end) (no_part (bytes ++ name) s.text s.end (omega (arith, t, e, bare_long, some)))

  pub held_bare : IsUtf8 name → IsHeld (bytes ++ name) s
  held_bare a =
      let is = given_bare in
      (omega (arith, n, t, bare_long), omega (arith, t), omega (arith, e, bare_long), subst (λ g. IsUtf8 g.0) (sym is) a, subst (λ g. IfSome g.1 IsUtf8) (sym is) tt)

-- ---- names that rise are put in as they stand

not_equal : (a b : List ℕ) → slice_cmp nat_cmp a b ≡ Less → slice_cmp nat_cmp a b ≡ Equal → ⊥
not_equal a b l e = less_equal (sym l ∙ e)
  where
    less_equal : Less ≡ Equal → ⊥
    less_equal h = cc

put_first : (e : Given) (es table : List Given) → AllByRecursion (λ k. slice_cmp nat_cmp e.0 k ≡ Less) (keys_of es) → put_each es (put_in table e.0 e.1) ≡ put_in (put_each es table) e.0 e.1
put_first e [] table h = refl
put_first e (x ∷ xs) table h = ap (put_each xs) (swapped e.0 e.1 x.0 x.1 (not_equal e.0 x.0 h.0) table) ∙ put_first e xs (put_in table x.0 x.1) h.1

in_front : (e : Given) (es : List Given) → AllByRecursion (λ k. slice_cmp nat_cmp e.0 k ≡ Less) (keys_of es) → put_in es e.0 e.1 ≡ e ∷ es
in_front e [] h = refl
in_front e (x ∷ xs) h = rw h.0 refl

put_strict : (es : List Given) → IsStrictlySortedBy (slice_cmp nat_cmp) (keys_of es) → put_each es [] ≡ es
unfolding IsStrictlySortedBy
put_strict [] s = refl
put_strict (e ∷ es) s = put_first e es [] s.0 ∙ ap (λ t. put_in t e.0 e.1) (put_strict es s.1) ∙ in_front e es s.0

-- ---- what is a table as it stands

-- the first of them are as in a table
abbrev pub AreTableBelow : List ℕ → List Span → ℕ → Type 0
AreTableBelow bytes ss i =
    (k : ℕ) (d : Span) → k < i
    → ((get_or ss k d).text ≤ (get_or ss k d).end) × (k + 1 < length ss → name_in bytes (get_or ss k d) ≡ name_in bytes (get_or ss (k + 1) d) → ⊥)

pub table_more : (bytes : List ℕ) (ss : List Span) (i : ℕ) → AreTableBelow bytes ss i → ((d : Span) → (get_or ss i d).text ≤ (get_or ss i d).end)
    → ((d : Span) → i + 1 < length ss → name_in bytes (get_or ss i d) ≡ name_in bytes (get_or ss (i + 1) d) → ⊥) → AreTableBelow bytes ss (i + 1)
table_more bytes ss i before text last = λ k d lt.
    ⊎_elim
    (λ same_place. subst (λ j. ((get_or ss j d).text ≤ (get_or ss j d).end) × (j + 1 < length ss → name_in bytes (get_or ss j d) ≡ name_in bytes (get_or ss (j + 1) d) → ⊥)) (sym same_place) (text d, last d))
    (λ other. ⊎_elim (λ less. before k d less) (λ more. absurd (omega (arith, lt, more))) other)
    (cases_order k i)

-- each stands alone, one behind the other
module _ (bytes : List ℕ) (ss : List Span) (held : All (IsHeld bytes) ss) (sorted : StandInOrder bytes ss) (table : IsTable bytes ss) where
  above : (i : ℕ) (d : Span) → i < length ss → (j : ℕ) (e : Span) → j < length (drop (i + 1) ss) → slice_cmp nat_cmp (name_in bytes (get_or ss i d)) (name_in bytes (get_or (drop (i + 1) ss) j e)) ≡ Less
  above i d within j e lt =
      let count = length-drop (i + 1) ss in
      let there : get_or (drop (i + 1) ss) j e ≡ get_or ss (i + 1 + j) d = get_or-drop (i + 1) ss j e ∙ get_or_default ss (i + 1 + j) e d (omega (arith, lt, count)) in
      let one = name_in bytes (get_or ss i d) in
      let two = name_in bytes (get_or (drop (i + 1) ss) j e) in
      let far : is_lt (slice_cmp nat_cmp (name_in bytes (get_or ss (i + 1 + j) d)) one) ≡ false = sorted_far (goes_before bytes) (is_order bytes) ss sorted i (i + 1 + j) d (omega arith) (omega (arith, lt, count)) in
      rises_by bytes one two (slice_cmp nat_cmp one two) refl (ap (λ x. is_lt (slice_cmp nat_cmp (name_in bytes x) one)) there ∙ far)
      (λ same_name. others bytes ss i d sorted within (table i d within).1 j e lt (ap (slice_cmp nat_cmp one) (sym same_name) ∙ same one))

  all_above : (n : List ℕ) (xs : List Span) → ((j : ℕ) (e : Span) → j < length xs → slice_cmp nat_cmp n (name_in bytes (get_or xs j e)) ≡ Less) → AllByRecursion (λ k. slice_cmp nat_cmp n k ≡ Less) (map (name_in bytes) xs)
  all_above n [] h = tt
  all_above n (x ∷ xs) h = (h 0 x (omega arith), all_above n xs (λ j e lt. h (suc j) e (omega (arith, lt))))

  strict_from : (n i : ℕ) → i + n ≡ length ss → IsStrictlySortedBy (slice_cmp nat_cmp) (map (name_in bytes) (drop i ss))
  unfolding IsStrictlySortedBy
  strict_from zero i e = subst (λ l. IsStrictlySortedBy (slice_cmp nat_cmp) (map (name_in bytes) l)) (sym (drop_all i ss (omega (arith, e)))) tt
  strict_from (suc n) i e =
      let within : i < length ss = omega (arith, e) in
      subst (λ l. IsStrictlySortedBy (slice_cmp nat_cmp) (map (name_in bytes) l)) (sym (drop_more ss i no_span within))
      (all_above (name_in bytes (get_or ss i no_span)) (drop (i + 1) ss) (above i no_span within), strict_from n (i + 1) (omega (arith, e)))

  strict : IsStrictlySortedBy (slice_cmp nat_cmp) (map (name_in bytes) ss)
  strict = strict_from (length ss) 0 (omega arith)

  have_texts : All (λ s. s.text ≤ s.end) ss
  have_texts = λ k d lt. (table k d lt).0

  all_named : (xs : List Span) → All (IsHeld bytes) xs → map (name_in bytes) xs ≡ keys_of (named_texts bytes xs)
  all_named [] h = refl
  all_named (x ∷ xs) h = ap₂ (λ n ns. n ∷ ns) (named_at bytes x (All-head (IsHeld bytes) x xs h)) (all_named xs (All-tail (IsHeld bytes) x xs h))

  all_told : (xs : List Span) → All (IsHeld bytes) xs → All (λ s. s.text ≤ s.end) xs → map (given bytes) xs ≡ texted (named_texts bytes xs)
  all_told [] h t = refl
  all_told (x ∷ xs) h t =
      let one = All-head (IsHeld bytes) x xs h in
      ap₂ (λ g gs. g ∷ gs) (ap₂ (λ n o. (n, o)) (named_at bytes x one) (text_at bytes x one (All-head (λ s. s.text ≤ s.end) x xs t)))
      (all_told xs (All-tail (IsHeld bytes) x xs h) (All-tail (λ s. s.text ≤ s.end) x xs t))

  pub are_texts : AreNamedTexts bytes ss
  are_texts =
      record {
        within = λ k d lt. (let h = held k d lt in (h.0, (table k d lt).0, h.2));
        sorted = subst (IsStrictlySortedBy (slice_cmp nat_cmp)) (all_named ss held) strict;
        names = subst (All IsUtf8) (all_named ss held) (All-map IsUtf8 (name_in bytes) ss (λ k d lt. (held k d lt).3));
        texts = texts_of;
      }
    where
      texts_of : All IsUtf8 (values_of (named_texts bytes ss))
      texts_of = All-map IsUtf8 (λ e. e.1) (named_texts bytes ss) (All-map (λ (e : List ℕ × List ℕ). IsUtf8 e.1) (named_text bytes) ss (λ k d lt. subst (λ o. IfSome o IsUtf8) (text_at bytes (get_or ss k d) (held k d lt) ((table k d lt).0)) (held k d lt).4))

  pub table_is : all_given (put_each (map (given bytes) ss) []) ≡ Some (named_texts bytes ss)
  table_is =
      let names : map (name_in bytes) ss ≡ keys_of (map (given bytes) ss) = keys_told ss in
      ap all_given (put_strict (map (given bytes) ss) (subst (IsStrictlySortedBy (slice_cmp nat_cmp)) names strict) ∙ all_told ss held have_texts) ∙ all_texted (named_texts bytes ss)
    where
      keys_told : (xs : List Span) → map (name_in bytes) xs ≡ keys_of (map (given bytes) xs)
      keys_told [] = refl
      keys_told (x ∷ xs) = ap (λ ns. name_in bytes x ∷ ns) (keys_told xs)

-- what is gathered, as the table of what stands in order, where the values are told in other words
pub gathered_in_order : (ms : MemberTexts) (b d : List ℕ) (ss new : List Span) → ms.has_bad_name ≡ false → b ≡ ms.bytes.items → d ≡ b → ss ≡ ms.spans.items
    → put_each (map (given d) ss) [] ≡ put_each (map (given d) new) [] → given_table (gathered ms) ≡ all_given (put_each (map (given b) new) [])
gathered_in_order ms b d ss new good e f g h =
    ap (λ bad. given_table (bad, map (given ms.bytes.items) ms.spans.items)) good
    ∙ ap₂ (λ x xs. all_given (put_each (map (given x) xs) [])) (sym (f ∙ e)) (sym g)
    ∙ ap all_given h ∙ ap (λ x. all_given (put_each (map (given x) new) [])) f
