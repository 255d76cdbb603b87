-- Texts by their names: where a name stands in a table, and what is held as the bytes grow.
use Rattle.std.proofs.Common.{◌≡◌, ℕ, zero, suc, ◌+◌, ◌-◌, ◌<◌, ◌≤◌, List, [], ◌∷◌, ◌++◌, length, take, drop, map, get_or, set, refl, sym, ap, ap₂, ◌∙◌, subst, arith, append_assoc, Ordering, Less, Equal, Greater, Result, Ok, Err, None, Some, ⊎_elim}
use Rattle.std.proofs.lemmas.Bool.{cases_order}
use Rattle.std.proofs.lemmas.Cmp.{nat_list_cmp_total}
use Rattle.std.proofs.lemmas.List.{take-append-le, drop-append-le, length-drop, take_all, length-append, length-map, map-set, get_or-map}
use Rattle.std.proofs.Math.Seq.{take-append_seam, drop-append_seam}
use Rattle.std.proofs.lemmas.List.Elements.{All-head, All-tail, All-append, All-cons, All-take, All-drop, All-set, All-weaker, All-get_or}
use Rattle.std.proofs.lemmas.Map.Entries.{lookup_head, lookup_tail}
use Rattle.std.proofs.lemmas.Map.Lookups.{exact_bytes}
use Rattle.std.proofs.lemmas.Map.Text.{is_eq-slice_cmp}
use Rattle.std.proofs.lemmas.Map.Views.{All-keys-insert_entry, All-values-insert_entry}
use Rattle.std.specs.BTreeMap.{insert_entry}
use Rattle.std.specs.Cmp.Lexicographic.{slice_cmp}
use Rattle.std.specs.List.{All, AllByRecursion, insert, slice_range}
use Rattle.std.specs.List.Sorted.{IsStrictlySortedBy}
use Rattle.std.specs.Map.{keys_of, lookup, values_of}
use Rattle.std.specs.Ordering.{is_eq, nat_cmp, match_ordering, ordering_reverse}
use Rattle.std.specs.Str.{IsUtf8, bytes_eq}
use Rattle.mdtext.specs.EntityTable.{EntityNames}
use Rattle.mdtext.specs.NamedTexts.{named_text, named_texts, LiesWithin, AreNamedTexts, name_at, IsPlaceOf, StandsBehind, StandsBefore}
use Rattle.mdtext.specs.declared.named_texts.Span.{Span}

abbrev Entry : Type 0
Entry = List ℕ × List ℕ

abbrev Sorted : EntityNames → Type 0
Sorted table = IsStrictlySortedBy (slice_cmp nat_cmp) (keys_of table)

-- ---- a text that is put in

-- a name that is not there goes to where it would stand
pub put_in : (table : EntityNames) (name text : List ℕ) (i : ℕ) → i ≤ length table → StandsBehind table name i → StandsBefore table name i
    → insert_entry (slice_cmp nat_cmp) table name text ≡ insert table i (name, text)
put_in [] name text zero h b a = refl
put_in [] name text (suc i) h b a = absurd (omega (arith, h))
put_in (e ∷ es) name text zero h b a =
    let here : slice_cmp nat_cmp name e.0 ≡ Less = a 0 (omega arith) (omega arith) in
    rw here refl
put_in (e ∷ es) name text (suc i) h b a =
    let here : slice_cmp nat_cmp name e.0 ≡ Greater = b 0 (omega arith) in
    rw here (ap (λ t. e ∷ t) (put_in es name text i (omega (arith, h)) (λ j lt. b (suc j) (omega (arith, lt))) (λ j le lt. a (suc j) (omega (arith, le)) (omega (arith, lt)))))

-- a text takes the place of the one at its name
pub put_over : (table : EntityNames) (name text : List ℕ) (i : ℕ) → i < length table → StandsBehind table name i → slice_cmp nat_cmp name (name_at table i) ≡ Equal
    → insert_entry (slice_cmp nat_cmp) table name text ≡ set table i (name, text)
put_over [] name text i h b at = absurd (omega (arith, h))
put_over (e ∷ es) name text zero h b at =
    let here : slice_cmp nat_cmp name e.0 ≡ Equal = at in
    rw here (ap (λ n. (n, text) ∷ es) (sym (exact_bytes name e.0 here)))
put_over (e ∷ es) name text (suc i) h b at =
    let here : slice_cmp nat_cmp name e.0 ≡ Greater = b 0 (omega arith) in
    rw here (ap (λ t. e ∷ t) (put_over es name text i (omega (arith, h)) (λ j lt. b (suc j) (omega (arith, lt))) at))

-- ---- the names stay in order

module _ (P : List ℕ → Type 0) (name text : List ℕ) where
  one_put : (e : Entry) (es more : EntityNames) (o : Ordering) → P name → AllByRecursion P (keys_of (e ∷ es)) → AllByRecursion P (keys_of more)
      → AllByRecursion P (keys_of (match_ordering o ((name, text) ∷ e ∷ es) ((e.0, text) ∷ es) (e ∷ more)))
  one_put e es more Less p a r = (p, a)
  one_put e es more Equal p a r = a
  one_put e es more Greater p a r = (a.0, r)

  all_put : (table : EntityNames) → P name → AllByRecursion P (keys_of table) → AllByRecursion P (keys_of (insert_entry (slice_cmp nat_cmp) table name text))
  all_put [] p a = (p, tt)
  all_put (e ∷ es) p a = one_put e es (insert_entry (slice_cmp nat_cmp) es name text) (slice_cmp nat_cmp name e.0) p a (all_put es p a.1)

all_above : (name first : List ℕ) (ks : List (List ℕ)) → slice_cmp nat_cmp name first ≡ Less → AllByRecursion (λ k. slice_cmp nat_cmp first k ≡ Less) ks → AllByRecursion (λ k. slice_cmp nat_cmp name k ≡ Less) ks
all_above name first [] l a = tt
all_above name first (k ∷ ks) l a = (nat_list_cmp_total.trans name first k l a.0, all_above name first ks l a.1)

turned : (a b : List ℕ) → slice_cmp nat_cmp a b ≡ Greater → slice_cmp nat_cmp b a ≡ Less
turned a b h = nat_list_cmp_total.antisymm b a ∙ ap ordering_reverse h

turned_back : (a b : List ℕ) → slice_cmp nat_cmp a b ≡ Less → slice_cmp nat_cmp b a ≡ Greater
turned_back a b h = nat_list_cmp_total.antisymm b a ∙ ap ordering_reverse h

sorted_by : (name text : List ℕ) (e : Entry) (es more : EntityNames) (o : Ordering) → slice_cmp nat_cmp name e.0 ≡ o → Sorted (e ∷ es) → more ≡ insert_entry (slice_cmp nat_cmp) es name text → Sorted more
    → Sorted (match_ordering o ((name, text) ∷ e ∷ es) ((e.0, text) ∷ es) (e ∷ more))
unfolding IsStrictlySortedBy
sorted_by name text e es more Less h s is r = ((h, all_above name e.0 (keys_of es) h s.0), s)
sorted_by name text e es more Equal h s is r = s
sorted_by name text e es more Greater h s is r =
    (subst (λ m. AllByRecursion (λ k. slice_cmp nat_cmp e.0 k ≡ Less) (keys_of m)) (sym is) (all_put (λ k. slice_cmp nat_cmp e.0 k ≡ Less) name text es (turned name e.0 h) s.0), r)

pub sorted_put : (table : EntityNames) (name text : List ℕ) → Sorted table → Sorted (insert_entry (slice_cmp nat_cmp) table name text)
unfolding IsStrictlySortedBy
sorted_put [] name text s = (tt, tt)
sorted_put (e ∷ es) name text s = sorted_by name text e es (insert_entry (slice_cmp nat_cmp) es name text) (slice_cmp nat_cmp name e.0) refl s refl (sorted_put es name text s.1)

-- ---- what a look at one name tells

at_key : (P : List ℕ → Type 0) (table : EntityNames) (i : ℕ) → i < length table → AllByRecursion P (keys_of table) → P (name_at table i)
at_key P [] i h a = absurd (omega (arith, h))
at_key P (e ∷ es) zero h a = a.0
at_key P (e ∷ es) (suc i) h a = at_key P es i (omega (arith, h)) a.1

in_order : (table : EntityNames) (i j : ℕ) → Sorted table → i < j → j < length table → slice_cmp nat_cmp (name_at table i) (name_at table j) ≡ Less
unfolding IsStrictlySortedBy
in_order [] i j s lt h = absurd (omega (arith, h))
in_order (e ∷ es) i zero s lt h = absurd (omega (arith, lt))
in_order (e ∷ es) zero (suc j) s lt h = at_key (λ k. slice_cmp nat_cmp e.0 k ≡ Less) es j (omega (arith, h)) s.0
in_order (e ∷ es) (suc i) (suc j) s lt h = in_order es i j s.1 (omega (arith, lt)) (omega (arith, h))

pub behind_more : (table : EntityNames) (name : List ℕ) (i : ℕ) → Sorted table → i < length table → slice_cmp nat_cmp name (name_at table i) ≡ Greater → StandsBehind table name (i + 1)
behind_more table name i s h g = λ j lt.
    ⊎_elim
    (λ same. subst (λ k. slice_cmp nat_cmp name (name_at table k) ≡ Greater) (sym same) g)
    (λ other. ⊎_elim
    (λ less. turned_back (name_at table j) name (nat_list_cmp_total.trans (name_at table j) (name_at table i) name (in_order table j i s less h) (turned name (name_at table i) g)))
    (λ more. absurd (omega (arith, lt, more))) other)
    (cases_order j i)

pub before_more : (table : EntityNames) (name : List ℕ) (i : ℕ) → Sorted table → slice_cmp nat_cmp name (name_at table i) ≡ Less → StandsBefore table name i
before_more table name i s l = λ j le lt.
    ⊎_elim
    (λ same. subst (λ k. slice_cmp nat_cmp name (name_at table k) ≡ Less) (sym same) l)
    (λ other. ⊎_elim
    (λ less. absurd (omega (arith, le, less)))
    (λ more. nat_list_cmp_total.trans name (name_at table i) (name_at table j) l (in_order table i j s more lt)) other)
    (cases_order j i)

behind_equal : (table : EntityNames) (name : List ℕ) (i : ℕ) → Sorted table → i < length table → slice_cmp nat_cmp name (name_at table i) ≡ Equal → StandsBehind table name i
behind_equal table name i s h e =
    λ j lt. nat_list_cmp_total.congr name (name_at table i) (name_at table j) e ∙ turned_back (name_at table j) (name_at table i) (in_order table j i s lt h)

-- ---- the bytes grow

pub part_kept : (bytes more : List ℕ) (a b : ℕ) → a ≤ b → b ≤ length bytes → slice_range (bytes ++ more) a b ≡ slice_range bytes a b
part_kept bytes more a b le within =
    let enough : b - a ≤ length (drop a bytes) = omega (arith, le, within, length-drop a bytes) in
    ap (take (b - a)) (drop-append-le a bytes more (omega (arith, le, within))) ∙ take-append-le (b - a) (drop a bytes) more enough

text_kept : (bytes more : List ℕ) (s : Span) → LiesWithin (length bytes) s → named_text (bytes ++ more) s ≡ named_text bytes s
text_kept bytes more s h =
    ap₂ (λ a b. (a, b)) (part_kept bytes more s.name s.text h.0 (omega (arith, h.1, h.2))) (part_kept bytes more s.text s.end h.1 h.2)

pub texts_kept : (bytes more : List ℕ) (spans : List Span) → All (LiesWithin (length bytes)) spans → named_texts (bytes ++ more) spans ≡ named_texts bytes spans
texts_kept bytes more [] h = refl
texts_kept bytes more (s ∷ ss) h = ap₂ (λ t ts. t ∷ ts) (text_kept bytes more s (All-head (LiesWithin (length bytes)) s ss h)) (texts_kept bytes more ss (All-tail (LiesWithin (length bytes)) s ss h))

-- what was appended is what is lent there
pub text_there : (bytes name text : List ℕ) (s : Span) → s.name ≡ length bytes → s.text ≡ length bytes + length name → s.end ≡ length (bytes ++ name ++ text) → named_text (bytes ++ name ++ text) s ≡ (name, text)
text_there bytes name text s a b c =
    let whole : length (bytes ++ name ++ text) ≡ length bytes + (length name + length text) = ap length (append_assoc bytes name text) ∙ length-append bytes (name ++ text) ∙ ap (λ n. length bytes + n) (length-append name text) in
    let front : drop s.name (bytes ++ name ++ text) ≡ name ++ text = ap₂ drop a (append_assoc bytes name text) ∙ drop-append_seam bytes (name ++ text) in
    let past : drop s.text (bytes ++ name ++ text) ≡ text = ap (λ n. drop n (bytes ++ name ++ text)) (b ∙ sym (length-append bytes name)) ∙ drop-append_seam (bytes ++ name) text in
    let size : s.text - s.name ≡ length name = omega (arith, a, b) in
    let enough : length text ≤ s.end - s.text = omega (arith, b, c, whole) in
    ap₂ (λ x y. (x, y)) (ap₂ take size front ∙ take-append_seam name text) (ap (take (s.end - s.text)) past ∙ take_all (s.end - s.text) text enough)

-- ---- what is found

pub looked_up_there : (table : EntityNames) (name : List ℕ) (i : ℕ) → i < length table → StandsBehind table name i → slice_cmp nat_cmp name (name_at table i) ≡ Equal → lookup (bytes_eq name) table ≡ Some (get_or table i ([], [])).1
looked_up_there [] name i h b e = absurd (omega (arith, h))
looked_up_there (x ∷ xs) name zero h b e = lookup_head (bytes_eq name) x xs (sym (is_eq-slice_cmp name x.0) ∙ ap is_eq e)
looked_up_there (x ∷ xs) name (suc i) h b e =
    lookup_tail (bytes_eq name) x xs (sym (is_eq-slice_cmp name x.0) ∙ ap is_eq (b 0 (omega arith)))
    ∙ looked_up_there xs name i (omega (arith, h)) (λ j lt. b (suc j) (omega (arith, lt))) e

pub looked_up_nowhere : (table : EntityNames) (name : List ℕ) (i : ℕ) → StandsBehind table name i → StandsBefore table name i → lookup (bytes_eq name) table ≡ None
looked_up_nowhere [] name i b a = refl
looked_up_nowhere (x ∷ xs) name zero b a =
    lookup_tail (bytes_eq name) x xs (sym (is_eq-slice_cmp name x.0) ∙ ap is_eq (a 0 (omega arith) (omega arith)))
    ∙ looked_up_nowhere xs name zero (λ j lt. absurd (omega (arith, lt))) (λ j le lt. a (suc j) (omega arith) (omega (arith, lt)))
looked_up_nowhere (x ∷ xs) name (suc i) b a =
    lookup_tail (bytes_eq name) x xs (sym (is_eq-slice_cmp name x.0) ∙ ap is_eq (b 0 (omega arith)))
    ∙ looked_up_nowhere xs name i (λ j lt. b (suc j) (omega (arith, lt))) (λ j le lt. a (suc j) (omega (arith, le)) (omega (arith, lt)))

-- ---- what is held

pub no_texts : (bytes : List ℕ) (spans : List Span) → spans ≡ [] → AreNamedTexts bytes spans
unfolding IsStrictlySortedBy
no_texts bytes spans e = subst (AreNamedTexts bytes) (sym e) (record { within = λ k d lt. absurd (omega (arith, lt)); sorted = tt; names = λ k d lt. absurd (omega (arith, lt)); texts = λ k d lt. absurd (omega (arith, lt)) })

module _ (bytes : List ℕ) (spans : List Span) (held : AreNamedTexts bytes spans) (name : List ℕ) (i : ℕ) (s d : Span) (within : i < length spans) (is : s ≡ get_or spans i d) where
  entry_is : get_or (named_texts bytes spans) i ([], []) ≡ named_text bytes s
  entry_is = get_or-map (named_text bytes) spans i d ([], []) within ∙ ap (named_text bytes) (sym is)

  here : slice_cmp nat_cmp name (name_at (named_texts bytes spans) i) ≡ slice_cmp nat_cmp name (named_text bytes s).0
  here = ap (λ e. slice_cmp nat_cmp name e.0) entry_is

  inside : i < length (named_texts bytes spans)
  inside = omega (arith, within, length-map spans (named_text bytes))

  pub behind_step : Greater ≡ slice_cmp nat_cmp name (named_text bytes s).0 → StandsBehind (named_texts bytes spans) name (i + 1)
  behind_step g = behind_more (named_texts bytes spans) name i held.sorted inside (here ∙ sym g)

  pub before_step : Less ≡ slice_cmp nat_cmp name (named_text bytes s).0 → StandsBefore (named_texts bytes spans) name i
  before_step l = before_more (named_texts bytes spans) name i held.sorted (here ∙ sym l)

  pub found_step : Equal ≡ slice_cmp nat_cmp name (named_text bytes s).0 → IsPlaceOf (named_texts bytes spans) name (Ok i)
  found_step e = (inside, behind_equal (named_texts bytes spans) name i held.sorted inside (here ∙ sym e), here ∙ sym e)

  pub lies_within : LiesWithin (length bytes) s
  lies_within = subst (LiesWithin (length bytes)) (sym is) (All-get_or (LiesWithin (length bytes)) spans i d within held.within)

  pub name_is_utf8 : IsUtf8 (named_text bytes s).0
  name_is_utf8 =
      subst IsUtf8 (get_or-map (λ e. e.0) (named_texts bytes spans) i ([], []) [] inside ∙ ap (λ e. e.0) entry_is)
      (All-get_or IsUtf8 (keys_of (named_texts bytes spans)) i [] (omega (arith, inside, length-map (named_texts bytes spans) (λ e. e.0))) held.names)

  pub text_is_utf8 : IsUtf8 (named_text bytes s).1
  text_is_utf8 =
      subst IsUtf8 (get_or-map (λ e. e.1) (named_texts bytes spans) i ([], []) [] inside ∙ ap (λ e. e.1) entry_is)
      (All-get_or IsUtf8 (values_of (named_texts bytes spans)) i [] (omega (arith, inside, length-map (named_texts bytes spans) (λ e. e.1))) held.texts)

  pub text_found : IsPlaceOf (named_texts bytes spans) name (Ok i) → Some (named_text bytes s).1 ≡ lookup (bytes_eq name) (named_texts bytes spans)
  text_found h = ap (λ e. Some e.1) (sym entry_is) ∙ sym (looked_up_there (named_texts bytes spans) name i h.0 h.1 h.2)

-- the same place, where the values are told in other words
pub place_seen : (b c n m : List ℕ) (ss ts : List Span) (r : Result ℕ ℕ) → b ≡ c → ss ≡ ts → n ≡ m → IsPlaceOf (named_texts b ss) n r → IsPlaceOf (named_texts c ts) m r
place_seen b c n m ss ts r e f g h = subst (λ x. IsPlaceOf (named_texts x ts) m r) e (subst (λ x. IsPlaceOf (named_texts b x) m r) f (subst (λ x. IsPlaceOf (named_texts b ss) x r) g h))

-- a name and its text may both be lent, where the values are told in other words
pub both_utf8 : (b bytes : List ℕ) (ss spans : List Span) (i : ℕ) (d : Span) → b ≡ bytes → ss ≡ spans → AreNamedTexts bytes spans → i < length ss → IsUtf8 (named_text b (get_or ss i d)).0 × IsUtf8 (named_text b (get_or ss i d)).1
both_utf8 b bytes ss spans i d e f held within =
    let moved = subst (AreNamedTexts b) (sym f) (subst (λ x. AreNamedTexts x spans) (sym e) held) in
    (name_is_utf8 b ss moved [] i (get_or ss i d) d within refl, text_is_utf8 b ss moved [] i (get_or ss i d) d within refl)

-- ---- what is held after a text was put in

map-insert : {A B : Type 0} (f : A → B) (xs : List A) (i : ℕ) (x : A) → map f (insert xs i x) ≡ insert (map f xs) i (f x)
map-insert f [] zero x = refl
map-insert f [] (suc i) x = refl
map-insert f (y ∷ ys) zero x = refl
map-insert f (y ∷ ys) (suc i) x = ap (λ t. f y ∷ t) (map-insert f ys i x)

module _ (bytes name text longer : List ℕ) (spans : List Span) (held : AreNamedTexts bytes spans) (s : Span) (named : IsUtf8 name) (utf8 : IsUtf8 text) (grown : longer ≡ bytes ++ name ++ text) (n : s.name ≡ length bytes) (t : s.text ≡ length bytes + length name) (e : s.end ≡ length longer) where
  kept : named_texts longer spans ≡ named_texts bytes spans
  kept = ap (λ b. named_texts b spans) (grown ∙ append_assoc bytes name text) ∙ texts_kept bytes (name ++ text) spans held.within

  there : named_text longer s ≡ (name, text)
  there = ap (λ b. named_text b s) grown ∙ text_there bytes name text s n t (e ∙ ap length grown)

  pub view_over : (i : ℕ) → IsPlaceOf (named_texts bytes spans) name (Ok i) → named_texts longer (set spans i s) ≡ insert_entry (slice_cmp nat_cmp) (named_texts bytes spans) name text
  view_over i h = map-set (named_text longer) spans i s ∙ ap₂ (λ l x. set l i x) kept there ∙ sym (put_over (named_texts bytes spans) name text i h.0 h.1 h.2)

  pub view_in : (i : ℕ) → IsPlaceOf (named_texts bytes spans) name (Err i) → named_texts longer (insert spans i s) ≡ insert_entry (slice_cmp nat_cmp) (named_texts bytes spans) name text
  view_in i h = map-insert (named_text longer) spans i s ∙ ap₂ (λ l x. insert l i x) kept there ∙ sym (put_in (named_texts bytes spans) name text i h.0 h.1 h.2)

  long : length longer ≡ length bytes + (length name + length text)
  long = ap length (grown ∙ append_assoc bytes name text) ∙ length-append bytes (name ++ text) ∙ ap (λ k. length bytes + k) (length-append name text)

  s_within : LiesWithin (length longer) s
  s_within = (omega (arith, n, t), omega (arith, t, e, long), omega (arith, e))

  all_within : All (LiesWithin (length longer)) spans
  all_within = All-weaker (LiesWithin (length bytes)) (LiesWithin (length longer)) (λ x h. (h.0, h.1, omega (arith, h.2, long))) spans held.within

  held_by : (new : List Span) → All (LiesWithin (length longer)) new → named_texts longer new ≡ insert_entry (slice_cmp nat_cmp) (named_texts bytes spans) name text → AreNamedTexts longer new
  held_by new within view =
      record {
        within = within;
        sorted = subst Sorted (sym view) (sorted_put (named_texts bytes spans) name text held.sorted);
        names = subst (λ table. All IsUtf8 (keys_of table)) (sym view) (All-keys-insert_entry (slice_cmp nat_cmp) name text IsUtf8 (named_texts bytes spans) held.names named);
        texts = subst (λ table. All IsUtf8 (values_of table)) (sym view) (All-values-insert_entry (slice_cmp nat_cmp) name text IsUtf8 (named_texts bytes spans) held.texts utf8);
      }

  pub held_over : (i : ℕ) → IsPlaceOf (named_texts bytes spans) name (Ok i) → AreNamedTexts longer (set spans i s)
  held_over i h = held_by (set spans i s) (All-set (LiesWithin (length longer)) spans i s s_within all_within) (view_over i h)

  pub held_in : (i : ℕ) → IsPlaceOf (named_texts bytes spans) name (Err i) → AreNamedTexts longer (insert spans i s)
  held_in i h = let lies = LiesWithin (length longer) in held_by (insert spans i s) (All-append lies (take i spans) (s ∷ drop i spans) (All-take lies i spans all_within) (All-cons lies s (drop i spans) s_within (All-drop lies i spans all_within))) (view_in i h)

-- bytes that are told of by no span change nothing
pub held_still : (bytes more longer : List ℕ) (spans : List Span) → AreNamedTexts bytes spans → longer ≡ bytes ++ more → AreNamedTexts longer spans
held_still bytes more longer spans held grown =
    let view = texts_kept bytes more spans held.within in
    subst (λ b. AreNamedTexts b spans) (sym grown) (record {
      within = All-weaker (LiesWithin (length bytes)) (LiesWithin (length (bytes ++ more))) (λ x h. (h.0, h.1, omega (arith, h.2, length-append bytes more))) spans held.within;
      sorted = subst Sorted (sym view) held.sorted;
      names = subst (λ table. All IsUtf8 (keys_of table)) (sym view) held.names;
      texts = subst (λ table. All IsUtf8 (values_of table)) (sym view) held.texts;
    })
