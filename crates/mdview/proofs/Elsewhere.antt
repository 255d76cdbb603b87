-- The labels that lead elsewhere, one entry of the touched ones after the other.
use Rattle.std.proofs.Common.{◌≡◌, ◌+◌, ◌<◌, ◌||◌, ℕ, zero, suc, Bool, true, false, List, [], ◌∷◌, Option, Some, None, Bor, MatchOption, arith, cond, drop, if◌then◌else◌, is_some, length, option_and_then, option_map, slice_get, refl, ap, sym, ◌∙◌}
use Rattle.std.specs.BTreeMap.{is_at}
use Rattle.std.specs.Cmp.{eq_by_cmp_equiv}
use Rattle.std.specs.Cmp.Lexicographic.{nat_list_cmp_total, nat_list_eq_equiv, slice_cmp}
use Rattle.std.specs.List.{list_any}
use Rattle.std.specs.List.Sorted.{IsStrictlySortedBy}
use Rattle.std.specs.Map.{keys_of}
use Rattle.std.specs.Option.{option_copied, option_or, option_to_list}
use Rattle.std.specs.Ordering.{nat_cmp}
use Rattle.std.specs.Str.{bytes_eq}
use Rattle.std.proofs.lemmas.Bool.{true≢false}
use Rattle.std.proofs.lemmas.Map.{lookup-none}
use Rattle.std.proofs.lemmas.Map.Entries.{none_past_head}
use Rattle.std.proofs.lemmas.Map.Keys.{IsDistinct-from_sorted}
use Rattle.std.proofs.lemmas.Map.Text.{is_eq-slice_cmp}
use Rattle.std.proofs.lemmas.Slice.Eq.{bytes_eq-Decides}
use Rattle.inlinespec.specs.LabelMap.{LinkTarget, target_of}
use Rattle.mdtext.specs.declared.labels.Target.{Target}
use Rattle.mdsource.specs.Changes.{is_same_target}
use Rattle.mdview.specs.LabelTargets.{at, changed}
use Rattle.mdview.specs.ToldLabels.{elsewhere, said, told_in}

abbrev Entries : Type 0
Entries = List (List ℕ × Option Target)

-- what a look-up finds
pub found_led : (r : Option (Bor Target)) (led : Option LinkTarget) → MatchOption r (led ≡ None) (λ t. led ≡ Some (target_of t.now)) → option_map target_of (option_copied r) ≡ led
found_led None led is = sym is
found_led (Some t) led is = sym is

same_bytes : (key q : List ℕ) → is_at (slice_cmp nat_cmp q) key ≡ bytes_eq key q
same_bytes key q = is_eq-slice_cmp q key ∙ nat_list_eq_equiv.symm q key

pub key_is : (key q : List ℕ) → is_at (slice_cmp nat_cmp q) key ≡ true → key ≡ q
key_is key q e = (bytes_eq-Decides key q).0 (sym (same_bytes key q) ∙ e)

-- ---- one entry alone

module _ (key q : List ℕ) (target : Option Target) where
  one_here : is_at (slice_cmp nat_cmp q) key ≡ true → told_in ((key, target) ∷ []) q ≡ Some (option_map target_of target)
  one_here e = ap (λ b. option_map (option_map target_of) (cond b (Some target) None)) e

  one_there : is_at (slice_cmp nat_cmp q) key ≡ false → told_in ((key, target) ∷ []) q ≡ None
  one_there e = ap (λ b. option_map (option_map target_of) (cond b (Some target) None)) e

  module _ (before : List ℕ → Option LinkTarget) where
    if_same : (b : Bool) → is_same_target (before key) (option_map target_of target) ≡ b → is_at (slice_cmp nat_cmp q) key ≡ true
        → elsewhere (told_in ((key, target) ∷ []) q) (before q) ≡ (if b then None else Some (option_map target_of target))
    if_same b same e =
        ap (λ o. elsewhere o (before q)) (one_here e)
        ∙ ap (λ b. if b then None else Some (option_map target_of target)) (ap (λ k. is_same_target (before k) (option_map target_of target)) (sym (key_is key q e)) ∙ same)

    not_here : is_at (slice_cmp nat_cmp q) key ≡ false → elsewhere (told_in ((key, target) ∷ []) q) (before q) ≡ None
    not_here e = ap (λ o. elsewhere o (before q)) (one_there e)

    -- it leads elsewhere, and is put in
    pub put_in : (old new : Entries) → is_same_target (before key) (option_map target_of target) ≡ false → at q new ≡ cond (is_at (slice_cmp nat_cmp key) q) (Some target) (at q old)
        → told_in new q ≡ option_or (elsewhere (told_in ((key, target) ∷ []) q) (before q)) (told_in old q)
    put_in old new other is = by (is_at (slice_cmp nat_cmp q) key) refl
      where
        both : is_at (slice_cmp nat_cmp key) q ≡ is_at (slice_cmp nat_cmp q) key
        both = is_eq-slice_cmp key q ∙ sym (same_bytes key q)

        by : (b : Bool) → is_at (slice_cmp nat_cmp q) key ≡ b → told_in new q ≡ option_or (elsewhere (told_in ((key, target) ∷ []) q) (before q)) (told_in old q)
        by true e =
            ap (option_map (option_map target_of)) (is ∙ ap (λ b. cond b (Some target) (at q old)) (both ∙ e))
            ∙ sym (ap (λ o. option_or o (told_in old q)) (if_same false other e))
        by false e =
            ap (option_map (option_map target_of)) (is ∙ ap (λ b. cond b (Some target) (at q old)) (both ∙ e))
            ∙ sym (ap (λ o. option_or o (told_in old q)) (not_here e))

    -- it leads where it led
    pub left_out : (old : Entries) → is_same_target (before key) (option_map target_of target) ≡ true
        → told_in old q ≡ option_or (elsewhere (told_in ((key, target) ∷ []) q) (before q)) (told_in old q)
    left_out old same = by (is_at (slice_cmp nat_cmp q) key) refl
      where
        by : (b : Bool) → is_at (slice_cmp nat_cmp q) key ≡ b → told_in old q ≡ option_or (elsewhere (told_in ((key, target) ∷ []) q) (before q)) (told_in old q)
        by true e = sym (ap (λ o. option_or o (told_in old q)) (if_same true same e))
        by false e = sym (ap (λ o. option_or o (told_in old q)) (not_here e))

-- ---- the first entry, and the others, which have other keys

module _ (key : List ℕ) (target : Option Target) (es : Entries) (sorted : IsStrictlySortedBy (slice_cmp nat_cmp) (keys_of ((key, target) ∷ es))) (q : List ℕ) where
  no_other : is_at (slice_cmp nat_cmp q) key ≡ true → at q es ≡ None
  no_other e =
      lookup-none (is_at (slice_cmp nat_cmp q)) es
      (none_past_head (eq_by_cmp_equiv nat_list_cmp_total) q (key, target) es (IsDistinct-from_sorted (slice_cmp nat_cmp) (keys_of ((key, target) ∷ es)) sorted) e)

  first_here : is_at (slice_cmp nat_cmp q) key ≡ true → at q ((key, target) ∷ es) ≡ Some target
  first_here e = ap (λ b. cond b (Some target) (at q es)) e

  first_there : is_at (slice_cmp nat_cmp q) key ≡ false → at q ((key, target) ∷ es) ≡ at q es
  first_there e = ap (λ b. cond b (Some target) (at q es)) e

  -- what is said of the entries so far and of those to come is said of all
  pub said_more : (before beside : List ℕ → Option LinkTarget) (led : Option Target) (old new : Option (Option LinkTarget)) → option_map target_of led ≡ option_or (option_map target_of target) (beside key)
      → new ≡ option_or (elsewhere (told_in ((key, led) ∷ []) q) (before q)) old
      → option_or (said (told_in es q) (before q) (beside q)) new ≡ option_or (said (told_in ((key, target) ∷ es) q) (before q) (beside q)) old
  said_more before beside led old new is put = by (is_at (slice_cmp nat_cmp q) key) refl
    where
      by : (b : Bool) → is_at (slice_cmp nat_cmp q) key ≡ b
          → option_or (said (told_in es q) (before q) (beside q)) new ≡ option_or (said (told_in ((key, target) ∷ es) q) (before q) (beside q)) old
      by true e =
          ap (λ o. option_or (said (option_map (option_map target_of) o) (before q) (beside q)) new) (no_other e) ∙ put
          ∙ ap (λ o. option_or (elsewhere o (before q)) old) (one_here key q led e ∙ ap Some (is ∙ ap (λ k. option_or (option_map target_of target) (beside k)) (key_is key q e)))
          ∙ sym (ap (λ o. option_or (said (option_map (option_map target_of) o) (before q) (beside q)) old) (first_here e))
      by false e =
          ap (option_or (said (told_in es q) (before q) (beside q))) (put ∙ ap (λ o. option_or (elsewhere o (before q)) old) (one_there key q led e))
          ∙ sym (ap (λ o. option_or (said (option_map (option_map target_of) o) (before q) (beside q)) old) (first_there e))

  -- a label that was set leads where it does when the others are
  pub led_more : (old new : Option LinkTarget) → new ≡ changed (at q ((key, target) ∷ [])) old → changed (at q es) new ≡ changed (at q ((key, target) ∷ es)) old
  led_more old new set = by (is_at (slice_cmp nat_cmp q) key) refl
    where
      by : (b : Bool) → is_at (slice_cmp nat_cmp q) key ≡ b → changed (at q es) new ≡ changed (at q ((key, target) ∷ es)) old
      by true e =
          ap (λ o. changed o new) (no_other e) ∙ set ∙ ap (λ b. changed (cond b (Some target) None) old) e
          ∙ sym (ap (λ o. changed o old) (first_here e))
      by false e =
          ap (changed (at q es)) (set ∙ ap (λ b. changed (cond b (Some target) None) old) e)
          ∙ sym (ap (λ o. changed o old) (first_there e))

  -- and the others have room still
  pub room_more : (old new : Entries) → (is_some (at q ((key, target) ∷ es)) ≡ true → is_some (at q old) ≡ true)
      → (bytes_eq q key ≡ false → is_some (at q new) ≡ is_some (at q old)) → is_some (at q es) ≡ true → is_some (at q new) ≡ true
  room_more old new room stays some = by (is_at (slice_cmp nat_cmp q) key) refl
    where
      by : (b : Bool) → is_at (slice_cmp nat_cmp q) key ≡ b → is_some (at q new) ≡ true
      by true e = absurd (true≢false (sym some ∙ ap is_some (no_other e)))
      by false e = stays (sym (is_eq-slice_cmp q key) ∙ e) ∙ room (ap is_some (first_there e) ∙ some)

-- the entry has room itself
pub room_here : (key : List ℕ) (target : Option Target) (es old : Entries) → (is_some (at key ((key, target) ∷ es)) ≡ true → is_some (at key old) ≡ true) → is_some (at key old) ≡ true
room_here key target es old room = room (ap (λ b. is_some (cond b (Some target) (at key es))) (is_eq-slice_cmp key key ∙ (bytes_eq-Decides key key).1 refl))

-- ---- one label that is set, or that gets room

module _ (old new : Entries) (key q : List ℕ) where
  -- it leads where it is set to lead, and the others where they led
  pub set_leads : (target : Option Target) (w : Option (Option Target)) → option_and_then (option_map target_of) w ≡ option_map target_of target
      → at q new ≡ cond (is_at (slice_cmp nat_cmp key) q) w (at q old)
      → option_and_then (option_map target_of) (at q new) ≡ changed (at q ((key, target) ∷ [])) (option_and_then (option_map target_of) (at q old))
  set_leads target w led is = by (bytes_eq key q) refl
    where
      by : (b : Bool) → bytes_eq key q ≡ b → option_and_then (option_map target_of) (at q new) ≡ changed (at q ((key, target) ∷ [])) (option_and_then (option_map target_of) (at q old))
      by true e =
          ap (option_and_then (option_map target_of)) (is ∙ ap (λ b. cond b w (at q old)) (is_eq-slice_cmp key q ∙ e)) ∙ led
          ∙ sym (ap (λ b. changed (cond b (Some target) None) (option_and_then (option_map target_of) (at q old))) (same_bytes key q ∙ e))
      by false e =
          ap (option_and_then (option_map target_of)) (is ∙ ap (λ b. cond b w (at q old)) (is_eq-slice_cmp key q ∙ e))
          ∙ sym (ap (λ b. changed (cond b (Some target) None) (option_and_then (option_map target_of) (at q old))) (same_bytes key q ∙ e))

  pub set_leaves : (w : Option (Option Target)) → at q new ≡ cond (is_at (slice_cmp nat_cmp key) q) w (at q old) → bytes_eq q key ≡ false → is_some (at q new) ≡ is_some (at q old)
  set_leaves w is other = ap is_some (is ∙ ap (λ b. cond b w (at q old)) (is_eq-slice_cmp key q ∙ nat_list_eq_equiv.symm key q ∙ other))

  pub room_made : at q new ≡ cond (is_at (slice_cmp nat_cmp key) q) (Some None) (at q old) → is_some (at q new) ≡ (bytes_eq q key || is_some (at q old))
  room_made is = by (bytes_eq q key) refl
    where
      both : is_at (slice_cmp nat_cmp key) q ≡ bytes_eq q key
      both = is_eq-slice_cmp key q ∙ nat_list_eq_equiv.symm key q

      by : (b : Bool) → bytes_eq q key ≡ b → is_some (at q new) ≡ (b || is_some (at q old))
      by true e = ap is_some (is ∙ ap (λ b. cond b (Some None) (at q old)) (both ∙ e))
      by false e = ap is_some (is ∙ ap (λ b. cond b (Some None) (at q old)) (both ∙ e))

-- each label so far has room, or is to come
pub room_next : (key q : List ℕ) (old new others : Bool) → new ≡ (bytes_eq q key || old) → (old || (is_at (slice_cmp nat_cmp q) key || others)) ≡ true → (new || others) ≡ true
room_next key q old new others is some = ap (λ b. b || others) is ∙ by (bytes_eq q key) old (ap (λ b. old || (b || others)) (sym (is_eq-slice_cmp q key)) ∙ some)
  where
    by : (b o : Bool) → (o || (b || others)) ≡ true → ((b || o) || others) ≡ true
    by true o h = refl
    by false true h = refl
    by false false h = h

-- ---- labels that were asked for

-- one place of a list, and those behind it
pub any_from : {A : Type 0} (f : A → Bool) (xs : List A) (i : ℕ) → i < length xs → list_any f (drop i xs) ≡ (list_any f (option_to_list (slice_get xs i)) || list_any f (drop (i + 1) xs))
any_from f [] i below = absurd (omega arith)
any_from f (x ∷ xs) zero below = by (f x)
  where
    by : (b : Bool) → (b || list_any f xs) ≡ ((b || false) || list_any f xs)
    by true = refl
    by false = refl
any_from f (x ∷ xs) (suc i) below =
    let next : suc (i + 1) ≡ suc i + 1 = omega arith in
    any_from f xs i (omega arith) ∙ ap (λ n. list_any f (option_to_list (slice_get xs i)) || list_any f (drop n (x ∷ xs))) next

no_value : (o : Option (Option Target)) → is_some o ≡ false → option_and_then (option_map target_of) o ≡ None
no_value None h = refl
no_value (Some t) h = absurd (true≢false h)

-- where room is made, each label leads where it led
pub room_leads : (old new : Entries) (key q : List ℕ) → is_some (at key old) ≡ false → at q new ≡ cond (is_at (slice_cmp nat_cmp key) q) (Some None) (at q old)
    → option_and_then (option_map target_of) (at q new) ≡ option_and_then (option_map target_of) (at q old)
room_leads old new key q none is = by (is_at (slice_cmp nat_cmp key) q) refl
  where
    by : (b : Bool) → is_at (slice_cmp nat_cmp key) q ≡ b → option_and_then (option_map target_of) (at q new) ≡ option_and_then (option_map target_of) (at q old)
    by true h =
        ap (option_and_then (option_map target_of)) (is ∙ ap (λ b. cond b (Some None) (at q old)) h)
        ∙ sym (no_value (at q old) (ap (λ k. is_some (at k old)) (key_is q key h) ∙ none))
    by false h = ap (option_and_then (option_map target_of)) (is ∙ ap (λ b. cond b (Some None) (at q old)) h)
