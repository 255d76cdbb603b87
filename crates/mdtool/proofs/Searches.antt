-- The search for an LF, carried on from where it had come.
use Rattle.std.proofs.Common.{◌≡◌, ℕ, ◌+◌, ◌-◌, ◌<◌, ◌≤◌, Bool, true, false, List, Option, None, Some, ◌++◌, take, drop, length, get_or, ap, sym, refl, ◌∙◌, arith, length-drop, IfSome, IfNone}
use Rattle.std.specs.Prelude.{◌||◌, ◌==◌}
use Rattle.std.specs.List.{copy_within, position_or_len}
use Rattle.std.proofs.Math.Seq.{take-add, take-length}
use Rattle.std.proofs.lemmas.Bool.{eqb-true}
use Rattle.std.proofs.lemmas.List.{drop-drop, take_all, take-append-drop, get_or-drop}
use Rattle.std.proofs.lemmas.List.Edits.{take-paste}
use Rattle.std.proofs.lemmas.List.Folds.{list_any-append}
use Rattle.std.proofs.lemmas.List.Sums.{position_or_len_is}
use Rattle.memchr.specs.Find.{IsFirstByte, is_byte}
use Rattle.mdtext.proofs.PlainRuns.{front_plain}
use Rattle.mdtool.specs.Commands.{has_break}

or_of : (x y : Bool) → x ≡ false → y ≡ false → (x || y) ≡ false
or_of true y e f = e
or_of false y e f = f

pub break_append : (xs ys : List ℕ) → has_break xs ≡ false → has_break ys ≡ false → has_break (xs ++ ys) ≡ false
break_append xs ys e f = list_any-append (λ byte. byte == 10) xs ys ∙ or_of (has_break xs) (has_break ys) e f

rest_from : (taken : List ℕ) (start searched : ℕ) → start ≤ searched → drop searched taken ≡ drop (searched - start) (drop start taken)
rest_from taken start searched order = let e : start + (searched - start) ≡ searched = omega arith in ap (λ n. drop n taken) (sym e) ∙ sym (drop-drop (searched - start) start taken)

-- the bytes not searched yet, as the code has them
slice_is : (bytes taken : List ℕ) (n : ℕ) → bytes ≡ taken → take (length bytes - n) (drop n bytes) ≡ drop n taken
slice_is bytes taken n e = take_all (length bytes - n) (drop n bytes) (omega (arith, length-drop n bytes)) ∙ ap (drop n) e

-- where an LF was found, the line before it has none
pub found : (bytes taken : List ℕ) (start searched at : ℕ) → bytes ≡ taken → start ≤ searched → searched ≤ length taken → has_break (take (searched - start) (drop start taken)) ≡ false
    → (at < length (take (length bytes - searched) (drop searched bytes))) × (get_or (take (length bytes - searched) (drop searched bytes)) at 0 ≡ 10) × (has_break (take at (take (length bytes - searched) (drop searched bytes))) ≡ false)
    → (searched + at < length taken) × (get_or (drop start taken) (searched + at - start) 0 ≡ 10) × (has_break (take (searched + at - start) (drop start taken)) ≡ false)
found bytes taken start searched at same order within before facts =
    let rest = slice_is bytes taken searched same in
    let below : at < length (drop searched taken) = rw rest at facts.0 in
    let there : get_or (drop searched taken) at 0 ≡ 10 = rw rest at facts.1 in
    let after : has_break (take at (drop (searched - start) (drop start taken))) ≡ false = rw (← rest_from taken start searched order, ← rest) facts.2 in
    let front : searched + at - start ≡ searched - start + at = omega arith in
    let place : start + (searched + at - start) ≡ searched + at = omega arith in (
      omega (arith, length-drop searched taken),
      get_or-drop start taken (searched + at - start) 0 ∙ ap (λ n. get_or taken n 0) place ∙ sym (get_or-drop searched taken at 0) ∙ there,
      rw (front, take-add (searched - start) at (drop start taken)) (break_append (take (searched - start) (drop start taken)) (take at (drop (searched - start) (drop start taken))) before after),
    )

-- where none was found, there is none
pub not_found : (bytes taken : List ℕ) (start searched : ℕ) → bytes ≡ taken → start ≤ searched → has_break (take (searched - start) (drop start taken)) ≡ false
    → has_break (take (length bytes - searched) (drop searched bytes)) ≡ false → has_break (drop start taken) ≡ false
not_found bytes taken start searched same order before after =
    let behind : has_break (drop (searched - start) (drop start taken)) ≡ false = rw (← rest_from taken start searched order, ← slice_is bytes taken searched same) after in
    ap has_break (sym (take-append-drop (searched - start) (drop start taken)))
    ∙ break_append (take (searched - start) (drop start taken)) (drop (searched - start) (drop start taken)) before behind

-- also before any place that is behind it
pub none_before : (taken : List ℕ) (start n : ℕ) → length taken ≤ n + start → has_break (drop start taken) ≡ false → has_break (take n (drop start taken)) ≡ false
none_before taken start n whole none = rw (take_all n (drop start taken) (omega (arith, length-drop start taken))) none

fails : (b : Bool) → ¬ (b ≡ true) → b ≡ false
fails true h = absurd (h refl)
fails false h = refl

-- where an LF was found, there is none before it
pub first_found : (bs : List ℕ) (r : Option ℕ) → IsFirstByte (is_byte 10) bs r → IfSome r (λ at. (at < length bs) × (get_or bs at 0 ≡ 10) × (has_break (take at bs) ≡ false))
first_found bs None h = tt
first_found bs (Some k) h =
    let first : position_or_len (λ byte. byte == 10) bs ≡ k = position_or_len_is (λ byte. byte == 10) bs k 0 (omega (arith, h.0.high)) (λ j l. fails _ (h.0.before j (omega arith) l)) (λ l. h.1) in
    (h.0.high, eqb-true _ _ h.1, ap (λ n. has_break (take n bs)) (sym first) ∙ front_plain (λ byte. byte == 10) bs)

-- where none was found, there is none
pub none_found : (bs : List ℕ) (r : Option ℕ) → IsFirstByte (is_byte 10) bs r → IfNone r (has_break bs ≡ false)
none_found bs None h =
    let first : position_or_len (λ byte. byte == 10) bs ≡ length bs = position_or_len_is (λ byte. byte == 10) bs (length bs) 0 (omega arith) (λ j l. fails _ (h j (omega arith) l)) (λ l. absurd (omega arith)) in
    ap has_break (sym (take-length bs)) ∙ ap (λ n. has_break (take n bs)) (sym first) ∙ front_plain (λ byte. byte == 10) bs
none_found bs (Some k) h = tt

-- bytes that are moved to the front, with what stands behind them cut off
pub moved_down : (xs : List ℕ) (count : ℕ) → count ≤ length xs → take (length xs - count) (copy_within xs count (length xs) 0) ≡ drop count xs
moved_down xs count within =
    let front : 0 + (length xs - count) ≡ length xs - count = omega arith in
    ap (λ n. take n (copy_within xs count (length xs) 0)) (sym front)
    ∙ take-paste xs 0 (drop count xs) (length xs - count) (omega arith) (omega (arith, length-drop count xs))
    ∙ take_all (length xs - count) (drop count xs) (omega (arith, length-drop count xs))
