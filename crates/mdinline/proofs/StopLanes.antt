-- Stops among 16 bytes at a time.
use Rattle.std.proofs.Common.{◌≡◌, ℕ, zero, suc, ◌+◌, ◌*◌, ◌/◌, ◌^◌, ◌%◌, ◌<◌, Bool, true, not, cond, eqb, List, [], ◌∷◌, map, length, get_or, replicate, bit_and, refl, sym, ap, ◌∙◌, arith, w8, Fits}
use Rattle.std.proofs.lemmas.Bool.{agree_below, agree_below_at}
use Rattle.std.proofs.lemmas.List.{get_or-map, length-map, ext_get_or}
use Rattle.std.proofs.lemmas.Nat.{and_le_r}
use Rattle.std.proofs.lemmas.Simd.{Each1-all, Each1-weaker, Each1-zip2, Each2-splat, below_from_Fits, bitmask_splat, get_or-swz_l_below, length-swz_l, length-zip2, map-map, swz_l, SwzOk, SwzOk-from_below, zip2_of_maps}
use lib.Lanes.{zip2, Each1, mask_l, top}
use Rattle.mdinline.specs.held.PlainText.{is_stop}
use Rattle.mdinline.specs.held.StopTables.{high_of, low_of}

abbrev pub IsBlock : List ℕ → Type 0
IsBlock v = (length v ≡ 16) × Each1 (Fits w8) v

lane_fits : (v : List ℕ) (i : ℕ) → Each1 (Fits w8) v → get_or v i 0 < 256
lane_fits [] i h = omega arith
lane_fits (x ∷ xs) zero h = h.0.fits
lane_fits (x ∷ xs) (suc i) h = lane_fits xs i h.1

abbrev pub down : ℕ → ℕ → ℕ
down a b = a / 2 ^ b

pub high_ok : (v : List ℕ) → IsBlock v → SwzOk w8 16 16 0 (zip2 down v (replicate 16 4))
high_ok v fits =
    let small = Each1-weaker (λ a. a < 256) (λ a. a / 16 < 16) (λ a h. omega arith) v (below_from_Fits w8 v fits.1) in
    SwzOk-from_below w8 16 1 16 0 (zip2 down v (replicate 16 4)) refl (omega (arith, length-zip2 down v (replicate 16 4) fits.0))
    (Each1-zip2 down (λ j. j < 16) v (replicate 16 4) (Each2-splat (λ a b. down a b < 16) v 16 4 small))

pub low_ok : (v : List ℕ) → IsBlock v → SwzOk w8 16 16 0 (zip2 bit_and v (replicate 16 15))
low_ok v fits =
    let small = Each1-all (λ a. bit_and a 15 < 16) (λ a. omega (arith, and_le_r a 15)) v in
    SwzOk-from_below w8 16 1 16 0 (zip2 bit_and v (replicate 16 15)) refl (omega (arith, length-zip2 bit_and v (replicate 16 15) fits.0))
    (Each1-zip2 bit_and (λ j. j < 16) v (replicate 16 15) (Each2-splat (λ a b. bit_and a b < 16) v 16 15 small))

-- a table of 16 bytes, read at places g x below 16
pub looked_up : (t : List ℕ) (g : ℕ → ℕ) (v js : List ℕ) → IsBlock v → js ≡ map g v → ((x : ℕ) → x < 256 → g x < 16) → swz_l w8 16 t 0 js ≡ map (λ x. get_or t (g x) 0) v
looked_up t g v js fits e small =
    let long : length js ≡ 16 = ap length e ∙ length-map v g ∙ fits.0 in
    ext_get_or 0 _ _ (length-swz_l w8 16 t 0 js ∙ long ∙ sym (length-map v (λ x. get_or t (g x) 0) ∙ fits.0)) (λ i h.
    let lt : i < 16 = omega (arith, length-swz_l w8 16 t 0 js) in
    let within : i < length v = omega (arith, fits.0) in
    let is : get_or js i 0 ≡ g (get_or v i 0) = ap (λ l. get_or l i 0) e ∙ get_or-map g v i 0 0 within in
    let below : get_or js i 0 < 16 = omega (arith, small (get_or v i 0) (lane_fits v i fits.1)) in
    let place : 16 * ((0 + i) / 16) + get_or js i 0 ≡ g (get_or v i 0) = omega arith in
    get_or-swz_l_below w8 16 t 0 js i (omega arith) below
    ∙ ap (λ k. get_or t k 0) place ∙ sym (get_or-map (λ x. get_or t (g x) 0) v i 0 0 within))

-- ---- the tables tell the stops

abbrev is_marked : ℕ → Bool
is_marked x = not (eqb (bit_and (low_of x) (high_of x)) 0)

stops : agree_below is_marked is_stop 256 ≡ true
stops = refl

marked_stops : (xs : List ℕ) → Each1 (Fits w8) xs → map is_marked xs ≡ map is_stop xs
marked_stops [] fits = refl
marked_stops (x ∷ xs) fits =
    ap (λ b. b ∷ map is_marked xs) (agree_below_at is_marked is_stop 256 x stops fits.0.fits) ∙ ap (λ bs. is_stop x ∷ bs) (marked_stops xs fits.1)

pub found_stops : (v low high : List ℕ) → IsBlock v → low ≡ map low_of v → high ≡ map high_of v
    → mask_l (map (top 7) (zip2 (λ a b. cond (not (eqb a b)) 255 0) (zip2 bit_and low high) (replicate 16 0))) % 2 ^ 64 ≡ mask_l (map is_stop v)
found_stops v low high fits l h =
    let found : zip2 bit_and low high ≡ map (λ x. bit_and (low_of x) (high_of x)) v = zip2_of_maps bit_and low_of high_of v l h in
    let long : length (zip2 bit_and low high) ≡ 16 = ap length found ∙ length-map v (λ x. bit_and (low_of x) (high_of x)) ∙ fits.0 in
    bitmask_splat w8 (λ a b. not (eqb a b)) (zip2 bit_and low high) 16 0 long (omega arith)
    ∙ ap mask_l (ap (map (λ x. not (eqb x 0))) found ∙ map-map (λ x. not (eqb x 0)) (λ x. bit_and (low_of x) (high_of x)) v ∙ marked_stops v fits.1)
