-- A document cut between two of its units: which units stand on either side, where each ends, and what a unit's own lines give.
use Rattle.std.proofs.Common.{◌≡◌, ℕ, ◌+◌, ◌<◌, ◌≤◌, inl, inr, List, [], ◌∷◌, ◌++◌, length, map, take, drop, refl, sym, ◌∙◌, ap, subst, append_assoc, arith}
use Rattle.std.specs.Prelude.{Contains}
use Rattle.std.specs.List.{All, sum_by}
use Rattle.std.proofs.lemmas.List.{append-nil, length-take, map-append}
use Rattle.std.proofs.lemmas.List.Elements.{All-nil, All-append, All-cons, All-head, All-tail, All-weaker, Contains-append_right, Contains-append_left, Contains-push}
use Rattle.std.proofs.lemmas.List.Sums.{sum_by-cons}
use Rattle.mdtext.specs.EntityTable.{EntityTable}
use Rattle.blockspec.specs.BlockUnits.{begins, units}
use Rattle.blockspec.specs.UnitBegin.{shift_found}
use Rattle.blockspec.specs.UnitTree.{FoundUnit}
use Rattle.mdsource.specs.MetInside.{first_line}
use Rattle.mdsource.specs.StoppedInside.{HoldsLine}
use Rattle.mdsource.specs.UnitItems.{own_lines}
use Rattle.mdsource.specs.UnitTiles.{begins_from, front_of, lines_of}
use Rattle.mdsource.proofs.Cuts.{IsCut, begins_in, begins_within, units_cut}
use Rattle.mdsource.proofs.ReadingBegins.{below_next}
use Rattle.mdsource.proofs.StretchReadings.{Ascends, begins_ascend}
use Rattle.mdsource.proofs.TileSplices.{moved_above}
use Rattle.mdsource.proofs.UnitTiles.{units_tile, units_end}

-- ---- where a unit ends

next_begins : (begin : ℕ) (before : List FoundUnit) (one : FoundUnit) (back : List FoundUnit) →
    begins_in (before ++ one ∷ back) ≡ begins_from begin (lines_of (before ++ one ∷ back)) → begins_in back ≡ begins_from (one.begin + one.lines) (lines_of back)
next_begins begin [] one back h =
    let here : one.begin ≡ begin = cc in
    let rest : begins_in back ≡ begins_from (begin + one.lines) (lines_of back) = cc in
    rest ∙ ap (λ z. begins_from (z + one.lines) (lines_of back)) (sym here)
next_begins begin (u ∷ before) one back h =
    let rest : begins_in (before ++ one ∷ back) ≡ begins_from (begin + u.lines) (lines_of (before ++ one ∷ back)) = cc in
    next_begins (begin + u.lines) before one back rest

last_ends : (begin n : ℕ) (before : List FoundUnit) (one : FoundUnit) → begins_in (before ++ one ∷ []) ≡ begins_from begin (lines_of (before ++ one ∷ []))
    → begin + sum_by (λ k. k) (lines_of (before ++ one ∷ [])) ≡ n → one.begin + one.lines ≡ n
last_ends begin n [] one h sum =
    let here : one.begin ≡ begin = cc in
    let more = sum_by-cons (λ k. k) one.lines [] in
    let none : sum_by (λ k. k) [] ≡ 0 = refl in
    omega (arith, here, more, none, sum)
last_ends begin n (u ∷ before) one h sum =
    let rest : begins_in (before ++ one ∷ []) ≡ begins_from (begin + u.lines) (lines_of (before ++ one ∷ [])) = cc in
    let more = sum_by-cons (λ k. k) u.lines (lines_of (before ++ one ∷ [])) in
    last_ends (begin + u.lines) n before one rest (omega (arith, more, sum))

-- A unit ends where the next one begins, and the last one with the document.
pub unit_ends : (e : EntityTable) (lines : List (List ℕ)) (before : List FoundUnit) (one : FoundUnit) (back : List FoundUnit) → units e lines ≡ before ++ one ∷ back
    → one.begin + one.lines ≡ first_line (length lines) back
unit_ends e lines before one [] is =
    let us = before ++ one ∷ [] in
    last_ends (front_of (length lines) us) (length lines) before one
    (subst (λ us. begins_in us ≡ begins_from (front_of (length lines) us) (lines_of us)) is (units_tile e lines))
    (subst (λ us. front_of (length lines) us + sum_by (λ k. k) (lines_of us) ≡ length lines) is (units_end e lines))
unit_ends e lines before one (v ∷ back) is =
    let rest = next_begins (front_of (length lines) (before ++ one ∷ v ∷ back)) before one (v ∷ back)
    (subst (λ us. begins_in us ≡ begins_from (front_of (length lines) us) (lines_of us)) is (units_tile e lines)) in
    let next : v.begin ≡ one.begin + one.lines = cc in
    sym next

-- ---- the units on either side

-- A document may be cut where some of its units begin, and at its end where these are none.
pub next_cut : (e : EntityTable) (lines : List (List ℕ)) (before back : List FoundUnit) → units e lines ≡ before ++ back → IsCut e lines (first_line (length lines) back)
next_cut e lines before [] is = inr (inl refl)
next_cut e lines before (v ∷ back) is =
    inr (inr (subst (λ bs. Contains bs v.begin) (sym (ap begins_in is ∙ map-append (λ (u : FoundUnit). u.begin) before (v ∷ back)))
    (Contains-append_right (begins_in before) (begins_in (v ∷ back)) v.begin (Contains-append_left (v.begin ∷ []) (begins_in back) v.begin (Contains-push [] v.begin)))))

ascends_behind : (xs ys : List ℕ) → Ascends (xs ++ ys) → Ascends ys
ascends_behind [] ys h = h
ascends_behind (x ∷ xs) ys h = ascends_behind xs ys h.1

in_order : (e : EntityTable) (lines : List (List ℕ)) (before back : List FoundUnit) → units e lines ≡ before ++ back → Ascends (begins_in before ++ begins_in back)
in_order e lines before back is = subst Ascends (ap begins_in is ∙ map-append (λ (u : FoundUnit). u.begin) before back) (begins_ascend e lines)

pub before_low : (e : EntityTable) (lines : List (List ℕ)) (before back : List FoundUnit) → units e lines ≡ before ++ back → All (λ b. b < first_line (length lines) back) (begins_in before)
before_low e lines before [] is = subst (λ us. All (λ b. b < length lines) (begins_in us)) (is ∙ append-nil before) (begins_within e lines)
before_low e lines before (v ∷ back) is = below_next (begins_in before) v.begin (begins_in back) (in_order e lines before (v ∷ back) is)

pub back_high : (e : EntityTable) (lines : List (List ℕ)) (before back : List FoundUnit) → units e lines ≡ before ++ back → All (λ b. first_line (length lines) back ≤ b) (begins_in back)
back_high e lines before [] is = All-nil (λ b. length lines ≤ b)
back_high e lines before (v ∷ back) is =
    let rest = ascends_behind (begins_in before) (begins_in (v ∷ back)) (in_order e lines before (v ∷ back) is) in
    All-cons (λ b. v.begin ≤ b) v.begin (begins_in back) (omega arith) (All-weaker (λ b. v.begin < b) (λ b. v.begin ≤ b) (λ b h. omega (arith, h)) (begins_in back) rest.0)

-- two lists of units, each in two parts of which one begins in front of a line and the other does not
same_parts : (k : ℕ) (ts us vs ws : List FoundUnit) → ts ++ us ≡ vs ++ ws → All (λ b. b < k) (begins_in ts) → All (λ b. k ≤ b) (begins_in us)
    → All (λ b. b < k) (begins_in vs) → All (λ b. k ≤ b) (begins_in ws) → (ts ≡ vs) × (us ≡ ws)
same_parts k [] us [] ws is a b c d = (refl, is)
same_parts k [] us (v ∷ vs) ws is a b c d =
    let high = All-head (λ b. k ≤ b) v.begin (begins_in (vs ++ ws)) (subst (λ us. All (λ b. k ≤ b) (begins_in us)) is b) in
    let low = All-head (λ b. b < k) v.begin (begins_in vs) c in
    absurd (omega (arith, high, low))
same_parts k (t ∷ ts) us [] ws is a b c d =
    let high = All-head (λ b. k ≤ b) t.begin (begins_in (ts ++ us)) (subst (λ us. All (λ b. k ≤ b) (begins_in us)) (sym is) d) in
    let low = All-head (λ b. b < k) t.begin (begins_in ts) a in
    absurd (omega (arith, high, low))
same_parts k (t ∷ ts) us (v ∷ vs) ws is a b c d =
    let one : t ≡ v = cc in
    let rest : ts ++ us ≡ vs ++ ws = cc in
    let both = same_parts k ts us vs ws rest (All-tail (λ b. b < k) t.begin (begins_in ts) a) b (All-tail (λ b. b < k) v.begin (begins_in vs) c) d in
    (ap (λ z. z ∷ ts) one ∙ ap (λ z. v ∷ z) both.0, both.1)

-- The units in front of the first of some units are those of the lines in front of it, and these units are those of the lines from it on, so many lines further on.
pub units_parted : (e : EntityTable) (lines : List (List ℕ)) (before back : List FoundUnit) → units e lines ≡ before ++ back →
    (units e (take (first_line (length lines) back) lines) ≡ before)
    × (map (shift_found (first_line (length lines) back)) (units e (drop (first_line (length lines) back) lines)) ≡ back)
units_parted e lines before back is =
    let k = first_line (length lines) back in
    let size = length-take k lines in
    same_parts k (units e (take k lines)) (map (shift_found k) (units e (drop k lines))) before back (sym (units_cut e lines k (next_cut e lines before back is)) ∙ is)
    (All-weaker (λ b. b < length (take k lines)) (λ b. b < k) (λ b h. grind (arith, size, h)) (begins e (take k lines)) (begins_within e (take k lines)))
    (moved_above k (units e (drop k lines)))
    (before_low e lines before back is)
    (back_high e lines before back is)

-- ---- a unit alone

to_front : (u one : FoundUnit) → shift_found one.begin u ≡ one → u.begin ≡ 0 → u ≡ record { begin = 0; lines = one.lines; unit = one.unit }
to_front u one same front =
    ap (λ z. record { begin = z; lines = u.lines; unit = u.unit }) front ∙ ap (λ (f : FoundUnit). record { begin = 0; lines = f.lines; unit = f.unit }) same

moved_back : (us : List FoundUnit) (one : FoundUnit) → map (shift_found one.begin) us ≡ one ∷ [] → us ≡ record { begin = 0; lines = one.lines; unit = one.unit } ∷ []
moved_back [] one h = absurd (let x : ⊥ = cc in x)
moved_back (u ∷ v ∷ us) one h = absurd (let x : ⊥ = cc in x)
moved_back (u ∷ []) one h =
    let same : shift_found one.begin u ≡ one = cc in
    let begin : u.begin + one.begin ≡ one.begin = ap (λ (f : FoundUnit). f.begin) same in
    ap (λ z. z ∷ []) (to_front u one same (omega (arith, begin)))

-- A unit's own lines give it alone.
pub unit_alone : (e : EntityTable) (lines : List (List ℕ)) (before : List FoundUnit) (one : FoundUnit) (back : List FoundUnit) → units e lines ≡ before ++ one ∷ back
    → units e (own_lines lines one) ≡ record { begin = 0; lines = one.lines; unit = one.unit } ∷ []
unit_alone e lines before one back is =
    let end = unit_ends e lines before one back is in
    let up_to = (units_parted e lines (before ++ one ∷ []) back (is ∙ sym (append_assoc before (one ∷ []) back))).0 in
    let front : units e (take (one.begin + one.lines) lines) ≡ before ++ one ∷ [] = ap (λ n. units e (take n lines)) end ∙ up_to in
    moved_back (units e (own_lines lines one)) one (units_parted e (take (one.begin + one.lines) lines) before (one ∷ []) front).1

-- ---- one unit holds a line

two_lasts : (us vs : List FoundUnit) (u v : FoundUnit) → us ++ u ∷ [] ≡ vs ++ v ∷ [] → (us ≡ vs) × (u ≡ v)
two_lasts [] [] u v h = (refl, cc)
two_lasts [] (w ∷ []) u v h = absurd (let x : ⊥ = cc in x)
two_lasts [] (w ∷ x ∷ vs) u v h = absurd (let x : ⊥ = cc in x)
two_lasts (t ∷ []) [] u v h = absurd (let x : ⊥ = cc in x)
two_lasts (t ∷ x ∷ us) [] u v h = absurd (let x : ⊥ = cc in x)
two_lasts (t ∷ us) (w ∷ vs) u v h =
    let head : t ≡ w = cc in
    let rest : us ++ u ∷ [] ≡ vs ++ v ∷ [] = cc in
    let both = two_lasts us vs u v rest in
    (ap (λ z. z ∷ us) head ∙ ap (λ z. w ∷ z) both.0, both.1)

pub split_behind : (e : EntityTable) (lines : List (List ℕ)) (before : List FoundUnit) (one : FoundUnit) (back : List FoundUnit) → units e lines ≡ before ++ one ∷ back
    → units e lines ≡ (before ++ one ∷ []) ++ back
split_behind e lines before one back is = is ∙ sym (append_assoc before (one ∷ []) back)

up_to_line : (e : EntityTable) (lines : List (List ℕ)) (before : List FoundUnit) (one : FoundUnit) (back : List FoundUnit) (line : ℕ) → HoldsLine e lines before one back line
    → All (λ b. b < line + 1) (begins_in (before ++ one ∷ []))
up_to_line e lines before one back line w =
    let low = w.low in
    subst (All (λ b. b < line + 1)) (sym (map-append (λ (u : FoundUnit). u.begin) before (one ∷ [])))
    (All-append (λ b. b < line + 1) (begins_in before) (one.begin ∷ [])
    (All-weaker (λ b. b < one.begin) (λ b. b < line + 1) (λ b h. omega (arith, h, low)) (begins_in before) (before_low e lines before (one ∷ back) w.is))
    (All-cons (λ b. b < line + 1) one.begin [] (omega (arith, low)) (All-nil (λ b. b < line + 1))))

behind_line : (e : EntityTable) (lines : List (List ℕ)) (before : List FoundUnit) (one : FoundUnit) (back : List FoundUnit) (line : ℕ) → HoldsLine e lines before one back line
    → All (λ b. line + 1 ≤ b) (begins_in back)
behind_line e lines before one back line w =
    let high = w.high in
    let end = unit_ends e lines before one back w.is in
    All-weaker (λ b. first_line (length lines) back ≤ b) (λ b. line + 1 ≤ b) (λ b h. omega (arith, h, end, high)) (begins_in back)
    (back_high e lines (before ++ one ∷ []) back (split_behind e lines before one back w.is))

-- Two units that hold the same line are the same.
pub one_holds : (e : EntityTable) (lines : List (List ℕ)) (line : ℕ) (before before' : List FoundUnit) (one one' : FoundUnit) (back back' : List FoundUnit) →
    HoldsLine e lines before one back line → HoldsLine e lines before' one' back' line → (before ≡ before') × (one ≡ one') × (back ≡ back')
one_holds e lines line before before' one one' back back' v w =
    let parts = same_parts (line + 1) (before ++ one ∷ []) back (before' ++ one' ∷ []) back'
    (sym (split_behind e lines before one back v.is) ∙ split_behind e lines before' one' back' w.is)
    (up_to_line e lines before one back line v) (behind_line e lines before one back line v)
    (up_to_line e lines before' one' back' line w) (behind_line e lines before' one' back' line w) in
    let last = two_lasts before before' one one' parts.0 in
    (last.0, last.1, parts.1)
