-- A document may be cut at a line at which a unit begins, and at its ends: the units before and behind are those of the two parts.
use Rattle.std.proofs.Common.{◌≡◌, ℕ, suc, ◌+◌, ◌-◌, ◌<◌, ◌⊎◌, inl, inr, Bool, true, false, List, [], ◌∷◌, ◌++◌, length, map, take, drop, refl, sym, ◌∙◌, ap, subst, append_assoc, arith, length-append}
use Rattle.std.specs.Prelude.{Contains, if◌then◌else◌}
use Rattle.std.specs.List.{All}
use Rattle.std.proofs.lemmas.List.{append-nil, take-append-drop, length-take-le, length-drop}
use Rattle.std.proofs.Math.Seq.{take-length, drop-length}
use Rattle.std.proofs.lemmas.List.Elements.{All-nil, All-push, All-weaker, All-contains}
use Rattle.mdtext.specs.EntityTable.{EntityTable}
use Rattle.blockspec.specs.BlockLine.{BlockLine, document_line}
use Rattle.blockspec.specs.BlockUnits.{begins, units, found_units, groups_within}
use Rattle.blockspec.specs.Lists.{grouped}
use Rattle.blockspec.specs.Stretches.{all_of, cut_from}
use Rattle.blockspec.specs.UnitBegin.{begins_unit, units_of, shift_found}
use Rattle.blockspec.specs.UnitTree.{FoundUnit}
use Rattle.blockspec.proofs.BeginLaws.{begins_next, document_only, document_stays}
use Rattle.blockspec.proofs.DocumentLaws.{document_units, document_meets, map_length}

abbrev pub begins_in : List FoundUnit → List ℕ
begins_in us = map (λ f. f.begin) us

pub no_units : (e : EntityTable) → units e [] ≡ []
unfolding found_units groups_within grouped all_of cut_from
no_units e = refl

-- ---- first lines lie within the document

abbrev pub Within : List BlockLine → List ℕ → Type 0
Within ls begins = All (λ b. b < length ls) begins

within_next : (xs : List BlockLine) (l : BlockLine) (t : Bool) (bs : List ℕ) → Within xs bs → Within (xs ++ l ∷ []) (if t then bs ++ length xs ∷ [] else bs)
within_next xs l t bs h = by t
  where
    longer : length (xs ++ l ∷ []) ≡ suc (length xs)
    longer = length-append xs (l ∷ []) ∙ (let e : length xs + 1 ≡ suc (length xs) = omega arith in e)

    kept : All (λ b. b < length (xs ++ l ∷ [])) bs
    kept = All-weaker (λ b. b < length xs) (λ b. b < length (xs ++ l ∷ [])) (λ b s. omega (arith, longer, s)) bs h

    by : (t : Bool) → Within (xs ++ l ∷ []) (if t then bs ++ length xs ∷ [] else bs)
    by true = All-push (λ b. b < length (xs ++ l ∷ [])) bs (length xs) kept (omega (arith, longer))
    by false = kept

within_more : (e : EntityTable) (xs ys : List BlockLine) → Within xs (begins_in (units_of e xs)) → Within (xs ++ ys) (begins_in (units_of e (xs ++ ys)))
within_more e xs [] h = subst (λ z. Within z (begins_in (units_of e z))) (sym (append-nil xs)) h
within_more e xs (y ∷ ys) h =
    subst (λ z. Within z (begins_in (units_of e z))) (append_assoc xs (y ∷ []) ys)
    (within_more e (xs ++ y ∷ []) ys
    (subst (λ z. Within (xs ++ y ∷ []) z) (sym (begins_next e xs y)) (within_next xs y (begins_unit xs y) (begins_in (units_of e xs)) h)))

pub begins_of_within : (e : EntityTable) (ls : List BlockLine) → Within ls (begins_in (units_of e ls))
begins_of_within e ls = within_more e [] ls (subst (λ z. Within [] (begins_in z)) (sym (no_units e)) (All-nil (λ b. b < 0)))

pub begins_within : (e : EntityTable) (lines : List (List ℕ)) → All (λ b. b < length lines) (begins e lines)
begins_within e lines =
    let ls = map document_line lines in
    subst (λ z. All (λ b. b < z) (begins e lines)) (map_length document_line lines)
    (subst (λ z. All (λ b. b < length ls) (begins_in z)) (sym (document_units e lines)) (begins_of_within e ls))

-- ---- a document in two parts

-- A document may be cut here: at an end of it, or where a unit begins.
abbrev pub IsCut : EntityTable → (lines : List (List ℕ)) → ℕ → Type 0
IsCut e lines n = (n ≡ 0) ⊎ ((n ≡ length lines) ⊎ Contains (begins e lines) n)

shift_none : (us : List FoundUnit) → map (shift_found 0) us ≡ us
shift_none [] = refl
shift_none (u ∷ us) =
    let same : u.begin + 0 ≡ u.begin = omega arith in
    ap (λ z. record u { begin = z } ∷ map (shift_found 0) us) same ∙ ap (λ z. u ∷ z) (shift_none us)

-- the rest behind a place is not empty
pub rest_of : {X : Type 0} (n : ℕ) (xs rest : List X) → drop n xs ≡ rest → n < length xs → length rest ≡ length xs - n
rest_of n xs rest h s = ap (λ z. length z) (sym h) ∙ length-drop n xs

pub begins_before_end : (e : EntityTable) (lines : List (List ℕ)) (n : ℕ) → Contains (begins e lines) n → n < length lines
begins_before_end e lines n w = All-contains (λ b. b < length lines) (begins e lines) n (begins_within e lines) w

cut_inside : (e : EntityTable) (lines : List (List ℕ)) (n : ℕ) → Contains (begins e lines) n →
    units e lines ≡ units e (take n lines) ++ map (shift_found n) (units e (drop n lines))
cut_inside e lines n w = go (drop n lines) refl
  where
    small : n < length lines
    small = begins_before_end e lines n w

    size : length (take n lines) ≡ n
    size = length-take-le n lines (omega (arith, small))

    go : (rest : List (List ℕ)) → drop n lines ≡ rest → units e lines ≡ units e (take n lines) ++ map (shift_found n) (units e (drop n lines))
    go [] h = absurd (let none = rest_of n lines [] h small in omega (arith, small, none))
    go (line ∷ later) h =
        let whole : take n lines ++ line ∷ later ≡ lines = ap (λ z. take n lines ++ z) (sym h) ∙ take-append-drop n lines in
        let is = document_only e (take n lines) line later
        (subst (λ z. Contains (begins e z) (length (take n lines))) (sym whole) (subst (λ z. Contains (begins e lines) z) (sym size) w)) in
        ap (units e) (sym whole)
        ∙ document_meets e (take n lines) line later is
        ∙ ap (λ z. units e (take n lines) ++ map (shift_found z) (units e (line ∷ later))) size
        ∙ ap (λ z. units e (take n lines) ++ map (shift_found n) (units e z)) (sym h)

-- Where a document may be cut, its units are those of the front, and those of the rest, so many lines further on.
pub units_cut : (e : EntityTable) (lines : List (List ℕ)) (n : ℕ) → IsCut e lines n →
    units e lines ≡ units e (take n lines) ++ map (shift_found n) (units e (drop n lines))
units_cut e lines n (inl h) =
    sym (shift_none (units e lines))
    ∙ ap (λ z. z ++ map (shift_found 0) (units e lines)) (sym (no_units e))
    ∙ ap (λ z. units e (take z lines) ++ map (shift_found z) (units e (drop z lines))) (sym h)
units_cut e lines n (inr (inl h)) =
    sym (append-nil (units e lines))
    ∙ ap (λ z. units e lines ++ map (shift_found (length lines)) z) (sym (no_units e))
    ∙ ap (λ z. units e z ++ map (shift_found (length lines)) (units e [])) (sym (take-length lines))
    ∙ ap (λ z. units e (take (length lines) lines) ++ map (shift_found (length lines)) (units e z)) (sym (drop-length lines))
    ∙ ap (λ z. units e (take z lines) ++ map (shift_found z) (units e (drop z lines))) (sym h)
units_cut e lines n (inr (inr w)) = cut_inside e lines n w

-- Where a unit begins before some later lines, one begins before others.
pub beginning_kept : (e : EntityTable) (front one other : List (List ℕ)) (n : ℕ) → n < length front →
    Contains (begins e (front ++ one)) n → Contains (begins e (front ++ other)) n
beginning_kept e front one other n small w = go (drop n front) refl
  where
    size : length (take n front) ≡ n
    size = length-take-le n front (omega (arith, small))

    go : (rest : List (List ℕ)) → drop n front ≡ rest → Contains (begins e (front ++ other)) n
    go [] h = absurd (let none = rest_of n front [] h small in omega (arith, small, none))
    go (line ∷ middle) h =
        let whole : take n front ++ line ∷ middle ≡ front = ap (λ z. take n front ++ z) (sym h) ∙ take-append-drop n front in
        let split : (later : List (List ℕ)) → take n front ++ line ∷ (middle ++ later) ≡ front ++ later =
        λ later. sym (append_assoc (take n front) (line ∷ middle) later) ∙ ap (λ z. z ++ later) whole in
        let here = subst (λ z. Contains (begins e z) (length (take n front))) (sym (split one)) (subst (λ z. Contains (begins e (front ++ one)) z) (sym size) w) in
        let there = (document_stays e (take n front) line (middle ++ one) (middle ++ other) here).0 in
        subst (λ z. Contains (begins e (front ++ other)) z) size (subst (λ z. Contains (begins e z) (length (take n front))) (split other) there)
