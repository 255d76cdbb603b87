-- What a reader that is fed the lines of a stretch tells of the lists that may be parted, and what it has handed out where the line that it read begins a later item.
use Rattle.std.proofs.Common.{◌≡◌, ℕ, ◌+◌, ◌⊎◌, inl, inr, true, List, [], ◌∷◌, ◌++◌, length, map, refl, sym, ◌∙◌, ap, subst, append_assoc, arith, length-append}
use Rattle.std.proofs.lemmas.List.{append-nil}
use Rattle.std.specs.Prelude.{Contains}
use Rattle.mdtext.specs.EntityTable.{EntityTable}
use Rattle.blockspec.specs.BlockLine.{document_line, without_last}
use Rattle.blockspec.specs.BlockUnits.{begins, units}
use Rattle.blockspec.specs.Meetings.{IsBeginning, joins_list}
use Rattle.blockspec.specs.UnitBegin.{shift_found}
use Rattle.blockspec.specs.UnitTree.{FoundUnit}
use Rattle.blockspec.proofs.BeginLaws.{document_only}
use Rattle.blockspec.proofs.DocumentLaws.{document_units}
use Rattle.blockspec.proofs.OpenLeafLaws.{drops_last}
use Rattle.blockspec.proofs.UnitReaderLaws.{IsOne, first_one}
use Rattle.blockspec.specs.Joins.{joins}
use Rattle.blockspec.proofs.JoinCuts.{document_joins_cut, no_join, first_no_join}
use Rattle.blockspec.proofs.JoinLines.{document_joins_there, document_joins_only}
use Rattle.blockspec.proofs.UnitsMeet.{DocumentMeets, document_meets_inside}
use Rattle.mdblock.specs.held.Reads.{handed}
use Rattle.mdsource.proofs.Cuts.{begins_in}
use Rattle.mdsource.specs.ReadStretch.{IsReadStretch}

-- ---- of a text that is cut where reading began

no_lines : (front : List (List ℕ)) → length front ≡ 0 → front ≡ []
no_lines [] h = refl
no_lines (x ∷ xs) h = absurd (omega (arith, h))

whole_of : (front lines : List (List ℕ)) (line : List ℕ) (later : List (List ℕ)) → (front ++ (lines ++ line ∷ [])) ++ later ≡ (front ++ lines) ++ line ∷ later
whole_of front lines line later =
    ap (λ z. z ++ later) (sym (append_assoc front lines (line ∷ []))) ∙ append_assoc (front ++ lines) (line ∷ []) later

-- the line begins a later item behind all lines exactly if it does behind those that were read
read_alike : (e : EntityTable) (text front lines : List (List ℕ)) (line : List ℕ) (later : List (List ℕ)) → text ≡ (front ++ lines) ++ line ∷ later →
    (length front ≡ 0) ⊎ Contains (begins e text) (length front) →
    joins_list (map document_line (front ++ lines)) (document_line line) ≡ joins_list (map document_line lines) (document_line line)
read_alike e text front lines line later is (inl h) = ap (λ z. joins_list (map document_line (z ++ lines)) (document_line line)) (no_lines front h)
read_alike e text front [] line later is (inr w) =
    let all : (front ++ []) ++ line ∷ later ≡ front ++ line ∷ later = append_assoc front [] (line ∷ later) in
    let b : IsBeginning front line = document_only e front line later (subst (λ z. Contains (begins e z) (length front)) (is ∙ all) w) in
    ap (λ z. joins_list (map document_line z) (document_line line)) (append-nil front)
    ∙ no_join (map document_line front) (document_line line) b
    ∙ sym (first_no_join (document_line line))
read_alike e text front (first ∷ lines) line later is (inr w) =
    let all : (front ++ first ∷ lines) ++ line ∷ later ≡ front ++ first ∷ (lines ++ line ∷ later) = append_assoc front (first ∷ lines) (line ∷ later) in
    document_joins_cut front first lines line (document_only e front first (lines ++ line ∷ later) (subst (λ z. Contains (begins e z) (length front)) (is ∙ all) w))

-- Of a text that is read from a line on at which it may be cut: a list of it may be parted at the last line that was read exactly where that line begins a later item behind the lines read before it.
pub stretch_joins : (e : EntityTable) (text front lines : List (List ℕ)) (line : List ℕ) (later : List (List ℕ)) → IsReadStretch e text front lines line later
    → (Contains (joins e text) (length front + length lines) → joins_list (map document_line lines) (document_line line) ≡ true)
    × (joins_list (map document_line lines) (document_line line) ≡ true → Contains (joins e text) (length front + length lines))
stretch_joins e text front lines line later s = (there, back)
  where
    is : text ≡ (front ++ lines) ++ line ∷ later
    is = s.order ∙ whole_of front lines line later

    alike : joins_list (map document_line (front ++ lines)) (document_line line) ≡ joins_list (map document_line lines) (document_line line)
    alike = read_alike e text front lines line later is s.cut

    size : length (front ++ lines) ≡ length front + length lines
    size = length-append front lines

    there : Contains (joins e text) (length front + length lines) → joins_list (map document_line lines) (document_line line) ≡ true
    there w =
        sym alike
        ∙ document_joins_only e (front ++ lines) line later
        (subst (λ z. Contains (joins e z) (length (front ++ lines))) is (subst (λ z. Contains (joins e text) z) (sym size) w))

    back : joins_list (map document_line lines) (document_line line) ≡ true → Contains (joins e text) (length front + length lines)
    back h =
        subst (λ z. Contains (joins e text) z) size
        (subst (λ z. Contains (joins e z) (length (front ++ lines))) (sym is) (document_joins_there e (front ++ lines) line later (alike ∙ h)))

-- ---- what has been handed out

none_behind : (head : FoundUnit) (vs : List FoundUnit) → IsOne (begins_in (head ∷ vs)) → vs ≡ []
none_behind head [] h = refl
none_behind head (v ∷ vs) h = absurd h

rest_of : List FoundUnit → List FoundUnit
rest_of [] = []
rest_of (v ∷ vs) = vs

front_of_both : (us us' : List FoundUnit) (u u' : FoundUnit) → us ++ u ∷ [] ≡ us' ++ u' ∷ [] → us ≡ us'
front_of_both us us' u u' h = sym (drops_last us u) ∙ ap without_last h ∙ drops_last us' u'

handed_by : (e : EntityTable) (lines : List (List ℕ)) (line : List ℕ) → (u : DocumentMeets e lines line []) → handed e (lines ++ line ∷ []) ≡ u.us
handed_by e lines line u =
    let one : u.vs ≡ [] = none_behind u.head u.vs (subst (λ us. IsOne (begins_in us)) (sym (document_units e (line ∷ [])) ∙ u.alone) (first_one e (document_line line))) in
    ap without_last (u.both ∙ ap (λ z. u.us ++ u.whole ∷ map (shift_found (length lines)) z) one) ∙ drops_last u.us u.whole

together : (e : EntityTable) (lines : List (List ℕ)) (line : List ℕ) (more : List (List ℕ)) (one : FoundUnit) → units e (line ∷ more) ≡ one ∷ [] →
    (u : DocumentMeets e lines line []) (w : DocumentMeets e lines line more) → units e (lines ++ line ∷ more) ≡ handed e (lines ++ line ∷ []) ++ w.whole ∷ []
unfolding rest_of
together e lines line more one h u w =
    let none : w.vs ≡ [] = ap rest_of (sym w.alone ∙ h) in
    let fronts : w.us ≡ u.us = front_of_both w.us u.us w.last u.last (sym w.before ∙ u.before) in
    w.both
    ∙ ap (λ z. w.us ++ w.whole ∷ map (shift_found (length lines)) z) none
    ∙ ap (λ z. z ++ w.whole ∷ []) (fronts ∙ sym (handed_by e lines line u))

-- Where the last line that was read begins a later item, and the lines from it on give one list, the units of all are those that were handed out and one more.
pub handed_inside : (e : EntityTable) (lines : List (List ℕ)) (line : List ℕ) (more : List (List ℕ)) (one : FoundUnit) → joins_list (map document_line lines) (document_line line) ≡ true →
    units e (line ∷ more) ≡ one ∷ [] → (whole : FoundUnit) × (units e (lines ++ line ∷ more) ≡ handed e (lines ++ line ∷ []) ++ whole ∷ [])
handed_inside e lines line more one j h =
    let u = document_meets_inside e lines line [] j in
    let w = document_meets_inside e lines line more j in
    (w.whole, together e lines line more one h u w)
