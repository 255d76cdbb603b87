-- The first line of an edited text on which a container begins that lies in too many others: it is found by reading from where reading begins to where it ends.
use Rattle.std.proofs.Common.{◌≡◌, ℕ, zero, suc, ◌+◌, ◌<◌, inl, inr, List, [], ◌∷◌, ◌++◌, length, map, take, drop, Option, Some, None, refl, sym, ◌∙◌, ap, subst, arith}
use Rattle.std.specs.Prelude.{Contains}
use Rattle.std.specs.Option.{option_or}
use Rattle.std.proofs.lemmas.List.{take-append-drop, take-take, length-take-le, map-append}
use Rattle.std.proofs.Math.Seq.{take-length, drop-length}
use Rattle.mdtext.specs.EntityTable.{EntityTable}
use Rattle.blockspec.specs.BlockLine.{document_line}
use Rattle.blockspec.specs.BlockUnits.{begins}
use Rattle.blockspec.specs.Nesting.{first_deep, deep_within, first_too_deep}
use Rattle.blockspec.specs.Stretches.{all_of, cut_from}
use Rattle.blockspec.proofs.BeginLaws.{document_only}
use Rattle.blockspec.proofs.DocumentLaws.{map_length}
use Rattle.blockspec.proofs.NestingLaws.{moved_on}
use Rattle.blockspec.proofs.NestingMeets.{deep_meets}
use Rattle.mdsource.specs.Stretch.{Places, from_line, old_line, meeting_line}
use Rattle.mdsource.proofs.Cuts.{IsCut, begins_before_end, rest_of}
use Rattle.mdsource.proofs.Splices.{IsEdit, meets, from_cut, from_above}

pub none_too_deep : (limit : ℕ) → first_too_deep limit [] ≡ None
unfolding first_deep deep_within all_of cut_from
none_too_deep zero = refl
none_too_deep (suc limit) = refl

moved_none : (o : Option ℕ) → moved_on 0 o ≡ o
moved_none None = refl
moved_none (Some n) = let e : 0 + n ≡ n = omega arith in ap (λ z. Some z) e

or_none : {A : Type 0} (o : Option A) → option_or o None ≡ o
or_none None = refl
or_none (Some x) = refl

deep_inside : (e : EntityTable) (limit : ℕ) (lines : List (List ℕ)) (n : ℕ) → Contains (begins e lines) n →
    first_too_deep limit lines ≡ option_or (first_too_deep limit (take n lines)) (moved_on n (first_too_deep limit (drop n lines)))
deep_inside e limit lines n w = go (drop n lines) refl
  where
    small : n < length lines
    small = begins_before_end e lines n w

    size : length (take n lines) ≡ n
    size = length-take-le n lines (omega (arith, small))

    go : (rest : List (List ℕ)) → drop n lines ≡ rest →
        first_too_deep limit lines ≡ option_or (first_too_deep limit (take n lines)) (moved_on n (first_too_deep limit (drop n lines)))
    go [] h = absurd (let none = rest_of n lines [] h small in omega (arith, small, none))
    go (line ∷ later) h =
        let front = take n lines in
        let whole : front ++ line ∷ later ≡ lines = ap (λ z. front ++ z) (sym h) ∙ take-append-drop n lines in
        let is = document_only e front line later
        (subst (λ z. Contains (begins e z) (length front)) (sym whole) (subst (λ z. Contains (begins e lines) z) (sym size) w)) in
        ap (first_too_deep limit) (sym whole)
        ∙ ap (deep_within limit) (map-append document_line front (line ∷ later))
        ∙ deep_meets limit (map document_line front) (document_line line) (map document_line later) is
        ∙ ap (λ z. option_or (first_too_deep limit front) (moved_on z (first_too_deep limit (line ∷ later)))) (map_length document_line front ∙ size)
        ∙ ap (λ z. option_or (first_too_deep limit front) (moved_on n (first_too_deep limit z))) (sym h)

pub deep_cut : (e : EntityTable) (limit : ℕ) (lines : List (List ℕ)) (n : ℕ) → IsCut e lines n →
    first_too_deep limit lines ≡ option_or (first_too_deep limit (take n lines)) (moved_on n (first_too_deep limit (drop n lines)))
deep_cut e limit lines n (inl h) =
    sym (moved_none (first_too_deep limit lines))
    ∙ ap (λ z. option_or z (moved_on 0 (first_too_deep limit lines))) (sym (none_too_deep limit))
    ∙ ap (λ z. option_or (first_too_deep limit (take z lines)) (moved_on z (first_too_deep limit (drop z lines)))) (sym h)
deep_cut e limit lines n (inr (inl h)) =
    sym (or_none (first_too_deep limit lines))
    ∙ ap (λ z. option_or (first_too_deep limit lines) (moved_on (length lines) z)) (sym (none_too_deep limit))
    ∙ ap (λ z. option_or (first_too_deep limit z) (moved_on (length lines) (first_too_deep limit []))) (sym (take-length lines))
    ∙ ap (λ z. option_or (first_too_deep limit (take (length lines) lines)) (moved_on (length lines) (first_too_deep limit z))) (sym (drop-length lines))
    ∙ ap (λ z. option_or (first_too_deep limit (take z lines)) (moved_on z (first_too_deep limit (drop z lines)))) (sym h)
deep_cut e limit lines n (inr (inr w)) = deep_inside e limit lines n w

pub neither : (o : Option ℕ) (n : ℕ) (r : Option ℕ) → option_or o (moved_on n r) ≡ None → (o ≡ None) × (r ≡ None)
neither None n None h = (refl, refl)
neither None n (Some k) h = cc
neither (Some k) n r h = cc

-- Where no line of the old text is too deep, the first of the new one is that of the lines from where reading begins to where it ends.
pub deep_spliced : (e : EntityTable) (limit : ℕ) (old new : List (List ℕ)) (p : Places) → IsEdit e old new p → first_too_deep limit old ≡ None →
    first_too_deep limit new ≡ moved_on (from_line p) (first_too_deep limit (drop (from_line p) (take (meeting_line p) new)))
deep_spliced e limit old new p w fits =
    let from = from_line p in
    let to = meeting_line p in
    let was = old_line p to in
    let m = meets e old new p w in
    let behind = m.behind in
    let above = from_above e old new p w in
    let front : take p.at (take to new) ≡ take p.at old = take-take p.at to new (omega (arith, behind)) ∙ w.front in
    let short : take from (take to new) ≡ take from old = sym (take-take from p.at (take to new) above) ∙ ap (take from) front ∙ take-take from p.at old above in
    let back_fits = (neither (first_too_deep limit (take was old)) was (first_too_deep limit (drop was old)) (sym (deep_cut e limit old was m.in_old) ∙ fits)).1 in
    let front_fits = (neither (first_too_deep limit (take from old)) from (first_too_deep limit (drop from old)) (sym (deep_cut e limit old from (from_cut e old new p w old refl)) ∙ fits)).0 in
    deep_cut e limit new to m.in_new
    ∙ ap (λ z. option_or (first_too_deep limit (take to new)) (moved_on to z)) (ap (first_too_deep limit) m.same ∙ back_fits)
    ∙ or_none (first_too_deep limit (take to new))
    ∙ deep_cut e limit (take to new) from (from_cut e old new p w (take to new) front)
    ∙ ap (λ z. option_or z (moved_on from (first_too_deep limit (drop from (take to new))))) (ap (first_too_deep limit) short ∙ front_fits)
