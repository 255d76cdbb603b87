-- What was read of a stretch where its last line begins a unit, or a container too deep, and how many old units give way to it.
use Rattle.std.proofs.Common.{◌≡◌, ℕ, ◌+◌, ◌<◌, ◌≤◌, ◌&&◌, inr, Bool, true, false, List, [], ◌∷◌, ◌++◌, length, map, take, drop, Option, Some, None, refl, sym, ◌∙◌, ap, subst, arith, nat_lt}
use Rattle.std.specs.Prelude.{Contains, cond, nat_le}
use Rattle.std.specs.List.{filter}
use Rattle.std.specs.Option.{option_or}
use Rattle.std.proofs.lemmas.Bool.Decides.{nat_tests}
use Rattle.std.proofs.lemmas.List.{append-nil, take-take}
use Rattle.std.proofs.lemmas.List.Elements.{All-contains}
use Rattle.std.proofs.Math.Seq.{take-append_seam, drop-append_seam}
use Rattle.mdtext.specs.EntityTable.{EntityTable}
use Rattle.blockspec.specs.BlockLine.{document_line, without_last}
use Rattle.blockspec.specs.BlockUnits.{begins, units}
use Rattle.blockspec.specs.Nesting.{first_too_deep}
use Rattle.blockspec.specs.UnitBegin.{shift_found}
use Rattle.blockspec.specs.UnitTree.{FoundUnit}
use Rattle.blockspec.proofs.DocumentLaws.{document_units}
use Rattle.blockspec.proofs.NestingLaws.{moved_on, too_deep_stays}
use Rattle.blockspec.proofs.OpenLeafLaws.{drops_last}
use Rattle.blockspec.proofs.UnitReaderLaws.{IsOne, first_one}
use Rattle.mdblock.specs.held.Reads.{handed, last_of}
use Rattle.mdsource.specs.Stretch.{Places, count_between, from_line}
use Rattle.mdsource.proofs.Cuts.{begins_in, begins_within, units_cut}
use Rattle.mdsource.proofs.Depths.{deep_cut, neither}
use Rattle.mdsource.proofs.Splices.{IsEdit, from_cut, from_above}
use Rattle.mdsource.proofs.StretchReadings.{last_is_there}

only_dropped : (front us : List FoundUnit) (k : ℕ) → IsOne (begins_in us) → (us ≡ [] → ⊥) → without_last (front ++ map (shift_found k) us) ≡ front
only_dropped front [] k one some = absurd (some refl)
only_dropped front (v ∷ []) k one some = drops_last front (shift_found k v)
only_dropped front (v ∷ w ∷ us) k one some = absurd one

-- Where the last line begins a unit, the units of the lines above it have been handed out.
pub handed_above : (e : EntityTable) (lines : List (List ℕ)) (line : List ℕ) → last_of (begins e (lines ++ line ∷ [])) ≡ Some (length lines)
    → handed e (lines ++ line ∷ []) ≡ units e lines
handed_above e lines line h =
    ap without_last parts
    ∙ only_dropped (units e lines) (units e (line ∷ [])) n (subst (λ us. IsOne (begins_in us)) (sym (document_units e (line ∷ []))) (first_one e (document_line line))) some
  where
    n : ℕ
    n = length lines

    here : Contains (begins e (lines ++ line ∷ [])) n
    here = last_is_there (begins e (lines ++ line ∷ [])) n h

    parts : units e (lines ++ line ∷ []) ≡ units e lines ++ map (shift_found n) (units e (line ∷ []))
    parts =
        units_cut e (lines ++ line ∷ []) n (inr (inr here))
        ∙ ap (λ z. units e z ++ map (shift_found n) (units e (drop n (lines ++ line ∷ [])))) (take-append_seam lines (line ∷ []))
        ∙ ap (λ z. units e lines ++ map (shift_found n) (units e z)) (drop-append_seam lines (line ∷ []))

    some : units e (line ∷ []) ≡ [] → ⊥
    some none =
        let same : begins e (lines ++ line ∷ []) ≡ begins e lines =
        ap begins_in (parts ∙ ap (λ us. units e lines ++ map (shift_found n) us) none ∙ append-nil (units e lines)) in
        let small = All-contains (λ b. b < n) (begins e lines) n (begins_within e lines) (subst (λ bs. Contains bs n) same here) in
        omega (arith, small)

-- Lines of which none begins a container too deep have none before more come.
pub fits_before : (limit : ℕ) (lines more : List (List ℕ)) → first_too_deep limit (lines ++ more) ≡ None → first_too_deep limit lines ≡ None
fits_before limit lines more h = by (first_too_deep limit lines) refl
  where
    by : (o : Option ℕ) → first_too_deep limit lines ≡ o → o ≡ None
    by None is = refl
    by (Some n) is = clash (sym (too_deep_stays limit lines more n is) ∙ h)
      where
        clash : Some n ≡ None → Some n ≡ None
        clash k = k

-- The line of the new text that begins a container too deep, where the reader of the stretch says so.
pub deep_here : (e : EntityTable) (limit : ℕ) (old new : List (List ℕ)) (p : Places) → IsEdit e old new p → first_too_deep limit old ≡ None
    → (lines : List (List ℕ)) (line : List ℕ) (later : List (List ℕ)) → drop (from_line p) new ≡ (lines ++ line ∷ []) ++ later
    → first_too_deep limit (lines ++ line ∷ []) ≡ Some (length lines) → first_too_deep limit new ≡ Some (from_line p + length lines)
deep_here e limit old new p w fits lines line later rest deep =
    deep_cut e limit new from (from_cut e old new p w new w.front)
    ∙ ap (λ z. option_or z (moved_on from (first_too_deep limit (drop from new)))) front
    ∙ ap (λ z. moved_on from (first_too_deep limit z)) rest
    ∙ ap (moved_on from) (too_deep_stays limit (lines ++ line ∷ []) later (length lines) deep)
  where
    from : ℕ
    from = from_line p

    same : take from new ≡ take from old
    same =
        let above = from_above e old new p w in
        sym (take-take from p.at new above) ∙ ap (take from) w.front ∙ take-take from p.at old above

    front : first_too_deep limit (take from new) ≡ None
    front =
        ap (first_too_deep limit) same
        ∙ (neither (first_too_deep limit (take from old)) from (first_too_deep limit (drop from old)) (sym (deep_cut e limit old from (from_cut e old new p w old refl)) ∙ fits)).0

-- ---- counts

-- how many begin before one line, and from there on before another
pub counts_join : (from to : ℕ) (bs : List ℕ) → from ≤ to → count_between 0 to bs ≡ count_between 0 from bs + count_between from to bs
counts_join from to [] h = omega arith
counts_join from to (b ∷ bs) h = by (nat_le 0 b) refl (nat_lt b to) refl (nat_lt b from) refl (nat_le from b) refl (counts_join from to bs h)
  where
    one : (t : Bool) (xs : List ℕ) → length (cond t (b ∷ xs) xs) ≡ (length (cond t (b ∷ []) [])) + length xs
    one true xs = omega arith
    one false xs = omega arith

    sizes : (z t f g : Bool) → nat_le 0 b ≡ z → nat_lt b to ≡ t → nat_lt b from ≡ f → nat_le from b ≡ g
        → length (cond (z && t) (b ∷ []) []) ≡ length (cond (z && f) (b ∷ []) []) + length (cond (g && t) (b ∷ []) [])
    sizes false t f g zi ti fi gi = absurd (let bad : 0 ≤ b = omega arith in clash (grind (arith, nat_tests, zi, bad)))
      where
        clash : b < 0 → ⊥
        clash k = omega (arith, k)
    sizes true true true true zi ti fi gi = absurd (grind (arith, nat_tests, fi, gi))
    sizes true true true false zi ti fi gi = refl
    sizes true true false true zi ti fi gi = refl
    sizes true true false false zi ti fi gi = absurd (grind (arith, nat_tests, fi, gi))
    sizes true false true g zi ti fi gi = absurd (grind (arith, nat_tests, ti, fi, h))
    sizes true false false true zi ti fi gi = refl
    sizes true false false false zi ti fi gi = refl

    by : (z : Bool) → nat_le 0 b ≡ z → (t : Bool) → nat_lt b to ≡ t → (f : Bool) → nat_lt b from ≡ f → (g : Bool) → nat_le from b ≡ g
        → count_between 0 to bs ≡ count_between 0 from bs + count_between from to bs → count_between 0 to (b ∷ bs) ≡ count_between 0 from (b ∷ bs) + count_between from to (b ∷ bs)
    by z zi t ti f fi g gi later =
        let x = one (z && t) (filter (λ begin. nat_le 0 begin && nat_lt begin to) bs) in
        let y = one (z && f) (filter (λ begin. nat_le 0 begin && nat_lt begin from) bs) in
        let v = one (g && t) (filter (λ begin. nat_le from begin && nat_lt begin to) bs) in
        let s = sizes z t f g zi ti fi gi in
        rw (zi, ti, fi, gi) (omega (arith, x, y, v, s, later))
