-- The units of a document from a line on that begins one, and the definitions of its units.
use Rattle.std.proofs.Common.{◌≡◌, ℕ, suc, ◌<◌, Bool, true, false, List, [], ◌∷◌, ◌++◌, length, map, Some, refl, sym, ◌∙◌, ap, append_assoc, arith}
use Rattle.std.proofs.lemmas.List.{map-append}
use Rattle.std.specs.Prelude.{cond}
use Rattle.std.specs.Str.{bytes_eq}
use Rattle.std.specs.Option.{option_or}
use Rattle.mdtext.specs.EntityTable.{EntityTable}
use Rattle.mdleaf.specs.DefinedLinks.{LinkDefinition}
use Rattle.blockspec.specs.BlockLine.{BlockLine, document_line}
use Rattle.blockspec.specs.BlockUnits.{visible_in, groups, found_units, units, definitions_of}
use Rattle.blockspec.specs.LinkDefinitions.{first_definition}
use Rattle.blockspec.specs.Meetings.{IsBeginning}
use Rattle.blockspec.specs.UnitBegin.{begins_unit, units_of, shift_found}
use Rattle.blockspec.specs.UnitTree.{FoundUnit}
use Rattle.blockspec.proofs.VisibleLaws.{visible_append}
use Rattle.blockspec.proofs.DepthLaws.{groups_deep, begins_deep}
use Rattle.blockspec.proofs.UnitLaws.{units_within, units_split}

units_deep : (e : EntityTable) (d : ℕ) (ls : List BlockLine) → visible_in ls < d → units_within e d ls ≡ units_of e ls
units_deep e d ls h = ap (λ z. found_units z (length ls)) (groups_deep e d ls h)

-- Where a line begins a unit, the units before it are those of the lines before it alone, whatever comes after; and from
-- it on they are those of the lines from it on alone, so many lines further on.
pub units_meet : (e : EntityTable) (xs : List BlockLine) (l : BlockLine) (ys : List BlockLine) → begins_unit xs l ≡ true →
    units_of e (xs ++ l ∷ ys) ≡ units_of e xs ++ map (shift_found (length xs)) (units_of e (l ∷ ys))
units_meet e xs l ys b =
    let all = xs ++ l ∷ ys in
    let d = suc (visible_in all) in
    let v = visible_append xs (l ∷ ys) in
    let front : visible_in xs < d = omega (arith, v) in
    let back : visible_in (l ∷ ys) < suc d = omega (arith, v) in
    sym (units_deep e (suc d) all (omega arith))
    ∙ units_split e d xs l ys (begins_deep d xs l front ∙ b)
    ∙ ap (λ z. z ++ map (shift_found (length xs)) (units_within e (suc d) (l ∷ ys))) (units_deep e (suc d) xs (omega (arith, front)))
    ∙ ap (λ z. units_of e xs ++ map (shift_found (length xs)) z) (units_deep e (suc d) (l ∷ ys) back)

-- the same of a document
pub map_length : {A B : Type 0} (f : A → B) (xs : List A) → length (map f xs) ≡ length xs
map_length f [] = refl
map_length f (x ∷ xs) = ap (λ z. suc z) (map_length f xs)

pub document_units : (e : EntityTable) (lines : List (List ℕ)) → units e lines ≡ units_of e (map document_line lines)
document_units e lines = ap (λ z. found_units (groups e (map document_line lines)) z) (sym (map_length document_line lines))

pub document_meets : (e : EntityTable) (front : List (List ℕ)) (line : List ℕ) (later : List (List ℕ)) →
    IsBeginning front line →
    units e (front ++ line ∷ later) ≡ units e front ++ map (shift_found (length front)) (units e (line ∷ later))
document_meets e front line later b =
    let xs = map document_line front in
    let ys = map document_line later in
    document_units e (front ++ line ∷ later)
    ∙ ap (λ z. units_of e z) (map-append document_line front (line ∷ later))
    ∙ units_meet e xs (document_line line) ys b
    ∙ ap (λ z. units_of e xs ++ map (shift_found z) (units_of e (document_line line ∷ ys))) (map_length document_line front)
    ∙ ap (λ z. z ++ map (shift_found (length front)) (units_of e (document_line line ∷ ys))) (sym (document_units e front))
    ∙ ap (λ z. units e front ++ map (shift_found (length front)) z) (sym (document_units e (line ∷ later)))

-- ---- definitions

pub definitions_append : (us vs : List FoundUnit) → definitions_of (us ++ vs) ≡ definitions_of us ++ definitions_of vs
definitions_append [] vs = refl
definitions_append (u ∷ us) vs =
    ap (λ z. u.unit.definitions ++ z) (definitions_append us vs) ∙ sym (append_assoc u.unit.definitions (definitions_of us) (definitions_of vs))

pub definitions_moved : (k : ℕ) (us : List FoundUnit) → definitions_of (map (shift_found k) us) ≡ definitions_of us
definitions_moved k [] = refl
definitions_moved k (u ∷ us) = ap (λ z. u.unit.definitions ++ z) (definitions_moved k us)

-- Of two lists of definitions one after the other the first counts that has the label.
pub first_of_both : (ds fs : List LinkDefinition) (label : List ℕ) →
    first_definition (ds ++ fs) label ≡ option_or (first_definition ds label) (first_definition fs label)
first_of_both [] fs label = refl
first_of_both (d ∷ ds) fs label = go (bytes_eq d.label label) (first_of_both ds fs label)
  where
    go : (b : Bool) → first_definition (ds ++ fs) label ≡ option_or (first_definition ds label) (first_definition fs label) →
        cond b (Some d) (first_definition (ds ++ fs) label) ≡ option_or (cond b (Some d) (first_definition ds label)) (first_definition fs label)
    go true h = refl
    go false h = h

-- The table of units one after the other: of both definitions of a label the first counts.
pub tables_append : (us vs : List FoundUnit) (label : List ℕ) →
    first_definition (definitions_of (us ++ vs)) label ≡ option_or (first_definition (definitions_of us) label) (first_definition (definitions_of vs) label)
tables_append us vs label =
    ap (λ z. first_definition z label) (definitions_append us vs) ∙ first_of_both (definitions_of us) (definitions_of vs) label
