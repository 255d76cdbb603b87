-- The first line of a container too many, before a line that begins a later item of a list and from it on.
use Rattle.std.proofs.Common.{◌≡◌, ℕ, suc, Bool, true, false, not, ◌&&◌, List, ◌∷◌, ◌++◌, length, map, refl, ◌∙◌, ap, arith}
use Rattle.std.proofs.lemmas.List.{map-append}
use Rattle.std.specs.Option.{option_or}
use Rattle.blockspec.specs.BlockLine.{BlockLine, document_line}
use Rattle.blockspec.specs.BlankLines.{is_blank_line}
use Rattle.blockspec.specs.BlockStart.{begun}
use Rattle.blockspec.specs.BlockUnits.{visible_in, depth_of}
use Rattle.blockspec.specs.Meetings.{joins_behind, joins_list}
use Rattle.blockspec.specs.Nesting.{deep_within, first_too_deep}
use Rattle.blockspec.specs.Stretches.{cut_within, tip_within}
use Rattle.blockspec.specs.UnitBegin.{is_apart, list_mark, same_mark, tail_mark}
use Rattle.blockspec.proofs.DepthLaws.{apart_deep}
use Rattle.blockspec.proofs.DocumentLaws.{map_length}
use Rattle.blockspec.proofs.NestingLaws.{moved_on}
use Rattle.blockspec.proofs.NestingMeets.{deep_apart}
use Rattle.blockspec.proofs.VisibleLaws.{visible_append}

first_two : (a b c : Bool) → (a && not b && c) ≡ true → (a ≡ true) × (b ≡ false)
first_two true false c e = (refl, refl)
first_two true true c e = absurd (let x : ⊥ = cc in x)
first_two false b c e = absurd (let x : ⊥ = cc in x)

-- Where a line begins an item of the list that stands last, the first line too deep is that of the lines before it, or else that of
-- the lines from it on alone, so many lines further on.
pub deep_meets_inside : (limit : ℕ) (xs : List BlockLine) (l : BlockLine) (ys : List BlockLine) → joins_list xs l ≡ true →
    deep_within limit (xs ++ l ∷ ys) ≡ option_or (deep_within limit xs) (moved_on (length xs) (deep_within limit (l ∷ ys)))
unfolding joins_list joins_behind
deep_meets_inside limit xs l ys j =
    let d = suc (visible_in (xs ++ l ∷ ys)) in
    let t = (cut_within (depth_of xs) xs).tail in
    let v = visible_append xs (l ∷ ys) in
    let both = first_two (is_apart (tip_within (depth_of xs)) t l) (is_blank_line l) (same_mark (tail_mark t) (list_mark (begun l))) j in
    deep_apart limit xs l ys (apart_deep d xs l (omega (arith, v)) ∙ both.0) both.1

pub document_deep_inside : (limit : ℕ) (front : List (List ℕ)) (line : List ℕ) (later : List (List ℕ)) → joins_list (map document_line front) (document_line line) ≡ true →
    first_too_deep limit (front ++ line ∷ later) ≡ option_or (first_too_deep limit front) (moved_on (length front) (first_too_deep limit (line ∷ later)))
document_deep_inside limit front line later j =
    ap (deep_within limit) (map-append document_line front (line ∷ later))
    ∙ deep_meets_inside limit (map document_line front) (document_line line) (map document_line later) j
    ∙ ap (λ z. option_or (first_too_deep limit front) (moved_on z (first_too_deep limit (line ∷ later)))) (map_length document_line front)
