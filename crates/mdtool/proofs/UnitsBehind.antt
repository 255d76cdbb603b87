-- The units behind an edit begin as many lines later as the text is longer.
use Rattle.std.proofs.Common.{◌≡◌, ℕ, ◌+◌, List, [], ◌∷◌, ◌++◌, length, map, take, drop, refl, sym, ◌∙◌, ap, arith, length-append}
use Rattle.std.proofs.lemmas.List.{map-append}
use Rattle.std.proofs.Math.Seq.{drop-append_seam}
use Rattle.mdtext.specs.EntityTable.{EntityTable}
use Rattle.blockspec.specs.BlockUnits.{begins, units}
use Rattle.blockspec.specs.UnitBegin.{shift_found}
use Rattle.blockspec.specs.UnitTree.{FoundUnit}
use Rattle.blockspec.proofs.DocumentLaws.{map_length}
use Rattle.mdsource.specs.Spliced.{IsSpliced, in_parts}
use Rattle.mdsource.specs.Stretch.{Places, from_line, meeting_line, old_line, units_added, units_before, units_removed}
use Rattle.mdsource.proofs.Counts.{spliced}
use Rattle.mdsource.proofs.Cuts.{begins_in}
use Rattle.mdsource.proofs.Splices.{IsEdit, Meets, meets}

-- units that stand so many lines further on, in two texts of so many lines
shifted_alike : (us : List FoundUnit) (a b c d : ℕ) → a + c ≡ b + d
    → map (λ line. line + c) (begins_in (map (shift_found a) us)) ≡ map (λ line. line + d) (begins_in (map (shift_found b) us))
shifted_alike [] a b c d h = refl
shifted_alike (u ∷ us) a b c d h =
    let one : (u.begin + a) + c ≡ (u.begin + b) + d = omega (arith, h) in
    ap (λ z. z ∷ map (λ line. line + c) (begins_in (map (shift_found a) us))) one ∙ ap (λ z. ((u.begin + b) + d) ∷ z) (shifted_alike us a b c d h)

-- the first lines of what stands behind two parts
behind_two : (xs ys zs : List FoundUnit) (n : ℕ) → n ≡ length xs + length ys → drop n (begins_in ((xs ++ ys) ++ zs)) ≡ begins_in zs
behind_two xs ys zs n h =
    let many : n ≡ length (begins_in (xs ++ ys)) =
    let whole = length-append xs ys in
    let same = map_length (λ (f : FoundUnit). f.begin) (xs ++ ys) in
    omega (arith, h, whole, same) in
    ap (drop n) (map-append (λ (f : FoundUnit). f.begin) (xs ++ ys) zs)
    ∙ ap (λ k. drop k (begins_in (xs ++ ys) ++ begins_in zs)) many
    ∙ drop-append_seam (begins_in (xs ++ ys)) (begins_in zs)

-- of a text in three parts, the first lines of the last one
behind_parts : (e : EntityTable) (front text : List (List ℕ)) (from to n : ℕ) → n ≡ length (units e (take from front)) + length (units e (drop from (take to text)))
    → units e text ≡ in_parts e front text from to → drop n (begins e text) ≡ begins_in (map (shift_found to) (units e (drop to text)))
behind_parts e front text from to n h parts =
    let between = units e (drop from (take to text)) in
    let many : n ≡ length (units e (take from front)) + length (map (shift_found from) between) =
    let same = map_length (shift_found from) between in
    omega (arith, h, same) in
    ap (λ us. drop n (begins_in us)) parts ∙ behind_two (units e (take from front)) (map (shift_found from) between) (map (shift_found to) (units e (drop to text))) n many

module _ (e : EntityTable) (old new : List (List ℕ)) (p : Places) (w : IsEdit e old new p) where
  s : IsSpliced e old new p
  s = spliced e old new p w

  m : Meets e old new p
  m = meets e old new p w

  abbrev to : ℕ
  to = meeting_line p

  abbrev was : ℕ
  was = old_line p (meeting_line p)

  news : drop (units_before p + units_added p) (begins e new) ≡ begins_in (map (shift_found to) (units e (drop to new)))
  news =
      let first = s.first in
      let added = s.added in
      behind_parts e old new (from_line p) to (units_before p + units_added p) (omega (arith, first, added)) s.news

  olds : drop (units_before p + units_removed p) (begins e old) ≡ begins_in (map (shift_found was) (units e (drop was old)))
  olds =
      let first = s.first in
      let removed = s.removed in
      behind_parts e old old (from_line p) was (units_before p + units_removed p) (omega (arith, first, removed)) s.olds

  pub units_move : map (λ line. line + length old) (drop (units_before p + units_added p) (begins e new))
      ≡ map (λ line. line + length new) (drop (units_before p + units_removed p) (begins e old))
  units_move =
      let behind = m.behind in
      let sizes = w.sizes in
      let far : to + length old ≡ was + length new = omega (arith, behind, sizes) in
      ap (map (λ line. line + length old)) (news ∙ ap (λ ls. begins_in (map (shift_found to) (units e ls))) s.same)
      ∙ shifted_alike (units e (drop was old)) to was (length old) (length new) far
      ∙ sym (ap (map (λ line. line + length new)) olds)
