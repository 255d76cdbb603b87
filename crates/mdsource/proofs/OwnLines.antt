-- The own lines of each unit of a document: where it is cut, and where it is edited.
use Rattle.std.proofs.Common.{◌≡◌, ℕ, ◌+◌, ◌<◌, ◌≤◌, List, [], ◌∷◌, ◌++◌, length, map, take, drop, refl, sym, ◌∙◌, ap, subst, append_assoc, arith, length-append}
use Rattle.std.specs.List.{All}
use Rattle.std.specs.Prelude.{Contains}
use Rattle.std.proofs.lemmas.List.{drop-drop, drop-take, length-take, map-append, take-append-le, take-take, take_all}
use Rattle.std.proofs.lemmas.List.Elements.{All-nil, All-cons, All-contains, All-head, All-tail, All-weaker, Contains-append_right, Contains-append_left, Contains-push}
use Rattle.std.proofs.Math.Seq.{take-append_seam, drop-append_seam}
use Rattle.mdtext.specs.EntityTable.{EntityTable}
use Rattle.blockspec.specs.BlockUnits.{units}
use Rattle.blockspec.specs.UnitBegin.{shift_found}
use Rattle.blockspec.specs.UnitTree.{FoundUnit}
use Rattle.blockspec.proofs.DocumentLaws.{map_length}
use Rattle.mdsource.specs.Spliced.{IsSpliced}
use Rattle.mdsource.specs.Stretch.{Places, from_line, old_line, meeting_line, units_before, units_removed}
use Rattle.mdsource.specs.UnitTiles.{between_replaced}
use Rattle.mdsource.proofs.Counts.{spliced}
use Rattle.mdsource.proofs.Cuts.{IsCut, begins_in, begins_within, units_cut}
use Rattle.mdsource.proofs.Splices.{IsEdit, from_above, from_cut, meets}
use Rattle.mdsource.specs.MetInside.{first_line}
use Rattle.mdsource.specs.UnitItems.{own_lines}
use Rattle.mdsource.proofs.UnitCuts.{split_behind, unit_ends}

-- ---- one unit

-- Lines that come later do not change the own lines of a unit that has ended.
own_before : (front more : List (List ℕ)) (one : FoundUnit) → one.begin + one.lines ≤ length front → own_lines (front ++ more) one ≡ own_lines front one
own_before front more one h = ap (drop one.begin) (take-append-le (one.begin + one.lines) front more h)

-- nor does what stands before them
own_behind : (lines : List (List ℕ)) (n : ℕ) (one : FoundUnit) → own_lines lines (shift_found n one) ≡ own_lines (drop n lines) one
own_behind lines n one =
    let place : one.begin + n ≡ n + one.begin = omega arith in
    let end : one.begin + n + one.lines ≡ n + (one.begin + one.lines) = omega arith in
    ap (λ k. drop k (take (one.begin + n + one.lines) lines)) place
    ∙ ap (λ k. drop (n + one.begin) (take k lines)) end
    ∙ sym (drop-drop one.begin n (take (n + (one.begin + one.lines)) lines))
    ∙ ap (drop one.begin) (drop-take n (one.begin + one.lines) lines)

own_taken : (lines : List (List ℕ)) (n : ℕ) (one : FoundUnit) → one.begin + one.lines ≤ n → own_lines lines one ≡ own_lines (take n lines) one
own_taken lines n one h = ap (drop one.begin) (sym (take-take (one.begin + one.lines) n lines h))

-- The last unit has all lines from its first one on.
pub own_last : (e : EntityTable) (lines : List (List ℕ)) (before : List FoundUnit) (one : FoundUnit) → units e lines ≡ before ++ one ∷ [] → own_lines lines one ≡ drop one.begin lines
own_last e lines before one is =
    let end = unit_ends e lines before one [] is in
    ap (drop one.begin) (take_all (one.begin + one.lines) lines (omega (arith, end)))

first_within : (e : EntityTable) (lines : List (List ℕ)) (before back : List FoundUnit) → units e lines ≡ before ++ back → first_line (length lines) back ≤ length lines
first_within e lines before [] is = omega arith
first_within e lines before (v ∷ back) is =
    let small = All-contains (λ b. b < length lines) (begins_in (before ++ v ∷ back)) v.begin (subst (λ us. All (λ b. b < length lines) (begins_in us)) is (begins_within e lines))
    (subst (λ bs. Contains bs v.begin) (sym (map-append (λ (u : FoundUnit). u.begin) before (v ∷ back)))
    (Contains-append_right (begins_in before) (begins_in (v ∷ back)) v.begin (Contains-append_left (v.begin ∷ []) (begins_in back) v.begin (Contains-push [] v.begin)))) in
    omega (arith, small)

pub own_later : (e : EntityTable) (lines more : List (List ℕ)) (before : List FoundUnit) (one : FoundUnit) (back : List FoundUnit) → units e lines ≡ before ++ one ∷ back →
    own_lines (lines ++ more) one ≡ own_lines lines one
own_later e lines more before one back is =
    let end = unit_ends e lines before one back is in
    let low = first_within e lines (before ++ one ∷ []) back (split_behind e lines before one back is) in
    own_before lines more one (omega (arith, end, low))

ends_within : (e : EntityTable) (lines : List (List ℕ)) (before back : List FoundUnit) → units e lines ≡ before ++ back → All (λ (u : FoundUnit). u.begin + u.lines ≤ length lines) back
ends_within e lines before [] is = All-nil (λ (u : FoundUnit). u.begin + u.lines ≤ length lines)
ends_within e lines before (one ∷ back) is =
    let split = split_behind e lines before one back is in
    let end = unit_ends e lines before one back is in
    let low = first_within e lines (before ++ one ∷ []) back split in
    All-cons (λ (u : FoundUnit). u.begin + u.lines ≤ length lines) one back (omega (arith, end, low)) (ends_within e lines (before ++ one ∷ []) back split)

-- ---- all units of a document in two parts

map_alike : {A : Type 0} (f g : FoundUnit → A) (us : List FoundUnit) → All (λ u. f u ≡ g u) us → map f us ≡ map g us
map_alike f g [] w = refl
map_alike f g (u ∷ us) w = ap (λ z. z ∷ map f us) (All-head (λ u. f u ≡ g u) u us w) ∙ ap (λ z. g u ∷ z) (map_alike f g us (All-tail (λ u. f u ≡ g u) u us w))

behind_alike : (lines : List (List ℕ)) (n : ℕ) (us : List FoundUnit) → map (own_lines lines) (map (shift_found n) us) ≡ map (own_lines (drop n lines)) us
behind_alike lines n [] = refl
behind_alike lines n (u ∷ us) = ap (λ z. z ∷ map (own_lines lines) (map (shift_found n) us)) (own_behind lines n u) ∙ ap (λ z. own_lines (drop n lines) u ∷ z) (behind_alike lines n us)

-- the own lines of each unit
abbrev pub all_own : EntityTable → (lines : List (List ℕ)) → List (List (List ℕ))
all_own e lines = map (own_lines lines) (units e lines)

-- Where a document may be cut, they are those of both parts.
pub own_parted : (e : EntityTable) (lines : List (List ℕ)) (n : ℕ) → IsCut e lines n → all_own e lines ≡ all_own e (take n lines) ++ all_own e (drop n lines)
own_parted e lines n cut =
    let size = length-take n lines in
    ap (map (own_lines lines)) (units_cut e lines n cut)
    ∙ map-append (own_lines lines) (units e (take n lines)) (map (shift_found n) (units e (drop n lines)))
    ∙ ap (λ z. z ++ map (own_lines lines) (map (shift_found n) (units e (drop n lines))))
    (map_alike (own_lines lines) (own_lines (take n lines)) (units e (take n lines))
    (All-weaker (λ (u : FoundUnit). u.begin + u.lines ≤ length (take n lines)) (λ u. own_lines lines u ≡ own_lines (take n lines) u)
    (λ u h. own_taken lines n u (grind (arith, size, h))) (units e (take n lines)) (ends_within e (take n lines) [] (units e (take n lines)) refl)))
    ∙ ap (λ z. all_own e (take n lines) ++ z) (behind_alike lines n (units e (drop n lines)))

-- ---- an edit

module _ (e : EntityTable) (old new : List (List ℕ)) (p : Places) (w : IsEdit e old new p) where
  abbrev from : ℕ
  from = from_line p

  abbrev to : ℕ
  to = meeting_line p

  abbrev was : ℕ
  was = old_line p (meeting_line p)

  abbrev front : List (List (List ℕ))
  front = all_own e (take from old)

  abbrev gone : List (List (List ℕ))
  gone = all_own e (drop from (take was old))

  abbrev come : List (List (List ℕ))
  come = all_own e (drop from (take to new))

  abbrev back : List (List (List ℕ))
  back = all_own e (drop was old)

  parts : (text : List (List ℕ)) (n : ℕ) → take p.at text ≡ take p.at old → p.at ≤ n → IsCut e text n → all_own e text ≡ (front ++ all_own e (drop from (take n text))) ++ all_own e (drop n text)
  parts text n same h cut =
      let above = from_above e old new p w in
      let start : take p.at (take n text) ≡ take p.at old = take-take p.at n text h ∙ same in
      let short : take from (take n text) ≡ take from old = sym (take-take from p.at (take n text) above) ∙ ap (take from) start ∙ take-take from p.at old above in
      own_parted e text n cut
      ∙ ap (λ z. z ++ all_own e (drop n text)) (own_parted e (take n text) from (from_cut e old new p w (take n text) start)
      ∙ ap (λ z. all_own e z ++ all_own e (drop from (take n text))) short)

  olds : all_own e old ≡ (front ++ gone) ++ back
  olds = let behind = (meets e old new p w).behind_old in parts old was refl (omega (arith, behind)) (meets e old new p w).in_old

  news : all_own e new ≡ (front ++ come) ++ back
  news =
      let behind = (meets e old new p w).behind in
      parts new to w.front (omega (arith, behind)) (meets e old new p w).in_new ∙ ap (λ z. (front ++ come) ++ all_own e z) (meets e old new p w).same

  counted : IsSpliced e old new p
  counted = spliced e old new p w

  first : units_before p ≡ length front
  first = counted.first ∙ sym (map_length (own_lines (take from old)) (units e (take from old)))

  both : units_before p + units_removed p ≡ length (front ++ gone)
  both =
      let whole = length-append front gone in
      let second = counted.removed ∙ sym (map_length (own_lines (drop from (take was old))) (units e (drop from (take was old)))) in
      omega (arith, whole, first, second)

  -- Those from where reading begins to the meeting line are replaced, and the others stay.
  pub own_spliced : all_own e new ≡ between_replaced (all_own e old) (units_before p) (units_before p + units_removed p) (all_own e (drop (from_line p) (take (meeting_line p) new)))
  own_spliced =
      let kept : take (units_before p) (all_own e old) ≡ front =
      ap (take (units_before p)) (olds ∙ append_assoc front gone back) ∙ ap (λ k. take k (front ++ (gone ++ back))) first ∙ take-append_seam front (gone ++ back) in
      let rest : drop (units_before p + units_removed p) (all_own e old) ≡ back =
      ap (drop (units_before p + units_removed p)) olds ∙ ap (λ k. drop k ((front ++ gone) ++ back)) both ∙ drop-append_seam (front ++ gone) back in
      news ∙ ap (λ z. (z ++ come) ++ back) (sym kept) ∙ ap (λ z. (take (units_before p) (all_own e old) ++ come) ++ z) (sym rest)
