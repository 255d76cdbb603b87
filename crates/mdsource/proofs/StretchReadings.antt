-- What a reader that is fed the lines of a stretch tells: where units begin, and with that where the stretch ends.
use Rattle.std.proofs.Common.{◌≡◌, ℕ, ◌+◌, ◌<◌, ◌⊎◌, inl, inr, Bool, true, false, List, [], ◌∷◌, ◌++◌, length, map, drop, Some, None, refl, sym, ◌∙◌, ap, subst, append_assoc, arith, length-append}
use Rattle.std.specs.Prelude.{Contains, cond, if◌then◌else◌}
use Rattle.std.specs.List.{All, find}
use Rattle.std.specs.Option.{unwrap_or}
use Rattle.std.proofs.lemmas.List.{append-nil, map-append}
use Rattle.std.proofs.Math.Seq.{take-append_seam, drop-append_seam}
use Rattle.std.proofs.lemmas.List.Elements.{All-nil, All-cons, All-head, All-tail, All-push, All-contains, Contains-append_cases, Contains-append_left, Contains-append_right, Contains-push}
use Rattle.mdtext.specs.EntityTable.{EntityTable}
use Rattle.blockspec.specs.BlockLine.{BlockLine, document_line}
use Rattle.blockspec.specs.BlockUnits.{begins, units}
use Rattle.blockspec.specs.UnitBegin.{begins_unit, shift_found, units_of}
use Rattle.blockspec.specs.UnitTree.{FoundUnit}
use Rattle.blockspec.proofs.BeginLaws.{begins_next}
use Rattle.blockspec.proofs.DocumentLaws.{document_units, map_length}
use Rattle.mdblock.specs.held.Reads.{last_of}
use Rattle.mdsource.specs.ReadStretch.{IsReadStretch}
use Rattle.mdsource.specs.Stretch.{Places, is_meeting, meeting_line}
use Rattle.mdsource.proofs.Cuts.{IsCut, beginning_kept, begins_in, begins_of_within, begins_within, no_units, units_cut}
use Rattle.mdsource.proofs.Splices.{IsEdit}

-- ---- first lines ascend

abbrev pub Ascends : List ℕ → Type 0
Ascends [] = Unit {0}
Ascends (x ∷ xs) = All (λ y. x < y) xs × Ascends xs

ascends_push : (xs : List ℕ) (n : ℕ) → Ascends xs → All (λ y. y < n) xs → Ascends (xs ++ n ∷ [])
ascends_push [] n h k = (All-nil (λ y. n < y), tt)
ascends_push (x ∷ xs) n h k =
    (All-push (λ y. x < y) xs n h.0 (All-head (λ y. y < n) x xs k), ascends_push xs n h.1 (All-tail (λ y. y < n) x xs k))

ascends_next : (e : EntityTable) (xs : List BlockLine) (l : BlockLine) → Ascends (begins_in (units_of e xs)) → Ascends (begins_in (units_of e (xs ++ l ∷ [])))
ascends_next e xs l h = subst Ascends (sym (begins_next e xs l)) (by (begins_unit xs l))
  where
    bs : List ℕ
    bs = begins_in (units_of e xs)

    by : (t : Bool) → Ascends (if t then bs ++ length xs ∷ [] else bs)
    by true = ascends_push bs (length xs) h (begins_of_within e xs)
    by false = h

ascends_more : (e : EntityTable) (xs ys : List BlockLine) → Ascends (begins_in (units_of e xs)) → Ascends (begins_in (units_of e (xs ++ ys)))
ascends_more e xs [] h = subst (λ z. Ascends (begins_in (units_of e z))) (sym (append-nil xs)) h
ascends_more e xs (y ∷ ys) h =
    subst (λ z. Ascends (begins_in (units_of e z))) (append_assoc xs (y ∷ []) ys) (ascends_more e (xs ++ y ∷ []) ys (ascends_next e xs y h))

pub begins_ascend : (e : EntityTable) (lines : List (List ℕ)) → Ascends (begins e lines)
begins_ascend e lines =
    subst (λ z. Ascends (begins_in z)) (sym (document_units e lines))
    (ascends_more e [] (map document_line lines) (subst (λ z. Ascends (begins_in z)) (sym (no_units e)) tt))

-- ---- the first number of an ascending list that passes

clash : {A : Type 0} → true ≡ false → A
clash h = cc

pub find_least : (p : ℕ → Bool) (xs : List ℕ) (i : ℕ) → Ascends xs → Contains xs i → p i ≡ true → ((j : ℕ) → Contains xs j → j < i → p j ≡ false) → find p xs ≡ Some i
find_least p [] i h w is none = let small = w.1 in absurd (omega (arith, small))
find_least p (x ∷ xs) i h w is none = by (p x) refl (Contains-append_cases (x ∷ []) xs i w) (λ v. find_least p xs i h.1 v is (λ j u. none j (Contains-append_right (x ∷ []) xs j u)))
  where
    here : Contains (x ∷ xs) x
    here = Contains-append_left (x ∷ []) xs x (Contains-push [] x)

    is_first : Contains (x ∷ []) i → x ≡ i
    is_first v = All-contains (λ y. x ≡ y) (x ∷ []) i (All-cons (λ y. x ≡ y) x [] refl (All-nil (λ y. x ≡ y))) v

    by : (t : Bool) → p x ≡ t → Contains (x ∷ []) i ⊎ Contains xs i → (Contains xs i → find p xs ≡ Some i) → cond t (Some x) (find p xs) ≡ Some i
    by true e (inl v) later = ap (λ z. Some z) (is_first v)
    by true e (inr v) later = clash (sym e ∙ none x here (All-contains (λ y. x < y) xs i h.0 v))
    by false e (inl v) later = clash (sym is ∙ ap p (sym (is_first v)) ∙ e)
    by false e (inr v) later = later v

pub find_none : (p : ℕ → Bool) (xs : List ℕ) → ((j : ℕ) → Contains xs j → p j ≡ false) → find p xs ≡ None
find_none p [] none = refl
find_none p (x ∷ xs) none =
    ap (λ t. cond t (Some x) (find p xs)) (none x (Contains-append_left (x ∷ []) xs x (Contains-push [] x)))
    ∙ find_none p xs (λ j u. none j (Contains-append_right (x ∷ []) xs j u))

-- ---- where a stretch ends

-- It ends at the first line behind the edit at which a unit begins in both texts.
pub meets_at : (e : EntityTable) (old new : List (List ℕ)) (p : Places) → IsEdit e old new p → (line : ℕ) → Contains (begins e new) line → is_meeting p line ≡ true
    → ((before : ℕ) → Contains (begins e new) before → before < line → is_meeting p before ≡ false) → meeting_line p ≡ line
meets_at e old new p w line here is none =
    ap (λ bs. unwrap_or (find (is_meeting p) bs) p.new_lines) w.news
    ∙ ap (λ o. unwrap_or o p.new_lines) (find_least (is_meeting p) (begins e new) line (begins_ascend e new) here is none)

-- Where there is none, it ends with the text.
pub meets_nowhere : (e : EntityTable) (old new : List (List ℕ)) (p : Places) → IsEdit e old new p
    → ((line : ℕ) → Contains (begins e new) line → is_meeting p line ≡ false) → meeting_line p ≡ length new
meets_nowhere e old new p w none =
    ap (λ bs. unwrap_or (find (is_meeting p) bs) p.new_lines) w.news
    ∙ ap (λ o. unwrap_or o p.new_lines) (find_none (is_meeting p) (begins e new) none) ∙ w.lines

-- ---- what the reader of a stretch tells

last_pushed : (xs : List ℕ) (n : ℕ) → last_of (xs ++ n ∷ []) ≡ Some n
last_pushed [] n = refl
last_pushed (x ∷ []) n = refl
last_pushed (x ∷ y ∷ ys) n = last_pushed (y ∷ ys) n

pub last_is_there : (xs : List ℕ) (n : ℕ) → last_of xs ≡ Some n → Contains xs n
last_is_there [] n e = cc
last_is_there (x ∷ []) n e = let same : x ≡ n = ap (λ o. unwrap_or o x) e in subst (λ z. Contains (x ∷ []) z) same (Contains-push [] x)
last_is_there (x ∷ y ∷ ys) n e = Contains-append_right (x ∷ []) (y ∷ ys) n (last_is_there (y ∷ ys) n e)

-- the first lines with one line more
begins_pushed : (e : EntityTable) (lines : List (List ℕ)) (line : List ℕ) →
    begins e (lines ++ line ∷ []) ≡ (if begins_unit (map document_line lines) (document_line line) then begins e lines ++ length lines ∷ [] else begins e lines)
begins_pushed e lines line =
    let front = map document_line lines in
    let t = begins_unit front (document_line line) in
    ap begins_in (document_units e (lines ++ line ∷ []))
    ∙ ap (λ z. begins_in (units_of e z)) (map-append document_line lines (line ∷ []))
    ∙ begins_next e front (document_line line)
    ∙ ap (λ n. if t then begins_in (units_of e front) ++ n ∷ [] else begins_in (units_of e front)) (map_length document_line lines)
    ∙ ap (λ us. if t then begins_in us ++ length lines ∷ [] else begins_in us) (sym (document_units e lines))

-- The last line that was read begins a unit exactly where the last unit begins there.
begins_last : (e : EntityTable) (lines : List (List ℕ)) (line : List ℕ) → Contains (begins e (lines ++ line ∷ [])) (length lines)
    → last_of (begins e (lines ++ line ∷ [])) ≡ Some (length lines)
begins_last e lines line = subst (λ bs. Contains bs (length lines) → last_of bs ≡ Some (length lines)) (sym (begins_pushed e lines line))
    (by (begins_unit (map document_line lines) (document_line line)))
  where
    bs : List ℕ
    bs = begins e lines

    by : (t : Bool) → Contains (if t then bs ++ length lines ∷ [] else bs) (length lines) → last_of (if t then bs ++ length lines ∷ [] else bs) ≡ Some (length lines)
    by true w = last_pushed bs (length lines)
    by false w = absurd (let small = All-contains (λ b. b < length lines) bs (length lines) (begins_within e lines) w in omega (arith, small))

moved_back : (n : ℕ) (us : List FoundUnit) (line : ℕ) → Contains (begins_in (map (shift_found n) us)) line → (b : ℕ) × Contains (begins_in us) b × (b + n ≡ line)
moved_back n [] line w = let small = w.1 in absurd (omega (arith, small))
moved_back n (u ∷ us) line w = by (Contains-append_cases ((u.begin + n) ∷ []) (begins_in (map (shift_found n) us)) line w) (moved_back n us line)
  where
    by : Contains ((u.begin + n) ∷ []) line ⊎ Contains (begins_in (map (shift_found n) us)) line
        → (Contains (begins_in (map (shift_found n) us)) line → (b : ℕ) × Contains (begins_in us) b × (b + n ≡ line))
        → (b : ℕ) × Contains (begins_in (u ∷ us)) b × (b + n ≡ line)
    by (inl v) behind = (
      u.begin,
      Contains-append_left (u.begin ∷ []) (begins_in us) u.begin (Contains-push [] u.begin),
      All-contains (λ y. u.begin + n ≡ y) ((u.begin + n) ∷ []) line (All-cons (λ y. u.begin + n ≡ y) (u.begin + n) [] refl (All-nil (λ y. u.begin + n ≡ y))) v,
    )
    by (inr v) behind = let later = behind v in (later.0, Contains-append_right (u.begin ∷ []) (begins_in us) later.0 later.1, later.2)

moved_on : (n : ℕ) (us : List FoundUnit) (b : ℕ) → Contains (begins_in us) b → Contains (begins_in (map (shift_found n) us)) (b + n)
moved_on n [] b w = let small = w.1 in absurd (omega (arith, small))
moved_on n (u ∷ us) b w = by (Contains-append_cases (u.begin ∷ []) (begins_in us) b w) (moved_on n us b)
  where
    by : Contains (u.begin ∷ []) b ⊎ Contains (begins_in us) b → (Contains (begins_in us) b → Contains (begins_in (map (shift_found n) us)) (b + n))
        → Contains (begins_in (map (shift_found n) (u ∷ us))) (b + n)
    by (inl v) later =
        let same = All-contains (λ y. u.begin ≡ y) (u.begin ∷ []) b (All-cons (λ y. u.begin ≡ y) u.begin [] refl (All-nil (λ y. u.begin ≡ y))) v in
        subst (λ z. Contains (begins_in (map (shift_found n) (u ∷ us))) (z + n)) same
        (Contains-append_left ((u.begin + n) ∷ []) (begins_in (map (shift_found n) us)) (u.begin + n) (Contains-push [] (u.begin + n)))
    by (inr v) later = Contains-append_right ((u.begin + n) ∷ []) (begins_in (map (shift_found n) us)) (b + n) (later v)

-- ---- the lines up to the last one that was read

module _ (e : EntityTable) (text front lines : List (List ℕ)) (line : List ℕ) (later : List (List ℕ)) (s : IsReadStretch e text front lines line later) where
  abbrev n : ℕ
  n = length front

  abbrev some : List (List ℕ)
  some = lines ++ line ∷ []

  abbrev all : List (List ℕ)
  all = front ++ some

  abbrev at : ℕ
  at = n + length lines

  small : at < length all
  small = let a = length-append front some in let b = length-append lines (line ∷ []) in omega (arith, a, b)

  cut : (n ≡ 0) ⊎ Contains (begins e text) n → IsCut e all n
  cut (inl h) = inl h
  cut (inr w) =
      let below : n < length all = omega (arith, small) in
      inr (inr (subst (λ z. Contains (begins e z) n) (append-nil all) (beginning_kept e all later [] n below (subst (λ z. Contains (begins e z) n) s.order w))))

  -- cut where reading began
  parts : begins e all ≡ begins e front ++ begins_in (map (shift_found n) (units e some))
  parts =
      ap begins_in (units_cut e all n (cut s.cut)
      ∙ ap (λ z. units e z ++ map (shift_found n) (units e (drop n all))) (take-append_seam front some)
      ∙ ap (λ z. units e front ++ map (shift_found n) (units e z)) (drop-append_seam front some))
      ∙ map-append (λ (f : FoundUnit). f.begin) (units e front) (map (shift_found n) (units e some))

  by : Contains (begins e front) at ⊎ Contains (begins_in (map (shift_found n) (units e some))) at → last_of (begins e some) ≡ Some (length lines)
  by (inl w) = absurd (let low = All-contains (λ b. b < n) (begins e front) at (begins_within e front) w in omega (arith, low))
  by (inr w) =
      let b = moved_back n (units e some) at w in
      let is = b.2 in
      let same : b.0 ≡ length lines = omega (arith, is) in
      begins_last e lines line (subst (λ z. Contains (begins e some) z) same b.1)

  there : Contains (begins e text) at → last_of (begins e some) ≡ Some (length lines)
  there w =
      let inside = subst (λ z. Contains (begins e z) at) (append-nil all) (beginning_kept e all later [] at small (subst (λ z. Contains (begins e z) at) s.order w)) in
      by (Contains-append_cases (begins e front) (begins_in (map (shift_found n) (units e some))) at (subst (λ z. Contains z at) parts inside))

  back : last_of (begins e some) ≡ Some (length lines) → Contains (begins e text) at
  back h =
      let moved = moved_on n (units e some) (length lines) (last_is_there (begins e some) (length lines) h) in
      let is : length lines + n ≡ at = omega arith in
      let inside = subst (λ z. Contains z at) (sym parts)
      (Contains-append_right (begins e front) (begins_in (map (shift_found n) (units e some))) at
      (subst (λ z. Contains (begins_in (map (shift_found n) (units e some))) z) is moved)) in
      subst (λ z. Contains (begins e z) at) (sym s.order)
      (beginning_kept e all [] later at small (subst (λ z. Contains (begins e z) at) (sym (append-nil all)) inside))

  -- Where a unit of the text begins in the last line that was read, the reader says so, and nowhere else.
  pub stretch_begins : (Contains (begins e text) (length front + length lines) → last_of (begins e (lines ++ line ∷ [])) ≡ Some (length lines))
      × (last_of (begins e (lines ++ line ∷ [])) ≡ Some (length lines) → Contains (begins e text) (length front + length lines))
  stretch_begins = (there, back)
