-- A reader that goes line by line from where reading begins: it meets the line at which reading may stop inside a list, and does not pass it.
use Rattle.std.proofs.Common.{◌≡◌, ℕ, ◌+◌, ◌<◌, ◌≤◌, ◌⊎◌, inl, inr, Bool, true, false, ◌&&◌, List, [], ◌∷◌, ◌++◌, length, map, take, drop, get_or, Option, Some, None, refl, sym, ◌∙◌, ap, subst, append_assoc, arith}
use Rattle.std.specs.Prelude.{Contains, nat_le, nat_eq, if◌then◌else◌}
use Rattle.std.specs.List.{find}
use Rattle.std.specs.Option.{unwrap_or}
use Rattle.std.proofs.lemmas.Bool.Decides.{nat_tests}
use Rattle.std.proofs.lemmas.List.{drop-append-le, length-drop, length-take-le, take-append-drop, take_more}
use Rattle.std.proofs.lemmas.List.Elements.{All-contains}
use Rattle.mdtext.specs.EntityTable.{EntityTable}
use Rattle.blockspec.specs.BlockLine.{document_line}
use Rattle.blockspec.specs.BlockUnits.{begins}
use Rattle.blockspec.specs.Meetings.{joins_list}
use Rattle.blockspec.proofs.BeginLaws.{document_only}
use Rattle.blockspec.specs.Joins.{joins, is_joined}
use Rattle.blockspec.proofs.JoinCuts.{no_join}
use Rattle.blockspec.proofs.JoinLines.{document_joins_only}
use Rattle.blockspec.proofs.LastJoins.{joined_next}
use Rattle.mdsource.specs.Stretch.{Places, from_line, meeting_line}
use Rattle.mdsource.specs.ReadStretch.{IsReadStretch}
use Rattle.mdsource.proofs.Cuts.{IsCut, begins_before_end}
use Rattle.mdsource.proofs.Splices.{IsEdit, MeetsBehind, found_is, from_above, from_cut, meets_behind}
use Rattle.mdsource.specs.Stops.{Stops, is_near, near_line, stop_line}
use Rattle.mdsource.proofs.NearLines.{IsStop, NearBehind, found_low, near_behind}
use Rattle.mdsource.proofs.PartedLists.{HasMember, has_member, joins_ascend, joins_within}
use Rattle.mdsource.proofs.ReadJoins.{stretch_joins}

clash : {A : Type 0} → true ≡ false → A
clash h = cc

-- ---- the lines that are read

pub line_more : (new : List (List ℕ)) (from line : ℕ) (d : List ℕ) → from ≤ line → line < length new
    → drop from (take (line + 1) new) ≡ drop from (take line new) ++ get_or new line d ∷ []
line_more new from line d order below =
    let size = length-take-le line new (omega (arith, below)) in
    ap (drop from) (take_more new line d below) ∙ drop-append-le from (take line new) (get_or new line d ∷ []) (omega (arith, order, size))

pub lines_place : (new : List (List ℕ)) (from line : ℕ) → from ≤ line → line ≤ length new → length (take from new) + length (drop from (take line new)) ≡ line
lines_place new from line order below =
    let a = length-take-le from new (omega (arith, order, below)) in
    let b = length-drop from (take line new) in
    let c = length-take-le line new below in
    omega (arith, a, b, c, order)

-- the lines behind those that were read
pub stretch_rest : (new : List (List ℕ)) (from line : ℕ) (d : List ℕ) → from ≤ line → line < length new
    → drop from new ≡ (drop from (take line new) ++ get_or new line d ∷ []) ++ drop (line + 1) new
stretch_rest new from line d order below =
    let size = length-take-le (line + 1) new (omega (arith, below)) in
    ap (drop from) (sym (take-append-drop (line + 1) new))
    ∙ drop-append-le from (take (line + 1) new) (drop (line + 1) new) (omega (arith, order, size))
    ∙ ap (λ z. z ++ drop (line + 1) new) (line_more new from line d order below)

in_parts : (new : List (List ℕ)) (from line : ℕ) (d : List ℕ) → from ≤ line → line < length new
    → new ≡ (take from new ++ (drop from (take line new) ++ get_or new line d ∷ [])) ++ drop (line + 1) new
in_parts new from line d order below =
    sym (take-append-drop from new) ∙ ap (λ z. take from new ++ z) (stretch_rest new from line d order below)
    ∙ sym (append_assoc (take from new) (drop from (take line new) ++ get_or new line d ∷ []) (drop (line + 1) new))

pub read_stretch : (e : EntityTable) (old new : List (List ℕ)) (p : Places) → IsEdit e old new p → (line : ℕ) (d : List ℕ) → from_line p ≤ line → line < length new
    → IsReadStretch e new (take (from_line p) new) (drop (from_line p) (take line new)) (get_or new line d) (drop (line + 1) new)
read_stretch e old new p w line d order below = record { order = in_parts new (from_line p) line d order below; cut = by (from_cut e old new p w new w.front) }
  where
    size : length (take (from_line p) new) ≡ from_line p
    size = length-take-le (from_line p) new (omega (arith, order, below))

    by : IsCut e new (from_line p) → (length (take (from_line p) new) ≡ 0) ⊎ Contains (begins e new) (length (take (from_line p) new))
    by (inl h) = inl (size ∙ h)
    by (inr (inl h)) = absurd (omega (arith, h, order, below))
    by (inr (inr h)) = inr (subst (λ z. Contains (begins e new) z) (sym size) h)

-- Of the new text a list may be parted at the line that was read last exactly where that line begins a later item behind those that were read before it.
pub joins_told : (e : EntityTable) (old new : List (List ℕ)) (p : Places) → IsEdit e old new p → (line : ℕ) (d : List ℕ) → from_line p ≤ line → line < length new
    → (let told = joins_list (map document_line (drop (from_line p) (take line new))) (document_line (get_or new line d)) in
    (Contains (joins e new) line → told ≡ true) × (told ≡ true → Contains (joins e new) line))
joins_told e old new p w line d order below =
    let ls = drop (from_line p) (take line new) in
    let both = stretch_joins e new (take (from_line p) new) ls (get_or new line d) (drop (line + 1) new) (read_stretch e old new p w line d order below) in
    let place = lines_place new (from_line p) line order (omega (arith, below)) in
    (λ c. both.0 (subst (λ z. Contains (joins e new) z) (sym place) c), λ h. subst (λ z. Contains (joins e new) z) place (both.1 h))

-- and so the reader tells it
joined_told : (e : EntityTable) (old new : List (List ℕ)) (p : Places) → IsEdit e old new p → (line : ℕ) → from_line p ≤ line → line < length new
    → (let told = is_joined e (drop (from_line p) (take (line + 1) new)) in
    (Contains (joins e new) line → told ≡ true) × (told ≡ true → Contains (joins e new) line))
joined_told e old new p w line order below =
    let ls = drop (from_line p) (take line new) in
    let l = get_or new line [] in
    let is : is_joined e (drop (from_line p) (take (line + 1) new)) ≡ joins_list (map document_line ls) (document_line l) =
    ap (is_joined e) (line_more new (from_line p) line [] order below) ∙ joined_next e ls l in
    let both = joins_told e old new p w line [] order below in
    (λ c. is ∙ both.0 c, λ h. both.1 (sym is ∙ h))

-- ---- the line at which reading may stop

pub near_within : (e : EntityTable) (old new : List (List ℕ)) (s : Stops) → IsStop e old new s → near_line s ≤ length new
near_within e old new s w = by (near_behind e old new s w)
  where
    by : NearBehind e old new s → near_line s ≤ length new
    by (inl h) = omega (arith, h)
    by (inr h) = let small = All-contains (λ j. j < length new) (joins e new) (near_line s) (joins_within e new) h.1 in omega (arith, small)

pub near_above : (e : EntityTable) (old new : List (List ℕ)) (s : Stops) → IsStop e old new s → from_line s.places ≤ near_line s
near_above e old new s w = by (near_behind e old new s w)
  where
    above : from_line s.places ≤ s.places.at
    above = from_above e old new s.places w.edit_there

    by : NearBehind e old new s → from_line s.places ≤ near_line s
    by (inl h) = let fits = w.edit_there.fits in let sizes = w.edit_there.sizes in omega (arith, above, h, fits, sizes)
    by (inr h) = let behind = h.0 in omega (arith, above, behind)

-- where it is no end of the text, a later item begins there in both
pub near_there : (e : EntityTable) (old new : List (List ℕ)) (s : Stops) → IsStop e old new s → near_line s < length new → Contains (joins e new) (near_line s) × (is_near s (near_line s) ≡ true)
near_there e old new s w small = by (find (is_near s) s.new_joins) refl
  where
    by : (o : Option ℕ) → find (is_near s) s.new_joins ≡ o → Contains (joins e new) (near_line s) × (is_near s (near_line s) ≡ true)
    by None h = absurd (let end : near_line s ≡ length new = ap (λ z. unwrap_or z s.places.new_lines) h ∙ w.edit_there.lines in omega (arith, end, small))
    by (Some m) h =
        let is : near_line s ≡ m = ap (λ z. unwrap_or z s.places.new_lines) h in
        let f = found_is (is_near s) s.new_joins m h in
        subst (λ z. Contains (joins e new) z × (is_near s z ≡ true)) (sym is) (subst (λ js. Contains js m) w.news f.0, f.1)

near_first : (e : EntityTable) (old new : List (List ℕ)) (s : Stops) → IsStop e old new s → (line : ℕ) → Contains (joins e new) line → is_near s line ≡ true → near_line s ≤ line
near_first e old new s w line here is =
    subst (λ js. unwrap_or (find (is_near s) js) s.places.new_lines ≤ line) (sym w.news) (found_low (is_near s) (joins e new) s.places.new_lines line (joins_ascend e new) here is)

-- Of a line up to which reading has not stopped inside a list, the reader and the old text tell whether it stops at it.
pub near_told : (e : EntityTable) (old new : List (List ℕ)) (s : Stops) → IsStop e old new s → (line : ℕ) → from_line s.places ≤ line → line < length new → line ≤ near_line s
    → nat_eq (near_line s) line ≡ (is_joined e (drop (from_line s.places) (take (line + 1) new)) && is_near s line)
near_told e old new s w line order below up_to =
    by (is_joined e (drop (from_line s.places) (take (line + 1) new))) refl (is_near s line) refl
  where
    t : (Contains (joins e new) line → is_joined e (drop (from_line s.places) (take (line + 1) new)) ≡ true)
        × (is_joined e (drop (from_line s.places) (take (line + 1) new)) ≡ true → Contains (joins e new) line)
    t = joined_told e old new s.places w.edit_there line order below

    here : near_line s ≡ line → Contains (joins e new) line × (is_near s line ≡ true)
    here same = subst (λ z. Contains (joins e new) z × (is_near s z ≡ true)) same (near_there e old new s w (omega (arith, same, below)))

    unless : ((near_line s ≡ line) → ⊥) → nat_eq (near_line s) line ≡ false
    unless other = go (nat_eq (near_line s) line) refl
      where
        go : (b : Bool) → nat_eq (near_line s) line ≡ b → b ≡ false
        go true h = absurd (other (grind (arith, nat_tests, h)))
        go false h = refl

    by : (a : Bool) → is_joined e (drop (from_line s.places) (take (line + 1) new)) ≡ a → (b : Bool) → is_near s line ≡ b → nat_eq (near_line s) line ≡ (a && b)
    by true j true n = let low = near_first e old new s w line (t.1 j) n in let same : near_line s ≡ line = omega (arith, low, up_to) in grind (arith, nat_tests, same)
    by true j false n = unless (λ same. clash (sym (here same).1 ∙ n))
    by false j b n = unless (λ same. clash (sym (t.0 (here same).0) ∙ j))

-- A line that begins a unit begins no later item, so it is never the one at which reading stops where a unit begins in both texts.
pub never_both : (e : EntityTable) (lines : List (List ℕ)) (n : ℕ) → Contains (begins e lines) n → Contains (joins e lines) n → ⊥
never_both e lines n b j = go (has_member lines n small)
  where
    small : n < length lines
    small = begins_before_end e lines n b

    size : length (take n lines) ≡ n
    size = length-take-le n lines (omega (arith, small))

    go : HasMember lines n → ⊥
    go m =
        let front = take n lines in
        let whole : front ++ m.line ∷ m.later ≡ lines = ap (λ z. front ++ z) (sym m.is) ∙ take-append-drop n lines in
        let begun = document_only e front m.line m.later (subst (λ z. Contains (begins e z) (length front)) (sym whole) (subst (λ z. Contains (begins e lines) z) (sym size) b)) in
        let joined = document_joins_only e front m.line m.later (subst (λ z. Contains (joins e z) (length front)) (sym whole) (subst (λ z. Contains (joins e lines) z) (sym size) j)) in
        clash (sym joined ∙ no_join (map document_line front) (document_line m.line) begun)

pub near_before : (e : EntityTable) (old new : List (List ℕ)) (s : Stops) → IsStop e old new s → near_line s < length new → near_line s ≤ meeting_line s.places → near_line s < meeting_line s.places
near_before e old new s w small low = by (meets_behind e old new s.places w.edit_there)
  where
    by : MeetsBehind e old new s.places → near_line s < meeting_line s.places
    by (inl h) = omega (arith, h, small)
    by (inr h) = go (nat_eq (near_line s) (meeting_line s.places)) refl
      where
        go : (t : Bool) → nat_eq (near_line s) (meeting_line s.places) ≡ t → near_line s < meeting_line s.places
        go true k =
            let same : meeting_line s.places ≡ near_line s = grind (arith, nat_tests, k) in
            absurd (never_both e new (near_line s) (subst (λ z. Contains (begins e new) z) same h.1) (near_there e old new s w small).0)
        go false k = grind (arith, nat_tests, k, low)

-- Lines up to both are up to where reading stops.
pub stop_high : (s : Stops) (line : ℕ) → line ≤ near_line s → line ≤ meeting_line s.places → line ≤ stop_line s
stop_high s line a b = go (nat_le (meeting_line s.places) (near_line s))
  where
    go : (t : Bool) → line ≤ (if t then meeting_line s.places else near_line s)
    go true = b
    go false = a
