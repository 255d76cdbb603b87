-- Where an edit begins and ends, in the words of what a call means; and what the accessors of a preview lend.
use Rattle.std.proofs.Common.{◌≡◌, ℕ, zero, suc, ◌+◌, ◌-◌, ◌^◌, ◌<◌, ◌≤◌, Bool, true, false, List, [], ◌∷◌, Some, None, length, map, take, drop, refl, ap, ◌∙◌, sym, arith, nat_lt, if◌then◌else◌}
use Rattle.std.specs.Prelude.{slice_get, sum_by}
use Rattle.std.specs.List.{All}
use Rattle.std.specs.Option.{unwrap_or}
use Rattle.std.proofs.lemmas.Bool.Decides.{nat_tests}
use Rattle.std.proofs.lemmas.List.{length-map}
use Rattle.std.proofs.lemmas.List.Sums.{sum_by-cons}
use Rattle.std.proofs.lemmas.List.Elements.{All-head, All-tail}
use Rattle.std.proofs.lemmas.Option.{slice_get_past}
use Rattle.mdtext.specs.EntityTable.{EntityTable}
use Rattle.blockspec.specs.BlockUnits.{begins, units}
use Rattle.blockspec.specs.UnitTree.{FoundUnit, UnitTree}
use Rattle.mdsource.specs.Calls.{edit, put}
use Rattle.mdsource.specs.Changes.{patch_of, places}
use Rattle.mdsource.specs.ChangedPieces.{ChangedPieces}
use Rattle.mdsource.specs.Setting.{Setting, Source}
use Rattle.mdsource.specs.Stretch.{Places, units_added, units_before, units_removed, from_line, meeting_line}
use Rattle.mdsource.specs.UnitTiles.{begins_from, lines_of, tile_of}
use Rattle.mdsource.proofs.Counts.{spliced}
use Rattle.mdsource.proofs.UnitTiles.{units_tile}
use Rattle.mdsource.proofs.UnitPlaces.{small_begins}
use Rattle.mdview.specs.HeldBlocks.{HoldsUnits, IsReplacing, lines_in, old_lines, places_of, tile_in}
use Rattle.mdview.specs.HeldUnit.{HeldUnit, ReadUnit, first_line, read_of}
use Rattle.mdview.specs.NewText.{lines_of as new_lines}
use Rattle.mdview.specs.Update.{IsFitFor, IsPatchOf, count_brought, units_brought}
use Rattle.mdview.specs.declared.source.new_text.NewText.{NewText}
use Rattle.mdview.specs.declared.update.Update.{Update}
use Rattle.mdview.proofs.Committed.{brought_count}
use Rattle.mdview.proofs.ReadStretches.{is_edit}

made : (old_begins new_begins : List ℕ) (new_lines at gone come : ℕ) → Places
made old_begins new_begins lines at gone come = record { old_begins = old_begins; new_begins = new_begins; new_lines = lines; at = at; gone = gone; come = come }

pub same_places : (setting : Setting) (source : Source) (text : NewText) (at del : ℕ) (add : List (List ℕ)) → old_lines text ≡ source.lines
    → new_lines text ≡ (put source (edit at del add)).lines → text.at ≡ at → text.gone ≡ del → length text.added.now ≡ length add
    → places_of setting.entities text ≡ places setting source (edit at del add)
unfolding made
same_places setting source text at del add old new a d c =
    let e = setting.entities in
    let lines = (put source (edit at del add)).lines in
    ap (λ z. made (begins e z) (begins e (new_lines text)) (length (new_lines text)) text.at text.gone (length text.added.now)) old
    ∙ ap (λ z. made (begins e source.lines) (begins e z) (length z) text.at text.gone (length text.added.now)) new
    ∙ ap (λ z. made (begins e source.lines) (begins e lines) (length lines) z text.gone (length text.added.now)) a
    ∙ ap (λ z. made (begins e source.lines) (begins e lines) (length lines) at z (length text.added.now)) d
    ∙ ap (λ z. made (begins e source.lines) (begins e lines) (length lines) at del z) c

-- the numbers of the patch
pub patch_numbers : (setting : Setting) (source : Source) (text : NewText) (at del : ℕ) (add : List (List ℕ)) (held : List HeldUnit) (update : Update) (patch : ChangedPieces)
    → places_of setting.entities text ≡ places setting source (edit at del add) → IsReplacing setting.entities held text update → IsFitFor setting.options held update → IsPatchOf update patch
    → let due = patch_of setting source (edit at del add) in
    (patch.first ≡ due.first) × (patch.removed ≡ due.removed) × (patch.added ≡ due.added)
patch_numbers setting source text at del add held update patch same w fit is = (
  is.first ∙ w.first ∙ ap units_before same,
  is.removed ∙ gone ∙ ap units_removed same,
  is.added ∙ come ∙ ap units_added same,
)
  where
    p : Places
    p = places_of setting.entities text

    gone : update.next - update.first ≡ units_removed p
    gone = let a = w.first in let b = w.next in omega (arith, a, b)

    come : count_brought update ≡ units_added p
    come =
        let part = units setting.entities (drop (from_line p) (take (meeting_line p) (new_lines text))) in
        sym (brought_count setting.options held update fit) ∙ sym (length-map (units_brought held update) read_of) ∙ sym (length-map (map read_of (units_brought held update)) tile_in)
        ∙ ap (λ z. length z) w.units ∙ length-map part tile_of
        ∙ sym (spliced setting.entities (old_lines text) (new_lines text) p (is_edit setting.entities text)).added

-- ---- what is lent

pub held_count : (e : EntityTable) (lines : List (List ℕ)) (head : ℕ) (held : List ReadUnit) → HoldsUnits e lines head held → length held ≡ length (units e lines)
held_count e lines head held w = sym (length-map held tile_in) ∙ ap (λ z. length z) w.tiles ∙ length-map (units e lines) tile_of

tree_of : ℕ × UnitTree → UnitTree
tree_of t = t.1

-- ---- first lines

size_of_tile : ℕ × UnitTree → ℕ
size_of_tile t = t.0

held_sizes : (held : List ReadUnit) → map (λ (u : ReadUnit). u.lines) held ≡ map size_of_tile (map tile_in held)
unfolding size_of_tile
held_sizes [] = refl
held_sizes (u ∷ held) = ap (λ z. u.lines ∷ z) (held_sizes held)

found_sizes : (found : List FoundUnit) → lines_of found ≡ map size_of_tile (map tile_of found)
unfolding size_of_tile
found_sizes [] = refl
found_sizes (f ∷ found) = ap (λ z. f.lines ∷ z) (found_sizes found)

sizes_read : (held : List HeldUnit) → map lines_in held ≡ map (λ (u : ReadUnit). u.lines) (map read_of held)
sizes_read [] = refl
sizes_read (u ∷ held) = ap (λ z. u.read.lines ∷ z) (sizes_read held)

-- Where the units begin, by what is held.
pub begins_held : (e : EntityTable) (lines : List (List ℕ)) (head : ℕ) (held : List ReadUnit) → HoldsUnits e lines head held
    → begins e lines ≡ begins_from head (map (λ (u : ReadUnit). u.lines) held)
begins_held e lines head held w =
    units_tile e lines
    ∙ ap (λ z. begins_from z (lines_of (units e lines))) (sym w.before)
    ∙ ap (begins_from head) (found_sizes (units e lines) ∙ ap (map size_of_tile) (sym w.tiles) ∙ sym (held_sizes held))

pub begins_are : (e : EntityTable) (lines : List (List ℕ)) (head : ℕ) (held : List HeldUnit) → HoldsUnits e lines head (map read_of held)
    → begins e lines ≡ begins_from head (map lines_in held)
begins_are e lines head held w = begins_held e lines head (map read_of held) w ∙ ap (begins_from head) (sym (sizes_read held))

pub begins_many : (e : EntityTable) (lines : List (List ℕ)) (head : ℕ) (held : List HeldUnit) → HoldsUnits e lines head (map read_of held) → length (begins e lines) ≡ length held
begins_many e lines head held w = length-map (units e lines) (λ (f : FoundUnit). f.begin) ∙ sym (held_count e lines head (map read_of held) w) ∙ length-map held read_of

begin_at : (sizes : List ℕ) (head i : ℕ) → i < length sizes → slice_get (begins_from head sizes) i ≡ Some (head + sum_by (λ n. n) (take i sizes))
begin_at [] head i h = absurd (omega (arith, h))
begin_at (n ∷ sizes) head zero h = let same : head ≡ head + 0 = omega arith in ap (λ z. Some z) same
begin_at (n ∷ sizes) head (suc i) h =
    let more = sum_by-cons (λ m. m) n (take i sizes) in
    let same : (head + n) + sum_by (λ m. m) (take i sizes) ≡ head + sum_by (λ m. m) (n ∷ take i sizes) = omega (arith, more) in
    begin_at sizes (head + n) i (omega (arith, h)) ∙ ap (λ z. Some z) same

begins_count : (sizes : List ℕ) (head : ℕ) → length (begins_from head sizes) ≡ length sizes
begins_count [] head = refl
begins_count (n ∷ sizes) head = ap suc (begins_count sizes (head + n))

sums : (held : List ReadUnit) (i : ℕ) → sum_by (λ n. n) (take i (map (λ (u : ReadUnit). u.lines) held)) ≡ sum_by (λ (u : ReadUnit). u.lines) (take i held)
sums held zero = refl
sums [] (suc i) = refl
sums (u ∷ held) (suc i) =
    sum_by-cons (λ n. n) u.lines (take i (map (λ (v : ReadUnit). v.lines) held)) ∙ ap (λ n. u.lines + n) (sums held i) ∙ sym (sum_by-cons (λ (v : ReadUnit). v.lines) u (take i held))

got_small : (xs : List ℕ) (i x far : ℕ) → slice_get xs i ≡ Some x → All (λ b. b < far) xs → x < far
got_small [] i x far h all = cc
got_small (y ∷ xs) zero x far h all = let same : y ≡ x = ap (λ o. unwrap_or o x) h in let low = All-head (λ b. b < far) y xs all in omega (arith, same, low)
got_small (y ∷ xs) (suc i) x far h all = got_small xs i x far h (All-tail (λ b. b < far) y xs all)

-- the first line of a unit, by how many lines those before it have
pub begin_behind : (e : EntityTable) (lines : List (List ℕ)) (head : ℕ) (held : List ReadUnit) (i : ℕ) → HoldsUnits e lines head held → i < length held
    → slice_get (begins e lines) i ≡ Some (head + sum_by (λ (u : ReadUnit). u.lines) (take i held))
begin_behind e lines head held i w below =
    let many = length-map held (λ (u : ReadUnit). u.lines) in
    ap (λ z. slice_get z i) (begins_held e lines head held w) ∙ begin_at (map (λ (u : ReadUnit). u.lines) held) head i (omega (arith, below, many)) ∙ ap (λ n. Some (head + n)) (sums held i)

pub begin_of_unit : (e : EntityTable) (lines : List (List ℕ)) (head : ℕ) (held : List ReadUnit) (i : ℕ) → length lines ≤ 1000000 → HoldsUnits e lines head held
    → (if nat_lt i (length held) then Some (first_line head held i) else None) ≡ slice_get (begins e lines) i
begin_of_unit e lines head held i few w = by (nat_lt i (length held)) refl
  where
    sizes : List ℕ
    sizes = map (λ (u : ReadUnit). u.lines) held

    many : length sizes ≡ length held
    many = length-map held (λ (u : ReadUnit). u.lines)

    there : i < length held → slice_get (begins e lines) i ≡ Some (head + sum_by (λ (u : ReadUnit). u.lines) (take i held))
    there h = begin_behind e lines head held i w h

    by : (t : Bool) → nat_lt i (length held) ≡ t → (if t then Some (first_line head held i) else None) ≡ slice_get (begins e lines) i
    by true h =
        let inside : i < length held = grind (arith, nat_tests, h) in
        let value = head + sum_by (λ (u : ReadUnit). u.lines) (take i held) in
        let low = got_small (begins e lines) i value (2 ^ 64 - 1) (there inside) (small_begins e lines few) in
        let same : first_line head held i ≡ value = grind (arith, low) in
        ap (λ z. Some z) same ∙ sym (there inside)
    by false h =
        let past : length held ≤ i = grind (arith, nat_tests, h) in
        let count = begins_count sizes head in
        sym (ap (λ z. slice_get z i) (begins_held e lines head held w) ∙ slice_get_past (begins_from head sizes) i (omega (arith, past, count, many)))
