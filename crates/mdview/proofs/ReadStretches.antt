-- What a reader is fed that reads a text from one line on, and where the text of an edit is cut.
use Rattle.std.proofs.Common.{◌≡◌, ℕ, ◌+◌, ◌-◌, ◌<◌, ◌≤◌, Bool, true, false, List, [], ◌∷◌, ◌++◌, Option, Some, None, length, map, take, drop, get_or, refl, ap, ◌∙◌, sym, subst, arith, append_assoc, length-append, nat_lt, string_bytes}
use Rattle.std.specs.Prelude.{Contains, nat_eq}
use Rattle.std.specs.List.{find}
use Rattle.std.specs.Option.{unwrap_or}
use Rattle.std.proofs.lemmas.Bool.Decides.{nat_tests}
use Rattle.std.proofs.lemmas.List.{length-drop, length-map, length-take-le}
use Rattle.std.proofs.Math.Seq.{drop-append_seam, drop-length, take-append_seam}
use Rattle.mdtext.specs.EntityTable.{EntityTable}
use Rattle.blockspec.specs.BlockUnits.{begins}
use Rattle.mdblock.specs.held.Reads.{last_of, open_begin}
use Rattle.mdsource.specs.Stretch.{Places, from_line, is_meeting, meeting_line}
use Rattle.mdsource.proofs.Splices.{IsEdit, found_is}
pub use Rattle.mdsource.proofs.NearStretch.{line_more as stretch_next, stretch_rest}
use Rattle.mdsource.proofs.NearStretch.{lines_place, read_stretch}
use Rattle.mdsource.proofs.StretchReadings.{stretch_begins}
use Rattle.mdview.specs.HeldBlocks.{old_lines, places_of}
use Rattle.mdview.specs.NewText.{lines_of as new_lines}
use Rattle.mdview.specs.declared.source.new_text.NewText.{NewText}
use Rattle.mdview.specs.Lists.{replaced}
use Rattle.mdview.proofs.Sizes.{length_replaced}

-- ---- an edit's two texts

is_edit_of : (e : EntityTable) (old come : List (List ℕ)) (at del add : ℕ) → at + del ≤ length old → length come ≡ add
    → IsEdit e old (replaced old at del come) (record { old_begins = begins e old; new_begins = begins e (replaced old at del come); new_lines = length (replaced old at del come); at = at; gone = del; come = add })
is_edit_of e old come at del add fits c = record {
  olds = refl;
  news = refl;
  lines = refl;
  fits = fits;
  sizes = omega (arith, length_replaced old come at del fits, c);
  front = ap (take at) (append_assoc front come back) ∙ ap (λ n. take n (front ++ (come ++ back))) (sym front_size) ∙ take-append_seam front (come ++ back);
  back = ap (λ n. drop n (front ++ come ++ back)) (let half = length-append front come in let is : at + add ≡ length (front ++ come) = omega (arith, half, front_size, c) in is)
      ∙ drop-append_seam (front ++ come) back;
}
  where
    front : List (List ℕ)
    front = take at old

    back : List (List ℕ)
    back = drop (at + del) old

    front_size : length front ≡ at
    front_size = length-take-le at old (omega (arith, fits))

pub is_edit : (e : EntityTable) (text : NewText) → IsEdit e (old_lines text) (new_lines text) (places_of e text)
is_edit e text =
    let fits = text.within in
    is_edit_of e (map string_bytes text.lines.now.items) (map string_bytes text.added.now) text.at text.gone (length text.added.now)
    (omega (arith, fits, length-map text.lines.now.items string_bytes)) (length-map text.added.now string_bytes)

-- ---- the lines from one on

pub stretch_size : (new : List (List ℕ)) (from line : ℕ) → line ≤ length new → length (drop from (take line new)) ≡ line - from
stretch_size new from line below = let a = length-drop from (take line new) in let b = length-take-le line new below in omega (arith, a, b)

pub stretch_none : (new : List (List ℕ)) (from : ℕ) → from ≤ length new → drop from (take from new) ≡ []
stretch_none new from below = ap (λ n. drop n (take from new)) (sym (length-take-le from new below)) ∙ drop-length (take from new)

-- ---- what the reader tells of a line

-- A unit of the new text begins in the last line that was read exactly where the reader's last unit does.
pub tells_begin : (e : EntityTable) (old new : List (List ℕ)) (p : Places) → IsEdit e old new p → (line : ℕ) (d : List ℕ) → from_line p ≤ line → line < length new
    → (Contains (begins e new) line → open_begin e (drop (from_line p) (take line new) ++ get_or new line d ∷ []) ≡ Some (line - from_line p))
    × (open_begin e (drop (from_line p) (take line new) ++ get_or new line d ∷ []) ≡ Some (line - from_line p) → Contains (begins e new) line)
tells_begin e old new p w line d order below =
    (λ c. s.0 (subst (λ z. Contains (begins e new) z) (sym place) c) ∙ ap (λ z. Some z) size, λ h. subst (λ z. Contains (begins e new) z) place (s.1 (h ∙ ap (λ z. Some z) (sym size))))
  where
    from : ℕ
    from = from_line p

    ls : List (List ℕ)
    ls = drop from (take line new)

    size : length ls ≡ line - from
    size = stretch_size new from line (omega (arith, below))

    place : length (take from new) + length ls ≡ line
    place = lines_place new from line order (omega (arith, below))

    s : (Contains (begins e new) (length (take from new) + length ls) → last_of (begins e (ls ++ get_or new line d ∷ [])) ≡ Some (length ls))
        × (last_of (begins e (ls ++ get_or new line d ∷ [])) ≡ Some (length ls) → Contains (begins e new) (length (take from new) + length ls))
    s = stretch_begins e new (take from new) ls (get_or new line d) (drop (line + 1) new) (read_stretch e old new p w line d order below)

-- No unit begins in both texts up to a line: reading goes on to it at least.
pub meets_later : (e : EntityTable) (old new : List (List ℕ)) (p : Places) → IsEdit e old new p → (line : ℕ) → line ≤ length new
    → ((before : ℕ) → Contains (begins e new) before → before < line → is_meeting p before ≡ false) → line ≤ meeting_line p
meets_later e old new p w line below none = by (find (is_meeting p) p.new_begins) refl
  where
    later : (m : ℕ) → Contains (begins e new) m → is_meeting p m ≡ true → (t : Bool) → nat_lt m line ≡ t → line ≤ m
    later m c is true t = absurd (no (sym is ∙ none m c (grind (arith, nat_tests, t))))
      where
        no : true ≡ false → ⊥
        no h = cc
    later m c is false t = grind (arith, nat_tests, t)

    by : (o : Option ℕ) → find (is_meeting p) p.new_begins ≡ o → line ≤ meeting_line p
    by None h = let is : meeting_line p ≡ length new = ap (λ z. unwrap_or z p.new_lines) h ∙ w.lines in omega (arith, is, below)
    by (Some m) h =
        let is : meeting_line p ≡ m = ap (λ z. unwrap_or z p.new_lines) h in
        let f = found_is (is_meeting p) p.new_begins m h in
        let k = later m (subst (λ bs. Contains bs m) w.news f.0) f.1 (nat_lt m line) refl in
        omega (arith, is, k)

-- one line more at which none does
pub none_more : (e : EntityTable) (new : List (List ℕ)) (p : Places) (line : ℕ) → ((before : ℕ) → Contains (begins e new) before → before < line → is_meeting p before ≡ false)
    → (Contains (begins e new) line → is_meeting p line ≡ false) → (before : ℕ) → Contains (begins e new) before → before < line + 1 → is_meeting p before ≡ false
none_more e new p line none here before c small = by (nat_eq before line) refl
  where
    by : (t : Bool) → nat_eq before line ≡ t → is_meeting p before ≡ false
    by true t = let same : before ≡ line = grind (arith, nat_tests, t) in ap (is_meeting p) same ∙ here (subst (λ z. Contains (begins e new) z) same c)
    by false t = none before c (grind (arith, nat_tests, t, small))
