-- What an open paragraph's text tells of its lines, and what a line does to it.
use Rattle.std.proofs.Common.{◌≡◌, ℕ, zero, suc, ◌+◌, ◌-◌, ◌<◌, ◌≤◌, Bool, true, false, not, List, [], ◌∷◌, ◌++◌, append_assoc, append-nil, length, length-append, map, take, drop, Option, Some, None, refl, ap, sym, ◌∙◌, subst, arith, cond, nat_le}
use Rattle.std.proofs.Math.Seq.{drop-append-add, drop-nil, get_or-append_seam}
use Rattle.std.proofs.lemmas.List.{map-append}
use Rattle.std.proofs.lemmas.Str.{IsCharBoundary-start, IsCharBoundary-after_ascii, IsCharBoundary-before_ascii}
use Rattle.std.specs.List.{slice_index, suffix_len}
use Rattle.std.specs.Option.{option_or, option_map, is_some}
use Rattle.std.specs.Str.{IsUtf8, IsCharBoundary}
use Rattle.mdscan.specs.Blanks.{is_blank}
use Rattle.mdleaf.specs.ParagraphText.{joined_lines, without_end_blanks}
use Rattle.mdleaf.specs.Tables.{begins_table}
use Rattle.blockspec.specs.BlockLine.{BlockLine, rest, indentation}
use Rattle.blockspec.specs.BlankLines.{is_blank_line}
use Rattle.blockspec.specs.BlockKinds.{Inside, Kind, Paragraph, SetextHeading, Table}
use Rattle.blockspec.specs.SetextHeadings.{begins_underline}
use Rattle.blockspec.specs.Tables.{begins_rows, last_text}
use Rattle.blockspec.specs.BlockStart.{start_near, start}
use Rattle.mdblock.specs.held.StartKind.{kind_of_start}
use Rattle.mdblock.specs.held.ParagraphLines.{HeldText, HoldsLines}
use Rattle.mdblock.specs.held.StartParts.{start_before_underline, start_after_underline}
use Rattle.blockspec.specs.Stretches.{Continues, IsLastLine, IsOverBefore, interrupted, paragraph_step}
use Rattle.mdblock.specs.held.Continuations.{step_view, goes_on}
use Rattle.mdblock.specs.declared.open_blocks.Continuation.{Continuation}
use Rattle.mdblock.specs.declared.open_blocks.Continuation.TheVariants as continuation
use Rattle.blockspec.specs.UnitBegin.{is_stop}
use Rattle.mdblock.specs.declared.block_starts.BlockStart.{BlockStart}
use Rattle.mdblock.specs.declared.block_starts.BlockStart.TheVariants as o
use Rattle.blockspec.proofs.OpenLeafLaws.{joined_next, last_next}
use Rattle.mdblock.proofs.LeafTexts.{joined_more, joined_one}
use Rattle.mdblock.proofs.StartLaws.{near_in_parts}

-- ---- the text

joined_none : joined_lines (map rest []) ≡ []
unfolding joined_lines
joined_none = refl

pub last_within : (lines : List BlockLine) → length (last_text lines) ≤ length (joined_lines (map rest lines))
last_within [] = rw joined_none (omega arith)
last_within (l ∷ []) = rw (joined_one (rest l)) (omega arith)
last_within (l ∷ m ∷ ls) =
    let more : length (joined_lines (map rest (l ∷ m ∷ ls))) ≡ length (rest l) + suc (length (joined_lines (map rest (m ∷ ls)))) = ap length (joined_more (rest l) (rest m) (map rest ls)) ∙ length-append (rest l) (10 ∷ joined_lines (map rest (m ∷ ls))) in
    omega (arith, more, last_within (m ∷ ls))

drop_nothing : (n : ℕ) (a : List ℕ) → n ≡ 0 → drop n a ≡ a
drop_nothing n a e = ap (λ k. drop k a) e

from_last : (lines : List BlockLine) (k : ℕ) → k + length (last_text lines) ≡ length (joined_lines (map rest lines)) → drop k (joined_lines (map rest lines)) ≡ last_text lines
from_last [] k h = rw joined_none (drop-nil k)
from_last (l ∷ []) k h =
    let same : length (joined_lines (map rest (l ∷ []))) ≡ length (rest l) = ap length (joined_one (rest l)) in
    drop_nothing k _ (omega (arith, h, same)) ∙ joined_one (rest l)
from_last (l ∷ m ∷ ls) k h =
    let more : length (joined_lines (map rest (l ∷ m ∷ ls))) ≡ length (rest l) + suc (length (joined_lines (map rest (m ∷ ls)))) = ap length (joined_more (rest l) (rest m) (map rest ls)) ∙ length-append (rest l) (10 ∷ joined_lines (map rest (m ∷ ls))) in
    let within = last_within (m ∷ ls) in
    let j : ℕ = k - suc (length (rest l)) in
    let here : k ≡ length (rest l) + suc j = omega (arith, h, more, within) in
    ap (drop k) (joined_more (rest l) (rest m) (map rest ls)) ∙ ap (λ n. drop n (rest l ++ 10 ∷ joined_lines (map rest (m ∷ ls)))) here
    ∙ drop-append-add (rest l) (10 ∷ joined_lines (map rest (m ∷ ls))) (suc j)
    ∙ from_last (m ∷ ls) j (omega (arith, h, more, within, here))

-- the text from where the last line begins
pub last_is : (lines : List BlockLine) (held : HeldText) → HoldsLines lines held → drop held.last held.text ≡ last_text lines
last_is lines held h = ap (drop held.last) h.whole ∙ from_last lines held.last (h.last_one ∙ ap length h.whole)

pub first_line : (l : BlockLine) (text : List ℕ) → text ≡ rest l → HoldsLines (l ∷ []) (record { text = text; last = 0 })
first_line l text e = record { whole = e ∙ sym (joined_one (rest l)); last_one = omega (arith, ap length e) }

lines_next : (first : BlockLine) (later : List BlockLine) (l : BlockLine) → joined_lines (map rest (first ∷ later ++ l ∷ [])) ≡ joined_lines (map rest (first ∷ later)) ++ 10 ∷ rest l
lines_next first later l = ap (λ ts. joined_lines (rest first ∷ ts)) (map-append rest later (l ∷ [])) ∙ joined_next (rest first) (map rest later) (rest l)

-- one line more
pub next_line : (first : BlockLine) (later : List BlockLine) (l : BlockLine) (held new : HeldText) → HoldsLines (first ∷ later) held
    → new.text ≡ held.text ++ 10 ∷ rest l → new.last ≡ length held.text + 1 → HoldsLines (first ∷ later ++ l ∷ []) new
next_line first later l held new h e a =
    let long : length new.text ≡ length held.text + suc (length (rest l)) = ap length e ∙ length-append held.text (10 ∷ rest l) in
    record {
      whole = e ∙ ap (λ t. t ++ 10 ∷ rest l) h.whole ∙ sym (lines_next first later l);
      last_one = omega (arith, long, a, ap length (last_next first later l));
    }

-- ---- where it may be cut

pub cut_is : (text held front : List ℕ) (n : ℕ) → n ≡ length text - suffix_len is_blank text → front ≡ take n held → text ≡ held → front ≡ without_end_blanks held
unfolding without_end_blanks
cut_is text held front n e f h = f ∙ ap (λ k. take k held) (e ∙ ap (λ t. length t - suffix_len is_blank t) h)

pub trimmed_is : (text held front : List ℕ) (n : ℕ) → n ≡ length text - suffix_len is_blank text → front ≡ take (n - 0) text → text ≡ held → front ≡ without_end_blanks held
unfolding without_end_blanks
trimmed_is text held front n e f h = let all : n - 0 ≡ n = omega arith in f ∙ ap (λ k. take k text) (all ∙ e) ∙ ap (λ t. take (length t - suffix_len is_blank t) t) h

-- where a line begins behind a line ending
pub line_begins : (t ended whole r : List ℕ) (n : ℕ) → IsUtf8 whole → ended ≡ t ++ 10 ∷ [] → whole ≡ ended ++ r → n ≡ length ended
    → IsCharBoundary whole n × (0 < n → slice_index whole (n - 1) ≡ 10)
line_begins t ended whole r n u e w m =
    let all : whole ≡ t ++ 10 ∷ r = w ∙ ap (λ x. x ++ r) e ∙ append_assoc t (10 ∷ []) r in
    let long : n ≡ length t + 1 = m ∙ ap length e ∙ length-append t (10 ∷ []) in
    let byte : slice_index whole (length t) ≡ 10 = ap (λ x. slice_index x (length t)) all ∙ get_or-append_seam t 10 r 0 in
    let within : length t < length whole = omega (arith, ap length all, length-append t (10 ∷ r)) in
    let ascii : slice_index whole (length t) < 128 = omega (arith, byte) in
    let before : n - 1 ≡ length t = omega (arith, long) in
    (subst (IsCharBoundary whole) (sym long) (IsCharBoundary-after_ascii whole (length t) u within ascii), λ _. ap (slice_index whole) before ∙ byte)

-- the same where the line may not have been appended
pub line_may_begin : (t ended whole r : List ℕ) (done : Bool) (n : ℕ) → IsUtf8 whole → ended ≡ t ++ 10 ∷ [] → whole ≡ cond done (ended ++ r) ended → n ≡ length ended
    → IsCharBoundary whole n × (0 < n → slice_index whole (n - 1) ≡ 10)
line_may_begin t ended whole r true n u e w m = line_begins t ended whole r n u e w m
line_may_begin t ended whole r false n u e w m = line_begins t ended whole [] n u e (w ∙ sym (append-nil ended)) m

-- and before that line ending
pub before_ending : (text : List ℕ) (last n : ℕ) → IsUtf8 text → IsCharBoundary text last → (0 < last → slice_index text (last - 1) ≡ 10) → n ≡ last - 1 → IsCharBoundary text n
before_ending text zero n u b ends e = subst (IsCharBoundary text) (sym e) (IsCharBoundary-start text u)
before_ending text (suc m) n u b ends e =
    let within : n < length text = omega (arith, b.0, e) in
    let byte : slice_index text n ≡ 10 = ap (slice_index text) e ∙ ends (omega arith) in
    IsCharBoundary-before_ascii text n within (omega (arith, byte))

-- the place before all
pub at_front : (text : List ℕ) → IsUtf8 text → IsCharBoundary text 0 × (0 < 0 → slice_index text (0 - 1) ≡ 10)
at_front text u = (IsCharBoundary-start text u, λ h. absurd (omega (arith, h)))

-- ---- what a line does to it

pub opening_stops : (l : BlockLine) (o : BlockStart) → interrupted (Some (kind_of_start l o)) ≡ IsOverBefore
opening_stops l o.Quote = refl
opening_stops l (o.Heading heading) = refl
opening_stops l (o.Fence fence) = refl
opening_stops l (o.Html kind) = refl
opening_stops l o.Break = refl
opening_stops l (o.Item marker) = refl
opening_stops l o.Code = refl

pub step_near : (lines : List BlockLine) (l : BlockLine) → l.lazy ≡ false → is_blank_line l ≡ false → nat_le (indentation l) 3 ≡ true
    → paragraph_step l.lazy (is_blank_line l) (start Inside lines l) ≡ interrupted (start_near Inside lines l)
unfolding start
step_near lines l lazy blank near = rw (lazy, blank, near) refl

pub step_far : (lines : List BlockLine) (l : BlockLine) → l.lazy ≡ false → is_blank_line l ≡ false → nat_le (indentation l) 3 ≡ false
    → paragraph_step l.lazy (is_blank_line l) (start Inside lines l) ≡ Continues Paragraph
unfolding start
step_far lines l lazy blank near = rw (lazy, blank, near) refl

stops_by : {A : Type 0} (f : A → Kind) (o : Option A) (k behind : Option Kind) → ((x : A) → interrupted (Some (f x)) ≡ IsOverBefore) → option_map f o ≡ k → is_some o ≡ true → interrupted (option_or k behind) ≡ IsOverBefore
stops_by f None k behind plain e h = cc
stops_by f (Some x) k behind plain e h = ap (λ k. interrupted (option_or k behind)) (sym e) ∙ plain x

none_by : {A : Type 0} (f : A → Kind) (o : Option A) (k : Option Kind) → option_map f o ≡ k → is_some o ≡ false → k ≡ None
none_by f None k e h = sym e
none_by f (Some x) k e h = cc

parts_are : (lines : List BlockLine) (l : BlockLine) (before underline after rows : Option Kind)
    → start_before_underline Inside l ≡ before → begins_underline Inside lines l ≡ underline → start_after_underline Inside l ≡ after → begins_rows Inside lines l ≡ rows
    → start_near Inside lines l ≡ option_or before (option_or underline (option_or after rows))
parts_are lines l before underline after rows b u a r =
    near_in_parts Inside lines l
    ∙ ap (λ k. option_or k (option_or (begins_underline Inside lines l) (option_or (start_after_underline Inside l) (begins_rows Inside lines l)))) b
    ∙ ap (λ k. option_or before (option_or k (option_or (start_after_underline Inside l) (begins_rows Inside lines l)))) u
    ∙ ap (λ k. option_or before (option_or underline (option_or k (begins_rows Inside lines l)))) a
    ∙ ap (λ k. option_or before (option_or underline (option_or after k))) r

pub ends_before : {A : Type 0} (f : A → Kind) (o : Option A) (lines : List BlockLine) (l : BlockLine) → ((x : A) → interrupted (Some (f x)) ≡ IsOverBefore)
    → option_map f o ≡ start_before_underline Inside l → is_some o ≡ true → interrupted (start_near Inside lines l) ≡ IsOverBefore
ends_before f o lines l plain e h =
    ap interrupted (near_in_parts Inside lines l) ∙ stops_by f o (start_before_underline Inside l) _ plain e h

pub underlined : {A : Type 0} (f : A → Kind) (o : Option A) (lines : List BlockLine) (l : BlockLine) (level : ℕ)
    → option_map f o ≡ start_before_underline Inside l → is_some o ≡ false → begins_underline Inside lines l ≡ Some (SetextHeading level)
    → interrupted (start_near Inside lines l) ≡ IsLastLine (SetextHeading level)
underlined f o lines l level e h u = ap interrupted (parts_are lines l None (Some (SetextHeading level)) _ _ (none_by f o _ e h) u refl refl)

pub ends_after : {A : Type 0} (f : A → Kind) (o p : Option A) (lines : List BlockLine) (l : BlockLine) → ((x : A) → interrupted (Some (f x)) ≡ IsOverBefore)
    → option_map f o ≡ start_before_underline Inside l → is_some o ≡ false → begins_underline Inside lines l ≡ None
    → option_map f p ≡ start_after_underline Inside l → is_some p ≡ true → interrupted (start_near Inside lines l) ≡ IsOverBefore
ends_after f o p lines l plain e h u d g =
    ap interrupted (parts_are lines l None None _ _ (none_by f o _ e h) u refl refl) ∙ stops_by f p (start_after_underline Inside l) _ plain d g

pub behind_all : {A : Type 0} (f : A → Kind) (o p : Option A) (lines : List BlockLine) (l : BlockLine) (t : Bool)
    → option_map f o ≡ start_before_underline Inside l → is_some o ≡ false → begins_underline Inside lines l ≡ None
    → option_map f p ≡ start_after_underline Inside l → is_some p ≡ false → t ≡ begins_table (last_text lines) (rest l)
    → interrupted (start_near Inside lines l) ≡ interrupted (cond t (Some (Table (length lines))) None)
behind_all f o p lines l t e h u d g r =
    ap interrupted (parts_are lines l None None None (cond t (Some (Table (length lines))) None) (none_by f o _ e h) u (none_by f p _ d g) (ap (λ t. cond t (Some (Table (length lines))) None) (sym r)))

-- whether it goes on, by its step
pub goes_by_step : (lines : ℕ) (c : Continuation) → goes_on c ≡ not (is_stop (step_view lines c))
goes_by_step lines continuation.Matched = refl
goes_by_step lines (continuation.Underlines n) = refl
goes_by_step lines continuation.Delimits = refl
goes_by_step lines continuation.Lazy = refl
goes_by_step lines continuation.Between = refl
goes_by_step lines (continuation.Next marker) = refl
goes_by_step lines (continuation.Outside opening) = refl
