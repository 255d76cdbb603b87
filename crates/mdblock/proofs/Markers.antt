-- The marks of containers are ASCII characters.
use Rattle.std.proofs.Common.{◌≡◌, ℕ, ◌+◌, ◌<◌, Bool, true, false, List, [], ◌∷◌, length, drop, get_or, get_or-drop, length-drop, refl, ap, subst, arith, inl, inr, Option, Some, None, cond, ◌∙◌}
use Rattle.std.specs.Prelude.{◌||◌, ◌&&◌}
use Rattle.std.specs.Char.{is_ascii_digit}
use Rattle.std.specs.List.{prefix_len}
use Rattle.std.proofs.lemmas.Bool.{and_parts, or_cases}
use Rattle.std.proofs.lemmas.Bool.Decides.{nat_tests}
use Rattle.std.proofs.lemmas.List.Sums.{prefix_len_passes}
use Rattle.mdtext.specs.Columns.{AreMarks, is_space_or_tab}
use Rattle.mdscan.specs.Blanks.{begins_with, ends_or_blank}
use Rattle.mdscan.specs.BlockQuote.{is_quote_marker}
use Rattle.mdscan.specs.ListMarker.{marker, ordered_marker, begins_bullet, begins_delimiter, bullet, ordered, is_ordered}
use Rattle.mdscan.specs.declared.list_markers.Marker.{Marker}
use Rattle.mdtext.proofs.Unindented.{at_most_or_more}

abbrev pub IsMark : ℕ → Type 0
IsMark b = (b < 128) × (is_space_or_tab b ≡ false)

never : false ≡ true → ⊥
never e = cc

one_mark : (text : List ℕ) (b : ℕ) → IsMark b → begins_with b text ≡ true → AreMarks 1 text
one_mark [] b is h = absurd (never h)
one_mark (c ∷ cs) b is h =
    let same : c ≡ b = grind (arith, nat_tests, h) in
    (omega arith, λ i below. let first : i ≡ 0 = omega arith in rw first (rw same is))

-- the mark of a block quote
pub quote_mark : (text : List ℕ) → is_quote_marker text ≡ true → AreMarks 1 text
unfolding is_quote_marker
quote_mark text h = one_mark text 62 (omega arith, refl) h

bullet_mark : (text : List ℕ) → begins_bullet text ≡ true → AreMarks 1 text
bullet_mark text h = elim (or_cases (begins_with 45 text || begins_with 43 text) (begins_with 42 text) h) [
  | inl rest ↦ elim (or_cases (begins_with 45 text) (begins_with 43 text) rest) [
    | inl dash ↦ one_mark text 45 (omega arith, refl) dash
    | inr plus ↦ one_mark text 43 (omega arith, refl) plus
  ]
  | inr star ↦ one_mark text 42 (omega arith, refl) star
]

abbrev width_of : Option Marker → ℕ
width_of None = 0
width_of (Some m) = m.width

none_is : {m : Marker} → None ≡ Some m → ⊥
none_is e = cc

digit_is : (b : ℕ) → is_ascii_digit b ≡ true → IsMark b
digit_is b h = (grind (arith, nat_tests, h), grind (arith, nat_tests, h))

first_is : (text : List ℕ) (b : ℕ) → begins_with b text ≡ true → (0 < length text) × (get_or text 0 0 ≡ b)
first_is [] b h = absurd (never h)
first_is (c ∷ cs) b h = (omega arith, grind (arith, nat_tests, h))

delimiter_is : (text : List ℕ) → begins_delimiter text ≡ true → (0 < length text) × IsMark (get_or text 0 0)
delimiter_is text h = elim (or_cases (begins_with 46 text) (begins_with 41 text) h) [
  | inl dot ↦ let f = first_is text 46 dot in (f.0, rw f.1 (omega arith, refl))
  | inr round ↦ let f = first_is text 41 round in (f.0, rw f.1 (omega arith, refl))
]

at_front : (text : List ℕ) (n : ℕ) → n < length text → get_or (drop n text) 0 0 ≡ get_or text n 0
at_front text n h = get_or-drop n text 0 0 ∙ ap (λ k. get_or text k 0) (omega arith)

longer : (n : ℕ) (text : List ℕ) → 0 < length (drop n text) → n < length text
longer n text h = omega (arith, length-drop n text, h)

ordered_mark : (text : List ℕ) (n : ℕ) → n ≡ prefix_len is_ascii_digit text → begins_delimiter (drop n text) ≡ true → AreMarks (n + 1) text
ordered_mark text n e h =
    let d = delimiter_is (drop n text) h in
    let within : n < length text = longer n text d.0 in
    let last : IsMark (get_or text n 0) = subst IsMark (at_front text n within) d.1 in (
      omega (arith, within),
      λ i below. elim (at_most_or_more n i) [
        | inl most ↦ let same : i ≡ n = omega (arith, below, most) in rw same last
        | inr digit ↦ digit_is (get_or text i 0) (prefix_len_passes is_ascii_digit text i 0 (omega (arith, e, digit)))
      ],
    )

by_ordered : (text : List ℕ) (m : Marker) (t : Bool) → is_ordered (prefix_len is_ascii_digit text) text ≡ t
    → cond t (Some (ordered (prefix_len is_ascii_digit text) text)) None ≡ Some m → AreMarks m.width text
by_ordered text m true h e =
    let n : ℕ = prefix_len is_ascii_digit text in
    let width : n + 1 ≡ m.width = ap width_of e in
    let front = and_parts _ _ h in
    let delimiter = and_parts _ _ front.0 in
    subst (λ (w : ℕ). AreMarks w text) width (ordered_mark text n refl delimiter.1)
by_ordered text m false h e = absurd (none_is e)

by_bullet : (text : List ℕ) (m : Marker) (t : Bool) → (begins_bullet text && ends_or_blank (drop 1 text)) ≡ t
    → cond t (Some (bullet text)) (ordered_marker text) ≡ Some m → AreMarks m.width text
unfolding ordered_marker
by_bullet text m true h e =
    let width : 1 ≡ m.width = ap width_of e in
    subst (λ (w : ℕ). AreMarks w text) width (bullet_mark text (and_parts (begins_bullet text) _ h).0)
by_bullet text m false h e = by_ordered text m (is_ordered (prefix_len is_ascii_digit text) text) refl e

-- the marker of a list item
pub list_mark : (text : List ℕ) (m : Marker) → marker text ≡ Some m → AreMarks m.width text
unfolding marker
list_mark text m e = by_bullet text m (begins_bullet text && ends_or_blank (drop 1 text)) refl e
