-- Raw HTML whose close stands nowhere behind its front is none.
use Rattle.std.proofs.Common.{◌≡◌, ℕ, Bool, true, false, nat_eq, codes, List, [], ◌∷◌, ◌++◌, length, take, drop, Some, None, refl, ap, sym, ◌∙◌, subst, arith, ◌&&◌, if◌then◌else◌}
use Rattle.std.specs.Char.{is_ascii_alphabetic}
use Rattle.std.specs.Cmp.Lexicographic.{same_text}
use Rattle.std.specs.List.{starts_with}
use Rattle.std.specs.Option.{option_or}
use Rattle.std.proofs.lemmas.List.{take-append-drop}
use Rattle.mdscan.proofs.Places.{none_from}
use Rattle.mdscan.specs.Tag.{open_tag, closing_tag, first_is, tag_name_length}
use Rattle.mdscan.specs.RawHtml.{comment, declaration, delimited, place_of, raw_html}

pub front_of : (needle xs : List ℕ) → starts_with nat_eq xs needle ≡ true → xs ≡ needle ++ drop (length needle) xs
front_of needle xs h = sym (take-append-drop (length needle) xs) ∙ ap (λ t. t ++ drop (length needle) xs) (sym (same_text needle (take (length needle) xs) (sym h)))

no_open : (b : ℕ) (rest : List ℕ) → is_ascii_alphabetic b ≡ false → open_tag (60 ∷ b ∷ rest) ≡ None
unfolding open_tag tag_name_length
no_open b rest h = rw h refl

abbrev head_of : List ℕ → ℕ
head_of [] = 0
head_of (b ∷ rest) = b

no_closing : (b : ℕ) (rest : List ℕ) → (b ≡ 47 → ⊥) → closing_tag (60 ∷ b ∷ rest) ≡ None
unfolding closing_tag
no_closing b rest other = by (starts_with nat_eq (60 ∷ b ∷ rest) (codes "</")) _ _ _ refl
  where
    by : (t u v : Bool) (size : ℕ) → starts_with nat_eq (60 ∷ b ∷ rest) (codes "</") ≡ t → (if t && u && v then Some size else None) ≡ None
    by true u v size e = absurd (other (ap (λ t. head_of (drop 1 t)) (front_of (codes "</") (60 ∷ b ∷ rest) e)))
    by false u v size e = refl

no_delimited : (begin close text : List ℕ) → starts_with nat_eq text begin ≡ true → place_of close (drop (length begin) text) ≡ None → delimited begin close text ≡ None
unfolding delimited
no_delimited begin close text h none = rw (h, none) refl

other_delimited : (begin close text : List ℕ) → starts_with nat_eq text begin ≡ false → delimited begin close text ≡ None
unfolding delimited
other_delimited begin close text h = rw h refl

no_comment : (r : List ℕ) → place_of (codes "-->") (45 ∷ 45 ∷ r) ≡ None → comment (60 ∷ 33 ∷ 45 ∷ 45 ∷ r) ≡ None
unfolding comment place_of
no_comment r h = by (starts_with nat_eq text (codes "<!-->")) (starts_with nat_eq text (codes "<!--->")) refl refl
  where
    text : List ℕ
    text = 60 ∷ 33 ∷ 45 ∷ 45 ∷ r

    by : (t u : Bool) → starts_with nat_eq text (codes "<!-->") ≡ t → starts_with nat_eq text (codes "<!--->") ≡ u →
        (if t then Some 5 else (if u then Some 6 else delimited (codes "<!--") (codes "-->") text)) ≡ None
    by true u e f =
        let tail : r ≡ 62 ∷ drop 5 text = ap (drop 4) (front_of (codes "<!-->") text e) in
        let g = subst (λ (t : List ℕ). place_of (codes "-->") (45 ∷ 45 ∷ t) ≡ None) tail h in
        cc
    by false true e f =
        let tail : r ≡ 45 ∷ 62 ∷ drop 6 text = ap (drop 4) (front_of (codes "<!--->") text f) in
        let g = subst (λ (t : List ℕ). place_of (codes "-->") (45 ∷ 45 ∷ t) ≡ None) tail h in
        cc
    by false false e f = no_delimited (codes "<!--") (codes "-->") text refl (none_from (codes "-->") (45 ∷ 45 ∷ r) 0 2 (omega arith) h)

pub no_long_comment : (r : List ℕ) → place_of (codes "-->") (45 ∷ 45 ∷ r) ≡ None → raw_html (60 ∷ 33 ∷ 45 ∷ 45 ∷ r) ≡ None
unfolding raw_html declaration delimited
no_long_comment r h =
    let open_none = no_open 33 (45 ∷ 45 ∷ r) refl in
    let closing_none = no_closing 33 (45 ∷ 45 ∷ r) (λ e. (let f : ◌≡◌ {A = ℕ} 33 47 = e in omega (arith, f))) in
    let comment_none = no_comment r h in
    rw (open_none, closing_none, comment_none) refl

pub no_long_instruction : (r : List ℕ) → place_of (codes "?>") r ≡ None → raw_html (60 ∷ 63 ∷ r) ≡ None
unfolding raw_html comment declaration delimited
no_long_instruction r h =
    let open_none = no_open 63 r refl in
    let closing_none = no_closing 63 r (λ e. (let f : ◌≡◌ {A = ℕ} 63 47 = e in omega (arith, f))) in
    let found = no_delimited (codes "<?") (codes "?>") (60 ∷ 63 ∷ r) refl h in
    rw (open_none, closing_none, found) (by (first_is is_ascii_alphabetic r))
  where
    by : (t : Bool) → option_or {T = ℕ} None (option_or {T = ℕ} None (option_or {T = ℕ} (if t then None else None) None)) ≡ None
    by true = refl
    by false = refl

pub no_long_section : (r : List ℕ) → place_of (codes "]]>") r ≡ None → raw_html ((codes "<![CDATA[") ++ r) ≡ None
unfolding raw_html comment declaration delimited
no_long_section r h =
    let open_none = no_open 33 (91 ∷ 67 ∷ 68 ∷ 65 ∷ 84 ∷ 65 ∷ 91 ∷ r) refl in
    let closing_none = no_closing 33 (91 ∷ 67 ∷ 68 ∷ 65 ∷ 84 ∷ 65 ∷ 91 ∷ r) (λ e. (let f : ◌≡◌ {A = ℕ} 33 47 = e in omega (arith, f))) in
    let found = no_delimited (codes "<![CDATA[") (codes "]]>") ((codes "<![CDATA[") ++ r) refl h in
    rw (open_none, closing_none, found) refl

not_then : (d b : ℕ) (t r : List ℕ) → (b ≡ d → ⊥) → starts_with nat_eq (60 ∷ 33 ∷ b ∷ r) (60 ∷ 33 ∷ d ∷ t) ≡ false
not_then d b t r other = by (starts_with nat_eq (60 ∷ 33 ∷ b ∷ r) (60 ∷ 33 ∷ d ∷ t)) refl
  where
    by : (u : Bool) → starts_with nat_eq (60 ∷ 33 ∷ b ∷ r) (60 ∷ 33 ∷ d ∷ t) ≡ u → u ≡ false
    by true e = absurd (other (ap (λ l. head_of (drop 2 l)) (front_of (60 ∷ 33 ∷ d ∷ t) (60 ∷ 33 ∷ b ∷ r) e)))
    by false e = refl

other_comment : (b : ℕ) (r : List ℕ) → (b ≡ 45 → ⊥) → comment (60 ∷ 33 ∷ b ∷ r) ≡ None
unfolding comment
other_comment b r other =
    let one = not_then 45 b (45 ∷ 62 ∷ []) r other in
    let two = not_then 45 b (45 ∷ 45 ∷ 62 ∷ []) r other in
    rw (one, two) (other_delimited (codes "<!--") (codes "-->") (60 ∷ 33 ∷ b ∷ r) (not_then 45 b (45 ∷ []) r other))

letter_not : (b d : ℕ) → is_ascii_alphabetic b ≡ true → is_ascii_alphabetic d ≡ false → b ≡ d → ⊥
letter_not b d h k e = (let f = rw e at h in cc)

found_declaration : (b : ℕ) (r : List ℕ) → is_ascii_alphabetic b ≡ true → place_of (codes ">") (b ∷ r) ≡ None → declaration (60 ∷ 33 ∷ b ∷ r) ≡ None
unfolding declaration
found_declaration b r letter h = rw letter (no_delimited (codes "<!") (codes ">") (60 ∷ 33 ∷ b ∷ r) refl h)

pub no_long_declaration : (b : ℕ) (r : List ℕ) → is_ascii_alphabetic b ≡ true → place_of (codes ">") (b ∷ r) ≡ None → raw_html (60 ∷ 33 ∷ b ∷ r) ≡ None
unfolding raw_html
no_long_declaration b r letter h =
    let open_none = no_open 33 (b ∷ r) refl in
    let closing_none = no_closing 33 (b ∷ r) (λ e. (let f : ◌≡◌ {A = ℕ} 33 47 = e in omega (arith, f))) in
    let comment_none = other_comment b r (letter_not b 45 letter refl) in
    let instruction_none = other_delimited (codes "<?") (codes "?>") (60 ∷ 33 ∷ b ∷ r) refl in
    let declaration_none = found_declaration b r letter h in
    let section_none = other_delimited (codes "<![CDATA[") (codes "]]>") (60 ∷ 33 ∷ b ∷ r) (not_then 91 b (codes "CDATA[") r (letter_not b 91 letter refl)) in
    rw (open_none, closing_none, comment_none, instruction_none, declaration_none, section_none) refl
