-- What a recogniser finds at the front of a text, or at a place, ends within the text and is not empty.
use Rattle.std.proofs.Common.{◌≡◌, ℕ, zero, suc, ◌+◌, ◌<◌, ◌≤◌, Bool, true, false, ◌&&◌, ◌||◌, min, List, [], ◌∷◌, length, take, drop, length-drop, length-take, Option, Some, None, IfSome, option_map, refl, sym, ap, ◌∙◌, arith}
use Rattle.std.specs.Prelude.{if◌then◌else◌, nat_eq, nat_lt, codes, slice_index}
use Rattle.std.specs.Option.{option_or}
use Rattle.std.specs.List.{prefix_len, starts_with}
use Rattle.std.specs.Char.{is_digit, is_ascii_alphabetic, is_ascii_alphanumeric}
use Rattle.std.specs.Cmp.Lexicographic.{same_text}
use Rattle.std.proofs.lemmas.List.{get_or_past}
use Rattle.std.proofs.lemmas.Bool.Decides.{nat_tests}
use Rattle.std.proofs.lemmas.Bool.{and_parts}
use Rattle.mdtext.specs.EntityTable.{EntityTable, entity_text}
use Rattle.mdtext.specs.CharacterReferences.{Meaning, numeric, named, reference}
use Rattle.mdscan.specs.declared.autolinks.Auto.{Auto}
use Rattle.mdscan.specs.Autolink.{scheme_length, in_uri, in_mail_name, domain_label_length, dotted_label_length, uri_end, mail_end, auto_of, or_auto, autolink_at}
use Rattle.mdscan.specs.Spacing.{spacing_length}
use Rattle.mdscan.specs.Repeats.{repeats}
use Rattle.mdscan.specs.Blanks.{begins_with}
use Rattle.mdscan.specs.Tag.{first_is, tag_name_length, attribute_length, open_end_length, open_tag, closing_tag}
use Rattle.mdscan.specs.RawHtml.{place_from, place_of, delimited, comment, declaration, raw_html}

-- a size of what stands at the front of a text
abbrev pub IsSizeIn : List ℕ → ℕ → Type 0
IsSizeIn text n = (0 < n) × (n ≤ length text)

-- the place behind what stands at a place of a text
abbrev pub IsEndIn : List ℕ → ℕ → ℕ → Type 0
IsEndIn text at end = (at < end) × (end ≤ length text)

pub when : {X : Type 0} (t : Bool) (x : X) (P : X → Type 0) → (t ≡ true → P x) → IfSome (if t then Some x else None) P
when true x P h = h refl
when false x P h = tt

pub either_some : {X : Type 0} (r s : Option X) (P : X → Type 0) → IfSome r P → IfSome s P → IfSome (option_or r s) P
either_some None s P h k = k
either_some (Some x) s P h k = h

pub mapped : {X Y : Type 0} (r : Option X) (f : X → Y) (P : X → Type 0) (Q : Y → Type 0) → ((x : X) → P x → Q (f x)) → IfSome r P → IfSome (option_map f r) Q
mapped None f P Q g h = tt
mapped (Some x) f P Q g h = g x h

pub begins_below : (mark k : ℕ) (text : List ℕ) → begins_with mark (drop k text) ≡ true → k < length text
begins_below mark zero [] h = cc
begins_below mark zero (b ∷ bs) h = omega arith
begins_below mark (suc k) [] h = cc
begins_below mark (suc k) (b ∷ bs) h = let rest = begins_below mark k bs h in omega arith

pub starts_within : (text needle : List ℕ) → starts_with nat_eq text needle ≡ true → length needle ≤ length text
starts_within text needle h =
    let same : needle ≡ take (length needle) text = same_text needle (take (length needle) text) (sym h) in
    let long : length needle ≡ min (length needle) (length text) = ap length same ∙ length-take (length needle) text in
    omega arith

pub byte_below : (text : List ℕ) (i b : ℕ) → nat_eq (slice_index text i) (suc b) ≡ true → i < length text
byte_below text i b h = grind (arith, nat_tests, get_or_past)

-- what a test gives that ends with a mark at a place
pub when_marked : {X : Type 0} (t : Bool) (mark k : ℕ) (text : List ℕ) (x : X) (P : X → Type 0) → (k < length text → P x) → IfSome (if t && begins_with mark (drop k text) then Some x else None) P
when_marked t mark k text x P f = when (t && begins_with mark (drop k text)) x P (λ h. f (begins_below mark k text (and_parts t (begins_with mark (drop k text)) h).1))

-- what follows a front that has some bytes stands behind it
pub behind : (text : List ℕ) (k n : ℕ) → 0 < n → n ≤ length (drop k text) → k + n ≤ length text
behind text k n some h = let long = length-drop k text in omega arith

-- autolinks

uri_ends : (text : List ℕ) (at : ℕ) → IfSome (uri_end text at) (λ end. IsEndIn text at end)
unfolding uri_end
uri_ends text at =
    let scheme = scheme_length (drop (at + 1) text) in
    let rest = prefix_len in_uri (drop (at + 1 + scheme + 1) text) in
    let k : ℕ = at + 1 + scheme + 1 + rest in
    when_marked _ 62 k text _ (λ end. IsEndIn text at end) (λ below. (omega arith, omega arith))

mail_ends : (text : List ℕ) (at : ℕ) → IfSome (mail_end text at) (λ end. IsEndIn text at end)
unfolding mail_end
mail_ends text at =
    let name = prefix_len in_mail_name (drop (at + 1) text) in
    let label = domain_label_length (drop (at + 1 + name + 1) text) in
    let labels = repeats dotted_label_length (drop (at + 1 + name + 1 + label) text) in
    let k : ℕ = at + 1 + name + 1 + label + labels in
    when_marked _ 62 k text _ (λ end. IsEndIn text at end) (λ below. (omega arith, omega arith))

auto_ends : (text : List ℕ) (at : ℕ) (mail : Bool) (r : Option ℕ) → IfSome r (λ end. IsEndIn text at end) → IfSome (auto_of mail r) (λ auto. IsEndIn text at auto.end)
auto_ends text at mail None h = tt
auto_ends text at mail (Some end) h = h

either_auto : (text : List ℕ) (at : ℕ) (r s : Option Auto) → IfSome r (λ auto. IsEndIn text at auto.end) → IfSome s (λ auto. IsEndIn text at auto.end) → IfSome (or_auto r s) (λ auto. IsEndIn text at auto.end)
either_auto text at None s h k = k
either_auto text at (Some auto) s h k = h

pub autolink_ends : (text : List ℕ) (at : ℕ) → IfSome (autolink_at text at) (λ auto. IsEndIn text at auto.end)
unfolding autolink_at
autolink_ends text at = by (begins_with 60 (drop at text))
  where
    both : IfSome (or_auto (auto_of false (uri_end text at)) (auto_of true (mail_end text at))) (λ auto. IsEndIn text at auto.end)
    both = either_auto text at _ _ (auto_ends text at false (uri_end text at) (uri_ends text at)) (auto_ends text at true (mail_end text at) (mail_ends text at))

    by : (t : Bool) → IfSome (if t then or_auto (auto_of false (uri_end text at)) (auto_of true (mail_end text at)) else None) (λ auto. IsEndIn text at auto.end)
    by true = both
    by false = tt

-- raw HTML

open_end_within : (text : List ℕ) → open_end_length text ≤ length text
unfolding open_end_length
open_end_within text = by (begins_with 62 (drop spacing text)) (starts_with nat_eq (drop spacing text) (codes "/>")) (begins_below 62 spacing text) (starts_within (drop spacing text) (codes "/>"))
  where
    spacing : ℕ
    spacing = spacing_length text

    by : (s t : Bool) → (s ≡ true → spacing < length text) → (t ≡ true → 2 ≤ length (drop spacing text)) → (if s then spacing + 1 else (if t then spacing + 2 else 0)) ≤ length text
    by true t h k = let one = h refl in omega arith
    by false true h k = behind text spacing 2 (omega arith) (k refl)
    by false false h k = omega arith

open_tag_size : (text : List ℕ) → IfSome (open_tag text) (IsSizeIn text)
unfolding open_tag
open_tag_size text =
    let name = tag_name_length (drop 1 text) in
    let attributes = repeats attribute_length (drop (1 + name) text) in
    let k : ℕ = 1 + name + attributes in
    let end = open_end_length (drop k text) in
    let found : nat_lt 0 end ≡ true → IsSizeIn text (k + end) = λ some.
    let more : 0 < end = grind (arith, nat_tests) in (omega arith, behind text k end more (open_end_within (drop k text))) in
    when _ _ (IsSizeIn text) (λ h. found (and_parts _ _ h).1)

closing_tag_size : (text : List ℕ) → IfSome (closing_tag text) (IsSizeIn text)
unfolding closing_tag
closing_tag_size text =
    let name = tag_name_length (drop 2 text) in
    let spacing = spacing_length (drop (2 + name) text) in
    let k : ℕ = 2 + name + spacing in
    when_marked _ 62 k text _ (IsSizeIn text) (λ below. (omega arith, omega arith))

place_within : (at : ℕ) (needle text : List ℕ) → IfSome (place_from at needle text) (λ n. n + length needle ≤ at + length text)
place_within at needle [] = tt
place_within at needle (b ∷ bs) = by (starts_with nat_eq (b ∷ bs) needle) (starts_within (b ∷ bs) needle) (place_within (at + 1) needle bs)
  where
    more : (r : Option ℕ) → IfSome r (λ n. n + length needle ≤ at + 1 + length bs) → IfSome r (λ n. n + length needle ≤ at + length (b ∷ bs))
    more None h = tt
    more (Some n) h = omega arith

    by : (t : Bool) → (t ≡ true → length needle ≤ length (b ∷ bs)) → IfSome (place_from (at + 1) needle bs) (λ n. n + length needle ≤ at + 1 + length bs) →
        IfSome (if t then Some at else place_from (at + 1) needle bs) (λ n. n + length needle ≤ at + length (b ∷ bs))
    by true h k = let fits = h refl in omega arith
    by false h k = more _ k

delimited_size : (begin close text : List ℕ) → 0 < length begin → IfSome (delimited begin close text) (IsSizeIn text)
unfolding delimited place_of
delimited_size begin close text some = by (starts_with nat_eq text begin) (starts_within text begin)
  where
    n : ℕ
    n = length begin

    found : n ≤ length text → IfSome (option_map (λ k. n + k + length close) (place_from 0 close (drop n text))) (IsSizeIn text)
    found fits = mapped (place_from 0 close (drop n text)) (λ k. n + k + length close) (λ k. k + length close ≤ 0 + length (drop n text)) (IsSizeIn text)
        (λ k h. let long = length-drop n text in (omega arith, omega arith)) (place_within 0 close (drop n text))

    by : (t : Bool) → (t ≡ true → n ≤ length text) → IfSome (if t then option_map (λ k. n + k + length close) (place_from 0 close (drop n text)) else None) (IsSizeIn text)
    by true h = found (h refl)
    by false h = tt

comment_size : (text : List ℕ) → IfSome (comment text) (IsSizeIn text)
unfolding comment
comment_size text = by (starts_with nat_eq text (codes "<!-->")) (starts_with nat_eq text (codes "<!--->")) (starts_within text (codes "<!-->")) (starts_within text (codes "<!--->"))
  where
    by : (s t : Bool) → (s ≡ true → 5 ≤ length text) → (t ≡ true → 6 ≤ length text) →
        IfSome (if s then Some 5 else (if t then Some 6 else delimited (codes "<!--") (codes "-->") text)) (IsSizeIn text)
    by true t h k = (omega arith, h refl)
    by false true h k = (omega arith, k refl)
    by false false h k = delimited_size (codes "<!--") (codes "-->") text (omega arith)

declaration_size : (text : List ℕ) → IfSome (declaration text) (IsSizeIn text)
unfolding declaration
declaration_size text = by (first_is is_ascii_alphabetic (drop 2 text))
  where
    by : (t : Bool) → IfSome (if t then delimited (codes "<!") (codes ">") text else None) (IsSizeIn text)
    by true = delimited_size (codes "<!") (codes ">") text (omega arith)
    by false = tt

pub raw_html_size : (text : List ℕ) → IfSome (raw_html text) (IsSizeIn text)
unfolding raw_html
raw_html_size text =
    either_some _ _ (IsSizeIn text) (open_tag_size text) (either_some _ _ (IsSizeIn text) (closing_tag_size text)
    (either_some _ _ (IsSizeIn text) (comment_size text) (either_some _ _ (IsSizeIn text) (delimited_size (codes "<?") (codes "?>") text (omega arith))
    (either_some _ _ (IsSizeIn text) (declaration_size text) (delimited_size (codes "<![CDATA[") (codes "]]>") text (omega arith))))))

-- references

abbrev IsMeaningIn : List ℕ → Meaning → Type 0
IsMeaningIn text m = (0 < m.0) × (m.0 ≤ 1 + length text)

numeric_size : (text rest : List ℕ) (begin base most : ℕ) → begin + length rest ≤ length text + 1 → IfSome (numeric begin base most rest) (IsMeaningIn text)
numeric_size text rest begin base most room =
    let digits = prefix_len (λ b. is_digit b base) rest in
    let found : digits < length rest → (0 < begin + digits + 1) × (begin + digits + 1 ≤ 1 + length text) = λ below. (omega arith, omega arith) in
    when _ _ (IsMeaningIn text) (λ h. found (byte_below rest digits 58 (and_parts _ _ h).1))

named_size : (entities : EntityTable) (text : List ℕ) → IfSome (named entities text) (IsMeaningIn text)
named_size entities text = by (nat_eq (slice_index text name) 59) (byte_below text name 58)
  where
    name : ℕ
    name = prefix_len is_ascii_alphanumeric text

    found : (r : Option (List ℕ)) → name < length text → IfSome (option_map (λ t. (name + 2, t)) r) (IsMeaningIn text)
    found None h = tt
    found (Some t) h = (omega arith, omega arith)

    by : (t : Bool) → (t ≡ true → name < length text) → IfSome (if t then option_map (λ t. (name + 2, t)) (entity_text entities (take name text)) else None) (IsMeaningIn text)
    by true h = found _ (h refl)
    by false h = tt

pub reference_size : (entities : EntityTable) (text : List ℕ) → IfSome (reference entities text) (IsMeaningIn text)
unfolding reference
reference_size entities text = by (nat_eq (slice_index text 0) 35) (byte_below text 0 34) (nat_eq (slice_index text 1) 120) (byte_below text 1 119) (nat_eq (slice_index text 1) 88) (byte_below text 1 87)
  where
    decimal : 0 < length text → IfSome (numeric 2 10 7 (drop 1 text)) (IsMeaningIn text)
    decimal h = let long = length-drop 1 text in numeric_size text (drop 1 text) 2 10 7 (omega arith)

    hexadecimal : 1 < length text → IfSome (numeric 3 16 6 (drop 2 text)) (IsMeaningIn text)
    hexadecimal h = let long = length-drop 2 text in numeric_size text (drop 2 text) 3 16 6 (omega arith)

    by : (s : Bool) → (s ≡ true → 0 < length text) → (t : Bool) → (t ≡ true → 1 < length text) → (u : Bool) → (u ≡ true → 1 < length text) →
        IfSome (if s then (if t || u then numeric 3 16 6 (drop 2 text) else numeric 2 10 7 (drop 1 text)) else named entities text) (IsMeaningIn text)
    by false h t k u l = named_size entities text
    by true h true k u l = hexadecimal (k refl)
    by true h false k true l = hexadecimal (l refl)
    by true h false k false l = decimal (h refl)
