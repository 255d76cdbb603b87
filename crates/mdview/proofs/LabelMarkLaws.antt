-- A unit that shares no mark with some labels names none of them.
use Rattle.std.proofs.Common.{◌≡◌, ℕ, zero, suc, ◌+◌, ◌<◌, Bool, true, false, ◌||◌, List, [], ◌∷◌, length, drop, refl, ap, sym, ◌∙◌, arith}
use Rattle.std.specs.Prelude.{slice_get}
use Rattle.std.specs.Int.RustNames.{bit_and, bit_or}
use Rattle.std.specs.Int.Bits.{and_self}
use Rattle.std.specs.BTreeMap.{is_at}
use Rattle.std.specs.Cmp.Lexicographic.{slice_cmp}
use Rattle.std.specs.List.{list_any}
use Rattle.std.specs.Option.{option_to_list}
use Rattle.std.specs.Ordering.{nat_cmp}
use Rattle.std.proofs.lemmas.Nat.{and_comm, pow_pos}
use Rattle.mdchunks.proofs.MarkSums.{apart_left, apart_right}
use Rattle.inlinespec.specs.ParsedText.{ParsedText}
use Rattle.mdview.specs.LabelMarks.{label_mark, marks_after, marks_asked, place_from}
use Rattle.mdview.proofs.Elsewhere.{key_is}

-- ---- marks of several labels

-- those of a place of a list, and those behind it
pub marks_from : (marks : ℕ) (labels : List (List ℕ)) (i : ℕ) → i < length labels → marks_after marks (drop i labels) ≡ marks_after (marks_after marks (option_to_list (slice_get labels i))) (drop (i + 1) labels)
marks_from marks [] i below = absurd (omega (arith, below))
marks_from marks (label ∷ labels) zero below = refl
marks_from marks (label ∷ labels) (suc i) below =
    let on : suc (i + 1) ≡ suc i + 1 = omega arith in
    marks_from marks labels i (omega (arith, below)) ∙ ap (λ n. marks_after (marks_after marks (option_to_list (slice_get labels i))) (drop n (label ∷ labels))) on

-- marks that share no bit with others, among more
pub kept_apart : (marks some : ℕ) (labels : List (List ℕ)) → bit_and (marks_after marks labels) some ≡ 0 → bit_and marks some ≡ 0
kept_apart marks some [] apart = apart
kept_apart marks some (label ∷ labels) apart = apart_left marks (label_mark label) some (kept_apart (bit_or marks (label_mark label)) some labels apart)

pub asked_apart : (marks some : ℕ) (readings : List ParsedText) → bit_and (marks_asked marks readings) some ≡ 0 → bit_and marks some ≡ 0
asked_apart marks some [] apart = apart
asked_apart marks some (r ∷ readings) apart = kept_apart marks some r.asked (asked_apart (marks_after marks r.asked) some readings apart)

-- a test that no label passes which shares no mark with these
module _ (p : List ℕ → Bool) (some : ℕ) (fails : (label : List ℕ) → bit_and (label_mark label) some ≡ 0 → p label ≡ false) where
  pub none_of_labels : (marks : ℕ) (labels : List (List ℕ)) → bit_and (marks_after marks labels) some ≡ 0 → list_any p labels ≡ false
  none_of_labels marks [] apart = refl
  none_of_labels marks (label ∷ labels) apart =
      let here = apart_right marks (label_mark label) some (kept_apart (bit_or marks (label_mark label)) some labels apart) in
      ap (λ b. b || list_any p labels) (fails label here) ∙ none_of_labels (bit_or marks (label_mark label)) labels apart

  pub none_of_readings : (marks : ℕ) (readings : List ParsedText) → bit_and (marks_asked marks readings) some ≡ 0 → list_any (λ (r : ParsedText). list_any p r.asked) readings ≡ false
  none_of_readings marks [] apart = refl
  none_of_readings marks (r ∷ readings) apart =
      let here = none_of_labels marks r.asked (asked_apart (marks_after marks r.asked) some readings apart) in
      ap (λ b. b || list_any (λ (r : ParsedText). list_any p r.asked) readings) here ∙ none_of_readings (marks_after marks r.asked) readings apart

-- ---- marks of the labels of a map

-- a label that shares no mark with another one is another
pub other_label : (key q : List ℕ) (b : Bool) → is_at (slice_cmp nat_cmp q) key ≡ b → bit_and (label_mark q) (label_mark key) ≡ 0 → b ≡ false
other_label key q false is apart = refl
other_label key q true is apart =
    let same : label_mark q ≡ 0 = sym (and_self (label_mark q)) ∙ ap (λ l. bit_and (label_mark q) (label_mark l)) (sym (key_is key q is)) ∙ apart in
    absurd (omega (arith, same, pow_pos (place_from 0 q)))

-- one key more
pub key_seen : (key q : List ℕ) (marks : ℕ) (others some : Bool) → bit_and (label_mark q) (bit_or marks (label_mark key)) ≡ 0
    → (bit_and (label_mark q) marks ≡ 0 → some ≡ (is_at (slice_cmp nat_cmp q) key || others)) → some ≡ others
key_seen key q marks others some apart before =
    let turned : bit_and (bit_or marks (label_mark key)) (label_mark q) ≡ 0 = and_comm (bit_or marks (label_mark key)) (label_mark q) ∙ apart in
    let old : bit_and (label_mark q) marks ≡ 0 = and_comm (label_mark q) marks ∙ apart_left marks (label_mark key) (label_mark q) turned in
    let new : bit_and (label_mark q) (label_mark key) ≡ 0 = and_comm (label_mark q) (label_mark key) ∙ apart_right marks (label_mark key) (label_mark q) turned in
    before old ∙ ap (λ b. b || others) (other_label key q (is_at (slice_cmp nat_cmp q) key) refl new)
