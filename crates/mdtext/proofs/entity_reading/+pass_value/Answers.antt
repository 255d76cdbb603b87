use Rattle.std.proofs.Common.{◌≡◌, ℕ, ◌<◌, ◌≤◌, ◌-◌, List, ◌∷◌, [], Option, None, Some, Bor, codes, length, option_map, refl, sym, ap, ap₂, ◌∙◌, arith}
use Rattle.std.proofs.lemmas.Slice.Eq.{bytes_eq-Decides}
use Rattle.json.specs.Token.{Token}
use Rattle.json.specs.Json.{after_end_array, read_key, value}
use Rattle.json.specs.Reads.{token_of}
use Rattle.json.proofs.Grammar.{read_key-shorter, value_is}
use Rattle.serde_json.specs.Data.{Members, array, boolean, no_members, null, number, object, put, string}
use Rattle.serde_json.specs.Read.{converted, of_json}
use Rattle.mdtext.specs.EntityReading.{characters_among, value_at}
use Rattle.mdtext.proofs.TokenReading.{MembersGoOn, at_array_read, at_array_refused, at_bad_number, at_boolean, at_good_number, at_null, at_object_read, at_object_refused, at_string, characters_past, characters_put, items_begin, items_more_read, items_read, items_refused, members_more_read, members_read, no_key_read, no_member_read}
use Rattle.mdtext.proofs.entity_reading.+pass_value.Goals.{pass_value-In_ok-token, pass_fields-In_ok-passed}
use Rattle.mdtext.proofs.entity_reading.+pass_value.Goals as goal

first_token : (t : ℕ) (c : pass_value-In_ok-token t) (k : _) → c.in_ok-token.token ≡ k → c.args.reader.now ≡ token_of k ∷ c.next.new.self
first_token t c k is =
    let first : c.args.reader.now ≡ token_of c.in_ok-token.token ∷ c.next.new.self = grind arith in
    first ∙ ap (λ k. token_of k ∷ c.next.new.self) is

pub pass_value-returns-in_err-token-clause-err : goal.pass_value-returns-in_err-token-clause-err
pass_value-returns-in_err-token-clause-err t c refused =
    let empty : c.args.reader.now ≡ [] = grind arith in
    ap (converted of_json) (ap (value c.args.depth) empty ∙ value_is c.args.depth [])

pub pass_value-returns-then-depth-eq0-clause-err : goal.pass_value-returns-then-depth-eq0-clause-err
unfolding value
pass_value-returns-then-depth-eq0-clause-err t c refused =
    let is = first_token t (goal.at.pass_value-returns-then-depth-eq0-clause-err t c).In_ok-token _ c.in-BeginArray.is in
    let none : c.args.depth ≡ 0 = omega arith in
    ap₂ value_at none is

pub pass_value-returns-then-depth-eq0-2-clause-err : goal.pass_value-returns-then-depth-eq0-2-clause-err
unfolding value
pass_value-returns-then-depth-eq0-2-clause-err t c refused =
    let is = first_token t (goal.at.pass_value-returns-then-depth-eq0-2-clause-err t c).In_ok-token _ c.in-BeginObject.is in
    let none : c.args.depth ≡ 0 = omega arith in
    ap₂ value_at none is

pub pass_value-returns-in_err-pass_items-in-BeginArray-clause-err : goal.pass_value-returns-in_err-pass_items-in-BeginArray-clause-err
pass_value-returns-in_err-pass_items-in-BeginArray-clause-err t c refused =
    let is = first_token t (goal.at.pass_value-returns-in_err-pass_items-in-BeginArray-clause-err t c).In_ok-token _ c.in-BeginArray.is in
    at_array_refused c.args.depth c.args.reader.now c.next.new.self is (omega arith) (c.pass_items.ensures.err (grind arith))

pub pass_value-returns-in_err-pass_fields-in-BeginObject-clause-err : goal.pass_value-returns-in_err-pass_fields-in-BeginObject-clause-err
pass_value-returns-in_err-pass_fields-in-BeginObject-clause-err t c refused =
    let is = first_token t (goal.at.pass_value-returns-in_err-pass_fields-in-BeginObject-clause-err t c).In_ok-token _ c.in-BeginObject.is in
    at_object_refused c.args.depth c.args.reader.now c.next.new.self is (omega arith) (c.pass_fields.ensures.err (grind arith))

pub pass_value-returns-in-String-clause-ok : goal.pass_value-returns-in-String-clause-ok
pass_value-returns-in-String-clause-ok t c =
    let is : c.args.reader.now ≡ Token.string c.in-String.text.now ∷ c.next.new.self =
    first_token t (goal.at.pass_value-returns-in-String-clause-ok t c).In_ok-token _ c.in-String.is in
    (string c.in-String.text.now, at_string c.args.depth c.args.reader.now c.in-String.text.now c.next.new.self is, refl, refl)

pub pass_value-returns-then-is_number-clause-ok : goal.pass_value-returns-then-is_number-clause-ok
pass_value-returns-then-is_number-clause-ok t c =
    let is : c.args.reader.now ≡ Token.number c.in-Number.text.now ∷ c.next.new.self =
    first_token t (goal.at.pass_value-returns-then-is_number-clause-ok t c).In_ok-token _ c.in-Number.is in
    let n = at_good_number c.args.depth c.args.reader.now c.in-Number.text.now c.next.new.self is (sym c.is_number.ensures ∙ c.if-is_number.true) in
    (number n.0, n.1, refl, refl)

pub pass_value-returns-else-is_number-clause-err : goal.pass_value-returns-else-is_number-clause-err
pass_value-returns-else-is_number-clause-err t c refused =
    let is : c.args.reader.now ≡ Token.number c.in-Number.text.now ∷ c.next.new.self =
    first_token t (goal.at.pass_value-returns-else-is_number-clause-err t c).In_ok-token _ c.in-Number.is in
    at_bad_number c.args.depth c.args.reader.now c.in-Number.text.now c.next.new.self is (sym c.is_number.ensures ∙ c.if-is_number.false)

pub pass_value-returns-in-Bool-clause-ok : goal.pass_value-returns-in-Bool-clause-ok
pass_value-returns-in-Bool-clause-ok t c =
    let is : c.args.reader.now ≡ Token.boolean c.in-Bool.field-0 ∷ c.next.new.self =
    first_token t (goal.at.pass_value-returns-in-Bool-clause-ok t c).In_ok-token _ c.in-Bool.is in
    (boolean c.in-Bool.field-0, at_boolean c.args.depth c.args.reader.now c.in-Bool.field-0 c.next.new.self is, refl, refl)

pub pass_value-returns-in-Null-clause-ok : goal.pass_value-returns-in-Null-clause-ok
pass_value-returns-in-Null-clause-ok t c =
    let is : c.args.reader.now ≡ Token.null ∷ c.next.new.self = first_token t (goal.at.pass_value-returns-in-Null-clause-ok t c).In_ok-token _ c.in-Null.is in
    (null, at_null c.args.depth c.args.reader.now c.next.new.self is, refl, refl)

pub pass_value-returns-in-EndObject-clause-err : goal.pass_value-returns-in-EndObject-clause-err
pass_value-returns-in-EndObject-clause-err t c refused =
    let first : c.args.reader.now ≡ token_of c.in_ok-token.token ∷ c.next.new.self = grind arith in
    let none : value c.args.depth c.args.reader.now ≡ None = rw (value_is c.args.depth c.args.reader.now, first) (grind arith) in
    ap (converted of_json) none

pub pass_value-returns-in_ok-pass_items-in-BeginArray-clause-ok : goal.pass_value-returns-in_ok-pass_items-in-BeginArray-clause-ok
pass_value-returns-in_ok-pass_items-in-BeginArray-clause-ok t c =
    let is = first_token t (goal.at.pass_value-returns-in_ok-pass_items-in-BeginArray-clause-ok t c).In_ok-token _ c.in-BeginArray.is in
    let found = c.in_ok-pass_items-in-BeginArray.ensures.ok in
    (array found.0, at_array_read c.args.depth c.args.reader.now c.next.new.self found.0 c.pass_items.new.reader is (omega arith) found.1, refl, refl)

pub pass_value-returns-in_ok-pass_fields-in-BeginObject-clause-ok : goal.pass_value-returns-in_ok-pass_fields-in-BeginObject-clause-ok
pass_value-returns-in_ok-pass_fields-in-BeginObject-clause-ok t c =
    let is = first_token t (goal.at.pass_value-returns-in_ok-pass_fields-in-BeginObject-clause-ok t c).In_ok-token _ c.in-BeginObject.is in
    let found = c.in_ok-pass_fields-in-BeginObject.ensures.ok in
    (object found.0, at_object_read c.args.depth c.args.reader.now c.next.new.self found.0 c.pass_fields.new.reader is (omega arith) found.1, refl, found.2)

pub pass_items-loop-reader-init : goal.pass_items-loop-reader-init
pass_items-loop-reader-init t c =
    (length c.args.reader.now, omega arith, items_begin c.args.depth c.args.reader.now, omega arith)

pub pass_items-loop-reader-preserved : goal.pass_items-loop-reader-preserved
pass_items-loop-reader-preserved t c =
    let l = c.loop-reader in
    let n = l.invariant.0 in
    let going : (after_end_array l.reader ≡ None) × (c.take_end_array.new.self ≡ l.reader) = grind arith in
    let done = c.in_ok-pass_value.ensures in
    let r = c.pass_value.new.reader in
    let less : length r < length l.reader = rw (← going.1) done.shorter in (
      n - 1,
      omega (arith, l.invariant.1, less),
      items_more_read c.args.depth c.args.reader.now n l.reader l.invariant.2 r done.ok.0 (omega (arith, l.invariant.1, less)) going.0 (rw going.1 at done.ok.1),
      omega (arith, l.invariant.3, less),
    )

pub pass_items-returns-in_err-pass_value-clause-err : goal.pass_items-returns-in_err-pass_value-clause-err
pass_items-returns-in_err-pass_value-clause-err t c refused =
    let l = c.loop-reader in
    let n = l.invariant.0 in
    let going : (after_end_array l.reader ≡ None) × (c.take_end_array.new.self ≡ l.reader) = grind arith in
    items_refused c.args.depth c.args.reader.now n l.reader l.invariant.2 going.0 (rw (← going.1) (c.pass_value.ensures.err (grind arith)))

pub pass_items-returns-clause-ok : goal.pass_items-returns-clause-ok
pass_items-returns-clause-ok t c =
    let l = c.loop-reader in
    items_read c.args.depth c.args.reader.now l.invariant.0 l.reader l.invariant.2 c.take_end_array.new.self l.invariant.1 (grind arith)

pub pass_fields-loop-key-init : goal.pass_fields-loop-key-init
pass_fields-loop-key-init t c =
    (length c.args.reader.now, omega arith, no_members, refl, refl, omega arith)

pub pass_fields-returns-in_err-key-clause-err : goal.pass_fields-returns-in_err-key-clause-err
pass_fields-returns-in_err-key-clause-err t c refused =
    let l = c.loop-key in
    no_key_read c.args.depth c.args.reader.now l.invariant.0 l.reader l.invariant.2 l.invariant.3 c.in_err-key.ensures.value

pub pass_fields-returns-in_err-passed-clause-err : goal.pass_fields-returns-in_err-passed-clause-err
pass_fields-returns-in_err-passed-clause-err t c refused =
    let l = c.loop-key in
    let n = l.invariant.0 in
    let found = l.invariant.2 in
    let k = c.in-Some.key.now in
    let s = c.next_key.new.self in
    let named : read_key l.reader ≡ Some (Some k, s) = grind arith in
    no_member_read c.args.depth c.args.reader.now n l.reader found l.invariant.3 s k named (c.pass_value.ensures.err (grind arith))

-- what has been read and what is left, with one member more
abbrev GoesOn : (depth : ℕ) (all left : List Token) → Option (Bor (List ℕ)) → Type 0
GoesOn depth all left text =
    (n : ℕ) × (length left ≤ n) × (found : Members) × MembersGoOn depth all n left found × (option_map (λ s. s.now) text ≡ characters_among found)
    × (length left ≤ length all)

member_more : (t : ℕ) (c : pass_fields-In_ok-passed t) (text : Option (Bor (List ℕ))) →
    option_map (λ s. s.now) text ≡ characters_among (put c.in-Some.key.now c.in_ok-passed.ensures.ok.0 c.loop-key.invariant.2) →
    GoesOn c.args.depth c.args.reader.now c.pass_value.new.reader text
member_more t c text told =
    let l = c.loop-key in
    let n = l.invariant.0 in
    let found = l.invariant.2 in
    let k = c.in-Some.key.now in
    let s = c.next_key.new.self in
    let named : read_key l.reader ≡ Some (Some k, s) = grind arith in
    let done = c.in_ok-passed.ensures in
    let less = read_key-shorter l.reader (Some k) s named in (
      n - 1,
      omega (arith, l.invariant.1, less, done.shorter),
      put k done.ok.0 found,
      members_more_read c.args.depth c.args.reader.now n l.reader found l.invariant.3 s c.pass_value.new.reader k done.ok.0 (omega (arith, l.invariant.1, less))
          named done.ok.1,
      told,
      omega (arith, l.invariant.5, less, done.shorter),
    )

pub pass_fields-loop-key-preserved-then-eq : goal.pass_fields-loop-key-preserved-then-eq
pass_fields-loop-key-preserved-then-eq t c =
    let k = c.in-Some.key.now in
    let done = c.in_ok-passed.ensures.ok in
    let is : k ≡ codes "characters" = (bytes_eq-Decides k (codes "characters")).0 (sym c.eq.ensures ∙ c.if-eq.true) in
    member_more t (goal.at.pass_fields-loop-key-preserved-then-eq t c).In_ok-passed c.in_ok-passed.passed.text
    (done.2 ∙ characters_put k done.0 c.loop-key.invariant.2 is)

pub pass_fields-loop-key-preserved : goal.pass_fields-loop-key-preserved
pass_fields-loop-key-preserved t c =
    let l = c.loop-key in
    let k = c.in-Some.key.now in
    let other : codes "characters" ≡ k → ⊥ = grind arith in
    member_more t (goal.at.pass_fields-loop-key-preserved t c).In_ok-passed l.characters
    (l.invariant.4 ∙ characters_past k c.in_ok-passed.ensures.ok.0 l.invariant.2 other)

pub pass_fields-returns-clause-ok : goal.pass_fields-returns-clause-ok
pass_fields-returns-clause-ok t c =
    let l = c.loop-key in
    (l.invariant.2, members_read c.args.depth c.args.reader.now l.invariant.0 l.reader l.invariant.2 l.invariant.3 c.next_key.new.self l.invariant.1 (grind arith), l.invariant.4)
