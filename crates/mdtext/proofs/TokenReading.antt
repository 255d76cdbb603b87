-- An entity file read from its tokens: each value as it is passed, and the loops over items and members.
use Rattle.std.proofs.Common.{◌≡◌, ℕ, ◌-◌, ◌<◌, ◌≤◌, List, [], ◌∷◌, length, true, false, Option, Some, None, codes, option_map, zero, suc, refl, sym, ap, ◌∙◌, is_some, arith}
use Rattle.std.specs.Bool.{if◌then◌else◌}
use Rattle.std.specs.Prelude as prelude
use Rattle.std.specs.Option.{option_and_then}
use Rattle.std.specs.Str.{is_utf8}
use Rattle.json.specs.Lex.{tokens}
use Rattle.json.specs.Reads.{token_of}
use Rattle.json.specs.Token.{Token}
use Rattle.json.specs.declared.token.Token as enum
use Rattle.json.specs.declared.token.Token.TheVariants.{BeginObject, EndObject, BeginArray, EndArray, Key, String, Number, Bool, Null, Bad}
use Rattle.json.specs.Json as json
use Rattle.json.specs.Json.{Parse, value, items, members, items_step, parse_map, after_end_array, read_key, if_last}
use Rattle.json.proofs.Grammar.{items_end, items_more, members_end, members_no_key, members_more, value_is, value-begin_array, value-begin_object}
use Rattle.serde_json.specs.Data.{Num, Data, null, boolean, number, string, array, object, Items, no_items, item, Members, no_members, put}
use Rattle.serde_json.specs.Find.{as_object, as_str, get_member}
use Rattle.serde_json.specs.Read.{number_of, of_json, of_items, of_members, converted, read}
use Rattle.serde_json.proofs.Views.{get_member-put, get_member-put_other}
use Rattle.mdtext.specs.EntityFile.{file_names, of_object}
use Rattle.mdtext.specs.EntityReading.{characters_among, items_at, members_at, value_at, whole_at}

-- ---- the grammar's turns, under the conversion to data

abbrev pick : {A : Type 0} → A → Option A → A
pick d None = d
pick d (Some a) = a

matched : {B : Type 0} (r s : List Token) (x : Option B) (b : B) → option_map {U = B × List Token} (λ y. (y, r)) x ≡ Some (b, s) → (r ≡ s) × (x ≡ Some b)
matched r s None b e = absurd (cc)
matched r s (Some y) b e = let same = ap (pick (y, r)) e in (ap (λ p. p.1) same, ap (λ p. Some p.0) same)

converted_some : {A B : Type 0} (f : A → Option B) (o : Option (A × List Token)) (b : B) (r : List Token) → converted f o ≡ Some (b, r) → (a : A) × (o ≡ Some (a, r)) × (f a ≡ Some b)
converted_some f None b r e = absurd (cc)
converted_some f (Some p) b r e = let both = matched p.1 r (f p.0) b e in (p.0, ap (λ s. Some (p.0, s)) both.0, both.1)

refused : {B : Type 0} (r : List Token) (x : Option B) → option_map {U = B × List Token} (λ y. (y, r)) x ≡ None → x ≡ None
refused r None e = refl
refused r (Some y) e = absurd (cc)

moved : {A B : Type 0} (g : A → B) (r : List Token) (x : Option A) → option_map (λ b. (b, r)) (option_map g x) ≡ parse_map g (option_map (λ a. (a, r)) x)
moved g r None = refl
moved g r (Some a) = refl

converted-array : (o : Option (json.Items × List Token)) → converted of_json (parse_map json.array o) ≡ parse_map array (converted of_items o)
converted-array None = refl
converted-array (Some p) = moved array p.1 (of_items p.0)

converted-object : (o : Option (json.Members × List Token)) → converted of_json (parse_map json.object o) ≡ parse_map object (converted (λ ms. of_members ms no_members) o)
converted-object None = refl
converted-object (Some p) = moved object p.1 (of_members p.0 no_members)

with_item : (j : json.Json) (d : Data) → of_json j ≡ Some d → (o : Option (json.Items × List Token)) → converted of_items (parse_map (json.item j) o) ≡ parse_map (item d) (converted of_items o)
with_item j d e None = refl
with_item j d e (Some p) = rw e (moved (item d) p.1 (of_items p.0))

without_item : (j : json.Json) → of_json j ≡ None → (o : Option (json.Items × List Token)) → converted of_items (parse_map (json.item j) o) ≡ None
without_item j e None = refl
without_item j e (Some p) = rw e refl

with_member : (k : List ℕ) (j : json.Json) (d : Data) (old : Members) → of_json j ≡ Some d → (o : Option (json.Members × List Token))
    → converted (λ ms. of_members ms old) (parse_map (json.member k j) o) ≡ converted (λ ms. of_members ms (put k d old)) o
with_member k j d old e None = refl
with_member k j d old e (Some p) = rw e refl

without_member : (k : List ℕ) (j : json.Json) (old : Members) → of_json j ≡ None → (o : Option (json.Members × List Token)) → converted (λ ms. of_members ms old) (parse_map (json.member k j) o) ≡ None
without_member k j old e None = refl
without_member k j old e (Some p) = rw e refl

module _ (p : Parse json.Json) where
  item_read : (n : ℕ) (ts r : List Token) (d : Data) → 0 < n → after_end_array ts ≡ None → converted of_json (p ts) ≡ Some (d, r)
      → converted of_items (items p n ts) ≡ parse_map (item d) (converted of_items (items p (n - 1) r))
  item_read n ts r d some going e = let j = converted_some of_json (p ts) d r e in ap (converted of_items) (items_more p n ts r j.0 some going j.1) ∙ with_item j.0 d j.2 (items p (n - 1) r)

  no_item : (more : Parse json.Items) (o : Option (json.Json × List Token)) → converted of_json o ≡ None → converted of_items (option_and_then (λ q. parse_map (json.item q.0) (more q.1)) o) ≡ None
  no_item more None e = refl
  no_item more (Some q) e = without_item q.0 (refused q.1 (of_json q.0) e) (more q.1)

  item_refused : (n : ℕ) (ts : List Token) → after_end_array ts ≡ None → converted of_json (p ts) ≡ None → converted of_items (items p n ts) ≡ None
  unfolding items
  item_refused zero ts going e = refl
  item_refused (suc n) ts going e = ap (λ o. converted of_items (items_step p (items p n) ts o)) going ∙ no_item (items p n) (p ts) e

  module _ (old : Members) where
    member_read : (n : ℕ) (k : List ℕ) (ts s r : List Token) (d : Data) → 0 < n → read_key ts ≡ Some (Some k, s) → converted of_json (p s) ≡ Some (d, r)
        → converted (λ ms. of_members ms old) (members p n ts) ≡ converted (λ ms. of_members ms (put k d old)) (members p (n - 1) r)
    member_read n k ts s r d some key e =
        let j = converted_some of_json (p s) d r e in
        ap (converted (λ ms. of_members ms old)) (members_more p n k ts s r j.0 some key j.1) ∙ with_member k j.0 d old j.2 (members p (n - 1) r)

    no_member : (k : List ℕ) (more : Parse json.Members) (o : Option (json.Json × List Token)) → converted of_json o ≡ None
        → converted (λ ms. of_members ms old) (option_and_then (λ q. parse_map (json.member k q.0) (more q.1)) o) ≡ None
    no_member k more None e = refl
    no_member k more (Some q) e = without_member k q.0 old (refused q.1 (of_json q.0) e) (more q.1)

    member_refused : (n : ℕ) (k : List ℕ) (ts s : List Token) → read_key ts ≡ Some (Some k, s) → converted of_json (p s) ≡ None → converted (λ ms. of_members ms old) (members p n ts) ≡ None
    unfolding members
    member_refused zero k ts s key e = refl
    member_refused (suc n) k ts s key e = rw key (no_member k (members p n) (p s) e)

-- ---- one value

module _ (depth : ℕ) (old : List Token) where
  at_token : (ts : List Token) → old ≡ ts → value_at depth old ≡ value_at depth ts
  at_token ts e = ap (value_at depth) e

  pub at_string : (s : List ℕ) (new : List Token) → old ≡ Token.string s ∷ new → value_at depth old ≡ Some (string s, new)
  at_string s new e = at_token (Token.string s ∷ new) e ∙ ap (converted of_json) (value_is depth (Token.string s ∷ new))

  pub at_boolean : (b : prelude.Bool) (new : List Token) → old ≡ Token.boolean b ∷ new → value_at depth old ≡ Some (boolean b, new)
  at_boolean b new e = at_token (Token.boolean b ∷ new) e ∙ ap (converted of_json) (value_is depth (Token.boolean b ∷ new))

  pub at_null : (new : List Token) → old ≡ Token.null ∷ new → value_at depth old ≡ Some (null, new)
  at_null new e = at_token (Token.null ∷ new) e ∙ ap (converted of_json) (value_is depth (Token.null ∷ new))

  at_number : (s : List ℕ) (new : List Token) (n : Option Num) → old ≡ Token.number s ∷ new → number_of s ≡ n → value_at depth old ≡ converted (λ m. m) (Some (option_map number n, new))
  at_number s new n e is = at_token (Token.number s ∷ new) e ∙ ap (converted of_json) (value_is depth (Token.number s ∷ new)) ∙ ap (λ m. converted (λ x. x) (Some (option_map number m, new))) is

  pub at_good_number : (s : List ℕ) (new : List Token) → old ≡ Token.number s ∷ new → is_some (number_of s) ≡ true → (n : Num) × (value_at depth old ≡ Some (number n, new))
  at_good_number s new e some = by (number_of s) refl some
    where
      by : (n : Option Num) → number_of s ≡ n → is_some n ≡ true → (m : Num) × (value_at depth old ≡ Some (number m, new))
      by None is h = absurd (cc)
      by (Some n) is h = (n, at_number s new (Some n) e is)

  pub at_bad_number : (s : List ℕ) (new : List Token) → old ≡ Token.number s ∷ new → is_some (number_of s) ≡ false → value_at depth old ≡ None
  at_bad_number s new e none = by (number_of s) refl none
    where
      by : (n : Option Num) → number_of s ≡ n → is_some n ≡ false → value_at depth old ≡ None
      by None is h = at_number s new None e is
      by (Some n) is h = absurd (cc)

  pub at_array : (inner : List Token) → old ≡ Token.begin_array ∷ inner → 0 < depth → value_at depth old ≡ parse_map array (items_at (depth - 1) inner)
  at_array inner e some =
      at_token (Token.begin_array ∷ inner) e ∙ ap (converted of_json) (value-begin_array depth inner some) ∙ converted-array (items (value (depth - 1)) (length inner) inner)

  pub at_object : (inner : List Token) → old ≡ Token.begin_object ∷ inner → 0 < depth → value_at depth old ≡ parse_map object (members_at (depth - 1) inner)
  at_object inner e some =
      at_token (Token.begin_object ∷ inner) e ∙ ap (converted of_json) (value-begin_object depth inner some) ∙ converted-object (members (value (depth - 1)) (length inner) inner)

  pub at_object_read : (inner : List Token) (found : Members) (new : List Token) → old ≡ Token.begin_object ∷ inner → 0 < depth → members_at (depth - 1) inner ≡ Some (found, new) → value_at depth old ≡ Some (object found, new)
  at_object_read inner found new e some r = at_object inner e some ∙ ap (parse_map object) r

  pub at_object_refused : (inner : List Token) → old ≡ Token.begin_object ∷ inner → 0 < depth → members_at (depth - 1) inner ≡ None → value_at depth old ≡ None
  at_object_refused inner e some r = at_object inner e some ∙ ap (parse_map object) r

  pub at_array_read : (inner : List Token) (ds : Items) (new : List Token) → old ≡ Token.begin_array ∷ inner → 0 < depth → items_at (depth - 1) inner ≡ Some (ds, new) → value_at depth old ≡ Some (array ds, new)
  at_array_read inner ds new e some r = at_array inner e some ∙ ap (parse_map array) r

  pub at_array_refused : (inner : List Token) → old ≡ Token.begin_array ∷ inner → 0 < depth → items_at (depth - 1) inner ≡ None → value_at depth old ≡ None
  at_array_refused inner e some r = at_array inner e some ∙ ap (parse_map array) r

-- ---- the items of an array

-- all of an array is read, if what is left of it is
abbrev pub ItemsGoOn : ℕ → List Token → ℕ → List Token → Type 0
ItemsGoOn depth all n left = (front : Items → Items) × (items_at depth all ≡ parse_map front (converted of_items (items (value depth) n left)))

pub items_begin : (depth : ℕ) (all : List Token) → ItemsGoOn depth all (length all) all
items_begin depth all = (λ ds. ds, as_it_is (items_at depth all))
  where
    as_it_is : (r : Option (Items × List Token)) → r ≡ parse_map (λ ds. ds) r
    as_it_is None = refl
    as_it_is (Some p) = refl

twice : (f g : Items → Items) (r : Option (Items × List Token)) → parse_map f (parse_map g r) ≡ parse_map (λ ds. f (g ds)) r
twice f g None = refl
twice f g (Some p) = refl

module _ (depth : ℕ) (all : List Token) (n : ℕ) (left : List Token) (go : ItemsGoOn depth all n left) where
  pub items_more_read : (rest : List Token) (d : Data) → 0 < n → after_end_array left ≡ None → value_at depth left ≡ Some (d, rest) → ItemsGoOn depth all (n - 1) rest
  items_more_read rest d some going r =
      (λ ds. go.0 (item d ds), go.1 ∙ ap (parse_map go.0) (item_read (value depth) n left rest d some going r) ∙ twice go.0 (item d) (converted of_items (items (value depth) (n - 1) rest)))

  pub items_read : (rest : List Token) → length left ≤ n → after_end_array left ≡ Some rest → (ds : Items) × (items_at depth all ≡ Some (ds, rest))
  items_read rest enough e = (go.0 no_items, go.1 ∙ ap (parse_map go.0) (ap (converted of_items) (items_end (value depth) n left rest enough e)))

  pub items_refused : after_end_array left ≡ None → value_at depth left ≡ None → items_at depth all ≡ None
  items_refused going r = go.1 ∙ ap (parse_map go.0) (item_refused (value depth) n left going r)

-- ---- the members of an object

-- all of an object is read, if what is left of it is, beside what was found
abbrev pub MembersGoOn : ℕ → List Token → ℕ → List Token → Members → Type 0
MembersGoOn depth all n left found = members_at depth all ≡ converted (λ ms. of_members ms found) (members (value depth) n left)

module _ (depth : ℕ) (all : List Token) (n : ℕ) (left : List Token) (found : Members) (go : MembersGoOn depth all n left found) where
  pub members_more_read : (inner rest : List Token) (k : List ℕ) (d : Data) → 0 < n → read_key left ≡ Some (Some k, inner) → value_at depth inner ≡ Some (d, rest) → MembersGoOn depth all (n - 1) rest (put k d found)
  members_more_read inner rest k d some key r = go ∙ member_read (value depth) found n k left inner rest d some key r

  pub members_read : (rest : List Token) → length left ≤ n → read_key left ≡ Some (None, rest) → members_at depth all ≡ Some (found, rest)
  members_read rest enough e = go ∙ ap (converted (λ ms. of_members ms found)) (members_end (value depth) n left rest enough e)

  pub no_key_read : read_key left ≡ None → members_at depth all ≡ None
  no_key_read e = go ∙ ap (converted (λ ms. of_members ms found)) (members_no_key (value depth) n left e)

  pub no_member_read : (inner : List Token) (k : List ℕ) → read_key left ≡ Some (Some k, inner) → value_at depth inner ≡ None → members_at depth all ≡ None
  no_member_read inner k key r = go ∙ member_refused (value depth) found n k left inner key r

-- the text of an object's members as one more is put in
pub characters_put : (k : List ℕ) (d : Data) (found : Members) → k ≡ codes "characters" → as_str d ≡ characters_among (put k d found)
characters_put k d found e = ap (option_and_then as_str) (sym (get_member-put k d found)) ∙ ap (λ n. option_and_then as_str (get_member n (put k d found))) e

pub characters_past : (k : List ℕ) (d : Data) (found : Members) → (codes "characters" ≡ k → ⊥) → characters_among found ≡ characters_among (put k d found)
characters_past k d found other = ap (option_and_then as_str) (sym (get_member-put_other (codes "characters") k d found other))

-- ---- the whole file

abbrev whole : Option (json.Json × List Token) → Option Data
whole o = option_and_then of_json (option_and_then (λ p. if_last p.0 p.1) o)

whole_read : (o : Option (json.Json × List Token)) (d : Data) → converted of_json o ≡ Some (d, []) → whole o ≡ Some d
whole_read o d e = let j = converted_some of_json o d [] e in ap whole j.1 ∙ j.2

whole_and_more : (o : Option (json.Json × List Token)) (d : Data) (t : Token) (r : List Token) → converted of_json o ≡ Some (d, t ∷ r) → whole o ≡ None
whole_and_more o d t r e = ap whole (converted_some of_json o d (t ∷ r) e).1

whole_refused : (o : Option (json.Json × List Token)) → converted of_json o ≡ None → whole o ≡ None
whole_refused None e = refl
whole_refused (Some (j, [])) e = refused [] (of_json j) e
whole_refused (Some (j, t ∷ r)) e = refl

-- the members of the object that all tokens are
abbrev pub object_at : List Token → Option Members
object_at ts = option_and_then as_object (whole_at ts)

pub object_read : (ts inner : List Token) (found : Members) → ts ≡ Token.begin_object ∷ inner → members_at 126 inner ≡ Some (found, []) → object_at ts ≡ Some found
object_read ts inner found e r = ap (option_and_then as_object) (whole_read (value 127 ts) (object found) (at_object_read 127 ts inner found [] e (omega arith) r))

pub object_and_more : (ts inner : List Token) (found : Members) (t : Token) (more : List Token) → ts ≡ Token.begin_object ∷ inner → members_at 126 inner ≡ Some (found, t ∷ more) → object_at ts ≡ None
object_and_more ts inner found t more e r = ap (option_and_then as_object) (whole_and_more (value 127 ts) (object found) t more (at_object_read 127 ts inner found (t ∷ more) e (omega arith) r))

pub object_refused : (ts inner : List Token) → ts ≡ Token.begin_object ∷ inner → members_at 126 inner ≡ None → object_at ts ≡ None
object_refused ts inner e r = ap (option_and_then as_object) (whole_refused (value 127 ts) (at_object_refused 127 ts inner e (omega arith) r))

-- a value that is no object
abbrev object_of : Option (json.Json × List Token) → Option Members
object_of o = option_and_then as_object (whole o)

no_object : (d : Data) (j : json.Json) (ts : List Token) → as_object d ≡ None → of_json j ≡ Some d → object_of (Some (j, ts)) ≡ None
no_object d j [] none is = ap (option_and_then as_object) is ∙ none
no_object d j (t ∷ ts) none is = refl

an_array : (o : Option Items) → option_and_then as_object (option_map array o) ≡ None
an_array None = refl
an_array (Some ds) = refl

a_number : (o : Option Num) → option_and_then as_object (option_map number o) ≡ None
a_number None = refl
a_number (Some n) = refl

arrays : (o : Option (json.Items × List Token)) → object_of (parse_map json.array o) ≡ None
arrays None = refl
arrays (Some (js, [])) = an_array (of_items js)
arrays (Some (js, t ∷ ts)) = refl

numbers : (s : List ℕ) (ts : List Token) → object_of (Some (json.number s, ts)) ≡ None
numbers s [] = a_number (number_of s)
numbers s (t ∷ ts) = refl

pub other_value : (ts : List Token) → ((inner : List Token) → ts ≡ Token.begin_object ∷ inner → ⊥) → object_at ts ≡ None
other_value [] other = ap object_of (value_is 127 [])
other_value (Token.begin_object ∷ ts) other = absurd (other ts refl)
other_value (Token.end_object ∷ ts) other = ap object_of (value_is 127 (Token.end_object ∷ ts))
other_value (Token.begin_array ∷ ts) other = ap object_of (value-begin_array 127 ts (omega arith)) ∙ arrays (items (value 126) (length ts) ts)
other_value (Token.end_array ∷ ts) other = ap object_of (value_is 127 (Token.end_array ∷ ts))
other_value (Token.key s ∷ ts) other = ap object_of (value_is 127 (Token.key s ∷ ts))
other_value (Token.string s ∷ ts) other = ap object_of (value_is 127 (Token.string s ∷ ts)) ∙ no_object (string s) (json.string s) ts refl refl
other_value (Token.number s ∷ ts) other = ap object_of (value_is 127 (Token.number s ∷ ts)) ∙ numbers s ts
other_value (Token.boolean b ∷ ts) other = ap object_of (value_is 127 (Token.boolean b ∷ ts)) ∙ no_object (boolean b) (json.boolean b) ts refl refl
other_value (Token.null ∷ ts) other = ap object_of (value_is 127 (Token.null ∷ ts)) ∙ no_object null json.null ts refl refl
other_value (Token.bad ∷ ts) other = ap object_of (value_is 127 (Token.bad ∷ ts))

-- the token that opens an object is told by its variant
pub opens_object : (t : enum.Token) (rest inner : List Token) → token_of t ∷ rest ≡ Token.begin_object ∷ inner → t ≡ BeginObject
opens_object BeginObject rest inner e = refl
opens_object EndObject rest inner e = absurd (cc)
opens_object BeginArray rest inner e = absurd (cc)
opens_object EndArray rest inner e = absurd (cc)
opens_object (Key s) rest inner e = absurd (cc)
opens_object (String s) rest inner e = absurd (cc)
opens_object (Number s) rest inner e = absurd (cc)
opens_object (Bool b) rest inner e = absurd (cc)
opens_object Null rest inner e = absurd (cc)
opens_object Bad rest inner e = absurd (cc)

pub file_is : (text : List ℕ) (ts : List Token) → is_utf8 text ≡ true → ts ≡ tokens text → file_names text ≡ of_object (object_at ts)
file_is text ts utf8 is = ap (λ b. of_object (if b then option_and_then as_object (read text) else None)) utf8 ∙ ap (λ t. of_object (object_at t)) (sym is)
