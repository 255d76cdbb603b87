-- What the members of an entity file give, as they are gathered, and the table that they make.
use Rattle.std.specs.Prelude.{◌≡◌, ℕ, ◌+◌, ◌<◌, ◌≤◌, Bool, ◌&&◌, nat_le, true, List, [], ◌∷◌, ◌++◌, All, length, map, slice_index_or, slice_range, Option, Some, None, IfSome, option_map, option_and_then, if◌then◌else◌}
use Rattle.std.specs.Option.{unwrap_or}
use Rattle.std.specs.BTreeMap.{insert_entry}
use Rattle.std.specs.Cmp.Lexicographic.{slice_cmp}
use Rattle.std.specs.List.Sorted.{IsSortedBy}
use Rattle.std.specs.Ordering.{is_lt, nat_cmp}
use Rattle.std.specs.Str.{IsUtf8}
use Rattle.mdtext.specs.EntityFile.{counts, name_of}
use Rattle.mdtext.specs.EntityTable.{EntityNames}
use Rattle.mdtext.specs.declared.member_texts.MemberTexts.{MemberTexts}
use Rattle.mdtext.specs.declared.named_texts.Span.{Span}

-- a name, and the text that it is given, or none
abbrev pub Given : Type 0
Given = List ℕ × Option (List ℕ)

-- whether a member that counts has no reference's name, and what the others that count give, in turn
abbrev pub Gathered : Type 0
Gathered = Bool × List Given

-- the bytes from one place to another, where the one lies before the other
abbrev pub part : List ℕ → ℕ → ℕ → Option (List ℕ)
part bytes a b = if nat_le a b && nat_le b (length bytes) then Some (slice_range bytes a b) else None

abbrev pub name_in : List ℕ → Span → List ℕ
name_in bytes s = unwrap_or (part bytes s.name s.text) []

abbrev pub given : List ℕ → Span → Given
given bytes s = (name_in bytes s, part bytes s.text s.end)

abbrev pub gathered : MemberTexts → Gathered
gathered ms = (ms.has_bad_name, map (given ms.bytes.items) ms.spans.items)

-- a span lies within the bytes, and its name, and its text where it has one, may be lent
abbrev pub IsHeld : List ℕ → Span → Type 0
IsHeld bytes s = (s.name ≤ s.text) × (s.text ≤ length bytes) × (s.end ≤ length bytes) × IsUtf8 (name_in bytes s) × IfSome (part bytes s.text s.end) IsUtf8

abbrev pub AreHeld : MemberTexts → Type 0
AreHeld ms = All (IsHeld ms.bytes.items) ms.spans.items

-- each has a text, and another name than the next
abbrev pub IsTable : List ℕ → List Span → Type 0
IsTable bytes ss =
    (k : ℕ) (d : Span) → k < length ss
    → ((slice_index_or ss k d).text ≤ (slice_index_or ss k d).end) × (k + 1 < length ss → ¬ (name_in bytes (slice_index_or ss k d) ≡ name_in bytes (slice_index_or ss (k + 1) d)))

abbrev pub with_given : Option (List ℕ) → Option (List ℕ) → Gathered → Gathered
with_given None text g = (true, g.1)
with_given (Some name) text g = (g.0, g.1 ++ (name, text) ∷ [])

-- what is gathered with one member more, by the text of its characters
abbrev pub given_more : List ℕ → Option (List ℕ) → Gathered → Gathered
given_more key text g = if counts key then with_given (name_of key) text g else g

-- what is given in turn, each name once and in order, with what it is given last
abbrev pub put_each : List Given → List Given → List Given
put_each [] table = table
put_each (e ∷ es) table = put_each es (insert_entry (slice_cmp nat_cmp) table e.0 e.1)

-- the table, where each name is given a text
abbrev pub all_given : List Given → Option EntityNames
all_given [] = Some []
all_given (e ∷ es) = option_and_then (λ text. option_map (λ table. (e.0, text) ∷ table) (all_given es)) e.1

abbrev pub given_table : Gathered → Option EntityNames
given_table g = if g.0 then None else all_given (put_each g.1 [])

-- the names do not fall
abbrev pub StandInOrder : List ℕ → List Span → Type 0
StandInOrder bytes ss = IsSortedBy (λ a b. is_lt (slice_cmp nat_cmp (name_in bytes a) (name_in bytes b))) ss
