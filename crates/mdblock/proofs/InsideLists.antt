-- Lines from a later item of an old list on: what they give behind the lines before that item, and what they give alone.
use Rattle.std.proofs.Common.{◌≡◌, ℕ, suc, ◌+◌, ◌-◌, ◌<◌, Bool, true, false, not, ◌&&◌, List, [], ◌∷◌, ◌++◌, length, map, Some, refl, sym, ◌∙◌, ap, subst, append_assoc, arith, length-append}
use Rattle.std.proofs.lemmas.List.{map-append}
use Rattle.std.specs.List.{flat_map, range_with_len}
use Rattle.std.specs.Option.{option_or}
use Rattle.std.specs.Prelude.{if◌then◌else◌, take}
use Rattle.mdtext.specs.EntityTable.{EntityTable}
use Rattle.blockspec.specs.BlankLines.{is_blank_line}
use Rattle.blockspec.specs.BlockLine.{BlockLine, document_line, without_last}
use Rattle.blockspec.specs.BlockStart.{begun}
use Rattle.blockspec.specs.BlockUnits.{units, visible_in}
use Rattle.blockspec.specs.ItemMarks.{ItemMark}
use Rattle.blockspec.specs.Joins.{is_joined, later_lines}
use Rattle.blockspec.specs.Meetings.{joins_behind, joins_list, gap_after}
use Rattle.blockspec.specs.Nesting.{deep_within, first_too_deep}
use Rattle.blockspec.specs.Stretches.{cut_by, tip_within}
use Rattle.blockspec.specs.TopBlocks.{ItemList, ListItem, Other, TopBlock, items_behind, moved_item, moved_top, nodes_of_items}
use Rattle.blockspec.specs.UnitBegin.{begins_unit, is_apart, list_mark, same_mark, shift_found, tail_mark, units_of}
use Rattle.blockspec.specs.UnitTree.{FoundUnit}
use Rattle.blockspec.proofs.BeginLaws.{begins_in, begins_next}
use Rattle.blockspec.proofs.DocumentLaws.{document_units, map_length}
use Rattle.blockspec.proofs.ItemsMeet.{items_meet_at}
use Rattle.blockspec.proofs.JoinLines.{joins_deep, joins_in, joins_next, with_number}
use Rattle.blockspec.proofs.LastJoins.{joined_next}
use Rattle.blockspec.proofs.ListsSpliced.{unit_of_list}
use Rattle.blockspec.proofs.NestingLaws.{moved_on}
use Rattle.blockspec.proofs.NestingMeets.{deep_apart}
use Rattle.blockspec.proofs.UnitReaderLaws.{IsOne, first_one}
use Rattle.blockspec.proofs.UnitsMeet.{units_meet_inside}
use Rattle.blockspec.proofs.VisibleLaws.{visible_append}
use Rattle.mdblock.specs.Copies.{IsBehind, items_positions}
use Rattle.mdblock.specs.FoundLists.{StandsForUnit}
use Rattle.mdblock.specs.Fronted.{ListBase, base_items, base_mark}
use Rattle.mdblock.specs.held.Reads.{handed, last_of, open_begin}
use Rattle.mdblock.proofs.CopyLaws.{items_placed_positions}
use Rattle.mdblock.proofs.ResumedLists.{ListFront, front_of}
use Rattle.mdblock.proofs.SplicedLists.{texts_before}
use Rattle.mdblock.proofs.SplicedUnits.{texts_of}
use Rattle.mdblock.proofs.TextOrder.{range_behind}

-- ---- as many units and later items

abbrev in_number : Bool → ℕ
in_number true = 1
in_number false = 0

in_same : (a b : Bool) (n : ℕ) → in_number a + n ≡ in_number b + n → a ≡ b
in_same true true n e = refl
in_same false false n e = refl
in_same true false n e = absurd (omega (arith, e))
in_same false true n e = absurd (omega (arith, e))

in_begin_count : (b : Bool) (n : ℕ) (ns : List ℕ) → length (if b then ns ++ n ∷ [] else ns) ≡ in_number b + length ns
in_begin_count true n ns = let p = length-append ns (n ∷ []) in omega (arith, p)
in_begin_count false n ns = omega arith

in_join_count : (b : Bool) (n : ℕ) (ns : List ℕ) → length (with_number b n ns) ≡ in_number b + length ns
in_join_count true n ns = let p = length-append ns (n ∷ []) in omega (arith, p)
in_join_count false n ns = omega arith

-- where the line begins a later item, all lines have one unit less than both parts
in_units : (e : EntityTable) (xs : List BlockLine) (l : BlockLine) (ys : List BlockLine) → joins_list xs l ≡ true →
    length (begins_in (units_of e (xs ++ l ∷ ys))) + 1 ≡ length (begins_in (units_of e xs)) + length (begins_in (units_of e (l ∷ ys)))
in_units e xs l ys j =
    let w = units_meet_inside e xs l ys j in
    let at = λ (f : FoundUnit). f.begin in
    let front : length (begins_in (units_of e xs)) ≡ length w.us + 1 = map_length at (units_of e xs) ∙ ap length w.front ∙ length-append w.us (w.last ∷ []) in
    let alone : length (begins_in (units_of e (l ∷ ys))) ≡ suc (length w.vs) = map_length at (units_of e (l ∷ ys)) ∙ ap length w.alone in
    let both : length (begins_in (units_of e (xs ++ l ∷ ys))) ≡ length w.us + suc (length w.vs) =
    map_length at (units_of e (xs ++ l ∷ ys))
    ∙ ap length w.both
    ∙ length-append w.us (w.whole ∷ map (shift_found (length xs)) w.vs)
    ∙ ap (λ z. length w.us + suc z) (map_length (shift_found (length xs)) w.vs) in
    omega (arith, front, alone, both)

-- A line begins a unit behind all of them where it does behind those from the later item on.
pub begins_inside : (e : EntityTable) (xs : List BlockLine) (l : BlockLine) (ys : List BlockLine) (t : BlockLine) → joins_list xs l ≡ true →
    begins_unit (xs ++ l ∷ ys) t ≡ begins_unit (l ∷ ys) t
begins_inside e xs l ys t j =
    let A = xs ++ l ∷ ys in
    let B = l ∷ ys in
    let n = length (begins_in (units_of e xs)) + length (begins_in (units_of e B)) in
    let a = in_units e xs l ys j in
    let b = in_units e xs l (ys ++ t ∷ []) j in
    let c : length (begins_in (units_of e (xs ++ l ∷ (ys ++ t ∷ [])))) ≡ in_number (begins_unit A t) + length (begins_in (units_of e A)) =
    ap (λ z. length (begins_in (units_of e z))) (sym (append_assoc xs B (t ∷ [])))
    ∙ ap length (begins_next e A t)
    ∙ in_begin_count (begins_unit A t) (length A) (begins_in (units_of e A)) in
    let d : length (begins_in (units_of e (l ∷ (ys ++ t ∷ [])))) ≡ in_number (begins_unit B t) + length (begins_in (units_of e B)) =
    ap length (begins_next e B t) ∙ in_begin_count (begins_unit B t) (length B) (begins_in (units_of e B)) in
    in_same (begins_unit A t) (begins_unit B t) n (omega (arith, a, b, c, d))

abbrev in_joins : List TopBlock → ℕ
in_joins ts = length (flat_map later_lines ts)

in_joins_behind : (us ts : List TopBlock) → in_joins (us ++ ts) ≡ in_joins us + in_joins ts
in_joins_behind [] ts = omega arith
in_joins_behind (u ∷ us) ts =
    let a = length-append (later_lines u) (flat_map later_lines (us ++ ts)) in
    let b = length-append (later_lines u) (flat_map later_lines us) in
    let c = in_joins_behind us ts in
    omega (arith, a, b, c)

in_joins_moved : (k : ℕ) (ts : List TopBlock) → in_joins (map (moved_top k) ts) ≡ in_joins ts
in_joins_moved k [] = refl
in_joins_moved k (Other g ∷ ts) = in_joins_moved k ts
in_joins_moved k (ItemList kind first later ∷ ts) =
    let at = λ (i : ListItem). i.line in
    let a = length-append (map at later) (flat_map later_lines ts) in
    let b = length-append (map at (map (moved_item k) later)) (flat_map later_lines (map (moved_top k) ts)) in
    let c = map_length at later in
    let d = map_length at (map (moved_item k) later) in
    let f = map_length (moved_item k) later in
    let g = in_joins_moved k ts in
    omega (arith, a, b, c, d, f, g)

-- and one later item more
in_items : (e : EntityTable) (xs : List BlockLine) (l : BlockLine) (ys : List BlockLine) → joins_list xs l ≡ true →
    length (joins_in e (xs ++ l ∷ ys)) ≡ length (joins_in e xs) + length (joins_in e (l ∷ ys)) + 1
in_items e xs l ys j =
    let w = items_meet_at e xs l ys j in
    let n = length xs in
    let at = λ (i : ListItem). i.line in
    let last = ItemList w.kind w.first w.later in
    let head = ItemList w.other w.item w.items in
    let more = items_behind (gap_after xs) n w.item w.items in
    let whole = ItemList w.kind w.first (w.later ++ more) in
    let a : length (joins_in e xs) ≡ in_joins w.before + in_joins (last ∷ []) = ap in_joins w.front ∙ in_joins_behind w.before (last ∷ []) in
    let b = length-append (map at w.later) [] in
    let c : length (joins_in e (l ∷ ys)) ≡ length (map at w.items) + in_joins w.blocks =
    ap in_joins w.alone ∙ length-append (map at w.items) (flat_map later_lines w.blocks) in
    let d : length (joins_in e (xs ++ l ∷ ys)) ≡ in_joins w.before + in_joins (whole ∷ map (moved_top n) w.blocks) =
    ap in_joins w.whole ∙ in_joins_behind w.before (whole ∷ map (moved_top n) w.blocks) in
    let f = length-append (map at (w.later ++ more)) (flat_map later_lines (map (moved_top n) w.blocks)) in
    let g = in_joins_moved n w.blocks in
    let h : length (map at (w.later ++ more)) ≡ length w.later + suc (length w.items) =
    map_length at (w.later ++ more) ∙ length-append w.later more ∙ ap (λ z. length w.later + suc z) (map_length (moved_item n) w.items) in
    let i = map_length at w.later in
    let k = map_length at w.items in
    omega (arith, a, b, c, d, f, g, h, i, k)

-- It begins a later item there where it does here.
pub joins_inside : (e : EntityTable) (xs : List BlockLine) (l : BlockLine) (ys : List BlockLine) (t : BlockLine) → joins_list xs l ≡ true →
    joins_list (xs ++ l ∷ ys) t ≡ joins_list (l ∷ ys) t
joins_inside e xs l ys t j =
    let A = xs ++ l ∷ ys in
    let B = l ∷ ys in
    let n = length (joins_in e xs) + length (joins_in e B) + 1 in
    let a = in_items e xs l ys j in
    let b = in_items e xs l (ys ++ t ∷ []) j in
    let c : length (joins_in e (xs ++ l ∷ (ys ++ t ∷ []))) ≡ in_number (joins_list A t) + length (joins_in e A) =
    ap (λ z. length (joins_in e z)) (sym (append_assoc xs B (t ∷ []))) ∙ ap length (joins_next e A t) ∙ in_join_count (joins_list A t) (length A) (joins_in e A) in
    let d : length (joins_in e (l ∷ (ys ++ t ∷ []))) ≡ in_number (joins_list B t) + length (joins_in e B) =
    ap length (joins_next e B t) ∙ in_join_count (joins_list B t) (length B) (joins_in e B) in
    in_same (joins_list A t) (joins_list B t) n (omega (arith, a, b, c, d))

-- ---- nesting

in_parts : (a b c : Bool) → (a && not b && c) ≡ true → (a ≡ true) × (b ≡ false)
in_parts true false c h = (refl, refl)
in_parts true true c h = absurd (let x : ⊥ = cc in x)
in_parts false b c h = absurd (let x : ⊥ = cc in x)

in_deep : (limit : ℕ) (xs : List BlockLine) (l : BlockLine) (ys : List BlockLine) → joins_list xs l ≡ true →
    deep_within limit (xs ++ l ∷ ys) ≡ option_or (deep_within limit xs) (moved_on (length xs) (deep_within limit (l ∷ ys)))
unfolding joins_behind
in_deep limit xs l ys j =
    let d = suc (visible_in (xs ++ l ∷ ys)) in
    let T = tip_within d in
    let t = (cut_by T xs).tail in
    let v = visible_append xs (l ∷ ys) in
    let w = in_parts (is_apart T t l) (is_blank_line l) (same_mark (tail_mark t) (list_mark (begun l))) (joins_deep d xs l (omega (arith, v)) ∙ j) in
    deep_apart limit xs l ys w.0 w.1

-- ---- one unit

in_single : (us : List FoundUnit) (last v : FoundUnit) → v ∷ [] ≡ us ++ last ∷ [] → (us ≡ []) × (v ≡ last)
in_single [] last v e = (refl, cc)
in_single (u ∷ []) last v e = absurd (let x : ⊥ = cc in x)
in_single (u ∷ t ∷ us) last v e = absurd (let x : ⊥ = cc in x)

in_last : (u : FoundUnit) (us : List FoundUnit) → without_last (u ∷ us) ≡ [] → us ≡ []
in_last u [] e = refl
in_last u (v ∷ us) e =
    let n : length (u ∷ v ∷ us) - 1 ≡ suc (length us) = omega arith in
    let t : u ∷ take (length us) (v ∷ us) ≡ [] = ap (λ z. take z (u ∷ v ∷ us)) (sym n) ∙ e in
    absurd (let x : ⊥ = cc in x)

in_none : (us : List FoundUnit) → IsOne (begins_in us) → without_last us ≡ []
in_none [] one = refl
in_none (u ∷ []) one = refl
in_none (u ∷ v ∷ us) one = absurd one

-- the lines from a later item on as one unit, and all of them
pub record OneInside (e : EntityTable) (xs : List BlockLine) (l : BlockLine) (ys : List BlockLine) : Type 0 where
  pub head : FoundUnit
  pub whole : FoundUnit
  pub alone : units_of e (l ∷ ys) ≡ head ∷ []
  pub both : units_of e (xs ++ l ∷ ys) ≡ whole ∷ []
  pub head_line : head.begin ≡ 0
  pub whole_line : whole.begin ≡ 0

pub one_inside : (e : EntityTable) (xs : List BlockLine) (l : BlockLine) (ys : List BlockLine) (v : FoundUnit) → units_of e xs ≡ v ∷ [] → v.begin ≡ 0 →
    joins_list xs l ≡ true → without_last (units_of e (l ∷ ys)) ≡ [] → OneInside e xs l ys
one_inside e xs l ys v is zero j none =
    let w = units_meet_inside e xs l ys j in
    let s = in_single w.us w.last v (sym is ∙ w.front) in
    let alone : w.vs ≡ [] = in_last w.head w.vs (ap without_last (sym w.alone) ∙ none) in
    record {
      head = w.head;
      whole = w.whole;
      alone = w.alone ∙ ap (λ z. w.head ∷ z) alone;
      both =
          w.both ∙ ap (λ z. z ++ w.whole ∷ map (shift_found (length xs)) w.vs) s.0 ∙ ap (λ z. w.whole ∷ map (shift_found (length xs)) z) alone;
      head_line = w.head_line;
      whole_line = w.first_line ∙ ap (λ (f : FoundUnit). f.begin) (sym s.1) ∙ zero;
    }

-- ---- an old list's later item

-- the lines before the base's later item, and that item's first line
pub record AtItem (e : EntityTable) (b : ListBase) (zs : List (List ℕ)) (l : List ℕ) : Type 0 where
  pub front : ListFront e (map document_line zs) (document_line l) b.list b.join
  pub line : (base_mark b).line ≡ length zs

pub at_item : (e : EntityTable) (b : ListBase) (zs : List (List ℕ)) (l : List ℕ) (ys : List (List ℕ)) → b.join < length b.list.marks →
    StandsForUnit e b.list (zs ++ l ∷ ys) → (base_mark b).line ≡ length zs → AtItem e b zs l
at_item e b zs l ys small stands line = record { front = front_of e b.join b.list l zs ys small stands line; line = line }

pub in_order : (e : EntityTable) (b : ListBase) (zs : List (List ℕ)) (l : List ℕ) → AtItem e b zs l →
    IsBehind 0 (items_positions (base_items b)) (base_mark b).texts
in_order e b zs l w =
    let f = w.front in
    let X = map document_line zs in
    let N = nodes_of_items f.first f.later in
    let positions : items_positions (base_items b) ≡ range_with_len 0 (texts_of N) = ap items_positions f.items ∙ items_placed_positions 0 N in
    let many : (base_mark b).texts ≡ texts_of N = ap (λ (m : ItemMark). m.texts) f.mark ∙ texts_before e X f.kind f.first f.later f.front in
    let end : 0 + texts_of N ≡ (base_mark b).texts = omega (arith, many) in
    subst (λ z. IsBehind 0 z (base_mark b).texts) (sym positions) (subst (IsBehind 0 (range_with_len 0 (texts_of N))) end (range_behind 0 (texts_of N)))

pub deep_inside : (limit : ℕ) (e : EntityTable) (b : ListBase) (zs : List (List ℕ)) (l : List ℕ) (own : List (List ℕ)) → AtItem e b zs l →
    first_too_deep limit (zs ++ l ∷ own) ≡ option_or (first_too_deep limit zs) (moved_on (length zs) (first_too_deep limit (l ∷ own)))
deep_inside limit e b zs l own w =
    let X = map document_line zs in
    let rest = deep_within limit (document_line l ∷ map document_line own) in
    ap (deep_within limit) (map-append document_line zs (l ∷ own))
    ∙ in_deep limit X (document_line l) (map document_line own) w.front.joins
    ∙ ap (λ z. option_or (deep_within limit X) (moved_on z rest)) (map_length document_line zs)

pub at_one : (e : EntityTable) (b : ListBase) (zs : List (List ℕ)) (l : List ℕ) (own : List (List ℕ)) → AtItem e b zs l → handed e (l ∷ own) ≡ [] →
    OneInside e (map document_line zs) (document_line l) (map document_line own)
at_one e b zs l own w none =
    let f = w.front in
    let X = map document_line zs in
    one_inside e X (document_line l) (map document_line own) _ (unit_of_list e X f.kind f.first f.later f.line f.front) refl f.joins
    (ap without_last (sym (document_units e (l ∷ own))) ∙ none)

-- Where the lines alone are one unit, all are.
pub still_inside : (e : EntityTable) (b : ListBase) (zs : List (List ℕ)) (l : List ℕ) (own : List (List ℕ)) → AtItem e b zs l → handed e (l ∷ own) ≡ [] →
    (handed e (zs ++ l ∷ own) ≡ []) × (open_begin e (zs ++ l ∷ own) ≡ Some 0) × (open_begin e (l ∷ own) ≡ Some 0)
still_inside e b zs l own w none =
    let o = at_one e b zs l own w none in
    let all : units e (zs ++ l ∷ own) ≡ o.whole ∷ [] = document_units e (zs ++ l ∷ own) ∙ ap (units_of e) (map-append document_line zs (l ∷ own)) ∙ o.both in
    let alone : units e (l ∷ own) ≡ o.head ∷ [] = document_units e (l ∷ own) ∙ o.alone in (
      ap without_last all,
      ap (λ z. last_of (begins_in z)) all ∙ ap (λ z. Some z) o.whole_line,
      ap (λ z. last_of (begins_in z)) alone ∙ ap (λ z. Some z) o.head_line,
    )

-- The line begins a later item behind those before it, and neither hands out a unit.
pub first_inside : (e : EntityTable) (b : ListBase) (zs : List (List ℕ)) (l : List ℕ) → AtItem e b zs l →
    (is_joined e (zs ++ l ∷ []) ≡ true) × (handed e (zs ++ l ∷ []) ≡ []) × (handed e (l ∷ []) ≡ [])
first_inside e b zs l w =
    let none : handed e (l ∷ []) ≡ [] =
    ap without_last (document_units e (l ∷ [])) ∙ in_none (units_of e (document_line l ∷ [])) (first_one e (document_line l)) in
    (joined_next e zs l ∙ w.front.joins, (still_inside e b zs l [] w none).0, none)

pub joined_inside : (e : EntityTable) (b : ListBase) (zs : List (List ℕ)) (l : List ℕ) (own : List (List ℕ)) (t : List ℕ) → AtItem e b zs l →
    is_joined e (zs ++ l ∷ (own ++ t ∷ [])) ≡ is_joined e (l ∷ (own ++ t ∷ []))
joined_inside e b zs l own t w =
    let X = map document_line zs in
    let L = document_line l in
    let T = document_line t in
    ap (is_joined e) (sym (append_assoc zs (l ∷ own) (t ∷ [])))
    ∙ joined_next e (zs ++ l ∷ own) t
    ∙ ap (λ z. joins_list z T) (map-append document_line zs (l ∷ own))
    ∙ joins_inside e X L (map document_line own) T w.front.joins
    ∙ sym (joined_next e (l ∷ own) t)
