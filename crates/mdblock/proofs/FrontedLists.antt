-- The items of an old list before one of its later items, and those of a list that was read from there on, are the list of all lines.
use Rattle.std.proofs.Common.{◌≡◌, ℕ, ◌+◌, ◌≤◌, Bool, true, false, List, [], ◌∷◌, ◌++◌, length, map, Option, Some, None, refl, sym, ◌∙◌, ap, subst, append_assoc, arith, length-append}
use Rattle.std.proofs.Math.Nat.{min-eq_left}
use Rattle.std.proofs.lemmas.List.{map-append}
use Rattle.std.specs.Option.{option_map}
use Rattle.std.specs.Prelude.{if◌then◌else◌}
use Rattle.mdtext.specs.EntityTable.{EntityTable}
use Rattle.blockspec.specs.BlockLine.{BlockLine, document_line, without_last}
use Rattle.blockspec.specs.BlockUnits.{units}
use Rattle.blockspec.specs.ItemMarks.{is_parted, list_marks, mark_behind}
use Rattle.blockspec.specs.Joins.{is_joined}
use Rattle.blockspec.specs.LineSummary.{summary_of}
use Rattle.blockspec.specs.Lists.{items_before}
use Rattle.blockspec.specs.Meetings.{gap_after, joins_list}
use Rattle.blockspec.specs.Nesting.{first_too_deep}
use Rattle.blockspec.specs.NodeTree.{definitions_in_items, texts_in_items}
use Rattle.blockspec.specs.TopBlocks.{is_tight_list, items_behind, nodes_of_items, top_blocks}
use Rattle.blockspec.specs.UnitBegin.{begins_unit, units_of}
use Rattle.blockspec.specs.UnitReader.{lines_held}
use Rattle.blockspec.specs.UnitTree.{FoundUnit, UnitTree}
use Rattle.blockspec.proofs.BeginLaws.{begins_in, begins_next}
use Rattle.blockspec.proofs.DocumentLaws.{document_units, map_length}
use Rattle.blockspec.proofs.HandedLaws.{front_is, front_next, front_units, held_next}
use Rattle.blockspec.proofs.ListsSpliced.{unit_of_list}
use Rattle.blockspec.proofs.LastJoins.{joined_next}
use Rattle.blockspec.proofs.MarkLines.{marks_more}
use Rattle.blockspec.proofs.UnitReaderLaws.{IsOne}
use Rattle.blockspec.proofs.UnitsMeet.{list_definitions, list_texts}
use Rattle.mdblock.specs.FoundLists.{FoundList, StandsForUnit}
use Rattle.mdblock.specs.Fronted.{ListBase, base_mark, fronted_list, fronted_marks}
use Rattle.mdblock.specs.Spliced.{IsFrontOf, IsListFront, front_unit, tight_list}
use Rattle.mdblock.specs.held.Following.{moved_held, moved_reading}
use Rattle.mdblock.specs.held.ReaderState.{ReaderState, UnitSoFar}
use Rattle.mdblock.specs.held.Reads.{HoldsUnit, Reads, StandsForHeld, handed, last_of, open_begin}
use Rattle.mdblock.proofs.FrontedUnits.{in_alone, in_few, in_marks, in_parted, in_small, in_together, in_unit}
use Rattle.mdblock.proofs.HeldMarks.{all_held, last_behind}
use Rattle.mdblock.proofs.InsideLists.{AtItem, at_one, begins_inside, joined_inside, joins_inside, still_inside}
use Rattle.mdblock.proofs.ResumedLists.{ListFront}
use Rattle.mdblock.proofs.SplicedLines.{begins_none, of_lines, to_lines}
use Rattle.mdblock.proofs.SplicedLists.{definitions_before, found_at, front_is as spliced_front_is, nodes_together, one_unit, same_found, texts_before}
use Rattle.mdblock.proofs.SplicedMarks.{AreSmall, list_small, list_tight, most}
use Rattle.mdblock.proofs.SplicedUnits.{definitions_of, list_unit, texts_of}

-- The lines, texts and definitions of both can be counted together.
pub record Sizes (b : ListBase) (f : FoundList) : Type 0 where
  pub lines : (base_mark b).line + f.lines ≤ most
  pub texts : length b.list.unit.texts + length f.unit.texts ≤ most
  pub definitions : length b.list.unit.definitions + length f.unit.definitions ≤ most

-- ---- the line that ends the one unit

-- what lines that are one unit hand out with one line more
in_over : (e : EntityTable) (xs : List BlockLine) (t : BlockLine) (v : FoundUnit) → units_of e xs ≡ v ∷ [] → v.begin ≡ 0 →
    without_last (units_of e (xs ++ t ∷ [])) ≡ (if begins_unit xs t then units_of e xs else [])
in_over e xs t v is zero =
    front_is e (xs ++ t ∷ [])
    ∙ front_next e [] xs t
    ∙ ap (λ z. if begins_unit z t then units_of e xs else front_units e [] xs) (all_held e xs v is zero)
    ∙ ap (λ z. if begins_unit xs t then units_of e xs else z) (sym (front_is e xs) ∙ ap without_last is)

in_begun : (b : Bool) (us : List FoundUnit) (u : FoundUnit) → (if b then us else []) ≡ u ∷ [] → b ≡ true
in_begun true us u e = refl
in_begun false us u e = absurd (let x : ⊥ = cc in x)

in_lines : (ls : List (List ℕ)) (t : List ℕ) → map document_line (ls ++ t ∷ []) ≡ map document_line ls ++ document_line t ∷ []
in_lines ls t = map-append document_line ls (t ∷ [])

-- it begins a unit, and so it alone is held
record Ends (e : EntityTable) (ls : List (List ℕ)) (t : List ℕ) : Type 0 where
  pub begins : begins_unit (map document_line ls) (document_line t) ≡ true
  pub handed : handed e (ls ++ t ∷ []) ≡ units e ls
  pub begin : open_begin e (ls ++ t ∷ []) ≡ Some (length ls)
  pub held : lines_held [] (map document_line (ls ++ t ∷ [])) ≡ document_line t ∷ []

in_ends : (e : EntityTable) (ls : List (List ℕ)) (t : List ℕ) (v : FoundUnit) →
    (let xs = map document_line ls in units_of e xs ≡ v ∷ [] → v.begin ≡ 0 → begins_unit xs (document_line t) ≡ true → Ends e ls t)
in_ends e ls t v is zero b =
    let xs = map document_line ls in
    let T = document_line t in
    record {
      begins = b;
      handed =
          ap without_last (document_units e (ls ++ t ∷ []) ∙ ap (units_of e) (in_lines ls t))
          ∙ in_over e xs T v is zero
          ∙ ap (λ z. if z then units_of e xs else []) b
          ∙ sym (document_units e ls);
      begin =
          ap (λ z. last_of (begins_in z)) (document_units e (ls ++ t ∷ []) ∙ ap (units_of e) (in_lines ls t))
          ∙ ap last_of (begins_next e xs T)
          ∙ ap (λ z. last_of (if z then begins_in (units_of e xs) ++ length xs ∷ [] else begins_in (units_of e xs))) b
          ∙ last_behind (begins_in (units_of e xs)) (length xs)
          ∙ ap (λ z. Some z) (map_length document_line ls);
      held =
          ap (lines_held []) (in_lines ls t)
          ∙ held_next [] xs T
          ∙ ap (λ z. if begins_unit z T then T ∷ [] else lines_held [] xs ++ T ∷ []) (all_held e xs v is zero)
          ∙ ap (λ z. if z then T ∷ [] else lines_held [] xs ++ T ∷ []) b;
    }

-- both behind the lines alone and behind all
record EndsBoth (e : EntityTable) (zs : List (List ℕ)) (l : List ℕ) (own : List (List ℕ)) (t : List ℕ) : Type 0 where
  pub alone : Ends e (l ∷ own) t
  pub all : Ends e (zs ++ l ∷ own) t

ends_both : (e : EntityTable) (b : ListBase) (zs : List (List ℕ)) (l : List ℕ) (own : List (List ℕ)) (t : List ℕ) (u : FoundUnit) → AtItem e b zs l →
    handed e (l ∷ own) ≡ [] → handed e (l ∷ (own ++ t ∷ [])) ≡ u ∷ [] → EndsBoth e zs l own t
ends_both e b zs l own t u w none over =
    let o = at_one e b zs l own w none in
    let X = map document_line zs in
    let L = document_line l in
    let Y = map document_line own in
    let T = document_line t in
    let begins : begins_unit (L ∷ Y) T ≡ true = in_begun (begins_unit (L ∷ Y) T) (units_of e (L ∷ Y)) u
    (sym (in_over e (L ∷ Y) T o.head o.alone o.head_line)
    ∙ sym (ap without_last (document_units e (l ∷ (own ++ t ∷ [])) ∙ ap (units_of e) (in_lines (l ∷ own) t)))
    ∙ over) in
    let all : units_of e (map document_line (zs ++ l ∷ own)) ≡ o.whole ∷ [] = ap (units_of e) (map-append document_line zs (l ∷ own)) ∙ o.both in
    let begins_all : begins_unit (map document_line (zs ++ l ∷ own)) T ≡ true =
    ap (λ z. begins_unit z T) (map-append document_line zs (l ∷ own)) ∙ begins_inside e X L Y T w.front.joins ∙ begins in
    record { alone = in_ends e (l ∷ own) t o.head o.alone o.head_line begins; all = in_ends e (zs ++ l ∷ own) t o.whole all o.whole_line begins_all }

-- Where a line hands out the one unit of the lines alone, it hands out that of all lines.
pub over_inside : (e : EntityTable) (b : ListBase) (zs : List (List ℕ)) (l : List ℕ) (own : List (List ℕ)) (t : List ℕ) (u : FoundUnit) → AtItem e b zs l →
    handed e (l ∷ own) ≡ [] → handed e (l ∷ (own ++ t ∷ [])) ≡ u ∷ [] → handed e (zs ++ l ∷ (own ++ t ∷ [])) ≡ units e (zs ++ l ∷ own)
over_inside e b zs l own t u w none over =
    ap (handed e) (sym (append_assoc zs (l ∷ own) (t ∷ []))) ∙ (ends_both e b zs l own t u w none over).all.handed

-- what is held then is the line's alone
in_held : (e : EntityTable) (n : ℕ) (alone all : List (List ℕ)) (x y : ℕ) (H : List BlockLine) → open_begin e alone ≡ Some x → open_begin e all ≡ Some y →
    n + x ≡ y →
    is_joined e all ≡ is_joined e alone → lines_held [] (map document_line alone) ≡ H → lines_held [] (map document_line all) ≡ H →
    (held : Option UnitSoFar) → HoldsUnit e held alone → HoldsUnit e (option_map (moved_held n) held) all
in_held e n alone all x y H at at_all moved joined is all_is None w = absurd w
in_held e n alone all x y H at at_all moved joined is all_is (Some held) w =
    let same : lines_held [] (map document_line alone) ≡ lines_held [] (map document_line all) = is ∙ sym all_is in (
      ap (option_map (λ z. n + z)) (w.0 ∙ at) ∙ ap (λ z. Some z) moved ∙ sym at_all,
      w.1 ∙ sym joined,
      w.2 ∙ ap (list_marks e) same,
      subst (λ z. StandsForHeld e held (summary_of e z)) same w.3,
    )

-- and it is the same behind all lines
pub reads_behind : (limit : ℕ) (e : EntityTable) (b : ListBase) (zs : List (List ℕ)) (l : List ℕ) (own : List (List ℕ)) (t : List ℕ) (u : FoundUnit)
    (r : ReaderState) →
    AtItem e b zs l → first_too_deep limit (zs ++ l ∷ (own ++ t ∷ [])) ≡ None → handed e (l ∷ own) ≡ [] → handed e (l ∷ (own ++ t ∷ [])) ≡ u ∷ [] →
    Reads limit e r (l ∷ (own ++ t ∷ [])) → Reads limit e (moved_reading (length zs) r) (zs ++ l ∷ (own ++ t ∷ []))
unfolding Reads
reads_behind limit e b zs l own t u r w shallow none over reads =
    let n = length zs in
    let alone = l ∷ (own ++ t ∷ []) in
    let both = ends_both e b zs l own t u w none over in
    let all : zs ++ alone ≡ (zs ++ l ∷ own) ++ t ∷ [] = sym (append_assoc zs (l ∷ own) (t ∷ [])) in
    let size : length (zs ++ alone) ≡ n + length alone = length-append zs alone in
    let moved : n + length (l ∷ own) ≡ length (zs ++ l ∷ own) = sym (length-append zs (l ∷ own)) in (
      reads.0,
      reads.1,
      ap (λ z. n + z) reads.2 ∙ sym size,
      shallow,
      in_held e n alone (zs ++ alone) (length (l ∷ own)) (length (zs ++ l ∷ own)) (document_line t ∷ []) both.alone.begin (ap (open_begin e) all ∙ both.all.begin) moved
          (joined_inside e b zs l own t w) both.alone.held (ap (λ z. lines_held [] (map document_line z)) all ∙ both.all.held) r.held reads.4,
    )

-- ---- the list of all lines

pub list_ended : (e : EntityTable) (b : ListBase) (zs : List (List ℕ)) (l : List ℕ) (own : List (List ℕ)) (f : FoundList) → AtItem e b zs l →
    StandsForUnit e f (l ∷ own) → Sizes b f → StandsForUnit e (fronted_list b f) (zs ++ l ∷ own)
list_ended e b zs l own f w stands fits =
    let X = map document_line zs in
    let L = document_line l in
    let Y = map document_line own in
    let A = X ++ L ∷ Y in
    let g = w.front in
    let known = to_lines e f (l ∷ own) (L ∷ Y) refl stands in
    let m = in_together e X L Y b.list b.join g (one_unit (units_of e (L ∷ Y)) f.lines f.unit known.0) in
    let N = nodes_of_items g.first g.later in
    let M = nodes_of_items m.item m.items in
    let all = g.later ++ items_behind (gap_after X) (length X) m.item m.items in
    let nodes : nodes_of_items g.first all ≡ items_before N M = nodes_together g.kind g.first g.later (gap_after X) (length X) m.item m.items in
    let t = is_tight_list m.item m.items in
    let own_is = same_found f.lines (length (L ∷ Y)) f.unit (list_unit m.other t M) (sym known.0 ∙ unit_of_list e (L ∷ Y) m.other m.item m.items m.line m.alone) in
    let lines : (base_mark b).line + f.lines ≡ length A =
    ap (λ z. z + f.lines) (w.line ∙ sym (map_length document_line zs)) ∙ ap (λ z. length X + z) own_is.0 ∙ sym (length-append X (L ∷ Y)) in
    let texts : length f.unit.texts ≡ texts_of M = ap (λ (u : UnitTree). length u.texts) own_is.1 ∙ ap length (list_texts m.other t M) in
    let definitions : length f.unit.definitions ≡ definitions_of M =
    ap (λ (u : UnitTree). length u.definitions) own_is.1 ∙ ap length (list_definitions m.other t M) in
    let few = in_few e X L Y b g m (subst (λ z. length b.list.unit.texts + z ≤ most) texts fits.texts) (subst (λ z. length b.list.unit.definitions + z ≤ most) definitions fits.definitions) in
    let small = list_small e A g.kind g.first all m.whole (subst (λ z. z ≤ most) lines fits.lines) few.0 few.1 in
    let marks : fronted_marks b f.marks ≡ list_marks e A = in_marks e X L Y b g f.marks m known.1 small in
    let parted : f.parted ≡ is_parted (top_blocks e A) = known.2 ∙ in_parted e X L Y g.kind g.first g.later m in
    let tight = tight_list f.parted (fronted_marks b f.marks) in
    let tightness : tight ≡ is_tight_list g.first all =
    ap (λ z. tight_list f.parted z) marks ∙ ap (λ z. tight_list z (list_marks e A)) parted ∙ sym (list_tight e A g.kind g.first all m.whole) in
    let unit : (fronted_list b f).unit ≡ list_unit g.kind tight (items_before N M) =
    in_unit tight e X L b g f.unit m.other t M [] [] (own_is.1 ∙ in_alone m.other t M) ∙ sym (in_alone g.kind tight (items_before N M)) in
    of_lines e (fronted_list b f) (zs ++ l ∷ own) A (map-append document_line zs (l ∷ own)) (
      unit_of_list e A g.kind g.first all g.line m.whole
          ∙ ap (λ z. found_at (length A) (list_unit g.kind (is_tight_list g.first all) z) ∷ []) nodes
          ∙ ap (λ z. found_at (length A) (list_unit g.kind z (items_before N M)) ∷ []) (sym tightness)
          ∙ ap (λ z. found_at (length A) z ∷ []) (sym unit)
          ∙ ap (λ z. found_at z (fronted_list b f).unit ∷ []) (sym (min-eq_left fits.lines ∙ lines)),
      marks,
      parted,
    )

-- ---- its items before one that begins in the last line

-- where that line begins none, no unit is over behind it
in_goes : (e : EntityTable) (ls : List (List ℕ)) (t : List ℕ) (v : FoundUnit) →
    (let xs = map document_line ls in units_of e xs ≡ v ∷ [] → v.begin ≡ 0 → joins_list xs (document_line t) ≡ true → handed e (ls ++ t ∷ []) ≡ [])
in_goes e ls t v is zero j =
    let xs = map document_line ls in
    let T = document_line t in
    ap without_last (document_units e (ls ++ t ∷ []) ∙ ap (units_of e) (in_lines ls t))
    ∙ in_over e xs T v is zero
    ∙ ap (λ z. if z then units_of e xs else []) (begins_none xs T j)

-- of lines and one more the items before it, where the lines are one list
abbrev InFront : EntityTable → FoundList → List BlockLine → BlockLine → Type 0
InFront e front held t = (front.lines ≡ length (held ++ t ∷ [])) × (front.marks ≡ list_marks e (held ++ t ∷ [])) × IsListFront e front.unit held

in_front : (e : EntityTable) (xs : List BlockLine) (l : BlockLine) (ys : List BlockLine) (t : BlockLine) (b : ListBase) (part : FoundList)
    (g : ListFront e xs l b.list b.join) →
    (base_mark b).line ≡ length xs → IsOne (begins_in (units_of e (l ∷ ys))) → IsOne (begins_in (units_of e (l ∷ (ys ++ t ∷ [])))) →
    IsOne (begins_in (units_of e (xs ++ l ∷ ys))) →
    joins_list (xs ++ l ∷ ys) t ≡ true → InFront e part (l ∷ ys) t → Sizes b part → InFront e (fronted_list b part) (xs ++ l ∷ ys) t
in_front e xs l ys t b part g at one more_one all_one joins w fits =
    let A = xs ++ l ∷ ys in
    let m = in_together e xs l ys b.list b.join g one in
    let more = in_together e xs l (ys ++ t ∷ []) b.list b.join g more_one in
    let N = nodes_of_items g.first g.later in
    let M = nodes_of_items m.item m.items in
    let all = g.later ++ items_behind (gap_after xs) (length xs) m.item m.items in
    let nodes : nodes_of_items g.first all ≡ items_before N M = nodes_together g.kind g.first g.later (gap_after xs) (length xs) m.item m.items in
    let own = w.2 in
    let unit = spliced_front_is e part.unit (l ∷ ys) m.other m.item m.items m.alone own in
    let together : A ++ t ∷ [] ≡ xs ++ l ∷ (ys ++ t ∷ []) = append_assoc xs (l ∷ ys) (t ∷ []) in
    let lines : (base_mark b).line + part.lines ≡ length (A ++ t ∷ []) =
    ap (λ z. z + part.lines) at ∙ ap (λ z. length xs + z) w.0 ∙ sym (ap length together ∙ length-append xs (l ∷ (ys ++ t ∷ []))) in
    let size : length (A ++ t ∷ []) ≡ length A + 1 = length-append A (t ∷ []) in
    let texts : length part.unit.texts ≡ texts_of M + length own.texts =
    ap (λ (u : UnitTree). length u.texts) unit ∙ length-append (texts_in_items M) own.texts in
    let definitions : length part.unit.definitions ≡ definitions_of M + length own.definitions =
    ap (λ (u : UnitTree). length u.definitions) unit ∙ length-append (definitions_in_items M) own.definitions in
    let room = fits.lines in
    let texts_fit = fits.texts in
    let definitions_fit = fits.definitions in
    let few = in_few e xs l ys b g m (omega (arith, texts, texts_fit)) (omega (arith, definitions, definitions_fit)) in
    let within : length A ≤ most = omega (arith, room, lines, size) in
    let mark = mark_behind e A in
    let texts_small : mark.texts ≤ most = subst (λ z. z ≤ most) (sym (texts_before e A g.kind g.first all m.whole)) few.0 in
    let definitions_small : mark.definitions ≤ most = subst (λ z. z ≤ most) (sym (definitions_before e A g.kind g.first all m.whole)) few.1 in
    let small : AreSmall (list_marks e (xs ++ l ∷ (ys ++ t ∷ []))) = subst AreSmall (sym (ap (list_marks e) (sym together) ∙ marks_more e A t all_one joins))
    (in_small (list_marks e A) mark (list_small e A g.kind g.first all m.whole within few.0 few.1) (within, texts_small, definitions_small)) in
    let marks : fronted_marks b part.marks ≡ list_marks e (A ++ t ∷ []) =
    in_marks e xs l (ys ++ t ∷ []) b g part.marks more w.1 small ∙ ap (list_marks e) (sym together) in
    let tight = tight_list part.parted (fronted_marks b part.marks) in (
      min-eq_left room ∙ lines,
      marks,
      record {
        kind = g.kind;
        first = g.first;
        later = all;
        tight = tight;
        definitions = own.definitions;
        texts = [];
        top = m.whole;
        is =
            in_unit tight e xs l b g part.unit m.other own.tight M own.definitions own.texts unit
            ∙ ap (λ z. front_unit g.kind tight z own.definitions []) (sym nodes);
      },
    )

pub front_inside : (e : EntityTable) (b : ListBase) (zs : List (List ℕ)) (l : List ℕ) (own : List (List ℕ)) (t : List ℕ) (part : FoundList) → AtItem e b zs l →
    handed e (l ∷ own) ≡ [] → is_joined e (l ∷ (own ++ t ∷ [])) ≡ true → IsFrontOf e part (l ∷ own) t → Sizes b part →
    IsFrontOf e (fronted_list b part) (zs ++ l ∷ own) t
front_inside e b zs l own t part w none joins front fits =
    let o = at_one e b zs l own w none in
    let X = map document_line zs in
    let L = document_line l in
    let Y = map document_line own in
    let T = document_line t in
    let j : joins_list (L ∷ Y) T ≡ true = sym (joined_next e (l ∷ own) t) ∙ joins in
    let goes : handed e (l ∷ (own ++ t ∷ [])) ≡ [] = in_goes e (l ∷ own) t o.head o.alone o.head_line j in
    let more = at_one e b zs l (own ++ t ∷ []) w goes in
    let one : IsOne (begins_in (units_of e (L ∷ Y))) = subst (λ z. IsOne (begins_in z)) (sym o.alone) o.head_line in
    let all_one : IsOne (begins_in (units_of e (X ++ L ∷ Y))) = subst (λ z. IsOne (begins_in z)) (sym o.both) o.whole_line in
    let more_one : IsOne (begins_in (units_of e (L ∷ (Y ++ T ∷ [])))) =
    subst (λ z. IsOne (begins_in (units_of e (L ∷ z)))) (in_lines own t) (subst (λ z. IsOne (begins_in z)) (sym more.alone) more.head_line) in
    let alone : lines_held [] (L ∷ Y) ≡ L ∷ Y = all_held e (L ∷ Y) o.head o.alone o.head_line in
    let all : lines_held [] (map document_line (zs ++ l ∷ own)) ≡ X ++ L ∷ Y =
    ap (lines_held []) (map-append document_line zs (l ∷ own)) ∙ all_held e (X ++ L ∷ Y) o.whole o.both o.whole_line in
    let own_front : InFront e part (L ∷ Y) T = subst (λ z. InFront e part z T) alone (front.1, front.2, front.3) in
    let f = subst (λ z. InFront e (fronted_list b part) z T) (sym all)
    (in_front e X L Y T b part w.front (w.line ∙ sym (map_length document_line zs)) one more_one all_one (joins_inside e X L Y T w.front.joins ∙ j) own_front fits) in
    (ap (open_begin e) (append_assoc zs (l ∷ own) (t ∷ [])) ∙ (still_inside e b zs l (own ++ t ∷ []) w goes).1, f.0, f.1, f.2)
