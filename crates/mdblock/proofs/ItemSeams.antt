-- What a reader that may begin at a later item holds, and an old list from a later item on: one list of the lines of both.
use Rattle.std.proofs.Common.{◌≡◌, ℕ, ◌+◌, ◌-◌, ◌≤◌, ◌<◌, true, List, [], ◌∷◌, ◌++◌, length, map, Some, None, refl, sym, ◌∙◌, ap, subst, append_assoc, arith, length-append}
use Rattle.std.proofs.Math.Nat.{min-le_left}
use Rattle.std.specs.Prelude.{Bool, false, if◌then◌else◌, IfSome, Option}
use Rattle.mdtext.specs.EntityTable.{EntityTable}
use Rattle.blockspec.specs.BlockLine.{BlockLine, document_line, without_last}
use Rattle.blockspec.specs.BlockUnits.{units}
use Rattle.blockspec.specs.Joins.{is_joined}
use Rattle.blockspec.specs.LineSummary.{begins_after, summary_of}
use Rattle.blockspec.specs.Lists.{items_before}
use Rattle.blockspec.specs.NodeTree.{definitions_in_items, texts_in_items}
use Rattle.blockspec.specs.Stretches.{all_of, cut_from}
use Rattle.blockspec.specs.TopBlocks.{ItemList, nodes_of_items, tops_of}
use Rattle.blockspec.specs.UnitReader.{lines_held}
use Rattle.blockspec.specs.UnitTree.{UnitTree}
use Rattle.blockspec.proofs.UnitsMeet.{definitions_together, texts_together}
use Rattle.mdblock.specs.FoundLists.{FoundList}
use Rattle.mdblock.specs.Fronted.{IsInOrder, ListBase, base_mark, behind_base, fronted_list, lines_staying}
use Rattle.mdblock.specs.Insets.{MayFit}
use Rattle.mdblock.specs.Seams.{IsSplicedIn}
use Rattle.mdblock.specs.Spliced.{IsFrontOf, IsListFront, mark_at, spliced_list, tight_list}
use Rattle.mdblock.specs.held.Following.{Follows, IsInside, MeetsIn}
use Rattle.mdblock.specs.held.ReaderState.{ReaderState, held_joined}
use Rattle.mdblock.specs.held.Reads.{Reads, handed}
use Rattle.mdblock.proofs.FrontedLists.{front_inside}
use Rattle.mdblock.proofs.FrontedUnits.{in_unit}
use Rattle.mdblock.proofs.InsetFits.{fits_behind}
use Rattle.mdblock.proofs.InsideLists.{AtItem, at_item, in_order, joined_inside}
use Rattle.mdblock.proofs.ItemLines.{follows_inside, follows_plain, last_line}
use Rattle.mdblock.proofs.NextLineLaws.{handed_next}
use Rattle.mdblock.proofs.SplicedLines.{if_joined, spliced_behind}
use Rattle.mdblock.proofs.SplicedLists.{AreFew}
use Rattle.mdblock.proofs.SplicedMarks.{most}
use Rattle.mdblock.proofs.SplicedUnits.{definitions_of, texts_of}

-- ---- lists of lines

-- both end in the same line
same_last : (xs ys : List (List ℕ)) (a b : List ℕ) → xs ++ a ∷ [] ≡ ys ++ b ∷ [] → (xs ≡ ys) × (a ≡ b)
same_last [] [] a b e = let same : a ≡ b = cc in (refl, same)
same_last [] (y ∷ ys) a b e = absurd (none ys (let rest : [] ≡ ys ++ b ∷ [] = cc in rest))
  where
    none : (ys : List (List ℕ)) → [] ≡ ys ++ b ∷ [] → ⊥
    none [] e = let x : ⊥ = cc in x
    none (z ∷ zs) e = let x : ⊥ = cc in x
same_last (x ∷ xs) [] a b e = absurd (none xs (let rest : xs ++ a ∷ [] ≡ [] = cc in rest))
  where
    none : (xs : List (List ℕ)) → xs ++ a ∷ [] ≡ [] → ⊥
    none [] e = let x : ⊥ = cc in x
    none (z ∷ zs) e = let x : ⊥ = cc in x
same_last (x ∷ xs) (y ∷ ys) a b e =
    let first : x ≡ y = cc in
    let rest : xs ++ a ∷ [] ≡ ys ++ b ∷ [] = cc in
    let r = same_last xs ys a b rest in
    (ap (λ z. z ∷ xs) first ∙ ap (λ z. y ∷ z) r.0, r.1)

-- lines before which nothing is handed out hand out nothing before their last one
at_before : (e : EntityTable) (ls : List (List ℕ)) (t : List ℕ) → handed e (ls ++ t ∷ []) ≡ [] → handed e ls ≡ []
at_before e ls t none = go (begins_after (summary_of e (lines_held [] (map document_line ls))) (document_line t)) (sym (handed_next e ls t) ∙ none)
  where
    go : (x : Bool) → (if x then units e ls else handed e ls) ≡ [] → handed e ls ≡ []
    go true is = ap without_last is
    go false is = is

-- no list is in front of the first line
none_front : (e : EntityTable) (front : FoundList) (l : List ℕ) → IsFrontOf e front [] l → ⊥
unfolding cut_from all_of tops_of lines_held
none_front e front l w = let f = w.3 in let top : [] ≡ ItemList f.kind f.first f.later ∷ [] = f.top in let x : ⊥ = cc in x

-- ---- the front

-- the texts and definitions of a base and of what was read behind it are no more than both have
at_few : (e : EntityTable) (b : ListBase) (zs : List (List ℕ)) (l : List ℕ) (part : FoundList) (held : List BlockLine) → AtItem e b zs l → IsListFront e part.unit held →
    (let all = (fronted_list b part).unit in
    (length all.texts ≤ length b.list.unit.texts + length part.unit.texts) × (length all.definitions ≤ length b.list.unit.definitions + length part.unit.definitions))
at_few e b zs l part held w i =
    let g = w.front in
    let N = nodes_of_items g.first g.later in
    let M = nodes_of_items i.first i.later in
    let all = (fronted_list b part).unit in
    let tight = tight_list part.parted (fronted_list b part).marks in
    let both = in_unit tight e (map document_line zs) (document_line l) b g part.unit i.kind i.tight M i.definitions i.texts i.is in
    let texts : length all.texts ≡ texts_of N + texts_of M + 0 =
    ap (λ (u : UnitTree). length u.texts) both
    ∙ length-append (texts_in_items (items_before N M)) []
    ∙ ap (λ z. z + 0) (ap length (texts_together N M) ∙ length-append (texts_in_items N) (texts_in_items M)) in
    let definitions : length all.definitions ≡ definitions_of N + definitions_of M + length i.definitions =
    ap (λ (u : UnitTree). length u.definitions) both
    ∙ length-append (definitions_in_items (items_before N M)) i.definitions
    ∙ ap (λ z. z + length i.definitions) (ap length (definitions_together N M) ∙ length-append (definitions_in_items N) (definitions_in_items M)) in
    let part_texts : length part.unit.texts ≡ texts_of M + length i.texts = ap (λ (u : UnitTree). length u.texts) i.is ∙ length-append (texts_in_items M) i.texts in
    let part_definitions : length part.unit.definitions ≡ definitions_of M + length i.definitions =
    ap (λ (u : UnitTree). length u.definitions) i.is ∙ length-append (definitions_in_items M) i.definitions in
    let few = g.few_texts in
    let few_too = g.few_definitions in
    (omega (arith, texts, part_texts, few), omega (arith, definitions, part_definitions, few_too))

-- All that three lists have can be counted.
abbrev pub CountsAll : (base part old : UnitTree) → Type 0
CountsAll base part old =
    (length base.texts + length part.texts + length old.texts ≤ most) × (length base.definitions + length part.definitions + length old.definitions ≤ most)

-- what a reader holds in front of a line that begins a later item
abbrev pub TakesFront : ReaderState → FoundList → Type 0
TakesFront r part = (limit : ℕ) (e : EntityTable) (xs : List (List ℕ)) (l : List ℕ) → Reads limit e r (xs ++ l ∷ []) → IsFrontOf e part xs l

record Fronts (e : EntityTable) (list : FoundList) (old : UnitTree) (xs : List (List ℕ)) (l : List ℕ) : Type 0 where
  pub joined : is_joined e (xs ++ l ∷ []) ≡ true
  pub front : IsFrontOf e list xs l
  pub few : AreFew list.unit old

-- a line was read behind the one that reading began with
at_some : (limit : ℕ) (e : EntityTable) (r : ReaderState) (part : FoundList) (l : List ℕ) (own : List (List ℕ)) → TakesFront r part → Reads limit e r (l ∷ own) → 1 ≤ length own
at_some limit e r part l [] front reads = absurd (none_front e part l (front limit e [] l reads))
at_some limit e r part l (t ∷ own) front reads = omega arith

fronts_inside : (limit : ℕ) (e : EntityTable) (b : ListBase) (r : ReaderState) (part : FoundList) (old : UnitTree) (xs : List (List ℕ)) (l : List ℕ) → held_joined r.held ≡ true → TakesFront r part → part.lines ≤ r.fed →
    (base_mark b).line + r.fed ≤ most → CountsAll b.list.unit part.unit old → IsInside limit e b r (xs ++ l ∷ []) → Fronts e (fronted_list b part) old xs l
fronts_inside limit e b r part old xs l joined front lines room counts w =
    let at : AtItem e b w.zs w.l = at_item e b w.zs w.l w.ys w.within w.stands w.line in
    let t = last_line w.own (at_some limit e r part w.l w.own front w.reads) in
    let own = w.l ∷ t.front in
    let reads : Reads limit e r (own ++ t.last ∷ []) = subst (λ z. Reads limit e r (w.l ∷ z)) t.is w.reads in
    let none : handed e (own ++ t.last ∷ []) ≡ [] = ap (λ z. handed e (w.l ∷ z)) (sym t.is) ∙ w.none in
    let f = front limit e own t.last reads in
    let j : is_joined e (own ++ t.last ∷ []) ≡ true = if_joined limit e r (own ++ t.last ∷ []) joined reads in
    let all : xs ++ l ∷ [] ≡ w.zs ++ w.l ∷ (t.front ++ t.last ∷ []) = w.is ∙ ap (λ z. w.zs ++ w.l ∷ z) t.is in
    let same = same_last xs (w.zs ++ own) l t.last (all ∙ sym (append_assoc w.zs own (t.last ∷ []))) in
    let few = at_few e b w.zs w.l part (lines_held [] (map document_line own)) at f.3 in
    let few_texts = few.0 in
    let few_definitions = few.1 in
    let texts = counts.0 in
    let definitions = counts.1 in
    let fits : (base_mark b).line + part.lines ≤ most = omega (arith, lines, room) in
    let whole = front_inside e b w.zs w.l t.front t.last part at (at_before e own t.last none) j f
    (record { lines = fits; texts = omega (arith, texts); definitions = omega (arith, definitions) }) in
    record {
      joined = ap (is_joined e) all ∙ joined_inside e b w.zs w.l t.front t.last at ∙ j;
      front = subst (λ z. IsFrontOf e (fronted_list b part) xs z) (sym same.1) (subst (λ z. IsFrontOf e (fronted_list b part) z t.last) (sym same.0) whole);
      few = record { texts = omega (arith, texts, few_texts); definitions = omega (arith, definitions, few_definitions) };
    }

-- of either reader
fronts_in : (limit : ℕ) (e : EntityTable) (base : Option ListBase) (r : ReaderState) (part : FoundList) (old : UnitTree) (xs : List (List ℕ)) (l : List ℕ) → held_joined r.held ≡ true → TakesFront r part → part.lines ≤ r.fed →
    lines_staying base + r.fed ≤ most → AreFew part.unit old → IfSome base (λ b. CountsAll b.list.unit part.unit old) → Follows limit e (record { base = base; reading = r }) (xs ++ l ∷ []) →
    Fronts e (behind_base base part) old xs l
fronts_in limit e None r part old xs l joined front lines room few counts w =
    let reads = follows_plain limit e None r (xs ++ l ∷ []) refl w in
    record { joined = if_joined limit e r (xs ++ l ∷ []) joined reads; front = front limit e xs l reads; few = few }
fronts_in limit e (Some b) r part old xs l joined front lines room few counts w =
    fronts_inside limit e b r part old xs l joined front lines room counts (follows_inside limit e (Some b) b r (xs ++ l ∷ []) refl w)

-- it has no more lines than were read or stay
front_lines : (base : Option ListBase) (part : FoundList) (fed : ℕ) → part.lines ≤ fed → (behind_base base part).lines ≤ lines_staying base + fed
front_lines None part fed lines = omega (arith, lines)
front_lines (Some b) part fed lines = let m = min-le_left ((base_mark b).line + part.lines) most in omega (arith, lines, m)

order_in : (limit : ℕ) (e : EntityTable) (base : Option ListBase) (r : ReaderState) (ls : List (List ℕ)) → Follows limit e (record { base = base; reading = r }) ls → IsInOrder base
order_in limit e None r ls w = tt
order_in limit e (Some b) r ls w =
    let v = follows_inside limit e (Some b) b r ls refl w in
    in_order e b v.zs v.l (at_item e b v.zs v.l v.ys v.within v.stands v.line)

-- ---- the answers

pub spliced_in : (base : Option ListBase) (r : ReaderState) (part old : FoundList) (k : ℕ) → held_joined r.held ≡ true → k < length old.marks → lines_staying base + r.fed + (old.lines - (mark_at old.marks k).line - 1) ≤ most →
    part.lines ≤ r.fed → TakesFront r part → AreFew part.unit old.unit → IfSome base (λ b. CountsAll b.list.unit part.unit old.unit) →
    IsSplicedIn (record { base = base; reading = r }) old k (spliced_list (behind_base base part) old k)
spliced_in base r part old k joined small fits lines front few counts limit e xs l zs ys m =
    let f = fronts_in limit e base r part old.unit xs l joined front lines (omega (arith, fits)) few counts m.0 in
    let size = front_lines base part r.fed lines in
    spliced_behind e (behind_base base part) old k xs l zs ys f.joined f.front small m.1 m.2 (omega (arith, fits, size)) f.few

pub fits_in : (base : Option ListBase) (r : ReaderState) (part old : FoundList) (k : ℕ) → held_joined r.held ≡ true → k < length old.marks → lines_staying base + r.fed + (old.lines - (mark_at old.marks k).line - 1) ≤ most →
    part.lines ≤ r.fed → TakesFront r part → AreFew part.unit old.unit → IfSome base (λ b. CountsAll b.list.unit part.unit old.unit) →
    (limit : ℕ) (e : EntityTable) (xs : List (List ℕ)) (l : List ℕ) (zs ys : List (List ℕ)) → MeetsIn limit e (record { base = base; reading = r }) old k xs l zs ys →
    MayFit (behind_base base part) old k × IsInOrder base
fits_in base r part old k joined small fits lines front few counts limit e xs l zs ys m =
    let f = fronts_in limit e base r part old.unit xs l joined front lines (omega (arith, fits)) few counts m.0 in
    (fits_behind e (behind_base base part) old k xs l zs ys f.joined f.front small m.1 m.2, order_in limit e base r (xs ++ l ∷ []) m.0)
