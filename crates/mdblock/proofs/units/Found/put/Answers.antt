use Rattle.std.proofs.Common.{◌≡◌, ◌+◌, ◌-◌, ◌++◌, ◌<◌, ◌≤◌, ℕ, Bool, List, IfSome, Option, None, Some, length, map, drop, string_bytes, sym, ◌∙◌, ap, subst, arith}
use Rattle.std.specs.Prelude.{min, option_map, ◌^◌}
use Rattle.blockspec.specs.BlockTree.{Items, ListKind}
use Rattle.blockspec.specs.ItemMarks.{ItemMark}
use Rattle.blockspec.specs.UnitTree.{UnitTree}
use Rattle.mdblock.specs.BlockView.{items_view, kind_view}
use Rattle.mdblock.specs.Copies.{copied_items, items_positions, texts_at}
use Rattle.mdblock.specs.FoundLists.{FoundList, join_mark}
use Rattle.mdblock.specs.Insets.{ListInset, TakesIn, inset_front, items_between, marks_in_front, parts_between}
use Rattle.mdblock.specs.Positions.{BlocksIn}
use Rattle.mdblock.specs.Spliced.{first_items, first_kind, list_of_kind, mark_at, mark_further, tight_list}
use Rattle.mdblock.proofs.FoundParts.{found_of, same_found}
use Rattle.mdblock.proofs.FrontedValues.{placed_is, placed_items, placed_marks, placed_texts, placed_within, placing, staying}
use Rattle.mdblock.proofs.units.Found.put.Goals as goal

same_takes : (u v : UnitTree) (is js : Items) (ts us : List (List ℕ)) (s t e f b c n m : ℕ) → u ≡ v → is ≡ js → ts ≡ us → s ≡ t → e ≡ f → b ≡ c → n ≡ m → TakesIn u is ts s e b n → TakesIn v js us t f c m
same_takes u v is js ts us s t e f b c n m hu hi ht hs he hb hn w =
    subst (λ z. TakesIn v js us t f c z) hn
    (subst (λ z. TakesIn v js us t f z n) hb
    (subst (λ z. TakesIn v js us t z b n) he
    (subst (λ z. TakesIn v js us z e b n) hs (subst (λ z. TakesIn v js z s e b n) ht (subst (λ z. TakesIn v z ts s e b n) hi (subst (λ z. TakesIn z is ts s e b n) hu w))))))

same_list : (t : Bool) (u v : UnitTree) (is js : Items) (s r e f : ℕ) (k l : Option ListKind) → u ≡ v → is ≡ js → s ≡ r → e ≡ f → k ≡ l →
    list_of_kind t (items_between s e is (first_items u.blocks)) k ≡ list_of_kind t (items_between r f js (first_items v.blocks)) l
same_list t u v is js s r e f k l hu hi hs he hk =
    ap (λ (z : UnitTree). list_of_kind t (items_between s e is (first_items z.blocks)) k) hu
    ∙ ap (λ z. list_of_kind t (items_between s e z (first_items v.blocks)) k) hi
    ∙ ap (λ z. list_of_kind t (items_between z e js (first_items v.blocks)) k) hs
    ∙ ap (λ z. list_of_kind t (items_between r z js (first_items v.blocks)) k) he
    ∙ ap (list_of_kind t (items_between r f js (first_items v.blocks))) hk

below_max : (stay : Option ℕ) (join count : ℕ) → IfSome stay (λ k. k < join) → join < count → count ≤ 2 ^ 64 - 1 → IfSome stay (λ k. k < 2 ^ 64 - 1)
below_max None join count w small few = tt
below_max (Some k) join count w small few = omega (arith, w, small, few)

there : (stay : Option ℕ) (join count : ℕ) → IfSome stay (λ k. k < join) → join < count → IfSome stay (λ k. k < count)
there None join count w small = tt
there (Some k) join count w small = omega (arith, w, small)

pub put-requires-clause-there : goal.put-requires-clause-there
put-requires-clause-there c =
    let i = c.args.inset in
    let old = c.args.self.now in
    let I = c.inset.inside in
    let seen = c.inset.view_is in
    let held = c.self.view_is in
    let q = placing i old c.requires in
    let items : placed_items i ≡ items_view I.items.items = ap (λ (z : ListInset). copied_items z.before (first_items z.part.unit.blocks)) (sym seen) ∙ sym c.inset.invariant.0 in
    let texts : placed_texts i ≡ map string_bytes I.texts.items = ap (λ (z : ListInset). texts_at z.part.unit.texts (items_positions (first_items z.part.unit.blocks))) (sym seen) ∙ sym c.inset.invariant.1 in
    let from : join_mark c.join_at-from.result ≡ mark_at old.marks i.join =
    c.join_at-from.ensures ∙ ap (λ z. mark_at (map join_mark z) I.join) c.deref.ensures.value ∙ ap (λ (z : FoundList). mark_at z.marks I.join) held
    ∙ ap (λ (z : ListInset). mark_at old.marks z.join) seen in
    same_takes _ _ _ _ _ _ _ _ _ _ _ _ _ _ (ap (λ (z : FoundList). z.unit) (sym held)) items texts (sym (c.start-start.ensures old)) (ap (λ (z : ListInset). z.join + 1) (sym seen))
    (ap (λ (z : ListInset). z.before) (sym seen)) (ap (λ (z : ItemMark). z.texts) (sym from)) q.takes

pub put-requires-clause-within : goal.put-requires-clause-within
put-requires-clause-within c =
    let i = c.args.inset in
    let old = c.args.self.now in
    let I = c.inset.inside in
    let seen = c.inset.view_is in
    let held = c.self.view_is in
    let items : placed_items i ≡ items_view I.items.items = ap (λ (z : ListInset). copied_items z.before (first_items z.part.unit.blocks)) (sym seen) ∙ sym c.inset.invariant.0 in
    let unit : old.unit ≡ c.self.inside.unit = ap (λ (z : FoundList). z.unit) (sym held) in
    let list = same_list c.is_tight-tight.result _ _ _ _ _ _ _ _ _ _ unit items (sym (c.start-start.ensures old)) (ap (λ (z : ListInset). z.join + 1) (sym seen)) (sym c.kind-kind.ensures) in
    let made = list_of_kind c.is_tight-tight.result (items_between c.start-start.result (I.join + 1) (items_view I.items.items) (first_items c.self.inside.unit.blocks))
    (option_map kind_view c.kind-kind.result) in
    subst (λ (z : UnitTree). BlocksIn (length z.texts) made) unit (subst (BlocksIn (length old.unit.texts)) list (placed_within i old c.is_tight-tight.result c.requires))

pub returns : goal.returns
returns c =
    let i = c.args.inset in
    let old = c.args.self.now in
    let I = c.inset.inside in
    let S = c.self.inside in
    let P = c.part.inside in
    let seen = c.inset.view_is in
    let held = c.self.view_is in
    let q = placing i old c.requires in
    let front = inset_front i old in
    let items : items_view I.items.items ≡ placed_items i = c.inset.invariant.0 ∙ ap (λ (z : ListInset). copied_items z.before (first_items z.part.unit.blocks)) seen in
    let texts : map string_bytes I.texts.items ≡ placed_texts i = c.inset.invariant.1 ∙ ap (λ (z : ListInset). texts_at z.part.unit.texts (items_positions (first_items z.part.unit.blocks))) seen in
    let unit : S.unit ≡ old.unit = ap (λ (z : FoundList). z.unit) held in
    let A = mark_at old.marks i.join in
    let from : join_mark c.join_at-from.result ≡ A =
    c.join_at-from.ensures ∙ ap (λ z. mark_at (map join_mark z) I.join) c.deref.ensures.value ∙ ap (λ (z : FoundList). mark_at z.marks I.join) held
    ∙ ap (λ (z : ListInset). mark_at old.marks z.join) seen in
    let marks = placed_marks i old in
    let F = marks_in_front i.stay old.marks i.part.marks in
    let in_front : marks_in_front I.stay (map join_mark S.joins.items) (map join_mark P.joins.items) ≡ F =
    ap (λ (z : FoundList). marks_in_front I.stay z.marks (map join_mark P.joins.items)) held
    ∙ ap (λ (z : FoundList). marks_in_front I.stay old.marks z.marks) c.part.view_is
    ∙ ap (λ (z : ListInset). marks_in_front z.stay old.marks z.part.marks) seen in
    let moved : map join_mark c.put_joins.new.joins.items ≡ marks =
    c.put_joins.ensures
    ∙ ap (λ z. z ++ map (mark_further (join_mark c.join_at-from.result) (mark_at z I.join)) (drop (I.join + 1) (map join_mark S.joins.items))) in_front
    ∙ ap (λ z. F ++ map (mark_further z (mark_at F I.join)) (drop (I.join + 1) (map join_mark S.joins.items))) from
    ∙ ap (λ (z : FoundList). F ++ map (mark_further A (mark_at F I.join)) (drop (I.join + 1) z.marks)) held
    ∙ ap (λ (z : ListInset). F ++ map (mark_further A (mark_at F z.join)) (drop (z.join + 1) old.marks)) seen in
    let lines : c.saturating_add-self-inside.result ≡ min (front.lines + (old.lines - A.line - 1)) (2 ^ 64 - 1) =
    c.saturating_add-self-inside.ensures
    ∙ ap (λ z. min (z + c.saturating_sub-behind.result) (2 ^ 64 - 1)) c.lines-lines.ensures
    ∙ ap (λ z. min (front.lines + z) (2 ^ 64 - 1))
    (c.saturating_sub-behind.ensures
    ∙ ap (λ z. z - 1) (c.saturating_sub.ensures ∙ ap (λ (z : FoundList). z.lines - c.join_at-from.result.line) held ∙ ap (λ (z : ItemMark). old.lines - z.line) from)) in
    let tight : c.is_tight-tight.result ≡ tight_list old.parted marks =
    c.is_tight-tight.ensures
    ∙ ap (λ z. tight_list S.parted (map join_mark z)) c.deref-2.ensures.value
    ∙ ap (tight_list S.parted) moved
    ∙ ap (λ (z : FoundList). tight_list z.parted marks) held in
    let T = tight_list old.parted marks in
    let blocks = c.put.ensures.blocks
    ∙ ap (λ z. list_of_kind z (items_between c.start-start.result (I.join + 1) (items_view I.items.items) (first_items S.unit.blocks)) (option_map kind_view c.kind-kind.result)) tight
    ∙ same_list T _ _ _ _ _ _ _ _ _ _ unit items (c.start-start.ensures old) (ap (λ (z : ListInset). z.join + 1) seen) c.kind-kind.ensures in
    let in_place = c.put.ensures.texts
    ∙ ap (λ (z : ItemMark). parts_between I.before z.texts (map string_bytes I.texts.items) S.unit.texts) from
    ∙ ap (λ z. parts_between I.before A.texts z S.unit.texts) texts
    ∙ ap (λ (z : UnitTree). parts_between I.before A.texts (placed_texts i) z.texts) unit
    ∙ ap (λ (z : ListInset). parts_between z.before A.texts (placed_texts i) old.unit.texts) seen in
    same_found c.begin-begin.result S.parted old.parted _ marks _ _ _ _ _ _ _ _ (ap (λ (z : FoundList). z.parted) held) moved lines blocks
    (c.put.ensures.definitions ∙ ap (λ (z : UnitTree). z.definitions) unit) in_place
    ∙ ap (λ z. found_of old.parted marks z (min (front.lines + (old.lines - A.line - 1)) (2 ^ 64 - 1))
    (list_of_kind T (items_between (staying i old) (i.join + 1) (placed_items i) (first_items old.unit.blocks)) (first_kind front.unit.blocks))
    old.unit.definitions (parts_between i.before A.texts (placed_texts i) old.unit.texts)) (c.begin-begin.ensures old)
    ∙ sym (placed_is i old c.requires)
