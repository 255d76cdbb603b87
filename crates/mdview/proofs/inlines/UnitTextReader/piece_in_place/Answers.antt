use Rattle.std.proofs.Common.{◌≡◌, ◌+◌, ◌-◌, ◌<◌, ◌≤◌, arith, length, sym, ◌∙◌, ap, subst}
use Rattle.std.specs.Prelude.{IfOk, IfSome}
use Rattle.std.specs.List.{AllByRecursion}
use Rattle.std.proofs.lemmas.List.{length-map}
use Rattle.blockspec.specs.BlockTree.{Blocks}
use Rattle.blockspec.specs.UnitTree.{UnitTree}
use Rattle.mdblock.specs.BlockView.{blocks_view, items_view}
use Rattle.mdblock.specs.Copies.{IsBehind, items_positions}
use Rattle.mdblock.specs.FoundLists.{FoundList, join_mark}
use Rattle.mdblock.specs.Fronted.{items_staying, texts_staying}
use Rattle.mdblock.specs.Positions.{ItemsIn}
use Rattle.mdblock.specs.Seams.{seam_list}
use Rattle.mdblock.specs.Spliced.{drop_items, first_items, take_items}
use Rattle.mdhtml.specs.InsetLists.{inset_blocks, inset_readings}
use Rattle.mdview.specs.JoinedLists.{texts_in_front}
use Rattle.mdview.specs.TextSetting.{texts_under}
use Rattle.mdview.specs.WrittenPieces.{IsPieceOf}
use Rattle.mdview.proofs.JoinedLists.{before_low, in_order, items_before, items_within, later_behind, piece_blocks}
use Rattle.mdview.proofs.inlines.UnitTextReader.piece_in_place.Goals.{After-later}
use Rattle.mdview.proofs.inlines.UnitTextReader.piece_in_place.Goals as goal

-- which items come in, and how many texts
items_are : (c : After-later) → items_view c.items_in_front-items.result.now ≡ take_items (length c.args.seam.now.part.marks) (first_items c.args.seam.now.part.unit.blocks)
items_are c =
    let marks = ap length (c.joins.ensures ∙ ap (λ (z : FoundList). z.marks) c.part-part.ensures) in
    let count : length c.joins.result.now ≡ length c.args.seam.now.part.marks = sym (length-map c.joins.result.now join_mark) ∙ marks in
    c.items_in_front-items.ensures
    ∙ ap (λ z. take_items z (first_items (blocks_view c.blocks-2.result.now))) count
    ∙ ap (λ z. take_items (length c.args.seam.now.part.marks) (first_items z)) (c.blocks-2.ensures.value ∙ ap (λ (z : UnitTree). z.blocks) (c.unit.ensures ∙ ap (λ (z : FoundList). z.unit) c.part-part.ensures))

count_is : (c : After-later) → length c.args.inlines.now ≡ texts_in_front c.args.seam.now - texts_staying c.args.seam.now.base
count_is c = let all = c.requires.between.count in omega (arith, all)

pub inset_piece-requires-clause-within : goal.inset_piece-requires-clause-within
inset_piece-requires-clause-within c =
    let a = (goal.at.inset_piece-requires-clause-within c).After-later in
    let seam = c.args.seam.now in
    subst (ItemsIn (length c.args.inlines.now)) (sym (items_are a))
    (subst (λ m. ItemsIn m (take_items (length seam.part.marks) (first_items seam.part.unit.blocks))) (sym (count_is a))
    (items_within (texts_under c.args.self.now c.args.room.now) seam c.args.held.now c.requires.goes))

pub inset_piece-requires-clause-order : goal.inset_piece-requires-clause-order
inset_piece-requires-clause-order c =
    let a = (goal.at.inset_piece-requires-clause-order c).After-later in
    let seam = c.args.seam.now in
    subst (λ z. IsBehind 0 (items_positions z) (length c.args.inlines.now)) (sym (items_are a))
    (subst (λ m. IsBehind 0 (items_positions (take_items (length seam.part.marks) (first_items seam.part.unit.blocks))) m) (sym (count_is a))
    (in_order (texts_under c.args.self.now c.args.room.now) seam c.args.held.now c.requires.goes))

pub inset_piece-requires-clause-room : goal.inset_piece-requires-clause-room
inset_piece-requires-clause-room c =
    let low = before_low (texts_under c.args.self.now c.args.room.now) c.args.seam.now c.args.held.now c.requires.goes in
    let room = c.requires.between.room in
    let is = c.texts_staying.ensures in
    omega (arith, low, room, is)

pub inset_piece-requires-clause-before : goal.inset_piece-requires-clause-before
inset_piece-requires-clause-before c =
    let seam = c.args.seam.now in
    let u = c.args.held.now in
    subst (λ m. AllByRecursion (λ at. at < m) (items_positions (take_items c.items_staying.result (first_items u.read.unit.blocks)))) (sym c.texts_staying.ensures)
    (subst (λ m. AllByRecursion (λ at. at < texts_staying seam.base) (items_positions (take_items m (first_items u.read.unit.blocks)))) (sym c.items_staying.ensures)
    (items_before (texts_under c.args.self.now c.args.room.now) seam u c.requires.goes))

pub inset_piece-requires-clause-behind : goal.inset_piece-requires-clause-behind
inset_piece-requires-clause-behind c =
    let seam = c.args.seam.now in
    let u = c.args.held.now in
    let all : c.texts_staying.result + length c.args.inlines.now ≡ texts_in_front seam = ap (λ z. z + length c.args.inlines.now) c.texts_staying.ensures ∙ c.requires.between.count in
    subst (λ m. AllByRecursion (λ at. m ≤ at) (items_positions (drop_items c.later.result (first_items u.read.unit.blocks)))) (sym all)
    (subst (λ m. AllByRecursion (λ at. texts_in_front seam ≤ at) (items_positions (drop_items m (first_items u.read.unit.blocks)))) (sym c.later.ensures)
    (later_behind (texts_under c.args.self.now c.args.room.now) seam u c.requires.goes))

pub returns-clause-piece : goal.returns-clause-piece
returns-clause-piece c =
    let a = (goal.at.returns-clause-piece c).After-later in
    let seam = c.args.seam.now in
    let u = c.args.held.now in
    let o = c.args.self.now.options.now in
    let K = take_items (length seam.part.marks) (first_items seam.part.unit.blocks) in
    let blocks : inset_blocks c.items_staying.result c.texts_staying.result (items_view c.items_in_front-items.result.now) c.later.result u.read.unit.blocks
    ≡ inset_blocks (items_staying seam.base) (texts_staying seam.base) K (seam.join + 1) u.read.unit.blocks =
    ap (λ z. inset_blocks z c.texts_staying.result (items_view c.items_in_front-items.result.now) c.later.result u.read.unit.blocks) c.items_staying.ensures
    ∙ ap (λ z. inset_blocks (items_staying seam.base) z (items_view c.items_in_front-items.result.now) c.later.result u.read.unit.blocks) c.texts_staying.ensures
    ∙ ap (λ z. inset_blocks (items_staying seam.base) (texts_staying seam.base) z c.later.result u.read.unit.blocks) (items_are a)
    ∙ ap (λ z. inset_blocks (items_staying seam.base) (texts_staying seam.base) K z u.read.unit.blocks) c.later.ensures in
    subst (λ z. IfOk c.inset_piece.result (λ piece. IfSome piece (IsPieceOf o (inset_readings z c.args.inlines.now u.read.readings) (seam_list seam).unit.blocks))) c.texts_staying.ensures
    (subst (λ (b : Blocks). IfOk c.inset_piece.result (λ piece. IfSome piece (IsPieceOf o (inset_readings c.texts_staying.result c.args.inlines.now u.read.readings) b)))
    (blocks ∙ piece_blocks (texts_under c.args.self.now c.args.room.now) seam u c.requires.goes) c.inset_piece.ensures.piece)
