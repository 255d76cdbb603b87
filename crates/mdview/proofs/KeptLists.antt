-- Lists that go on in held ones and are not put together: which of their texts stay, and that they have no definition.
use Rattle.std.proofs.Common.{◌≡◌, ℕ, ◌+◌, ◌-◌, ◌≤◌, List, [], ◌∷◌, ◌++◌, Option, Some, None, drop, length, length-append, map, take, refl, ap, ◌∙◌, sym, subst, arith}
use Rattle.std.specs.Prelude.{IfSome}
use Rattle.std.proofs.lemmas.List.{length-drop, length-take-le}
use Rattle.mdtext.specs.EntityTable.{EntityTable}
use Rattle.blockspec.specs.ItemMarks.{ItemMark}
use Rattle.blockspec.specs.UnitTree.{UnitTree}
use Rattle.mdblock.specs.FoundLists.{FoundList, StandsForUnit}
use Rattle.mdblock.specs.Insets.{MayFit}
use Rattle.mdblock.specs.Seams.{ListSeam, seam_front, seam_list}
use Rattle.mdblock.specs.Spliced.{mark_at}
use Rattle.mdblock.proofs.InsetLaws.{put_is, put_list, texts_within}
use Rattle.mdblock.specs.held.Following.{ItemReading, MeetsIn}
use Rattle.mdview.specs.HeldItems.{kept_of, mark_in}
use Rattle.mdview.specs.HeldLists.{list_in, unplaced}
use Rattle.mdview.specs.HeldUnit.{HeldUnit}
use Rattle.mdview.specs.LabelTargets.{definitions_by}
use Rattle.mdview.specs.UnitsFound.{CanStay, kept_behind, with_list}
use Rattle.mdview.specs.declared.blocks.held_places.HeldItem.{HeldItem}
use Rattle.mdview.specs.declared.blocks.reparse.KeptTexts.{KeptTexts}
use Rattle.mdview.proofs.ListsStand.{stands_placed}
use Rattle.mdview.proofs.ToldLaws.{definitions_append}

-- texts that stay
abbrev pub kept_from : (unit from at : ℕ) → KeptTexts
kept_from unit from at = record { unit = unit; from = from; at = at }

is_put : (s : ListSeam) → CanStay s → MayFit (seam_front s) s.old s.join → seam_list s ≡ put_list (seam_front s) s.old s.join
is_put s w fits = put_is (seam_front s) s.old s.join (record { even = w.even; puts = fits w.even })

pub defines_none : (s : ListSeam) → CanStay s → MayFit (seam_front s) s.old s.join → (seam_list s).unit.definitions ≡ []
defines_none s w fits = ap (λ (f : FoundList). f.unit.definitions) (is_put s w fits) ∙ w.undefined

put_length : (n : ℕ) (xs ys : List (List ℕ)) → n ≤ length xs → n ≤ length ys → length (take n xs ++ drop n ys) ≡ length ys
put_length n xs ys enough room =
    let a = length-append (take n xs) (drop n ys) in
    let b = length-take-le n xs enough in
    let c = length-drop n ys in
    omega (arith, a, b, c, room)

texts_in_front : (s : ListSeam) → CanStay s → MayFit (seam_front s) s.old s.join
    → length (seam_list s).unit.texts - (length s.old.unit.texts - (mark_at s.old.marks s.join).texts) ≡ (mark_at s.old.marks s.join).texts
texts_in_front s w fits =
    let n = (mark_at s.old.marks s.join).texts in
    let p = fits w.even in
    let within = texts_within (seam_front s).unit s.old.unit (s.join + 1) n p in
    let size = put_length n (seam_front s).unit.texts s.old.unit.texts p.enough within in
    let is = ap (λ (f : FoundList). length f.unit.texts) (is_put s w fits) in
    omega (arith, is, size, within)

-- what stays of the texts is the same for the list put together
pub kept_same : (item : HeldItem) (s : ListSeam) → unplaced s.old ≡ list_in item.unit.now → s.join ≡ item.item → CanStay s → MayFit (seam_front s) s.old s.join
    → kept_behind item.number s ≡ kept_of item (seam_list s)
kept_same item s old join w fits =
    let mark : mark_at s.old.marks s.join ≡ mark_in item = ap (λ (f : FoundList). mark_at f.marks s.join) old ∙ ap (mark_at item.unit.now.read.items) join in
    let texts = ap (λ (f : FoundList). length f.unit.texts) old in
    let from = ap (λ (m : ItemMark). m.texts) mark in
    let front = texts_in_front s w fits in
    let at : (mark_at s.old.marks s.join).texts ≡ length (seam_list s).unit.texts - (length item.unit.now.read.unit.texts - (mark_in item).texts) = omega (arith, front, texts, from) in
    ap (λ n. kept_from item.number n (mark_at s.old.marks s.join).texts) from ∙ ap (kept_from item.number (mark_in item).texts) at

abbrev kept_at : (unit n : ℕ) → KeptTexts
kept_at unit n = kept_from unit n n

pub kept_front : (item : HeldItem) (s : ListSeam) → unplaced s.old ≡ list_in item.unit.now → s.join ≡ item.item → (n : ℕ) → n ≡ (mark_in item).texts
    → kept_at item.number n ≡ kept_behind item.number s
kept_front item s old join n is =
    let mark : mark_at s.old.marks s.join ≡ mark_in item = ap (λ (f : FoundList). mark_at f.marks s.join) old ∙ ap (mark_at item.unit.now.read.items) join in
    ap (kept_at item.number) (is ∙ ap (λ (m : ItemMark). m.texts) (sym mark))

-- an item of a held list is one of the list, wherever that stood
pub meets_placed : (limit : ℕ) (e : EntityTable) (reader : ItemReading) (old : FoundList) (u : HeldUnit) → unplaced old ≡ list_in u → (k : ℕ) (xs : List (List ℕ)) (l : List ℕ) (zs ys : List (List ℕ))
    → MeetsIn limit e reader (list_in u) k xs l zs ys → MeetsIn limit e reader old k xs l zs ys
meets_placed limit e reader old u same k xs l zs ys m = (
  m.0,
  stands_placed e old (zs ++ l ∷ ys) (subst (λ f. StandsForUnit e f (zs ++ l ∷ ys)) (sym same) m.1),
  subst (λ (f : FoundList). (mark_at f.marks k).line ≡ length zs) (sym same) m.2,
)

-- ---- a list without definitions changes nothing of where labels lead

units_with : (found : List FoundList) (list : Option ListSeam) → IfSome list (λ s. (seam_list s).unit.definitions ≡ [])
    → definitions_by (map (λ (one : FoundList). one.unit) (with_list found list)) ≡ definitions_by (map (λ (one : FoundList). one.unit) found)
units_with found None none = refl
units_with [] (Some s) none = ap (λ ds. ds ++ []) none
units_with (f ∷ found) (Some s) none = ap (λ ds. f.unit.definitions ++ ds) (units_with found (Some s) none)

pub defined_with : (front : List UnitTree) (found : List FoundList) (list : Option ListSeam) (back : List UnitTree) → IfSome list (λ s. (seam_list s).unit.definitions ≡ [])
    → definitions_by (front ++ map (λ (one : FoundList). one.unit) (with_list found list) ++ back) ≡ definitions_by (front ++ map (λ (one : FoundList). one.unit) found ++ back)
defined_with front found list back none =
    let all = map (λ (one : FoundList). one.unit) (with_list found list) in
    let some = map (λ (one : FoundList). one.unit) found in
    definitions_append (front ++ all) back
    ∙ ap (λ ds. ds ++ definitions_by back) (definitions_append front all ∙ ap (λ ds. definitions_by front ++ ds) (units_with found list none) ∙ sym (definitions_append front some))
    ∙ sym (definitions_append (front ++ some) back)
