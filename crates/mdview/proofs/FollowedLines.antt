-- What is known of the lines that a reader has read, or that stand before them.
use Rattle.std.proofs.Common.{◌≡◌, ℕ, List, Option, Some, None, ap, ◌∙◌, sym, subst}
use Rattle.std.specs.Prelude.{IfSome, slice_get}
use Rattle.mdtext.specs.EntityTable.{EntityTable}
use Rattle.blockspec.specs.Nesting.{first_too_deep}
use Rattle.mdblock.specs.FoundLists.{FoundList}
use Rattle.mdblock.specs.Fronted.{ListBase}
use Rattle.mdblock.specs.held.Following.{Follows, ItemReading}
use Rattle.mdblock.specs.held.ReaderState.{ReaderState}
use Rattle.mdsource.proofs.ReadLines.{none_deep}
use Rattle.mdview.specs.HeldItems.{IsBaseOf}
use Rattle.mdview.specs.HeldLists.{IsBaseIn, list_in, unplaced}
use Rattle.mdview.specs.HeldUnit.{HeldUnit}

pub gi_none_deep : (limit : ℕ) (e : EntityTable) (r : ItemReading) (ls : List (List ℕ)) → Follows limit e r ls → first_too_deep limit ls ≡ None
unfolding Follows
gi_none_deep limit e r ls h = by r.base r.reading h
  where
    by : (base : Option ListBase) (reading : ReaderState) → Follows limit e (record { base = base; reading = reading }) ls → first_too_deep limit ls ≡ None
    by None reading h = none_deep limit e reading ls h
    by (Some b) reading h = h.shallow

-- ---- the list whose first items stay

same_one : (u v : HeldUnit) → Some u ≡ Some v → u ≡ v
same_one u v h = cc

-- it is the unit's that reading began in
pub gi_based : (held : List HeldUnit) (i start : ℕ) (u : HeldUnit) → i ≡ start → slice_get held i ≡ Some u → (list : FoundList) → unplaced list ≡ list_in u → (k : ℕ) (base : Option ListBase)
    → base ≡ Some (record { list = list; join = k }) → IsBaseOf held start base
gi_based held i start u at there list same k base is v here =
    subst (IsBaseIn v) (sym is) (same ∙ ap list_in (same_one u v (sym there ∙ ap (slice_get held) at ∙ here)))

-- it is the same as long as there is one
pub gi_base_next : (held : List HeldUnit) (start : ℕ) (old new : Option ListBase) → IfSome new (λ b. old ≡ Some b) → IsBaseOf held start old → IsBaseOf held start new
gi_base_next held start old None is w u here = tt
gi_base_next held start old (Some b) is w u here = subst (IsBaseIn u) is (w u here)
