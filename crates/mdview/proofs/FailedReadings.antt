-- What is told of an edit's reading that memory is wanting for.
use Rattle.std.proofs.Common.{◌≡◌, ℕ, ◌≤◌, List, None, Result, Ok, Err, length, subst, sym}
use Rattle.std.specs.Prelude.{IfErr, IfOk, IfSome, IsErrAnd, OnOk}
use Rattle.mdtext.specs.EntityTable.{EntityTable}
use Rattle.blockspec.specs.Nesting.{first_too_deep}
use Rattle.mdsource.specs.BlockFaults.{OfBlocks}
use Rattle.mdsource.specs.declared.fault.EditFault.{EditFault}
use Rattle.mdsource.specs.declared.fault.EditFault.TheVariants.{NoMemory}
use Rattle.mdview.specs.HeldBlocks.{IsDeepAt, IsReread}
use Rattle.mdview.specs.HeldUnit.{HeldUnit}
use Rattle.mdview.specs.KeptTexts.{IsKept}
use Rattle.mdview.specs.NewText.{lines_of}
use Rattle.mdview.specs.StopLines.{IsReadToStop}
use Rattle.mdview.specs.UnitsFound.{IsHeldOn, trees_found}
use Rattle.mdview.specs.declared.blocks.reparse.Reparsed.{Reparsed}
use Rattle.mdview.specs.declared.source.new_text.NewText.{NewText}

pub record Failed (limit : ℕ) (e : EntityTable) (text : NewText) (held : List HeldUnit) (r : Result Reparsed EditFault) : Type 0 where
  pub fault : IfErr r OfBlocks
  pub deep : IfErr r (IsDeepAt (first_too_deep limit (lines_of text)))
  pub fits : OnOk r (first_too_deep limit (lines_of text) ≡ None)
  pub read : IfOk r (IsReread e text)
  pub kept : IfOk r (λ reparsed. IfSome reparsed.kept (IsKept held (trees_found reparsed)))
  pub list : IfOk r (λ reparsed. IfSome reparsed.list (IsHeldOn held reparsed))
  pub soon : IfOk r (IsReadToStop e text)
  pub order : IfOk r (λ reparsed. (reparsed.first ≤ reparsed.next) × (reparsed.next ≤ length held))

pub gi_failed : (limit : ℕ) (e : EntityTable) (text : NewText) (held : List HeldUnit) (r : Result Reparsed EditFault) → IsErrAnd r (λ f. f ≡ NoMemory) → Failed limit e text held r
gi_failed limit e text held (Ok x) never = absurd never
gi_failed limit e text held (Err f) is = record {
  fault = subst OfBlocks (sym is) tt;
  deep = subst (IsDeepAt (first_too_deep limit (lines_of text))) (sym is) tt;
  fits = tt;
  read = tt;
  kept = tt;
  list = tt;
  soon = tt;
  order = tt;
}
