-- What a reading of texts answers, and what it says of spans that lie too deep.
use Rattle.std.proofs.Common.{◌≡◌, ◌+◌, ℕ, Bool, true, false, List, [], ◌∷◌, ◌++◌, Ok, Err, Result, length, length-append, map, get_or, ap, sym, ◌∙◌}
use Rattle.std.specs.Prelude.{OnOk, slice_get}
use Rattle.std.specs.List.{All, list_any}
use Rattle.std.specs.Result.{IsErrAnd}
use Rattle.std.proofs.lemmas.List.{length-map, map-append}
use Rattle.std.proofs.lemmas.Option.{IfSome_then}
use Rattle.blockspec.specs.UnitTree.{UnitTree}
use Rattle.inlinespec.specs.ParsedText.{ParsedText}
use Rattle.mdinline.specs.declared.faults.InlineFault.{InlineFault}
use Rattle.mdinline.specs.declared.faults.InlineFault.TheVariants.{TooDeep}
use Rattle.mdblock.specs.FoundLists.{FoundList}
use Rattle.mdblock.proofs.LevelBegins.{err_is}
use Rattle.mdsource.specs.Changes.{asks_changed}
use Rattle.mdsource.specs.Refusals.{is_deep}
use Rattle.mdsource.proofs.Readings.{reads_as_before}
use Rattle.mdview.specs.declared.inlines.concerned_texts.Again.{Again}
use Rattle.mdview.specs.HeldLists.{list_in, unplaced}
use Rattle.mdview.specs.ReadUnits.{IsReadUnder, IsShallow}
use Rattle.mdview.specs.HeldTexts.{IsReread}
use Rattle.mdview.specs.HeldUnit.{HeldUnit, IsRendered}
use Rattle.mdview.specs.TextSetting.{AreReadFrom, DidRead, DidReadIn, IsOneReadAgain, IsReadAgain, IsReadFrom, TellsDeep, TextSetting, reading_as}
use Rattle.mdview.specs.Update.{Fits, IsWritten}
use Rattle.mdview.proofs.MemberChanges.{all_more}

-- ---- how a reading ends

pub told_shallow : {T : Type 0} (x : T) (deep : Bool) → deep ≡ false → TellsDeep (Ok x) deep
told_shallow x deep h = (h, λ is. absurd (let z : ⊥ = cc in z))

-- nothing is told of a value where an error is handed on
pub on_err : {T E : Type 0} (X : Type 0) (result : Result T E) (P : E → Type 0) → IsErrAnd result P → OnOk result X
on_err X (Ok x) P h = absurd h
on_err X (Err e) P h = tt

pub told_deep : {T : Type 0} (result : Result T InlineFault) (fault : InlineFault) (deep : Bool) → IsErrAnd result (λ f. f ≡ fault) → (fault ≡ TooDeep → deep ≡ true)
    → TellsDeep result deep
told_deep result fault deep is h = (on_err (deep ≡ false) result (λ f. f ≡ fault) is, λ too. h (sym (err_is result (λ f. f ≡ fault) TooDeep is too)))

-- ---- what was read before

module _ (s : TextSetting) where
  -- A text that asked for no label which leads elsewhere reads as it did.
  pub reads_on : (text : List ℕ) (held : ParsedText) → DidRead s text held → asks_changed s.before s.behind held ≡ false
      → (held ≡ reading_as s text) × (is_deep s.options.max_spans (reading_as s text) ≡ false)
  reads_on text held did none =
      let is = did.0 ∙ reads_as_before s.entities s.before s.behind text (ap (asks_changed s.before s.behind) (sym did.0) ∙ none) in
      (is, ap (is_deep s.options.max_spans) (sym is) ∙ did.1)

  pub did_read_all : (units : List HeldUnit) → All (IsReadUnder s.entities s.before) units → All (IsShallow s.options.max_spans s.entities s.before) units → All (DidReadIn s) units
  did_read_all units read shallow k d below = record { read = read k d below; shallow = shallow k d below }

  pub all_read : (units : List HeldUnit) → All (DidReadIn s) units → All (IsReadUnder s.entities s.before) units
  all_read units did k d below = (did k d below).read

  pub did_shallow : (units : List HeldUnit) → All (DidReadIn s) units → All (IsShallow s.options.max_spans s.entities s.before) units
  did_shallow units did k d below = (did k d below).shallow

  -- in the readings of a held unit themselves
  pub shallow_readings : (u : HeldUnit) → DidReadIn s u → list_any (is_deep s.options.max_spans) u.read.readings ≡ false
  shallow_readings u did = ap (list_any (is_deep s.options.max_spans)) did.read ∙ did.shallow

  -- ---- units that were found

  -- one more
  pub read_behind : (found : List FoundList) (one : FoundList) (units : List HeldUnit) (unit : HeldUnit) → AreReadFrom s found units → IsReadFrom s one unit
      → AreReadFrom s (found ++ one ∷ []) (units ++ unit ∷ [])
  read_behind found one units unit all w =
      record {
        all = length-append units (unit ∷ []) ∙ ap (λ n. n + 1) all.all ∙ sym (length-append found (one ∷ []));
        lists = map-append list_in units (unit ∷ []) ∙ ap (λ l. l ++ list_in unit ∷ []) all.lists ∙ ap (λ x. map unplaced found ++ x ∷ []) w.list
            ∙ sym (map-append unplaced found (one ∷ []));
        read = all_more (IsReadUnder s.entities s.behind) units unit all.read w.read;
        rendered = all_more (IsRendered s.options) units unit all.rendered w.rendered;
      }

  -- ---- units that are read again

  module _ (trees : List UnitTree) (again : List Again) (all : All (IsOneReadAgain s trees) again) where
    pub all_reread : All (IsReread s.entities s.behind trees) again
    all_reread k d below =
        let one = get_or again k d in
        IfSome_then (slice_get trees one.unit) (all k d below) (λ (tree : UnitTree) (w : IsReadAgain s tree one). w.readings)

    pub all_written : All (IsWritten s.options trees) again
    all_written k d below =
        let one = get_or again k d in
        IfSome_then (slice_get trees one.unit) (all k d below) (λ (tree : UnitTree) (w : IsReadAgain s tree one). (w.html, w.ends))

    pub all_fit : All (Fits trees) again
    all_fit k d below =
        let one = get_or again k d in
        IfSome_then (slice_get trees one.unit) (all k d below) (λ (tree : UnitTree) (w : IsReadAgain s tree one). ap length w.readings ∙ length-map tree.texts (reading_as s))
