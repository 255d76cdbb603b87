-- A unit that has a text with too many spans in one another only behind a change has a text that asked for a label which leads elsewhere.
use Rattle.std.proofs.Common.{◌≡◌, ℕ, Bool, true, false, ◌||◌, List, [], ◌∷◌, map, refl, sym, ◌∙◌, ap}
use Rattle.std.specs.List.{list_any}
use Rattle.std.proofs.lemmas.Bool.{or_parts}
use Rattle.mdtext.specs.EntityTable.{EntityTable}
use Rattle.inlinespec.specs.LinkTails.{Table}
use Rattle.mdsource.specs.Refusals.{is_deep}
use Rattle.mdsource.specs.View.{reading_of}
use Rattle.mdsource.specs.Changes.{asks_changed}
use Rattle.mdsource.proofs.Readings.{reads_as_behind}

clash : {A : Type 0} → true ≡ false → A
clash h = cc

pub deep_asks : (e : EntityTable) (limit : ℕ) (old new : Table) (texts : List (List ℕ)) →
    list_any (is_deep limit) (map (reading_of e old) texts) ≡ false → list_any (is_deep limit) (map (reading_of e new) texts) ≡ true →
    list_any (asks_changed old new) (map (reading_of e new) texts) ≡ true
deep_asks e limit old new [] h k = cc
deep_asks e limit old new (text ∷ texts) h k =
    let parts = or_parts (is_deep limit (reading_of e old text)) (list_any (is_deep limit) (map (reading_of e old) texts)) h in
    by (asks_changed old new (reading_of e new text)) (λ a. sym (ap (is_deep limit) (reads_as_behind e old new text a)) ∙ parts.0) (deep_asks e limit old new texts parts.1)
    (is_deep limit (reading_of e new text)) refl k
  where
    rest : Bool
    rest = list_any (is_deep limit) (map (reading_of e new) texts)

    asks : Bool
    asks = list_any (asks_changed old new) (map (reading_of e new) texts)

    by : (a : Bool) → (a ≡ false → is_deep limit (reading_of e new text) ≡ false) → (rest ≡ true → asks ≡ true) →
        (d : Bool) → is_deep limit (reading_of e new text) ≡ d → (d || rest) ≡ true → (a || asks) ≡ true
    by true f g d e' h' = refl
    by false f g true e' h' = clash (sym e' ∙ f refl)
    by false f g false e' h' = g h'
