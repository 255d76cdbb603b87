-- A text is concerned where it asked for a label that leads elsewhere.
use Rattle.std.proofs.Common.{◌≡◌, ℕ, ◌+◌, ◌≤◌, Bool, List, String, length, map, take, if◌then◌else◌, string_bytes, ap, ◌∙◌, arith}
use Rattle.std.specs.Global.{Global}
use Rattle.std.specs.List.{filter, list_any}
use Rattle.std.specs.Option.{is_some}
use Rattle.inlinespec.specs.ParsedText.{ParsedText}
use Rattle.mdsource.specs.Changes.{asks_changed, leads_elsewhere}
use Rattle.mdview.specs.HeldTexts.{labels_before, labels_behind}
use Rattle.mdview.specs.LabelTargets.{IsElsewhere, at}
use Rattle.mdview.specs.declared.inlines.UnitTextReader.{UnitTextReader}
use Rattle.mdview.proofs.ReadTexts.{IsTextAt, any_same, count_next, count_within}

-- whether the labels that it asked for are among those that are changed tells it
pub concerned : (reader : UnitTextReader) → IsElsewhere reader.labels.now.held.now reader.labels.now.changes.now → (reading : ParsedText) (asked : List (List ℕ)) (result : Bool) → asked ≡ reading.asked
    → result ≡ list_any (λ label. is_some (at label reader.labels.now.changes.now.targets.entries)) asked → result ≡ asks_changed (labels_before reader) (labels_behind reader) reading
concerned reader elsewhere reading asked result same is =
    is
    ∙ any_same (λ label. is_some (at label reader.labels.now.changes.now.targets.entries)) (leads_elsewhere (labels_before reader) (labels_behind reader)) elsewhere asked
    ∙ ap (list_any (leads_elsewhere (labels_before reader) (labels_behind reader))) same

-- a text more was read where it passes, and none else
module _ (texts : List (String Global)) (all : List (List ℕ)) (i : ℕ) (t : String Global) (w : IsTextAt texts all i t) (f : List ℕ → ParsedText) (p : ParsedText → Bool) (held : ParsedText)
    (is : held ≡ f (string_bytes t)) (old now new : ℕ) (counts : new ≤ now + (if p held then 1 else 0)) (before : now ≤ old + length (filter p (map f (take i all)))) where
  abbrev some : Bool → ℕ
  some b = if b then 1 else 0

  pub counted_next : new ≤ old + length (filter p (map f (take (i + 1) all)))
  counted_next =
      let one : (if p held then 1 else 0) ≡ (if p (f (string_bytes t)) then 1 else 0) = ap (λ r. some (p r)) is in
      let more = count_next texts all i t w f p in
      omega (arith, counts, before, one, more)

  pub counted_within : new ≤ old + length (filter p (map f all))
  counted_within =
      let here = counted_next in
      let within = count_within texts all i t w f p in
      omega (arith, here, within)
