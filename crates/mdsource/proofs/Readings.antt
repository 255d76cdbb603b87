-- A text that asked for no label that leads elsewhere reads as it did.
use Rattle.std.proofs.Common.{◌≡◌, ℕ, Bool, true, false, not, List, [], ◌∷◌, Option, Some, None, refl, sym, ◌∙◌, ap}
use Rattle.std.specs.List.{list_any}
use Rattle.std.specs.Str.{bytes_eq}
use Rattle.std.proofs.lemmas.Bool.{and_parts, or_parts}
use Rattle.std.proofs.lemmas.Slice.Eq.{bytes_eq-Decides}
use Rattle.mdtext.specs.EntityTable.{EntityTable}
use Rattle.inlinespec.specs.LabelMap.{LinkTarget}
use Rattle.inlinespec.specs.LinkTails.{Table}
use Rattle.inlinespec.specs.TextTree.{asked, Agree}
use Rattle.inlinespec.proofs.AskedLabels.{same_inl, same_asked}
use Rattle.mdsource.specs.View.{reading_of}
use Rattle.mdsource.specs.Changes.{is_same_target, leads_elsewhere, asks_changed}

same_text : (xs ys : List ℕ) → bytes_eq xs ys ≡ true → xs ≡ ys
same_text xs ys h = (bytes_eq-Decides xs ys).0 h

same_target : (one other : Option LinkTarget) → is_same_target one other ≡ true → one ≡ other
same_target None None h = refl
same_target None (Some to) h = cc
same_target (Some from) None h = cc
same_target (Some from) (Some to) h =
    let parts = and_parts (bytes_eq from.url to.url) (bytes_eq from.title to.title) h in
    ap (λ z. Some (record { url = z; title = from.title })) (same_text from.url to.url parts.0)
    ∙ ap (λ z. Some (record { url = to.url; title = z })) (same_text from.title to.title parts.1)

-- A label that does not lead elsewhere leads to the same.
pub same_lead : (old new : Table) (label : List ℕ) → leads_elsewhere old new label ≡ false → old label ≡ new label
same_lead old new label h = by (is_same_target (old label) (new label)) (same_target (old label) (new label)) h
  where
    by : (t : Bool) → (t ≡ true → old label ≡ new label) → not t ≡ false → old label ≡ new label
    by true f k = f refl
    by false f k = cc

agrees : (old new : Table) (labels : List (List ℕ)) → list_any (leads_elsewhere old new) labels ≡ false → Agree old new labels
agrees old new [] h = tt
agrees old new (label ∷ labels) h =
    let parts = or_parts (leads_elsewhere old new label) (list_any (leads_elsewhere old new) labels) h in
    (same_lead old new label parts.0, agrees old new labels parts.1)

agrees_back : (old new : Table) (labels : List (List ℕ)) → Agree old new labels → Agree new old labels
agrees_back old new [] h = tt
agrees_back old new (label ∷ labels) h = (sym h.0, agrees_back old new labels h.1)

-- asked before the change
pub reads_as_before : (e : EntityTable) (old new : Table) (text : List ℕ) → asks_changed old new (reading_of e old text) ≡ false → reading_of e old text ≡ reading_of e new text
reads_as_before e old new text h =
    let a = agrees old new (asked e old text) h in
    ap (λ z. record { tree = z; asked = asked e old text }) (same_inl old new e text a)
    ∙ ap (λ z. record (reading_of e new text) { asked = z }) (same_asked old new e text a)

-- or behind it
pub reads_as_behind : (e : EntityTable) (old new : Table) (text : List ℕ) → asks_changed old new (reading_of e new text) ≡ false → reading_of e old text ≡ reading_of e new text
reads_as_behind e old new text h =
    let a = agrees_back old new (asked e new text) (agrees old new (asked e new text) h) in
    sym (ap (λ z. record { tree = z; asked = asked e new text }) (same_inl new old e text a)
    ∙ ap (λ z. record (reading_of e old text) { asked = z }) (same_asked new old e text a))

-- Which texts asked for a changed label is the same, whether it is asked before the change or behind it.
pub asks_alike : (e : EntityTable) (old new : Table) (text : List ℕ) → asks_changed old new (reading_of e old text) ≡ asks_changed old new (reading_of e new text)
asks_alike e old new text = by (asks_changed old new (reading_of e old text)) (asks_changed old new (reading_of e new text)) refl refl
  where
    by : (s t : Bool) → asks_changed old new (reading_of e old text) ≡ s → asks_changed old new (reading_of e new text) ≡ t →
        asks_changed old new (reading_of e old text) ≡ asks_changed old new (reading_of e new text)
    by false t h k = ap (asks_changed old new) (reads_as_before e old new text h)
    by true false h k = ap (asks_changed old new) (reads_as_behind e old new text k)
    by true true h k = h ∙ sym k
