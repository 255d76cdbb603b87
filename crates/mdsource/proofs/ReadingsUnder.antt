-- What texts read as, and which of them asked for a label that leads elsewhere, where labels lead alike.
use Rattle.std.proofs.Common.{◌≡◌, ℕ, ◌+◌, Bool, true, false, ◌||◌, not, List, [], ◌∷◌, Some, find, map, length, cond, option_map, refl, ap, ◌∙◌, sym}
use Rattle.std.specs.List.{filter, list_any}
use Rattle.std.proofs.lemmas.List.Sums.{sum_by-cons}
use Rattle.std.proofs.lemmas.Bool.{or_parts}
use Rattle.mdtext.specs.EntityTable.{EntityTable}
use Rattle.blockspec.specs.UnitTree.{FoundUnit, UnitTree}
use Rattle.inlinespec.specs.LinkTails.{Table}
use Rattle.inlinespec.specs.TextTree.{Agree, asked, inl}
use Rattle.inlinespec.proofs.AskedLabels.{same_inl, same_asked}
use Rattle.inlinespec.specs.ParsedText.{ParsedText}
use Rattle.mdsource.specs.Changes.{asks_changed, is_same_target, leads_elsewhere}
use Rattle.mdsource.specs.Refusals.{is_deep}
use Rattle.mdsource.specs.View.{reading_of}
use Rattle.mdsource.specs.UnitTexts.{asking_in, asking_texts, asking_units, asks_again, deep_found, deep_from, is_deep_under, readings_under}
use Rattle.mdsource.proofs.Readings.{reads_as_before}

agree_all : (one other : Table) (labels : List (List ℕ)) → ((label : List ℕ) → one label ≡ other label) → Agree one other labels
agree_all one other [] same = tt
agree_all one other (label ∷ labels) same = (same label, agree_all one other labels same)

read_under : (e : EntityTable) (one other : Table) (text : List ℕ) → ((label : List ℕ) → one label ≡ other label) → reading_of e one text ≡ reading_of e other text
read_under e one other text same =
    let agree = agree_all one other (asked e one text) same in
    ap (λ z. record { tree = z; asked = asked e one text }) (same_inl one other e text agree)
    ∙ ap (λ z. record { tree = inl e other text; asked = z }) (same_asked one other e text agree)

-- Texts read the same where labels lead alike.
pub all_under : (e : EntityTable) (one other : Table) (texts : List (List ℕ)) → ((label : List ℕ) → one label ≡ other label)
    → map (reading_of e one) texts ≡ map (reading_of e other) texts
all_under e one other [] same = refl
all_under e one other (text ∷ texts) same =
    ap (λ r. r ∷ map (reading_of e one) texts) (read_under e one other text same) ∙ ap (λ rs. reading_of e other text ∷ rs) (all_under e one other texts same)

pub deep_one_under : (limit : ℕ) (e : EntityTable) (one other : Table) (unit : UnitTree) → ((label : List ℕ) → one label ≡ other label)
    → is_deep_under limit e one unit ≡ is_deep_under limit e other unit
deep_one_under limit e one other unit same = ap (list_any (is_deep limit)) (all_under e one other unit.texts same)

pub deep_from_under : (limit : ℕ) (e : EntityTable) (one other : Table) → ((label : List ℕ) → one label ≡ other label) → (begin : ℕ) (tiles : List (ℕ × UnitTree))
    → deep_from limit e one begin tiles ≡ deep_from limit e other begin tiles
deep_from_under limit e one other same begin [] = refl
deep_from_under limit e one other same begin (t ∷ tiles) =
    ap (λ b. cond b (Some begin) (deep_from limit e one (begin + t.0) tiles)) (deep_one_under limit e one other t.1 same)
    ∙ ap (λ o. cond (is_deep_under limit e other t.1) (Some begin) o) (deep_from_under limit e one other same (begin + t.0) tiles)

pub deep_found_under : (limit : ℕ) (e : EntityTable) (one other : Table) → ((label : List ℕ) → one label ≡ other label) → (found : List FoundUnit)
    → deep_found limit e one found ≡ deep_found limit e other found
deep_found_under limit e one other same [] = refl
deep_found_under limit e one other same (u ∷ found) = ap (λ b. option_map (λ (v : FoundUnit). v.begin) (cond b (Some u) (find (λ (v : FoundUnit). is_deep_under limit e one v.unit) found))) (deep_one_under limit e one other u.unit same)
    ∙ by (is_deep_under limit e other u.unit) (deep_found_under limit e one other same found)
  where
    by : (t : Bool) → deep_found limit e one found ≡ deep_found limit e other found
        → option_map (λ (v : FoundUnit). v.begin) (cond t (Some u) (find (λ (v : FoundUnit). is_deep_under limit e one v.unit) found))
        ≡ option_map (λ (v : FoundUnit). v.begin) (cond t (Some u) (find (λ (v : FoundUnit). is_deep_under limit e other v.unit) found))
    by true rest = refl
    by false rest = rest

-- The labels that lead elsewhere are the same where both tables lead alike.
elsewhere_under : (one two other again : Table) → ((label : List ℕ) → one label ≡ other label) → ((label : List ℕ) → two label ≡ again label)
    → (labels : List (List ℕ)) → list_any (leads_elsewhere one two) labels ≡ list_any (leads_elsewhere other again) labels
elsewhere_under one two other again f g [] = refl
elsewhere_under one two other again f g (label ∷ labels) =
    ap (λ t. not (is_same_target t (two label)) || list_any (leads_elsewhere one two) labels) (f label)
    ∙ ap (λ t. not (is_same_target (other label) t) || list_any (leads_elsewhere one two) labels) (g label)
    ∙ ap (λ t. leads_elsewhere other again label || t) (elsewhere_under one two other again f g labels)

pub asks_under : (one two other again : Table) → ((label : List ℕ) → one label ≡ other label) → ((label : List ℕ) → two label ≡ again label)
    → (reading : ParsedText) → asks_changed one two reading ≡ asks_changed other again reading
asks_under one two other again f g reading = elsewhere_under one two other again f g reading.asked

-- A unit with no text that asked for a label which leads elsewhere reads as it did.
unasked_texts : (e : EntityTable) (old new : Table) (texts : List (List ℕ)) → list_any (asks_changed old new) (map (reading_of e old) texts) ≡ false
    → map (reading_of e old) texts ≡ map (reading_of e new) texts
unasked_texts e old new [] none = refl
unasked_texts e old new (text ∷ texts) none =
    let parts = or_parts (asks_changed old new (reading_of e old text)) (list_any (asks_changed old new) (map (reading_of e old) texts)) none in
    ap (λ r. r ∷ map (reading_of e old) texts) (reads_as_before e old new text parts.0) ∙ ap (λ rs. reading_of e new text ∷ rs) (unasked_texts e old new texts parts.1)

pub unasked_stays : (e : EntityTable) (old new : Table) (unit : UnitTree) → asks_again e old new unit ≡ false → readings_under e old unit ≡ readings_under e new unit
unasked_stays e old new unit none = unasked_texts e old new unit.texts none

-- which units and how many texts asked for such a label
texts_under : (e : EntityTable) (one two other again : Table) → ((label : List ℕ) → one label ≡ other label) → ((label : List ℕ) → two label ≡ again label)
    → (readings : List ParsedText) → filter (asks_changed one two) readings ≡ filter (asks_changed other again) readings
texts_under e one two other again f g [] = refl
texts_under e one two other again f g (r ∷ readings) =
    ap (λ b. cond b (r ∷ filter (asks_changed one two) readings) (filter (asks_changed one two) readings)) (asks_under one two other again f g r)
    ∙ ap (λ l. cond (asks_changed other again r) (r ∷ l) l) (texts_under e one two other again f g readings)

some_under : (e : EntityTable) (one two other again : Table) → ((label : List ℕ) → one label ≡ other label) → ((label : List ℕ) → two label ≡ again label)
    → (readings : List ParsedText) → list_any (asks_changed one two) readings ≡ list_any (asks_changed other again) readings
some_under e one two other again f g [] = refl
some_under e one two other again f g (r ∷ readings) =
    ap (λ b. b || list_any (asks_changed one two) readings) (asks_under one two other again f g r) ∙ ap (λ b. asks_changed other again r || b) (some_under e one two other again f g readings)

pub asks_again_under : (e : EntityTable) (one two other again : Table) → ((label : List ℕ) → one label ≡ other label) → ((label : List ℕ) → two label ≡ again label)
    → (unit : UnitTree) → asks_again e one two unit ≡ asks_again e other again unit
asks_again_under e one two other again f g unit =
    ap (list_any (asks_changed one two)) (all_under e one other unit.texts f) ∙ some_under e one two other again f g (readings_under e other unit)

pub asking_units_under : (e : EntityTable) (one two other again : Table) → ((label : List ℕ) → one label ≡ other label) → ((label : List ℕ) → two label ≡ again label)
    → (number : ℕ) (units : List UnitTree) → asking_units e one two number units ≡ asking_units e other again number units
asking_units_under e one two other again f g number [] = refl
asking_units_under e one two other again f g number (unit ∷ units) =
    ap (λ b. cond b (number ∷ asking_units e one two (number + 1) units) (asking_units e one two (number + 1) units)) (asks_again_under e one two other again f g unit)
    ∙ ap (λ l. cond (asks_again e other again unit) (number ∷ l) l) (asking_units_under e one two other again f g (number + 1) units)

asking_in_under : (e : EntityTable) (one two other again : Table) → ((label : List ℕ) → one label ≡ other label) → ((label : List ℕ) → two label ≡ again label)
    → (unit : UnitTree) → asking_in e one two unit ≡ asking_in e other again unit
asking_in_under e one two other again f g unit =
    ap (λ rs. length (filter (asks_changed one two) rs)) (all_under e one other unit.texts f)
    ∙ ap (λ rs. length rs) (texts_under e one two other again f g (readings_under e other unit))

pub asking_texts_under : (e : EntityTable) (one two other again : Table) → ((label : List ℕ) → one label ≡ other label) → ((label : List ℕ) → two label ≡ again label)
    → (units : List UnitTree) → asking_texts e one two units ≡ asking_texts e other again units
asking_texts_under e one two other again f g [] = refl
asking_texts_under e one two other again f g (unit ∷ units) =
    sum_by-cons (asking_in e one two) unit units ∙ ap (λ n. n + asking_texts e one two units) (asking_in_under e one two other again f g unit)
    ∙ ap (λ n. asking_in e other again unit + n) (asking_texts_under e one two other again f g units) ∙ sym (sum_by-cons (asking_in e other again) unit units)
