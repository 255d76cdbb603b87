-- Where a label leads behind an edit is found from the definitions of the units in front, of those that are new, of those behind, and of the prelude.
use Rattle.std.proofs.Common.{◌≡◌, ℕ, List, ◌++◌, Option, None, map, take, drop, sym, ◌∙◌, ap}
use Rattle.std.specs.Prelude.{option_map}
use Rattle.std.specs.Option.{option_or}
use Rattle.mdtext.specs.EntityTable.{EntityTable}
use Rattle.mdleaf.specs.DefinedLinks.{LinkDefinition}
use Rattle.blockspec.specs.BlockUnits.{units, definitions_of}
use Rattle.blockspec.specs.LinkDefinitions.{first_definition}
use Rattle.blockspec.specs.UnitBegin.{shift_found}
use Rattle.blockspec.proofs.DocumentLaws.{definitions_append, definitions_moved, first_of_both}
use Rattle.inlinespec.specs.LabelMap.{LinkTarget}
use Rattle.mdsource.specs.LabelTable.{target_defined, table, defined_in, first_of_four}
use Rattle.mdsource.specs.Spliced.{in_parts}
use Rattle.mdsource.specs.Stretch.{Places, from_line, old_line, meeting_line}
use Rattle.mdsource.proofs.Splices.{IsEdit, meets, new_parts, old_parts}

parts_define : (e : EntityTable) (front text : List (List ℕ)) (from to : ℕ) (label : List ℕ) →
    first_definition (definitions_of (in_parts e front text from to)) label
    ≡ option_or (option_or (defined_in e (take from front) label) (defined_in e (drop from (take to text)) label)) (defined_in e (drop to text) label)
parts_define e front text from to label =
    let a = units e (take from front) in
    let b = units e (drop from (take to text)) in
    let c = units e (drop to text) in
    ap (λ z. first_definition z label) (definitions_append (a ++ map (shift_found from) b) (map (shift_found to) c))
    ∙ first_of_both (definitions_of (a ++ map (shift_found from) b)) (definitions_of (map (shift_found to) c)) label
    ∙ ap (λ z. option_or z (first_definition (definitions_of (map (shift_found to) c)) label))
    (ap (λ z. first_definition z label) (definitions_append a (map (shift_found from) b))
    ∙ first_of_both (definitions_of a) (definitions_of (map (shift_found from) b)) label
    ∙ ap (λ z. option_or (first_definition (definitions_of a) label) (first_definition z label)) (definitions_moved from b))
    ∙ ap (λ z. option_or (option_or (defined_in e (take from front) label) (defined_in e (drop from (take to text)) label)) (first_definition z label)) (definitions_moved to c)

leads_by : (e : EntityTable) (lines prelude : List (List ℕ)) (front text : List (List ℕ)) (from to : ℕ) (label : List ℕ) → units e lines ≡ in_parts e front text from to →
    table e (record { lines = lines; prelude = prelude }) label
    ≡ option_map target_defined (first_of_four (defined_in e (take from front) label) (defined_in e (drop from (take to text)) label) (defined_in e (drop to text) label) (defined_in e prelude label))
leads_by e lines prelude front text from to label h =
    ap (option_map target_defined)
    (first_of_both (definitions_of (units e lines)) (definitions_of (units e prelude)) label
    ∙ ap (λ z. option_or z (defined_in e prelude label)) (ap (λ z. first_definition (definitions_of z) label) h ∙ parts_define e front text from to label))

pub leads_behind : (e : EntityTable) (old new prelude : List (List ℕ)) (p : Places) → IsEdit e old new p → (label : List ℕ) →
    table e (record { lines = new; prelude = prelude }) label
    ≡ option_map target_defined (first_of_four (defined_in e (take (from_line p) old) label) (defined_in e (drop (from_line p) (take (meeting_line p) new)) label)
    (defined_in e (drop (meeting_line p) new) label) (defined_in e prelude label))
leads_behind e old new prelude p w label = leads_by e new prelude old new (from_line p) (meeting_line p) label (new_parts e old new p w)

pub led_before : (e : EntityTable) (old new prelude : List (List ℕ)) (p : Places) → IsEdit e old new p → (label : List ℕ) →
    table e (record { lines = old; prelude = prelude }) label
    ≡ option_map target_defined (first_of_four (defined_in e (take (from_line p) old) label) (defined_in e (drop (from_line p) (take (old_line p (meeting_line p)) old)) label)
    (defined_in e (drop (meeting_line p) new) label) (defined_in e prelude label))
led_before e old new prelude p w label =
    leads_by e old prelude old old (from_line p) (old_line p (meeting_line p)) label (old_parts e old new p w)
    ∙ ap (λ z. option_map target_defined (first_of_four (defined_in e (take (from_line p) old) label) (defined_in e (drop (from_line p) (take (old_line p (meeting_line p)) old)) label)
    (defined_in e z label) (defined_in e prelude label))) (sym (meets e old new p w).same)

-- A label that neither a unit which gives way nor a new one defines leads where it led.
pub undefined_stays : (e : EntityTable) (old new prelude : List (List ℕ)) (p : Places) → IsEdit e old new p → (label : List ℕ) →
    defined_in e (drop (from_line p) (take (old_line p (meeting_line p)) old)) label ≡ None →
    defined_in e (drop (from_line p) (take (meeting_line p) new)) label ≡ None →
    table e (record { lines = old; prelude = prelude }) label ≡ table e (record { lines = new; prelude = prelude }) label
undefined_stays e old new prelude p w label gone come =
    let four : Option LinkDefinition → Option LinkTarget = λ z. option_map target_defined (first_of_four (defined_in e (take (from_line p) old) label) z (defined_in e (drop (meeting_line p) new) label) (defined_in e prelude label)) in
    led_before e old new prelude p w label ∙ ap four gone ∙ sym (ap four come) ∙ sym (leads_behind e old new prelude p w label)
