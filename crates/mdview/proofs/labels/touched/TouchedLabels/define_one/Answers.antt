use Rattle.std.proofs.Common.{◌≡◌, ◌∙◌, ℕ, List, Some, ap, is_some, string_bytes, sym}
use Rattle.inlinespec.specs.LabelMap.{target_of}
use Rattle.mdleaf.specs.DefinedLinks.{definition_of}
use Rattle.mdsource.specs.LabelTable.{target_defined}
use Rattle.mdview.proofs.ToldLaws.{first_counts, first_stays, seen_once}
use Rattle.mdview.proofs.labels.touched.TouchedLabels.define_one.Goals as goal

pub returns-in_ok-copy : goal.returns-in_ok-copy
returns-in_ok-copy c = λ q.
    let copy = c.in_ok-copy.field-0 in
    let definition = c.args.definition.now in
    let was = c.in-Some.target.now in
    let led : target_of copy ≡ target_defined (definition_of definition) =
    ap (λ (url : List ℕ). record { url = url; title = string_bytes copy.title }) c.in_ok-copy.ensures.url
    ∙ ap (λ (title : List ℕ). record { url = string_bytes definition.target.url; title = title }) c.in_ok-copy.ensures.title in
    seen_once c.args.self.now.targets.entries _ (definition_of definition) q was (Some copy) (sym c.in-Some.ensures.value)
    (((c.get_mut.follows.holds (Some copy)).3 (ap is_some (sym c.in-Some.ensures.value))).0 q)
    (ap Some led ∙ first_counts was (target_defined (definition_of definition)) c.if-is_none.ensures)

pub returns-else-is_none : goal.returns-else-is_none
returns-else-is_none c = λ q.
    let definition = c.args.definition.now in
    let was = c.in-Some.target.now in
    seen_once c.args.self.now.targets.entries _ (definition_of definition) q was was (sym c.in-Some.ensures.value)
    (((c.get_mut.follows.holds was).3 (ap is_some (sym c.in-Some.ensures.value))).0 q)
    (first_stays was (target_defined (definition_of definition)) c.if-is_none.ensures)
