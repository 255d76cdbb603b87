use Rattle.std.proofs.Common.{◌∙◌, ap, sym}
use Rattle.std.specs.BTreeMap.{insert_entry}
use Rattle.std.specs.Cmp.Lexicographic.{slice_cmp}
use Rattle.std.specs.Ordering.{nat_cmp}
use Rattle.inlinespec.proofs.FirstTargets.{kept, put}
use Rattle.mdleaf.specs.DefinedLinks.{definition_of}
use Rattle.mdsource.specs.LabelTable.{target_defined}
use Rattle.mdsource.specs.Defining.{shown}
use Rattle.mdsource.proofs.Definings.{copy_put}
use Rattle.mdsource.proofs.defining.Defined.define.Goals as goal

pub returns-then-contains_key-clause-labels : goal.returns-then-contains_key-clause-labels
returns-then-contains_key-clause-labels c =
    kept c.args.definition.now.label (target_defined (definition_of c.args.definition.now)) c.args.self.now.targets.entries (sym c.contains_key.ensures ∙ c.if-contains_key.true)

pub returns-clause-labels : goal.returns-clause-labels
returns-clause-labels c =
    let entries = c.args.self.now.targets.entries in
    let definition = c.args.definition.now in
    let new = c.insert.new.self.entries in
    let target = c.in_ok-copy.field-0 in
    copy_put (shown entries) (shown new) definition.label (target_defined (definition_of definition)) target
    (put definition.label target entries new (sym c.contains_key.ensures ∙ c.if-contains_key.false)
    (c.in_ok-insert.ensures.entries ∙ ap (λ label. insert_entry (slice_cmp nat_cmp) entries label target) c.in_ok-label.ensures))
    c.in_ok-copy.ensures.url c.in_ok-copy.ensures.title
