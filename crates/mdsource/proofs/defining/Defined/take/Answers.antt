use Rattle.std.proofs.Common.{◌∙◌, Some, ap, map, sym}
use Rattle.std.proofs.lemmas.List.{drop_all}
use Rattle.mdblock.specs.FoundLists.{found_unit}
use Rattle.mdleaf.specs.DefinedLinks.{definition_of}
use Rattle.mdsource.specs.LabelTable.{with_definitions}
use Rattle.mdsource.specs.Defining.{shown}
use Rattle.mdsource.proofs.Definings.{defines_more, is_none, more_blocks, no_blocks_more, other_here, other_stays}
use Rattle.mdsource.proofs.defining.Defined.take.Goals as goal

pub returns-then-is_some : goal.returns-then-is_some
returns-then-is_some c = λ all before. rw c.in-Some.is (other_stays all (found_unit c.in-Some.found) c.args.self.now (sym c.is_some.ensures ∙ c.if-is_some.true) before)

pub returns-then-not-is_empty : goal.returns-then-not-is_empty
returns-then-not-is_empty c = λ all before.
    let none = is_none c.args.self.now.other (sym c.is_some.ensures ∙ c.if-is_some.false) in
    let more = more_blocks c.blocks-2.result.now c.in-Some.found.unit.blocks (c.blocks-2.ensures.value ∙ ap (λ unit. unit.blocks) c.unit.ensures) (sym c.is_empty.ensures ∙ c.if-not-is_empty.true) in
    rw c.in-Some.is (other_here all (found_unit c.in-Some.found) c.args.self.now _ none (ap Some c.begin.ensures) more before)

pub returns : goal.returns
returns c = λ all before.
    let none = is_none c.args.self.now.other (sym c.is_some.ensures ∙ c.if-is_some.false) in
    let fewer = no_blocks_more c.blocks-2.result.now c.in-Some.found.unit.blocks (c.blocks-2.ensures.value ∙ ap (λ unit. unit.blocks) c.unit.ensures) (sym c.is_empty.ensures ∙ c.if-not-is_empty.false) in
    let old = shown c.args.self.now.targets.entries in
    let new = shown c.loop-definition.self.targets.entries in
    let definitions = c.definitions-definitions.result.now in
    let adds = sym (ap (λ ds. with_definitions new (map definition_of ds)) (drop_all c.loop-definition.definition-index definitions c.loop-definition-test.false))
    ∙ c.loop-definition.invariant.labels ∙ ap (with_definitions old) (c.definitions-definitions.ensures ∙ ap (λ unit. unit.definitions) c.unit-2.ensures) in
    rw c.in-Some.is (defines_more all (found_unit c.in-Some.found) c.args.self.now c.loop-definition.self none c.loop-definition.invariant.other fewer adds before)
