use Rattle.std.proofs.Common.{◌++◌, ◌∷◌, [], ap, ◌∙◌, map, zero-add}
use Rattle.std.proofs.lemmas.Str.{IsCharBoundary-start}
use Rattle.std.proofs.lemmas.List.{map-append}
use Rattle.mdleaf.specs.DefinedLinks.{definition_of}
use Rattle.mdleaf.specs.ParagraphDefinitions.{leading_end, leading_of}
use Rattle.mdleaf.proofs.Fronts.{cut_in_rest, define_none, define_one, pass_none, pass_one}
use Rattle.mdleaf.proofs.paragraph_definitions.leading_definitions.Goals as goal

pub loop-def-init : goal.loop-def-init
loop-def-init c = record {
  boundary = IsCharBoundary-start c.args.text.now c.utf8.text;
  so_far = zero-add (leading_end c.args.text.now);
  definitions = ap (λ xs. map definition_of xs ++ leading_of c.args.entities.now c.args.text.now) c.new-definitions.ensures.items;
}

pub returns-in_default-clause-definitions : goal.returns-in_default-clause-definitions
returns-in_default-clause-definitions c =
    define_none c.args.entities.now c.args.text.now c.range_from-rest.result.now c.loop-def.end (map definition_of c.loop-def.definitions.items) (leading_of c.args.entities.now c.args.text.now)
    c.range_from-rest.ensures.value c.in_default.ensures.value c.loop-def.invariant.definitions

pub returns-in_default-clause-rest : goal.returns-in_default-clause-rest
returns-in_default-clause-rest c =
    pass_none c.args.text.now c.range_from-rest.result.now c.loop-def.end (leading_end c.args.text.now) c.range_from-rest.ensures.value c.in_default.ensures.value c.loop-def.invariant.so_far

pub loop-def-preserved : goal.loop-def-preserved
loop-def-preserved c =
    let text = c.args.text.now in
    let table = c.args.entities.now in
    let rest = c.range_from-rest.result.now in
    let same = c.range_from-rest.ensures.value in
    let found = c.in-Some.ensures in
    let def = c.in-Some.def in
    let one = c.in_ok-read_definition.field-0 in
    let pushed = ap (map definition_of) c.in_ok-push.ensures.items ∙ map-append definition_of c.loop-def.definitions.items (one ∷ []) in
    record {
      boundary = cut_in_rest text rest c.loop-def.end def.end same c.loop-def.invariant.boundary found.spans.whole;
      so_far = pass_one text rest def c.loop-def.end (leading_end text) same found.value found.later found.within c.loop-def.invariant.so_far;
      definitions = define_one table text rest def c.loop-def.end (map definition_of c.loop-def.definitions.items) (map definition_of c.push.new.self.items) (leading_of table text) (definition_of one)
          same found.value found.later found.within c.in_ok-read_definition.ensures pushed c.loop-def.invariant.definitions;
    }
