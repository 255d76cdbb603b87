use Rattle.std.proofs.Common.{zero-add}
use Rattle.std.proofs.lemmas.Str.{IsCharBoundary-start}
use Rattle.mdleaf.specs.ParagraphDefinitions.{leading_end}
use Rattle.mdleaf.proofs.Fronts.{cut_in_rest, pass_none, pass_one}
use Rattle.mdleaf.proofs.paragraph_definitions.definitions_end.Goals as goal

pub loop-def-init : goal.loop-def-init
loop-def-init c = record { boundary = IsCharBoundary-start c.args.text.now c.utf8.text; so_far = zero-add (leading_end c.args.text.now) }

pub returns-in_default : goal.returns-in_default
returns-in_default c =
    pass_none c.args.text.now c.range_from.result.now c.loop-def.end (leading_end c.args.text.now) c.range_from.ensures.value c.in_default.ensures.value c.loop-def.invariant.so_far

pub loop-def-preserved : goal.loop-def-preserved
loop-def-preserved c =
    let text = c.args.text.now in
    let rest = c.range_from.result.now in
    let found = c.in-Some.ensures in
    record {
      boundary = cut_in_rest text rest c.loop-def.end c.in-Some.def.end c.range_from.ensures.value c.loop-def.invariant.boundary found.spans.whole;
      so_far = pass_one text rest c.in-Some.def c.loop-def.end (leading_end text) c.range_from.ensures.value found.value found.later found.within c.loop-def.invariant.so_far;
    }
