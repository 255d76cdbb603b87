use Rattle.std.proofs.Common.{[], ◌∷◌, ◌-◌, refl, ◌∙◌, take, drop}
use Rattle.inlinespec.specs.InlineEvents.{RawHtml}
use Rattle.mdinline.proofs.AngleLeaves.{html_there, nothing_there}
use Rattle.mdinline.proofs.FoundLeaves.{found_is}
use Rattle.mdinline.proofs.raw_html.EndlessTags.autolink_or_html.Goals as goal

pub returns-in-Some-html_end-clause-value : goal.returns-in-Some-html_end-clause-value
returns-in-Some-html_end-clause-value c = λ first knows entities.
    let text = c.args.text.now in
    let at = c.args.at in
    let end = c.in-Some-html_end.end in
    found_is entities text at end c.leaf_of.result _ (RawHtml (take (end - at) (drop at text)) ∷ []) c.leaf_of.ensures.end c.leaf_of.ensures.token refl
    ∙ html_there entities text at end (c.in_default.ensures.value entities) (c.in-Some-html_end.ensures.value first knows)

pub returns-in-None-clause-value : goal.returns-in-None-clause-value
returns-in-None-clause-value c = λ first knows entities.
    nothing_there entities c.args.text.now c.args.at (c.in_default.ensures.value entities) (c.in-None.ensures.value first knows)
