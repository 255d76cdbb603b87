use Rattle.std.proofs.Common.{◌++◌, ap, ◌∙◌}
use Rattle.mdleaf.specs.ParagraphDefinitions.{leading_of}
use Rattle.mdleaf.specs.ParagraphText.{behind_definitions}
use Rattle.mdblock.specs.held.HandedIn.{gathered_definitions}
use Rattle.mdblock.proofs.ParagraphLaws.{cut_is}
use Rattle.mdblock.proofs.leaf.link_definitions.content.Goals as goal

pub returns-clause-left : goal.returns-clause-left
returns-clause-left c =
    let cut = cut_is c.as_str.result.now _ _ c.trimmed_length-length.result c.trimmed_length-length.ensures.value c.truncate.ensures.bytes c.as_str.ensures.value in
    c.in_ok-take_definitions.ensures.left ∙ ap behind_definitions cut

pub returns-clause-found : goal.returns-clause-found
returns-clause-found c =
    let cut = cut_is c.as_str.result.now _ _ c.trimmed_length-length.result c.trimmed_length-length.ensures.value c.truncate.ensures.bytes c.as_str.ensures.value in
    c.in_ok-take_definitions.ensures.found ∙ ap (λ t. gathered_definitions c.args.gathering.now ++ leading_of c.args.gathering.now.entities.now t) cut
