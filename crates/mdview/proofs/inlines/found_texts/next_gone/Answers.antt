use Rattle.mdview.proofs.AlikeTexts.{walk_ends}
use Rattle.mdview.proofs.inlines.found_texts.next_gone.Goals as goal

pub returns : goal.returns
returns c = walk_ends (λ x. x.now) c.next.result c.args.held.now c.next.new.self c.next.ensures.steps
