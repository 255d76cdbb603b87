use Rattle.mdview.specs.NewText.{lines_of}
use Rattle.mdview.proofs.Ahead.{first_comes, left_at, left_behind, something_comes}
use Rattle.mdview.proofs.source.new_text.NewText.line.Goals as goal

pub unwrap-requires : goal.unwrap-requires
unwrap-requires c =
    something_comes (λ line. line.now) c.next.result c.args.ahead.now c.next.new.self c.next.ensures.steps (left_at (lines_of c.args.self.now) c.args.ahead.now c.args.i c.requires.ahead c.requires.within)

pub returns-clause-ahead : goal.returns-clause-ahead
returns-clause-ahead c =
    left_behind (lines_of c.args.self.now) c.args.ahead.now c.next.new.self c.unwrap.result.now c.args.i c.requires.ahead
    (first_comes (λ line. line.now) c.next.result c.args.ahead.now c.next.new.self c.unwrap.result c.next.ensures.steps c.unwrap.ensures)
