use Rattle.std.proofs.Common.{sym, ◌∙◌}
use Rattle.mdblock.proofs.LevelAdds.{quote_is_followed, item_is_followed}
use Rattle.mdblock.proofs.open_blocks.Level.is_followed_by.Goals as goal

pub returns-in-Quote-clause-yes : goal.returns-in-Quote-clause-yes
returns-in-Quote-clause-yes c = λ is. quote_is_followed c.args.self.now c.in-Quote.field-0 c.args.line.now c.in-Quote.is (sym c.matches.ensures.value ∙ is)

pub returns-in-List-clause-yes : goal.returns-in-List-clause-yes
returns-in-List-clause-yes c = λ is. item_is_followed c.args.self.now c.in-List.field-0 c.in-List.list c.args.line.now c.in-List.is (sym c.matches-in-List.ensures ∙ is)
