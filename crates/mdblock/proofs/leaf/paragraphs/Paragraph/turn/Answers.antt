use Rattle.std.proofs.Common.{ℕ, List, IfOk, subst, ◌-◌, take, drop}
use Rattle.blockspec.specs.BlockLine.{rest}
use Rattle.mdblock.specs.held.HandedIn.{gathered_texts}
use Rattle.mdblock.specs.held.HeldTables.{IsTableBehind, first_rows}
use Rattle.mdblock.proofs.ParagraphLaws.{last_is}
use Rattle.mdblock.proofs.leaf.paragraphs.Paragraph.turn.Goals as goal

pub returns-in-Delimits-clause-delimited : goal.returns-in-Delimits-clause-delimited
returns-in-Delimits-clause-delimited c = λ lines above h e.
    let front = take (c.args.self.last - 1) c.args.self.text in
    let last = drop c.args.self.last c.args.self.text in
    let old = gathered_texts c.args.gathering.now in
    let new = gathered_texts c.turn_into_table.new.gathering in
    subst (λ (z : List ℕ). IfOk c.turn_into_table.result (IsTableBehind c.args.first front (first_rows z (rest c.args.line.now)) old new)) (last_is lines c.args.self h)
    (subst (λ (z : List ℕ). IfOk c.turn_into_table.result (IsTableBehind c.args.first front (first_rows last z) old new)) c.text.ensures c.turn_into_table.ensures.table)
