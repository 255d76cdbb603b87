use Rattle.mdinline.proofs.Marks.{behind_next}
use Rattle.mdinline.proofs.line_breaks.past_break.Goals as goal

pub returns-clause-end : goal.returns-clause-end
returns-clause-end c = behind_next c.args.text.now c.as_bytes.result.now c.args.at c.args.feed c.past_marks.result c.as_bytes.ensures.value c.utf8.text c.requires.from c.past_marks.ensures.end
