use Rattle.std.proofs.Common.{length}
use Rattle.inlinespec.specs.InlineEvents.{written}
use Rattle.mdinline.specs.held.OpenSpans.{bytes_open}
use Rattle.mdinline.specs.held.TreeTakings.{takes_leaf}
use Rattle.mdinline.proofs.JoinedRows.{text_kept}
use Rattle.mdinline.proofs.trees.TreeBuilderInlineSink.text.Goals as goal

pub returns : goal.returns
returns c =
    takes_leaf c.args.self.now c.add_text.new.self (written c.args.text.now) c.in_ok-add_text.ensures.events c.in_ok-add_text.ensures.frames
    (bytes_open (length c.args.self.now.frames.items) c.args.text.now)
    (λ h. text_kept c.args.self.now c.add_text.new.self h c.in_ok-add_text.ensures.frames c.in_ok-add_text.ensures.row)
