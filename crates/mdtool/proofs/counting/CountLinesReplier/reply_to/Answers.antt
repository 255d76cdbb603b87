use Rattle.mdtool.specs.Views.{command_view}
use Rattle.mdtool.proofs.CountedScripts.{count_replied}
use Rattle.mdtool.proofs.counting.CountLinesReplier.reply_to.Goals as goal

pub returns : goal.returns
returns c =
    count_replied c.count_line.result c.args.preview.now c.counted.new.preview (command_view c.args.command.now) _ _ c.in_ok-count.ensures c.count_line.ensures
