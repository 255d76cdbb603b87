use Rattle.std.proofs.Common.{string_bytes}
use Rattle.mdinline.proofs.JoinedRows.{cut_inside}
use Rattle.mdinline.proofs.trees.insides.take_inside.Goals as goal

pub returns-clause-inside : goal.returns-clause-inside
returns-clause-inside c =
    cut_inside c.args.row.now.items c.push_text.new.row.items c.in_ok-inside.inside.items c.args.begin (string_bytes c.args.text.now) c.requires c.in_ok-push_text.ensures.row
    c.in_ok-inside.ensures.tail
