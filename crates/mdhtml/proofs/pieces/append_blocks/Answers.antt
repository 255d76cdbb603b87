use Rattle.std.proofs.Common.{ap, ◌∙◌, string_bytes}
use Rattle.mdblock.specs.BlockView.{blocks_view}
use Rattle.mdhtml.specs.held.UnitTexts.{shown_texts}
use Rattle.htmlspec.specs.BlockHtml.{ends_line}
use Rattle.mdhtml.proofs.Appended.{blocks_appended}
use Rattle.mdhtml.proofs.Ends.{ends_blocks}
use Rattle.mdhtml.proofs.pieces.append_blocks.Goals as goal

pub returns-clause-value : goal.returns-clause-value
returns-clause-value c =
    c.in_ok-write_blocks.ensures ∙ blocks_appended c.args.texts.now.options.now (shown_texts c.args.texts.now) (blocks_view c.args.blocks.now) (string_bytes c.args.out.now) c.requires.on_a_line

pub returns-clause-ends_line : goal.returns-clause-ends_line
returns-clause-ends_line c =
    ap ends_line c.in_ok-write_blocks.ensures ∙ ends_blocks c.args.texts.now.options.now (shown_texts c.args.texts.now) (blocks_view c.args.blocks.now) (string_bytes c.args.out.now) c.requires.on_a_line
