use Rattle.std.proofs.Common.{not, ap, sym, ◌∙◌}
use Rattle.std.specs.Option.{option_map}
use Rattle.mdblock.specs.held.StartKind.{kind_of_start}
use Rattle.mdblock.proofs.Interrupts.{lazily_none, lazily_some}
use Rattle.mdblock.proofs.block_starts.continues_lazily.Goals as goal

pub returns-in-None : goal.returns-in-None
returns-in-None c =
    let l = c.args.line.now in
    ap not c.is_blank.ensures ∙ lazily_none l (sym (ap (option_map (kind_of_start l)) c.in-None.is) ∙ c.requires.1)

pub returns-in-Some : goal.returns-in-Some
returns-in-Some c =
    let l = c.args.line.now in
    c.stays_lazy.ensures l ∙ lazily_some l (kind_of_start l c.in-Some.found) (sym (ap (option_map (kind_of_start l)) c.in-Some.is) ∙ c.requires.1)
