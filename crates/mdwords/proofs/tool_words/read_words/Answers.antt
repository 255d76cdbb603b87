use Rattle.std.proofs.Common.{◌≡◌, [], map}
use Rattle.std.proofs.lemmas.Result.{IfErr-weaker, IfOk-weaker}
use Rattle.clap.specs.Words.{HasKind, kind_of}
use Rattle.mdwords.proofs.DueRefusals.{due_by_error, due_by_matches, said_of_faults, said_of_rows}
use Rattle.mdwords.proofs.tool_words.read_words.Goals as goal

pub returns-in-Ok-clause-read : goal.returns-in-Ok-clause-read
returns-in-Ok-clause-read c =
    let words = map (λ word. word.now) c.args.words.now in
    let rows = said_of_rows _ _ words c.in-Ok.matches c.in_ok-command.ensures c.program_of.ensures c.in-Ok.ensures.matches in
    IfOk-weaker c.read_matches.result _ _ (λ read said. said words rows) c.read_matches.ensures.read

pub returns-in-Ok-clause-taken : goal.returns-in-Ok-clause-taken
returns-in-Ok-clause-taken c =
    let words = map (λ word. word.now) c.args.words.now in
    let taken = said_of_faults (λ kinds. kinds ≡ []) _ _ words c.in_ok-command.ensures c.program_of.ensures c.in-Ok.ensures.kinds in
    IfOk-weaker c.read_matches.result _ _ (λ read said. taken) c.read_matches.ensures.limits

pub returns-in-Ok-clause-refused : goal.returns-in-Ok-clause-refused
returns-in-Ok-clause-refused c =
    let words = map (λ word. word.now) c.args.words.now in
    let rows = said_of_rows _ _ words c.in-Ok.matches c.in_ok-command.ensures c.program_of.ensures c.in-Ok.ensures.matches in
    let taken = said_of_faults (λ kinds. kinds ≡ []) _ _ words c.in_ok-command.ensures c.program_of.ensures c.in-Ok.ensures.kinds in
    IfErr-weaker c.read_matches.result _ _ (λ fault. due_by_matches words c.in-Ok.matches fault taken rows) c.read_matches.ensures.refused

pub returns-in-Err-clause-refused : goal.returns-in-Err-clause-refused
returns-in-Err-clause-refused c =
    let words = map (λ word. word.now) c.args.words.now in
    let told = said_of_faults (λ kinds. HasKind kinds c.in-Err.error) _ _ words c.in_ok-command.ensures c.program_of.ensures c.in-Err.ensures.kinds in
    due_by_error words (kind_of c.in-Err.error) c.fault_of.result told c.fault_of.ensures
