use Rattle.std.proofs.Common.{Err, IfOk, None, false, refl, sym, ap, subst, ◌∙◌}
use Rattle.blockspec.specs.BlockLine.{BlockLine}
use Rattle.mdblock.specs.declared.faults.LineFault.TheVariants.{TooDeep}
use Rattle.mdblock.specs.held.Reads.{HandsOn, SinksBehind}
use Rattle.mdblock.proofs.CloseLaws.{if_ok}
use Rattle.mdblock.proofs.NextLineLaws.{hands_new, sinks_new, begins_shut, begins_outside, follows_on, adds_on, sinks_on, blank_on}
use Rattle.mdblock.proofs.LevelBegins.{err_is}
use Rattle.mdblock.proofs.readers.OpenUnit.read.Goals as goal

pub returns-then-is_blank-clause-next : goal.returns-then-is_blank-clause-next
returns-then-is_blank-clause-next c =
    let l = c.new-line.result in
    let old = c.args.self.now in
    let new = record old { level = c.pass_blank.new.self; joined = false } in
    subst (λ z. HandsOn c.args.limit c.args.fed old z None new) c.new-line.ensures
    (blank_on c.args.limit c.args.fed old new l (sym c.is_shut.ensures ∙ c.if-is_shut.true)
    (sym c.is_blank.ensures ∙ c.if-is_blank.true) (ap (λ (z : BlockLine). z.lazy) c.new-line.ensures) c.pass_blank.ensures refl refl refl refl)

pub returns-then-is_shut-clause-next : goal.returns-then-is_shut-clause-next
returns-then-is_shut-clause-next c =
    let l = c.new-line.result in
    let old = c.args.self.now in
    let lazy = ap (λ (z : BlockLine). z.lazy) c.new-line.ensures in
    subst (λ z. IfOk c.begin_unit.result (λ found. HandsOn c.args.limit c.args.fed old z found c.begin_unit.new.self)) c.new-line.ensures
    (if_ok c.begin_unit.result _ _
    (λ found b. hands_new c.args.limit c.args.fed old c.begin_unit.new.self l found b
    (begins_shut old l lazy (sym c.is_shut.ensures ∙ c.if-is_shut.true) (sym c.is_blank.ensures ∙ c.if-is_blank.false))) c.begin_unit.ensures.begins)

pub returns-then-is_shut-clause-deep : goal.returns-then-is_shut-clause-deep
returns-then-is_shut-clause-deep c = λ err.
    let l = c.new-line.result in
    let old = c.args.self.now in
    let lazy = ap (λ (z : BlockLine). z.lazy) c.new-line.ensures in
    subst (SinksBehind c.args.limit old) c.new-line.ensures
    (sinks_new c.args.limit old l (c.begin_unit.ensures.deep err) (begins_shut old l lazy (sym c.is_shut.ensures ∙ c.if-is_shut.true) (sym c.is_blank.ensures ∙ c.if-is_blank.false)))

pub returns-in_err-read-clause-deep : goal.returns-in_err-read-clause-deep
returns-in_err-read-clause-deep c = λ err.
    let l = c.new-line.result in
    let lazy = ap (λ (z : BlockLine). z.lazy) c.new-line.ensures in
    subst (SinksBehind c.args.limit c.args.self.now) c.new-line.ensures (sinks_on c.args.limit c.args.self.now l lazy (c.in_err-read.ensures.deep (ap Err (sym (err_is c.from_residual.result _ TooDeep c.from_residual.ensures.1 err)))))

pub returns-then-is_followed_by-clause-next : goal.returns-then-is_followed_by-clause-next
returns-then-is_followed_by-clause-next c =
    let l = c.new-line.result in
    let old = c.args.self.now in
    let new = record old { level = c.read.new.self; gathering = c.read.new.gathering; joined = false } in
    subst (λ z. HandsOn c.args.limit c.args.fed old z None new) c.new-line.ensures
    (follows_on c.args.limit c.args.fed old new l c.in_ok-read.ensures.grows.1 refl refl refl (ap (λ (z : BlockLine). z.lazy) c.new-line.ensures)
    (c.is_followed_by.ensures.yes c.if-is_followed_by.true) c.in_ok-read.ensures.adds)

pub returns-then-begins_block-clause-next : goal.returns-then-begins_block-clause-next
returns-then-begins_block-clause-next c =
    let l = c.new-line.result in
    let old = c.args.self.now in
    let lazy = ap (λ (z : BlockLine). z.lazy) c.new-line.ensures in
    let continues = c.continuation-continuation.ensures.last (c.is_followed_by.ensures.no c.if-is_followed_by.false) in
    let begins = begins_outside old l c.continuation-continuation.result lazy continues (sym c.begins_block.ensures ∙ c.if-begins_block.true) in
    let unit = c.begin_unit-then-begins_block in
    subst (λ z. IfOk unit.result (λ found. HandsOn c.args.limit c.args.fed old z found unit.new.self)) c.new-line.ensures
    (if_ok unit.result _ _ (λ found b. hands_new c.args.limit c.args.fed old unit.new.self l found b begins) unit.ensures.begins)

pub returns-then-begins_block-clause-deep : goal.returns-then-begins_block-clause-deep
returns-then-begins_block-clause-deep c = λ err.
    let l = c.new-line.result in
    let old = c.args.self.now in
    let lazy = ap (λ (z : BlockLine). z.lazy) c.new-line.ensures in
    let continues = c.continuation-continuation.ensures.last (c.is_followed_by.ensures.no c.if-is_followed_by.false) in
    let begins = begins_outside old l c.continuation-continuation.result lazy continues (sym c.begins_block.ensures ∙ c.if-begins_block.true) in
    subst (SinksBehind c.args.limit old) c.new-line.ensures (sinks_new c.args.limit old l (c.begin_unit-then-begins_block.ensures.deep err) begins)

pub returns-in_err-add-clause-deep : goal.returns-in_err-add-clause-deep
returns-in_err-add-clause-deep c = λ err.
    let l = c.new-line.result in
    let lazy = ap (λ (z : BlockLine). z.lazy) c.new-line.ensures in
    subst (SinksBehind c.args.limit c.args.self.now) c.new-line.ensures
    (sinks_on c.args.limit c.args.self.now l lazy (c.in_err-add.ensures.deep (ap Err (sym (err_is c.from_residual-in_err-add.result _ TooDeep c.from_residual-in_err-add.ensures.1 err)))))

pub returns-clause-next : goal.returns-clause-next
returns-clause-next c =
    let l = c.new-line.result in
    let old = c.args.self.now in
    let lazy = ap (λ (z : BlockLine). z.lazy) c.new-line.ensures in
    let continues = c.continuation-continuation.ensures.last (c.is_followed_by.ensures.no c.if-is_followed_by.false) in
    let new = record old { level = c.add.new.self; gathering = c.add.new.gathering; joined = false } in
    subst (λ z. HandsOn c.args.limit c.args.fed old z None new) c.new-line.ensures
    (adds_on c.args.limit c.args.fed old new l c.continuation-continuation.result c.in_ok-add.ensures.grows.1 refl refl refl lazy continues
    (sym c.begins_block.ensures ∙ c.if-begins_block.false) (sym c.begins_item.ensures ∙ c.if-begins_item.false) c.in_ok-add.ensures.adds)
