use Rattle.std.proofs.Common.{◌+◌, arith}
use Rattle.mdinline.proofs.WrittenRuns.{before_stop, written_to}
use Rattle.mdinline.proofs.texts.text_end.Goals.{else-stop-text-via-then-stop-text+else-text-stop-eq10, else-stop-text-via-else-stop-text}
use Rattle.mdinline.proofs.texts.text_end.Goals as goal

pub returns-then-text-stop-eq10-clause-value : goal.returns-then-text-stop-eq10-clause-value
returns-then-text-stop-eq10-clause-value c =
    written_to c.args.text.now (c.args.at + 1) c.stop_from-stop.result c.without_spaces.result c.stop_from-stop.ensures.value (omega (arith, c.requires)) c.without_spaces.ensures.within
    (λ there feed. c.without_spaces.ensures.value)

pub returns-else-stop-text-clause-value : goal.returns-else-stop-text-clause-value
returns-else-stop-text-clause-value c =
    let stop = c.stop_from-stop.result in
    written_to c.args.text.now (c.args.at + 1) stop stop c.stop_from-stop.ensures.value (omega (arith, c.requires)) (omega arith)
    (λ there feed start last. elim c.else-stop-text.branch [
      | else-stop-text-via-then-stop-text+else-text-stop-eq10 w ↦ w.if-text-stop-eq10.false feed
      | else-stop-text-via-else-stop-text w ↦ omega (arith, there, w.if-stop-text.false)
    ])

pub returns-then-text-stop-eq10-clause-plain : goal.returns-then-text-stop-eq10-clause-plain
returns-then-text-stop-eq10-clause-plain c =
    let within = c.without_spaces.ensures.within in
    let stop = c.stop_from-stop.ensures.value in
    λ i from lt. before_stop c.args.text.now (c.args.at + 1) i from (omega (arith, within, stop, lt))

pub returns-else-stop-text-clause-plain : goal.returns-else-stop-text-clause-plain
returns-else-stop-text-clause-plain c =
    let stop = c.stop_from-stop.ensures.value in
    λ i from lt. before_stop c.args.text.now (c.args.at + 1) i from (omega (arith, stop, lt))
