use Rattle.std.proofs.Common.{◌∙◌, rules, take, drop, sym, ap, ◌+◌}
use Rattle.std.proofs.lemmas.List.{take-append-drop}
use Rattle.std.proofs.lemmas.Result.{err_from_is_err_and}
use Rattle.mdtool.proofs.Devices.{gains_more, take_on}
use Rattle.mdtool.proofs.device.put_all.Goals as goal

pub returns-in_err-at : goal.returns-in_err-at
returns-in_err-at g c =
    let p = err_from_is_err_and c.from_residual.result c.from_residual.ensures.1 in
    rw p.1 ((take c.loop-at.at c.args.bytes.now, drop c.loop-at.at c.args.bytes.now, sym (take-append-drop _ _), rw c.in_err-at.ensures.stays c.loop-at.invariant.written), c.in_err-at.ensures.err ∙ ap (λ n. n + 1) c.loop-at.invariant.failures)

pub loop-at-preserved : goal.loop-at-preserved
loop-at-preserved g c = record {
  in_range = search rules;
  written = rw (take_on c.loop-at.at c.in_ok-at.field-0 c.args.bytes.now) (gains_more _ _ _ _ _ c.loop-at.invariant.written c.in_ok-at.ensures.gains);
  failures = c.in_ok-at.ensures.ok ∙ c.loop-at.invariant.failures;
}
