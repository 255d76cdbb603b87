use Rattle.std.proofs.Common.{◌≡◌, refl, ap, ◌∙◌, false}
use Rattle.std.specs.Prelude.{not}
use Rattle.std.proofs.lemmas.Result.{err_from_is_err_and}
use Rattle.mdtool.specs.Commands.{Done}
use Rattle.mdtool.proofs.Readings.{draws_of}
use Rattle.mdtool.proofs.ServeRuns.{Run, run_start, run_more, run_stops, run_starves, run_breaks}
use Rattle.mdtool.proofs.ServeEnds.{ends_so}
use Rattle.mdtool.proofs.serving.answer.Given.{Over}
use Rattle.mdtool.proofs.serving.answer.Goals.{After-is_err}
use Rattle.mdtool.proofs.serving.answer.Goals as goal

pub loop-script-init : goal.loop-script-init
loop-script-init g c = record { run = run_start _ _ _ _ _ c.new-script.ensures refl; feed = refl; out = refl }

pub returns-in_err-command-clause-served : goal.returns-in_err-command-clause-served
returns-in_err-command-clause-served g c =
    let p = err_from_is_err_and c.from_residual.result c.from_residual.ensures.1 in
    rw (p.1, p.2) (ends_so (Unit {0}) (g.A.Replier.says c.args.replier.now) c.in_err-command.field-0.0 _ _ _ _ _ _ _ _ _ c.loop-script.invariant.run c.in_err-command.ensures.next)

pub returns-in_err-reply-clause-served : goal.returns-in_err-reply-clause-served
returns-in_err-reply-clause-served g c =
    let read = rw c.in-Some.is at c.in_ok-command.ensures.next in
    let p = err_from_is_err_and c.from_residual-in_err-reply.result c.from_residual-in_err-reply.ensures.1 in
    rw (p.1, p.2) (run_starves _ _ _ _ _ _ _ _ c.loop-script.invariant.run (draws_of _ _ _ _ _ read.reads))

pub returns-then-is_err-clause-served : goal.returns-then-is_err-clause-served
returns-then-is_err-clause-served g c =
    let read = rw c.in-Some.is at c.in_ok-command.ensures.next in
    let front = rw (c.is_err.ensures.negation ∙ ap not c.if-is_err.true, c.as_bytes.ensures.value, c.as_str.ensures.value) at c.send.ensures in
    run_breaks _ _ _ _ _ _ _ _ _ _ _ _ _ c.loop-script.invariant.run read c.in_ok-reply.ensures front.0

-- the reply was sent, and the script goes on
goes_on : (g : Over) (c : After-is_err g) → c.is_err.result ≡ false → record {
  run : Run (g.A.Replier.says c.args.replier.now) c.args.preview.now (g.R.Feed.left c.args.feed.now) (g.R.Feed.left c.next_command.new.feed) c.next_command.new.self
      (g.W.Out.written c.args.out.now) (g.W.Out.written c.send.new.out) c.reply_to.new.preview;
  feed : g.R.Feed.failures c.next_command.new.feed ≡ g.R.Feed.failures c.args.feed.now;
  out : g.W.Out.failures c.send.new.out ≡ g.W.Out.failures c.args.out.now;
}
goes_on g c sent =
    let read = rw c.in-Some.is at c.in_ok-command.ensures.next in
    let gained = rw (c.is_err.ensures.negation ∙ ap not sent, c.as_bytes.ensures.value, c.as_str.ensures.value) at c.send.ensures in
    record {
      run = run_more _ _ _ _ _ _ _ _ _ _ _ _ _ c.loop-script.invariant.run read c.in_ok-reply.ensures gained.0;
      feed = c.in_ok-command.ensures.failures ∙ c.loop-script.invariant.feed;
      out = gained.1 ∙ c.loop-script.invariant.out;
    }

pub loop-script-preserved-else-is_err : goal.loop-script-preserved-else-is_err
loop-script-preserved-else-is_err g c = goes_on g (goal.at.loop-script-preserved-else-is_err g c).After-is_err c.if-is_err.false

pub loop-script-preserved-else-is_err-2 : goal.loop-script-preserved-else-is_err-2
loop-script-preserved-else-is_err-2 g c = goes_on g (goal.at.loop-script-preserved-else-is_err-2 g c).After-is_err c.if-is_err.false

pub loop-script-preserved : goal.loop-script-preserved
loop-script-preserved g c = goes_on g (goal.at.loop-script-preserved g c).After-is_err c.if-is_err.false

pub returns-clause-served : goal.returns-clause-served
returns-clause-served g c = run_stops _ _ _ _ _ _ _ _ Done c.loop-script.invariant.run (rw c.in_default.is at c.in_ok-command.ensures.next)
