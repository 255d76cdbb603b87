use Rattle.std.specs.BTreeMap.{get}
use Rattle.std.specs.Ordering.{nat_cmp}
use Rattle.mdinline.proofs.LastStrings.{held_more}
use Rattle.mdinline.proofs.code_spans.last_runs.Goals as goal

pub loop-run-preserved : goal.loop-run-preserved
loop-run-preserved c =
    let run = c.in-Some.run' in
    record {
      within = c.in-Some.ensures.place.ends.within;
      held = held_more c.args.text.now c.loop-run.at run.start run.end (get nat_cmp c.loop-run.last) (get nat_cmp c.insert.new.self) c.in-Some.ensures.value
          c.in_ok-insert.ensures.updates.0 c.loop-run.invariant.held;
    }
