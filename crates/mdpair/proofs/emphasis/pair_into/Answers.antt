use Rattle.std.proofs.Common.{◌≡◌, [], drop, subst, arith}
use Rattle.std.proofs.lemmas.Grind.{common_steps}
use Rattle.mdpair.specs.Matches.{whole, onto, stack, Rewrites}
use Rattle.mdpair.proofs.Sweep.{all_matches, no_match, lives_at}
use Rattle.mdpair.proofs.emphasis.pair_into.Goals as goal

pub returns-clause-value : goal.returns-clause-value
returns-clause-value c =
    let none : drop c.loop-place.place c.args.runs.now ≡ [] = grind (arith, common_steps) in
    all_matches c.args.runs.now c.loop-place.found.items (stack c.loop-place.passed.items) c.loop-place.invariant.clear
    (subst (λ rs. Rewrites (whole 0 c.args.runs.now) c.loop-place.found.items (onto (stack c.loop-place.passed.items) (whole c.loop-place.place rs))) none c.loop-place.invariant.rewrites)

pub returns-clause-processed : goal.returns-clause-processed
returns-clause-processed c =
    let none : drop c.loop-place.place c.args.runs.now ≡ [] = grind (arith, common_steps) in
    record {
      end = onto (stack c.loop-place.passed.items) [];
      rewrites = subst (λ rs. Rewrites (whole 0 c.args.runs.now) c.loop-place.found.items (onto (stack c.loop-place.passed.items) (whole c.loop-place.place rs))) none c.loop-place.invariant.rewrites;
      done = no_match (stack c.loop-place.passed.items) c.loop-place.invariant.clear;
    }

pub loop-place-preserved : goal.loop-place-preserved
loop-place-preserved c = record {
  rewrites = c.in_ok-pass.ensures.rewrites (whole 0 c.args.runs.now) _ (subst (λ ls. Rewrites (whole 0 c.args.runs.now) c.loop-place.found.items (onto (stack c.loop-place.passed.items) ls)) (lives_at c.args.runs.now c.loop-place.place _ c.loop-place-test.true) c.loop-place.invariant.rewrites);
  clear = c.in_ok-pass.ensures.clear;
  each = c.in_ok-pass.ensures.each;
  low = c.in_ok-pass.ensures.low;
  falls = c.in_ok-pass.ensures.falls;
  bottoms = c.in_ok-pass.ensures.bottoms;
  ordered = c.in_ok-pass.ensures.ordered _ (omega arith) c.loop-place.invariant.ordered;
}
