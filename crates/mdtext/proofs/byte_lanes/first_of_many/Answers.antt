use Rattle.std.proofs.Common.{◌∙◌, sym, arith, not}
use Rattle.std.proofs.lemmas.List.Sums.{prefix_len-le-length}
use Rattle.mdtext.specs.ByteClass.{in_class}
use Rattle.mdtext.proofs.Lanes.{found_here, last_block, not_here}
use Rattle.mdtext.proofs.byte_lanes.first_of_many.Goals as goal

pub returns-then-stop-lt32 : goal.returns-then-stop-lt32
returns-then-stop-lt32 c =
    sym (found_here _ c.args.bytes.now _ 32 _ (omega (arith, c.loop-at-test.true)) c.first_in_block-stop.ensures c.if-stop-lt32.true) ∙ c.loop-at.invariant.none_before

pub loop-at-preserved : goal.loop-at-preserved
loop-at-preserved c = record {
  small = c.loop-at.invariant.small;
  within = omega (arith, c.loop-at-test.true);
  none_before = sym (not_here _ c.args.bytes.now _ 32 _ (omega (arith, c.loop-at-test.true)) c.first_in_block-stop.ensures c.if-stop-lt32.false) ∙ c.loop-at.invariant.none_before;
}

pub overflow_add-result-2 : goal.overflow_add-result-2
overflow_add-result-2 c =
    let bytes = c.args.bytes.now in
    let all = last_block (in_class c.args.class.now) bytes c.loop-at.at 32 c.first_in_block.result (omega (arith, c.if-len-lt32.false)) (omega (arith, c.loop-at-test.false, c.loop-at.invariant.within)) c.loop-at.invariant.none_before c.first_in_block.ensures in
    omega (arith, all, prefix_len-le-length (λ x. not (in_class c.args.class.now x)) bytes, c.loop-at.invariant.small)

pub returns : goal.returns
returns c =
    last_block (in_class c.args.class.now) c.args.bytes.now c.loop-at.at 32 c.first_in_block.result (omega (arith, c.if-len-lt32.false)) (omega (arith, c.loop-at-test.false, c.loop-at.invariant.within)) c.loop-at.invariant.none_before c.first_in_block.ensures
