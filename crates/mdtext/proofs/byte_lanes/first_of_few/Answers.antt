use Rattle.std.proofs.Common.{arith, not}
use Rattle.std.proofs.lemmas.List.Sums.{prefix_len-le-length}
use Rattle.mdtext.specs.ByteClass.{in_class}
use Rattle.mdtext.proofs.Lanes.{found_first, last_block, not_first}
use Rattle.mdtext.proofs.byte_lanes.first_of_few.Goals as goal

pub overflow_add-result : goal.overflow_add-result
overflow_add-result c =
    let bytes = c.args.bytes.now in
    let front = not_first (in_class c.args.class.now) bytes 16 c.first_in_half-stop.result (omega (arith, c.if-len-lt16.false)) c.first_in_half-stop.ensures (omega (arith, c.if-stop-lt16.false)) in
    let all = last_block (in_class c.args.class.now) bytes 16 16 c.first_in_half.result (omega (arith, c.if-len-lt16.false)) (omega (arith, c.requires)) front c.first_in_half.ensures in
    omega (arith, all, c.requires, prefix_len-le-length (λ x. not (in_class c.args.class.now x)) bytes)

pub returns-then-stop-lt16 : goal.returns-then-stop-lt16
returns-then-stop-lt16 c = found_first _ c.args.bytes.now 16 _ (omega (arith, c.if-len-lt16.false)) c.first_in_half-stop.ensures c.if-stop-lt16.true

pub returns : goal.returns
returns c =
    let bytes = c.args.bytes.now in
    let front = not_first (in_class c.args.class.now) bytes 16 c.first_in_half-stop.result (omega (arith, c.if-len-lt16.false)) c.first_in_half-stop.ensures (omega (arith, c.if-stop-lt16.false)) in
    last_block (in_class c.args.class.now) bytes 16 16 c.first_in_half.result (omega (arith, c.if-len-lt16.false)) (omega (arith, c.requires)) front c.first_in_half.ensures
