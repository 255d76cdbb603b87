use Rattle.std.proofs.Common.{◌≡◌, ◌+◌, ◌-◌, ◌<◌, ◌∙◌, append-nil, length, take, ap, refl, sym, arith}
use Rattle.std.proofs.Math.ListN.{set}
use Rattle.mdblock.proofs.Exchanges.{back_swapped, between_swapped}
use Rattle.mdblock.proofs.units.insets.swap_between.Goals as goal

pub loop-i-init : goal.loop-i-init
loop-i-init g c =
    let zero : c.args.start + 0 ≡ c.args.start = omega arith in
    record {
      front = ap (λ z. take z c.args.items.now.items) zero ∙ sym (append-nil (take c.args.start c.args.items.now.items));
      back = refl;
      rest = refl;
      lengths = (refl, refl);
    }

pub loop-i-preserved : goal.loop-i-preserved
loop-i-preserved g c =
    let i = c.loop-i.i in
    let s = c.args.start in
    let j = s + i in
    let w = c.loop-i.invariant in
    let inside : i < c.args.end - s = omega (arith, c.loop-i-test.true, c.loop-i.auto.i-end) in
    let room : j < length c.loop-i.items.items = omega (arith, inside, w.lengths.0, c.loop-i.items.ok.0, c.args.items.now.ok.0, c.requires.within) in
    let more : i < length c.loop-i.others.items = omega (arith, inside, w.lengths.1, c.loop-i.others.ok.0, c.args.others.now.ok.0, c.requires.enough) in
    let same : length c.loop-i.others.items ≡ length c.args.others.now.items = omega (arith, w.lengths.1, c.loop-i.others.ok.0, c.args.others.now.ok.0) in
    let next : s + (i + 1) ≡ j + 1 = omega arith in
    record {
      front = ap (λ k. take k (set c.loop-i.items.items j c.swap.new.x)) next
          ∙ between_swapped (take s c.args.items.now.items) c.args.others.now.items c.loop-i.items.items c.loop-i.others.items j i c.swap.new.x _ room more same w.front w.rest
          (c.swap.ensures.x_after ∙ c.index_mut-in-loop-i.ensures.value);
      back = back_swapped c.loop-i.items.items c.args.items.now.items (s + (i + 1)) j c.swap.new.x next w.back;
      rest = back_swapped c.loop-i.others.items c.args.others.now.items (i + 1) i c.swap.new.y (omega arith) w.rest;
      lengths = w.lengths;
    }
