use Rattle.std.proofs.Common.{◌≡◌, ◌++◌, ap, ◌∙◌, string_bytes, arith}
use Rattle.std.proofs.lemmas.Grind.{common_steps}
use Rattle.mdtext.specs.Unescaped.{added, meaning, unescaped}
use Rattle.mdtext.proofs.Meanings.{write_run, write_last}
use Rattle.mdtext.proofs.unescapes.append_unescaped.Goals as goal

pub returns-in_default-clause-ok : goal.returns-in_default-clause-ok
returns-in_default-clause-ok c =
    c.in_ok-push_str.ensures.bytes
    ∙ write_last _ _ _ _ _ _ c.of-specials.ensures c.split_at_special.ensures.plain (rw c.in_default.is at c.split_at_special.ensures.whole) c.loop-byte.invariant.written

pub loop-byte-preserved : goal.loop-byte-preserved
loop-byte-preserved c =
    let whole = rw c.in-Some.is at c.split_at_special.ensures.whole in
    let m = meaning c.args.entities.now c.in-Some.byte c.in-Some.after.now in
    let bytes : string_bytes c.push_meaning.new.out ≡ string_bytes c.push_str.new.self ++ m.1 = ap (λ p. p.1) c.in_ok-taken.ensures.ok in
    record {
      text = c.range_from-rest.utf8;
      written = ap (λ r. string_bytes c.push_meaning.new.out ++ unescaped c.args.entities.now r) c.range_from-rest.ensures.value
          ∙ write_run _ _ _ _ _ _ _ _ _ _ c.of-specials.ensures c.split_at_special.ensures.plain whole (c.in_ok-taken.ensures.ok ∙ ap (λ t. added t m) c.in_ok-push_str.ensures.bytes) c.loop-byte.invariant.written;
      keeps = grind (arith, common_steps, c.loop-byte.invariant.keeps, bytes, c.in_ok-push_str.ensures.bytes);
    }
