use Rattle.std.proofs.Common.{◌++◌, ap, ◌∙◌, string_bytes, arith}
use Rattle.std.proofs.lemmas.Grind.{common_steps}
use Rattle.mdtext.specs.HtmlEscapes.{escaped}
use Rattle.mdtext.proofs.PlainRuns.{write_run, write_last}
use Rattle.mdtext.proofs.Specials.{escapes_specials}
use Rattle.mdtext.proofs.html_escapes.append_escaped.Goals as goal

pub returns-in_default-clause-ok : goal.returns-in_default-clause-ok
returns-in_default-clause-ok c =
    c.in_ok-push_str.ensures.bytes
    ∙ write_last _ _ escapes_specials _ _ _ _ _ c.of-specials.ensures c.split_at_special.ensures.plain (rw c.in_default.is at c.split_at_special.ensures.whole) c.loop-byte.invariant.written

pub loop-byte-preserved : goal.loop-byte-preserved
loop-byte-preserved c =
    let whole = rw c.in-Some.is at c.split_at_special.ensures.whole in
    record {
      text = rw c.in-Some.is at c.split_at_special.ensures.text;
      written = ap (λ l. l ++ escaped c.in-Some.after.now) (c.in_ok-push_str-2.ensures.bytes ∙ ap (λ l. l ++ c.reference.result.now) c.in_ok-push_str.ensures.bytes ∙ ap (λ l. (string_bytes c.loop-byte.out ++ c.split_at_special.result.0.now) ++ l) c.reference.ensures)
          ∙ write_run _ _ escapes_specials _ _ _ _ _ _ _ c.of-specials.ensures c.split_at_special.ensures.plain whole c.loop-byte.invariant.written;
      keeps = grind (arith, common_steps, c.loop-byte.invariant.keeps, c.in_ok-push_str-2.ensures.bytes, c.in_ok-push_str.ensures.bytes);
    }
