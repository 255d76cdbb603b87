use Rattle.std.proofs.Common.{◌++◌, ap, sym, ◌∙◌, string_bytes, ◌∷◌, []}
use Rattle.mdtext.specs.Lines.{without_nul}
use Rattle.mdtext.proofs.PlainRuns.{write_run, write_last}
use Rattle.mdtext.proofs.Specials.{replaces_nul, clean_nul}
use Rattle.mdtext.proofs.lines.clean_line.Goals as goal

pub returns-in_default : goal.returns-in_default
returns-in_default c =
    c.in_ok-push_str.ensures.bytes
    ∙ write_last _ _ replaces_nul _ _ _ _ _ c.of-nul.ensures c.split_at_special.ensures.plain (rw c.in_default.is at c.split_at_special.ensures.whole) c.loop-clean.invariant.written

pub loop-clean-preserved : goal.loop-clean-preserved
loop-clean-preserved c =
    let whole = rw c.in-Some.is at c.split_at_special.ensures.whole in
    let nul = rw c.in-Some.is at c.split_at_special.ensures.special in
    let replaced = clean_nul _ _ c.of-nul.ensures nul in
    record {
      text = rw c.in-Some.is at c.split_at_special.ensures.text;
      written = ap (λ l. l ++ without_nul c.in-Some.after.now) (c.in_ok-push_str-2.ensures.bytes ∙ ap (λ l. l ++ 0xEF ∷ 0xBF ∷ 0xBD ∷ []) c.in_ok-push_str.ensures.bytes ∙ ap (λ l. (string_bytes c.loop-clean.clean ++ c.split_at_special.result.0.now) ++ l) (sym replaced))
          ∙ write_run _ _ replaces_nul _ _ _ _ _ _ _ c.of-nul.ensures c.split_at_special.ensures.plain whole c.loop-clean.invariant.written;
    }
