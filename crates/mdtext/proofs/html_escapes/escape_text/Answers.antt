use Rattle.std.proofs.Common.{arith, rules, length, ◌≤◌, take, string_bytes, sym, ap, ◌∙◌, subst}
use Rattle.std.proofs.lemmas.Str.{IsCharBoundary-from_take, IsUtf8-string_bytes}
use Rattle.std.proofs.lemmas.Grind.{common_steps}
use Rattle.std.specs.Str.{IsUtf8}
use Rattle.mdtext.proofs.html_escapes.escape_text.Goals as goal

pub truncate-requires : goal.truncate-requires
truncate-requires c =
    let kept = ap (λ n. take n (string_bytes c.append_escaped.new.out)) c.len-len.ensures ∙ c.append_escaped.ensures.keeps in
    λ le. let within : c.len-len.result ≤ length (string_bytes c.append_escaped.new.out) = first_of (search rules, grind (arith, common_steps), omega (arith, c.append_escaped.new.out.bytes.ok.0)) in
    let b = IsCharBoundary-from_take (string_bytes c.append_escaped.new.out) c.len-len.result (IsUtf8-string_bytes c.append_escaped.new.out) within (subst IsUtf8 (sym kept) (IsUtf8-string_bytes c.args.out.now)) in
    (b.0, λ _. b.1)
