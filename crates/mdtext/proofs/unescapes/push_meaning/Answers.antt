use Rattle.std.proofs.Common.{◌≡◌, subst, string_bytes, IfOk}
use Rattle.mdtext.specs.Unescaped.{added}
use Rattle.mdtext.proofs.Meanings.{at_backslash, at_ampersand}
use Rattle.mdtext.proofs.unescapes.push_meaning.Goals as goal

pub returns-then-byte-eq92-clause-ok : goal.returns-then-byte-eq92-clause-ok
returns-then-byte-eq92-clause-ok c = subst (λ m. IfOk c.push_escape.result (λ taken. (taken, string_bytes c.push_escape.new.out) ≡ added (string_bytes c.args.out.now) m)) (at_backslash c.args.entities.now _ c.args.after.now c.if-byte-eq92.true) c.push_escape.ensures.ok

pub returns-clause-ok : goal.returns-clause-ok
returns-clause-ok c = subst (λ m. IfOk c.push_reference.result (λ taken. (taken, string_bytes c.push_reference.new.out) ≡ added (string_bytes c.args.out.now) m)) (at_ampersand c.args.entities.now _ c.args.after.now c.requires c.if-byte-eq92.false) c.push_reference.ensures.ok
