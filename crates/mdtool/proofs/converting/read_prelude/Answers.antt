use Rattle.std.proofs.Common.{◌≡◌, Err, List, ℕ, map, string_bytes, ap, sym, subst, ◌∙◌}
use Rattle.mdsource.specs.Setting.{Setting}
use Rattle.mdtool.specs.Convert.{IsPreludeOf, PreludeRead}
use Rattle.mdtool.specs.ToolRefusals.{refusal_of}
use Rattle.mdtool.proofs.PreludeDue.{page_prelude_of, page_prelude_refused}
use Rattle.mdtool.proofs.converting.read_prelude.Goals as goal

pub returns-in-Ok : goal.returns-in-Ok
returns-in-Ok c =
    let setting : Setting = record { entities = c.args.entities.now; options = c.args.options.now } in
    let texts : map (λ line. line.now) c.deref.result.now ≡ map string_bytes c.args.lines.now = ap (map (λ line. line.now)) c.deref.ensures.value ∙ c.in_ok-lines.ensures in
    subst (λ (lines : List (List ℕ)). IsPreludeOf setting lines c.in-Ok.prelude) texts
    (page_prelude_of setting (map (λ line. line.now) c.deref.result.now) c.in-Ok.prelude c.in-Ok.ensures.due c.in-Ok.ensures.read c.in-Ok.ensures.defined c.in-Ok.ensures.definitions)

pub returns : goal.returns
returns c =
    let setting : Setting = record { entities = c.args.entities.now; options = c.args.options.now } in
    let texts : map (λ line. line.now) c.deref.result.now ≡ map string_bytes c.args.lines.now = ap (map (λ line. line.now)) c.deref.ensures.value ∙ c.in_ok-lines.ensures in
    subst (λ fault. PreludeRead (Err fault) setting (map string_bytes c.args.lines.now)) (sym c.refusal.ensures)
    (subst (λ (lines : List (List ℕ)). PreludeRead (Err (refusal_of c.in-Err.reason)) setting lines) texts
    (page_prelude_refused setting (map (λ line. line.now) c.deref.result.now) c.in-Err.reason c.in-Err.ensures.fault c.in-Err.ensures.undefining))
