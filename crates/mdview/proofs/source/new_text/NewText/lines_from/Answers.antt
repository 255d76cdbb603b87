use Rattle.std.proofs.Common.{◌≡◌, ◌+◌, ◌-◌, ◌++◌, ◌∙◌, ap, arith, drop, map, string_bytes, take}
use Rattle.std.proofs.lemmas.List.{drop-drop, length-map}
use Rattle.mdview.proofs.Ahead.{lines_from_is}
use Rattle.mdview.proofs.source.new_text.NewText.lines_from.Goals as goal

pub overflow_add-self : goal.overflow_add-self
overflow_add-self c = let fits = c.args.self.now.within in omega (arith, fits, c.requires.old, length-map c.args.self.now.lines.now.items string_bytes)

pub returns : goal.returns
returns c =
    let lines = c.args.self.now.lines.now.items in
    let at = c.args.self.now.at in
    let gone = c.args.self.now.gone in
    let from = c.args.from in
    let fits = c.args.self.now.within in
    let same : from + ((at + gone) - from) ≡ at + gone = omega (arith, c.requires.order) in
    let back : c.ahead-back.result ≡ drop (at + gone) lines =
    c.ahead-back.ensures ∙ ap (drop ((at + gone) - from)) c.iter_from-front.ensures ∙ drop-drop ((at + gone) - from) from lines ∙ ap (λ n. drop n lines) same in
    c.new.ensures
    ∙ ap (λ xs. map string_bytes (take (at - from) xs ++ c.of.result ++ c.ahead-back.result)) c.iter_from-front.ensures
    ∙ ap (λ xs. map string_bytes (take (at - from) (drop from lines) ++ xs ++ c.ahead-back.result)) c.of.ensures
    ∙ ap (λ xs. map string_bytes (take (at - from) (drop from lines) ++ c.args.self.now.added.now ++ xs)) back
    ∙ lines_from_is lines c.args.self.now.added.now at gone from c.requires.order (omega (arith, fits))
