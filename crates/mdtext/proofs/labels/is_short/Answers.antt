use Rattle.std.proofs.Common.{ap, sym, ◌∙◌, length, nat_le}
use Rattle.std.specs.Str.{chars}
use Rattle.std.proofs.lemmas.Str.{Chars-Drains, encodes-chars}
use Rattle.mdtext.proofs.labels.is_short.Goals as goal

pub returns : goal.returns
returns c =
    let ran = c.count.ensures.ran in
    let all = Chars-Drains (chars c.args.inside.now) ran.0 _ (encodes-chars c.args.inside.now c.utf8.inside ∙ sym c.chars.ensures.rest) ran.1 in
    ap (λ n. nat_le n 999) (ran.2 ∙ ap (λ l. length l) all)
