use Rattle.std.proofs.Common.{◌≡◌, ◌+◌, ◌-◌, length, refl, arith, subst}
use Rattle.std.proofs.lemmas.List.{length-map}
use Rattle.mdtext.specs.NamedTexts.{named_text, named_texts, StandsBehind}
use Rattle.mdtext.proofs.NamedPlaces.{behind_step}
use Rattle.mdtext.proofs.named_texts.place_to_put.Goals as goal

pub returns-in-Greater : goal.returns-in-Greater
returns-in-Greater c =
    let count = length-map c.args.spans.now (named_text c.args.bytes.now) in
    let last : length c.args.spans.now - 1 + 1 ≡ length c.args.spans.now = omega (arith, c.if-len-gt0.true) in (
      omega (arith, count),
      subst (StandsBehind (named_texts c.args.bytes.now c.args.spans.now) c.args.name.now) last
          (behind_step c.args.bytes.now c.args.spans.now c.requires c.args.name.now _ _ _ (omega (arith, c.if-len-gt0.true)) refl c.in-Greater.ensures),
      λ j le lt. absurd (omega (arith, le, lt, count)),
    )
