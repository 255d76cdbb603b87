use Rattle.std.proofs.Common.{◌∙◌, ◌∷◌, ◌++◌, [], All, ap, ap₂, arith, map, subst, sym}
use Rattle.std.proofs.lemmas.List.{map-append}
use Rattle.std.proofs.lemmas.List.Elements.{All-append, All-cons}
use Rattle.mdtext.specs.MemberTexts.{IsHeld, given}
use Rattle.mdtext.proofs.HeldMembers.{all_given_same, all_held_same}
use Rattle.mdtext.proofs.member_texts.MemberTexts.give.Goals as goal

pub returns-clause-held : goal.returns-clause-held
returns-clause-held c =
    let bytes = c.hold.new.bytes.items in
    let old = c.args.self.now in
    let span = c.in_ok-span.span in
    let longer = c.in_ok-span.ensures.longer in
    subst (All (IsHeld bytes)) (sym c.in_ok-push.ensures.items)
    (All-append (IsHeld bytes) old.spans.items (span ∷ []) (subst (λ b. All (IsHeld b) old.spans.items) (sym longer.1) (all_held_same old.bytes.items longer.0 old.spans.items c.requires.held))
    (All-cons (IsHeld bytes) span [] c.in_ok-span.ensures.held (λ k d lt. absurd (omega (arith, lt)))))

pub returns-clause-more : goal.returns-clause-more
returns-clause-more c =
    let bytes = c.hold.new.bytes.items in
    let old = c.args.self.now in
    let span = c.in_ok-span.span in
    let longer = c.in_ok-span.ensures.longer in
    ap (λ gs. (old.has_bad_name, gs))
    (ap (map (given bytes)) c.in_ok-push.ensures.items ∙ map-append (given bytes) old.spans.items (span ∷ [])
    ∙ ap₂ (λ gs g. gs ++ g ∷ []) (ap (λ b. map (given b) old.spans.items) longer.1 ∙ all_given_same old.bytes.items longer.0 old.spans.items c.requires.held) c.in_ok-span.ensures.given)
