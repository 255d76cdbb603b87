use Rattle.std.proofs.Common.{◌≡◌, ◌++◌, [], ◌∷◌, ap, subst, ◌∙◌, string_bytes}
use Rattle.inlinespec.specs.Autolinks.{scheme_before}
use Rattle.inlinespec.specs.CharacterReferences.{without_references}
use Rattle.inlinespec.specs.InlineEvents.{Enter, Leave, LinkTo, written}
use Rattle.mdinline.proofs.handing.hand_autolink.Goals as goal

pub returns : goal.returns
returns g c =
    let takes = g.S.InlineSink.takes in
    let more = g.met.S.InlineSink.takes_more in
    let shown = without_references c.args.source.now.entities.now 0 c.args.inside.now in
    let url = scheme_before c.args.is_mail ++ shown in
    let title_is : string_bytes c.write_shown.new.out ≡ shown = c.in_ok-write_shown.ensures in
    let url_is : string_bytes c.write_url.new.out ≡ url = c.in_ok-write_url.ensures ∙ ap (λ t. scheme_before c.args.is_mail ++ t) (c.deref.ensures ∙ title_is) in
    let enter = LinkTo (record { url = url; title = [] }) in
    let entered = subst (λ u. takes c.args.sink.now (Enter (LinkTo (record { url = u; title = [] })) ∷ []) c.enter_link.new.self) (c.deref-2.ensures ∙ url_is) c.in_ok-enter_link.ensures in
    let said = subst (λ t. takes c.enter_link.new.self (written t) c.text.new.self) (c.deref-3.ensures ∙ title_is) c.in_ok-text.ensures in
    more c.args.sink.now c.text.new.self c.leave.new.self (Enter enter ∷ written shown) (Leave ∷ [])
    (more c.args.sink.now c.enter_link.new.self c.text.new.self (Enter enter ∷ []) (written shown) entered said) c.in_ok-leave.ensures
