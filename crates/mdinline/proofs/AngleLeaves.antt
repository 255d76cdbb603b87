-- What a `<` begins: an autolink, raw HTML or text (CommonMark 6.5, 6.6).
use Rattle.std.proofs.Common.{◌≡◌, ℕ, ◌+◌, ◌-◌, List, [], ◌∷◌, take, drop, Option, Some, None, option_map, refl, ap, sym, ◌∙◌, arith}
use Rattle.mdtext.specs.EntityTable.{EntityTable}
use Rattle.mdscan.specs.Autolink.{autolink_at}
use Rattle.mdscan.specs.RawHtml.{raw_html}
use Rattle.inlinespec.specs.InlineEvents.{RawHtml}
use Rattle.inlinespec.specs.RawHtml.{angle_lexeme}
use Rattle.inlinespec.specs.Lexemes.{as_written, leaf}
use Rattle.inlinespec.specs.Autolinks.{autolink_lexeme}

none_mapped : {X Y : Type 0} (f : X → Y) (o : Option X) → None ≡ option_map f o → o ≡ None
none_mapped f None e = refl
none_mapped f (Some x) e = cc

no_autolink : (entities : EntityTable) (text : List ℕ) (at : ℕ) (tag : Option ℕ) → None ≡ option_map (λ auto. autolink_lexeme entities text at auto) (autolink_at text at) →
    angle_lexeme entities text at (autolink_at text at) tag ≡ angle_lexeme entities text at None tag
no_autolink entities text at tag e = ap (λ o. angle_lexeme entities text at o tag) (none_mapped (λ auto. autolink_lexeme entities text at auto) (autolink_at text at) e)

html_size : (entities : EntityTable) (text : List ℕ) (at end : ℕ) (tag : Option ℕ) → Some end ≡ option_map (λ n. at + n) tag →
    leaf (end - at) (RawHtml (take (end - at) (drop at text)) ∷ []) ≡ angle_lexeme entities text at None tag
html_size entities text at end None e = cc
html_size entities text at end (Some n) e =
    let sum : end ≡ at + n = grind (arith, e) in
    ap (λ k. leaf k (RawHtml (take k (drop at text)) ∷ [])) (let size : end - at ≡ n = omega (arith, sum) in size)

pub html_there : (entities : EntityTable) (text : List ℕ) (at end : ℕ) → None ≡ option_map (λ auto. autolink_lexeme entities text at auto) (autolink_at text at) →
    Some end ≡ option_map (λ n. at + n) (raw_html (drop at text)) →
    leaf (end - at) (RawHtml (take (end - at) (drop at text)) ∷ []) ≡ angle_lexeme entities text at (autolink_at text at) (raw_html (drop at text))
html_there entities text at end auto html =
    html_size entities text at end (raw_html (drop at text)) html ∙ sym (no_autolink entities text at (raw_html (drop at text)) auto)

pub nothing_there : (entities : EntityTable) (text : List ℕ) (at : ℕ) → None ≡ option_map (λ auto. autolink_lexeme entities text at auto) (autolink_at text at) →
    None ≡ option_map (λ n. at + n) (raw_html (drop at text)) →
    angle_lexeme entities text at (autolink_at text at) (raw_html (drop at text)) ≡ as_written 1 (drop at text)
nothing_there entities text at auto html =
    no_autolink entities text at (raw_html (drop at text)) auto ∙ ap (angle_lexeme entities text at None) (none_mapped (λ n. at + n) (raw_html (drop at text)) html)
