use Rattle.std.proofs.Common.{◌≡◌, List, ℕ, ◌++◌, ◌∷◌, ap, sym, ◌∙◌, string_bytes, arith, append_assoc}
use Rattle.std.proofs.lemmas.Grind.{common_steps}
use Rattle.mdtext.specs.EscapedUrl.{escaped_url, url_byte}
use Rattle.percent_encoding.specs.Iter.{encoded_text}
use Rattle.mdtext.proofs.PlainRuns.{parts}
use Rattle.mdtext.proofs.UrlBytes.{encoded_run}
use Rattle.mdtext.proofs.urls.append_url.Goals as goal

written : (out run encoding rest text : List ℕ) → encoding ≡ escaped_url run → rest ≡ run → out ++ escaped_url rest ≡ text → out ++ encoding ≡ text
written out run encoding rest text e h w = ap (λ l. out ++ l) (e ∙ ap escaped_url (sym h)) ∙ w

written_more : (out run encoding after rest text : List ℕ) (b : ℕ) → encoding ≡ escaped_url run → rest ≡ run ++ b ∷ after → out ++ escaped_url rest ≡ text → ((out ++ encoding) ++ url_byte b) ++ escaped_url after ≡ text
written_more out run encoding after rest text b e h w =
    append_assoc (out ++ encoding) (url_byte b) (escaped_url after) ∙ append_assoc out encoding (url_byte b ++ escaped_url after)
    ∙ ap (λ l. out ++ (l ++ (url_byte b ++ escaped_url after))) e ∙ ap (λ l. out ++ l) (sym (parts url_byte run (b ∷ after))) ∙ ap (λ l. out ++ escaped_url l) (sym h) ∙ w

pub returns-in_default-clause-ok : goal.returns-in_default-clause-ok
returns-in_default-clause-ok c =
    let whole = rw c.in_default.is at c.split_at_special.ensures.whole in
    c.in_ok-append_to.ensures.ok
    ∙ written _ _ _ _ _ (encoded_run _ _ _ c.of-specials.ensures c.split_at_special.ensures.plain c.utf8_percent_encode.ensures.text) whole c.loop-byte.invariant.written

pub loop-byte-preserved : goal.loop-byte-preserved
loop-byte-preserved c =
    let whole = rw c.in-Some.is at c.split_at_special.ensures.whole in
    record {
      text = rw c.in-Some.is at c.split_at_special.ensures.text;
      written = ap (λ l. l ++ escaped_url c.in-Some.after.now) (c.in_ok-push_str.ensures.bytes ∙ ap (λ l. l ++ c.url_reference.result.now) c.in_ok-append_to.ensures.ok ∙ ap (λ l. (string_bytes c.loop-byte.out ++ encoded_text c.utf8_percent_encode.result) ++ l) c.url_reference.ensures)
          ∙ written_more _ _ _ _ _ _ _ (encoded_run _ _ _ c.of-specials.ensures c.split_at_special.ensures.plain c.utf8_percent_encode.ensures.text) whole c.loop-byte.invariant.written;
      keeps = grind (arith, common_steps, c.loop-byte.invariant.keeps, c.in_ok-push_str.ensures.bytes, c.in_ok-append_to.ensures.ok);
    }
