-- The set of escaped bytes is the one that the definition names.
use Rattle.std.proofs.Common.{◌≡◌, [], ◌∷◌, ℕ, ◌<◌, ◌≤◌, Bool, true, false, not, cond, ◌||◌, refl, sym, ap, ◌∙◌, arith, eqb}
use Rattle.std.proofs.Common.{List, ◌++◌, nat_lt}
use Rattle.std.proofs.lemmas.Bool.Decides.{nat_tests}
use Rattle.std.proofs.Common.{◌⊎◌, inl, inr, ◌==◌, codes}
use Rattle.std.proofs.lemmas.Bool.{agree_below, agree_below_at, and_parts, eqb-true}
use Rattle.std.specs.Char.{is_ascii_alphanumeric}
use Rattle.std.specs.List.{flat_map, list_any, list_all}
use Rattle.mdtext.specs.ByteClass.{in_class}
use Rattle.mdtext.specs.EscapedUrl.{is_url_plain, url_byte, url_specials, escaped_url}
use Rattle.mdtext.proofs.PlainRuns.{either_false}
use Rattle.percent_encoding.specs.Percent.{percent_encode_byte, percent_encode, encode_byte}
use Rattle.mdtext.specs.declared.urls.TheConstants.{ESCAPED}
use Rattle.percent_encoding.specs.AsciiSet.{should_percent_encode}

agree_all : agree_below (should_percent_encode ESCAPED) (λ b. not (is_url_plain b)) 256 ≡ true
unfolding is_url_plain should_percent_encode
agree_all = refl

plain_is : (b : ℕ) → b < 256 → should_percent_encode ESCAPED b ≡ not (is_url_plain b)
plain_is b h = agree_below_at (should_percent_encode ESCAPED) (λ x. not (is_url_plain x)) 256 b agree_all h

coded_ascii : (b : ℕ) → should_percent_encode ESCAPED b ≡ false → b < 128
unfolding should_percent_encode
coded_ascii b h = grind (arith, h)

alphanumeric_ascii : (b : ℕ) → is_ascii_alphanumeric b ≡ true → b < 128
alphanumeric_ascii b h = grind (arith, h)

either_true : (a b : Bool) → (a || b) ≡ true → (a ≡ true) ⊎ (b ≡ true)
either_true true b h = inl refl
either_true false b h = inr h

-- a byte among ASCII ones is ASCII
among_ascii : (ks : List ℕ) (b : ℕ) → list_all (λ k. nat_lt k 128) ks ≡ true → list_any (λ k. b == k) ks ≡ true → b < 128
among_ascii [] b h e = cc
among_ascii (k ∷ ks) b h e =
    let each = and_parts (nat_lt k 128) (list_all (λ k. nat_lt k 128) ks) h in
    elim (either_true _ _ e) [
      | inl same ↦ (let here : b ≡ k = eqb-true b k same in let small : k < 128 = grind (arith, nat_tests, each.0) in omega (arith, here, small))
      | inr later ↦ among_ascii ks b each.1 later
    ]

plain_ascii : (b : ℕ) → is_url_plain b ≡ true → b < 128
unfolding is_url_plain
plain_ascii b h = elim (either_true _ _ h) [ inl letter ↦ alphanumeric_ascii b letter | inr mark ↦ among_ascii (codes "-_.+!*'(),%#@?=;:/&$~") b refl mark ]

-- beyond bytes too, so that no bound is needed
agree : (b : ℕ) → should_percent_encode ESCAPED b ≡ not (is_url_plain b)
agree b = by_size (nat_lt b 256) refl where
  beyond : (s p : Bool) → (s ≡ false → ⊥) → (p ≡ true → ⊥) → s ≡ not p
  beyond true true e f = absurd (f refl)
  beyond true false e f = refl
  beyond false p e f = absurd (e refl)

  by_size : (t : Bool) → nat_lt b 256 ≡ t → should_percent_encode ESCAPED b ≡ not (is_url_plain b)
  by_size true e = plain_is b (grind (arith, nat_tests, e))
  by_size false e =
      let large : 256 ≤ b = grind (arith, nat_tests, e) in
      beyond _ _ (λ s. let small = coded_ascii b s in omega (arith, small, large)) (λ p. let small = plain_ascii b p in omega (arith, small, large))

either : (t : Bool) (x y : List ℕ) → cond t x y ≡ cond (not t) y x
either true x y = refl
either false x y = refl

-- Where neither `&` nor `'` stands, the text is percent-encoded as a whole.
one_encoded : (b : ℕ) → in_class url_specials b ≡ false → url_byte b ≡ encode_byte ESCAPED b
unfolding url_byte
one_encoded b other =
    let amp : eqb b 38 ≡ false = grind (arith, other) in
    let quote : eqb b 39 ≡ false = grind (arith, other) in
    rw (amp, quote, agree b) (either (is_url_plain b) (b ∷ []) (percent_encode_byte b))

pub encoded : (bs : List ℕ) → list_any (in_class url_specials) bs ≡ false → percent_encode ESCAPED bs ≡ escaped_url bs
unfolding percent_encode
encoded [] other = refl
encoded (b ∷ bs) other =
    let each = either_false _ _ other in
    ap (λ l. l ++ flat_map (encode_byte ESCAPED) bs) (sym (one_encoded b each.0)) ∙ ap (λ l. url_byte b ++ l) (encoded bs each.1)

-- a run without `&` and `'`, percent-encoded
pub encoded_run : (seen run encoding : List ℕ) → seen ≡ url_specials → list_any (in_class seen) run ≡ false → encoding ≡ percent_encode ESCAPED run → encoding ≡ escaped_url run
encoded_run seen run encoding e other h = h ∙ encoded run (ap (λ s. list_any (in_class s) run) (sym e) ∙ other)
