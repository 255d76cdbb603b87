-- Which ASCII characters are whitespace and punctuation.
use Rattle.std.proofs.Common.{◌≡◌, ℕ, ◌<◌, true, refl, sym}
use Rattle.std.proofs.lemmas.Bool.{agree_below, agree_below_at}
use Rattle.std.specs.Char.{is_ascii_punctuation}
use Rattle.ucd_category.proofs.Computing.{ucd_category}
use Rattle.mdpair.specs.Flanks.{is_ascii_white}
use Rattle.mdtext.specs.Characters.{is_unicode_white, is_unicode_punct}

whites : agree_below is_unicode_white is_ascii_white 128 ≡ true
unfolding ucd_category
whites = refl

puncts : agree_below is_unicode_punct is_ascii_punctuation 128 ≡ true
unfolding ucd_category
puncts = refl

pub ascii_white : (c : ℕ) → c < 128 → is_ascii_white c ≡ is_unicode_white c
ascii_white c less = sym (agree_below_at is_unicode_white is_ascii_white 128 c whites less)

pub ascii_punct : (c : ℕ) → c < 128 → is_ascii_punctuation c ≡ is_unicode_punct c
ascii_punct c less = sym (agree_below_at is_unicode_punct is_ascii_punctuation 128 c puncts less)
