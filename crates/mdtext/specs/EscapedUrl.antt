-- Destinations as HTML writes them: percent-encoded where a byte may not stand in one (CommonMark 6.3 leaves this open).
use Rattle.std.specs.Prelude.{ℕ, Bool, List, ◌∷◌, [], codes, if◌then◌else◌, ◌==◌, ◌||◌}
use Rattle.std.specs.Char.{is_ascii_alphanumeric}
use Rattle.std.specs.List.{flat_map, list_any}
use Rattle.percent_encoding.specs.Percent.{percent_encode_byte}

-- the byte stands in a destination as it is
unfoldable pub is_url_plain : ℕ → Bool
is_url_plain b = is_ascii_alphanumeric b || list_any (λ k. b == k) (codes "-_.+!*'(),%#@?=;:/&$~")

unfoldable pub url_byte : ℕ → List ℕ
url_byte b =
    if b == 38 then codes "&amp;" else
    if b == 39 then codes "&#x27;" else
    if is_url_plain b then b ∷ [] else percent_encode_byte b

abbrev pub escaped_url : List ℕ → List ℕ
escaped_url = flat_map url_byte

-- the bytes that are written as references
abbrev pub url_specials : List ℕ
url_specials = codes "&'"
