-- Case folding of ASCII text.
use Rattle.std.proofs.Common.{◌≡◌, ℕ, List, map, ap, ◌∙◌}
use Rattle.std.specs.Char.{to_ascii_lowercase}
use Rattle.std.specs.Str.{IsAscii}
use Rattle.std.specs.Prelude.{encode_utf8_all}
use Rattle.std.proofs.lemmas.Str.{chars-IsAscii, encodes-IsAscii}
use Rattle.std.proofs.lemmas.Str.Ascii.{All-from_ascii, IsAscii-map, lowercase_ascii}
use Rattle.caseless.specs.Caseless.{default_case_fold}
use Rattle.caseless.proofs.CaselessLemmas.{default_case_fold-ascii}
use Rattle.mdtext.specs.Labels.{folded}

pub ascii_folded : (bs : List ℕ) → IsAscii bs → folded bs ≡ map to_ascii_lowercase bs
ascii_folded bs h =
    ap (λ cs. encode_utf8_all (default_case_fold cs)) (chars-IsAscii bs h)
    ∙ ap encode_utf8_all (default_case_fold-ascii bs (All-from_ascii bs h))
    ∙ encodes-IsAscii (map to_ascii_lowercase bs) (IsAscii-map to_ascii_lowercase bs lowercase_ascii h)
