-- Raw HTML (CommonMark 6.6): a tag, a comment, a processing instruction, a declaration or a CDATA section.
use Rattle.std.specs.Prelude.{ℕ, ◌+◌, List, [], ◌∷◌, length, drop, nat_eq, codes, Option, Some, None, if◌then◌else◌}
use Rattle.std.specs.Char.{is_ascii_alphabetic}
use Rattle.std.specs.List.{starts_with}
use Rattle.std.specs.Option.{option_or, option_map}
use Rattle.mdscan.specs.Tag.{first_is, open_tag, closing_tag}

-- the first place at which the needle stands, where the text's first byte has this place
abbrev pub place_from : ℕ → List ℕ → List ℕ → Option ℕ
place_from at needle [] = None
place_from at needle (b ∷ bs) = if starts_with nat_eq (b ∷ bs) needle then Some at else place_from (at + 1) needle bs

-- the first place at which the needle stands in the text
unfoldable pub place_of : List ℕ → List ℕ → Option ℕ
place_of needle text = place_from 0 needle text

-- the front, anything up to the next close, and that close
unfoldable pub delimited : List ℕ → List ℕ → List ℕ → Option ℕ
delimited front close text =
    if starts_with nat_eq text front
    then option_map (λ n. length front + n + length close) (place_of close (drop (length front) text)) else None

-- `<!-->`, `<!--->`, or `<!--`, a text without `-->`, and `-->`
unfoldable pub comment : List ℕ → Option ℕ
comment text =
    if starts_with nat_eq text (codes "<!-->") then Some 5
    else (if starts_with nat_eq text (codes "<!--->") then Some 6 else delimited (codes "<!--") (codes "-->") text)

-- `<!`, a letter, a text without `>`, and `>`
unfoldable pub declaration : List ℕ → Option ℕ
declaration text = if first_is is_ascii_alphabetic (drop 2 text) then delimited (codes "<!") (codes ">") text else None

-- how long the raw HTML is that a text begins with; no two of these begin alike
unfoldable pub raw_html : List ℕ → Option ℕ
raw_html text =
    option_or (open_tag text) (option_or (closing_tag text) (option_or (comment text)
    (option_or (delimited (codes "<?") (codes "?>") text) (option_or (declaration text) (delimited (codes "<![CDATA[") (codes "]]>") text)))))
