-- HTML blocks (CommonMark 4.6): which of the kinds 1 to 7 a line begins, and which lines end a kind.
use Rattle.std.specs.Prelude.{ℕ, ◌+◌, Bool, false, not, ◌||◌, ◌&&◌, ◌==◌, List, [], ◌∷◌, take, drop, nat_eq, codes, Option, Some, None, if◌then◌else◌}
use Rattle.std.specs.Char.{is_ascii_alphabetic, is_ascii_alphanumeric}
use Rattle.std.specs.List.{prefix_len, list_any, starts_with}
use Rattle.std.specs.Str.{str_eq_ignore_ascii_case}
use Rattle.mdscan.specs.Blanks.{is_blank_text, begins_with, ends_or_blank}
use Rattle.mdscan.specs.Tag.{first_is, tag_name_length, open_tag, closing_tag}

-- how long the run of letters and digits is that a text begins with
abbrev pub name_length : List ℕ → ℕ
name_length text = prefix_len is_ascii_alphanumeric text

-- The run of letters and digits that a text begins with is one of the words, in any case.
unfoldable pub begins_one_of : List (List ℕ) → List ℕ → Bool
begins_one_of words text = list_any (λ word. str_eq_ignore_ascii_case word (take (name_length text) text)) words

-- what follows that run
abbrev pub after_name : List ℕ → List ℕ
after_name text = drop (name_length text) text

-- the names of the first kind, whose content is no Markdown
unfoldable pub raw_names : List (List ℕ)
raw_names = codes "pre" ∷ codes "script" ∷ codes "style" ∷ codes "textarea" ∷ []

-- the names of the sixth kind
unfoldable pub block_names : List (List ℕ)
block_names =
    codes "address" ∷ codes "article" ∷ codes "aside" ∷ codes "base" ∷ codes "basefont" ∷ codes "blockquote"
    ∷ codes "body" ∷ codes "caption" ∷ codes "center" ∷ codes "col" ∷ codes "colgroup" ∷ codes "dd"
    ∷ codes "details" ∷ codes "dialog" ∷ codes "dir" ∷ codes "div" ∷ codes "dl" ∷ codes "dt"
    ∷ codes "fieldset" ∷ codes "figcaption" ∷ codes "figure" ∷ codes "footer" ∷ codes "form" ∷ codes "frame"
    ∷ codes "frameset" ∷ codes "h1" ∷ codes "h2" ∷ codes "h3" ∷ codes "h4" ∷ codes "h5" ∷ codes "h6"
    ∷ codes "head" ∷ codes "header" ∷ codes "hr" ∷ codes "html" ∷ codes "iframe" ∷ codes "legend" ∷ codes "li"
    ∷ codes "link" ∷ codes "main" ∷ codes "menu" ∷ codes "menuitem" ∷ codes "nav" ∷ codes "noframes"
    ∷ codes "ol" ∷ codes "optgroup" ∷ codes "option" ∷ codes "p" ∷ codes "param" ∷ codes "search"
    ∷ codes "section" ∷ codes "summary" ∷ codes "table" ∷ codes "tbody" ∷ codes "td" ∷ codes "tfoot"
    ∷ codes "th" ∷ codes "thead" ∷ codes "title" ∷ codes "tr" ∷ codes "track" ∷ codes "ul" ∷ []

-- the line's end, a space, a tab or `>`
abbrev pub ends_raw_name : List ℕ → Bool
ends_raw_name rest = ends_or_blank rest || begins_with 62 rest

-- the line's end, a space, a tab, `>` or `/>`
abbrev pub ends_block_name : List ℕ → Bool
ends_block_name rest = ends_raw_name rest || starts_with nat_eq rest (codes "/>")

-- `<`, a name of the first kind, and the end of the name
unfoldable pub begins_raw : List ℕ → Bool
begins_raw line = begins_with 60 line && begins_one_of raw_names (drop 1 line) && ends_raw_name (after_name (drop 1 line))

-- a name of the sixth kind, and the end of the name
unfoldable pub is_block_name : List ℕ → Bool
is_block_name text = begins_one_of block_names text && ends_block_name (after_name text)

-- `<` or `</`, and a name of the sixth kind
unfoldable pub begins_block : List ℕ → Bool
begins_block line = (begins_with 60 line && is_block_name (drop 1 line)) || (starts_with nat_eq line (codes "</") && is_block_name (drop 2 line))

-- `<!` and a letter
abbrev pub begins_declaration : List ℕ → Bool
begins_declaration line = starts_with nat_eq line (codes "<!") && first_is is_ascii_alphabetic (drop 2 line)

-- `</`, a name of the first kind and `>`
unfoldable pub begins_raw_end : List ℕ → Bool
begins_raw_end text = starts_with nat_eq text (codes "</") && begins_one_of raw_names (drop 2 text) && begins_with 62 (after_name (drop 2 text))

-- What ends a block of a kind stands at the beginning of a text. Kinds 6 and 7 end before a blank line.
unfoldable pub ends_kind : ℕ → List ℕ → Bool
ends_kind kind text =
    ((kind == 1) && begins_raw_end text)
    || ((kind == 2) && starts_with nat_eq text (codes "-->"))
    || ((kind == 3) && starts_with nat_eq text (codes "?>"))
    || ((kind == 4) && begins_with 62 text)
    || ((kind == 5) && starts_with nat_eq text (codes "]]>"))

-- a line holds what ends a block of a kind
unfoldable pub holds_end : ℕ → List ℕ → Bool
holds_end kind [] = false
holds_end kind (b ∷ bs) = ends_kind kind (b ∷ bs) || holds_end kind bs

-- the open tag that a line begins with has a name of the first kind
unfoldable pub is_raw_tag : List ℕ → Bool
is_raw_tag line = list_any (λ name. str_eq_ignore_ascii_case name (take (tag_name_length (drop 1 line)) (drop 1 line))) raw_names

-- a tag that ends at this place is all of the line but spaces and tabs
abbrev pub fills_line : List ℕ → Option ℕ → Bool
fills_line line None = false
fills_line line (Some end) = is_blank_text (drop end line)

-- One whole open tag with a name not of the first kind, or a closing tag, and then only spaces and tabs.
unfoldable pub begins_whole_tag : List ℕ → Bool
begins_whole_tag line = (fills_line line (open_tag line) && not (is_raw_tag line)) || fills_line line (closing_tag line)

-- The number of the first of some tests that is met, where the first test has this number.
abbrev pub first_met : ℕ → List Bool → Option ℕ
first_met number [] = None
first_met number (met ∷ later) = if met then Some number else first_met (number + 1) later

-- The first kind that fits, of: raw text, comment, processing instruction, declaration, CDATA section, a block's name, one whole tag.
unfoldable pub html_kind : List ℕ → Option ℕ
html_kind line =
    first_met 1
    (begins_raw line
    ∷ starts_with nat_eq line (codes "<!--")
    ∷ starts_with nat_eq line (codes "<?")
    ∷ begins_declaration line
    ∷ starts_with nat_eq line (codes "<![CDATA[")
    ∷ begins_block line
    ∷ begins_whole_tag line
    ∷ [])
