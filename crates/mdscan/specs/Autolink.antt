-- Autolinks (CommonMark 6.5). Each length is that of the whole run of fitting characters that a text begins with, where
-- this run is such an element, and else 0.
use Rattle.std.specs.Prelude.{ℕ, ◌+◌, ◌-◌, Bool, true, false, not, ◌||◌, ◌&&◌, ◌==◌, nat_lt, nat_le, List, drop, slice_index, codes, Option, Some, None, if◌then◌else◌}
use Rattle.std.specs.Char.{is_ascii_alphabetic, is_ascii_alphanumeric, is_ascii_control}
use Rattle.std.specs.List.{prefix_len, list_any}
use Rattle.mdscan.specs.declared.autolinks.Auto.{Auto}
use Rattle.mdscan.specs.Blanks.{begins_with}
use Rattle.mdscan.specs.Tag.{first_is}
use Rattle.mdscan.specs.Repeats.{repeats}

-- A scheme is 2 to 32 characters: a letter, and then letters, digits, `+`, `.` and `-`.
abbrev pub in_scheme : ℕ → Bool
in_scheme b = is_ascii_alphanumeric b || (b == 43) || (b == 46) || (b == 45)

unfoldable pub scheme_length : List ℕ → ℕ
scheme_length text =
    let run = prefix_len in_scheme text in
    if first_is is_ascii_alphabetic text && nat_le 2 run && nat_le run 32 then run else 0

-- After the scheme and `:` come characters other than ASCII control, space, `<` and `>`.
abbrev pub in_uri : ℕ → Bool
in_uri b = not (is_ascii_control b || (b == 32) || (b == 60) || (b == 62))

-- the end of an autolink of a URI that begins at a place
unfoldable pub uri_end : List ℕ → ℕ → Option ℕ
uri_end text at =
    let scheme = scheme_length (drop (at + 1) text) in
    let rest = prefix_len in_uri (drop (at + 1 + scheme + 1) text) in
    if nat_lt 0 scheme && begins_with 58 (drop (at + 1 + scheme) text) && begins_with 62 (drop (at + 1 + scheme + 1 + rest) text)
    then Some (at + 1 + scheme + 1 + rest + 1) else None

-- the characters of a mail address before its `@`, beside letters and digits
unfoldable pub mail_marks : List ℕ
mail_marks = codes ".!#$%&'*+/=?^_`{|}~-"

abbrev pub in_mail_name : ℕ → Bool
in_mail_name b = is_ascii_alphanumeric b || list_any (λ mark. mark == b) mail_marks

-- A label is 1 to 63 letters, digits and hyphens, with a letter or digit at both ends.
abbrev pub in_domain_label : ℕ → Bool
in_domain_label b = is_ascii_alphanumeric b || (b == 45)

unfoldable pub domain_label_length : List ℕ → ℕ
domain_label_length text =
    let run = prefix_len in_domain_label text in
    if first_is is_ascii_alphanumeric text && nat_le run 63 && is_ascii_alphanumeric (slice_index text (run - 1)) then run else 0

-- a dot and a label
unfoldable pub dotted_label_length : List ℕ → ℕ
dotted_label_length text =
    let label = domain_label_length (drop 1 text) in
    if begins_with 46 text && nat_lt 0 label then 1 + label else 0

-- the end of an autolink of a mail address that begins at a place
unfoldable pub mail_end : List ℕ → ℕ → Option ℕ
mail_end text at =
    let name = prefix_len in_mail_name (drop (at + 1) text) in
    let label = domain_label_length (drop (at + 1 + name + 1) text) in
    let labels = repeats dotted_label_length (drop (at + 1 + name + 1 + label) text) in
    if nat_lt 0 name && begins_with 64 (drop (at + 1 + name) text) && nat_lt 0 label
    && begins_with 62 (drop (at + 1 + name + 1 + label + labels) text)
    then Some (at + 1 + name + 1 + label + labels + 1) else None

abbrev pub auto_of : (mail : Bool) → Option ℕ → Option Auto
auto_of mail None = None
auto_of mail (Some end) = Some (record { end = end; mail = mail })

abbrev pub or_auto : Option Auto → Option Auto → Option Auto
or_auto None other = other
or_auto (Some auto) other = Some auto

-- `<`, a URI or a mail address, and `>`
unfoldable pub autolink_at : List ℕ → ℕ → Option Auto
autolink_at text at =
    if begins_with 60 (drop at text) then or_auto (auto_of false (uri_end text at)) (auto_of true (mail_end text at)) else None
