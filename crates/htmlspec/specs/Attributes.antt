-- Destinations and titles of links and images, as attributes hold them.
use Rattle.std.specs.Prelude.{ℕ, List, [], ◌∷◌, ◌++◌, codes, if◌then◌else◌, Bool, true, false, ◌&&◌, ◌||◌, not, length, ◌==◌}
use Rattle.std.specs.Char.{eq_ignore_ascii_case}
use Rattle.mdtext.specs.HtmlEscapes.{escaped}
use Rattle.mdtext.specs.EscapedUrl.{escaped_url}
use Rattle.htmlspec.specs.declared.options.Options.{Options}

-- whether bytes begin with a text, in any case of the ASCII letters
abbrev pub begins_with : (text bytes : List ℕ) → Bool
begins_with [] bytes = true
begins_with (t ∷ ts) [] = false
begins_with (t ∷ ts) (b ∷ bs) = eq_ignore_ascii_case b t && begins_with ts bs

-- A destination that runs a script or shows local data. Images as data are none where they are PNG, GIF, JPEG or WebP.
unfoldable pub is_harmful : List ℕ → Bool
is_harmful url =
    (begins_with (codes "javascript:") url || begins_with (codes "vbscript:") url || begins_with (codes "file:") url || begins_with (codes "data:") url)
    && not (begins_with (codes "data:image/png") url || begins_with (codes "data:image/gif") url
    || begins_with (codes "data:image/jpeg") url || begins_with (codes "data:image/webp") url)

abbrev pub destination_html : Options → List ℕ → List ℕ
destination_html o url = if o.unsafe_html || not (is_harmful url) then escaped_url url else []

-- ` title=".."`, or nothing for the empty title
abbrev pub title_html : List ℕ → List ℕ
title_html title = if length title == 0 then [] else codes " title=\"" ++ escaped title ++ codes "\""
