-- HTML of inlines (CommonMark 6; GFM Strikethrough (extension)).
use Rattle.std.specs.Prelude.{ℕ, List, [], ◌++◌, codes, if◌then◌else◌}
use Rattle.mdtext.specs.HtmlEscapes.{escaped}
use Rattle.inlinespec.specs.InlineTree.{Inline, Inlines, no_inlines, inline, text, code, raw, soft, hard, emph, strong, strike, link, image}
use Rattle.htmlspec.specs.declared.options.Options.{Options}
use Rattle.htmlspec.specs.declared.options.Breaks.{Breaks}
use Rattle.htmlspec.specs.declared.options.Breaks.TheVariants.{Soft, Hard, Space}
use Rattle.htmlspec.specs.Attributes.{destination_html, title_html}

abbrev pub wrapped : List ℕ → List ℕ → List ℕ
wrapped tag inner = codes "<" ++ tag ++ codes ">" ++ inner ++ codes "</" ++ tag ++ codes ">"

abbrev pub break_html : Breaks → List ℕ
break_html Soft = codes "\n"
break_html Hard = codes "<br />\n"
break_html Space = codes " "

abbrev pub raw_html : Options → List ℕ → List ℕ
raw_html o s = if o.unsafe_html then s else codes "<!-- raw HTML omitted -->"

abbrev pub link_open : Options → (url title : List ℕ) → List ℕ
link_open o url title = codes "<a href=\"" ++ destination_html o url ++ codes "\"" ++ title_html title ++ codes ">"

abbrev pub image_begins : Options → (url : List ℕ) → List ℕ
image_begins o url = codes "<img src=\"" ++ destination_html o url ++ codes "\" alt=\""

-- what stands behind the alternative text
abbrev pub image_ends : (title : List ℕ) → List ℕ
image_ends title = codes "\"" ++ title_html title ++ codes " />"

abbrev pub image_html : Options → (url title alternative : List ℕ) → List ℕ
image_html o url title alternative = image_begins o url ++ escaped alternative ++ image_ends title

-- the alternative text of an image: texts, code and raw HTML as written, a space for each break, and the insides of spans
abbrev mutual
  pub alt : Inline → List ℕ
  alt (text s) = s
  alt (code s) = s
  alt (raw s) = s
  alt soft = codes " "
  alt hard = codes " "
  alt (emph is) = alts is
  alt (strong is) = alts is
  alt (strike is) = alts is
  alt (link url title is) = alts is
  alt (image url title is) = alts is

  pub alts : Inlines → List ℕ
  alts no_inlines = []
  alts (inline i is) = alt i ++ alts is

abbrev mutual
  pub inline_html : Options → Inline → List ℕ
  inline_html o (text s) = escaped s
  inline_html o (code s) = wrapped (codes "code") (escaped s)
  inline_html o (raw s) = raw_html o s
  inline_html o soft = break_html o.breaks
  inline_html o hard = codes "<br />\n"
  inline_html o (emph is) = wrapped (codes "em") (inlines_html o is)
  inline_html o (strong is) = wrapped (codes "strong") (inlines_html o is)
  inline_html o (strike is) = wrapped (codes "del") (inlines_html o is)
  inline_html o (link url title is) = link_open o url title ++ inlines_html o is ++ codes "</a>"
  inline_html o (image url title is) = image_html o url title (alts is)

  pub inlines_html : Options → Inlines → List ℕ
  inlines_html o no_inlines = []
  inlines_html o (inline i is) = inline_html o i ++ inlines_html o is
