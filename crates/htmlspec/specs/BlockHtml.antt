-- HTML of blocks (CommonMark 4 and 5; GFM Tables (extension), GFM Task list items (extension)). Each is a function of the piece so far, since a block begins on a line of its own.
use Rattle.std.specs.Prelude.{ℕ, ◌-◌, List, [], ◌++◌, codes, if◌then◌else◌, ◌==◌, ◌||◌, ◌&&◌, not, Bool, true, false, Option, Some, None, length, map, slice_index}
use Rattle.std.specs.Fmt.{decimal}
use Rattle.mdtext.specs.HtmlEscapes.{escaped}
use Rattle.inlinespec.specs.ParsedText.{ParsedText}
use Rattle.blockspec.specs.BlockTree.{ListKind, bullet, ordered, Block, paragraph, heading, thematic_break, code_block, html_block, block_quote, list, table, Blocks, no_blocks, block, Items, no_items, item}
use Rattle.htmlspec.specs.declared.options.Options.{Options}
use Rattle.htmlspec.specs.InlineHtml.{raw_html, inlines_html}
use Rattle.htmlspec.specs.TableHtml.{table_html}
pub use Rattle.htmlspec.specs.TableHtml.{text_html}

-- the HTML of the texts that read so
abbrev pub texts_html : Options → List ParsedText → List (List ℕ)
texts_html o readings = map (λ r. inlines_html o r.tree) readings

-- the piece is empty or ends with LF
abbrev pub ends_line : List ℕ → Bool
ends_line out = (length out == 0) || (slice_index out (length out - 1) == 10)

-- the piece so far, with LF added unless it is empty or ends with one
unfoldable pub fresh : List ℕ → List ℕ
fresh out = if ends_line out then out else out ++ codes "\n"

abbrev pub task_box : Option Bool → List ℕ
task_box None = []
task_box (Some false) = codes "<input disabled=\"\" type=\"checkbox\"> "
task_box (Some true) = codes "<input checked=\"\" disabled=\"\" type=\"checkbox\"> "

-- `tight` is whether the paragraph is a direct child of a tight list's item
abbrev pub paragraph_html : (tight : Bool) → List ℕ → List ℕ → List ℕ
paragraph_html true inner out = out ++ inner
paragraph_html false inner out = fresh out ++ codes "<p>" ++ inner ++ codes "</p>\n"

abbrev pub heading_tag : ℕ → List ℕ
heading_tag level =
    if level == 1 then codes "h1" else if level == 2 then codes "h2" else if level == 3 then codes "h3" else if level == 4 then codes "h4"
    else if level == 5 then codes "h5" else codes "h6"

abbrev pub heading_html : ℕ → List ℕ → List ℕ
heading_html level inner = codes "<" ++ heading_tag level ++ codes ">" ++ inner ++ codes "</" ++ heading_tag level ++ codes ">\n"

-- the rest of the info string, where it is asked for and is not empty: an attribute behind that of the language
abbrev pub meta_attribute : Options → (meta : List ℕ) → List ℕ
meta_attribute o meta = if o.full_info_string && not (length meta == 0) then codes "\" data-meta=\"" ++ escaped meta else []

-- the language is an attribute of `pre`, or a class of `code`
abbrev pub language_open : (pre_lang : Bool) → (lang attribute : List ℕ) → List ℕ
language_open true lang attribute = codes "<pre lang=\"" ++ escaped lang ++ attribute ++ codes "\"><code>"
language_open false lang attribute = codes "<pre><code class=\"language-" ++ escaped lang ++ attribute ++ codes "\">"

-- without a language nothing of the info string is written
abbrev pub code_open : Options → (lang meta : List ℕ) → List ℕ
code_open o lang meta = if length lang == 0 then codes "<pre><code>" else language_open o.pre_lang lang (meta_attribute o meta)

abbrev pub code_html : Options → (lang meta body : List ℕ) → List ℕ
code_html o lang meta body = code_open o lang meta ++ escaped body ++ codes "</code></pre>\n"

abbrev pub raw_block_html : Options → List ℕ → List ℕ
raw_block_html o lines = raw_html o lines ++ codes "\n"

-- an ordered list that begins with another number than 1 says so
abbrev pub numbered_open : ℕ → List ℕ
numbered_open start = if start == 1 then codes "<ol>\n" else codes "<ol start=\"" ++ decimal start ++ codes "\">\n"

abbrev pub list_open : ListKind → List ℕ
list_open (bullet m) = codes "<ul>\n"
list_open (ordered d start) = numbered_open start

abbrev pub list_close : ListKind → List ℕ
list_close (bullet m) = codes "</ul>\n"
list_close (ordered d start) = codes "</ol>\n"

abbrev mutual
  pub block_html : Options → List (List ℕ) → (tight : Bool) → Block → List ℕ → List ℕ
  block_html o texts tight (paragraph at task) out = paragraph_html tight (task_box task ++ text_html texts at) out
  block_html o texts tight (heading level at) out = fresh out ++ heading_html level (text_html texts at)
  block_html o texts tight thematic_break out = fresh out ++ codes "<hr />\n"
  block_html o texts tight (code_block lang meta body) out = fresh out ++ code_html o lang meta body
  block_html o texts tight (html_block lines) out = fresh out ++ raw_block_html o lines
  block_html o texts tight (block_quote bs) out = fresh (blocks_html o texts false bs (fresh out ++ codes "<blockquote>\n")) ++ codes "</blockquote>\n"
  block_html o texts tight (list kind t is) out = items_html o texts t is (fresh out ++ list_open kind) ++ list_close kind
  block_html o texts tight (table aligns head rows) out = fresh out ++ table_html o texts aligns head rows

  pub blocks_html : Options → List (List ℕ) → (tight : Bool) → Blocks → List ℕ → List ℕ
  blocks_html o texts tight no_blocks out = out
  blocks_html o texts tight (block b bs) out = blocks_html o texts tight bs (block_html o texts tight b out)

  pub items_html : Options → List (List ℕ) → (tight : Bool) → Items → List ℕ → List ℕ
  items_html o texts tight no_items out = out
  items_html o texts tight (item bs is) out = items_html o texts tight is (blocks_html o texts tight bs (fresh out ++ codes "<li>") ++ codes "</li>\n")
