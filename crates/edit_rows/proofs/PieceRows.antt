-- Rows of the pieces of a text, by computation.
use Rattle.std.proofs.Common.{◌≡◌, [], ◌∷◌, refl, codes, true, false}
use Rattle.edit_rows.proofs.ReadEdits.{source_of, plain, with_meta, with_styles, pieces}

-- a heading, a list, a quote, a table
each_block : pieces plain (source_of (codes "# A *b*" ∷ [] ∷ codes "- [x] c" ∷ codes "- d" ∷ [] ∷ codes "> e  " ∷ codes "f" ∷ [] ∷ codes "| g | h |" ∷ codes "|:-|-:|" ∷ codes "| `i` | ~~j~~ |" ∷ []) []) ≡
    codes "<h1>A <em>b</em></h1>\n" ∷ codes "<ul>\n<li><input checked=\"\" disabled=\"\" type=\"checkbox\"> c</li>\n<li>d</li>\n</ul>\n" ∷ codes "<blockquote>\n<p>e<br />\nf</p>\n</blockquote>\n" ∷ codes "<table>\n<thead>\n<tr>\n<th align=\"left\">g</th>\n<th align=\"right\">h</th>\n</tr>\n</thead>\n<tbody>\n<tr>\n<td align=\"left\"><code>i</code></td>\n<td align=\"right\"><del>j</del></td>\n</tr>\n</tbody>\n</table>\n" ∷ []
unfolding pieces
each_block = refl

-- code and HTML
verbatim : pieces plain (source_of (codes "```rust" ∷ codes "a < b" ∷ codes "```" ∷ [] ∷ codes "    code" ∷ [] ∷ codes "<b>" ∷ [] ∷ codes "***" ∷ []) []) ≡
    codes "<pre><code class=\"language-rust\">a &lt; b\n</code></pre>\n" ∷ codes "<pre><code>code\n</code></pre>\n" ∷ codes "<!-- raw HTML omitted -->\n" ∷ codes "<hr />\n" ∷ []
unfolding pieces
verbatim = refl

-- what stands behind a language, up to the line's end but for the spaces there, as cmark-gfm writes it: nothing for nothing
metas : pieces (with_meta false) (source_of (codes "~~~ x  y&amp;z " ∷ codes "~~~" ∷ codes "``` x" ∷ codes "```" ∷ codes "~~~" ∷ []) []) ≡
    codes "<pre><code class=\"language-x\" data-meta=\" y&amp;z\"></code></pre>\n" ∷ codes "<pre><code class=\"language-x\"></code></pre>\n" ∷ codes "<pre><code></code></pre>\n" ∷ []
unfolding pieces
metas = refl

metas_on_pre : pieces (with_meta true) (source_of (codes "~~~ x y *z*" ∷ []) []) ≡ codes "<pre lang=\"x\" data-meta=\"y *z*\"><code></code></pre>\n" ∷ []
unfolding pieces
metas_on_pre = refl

-- the language on `pre` and alignments as styles, as cmark-gfm writes them
styles : pieces with_styles (source_of (codes "~~~ x y" ∷ codes "a" ∷ codes "~~~" ∷ codes "|a|b|c|" ∷ codes "|:-|:-:|-:|" ∷ codes "|1|2|3|" ∷ []) []) ≡
    codes "<pre lang=\"x\"><code>a\n</code></pre>\n" ∷ codes "<table>\n<thead>\n<tr>\n<th style=\"text-align: left\">a</th>\n<th style=\"text-align: center\">b</th>\n<th style=\"text-align: right\">c</th>\n</tr>\n</thead>\n<tbody>\n<tr>\n<td style=\"text-align: left\">1</td>\n<td style=\"text-align: center\">2</td>\n<td style=\"text-align: right\">3</td>\n</tr>\n</tbody>\n</table>\n" ∷ []
unfolding pieces
styles = refl

-- links, images, autolinks, references and escapes
links : pieces plain (source_of (codes "[a](javascript:x) ![b *c*](/d \"e\")" ∷ [] ∷ codes "<http://f> &amp; \\*" ∷ []) []) ≡
    codes "<p><a href=\"\">a</a> <img src=\"/d\" alt=\"b c\" title=\"e\" /></p>\n" ∷ codes "<p><a href=\"http://f\">http://f</a> &amp; *</p>\n" ∷ []
unfolding pieces
links = refl

-- an ordered list that begins with 3
ordered : pieces plain (source_of (codes "3. a" ∷ codes "4. b" ∷ [] ∷ codes "5. c" ∷ []) []) ≡
    codes "<ol start=\"3\">\n<li>\n<p>a</p>\n</li>\n<li>\n<p>b</p>\n</li>\n<li>\n<p>c</p>\n</li>\n</ol>\n" ∷ []
unfolding pieces
ordered = refl

-- definitions in front of a paragraph are part of its unit
definitions : pieces plain (source_of (codes "[a]: /u" ∷ codes "[b]: /v" ∷ codes "===" ∷ codes "[a]" ∷ []) []) ≡
    codes "<p>===\n<a href=\"/u\">a</a></p>\n" ∷ []
unfolding pieces
definitions = refl
