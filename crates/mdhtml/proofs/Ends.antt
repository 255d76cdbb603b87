-- A piece is empty or ends with LF.
use Rattle.std.proofs.Common.{◌≡◌, ℕ, ◌<◌, true, false, List, ◌++◌, length, codes, refl, sym, subst, arith, length-append}
use Rattle.std.proofs.lemmas.Grind.{common_steps}
use Rattle.blockspec.specs.BlockTree.{Block, paragraph, heading, thematic_break, code_block, html_block, block_quote, list, table, bullet, ordered, Blocks, no_blocks, block}
use Rattle.htmlspec.specs.declared.options.Options.{Options}
use Rattle.htmlspec.specs.TableHtml.{head_html, body_html}
use Rattle.htmlspec.specs.BlockHtml.{fresh, heading_tag, text_html, ends_line, block_html, blocks_html}

pub ends_append : (xs ys : List ℕ) → 0 < length ys → ends_line ys ≡ true → ends_line (xs ++ ys) ≡ true
ends_append xs ys some h = grind (arith, common_steps, length-append)

-- by the last piece of what was written
by_last : (all xs ys : List ℕ) → all ≡ xs ++ ys → 0 < length ys → ends_line ys ≡ true → ends_line all ≡ true
by_last all xs ys e some h = subst (λ l. ends_line l ≡ true) (sym e) (ends_append xs ys some h)

by_last_two : (all xs ys zs : List ℕ) → all ≡ xs ++ (ys ++ zs) → 0 < length zs → ends_line zs ≡ true → ends_line all ≡ true
by_last_two all xs ys zs e some h = by_last all xs (ys ++ zs) e (omega (arith, length-append ys zs, some)) (ends_append ys zs some h)

ends_block : (o : Options) (ts : List (List ℕ)) (b : Block) (out : List ℕ) → ends_line (block_html o ts false b out) ≡ true
ends_block o ts (paragraph at task) out = by_last (block_html o ts false (paragraph at task) out) _ (codes "</p>\n") refl (omega arith) refl
ends_block o ts (heading l at) out = by_last_two (block_html o ts false (heading l at) out) (fresh out) (codes "<" ++ heading_tag l ++ codes ">" ++ text_html ts at ++ codes "</" ++ heading_tag l) (codes ">\n") refl (omega arith) refl
ends_block o ts thematic_break out = by_last (block_html o ts false thematic_break out) _ (codes "<hr />\n") refl (omega arith) refl
ends_block o ts (code_block lang meta body) out = by_last_two (block_html o ts false (code_block lang meta body) out) _ _ (codes "</code></pre>\n") refl (omega arith) refl
ends_block o ts (html_block s) out = by_last_two (block_html o ts false (html_block s) out) _ _ (codes "\n") refl (omega arith) refl
ends_block o ts (block_quote bs) out = by_last (block_html o ts false (block_quote bs) out) _ (codes "</blockquote>\n") refl (omega arith) refl
ends_block o ts (list (bullet m) t is) out = by_last (block_html o ts false (list (bullet m) t is) out) _ (codes "</ul>\n") refl (omega arith) refl
ends_block o ts (list (ordered d s) t is) out = by_last (block_html o ts false (list (ordered d s) t is) out) _ (codes "</ol>\n") refl (omega arith) refl
ends_block o ts (table aligns head rows) out = by_last_two (block_html o ts false (table aligns head rows) out) (fresh out) (codes "<table>\n" ++ head_html o ts aligns head ++ body_html o ts aligns rows) (codes "</table>\n") refl (omega arith) refl

pub ends_blocks : (o : Options) (ts : List (List ℕ)) (bs : Blocks) (out : List ℕ) → ends_line out ≡ true → ends_line (blocks_html o ts false bs out) ≡ true
ends_blocks o ts no_blocks out h = h
ends_blocks o ts (block b bs) out h = ends_blocks o ts bs (block_html o ts false b out) (ends_block o ts b out)
