-- HTML behind a text that is empty or ends with LF: it is appended to it.
use Rattle.std.proofs.Common.{◌≡◌, ℕ, Bool, true, false, List, [], ◌∷◌, ◌++◌, codes, refl, ap, sym, ◌∙◌, arith, cond, append_assoc, append-nil, length-append}
use Rattle.std.proofs.lemmas.Grind.{common_steps}
use Rattle.blockspec.specs.BlockTree.{Block, paragraph, heading, thematic_break, code_block, html_block, block_quote, list, table, Blocks, no_blocks, block, Items, no_items, item}
use Rattle.htmlspec.specs.declared.options.Options.{Options}
use Rattle.htmlspec.specs.TableHtml.{table_html}
use Rattle.htmlspec.specs.BlockHtml.{fresh, ends_line, task_box, text_html, heading_html, code_html, raw_block_html, list_open, list_close, paragraph_html, block_html, blocks_html, items_html}

fresh_alone : (out : List ℕ) → ends_line out ≡ true → fresh out ≡ out
unfolding fresh
fresh_alone out e = rw e refl

last_stays : (out : List ℕ) (b : ℕ) (x : List ℕ) → ends_line (out ++ b ∷ x) ≡ ends_line (b ∷ x)
last_stays out b x = grind (arith, common_steps, length-append)

fresh_choice : (out x : List ℕ) (t : Bool) → cond t (out ++ x) ((out ++ x) ++ codes "\n") ≡ out ++ cond t x (x ++ codes "\n")
fresh_choice out x true = refl
fresh_choice out x false = append_assoc out x (codes "\n")

-- whether a line ending is to be added is told by what stands behind the text
fresh_behind : (out x : List ℕ) → ends_line out ≡ true → fresh (out ++ x) ≡ out ++ fresh x
unfolding fresh
fresh_behind out [] e = ap fresh (append-nil out) ∙ fresh_alone out e ∙ sym (append-nil out)
fresh_behind out (b ∷ x) e = ap (λ t. cond t (out ++ b ∷ x) ((out ++ b ∷ x) ++ codes "\n")) (last_stays out b x) ∙ fresh_choice out (b ∷ x) (ends_line (b ∷ x))

-- what is written on a line of its own
pub line_behind : (out x written : List ℕ) → ends_line out ≡ true → fresh (out ++ x) ++ written ≡ out ++ (fresh x ++ written)
line_behind out x written e = ap (λ l. l ++ written) (fresh_behind out x e) ∙ append_assoc out (fresh x) written

paragraph_behind : (out x inner : List ℕ) (tight : Bool) → ends_line out ≡ true → paragraph_html tight inner (out ++ x) ≡ out ++ paragraph_html tight inner x
paragraph_behind out x inner true e = append_assoc out x inner
paragraph_behind out x inner false e =
    ap (λ l. ((l ++ codes "<p>") ++ inner) ++ codes "</p>\n") (fresh_behind out x e)
    ∙ ap (λ l. (l ++ inner) ++ codes "</p>\n") (append_assoc out (fresh x) (codes "<p>"))
    ∙ ap (λ l. l ++ codes "</p>\n") (append_assoc out (fresh x ++ codes "<p>") inner)
    ∙ append_assoc out ((fresh x ++ codes "<p>") ++ inner) (codes "</p>\n")

mutual
  block_behind : (o : Options) (ts : List (List ℕ)) (tight : Bool) (b : Block) (out x : List ℕ) → ends_line out ≡ true → block_html o ts tight b (out ++ x) ≡ out ++ block_html o ts tight b x
  block_behind o ts tight (paragraph at task) out x e = paragraph_behind out x (task_box task ++ text_html ts at) tight e
  block_behind o ts tight (heading level at) out x e = line_behind out x (heading_html level (text_html ts at)) e
  block_behind o ts tight thematic_break out x e = line_behind out x (codes "<hr />\n") e
  block_behind o ts tight (code_block lang meta body) out x e = line_behind out x (code_html o lang meta body) e
  block_behind o ts tight (html_block lines) out x e = line_behind out x (raw_block_html o lines) e
  block_behind o ts tight (block_quote bs) out x e =
      let inner = blocks_html o ts false bs (fresh x ++ codes "<blockquote>\n") in
      ap (λ l. fresh (blocks_html o ts false bs l) ++ codes "</blockquote>\n") (line_behind out x (codes "<blockquote>\n") e)
      ∙ ap (λ l. fresh l ++ codes "</blockquote>\n") (blocks_behind o ts false bs out (fresh x ++ codes "<blockquote>\n") e)
      ∙ line_behind out inner (codes "</blockquote>\n") e
  block_behind o ts tight (list kind t is) out x e =
      ap (λ l. items_html o ts t is l ++ list_close kind) (line_behind out x (list_open kind) e)
      ∙ ap (λ l. l ++ list_close kind) (items_behind o ts t is out (fresh x ++ list_open kind) e)
      ∙ append_assoc out (items_html o ts t is (fresh x ++ list_open kind)) (list_close kind)
  block_behind o ts tight (table aligns head rows) out x e = line_behind out x (table_html o ts aligns head rows) e

  pub blocks_behind : (o : Options) (ts : List (List ℕ)) (tight : Bool) (bs : Blocks) (out x : List ℕ) → ends_line out ≡ true → blocks_html o ts tight bs (out ++ x) ≡ out ++ blocks_html o ts tight bs x
  blocks_behind o ts tight no_blocks out x e = refl
  blocks_behind o ts tight (block b bs) out x e =
      ap (blocks_html o ts tight bs) (block_behind o ts tight b out x e) ∙ blocks_behind o ts tight bs out (block_html o ts tight b x) e

  pub items_behind : (o : Options) (ts : List (List ℕ)) (tight : Bool) (is : Items) (out x : List ℕ) → ends_line out ≡ true → items_html o ts tight is (out ++ x) ≡ out ++ items_html o ts tight is x
  items_behind o ts tight no_items out x e = refl
  items_behind o ts tight (item bs is) out x e =
      let inner = blocks_html o ts tight bs (fresh x ++ codes "<li>") in
      ap (λ l. items_html o ts tight is (blocks_html o ts tight bs l ++ codes "</li>\n")) (line_behind out x (codes "<li>") e)
      ∙ ap (λ l. items_html o ts tight is (l ++ codes "</li>\n")) (blocks_behind o ts tight bs out (fresh x ++ codes "<li>") e)
      ∙ ap (items_html o ts tight is) (append_assoc out inner (codes "</li>\n"))
      ∙ items_behind o ts tight is out (inner ++ codes "</li>\n") e

-- the HTML of blocks is appended to such a text
pub blocks_appended : (o : Options) (ts : List (List ℕ)) (bs : Blocks) (out : List ℕ) → ends_line out ≡ true → blocks_html o ts false bs out ≡ out ++ blocks_html o ts false bs []
blocks_appended o ts bs out e = ap (blocks_html o ts false bs) (sym (append-nil out)) ∙ blocks_behind o ts false bs out [] e
