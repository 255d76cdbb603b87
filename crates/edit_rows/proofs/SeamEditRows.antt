-- Rows of edits after which items are looser or tighter, hold other blocks, or lie in them, by computation.
use Rattle.std.proofs.Common.{◌≡◌, [], ◌∷◌, refl, codes}
use Rattle.mdsource.specs.Calls.{edit}
use Rattle.edit_rows.proofs.ReadEdits.{source_of, plain}
use Rattle.edit_rows.proofs.ReadJoins.{stops_read, facts}

-- a blank line before an item
loose_comes : stops_read plain (source_of (codes "- a" ∷ codes "- b" ∷ codes "- c" ∷ codes "- d" ∷ []) []) (edit 1 0 ([] ∷ [])) ≡
    facts 0 5 2 2 3 1
unfolding stops_read
loose_comes = refl

-- the only one goes
loose_goes : stops_read plain (source_of (codes "- a" ∷ [] ∷ codes "- b" ∷ codes "- c" ∷ []) []) (edit 1 1 []) ≡
    facts 0 3 1 1 2 1
unfolding stops_read
loose_goes = refl

-- a blank line inside an item goes
loose_inside : stops_read plain (source_of (codes "- a" ∷ codes "- b" ∷ [] ∷ codes "  b" ∷ codes "- c" ∷ codes "- d" ∷ []) []) (edit 2 1 []) ≡
    facts 0 5 3 3 4 2
unfolding stops_read
loose_inside = refl

-- a blank line between the item that is read and those that stay
blank_at_seam : stops_read plain (source_of (codes "- a" ∷ codes "- b" ∷ codes "- c" ∷ []) []) (edit 1 1 (codes "- b" ∷ [] ∷ [])) ≡
    facts 0 4 3 3 4 2
unfolding stops_read
blank_at_seam = refl

-- a definition in an item leads the label elsewhere
definition : stops_read plain (source_of (codes "- [x]" ∷ codes "- [x]: /u" ∷ codes "- [x]" ∷ codes "- [x] [y]" ∷ []) []) (edit 1 1 (codes "- [x]: /v" ∷ [])) ≡
    facts 0 4 2 2 3 2
unfolding stops_read
definition = refl

-- the definition goes
definition_gone : stops_read plain (source_of (codes "- [x]" ∷ codes "- [x]: /u" ∷ codes "- y" ∷ codes "- [x]" ∷ []) []) (edit 1 1 []) ≡
    facts 0 3 1 1 2 2
unfolding stops_read
definition_gone = refl

-- a definition behind the list
definition_behind : stops_read plain (source_of (codes "- [x]" ∷ codes "- b" ∷ codes "- [x]" ∷ [] ∷ codes "[x]: /u" ∷ []) []) (edit 4 1 (codes "[x]: /v" ∷ [])) ≡
    facts 0 5 5 5 6 3
unfolding stops_read
definition_behind = refl

-- a definition behind an item that begins blank parts the list
definition_parts : stops_read plain (source_of (codes "-" ∷ [] ∷ [] ∷ [] ∷ codes "- b" ∷ []) []) (edit 2 1 (codes "[a]: /u" ∷ [])) ≡
    facts 0 5 5 5 6 1
unfolding stops_read
definition_parts = refl

-- a task item
task : stops_read plain (source_of (codes "- [ ] a" ∷ codes "- [ ] b" ∷ codes "- [x] c" ∷ []) []) (edit 0 1 (codes "- [x] a" ∷ [])) ≡
    facts 0 3 1 1 2 1
unfolding stops_read
task = refl

-- a task marker is text where a word stands before it
task_gone : stops_read plain (source_of (codes "- [ ] a" ∷ codes "- [ ] b" ∷ codes "- [x] c" ∷ []) []) (edit 1 1 (codes "- b [ ]" ∷ [])) ≡
    facts 0 3 2 2 3 2
unfolding stops_read
task_gone = refl

-- a quote in an item
quote : stops_read plain (source_of (codes "- > a" ∷ codes "  > b" ∷ codes "- > c" ∷ codes "- d" ∷ []) []) (edit 1 1 (codes "  > B" ∷ [])) ≡
    facts 0 4 2 2 3 1
unfolding stops_read
quote = refl

-- items in a quote are none of a top-level list
quote_around : stops_read plain (source_of (codes "> - a" ∷ codes "> - b" ∷ codes "> - c" ∷ []) []) (edit 1 1 (codes "> - B" ∷ [])) ≡
    facts 0 3 3 3 4 3
unfolding stops_read
quote_around = refl

-- a lazy line is a paragraph behind the list now, so the item behind it is the first one
lazy : stops_read plain (source_of (codes "- > a" ∷ codes "b" ∷ codes "- c" ∷ codes "- d" ∷ []) []) (edit 1 0 ([] ∷ [])) ≡
    facts 0 5 4 4 5 3
unfolding stops_read
lazy = refl

-- code in an item holds a line with a marker
fence_in_item : stops_read plain (source_of (codes "- ```" ∷ codes "  - x" ∷ codes "  ```" ∷ codes "- y" ∷ codes "- z" ∷ []) []) (edit 1 1 (codes "  - w" ∷ [])) ≡
    facts 0 5 3 3 4 0
unfolding stops_read
fence_in_item = refl

-- fenced code that an item ends
fence_in_item_opened : stops_read plain (source_of (codes "- a" ∷ codes "- b" ∷ codes "- c" ∷ []) []) (edit 0 1 (codes "- ```" ∷ [])) ≡
    facts 0 3 1 1 2 0
unfolding stops_read
fence_in_item_opened = refl

-- fenced code that holds the items behind it
fence_opened : stops_read plain (source_of (codes "- a" ∷ codes "- b" ∷ codes "- c" ∷ []) []) (edit 1 0 (codes "```" ∷ [])) ≡
    facts 0 4 4 4 5 1
unfolding stops_read
fence_opened = refl

-- and gives them back
fence_closed : stops_read plain (source_of (codes "- a" ∷ codes "```" ∷ codes "- b" ∷ codes "- c" ∷ []) []) (edit 1 1 []) ≡
    facts 0 3 3 3 4 3
unfolding stops_read
fence_closed = refl

-- a comment that holds them
html_opened : stops_read plain (source_of (codes "- a" ∷ codes "- b" ∷ codes "- c" ∷ []) []) (edit 1 0 (codes "<!--" ∷ [])) ≡
    facts 0 4 4 4 5 1
unfolding stops_read
html_opened = refl

-- items of a list in an item are none of a top-level list
nested : stops_read plain (source_of (codes "- a" ∷ codes "  - b" ∷ codes "  - c" ∷ codes "- d" ∷ codes "- e" ∷ []) []) (edit 1 1 (codes "  - B" ∷ [])) ≡
    facts 0 5 3 3 4 3
unfolding stops_read
nested = refl

-- an item becomes one of a list in the item before it
indented : stops_read plain (source_of (codes "- a" ∷ codes "- b" ∷ codes "- c" ∷ []) []) (edit 1 1 (codes "  - b" ∷ [])) ≡
    facts 0 3 2 2 3 2
unfolding stops_read
indented = refl

-- and comes out again
unindented : stops_read plain (source_of (codes "- a" ∷ codes "  - b" ∷ codes "  - c" ∷ codes "- d" ∷ []) []) (edit 1 1 (codes "- b" ∷ [])) ≡
    facts 0 4 3 3 4 3
unfolding stops_read
unindented = refl

-- two inline texts in each item
two_texts : stops_read plain (source_of (codes "- a" ∷ [] ∷ codes "  b" ∷ codes "- c" ∷ [] ∷ codes "  d" ∷ codes "- e" ∷ [] ∷ codes "  f" ∷ []) []) (edit 3 1 (codes "- C" ∷ [])) ≡
    facts 0 9 6 6 7 4
unfolding stops_read
two_texts = refl

-- the cells of a table in an item
cells : stops_read plain (source_of (codes "- | a | b |" ∷ codes "  | - | - |" ∷ codes "- c" ∷ codes "- | d |" ∷ codes "  | - |" ∷ []) []) (edit 0 1 (codes "- | A | b |" ∷ [])) ≡
    facts 0 5 2 2 3 2
unfolding stops_read
cells = refl
