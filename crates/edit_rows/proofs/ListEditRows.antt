-- Rows of edits inside a list, by computation: where reading begins, where it would end at a unit, where at an item, where it stops, and how many lines and inline texts are read.
use Rattle.std.proofs.Common.{◌≡◌, [], ◌∷◌, refl, codes}
use Rattle.mdsource.specs.Calls.{edit}
use Rattle.edit_rows.proofs.ReadEdits.{source_of, plain}
use Rattle.edit_rows.proofs.ReadJoins.{stops_read, facts}

-- the first item of a loose list
first_item : stops_read plain (source_of (codes "- a" ∷ [] ∷ codes "- b" ∷ [] ∷ codes "- c" ∷ []) []) (edit 0 1 (codes "- A" ∷ [])) ≡
    facts 0 5 2 2 3 1
unfolding stops_read
first_item = refl

-- one in the middle
middle_item : stops_read plain (source_of (codes "- a" ∷ codes "- b" ∷ codes "- c" ∷ codes "- d" ∷ []) []) (edit 1 1 (codes "- B" ∷ [])) ≡
    facts 0 4 2 2 3 2
unfolding stops_read
middle_item = refl

-- the last one: no item begins behind it
last_item : stops_read plain (source_of (codes "- a" ∷ codes "- b" ∷ codes "- c" ∷ []) []) (edit 2 1 (codes "- C" ∷ [])) ≡
    facts 0 3 3 3 4 3
unfolding stops_read
last_item = refl

-- an item more
item_more : stops_read plain (source_of (codes "- a" ∷ codes "- b" ∷ codes "- c" ∷ []) []) (edit 1 0 (codes "- x" ∷ [])) ≡
    facts 0 4 2 2 3 2
unfolding stops_read
item_more = refl

-- an item less
item_less : stops_read plain (source_of (codes "- a" ∷ codes "- b" ∷ codes "- c" ∷ codes "- d" ∷ []) []) (edit 1 1 []) ≡
    facts 0 3 1 1 2 1
unfolding stops_read
item_less = refl

-- a second line in an item
second_line : stops_read plain (source_of (codes "- a" ∷ codes "- b" ∷ codes "- c" ∷ []) []) (edit 1 0 (codes "  x" ∷ [])) ≡
    facts 0 4 2 2 3 1
unfolding stops_read
second_line = refl

-- an item at the end
item_at_end : stops_read plain (source_of (codes "- a" ∷ codes "- b" ∷ []) []) (edit 2 0 (codes "- c" ∷ [])) ≡
    facts 0 3 3 3 4 3
unfolding stops_read
item_at_end = refl

-- an ordered list
ordered : stops_read plain (source_of (codes "1. a" ∷ codes "2. b" ∷ codes "3. c" ∷ codes "4. d" ∷ []) []) (edit 1 1 (codes "2. B" ∷ [])) ≡
    facts 0 4 2 2 3 2
unfolding stops_read
ordered = refl

-- the number that an ordered list begins with
start_number : stops_read plain (source_of (codes "1. a" ∷ codes "2. b" ∷ codes "3. c" ∷ []) []) (edit 0 1 (codes "7. a" ∷ [])) ≡
    facts 0 3 1 1 2 1
unfolding stops_read
start_number = refl

-- the numbers of later items are no part of their list
any_number : stops_read plain (source_of (codes "3. a" ∷ codes "9. b" ∷ codes "2. c" ∷ []) []) (edit 1 1 (codes "77. b" ∷ [])) ≡
    facts 0 3 2 2 3 2
unfolding stops_read
any_number = refl

-- an item with another delimiter parts the list: the one behind it is the first of a list of its own
other_delimiter : stops_read plain (source_of (codes "1. a" ∷ codes "2. b" ∷ codes "3. c" ∷ codes "4. d" ∷ []) []) (edit 1 1 (codes "2) b" ∷ [])) ≡
    facts 0 4 3 3 4 3
unfolding stops_read
other_delimiter = refl

-- an item with another bullet becomes a list of its own, and the one behind it is the first one
other_bullet : stops_read plain (source_of (codes "- a" ∷ codes "- b" ∷ codes "- c" ∷ []) []) (edit 0 1 (codes "* a" ∷ [])) ≡
    facts 0 3 2 2 3 2
unfolding stops_read
other_bullet = refl

-- the first item goes, so the second becomes the first one
first_item_gone : stops_read plain (source_of (codes "- a" ∷ codes "- b" ∷ codes "- c" ∷ []) []) (edit 0 1 []) ≡
    facts 0 2 1 1 2 1
unfolding stops_read
first_item_gone = refl

-- of two items that go the third becomes the first one, and no item is left
first_items_gone : stops_read plain (source_of (codes "- a" ∷ codes "- b" ∷ codes "- c" ∷ []) []) (edit 0 2 []) ≡
    facts 0 1 1 1 2 1
unfolding stops_read
first_items_gone = refl

-- an item before the first one, which becomes the second
before_the_first : stops_read plain (source_of (codes "x" ∷ codes "- a" ∷ codes "- b" ∷ []) []) (edit 0 1 (codes "- x" ∷ [])) ≡
    facts 0 3 2 2 3 2
unfolding stops_read
before_the_first = refl

-- a heading between two lists goes: the first item of the second list is a later one now
lists_joined : stops_read plain (source_of (codes "- a" ∷ codes "# h" ∷ codes "- b" ∷ codes "- c" ∷ []) []) (edit 1 1 []) ≡
    facts 0 3 2 2 3 2
unfolding stops_read
lists_joined = refl

-- an item becomes a thematic break
break_between : stops_read plain (source_of (codes "* a" ∷ codes "* b" ∷ codes "* c" ∷ codes "* d" ∷ []) []) (edit 1 1 (codes "* * *" ∷ [])) ≡
    facts 0 4 3 3 4 2
unfolding stops_read
break_between = refl

-- a unit begins behind the item
two_lists : stops_read plain (source_of (codes "- a" ∷ codes "- b" ∷ [] ∷ codes "* c" ∷ codes "* d" ∷ []) []) (edit 1 1 (codes "- B" ∷ [])) ≡
    facts 0 3 4 3 4 2
unfolding stops_read
two_lists = refl
