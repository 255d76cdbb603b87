-- The one reading of a text (CommonMark 6; GFM Strikethrough (extension)): the items that tile it, each with what it does.
use Rattle.std.specs.Prelude.{◌≡◌, ℕ, zero, suc, ◌+◌, ◌-◌, ◌<◌, false, length, take, drop, List, [], ◌∷◌, ◌++◌, Option, Some, None, if◌then◌else◌}
use Rattle.mdtext.specs.EntityTable.{EntityTable}
use Rattle.inlinespec.specs.LabelMap.{LinkTarget}
use Rattle.inlinespec.specs.InlineEvents.{written}
use Rattle.inlinespec.specs.Lexemes.{Kind, Leaf, Delimiters, OpenBracket, CloseBracket}
use Rattle.inlinespec.specs.Lexing.{lex}
use Rattle.inlinespec.specs.LinkTails.{Table, LinkTail, Direct, ByLabel, NoLabel, link_tail_at}
use Rattle.inlinespec.specs.Pieces.{Piece, Made, Run, Opening, bracket_text}
use Rattle.inlinespec.specs.Links.{Opened, nearest_opener, is_live, linked}

-- An item adds a piece; or is a `]` that makes no link, so that it is text and so is the nearest unused opener, if there is one; or is a `]` that makes
-- a link or an image of what stands between that opener and it.
pub data Deed : Type 0 where
  Adds : Piece → Deed
  Spends : Deed
  Links : LinkTarget → Deed

-- how many bytes it takes, what it does, and the labels that are looked up for it, found or not
pub record Item : Type 0 where
  pub size : ℕ
  pub deed : Deed
  pub asks : List (List ℕ)

abbrev pub closing_bracket : List (List ℕ) → Item
closing_bracket asks = record { size = 1; deed = Spends; asks = asks }

-- a `]` at a place, by what the label of its link leads to
abbrev pub looked_up : ℕ → ℕ → List ℕ → Option LinkTarget → Item
looked_up at end label None = closing_bracket (label ∷ [])
looked_up at end label (Some target) = record { size = end - at; deed = Links target; asks = label ∷ [] }

abbrev pub by_link_tail : Table → ℕ → LinkTail → Item
by_link_tail table at (Direct target end) = record { size = end - at; deed = Links target; asks = [] }
by_link_tail table at (ByLabel label end) = looked_up at end label (table label)
by_link_tail table at NoLabel = closing_bracket []

-- A `]` uses up the nearest unused opener. If there is none, or no link may be made, it is text.
abbrev pub closing : EntityTable → Table → List ℕ → ℕ → Option Opened → Item
closing entities table text at None = closing_bracket []
closing entities table text at (Some o) =
    if is_live o then by_link_tail table at (link_tail_at entities text (at + 1) (take (at - o.begin) (drop o.begin text)))
    else closing_bracket []

abbrev pub adds : ℕ → Piece → Item
adds size p = record { size = size; deed = Adds p; asks = [] }

abbrev pub item_by : EntityTable → Table → List ℕ → ℕ → List Piece → ℕ → Kind → Item
item_by entities table text at ps size (Leaf es) = adds size (Made false es)
item_by entities table text at ps size (Delimiters r) = adds size (Run r)
item_by entities table text at ps size (OpenBracket image) = adds size (Opening image (at + size))
item_by entities table text at ps size CloseBracket = closing entities table text at (nearest_opener ps)

-- the item at a place, after these pieces
unfoldable pub item_at : EntityTable → Table → List ℕ → ℕ → List Piece → Item
item_at entities table text at ps =
    let l = lex entities text at in
    item_by entities table text at ps l.size l.kind

-- a `]` as text, in front of the pieces so far
abbrev pub bracket_and : List Piece → List Piece
bracket_and ps = Made false (written (93 ∷ [])) ∷ ps

-- the pieces in which the nearest opener is text
abbrev pub spent : List Piece → List Piece
spent [] = []
spent (Opening image begin ∷ below) = Made false (bracket_text image) ∷ below
spent (p ∷ below) = p ∷ spent below

-- the pieces after an item
abbrev pub after_deed : Deed → List Piece → List Piece
after_deed (Adds p) ps = p ∷ ps
after_deed Spends ps = bracket_and (spent ps)
after_deed (Links target) ps = linked target ps (nearest_opener ps)

-- these items are the reading of the text from a place on, after these pieces
abbrev pub Reads : EntityTable → Table → List ℕ → ℕ → List Piece → List Item → Type 0
Reads entities table text at ps [] = at ≡ length text
Reads entities table text at ps (x ∷ xs) =
    (at < length text) × (x ≡ item_at entities table text at ps) × Reads entities table text (at + x.size) (after_deed x.deed ps) xs

abbrev pub IsReading : EntityTable → Table → List ℕ → List Item → Type 0
IsReading entities table text items = Reads entities table text 0 [] items

-- the reading of the rest of a text, of whose front so many bytes belong to the item before
unfoldable pub items_from : EntityTable → Table → List ℕ → ℕ → ℕ → List Piece → List ℕ → List Item
items_from entities table text at skip ps [] = []
items_from entities table text at (suc skip) ps (b ∷ rest) = items_from entities table text (at + 1) skip ps rest
items_from entities table text at zero ps (b ∷ rest) =
    let x = item_at entities table text at ps in
    x ∷ items_from entities table text (at + 1) (x.size - 1) (after_deed x.deed ps) rest

abbrev pub reading : EntityTable → Table → List ℕ → List Item
reading entities table text = items_from entities table text 0 0 [] text

-- the pieces after these items
unfoldable pub pieces_after : List Item → List Piece → List Piece
pieces_after [] ps = ps
pieces_after (x ∷ xs) ps = pieces_after xs (after_deed x.deed ps)

-- the labels that are looked up for these items
unfoldable pub asks_of : List Item → List (List ℕ)
asks_of [] = []
asks_of (x ∷ xs) = x.asks ++ asks_of xs
