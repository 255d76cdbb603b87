-- Lists that are made from lists like them.
use Rattle.std.specs.Prelude.{◌≡◌, ℕ, ◌+◌, ◌-◌, ◌≤◌, Bool, List, length, take, drop}
use Rattle.inlinespec.specs.ParsedText.{ParsedText}
use Rattle.blockspec.specs.BlockTree.{Items}
use Rattle.mdblock.specs.BlockView.{items_view}
use Rattle.mdblock.specs.declared.blocks.Item as i
use Rattle.htmlspec.specs.declared.options.Options.{Options}
use Rattle.mdhtml.specs.declared.lists.like_lists.SameEnds.{SameEnds}
use Rattle.htmlspec.specs.BlockHtml.{texts_html, items_html}
use Rattle.htmlspec.specs.ListEnds.{item_ends}

-- so many readings at the front, and so many at the end, are the same
pub record SharedReadings (texts others : List ParsedText) (first last : ℕ) : Type 0 where
  pub front_within : first ≤ length texts
  pub front_within_like : first ≤ length others
  pub front : take first texts ≡ take first others
  pub behind_within : last ≤ length texts
  pub behind_within_like : last ≤ length others
  pub behind : drop (length texts - last) texts ≡ drop (length others - last) others

-- items that have the same HTML, and the same ends in it, where the texts are these
pub record SameItems (T U : Options → List (List ℕ)) (is js : Items) : Type 0 where
  pub html : (o : Options) (tight : Bool) (out : List ℕ) → items_html o (T o) tight is out ≡ items_html o (U o) tight js out
  pub ends : (o : Options) (tight : Bool) (out : List ℕ) → item_ends o (T o) tight is out ≡ item_ends o (U o) tight js out

-- so many items at the front, and so many others at the end, are the same
pub record AreSameEnds (texts others : List ParsedText) (items olds : List i.Item) (same : SameEnds) : Type 0 where
  pub within : same.front + same.behind ≤ length items
  pub within_like : same.front + same.behind ≤ length olds
  pub front : SameItems (λ o. texts_html o texts) (λ o. texts_html o others) (items_view (take same.front items)) (items_view (take same.front olds))
  pub behind : SameItems (λ o. texts_html o texts) (λ o. texts_html o others)
      (items_view (drop (length items - same.behind) items)) (items_view (drop (length olds - same.behind) olds))
