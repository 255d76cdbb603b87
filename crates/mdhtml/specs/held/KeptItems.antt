-- Lists of which some items, at the front and at the end, are those of an old list.
use Rattle.std.specs.Prelude.{◌≡◌, ℕ, ◌+◌, ◌-◌, ◌≤◌, Bool, List, [], ◌∷◌, ◌++◌, length, map, take, drop, slice_index}
use Rattle.std.specs.List.{AllByRecursion, slice_range}
use Rattle.inlinespec.specs.ParsedText.{ParsedText}
use Rattle.blockspec.specs.BlockTree.{ListKind}
use Rattle.mdblock.specs.BlockView.{items_view, kind_view}
use Rattle.mdblock.specs.declared.blocks.Item as i
use Rattle.htmlspec.specs.declared.options.Options.{Options}
use Rattle.mdhtml.specs.declared.lists.kept_items.Between.{Between}
use Rattle.mdhtml.specs.declared.lists.kept_items.KeptHtml.{KeptHtml}
use Rattle.mdhtml.specs.declared.lists.like_lists.Like.{Like}
use Rattle.mdhtml.specs.declared.lists.item_ends.OneList.{OneList}
use Rattle.htmlspec.specs.BlockHtml.{fresh, texts_html, items_html, list_open, list_close}
use Rattle.htmlspec.specs.ListEnds.{item_ends}

-- what a list in a unit of its own begins with
abbrev pub list_begins : ListKind → List ℕ
list_begins kind = fresh [] ++ list_open kind

-- what is written once the items between are, and where each of them ends in it
abbrev pub html_between : Options → List ParsedText → (tight : Bool) → Between → List ℕ → List ℕ
html_between o texts tight b out = items_html o (texts_html o texts) tight (items_view b.items.now) out

abbrev pub ends_between : Options → List ParsedText → (tight : Bool) → Between → List ℕ → List ℕ
ends_between o texts tight b out = item_ends o (texts_html o texts) tight (items_view b.items.now) out

-- the same of the old list's items in front of them, whose texts read as others
abbrev pub html_front : Options → (others : List ParsedText) → (tight : Bool) → List i.Item → Between → List ℕ → List ℕ
html_front o others tight olds b out = items_html o (texts_html o others) tight (items_view (take b.front olds)) out

abbrev pub ends_front : Options → (others : List ParsedText) → (tight : Bool) → List i.Item → Between → List ℕ → List ℕ
ends_front o others tight olds b out = item_ends o (texts_html o others) tight (items_view (take b.front olds)) out

-- the same of its items behind them
abbrev pub html_behind : Options → (others : List ParsedText) → (tight : Bool) → List i.Item → Between → List ℕ → List ℕ
html_behind o others tight olds b out = items_html o (texts_html o others) tight (items_view (drop b.later olds)) out

abbrev pub ends_behind : Options → (others : List ParsedText) → (tight : Bool) → List i.Item → Between → List ℕ → List ℕ
ends_behind o others tight olds b out = item_ends o (texts_html o others) tight (items_view (drop b.later olds)) out

-- the same of all of them
abbrev pub html_around : Options → (texts others : List ParsedText) → (tight : Bool) → List i.Item → Between → List ℕ → List ℕ
html_around o texts others tight olds b out = html_behind o others tight olds b (html_between o texts tight b (html_front o others tight olds b out))

abbrev pub ends_around : Options → (texts others : List ParsedText) → (tight : Bool) → List i.Item → Between → List ℕ → List ℕ
ends_around o texts others tight olds b out =
    let front = html_front o others tight olds b out in
    (ends_front o others tight olds b out ++ ends_between o texts tight b front) ++ ends_behind o others tight olds b (html_between o texts tight b front)

-- the list, in a unit of its own
abbrev pub list_around : Options → (texts others : List ParsedText) → OneList → Between → List ℕ
list_around o texts others one b = html_around o texts others one.tight one.items.now b (list_begins (kind_view one.kind)) ++ list_close (kind_view one.kind)

abbrev pub list_ends_around : Options → (texts others : List ParsedText) → OneList → Between → List ℕ
list_ends_around o texts others one b = ends_around o texts others one.tight one.items.now b (list_begins (kind_view one.kind))

-- ends, each as far behind one place as it was behind another
abbrev pub moved_ends : (from to : ℕ) → List ℕ → List ℕ
moved_ends from to ends = map (λ end. (end - from) + to) ends

-- ends that lie in the HTML that is taken over for the items at the end
abbrev pub AreInTail : KeptHtml → List ℕ → Type 0
AreInTail kept ends = AllByRecursion (λ end. (kept.tail_at ≤ end) × (end ≤ kept.tail_at + length kept.tail.now)) ends

-- this stands for so many items at the front, and for those behind so many
pub record AreKept (like : Like) (begin first tail_from : ℕ) (kept : KeptHtml) : Type 0 where
  pub front : kept.front.now ≡ slice_range like.html.now begin (slice_index (begin ∷ like.ends.now) first)
  pub tail : kept.tail.now ≡ slice_range like.html.now kept.tail_at (slice_index (begin ∷ like.ends.now) (length like.ends.now))
  pub tail_at : kept.tail_at ≡ slice_index (begin ∷ like.ends.now) tail_from
