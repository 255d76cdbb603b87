-- The item of a `]`, by the bracket that it uses up.
use Rattle.std.proofs.Common.{◌≡◌, ℕ, ◌+◌, ◌-◌, Bool, true, false, List, [], take, drop, ap, sym, ◌∙◌, if◌then◌else◌}
use Rattle.mdtext.specs.EntityTable.{EntityTable}
use Rattle.inlinespec.specs.LinkTails.{Table, link_tail_at}
use Rattle.inlinespec.specs.Pieces.{Piece}
use Rattle.inlinespec.specs.TextReading.{Item, Spends, after_deed, spent, by_link_tail, closing, closing_bracket}
use Rattle.inlinespec.specs.Links.{Opened, nearest_opener}
use Rattle.mdinline.specs.declared.bracket_stack.Opening.{Opening}
use Rattle.mdinline.specs.held.UnusedOpeners.{AreOpenersOf, IsTaken}
use Rattle.mdinline.specs.declared.bracket_stack.BracketStack.{BracketStack}

module _ (entities : EntityTable) (table : Table) (text : List ℕ) (at : ℕ) (ps : List Piece) (opening : Opening) (live : Bool) (o : Opened) (taken : IsTaken ps (opening, live) o) where
  abbrev tail_of : ℕ → Item
  tail_of begin = by_link_tail table at (link_tail_at entities text (at + 1) (take (at - begin) (drop begin text)))

  by_opener : closing entities table text at (nearest_opener ps) ≡ (if live then tail_of o.begin else closing_bracket [])
  by_opener =
      ap (closing entities table text at) taken.nearest ∙ ap (λ b. if b then tail_of o.begin else closing_bracket []) (sym taken.live)

  pub closing_live : live ≡ true → closing entities table text at (nearest_opener ps) ≡ tail_of opening.begin
  closing_live e = by_opener ∙ ap (λ b. if b then tail_of o.begin else closing_bracket []) e ∙ ap tail_of (sym taken.begin)

  pub closing_dead : live ≡ false → closing entities table text at (nearest_opener ps) ≡ closing_bracket []
  closing_dead e = by_opener ∙ ap (λ b. if b then tail_of o.begin else closing_bracket []) e

-- a `]` as text is no opener
pub spent_and : (ps : List Piece) (openings : BracketStack) → AreOpenersOf (spent ps) openings → AreOpenersOf (after_deed Spends ps) openings
spent_and ps openings h = record { all = h.all; links = h.links }
