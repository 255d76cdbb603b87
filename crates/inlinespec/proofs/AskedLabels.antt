-- Tables that agree on the labels asked for give one reading.
use Rattle.std.proofs.Common.{◌≡◌, ℕ, zero, suc, ◌+◌, ◌-◌, Bool, true, false, take, drop, List, [], ◌∷◌, ◌++◌, Option, Some, None, refl, sym, ap, ◌∙◌, subst}
use Rattle.std.specs.Prelude.{fold, if◌then◌else◌}
use Rattle.std.specs.BTreeSet.{insert_key}
use Rattle.std.specs.Cmp.Lexicographic.{slice_cmp}
use Rattle.std.specs.Ordering.{match_ordering, is_eq, nat_cmp}
use Rattle.std.specs.declared.cmp.Ordering.{Ordering}
use Rattle.std.specs.declared.cmp.Ordering.TheVariants.{Less, Equal, Greater}
use Rattle.std.proofs.lemmas.Map.Text.{is_eq-slice_cmp}
use Rattle.std.proofs.lemmas.Slice.Eq.{bytes_eq-Decides}
use Rattle.mdtext.specs.EntityTable.{EntityTable}
use Rattle.inlinespec.specs.LabelMap.{LinkTarget}
use Rattle.inlinespec.specs.Lexemes.{Kind, Leaf, Delimiters, OpenBracket, CloseBracket}
use Rattle.inlinespec.specs.Lexing.{lex}
use Rattle.inlinespec.specs.LinkTails.{Table, LinkTail, Direct, ByLabel, NoLabel, link_tail_at}
use Rattle.inlinespec.specs.Pieces.{Piece}
use Rattle.inlinespec.specs.Links.{Opened, nearest_opener, is_live}
use Rattle.inlinespec.specs.TextReading.{Item, closing_bracket, looked_up, by_link_tail, closing, item_by, item_at, after_deed, items_from, reading, asks_of}
use Rattle.inlinespec.specs.TextTree.{events_of, as_set, inl, asked, Agree}
use Rattle.inlinespec.specs.InlineEvents.{tree_of}

abbrev label_order : List ℕ → List ℕ → Ordering
label_order = slice_cmp nat_cmp

same_label : (k x : List ℕ) (o : Ordering) → label_order k x ≡ o → is_eq o ≡ true → k ≡ x
same_label k x o e h = (bytes_eq-Decides k x).0 (sym (is_eq-slice_cmp k x) ∙ ap is_eq e ∙ h)

module _ (one other : Table) where
  -- a table that says the same of a set says the same of what was put into it
  agree_put : (ks : List (List ℕ)) (k : List ℕ) → Agree one other (insert_key label_order ks k) → (one k ≡ other k) × Agree one other ks
  agree_put [] k h = h
  agree_put (x ∷ xs) k h = by (label_order k x) refl (agree_put xs k) h
    where
      by : (o : Ordering) → label_order k x ≡ o → (Agree one other (insert_key label_order xs k) → (one k ≡ other k) × Agree one other xs) →
          Agree one other (match_ordering o (k ∷ x ∷ xs) (x ∷ xs) (x ∷ insert_key label_order xs k)) → (one k ≡ other k) × Agree one other (x ∷ xs)
      by Less e rest h = h
      by Equal e rest h =
          let same : k ≡ x = same_label k x Equal e refl in
          (subst (λ (l : List ℕ). one l ≡ other l) (sym same) h.0, h)
      by Greater e rest h = let both = rest h.1 in (both.0, (h.0, both.1))

  agree_fold : (labels ks : List (List ℕ)) → Agree one other (fold (insert_key label_order) ks labels) → Agree one other ks × Agree one other labels
  agree_fold [] ks h = (h, tt)
  agree_fold (l ∷ ls) ks h =
      let both = agree_fold ls (insert_key label_order ks l) h in
      let here = agree_put ks l both.0 in
      (here.1, (here.0, both.1))

  agree_front : (xs ys : List (List ℕ)) → Agree one other (xs ++ ys) → Agree one other xs
  agree_front [] ys h = tt
  agree_front (x ∷ xs) ys h = (h.0, agree_front xs ys h.1)

  agree_back : (xs ys : List (List ℕ)) → Agree one other (xs ++ ys) → Agree one other ys
  agree_back [] ys h = h
  agree_back (x ∷ xs) ys h = agree_back xs ys h.1

  asks_label : (at end : ℕ) (label : List ℕ) (found : Option LinkTarget) → Agree one other ((looked_up at end label found).asks) → one label ≡ other label
  asks_label at end label None h = h.0
  asks_label at end label (Some target) h = h.0

  same_tail : (at : ℕ) (r : LinkTail) → Agree one other ((by_link_tail one at r).asks) → by_link_tail one at r ≡ by_link_tail other at r
  same_tail at (Direct target end) h = refl
  same_tail at NoLabel h = refl
  same_tail at (ByLabel label end) h = ap (looked_up at end label) (asks_label at end label (one label) h)

  same_closing : (entities : EntityTable) (text : List ℕ) (at : ℕ) (o : Option Opened) →
      Agree one other ((closing entities one text at o).asks) → closing entities one text at o ≡ closing entities other text at o
  same_closing entities text at None h = refl
  same_closing entities text at (Some o) h = by (is_live o) h
    where
      r : LinkTail
      r = link_tail_at entities text (at + 1) (take (at - o.begin) (drop o.begin text))

      by : (b : Bool) → Agree one other ((if b then by_link_tail one at r else closing_bracket []).asks) →
          (if b then by_link_tail one at r else closing_bracket []) ≡ (if b then by_link_tail other at r else closing_bracket [])
      by false h = refl
      by true h = same_tail at r h

  same_item_by : (entities : EntityTable) (text : List ℕ) (at : ℕ) (ps : List Piece) (size : ℕ) (k : Kind) →
      Agree one other ((item_by entities one text at ps size k).asks) → item_by entities one text at ps size k ≡ item_by entities other text at ps size k
  same_item_by entities text at ps size (Leaf es) h = refl
  same_item_by entities text at ps size (Delimiters r) h = refl
  same_item_by entities text at ps size (OpenBracket image) h = refl
  same_item_by entities text at ps size CloseBracket h = same_closing entities text at (nearest_opener ps) h

  same_item : (entities : EntityTable) (text : List ℕ) (at : ℕ) (ps : List Piece) →
      Agree one other ((item_at entities one text at ps).asks) → item_at entities one text at ps ≡ item_at entities other text at ps
  unfolding item_at
  same_item entities text at ps h = same_item_by entities text at ps (lex entities text at).size (lex entities text at).kind h

  same_items : (entities : EntityTable) (text : List ℕ) (at skip : ℕ) (ps : List Piece) (rest : List ℕ) →
      Agree one other (asks_of (items_from entities one text at skip ps rest)) →
      items_from entities one text at skip ps rest ≡ items_from entities other text at skip ps rest
  unfolding items_from asks_of
  same_items entities text at skip ps [] h = refl
  same_items entities text at (suc k) ps (b ∷ rest) h = same_items entities text (at + 1) k ps rest h
  same_items entities text at zero ps (b ∷ rest) h =
      let x = item_at entities one text at ps in
      let here = same_item entities text at ps (agree_front x.asks _ h) in
      ap (λ zs. x ∷ zs) (same_items entities text (at + 1) (x.size - 1) (after_deed x.deed ps) rest (agree_back x.asks _ h))
      ∙ ap (λ (z : Item). z ∷ items_from entities other text (at + 1) (z.size - 1) (after_deed z.deed ps) rest) here

  pub same_reading : (entities : EntityTable) (text : List ℕ) → Agree one other (asked entities one text) → reading entities one text ≡ reading entities other text
  unfolding asked
  same_reading entities text h = same_items entities text 0 0 [] text (agree_fold (asks_of (reading entities one text)) [] h).1

  pub same_inl : (entities : EntityTable) (text : List ℕ) → Agree one other (asked entities one text) → inl entities one text ≡ inl entities other text
  unfolding inl
  same_inl entities text h = ap (λ xs. tree_of (events_of xs)) (same_reading entities text h)

  pub same_asked : (entities : EntityTable) (text : List ℕ) → Agree one other (asked entities one text) → asked entities one text ≡ asked entities other text
  unfolding asked
  same_asked entities text h = ap (λ xs. as_set (asks_of xs)) (same_reading entities text h)
