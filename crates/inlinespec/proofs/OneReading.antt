-- A text has one reading under a table of labels.
use Rattle.std.proofs.Common.{◌≡◌, ℕ, zero, suc, ◌+◌, ◌-◌, ◌<◌, ◌≤◌, List, [], ◌∷◌, length, drop, refl, sym, ap, ◌∙◌, subst, arith}
use Rattle.std.specs.Prelude.{slice_index}
use Rattle.mdtext.specs.EntityTable.{EntityTable}
use Rattle.inlinespec.specs.LinkTails.{Table}
use Rattle.inlinespec.specs.Pieces.{Piece}
use Rattle.inlinespec.specs.TextReading.{Item, item_at, after_deed, Reads, IsReading, items_from, reading}
use Rattle.inlinespec.proofs.ItemEnds.{byte_at, item_fits}

module _ (entities : EntityTable) (table : Table) (text : List ℕ) where
  -- two readings from a place on are one
  same_items : (at : ℕ) (ps : List Piece) (xs ys : List Item) → Reads entities table text at ps xs → Reads entities table text at ps ys → xs ≡ ys
  same_items at ps [] [] p q = refl
  same_items at ps [] (y ∷ ys) p q = absurd (omega (arith, q.0))
  same_items at ps (x ∷ xs) [] p q = absurd (omega (arith, p.0))
  same_items at ps (x ∷ xs) (y ∷ ys) p q =
      let same : x ≡ y = p.1 ∙ sym q.1 in
      let rest : Reads entities table text (at + x.size) (after_deed x.deed ps) ys =
      subst (λ (z : Item). Reads entities table text (at + z.size) (after_deed z.deed ps) ys) (sym same) q.2 in
      let tails = same_items (at + x.size) (after_deed x.deed ps) xs ys p.2 rest in
      ap (λ (z : Item). z ∷ xs) same ∙ ap (λ zs. y ∷ zs) tails

  tail_is : (b : ℕ) (rest : List ℕ) (at : ℕ) → b ∷ rest ≡ drop at text → at + length (b ∷ rest) ≡ length text → rest ≡ drop (at + 1) text
  tail_is b rest at is whole =
      let front : drop at text ≡ slice_index text at ∷ drop (at + 1) text = byte_at text at (omega arith) in
      cc

  -- The rest of a text from a place on, of which some bytes belong to the item before, is read from behind these.
  reads : (rest : List ℕ) (at skip : ℕ) (ps : List Piece) → rest ≡ drop at text → at + length rest ≡ length text → skip ≤ length rest →
      Reads entities table text (at + skip) ps (items_from entities table text at skip ps rest)
  unfolding items_from
  reads [] at zero ps is whole room = omega arith
  reads [] at (suc skip) ps is whole room = absurd (omega arith)
  reads (b ∷ rest) at (suc skip) ps is whole room =
      let there : at + 1 + skip ≡ at + suc skip = omega arith in
      subst (λ (i : ℕ). Reads entities table text i ps (items_from entities table text (at + 1) skip ps rest)) there
      (reads rest (at + 1) skip ps (tail_is b rest at is whole) (omega arith) (omega arith))
  reads (b ∷ rest) at zero ps is whole room =
      let x = item_at entities table text at ps in
      let below : at < length text = omega arith in
      let fits = item_fits entities table text at ps below in
      let here : at ≡ at + zero = omega arith in
      let there : at + 1 + (x.size - 1) ≡ at + x.size = omega (arith, fits.0) in
      let next = items_from entities table text (at + 1) (x.size - 1) (after_deed x.deed ps) rest in
      let more : Reads entities table text (at + 1 + (x.size - 1)) (after_deed x.deed ps) next =
      reads rest (at + 1) (x.size - 1) (after_deed x.deed ps) (tail_is b rest at is whole) (omega arith) (omega (arith, fits.0, fits.1)) in
      let ahead : Reads entities table text (at + x.size) (after_deed x.deed ps) next =
      subst (λ (i : ℕ). Reads entities table text i (after_deed x.deed ps) next) there more in
      subst (λ (i : ℕ). Reads entities table text i ps (x ∷ next)) here (below, refl, ahead)

  reading_reads : IsReading entities table text (reading entities table text)
  reading_reads = reads text 0 0 [] refl (omega arith) (omega arith)

  pub one_reading : IsReading entities table text (reading entities table text) × ((items : List Item) → IsReading entities table text items → items ≡ reading entities table text)
  one_reading = (reading_reads, λ items is. same_items 0 [] items (reading entities table text) is reading_reads)
