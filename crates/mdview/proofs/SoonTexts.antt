-- Where texts of a list are kept from the line on at which reading stops, an edit reads as many texts as the definition says.
use Rattle.std.proofs.Common.{◌≡◌, ℕ, ◌+◌, List, [], ◌∷◌, ◌++◌, Option, Some, None, length, length-append, map, take, drop, refl, sym, ◌∙◌, ap, append_assoc, arith}
use Rattle.std.specs.Prelude.{fold, option_map}
use Rattle.std.proofs.lemmas.List.{append-nil, take-append-drop}
use Rattle.std.proofs.lemmas.List.Concat.{flat_map-cons}
use Rattle.std.proofs.lemmas.List.Sums.{sum_by-cons}
use Rattle.std.proofs.Math.Seq.{drop-append_seam}
use Rattle.mdtext.specs.EntityTable.{EntityTable}
use Rattle.blockspec.specs.BlockTree.{no_blocks}
use Rattle.blockspec.specs.UnitTree.{UnitTree}
use Rattle.inlinespec.specs.LinkTails.{Table}
use Rattle.mdsource.specs.LabelTable.{table}
use Rattle.mdsource.specs.Setting.{Setting, Source}
use Rattle.mdsource.specs.Stretch.{meeting_line}
use Rattle.mdsource.specs.UnitTexts.{asking_in, trees_in}
use Rattle.mdsource.proofs.ReadingsUnder.{asking_texts_under}
use Rattle.mdsource.specs.SoonTexts.{texts_of_read, units_read}
use Rattle.mdsource.specs.Stops.{Stops, stop_line}
use Rattle.mdsource.specs.LaterTexts.{asking_of, later_texts, texts_of, trees_to}
use Rattle.mdsource.proofs.NearLines.{IsStop}
use Rattle.mdsource.proofs.StopTexts.{soon_by_later}
use Rattle.mdsource.proofs.TakenTexts.{many_in_trees}
use Rattle.mdview.specs.declared.source.new_text.NewText.{NewText}
use Rattle.mdview.specs.declared.blocks.reparse.Reparsed.{Reparsed}
use Rattle.mdview.specs.HeldBlocks.{HoldsUnits, IsReread as IsReadLines, old_lines}
use Rattle.mdview.specs.HeldTexts.{texts_in_parts}
use Rattle.mdview.specs.HeldUnit.{HeldUnit, read_of}
use Rattle.mdview.specs.KeptTexts.{kept_texts, last_texts, number_kept}
use Rattle.mdview.specs.NewText.{lines_of as new_lines}
use Rattle.mdview.specs.UnitsFound.{texts_kept, trees_found}
use Rattle.mdsource.specs.Preludes.{HeldPrelude}
use Rattle.mdview.specs.StopLines.{IsReadToStop, stops_of}
use Rattle.mdview.proofs.EditTexts.{found_is, texts_by_kept}
use Rattle.mdview.proofs.ReadStretches.{is_edit}

-- the kept texts stand last, behind some others
record StandsLast (texts last : List (List ℕ)) : Type 0 where
  front : List (List ℕ)
  is : texts ≡ front ++ last

last_stand : (texts : List (List ℕ)) (trees : List UnitTree) → StandsLast (texts ++ texts_of trees) (fold (λ (before : List (List ℕ)) (unit : UnitTree). unit.texts) texts trees)
last_stand texts [] = record { front = []; is = append-nil texts }
last_stand texts (tree ∷ trees) =
    let rest = last_stand tree.texts trees in
    record {
      front = texts ++ rest.front;
      is = ap (λ l. texts ++ l) (flat_map-cons (λ (unit : UnitTree). unit.texts) tree trees ∙ rest.is) ∙ sym (append_assoc texts rest.front (fold (λ (before : List (List ℕ)) (unit : UnitTree). unit.texts) tree.texts trees));
    }

kept_stand : (at : Option ℕ) (trees : List UnitTree) → StandsLast (texts_of trees) (kept_texts at trees)
kept_stand None trees = record { front = texts_of trees; is = sym (append-nil (texts_of trees)) }
kept_stand (Some at) trees =
    let last = last_stand [] trees in
    record {
      front = last.front ++ take at (last_texts trees);
      is = last.is ∙ ap (λ l. last.front ++ l) (sym (take-append-drop at (last_texts trees))) ∙ sym (append_assoc last.front (take at (last_texts trees)) (drop at (last_texts trees)));
    }

asking_same : (e : EntityTable) (one two before after : Table) → ((label : List ℕ) → one label ≡ before label) → ((label : List ℕ) → two label ≡ after label) → (texts : List (List ℕ))
    → asking_of e one two texts ≡ asking_of e before after texts
asking_same e one two before after f g texts =
    let tree : UnitTree = record { blocks = no_blocks; definitions = []; texts = texts } in
    let same = asking_texts_under e one two before after f g (tree ∷ []) in
    let a : _ ≡ asking_of e one two texts + 0 = sum_by-cons (asking_in e one two) tree [] in
    let b : _ ≡ asking_of e before after texts + 0 = sum_by-cons (asking_in e before after) tree [] in
    omega (arith, same, a, b)

module _ (setting : Setting) (text : NewText) (prelude : HeldPrelude) (was : ℕ) (held : List HeldUnit) (reparsed : Reparsed) (w : HoldsUnits setting.entities (old_lines text) was (map read_of held))
    (r : IsReadLines setting.entities text reparsed) (beside : List (List ℕ)) where
  abbrev e : EntityTable
  e = setting.entities

  abbrev old : Source
  old = record { lines = old_lines text; prelude = beside }

  abbrev new : Source
  new = record { lines = new_lines text; prelude = beside }

  abbrev s : Stops
  s = stops_of e text

  abbrev trees : List UnitTree
  trees = trees_found reparsed

  abbrev kept : List (List ℕ)
  kept = texts_kept reparsed

  stop : IsStop e (old_lines text) (new_lines text) s
  stop = record { edit_there = is_edit e text; olds = refl; news = refl }

  -- the texts behind the line at which reading stops are those that are kept
  later_kept : IsReadToStop e text reparsed → later_texts e (new_lines text) s ≡ kept
  later_kept soon =
      let last = kept_stand (option_map number_kept reparsed.kept) trees in
      let all : texts_of (trees_to e (new_lines text) s (meeting_line s.places)) ≡ last.front ++ kept =
      ap (λ us. texts_of (trees_in us)) (sym (found_is setting text prelude was held reparsed w r (table e old) (table e new))) ∙ last.is in
      let many : length (texts_of (trees_to e (new_lines text) s (stop_line s))) ≡ length last.front =
      (let sum = many_in_trees trees in let size = ap (λ l. length l) last.is ∙ length-append last.front kept in omega (arith, soon, sum, size)) in
      ap (λ n. drop n (texts_of (trees_to e (new_lines text) s (meeting_line s.places)))) many ∙ ap (drop (length last.front)) all ∙ drop-append_seam last.front kept

  -- so many texts are read where labels lead so before and behind
  pub texts_soon_are : IsReadToStop e text reparsed → (one two : Table) → ((label : List ℕ) → one label ≡ table e old label) → ((label : List ℕ) → two label ≡ table e new label)
      → texts_in_parts e one two held reparsed ≡ texts_of_read setting old new (units_read e (new_lines text) s)
  texts_soon_are soon one two f g =
      let all = texts_by_kept setting text prelude was held reparsed w r (table e old) (table e new) one two f g in
      let law = soon_by_later setting old new s stop in
      let same = later_kept soon in
      let many = ap (λ l. length l) same in
      let asking = ap (asking_of e (table e old) (table e new)) same in
      let under = asking_same e one two (table e old) (table e new) f g kept in
      omega (arith, all, law, many, asking, under)
