-- The units that are held, without their places, where some are read again and some give way.
use Rattle.std.proofs.Common.{◌≡◌, ℕ, ◌+◌, ◌-◌, ◌≤◌, List, [], ◌∷◌, ◌++◌, length, map, take, drop, refl, ap, ◌∙◌, sym, subst, arith, append_assoc}
use Rattle.std.proofs.lemmas.List.{append-nil, map-append}
use Rattle.std.proofs.lemmas.Simd.{map-map}
use Rattle.mdtext.specs.EntityTable.{EntityTable}
use Rattle.blockspec.specs.BlockUnits.{units}
use Rattle.blockspec.specs.UnitTree.{UnitTree}
use Rattle.mdblock.specs.FoundLists.{FoundList, found_unit}
use Rattle.mdsource.specs.Spliced.{IsSpliced}
use Rattle.mdsource.specs.Stretch.{Places, from_line, meeting_line, units_before, units_removed}
use Rattle.mdsource.specs.UnitTiles.{front_of, tile_of}
use Rattle.mdsource.proofs.Counts.{spliced}
use Rattle.mdsource.proofs.Cuts.{no_units}
use Rattle.mdsource.proofs.Splices.{IsEdit}
use Rattle.mdsource.proofs.TileSplices.{tiles_spliced}
use Rattle.mdview.specs.HeldBlocks.{HoldsUnits, held_tile, tile_in, unit_lines}
use Rattle.mdview.specs.HeldLists.{StandForUnits, list_in, list_read, unplaced}
use Rattle.mdview.specs.HeldUnit.{HeldUnit, read_of}
use Rattle.mdview.specs.Lists.{replaced}
use Rattle.mdview.specs.Update.{all_renewed, map_at, renewed}
use Rattle.mdview.specs.declared.inlines.concerned_texts.Again.{Again}
use Rattle.mdview.proofs.ListSplices.{list_tile, stand_spliced}
use Rattle.mdview.proofs.MemberChanges.{map_changed}
use Rattle.mdview.proofs.Sizes.{map_replaced}

tiles_read : (held : List HeldUnit) → map tile_in (map read_of held) ≡ map held_tile held
tiles_read [] = refl
tiles_read (u ∷ held) = ap (λ z. held_tile u ∷ z) (tiles_read held)

renewed_lists : (held : List HeldUnit) (again : List Again) → map list_in (all_renewed held again) ≡ map list_in held
unfolding all_renewed
renewed_lists held [] = refl
renewed_lists held (one ∷ again) =
    renewed_lists (map_at (renewed one) one.unit held) again ∙ map_changed list_in (renewed one) (λ u. refl) one.unit held

tiles_lists : (held : List HeldUnit) → map list_tile (map list_in held) ≡ map held_tile held
tiles_lists held = map-map list_tile list_in held

renewed_tiles : (held : List HeldUnit) (again : List Again) → map held_tile (all_renewed held again) ≡ map held_tile held
renewed_tiles held again = sym (tiles_lists (all_renewed held again)) ∙ ap (map list_tile) (renewed_lists held again) ∙ tiles_lists held

pub lists_read : (held : List HeldUnit) → map list_read (map read_of held) ≡ map list_in held
lists_read held = map-map list_read read_of held

-- one unit more is read
pub lists_next : (held : List HeldUnit) (u : HeldUnit) (one : FoundList) (rest all : List FoundList) → list_in u ≡ unplaced one
    → map list_in held ++ map unplaced (one ∷ rest) ≡ map unplaced all → map list_in (held ++ u ∷ []) ++ map unplaced rest ≡ map unplaced all
lists_next held u one rest all same h =
    ap (λ z. z ++ map unplaced rest) (map-append list_in held (u ∷ []))
    ∙ append_assoc (map list_in held) (list_in u ∷ []) (map unplaced rest)
    ∙ ap (λ z. map list_in held ++ z ∷ map unplaced rest) same ∙ h

pub lists_ended : (held : List HeldUnit) (rest all : List FoundList) → rest ≡ [] → map list_in held ++ map unplaced rest ≡ map unplaced all → map list_in held ≡ map unplaced all
lists_ended held rest all none h = sym (ap (λ z. map list_in held ++ map unplaced z) none ∙ append-nil (map list_in held)) ∙ h

-- what was found is what is held of it
tiles_unplaced : (found : List FoundList) → map list_tile (map unplaced found) ≡ map tile_of (map found_unit found)
tiles_unplaced [] = refl
tiles_unplaced (f ∷ found) = ap (λ z. list_tile f ∷ z) (tiles_unplaced found)

pub tiles_found : (held : List HeldUnit) (found : List FoundList) → map list_in held ≡ map unplaced found → map tile_in (map read_of held) ≡ map tile_of (map found_unit found)
tiles_found held found is = tiles_read held ∙ sym (tiles_lists held) ∙ ap (map list_tile) is ∙ tiles_unplaced found

-- no unit comes or goes
pub holds_still : (e : EntityTable) (lines : List (List ℕ)) (head : ℕ) (held : List HeldUnit) (again : List Again) → HoldsUnits e lines head (map read_of held)
    → HoldsUnits e lines head (map read_of (all_renewed held again))
holds_still e lines head held again w = record {
  before = w.before;
  tiles = tiles_read (all_renewed held again) ∙ renewed_tiles held again ∙ sym (tiles_read held) ∙ w.tiles;
  stands = subst (λ fs. StandForUnits e fs (drop head lines)) (lists_read held ∙ sym (renewed_lists held again) ∙ sym (lists_read (all_renewed held again))) w.stands;
}

-- Those that give way are replaced by those that were read.
pub holds_behind : (e : EntityTable) (old new : List (List ℕ)) (p : Places) → IsEdit e old new p → (was head first next : ℕ) (held add : List HeldUnit) (again : List Again)
    → HoldsUnits e old was (map read_of held) → first ≤ next → first ≡ units_before p → next ≡ units_before p + units_removed p → head ≡ front_of (length new) (units e new)
    → map tile_in (map read_of add) ≡ map tile_of (units e (drop (from_line p) (take (meeting_line p) new)))
    → StandForUnits e (map list_in add) (unit_lines e (drop (from_line p) (take (meeting_line p) new)))
    → HoldsUnits e new head (map read_of (replaced (all_renewed held again) first (next - first) add))
holds_behind e old new p edit was head first next held add again w order first_is next_is head_is read stand = record {
  before = head_is;
  tiles = tiles_read (replaced (all_renewed held again) first (next - first) add)
      ∙ map_replaced held_tile (all_renewed held again) add first (next - first)
      ∙ ap (λ z. replaced z first (next - first) (map held_tile add)) tiles
      ∙ ap (λ z. replaced (map tile_of (units e old)) first (next - first) z) (sym (tiles_read add) ∙ read)
      ∙ ap (λ k. take first (map tile_of (units e old)) ++ part ++ drop k (map tile_of (units e old))) ends
      ∙ ap (λ k. take k (map tile_of (units e old)) ++ part ++ drop next (map tile_of (units e old))) first_is
      ∙ ap (λ k. take (units_before p) (map tile_of (units e old)) ++ part ++ drop k (map tile_of (units e old))) next_is
      ∙ sym (tiles_spliced e old new p s);
  stands =
      let both = stand_spliced e old new p edit s was head first next (map list_in held) (map list_in add) w.before head_is first_is next_is
      (tiles_lists held ∙ sym (tiles_read held) ∙ w.tiles) (tiles_lists add ∙ sym (tiles_read add) ∙ read) (subst (λ fs. StandForUnits e fs (drop was old)) (lists_read held) w.stands) stand in
      subst (λ fs. StandForUnits e fs (drop head new))
      (ap (λ k. take first (map list_in held) ++ map list_in add ++ drop k (map list_in held)) (sym ends) ∙ ap (λ z. replaced z first (next - first) (map list_in add)) (sym (renewed_lists held again))
      ∙ sym (map_replaced list_in (all_renewed held again) add first (next - first)) ∙ sym (lists_read (replaced (all_renewed held again) first (next - first) add)))
      both;
}
  where
    s : IsSpliced e old new p
    s = spliced e old new p edit

    part : List (ℕ × UnitTree)
    part = map tile_of (units e (drop (from_line p) (take (meeting_line p) new)))

    tiles : map held_tile (all_renewed held again) ≡ map tile_of (units e old)
    tiles = renewed_tiles held again ∙ sym (tiles_read held) ∙ w.tiles

    ends : first + (next - first) ≡ next
    ends = omega (arith, order)

-- nothing is held of no lines
pub holds_nothing : (e : EntityTable) → HoldsUnits e [] 0 []
holds_nothing e = record { before = sym (ap (front_of 0) (no_units e)); tiles = sym (ap (map tile_of) (no_units e)); stands = tt }
