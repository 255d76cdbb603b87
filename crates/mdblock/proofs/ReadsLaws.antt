-- A reader and the lines that it has read.
use Rattle.std.proofs.Common.{◌≡◌, ℕ, false, List, [], Option, Some, None, refl, sym, ◌∙◌, subst}
use Rattle.mdtext.specs.EntityTable.{EntityTable}
use Rattle.blockspec.specs.BlockUnits.{groups_within, found_units}
use Rattle.blockspec.specs.Stretches.{cut_from, all_of}
use Rattle.blockspec.specs.Lists.{grouped}
use Rattle.blockspec.specs.LineSummary.{no_summary}
use Rattle.blockspec.specs.UnitReader.{lines_held}
use Rattle.blockspec.specs.ItemMarks.{list_marks}
use Rattle.blockspec.specs.Joins.{is_joined}
use Rattle.blockspec.specs.TopBlocks.{tops_of}
use Rattle.mdblock.specs.held.ReaderState.{UnitSoFar, ReaderState, held_begin, held_joined}
use Rattle.mdblock.specs.held.Reads.{Reads, HoldsUnit, StandsForHeld, open_begin}
use Rattle.blockspec.proofs.ReaderLaws.{summary_none}
use Rattle.blockspec.proofs.LimitLaws.{none_deep}

begin_none : (e : EntityTable) → None ≡ open_begin e []
unfolding groups_within found_units cut_from all_of grouped
begin_none e = refl

joined_none : (e : EntityTable) → false ≡ is_joined e []
unfolding cut_from all_of tops_of
joined_none e = refl

marks_none : (e : EntityTable) → [] ≡ list_marks e []
unfolding cut_from all_of tops_of
marks_none e = refl

pub reads_none : (limit : ℕ) (e : EntityTable) (held : UnitSoFar) → held.begin ≡ None → held.joined ≡ false → held.marks ≡ [] → StandsForHeld e held no_summary →
    Reads limit e (record { entities = e; limit = limit; fed = 0; held = Some held }) []
unfolding Reads lines_held
reads_none limit e held b j m s =
    (refl, refl, refl, none_deep limit, (b ∙ begin_none e, j ∙ joined_none e, m ∙ marks_none e, subst (StandsForHeld e held) (sym (summary_none e)) s))

pub reads_begin : (limit : ℕ) (e : EntityTable) (reading : ReaderState) (ls : List (List ℕ)) → Reads limit e reading ls → held_begin reading.held ≡ open_begin e ls
unfolding Reads
reads_begin limit e reading ls r = go reading.held r.4
  where
    go : (h : Option UnitSoFar) → HoldsUnit e h ls → held_begin h ≡ open_begin e ls
    go None w = absurd w
    go (Some held) w = w.0

pub reads_joined : (limit : ℕ) (e : EntityTable) (reading : ReaderState) (ls : List (List ℕ)) → Reads limit e reading ls → held_joined reading.held ≡ is_joined e ls
unfolding Reads
reads_joined limit e reading ls r = go reading.held r.4
  where
    go : (h : Option UnitSoFar) → HoldsUnit e h ls → held_joined h ≡ is_joined e ls
    go None w = absurd w
    go (Some held) w = w.1
