-- What an edit reads: the lines from where reading begins, one after the other, up to where a unit begins in both texts or to the end.
use Rattle.std.proofs.Common.{◌≡◌, ℕ, ◌+◌, ◌-◌, ◌<◌, ◌≤◌, ◌⊎◌, inl, inr, Bool, true, false, ◌&&◌, List, [], ◌∷◌, ◌++◌, Option, Some, None, length, map, take, drop, get_or, refl, ap, ◌∙◌, sym, subst, arith, max, nat_lt}
use Rattle.std.specs.Prelude.{Contains, IfSome, nat_eq, nat_le}
use Rattle.std.specs.List.{All, filter, fold, list_any}
use Rattle.std.specs.Option.{option_map, option_to_list}
use Rattle.std.proofs.lemmas.Bool.Decides.{nat_tests}
use Rattle.std.proofs.lemmas.List.{map-append}
use Rattle.std.proofs.lemmas.List.Elements.{All-nil}
use Rattle.std.proofs.Math.Seq.{drop-length, take-length}
use Rattle.mdtext.specs.EntityTable.{EntityTable}
use Rattle.blockspec.specs.BlockUnits.{begins, units}
use Rattle.blockspec.specs.Nesting.{first_too_deep}
use Rattle.blockspec.specs.UnitTree.{FoundUnit}
use Rattle.mdblock.specs.FoundLists.{FoundList, StandsForUnit, found_unit}
use Rattle.mdblock.specs.declared.faults.BlockFault.{BlockFault}
use Rattle.mdblock.specs.declared.faults.BlockFault.TheVariants as block
use Rattle.mdblock.specs.held.Following.{Follows, ItemReading}
use Rattle.mdblock.specs.held.Reads.{handed, open_begin}
use Rattle.mdsource.specs.Stretch.{Places, count_between, from_line, is_meeting, lines_read, meeting_line, old_line, units_before, units_removed}
use Rattle.mdsource.specs.UnitTiles.{IsAhead, begins_from}
use Rattle.blockspec.proofs.NestingLaws.{moved_on}
use Rattle.mdsource.proofs.Cuts.{begins_before_end, begins_within}
use Rattle.mdsource.proofs.Depths.{deep_spliced}
use Rattle.mdsource.proofs.Splices.{IsEdit, from_above}
use Rattle.mdsource.proofs.StretchEnds.{counts_join, deep_here, fits_before, handed_above}
use Rattle.mdsource.proofs.StretchReadings.{meets_at, meets_nowhere}
use Rattle.mdsource.proofs.UnitPlaces.{above_from, ahead_later, counts_here}
use Rattle.mdsource.specs.BlockFaults.{block_fault_in}
use Rattle.mdview.specs.HeldBlocks.{HoldsUnits, IsDeepAt, is_at, line_before, lines_in, old_lines, places_of}
use Rattle.mdview.specs.HeldLists.{StandsAt}
use Rattle.mdview.specs.HeldUnit.{HeldUnit, read_of}
use Rattle.mdview.specs.NewText.{lines_of}
use Rattle.mdview.specs.declared.source.new_text.NewText.{NewText}
use Rattle.mdview.proofs.FollowedLines.{gi_none_deep}
use Rattle.mdview.proofs.EditPlaces.{begins_are, begins_many}
use Rattle.mdview.proofs.ListsStand.{all_longer, stands_pushed}
use Rattle.mdview.proofs.ReadStretches.{is_edit, meets_later, none_more, stretch_next, stretch_rest, stretch_size, tells_begin}

-- units that are pushed, without their later items
pub units_pushed : (old new : List FoundList) (unit : Option FoundList) → new ≡ old ++ option_to_list unit → map found_unit new ≡ map found_unit old ++ option_to_list (option_map found_unit unit)
units_pushed old new None is = ap (map found_unit) is ∙ map-append found_unit old []
units_pushed old new (Some one) is = ap (map found_unit) is ∙ map-append found_unit old (one ∷ [])

-- each stands for its lines of those that were read, with one line more
pub stands_read : (e : EntityTable) (new : List (List ℕ)) (from line : ℕ) (d : List ℕ) (old found : List FoundList) (unit : Option FoundList) → from ≤ line → line < length new → found ≡ old ++ option_to_list unit
    → IfSome unit (λ f. StandsForUnit e f (drop f.begin (drop from (take line new)))) → All (StandsAt e (drop from (take line new))) old → All (StandsAt e (drop from (take (line + 1) new))) found
stands_read e new from line d old found unit order below is last all =
    subst (λ ls. All (StandsAt e ls) found) (sym (stretch_next new from line d order below))
    (all_longer e (drop from (take line new)) (get_or new line d ∷ []) found (stands_pushed e (drop from (take line new)) old found unit is last all))

-- What was read above a line: no unit begins in both texts there.
pub record ReadAbove (limit : ℕ) (e : EntityTable) (new : List (List ℕ)) (p : Places) (reader : ItemReading) (found : List FoundUnit) (line : ℕ) : Type 0 where
  pub reads : Follows limit e reader (drop (from_line p) (take line new))
  pub handed_out : found ≡ handed e (drop (from_line p) (take line new))
  pub none : (before : ℕ) → Contains (begins e new) before → before < line → is_meeting p before ≡ false

same_place : (p : Places) (line : ℕ) → p.at + p.come ≤ line → line_before p line ≡ old_line p line
same_place p line h = omega (arith, h)

module _ (limit : ℕ) (e : EntityTable) (old new : List (List ℕ)) (p : Places) (w : IsEdit e old new p) where
  pub in_new : p.at ≤ length new
  in_new = let a = w.fits in let b = w.sizes in omega (arith, a, b)

  -- one line more
  pub read_next : (old_reader reader : ItemReading) (old_found found : List FoundUnit) (unit : Option FoundUnit) (line : ℕ) (d : List ℕ) → from_line p ≤ line → line < length new
      → ((limit : ℕ) (e : EntityTable) (ls : List (List ℕ)) → Follows limit e old_reader ls → Follows limit e reader (ls ++ get_or new line d ∷ []))
      → ((limit : ℕ) (e : EntityTable) (ls : List (List ℕ)) → Follows limit e old_reader ls → handed e (ls ++ get_or new line d ∷ []) ≡ handed e ls ++ option_to_list unit)
      → found ≡ old_found ++ option_to_list unit → (Contains (begins e new) line → is_meeting p line ≡ false) → ReadAbove limit e new p old_reader old_found line
      → ReadAbove limit e new p reader found (line + 1)
  read_next old_reader reader old_found found unit line d order below reads hands pushed here s =
      let next = stretch_next new (from_line p) line d order below in
      record {
        reads = subst (Follows limit e reader) (sym next) (reads limit e (drop (from_line p) (take line new)) s.reads);
        handed_out = pushed ∙ ap (λ z. z ++ option_to_list unit) s.handed_out ∙ sym (hands limit e (drop (from_line p) (take line new)) s.reads) ∙ ap (handed e) (sym next);
        none = none_more e new p line s.none here;
      }

  -- the reader tells whether a unit begins in the line
  pub begin_told : (line : ℕ) (d : List ℕ) → from_line p ≤ line → line < length new → (told : Bool)
      → told ≡ is_at (line - from_line p) (open_begin e (drop (from_line p) (take line new) ++ get_or new line d ∷ []))
      → (told ≡ true → Contains (begins e new) line) × (told ≡ false → Contains (begins e new) line → ⊥)
  begin_told line d order below told is =
      (λ h. t.1 (by (open_begin e ls) (sym is ∙ h)), λ h c. no (sym (ap (is_at (line - from_line p)) (t.0 c) ∙ same) ∙ sym is ∙ h))
    where
      ls : List (List ℕ)
      ls = drop (from_line p) (take line new) ++ get_or new line d ∷ []

      t : (Contains (begins e new) line → open_begin e ls ≡ Some (line - from_line p)) × (open_begin e ls ≡ Some (line - from_line p) → Contains (begins e new) line)
      t = tells_begin e old new p w line d order below

      by : (o : Option ℕ) → is_at (line - from_line p) o ≡ true → o ≡ Some (line - from_line p)
      by None h = cc
      by (Some begin) h = let eq : begin ≡ line - from_line p = grind (arith, nat_tests, h) in ap (λ z. Some z) eq

      same : is_at (line - from_line p) (Some (line - from_line p)) ≡ true
      same = grind (arith, nat_tests)

      no : true ≡ false → ⊥
      no h = cc

  pub deep_at : first_too_deep limit old ≡ None → (reader : ItemReading) (found : List FoundUnit) (line : ℕ) (d : List ℕ) → from_line p ≤ line → line < length new
      → ((limit : ℕ) (e : EntityTable) (ls : List (List ℕ)) → Follows limit e reader ls → first_too_deep limit (ls ++ get_or new line d ∷ []) ≡ Some (length ls))
      → ReadAbove limit e new p reader found line → first_too_deep limit new ≡ Some line
  deep_at fits reader found line d order below deep s =
      let ls = drop (from_line p) (take line new) in
      let size = stretch_size new (from_line p) line (omega (arith, below)) in
      let place : from_line p + length ls ≡ line = omega (arith, size, order) in
      deep_here e limit old new p w fits ls (get_or new line d) (drop (line + 1) new) (stretch_rest new (from_line p) line d order below) (deep limit e ls s.reads)
      ∙ ap (λ z. Some z) place

  -- how many lines are read so far
  pub few_read : (reader : ItemReading) (found : List FoundUnit) (line : ℕ) → line ≤ length new → ReadAbove limit e new p reader found line → (line - from_line p) + 1 ≤ lines_read p
  few_read reader found line below s = let later = meets_later e old new p w line below s.none in omega (arith, later)

  -- ---- where a unit begins in both texts

  pub met : (line : ℕ) → Contains (begins e new) line → is_meeting p line ≡ true → (reader : ItemReading) (found : List FoundUnit) → ReadAbove limit e new p reader found line → meeting_line p ≡ line
  met line c is reader found s = meets_at e old new p w line c is s.none

  pub found_above : (line : ℕ) (d : List ℕ) → from_line p ≤ line → line < length new → Contains (begins e new) line
      → (found : List FoundUnit) → found ≡ handed e (drop (from_line p) (take (line + 1) new)) → found ≡ units e (drop (from_line p) (take line new))
  found_above line d order below c found is =
      let size = stretch_size new (from_line p) line (omega (arith, below)) in
      is ∙ ap (handed e) (stretch_next new (from_line p) line d order below)
      ∙ handed_above e (drop (from_line p) (take line new)) (get_or new line d)
      ((tells_begin e old new p w line d order below).0 c ∙ ap (λ z. Some z) (sym size))

  is_behind : (line : ℕ) → is_meeting p line ≡ true → p.at + p.come ≤ line
  is_behind line h = by (nat_le (p.at + p.come) line) refl h
    where
      by : (t : Bool) → nat_le (p.at + p.come) line ≡ t → (t && list_any (nat_eq (old_line p line)) p.old_begins) ≡ true → p.at + p.come ≤ line
      by true h k = grind (arith, nat_tests, h)
      by false h k = cc

  -- so many old units begin above it
  pub next_is : (sizes : List ℕ) (unit begin line : ℕ) → is_meeting p line ≡ true → meeting_line p ≡ line → begin ≡ line_before p line
      → IsAhead sizes p.old_begins unit begin (line_before p line) → unit ≡ units_before p + units_removed p
  next_is sizes unit begin line is meet here ahead =
      let behind = is_behind line is in
      let was = same_place p line behind in
      let a = subst (λ bs. IsAhead sizes bs unit begin (line_before p line)) w.olds ahead in
      let above = above_from e old sizes unit begin (line_before p line) a.many a.rest (omega (arith, here)) in
      let count = counts_here e old unit (line_before p line) (let m = a.many in let n = a.within in omega (arith, m, n)) a.passed above in
      let from = from_above e old new p w in
      let order : from_line p ≤ line_before p line = omega (arith, behind, from) in
      count ∙ ap (count_between 0 (line_before p line)) (sym w.olds) ∙ counts_join (from_line p) (line_before p line) p.old_begins order
      ∙ ap (λ z. count_between 0 (from_line p) p.old_begins + count_between (from_line p) z p.old_begins) (was ∙ ap (old_line p) (sym meet))

  -- ---- at the end

  pub ended : (reader : ItemReading) (found : List FoundUnit) → ReadAbove limit e new p reader found (length new) → meeting_line p ≡ length new
  ended reader found s = meets_nowhere e old new p w (λ line c. s.none line c (begins_before_end e new line c))

  pub next_ends : (unit : ℕ) → unit ≡ length (begins e old) → meeting_line p ≡ length new → unit ≡ units_before p + units_removed p
  next_ends unit many meet =
      let fits = w.fits in
      let sizes = w.sizes in
      let from = from_above e old new p w in
      let was : length old ≡ old_line p (meeting_line p) = omega (arith, meet, fits, sizes) in
      let order : from_line p ≤ length old = omega (arith, from, fits) in
      let all : unit ≡ count_between 0 (length old) (begins e old) =
      many ∙ counts_here e old (length (begins e old)) (length old) (omega arith)
      (subst (All (λ b. b < length old)) (sym (take-length (begins e old))) (begins_within e old))
      (subst (All (λ b. length old ≤ b)) (sym (drop-length (begins e old))) (All-nil (λ b. length old ≤ b))) in
      all ∙ ap (count_between 0 (length old)) (sym w.olds) ∙ counts_join (from_line p) (length old) p.old_begins order
      ∙ ap (λ z. count_between 0 (from_line p) p.old_begins + count_between (from_line p) z p.old_begins) was

  pub found_all : (old_found found : List FoundUnit) (unit : Option FoundUnit) (reader : ItemReading) → found ≡ old_found ++ option_to_list unit
      → ((limit : ℕ) (e : EntityTable) (ls : List (List ℕ)) → Follows limit e reader ls → units e ls ≡ handed e ls ++ option_to_list unit)
      → ReadAbove limit e new p reader old_found (length new) → found ≡ units e (drop (from_line p) (take (length new) new))
  found_all old_found found unit reader pushed hands s =
      pushed ∙ ap (λ z. z ++ option_to_list unit) s.handed_out ∙ sym (hands limit e (drop (from_line p) (take (length new) new)) s.reads)

  -- no container lies too deep where all lines that were read fit
  pub new_fits : first_too_deep limit old ≡ None → (line : ℕ) → meeting_line p ≡ line → first_too_deep limit (drop (from_line p) (take line new)) ≡ None → first_too_deep limit new ≡ None
  new_fits fits line meet none =
      deep_spliced e limit old new p w fits
      ∙ ap (λ z. moved_on (from_line p) (first_too_deep limit (drop (from_line p) (take z new)))) meet
      ∙ ap (moved_on (from_line p)) none

  pub fits_above : (reader : ItemReading) (found : List FoundUnit) (line : ℕ) (d : List ℕ) → from_line p ≤ line → line < length new → ReadAbove limit e new p reader found (line + 1)
      → first_too_deep limit (drop (from_line p) (take line new)) ≡ None
  fits_above reader found line d order below s =
      fits_before limit (drop (from_line p) (take line new)) (get_or new line d ∷ [])
      (ap (first_too_deep limit) (sym (stretch_next new (from_line p) line d order below)) ∙ gi_none_deep limit e reader (drop (from_line p) (take (line + 1) new)) s.reads)

-- where a unit begins in both texts in the last line that was read, and where not
pub met_told : (told meeting : Bool) → true ≡ (told && meeting) → (told ≡ true) × (meeting ≡ true)
met_told true true h = (refl, refl)
met_told true false h = cc
met_told false meeting h = cc

pub unmet_told : (told meeting : Bool) → false ≡ (told && meeting) → (told ≡ false) ⊎ (meeting ≡ false)
unmet_told true true h = cc
unmet_told true false h = inr refl
unmet_told false meeting h = inl refl

pub met_all : (limit : ℕ) (e : EntityTable) (old new : List (List ℕ)) (p : Places) (w : IsEdit e old new p) → first_too_deep limit old ≡ None
    → (old_reader reader : ItemReading) (old_found found : List FoundUnit) (unit : Option FoundUnit) (line : ℕ) (d : List ℕ) → from_line p ≤ line → line < length new
    → ((limit : ℕ) (e : EntityTable) (ls : List (List ℕ)) → Follows limit e old_reader ls → Follows limit e reader (ls ++ get_or new line d ∷ []))
    → ((limit : ℕ) (e : EntityTable) (ls : List (List ℕ)) → Follows limit e old_reader ls → handed e (ls ++ get_or new line d ∷ []) ≡ handed e ls ++ option_to_list unit)
    → found ≡ old_found ++ option_to_list unit → Contains (begins e new) line → is_meeting p line ≡ true → ReadAbove limit e new p old_reader old_found line
    → (meeting_line p ≡ line) × (found ≡ units e (drop (from_line p) (take line new))) × (first_too_deep limit new ≡ None)
met_all limit e old new p w fits old_reader reader old_found found unit line d order below reads hands pushed c is s =
    let ls = drop (from_line p) (take line new) in
    let next = stretch_next new (from_line p) line d order below in
    let meet = met limit e old new p w line c is old_reader old_found s in
    let deep = fits_before limit ls (get_or new line d ∷ []) (gi_none_deep limit e reader (ls ++ get_or new line d ∷ []) (reads limit e ls s.reads)) in
    let out : found ≡ handed e (drop (from_line p) (take (line + 1) new)) =
    pushed ∙ ap (λ z. z ++ option_to_list unit) s.handed_out ∙ sym (hands limit e ls s.reads) ∙ ap (handed e) (sym next) in
    (meet, found_above limit e old new p w line d order below c found out, new_fits limit e old new p w fits line meet deep)

pub deep_told : (first : Option ℕ) (fault : BlockFault) (line : ℕ) → (fault ≡ block.NestedTooDeep → first ≡ Some line) → IsDeepAt first (block_fault_in fault line)
deep_told first block.NestedTooDeep line deep = deep refl
deep_told first block.NoMemory line deep = tt
deep_told first block.Failed line deep = tt

-- where reading begins, as the units that are held tell it
pub begins_reading : (e : EntityTable) (text : NewText) (head : ℕ) (held : List HeldUnit) (at from unit line : ℕ) → HoldsUnits e (old_lines text) head (map read_of held)
    → length (old_lines text) ≤ 1000000 → at ≡ text.at
    → ((e : EntityTable) (lines : List (List ℕ)) → length lines ≤ 1000000 → length (begins e lines) ≡ length held → begins e lines ≡ begins_from head (map lines_in held)
    → (from ≡ fold max 0 (filter (λ begin. nat_lt begin at) (begins e lines))) × (unit ≡ count_between 0 from (begins e lines)) × IsAhead (map lines_in held) (begins e lines) unit line from)
    → let p = places_of e text in
    (from ≡ from_line p) × (unit ≡ units_before p) × IsAhead (map lines_in held) p.old_begins unit line (line_before p from)
begins_reading e text head held at from unit line w few here resumed =
    let p = places_of e text in
    let s = resumed e (old_lines text) few (begins_many e (old_lines text) head held w) (begins_are e (old_lines text) head held w) in
    let same : from ≡ from_line p = s.0 ∙ ap (λ n. fold max 0 (filter (λ begin. nat_lt begin n) (begins e (old_lines text)))) here in
    let above = from_above e (old_lines text) (lines_of text) p (is_edit e text) in
    let order : from ≤ line_before p from = omega (arith, same, above) in
    (same, s.1 ∙ ap (λ n. count_between 0 n (begins e (old_lines text))) same, ahead_later (map lines_in held) (begins e (old_lines text)) unit line from (line_before p from) order s.2)
