-- A line that begins the next item of a unit: the item before it is over, the item is marked, and the line is read.
use Rattle.std.proofs.Common.{◌≡◌, ℕ, ◌-◌, true, false, [], ◌∷◌, ◌++◌, length, map, string_bytes, Option, Some, None, refl, sym, ◌∙◌, ap, subst}
use Rattle.std.proofs.lemmas.List.{map-append}
use Rattle.std.specs.Prelude.{is_some, unwrap_or, ◌||◌}
use Rattle.mdleaf.specs.DefinedLinks.{definition_of}
use Rattle.blockspec.specs.BlockLine.{BlockLine}
use Rattle.blockspec.specs.BlankLines.{is_blank_line}
use Rattle.blockspec.specs.BlockStart.{begun}
use Rattle.blockspec.specs.BlockTree.{ListKind}
use Rattle.blockspec.specs.LineSummary.{Summary, last_in, is_apart_after, mark_of}
use Rattle.blockspec.specs.NodeTree.{texts_in, definitions_in}
use Rattle.blockspec.specs.SummaryDepth.{sinks}
use Rattle.blockspec.specs.UnitBegin.{list_mark, same_mark}
use Rattle.blockspec.proofs.DocumentLaws.{map_length}
use Rattle.blockspec.specs.ItemMarks.{marks_next}
use Rattle.mdblock.specs.FoundLists.{join_mark}
use Rattle.mdblock.specs.held.Continuations.{begins_item}
use Rattle.mdblock.specs.held.EndedItems.{EndsLastItem, ended_summary}
use Rattle.mdblock.specs.held.HeldLevel.{HoldsSummary, StandsFor, HasGathered, Fits, IsLazyRight, is_parted_last}
use Rattle.mdblock.specs.held.HeldNodes.{handed_nodes, closed_nodes}
use Rattle.mdblock.specs.held.LinesAdded.{ContinuesLast, ContinuesLevel, IsAdded, AddsLine, SinksLine}
use Rattle.mdblock.specs.held.Reads.{HandsOn, SinksBehind, held_marks, mark_after}
use Rattle.mdblock.specs.declared.gathering.Gathering.{Gathering}
use Rattle.mdblock.specs.declared.open_blocks.Continuation.{Continuation}
use Rattle.mdblock.specs.declared.open_blocks.Continuation.TheVariants as continuation
use Rattle.mdblock.specs.declared.open_blocks.Level.{Level}
use Rattle.mdblock.specs.declared.readers.OpenUnit.{OpenUnit}
use Rattle.mdblock.specs.declared.units.Join as declared
use Rattle.mdblock.proofs.CloseLaws.{not_both}
use Rattle.mdblock.proofs.EndedItemLaws.{ended_added, ended_loose, ended_sinks, still_fits}
use Rattle.mdblock.proofs.NextLineLaws.{goes_on_with, next_joins, no_lazy, stays_marked}

-- what is known of the line
abbrev BeginsNext : Summary → BlockLine → Type 0
BeginsNext s l = (is_apart_after (last_in s) l ≡ true) × (is_blank_line l ≡ false) × (same_mark (mark_of (last_in s)) (list_mark (begun l)) ≡ true)

next_of : (s : Summary) (l : BlockLine) (c : Continuation) → begins_item c ≡ true → ContinuesLast (last_in s) l c → BeginsNext s l
next_of s l continuation.Matched b w = absurd (not_both false b refl)
next_of s l (continuation.Underlines level) b w = absurd (not_both false b refl)
next_of s l continuation.Delimits b w = absurd (not_both false b refl)
next_of s l continuation.Lazy b w = absurd (not_both false b refl)
next_of s l continuation.Between b w = absurd (not_both false b refl)
next_of s l (continuation.Next marker) b w = (w.0, w.1, w.3)
next_of s l (continuation.Outside opening) b w = absurd (not_both false b refl)

marked : (one other : Option ListKind) → same_mark one other ≡ true → is_some one ≡ true
marked None other w = absurd (not_both false w refl)
marked (Some kind) other w = refl

-- what a line finds behind the item that is over
abbrev ReadsEnded : (limit : ℕ) → OpenUnit → Level → Gathering → BlockLine → Type 0
ReadsEnded limit old level mid l =
    (s : Summary) → HoldsSummary old s → Fits limit s → BeginsNext s l →
    (let e = old.gathering.entities.now in HasGathered mid [] [] (closed_nodes e false s)
    × HasGathered mid [] [] (handed_nodes e false (ended_summary e s)) × StandsFor e 0 false level (ended_summary e s)
    × IsLazyRight (ended_summary e s) l × Fits limit (ended_summary e s))

reads_ended : (limit : ℕ) (old : OpenUnit) (level : Level) (mid : Gathering) (l : BlockLine) → l.lazy ≡ false → EndsLastItem old.level old.gathering level mid → ReadsEnded limit old level mid l
reads_ended limit old level mid l whole ends s h fits next =
    let e = old.gathering.entities.now in
    let done = ends false s [] [] (marked (mark_of (last_in s)) (list_mark (begun l)) next.2) h.0 h.1 in
    (done.0, done.1, done.2, no_lazy (ended_summary e s) l whole, still_fits e limit s fits)

-- what is marked
counted : (e : _) (s : Summary) (level : Level) (mid : Gathering) (line : ℕ) → HasGathered mid [] [] (closed_nodes e false s) → StandsFor e 0 false level (ended_summary e s) →
    record { line = line; texts = length mid.texts.items; definitions = length mid.definitions.items; loose = is_parted_last level.last || level.blank } ≡ mark_after e s line
counted e s level mid line h st =
    let nodes = closed_nodes e false s in
    let texts : length mid.texts.items ≡ length (texts_in nodes) = sym (map_length string_bytes mid.texts.items) ∙ ap length h.0 in
    let definitions : length mid.definitions.items ≡ length (definitions_in nodes) = sym (map_length definition_of mid.definitions.items) ∙ ap length h.1 in
    let was = is_parted_last level.last || level.blank in
    ap (λ z. record { line = line; texts = z; definitions = length mid.definitions.items; loose = was }) texts
    ∙ ap (λ z. record { line = line; texts = length (texts_in nodes); definitions = z; loose = was }) definitions
    ∙ ap (λ z. record { line = line; texts = length (texts_in nodes); definitions = length (definitions_in nodes); loose = z }) (ended_loose e level s st)

pub next_on : (limit fed : ℕ) (old new : OpenUnit) (level : Level) (mid : Gathering) (l : BlockLine) (c : Continuation) (join : declared.Join) → l.lazy ≡ false → begins_item c ≡ true → ContinuesLevel old.level l c →
    EndsLastItem old.level old.gathering level mid → mid.entities.now ≡ old.gathering.entities.now → new.gathering.entities.now ≡ mid.entities.now → AddsLine limit level mid l new.level new.gathering →
    join_mark join ≡ record { line = fed - unwrap_or old.begin 0; texts = length mid.texts.items; definitions = length mid.definitions.items; loose = is_parted_last level.last || level.blank } →
    new.joins.items ≡ old.joins.items ++ join ∷ [] → new.begin ≡ old.begin → new.joined ≡ true → HandsOn limit fed old l None new
next_on limit fed old new level mid l c join whole item continues ends same still adds is pushed begin joined =
    let e = old.gathering.entities.now in
    let line = fed - unwrap_or old.begin 0 in
    goes_on_with limit fed old new l (still ∙ same) begin
    (λ s h fits.
    let next = next_of s l c item (continues e 0 false s h.1 (no_lazy s l whole)) in
    let r = reads_ended limit old level mid l whole ends s h fits next in
    let added : IsAdded e limit false (ended_summary e s) [] [] l new.level new.gathering =
    subst (λ z. HasGathered mid [] [] (handed_nodes z false (ended_summary e s)) → StandsFor z 0 false level (ended_summary e s) → IsAdded z limit false (ended_summary e s) [] [] l new.level new.gathering) same
    (λ a b. adds false (ended_summary e s) [] [] (a, b, r.3, r.4)) r.1 r.2 in
    let goes = ended_added e limit s l next.0 next.1 in
    let joins = next_joins s l next.0 next.1 next.2 in (
      stays_marked s l next.2,
      (
        sym (ended_sinks e limit s l next.0) ∙ added.0,
        subst (λ z. HasGathered new.gathering [] [] (handed_nodes e false z)) goes added.1,
        subst (StandsFor e 0 false new.level) goes added.2,
      ),
      joined ∙ sym joins,
      ap (map join_mark) pushed
          ∙ map-append join_mark old.joins.items (join ∷ [])
          ∙ ap (λ z. held_marks old ++ z ∷ []) (is ∙ counted e s level mid line r.0 r.2)
          ∙ ap (λ z. marks_next false z (held_marks old) (mark_after e s line)) (sym joins),
    ))

pub next_sinks : (limit : ℕ) (old : OpenUnit) (level : Level) (mid : Gathering) (l : BlockLine) (c : Continuation) → l.lazy ≡ false → begins_item c ≡ true → ContinuesLevel old.level l c →
    EndsLastItem old.level old.gathering level mid → mid.entities.now ≡ old.gathering.entities.now → SinksLine limit level mid l → SinksBehind limit old l
next_sinks limit old level mid l c whole item continues ends same deep s h fits =
    let e = old.gathering.entities.now in
    let next = next_of s l c item (continues e 0 false s h.1 (no_lazy s l whole)) in
    let r = reads_ended limit old level mid l whole ends s h fits next in
    sym (ended_sinks e limit s l next.0)
    ∙ subst (λ z. HasGathered mid [] [] (handed_nodes z false (ended_summary e s)) → StandsFor z 0 false level (ended_summary e s) → sinks limit (ended_summary e s) l ≡ true) same
    (λ a b. deep false (ended_summary e s) [] [] (a, b, r.3, r.4)) r.1 r.2
