-- Behind a line that begins no container too deep, no more containers are open than may be.
use Rattle.std.proofs.Common.{◌≡◌, ℕ, zero, suc, Bool, true, false, not, List, [], ◌∷◌, Some, None, refl, sym, ◌∙◌, subst, arith}
use Rattle.std.specs.Prelude.{if◌then◌else◌}
use Rattle.mdtext.specs.EntityTable.{EntityTable}
use Rattle.blockspec.specs.BlockLine.{BlockLine}
use Rattle.blockspec.specs.BlankLines.{is_blank_line}
use Rattle.blockspec.specs.BlockKinds.{Container, Kind, Holds}
use Rattle.blockspec.specs.BlockStart.{begun}
use Rattle.blockspec.specs.BlockUnits.{container_part}
use Rattle.blockspec.specs.ContainerLines.{opened, inside}
use Rattle.blockspec.specs.LineSummary.{Summary, summary, Last, nothing_yet, ended_block, open_leaf, open_container, no_summary, last_in, summary_tip, summary_gap, ended_last, new_last, begin_after, last_grown, leaf_after, container_after, last_after, line_added, is_apart_after, begins_after, mark_of, summary_of}
use Rattle.blockspec.specs.Lists.{Group}
use Rattle.blockspec.specs.Nesting.{deep_within}
use Rattle.blockspec.specs.OpenLeaf.{OpenLeaf, NextLeaf, ContinuesAs, EndsAs, EndedBefore, next_leaf, is_parted, leaf_from}
use Rattle.blockspec.specs.Stretches.{goes_on, is_single}
use Rattle.blockspec.specs.SummaryDepth.{sinks_first, sinks_later, sinks_at, sinks_by, sinks}
use Rattle.blockspec.specs.UnitBegin.{list_mark, same_mark}
use Rattle.blockspec.specs.UnitReader.{read_behind, unit_fault, summary_held, lines_held}
use Rattle.blockspec.proofs.LeafSteps.{Sort, is_container, is_leaf, sort_of}
use Rattle.blockspec.proofs.SummaryLaws.{leaf_begun, new_leaf}
use Rattle.blockspec.proofs.UnitLaws.{three_facts}
use Rattle.blockspec.proofs.UnitReaderLaws.{fault_first, holds_summary}
use Rattle.mdblock.specs.held.HeldLevel.{Fits, FitsLast}
use Rattle.mdblock.proofs.CloseLaws.{not_both}
use Rattle.mdblock.proofs.LevelLines.{apart_sinks}

-- whether the first line of a container begins one too deep
abbrev pub first_sinks : (limit : ℕ) → BlockLine → Bool
first_sinks zero l = true
first_sinks (suc limit) l = sinks limit no_summary l

abbrev pub later_sinks : (limit : ℕ) → Summary → BlockLine → Bool
later_sinks zero s l = false
later_sinks (suc limit) s l = sinks limit s l

pub sinks_is : (limit : ℕ) (before : List Group) (last : Last) (b : Bool) (n : ℕ) (l : BlockLine) →
    sinks limit (summary before last b n) l ≡ sinks_at (later_sinks limit) (first_sinks limit) (is_apart_after last l) last l
unfolding sinks sinks_by sinks_at
sinks_is zero before last b n l = refl
sinks_is (suc limit) before last b n l = refl

pub begins_apart : (s : Summary) (l : BlockLine) → begins_after s l ≡ true → is_apart_after (last_in s) l ≡ true
unfolding begins_after
begins_apart (summary before last b n) l e = (three_facts (is_apart_after last l) (is_blank_line l) (same_mark (mark_of last) (list_mark (begun l))) e).0

-- ---- a line that begins a block

pub ended_fits : (e : EntityTable) (limit : ℕ) (last : Last) → FitsLast limit last → FitsLast limit (ended_last e last)
unfolding ended_last container_part
ended_fits e limit nothing_yet f = tt
ended_fits e limit (ended_block g) f = f
ended_fits e limit (open_leaf begin gap leaf) f = λ w. absurd (not_both true refl (sym w))
ended_fits e zero (open_container begin gap bare container inner) f = absurd f
ended_fits e (suc limit) (open_container begin gap bare container inner) f = λ w. omega arith

begun_fits : (e : EntityTable) (limit : ℕ) (single : Bool) (n : ℕ) (gap : Bool) (leaf : OpenLeaf) → FitsLast limit (leaf_begun e single n gap leaf)
begun_fits e limit true n gap leaf = λ w. absurd (not_both true refl (sym w))
begun_fits e limit false n gap leaf = tt

abbrev FirstFits : (limit : ℕ) → (more : Summary → BlockLine → Summary) → Type 0
FirstFits zero more = Unit {0}
FirstFits (suc limit) more = (l : BlockLine) → sinks limit no_summary l ≡ false → Fits limit (more no_summary l)

new_fits : (e : EntityTable) (limit : ℕ) (more : Summary → BlockLine → Summary) → FirstFits limit more → (single : Bool) (n : ℕ) (gap : Bool) (k : Kind) (l : BlockLine) → Sort k →
    sinks_first (first_sinks limit) k l ≡ false → FitsLast limit (new_last e more single k (record { begin = n; gap = gap; kind = k; first = l; later = [] }))
unfolding new_last sinks_first
new_fits e zero more h single n gap (Holds c) l is_container w = absurd (not_both true refl w)
new_fits e (suc limit) more h single n gap (Holds c) l is_container w = h (opened c l) w
new_fits e limit more h single n gap k l (is_leaf u) w =
    subst (FitsLast limit) (sym (new_leaf e more single k (record { begin = n; gap = gap; kind = k; first = l; later = [] }) u)) (begun_fits e limit single n gap (leaf_from k l []))

begin_fits : (e : EntityTable) (limit : ℕ) (more : Summary → BlockLine → Summary) → FirstFits limit more → (blank : Bool) (before : List Group) (last : Last) (b : Bool) (n : ℕ) (l : BlockLine) →
    FitsLast limit last → sinks_first (first_sinks limit) (begun l) l ≡ false → Fits limit (begin_after e more blank (summary before last b n) l)
unfolding begin_after
begin_fits e limit more h true before last b n l f w = ended_fits e limit last f
begin_fits e limit more h false before last b n l f w = new_fits e limit more h (is_single (begun l) l) n (summary_gap last b) (begun l) l (sort_of (begun l)) w

-- ---- a line of the last block

leaf_fits : (e : EntityTable) (limit : ℕ) (more : Summary → BlockLine → Summary) → FirstFits limit more → (before : List Group) (m : ℕ) (gap : Bool) (leaf : OpenLeaf) (b : Bool) (n : ℕ) (l : BlockLine) (t : NextLeaf) →
    sinks_at (later_sinks limit) (first_sinks limit) (is_parted t) (open_leaf m gap leaf) l ≡ false →
    Fits limit (leaf_after e more m gap t (summary before (open_leaf m gap leaf) b n) l)
unfolding leaf_after last_grown sinks_at
leaf_fits e limit more h before m gap leaf b n l (ContinuesAs next) w = tt
leaf_fits e limit more h before m gap leaf b n l (EndsAs next) w = λ z. absurd (not_both true refl (sym z))
leaf_fits e limit more h before m gap leaf b n l EndedBefore w = begin_fits e limit more h (is_blank_line l) before (open_leaf m gap leaf) b n l tt w

abbrev LaterFits : (limit : ℕ) → (more : Summary → BlockLine → Summary) → Type 0
LaterFits zero more = Unit {0}
LaterFits (suc limit) more = (s : Summary) (l : BlockLine) → Fits limit s → sinks limit s l ≡ false → Fits limit (more s l)

container_fits : (e : EntityTable) (limit : ℕ) (more : Summary → BlockLine → Summary) → FirstFits limit more → LaterFits limit more →
    (before : List Group) (m : ℕ) (gap bare : Bool) (c : Container) (inner : Summary) (b : Bool) (n : ℕ) (l : BlockLine) (takes : Bool) →
    FitsLast limit (open_container m gap bare c inner) →
    sinks_at (later_sinks limit) (first_sinks limit) (not takes) (open_container m gap bare c inner) l ≡ false →
    Fits limit (container_after e more takes m gap c inner (summary before (open_container m gap bare c inner) b n) l)
unfolding container_after last_grown sinks_at sinks_later
container_fits e zero more h later before m gap bare c inner b n l true f w = absurd f
container_fits e (suc limit) more h later before m gap bare c inner b n l true f w = later inner (inside c l) f w
container_fits e limit more h later before m gap bare c inner b n l false f w = begin_fits e limit more h (is_blank_line l) before (open_container m gap bare c inner) b n l f w

last_fits : (e : EntityTable) (limit : ℕ) (more : Summary → BlockLine → Summary) → FirstFits limit more → LaterFits limit more →
    (before : List Group) (last : Last) (b : Bool) (n : ℕ) (l : BlockLine) → FitsLast limit last →
    sinks_at (later_sinks limit) (first_sinks limit) (is_apart_after last l) last l ≡ false → Fits limit (last_after e more last (summary before last b n) l)
unfolding last_after is_apart_after sinks_at
last_fits e limit more h later before nothing_yet b n l f w = begin_fits e limit more h (is_blank_line l) before nothing_yet b n l f w
last_fits e limit more h later before (ended_block g) b n l f w = begin_fits e limit more h (is_blank_line l) before (ended_block g) b n l f w
last_fits e limit more h later before (open_leaf m gap leaf) b n l f w = leaf_fits e limit more h before m gap leaf b n l (next_leaf leaf l) w
last_fits e limit more h later before (open_container m gap bare c inner) b n l f w =
    container_fits e limit more h later before m gap bare c inner b n l (goes_on c bare (summary_tip inner) l) f w

-- So it is of one line more.
pub fits_added : (e : EntityTable) (limit : ℕ) (s : Summary) (l : BlockLine) → Fits limit s → sinks limit s l ≡ false → Fits limit (line_added e (suc limit) s l)
unfolding line_added
fits_added e zero (summary before last b n) l f w = last_fits e zero (line_added e zero) tt tt before last b n l f (sym (sinks_is zero before last b n l) ∙ w)
fits_added e (suc limit) (summary before last b n) l f w =
    last_fits e (suc limit) (line_added e (suc limit)) (λ x v. fits_added e limit no_summary x tt v) (λ s x g v. fits_added e limit s x g v)
    before last b n l f (sym (sinks_is (suc limit) before last b n l) ∙ w)

fits_next : (e : EntityTable) (limit : ℕ) (s : Summary) (l : BlockLine) (b : Bool) → begins_after s l ≡ b → Fits limit s → sinks limit s l ≡ false →
    Fits limit (line_added e (suc limit) (read_behind b s) l)
fits_next e limit s l true begins f w = fits_added e limit no_summary l tt (sym (apart_sinks limit s l (begins_apart s l begins)) ∙ w)
fits_next e limit s l false begins f w = fits_added e limit s l f w

held_fits : (e : EntityTable) (limit fed : ℕ) (s : Summary) (ls : List BlockLine) → Fits limit s → unit_fault e limit fed s ls ≡ None → Fits limit (summary_held e limit s ls)
unfolding unit_fault summary_held
held_fits e limit fed s [] f w = f
held_fits e limit fed s (l ∷ ls) f w = go (sinks limit s l) refl w (λ k v. held_fits e limit (suc fed) s' ls k v)
  where
    s' : Summary
    s' = line_added e (suc limit) (read_behind (begins_after s l) s) l

    go : (b : Bool) → sinks limit s l ≡ b → (if b then Some fed else unit_fault e limit (suc fed) s' ls) ≡ None →
        (Fits limit s' → unit_fault e limit (suc fed) s' ls ≡ None → Fits limit (summary_held e limit s' ls)) → Fits limit (summary_held e limit s' ls)
    go true is w more = absurd (let x : ⊥ = cc in x)
    go false is w more = more (fits_next e limit s l (begins_after s l) refl f is) w

-- Of the lines that are held no more containers are open than may be.
pub held_lines_fit : (e : EntityTable) (limit : ℕ) (ls : List BlockLine) → deep_within limit ls ≡ None → Fits limit (summary_of e (lines_held [] ls))
held_lines_fit e limit ls w =
    subst (Fits limit) (holds_summary e limit ls w) (held_fits e limit 0 no_summary ls tt (fault_first e limit ls ∙ w))
