-- What one line more makes of a summary, by how the line continues the last block.
use Rattle.std.proofs.Common.{◌≡◌, ℕ, zero, suc, ◌+◌, Bool, true, false, not, ◌||◌, List, refl, sym, ◌∙◌, ap, arith}
use Rattle.std.proofs.Math.Bool.{or-true}
use Rattle.mdtext.specs.EntityTable.{EntityTable}
use Rattle.blockspec.specs.BlockLine.{BlockLine}
use Rattle.blockspec.specs.BlankLines.{is_blank_line}
use Rattle.blockspec.specs.BlockKinds.{Container, Kind, Paragraph, Holds}
use Rattle.blockspec.specs.BlockStart.{start, begun}
use Rattle.blockspec.specs.ContainerLines.{opened, inside}
use Rattle.blockspec.specs.LineSummary.{Summary, summary, Last, nothing_yet, ended_block, open_leaf, open_container, no_summary, last_in, summary_tip, leaf_group, ended_last, new_last, begin_after, last_grown, leaf_after, container_after, last_after, line_added, is_apart_after}
use Rattle.blockspec.specs.OpenLeaf.{OpenLeaf, NextLeaf, ContinuesAs, EndsAs, EndedBefore, next_leaf, is_parted}
use Rattle.blockspec.specs.Lists.{Group}
use Rattle.blockspec.specs.Stretches.{Stretch, goes_on, is_single, first_of}
use Rattle.blockspec.specs.SummaryDepth.{sinks, sinks_by, sinks_at, sinks_first, sinks_later}
use Rattle.blockspec.proofs.LeafSteps.{Sort, is_container, is_leaf, sort_of}
use Rattle.blockspec.proofs.SummaryLaws.{leaf_begun, new_leaf}

-- ---- a line that goes on with no block

leaf_apart : (e : EntityTable) (more : Summary → BlockLine → Summary) (b : ℕ) (g : Bool) (n : NextLeaf) (s : Summary) (l : BlockLine) → is_parted n ≡ true →
    leaf_after e more b g n s l ≡ begin_after e more (is_blank_line l) s l
unfolding leaf_after
leaf_apart e more b g (ContinuesAs leaf) s l h = absurd (let x : ⊥ = cc in x)
leaf_apart e more b g (EndsAs leaf) s l h = absurd (let x : ⊥ = cc in x)
leaf_apart e more b g EndedBefore s l h = refl

container_apart : (e : EntityTable) (more : Summary → BlockLine → Summary) (takes : Bool) (b : ℕ) (g : Bool) (c : Container) (i s : Summary) (l : BlockLine) → not takes ≡ true →
    container_after e more takes b g c i s l ≡ begin_after e more (is_blank_line l) s l
unfolding container_after
container_apart e more true b g c i s l h = absurd (let x : ⊥ = cc in x)
container_apart e more false b g c i s l h = refl

last_apart : (e : EntityTable) (more : Summary → BlockLine → Summary) (last : Last) (s : Summary) (l : BlockLine) → is_apart_after last l ≡ true →
    last_after e more last s l ≡ begin_after e more (is_blank_line l) s l
unfolding last_after is_apart_after
last_apart e more nothing_yet s l h = refl
last_apart e more (ended_block g) s l h = refl
last_apart e more (open_leaf b g leaf) s l h = leaf_apart e more b g (next_leaf leaf l) s l h
last_apart e more (open_container b g bare c i) s l h = container_apart e more (goes_on c bare (summary_tip i) l) b g c i s l h

pub apart_added : (e : EntityTable) (room : ℕ) (s : Summary) (l : BlockLine) → is_apart_after (last_in s) l ≡ true →
    line_added e (suc room) s l ≡ begin_after e (line_added e room) (is_blank_line l) s l
unfolding line_added
apart_added e room s l h = last_apart e (line_added e room) (last_in s) s l h

pub none_added : (e : EntityTable) (room : ℕ) (l : BlockLine) → line_added e (suc room) no_summary l ≡ begin_after e (line_added e room) (is_blank_line l) no_summary l
unfolding line_added last_after
none_added e room l = refl

by_apart : (later : Summary → BlockLine → Bool) (first : BlockLine → Bool) (s : Summary) (l : BlockLine) → is_apart_after (last_in s) l ≡ true →
    sinks_by later first s l ≡ sinks_first first (begun l) l
unfolding sinks_by sinks_at
by_apart later first (summary before last blank lines) l h = ap (λ z. sinks_at later first z last l) h

pub apart_sinks : (room : ℕ) (s : Summary) (l : BlockLine) → is_apart_after (last_in s) l ≡ true → sinks room s l ≡ sinks room no_summary l
unfolding sinks is_apart_after
apart_sinks zero s l h = by_apart (λ i m. false) (λ m. true) s l h ∙ sym (by_apart (λ i m. false) (λ m. true) no_summary l refl)
apart_sinks (suc room) s l h = by_apart (sinks room) (sinks room no_summary) s l h ∙ sym (by_apart (sinks room) (sinks room no_summary) no_summary l refl)

-- whether a line that begins a block begins a container too deep
pub first_sinks : (room : ℕ) (l : BlockLine) → sinks (suc room) no_summary l ≡ sinks_first (sinks room no_summary) (begun l) l
unfolding sinks is_apart_after
first_sinks room l = by_apart (sinks room) (sinks room no_summary) no_summary l refl

pub none_sinks : (l : BlockLine) → sinks zero no_summary l ≡ sinks_first (λ m. true) (begun l) l
unfolding sinks is_apart_after
none_sinks l = by_apart (λ i m. false) (λ m. true) no_summary l refl

abbrev pub HoldsNone : Kind → Type 0
HoldsNone (Holds container) = ⊥
HoldsNone kind = Unit {0}

first_leaf : (first : BlockLine → Bool) (k : Kind) (l : BlockLine) → HoldsNone k → sinks_first first k l ≡ false
unfolding sinks_first
first_leaf first (Holds container) l h = absurd h
first_leaf first k l h = refl

pub leaf_sinks : (room : ℕ) (l : BlockLine) → HoldsNone (begun l) → sinks room no_summary l ≡ false
leaf_sinks zero l h = none_sinks l ∙ first_leaf (λ m. true) (begun l) l h
leaf_sinks (suc room) l h = first_sinks room l ∙ first_leaf (sinks room no_summary) (begun l) l h

pub held_sinks : (room : ℕ) (container : Container) (l : BlockLine) → begun l ≡ Holds container → sinks (suc room) no_summary l ≡ sinks room no_summary (opened container l)
unfolding sinks_first
held_sinks room container l h = first_sinks room l ∙ ap (λ z. sinks_first (sinks room no_summary) z l) h

pub deepest_sinks : (container : Container) (l : BlockLine) → begun l ≡ Holds container → sinks zero no_summary l ≡ true
unfolding sinks_first
deepest_sinks container l h = none_sinks l ∙ ap (λ z. sinks_first (λ m. true) z l) h

-- the same with one container less
pub held_fits : (room less : ℕ) (container : Container) (l inner : BlockLine) (b : Bool) → less + 1 ≡ room → begun l ≡ Holds container → inner ≡ opened container l → sinks less no_summary inner ≡ b → sinks room no_summary l ≡ b
held_fits room less container l inner b r is i h =
    let n : room ≡ suc less = omega (arith, r) in
    ap (λ z. sinks z no_summary l) n ∙ held_sinks less container l is ∙ ap (sinks less no_summary) (sym i) ∙ h

pub held_deepest : (room : ℕ) (container : Container) (l : BlockLine) → room ≡ 0 → begun l ≡ Holds container → sinks room no_summary l ≡ true
held_deepest room container l r is = ap (λ z. sinks z no_summary l) r ∙ deepest_sinks container l is

blank_start : (l : BlockLine) → is_blank_line l ≡ true → begun l ≡ Paragraph
unfolding start
blank_start l h = rw h refl

pub blank_sinks : (room : ℕ) (l : BlockLine) → is_blank_line l ≡ true → sinks room no_summary l ≡ false
blank_sinks room l h = leaf_sinks room l (rw (blank_start l h) tt)

-- ---- a line of the last block

later_sinks : (room : ℕ) (before : List Group) (last : Last) (blank : Bool) (lines : ℕ) (l : BlockLine) → is_apart_after last l ≡ false →
    sinks (suc room) (summary before last blank lines) l ≡ sinks_later (sinks room) last l
unfolding sinks sinks_by sinks_at
later_sinks room before last blank lines l h = ap (λ z. sinks_at (sinks room) (sinks room no_summary) z last l) h

later_sinks_none : (before : List Group) (last : Last) (blank : Bool) (lines : ℕ) (l : BlockLine) → is_apart_after last l ≡ false →
    sinks zero (summary before last blank lines) l ≡ sinks_later (λ i m. false) last l
unfolding sinks sinks_by sinks_at
later_sinks_none before last blank lines l h = ap (λ z. sinks_at (λ i m. false) (λ m. true) z last l) h

taken_after : (e : EntityTable) (more : Summary → BlockLine → Summary) (takes : Bool) (b : ℕ) (g : Bool) (c : Container) (i s : Summary) (l : BlockLine) → not takes ≡ false →
    container_after e more takes b g c i s l ≡ last_grown s (open_container b g false c (more i (inside c l))) l
unfolding container_after
taken_after e more true b g c i s l h = refl
taken_after e more false b g c i s l h = absurd (let x : ⊥ = cc in x)

pub container_added : (e : EntityTable) (room : ℕ) (before : List Group) (b : ℕ) (g bare : Bool) (c : Container) (i : Summary) (blank : Bool) (lines : ℕ) (l : BlockLine) →
    is_apart_after (open_container b g bare c i) l ≡ false →
    line_added e (suc room) (summary before (open_container b g bare c i) blank lines) l
    ≡ summary before (open_container b g false c (line_added e room i (inside c l))) (is_blank_line l) (suc lines)
unfolding line_added last_after last_grown is_apart_after
container_added e room before b g bare c i blank lines l h =
    taken_after e (line_added e room) (goes_on c bare (summary_tip i) l) b g c i (summary before (open_container b g bare c i) blank lines) l h

pub container_sinks : (room : ℕ) (before : List Group) (b : ℕ) (g bare : Bool) (c : Container) (i : Summary) (blank : Bool) (lines : ℕ) (l : BlockLine) →
    is_apart_after (open_container b g bare c i) l ≡ false →
    sinks (suc room) (summary before (open_container b g bare c i) blank lines) l ≡ sinks room i (inside c l)
unfolding sinks_later
container_sinks room before b g bare c i blank lines l h = later_sinks room before (open_container b g bare c i) blank lines l h

-- what a line makes of an open leaf that it goes on with
abbrev pub leaf_grown : EntityTable → (b : ℕ) → (gap : Bool) → NextLeaf → Last
leaf_grown e b g (ContinuesAs leaf) = open_leaf b g leaf
leaf_grown e b g (EndsAs leaf) = ended_block (leaf_group e b g leaf)
leaf_grown e b g EndedBefore = nothing_yet

leaf_taken : (e : EntityTable) (more : Summary → BlockLine → Summary) (b : ℕ) (g : Bool) (n : NextLeaf) (s : Summary) (l : BlockLine) → is_parted n ≡ false →
    leaf_after e more b g n s l ≡ last_grown s (leaf_grown e b g n) l
unfolding leaf_after
leaf_taken e more b g (ContinuesAs leaf) s l h = refl
leaf_taken e more b g (EndsAs leaf) s l h = refl
leaf_taken e more b g EndedBefore s l h = absurd (let x : ⊥ = cc in x)

pub leaf_added : (e : EntityTable) (room : ℕ) (before : List Group) (b : ℕ) (g : Bool) (leaf : OpenLeaf) (blank : Bool) (lines : ℕ) (l : BlockLine) →
    is_apart_after (open_leaf b g leaf) l ≡ false →
    line_added e (suc room) (summary before (open_leaf b g leaf) blank lines) l ≡ summary before (leaf_grown e b g (next_leaf leaf l)) (is_blank_line l) (suc lines)
unfolding line_added last_after last_grown is_apart_after
leaf_added e room before b g leaf blank lines l h =
    leaf_taken e (line_added e room) b g (next_leaf leaf l) (summary before (open_leaf b g leaf) blank lines) l h

pub leaf_never_sinks : (room : ℕ) (before : List Group) (b : ℕ) (g : Bool) (leaf : OpenLeaf) (blank : Bool) (lines : ℕ) (l : BlockLine) →
    is_apart_after (open_leaf b g leaf) l ≡ false → sinks room (summary before (open_leaf b g leaf) blank lines) l ≡ false
unfolding sinks_later
leaf_never_sinks zero before b g leaf blank lines l h = later_sinks_none before (open_leaf b g leaf) blank lines l h
leaf_never_sinks (suc room) before b g leaf blank lines l h = later_sinks room before (open_leaf b g leaf) blank lines l h

-- ---- what stays known

abbrev pub is_last_blank : Summary → Bool
is_last_blank (summary before last blank lines) = blank

begin_blank : (e : EntityTable) (more : Summary → BlockLine → Summary) (blank : Bool) (s : Summary) (l : BlockLine) → is_last_blank (begin_after e more blank s l) ≡ blank
unfolding begin_after
begin_blank e more true (summary before last blank lines) l = refl
begin_blank e more false (summary before last blank lines) l = refl

grown_blank : (s : Summary) (last : Last) (l : BlockLine) → is_last_blank (last_grown s last l) ≡ is_blank_line l
unfolding last_grown
grown_blank (summary before last blank lines) grown l = refl

leaf_blank : (e : EntityTable) (more : Summary → BlockLine → Summary) (b : ℕ) (g : Bool) (n : NextLeaf) (s : Summary) (l : BlockLine) → is_last_blank (leaf_after e more b g n s l) ≡ is_blank_line l
unfolding leaf_after
leaf_blank e more b g (ContinuesAs leaf) s l = grown_blank s (open_leaf b g leaf) l
leaf_blank e more b g (EndsAs leaf) s l = grown_blank s (ended_block (leaf_group e b g leaf)) l
leaf_blank e more b g EndedBefore s l = begin_blank e more (is_blank_line l) s l

container_blank : (e : EntityTable) (more : Summary → BlockLine → Summary) (takes : Bool) (b : ℕ) (g : Bool) (c : Container) (i s : Summary) (l : BlockLine) →
    is_last_blank (container_after e more takes b g c i s l) ≡ is_blank_line l
unfolding container_after
container_blank e more true b g c i s l = grown_blank s (open_container b g false c (more i (inside c l))) l
container_blank e more false b g c i s l = begin_blank e more (is_blank_line l) s l

after_blank : (e : EntityTable) (more : Summary → BlockLine → Summary) (last : Last) (s : Summary) (l : BlockLine) → is_last_blank (last_after e more last s l) ≡ is_blank_line l
unfolding last_after
after_blank e more nothing_yet s l = begin_blank e more (is_blank_line l) s l
after_blank e more (ended_block g) s l = begin_blank e more (is_blank_line l) s l
after_blank e more (open_leaf b g leaf) s l = leaf_blank e more b g (next_leaf leaf l) s l
after_blank e more (open_container b g bare c i) s l = container_blank e more (goes_on c bare (summary_tip i) l) b g c i s l

pub added_blank : (e : EntityTable) (room : ℕ) (s : Summary) (l : BlockLine) → is_last_blank (line_added e (suc room) s l) ≡ is_blank_line l
unfolding line_added
added_blank e room s l = after_blank e (line_added e room) (last_in s) s l

-- ---- whether a block has begun

abbrev pub has_begun : Last → Bool
has_begun nothing_yet = false
has_begun (ended_block g) = true
has_begun (open_leaf b g leaf) = true
has_begun (open_container b g bare c i) = true

pub ended_begun : (e : EntityTable) (last : Last) → has_begun (ended_last e last) ≡ has_begun last
unfolding ended_last
ended_begun e nothing_yet = refl
ended_begun e (ended_block g) = refl
ended_begun e (open_leaf b g leaf) = refl
ended_begun e (open_container b g bare c i) = refl

begun_leaf : (e : EntityTable) (single : Bool) (b : ℕ) (g : Bool) (leaf : OpenLeaf) → has_begun (leaf_begun e single b g leaf) ≡ true
begun_leaf e true b g leaf = refl
begun_leaf e false b g leaf = refl

new_begun : (e : EntityTable) (more : Summary → BlockLine → Summary) (single : Bool) (k : Kind) (s : Stretch) → Sort k → has_begun (new_last e more single k s) ≡ true
unfolding new_last
new_begun e more single (Holds c) s is_container = refl
new_begun e more single k s (is_leaf w) = ap has_begun (new_leaf e more single k s w) ∙ begun_leaf e single s.begin s.gap _

pub begin_begun : (e : EntityTable) (more : Summary → BlockLine → Summary) (blank : Bool) (s : Summary) (l : BlockLine) →
    has_begun (last_in (begin_after e more blank s l)) ≡ (not blank || has_begun (last_in s))
unfolding begin_after
begin_begun e more true (summary before last blank lines) l = ended_begun e last
begin_begun e more false (summary before last blank lines) l =
    new_begun e more (is_single (begun l) l) (begun l) (first_of lines _ l) (sort_of (begun l))

leaf_stays : (e : EntityTable) (more : Summary → BlockLine → Summary) (b : ℕ) (g : Bool) (n : NextLeaf) (s : Summary) (l : BlockLine) → has_begun (last_in s) ≡ true →
    has_begun (last_in (leaf_after e more b g n s l)) ≡ true
unfolding leaf_after last_grown
leaf_stays e more b g (ContinuesAs leaf) (summary before last blank lines) l h = refl
leaf_stays e more b g (EndsAs leaf) (summary before last blank lines) l h = refl
leaf_stays e more b g EndedBefore s l h = begin_begun e more (is_blank_line l) s l ∙ ap (λ z. not (is_blank_line l) || z) h ∙ or-true (not (is_blank_line l))

container_stays : (e : EntityTable) (more : Summary → BlockLine → Summary) (takes : Bool) (b : ℕ) (g : Bool) (c : Container) (i s : Summary) (l : BlockLine) → has_begun (last_in s) ≡ true →
    has_begun (last_in (container_after e more takes b g c i s l)) ≡ true
unfolding container_after last_grown
container_stays e more true b g c i (summary before last blank lines) l h = refl
container_stays e more false b g c i s l h = begin_begun e more (is_blank_line l) s l ∙ ap (λ z. not (is_blank_line l) || z) h ∙ or-true (not (is_blank_line l))

after_begun : (e : EntityTable) (more : Summary → BlockLine → Summary) (last : Last) (s : Summary) (l : BlockLine) → last_in s ≡ last → (has_begun last || not (is_blank_line l)) ≡ true →
    has_begun (last_in (last_after e more last s l)) ≡ true
unfolding last_after
after_begun e more nothing_yet s l i h = begin_begun e more (is_blank_line l) s l ∙ ap (λ z. z || has_begun (last_in s)) h
after_begun e more (ended_block g) s l i h = begin_begun e more (is_blank_line l) s l ∙ ap (λ z. not (is_blank_line l) || has_begun z) i ∙ or-true (not (is_blank_line l))
after_begun e more (open_leaf b g leaf) s l i h = leaf_stays e more b g (next_leaf leaf l) s l (ap has_begun i)
after_begun e more (open_container b g bare c inner) s l i h = container_stays e more (goes_on c bare (summary_tip inner) l) b g c inner s l (ap has_begun i)

pub added_begun : (e : EntityTable) (room : ℕ) (s : Summary) (l : BlockLine) → (has_begun (last_in s) || not (is_blank_line l)) ≡ true → has_begun (last_in (line_added e (suc room) s l)) ≡ true
unfolding line_added
added_begun e room s l h = after_begun e (line_added e room) (last_in s) s l refl h
