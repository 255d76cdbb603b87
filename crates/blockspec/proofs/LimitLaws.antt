-- Lines with no container too many need no more depth than the limit.
use Rattle.std.proofs.Common.{◌≡◌, ℕ, zero, suc, ◌+◌, ◌≤◌, Bool, true, false, not, List, [], ◌∷◌, ◌++◌, length, Option, Some, None, refl, sym, ◌∙◌, ap, subst, append_assoc, arith}
use Rattle.std.proofs.lemmas.List.{append-nil, length-append}
use Rattle.std.specs.Option.{option_or}
use Rattle.std.specs.Prelude.{if◌then◌else◌}
use Rattle.mdtext.specs.EntityTable.{EntityTable}
use Rattle.blockspec.specs.BlockLine.{BlockLine}
use Rattle.blockspec.specs.BlankLines.{is_blank_line}
use Rattle.blockspec.specs.BlockKinds.{Container, Kind, Holds}
use Rattle.blockspec.specs.BlockStart.{begun}
use Rattle.blockspec.specs.BlockUnits.{visible_in, depth_of, groups_within}
use Rattle.blockspec.specs.ContainerLines.{opened, inside, inner}
use Rattle.blockspec.specs.LineSummary.{Summary, summary, Last, nothing_yet, ended_block, open_leaf, open_container, no_summary, summary_tip, last_groups, new_last, summary_gap, begin_after, last_grown, leaf_after, container_after, last_after, line_added, last_at, last_of, summary_within, summary_of, is_apart_after}
use Rattle.blockspec.specs.Lists.{Group, merged}
use Rattle.blockspec.specs.Nesting.{deep_at, first_deep, deep_within}
use Rattle.blockspec.specs.OpenLeaf.{OpenLeaf, NextLeaf, ContinuesAs, EndsAs, EndedBefore, next_leaf, is_parted}
use Rattle.blockspec.specs.Stretches.{Stretch, goes_on, is_single, Tail, Empty, Going, Over, Cut, all_of, cut_from, cut_by, tip_within}
use Rattle.blockspec.specs.SummaryDepth.{sinks_first, sinks_later, sinks_at, sinks_by, sinks, lines_added, refused_line}
use Rattle.blockspec.proofs.LeafSteps.{Sort, is_container, is_leaf, sort_of}
use Rattle.blockspec.proofs.NestingLaws.{moved_on, stretch_deep, push_deep, deep_in, deep_to, deep_agrees, deep_stays}
use Rattle.blockspec.proofs.SummaryLaws.{leaf_last, new_leaf}
use Rattle.blockspec.proofs.ReaderLaws.{summary_none, summary_added, summary_sinks}

-- ---- no more containers are open

abbrev LastFits : (Summary → Type 0) → Last → Type 0
LastFits Held nothing_yet = Unit {0}
LastFits Held (ended_block g) = Unit {0}
LastFits Held (open_leaf begin gap leaf) = Unit {0}
LastFits Held (open_container begin gap bare container inner) = Held inner

abbrev FitsBy : (Summary → Type 0) → Summary → Type 0
FitsBy Held (summary before last blank lines) = LastFits Held last

-- at most so many containers are open
unfoldable pub Fits : ℕ → Summary → Type 0
Fits zero s = FitsBy (λ inner. ⊥) s
Fits (suc limit) s = FitsBy (Fits limit) s

none_fits : (limit : ℕ) → Fits limit no_summary
unfolding Fits
none_fits zero = tt
none_fits (suc limit) = tt

pub or_first : (a b : Option ℕ) → option_or a b ≡ None → a ≡ None
or_first None b e = refl
or_first (Some n) b e = absurd (let x : ⊥ = cc in x)

pub or_second : (a b : Option ℕ) → option_or a b ≡ None → b ≡ None
or_second None b e = e
or_second (Some n) b e = absurd (let x : ⊥ = cc in x)

abbrev of_kind : ℕ → Bool → Kind → BlockLine → List BlockLine → Stretch
of_kind b g k f r = record { begin = b; gap = g; kind = k; first = f; later = r }

pub moved_none : (n : ℕ) (o : Option ℕ) → moved_on n o ≡ None → o ≡ None
moved_none n None e = refl
moved_none n (Some m) e = absurd (let x : ⊥ = cc in x)

-- `D` tells the first line too deep, and where there is none the summary fits
record Fitting (D : List BlockLine → Option ℕ) (S : List BlockLine → Summary) (Held : Summary → Type 0) : Type 0 where
  fits : (ls : List BlockLine) → D ls ≡ None → Held (S ls)

at_fits : {D : List BlockLine → Option ℕ} {S : List BlockLine → Summary} {Held : Summary → Type 0} (h : Fitting D S Held) (n : ℕ) (g : Bool) (k : Kind) (f : BlockLine) (r : List BlockLine) → Sort k →
    deep_at D k f r ≡ None → LastFits Held (last_at S k (of_kind n g k f r))
unfolding last_at
at_fits h n g (Holds c) f r is_container e = h.fits (inner c f r) e
at_fits {S = S} {Held = Held} h n g k f r (is_leaf w) e = subst (λ z. LastFits Held z) (sym (leaf_last S k (of_kind n g k f r) w)) tt

of_fits : {D : List BlockLine → Option ℕ} {Held : Summary → Type 0} (e : EntityTable) (d : ℕ) (h : Fitting D (summary_within e d) Held) (before : List Stretch) (t : Tail) →
    first_deep D (all_of before t) ≡ None → LastFits Held (last_of e (groups_within e d) (summary_within e d) t)
unfolding all_of last_of
of_fits e d h before Empty w = tt
of_fits e d h before (Over s) w = tt
of_fits {D = D} e d h before (Going s) w =
    at_fits h s.begin s.gap s.kind s.first s.later (sort_of s.kind) (moved_none s.begin (deep_at D s.kind s.first s.later) (or_second (first_deep D before) (stretch_deep D s) (sym (push_deep D before s) ∙ w)))

next_fits : {D : List BlockLine → Option ℕ} {Held : Summary → Type 0} (e : EntityTable) (d : ℕ) → Fitting D (summary_within e d) Held →
    Fitting (deep_in D d) (summary_within e (suc d)) (FitsBy Held)
unfolding summary_within
next_fits e d h = record { fits = λ ls w. let c : Cut = cut_by (tip_within d) ls in of_fits e d h c.before c.tail w }

none_open : (S : List BlockLine → Summary) → Fitting (λ inside. Some 0) S (λ inner. ⊥)
none_open S = record { fits = λ ls w. let x : ⊥ = cc in x }

at_zero : (e : EntityTable) (limit : ℕ) → Fitting (deep_to zero limit) (summary_within e zero) (Fits limit)
unfolding summary_within
at_zero e limit = record { fits = λ ls w. none_fits limit }

fitting : (e : EntityTable) (d limit : ℕ) → Fitting (deep_to d limit) (summary_within e d) (Fits limit)
unfolding deep_to Fits
fitting e zero limit = at_zero e limit
fitting e (suc d) zero = next_fits e d (none_open (summary_within e d))
fitting e (suc d) (suc limit) = next_fits e d (fitting e d limit)

-- Of lines with no container too many, no more containers are open.
pub summary_fits : (e : EntityTable) (limit : ℕ) (ls : List BlockLine) → deep_within limit ls ≡ None → Fits limit (summary_of e ls)
summary_fits e limit ls w = (fitting e (depth_of ls) limit).fits ls (deep_agrees (depth_of ls) limit ls (omega arith) ∙ w)

-- ---- a line that begins no container too many asks for no more depth

-- two ways to read one line more in a container agree where it begins no container too many
record Shallow (more other : Summary → BlockLine → Summary) (Held : Summary → Type 0) (later : Summary → BlockLine → Bool) (first : BlockLine → Bool) : Type 0 where
  laters : (s : Summary) (l : BlockLine) → Held s → later s l ≡ false → more s l ≡ other s l
  firsts : (l : BlockLine) → first l ≡ false → more no_summary l ≡ other no_summary l

new_shallow : {more other : Summary → BlockLine → Summary} {Held : Summary → Type 0} {later : Summary → BlockLine → Bool} {first : BlockLine → Bool} (h : Shallow more other Held later first)
    (e : EntityTable) (single : Bool) (n : ℕ) (g : Bool) (k : Kind) (f : BlockLine) (r : List BlockLine) → Sort k → sinks_first first k f ≡ false →
    new_last e more single k (of_kind n g k f r) ≡ new_last e other single k (of_kind n g k f r)
unfolding new_last sinks_first
new_shallow h e b n g (Holds c) f r is_container w = ap (λ z. open_container n g (is_blank_line (opened c f)) c z) (h.firsts (opened c f) w)
new_shallow {more = more} {other = other} h e b n g k f r (is_leaf u) w = new_leaf e more b k (of_kind n g k f r) u ∙ sym (new_leaf e other b k (of_kind n g k f r) u)

begin_shallow : {more other : Summary → BlockLine → Summary} {Held : Summary → Type 0} {later : Summary → BlockLine → Bool} {first : BlockLine → Bool} (h : Shallow more other Held later first)
    (e : EntityTable) (blank : Bool) (before : List Group) (last : Last) (b : Bool) (m : ℕ) (l : BlockLine) → sinks_first first (begun l) l ≡ false →
    begin_after e more blank (summary before last b m) l ≡ begin_after e other blank (summary before last b m) l
unfolding begin_after
begin_shallow h e true before last b m l w = refl
begin_shallow h e false before last b m l w =
    ap (λ z. summary (merged before (last_groups e last)) z false (suc m)) (new_shallow h e (is_single (begun l) l) m (summary_gap last b) (begun l) l [] (sort_of (begun l)) w)

leaf_shallow : {more other : Summary → BlockLine → Summary} {Held : Summary → Type 0} {later : Summary → BlockLine → Bool} {first : BlockLine → Bool} (h : Shallow more other Held later first)
    (e : EntityTable) (before : List Group) (n : ℕ) (g : Bool) (leaf : OpenLeaf) (b : Bool) (m : ℕ) (l : BlockLine) (t : NextLeaf) → sinks_at later first (is_parted t) (open_leaf n g leaf) l ≡ false →
    leaf_after e more n g t (summary before (open_leaf n g leaf) b m) l ≡ leaf_after e other n g t (summary before (open_leaf n g leaf) b m) l
unfolding leaf_after last_grown sinks_at
leaf_shallow h e before n g leaf b m l (ContinuesAs next) w = refl
leaf_shallow h e before n g leaf b m l (EndsAs next) w = refl
leaf_shallow h e before n g leaf b m l EndedBefore w = begin_shallow h e (is_blank_line l) before (open_leaf n g leaf) b m l w

container_shallow : {more other : Summary → BlockLine → Summary} {Held : Summary → Type 0} {later : Summary → BlockLine → Bool} {first : BlockLine → Bool} (h : Shallow more other Held later first)
    (e : EntityTable) (takes : Bool) (before : List Group) (n : ℕ) (g bare : Bool) (c : Container) (inner : Summary) (b : Bool) (m : ℕ) (l : BlockLine) →
    Held inner → sinks_at later first (not takes) (open_container n g bare c inner) l ≡ false →
    container_after e more takes n g c inner (summary before (open_container n g bare c inner) b m) l ≡ container_after e other takes n g c inner (summary before (open_container n g bare c inner) b m) l
unfolding container_after last_grown sinks_at sinks_later
container_shallow h e true before n g bare c inner b m l f w = ap (λ z. summary before (open_container n g false c z) (is_blank_line l) (suc m)) (h.laters inner (inside c l) f w)
container_shallow h e false before n g bare c inner b m l f w = begin_shallow h e (is_blank_line l) before (open_container n g bare c inner) b m l w

last_shallow : {more other : Summary → BlockLine → Summary} {Held : Summary → Type 0} {later : Summary → BlockLine → Bool} {first : BlockLine → Bool} (h : Shallow more other Held later first)
    (e : EntityTable) (before : List Group) (last : Last) (b : Bool) (m : ℕ) (l : BlockLine) →
    LastFits Held last → sinks_at later first (is_apart_after last l) last l ≡ false →
    last_after e more last (summary before last b m) l ≡ last_after e other last (summary before last b m) l
unfolding last_after sinks_at is_apart_after
last_shallow h e before nothing_yet b m l f w = begin_shallow h e (is_blank_line l) before nothing_yet b m l w
last_shallow h e before (ended_block g) b m l f w = begin_shallow h e (is_blank_line l) before (ended_block g) b m l w
last_shallow h e before (open_leaf n g leaf) b m l f w = leaf_shallow h e before n g leaf b m l (next_leaf leaf l) w
last_shallow h e before (open_container n g bare c inner) b m l f w =
    container_shallow h e (goes_on c bare (summary_tip inner) l) before n g bare c inner b m l f w

added_shallow : {Held : Summary → Type 0} {later : Summary → BlockLine → Bool} {first : BlockLine → Bool} (e : EntityTable) (d k : ℕ) (h : Shallow (line_added e d) (line_added e k) Held later first)
    (s : Summary) (l : BlockLine) → FitsBy Held s → sinks_by later first s l ≡ false → line_added e (suc d) s l ≡ line_added e (suc k) s l
unfolding line_added sinks_by
added_shallow e d k h (summary before last blank lines) l f w = last_shallow h e before last blank lines l f w

no_containers : (more other : Summary → BlockLine → Summary) → Shallow more other (λ inner. ⊥) (λ inner inside. false) (λ inside. true)
no_containers more other = record { laters = λ s l f w. absurd f; firsts = λ l w. absurd (let x : ⊥ = cc in x) }

-- The depth of the limit gives what any greater one does.
pub limit_suffices : (e : EntityTable) (limit k : ℕ) (s : Summary) (l : BlockLine) → limit ≤ k → Fits limit s → sinks limit s l ≡ false →
    line_added e (suc limit) s l ≡ line_added e (suc k) s l
unfolding Fits sinks
limit_suffices e zero k s l h f w = added_shallow e zero k (no_containers (line_added e zero) (line_added e k)) s l f w
limit_suffices e (suc limit) zero s l h f w = absurd (omega (arith, h))
limit_suffices e (suc limit) (suc k) s l h f w =
    let inner : Shallow (line_added e (suc limit)) (line_added e (suc k)) (Fits limit) (sinks limit) (sinks limit no_summary) = record {
      laters = λ inside line v u. limit_suffices e limit k inside line (omega (arith, h)) v u;
      firsts = λ line u. limit_suffices e limit k no_summary line (omega (arith, h)) (none_fits limit) u;
    } in
    added_shallow e (suc limit) (suc k) inner s l f w

pub if_none : (b : Bool) (n : ℕ) → (if b then Some n else None) ≡ None → b ≡ false
if_none true n e = absurd (let x : ⊥ = cc in x)
if_none false n e = refl

-- A reader that refuses the first container too many reads each line before it at the depth of the limit.
pub summary_limited : (e : EntityTable) (limit : ℕ) (ls : List BlockLine) (l : BlockLine) → deep_within limit (ls ++ l ∷ []) ≡ None →
    summary_of e (ls ++ l ∷ []) ≡ line_added e (suc limit) (summary_of e ls) l
summary_limited e limit ls l w =
    let v = visible_in (ls ++ l ∷ []) in
    let line = if sinks limit (summary_of e ls) l then Some (length ls) else None in
    let both : option_or (deep_within limit ls) line ≡ None = sym (summary_sinks e limit ls l) ∙ w in
    let f = summary_fits e limit ls (or_first (deep_within limit ls) line both) in
    let no = if_none (sinks limit (summary_of e ls) l) (length ls) (or_second (deep_within limit ls) line both) in
    summary_added e (suc (limit + v)) ls l (omega arith)
    ∙ sym (limit_suffices e limit (limit + v) (summary_of e ls) l (omega arith) f no)

-- ---- all lines

-- lines before which there is no container too many
pub front_none : (limit : ℕ) (ls more : List BlockLine) → deep_within limit (ls ++ more) ≡ None → deep_within limit ls ≡ None
front_none limit ls more w = go (deep_within limit ls) refl
  where
    go : (o : Option ℕ) → deep_within limit ls ≡ o → o ≡ None
    go None e = refl
    go (Some n) e = absurd (let f = deep_stays limit ls more n e in let x : ⊥ = cc in x)

pub for_next_line : (ls : List BlockLine) (l : BlockLine) (more : List BlockLine) → (ls ++ l ∷ []) ++ more ≡ ls ++ l ∷ more
for_next_line ls l more = append_assoc ls (l ∷ []) more

pub one_longer : (ls : List BlockLine) (l : BlockLine) → length (ls ++ l ∷ []) ≡ suc (length ls)
one_longer ls l = let p = length-append ls (l ∷ []) in omega (arith, p)

lines_from : (e : EntityTable) (limit : ℕ) (ls more : List BlockLine) → deep_within limit (ls ++ more) ≡ None → lines_added e limit (summary_of e ls) more ≡ summary_of e (ls ++ more)
unfolding lines_added
lines_from e limit ls [] w = ap (summary_of e) (sym (append-nil ls))
lines_from e limit ls (l ∷ more) w =
    let whole : deep_within limit ((ls ++ l ∷ []) ++ more) ≡ None = ap (deep_within limit) (for_next_line ls l more) ∙ w in
    ap (λ z. lines_added e limit z more) (sym (summary_limited e limit ls l (front_none limit (ls ++ l ∷ []) more whole)))
    ∙ lines_from e limit (ls ++ l ∷ []) more whole
    ∙ ap (summary_of e) (for_next_line ls l more)

-- A reader that allows `limit` containers reads lines with no container too many as they are.
pub lines_limited : (e : EntityTable) (limit : ℕ) (ls : List BlockLine) → deep_within limit ls ≡ None → lines_added e limit no_summary ls ≡ summary_of e ls
lines_limited e limit ls w = ap (λ z. lines_added e limit z ls) (sym (summary_none e)) ∙ lines_from e limit [] ls w

pub none_deep : (limit : ℕ) → deep_within limit [] ≡ None
unfolding deep_within first_deep cut_from all_of
none_deep zero = refl
none_deep (suc limit) = refl

refused_from : (e : EntityTable) (limit : ℕ) (ls more : List BlockLine) → deep_within limit ls ≡ None → refused_line e limit (summary_of e ls) (length ls) more ≡ deep_within limit (ls ++ more)
unfolding refused_line
refused_from e limit ls [] w = sym w ∙ ap (deep_within limit) (sym (append-nil ls))
refused_from e limit ls (l ∷ more) w = go (sinks limit (summary_of e ls) l) refl (λ v. refused_from e limit (ls ++ l ∷ []) more v)
  where
    n : ℕ
    n = length ls

    one : (b : Bool) → sinks limit (summary_of e ls) l ≡ b → deep_within limit (ls ++ l ∷ []) ≡ (if b then Some n else None)
    one b h = summary_sinks e limit ls l ∙ ap (λ z. option_or z (if sinks limit (summary_of e ls) l then Some n else None)) w ∙ ap (λ z. if z then Some n else None) h

    go : (b : Bool) → sinks limit (summary_of e ls) l ≡ b →
        (deep_within limit (ls ++ l ∷ []) ≡ None → refused_line e limit (summary_of e (ls ++ l ∷ [])) (length (ls ++ l ∷ [])) more ≡ deep_within limit ((ls ++ l ∷ []) ++ more)) →
        (if b then Some n else refused_line e limit (line_added e (suc limit) (summary_of e ls) l) (suc n) more) ≡ deep_within limit (ls ++ l ∷ more)
    go true h later = sym (deep_stays limit (ls ++ l ∷ []) more n (one true h)) ∙ ap (deep_within limit) (for_next_line ls l more)
    go false h later =
        ap (λ z. refused_line e limit z (suc n) more) (sym (summary_limited e limit ls l (one false h)))
        ∙ ap (λ z. refused_line e limit (summary_of e (ls ++ l ∷ [])) z more) (sym (one_longer ls l))
        ∙ later (one false h)
        ∙ ap (deep_within limit) (for_next_line ls l more)

-- It refuses exactly the first line with a container too many.
pub refused_first : (e : EntityTable) (limit : ℕ) (ls : List BlockLine) → refused_line e limit no_summary 0 ls ≡ deep_within limit ls
refused_first e limit ls = ap (λ z. refused_line e limit z 0 ls) (sym (summary_none e)) ∙ refused_from e limit [] ls (none_deep limit)
