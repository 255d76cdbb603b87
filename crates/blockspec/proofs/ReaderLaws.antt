-- What a reader has to keep of the lines so far, one line after the other: their summary, whatever the depth.
use Rattle.std.proofs.Common.{◌≡◌, ℕ, zero, suc, ◌≤◌, ◌<◌, Bool, List, [], ◌∷◌, ◌++◌, length, map, Some, None, refl, sym, ◌∙◌, ap, arith}
use Rattle.std.specs.Option.{option_or}
use Rattle.std.specs.Prelude.{if◌then◌else◌}
use Rattle.mdtext.specs.EntityTable.{EntityTable}
use Rattle.blockspec.specs.BlockLine.{BlockLine}
use Rattle.blockspec.specs.BlockKinds.{Kind, Holds}
use Rattle.blockspec.specs.BlockUnits.{visible_in, depth_of, group_of, groups_within, groups}
use Rattle.blockspec.specs.ContainerLines.{inner, is_bare}
use Rattle.blockspec.specs.LineSummary.{summary, ended_block, open_container, no_summary, closed, line_added, last_at, last_of, summary_by, summary_within, summary_of, begins_after}
use Rattle.blockspec.specs.Lists.{grouped}
use Rattle.blockspec.specs.Nesting.{deep_within}
use Rattle.blockspec.specs.Stretches.{Stretch, Tail, Empty, Going, Over, Cut, no_lines, cut_by, tip_within}
use Rattle.blockspec.specs.SummaryDepth.{sinks}
use Rattle.blockspec.specs.UnitBegin.{begins_unit}
use Rattle.blockspec.proofs.DepthLaws.{at_depth, IsMarked, TailLight, tips_agree, cut_agrees, cut_light, none_light, groups_agree, part_agrees, map_agrees, begins_deep}
use Rattle.blockspec.proofs.LeafSteps.{Sort, is_container, is_leaf, sort_of}
use Rattle.blockspec.proofs.NestingLaws.{deep_next}
use Rattle.blockspec.proofs.SummaryLaws.{leaf_last, laws, begins_law}
use Rattle.blockspec.proofs.VisibleLaws.{inner_visible, visible_append}

-- ---- every depth that suffices

record SummariesAgree (e : EntityTable) (d : ℕ) : Type 0 where
  same : (ls : List BlockLine) → visible_in ls < d → summary_within e d ls ≡ summary_within e (suc d) ls

abbrev of_kind : ℕ → Bool → Kind → BlockLine → List BlockLine → Stretch
of_kind b g k f r = record { begin = b; gap = g; kind = k; first = f; later = r }

at_agrees : {e : EntityTable} {d : ℕ} (a : SummariesAgree e d) (n : ℕ) (g : Bool) (k : Kind) (f : BlockLine) (r : List BlockLine) → Sort k → IsMarked k f → visible_in (f ∷ r) ≤ d →
    last_at (summary_within e d) k (of_kind n g k f r) ≡ last_at (summary_within e (suc d)) k (of_kind n g k f r)
unfolding last_at
at_agrees a n g (Holds c) f r is_container w v =
    let u = inner_visible c f r w.0 w.1 in ap (λ z. open_container n g (is_bare c f r) c z) (a.same (inner c f r) (omega (arith, u, v)))
at_agrees {e = e} {d = d} a n g k f r (is_leaf u) w v =
    leaf_last (summary_within e d) k (of_kind n g k f r) u ∙ sym (leaf_last (summary_within e (suc d)) k (of_kind n g k f r) u)

of_agrees : {e : EntityTable} {d : ℕ} (a : SummariesAgree e d) (t : Tail) → TailLight d t 0 →
    last_of e (groups_within e d) (summary_within e d) t ≡ last_of e (groups_within e (suc d)) (summary_within e (suc d)) t
unfolding last_of
of_agrees a Empty w = refl
of_agrees a (Going s) w = at_agrees a s.begin s.gap s.kind s.first s.later (sort_of s.kind) w.0 (omega (arith, w.1))
of_agrees {e = e} {d = d} a (Over s) w = ap (λ z. ended_block (record { begin = s.begin; gap = s.gap; part = z })) (part_agrees (groups_agree e d) s.kind s.first s.later w.0.0 w.0.1)

agree_next : {e : EntityTable} {d : ℕ} → SummariesAgree e d → SummariesAgree e (suc d)
unfolding summary_within
agree_next {e = e} {d = d} a = record {
  same = λ ls h.
      let U = tip_within (suc d) in
      let k : visible_in ls ≤ d = omega (arith, h) in
      let w = none_light d ls k in
      let c : Cut = cut_by U ls in
      let v = cut_light U d no_lines ls w in
      ap (λ (z : Cut). summary_by e (groups_within e d) (summary_within e d) z) (cut_agrees (tips_agree d) no_lines ls w)
      ∙ ap (λ z. summary (grouped z) (last_of e (groups_within e d) (summary_within e d) c.tail) c.blank c.lines) (map_agrees (groups_agree e d) c.before v.0)
      ∙ ap (λ z. summary (grouped (map (group_of e (groups_within e (suc d))) c.before)) z c.blank c.lines) (of_agrees a c.tail v.1);
}

summaries_agree : (e : EntityTable) (d : ℕ) → SummariesAgree e d
summaries_agree e zero = record { same = λ ls h. absurd (omega (arith, h)) }
summaries_agree e (suc d) = agree_next (summaries_agree e d)

-- Any depth above the number of characters that count gives the summary.
pub summary_deep : (e : EntityTable) (d : ℕ) (ls : List BlockLine) → visible_in ls < d → summary_within e d ls ≡ summary_of e ls
summary_deep e d ls h = at_depth (λ n. summary_within e n ls) (depth_of ls) d (λ n w. (summaries_agree e n).same ls (omega (arith, w))) (omega (arith, h))

-- ---- one line after the other

pub summary_none : (e : EntityTable) → summary_of e [] ≡ no_summary
summary_none e = (laws e (depth_of [])).none

-- what the lines give
pub summary_closed : (e : EntityTable) (ls : List BlockLine) → groups e ls ≡ closed e (summary_of e ls)
summary_closed e ls = (laws e (depth_of ls)).reads ls

-- one line more
pub summary_added : (e : EntityTable) (d : ℕ) (ls : List BlockLine) (l : BlockLine) → visible_in (ls ++ l ∷ []) < d →
    summary_of e (ls ++ l ∷ []) ≡ line_added e d (summary_of e ls) l
summary_added e d ls l h =
    let a = visible_append ls (l ∷ []) in
    sym (summary_deep e d (ls ++ l ∷ []) h)
    ∙ (laws e d).adds ls l
    ∙ ap (λ z. line_added e d z l) (summary_deep e d ls (omega (arith, a, h)))

-- whether it begins a unit
pub summary_begins : (e : EntityTable) (ls : List BlockLine) (l : BlockLine) → begins_unit ls l ≡ begins_after (summary_of e ls) l
summary_begins e ls l =
    let d = depth_of ls in
    sym (begins_deep d ls l (omega arith))
    ∙ begins_law e d ls l
    ∙ ap (λ z. begins_after z l) (summary_deep e (suc d) ls (omega arith))

-- whether it is the first with a container too many
pub summary_sinks : (e : EntityTable) (limit : ℕ) (ls : List BlockLine) (l : BlockLine) →
    deep_within limit (ls ++ l ∷ []) ≡ option_or (deep_within limit ls) (if sinks limit (summary_of e ls) l then Some (length ls) else None)
summary_sinks e limit ls l =
    let d = suc (visible_in (ls ++ l ∷ [])) in
    let a = visible_append ls (l ∷ []) in
    deep_next e limit d ls l (omega arith)
    ∙ ap (λ z. option_or (deep_within limit ls) (if sinks limit z l then Some (length ls) else None)) (summary_deep e d ls (omega (arith, a)))
