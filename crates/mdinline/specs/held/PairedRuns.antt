-- The reader's delimiter runs, by what matches take of them (CommonMark 6.2; GFM Strikethrough (extension)).
use Rattle.std.specs.Prelude.{◌≡◌, ◌-◌, ◌<◌, length, slice_get, slice_index_or, ℕ, zero, suc, List, Option, Some, None}
use Rattle.mdpair.specs.declared.emphasis.Match.{Match}
use Rattle.mdpair.specs.declared.delimiter_runs.DelimiterRun.{DelimiterRun}
use Rattle.inlinespec.specs.Emphasis as emphasis
use Rattle.mdinline.specs.held.LeafEvents.{begun_events}
use Rattle.mdinline.specs.declared.tokens.Begun.{Begun}
use Rattle.mdinline.specs.declared.tokens.PairedRun.{PairedRun}

-- the list has so many spans that lead from one to the other, the first of them at a place
abbrev pub and_inside : (ℕ → Type 0) → Option Begun → Type 0
and_inside inside None = ⊥
and_inside inside (Some begun) = inside begun.inner

abbrev pub HasSpans : List Begun → ℕ → ℕ → Type 0
HasSpans begun zero place = Unit {0}
HasSpans begun (suc n) place = and_inside (HasSpans begun n) (slice_get begun place)

-- what these matches leave of the nth run, and how many spans end and which begin there
pub record IsPaired (begun : List Begun) (n : ℕ) (ts : List Match) (r : DelimiterRun) (p : PairedRun) : Type 0 where
  pub delimiter : p.delimiter ≡ r.delimiter
  pub left : p.left ≡ r.length - emphasis.taken n ts
  pub ends : p.ends ≡ length (emphasis.ends n ts)
  pub begins : p.begins ≡ length (emphasis.begins n r.delimiter ts)
  pub spans : begun_events begun p.begins p.outermost ≡ emphasis.begins n r.delimiter ts
  pub held : HasSpans begun p.begins p.outermost

-- each run by its place
pub record ArePaired (begun : List Begun) (ts : List Match) (rs : List DelimiterRun) (ps : List PairedRun) : Type 0 where
  pub all : length ps ≡ length rs
  pub each : (n : ℕ) (r : DelimiterRun) (p : PairedRun) → n < length rs → IsPaired begun n ts (slice_index_or rs n r) (slice_index_or ps n p)
