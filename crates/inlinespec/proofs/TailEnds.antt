-- Where a link's tail and its label end (CommonMark 6.3).
use Rattle.std.proofs.Common.{ℕ, ◌+◌, ◌<◌, ◌≤◌, Bool, true, false, List, [], ◌∷◌, length, drop, Option, Some, None, IfSome, arith}
use Rattle.std.specs.Prelude.{if◌then◌else◌, nat_lt}
use Rattle.std.proofs.lemmas.Bool.Decides.{nat_tests}
use Rattle.std.proofs.lemmas.Bool.{and_parts}
use Rattle.mdscan.specs.declared.spans.Span.{Span}
use Rattle.mdscan.specs.declared.link_destinations.Dest.{Dest}
use Rattle.mdscan.specs.declared.link_tails.Tail.{Tail}
use Rattle.mdscan.specs.Blanks.{begins_with}
use Rattle.mdscan.specs.BackslashEscapes.{run_before}
use Rattle.mdscan.specs.Spacing.{past_spacing}
use Rattle.mdscan.specs.LinkTail.{tail_to, tail_titled, titled_tail, tail_from, tail_inside, inline_tail_at}
use Rattle.mdscan.specs.LinkDestination.{angle_destination, bare_end, bare_dest, destination_at}
use Rattle.mdscan.specs.LinkLabel.{label_at}
use Rattle.mdscan.specs.LinkTitle.{title_to, title_at}
use Rattle.inlinespec.proofs.FrontEnds.{IsEndIn, when, either_some, begins_below}

pub label_ends : (text : List ℕ) (at : ℕ) → IfSome (label_at text at) (λ span. IsEndIn text at (span.end + 1))
unfolding label_at
label_ends text at =
    let inside = run_before (91 ∷ 93 ∷ []) (drop (at + 1) text) in
    let k : ℕ = at + 1 + inside in
    let found : k < length text → IsEndIn text at (k + 1) = λ below. (omega arith, omega arith) in
    when _ _ (λ span. IsEndIn text at (span.end + 1)) (λ h. found (begins_below 93 k text (and_parts _ _ (and_parts _ _ h).0).1))

tail_to_ends : (text : List ℕ) (from at : ℕ) (d t : Option Span) → from ≤ at → IfSome (tail_to text at d t) (λ tail. IsEndIn text from tail.end)
unfolding tail_to
tail_to_ends text from at d t le =
    when _ _ (λ tail. IsEndIn text from tail.end) (λ h. let below : at < length text = begins_below 41 at text h in (omega arith, omega arith))

title_to_ends : (text : List ℕ) (at : ℕ) (stops : List ℕ) (mark : ℕ) → IfSome (title_to text at stops mark) (λ t. at < t.end)
unfolding title_to
title_to_ends text at stops mark = when _ _ (λ t. at < t.end) (λ h. omega arith)

title_ends : (text : List ℕ) (at : ℕ) → IfSome (title_at text at) (λ t. at < t.end)
unfolding title_at
title_ends text at = by (begins_with 34 (drop at text)) (begins_with 39 (drop at text)) (begins_with 40 (drop at text))
  where
    by : (s t u : Bool) → IfSome (if s then title_to text at (34 ∷ []) 34 else (if t then title_to text at (39 ∷ []) 39
        else (if u then title_to text at (40 ∷ 41 ∷ []) 41 else None))) (λ t. at < t.end)
    by true t u = title_to_ends text at (34 ∷ []) 34
    by false true u = title_to_ends text at (39 ∷ []) 39
    by false false true = title_to_ends text at (40 ∷ 41 ∷ []) 41
    by false false false = tt

bare_dest_ends : (at : ℕ) (r : Option ℕ) → IfSome (bare_dest at r) (λ d. at ≤ d.end)
bare_dest_ends at None = tt
bare_dest_ends at (Some end) = when _ _ (λ d. at ≤ d.end) (λ h. grind (arith, nat_tests))

angle_ends : (text : List ℕ) (at : ℕ) → IfSome (angle_destination text at) (λ d. at ≤ d.end)
unfolding angle_destination
angle_ends text at = when _ _ (λ d. at ≤ d.end) (λ h. omega arith)

destination_ends : (text : List ℕ) (at : ℕ) → IfSome (destination_at text at) (λ d. at ≤ d.end)
unfolding destination_at
destination_ends text at = by (begins_with 60 (drop at text))
  where
    by : (t : Bool) → IfSome (if t then angle_destination text at else bare_dest at (bare_end text at)) (λ d. at ≤ d.end)
    by true = angle_ends text at
    by false = bare_dest_ends at (bare_end text at)

tail_titled_ends : (text : List ℕ) (from next : ℕ) (dest : Dest) (r : Option Dest) → from ≤ next → IfSome r (λ t. next < t.end) →
    IfSome (tail_titled text dest r) (λ tail. IsEndIn text from tail.end)
tail_titled_ends text from next dest None le h = tt
tail_titled_ends text from next dest (Some title) le h = tail_to_ends text from (past_spacing text title.end) (Some dest.span) (Some title.span) (omega arith)

titled_tail_ends : (text : List ℕ) (from : ℕ) (dest : Dest) → from ≤ dest.end → IfSome (titled_tail text dest) (λ tail. IsEndIn text from tail.end)
unfolding titled_tail
titled_tail_ends text from dest le = by (nat_lt dest.end next)
  where
    next : ℕ
    next = past_spacing text dest.end

    by : (t : Bool) → IfSome (if t then tail_titled text dest (title_at text next) else None) (λ tail. IsEndIn text from tail.end)
    by true = tail_titled_ends text from next dest (title_at text next) (omega arith) (title_ends text next)
    by false = tt

tail_from_ends : (text : List ℕ) (from : ℕ) (r : Option Dest) → IfSome r (λ d. from ≤ d.end) → IfSome (tail_from text r) (λ tail. IsEndIn text from tail.end)
tail_from_ends text from None h = tt
tail_from_ends text from (Some dest) h =
    either_some _ _ (λ tail. IsEndIn text from tail.end) (titled_tail_ends text from dest h)
    (tail_to_ends text from (past_spacing text dest.end) (Some dest.span) None (omega arith))

tail_inside_ends : (text : List ℕ) (at : ℕ) → IfSome (tail_inside text at) (λ tail. IsEndIn text at tail.end)
unfolding tail_inside
tail_inside_ends text at = by (begins_with 41 (drop at text))
  where
    by : (t : Bool) → IfSome (if t then tail_to text at None None else tail_from text (destination_at text at)) (λ tail. IsEndIn text at tail.end)
    by true = tail_to_ends text at at None None (omega arith)
    by false = tail_from_ends text at (destination_at text at) (destination_ends text at)

later : (text : List ℕ) (at from : ℕ) (r : Option Tail) → at ≤ from → IfSome r (λ tail. IsEndIn text from tail.end) → IfSome r (λ tail. IsEndIn text at tail.end)
later text at from None le h = tt
later text at from (Some tail) le h = (omega arith, h.1)

pub inline_tail_ends : (text : List ℕ) (at : ℕ) → IfSome (inline_tail_at text at) (λ tail. IsEndIn text at tail.end)
unfolding inline_tail_at
inline_tail_ends text at = by (begins_with 40 (drop at text))
  where
    from : ℕ
    from = past_spacing text (at + 1)

    by : (t : Bool) → IfSome (if t then tail_inside text from else None) (λ tail. IsEndIn text at tail.end)
    by true = later text at from (tail_inside text from) (omega arith) (tail_inside_ends text from)
    by false = tt
