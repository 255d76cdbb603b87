-- What a sink with a limit takes (CommonMark 6): events in which no more spans lie in one another than the limit allows.
use Rattle.std.proofs.Common.{◌≡◌, ◌<◌, ◌≤◌, ◌+◌, Bool, true, false, List, [], ◌++◌, refl, sym, ap, subst, ◌∙◌, true≢false, arith}
use Rattle.inlinespec.specs.InlineEvents.{Event}
use Rattle.inlinespec.specs.SpanEnds.{most_open, open_after}
use Rattle.mdinline.specs.declared.limits.LimitedSink.{LimitedSink}
use Rattle.mdinline.specs.held.OpenSpans.{most_more, open_more}

-- what a sink that refused no span has taken so far
pub record Fits {S : Type 0} (takes : S → List Event → S → Type 0) (old : LimitedSink S) (es : List Event) (new : LimitedSink S) : Type 0 where
  pub fits : old.is_too_deep ≡ false
  pub within : most_open old.depth es ≤ old.limit
  pub depth : new.depth ≡ open_after old.depth es
  pub taken : takes old.sink es new.sink

-- The second is the first with these events behind it. Where one of them lies in too many spans, it refuses that one, and takes nothing more.
pub record TakesWithin {S : Type 0} (takes : S → List Event → S → Type 0) (old : LimitedSink S) (es : List Event) (new : LimitedSink S) : Type 0 where
  pub limit : new.limit ≡ old.limit
  pub fits : new.is_too_deep ≡ false → Fits takes old es new
  pub too_deep : old.is_too_deep ≡ false → new.is_too_deep ≡ true → old.limit < most_open old.depth es

-- one span more is open, and allowed
pub record HasRoom {S : Type 0} (old new : LimitedSink S) : Type 0 where
  pub sink : new.sink ≡ old.sink
  pub limit : new.limit ≡ old.limit
  pub fits : old.is_too_deep ≡ false
  pub room : old.depth < old.limit
  pub depth : new.depth ≡ old.depth + 1
  pub still : new.is_too_deep ≡ false

-- one span more would lie in too many, or one did before
pub record IsRefused {S : Type 0} (old new : LimitedSink S) : Type 0 where
  pub limit : new.limit ≡ old.limit
  pub full : old.is_too_deep ≡ false → old.limit ≤ old.depth
  pub too_deep : new.is_too_deep ≡ true

module _ {S : Type 0} (takes : S → List Event → S → Type 0) where
  pub within_none : ((s : S) → takes s [] s) → (a : LimitedSink S) → TakesWithin takes a [] a
  within_none none a = record {
    limit = refl;
    fits = λ f. record { fits = f; within = omega arith; depth = refl; taken = none a.sink };
    too_deep = λ f deep. absurd (true≢false (sym deep ∙ f));
  }

  pub within_more : ((a b c : S) (es fs : List Event) → takes a es b → takes b fs c → takes a (es ++ fs) c) → (a b c : LimitedSink S) (es fs : List Event)
      → TakesWithin takes a es b → TakesWithin takes b fs c → TakesWithin takes a (es ++ fs) c
  within_more more a b c es fs one two = record {
    limit = two.limit ∙ one.limit;
    fits = λ f.
        let later = two.fits f in
        let earlier = one.fits later.fits in
        let rest : most_open (open_after a.depth es) fs ≤ a.limit = subst (λ n. most_open n fs ≤ a.limit) earlier.depth (subst (λ n. most_open b.depth fs ≤ n) one.limit later.within) in
        let before = earlier.within in
        let both = most_more a.depth es fs in
        record {
          fits = earlier.fits;
          within = omega arith;
          depth = later.depth ∙ ap (λ n. open_after n fs) earlier.depth ∙ sym (open_more a.depth es fs);
          taken = more a.sink b.sink c.sink es fs earlier.taken later.taken;
        };
    too_deep = λ f deep. by b.is_too_deep refl f deep;
  }
    where
      by : (t : Bool) → b.is_too_deep ≡ t → a.is_too_deep ≡ false → c.is_too_deep ≡ true → a.limit < most_open a.depth (es ++ fs)
      by true was f deep = let before = one.too_deep f was in let both = most_more a.depth es fs in omega arith
      by false was f deep =
          let rest : a.limit < most_open (open_after a.depth es) fs = subst (λ n. a.limit < most_open n fs) (one.fits was).depth (subst (λ n. n < most_open b.depth fs) one.limit (two.too_deep was deep)) in
          let both = most_more a.depth es fs in
          omega arith
