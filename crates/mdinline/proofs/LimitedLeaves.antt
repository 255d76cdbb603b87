-- What a sink with a limit makes of one inline.
use Rattle.std.proofs.Common.{◌≡◌, ◌+◌, ◌-◌, ℕ, zero, suc, true, false, List, [], ◌∷◌, refl, sym, subst, ◌∙◌, true≢false, arith}
use Rattle.inlinespec.specs.InlineEvents.{Event, InlineSpan, Enter, Leave, written}
use Rattle.inlinespec.specs.SpanEnds.{most_open, open_after}
use Rattle.mdinline.specs.declared.limits.LimitedSink.{LimitedSink}
use Rattle.mdinline.specs.held.LimitedSinks.{HasRoom, IsRefused, TakesWithin}

pub bytes_flat : (n : ℕ) (bs : List ℕ) → most_open n (written bs) ≡ 0
bytes_flat n [] = refl
bytes_flat n (b ∷ bs) = bytes_flat n bs

-- an end of a span

fewer_open : (n : ℕ) → n - 1 ≡ open_after n (Leave ∷ [])
fewer_open zero = refl
fewer_open (suc n) = omega arith

none_begins : (n : ℕ) → most_open n (Leave ∷ []) ≡ 0
none_begins zero = refl
none_begins (suc n) = refl

module _ {S : Type 0} (takes : S → List Event → S → Type 0) where
  -- nothing more is taken
  pub skipped : (a : LimitedSink S) (es : List Event) → a.is_too_deep ≡ true → TakesWithin takes a es a
  skipped a es deep = record {
    limit = refl;
    fits = λ f. absurd (true≢false (sym deep ∙ f));
    too_deep = λ f deep. absurd (true≢false (sym deep ∙ f));
  }

  -- events that open and end nothing
  pub leaf_within : (a : LimitedSink S) (new : S) (es : List Event) → a.is_too_deep ≡ false → open_after a.depth es ≡ a.depth → most_open a.depth es ≡ 0 → takes a.sink es new
      → TakesWithin takes a es (record { sink = new; limit = a.limit; depth = a.depth; is_too_deep = a.is_too_deep })
  leaf_within a new es fits same flat taken = record {
    limit = refl;
    fits = λ f. record { fits = fits; within = omega arith; depth = sym same; taken = taken };
    too_deep = λ f deep. absurd (true≢false (sym deep ∙ f));
  }

  pub enter_within : (a b : LimitedSink S) (new : S) (span : InlineSpan) → HasRoom a b → takes b.sink (Enter span ∷ []) new
      → TakesWithin takes a (Enter span ∷ []) (record { sink = new; limit = b.limit; depth = b.depth; is_too_deep = b.is_too_deep })
  enter_within a b new span h taken = record {
    limit = h.limit;
    fits = λ f. let room = h.room in record {
      fits = h.fits;
      within = omega arith;
      depth = h.depth ∙ (let e : a.depth + 1 ≡ suc a.depth = omega arith in e);
      taken = subst (λ s. takes s (Enter span ∷ []) new) h.sink taken;
    };
    too_deep = λ f deep. absurd (true≢false (sym deep ∙ h.still));
  }

  pub enter_refused : (a b : LimitedSink S) (span : InlineSpan) → IsRefused a b → TakesWithin takes a (Enter span ∷ []) b
  enter_refused a b span h = record {
    limit = h.limit;
    fits = λ f. absurd (true≢false (sym h.too_deep ∙ f));
    too_deep = λ f deep. let full = h.full f in omega arith;
  }

  pub leave_within : (a : LimitedSink S) (new : S) (depth : ℕ) → a.is_too_deep ≡ false → depth ≡ a.depth - 1 → takes a.sink (Leave ∷ []) new
      → TakesWithin takes a (Leave ∷ []) (record { sink = new; limit = a.limit; depth = depth; is_too_deep = a.is_too_deep })
  leave_within a new depth fits fewer taken =
      let flat = none_begins a.depth in
      record {
        limit = refl;
        fits = λ f. record { fits = fits; within = omega arith; depth = fewer ∙ fewer_open a.depth; taken = taken };
        too_deep = λ f deep. absurd (true≢false (sym deep ∙ f));
      }
