-- Runs after one match more.
use Rattle.std.proofs.Common.{◌≡◌, ℕ, ◌+◌, ◌-◌, ◌<◌, ◌≤◌, ◌^◌, Bool, true, false, nat_lt, ◌||◌, ◌==◌, List, [], ◌∷◌, ◌++◌, length, length-append, length-set, take, get_or, set, refl, ap, sym, ◌∙◌, subst, arith, append_assoc, zero, suc, Option, Some, None, if◌then◌else◌}
use Rattle.std.proofs.lemmas.Grind.{get_or-set_at}
use Rattle.std.proofs.lemmas.List.{get_or-set_other, get_or_append_left, take_more}
use Rattle.std.proofs.Math.Seq.{get_or-append_seam}
use Rattle.std.proofs.lemmas.Bool.Decides.{nat_tests}
use Rattle.mdpair.specs.declared.emphasis.Match.{Match}
use Rattle.mdpair.specs.declared.delimiter_runs.DelimiterChar.{DelimiterChar}
use Rattle.mdpair.specs.declared.delimiter_runs.DelimiterRun.{DelimiterRun}
use Rattle.std.specs.Prelude.{slice_get}
use Rattle.inlinespec.specs.InlineEvents.{Event, Enter, Leave}
use Rattle.mdinline.specs.held.LeafEvents.{and_inner, begun_events}
use Rattle.mdinline.specs.held.PairedRuns.{ArePaired, HasSpans, IsPaired, and_inside}
use Rattle.inlinespec.specs.Emphasis.{begins, ends, span_by, taken}
use Rattle.mdinline.specs.SpanKinds.{span_of}
use Rattle.mdinline.specs.declared.tokens.Begun.{Begun}
use Rattle.mdinline.specs.declared.tokens.PairedRun.{PairedRun}

taken_more : (n : ℕ) (ts : List Match) (t : Match) → taken n (ts ++ t ∷ []) ≡ taken n ts + (if (t.opener == n) || (t.closer == n) then t.width else 0)
taken_more n [] t = by ((t.opener == n) || (t.closer == n))
  where
    by : (b : Bool) → (if b then t.width + 0 else 0) ≡ 0 + (if b then t.width else 0)
    by true = omega arith
    by false = refl
taken_more n (u ∷ ts) t = by ((u.opener == n) || (u.closer == n)) (taken_more n ts t)
  where
    by : (b : Bool) → taken n (ts ++ t ∷ []) ≡ taken n ts + (if (t.opener == n) || (t.closer == n) then t.width else 0) →
        (if b then u.width + taken n (ts ++ t ∷ []) else taken n (ts ++ t ∷ [])) ≡ (if b then u.width + taken n ts else taken n ts) + (if (t.opener == n) || (t.closer == n) then t.width else 0)
    by true e = omega (arith, e)
    by false e = e

ends_more : (n : ℕ) (ts : List Match) (t : Match) → length (ends n (ts ++ t ∷ [])) ≡ length (ends n ts) + (if t.closer == n then 1 else 0)
ends_more n [] t = by (t.closer == n)
  where
    by : (b : Bool) → length (if b then Leave ∷ [] else []) ≡ 0 + (if b then 1 else 0)
    by true = refl
    by false = refl
ends_more n (u ∷ ts) t = by (u.closer == n) (ends_more n ts t)
  where
    by : (b : Bool) → length (ends n (ts ++ t ∷ [])) ≡ length (ends n ts) + (if t.closer == n then 1 else 0) →
        length (if b then Leave ∷ ends n (ts ++ t ∷ []) else ends n (ts ++ t ∷ [])) ≡ length (if b then Leave ∷ ends n ts else ends n ts) + (if t.closer == n then 1 else 0)
    by true e = omega (arith, e)
    by false e = e

ends_few : (n : ℕ) (ts : List Match) → length (ends n ts) ≤ length ts
ends_few n [] = omega arith
ends_few n (u ∷ ts) = by (u.closer == n) (ends_few n ts)
  where
    by : (b : Bool) → length (ends n ts) ≤ length ts → length (if b then Leave ∷ ends n ts else ends n ts) ≤ length (u ∷ ts)
    by true le = omega (arith, le)
    by false le = omega (arith, le)

-- what a match more begins stands before what the others begin
abbrev one_more : (b : Bool) → DelimiterChar → Match → List Event
one_more true d t = Enter (span_by d t.width) ∷ []
one_more false d t = []

begins_more : (n : ℕ) (d : DelimiterChar) (ts : List Match) (t : Match) → begins n d (ts ++ t ∷ []) ≡ one_more (t.opener == n) d t ++ begins n d ts
begins_more n d [] t = by (t.opener == n)
  where
    by : (b : Bool) → (if b then [] ++ Enter (span_by d t.width) ∷ [] else []) ≡ one_more b d t ++ []
    by true = refl
    by false = refl
begins_more n d (u ∷ ts) t = by (u.opener == n) (begins_more n d ts t)
  where
    by : (b : Bool) → begins n d (ts ++ t ∷ []) ≡ one_more (t.opener == n) d t ++ begins n d ts →
        (if b then begins n d (ts ++ t ∷ []) ++ Enter (span_by d u.width) ∷ [] else begins n d (ts ++ t ∷ []))
        ≡ one_more (t.opener == n) d t ++ (if b then begins n d ts ++ Enter (span_by d u.width) ∷ [] else begins n d ts)
    by true e = ap (λ l. l ++ Enter (span_by d u.width) ∷ []) e ∙ append_assoc (one_more (t.opener == n) d t) (begins n d ts) (Enter (span_by d u.width) ∷ [])
    by false e = e

begins_few : (n : ℕ) (d : DelimiterChar) (ts : List Match) → length (begins n d ts) ≤ length ts
begins_few n d [] = omega arith
begins_few n d (u ∷ ts) = by (u.opener == n) (begins_few n d ts)
  where
    by : (b : Bool) → length (begins n d ts) ≤ length ts → length (if b then begins n d ts ++ Enter (span_by d u.width) ∷ [] else begins n d ts) ≤ length (u ∷ ts)
    by true le = omega (arith, le, length-append (begins n d ts) (Enter (span_by d u.width) ∷ []))
    by false le = omega (arith, le)

-- the list of spans may grow behind those that lead from one to the other
get_grown : (bs more : List Begun) (i : ℕ) (b : Begun) → slice_get bs i ≡ Some b → slice_get (bs ++ more) i ≡ Some b
get_grown [] more i b e = cc
get_grown (x ∷ bs) more zero b e = e
get_grown (x ∷ bs) more (suc i) b e = get_grown bs more i b e

get_last : (bs : List Begun) (b : Begun) → slice_get (bs ++ b ∷ []) (length bs) ≡ Some b
get_last [] b = refl
get_last (x ∷ bs) b = get_last bs b

pub held_grown : (bs more : List Begun) (n place : ℕ) → HasSpans bs n place → HasSpans (bs ++ more) n place
held_grown bs more zero place h = tt
held_grown bs more (suc n) place h = by (slice_get bs place) refl h (λ k. held_grown bs more n k)
  where
    by : (o : Option Begun) → slice_get bs place ≡ o → and_inside (HasSpans bs n) o → ((k : ℕ) → HasSpans bs n k → HasSpans (bs ++ more) n k) →
        and_inside (HasSpans (bs ++ more) n) (slice_get (bs ++ more) place)
    by None e k again = absurd k
    by (Some b) e k again = subst (and_inside (HasSpans (bs ++ more) n)) (sym (get_grown bs more place b e)) (again b.inner k)

pub events_grown : (bs more : List Begun) (n place : ℕ) → HasSpans bs n place → begun_events (bs ++ more) n place ≡ begun_events bs n place
events_grown bs more zero place h = refl
events_grown bs more (suc n) place h = by (slice_get bs place) refl h (λ k. events_grown bs more n k)
  where
    by : (o : Option Begun) → slice_get bs place ≡ o → and_inside (HasSpans bs n) o → ((k : ℕ) → HasSpans bs n k → begun_events (bs ++ more) n k ≡ begun_events bs n k) →
        and_inner (begun_events (bs ++ more) n) (slice_get (bs ++ more) place) ≡ and_inner (begun_events bs n) (slice_get bs place)
    by None e k again = absurd k
    by (Some b) e k again =
        ap (and_inner (begun_events (bs ++ more) n)) (get_grown bs more place b e) ∙ ap (λ es. Enter (span_of b.kind) ∷ es) (again b.inner k)
        ∙ sym (ap (and_inner (begun_events bs n)) e)

paired_grown : (bs more new : List Begun) (n : ℕ) (ts : List Match) (r : DelimiterRun) (p : PairedRun) → new ≡ bs ++ more → IsPaired bs n ts r p → IsPaired new n ts r p
paired_grown bs more new n ts r p e h = subst (λ xs. IsPaired xs n ts r p) (sym e) (record {
  delimiter = h.delimiter;
  left = h.left;
  ends = h.ends;
  begins = h.begins;
  spans = events_grown bs more p.begins p.outermost h.held ∙ h.spans;
  held = held_grown bs more p.begins p.outermost h.held;
})

is_same : (a n : ℕ) → a ≡ n → (a == n) ≡ true
is_same a n e = grind (arith, nat_tests, e)

is_other : (a n : ℕ) → (a ≡ n → ⊥) → (a == n) ≡ false
is_other a n e = grind (arith, nat_tests, e)

-- the run that opens, the run that closes, and any other
module _ (begun : List Begun) (n : ℕ) (front : List Match) (t : Match) (r : DelimiterRun) (old new : PairedRun) (h : IsPaired begun n front r old) where
  at_opener : (b : Begun) → t.opener ≡ n → (t.closer ≡ n → ⊥) → new.delimiter ≡ old.delimiter → new.left ≡ old.left - t.width → new.ends ≡ old.ends →
      new.begins ≡ old.begins + 1 → new.outermost ≡ length begun → span_of b.kind ≡ span_by old.delimiter t.width → b.inner ≡ old.outermost → IsPaired (begun ++ b ∷ []) n (front ++ t ∷ []) r new
  at_opener b is other delimiter left same counted outermost kind inner =
      let was = h.left in
      let had = h.begins in
      let one = is_same t.opener n is in
      let two = is_other t.closer n other in
      let more : taken n (front ++ t ∷ []) ≡ taken n front + t.width = taken_more n front t ∙ ap (λ (b : Bool). taken n front + (if b || (t.closer == n) then t.width else 0)) one in
      let begin : begins n r.delimiter (front ++ t ∷ []) ≡ Enter (span_by r.delimiter t.width) ∷ begins n r.delimiter front =
      begins_more n r.delimiter front t ∙ ap (λ (b : Bool). one_more b r.delimiter t ++ begins n r.delimiter front) one in
      let long : length (begins n r.delimiter (front ++ t ∷ [])) ≡ suc (length (begins n r.delimiter front)) = ap length begin in
      let count : new.begins ≡ suc old.begins = omega (arith, counted) in
      let there : slice_get (begun ++ b ∷ []) new.outermost ≡ Some b = ap (slice_get (begun ++ b ∷ [])) outermost ∙ get_last begun b in
      record {
        delimiter = delimiter ∙ h.delimiter;
        left = omega (arith, left, was, more);
        ends = same ∙ h.ends ∙ (let z : length (ends n front) ≡ length (ends n front) + 0 = omega arith in z) ∙ sym (ends_more n front t ∙ ap (λ (b : Bool). length (ends n front) + (if b then 1 else 0)) two);
        begins = omega (arith, count, had, long);
        spans = ap (λ k. begun_events (begun ++ b ∷ []) k new.outermost) count
            ∙ ap (and_inner (begun_events (begun ++ b ∷ []) old.begins)) there
            ∙ ap (λ k. Enter (span_of b.kind) ∷ begun_events (begun ++ b ∷ []) old.begins k) inner
            ∙ ap (λ es. Enter (span_of b.kind) ∷ es) (events_grown begun (b ∷ []) old.begins old.outermost h.held ∙ h.spans)
            ∙ ap (λ s. Enter s ∷ begins n r.delimiter front) (kind ∙ ap (λ d. span_by d t.width) h.delimiter)
            ∙ sym begin;
        held = subst (λ k. HasSpans (begun ++ b ∷ []) k new.outermost) (sym count)
            (subst (and_inside (HasSpans (begun ++ b ∷ []) old.begins)) (sym there)
            (subst (HasSpans (begun ++ b ∷ []) old.begins) (sym inner) (held_grown begun (b ∷ []) old.begins old.outermost h.held)));
      }

  begins_other : (t.opener ≡ n → ⊥) → begins n r.delimiter (front ++ t ∷ []) ≡ begins n r.delimiter front
  begins_other other = begins_more n r.delimiter front t ∙ ap (λ (b : Bool). one_more b r.delimiter t ++ begins n r.delimiter front) (is_other t.opener n other)

  at_closer : t.closer ≡ n → (t.opener ≡ n → ⊥) → new.delimiter ≡ old.delimiter → new.left ≡ old.left - t.width → new.ends ≡ old.ends + 1 →
      new.begins ≡ old.begins → new.outermost ≡ old.outermost → IsPaired begun n (front ++ t ∷ []) r new
  at_closer is other delimiter left end count outermost =
      let was = h.left in
      let had = h.ends in
      let one = is_same t.closer n is in
      let two = is_other t.opener n other in
      let more : taken n (front ++ t ∷ []) ≡ taken n front + t.width = taken_more n front t ∙ ap (λ (b : Bool). taken n front + (if b || (t.closer == n) then t.width else 0)) two ∙ ap (λ (b : Bool). taken n front + (if b then t.width else 0)) one in
      let ended : length (ends n (front ++ t ∷ [])) ≡ length (ends n front) + 1 = ends_more n front t ∙ ap (λ (b : Bool). length (ends n front) + (if b then 1 else 0)) one in
      record {
        delimiter = delimiter ∙ h.delimiter;
        left = omega (arith, left, was, more);
        ends = omega (arith, end, had, ended);
        begins = count ∙ h.begins ∙ sym (ap length (begins_other other));
        spans = ap (λ k. begun_events begun k new.outermost) count ∙ ap (begun_events begun old.begins) outermost ∙ h.spans ∙ sym (begins_other other);
        held = subst (λ k. HasSpans begun k new.outermost) (sym count) (subst (HasSpans begun old.begins) (sym outermost) h.held);
      }

  elsewhere : (t.opener ≡ n → ⊥) → (t.closer ≡ n → ⊥) → new ≡ old → IsPaired begun n (front ++ t ∷ []) r new
  elsewhere other another same =
      let was = h.left in
      let had = h.ends in
      let one = is_other t.opener n other in
      let two = is_other t.closer n another in
      let more : taken n (front ++ t ∷ []) ≡ taken n front + 0 = taken_more n front t ∙ ap (λ (b : Bool). taken n front + (if b || (t.closer == n) then t.width else 0)) one ∙ ap (λ (b : Bool). taken n front + (if b then t.width else 0)) two in
      let ended : length (ends n (front ++ t ∷ [])) ≡ length (ends n front) + 0 = ends_more n front t ∙ ap (λ (b : Bool). length (ends n front) + (if b then 1 else 0)) two in
      subst (IsPaired begun n (front ++ t ∷ []) r) (sym same) (record {
        delimiter = h.delimiter;
        left = omega (arith, was, more);
        ends = omega (arith, had, ended);
        begins = h.begins ∙ sym (ap length (begins_other other));
        spans = h.spans ∙ sym (begins_other other);
        held = h.held;
      })

-- what is left and what ends or begins after a match, of the run that opens and of the one that closes
pub record Opens (begun : List Begun) (b : Begun) (t : Match) (old new : PairedRun) : Type 0 where
  pub delimiter : new.delimiter ≡ old.delimiter
  pub left : new.left ≡ old.left - t.width
  pub ends : new.ends ≡ old.ends
  pub begins : old.begins + 1 < 2 ^ 64 → new.begins ≡ old.begins + 1
  pub outermost : new.outermost ≡ length begun
  pub kind : span_of b.kind ≡ span_by old.delimiter t.width
  pub inner : b.inner ≡ old.outermost

pub record Closes (t : Match) (old new : PairedRun) : Type 0 where
  pub delimiter : new.delimiter ≡ old.delimiter
  pub left : new.left ≡ old.left - t.width
  pub ends : old.ends + 1 < 2 ^ 64 → new.ends ≡ old.ends + 1
  pub begins : new.begins ≡ old.begins
  pub outermost : new.outermost ≡ old.outermost

module _ (begun late : List Begun) (b : Begun) (front : List Match) (t : Match) (rs : List DelimiterRun) (ps mid : List PairedRun) (o x m y : PairedRun)
    (ordered : t.opener < t.closer) (inside : t.closer < length rs) (few : length front + 1 < 2 ^ 64) (h : ArePaired begun front rs ps) (grown : late ≡ begun ++ b ∷ [])
    (mid_is : mid ≡ set ps t.opener x) (o_is : o ≡ get_or ps t.opener o) (m_is : m ≡ get_or mid t.closer m) (opens : Opens begun b t o x) (closes : Closes t m y) where
  long : length mid ≡ length rs
  long = ap (λ l. length l) mid_is ∙ length-set ps t.opener x ∙ h.all

  kept : (n : ℕ) (p : PairedRun) → (t.opener ≡ n → ⊥) → get_or mid n p ≡ get_or ps n p
  kept n p other = ap (λ l. get_or l n p) mid_is ∙ get_or-set_other ps t.opener n x p (λ e. other (sym e))

  replaced : (n : ℕ) (p : PairedRun) → t.opener ≡ n → n < length rs → get_or mid n p ≡ x
  replaced n p e lt = ap (λ l. get_or l n p) mid_is ∙ get_or-set_at ps t.opener n x p (sym e) (let all = h.all in omega (arith, all, e, lt))

  opener_at : (n : ℕ) (r : DelimiterRun) → t.opener ≡ n → n < length rs → IsPaired begun n front (get_or rs n r) o
  opener_at n r e lt = subst (IsPaired begun n front (get_or rs n r)) (ap (λ k. get_or ps k o) (sym e) ∙ sym o_is) (h.each n r o lt)

  closer_at : (n : ℕ) (r : DelimiterRun) → t.closer ≡ n → n < length rs → IsPaired late n front (get_or rs n r) m
  closer_at n r e lt =
      let other : t.opener ≡ n → ⊥ = λ f. omega (arith, e, f, ordered) in
      paired_grown begun (b ∷ []) late n front (get_or rs n r) m grown
      (subst (IsPaired begun n front (get_or rs n r)) (sym (kept n m other) ∙ ap (λ k. get_or mid k m) (sym e) ∙ sym m_is) (h.each n r m lt))

  each : (n : ℕ) (r : DelimiterRun) (p : PairedRun) → n < length rs → (c d : Bool) → (t.closer == n) ≡ c → (t.opener == n) ≡ d → IsPaired late n (front ++ t ∷ []) (get_or rs n r) (get_or (set mid t.closer y) n p)
  each n r p lt true d e f =
      let is : t.closer ≡ n = grind (arith, nat_tests, e) in
      let other : t.opener ≡ n → ⊥ = λ g. omega (arith, is, g, ordered) in
      let was = closer_at n r is lt in
      let had = was.ends in
      let room : m.ends + 1 < 2 ^ 64 = omega (arith, had, ends_few n front, few) in
      subst (IsPaired late n (front ++ t ∷ []) (get_or rs n r)) (sym (get_or-set_at mid t.closer n y p (sym is) (omega (arith, long, inside))))
      (at_closer late n front t (get_or rs n r) m y was is other closes.delimiter closes.left (closes.ends room) closes.begins closes.outermost)
  each n r p lt false true e f =
      let is : t.opener ≡ n = grind (arith, nat_tests, f) in
      let other : t.closer ≡ n → ⊥ = λ g. omega (arith, is, g, ordered) in
      let was = opener_at n r is lt in
      let had = was.begins in
      let d = was.delimiter in
      let room : o.begins + 1 < 2 ^ 64 = omega (arith, had, begins_few n (get_or rs n r).delimiter front, few) in
      subst (IsPaired late n (front ++ t ∷ []) (get_or rs n r)) (sym (get_or-set_other mid t.closer n y p (λ g. other (sym g)) ∙ replaced n p is lt))
      (subst (λ bs. IsPaired bs n (front ++ t ∷ []) (get_or rs n r) x) (sym grown)
      (at_opener begun n front t (get_or rs n r) o x was b is other opens.delimiter opens.left opens.ends (opens.begins room) opens.outermost opens.kind opens.inner))
  each n r p lt false false e f =
      let other : t.opener ≡ n → ⊥ = λ g. (let same = is_same t.opener n g in cc) in
      let another : t.closer ≡ n → ⊥ = λ g. (let same = is_same t.closer n g in cc) in
      subst (IsPaired late n (front ++ t ∷ []) (get_or rs n r)) (sym (get_or-set_other mid t.closer n y p (λ g. another (sym g)) ∙ kept n p other))
      (elsewhere late n front t (get_or rs n r) (get_or ps n p) (get_or ps n p) (paired_grown begun (b ∷ []) late n front (get_or rs n r) (get_or ps n p) grown (h.each n r p lt)) other another refl)

  pub all_paired : ArePaired late (front ++ t ∷ []) rs (set mid t.closer y)
  all_paired = record {
    all = length-set mid t.closer y ∙ long;
    each = λ n r p lt. each n r p lt (t.closer == n) (t.opener == n) refl refl;
  }

-- one run more that nothing was taken of
pub one_fresh : (begun : List Begun) (rs : List DelimiterRun) (ps new : List PairedRun) (i : ℕ) (d r : DelimiterRun) (p : PairedRun) → i < length rs → r ≡ get_or rs i d → new ≡ ps ++ p ∷ [] → ((n : ℕ) → IsPaired begun n [] r p) →
    ArePaired begun [] (take i rs) ps → ArePaired begun [] (take (i + 1) rs) new
one_fresh begun rs ps new i d r p lt is e fresh h =
    let front : take (i + 1) rs ≡ take i rs ++ r ∷ [] = take_more rs i d lt ∙ ap (λ x. take i rs ++ x ∷ []) (sym is) in
    subst (λ l. ArePaired begun [] l new) (sym front) (subst (ArePaired begun [] (take i rs ++ r ∷ [])) (sym e) (pushed (take i rs) ps r p fresh h))
  where
    pushed : (rs : List DelimiterRun) (ps : List PairedRun) (r : DelimiterRun) (p : PairedRun) → ((n : ℕ) → IsPaired begun n [] r p) → ArePaired begun [] rs ps → ArePaired begun [] (rs ++ r ∷ []) (ps ++ p ∷ [])
    pushed rs ps r p fresh h = record {
      all = (let all = h.all in omega (arith, all, length-append ps (p ∷ []), length-append rs (r ∷ [])));
      each = λ n s q lt. by n s q (nat_lt n (length rs)) refl lt;
    }
      where
        by : (n : ℕ) (s : DelimiterRun) (q : PairedRun) (b : Bool) → nat_lt n (length rs) ≡ b → n < length (rs ++ r ∷ []) → IsPaired begun n [] (get_or (rs ++ r ∷ []) n s) (get_or (ps ++ p ∷ []) n q)
        by n s q true e lt =
            let below : n < length rs = grind (arith, nat_tests, e) in
            let all = h.all in
            subst (λ x. IsPaired begun n [] x (get_or (ps ++ p ∷ []) n q)) (sym (get_or_append_left rs (r ∷ []) s n below))
            (subst (IsPaired begun n [] (get_or rs n s)) (sym (get_or_append_left ps (p ∷ []) q n (omega (arith, all, below)))) (h.each n s q below))
        by n s q false e lt =
            let past : length rs ≤ n = grind (arith, nat_tests, e) in
            let all = h.all in
            let here : n ≡ length rs = omega (arith, past, lt, length-append rs (r ∷ [])) in
            let there : n ≡ length ps = omega (arith, here, all) in
            subst (λ x. IsPaired begun n [] x (get_or (ps ++ p ∷ []) n q)) (sym (ap (λ k. get_or (rs ++ r ∷ []) k s) here ∙ get_or-append_seam rs r [] s))
            (subst (IsPaired begun n [] r) (sym (ap (λ k. get_or (ps ++ p ∷ []) k q) there ∙ get_or-append_seam ps p [] q)) (fresh n))
