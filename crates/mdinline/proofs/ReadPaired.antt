-- What is kept, as pieces, when runs are paired.
use Rattle.std.proofs.Common.{◌≡◌, Vec, Global, ℕ, zero, suc, ◌+◌, ◌-◌, ◌<◌, ◌≤◌, Bool, true, false, ◌==◌, List, [], ◌∷◌, ◌++◌, All, length, length-drop, map, take, drop, get_or, set, replicate, refl, ap, sym, ◌∙◌, subst, arith, if◌then◌else◌}
use Rattle.std.proofs.lemmas.List.{get_or_default, length-map, map-append, map-set, take_all, take_more}
use Rattle.mdtext.specs.EntityTable.{EntityTable}
use Rattle.mdpair.specs.declared.emphasis.Match.{Match}
use Rattle.mdpair.specs.declared.delimiter_runs.DelimiterChar.TheVariants.{Tilde}
use Rattle.mdpair.specs.declared.delimiter_runs.DelimiterRun.{DelimiterRun}
use Rattle.mdpair.specs.Matches.{matches}
use Rattle.mdpair.specs.Neighbours.{byte_of}
use Rattle.inlinespec.specs.InlineEvents.{Leave, written}
use Rattle.inlinespec.specs.Pieces.{Piece, Made, Run, Opening}
use Rattle.inlinespec.specs.Emphasis.{ends, taken, run_events, runs_of}
use Rattle.mdinline.specs.declared.pending.Pending.{Pending}
use Rattle.mdinline.specs.declared.tokens.Begun.{Begun}
use Rattle.mdinline.specs.declared.tokens.PairedRun.{PairedRun}
use Rattle.mdinline.specs.declared.tokens.Token.{Token}
use Rattle.mdinline.specs.declared.tokens.Token.TheVariants as t
use Rattle.mdinline.specs.held.LeafEvents.{begun_events, paired_events}
use Rattle.mdinline.specs.held.PairedRuns as held
use Rattle.mdinline.specs.held.PairedRuns.{ArePaired}
use Rattle.mdinline.specs.held.ReadMarks.{AreEventsOf, marked, places_of}
use Rattle.mdinline.specs.held.ReadPending.{AreRunsAt, HasSpansOf, IsKept, IsPaired, IsSettled, IsSpanned, paired_piece, shown_by, shown_pieces, token_piece}
use Rattle.mdinline.proofs.PairedMatches.{events_grown, held_grown}
use Rattle.mdinline.proofs.ReadMarks.{all_marked, mark_next, none_marked, places_all}

-- a run that is paired, as events

as_many : (n : ℕ) (ts : List Match) → ends n ts ≡ replicate (length (ends n ts)) Leave
as_many n [] = refl
as_many n (t ∷ ts) = by (t.closer == n) (as_many n ts)
  where
    by : (b : Bool) → ends n ts ≡ replicate (length (ends n ts)) Leave →
        (if b then Leave ∷ ends n ts else ends n ts) ≡ replicate (length (if b then Leave ∷ ends n ts else ends n ts)) Leave
    by true e = ap (λ es. Leave ∷ es) e
    by false e = e

paired_is : (begun : List Begun) (n : ℕ) (ts : List Match) (r : DelimiterRun) (p : PairedRun) → held.IsPaired begun n ts r p → paired_events begun p ≡ run_events n ts r
paired_is begun n ts r p h =
    ap (λ k. replicate k Leave ++ written (replicate p.left (byte_of p.delimiter)) ++ begun_events begun p.begins p.outermost) h.ends
    ∙ ap (λ es. es ++ written (replicate p.left (byte_of p.delimiter)) ++ begun_events begun p.begins p.outermost) (sym (as_many n ts))
    ∙ ap (λ d. ends n ts ++ written (replicate p.left (byte_of d)) ++ begun_events begun p.begins p.outermost) h.delimiter
    ∙ ap (λ k. ends n ts ++ written (replicate k (byte_of r.delimiter)) ++ begun_events begun p.begins p.outermost) h.left
    ∙ ap (λ es. ends n ts ++ written (replicate (r.length - taken n ts) (byte_of r.delimiter)) ++ es) h.spans

all_events : (begun : List Begun) (k : ℕ) (ts : List Match) (rs : List DelimiterRun) (ps : List PairedRun) → length ps ≡ length rs →
    ((n : ℕ) (r : DelimiterRun) (p : PairedRun) → n < length rs → held.IsPaired begun (k + n) ts (get_or rs n r) (get_or ps n p)) → AreEventsOf k ts rs (map (paired_piece begun) ps)
all_events begun k ts [] [] all each = tt
all_events begun k ts [] (p ∷ ps) all each = absurd (omega (arith, all))
all_events begun k ts (r ∷ rs) [] all each = absurd (omega (arith, all))
all_events begun k ts (r ∷ rs) (p ∷ ps) all each =
    let first : held.IsPaired begun k ts r p = subst (λ m. held.IsPaired begun m ts r p) (let e : k + 0 ≡ k = omega arith in e) (each 0 r p (omega arith)) in
    let rest = all_events begun (k + 1) ts rs ps (omega (arith, all)) (λ n s q lt. subst (λ m. held.IsPaired begun m ts (get_or rs n s) (get_or ps n q)) (let e : k + suc n ≡ k + 1 + n = omega arith in e) (each (suc n) s q (omega (arith, lt)))) in
    (ap (λ es. Made false es) (paired_is begun k ts r p first), rest)

pub events_of_paired : (begun : List Begun) (ts : List Match) (rs : List DelimiterRun) (ps : List PairedRun) → ArePaired begun ts rs ps → AreEventsOf 0 ts rs (map (paired_piece begun) ps)
events_of_paired begun ts rs ps h =
    all_events begun 0 ts rs ps h.all (λ n r p lt. subst (λ m. held.IsPaired begun m ts (get_or rs n r) (get_or ps n p)) (let e : n ≡ 0 + n = omega arith in e) (h.each n r p lt))

spans_of_paired : (begun : List Begun) (ts : List Match) (rs : List DelimiterRun) (ps : List PairedRun) → ArePaired begun ts rs ps → All (HasSpansOf begun) ps
spans_of_paired begun ts [] ps h = λ n p lt. (let all = h.all in absurd (omega (arith, lt, all)))
spans_of_paired begun ts (r ∷ rs) ps h = λ n p lt. (let all = h.all in (h.each n r p (omega (arith, lt, all))).held)

-- the list of spans grows

token_grown : (entities : EntityTable) (text : List ℕ) (begun more : List Begun) (token : Token) → IsSpanned begun token → token_piece entities text (begun ++ more) token ≡ token_piece entities text begun token
token_grown entities text begun more (t.Plain span) h = refl
token_grown entities text begun more (t.Text span) h = refl
token_grown entities text begun more (t.Meaning referent) h = refl
token_grown entities text begun more (t.Code span) h = refl
token_grown entities text begun more (t.Html span) h = refl
token_grown entities text begun more (t.Autolink span) h = refl
token_grown entities text begun more (t.MailAutolink span) h = refl
token_grown entities text begun more t.SoftBreak h = refl
token_grown entities text begun more t.HardBreak h = refl
token_grown entities text begun more (t.Bracket image) h = refl
token_grown entities text begun more (t.Run run) h = refl
token_grown entities text begun more (t.Paired run) h =
    ap (λ es. Made false (replicate run.ends Leave ++ written (replicate run.left (byte_of run.delimiter)) ++ es)) (events_grown begun more run.begins run.outermost h)
token_grown entities text begun more (t.Enter image goal) h = refl
token_grown entities text begun more t.Leave h = refl

spanned_grown : (begun more : List Begun) (token : Token) → IsSpanned begun token → IsSpanned (begun ++ more) token
spanned_grown begun more (t.Plain span) h = tt
spanned_grown begun more (t.Text span) h = tt
spanned_grown begun more (t.Meaning referent) h = tt
spanned_grown begun more (t.Code span) h = tt
spanned_grown begun more (t.Html span) h = tt
spanned_grown begun more (t.Autolink span) h = tt
spanned_grown begun more (t.MailAutolink span) h = tt
spanned_grown begun more t.SoftBreak h = tt
spanned_grown begun more t.HardBreak h = tt
spanned_grown begun more (t.Bracket image) h = tt
spanned_grown begun more (t.Run run) h = tt
spanned_grown begun more (t.Paired run) h = held_grown begun more run.begins run.outermost h
spanned_grown begun more (t.Enter image goal) h = tt
spanned_grown begun more t.Leave h = tt

shown_grown : (entities : EntityTable) (text : List ℕ) (begun more : List Begun) (tokens : List Token) → All (IsSpanned begun) tokens → shown_by entities text (begun ++ more) tokens ≡ shown_by entities text begun tokens
shown_grown entities text begun more [] h = refl
shown_grown entities text begun more (token ∷ tokens) h =
    ap (λ p. p ∷ shown_by entities text (begun ++ more) tokens) (token_grown entities text begun more token (h 0 token (omega arith)))
    ∙ ap (λ ps. token_piece entities text begun token ∷ ps) (shown_grown entities text begun more tokens (λ i d lt. h (suc i) d (omega (arith, lt))))

-- runs that are marked

module _ (entities : EntityTable) (text : List ℕ) (from : ℕ) (pending : Pending) (h : AreRunsAt entities text from pending) where
  abbrev pub shown : List Piece
  shown = shown_pieces entities text pending

  abbrev pub made_so_far : ℕ → List Piece
  made_so_far i = map (paired_piece pending.begun.items) (take i pending.paired.items)

  pub mark_more : (i place : ℕ) (tokens new : List Token) (p : PairedRun) → i < length pending.paired.items → shown_by entities text pending.begun.items tokens ≡ marked shown from (made_so_far i) →
      place ≡ get_or pending.places.items (from + i) 0 → p ≡ get_or pending.paired.items i p → new ≡ set tokens place (t.Paired p) →
      shown_by entities text pending.begun.items new ≡ marked shown from (made_so_far (i + 1))
  mark_more i place tokens new p lt so_far place_is p_is e =
      let few = h.few in
      let long : i ≡ length (made_so_far i) = (let z : i ≡ length (take i pending.paired.items) = sym (short i pending.paired.items (omega (arith, lt))) in z) ∙ sym (length-map (take i pending.paired.items) (paired_piece pending.begun.items)) in
      let next : made_so_far (i + 1) ≡ made_so_far i ++ paired_piece pending.begun.items p ∷ [] =
      ap (map (paired_piece pending.begun.items)) (take_more pending.paired.items i p lt ∙ ap (λ x. take i pending.paired.items ++ x ∷ []) (sym p_is)) ∙ map-append (paired_piece pending.begun.items) (take i pending.paired.items) (p ∷ []) in
      ap (shown_by entities text pending.begun.items) e ∙ map-set (token_piece entities text pending.begun.items) tokens place (t.Paired p)
      ∙ ap (λ xs. set xs place (paired_piece pending.begun.items p)) so_far
      ∙ mark_next shown from i place 0 (made_so_far i) (paired_piece pending.begun.items p) long (omega (arith, few, lt)) (place_is ∙ ap (λ ks. get_or ks (from + i) 0) h.places)
      ∙ ap (marked shown from) (sym next)
    where
      short : {X : Type 0} (i : ℕ) (xs : List X) → i ≤ length xs → length (take i xs) ≡ i
      short zero xs le = refl
      short (suc i) [] le = absurd (omega (arith, le))
      short (suc i) (x ∷ xs) le = ap suc (short i xs (omega (arith, le)))

  -- the run at a place of the list is marked
  pub mark_run : (i run : ℕ) (loop new : Pending) → i < length pending.paired.items → run ≡ from + i → loop.places ≡ pending.places → loop.paired ≡ pending.paired →
      shown_by entities text pending.begun.items loop.tokens.items ≡ marked shown from (made_so_far i) →
      (run < length loop.places.items → i < length loop.paired.items → (d : ℕ) (p : PairedRun) → new.tokens.items ≡ set loop.tokens.items (get_or loop.places.items run d) (t.Paired (get_or loop.paired.items i p))) →
      shown_by entities text pending.begun.items new.tokens.items ≡ marked shown from (made_so_far (i + 1))
  mark_run i run loop new lt e places paired so_far marks =
      let none : PairedRun = record { delimiter = Tilde; left = 0; ends = 0; begins = 0; outermost = 0 } in
      let few = h.few in
      let many : length loop.places.items ≡ length (places_of shown 0) = ap (λ (v : Vec ℕ Global). length v.items) places ∙ ap (λ xs. length xs) h.places in
      let below : run < length loop.places.items = omega (arith, e, many, few, lt, places_all shown 0) in
      let inside : i < length loop.paired.items = subst (λ (v : Vec PairedRun Global). i < length v.items) (sym paired) lt in
      let p = get_or loop.paired.items i none in
      let p_is : p ≡ get_or pending.paired.items i p = ap (λ (v : Vec PairedRun Global). get_or v.items i none) paired ∙ get_or_default pending.paired.items i none p lt in
      mark_more i (get_or loop.places.items run 0) loop.tokens.items new.tokens.items p lt so_far
      (ap (λ (v : Vec ℕ Global). get_or v.items run 0) places ∙ ap (λ k. get_or pending.places.items k 0) e) p_is (marks below inside 0 none)

  pub few_places : (i : ℕ) → i < length pending.paired.items → from + i < length pending.places.items
  few_places i lt = (let few = h.few in omega (arith, few, lt, ap (λ xs. length xs) h.places, places_all shown 0))

  pub none_made : shown ≡ marked shown from (made_so_far 0)
  none_made = sym (none_marked shown from)

  pub all_made : (i : ℕ) → length pending.paired.items ≤ i → made_so_far i ≡ map (paired_piece pending.begun.items) pending.paired.items
  all_made i le = ap (map (paired_piece pending.begun.items)) (take_all i pending.paired.items le)

-- the runs from one on are paired

module _ (entities : EntityTable) (text : List ℕ) (from : ℕ) (old mid new : Pending) (h : IsKept entities text old) where
  pub pairs : (more : List Begun) → from < length old.runs.items → ArePaired mid.begun.items (matches (drop from old.runs.items)) (drop from old.runs.items) mid.paired.items →
      mid.begun.items ≡ old.begun.items ++ more → mid.tokens.items ≡ old.tokens.items → mid.places.items ≡ old.places.items → new.begun.items ≡ mid.begun.items →
      (AreRunsAt entities text from mid → shown_pieces entities text new ≡ marked (shown_pieces entities text mid) from (map (paired_piece mid.begun.items) mid.paired.items)) →
      (All (HasSpansOf mid.begun.items) mid.paired.items → All (IsSpanned mid.begun.items) mid.tokens.items → All (IsSpanned mid.begun.items) new.tokens.items) → IsPaired entities text from old new
  pairs more lt paired grown tokens places same mark spans =
      let rs = drop from old.runs.items in
      let shown : shown_pieces entities text mid ≡ shown_pieces entities text old =
      ap (shown_by entities text mid.begun.items) tokens ∙ ap (λ bs. shown_by entities text bs old.tokens.items) grown ∙ shown_grown entities text old.begun.items more old.tokens.items h.spans in
      let all = paired.all in
      let long : length old.runs.items ≡ length (runs_of (shown_pieces entities text mid)) = ap (λ xs. length xs) (h.runs ∙ ap runs_of (sym shown)) in
      let at : AreRunsAt entities text from mid = record {
        places = places ∙ h.places ∙ ap (λ xs. places_of xs 0) (sym shown);
        few = omega (arith, lt, all, long, length-drop from old.runs.items);
      } in
      let wide : All (IsSpanned mid.begun.items) mid.tokens.items =
      subst (λ bs. All (IsSpanned bs) mid.tokens.items) (sym grown) (subst (All (IsSpanned (old.begun.items ++ more))) (sym tokens) (λ i d under. spanned_grown old.begun.items more (get_or old.tokens.items i d) (h.spans i d under))) in
      record {
        made = map (paired_piece mid.begun.items) mid.paired.items;
        events = events_of_paired mid.begun.items (matches rs) rs mid.paired.items paired;
        shown = mark at ∙ ap (λ xs. marked xs from (map (paired_piece mid.begun.items) mid.paired.items)) shown;
        spans = subst (λ bs. All (IsSpanned bs) new.tokens.items) (sym same) (spans (spans_of_paired mid.begun.items (matches rs) rs mid.paired.items paired) wide);
      }

  -- where there is none, nothing changes
  pub pairs_none : length old.runs.items ≤ from → IsPaired entities text from old old
  pairs_none le = record {
    made = [];
    events = subst (λ rs. AreEventsOf 0 (matches rs) rs []) (sym (past from old.runs.items le)) tt;
    shown = sym (none_marked (shown_pieces entities text old) from);
    spans = h.spans;
  }
    where
      past : {X : Type 0} (n : ℕ) (xs : List X) → length xs ≤ n → drop n xs ≡ []
      past zero [] le = refl
      past (suc n) [] le = refl
      past zero (x ∷ xs) le = absurd (omega (arith, le))
      past (suc n) (x ∷ xs) le = past n xs (omega (arith, le))

-- and are not pending any more

runs_marked : (ps : List Piece) (n k : ℕ) (ts : List Match) (qs : List Piece) → AreEventsOf k ts (drop n (runs_of ps)) qs → runs_of (marked ps n qs) ≡ take n (runs_of ps)
runs_marked ps zero k ts qs h = all_marked ps qs k ts h
runs_marked [] (suc n) k ts qs h = refl
runs_marked (Made l es ∷ ps) (suc n) k ts qs h = runs_marked ps (suc n) k ts qs h
runs_marked (Opening image begin ∷ ps) (suc n) k ts qs h = runs_marked ps (suc n) k ts qs h
runs_marked (Run r ∷ ps) (suc n) k ts qs h = ap (λ rs. r ∷ rs) (runs_marked ps n k ts qs h)

no_places : (ps : List Piece) (k at : ℕ) (ts : List Match) (qs : List Piece) → AreEventsOf k ts (runs_of ps) qs → places_of (marked ps zero qs) at ≡ []
no_places [] k at ts qs h = refl
no_places (Made l es ∷ ps) k at ts qs h = no_places ps k (at + 1) ts qs h
no_places (Opening image begin ∷ ps) k at ts qs h = no_places ps k (at + 1) ts qs h
no_places (Run r ∷ ps) k at ts [] h = absurd h
no_places (Run r ∷ ps) k at ts (q ∷ qs) h = ap (λ p. places_of (p ∷ marked ps zero qs) at) h.0 ∙ no_places ps (k + 1) (at + 1) ts qs h.1

places_marked : (ps : List Piece) (n k at : ℕ) (ts : List Match) (qs : List Piece) → AreEventsOf k ts (drop n (runs_of ps)) qs → places_of (marked ps n qs) at ≡ take n (places_of ps at)
places_marked ps zero k at ts qs h = no_places ps k at ts qs h
places_marked [] (suc n) k at ts qs h = refl
places_marked (Made l es ∷ ps) (suc n) k at ts qs h = places_marked ps (suc n) k (at + 1) ts qs h
places_marked (Opening image begin ∷ ps) (suc n) k at ts qs h = places_marked ps (suc n) k (at + 1) ts qs h
places_marked (Run r ∷ ps) (suc n) k at ts qs h = ap (λ ks. at ∷ ks) (places_marked ps n k (at + 1) ts qs h)

pub settles : (entities : EntityTable) (text : List ℕ) (from : ℕ) (old mid new : Pending) → IsKept entities text old → IsPaired entities text from old mid → new.tokens.items ≡ mid.tokens.items → new.begun.items ≡ mid.begun.items →
    new.runs.items ≡ take from old.runs.items → new.places.items ≡ take from old.places.items → IsSettled entities text from old new
settles entities text from old mid new h paired tokens begun runs places =
    let ps = shown_pieces entities text old in
    let same : shown_pieces entities text new ≡ marked ps from paired.made =
    ap (λ bs. shown_by entities text bs new.tokens.items) begun ∙ ap (shown_by entities text mid.begun.items) tokens ∙ paired.shown in
    let events = subst (λ rs. AreEventsOf 0 (matches (drop from old.runs.items)) (drop from rs) paired.made) h.runs paired.events in
    record {
      made = paired.made;
      events = paired.events;
      shown = same;
      kept = record {
        runs = runs ∙ ap (take from) h.runs ∙ sym (ap runs_of same ∙ runs_marked ps from 0 (matches (drop from old.runs.items)) paired.made events);
        places = places ∙ ap (take from) h.places ∙ sym (ap (λ xs. places_of xs 0) same ∙ places_marked ps from 0 0 (matches (drop from old.runs.items)) paired.made events);
        spans = subst (λ bs. All (IsSpanned bs) new.tokens.items) (sym begun) (subst (All (IsSpanned mid.begun.items)) (sym tokens) paired.spans);
      };
    }
