-- What is held of a text, when something is handed out.
use Rattle.std.proofs.Common.{◌≡◌, Vec, Global, ℕ, zero, ◌+◌, ◌-◌, ◌<◌, ◌≤◌, Bool, true, false, not, ◌==◌, ◌&&◌, List, [], ◌∷◌, ◌++◌, All, length, reverse, replicate, take, drop, refl, ap, sym, ◌∙◌, subst, arith, append-nil}
use Rattle.std.proofs.lemmas.Bool.Decides.{nat_tests}
use Rattle.std.proofs.lemmas.List.Elements.{All-nil}
use Rattle.std.specs.Prelude.{slice_index}
use Rattle.mdtext.specs.EntityTable.{EntityTable}
use Rattle.mdpair.specs.declared.delimiter_runs.DelimiterRun.{DelimiterRun}
use Rattle.mdpair.specs.Matches.{matches}
use Rattle.mdpair.specs.Neighbours.{byte_of}
use Rattle.inlinespec.specs.InlineEvents.{Event, written}
use Rattle.inlinespec.specs.Pieces.{Piece, Made, Run, Opening}
use Rattle.inlinespec.specs.Emphasis.{runs_of, settled}
use Rattle.mdinline.specs.declared.bracket_stack.BracketStack.{BracketStack}
use Rattle.mdinline.specs.declared.pending.Pending.{Pending}
use Rattle.mdinline.specs.declared.tokens.Begun.{Begun}
use Rattle.mdinline.specs.declared.tokens.Token.{Token}
use Rattle.mdinline.specs.declared.tokens.Token.TheVariants as t
use Rattle.mdinline.specs.held.LeafEvents.{leaf_events, token_events, tokens_events}
use Rattle.mdinline.specs.held.PutLeaves.{PutsLeaf}
use Rattle.mdinline.specs.held.ReadMarks.{AreEventsOf, marked, marks_back, ones, places_of}
use Rattle.mdinline.specs.held.ReadPending.{HoldsPieces, IsSettled, IsSpanned, is_leaf, shown_by, shown_pieces, token_piece}
use Rattle.mdinline.specs.held.ReadState.{Shows, as_text}
use Rattle.mdinline.specs.held.ReadSteps.{AreLeaves}
use Rattle.mdinline.specs.held.UnusedOpeners.{AreOpenersOf, openers}
use Rattle.mdinline.proofs.ReadHanded.{all_settled, flushed, idle_run, straight}
use Rattle.mdinline.proofs.ReadMarks.{all_marked, events_marked, places_all}
use Rattle.mdinline.proofs.ReadSteps.{byte_at}
use Rattle.mdinline.proofs.ReadState.{ones_same, text_append, text_marks}

-- leaves

pub leaves_quiet : (qs : List Piece) → AreLeaves qs → openers qs ≡ []
leaves_quiet [] h = refl
leaves_quiet (Made false es ∷ qs) h = leaves_quiet qs h
leaves_quiet (Made true es ∷ qs) h = absurd h
leaves_quiet (Run r ∷ qs) h = absurd h
leaves_quiet (Opening image begin ∷ qs) h = absurd h

pub leaves_unused : (qs ps : List Piece) (openings : BracketStack) → AreLeaves qs → AreOpenersOf ps openings → AreOpenersOf (qs ++ ps) openings
leaves_unused [] ps openings h k = k
leaves_unused (Made false es ∷ qs) ps openings h k = (let rest = leaves_unused qs ps openings h k in record { all = rest.all; links = rest.links })
leaves_unused (Made true es ∷ qs) ps openings h k = absurd h
leaves_unused (Run r ∷ qs) ps openings h k = absurd h
leaves_unused (Opening image begin ∷ qs) ps openings h k = absurd h

-- tokens that are handed out

token_text : (entities : EntityTable) (text : List ℕ) (begun : List Begun) (token : Token) → token_events entities text begun token ≡ as_text (token_piece entities text begun token ∷ [])
token_text entities text begun (t.Plain span) = sym (append-nil _)
token_text entities text begun (t.Text span) = sym (append-nil _)
token_text entities text begun (t.Meaning referent) = sym (append-nil _)
token_text entities text begun (t.Code span) = sym (append-nil _)
token_text entities text begun (t.Html span) = sym (append-nil _)
token_text entities text begun (t.Autolink span) = sym (append-nil _)
token_text entities text begun (t.MailAutolink span) = sym (append-nil _)
token_text entities text begun t.SoftBreak = sym (append-nil _)
token_text entities text begun t.HardBreak = sym (append-nil _)
token_text entities text begun (t.Bracket image) = sym (append-nil _)
token_text entities text begun (t.Run run) = sym (append-nil _)
token_text entities text begun (t.Paired run) = sym (append-nil _)
token_text entities text begun (t.Enter image goal) = sym (append-nil _)
token_text entities text begun t.Leave = sym (append-nil _)

pub tokens_text : (entities : EntityTable) (text : List ℕ) (begun : List Begun) (tokens : List Token) → tokens_events entities text begun tokens ≡ as_text (shown_by entities text begun tokens)
tokens_text entities text begun [] = refl
tokens_text entities text begun (token ∷ tokens) =
    ap (λ es. es ++ tokens_events entities text begun tokens) (token_text entities text begun token) ∙ ap (λ es. as_text (token_piece entities text begun token ∷ []) ++ es) (tokens_text entities text begun tokens)
    ∙ sym (text_append (token_piece entities text begun token ∷ []) (shown_by entities text begun tokens))

module _ (entities : EntityTable) (text : List ℕ) (handed : List Event) (old : Pending) (ps : List Piece) (h : HoldsPieces entities text handed old ps) where
  -- nothing was handed out
  pub holds_still : HoldsPieces entities text (handed ++ []) old ps
  holds_still = subst (λ es. HoldsPieces entities text es old ps) (sym (append-nil handed)) h

  empty : old.tokens.items ≡ [] → Shows (reverse old.openings.unused.items) handed [] ps
  empty none = subst (λ ts. Shows (reverse old.openings.unused.items) handed (shown_by entities text old.begun.items ts) ps) none h.shows

  filled : (es : List Event) (qs : List Piece) → old.tokens.items ≡ [] → Shows (reverse old.openings.unused.items) es [] qs → HoldsPieces entities text es old qs
  filled es qs none shows = record {
    kept = h.kept;
    shows = subst (λ ts. Shows (reverse old.openings.unused.items) es (shown_by entities text old.begun.items ts) qs) (sym none) shows;
  }

  -- where nothing is kept, a leaf and a run that opens nothing are handed out at once

  pub holds_straight : (es : List Event) (qs : List Piece) → old.tokens.items ≡ [] → AreLeaves qs → ones es ≡ marks_back qs → HoldsPieces entities text (handed ++ es) old (qs ++ ps)
  holds_straight es qs none leaves same =
      filled (handed ++ es) (qs ++ ps) none (straight (reverse old.openings.unused.items) handed es ps qs (empty none) (leaves_quiet qs leaves) (sym same))

  pub holds_idle : (es : List Event) (run : DelimiterRun) → old.tokens.items ≡ [] → run.can_open ≡ false → es ≡ written (replicate run.length (byte_of run.delimiter)) →
      HoldsPieces entities text (handed ++ es) old (Run run ∷ ps)
  holds_idle es run none closed same =
      subst (λ fs. HoldsPieces entities text (handed ++ fs) old (Run run ∷ ps)) (sym same)
      (filled (handed ++ written (replicate run.length (byte_of run.delimiter))) (Run run ∷ ps) none (idle_run (reverse old.openings.unused.items) handed ps run (empty none) closed))

  -- where no run and no bracket is pending, all is handed out
  pub holds_flushed : (new : Pending) → old.runs.items ≡ [] → old.openings.unused.items ≡ [] → new.tokens.items ≡ [] → new.runs ≡ old.runs → new.places ≡ old.places → new.openings ≡ old.openings →
      HoldsPieces entities text (handed ++ tokens_events entities text old.begun.items old.tokens.items) new ps
  holds_flushed new no_run no_bracket none runs places openings =
      let kept = h.kept in
      let xs = shown_pieces entities text old in
      let idle : runs_of xs ≡ [] = sym kept.runs ∙ no_run in
      let flat : Shows [] handed xs ps = subst (λ os. Shows (reverse os) handed xs ps) no_bracket h.shows in
      let shown : shown_pieces entities text new ≡ [] = ap (shown_by entities text new.begun.items) none in
      let unused : new.openings.unused.items ≡ [] = ap (λ (s : BracketStack). s.unused.items) openings ∙ no_bracket in
      record {
        kept = record {
          runs = ap (λ (v : Vec DelimiterRun Global). v.items) runs ∙ no_run ∙ sym (ap runs_of shown);
          places = ap (λ (v : Vec ℕ Global). v.items) places ∙ kept.places ∙ nothing (places_of xs 0) (places_all xs 0 ∙ ap (λ rs. length rs) idle) ∙ sym (ap (λ ys. places_of ys 0) shown);
          spans = subst (All (IsSpanned new.begun.items)) (sym none) (All-nil (IsSpanned new.begun.items));
        };
        shows = subst (λ os. Shows (reverse os) (handed ++ tokens_events entities text old.begun.items old.tokens.items) (shown_pieces entities text new) ps) (sym unused)
            (subst (λ ys. Shows [] (handed ++ tokens_events entities text old.begun.items old.tokens.items) ys ps) (sym shown)
            (subst (λ es. Shows [] (handed ++ es) [] ps) (sym (tokens_text entities text old.begun.items old.tokens.items)) (flushed handed xs ps flat idle)));
      }
    where
      nothing : (ks : List ℕ) → length ks ≡ 0 → ks ≡ []
      nothing [] e = refl
      nothing (k ∷ ks) e = absurd (omega (arith, e))

  -- when all runs are paired, what was handed out and the tokens are the events of the pieces
  pub holds_all : (new : Pending) → IsSettled entities text 0 old new → settled (reverse ps) ≡ handed ++ tokens_events entities text new.begun.items new.tokens.items
  unfolding settled
  holds_all new paired =
      let kept = h.kept in
      let xs = shown_pieces entities text old in
      let events = subst (λ rs. AreEventsOf 0 (matches rs) rs paired.made) kept.runs paired.events in
      let none : runs_of (marked xs zero paired.made) ≡ [] = all_marked xs paired.made 0 (matches (runs_of xs)) events in
      let text_is : as_text (marked xs zero paired.made) ≡ settled xs =
      ones_same (as_text (marked xs zero paired.made)) (settled xs) (sym (text_marks (marked xs zero paired.made) none) ∙ events_marked xs paired.made 0 (matches (runs_of xs)) events) in
      all_settled (reverse old.openings.unused.items) handed xs ps h.shows
      ∙ ap (λ es. handed ++ es) (sym text_is ∙ ap as_text (sym paired.shown) ∙ sym (tokens_text entities text new.begun.items new.tokens.items))

  -- where nothing is kept, what was handed out are the events of the pieces
  pub holds_no_more : old.tokens.items ≡ [] → settled (reverse ps) ≡ handed ++ []
  unfolding settled
  holds_no_more none = all_settled (reverse old.openings.unused.items) handed [] ps (empty none)

-- what tests say

pub no_items : {X : Type 0} (xs : List X) (b : Bool) → b ≡ (length xs == 0) → b ≡ true → xs ≡ []
no_items [] b e h = refl
no_items (x ∷ xs) b e h = (let f : (length (x ∷ xs) == 0) ≡ true = sym e ∙ h in let g : length (x ∷ xs) ≡ 0 = grind (arith, nat_tests, f) in absurd (omega (arith, g)))

-- a leaf that is kept, and one that is handed out

pub leaf_kept : (entities : EntityTable) (text : List ℕ) (token : Token) (old new : Pending) →
    ((entities : EntityTable) (text : List ℕ) (handed : List Event) (ps qs : List Piece) → is_leaf token ≡ true → openers qs ≡ [] →
    ones (leaf_events entities text token) ≡ marks_back qs → HoldsPieces entities text handed old ps → HoldsPieces entities text handed new (qs ++ ps)) →
    is_leaf token ≡ true → PutsLeaf entities text (leaf_events entities text token) [] old new
leaf_kept entities text token old new kept leaf =
    λ handed ps qs leaves same h. holds_still entities text handed new (qs ++ ps) (kept entities text handed ps qs leaf (leaves_quiet qs leaves) same h)

pub leaf_handed : (entities : EntityTable) (text : List ℕ) (leaf es : List Event) (old : Pending) (none : Bool) → none ≡ (length old.tokens.items == 0) →
    none ≡ true → ones es ≡ ones leaf →
    PutsLeaf entities text leaf es old old
leaf_handed entities text leaf es old none is empty alike =
    λ handed ps qs leaves same h. holds_straight entities text handed old ps h es qs (no_items old.tokens.items none is empty) leaves (alike ∙ same)

both_true : (s t : Bool) → (s && t) ≡ true → (s ≡ true) × (t ≡ true)
both_true true true e = (refl, refl)
both_true true false e = cc
both_true false t e = cc

pub no_items_both : {X Y : Type 0} (xs : List X) (ys : List Y) (b : Bool) → b ≡ ((length xs == 0) && (length ys == 0)) → b ≡ true → (xs ≡ []) × (ys ≡ [])
no_items_both xs ys b e h =
    let both = both_true (length xs == 0) (length ys == 0) (sym e ∙ h) in
    (no_items xs (length xs == 0) refl both.0, no_items ys (length ys == 0) refl both.1)

-- one byte of a text
pub byte_part : (text : List ℕ) (at b : ℕ) → at < length text → slice_index text at ≡ b → take (at + 1 - at) (drop at text) ≡ b ∷ []
byte_part text at b lt is =
    ap (λ n. take n (drop at text)) (let e : at + 1 - at ≡ 1 = omega arith in e) ∙ ap (take 1) (byte_at text at lt) ∙ ap (λ x. x ∷ []) is

pub is_closed : (b : Bool) → not b ≡ true → b ≡ false
is_closed true e = cc
is_closed false e = refl

-- a bracket that opens, by where it ends
pub holds_opening : (entities : EntityTable) (text : List ℕ) (handed : List Event) (pending : Pending) (ps : List Piece) (image : Bool) (at end : ℕ) → at ≤ end → HoldsPieces entities text handed pending (Opening image end ∷ ps) →
    HoldsPieces entities text (handed ++ []) pending (Opening image (at + (end - at)) ∷ ps)
holds_opening entities text handed pending ps image at end le h =
    holds_still entities text handed pending (Opening image (at + (end - at)) ∷ ps)
    (subst (λ k. HoldsPieces entities text handed pending (Opening image k ∷ ps)) (let e : end ≡ at + (end - at) = omega (arith, le) in e) h)
