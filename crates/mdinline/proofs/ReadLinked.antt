-- What is kept, as pieces, when a link or an image is made.
use Rattle.std.proofs.Common.{◌≡◌, Vec, Global, ℕ, false, List, [], ◌∷◌, ◌++◌, All, reverse, map, drop, set, ap, sym, ◌∙◌, subst, append-nil}
use Rattle.std.proofs.lemmas.List.{map-append, map-set, set_at}
use Rattle.std.proofs.lemmas.List.Elements.{All-push, All-set}
use Rattle.mdtext.specs.EntityTable.{EntityTable}
use Rattle.mdpair.specs.declared.delimiter_runs.DelimiterRun.{DelimiterRun}
use Rattle.mdpair.specs.Matches.{matches}
use Rattle.inlinespec.specs.InlineEvents.{Event, Enter, Leave}
use Rattle.inlinespec.specs.Pieces.{Piece, Made, bracket_text}
use Rattle.inlinespec.specs.Emphasis.{runs_of}
use Rattle.inlinespec.specs.Links.{linked, nearest_opener}
use Rattle.inlinespec.specs.Images.{span_to}
use Rattle.mdinline.specs.declared.bracket_stack.Opening as held
use Rattle.mdinline.specs.declared.pending.Pending.{Pending}
use Rattle.mdinline.specs.declared.tokens.Begun.{Begun}
use Rattle.mdinline.specs.declared.tokens.Goal.{Goal}
use Rattle.mdinline.specs.declared.tokens.Token.{Token}
use Rattle.mdinline.specs.declared.tokens.Token.TheVariants as t
use Rattle.mdinline.specs.held.LeafEvents.{goal_target}
use Rattle.mdinline.specs.held.ReadMarks.{AreEventsOf, places_of}
use Rattle.mdinline.specs.held.ReadPending.{HoldsPieces, HoldsTaken, IsKept, IsSettled, IsSpanned, shown_by, shown_pieces, token_piece}
use Rattle.mdinline.specs.held.ReadState.{Shows}
use Rattle.mdinline.proofs.ReadMarks.{places_append, runs_append}
use Rattle.mdinline.proofs.ReadState.{bracket_stands, links}

-- one made piece in place of another changes no run

same_runs : (front behind : List Piece) (x y : List Event) → runs_of (front ++ Made false x ∷ behind) ≡ runs_of (front ++ Made false y ∷ behind)
same_runs front behind x y = runs_append front (Made false x ∷ behind) ∙ sym (runs_append front (Made false y ∷ behind))

same_places : (front behind : List Piece) (x y : List Event) → places_of (front ++ Made false x ∷ behind) 0 ≡ places_of (front ++ Made false y ∷ behind) 0
same_places front behind x y = places_append front (Made false x ∷ behind) 0 ∙ sym (places_append front (Made false y ∷ behind) 0)

pub holds_link : (entities : EntityTable) (text : List ℕ) (handed : List Event) (ps : List Piece) (o : held.Opening) (goal : Goal) (old mid new : Pending) → IsSettled entities text o.runs old mid →
    (replaced : List Token) → replaced ≡ set mid.tokens.items o.token (t.Enter o.is_image goal) → new.tokens.items ≡ replaced ++ t.Leave ∷ [] → new.runs ≡ mid.runs → new.places ≡ mid.places → new.begun ≡ mid.begun →
    new.openings.unused.items ≡ old.openings.unused.items → IsKept entities text old → HoldsTaken entities text handed o old ps →
    HoldsPieces entities text handed new (linked (goal_target entities text goal) ps (nearest_opener ps))
holds_link entities text handed ps o goal old mid new settled replaced put tokens runs places begun unused kept taken =
    let xs = shown_pieces entities text old in
    let begin = token_piece entities text mid.begun.items in
    let enter = Enter (span_to o.is_image (goal_target entities text goal)) ∷ [] in
    let leave = Leave ∷ [] in
    let word = bracket_text o.is_image in
    let stands = bracket_stands (reverse old.openings.unused.items) handed xs ps settled.made o taken in
    let before = stands.0 in
    let behind = stands.1 in
    let mid_is : shown_pieces entities text mid ≡ before ++ Made false word ∷ behind = settled.shown ∙ stands.2 in
    let ends : shown_pieces entities text new ≡ set (shown_pieces entities text mid) o.token (Made false enter) ++ Made false leave ∷ [] =
    ap (λ (v : Vec Begun Global). shown_by entities text v.items new.tokens.items) begun ∙ ap (shown_by entities text mid.begun.items) tokens
    ∙ map-append begin replaced (t.Leave ∷ []) ∙ ap (λ ys. map begin ys ++ Made false leave ∷ []) put
    ∙ ap (λ ys. ys ++ Made false leave ∷ []) (map-set begin mid.tokens.items o.token (t.Enter o.is_image goal)) in
    let placed : set (shown_pieces entities text mid) o.token (Made false enter) ≡ before ++ Made false enter ∷ behind =
    ap (λ ys. set ys o.token (Made false enter)) mid_is ∙ set_at before (Made false word) behind (Made false enter) o.token (sym stands.3) in
    let new_is : shown_pieces entities text new ≡ (before ++ Made false enter ∷ behind) ++ Made false leave ∷ [] = ends ∙ ap (λ ys. ys ++ Made false leave ∷ []) placed in
    let events = subst (λ rs. AreEventsOf 0 (matches (drop o.runs rs)) (drop o.runs rs) settled.made) kept.runs settled.events in
    let now = settled.kept in
    record {
      kept = record {
        runs = ap (λ (v : Vec DelimiterRun Global). v.items) runs ∙ now.runs ∙ ap runs_of mid_is ∙ same_runs before behind word enter
            ∙ sym (ap runs_of new_is ∙ runs_append (before ++ Made false enter ∷ behind) (Made false leave ∷ []) ∙ append-nil (runs_of (before ++ Made false enter ∷ behind)));
        places = ap (λ (v : Vec ℕ Global). v.items) places ∙ now.places ∙ ap (λ ys. places_of ys 0) mid_is ∙ same_places before behind word enter
            ∙ sym (ap (λ ys. places_of ys 0) new_is ∙ places_append (before ++ Made false enter ∷ behind) (Made false leave ∷ []) 0 ∙ append-nil (places_of (before ++ Made false enter ∷ behind) 0));
        spans = subst (λ (v : Vec Begun Global). All (IsSpanned v.items) new.tokens.items) (sym begun)
            (subst (All (IsSpanned mid.begun.items)) (sym tokens)
            (All-push (IsSpanned mid.begun.items) replaced t.Leave
            (subst (All (IsSpanned mid.begun.items)) (sym put) (All-set (IsSpanned mid.begun.items) mid.tokens.items o.token (t.Enter o.is_image goal) tt now.spans)) tt));
      };
      shows = subst (λ os. Shows (reverse os) handed (shown_pieces entities text new) (linked (goal_target entities text goal) ps (nearest_opener ps))) (sym unused)
          (links (reverse old.openings.unused.items) handed xs (shown_pieces entities text new) ps settled.made o (goal_target entities text goal) events
          (ends ∙ ap (λ ys. set ys o.token (Made false enter) ++ Made false leave ∷ []) settled.shown) taken);
    }
