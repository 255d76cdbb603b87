-- What is kept, as pieces, when a token is added, taken or paired.
use Rattle.std.proofs.Common.{◌≡◌, ℕ, ◌+◌, Bool, true, false, Option, Some, None, IfSome, MatchOption, List, [], ◌∷◌, ◌++◌, All, length, reverse, refl, ap, sym, ◌∙◌, subst, arith, append-nil}
use Rattle.std.proofs.lemmas.List.{length-map, map-append, reverse-append}
use Rattle.std.proofs.lemmas.List.Elements.{All-push}
use Rattle.mdtext.specs.EntityTable.{EntityTable}
use Rattle.mdpair.specs.declared.delimiter_runs.DelimiterRun.{DelimiterRun}
use Rattle.inlinespec.specs.InlineEvents.{Event}
use Rattle.inlinespec.specs.Pieces.{Piece, Made, Run, Opening, bracket_text}
use Rattle.inlinespec.specs.Emphasis.{runs_of}
use Rattle.inlinespec.specs.TextReading.{spent}
use Rattle.mdinline.specs.declared.bracket_stack.Opening as held
use Rattle.mdinline.specs.declared.pending.Pending.{Pending}
use Rattle.mdinline.specs.declared.tokens.Begun.{Begun}
use Rattle.mdinline.specs.declared.tokens.Token.{Token}
use Rattle.mdinline.specs.declared.tokens.Token.TheVariants as t
use Rattle.mdinline.specs.held.LeafEvents.{leaf_events}
use Rattle.mdinline.specs.held.ReadMarks.{marks_back, ones, places_of}
use Rattle.mdinline.specs.held.ReadPending.{HoldsPieces, HoldsTaken, IsKept, IsSpanned, is_leaf, shown_by, shown_pieces, token_piece}
use Rattle.mdinline.specs.held.ReadState.{Shows}
use Rattle.mdinline.specs.held.UnusedOpeners.{openers}
use Rattle.mdinline.proofs.NearestOpeners.{nothing_spent}
use Rattle.mdinline.proofs.ReadMarks.{places_append, runs_append}
use Rattle.mdinline.proofs.ReadState.{grown, opened, spends}

no_leaf : false ≡ true → ⊥
no_leaf e = cc

pub leaf_piece : (entities : EntityTable) (text : List ℕ) (begun : List Begun) (token : Token) → is_leaf token ≡ true → token_piece entities text begun token ≡ Made false (leaf_events entities text token)
leaf_piece entities text begun (t.Plain span) e = refl
leaf_piece entities text begun (t.Text span) e = refl
leaf_piece entities text begun (t.Meaning referent) e = refl
leaf_piece entities text begun (t.Code span) e = refl
leaf_piece entities text begun (t.Html span) e = refl
leaf_piece entities text begun (t.Autolink span) e = refl
leaf_piece entities text begun (t.MailAutolink span) e = refl
leaf_piece entities text begun t.SoftBreak e = refl
leaf_piece entities text begun t.HardBreak e = refl
leaf_piece entities text begun (t.Bracket image) e = absurd (no_leaf e)
leaf_piece entities text begun (t.Run run) e = absurd (no_leaf e)
leaf_piece entities text begun (t.Paired run) e = absurd (no_leaf e)
leaf_piece entities text begun (t.Enter image goal) e = absurd (no_leaf e)
leaf_piece entities text begun t.Leave e = absurd (no_leaf e)

leaf_spanned : (begun : List Begun) (token : Token) → is_leaf token ≡ true → IsSpanned begun token
leaf_spanned begun (t.Plain span) e = tt
leaf_spanned begun (t.Text span) e = tt
leaf_spanned begun (t.Meaning referent) e = tt
leaf_spanned begun (t.Code span) e = tt
leaf_spanned begun (t.Html span) e = tt
leaf_spanned begun (t.Autolink span) e = tt
leaf_spanned begun (t.MailAutolink span) e = tt
leaf_spanned begun t.SoftBreak e = tt
leaf_spanned begun t.HardBreak e = tt
leaf_spanned begun (t.Bracket image) e = absurd (no_leaf e)
leaf_spanned begun (t.Run run) e = absurd (no_leaf e)
leaf_spanned begun (t.Paired run) e = absurd (no_leaf e)
leaf_spanned begun (t.Enter image goal) e = absurd (no_leaf e)
leaf_spanned begun t.Leave e = absurd (no_leaf e)

-- one token more

pub record AddsMade (entities : EntityTable) (text : List ℕ) (old new : Pending) (es : List Event) : Type 0 where
  pub kept : IsKept entities text new
  pub shown : shown_pieces entities text new ≡ shown_pieces entities text old ++ Made false es ∷ []

pub adds_made : (entities : EntityTable) (text : List ℕ) (old new : Pending) (token : Token) (es : List Event) → new.tokens.items ≡ old.tokens.items ++ token ∷ [] →
    new.runs.items ≡ old.runs.items → new.places.items ≡ old.places.items → new.begun.items ≡ old.begun.items → token_piece entities text old.begun.items token ≡ Made false es →
    IsSpanned old.begun.items token → IsKept entities text old → AddsMade entities text old new es
adds_made entities text old new token es tokens runs places begun piece spanned h =
    let ps = shown_pieces entities text old in
    let shown : shown_pieces entities text new ≡ ps ++ Made false es ∷ [] =
    ap (λ bs. shown_by entities text bs new.tokens.items) begun ∙ ap (shown_by entities text old.begun.items) tokens
    ∙ map-append (token_piece entities text old.begun.items) old.tokens.items (token ∷ []) ∙ ap (λ p. ps ++ p ∷ []) piece in
    record {
      kept = record {
        runs = runs ∙ h.runs ∙ sym (ap runs_of shown ∙ runs_append ps (Made false es ∷ []) ∙ append-nil (runs_of ps));
        places = places ∙ h.places ∙ sym (ap (λ xs. places_of xs 0) shown ∙ places_append ps (Made false es ∷ []) 0 ∙ append-nil (places_of ps 0));
        spans = subst (λ bs. All (IsSpanned bs) new.tokens.items) (sym begun) (subst (All (IsSpanned old.begun.items)) (sym tokens) (All-push (IsSpanned old.begun.items) old.tokens.items token h.spans spanned));
      };
      shown = shown;
    }

module _ (entities : EntityTable) (text : List ℕ) (handed : List Event) (old new : Pending) (ps : List Piece) (h : HoldsPieces entities text handed old ps) where
  pub holds_leaf : (token : Token) (qs : List Piece) → is_leaf token ≡ true → openers qs ≡ [] → ones (leaf_events entities text token) ≡ marks_back qs → new.tokens.items ≡ old.tokens.items ++ token ∷ [] →
      new.runs.items ≡ old.runs.items → new.places.items ≡ old.places.items → new.begun.items ≡ old.begun.items → new.openings.unused.items ≡ old.openings.unused.items → HoldsPieces entities text handed new (qs ++ ps)
  holds_leaf token qs leaf quiet same tokens runs places begun unused =
      let es = leaf_events entities text token in
      let more = adds_made entities text old new token es tokens runs places begun (leaf_piece entities text old.begun.items token leaf) (leaf_spanned old.begun.items token leaf) h.kept in
      record {
        kept = more.kept;
        shows = subst (λ os. Shows (reverse os) handed (shown_pieces entities text new) (qs ++ ps)) (sym unused)
            (subst (λ xs. Shows (reverse old.openings.unused.items) handed xs (qs ++ ps)) (sym more.shown)
            (grown (reverse old.openings.unused.items) handed (shown_pieces entities text old) ps (Made false es ∷ []) qs quiet (append-nil (ones es) ∙ same) h.shows));
      }

  pub holds_run : (run : DelimiterRun) → new.tokens.items ≡ old.tokens.items ++ t.Run run ∷ [] → new.runs.items ≡ old.runs.items ++ run ∷ [] → new.places.items ≡ old.places.items ++ length old.tokens.items ∷ [] →
      new.begun.items ≡ old.begun.items → new.openings.unused.items ≡ old.openings.unused.items → HoldsPieces entities text handed new (Run run ∷ ps)
  holds_run run tokens runs places begun unused =
      let xs = shown_pieces entities text old in
      let kept = h.kept in
      let shown : shown_pieces entities text new ≡ xs ++ Run run ∷ [] =
      ap (λ bs. shown_by entities text bs new.tokens.items) begun ∙ ap (shown_by entities text old.begun.items) tokens ∙ map-append (token_piece entities text old.begun.items) old.tokens.items (t.Run run ∷ []) in
      let long : length old.tokens.items ≡ 0 + length xs = sym (length-map old.tokens.items (token_piece entities text old.begun.items)) ∙ (let e : length xs ≡ 0 + length xs = omega arith in e) in
      record {
        kept = record {
          runs = runs ∙ ap (λ rs. rs ++ run ∷ []) kept.runs ∙ sym (ap runs_of shown ∙ runs_append xs (Run run ∷ []));
          places = places ∙ ap (λ ks. ks ++ length old.tokens.items ∷ []) kept.places ∙ ap (λ k. places_of xs 0 ++ k ∷ []) long ∙ sym (ap (λ ys. places_of ys 0) shown ∙ places_append xs (Run run ∷ []) 0);
          spans = subst (λ bs. All (IsSpanned bs) new.tokens.items) (sym begun) (subst (All (IsSpanned old.begun.items)) (sym tokens) (All-push (IsSpanned old.begun.items) old.tokens.items (t.Run run) kept.spans tt));
        };
        shows = subst (λ os. Shows (reverse os) handed (shown_pieces entities text new) (Run run ∷ ps)) (sym unused)
            (subst (λ ys. Shows (reverse old.openings.unused.items) handed ys (Run run ∷ ps)) (sym shown)
            (grown (reverse old.openings.unused.items) handed xs ps (Run run ∷ []) (Run run ∷ []) refl refl h.shows));
      }

  pub holds_open : (o : held.Opening) → o.token ≡ length old.tokens.items → o.runs ≡ length old.runs.items → new.tokens.items ≡ old.tokens.items ++ t.Bracket o.is_image ∷ [] →
      new.runs.items ≡ old.runs.items → new.places.items ≡ old.places.items → new.begun.items ≡ old.begun.items → new.openings.unused.items ≡ old.openings.unused.items ++ o ∷ [] →
      HoldsPieces entities text handed new (Opening o.is_image o.begin ∷ ps)
  holds_open o place count tokens runs places begun unused =
      let xs = shown_pieces entities text old in
      let kept = h.kept in
      let es = bracket_text o.is_image in
      let more = adds_made entities text old new (t.Bracket o.is_image) es tokens runs places begun refl tt h.kept in
      let turned : reverse new.openings.unused.items ≡ o ∷ reverse old.openings.unused.items = ap reverse unused ∙ reverse-append old.openings.unused.items (o ∷ []) in
      record {
        kept = more.kept;
        shows = subst (λ os. Shows os handed (shown_pieces entities text new) (Opening o.is_image o.begin ∷ ps)) (sym turned)
            (subst (λ ys. Shows (o ∷ reverse old.openings.unused.items) handed ys (Opening o.is_image o.begin ∷ ps)) (sym more.shown)
            (opened (reverse old.openings.unused.items) handed xs ps o (place ∙ sym (length-map old.tokens.items (token_piece entities text old.begun.items))) (count ∙ ap (λ rs. length rs) kept.runs) h.shows));
      }

  -- a bracket is taken

  pub kept_same : new.tokens.items ≡ old.tokens.items → new.runs.items ≡ old.runs.items → new.places.items ≡ old.places.items → new.begun.items ≡ old.begun.items → IsKept entities text new × (shown_pieces entities text new ≡ shown_pieces entities text old)
  kept_same tokens runs places begun =
      let kept = h.kept in
      let shown : shown_pieces entities text new ≡ shown_pieces entities text old =
      ap (λ bs. shown_by entities text bs new.tokens.items) begun ∙ ap (shown_by entities text old.begun.items) tokens in (
        record {
          runs = runs ∙ kept.runs ∙ sym (ap runs_of shown);
          places = places ∙ kept.places ∙ sym (ap (λ ys. places_of ys 0) shown);
          spans = subst (λ bs. All (IsSpanned bs) new.tokens.items) (sym begun) (subst (All (IsSpanned old.begun.items)) (sym tokens) kept.spans);
        },
        shown,
      )

  pub holds_taken : (o : held.Opening) → new.tokens.items ≡ old.tokens.items → new.begun.items ≡ old.begun.items → old.openings.unused.items ≡ new.openings.unused.items ++ o ∷ [] → HoldsTaken entities text handed o new ps
  holds_taken o tokens begun unused =
      let shown : shown_pieces entities text new ≡ shown_pieces entities text old =
      ap (λ bs. shown_by entities text bs new.tokens.items) begun ∙ ap (shown_by entities text old.begun.items) tokens in
      let turned : reverse old.openings.unused.items ≡ o ∷ reverse new.openings.unused.items = ap reverse unused ∙ reverse-append new.openings.unused.items (o ∷ []) in
      subst (λ xs. Shows (o ∷ reverse new.openings.unused.items) handed xs ps) (sym shown) (subst (λ os. Shows os handed (shown_pieces entities text old) ps) turned h.shows)

  pub holds_spent : (o : held.Opening) → new.tokens.items ≡ old.tokens.items → new.runs.items ≡ old.runs.items → new.places.items ≡ old.places.items → new.begun.items ≡ old.begun.items →
      old.openings.unused.items ≡ new.openings.unused.items ++ o ∷ [] → HoldsPieces entities text handed new (spent ps)
  holds_spent o tokens runs places begun unused = record {
    kept = (kept_same tokens runs places begun).0;
    shows = spends (reverse new.openings.unused.items) handed (shown_pieces entities text new) ps o (holds_taken o tokens begun unused);
  }

  pub holds_none : old.openings.unused.items ≡ [] → new.openings.unused.items ≡ old.openings.unused.items → new.tokens.items ≡ old.tokens.items → new.runs.items ≡ old.runs.items →
      new.places.items ≡ old.places.items → new.begun.items ≡ old.begun.items → HoldsPieces entities text handed new (spent ps)
  holds_none empty unused tokens runs places begun =
      let same = kept_same tokens runs places begun in
      let none : Shows [] handed (shown_pieces entities text old) ps = subst (λ os. Shows (reverse os) handed (shown_pieces entities text old) ps) empty h.shows in
      record {
        kept = same.0;
        shows = subst (λ os. Shows (reverse os) handed (shown_pieces entities text new) (spent ps)) (sym unused)
            (subst (λ os. Shows (reverse os) handed (shown_pieces entities text new) (spent ps)) (sym empty)
            (subst (λ xs. Shows [] handed xs (spent ps)) (sym same.1) (subst (λ qs. Shows [] handed (shown_pieces entities text old) qs) (sym (nothing_spent ps none.0)) none)));
      }

  pub holds_after : (r : Option (held.Opening × Bool)) → MatchOption r (new.openings.unused.items ≡ old.openings.unused.items) (λ taken. old.openings.unused.items ≡ new.openings.unused.items ++ taken.0 ∷ []) →
      (r ≡ None → old.openings.unused.items ≡ []) → new.tokens.items ≡ old.tokens.items → new.runs.items ≡ old.runs.items → new.places.items ≡ old.places.items → new.begun.items ≡ old.begun.items →
      HoldsPieces entities text handed new (spent ps)
  holds_after None unused empty tokens runs places begun = holds_none (empty refl) unused tokens runs places begun
  holds_after (Some taken) unused empty tokens runs places begun = holds_spent taken.0 tokens runs places begun unused

  pub still_there : (r : Option (held.Opening × Bool)) → MatchOption r (new.openings.unused.items ≡ old.openings.unused.items) (λ taken. old.openings.unused.items ≡ new.openings.unused.items ++ taken.0 ∷ []) →
      new.tokens.items ≡ old.tokens.items → new.begun.items ≡ old.begun.items → IfSome r (λ taken. HoldsTaken entities text handed taken.0 new ps)
  still_there None unused tokens begun = tt
  still_there (Some taken) unused tokens begun = holds_taken taken.0 tokens begun unused
