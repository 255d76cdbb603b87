-- Tokens that are handed out one after the other.
use Rattle.std.proofs.Common.{◌≡◌, ℕ, zero, suc, ◌+◌, ◌-◌, ◌<◌, List, [], ◌∷◌, ◌++◌, length, drop, replicate, Some, refl, ap, sym, ◌∙◌, arith, add-one, append_assoc, append-nil, drop-cons, get_or, ◌≤◌}
use Rattle.std.proofs.lemmas.List.{drop_all}
use Rattle.mdtext.specs.EntityTable.{EntityTable}
use Rattle.mdinline.specs.declared.tokens.Token.{Token}
use Rattle.std.specs.Prelude.{slice_get}
use Rattle.std.proofs.lemmas.List.{map-append}
use Rattle.inlinespec.specs.InlineEvents.{Event, Byte, Enter, written}
use Rattle.mdinline.specs.declared.tokens.Begun.{Begun}
use Rattle.mdinline.specs.held.LeafEvents.{and_inner, begun_events, token_events, tokens_events}
use Rattle.mdinline.specs.SpanKinds.{span_of}

behind : {X : Type 0} (n : ℕ) (x : X) → replicate n x ++ x ∷ [] ≡ x ∷ replicate n x
behind zero x = refl
behind (suc n) x = ap (λ xs. x ∷ xs) (behind n x)

pub replicate_next : {X : Type 0} (n : ℕ) (x : X) → replicate n x ++ x ∷ [] ≡ replicate (n + 1) x
replicate_next n x = behind n x ∙ ap (λ k. replicate k x) (let e : suc n ≡ n + 1 = omega arith in e)

pub written_next : (n b : ℕ) → written (replicate n b) ++ written (b ∷ []) ≡ written (replicate (n + 1) b)
written_next n b = sym (map-append (λ x. Byte x) (replicate n b) (b ∷ [])) ∙ ap written (replicate_next n b)

-- the outermost of the spans that are left, and those inside it
pub next_span : (begun : List Begun) (left place : ℕ) (b : Begun) (es all : List Event) → 0 < left → slice_get begun place ≡ Some b → es ++ begun_events begun left place ≡ all →
    (es ++ Enter (span_of b.kind) ∷ []) ++ begun_events begun (left - 1) b.inner ≡ all
next_span begun zero place b es all some e h = absurd (omega (arith, some))
next_span begun (suc n) place b es all some e h =
    append_assoc es (Enter (span_of b.kind) ∷ []) (begun_events begun (suc n - 1) b.inner)
    ∙ ap (λ k. es ++ Enter (span_of b.kind) ∷ begun_events begun k b.inner) (let k : suc n - 1 ≡ n = omega arith in k)
    ∙ sym (ap (λ o. es ++ and_inner (begun_events begun n) o) e) ∙ h

pub all_spans : (begun : List Begun) (left place : ℕ) (es all : List Event) → left ≡ 0 → es ++ begun_events begun left place ≡ all → es ≡ all
all_spans begun zero place es all e h = sym (append-nil es) ∙ h
all_spans begun (suc n) place es all e h = absurd (omega (arith, e))

-- the first of the tokens that are left
pub next_token : (entities : EntityTable) (text : List ℕ) (begun : List Begun) (tokens : List Token) (i : ℕ) (token : Token) (es all : List Event) → i < length tokens → token ≡ get_or tokens i token →
    es ++ tokens_events entities text begun (drop i tokens) ≡ all → (es ++ token_events entities text begun token) ++ tokens_events entities text begun (drop (i + 1) tokens) ≡ all
next_token entities text begun tokens i token es all lt is h =
    append_assoc es (token_events entities text begun token) (tokens_events entities text begun (drop (i + 1) tokens))
    ∙ ap (λ k. es ++ (token_events entities text begun token ++ tokens_events entities text begun (drop k tokens))) (add-one i)
    ∙ ap (λ t. es ++ (token_events entities text begun t ++ tokens_events entities text begun (drop (suc i) tokens))) is
    ∙ ap (λ ts. es ++ tokens_events entities text begun ts) (sym (drop-cons tokens i token lt)) ∙ h

pub all_tokens : (entities : EntityTable) (text : List ℕ) (begun : List Begun) (tokens : List Token) (i : ℕ) (es all : List Event) → length tokens ≤ i →
    es ++ tokens_events entities text begun (drop i tokens) ≡ all → es ≡ all
all_tokens entities text begun tokens i es all past h =
    sym (append-nil es) ∙ sym (ap (λ ts. es ++ tokens_events entities text begun ts) (drop_all i tokens past)) ∙ h
