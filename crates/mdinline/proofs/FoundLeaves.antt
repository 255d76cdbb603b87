-- What was found at a place, by its parts.
use Rattle.std.proofs.Common.{◌≡◌, ℕ, ◌+◌, ◌-◌, List, ap, sym, subst, ◌∙◌, arith}
use Rattle.mdtext.specs.EntityTable.{EntityTable}
use Rattle.inlinespec.specs.InlineEvents.{Event}
use Rattle.inlinespec.specs.Lexemes.{Lexeme, leaf}
use Rattle.mdinline.specs.held.LeafEvents.{IsTokenOf, leaf_events}
use Rattle.mdinline.specs.held.Recognised.{lexeme_of, bracket_of, kind_of}
use Rattle.mdinline.specs.declared.bracket_stack.Bracket.{Bracket}
use Rattle.mdinline.specs.declared.bracket_stack.BracketKind.{BracketKind}
use Rattle.mdinline.specs.declared.scanner.Found.{Found}
use Rattle.mdinline.specs.declared.tokens.Token.{Token}

pub found_is : (entities : EntityTable) (text : List ℕ) (at end : ℕ) (found : Found) (token : Token) (es : List Event) → found.end ≡ end → found.token ≡ token →
    leaf_events entities text token ≡ es → lexeme_of entities text at found ≡ leaf (end - at) es
found_is entities text at end found token es e same is =
    ap (λ k. leaf (k - at) (leaf_events entities text found.token)) e ∙ ap (λ t. leaf (end - at) (leaf_events entities text t)) same ∙ ap (leaf (end - at)) is

pub token_kept : (text : List ℕ) (found : Found) (token : Token) → found.token ≡ token → IsTokenOf text token → IsTokenOf text found.token
token_kept text found token e h = subst (IsTokenOf text) (sym e) h

pub bracket_is : (at end size : ℕ) (bracket : Bracket) (kind : BracketKind) → bracket.end ≡ end → bracket.kind ≡ kind → end ≡ at + size → ◌≡◌ {A = Lexeme} (bracket_of at bracket) (record { size = size; kind = kind_of kind })
bracket_is at end size bracket kind e k is =
    ap {B = Lexeme} (λ n. record { size = n; kind = kind_of bracket.kind }) (let long : bracket.end - at ≡ size = omega (arith, e, is) in long) ∙ ap {B = Lexeme} (λ b. record { size = size; kind = kind_of b }) k
