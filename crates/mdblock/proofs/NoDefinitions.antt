-- A text that begins with no bracket has no definitions at its front.
use Rattle.std.proofs.Common.{◌≡◌, ℕ, false, List, [], ◌∷◌, ◌++◌, None, drop, refl, sym, ap, ◌∙◌, append-nil}
use Rattle.mdtext.specs.EntityTable.{EntityTable}
use Rattle.mdscan.specs.Blanks.{begins_with}
use Rattle.mdscan.specs.LinkDefinition.{definition_of}
use Rattle.mdscan.specs.LinkLabel.{label_at}
use Rattle.mdleaf.specs.ParagraphDefinitions.{fronts, leading_end, leading_of}
use Rattle.mdleaf.specs.DefinedLinks.{LinkDefinition}
use Rattle.mdleaf.specs.ParagraphText.{behind_definitions}

no_label : (text : List ℕ) → begins_with 91 text ≡ false → label_at text 0 ≡ None
unfolding label_at
no_label text h = rw h refl

no_definition : (text : List ℕ) → begins_with 91 text ≡ false → definition_of text ≡ None
unfolding definition_of
no_definition text h = rw (no_label text h) refl

no_fronts : (text : List ℕ) → begins_with 91 text ≡ false → fronts text ≡ []
unfolding fronts
no_fronts [] h = refl
no_fronts (b ∷ rest) h = rw (no_definition (b ∷ rest) h) refl

none_lead : (entities : EntityTable) (text : List ℕ) → begins_with 91 text ≡ false → leading_of entities text ≡ []
unfolding leading_of
none_lead entities text h = rw (no_fronts text h) refl

no_end : (text : List ℕ) → begins_with 91 text ≡ false → leading_end text ≡ 0
unfolding leading_end
no_end text h = rw (no_fronts text h) refl

pub all_left : (text : List ℕ) → begins_with 91 text ≡ false → text ≡ behind_definitions text
all_left text h = ap (λ n. drop n text) (sym (no_end text h))

pub none_found : (entities : EntityTable) (text : List ℕ) (known : List LinkDefinition) → begins_with 91 text ≡ false → known ≡ known ++ leading_of entities text
none_found entities text known h = sym (append-nil known) ∙ ap (λ z. known ++ z) (sym (none_lead entities text h))
