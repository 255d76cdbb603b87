-- The definitions at the front of a text, one by one.
use Rattle.std.proofs.Common.{◌≡◌, ℕ, zero, suc, ◌+◌, ◌-◌, ◌<◌, ◌≤◌, List, [], ◌∷◌, ◌++◌, length, drop, map, Option, Some, None, refl, ap, sym, ◌∙◌, subst, arith, append_assoc, append-nil}
use Rattle.std.specs.List.{sum_by}
use Rattle.std.specs.Str.{IsCharBoundary}
use Rattle.std.proofs.lemmas.Str.{IsCharBoundary-from_rest}
use Rattle.std.proofs.lemmas.List.{drop-drop}
use Rattle.std.proofs.lemmas.List.Sums.{sum_by-cons}
use Rattle.mdtext.specs.EntityTable.{EntityTable}
use Rattle.mdscan.specs.declared.link_definitions.Def.{Def}
use Rattle.mdscan.specs.LinkDefinition.{definition_of}
use Rattle.mdleaf.specs.DefinedLinks.{LinkDefinition}
use Rattle.mdleaf.specs.ParagraphDefinitions.{Front, fronts_after, fronts, front_then, defined, leading_of, leading_end}

-- after some bytes of a definition the rest of it is passed
passed : (text : List ℕ) (n : ℕ) → n ≤ length text → fronts_after n text ≡ fronts_after 0 (drop n text)
passed [] zero h = refl
passed [] (suc n) h = absurd (omega arith)
passed (b ∷ bs) zero h = refl
passed (b ∷ bs) (suc n) h = passed bs n (omega arith)

one_more : (text : List ℕ) (def : Def) → definition_of text ≡ Some def → 0 < def.end → def.end ≤ length text → fronts text ≡ (record { text = text; def = def }) ∷ fronts (drop def.end text)
unfolding fronts
one_more [] def e some within = absurd (omega arith)
one_more (b ∷ bs) def e some within =
    let n : ℕ = def.end - 1 in
    let m : def.end ≡ suc n = omega arith in
    let d : drop n bs ≡ drop def.end (b ∷ bs) = ap (λ (k : ℕ). drop k (b ∷ bs)) (sym m) in
    let first : Front = record { text = b ∷ bs; def = def } in
    ap (λ (found : Option Def). front_then (b ∷ bs) found (λ inside. fronts_after inside bs)) e
    ∙ ap (λ (fs : List Front). first ∷ fs) (passed bs n (omega arith) ∙ ap (λ (t : List ℕ). fronts_after 0 t) d)

no_more : (text : List ℕ) → definition_of text ≡ None → fronts text ≡ []
unfolding fronts
no_more [] e = refl
no_more (b ∷ bs) e = ap (λ (found : Option Def). front_then (b ∷ bs) found (λ inside. fronts_after inside bs)) e

-- at a place of a text: rest is what stands from there on
found_at : (text rest : List ℕ) (def : Def) (at : ℕ) → rest ≡ drop at text → Some def ≡ definition_of rest → 0 < def.end → def.end ≤ length rest
    → fronts rest ≡ (record { text = rest; def = def }) ∷ fronts (drop (at + def.end) text)
found_at text rest def at same found some within =
    let d : drop def.end rest ≡ drop (at + def.end) text = ap (λ (t : List ℕ). drop def.end t) same ∙ drop-drop def.end at text in
    let first : Front = record { text = rest; def = def } in
    one_more rest def (sym found) some within ∙ ap (λ (t : List ℕ). first ∷ fronts t) d

-- what is defined so far and by the rest is defined by all
pub define_one : (table : EntityTable) (text rest : List ℕ) (def : Def) (at : ℕ) (so_far more all : List LinkDefinition) (one : LinkDefinition) → rest ≡ drop at text → Some def ≡ definition_of rest → 0 < def.end → def.end ≤ length rest
    → one ≡ defined table rest def → more ≡ so_far ++ one ∷ [] → so_far ++ leading_of table (drop at text) ≡ all → more ++ leading_of table (drop (at + def.end) text) ≡ all
unfolding leading_of
define_one table text rest def at so_far more all one same found some within is e whole =
    let later = leading_of table (drop (at + def.end) text) in
    let f = ap (λ (fs : List Front). map (λ front. defined table front.text front.def) fs) (found_at text rest def at same found some within) in
    ap (λ (xs : List LinkDefinition). xs ++ later) e
    ∙ append_assoc so_far (one ∷ []) later
    ∙ ap (λ (x : LinkDefinition). so_far ++ x ∷ later) is
    ∙ ap (λ (xs : List LinkDefinition). so_far ++ xs) (sym f)
    ∙ ap (λ (t : List ℕ). so_far ++ leading_of table t) same ∙ whole

pub define_none : (table : EntityTable) (text rest : List ℕ) (at : ℕ) (so_far all : List LinkDefinition) → rest ≡ drop at text → None ≡ definition_of rest → so_far ++ leading_of table (drop at text) ≡ all → so_far ≡ all
unfolding leading_of
define_none table text rest at so_far all same none whole =
    sym (append-nil so_far) ∙ ap (λ (fs : List Front). so_far ++ map (λ front. defined table front.text front.def) fs) (sym (no_more rest (sym none)))
    ∙ ap (λ (t : List ℕ). so_far ++ leading_of table t) same ∙ whole

-- where those so far end and how many bytes the rest take is where all end
pub pass_one : (text rest : List ℕ) (def : Def) (at all : ℕ) → rest ≡ drop at text → Some def ≡ definition_of rest → 0 < def.end → def.end ≤ length rest
    → at + leading_end (drop at text) ≡ all → at + def.end + leading_end (drop (at + def.end) text) ≡ all
unfolding leading_end
pass_one text rest def at all same found some within whole =
    let later = fronts (drop (at + def.end) text) in
    let f : leading_end rest ≡ def.end + leading_end (drop (at + def.end) text) =
    ap (λ (fs : List Front). sum_by (λ front. front.def.end) fs) (found_at text rest def at same found some within) ∙ sum_by-cons (λ (front : Front). front.def.end) (record { text = rest; def = def }) later in
    let g : leading_end rest ≡ leading_end (drop at text) = ap leading_end same in
    omega arith

pub pass_none : (text rest : List ℕ) (at all : ℕ) → rest ≡ drop at text → None ≡ definition_of rest → at + leading_end (drop at text) ≡ all → at ≡ all
unfolding leading_end
pass_none text rest at all same none whole =
    let f : leading_end rest ≡ 0 = ap (λ (fs : List Front). sum_by (λ front. front.def.end) fs) (no_more rest (sym none)) in
    let g : leading_end rest ≡ leading_end (drop at text) = ap leading_end same in
    omega arith

-- a place in the rest is a place in the text
pub cut_in_rest : (text rest : List ℕ) (at n : ℕ) → rest ≡ drop at text → IsCharBoundary text at → IsCharBoundary rest n → IsCharBoundary text (at + n)
cut_in_rest text rest at n same b h = IsCharBoundary-from_rest text at n b.0 (subst (λ (t : List ℕ). IsCharBoundary t n) same h)
