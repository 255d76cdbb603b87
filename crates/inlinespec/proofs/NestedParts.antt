-- A part of a tree is nested no deeper than the whole.
use Rattle.std.proofs.Common.{inl, inr, ◌≤◌, subst, arith}
use Rattle.inlinespec.specs.InlineTree.{Inline, Inlines, no_inlines, inline, text, code, raw, soft, hard, emph, strong, strike, link, image}
use Rattle.inlinespec.specs.Nesting.{nest, nest_of, IsPartOf, IsPartInside}

mutual
  unfolding nest IsPartOf

  pub no_deeper : (part whole : Inlines) → IsPartOf part whole → nest part ≤ nest whole
  no_deeper part no_inlines h = subst (λ (t : Inlines). nest part ≤ nest t) h (omega arith)
  no_deeper part (inline i is) (inl h) = subst (λ (t : Inlines). nest part ≤ nest t) h (omega arith)
  no_deeper part (inline i is) (inr (inl h)) = let less = inside_no_deeper part i h in omega arith
  no_deeper part (inline i is) (inr (inr h)) = let less = no_deeper part is h in omega arith

  inside_no_deeper : (part : Inlines) (i : Inline) → IsPartInside part i → nest part ≤ nest_of i
  inside_no_deeper part (emph inside) h = let less = no_deeper part inside h in omega arith
  inside_no_deeper part (strong inside) h = let less = no_deeper part inside h in omega arith
  inside_no_deeper part (strike inside) h = let less = no_deeper part inside h in omega arith
  inside_no_deeper part (link url title inside) h = let less = no_deeper part inside h in omega arith
  inside_no_deeper part (image url title inside) h = let less = no_deeper part inside h in omega arith
  inside_no_deeper part (text s) h = absurd h
  inside_no_deeper part (code s) h = absurd h
  inside_no_deeper part (raw s) h = absurd h
  inside_no_deeper part soft h = absurd h
  inside_no_deeper part hard h = absurd h
