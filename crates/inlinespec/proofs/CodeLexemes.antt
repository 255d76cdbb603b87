-- What a backtick string is by the next one of its length.
use Rattle.std.proofs.Common.{◌≡◌, ℕ, ◌+◌, ◌-◌, ◌<◌, ◌≤◌, false, ◌==◌, List, [], ◌∷◌, length, take, drop, get_or, length-take, length-drop, Option, Some, None, option_map, refl, ap, sym, ◌∙◌, subst, arith}
use Rattle.std.specs.List.{prefix_len, slice_range}
use Rattle.std.proofs.lemmas.List.{drop-drop}
use Rattle.mdscan.specs.Blanks.{begins_with}
use Rattle.inlinespec.specs.CodeSpans.{backticks, before_backticks, code_content, code_inside, code_lexeme}
use Rattle.inlinespec.specs.InlineEvents.{CodeSpan, written}
use Rattle.inlinespec.specs.Lexemes.{leaf, as_written}
use Rattle.inlinespec.proofs.BacktickPlaces.{length_here, behind_string}

inside_is : (text : List ℕ) (at : ℕ) → code_inside (drop at text) ≡ option_map (λ k. take k (drop (at + backticks (drop at text)) text)) (before_backticks false (backticks (drop at text)) (drop (at + backticks (drop at text)) text))
unfolding code_inside
inside_is text at = ap (λ l. option_map (λ k. take k l) (before_backticks false (backticks (drop at text)) l)) (drop-drop (backticks (drop at text)) at text)

unmap : (start place : ℕ) (o : Option ℕ) → Some place ≡ option_map (λ k. start + k) o → o ≡ Some (place - start)
unmap start place None e = cc
unmap start place (Some k) e = ap Some (let f : place ≡ start + k = grind (arith, e) in let g : k ≡ place - start = omega (arith, f) in g)

unmap_none : (start : ℕ) (o : Option ℕ) → None ≡ option_map (λ k. start + k) o → o ≡ None
unmap_none start None e = refl
unmap_none start (Some k) e = cc

-- the bytes behind the string at a place
module _ (text line : List ℕ) (at start : ℕ) (same : line ≡ text) (inside : at < length text) (first : get_or text at 0 ≡ 96)
    (is : start ≡ at + 1 + prefix_len (λ b. b == 96) (drop (at + 1) line)) where
  abbrev n : ℕ
  n = backticks (drop at text)

  size_is : start ≡ at + n
  size_is =
      let long = length_here text at inside first in
      let there : start ≡ at + 1 + backticks (drop (at + 1) text) = subst (λ t. start ≡ at + 1 + backticks (drop (at + 1) t)) same is in
      omega (arith, long, there)

  pub some_ticks : 0 < start - at
  some_ticks = omega (arith, is)

  pub closed_behind : begins_with 96 (drop start line) ≡ false
  closed_behind =
      ap (λ t. begins_with 96 (drop start t)) same ∙ ap (λ k. begins_with 96 (drop k text)) size_is ∙ behind_string text at (omega (arith, inside))

  ahead : before_backticks false (start - at) (drop start line) ≡ before_backticks false n (drop (at + n) text)
  ahead =
      let size : start - at ≡ n = omega (arith, size_is) in
      ap (λ t. before_backticks false (start - at) (drop start t)) same
      ∙ ap (λ k. before_backticks false k (drop start text)) size ∙ ap (λ k. before_backticks false n (drop k text)) size_is

  pub found_code : (from end : ℕ) → Some from ≡ option_map (λ k. start + k) (before_backticks false (start - at) (drop start line)) → start ≤ from → from ≤ length text → end ≡ from + (start - at) →
      code_lexeme (drop at text) (code_inside (drop at text)) ≡ leaf (end - at) (CodeSpan (code_content (slice_range text start from)) ∷ [])
  found_code from end found later within ends =
      let place : before_backticks false n (drop (at + n) text) ≡ Some (from - start) = sym ahead ∙ unmap start from _ found in
      let part : code_inside (drop at text) ≡ Some (slice_range text start from) =
      inside_is text at ∙ ap (option_map (λ k. take k (drop (at + n) text))) place ∙ ap (λ k. Some (take (from - start) (drop k text))) (sym size_is) in
      let long : length (slice_range text start from) ≡ from - start = omega (arith, length-take (from - start) (drop start text), length-drop start text, later, within) in
      let size : n + length (slice_range text start from) + n ≡ end - at = omega (arith, long, size_is, later, ends) in
      ap (code_lexeme (drop at text)) part ∙ ap (λ k. leaf k (CodeSpan (code_content (slice_range text start from)) ∷ [])) size

  pub missed_code : None ≡ option_map (λ k. start + k) (before_backticks false (start - at) (drop start line)) →
      code_lexeme (drop at text) (code_inside (drop at text)) ≡ leaf (start - at) (written (slice_range text at start))
  missed_code none =
      let place : before_backticks false n (drop (at + n) text) ≡ None = sym ahead ∙ unmap_none start _ none in
      let part : code_inside (drop at text) ≡ None = inside_is text at ∙ ap (option_map (λ k. take k (drop (at + n) text))) place in
      let size : n ≡ start - at = omega (arith, size_is) in
      ap (code_lexeme (drop at text)) part ∙ ap (λ k. as_written k (drop at text)) size
