-- When a line is a heading.
use Rattle.std.proofs.Common.{◌≡◌, ℕ, ◌-◌, ◌<◌, ◌≤◌, ◌==◌, true, List, length, take, drop, Option, Some, arith, subst, sym}
use Rattle.std.proofs.lemmas.Grind.{common_steps}
use Rattle.std.proofs.lemmas.List.{take_rest}
use Rattle.std.specs.List.{prefix_len}
use Rattle.mdscan.specs.declared.spans.Span.{Span}
use Rattle.mdscan.specs.declared.atx_headings.AtxLine.{AtxLine}
use Rattle.mdscan.specs.AtxHeading.{atx_heading, heading_content}
use Rattle.mdscan.specs.Blanks.{ends_or_blank}

heading_of : (line : List ℕ) (content : Span) → 0 < prefix_len (λ b. b == 35) line → prefix_len (λ b. b == 35) line ≤ 6 → true ≡ ends_or_blank (drop (prefix_len (λ b. b == 35) line) line) → content ≡ heading_content line (prefix_len (λ b. b == 35) line) → ◌≡◌ {A = Option AtxLine} (Some (record { level = prefix_len (λ b. b == 35) line; content = content })) (atx_heading line)
unfolding atx_heading
heading_of line content some few ends is = grind (arith, common_steps)

-- where line holds the bytes of the rest
pub atx_is : (rest line : List ℕ) (level : ℕ) (content : Span) → line ≡ rest → level ≡ prefix_len (λ b. b == 35) line → 0 < level → level ≤ 6 → true ≡ ends_or_blank (take (length line - level) (drop level line)) → content ≡ heading_content rest level → ◌≡◌ {A = Option AtxLine} (Some (record { level = level; content = content })) (atx_heading rest)
atx_is rest line level content same e some few ends is =
    let count = subst (λ (t : List ℕ). level ≡ prefix_len (λ b. b == 35) t) same e in
    let after = subst (λ (t : List ℕ). true ≡ ends_or_blank (drop level t)) same (subst (λ (t : List ℕ). true ≡ ends_or_blank t) (take_rest line level) ends) in
    let Heading : ℕ → Type 0 = λ n. 0 < n → n ≤ 6 → true ≡ ends_or_blank (drop n rest) → content ≡ heading_content rest n → ◌≡◌ {A = Option AtxLine} (Some (record { level = n; content = content })) (atx_heading rest) in
    subst Heading (sym count) (heading_of rest content) some few after is
