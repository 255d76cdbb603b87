use Rattle.std.proofs.Common.{inl, inr}
use Rattle.mdtext.proofs.BareBrackets.{after_escaped, after_backslash, after_plain, at_bracket, at_end}
use Rattle.mdtext.proofs.labels.has_bare_bracket.Goals.{then-byte-eq91-via-then-byte-eq91, then-byte-eq91-via-else-byte-eq91+then-byte-eq93, then-is_escaped, else-is_escaped+then-byte-eq92, else-is_escaped+else-byte-eq92+else-byte-eq91+else-byte-eq93}
use Rattle.mdtext.proofs.labels.has_bare_bracket.Goals as goal

pub returns-then-byte-eq91 : goal.returns-then-byte-eq91
returns-then-byte-eq91 c =
    let v = c.as_bytes-byte-items.ensures.value in
    let here = rw c.if-is_escaped.false at c.loop-byte.invariant in
    let within = rw v at c.loop-byte-test.true in
    let other = rw v at c.if-byte-eq92.false in
    elim c.then-byte-eq91.branch [
      | then-byte-eq91-via-then-byte-eq91 w ↦ at_bracket _ _ _ within other (inl (rw v at w.if-byte-eq91.true)) here
      | then-byte-eq91-via-else-byte-eq91+then-byte-eq93 w ↦ at_bracket _ _ _ within other (inr (rw v at w.if-byte-eq93.true)) here
    ]

pub loop-byte-preserved : goal.loop-byte-preserved
loop-byte-preserved c =
    let v = c.as_bytes-byte-items.ensures.value in
    let within = rw v at c.loop-byte-test.true in
    elim c.if-is_escaped.branch [
      | then-is_escaped w ↦ rw w.is_escaped-is (after_escaped _ _ _ within (rw w.if-is_escaped.true at c.loop-byte.invariant))
      | else-is_escaped+then-byte-eq92 w ↦ rw w.is_escaped-is (after_backslash _ _ _ within (rw v at w.if-byte-eq92.true) (rw w.if-is_escaped.false at c.loop-byte.invariant))
      | else-is_escaped+else-byte-eq92+else-byte-eq91+else-byte-eq93 w ↦
          rw w.is_escaped-is (rw w.if-is_escaped.false (after_plain _ _ _ within (rw v at w.if-byte-eq92.false) (rw v at w.if-byte-eq91.false) (rw v at w.if-byte-eq93.false) (rw w.if-is_escaped.false at c.loop-byte.invariant)))
    ]

pub returns : goal.returns
returns c = at_end _ _ _ _ (rw c.as_bytes-byte-items.ensures.value at c.loop-byte-test.false) c.loop-byte.invariant
