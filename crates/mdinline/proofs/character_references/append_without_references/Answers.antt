use Rattle.std.proofs.Common.{◌++◌, ap, ◌∙◌, arith, string_bytes}
use Rattle.std.proofs.lemmas.Str.Pattern.{split_parts}
use Rattle.mdtext.specs.Unescaped.{added}
use Rattle.mdtext.specs.CharacterReferences.{reference, reference_or}
use Rattle.inlinespec.specs.CharacterReferences.{without_references}
use Rattle.inlinespec.proofs.ReplacedReferences.{write_last, write_part}
use Rattle.mdinline.proofs.character_references.append_without_references.Goals as goal

pub returns : goal.returns
returns c =
    let none = rw c.in_default.is at (split_parts 38 c.loop-plain.rest.now _ c.split_once.ensures.cases (omega arith)) in
    c.in_ok-push_str-2.ensures.bytes ∙ write_last c.args.entities.now (string_bytes c.loop-plain.out) c.loop-plain.rest.now (string_bytes c.args.out.now ++ without_references c.args.entities.now 0 c.args.text.now) none c.loop-plain.invariant.written

pub loop-plain-preserved : goal.loop-plain-preserved
loop-plain-preserved c =
    let parts = rw c.in-Some.is at (split_parts 38 c.loop-plain.rest.now _ c.split_once.ensures.cases (omega arith)) in
    let table = c.args.entities.now in
    let out = string_bytes c.loop-plain.out ++ c.in-Some.plain.now in
    let meant = ap (λ t. added t (reference_or 38 (reference table c.in-Some.after.now))) c.in_ok-push_str.ensures.bytes in
    record {
      text = c.range_from-rest.utf8;
      written = ap (λ t. string_bytes c.push_reference.new.out ++ without_references table 0 t) c.range_from-rest.ensures.value
          ∙ write_part table (string_bytes c.loop-plain.out) c.in-Some.plain.now c.in-Some.after.now c.loop-plain.rest.now (string_bytes c.args.out.now ++ without_references table 0 c.args.text.now) (string_bytes c.push_reference.new.out) c.in_ok-taken.taken
          parts.1 parts.0 (c.in_ok-taken.ensures.ok ∙ meant) c.loop-plain.invariant.written;
    }
