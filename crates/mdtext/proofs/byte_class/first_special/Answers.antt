use Rattle.std.proofs.Common.{arith, ap, ◌∙◌}
use Rattle.std.specs.List.{position_or_len}
use Rattle.mdtext.specs.ByteClass.{in_class}
use Rattle.mdtext.proofs.FirstPlaces.{only, both}
use Rattle.mdtext.proofs.byte_class.first_special.Goals as goal

pub returns-in-len1 : goal.returns-in-len1
returns-in-len1 c =
    c.first_of_one.ensures ∙ ap (λ l. position_or_len (in_class l) c.args.bytes.now) (only _ (omega arith) ∙ c.as_slice.ensures)

pub returns-in-len2 : goal.returns-in-len2
returns-in-len2 c =
    c.first_of_two.ensures ∙ ap (λ l. position_or_len (in_class l) c.args.bytes.now) (both _ (omega arith) ∙ c.as_slice.ensures)
