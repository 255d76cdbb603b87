use Rattle.std.proofs.Common.{◌≡◌, Some, sym, ap, ◌∙◌, subst, drop, arith}
use Rattle.std.specs.Prelude.{slice_get}
use Rattle.std.specs.Option.{option_and_then}
use Rattle.mdpair.specs.Neighbours.{delimiter_of, run_length}
use Rattle.mdpair.proofs.RunEnds.{some_run, run_end, rest_of}
use Rattle.mdpair.proofs.flanking.delimiter_run.Goals as goal

pub range_from-requires : goal.range_from-requires
range_from-requires c =
    let same = c.as_bytes-bytes.ensures.value in
    let found = sym c.delimiter_at.ensures ∙ c.in_ok-delimiter.was in
    let here = subst (λ bs. option_and_then delimiter_of (slice_get bs c.args.at) ≡ Some c.in_ok-delimiter.delimiter) same found in
    let size = c.length_of-length.ensures.value ∙ ap (run_length c.in_ok-delimiter.delimiter) (rest_of c.as_bytes-bytes.result.now c.args.at) ∙ ap (λ bs. run_length c.in_ok-delimiter.delimiter (drop c.args.at bs)) same in
    λ _. run_end c.args.text.now c.args.at c.length_of-length.result c.in_ok-delimiter.delimiter c.utf8.text here size

pub returns-clause-some : goal.returns-clause-some
returns-clause-some c =
    let found = sym c.delimiter_at.ensures ∙ c.in_ok-delimiter.was in
    omega (
      arith,
      c.run_between.ensures.length,
      some_run c.as_bytes-bytes.result.now c.args.at c.in_ok-delimiter.delimiter found,
      c.length_of-length.ensures.value ∙ ap (run_length c.in_ok-delimiter.delimiter) (rest_of c.as_bytes-bytes.result.now c.args.at),
    )

pub returns-clause-boundary : goal.returns-clause-boundary
returns-clause-boundary c =
    let same = c.as_bytes-bytes.ensures.value in
    let found = sym c.delimiter_at.ensures ∙ c.in_ok-delimiter.was in
    let here = subst (λ bs. option_and_then delimiter_of (slice_get bs c.args.at) ≡ Some c.in_ok-delimiter.delimiter) same found in
    let size = c.length_of-length.ensures.value ∙ ap (run_length c.in_ok-delimiter.delimiter) (rest_of c.as_bytes-bytes.result.now c.args.at) ∙ ap (λ bs. run_length c.in_ok-delimiter.delimiter (drop c.args.at bs)) same in
    rw c.run_between.ensures.length (run_end c.args.text.now c.args.at c.length_of-length.result c.in_ok-delimiter.delimiter c.utf8.text here size)
