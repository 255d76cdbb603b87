use Rattle.std.proofs.Common.{◌∷◌, [], Vec, Global, ap, sym, ◌∙◌, append-nil, arith}
use Rattle.mdinline.specs.declared.tokens.Begun.{Begun}
use Rattle.mdinline.specs.declared.tokens.PairedRun.{PairedRun}
use Rattle.mdinline.proofs.PairedMatches.{all_paired}
use Rattle.mdinline.proofs.emphasis.take.Goals.{then-matched-len+in_ok-begin_span, else-matched-len}
use Rattle.mdinline.proofs.emphasis.take.Goals as goal

pub returns-then-matched-len-2 : goal.returns-then-matched-len-2
returns-then-matched-len-2 c = record {
  paired = λ front rs ordered few h. elim c.if-matched-len.branch [
    | then-matched-len+in_ok-begin_span w ↦
        let opened = w.in_ok-begin_span.ensures in
        let closed = c.end_span.ensures in
        let b = opened.begun.0 in
        all_paired c.args.begun.now.items c.if-matched-len.begun.items b front c.args.matched.now rs c.args.runs.now.items c.if-matched-len.runs.items w.index_mut.result.now w.begin_span.new.run
        c.index_mut-then-matched-len-2.result.now c.end_span.new.run
        ordered.0 ordered.1 few h (ap (λ (v : Vec Begun Global). v.items) w.begun-is ∙ opened.begun.1)
        (ap (λ (v : Vec PairedRun Global). v.items) w.runs-is) w.index_mut.ensures.value c.index_mut-then-matched-len-2.ensures.value
        (record { delimiter = opened.delimiter; left = opened.left; ends = opened.ends; begins = opened.begins; outermost = opened.outermost; kind = opened.begun.2; inner = opened.begun.3 })
        (record { delimiter = closed.delimiter; left = closed.left; ends = closed.ends; begins = closed.begins; outermost = closed.outermost })
    | else-matched-len w ↦
        let beyond = w.if-matched-len.false in
        let all = h.all in
        let long = c.len.ensures ∙ c.args.runs.now.ok.0 in
        absurd (omega (arith, beyond, all, long, ordered.0, ordered.1))
  ];
  begun = elim c.if-matched-len.branch [
    | then-matched-len+in_ok-begin_span w ↦
        let opened = w.in_ok-begin_span.ensures in (opened.begun.0 ∷ [], ap (λ (v : Vec Begun Global). v.items) w.begun-is ∙ opened.begun.1)
    | else-matched-len w ↦ ([], ap (λ (v : Vec Begun Global). v.items) w.begun-is ∙ sym (append-nil c.args.begun.now.items))
  ];
}
