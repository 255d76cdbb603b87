use Rattle.std.proofs.Common.{ap, sym, ◌∙◌, ◌∷◌, [], refl, map, reverse, string_bytes}
use Rattle.std.proofs.lemmas.Result.{on_ok_weaker}
use Rattle.htmlspec.specs.InlineWriting.{writing}
use Rattle.mdhtml.specs.held.InlineWriter.{end_of}
use Rattle.mdhtml.proofs.InlineWriterSteps.{ends_pushed, none_open, takes_end}
use Rattle.mdhtml.proofs.inline_writer.InlineWriterInlineSink.leave.Goals as goal

pub returns-in-Some : goal.returns-in-Some
returns-in-Some c =
    let w = c.args.self.now in
    let left = c.pop.new.self.items in
    on_ok_weaker c.end.result (takes_end w c.end.new.self (end_of c.in-Some.span ∷ reverse (map end_of left))
    (ap (λ xs. reverse (map end_of xs)) c.in-Some.ensures.items ∙ ends_pushed left c.in-Some.span) c.end.ensures.options) c.end.ensures.ended

pub returns-in-None : goal.returns-in-None
returns-in-None c =
    let w = c.args.self.now in
    let none = c.in-None.ensures.cases in
    let before = none_open w.spans.items (sym w.spans.ok.0 ∙ none.0) in
    let after = none_open c.pop.new.self.items (sym c.pop.new.self.ok.0 ∙ none.1) in
    takes_end w _ [] before refl (ap (λ ends. writing (string_bytes w.html) ends w.in_image) (after ∙ sym before))
