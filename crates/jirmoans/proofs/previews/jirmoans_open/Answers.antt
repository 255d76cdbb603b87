use Rattle.std.proofs.Common.{Err, refl, subst, inl}
use Rattle.mdtext.specs.declared.entity_file.TableFault.TheVariants.{NoMemory}
use Rattle.jirmoans.specs.declared.faults.Refusal.TheVariants.{Table}
use Rattle.jirmoans.specs.Answers.{AnswersOpening}
use Rattle.jirmoans.specs.Sessions.{Begins, Opens}
use Rattle.jirmoans.proofs.previews.jirmoans_open.Goals as goal

-- there was no room for the session, as there may be none for its table
pub returns : goal.returns
returns c =
    let begun : Begins c.in-Ok.session c.args.settings.now c.args.entities.now =
    subst (λ opened. Opens opened c.args.settings.now c.args.entities.now) c.in-Ok.is c.open.ensures in
    subst (λ old. AnswersOpening c.args.settings.now c.args.entities.now old c.take.new.self.slot.held c.fault-in-Err-new.result)
    c.in_default.ensures.taken (record {
      ended = Err (Table NoMemory);
      is = (begun.options, begun.read, inl refl);
      kept = c.take.ensures.left;
      named = c.fault-in-Err-new.ensures;
    })
