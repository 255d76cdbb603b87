-- A session that was taken out, called, and put back.
use Rattle.std.proofs.Common.{◌≡◌, Option, Some, Result, subst}
use Rattle.jirmoans.specs.declared.faults.Fault.{Fault}
use Rattle.jirmoans.specs.declared.faults.Refusal.{Refusal}
use Rattle.jirmoans.specs.declared.session.Session.{Session}
use Rattle.jirmoans.specs.Refusals.{fault_after, told}
use Rattle.jirmoans.specs.Answers.{Answers}

-- what was called does this from a value on that is the one taken out
pub called : {A : Type 0} (does : Session → Result A Refusal → Session → Type 0) (old : Option Session) (taken now : Session) (ended : Result A Refusal)
    (new : Session) (held : Option Session) (fault : Fault) (before after : A)
    → Some taken ≡ old → now ≡ taken → does now ended new → held ≡ Some new → fault ≡ fault_after ended → after ≡ told ended before
    → Answers does old held fault before after
called does old taken now ended new held fault before after is same done kept named shown =
    subst (λ old. Answers does old held fault before after) is (record {
      ended = ended;
      new = new;
      is = subst (λ from. does from ended new) same done;
      kept = kept;
      named = named;
      shown = shown;
    })
