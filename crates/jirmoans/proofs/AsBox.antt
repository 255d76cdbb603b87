-- A slot with a session, and the parts of a box, own what a box with that session owns.
use mir.Syntax.{impl, tnil, dnil}
use mathlib.Core.List.{[]}
use Rattle.std.specs.Prelude.{◌≡◌, Option, Some, None, IsSome, refl}
use Rattle.std.proofs.lemmas.Bool.{false≢true}
use denote.Signature.{plain}
use denote.Signature as signature
use Rattle.std_alloc.proofs.BoxSteps.Form.{Bx}
use Rattle.std_heap.specs.contracts.Global as Heap
use Rattle.std_heap.specs.contracts.GlobalAllocator.TheImpl.{ghosts, dict}
use Rattle.std_heap.proofs.Global.TheLaws as heap
use Rattle.jirmoans.specs.contracts.session.Session as Session
use Rattle.jirmoans.proofs.session.Session.TheLaws as session
use Rattle.jirmoans.specs.contracts.slots.parts.Parts as Parts
use Rattle.jirmoans.specs.contracts.slots.Slot as Slot

abbrev pub E : Bx
E = record {
  row = Session.the_row;
  laws = session.the_row_laws;
  al = record {
    row = Heap.the_row;
    laws = heap.the_row_laws;
    g = ghosts;
    d = dict;
    drops = impl [] tnil dnil;
  };
}

abbrev pub FromParts : signature.Slot 0
FromParts = plain (λ _. Parts.the_row Session.the_row Heap.the_row ghosts)

abbrev pub FromSlot : signature.Slot 0
FromSlot = plain (λ _. Slot.the_row)

pub some_is : {A : Type 0} (held : Option A) → IsSome held → (x : A) × (held ≡ Some x)
some_is None given = absurd (false≢true given)
some_is (Some x) given = (x, refl)
