-- What a slot owns: the memory of its session, where it has one.
use Rattle.std.specs.Prelude.{Option, Some, None}
use Rattle.std.specs.Coded.{Coded, coded_option}
use base.Fml.{Fml, ftrue}
use denote.RawPtr.{Ptr}
use Rattle.std.specs.Box.Ownership.{box_owns}
use Rattle.std.specs.Global.{Global}
use Rattle.std_heap.specs.contracts.GlobalAllocator.TheImpl.{ghosts}
use Rattle.jirmoans.specs.contracts.session.Session.{the_row}

abbrev pub slot_owns : Global → Ptr → Option the_row.Denot → Fml
slot_owns alloc ptr None = ftrue
slot_owns alloc ptr (Some session) = box_owns (ghosts.dealloc_token alloc) the_row ptr session

abbrev pub held_coded : Coded (Option the_row.Denot)
held_coded = coded_option the_row.coded
