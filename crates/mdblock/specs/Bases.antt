-- What is seen of an old list whose first items stay.
use Rattle.mdblock.specs.Fronted.{ListBase}
use Rattle.mdblock.specs.declared.seams.Base as declared

abbrev pub base_view : declared.Base → ListBase
base_view b = record { list = b.list.now; join = b.join }
