-- What a writer of units writes and reads by.
use Rattle.mdtext.specs.EntityTable.{EntityTable}
use Rattle.htmlspec.specs.declared.options.Options.{Options}
use Rattle.mdhtml.specs.declared.unit_writer.UnitWriter.{UnitWriter}

-- the options of a writer
abbrev pub options_of : UnitWriter → Options
options_of writer = writer.options

-- the entities with which it reads texts
abbrev pub entities_of : UnitWriter → EntityTable
entities_of writer = writer.reader.entities.now
