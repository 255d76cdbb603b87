-- What a text is read with, and what of it is somebody's.
use Rattle.std.specs.Prelude.{ℕ, List}
use Rattle.mdtext.specs.EntityTable.{EntityTable}
use Rattle.htmlspec.specs.declared.options.Options.{Options}

-- the entities, and how HTML is written, with the limits on nesting
pub record Setting : Type 0 where
  pub entities : EntityTable
  pub options : Options

-- the lines of a document, and those of its prelude: definitions that are handed in beside it
pub record Source : Type 0 where
  pub lines : List (List ℕ)
  pub prelude : List (List ℕ)
