-- The commands of the code, as the definitions see them.
use Rattle.mdtool.specs.declared.command.Header.{Header}
use Rattle.mdtool.specs.declared.command.Header.TheVariants.{Html as HtmlHeader, Prelude as PreludeHeader, Edit as EditHeader}
use Rattle.mdtool.specs.declared.command.Command.{Command as TheCommand}
use Rattle.mdtool.specs.declared.command.Command.TheVariants.{Html as TheHtml, Prelude as ThePrelude, Edit as TheEdit}
use Rattle.mdtool.specs.Commands.{Command, Html, Change, Head, HtmlHead, PreludeHead, EditHead}
use Rattle.mdsource.specs.Calls.{edit, set_prelude}

abbrev pub head_view : Header → Head
head_view HtmlHeader = HtmlHead
head_view (PreludeHeader add) = PreludeHead add
head_view (EditHeader at del add) = EditHead at del add

abbrev pub command_view : TheCommand → Command
command_view TheHtml = Html
command_view (ThePrelude lines) = Change (set_prelude lines)
command_view (TheEdit at del add) = Change (edit at del add)
