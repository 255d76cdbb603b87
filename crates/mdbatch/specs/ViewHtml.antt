-- What each end of the reading of a whole text says, by its view.
use Rattle.std.specs.Prelude.{◌≡◌, ℕ, List, Some, None, Result, Ok, Err, map, string_bytes, String}
use Rattle.std.specs.Global.{Global}
use Rattle.std.specs.List.{concat}
use Rattle.mdsource.specs.Refusals.{too_many_lines, too_large, nested_too_deep, inline_too_deep, refusal, size_refusal}
use Rattle.mdsource.specs.Setting.{Setting, Source}
use Rattle.mdsource.specs.View.{view}
use Rattle.mdsource.specs.declared.fault.EditFault.{EditFault}
use Rattle.mdsource.specs.declared.fault.EditFault.TheVariants.{OutOfRange, BreakInLine, TooManyLines, TooLarge, NestedTooDeep, InlineTooDeep, NoMemory, NotDefinitions}
use Rattle.mdbatch.specs.BatchHtml.{piece_in}

-- the HTML of a text with its prelude: the pieces of its view, one after the other
abbrev pub view_html : Setting → Source → List ℕ
view_html setting source = concat (map piece_in (view setting source))

-- What each end says of a text with its prelude. At `Ok` nothing is refused, and this is its HTML. A fault is the refusal that is due, or memory was refused;
-- too many lines or bytes are the answer whatever the memory.
abbrev pub ViewHtml : Result (String Global) EditFault → Setting → Source → Type 0
ViewHtml (Ok html) setting source = (refusal setting source ≡ None) × (string_bytes html ≡ view_html setting source)
ViewHtml (Err NoMemory) setting source = size_refusal source.lines ≡ None
ViewHtml (Err TooManyLines) setting source = refusal setting source ≡ Some too_many_lines
ViewHtml (Err TooLarge) setting source = refusal setting source ≡ Some too_large
ViewHtml (Err (NestedTooDeep line)) setting source = refusal setting source ≡ Some (nested_too_deep line)
ViewHtml (Err (InlineTooDeep line)) setting source = refusal setting source ≡ Some (inline_too_deep line)
ViewHtml (Err (OutOfRange count)) setting source = ⊥
ViewHtml (Err (BreakInLine index)) setting source = ⊥
ViewHtml (Err (NotDefinitions line)) setting source = ⊥
