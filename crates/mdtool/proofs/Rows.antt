-- The definitions at worked texts, by computation.
use Rattle.std.proofs.Common.{◌≡◌, ℕ, List, [], ◌∷◌, Some, None, true, false, refl, codes}
use Rattle.std.specs.Fmt.{digits}
use Rattle.mdtext.specs.EntityTable.{usual_table}
use Rattle.htmlspec.specs.Limits.{plain}
use Rattle.mdsource.specs.Calls.{edit}
use Rattle.mdsource.specs.Outcome.{accepted, refused}
use Rattle.mdsource.specs.Refusals.{nested_too_deep, not_definitions}
use Rattle.mdview.specs.Document.{empty}
use Rattle.mdtool.specs.Commands.{Change, HtmlHead, PreludeHead, EditHead, split_number, head_of}
use Rattle.mdwords.specs.Numbers.{number}
use Rattle.mdwords.specs.declared.reply_forms.ReplyForm.TheVariants.{Plain, WithLines}
use Rattle.mdtool.specs.Replies.{ScriptTurn, Told, edit_reply, html_reply, replies}

-- a heading, and a paragraph with a hard line break
title : List ℕ
title = codes "<h1>a</h1>\n"

broken : List ℕ
broken = codes "<p>b<br />\nc</p>\n"

-- what a command's first line says
head_html : head_of (codes "html") ≡ Some HtmlHead
unfolding head_of
head_html = refl

head_edit : head_of (codes "edit 00 12 3") ≡ Some (EditHead 0 12 3)
unfolding head_of number split_number
head_edit = refl

head_prelude : head_of (codes "prelude 12") ≡ Some (PreludeHead 12)
unfolding head_of number split_number
head_prelude = refl

head_prelude_alone : head_of (codes "prelude ") ≡ None
unfolding head_of number split_number
head_prelude_alone = refl

head_two_spaces : head_of (codes "edit  0 0 0") ≡ None
unfolding head_of number split_number
head_two_spaces = refl

head_long_number : head_of (codes "edit 0 0 1000000000") ≡ None
unfolding head_of number split_number
head_long_number = refl

head_html_space : head_of (codes "html ") ≡ None
unfolding head_of
head_html_space = refl

-- what is told of texts with such pieces
two_told : Told
two_told = record { lines = 4; begins = 0 ∷ 2 ∷ []; pieces = title ∷ broken ∷ [] }

one_told : Told
one_told = record { lines = 2; begins = 0 ∷ []; pieces = broken ∷ [] }

none_told : Told
none_told = record { lines = 0; begins = []; pieces = [] }

-- what an edit, or a new prelude, is answered that left such pieces
two_added : edit_reply Plain (accepted (record { first = 0; removed = 0; added = 2; again = [] })) 0 two_told ≡ codes "ok 0 0 2 0\npiece 0 11\n<h1>a</h1>\npiece 1 17\n<p>b<br />\nc</p>\n"
unfolding two_told title broken digits
two_added = refl

one_removed : edit_reply Plain (accepted (record { first = 0; removed = 1; added = 0; again = [] })) 4 one_told ≡ codes "ok 0 1 0 0\n"
unfolding one_told broken digits
one_removed = refl

one_again : edit_reply Plain (accepted (record { first = 0; removed = 0; added = 0; again = 0 ∷ [] })) 2 one_told ≡ codes "ok 0 0 0 1\npiece 0 17\n<p>b<br />\nc</p>\n"
unfolding one_told broken digits
one_again = refl

too_deep : edit_reply WithLines (refused (nested_too_deep 12)) 2 one_told ≡ codes "refused NestedTooDeep 12\n"
unfolding one_told broken digits
too_deep = refl

no_definitions : edit_reply Plain (refused (not_definitions 0)) 0 none_told ≡ codes "refused NotDefinitions 0\n"
unfolding none_told digits
no_definitions = refl

-- the same where it is told on which lines pieces begin: two lines came, or two of four went
two_added_with_lines : edit_reply WithLines (accepted (record { first = 0; removed = 0; added = 2; again = [] })) 0 two_told
    ≡ codes "ok 0 0 2 0\nmoved 2 4\npiece 0 11 0\n<h1>a</h1>\npiece 1 17 2\n<p>b<br />\nc</p>\n"
unfolding two_told title broken digits
two_added_with_lines = refl

one_removed_with_lines : edit_reply WithLines (accepted (record { first = 0; removed = 1; added = 0; again = [] })) 4 one_told ≡ codes "ok 0 1 0 0\nmoved 0 -2\n"
unfolding one_told broken digits
one_removed_with_lines = refl

all_pieces : html_reply (title ∷ broken ∷ []) ≡ codes "html 28\n<h1>a</h1>\n<p>b<br />\nc</p>\n"
unfolding title broken digits
all_pieces = refl

-- the replies of a script whose edits are refused: one reaches past the text, and for one there is no memory
refusals : List ScriptTurn
refusals = record { command = Change (edit 9 0 []); starved = false } ∷ record { command = Change (edit 0 0 (codes "a" ∷ [])); starved = true } ∷ []

refused_replies : replies Plain (empty (usual_table []) plain) refusals ≡ codes "refused OutOfRange 0\nrefused NoMemory 0\n"
unfolding refusals replies digits
refused_replies = refl
