-- Pieces that are written.
use Rattle.std.specs.Prelude.{◌≡◌, List, [], false}
use Rattle.blockspec.specs.BlockTree.{Blocks}
use Rattle.htmlspec.specs.BlockHtml.{blocks_html, texts_html}
use Rattle.htmlspec.specs.declared.options.Options.{Options}
use Rattle.inlinespec.specs.ParsedText.{ParsedText}
use Rattle.mdview.specs.HeldUnit.{AreEnds, WrittenPiece}

-- It is the HTML of these blocks whose texts read so, and their items end where it says.
abbrev pub IsPieceOf : Options → List ParsedText → Blocks → WrittenPiece → Type 0
IsPieceOf options readings blocks piece =
    (piece.html ≡ blocks_html options (texts_html options readings) false blocks []) × AreEnds options readings blocks piece.ends
