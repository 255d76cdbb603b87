-- What the code's references stand for.
use Rattle.std.specs.Prelude.{ℕ, List, encode_utf8}
use Rattle.mdtext.specs.declared.character_references.Referent.{Referent}
use Rattle.mdtext.specs.declared.character_references.Referent.TheVariants.{Character, Text}
use Rattle.mdtext.specs.declared.character_references.Reference.{Reference}
use Rattle.mdtext.specs.CharacterReferences.{Meaning}

abbrev pub referent_text : Referent → List ℕ
referent_text (Character c) = encode_utf8 c
referent_text (Text t) = t.now

abbrev pub meaning_of : Reference → Meaning
meaning_of r = (r.len, referent_text r.referent)
