use Rattle.std.proofs.Common.{◌≡◌, string_bytes, sym, ap, Vec, ℕ}
use Rattle.std.specs.Global.{Global}
use Rattle.std.specs.Str.{IsUtf8}
use Rattle.std.proofs.lemmas.Str.{IsUtf8-had}
use Rattle.mdtool.proofs.LineLengths.{texts_are_cut}
use Rattle.mdtool.proofs.joined_lines.ByteLines.into_texts.Goals as goal

pub returns-in-Ok : goal.returns-in-Ok
returns-in-Ok c =
    let bytes : string_bytes c.in-Ok.text ≡ c.self.inside.bytes.items = ap (λ (v : Vec ℕ Global). v.items) c.in-Ok.ensures.ok in
    let utf8 : IsUtf8 (string_bytes c.in-Ok.text) = IsUtf8-had _ c.in-Ok.text.ok in
    rw (bytes, sym c.self.view_is) (sym (texts_are_cut c.self.inside.lens.items c.self.inside.bytes.items c.self.invariant (rw bytes at utf8)))
