use Rattle.std.proofs.Common.{◌≡◌, length, sym, ap, ◌∙◌, rules}
use Rattle.mdtool.proofs.LineLengths.{length_cut}
use Rattle.mdtool.proofs.joined_lines.ByteLines.len.Goals as goal

pub returns : goal.returns
returns c =
    let many : length c.args.self.now ≡ length c.self.inside.lens.items = ap length (sym c.self.view_is) ∙ length_cut c.self.inside.lens.items c.self.inside.bytes.items in
    search (rules, many)
