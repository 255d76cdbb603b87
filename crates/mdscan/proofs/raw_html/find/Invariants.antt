use Rattle.std.proofs.Common.{◌≡◌, drop}
use Rattle.mdscan.specs.RawHtml.{place_from}
use Rattle.mdscan.proofs.raw_html.find.Given as goal

-- what is left decides
abbrev pub invariant-loop-at : goal.invariant-loop-at
invariant-loop-at l = place_from l.at l.fn.needle (drop l.at l.fn.text) ≡ place_from 0 l.fn.needle l.fn.text
