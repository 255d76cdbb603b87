use Rattle.std.proofs.Common.{◌≡◌, drop}
use Rattle.htmlspec.specs.Attributes.{begins_with}
use Rattle.mdhtml.proofs.destinations.begins_with.Given as goal

abbrev pub invariant-loop-want : goal.invariant-loop-want
invariant-loop-want l = begins_with (drop l.want-index l.text) l.rest ≡ begins_with l.text l.bytes
