-- A function meets its contract where a walk through its body ends as the contract says.
use seplogic.Ra.Ura.{Ura}
use mir.Syntax.{Fn}
use prog.Routine.{Callee}
use prog.Wp.{Closed, Tables, WpFn}
use types.Logic.{Logic}
use sound.WpLaws.{WpFn-mono}
use denote.Triple.Clauses.{Clauses, Ended, closing}
use denote.Triple.Spec.{triple_of}
use denote.Triple.Statement.{Triple}
use denote.Triple.Table.{entered}
use denote.Triple.Walked.{AllGo, Stays, Walks, walk_Meets}

module _ {M : Type 1} {𝓤 : Ura M} (𝓛 : Logic 𝓤) (𝓣 : Tables 𝓤 𝓛.H) (T : Ended) (hs : Stays T.signature.params T.kept) (c : Clauses 𝓤 T) (function : Fn) where
  abbrev pub Walk : Type 1
  Walk = Walks 𝓛 T hs (WpFn 𝓤 𝓛.H 𝓣.C 𝓣.Λ function) c

  pub meets : (self : Callee) → Closed 𝓤 𝓛.H 𝓣.C 𝓣.Λ self function → AllGo 𝓛 T.signature.lifetimes T.signature.params T.kept hs → Walk
      → Triple 𝓤 (𝓣.C self) (triple_of 𝓛 T.signature (closing 𝓛 T c))
  meets self closed go walk =
      entered 𝓤 𝓛.H (triple_of 𝓛 T.signature (closing 𝓛 T c)) 𝓣.C 𝓣.Λ self function closed
      (walk_Meets 𝓛 T hs go c (WpFn 𝓤 𝓛.H 𝓣.C 𝓣.Λ function) (WpFn-mono 𝓤 𝓛.H 𝓛.laws 𝓣 function) walk)
