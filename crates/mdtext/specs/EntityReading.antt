-- What stands at the front of an entity file's tokens, as `serde_json` reads it: parts of the reading that `EntityFile` takes whole.
use Rattle.std.specs.Prelude.{ℕ, List, length, Option, codes, option_and_then}
use Rattle.json.specs.Token.{Token}
use Rattle.json.specs.Json.{value, items, members, if_last}
use Rattle.serde_json.specs.Data.{Data, Items, Members, no_members}
use Rattle.serde_json.specs.Find.{as_str, get_member}
use Rattle.serde_json.specs.Read.{of_json, of_items, of_members, converted}

-- a value, and the tokens behind it
abbrev pub value_at : ℕ → List Token → Option (Data × List Token)
value_at depth ts = converted of_json (value depth ts)

-- the items of an array, and the tokens behind its end
abbrev pub items_at : ℕ → List Token → Option (Items × List Token)
items_at depth ts = converted of_items (items (value depth) (length ts) ts)

-- the members of an object, and the tokens behind its end
abbrev pub members_at : ℕ → List Token → Option (Members × List Token)
members_at depth ts = converted (λ ms. of_members ms no_members) (members (value depth) (length ts) ts)

-- the one value that all tokens are
abbrev pub whole_at : List Token → Option Data
whole_at ts = option_and_then of_json (option_and_then (λ p. if_last p.0 p.1) (value 127 ts))

-- the text that an object's members give
abbrev pub characters_among : Members → Option (List ℕ)
characters_among ms = option_and_then as_str (get_member (codes "characters") ms)
