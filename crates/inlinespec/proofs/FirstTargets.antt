-- A map of labels is what its table of targets shows.
use Rattle.std.proofs.Common.{◌≡◌, ℕ, List, [], ◌∷◌, map, refl, ap, ◌∙◌, sym, Bool, true, false, cond, if◌then◌else◌, Option, Some, None, option_map, Bor, is_some, MatchOption}
use Rattle.std.proofs.lemmas.Map.Text.{is_eq-slice_cmp}
use Rattle.std.specs.Option.{option_copied}
use Rattle.std.specs.Map.{lookup}
use Rattle.std.specs.Ordering.{nat_cmp}
use Rattle.std.specs.BTreeMap.{is_at, insert_entry}
use Rattle.std.specs.Cmp.Lexicographic.{slice_cmp}
use Rattle.std.specs.Str.{bytes_eq}
use Rattle.mdtext.specs.declared.labels.Target.{Target}
use Rattle.mdtext.proofs.Tables.{inserted}
use Rattle.inlinespec.specs.LabelMap.{LabelMap, LinkTarget, target_of, target_in, put_first}

abbrev pub shown : List (List ℕ × Target) → LabelMap
shown entries = map (λ e. (e.0, target_of e.1)) entries

abbrev at : List ℕ → List (List ℕ × Target) → Option Target
at label entries = lookup (is_at (slice_cmp nat_cmp label)) entries

-- entries of any kind, seen as pairs of bytes and values
module _ {K V W : Type 0} (key : K → List ℕ) (view : V → W) where
  at_head : (b : Bool) (v : V) (w : Option V) (u : Option W) → option_map view w ≡ u → option_map view (cond b (Some v) w) ≡ cond b (Some (view v)) u
  at_head true v w u h = refl
  at_head false v w u h = h

  looked_up : (name : List ℕ) (entries : List (K × V)) → option_map view (lookup (is_at (λ k. slice_cmp nat_cmp name (key k))) entries) ≡ lookup (bytes_eq name) (map (λ e. (key e.0, view e.1)) entries)
  looked_up name [] = refl
  looked_up name (e ∷ entries) =
      at_head _ e.1 _ _ (looked_up name entries)
      ∙ ap (λ b. cond b (Some (view e.1)) (lookup (bytes_eq name) (map (λ e. (key e.0, view e.1)) entries))) (is_eq-slice_cmp name (key e.0))

-- the table finds what its map holds
lookup_shown : (label : List ℕ) (entries : List (List ℕ × Target)) → option_map target_of (at label entries) ≡ target_in (shown entries) label
lookup_shown label entries = looked_up (λ k. k) target_of label entries

pub found_is : (r : Option (Bor Target)) (label : List ℕ) (entries : List (List ℕ × Target)) → option_copied r ≡ at label entries →
    MatchOption r (target_in (shown entries) label ≡ None) (λ t. target_in (shown entries) label ≡ Some (target_of t.now))
found_is None label entries e = sym (ap (option_map target_of) e ∙ lookup_shown label entries)
found_is (Some t) label entries e = sym (ap (option_map target_of) e ∙ lookup_shown label entries)

some_shown : (o : Option Target) → is_some (option_map target_of o) ≡ is_some o
some_shown None = refl
some_shown (Some t) = refl

is_there : (label : List ℕ) (entries : List (List ℕ × Target)) → is_some (target_in (shown entries) label) ≡ is_some (at label entries)
is_there label entries = ap is_some (sym (lookup_shown label entries)) ∙ some_shown (at label entries)

-- a label that has a target keeps it
pub kept : (label : List ℕ) (t : LinkTarget) (entries : List (List ℕ × Target)) → is_some (at label entries) ≡ true →
    shown entries ≡ put_first (shown entries) label t
kept label t entries e =
    sym (ap (λ b. if b then shown entries else insert_entry (slice_cmp nat_cmp) (shown entries) label t) (is_there label entries ∙ e))

-- one that has none gets it
pub put : (label : List ℕ) (t : Target) (entries new : List (List ℕ × Target)) → is_some (at label entries) ≡ false →
    new ≡ insert_entry (slice_cmp nat_cmp) entries label t → shown new ≡ put_first (shown entries) label (target_of t)
put label t entries new e is =
    ap shown is ∙ inserted (λ k. k) target_of entries label t
    ∙ sym (ap (λ b. if b then shown entries else insert_entry (slice_cmp nat_cmp) (shown entries) label (target_of t)) (is_there label entries ∙ e))
