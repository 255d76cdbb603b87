-- Room for a label leads it nowhere.
use Rattle.std.proofs.Common.{◌≡◌, ℕ, false, List, [], ◌∷◌, Option, Some, None, Ordering, Less, Equal, Greater, if◌then◌else◌, refl, ap}
use Rattle.std.specs.Option.{is_some}
use Rattle.std.specs.BTreeMap.{insert_entry, is_at}
use Rattle.std.specs.Cmp.Lexicographic.{slice_cmp}
use Rattle.std.specs.Map.{lookup}
use Rattle.std.specs.Ordering.{is_eq, match_ordering, nat_cmp}
use Rattle.std.proofs.lemmas.Bool.{true≢false}
use Rattle.mdtext.specs.declared.labels.Target.{Target}
use Rattle.mdview.specs.LabelTargets.{leading, leads}

placed : (o : Ordering) (label : List ℕ) (e : List ℕ × Option Target) (es later : List (List ℕ × Option Target)) → is_some (if is_eq o then Some e.1 else lookup (is_at (slice_cmp nat_cmp label)) es) ≡ false
    → (is_some (lookup (is_at (slice_cmp nat_cmp label)) es) ≡ false → leading later ≡ leading es)
    → leading (match_ordering o ((label, None) ∷ e ∷ es) ((e.0, None) ∷ es) (e ∷ later)) ≡ leading (e ∷ es)
placed Less label e es later none same = refl
placed Equal label e es later none same = absurd (true≢false none)
placed Greater label e es later none same = ap (leads e.0 e.1) (same none)

pub room_leads_nowhere : (label : List ℕ) (es : List (List ℕ × Option Target)) → is_some (lookup (is_at (slice_cmp nat_cmp label)) es) ≡ false
    → leading (insert_entry (slice_cmp nat_cmp) es label None) ≡ leading es
room_leads_nowhere label [] none = refl
room_leads_nowhere label (e ∷ es) none =
    placed (slice_cmp nat_cmp label e.0) label e es (insert_entry (slice_cmp nat_cmp) es label None) none (room_leads_nowhere label es)
