-- Inlines one after the other, and the spans that are open, as events.
use Rattle.std.proofs.Common.{◌≡◌, ℕ, List, [], ◌∷◌, ◌++◌, String, Global, drop, length, reverse, string_bytes, take, refl, sym, ap, ◌∙◌, subst, append_assoc, append-nil, arith}
use Rattle.std.proofs.lemmas.List.{drop_all, length-take-le, take_all}
use Rattle.inlinespec.specs.InlineEvents.{Event, Enter, Leave, within, written}
use Rattle.mdinline.specs.held.OpenRows.{AreNested, innermost, made_events, open_span, row_events, spread}
use Rattle.mdinline.specs.held.TreeBuilding.{built}
use Rattle.mdinline.specs.declared.inlines.Inline.{Inline}
use Rattle.mdinline.specs.declared.inlines.Inline.TheBlock as made
use Rattle.mdinline.specs.declared.trees.Frame.{Frame}
use Rattle.mdinline.specs.declared.trees.TreeBuilder.{TreeBuilder}
use Rattle.mdinline.proofs.NestedRows.{inner_more, nested_leave, spread_more, turned}
use Rattle.mdinline.proofs.SeenInlines.{text_seen}

row_more : (is ts : List Inline) → row_events (is ++ ts) ≡ row_events is ++ row_events ts
row_more [] ts = refl
row_more (j ∷ is) ts = ap (λ es. made_events j ++ es) (row_more is ts) ∙ sym (append_assoc (made_events j) (row_events is) (row_events ts))

-- the events of a row and of the spans that are open in it
abbrev rows_events : List Frame → List Inline → List Event
rows_events fs row = spread fs row ++ row_events (innermost fs row)

rows_more : (fs : List Frame) (row next ts : List Inline) → AreNested fs (length row) → next ≡ row ++ ts → rows_events fs next ≡ rows_events fs row ++ row_events ts
rows_more fs row next ts h e =
    ap (λ es. es ++ row_events (innermost fs next)) (spread_more fs row next ts h e)
    ∙ ap (λ (is : List Inline). spread fs row ++ row_events is) (inner_more fs row next ts h e)
    ∙ ap (λ es. spread fs row ++ es) (row_more (innermost fs row) ts)
    ∙ sym (append_assoc (spread fs row) (row_events (innermost fs row)) (row_events ts))

rows_push : (fs : List Frame) (row next : List Inline) (i : Inline) → AreNested fs (length row) → next ≡ row ++ i ∷ [] → rows_events fs next ≡ rows_events fs row ++ made_events i
rows_push fs row next i h e = rows_more fs row next (i ∷ []) h e ∙ ap (λ es. rows_events fs row ++ es) (append-nil (made_events i))

pub built_none : (fs : List Frame) (row : List Inline) (text : List ℕ) → fs ≡ [] → row ≡ [] → text ≡ [] →
    (spread (reverse fs) row ++ row_events (innermost (reverse fs) row)) ++ written text ≡ []
built_none fs row text none empty blank =
    ap (λ (gs : List Frame). rows_events (reverse gs) row ++ written text) none ∙ ap (λ (is : List Inline). row_events is ++ written text) empty ∙ ap written blank

pub text_events : (t : String Global) (text : List ℕ) → string_bytes t ≡ text → row_events (made.Text t ∷ []) ≡ written text
text_events t text same = append-nil (made_events (made.Text t)) ∙ text_seen t ∙ ap written same

-- the text behind the last inline becomes an inline
pub text_ended : (fs : List Frame) (row next ts : List Inline) (text : List ℕ) → AreNested fs (length row) → next ≡ row ++ ts → row_events ts ≡ written text →
    (spread fs next ++ row_events (innermost fs next)) ++ written [] ≡ (spread fs row ++ row_events (innermost fs row)) ++ written text
text_ended fs row next ts text h e same = append-nil (rows_events fs next) ∙ rows_more fs row next ts h e ∙ ap (λ es. rows_events fs row ++ es) same

-- what was built, behind which no text is left
pub built_rows : (s : TreeBuilder) (all : List Event) → string_bytes s.text ≡ [] → built s ≡ all →
    (spread (reverse s.frames.items) s.row.items ++ row_events (innermost (reverse s.frames.items) s.row.items)) ++ written [] ≡ all
built_rows s all none is = ap (λ t. rows_events (reverse s.frames.items) s.row.items ++ written t) (sym none) ∙ is

pub added : (fs : List Frame) (row next : List Inline) (i : Inline) (all : List Event) → AreNested fs (length row) → next ≡ row ++ i ∷ [] →
    (spread fs row ++ row_events (innermost fs row)) ++ written [] ≡ all → (spread fs next ++ row_events (innermost fs next)) ++ written [] ≡ all ++ made_events i
added fs row next i all nested e h =
    append-nil (rows_events fs next) ∙ rows_push fs row next i nested e ∙ ap (λ es. es ++ made_events i) (sym (append-nil (rows_events fs row)) ∙ h)

pub entered : (fs gs : List Frame) (f : Frame) (row : List Inline) (all : List Event) → gs ≡ fs ++ f ∷ [] → f.begin ≡ length row →
    (spread (reverse fs) row ++ row_events (innermost (reverse fs) row)) ++ written [] ≡ all →
    (spread (reverse gs) row ++ row_events (innermost (reverse gs) row)) ++ written [] ≡ all ++ Enter (open_span f.span) ∷ []
entered fs gs f row all e same h =
    let whole : take f.begin row ≡ row = take_all f.begin row (omega (arith, same)) in
    let none : drop f.begin row ≡ [] = drop_all f.begin row (omega (arith, same)) in
    append-nil (rows_events (reverse gs) row)
    ∙ ap (λ xs. rows_events xs row) (turned fs gs f e)
    ∙ ap (λ (is : List Inline). spread (f ∷ reverse fs) row ++ row_events is) none ∙ append-nil (spread (f ∷ reverse fs) row)
    ∙ ap (λ (is : List Inline). rows_events (reverse fs) is ++ Enter (open_span f.span) ∷ []) whole
    ∙ ap (λ es. es ++ Enter (open_span f.span) ∷ []) (sym (append-nil (rows_events (reverse fs) row)) ∙ h)

pub left : (fs gs : List Frame) (f : Frame) (row next inside ts : List Inline) (i : Inline) (text : List ℕ) → AreNested (reverse fs) (length row) → fs ≡ gs ++ f ∷ [] →
    next ≡ take f.begin row ++ i ∷ [] → inside ≡ drop f.begin row ++ ts → row_events ts ≡ written text → made_events i ≡ within (open_span f.span) (row_events inside) →
    (spread (reverse gs) next ++ row_events (innermost (reverse gs) next)) ++ written [] ≡
    ((spread (reverse fs) row ++ row_events (innermost (reverse fs) row)) ++ written text) ++ Leave ∷ []
left fs gs f row next inside ts i text nested e pushed cut last same =
    let parts = nested_leave fs gs f (length row) e nested in
    let front = rows_events (reverse gs) (take f.begin row) in
    let tail = row_events (drop f.begin row) in
    let enter = Enter (open_span f.span) in
    let whole : length (take f.begin row) ≡ f.begin = length-take-le f.begin row parts.0 in
    let all : row_events inside ≡ tail ++ written text = ap row_events cut ∙ row_more (drop f.begin row) ts ∙ ap (λ es. tail ++ es) last in
    append-nil (rows_events (reverse gs) next)
    ∙ rows_push (reverse gs) (take f.begin row) next i (subst (λ n. AreNested (reverse gs) n) (sym whole) parts.1) pushed
    ∙ ap (λ es. front ++ es) (same ∙ ap (λ es. within (open_span f.span) es) all)
    ∙ sym (ap (λ es. (es ++ written text) ++ Leave ∷ []) (append_assoc front (enter ∷ []) tail)
    ∙ ap (λ es. es ++ Leave ∷ []) (append_assoc front (enter ∷ tail) (written text))
    ∙ append_assoc front (enter ∷ tail ++ written text) (Leave ∷ []))
    ∙ ap (λ (xs : List Frame). (rows_events xs row ++ written text) ++ Leave ∷ []) (sym (turned gs fs f e))
