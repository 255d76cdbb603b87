-- How many texts of some units are read, where the first texts of some of them have been taken: those behind these that asked for a label which leads elsewhere.
use Rattle.std.proofs.Common.{◌≡◌, ℕ, ◌+◌, ◌<◌, true, false, List, [], ◌∷◌, ◌++◌, length, map, drop, cond, Some, None, refl, sym, ◌∙◌, ap, subst, append_assoc, arith}
use Rattle.std.specs.Prelude.{Contains, nat_eq, sum_by}
use Rattle.std.specs.List.{All, filter, find}
use Rattle.std.specs.Option.{unwrap_or, option_map}
use Rattle.std.proofs.lemmas.Bool.Decides.{nat_tests}
use Rattle.std.proofs.lemmas.List.{append-nil, drop-map, drop_all, map-append}
use Rattle.std.proofs.Math.Seq.{drop-append_seam}
use Rattle.std.proofs.lemmas.Grind.{flat_map-append}
use Rattle.std.proofs.lemmas.List.Concat.{flat_map-cons, length-flat_map}
use Rattle.std.proofs.lemmas.List.Elements.{All-nil, All-cons, All-head, All-tail, All-contains, Contains-append_left, Contains-append_right, Contains-push}
use Rattle.std.proofs.lemmas.List.Folds.{flat_map-map}
use Rattle.std.proofs.lemmas.List.Sums.{sum_by-append, sum_by-cons}
use Rattle.mdtext.specs.EntityTable.{EntityTable}
use Rattle.blockspec.specs.BlockTree.{no_blocks}
use Rattle.blockspec.specs.UnitTree.{FoundUnit, UnitTree}
use Rattle.inlinespec.specs.LinkTails.{Table}
use Rattle.mdsource.specs.Changes.{asks_changed}
use Rattle.mdsource.specs.Setting.{Setting}
use Rattle.mdsource.specs.View.{ViewedUnit, reading_of, viewed}
use Rattle.mdsource.specs.UnitTexts.{asking_in, asking_texts, trees_in}
use Rattle.mdsource.proofs.AskingUnits.{texts_all}
use Rattle.mdsource.proofs.Cuts.{begins_in}
use Rattle.mdsource.proofs.StretchReadings.{Ascends}
use Rattle.mdsource.specs.SoonTexts.{later_asking, texts_taken}
use Rattle.mdsource.specs.LaterTexts.{asking_of, texts_of}

-- ---- texts in order

pub texts_append : (xs ys : List FoundUnit) → texts_of (trees_in (xs ++ ys)) ≡ texts_of (trees_in xs) ++ texts_of (trees_in ys)
texts_append xs ys =
    ap texts_of (map-append (λ (one : FoundUnit). one.unit) xs ys) ∙ flat_map-append (λ (unit : UnitTree). unit.texts) (trees_in xs) (trees_in ys)

texts_of_one : (u : FoundUnit) → texts_of (trees_in (u ∷ [])) ≡ u.unit.texts
texts_of_one u = flat_map-cons (λ (unit : UnitTree). unit.texts) u.unit [] ∙ append-nil u.unit.texts

pub many_in_trees : (trees : List UnitTree) → sum_by (λ (unit : UnitTree). length unit.texts) trees ≡ length (texts_of trees)
many_in_trees trees = sym (length-flat_map (λ (unit : UnitTree). unit.texts) trees)

pub many_found : (us : List FoundUnit) → sum_by (λ (one : FoundUnit). length one.unit.texts) us ≡ length (texts_of (trees_in us))
many_found us =
    sym (length-flat_map (λ (one : FoundUnit). one.unit.texts) us)
    ∙ ap (λ l. length l) (sym (flat_map-map (λ (unit : UnitTree). unit.texts) (λ (one : FoundUnit). one.unit) us))

-- ---- Some units are the first ones of others, but that the last of them may have more texts there: these are the rest.

abbrev IsLast : (ys zs : List FoundUnit) → (rest : List (List ℕ)) → Type 0
IsLast [] [] rest = rest ≡ []
IsLast [] (z ∷ zs) rest = ⊥
IsLast (y ∷ ys) [] rest = ⊥
IsLast (y ∷ ys) (z ∷ zs) rest = (ys ≡ []) × (zs ≡ []) × (z.begin ≡ y.begin) × (z.unit.texts ≡ y.unit.texts ++ rest)

pub record IsFrontOf (read all : List FoundUnit) (rest : List (List ℕ)) : Type 0 where
  pub whole : List FoundUnit
  pub last : List FoundUnit
  pub last_all : List FoundUnit
  pub reads : read ≡ whole ++ last
  pub alls : all ≡ whole ++ last_all
  pub ends : IsLast last last_all rest

-- all of them
pub front_of_itself : (us : List FoundUnit) → IsFrontOf us us []
front_of_itself us = record { whole = us; last = []; last_all = []; reads = sym (append-nil us); alls = sym (append-nil us); ends = refl }

last_texts : (ys zs : List FoundUnit) (rest : List (List ℕ)) → IsLast ys zs rest → texts_of (trees_in zs) ≡ texts_of (trees_in ys) ++ rest
last_texts [] [] rest h = sym h
last_texts [] (z ∷ zs) rest h = absurd h
last_texts (y ∷ ys) [] rest h = absurd h
last_texts (y ∷ ys) (z ∷ zs) rest h =
    ap (λ l. texts_of (trees_in (z ∷ l))) h.1 ∙ texts_of_one z ∙ h.3 ∙ ap (λ l. l ++ rest) (sym (texts_of_one y)) ∙ ap (λ l. texts_of (trees_in (y ∷ l)) ++ rest) (sym h.0)

pub texts_behind : (read all : List FoundUnit) (rest : List (List ℕ)) → IsFrontOf read all rest → texts_of (trees_in all) ≡ texts_of (trees_in read) ++ rest
texts_behind read all rest w =
    ap (λ us. texts_of (trees_in us)) w.alls
    ∙ texts_append w.whole w.last_all
    ∙ ap (λ l. texts_of (trees_in w.whole) ++ l) (last_texts w.last w.last_all rest w.ends)
    ∙ sym (append_assoc (texts_of (trees_in w.whole)) (texts_of (trees_in w.last)) rest)
    ∙ ap (λ l. l ++ rest) (sym (texts_append w.whole w.last) ∙ ap (λ us. texts_of (trees_in us)) (sym w.reads))

-- ---- which unit begins at a line

not_there : (b : ℕ) (us : List FoundUnit) → All (λ k. nat_eq k b ≡ false) (begins_in us) → find (λ (one : FoundUnit). nat_eq one.begin b) us ≡ None
not_there b [] h = refl
not_there b (u ∷ us) h =
    ap (λ t. cond t (Some u) (find (λ (one : FoundUnit). nat_eq one.begin b) us)) (All-head (λ k. nat_eq k b ≡ false) u.begin (begins_in us) h)
    ∙ not_there b us (All-tail (λ k. nat_eq k b ≡ false) u.begin (begins_in us) h)

pub none_of_them : (b : ℕ) (us : List FoundUnit) → All (λ k. nat_eq k b ≡ false) (begins_in us) → texts_taken us b ≡ 0
none_of_them b us h = ap (λ o. unwrap_or (option_map (λ (one : FoundUnit). length one.unit.texts) o) 0) (not_there b us h)

found_there : (xs : List FoundUnit) (u : FoundUnit) (ys : List FoundUnit) → All (λ k. k < u.begin) (begins_in xs) → find (λ (one : FoundUnit). nat_eq one.begin u.begin) (xs ++ u ∷ ys) ≡ Some u
found_there [] u ys h =
    let same : nat_eq u.begin u.begin ≡ true = grind (arith, nat_tests) in
    ap (λ t. cond t (Some u) (find (λ (one : FoundUnit). nat_eq one.begin u.begin) ys)) same
found_there (x ∷ xs) u ys h =
    let low = All-head (λ k. k < u.begin) x.begin (begins_in xs) h in
    let other : nat_eq x.begin u.begin ≡ false = grind (arith, nat_tests, low) in
    ap (λ t. cond t (Some x) (find (λ (one : FoundUnit). nat_eq one.begin u.begin) (xs ++ u ∷ ys))) other
    ∙ found_there xs u ys (All-tail (λ k. k < u.begin) x.begin (begins_in xs) h)

all_below : (xs : List FoundUnit) (u : FoundUnit) (ys : List FoundUnit) → Ascends (begins_in (xs ++ u ∷ ys)) → All (λ k. k < u.begin) (begins_in xs)
all_below [] u ys h = All-nil (λ k. k < u.begin)
all_below (x ∷ xs) u ys h =
    let there : Contains (begins_in (xs ++ u ∷ ys)) u.begin =
    subst (λ z. Contains z u.begin) (sym (map-append (λ (one : FoundUnit). one.begin) xs (u ∷ ys)))
    (Contains-append_right (begins_in xs) (u.begin ∷ begins_in ys) u.begin (Contains-append_left (u.begin ∷ []) (begins_in ys) u.begin (Contains-push [] u.begin))) in
    All-cons (λ k. k < u.begin) x.begin (begins_in xs) (All-contains (λ y. x.begin < y) (begins_in (xs ++ u ∷ ys)) u.begin h.0 there) (all_below xs u ys h.1)

-- Of units whose first lines ascend, the one that begins where one of them does is that one.
taken_of : (xs : List FoundUnit) (u : FoundUnit) (ys : List FoundUnit) → Ascends (begins_in (xs ++ u ∷ ys)) → texts_taken (xs ++ u ∷ ys) u.begin ≡ length u.unit.texts
taken_of xs u ys h = ap (λ o. unwrap_or (option_map (λ (one : FoundUnit). length one.unit.texts) o) 0) (found_there xs u ys (all_below xs u ys h))

-- ---- how many texts of units are read again

module _ (setting : Setting) (before after : Table) where
  abbrev e : EntityTable
  e = setting.entities

  abbrev seen : List FoundUnit → List ViewedUnit
  seen us = map (viewed setting after) us

  -- asked before the change or behind it is the same
  asking_behind : (texts : List (List ℕ)) → length (filter (asks_changed before after) (map (reading_of e after) texts)) ≡ asking_of e before after texts
  asking_behind texts =
      let one : FoundUnit = record { begin = 0; lines = 0; unit = record { blocks = no_blocks; definitions = []; texts = texts } } in
      let all : length (filter (asks_changed before after) (map (reading_of e after) texts)) + 0 ≡ asking_texts e before after (one.unit ∷ []) = texts_all setting before after (one ∷ []) in
      let sum : asking_texts e before after (one.unit ∷ []) ≡ asking_of e before after texts + 0 = sum_by-cons (asking_in e before after) one.unit [] in
      omega (arith, all, sum)

  module _ (read : List FoundUnit) where
    abbrev later : ViewedUnit → ℕ
    later = later_asking before after read

    later_of : (u : FoundUnit) (taken : ℕ) → texts_taken read u.begin ≡ taken → later (viewed setting after u) ≡ asking_of e before after (drop taken u.unit.texts)
    later_of u taken h =
        ap (λ n. length (filter (asks_changed before after) (drop n (map (reading_of e after) u.unit.texts)))) h
        ∙ ap (λ l. length (filter (asks_changed before after) l)) (drop-map (reading_of e after) taken u.unit.texts)
        ∙ asking_behind (drop taken u.unit.texts)

    -- of units of which none has been taken
    pub none_taken : (us : List FoundUnit) → All (λ b. texts_taken read b ≡ 0) (begins_in us) → sum_by later (seen us) ≡ asking_texts e before after (trees_in us)
    none_taken [] h = refl
    none_taken (u ∷ us) h =
        let a = sum_by-cons later (viewed setting after u) (seen us) in
        let here : later (viewed setting after u) ≡ asking_in e before after u.unit = later_of u 0 (All-head (λ b. texts_taken read b ≡ 0) u.begin (begins_in us) h) in
        let rest = none_taken us (All-tail (λ b. texts_taken read b ≡ 0) u.begin (begins_in us) h) in
        let b = sum_by-cons (asking_in e before after) u.unit (trees_in us) in
        omega (arith, a, here, rest, b)

    -- of units that have been taken as a whole
    all_taken : (xs us ys : List FoundUnit) → read ≡ (xs ++ us) ++ ys → Ascends (begins_in read) → sum_by later (seen us) ≡ 0
    all_taken xs [] ys is h = refl
    all_taken xs (u ∷ us) ys is h =
        let split : read ≡ xs ++ u ∷ (us ++ ys) = is ∙ append_assoc xs (u ∷ us) ys in
        let next : read ≡ ((xs ++ u ∷ []) ++ us) ++ ys = is ∙ ap (λ l. l ++ ys) (sym (append_assoc xs (u ∷ []) us)) in
        let taken : texts_taken read u.begin ≡ length u.unit.texts =
        ap (λ l. texts_taken l u.begin) split ∙ taken_of xs u (us ++ ys) (subst (λ l. Ascends (begins_in l)) split h) in
        let none : later (viewed setting after u) ≡ 0 = later_of u (length u.unit.texts) taken ∙ ap (asking_of e before after) (drop_all (length u.unit.texts) u.unit.texts (omega arith)) in
        let a = sum_by-cons later (viewed setting after u) (seen us) in
        let rest = all_taken (xs ++ u ∷ []) us ys next h in
        omega (arith, none, a, rest)

    -- of the last one, of which the first texts have been taken
    last_taken : (xs ys zs : List FoundUnit) (rest : List (List ℕ)) → read ≡ xs ++ ys → Ascends (begins_in read) → IsLast ys zs rest → sum_by later (seen zs) ≡ asking_of e before after rest
    last_taken xs [] [] rest is h w = ap (asking_of e before after) (sym w)
    last_taken xs [] (z ∷ zs) rest is h w = absurd w
    last_taken xs (y ∷ ys) [] rest is h w = absurd w
    last_taken xs (y ∷ ys) (z ∷ zs) rest is h w =
        let taken : texts_taken read z.begin ≡ length y.unit.texts =
        ap (texts_taken read) w.2 ∙ ap (λ l. texts_taken l y.begin) is ∙ taken_of xs y ys (subst (λ l. Ascends (begins_in l)) is h) in
        let here : later (viewed setting after z) ≡ asking_of e before after rest =
        later_of z (length y.unit.texts) taken ∙ ap (λ l. asking_of e before after (drop (length y.unit.texts) l)) w.3 ∙ ap (asking_of e before after) (drop-append_seam y.unit.texts rest) in
        let a = ap (λ l. sum_by later (seen (z ∷ l))) w.1 in
        let b = sum_by-cons later (viewed setting after z) [] in
        let none : sum_by later [] ≡ 0 = refl in
        omega (arith, here, a, b, none)

    pub front_taken : (all : List FoundUnit) (rest : List (List ℕ)) → IsFrontOf read all rest → Ascends (begins_in read) → sum_by later (seen all) ≡ asking_of e before after rest
    front_taken all rest w h =
        let split : seen all ≡ seen w.whole ++ seen w.last_all = ap seen w.alls ∙ map-append (viewed setting after) w.whole w.last_all in
        let sum = ap (sum_by later) split ∙ sum_by-append later (seen w.whole) (seen w.last_all) in
        let a = all_taken [] w.whole w.last w.reads h in
        let b = last_taken w.whole w.last w.last_all rest w.reads h w.ends in
        omega (arith, sum, a, b)

    -- of units in three parts: none of the first and of the last have been taken
    pub parts_taken : (a b c : List FoundUnit) (rest : List (List ℕ)) → All (λ k. texts_taken read k ≡ 0) (begins_in a) → All (λ k. texts_taken read k ≡ 0) (begins_in c)
        → IsFrontOf read b rest → Ascends (begins_in read)
        → sum_by later (seen ((a ++ b) ++ c)) ≡ (asking_texts e before after (trees_in a) + asking_of e before after rest) + asking_texts e before after (trees_in c)
    parts_taken a b c rest none_a none_c w h =
        let split : seen ((a ++ b) ++ c) ≡ (seen a ++ seen b) ++ seen c = map-append (viewed setting after) (a ++ b) c ∙ ap (λ z. z ++ seen c) (map-append (viewed setting after) a b) in
        let sum = ap (sum_by later) split in
        let one = sum_by-append later (seen a ++ seen b) (seen c) in
        let two = sum_by-append later (seen a) (seen b) in
        let x = none_taken a none_a in
        let y = front_taken b rest w h in
        let z = none_taken c none_c in
        omega (arith, sum, one, two, x, y, z)
