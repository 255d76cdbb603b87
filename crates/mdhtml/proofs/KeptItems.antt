-- A list that is made with the HTML of an old one is that of the old one's items with others between them.
use Rattle.std.proofs.Common.{◌≡◌, ℕ, ◌+◌, ◌-◌, ◌^◌, ◌<◌, ◌≤◌, Bool, true, false, cond, List, [], ◌∷◌, ◌++◌, codes, length, drop, take, get_or, map, refl, sym, ◌∙◌, ap, subst, arith, append_assoc, append-nil, length-append}
use Rattle.std.specs.Prelude.{◌==◌}
use Rattle.std.specs.Fmt.{decimal}
use Rattle.std.specs.List.{AllByRecursion, slice_range}
use Rattle.std.proofs.lemmas.List.{take_all, take-append-drop}
use Rattle.std.proofs.Math.Seq.{drop-append_seam, take-append_seam}
use Rattle.inlinespec.specs.ParsedText.{ParsedText}
use Rattle.blockspec.specs.BlockTree.{ListKind, bullet, ordered}
use Rattle.mdblock.specs.BlockView.{items_view, kind_view}
use Rattle.mdblock.specs.declared.blocks.Item as i
use Rattle.htmlspec.specs.declared.options.Options.{Options}
use Rattle.mdhtml.specs.declared.lists.kept_items.Between.{Between}
use Rattle.mdhtml.specs.declared.lists.kept_items.KeptHtml.{KeptHtml}
use Rattle.mdhtml.specs.declared.lists.like_lists.Like.{Like}
use Rattle.mdhtml.specs.declared.lists.item_ends.OneList.{OneList}
use Rattle.mdhtml.specs.held.KeptItems.{AreInTail, AreKept, list_begins, html_between, ends_between, html_around, ends_around, moved_ends}
use Rattle.mdhtml.specs.held.ListUnits.{unit_of}
use Rattle.htmlspec.specs.BlockHtml.{fresh, ends_line, texts_html, list_open, list_close, blocks_html, items_html}
use Rattle.htmlspec.specs.ListEnds.{item_ends, unit_ends}
use Rattle.mdhtml.proofs.Ends.{ends_append}
use Rattle.mdhtml.proofs.ItemsTogether.{like_ends_taken, like_ends_dropped, like_ends_count, like_place, like_together, like_appended, like_ends_line, like_moved, like_between}

-- ---- ends that are moved

pub like_movable : (from to size : ℕ) (es : List ℕ) → size + to < 2 ^ 64 → AllByRecursion (λ e. (from ≤ e) × (e ≤ from + size)) es → AllByRecursion (λ e. (from ≤ e) × ((e - from) + to < 2 ^ 64)) es
like_movable from to size [] fits h = tt
like_movable from to size (e ∷ es) fits h =
    let low = h.0.0 in
    let high = h.0.1 in
    ((low, omega (arith, fits, low, high)), like_movable from to size es fits h.1)

-- ---- what a list begins with

numbered_line : (out : List ℕ) (n : ℕ) (one : Bool) → ends_line (out ++ cond one (codes "<ol>\n") ((codes "<ol start=\"" ++ decimal n) ++ codes "\">\n")) ≡ true
numbered_line out n true = ends_append out (codes "<ol>\n") (omega arith) refl
numbered_line out n false =
    let inner = codes "<ol start=\"" ++ decimal n in
    ends_append out (inner ++ codes "\">\n") (omega (arith, length-append inner (codes "\">\n"))) (ends_append inner (codes "\">\n") (omega arith) refl)

begins_line : (kind : ListKind) → ends_line (list_begins kind) ≡ true
begins_line (bullet m) = ends_append (fresh []) (codes "<ul>\n") (omega arith) refl
begins_line (ordered d n) = numbered_line (fresh []) n (n == 1)

-- ---- a part that is cut out

cut_out : (all a x b : List ℕ) (from to : ℕ) → all ≡ (a ++ x) ++ b → from ≡ length a → to ≡ length (a ++ x) → slice_range all from to ≡ x
cut_out all a x b from to e f g =
    let whole : all ≡ a ++ (x ++ b) = e ∙ append_assoc a x b in
    let size : to - from ≡ length x = omega (arith, f, g, length-append a x) in
    ap (λ z. take z (drop from all)) size
    ∙ ap (λ z. take (length x) (drop z all)) f
    ∙ ap (λ z. take (length x) (drop (length a) z)) whole
    ∙ ap (λ z. take (length x) z) (drop-append_seam a (x ++ b))
    ∙ take-append_seam x b

-- ---- the list

module _ (o : Options) (texts others : List ParsedText) (olds : List i.Item) (b : Between) (front_fits : b.front ≤ length olds) (later_fits : b.later ≤ length olds)
    (kind : ListKind) (tight : Bool) (begin : ℕ) (hb : begin ≡ length (list_begins kind))
    (html : List ℕ) (hh : html ≡ items_html o (texts_html o others) tight (items_view olds) (list_begins kind) ++ list_close kind)
    (ends : List ℕ) (he : ends ≡ item_ends o (texts_html o others) tight (items_view olds) (list_begins kind))
    (front tail : List ℕ) (tail_at : ℕ)
    (kf : front ≡ slice_range html begin (get_or (begin ∷ ends) b.front 0))
    (kt : tail ≡ slice_range html tail_at (get_or (begin ∷ ends) (length ends) 0))
    (ka : tail_at ≡ get_or (begin ∷ ends) b.later 0)
  where
    abbrev U : List (List ℕ)
    U = texts_html o others

    abbrev opening : List ℕ
    opening = list_begins kind

    abbrev begun : ℕ → List ℕ
    begun n = items_html o U tight (items_view (take n olds)) opening

    abbrev left : ℕ → List ℕ
    left n = items_html o U tight (items_view (drop n olds)) []

    begun_line : (n : ℕ) → ends_line (begun n) ≡ true
    begun_line n = like_ends_line o U tight (items_view (take n olds)) opening (begins_line kind)

    parted : (n : ℕ) → items_html o U tight (items_view olds) opening ≡ begun n ++ left n
    parted n =
        ap (λ z. items_html o U tight (items_view z) opening) (sym (take-append-drop n olds))
        ∙ like_together o U tight (take n olds) (drop n olds) opening
        ∙ like_appended o U tight (items_view (drop n olds)) (begun n) (begun_line n)

    like_count : length ends ≡ length olds
    like_count = ap length he ∙ like_ends_count o U tight olds opening

    place_is : (n : ℕ) → n ≤ length olds → get_or (begin ∷ ends) n 0 ≡ length (begun n)
    place_is n h = ap (λ z. get_or (z ∷ ends) n 0) hb ∙ ap (λ z. get_or (length opening ∷ z) n 0) he ∙ like_place o U tight n olds opening h

    front_part : front ≡ items_html o U tight (items_view (take b.front olds)) []
    front_part =
        let x = items_html o U tight (items_view (take b.front olds)) [] in
        let f : begun b.front ≡ opening ++ x = like_appended o U tight (items_view (take b.front olds)) opening (begins_line kind) in
        kf ∙ cut_out html opening x (left b.front ++ list_close kind) begin (get_or (begin ∷ ends) b.front 0)
        (hh ∙ ap (λ z. z ++ list_close kind) (parted b.front) ∙ append_assoc (begun b.front) (left b.front) (list_close kind) ∙ ap (λ z. z ++ (left b.front ++ list_close kind)) f)
        hb (place_is b.front front_fits ∙ ap length f)

    front_is : opening ++ front ≡ begun b.front
    front_is = ap (λ z. opening ++ z) front_part ∙ sym (like_appended o U tight (items_view (take b.front olds)) opening (begins_line kind))

    tail_place : tail_at ≡ length (begun b.later)
    tail_place = ka ∙ place_is b.later later_fits

    tail_is : tail ≡ left b.later
    tail_is =
        let whole : get_or (begin ∷ ends) (length ends) 0 ≡ length (begun b.later ++ left b.later) =
        ap (λ z. get_or (begin ∷ ends) z 0) like_count ∙ place_is (length olds) (omega arith)
        ∙ ap (λ z. length (items_html o U tight (items_view z) opening)) (take_all (length olds) olds (omega arith)) ∙ ap length (parted b.later) in
        kt
        ∙ cut_out html (begun b.later) (left b.later) (list_close kind) tail_at (get_or (begin ∷ ends) (length ends) 0) (hh ∙ ap (λ z. z ++ list_close kind) (parted b.later)) tail_place whole

    abbrev middle : List ℕ
    middle = html_between o texts tight b (opening ++ front)

    middle_line : ends_line middle ≡ true
    middle_line =
        like_ends_line o (texts_html o texts) tight (items_view b.items.now) (opening ++ front) (subst (λ z. ends_line z ≡ true) (sym front_is) (begun_line b.front))

    pub like_whole : middle ++ tail ≡ html_around o texts others tight olds b opening
    like_whole =
        ap (λ z. middle ++ z) tail_is
        ∙ sym (like_appended o U tight (items_view (drop b.later olds)) middle middle_line)
        ∙ ap (λ z. items_html o U tight (items_view (drop b.later olds)) (html_between o texts tight b z)) front_is

    abbrev moved : List ℕ
    moved = drop b.later ends

    moved_is : moved ≡ item_ends o U tight (items_view (drop b.later olds)) (begun b.later)
    moved_is = ap (λ z. drop b.later z) he ∙ like_ends_dropped o U tight b.later olds opening

    pub like_tail_between : AllByRecursion (λ e. (tail_at ≤ e) × (e ≤ tail_at + length tail)) moved
    like_tail_between =
        let low : tail_at ≤ length (begun b.later) = omega (arith, tail_place) in
        let whole : length (items_html o U tight (items_view (drop b.later olds)) (begun b.later)) ≡ length (begun b.later) + length (left b.later) =
        ap length (like_appended o U tight (items_view (drop b.later olds)) (begun b.later) (begun_line b.later)) ∙ length-append (begun b.later) (left b.later) in
        let high : length (items_html o U tight (items_view (drop b.later olds)) (begun b.later)) ≤ tail_at + length tail = omega (arith, whole, tail_place, ap length tail_is) in
        subst (λ z. AllByRecursion (λ e. (tail_at ≤ e) × (e ≤ tail_at + length tail)) z) (sym moved_is)
        (like_between o U tight (items_view (drop b.later olds)) tail_at (tail_at + length tail) (begun b.later) (begun_line b.later) low high)

    tail_ends : moved_ends tail_at (length middle) moved ≡ item_ends o U tight (items_view (drop b.later olds)) middle
    tail_ends =
        ap (λ z. map (λ e. (e - z) + length middle) moved) tail_place
        ∙ ap (λ z. map (λ e. (e - length (begun b.later)) + length middle) z) moved_is
        ∙ ap (λ z. map (λ e. (e - length (begun b.later)) + length middle) (item_ends o U tight (items_view (drop b.later olds)) z)) (sym (append-nil (begun b.later)))
        ∙ like_moved o U tight (items_view (drop b.later olds)) (begun b.later) middle [] (begun_line b.later) middle_line
        ∙ ap (λ z. item_ends o U tight (items_view (drop b.later olds)) z) (append-nil middle)

    front_ends : take b.front ends ≡ item_ends o U tight (items_view (take b.front olds)) opening
    front_ends = ap (λ z. take b.front z) he ∙ like_ends_taken o U tight b.front olds opening

    pub like_whole_ends : (take b.front ends ++ ends_between o texts tight b (opening ++ front)) ++ moved_ends tail_at (length middle) moved
        ≡ ends_around o texts others tight olds b opening
    like_whole_ends =
        let R = items_view (drop b.later olds) in
        ap (λ z. (take b.front ends ++ ends_between o texts tight b (opening ++ front)) ++ z) tail_ends
        ∙ ap (λ z. (z ++ ends_between o texts tight b (opening ++ front)) ++ item_ends o U tight R middle) front_ends
        ∙ ap (λ z. (item_ends o U tight (items_view (take b.front olds)) opening ++ ends_between o texts tight b z) ++ item_ends o U tight R (html_between o texts tight b z)) front_is

-- ---- the list, as it is written

-- behind `now`, with which the list begins, stand what is taken over and what is written between: they are the list
pub record MadeAround (o : Options) (texts others : List ParsedText) (one : OneList) (b : Between) (like : Like) (kept : KeptHtml) (now : List ℕ) : Type 0 where
  pub tail : AreInTail kept (drop b.later like.ends.now)
  pub html : html_between o texts one.tight b (now ++ kept.front.now) ++ kept.tail.now
      ≡ html_around o texts others one.tight one.items.now b (list_begins (kind_view one.kind))
  pub ends : (take b.front like.ends.now ++ ends_between o texts one.tight b (now ++ kept.front.now))
      ++ moved_ends kept.tail_at (length (html_between o texts one.tight b (now ++ kept.front.now))) (drop b.later like.ends.now)
      ≡ ends_around o texts others one.tight one.items.now b (list_begins (kind_view one.kind))

module _ (o : Options) (texts others : List ParsedText) (one : OneList) (b : Between) (front_fits : b.front ≤ length one.items.now) (later_fits : b.later ≤ length one.items.now)
    (like : Like) (kept : KeptHtml) (begin : ℕ) (was now : List ℕ) (nothing : was ≡ []) (hb : begin ≡ length now) (hn : now ≡ fresh was ++ list_open (kind_view one.kind))
    (hh : like.html.now ≡ blocks_html o (texts_html o others) false (unit_of one) []) (he : like.ends.now ≡ unit_ends o (texts_html o others) (unit_of one))
    (K : AreKept like begin b.front b.later kept)
  where
    now_is : now ≡ list_begins (kind_view one.kind)
    now_is = hn ∙ ap (λ z. fresh z ++ list_open (kind_view one.kind)) nothing

    begin_is : begin ≡ length (list_begins (kind_view one.kind))
    begin_is = hb ∙ ap length now_is

    pub made_around : MadeAround o texts others one b like kept now
    made_around = record {
      tail = like_tail_between o texts others one.items.now b front_fits later_fits (kind_view one.kind) one.tight begin begin_is like.html.now hh like.ends.now he
          kept.front.now kept.tail.now kept.tail_at K.front K.tail K.tail_at;
      html = ap (λ z. html_between o texts one.tight b (z ++ kept.front.now) ++ kept.tail.now) now_is
          ∙ like_whole o texts others one.items.now b front_fits later_fits (kind_view one.kind) one.tight begin begin_is like.html.now hh like.ends.now he
          kept.front.now kept.tail.now kept.tail_at K.front K.tail K.tail_at;
      ends = ap (λ z. (take b.front like.ends.now ++ ends_between o texts one.tight b (z ++ kept.front.now))
          ++ moved_ends kept.tail_at (length (html_between o texts one.tight b (z ++ kept.front.now))) (drop b.later like.ends.now)) now_is
          ∙ like_whole_ends o texts others one.items.now b front_fits later_fits (kind_view one.kind) one.tight begin begin_is like.html.now hh like.ends.now he
          kept.front.now kept.tail.now kept.tail_at K.front K.tail K.tail_at;
    }
