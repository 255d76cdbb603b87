-- A reader that may begin at a later item of an old list: what it stands for and hands out, where the list goes on and where it ends.
use Rattle.std.proofs.Common.{◌≡◌, ℕ, ◌+◌, ◌-◌, ◌≤◌, Bool, true, false, List, [], ◌∷◌, ◌++◌, drop, length, map, Option, Some, None, refl, sym, ◌∙◌, ap, subst, append_assoc, arith, length-append}
use Rattle.std.proofs.lemmas.List.{append-nil, map-append}
use Rattle.std.specs.Option.{option_map, option_or, option_to_list}
use Rattle.std.specs.Prelude.{if◌then◌else◌, IfSome}
use Rattle.mdtext.specs.EntityTable.{EntityTable}
use Rattle.blockspec.specs.BlockLine.{document_line}
use Rattle.blockspec.specs.BlockUnits.{groups, units}
use Rattle.blockspec.specs.Joins.{is_joined}
use Rattle.blockspec.specs.LineSummary.{begins_after, summary_of}
use Rattle.blockspec.specs.Nesting.{deep_within, first_too_deep}
use Rattle.blockspec.specs.UnitReader.{lines_held}
use Rattle.blockspec.specs.UnitTree.{FoundUnit}
use Rattle.blockspec.proofs.DocumentLaws.{document_units}
use Rattle.blockspec.proofs.LimitLaws.{front_none}
use Rattle.blockspec.proofs.NestingLaws.{moved_on}
use Rattle.mdblock.specs.FoundLists.{FoundList, StandsForUnit, found_unit}
use Rattle.mdblock.specs.Fronted.{ListBase, base_mark, fronted_list}
use Rattle.mdblock.specs.held.Following.{Follows, IsInside, IsPast, moved_reading}
use Rattle.mdblock.specs.held.ReaderState.{ReaderState, held_joined}
use Rattle.mdblock.specs.held.Reads.{Reads, handed, open_begin}
use Rattle.mdblock.proofs.FrontedLists.{list_ended, over_inside, reads_behind}
use Rattle.mdblock.proofs.HeldMarks.{lines_mapped}
use Rattle.mdblock.proofs.InsideLists.{AtItem, at_item, at_one, deep_inside, joined_inside, still_inside}
use Rattle.mdblock.proofs.NextLineLaws.{handed_next, only_unit}
use Rattle.mdblock.proofs.ReadsLaws.{reads_joined}
use Rattle.mdblock.proofs.SplicedMarks.{most}

-- ---- what it follows

pub follows_plain : (limit : ℕ) (e : EntityTable) (base : Option ListBase) (r : ReaderState) (ls : List (List ℕ)) → base ≡ None → Follows limit e (record { base = base; reading = r }) ls → Reads limit e r ls
unfolding Follows
follows_plain limit e None r ls is w = w
follows_plain limit e (Some b) r ls is w = absurd (let x : ⊥ = cc in x)

pub plain_follows : (limit : ℕ) (e : EntityTable) (base : Option ListBase) (r : ReaderState) (ls : List (List ℕ)) → base ≡ None → Reads limit e r ls → Follows limit e (record { base = base; reading = r }) ls
unfolding Follows
plain_follows limit e None r ls is w = w
plain_follows limit e (Some b) r ls is w = absurd (let x : ⊥ = cc in x)

pub follows_inside : (limit : ℕ) (e : EntityTable) (base : Option ListBase) (b : ListBase) (r : ReaderState) (ls : List (List ℕ)) → base ≡ Some b → Follows limit e (record { base = base; reading = r }) ls →
    IsInside limit e b r ls
unfolding Follows
follows_inside limit e None b r ls is w = absurd (let x : ⊥ = cc in x)
follows_inside limit e (Some a) b r ls is w = let same : a ≡ b = cc in subst (λ z. IsInside limit e z r ls) same w

pub inside_follows : (limit : ℕ) (e : EntityTable) (base : Option ListBase) (b : ListBase) (r : ReaderState) (ls : List (List ℕ)) → base ≡ Some b → IsInside limit e b r ls →
    Follows limit e (record { base = base; reading = r }) ls
unfolding Follows
inside_follows limit e None b r ls is w = absurd (let x : ⊥ = cc in x)
inside_follows limit e (Some a) b r ls is w = let same : b ≡ a = cc in subst (λ z. IsInside limit e z r ls) same w

-- ---- the lines of the old list and those that were read

at_lines : (limit : ℕ) (e : EntityTable) (b : ListBase) (r : ReaderState) (ls : List (List ℕ)) (w : IsInside limit e b r ls) → AtItem e b w.zs w.l
at_lines limit e b r ls w = at_item e b w.zs w.l w.ys w.within w.stands w.line

at_more : (zs : List (List ℕ)) (l : List ℕ) (own ls : List (List ℕ)) (t : List ℕ) → ls ≡ zs ++ l ∷ own → ls ++ t ∷ [] ≡ zs ++ l ∷ (own ++ t ∷ [])
at_more zs l own ls t is = ap (λ z. z ++ t ∷ []) is ∙ append_assoc zs (l ∷ own) (t ∷ [])

pub at_first : (limit : ℕ) (zs more : List (List ℕ)) → first_too_deep limit (zs ++ more) ≡ None → first_too_deep limit zs ≡ None
at_first limit zs more shallow =
    front_none limit (map document_line zs) (map document_line more) (ap (deep_within limit) (sym (map-append document_line zs more)) ∙ shallow)

-- where the lines of the old list are not too deep, those from the item on tell it
pub at_deep : (limit : ℕ) (e : EntityTable) (b : ListBase) (zs : List (List ℕ)) (l : List ℕ) (own more : List (List ℕ)) → AtItem e b zs l → first_too_deep limit (zs ++ more) ≡ None →
    first_too_deep limit (zs ++ l ∷ own) ≡ moved_on (length zs) (first_too_deep limit (l ∷ own))
at_deep limit e b zs l own more at shallow =
    deep_inside limit e b zs l own at ∙ ap (λ z. option_or z (moved_on (length zs) (first_too_deep limit (l ∷ own)))) (at_first limit zs more shallow)

at_shallow : (limit : ℕ) (e : EntityTable) (r : ReaderState) (ls : List (List ℕ)) → Reads limit e r ls → first_too_deep limit ls ≡ None
unfolding Reads
at_shallow limit e r ls w = w.3

at_fed : (limit : ℕ) (e : EntityTable) (r : ReaderState) (ls : List (List ℕ)) → Reads limit e r ls → r.fed ≡ length ls
unfolding Reads
at_fed limit e r ls w = w.2

-- ---- one line more, where the list goes on

-- what is told of a reader that reads a line
abbrev pub NextReads : (old new : ReaderState) → (t : List ℕ) → Type 0
NextReads old new t = (limit : ℕ) (e : EntityTable) (ls : List (List ℕ)) → Reads limit e old ls → Reads limit e new (ls ++ t ∷ [])

abbrev pub NextHands : (old : ReaderState) → (t : List ℕ) → Option FoundList → Type 0
NextHands old t found = (limit : ℕ) (e : EntityTable) (ls : List (List ℕ)) → Reads limit e old ls → handed e (ls ++ t ∷ []) ≡ handed e ls ++ option_to_list (option_map found_unit found)

abbrev pub NextStands : (old : ReaderState) → Option FoundList → Type 0
NextStands old found = (limit : ℕ) (e : EntityTable) (ls : List (List ℕ)) → Reads limit e old ls → IfSome found (λ f. StandsForUnit e f (drop f.begin ls))

at_none : (limit : ℕ) (e : EntityTable) (b : ListBase) (r : ReaderState) (ls : List (List ℕ)) (t : List ℕ) (w : IsInside limit e b r ls) → NextHands r t None → handed e (w.l ∷ (w.own ++ t ∷ [])) ≡ []
at_none limit e b r ls t w hands = hands limit e (w.l ∷ w.own) w.reads ∙ append-nil (handed e (w.l ∷ w.own)) ∙ w.none

pub inside_on : (limit : ℕ) (e : EntityTable) (b : ListBase) (old new : ReaderState) (ls : List (List ℕ)) (t : List ℕ) → NextReads old new t → NextHands old t None → IsInside limit e b old ls →
    IsInside limit e b new (ls ++ t ∷ [])
inside_on limit e b old new ls t next hands w =
    let at = at_lines limit e b old ls w in
    let own = w.own ++ t ∷ [] in
    let is = at_more w.zs w.l w.own ls t w.is in
    let reads = next limit e (w.l ∷ w.own) w.reads in
    record {
      zs = w.zs;
      l = w.l;
      own = own;
      ys = w.ys;
      is = is;
      within = w.within;
      stands = w.stands;
      line = w.line;
      shallow =
          ap (first_too_deep limit) is
          ∙ at_deep limit e b w.zs w.l own (w.l ∷ w.own) at (ap (first_too_deep limit) (sym w.is) ∙ w.shallow)
          ∙ ap (moved_on (length w.zs)) (at_shallow limit e new (w.l ∷ own) reads);
      reads = reads;
      none = at_none limit e b old ls t w hands;
    }

at_handed : (limit : ℕ) (e : EntityTable) (b : ListBase) (r : ReaderState) (ls : List (List ℕ)) → IsInside limit e b r ls → handed e ls ≡ []
at_handed limit e b r ls w = ap (handed e) w.is ∙ (still_inside e b w.zs w.l w.own (at_lines limit e b r ls w) w.none).0

pub hands_on : (limit : ℕ) (e : EntityTable) (b : ListBase) (old : ReaderState) (ls : List (List ℕ)) (t : List ℕ) → NextHands old t None → IsInside limit e b old ls → handed e (ls ++ t ∷ []) ≡ handed e ls ++ []
hands_on limit e b old ls t hands w =
    ap (handed e) (at_more w.zs w.l w.own ls t w.is)
    ∙ (still_inside e b w.zs w.l (w.own ++ t ∷ []) (at_lines limit e b old ls w) (at_none limit e b old ls t w hands)).0
    ∙ sym (append-nil (handed e ls) ∙ at_handed limit e b old ls w)

pub deep_on : (limit : ℕ) (e : EntityTable) (b : ListBase) (old : ReaderState) (ls : List (List ℕ)) (t : List ℕ) →
    ((limit : ℕ) (e : EntityTable) (ls : List (List ℕ)) → Reads limit e old ls → first_too_deep limit (ls ++ t ∷ []) ≡ Some (length ls)) → IsInside limit e b old ls →
    first_too_deep limit (ls ++ t ∷ []) ≡ Some (length ls)
deep_on limit e b old ls t deep w =
    ap (first_too_deep limit) (at_more w.zs w.l w.own ls t w.is)
    ∙ at_deep limit e b w.zs w.l (w.own ++ t ∷ []) (w.l ∷ w.own) (at_lines limit e b old ls w) (ap (first_too_deep limit) (sym w.is) ∙ w.shallow)
    ∙ ap (moved_on (length w.zs)) (deep limit e (w.l ∷ w.own) w.reads)
    ∙ ap (λ z. Some z) (sym (ap length w.is ∙ length-append w.zs (w.l ∷ w.own)))

-- ---- where it ends

-- the unit of the lines from the item on is the one that begins there
record OneUnit (e : EntityTable) (ls : List (List ℕ)) (f : FoundList) : Type 0 where
  pub begin : f.begin ≡ 0
  pub lines : f.lines ≡ length ls

at_one_unit : (e : EntityTable) (b : ListBase) (zs : List (List ℕ)) (l : List ℕ) (own : List (List ℕ)) (f : FoundList) → AtItem e b zs l → handed e (l ∷ own) ≡ [] → units e (l ∷ own) ≡ found_unit f ∷ [] →
    OneUnit e (l ∷ own) f
at_one_unit e b zs l own f at none is =
    let ls = l ∷ own in
    let xs = map document_line ls in
    let o = at_one e b zs l own at none in
    let same : found_unit f ∷ [] ≡ o.head ∷ [] = sym is ∙ document_units e ls ∙ o.alone in
    let unit : found_unit f ≡ o.head = cc in
    let begin : f.begin ≡ 0 = ap (λ (u : FoundUnit). u.begin) unit ∙ o.head_line in
    let made = only_unit (groups e xs) (length xs) o.head o.alone in
    let size = lines_mapped ls in
    let head = o.head_line in
    let rest : length xs - o.head.begin ≡ length ls = omega (arith, size, head) in
    record { begin = begin; lines = ap (λ (u : FoundUnit). u.lines) unit ∙ ap (λ (u : FoundUnit). u.lines) made ∙ rest }

at_only : (e : EntityTable) (ls : List (List ℕ)) (t : List ℕ) (u : FoundUnit) → handed e ls ≡ [] → handed e (ls ++ t ∷ []) ≡ u ∷ [] → units e ls ≡ u ∷ []
at_only e ls t u none over = go (begins_after (summary_of e (lines_held [] (map document_line ls))) (document_line t)) (sym (handed_next e ls t) ∙ over)
  where
    go : (x : Bool) → (if x then units e ls else handed e ls) ≡ u ∷ [] → units e ls ≡ u ∷ []
    go true is = is
    go false is = absurd (let same : [] ≡ u ∷ [] = sym none ∙ is in let x : ⊥ = cc in x)

-- That list can be counted together with the base.
abbrev pub FewParts : ListBase → FoundList → Type 0
FewParts b f = (length b.list.unit.texts + length f.unit.texts ≤ most) × (length b.list.unit.definitions + length f.unit.definitions ≤ most)

-- the list of all lines
at_whole : (limit : ℕ) (e : EntityTable) (b : ListBase) (r : ReaderState) (ls : List (List ℕ)) (f : FoundList) (w : IsInside limit e b r ls) → units e (w.l ∷ w.own) ≡ found_unit f ∷ [] →
    StandsForUnit e f (drop f.begin (w.l ∷ w.own)) → (base_mark b).line + r.fed ≤ most → FewParts b f → StandsForUnit e (fronted_list b f) ls
at_whole limit e b r ls f w is stands room few =
    let at = at_lines limit e b r ls w in
    let one = at_one_unit e b w.zs w.l w.own f at w.none is in
    let fed = at_fed limit e r (w.l ∷ w.own) w.reads in
    let size = one.lines in
    let lines : (base_mark b).line + f.lines ≤ most = omega (arith, room, fed, size) in
    let own : StandsForUnit e f (w.l ∷ w.own) = subst (λ z. StandsForUnit e f (drop z (w.l ∷ w.own))) one.begin stands in
    subst (StandsForUnit e (fronted_list b f)) (sym w.is) (list_ended e b w.zs w.l w.own f at own (record { lines = lines; texts = few.0; definitions = few.1 }))

at_unit : (e : EntityTable) (f : FoundList) (ls : List (List ℕ)) → f.begin ≡ 0 → StandsForUnit e f ls → units e ls ≡ found_unit f ∷ []
unfolding StandsForUnit
at_unit e f ls begin w = w.0 ∙ ap (λ z. record { begin = z; lines = f.lines; unit = f.unit } ∷ []) (sym begin)

-- What a line hands out, where it ends the list: the list of all lines.
pub stands_over : (limit : ℕ) (e : EntityTable) (b : ListBase) (old : ReaderState) (ls : List (List ℕ)) (t : List ℕ) (f : FoundList) → NextHands old t (Some f) → NextStands old (Some f) →
    (base_mark b).line + old.fed ≤ most → FewParts b f → IsInside limit e b old ls → StandsForUnit e (fronted_list b f) ls
stands_over limit e b old ls t f hands stands room few w =
    let over : handed e (w.l ∷ (w.own ++ t ∷ [])) ≡ found_unit f ∷ [] = hands limit e (w.l ∷ w.own) w.reads ∙ ap (λ z. z ++ found_unit f ∷ []) w.none in
    at_whole limit e b old ls f w (at_only e (w.l ∷ w.own) t (found_unit f) w.none over) (stands limit e (w.l ∷ w.own) w.reads) room few

pub hands_over : (limit : ℕ) (e : EntityTable) (b : ListBase) (old : ReaderState) (ls : List (List ℕ)) (t : List ℕ) (f : FoundList) → NextHands old t (Some f) → NextStands old (Some f) →
    (base_mark b).line + old.fed ≤ most → FewParts b f → IsInside limit e b old ls → handed e (ls ++ t ∷ []) ≡ handed e ls ++ found_unit (fronted_list b f) ∷ []
hands_over limit e b old ls t f hands stands room few w =
    let at = at_lines limit e b old ls w in
    let over : handed e (w.l ∷ (w.own ++ t ∷ [])) ≡ found_unit f ∷ [] = hands limit e (w.l ∷ w.own) w.reads ∙ ap (λ z. z ++ found_unit f ∷ []) w.none in
    ap (handed e) (at_more w.zs w.l w.own ls t w.is)
    ∙ over_inside e b w.zs w.l w.own t (found_unit f) at w.none over
    ∙ ap (units e) (sym w.is)
    ∙ at_unit e (fronted_list b f) ls refl (stands_over limit e b old ls t f hands stands room few w)
    ∙ ap (λ z. z ++ found_unit (fronted_list b f) ∷ []) (sym (at_handed limit e b old ls w))

-- behind it the reader has read all lines
pub reads_over : (limit : ℕ) (e : EntityTable) (b : ListBase) (old new moved : ReaderState) (ls : List (List ℕ)) (t : List ℕ) (f : FoundList) → NextReads old new t → NextHands old t (Some f) →
    ((limit : ℕ) (e : EntityTable) (ls : List (List ℕ)) → Reads limit e new ls → moved ≡ moved_reading (base_mark b).line new) → IsInside limit e b old ls → Reads limit e moved (ls ++ t ∷ [])
reads_over limit e b old new moved ls t f next hands moves w =
    let at = at_lines limit e b old ls w in
    let own = w.own ++ t ∷ [] in
    let reads = next limit e (w.l ∷ w.own) w.reads in
    let over : handed e (w.l ∷ own) ≡ found_unit f ∷ [] = hands limit e (w.l ∷ w.own) w.reads ∙ ap (λ z. z ++ found_unit f ∷ []) w.none in
    let shallow : first_too_deep limit (w.zs ++ w.l ∷ own) ≡ None =
    at_deep limit e b w.zs w.l own (w.l ∷ w.own) at (ap (first_too_deep limit) (sym w.is) ∙ w.shallow) ∙ ap (moved_on (length w.zs)) (at_shallow limit e new (w.l ∷ own) reads) in
    let state : moved_reading (length w.zs) new ≡ moved = ap (λ z. moved_reading z new) (sym w.line) ∙ sym (moves limit e (w.l ∷ own) reads) in
    subst (Reads limit e moved) (sym (at_more w.zs w.l w.own ls t w.is))
    (subst (λ z. Reads limit e z (w.zs ++ w.l ∷ own)) state (reads_behind limit e b w.zs w.l w.own t (found_unit f) new at shallow w.none over reads))

-- ---- where the text ends

abbrev pub LastHands : (r : ReaderState) → Option FoundList → Type 0
LastHands r found = (limit : ℕ) (e : EntityTable) (ls : List (List ℕ)) → Reads limit e r ls → units e ls ≡ handed e ls ++ option_to_list (option_map found_unit found)

pub stands_last : (limit : ℕ) (e : EntityTable) (b : ListBase) (r : ReaderState) (ls : List (List ℕ)) (f : FoundList) → LastHands r (Some f) → NextStands r (Some f) →
    (base_mark b).line + r.fed ≤ most → FewParts b f → IsInside limit e b r ls → StandsForUnit e (fronted_list b f) ls
stands_last limit e b r ls f hands stands room few w =
    let is : units e (w.l ∷ w.own) ≡ found_unit f ∷ [] = hands limit e (w.l ∷ w.own) w.reads ∙ ap (λ z. z ++ found_unit f ∷ []) w.none in
    at_whole limit e b r ls f w is (stands limit e (w.l ∷ w.own) w.reads) room few

pub hands_last : (limit : ℕ) (e : EntityTable) (b : ListBase) (r : ReaderState) (ls : List (List ℕ)) (f : FoundList) → LastHands r (Some f) → NextStands r (Some f) →
    (base_mark b).line + r.fed ≤ most → FewParts b f → IsInside limit e b r ls → units e ls ≡ handed e ls ++ found_unit (fronted_list b f) ∷ []
hands_last limit e b r ls f hands stands room few w =
    at_unit e (fronted_list b f) ls refl (stands_last limit e b r ls f hands stands room few w)
    ∙ ap (λ z. z ++ found_unit (fronted_list b f) ∷ []) (sym (at_handed limit e b r ls w))

-- there is one
pub last_there : (limit : ℕ) (e : EntityTable) (b : ListBase) (r : ReaderState) (ls : List (List ℕ)) → LastHands r None → IsInside limit e b r ls → ⊥
last_there limit e b r ls hands w =
    let at = at_lines limit e b r ls w in
    let o = at_one e b w.zs w.l w.own at w.none in
    let none : units e (w.l ∷ w.own) ≡ [] = hands limit e (w.l ∷ w.own) w.reads ∙ append-nil (handed e (w.l ∷ w.own)) ∙ w.none in
    let same : o.head ∷ [] ≡ [] = sym (document_units e (w.l ∷ w.own) ∙ o.alone) ∙ none in
    let x : ⊥ = cc in
    x

-- ---- what is told of it

pub open_inside : (limit : ℕ) (e : EntityTable) (b : ListBase) (r : ReaderState) (ls : List (List ℕ)) (at : Option ℕ) → ((limit : ℕ) (e : EntityTable) (ls : List (List ℕ)) → Reads limit e r ls → at ≡ open_begin e ls) →
    IsInside limit e b r ls → at ≡ open_begin e ls
open_inside limit e b r ls at told w =
    let s = still_inside e b w.zs w.l w.own (at_lines limit e b r ls w) w.none in
    told limit e (w.l ∷ w.own) w.reads ∙ s.2 ∙ sym (ap (open_begin e) w.is ∙ s.1)

-- the lines behind the one that reading began with, but for the last
pub record LastLine (own : List (List ℕ)) : Type 0 where
  pub front : List (List ℕ)
  pub last : List ℕ
  pub is : own ≡ front ++ last ∷ []

pub last_line : (own : List (List ℕ)) → 1 ≤ length own → LastLine own
last_line [] some = absurd (omega (arith, some))
last_line (t ∷ []) some = record { front = []; last = t; is = refl }
last_line (t ∷ u ∷ own) some = let r = last_line (u ∷ own) (omega arith) in record { front = t ∷ r.front; last = r.last; is = ap (λ z. t ∷ z) r.is }

pub joined_on : (limit : ℕ) (e : EntityTable) (b : ListBase) (r : ReaderState) (ls : List (List ℕ)) → 2 ≤ r.fed → IsInside limit e b r ls → held_joined r.held ≡ is_joined e ls
joined_on limit e b r ls past w =
    let fed = at_fed limit e r (w.l ∷ w.own) w.reads in
    let t = last_line w.own (omega (arith, past, fed)) in
    reads_joined limit e r (w.l ∷ w.own) w.reads
    ∙ ap (λ z. is_joined e (w.l ∷ z)) t.is
    ∙ sym (joined_inside e b w.zs w.l t.front t.last (at_lines limit e b r ls w))
    ∙ ap (λ z. is_joined e (w.zs ++ w.l ∷ z)) (sym t.is)
    ∙ ap (is_joined e) (sym w.is)

-- ---- of either reader

pub reads_goes : (limit : ℕ) (e : EntityTable) (base : Option ListBase) (old new : ReaderState) (ls : List (List ℕ)) (t : List ℕ) → NextReads old new t → NextHands old t None →
    Follows limit e (record { base = base; reading = old }) ls → Follows limit e (record { base = base; reading = new }) (ls ++ t ∷ [])
reads_goes limit e None old new ls t next hands w = plain_follows limit e None new (ls ++ t ∷ []) refl (next limit e ls (follows_plain limit e None old ls refl w))
reads_goes limit e (Some b) old new ls t next hands w =
    inside_follows limit e (Some b) b new (ls ++ t ∷ []) refl (inside_on limit e b old new ls t next hands (follows_inside limit e (Some b) b old ls refl w))

pub hands_goes : (limit : ℕ) (e : EntityTable) (base : Option ListBase) (old : ReaderState) (ls : List (List ℕ)) (t : List ℕ) → NextHands old t None →
    Follows limit e (record { base = base; reading = old }) ls → handed e (ls ++ t ∷ []) ≡ handed e ls ++ []
hands_goes limit e None old ls t hands w = hands limit e ls (follows_plain limit e None old ls refl w)
hands_goes limit e (Some b) old ls t hands w = hands_on limit e b old ls t hands (follows_inside limit e (Some b) b old ls refl w)

pub deep_goes : (limit : ℕ) (e : EntityTable) (base : Option ListBase) (old : ReaderState) (ls : List (List ℕ)) (t : List ℕ) →
    ((limit : ℕ) (e : EntityTable) (ls : List (List ℕ)) → Reads limit e old ls → first_too_deep limit (ls ++ t ∷ []) ≡ Some (length ls)) → Follows limit e (record { base = base; reading = old }) ls →
    first_too_deep limit (ls ++ t ∷ []) ≡ Some (length ls)
deep_goes limit e None old ls t deep w = deep limit e ls (follows_plain limit e None old ls refl w)
deep_goes limit e (Some b) old ls t deep w = deep_on limit e b old ls t deep (follows_inside limit e (Some b) b old ls refl w)

pub last_goes : (limit : ℕ) (e : EntityTable) (base : Option ListBase) (r : ReaderState) (ls : List (List ℕ)) → LastHands r None → Follows limit e (record { base = base; reading = r }) ls → units e ls ≡ handed e ls ++ []
last_goes limit e None r ls hands w = hands limit e ls (follows_plain limit e None r ls refl w)
last_goes limit e (Some b) r ls hands w = absurd (last_there limit e b r ls hands (follows_inside limit e (Some b) b r ls refl w))

pub open_goes : (limit : ℕ) (e : EntityTable) (base : Option ListBase) (r : ReaderState) (ls : List (List ℕ)) (at : Option ℕ) → ((limit : ℕ) (e : EntityTable) (ls : List (List ℕ)) → Reads limit e r ls → at ≡ open_begin e ls) →
    Follows limit e (record { base = base; reading = r }) ls → at ≡ open_begin e ls
open_goes limit e None r ls at told w = told limit e ls (follows_plain limit e None r ls refl w)
open_goes limit e (Some b) r ls at told w = open_inside limit e b r ls at told (follows_inside limit e (Some b) b r ls refl w)

pub joined_goes : (limit : ℕ) (e : EntityTable) (base : Option ListBase) (r : ReaderState) (ls : List (List ℕ)) → IsPast (record { base = base; reading = r }) → Follows limit e (record { base = base; reading = r }) ls →
    held_joined r.held ≡ is_joined e ls
joined_goes limit e None r ls past w = reads_joined limit e r ls (follows_plain limit e None r ls refl w)
joined_goes limit e (Some b) r ls past w = joined_on limit e b r ls past (follows_inside limit e (Some b) b r ls refl w)
