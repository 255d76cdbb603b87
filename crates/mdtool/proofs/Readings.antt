-- Lines read off the front of what is pending.
use Rattle.std.proofs.Common.{◌≡◌, ℕ, ◌+◌, Bool, List, [], ◌∷◌, ◌++◌, take, drop, Option, refl, ap, sym, ◌∙◌, append_assoc, append-nil, length-append, arith, inl, inr}
use Rattle.std.proofs.lemmas.List.{take_all, drop_all}
use Rattle.mdtool.specs.Commands.{script_lines, capped}
use Rattle.mdtool.specs.Pending.{Pending, MayFollow, Reads, Draws, HasLine}
use Rattle.mdtool.proofs.Devices.{takes_nothing, takes_more}
use Rattle.mdtool.proofs.ScriptLines.{lines_cut, lines_lone, lines_done, cut_at}

pub reads_nothing : (left : Option (List ℕ)) (p : Pending) → Reads left p [] left p
reads_nothing left p = record {
  taken = [];
  takes = takes_nothing left;
  reads = λ future ended may. refl;
  count = omega arith;
  stays = λ e. (refl, e);
  at_end = λ h. h;
}

pub reads_on : (a b c : Option (List ℕ)) (o p n : Pending) (x y : List (List ℕ)) → Reads a o x b p → Reads b p y c n → Reads a o (x ++ y) c n
reads_on a b c o p n x y first second = record {
  taken = first.taken ++ second.taken;
  takes = takes_more a b c first.taken second.taken first.takes second.takes;
  reads = λ future ended may.
      let between : MayFollow p (second.taken ++ future) ended = record {
        follows = λ e. let q = second.stays e in let r = may.follows q.1 in (rw (q.0, r.0) refl, r.1);
      } in
      ap (λ xs. script_lines ended (o.bytes ++ xs)) (append_assoc first.taken second.taken future)
      ∙ first.reads (second.taken ++ future) ended between
      ∙ ap (λ ls. x ++ ls) (second.reads future ended may)
      ∙ sym (append_assoc x y (script_lines ended (n.bytes ++ future)));
  count = omega (arith, length-append x y, first.count, second.count);
  stays = λ e. let q = first.stays e in let r = second.stays q.1 in (rw (q.0, r.0) refl, r.1);
  at_end = λ h. second.at_end (first.at_end h);
}

pub draws_nothing : (left : Option (List ℕ)) (is_ended : Bool) → Draws left is_ended left
draws_nothing left is_ended = record { taken = []; takes = takes_nothing left; stays = λ e. refl }

pub draws_of : (a b : Option (List ℕ)) (o p : Pending) (x : List (List ℕ)) → Reads a o x b p → Draws a o.is_ended b
draws_of a b o p x first = record { taken = first.taken; takes = first.takes; stays = λ e. (first.stays e).0 }

pub draws_on : (a b c : Option (List ℕ)) (o p : Pending) (x : List (List ℕ)) → Reads a o x b p → Draws b p.is_ended c → Draws a o.is_ended c
draws_on a b c o p x first second = record {
  taken = first.taken ++ second.taken;
  takes = takes_more a b c first.taken second.taken first.takes second.takes;
  stays = λ e. let q = first.stays e in rw (q.0, second.stays q.1) refl;
}

-- the pending bytes begin with a line, whatever follows
pub front_line : (len : ℕ) (p : Pending) → HasLine len p → (future : List ℕ) (ended : Bool) → MayFollow p future ended
    → script_lines ended (p.bytes ++ future) ≡ take len p.bytes ∷ script_lines ended (drop (len + 1) p.bytes ++ future)
front_line len p has future ended may = elim has.ends [
  | inl cut ↦
      ap (λ bytes. script_lines ended (bytes ++ future)) (cut_at p.bytes len cut.0 cut.1)
      ∙ ap (script_lines ended) (append_assoc (take len p.bytes) (10 ∷ drop (len + 1) p.bytes) future)
      ∙ lines_cut ended (take len p.bytes) (drop (len + 1) p.bytes ++ future) has.unbroken
  | inr end ↦
      let q = may.follows end.2 in
      let all : take len p.bytes ≡ p.bytes = take_all len p.bytes (omega (arith, end.0)) in
      let none : drop (len + 1) p.bytes ≡ [] = drop_all (len + 1) p.bytes (omega (arith, end.0)) in
      rw (q.0, q.1, all, none, append-nil, lines_done) (lines_lone p.bytes (rw all at has.unbroken) (omega (arith, end.0, end.1)))
]

-- a line is used
pub reads_line : (left : Option (List ℕ)) (p n : Pending) (len : ℕ) → HasLine len p → n.bytes ≡ drop (len + 1) p.bytes → n.is_ended ≡ p.is_ended → capped n.lines ≡ capped (p.lines + 1)
    → Reads left p (take len p.bytes ∷ []) left n
reads_line left p n len has bytes is_ended lines = record {
  taken = [];
  takes = takes_nothing left;
  reads = λ future ended may.
      let now : MayFollow p future ended = record { follows = λ e. may.follows (is_ended ∙ e) } in
      front_line len p has future ended now ∙ ap (λ bs. take len p.bytes ∷ script_lines ended (bs ++ future)) (sym bytes);
  count = lines;
  stays = λ e. (refl, is_ended ∙ e);
  at_end = λ h e. h (sym is_ended ∙ e);
}
