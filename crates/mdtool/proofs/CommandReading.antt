-- A command that was read, or where the script stops before one.
use Rattle.std.proofs.Common.{◌≡◌, ℕ, ◌+◌, Bool, true, false, leb, List, [], ◌∷◌, ◌++◌, take, length, Option, Some, None, Err, refl, ap, sym, ◌∙◌, subst, append-nil, length-append, arith}
use Rattle.std.proofs.Math.Seq.{take-append_seam}
use Rattle.std.proofs.lemmas.Bool.Decides.{nat_tests}
use Rattle.mdtool.specs.declared.fault.ToolFault.{ToolFault}
use Rattle.mdtool.specs.declared.fault.ToolFault.TheVariants.{Read, Truncated, NoMemory}
use Rattle.mdtool.specs.Commands.{Command, Html, Change, Head, HtmlHead, Stop, Open, Bad, Short, head_of, command_of, with_texts, first_command, stop_of, stop_at, script_lines, capped}
use Rattle.mdsource.specs.Calls.{Call}
use Rattle.mdtool.specs.Pending.{Pending, MayFollow, Reads, Draws, HasLine, IsOver, used}
use Rattle.mdtool.specs.Steps.{Steps, StopsAt, ReadsCommand, FewLines, ReadsTexts, NextCommand, NextTexts}
use Rattle.mdtool.proofs.Readings.{draws_on, reads_on, reads_line}

stop_cons : (ended : Bool) (n : ℕ) (line : List ℕ) (lines : List (List ℕ)) → stop_at ended n (line ∷ lines) ≡ stop_of (head_of line) ended n
stop_cons true n line lines = refl
stop_cons false n line lines = refl

-- the lines of all that was taken, where nothing more comes
all_lines : (a c : Option (List ℕ)) (o n : Pending) (lines : List (List ℕ)) (read : Reads a o lines c n)
    → script_lines n.is_ended (o.bytes ++ read.taken) ≡ lines ++ script_lines n.is_ended n.bytes
all_lines a c o n lines read =
    let now : MayFollow n [] n.is_ended = record { follows = λ e. (refl, e) } in
    ap (λ bs. script_lines n.is_ended (o.bytes ++ bs)) (sym (append-nil read.taken))
    ∙ read.reads [] n.is_ended now
    ∙ ap (λ bs. lines ++ script_lines n.is_ended bs) (append-nil n.bytes)

stops : (a c : Option (List ℕ)) (o n : Pending) (lines all : List (List ℕ)) (stop : Stop) → Reads a o lines c n → lines ++ script_lines n.is_ended n.bytes ≡ all
    → first_command all ≡ None → stop ≡ stop_at n.is_ended (capped (o.lines + 1)) all → StopsAt a o c stop
stops a c o n lines all stop read is none stop_is =
    let e = all_lines a c o n lines read ∙ is in
    record {
      taken = read.taken;
      ended = n.is_ended;
      takes = read.takes;
      stays = read.stays;
      at_end = read.at_end;
      none = ap first_command e ∙ none;
      stop_is = stop_is ∙ ap (stop_at n.is_ended (capped (o.lines + 1))) (sym e);
    }

-- no line is left
pub over_stops : (a c : Option (List ℕ)) (o n : Pending) (ended : Bool) → Reads a o [] c n → IsOver ended n → StopsAt a o c (stop_at ended (capped (o.lines + 1)) [])
over_stops a c o n ended read over =
    stops a c o n [] [] _ read (ap (λ e. script_lines e n.bytes) over.is_ended ∙ over.no_line) refl (ap (λ e. stop_at e (capped (o.lines + 1)) []) (sym over.is_ended))

-- a line was read that begins a command, or none
pub head_read : (a c : Option (List ℕ)) (o m u : Pending) (len : ℕ) (line : List ℕ) → Reads a o [] c m → HasLine len m → u ≡ used len m → line ≡ take len m.bytes
    → Reads a o (line ∷ []) c u
head_read a c o m u len line read has u_is line_is =
    let P : Pending → List ℕ → Type 0 = λ p l. Reads a o (l ∷ []) c p in
    let now : Reads a o (take len m.bytes ∷ []) c (used len m) = reads_on a c c o m (used len m) [] (take len m.bytes ∷ []) read (reads_line c m (used len m) len has refl refl (omega arith)) in
    subst (λ (l : List ℕ). Reads a o (l ∷ []) c u) (sym line_is) (subst (λ (p : Pending). Reads a o (take len m.bytes ∷ []) c p) (sym u_is) now)

-- its number
pub head_number : (a c : Option (List ℕ)) (o m u : Pending) (len : ℕ) → Reads a o [] c m → u ≡ used len m → u.lines ≡ capped (o.lines + 1)
head_number a c o m u len read u_is =
    let e : u.lines ≡ capped (m.lines + 1) = ap (λ (p : Pending). p.lines) u_is in
    omega (arith, read.count)

pub bad_stops : (a c : Option (List ℕ)) (o n : Pending) (line : List ℕ) (number : ℕ) → Reads a o (line ∷ []) c n → head_of line ≡ None → number ≡ capped (o.lines + 1)
    → StopsAt a o c (Bad number)
bad_stops a c o n line number read none is =
    let rest = script_lines n.is_ended n.bytes in
    stops a c o n (line ∷ []) (line ∷ rest) (Bad number) read refl (rw none refl)
    (ap Bad is ∙ sym (stop_cons n.is_ended (capped (o.lines + 1)) line rest ∙ ap (λ h. stop_of h n.is_ended (capped (o.lines + 1))) none))

-- fewer lines stand below a head than it asks for
pub few_stops : (a b c : Option (List ℕ)) (o p n : Pending) (line : List ℕ) (head : Head) (call : List (List ℕ) → Call) (add : ℕ) (ended : Bool) → Reads a o (line ∷ []) b p
    → head_of line ≡ Some head → ((lines : List (List ℕ)) → command_of (Some head) lines ≡ with_texts add call lines) → FewLines b p c n ended add
    → StopsAt a o c (stop_of (Some head) ended (capped (o.lines + 1)))
few_stops a b c o p n line head call add ended read is asks few =
    let not_all : leb add (length few.lines) ≡ false = grind (arith, nat_tests, few.few) in
    let rest : script_lines n.is_ended n.bytes ≡ [] = ap (λ e. script_lines e n.bytes) few.over.is_ended ∙ few.over.no_line in
    let none : with_texts add call few.lines ≡ None = rw not_all refl in
    stops a c o n (line ∷ few.lines) (line ∷ few.lines) _ (reads_on a b c o p n (line ∷ []) few.lines read few.reads)
    (ap (λ ls. line ∷ (few.lines ++ ls)) rest ∙ ap (λ ls. line ∷ ls) (append-nil few.lines))
    (ap (λ h. command_of h few.lines) is ∙ asks few.lines ∙ none)
    (sym (stop_cons n.is_ended (capped (o.lines + 1)) line few.lines ∙ ap (λ h. stop_of h n.is_ended (capped (o.lines + 1))) is ∙ ap (λ e. stop_of (Some head) e (capped (o.lines + 1))) few.over.is_ended))

pub html_read : (a c : Option (List ℕ)) (o n : Pending) (line : List ℕ) → Reads a o (line ∷ []) c n → head_of line ≡ Some HtmlHead → ReadsCommand a o c n Html
html_read a c o n line read head = record { lines = line ∷ []; reads = read; first = λ rest. rw head refl }

-- the lines stand below it
pub texts_read : (a b c : Option (List ℕ)) (o p n : Pending) (line : List ℕ) (head : Head) (call : List (List ℕ) → Call) (add : ℕ) (texts : List (List ℕ)) → Reads a o (line ∷ []) b p
    → head_of line ≡ Some head → ((lines : List (List ℕ)) → command_of (Some head) lines ≡ with_texts add call lines) → ReadsTexts b p c n add texts
    → ReadsCommand a o c n (Change (call texts))
texts_read a b c o p n line head call add texts read is asks more = record {
  lines = line ∷ more.lines;
  reads = reads_on a b c o p n (line ∷ []) more.lines read more.reads;
  first = λ rest.
      let enough : leb add (length (more.lines ++ rest)) ≡ true = grind (arith, nat_tests, more.all, length-append more.lines rest) in
      let front : take add (more.lines ++ rest) ≡ more.lines = ap (λ k. take k (more.lines ++ rest)) (sym more.all) ∙ take-append_seam more.lines rest in
      let size : add + 1 ≡ length (line ∷ more.lines) = omega (arith, more.all) in
      let F : List (List ℕ) → ℕ → Option (Command × ℕ) = λ ls k. Some (Change (call ls), k) in
      let all : with_texts add call (more.lines ++ rest) ≡ F texts (length (line ∷ more.lines)) =
      rw (enough, front) (ap (λ ls. F ls (add + 1)) (sym more.texts_are) ∙ ap (F texts) size) in
      ap (λ h. command_of h (more.lines ++ rest)) is ∙ asks (more.lines ++ rest) ∙ all;
}

-- the step that fails where a command is read
pub fails_first : {T : Type 0} (fault : ToolFault) (ok : T → Type 0) (read memory : Type 0) (a : Option (List ℕ)) (o : Pending) (c : Option (List ℕ)) (n : Pending)
    → (read → StopsAt a o c Open) → (memory → Draws a o.is_ended c) → Steps {T = T} (Err fault) ok read memory → NextCommand (Err fault) a o c n
fails_first Read ok read memory a o c n f g h = f h
fails_first NoMemory ok read memory a o c n f g h = g h
fails_first _ ok read memory a o c n f g h = absurd h

-- lines that can't be read below its head end it so
pub texts_stop : (fault : ToolFault) (a b c : Option (List ℕ)) (o p n : Pending) (line : List ℕ) (head : Head) (call : List (List ℕ) → Call) (number add : ℕ) → Reads a o (line ∷ []) b p
    → head_of line ≡ Some head → ((lines : List (List ℕ)) → command_of (Some head) lines ≡ with_texts add call lines) → number ≡ capped (o.lines + 1)
    → NextTexts (Err fault) number add b p c n → NextCommand (Err fault) a o c n
texts_stop Read a b c o p n line head call number add read is asks at few = few_stops a b c o p n line head call add false read is asks few
texts_stop (Truncated named) a b c o p n line head call number add read is asks at (same, few) =
    subst (λ (k : ℕ). StopsAt a o c (Short k)) (sym (same ∙ at)) (few_stops a b c o p n line head call add true read is asks few)
texts_stop NoMemory a b c o p n line head call number add read is asks at draws = draws_on a b c o p (line ∷ []) read draws
texts_stop _ a b c o p n line head call number add read is asks at end = absurd end
