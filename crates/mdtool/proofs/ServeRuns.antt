-- Commands that were replied to, one after the other.
use Rattle.std.proofs.Common.{◌≡◌, ℕ, ◌+◌, Bool, true, false, List, [], ◌∷◌, ◌++◌, drop, length, Option, Some, None, refl, ap, sym, ◌∙◌, subst, append-nil, append_assoc, arith}
use Rattle.std.proofs.lemmas.List.{map-append}
use Rattle.std.proofs.Math.Seq.{drop-append_seam}
use Rattle.mdtool.specs.Bytes.{Takes, AtEnd, Gains, GainsFront}
use Rattle.mdview.specs.Document.{Document}
use Rattle.mdtool.specs.Commands.{Command, Stop, Leads, first_command, script_lines, capped}
use Rattle.mdtool.specs.Replies.{ScriptTurn, held_behind}
use Rattle.mdtool.specs.Pending.{Pending, MayFollow, Reads, Draws, fresh}
use Rattle.mdtool.specs.ScriptEnds.{AllReplied, Begins, Ends, Replied, RepliedInPart, RepliedWhole, commands_of}
use Rattle.mdtool.specs.Steps.{StopsAt, ReadsCommand}
use Rattle.mdtool.proofs.Devices.{front_more, gains_more, takes_more}
use Rattle.mdtool.proofs.Readings.{reads_nothing, reads_on, draws_nothing}

-- what is held behind these turns
abbrev pub held_after : Document → List ScriptTurn → Document
held_after old [] = old
held_after old (turn ∷ turns) = held_after (held_behind old turn.command turn.starved) turns

held_more : (old : Document) (turns : List ScriptTurn) (turn : ScriptTurn) → held_after old (turns ++ turn ∷ []) ≡ held_behind (held_after old turns) turn.command turn.starved
held_more old [] turn = refl
held_more old (first ∷ turns) turn = held_more (held_behind old first.command first.starved) turns turn

replied_more : (Says : Document → ScriptTurn → List ℕ → Type 0) (old : Document) (turns : List ScriptTurn) (bytes : List ℕ) (turn : ScriptTurn) (more : List ℕ)
    → AllReplied Says old turns bytes → Says (held_after old turns) turn more → AllReplied Says old (turns ++ turn ∷ []) (bytes ++ more)
replied_more Says old [] bytes turn more all one = (more, [], ap (λ bs. bs ++ more) all ∙ sym (append-nil more), one, refl)
replied_more Says old (head ∷ turns) bytes turn more (first, rest, is, said, others) one =
    (first, rest ++ more, ap (λ bs. bs ++ more) is ∙ append_assoc first rest more, said, replied_more Says (held_behind old head.command head.starved) turns rest turn more others one)

leads_more : (commands : List Command) (n : ℕ) (lines : List (List ℕ)) (n' : ℕ) (lines' : List (List ℕ)) (command : Command) (size : ℕ)
    → Leads n lines commands n' lines' → first_command lines' ≡ Some (command, size)
    → Leads n lines (commands ++ command ∷ []) (capped (n' + size)) (drop size lines')
unfolding Leads
leads_more [] n lines n' lines' command size leads first =
    (size, ap first_command (sym leads.1) ∙ first, (ap (λ k. capped (k + size)) leads.0, ap (drop size) leads.1))
leads_more (c ∷ commands) n lines n' lines' command size leads first =
    (leads.0, leads.1, leads_more commands (capped (n + leads.0)) (drop leads.0 lines) n' lines' command size leads.2 first)

leads_none : (n n' : ℕ) (lines : List (List ℕ)) → n' ≡ n → Leads n lines [] n' lines
unfolding Leads
leads_none n n' lines e = (e, refl)

-- these turns were taken: the lines that were read are those of their commands
pub record Progress (left left' : Option (List ℕ)) (script : Pending) (turns : List ScriptTurn) : Type 0 where
  pub lines : List (List ℕ)
  pub reads : Reads left fresh lines left' script
  pub leads : (rest : List (List ℕ)) → Leads 1 (lines ++ rest) (commands_of turns) (capped (script.lines + 1)) rest

-- and they were replied to, which left this document
pub record Run (Says : Document → ScriptTurn → List ℕ → Type 0) (old : Document) (left left' : Option (List ℕ)) (script : Pending) (written written' : Option (List ℕ)) (held : Document) : Type 0 where
  pub turns : List ScriptTurn
  pub bytes : List ℕ
  pub progress : Progress left left' script turns
  pub holds : held ≡ held_after old turns
  pub all : AllReplied Says old turns bytes
  pub gained : Gains written bytes written'

gains_nothing : (written : Option (List ℕ)) → Gains written [] written
gains_nothing None = refl
gains_nothing (Some bytes) = ap Some (sym (append-nil bytes))

progress_start : (left : Option (List ℕ)) (script : Pending) → script ≡ fresh → Progress left left script []
progress_start left script script_is = record {
  lines = [];
  reads = subst (λ (p : Pending). Reads left fresh [] left p) (sym script_is) (reads_nothing left fresh);
  leads = λ rest. leads_none 1 _ rest (ap (λ (p : Pending). capped (p.lines + 1)) script_is);
}

pub run_start : {Says : Document → ScriptTurn → List ℕ → Type 0} (old : Document) (left written : Option (List ℕ)) (script : Pending) (held : Document)
    → script ≡ fresh → held ≡ old → Run Says old left left script written written held
run_start old left written script held script_is held_is = record {
  turns = [];
  bytes = [];
  progress = progress_start left script script_is;
  holds = held_is;
  all = refl;
  gained = gains_nothing written;
}

progress_more : (a b c : Option (List ℕ)) (script script' : Pending) (turns : List ScriptTurn) (turn : ScriptTurn)
    → Progress a b script turns → ReadsCommand b script c script' turn.command → Progress a c script' (turns ++ turn ∷ [])
progress_more a b c script script' turns turn progress read = record {
  lines = progress.lines ++ read.lines;
  reads = reads_on a b c fresh script script' progress.lines read.lines progress.reads read.reads;
  leads = λ rest.
      let more = leads_more (commands_of turns) 1 (progress.lines ++ (read.lines ++ rest)) (capped (script.lines + 1)) (read.lines ++ rest) turn.command (length read.lines) (progress.leads (read.lines ++ rest)) (read.first rest) in
      let number : capped (capped (script.lines + 1) + length read.lines) ≡ capped (script'.lines + 1) = omega (arith, read.reads.count) in
      let commands : commands_of turns ++ turn.command ∷ [] ≡ commands_of (turns ++ turn ∷ []) = sym (map-append (λ (t : ScriptTurn). t.command) turns (turn ∷ [])) in
      let L : List (List ℕ) → List Command → ℕ → List (List ℕ) → Type 0 = λ ls cs n rs. Leads 1 ls cs n rs in
      subst (λ (ls : List (List ℕ)). L ls (commands_of (turns ++ turn ∷ [])) (capped (script'.lines + 1)) rest) (sym (append_assoc progress.lines read.lines rest))
      (subst (λ (cs : List Command). L (progress.lines ++ (read.lines ++ rest)) cs (capped (script'.lines + 1)) rest) commands
      (subst (λ (n : ℕ). L (progress.lines ++ (read.lines ++ rest)) (commands_of turns ++ turn.command ∷ []) n rest) number
      (subst (λ (rs : List (List ℕ)). L (progress.lines ++ (read.lines ++ rest)) (commands_of turns ++ turn.command ∷ []) (capped (capped (script.lines + 1) + length read.lines)) rs) (drop-append_seam read.lines rest) more)));
}

-- the reply to one more command
next_reply : (Says : Document → ScriptTurn → List ℕ → Type 0) (old held held' : Document) (turns : List ScriptTurn) (bytes more : List ℕ) (command : Command)
    → held ≡ held_after old turns → AllReplied Says old turns bytes → (replied : Replied Says held command more held')
    → AllReplied Says old (turns ++ (record { command = command; starved = replied.starved }) ∷ []) (bytes ++ more)
next_reply Says old held held' turns bytes more command holds all replied =
    let turn : ScriptTurn = record { command = command; starved = replied.starved } in
    replied_more Says old turns bytes turn more all (subst (λ (d : Document). Says d turn more) holds replied.said)

pub run_more : {Says : Document → ScriptTurn → List ℕ → Type 0} (old : Document) (a b c : Option (List ℕ)) (script script' : Pending) (w w' w'' : Option (List ℕ)) (held held' : Document) (command : Command) (bytes : List ℕ)
    → Run Says old a b script w w' held → ReadsCommand b script c script' command → Replied Says held command bytes held' → Gains w' bytes w'' → Run Says old a c script' w w'' held'
run_more {Says} old a b c script script' w w' w'' held held' command bytes run read replied gains =
    let turn : ScriptTurn = record { command = command; starved = replied.starved } in
    record {
      turns = run.turns ++ turn ∷ [];
      bytes = run.bytes ++ bytes;
      progress = progress_more a b c script script' run.turns turn run.progress read;
      holds = replied.holds ∙ ap (λ (d : Document). held_behind d command replied.starved) run.holds ∙ sym (held_more old run.turns turn);
      all = next_reply Says old held held' run.turns run.bytes bytes command run.holds run.all replied;
      gained = gains_more w w' w'' run.bytes bytes run.gained gains;
    }

never_ended : (left : Option (List ℕ)) → false ≡ true → AtEnd left
never_ended left e = absurd (cc)

-- the lines of all that was taken
all_lines : (a b : Option (List ℕ)) (script : Pending) (turns : List ScriptTurn) (progress : Progress a b script turns) (taken : List ℕ) (ended : Bool) → MayFollow script taken ended
    → script_lines ended (progress.reads.taken ++ taken) ≡ progress.lines ++ script_lines ended (script.bytes ++ taken)
all_lines a b script turns progress taken ended may = progress.reads.reads taken ended may

progress_stops : (a b c : Option (List ℕ)) (script : Pending) (turns : List ScriptTurn) (stop : Stop) → Progress a b script turns → StopsAt b script c stop → Ends a c turns stop
progress_stops a b c script turns stop progress stops =
    let may : MayFollow script stops.taken stops.ended = record { follows = stops.stays } in
    let lines = all_lines a b script turns progress stops.taken stops.ended may in
    let rest = script_lines stops.ended (script.bytes ++ stops.taken) in
    let leads : Leads 1 (script_lines stops.ended (progress.reads.taken ++ stops.taken)) (commands_of turns) (capped (script.lines + 1)) rest =
    subst (λ (ls : List (List ℕ)). Leads 1 ls (commands_of turns) (capped (script.lines + 1)) rest) (sym lines) (progress.leads rest) in
    record {
      bytes = progress.reads.taken ++ stops.taken;
      ended = stops.ended;
      taken = takes_more a b c progress.reads.taken stops.taken progress.reads.takes stops.takes;
      at_end = stops.at_end (progress.reads.at_end (never_ended a));
      script = (capped (script.lines + 1), rest, leads, stops.none, stops.stop_is);
    }

pub run_stops : {Says : Document → ScriptTurn → List ℕ → Type 0} (old : Document) (a b c : Option (List ℕ)) (script : Pending) (w w' : Option (List ℕ)) (held : Document) (stop : Stop)
    → Run Says old a b script w w' held → StopsAt b script c stop → RepliedWhole Says old a c w w' stop
run_stops old a b c script w w' held stop run stops =
    record { turns = run.turns; bytes = run.bytes; ends = progress_stops a b c script run.turns stop run.progress stops; all = run.all; gained = run.gained }

end_stays : (b c : Option (List ℕ)) (taken : List ℕ) → taken ≡ [] → Takes b taken c → AtEnd b → AtEnd c
end_stays None None taken e takes end = tt
end_stays None (Some left) taken e takes end = absurd (cc)
end_stays (Some left) None taken e takes end = tt
end_stays (Some left) (Some left') taken e takes end =
    let same : left' ≡ takes.0 = let t = takes.1 in cc in
    let none : [] ++ takes.0 ≡ [] = sym (takes.2 ∙ ap (λ bs. bs ++ takes.0) e) ∙ end in
    same ∙ none

-- what was taken where the work breaks off behind these turns
progress_breaks : (a b c : Option (List ℕ)) (script : Pending) (turns : List ScriptTurn) → Progress a b script turns → Draws b script.is_ended c → Begins a c turns
progress_breaks a b c script turns progress draws =
    let may : MayFollow script draws.taken script.is_ended = record { follows = λ e. (draws.stays e, e) } in
    let lines = all_lines a b script turns progress draws.taken script.is_ended may in
    let rest = script_lines script.is_ended (script.bytes ++ draws.taken) in
    record {
      bytes = progress.reads.taken ++ draws.taken;
      ended = script.is_ended;
      next = capped (script.lines + 1);
      rest = rest;
      taken = takes_more a b c progress.reads.taken draws.taken progress.reads.takes draws.takes;
      at_end = λ e. end_stays b c draws.taken (draws.stays e) draws.takes (progress.reads.at_end (never_ended a) e);
      leads = subst (λ (ls : List (List ℕ)). Leads 1 ls (commands_of turns) (capped (script.lines + 1)) rest) (sym lines) (progress.leads rest);
    }

-- memory ended the work before the next reply
pub run_starves : {Says : Document → ScriptTurn → List ℕ → Type 0} (old : Document) (a b c : Option (List ℕ)) (script : Pending) (w w' : Option (List ℕ)) (held : Document)
    → Run Says old a b script w w' held → Draws b script.is_ended c → RepliedInPart Says old a c w w'
run_starves old a b c script w w' held run draws = record {
  turns = run.turns;
  bytes = run.bytes;
  begins = progress_breaks a b c script run.turns run.progress draws;
  all = run.all;
  gained = (run.bytes, [], sym (append-nil run.bytes), run.gained);
}

-- the out failed in the next reply
pub run_breaks : {Says : Document → ScriptTurn → List ℕ → Type 0} (old : Document) (a b c : Option (List ℕ)) (script script' : Pending) (w w' w'' : Option (List ℕ)) (held held' : Document) (command : Command) (bytes : List ℕ)
    → Run Says old a b script w w' held → ReadsCommand b script c script' command → Replied Says held command bytes held' → GainsFront w' bytes w'' → RepliedInPart Says old a c w w''
run_breaks {Says} old a b c script script' w w' w'' held held' command bytes run read replied front =
    let turn : ScriptTurn = record { command = command; starved = replied.starved } in
    let progress = progress_more a b c script script' run.turns turn run.progress read in
    record {
      turns = run.turns ++ turn ∷ [];
      bytes = run.bytes ++ bytes;
      begins = progress_breaks a c c script' (run.turns ++ turn ∷ []) progress (draws_nothing c script'.is_ended);
      all = next_reply Says old held held' run.turns run.bytes bytes command run.holds run.all replied;
      gained = front_more w w' w'' run.bytes bytes run.gained front;
    }
