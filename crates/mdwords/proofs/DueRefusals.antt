-- Words are refused as clap's error or its matches say.
use Rattle.std.proofs.Common.{◌≡◌, ◌∙◌, ◌⊎◌, [], List, ap, inl, inr, subst, sym, true}
use Rattle.clap.specs.Words.{App, HasMatchesOf, IsAmong, Kinds, Text, fault_of, found_of, is_simple, is_simple_and_free, matches_of, rows_of}
use Rattle.clap.specs.declared.error.kind.ErrorKind.{ErrorKind}
use Rattle.clap.specs.declared.error.kind.ErrorKind.TheVariants.{OutOfMemory}
use Rattle.clap.specs.declared.parser.matches.ArgMatches.{ArgMatches}
use Rattle.mdwords.specs.declared.word_faults.WordFault.{WordFault}
use Rattle.mdwords.specs.declared.word_faults.WordFault.TheVariants.{Help, Version, NotUnderstood, NoMemory}
use Rattle.mdwords.specs.ToolWords.{program_of, tool_app}
use Rattle.mdwords.specs.WordRefusals.{RefusesMatches, RefusesWords, TellsKind, faults_of}
use Rattle.mdwords.proofs.ToolApps.{tool_is_free, tool_is_simple}

-- what clap says of the faults of a program's words
pub said_of_faults : (P : Kinds → Type 0) (app : App) (name : Text) (words : List Text) → app ≡ tool_app name → name ≡ program_of words
    → (is_simple_and_free app ≡ true → P (fault_of app words)) → P (faults_of words)
said_of_faults P app name words is first said =
    subst (λ n. P (fault_of (tool_app n) words)) first
    (subst (λ a. P (fault_of a words)) is (said (subst (λ a. is_simple_and_free a ≡ true) (sym is) (tool_is_free name))))

-- and of their matches
pub said_of_rows : (app : App) (name : Text) (words : List Text) (matches : ArgMatches) → app ≡ tool_app name → name ≡ program_of words
    → HasMatchesOf app words matches → rows_of (found_of matches) ≡ matches_of (tool_app (program_of words)) words
said_of_rows app name words matches is first said =
    (said (subst (λ a. is_simple a ≡ true) (sym is) (tool_is_simple name))).0 ∙ ap (λ a. matches_of a words) (is ∙ ap tool_app first)

pub due_by_error : (words : List Text) (kind : ErrorKind) (fault : WordFault)
    → (kind ≡ OutOfMemory) ⊎ IsAmong kind (faults_of words) → TellsKind kind fault → RefusesWords words fault
due_by_error words kind (Help text) (inl starved) told = absurd (let x : ⊥ = cc in x)
due_by_error words kind (Help text) (inr among) told = subst (λ k. IsAmong k (faults_of words)) told among
due_by_error words kind Version (inl starved) told = absurd (let x : ⊥ = cc in x)
due_by_error words kind Version (inr among) told = subst (λ k. IsAmong k (faults_of words)) told among
due_by_error words kind NotUnderstood (inl starved) told = absurd (told.2 starved)
due_by_error words kind NotUnderstood (inr among) told = inl (kind, told, among)
due_by_error words kind NoMemory among told = tt

pub due_by_matches : (words : List Text) (matches : ArgMatches) (fault : WordFault) → faults_of words ≡ []
    → rows_of (found_of matches) ≡ matches_of (tool_app (program_of words)) words → RefusesMatches matches fault → RefusesWords words fault
due_by_matches words matches (Help text) taken rows refused = absurd refused
due_by_matches words matches Version taken rows refused = absurd refused
due_by_matches words matches NotUnderstood taken rows refused = inr (record { taken = taken; matches = matches; rows = rows; declined = refused })
due_by_matches words matches NoMemory taken rows refused = tt
