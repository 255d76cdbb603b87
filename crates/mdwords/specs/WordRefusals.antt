-- Which words are refused, and as what.
use Rattle.std.specs.Prelude.{◌≡◌, ◌≢◌, ◌⊎◌, ◌<◌, ⊤, [], List, IsNone, IsSome, IsSomeAnd, IfSome, codes, drop, true, false}
use Rattle.std.specs.List.{list_all, prefix_len}
use Rattle.clap.specs.Words.{IsAmong, Kinds, Text, fault_of, first_value, found_of, matches_of, rows_of}
use Rattle.clap.specs.declared.error.kind.ErrorKind.{ErrorKind}
use Rattle.clap.specs.declared.error.kind.ErrorKind.TheVariants.{DisplayHelp, DisplayVersion, OutOfMemory}
use Rattle.clap.specs.declared.parser.matches.ArgMatches.{ArgMatches}
use Rattle.mdwords.specs.declared.tool_words.Words.{Words}
use Rattle.mdwords.specs.declared.word_faults.WordFault.{WordFault}
use Rattle.mdwords.specs.declared.word_faults.WordFault.TheVariants.{Help, Version, NotUnderstood, NoMemory}
use Rattle.mdwords.specs.Numbers.{number}
use Rattle.mdwords.specs.ToolWords.{WordsRead, is_extension, is_on, is_zero, program_of, tool_app, values_of}

-- the kinds of clap's faults of a program's words: mistakes in them, or calls for the help or the version
abbrev pub faults_of : List Text → Kinds
faults_of words = fault_of (tool_app (program_of words)) words

-- a kind of mistake
abbrev pub IsMistake : ErrorKind → Type 0
IsMistake kind = (kind ≢ DisplayHelp) × (kind ≢ DisplayVersion) × (kind ≢ OutOfMemory)

-- one is among these
abbrev pub HasMistake : Kinds → Type 0
HasMistake kinds = (kind : ErrorKind) × IsMistake kind × IsAmong kind kinds

-- the word is no limit: no number of at most nine digits behind zeros, or one that is 0 or more than 256
abbrev pub IsNoLimit : Text → Type 0
IsNoLimit word = IfSome (number (drop (prefix_len is_zero word) word)) (λ value. (value ≡ 0) ⊎ (256 < value))

-- clap's matches ask for what the programs decline
pub data MatchesDeclined (matches : ArgMatches) : Type 0 where
  -- both kinds of line breaks
  two_breaks : (is_on matches (codes "hardbreaks") ≡ true) × (is_on matches (codes "nobreaks") ≡ true) → MatchesDeclined matches
  -- a file of names of entities, and all those of HTML
  two_names : IsSome (first_value (found_of matches) (codes "entities")) × (is_on matches (codes "html-entities") ≡ true) → MatchesDeclined matches
  -- a number of containers or of spans that is no limit
  containers : IsSomeAnd (first_value (found_of matches) (codes "max-containers")) IsNoLimit → MatchesDeclined matches
  spans : IsSomeAnd (first_value (found_of matches) (codes "max-spans")) IsNoLimit → MatchesDeclined matches
  -- another format than HTML
  format : IsSomeAnd (first_value (found_of matches) (codes "to")) (λ name. name ≢ codes "html") → MatchesDeclined matches
  -- a width that is no number
  width : IsSomeAnd (first_value (found_of matches) (codes "width")) (λ word. IsNone (number word)) → MatchesDeclined matches
  -- another extension than those that are always on
  extension : list_all is_extension (values_of matches (codes "extension")) ≡ false → MatchesDeclined matches

-- clap takes the words, and the programs decline what they ask for
pub record WordsDeclined (words : List Text) : Type 0 where
  pub taken : faults_of words ≡ []
  pub matches : ArgMatches
  pub rows : rows_of (found_of matches) ≡ matches_of (tool_app (program_of words)) words
  pub declined : MatchesDeclined matches

-- this refusal of the words is due
abbrev pub RefusesWords : List Text → WordFault → Type 0
-- they call for the help
RefusesWords words (Help text) = IsAmong DisplayHelp (faults_of words)
-- they call for the version
RefusesWords words Version = IsAmong DisplayVersion (faults_of words)
-- they have a mistake, or are declined
RefusesWords words NotUnderstood = HasMistake (faults_of words) ⊎ WordsDeclined words
-- memory may be wanting for any words
RefusesWords words NoMemory = ⊤

-- an error of clap of this kind is told so, or memory is wanting
abbrev pub TellsKind : ErrorKind → WordFault → Type 0
TellsKind kind (Help text) = kind ≡ DisplayHelp
TellsKind kind Version = kind ≡ DisplayVersion
TellsKind kind NotUnderstood = IsMistake kind
TellsKind kind NoMemory = ⊤

-- the words are not understood, for this reason
abbrev pub NotUnderstoodFor : Type 0 → WordFault → Type 0
NotUnderstoodFor reason fault = (fault ≡ NotUnderstood) × reason

-- the refusal of these matches is due, or memory is wanting
abbrev pub RefusesMatches : ArgMatches → WordFault → Type 0
RefusesMatches matches (Help text) = ⊥
RefusesMatches matches Version = ⊥
RefusesMatches matches NotUnderstood = MatchesDeclined matches
RefusesMatches matches NoMemory = ⊤

-- what was read is what all words say of which these are clap's matches
abbrev pub IsReadOf : ArgMatches → Words → Type 0
IsReadOf matches read = (words : List Text) → rows_of (found_of matches) ≡ matches_of (tool_app (program_of words)) words → WordsRead words read
