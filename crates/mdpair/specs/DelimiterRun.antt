-- Which delimiter runs may open and close emphasis together (CommonMark 6.2; of tildes: GFM Strikethrough (extension)).
use Rattle.std.specs.Prelude.{◌+◌, ◌%◌, Bool, true, false, ◌&&◌, ◌||◌, not, eqb}
use Rattle.mdpair.specs.declared.delimiter_runs.DelimiterChar.{DelimiterChar}
use Rattle.mdpair.specs.declared.delimiter_runs.DelimiterChar.TheVariants.{Asterisk, Underscore, Tilde}
use Rattle.mdpair.specs.declared.delimiter_runs.DelimiterRun.{DelimiterRun}

abbrev pub same_delimiter : DelimiterChar → DelimiterChar → Bool
same_delimiter Asterisk Asterisk = true
same_delimiter Underscore Underscore = true
same_delimiter Tilde Tilde = true
same_delimiter _ _ = false

-- a run that can both open and close
abbrev pub can_both : DelimiterRun → Bool
can_both r = r.can_open && r.can_close

-- Rules 9 and 10: if one of the two runs can both open and close, the sum of their lengths is no multiple of 3, unless both lengths are.
abbrev pub lengths_fit : DelimiterRun → DelimiterRun → Bool
lengths_fit opener closer =
    not (can_both opener || can_both closer) || not (eqb ((opener.length + closer.length) % 3) 0)
    || (eqb (opener.length % 3) 0 && eqb (closer.length % 3) 0)

-- Strikethrough is between runs of equal length.
abbrev pub lengths_match : DelimiterChar → DelimiterRun → DelimiterRun → Bool
lengths_match Tilde opener closer = eqb opener.length closer.length
lengths_match _ opener closer = lengths_fit opener closer

-- whether the first may open what the second, a closer, closes
abbrev pub is_admissible : DelimiterRun → DelimiterRun → Bool
is_admissible opener closer =
    opener.can_open && same_delimiter opener.delimiter closer.delimiter && lengths_match closer.delimiter opener closer
