-- What the command makes of words.
use Rattle.std.specs.Prelude.{◌≡◌, ◌≢◌, List, [], None, ⊤}
use Rattle.clap.specs.Words.{Text, fault_of, subcommand_rows_of}
use Rattle.jasminc_words.specs.Commands.{jasminc_app}
use Rattle.jasminc_words.specs.Wanted.{wanted_command, wanted_in}
use Rattle.jasminc_words.specs.declared.command.Taken.{Taken}
use Rattle.jasminc_words.specs.declared.command.Taken.TheVariants as taken

-- the words are a command exactly where there are matches, which tell what is asked for
abbrev pub Matches : List Text → Taken → Type 0
Matches words (taken.Matches m) =
    (fault_of jasminc_app words ≡ []) × (wanted_command words ≡ wanted_in (subcommand_rows_of m))
Matches words taken.Refused = (fault_of jasminc_app words ≢ []) × (wanted_command words ≡ None)
Matches words taken.OutOfMemory = ⊤
