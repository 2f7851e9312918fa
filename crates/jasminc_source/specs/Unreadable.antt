-- Why a text has no typed program: the table of causes.
use Rattle.std.specs.Prelude.{ℕ, List}
use Rattle.jz_parse.specs.Reading.{LexFails, ParseFails}
use Rattle.jasminc_source.specs.declared.unread.Unread.{Unread}
use Rattle.jasminc_source.specs.declared.unread.Unread.TheVariants.{Lex, Parse, Typing}
use Rattle.jasminc_source.specs.Texts.{FailsTyping}

abbrev pub IsUnread : List ℕ → Unread → Type 0
IsUnread text (Lex fault) = LexFails text fault
IsUnread text (Parse fault) = ParseFails text fault
IsUnread text (Typing fault) = FailsTyping text fault

-- lexer, parser, typing, by their numbers among the stages of all commands
abbrev pub unread_stage : Unread → ℕ
unread_stage (Lex fault) = 2
unread_stage (Parse fault) = 3
unread_stage (Typing fault) = 4
