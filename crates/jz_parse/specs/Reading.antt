-- The program that a text reads as, and why it reads as none.
use Rattle.std.specs.Prelude.{ℕ, List}
use Rattle.jz_grammar.specs.Token.{Token}
use Rattle.jz_grammar.specs.LexFault.{LexFault}
use Rattle.jz_grammar.specs.Lexing.{IsLexed, HasNoToken}
use Rattle.jz_grammar.specs.declared.fault.SyntaxFault.{SyntaxFault}
use Rattle.jz_tree.specs.declared.program.Program.{Program}
use Rattle.jz_parse.specs.Deriving.{DerivesProgram, IsSyntaxFault}

-- the text has tokens, and the grammar derives the program from them
unfoldable pub Reads : List ℕ → Program → Type 0
Reads text p = (tokens : List Token) × IsLexed text tokens × DerivesProgram tokens p

-- at this place the text has no token, and before it has
unfoldable pub LexFails : List ℕ → LexFault → Type 0
LexFails text f = HasNoToken text f

-- the text has tokens, and this is the first of them that is wrong
unfoldable pub ParseFails : List ℕ → SyntaxFault → Type 0
ParseFails text f = (tokens : List Token) × IsLexed text tokens × IsSyntaxFault tokens f
