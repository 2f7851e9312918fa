-- The lines that tell refusals, without their line feeds.
use Rattle.std.specs.Prelude.{ℕ, List, [], ◌∷◌, ◌++◌, codes, decimal}
use Rattle.std.specs.List.{concat}
use Rattle.x64_insn.specs.declared.types.Flag.{Flag}
use Rattle.x64_insn.specs.declared.types.Flag.TheVariants as flag
use Rattle.x64_insn.specs.declared.types.Place.{Place}
use Rattle.x64_insn.specs.declared.types.Place.TheVariants as place
use Rattle.jz_grammar.specs.LexKind.{LexKind}
use Rattle.jz_grammar.specs.LexKind.TheVariants.{BadByte, BadNumber, OpenComment}
use Rattle.jz_grammar.specs.LexFault.{LexFault}
use Rattle.jz_grammar.specs.declared.fault.SyntaxKind.{SyntaxKind}
use Rattle.jz_grammar.specs.declared.fault.SyntaxKind.TheVariants.{Unexpected, TooDeep}
use Rattle.jz_grammar.specs.declared.fault.SyntaxFault.{SyntaxFault}
use Rattle.jz_alloc.specs.declared.needs.Needed.{Needed}
use Rattle.jz_text.specs.Texts.{reg_text, span_text}

abbrev pub lex_name : LexKind → List ℕ
lex_name BadByte = codes "BadByte"
lex_name BadNumber = codes "BadNumber"
lex_name OpenComment = codes "OpenComment"

abbrev pub lexer_line : LexFault → List ℕ
lexer_line f = codes "syntax " ++ lex_name f.kind ++ codes " " ++ span_text f.span

unfoldable pub syntax_name : SyntaxKind → List ℕ
syntax_name Unexpected = codes "Unexpected"
syntax_name TooDeep = codes "TooDeep"

abbrev pub parser_line : SyntaxFault → List ℕ
parser_line f =
    codes "syntax " ++ syntax_name f.kind ++ codes " " ++ span_text f.span
    ++ codes " token " ++ decimal f.token

-- ---- a variable without a place
abbrev pub flag_text : Flag → List ℕ
flag_text flag.Cf = codes "cf"
flag_text flag.Of = codes "of"
flag_text flag.Sf = codes "sf"
flag_text flag.Pf = codes "pf"
flag_text flag.Zf = codes "zf"

unfoldable pub place_text : Place → List ℕ
place_text (place.Reg r) = reg_text r
place_text (place.Flag f) = flag_text f

unfoldable pub need_text : Needed → List ℕ
need_text k = codes " " ++ place_text k.place ++ codes "@" ++ span_text k.span

-- the texts of a list, a dash where it is empty
abbrev pub texts_or_dash : List (List ℕ) → List ℕ
texts_or_dash [] = codes " -"
texts_or_dash (t ∷ ts) = concat (t ∷ ts)
