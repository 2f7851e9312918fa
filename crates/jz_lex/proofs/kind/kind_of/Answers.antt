use Rattle.std.proofs.Common.{◌≡◌, [], ◌∙◌, sym, ap, rules}
use Rattle.jz_lex.specs.declared.token.TokenKind.TheVariants.{Num, Sign}
use Rattle.jz_lex.specs.LexingWords.{kind_of_word}
use Rattle.jz_lex.proofs.LexingWords.{word_ascii, sign_ascii}
use Rattle.jz_lex.proofs.LexingFront.{shape_word, shape_number, shape_sign}
use Rattle.jz_lex.proofs.kind.kind_of.Goals as goal

pub text_of-requires : goal.text_of-requires
text_of-requires c = sign_ascii c.args.lexeme.now [] (shape_sign c.args.lexeme.now [] c.requires.lexeme (c.requires.shape ∙ c.in-Sign.is)).0

pub text_of-requires-in-Word : goal.text_of-requires-in-Word
text_of-requires-in-Word c = word_ascii c.args.lexeme.now (shape_word c.args.lexeme.now (c.requires.shape ∙ c.in-Word.is)).0

pub returns-in_ok-text_of-in-Sign : goal.returns-in_ok-text_of-in-Sign
returns-in_ok-text_of-in-Sign c = ap Sign c.in_ok-text_of-in-Sign.ensures ∙ sym (shape_sign c.args.lexeme.now [] c.requires.lexeme (c.requires.shape ∙ c.in-Sign.is)).1

pub returns-in-Number : goal.returns-in-Number
returns-in-Number c =
    let kind : kind_of_word c.args.lexeme.now ≡ Num c.in-Number.value = shape_number c.args.lexeme.now c.in-Number.value (c.requires.shape ∙ c.in-Number.is) in
    search (rules, kind)
