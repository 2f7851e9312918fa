use Rattle.std.proofs.Common.{◌≡◌, rules}
use Rattle.std.proofs.lemmas.Result.{err_from_is_err_and}
use Rattle.jz_parse.specs.Deriving.{DerivesProgram, IsSyntaxFault}
use Rattle.jz_resolve.specs.Programs.{resolved_program}
use Rattle.jz_types.specs.Rules.{IsTyped, IsFirstTypeFault}
use Rattle.jz_grammar.specs.Lexing.{IsLexed, HasNoToken}
use Rattle.jasminc_source.specs.declared.unread.Unread.TheVariants.{Lex, Parse, Typing}
use Rattle.jasminc_source.specs.Unreadable.{IsUnread}
use Rattle.jasminc_source.proofs.Causing.{reads_from}
use Rattle.jasminc_source.proofs.Stopping.{stage_refuses, ok_says, lexer_refuses, parser_refuses, typing_refuses}
use Rattle.jasminc_source.proofs.reading.typed_program.Goals as goal

pub returns-in_err-tokens-clause-refused : goal.returns-in_err-tokens-clause-refused
returns-in_err-tokens-clause-refused c =
    let text = c.args.text.now in
    let p = err_from_is_err_and c.from_residual.result c.from_residual.ensures.1 in
    rw (p.1, p.2) (stage_refuses (HasNoToken text) _ (IsUnread text) c.lex.result _ c.lex.ensures.fault
    (λ f r says becomes. let is : r ≡ Lex f = search rules in lexer_refuses text f r says is) c.in_err-tokens.ensures.refused)

pub returns-in_err-program-clause-refused : goal.returns-in_err-program-clause-refused
returns-in_err-program-clause-refused c =
    let text = c.args.text.now in
    let tokens = c.in_ok-tokens.tokens in
    let p = err_from_is_err_and c.from_residual-in_err-program.result c.from_residual-in_err-program.ensures.1 in
    let lexed = ok_says (IsLexed text) c.lex.result tokens c.in_ok-tokens.ensures.ok c.lex.ensures.tokens in
    rw (p.1, p.2) (stage_refuses (IsSyntaxFault tokens) _ (IsUnread text) c.parse.result _ c.parse.ensures.fault
    (λ f r says becomes. let is : r ≡ Parse f = search rules in parser_refuses text tokens f r lexed says is) c.in_err-program.ensures.refused)

pub returns-in_err-typed-clause-refused : goal.returns-in_err-typed-clause-refused
returns-in_err-typed-clause-refused c =
    let text = c.args.text.now in
    let tokens = c.in_ok-tokens.tokens in
    let program = c.in_ok-program.program in
    let p = err_from_is_err_and c.from_residual-in_err-typed.result c.from_residual-in_err-typed.ensures.1 in
    let lexed = ok_says (IsLexed text) c.lex.result tokens c.in_ok-tokens.ensures.ok c.lex.ensures.tokens in
    let derived = ok_says (DerivesProgram tokens) c.parse.result program c.in_ok-program.ensures.ok c.parse.ensures.program in
    let reads = reads_from text tokens program lexed derived in
    rw (p.1, p.2) (stage_refuses (IsFirstTypeFault program) _ (IsUnread text) c.check.result _ c.check.ensures.fault
    (λ f r says becomes. let is : r ≡ Typing f = search rules in typing_refuses text program f r reads says is) c.in_err-typed.ensures.refused)

pub returns-clause-program : goal.returns-clause-program
returns-clause-program c =
    let text = c.args.text.now in
    let tokens = c.in_ok-tokens.tokens in
    let program = c.in_ok-program.program in
    let typed = c.in_ok-typed.typed in
    let lexed = ok_says (IsLexed text) c.lex.result tokens c.in_ok-tokens.ensures.ok c.lex.ensures.tokens in
    let derived = ok_says (DerivesProgram tokens) c.parse.result program c.in_ok-program.ensures.ok c.parse.ensures.program in
    record {
      written = program;
      reads = reads_from text tokens program lexed derived;
      typed = ok_says (λ t. IsTyped program) c.check.result typed c.in_ok-typed.ensures.ok c.check.ensures.typed;
      is = ok_says (λ t. t.program ≡ resolved_program program) c.check.result typed c.in_ok-typed.ensures.ok c.check.ensures.resolved_program;
    }
