-- What the refusals of stages say of those that they become.
use Rattle.std.proofs.Common.{◌≡◌, ℕ, List, sym, subst}
use Rattle.std.specs.Prelude.{Result, Ok, Err, IfOk, IfErr}
use Rattle.jz_tree.specs.Failure.{Failure}
use Rattle.jz_tree.specs.Failure.TheVariants as failure
use Rattle.jz_tree.specs.Failures.{IfRefused}
use Rattle.jz_grammar.specs.Token.{Token}
use Rattle.jz_grammar.specs.LexFault.{LexFault}
use Rattle.jz_grammar.specs.Lexing.{IsLexed, HasNoToken}
use Rattle.jz_grammar.specs.declared.fault.SyntaxFault.{SyntaxFault}
use Rattle.jz_tree.specs.declared.program.Program.{Program}
use Rattle.jz_parse.specs.Deriving.{IsSyntaxFault}
use Rattle.jz_parse.specs.Reading.{Reads}
use Rattle.jz_types.specs.Rules.{IsFirstTypeFault}
use Rattle.jz_types.specs.declared.fault.TypeFault.{TypeFault}
use Rattle.jasminc_source.specs.declared.unread.Unread.{Unread}
use Rattle.jasminc_source.specs.declared.unread.Unread.TheVariants.{Lex, Parse, Typing}
use Rattle.jasminc_source.specs.Stage.{ComesFrom}
use Rattle.jasminc_source.specs.Unreadable.{IsUnread}
use Rattle.jasminc_source.proofs.Causing.{has_no_token, fails_from}

-- what a stage says of its refusals holds of those that they become
pub stage_refuses : {A E R : Type 0} (Says : E → Type 0) (Becomes : E → R → Type 0) (P : R → Type 0)
    (answer : Result A (Failure E)) (e : Failure R) → IfErr answer (λ d. IfRefused d Says)
    → ((fault : E) (r : R) → Says fault → Becomes fault r → P r) → IfRefused e (ComesFrom Becomes answer) → IfRefused e P
stage_refuses Says Becomes P (Err (failure.Refused fault)) (failure.Refused r) says becomes from = becomes fault r says from
stage_refuses Says Becomes P (Err failure.OutOfMemory) (failure.Refused r) says becomes from = absurd from
stage_refuses Says Becomes P (Ok x) (failure.Refused r) says becomes from = absurd from
stage_refuses Says Becomes P answer failure.OutOfMemory says becomes from = tt

-- what a stage says of its value
pub ok_says : {A E : Type 0} (P : A → Type 0) (answer : Result A E) (x : A) → answer ≡ Ok x → IfOk answer P → P x
ok_says {A} {E} P answer x is says = subst (λ (r : Result A E). IfOk r P) is says

-- ---- reading
pub lexer_refuses : (text : List ℕ) (f : LexFault) (r : Unread) → HasNoToken text f → r ≡ Lex f → IsUnread text r
lexer_refuses text f r h is = subst (IsUnread text) (sym is) (has_no_token text f h)

pub parser_refuses : (text : List ℕ) (tokens : List Token) (f : SyntaxFault) (r : Unread) → IsLexed text tokens → IsSyntaxFault tokens f → r ≡ Parse f → IsUnread text r
parser_refuses text tokens f r l h is = subst (IsUnread text) (sym is) (fails_from text tokens f l h)

pub typing_refuses : (text : List ℕ) (p : Program) (f : TypeFault) (r : Unread) → Reads text p → IsFirstTypeFault p f → r ≡ Typing f → IsUnread text r
typing_refuses text p f r reads h is = subst (IsUnread text) (sym is) (record { program = p; reads = reads; first = h })
