-- Causes in a text, and what excludes them.
use Rattle.std.proofs.Common.{◌≡◌, ℕ, ◌<◌, List, ◌∙◌, arith, subst, ap, sym}
use Rattle.jz_grammar.specs.Token.{Token}
use Rattle.jz_grammar.specs.LexFault.{LexFault}
use Rattle.jz_grammar.specs.Lexing.{IsLexed, HasNoToken}
use Rattle.jz_grammar.specs.declared.fault.SyntaxFault.{SyntaxFault}
use Rattle.jz_grammar.proofs.LexingUnique.{one_lexing, lexed_or_refused}
use Rattle.jz_tree.specs.declared.program.Program.{Program}
use Rattle.jz_parse.specs.Deriving.{DerivesProgram, IsSyntaxFault, most_nested}
use Rattle.jz_parse.specs.Reading.{Reads, LexFails, ParseFails}
use Rattle.jz_parse.proofs.Faults.{one_program_law, no_fault_law}
use Rattle.jz_resolve.specs.Programs.{resolved_program}
use Rattle.jz_types.specs.Rules.{IsFirstTypeFault}
use Rattle.jz_types.specs.TypedPrograms.{IsTypedProgram}
use Rattle.jz_types.specs.declared.fault.TypeFault.{TypeFault}
use Rattle.jasminc_source.specs.declared.unread.Unread.{Unread}
use Rattle.jasminc_source.specs.declared.unread.Unread.TheVariants.{Lex, Parse, Typing}
use Rattle.jasminc_source.specs.Texts.{TypesAs, FailsTyping}
use Rattle.jasminc_source.specs.Unreadable.{IsUnread, unread_stage}

-- ---- a text reads as one program
pub reads_from : (text : List ℕ) (tokens : List Token) (p : Program) → IsLexed text tokens → DerivesProgram tokens p → Reads text p
unfolding Reads
reads_from text tokens p l d = (tokens, l, d)

pub fails_from : (text : List ℕ) (tokens : List Token) (f : SyntaxFault) → IsLexed text tokens → IsSyntaxFault tokens f → ParseFails text f
unfolding ParseFails
fails_from text tokens f l d = (tokens, l, d)

pub has_no_token : (text : List ℕ) (f : LexFault) → HasNoToken text f → LexFails text f
unfolding LexFails
has_no_token text f h = h

reads_one : (text : List ℕ) (p q : Program) → Reads text p → Reads text q → p ≡ q
unfolding Reads
reads_one text p q a b =
    let same = one_lexing text a.0 b.0 a.1 b.1 in
    one_program_law most_nested b.0 p q (subst (λ ts. DerivesProgram ts p) same a.2) b.2

lexed_clear : (text : List ℕ) (tokens : List Token) (f : LexFault) → IsLexed text tokens → LexFails text f → ⊥
unfolding LexFails
lexed_clear text tokens f l h = lexed_or_refused text tokens f l h

reads_no_lex : (text : List ℕ) (p : Program) (f : LexFault) → Reads text p → LexFails text f → ⊥
unfolding Reads
reads_no_lex text p f a h = lexed_clear text a.0 f a.1 h

fails_no_lex : (text : List ℕ) (g : SyntaxFault) (f : LexFault) → ParseFails text g → LexFails text f → ⊥
unfolding ParseFails
fails_no_lex text g f a h = lexed_clear text a.0 f a.1 h

reads_no_parse : (text : List ℕ) (p : Program) (f : SyntaxFault) → Reads text p → ParseFails text f → ⊥
unfolding Reads ParseFails
reads_no_parse text p f a b =
    let same = one_lexing text a.0 b.0 a.1 b.1 in
    no_fault_law most_nested b.0 p f (subst (λ ts. DerivesProgram ts p) same a.2) b.2

-- ---- and types as one
pub types_one : (text : List ℕ) (p q : Program) → TypesAs text p → TypesAs text q → p ≡ q
types_one text p q a b = a.is ∙ ap resolved_program (reads_one text a.written b.written a.reads b.reads) ∙ sym b.is

types_no_fault : (text : List ℕ) (p : Program) (f : TypeFault) → TypesAs text p → FailsTyping text f → ⊥
types_no_fault text p f a b =
    let same = reads_one text b.program a.written b.reads a.reads in
    a.typed f.rule f.span (subst (λ (q : Program). IsFirstTypeFault q f) same b.first).fails

pub text_typed : (text : List ℕ) (p : Program) → TypesAs text p → IsTypedProgram p
text_typed text p t = record { source = t.written; typed = t.typed; same = t.is }

-- ---- a typed text has no such cause, and a text has but one
pub types_as_read : (text : List ℕ) (p : Program) → TypesAs text p → (u : Unread) → IsUnread text u → ⊥
types_as_read text p t (Lex f) c = reads_no_lex text t.written f t.reads c
types_as_read text p t (Parse f) c = reads_no_parse text t.written f t.reads c
types_as_read text p t (Typing f) c = types_no_fault text p f t c

pub first_unread : (text : List ℕ) (u v : Unread) → IsUnread text u → unread_stage v < unread_stage u → IsUnread text v → ⊥
first_unread text (Lex g) (Lex f) h lt c = absurd (omega (arith, lt))
first_unread text (Lex g) (Parse f) h lt c = absurd (omega (arith, lt))
first_unread text (Lex g) (Typing f) h lt c = absurd (omega (arith, lt))
first_unread text (Parse g) (Lex f) h lt c = fails_no_lex text g f h c
first_unread text (Parse g) (Parse f) h lt c = absurd (omega (arith, lt))
first_unread text (Parse g) (Typing f) h lt c = absurd (omega (arith, lt))
first_unread text (Typing g) (Lex f) h lt c = reads_no_lex text h.program f h.reads c
first_unread text (Typing g) (Parse f) h lt c = reads_no_parse text h.program f h.reads c
first_unread text (Typing g) (Typing f) h lt c = absurd (omega (arith, lt))

-- it comes before the stages behind reading
pub unread_early : (u : Unread) → unread_stage u < 5
unread_early (Lex f) = omega arith
unread_early (Parse f) = omega arith
unread_early (Typing f) = omega arith
