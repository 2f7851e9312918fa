use Rattle.std.proofs.Common.{◌≡◌, subst}
use Rattle.jz_grammar.proofs.LexingUnique.{one_lexing}
use Rattle.jz_parse.specs.Deriving.{DerivesProgram, most_nested}
use Rattle.jz_parse.specs.Reading.{Reads}
use Rattle.jz_parse.proofs.Faults.{one_program_law}
use Rattle.jz_parse.proofs.read.one_reading.Goals as goal

pub returns : goal.returns
unfolding Reads
returns c = λ text program other a b.
    one_program_law most_nested b.0 program other (subst (λ tokens. DerivesProgram tokens program) (one_lexing text a.0 b.0 a.1 b.1) a.2) b.2
