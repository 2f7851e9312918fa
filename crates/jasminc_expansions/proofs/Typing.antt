-- A typed text is a program of a text.
use Rattle.std.proofs.Common.{ℕ, List, subst, sym}
use Rattle.jz_tree.specs.declared.program.Program.{Program}
use Rattle.jz_parse.specs.Reading.{Reads}
use Rattle.jz_texts.specs.Texts.{IsText}
use Rattle.jz_texts.proofs.Reading.{read_so}
use Rattle.jz_texts.proofs.Resolved.{stays}
use Rattle.jasminc_source.specs.Texts.{TypesAs}

pub text_text : (text : List ℕ) (p : Program) → TypesAs text p → IsText p
unfolding Reads
text_text text p t = subst IsText (sym t.is) (stays t.written (read_so text t.reads.0 t.written t.reads.1 t.reads.2))
