-- Correct compilation of a function of a program.
use Rattle.std.specs.Prelude.{◌≡◌, pos, List, [], ◌∷◌, ◌++◌, length}
use Rattle.std.specs.List.{AllZip}
use Rattle.x64_insn.specs.declared.types.Insn.{Insn}
use Rattle.jz_io.specs.declared.verdict.Ct.{Ct}
use Rattle.jz_tree.specs.declared.program.Fun.{Fun}
use Rattle.jz_tree.specs.declared.program.Program.{Program}
use Rattle.jz_leak.specs.declared.transformer.Form.TheVariants as form
use Rattle.jz_leak.specs.declared.transformer.Out.TheVariants as out
use Rattle.jz_meaning.specs.Runs.{body_of}
use Rattle.jz_frames.specs.Functions.{own_names}
use Rattle.jz_listing.specs.declared.compiled.Compiled.{Compiled}
use Rattle.jz_correct.specs.Registers.{argument_registers, result_registers}
use Rattle.jz_correct.specs.Frames.{saved_of}
use Rattle.jz_correct.specs.Assembled.{AreSpelled}
use Rattle.jz_compiled.specs.Layout.{layout_of, frame_bytes}
use Rattle.jz_compiled.specs.Lines.{AreArgumentLines, AreResultLines, listed_preconditions}
use Rattle.jz_compiled.specs.Showing.{CasesStayIn, saving_accesses}
use Rattle.jz_compiled.specs.Matching.{CarriesOver}

-- Correct compilation of a function of a program, but for what is said of constant time.
pub record IsCompilation (p : Program) (f : Fun) (c : Compiled) : Type 0 where
  -- what a caller is told
  pub name : c.name ≡ f.name
  pub args : AreArgumentLines argument_registers f.params c.args
  pub rets : AreResultLines result_registers f.result f.rets c.rets
  pub pre : c.pre ≡ listed_preconditions f
  -- the code, its frame, and the preserved registers that it names
  pub insns : List Insn
  pub spelled : AreSpelled insns c.code
  pub counted : c.insns ≡ length insns
  pub frame : c.frame ≡ frame_bytes p f insns
  pub saved : c.saved ≡ saved_of insns
  -- the first list shows the slots of the saved registers, the last the same and then the slot of
  -- the return; the lists between them show of the frame the places of variables alone
  pub before : c.tr.before ≡ saving_accesses p f c
  pub after : c.tr.after ≡ saving_accesses p f c ++ out.Addr (form.Frame (pos 0)) ∷ []
  pub places : CasesStayIn (layout_of p f) c.frame own_names 1 (body_of p f) c.tr.body.cases
  -- what runs do
  pub carries : CarriesOver p f c

-- A compiled function is correct for a function of a program. IsJudged: what the listing says of
-- the function about constant time.
pub record IsCorrect (IsJudged : Program → Fun → Ct → Type 0) (p : Program) (f : Fun)
    (c : Compiled) : Type 0 where
  pub compilation : IsCompilation p f c
  pub ct : IsJudged p f c.ct

-- one for each export function, in the order of the text
abbrev pub AreCorrect :
    (Program → Fun → Ct → Type 0) → Program → List Fun → List Compiled → Type 0
AreCorrect IsJudged p fs cs = AllZip (IsCorrect IsJudged p) fs cs
