-- Parts of a compiled function, and the function.
use Rattle.std.specs.Prelude.{◌≡◌, ℕ, List}
use Rattle.jz_io.specs.declared.verdict.Ct.{Ct}
use Rattle.jz_tree.specs.declared.program.Fun.{Fun}
use Rattle.jz_change.specs.Composing.{compose_of}
use Rattle.jz_change.specs.Flattening.{flatten_of}
use Rattle.jz_change.specs.Views.{change_of}
use Rattle.jz_listing.specs.declared.compiled.Compiled.{Compiled}
use Rattle.jz_correct.specs.Registers.{argument_registers, result_registers}
use Rattle.jz_code.specs.declared.code.MachineCode.{MachineCode}
use Rattle.jz_joined.specs.Called.{HasCode}
use Rattle.jz_compiled.specs.Lines.{AreArgumentLines, AreResultLines, listed_preconditions}
use Rattle.jz_compiling.specs.declared.compiling.Both.{Both}
use Rattle.jz_compiling.specs.declared.compiling.Head.{Head}

-- what is listed for callers
pub record IsHeadOf (g : Fun) (h : Head) : Type 0 where
  pub args : AreArgumentLines argument_registers g.params h.args
  pub rets : AreResultLines result_registers g.result g.rets h.rets
  pub pre : h.pre ≡ listed_preconditions g

pub record IsPutTogether (called : List ℕ) (h : Head) (b : Both) (m : MachineCode) (said : Ct)
    (c : Compiled) : Type 0 where
  pub name : c.name ≡ called
  pub args : c.args ≡ h.args
  pub rets : c.rets ≡ h.rets
  pub pre : c.pre ≡ h.pre
  pub has : HasCode c m
  pub saved : c.saved ≡ m.saved
  pub transformer :
      c.tr ≡ flatten_of (compose_of (change_of b.first) (change_of b.second)) m.transformer
  pub ct : c.ct ≡ said
