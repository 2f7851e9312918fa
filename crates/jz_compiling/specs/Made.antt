-- What compiling an expanded function makes of it.
use Rattle.std.specs.Prelude.{◌≡◌, Contains, All, None}
use Rattle.std.specs.List.{AllZip}
use Rattle.jz_tree.specs.declared.expr.Var.{Var}
use Rattle.jz_tree.specs.declared.program.Fun.{Fun}
use Rattle.jz_tree.specs.declared.program.Param.{Param}
use Rattle.jz_tree.specs.declared.program.Program.{Program}
use Rattle.jz_type_names.specs.Scopes.{variables_of}
use Rattle.jz_meaning.specs.Values.{ref_of, declared_kind}
use Rattle.jz_change.specs.Changes.{Change}
use Rattle.jz_change.specs.Composing.{compose_of}
use Rattle.jz_change.specs.Flattening.{flatten_of}
use Rattle.jz_change.specs.Views.{change_of}
use Rattle.jz_listing.specs.declared.compiled.Compiled.{Compiled}
use Rattle.jz_correct.specs.Registers.{argument_registers, result_registers}
use Rattle.jz_signature.specs.Declared.{Differ}
use Rattle.jz_lowering.specs.declared.functions.LoweredFun.{LoweredFun}
use Rattle.jz_lowering.specs.Functions.{IsFunctionLowered, KeepsRuns}
use Rattle.jz_code.specs.declared.code.MachineCode.{MachineCode}
use Rattle.jz_codable.specs.Ready.{IsReady}
use Rattle.jz_code.specs.Made.{IsCodeOf}
use Rattle.jz_joined.specs.Called.{HasCode}
use Rattle.jz_compiled.specs.Lines.{AreArgumentLines, AreResultLines, listed_preconditions}
use Rattle.jz_compiled.specs.Matching.{CarriesOver}
use Rattle.jz_signature.specs.Laws.{IsUseOf}
use Rattle.jz_joined.specs.Making.{IsExpandedTo, IsNeverStuck}

-- the function over variables of g and its machine code, with the transformer of both behind k
pub record IsMadeOf (g : Fun) (k : Change) (c : Compiled) : Type 0 where
  pub name : c.name ≡ g.name
  pub args : AreArgumentLines argument_registers g.params c.args
  pub rets : AreResultLines result_registers g.result g.rets c.rets
  pub pre : c.pre ≡ listed_preconditions g
  pub lowered : LoweredFun
  pub is_lowered : IsFunctionLowered g lowered (change_of lowered.change)
  pub keeps : KeepsRuns g lowered (change_of lowered.change)
  pub ready : IsReady lowered.ir
  pub code : MachineCode
  pub is_code : IsCodeOf lowered.ir lowered.stack code
  pub has : HasCode c code
  pub saved : c.saved ≡ code.saved
  pub transformer :
      c.tr ≡ flatten_of (compose_of k (change_of lowered.change)) code.transformer

-- what the expansion leaves of the head of a function
pub record KeepsHead (f g : Fun) : Type 0 where
  pub notes : g.notes ≡ f.notes
  pub name : g.name ≡ f.name
  pub params : g.params ≡ f.params
  pub rets : g.rets ≡ f.rets
  pub result : g.result ≡ f.result

-- a variable of the function that is used
pub record IsUsed (g : Fun) (x : Var) : Type 0 where
  pub variable : Var
  pub among : Contains (variables_of g) variable
  pub is : IsUseOf variable x

-- the variables differ, no parameter is a cell, and each result is a variable of the kind that is
-- declared
pub record HasPlainHead (g : Fun) : Type 0 where
  pub differ : Differ (variables_of g)
  pub params : All (λ (q : Param). (ref_of q.var).cell ≡ None) g.params
  pub results : All (IsUsed g) g.result
  pub kinds : AllZip (λ x t. (ref_of x).kind ≡ declared_kind t.decl) g.result g.rets

-- the law of an expanded function
abbrev pub ExpandedCarriesOver : Type 0
ExpandedCarriesOver =
    (p : Program) (f g : Fun) (k : Change) (c : Compiled) → Contains p.funs f
    → KeepsHead f g → IsExpandedTo p f g k → IsMadeOf g k c → HasPlainHead g
    → IsNeverStuck f g c → CarriesOver p f c
