-- The head of an expansion: its parameters are words with different names, its results are words, and
-- no variable holds a number that is known when the text is compiled.
use Rattle.std.specs.Prelude.{◌≡◌, ℕ, Bool, true, All, Contains}
use Rattle.jz_tree.specs.declared.program.Fun.{Fun}
use Rattle.jz_tree.specs.declared.program.Param.{Param}
use Rattle.jz_tree.specs.declared.program.Program.{Program}
use Rattle.jz_type_rows.specs.Exports.{is_exported}
use Rattle.jz_types.specs.TypedPrograms.{IsTypedProgram}
use Rattle.jz_texts.specs.Texts.{IsText}
use Rattle.jz_meaning.specs.States.{Key}
use Rattle.jz_meaning.specs.Values.{ref_of}
use Rattle.jz_run_laws.specs.Kinds.{Kinds}
use Rattle.jz_change.specs.Changes.{Change}
use Rattle.jz_plain_expansions.specs.Expansions.{IsExpansion}
use Rattle.jz_standing.specs.Typing.{NoNumbers, IsScalar}
use Rattle.jz_fact_entry.specs.Entry.{DifferByName}
use Rattle.jz_never_stuck.specs.Fine.{AreResults}
use Rattle.jz_never_stuck.specs.Safety.{SharesHead}
use Rattle.jz_plain_expansions.specs.Variables.{frame_of}
use Rattle.jz_plain_expansions.specs.PlainExpansions.{expanded_kinds}

pub record IsFineHead (kinds : Kinds) (in_frame : Key → Bool) (g : Fun) : Type 0 where
  pub no_numbers : NoNumbers kinds
  pub params : All (λ (q : Param). IsScalar kinds in_frame (ref_of q.var)) g.params
  pub differ : DifferByName g.params
  pub results : AreResults kinds in_frame g.result

abbrev pub HeadsAreFine : Type 0
HeadsAreFine =
    (p : Program) (f g : Fun) (k : Change) (count : ℕ)
    → IsTypedProgram p → IsText p → Contains p.funs f → is_exported f.kind ≡ true
    → IsExpansion p f g k count
    → IsFineHead (expanded_kinds p f) (frame_of p f) g × SharesHead f g
