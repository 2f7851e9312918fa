-- Classes through the three passes of an expansion.
use Rattle.std.proofs.Common.{ℕ, sym, subst}
use Rattle.std.specs.Prelude.{Contains}
use Rattle.jz_tree.specs.declared.program.Fun.{Fun}
use Rattle.jz_tree.specs.declared.program.Program.{Program}
use Rattle.jz_type_names.specs.Scopes.{variables_of}
use Rattle.jz_types.specs.TypedPrograms.{IsTypedProgram}
use Rattle.jz_texts.specs.Texts.{IsText}
use Rattle.jz_change.specs.Changes.{Change}
use Rattle.jz_inline.proofs.Made.{inlined_is}
use Rattle.jz_expanded_types.specs.Inlined.{inlined_function}
use Rattle.jz_unrolling_values.specs.InlineNames.{inline_names}
use Rattle.jz_unrolling_values.specs.Numbers.{no_numbers}
use Rattle.jz_expanded_types.specs.Functions.{function_with_scalars, scalar_change}
use Rattle.jz_function_runs.specs.FunctionRuns.{plain_body}
use Rattle.jz_expanded_types.specs.CopiedKinds.{copied_kinds}
use Rattle.jz_expanded_types.specs.Expansions.{IsExpansion}
use Rattle.jz_expanded_types.proofs.Expanded.{copied, rounds, rewritten}
use Rattle.jz_copied_classes.specs.RowClasses.{IsClassedBody}
use Rattle.jz_copied_classes.specs.KeptRows.{IsRowedBody}
use Rattle.jz_copied_classes.proofs.Trees.{unrolled_are_classed, scalar_bodies_are_classed}
use Rattle.jz_copied_classes.proofs.Copies.{copies_have_classes}
use Rattle.jz_expanded_classes.specs.ClassedLaws.{ExpansionsAreClassed}

module _ (p : Program) (f g : Fun) (k : Change) (count : ℕ) (typed : IsTypedProgram p) (text : IsText p) (has : Contains p.funs f) (x : IsExpansion p f g k count) where
  rowed : IsRowedBody (plain_body (inlined_function p f))
  rowed = subst IsRowedBody (inlined_is p f) (copies_have_classes p f typed text has)

  unrolled : IsClassedBody (plain_body x.unrolled)
  unrolled =
      unrolled_are_classed (inline_names (variables_of (inlined_function p f))) no_numbers x.body.behind (plain_body (inlined_function p f)) (plain_body x.unrolled) x.rounds x.body.body
      (copied p f g k count typed text has x) rowed

  whole_classed : IsClassedBody (plain_body g)
  whole_classed =
      subst (λ h. IsClassedBody (plain_body h)) (sym x.function)
      (scalar_bodies_are_classed (copied_kinds p f) (plain_body x.unrolled) (plain_body (function_with_scalars x.unrolled)) (scalar_change x.unrolled) (rewritten p f g k count typed text has x) (rounds p f g k count typed text has x) unrolled)

pub expansions_are_classed : ExpansionsAreClassed
expansions_are_classed p f g k count typed text has x = whole_classed p f g k count typed text has x
