-- Types through the three passes of an expansion.
use Rattle.std.proofs.Common.{ℕ, refl, sym, subst}
use Rattle.std.specs.Prelude.{Contains}
use Rattle.jz_tree.specs.declared.program.Fun.{Fun}
use Rattle.jz_tree.specs.declared.program.Program.{Program}
use Rattle.jz_type_names.specs.Scopes.{variables_of}
use Rattle.jz_types.specs.TypedPrograms.{IsTypedProgram}
use Rattle.jz_texts.specs.Texts.{IsText}
use Rattle.jz_runs.specs.Trees.{done}
use Rattle.jz_meaning.specs.Statements.{Block}
use Rattle.jz_typed_runs.specs.TypedTexts.{IsTypedText}
use Rattle.jz_change.specs.Changes.{Change}
use Rattle.jz_pass.specs.Unrolling.{Unrolls}
use Rattle.jz_pass.specs.Rewriting.{Rewrites}
use Rattle.jz_inline.proofs.Made.{inlined_is}
use Rattle.jz_expansion.specs.Inlined.{inlined_function}
use Rattle.jz_unroll.specs.Unrolling.{unrolling}
use Rattle.jz_unrolling_values.specs.InlineNames.{inline_names}
use Rattle.jz_unrolling_values.specs.Numbers.{no_numbers}
use Rattle.jz_arrays.specs.Arrays.{arrays}
use Rattle.jz_expansion.specs.Functions.{function_with_scalars, scalar_change}
use Rattle.jz_expansion.specs.Ready.{IsReady}
use Rattle.jz_expansion.proofs.Keeping.{keeps_runs}
use Rattle.jz_function_runs.specs.FunctionRuns.{plain_body}
use Rattle.jz_expansion.specs.CopiedKinds.{copied_kinds}
use Rattle.jz_expansion.proofs.Whole.{ready_law}
use Rattle.jz_expansion.specs.Expansions.{IsExpansion}
use Rattle.jz_kept_types.specs.Operations.{IsTypedBody}
use Rattle.jz_kept_types.proofs.Trees.{unrolled_stay, scalar_bodies_stay}
use Rattle.jz_copied_types.proofs.Copies.{copies_are_typed}
use Rattle.jz_expanded_types.specs.ExpandedLaws.{ExpansionsAreTyped}

module _ (p : Program) (f g : Fun) (k : Change) (count : ℕ) (typed : IsTypedProgram p) (text : IsText p) (has : Contains p.funs f) (x : IsExpansion p f g k count) where
  whole : IsTypedText p
  whole = record { typed = typed; text = text }

  pub copied : IsTypedBody (plain_body (inlined_function p f))
  copied = subst IsTypedBody (inlined_is p f) (copies_are_typed p f typed text has)

  pub rounds : IsTypedBody (plain_body x.unrolled)
  rounds = unrolled_stay (inline_names (variables_of (inlined_function p f))) no_numbers x.body.behind (plain_body (inlined_function p f)) (plain_body x.unrolled) x.rounds x.body.body copied

  ready : IsReady (copied_kinds p f) (plain_body x.unrolled)
  ready =
      ready_law p f (inline_names (variables_of (inlined_function p f))) no_numbers x.body.behind (plain_body x.unrolled) x.rounds whole has
      (subst (λ (t : Block). Unrolls (unrolling (inline_names (variables_of (inlined_function p f)))) t no_numbers done (plain_body x.unrolled) x.body.behind x.rounds) (sym (inlined_is p f)) x.body.body)

  pub rewritten : Rewrites (arrays (copied_kinds p f)) (plain_body x.unrolled) done (plain_body (function_with_scalars x.unrolled)) (scalar_change x.unrolled)
  rewritten =
      (keeps_runs x.unrolled (function_with_scalars x.unrolled) (scalar_change x.unrolled) (record { function = refl; change = refl }) (copied_kinds p f) ready).rewritten

  whole_typed : IsTypedBody (plain_body g)
  whole_typed =
      subst (λ h. IsTypedBody (plain_body h)) (sym x.function)
      (scalar_bodies_stay (copied_kinds p f) (plain_body x.unrolled) (plain_body (function_with_scalars x.unrolled)) (scalar_change x.unrolled) rewritten rounds)

pub expansions_are_typed : ExpansionsAreTyped
expansions_are_typed p f g k count typed text has x = whole_typed p f g k count typed text has x
