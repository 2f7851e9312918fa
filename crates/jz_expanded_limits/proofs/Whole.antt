-- Limits through the three passes of an expansion.
use Rattle.std.proofs.Common.{ℕ, suc, ◌+◌, ◌*◌, ◌≤◌, List, [], ◌∷◌, length, true, refl, sym, ap, subst, arith, inl}
use Rattle.std.specs.Prelude.{◌≡◌, ⊤, Contains}
use Rattle.std.proofs.lemmas.List.Elements.{All-contains}
use Rattle.jz_tree.specs.declared.program.Fun.{Fun}
use Rattle.jz_tree.specs.declared.program.Program.{Program}
use Rattle.jz_type_names.specs.Scopes.{variables_of}
use Rattle.jz_type_rows.specs.Exports.{is_exported}
use Rattle.jz_types.specs.TypedPrograms.{IsTypedProgram}
use Rattle.jz_texts.specs.Texts.{IsText}
use Rattle.jz_texts.proofs.Declaring.{declarations_law}
use Rattle.jz_runs.specs.Trees.{done}
use Rattle.jz_meaning.specs.Runs.{body_of}
use Rattle.jz_meaning.specs.Statements.{Block}
use Rattle.jz_typed_runs.specs.TypedTexts.{IsTypedText}
use Rattle.jz_change.specs.Changes.{Change}
use Rattle.jz_pass.specs.Unrolling.{Unrolls}
use Rattle.jz_pass.specs.Rewriting.{Rewrites}
use Rattle.jz_inline.specs.Functions.{own_names, inlined_body}
use Rattle.jz_inline.proofs.Made.{inlined_is}
use Rattle.jz_expansion.specs.Inlined.{inlined_function}
use Rattle.jz_limits.specs.Limits.{Step, one, passing, count_of}
use Rattle.jz_limits.specs.Values.{no_numbers}
use Rattle.jz_limits.specs.Walks.{walk}
use Rattle.jz_unroll.specs.Values.{InlineNames}
use Rattle.jz_unroll.specs.Unrolling.{unrolling}
use Rattle.jz_unrolling_values.specs.InlineNames.{inline_names}
use Rattle.jz_unrolling_laws.specs.CalledBodies.{inlines_of, IsNamed}
use Rattle.jz_copied_values.proofs.CopiedNumbers.{IsCopy}
use Rattle.jz_expansion.proofs.Ones.{OnlyOnes, only_ones}
use Rattle.jz_expansion.proofs.WalkedLawsWhole.{named_law, called_law}
use Rattle.jz_expansion.proofs.FrameNames.{frame_names}
use Rattle.jz_arrays.specs.Arrays.{arrays}
use Rattle.jz_expansion.specs.Functions.{function_with_scalars, scalar_change}
use Rattle.jz_expansion.specs.Ready.{IsReady}
use Rattle.jz_expansion.proofs.Keeping.{keeps_runs}
use Rattle.jz_function_runs.specs.FunctionRuns.{plain_body}
use Rattle.jz_expansion.specs.CopiedKinds.{copied_kinds}
use Rattle.jz_expansion.proofs.Whole.{ready_law}
use Rattle.jz_expansion.specs.Expansions.{IsExpansion}
use Rattle.jz_expanded_limits.specs.WithinBodies.{IsWithinBody}
use Rattle.jz_meaning.specs.Lengths.{statements_in}
use Rattle.jz_expanded_limits.specs.Sizes.{ExpansionsAreShort}
use Rattle.jz_expanded_limits.specs.ExpandedLimits.{ExpansionsAreWithin}
use Rattle.jz_expanded_limits.proofs.Known.{Knows}
use Rattle.jz_expanded_limits.proofs.Costs.{cost}
use Rattle.jz_expanded_limits.proofs.CopiedSets.{Good}
use Rattle.jz_expanded_limits.proofs.CopiedTests.{end_here}
use Rattle.jz_expanded_limits.proofs.CopiedWalks.{tree_leads}
use Rattle.jz_expanded_limits.proofs.Scaled.{scaled_counted, scaled_within}

-- ---- steps that pass no limit are all counted
all_counted : (steps : List Step) → OnlyOnes steps → count_of steps ≡ length steps
all_counted [] h = refl
all_counted (one ∷ steps) h = ap suc (all_counted steps h)
all_counted (passing l ∷ steps) h = absurd h

few : (u b s n : ℕ) → u ≤ b + 0 → b ≤ (9 * s + 0) + 0 → n ≡ s → n ≤ 65536 → u ≤ 9 * 65536
few u b s n h k e m = omega (arith, h, k, e, m)

module _ (p : Program) (f g : Fun) (k : Change) (count : ℕ) (typed : IsTypedProgram p) (text : IsText p) (has : Contains p.funs f) (exported : is_exported f.kind ≡ true) (x : IsExpansion p f g k count) where
  whole : IsTypedText p
  whole = record { typed = typed; text = text }

  abbrev names : InlineNames
  names = inline_names (variables_of (inlined_function p f))

  copied : Unrolls (unrolling names) (inlined_body p f) no_numbers done (plain_body x.unrolled) x.body.behind x.rounds
  copied = subst (λ (t : Block). Unrolls (unrolling names) t no_numbers done (plain_body x.unrolled) x.body.behind x.rounds) (sym (inlined_is p f)) x.body.body

  abbrev steps : List Step
  steps = (walk (body_of p f) no_numbers).steps

  ones : OnlyOnes steps
  ones = only_ones steps x.within.1.none

  led : (Good done → Good (plain_body x.unrolled)) × (statements_in (plain_body x.unrolled) ≤ (cost steps + 0) + 0)
  led =
      let own = frame_names p f (declarations_law p typed text) text has in
      let copy : IsCopy names (inlines_of f) own_names 0 = record { named = own.0; place = λ n. inl refl } in
      let named = All-contains (λ h. IsNamed (inlines_of h) (body_of p h)) p.funs f (named_law p whole) has in
      let known : Knows names (inlines_of f) own_names no_numbers no_numbers = record { less = λ n z q. q; only = λ n c out. refl; inline = λ n c out. refl } in
      let made = tree_leads names 0 (λ n. ⊤) (body_of p f) (inlines_of f) own_names 0 1 no_numbers no_numbers done done (plain_body x.unrolled) x.body.behind x.rounds copy (omega arith) own.1 named
      (called_law p f whole has exported x.within) ones known
      (λ k2 u d ends more. end_here names (inlines_of f) own_names 0 copy (λ n. ⊤) k2 x.body.behind done u d tt more) copied in
      (made.1, made.2)

  rounds_good : Good (plain_body x.unrolled)
  rounds_good = led.0 tt

  ready : IsReady (copied_kinds p f) (plain_body x.unrolled)
  ready = ready_law p f names no_numbers x.body.behind (plain_body x.unrolled) x.rounds whole has copied

  rewritten : Rewrites (arrays (copied_kinds p f)) (plain_body x.unrolled) done (plain_body (function_with_scalars x.unrolled)) (scalar_change x.unrolled)
  rewritten =
      (keeps_runs x.unrolled (function_with_scalars x.unrolled) (scalar_change x.unrolled) (record { function = refl; change = refl }) (copied_kinds p f) ready).rewritten

  within : IsWithinBody (plain_body g)
  within =
      subst (λ h. IsWithinBody (plain_body h)) (sym x.function)
      (scaled_within (copied_kinds p f) (plain_body x.unrolled) (plain_body (function_with_scalars x.unrolled)) (scalar_change x.unrolled) rewritten rounds_good)

  short : statements_in (plain_body g) ≤ 9 * 65536
  short =
      subst (λ h. statements_in (plain_body h) ≤ 9 * 65536) (sym x.function)
      (few (statements_in (plain_body (function_with_scalars x.unrolled))) (statements_in (plain_body x.unrolled)) (length steps) (count_of steps)
      (scaled_counted (copied_kinds p f) (plain_body x.unrolled) (plain_body (function_with_scalars x.unrolled)) (scalar_change x.unrolled) rewritten) led.1 (all_counted steps ones) x.within.1.few)

pub expansions_are_short : ExpansionsAreShort
expansions_are_short p f g k count typed text has exported x = short p f g k count typed text has exported x

pub expansions_are_within : ExpansionsAreWithin
expansions_are_within p f g k count typed text has exported x = within p f g k count typed text has exported x
