-- Homes and rows of an expansion, together, and registers for its parameters and results.
use Rattle.std.proofs.Common.{◌≡◌, ◌⊎◌, inl, inr, ℕ, ◌+◌, ◌*◌, ◌≤◌, ◌^◌, List, length, map, true, refl, sym, subst, arith}
use Rattle.std.specs.Prelude.{All, Contains}
use Rattle.std.proofs.lemmas.List.{length-map}
use Rattle.std.proofs.lemmas.List.Elements.{All-weaker}
use Rattle.jz_tree.specs.Span.{Span}
use Rattle.jz_tree.specs.declared.expr.Var.{Var}
use Rattle.jz_tree.specs.declared.program.Fun.{Fun}
use Rattle.jz_tree.specs.declared.program.Param.{Param}
use Rattle.jz_tree.specs.declared.program.Program.{Program}
use Rattle.jz_type_names.specs.Scopes.{variables_of}
use Rattle.jz_type_rows.specs.Exports.{is_exported}
use Rattle.jz_types.specs.TypedPrograms.{IsTypedProgram}
use Rattle.jz_texts.specs.Texts.{IsText}
use Rattle.jz_correct.specs.Registers.{argument_registers, result_registers}
use Rattle.jz_change.specs.Changes.{Change}
use Rattle.jz_expansion.specs.Expansions.{IsExpansion}
use Rattle.jz_expanded_limits.proofs.Whole.{expansions_are_short}
use Rattle.jz_meaning.specs.Lengths.{statements_in}
use Rattle.jz_lowering.specs.Functions.{plain_body, table_of, homes_for, Refuses, no_home, no_argument, no_result, no_operations, too_long}
use Rattle.jz_lowering.proofs.FunctionLemmas.{ready_have_code}
use Rattle.jz_expanded_heads.proofs.Heads.{IsHeadWord, HasHead, head_words}
use Rattle.jz_exact_refusals.specs.SafeExpansions.{IsExpandedExport}
use Rattle.jz_exact_refusals.proofs.Frames.{expansion_fits}
use Rattle.jz_exact_refusals.proofs.Homed.{homeless}
use Rattle.jz_expanded_homes.proofs.Whole.{HasRegister, word_homed, are_ready}
use Rattle.jz_expanded_patterns.proofs.Whole.{expansions_have_patterns}
use Rattle.jz_lowered_expansions.specs.LoweredExpansions.{ExpansionsHaveCode, IsTooLarge, OnlyLargeAreRefused}
use Rattle.jz_lowered_expansions.proofs.Passing.{all_passed}

pub expansions_have_code : ExpansionsHaveCode
expansions_have_code p f g k count at typed text has exported x first =
    ready_have_code g at (are_ready p f g k count typed text has exported x) (expansions_have_patterns p f g k count typed text has x) first

never_long : (n : ℕ) → n ≤ 9 * 65536 → 2 ^ 24 ≤ n → ⊥
never_long n few many = absurd (omega (arith, few, many))

module _ (p : Program) (f g : Fun) (k : Change) (count : ℕ) (typed : IsTypedProgram p) (text : IsText p) (has : Contains p.funs f) (exported : is_exported f.kind ≡ true) (x : IsExpansion p f g k count) where
  export : IsExpandedExport p f g k count
  export = record { typed = typed; text = text; there = has; exported = exported; expansion = x }

  head : HasHead p f g
  head = head_words p f g k count typed text has exported x

  in_register : (v : Var) → IsHeadWord p f v → HasRegister (homes_for g) v
  in_register v w = word_homed p f g k count typed text has exported x v w.seen w.plain w.word

  abbrev params : List Var
  params = map (λ (q : Param). q.var) g.params

  few_params : length params ≤ length argument_registers
  few_params = subst (λ n. n ≤ 6) (sym (length-map g.params (λ (q : Param). q.var))) head.few_params

  by_length : (2 ^ 24 ≤ statements_in (plain_body g)) ⊎ (2 ^ 32 ≤ length (table_of g).kinds) → IsTooLarge g
  by_length (inl long) = absurd (never_long (statements_in (plain_body g)) (expansions_are_short p f g k count typed text has exported x) long)
  by_length (inr many) = inl many

  too_large : (at : Span) → Refuses g at → IsTooLarge g
  too_large at (no_home h) = homeless (variables_of g) (expansion_fits p f g k count export) at h
  too_large at (no_argument h) =
      absurd (all_passed (homes_for g) argument_registers params few_params (All-weaker (IsHeadWord p f) (HasRegister (homes_for g)) in_register params head.params) at h)
  too_large at (no_result ps passed h) =
      absurd (all_passed (homes_for g) result_registers g.result head.few_results (All-weaker (IsHeadWord p f) (HasRegister (homes_for g)) in_register g.result head.results) at h)
  too_large at (no_operations ps rs a r first) = absurd (expansions_have_code p f g k count at typed text has exported x first)
  too_large _ (too_long why l made long) = by_length why

pub only_large : OnlyLargeAreRefused
only_large p f g k count at typed text has exported x refused = too_large p f g k count typed text has exported x at refused
