-- Whole functions.
use Rattle.std.proofs.Common.{◌≡◌, List, [], ◌∷◌, true, refl, ap, sym, ◌∙◌, subst}
use Rattle.std.specs.Prelude.{not}
use Rattle.std.specs.List.{list_all}
use Rattle.std.proofs.lemmas.Bool.{and_parts}
use Rattle.jz_tree.specs.declared.expr.Var.{Var}
use Rattle.jz_tree.specs.declared.program.Fun.{Fun}
use Rattle.jz_type_names.specs.Scopes.{variables_of}
use Rattle.jz_runs.specs.Rules.{went, Goes}
use Rattle.jz_meaning.specs.Attempts.{and_then, defined}
use Rattle.jz_meaning.specs.States.{State, empty_store}
use Rattle.jz_meaning.specs.Values.{key_of, ref_of}
use Rattle.jz_meaning.specs.Statements.{source}
use Rattle.jz_meaning.specs.Runs.{with_arguments, entry_state, only_word, result_word, result_words}
use Rattle.jz_change.specs.Changes.{Change}
use Rattle.jz_pass.specs.Cases.{no_case}
use Rattle.jz_pass.specs.Laws.{Carries, between_trees}
use Rattle.jz_pass.proofs.Bodies.{unrolling_carries}
use Rattle.jz_pass.proofs.CasesKept.{unrolled_cases}
use Rattle.jz_function_runs.specs.Functions.{Given, body_runs}
use Rattle.jz_unroll.specs.Values.{InlineNames, is_inline_var}
use Rattle.jz_unroll.specs.Unrolling.{unrolling}
use Rattle.jz_unroll.specs.ValueLaws.{DiffersInline, StandsFor}
use Rattle.jz_unroll.proofs.Keeping.{unrolling_known, unrolling_items}
use Rattle.jz_unroll.proofs.Parts.{not_true}
use Rattle.jz_function_runs.specs.FunctionRuns.{plain_body, alike_where}
use Rattle.jz_function_runs.proofs.Carrying.{functions_carry, always_carry}
use Rattle.jz_unrolling_values.specs.InlineNames.{inline_names}
use Rattle.jz_unrolling_values.specs.Numbers.{no_numbers}
use Rattle.jz_unrolling.specs.Unrolled.{IsUnrolled, KeepsHead, GivesPlain, KeepsRuns, KeepsCases}

module _ (names : InlineNames) where
  -- nothing is known, and nothing differs
  pub same_state : (s : State) → StandsFor names no_numbers s s
  same_state s = record { known = λ r i whole q. absurd cc; inline = λ n c i q. absurd cc; differs = record { variables = λ k q. refl; memory = refl } }

  -- the words of variables that are not inline
  pub same_words : (vs : List Var) (s t : State) → list_all (λ v. not (is_inline_var names v)) vs ≡ true → DiffersInline names s t → result_words vs t.store ≡ result_words vs s.store
  same_words [] s t q d = refl
  same_words (v ∷ vs) s t q d =
      let p = and_parts (not (is_inline_var names v)) (list_all (λ w. not (is_inline_var names w)) vs) q in
      let e : t.store (key_of (ref_of v)) ≡ s.store (key_of (ref_of v)) = d.variables (key_of (ref_of v)) (not_true (is_inline_var names v) p.0) in
      ap (λ o. and_then (and_then (defined (ref_of v).span o) (only_word (ref_of v).span)) (λ w. and_then (result_words vs t.store) (λ ws. went [] (w ∷ ws)))) e
      ∙ ap (λ g. and_then (result_word v s.store) (λ w. and_then g (λ ws. went [] (w ∷ ws)))) (same_words vs s t p.1 d)

module _ (f g : Fun) (k : Change) (made : IsUnrolled f g k) where
  abbrev names : InlineNames
  names = inline_names (variables_of f)

  pub keeps_cases : KeepsCases f g k
  keeps_cases = unrolled_cases (unrolling names) (unrolling_items names) no_case made.body

  bodies : Carries (between_trees (StandsFor names no_numbers) (StandsFor names made.behind)) (λ s n. Goes source (plain_body f) n s) (λ t n. Goes source (plain_body g) n t) k
  bodies = unrolling_carries source source (unrolling names) (unrolling_known names) no_numbers made.behind (plain_body f) (plain_body g) k made.body

  pub keeps_runs : KeepsHead f g → GivesPlain f → KeepsRuns f g k
  keeps_runs head plain = always_carry (plain_body f) (plain_body g) f g k carried
    where
      enters : (given : Given) → Unit {0} → StandsFor names no_numbers (entry_state f given.words given.memory) (entry_state g given.words given.memory)
      enters given u =
          subst (λ ps. StandsFor names no_numbers (entry_state f given.words given.memory) (record { store = with_arguments ps given.words empty_store; memory = given.memory })) (sym head.params)
          (same_state names (entry_state f given.words given.memory))

      words : (s t : State) → StandsFor names made.behind s t → result_words g.result t.store ≡ result_words f.result s.store
      words s t h = ap (λ vs. result_words vs t.store) head.result ∙ same_words names f.result s t plain h.differs

      carried : Carries (alike_where (λ given. Unit {0})) (body_runs (plain_body f) f) (body_runs (plain_body g) g) k
      carried = functions_carry (λ given. Unit {0}) (StandsFor names no_numbers) (StandsFor names made.behind) f g (plain_body f) (plain_body g) k enters (λ s t h. h.differs.memory) words bodies
