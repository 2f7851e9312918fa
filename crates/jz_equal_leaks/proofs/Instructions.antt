-- Instructions in states that agree: the same where all operands are public.
use Rattle.std.proofs.Common.{◌≡◌, ℕ, Bool, true, false, List, [], ◌∷◌, map, Option, Some, None, refl, sym, ap, subst, ◌∙◌}
use Rattle.std.specs.Prelude.{pos, negsuc}
use Rattle.jz_tree.specs.Span.{Span}
use Rattle.x64_insn.specs.Size.{Size}
use Rattle.x64_insn.specs.Size.TheVariants.{S8, S64}
use Rattle.x64_insn.specs.Words.{carried, swapped_of}
use Rattle.x64_insn.specs.declared.types.FlagVal.{FlagVal}
use Rattle.x64_insn.specs.declared.types.Alu.TheVariants as alu
use Rattle.x64_insn.specs.declared.types.One.TheVariants as one
use Rattle.x64_insn.specs.declared.types.Shift.{Shift}
use Rattle.x64_insn.specs.declared.types.Shift.TheVariants as shift
use Rattle.x64_insn.specs.Answers.{alu_answer}
use Rattle.jz_tree.specs.declared.expr.Expr.{Expr}
use Rattle.jz_tree.specs.declared.intrinsic.Intrinsic.{Intrinsic}
use Rattle.jz_tree.specs.declared.intrinsic.Intrinsic.TheVariants as name
use Rattle.jz_tree.specs.declared.intrinsic.Instance.{Instance}
use Rattle.jz_runs.specs.Rules.{stuck, went}
use Rattle.jz_meaning.specs.Attempts.{Evaluation, and_then}
use Rattle.jz_meaning.specs.States.{Value, word, boolean, integer, Key, State}
use Rattle.jz_meaning.specs.Values.{evaluated}
use Rattle.jz_meaning.specs.Assignments.{Results, word_in, bool_in}
use Rattle.jz_meaning.specs.Intrinsics.{all_flags, first_two, all_but_carry, before_value, of_one, of_two, of_carry, shift_results, of_count, division_results, of_division, of_condition, alu_results, one_results, low_product_results, product_results, no_results, intrinsic_results, sized_results}
use Rattle.jz_terms.specs.Terms.{Term, term_of}
use Rattle.jz_labels.specs.Operations.{division_of}
use Rattle.jz_labels.specs.Labels.{Publics, secret_in, secret_in_each}
use Rattle.jz_labels.specs.Required.{Divide, breach_in_division}
use Rattle.jz_equal_leaks.specs.TwoRuns.{BothGive}
use Rattle.jz_equal_leaks.specs.Agreeing.{Agree}
use Rattle.jz_equal_leaks.proofs.Parts.{less_give, equal_give, then_give, Silent}
use Rattle.jz_equal_leaks.proofs.Values.{first_none, no_secret}
use Rattle.jz_equal_leaks.proofs.Links.{Linked, two_linked, linked_then, AllGiven, all_given, links, word_links, bool_links}

silent_shift : (flags : List FlagVal → Results) (k : Shift) (at : Span) (y : Size) (n : ℕ) (v : Value) → Silent (shift_results flags k at y n v)
silent_shift flags k at y n (integer (pos m)) = refl
silent_shift flags k at y n (integer (negsuc m)) = tt
silent_shift flags k at y n (word s m) = refl
silent_shift flags k at y n (boolean c) = tt

module _ (in_frame : Key → Bool) (arrays s : Publics) (z : Bool) (a b : State) (g : Agree in_frame arrays s a b) where
  abbrev Both : {A : Type 0} → Evaluation A → Evaluation A → Type 0
  Both e d = BothGive (Linked z) e d

  -- one word, and then what is made of it
  word_then : {B : Type 0} (at : Span) (y : Size) (e : Expr) (f h : ℕ → Evaluation B) → Both (word_in at y e a) (word_in at y e b) → ((n m : ℕ) → Linked z n m → Both (f n) (h m)) → Both (and_then (word_in at y e a) f) (and_then (word_in at y e b) h)
  word_then {B} at y e f h l go = then_give (Linked {A = ℕ} z) (Linked {A = B} z) (word_in at y e a) (word_in at y e b) f h l go

  words_of : (at : Span) (y : Size) (e : Expr) (es : List Expr) → AllGiven in_frame arrays s z (map term_of (e ∷ es)) → Both (word_in at y e a) (word_in at y e b)
  words_of at y e es h = word_links in_frame arrays s z a b g at y e h.0

  one_link : (f : ℕ → Results) (at : Span) (y : Size) (es : List Expr) → AllGiven in_frame arrays s z (map term_of es) → Both (of_one f at y es a) (of_one f at y es b)
  one_link f at y [] h = tt
  one_link f at y (e ∷ []) h = linked_then z (word_in at y e a) (word_in at y e b) _ (words_of at y e [] h) (λ n. refl)
  one_link f at y (e ∷ d ∷ es) h = tt

  two_link : (f : ℕ → ℕ → Results) (at : Span) (y : Size) (es : List Expr) → AllGiven in_frame arrays s z (map term_of es) → Both (of_two f at y es a) (of_two f at y es b)
  two_link f at y [] h = tt
  two_link f at y (e ∷ []) h = tt
  two_link f at y (e ∷ d ∷ []) h =
      word_then at y e _ _ (words_of at y e (d ∷ []) h)
      (λ n m l. word_then at y d _ _ (words_of at y d [] h.1) (λ p q r. (refl, λ i. ap (λ (j : ℕ). f j p) (l i) ∙ ap (f m) (r i))))
  two_link f at y (e ∷ d ∷ c ∷ es) h = tt

  carry_link : (f : ℕ → ℕ → Bool → Results) (at : Span) (y : Size) (es : List Expr) → AllGiven in_frame arrays s z (map term_of es) → Both (of_carry f at y es a) (of_carry f at y es b)
  carry_link f at y [] h = tt
  carry_link f at y (e ∷ []) h = tt
  carry_link f at y (e ∷ d ∷ []) h = tt
  carry_link f at y (e ∷ d ∷ c ∷ []) h =
      word_then at y e _ _ (words_of at y e (d ∷ c ∷ []) h)
      (λ n m l. word_then at y d _ _ (words_of at y d (c ∷ []) h.1)
      (λ p q r. then_give (Linked {A = Bool} z) (Linked {A = Results} z) (bool_in at c a) (bool_in at c b) _ _ (bool_links in_frame arrays s z a b g at c h.1.1.0)
      (λ u v t. (refl, λ i. ap (λ (j : ℕ). f j p u) (l i) ∙ ap (λ (j : ℕ). f m j u) (r i) ∙ ap (f m q) (t i)))))
  carry_link f at y (e ∷ d ∷ c ∷ x ∷ es) h = tt

  count_link : (flags : List FlagVal → Results) (k : Shift) (at : Span) (y : Size) (es : List Expr) → AllGiven in_frame arrays s z (map term_of es) → Both (of_count flags k at y es a) (of_count flags k at y es b)
  count_link flags k at y [] h = tt
  count_link flags k at y (e ∷ []) h = tt
  count_link flags k at y (e ∷ d ∷ []) h =
      word_then at y e _ _ (words_of at y e (d ∷ []) h)
      (λ n m l. then_give (Linked {A = Value} z) (Linked {A = Results} z) (evaluated d (Some S8) a) (evaluated d (Some S8) b) _ _ (links in_frame arrays s z a b g d h.1.0 (Some S8))
      (λ v w r. two_linked z (shift_results flags k at y) n m v w (silent_shift flags k at y) l r))
  count_link flags k at y (e ∷ d ∷ c ∷ es) h = tt

  condition_link : (at : Span) (es : List Expr) → AllGiven in_frame arrays s z (map term_of es) → Both (of_condition at es a) (of_condition at es b)
  condition_link at [] h = tt
  condition_link at (e ∷ []) h = linked_then z (bool_in at e a) (bool_in at e b) _ (bool_links in_frame arrays s z a b g at e h.0) (λ c. refl)
  condition_link at (e ∷ d ∷ es) h = tt

  -- ---- each instruction but the division

  not_division : (i : Intrinsic) (at : Span) (y : Size) (es : List Expr) → (i ≡ name.Div → ⊥) → AllGiven in_frame arrays s z (map term_of es) → Both (intrinsic_results i at y es a) (intrinsic_results i at y es b)
  not_division name.Add at y es d h = two_link (λ m n. alu_results alu.Add y m n false) at y es h
  not_division name.Sub at y es d h = two_link (λ m n. alu_results alu.Sub y m n false) at y es h
  not_division name.And at y es d h = two_link (λ m n. alu_results alu.And y m n false) at y es h
  not_division name.Or at y es d h = two_link (λ m n. alu_results alu.Or y m n false) at y es h
  not_division name.Xor at y es d h = two_link (λ m n. alu_results alu.Xor y m n false) at y es h
  not_division name.Adc at y es d h = carry_link (alu_results alu.Adc y) at y es h
  not_division name.Sbb at y es d h = carry_link (alu_results alu.Sbb y) at y es h
  not_division name.Neg at y es d h = one_link (one_results all_flags one.Neg y) at y es h
  not_division name.Inc at y es d h = one_link (one_results all_but_carry one.Inc y) at y es h
  not_division name.Dec at y es d h = one_link (one_results all_but_carry one.Dec y) at y es h
  not_division name.Not at y es d h = one_link (one_results no_results one.Not y) at y es h
  not_division name.Bswap at y es d h = one_link (λ n. before_value [] y (swapped_of y n)) at y es h
  not_division name.Lea at y es d h = one_link (λ n. before_value [] S64 n) at S64 es h
  not_division name.Cmp at y es d h = two_link (λ m n. all_flags (alu_answer alu.Cmp y m n false).flags) at y es h
  not_division name.Test at y es d h = two_link (λ m n. all_flags (alu_answer alu.Test y m n false).flags) at y es h
  not_division name.Shl at y es d h = count_link all_flags shift.Shl at y es h
  not_division name.Shr at y es d h = count_link all_flags shift.Shr at y es h
  not_division name.Sar at y es d h = count_link all_flags shift.Sar at y es h
  not_division name.Rol at y es d h = count_link first_two shift.Rol at y es h
  not_division name.Ror at y es d h = count_link first_two shift.Ror at y es h
  not_division name.Imul at y es d h = two_link (low_product_results y) at y es h
  not_division name.Mul at y es d h = two_link (product_results y) at y es h
  not_division name.Div at y es d h = absurd (d refl)
  not_division name.Setcc at y es d h = condition_link at es h

-- a division, whose operands are public
module _ (in_frame : Key → Bool) (arrays s : Publics) (a b : State) (g : Agree in_frame arrays s a b) where
  division_same : (at : Span) (y : Size) (es : List Expr) → AllGiven in_frame arrays s true (map term_of es) → BothGive (Linked {A = Results} true) (of_division at y es a) (of_division at y es b)
  division_same at y [] h = tt
  division_same at y (e ∷ []) h = tt
  division_same at y (e ∷ d ∷ []) h = tt
  division_same at y (e ∷ d ∷ c ∷ []) h =
      word_then in_frame arrays s true a b g at y e _ _ (words_of in_frame arrays s true a b g at y e (d ∷ c ∷ []) h)
      (λ n m l. word_then in_frame arrays s true a b g at y d _ _ (words_of in_frame arrays s true a b g at y d (c ∷ []) h.1)
      (λ p q r. word_then in_frame arrays s true a b g at y c _ _ (words_of in_frame arrays s true a b g at y c [] h.1.1)
      (λ u v t. equal_give (Linked {A = Results} true) (division_results at y n p u) (division_results at y m q v)
      (ap (λ (j : ℕ). division_results at y j p u) (l refl) ∙ ap (λ (j : ℕ). division_results at y m j u) (r refl) ∙ ap (division_results at y m q) (t refl)) (λ x i. refl))))
  division_same at y (e ∷ d ∷ c ∷ x ∷ es) h = tt

  still_given : (z : Bool) (ts : List Term) → AllGiven in_frame arrays s z ts → secret_in_each arrays s ts ≡ None → AllGiven in_frame arrays s true ts
  still_given z [] h n = tt
  still_given z (t ∷ ts) h n =
      let e = first_none (secret_in arrays s t) (secret_in_each arrays s ts) n in
      ((h.0.0, h.0.1, λ i. e.0), still_given z ts h.1 e.1)

  by_name : (z : Bool) (i : Intrinsic) (q : Option Size) (at : Span) (y : Size) (es : List Expr) → AllGiven in_frame arrays s z (map term_of es)
      → breach_in_division arrays s (division_of (Some (record { name = i; size = q })) at) (map term_of es) ≡ None
      → BothGive (Linked {A = Results} z) (intrinsic_results i at y es a) (intrinsic_results i at y es b)
  by_name z name.Div q at y es h n =
      less_give (Linked {A = Results} true) (Linked {A = Results} z) (of_division at y es a) (of_division at y es b) (λ u v l e. l refl)
      (division_same at y es (still_given z (map term_of es) h (no_secret at Divide (secret_in_each arrays s (map term_of es)) n)))
  by_name z name.Add q at y es h n = not_division in_frame arrays s z a b g name.Add at y es (λ e. absurd (cc e)) h
  by_name z name.Sub q at y es h n = not_division in_frame arrays s z a b g name.Sub at y es (λ e. absurd (cc e)) h
  by_name z name.And q at y es h n = not_division in_frame arrays s z a b g name.And at y es (λ e. absurd (cc e)) h
  by_name z name.Or q at y es h n = not_division in_frame arrays s z a b g name.Or at y es (λ e. absurd (cc e)) h
  by_name z name.Xor q at y es h n = not_division in_frame arrays s z a b g name.Xor at y es (λ e. absurd (cc e)) h
  by_name z name.Adc q at y es h n = not_division in_frame arrays s z a b g name.Adc at y es (λ e. absurd (cc e)) h
  by_name z name.Sbb q at y es h n = not_division in_frame arrays s z a b g name.Sbb at y es (λ e. absurd (cc e)) h
  by_name z name.Neg q at y es h n = not_division in_frame arrays s z a b g name.Neg at y es (λ e. absurd (cc e)) h
  by_name z name.Inc q at y es h n = not_division in_frame arrays s z a b g name.Inc at y es (λ e. absurd (cc e)) h
  by_name z name.Dec q at y es h n = not_division in_frame arrays s z a b g name.Dec at y es (λ e. absurd (cc e)) h
  by_name z name.Not q at y es h n = not_division in_frame arrays s z a b g name.Not at y es (λ e. absurd (cc e)) h
  by_name z name.Bswap q at y es h n = not_division in_frame arrays s z a b g name.Bswap at y es (λ e. absurd (cc e)) h
  by_name z name.Lea q at y es h n = not_division in_frame arrays s z a b g name.Lea at y es (λ e. absurd (cc e)) h
  by_name z name.Cmp q at y es h n = not_division in_frame arrays s z a b g name.Cmp at y es (λ e. absurd (cc e)) h
  by_name z name.Test q at y es h n = not_division in_frame arrays s z a b g name.Test at y es (λ e. absurd (cc e)) h
  by_name z name.Shl q at y es h n = not_division in_frame arrays s z a b g name.Shl at y es (λ e. absurd (cc e)) h
  by_name z name.Shr q at y es h n = not_division in_frame arrays s z a b g name.Shr at y es (λ e. absurd (cc e)) h
  by_name z name.Sar q at y es h n = not_division in_frame arrays s z a b g name.Sar at y es (λ e. absurd (cc e)) h
  by_name z name.Rol q at y es h n = not_division in_frame arrays s z a b g name.Rol at y es (λ e. absurd (cc e)) h
  by_name z name.Ror q at y es h n = not_division in_frame arrays s z a b g name.Ror at y es (λ e. absurd (cc e)) h
  by_name z name.Imul q at y es h n = not_division in_frame arrays s z a b g name.Imul at y es (λ e. absurd (cc e)) h
  by_name z name.Mul q at y es h n = not_division in_frame arrays s z a b g name.Mul at y es (λ e. absurd (cc e)) h
  by_name z name.Setcc q at y es h n = not_division in_frame arrays s z a b g name.Setcc at y es (λ e. absurd (cc e)) h

  pub results_given : (z : Bool) (i : Instance) (at : Span) (o : Option Size) (es : List Expr) → AllGiven in_frame arrays s z (map term_of es) → breach_in_division arrays s (division_of (Some i) at) (map term_of es) ≡ None
      → BothGive (Linked {A = Results} z) (sized_results i.name at o es a) (sized_results i.name at o es b)
  results_given z i at None es h n = tt
  results_given z i at (Some y) es h n = by_name z i.name i.size at y es h n
