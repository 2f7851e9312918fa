-- Instructions whose inline parts are their values.
use Rattle.std.proofs.Common.{◌≡◌, ℕ, List, [], ◌∷◌, map, Option, Some, None, Bool, true, refl, ap, sym, ◌∙◌, subst}
use Rattle.std.specs.Prelude.{◌&&◌}
use Rattle.std.specs.List.{list_all}
use Rattle.std.specs.Option.{option_or}
use Rattle.std.proofs.lemmas.Bool.{and_parts}
use Rattle.jz_tree.specs.Span.{Span}
use Rattle.jz_tree.specs.Size.{Size}
use Rattle.jz_tree.specs.Size.TheVariants.{S8, S64}
use Rattle.x64_insn.specs.declared.types.FlagVal.{FlagVal}
use Rattle.x64_insn.specs.declared.types.Shift.{Shift}
use Rattle.x64_insn.specs.declared.types.Shift.TheVariants as shift
use Rattle.jz_tree.specs.declared.expr.Expr.{Expr}
use Rattle.jz_tree.specs.declared.stmt.Lval.{Lval}
use Rattle.jz_tree.specs.declared.intrinsic.Intrinsic.{Intrinsic}
use Rattle.jz_tree.specs.declared.intrinsic.Intrinsic.TheVariants as name
use Rattle.jz_tree.specs.declared.intrinsic.Instance.{Instance}
use Rattle.jz_integers.specs.Integers.{KnownNumbers}
use Rattle.jz_runs.specs.Rules.{went}
use Rattle.jz_meaning.specs.Attempts.{and_then}
use Rattle.x64_insn.specs.Words.{carried}
use Rattle.jz_meaning.specs.States.{word, State}
use Rattle.jz_meaning.specs.Values.{own_size, evaluated}
use Rattle.jz_meaning.specs.Assignments.{Results, left_sizes, word_in, bool_in, all_written}
use Rattle.jz_meaning.specs.Intrinsics.{all_flags, first_two, of_one, of_two, of_carry, of_count, shift_results, division_results, of_division, of_condition, intrinsic_results, first_size, intrinsic_size, sized_results, instruction_done}
use Rattle.jz_unroll.specs.Values.{with_values, left_with_values, InlineNames, has_values, left_has_values}
use Rattle.jz_unroll.specs.ValueLaws.{StandsFor}
use Rattle.jz_unroll.proofs.Assigning.{Alike, alike_if, all_written_so, value_so, size_so, word_so, bool_so, left_sizes_so}

module _ (names : InlineNames) (e : KnownNumbers) (s t : State) (h : StandsFor names e s t) where
  abbrev W : Expr → Expr
  W x = with_values e x

  abbrev In : List Expr → List Expr
  In es = map (with_values e) es

  abbrev AreKnown : List Expr → Type 0
  AreKnown es = list_all (has_values names e) es ≡ true

  head_known : (a : Expr) (es : List Expr) → AreKnown (a ∷ es) → has_values names e a ≡ true
  head_known a es k = (and_parts (has_values names e a) _ k).0

  tail_known : (a : Expr) (es : List Expr) → AreKnown (a ∷ es) → AreKnown es
  tail_known a es k = (and_parts (has_values names e a) _ k).1

  one_so : (f : ℕ → Results) (at : Span) (z : Size) (es : List Expr) → AreKnown es → of_one f at z (In es) t ≡ of_one f at z es s
  one_so f at z [] k = refl
  one_so f at z (a ∷ []) k = ap (λ g. and_then g (λ x. went [] (f x))) (word_so names e s t h at z a (head_known a [] k))
  one_so f at z (a ∷ b ∷ es) k = refl

  two_so : (f : ℕ → ℕ → Results) (at : Span) (z : Size) (es : List Expr) → AreKnown es → of_two f at z (In es) t ≡ of_two f at z es s
  two_so f at z [] k = refl
  two_so f at z (a ∷ []) k = refl
  two_so f at z (a ∷ b ∷ []) k =
      let ka = head_known a (b ∷ []) k in let kb = head_known b [] (tail_known a (b ∷ []) k) in
      ap (λ g. and_then g (λ x. and_then (word_in at z (W b) t) (λ y. went [] (f x y)))) (word_so names e s t h at z a ka)
      ∙ ap (and_then (word_in at z a s)) (λ i x. and_then (word_so names e s t h at z b kb i) (λ y. went [] (f x y)))
  two_so f at z (a ∷ b ∷ c ∷ es) k = refl

  carry_so : (f : ℕ → ℕ → Bool → Results) (at : Span) (z : Size) (es : List Expr) → AreKnown es → of_carry f at z (In es) t ≡ of_carry f at z es s
  carry_so f at z [] k = refl
  carry_so f at z (a ∷ []) k = refl
  carry_so f at z (a ∷ b ∷ []) k = refl
  carry_so f at z (a ∷ b ∷ c ∷ []) k =
      let ka = head_known a (b ∷ c ∷ []) k in let k2 = tail_known a (b ∷ c ∷ []) k in let kb = head_known b (c ∷ []) k2 in let kc = head_known c [] (tail_known b (c ∷ []) k2) in
      ap (λ g. and_then g (λ x. and_then (word_in at z (W b) t) (λ y. and_then (bool_in at (W c) t) (λ u. went [] (f x y u))))) (word_so names e s t h at z a ka)
      ∙ ap (and_then (word_in at z a s)) (λ i x. and_then (word_so names e s t h at z b kb i) (λ y. and_then (bool_so names e s t h at c kc i) (λ u. went [] (f x y u))))
  carry_so f at z (a ∷ b ∷ c ∷ d ∷ es) k = refl

  count_so : (flags : List FlagVal → Results) (q : Shift) (at : Span) (z : Size) (es : List Expr) → AreKnown es → of_count flags q at z (In es) t ≡ of_count flags q at z es s
  count_so flags q at z [] k = refl
  count_so flags q at z (a ∷ []) k = refl
  count_so flags q at z (a ∷ n ∷ []) k =
      let ka = head_known a (n ∷ []) k in let kn = head_known n [] (tail_known a (n ∷ []) k) in
      ap (λ g. and_then g (λ x. and_then (evaluated (W n) (Some S8) t) (λ v. shift_results flags q at z x v))) (word_so names e s t h at z a ka)
      ∙ ap (and_then (word_in at z a s)) (λ i x. and_then (value_so names e s t h n (Some S8) kn i) (λ v. shift_results flags q at z x v))
  count_so flags q at z (a ∷ b ∷ c ∷ es) k = refl

  division_so : (at : Span) (z : Size) (es : List Expr) → AreKnown es → of_division at z (In es) t ≡ of_division at z es s
  division_so at z [] k = refl
  division_so at z (a ∷ []) k = refl
  division_so at z (a ∷ b ∷ []) k = refl
  division_so at z (a ∷ b ∷ d ∷ []) k =
      let ka = head_known a (b ∷ d ∷ []) k in let k2 = tail_known a (b ∷ d ∷ []) k in let kb = head_known b (d ∷ []) k2 in let kd = head_known d [] (tail_known b (d ∷ []) k2) in
      ap (λ g. and_then g (λ x. and_then (word_in at z (W b) t) (λ y. and_then (word_in at z (W d) t) (division_results at z x y)))) (word_so names e s t h at z a ka)
      ∙ ap (and_then (word_in at z a s)) (λ i x. and_then (word_so names e s t h at z b kb i) (λ y. and_then (word_so names e s t h at z d kd i) (division_results at z x y)))
  division_so at z (a ∷ b ∷ c ∷ d ∷ es) k = refl

  condition_so : (at : Span) (es : List Expr) → AreKnown es → of_condition at (In es) t ≡ of_condition at es s
  condition_so at [] k = refl
  condition_so at (c ∷ []) k = ap (λ g. and_then g (λ k. went [] (Some (word S8 (carried k)) ∷ []))) (bool_so names e s t h at c (head_known c [] k))
  condition_so at (a ∷ b ∷ es) k = refl

  intrinsic_so : (i : Intrinsic) (at : Span) (z : Size) (es : List Expr) → AreKnown es → intrinsic_results i at z (In es) t ≡ intrinsic_results i at z es s
  intrinsic_so name.Add at z es k = two_so _ at z es k
  intrinsic_so name.Sub at z es k = two_so _ at z es k
  intrinsic_so name.And at z es k = two_so _ at z es k
  intrinsic_so name.Or at z es k = two_so _ at z es k
  intrinsic_so name.Xor at z es k = two_so _ at z es k
  intrinsic_so name.Adc at z es k = carry_so _ at z es k
  intrinsic_so name.Sbb at z es k = carry_so _ at z es k
  intrinsic_so name.Neg at z es k = one_so _ at z es k
  intrinsic_so name.Inc at z es k = one_so _ at z es k
  intrinsic_so name.Dec at z es k = one_so _ at z es k
  intrinsic_so name.Not at z es k = one_so _ at z es k
  intrinsic_so name.Bswap at z es k = one_so _ at z es k
  intrinsic_so name.Lea at z es k = one_so _ at S64 es k
  intrinsic_so name.Cmp at z es k = two_so _ at z es k
  intrinsic_so name.Test at z es k = two_so _ at z es k
  intrinsic_so name.Shl at z es k = count_so all_flags shift.Shl at z es k
  intrinsic_so name.Shr at z es k = count_so all_flags shift.Shr at z es k
  intrinsic_so name.Sar at z es k = count_so all_flags shift.Sar at z es k
  intrinsic_so name.Rol at z es k = count_so first_two shift.Rol at z es k
  intrinsic_so name.Ror at z es k = count_so first_two shift.Ror at z es k
  intrinsic_so name.Imul at z es k = two_so _ at z es k
  intrinsic_so name.Mul at z es k = two_so _ at z es k
  intrinsic_so name.Div at z es k = division_so at z es k
  intrinsic_so name.Setcc at z es k = condition_so at es k

  sized_so : (i : Intrinsic) (at : Span) (z : Option Size) (es : List Expr) → AreKnown es → sized_results i at z (In es) t ≡ sized_results i at z es s
  sized_so i at None es k = refl
  sized_so i at (Some z) es k = intrinsic_so i at z es k

  first_so : (es : List Expr) → AreKnown es → first_size (In es) ≡ first_size es
  first_so [] k = refl
  first_so (a ∷ es) k =
      ap (λ y. option_or y (first_size (In es))) (size_so names e s t h a (head_known a es k)) ∙ ap (option_or (own_size a)) (first_so es (tail_known a es k))

  other_so : (z : Option Size) (to : List Lval) (es : List Expr) → list_all (left_has_values names e) to ≡ true → AreKnown es → option_or z (option_or (left_sizes (map (left_with_values e) to)) (first_size (In es))) ≡ option_or z (option_or (left_sizes to) (first_size es))
  other_so z to es l k =
      ap (λ y. option_or z (option_or y (first_size (In es)))) (left_sizes_so names e s t h to l) ∙ ap (λ y. option_or z (option_or (left_sizes to) y)) (first_so es k)

  size_of_instruction : (i : Intrinsic) (z : Option Size) (to : List Lval) (es : List Expr) → list_all (left_has_values names e) to ≡ true → AreKnown es → intrinsic_size i z (map (left_with_values e) to) (In es) ≡ intrinsic_size i z to es
  size_of_instruction name.Setcc z to es l k = refl
  size_of_instruction name.Lea z to es l k = refl
  size_of_instruction name.Add z to es l k = other_so z to es l k
  size_of_instruction name.Sub z to es l k = other_so z to es l k
  size_of_instruction name.And z to es l k = other_so z to es l k
  size_of_instruction name.Or z to es l k = other_so z to es l k
  size_of_instruction name.Xor z to es l k = other_so z to es l k
  size_of_instruction name.Adc z to es l k = other_so z to es l k
  size_of_instruction name.Sbb z to es l k = other_so z to es l k
  size_of_instruction name.Neg z to es l k = other_so z to es l k
  size_of_instruction name.Inc z to es l k = other_so z to es l k
  size_of_instruction name.Dec z to es l k = other_so z to es l k
  size_of_instruction name.Not z to es l k = other_so z to es l k
  size_of_instruction name.Bswap z to es l k = other_so z to es l k
  size_of_instruction name.Cmp z to es l k = other_so z to es l k
  size_of_instruction name.Test z to es l k = other_so z to es l k
  size_of_instruction name.Shl z to es l k = other_so z to es l k
  size_of_instruction name.Shr z to es l k = other_so z to es l k
  size_of_instruction name.Sar z to es l k = other_so z to es l k
  size_of_instruction name.Rol z to es l k = other_so z to es l k
  size_of_instruction name.Ror z to es l k = other_so z to es l k
  size_of_instruction name.Imul z to es l k = other_so z to es l k
  size_of_instruction name.Mul z to es l k = other_so z to es l k
  size_of_instruction name.Div z to es l k = other_so z to es l k

  -- an instruction whose inline parts are their values
  pub instructed_so : (i : Option Instance) (to : List Lval) (es : List Expr) (at : Span) → list_all (left_has_values names e) to ≡ true → list_all (has_values names e) es ≡ true
      → Alike (StandsFor names e) (instruction_done i to es at s) (instruction_done i (map (left_with_values e) to) (map (with_values e) es) at t)
  instructed_so None to es at l k = refl
  instructed_so (Some i) to es at l k =
      let z = intrinsic_size i.name i.size to es in
      let P = StandsFor names e in
      subst (λ y. Alike P (instruction_done (Some i) to es at s) (and_then (sized_results i.name at y (In es) t) (λ vs. all_written at y (map (left_with_values e) to) vs t))) (sym (size_of_instruction i.name i.size to es l k))
      (alike_if P (sized_results i.name at z es s) (sized_results i.name at z (In es) t) (λ vs. all_written at z to vs s) (λ vs. all_written at z (map (left_with_values e) to) vs t) (sized_so i.name at z es k)
      (λ vs. all_written_so names e at z to vs s t l h))
