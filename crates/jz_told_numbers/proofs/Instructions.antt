-- Of what an instruction leaks in two states, the indices of cells that become scalars are the same.
use Rattle.std.proofs.Common.{ℕ, List, [], ◌∷◌, ◌++◌, map, Option, Some, None, Bool, refl}
use Rattle.std.specs.Prelude.{All, take}
use Rattle.std.proofs.lemmas.List.Elements.{All-head, All-tail}
use Rattle.jz_tree.specs.Span.{Span}
use Rattle.jz_tree.specs.Size.{Size}
use Rattle.jz_tree.specs.Size.TheVariants.{S8, S64}
use Rattle.x64_insn.specs.declared.types.FlagVal.{FlagVal}
use Rattle.x64_insn.specs.declared.types.Shift.{Shift}
use Rattle.x64_insn.specs.declared.types.Shift.TheVariants as shift
use Rattle.jz_tree.specs.declared.expr.Expr.{Expr}
use Rattle.jz_tree.specs.declared.stmt.Lval.{Lval}
use Rattle.jz_tree.specs.declared.intrinsic.Intrinsic.{Intrinsic}
use Rattle.jz_tree.specs.declared.intrinsic.Intrinsic.TheVariants as name
use Rattle.jz_tree.specs.declared.intrinsic.Instance.{Instance}
use Rattle.jz_runs.specs.Rules.{went}
use Rattle.jz_meaning.specs.Attempts.{and_then}
use Rattle.jz_meaning.specs.States.{State}
use Rattle.jz_meaning.specs.Values.{evaluated}
use Rattle.jz_meaning.specs.Assignments.{Results, word_in, bool_in, all_written}
use Rattle.jz_meaning.specs.Intrinsics.{all_flags, first_two, of_one, of_two, of_carry, of_count, shift_results, division_results, of_division, of_condition, intrinsic_results, intrinsic_size, sized_results, instruction_done}
use Rattle.jz_meaning.specs.Shapes.{Sorts, HoldsSorts}
use Rattle.jz_arrays.specs.Cells.{sort_in, with_scalars, left_with_scalars, Mask, all_kept, mask_of, lefts_mask, args_mask, own_numbers, instruction_mask}
use Rattle.jz_arrays.specs.Arrays.{IsRead, flags_before, IsNoCell}
use Rattle.jz_arrays.proofs.Assigning.{AreLeft}
use Rattle.jz_arrays.proofs.Instructing.{instruction_thin}
use Rattle.jz_told_numbers.specs.Dropped.{SameDropped}
use Rattle.jz_told_numbers.proofs.Masks.{length_of, drop_then, drop_kept, drop_before, drop_whole}
use Rattle.jz_told_numbers.proofs.Expressions.{one_length, other_length, expression_drops}
use Rattle.jz_told_numbers.proofs.Assignments.{word_then, bool_then, lefts_drop, lefts_length}

module _ (sorts : Sorts) (s r : State) (hs : HoldsSorts sorts s.store) (hr : HoldsSorts sorts r.store) where
  abbrev AreRead : List Expr → Type 0
  AreRead [] = Unit {0}
  AreRead (e ∷ es) = IsRead sorts (Some e) × AreRead es

  abbrev M : List Expr → Mask
  M es = args_mask (sort_in sorts) es

  abbrev S : Expr → Mask
  S e = mask_of (sort_in sorts) e

  one_drops : (f : ℕ → Results) (at : Span) (z : Size) (es : List Expr) → AreRead es → SameDropped (M es) (of_one f at z es s) (of_one f at z es r)
  one_drops f at z [] x = tt
  one_drops f at z (a ∷ []) x = word_then sorts s r hs hr [] at z z a (λ u. went [] (f u)) (λ u. went [] (f u)) x.0 (λ u v. drop_kept 0 (went [] (f u)) (went [] (f v)))
  one_drops f at z (a ∷ b ∷ es) x = tt

  two_drops : (f : ℕ → ℕ → Results) (at : Span) (z : Size) (es : List Expr) → AreRead es → SameDropped (M es) (of_two f at z es s) (of_two f at z es r)
  two_drops f at z [] x = tt
  two_drops f at z (a ∷ []) x = tt
  two_drops f at z (a ∷ b ∷ []) x =
      word_then sorts s r hs hr (S b ++ []) at z z a (λ u. and_then (word_in at z b s) (λ y. went [] (f u y))) (λ u. and_then (word_in at z b r) (λ y. went [] (f u y))) x.0
      (λ u v. word_then sorts s r hs hr [] at z z b (λ y. went [] (f u y)) (λ y. went [] (f v y)) x.1.0 (λ y w. drop_kept 0 (went [] (f u y)) (went [] (f v w))))
  two_drops f at z (a ∷ b ∷ c ∷ es) x = tt

  carry_drops : (f : ℕ → ℕ → Bool → Results) (at : Span) (z : Size) (es : List Expr) → AreRead es → SameDropped (M es) (of_carry f at z es s) (of_carry f at z es r)
  carry_drops f at z [] x = tt
  carry_drops f at z (a ∷ []) x = tt
  carry_drops f at z (a ∷ b ∷ []) x = tt
  carry_drops f at z (a ∷ b ∷ c ∷ []) x =
      word_then sorts s r hs hr (S b ++ (S c ++ [])) at z z a (λ u. and_then (word_in at z b s) (λ y. and_then (bool_in at c s) (λ k. went [] (f u y k)))) (λ u. and_then (word_in at z b r) (λ y. and_then (bool_in at c r) (λ k. went [] (f u y k)))) x.0
      (λ u v. word_then sorts s r hs hr (S c ++ []) at z z b (λ y. and_then (bool_in at c s) (λ k. went [] (f u y k))) (λ y. and_then (bool_in at c r) (λ k. went [] (f v y k))) x.1.0
      (λ y w. bool_then sorts s r hs hr [] at c (λ k. went [] (f u y k)) (λ k. went [] (f v w k)) x.1.1.0 (λ k l. drop_kept 0 (went [] (f u y k)) (went [] (f v w l)))))
  carry_drops f at z (a ∷ b ∷ c ∷ d ∷ es) x = tt

  count_drops : (flags : List FlagVal → Results) (k : Shift) (at : Span) (z : Size) (es : List Expr) → AreRead es → SameDropped (M es) (of_count flags k at z es s) (of_count flags k at z es r)
  count_drops flags k at z [] x = tt
  count_drops flags k at z (a ∷ []) x = tt
  count_drops flags k at z (a ∷ n ∷ []) x =
      word_then sorts s r hs hr (S n ++ []) at z z a (λ u. and_then (evaluated n (Some S8) s) (λ v. shift_results flags k at z u v)) (λ u. and_then (evaluated n (Some S8) r) (λ v. shift_results flags k at z u v)) x.0
      (λ u w. drop_then (S n) [] (evaluated n (Some S8) s) (evaluated n (Some S8) r) (λ v. shift_results flags k at z u v) (λ v. shift_results flags k at z w v) (one_length sorts s r hs hr n (Some S8) x.1.0) (other_length sorts s r hs hr n (Some S8) x.1.0) (expression_drops sorts s r hs hr n x.1.0 (Some S8) (Some S8))
      (λ ns ms a b p q. drop_kept 0 (shift_results flags k at z u a) (shift_results flags k at z w b)))
  count_drops flags k at z (a ∷ b ∷ c ∷ es) x = tt

  division_drops : (at : Span) (z : Size) (es : List Expr) → AreRead es → SameDropped (M es) (of_division at z es s) (of_division at z es r)
  division_drops at z [] x = tt
  division_drops at z (a ∷ []) x = tt
  division_drops at z (a ∷ b ∷ []) x = tt
  division_drops at z (a ∷ b ∷ d ∷ []) x =
      word_then sorts s r hs hr (S b ++ (S d ++ [])) at z z a (λ u. and_then (word_in at z b s) (λ y. and_then (word_in at z d s) (division_results at z u y))) (λ u. and_then (word_in at z b r) (λ y. and_then (word_in at z d r) (division_results at z u y))) x.0
      (λ u v. word_then sorts s r hs hr (S d ++ []) at z z b (λ y. and_then (word_in at z d s) (division_results at z u y)) (λ y. and_then (word_in at z d r) (division_results at z v y)) x.1.0
      (λ y w. word_then sorts s r hs hr [] at z z d (division_results at z u y) (division_results at z v w) x.1.1.0 (λ k l. drop_kept 0 (division_results at z u y k) (division_results at z v w l))))
  division_drops at z (a ∷ b ∷ c ∷ d ∷ es) x = tt

  condition_drops : (at : Span) (es : List Expr) → AreRead es → SameDropped (M es) (of_condition at es s) (of_condition at es r)
  condition_drops at [] x = tt
  condition_drops at (c ∷ []) x = bool_then sorts s r hs hr [] at c _ _ x.0 (λ u v. refl)
  condition_drops at (a ∷ b ∷ es) x = tt

  intrinsic_drops : (i : Intrinsic) (at : Span) (z : Size) (es : List Expr) → AreRead es → SameDropped (M es) (intrinsic_results i at z es s) (intrinsic_results i at z es r)
  intrinsic_drops name.Add at z es x = two_drops _ at z es x
  intrinsic_drops name.Sub at z es x = two_drops _ at z es x
  intrinsic_drops name.And at z es x = two_drops _ at z es x
  intrinsic_drops name.Or at z es x = two_drops _ at z es x
  intrinsic_drops name.Xor at z es x = two_drops _ at z es x
  intrinsic_drops name.Adc at z es x = carry_drops _ at z es x
  intrinsic_drops name.Sbb at z es x = carry_drops _ at z es x
  intrinsic_drops name.Neg at z es x = one_drops _ at z es x
  intrinsic_drops name.Inc at z es x = one_drops _ at z es x
  intrinsic_drops name.Dec at z es x = one_drops _ at z es x
  intrinsic_drops name.Not at z es x = one_drops _ at z es x
  intrinsic_drops name.Bswap at z es x = one_drops _ at z es x
  intrinsic_drops name.Lea at z es x = one_drops _ at S64 es x
  intrinsic_drops name.Cmp at z es x = two_drops _ at z es x
  intrinsic_drops name.Test at z es x = two_drops _ at z es x
  intrinsic_drops name.Shl at z es x = count_drops all_flags shift.Shl at z es x
  intrinsic_drops name.Shr at z es x = count_drops all_flags shift.Shr at z es x
  intrinsic_drops name.Sar at z es x = count_drops all_flags shift.Sar at z es x
  intrinsic_drops name.Rol at z es x = count_drops first_two shift.Rol at z es x
  intrinsic_drops name.Ror at z es x = count_drops first_two shift.Ror at z es x
  intrinsic_drops name.Imul at z es x = two_drops _ at z es x
  intrinsic_drops name.Mul at z es x = two_drops _ at z es x
  intrinsic_drops name.Div at z es x = division_drops at z es x
  intrinsic_drops name.Setcc at z es x = condition_drops at es x

  sized_drops : (i : Intrinsic) (at : Span) (z : Option Size) (es : List Expr) → AreRead es → SameDropped (M es ++ all_kept (own_numbers i)) (sized_results i at z es s) (sized_results i at z es r)
  sized_drops i at None es x = tt
  sized_drops i at (Some z) es x = drop_before (M es) (own_numbers i) (intrinsic_results i at z es s) (intrinsic_results i at z es r) (intrinsic_drops i at z es x)

  all_read : (es : List Expr) → All (λ e. IsRead sorts (Some e)) es → AreRead es
  all_read [] h = tt
  all_read (e ∷ es) h = (All-head (λ y. IsRead sorts (Some y)) e es h, all_read es (All-tail (λ y. IsRead sorts (Some y)) e es h))

  pub instruction_drops : (i : Option Instance) (to : List Lval) (es : List Expr) (at : Span) → AreLeft sorts to → All (λ e. IsRead sorts (Some e)) es → All IsNoCell (take (flags_before i) to)
      → SameDropped (instruction_mask (sort_in sorts) i to es) (instruction_done i to es at s) (instruction_done i to es at r)
  instruction_drops None to es at l x given = tt
  instruction_drops (Some i) to es at l x given =
      let z = intrinsic_size i.name i.size to es in
      let W = instruction_mask (sort_in sorts) (Some i) to es in
      let D = λ (t : State). instruction_done (Some i) (map left_with_scalars to) (map with_scalars es) at t in
      drop_whole (M es ++ all_kept (own_numbers i.name)) (lefts_mask (sort_in sorts) to) (sized_results i.name at z es s) (sized_results i.name at z es r) (λ vs. all_written at z to vs s) (λ vs. all_written at z to vs r)
      (length_of W (instruction_done (Some i) to es at s) (D s) (instruction_thin sorts s hs (Some i) to es at l x given)) (length_of W (instruction_done (Some i) to es at r) (D r) (instruction_thin sorts r hr (Some i) to es at l x given))
      (λ vs ns t e. lefts_length sorts at s z to vs hs l ns t e) (λ vs ns t e. lefts_length sorts at r z to vs hr l ns t e)
      (sized_drops i.name at z es (all_read es x)) (λ vs us. lefts_drop sorts at s r z z to vs us hs hr l)
