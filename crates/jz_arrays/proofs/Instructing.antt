-- Instructions whose cells are scalars.
use Rattle.std.proofs.Common.{◌≡◌, ℕ, List, [], ◌∷◌, ◌++◌, map, Option, Some, None, Bool, refl, ap, sym, ◌∙◌, subst, append-nil, append_assoc}
use Rattle.std.specs.Prelude.{All, take}
use Rattle.std.specs.Option.{option_or}
use Rattle.std.proofs.lemmas.List.Elements.{All-head, All-tail}
use Rattle.jz_tree.specs.Span.{Span}
use Rattle.jz_tree.specs.Size.{Size}
use Rattle.jz_tree.specs.Size.TheVariants.{S8, S64}
use Rattle.x64_insn.specs.declared.types.FlagVal.{FlagVal}
use Rattle.x64_insn.specs.declared.types.Shift.{Shift}
use Rattle.x64_insn.specs.declared.types.Shift.TheVariants as shift
use Rattle.x64_insn.specs.declared.products.DoubleAnswer.{DoubleAnswer}
use Rattle.x64_insn.specs.Products.{quotient_answer}
use Rattle.jz_tree.specs.declared.expr.Expr.{Expr}
use Rattle.jz_tree.specs.declared.stmt.Lval.{Lval}
use Rattle.jz_tree.specs.declared.intrinsic.Intrinsic.{Intrinsic}
use Rattle.jz_tree.specs.declared.intrinsic.Intrinsic.TheVariants as name
use Rattle.jz_tree.specs.declared.intrinsic.Instance.{Instance}
use Rattle.jz_runs.specs.Rules.{went}
use Rattle.jz_meaning.specs.Attempts.{Evaluation, and_then}
use Rattle.jz_meaning.specs.States.{Value, word, boolean, integer, State}
use Rattle.std.specs.Prelude.{pos, negsuc}
use Rattle.jz_meaning.specs.Values.{evaluated}
use Rattle.jz_meaning.specs.Assignments.{Results, left_sizes, word_in, bool_in, all_written}
use Rattle.jz_meaning.specs.Intrinsics.{all_flags, first_two, of_one, of_two, of_carry, of_count, shift_results, divided_by, division_results, of_division, of_condition, intrinsic_results, first_size, intrinsic_size, sized_results, instruction_done}
use Rattle.jz_meaning.specs.Shapes.{Sorts, HoldsSorts}
use Rattle.jz_arrays.specs.Cells.{sort_in, with_scalars, left_with_scalars, Mask, all_kept, mask_of, lefts_mask, args_mask, own_numbers, instruction_mask}
use Rattle.jz_arrays.specs.Arrays.{IsRead, flags_before, IsNoCell}
use Rattle.jz_arrays.specs.ScalarLaws.{IsThinned}
use Rattle.jz_arrays.proofs.Reading.{thin_then, scalars_so, size_kept}
use Rattle.jz_arrays.proofs.Assigning.{AreLeft, word_thin, bool_thin, thin_if, all_thin, ws_sizes}
use Rattle.jz_arrays.proofs.GivenWords.{given_so}

pub thin_as : {A : Type 0} (m k : Mask) (g h : Evaluation A) → m ≡ k → IsThinned m g h → IsThinned k g h
thin_as m k g h e t = subst (λ x. IsThinned x g h) e t

-- ---- numbers of their own

shift_plain : (flags : List FlagVal → Results) (k : Shift) (at : Span) (z : Size) (a : ℕ) (v : Value) → IsThinned [] (shift_results flags k at z a v) (shift_results flags k at z a v)
shift_plain flags k at z a (integer (pos n)) = (refl, refl)
shift_plain flags k at z a (integer (negsuc n)) = refl
shift_plain flags k at z a (word y n) = (refl, refl)
shift_plain flags k at z a (boolean c) = refl

divided_thin : (at : Span) (z : Size) (a b d : ℕ) (o : Option DoubleAnswer) → IsThinned (all_kept 3) (divided_by at z (a ∷ b ∷ d ∷ []) o) (divided_by at z (a ∷ b ∷ d ∷ []) o)
divided_thin at z a b d None = refl
divided_thin at z a b d (Some r) = (refl, refl)

module _ (sorts : Sorts) (s : State) (holds : HoldsSorts sorts s.store) where
  abbrev AreRead : List Expr → Type 0
  AreRead [] = Unit {0}
  AreRead (e ∷ es) = IsRead sorts (Some e) × AreRead es

  abbrev In : List Expr → List Expr
  In es = map with_scalars es

  abbrev M : List Expr → Mask
  M es = args_mask (sort_in sorts) es

  -- nothing of its own behind the operands
  behind_none : {A : Type 0} (es : List Expr) (g h : Evaluation A) → IsThinned (M es) g h → IsThinned (M es ++ []) g h
  behind_none es g h t = thin_as (M es) (M es ++ []) g h (sym (append-nil (M es))) t

  one_thin : (f : ℕ → Results) (at : Span) (z : Size) (es : List Expr) → AreRead es → IsThinned (M es) (of_one f at z es s) (of_one f at z (In es) s)
  one_thin f at z [] r = refl
  one_thin f at z (a ∷ []) r = thin_then (mask_of (sort_in sorts) a) [] (word_in at z a s) (word_in at z (with_scalars a) s) (λ x. went [] (f x)) (λ x. went [] (f x)) (word_thin sorts s holds at z a r.0) (λ x. (refl, refl))
  one_thin f at z (a ∷ b ∷ es) r = refl

  two_thin : (f : ℕ → ℕ → Results) (at : Span) (z : Size) (es : List Expr) → AreRead es → IsThinned (M es) (of_two f at z es s) (of_two f at z (In es) s)
  two_thin f at z [] r = refl
  two_thin f at z (a ∷ []) r = refl
  two_thin f at z (a ∷ b ∷ []) r =
      thin_then (mask_of (sort_in sorts) a) (mask_of (sort_in sorts) b ++ []) (word_in at z a s) (word_in at z (with_scalars a) s) (λ x. and_then (word_in at z b s) (λ y. went [] (f x y))) (λ x. and_then (word_in at z (with_scalars b) s) (λ y. went [] (f x y))) (word_thin sorts s holds at z a r.0)
      (λ x. thin_then (mask_of (sort_in sorts) b) [] (word_in at z b s) (word_in at z (with_scalars b) s) (λ y. went [] (f x y)) (λ y. went [] (f x y)) (word_thin sorts s holds at z b r.1.0) (λ y. (refl, refl)))
  two_thin f at z (a ∷ b ∷ c ∷ es) r = refl

  carry_thin : (f : ℕ → ℕ → Bool → Results) (at : Span) (z : Size) (es : List Expr) → AreRead es → IsThinned (M es) (of_carry f at z es s) (of_carry f at z (In es) s)
  carry_thin f at z [] r = refl
  carry_thin f at z (a ∷ []) r = refl
  carry_thin f at z (a ∷ b ∷ []) r = refl
  carry_thin f at z (a ∷ b ∷ c ∷ []) r =
      thin_then (mask_of (sort_in sorts) a) (mask_of (sort_in sorts) b ++ (mask_of (sort_in sorts) c ++ [])) (word_in at z a s) (word_in at z (with_scalars a) s) (λ x. and_then (word_in at z b s) (λ y. and_then (bool_in at c s) (λ k. went [] (f x y k)))) (λ x. and_then (word_in at z (with_scalars b) s) (λ y. and_then (bool_in at (with_scalars c) s) (λ k. went [] (f x y k)))) (word_thin sorts s holds at z a r.0)
      (λ x. thin_then (mask_of (sort_in sorts) b) (mask_of (sort_in sorts) c ++ []) (word_in at z b s) (word_in at z (with_scalars b) s) (λ y. and_then (bool_in at c s) (λ k. went [] (f x y k))) (λ y. and_then (bool_in at (with_scalars c) s) (λ k. went [] (f x y k))) (word_thin sorts s holds at z b r.1.0)
      (λ y. thin_then (mask_of (sort_in sorts) c) [] (bool_in at c s) (bool_in at (with_scalars c) s) (λ k. went [] (f x y k)) (λ k. went [] (f x y k)) (bool_thin sorts s holds at c r.1.1.0) (λ k. (refl, refl))))
  carry_thin f at z (a ∷ b ∷ c ∷ d ∷ es) r = refl

  count_thin : (flags : List FlagVal → Results) (k : Shift) (at : Span) (z : Size) (es : List Expr) → AreRead es → IsThinned (M es) (of_count flags k at z es s) (of_count flags k at z (In es) s)
  count_thin flags k at z [] r = refl
  count_thin flags k at z (a ∷ []) r = refl
  count_thin flags k at z (a ∷ n ∷ []) r =
      thin_then (mask_of (sort_in sorts) a) (mask_of (sort_in sorts) n ++ []) (word_in at z a s) (word_in at z (with_scalars a) s) (λ x. and_then (evaluated n (Some S8) s) (λ v. shift_results flags k at z x v)) (λ x. and_then (evaluated (with_scalars n) (Some S8) s) (λ v. shift_results flags k at z x v)) (word_thin sorts s holds at z a r.0)
      (λ x. thin_then (mask_of (sort_in sorts) n) [] (evaluated n (Some S8) s) (evaluated (with_scalars n) (Some S8) s) (λ v. shift_results flags k at z x v) (λ v. shift_results flags k at z x v) (scalars_so sorts s holds n (Some S8) r.1.0) (λ v. shift_plain flags k at z x v))
  count_thin flags k at z (a ∷ b ∷ c ∷ es) r = refl

  three_kept : (a b d : Mask) (k : Mask) → a ++ (b ++ (d ++ k)) ≡ (a ++ (b ++ (d ++ []))) ++ k
  three_kept a b d k = ap (λ x. a ++ (b ++ (x ++ k))) (sym (append-nil d)) ∙ ap (λ x. a ++ x) (sym (append_assoc b (d ++ []) k)) ∙ sym (append_assoc a (b ++ (d ++ [])) k)

  division_thin : (at : Span) (z : Size) (es : List Expr) → AreRead es → IsThinned (M es ++ all_kept 3) (of_division at z es s) (of_division at z (In es) s)
  division_thin at z [] r = refl
  division_thin at z (a ∷ []) r = refl
  division_thin at z (a ∷ b ∷ []) r = refl
  division_thin at z (a ∷ b ∷ d ∷ []) r =
      thin_as (mask_of (sort_in sorts) a ++ (mask_of (sort_in sorts) b ++ (mask_of (sort_in sorts) d ++ all_kept 3))) (M (a ∷ b ∷ d ∷ []) ++ all_kept 3) (of_division at z (a ∷ b ∷ d ∷ []) s) (of_division at z (In (a ∷ b ∷ d ∷ [])) s) (three_kept (mask_of (sort_in sorts) a) (mask_of (sort_in sorts) b) (mask_of (sort_in sorts) d) (all_kept 3))
      (thin_then (mask_of (sort_in sorts) a) (mask_of (sort_in sorts) b ++ (mask_of (sort_in sorts) d ++ all_kept 3)) (word_in at z a s) (word_in at z (with_scalars a) s) (λ x. and_then (word_in at z b s) (λ y. and_then (word_in at z d s) (division_results at z x y))) (λ x. and_then (word_in at z (with_scalars b) s) (λ y. and_then (word_in at z (with_scalars d) s) (division_results at z x y))) (word_thin sorts s holds at z a r.0)
      (λ x. thin_then (mask_of (sort_in sorts) b) (mask_of (sort_in sorts) d ++ all_kept 3) (word_in at z b s) (word_in at z (with_scalars b) s) (λ y. and_then (word_in at z d s) (division_results at z x y)) (λ y. and_then (word_in at z (with_scalars d) s) (division_results at z x y)) (word_thin sorts s holds at z b r.1.0)
      (λ y. thin_then (mask_of (sort_in sorts) d) (all_kept 3) (word_in at z d s) (word_in at z (with_scalars d) s) (division_results at z x y) (division_results at z x y) (word_thin sorts s holds at z d r.1.1.0) (λ n. divided_thin at z x y n (quotient_answer z x y n)))))
  division_thin at z (a ∷ b ∷ c ∷ d ∷ es) r = refl

  condition_thin : (at : Span) (es : List Expr) → AreRead es → IsThinned (M es) (of_condition at es s) (of_condition at (In es) s)
  condition_thin at [] r = refl
  condition_thin at (c ∷ []) r = thin_then (mask_of (sort_in sorts) c) [] (bool_in at c s) (bool_in at (with_scalars c) s) _ _ (bool_thin sorts s holds at c r.0) (λ k. (refl, refl))
  condition_thin at (a ∷ b ∷ es) r = refl

  intrinsic_thin : (i : Intrinsic) (at : Span) (z : Size) (es : List Expr) → AreRead es → IsThinned (M es ++ all_kept (own_numbers i)) (intrinsic_results i at z es s) (intrinsic_results i at z (In es) s)
  intrinsic_thin name.Add at z es r = behind_none es _ _ (two_thin _ at z es r)
  intrinsic_thin name.Sub at z es r = behind_none es _ _ (two_thin _ at z es r)
  intrinsic_thin name.And at z es r = behind_none es _ _ (two_thin _ at z es r)
  intrinsic_thin name.Or at z es r = behind_none es _ _ (two_thin _ at z es r)
  intrinsic_thin name.Xor at z es r = behind_none es _ _ (two_thin _ at z es r)
  intrinsic_thin name.Adc at z es r = behind_none es _ _ (carry_thin _ at z es r)
  intrinsic_thin name.Sbb at z es r = behind_none es _ _ (carry_thin _ at z es r)
  intrinsic_thin name.Neg at z es r = behind_none es _ _ (one_thin _ at z es r)
  intrinsic_thin name.Inc at z es r = behind_none es _ _ (one_thin _ at z es r)
  intrinsic_thin name.Dec at z es r = behind_none es _ _ (one_thin _ at z es r)
  intrinsic_thin name.Not at z es r = behind_none es _ _ (one_thin _ at z es r)
  intrinsic_thin name.Bswap at z es r = behind_none es _ _ (one_thin _ at z es r)
  intrinsic_thin name.Lea at z es r = behind_none es _ _ (one_thin _ at S64 es r)
  intrinsic_thin name.Cmp at z es r = behind_none es _ _ (two_thin _ at z es r)
  intrinsic_thin name.Test at z es r = behind_none es _ _ (two_thin _ at z es r)
  intrinsic_thin name.Shl at z es r = behind_none es _ _ (count_thin all_flags shift.Shl at z es r)
  intrinsic_thin name.Shr at z es r = behind_none es _ _ (count_thin all_flags shift.Shr at z es r)
  intrinsic_thin name.Sar at z es r = behind_none es _ _ (count_thin all_flags shift.Sar at z es r)
  intrinsic_thin name.Rol at z es r = behind_none es _ _ (count_thin first_two shift.Rol at z es r)
  intrinsic_thin name.Ror at z es r = behind_none es _ _ (count_thin first_two shift.Ror at z es r)
  intrinsic_thin name.Imul at z es r = behind_none es _ _ (two_thin _ at z es r)
  intrinsic_thin name.Mul at z es r = behind_none es _ _ (two_thin _ at z es r)
  intrinsic_thin name.Div at z es r = division_thin at z es r
  intrinsic_thin name.Setcc at z es r = behind_none es _ _ (condition_thin at es r)

  sized_thin : (i : Intrinsic) (at : Span) (z : Option Size) (es : List Expr) → AreRead es → IsThinned (M es ++ all_kept (own_numbers i)) (sized_results i at z es s) (sized_results i at z (In es) s)
  sized_thin i at None es r = refl
  sized_thin i at (Some z) es r = intrinsic_thin i at z es r

  first_kept : (es : List Expr) → first_size (In es) ≡ first_size es
  first_kept [] = refl
  first_kept (e ∷ es) = let p = size_kept sorts s holds e in let q = first_kept es in rw (p, q)

  other_kept : (z : Option Size) (to : List Lval) (es : List Expr) → option_or z (option_or (left_sizes (map left_with_scalars to)) (first_size (In es))) ≡ option_or z (option_or (left_sizes to) (first_size es))
  other_kept z to es = let p = ws_sizes sorts s holds to in let q = first_kept es in rw (p, q)

  instruction_size : (i : Intrinsic) (z : Option Size) (to : List Lval) (es : List Expr) → intrinsic_size i z (map left_with_scalars to) (In es) ≡ intrinsic_size i z to es
  instruction_size name.Setcc z to es = refl
  instruction_size name.Lea z to es = refl
  instruction_size name.Add z to es = other_kept z to es
  instruction_size name.Sub z to es = other_kept z to es
  instruction_size name.And z to es = other_kept z to es
  instruction_size name.Or z to es = other_kept z to es
  instruction_size name.Xor z to es = other_kept z to es
  instruction_size name.Adc z to es = other_kept z to es
  instruction_size name.Sbb z to es = other_kept z to es
  instruction_size name.Neg z to es = other_kept z to es
  instruction_size name.Inc z to es = other_kept z to es
  instruction_size name.Dec z to es = other_kept z to es
  instruction_size name.Not z to es = other_kept z to es
  instruction_size name.Bswap z to es = other_kept z to es
  instruction_size name.Cmp z to es = other_kept z to es
  instruction_size name.Test z to es = other_kept z to es
  instruction_size name.Shl z to es = other_kept z to es
  instruction_size name.Shr z to es = other_kept z to es
  instruction_size name.Sar z to es = other_kept z to es
  instruction_size name.Rol z to es = other_kept z to es
  instruction_size name.Ror z to es = other_kept z to es
  instruction_size name.Imul z to es = other_kept z to es
  instruction_size name.Mul z to es = other_kept z to es
  instruction_size name.Div z to es = other_kept z to es

  all_read : (es : List Expr) → All (λ e. IsRead sorts (Some e)) es → AreRead es
  all_read [] h = tt
  all_read (e ∷ es) h = (All-head (λ y. IsRead sorts (Some y)) e es h, all_read es (All-tail (λ y. IsRead sorts (Some y)) e es h))

  -- an instruction whose cells are scalars: the same state, and of its numbers those that are left
  pub instruction_thin : (i : Option Instance) (to : List Lval) (es : List Expr) (at : Span) → AreLeft sorts to → All (λ e. IsRead sorts (Some e)) es → All IsNoCell (take (flags_before i) to)
      → IsThinned (instruction_mask (sort_in sorts) i to es) (instruction_done i to es at s) (instruction_done i (map left_with_scalars to) (map with_scalars es) at s)
  instruction_thin None to es at l r given = refl
  instruction_thin (Some i) to es at l r given =
      let z = intrinsic_size i.name i.size to es in
      let f = λ (y : Option Size). IsThinned (instruction_mask (sort_in sorts) (Some i) to es) (instruction_done (Some i) to es at s) (and_then (sized_results i.name at y (In es) s) (λ vs. all_written at y (map left_with_scalars to) vs s)) in
      subst f (sym (instruction_size i.name i.size to es))
      (thin_if sorts (M es ++ all_kept (own_numbers i.name)) (lefts_mask (sort_in sorts) to) (sized_results i.name at z es s) (sized_results i.name at z (In es) s) (λ vs. all_written at z to vs s) (λ vs. all_written at z (map left_with_scalars to) vs s)
      (sized_thin i.name at z es (all_read es r)) (λ ns vs q. all_thin sorts at s z to vs holds l (given_so (Some i) to es at s ns vs given q)))
