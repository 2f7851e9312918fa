-- Instructions of a copied body.
use Rattle.std.proofs.Common.{◌≡◌, ℕ, List, [], ◌∷◌, map, Option, Some, None, Bool, refl, sym, subst}
use Rattle.std.specs.Option.{option_or}
use Rattle.jz_tree.specs.Span.{Span}
use Rattle.jz_tree.specs.Size.{Size}
use Rattle.jz_tree.specs.Size.TheVariants.{S8, S64}
use Rattle.jz_tree.specs.declared.expr.Expr.{Expr}
use Rattle.jz_tree.specs.declared.stmt.Lval.{Lval}
use Rattle.jz_tree.specs.declared.intrinsic.Intrinsic.{Intrinsic}
use Rattle.jz_tree.specs.declared.intrinsic.Instance.{Instance}
use Rattle.jz_tree.specs.declared.intrinsic.Intrinsic.TheVariants as name
use Rattle.x64_insn.specs.declared.types.FlagVal.{FlagVal}
use Rattle.x64_insn.specs.declared.types.Shift.{Shift}
use Rattle.x64_insn.specs.declared.types.Shift.TheVariants as shift
use Rattle.jz_meaning.specs.Attempts.{Evaluation, and_then}
use Rattle.jz_meaning.specs.States.{State}
use Rattle.jz_meaning.specs.Assignments.{Results, left_sizes, all_written}
use Rattle.jz_meaning.specs.Intrinsics.{all_flags, first_two, of_one, of_two, of_carry, of_count, of_division, of_condition, intrinsic_results, first_size, intrinsic_size, sized_results, instruction_done}
use Rattle.jz_pass.specs.Keeping.{Alike, both_stuck}
use Rattle.jz_bodies.specs.Scopes.{AllWritten, AllRead}
use Rattle.jz_inline.specs.Names.{expr_in, lval_in}
use Rattle.jz_inline.proofs.Copies.{ScopeCopy, Agrees, IsBelow, Stands}
use Rattle.jz_inline.proofs.Reading.{size_so, value_so}
use Rattle.jz_inline.proofs.Writing.{alike_then, Ends, all_written_so}
use Rattle.jz_inline.proofs.Assigning.{left_sizes_in, word_so, bool_so}

module _ (x : ScopeCopy) (s t : State) (agree : Agrees x s t) where
  abbrev In : List Expr → List Expr
  In es = map (expr_in x.names) es

  one_so : (f : ℕ → Results) (at : Span) (z : Size) (es : List Expr) → AllRead x.scope es → of_one f at z (In es) t ≡ of_one f at z es s
  one_so f at z [] r = refl
  one_so f at z (a ∷ []) r = let e = word_so x s t agree at z a r.0 in rw e
  one_so f at z (a ∷ b ∷ es) r = refl

  two_so : (f : ℕ → ℕ → Results) (at : Span) (z : Size) (es : List Expr) → AllRead x.scope es → of_two f at z (In es) t ≡ of_two f at z es s
  two_so f at z [] r = refl
  two_so f at z (a ∷ []) r = refl
  two_so f at z (a ∷ b ∷ []) r = let e = word_so x s t agree at z a r.0 in let g = word_so x s t agree at z b r.1.0 in rw (e, g)
  two_so f at z (a ∷ b ∷ c ∷ es) r = refl

  carry_so : (f : ℕ → ℕ → Bool → Results) (at : Span) (z : Size) (es : List Expr) → AllRead x.scope es → of_carry f at z (In es) t ≡ of_carry f at z es s
  carry_so f at z [] r = refl
  carry_so f at z (a ∷ []) r = refl
  carry_so f at z (a ∷ b ∷ []) r = refl
  carry_so f at z (a ∷ b ∷ c ∷ []) r =
      let e = word_so x s t agree at z a r.0 in let g = word_so x s t agree at z b r.1.0 in let h = bool_so x s t agree at c r.1.1.0 in rw (e, g, h)
  carry_so f at z (a ∷ b ∷ c ∷ d ∷ es) r = refl

  count_so : (flags : List FlagVal → Results) (k : Shift) (at : Span) (z : Size) (es : List Expr) → AllRead x.scope es → of_count flags k at z (In es) t ≡ of_count flags k at z es s
  count_so flags k at z [] r = refl
  count_so flags k at z (a ∷ []) r = refl
  count_so flags k at z (a ∷ n ∷ []) r = let e = word_so x s t agree at z a r.0 in let g = value_so x s t agree n r.1.0 (Some S8) in rw (e, g)
  count_so flags k at z (a ∷ b ∷ c ∷ es) r = refl

  division_so : (at : Span) (z : Size) (es : List Expr) → AllRead x.scope es → of_division at z (In es) t ≡ of_division at z es s
  division_so at z [] r = refl
  division_so at z (a ∷ []) r = refl
  division_so at z (a ∷ b ∷ []) r = refl
  division_so at z (a ∷ b ∷ d ∷ []) r =
      let e = word_so x s t agree at z a r.0 in let g = word_so x s t agree at z b r.1.0 in let h = word_so x s t agree at z d r.1.1.0 in rw (e, g, h)
  division_so at z (a ∷ b ∷ c ∷ d ∷ es) r = refl

  condition_so : (at : Span) (es : List Expr) → AllRead x.scope es → of_condition at (In es) t ≡ of_condition at es s
  condition_so at [] r = refl
  condition_so at (c ∷ []) r = let e = bool_so x s t agree at c r.0 in rw e
  condition_so at (a ∷ b ∷ es) r = refl

  intrinsic_so : (i : Intrinsic) (at : Span) (z : Size) (es : List Expr) → AllRead x.scope es → intrinsic_results i at z (In es) t ≡ intrinsic_results i at z es s
  intrinsic_so name.Add at z es r = two_so _ at z es r
  intrinsic_so name.Sub at z es r = two_so _ at z es r
  intrinsic_so name.And at z es r = two_so _ at z es r
  intrinsic_so name.Or at z es r = two_so _ at z es r
  intrinsic_so name.Xor at z es r = two_so _ at z es r
  intrinsic_so name.Adc at z es r = carry_so _ at z es r
  intrinsic_so name.Sbb at z es r = carry_so _ at z es r
  intrinsic_so name.Neg at z es r = one_so _ at z es r
  intrinsic_so name.Inc at z es r = one_so _ at z es r
  intrinsic_so name.Dec at z es r = one_so _ at z es r
  intrinsic_so name.Not at z es r = one_so _ at z es r
  intrinsic_so name.Bswap at z es r = one_so _ at z es r
  intrinsic_so name.Lea at z es r = one_so _ at S64 es r
  intrinsic_so name.Cmp at z es r = two_so _ at z es r
  intrinsic_so name.Test at z es r = two_so _ at z es r
  intrinsic_so name.Shl at z es r = count_so all_flags shift.Shl at z es r
  intrinsic_so name.Shr at z es r = count_so all_flags shift.Shr at z es r
  intrinsic_so name.Sar at z es r = count_so all_flags shift.Sar at z es r
  intrinsic_so name.Rol at z es r = count_so first_two shift.Rol at z es r
  intrinsic_so name.Ror at z es r = count_so first_two shift.Ror at z es r
  intrinsic_so name.Imul at z es r = two_so _ at z es r
  intrinsic_so name.Mul at z es r = two_so _ at z es r
  intrinsic_so name.Div at z es r = division_so at z es r
  intrinsic_so name.Setcc at z es r = condition_so at es r

  first_so : (es : List Expr) → first_size (In es) ≡ first_size es
  first_so [] = refl
  first_so (e ∷ es) = let p = size_so x s t agree e in let q = first_so es in rw (p, q)

  other_size : (z : Option Size) (to : List Lval) (es : List Expr) → option_or z (option_or (left_sizes (map (lval_in x.names) to)) (first_size (In es))) ≡ option_or z (option_or (left_sizes to) (first_size es))
  other_size z to es = let p = left_sizes_in x s t agree to in let q = first_so es in rw (p, q)

  instruction_size : (i : Intrinsic) (z : Option Size) (to : List Lval) (es : List Expr) → intrinsic_size i z (map (lval_in x.names) to) (In es) ≡ intrinsic_size i z to es
  instruction_size name.Setcc z to es = refl
  instruction_size name.Lea z to es = refl
  instruction_size name.Add z to es = other_size z to es
  instruction_size name.Sub z to es = other_size z to es
  instruction_size name.And z to es = other_size z to es
  instruction_size name.Or z to es = other_size z to es
  instruction_size name.Xor z to es = other_size z to es
  instruction_size name.Adc z to es = other_size z to es
  instruction_size name.Sbb z to es = other_size z to es
  instruction_size name.Neg z to es = other_size z to es
  instruction_size name.Inc z to es = other_size z to es
  instruction_size name.Dec z to es = other_size z to es
  instruction_size name.Not z to es = other_size z to es
  instruction_size name.Bswap z to es = other_size z to es
  instruction_size name.Cmp z to es = other_size z to es
  instruction_size name.Test z to es = other_size z to es
  instruction_size name.Shl z to es = other_size z to es
  instruction_size name.Shr z to es = other_size z to es
  instruction_size name.Sar z to es = other_size z to es
  instruction_size name.Rol z to es = other_size z to es
  instruction_size name.Ror z to es = other_size z to es
  instruction_size name.Imul z to es = other_size z to es
  instruction_size name.Mul z to es = other_size z to es
  instruction_size name.Div z to es = other_size z to es

  sized_so : (i : Intrinsic) (at : Span) (z : Option Size) (es : List Expr) → AllRead x.scope es → sized_results i at z (In es) t ≡ sized_results i at z es s
  sized_so i at None es r = refl
  sized_so i at (Some z) es r = intrinsic_so i at z es r

module _ (x : ScopeCopy) (c : ℕ) (below : IsBelow x c) where
  pub instruction_so : (i : Option Instance) (to : List Lval) (es : List Expr) (at : Span) (s t : State) → Stands x s t → AllWritten x.scope to → AllRead x.scope es → Alike (Ends x c below t) (instruction_done i to es at s) (instruction_done i (map (lval_in x.names) to) (map (expr_in x.names) es) at t)
  instruction_so None to es at s t st w r = both_stuck
  instruction_so (Some i) to es at s t st w r =
      let a = st.agrees in
      let z = intrinsic_size i.name i.size to es in
      let f = λ (y : Option Size) (u : Evaluation Results). Alike (Ends x c below t) (instruction_done (Some i) to es at s) (and_then u (λ vs. all_written at y (map (lval_in x.names) to) vs t)) in
      subst (λ y. f y (sized_results i.name at y (map (expr_in x.names) es) t)) (sym (instruction_size x s t a i.name i.size to es))
      (subst (f z) (sym (sized_so x s t a i.name at z es r))
      (alike_then (sized_results i.name at z es s) (λ vs. all_written at z to vs s) (λ vs. all_written at z (map (lval_in x.names) to) vs t) (λ ns vs e. all_written_so x c below at s t z to vs st w)))
