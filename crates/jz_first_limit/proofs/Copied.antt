-- What a call copies, one argument and one result after another.
use Rattle.std.proofs.Common.{◌≡◌, ◌<◌, ◌≤◌, ◌+◌, ℕ, List, [], ◌∷◌, ◌++◌, length, drop, get_or, Some, None, refl, ap, sym, subst, ◌∙◌, inl, inr, false, if◌then◌else◌}
use Rattle.std.specs.Prelude.{slice_get}
use Rattle.std.proofs.lemmas.List.{drop_more, drop_all}
use Rattle.std.proofs.lemmas.Option.{slice_get_within, get_or_from_slice_get, slice_get_cases}
use Rattle.jz_tree.specs.Span.{Span}
use Rattle.jz_tree.specs.declared.expr.Expr.{Expr}
use Rattle.jz_tree.specs.declared.expr.Var.{Var}
use Rattle.jz_tree.specs.declared.program.Param.{Param}
use Rattle.jz_tree.specs.declared.stmt.Lval.{Lval}
use Rattle.jz_tree.specs.declared.stmt.Lval.TheVariants as lval
use Rattle.jz_tree.specs.declared.expr.Access.{Access}
use Rattle.jz_tree.specs.declared.expr.Expr.TheVariants as expr
use Rattle.jz_integers.specs.Integers.{KnownNumbers}
use Rattle.jz_limits.specs.declared.limit.Limit.{Limit}
use Rattle.jz_limits.specs.InnerLooked.{first, sooner}
use Rattle.jz_meaning.specs.Values.{ref_of}
use Rattle.jz_limits.specs.Asked.{asked}
use Rattle.jz_limits.specs.Walks.{is_array, copied_to, one_argument, argument_limits, with_arguments, given_limits, one_result, result_limits}
use Rattle.jz_limits.proofs.Sides.{first_both}

-- ---- what is left of a list
module _ {A : Type 0} where
  pub at_item : (xs : List A) (i : ℕ) (x : A) → i < length xs → x ≡ get_or xs i x → drop i xs ≡ x ∷ drop (i + 1) xs
  at_item xs i x there e = drop_more xs i x there ∙ ap (λ y. y ∷ drop (i + 1) xs) (sym e)

  pub at_got : (xs : List A) (i : ℕ) (x : A) → slice_get xs i ≡ Some x → drop i xs ≡ x ∷ drop (i + 1) xs
  at_got xs i x e = drop_more xs i x (slice_get_within xs i x e) ∙ ap (λ y. y ∷ drop (i + 1) xs) (get_or_from_slice_get xs i x x e)

  pub at_end : (xs : List A) (i : ℕ) → length xs ≤ i → drop i xs ≡ []
  at_end xs i past = drop_all i xs past

  pub at_none : (xs : List A) (i : ℕ) → slice_get xs i ≡ None → drop i xs ≡ []
  at_none xs i e = elim (slice_get_cases xs i).1 [
    | inl w ↦ absurd (let clash : None ≡ Some w.0 = sym e ∙ w.2 in cc)
    | inr w ↦ at_end xs i w.0
  ]

-- ---- limits, one part after another

pub none_before : (a b : List Limit) → None ≡ first a → first (a ++ b) ≡ first b
none_before a b h = first_both a b ∙ ap (λ f. sooner f (first b)) (sym h)

pub found_before : (a b : List Limit) (l : Limit) → Some l ≡ first a → Some l ≡ first (a ++ b)
found_before a b l h = ap (λ f. sooner f (first b)) h ∙ sym (first_both a b)

pub no_more_arguments : (e : KnownNumbers) (at : Span) (ps : List Param) → argument_limits e at ps [] ≡ []
no_more_arguments e at [] = refl
no_more_arguments e at (p ∷ ps) = refl

pub no_more_numbers : (e k : KnownNumbers) (ps : List Param) → with_arguments e ps [] k ≡ k
no_more_numbers e k [] = refl
no_more_numbers e k (p ∷ ps) = refl

pub no_more_results : (e : KnownNumbers) (at : Span) (ds : List Lval) → result_limits e at ds [] ≡ []
no_more_results e at [] = refl
no_more_results e at (d ∷ ds) = refl

-- ---- one argument, and one result

pub argument_copied : (e : KnownNumbers) (at : Span) (p : Var) (x : Expr) → is_array (ref_of p).kind ≡ false → one_argument e at p x ≡ asked e (copied_to (lval.Var p) x at)
argument_copied e at p x h = ap (λ b. if b then [] else asked e (copied_to (lval.Var p) x at)) h

pub result_copied : (e : KnownNumbers) (at : Span) (d : Lval) (v : Var) → is_array (ref_of v).kind ≡ false → one_result e at d v ≡ given_limits e at d v
result_copied e at d v h = ap (λ b. if b then [] else given_limits e at d v) h

pub given_var : (e : KnownNumbers) (at : Span) (d : Lval) (v w : Var) → d ≡ lval.Var w → given_limits e at d v ≡ asked e (copied_to d (expr.Var v) at)
given_var e at d v w h = subst (λ k. given_limits e at k v ≡ asked e (copied_to k (expr.Var v) at)) (sym h) refl

pub given_cell : (e : KnownNumbers) (at : Span) (d : Lval) (v w : Var) (i : Expr) → d ≡ lval.Cell w i → given_limits e at d v ≡ asked e (copied_to d (expr.Var v) at)
given_cell e at d v w i h = subst (λ k. given_limits e at k v ≡ asked e (copied_to k (expr.Var v) at)) (sym h) refl

pub given_store : (e : KnownNumbers) (at : Span) (d : Lval) (v : Var) (a : Access) → d ≡ lval.Store a → given_limits e at d v ≡ asked e (copied_to d (expr.Var v) at)
given_store e at d v a h = subst (λ k. given_limits e at k v ≡ asked e (copied_to k (expr.Var v) at)) (sym h) refl
