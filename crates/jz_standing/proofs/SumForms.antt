-- The forms of an index or an address.
use Rattle.std.proofs.Common.{◌≡◌, inl, inr, ℕ, Bool, true, false, Some, refl, ℤ}
use Rattle.std.specs.Prelude.{◌&&◌}
use Rattle.jz_tree.specs.Span.{Span}
use Rattle.x64_insn.specs.Size.TheVariants.{S64}
use Rattle.jz_tree.specs.declared.expr.BinOp.TheVariants as o
use Rattle.jz_meaning.specs.declared.access.Kind.TheVariants as kind
use Rattle.jz_meaning.specs.States.{Key}
use Rattle.jz_meaning.specs.Values.{Ref}
use Rattle.jz_run_laws.specs.Kinds.{Kinds}
use Rattle.jz_terms.specs.Terms.{Term, num, truth, var, cell, load, neg, inv, cast, bin}
use Rattle.jz_fact_laws.specs.Saying.{is_number}
use Rattle.jz_standing.specs.Typing.{IsScalar, IsSum, IsWord}

module _ (kinds : Kinds) (in_frame : Key → Bool) where
  module _ (P : Term → Type 0)
      (by_number : (i : ℤ) (at : Span) → P (num i at))
      (by_variable : (x : Ref) → x.kind ≡ kind.Word S64 → IsScalar kinds in_frame x → P (var x))
      (by_scale : (k : ℤ) (t : Span) (x : Ref) (at : Span) → x.kind ≡ kind.Word S64 → IsScalar kinds in_frame x → P (bin o.Mul (num k t) (var x) at))
      (by_scaled : (x : Ref) (k : ℤ) (t at : Span) → x.kind ≡ kind.Word S64 → IsScalar kinds in_frame x → P (bin o.Mul (var x) (num k t) at))
      (by_sum : (a b : Term) (at : Span) → (is_number a && is_number b) ≡ false → IsSum kinds in_frame a → IsSum kinds in_frame b → P a → P b → P (bin o.Add a b at))
      (by_difference : (a : Term) (i : ℤ) (t at : Span) → is_number a ≡ false → IsSum kinds in_frame a → P a → P (bin o.Sub a (num i t) at)) where
    pub summed : (t : Term) → IsSum kinds in_frame t → P t
    summed (num i at) h = by_number i at
    summed (var x) h = by_variable x h.0 h.1
    summed (bin o.Mul (num k t) (var x) at) h = by_scale k t x at h.0 h.1
    summed (bin o.Mul (var x) (num k t) at) h = by_scaled x k t at h.0 h.1
    summed (bin o.Add a b at) h = by_sum a b at h.0 h.1 h.2 (summed a h.1) (summed b h.2)
    summed (bin o.Sub a (num i t) at) h = by_difference a i t at h.0 h.1 (summed a h.1)
    summed (truth b at) h = absurd h
    summed (cell x j) h = absurd h
    summed (load p a) h = absurd h
    summed (neg a at) h = absurd h
    summed (inv a at) h = absurd h
    summed (cast y sign a at) h = absurd h
    summed (bin o.Sub a (truth e0 e1) at) h = absurd h
    summed (bin o.Sub a (cell e0 e1) at) h = absurd h
    summed (bin o.Sub a (load e0 e1) at) h = absurd h
    summed (bin o.Sub a (neg e0 e1) at) h = absurd h
    summed (bin o.Sub a (inv e0 e1) at) h = absurd h
    summed (bin o.Sub a (cast e0 e1 e2 e3) at) h = absurd h
    summed (bin o.Sub a (bin e0 e1 e2 e3) at) h = absurd h
    summed (bin o.Sub a (var e0) at) h = absurd h
    summed (bin o.Mul (num k t) (num e0 e1) at) h = absurd h
    summed (bin o.Mul (num k t) (truth e0 e1) at) h = absurd h
    summed (bin o.Mul (num k t) (cell e0 e1) at) h = absurd h
    summed (bin o.Mul (num k t) (load e0 e1) at) h = absurd h
    summed (bin o.Mul (num k t) (neg e0 e1) at) h = absurd h
    summed (bin o.Mul (num k t) (inv e0 e1) at) h = absurd h
    summed (bin o.Mul (num k t) (cast e0 e1 e2 e3) at) h = absurd h
    summed (bin o.Mul (num k t) (bin e0 e1 e2 e3) at) h = absurd h
    summed (bin o.Mul (var x) (var e0) at) h = absurd h
    summed (bin o.Mul (var x) (truth e0 e1) at) h = absurd h
    summed (bin o.Mul (var x) (cell e0 e1) at) h = absurd h
    summed (bin o.Mul (var x) (load e0 e1) at) h = absurd h
    summed (bin o.Mul (var x) (neg e0 e1) at) h = absurd h
    summed (bin o.Mul (var x) (inv e0 e1) at) h = absurd h
    summed (bin o.Mul (var x) (cast e0 e1 e2 e3) at) h = absurd h
    summed (bin o.Mul (var x) (bin e0 e1 e2 e3) at) h = absurd h
    summed (bin o.Mul (truth d0 d1) b at) h = absurd h
    summed (bin o.Mul (cell d0 d1) b at) h = absurd h
    summed (bin o.Mul (load d0 d1) b at) h = absurd h
    summed (bin o.Mul (neg d0 d1) b at) h = absurd h
    summed (bin o.Mul (inv d0 d1) b at) h = absurd h
    summed (bin o.Mul (cast d0 d1 d2 d3) b at) h = absurd h
    summed (bin o.Mul (bin d0 d1 d2 d3) b at) h = absurd h
    summed (bin o.OrElse a b at) h = absurd h
    summed (bin o.AndThen a b at) h = absurd h
    summed (bin o.Or a b at) h = absurd h
    summed (bin o.Xor a b at) h = absurd h
    summed (bin o.And a b at) h = absurd h
    summed (bin o.Eq a b at) h = absurd h
    summed (bin o.Ne a b at) h = absurd h
    summed (bin o.Lt a b at) h = absurd h
    summed (bin o.Le a b at) h = absurd h
    summed (bin o.Gt a b at) h = absurd h
    summed (bin o.Ge a b at) h = absurd h
    summed (bin o.LtS a b at) h = absurd h
    summed (bin o.LeS a b at) h = absurd h
    summed (bin o.GtS a b at) h = absurd h
    summed (bin o.GeS a b at) h = absurd h
    summed (bin o.Shl a b at) h = absurd h
    summed (bin o.Shr a b at) h = absurd h
    summed (bin o.Sar a b at) h = absurd h
    summed (bin o.Rol a b at) h = absurd h
    summed (bin o.Ror a b at) h = absurd h
    summed (bin o.Div a b at) h = absurd h
    summed (bin o.Rem a b at) h = absurd h
    summed (bin o.DivS a b at) h = absurd h
    summed (bin o.RemS a b at) h = absurd h

  -- it is a word
  pub sum_word : (t : Term) → IsSum kinds in_frame t → IsWord kinds in_frame (Some S64) S64 t
  sum_word = summed (λ t. IsWord kinds in_frame (Some S64) S64 t) (λ i at. tt) (λ x e i. (e, i))
      (λ k t x at e i. (refl, refl, tt, inr (inl (refl, (e, i))))) (λ x k t at e i. (refl, refl, (e, i), inr (inl (refl, tt))))
      (λ a b at n i j p q. (refl, n, p, inr (inl (refl, q))))
      (λ a i t at n j p. (refl, without (is_number a) n, p, inr (inl (refl, tt))))
    where
      without : (k : Bool) → k ≡ false → (k && true) ≡ false
      without true n = n
      without false n = refl
