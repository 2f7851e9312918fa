-- The interval of an expression by those of its parts.
use Rattle.std.proofs.Common.{◌≡◌, ℕ, ◌-◌, ◌≤◌, Bool, true, false, Option, Some, None, refl, ap, sym, ◌∙◌}
use Rattle.std.specs.Prelude.{unwrap_or}
use Rattle.jz_tree.specs.Span.{Span}
use Rattle.x64_insn.specs.Size.{Size}
use Rattle.x64_insn.specs.Size.TheVariants.{S64}
use Rattle.jz_intervals.specs.declared.interval.Interval.{Interval}
use Rattle.jz_intervals.specs.Intervals.{each_word, fitted}
use Rattle.jz_tree.specs.declared.expr.BinOp.{BinOp}
use Rattle.jz_tree.specs.declared.expr.Expr.{Expr}
use Rattle.jz_tree.specs.declared.expr.Expr.TheVariants as expr
use Rattle.jz_integers.specs.InnerLeftSides.{left_of, left_at}
use Rattle.jz_meaning.specs.Values.{own_size}
use Rattle.jz_terms.specs.Terms.{Term, cast, bin, term_of, size_in}
use Rattle.jz_terms.proofs.Bridge.{term_so}
use Rattle.jz_terms.proofs.TermForms.{term_cast, term_bin}
use Rattle.jz_facts.specs.Facts.{Facts, Given}
use Rattle.jz_facts.specs.Intervals.{size_or_64, of_operation, interval}
use Rattle.jz_fact_readings.proofs.LeftSides.{left_is, rest_of}

module _ (g : Given) (s : Facts) (z : Size) where
  pub one_up_is : (e : Expr) (op : BinOp) (a b : Expr) (at : Span) (r : Expr) (l : Interval) → e ≡ expr.Bin op a b at → r ≡ b → l ≡ interval g s z (term_of (left_of e)) → of_operation z op l (interval g s z (term_of r)) (term_of r) ≡ interval g s z (term_of e)
  one_up_is e op a b at r l h j k =
      let t : term_of e ≡ bin op (term_of a) (term_of r) at = term_bin e op a b at h ∙ ap (λ x. bin op (term_of a) (term_of x) at) (sym j) in
      let q : l ≡ interval g s z (term_of a) = k ∙ ap (λ x. interval g s z (term_of x)) (left_is e op a b at h) in
      ap (λ i. of_operation z op i (interval g s z (term_of r)) (term_of r)) q ∙ sym (ap (interval g s z) t)

  pub cast_signed : (e : Expr) (y : Size) (sign : Bool) (a : Expr) (at : Span) → e ≡ expr.Cast y sign a at → sign ≡ true → each_word z ≡ interval g s z (term_of e)
  cast_signed e y sign a at h i = sym (ap (interval g s z) (term_cast e y sign a at h ∙ ap (λ b. cast y b (term_of a) at) i))

  or_64 : (o : Option Size) → unwrap_or o S64 ≡ size_or_64 o
  or_64 None = refl
  or_64 (Some y) = refl

  pub cast_plain : (e : Expr) (y : Size) (sign : Bool) (a : Expr) (at : Span) (x : Expr) (o : Option Size) (w : Size) (i : Interval)
      → e ≡ expr.Cast y sign a at → sign ≡ false → x ≡ a → o ≡ own_size x → w ≡ unwrap_or o S64 → i ≡ interval g s w (term_of x) → fitted z i ≡ interval g s z (term_of e)
  cast_plain e y sign a at x o w i h j k l m n =
      let t : term_of e ≡ cast y false (term_of x) at = term_cast e y sign a at h ∙ ap (λ b. cast y b (term_of a) at) j ∙ ap (λ b. cast y false (term_of b) at) (sym k) in
      let p : o ≡ size_in (term_of x) = l ∙ ap (λ d. d.size) (term_so x) in
      let q : w ≡ size_or_64 (size_in (term_of x)) = m ∙ or_64 o ∙ ap size_or_64 p in
      ap (fitted z) (n ∙ ap (λ d. interval g s d (term_of x)) q) ∙ sym (ap (interval g s z) t)

  -- behind the rest of the way
  pub start_below : (k n : ℕ) (e f : Expr) (i : Interval) → k ≤ n → f ≡ left_at k e → i ≡ interval g s z (term_of (left_at n e)) → i ≡ interval g s z (term_of (left_at (n - k) f))
  start_below k n e f i l h q = q ∙ ap (λ x. interval g s z (term_of x)) (sym (rest_of k n e f l h))
