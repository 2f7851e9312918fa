-- An index or an address that the expansion leaves is a sum.
use Rattle.std.proofs.Common.{◌≡◌, Bool, true, false, ◌&&◌, ◌||◌, Some, refl, sym, ap, ◌∙◌, subst, inl, inr}
use Rattle.std.specs.Prelude.{◌⊎◌}
use Rattle.std.proofs.lemmas.Bool.{false≢true, and_parts}
use Rattle.x64_insn.specs.Size.{Size}
use Rattle.x64_insn.specs.Size.TheVariants.{S64}
use Rattle.jz_tree.specs.Span.{Span}
use Rattle.jz_tree.specs.declared.expr.BinOp.{BinOp}
use Rattle.jz_tree.specs.declared.expr.BinOp.TheVariants as op
use Rattle.jz_tree.specs.declared.expr.Expr.{Expr}
use Rattle.jz_tree.specs.declared.expr.Expr.TheOpen.{Expr-F}
use Rattle.jz_tree.specs.declared.expr.Expr.TheViews.{out-Expr, out-Access}
use Rattle.jz_tree.specs.declared.expr.Var.{Var}
use Rattle.jz_type_names.specs.Kinds.{known_of, is_inline}
use Rattle.jz_type_sizes.specs.declared.operators.Group.TheVariants as group
use Rattle.jz_type_sizes.specs.Operators.{group_of}
use Rattle.jz_select.specs.Sums.{term}
use Rattle.jz_select.specs.Look.{look_of, is_inline_var, is_reg64, is_regs64, gives_number, bin_inline, bin_scaled}
use Rattle.jz_judgement.specs.Places.{Place, truth, index, IsTruth, TakesWord, Goes}
use Rattle.jz_judgement.specs.HasType as judged
use Rattle.jz_judgement.specs.HasType.{Layer, value, HasType, Types, Accesses, Operates}
use Rattle.jz_meaning.specs.declared.access.Kind.TheVariants as kind
use Rattle.jz_meaning.specs.States.{Key}
use Rattle.jz_meaning.specs.Values.{ref_of}
use Rattle.jz_run_laws.specs.Kinds.{Kinds}
use Rattle.jz_row_laws.proofs.Fixed.{look_layer, var_looked, var_known}
use Rattle.jz_row_laws.proofs.Booleans.{or_parts}
use Rattle.jz_terms.specs.Terms.{num, var, bin, term_of}
use Rattle.jz_terms.proofs.Bridge.{term_layer}
use Rattle.jz_fact_laws.specs.Saying.{is_number}
use Rattle.jz_standing.specs.Typing.{IsScalar, IsSum}
use Rattle.jz_plain_operands.specs.Plain.{IsPlain, a_word, a_slot, a_flag, an_array, IsPlainExpr, expression, IsPlainLayer, a_number, a_truth, a_variable, a_cell, a_load, a_minus, a_denial, a_cast, of_two}
use Rattle.jz_plain_operands.proofs.Layers.{look_test, term_out, IsNumber, number_is_inline, not_both, looked_not_inline, inline_number, no_number, not_numbers}

pub typed : (e : Expr) (l : Layer) (p : Place) → out-Expr e ≡ l → HasType (value e) p → Types l p
typed e l p s (judged.expression t) = subst (λ x. Types x p) s t

-- ---- looks
inline_good : (b : Bool) → (term b false false).good ≡ true → b ≡ true
inline_good true h = refl
inline_good false h = absurd (false≢true h)

scaled_good : (b s : Bool) → (term b false s).good ≡ true → (b ≡ true) ⊎ (s ≡ true)
scaled_good true s h = inl refl
scaled_good false true h = inr refl
scaled_good false false h = absurd (false≢true h)

other_inline : (a b : Bool) → (a && b) ≡ false → b ≡ true → a ≡ false
other_inline true b n e = absurd (false≢true (sym n ∙ e))
other_inline false b n e = refl

module _ (kinds : Kinds) (in_frame : Key → Bool) where
  abbrev pub IsWordOfSize : Size → Var → Type 0
  IsWordOfSize z v = ((ref_of v).kind ≡ kind.Word z) × IsScalar kinds in_frame (ref_of v)

  -- ---- variables
  pub word_variable : (v : Var) (p : Place) (z : Size) → ((y : Size) → TakesWord y p → y ≡ z) → (IsTruth p → ⊥) → IsPlain kinds in_frame v → Goes (known_of v) p → IsWordOfSize z v
  word_variable v p z f n (a_word y d k s) g = (k ∙ ap kind.Word (f y (subst (λ q. Goes q p) d g)), s)
  word_variable v p z f n (a_slot y d k s) g = (k ∙ ap kind.Word (f y (subst (λ q. Goes q p) d g)), s)
  word_variable v p z f n (a_flag d k s) g = absurd (n (subst (λ q. Goes q p) d g))
  word_variable v p z f n (an_array y m d a) g = absurd (subst (λ q. Goes q p) d g)

  no_cells : (v : Var) → IsPlain kinds in_frame v → is_regs64 (var_looked v) ≡ false
  no_cells v (a_word z d k s) = ap is_regs64 (var_known v ∙ d)
  no_cells v (a_slot z d k s) = ap is_regs64 (var_known v ∙ d)
  no_cells v (a_flag d k s) = ap is_regs64 (var_known v ∙ d)
  no_cells v (an_array z n d a) = ap is_regs64 (var_known v ∙ d)

  -- ---- registers
  record IsVariable (e : Expr) : Type 0 where
    pub variable : Var
    pub is : out-Expr e ≡ Expr-F.Var variable
    pub plain : IsPlain kinds in_frame variable

  reg_layer : (e : Expr) (l : Layer) → out-Expr e ≡ l → IsPlainLayer kinds in_frame l → (look_layer l).reg ≡ true → IsVariable e
  reg_layer e (Expr-F.Var v) s (a_variable x) h = record { variable = v; is = s; plain = x }
  reg_layer e (Expr-F.Num i at) s a_number h = absurd (false≢true h)
  reg_layer e (Expr-F.Expr::Bool b at) s a_truth h = absurd (false≢true h)
  reg_layer e (Expr-F.Cell v i) s (a_cell x y) h = absurd (false≢true (sym (ap (λ b. b && (look_of i).inline) (no_cells v x)) ∙ h))
  reg_layer e (Expr-F.Load a) s (a_load x) h = absurd (false≢true h)
  reg_layer e (Expr-F.Neg a at) s (a_minus n x) h = absurd (false≢true h)
  reg_layer e (Expr-F.Not a at) s (a_denial n x) h = absurd (false≢true h)
  reg_layer e (Expr-F.Cast z k a at) s (a_cast x) h = absurd (false≢true h)
  reg_layer e (Expr-F.Bin o a b at) s (of_two n x y) h = absurd (false≢true h)

  reg_variable : (e : Expr) → IsPlainExpr kinds in_frame e → (look_of e).reg ≡ true → IsVariable e
  reg_variable e (expression x) h = reg_layer e (out-Expr e) refl x (look_test (λ l. l.reg) e h)

  goes_of : (v : Var) (p : Place) → Types (Expr-F.Var v) p → Goes (known_of v) p
  goes_of v p (judged.variable g) = g

  variable_sum : (e : Expr) (r : IsVariable e) → HasType (value e) index → IsWordOfSize S64 r.variable
  variable_sum e r t = word_variable r.variable index S64 (λ y k. k) (λ k. k) r.plain (goes_of r.variable index (typed e (Expr-F.Var r.variable) index r.is t))

  -- ---- a scaled register
  scaled_right : (a b : Expr) (at : Span) → IsVariable a → IsNumber b → HasType (value a) index → IsSum kinds in_frame (bin op.Mul (term_of a) (term_of b) at)
  scaled_right a b at r n t =
      let first = term_out a ∙ ap term_layer r.is in
      let second = term_out b ∙ ap term_layer n.2 in
      subst (λ x. IsSum kinds in_frame (bin op.Mul x (term_of b) at)) (sym first)
      (subst (λ x. IsSum kinds in_frame (bin op.Mul (var (ref_of r.variable)) x at)) (sym second)
      (variable_sum a r t))

  scaled_left : (a b : Expr) (at : Span) → IsNumber a → IsVariable b → HasType (value b) index → IsSum kinds in_frame (bin op.Mul (term_of a) (term_of b) at)
  scaled_left a b at n r t =
      let first = term_out a ∙ ap term_layer n.2 in
      let second = term_out b ∙ ap term_layer r.is in
      subst (λ x. IsSum kinds in_frame (bin op.Mul (term_of a) x at)) (sym second)
      (subst (λ x. IsSum kinds in_frame (bin op.Mul x (var (ref_of r.variable)) at)) (sym first)
      (variable_sum b r t))

  -- ---- both are inline in no operation
  none_inline : (o : BinOp) (a b : Expr) → (is_inline a && is_inline b) ≡ false → IsPlainExpr kinds in_frame a → IsPlainExpr kinds in_frame b → bin_inline o (look_of a) (look_of b) ≡ true → ⊥
  none_inline o a b n x y h =
      let p = and_parts (look_of b).inline (look_of a).inline (and_parts (gives_number o) ((look_of b).inline && (look_of a).inline) h).1 in
      not_both a b n (number_is_inline a (inline_number kinds in_frame a x p.1)) (number_is_inline b (inline_number kinds in_frame b y p.0))

  -- ---- a sum is no truth
  arith_compare : group.Compare ≡ group.Arith → ⊥
  arith_compare e = cc

  arith_logic : group.Logic ≡ group.Arith → ⊥
  arith_logic e = cc

  arith_shift : group.Shift ≡ group.Arith → ⊥
  arith_shift e = cc

  arith_truth : (o : BinOp) (a b : Expr) → group_of o ≡ group.Arith → Operates o (value a) (value b) truth → ⊥
  arith_truth o a b e (judged.arithmetic g n m u w) = n
  arith_truth o a b e (judged.carry s n u w) = n
  arith_truth o a b e (judged.shift g n m u w) = n
  arith_truth o a b e (judged.integers g m u w) = arith_compare (sym g ∙ e)
  arith_truth o a b e (judged.words z g s u w) = arith_compare (sym g ∙ e)
  arith_truth o a b e (judged.logic g u w) = arith_logic (sym g ∙ e)

  access_truth : (a : judged.AccessLayer) → Accesses a truth → ⊥
  access_truth a (judged.sized z e t x) = t

  truth_variable : (v : Var) → IsPlain kinds in_frame v → (look_layer (Expr-F.Var v)).sum.good ≡ true → Goes (known_of v) truth → ⊥
  truth_variable v (a_word z d k s) h g = subst (λ q. Goes q truth) d g
  truth_variable v (a_slot z d k s) h g = subst (λ q. Goes q truth) d g
  truth_variable v (a_flag d k s) h g = false≢true (sym (ap (λ q. (term (is_inline_var q) (is_reg64 q) false).good) (var_known v ∙ d)) ∙ h)
  truth_variable v (an_array z n d a) h g = subst (λ q. Goes q truth) d g

  truth_layer : (l : Layer) → IsPlainLayer kinds in_frame l → (look_layer l).sum.good ≡ true → Types l truth → ⊥
  truth_layer (Expr-F.Num i at) a_number h (judged.number k) = k
  truth_layer (Expr-F.Expr::Bool b at) a_truth h t = false≢true h
  truth_layer (Expr-F.Var v) (a_variable x) h (judged.variable g) = truth_variable v x h g
  truth_layer (Expr-F.Cell v i) (a_cell x y) h (judged.cell z a k t) = k
  truth_layer (Expr-F.Load a) (a_load x) h (judged.load t) = access_truth (out-Access a) t
  truth_layer (Expr-F.Neg a at) (a_minus n x) h (judged.negated k t) = k
  truth_layer (Expr-F.Not a at) (a_denial n x) h t = false≢true (sym n ∙ number_is_inline a (inline_number kinds in_frame a x (inline_good (look_of a).inline h)))
  truth_layer (Expr-F.Cast z s a at) (a_cast x) h t = false≢true h
  truth_layer (Expr-F.Bin op.Add a b at) (of_two n x y) h (judged.operation t) = arith_truth op.Add a b refl t
  truth_layer (Expr-F.Bin op.Sub a b at) (of_two n x y) h (judged.operation t) = arith_truth op.Sub a b refl t
  truth_layer (Expr-F.Bin op.Mul a b at) (of_two n x y) h (judged.operation t) = arith_truth op.Mul a b refl t
  truth_layer (Expr-F.Bin o a b at) (of_two n x y) h (judged.operation t) = none_inline o a b n x y (inline_good (bin_inline o (look_of a) (look_of b)) h)

  no_truth : (e : Expr) → IsPlainExpr kinds in_frame e → (look_of e).sum.good ≡ true → HasType (value e) truth → ⊥
  no_truth e (expression x) h (judged.expression t) = truth_layer (out-Expr e) x (look_test (λ l. l.sum.good) e h) t

  number_no_truth : (e : Expr) → IsNumber e → HasType (value e) truth → ⊥
  number_no_truth e n t = by_type (typed e (Expr-F.Num n.0 n.1) truth n.2 t)
    where
      by_type : Types (Expr-F.Num n.0 n.1) truth → ⊥
      by_type (judged.number k) = k

  -- ---- differences and products
  less : (a b : Expr) (at : Span) → IsNumber b → is_number (term_of a) ≡ false → IsSum kinds in_frame (term_of a) → IsSum kinds in_frame (bin op.Sub (term_of a) (term_of b) at)
  less a b at n k s =
      subst (λ x. IsSum kinds in_frame (bin op.Sub (term_of a) x at)) (sym (term_out b ∙ ap term_layer n.2)) (k, s)

  times : (a b : Expr) (at : Span) → IsPlainExpr kinds in_frame a → IsPlainExpr kinds in_frame b → HasType (value a) index → HasType (value b) index
      → (((look_of a).reg && (look_of b).inline) || ((look_of a).inline && (look_of b).reg)) ≡ true → IsSum kinds in_frame (bin op.Mul (term_of a) (term_of b) at)
  times a b at x y t u h = by_order (or_parts ((look_of a).reg && (look_of b).inline) ((look_of a).inline && (look_of b).reg) h)
    where
      by_order : (((look_of a).reg && (look_of b).inline) ≡ true) ⊎ (((look_of a).inline && (look_of b).reg) ≡ true) → IsSum kinds in_frame (bin op.Mul (term_of a) (term_of b) at)
      by_order (inl g) =
          let p = and_parts (look_of a).reg (look_of b).inline g in
          scaled_right a b at (reg_variable a x p.0) (inline_number kinds in_frame b y p.1) t
      by_order (inr g) =
          let p = and_parts (look_of a).inline (look_of b).reg g in
          scaled_left a b at (inline_number kinds in_frame a x p.0) (reg_variable b y p.1) u

  product : (a b : Expr) (at : Span) → (is_inline a && is_inline b) ≡ false → IsPlainExpr kinds in_frame a → IsPlainExpr kinds in_frame b → HasType (value a) index → HasType (value b) index
      → (term (bin_inline op.Mul (look_of a) (look_of b)) false (bin_scaled op.Mul (look_of a) (look_of b))).good ≡ true → IsSum kinds in_frame (bin op.Mul (term_of a) (term_of b) at)
  product a b at n x y t u h = by_look (scaled_good (bin_inline op.Mul (look_of a) (look_of b)) (bin_scaled op.Mul (look_of a) (look_of b)) h)
    where
      by_look : (bin_inline op.Mul (look_of a) (look_of b) ≡ true) ⊎ (bin_scaled op.Mul (look_of a) (look_of b) ≡ true) → IsSum kinds in_frame (bin op.Mul (term_of a) (term_of b) at)
      by_look (inl g) = absurd (none_inline op.Mul a b n x y g)
      by_look (inr g) = times a b at x y t u g

  -- ---- sums
  mutual
    pub sum_there : (e : Expr) → IsPlainExpr kinds in_frame e → HasType (value e) index → (look_of e).sum.good ≡ true → IsSum kinds in_frame (term_of e)
    sum_there e (expression x) (judged.expression t) h =
        subst (λ y. IsSum kinds in_frame y) (sym (term_out e))
        (sum_layer (out-Expr e) x t (look_test (λ l. l.sum.good) e h))

    sum_layer : (l : Layer) → IsPlainLayer kinds in_frame l → Types l index → (look_layer l).sum.good ≡ true → IsSum kinds in_frame (term_layer l)
    sum_layer (Expr-F.Num i at) a_number t h = tt
    sum_layer (Expr-F.Expr::Bool b at) a_truth t h = absurd (false≢true h)
    sum_layer (Expr-F.Var v) (a_variable x) (judged.variable g) h = word_variable v index S64 (λ y k. k) (λ k. k) x g
    sum_layer (Expr-F.Cell v i) (a_cell x y) t h =
        absurd (false≢true (sym (ap (λ b. (term false (b && (look_of i).inline) false).good) (no_cells v x)) ∙ h))
    sum_layer (Expr-F.Load a) (a_load x) t h = absurd (false≢true h)
    sum_layer (Expr-F.Neg a at) (a_minus n x) t h = absurd (false≢true (sym n ∙ number_is_inline a (inline_number kinds in_frame a x (inline_good (look_of a).inline h))))
    sum_layer (Expr-F.Not a at) (a_denial n x) t h = absurd (false≢true (sym n ∙ number_is_inline a (inline_number kinds in_frame a x (inline_good (look_of a).inline h))))
    sum_layer (Expr-F.Cast z k a at) (a_cast x) t h = absurd (false≢true h)
    sum_layer (Expr-F.Bin op.Add a b at) (of_two n x y) (judged.operation (judged.arithmetic g k m u w)) h =
        let p = and_parts (look_of b).sum.good (look_of a).sum.good h in
        (not_numbers kinds in_frame a b x y n, sum_there a x u p.1, sum_there b y w p.0)
    sum_layer (Expr-F.Bin op.Add a b at) (of_two n x y) (judged.operation (judged.carry g k u w)) h =
        absurd (no_truth b y (and_parts (look_of b).sum.good (look_of a).sum.good h).0 w)
    sum_layer (Expr-F.Bin op.Add a b at) (of_two n x y) (judged.operation (judged.shift g k m u w)) h = absurd (arith_shift (sym g))
    sum_layer (Expr-F.Bin op.Sub a b at) (of_two n x y) (judged.operation (judged.arithmetic g k m u w)) h =
        let p = and_parts (look_of b).inline (look_of a).sum.good h in
        let i = inline_number kinds in_frame b y p.0 in
        less a b at i (no_number kinds in_frame a x (other_inline (is_inline a) (is_inline b) n (number_is_inline b i))) (sum_there a x u p.1)
    sum_layer (Expr-F.Bin op.Sub a b at) (of_two n x y) (judged.operation (judged.carry g k u w)) h =
        absurd (number_no_truth b (inline_number kinds in_frame b y (and_parts (look_of b).inline (look_of a).sum.good h).0) w)
    sum_layer (Expr-F.Bin op.Sub a b at) (of_two n x y) (judged.operation (judged.shift g k m u w)) h = absurd (arith_shift (sym g))
    sum_layer (Expr-F.Bin op.Mul a b at) (of_two n x y) (judged.operation (judged.arithmetic g k m u w)) h = product a b at n x y u w h
    sum_layer (Expr-F.Bin op.Mul a b at) (of_two n x y) (judged.operation (judged.carry g k u w)) h = absurd g
    sum_layer (Expr-F.Bin op.Mul a b at) (of_two n x y) (judged.operation (judged.shift g k m u w)) h = absurd (arith_shift (sym g))
    sum_layer (Expr-F.Bin o a b at) (of_two n x y) t h = absurd (none_inline o a b n x y (inline_good (bin_inline o (look_of a) (look_of b)) h))
