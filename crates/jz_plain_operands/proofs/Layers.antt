-- What an expansion leaves, by its outermost form: what it looks like, its class, its term.
use Rattle.std.proofs.Common.{◌≡◌, ℤ, Bool, true, false, ◌&&◌, Some, refl, sym, ap, ◌∙◌, if◌then◌else◌}
use Rattle.std.proofs.lemmas.Bool.{false≢true, and_parts}
use Rattle.jz_tree.specs.Span.{Span}
use Rattle.jz_tree.specs.Operators.{joins}
use Rattle.jz_tree.specs.declared.expr.BinOp.{BinOp}
use Rattle.jz_tree.specs.declared.expr.Expr.{Expr}
use Rattle.jz_tree.specs.declared.expr.Expr.TheOpen.{Expr-F}
use Rattle.jz_tree.specs.declared.expr.Expr.TheViews.{out-Expr, roll-out-Expr, out-Access, roll-out-Access}
use Rattle.jz_tree.specs.declared.expr.Access.{Access}
use Rattle.jz_tree.specs.declared.expr.Var.{Var}
use Rattle.jz_type_names.specs.Kinds.{known_of, is_inline}
use Rattle.jz_select.specs.declared.class.Class.{Class}
use Rattle.jz_select.specs.declared.class.Class.TheVariants as class
use Rattle.jz_select.specs.declared.class.Mask.TheVariants as mask
use Rattle.jz_select.specs.Look.{Look, look_of, is_inline_var, gives_number, compares_values, bin_inline}
use Rattle.jz_select.specs.Operands.{inline_or, masked_class, class_layer}
use Rattle.jz_judgement.specs.HasType.{Layer}
use Rattle.jz_meaning.specs.States.{Key}
use Rattle.jz_run_laws.specs.Kinds.{Kinds}
use Rattle.jz_row_laws.proofs.Fixed.{look_layer, look_is, var_looked, var_known}
use Rattle.jz_stuck_runs.proofs.Classes.{masked_none}
use Rattle.jz_unroll.proofs.InlineParts.{inline_layer, inline_out}
use Rattle.jz_terms.specs.Terms.{Place, term_of, place_of}
use Rattle.jz_terms.proofs.Bridge.{term_layer, term_is, place_is}
use Rattle.jz_fact_laws.specs.Saying.{is_number}
use Rattle.jz_plain_operands.specs.Plain.{IsPlain, a_word, a_slot, a_flag, an_array, IsPlainExpr, expression, IsPlainLayer, a_number, a_truth, a_variable, a_cell, a_load, a_minus, a_denial, a_cast, of_two}

-- ---- layers
pub look_out : (e : Expr) → look_of e ≡ look_layer (out-Expr e)
look_out e = ap look_of (sym (roll-out-Expr e)) ∙ look_is (out-Expr e)

pub look_test : (test : Look → Bool) (e : Expr) → test (look_of e) ≡ true → test (look_layer (out-Expr e)) ≡ true
look_test test e h = sym (ap test (look_out e)) ∙ h

pub term_out : (e : Expr) → term_of e ≡ term_layer (out-Expr e)
term_out e = ap term_of (sym (roll-out-Expr e)) ∙ term_is (out-Expr e)

abbrev pub place_layer : Access → Place
place_layer a =
    record {
      spot = record { size = (out-Access a).size; unaligned = (out-Access a).unaligned; span = (out-Access a).span };
      at = term_of (out-Access a).at;
    }

pub place_out : (a : Access) → place_of a ≡ place_layer a
place_out a = ap place_of (sym (roll-out-Access a)) ∙ place_is (out-Access a)

-- ---- numbers and truths
abbrev pub IsNumberLayer : Layer → Type 0
IsNumberLayer l = (i : ℤ) × (at : Span) × (l ≡ Expr-F.Num i at)

abbrev pub IsNumber : Expr → Type 0
IsNumber e = IsNumberLayer (out-Expr e)

abbrev IsTruthLayer : Layer → Type 0
IsTruthLayer l = (b : Bool) × (at : Span) × (l ≡ Expr-F.Expr::Bool b at)

abbrev pub IsTruth : Expr → Type 0
IsTruth e = IsTruthLayer (out-Expr e)

pub number_is_inline : (e : Expr) → IsNumber e → is_inline e ≡ true
number_is_inline e n = inline_out e ∙ ap inline_layer n.2

truth_is_inline : (e : Expr) → IsTruth e → is_inline e ≡ true
truth_is_inline e n = inline_out e ∙ ap inline_layer n.2

both_inline : (a b : Bool) → a ≡ true → b ≡ true → (a && b) ≡ false → ⊥
both_inline a b e f n = false≢true (sym n ∙ (ap (λ x. x && b) e ∙ f))

-- not both are values
pub not_both : (a b : Expr) → (is_inline a && is_inline b) ≡ false → is_inline a ≡ true → is_inline b ≡ true → ⊥
not_both a b n e f = both_inline (is_inline a) (is_inline b) e f n

module _ (kinds : Kinds) (in_frame : Key → Bool) where
  plain_looks : (v : Var) → IsPlain kinds in_frame v → is_inline_var (known_of v) ≡ false
  plain_looks v (a_word z d k s) = ap is_inline_var d
  plain_looks v (a_slot z d k s) = ap is_inline_var d
  plain_looks v (a_flag d k s) = ap is_inline_var d
  plain_looks v (an_array z n d a) = ap is_inline_var d

  pub looked_not_inline : (v : Var) → IsPlain kinds in_frame v → is_inline_var (var_looked v) ≡ false
  looked_not_inline v x = ap is_inline_var (var_known v) ∙ plain_looks v x

  -- an inline integer is a number
  mutual
    pub inline_number : (e : Expr) → IsPlainExpr kinds in_frame e → (look_of e).inline ≡ true → IsNumber e
    inline_number e (expression x) h = inline_number_layer (out-Expr e) x (look_test (λ l. l.inline) e h)

    inline_number_layer : (l : Layer) → IsPlainLayer kinds in_frame l → (look_layer l).inline ≡ true → IsNumberLayer l
    inline_number_layer (Expr-F.Num i at) a_number h = (i, at, refl)
    inline_number_layer (Expr-F.Expr::Bool b at) a_truth h = absurd (false≢true h)
    inline_number_layer (Expr-F.Var v) (a_variable x) h = absurd (false≢true (sym (looked_not_inline v x) ∙ h))
    inline_number_layer (Expr-F.Cell v i) (a_cell x y) h = absurd (false≢true h)
    inline_number_layer (Expr-F.Load a) (a_load x) h = absurd (false≢true h)
    inline_number_layer (Expr-F.Neg a at) (a_minus n x) h = absurd (false≢true (sym n ∙ number_is_inline a (inline_number a x h)))
    inline_number_layer (Expr-F.Not a at) (a_denial n x) h = absurd (false≢true (sym n ∙ number_is_inline a (inline_number a x h)))
    inline_number_layer (Expr-F.Cast z s a at) (a_cast x) h = absurd (false≢true h)
    inline_number_layer (Expr-F.Bin o a b at) (of_two n x y) h =
        let k = and_parts (gives_number o) ((look_of b).inline && (look_of a).inline) h in
        let p = and_parts (look_of b).inline (look_of a).inline k.1 in
        absurd (not_both a b n (number_is_inline a (inline_number a x p.1)) (number_is_inline b (inline_number b y p.0)))

  -- an inline condition is a bool
  by_joins : (j : Bool) (o : BinOp) (a b : Look) → (if j then b.condition && a.condition else compares_values o && (b.inline && a.inline)) ≡ true
      → (P : Type 0) → (a.condition ≡ true → b.condition ≡ true → P) → (a.inline ≡ true → b.inline ≡ true → P) → P
  by_joins true o a b h P f g = let p = and_parts b.condition a.condition h in f p.1 p.0
  by_joins false o a b h P f g = let p = and_parts b.inline a.inline (and_parts (compares_values o) (b.inline && a.inline) h).1 in g p.1 p.0

  mutual
    pub condition_truth : (e : Expr) → IsPlainExpr kinds in_frame e → (look_of e).condition ≡ true → IsTruth e
    condition_truth e (expression x) h = condition_layer (out-Expr e) x (look_test (λ l. l.condition) e h)

    condition_layer : (l : Layer) → IsPlainLayer kinds in_frame l → (look_layer l).condition ≡ true → IsTruthLayer l
    condition_layer (Expr-F.Num i at) a_number h = absurd (false≢true h)
    condition_layer (Expr-F.Expr::Bool b at) a_truth h = (b, at, refl)
    condition_layer (Expr-F.Var v) (a_variable x) h = absurd (false≢true h)
    condition_layer (Expr-F.Cell v i) (a_cell x y) h = absurd (false≢true h)
    condition_layer (Expr-F.Load a) (a_load x) h = absurd (false≢true h)
    condition_layer (Expr-F.Neg a at) (a_minus n x) h = absurd (false≢true h)
    condition_layer (Expr-F.Not a at) (a_denial n x) h = absurd (false≢true (sym n ∙ truth_is_inline a (condition_truth a x h)))
    condition_layer (Expr-F.Cast z s a at) (a_cast x) h = absurd (false≢true h)
    condition_layer (Expr-F.Bin o a b at) (of_two n x y) h =
        absurd
        (by_joins (joins o) o (look_of a) (look_of b) h ⊥
        (λ p q. not_both a b n (truth_is_inline a (condition_truth a x p)) (truth_is_inline b (condition_truth b y q)))
        (λ p q. not_both a b n (number_is_inline a (inline_number a x p)) (number_is_inline b (inline_number b y q))))

  -- a term of numbers alone is one
  mutual
    pub number_term : (e : Expr) → IsPlainExpr kinds in_frame e → is_number (term_of e) ≡ true → is_inline e ≡ true
    number_term e (expression x) h = number_is_inline e (number_layer (out-Expr e) x (sym (ap is_number (term_out e)) ∙ h))

    number_layer : (l : Layer) → IsPlainLayer kinds in_frame l → is_number (term_layer l) ≡ true → IsNumberLayer l
    number_layer (Expr-F.Num i at) a_number h = (i, at, refl)
    number_layer (Expr-F.Expr::Bool b at) a_truth h = absurd (false≢true h)
    number_layer (Expr-F.Var v) (a_variable x) h = absurd (false≢true h)
    number_layer (Expr-F.Cell v i) (a_cell x y) h = absurd (false≢true h)
    number_layer (Expr-F.Load a) (a_load x) h = absurd (false≢true h)
    number_layer (Expr-F.Neg a at) (a_minus n x) h = absurd (false≢true (sym n ∙ number_term a x h))
    number_layer (Expr-F.Not a at) (a_denial n x) h = absurd (false≢true (sym n ∙ number_term a x h))
    number_layer (Expr-F.Cast z s a at) (a_cast x) h = absurd (false≢true h)
    number_layer (Expr-F.Bin o a b at) (of_two n x y) h =
        let p = and_parts (is_number (term_of a)) (is_number (term_of b)) h in
        absurd (not_both a b n (number_term a x p.0) (number_term b y p.1))

  pub no_number : (e : Expr) → IsPlainExpr kinds in_frame e → is_inline e ≡ false → is_number (term_of e) ≡ false
  no_number e x n = by_test (is_number (term_of e)) refl
    where
      by_test : (b : Bool) → is_number (term_of e) ≡ b → b ≡ false
      by_test true h = absurd (false≢true (sym n ∙ number_term e x h))
      by_test false h = refl

  pub not_numbers : (a b : Expr) → IsPlainExpr kinds in_frame a → IsPlainExpr kinds in_frame b → (is_inline a && is_inline b) ≡ false → (is_number (term_of a) && is_number (term_of b)) ≡ false
  not_numbers a b x y n = by_test (is_number (term_of a) && is_number (term_of b)) refl
    where
      by_test : (t : Bool) → (is_number (term_of a) && is_number (term_of b)) ≡ t → t ≡ false
      by_test true h =
          let p = and_parts (is_number (term_of a)) (is_number (term_of b)) h in
          absurd (not_both a b n (number_term a x p.0) (number_term b y p.1))
      by_test false h = refl

  -- ---- classes
  by_inline : (test : Class → Bool) (b : Bool) (c : Class) → (test c ≡ true → ⊥) → test (inline_or b c) ≡ true → b ≡ true
  by_inline test true c n h = refl
  by_inline test false c n h = absurd (n h)

  -- an operation that has this class is inline, which none is
  pub two_not : (test : Class → Bool) → test class.Other ≡ false → test (class.Masked mask.Five) ≡ false → test (class.Masked mask.Six) ≡ false
      → (o : BinOp) (a b : Expr) (at : Span) → (is_inline a && is_inline b) ≡ false → IsPlainExpr kinds in_frame a → IsPlainExpr kinds in_frame b → test (class_layer (Expr-F.Bin o a b at)) ≡ true → ⊥
  two_not test f g k o a b at n x y h =
      let i = by_inline test (bin_inline o (look_of a) (look_of b)) (masked_class o a b) (masked_none test f g k o a b) h in
      let p = and_parts (look_of b).inline (look_of a).inline (and_parts (gives_number o) ((look_of b).inline && (look_of a).inline) i).1 in
      not_both a b n (number_is_inline a (inline_number a x p.1)) (number_is_inline b (inline_number b y p.0))

  pub sign_not : (test : Class → Bool) (a : Expr) → test class.Other ≡ false → is_inline a ≡ false → IsPlainExpr kinds in_frame a → test (inline_or (look_of a).inline class.Other) ≡ true → ⊥
  sign_not test a f n x h =
      false≢true (sym n ∙ number_is_inline a (inline_number a x (by_inline test (look_of a).inline class.Other (λ e. false≢true (sym f ∙ e)) h)))
