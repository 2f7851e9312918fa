-- A left side is one flag and one word of RAX and RDX, an operand one count and one address, and a
-- condition one bool variable.
use Rattle.std.proofs.Common.{◌≡◌, ℕ, Bool, false, List, [], ◌∷◌, Option, Some, None, refl, sym, ap, ◌∙◌, subst, ℤ, pos}
use Rattle.std.specs.Prelude.{not}
use Rattle.jz_words.specs.declared.size.Size.{Size}
use Rattle.jz_words.specs.declared.size.Size.TheVariants.{S8, S64}
use Rattle.jz_words.specs.Readings.{reading_of}
use Rattle.jz_io.specs.declared.span.Span.{Span}
use Rattle.jz_tree.specs.declared.expr.BinOp.TheVariants as op
use Rattle.jz_tree.specs.declared.expr.Expr.{Expr}
use Rattle.jz_tree.specs.declared.expr.Expr.TheVariants as expr
use Rattle.jz_tree.specs.declared.expr.Expr.TheOpen.{Expr-F}
use Rattle.jz_tree.specs.declared.expr.Expr.TheViews.{out-Expr}
use Rattle.jz_tree.specs.declared.expr.Var.{Var}
use Rattle.jz_tree.specs.declared.stmt.Lval.{Lval}
use Rattle.jz_meaning.specs.Assignments.{Layer}
use Rattle.jz_meaning.specs.Values.{key_of, ref_of}
use Rattle.jz_operations.specs.declared.operation.Pinned.{Pinned}
use Rattle.jz_operations.specs.declared.operation.Address.{Address}
use Rattle.jz_operations.specs.declared.operation.Flags.{Flags}
use Rattle.jz_homes.specs.Homes.{Home, Homes, in_register, in_flag}
use Rattle.jz_homes.specs.Sums.{Sum, sum_of, IsAddress, of_base}
use Rattle.jz_row_operations.specs.Rows.{mask_of}
use Rattle.jz_one_row.proofs.Outs.{out_bin, out_not, out_num, out_var}
use Rattle.jz_one_row.proofs.Operands.{register_of}
use Rattle.jz_one_row.proofs.Sums.{same_var, one_address}
use Rattle.jz_flag_rows.specs.Results.{IsFlag, no_variable, a_variable, IsPinned, no_word, a_word, AreFive, five, AreFour, four, AreTwo, two}
use Rattle.jz_flag_rows.specs.Conditions.{IsFlagCondition, a_flag, denied}
use Rattle.jz_flag_rows.specs.Instructions.{IsLeaAddress, with_base, a_number, an_index, IsCount, by_number, by_variable}

-- ---- left sides
pub flag_of : (m n : ℕ) → ◌≡◌ {A = Option Home} (Some (in_flag m)) (Some (in_flag n)) → m ≡ n
flag_of m n e = cc

pub pinned_is : (k j : Pinned) → k.variable ≡ j.variable → k.span ≡ j.span → k ≡ j
pinned_is k j e f = λ i. record { variable = e i; span = f i }

pub one_flag : (home : Homes) (d : Lval) (k j : Option Pinned) → IsFlag home d k → IsFlag home d j → k ≡ j
one_flag home d k j (no_variable at) (no_variable here) = refl
one_flag home d k j (a_variable x u kind h s) (a_variable y v kind2 h2 s2) = ap Some (pinned_is u v (flag_of u.variable v.variable (sym h ∙ h2)) (s ∙ sym s2))

pub one_pinned : (home : Homes) (z : Size) (d : Lval) (k j : Option Pinned) → IsPinned home z d k → IsPinned home z d j → k ≡ j
one_pinned home z d k j (no_word at) (no_word here) = refl
one_pinned home z d k j (a_word x u kind h s) (a_word y v kind2 h2 s2) = ap Some (pinned_is u v (register_of u.variable v.variable z z (sym h ∙ h2)) (s ∙ sym s2))

pub one_five : (home : Homes) (to : List Lval) (fl fu : Flags) (rest more : List Lval) → AreFive home to fl rest → AreFive home to fu more → (fl ≡ fu) × (rest ≡ more)
one_five home to fl fu rest more (five {o} {c} {s} {p} {z} {ko} {kc} {ks} {kp} {kz} r f1 f2 f3 f4 f5) (five {ko = jo} {kc = jc} {ks = js} {kp = jp} {kz = jz} r2 g1 g2 g3 g4 g5) =
    let e1 = one_flag home o ko jo f1 g1 in
    let e2 = one_flag home c kc jc f2 g2 in
    let e3 = one_flag home s ks js f3 g3 in
    let e4 = one_flag home p kp jp f4 g4 in
    let e5 = one_flag home z kz jz f5 g5 in
    ((λ i. record { of = e1 i; cf = e2 i; sf = e3 i; pf = e4 i; zf = e5 i }), refl)

pub one_four : (home : Homes) (to : List Lval) (fl fu : Flags) (rest more : List Lval) → AreFour home to fl rest → AreFour home to fu more → (fl ≡ fu) × (rest ≡ more)
one_four home to fl fu rest more (four {o} {s} {p} {z} {ko} {ks} {kp} {kz} r f1 f2 f3 f4) (four {ko = jo} {ks = js} {kp = jp} {kz = jz} r2 g1 g2 g3 g4) =
    let e1 = one_flag home o ko jo f1 g1 in
    let e2 = one_flag home s ks js f2 g2 in
    let e3 = one_flag home p kp jp f3 g3 in
    let e4 = one_flag home z kz jz f4 g4 in
    ((λ i. record { of = e1 i; cf = None; sf = e2 i; pf = e3 i; zf = e4 i }), refl)

pub one_two : (home : Homes) (to : List Lval) (fl fu : Flags) (rest more : List Lval) → AreTwo home to fl rest → AreTwo home to fu more → (fl ≡ fu) × (rest ≡ more)
one_two home to fl fu rest more (two {o} {c} {ko} {kc} r f1 f2) (two {ko = jo} {kc = jc} r2 g1 g2) =
    let e1 = one_flag home o ko jo f1 g1 in
    let e2 = one_flag home c kc jc f2 g2 in
    ((λ i. record { of = e1 i; cf = e2 i; sf = None; pf = None; zf = None }), refl)

-- ---- conditions by the outermost layer
data FlagLayer (home : Homes) : Layer → ℕ → Bool → Type 0 where
  l_flag : (x : Var) (n : ℕ) → home (key_of (ref_of x)) ≡ Some (in_flag n) → FlagLayer home (Expr-F.Var x) n false
  l_denied : (e : Expr) (n : ℕ) (d : Bool) (here : Span) → IsFlagCondition home e n d → FlagLayer home (Expr-F.Not e here) n (not d)

module _ (home : Homes) where
  flag_layer : (e : Expr) (n : ℕ) (d : Bool) → IsFlagCondition home e n d → FlagLayer home (out-Expr e) n d
  flag_layer e n d (a_flag x m own h) = subst (λ l. FlagLayer home l m false) (sym (out_var x)) (l_flag x m h)
  flag_layer e n d (denied {e = a} {n = m} {d = b} here h) = subst (λ l. FlagLayer home l m (not b)) (sym (out_not a here)) (l_denied a m b here h)

  at_layer : (e : Expr) (l : Layer) (n : ℕ) (d : Bool) → out-Expr e ≡ l → IsFlagCondition home e n d → FlagLayer home l n d
  at_layer e l n d s h = subst (λ k. FlagLayer home k n d) s (flag_layer e n d h)

  variable_one : (x : Var) (n m : ℕ) (d : Bool) → home (key_of (ref_of x)) ≡ Some (in_flag n) → FlagLayer home (Expr-F.Var x) m d → (n ≡ m) × (false ≡ d)
  variable_one x n m d h (l_flag y k g) = (flag_of n k (sym h ∙ g), refl)

  denied_one : (e : Expr) (n m : ℕ) (b d : Bool) (here : Span) → ((k : ℕ) (c : Bool) → IsFlagCondition home e k c → (n ≡ k) × (b ≡ c)) → FlagLayer home (Expr-F.Not e here) m d → (n ≡ m) × (not b ≡ d)
  denied_one e n m b d here one (l_denied a k c there g) = let r = one k c g in (r.0, ap not r.1)

  pub one_condition : (e : Expr) (n m : ℕ) (b d : Bool) → IsFlagCondition home e n b → IsFlagCondition home e m d → (n ≡ m) × (b ≡ d)
  one_condition e n m b d (a_flag x k own h) g = variable_one x k m d h (at_layer (expr.Var x) (Expr-F.Var x) m d (out_var x) g)
  one_condition e n m b d (denied {e = a} {n = k} {d = c} here h) g =
      denied_one a k m c d here (λ j f u. one_condition a k j c f h u) (at_layer (expr.Not a here) (Expr-F.Not a here) m d (out_not a here) g)

-- ---- counts by the outermost layer
data CountLayer (home : Homes) (z : Size) : Layer → Option Pinned → ℕ → Type 0 where
  l_number : (n : ℕ) (at : Span) → CountLayer home z (Expr-F.Num (pos n) at) None n
  l_variable : (v : Var) (k : Pinned) (u m : Expr) (here : Span) → out-Expr u ≡ Expr-F.Var v → home (key_of (ref_of v)) ≡ Some (in_register k.variable S8) → k.span ≡ (ref_of v).span → CountLayer home z (Expr-F.Bin op.And u m here) (Some k) 0

module _ (home : Homes) (z : Size) where
  count_layer : (e : Expr) (k : Option Pinned) (n : ℕ) → IsCount home z e k n → CountLayer home z (out-Expr e) k n
  count_layer e k n (by_number m at less) = subst (λ l. CountLayer home z l None m) (sym (out_num (pos m) at)) (l_number m at)
  count_layer e k n (by_variable v j there here h s) =
      let mask = expr.Num (pos (mask_of z)) there in
      subst (λ l. CountLayer home z l (Some j) 0) (sym (out_bin op.And (expr.Var v) mask here)) (l_variable v j (expr.Var v) mask here (out_var v) h s)

  same_pinned : (v w : Var) (k j : Pinned) → v ≡ w → home (key_of (ref_of v)) ≡ Some (in_register k.variable S8) → k.span ≡ (ref_of v).span → home (key_of (ref_of w)) ≡ Some (in_register j.variable S8) → j.span ≡ (ref_of w).span → k ≡ j
  same_pinned v w k j e h s g t =
      pinned_is k j (register_of k.variable j.variable S8 S8 (sym h ∙ ap (λ u. home (key_of (ref_of u))) e ∙ g)) (s ∙ ap (λ u. (ref_of u).span) e ∙ sym t)

  count_one : (l : Layer) (k j : Option Pinned) (n m : ℕ) → CountLayer home z l k n → CountLayer home z l j m → (k ≡ j) × (n ≡ m)
  count_one l k j n m (l_number a at) (l_number b here) = (refl, refl)
  count_one l k j n m (l_variable v a u w here s h t) (l_variable v2 b u2 w2 here2 s2 h2 t2) = (ap Some (same_pinned v v2 a b (same_var v v2 (sym s ∙ s2)) h t h2 t2), refl)

  pub one_count : (e : Expr) (k j : Option Pinned) (n m : ℕ) → IsCount home z e k n → IsCount home z e j m → (k ≡ j) × (n ≡ m)
  one_count e k j n m f g = count_one (out-Expr e) k j n m (count_layer e k n f) (count_layer e j m g)

-- ---- addresses of LEA
no_number : (i : ℤ) (m : Address) → IsAddress (sum_of [] i) m → ⊥
no_number i m h = elim h [ ]

no_index : (j k : ℕ) (i : ℤ) (m : Address) → (k ≡ 1 → ⊥) → IsAddress (sum_of ((j, k) ∷ []) i) m → ⊥
no_index j k i m other (of_base b i2) = other refl

by_base : (u : Sum) (m n : Address) → IsAddress u m → IsLeaAddress u n → m ≡ n
by_base u m n h (with_base g) = one_address u u m n refl h g
by_base u m n h (a_number i) = absurd (no_number i m h)
by_base u m n h (an_index j k i other) = absurd (no_index j k i m other h)

of_number : (i : ℤ) (n : Address) → IsLeaAddress (sum_of [] i) n → ◌≡◌ {A = Address} (record { base = None; index = None; disp = reading_of S64 i }) n
of_number i n (with_base h) = absurd (no_number i n h)
of_number i n (a_number j) = refl

of_index : (j k : ℕ) (i : ℤ) (n : Address) → (k ≡ 1 → ⊥) → IsLeaAddress (sum_of ((j, k) ∷ []) i) n → ◌≡◌ {A = Address} (record { base = None; index = Some (j, k); disp = reading_of S64 i }) n
of_index j k i n other (with_base h) = absurd (no_index j k i n other h)
of_index j k i n other (an_index j2 k2 i2 none) = refl

lea_same : (u : Sum) (m n : Address) → IsLeaAddress u m → IsLeaAddress u n → m ≡ n
lea_same u m n (with_base h) g = by_base u m n h g
lea_same u m n (a_number i) g = of_number i n g
lea_same u m n (an_index j k i other) g = of_index j k i n other g

pub one_lea : (t u : Sum) (m n : Address) → t ≡ u → IsLeaAddress t m → IsLeaAddress u n → m ≡ n
one_lea t u m n e f g = lea_same u m n (subst (λ s. IsLeaAddress s m) e f) g
