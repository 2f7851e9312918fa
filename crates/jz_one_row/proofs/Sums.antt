-- An expression is one sum; a sum is one address and one index.
use Rattle.std.proofs.Common.{◌≡◌, ℕ, false, List, [], ◌∷◌, ◌++◌, Option, Some, None, refl, sym, ap, ◌∙◌, subst, ℤ, pos, ◌+ℤ◌, ◌-ℤ◌}
use Rattle.std.specs.Prelude.{nat_eq, if◌then◌else◌}
use Rattle.std.proofs.lemmas.Bool.{ne_eqb}
use Rattle.jz_words.specs.declared.size.Size.TheVariants.{S64}
use Rattle.jz_words.specs.Words.{residue}
use Rattle.jz_words.specs.Readings.{reading_of}
use Rattle.jz_io.specs.declared.span.Span.{Span}
use Rattle.jz_tree.specs.declared.expr.BinOp.TheVariants as op
use Rattle.jz_tree.specs.declared.expr.Expr.{Expr}
use Rattle.jz_tree.specs.declared.expr.Expr.TheVariants as expr
use Rattle.jz_tree.specs.declared.expr.Expr.TheOpen.{Expr-F}
use Rattle.jz_tree.specs.declared.expr.Expr.TheViews.{out-Expr}
use Rattle.jz_tree.specs.declared.expr.Var.{Var}
use Rattle.jz_meaning.specs.Assignments.{Layer}
use Rattle.jz_meaning.specs.Values.{key_of, ref_of}
use Rattle.jz_operations.specs.declared.operation.Address.{Address}
use Rattle.jz_operations.proofs.Somes.{same_some}
use Rattle.jz_homes.specs.Homes.{Home, Homes, in_register}
use Rattle.jz_homes.specs.Sums.{Sum, sum_of, IsSum, a_number, a_variable, a_multiple, multiple_of, added, less, IsAddress, of_base, of_both, of_swapped, IsIndex, constant, variable}
use Rattle.jz_one_row.proofs.Outs.{out_bin, out_num, out_var}

-- ---- layers
pub same_var : (x y : Var) → ◌≡◌ {A = Layer} (Expr-F.Var x) (Expr-F.Var y) → x ≡ y
same_var x y e = cc

pub same_num : (i j : ℤ) (p q : Span) → ◌≡◌ {A = Layer} (Expr-F.Num i p) (Expr-F.Num j q) → i ≡ j
same_num i j p q e = cc

pub var_num : (x : Var) (j : ℤ) (q : Span) → ◌≡◌ {A = Layer} (Expr-F.Var x) (Expr-F.Num j q) → ⊥
var_num x j q e = absurd cc

-- the register of a variable of 64 bits is one
register_is : (m n : ℕ) → ◌≡◌ {A = Option Home} (Some (in_register m S64)) (Some (in_register n S64)) → m ≡ n
register_is m n e = cc

one_register : (home : Homes) (x y : Var) (m n : ℕ) → x ≡ y → home (key_of (ref_of x)) ≡ Some (in_register m S64) → home (key_of (ref_of y)) ≡ Some (in_register n S64) → m ≡ n
one_register home x y m n s e f = register_is m n (sym e ∙ ap (λ v. home (key_of (ref_of v))) s ∙ f)

-- ---- a sum by the outermost layer
pub data SumLayer (home : Homes) : Layer → Sum → Type 0 where
  s_number : (i : ℤ) (at : Span) → SumLayer home (Expr-F.Num i at) (sum_of [] i)
  s_variable : (x : Var) (n : ℕ) → home (key_of (ref_of x)) ≡ Some (in_register n S64) → SumLayer home (Expr-F.Var x) (sum_of ((n, 1) ∷ []) (pos 0))
  s_multiple : (a b : Expr) (x : Var) (n : ℕ) (k : ℤ) (at here : Span) → out-Expr a ≡ Expr-F.Var x → out-Expr b ≡ Expr-F.Num k at → home (key_of (ref_of x)) ≡ Some (in_register n S64)
      → SumLayer home (Expr-F.Bin op.Mul a b here) (sum_of ((n, residue S64 k) ∷ []) (pos 0))
  s_multiple_of : (a b : Expr) (x : Var) (n : ℕ) (k : ℤ) (at here : Span) → out-Expr a ≡ Expr-F.Num k at → out-Expr b ≡ Expr-F.Var x → home (key_of (ref_of x)) ≡ Some (in_register n S64)
      → SumLayer home (Expr-F.Bin op.Mul a b here) (sum_of ((n, residue S64 k) ∷ []) (pos 0))
  s_added : (a b : Expr) (t u : Sum) (here : Span) → IsSum home a t → IsSum home b u → SumLayer home (Expr-F.Bin op.Add a b here) (sum_of (t.terms ++ u.terms) (t.number +ℤ u.number))
  s_less : (a b : Expr) (t : Sum) (i : ℤ) (at here : Span) → IsSum home a t → out-Expr b ≡ Expr-F.Num i at → SumLayer home (Expr-F.Bin op.Sub a b here) (sum_of t.terms (t.number -ℤ i))

pub sum_layer : (home : Homes) (e : Expr) (t : Sum) → IsSum home e t → SumLayer home (out-Expr e) t
sum_layer home e t (a_number i at) = subst (λ l. SumLayer home l (sum_of [] i)) (sym (out_num i at)) (s_number i at)
sum_layer home e t (a_variable x n h) = subst (λ l. SumLayer home l (sum_of ((n, 1) ∷ []) (pos 0))) (sym (out_var x)) (s_variable x n h)
sum_layer home e t (a_multiple x n k at here h) =
    subst (λ l. SumLayer home l (sum_of ((n, residue S64 k) ∷ []) (pos 0))) (sym (out_bin op.Mul (expr.Var x) (expr.Num k at) here))
    (s_multiple (expr.Var x) (expr.Num k at) x n k at here (out_var x) (out_num k at) h)
sum_layer home e t (multiple_of x n k at here h) =
    subst (λ l. SumLayer home l (sum_of ((n, residue S64 k) ∷ []) (pos 0))) (sym (out_bin op.Mul (expr.Num k at) (expr.Var x) here))
    (s_multiple_of (expr.Num k at) (expr.Var x) x n k at here (out_num k at) (out_var x) h)
sum_layer home e t (added {a} {b} {t = u} {u = v} here p q) =
    subst (λ l. SumLayer home l (sum_of (u.terms ++ v.terms) (u.number +ℤ v.number))) (sym (out_bin op.Add a b here)) (s_added a b u v here p q)
sum_layer home e t (less {a} {t = u} i at here p) =
    subst (λ l. SumLayer home l (sum_of u.terms (u.number -ℤ i))) (sym (out_bin op.Sub a (expr.Num i at) here)) (s_less a (expr.Num i at) u i at here p (out_num i at))

-- the layers of both are one
pub at_layer : (home : Homes) (e : Expr) (l : Layer) (u : Sum) → out-Expr e ≡ l → IsSum home e u → SumLayer home l u
at_layer home e l u s p = subst (λ k. SumLayer home k u) s (sum_layer home e u p)

-- ---- one sum, by the first layer
number_one : (home : Homes) (i : ℤ) (at : Span) (u : Sum) → SumLayer home (Expr-F.Num i at) u → sum_of [] i ≡ u
number_one home i at u (s_number j here) = refl

variable_one : (home : Homes) (x : Var) (n : ℕ) (u : Sum) → home (key_of (ref_of x)) ≡ Some (in_register n S64) → SumLayer home (Expr-F.Var x) u → sum_of ((n, 1) ∷ []) (pos 0) ≡ u
variable_one home x n u h (s_variable y m g) = ap (λ k. sum_of ((k, 1) ∷ []) (pos 0)) (one_register home x x n m refl h g)

product_is : (n m : ℕ) (k j : ℤ) → n ≡ m → k ≡ j → sum_of ((n, residue S64 k) ∷ []) (pos 0) ≡ sum_of ((m, residue S64 j) ∷ []) (pos 0)
product_is n m k j e f = λ i. sum_of ((e i, residue S64 (f i)) ∷ []) (pos 0)

multiple_one : (home : Homes) (a b : Expr) (x : Var) (n : ℕ) (k : ℤ) (at here : Span) (u : Sum) → out-Expr a ≡ Expr-F.Var x → out-Expr b ≡ Expr-F.Num k at → home (key_of (ref_of x)) ≡ Some (in_register n S64) → SumLayer home (Expr-F.Bin op.Mul a b here) u
    → sum_of ((n, residue S64 k) ∷ []) (pos 0) ≡ u
multiple_one home a b x n k at here u e f h (s_multiple c d y m j at2 here2 e2 f2 h2) =
    product_is n m k j (one_register home x y n m (same_var x y (sym e ∙ e2)) h h2) (same_num k j at at2 (sym f ∙ f2))
multiple_one home a b x n k at here u e f h (s_multiple_of c d y m j at2 here2 e2 f2 h2) = absurd (var_num x j at2 (sym e ∙ e2))

multiple_of_one : (home : Homes) (a b : Expr) (x : Var) (n : ℕ) (k : ℤ) (at here : Span) (u : Sum) → out-Expr a ≡ Expr-F.Num k at → out-Expr b ≡ Expr-F.Var x → home (key_of (ref_of x)) ≡ Some (in_register n S64) → SumLayer home (Expr-F.Bin op.Mul a b here) u
    → sum_of ((n, residue S64 k) ∷ []) (pos 0) ≡ u
multiple_of_one home a b x n k at here u e f h (s_multiple c d y m j at2 here2 e2 f2 h2) = absurd (var_num y k at (sym e2 ∙ e))
multiple_of_one home a b x n k at here u e f h (s_multiple_of c d y m j at2 here2 e2 f2 h2) =
    product_is n m k j (one_register home x y n m (same_var x y (sym f ∙ f2)) h h2) (same_num k j at at2 (sym e ∙ e2))

added_is : (t t2 u u2 : Sum) → t ≡ t2 → u ≡ u2 → sum_of (t.terms ++ u.terms) (t.number +ℤ u.number) ≡ sum_of (t2.terms ++ u2.terms) (t2.number +ℤ u2.number)
added_is t t2 u u2 e f = λ i. sum_of ((e i).terms ++ (f i).terms) ((e i).number +ℤ (f i).number)

added_one : (home : Homes) (a b : Expr) (t u : Sum) (here : Span) (w : Sum) → ((v : Sum) → IsSum home a v → t ≡ v) → ((v : Sum) → IsSum home b v → u ≡ v) → SumLayer home (Expr-F.Bin op.Add a b here) w → sum_of (t.terms ++ u.terms) (t.number +ℤ u.number) ≡ w
added_one home a b t u here w one two (s_added c d t2 u2 here2 p q) = added_is t t2 u u2 (one t2 p) (two u2 q)

less_is : (t t2 : Sum) (i j : ℤ) → t ≡ t2 → i ≡ j → sum_of t.terms (t.number -ℤ i) ≡ sum_of t2.terms (t2.number -ℤ j)
less_is t t2 i j e f = λ k. sum_of (e k).terms ((e k).number -ℤ f k)

less_one : (home : Homes) (a b : Expr) (t : Sum) (i : ℤ) (at here : Span) (w : Sum) → out-Expr b ≡ Expr-F.Num i at → ((v : Sum) → IsSum home a v → t ≡ v) → SumLayer home (Expr-F.Bin op.Sub a b here) w → sum_of t.terms (t.number -ℤ i) ≡ w
less_one home a b t i at here w e one (s_less c d t2 j at2 here2 p f) = less_is t t2 i j (one t2 p) (same_num i j at at2 (sym e ∙ f))

pub one_sum : (home : Homes) (e : Expr) (t u : Sum) → IsSum home e t → IsSum home e u → t ≡ u
one_sum home e t u (a_number i at) q = number_one home i at u (at_layer home (expr.Num i at) (Expr-F.Num i at) u (out_num i at) q)
one_sum home e t u (a_variable x n h) q = variable_one home x n u h (at_layer home (expr.Var x) (Expr-F.Var x) u (out_var x) q)
one_sum home e t u (a_multiple x n k at here h) q =
    multiple_one home (expr.Var x) (expr.Num k at) x n k at here u (out_var x) (out_num k at) h
    (at_layer home (expr.Bin op.Mul (expr.Var x) (expr.Num k at) here) (Expr-F.Bin op.Mul (expr.Var x) (expr.Num k at) here) u (out_bin op.Mul (expr.Var x) (expr.Num k at) here) q)
one_sum home e t u (multiple_of x n k at here h) q =
    multiple_of_one home (expr.Num k at) (expr.Var x) x n k at here u (out_num k at) (out_var x) h
    (at_layer home (expr.Bin op.Mul (expr.Num k at) (expr.Var x) here) (Expr-F.Bin op.Mul (expr.Num k at) (expr.Var x) here) u (out_bin op.Mul (expr.Num k at) (expr.Var x) here) q)
one_sum home e t u (added {a} {b} {t = v} {u = w} here p r) q =
    added_one home a b v w here u (λ s. one_sum home a v s p) (λ s. one_sum home b w s r)
    (at_layer home (expr.Bin op.Add a b here) (Expr-F.Bin op.Add a b here) u (out_bin op.Add a b here) q)
one_sum home e t u (less {a} {t = v} i at here p) q =
    less_one home a (expr.Num i at) v i at here u (out_num i at) (λ s. one_sum home a v s p)
    (at_layer home (expr.Bin op.Sub a (expr.Num i at) here) (Expr-F.Bin op.Sub a (expr.Num i at) here) u (out_bin op.Sub a (expr.Num i at) here) q)

-- ---- one address, one index: by functions of the sum
abbrev base_and : ℕ → Option (ℕ × ℕ) → ℤ → Address
base_and b x i = record { base = Some b; index = x; disp = reading_of S64 i }

abbrev address_by : List (ℕ × ℕ) → ℤ → Option Address
address_by (t ∷ []) i = Some (base_and t.0 None i)
address_by (t ∷ u ∷ []) i = Some (if nat_eq t.1 1 then base_and t.0 (Some (u.0, u.1)) i else base_and u.0 (Some (t.0, t.1)) i)
address_by _ i = None

address_is : (t : Sum) (m : Address) → IsAddress t m → address_by t.terms t.number ≡ Some m
address_is t m (of_base b i) = refl
address_is t m (of_both b j k i) = refl
address_is t m (of_swapped b j k i ne) = let e : nat_eq k 1 ≡ false = ne_eqb k 1 ne in ap (λ c. Some (if c then base_and j (Some (b, 1)) i else base_and b (Some (j, k)) i)) e

abbrev index_by : List (ℕ × ℕ) → ℤ → Option (Option ℕ × ℤ)
index_by [] i = Some (None, reading_of S64 i)
index_by (t ∷ []) i = Some (Some t.0, reading_of S64 i)
index_by _ i = None

index_is : (t : Sum) (b : Option ℕ) (i : ℤ) → IsIndex t b i → index_by t.terms t.number ≡ Some (b, i)
index_is t b i (constant j) = refl
index_is t b i (variable v j) = refl

pub one_address : (t u : Sum) (m n : Address) → t ≡ u → IsAddress t m → IsAddress u n → m ≡ n
one_address t u m n e p q = same_some m n (sym (address_is t m p) ∙ ap (λ s. address_by s.terms s.number) e ∙ address_is u n q)

pub one_index : (t u : Sum) (b c : Option ℕ) (i j : ℤ) → t ≡ u → IsIndex t b i → IsIndex u c j → (b ≡ c) × (i ≡ j)
one_index t u b c i j e p q =
    let s : (b, i) ≡ (c, j) = same_some (b, i) (c, j) (sym (index_is t b i p) ∙ ap (λ s. index_by s.terms s.number) e ∙ index_is u c j q) in
    (ap (λ r. r.0) s, ap (λ r. r.1) s)
