-- Sums that have no room, and expressions that are no sum.
use Rattle.std.proofs.Common.{◌≡◌, ℕ, ◌+◌, ◌≤◌, ◌%◌, ◌^◌, Bool, true, false, List, [], ◌∷◌, ◌++◌, length, Option, Some, None, refl, sym, ap, ◌∙◌, subst, arith, inl, inr, length-append, ℤ, pos}
use Rattle.std.specs.Prelude.{◌⊎◌, IsTrue}
use Rattle.jz_words.specs.declared.size.Size.TheVariants.{S64}
use Rattle.jz_words.specs.Sizes.{signed}
use Rattle.jz_words.specs.Readings.{reading_of, fits_bytes}
use Rattle.jz_tree.specs.Span.{Span}
use Rattle.jz_tree.specs.declared.expr.BinOp.{BinOp}
use Rattle.jz_tree.specs.declared.expr.BinOp.TheVariants as op
use Rattle.jz_tree.specs.declared.expr.Expr.{Expr}
use Rattle.jz_tree.specs.declared.expr.Expr.TheVariants as expr
use Rattle.jz_tree.specs.declared.expr.Expr.TheOpen.{Expr-F}
use Rattle.jz_tree.specs.declared.expr.Expr.TheViews.{out-Expr, roll-Expr, roll-out-Expr}
use Rattle.jz_tree.specs.declared.expr.Var.{Var}
use Rattle.jz_meaning.specs.Values.{key_of, ref_of}
use Rattle.jz_operations.specs.declared.operation.Address.{Address}
use Rattle.jz_homes.specs.Homes.{Homes, in_register}
use Rattle.jz_homes.specs.Sums.{Sum, sum_of, IsSum, a_number, a_variable, a_multiple, multiple_of, added, less, IsAddress, of_base, of_both, of_swapped, IsIndex, constant, variable}
use Rattle.jz_one_row.proofs.Outs.{out_bin, out_num, out_var}
use Rattle.jz_one_row.proofs.Sums.{same_var, same_num, var_num, SumLayer, s_number, s_variable, s_multiple, s_multiple_of, s_added, s_less, at_layer, one_sum, one_address, one_index}
use Rattle.jz_operands.specs.declared.sums.Term.{Term}
use Rattle.jz_operands.specs.declared.sums.Found.{Found}
use Rattle.jz_operands.specs.declared.sums.Found.TheVariants.{Nothing, One, Two}
use Rattle.jz_operands.specs.declared.sums.Terms.{Terms}
use Rattle.jz_operands.specs.Refusals.{is_scale, HasScale, NeverAddress, NeverIndex}
use Rattle.jz_operands.specs.SumTerms.{pair_of, pairs_of, IsWhole, NeverWhole}
use Rattle.jz_operands.specs.InnerSums.{SumsBefore, IsBased, base_first, base_second, NeverBefore, NeverNumber, NeverBased}

-- ---- expressions by their layers
num_of : (e : Expr) (i : ℤ) (at : Span) → out-Expr e ≡ Expr-F.Num i at → e ≡ expr.Num i at
num_of e i at h = sym (roll-out-Expr e) ∙ ap roll-Expr h ∙ expr.rolls-Num i at

var_of : (e : Expr) (x : Var) → out-Expr e ≡ Expr-F.Var x → e ≡ expr.Var x
var_of e x h = sym (roll-out-Expr e) ∙ ap roll-Expr h ∙ expr.rolls-Var x

-- ---- room
one_too_many : (a b : ℕ) → a ≡ 1 → 2 ≤ b → a + b ≤ 2 → ⊥
one_too_many a b e f g = omega (arith, e, f, g)

-- a product or a variable: one register
pub record IsOneTerm (home : Homes) (x : Var) (t : Sum) : Type 0 where
  pub register : ℕ
  pub at : home (key_of (ref_of x)) ≡ Some (in_register register S64)
  pub many : length t.terms ≡ 1

module _ (home : Homes) where
  variable_at : (x : Var) (t : Sum) → SumLayer home (Expr-F.Var x) t → IsOneTerm home x t
  variable_at x t (s_variable y n h) = record { register = n; at = h; many = refl }

  pub variable_is : (x : Var) (t : Sum) → IsSum home (expr.Var x) t → IsOneTerm home x t
  variable_is x t h = variable_at x t (at_layer home (expr.Var x) (Expr-F.Var x) t (out_var x) h)

  as_term : (x y : Var) (n : ℕ) (t : Sum) → x ≡ y → home (key_of (ref_of y)) ≡ Some (in_register n S64) → length t.terms ≡ 1 → IsOneTerm home x t
  as_term x y n t e h one = record { register = n; at = ap (λ v. home (key_of (ref_of v))) e ∙ h; many = one }

  right_at : (x : Var) (k : ℤ) (at here : Span) (t : Sum) → SumLayer home (Expr-F.Bin op.Mul (expr.Var x) (expr.Num k at) here) t → IsOneTerm home x t
  right_at x k at here t (s_multiple a b y n j at2 here2 e f h) = as_term x y n t (same_var x y (sym (out_var x) ∙ e)) h refl
  right_at x k at here t (s_multiple_of a b y n j at2 here2 e f h) = absurd (var_num x j at2 (sym (out_var x) ∙ e))

  pub right_is : (x : Var) (k : ℤ) (at here : Span) (t : Sum) → IsSum home (expr.Bin op.Mul (expr.Var x) (expr.Num k at) here) t → IsOneTerm home x t
  right_is x k at here t h =
      right_at x k at here t (at_layer home (expr.Bin op.Mul (expr.Var x) (expr.Num k at) here) (Expr-F.Bin op.Mul (expr.Var x) (expr.Num k at) here) t (out_bin op.Mul (expr.Var x) (expr.Num k at) here) h)

  left_at : (x : Var) (k : ℤ) (at here : Span) (t : Sum) → SumLayer home (Expr-F.Bin op.Mul (expr.Num k at) (expr.Var x) here) t → IsOneTerm home x t
  left_at x k at here t (s_multiple a b y n j at2 here2 e f h) = absurd (var_num y k at (sym e ∙ out_num k at))
  left_at x k at here t (s_multiple_of a b y n j at2 here2 e f h) = as_term x y n t (same_var x y (sym (out_var x) ∙ f)) h refl

  pub left_is : (x : Var) (k : ℤ) (at here : Span) (t : Sum) → IsSum home (expr.Bin op.Mul (expr.Num k at) (expr.Var x) here) t → IsOneTerm home x t
  left_is x k at here t h =
      left_at x k at here t (at_layer home (expr.Bin op.Mul (expr.Num k at) (expr.Var x) here) (Expr-F.Bin op.Mul (expr.Num k at) (expr.Var x) here) t (out_bin op.Mul (expr.Num k at) (expr.Var x) here) h)

  -- where the variable is in no register of 64 bits, or there is no room
  pub no_register : (e : Expr) (x : Var) (rest : Terms) → ((t : Sum) → IsSum home e t → IsOneTerm home x t) → ((n : ℕ) → home (key_of (ref_of x)) ≡ Some (in_register n S64) → ⊥) → NeverBefore home e rest
  no_register e x rest one none t h fits = none (one t h).register (one t h).at

  pub no_room : (e : Expr) (x : Var) (rest : Terms) → ((t : Sum) → IsSum home e t → IsOneTerm home x t) → 2 ≤ length (pairs_of rest.found) → NeverBefore home e rest
  no_room e x rest one full t h fits = one_too_many (length t.terms) (length (pairs_of rest.found)) (one t h).many full fits

  -- ---- products: one is a variable, the other a number
  abbrev pub IsVarNum : Expr → Expr → Type 0
  IsVarNum a b = (x : Var) × (k : ℤ) × (at : Span) × (a ≡ expr.Var x) × (b ≡ expr.Num k at)

  product_at : (a b : Expr) (here : Span) (t : Sum) → SumLayer home (Expr-F.Bin op.Mul a b here) t → IsVarNum a b ⊎ IsVarNum b a
  product_at a b here t (s_multiple c d y n j at2 here2 e f h) = inl (y, j, at2, var_of a y e, num_of b j at2 f)
  product_at a b here t (s_multiple_of c d y n j at2 here2 e f h) = inr (y, j, at2, var_of b y f, num_of a j at2 e)

  pub no_product : (a b : Expr) (here : Span) (rest : Terms) → (IsVarNum a b ⊎ IsVarNum b a → ⊥) → NeverBefore home (expr.Bin op.Mul a b here) rest
  no_product a b here rest none t h fits = none (product_at a b here t (at_layer home (expr.Bin op.Mul a b here) (Expr-F.Bin op.Mul a b here) t (out_bin op.Mul a b here) h))

  pub var_no_num : (a b : Expr) (x : Var) → a ≡ expr.Var x → NeverNumber b → IsVarNum a b ⊎ IsVarNum b a → ⊥
  var_no_num a b x e none (inl s) = none s.1 s.2 s.4
  var_no_num a b x e none (inr s) = var_num x s.1 s.2 (sym (out_var x) ∙ ap out-Expr (sym e ∙ s.4) ∙ out_num s.1 s.2)

  abbrev pub NeverVariable : Expr → Type 0
  NeverVariable e = (x : Var) → e ≡ expr.Var x → ⊥

  pub num_no_var : (a b : Expr) (k : ℤ) (at : Span) → a ≡ expr.Num k at → NeverVariable b → IsVarNum a b ⊎ IsVarNum b a → ⊥
  num_no_var a b k at e none (inl s) = var_num s.0 k at (sym (out_var s.0) ∙ ap out-Expr (sym s.3 ∙ e) ∙ out_num k at)
  num_no_var a b k at e none (inr s) = none s.0 s.3

  pub neither : (a b : Expr) → NeverVariable a → NeverNumber a → IsVarNum a b ⊎ IsVarNum b a → ⊥
  neither a b no_var no_num (inl s) = no_var s.0 s.3
  neither a b no_var no_num (inr s) = no_num s.1 s.2 s.4

  -- ---- other forms
  other_op_at : (o : BinOp) (a b : Expr) (here : Span) (t : Sum) → (o ≡ op.Add → ⊥) → (o ≡ op.Sub → ⊥) → (o ≡ op.Mul → ⊥) → SumLayer home (Expr-F.Bin o a b here) t → ⊥
  other_op_at o a b here t f g h (s_multiple c d y n j at2 here2 e1 e2 k) = h refl
  other_op_at o a b here t f g h (s_multiple_of c d y n j at2 here2 e1 e2 k) = h refl
  other_op_at o a b here t f g h (s_added c d u v here2 p q) = f refl
  other_op_at o a b here t f g h (s_less c d u j at2 here2 p e) = g refl

  pub other_op : (e : Expr) (o : BinOp) (a b : Expr) (here : Span) (rest : Terms) → e ≡ expr.Bin o a b here → (o ≡ op.Add → ⊥) → (o ≡ op.Sub → ⊥) → (o ≡ op.Mul → ⊥) → NeverBefore home e rest
  other_op e o a b here rest is f g h t k fits = other_op_at o a b here t f g h (at_layer home e (Expr-F.Bin o a b here) t (ap out-Expr is ∙ out_bin o a b here) k)

  form_of : (e : Expr) (t : Sum) → IsSum home e t → ((o : BinOp) (a b : Expr) (here : Span) → e ≡ expr.Bin o a b here → ⊥) → NeverNumber e → NeverVariable e → ⊥
  form_of e t (a_number i at) f g k = g i at refl
  form_of e t (a_variable x n h) f g k = k x refl
  form_of e t (a_multiple x n j at here h) f g k = f op.Mul (expr.Var x) (expr.Num j at) here refl
  form_of e t (multiple_of x n j at here h) f g k = f op.Mul (expr.Num j at) (expr.Var x) here refl
  form_of e t (added {a} {b} here p q) f g k = f op.Add a b here refl
  form_of e t (less {a} i at here p) f g k = f op.Sub a (expr.Num i at) here refl

  pub other_form : (e : Expr) (rest : Terms) → ((o : BinOp) (a b : Expr) (here : Span) → e ≡ expr.Bin o a b here → ⊥) → NeverNumber e → NeverVariable e → NeverBefore home e rest
  other_form e rest no_bin no_num no_var t h fits = form_of e t h no_bin no_num no_var

  -- ---- sums and differences
  record IsAdded (a b : Expr) (t : Sum) : Type 0 where
    pub first : Sum
    pub second : Sum
    pub is_first : IsSum home a first
    pub is_second : IsSum home b second
    pub terms : t.terms ≡ first.terms ++ second.terms

  added_at : (a b : Expr) (here : Span) (t : Sum) → SumLayer home (Expr-F.Bin op.Add a b here) t → IsAdded a b t
  added_at a b here t (s_added c d u v here2 p q) = record { first = u; second = v; is_first = p; is_second = q; terms = refl }

  added_is : (a b : Expr) (here : Span) (t : Sum) → IsSum home (expr.Bin op.Add a b here) t → IsAdded a b t
  added_is a b here t h = added_at a b here t (at_layer home (expr.Bin op.Add a b here) (Expr-F.Bin op.Add a b here) t (out_bin op.Add a b here) h)

  second_fits : (w u v n : ℕ) → w ≡ u + v → w + n ≤ 2 → v + n ≤ 2
  second_fits w u v n e h = omega (arith, e, h)

  first_fits : (w u v n m : ℕ) → w ≡ u + v → m ≡ v + n → w + n ≤ 2 → u + m ≤ 2
  first_fits w u v n m e f h = omega (arith, e, f, h)

  pub second_never : (a b : Expr) (here : Span) (rest : Terms) → NeverBefore home b rest → NeverBefore home (expr.Bin op.Add a b here) rest
  second_never a b here rest none t h fits =
      let s = added_is a b here t h in
      none s.second s.is_second (second_fits (length t.terms) (length s.first.terms) (length s.second.terms) (length (pairs_of rest.found)) (ap length s.terms ∙ length-append s.first.terms s.second.terms) fits)

  pub first_never : (a b : Expr) (here : Span) (rest mid : Terms) → SumsBefore home b rest mid → NeverBefore home a mid → NeverBefore home (expr.Bin op.Add a b here) rest
  first_never a b here rest mid found none t h fits =
      let s = added_is a b here t h in
      let same : found.sum ≡ s.second = one_sum home b found.sum s.second found.is s.is_second in
      none s.first s.is_first
      (first_fits (length t.terms) (length s.first.terms) (length s.second.terms) (length (pairs_of rest.found)) (length (pairs_of mid.found)) (ap length s.terms ∙ length-append s.first.terms s.second.terms)
      (ap length found.joins.terms ∙ length-append found.sum.terms (pairs_of rest.found) ∙ ap (λ (u : Sum). length u.terms + length (pairs_of rest.found)) same) fits)

  record IsLess (a b : Expr) (t : Sum) : Type 0 where
    pub first : Sum
    pub is_first : IsSum home a first
    pub terms : t.terms ≡ first.terms
    pub number : ℤ
    pub at : Span
    pub is_number : b ≡ expr.Num number at

  less_at : (a b : Expr) (here : Span) (t : Sum) → SumLayer home (Expr-F.Bin op.Sub a b here) t → IsLess a b t
  less_at a b here t (s_less c d u j at2 here2 p e) = record { first = u; is_first = p; terms = refl; number = j; at = at2; is_number = num_of b j at2 e }

  less_is : (a b : Expr) (here : Span) (t : Sum) → IsSum home (expr.Bin op.Sub a b here) t → IsLess a b t
  less_is a b here t h = less_at a b here t (at_layer home (expr.Bin op.Sub a b here) (Expr-F.Bin op.Sub a b here) t (out_bin op.Sub a b here) h)

  pub no_number : (a b : Expr) (here : Span) (rest : Terms) → NeverNumber b → NeverBefore home (expr.Bin op.Sub a b here) rest
  no_number a b here rest none t h fits = let s = less_is a b here t h in none s.number s.at s.is_number

  pub less_never : (a b : Expr) (here : Span) (rest mid : Terms) → mid.found ≡ rest.found → NeverBefore home a mid → NeverBefore home (expr.Bin op.Sub a b here) rest
  less_never a b here rest mid same none t h fits =
      let s = less_is a b here t h in
      none s.first s.is_first
      (subst (λ l. length l + length (pairs_of mid.found) ≤ 2) s.terms (subst (λ f. length t.terms + length (pairs_of f) ≤ 2) (sym same) fits))

  -- ---- other layers are no sums
  pub not_sum : (e : Expr) (rest : Terms) → ((t : Sum) → SumLayer home (out-Expr e) t → ⊥) → NeverBefore home e rest
  not_sum e rest none t h fits = none t (at_layer home e (out-Expr e) t refl h)

  -- ---- whole sums
  pub whole_never : (e : Expr) (rest : Terms) → pairs_of rest.found ≡ [] → NeverBefore home e rest → NeverWhole home e
  whole_never e rest none never t h fits = never t h (subst (λ l. length t.terms + length l ≤ 2) (sym none) (room (length t.terms) fits))
    where
      room : (n : ℕ) → n ≤ 2 → n + 0 ≤ 2
      room n h = omega (arith, h)

  none_few : (n : ℕ) → n ≡ 0 → n ≤ 2
  none_few n e = omega (arith, e)

  one_few : (n : ℕ) → n ≡ 1 → n ≤ 2
  one_few n e = omega (arith, e)

  two_few : (n : ℕ) → n ≡ 2 → n ≤ 2
  two_few n e = omega (arith, e)

  pub few_in_address : (t : Sum) (m : Address) → IsAddress t m → length t.terms ≤ 2
  few_in_address t m (of_base b i) = one_few (length {A = ℕ × ℕ} ((b, 1) ∷ [])) refl
  few_in_address t m (of_both b j k i) = two_few (length {A = ℕ × ℕ} ((b, 1) ∷ (j, k) ∷ [])) refl
  few_in_address t m (of_swapped b j k i ne) = two_few (length {A = ℕ × ℕ} ((j, k) ∷ (b, 1) ∷ [])) refl

  few_in_index : (t : Sum) (b : Option ℕ) (i : ℤ) → IsIndex t b i → length t.terms ≤ 2
  few_in_index t b i (constant j) = none_few 0 refl
  few_in_index t b i (variable v j) = one_few (length {A = ℕ × ℕ} ((v, 1) ∷ [])) refl

  disp_is : (t : Sum) (m : Address) → IsAddress t m → m.disp ≡ reading_of S64 t.number
  disp_is t m (of_base b i) = refl
  disp_is t m (of_both b j k i) = refl
  disp_is t m (of_swapped b j k i ne) = refl

  offset_is : (t : Sum) (b : Option ℕ) (i : ℤ) → IsIndex t b i → i ≡ reading_of S64 t.number
  offset_is t b i (constant j) = refl
  offset_is t b i (variable v j) = refl

  no_fit : (b : Bool) → b ≡ false → IsTrue b → ⊥
  no_fit b e h = absurd cc

  -- ---- addresses
  pub no_sum_address : (e : Expr) → NeverWhole home e → NeverAddress home e
  no_sum_address e none t m h is fits scale = none t h (few_in_address t m is)

  pub reading_of_whole : (e : Expr) (all : Terms) (t : Sum) → IsWhole home e all → IsSum home e t → signed S64 (all.number % 2 ^ 64) ≡ reading_of S64 t.number
  reading_of_whole e all t w h = ap (signed S64) w.number ∙ ap (λ (s : Sum). reading_of S64 s.number) (one_sum home e w.sum t w.is h)

  pub terms_of_whole : (e : Expr) (all : Terms) (t : Sum) → IsWhole home e all → IsSum home e t → pairs_of all.found ≡ t.terms
  terms_of_whole e all t w h = w.terms ∙ ap (λ (s : Sum). s.terms) (one_sum home e w.sum t w.is h)

  pub no_displacement : (e : Expr) (all : Terms) → IsWhole home e all → fits_bytes 4 (signed S64 (all.number % 2 ^ 64)) ≡ false → NeverAddress home e
  no_displacement e all w none t m h is fits scale =
      no_fit (fits_bytes 4 m.disp) (ap (fits_bytes 4) (disp_is t m is ∙ sym (reading_of_whole e all t w h)) ∙ none) fits

  no_terms : (t : Sum) (m : Address) → [] ≡ t.terms → IsAddress t m → ⊥
  no_terms t m e (of_base b i) = absurd cc
  no_terms t m e (of_both b j k i) = absurd cc
  no_terms t m e (of_swapped b j k i ne) = absurd cc

  pub no_base : (e : Expr) (all : Terms) → IsWhole home e all → all.found ≡ Nothing → NeverAddress home e
  no_base e all w none t m h is fits scale = no_terms t m (ap pairs_of (sym none) ∙ terms_of_whole e all t w h) is

  head_is : (p q : ℕ × ℕ) (ps qs : List (ℕ × ℕ)) → p ∷ ps ≡ q ∷ qs → p ≡ q
  head_is p q ps qs e = cc

  second_is : (p q r s : ℕ × ℕ) → p ∷ q ∷ [] ≡ r ∷ s ∷ [] → q ≡ s
  second_is p q r s e = cc

  one_term : (t : Sum) (m : Address) (u : Term) → pair_of u ∷ [] ≡ t.terms → IsAddress t m → u.factor ≡ 1
  one_term t m u e (of_base b i) = ap (λ (p : ℕ × ℕ). p.1) (head_is (pair_of u) (b, 1) [] [] e)
  one_term t m u e (of_both b j k i) = absurd cc
  one_term t m u e (of_swapped b j k i ne) = absurd cc

  pub no_factor : (e : Expr) (all : Terms) (u : Term) → IsWhole home e all → all.found ≡ One u → (u.factor ≡ 1 → ⊥) → NeverAddress home e
  no_factor e all u w one none t m h is fits scale = none (one_term t m u (ap pairs_of (sym one) ∙ terms_of_whole e all t w h) is)

  record HasBase (u v : Term) : Type 0 where
    pub base : ℕ
    pub index : ℕ
    pub factor : ℕ
    pub is : IsBased u v base index factor
    pub scale : IsTrue (is_scale factor)

  two_terms : (t : Sum) (m : Address) (u v : Term) → pair_of u ∷ pair_of v ∷ [] ≡ t.terms → IsAddress t m → HasScale m.index → HasBase u v
  two_terms t m u v e (of_base b i) scale = absurd cc
  two_terms t m u v e (of_both b j k i) scale =
      let f : u.factor ≡ 1 = ap (λ (p : ℕ × ℕ). p.1) (head_is (pair_of u) (b, 1) (pair_of v ∷ []) ((j, k) ∷ []) e) in
      let g : v.factor ≡ k = ap (λ (p : ℕ × ℕ). p.1) (second_is (pair_of u) (pair_of v) (b, 1) (j, k) e) in
      record { base = u.variable; index = v.variable; factor = v.factor; is = base_first f; scale = subst (λ n. IsTrue (is_scale n)) (sym g) scale }
  two_terms t m u v e (of_swapped b j k i ne) scale =
      let f : v.factor ≡ 1 = ap (λ (p : ℕ × ℕ). p.1) (second_is (pair_of u) (pair_of v) (j, k) (b, 1) e) in
      let g : u.factor ≡ k = ap (λ (p : ℕ × ℕ). p.1) (head_is (pair_of u) (j, k) (pair_of v ∷ []) ((b, 1) ∷ []) e) in
      record { base = v.variable; index = u.variable; factor = u.factor; is = base_second (λ one. ne (sym g ∙ one)) f; scale = subst (λ n. IsTrue (is_scale n)) (sym g) scale }

  pub no_based : (e : Expr) (all : Terms) (u v : Term) → IsWhole home e all → all.found ≡ Two u v → NeverBased u v → NeverAddress home e
  no_based e all u v w two none t m h is fits scale =
      let r = two_terms t m u v (ap pairs_of (sym two) ∙ terms_of_whole e all t w h) is scale in
      none r.base r.index r.factor r.is r.scale

  -- ---- indices
  pub no_sum_index : (e : Expr) → NeverWhole home e → NeverIndex home e
  no_sum_index e none t b i h is fits = none t h (few_in_index t b i is)

  pub no_offset : (e : Expr) (all : Terms) → IsWhole home e all → fits_bytes 4 (signed S64 (all.number % 2 ^ 64)) ≡ false → NeverIndex home e
  no_offset e all w none t b i h is fits = no_fit (fits_bytes 4 i) (ap (fits_bytes 4) (offset_is t b i is ∙ sym (reading_of_whole e all t w h)) ∙ none) fits

  index_term : (t : Sum) (b : Option ℕ) (i : ℤ) (u : Term) → pair_of u ∷ [] ≡ t.terms → IsIndex t b i → u.factor ≡ 1
  index_term t b i u e (constant j) = absurd cc
  index_term t b i u e (variable v j) = ap (λ (p : ℕ × ℕ). p.1) (head_is (pair_of u) (v, 1) [] [] e)

  pub no_index_factor : (e : Expr) (all : Terms) (u : Term) → IsWhole home e all → all.found ≡ One u → (u.factor ≡ 1 → ⊥) → NeverIndex home e
  no_index_factor e all u w one none t b i h is fits = none (index_term t b i u (ap pairs_of (sym one) ∙ terms_of_whole e all t w h) is)

  index_terms : (t : Sum) (b : Option ℕ) (i : ℤ) (u v : Term) → pair_of u ∷ pair_of v ∷ [] ≡ t.terms → IsIndex t b i → ⊥
  index_terms t b i u v e (constant j) = absurd cc
  index_terms t b i u v e (variable w j) = absurd cc

  pub no_index : (e : Expr) (all : Terms) (u v : Term) → IsWhole home e all → all.found ≡ Two u v → NeverIndex home e
  no_index e all u v w two t b i h is fits = index_terms t b i u v (ap pairs_of (sym two) ∙ terms_of_whole e all t w h) is

-- ---- a base and an index
based_factor : (t u : Term) (b j k : ℕ) → IsBased t u b j k → (t.factor ≡ 1 → ⊥) → (u.factor ≡ 1 → ⊥) → ⊥
based_factor t u b j k (base_first e) f g = f e
based_factor t u b j k (base_second ne e) f g = g e

pub never_based : (t u : Term) → (t.factor ≡ 1 → ⊥) → (u.factor ≡ 1 → ⊥) → NeverBased t u
never_based t u f g b j k h scale = based_factor t u b j k h f g

first_scale : (t u : Term) (b j k : ℕ) → IsBased t u b j k → t.factor ≡ 1 → k ≡ u.factor
first_scale t u b j k (base_first e) f = refl
first_scale t u b j k (base_second ne e) f = absurd (ne f)

second_scale : (t u : Term) (b j k : ℕ) → IsBased t u b j k → (t.factor ≡ 1 → ⊥) → k ≡ t.factor
second_scale t u b j k (base_first e) f = absurd (f e)
second_scale t u b j k (base_second ne e) f = refl

no_scale : (k n : ℕ) → k ≡ n → is_scale n ≡ false → IsTrue (is_scale k) → ⊥
no_scale k n e f h = let t : is_scale n ≡ true = subst (λ m. is_scale m ≡ true) e h in absurd cc

pub first_unscaled : (t u : Term) → t.factor ≡ 1 → is_scale u.factor ≡ false → NeverBased t u
first_unscaled t u e f b j k h scale = no_scale k u.factor (first_scale t u b j k h e) f scale

pub second_unscaled : (t u : Term) → (t.factor ≡ 1 → ⊥) → is_scale t.factor ≡ false → NeverBased t u
second_unscaled t u ne f b j k h scale = no_scale k t.factor (second_scale t u b j k h ne) f scale
