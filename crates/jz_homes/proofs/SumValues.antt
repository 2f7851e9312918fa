-- The value of a sum by what its variables hold.
use Rattle.std.proofs.Common.{◌≡◌, ℕ, ◌+◌, ◌-◌, ◌*◌, ◌%◌, ◌^◌, ◌<◌, Bool, true, false, List, [], ◌∷◌, ◌++◌, Some, None, refl, sym, ap, ◌∙◌, subst, arith, ℤ, pos, negsuc, ◌+ℤ◌, ◌-ℤ◌}
use Rattle.std.proofs.lemmas.Int.{ints}
use Rattle.std.specs.Prelude.{option_map, if◌then◌else◌}
use Rattle.jz_io.specs.declared.span.Span.{Span}
use Rattle.jz_words.specs.declared.size.Size.TheVariants.{S64}
use Rattle.jz_words.specs.Words.{residue}
use Rattle.jz_tree.specs.declared.expr.BinOp.{BinOp}
use Rattle.jz_tree.specs.declared.expr.BinOp.TheVariants as o
use Rattle.jz_tree.specs.declared.expr.Expr.{Expr}
use Rattle.jz_tree.specs.declared.expr.Expr.TheVariants as expr
use Rattle.jz_tree.specs.declared.expr.Var.{Var}
use Rattle.jz_meaning.specs.Constant.TheVariants as constant
use Rattle.jz_runs.specs.Rules.{went}
use Rattle.jz_meaning.specs.Attempts.{Evaluation, and_then, defined}
use Rattle.jz_meaning.specs.States.{Value, word, integer, State}
use Rattle.jz_meaning.specs.Operators.{of_constant, is_shift, is_settled, combined, binary}
use Rattle.jz_meaning.specs.Values.{key_of, ref_of, variable_value, own_size, evaluated, left_wanted, right_wanted, with_right, run_binary}
use Rattle.jz_operations.specs.Values as over
use Rattle.jz_operations.specs.Rows.{narrowed}
use Rattle.jz_operations.proofs.Somes.{some_then, same_some}
use Rattle.jz_homes.specs.Homes.{Homes, in_register, IsRelated}
use Rattle.jz_homes.specs.Sums.{Sum, IsSum, a_number, a_variable, a_multiple, multiple_of, added, less, total_in}
use Rattle.jz_homes.proofs.Parts.{both_went, went_same, defined_went, evaluated_num, evaluated_var, evaluated_bin}

add_by : (x y z : ℤ) → x +ℤ y ≡ z → residue S64 z ≡ (residue S64 x + residue S64 y) % 2 ^ 64
add_by (pos a) (pos b) (pos c) e = let k : a + b ≡ c = omega (arith, ints, e) in omega (arith, k)
add_by (pos a) (pos b) (negsuc c) e = absurd (omega (arith, ints, e))
add_by (pos a) (negsuc b) (pos c) e = let k : c + b + 1 ≡ a = omega (arith, ints, e) in omega (arith, k)
add_by (pos a) (negsuc b) (negsuc c) e = let k : a + c ≡ b = omega (arith, ints, e) in omega (arith, k)
add_by (negsuc a) (pos b) (pos c) e = let k : c + a + 1 ≡ b = omega (arith, ints, e) in omega (arith, k)
add_by (negsuc a) (pos b) (negsuc c) e = let k : b + c ≡ a = omega (arith, ints, e) in omega (arith, k)
add_by (negsuc a) (negsuc b) (pos c) e = absurd (omega (arith, ints, e))
add_by (negsuc a) (negsuc b) (negsuc c) e = let k : a + b + 1 ≡ c = omega (arith, ints, e) in omega (arith, k)

pub residue_add : (x y : ℤ) → residue S64 (x +ℤ y) ≡ (residue S64 x + residue S64 y) % 2 ^ 64
residue_add x y = add_by x y (x +ℤ y) refl

sub_by : (x y z : ℤ) → x -ℤ y ≡ z → residue S64 z ≡ (residue S64 x + 2 ^ 64 - (residue S64 y + 0)) % 2 ^ 64
sub_by (pos a) (pos b) (pos c) e = let k : c + b ≡ a = omega (arith, ints, e) in omega (arith, k)
sub_by (pos a) (pos b) (negsuc c) e = let k : a + c + 1 ≡ b = omega (arith, ints, e) in omega (arith, k)
sub_by (pos a) (negsuc b) (pos c) e = let k : a + b + 1 ≡ c = omega (arith, ints, e) in omega (arith, k)
sub_by (pos a) (negsuc b) (negsuc c) e = absurd (omega (arith, ints, e))
sub_by (negsuc a) (pos b) (pos c) e = absurd (omega (arith, ints, e))
sub_by (negsuc a) (pos b) (negsuc c) e = let k : a + b ≡ c = omega (arith, ints, e) in omega (arith, k)
sub_by (negsuc a) (negsuc b) (pos c) e = let k : c + a ≡ b = omega (arith, ints, e) in omega (arith, k)
sub_by (negsuc a) (negsuc b) (negsuc c) e = let k : b + c + 1 ≡ a = omega (arith, ints, e) in omega (arith, k)

pub residue_sub : (x y : ℤ) → residue S64 (x -ℤ y) ≡ (residue S64 x + 2 ^ 64 - (residue S64 y + 0)) % 2 ^ 64
residue_sub x y = sub_by x y (x -ℤ y) refl

-- ---- values as words of 64 bits
-- a word, or a whole number that stands for one
pub data StandsFor : Value → ℕ → Type 0 where
  stands_word : (a : ℕ) → StandsFor (word S64 a) a
  stands_number : (i : ℤ) → StandsFor (integer i) (residue S64 i)

-- where no number is leaked, and the value stands for a word
pub record Gives (g : Evaluation Value) (n : ℕ) : Type 0 where
  pub value : Value
  pub is : g ≡ went [] value
  pub stands : StandsFor value n

in_range_same : (b : Bool) (i j : ℤ) → (if b then None else Some i) ≡ Some j → i ≡ j
in_range_same true i j e = absurd cc
in_range_same false i j e = cc

range_by : (at : Span) (b : Bool) (i : ℤ) (ns : List ℕ) (v : Value) → defined at (option_map of_constant (option_map constant.Int (if b then None else Some i))) ≡ went ns v → (ns ≡ []) × (v ≡ integer i)
range_by at true i ns v e = absurd cc
range_by at false i ns v e = let k = went_same [] ns (integer i) v e in (sym k.0, sym k.1)

-- a value that stands for a word
abbrev pub Comes : List ℕ → Value → ℕ → Type 0
Comes ns v n = (ns ≡ []) × StandsFor v n

comes_word : (ns : List ℕ) (v : Value) (n : ℕ) → ◌≡◌ {A = Evaluation Value} (went [] (word S64 n)) (went ns v) → Comes ns v n
comes_word ns v n e = let k = went_same [] ns (word S64 n) v e in (sym k.0, subst (λ x. StandsFor x n) k.1 (stands_word n))

plus_is : (at : Span) (x y : Value) (a b : ℕ) (ns : List ℕ) (v : Value) → StandsFor x a → StandsFor y b → combined o.Add at x y ≡ went ns v → Comes ns v ((a + b) % 2 ^ 64)
unfolding combined
plus_is at x y a b ns v (stands_word c) (stands_word d) e = let z : a + b + 0 ≡ a + b = omega arith in let k = comes_word ns v ((a + b + 0) % 2 ^ 64) e in (k.0, subst (λ n. StandsFor v (n % 2 ^ 64)) z k.1)
plus_is at x y a b ns v (stands_word c) (stands_number j) e = let z : a + b + 0 ≡ a + b = omega arith in let k = comes_word ns v ((a + b + 0) % 2 ^ 64) e in (k.0, subst (λ n. StandsFor v (n % 2 ^ 64)) z k.1)
plus_is at x y a b ns v (stands_number i) (stands_word d) e = let z : a + b + 0 ≡ a + b = omega arith in let k = comes_word ns v ((a + b + 0) % 2 ^ 64) e in (k.0, subst (λ n. StandsFor v (n % 2 ^ 64)) z k.1)
plus_is at x y a b ns v (stands_number i) (stands_number j) e =
    let k = range_by at _ (i +ℤ j) ns v e in (k.0, subst (λ u. StandsFor u ((a + b) % 2 ^ 64)) (sym k.1) (subst (λ n. StandsFor (integer (i +ℤ j)) n) (residue_add i j) (stands_number (i +ℤ j))))

minus_is : (at : Span) (x : Value) (a : ℕ) (j : ℤ) (ns : List ℕ) (v : Value) → StandsFor x a → combined o.Sub at x (integer j) ≡ went ns v → Comes ns v ((a + 2 ^ 64 - (residue S64 j + 0)) % 2 ^ 64)
unfolding combined
minus_is at x a j ns v (stands_word c) e = comes_word ns v _ e
minus_is at x a j ns v (stands_number i) e =
    let k = range_by at _ (i -ℤ j) ns v e in (k.0, subst (λ u. StandsFor u ((a + 2 ^ 64 - (residue S64 j + 0)) % 2 ^ 64)) (sym k.1) (subst (λ n. StandsFor (integer (i -ℤ j)) n) (residue_sub i j) (stands_number (i -ℤ j))))

times_is : (at : Span) (a : ℕ) (k : ℤ) (ns : List ℕ) (v : Value) → combined o.Mul at (word S64 a) (integer k) ≡ went ns v → Comes ns v (a * residue S64 k % 2 ^ 64)
unfolding combined
times_is at a k ns v e = comes_word ns v _ e

times_swapped : (at : Span) (a : ℕ) (k : ℤ) (ns : List ℕ) (v : Value) → combined o.Mul at (integer k) (word S64 a) ≡ went ns v → Comes ns v (residue S64 k * a % 2 ^ 64)
unfolding combined
times_swapped at a k ns v e = comes_word ns v _ e

-- ---- sums
empty_three : (a b c : List ℕ) → a ≡ [] → b ≡ [] → c ≡ [] → a ++ (b ++ c) ≡ []
empty_three a b c e f g = rw (e, f, g) refl

product_same : (a f : ℕ) → a * f % 2 ^ 64 ≡ residue S64 (pos (f * a + 0) +ℤ pos 0)
product_same a f = let z : a * f ≡ f * a + 0 + 0 = grind arith in ap (λ n. n % 2 ^ 64) z

product_swapped : (a f : ℕ) → f * a % 2 ^ 64 ≡ residue S64 (pos (f * a + 0) +ℤ pos 0)
product_swapped a f = let z : f * a ≡ f * a + 0 + 0 = omega arith in ap (λ n. n % 2 ^ 64) z

sum_swapped : (x y : ℕ) (t u : ℤ) → (pos x +ℤ t) +ℤ (pos y +ℤ u) ≡ pos (x + y) +ℤ (t +ℤ u)
sum_swapped x y t u = omega (arith, ints)

less_swapped : (x : ℕ) (t i : ℤ) → (pos x +ℤ t) -ℤ i ≡ pos x +ℤ (t -ℤ i)
less_swapped x t i = omega (arith, ints)

total_append : (ts us : List (ℕ × ℕ)) (σ : over.State) (m n : ℕ) → total_in ts σ ≡ Some m → total_in us σ ≡ Some n → total_in (ts ++ us) σ ≡ Some (m + n)
total_append [] us σ m n e f = f ∙ ap (λ x. Some x) (let z : 0 ≡ m = same_some 0 m e in omega (arith, z))
total_append (t ∷ ts) us σ m n e f =
    let r = some_then (narrowed S64 (σ.vars t.0)) _ m e in
    let q = some_then (total_in ts σ) _ m r.2 in
    let z : t.1 * r.0 + q.0 ≡ m = same_some _ m q.2 in
    rw (r.1, total_append ts us σ q.0 n q.1 f) (ap (λ x. Some x) (omega (arith, z)))

module _ (home : Homes) (s : State) (σ : over.State) (related : IsRelated home s σ) where
  pub record SumIs (t : Sum) (ns : List ℕ) (v : Value) : Type 0 where
    pub none : ns ≡ []
    pub total : ℕ
    pub made : total_in t.terms σ ≡ Some total
    pub stands : StandsFor v (residue S64 (pos total +ℤ t.number))

  -- a variable of 64 bits
  pub record VarIs (x : Var) (n : ℕ) (ns : List ℕ) (v : Value) : Type 0 where
    pub bits : ℕ
    pub none : ns ≡ []
    pub is : v ≡ word S64 bits
    pub small : bits < 2 ^ 64
    pub there : narrowed S64 (σ.vars n) ≡ Some bits

  var_is : (x : Var) (n : ℕ) → home (key_of (ref_of x)) ≡ Some (in_register n S64) → (ns : List ℕ) (v : Value) → variable_value (ref_of x) s.store ≡ went ns v → VarIs x n ns v
  var_is x n h ns v e =
      let d = defined_went (ref_of x).span (s.store (key_of (ref_of x))) ns v e in
      let k = related.holds (key_of (ref_of x)) (in_register n S64) v h d.0 in
      record {
        bits = k.0;
        none = d.1;
        is = k.1;
        small = k.2;
        there = ap (narrowed S64) k.3 ∙ ap (λ y. Some y) (let small = k.2 in omega (arith, small));
      }

  one_term : (n k x : ℕ) → narrowed S64 (σ.vars n) ≡ Some x → total_in ((n, k) ∷ []) σ ≡ Some (k * x + 0)
  one_term n k x e = rw e refl

  sum_bin : (op : BinOp) (a b : Expr) (here : Span) (ns : List ℕ) (v : Value) → (left_wanted op (Some S64) (own_size a) (own_size b)) ≡ Some S64 → right_wanted op (Some S64) ≡ Some S64 → ((x : Value) → is_settled op x ≡ false) → is_shift op ≡ false
      → evaluated (expr.Bin op a b here) (Some S64) s ≡ went ns v
      → (ms : List ℕ) × (x : Value) × (ks : List ℕ) × (y : Value) × (ls : List ℕ) × (evaluated a (Some S64) s ≡ went ms x) × (evaluated b (Some S64) s ≡ went ks y) × (combined op here x y ≡ went ls v) × (ns ≡ ms ++ (ks ++ ls))
  unfolding binary
  sum_bin op a b here ns v lw rw' settled shift e =
      let e1 = sym (evaluated_bin op a b here (Some S64) s ∙ ap (λ z. run_binary op (evaluated a) (evaluated b) here z s) lw) ∙ e in
      let t = both_went (evaluated a (Some S64) s) (with_right op (evaluated b) here (Some S64) s) ns v e1 in
      let e2 : and_then (evaluated b (Some S64) s) (λ y. combined op here t.value y) ≡ went t.second v = sym (rw (settled t.value, rw', shift) refl) ∙ t.went_on in
      let u = both_went (evaluated b (Some S64) s) (λ y. combined op here t.value y) t.second v e2 in
      (t.first, t.value, u.first, u.value, u.second, t.came, u.came, u.went_on, t.numbers ∙ ap (λ z. t.first ++ z) u.numbers)

  pub sum_is : {e : Expr} {t : Sum} → IsSum home e t → (ns : List ℕ) (v : Value) → evaluated e (Some S64) s ≡ went ns v → SumIs t ns v
  sum_is (a_number i at) ns v e =
      let k = went_same [] ns (integer i) v (sym (evaluated_num i at (Some S64) s) ∙ e) in
      record { none = sym k.0; total = 0; made = refl; stands = subst (λ u. StandsFor u (residue S64 (pos 0 +ℤ i))) k.1 (subst (λ n. StandsFor (integer i) n) (ap (residue S64) (let z : i ≡ pos 0 +ℤ i = omega (arith, ints) in z)) (stands_number i)) }
  sum_is (a_variable x n h) ns v e =
      let k = var_is x n h ns v (sym (evaluated_var x (Some S64) s) ∙ e) in
      record {
        none = k.none;
        total = 1 * k.bits + 0;
        made = one_term n 1 k.bits k.there;
        stands = subst (λ u. StandsFor u (residue S64 (pos (1 * k.bits + 0) +ℤ pos 0))) (sym k.is) (subst (λ m. StandsFor (word S64 k.bits) m) (let small = k.small in omega (arith, small)) (stands_word k.bits));
      }
  sum_is (a_multiple x n f at here h) ns v e =
      let b = sum_bin o.Mul (expr.Var x) (expr.Num f at) here ns v refl refl (λ y. refl) refl e in
      let k = var_is x n h b.0 b.1 (sym (evaluated_var x (Some S64) s) ∙ b.5) in
      let j = went_same [] b.2 (integer f) b.3 (sym (evaluated_num f at (Some S64) s) ∙ b.6) in
      let c = times_is here k.bits f b.4 v (subst (λ z. combined o.Mul here z (integer f) ≡ went b.4 v) k.is (subst (λ z. combined o.Mul here b.1 z ≡ went b.4 v) (sym j.1) b.7)) in
      record {
        none = b.8 ∙ empty_three b.0 b.2 b.4 k.none (sym j.0) c.0;
        total = residue S64 f * k.bits + 0;
        made = one_term n (residue S64 f) k.bits k.there;
        stands = subst (λ m. StandsFor v m) (product_same k.bits (residue S64 f)) c.1;
      }
  sum_is (multiple_of x n f at here h) ns v e =
      let b = sum_bin o.Mul (expr.Num f at) (expr.Var x) here ns v refl refl (λ y. refl) refl e in
      let k = var_is x n h b.2 b.3 (sym (evaluated_var x (Some S64) s) ∙ b.6) in
      let j = went_same [] b.0 (integer f) b.1 (sym (evaluated_num f at (Some S64) s) ∙ b.5) in
      let c = times_swapped here k.bits f b.4 v (subst (λ z. combined o.Mul here (integer f) z ≡ went b.4 v) k.is (subst (λ z. combined o.Mul here z b.3 ≡ went b.4 v) (sym j.1) b.7)) in
      record {
        none = b.8 ∙ empty_three b.0 b.2 b.4 (sym j.0) k.none c.0;
        total = residue S64 f * k.bits + 0;
        made = one_term n (residue S64 f) k.bits k.there;
        stands = subst (λ m. StandsFor v m) (product_swapped k.bits (residue S64 f)) c.1;
      }
  sum_is (added {a} {b} {t} {u} here p q) ns v e =
      let r = sum_bin o.Add a b here ns v refl refl (λ y. refl) refl e in
      let x = sum_is p r.0 r.1 r.5 in
      let y = sum_is q r.2 r.3 r.6 in
      let c = plus_is here r.1 r.3 _ _ r.4 v x.stands y.stands r.7 in
      record {
        none = r.8 ∙ empty_three r.0 r.2 r.4 x.none y.none c.0;
        total = x.total + y.total;
        made = total_append t.terms u.terms σ x.total y.total x.made y.made;
        stands = subst (λ m. StandsFor v m) (sym (residue_add (pos x.total +ℤ t.number) (pos y.total +ℤ u.number)) ∙ ap (residue S64) (let tn = t.number in let un = u.number in let xt = x.total in let yt = y.total in sum_swapped xt yt tn un)) c.1;
      }
  sum_is (less {a} {t} i at here p) ns v e =
      let r = sum_bin o.Sub a (expr.Num i at) here ns v refl refl (λ y. refl) refl e in
      let x = sum_is p r.0 r.1 r.5 in
      let j = went_same [] r.2 (integer i) r.3 (sym (evaluated_num i at (Some S64) s) ∙ r.6) in
      let c = minus_is here r.1 _ i r.4 v x.stands (subst (λ z. combined o.Sub here r.1 z ≡ went r.4 v) (sym j.1) r.7) in
      record {
        none = r.8 ∙ empty_three r.0 r.2 r.4 x.none (sym j.0) c.0;
        total = x.total;
        made = x.made;
        stands = subst (λ m. StandsFor v m) (sym (residue_sub (pos x.total +ℤ t.number) i) ∙ ap (residue S64) (less_swapped x.total t.number i)) c.1;
      }
