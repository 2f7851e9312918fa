-- What is added to sums.
use Rattle.std.proofs.Common.{◌≡◌, ℕ, suc, ◌+◌, ◌*◌, ◌<◌, ◌≤◌, Bool, true, false, List, [], ◌∷◌, ◌++◌, map, Option, Some, None, refl, ap, sym, ◌∙◌, subst, arith}
use Rattle.std.specs.Prelude.{ℤ, pos, negsuc, ◌+ℤ◌, ◌-ℤ◌, ◌<ℤ◌, unsigned_abs, reverse}
use Rattle.std.proofs.lemmas.Int.{ints}
use Rattle.std.proofs.lemmas.List.{append_assoc, reverse-append}
use Rattle.jz_tree.specs.Span.{Span}
use Rattle.jz_tree.specs.declared.expr.BinOp.{BinOp}
use Rattle.jz_tree.specs.declared.expr.BinOp.TheVariants as o
use Rattle.jz_tree.specs.declared.expr.Expr.{Expr}
use Rattle.jz_tree.specs.declared.expr.Expr.TheVariants as expr
use Rattle.jz_meaning.specs.Values.{Ref, ref_of}
use Rattle.jz_terms.specs.Terms.{Term, num, truth, var, cell, load, neg, inv, cast, bin, term_of}
use Rattle.jz_terms.proofs.TermForms.{term_bin}
use Rattle.jz_alarms.specs.Conditions.{Sum, joined, taken, sum_of}
use Rattle.jz_wide.specs.Values.{sum}
use Rattle.std.specs.Borrow.{Bor}
use Rattle.jz_tree.specs.declared.expr.Var.{Var}
use Rattle.jz_inside.specs.declared.sums.Join.{Join}
use Rattle.jz_inside.specs.declared.sums.Scaled.{Scaled}
use Rattle.jz_inside.specs.InnerSums.{without_number, if_sum, unless_no, behind, taken_from, scaled_of, product, of_product, join_of, sum_as}

-- ---- numbers

pub sum_push : (xs : List ℕ) (x : ℕ) → sum (xs ++ x ∷ []) ≡ sum xs + x
sum_push [] x = omega arith
sum_push (y ∷ ys) x = ap (λ n. y + n) (sum_push ys x) ∙ regroup y (sum ys) x
  where
    regroup : (a b c : ℕ) → a + (b + c) ≡ a + b + c
    regroup a b c = omega arith

-- where a number is below 0 its amount is taken away
pub below_zero : (more less less2 : List ℕ) (a : ℕ) (n : ℤ) → less2 ≡ less ++ a ∷ [] → n <ℤ pos 0 → a ≡ unsigned_abs n → pos (sum more) -ℤ pos (sum less2) ≡ (pos (sum more) -ℤ pos (sum less)) +ℤ n
below_zero more less less2 a (pos m) e l h = absurd (omega (arith, ints, l))
below_zero more less less2 a (negsuc m) e l h =
    let k : a ≡ suc m = h in
    let s : sum less2 ≡ sum less + a = ap sum e ∙ sum_push less a in
    omega (arith, ints, k, s)

pub from_zero : (more less more2 : List ℕ) (a : ℕ) (n : ℤ) → more2 ≡ more ++ a ∷ [] → (n <ℤ pos 0 → ⊥) → a ≡ unsigned_abs n → pos (sum more2) -ℤ pos (sum less) ≡ (pos (sum more) -ℤ pos (sum less)) +ℤ n
from_zero more less more2 a (pos m) e l h =
    let k : a ≡ m = h in
    let s : sum more2 ≡ sum more + a = ap sum e ∙ sum_push more a in
    omega (arith, ints, k, s)
from_zero more less more2 a (negsuc m) e l h = absurd (l (omega (arith, ints)))

-- the same the other way round
pub turned : (p t q u n : ℤ) → q -ℤ u ≡ (p -ℤ t) +ℤ n → u -ℤ q ≡ (t -ℤ p) -ℤ n
turned p t q u n e = omega (arith, ints, e)

-- ---- sums

same_sum : (ps qs : List Ref) (ss us : List (Ref × ℕ)) (m n : ℤ) → ps ≡ qs → ss ≡ us → m ≡ n
    → ◌≡◌ {A = Sum} (record { plain = ps; scaled = ss; more = m }) (record { plain = qs; scaled = us; more = n })
same_sum ps qs ss us m n h i j =
    ap (λ x. record { plain = x; scaled = ss; more = m }) h
    ∙ ap (λ x. record { plain = qs; scaled = x; more = m }) i
    ∙ ap (λ x. record { plain = qs; scaled = us; more = x }) j

regroup : (a b c : ℤ) → a +ℤ (b +ℤ c) ≡ (a +ℤ b) +ℤ c
regroup a b c = omega (arith, ints)

joined_thrice : (a b s : Sum) → joined (Some a) (joined (Some b) (Some s)) ≡ joined (joined (Some a) (Some b)) (Some s)
joined_thrice a b s =
    ap Some (same_sum (a.plain ++ (b.plain ++ s.plain)) ((a.plain ++ b.plain) ++ s.plain) (a.scaled ++ (b.scaled ++ s.scaled)) ((a.scaled ++ b.scaled) ++ s.scaled) (a.more +ℤ (b.more +ℤ s.more)) ((a.more +ℤ b.more) +ℤ s.more)
    (sym (append_assoc a.plain b.plain s.plain)) (sym (append_assoc a.scaled b.scaled s.scaled)) (regroup a.more b.more s.more))

-- a sum more behind a left operand
pub after_add : (q r : Option Sum) (z : Bool) (s t : Sum) → if_sum z t ≡ joined r (Some s) → behind (unless_no z) q t ≡ joined (joined q r) (Some s)
after_add None None true s t h = absurd (cc h)
after_add None (Some b) true s t h = refl
after_add (Some a) None true s t h = absurd (cc h)
after_add (Some a) (Some b) true s t h = ap (joined (Some a)) h ∙ joined_thrice a b s
after_add None None false s t h = refl
after_add None (Some b) false s t h = refl
after_add (Some a) None false s t h = refl
after_add (Some a) (Some b) false s t h = absurd (cc h)

less_more : (a b n : ℤ) → a +ℤ (b -ℤ n) ≡ (a -ℤ n) +ℤ b
less_more a b n = omega (arith, ints)

-- a number less
pub after_take : (q : Option Sum) (e : Term) (z : Bool) (s t : Sum) → if_sum z t ≡ taken_from s e → behind (unless_no z) q t ≡ joined (taken q e) (Some s)
after_take None (num i at) true s t h = refl
after_take (Some a) (num i at) true s t h =
    ap (joined (Some a)) h
    ∙ ap Some (same_sum (a.plain ++ s.plain) (a.plain ++ s.plain) (a.scaled ++ s.scaled) (a.scaled ++ s.scaled) (a.more +ℤ (s.more -ℤ i)) ((a.more -ℤ i) +ℤ s.more) refl refl (less_more a.more s.more i))
after_take q (num i at) false s t h = absurd (cc h)
after_take q (truth b at) true s t h = absurd (cc h)
after_take q (var x) true s t h = absurd (cc h)
after_take q (cell x i) true s t h = absurd (cc h)
after_take q (load p a) true s t h = absurd (cc h)
after_take q (neg a at) true s t h = absurd (cc h)
after_take q (inv a at) true s t h = absurd (cc h)
after_take q (cast z b a at) true s t h = absurd (cc h)
after_take q (bin op a b at) true s t h = absurd (cc h)
after_take None (truth b at) false s t h = refl
after_take None (var x) false s t h = refl
after_take None (cell x i) false s t h = refl
after_take None (load p a) false s t h = refl
after_take None (neg a at) false s t h = refl
after_take None (inv a at) false s t h = refl
after_take None (cast z b a at) false s t h = refl
after_take None (bin op a b at) false s t h = refl
after_take (Some u) (truth b at) false s t h = refl
after_take (Some u) (var x) false s t h = refl
after_take (Some u) (cell x i) false s t h = refl
after_take (Some u) (load p a) false s t h = refl
after_take (Some u) (neg a at) false s t h = refl
after_take (Some u) (inv a at) false s t h = refl
after_take (Some u) (cast z b a at) false s t h = refl
after_take (Some u) (bin op a b at) false s t h = refl

-- ---- products

number_by : (i : ℤ) (t : Span) (b : Term) (at : Span) → sum_of (bin o.Mul (num i t) b at) ≡ of_product (product (num i t) b)
number_by (pos k) t (num (pos j) u) at = refl
number_by (pos k) t (num (negsuc j) u) at = refl
number_by (pos k) t (truth c u) at = refl
number_by (pos k) t (var x) at = refl
number_by (pos k) t (cell x i) at = refl
number_by (pos k) t (load p a) at = refl
number_by (pos k) t (neg a u) at = refl
number_by (pos k) t (inv a u) at = refl
number_by (pos k) t (cast z s a u) at = refl
number_by (pos k) t (bin op a b u) at = refl
number_by (negsuc k) t (num (pos j) u) at = refl
number_by (negsuc k) t (num (negsuc j) u) at = refl
number_by (negsuc k) t (truth c u) at = refl
number_by (negsuc k) t (var x) at = refl
number_by (negsuc k) t (cell x i) at = refl
number_by (negsuc k) t (load p a) at = refl
number_by (negsuc k) t (neg a u) at = refl
number_by (negsuc k) t (inv a u) at = refl
number_by (negsuc k) t (cast z s a u) at = refl
number_by (negsuc k) t (bin op a b u) at = refl

var_by : (x : Ref) (b : Term) (at : Span) → sum_of (bin o.Mul (var x) b at) ≡ of_product (product (var x) b)
var_by x (num (pos k) u) at = refl
var_by x (num (negsuc k) u) at = refl
var_by x (truth c u) at = refl
var_by x (var y) at = refl
var_by x (cell y i) at = refl
var_by x (load p a) at = refl
var_by x (neg a u) at = refl
var_by x (inv a u) at = refl
var_by x (cast z s a u) at = refl
var_by x (bin op a b u) at = refl

pub product_so : (a b : Term) (at : Span) → sum_of (bin o.Mul a b at) ≡ of_product (product a b)
product_so (num i t) b at = number_by i t b at
product_so (var x) b at = var_by x b at
product_so (truth c u) (num (pos k) v) at = refl
product_so (truth c u) (num (negsuc k) v) at = refl
product_so (truth c u) (truth f v) at = refl
product_so (truth c u) (var x) at = refl
product_so (truth c u) (cell g j) at = refl
product_so (truth c u) (load h w) at = refl
product_so (truth c u) (neg l v) at = refl
product_so (truth c u) (inv l v) at = refl
product_so (truth c u) (cast n m l v) at = refl
product_so (truth c u) (bin r l t v) at = refl
product_so (cell y i) (num (pos k) v) at = refl
product_so (cell y i) (num (negsuc k) v) at = refl
product_so (cell y i) (truth f v) at = refl
product_so (cell y i) (var x) at = refl
product_so (cell y i) (cell g j) at = refl
product_so (cell y i) (load h w) at = refl
product_so (cell y i) (neg l v) at = refl
product_so (cell y i) (inv l v) at = refl
product_so (cell y i) (cast n m l v) at = refl
product_so (cell y i) (bin r l t v) at = refl
product_so (load p d) (num (pos k) v) at = refl
product_so (load p d) (num (negsuc k) v) at = refl
product_so (load p d) (truth f v) at = refl
product_so (load p d) (var x) at = refl
product_so (load p d) (cell g j) at = refl
product_so (load p d) (load h w) at = refl
product_so (load p d) (neg l v) at = refl
product_so (load p d) (inv l v) at = refl
product_so (load p d) (cast n m l v) at = refl
product_so (load p d) (bin r l t v) at = refl
product_so (neg d u) (num (pos k) v) at = refl
product_so (neg d u) (num (negsuc k) v) at = refl
product_so (neg d u) (truth f v) at = refl
product_so (neg d u) (var x) at = refl
product_so (neg d u) (cell g j) at = refl
product_so (neg d u) (load h w) at = refl
product_so (neg d u) (neg l v) at = refl
product_so (neg d u) (inv l v) at = refl
product_so (neg d u) (cast n m l v) at = refl
product_so (neg d u) (bin r l t v) at = refl
product_so (inv d u) (num (pos k) v) at = refl
product_so (inv d u) (num (negsuc k) v) at = refl
product_so (inv d u) (truth f v) at = refl
product_so (inv d u) (var x) at = refl
product_so (inv d u) (cell g j) at = refl
product_so (inv d u) (load h w) at = refl
product_so (inv d u) (neg l v) at = refl
product_so (inv d u) (inv l v) at = refl
product_so (inv d u) (cast n m l v) at = refl
product_so (inv d u) (bin r l t v) at = refl
product_so (cast z s d u) (num (pos k) v) at = refl
product_so (cast z s d u) (num (negsuc k) v) at = refl
product_so (cast z s d u) (truth f v) at = refl
product_so (cast z s d u) (var x) at = refl
product_so (cast z s d u) (cell g j) at = refl
product_so (cast z s d u) (load h w) at = refl
product_so (cast z s d u) (neg l v) at = refl
product_so (cast z s d u) (inv l v) at = refl
product_so (cast z s d u) (cast n m l v) at = refl
product_so (cast z s d u) (bin r l t v) at = refl
product_so (bin op d e u) (num (pos k) v) at = refl
product_so (bin op d e u) (num (negsuc k) v) at = refl
product_so (bin op d e u) (truth f v) at = refl
product_so (bin op d e u) (var x) at = refl
product_so (bin op d e u) (cell g j) at = refl
product_so (bin op d e u) (load h w) at = refl
product_so (bin op d e u) (neg l v) at = refl
product_so (bin op d e u) (inv l v) at = refl
product_so (bin op d e u) (cast n m l v) at = refl
product_so (bin op d e u) (bin r l t v) at = refl

-- ---- each operation

pub sum_by : (op : BinOp) (a b : Term) (at : Span) → sum_of (bin op a b at) ≡ sum_as (join_of op) a b
sum_by o.OrElse a b at = refl
sum_by o.AndThen a b at = refl
sum_by o.Or a b at = refl
sum_by o.Xor a b at = refl
sum_by o.And a b at = refl
sum_by o.Eq a b at = refl
sum_by o.Ne a b at = refl
sum_by o.Lt a b at = refl
sum_by o.Le a b at = refl
sum_by o.Gt a b at = refl
sum_by o.Ge a b at = refl
sum_by o.LtS a b at = refl
sum_by o.LeS a b at = refl
sum_by o.GtS a b at = refl
sum_by o.GeS a b at = refl
sum_by o.Shl a b at = refl
sum_by o.Shr a b at = refl
sum_by o.Sar a b at = refl
sum_by o.Rol a b at = refl
sum_by o.Ror a b at = refl
sum_by o.Add a b at = refl
sum_by o.Sub a b at = refl
sum_by o.Mul a b at = product_so a b at
sum_by o.Div a b at = refl
sum_by o.Rem a b at = refl
sum_by o.DivS a b at = refl
sum_by o.RemS a b at = refl

pub as_join : (op : BinOp) (j : Join) (a b : Term) (at : Span) → j ≡ join_of op → sum_of (bin op a b at) ≡ sum_as j a b
as_join op j a b at e = sum_by op a b at ∙ ap (λ x. sum_as x a b) (sym e)

-- ---- what is added

none_first : (m : ℤ) → m ≡ pos 0 +ℤ m
none_first m = omega (arith, ints)

other_way : (m n k : ℤ) → k ≡ m +ℤ n → k ≡ n +ℤ m
other_way m n k e = omega (arith, ints, e)

pub number_sum : (ps : List Ref) (ss : List (Ref × ℕ)) (m n k : ℤ) → k ≡ m +ℤ n
    → Some (record { plain = ps; scaled = ss; more = k }) ≡ joined (Some (record { plain = []; scaled = []; more = n })) (Some (record { plain = ps; scaled = ss; more = m }))
number_sum ps ss m n k e = ap Some (same_sum ps ps ss ss k (n +ℤ m) refl refl (other_way m n k e))

pub var_sum : (vs us : List (Bor Var)) (v : Bor Var) (ss : List (Ref × ℕ)) (m : ℤ) → us ≡ vs ++ v ∷ []
    → Some (record { plain = map (λ x. ref_of x.now) (reverse us); scaled = ss; more = m })
    ≡ joined (Some (record { plain = ref_of v.now ∷ []; scaled = []; more = pos 0 })) (Some (record { plain = map (λ x. ref_of x.now) (reverse vs); scaled = ss; more = m }))
var_sum vs us v ss m e =
    ap Some (same_sum (map (λ x. ref_of x.now) (reverse us)) (ref_of v.now ∷ map (λ x. ref_of x.now) (reverse vs)) ss ss m (pos 0 +ℤ m)
    (ap (λ xs. map (λ x. ref_of x.now) (reverse xs)) e ∙ ap (map (λ x. ref_of x.now)) (reverse-append vs (v ∷ []))) refl (none_first m))

pub scaled_sum : (ps : List Ref) (vs us : List Scaled) (v : Scaled) (m : ℤ) → us ≡ vs ++ v ∷ []
    → Some (record { plain = ps; scaled = map scaled_of (reverse us); more = m })
    ≡ joined (Some (record { plain = []; scaled = scaled_of v ∷ []; more = pos 0 })) (Some (record { plain = ps; scaled = map scaled_of (reverse vs); more = m }))
scaled_sum ps vs us v m e =
    ap Some (same_sum ps ps (map scaled_of (reverse us)) (scaled_of v ∷ map scaled_of (reverse vs)) m (pos 0 +ℤ m)
    refl (ap (λ xs. map scaled_of (reverse xs)) e ∙ ap (map scaled_of) (reverse-append vs (v ∷ []))) (none_first m))

-- ---- an operation at a place of the left side

module _ (rest : Expr) (op : BinOp) (a b : Expr) (at : Span) (l r : Expr) (q : Option Bool) (s t : Sum)
    (h : rest ≡ expr.Bin op a b at) (i : l ≡ a) (j : r ≡ b)
    (k : (at : Span) → behind q (sum_of (term_of l)) t ≡ joined (sum_of (bin op (term_of l) (term_of r) at)) (Some s)) where
  term_is : term_of rest ≡ bin op (term_of l) (term_of r) at
  term_is = term_bin rest op a b at h ∙ ap (λ x. bin op (term_of x) (term_of b) at) (sym i) ∙ ap (λ x. bin op (term_of l) (term_of x) at) (sym j)

  whole : behind q (sum_of (term_of l)) t ≡ joined (sum_of (term_of rest)) (Some s)
  whole = k at ∙ ap (λ x. joined (sum_of x) (Some s)) (sym term_is)

  pub answer_there : (z : Bool) → q ≡ Some z → if_sum z t ≡ joined (sum_of (term_of rest)) (Some s)
  answer_there z e = ap (λ x. behind x (sum_of (term_of l)) t) (sym e) ∙ whole

  pub more_left : (n : Expr) → n ≡ a → q ≡ None → joined (sum_of (term_of n)) (Some t) ≡ joined (sum_of (term_of rest)) (Some s)
  more_left n e f = ap (λ x. joined (sum_of (term_of x)) (Some t)) (e ∙ sym i) ∙ ap (λ x. behind x (sum_of (term_of l)) t) (sym f) ∙ whole

pub with_more : (ps : List Ref) (ss : List (Ref × ℕ)) (m n : ℤ) → m ≡ n → ◌≡◌ {A = Option Sum} (Some (record { plain = ps; scaled = ss; more = m })) (Some (record { plain = ps; scaled = ss; more = n }))
with_more ps ss m n e = ap (λ x. Some (record { plain = ps; scaled = ss; more = x })) e
