-- Sums before others.
use Rattle.std.proofs.Common.{◌≡◌, ℕ, ◌+◌, ◌-◌, ◌%◌, ◌^◌, ◌<◌, List, [], ◌∷◌, ◌++◌, Option, Some, None, refl, sym, ap, ◌∙◌, subst, arith, append_assoc, ℤ, pos, ◌+ℤ◌, ◌-ℤ◌}
use Rattle.std.specs.Prelude.{IfSome}
use Rattle.jz_words.specs.declared.size.Size.TheVariants.{S64}
use Rattle.jz_words.specs.Sizes.{signed}
use Rattle.jz_words.specs.Words.{residue}
use Rattle.jz_words.specs.Readings.{reading_of}
use Rattle.jz_words.proofs.Residues.{residue_below}
use Rattle.jz_tree.specs.Span.{Span}
use Rattle.jz_tree.specs.declared.expr.BinOp.TheVariants as op
use Rattle.jz_tree.specs.declared.expr.Expr.{Expr}
use Rattle.jz_tree.specs.declared.expr.Expr.TheVariants as expr
use Rattle.jz_tree.specs.declared.expr.Var.{Var}
use Rattle.jz_meaning.specs.Values.{key_of, ref_of}
use Rattle.jz_homes.specs.Homes.{Homes, in_register}
use Rattle.jz_homes.specs.Sums.{Sum, sum_of, a_number, a_variable, a_multiple, multiple_of, added, less, IsAddress, of_base, of_both, of_swapped, IsIndex, constant, variable}
use Rattle.jz_homes.proofs.SumValues.{residue_add, residue_sub}
use Rattle.jz_operands.specs.declared.sums.Term.{Term}
use Rattle.jz_operands.specs.declared.sums.Found.TheVariants.{Nothing, One, Two}
use Rattle.jz_operands.specs.declared.sums.Terms.{Terms}
use Rattle.jz_operands.specs.Refusals.{FindsOr}
use Rattle.jz_operands.specs.SumTerms.{pair_of, pairs_of, IsWhole}
use Rattle.jz_operands.specs.InnerSums.{SumsBefore, IsAddressOf, IsBased, base_first, base_second, IsIndexOf}

pub for_some : {A : Type 0} {P Q : A → Type 0} (o : Option A) → ((x : A) → P x → Q x) → IfSome o P → IfSome o Q
for_some None f h = h
for_some (Some x) f h = f x h

pub for_found : {A : Type 0} {P R : A → Type 0} {Q S : Type 0} (o : Option A) → ((x : A) → P x → R x) → (Q → S) → FindsOr o P Q → FindsOr o R S
for_found None f g h = g h
for_found (Some x) f g h = f x h

-- where a call hands nothing on
pub none_or : {A : Type 0} {Q : Type 0} (P : A → Type 0) (o : Option A) → o ≡ None → Q → FindsOr o P Q
none_or P None e q = q
none_or P (Some x) e q = absurd cc

pub number_before : {home : Homes} (i : ℤ) (at : Span) (rest all : Terms) → all.found ≡ rest.found → all.number ≡ (residue S64 i + rest.number) % 2 ^ 64 → SumsBefore home (expr.Num i at) rest all
number_before i at rest all e f = record { sum = sum_of [] i; is = a_number i at; joins = record { terms = ap pairs_of e; number = omega (arith, f) } }

pub variable_before : {home : Homes} (x : Var) (n : ℕ) (rest all : Terms) → home (key_of (ref_of x)) ≡ Some (in_register n S64) → pairs_of all.found ≡ (n, 1) ∷ pairs_of rest.found → all.number ≡ rest.number → SumsBefore home (expr.Var x) rest all
variable_before x n rest all h e f = record { sum = sum_of ((n, 1) ∷ []) (pos 0); is = a_variable x n h; joins = record { terms = e; number = omega (arith, f) } }

pub multiple_before : {home : Homes} (x : Var) (n : ℕ) (k : ℤ) (at here : Span) (rest all : Terms) → home (key_of (ref_of x)) ≡ Some (in_register n S64) → pairs_of all.found ≡ (n, residue S64 k) ∷ pairs_of rest.found → all.number ≡ rest.number
    → SumsBefore home (expr.Bin op.Mul (expr.Var x) (expr.Num k at) here) rest all
multiple_before x n k at here rest all h e f = record { sum = sum_of ((n, residue S64 k) ∷ []) (pos 0); is = a_multiple x n k at here h; joins = record { terms = e; number = omega (arith, f) } }

pub before_multiple : {home : Homes} (x : Var) (n : ℕ) (k : ℤ) (at here : Span) (rest all : Terms) → home (key_of (ref_of x)) ≡ Some (in_register n S64) → pairs_of all.found ≡ (n, residue S64 k) ∷ pairs_of rest.found → all.number ≡ rest.number
    → SumsBefore home (expr.Bin op.Mul (expr.Num k at) (expr.Var x) here) rest all
before_multiple x n k at here rest all h e f = record { sum = sum_of ((n, residue S64 k) ∷ []) (pos 0); is = multiple_of x n k at here h; joins = record { terms = e; number = omega (arith, f) } }

add_numbers : (x y z a b c : ℕ) → a % 2 ^ 64 ≡ (x + b) % 2 ^ 64 → b % 2 ^ 64 ≡ (y + c) % 2 ^ 64 → z ≡ (x + y) % 2 ^ 64 → a % 2 ^ 64 ≡ (z + c) % 2 ^ 64
add_numbers x y z a b c e f g = omega (arith, e, f, g)

pub added_before : {home : Homes} {a b : Expr} (here : Span) (rest mid all : Terms) → SumsBefore home a mid all → SumsBefore home b rest mid → SumsBefore home (expr.Bin op.Add a b here) rest all
added_before here rest mid all p q = record {
  sum = sum_of (p.sum.terms ++ q.sum.terms) (p.sum.number +ℤ q.sum.number);
  is = added here p.is q.is;
  joins = record {
    terms = p.joins.terms ∙ ap (λ l. p.sum.terms ++ l) q.joins.terms ∙ sym (append_assoc p.sum.terms q.sum.terms (pairs_of rest.found));
    number = add_numbers (residue S64 p.sum.number) (residue S64 q.sum.number) (residue S64 (p.sum.number +ℤ q.sum.number)) all.number mid.number rest.number p.joins.number q.joins.number (residue_add p.sum.number q.sum.number);
  };
}

less_numbers : (x y z a b c : ℕ) → y < 2 ^ 64 → a % 2 ^ 64 ≡ (x + b) % 2 ^ 64 → b ≡ (c + 2 ^ 64 - y) % 2 ^ 64 → z ≡ (x + 2 ^ 64 - (y + 0)) % 2 ^ 64 → a % 2 ^ 64 ≡ (z + c) % 2 ^ 64
less_numbers x y z a b c h e f g = omega (arith, h, e, f, g)

pub less_before : {home : Homes} {a : Expr} (i : ℤ) (at here : Span) (rest mid all : Terms) → SumsBefore home a mid all → mid.found ≡ rest.found → mid.number ≡ (rest.number + 2 ^ 64 - residue S64 i) % 2 ^ 64
    → SumsBefore home (expr.Bin op.Sub a (expr.Num i at) here) rest all
less_before i at here rest mid all p e f = record {
  sum = sum_of p.sum.terms (p.sum.number -ℤ i);
  is = less i at here p.is;
  joins = record {
    terms = p.joins.terms ∙ ap (λ l. p.sum.terms ++ pairs_of l) e;
    number = less_numbers (residue S64 p.sum.number) (residue S64 i) (residue S64 (p.sum.number -ℤ i)) all.number mid.number rest.number (residue_below S64 i) p.joins.number f (residue_sub p.sum.number i);
  };
}

-- ---- addresses and indexes: no term stands behind
whole : (a r m : ℕ) → a % 2 ^ 64 ≡ (r + m) % 2 ^ 64 → m ≡ 0 → r < 2 ^ 64 → a % 2 ^ 64 ≡ r
whole a r m e f h = omega (arith, e, f, h)

nil_end : {A : Type 0} (xs : List A) → xs ++ [] ≡ xs
nil_end [] = refl
nil_end (x ∷ xs) = ap (λ l. x ∷ l) (nil_end xs)

pub whole_sum : {home : Homes} {e : Expr} (rest all : Terms) → SumsBefore home e rest all → pairs_of rest.found ≡ [] → rest.number ≡ 0 → IsWhole home e all
whole_sum rest all h e f = record {
  sum = h.sum;
  is = h.is;
  terms = h.joins.terms ∙ ap (λ l. h.sum.terms ++ l) e ∙ nil_end h.sum.terms;
  number = whole all.number (residue S64 h.sum.number) rest.number h.joins.number f (residue_below S64 h.sum.number);
}

pub reading_is : (d : ℤ) (n : ℕ) (i : ℤ) → d ≡ signed S64 (n % 2 ^ 64) → n % 2 ^ 64 ≡ residue S64 i → d ≡ reading_of S64 i
reading_is d n i e f = e ∙ ap (signed S64) f

pub sum_is : (s : Sum) (ts : List (ℕ × ℕ)) → ts ≡ s.terms → s ≡ sum_of ts s.number
sum_is s ts e = λ i. record { terms = sym e i; number = s.number }

pub base_address : {home : Homes} {e : Expr} (all : Terms) (t : Term) (d : ℤ) → IsWhole home e all → all.found ≡ One t → t.factor ≡ 1 → d ≡ signed S64 (all.number % 2 ^ 64) → IsAddressOf home e (record { base = Some t.variable; index = None; disp = d })
base_address all t d h f one e =
    let ts : (t.variable, 1) ∷ [] ≡ h.sum.terms = ap (λ k. (t.variable, k) ∷ []) (sym one) ∙ ap pairs_of (sym f) ∙ h.terms in
    record {
      sum = h.sum;
      is = h.is;
      address = subst (λ x. IsAddress h.sum (record { base = Some t.variable; index = None; disp = x })) (sym (reading_is d all.number h.sum.number e h.number))
          (subst (λ s. IsAddress s (record { base = Some t.variable; index = None; disp = reading_of S64 h.sum.number })) (sym (sum_is h.sum ((t.variable, 1) ∷ []) ts)) (of_base t.variable h.sum.number));
    }

pub first_based : (t u : Term) (k : ℕ) → t.factor ≡ 1 → k ≡ u.factor → IsBased t u t.variable u.variable k
first_based t u k e f = subst (IsBased t u t.variable u.variable) (sym f) (base_first e)

pub second_based : (t u : Term) (k : ℕ) → (t.factor ≡ 1 → ⊥) → u.factor ≡ 1 → k ≡ t.factor → IsBased t u u.variable t.variable k
second_based t u k ne e f = subst (IsBased t u u.variable t.variable) (sym f) (base_second ne e)

both_by : (t u : Term) (b j k : ℕ) (i : ℤ) → IsBased t u b j k → IsAddress (sum_of (pair_of t ∷ pair_of u ∷ []) i) (record { base = Some b; index = Some (j, k); disp = reading_of S64 i })
both_by t u b j k i (base_first e) = subst (λ f. IsAddress (sum_of ((t.variable, f) ∷ pair_of u ∷ []) i) (record { base = Some t.variable; index = Some (u.variable, u.factor); disp = reading_of S64 i })) (sym e) (of_both t.variable u.variable u.factor i)
both_by t u b j k i (base_second ne e) = subst (λ f. IsAddress (sum_of (pair_of t ∷ (u.variable, f) ∷ []) i) (record { base = Some u.variable; index = Some (t.variable, t.factor); disp = reading_of S64 i })) (sym e) (of_swapped u.variable t.variable t.factor i ne)

pub both_address : {home : Homes} {e : Expr} (all : Terms) (t u : Term) (b j k : ℕ) (d : ℤ) → IsWhole home e all → all.found ≡ Two t u → IsBased t u b j k → d ≡ signed S64 (all.number % 2 ^ 64)
    → IsAddressOf home e (record { base = Some b; index = Some (j, k); disp = d })
both_address all t u b j k d h f based e =
    let ts : pair_of t ∷ pair_of u ∷ [] ≡ h.sum.terms = ap pairs_of (sym f) ∙ h.terms in
    record {
      sum = h.sum;
      is = h.is;
      address = subst (λ x. IsAddress h.sum (record { base = Some b; index = Some (j, k); disp = x })) (sym (reading_is d all.number h.sum.number e h.number))
          (subst (λ s. IsAddress s (record { base = Some b; index = Some (j, k); disp = reading_of S64 h.sum.number })) (sym (sum_is h.sum (pair_of t ∷ pair_of u ∷ []) ts)) (both_by t u b j k h.sum.number based));
    }

pub constant_index : {home : Homes} {e : Expr} (all : Terms) (d : ℤ) → IsWhole home e all → all.found ≡ Nothing → d ≡ signed S64 (all.number % 2 ^ 64) → IsIndexOf home e None d
constant_index all d h f e =
    let ts : [] ≡ h.sum.terms = ap pairs_of (sym f) ∙ h.terms in
    record {
      sum = h.sum;
      is = h.is;
      index = subst (λ x. IsIndex h.sum None x) (sym (reading_is d all.number h.sum.number e h.number)) (subst (λ s. IsIndex s None (reading_of S64 h.sum.number)) (sym (sum_is h.sum [] ts)) (constant h.sum.number));
    }

pub variable_index : {home : Homes} {e : Expr} (all : Terms) (t : Term) (d : ℤ) → IsWhole home e all → all.found ≡ One t → t.factor ≡ 1 → d ≡ signed S64 (all.number % 2 ^ 64) → IsIndexOf home e (Some t.variable) d
variable_index all t d h f one e =
    let ts : (t.variable, 1) ∷ [] ≡ h.sum.terms = ap (λ k. (t.variable, k) ∷ []) (sym one) ∙ ap pairs_of (sym f) ∙ h.terms in
    record {
      sum = h.sum;
      is = h.is;
      index = subst (λ x. IsIndex h.sum (Some t.variable) x) (sym (reading_is d all.number h.sum.number e h.number))
          (subst (λ s. IsIndex s (Some t.variable) (reading_of S64 h.sum.number)) (sym (sum_is h.sum ((t.variable, 1) ∷ []) ts)) (variable t.variable h.sum.number));
    }
