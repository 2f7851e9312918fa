-- Addresses of LEA.
use Rattle.std.proofs.Common.{◌≡◌, ℕ, ◌≤◌, ◌%◌, ◌^◌, Bool, false, List, [], ◌∷◌, length, Option, Some, None, refl, sym, ap, ◌∙◌, subst, arith, ℤ}
use Rattle.std.specs.Prelude.{All, IsTrue}
use Rattle.jz_words.specs.declared.size.Size.{Size}
use Rattle.jz_words.specs.declared.size.Size.TheVariants.{S64}
use Rattle.jz_words.specs.Readings.{reading_of, fits_bytes}
use Rattle.jz_words.specs.Sizes.{signed}
use Rattle.jz_tree.specs.declared.expr.Expr.{Expr}
use Rattle.jz_tree.specs.declared.stmt.Lval.{Lval}
use Rattle.jz_operations.specs.declared.operation.Address.{Address}
use Rattle.jz_operations.specs.declared.operation.Arg.TheVariants as arg
use Rattle.jz_operations.specs.declared.operation.Action.{Action}
use Rattle.jz_operations.specs.declared.operation.Action.TheVariants as action
use Rattle.jz_encodable.specs.Encodable.{CanEncode}
use Rattle.jz_change.specs.declared.change.Numbers.{Numbers}
use Rattle.jz_change.specs.declared.change.Numbers.TheVariants.{These}
use Rattle.jz_homes.specs.Homes.{Homes}
use Rattle.jz_homes.specs.Sums.{Sum, IsAddress}
use Rattle.jz_homes.specs.Operands.{silent, IsDest}
use Rattle.jz_flag_rows.specs.Instructions.{IsLeaAddress, with_base, a_number, an_index}
use Rattle.jz_one_flag_row.specs.Forms.{IsLea}
use Rattle.jz_operands.specs.declared.sums.Term.{Term}
use Rattle.jz_operands.specs.declared.sums.Terms.{Terms}
use Rattle.jz_operands.specs.declared.sums.Found.TheVariants.{Nothing, One, Two}
use Rattle.jz_operands.specs.SumTerms.{pair_of, pairs_of, IsWhole, NeverWhole}
use Rattle.jz_operands.specs.Refusals.{FindsOr, is_scale, HasScale, NeverAddress}
use Rattle.jz_operands.specs.InnerSums.{IsAddressOf}
use Rattle.jz_operands.proofs.SumLemmas.{for_found, reading_is, sum_is}
use Rattle.jz_operands.proofs.SumRefusals.{reading_of_whole, terms_of_whole}
use Rattle.jz_rows.proofs.FieldLemmas.{lea_fields, only_can}
use Rattle.jz_instructions.specs.InnerRows.{IsLeaOf, NeverLea, NeverFree}

-- ---- addresses without a base
pub number_address : (home : Homes) (e : Expr) (all : Terms) (d : ℤ) → IsWhole home e all → all.found ≡ Nothing → d ≡ signed S64 (all.number % 2 ^ 64) → IsLeaOf home e (record { base = None; index = None; disp = d })
number_address home e all d h f g =
    let ts : [] ≡ h.sum.terms = ap pairs_of (sym f) ∙ h.terms in
    record {
      sum = h.sum;
      is = h.is;
      address = subst (λ x. IsLeaAddress h.sum (record { base = None; index = None; disp = x })) (sym (reading_is d all.number h.sum.number g h.number))
          (subst (λ s. IsLeaAddress s (record { base = None; index = None; disp = reading_of S64 h.sum.number })) (sym (sum_is h.sum [] ts)) (a_number h.sum.number));
    }

pub index_address : (home : Homes) (e : Expr) (all : Terms) (t : Term) (k : ℕ) (d : ℤ) → IsWhole home e all → all.found ≡ One t → (t.factor ≡ 1 → ⊥) → k ≡ t.factor → d ≡ signed S64 (all.number % 2 ^ 64) → IsLeaOf home e (record { base = None; index = Some (t.variable, k); disp = d })
index_address home e all t k d h f other same g =
    let ts : pair_of t ∷ [] ≡ h.sum.terms = ap pairs_of (sym f) ∙ h.terms in
    record {
      sum = h.sum;
      is = h.is;
      address = subst (λ x. IsLeaAddress h.sum (record { base = None; index = Some (t.variable, k); disp = x })) (sym (reading_is d all.number h.sum.number g h.number))
          (subst (λ n. IsLeaAddress h.sum (record { base = None; index = Some (t.variable, n); disp = reading_of S64 h.sum.number })) (sym same)
          (subst (λ s. IsLeaAddress s (record { base = None; index = Some (t.variable, t.factor); disp = reading_of S64 h.sum.number })) (sym (sum_is h.sum (pair_of t ∷ []) ts)) (an_index t.variable t.factor h.sum.number other)));
    }

none_few : (n : ℕ) → n ≡ 0 → n ≤ 2
none_few n e = omega (arith, e)

one_few : (n : ℕ) → n ≡ 1 → n ≤ 2
one_few n e = omega (arith, e)

free_few : (t : Sum) (m : Address) → IsLeaAddress t m → (IsAddress t m → ⊥) → length t.terms ≤ 2
free_few t m (with_base h) none = absurd (none h)
free_few t m (a_number i) none = none_few 0 refl
free_few t m (an_index j k i other) none = one_few (length {A = ℕ × ℕ} ((j, k) ∷ [])) refl

free_disp : (t : Sum) (m : Address) → IsLeaAddress t m → (IsAddress t m → ⊥) → m.disp ≡ reading_of S64 t.number
free_disp t m (with_base h) none = absurd (none h)
free_disp t m (a_number i) none = refl
free_disp t m (an_index j k i other) none = refl

no_fit : (b : Bool) → b ≡ false → IsTrue b → ⊥
no_fit b e h = absurd cc

one_pair : (x y : ℕ × ℕ) → x ∷ [] ≡ y ∷ [] → x ≡ y
one_pair x y e = cc

same_factor : (u : Term) (j k : ℕ) → pair_of u ∷ [] ≡ (j, k) ∷ [] → u.factor ≡ k
same_factor u j k e = ap (λ (p : ℕ × ℕ). p.1) (one_pair (pair_of u) (j, k) e)

-- a sum of one term with the factor 1 has a base
one_based : (t : Sum) (m : Address) (u : Term) → pair_of u ∷ [] ≡ t.terms → u.factor ≡ 1 → IsLeaAddress t m → (IsAddress t m → ⊥) → ⊥
one_based t m u e one (with_base h) none = none h
one_based t m u e one (a_number i) none = absurd cc
one_based t m u e one (an_index j k i other) none = other (sym (same_factor u j k e) ∙ one)

factor_of : (t : Sum) (m : Address) (u : Term) → pair_of u ∷ [] ≡ t.terms → is_scale u.factor ≡ false → IsLeaAddress t m → (IsAddress t m → ⊥) → HasScale m.index → ⊥
factor_of t m u e small (with_base h) none scale = none h
factor_of t m u e small (a_number i) none scale = absurd cc
factor_of t m u e small (an_index j k i other) none scale = no_fit (is_scale k) (ap is_scale (sym (same_factor u j k e)) ∙ small) scale

two_based : (t : Sum) (m : Address) (u v : Term) → pair_of u ∷ pair_of v ∷ [] ≡ t.terms → IsLeaAddress t m → (IsAddress t m → ⊥) → ⊥
two_based t m u v e (with_base h) none = none h
two_based t m u v e (a_number i) none = absurd cc
two_based t m u v e (an_index j k i other) none = absurd cc

module _ (home : Homes) (e : Expr) where
  pub no_sum_free : NeverWhole home e → NeverFree home e
  no_sum_free none t m h is other fields = none t h (free_few t m is other)

  module _ (all : Terms) (w : IsWhole home e all) where
    pub no_free_disp : fits_bytes 4 (signed S64 (all.number % 2 ^ 64)) ≡ false → NeverFree home e
    no_free_disp none t m h is other fields = no_fit (fits_bytes 4 m.disp) (ap (fits_bytes 4) (free_disp t m is other ∙ sym (reading_of_whole home e all t w h)) ∙ none) fields.0

    pub no_free_base : (u : Term) → all.found ≡ One u → u.factor ≡ 1 → NeverFree home e
    no_free_base u f one t m h is other fields = one_based t m u (ap pairs_of (sym f) ∙ terms_of_whole home e all t w h) one is other

    pub no_free_scale : (u : Term) → all.found ≡ One u → is_scale u.factor ≡ false → NeverFree home e
    no_free_scale u f small t m h is other fields = factor_of t m u (ap pairs_of (sym f) ∙ terms_of_whole home e all t w h) small is other fields.1

    pub no_free_two : (u v : Term) → all.found ≡ Two u v → NeverFree home e
    no_free_two u v f t m h is other fields = two_based t m u v (ap pairs_of (sym f) ∙ terms_of_whole home e all t w h) is other

  -- ---- with a base or without
  pub based_is : (m : Address) → IsAddressOf home e m → IsLeaOf home e m
  based_is m h = record { sum = h.sum; is = h.is; address = with_base h.address }

  pub lea_finds : (o : Option Address) → NeverAddress home e → FindsOr o (IsLeaOf home e) (NeverFree home e) → FindsOr o (IsLeaOf home e) (NeverLea home e)
  lea_finds o none h = for_found o (λ m is. is) (λ free t m s is fields. free t m s is (λ based. none t m s based fields.0 fields.1) fields) h

-- ---- the row
module _ (home : Homes) (d : Lval) (a : Expr) where
  abbrev Never : Type 0
  Never = (acts : List Action) (items : List Numbers) → IsLea home d a acts items → All CanEncode acts → ⊥

  pub no_lea_address : NeverLea home a → Never
  no_lea_address none acts items h can =
      none h.sum h.found h.is_sum h.is_address (lea_fields h.v h.found (only_can (action.Lea h.v h.found) (subst (All CanEncode) h.code can)))

  pub no_lea_register : (z : Size) → z ≡ S64 → ((n : ℕ) → IsDest home z d (arg.Var n) silent → ⊥) → Never
  no_lea_register z is none acts items h can = none h.v (subst (λ y. IsDest home y d (arg.Var h.v) silent) (sym is) h.dest)

  pub lea_is : (z : Size) (m : Address) (n : ℕ) → z ≡ S64 → IsLeaOf home a m → IsDest home z d (arg.Var n) silent → IsLea home d a (action.Lea n m ∷ []) (These [] ∷ [])
  lea_is z m n is h dest = record {
    sum = h.sum;
    found = m;
    v = n;
    is_sum = h.is;
    is_address = h.address;
    dest = subst (λ y. IsDest home y d (arg.Var n) silent) is dest;
    code = refl;
    shown = refl;
  }
