-- Multiples by what is left of a division.
use Rattle.std.proofs.Common.{◌≡◌, ℕ, ◌+◌, ◌*◌, ◌/◌, ◌%◌, nat_eq, Option, Some, sym, ap, ◌∙◌, subst, arith}
use Rattle.std.specs.Prelude.{IsTrue}
use Rattle.std.proofs.Math.Nat.{div-add-mod, mul_comm, mul-mod_left}
use Rattle.std.proofs.lemmas.Bool.{eqb-true, eq-eqb}
use Rattle.jz_preconditions.specs.Meeting.{IsMultiple}

times_is : (w m : ℕ) → w % m ≡ 0 → (k : ℕ) × (w ≡ k * m)
times_is w m h =
    let e : m * (w / m) + w % m ≡ w = div-add-mod w m in
    let f : w / m * m ≡ m * (w / m) = mul_comm (w / m) m in
    (w / m, omega (arith, e, f, h))

times_back : (w m k : ℕ) → w ≡ k * m → w % m ≡ 0
times_back w m k e = ap (λ z. z % m) e ∙ mul-mod_left k m

pub multiple_so : (o : Option ℕ) (w m : ℕ) → o ≡ Some w → (IsTrue (nat_eq (w % m) 0) → IsMultiple o m) × (IsMultiple o m → IsTrue (nat_eq (w % m) 0))
multiple_so o w m e = (
  λ t. subst (λ z. IsMultiple z m) (sym e) (times_is w m (eqb-true (w % m) 0 t)),
  λ h. (let k : IsMultiple (Some w) m = subst (λ z. IsMultiple z m) e h in eq-eqb (w % m) 0 (times_back w m k.0 k.1)),
)
