-- Numbers of variables that fit a row.
use Rattle.std.proofs.Common.{◌≡◌, ℕ, ◌+◌, ◌/◌, ◌<◌, ◌≤◌, List, length, get_or, sym, subst, arith}
use Rattle.std.specs.List.{All}
use Rattle.std.proofs.lemmas.List.Elements.{All-get_or}
use Rattle.jz_ir.specs.declared.code.Op.{Op}
use Rattle.jz_ir.specs.declared.code.Need.{Need}
use Rattle.jz_ir.specs.Places.{Below}
use Rattle.jz_live.proofs.Backward.{below_wide}

pub below_at : (ops : List Op) (vars m i : ℕ) (o : Op) → All (Below vars) ops → i < length ops → o ≡ get_or ops i o → vars ≤ m → Below m o
below_at ops vars m i o all lt is le = below_wide vars m o le (subst (Below vars) (sym is) (All-get_or (Below vars) ops i o lt all))

pub wide_at : (rows : List (List ℕ)) (n i : ℕ) (r : List ℕ) → All (λ r. length r ≡ n) rows → i < length rows → r ≡ get_or rows i r → length r ≡ n
wide_at rows n i r all lt is = subst (λ r. length r ≡ n) (sym is) (All-get_or (λ r. length r ≡ n) rows i r lt all)

pub need_below : (vars : ℕ) (xs ys : List Need) (d : Need) (i n : ℕ) → xs ≡ ys → All (λ k. k.variable < vars) ys → i < length ys → n ≡ vars / 64 + 1 → (get_or xs i d).variable / 64 < n
need_below vars xs ys d i n e all lt w =
    let h : (get_or ys i d).variable < vars = all i d lt in
    subst (λ x. (get_or x i d).variable / 64 < n) (sym e) (omega (arith, h, w))
