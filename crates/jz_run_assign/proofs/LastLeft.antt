-- The last left side.
use Rattle.std.proofs.Common.{◌≡◌, ◌-◌, suc, List, [], ◌∷◌, refl, ap, sym, ◌∙◌, length, arith}
use Rattle.std.specs.Prelude.{slice_get}
use Rattle.jz_tree.specs.declared.stmt.Lval.{Lval}
use Rattle.jz_meaning.specs.Assignments.{last_left}

pub last_is : (ds : List Lval) → slice_get ds (length ds - 1) ≡ last_left ds
last_is [] = refl
last_is (d ∷ []) = refl
last_is (d ∷ e ∷ ds) =
    let two : length (d ∷ e ∷ ds) - 1 ≡ suc (length ds) = omega arith in
    let one : length (e ∷ ds) - 1 ≡ length ds = omega arith in
    ap (slice_get (d ∷ e ∷ ds)) two ∙ ap (slice_get (e ∷ ds)) (sym one) ∙ last_is (e ∷ ds)
