-- A table that grows.
use Rattle.std.proofs.Common.{◌≡◌, ℕ, suc, ◌-◌, ◌<◌, ◌≤◌, List, [], ◌∷◌, ◌++◌, length, replicate, sym, ap, ◌∙◌, arith, append_assoc, append-nil, length-append}
use Rattle.x64_assemble.specs.InnerTables.{grown}

pub grown_more : (t : List ℕ) (l : ℕ) → length t ≤ l → grown (t ++ 0 ∷ []) l ≡ grown t l
unfolding grown
grown_more t l le =
    let more : suc l - length t ≡ suc (suc l - length (t ++ 0 ∷ [])) = omega (arith, le, length-append t (0 ∷ [])) in
    append_assoc t (0 ∷ []) (replicate (suc l - length (t ++ 0 ∷ [])) 0) ∙ ap (λ n. t ++ replicate n 0) (sym more)

pub grown_enough : (t : List ℕ) (l : ℕ) → l < length t → grown t l ≡ t
unfolding grown
grown_enough t l lt = let none : suc l - length t ≡ 0 = omega (arith, lt) in ap (λ n. t ++ replicate n 0) none ∙ append-nil t
