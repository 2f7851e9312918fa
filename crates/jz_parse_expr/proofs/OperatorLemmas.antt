-- The levels of operators.
use Rattle.std.proofs.Common.{◌≡◌, ℕ, zero, suc, [], ◌∷◌, refl, codes}
use Rattle.jz_grammar.specs.Token.{Token}
use Rattle.jz_grammar.specs.Kinds.{sign, is_in}
use Rattle.jz_parse_expr.specs.Operators.{ops_of}

pub last_level : (k : ℕ) (t : Token) → (k ≡ 0 → ⊥) → (k ≡ 1 → ⊥) → (k ≡ 2 → ⊥) → (k ≡ 3 → ⊥) → (k ≡ 4 → ⊥) → (k ≡ 5 → ⊥) → (k ≡ 6 → ⊥) → (k ≡ 7 → ⊥) → (k ≡ 8 → ⊥) → is_in (ops_of k) t ≡ is_in (sign (codes "||") ∷ []) t
last_level zero t a b c d e f g h i = absurd (a refl)
last_level (suc zero) t a b c d e f g h i = absurd (b refl)
last_level (suc (suc zero)) t a b c d e f g h i = absurd (c refl)
last_level (suc (suc (suc zero))) t a b c d e f g h i = absurd (d refl)
last_level (suc (suc (suc (suc zero)))) t a b c d e f g h i = absurd (e refl)
last_level (suc (suc (suc (suc (suc zero))))) t a b c d e f g h i = absurd (f refl)
last_level (suc (suc (suc (suc (suc (suc zero)))))) t a b c d e f g h i = absurd (g refl)
last_level (suc (suc (suc (suc (suc (suc (suc zero))))))) t a b c d e f g h i = absurd (h refl)
last_level (suc (suc (suc (suc (suc (suc (suc (suc zero)))))))) t a b c d e f g h i = absurd (i refl)
last_level (suc (suc (suc (suc (suc (suc (suc (suc (suc k))))))))) t a b c d e f g h i = refl
