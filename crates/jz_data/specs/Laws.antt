-- What laws say of a fact.
use Rattle.std.specs.Prelude.{◌≡◌}

-- it holds of one value at most
abbrev pub AtMostOne : {A : Type 0} → (A → Type 0) → Type 0
AtMostOne {A} P = (x y : A) → P x → P y → x ≡ y

-- where one holds of something, the other holds of nothing
abbrev pub NeverBoth : {A B : Type 0} → (A → Type 0) → (B → Type 0) → Type 0
NeverBoth {A} {B} P Q = (x : A) (y : B) → P x → Q y → ⊥
