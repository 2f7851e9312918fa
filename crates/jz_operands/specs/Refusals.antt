-- What is not found.
use Rattle.std.specs.Prelude.{◌≡◌, ◌+◌, ◌≤◌, ℕ, ◌==◌, Bool, ◌||◌, IsTrue, Option, Some, None, ⊤, ℤ}
use Rattle.jz_words.specs.declared.size.Size.{Size}
use Rattle.jz_words.specs.Readings.{fits_bytes}
use Rattle.jz_tree.specs.declared.expr.Expr.{Expr}
use Rattle.jz_tree.specs.declared.stmt.Lval.{Lval}
use Rattle.jz_operations.specs.declared.operation.Address.{Address}
use Rattle.jz_operations.specs.declared.operation.Arg.{Arg}
use Rattle.jz_operations.specs.declared.operation.Arg.TheVariants as arg
use Rattle.jz_homes.specs.Homes.{Home, Homes, in_cell}
use Rattle.jz_homes.specs.Sums.{Sum, IsSum, IsAddress, IsIndex}
use Rattle.jz_homes.specs.Operands.{Leaks, IsArg, IsDest}

-- P holds of what is found, or nothing is found and Q holds
abbrev pub FindsOr : {A : Type 0} → Option A → (A → Type 0) → Type 0 → Type 0
FindsOr None P Q = Q
FindsOr (Some x) P Q = P x

-- ---- what instructions have fields for
-- the scale of an index (Intel SDM vol. 2, 2.1.5)
abbrev pub is_scale : ℕ → Bool
is_scale k = (k == 1) || ((k == 2) || ((k == 4) || (k == 8)))

abbrev pub HasScale : Option (ℕ × ℕ) → Type 0
HasScale None = ⊤
HasScale (Some i) = IsTrue (is_scale i.1)

-- displacements and offsets have 32 bits
abbrev pub HasFields : Arg → Type 0
HasFields (arg.Mem m) = IsTrue (fits_bytes 4 m.disp) × HasScale m.index
HasFields (arg.Cell c) = IsTrue (fits_bytes 4 c.offset)
HasFields _ = ⊤

-- ---- homes
-- neither a word or a flag in a variable, nor the first cell of a stack variable
abbrev pub IsNoScalar : Option Home → Type 0
IsNoScalar None = ⊤
IsNoScalar (Some (in_cell w i z)) = i ≡ 0 → ⊥
IsNoScalar (Some _) = ⊥

-- ---- operands, of which none has fields
abbrev pub NeverAddress : Homes → Expr → Type 0
NeverAddress home e =
    (t : Sum) (m : Address)
    → IsSum home e t → IsAddress t m → IsTrue (fits_bytes 4 m.disp) → HasScale m.index → ⊥

abbrev pub NeverIndex : Homes → Expr → Type 0
NeverIndex home e =
    (t : Sum) (b : Option ℕ) (i : ℤ)
    → IsSum home e t → IsIndex t b i → IsTrue (fits_bytes 4 i) → ⊥

abbrev pub NeverArg : Homes → Size → Expr → Type 0
NeverArg home z e = (x : Arg) (p : Leaks) → IsArg home z e x p → HasFields x → ⊥

abbrev pub NeverDest : Homes → Size → Lval → Type 0
NeverDest home z d = (x : Arg) (p : Leaks) → IsDest home z d x p → HasFields x → ⊥
