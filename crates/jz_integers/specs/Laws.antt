-- What operations on whole numbers give, in plain terms.
use Rattle.std.specs.Prelude.{◌≡◌, ◌<◌, ◌≤ℤ◌, ◌<ℤ◌, ◌^◌, ◌↔◌, Bool, ℕ, Some, is_some, ℤ, pos, ◌+ℤ◌, ◌*ℤ◌, unsigned_abs, FitsSigned}
use Rattle.std.specs.Int.{w128}
use Rattle.jz_tree.specs.Span.{Span}
use Rattle.jz_tree.specs.declared.expr.BinOp.{BinOp}
use Rattle.jz_tree.specs.declared.expr.BinOp.TheVariants as o
use Rattle.jz_tree.specs.declared.expr.Expr.{Expr}
use Rattle.jz_tree.specs.declared.expr.Expr.TheVariants.{Bin}
use Rattle.jz_integers.specs.declared.constant.Constant.TheVariants as constant
use Rattle.jz_integers.specs.Integers.{KnownNumbers, on_integers, inline_value}

-- the operation gives this whole number of the two
abbrev pub Gives : BinOp → ℤ → ℤ → ℤ → Type 0
Gives op i j n = on_integers op i j ≡ Some (constant.Int n)

-- it gives exactly what is computed without a limit, wherever that has 128 bits
abbrev pub IsExact : BinOp → (ℤ → ℤ → ℤ) → Type 0
IsExact op f = (i j n : ℤ) → Gives op i j n ↔ ((n ≡ f i j) × FitsSigned w128 n)

-- so it does times a power of 2, of a count within the bits
abbrev pub ShiftsLeft : Type 0
ShiftsLeft =
    (i n : ℤ) (k : ℕ)
    → Gives o.Shl i (pos k) n ↔ ((k < 128) × (n ≡ i *ℤ pos (2 ^ k)) × FitsSigned w128 n)

-- divided by a power of 2 and rounded down
abbrev pub ShiftsRight : Type 0
ShiftsRight =
    (i n : ℤ) (k : ℕ)
    → Gives o.Shr i (pos k) n
    → (k < 128) × ((n *ℤ pos (2 ^ k)) ≤ℤ i) × (i <ℤ ((n +ℤ pos 1) *ℤ pos (2 ^ k)))

-- a quotient times the divisor, and the remainder, are the dividend
abbrev pub Divides : Type 0
Divides = (i j q r : ℤ) → Gives o.Div i j q → Gives o.Rem i j r → q *ℤ j +ℤ r ≡ i

-- a remainder is smaller than the divisor
abbrev pub LeavesLess : Type 0
LeavesLess = (i j r : ℤ) → Gives o.Rem i j r → unsigned_abs r < unsigned_abs j

-- it has the dividend's sign
abbrev pub KeepsTheSign : Type 0
KeepsTheSign =
    (i j r : ℤ) → Gives o.Rem i j r → (pos 0 ≤ℤ i → pos 0 ≤ℤ r) × (i ≤ℤ pos 0 → r ≤ℤ pos 0)

-- where there is no quotient there is no remainder
abbrev pub StandTogether : Type 0
StandTogether = (i j : ℤ) → is_some (on_integers o.Div i j) ≡ is_some (on_integers o.Rem i j)

-- with these numbers an expression is this truth
abbrev pub IsTruth : KnownNumbers → Expr → Bool → Type 0
IsTruth numbers e b = inline_value numbers e ≡ Some (constant.Bool b)

-- a left part that is this truth settles the operation, whatever stands on the right
abbrev pub IsSettledBy : BinOp → Bool → Type 0
IsSettledBy op b =
    (numbers : KnownNumbers) (l r : Expr) (at : Span)
    → IsTruth numbers l b
    → IsTruth numbers (Bin op l r at) b
