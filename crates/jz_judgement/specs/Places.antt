-- What a place in the text takes, and what goes there.
use Rattle.std.specs.Prelude.{◌≡◌, Some, None}
use Rattle.jz_tree.specs.Size.{Size}
use Rattle.jz_tree.specs.Size.TheVariants as sizes
use Rattle.jz_tree.specs.declared.expr.BinOp.{BinOp}
use Rattle.jz_tree.specs.declared.expr.BinOp.TheVariants as op
use Rattle.jz_type_names.specs.declared.kinds.Kind.{Kind}
use Rattle.jz_type_names.specs.declared.kinds.Kind.TheVariants as kind
use Rattle.jz_type_names.specs.Kinds.{Known}

-- the type that a value has in its place
pub data Place : Type 0 where
  -- a whole number
  integer : Place
  -- a bool
  truth : Place
  -- a word of that size
  word : Size → Place
  -- a whole number, or a word of that size in which nothing leaves its size to the place
  stated : Size → Place
  -- a whole number to which nothing gives a size
  unsized : Place

-- an index or an address
abbrev pub index : Place
index = stated sizes.S64

abbrev pub IsTruth : Place → Type 0
IsTruth truth = Unit {0}
IsTruth _ = ⊥

-- a whole number goes wherever no bool is wanted: as a word it is taken modulo 2 to the size
abbrev pub TakesNumber : Place → Type 0
TakesNumber truth = ⊥
TakesNumber _ = Unit {0}

abbrev pub TakesWord : Size → Place → Type 0
TakesWord z (word y) = z ≡ y
TakesWord z (stated y) = z ≡ y
TakesWord z _ = ⊥

-- a bool may be added and taken away, but for integers
abbrev pub TakesCarry : Place → Type 0
TakesCarry integer = ⊥
TakesCarry truth = ⊥
TakesCarry _ = Unit {0}

-- how far a shift goes is a byte, in an integer an integer
abbrev pub count_place : Place → Place
count_place integer = integer
count_place _ = word sizes.S8

-- ---- variables, by what is declared of them
-- an array as a whole is no value
abbrev pub KindGoes : Kind → Place → Type 0
KindGoes kind.Int p = TakesNumber p
KindGoes kind.Truth p = IsTruth p
KindGoes (kind.Word z) p = TakesWord z p
KindGoes (kind.Array z) p = ⊥

-- an unknown name, of which another rule speaks, counts as a whole number
abbrev pub Goes : Known → Place → Type 0
Goes None p = TakesNumber p
Goes (Some d) p = KindGoes d.kind p

abbrev pub WordKind : Size → Kind → Type 0
WordKind z (kind.Word y) = y ≡ z
WordKind z _ = ⊥

abbrev pub IsWordOf : Size → Known → Type 0
IsWordOf z None = ⊥
IsWordOf z (Some d) = WordKind z d.kind

abbrev pub ArrayKind : Size → Kind → Type 0
ArrayKind z (kind.Array y) = y ≡ z
ArrayKind z _ = ⊥

abbrev pub IsArrayOf : Size → Known → Type 0
IsArrayOf z None = ⊥
IsArrayOf z (Some d) = ArrayKind z d.kind

-- ---- operators
abbrev pub IsSum : BinOp → Type 0
IsSum op.Add = Unit {0}
IsSum op.Sub = Unit {0}
IsSum _ = ⊥
