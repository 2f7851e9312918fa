-- What the code that finds rows keeps.
use Rattle.std.specs.Prelude.{◌≡◌, true, List, [], ◌∷◌, All, Option, Some, None}
use Rattle.std.specs.Option.{option_or}
use Rattle.jz_words.specs.declared.size.Size.{Size}
use Rattle.x64_insn.specs.declared.types.Wide.{Wide}
use Rattle.jz_tree.specs.Span.{Span}
use Rattle.jz_tree.specs.declared.expr.BinOp.{BinOp}
use Rattle.jz_tree.specs.declared.expr.BinOp.TheVariants as op
use Rattle.jz_tree.specs.declared.expr.Expr.{Expr}
use Rattle.jz_tree.specs.declared.expr.Expr.TheVariants as expr
use Rattle.jz_tree.specs.declared.expr.Expr.TheViews.{out-Expr}
use Rattle.jz_tree.specs.declared.stmt.Lval.{Lval}
use Rattle.jz_meaning.specs.Values.{own_size}
use Rattle.jz_operations.specs.declared.operation.Pinned.{Pinned}
use Rattle.jz_operations.specs.declared.operation.Arg.{Arg}
use Rattle.jz_operations.specs.declared.operation.Flags.{Flags}
use Rattle.jz_operations.specs.declared.operation.Action.{Action}
use Rattle.jz_encodable.specs.Encodable.{CanEncode}
use Rattle.jz_change.specs.declared.change.Numbers.{Numbers}
use Rattle.jz_homes.specs.Homes.{Homes}
use Rattle.jz_homes.specs.Operands.{Leaks, IsArg}
use Rattle.jz_row_operations.specs.Codes.{no_flag}
use Rattle.jz_row_operations.specs.Rows.{NotImm}
use Rattle.jz_row_operations.specs.Lowering.{HasRow}
use Rattle.jz_flag_rows.specs.Results.{IsFlag, IsPinned, carry_alone}
use Rattle.jz_flag_rows.specs.Wide.{IsLong, divider, is_apart, wide_code, wide_shown, quotient_code, divide_shown}
use Rattle.jz_flag_rows.specs.Rows.{IsSumLayer}
use Rattle.jz_one_flag_row.specs.Forms.{IsWideProduct}
use Rattle.jz_operands.specs.TableHomes.{leaks_of}
use Rattle.jz_pinned_rows.specs.declared.parts.Operands.{Operands}
use Rattle.jz_pinned_rows.specs.declared.row.Acts.{Acts}
use Rattle.jz_pinned_rows.specs.declared.row.PinnedRow.{PinnedRow}
use Rattle.jz_pinned_rows.specs.Rows.{actions_of, items_of}

-- the actions of a product of these operands, and what they show
pub record IsMultiplied (z : Size) (h l : Option Pinned) (t : Operands) (a : Acts) : Type 0 where
  pub actions : wide_code z h l t.first.arg t.second.arg ≡ Some (actions_of a)
  pub items :
      items_of a
      ≡ wide_shown l t.first.arg t.second.arg (leaks_of t.first.leaks) (leaks_of t.second.leaks)

-- ---- `r = a / b` and its like
pub record IsQuotient (home : Homes) (z : Size) (r : Lval) (o : BinOp) (a b : Expr)
    (acts : List Action) (items : List Numbers) : Type 0 where
  pub kind : Wide
  pub variable : Pinned
  pub x : Arg
  pub y : Arg
  pub p : Leaks
  pub q : Leaks
  pub divides : divider o ≡ Some kind
  pub long : IsLong z
  pub result : IsPinned home z r (Some variable)
  pub first : IsArg home z a x p
  pub second : IsArg home z b y q
  pub no_number : NotImm y
  pub apart : is_apart (Some variable) y ≡ true
  pub code : acts ≡ quotient_code o kind z variable x y
  pub shown : items ≡ divide_shown p q

pub record IsQuotientOf (home : Homes) (z : Size) (r : Lval) (w : Expr)
    (acts : List Action) (items : List Numbers) : Type 0 where
  pub operator : BinOp
  pub a : Expr
  pub b : Expr
  pub here : Span
  pub whole : w ≡ expr.Bin operator a b here
  pub row : IsQuotient home z r operator a b acts items

-- ---- two left sides
-- a flag that becomes the carry, before a row of the other table
pub record HasCarry (home : Homes) (z : Size) (f d : Lval) (w : Expr)
    (fl : Flags) (acts : List Action) (items : List Numbers) : Type 0 where
  pub carry : Option Pinned
  pub flag : IsFlag home f carry
  pub flags : fl ≡ carry_alone carry
  pub row : HasRow home z d w acts items

pub record IsProductOf (home : Homes) (z : Size) (h l : Lval) (w : Expr)
    (fl : Flags) (acts : List Action) (items : List Numbers) : Type 0 where
  pub a : Expr
  pub b : Expr
  pub here : Span
  pub whole : w ≡ expr.Bin op.Mul a b here
  pub flags : fl ≡ no_flag
  pub row : IsWideProduct home z h l a b acts items

pub data HasPair (home : Homes) (z : Size) (f d : Lval) (w : Expr)
    (fl : Flags) (acts : List Action) (items : List Numbers) : Type 0 where
  a_carry :
      IsSumLayer (out-Expr w) → HasCarry home z f d w fl acts items
      → HasPair home z f d w fl acts items
  a_product : IsProductOf home z f d w fl acts items → HasPair home z f d w fl acts items

-- ---- assignments without a condition
-- no flag becomes a variable
abbrev pub plain_row : Option Acts → Option PinnedRow
plain_row None = None
plain_row (Some a) = Some (record { acts = a; flags = no_flag })

abbrev pub Unflagged : (List Action → List Numbers → Type 0) → Flags → List Action → List Numbers → Type 0
Unflagged P fl acts items = (fl ≡ no_flag) × P acts items

abbrev pub HasPinned : Homes → Size → List Lval → Expr → Flags → List Action → List Numbers → Type 0
HasPinned home z (r ∷ []) w fl acts items = Unflagged (IsQuotientOf home z r w) fl acts items
HasPinned home z (f ∷ d ∷ []) w fl acts items = HasPair home z f d w fl acts items
HasPinned home z _ w fl acts items = ⊥

-- where the left sides have this size, and each action can be encoded
pub record IsPinnedSet (home : Homes) (left : Option Size) (to : List Lval) (w : Expr)
    (r : PinnedRow) : Type 0 where
  pub size : Size
  pub is_size : option_or left (own_size w) ≡ Some size
  pub row : HasPinned home size to w r.flags (actions_of r.acts) (items_of r.acts)
  pub can : All CanEncode (actions_of r.acts)

abbrev pub NeverPinnedSet : Homes → Option Size → List Lval → Expr → Type 0
NeverPinnedSet home left to w =
    (z : Size) (fl : Flags) (acts : List Action) (items : List Numbers)
    → option_or left (own_size w) ≡ Some z → HasPinned home z to w fl acts items
    → All CanEncode acts → ⊥
