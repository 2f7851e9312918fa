-- The statements whose operations write or read flags, RAX, RDX or RCX by themselves: the rows of
-- the pattern table that jz_row_operations has not. The place that an intrinsic carries is that of
-- its name; its operations stand where the statement begins.
use Rattle.std.specs.Prelude.{◌≡◌, ℕ, Bool, true, List, [], ◌∷◌, ◌++◌, All, Option, Some, None, ⊤}
use Rattle.std.specs.Option.{option_or, option_to_list}
use Rattle.jz_words.specs.declared.size.Size.{Size}
use Rattle.jz_words.specs.declared.size.Size.TheVariants.{S8}
use Rattle.x64_insn.specs.declared.types.Wide.{Wide}
use Rattle.jz_io.specs.declared.span.Span.{Span}
use Rattle.jz_tree.specs.Spellings.{spelled}
use Rattle.jz_tree.specs.declared.intrinsic.Instance.{Instance}
use Rattle.jz_tree.specs.declared.intrinsic.Intrinsic.TheVariants as name
use Rattle.jz_tree.specs.declared.expr.BinOp.{BinOp}
use Rattle.jz_tree.specs.declared.expr.BinOp.TheVariants as op
use Rattle.jz_tree.specs.declared.expr.Expr.{Expr}
use Rattle.jz_tree.specs.declared.expr.Expr.TheVariants as expr
use Rattle.jz_tree.specs.declared.expr.Expr.TheOpen.{Expr-F}
use Rattle.jz_tree.specs.declared.expr.Expr.TheViews.{out-Expr}
use Rattle.jz_tree.specs.declared.expr.Var.{Var}
use Rattle.jz_tree.specs.declared.stmt.Lval.{Lval}
use Rattle.jz_tree.specs.declared.stmt.Lval.TheVariants as lval
use Rattle.jz_meaning.specs.declared.access.Kind.TheVariants as kind
use Rattle.jz_meaning.specs.Values.{key_of, ref_of, own_size}
use Rattle.jz_meaning.specs.Assignments.{Layer, left_span, left_sizes, whole_of}
use Rattle.jz_meaning.specs.Intrinsics.{intrinsic_size}
use Rattle.jz_meaning.specs.Statements as source
use Rattle.jz_meaning.specs.Statements.{assign, instruction}
use Rattle.jz_operations.specs.declared.operation.Pinned.{Pinned}
use Rattle.jz_operations.specs.declared.operation.Arg.{Arg}
use Rattle.jz_operations.specs.declared.operation.Condition.{Condition}
use Rattle.jz_operations.specs.declared.operation.Condition.TheVariants as condition
use Rattle.jz_operations.specs.declared.operation.Action.{Action}
use Rattle.jz_operations.specs.declared.operation.Action.TheVariants as action
use Rattle.jz_operations.specs.declared.operation.Flags.{Flags}
use Rattle.jz_operations.specs.declared.operation.Operation.{Operation}
use Rattle.jz_encodable.specs.Encodable.{CanEncode}
use Rattle.jz_change.specs.declared.change.Numbers.{Numbers}
use Rattle.jz_change.specs.declared.change.Numbers.TheVariants.{These}
use Rattle.jz_homes.specs.Homes.{Homes, in_register}
use Rattle.jz_homes.specs.Operands.{Leaks, IsArg, IsDest}
use Rattle.jz_row_operations.specs.Codes.{no_flag, plain, lasting}
use Rattle.jz_row_operations.specs.Rows.{IsWide, NotImm}
use Rattle.jz_row_operations.specs.Lowering.{numbers_from, HasRow}
use Rattle.jz_flag_rows.specs.Results.{begins_at, IsFlag, IsPinned, carry_alone}
use Rattle.jz_flag_rows.specs.Wide.{IsLong, divider, is_apart, wide_code, wide_shown, quotient_code, divide_shown}
use Rattle.jz_flag_rows.specs.Conditions.{IsFlagCondition, IsCondition, condition_items, leaked}
use Rattle.jz_flag_rows.specs.Instructions.{HasInstruction}

-- a sum or a difference, which CF may lead
abbrev pub IsSumLayer : Layer → Type 0
IsSumLayer (Expr-F.Bin op.Add a b at) = ⊤
IsSumLayer (Expr-F.Bin op.Sub a b at) = ⊤
IsSumLayer _ = ⊥

-- each at the statement's place; the flags of the statement are those of its last operation
pub data LowersFlags (home : Homes) :
    source.Operation → List Operation → List Numbers → Type 0 where
  -- `cf, d = a + o`, `cf, d = a - o`, and with a flag behind
  carry_results :
      {f d : Lval} {u : Option BinOp} {e w : Expr} {z : Size} {k : Option Pinned}
      {acts : List Action} {items : List Numbers} {at : Span}
      → whole_of (Some d) u e ≡ Some w → IsSumLayer (out-Expr w)
      → option_or (left_sizes (f ∷ d ∷ [])) (own_size w) ≡ Some z
      → IsFlag home f k → HasRow home z d w acts items → All CanEncode acts
      → LowersFlags home (assign (f ∷ d ∷ []) u e None at) (lasting at (carry_alone k) acts) items
  -- `h, l = a * b`, and `h, l *= b`, whose first operand is l
  wide_products :
      {h l : Lval} {u : Option BinOp} {e a b : Expr} {z : Size} {hk lk : Option Pinned} {x y : Arg}
      {p q : Leaks} {acts : List Action} {at : Span} (here : Span)
      → whole_of (Some l) u e ≡ Some (expr.Bin op.Mul a b here)
      → option_or (left_sizes (h ∷ l ∷ [])) (own_size (expr.Bin op.Mul a b here)) ≡ Some z
      → IsLong z → IsPinned home z h hk → IsPinned home z l lk
      → IsArg home z a x p → IsArg home z b y q → NotImm y
      → wide_code z hk lk x y ≡ Some acts → All CanEncode acts
      → LowersFlags home (assign (h ∷ l ∷ []) u e None at) (lasting at no_flag acts)
      (wide_shown lk x y p q)
  -- `r = a / b`, `r = a % b`: one of RAX and RDX is r, and the other is written besides
  quotients :
      {r : Lval} {u : Option BinOp} {e a b : Expr} {o : BinOp} {w : Wide} {z : Size} {k : Pinned}
      {x y : Arg} {p q : Leaks} {at : Span} (here : Span)
      → whole_of (Some r) u e ≡ Some (expr.Bin o a b here) → divider o ≡ Some w
      → option_or (left_sizes (r ∷ [])) (own_size (expr.Bin o a b here)) ≡ Some z
      → IsLong z → IsPinned home z r (Some k)
      → IsArg home z a x p → IsArg home z b y q → NotImm y → is_apart (Some k) y ≡ true
      → All CanEncode (quotient_code o w z k x y)
      → LowersFlags home (assign (r ∷ []) u e None at)
      (lasting at no_flag (quotient_code o w z k x y)) (divide_shown p q)
  -- `r = o if c`, c a bool variable
  choices :
      {v : Var} {e k : Expr} {y : Arg} {n m : ℕ} {d : Bool} {p : Leaks} {at : Span} (z : Size)
      → IsWide z → (ref_of v).kind ≡ kind.Word z
      → home (key_of (ref_of v)) ≡ Some (in_register m z) → IsArg home z e y p → NotImm y
      → IsFlagCondition home k n d → CanEncode (action.Cmov (condition.Flag n d) z m y)
      → LowersFlags home (assign (lval.Var v ∷ []) None e (Some k) at)
      (plain at (action.Cmov (condition.Flag n d) z m y) ∷ []) (These (numbers_from p 0) ∷ [])
  -- an intrinsic
  instructions :
      {i : Instance} {to : List Lval} {ns : List ℕ} {args : List Expr} {z : Size} {fl : Flags}
      {acts : List Action} {items : List Numbers} {at : Span}
      → spelled ns ≡ Some i → intrinsic_size i.name i.size to args ≡ Some z
      → HasInstruction home z i.name to args fl acts items → All CanEncode acts
      → LowersFlags home (instruction to ns args at) (lasting (begins_at to at) fl acts) items
  -- `#SETcc(c)`: a byte
  sets :
      {i : Instance} {d : Lval} {ns : List ℕ} {e : Expr} {b : Arg} {r : Leaks}
      {compare : Option Operation} {c : Condition} {ps : List (Leaks × Leaks)} {at : Span}
      → spelled ns ≡ Some i → i.name ≡ name.Setcc → IsDest home S8 d b r
      → IsCondition home (left_span d) e compare c ps → CanEncode (action.Set c b)
      → LowersFlags home (instruction (d ∷ []) ns (e ∷ []) at)
      (option_to_list compare ++ (plain (left_span d) (action.Set c b) ∷ []))
      (condition_items ps 0 ++ (These (numbers_from r (leaked ps)) ∷ []))
