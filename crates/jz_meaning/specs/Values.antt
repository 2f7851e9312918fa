-- The value of an expression and the numbers that it leaks, from left to right: the index of each
-- access to an array, the address of each access to memory, and the high word, the low word and the
-- divisor of each division.
use Rattle.std.specs.Prelude.{ℕ, ◌%◌, ◌==◌, nat_lt, Bool, true, false, ◌||◌, List, [], ◌∷◌, Option, Some, None, Result, Ok, Err, if◌then◌else◌, ℤ, pos, negsuc}
use Rattle.std.specs.Option.{option_or}
use Rattle.jz_tree.specs.Span.{Span}
use Rattle.x64_insn.specs.Size.{Size}
use Rattle.x64_insn.specs.Size.TheVariants.{S8, S64}
use Rattle.x64_insn.specs.Sizes.{bytes_of}
use Rattle.x64_insn.specs.Memory.{Memory, loaded, all_valid, stored}
use Rattle.jz_tree.specs.declared.expr.BinOp.{BinOp}
use Rattle.jz_tree.specs.declared.expr.BinOp.TheVariants as o
use Rattle.jz_tree.specs.declared.expr.Expr.{Expr}
use Rattle.jz_tree.specs.declared.expr.Decl.{Decl}
use Rattle.jz_tree.specs.declared.expr.Var.{Var}
use Rattle.jz_tree.specs.declared.expr.Access.{Access}
use Rattle.jz_tree.specs.declared.expr.Expr.TheOpen.{Expr-F, Ty-F, Access-F, Decl-F, Var-F}
use Rattle.jz_tree.specs.declared.expr.Expr.TheFolds.{fold-Expr, fold-Access, fold-Decl, fold-Var}
use Rattle.jz_tree.specs.Operators.{is_shift}
use Rattle.jz_meaning.specs.declared.access.Kind.{Kind}
use Rattle.jz_meaning.specs.declared.access.Kind.TheVariants as kind
use Rattle.jz_meaning.specs.declared.value.Stuck.{Stuck}
use Rattle.jz_meaning.specs.declared.value.Why.TheVariants.{Bounds, Address, Align, Init}
use Rattle.jz_runs.specs.Rules.{stuck, went}
use Rattle.jz_meaning.specs.Attempts.{Evaluation, stuck_at, and_then, defined}
use Rattle.jz_meaning.specs.States.{Value, word, boolean, integer, Key, Store, State}
use Rattle.jz_meaning.specs.Operators.{word_at, binary, is_settled, negated, inverted, cast}

-- ---- variables

-- the size of a word, or of the cells of an array
abbrev pub size_of : Kind → Option Size
size_of (kind.Word s) = Some s
size_of (kind.Array s n) = Some s
size_of _ = None

-- a variable where it stands in the text
pub record Ref : Type 0 where
  pub name : List ℕ
  pub copy : ℕ
  pub cell : Option ℕ
  pub kind : Kind
  pub span : Span

abbrev pub key_of : Ref → Key
key_of x = record { name = x.name; copy = x.copy; cell = x.cell }

abbrev pub cell_key : Ref → ℕ → Key
cell_key x i = record { name = x.name; copy = x.copy; cell = Some i }

abbrev pub variable_value : Ref → Store → Evaluation Value
variable_value x store = defined x.span (store (key_of x))

-- the index of a cell, which is leaked
abbrev pub in_cells : Span → Kind → ℕ → Evaluation ℕ
in_cells at (kind.Array s n) i = if nat_lt i n then went (i ∷ []) i else stuck_at at Bounds
in_cells at _ i = stuck_at at Init

abbrev pub index_at : Ref → Value → Evaluation ℕ
index_at x v = and_then (word_at x.span S64 v) (in_cells x.span x.kind)

-- a cell without a value is stuck behind its index
abbrev pub cell_value : Ref → Value → Store → Evaluation Value
cell_value x v store = and_then (index_at x v) (λ i. defined x.span (store (cell_key x i)))

-- ---- accesses to memory

-- where the text goes to memory
pub record MemoryAccess : Type 0 where
  -- its size, where it is written
  pub size : Option Size
  -- the value of its address
  pub at : State → Evaluation Value
  pub unaligned : Bool
  pub span : Span

-- a multiple of the size
abbrev pub is_aligned : Size → ℕ → Bool
is_aligned s a = a % bytes_of s == 0

-- the address is leaked where each byte of the access is valid and the address is a multiple of the
-- size
abbrev pub accessed : {A : Type 0} → Span → Bool → Size → ℕ → Option A → Evaluation A
accessed at unaligned s a None = stuck_at at Address
accessed at unaligned s a (Some x) = if unaligned || is_aligned s a then went (a ∷ []) x else stuck_at at Align

-- bytes as a little-endian word; without a size of its own an access has that of the other side
abbrev pub load_word : Span → Bool → Option Size → ℕ → Memory → Evaluation Value
load_word at unaligned None a m = stuck_at at Init
load_word at unaligned (Some s) a m = and_then (accessed at unaligned s a (loaded m a (bytes_of s))) (λ b. went [] (word s b))

-- the address is a word of 64 bits
abbrev pub address_at : MemoryAccess → Value → Evaluation ℕ
address_at p v = word_at p.span S64 v

abbrev pub load_at : MemoryAccess → Option Size → Value → Memory → Evaluation Value
load_at p wanted v m = and_then (address_at p v) (λ a. load_word p.span p.unaligned (option_or p.size wanted) a m)

-- the memory after a store, where each byte of the access is valid
abbrev pub after_store : Memory → ℕ → Size → ℕ → Option Memory
after_store m a s b = if all_valid m a (bytes_of s) then Some (stored m a (bytes_of s) b) else None

-- what is stored is a word of the size, which is asked before the memory is
abbrev pub store_word : Span → Bool → Option Size → ℕ → Option Value → Memory → Evaluation Memory
store_word at unaligned (Some s) a (Some v) m = and_then (word_at at s v) (λ b. accessed at unaligned s a (after_store m a s b))
store_word at unaligned _ a _ m = stuck_at at Init

abbrev pub store_at : MemoryAccess → Option Size → Value → Option Value → Memory → Evaluation Memory
store_at p wanted at v m = and_then (address_at p at) (λ a. store_word p.span p.unaligned (option_or p.size wanted) a v m)

-- ---- expressions

-- what an expression is
pub record Meaning : Type 0 where
  -- its size, where it has one by itself
  pub size : Option Size
  -- the number that is written, for the length of an array
  pub literal : Option ℤ
  -- its value, where a word of this size is wanted
  pub run : Option Size → State → Evaluation Value

abbrev pub meaning : Option Size → (Option Size → State → Evaluation Value) → Meaning
meaning size run = record { size = size; literal = None; run = run }

-- a comparison, `&&` and `||` give no word
abbrev pub gives_word : BinOp → Bool
gives_word o.OrElse = false
gives_word o.AndThen = false
gives_word o.Eq = false
gives_word o.Ne = false
gives_word o.Lt = false
gives_word o.Le = false
gives_word o.Gt = false
gives_word o.Ge = false
gives_word o.LtS = false
gives_word o.LeS = false
gives_word o.GtS = false
gives_word o.GeS = false
gives_word _ = true

-- of two operands with these sizes; what is shifted has the size of the left one
abbrev pub size_of_operation : BinOp → Option Size → Option Size → Option Size
size_of_operation op a b = if gives_word op then (if is_shift op then a else option_or a b) else None

-- what is wanted of the left operand: what is wanted of both, else their size
abbrev pub left_wanted : BinOp → Option Size → Option Size → Option Size → Option Size
left_wanted op w a b = if gives_word op then option_or w (size_of_operation op a b) else option_or a b

-- what is wanted of the right operand, beside what is of the left one: a count is a byte
abbrev pub right_wanted : BinOp → Option Size → Option Size
right_wanted op left = if is_shift op then Some S8 else left

-- the right operand, unless the left one has settled the answer, and then the operation
abbrev pub with_right : BinOp → (Option Size → State → Evaluation Value) → Span → Option Size → State → Value → Evaluation Value
with_right op right at w s x =
    if is_settled op x then went [] x else and_then (right (right_wanted op w) s) (λ y. binary op at w x y)

-- the left operand, and then the right one
abbrev pub run_binary : BinOp → (Option Size → State → Evaluation Value) → (Option Size → State → Evaluation Value) → Span → Option Size → State → Evaluation Value
run_binary op left right at w s = and_then (left w s) (with_right op right at w s)

-- the cases of an expression; of an operand with one sign or `!` before it the size that is wanted
-- is that of the whole
abbrev pub expr_step : Expr-F Meaning Kind MemoryAccess Kind Ref → Meaning
expr_step (Expr-F.Num i at) = record { size = None; literal = Some i; run = λ w s. went [] (integer i) }
expr_step (Expr-F.Expr::Bool c at) = meaning None (λ w s. went [] (boolean c))
expr_step (Expr-F.Var x) = meaning (size_of x.kind) (λ w s. variable_value x s.store)
expr_step (Expr-F.Cell x i) = meaning (size_of x.kind) (λ w s. and_then (i.run (Some S64) s) (λ v. cell_value x v s.store))
expr_step (Expr-F.Load p) = meaning p.size (λ w s. and_then (p.at s) (λ v. load_at p w v s.memory))
expr_step (Expr-F.Neg a at) = meaning a.size (λ w s. and_then (a.run (option_or w a.size) s) (λ v. defined at (negated v)))
expr_step (Expr-F.Not a at) = meaning a.size (λ w s. and_then (a.run (option_or w a.size) s) (λ v. went [] (inverted v)))
expr_step (Expr-F.Cast z sign a at) = meaning (Some z) (λ w s. and_then (a.run a.size s) (λ v. defined at (cast z sign v)))
expr_step (Expr-F.Bin op a b at) = meaning (size_of_operation op a.size b.size) (λ w s. run_binary op a.run b.run at (left_wanted op w a.size b.size) s)

-- an array has as many cells as its number says
abbrev pub array_kind : Size → Option ℤ → Kind
array_kind s None = kind.Undeclared
array_kind s (Some (pos n)) = kind.Array s n
array_kind s (Some (negsuc n)) = kind.Undeclared

abbrev pub ty_step : Ty-F Meaning Kind MemoryAccess Kind Ref → Kind
ty_step Ty-F.Int = kind.Int
ty_step Ty-F.Ty::Bool = kind.Bool
ty_step (Ty-F.Word s) = kind.Word s
ty_step (Ty-F.Array s n) = array_kind s n.literal

abbrev pub access_step : Access-F Meaning Kind MemoryAccess Kind Ref → MemoryAccess
access_step a = record { size = a.size; at = a.at.run (Some S64); unaligned = a.unaligned; span = a.span }

abbrev pub decl_step : Decl-F Meaning Kind MemoryAccess Kind Ref → Kind
decl_step d = d.ty

abbrev pub kind_or : Option Kind → Kind
kind_or None = kind.Undeclared
kind_or (Some k) = k

abbrev pub var_step : Var-F Meaning Kind MemoryAccess Kind Ref → Ref
var_step x = record { name = x.name; copy = x.copy; cell = x.cell; kind = kind_or x.decl; span = x.span }

abbrev pub meaning_of : Expr → Meaning
meaning_of = fold-Expr _ _ _ _ _ expr_step ty_step access_step decl_step var_step

abbrev pub ref_of : Var → Ref
ref_of = fold-Var _ _ _ _ _ expr_step ty_step access_step decl_step var_step

abbrev pub access_of : Access → MemoryAccess
access_of = fold-Access _ _ _ _ _ expr_step ty_step access_step decl_step var_step

abbrev pub declared_kind : Decl → Kind
declared_kind = fold-Decl _ _ _ _ _ expr_step ty_step access_step decl_step var_step

-- the size that an expression has by itself
abbrev pub own_size : Expr → Option Size
own_size e = (meaning_of e).size

-- an expression's numbers and its value, where a word of a size is wanted
abbrev pub evaluated : Expr → Option Size → State → Evaluation Value
evaluated e = (meaning_of e).run

-- ---- value and numbers

abbrev pub value_in : Evaluation Value → Result Value Stuck
value_in (stuck w) = Err w
value_in (went ns v) = Ok v

abbrev pub numbers_in : Evaluation Value → List ℕ
numbers_in (stuck w) = []
numbers_in (went ns v) = ns

-- the value of an expression by itself, or where and why there is none
abbrev pub value_of : Expr → State → Result Value Stuck
value_of e s = value_in (evaluated e None s)

-- the numbers that an expression by itself leaks, if it is not stuck
abbrev pub numbers_of : Expr → State → List ℕ
numbers_of e s = numbers_in (evaluated e None s)
