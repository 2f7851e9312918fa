-- What the events of operations over variables show of the frame: the places of stack variables that
-- the statement names.
use Rattle.std.specs.Prelude.{◌≡◌, ◌<◌, ◌≤◌, ◌^◌, ℕ, ◌+◌, ◌*◌, Bool, List, [], ◌∷◌, ◌++◌, flat_map, All, Contains, option_to_list, Option, Some, None, ℤ}
use Rattle.jz_words.specs.declared.size.Size.{Size}
use Rattle.jz_words.specs.Sizes.{bytes_of}
use Rattle.jz_words.specs.Words.{residue}
use Rattle.jz_words.specs.declared.size.Size.TheVariants.{S64}
use Rattle.jz_leak.specs.declared.transformer.Out.{Out}
use Rattle.jz_leak.specs.declared.transformer.Out.TheVariants as out
use Rattle.jz_tree.specs.Spellings.{spelled}
use Rattle.jz_tree.specs.declared.intrinsic.Instance.{Instance}
use Rattle.jz_tree.specs.declared.expr.Expr.{Expr}
use Rattle.jz_tree.specs.declared.expr.Expr.TheViews.{out-Access}
use Rattle.jz_tree.specs.declared.expr.Var.{Var}
use Rattle.jz_tree.specs.declared.stmt.Lval.{Lval}
use Rattle.jz_tree.specs.declared.stmt.Lval.TheVariants as lval
use Rattle.jz_type_names.specs.Parts.{Cells, cells_in}
use Rattle.jz_meaning.specs.declared.access.Kind.TheVariants as kind
use Rattle.jz_meaning.specs.States.{Key}
use Rattle.jz_meaning.specs.Values.{ref_of}
use Rattle.jz_meaning.specs.Assignments.{last_left, whole_of}
use Rattle.jz_meaning.specs.Statements.{Operation as Statement, assign, instruction, Condition, Block}
use Rattle.jz_operations.specs.declared.operation.Operation.{Operation}
use Rattle.jz_placing.specs.Variables.{Asked}
use Rattle.jz_change.specs.declared.change.Numbers.{Numbers}
use Rattle.jz_homes.specs.Homes.{Homes, in_cell}
use Rattle.jz_homes.specs.Sums.{sum_of, IsSum}
use Rattle.jz_events.specs.Outs.{operation_outs, asked_outs}
use Rattle.jz_compiled.specs.Layout.{Name, Place}
use Rattle.jz_compiled.specs.Showing.{OutsStayIn}
use Rattle.jz_case_names.specs.Items.{Known, AllParts}
use Rattle.jz_item_names.specs.Names.{AreLeaked}

-- ---- operations over variables
-- their events, by where stack variables stand above the stack pointer, and the size of the frame
abbrev pub shown_of : (ℕ → ℕ) → ℕ → Known Operation Asked ⊥ (List Out)
shown_of slots size = record {
  of_op = λ o. operation_outs slots size o.action;
  of_test = asked_outs slots size;
  of_call = λ c. absurd c;
}

-- what an item shows of the frame are places of these variables, and it shows leaked numbers
pub record Shows (places : List Place) (frame : ℕ) (a : List Name) (i : Numbers) (outs : List Out)
    : Type 0 where
  pub stays : OutsStayIn places frame a outs
  pub leaked : AreLeaked i

-- ---- cells
-- a cell of the frame is one of the stack variable of its name, in its place
pub record IsPlaced (places : List Place) (slots : ℕ → ℕ) (k : Key) (w i : ℕ) (z : Size) : Type 0
  where
    pub place : Place
    pub among : Contains places place
    pub name : place.of.name ≡ (k.name, k.copy)
    pub offset : place.offset ≡ slots w
    pub within : i < place.of.count
    pub size : place.of.cell ≡ z

abbrev pub ArePlaced : Homes → List Place → (ℕ → ℕ) → Type 0
ArePlaced home places slots =
    (k : Key) (w i : ℕ) (z : Size) → home k ≡ Some (in_cell w i z)
    → IsPlaced places slots k w i z

-- an index that is a number is one of a cell of the array
abbrev pub IsInside : Homes → Var × Expr → Type 0
IsInside home c =
    (z : Size) (n : ℕ) (i : ℤ) → (ref_of c.0).kind ≡ kind.Array z n
    → IsSum home c.1 (sum_of [] i) → residue S64 i < n

abbrev pub left_cells : Lval → Cells
left_cells (lval.Skip at) = []
left_cells (lval.Var v) = []
left_cells (lval.Cell v e) = (v, e) ∷ cells_in e
left_cells (lval.Store a) = cells_in (out-Access a).at

-- the cells of an assignment that sets this
abbrev pub assigned_cells : List Lval → Option Expr → Option Expr → Cells
assigned_cells to None c = []
assigned_cells to (Some w) c =
    flat_map left_cells to ++ cells_in w ++ flat_map cells_in (option_to_list c)

-- those of an intrinsic
abbrev pub instructed_cells : Option Instance → List Lval → List Expr → Cells
instructed_cells None to args = []
instructed_cells (Some i) to args = flat_map left_cells to ++ flat_map cells_in args

abbrev pub statement_cells : Statement → Cells
statement_cells (assign to o e c at) = assigned_cells to (whole_of (last_left to) o e) c
statement_cells (instruction to n args at) = instructed_cells (spelled n) to args
statement_cells other = []

abbrev pub OperationInside : Homes → Statement → Type 0
OperationInside home o = All (IsInside home) (statement_cells o)

abbrev pub TestInside : Homes → Condition → Type 0
TestInside home t = All (IsInside home) (cells_in t.cond)

-- so of each cell that is set or read in a body
abbrev pub HasCellsInside : Homes → Block → Type 0
HasCellsInside home b = AllParts (OperationInside home) (TestInside home) b

-- ---- the frame
-- a frame that is small, and places within it
pub record IsSmall (places : List Place) (frame : ℕ) : Type 0 where
  pub size : frame ≤ 2 ^ 32
  pub ends : All (λ (q : Place). q.offset + q.of.count * bytes_of q.of.cell ≤ 2 ^ 32) places

-- ---- the lists of a case: that of the operation, or that of a jump
pub data IsListOf (b : List Out) (outs : List Out) : Type 0 where
  the_list : outs ≡ b → IsListOf b outs
  no_jump : outs ≡ [] → IsListOf b outs
  a_jump : (taken : Bool) → outs ≡ out.Branch taken ∷ [] → IsListOf b outs
