-- Trees whose cells may become scalars: no loop is left that counts, and no call; each variable
-- holds what it is declared to hold.
use Rattle.std.specs.Prelude.{◌≡◌, ℕ, Bool, true, false, List, All, Option, Some, None}
use Rattle.jz_tree.specs.Spellings.{spelled}
use Rattle.jz_tree.specs.declared.expr.BinOp.{BinOp}
use Rattle.jz_tree.specs.declared.expr.Expr.{Expr}
use Rattle.jz_tree.specs.declared.stmt.Lval.{Lval}
use Rattle.jz_runs.specs.Trees.{done, op, quiet, choose, loop, each, call}
use Rattle.jz_meaning.specs.Assignments.{as_expr, last_left, whole_of}
use Rattle.jz_meaning.specs.Shapes.{Sort, words, flags, integers}
use Rattle.jz_meaning.specs.Statements.{Operation, assign, instruction, Condition, Block}
use Rattle.jz_meaning.specs.Values.{Ref}
use Rattle.jz_arrays.specs.Kinds.{Kinds, sort_of_kind, sorts_of}
use Rattle.jz_inline.specs.Scopes.{is_over}
use Rattle.jz_arrays.specs.Arrays.{IsRead, IsAssign, IsInstruction}

abbrev pub same_sort : Sort → Sort → Bool
same_sort words words = true
same_sort flags flags = true
same_sort integers integers = true
same_sort _ _ = false

module _ (kinds : Kinds) where
  -- a variable is declared with the sort that it has
  abbrev pub is_sorted : Ref → Bool
  is_sorted r = same_sort (sorts_of kinds r.name r.copy) (sort_of_kind r.kind)

  abbrev pub AreSorted : Option Expr → Type 0
  AreSorted None = Unit {0}
  AreSorted (Some e) = is_over is_sorted is_sorted e ≡ true

  abbrev pub AreLeftSorted : List Lval → Type 0
  AreLeftSorted = All (λ d. AreSorted (as_expr d))

  pub record IsReadyAssign (to : List Lval) (o : Option BinOp) (e : Expr) (c : Option Expr) :
      Type 0 where
    pub known : IsAssign kinds to o e c
    pub lefts : AreLeftSorted to
    pub whole : AreSorted (whole_of (last_left to) o e)
    pub condition : AreSorted c

  pub record IsReadyInstruction (to : List Lval) (n : List ℕ) (args : List Expr) : Type 0 where
    pub known : IsInstruction kinds (spelled n) to args
    pub lefts : AreLeftSorted to
    pub operands : All (λ e. AreSorted (Some e)) args

  abbrev pub IsReadyOperation : Operation → Type 0
  IsReadyOperation (assign to o e c at) = IsReadyAssign to o e c
  IsReadyOperation (instruction to n args at) = IsReadyInstruction to n args
  IsReadyOperation _ = ⊥

  pub record IsReadyTest (p : Condition) : Type 0 where
    pub known : IsRead (sorts_of kinds) (Some p.cond)
    pub sorted : AreSorted (Some p.cond)

  -- all operations and tests are, and there is nothing else but marks
  abbrev pub IsReady : Block → Type 0
  IsReady done = Unit {0}
  IsReady (op o r) = IsReadyOperation o × IsReady r
  IsReady (quiet o r) = IsReady r
  IsReady (choose p a b r) = IsReadyTest p × IsReady a × IsReady b × IsReady r
  IsReady (loop h q p b r) = IsReadyTest p × IsReady q × IsReady b × IsReady r
  IsReady (each f b r) = ⊥
  IsReady (call c b r) = ⊥
