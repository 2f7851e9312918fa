-- What expansion leaves: operations, tests and results, as typing gives them.
use Rattle.std.specs.Prelude.{◌≡◌, Bool, List, [], ◌∷◌, Option, Some, None}
use Rattle.x64_insn.specs.Size.{Size}
use Rattle.jz_tree.specs.Spellings.{spelled}
use Rattle.jz_tree.specs.declared.expr.BinOp.{BinOp}
use Rattle.jz_tree.specs.declared.expr.Expr.{Expr}
use Rattle.jz_tree.specs.declared.expr.Var.{Var}
use Rattle.jz_tree.specs.declared.stmt.Lval.{Lval}
use Rattle.jz_meaning.specs.declared.access.Kind.TheVariants as kind
use Rattle.jz_meaning.specs.States.{Key}
use Rattle.jz_meaning.specs.Values.{ref_of}
use Rattle.jz_meaning.specs.Statements.{Operation, assign, instruction, unset, meaningless, Condition}
use Rattle.jz_run_laws.specs.Kinds.{Kinds}
use Rattle.jz_terms.specs.Terms.{term_of}
use Rattle.jz_standing.specs.Typing.{IsScalar, IsAnswer, AreMarks}
use Rattle.jz_two_results.specs.AssignedLaws.{IsOne}
use Rattle.jz_two_results.specs.Instructed.{IsInstructed}
use Rattle.jz_two_results.specs.TwoResults.{IsPaired}

module _ (kinds : Kinds) (in_frame : Key → Bool) where
  abbrev pub IsTwo : Lval → Lval → Option BinOp → Expr → Option Expr → Type 0
  IsTwo d b op e None = IsPaired kinds in_frame d b op e
  IsTwo d b op e (Some c) = ⊥

  abbrev pub AreAssigned : List Lval → Option BinOp → Expr → Option Expr → Type 0
  AreAssigned (d ∷ []) op e c = IsOne kinds in_frame d op e c
  AreAssigned (d ∷ b ∷ []) op e c = IsTwo d b op e c
  AreAssigned to op e c = ⊥

  -- assignments of one value and of two, instructions, and marks
  abbrev pub IsFine : Operation → Type 0
  IsFine (assign to op e c at) = AreAssigned to op e c
  IsFine (instruction to n args at) = IsInstructed kinds in_frame (spelled n) to args
  IsFine (unset xs) = AreMarks in_frame xs
  IsFine (meaningless at) = ⊥

  abbrev pub IsFineTest : Condition → Type 0
  IsFineTest c = IsAnswer kinds in_frame (term_of c.cond)

  pub record IsResult (x : Var) : Type 0 where
    pub size : Size
    pub is : (ref_of x).kind ≡ kind.Word size
    pub scalar : IsScalar kinds in_frame (ref_of x)

  abbrev pub AreResults : List Var → Type 0
  AreResults [] = Unit {0}
  AreResults (x ∷ xs) = IsResult x × AreResults xs
