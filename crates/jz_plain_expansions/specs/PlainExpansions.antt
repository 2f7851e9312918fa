-- What an expansion leaves of each statement: words, flags, arrays of the frame, numbers and bools.
use Rattle.std.specs.Prelude.{◌≡◌, ℕ, Bool, [], All, Contains, Option, Some, None}
use Rattle.jz_tree.specs.declared.expr.Expr.{Expr}
use Rattle.jz_tree.specs.declared.program.Fun.{Fun}
use Rattle.jz_tree.specs.declared.program.Program.{Program}
use Rattle.jz_types.specs.TypedPrograms.{IsTypedProgram}
use Rattle.jz_texts.specs.Texts.{IsText}
use Rattle.jz_runs.specs.Trees.{done, op, quiet, choose, loop, each, call}
use Rattle.jz_meaning.specs.declared.access.Kind.{Kind}
use Rattle.jz_meaning.specs.declared.access.Kind.TheVariants as kind
use Rattle.jz_meaning.specs.States.{Key}
use Rattle.jz_meaning.specs.Statements.{Operation, assign, instruction, unset, meaningless, Condition, Block}
use Rattle.jz_run_laws.specs.Kinds.{Kinds}
use Rattle.jz_change.specs.Changes.{Change}
use Rattle.jz_limits.specs.Values.{no_numbers}
use Rattle.jz_limits.specs.Asked.{asked, asked_condition}
use Rattle.jz_function_runs.specs.FunctionRuns.{plain_body}
use Rattle.jz_copied_variables.specs.CopiedKinds.{copied_kinds}
use Rattle.jz_expansion.specs.Expansions.{IsExpansion}
use Rattle.jz_copied_variables.specs.Variables.{frame_of}
use Rattle.jz_standing.specs.Typing.{AreMarks}
use Rattle.jz_plain_operands.specs.Plain.{IsPlainExpr, IsPlainLeft}

-- ---- of a program and a function
-- an inline integer has a value where it is used, and is declared no more
abbrev pub without_int : Kind → Kind
without_int kind.Int = kind.Undeclared
without_int k = k

abbrev pub expanded_kinds : Program → Fun → Kinds
expanded_kinds p f name copy = without_int (copied_kinds p f name copy)

-- ---- of a body
module _ (kinds : Kinds) (in_frame : Key → Bool) where
  abbrev pub IfPlain : Option Expr → Type 0
  IfPlain None = Unit {0}
  IfPlain (Some e) = IsPlainExpr kinds in_frame e

  abbrev pub ArePlain : Operation → Type 0
  ArePlain (assign to o e c at) =
      All (IsPlainLeft kinds in_frame) to × IsPlainExpr kinds in_frame e × IfPlain c
  ArePlain (instruction to n args at) =
      All (IsPlainLeft kinds in_frame) to × All (IsPlainExpr kinds in_frame) args
  ArePlain (unset vs) = ⊥
  ArePlain (meaningless at) = ⊥

  -- what the head of a copy unsets
  abbrev pub IsMarkPlain : Operation → Type 0
  IsMarkPlain (unset vs) = AreMarks in_frame vs
  IsMarkPlain o = ⊥

  abbrev pub IsPlainTest : Condition → Type 0
  IsPlainTest t = IsPlainExpr kinds in_frame t.cond

  abbrev pub IsPlainBody : Block → Type 0
  IsPlainBody done = Unit {0}
  IsPlainBody (op o r) = ArePlain o × IsPlainBody r
  IsPlainBody (quiet o r) = IsMarkPlain o × IsPlainBody r
  IsPlainBody (choose t a b r) =
      IsPlainTest t × IsPlainBody a × IsPlainBody b × IsPlainBody r
  IsPlainBody (loop w q t b r) =
      IsPlainTest t × IsPlainBody q × IsPlainBody b × IsPlainBody r
  IsPlainBody (each i b r) = ⊥
  IsPlainBody (call c b r) = ⊥

-- no statement and no test passes a limit, where the expansion leaves no number open
abbrev pub IsWithin : Operation → Type 0
IsWithin o = asked no_numbers o ≡ []

abbrev pub IsWithinTest : Condition → Type 0
IsWithinTest t = asked_condition no_numbers t.cond ≡ []

abbrev pub IsWithinBody : Block → Type 0
IsWithinBody done = Unit {0}
IsWithinBody (op o r) = IsWithin o × IsWithinBody r
IsWithinBody (quiet o r) = IsWithinBody r
IsWithinBody (choose t a b r) =
    IsWithinTest t × IsWithinBody a × IsWithinBody b × IsWithinBody r
IsWithinBody (loop w q t b r) =
    IsWithinTest t × IsWithinBody q × IsWithinBody b × IsWithinBody r
IsWithinBody (each i b r) = IsWithinBody b × IsWithinBody r
IsWithinBody (call c b r) = ⊥

abbrev pub ExpansionsArePlain : Type 0
ExpansionsArePlain =
    (p : Program) (f g : Fun) (k : Change) (count : ℕ)
    → IsTypedProgram p → IsText p → Contains p.funs f → IsExpansion p f g k count
    → IsWithinBody (plain_body g)
    → IsPlainBody (expanded_kinds p f) (frame_of p f) (plain_body g)
