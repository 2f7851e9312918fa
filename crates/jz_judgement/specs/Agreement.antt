-- The judgement and what typing finds.
use Rattle.std.specs.Prelude.{◌≡◌, ◌↔◌, List, [], Option}
use Rattle.jz_tree.specs.Span.{Span}
use Rattle.jz_tree.specs.declared.expr.BinOp.{BinOp}
use Rattle.jz_tree.specs.declared.expr.Expr.{Expr}
use Rattle.jz_tree.specs.declared.stmt.Lval.{Lval}
use Rattle.jz_tree.specs.declared.stmt.Stmt.{Stmt}
use Rattle.jz_tree.specs.declared.program.Fun.{Fun}
use Rattle.jz_tree.specs.declared.program.Program.{Program}
use Rattle.jz_type_names.specs.Parts.{layer_of}
use Rattle.jz_type_sizes.specs.declared.wants.Want.{Want}
use Rattle.jz_type_sizes.specs.declared.wants.Want.TheVariants as want
use Rattle.jz_type_sizes.specs.Typings.{typing}
use Rattle.jz_type_sizes.specs.Values.{value_wrong}
use Rattle.jz_type_sizes.specs.Calls.{call_wrong}
use Rattle.jz_type_sizes.specs.Signatures.{Signature}
use Rattle.jz_type_sizes.specs.Intrinsics.{intrinsic_wrong}
use Rattle.jz_type_sizes.specs.Mismatches.{Named, stmt_wrong, mismatched_declared}
use Rattle.jz_judgement.specs.Places.{Place, integer, truth, word, stated, unsized}
use Rattle.jz_judgement.specs.HasType.{HasType, value}
use Rattle.jz_judgement.specs.Lefts.{Values}
use Rattle.jz_judgement.specs.WellTyped.{Calls, Instructs, WellTyped, IsWellTyped}

abbrev pub want_of : Place → Want
want_of integer = want.Int
want_of truth = want.Truth
want_of (word z) = want.Word z
want_of (stated z) = want.Sized z
want_of unsized = want.Unsized

-- nothing is wrong with an expression exactly where it has the type of its place
abbrev pub ExpressionLaw : Type 0
ExpressionLaw = (e : Expr) (p : Place) → ((typing e).wrong (want_of p) ≡ []) ↔ HasType (value e) p

-- the same of a value and its left sides, of a call, of an intrinsic, of a statement, and of a
-- program whose variables have
-- their declarations
abbrev pub ValueLaw : Type 0
ValueLaw = (to : List Lval) (o : Option BinOp) (e : Expr)
    → (value_wrong to o e ≡ []) ↔ Values to o e

abbrev pub CallLaw : Type 0
CallLaw = (g : Option Fun) (to : List Lval) (args : List Expr) (at : Span)
    → (call_wrong g to args at ≡ []) ↔ Calls g to args

abbrev pub IntrinsicLaw : Type 0
IntrinsicLaw = (g : Option Signature) (to : List Lval) (args : List Expr) (at : Span)
    → (intrinsic_wrong g to args at ≡ []) ↔ Instructs g to args

abbrev pub StatementLaw : Type 0
StatementLaw = (named : Named) (s : Stmt) → (stmt_wrong named s ≡ []) ↔ WellTyped named (layer_of s)

abbrev pub ProgramLaw : Type 0
ProgramLaw = (q : Program) → (mismatched_declared q ≡ []) ↔ IsWellTyped q
