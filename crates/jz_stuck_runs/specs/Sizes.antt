-- The size of an instruction that a typed program names.
use Rattle.std.specs.Prelude.{◌≡◌, ℕ, Bool, true, false, List, Some, None, Contains}
use Rattle.jz_tree.specs.Span.{Span}
use Rattle.jz_tree.specs.Size.{Size}
use Rattle.jz_tree.specs.declared.expr.Expr.{Expr}
use Rattle.jz_tree.specs.declared.stmt.Lval.{Lval}
use Rattle.jz_tree.specs.declared.stmt.Rhs.TheVariants as rhs
use Rattle.jz_tree.specs.declared.stmt.Stmt.{Stmt}
use Rattle.jz_tree.specs.declared.stmt.StmtKind.TheOpen.{StmtKind-F}
use Rattle.jz_tree.specs.declared.program.Fun.{Fun}
use Rattle.jz_tree.specs.declared.program.Program.{Program}
use Rattle.jz_tree.specs.declared.intrinsic.Intrinsic.{Intrinsic}
use Rattle.jz_tree.specs.declared.intrinsic.Intrinsic.TheVariants as name
use Rattle.jz_tree.specs.declared.intrinsic.Instance.{Instance}
use Rattle.jz_tree.specs.Spellings.{spelled}
use Rattle.jz_type_names.specs.Parts.{layer_of, statements_of}
use Rattle.jz_type_sizes.specs.Signatures.{instance_signature}
use Rattle.jz_type_sizes.specs.Intrinsics.{size_of_intrinsic}
use Rattle.jz_meaning.specs.Intrinsics.{intrinsic_size}
use Rattle.jz_typed_runs.specs.TypedTexts.{IsTypedText}

-- SETcc, which gives a byte of a condition
abbrev pub gives_byte : Intrinsic → Bool
gives_byte name.Setcc = true
gives_byte _ = false

-- typing finds a size, and the instruction is done at it
pub record HasOneSize (i : Instance) (to : List Lval) (args : List Expr) : Type 0 where
  pub size : Size
  pub found : size_of_intrinsic (instance_signature i) to args ≡ Some size
  pub done_at : intrinsic_size i.name i.size to args ≡ Some size

-- each instruction of a typed program, but SETcc
abbrev pub SizeLaw : Type 0
SizeLaw =
    (q : Program) (f : Fun) (s : Stmt) (to : List Lval) (n : List ℕ) (args : List Expr) (at : Span)
    (i : Instance) → IsTypedText q → Contains q.funs f → Contains (statements_of f.body) s
    → layer_of s ≡ StmtKind-F.Assign to None (rhs.Intrinsic n args at) None
    → spelled n ≡ Some i → gives_byte i.name ≡ false → HasOneSize i to args
