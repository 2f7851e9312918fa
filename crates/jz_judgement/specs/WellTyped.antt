-- Well typed statements, functions and programs.
use Rattle.std.specs.Prelude.{◌≡◌, ◌⊎◌, Bool, true, is_some, List, [], ◌∷◌, All, Option, Some, None}
use Rattle.jz_tree.specs.Size.{Size}
use Rattle.jz_tree.specs.Size.TheVariants as sizes
use Rattle.jz_tree.specs.declared.expr.BinOp.{BinOp}
use Rattle.jz_tree.specs.declared.expr.Expr.{Expr}
use Rattle.jz_tree.specs.declared.expr.Decl.{Decl}
use Rattle.jz_tree.specs.declared.expr.Var.{Var}
use Rattle.jz_tree.specs.declared.expr.Expr.TheViews.{out-Var}
use Rattle.jz_tree.specs.declared.stmt.Lval.{Lval}
use Rattle.jz_tree.specs.declared.stmt.Lval.TheVariants as lval
use Rattle.jz_tree.specs.declared.stmt.Rhs.{Rhs}
use Rattle.jz_tree.specs.declared.stmt.Rhs.TheVariants as rhs
use Rattle.jz_tree.specs.declared.stmt.Stmt.{Stmt}
use Rattle.jz_tree.specs.declared.stmt.StmtKind.TheOpen.{StmtKind-F}
use Rattle.jz_tree.specs.declared.program.Fun.{Fun}
use Rattle.jz_tree.specs.declared.program.Param.{Param}
use Rattle.jz_tree.specs.declared.program.Ret.{Ret}
use Rattle.jz_tree.specs.declared.program.Program.{Program}
use Rattle.jz_type_names.specs.declared.kinds.Kind.{Kind}
use Rattle.jz_type_names.specs.declared.kinds.Kind.TheVariants as kind
use Rattle.jz_type_names.specs.Kinds.{known_of, is_inline_int, kind_of, array_of, whole_array}
use Rattle.jz_type_names.specs.Parts.{Layer, layer_of, statements_of}
use Rattle.jz_type_sizes.specs.declared.signatures.Role.{Role}
use Rattle.jz_type_sizes.specs.declared.signatures.Role.TheVariants as role
use Rattle.jz_type_sizes.specs.Signatures.{Signature, signature}
use Rattle.jz_type_sizes.specs.Intrinsics.{size_of_intrinsic}
use Rattle.jz_type_sizes.specs.Calls.{is_declared, is_callee}
use Rattle.jz_type_sizes.specs.Mismatches.{Named, callee_from, among}
use Rattle.jz_judgement.specs.Places.{Place, integer, truth, word, index, unsized}
use Rattle.jz_judgement.specs.HasType.{value, HasType}
use Rattle.jz_judgement.specs.Lefts.{Holds, Leaves, IsSound, IsFlag, Values}

-- as many of one list as of the other, pair by pair
pub data InPairs {A B : Type 0} (R : A → B → Type 0) : List A → List B → Type 0 where
  none : InPairs R [] []
  next : {a : A} {b : B} {as' : List A} {bs : List B} → R a b → InPairs R as' bs
      → InPairs R (a ∷ as') (b ∷ bs)

-- ---- calls
-- an argument, by the parameter's declaration; an array has that storage, type and length
abbrev pub PassedAs : Kind → Decl → Expr → Type 0
PassedAs kind.Int d e = HasType (value e) integer
PassedAs kind.Truth d e = HasType (value e) truth
PassedAs (kind.Word z) d e = HasType (value e) (word z)
PassedAs (kind.Array z) d e = (v : Var) × (array_of e ≡ Some v) × (is_declared d v ≡ true)

abbrev pub PassedBy : Option Decl → Expr → Type 0
PassedBy None e = Unit {0}
PassedBy (Some d) e = PassedAs (kind_of d.ty) d e

abbrev pub Passed : Param → Expr → Type 0
Passed p e = PassedBy (out-Var p.var).decl e

-- a result, by its declaration; that it is a word or an array is another rule
abbrev pub IsSkip : Lval → Type 0
IsSkip (lval.Skip at) = Unit {0}
IsSkip _ = ⊥

abbrev pub GivenAs : Kind → Decl → Lval → Type 0
GivenAs (kind.Word z) d l = (whole_array l ≡ None) × Holds (word z) l
GivenAs (kind.Array z) d l =
    IsSkip l ⊎ ((v : Var) × (whole_array l ≡ Some v) × (is_declared d v ≡ true))
GivenAs _ d l = IsSound l

abbrev pub Given : Ret → Lval → Type 0
Given r l = GivenAs (kind_of r.decl.ty) r.decl l

-- of an unknown function another rule speaks
pub data Calls : Option Fun → List Lval → List Expr → Type 0 where
  unknown : {to : List Lval} {args : List Expr} → All IsSound to → Calls None to args
  called : {g : Fun} {to : List Lval} {args : List Expr} → is_callee g.kind ≡ true
      → InPairs Given g.rets to → InPairs Passed g.params args → Calls (Some g) to args

-- ---- intrinsics
-- where an argument stands, by its role and the intrinsic's size
abbrev pub role_place : Option Size → Role → Place
role_place z role.Flag = truth
role_place None role.Value = unsized
role_place (Some z) role.Value = word z
role_place z role.Count = word sizes.S8
role_place z role.Condition = truth
role_place z role.Address = index
role_place z role.Byte = word sizes.S8

-- of an array as an argument another rule speaks
abbrev pub Operand : Option Size → Role → Expr → Type 0
Operand z r e = (is_some (array_of e) ≡ true) ⊎ HasType (value e) (role_place z r)

abbrev pub Output : Option Size → Role → Lval → Type 0
Output z role.Flag d = IsFlag d
Output None role.Value d = Leaves d unsized
Output (Some z) role.Value d = Holds (word z) d
Output z role.Count d = Holds (word sizes.S8) d
Output z role.Condition d = IsFlag d
Output z role.Address d = (y : Size) × Holds (word y) d
Output z role.Byte d = Holds (word sizes.S8) d

-- of an unknown intrinsic another rule speaks
pub data Instructs : Option Signature → List Lval → List Expr → Type 0 where
  unknown : {to : List Lval} {args : List Expr} → All IsSound to → Instructs None to args
  instance_of : {g : Signature} {to : List Lval} {args : List Expr}
      → InPairs (Output (size_of_intrinsic g to args)) g.results to
      → InPairs (Operand (size_of_intrinsic g to args)) g.arguments args
      → Instructs (Some g) to args

-- ---- statements
-- g is the function that is called
abbrev pub RightSide : Option Fun → List Lval → Option BinOp → Rhs → Type 0
RightSide g to o (rhs.Value e) = Values to o e
RightSide g to o (rhs.Call n args at) = Calls g to args
RightSide g to o (rhs.Intrinsic n args at) = Instructs (signature n) to args

abbrev pub Condition : Option Expr → Type 0
Condition None = Unit {0}
Condition (Some c) = HasType (value c) truth

-- a statement, without those that stand in it; the functions are known by their names
pub data WellTyped (named : Named) : Layer → Type 0 where
  assigned : {to : List Lval} {o : Option BinOp} {from : Rhs} {cond : Option Expr}
      → RightSide (callee_from named from) to o from → Condition cond
      → WellTyped named (StmtKind-F.Assign to o from cond)
  branch : {c : Expr} {a b : List Stmt} → HasType (value c) truth
      → WellTyped named (StmtKind-F.If c a b)
  loop : {p : List Stmt} {c : Expr} {b : Option (List Stmt)} → HasType (value c) truth
      → WellTyped named (StmtKind-F.While p c b)
  -- the counter is an inline integer
  rounds : {i : Var} {from to : Expr} {down : Bool} {b : List Stmt}
      → is_inline_int (known_of i) ≡ true → HasType (value from) integer
      → HasType (value to) integer
      → WellTyped named (StmtKind-F.For i from down to b)
  mark : {vs : List Var} → WellTyped named (StmtKind-F.Mark vs)

-- ---- functions and programs
-- it gives back what it declares
abbrev pub Returned : Ret → Var → Type 0
Returned r v = is_declared r.decl v ≡ true

abbrev pub WellTypedIn : Named → Fun → Type 0
WellTypedIn named f =
    InPairs Returned f.rets f.result
    × All (λ s. WellTyped named (layer_of s)) (statements_of f.body)

-- each variable has its declaration
abbrev pub IsWellTyped : Program → Type 0
IsWellTyped q = All (WellTypedIn (among q.funs)) q.funs
