-- What is known of the variables in an expression and in a tree of copies.
use Rattle.std.specs.Prelude.{◌≡◌, ◌&&◌, ◌||◌, if◌then◌else◌, ℕ, zero, suc, ℤ, Bool, true, false, List, [], ◌∷◌, Option, Some, None, All, slice_get}
use Rattle.std.specs.Str.{bytes_eq}
use Rattle.jz_tree.specs.Size.{Size}
use Rattle.jz_tree.specs.Span.{Span}
use Rattle.jz_tree.specs.declared.expr.BinOp.{BinOp}
use Rattle.jz_tree.specs.declared.expr.Storage.{Storage}
use Rattle.jz_tree.specs.declared.expr.Storage.TheVariants as storage
use Rattle.jz_tree.specs.declared.expr.Expr.{Expr}
use Rattle.jz_tree.specs.declared.expr.Access.{Access}
use Rattle.jz_tree.specs.declared.expr.Decl.{Decl}
use Rattle.jz_tree.specs.declared.expr.Var.{Var}
use Rattle.jz_tree.specs.declared.expr.Expr.TheOpen.{Expr-F}
use Rattle.jz_tree.specs.declared.expr.Expr.TheViews.{out-Expr, out-Access, out-Var}
use Rattle.jz_tree.specs.declared.stmt.Lval.{Lval}
use Rattle.jz_tree.specs.declared.stmt.Lval.TheVariants as lval
use Rattle.jz_tree.specs.declared.program.Fun.{Fun}
use Rattle.jz_tree.specs.declared.program.Param.{Param}
use Rattle.jz_tree.specs.declared.program.Program.{Program}
use Rattle.jz_type_names.specs.Kinds.{Known, declared_of, known_of, is_array, is_register_array, is_inline_int}
use Rattle.jz_type_storage.specs.Declarations.{is_kept}
use Rattle.jz_select.specs.Look.{gives_number}
use Rattle.jz_judgement.specs.HasType.{Layer}
use Rattle.jz_types.specs.Carried.{declared_in, known_in}
use Rattle.jz_texts.specs.Declared.{IsCountedDecl}
use Rattle.jz_runs.specs.Trees.{done, op, quiet, choose, loop, each, call}
use Rattle.jz_meaning.specs.declared.access.Kind.{Kind}
use Rattle.jz_meaning.specs.declared.access.Kind.TheVariants as kind
use Rattle.jz_meaning.specs.States.{Key}
use Rattle.jz_meaning.specs.Values.{key_of, ref_of, declared_kind}
use Rattle.jz_meaning.specs.Statements.{Operation, assign, instruction, unset, meaningless, Block}
use Rattle.jz_meaning.specs.Runs.{body_of}
use Rattle.jz_run_laws.specs.Kinds.{Kinds}
use Rattle.jz_run_laws.specs.DeclaredKinds.{IsDeclared}
use Rattle.jz_bodies.specs.Calls as calls
use Rattle.jz_ready.specs.CopiedKinds.{callees_of}
use Rattle.jz_standing.specs.Typing.{AreMarks}

-- ---- the frame
-- an array of the stack
abbrev pub stack_array : Storage → Kind → Bool
stack_array storage.Stack (kind.Array z n) = true
stack_array s k = false

abbrev pub is_framed : Option Decl → Bool
is_framed None = false
is_framed (Some d) = stack_array d.storage (declared_kind d)

abbrev pub framed_in : Program → Option Fun → List ℕ → Bool
framed_in p None n = false
framed_in p (Some g) n = is_framed (declared_in p g n)

-- the arrays in the frame, by the functions that are copied
abbrev pub frame_of : Program → Fun → Key → Bool
frame_of p f k = framed_in p (slice_get (f ∷ callees_of (body_of p f)) k.copy) k.name

-- ---- storage and type of what a copy declares
-- an array that is passed is the caller's
abbrev pub is_lent : List Param → List ℕ → Bool
is_lent [] n = false
is_lent (q ∷ ps) n =
    (bytes_eq (ref_of q.var).name n && calls.is_array (ref_of q.var).kind) || is_lent ps n

abbrev pub own_known : Program → Option Fun → List ℕ → Known
own_known p None n = None
own_known p (Some g) n = if is_lent g.params n then None else known_in p g n

-- the function itself is the copy 0, and its parameters are its own
abbrev pub copy_known : Program → Fun → List ℕ → ℕ → Known
copy_known p f n zero = known_in p f n
copy_known p f n (suc c) = own_known p (slice_get (callees_of (body_of p f)) c) n

abbrev pub known_at : Program → Fun → Key → Known
known_at p f k = copy_known p f k.name k.copy

-- ---- variables
-- a variable of a copy, with its declaration, which typing admits; kinds and known: those of the
-- copies
pub record IsSeen
    (kinds : Kinds) (frame : Key → Bool) (known : Key → Known) (v : Var) : Type 0 where
  pub decl : Decl
  pub is : (out-Var v).decl ≡ Some decl
  pub kept : is_kept (declared_of decl) ≡ true
  pub counted : IsCountedDecl decl
  pub declared : IsDeclared kinds (ref_of v)
  pub framed : frame (key_of (ref_of v)) ≡ stack_array decl.storage (declared_kind decl)
  pub stored : known (key_of (ref_of v)) ≡ known_of v
  pub entire : (ref_of v).cell ≡ None

-- ---- integers that are known when the text is compiled
-- built of numbers, inline variables and operations that give numbers
mutual
  pub data IsInteger : Expr → Type 0 where
    integer : {e : Expr} → IntegerLayer (out-Expr e) → IsInteger e

  pub data IntegerLayer : Layer → Type 0 where
    i_number : {i : ℤ} {at : Span} → IntegerLayer (Expr-F.Num i at)
    i_variable : {v : Var} → is_inline_int (known_of v) ≡ true → IntegerLayer (Expr-F.Var v)
    i_minus : {a : Expr} {at : Span} → IsInteger a → IntegerLayer (Expr-F.Neg a at)
    i_denial : {a : Expr} {at : Span} → IsInteger a → IntegerLayer (Expr-F.Not a at)
    i_two :
        {o : BinOp} {a b : Expr} {at : Span} → gives_number o ≡ true → IsInteger a → IsInteger b
        → IntegerLayer (Expr-F.Bin o a b at)

-- ---- expressions
mutual
  -- P of each variable; arrays stand before an index alone, those in registers before an integer
  pub data IsOver (P : Var → Type 0) : Expr → Type 0 where
    over : {e : Expr} → IsOverLayer P (out-Expr e) → IsOver P e

  pub data IsOverLayer (P : Var → Type 0) : Layer → Type 0 where
    o_number : {i : ℤ} {at : Span} → IsOverLayer P (Expr-F.Num i at)
    o_truth : {b : Bool} {at : Span} → IsOverLayer P (Expr-F.Expr::Bool b at)
    o_variable :
        {v : Var} → P v → is_array (known_of v) ≡ false → IsOverLayer P (Expr-F.Var v)
    o_cell :
        {v : Var} {i : Expr} → P v → is_array (known_of v) ≡ true
        → (is_register_array (known_of v) ≡ true → IsInteger i) → IsOver P i
        → IsOverLayer P (Expr-F.Cell v i)
    o_load : {a : Access} → IsOver P (out-Access a).at → IsOverLayer P (Expr-F.Load a)
    o_minus : {a : Expr} {at : Span} → IsOver P a → IsOverLayer P (Expr-F.Neg a at)
    o_denial : {a : Expr} {at : Span} → IsOver P a → IsOverLayer P (Expr-F.Not a at)
    o_cast :
        {z : Size} {s : Bool} {a : Expr} {at : Span} → IsOver P a
        → IsOverLayer P (Expr-F.Cast z s a at)
    o_two :
        {o : BinOp} {a b : Expr} {at : Span} → IsOver P a → IsOver P b
        → IsOverLayer P (Expr-F.Bin o a b at)

abbrev pub IfOver : (Var → Type 0) → Option Expr → Type 0
IfOver P None = Unit {0}
IfOver P (Some e) = IsOver P e

abbrev pub LeftOver : (Var → Type 0) → Lval → Type 0
LeftOver P (lval.Skip at) = Unit {0}
LeftOver P (lval.Var v) = P v × (is_array (known_of v) ≡ false)
LeftOver P (lval.Cell v i) =
    P v × (is_array (known_of v) ≡ true)
    × (is_register_array (known_of v) ≡ true → IsInteger i) × IsOver P i
LeftOver P (lval.Store a) = IsOver P (out-Access a).at

-- ---- trees in which no call is left
module _ (P : Var → Type 0) (frame : Key → Bool) where
  abbrev pub OverOperation : Operation → Type 0
  OverOperation (assign to o e c at) = All (LeftOver P) to × IsOver P e × IfOver P c
  OverOperation (instruction to n args at) = All (LeftOver P) to × All (IsOver P) args
  OverOperation (unset vs) = ⊥
  OverOperation (meaningless at) = ⊥

  abbrev pub IsMarked : Operation → Type 0
  IsMarked (unset vs) = AreMarks frame vs
  IsMarked o = ⊥

  abbrev pub OverBody : Block → Type 0
  OverBody done = Unit {0}
  OverBody (op o r) = OverOperation o × OverBody r
  OverBody (quiet o r) = IsMarked o × OverBody r
  OverBody (choose t a b r) = IsOver P t.cond × OverBody a × OverBody b × OverBody r
  OverBody (loop w q t b r) = IsOver P t.cond × OverBody q × OverBody b × OverBody r
  OverBody (each i b r) = OverBody b × OverBody r
  OverBody (call c b r) = ⊥
