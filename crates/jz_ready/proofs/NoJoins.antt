-- An assignment with an operation joins no truths; and an instruction gives no flag to a cell.
use Rattle.std.proofs.Common.{◌≡◌, ℕ, zero, suc, List, [], ◌∷◌, Option, Some, None, Bool, true, false, not, ◌&&◌, ◌||◌, refl, ap, inl, inr, if◌then◌else◌}
use Rattle.std.specs.Prelude.{◌⊎◌, All, take, option_map}
use Rattle.std.proofs.lemmas.Bool.{and_parts, false≢true}
use Rattle.std.proofs.lemmas.List.Elements.{All-nil, All-cons}
use Rattle.jz_tree.specs.Operators.{joins, carries}
use Rattle.jz_tree.specs.Size.{Size}
use Rattle.jz_tree.specs.declared.expr.Storage.{Storage}
use Rattle.jz_tree.specs.declared.expr.Storage.TheVariants as storage
use Rattle.jz_tree.specs.declared.expr.BinOp.{BinOp}
use Rattle.jz_tree.specs.declared.expr.BinOp.TheVariants as op
use Rattle.jz_tree.specs.declared.expr.Expr.{Expr}
use Rattle.jz_tree.specs.declared.expr.Var.{Var}
use Rattle.jz_tree.specs.declared.expr.Expr.TheOpen.{Expr-F}
use Rattle.jz_tree.specs.declared.expr.Expr.TheViews.{out-Expr}
use Rattle.jz_tree.specs.declared.intrinsic.Intrinsic.{Intrinsic}
use Rattle.jz_tree.specs.declared.intrinsic.Intrinsic.TheVariants as name
use Rattle.jz_tree.specs.declared.intrinsic.Instance.{Instance}
use Rattle.jz_tree.specs.declared.stmt.Lval.{Lval}
use Rattle.jz_tree.specs.declared.stmt.Lval.TheVariants as lval
use Rattle.jz_tree.specs.declared.stmt.Rhs.TheVariants as rhs
use Rattle.jz_tree.specs.declared.stmt.StmtKind.TheOpen.{StmtKind-F}
use Rattle.jz_select.specs.Places.{Answers, Layer as ExprLayer}
use Rattle.jz_select.specs.declared.class.Class.{Class}
use Rattle.jz_select.specs.declared.class.Class.TheVariants as class
use Rattle.jz_select.specs.declared.class.Operand.{Operand}
use Rattle.jz_select.specs.declared.shape.Value.TheVariants as values
use Rattle.jz_select.specs.declared.shape.Shape.TheVariants as shapes
use Rattle.jz_select.specs.Operands.{class_of, dest_of}
use Rattle.jz_select.specs.Rows.{is_rm, is_flag, copy_row}
use Rattle.jz_select.specs.Shapes.{Asked, whichever, itself, beside, update_layer, value_shape, conditional, kind_layer}
use Rattle.jz_type_names.specs.declared.kinds.Kind as known
use Rattle.jz_type_names.specs.declared.kinds.Kind.TheVariants as scope
use Rattle.jz_type_names.specs.Kinds.{Known, known_of, inline_int, is_inline_int, is_array, is_array_kind}
use Rattle.jz_type_names.specs.Parts.{Layer}
use Rattle.jz_type_sizes.specs.declared.operators.Group.{Group}
use Rattle.jz_type_sizes.specs.declared.operators.Group.TheVariants as group
use Rattle.jz_type_sizes.specs.Operators.{group_of}
use Rattle.jz_type_sizes.specs.declared.signatures.Role.{Role}
use Rattle.jz_type_sizes.specs.declared.signatures.Role.TheVariants as role
use Rattle.jz_type_sizes.specs.Signatures.{results_of, instance_signature}
use Rattle.jz_type_sizes.specs.Intrinsics.{size_of_intrinsic}
use Rattle.jz_type_sizes.specs.Mismatches.{Named}
use Rattle.jz_type_rows.specs.Matching.{may_be_inline, sets_inline, needs_row}
use Rattle.jz_judgement.specs.Places.{Place, integer, truth, word, IsSum}
use Rattle.jz_judgement.specs.HasType as judged
use Rattle.jz_judgement.specs.HasType.{Term, result, Operates}
use Rattle.jz_judgement.specs.Lefts as lefts
use Rattle.jz_judgement.specs.Lefts.{BoolKind, IsBool, Wants, Leaves, Takes, IsFlag, Values}
use Rattle.jz_judgement.specs.WellTyped as well
use Rattle.jz_judgement.specs.WellTyped.{InPairs, Output, Instructs, WellTyped}
use Rattle.jz_row_laws.proofs.Booleans.{or_parts}
use Rattle.jz_row_laws.proofs.Copied.{Matches, no_free, carry_join}
use Rattle.jz_arrays.specs.Arrays.{IsNoCell, flags_in_front, flags_before}
use Rattle.jz_ready.proofs.FixedParts.{NoJoin}

-- ---- rows

first_only : (d : Class) (a o : Operand) (p : BinOp) → (copy_row (shapes.Assign None d class.Other (values.Two p a o)) || false) ≡ true → ⊥
first_only d a o p h = by_part (or_parts (copy_row (shapes.Assign None d class.Other (values.Two p a o))) false h)
  where
    by_part : (copy_row (shapes.Assign None d class.Other (values.Two p a o)) ≡ true) ⊎ (false ≡ true) → ⊥
    by_part (inl t) = false≢true (and_parts (is_rm d) _ t).1
    by_part (inr t) = false≢true t

-- of two operands none is a truth
two_join : (p : BinOp) (lead : Option Class) (d : Class) (a o : Operand) → Matches (shapes.Assign lead d class.Other (values.Two p a o)) → joins p ≡ false
two_join op.AndThen None d a o h = absurd (first_only d a o op.AndThen h)
two_join op.AndThen (Some x) d a o h = absurd (false≢true h)
two_join op.OrElse None d a o h = absurd (first_only d a o op.OrElse h)
two_join op.OrElse (Some x) d a o h = absurd (false≢true h)
two_join p lead d a o h = refl

module _ (asked : Asked) (lead : Option Class) (d : Lval) (o : BinOp) (e : Expr) where
  abbrev Row : ExprLayer → Type 0
  Row x = Matches (shapes.Assign lead (dest_of d) class.Other (update_layer asked d o e x))

  two : Matches (shapes.Assign lead (dest_of d) class.Other (values.Two o (itself d) (beside asked d None e))) → joins o ≡ false
  two h = two_join o lead (dest_of d) (itself d) (beside asked d None e) h

  update_join : (x : ExprLayer) → Row x → joins o ≡ false
  update_join (Expr-F.Bin p a b at) h = by_carry (carries o p && is_flag (class_of b)) refl h
    where
      by_carry : (c : Bool) → (carries o p && is_flag (class_of b)) ≡ c
          → Matches (shapes.Assign lead (dest_of d) class.Other (if c then values.Carry o (itself d) (beside asked d None a) else values.Two o (itself d) (beside asked d None e)))
          → joins o ≡ false
      by_carry true q m = (carry_join o p (and_parts (carries o p) (is_flag (class_of b)) q).0).0
      by_carry false q m = two_join o lead (dest_of d) (itself d) (beside asked d None e) m
  update_join (Expr-F.Num n at) h = two h
  update_join (Expr-F.Expr::Bool b at) h = two h
  update_join (Expr-F.Var v) h = two h
  update_join (Expr-F.Cell v i) h = two h
  update_join (Expr-F.Load a) h = two h
  update_join (Expr-F.Neg a at) h = two h
  update_join (Expr-F.Not a at) h = two h
  update_join (Expr-F.Cast z s a at) h = two h

value_join : (asked : Asked) (to : List Lval) (o : BinOp) (e : Expr) → Matches (value_shape asked to (Some o) e) → joins o ≡ false
value_join asked [] o e h = absurd (no_free h)
value_join asked (d ∷ []) o e h = update_join asked None d o e (out-Expr e) h
value_join asked (x ∷ d ∷ []) o e h = update_join asked (Some (dest_of x)) d o e (out-Expr e) h
value_join asked (x ∷ y ∷ d ∷ ds) o e h = absurd (no_free h)

conditional_none : (to : List Lval) (o : BinOp) (e c : Expr) → Matches (conditional to (Some o) (rhs.Value e) c) → ⊥
conditional_none [] o e c h = no_free h
conditional_none (d ∷ []) o e c h = no_free h
conditional_none (x ∷ d ∷ ds) o e c h = no_free h

abbrev pub RowAt : Layer → Type 0
RowAt x = needs_row x ≡ true → (answers : Answers) × Matches (kind_layer (whichever answers) x)

row_join : (to : List Lval) (o : BinOp) (e : Expr) (c : Option Expr) (answers : Answers) → Matches (kind_layer (whichever answers) (StmtKind-F.Assign to (Some o) (rhs.Value e) c)) → joins o ≡ false
row_join to o e None answers h = value_join (whichever answers) to o e h
row_join to o e (Some c) answers h = absurd (conditional_none to o e c h)

-- ---- what sets an inline variable

group_join : (o : BinOp) → (group_of o ≡ group.Logic → ⊥) → joins o ≡ false
group_join op.AndThen h = absurd (h refl)
group_join op.OrElse h = absurd (h refl)
group_join o h = refl

other_group : (g : Group) (o : BinOp) → group_of o ≡ g → (g ≡ group.Logic → ⊥) → joins o ≡ false
other_group g o e h = group_join o (λ l. h (by_group e l))
  where
    by_group : group_of o ≡ g → group_of o ≡ group.Logic → g ≡ group.Logic
    by_group a b = cc

no_arith : group.Arith ≡ group.Logic → ⊥
no_arith e = cc

no_shift : group.Shift ≡ group.Logic → ⊥
no_shift e = cc

no_compare : group.Compare ≡ group.Logic → ⊥
no_compare e = cc

sum_join : (o : BinOp) → IsSum o → joins o ≡ false
sum_join op.Add h = refl
sum_join op.Sub h = refl
sum_join o h = absurd h

operates_join : (o : BinOp) (a b : Term) (p : Place) → Operates o a b p → (p ≡ truth → ⊥) → joins o ≡ false
operates_join o a b p (judged.arithmetic g t k x y) h = other_group group.Arith o g no_arith
operates_join o a b p (judged.carry s t x y) h = sum_join o s
operates_join o a b p (judged.shift g t k x y) h = other_group group.Shift o g no_shift
operates_join o a b p (judged.integers g k x y) h = other_group group.Compare o g no_compare
operates_join o a b p (judged.words z g s x y) h = other_group group.Compare o g no_compare
operates_join o a b p (judged.logic g x y) h = absurd (h refl)

result_join : (o : BinOp) (d : Lval) (e : Expr) (p : Place) → judged.HasType (result o d e) p → (p ≡ truth → ⊥) → joins o ≡ false
result_join o d e p (judged.updated t) h = operates_join o (judged.left d) (judged.value e) p t h

no_bool : (s : Storage) (k : known.Kind) → inline_int s k ≡ true → BoolKind k → ⊥
no_bool s scope.Int e b = b
no_bool s (scope.Word z) e b = b
no_bool s (scope.Array z) e b = b
no_bool storage.Inline scope.Truth e b = false≢true e
no_bool storage.Reg scope.Truth e b = false≢true e
no_bool storage.Stack scope.Truth e b = false≢true e

bool_not : (k : Known) → is_inline_int k ≡ true → IsBool k → ⊥
bool_not None e b = b
bool_not (Some d) e b = no_bool d.storage d.kind e b

no_cells_kept : (s : Storage) (k : known.Kind) → inline_int s k ≡ true → is_array_kind k ≡ true → ⊥
no_cells_kept s scope.Int e a = false≢true a
no_cells_kept s scope.Truth e a = false≢true a
no_cells_kept s (scope.Word z) e a = false≢true a
no_cells_kept storage.Inline (scope.Array y) e a = false≢true e
no_cells_kept storage.Reg (scope.Array y) e a = false≢true e
no_cells_kept storage.Stack (scope.Array y) e a = false≢true e

array_not : (k : Known) → is_inline_int k ≡ true → is_array k ≡ true → ⊥
array_not None e a = false≢true a
array_not (Some d) e a = no_cells_kept d.storage d.kind e a

differ : (b : Bool) → b ≡ true → b ≡ false → ⊥
differ true e f = false≢true (sym_of f)
  where
    sym_of : true ≡ false → false ≡ true
    sym_of x = cc
differ false e f = false≢true e

integer_not : integer ≡ truth → ⊥
integer_not e = cc

word_not : (z : Size) → word z ≡ truth → ⊥
word_not z e = cc

wants_join : (v : Var) (o : BinOp) (e : Expr) (p : Place) → is_inline_int (known_of v) ≡ true → Wants (lval.Var v) p → judged.HasType (result o (lval.Var v) e) p → joins o ≡ false
wants_join v o e p i (lefts.number n) t = result_join o (lval.Var v) e p t integer_not
wants_join v o e p i (lefts.bool b) t = absurd (bool_not (known_of v) i b)
wants_join v o e p i (lefts.variable {z = z} w) t = result_join o (lval.Var v) e p t (word_not z)

takes_join : (v : Var) (o : BinOp) (e : Expr) → is_inline_int (known_of v) ≡ true → Takes (lval.Var v) (result o (lval.Var v) e) → joins o ≡ false
takes_join v o e i (lefts.wanted p w t) = wants_join v o e p i w t
takes_join v o e i (lefts.left p (lefts.array a) own t) = absurd (array_not (known_of v) i a)
takes_join v o e i (lefts.left p (lefts.number n f k) own t) = absurd (differ (is_inline_int (known_of v)) i f)

inline_join : (named : Named) (to : List Lval) (o : BinOp) (e : Expr) (c : Option Expr) → sets_inline to c ≡ true → WellTyped named (StmtKind-F.Assign to (Some o) (rhs.Value e) c) → joins o ≡ false
inline_join named [] o e c i w = absurd (false≢true i)
inline_join named (lval.Skip at ∷ []) o e c i w = absurd (false≢true i)
inline_join named (lval.Cell v x ∷ []) o e c i w = absurd (false≢true i)
inline_join named (lval.Store a ∷ []) o e c i w = absurd (false≢true i)
inline_join named (d ∷ f ∷ ds) o e c i w = absurd (false≢true i)
inline_join named (lval.Var v ∷ []) o e c i (well.assigned (lefts.one t) k) = takes_join v o e (and_parts (is_inline_int (known_of v)) (may_be_inline c) i).0 t

pub no_join : (named : Named) (to : List Lval) (o : Option BinOp) (e : Expr) (c : Option Expr) → WellTyped named (StmtKind-F.Assign to o (rhs.Value e) c) → RowAt (StmtKind-F.Assign to o (rhs.Value e) c) → NoJoin o
no_join named to None e c w r = tt
no_join named to (Some o) e c w r = by_need (sets_inline to c) refl
  where
    by_need : (b : Bool) → sets_inline to c ≡ b → joins o ≡ false
    by_need true q = inline_join named to o e c q w
    by_need false q = let m = r (ap not q) in row_join to o e c m.0 m.1

-- ---- flags of instructions

abbrev FlagsFront : ℕ → List Role → Type 0
FlagsFront zero rs = Unit {0}
FlagsFront (suc k) (role.Flag ∷ rs) = FlagsFront k rs
FlagsFront (suc k) _ = ⊥

front : (n : Intrinsic) → FlagsFront (flags_in_front n) (results_of n)
front name.Add = tt
front name.Sub = tt
front name.And = tt
front name.Or = tt
front name.Xor = tt
front name.Adc = tt
front name.Sbb = tt
front name.Neg = tt
front name.Inc = tt
front name.Dec = tt
front name.Not = tt
front name.Bswap = tt
front name.Lea = tt
front name.Cmp = tt
front name.Test = tt
front name.Shl = tt
front name.Shr = tt
front name.Sar = tt
front name.Rol = tt
front name.Ror = tt
front name.Imul = tt
front name.Mul = tt
front name.Div = tt
front name.Setcc = tt

flag_out : (z : Option Size) (d : Lval) → Output z role.Flag d → IsFlag d
flag_out None d h = h
flag_out (Some z) d h = h

flag_no_cell : (d : Lval) → IsFlag d → IsNoCell d
flag_no_cell (lval.Skip at) h = tt
flag_no_cell (lval.Var v) h = tt
flag_no_cell (lval.Cell v i) h = elim h [ ]
flag_no_cell (lval.Store a) h = tt

no_cells : (z : Option Size) (k : ℕ) (rs : List Role) (ds : List Lval) → FlagsFront k rs → InPairs (Output z) rs ds → All IsNoCell (take k ds)
no_cells z zero rs ds h p = All-nil IsNoCell
no_cells z (suc k) [] ds h p = absurd h
no_cells z (suc k) (role.Flag ∷ rs) [] h p = elim p [ ]
no_cells z (suc k) (role.Flag ∷ rs) (d ∷ ds) h (well.next f p) = All-cons IsNoCell d (take k ds) (flag_no_cell d (flag_out z d f)) (no_cells z k rs ds h p)
no_cells z (suc k) (role.Value ∷ rs) ds h p = absurd h
no_cells z (suc k) (role.Count ∷ rs) ds h p = absurd h
no_cells z (suc k) (role.Condition ∷ rs) ds h p = absurd h
no_cells z (suc k) (role.Address ∷ rs) ds h p = absurd h
no_cells z (suc k) (role.Byte ∷ rs) ds h p = absurd h

pub flags_no_cells : (i : Option Instance) (to : List Lval) (args : List Expr) → Instructs (option_map instance_signature i) to args → All IsNoCell (take (flags_before i) to)
flags_no_cells None to args h = All-nil IsNoCell
flags_no_cells (Some i) to args (well.instance_of outs ins) =
    no_cells (size_of_intrinsic (instance_signature i) to args) (flags_in_front i.name) (results_of i.name) to (front i.name) outs
