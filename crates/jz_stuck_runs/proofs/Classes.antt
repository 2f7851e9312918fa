-- The class of an operand against its type: a register, memory or an inline integer is no truth, and
-- a flag is what a run takes for one.
use Rattle.std.proofs.Common.{◌≡◌, ℤ, Bool, true, false, Option, Some, None, refl, sym, ap, ◌∙◌, subst, if◌then◌else◌}
use Rattle.std.proofs.lemmas.Bool.{false≢true, and_parts}
use Rattle.jz_tree.specs.declared.expr.Storage.{Storage}
use Rattle.jz_tree.specs.declared.expr.Storage.TheVariants as storage
use Rattle.jz_tree.specs.declared.expr.BinOp.{BinOp}
use Rattle.jz_tree.specs.declared.expr.BinOp.TheVariants as op
use Rattle.jz_tree.specs.declared.expr.Expr.{Expr}
use Rattle.jz_tree.specs.declared.expr.Ty.{Ty}
use Rattle.jz_tree.specs.declared.expr.Access.{Access}
use Rattle.jz_tree.specs.declared.expr.Decl.{Decl}
use Rattle.jz_tree.specs.declared.expr.Var.{Var}
use Rattle.jz_tree.specs.declared.expr.Expr.TheOpen.{Expr-F}
use Rattle.jz_tree.specs.declared.expr.Expr.TheViews.{out-Expr, roll-Expr, out-roll-Expr, out-Access}
use Rattle.jz_tree.specs.declared.expr.Expr.TheFolds.{ind-Expr, map-Expr}
use Rattle.jz_integers.specs.Integers.{written_number}
use Rattle.jz_type_names.specs.declared.kinds.Kind as known
use Rattle.jz_type_names.specs.declared.kinds.Kind.TheVariants as scope
use Rattle.jz_type_names.specs.Kinds.{Known, known_of}
use Rattle.jz_type_sizes.specs.declared.operators.Group.TheVariants as group
use Rattle.jz_type_sizes.specs.Operators.{group_of}
use Rattle.jz_select.specs.declared.class.Class.{Class}
use Rattle.jz_select.specs.declared.class.Class.TheVariants as class
use Rattle.jz_select.specs.declared.class.Mask.TheVariants as mask
use Rattle.jz_select.specs.Sums.{is_address, is_index}
use Rattle.jz_select.specs.Look.{look_of, terms_of, is_inline_var, gives_number, bin_inline}
use Rattle.jz_select.specs.Operands.{class_at, var_class, class_if, inline_or, mask_of, is_byte, register_layer, masked_class, class_layer, class_of}
use Rattle.jz_select.specs.Rows as rows
use Rattle.jz_select.specs.Rows.{is_rmi}
use Rattle.jz_judgement.specs.Places.{truth, KindGoes, Goes}
use Rattle.jz_judgement.specs.HasType as judged
use Rattle.jz_judgement.specs.HasType.{Layer, value, HasType, Types, Accesses, Operates}
use Rattle.jz_meaning.specs.declared.access.Kind as meant
use Rattle.jz_meaning.specs.Values.{ref_of}
use Rattle.jz_meaning.specs.Assignments.{is_bool, is_flag_layer, is_flag}
use Rattle.jz_run_laws.specs.Counted as counted
use Rattle.jz_run_laws.specs.Counted.{Counted}
use Rattle.jz_run_laws.proofs.SameKinds as same
use Rattle.jz_run_laws.proofs.SameKinds.{SameKind, SameKnown}
use Rattle.jz_run_laws.proofs.Sizes.{CountedLayer, types_of, each_of, variable_law}
use Rattle.jz_run_laws.proofs.Parts.{AnyOf}
use Rattle.jz_row_laws.proofs.Fixed.{look_layer, look_is, var_known, no_if, no_cell}

-- ---- inline integers
var_truth : (k : Known) → is_inline_var k ≡ true → Goes k truth → ⊥
var_truth None e g = g
var_truth (Some d) e g = by_kind d.storage d.kind e g
  where
    by_kind : (s : Storage) (k : known.Kind) → is_inline_var (Some (record { storage = s; kind = k })) ≡ true → KindGoes k truth → ⊥
    by_kind s scope.Int e g = g
    by_kind s (scope.Word z) e g = g
    by_kind s (scope.Array z) e g = g
    by_kind storage.Reg scope.Truth e g = false≢true e
    by_kind storage.Stack scope.Truth e g = false≢true e
    by_kind storage.Inline scope.Truth e g = false≢true e

compare_number : (o : BinOp) → group_of o ≡ group.Compare → gives_number o ≡ true → ⊥
compare_number op.Eq g e = false≢true e
compare_number op.Ne g e = false≢true e
compare_number op.Lt g e = false≢true e
compare_number op.Le g e = false≢true e
compare_number op.Gt g e = false≢true e
compare_number op.Ge g e = false≢true e
compare_number op.LtS g e = false≢true e
compare_number op.LeS g e = false≢true e
compare_number op.GtS g e = false≢true e
compare_number op.GeS g e = false≢true e
compare_number op.OrElse g e = false≢true e
compare_number op.AndThen g e = false≢true e
compare_number op.Shl g e = clash g
  where
    clash : group.Shift ≡ group.Compare → ⊥
    clash e = cc
compare_number op.Shr g e = clash g
  where
    clash : group.Shift ≡ group.Compare → ⊥
    clash e = cc
compare_number op.Sar g e = clash g
  where
    clash : group.Shift ≡ group.Compare → ⊥
    clash e = cc
compare_number op.Rol g e = clash g
  where
    clash : group.Shift ≡ group.Compare → ⊥
    clash e = cc
compare_number op.Ror g e = clash g
  where
    clash : group.Shift ≡ group.Compare → ⊥
    clash e = cc
compare_number o g e = clash g
  where
    clash : group.Arith ≡ group.Compare → ⊥
    clash e = cc

logic_number : (o : BinOp) → group_of o ≡ group.Logic → gives_number o ≡ true → ⊥
logic_number op.OrElse g e = false≢true e
logic_number op.AndThen g e = false≢true e
logic_number op.Eq g e = false≢true e
logic_number op.Ne g e = false≢true e
logic_number op.Lt g e = false≢true e
logic_number op.Le g e = false≢true e
logic_number op.Gt g e = false≢true e
logic_number op.Ge g e = false≢true e
logic_number op.LtS g e = false≢true e
logic_number op.LeS g e = false≢true e
logic_number op.GtS g e = false≢true e
logic_number op.GeS g e = false≢true e
logic_number op.Shl g e = clash g
  where
    clash : group.Shift ≡ group.Logic → ⊥
    clash e = cc
logic_number op.Shr g e = clash g
  where
    clash : group.Shift ≡ group.Logic → ⊥
    clash e = cc
logic_number op.Sar g e = clash g
  where
    clash : group.Shift ≡ group.Logic → ⊥
    clash e = cc
logic_number op.Rol g e = clash g
  where
    clash : group.Shift ≡ group.Logic → ⊥
    clash e = cc
logic_number op.Ror g e = clash g
  where
    clash : group.Shift ≡ group.Logic → ⊥
    clash e = cc
logic_number o g e = clash g
  where
    clash : group.Arith ≡ group.Logic → ⊥
    clash e = cc

operation_truth : (o : BinOp) (a b : Expr) → gives_number o ≡ true → Operates o (value a) (value b) truth → ⊥
operation_truth o a b e (judged.arithmetic g n m x y) = n
operation_truth o a b e (judged.carry s n x y) = n
operation_truth o a b e (judged.shift g n m x y) = n
operation_truth o a b e (judged.integers g m x y) = compare_number o g e
operation_truth o a b e (judged.words z g m x y) = compare_number o g e
operation_truth o a b e (judged.logic g x y) = logic_number o g e

abbrev InlineLaw : Expr → Type 0
InlineLaw e = (look_of e).inline ≡ true → HasType (value e) truth → ⊥

abbrev Proved : Type 0
Proved = Expr-F ((e : Expr) × InlineLaw e) ((t : Ty) × AnyOf t) ((a : Access) × AnyOf a) ((d : Decl) × AnyOf d) ((v : Var) × AnyOf v)

abbrev bare : Proved → Layer
bare y = map-Expr _ _ _ _ _ _ _ _ _ _ (λ e. e.0) (λ e. e.0) (λ e. e.0) (λ e. e.0) (λ e. e.0) y

layer_inline : (y : Proved) → (look_layer (bare y)).inline ≡ true → Types (bare y) truth → ⊥
layer_inline (Expr-F.Num n at) e (judged.number k) = k
layer_inline (Expr-F.Expr::Bool b at) e t = false≢true e
layer_inline (Expr-F.Var v) e (judged.variable g) = var_truth (known_of v.0) (ap is_inline_var (sym (var_known v.0)) ∙ e) g
layer_inline (Expr-F.Cell v i) e t = false≢true e
layer_inline (Expr-F.Load a) e t = false≢true e
layer_inline (Expr-F.Neg a at) e (judged.negated k t) = k
layer_inline (Expr-F.Not a at) e (judged.inverted t) = a.1 e t
layer_inline (Expr-F.Cast z s a at) e t = false≢true e
layer_inline (Expr-F.Bin o a b at) e (judged.operation t) = operation_truth o a.0 b.0 (and_parts (gives_number o) _ e).0 t

inline_case : (y : Proved) → InlineLaw (roll-Expr (bare y))
inline_case y e t =
    layer_inline y (sym (ap (λ l. l.inline) (look_is (bare y))) ∙ e) (subst (λ x. Types x truth) (out-roll-Expr (bare y)) (types_of (roll-Expr (bare y)) truth t))

inline_truth : (e : Expr) → InlineLaw e
inline_truth =
    ind-Expr InlineLaw (λ t. AnyOf t) (λ a. AnyOf a) (λ d. AnyOf d) (λ x. AnyOf x)
    (λ x y is. subst (λ z. InlineLaw (roll-Expr z)) is (inline_case y))
    (λ x y is. tt)
    (λ x y is. tt)
    (λ x y is. tt)
    (λ x y is. tt)

-- ---- classes
mask_none : (test : Class → Bool) → test class.Other ≡ false → test (class.Masked mask.Five) ≡ false → test (class.Masked mask.Six) ≡ false → (n : Option ℤ) → test (mask_of n) ≡ true → ⊥
mask_none test n f s None h = false≢true (sym n ∙ h)
mask_none test n f s (Some k) h = two _ _ h
  where
    two : (a b : Bool) → test (if a then class.Masked mask.Five else if b then class.Masked mask.Six else class.Other) ≡ true → ⊥
    two true b h = false≢true (sym f ∙ h)
    two false true h = false≢true (sym s ∙ h)
    two false false h = false≢true (sym n ∙ h)

masked_if : (test : Class → Bool) → test class.Other ≡ false → (b : Bool) (c : Class) → (test c ≡ true → ⊥) → test (class_if b c) ≡ true → ⊥
masked_if test n true c f h = f h
masked_if test n false c f h = false≢true (sym n ∙ h)

pub masked_none : (test : Class → Bool) → test class.Other ≡ false → test (class.Masked mask.Five) ≡ false → test (class.Masked mask.Six) ≡ false → (o : BinOp) (a b : Expr) → test (masked_class o a b) ≡ true → ⊥
masked_none test n f s op.And a b h = masked_if test n (is_byte (register_layer (out-Expr a))) (mask_of (written_number b)) (mask_none test n f s (written_number b)) h
masked_none test n f s o a b h = false≢true (sym n ∙ h)

inline_only : (b : Bool) (c : Class) → (is_rmi c ≡ true → ⊥) → is_rmi (inline_or b c) ≡ true → b ≡ true
inline_only true c n h = refl
inline_only false c n h = absurd (n h)

other_not : is_rmi class.Other ≡ true → ⊥
other_not h = false≢true h

kind_truth : (s : Storage) (k : known.Kind) → is_rmi (class_at s k) ≡ true → KindGoes k truth → ⊥
kind_truth s scope.Int e g = g
kind_truth s (scope.Word z) e g = g
kind_truth s (scope.Array z) e g = g
kind_truth storage.Reg scope.Truth e g = false≢true e
kind_truth storage.Stack scope.Truth e g = false≢true e
kind_truth storage.Inline scope.Truth e g = false≢true e

known_truth : (k : Known) → is_rmi (var_class k) ≡ true → Goes k truth → ⊥
known_truth None e g = false≢true e
known_truth (Some d) e g = kind_truth d.storage d.kind e g

access_truth : (a : judged.AccessLayer) → Accesses a truth → ⊥
access_truth a (judged.sized z e t x) = t

class_truth : (x : Layer) → is_rmi (class_layer x) ≡ true → Types x truth → ⊥
class_truth (Expr-F.Num n at) e (judged.number k) = k
class_truth (Expr-F.Expr::Bool b at) e t = false≢true e
class_truth (Expr-F.Var v) e (judged.variable g) = known_truth (known_of v) e g
class_truth (Expr-F.Cell v i) e (judged.cell z a t x) = t
class_truth (Expr-F.Load a) e (judged.load x) = access_truth (out-Access a) x
class_truth (Expr-F.Neg a at) e (judged.negated k t) = k
class_truth (Expr-F.Not a at) e (judged.inverted t) = inline_truth a (inline_only (look_of a).inline class.Other other_not e) t
class_truth (Expr-F.Cast z s a at) e t = false≢true e
class_truth (Expr-F.Bin o a b at) e (judged.operation t) =
    operation_truth o a b (and_parts (gives_number o) _ (inline_only (bin_inline o (look_of a) (look_of b)) (masked_class o a b) (masked_none is_rmi refl refl refl o a b) e)).0 t

-- a register, memory or an inline integer is no truth
pub rmi_no_truth : (e : Expr) → is_rmi (class_of e) ≡ true → HasType (value e) truth → ⊥
rmi_no_truth e h t = class_truth (out-Expr e) h (types_of e truth t)

-- ---- flags
flag_kind : (s : Storage) (k : known.Kind) (m : meant.Kind) → SameKind k m → rows.is_flag (class_at s k) ≡ true → is_bool m ≡ true
flag_kind s k m same.bool e = refl
flag_kind storage.Reg k m same.int e = absurd (false≢true e)
flag_kind storage.Stack k m same.int e = absurd (false≢true e)
flag_kind storage.Inline k m same.int e = absurd (false≢true e)
flag_kind storage.Reg k m (same.word z) e = absurd (false≢true e)
flag_kind storage.Stack k m (same.word z) e = absurd (false≢true e)
flag_kind storage.Inline k m (same.word z) e = absurd (false≢true e)
flag_kind storage.Reg k m (same.array z n) e = absurd (false≢true e)
flag_kind storage.Stack k m (same.array z n) e = absurd (false≢true e)
flag_kind storage.Inline k m (same.array z n) e = absurd (false≢true e)

flag_known : (k : Known) (m : meant.Kind) → SameKnown k m → rows.is_flag (var_class k) ≡ true → is_bool m ≡ true
flag_known None m s e = absurd (false≢true e)
flag_known (Some d) m s e = flag_kind d.storage d.kind m s e

inline_flag : (b : Bool) (c : Class) → (rows.is_flag c ≡ true → ⊥) → rows.is_flag (inline_or b c) ≡ true → ⊥
inline_flag true c n h = false≢true h
inline_flag false c n h = n h

flag_layers : (x : Layer) → rows.is_flag (class_layer x) ≡ true → CountedLayer x → is_flag_layer x ≡ true
flag_layers (Expr-F.Var v) e (counted.variable k) = flag_known (known_of v) (ref_of v).kind ((variable_law v).1 k) e
flag_layers (Expr-F.Num n at) e c = absurd (false≢true e)
flag_layers (Expr-F.Expr::Bool b at) e c = absurd (false≢true e)
flag_layers (Expr-F.Cell v i) e c = absurd (no_cell rows.is_flag (λ z. refl) (λ z. refl) refl (known_of v) (look_of i).inline (is_index (terms_of i)) e)
flag_layers (Expr-F.Load a) e c = absurd (no_if rows.is_flag refl (is_address (terms_of (out-Access a).at)) (class.Mem (out-Access a).size) refl e)
flag_layers (Expr-F.Neg a at) e c = absurd (inline_flag (look_of a).inline class.Other (λ h. false≢true h) e)
flag_layers (Expr-F.Not a at) e c = absurd (inline_flag (look_of a).inline class.Other (λ h. false≢true h) e)
flag_layers (Expr-F.Cast z s a at) e c = absurd (false≢true e)
flag_layers (Expr-F.Bin o a b at) e c = absurd (inline_flag (bin_inline o (look_of a) (look_of b)) (masked_class o a b) (masked_none rows.is_flag refl refl refl o a b) e)

-- the class of a flag is that of a bool variable
pub class_flag : (e : Expr) → Counted e → rows.is_flag (class_of e) ≡ true → is_flag e ≡ true
class_flag e c h = flag_layers (out-Expr e) h (each_of e c)
