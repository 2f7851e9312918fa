-- What turns expressions into expressions form by form keeps their classes.
use Rattle.std.proofs.Common.{◌≡◌, ◌⊎◌, inl, inr, ◌+◌, ℤ, pos, Option, Some, None, Bool, true, false, ◌&&◌, refl, sym, ap, ap₂, ◌∙◌, subst, if◌then◌else◌}
use Rattle.std.specs.Ordering.{int_eq}
use Rattle.std.specs.Prelude.{nat_le}
use Rattle.std.proofs.lemmas.Bool.{false≢true, and_parts}
use Rattle.jz_tree.specs.Size.{Size}
use Rattle.jz_tree.specs.Size.TheVariants as sizes
use Rattle.jz_tree.specs.Span.{Span}
use Rattle.jz_tree.specs.declared.expr.Storage.{Storage}
use Rattle.jz_tree.specs.declared.expr.Storage.TheVariants as storage
use Rattle.jz_tree.specs.declared.expr.BinOp.{BinOp}
use Rattle.jz_tree.specs.declared.expr.BinOp.TheVariants as op
use Rattle.jz_tree.specs.declared.expr.Expr.{Expr}
use Rattle.jz_tree.specs.declared.expr.Access.{Access}
use Rattle.jz_tree.specs.declared.expr.Var.{Var}
use Rattle.jz_tree.specs.declared.expr.Expr.TheOpen.{Expr-F}
use Rattle.jz_tree.specs.declared.expr.Expr.TheViews.{out-Expr, out-Access}
use Rattle.jz_tree.specs.declared.stmt.Lval.{Lval}
use Rattle.jz_tree.specs.declared.stmt.Lval.TheVariants as lval
use Rattle.jz_integers.specs.declared.constant.Constant.{Constant}
use Rattle.jz_integers.specs.Integers as numbers
use Rattle.jz_integers.specs.Integers.{plain_value, the_number, written_number}
use Rattle.jz_type_names.specs.declared.kinds.Kind.{Kind}
use Rattle.jz_type_names.specs.declared.kinds.Kind.TheVariants as kind
use Rattle.jz_type_names.specs.Kinds.{Known, known_of, is_inline}
use Rattle.jz_select.specs.declared.class.Mask.TheVariants as mask
use Rattle.jz_select.specs.declared.class.Class.{Class}
use Rattle.jz_select.specs.declared.class.Sum.{Sum}
use Rattle.jz_select.specs.declared.class.Class.TheVariants as class
use Rattle.jz_select.specs.Sums.{term, sum_of, joined_sum, is_sum, is_address, is_index}
use Rattle.jz_select.specs.Look.{Look, look_of, terms_of, looks, is_inline_var, is_reg64, is_regs64, compares_values, bin_inline}
use Rattle.jz_select.specs.Operands.{class_at, var_class, class_if, cell_at, cell_class, mem_of, inline_or, mask_of, is_byte, register_layer, masked_class, class_layer, class_of, dest_of}
use Rattle.jz_select.specs.Rows.{is_rm, is_rmi, is_flag, is_skip}
use Rattle.jz_select.specs.Shapes.{compares, has_flags}
use Rattle.jz_judgement.specs.HasType.{Layer}
use Rattle.jz_run_laws.specs.Counted as counted
use Rattle.jz_row_laws.proofs.Fixed.{look_layer, var_looked, var_known}
use Rattle.jz_kept_types.proofs.Turning.{AccessTurns}
use Rattle.jz_kept_classes.specs.Classes.{KeepsClass, the_same, from_other, KeepsOperand, KeepsClasses}
use Rattle.jz_kept_classes.proofs.Formed.{Formed, FormedLayer, formed}
use Rattle.jz_kept_classes.proofs.Layers.{look_out, flags_layer, flags_out, number_of_var, number_at, value_layer, value_out}
use Rattle.jz_kept_classes.proofs.Building.{IsBuilt, alike, otherwise, itself, and_first, and_second, two, two_built, inline_kept, sum_kept, signed, two_condition}

-- ---- classes
pub test_kept : (test : Class → Bool) → test class.Other ≡ false → (c d : Class) → KeepsClass c d → test c ≡ true → test d ≡ true
test_kept test n c d the_same h = h
test_kept test n c d (from_other f s) h = absurd (false≢true (sym n ∙ h))

pub same_class : (test : Class → Bool) → test class.Other ≡ false → (c d : Class) → KeepsClass c d → test c ≡ true → d ≡ c
same_class test n c d the_same h = refl
same_class test n c d (from_other f s) h = absurd (false≢true (sym n ∙ h))

pub flag_same : (c d : Class) → KeepsClass c d → is_flag d ≡ is_flag c
flag_same c d the_same = refl
flag_same c d (from_other f s) = f

-- no flag, and no `_`
abbrev pub IsValue : Class → Type 0
IsValue c = (is_flag c ≡ false) × (is_skip c ≡ false)

pub from_none : (c : Class) → IsValue c → KeepsClass class.Other c
from_none c v = from_other v.0 v.1

value_if : (b : Bool) (c : Class) → IsValue c → IsValue (class_if b c)
value_if true c v = v
value_if false c v = (refl, refl)

pub value_or : (b : Bool) (c : Class) → IsValue c → IsValue (inline_or b c)
value_or true c v = (refl, refl)
value_or false c v = v

value_mask : (n : Option ℤ) → IsValue (mask_of n)
value_mask None = (refl, refl)
value_mask (Some k) = by (int_eq k (pos 31)) (int_eq k (pos 63))
  where
    by : (a b : Bool) → IsValue (if a then class.Masked mask.Five else if b then class.Masked mask.Six else class.Other)
    by true b = (refl, refl)
    by false true = (refl, refl)
    by false false = (refl, refl)

value_masked : (o : BinOp) (a b : Expr) → IsValue (masked_class o a b)
value_masked op.And a b = value_if (is_byte (register_layer (out-Expr a))) (mask_of (written_number b)) (value_mask (written_number b))
value_masked o a b = (refl, refl)

value_cell_at : (s : Storage) (k : Kind) (i j : Bool) → IsValue (cell_at s k i j)
value_cell_at storage.Reg (kind.Array z) i j = value_if i (class.Reg z) (refl, refl)
value_cell_at storage.Stack (kind.Array z) i j = value_if j (class.Mem (Some z)) (refl, refl)
value_cell_at s k i j = (refl, refl)

value_cell : (k : Known) (i j : Bool) → IsValue (cell_class k i j)
value_cell None i j = (refl, refl)
value_cell (Some d) i j = value_cell_at d.storage d.kind i j

none_cell_at : (s : Storage) (k : Kind) → cell_at s k false false ≡ class.Other
none_cell_at storage.Reg (kind.Array z) = refl
none_cell_at storage.Stack (kind.Array z) = refl
none_cell_at s k = refl

none_cell : (k : Known) → cell_class k false false ≡ class.Other
none_cell None = refl
none_cell (Some d) = none_cell_at d.storage d.kind

-- inline before, inline behind; else there was no class
pub inline_class : (i j : Bool) (c : Class) → (i ≡ true → j ≡ true) → IsValue c → KeepsClass (inline_or i class.Other) (inline_or j c)
inline_class true j c h v = subst (λ b. KeepsClass class.Inline (inline_or b c)) (sym (h refl)) the_same
inline_class false j c h v = from_none (inline_or j c) (value_or j c v)

-- ---- sums
no_index : (e : Expr) → (look_of e).sum.good ≡ false → is_index (terms_of e) ≡ false
no_index e h = and_first (look_of e).sum.good (nat_le (terms_of e).plain 1 && nat_le (terms_of e).scaled 0) h

no_address : (e : Expr) → (look_of e).sum.good ≡ false → is_address (terms_of e) ≡ false
no_address e h =
    and_first (is_sum (terms_of e)) (nat_le 1 (terms_of e).plain)
    (and_first (look_of e).sum.good (nat_le (terms_of e).scaled 1 && nat_le ((terms_of e).plain + (terms_of e).scaled) 2) h)

abbrev terms_by : Sum → Sum
terms_by s = joined_sum (sum_of 0 0 true) s

pub cell_kept : (e b : Expr) (k : Known) → IsBuilt (look_of e) (look_of b) → KeepsClass (cell_class k (look_of e).inline (is_index (terms_of e))) (cell_class k (look_of b).inline (is_index (terms_of b)))
cell_kept e b k (alike i r s t) =
    subst (λ (c : Class). KeepsClass (cell_class k (look_of e).inline (is_index (terms_of e))) c)
    (sym (ap₂ (λ (p : Bool) (q : Sum). cell_class k p (is_index (terms_by q))) i t)) the_same
cell_kept e b k (otherwise n) =
    let c = cell_class k (look_of b).inline (is_index (terms_of b)) in
    subst (λ (d : Class). KeepsClass d c) (sym (ap₂ (λ p q. cell_class k p q) n.inline (no_index e n.bad) ∙ none_cell k))
    (from_none c (value_cell k (look_of b).inline (is_index (terms_of b))))

pub memory_kept : (e b : Expr) (z : Option Size) → IsBuilt (look_of e) (look_of b) → KeepsClass (mem_of z e) (mem_of z b)
memory_kept e b z (alike i r s t) =
    subst (λ (c : Class). KeepsClass (mem_of z e) c) (sym (ap (λ (q : Sum). class_if (is_address (terms_by q)) (class.Mem z)) t)) the_same
memory_kept e b z (otherwise n) =
    subst (λ (d : Class). KeepsClass d (mem_of z b)) (sym (ap (λ q. class_if q (class.Mem z)) (no_address e n.bad)))
    (from_none (mem_of z b) (value_if (is_address (terms_of b)) (class.Mem z) (refl, refl)))

-- ---- a byte that is masked
byte_kind : (s : Storage) (k : Kind) → is_byte (class_at s k) ≡ true → is_inline_var (Some (record { storage = s; kind = k })) ≡ false
byte_kind storage.Reg k h = refl
byte_kind storage.Stack k h = refl
byte_kind storage.Inline kind.Int h = absurd (false≢true h)
byte_kind storage.Inline kind.Truth h = refl
byte_kind storage.Inline (kind.Word z) h = refl
byte_kind storage.Inline (kind.Array z) h = refl

byte_known : (k : Known) → is_byte (var_class k) ≡ true → is_inline_var k ≡ false
byte_known None h = refl
byte_known (Some d) h = byte_kind d.storage d.kind h

byte_layer : (x : Layer) → is_byte (register_layer x) ≡ true → (look_layer x).inline ≡ false
byte_layer (Expr-F.Var v) h = ap is_inline_var (var_known v) ∙ byte_known (known_of v) h
byte_layer (Expr-F.Cell v i) h = refl
byte_layer (Expr-F.Num n at) h = absurd (false≢true h)
byte_layer (Expr-F.Expr::Bool b at) h = absurd (false≢true h)
byte_layer (Expr-F.Load a) h = absurd (false≢true h)
byte_layer (Expr-F.Neg a at) h = absurd (false≢true h)
byte_layer (Expr-F.Not a at) h = absurd (false≢true h)
byte_layer (Expr-F.Cast z s a at) h = absurd (false≢true h)
byte_layer (Expr-F.Bin o a b at) h = absurd (false≢true h)

byte_not_inline : (e : Expr) → is_byte (register_layer (out-Expr e)) ≡ true → (look_of e).inline ≡ false
byte_not_inline e h = ap (λ (l : Look). l.inline) (look_out e) ∙ byte_layer (out-Expr e) h

mask_kept : (m n : Option ℤ) → ((i : ℤ) → m ≡ Some i → n ≡ Some i) → KeepsClass (mask_of m) (mask_of n)
mask_kept None n h = from_none (mask_of n) (value_mask n)
mask_kept (Some i) n h = subst (λ (k : Option ℤ). KeepsClass (mask_of (Some i)) (mask_of k)) (sym (h i refl)) the_same

-- ---- values of what no variable is known of
abbrev pub none_known : numbers.KnownNumbers
none_known = λ name copy. None

abbrev pub Values : Option Constant → Option Constant → Type 0
Values x y = (c : Constant) → x ≡ Some c → y ≡ Some c

written : (x y : Option Constant) → Values x y → (i : ℤ) → the_number x ≡ Some i → the_number y ≡ Some i
written None y f i e = absurd cc
written (Some c) y f i e = ap the_number (f c refl) ∙ e

no_value : (y : Option Constant) → Values None y
no_value y c e = absurd cc

made_kept : (g : Option Constant → Option Constant) (x y : Option Constant) → g None ≡ None → Values x y → Values (g x) (g y)
made_kept g None y n f c e = absurd (let h : None ≡ Some c = sym n ∙ e in cc)
made_kept g (Some d) y n f c e = ap g (f d refl) ∙ e

right_kept : (s : Bool) (o : BinOp) (d : Constant) (x y : Option Constant) → Values x y → Values (if s then Some d else numbers.with_right o d x) (if s then Some d else numbers.with_right o d y)
right_kept true o d x y f c e = e
right_kept false o d x y f c e = made_kept (numbers.with_right o d) x y refl f c e

joined_kept : (o : BinOp) (p q x y : Option Constant) → Values p q → Values x y → Values (numbers.joined o p x) (numbers.joined o q y)
joined_kept o None q x y f g c e = absurd cc
joined_kept o (Some d) q x y f g c e = ap (λ z. numbers.joined o z y) (f d refl) ∙ right_kept (numbers.is_settled o d) o d x y g c e

var_value : (v : Var) (y : Option Constant) → Values (numbers.number (number_of_var none_known v)) y
var_value v y = subst (λ (n : Option ℤ). Values (numbers.number n) y) (sym (number_at none_known v)) (no_value y)

-- ---- what is kept of an expression
pub record Kept (e b : Expr) : Type 0 where
  pub built : IsBuilt (look_of e) (look_of b)
  pub condition : (look_of e).condition ≡ true → (look_of b).condition ≡ true
  pub values : Values (plain_value e) (plain_value b)
  pub byte : is_byte (register_layer (out-Expr e)) ≡ true → is_byte (register_layer (out-Expr b)) ≡ true
  pub kept : KeepsClass (class_of e) (class_of b)
  pub flags : has_flags e ≡ true → has_flags b ≡ true

pub record KeptLayer (x y : Layer) : Type 0 where
  pub built : IsBuilt (look_layer x) (look_layer y)
  pub condition : (look_layer x).condition ≡ true → (look_layer y).condition ≡ true
  pub values : Values (value_layer none_known x) (value_layer none_known y)
  pub byte : is_byte (register_layer x) ≡ true → is_byte (register_layer y) ≡ true
  pub kept : KeepsClass (class_layer x) (class_layer y)
  pub flags : flags_layer x ≡ true → flags_layer y ≡ true

pub same_kept : (e : Expr) → Kept e e
same_kept e = record { built = itself (look_of e); condition = λ h. h; values = λ c h. h; byte = λ h. h; kept = the_same; flags = λ h. h }

same_layer : (x : Layer) → KeptLayer x x
same_layer x = record { built = itself (look_layer x); condition = λ h. h; values = λ c h. h; byte = λ h. h; kept = the_same; flags = λ h. h }

pub by_layers : (e b : Expr) → KeptLayer (out-Expr e) (out-Expr b) → Kept e b
by_layers e b k = record {
  built = subst (λ l. IsBuilt l (look_of b)) (sym (look_out e)) (subst (IsBuilt (look_layer (out-Expr e))) (sym (look_out b)) k.built);
  condition = λ h. ap (λ (l : Look). l.condition) (look_out b) ∙ k.condition (sym (ap (λ (l : Look). l.condition) (look_out e)) ∙ h);
  values = λ c h. value_out none_known b ∙ k.values c (sym (value_out none_known e) ∙ h);
  byte = k.byte;
  kept = k.kept;
  flags = λ h. flags_out b ∙ k.flags (sym (flags_out e) ∙ h);
}

-- ---- the form of each
abbrev pub register : Kind → Known
register k = Some (record { storage = storage.Reg; kind = k })

module _ (T : Expr → Expr) where
  -- a cell of an array in registers may become a register of its own, where its index is inline
  pub data Becomes : Layer → Layer → Type 0 where
    b_number : {n : ℤ} {at : Span} → Becomes (Expr-F.Num n at) (Expr-F.Num n at)
    b_truth : {b : Bool} {at : Span} → Becomes (Expr-F.Expr::Bool b at) (Expr-F.Expr::Bool b at)
    b_variable : {v w : Var} → known_of w ≡ known_of v → Becomes (Expr-F.Var v) (Expr-F.Var w)
    b_cell : {v w : Var} {i : Expr} → known_of w ≡ known_of v → Becomes (Expr-F.Cell v i) (Expr-F.Cell w (T i))
    b_scalar : {v w : Var} {i : Expr} (z : Size) → known_of v ≡ register (kind.Array z) → known_of w ≡ register (kind.Word z) → (look_of i).inline ≡ true → Becomes (Expr-F.Cell v i) (Expr-F.Var w)
    b_load : {a b : Access} → AccessTurns T a b → Becomes (Expr-F.Load a) (Expr-F.Load b)
    b_minus : {a : Expr} {at : Span} → Becomes (Expr-F.Neg a at) (Expr-F.Neg (T a) at)
    b_denial : {a : Expr} {at : Span} → Becomes (Expr-F.Not a at) (Expr-F.Not (T a) at)
    b_cast : {z : Size} {s : Bool} {a : Expr} {at : Span} → Becomes (Expr-F.Cast z s a at) (Expr-F.Cast z s (T a) at)
    b_two : {o : BinOp} {a b : Expr} {at : Span} → Becomes (Expr-F.Bin o a b at) (Expr-F.Bin o (T a) (T b) at)

  pub data LeftBecomes : Lval → Lval → Type 0 where
    l_nothing : {at : Span} → LeftBecomes (lval.Skip at) (lval.Skip at)
    l_variable : {v w : Var} → known_of w ≡ known_of v → LeftBecomes (lval.Var v) (lval.Var w)
    l_cell : {v w : Var} {i : Expr} → known_of w ≡ known_of v → LeftBecomes (lval.Cell v i) (lval.Cell w (T i))
    l_scalar : {v w : Var} {i : Expr} (z : Size) → known_of v ≡ register (kind.Array z) → known_of w ≡ register (kind.Word z) → (look_of i).inline ≡ true → LeftBecomes (lval.Cell v i) (lval.Var w)
    l_store : {a b : Access} → AccessTurns T a b → LeftBecomes (lval.Store a) (lval.Store b)

-- ---- variables, cells and accesses
variable_kept : (v w : Var) → known_of w ≡ known_of v → KeptLayer (Expr-F.Var v) (Expr-F.Var w)
variable_kept v w k =
    let l = var_known w ∙ (k ∙ sym (var_known v)) in
    record {
      built = alike (ap is_inline_var l) (ap is_reg64 l) refl (ap (λ q. term (is_inline_var q) (is_reg64 q) false) l);
      condition = λ h. h;
      values = var_value v (value_layer none_known (Expr-F.Var w));
      byte = λ h. ap (λ q. is_byte (var_class q)) k ∙ h;
      kept = subst (λ (c : Class). KeepsClass (var_class (known_of v)) c) (sym (ap var_class k)) the_same;
      flags = λ h. ap (λ q. is_flag (var_class q)) k ∙ h;
    }

cell_built : (v w : Var) (a b : Look) → var_looked w ≡ var_looked v → IsBuilt a b → IsBuilt (looks false false (is_regs64 (var_looked v) && a.inline) false) (looks false false (is_regs64 (var_looked w) && b.inline) false)
cell_built v w a b l (alike i r s t) = let e = ap₂ (λ k x. is_regs64 k && x) l i in alike refl e refl (ap (λ x. term false x false) e)
cell_built v w a b l (otherwise n) =
    let e = and_second (is_regs64 (var_looked v)) a.inline n.inline in
    otherwise (record { inline = refl; reg = e; scaled = refl; bad = ap (λ x. (term false x false).good) e })

indexed_kept : (v w : Var) (i j : Expr) → known_of w ≡ known_of v → IsBuilt (look_of i) (look_of j) → KeptLayer (Expr-F.Cell v i) (Expr-F.Cell w j)
indexed_kept v w i j k x =
    let c = subst (λ q. KeepsClass (class_layer (Expr-F.Cell v i)) (cell_class q (look_of j).inline (is_index (terms_of j)))) (sym k) (cell_kept i j (known_of v) x) in
    record {
      built = cell_built v w (look_of i) (look_of j) (var_known w ∙ (k ∙ sym (var_known v))) x;
      condition = λ h. h;
      values = no_value (value_layer none_known (Expr-F.Cell w j));
      byte = test_kept is_byte refl (class_layer (Expr-F.Cell v i)) (class_layer (Expr-F.Cell w j)) c;
      kept = c;
      flags = λ h. h;
    }

scalar_class : (k q : Known) (i j : Bool) (z : Size) → k ≡ register (kind.Array z) → q ≡ register (kind.Word z) → i ≡ true → KeepsClass (cell_class k i j) (var_class q)
scalar_class k q i j z e f h =
    subst (λ (c : Class). KeepsClass c (var_class q)) (sym (ap₂ (λ x y. cell_class x y j) e h))
    (subst (λ (c : Class). KeepsClass (class.Reg z) c) (sym (ap var_class f)) the_same)

scalar_look : (k q : Known) (i : Bool) (z : Size) → k ≡ register (kind.Array z) → q ≡ register (kind.Word z) → i ≡ true → IsBuilt (looks false false (is_regs64 k && i) false) (looks (is_inline_var q) false (is_reg64 q) false)
scalar_look k q i z e f h =
    subst (λ x. IsBuilt x (looks (is_inline_var q) false (is_reg64 q) false)) (sym (ap₂ (λ x y. looks false false (is_regs64 x && y) false) e h))
    (subst (λ x. IsBuilt (looks false false (is_regs64 (register (kind.Array z)) && true) false) (looks (is_inline_var x) false (is_reg64 x) false)) (sym f) (plain z))
  where
    plain : (z : Size) → IsBuilt (looks false false (is_regs64 (register (kind.Array z)) && true) false) (looks (is_inline_var (register (kind.Word z))) false (is_reg64 (register (kind.Word z))) false)
    plain sizes.S8 = alike refl refl refl refl
    plain sizes.S16 = alike refl refl refl refl
    plain sizes.S32 = alike refl refl refl refl
    plain sizes.S64 = alike refl refl refl refl

scalar_kept : (v w : Var) (i : Expr) (z : Size) → known_of v ≡ register (kind.Array z) → known_of w ≡ register (kind.Word z) → (look_of i).inline ≡ true → KeptLayer (Expr-F.Cell v i) (Expr-F.Var w)
scalar_kept v w i z e f h =
    let c = scalar_class (known_of v) (known_of w) (look_of i).inline (is_index (terms_of i)) z e f h in
    record {
      built = scalar_look (var_looked v) (var_looked w) (look_of i).inline z (var_known v ∙ e) (var_known w ∙ f) h;
      condition = λ h. h;
      values = no_value (value_layer none_known (Expr-F.Var w));
      byte = test_kept is_byte refl (class_layer (Expr-F.Cell v i)) (class_layer (Expr-F.Var w)) c;
      kept = c;
      flags = λ h. absurd (false≢true h);
    }

access_class : (T : Expr → Expr) (a b : Access) → AccessTurns T a b → IsBuilt (look_of (out-Access a).at) (look_of (T (out-Access a).at)) → KeepsClass (mem_of (out-Access a).size (out-Access a).at) (mem_of (out-Access b).size (out-Access b).at)
access_class T a b k x =
    subst (λ (z : Option Size). KeepsClass (mem_of (out-Access a).size (out-Access a).at) (mem_of z (out-Access b).at)) (sym k.size)
    (subst (λ (e : Expr). KeepsClass (mem_of (out-Access a).size (out-Access a).at) (mem_of (out-Access a).size e)) (sym k.at)
    (memory_kept (out-Access a).at (T (out-Access a).at) (out-Access a).size x))

load_kept : (T : Expr → Expr) (a b : Access) → AccessTurns T a b → IsBuilt (look_of (out-Access a).at) (look_of (T (out-Access a).at)) → KeptLayer (Expr-F.Load a) (Expr-F.Load b)
load_kept T a b k x = record {
  built = itself (looks false false false false);
  condition = λ h. h;
  values = no_value (value_layer none_known (Expr-F.Load b));
  byte = λ h. h;
  kept = access_class T a b k x;
  flags = λ h. h;
}

-- ---- operations
minus_kept : (a b : Expr) (at : Span) → Kept a b → KeptLayer (Expr-F.Neg a at) (Expr-F.Neg b at)
minus_kept a b at k = record {
  built = signed (look_of a).inline (look_of b).inline false false (look_of a) (look_of b) k.built refl refl;
  condition = λ h. h;
  values = made_kept numbers.minus (plain_value a) (plain_value b) refl k.values;
  byte = λ h. h;
  kept = inline_class (look_of a).inline (look_of b).inline class.Other (inline_kept (look_of a) (look_of b) k.built) (refl, refl);
  flags = λ h. h;
}

denial_kept : (a b : Expr) (at : Span) → Kept a b → KeptLayer (Expr-F.Not a at) (Expr-F.Not b at)
denial_kept a b at k = record {
  built = signed (look_of a).inline (look_of b).inline (look_of a).condition (look_of b).condition (look_of a) (look_of b) k.built refl refl;
  condition = k.condition;
  values = made_kept numbers.opposite (plain_value a) (plain_value b) refl k.values;
  byte = λ h. h;
  kept = inline_class (look_of a).inline (look_of b).inline class.Other (inline_kept (look_of a) (look_of b) k.built) (refl, refl);
  flags = k.flags;
}

cast_kept : (z : Size) (s : Bool) (a b : Expr) (at : Span) → KeptLayer (Expr-F.Cast z s a at) (Expr-F.Cast z s b at)
cast_kept z s a b at = record {
  built = itself (looks false false false false);
  condition = λ h. h;
  values = no_value None;
  byte = λ h. h;
  kept = the_same;
  flags = λ h. h;
}

compares_kept : (o : BinOp) (a b c d : Class) → KeepsClass a c → KeepsClass b d → compares o a b ≡ true → compares o c d ≡ true
compares_kept o a b c d x y h =
    let p = and_parts (compares_values o) _ h in
    let q = and_parts (is_rm a) _ p.1 in
    let r = and_parts (is_rmi b) _ q.1 in
    ap₂ (λ u v. compares o u v) (same_class is_rm refl a c x q.0) (same_class is_rmi refl b d y r.0) ∙ h

module _ (a b c d : Expr) (x : Kept a c) (y : Kept b d) where
  inline_two : (o : BinOp) → bin_inline o (look_of a) (look_of b) ≡ true → bin_inline o (look_of c) (look_of d) ≡ true
  inline_two o h = inline_kept (two o (look_of a) (look_of b)) (two o (look_of c) (look_of d)) (two_built o (look_of a) (look_of b) (look_of c) (look_of d) x.built y.built) h

  -- a masked byte is no inline integer
  byte_two : (a b : Expr) → is_byte (register_layer (out-Expr a)) ≡ true → bin_inline op.And (look_of a) (look_of b) ≡ false
  byte_two a b h = and_second (look_of b).inline (look_of a).inline (byte_not_inline a h)

  masked_at : (a b : Expr) → is_byte (register_layer (out-Expr a)) ≡ true → inline_or (bin_inline op.And (look_of a) (look_of b)) (masked_class op.And a b) ≡ mask_of (written_number b)
  masked_at a b h = ap₂ (λ i k. inline_or i (class_if k (mask_of (written_number b)))) (byte_two a b h) h

  and_kept : (m : Bool) → is_byte (register_layer (out-Expr a)) ≡ m → KeepsClass (inline_or (bin_inline op.And (look_of a) (look_of b)) (masked_class op.And a b)) (inline_or (bin_inline op.And (look_of c) (look_of d)) (masked_class op.And c d))
  and_kept true h =
      subst (λ (k : Class). KeepsClass k (inline_or (bin_inline op.And (look_of c) (look_of d)) (masked_class op.And c d))) (sym (masked_at a b h))
      (subst (λ (k : Class). KeepsClass (mask_of (written_number b)) k) (sym (masked_at c d (x.byte h)))
      (mask_kept (written_number b) (written_number d) (written (plain_value b) (plain_value d) y.values)))
  and_kept false h =
      let i = bin_inline op.And (look_of a) (look_of b) in
      let j = bin_inline op.And (look_of c) (look_of d) in
      subst (λ (k : Class). KeepsClass (inline_or i k) (inline_or j (masked_class op.And c d))) (sym (ap (λ m. class_if m (mask_of (written_number b))) h))
      (inline_class i j (masked_class op.And c d) (inline_two op.And) (value_masked op.And c d))

  class_two : (o : BinOp) → KeepsClass (inline_or (bin_inline o (look_of a) (look_of b)) (masked_class o a b)) (inline_or (bin_inline o (look_of c) (look_of d)) (masked_class o c d))
  class_two op.And = and_kept (is_byte (register_layer (out-Expr a))) refl
  class_two o = inline_class (bin_inline o (look_of a) (look_of b)) (bin_inline o (look_of c) (look_of d)) class.Other (inline_two o) (refl, refl)

  two_kept : (o : BinOp) (at : Span) → KeptLayer (Expr-F.Bin o a b at) (Expr-F.Bin o c d at)
  two_kept o at = record {
    built = two_built o (look_of a) (look_of b) (look_of c) (look_of d) x.built y.built;
    condition = two_condition o (look_of a) (look_of b) (look_of c) (look_of d) x.built y.built x.condition y.condition;
    values = joined_kept o (plain_value a) (plain_value c) (plain_value b) (plain_value d) x.values y.values;
    byte = λ h. h;
    kept = class_two o;
    flags = compares_kept o (class_of a) (class_of b) (class_of c) (class_of d) x.kept y.kept;
  }

-- an inline expression becomes one
pub record KeptWhole (e b : Expr) : Type 0 where
  pub kept : Kept e b
  pub inline : is_inline e ≡ true
  pub stays : is_inline b ≡ true

-- ---- all expressions
module _ (T : Expr → Expr) where
  -- each is kept as a whole, or by its form
  abbrev pub Turned : Type 0
  Turned = (e : Expr) → Formed e → KeptWhole e (T e) ⊎ Becomes T (out-Expr e) (out-Expr (T e))

  module _ (K : Turned) where
    mutual
      pub all_kept : (e : Expr) → Formed e → Kept e (T e)
      all_kept e (counted.expression f) = elim (K e (counted.expression f)) [ inl k ↦ k.kept | inr t ↦ by_layers e (T e) (layer_kept f t) ]

      layer_kept : {x y : Layer} → FormedLayer x → Becomes T x y → KeptLayer x y
      layer_kept (counted.number {n = n} {at = at}) b_number = same_layer (Expr-F.Num n at)
      layer_kept (counted.bool {b = b} {at = at}) b_truth = same_layer (Expr-F.Expr::Bool b at)
      layer_kept (counted.variable {v = v} p) (b_variable {w = w} k) = variable_kept v w k
      layer_kept (counted.cell {v = v} {i = i} p f) (b_cell {w = w} k) = indexed_kept v w i (T i) k (all_kept i f).built
      layer_kept (counted.cell {v = v} {i = i} p f) (b_scalar {w = w} z e g h) = scalar_kept v w i z e g h
      layer_kept (counted.load {a = a} f) (b_load {b = b} k) = load_kept T a b k (all_kept (out-Access a).at f).built
      layer_kept (counted.negated {a = a} {at = at} f) b_minus = minus_kept a (T a) at (all_kept a f)
      layer_kept (counted.inverted {a = a} {at = at} f) b_denial = denial_kept a (T a) at (all_kept a f)
      layer_kept (counted.cast {z = z} {s = s} {a = a} {at = at} f) b_cast = cast_kept z s a (T a) at
      layer_kept (counted.operation {o = o} {a = a} {b = b} {at = at} f g) b_two = two_kept a b (T a) (T b) (all_kept a f) (all_kept b g) o at

    -- ---- left sides
    left_kept : {d b : Lval} → LeftBecomes T d b → KeepsClass (dest_of d) (dest_of b)
    left_kept l_nothing = the_same
    left_kept (l_variable {v = v} {w = w} k) = (variable_kept v w k).kept
    left_kept (l_cell {v = v} {w = w} {i = i} k) = (indexed_kept v w i (T i) k (all_kept i (formed i)).built).kept
    left_kept (l_scalar {v = v} {w = w} {i = i} z e f h) = (scalar_kept v w i z e f h).kept
    left_kept (l_store {a = a} {b = b} k) = access_class T a b k (all_kept (out-Access a).at (formed (out-Access a).at)).built

    pub operand_kept : (e : Expr) → KeepsOperand e (T e)
    operand_kept e =
        let k = all_kept e (formed e) in
        record {
          kept = k.kept;
          inline = inline_kept (look_of e) (look_of (T e)) k.built;
          condition = k.condition;
          sum = sum_kept (look_of e) (look_of (T e)) k.built;
          flags = k.flags;
        }

    pub classes_kept : (L : Lval → Lval) → ((d : Lval) → LeftBecomes T d (L d)) → KeepsClasses T L
    classes_kept L f = record { expressions = operand_kept; lefts = λ d. left_kept (f d) }
