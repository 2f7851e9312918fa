-- What rows ask of the left sides of an assignment, of its operands that are inline, and of its condition.
use Rattle.std.proofs.Common.{◌≡◌, ℤ, pos, [], ◌∷◌, Option, Some, None, Bool, true, false, not, ◌&&◌, ◌||◌, refl, ap, sym, ◌∙◌, inl, inr, if◌then◌else◌}
use Rattle.std.specs.Prelude.{◌⊎◌, option_map}
use Rattle.std.specs.Ordering.{int_eq}
use Rattle.std.proofs.lemmas.Bool.{and_parts, and_from, false≢true, not_from_false}
use Rattle.jz_tree.specs.Operators.{carries}
use Rattle.jz_tree.specs.Span.{Span}
use Rattle.jz_tree.specs.declared.expr.Storage.{Storage}
use Rattle.jz_tree.specs.declared.expr.Storage.TheVariants as storage
use Rattle.jz_tree.specs.declared.expr.BinOp.{BinOp}
use Rattle.jz_tree.specs.declared.expr.BinOp.TheVariants as op
use Rattle.jz_tree.specs.declared.expr.Expr.{Expr}
use Rattle.jz_tree.specs.declared.expr.Var.{Var}
use Rattle.jz_tree.specs.declared.expr.Expr.TheOpen.{Expr-F}
use Rattle.jz_tree.specs.declared.expr.Expr.TheViews.{out-Expr, out-Var}
use Rattle.jz_tree.specs.declared.stmt.Lval.{Lval}
use Rattle.jz_tree.specs.declared.stmt.Lval.TheVariants as lval
use Rattle.jz_tree.specs.declared.stmt.Rhs.TheVariants as rhs
use Rattle.jz_integers.specs.Integers.{written_number}
use Rattle.jz_select.specs.declared.class.Class.{Class}
use Rattle.jz_select.specs.declared.class.Class.TheVariants as class
use Rattle.jz_select.specs.declared.class.Mask.TheVariants as mask
use Rattle.jz_select.specs.declared.class.Operand.{Operand}
use Rattle.jz_select.specs.declared.shape.Value.{Value}
use Rattle.jz_select.specs.declared.shape.Value.TheVariants as values
use Rattle.jz_select.specs.declared.shape.Shape as rowed
use Rattle.jz_select.specs.declared.shape.Shape.TheVariants as shapes
use Rattle.jz_select.specs.Look.{look_of, bin_inline}
use Rattle.jz_select.specs.Operands.{class_at, var_class, class_if, inline_or, mask_of, is_byte, register_layer, masked_class, class_layer, class_of, dest_of}
use Rattle.jz_select.specs.Rows.{is_r, is_m, is_i, is_rm, is_rmi, is_skip, is_flag, is_flag_result, is_pinned, may_lead, are_inline, adds, joins_bits, multiplies, is_long, product_size, arithmetic_row, carrying_row, wide_product_row, conditional_row}
use Rattle.jz_select.specs.Shapes.{Asked, itself, beside, carry_layer, two_beside, value_layer, update_layer, assign_of, conditional, has_flags}
use Rattle.jz_type_names.specs.declared.kinds.Kind as known
use Rattle.jz_type_names.specs.declared.kinds.Kind.TheVariants as scope
use Rattle.jz_type_names.specs.Kinds.{Known, declared_of, known_of, kind_of, written_length, inline_int, is_inline_int, is_inline}
use Rattle.jz_meaning.specs.Assignments as meant
use Rattle.jz_meaning.specs.Values.{ref_of, declared_kind, kind_or}
use Rattle.jz_row_laws.proofs.Booleans.{or_parts, or_left, or_right}
use Rattle.jz_row_laws.proofs.Copied.{Matches, no_free}
use Rattle.jz_bodies.proofs.Refs.{ref_kind, kind_from, decl_kind}
use Rattle.jz_unroll.specs.Values.{splits}
use Rattle.jz_unroll.proofs.InlineParts.{inline_layer, inline_out}
use Rattle.jz_unroll.proofs.Layers.{Layer}

-- ---- classes

-- an inline variable is of no place
var_place : (k : Known) → is_inline_int k ≡ true → is_rm (var_class k) ≡ false
var_place None e = refl
var_place (Some d) e = by_kind d.storage d.kind e
  where
    by_kind : (s : Storage) (k : known.Kind) → inline_int s k ≡ true → is_rm (class_at s k) ≡ false
    by_kind storage.Inline scope.Int e = refl
    by_kind storage.Inline scope.Truth e = absurd (false≢true e)
    by_kind storage.Inline (scope.Word z) e = absurd (false≢true e)
    by_kind storage.Inline (scope.Array z) e = absurd (false≢true e)
    by_kind storage.Reg k e = absurd (false≢true e)
    by_kind storage.Stack k e = absurd (false≢true e)

-- nor a flag, a register or `_`
var_result : (k : Known) → is_inline_int k ≡ true → is_flag_result (var_class k) ≡ false
var_result None e = refl
var_result (Some d) e = by_kind d.storage d.kind e
  where
    by_kind : (s : Storage) (k : known.Kind) → inline_int s k ≡ true → is_flag_result (class_at s k) ≡ false
    by_kind storage.Inline scope.Int e = refl
    by_kind storage.Inline scope.Truth e = absurd (false≢true e)
    by_kind storage.Inline (scope.Word z) e = absurd (false≢true e)
    by_kind storage.Inline (scope.Array z) e = absurd (false≢true e)
    by_kind storage.Reg k e = absurd (false≢true e)
    by_kind storage.Stack k e = absurd (false≢true e)

inline_other : (b : Bool) → is_rm (inline_or b class.Other) ≡ false
inline_other true = refl
inline_other false = refl

mask_place : (n : Option ℤ) → is_rm (mask_of n) ≡ false
mask_place None = refl
mask_place (Some k) = two (int_eq k (pos 31)) (int_eq k (pos 63))
  where
    two : (a b : Bool) → is_rm (if a then class.Masked mask.Five else if b then class.Masked mask.Six else class.Other) ≡ false
    two true b = refl
    two false true = refl
    two false false = refl

if_place : (b : Bool) (c : Class) → is_rm c ≡ false → is_rm (class_if b c) ≡ false
if_place true c e = e
if_place false c e = refl

masked_place : (b : Bool) (o : BinOp) (x y : Expr) → is_rm (inline_or b (masked_class o x y)) ≡ false
masked_place true o x y = refl
masked_place false op.And x y = if_place (is_byte (register_layer (out-Expr x))) (mask_of (written_number y)) (mask_place (written_number y))
masked_place false o x y = refl

layer_place : (x : Layer) → inline_layer x ≡ true → is_rm (class_layer x) ≡ false
layer_place (Expr-F.Num n at) e = refl
layer_place (Expr-F.Expr::Bool b at) e = refl
layer_place (Expr-F.Var v) e = var_place (known_of v) e
layer_place (Expr-F.Cell v i) e = absurd (false≢true e)
layer_place (Expr-F.Load a) e = absurd (false≢true e)
layer_place (Expr-F.Neg a at) e = inline_other (look_of a).inline
layer_place (Expr-F.Not a at) e = inline_other (look_of a).inline
layer_place (Expr-F.Cast z s a at) e = absurd (false≢true e)
layer_place (Expr-F.Bin o a b at) e = masked_place (bin_inline o (look_of a) (look_of b)) o a b

no_place : (x : Expr) → is_inline x ≡ true → is_rm (class_of x) ≡ false
no_place x e = layer_place (out-Expr x) (sym (inline_out x) ∙ e)

only_third : (a b c : Bool) → ((a || b) || c) ≡ true → (a || b) ≡ false → c ≡ true
only_third true b c h f = absurd (false≢true (sym f))
only_third false true c h f = absurd (false≢true (sym f))
only_third false false c h f = h

-- an inline operand of a row is an inline integer there
inline_class : (x : Expr) → is_inline x ≡ true → is_rmi (class_of x) ≡ true → is_i (class_of x) ≡ true
inline_class x e h = only_third (is_r (class_of x)) (is_m (class_of x)) (is_i (class_of x)) h (no_place x e)

not_both : (a b : Bool) → not (a && b) ≡ true → a ≡ true → b ≡ true → ⊥
not_both true true h e f = false≢true h
not_both true false h e f = false≢true f
not_both false b h e f = false≢true e

-- ---- no flag

-- an operand of a row is no bool
bool_kind : (s : Storage) (k : known.Kind) (l : Option ℤ) → is_rmi (class_at s k) ≡ true → meant.is_bool (kind_from k l) ≡ false
bool_kind s scope.Int l e = refl
bool_kind storage.Reg scope.Truth l e = absurd (false≢true e)
bool_kind storage.Stack scope.Truth l e = absurd (false≢true e)
bool_kind storage.Inline scope.Truth l e = absurd (false≢true e)
bool_kind s (scope.Word z) l e = refl
bool_kind storage.Reg (scope.Array z) l e = absurd (false≢true e)
bool_kind storage.Stack (scope.Array z) l e = absurd (false≢true e)
bool_kind storage.Inline (scope.Array z) l e = absurd (false≢true e)

var_bool : (v : Var) → is_rmi (var_class (known_of v)) ≡ true → meant.is_bool (ref_of v).kind ≡ false
var_bool v e = ap meant.is_bool (ref_kind v) ∙ by_decl (out-Var v).decl e
  where
    by_decl : (o : Option _) → is_rmi (var_class (option_map declared_of o)) ≡ true → meant.is_bool (kind_or (option_map declared_kind o)) ≡ false
    by_decl None e = absurd (false≢true e)
    by_decl (Some d) e = ap meant.is_bool (decl_kind d) ∙ bool_kind d.storage (kind_of d.ty) (written_length d) e

operand_flag : (x : Expr) → is_rmi (class_of x) ≡ true → meant.is_flag x ≡ false
operand_flag x h = by_layer (out-Expr x) h
  where
    by_layer : (y : Layer) → is_rmi (class_layer y) ≡ true → meant.is_flag_layer y ≡ false
    by_layer (Expr-F.Num n at) h = refl
    by_layer (Expr-F.Expr::Bool b at) h = refl
    by_layer (Expr-F.Var v) h = var_bool v h
    by_layer (Expr-F.Cell v i) h = refl
    by_layer (Expr-F.Load a) h = refl
    by_layer (Expr-F.Neg a at) h = refl
    by_layer (Expr-F.Not a at) h = refl
    by_layer (Expr-F.Cast z s a at) h = refl
    by_layer (Expr-F.Bin o a b at) h = refl

-- ---- two left sides

next : (P : Type 0) (row rest : Bool) → (row ≡ true → P) → (rest ≡ true → P) → (row || rest) ≡ true → P
next P row rest f g h = elim (or_parts row rest h) [ inl t ↦ f t | inr t ↦ g t ]

none_more : (P : Type 0) → false ≡ true → P
none_more P e = absurd (false≢true e)

-- the first is a flag, a register or `_`, the second a place or `_`
pub record TakesTwo (x d : Class) : Type 0 where
  pub first : (is_flag_result x || is_r x) ≡ true
  pub second : (is_rm d || is_skip d) ≡ true

abbrev PairIs : Class → Class → Value → Type 0
PairIs x d values.Alone = ⊥
PairIs x d (values.One a) = ⊥
PairIs x d (values.Cast z s c) = ⊥
PairIs x d (values.Carry p a o) = TakesTwo x d × (is_rmi a.class ≡ true) × (is_rmi o.class ≡ true) × (not (are_inline a o) ≡ true)
PairIs x d (values.Two p a o) = TakesTwo x d × (is_rmi a.class ≡ true) × (is_rmi o.class ≡ true) × (not (are_inline a o) ≡ true)

pinned_takes : (x : Class) → is_pinned x ≡ true → (is_flag_result x || is_r x) ≡ true
pinned_takes x h = elim (or_parts (is_r x) (is_skip x) h) [
  | inl t ↦ or_right (is_flag_result x) (is_r x) t
  | inr t ↦ or_left (is_flag_result x) (is_r x) (or_right (is_flag x) (is_skip x) t)
]

rm_not_i : (c : Class) → is_rm c ≡ true → is_i c ≡ false
rm_not_i (class.Reg z) h = refl
rm_not_i (class.Mem z) h = refl
rm_not_i class.Inline h = absurd (false≢true h)
rm_not_i class.Flag h = refl
rm_not_i class.Skip h = refl
rm_not_i class.Other h = refl
rm_not_i (class.Masked m) h = refl

and_second : (a b : Bool) → b ≡ false → not (a && b) ≡ true
and_second true b e = ap not e
and_second false b e = refl

module _ (x d w : Class) where
  abbrev B : Value → rowed.Shape
  B v = shapes.Assign (Some x) d w v

  sums_is : (p : BinOp) (a o : Operand) (rest : Bool) → (may_lead (Some x) && (is_rmi o.class && (not (are_inline a o) && (is_rm d && (is_rmi a.class && rest))))) ≡ true
      → TakesTwo x d × (is_rmi a.class ≡ true) × (is_rmi o.class ≡ true) × (not (are_inline a o) ≡ true)
  sums_is p a o rest h =
      let l = and_parts (may_lead (Some x)) _ h in
      let r = and_parts (is_rmi o.class) _ l.1 in
      let m = and_parts (not (are_inline a o)) _ r.1 in
      let n = and_parts (is_rm d) _ m.1 in
      let k = and_parts (is_rmi a.class) _ n.1 in
      (record { first = or_left (is_flag_result x) (is_r x) l.0; second = or_left (is_rm d) (is_skip d) n.0 }, k.0, r.0, m.0)

  arithmetic_is : (p : BinOp) (a o : Operand) → arithmetic_row (B (values.Two p a o)) ≡ true → PairIs x d (values.Two p a o)
  arithmetic_is p a o h = sums_is p a o _ (and_parts (adds p || (joins_bits p && false)) _ h).1

  wide_product_is : (p : BinOp) (a b : Operand) → wide_product_row (B (values.Two p a b)) ≡ true → PairIs x d (values.Two p a b)
  wide_product_is p a b h =
      let y = and_parts (multiplies p) _ h in
      let k = and_parts (is_pinned x) _ y.1 in
      let l = and_parts (is_long (product_size None x d a b)) _ k.1 in
      let m = and_parts (is_rmi a.class) _ l.1 in
      let n = and_parts (is_rm b.class) _ m.1 in
      (record { first = pinned_takes x k.0; second = low _ n.1 }, m.0, or_left (is_rm b.class) (is_i b.class) n.0, and_second (is_i a.class) (is_i b.class) (rm_not_i b.class n.0))
    where
      low : (rest : Bool) → (is_skip d || (is_r d && rest)) ≡ true → (is_rm d || is_skip d) ≡ true
      low rest t = elim (or_parts (is_skip d) (is_r d && rest) t) [
        | inl s ↦ or_right (is_rm d) (is_skip d) s
        | inr s ↦ or_left (is_rm d) (is_skip d) (or_left (is_r d) (is_m d) (and_parts (is_r d) rest s).0)
      ]

  carrying_is : (p : BinOp) (a o : Operand) → carrying_row (B (values.Carry p a o)) ≡ true → PairIs x d (values.Carry p a o)
  carrying_is p a o h = sums_is p a o _ h

  pair_is : (v : Value) → Matches (B v) → PairIs x d v
  pair_is values.Alone h = false≢true h
  pair_is (values.One a) h = false≢true h
  pair_is (values.Cast z s c) h = false≢true h
  pair_is (values.Carry p a o) h = next (PairIs x d (values.Carry p a o)) (carrying_row (B (values.Carry p a o))) false (carrying_is p a o) (none_more (PairIs x d (values.Carry p a o))) h
  pair_is (values.Two p a o) h =
      let v : Value = values.Two p a o in
      next (PairIs x d v) (arithmetic_row (B v)) (wide_product_row (B v) || false) (arithmetic_is p a o) (next (PairIs x d v) (wide_product_row (B v)) false (wide_product_is p a o) (none_more (PairIs x d v))) h

-- ---- what stands in the text behind two left sides

-- neither it nor a sum before a flag is inline
abbrev pub IsApart : Expr → Type 0
IsApart e = (not (is_inline e) && splits (out-Expr e)) ≡ true

bin_apart : (e : Expr) (o : BinOp) (a b : Expr) (at : Span) → out-Expr e ≡ Expr-F.Bin o a b at → (is_inline a && is_inline b) ≡ false → (not (meant.is_flag b) || not (is_inline a)) ≡ true → IsApart e
bin_apart e o a b at is i s =
    and_from (not (is_inline e)) (splits (out-Expr e)) (not_from_false (is_inline e) (inline_out e ∙ (ap inline_layer is ∙ i)))
    (ap splits is ∙ s)

and_none : (a b : Bool) → (a ≡ true → b ≡ true → ⊥) → (a && b) ≡ false
and_none true true h = absurd (h refl refl)
and_none true false h = refl
and_none false b h = refl

both_none : (a b : Expr) → is_rmi (class_of a) ≡ true → is_rmi (class_of b) ≡ true → not (is_i (class_of a) && is_i (class_of b)) ≡ true → (is_inline a && is_inline b) ≡ false
both_none a b h k n = and_none (is_inline a) (is_inline b) (λ s t. not_both (is_i (class_of a)) (is_i (class_of b)) n (inline_class a s h) (inline_class b t k))

and_first : (a b : Bool) → a ≡ false → (a && b) ≡ false
and_first true b e = absurd (false≢true (sym e))
and_first false b e = refl

or_not : (a b : Bool) → b ≡ false → (not a || not b) ≡ true
or_not true b e = ap not e
or_not false b e = refl

or_first : (a b : Bool) → a ≡ false → (not a || b) ≡ true
or_first true b e = absurd (false≢true (sym e))
or_first false b e = refl

module _ (asked : Asked) (x : Class) (d : Lval) where
  abbrev Pair : Value → Type 0
  Pair v = PairIs x (dest_of d) v

  carry_apart : (e : Expr) (o : BinOp) (a c : Expr) (at : Span) (l : Layer) → out-Expr e ≡ Expr-F.Bin o a c at → out-Expr a ≡ l → Pair (carry_layer asked d o l) → TakesTwo x (dest_of d) × IsApart e
  carry_apart e o a c at (Expr-F.Bin p b y inner) is k h = by_carries (carries o p) h
    where
      by_carries : (t : Bool) → Pair (if t then values.Carry o (beside asked d (Some b) b) (beside asked d (Some b) y) else values.Alone) → TakesTwo x (dest_of d) × IsApart e
      by_carries true h =
          let i : is_inline a ≡ false = inline_out a ∙ (ap inline_layer k ∙ both_none b y h.1 h.2 h.3) in
          (h.0, bin_apart e o a c at is (and_first (is_inline a) (is_inline c) i) (or_not (meant.is_flag c) (is_inline a) i))
      by_carries false h = absurd h
  carry_apart e o a c at (Expr-F.Num n i) is k h = absurd h
  carry_apart e o a c at (Expr-F.Expr::Bool b i) is k h = absurd h
  carry_apart e o a c at (Expr-F.Var v) is k h = absurd h
  carry_apart e o a c at (Expr-F.Cell v i) is k h = absurd h
  carry_apart e o a c at (Expr-F.Load m) is k h = absurd h
  carry_apart e o a c at (Expr-F.Neg b i) is k h = absurd h
  carry_apart e o a c at (Expr-F.Not b i) is k h = absurd h
  carry_apart e o a c at (Expr-F.Cast z s b i) is k h = absurd h

  two_apart : (t : Bool) (e : Expr) (o : BinOp) (a b : Expr) (at : Span) → out-Expr e ≡ Expr-F.Bin o a b at → Pair (if t then carry_layer asked d o (out-Expr a) else two_beside asked d o a b) → TakesTwo x (dest_of d) × IsApart e
  two_apart true e o a b at is h = carry_apart e o a b at (out-Expr a) is refl h
  two_apart false e o a b at is h =
      (h.0, bin_apart e o a b at is (both_none a b h.1 h.2 h.3) (or_first (meant.is_flag b) (not (is_inline a)) (operand_flag b h.2)))

  layer_apart : (e : Expr) (l : Layer) → out-Expr e ≡ l → Pair (value_layer asked d l) → TakesTwo x (dest_of d) × IsApart e
  layer_apart e (Expr-F.Bin o a b at) is h = two_apart (is_flag (class_of b)) e o a b at is h
  layer_apart e (Expr-F.Num n i) is h = absurd h
  layer_apart e (Expr-F.Expr::Bool b i) is h = absurd h
  layer_apart e (Expr-F.Var v) is h = absurd h
  layer_apart e (Expr-F.Cell v i) is h = absurd h
  layer_apart e (Expr-F.Load m) is h = absurd h
  layer_apart e (Expr-F.Neg b i) is h = absurd h
  layer_apart e (Expr-F.Not b i) is h = absurd h
  layer_apart e (Expr-F.Cast z s b i) is h = absurd h

  -- `x, d = e`
  pub pair_apart : (e : Expr) → Matches (assign_of asked (Some x) d None e) → TakesTwo x (dest_of d) × IsApart e
  pair_apart e h = layer_apart e (out-Expr e) refl (pair_is x (dest_of d) (class_of e) (value_layer asked d (out-Expr e)) h)

  two_takes : (o : BinOp) (e : Expr) → Pair (values.Two o (itself d) (beside asked d None e)) → TakesTwo x (dest_of d)
  two_takes o e h = h.0

  update_bin : (t : Bool) (o : BinOp) (e a : Expr) → Pair (if t then values.Carry o (itself d) (beside asked d None a) else values.Two o (itself d) (beside asked d None e)) → TakesTwo x (dest_of d)
  update_bin true o e a h = h.0
  update_bin false o e a h = h.0

  update_takes : (o : BinOp) (e : Expr) (l : Layer) → Pair (update_layer asked d o e l) → TakesTwo x (dest_of d)
  update_takes o e (Expr-F.Bin p a c i) h = update_bin (carries o p && is_flag (class_of c)) o e a h
  update_takes o e (Expr-F.Num n i) h = two_takes o e h
  update_takes o e (Expr-F.Expr::Bool b i) h = two_takes o e h
  update_takes o e (Expr-F.Var v) h = two_takes o e h
  update_takes o e (Expr-F.Cell v i) h = two_takes o e h
  update_takes o e (Expr-F.Load m) h = two_takes o e h
  update_takes o e (Expr-F.Neg b i) h = two_takes o e h
  update_takes o e (Expr-F.Not b i) h = two_takes o e h
  update_takes o e (Expr-F.Cast z s b i) h = two_takes o e h

  -- `x, d op= e`
  pub pair_updates : (o : BinOp) (e : Expr) → Matches (assign_of asked (Some x) d (Some o) e) → TakesTwo x (dest_of d)
  pair_updates o e h = update_takes o e (out-Expr e) (pair_is x (dest_of d) class.Other (update_layer asked d o e (out-Expr e)) h)

-- ---- neither is an inline variable

r_place : (c : Class) → is_r c ≡ true → is_rm c ≡ true
r_place c h = or_left (is_r c) (is_m c) h

skip_result : (c : Class) → is_skip c ≡ true → is_flag_result c ≡ true
skip_result c h = or_right (is_flag c) (is_skip c) h

taken_plain : (v : Var) → (is_rm (var_class (known_of v)) ≡ true) ⊎ (is_flag_result (var_class (known_of v)) ≡ true) → is_inline_int (known_of v) ≡ false
taken_plain v t = by_known (is_inline_int (known_of v)) refl t
  where
    by_known : (b : Bool) → is_inline_int (known_of v) ≡ b → (is_rm (var_class (known_of v)) ≡ true) ⊎ (is_flag_result (var_class (known_of v)) ≡ true) → b ≡ false
    by_known false e t = refl
    by_known true e (inl t) = absurd (false≢true (sym (var_place (known_of v) e) ∙ t))
    by_known true e (inr t) = absurd (false≢true (sym (var_result (known_of v) e) ∙ t))

pub first_plain : (v : Var) (d : Class) → TakesTwo (var_class (known_of v)) d → is_inline_int (known_of v) ≡ false
first_plain v d h = taken_plain v (elim (or_parts (is_flag_result (var_class (known_of v))) (is_r (var_class (known_of v))) h.first) [ inl t ↦ inr t | inr t ↦ inl (r_place (var_class (known_of v)) t) ])

pub second_plain : (x : Class) (v : Var) → TakesTwo x (var_class (known_of v)) → is_inline_int (known_of v) ≡ false
second_plain x v h = taken_plain v (elim (or_parts (is_rm (var_class (known_of v))) (is_skip (var_class (known_of v))) h.second) [ inl t ↦ inl t | inr t ↦ inr (skip_result (var_class (known_of v)) t) ])

-- ---- conditions

-- no row sets an inline variable where something is
pub conditional_none : (v : Var) (o : Option BinOp) (e c : Expr) → is_inline_int (known_of v) ≡ true → Matches (conditional (lval.Var v ∷ []) o (rhs.Value e) c) → ⊥
conditional_none v (Some o) e c i h = no_free h
conditional_none v None e c i h =
    next ⊥ (conditional_row (shapes.Conditional (dest_of (lval.Var v)) (class_of e) (has_flags c))) false
    (λ t. false≢true (sym (var_place (known_of v) i) ∙ r_place (var_class (known_of v)) (and_parts (is_r (var_class (known_of v))) _ t).0)) (none_more ⊥) h
