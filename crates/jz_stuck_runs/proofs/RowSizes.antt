-- An instruction that has a row has a size, unless it is LEA or SETcc, which have one of their own.
use Rattle.std.proofs.Common.{◌≡◌, Bool, true, false, ◌&&◌, ◌||◌, List, [], ◌∷◌, ◌++◌, Option, Some, None, refl, sym, ◌∙◌, subst, inl, inr, if◌then◌else◌}
use Rattle.std.specs.Prelude.{◌⊎◌}
use Rattle.std.specs.List.{list_any}
use Rattle.std.specs.Option.{option_or}
use Rattle.std.proofs.lemmas.Bool.{false≢true, and_parts}
use Rattle.jz_tree.specs.Size.{Size}
use Rattle.jz_tree.specs.declared.expr.Storage.{Storage}
use Rattle.jz_tree.specs.declared.expr.Storage.TheVariants as storage
use Rattle.jz_tree.specs.declared.expr.Expr.{Expr}
use Rattle.jz_tree.specs.declared.expr.Expr.TheOpen.{Expr-F}
use Rattle.jz_tree.specs.declared.expr.Expr.TheViews.{out-Expr, out-Access}
use Rattle.jz_tree.specs.declared.stmt.Lval.{Lval}
use Rattle.jz_tree.specs.declared.intrinsic.Intrinsic.{Intrinsic}
use Rattle.jz_tree.specs.declared.intrinsic.Intrinsic.TheVariants as name
use Rattle.jz_tree.specs.declared.intrinsic.Instance.{Instance}
use Rattle.jz_type_names.specs.declared.kinds.Kind as known
use Rattle.jz_type_names.specs.declared.kinds.Kind.TheVariants as scope
use Rattle.jz_type_names.specs.Kinds.{Known, known_of, is_array, is_array_kind}
use Rattle.jz_type_sizes.specs.declared.signatures.Role.{Role}
use Rattle.jz_type_sizes.specs.declared.signatures.Role.TheVariants as role
use Rattle.jz_type_sizes.specs.Signatures.{five, four, operands_of, results_of}
use Rattle.jz_select.specs.declared.class.Class.{Class}
use Rattle.jz_select.specs.declared.class.Class.TheVariants as class
use Rattle.jz_select.specs.declared.class.Operand.{Operand}
use Rattle.jz_select.specs.declared.shape.Shape as rowed
use Rattle.jz_select.specs.declared.shape.Shape.TheVariants as shapes
use Rattle.jz_select.specs.declared.shaping.Flags.{Flags}
use Rattle.jz_select.specs.declared.shaping.Flags.TheVariants as flags
use Rattle.jz_select.specs.Look.{look_of, bin_inline}
use Rattle.jz_select.specs.Operands.{class_at, var_class, inline_or, masked_class, class_layer, class_of, dest_of}
use Rattle.jz_select.specs.Rows.{is_r, is_i, is_m, is_rm, is_rmi, is_flag, is_pinned, is_long, class_size, changes, computes, times, times_inline, shifts_inline, shifts_masked, masks, one_fits, two_fits, three_fits, product_size, is_product, division_size, divides_long, named_if}
use Rattle.jz_select.specs.Selected.{is_named, intrinsics}
use Rattle.jz_select.specs.Shapes.{Asked, two_lead, four_lead, five_lead, if_lead, value_behind, compare_shape, beside, one_shape, two_shape, three_shape, product_shape, stand_apart, division_shape, intrinsic_shape}
use Rattle.jz_judgement.specs.Places.{unsized, KindGoes, Goes}
use Rattle.jz_judgement.specs.HasType as judged
use Rattle.jz_judgement.specs.HasType.{Layer, value, HasType, Types, Accesses}
use Rattle.jz_judgement.specs.Lefts as lefts
use Rattle.jz_judgement.specs.Lefts.{NumberKind, IsNumber, Leaves}
use Rattle.jz_judgement.specs.WellTyped as well
use Rattle.jz_judgement.specs.WellTyped.{InPairs, Output, role_place}
use Rattle.jz_judgement.proofs.Nothing.{none_not, some_not}
use Rattle.jz_judgement.proofs.Holding.{leaves_size}
use Rattle.jz_run_laws.specs.OneSize.{takes_size}
use Rattle.jz_run_laws.proofs.Sizes.{types_of}
use Rattle.jz_run_laws.proofs.Classes.{result_law, place_law}
use Rattle.jz_row_laws.proofs.Booleans.{or_left, or_parts}
use Rattle.jz_row_laws.proofs.Copied.{Matches, no_free}
use Rattle.jz_stuck_runs.proofs.Classes.{masked_none}

-- ---- a register or memory has a size
array_rm : (s : Storage) (k : known.Kind) → is_array_kind k ≡ true → is_rm (class_at s k) ≡ true → ⊥
array_rm s scope.Int a e = false≢true a
array_rm s scope.Truth a e = false≢true a
array_rm s (scope.Word z) a e = false≢true a
array_rm storage.Reg (scope.Array z) a e = false≢true e
array_rm storage.Stack (scope.Array z) a e = false≢true e
array_rm storage.Inline (scope.Array z) a e = false≢true e

number_rm : (s : Storage) (k : known.Kind) → NumberKind k → is_rm (class_at s k) ≡ true → ⊥
number_rm storage.Reg scope.Int n e = false≢true e
number_rm storage.Stack scope.Int n e = false≢true e
number_rm storage.Inline scope.Int n e = false≢true e
number_rm s scope.Truth n e = n
number_rm s (scope.Word z) n e = n
number_rm s (scope.Array z) n e = n

pub known_array_rm : (k : Known) → is_array k ≡ true → is_rm (var_class k) ≡ true → ⊥
known_array_rm None a e = false≢true a
known_array_rm (Some d) a e = array_rm d.storage d.kind a e

pub known_number_rm : (k : Known) → IsNumber k → is_rm (var_class k) ≡ true → ⊥
known_number_rm None n e = n
known_number_rm (Some d) n e = number_rm d.storage d.kind n e

pub leaves_rm : (d : Lval) → Leaves d unsized → is_rm (dest_of d) ≡ true → ⊥
leaves_rm d lefts.nothing e = false≢true e
leaves_rm d (lefts.array {v = v} a) e = known_array_rm (known_of v) a e
leaves_rm d (lefts.number {v = v} n i t) e = known_number_rm (known_of v) n e

inline_rm : (b : Bool) (c : Class) → (is_rm c ≡ true → ⊥) → is_rm (inline_or b c) ≡ true → ⊥
inline_rm true c n h = false≢true h
inline_rm false c n h = n h

word_rm : (k : Known) → is_rm (var_class k) ≡ true → Goes k unsized → ⊥
word_rm None e g = false≢true e
word_rm (Some d) e g = by_kind d.storage d.kind e g
  where
    by_kind : (s : Storage) (k : known.Kind) → is_rm (class_at s k) ≡ true → KindGoes k unsized → ⊥
    by_kind s scope.Int e g = number_rm s scope.Int tt e
    by_kind s scope.Truth e g = g
    by_kind s (scope.Word z) e g = g
    by_kind s (scope.Array z) e g = g

access_rm : (a : judged.AccessLayer) → Accesses a unsized → ⊥
access_rm a (judged.sized z e t x) = t

layer_rm : (x : Layer) → is_rm (class_layer x) ≡ true → Types x unsized → ⊥
layer_rm (Expr-F.Num n at) e t = false≢true e
layer_rm (Expr-F.Expr::Bool b at) e t = false≢true e
layer_rm (Expr-F.Var v) e (judged.variable g) = word_rm (known_of v) e g
layer_rm (Expr-F.Cell v i) e (judged.cell z a t x) = t
layer_rm (Expr-F.Load a) e (judged.load x) = access_rm (out-Access a) x
layer_rm (Expr-F.Neg a at) e t = inline_rm (look_of a).inline class.Other (λ h. false≢true h) e
layer_rm (Expr-F.Not a at) e t = inline_rm (look_of a).inline class.Other (λ h. false≢true h) e
layer_rm (Expr-F.Cast z s a at) e t = false≢true e
layer_rm (Expr-F.Bin o a b at) e t = inline_rm (bin_inline o (look_of a) (look_of b)) (masked_class o a b) (masked_none is_rm refl refl refl o a b) e

rm_unsized : (e : Expr) → is_rm (class_of e) ≡ true → HasType (value e) unsized → ⊥
rm_unsized e h t = layer_rm (out-Expr e) h (types_of e unsized t)

-- ---- no size
none_of : (o : Option Size) → ((y : Size) → o ≡ Some y → ⊥) → o ≡ None
none_of None n = refl
none_of (Some y) n = absurd (n y refl)

pub left_none : (d : Lval) → Leaves d unsized → class_size (dest_of d) ≡ None
left_none d l = none_of (class_size (dest_of d)) (λ y e. none_not y (sym (leaves_size d unsized l) ∙ result_law d y e))

pub operand_none : (e : Expr) → HasType (value e) unsized → class_size (class_of e) ≡ None
operand_none e t = none_of (class_size (class_of e)) (λ y i. none_not y (place_law e unsized y t i))

pub four_none : (a b c d : Option Size) → a ≡ None → b ≡ None → c ≡ None → d ≡ None → is_long (option_or a (option_or b (option_or c d))) ≡ true → ⊥
four_none None None None None p q r s h = false≢true h
four_none (Some y) b c d p q r s h = some_not y p
four_none None (Some y) c d p q r s h = some_not y q
four_none None None (Some y) d p q r s h = some_not y r
four_none None None None (Some y) p q r s h = some_not y s

five_none : (a b c d e : Option Size) → a ≡ None → b ≡ None → c ≡ None → d ≡ None → e ≡ None → is_long (option_or a (option_or b (option_or c (option_or d e)))) ≡ true → ⊥
five_none None b c d e p q r s t h = four_none b c d e q r s t h
five_none (Some y) b c d e p q r s t h = some_not y p

-- ---- which rows
abbrev any_named : Option Intrinsic → Bool
any_named o = list_any (λ n. is_named n o) intrinsics

pub named_fits : (n : Intrinsic) (c : Bool) → any_named (named_if n c) ≡ true → c ≡ true
named_fits n true h = refl
named_fits n false h = absurd (false≢true h)

r_rm : (c : Class) → is_r c ≡ true → is_rm c ≡ true
r_rm c h = or_left (is_r c) (is_m c) h

one_rm : (n : Intrinsic) (z : Option Size) (d : Class) (a : Operand) → one_fits n z d a ≡ true → is_rm d ≡ true
one_rm name.Neg z d a h = (and_parts (is_rm d) _ h).0
one_rm name.Inc z d a h = (and_parts (is_rm d) _ h).0
one_rm name.Dec z d a h = (and_parts (is_rm d) _ h).0
one_rm name.Not z d a h = (and_parts (is_rm d) _ h).0
one_rm name.Bswap z d a h = r_rm d (and_parts (is_r d) _ h).0
one_rm n z d a h = absurd (false≢true h)

plain_rm : (s : Bool) (d : Class) (a o : Operand) → (is_rmi o.class && computes s d a o) ≡ true → is_rm d ≡ true
plain_rm s d a o h = (and_parts (is_rm d) _ (and_parts (is_rmi o.class) (computes s d a o) h).1).0

times_rm : (d : Class) (a o : Operand) → (times d a o || times_inline d a o) ≡ true → is_rm d ≡ true
times_rm d a o h = by_part (or_parts (times d a o) (times_inline d a o) h)
  where
    by_part : (times d a o ≡ true) ⊎ (times_inline d a o ≡ true) → is_rm d ≡ true
    by_part (inl t) = r_rm d (and_parts (is_r d) _ t).0
    by_part (inr t) = r_rm d (and_parts (is_r d) _ t).0

shift_rm : (z : Option Size) (d : Class) (a o : Operand) → (shifts_inline d a o || shifts_masked z d a o) ≡ true → is_rm d ≡ true
shift_rm z d a o h = by_part (or_parts (shifts_inline d a o) (shifts_masked z d a o) h)
  where
    by_part : (shifts_inline d a o ≡ true) ⊎ (shifts_masked z d a o ≡ true) → is_rm d ≡ true
    by_part (inl t) = (and_parts (is_rm d) _ (and_parts (is_i o.class) (changes d a) t).1).0
    by_part (inr t) = (and_parts (is_rm d) _ (and_parts (masks _ o.class) (computes false d a o) t).1).0

two_rm : (n : Intrinsic) (z : Option Size) (d : Class) (a o : Operand) → two_fits n z d a o ≡ true → is_rm d ≡ true
two_rm name.Add z d a o h = plain_rm true d a o h
two_rm name.And z d a o h = plain_rm true d a o h
two_rm name.Or z d a o h = plain_rm true d a o h
two_rm name.Xor z d a o h = plain_rm true d a o h
two_rm name.Sub z d a o h = plain_rm false d a o h
two_rm name.Imul z d a o h = times_rm d a o h
two_rm name.Shl z d a o h = shift_rm z d a o h
two_rm name.Shr z d a o h = shift_rm z d a o h
two_rm name.Sar z d a o h = shift_rm z d a o h
two_rm name.Rol z d a o h = shift_rm z d a o h
two_rm name.Ror z d a o h = shift_rm z d a o h
two_rm n z d a o h = absurd (false≢true h)

three_rm : (n : Intrinsic) (d : Class) (a o : Operand) (c : Class) → three_fits n d a o c ≡ true → is_rm d ≡ true
three_rm name.Adc d a o c h = plain_rm true d a o (and_parts (is_flag c) _ h).1
three_rm name.Sbb d a o c h = plain_rm false d a o (and_parts (is_flag c) _ h).1
three_rm n d a o c h = absurd (false≢true h)

-- ---- behind so many flags
pub data IsBehind : Flags → List Lval → Lval → Type 0 where
  behind_none : {d : Lval} → IsBehind flags.Zero (d ∷ []) d
  behind_two : {a b d : Lval} → IsBehind flags.Two (a ∷ b ∷ d ∷ []) d
  behind_four : {a b c g d : Lval} → IsBehind flags.Four (a ∷ b ∷ c ∷ g ∷ d ∷ []) d
  behind_five : {a b c g k d : Lval} → IsBehind flags.Five (a ∷ b ∷ c ∷ g ∷ k ∷ d ∷ []) d

lead_of : (b : Bool) (d : Lval) (F : Option Lval → rowed.Shape) → F None ≡ shapes.Free → Matches (F (if_lead b d)) → Matches (F (Some d))
lead_of true d F n m = m
lead_of false d F n m = absurd (no_free (subst Matches n m))

pub behind : (f : Flags) (to : List Lval) (d : Lval) (F : Option Lval → rowed.Shape) → F None ≡ shapes.Free → IsBehind f to d → Matches (F (value_behind f to)) → Matches (F (Some d))
behind f to d F n behind_none m = m
behind f to d F n (behind_two {a} {b}) m = lead_of (two_lead a b) d F n m
behind f to d F n (behind_four {a} {b} {c} {g}) m = lead_of (four_lead a b c g) d F n m
behind f to d F n (behind_five {a} {b} {c} {g} {k}) m = lead_of (five_lead a b c g k) d F n m

if_five : (b : Bool) (s : rowed.Shape) → Matches (if b then s else shapes.Free) → Matches s
if_five true s m = m
if_five false s m = absurd (no_free m)

-- ---- each instruction
-- its operands have their types
abbrev pub Typed : Option Size → Role → Expr → Type 0
Typed z r e = HasType (value e) (role_place z r)

-- the value behind so many flags, where there is no size
record Last (f : Flags) (to : List Lval) : Type 0 where
  pub left : Lval
  pub behind : IsBehind f to left
  pub leaves : Leaves left unsized

last_none : (to : List Lval) → InPairs (Output None) (role.Value ∷ []) to → Last flags.Zero to
last_none to (well.next {b = d} v well.none) = record { left = d; behind = behind_none; leaves = v }

last_two : (to : List Lval) → InPairs (Output None) (role.Flag ∷ role.Flag ∷ role.Value ∷ []) to → Last flags.Two to
last_two to (well.next a (well.next b (well.next {b = d} v well.none))) = record { left = d; behind = behind_two; leaves = v }

last_four : (to : List Lval) → InPairs (Output None) (four ++ role.Value ∷ []) to → Last flags.Four to
last_four to (well.next a (well.next b (well.next c (well.next g (well.next {b = d} v well.none))))) = record { left = d; behind = behind_four; leaves = v }

last_five : (to : List Lval) → InPairs (Output None) (five ++ role.Value ∷ []) to → Last flags.Five to
last_five to (well.next a (well.next b (well.next c (well.next g (well.next k (well.next {b = d} v well.none)))))) = record { left = d; behind = behind_five; leaves = v }

module _ (asked : Asked) (i : Instance) (to : List Lval) where
  one_sized : (f : Flags) (args : List Expr) (r : Role) → Last f to → InPairs (Typed None) (r ∷ []) args → Matches (one_shape asked i (value_behind f to) args) → ⊥
  one_sized f args r l (well.next {b = x} t well.none) m =
      let d = l.left in
      leaves_rm d l.leaves
      (one_rm i.name i.size (dest_of d) (beside asked d (Some x) x)
      (named_fits i.name (one_fits i.name i.size (dest_of d) (beside asked d (Some x) x)) (behind f to d (λ o. one_shape asked i o (x ∷ [])) refl l.behind m)))

  two_sized : (f : Flags) (args : List Expr) (r q : Role) → Last f to → InPairs (Typed None) (r ∷ q ∷ []) args → Matches (two_shape asked i (value_behind f to) args) → ⊥
  two_sized f args r q l (well.next {b = x} t (well.next {b = y} u well.none)) m =
      let d = l.left in
      leaves_rm d l.leaves
      (two_rm i.name i.size (dest_of d) (beside asked d (Some x) x) (beside asked d (Some x) y)
      (named_fits i.name (two_fits i.name i.size (dest_of d) (beside asked d (Some x) x) (beside asked d (Some x) y)) (behind f to d (λ o. two_shape asked i o (x ∷ y ∷ [])) refl l.behind m)))

  three_sized : (args : List Expr) (r q p : Role) → Last flags.Five to → InPairs (Typed None) (r ∷ q ∷ p ∷ []) args → Matches (three_shape asked i (value_behind flags.Five to) args) → ⊥
  three_sized args r q p l (well.next {b = x} t (well.next {b = y} u (well.next {b = c} w well.none))) m =
      let d = l.left in
      leaves_rm d l.leaves
      (three_rm i.name (dest_of d) (beside asked d (Some x) x) (beside asked d (Some x) y) (class_of c)
      (named_fits i.name (three_fits i.name (dest_of d) (beside asked d (Some x) x) (beside asked d (Some x) y) (class_of c)) (behind flags.Five to d (λ o. three_shape asked i o (x ∷ y ∷ c ∷ [])) refl l.behind m)))

compare_sized : (i : Instance) (to : List Lval) (args : List Expr) → InPairs (Output None) five to → InPairs (Typed None) (role.Value ∷ role.Value ∷ []) args → Matches (compare_shape i to args) → ⊥
compare_sized i to args (well.next {b = a} oa (well.next {b = b} ob (well.next {b = c} oc (well.next {b = g} og (well.next {b = k} ok well.none))))) (well.next {b = x} t (well.next {b = y} u well.none)) m =
    rm_unsized x
    (and_parts (is_rm (class_of x)) _
    (named_fits i.name (is_rm (class_of x) && (is_r (class_of y) || is_i (class_of y))) (if_five (five_lead a b c g k) (shapes.Compare i.name (class_of x) (class_of y)) m))).0 t

product_sized : (asked : Asked) (i : Instance) (to : List Lval) (args : List Expr) → i.size ≡ None → InPairs (Output None) (five ++ role.Value ∷ role.Value ∷ []) to → InPairs (Typed None) (role.Value ∷ role.Value ∷ []) args
    → Matches (product_shape asked i to args) → ⊥
product_sized asked i to args none (well.next {b = a} oa (well.next {b = b} ob (well.next {b = c} oc (well.next {b = g} og (well.next {b = k} ok (well.next {b = p} h (well.next {b = q} l well.none)))))))
    (well.next {b = x} t (well.next {b = y} u well.none)) m =
    let v = beside asked q (Some x) x in
    let w = beside asked q (Some x) y in
    let fits = named_fits name.Mul (is_product i.size (dest_of p) (dest_of q) v w) (if_five (five_lead a b c g k) (shapes.Product i.size (dest_of p) (dest_of q) v w) m) in
    let long = (and_parts (is_long (product_size i.size (dest_of p) (dest_of q) v w)) _ (and_parts (is_pinned (dest_of p)) _ fits).1).0 in
    four_none (class_size (dest_of p)) (class_size (dest_of q)) (class_size (class_of x)) (class_size (class_of y)) (left_none p h) (left_none q l) (operand_none x t) (operand_none y u)
    (subst (λ z. is_long (product_size z (dest_of p) (dest_of q) v w) ≡ true) none long)

division_sized : (asked : Asked) (i : Instance) (to : List Lval) (args : List Expr) → i.size ≡ None → InPairs (Output None) (five ++ role.Value ∷ role.Value ∷ []) to → InPairs (Typed None) (role.Value ∷ role.Value ∷ role.Value ∷ []) args
    → Matches (division_shape asked i to args) → ⊥
division_sized asked i to args none (well.next {b = a} oa (well.next {b = b} ob (well.next {b = c} oc (well.next {b = g} og (well.next {b = k} ok (well.next {b = p} h (well.next {b = q} l well.none)))))))
    (well.next {b = x} t (well.next {b = y} u (well.next {b = z} v well.none))) m =
    let s = stand_apart asked p q x z in
    let fits = named_fits name.Div (divides_long i.size (dest_of p) (dest_of q) (class_of x) (class_of y) (class_of z) s)
    (if_five (five_lead a b c g k) (shapes.Division i.size (dest_of p) (dest_of q) (class_of x) (class_of y) (class_of z) s) m) in
    let e1 = (and_parts (is_pinned (dest_of p)) _ fits).1 in
    let e2 = (and_parts (is_pinned (dest_of q)) _ e1).1 in
    let e3 = (and_parts (is_rmi (class_of x)) _ e2).1 in
    let e4 = (and_parts (is_rmi (class_of y)) _ e3).1 in
    let long = (and_parts s _ (and_parts (is_rm (class_of z)) _ e4).1).1 in
    five_none (class_size (dest_of p)) (class_size (dest_of q)) (class_size (class_of x)) (class_size (class_of y)) (class_size (class_of z)) (left_none p h) (left_none q l) (operand_none x t) (operand_none y u) (operand_none z v)
    (subst (λ n. is_long (division_size n (dest_of p) (dest_of q) (class_of x) (class_of y) (class_of z)) ≡ true) none long)

-- no instruction but these two is without a size
pub sized : (asked : Asked) (n : Intrinsic) (i : Instance) (to : List Lval) (args : List Expr) → takes_size n ≡ true → i.size ≡ None → InPairs (Output None) (results_of n) to → InPairs (Typed None) (operands_of n) args
    → Matches (intrinsic_shape asked n i to args) → ⊥
sized asked name.Neg i to args t z o p m = one_sized asked i to flags.Five args role.Value (last_five to o) p m
sized asked name.Inc i to args t z o p m = one_sized asked i to flags.Four args role.Value (last_four to o) p m
sized asked name.Dec i to args t z o p m = one_sized asked i to flags.Four args role.Value (last_four to o) p m
sized asked name.Not i to args t z o p m = one_sized asked i to flags.Zero args role.Value (last_none to o) p m
sized asked name.Bswap i to args t z o p m = one_sized asked i to flags.Zero args role.Value (last_none to o) p m
sized asked name.Lea i to args t z o p m = absurd (false≢true t)
sized asked name.Setcc i to args t z o p m = absurd (false≢true t)
sized asked name.Adc i to args t z o p m = three_sized asked i to args role.Value role.Value role.Condition (last_five to o) p m
sized asked name.Sbb i to args t z o p m = three_sized asked i to args role.Value role.Value role.Condition (last_five to o) p m
sized asked name.Cmp i to args t z o p m = compare_sized i to args o p m
sized asked name.Test i to args t z o p m = compare_sized i to args o p m
sized asked name.Mul i to args t z o p m = product_sized asked i to args z o p m
sized asked name.Div i to args t z o p m = division_sized asked i to args z o p m
sized asked name.Rol i to args t z o p m = two_sized asked i to flags.Two args role.Value role.Count (last_two to o) p m
sized asked name.Ror i to args t z o p m = two_sized asked i to flags.Two args role.Value role.Count (last_two to o) p m
sized asked name.Shl i to args t z o p m = two_sized asked i to flags.Five args role.Value role.Count (last_five to o) p m
sized asked name.Shr i to args t z o p m = two_sized asked i to flags.Five args role.Value role.Count (last_five to o) p m
sized asked name.Sar i to args t z o p m = two_sized asked i to flags.Five args role.Value role.Count (last_five to o) p m
sized asked name.Add i to args t z o p m = two_sized asked i to flags.Five args role.Value role.Value (last_five to o) p m
sized asked name.Sub i to args t z o p m = two_sized asked i to flags.Five args role.Value role.Value (last_five to o) p m
sized asked name.And i to args t z o p m = two_sized asked i to flags.Five args role.Value role.Value (last_five to o) p m
sized asked name.Or i to args t z o p m = two_sized asked i to flags.Five args role.Value role.Value (last_five to o) p m
sized asked name.Xor i to args t z o p m = two_sized asked i to flags.Five args role.Value role.Value (last_five to o) p m
sized asked name.Imul i to args t z o p m = two_sized asked i to flags.Five args role.Value role.Value (last_five to o) p m
