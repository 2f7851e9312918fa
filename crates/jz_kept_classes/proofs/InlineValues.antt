-- What is inline: an integer by what it looks like has no truth as its value, and an inline condition
-- no number.
use Rattle.std.proofs.Common.{◌≡◌, ◌⊎◌, inl, inr, ℤ, Option, Some, None, Bool, true, false, ◌&&◌, not, refl, sym, ap, ◌∙◌, subst, if◌then◌else◌}
use Rattle.std.proofs.lemmas.Bool.{false≢true, and_parts}
use Rattle.std.specs.Int.{w128, int_bit_and, int_bit_or, int_bit_xor}
use Rattle.jz_tree.specs.Operators.{joins}
use Rattle.jz_tree.specs.declared.expr.Storage.{Storage}
use Rattle.jz_tree.specs.declared.expr.Storage.TheVariants as storage
use Rattle.jz_tree.specs.declared.expr.BinOp.{BinOp}
use Rattle.jz_tree.specs.declared.expr.BinOp.TheVariants as op
use Rattle.jz_tree.specs.declared.expr.Expr.{Expr}
use Rattle.jz_integers.specs.Integers.{KnownNumbers, number, negated, inverted, on_integers, is_settled, with_right, joined, minus, opposite, inline_value}
use Rattle.jz_integers.specs.declared.constant.Constant.{Constant}
use Rattle.jz_integers.specs.declared.constant.Constant.TheVariants as constant
use Rattle.jz_type_names.specs.declared.kinds.Kind.{Kind}
use Rattle.jz_type_names.specs.declared.kinds.Kind.TheVariants as kind
use Rattle.jz_type_names.specs.Kinds.{Known, known_of, inline_int, is_inline_int, is_inline}
use Rattle.jz_select.specs.Look.{Look, look_of, looks, is_inline_var, is_reg64, reg64, compares_values, gives_number}
use Rattle.jz_judgement.specs.HasType.{Layer}
use Rattle.jz_run_laws.specs.Counted as counted
use Rattle.jz_row_laws.proofs.Fixed.{look_layer, var_known}
use Rattle.jz_unroll.proofs.InlineParts.{inline_layer, inline_out}
use Rattle.jz_kept_classes.proofs.Formed.{Formed, FormedLayer}
use Rattle.jz_kept_classes.proofs.Layers.{look_out, number_of_var, value_layer, value_out}
use Rattle.jz_kept_classes.proofs.Building.{Inlined, bool_inlined, two_inlined}

-- ---- what it looks like
kind_inlined : (s : Storage) (k : Kind) → inline_int s k ≡ true → Inlined (looks (inline_int s k) false (reg64 s k) false)
kind_inlined storage.Inline kind.Int h = inl (record { inline = refl; reg = refl; scaled = refl; sum = refl })
kind_inlined storage.Inline kind.Truth h = absurd (false≢true h)
kind_inlined storage.Inline (kind.Word z) h = absurd (false≢true h)
kind_inlined storage.Inline (kind.Array z) h = absurd (false≢true h)
kind_inlined storage.Reg k h = absurd (false≢true h)
kind_inlined storage.Stack k h = absurd (false≢true h)

known_inlined : (k : Known) → is_inline_int k ≡ true → Inlined (looks (is_inline_var k) false (is_reg64 k) false)
known_inlined None h = inr (record { inline = refl; reg = refl; scaled = refl; bad = refl })
known_inlined (Some d) h = kind_inlined d.storage d.kind h

mutual
  pub inline_looked : (e : Expr) → Formed e → is_inline e ≡ true → Inlined (look_of e)
  inline_looked e (counted.expression f) h = subst Inlined (sym (look_out e)) (layer_looked f (sym (inline_out e) ∙ h))

  layer_looked : {x : Layer} → FormedLayer x → inline_layer x ≡ true → Inlined (look_layer x)
  layer_looked counted.number h = bool_inlined true false
  layer_looked counted.bool h = bool_inlined false true
  layer_looked (counted.variable {v = v} p) h = subst (λ k. Inlined (looks (is_inline_var k) false (is_reg64 k) false)) (sym (var_known v)) (known_inlined (known_of v) h)
  layer_looked (counted.cell p i) h = absurd (false≢true h)
  layer_looked (counted.load a) h = absurd (false≢true h)
  layer_looked (counted.negated {a = a} f) h = bool_inlined (look_of a).inline false
  layer_looked (counted.inverted {a = a} f) h = bool_inlined (look_of a).inline (look_of a).condition
  layer_looked (counted.cast f) h = absurd (false≢true h)
  layer_looked (counted.operation {o = o} {a = a} {b = b} f g) h =
      let i = and_parts (is_inline a) (is_inline b) h in
      two_inlined o (look_of a) (look_of b) (inline_looked a f i.0) (inline_looked b g i.1)

-- ---- values of one kind
abbrev IsTruth : Option Constant → Type 0
IsTruth x = (b : Bool) × (x ≡ Some (constant.Bool b))

abbrev IsInteger : Option Constant → Type 0
IsInteger x = (i : ℤ) × (x ≡ Some (constant.Int i))

number_no_truth : (o : Option ℤ) → IsTruth (number o) → ⊥
number_no_truth None (b, e) = cc
number_no_truth (Some i) (b, e) = cc

bool_no_integer : (c : Bool) → IsInteger (Some (constant.Bool c)) → ⊥
bool_no_integer c (i, e) = cc

none_no_truth : IsTruth None → ⊥
none_no_truth (b, e) = cc

none_no_integer : IsInteger None → ⊥
none_no_integer (i, e) = cc

minus_no_truth : (o : Option Constant) → IsTruth (minus o) → ⊥
minus_no_truth None h = none_no_truth h
minus_no_truth (Some (constant.Int i)) h = number_no_truth (negated i) h
minus_no_truth (Some (constant.Bool b)) h = none_no_truth h

opposite_no_truth : (o : Option Constant) → (IsTruth o → ⊥) → IsTruth (opposite o) → ⊥
opposite_no_truth None n h = none_no_truth h
opposite_no_truth (Some (constant.Int i)) n h = number_no_truth (Some (inverted i)) h
opposite_no_truth (Some (constant.Bool b)) n h = n (b, refl)

opposite_no_integer : (o : Option Constant) → (IsInteger o → ⊥) → IsInteger (opposite o) → ⊥
opposite_no_integer None n h = none_no_integer h
opposite_no_integer (Some (constant.Int i)) n h = n (i, refl)
opposite_no_integer (Some (constant.Bool b)) n h = bool_no_integer (not b) h

integers_no_truth : (o : BinOp) (i j : ℤ) → gives_number o ≡ true → IsTruth (on_integers o i j) → ⊥
integers_no_truth op.Or i j g h = number_no_truth (Some (int_bit_or w128 i j)) h
integers_no_truth op.Xor i j g h = number_no_truth (Some (int_bit_xor w128 i j)) h
integers_no_truth op.And i j g h = number_no_truth (Some (int_bit_and w128 i j)) h
integers_no_truth op.Add i j g h = number_no_truth _ h
integers_no_truth op.Sub i j g h = number_no_truth _ h
integers_no_truth op.Mul i j g h = number_no_truth _ h
integers_no_truth op.Div i j g h = number_no_truth _ h
integers_no_truth op.Rem i j g h = number_no_truth _ h
integers_no_truth op.Shl i j g h = number_no_truth _ h
integers_no_truth op.Shr i j g h = number_no_truth _ h
integers_no_truth op.Eq i j g h = false≢true g
integers_no_truth op.Ne i j g h = false≢true g
integers_no_truth op.Lt i j g h = false≢true g
integers_no_truth op.Le i j g h = false≢true g
integers_no_truth op.Gt i j g h = false≢true g
integers_no_truth op.Ge i j g h = false≢true g
integers_no_truth o i j g h = none_no_truth h

compared_no_integer : (o : BinOp) (i j : ℤ) → compares_values o ≡ true → IsInteger (on_integers o i j) → ⊥
compared_no_integer op.Eq i j g h = bool_no_integer _ h
compared_no_integer op.Ne i j g h = bool_no_integer _ h
compared_no_integer op.Lt i j g h = bool_no_integer _ h
compared_no_integer op.Le i j g h = bool_no_integer _ h
compared_no_integer op.Gt i j g h = bool_no_integer _ h
compared_no_integer op.Ge i j g h = bool_no_integer _ h
compared_no_integer op.LtS i j g h = none_no_integer h
compared_no_integer op.LeS i j g h = none_no_integer h
compared_no_integer op.GtS i j g h = none_no_integer h
compared_no_integer op.GeS i j g h = none_no_integer h
compared_no_integer o i j g h = false≢true g

joined_no_truth : (o : BinOp) (x y : Option Constant) → gives_number o ≡ true → (IsTruth x → ⊥) → IsTruth (joined o x y) → ⊥
joined_no_truth o None y g n h = none_no_truth h
joined_no_truth o (Some (constant.Bool b)) y g n h = n (b, refl)
joined_no_truth o (Some (constant.Int i)) None g n h = none_no_truth h
joined_no_truth o (Some (constant.Int i)) (Some (constant.Int j)) g n h = integers_no_truth o i j g h
joined_no_truth o (Some (constant.Int i)) (Some (constant.Bool c)) g n h = none_no_truth h

-- a truth beside another value
truths_no_integer : (o : BinOp) (s b : Bool) (y : Option Constant) → IsInteger (if s then Some (constant.Bool b) else with_right o (constant.Bool b) y) → ⊥
truths_no_integer o true b y h = bool_no_integer b h
truths_no_integer o false b None h = none_no_integer h
truths_no_integer o false b (Some (constant.Int j)) h = none_no_integer h
truths_no_integer o false b (Some (constant.Bool c)) h = by_join (joins o) h
  where
    by_join : (j : Bool) → IsInteger (if j then Some (constant.Bool c) else None) → ⊥
    by_join true h = bool_no_integer c h
    by_join false h = none_no_integer h

joined_no_integer : (o : BinOp) (x y : Option Constant) → (IsInteger x → compares_values o ≡ true) → IsInteger (joined o x y) → ⊥
joined_no_integer o None y f h = none_no_integer h
joined_no_integer o (Some (constant.Bool b)) y f h = truths_no_integer o (is_settled o (constant.Bool b)) b y h
joined_no_integer o (Some (constant.Int i)) None f h = none_no_integer h
joined_no_integer o (Some (constant.Int i)) (Some (constant.Int j)) f h = compared_no_integer o i j (f (i, refl)) h
joined_no_integer o (Some (constant.Int i)) (Some (constant.Bool c)) f h = none_no_integer h

if_join : (j v : Bool) (p q r s : Bool) → (if j then q && p else v && (s && r)) ≡ true → (p ≡ true) ⊎ (v ≡ true)
if_join true v p q r s e = inl (and_parts q p e).1
if_join false v p q r s e = inr (and_parts v (s && r) e).0

or_compared : {A : Type 0} (v : Bool) → (A → ⊥) → A ⊎ (v ≡ true) → v ≡ true
or_compared v n (inl p) = absurd (n p)
or_compared v n (inr q) = q

module _ (k : KnownNumbers) where
  mutual
    pub number_not_truth : (e : Expr) → Formed e → (look_of e).inline ≡ true → IsTruth (inline_value k e) → ⊥
    number_not_truth e (counted.expression f) h v = layer_not_truth f (sym (ap (λ (l : Look). l.inline) (look_out e)) ∙ h) (subst IsTruth (value_out k e) v)

    layer_not_truth : {x : Layer} → FormedLayer x → (look_layer x).inline ≡ true → IsTruth (value_layer k x) → ⊥
    layer_not_truth (counted.number {n = n}) h v = number_no_truth (Some n) v
    layer_not_truth counted.bool h v = false≢true h
    layer_not_truth (counted.variable {v = w} p) h v = number_no_truth (number_of_var k w) v
    layer_not_truth (counted.cell p i) h v = false≢true h
    layer_not_truth (counted.load a) h v = false≢true h
    layer_not_truth (counted.negated {a = a} f) h v = minus_no_truth (inline_value k a) v
    layer_not_truth (counted.inverted {a = a} f) h v = opposite_no_truth (inline_value k a) (λ t. number_not_truth a f h t) v
    layer_not_truth (counted.cast f) h v = false≢true h
    layer_not_truth (counted.operation {o = o} {a = a} {b = b} f g) h v =
        let x = and_parts (gives_number o) ((look_of b).inline && (look_of a).inline) h in
        let y = and_parts (look_of b).inline (look_of a).inline x.1 in
        joined_no_truth o (inline_value k a) (inline_value k b) x.0 (λ t. number_not_truth a f y.1 t) v

  mutual
    pub condition_no_number : (e : Expr) → Formed e → (look_of e).condition ≡ true → IsInteger (inline_value k e) → ⊥
    condition_no_number e (counted.expression f) h v = layer_no_number f (sym (ap (λ (l : Look). l.condition) (look_out e)) ∙ h) (subst IsInteger (value_out k e) v)

    layer_no_number : {x : Layer} → FormedLayer x → (look_layer x).condition ≡ true → IsInteger (value_layer k x) → ⊥
    layer_no_number counted.number h v = false≢true h
    layer_no_number (counted.bool {b = b}) h v = bool_no_integer b v
    layer_no_number (counted.variable p) h v = false≢true h
    layer_no_number (counted.cell p i) h v = false≢true h
    layer_no_number (counted.load a) h v = false≢true h
    layer_no_number (counted.negated f) h v = false≢true h
    layer_no_number (counted.inverted {a = a} f) h v = opposite_no_integer (inline_value k a) (λ t. condition_no_number a f h t) v
    layer_no_number (counted.cast f) h v = false≢true h
    layer_no_number (counted.operation {o = o} {a = a} {b = b} f g) h v =
        let c = if_join (joins o) (compares_values o) (look_of a).condition (look_of b).condition (look_of a).inline (look_of b).inline h in
        joined_no_integer o (inline_value k a) (inline_value k b) (λ t. or_compared (compares_values o) (λ p. condition_no_number a f p t) c) v
