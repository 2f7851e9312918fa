-- The value of an inline expression is of the kind that its place takes.
use Rattle.std.proofs.Common.{◌≡◌, ℤ, Option, Some, None, Bool, true, false, refl, sym, ap, ◌∙◌, if◌then◌else◌}
use Rattle.std.proofs.lemmas.Bool.{and_parts, false≢true}
use Rattle.std.specs.Int.{w128, int_bit_and, int_bit_or, int_bit_xor}
use Rattle.jz_tree.specs.Operators.{joins}
use Rattle.jz_tree.specs.declared.expr.Storage.{Storage}
use Rattle.jz_tree.specs.declared.expr.Storage.TheVariants as storage
use Rattle.jz_tree.specs.declared.expr.BinOp.{BinOp}
use Rattle.jz_tree.specs.declared.expr.BinOp.TheVariants as op
use Rattle.jz_tree.specs.declared.expr.Expr.{Expr}
use Rattle.jz_tree.specs.declared.expr.Expr.TheViews.{out-Expr, roll-Expr, roll-out-Expr}
use Rattle.jz_tree.specs.declared.expr.Expr.TheFolds.{fold-Var, fold-roll-Expr, map-Expr}
use Rattle.jz_tree.specs.declared.expr.Var.{Var}
use Rattle.jz_type_names.specs.declared.kinds.Kind.{Kind}
use Rattle.jz_type_names.specs.declared.kinds.Kind.TheVariants as kind
use Rattle.jz_type_names.specs.Kinds.{Known, known_of, inline_int, is_inline_int, is_inline}
use Rattle.jz_type_sizes.specs.declared.operators.Group.{Group}
use Rattle.jz_type_sizes.specs.declared.operators.Group.TheVariants as group
use Rattle.jz_type_sizes.specs.Operators.{group_of}
use Rattle.jz_integers.specs.Integers.{KnownNumbers, number, truth as truth_value, negated, inverted, on_integers, is_settled, with_right, joined, minus, opposite, value_step, inline_value}
use Rattle.jz_integers.specs.declared.constant.Constant.{Constant}
use Rattle.jz_integers.specs.declared.constant.Constant.TheVariants as constant
use Rattle.jz_judgement.specs.Places.{Place, integer, truth, word, stated, unsized, TakesNumber, TakesCarry, IsTruth, Goes, KindGoes, IsSum}
use Rattle.jz_judgement.specs.HasType as judged
use Rattle.jz_judgement.specs.HasType.{Layer, value, HasType, Types, Operates}
use Rattle.jz_unroll.proofs.InlineParts.{inline_layer, inline_out}

-- the place takes it
abbrev pub Takes : Place → Constant → Type 0
Takes p (constant.Int i) = TakesNumber p
Takes p (constant.Bool b) = IsTruth p

no_both : (p : Place) → TakesNumber p → IsTruth p → ⊥
no_both integer n t = t
no_both truth n t = n
no_both (word z) n t = t
no_both (stated z) n t = t
no_both unsized n t = t

carry_number : (p : Place) → TakesCarry p → TakesNumber p
carry_number integer h = absurd h
carry_number truth h = absurd h
carry_number (word z) h = tt
carry_number (stated z) h = tt
carry_number unsized h = tt

-- ---- values that are numbers
number_takes : (p : Place) (o : Option ℤ) (c : Constant) → TakesNumber p → number o ≡ Some c → Takes p c
number_takes p None c t e = absurd cc
number_takes p (Some i) (constant.Int j) t e = t
number_takes p (Some i) (constant.Bool b) t e = absurd cc

truth_takes : (b : Bool) (c : Constant) → truth_value b ≡ Some c → Takes truth c
truth_takes b (constant.Int j) e = absurd cc
truth_takes b (constant.Bool a) e = tt

none_some : (P : Type 0) (c : Constant) → None ≡ Some c → P
none_some P c e = absurd cc

minus_takes : (p : Place) (o : Option Constant) (c : Constant) → TakesNumber p → minus o ≡ Some c → Takes p c
minus_takes p None c t e = none_some (Takes p c) c e
minus_takes p (Some (constant.Int i)) c t e = number_takes p (negated i) c t e
minus_takes p (Some (constant.Bool b)) c t e = none_some (Takes p c) c e

opposite_takes : (p : Place) (o : Option Constant) (c : Constant) → ((x : Constant) → o ≡ Some x → Takes p x) → opposite o ≡ Some c → Takes p c
opposite_takes p None c h e = none_some (Takes p c) c e
opposite_takes p (Some (constant.Int i)) c h e = number_takes p (Some (inverted i)) c (h (constant.Int i) refl) e
opposite_takes p (Some (constant.Bool b)) (constant.Int j) h e = absurd cc
opposite_takes p (Some (constant.Bool b)) (constant.Bool a) h e = h (constant.Bool b) refl

-- ---- operations
abbrev gives_number : Group → Bool
gives_number group.Arith = true
gives_number group.Shift = true
gives_number _ = false

on_numbers : (o : BinOp) (i j : ℤ) (p : Place) (c : Constant) → gives_number (group_of o) ≡ true → TakesNumber p → on_integers o i j ≡ Some c → Takes p c
on_numbers op.Or i j p c g t e = number_takes p (Some (int_bit_or w128 i j)) c t e
on_numbers op.Xor i j p c g t e = number_takes p (Some (int_bit_xor w128 i j)) c t e
on_numbers op.And i j p c g t e = number_takes p (Some (int_bit_and w128 i j)) c t e
on_numbers op.Add i j p c g t e = number_takes p _ c t e
on_numbers op.Sub i j p c g t e = number_takes p _ c t e
on_numbers op.Mul i j p c g t e = number_takes p _ c t e
on_numbers op.Div i j p c g t e = number_takes p _ c t e
on_numbers op.Rem i j p c g t e = number_takes p _ c t e
on_numbers op.Shl i j p c g t e = number_takes p _ c t e
on_numbers op.Shr i j p c g t e = number_takes p _ c t e
on_numbers op.OrElse i j p c g t e = absurd (false≢true g)
on_numbers op.AndThen i j p c g t e = absurd (false≢true g)
on_numbers op.Eq i j p c g t e = absurd (false≢true g)
on_numbers op.Ne i j p c g t e = absurd (false≢true g)
on_numbers op.Lt i j p c g t e = absurd (false≢true g)
on_numbers op.Le i j p c g t e = absurd (false≢true g)
on_numbers op.Gt i j p c g t e = absurd (false≢true g)
on_numbers op.Ge i j p c g t e = absurd (false≢true g)
on_numbers op.LtS i j p c g t e = absurd (false≢true g)
on_numbers op.LeS i j p c g t e = absurd (false≢true g)
on_numbers op.GtS i j p c g t e = absurd (false≢true g)
on_numbers op.GeS i j p c g t e = absurd (false≢true g)
on_numbers op.Sar i j p c g t e = none_some (Takes p c) c e
on_numbers op.Rol i j p c g t e = none_some (Takes p c) c e
on_numbers op.Ror i j p c g t e = none_some (Takes p c) c e
on_numbers op.DivS i j p c g t e = none_some (Takes p c) c e
on_numbers op.RemS i j p c g t e = none_some (Takes p c) c e

on_compared : (o : BinOp) (i j : ℤ) (c : Constant) → group_of o ≡ group.Compare → on_integers o i j ≡ Some c → Takes truth c
on_compared op.Eq i j c g e = truth_takes _ c e
on_compared op.Ne i j c g e = truth_takes _ c e
on_compared op.Lt i j c g e = truth_takes _ c e
on_compared op.Le i j c g e = truth_takes _ c e
on_compared op.Gt i j c g e = truth_takes _ c e
on_compared op.Ge i j c g e = truth_takes _ c e
on_compared op.LtS i j c g e = none_some (Takes truth c) c e
on_compared op.LeS i j c g e = none_some (Takes truth c) c e
on_compared op.GtS i j c g e = none_some (Takes truth c) c e
on_compared op.GeS i j c g e = none_some (Takes truth c) c e
on_compared op.Or i j c g e = absurd cc
on_compared op.Xor i j c g e = absurd cc
on_compared op.And i j c g e = absurd cc
on_compared op.Add i j c g e = absurd cc
on_compared op.Sub i j c g e = absurd cc
on_compared op.Mul i j c g e = absurd cc
on_compared op.Div i j c g e = absurd cc
on_compared op.Rem i j c g e = absurd cc
on_compared op.DivS i j c g e = absurd cc
on_compared op.RemS i j c g e = absurd cc
on_compared op.Shl i j c g e = absurd cc
on_compared op.Shr i j c g e = absurd cc
on_compared op.Sar i j c g e = absurd cc
on_compared op.Rol i j c g e = absurd cc
on_compared op.Ror i j c g e = absurd cc
on_compared op.OrElse i j c g e = absurd cc
on_compared op.AndThen i j c g e = absurd cc

module _ (o : BinOp) where
  -- the left operand is no truth
  number_left : (x y : Option Constant) (p : Place) (c : Constant) → ((d : Constant) → x ≡ Some d → Takes p d) → ((i j : ℤ) → on_integers o i j ≡ Some c → Takes p c) → TakesNumber p → joined o x y ≡ Some c → Takes p c
  number_left None y p c h f t e = none_some (Takes p c) c e
  number_left (Some (constant.Int i)) None p c h f t e = none_some (Takes p c) c e
  number_left (Some (constant.Int i)) (Some (constant.Int j)) p c h f t e = f i j e
  number_left (Some (constant.Int i)) (Some (constant.Bool b)) p c h f t e = none_some (Takes p c) c e
  number_left (Some (constant.Bool b)) y p c h f t e = absurd (no_both p t (h (constant.Bool b) refl))

  -- two numbers are compared
  compared_left : (q : Place) (x y : Option Constant) (c : Constant) → ((d : Constant) → x ≡ Some d → Takes q d) → ((i j : ℤ) → on_integers o i j ≡ Some c → Takes truth c) → TakesNumber q → joined o x y ≡ Some c → Takes truth c
  compared_left q None y c h f t e = none_some (Takes truth c) c e
  compared_left q (Some (constant.Int i)) None c h f t e = none_some (Takes truth c) c e
  compared_left q (Some (constant.Int i)) (Some (constant.Int j)) c h f t e = f i j e
  compared_left q (Some (constant.Int i)) (Some (constant.Bool b)) c h f t e = none_some (Takes truth c) c e
  compared_left q (Some (constant.Bool b)) y c h f t e = absurd (no_both q t (h (constant.Bool b) refl))

  by_join : (j d : Bool) (c : Constant) → (if j then truth_value d else None) ≡ Some c → Takes truth c
  by_join true d c e = truth_takes d c e
  by_join false d c e = none_some (Takes truth c) c e

  truths_right : (b : Bool) (y : Option Constant) (c : Constant) → with_right o (constant.Bool b) y ≡ Some c → Takes truth c
  truths_right b None c e = none_some (Takes truth c) c e
  truths_right b (Some (constant.Int i)) c e = none_some (Takes truth c) c e
  truths_right b (Some (constant.Bool d)) c e = by_join (joins o) d c e

  by_settled : (s b : Bool) (y : Option Constant) (c : Constant) → (if s then Some (constant.Bool b) else with_right o (constant.Bool b) y) ≡ Some c → Takes truth c
  by_settled true b y c e = truth_takes b c e
  by_settled false b y c e = truths_right b y c e

  truths_left : (x y : Option Constant) (c : Constant) → ((d : Constant) → x ≡ Some d → Takes truth d) → joined o x y ≡ Some c → Takes truth c
  truths_left None y c h e = none_some (Takes truth c) c e
  truths_left (Some (constant.Int i)) y c h e = absurd (h (constant.Int i) refl)
  truths_left (Some (constant.Bool b)) y c h e = by_settled (is_settled o (constant.Bool b)) b y c e

-- ---- variables
int_goes : (s : Storage) (k : Kind) (p : Place) → inline_int s k ≡ true → KindGoes k p → TakesNumber p
int_goes s kind.Int p i g = g
int_goes storage.Inline kind.Truth p i g = absurd (false≢true i)
int_goes storage.Reg kind.Truth p i g = absurd (false≢true i)
int_goes storage.Stack kind.Truth p i g = absurd (false≢true i)
int_goes storage.Inline (kind.Word z) p i g = absurd (false≢true i)
int_goes storage.Reg (kind.Word z) p i g = absurd (false≢true i)
int_goes storage.Stack (kind.Word z) p i g = absurd (false≢true i)
int_goes s (kind.Array z) p i g = absurd g

inline_goes : (k : Known) (p : Place) → is_inline_int k ≡ true → Goes k p → TakesNumber p
inline_goes None p i g = g
inline_goes (Some d) p i g = int_goes d.storage d.kind p i g

sum_number : (o : BinOp) → IsSum o → gives_number (group_of o) ≡ true
sum_number op.Add h = refl
sum_number op.Sub h = refl
sum_number op.Or h = absurd h
sum_number op.Xor h = absurd h
sum_number op.And h = absurd h
sum_number op.Mul h = absurd h
sum_number op.Div h = absurd h
sum_number op.Rem h = absurd h
sum_number op.DivS h = absurd h
sum_number op.RemS h = absurd h
sum_number op.Shl h = absurd h
sum_number op.Shr h = absurd h
sum_number op.Sar h = absurd h
sum_number op.Rol h = absurd h
sum_number op.Ror h = absurd h
sum_number op.Eq h = absurd h
sum_number op.Ne h = absurd h
sum_number op.Lt h = absurd h
sum_number op.Le h = absurd h
sum_number op.Gt h = absurd h
sum_number op.Ge h = absurd h
sum_number op.LtS h = absurd h
sum_number op.LeS h = absurd h
sum_number op.GtS h = absurd h
sum_number op.GeS h = absurd h
sum_number op.OrElse h = absurd h
sum_number op.AndThen h = absurd h

-- ---- expressions
module _ (k : KnownNumbers) where
  abbrev number_of_var : Var → Option ℤ
  number_of_var = fold-Var _ _ _ _ _ value_step (λ t. tt) (λ a. tt) (λ d. tt) (λ v. k v.name v.copy)

  abbrev value_layer : Layer → Option Constant
  value_layer x = value_step (map-Expr _ _ _ _ _ (Option Constant) (Unit {0}) (Unit {0}) (Unit {0}) (Option ℤ) (inline_value k) (λ t. tt) (λ a. tt) (λ d. tt) number_of_var x)

  value_is : (x : Layer) → inline_value k (roll-Expr x) ≡ value_layer x
  value_is x = fold-roll-Expr _ _ _ _ _ value_step (λ t. tt) (λ a. tt) (λ d. tt) (λ v. k v.name v.copy) x

  value_out : (e : Expr) → inline_value k e ≡ value_layer (out-Expr e)
  value_out e = ap (inline_value k) (sym (roll-out-Expr e)) ∙ value_is (out-Expr e)

  mutual
    pub takes_value : {e : Expr} {p : Place} → HasType (value e) p → is_inline e ≡ true → (c : Constant) → inline_value k e ≡ Some c → Takes p c
    takes_value (judged.expression {e = e} h) i c q = takes_layer h (sym (inline_out e) ∙ i) c (sym (value_out e) ∙ q)

    takes_layer : {x : Layer} {p : Place} → Types x p → inline_layer x ≡ true → (c : Constant) → value_layer x ≡ Some c → Takes p c
    takes_layer {p = p} (judged.number {n = n} t) i c q = number_takes p (Some n) c t q
    takes_layer (judged.bool {b = b}) i c q = truth_takes b c q
    takes_layer {p = p} (judged.variable {v = v} g) i c q = number_takes p (number_of_var v) c (inline_goes (known_of v) p i g) q
    takes_layer (judged.cell z a t x) i c q = absurd (false≢true i)
    takes_layer (judged.load x) i c q = absurd (false≢true i)
    takes_layer {p = p} (judged.negated {a = a} t h) i c q = minus_takes p (inline_value k a) c t q
    takes_layer {p = p} (judged.inverted {a = a} h) i c q = opposite_takes p (inline_value k a) c (λ d e. takes_value h i d e) q
    takes_layer (judged.cast y t s x) i c q = absurd (false≢true i)
    takes_layer {p = p} (judged.operation {o = o} {a = a} {b = b} h) i c q = takes_operation o a b p h (and_parts (is_inline a) (is_inline b) i) c q

    takes_operation : (o : BinOp) (a b : Expr) (p : Place) → Operates o (value a) (value b) p → (is_inline a ≡ true) × (is_inline b ≡ true)
        → (c : Constant) → joined o (inline_value k a) (inline_value k b) ≡ Some c → Takes p c
    takes_operation o a b p (judged.arithmetic g t ad x y) i c q =
        number_left o (inline_value k a) (inline_value k b) p c (λ d e. takes_value x i.0 d e) (λ m n e. on_numbers o m n p c (ap gives_number g) t e) t q
    takes_operation o a b p (judged.carry s t x y) i c q =
        number_left o (inline_value k a) (inline_value k b) p c (λ d e. takes_value x i.0 d e) (λ m n e. on_numbers o m n p c (sum_number o s) (carry_number p t) e) (carry_number p t) q
    takes_operation o a b p (judged.shift g t ad x y) i c q =
        number_left o (inline_value k a) (inline_value k b) p c (λ d e. takes_value x i.0 d e) (λ m n e. on_numbers o m n p c (ap gives_number g) t e) t q
    takes_operation o a b p (judged.integers g ad x y) i c q =
        compared_left o integer (inline_value k a) (inline_value k b) c (λ d e. takes_value x i.0 d e) (λ m n e. on_compared o m n c g e) tt q
    takes_operation o a b p (judged.words z g s x y) i c q =
        compared_left o (word z) (inline_value k a) (inline_value k b) c (λ d e. takes_value x i.0 d e) (λ m n e. on_compared o m n c g e) tt q
    takes_operation o a b p (judged.logic g x y) i c q =
        truths_left o (inline_value k a) (inline_value k b) c (λ d e. takes_value x i.0 d e) q
