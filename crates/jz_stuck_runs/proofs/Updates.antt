-- `d op= e` as `d = d op e`: what is evaluated has the type of the two, and their variables.
use Rattle.std.proofs.Common.{◌≡◌, ℕ, Bool, true, false, ◌&&◌, List, [], Option, Some, None, refl, sym, ap, ◌∙◌, subst, inl, inr, if◌then◌else◌}
use Rattle.std.specs.Prelude.{◌⊎◌, All}
use Rattle.std.proofs.lemmas.Bool.{false≢true, and_parts}
use Rattle.std.proofs.lemmas.List.Elements.{All-head}
use Rattle.jz_tree.specs.Span.{Span}
use Rattle.jz_tree.specs.Size.{Size}
use Rattle.jz_tree.specs.Operators.{carries}
use Rattle.jz_tree.specs.declared.expr.BinOp.{BinOp}
use Rattle.jz_tree.specs.declared.expr.BinOp.TheVariants as op
use Rattle.jz_tree.specs.declared.expr.Expr.{Expr}
use Rattle.jz_tree.specs.declared.expr.Expr.TheVariants as expr
use Rattle.jz_tree.specs.declared.expr.Access.{Access}
use Rattle.jz_tree.specs.declared.expr.Decl.{Decl}
use Rattle.jz_tree.specs.declared.expr.Var.{Var}
use Rattle.jz_tree.specs.declared.expr.Expr.TheOpen.{Expr-F}
use Rattle.jz_tree.specs.declared.expr.Expr.TheViews.{out-Expr, roll-Expr, out-roll-Expr, roll-out-Expr, out-Access}
use Rattle.jz_tree.specs.declared.expr.Expr.TheFolds.{fold-roll-Expr}
use Rattle.jz_tree.specs.declared.stmt.Lval.{Lval}
use Rattle.jz_tree.specs.declared.stmt.Lval.TheVariants as lval
use Rattle.jz_type_names.specs.declared.kinds.Kind as known
use Rattle.jz_type_names.specs.declared.kinds.Kind.TheVariants as scope
use Rattle.jz_type_names.specs.declared.kinds.Declared.{Declared}
use Rattle.jz_type_names.specs.Kinds.{Known, known_of, kind_step, declared_step, known_step, inline_step, is_inline, is_inline_int, is_array, whole_array}
use Rattle.jz_type_sizes.specs.declared.operators.Group.{Group}
use Rattle.jz_type_sizes.specs.declared.operators.Group.TheVariants as group
use Rattle.jz_type_sizes.specs.Operators.{group_of, is_of_words}
use Rattle.jz_type_sizes.specs.Typings.{Typing, typing, typing_step, access_typing}
use Rattle.jz_judgement.specs.Places.{Place, truth, IsTruth, TakesNumber, TakesCarry, KindGoes, Goes, IsSum}
use Rattle.jz_judgement.specs.Places as place
use Rattle.jz_judgement.specs.HasType as judged
use Rattle.jz_judgement.specs.HasType.{Layer, value, left, result, Says, LayerSays, Admits, HasType, Types, Operates, is_known, left_known}
use Rattle.jz_judgement.specs.Lefts.{BoolKind, IsBool, value_term}
use Rattle.jz_judgement.proofs.Nothing.{none_not, same_some}
use Rattle.jz_judgement.proofs.Expressions.{judged_of}
use Rattle.jz_types.specs.Carried.{vars_in}
use Rattle.jz_meaning.specs.declared.access.Kind as meant
use Rattle.jz_meaning.specs.declared.access.Kind.TheVariants as kind
use Rattle.jz_meaning.specs.Values.{ref_of}
use Rattle.jz_meaning.specs.Assignments.{as_expr, left_span, is_bool, is_flag_layer, is_flag, updated_layer, updated, whole_of}
use Rattle.jz_run_laws.specs.Counted as counted
use Rattle.jz_run_laws.specs.Counted.{Counted}
use Rattle.jz_run_laws.proofs.Placed.{sum_group}
use Rattle.jz_run_laws.proofs.Sizes.{CountedLayer, types_of, each_of, variable_law}
use Rattle.jz_texts.proofs.Variables.{of_variable, of_cell, of_load, of_operation, layer_vars, vars_rolled}
use Rattle.jz_texts.proofs.Lists.{parted}
use Rattle.jz_stuck_runs.proofs.Expressions.{Kept, HasKept, counted_of}
use Rattle.jz_stuck_runs.proofs.LeftKinds.{is_bool_of}
use Rattle.jz_stuck_runs.proofs.LeftSides.{IsLeft, whole_none}

-- ---- one layer
pub typed_as : (x : Layer) (e : Expr) (p : Place) → roll-Expr x ≡ e → Types x p → HasType (value e) p
typed_as x e p is t = subst (λ e. HasType (value e) p) is (judged.expression (subst (λ l. Types l p) (sym (out-roll-Expr x)) t))

says_as : (x : Layer) (e : Expr) (z : Size) → roll-Expr x ≡ e → LayerSays x z → Says (value e) z
says_as x e z is t = subst (λ e. Says (value e) z) is (judged.expression (subst (λ l. LayerSays l z) (sym (out-roll-Expr x)) t))

pub bin_typed : (o : BinOp) (a b : Expr) (at : Span) (p : Place) → Operates o (value a) (value b) p → HasType (value (expr.Bin o a b at)) p
bin_typed o a b at p h = typed_as (Expr-F.Bin o a b at) (expr.Bin o a b at) p (expr.rolls-Bin o a b at) (judged.operation h)

pub out_bin : (o : BinOp) (a b : Expr) (at : Span) → out-Expr (expr.Bin o a b at) ≡ Expr-F.Bin o a b at
out_bin o a b at = ap out-Expr (sym (expr.rolls-Bin o a b at)) ∙ out-roll-Expr (Expr-F.Bin o a b at)

-- ---- a left side where it is read
pub read_type : (d : Lval) (r : Expr) (p : Place) → as_expr d ≡ Some r → whole_array d ≡ None → HasType (left d) p → HasType (value r) p
read_type (lval.Skip at) r p e n t = absurd (none_not r e)
read_type (lval.Var v) r p e n (judged.array a) = absurd (false≢true (sym (whole_none v (is_array (known_of v)) n) ∙ a))
read_type (lval.Var v) r p e n (judged.set_variable g) = typed_as (Expr-F.Var v) r p (expr.rolls-Var v ∙ same_some (expr.Var v) r e) (judged.variable g)
read_type (lval.Cell v i) r p e n (judged.set_cell z a t x) = typed_as (Expr-F.Cell v i) r p (expr.rolls-Cell v i ∙ same_some (expr.Cell v i) r e) (judged.cell z a t x)
read_type (lval.Store a) r p e n (judged.set_access x) = typed_as (Expr-F.Load a) r p (expr.rolls-Load a ∙ same_some (expr.Load a) r e) (judged.load x)

read_says : (d : Lval) (r : Expr) (z : Size) → as_expr d ≡ Some r → Says (left d) z → Says (value r) z
read_says (lval.Skip at) r z e t = absurd (none_not r e)
read_says (lval.Var v) r z e (judged.set_variable g) = says_as (Expr-F.Var v) r z (expr.rolls-Var v ∙ same_some (expr.Var v) r e) (judged.variable g)
read_says (lval.Cell v i) r z e (judged.set_cell a) = says_as (Expr-F.Cell v i) r z (expr.rolls-Cell v i ∙ same_some (expr.Cell v i) r e) (judged.cell a)
read_says (lval.Store a) r z e (judged.set_access g) = says_as (Expr-F.Load a) r z (expr.rolls-Load a ∙ same_some (expr.Load a) r e) (judged.load g)

inline_rolled : (x : Layer) (e : Expr) → roll-Expr x ≡ e → is_inline (roll-Expr x) ≡ is_inline e
inline_rolled x e is = ap is_inline is

typed_var : (v : Var) → (typing (roll-Expr (Expr-F.Var v))).form.inline ≡ is_inline_int (known_of v)
typed_var v =
    ap (λ t. t.form.inline) (fold-roll-Expr Typing known.Kind Typing Declared (Known × Span) typing_step kind_step access_typing declared_step (λ v. (v.decl, v.span)) (Expr-F.Var v))
    ∙ ap is_inline_int (variable_law v).0

cell_inline : (v : Var) (i : Expr) → is_inline (roll-Expr (Expr-F.Cell v i)) ≡ false
cell_inline v i = fold-roll-Expr Bool known.Kind Bool Declared Known inline_step kind_step (λ a. a.at) declared_step known_step (Expr-F.Cell v i)

load_inline : (a : Access) → is_inline (roll-Expr (Expr-F.Load a)) ≡ false
load_inline a = fold-roll-Expr Bool known.Kind Bool Declared Known inline_step kind_step (λ a. a.at) declared_step known_step (Expr-F.Load a)

read_known : (d : Lval) (r : Expr) → as_expr d ≡ Some r → is_inline r ≡ left_known d
read_known (lval.Skip at) r e = absurd (none_not r e)
read_known (lval.Var v) r e =
    sym (inline_rolled (Expr-F.Var v) r (expr.rolls-Var v ∙ same_some (expr.Var v) r e))
    ∙ sym (judged_of (roll-Expr (Expr-F.Var v))).agrees.inline ∙ typed_var v
read_known (lval.Cell v i) r e = sym (inline_rolled (Expr-F.Cell v i) r (expr.rolls-Cell v i ∙ same_some (expr.Cell v i) r e)) ∙ cell_inline v i
read_known (lval.Store a) r e = sym (inline_rolled (Expr-F.Load a) r (expr.rolls-Load a ∙ same_some (expr.Load a) r e)) ∙ load_inline a

read_admits : (o : BinOp) (d : Lval) (r e : Expr) → as_expr d ≡ Some r → Admits o (left d) (value e) → Admits o (value r) (value e)
read_admits o d r e is h = ap (λ k. is_of_words o && (is_inline e && k)) (read_known d r is) ∙ h

either_read : (d : Lval) (r e : Expr) (z : Size) → as_expr d ≡ Some r → Says (left d) z ⊎ Says (value e) z → Says (value r) z ⊎ Says (value e) z
either_read d r e z is (inl s) = inl (read_says d r z is s)
either_read d r e z is (inr s) = inr s

pub read_operates : (o : BinOp) (d : Lval) (r e : Expr) (p : Place) → as_expr d ≡ Some r → whole_array d ≡ None → Operates o (left d) (value e) p → Operates o (value r) (value e) p
read_operates o d r e p is n (judged.arithmetic g k m x y) = judged.arithmetic g k (read_admits o d r e is m) (read_type d r p is n x) y
read_operates o d r e p is n (judged.carry s k x y) = judged.carry s k (read_type d r p is n x) y
read_operates o d r e p is n (judged.shift g k m x y) = judged.shift g k (read_admits o d r e is m) (read_type d r p is n x) y
read_operates o d r e p is n (judged.integers g m x y) = judged.integers g (read_admits o d r e is m) (read_type d r place.integer is n x) y
read_operates o d r e p is n (judged.words z g s x y) = judged.words z g (either_read d r e z is s) (read_type d r (place.word z) is n x) y
read_operates o d r e p is n (judged.logic g x y) = judged.logic g (read_type d r truth is n x) y

-- ---- bools
goes_truth : (k : Known) (p : Place) → IsBool k → Goes k p → IsTruth p
goes_truth None p b g = absurd b
goes_truth (Some d) p b g = by_kind d.kind b g
  where
    by_kind : (k : known.Kind) → BoolKind k → KindGoes k p → IsTruth p
    by_kind scope.Int b g = absurd b
    by_kind scope.Truth b g = g
    by_kind (scope.Word z) b g = absurd b
    by_kind (scope.Array z) b g = absurd b

pub no_number : (p : Place) → IsTruth p → TakesNumber p → ⊥
no_number place.integer t n = t
no_number place.truth t n = n
no_number (place.word z) t n = t
no_number (place.stated z) t n = t
no_number place.unsized t n = t

bool_kind : (k : meant.Kind) → is_bool k ≡ true → k ≡ kind.Bool
bool_kind kind.Bool e = refl
bool_kind kind.Undeclared e = absurd (false≢true e)
bool_kind kind.Int e = absurd (false≢true e)
bool_kind (kind.Word z) e = absurd (false≢true e)
bool_kind (kind.Array z n) e = absurd (false≢true e)

flag_layer : (x : Layer) (p : Place) → is_flag_layer x ≡ true → CountedLayer x → Types x p → IsTruth p
flag_layer (Expr-F.Var v) p f (counted.variable c) (judged.variable g) = goes_truth (known_of v) p (is_bool_of (known_of v) (ref_of v).kind ((variable_law v).1 c) (bool_kind (ref_of v).kind f)) g
flag_layer (Expr-F.Num n at) p f c t = absurd (false≢true f)
flag_layer (Expr-F.Expr::Bool b at) p f c t = absurd (false≢true f)
flag_layer (Expr-F.Cell v i) p f c t = absurd (false≢true f)
flag_layer (Expr-F.Load a) p f c t = absurd (false≢true f)
flag_layer (Expr-F.Neg a at) p f c t = absurd (false≢true f)
flag_layer (Expr-F.Not a at) p f c t = absurd (false≢true f)
flag_layer (Expr-F.Cast z s a at) p f c t = absurd (false≢true f)
flag_layer (Expr-F.Bin o a b at) p f c t = absurd (false≢true f)

-- a bool variable has no other type
pub flag_truth : (e : Expr) (p : Place) → Counted e → is_flag e ≡ true → HasType (value e) p → IsTruth p
flag_truth e p c f t = flag_layer (out-Expr e) p f (each_of e c) (types_of e p t)

-- ---- a carry
pub record IsCarried (a c : Expr) (p : Place) : Type 0 where
  pub takes : TakesCarry p
  pub first : HasType (value a) p
  pub second : HasType (value c) truth

no_group : (o : BinOp) (g : Group) → IsSum o → group_of o ≡ g → (group.Arith ≡ g → ⊥) → ⊥
no_group o g s e n = n (sym (sum_group o s) ∙ e)

shift_not : group.Arith ≡ group.Shift → ⊥
shift_not e = cc

compare_not : group.Arith ≡ group.Compare → ⊥
compare_not e = cc

logic_not : group.Arith ≡ group.Logic → ⊥
logic_not e = cc

pub carried_by : (o : BinOp) (a c : Expr) (p : Place) → IsSum o → Counted c → is_flag c ≡ true → Operates o (value a) (value c) p → IsCarried a c p
carried_by o a c p s k f (judged.arithmetic g n m x y) = absurd (no_number p (flag_truth c p k f y) n)
carried_by o a c p s k f (judged.carry i n x y) = record { takes = n; first = x; second = y }
carried_by o a c p s k f (judged.shift g n m x y) = absurd (no_group o group.Shift s g shift_not)
carried_by o a c p s k f (judged.integers g m x y) = absurd (no_group o group.Compare s g compare_not)
carried_by o a c p s k f (judged.words z g m x y) = absurd (no_group o group.Compare s g compare_not)
carried_by o a c p s k f (judged.logic g x y) = absurd (no_group o group.Logic s g logic_not)

pub record AreSums (o q : BinOp) : Type 0 where
  pub first : IsSum o
  pub second : IsSum q
  pub plain : is_of_words o ≡ false

pub sums : (o q : BinOp) → carries o q ≡ true → AreSums o q
sums op.Add op.Add e = record { first = tt; second = tt; plain = refl }
sums op.Sub op.Sub e = record { first = tt; second = tt; plain = refl }
sums o q e = absurd (false≢true e)

-- a sum of this type is no truth
pub sum_typed : (o : BinOp) (a b : Expr) (p : Place) → IsSum o → Operates o (value a) (value b) p → IsTruth p → ⊥
sum_typed o a b p s (judged.arithmetic g n m x y) t = no_number p t n
sum_typed o a b p s (judged.carry i n x y) t = no_carry p t n
  where
    no_carry : (p : Place) → IsTruth p → TakesCarry p → ⊥
    no_carry place.integer t n = t
    no_carry place.truth t n = n
    no_carry (place.word z) t n = t
    no_carry (place.stated z) t n = t
    no_carry place.unsized t n = t
sum_typed o a b p s (judged.shift g n m x y) t = no_number p t n
sum_typed o a b p s (judged.integers g m x y) t = no_group o group.Compare s g compare_not
sum_typed o a b p s (judged.words z g m x y) t = no_group o group.Compare s g compare_not
sum_typed o a b p s (judged.logic g x y) t = no_group o group.Logic s g logic_not

operation_of : (o : BinOp) (a b : Expr) (at : Span) (p : Place) → Types (Expr-F.Bin o a b at) p → Operates o (value a) (value b) p
operation_of o a b at p (judged.operation h) = h

pub parts_of : (e : Expr) (o : BinOp) (a b : Expr) (at : Span) (p : Place) → out-Expr e ≡ Expr-F.Bin o a b at → HasType (value e) p → Operates o (value a) (value b) p
parts_of e o a b at p is t = operation_of o a b at p (subst (λ x. Types x p) is (types_of e p t))

-- ---- `d op e`
module _ (declared : List ℕ → Option Decl) where
  pub both_kept : (e : Expr) (o : BinOp) (a b : Expr) (at : Span) → out-Expr e ≡ Expr-F.Bin o a b at → HasKept declared e → HasKept declared a × HasKept declared b
  unfolding layer_vars
  both_kept e o a b at is k =
      parted (Kept declared) (vars_in a) (vars_in b)
      (subst (All (Kept declared)) (ap vars_in (sym (roll-out-Expr e)) ∙ vars_rolled (out-Expr e) ∙ ap layer_vars is) k)

  carried_sum : (o q : BinOp) (r e a c : Expr) (at inner : Span) (p : Place) → out-Expr e ≡ Expr-F.Bin q a c inner → AreSums o q → Counted c → is_flag c ≡ true → Operates o (value r) (value e) p
      → HasType (value (expr.Bin q (expr.Bin o r a at) c at)) p
  carried_sum o q r e a c at inner p is s k f (judged.arithmetic g n m x y) =
      let h = carried_by q a c p s.second k f (parts_of e q a c inner p is y) in
      bin_typed q (expr.Bin o r a at) c at p
      (judged.carry s.second h.takes (bin_typed o r a at p (judged.arithmetic g n (ap (λ b. b && (is_inline a && is_inline r)) s.plain) x h.first)) h.second)
  carried_sum o q r e a c at inner p is s k f (judged.carry i n x y) = absurd (sum_typed q a c truth s.second (parts_of e q a c inner truth is y) tt)
  carried_sum o q r e a c at inner p is s k f (judged.shift g n m x y) = absurd (no_group o group.Shift s.first g shift_not)
  carried_sum o q r e a c at inner p is s k f (judged.integers g m x y) = absurd (no_group o group.Compare s.first g compare_not)
  carried_sum o q r e a c at inner p is s k f (judged.words z g m x y) = absurd (no_group o group.Compare s.first g compare_not)
  carried_sum o q r e a c at inner p is s k f (judged.logic g x y) = absurd (no_group o group.Logic s.first g logic_not)

  chosen_type : (b : Bool) (o q : BinOp) (r e a c : Expr) (at inner : Span) (p : Place) → (carries o q && is_flag c) ≡ b → out-Expr e ≡ Expr-F.Bin q a c inner → HasKept declared e → Operates o (value r) (value e) p
      → HasType (value (if b then expr.Bin q (expr.Bin o r a at) c at else expr.Bin o r e at)) p
  chosen_type true o q r e a c at inner p g is k h =
      let t = and_parts (carries o q) (is_flag c) g in
      carried_sum o q r e a c at inner p is (sums o q t.0) (counted_of declared c (both_kept e q a c inner is k).1) t.1 h
  chosen_type false o q r e a c at inner p g is k h = bin_typed o r e at p h

  updated_type : (o : BinOp) (r e : Expr) (at : Span) (p : Place) (x : Layer) → out-Expr e ≡ x → HasKept declared e → Operates o (value r) (value e) p → HasType (value (updated_layer o r e at x)) p
  updated_type o r e at p (Expr-F.Bin q a c inner) is k h = chosen_type (carries o q && is_flag c) o q r e a c at inner p refl is k h
  updated_type o r e at p (Expr-F.Num n i) is k h = bin_typed o r e at p h
  updated_type o r e at p (Expr-F.Expr::Bool b i) is k h = bin_typed o r e at p h
  updated_type o r e at p (Expr-F.Var v) is k h = bin_typed o r e at p h
  updated_type o r e at p (Expr-F.Cell v i) is k h = bin_typed o r e at p h
  updated_type o r e at p (Expr-F.Load a) is k h = bin_typed o r e at p h
  updated_type o r e at p (Expr-F.Neg a i) is k h = bin_typed o r e at p h
  updated_type o r e at p (Expr-F.Not a i) is k h = bin_typed o r e at p h
  updated_type o r e at p (Expr-F.Cast z s a i) is k h = bin_typed o r e at p h

  -- ---- the variables
  pub read_kept : (d : Lval) (r : Expr) → as_expr d ≡ Some r → IsLeft declared d → HasKept declared r
  read_kept (lval.Skip at) r e l = absurd (none_not r e)
  read_kept (lval.Var v) r e l = subst (HasKept declared) (same_some (expr.Var v) r e) (of_variable (Kept declared) v (All-head (Kept declared) v [] l.vars))
  read_kept (lval.Cell v i) r e l =
      subst (HasKept declared) (same_some (expr.Cell v i) r e) (of_cell (Kept declared) v i (All-head (Kept declared) v [] l.vars) (All-head (HasKept declared) i [] l.exprs))
  read_kept (lval.Store a) r e l = subst (HasKept declared) (same_some (expr.Load a) r e) (of_load (Kept declared) a (All-head (HasKept declared) (out-Access a).at [] l.exprs))

  chosen_kept : (b : Bool) (o q : BinOp) (r e a c : Expr) (at : Span) → HasKept declared r → HasKept declared e → HasKept declared a × HasKept declared c
      → HasKept declared (if b then expr.Bin q (expr.Bin o r a at) c at else expr.Bin o r e at)
  chosen_kept true o q r e a c at k l m = of_operation (Kept declared) q (expr.Bin o r a at) c at (of_operation (Kept declared) o r a at k m.0) m.1
  chosen_kept false o q r e a c at k l m = of_operation (Kept declared) o r e at k l

  updated_kept : (o : BinOp) (r e : Expr) (at : Span) (x : Layer) → out-Expr e ≡ x → HasKept declared r → HasKept declared e → HasKept declared (updated_layer o r e at x)
  updated_kept o r e at (Expr-F.Bin q a c inner) is k l = chosen_kept (carries o q && is_flag c) o q r e a c at k l (both_kept e q a c inner is l)
  updated_kept o r e at (Expr-F.Num n i) is k l = of_operation (Kept declared) o r e at k l
  updated_kept o r e at (Expr-F.Expr::Bool b i) is k l = of_operation (Kept declared) o r e at k l
  updated_kept o r e at (Expr-F.Var v) is k l = of_operation (Kept declared) o r e at k l
  updated_kept o r e at (Expr-F.Cell v i) is k l = of_operation (Kept declared) o r e at k l
  updated_kept o r e at (Expr-F.Load a) is k l = of_operation (Kept declared) o r e at k l
  updated_kept o r e at (Expr-F.Neg a i) is k l = of_operation (Kept declared) o r e at k l
  updated_kept o r e at (Expr-F.Not a i) is k l = of_operation (Kept declared) o r e at k l
  updated_kept o r e at (Expr-F.Cast z s a i) is k l = of_operation (Kept declared) o r e at k l

  -- ---- the whole
  pub record IsWhole (w : Expr) (p : Place) : Type 0 where
    pub kept : HasKept declared w
    pub typed : HasType (value w) p

  pub whole_is : (d : Lval) (o : Option BinOp) (e w : Expr) (p : Place) → IsLeft declared d → HasKept declared e → whole_of (Some d) o e ≡ Some w → HasType (value_term o d e) p → IsWhole w p
  whole_is d None e w p l k is t = subst (λ w. IsWhole w p) (same_some e w is) (record { kept = k; typed = t })
  whole_is d (Some o) e w p l k is (judged.updated h) = by_read (as_expr d) refl is
    where
      by_read : (r : Option Expr) → as_expr d ≡ r → updated r o e (left_span d) ≡ Some w → IsWhole w p
      by_read None a u = absurd (none_not w u)
      by_read (Some r) a u =
          subst (λ w. IsWhole w p) (same_some (updated_layer o r e (left_span d) (out-Expr e)) w u)
          (record {
            kept = updated_kept o r e (left_span d) (out-Expr e) refl (read_kept d r a l) k;
            typed = updated_type o r e (left_span d) p (out-Expr e) refl k (read_operates o d r e p a l.part h);
          })
