-- Expressions that are integers, and inline conditions, leak nothing.
use Rattle.std.proofs.Common.{◌≡◌, ℕ, ◌+◌, ◌==◌, Bool, true, false, not, ◌&&◌, ◌||◌, List, [], Option, Some, None, refl, sym, ap, ap₂, ◌∙◌, subst, inl, inr, if◌then◌else◌, arith}
use Rattle.std.specs.Prelude.{All, option_map}
use Rattle.std.proofs.lemmas.Bool.{and_parts, false≢true}
use Rattle.std.proofs.lemmas.List.Elements.{All-head}
use Rattle.jz_tree.specs.Operators.{joins, divides}
use Rattle.jz_tree.specs.Size.{Size}
use Rattle.jz_tree.specs.declared.expr.Storage.{Storage}
use Rattle.jz_tree.specs.declared.expr.Storage.TheVariants as storage
use Rattle.jz_tree.specs.declared.expr.BinOp.{BinOp}
use Rattle.jz_tree.specs.declared.expr.BinOp.TheVariants as op
use Rattle.jz_tree.specs.declared.expr.Expr.{Expr}
use Rattle.jz_tree.specs.declared.expr.Ty.{Ty}
use Rattle.jz_tree.specs.declared.expr.Access.{Access}
use Rattle.jz_tree.specs.declared.expr.Decl.{Decl}
use Rattle.jz_tree.specs.declared.expr.Var.{Var}
use Rattle.jz_tree.specs.declared.expr.Expr.TheOpen.{Expr-F, Ty-F, Var-F}
use Rattle.jz_tree.specs.declared.expr.Expr.TheViews.{out-Expr, out-Ty, out-Var, roll-out-Expr, roll-out-Ty, roll-out-Var}
use Rattle.jz_tree.specs.declared.expr.Expr.TheFolds.{fold-Ty, fold-Access, fold-Decl, fold-Var, fold-roll-Expr, fold-roll-Ty, fold-roll-Decl, fold-roll-Var, map-Expr, map-Ty, map-Var}
use Rattle.jz_type_names.specs.declared.kinds.Kind as known
use Rattle.jz_type_names.specs.declared.kinds.Kind.TheVariants as scope
use Rattle.jz_type_names.specs.declared.kinds.Declared.{Declared}
use Rattle.jz_type_names.specs.Kinds.{Known, kind_step, declared_step, known_step, kind_of, declared_of, known_of, inline_int, is_inline_int, inline_step, is_inline}
use Rattle.jz_type_sizes.specs.declared.operators.Group.{Group}
use Rattle.jz_type_sizes.specs.declared.operators.Group.TheVariants as group
use Rattle.jz_type_sizes.specs.Operators.{group_of}
use Rattle.jz_judgement.specs.Places.{integer, truth, KindGoes, Goes, IsWordOf, WordKind}
use Rattle.jz_judgement.specs.HasType as judged
use Rattle.jz_judgement.specs.HasType.{value, HasType, Types, Operates, Says, LayerSays, OperandSays}
use Rattle.jz_meaning.specs.Values.{gives_word, declared_kind, kind_or}
use Rattle.jz_meaning.specs.Shapes.{Sort, integers, flags, Sorts, both, are_integers, own_count, Shape, operation_shape, shape_of}
use Rattle.jz_types.specs.Carried.{vars_in}
use Rattle.jz_run_laws.specs.Kinds.{sorts_of, sort_of_kind}
use Rattle.jz_run_laws.specs.DeclaredKinds.{kinds_of}
use Rattle.jz_row_laws.proofs.Looks.{InlineLayer}
use Rattle.jz_row_laws.proofs.Fixed.{Layer, shape_layer, shape_is, sort_at}
use Rattle.jz_texts.proofs.Lists.{parted}
use Rattle.jz_texts.proofs.Variables.{layer_vars, vars_rolled}
use Rattle.jz_typed_runs.proofs.Declaring.{IsKept}
use Rattle.jz_typed_runs.proofs.KindsOf.{decl_is, kind_by}

-- ---- numbers and sorts
abbrev IsWhole : Shape → Type 0
IsWhole s = (s.sort ≡ integers) × (s.count ≡ 0) × (s.fixed ≡ true)

abbrev IsSilent : Shape → Type 0
IsSilent s = (s.count ≡ 0) × (s.fixed ≡ true)

abbrev is_number : Group → Bool
is_number group.Arith = true
is_number group.Shift = true
is_number _ = false

abbrev is_truth : Group → Bool
is_truth group.Compare = true
is_truth group.Logic = true
is_truth _ = false

gives_numbers : (o : BinOp) → is_number (group_of o) ≡ true → gives_word o ≡ true
gives_numbers op.OrElse h = absurd (false≢true h)
gives_numbers op.AndThen h = absurd (false≢true h)
gives_numbers op.Eq h = absurd (false≢true h)
gives_numbers op.Ne h = absurd (false≢true h)
gives_numbers op.Lt h = absurd (false≢true h)
gives_numbers op.Le h = absurd (false≢true h)
gives_numbers op.Gt h = absurd (false≢true h)
gives_numbers op.Ge h = absurd (false≢true h)
gives_numbers op.LtS h = absurd (false≢true h)
gives_numbers op.LeS h = absurd (false≢true h)
gives_numbers op.GtS h = absurd (false≢true h)
gives_numbers op.GeS h = absurd (false≢true h)
gives_numbers o h = refl

never_divides : (o : BinOp) → is_truth (group_of o) ≡ true → divides o ≡ false
never_divides op.Div h = absurd (false≢true h)
never_divides op.Rem h = absurd (false≢true h)
never_divides op.DivS h = absurd (false≢true h)
never_divides op.RemS h = absurd (false≢true h)
never_divides o h = refl

-- a division of integers shows nothing
no_own : (c : Bool) → ◌≡◌ {A = ℕ} (if c then (if are_integers integers integers then 0 else 3) else 0) 0
no_own true = refl
no_own false = refl

no_numbers : (a b c : ℕ) → a ≡ 0 → b ≡ 0 → c ≡ 0 → a + (b + c) ≡ 0
no_numbers a b c e f g = omega (arith, e, f, g)

own_none : (o : BinOp) (s t : Sort) → divides o ≡ false → own_count o s t ≡ 0
own_none o s t e = ap (λ c. if c then (if are_integers s t then 0 else 3) else 0) e

own_integers : (o : BinOp) (s t : Sort) → s ≡ integers → t ≡ integers → own_count o s t ≡ 0
own_integers o s t e f = ap₂ (λ x y. own_count o x y) e f ∙ no_own (divides o)

still_fixed : (a b j : Bool) (n : ℕ) → a ≡ true → b ≡ true → n ≡ 0 → (a && (b && (j || (n == 0)))) ≡ true
still_fixed true true true n e f g = refl
still_fixed true true false n e f g = ap (λ k. k == 0) g
still_fixed true false j n e f g = f
still_fixed false b j n e f g = e

counted_none : (o : BinOp) (a b : Shape) → a.count ≡ 0 → b.count ≡ 0 → own_count o a.sort b.sort ≡ 0 → (operation_shape o a b).count ≡ 0
counted_none o a b e f g = no_numbers a.count b.count (own_count o a.sort b.sort) e f g

silent_operation : (o : BinOp) (a b : Shape) → IsSilent a → IsSilent b → own_count o a.sort b.sort ≡ 0 → IsSilent (operation_shape o a b)
silent_operation o a b h k g = (counted_none o a b h.0 k.0 g, still_fixed a.fixed b.fixed (not (joins o)) b.count h.1 k.1 k.0)

abbrev sort_by : Bool → Sort → Sort
sort_by c s = if c then s else flags

whole_operation : (o : BinOp) (a b : Shape) → is_number (group_of o) ≡ true → IsWhole a → IsWhole b → IsWhole (operation_shape o a b)
whole_operation o a b g h k =
    let q = silent_operation o a b (h.1, h.2) (k.1, k.2) (own_integers o a.sort b.sort h.0 k.0) in
    (ap (λ c. sort_by c (both a.sort b.sort)) (gives_numbers o g) ∙ ap₂ both h.0 k.0, q.0, q.1)

-- ---- variables
module _ (declared : List ℕ → Option Decl) where
  abbrev sorts : Sorts
  sorts = sorts_of (kinds_of declared)

  abbrev Kept : Var → Type 0
  Kept v = IsKept declared v

  int_sort : (d : Decl) → kind_of d.ty ≡ scope.Int → sort_of_kind (declared_kind d) ≡ integers
  int_sort d e = ap sort_of_kind (decl_is d) ∙ by_layer (out-Ty d.ty) e
    where
      by_layer : (x : Ty-F Expr Ty Access Decl Var) → kind_step x ≡ scope.Int → sort_of_kind (kind_by x) ≡ integers
      by_layer Ty-F.Int e = refl
      by_layer Ty-F.Ty::Bool e = absurd (clash e)
        where
          clash : scope.Truth ≡ scope.Int → ⊥
          clash e = cc
      by_layer (Ty-F.Word z) e = absurd (clash e)
        where
          clash : scope.Word z ≡ scope.Int → ⊥
          clash e = cc
      by_layer (Ty-F.Array z n) e = absurd (clash e)
        where
          clash : scope.Array z ≡ scope.Int → ⊥
          clash e = cc

  var_sort : (v : Var) (k : Kept v) → sorts (out-Var v).name (out-Var v).copy ≡ sort_of_kind (declared_kind k.decl)
  var_sort v k = ap (λ d. sort_of_kind (kind_or (option_map declared_kind d))) (sym k.carries ∙ k.some)

  int_goes : (k : known.Kind) → KindGoes k integer → k ≡ scope.Int
  int_goes scope.Int h = refl
  int_goes scope.Truth h = absurd h
  int_goes (scope.Word z) h = absurd h
  int_goes (scope.Array z) h = absurd h

  known_some : (v : Var) (k : Kept v) → known_of v ≡ Some (declared_of k.decl)
  known_some v k = ap (option_map declared_of) k.some

  var_whole : (v : Var) → Kept v → Goes (known_of v) integer → sorts (out-Var v).name (out-Var v).copy ≡ integers
  var_whole v k h = var_sort v k ∙ int_sort k.decl (int_goes (kind_of k.decl.ty) (subst (λ x. Goes x integer) (known_some v k) h))

  -- a bool is not known when the text is compiled
  no_truth : (s : Storage) (k : known.Kind) → KindGoes k truth → inline_int s k ≡ true → ⊥
  no_truth s scope.Int g e = g
  no_truth storage.Inline scope.Truth g e = false≢true e
  no_truth storage.Reg scope.Truth g e = false≢true e
  no_truth storage.Stack scope.Truth g e = false≢true e
  no_truth s (scope.Word z) g e = g
  no_truth s (scope.Array z) g e = g

  var_no_truth : (v : Var) → Kept v → Goes (known_of v) truth → is_inline_int (known_of v) ≡ true → ⊥
  var_no_truth v k g e =
      no_truth k.decl.storage (kind_of k.decl.ty) (subst (λ x. Goes x truth) (known_some v k) g) (subst (λ x. is_inline_int x ≡ true) (known_some v k) e)

  -- ---- integers
  abbrev Of : Expr → Type 0
  Of e = All Kept (vars_in e)

  split : (e : Expr) → Of e → All Kept (layer_vars (out-Expr e))
  split e h = subst (All Kept) (vars_rolled (out-Expr e)) (subst (λ x. All Kept (vars_in x)) (sym (roll-out-Expr e)) h)

  shaped : (e : Expr) → shape_of sorts e ≡ shape_layer sorts (out-Expr e)
  shaped e = ap (shape_of sorts) (sym (roll-out-Expr e)) ∙ shape_is sorts (out-Expr e)

  mutual
    unfolding layer_vars

    pub whole : {e : Expr} → HasType (value e) integer → Of e → IsWhole (shape_of sorts e)
    whole (judged.expression {e = e} t) h = subst IsWhole (sym (shaped e)) (whole_layer t (split e h))

    whole_layer : {x : Layer} → Types x integer → All Kept (layer_vars x) → IsWhole (shape_layer sorts x)
    whole_layer (judged.number k) h = (refl, refl, refl)
    whole_layer (judged.variable {v = v} g) h = (sort_at sorts v ∙ var_whole v (All-head Kept v [] h) g, refl, refl)
    whole_layer (judged.cell z a t i) h = absurd t
    whole_layer (judged.load (judged.sized z s t i)) h = absurd t
    whole_layer (judged.negated k t) h = whole t h
    whole_layer (judged.inverted t) h = whole t h
    whole_layer (judged.cast y t s i) h = absurd t
    whole_layer (judged.operation {o = o} {a = a} {b = b} t) h = let p = parted Kept (vars_in a) (vars_in b) h in whole_parts o a b t p.0 p.1

    whole_parts : (o : BinOp) (a b : Expr) → Operates o (value a) (value b) integer → Of a → Of b → IsWhole (operation_shape o (shape_of sorts a) (shape_of sorts b))
    whole_parts o a b (judged.arithmetic g t k x y) h i = whole_operation o (shape_of sorts a) (shape_of sorts b) (ap is_number g) (whole x h) (whole y i)
    whole_parts o a b (judged.carry s t x y) h i = absurd t
    whole_parts o a b (judged.shift g t k x y) h i = whole_operation o (shape_of sorts a) (shape_of sorts b) (ap is_number g) (whole x h) (whole y i)

  -- ---- inline conditions
  module _ (I : Expr → Type 0) (parts : (e : Expr) → I e → InlineLayer I (out-Expr e)) where
    no_word : (s : Storage) (k : known.Kind) (z : Size) → WordKind z k → inline_int s k ≡ true → ⊥
    no_word s scope.Int z w e = w
    no_word s scope.Truth z w e = w
    no_word s (scope.Array y) z w e = w
    no_word storage.Inline (scope.Word y) z w e = false≢true e
    no_word storage.Reg (scope.Word y) z w e = false≢true e
    no_word storage.Stack (scope.Word y) z w e = false≢true e

    known_no_word : (k : Known) (z : Size) → IsWordOf z k → is_inline_int k ≡ true → ⊥
    known_no_word None z w e = w
    known_no_word (Some d) z w e = no_word d.storage d.kind z w e

    -- it says no size
    mutual
      says_none : {e : Expr} {z : Size} → Says (value e) z → I e → ⊥
      says_none (judged.expression {e = e} s) i = layer_none s (parts e i)

      layer_none : {x : Layer} {z : Size} → LayerSays x z → InlineLayer I x → ⊥
      layer_none (judged.variable {v = v} {z = z} w) i = known_no_word (known_of v) z w i
      layer_none (judged.cell w) i = i
      layer_none (judged.load w) i = i
      layer_none (judged.negated s) i = says_none s i
      layer_none (judged.inverted s) i = says_none s i
      layer_none judged.cast i = i
      layer_none (judged.operation s) i = operand_none s i

      operand_none : {o : BinOp} {a b : Expr} {z : Size} → OperandSays o (value a) (value b) z → I a × I b → ⊥
      operand_none (judged.first g s) i = says_none s i.0
      operand_none (judged.second g s) i = says_none s i.1
      operand_none (judged.shifted g s) i = says_none s i.0

    mutual
      unfolding layer_vars

      pub silent : {e : Expr} → HasType (value e) truth → I e → Of e → IsSilent (shape_of sorts e)
      silent (judged.expression {e = e} t) i h = subst IsSilent (sym (shaped e)) (silent_layer t (parts e i) (split e h))

      silent_layer : {x : Layer} → Types x truth → InlineLayer I x → All Kept (layer_vars x) → IsSilent (shape_layer sorts x)
      silent_layer (judged.number k) i h = absurd k
      silent_layer judged.bool i h = (refl, refl)
      silent_layer (judged.variable {v = v} g) i h = absurd (var_no_truth v (All-head Kept v [] h) g i)
      silent_layer (judged.cell z a t x) i h = absurd i
      silent_layer (judged.load x) i h = absurd i
      silent_layer (judged.negated k t) i h = absurd k
      silent_layer (judged.inverted t) i h = silent t i h
      silent_layer (judged.cast y t s x) i h = absurd i
      silent_layer (judged.operation {o = o} {a = a} {b = b} t) i h = let p = parted Kept (vars_in a) (vars_in b) h in silent_parts o a b t i.0 i.1 p.0 p.1

      silent_parts : (o : BinOp) (a b : Expr) → Operates o (value a) (value b) truth → I a → I b → Of a → Of b → IsSilent (operation_shape o (shape_of sorts a) (shape_of sorts b))
      silent_parts o a b (judged.arithmetic g t k x y) i j h l = absurd t
      silent_parts o a b (judged.carry s t x y) i j h l = absurd t
      silent_parts o a b (judged.shift g t k x y) i j h l = absurd t
      silent_parts o a b (judged.integers g k x y) i j h l =
          let p = whole x h in
          let q = whole y l in
          silent_operation o (shape_of sorts a) (shape_of sorts b) (p.1, p.2) (q.1, q.2) (own_integers o (shape_of sorts a).sort (shape_of sorts b).sort p.0 q.0)
      silent_parts o a b (judged.words z g (inl s) x y) i j h l = absurd (says_none s i)
      silent_parts o a b (judged.words z g (inr s) x y) i j h l = absurd (says_none s j)
      silent_parts o a b (judged.logic g x y) i j h l =
          silent_operation o (shape_of sorts a) (shape_of sorts b) (silent x i h) (silent y j l)
          (own_none o (shape_of sorts a).sort (shape_of sorts b).sort (never_divides o (ap is_truth g)))

-- ---- by names
ty_inline : Ty → known.Kind
ty_inline = fold-Ty Bool known.Kind Bool Declared Known inline_step kind_step (λ a. a.at) declared_step known_step

access_inline : Access → Bool
access_inline = fold-Access Bool known.Kind Bool Declared Known inline_step kind_step (λ a. a.at) declared_step known_step

decl_inline : Decl → Declared
decl_inline = fold-Decl Bool known.Kind Bool Declared Known inline_step kind_step (λ a. a.at) declared_step known_step

var_inline : Var → Known
var_inline = fold-Var Bool known.Kind Bool Declared Known inline_step kind_step (λ a. a.at) declared_step known_step

kind_same : (x : Ty-F Expr Ty Access Decl Var) → kind_step (map-Ty _ _ _ _ _ Bool known.Kind Bool Declared Known is_inline ty_inline access_inline decl_inline var_inline x) ≡ kind_step x
kind_same Ty-F.Int = refl
kind_same Ty-F.Ty::Bool = refl
kind_same (Ty-F.Word z) = refl
kind_same (Ty-F.Array z n) = refl

ty_same : (t : Ty) → ty_inline t ≡ kind_of t
unfolding ty_inline access_inline decl_inline var_inline
ty_same t = ap ty_inline (sym (roll-out-Ty t)) ∙ fold-roll-Ty Bool known.Kind Bool Declared Known inline_step kind_step (λ a. a.at) declared_step known_step (out-Ty t) ∙ kind_same (out-Ty t)

abbrev declaring : Storage → known.Kind → Declared
declaring s k = record { storage = s; kind = k }

decl_same : (d : Decl) → decl_inline d ≡ declared_of d
unfolding ty_inline access_inline decl_inline var_inline
decl_same d =
    fold-roll-Decl Bool known.Kind Bool Declared Known inline_step kind_step (λ a. a.at) declared_step known_step (record { storage = d.storage; ty = d.ty })
    ∙ ap (declaring d.storage) (ty_same d.ty)

some_same : (x : Var-F Expr Ty Access Decl Var) (o : Option Decl)
    → (map-Var _ _ _ _ _ Bool known.Kind Bool Declared Known is_inline ty_inline access_inline decl_inline var_inline (record x { decl = o })).decl ≡ option_map declared_of o
some_same x None = refl
some_same x (Some d) = ap (λ (k : Declared). Some k) (decl_same d)

var_same : (v : Var) → var_inline v ≡ known_of v
unfolding ty_inline access_inline decl_inline var_inline
var_same v =
    ap var_inline (sym (roll-out-Var v)) ∙ fold-roll-Var Bool known.Kind Bool Declared Known inline_step kind_step (λ a. a.at) declared_step known_step (out-Var v)
    ∙ some_same (out-Var v) (out-Var v).decl

abbrev inline_layer : Layer → Bool
inline_layer x = inline_step (map-Expr _ _ _ _ _ Bool known.Kind Bool Declared Known is_inline ty_inline access_inline decl_inline var_inline x)

inline_is : (e : Expr) → is_inline e ≡ inline_layer (out-Expr e)
unfolding ty_inline access_inline decl_inline var_inline
inline_is e = ap is_inline (sym (roll-out-Expr e)) ∙ fold-roll-Expr Bool known.Kind Bool Declared Known inline_step kind_step (λ a. a.at) declared_step known_step (out-Expr e)

abbrev pub IsInline : Expr → Type 0
IsInline e = is_inline e ≡ true

layer_inline : (x : Layer) → inline_layer x ≡ true → InlineLayer IsInline x
layer_inline (Expr-F.Num n at) h = tt
layer_inline (Expr-F.Expr::Bool b at) h = tt
layer_inline (Expr-F.Var v) h = ap is_inline_int (sym (var_same v)) ∙ h
layer_inline (Expr-F.Cell v i) h = false≢true h
layer_inline (Expr-F.Load a) h = false≢true h
layer_inline (Expr-F.Neg a at) h = h
layer_inline (Expr-F.Not a at) h = h
layer_inline (Expr-F.Cast z s a at) h = false≢true h
layer_inline (Expr-F.Bin o a b at) h = and_parts (is_inline a) (is_inline b) h

pub inline_parts : (e : Expr) → IsInline e → InlineLayer IsInline (out-Expr e)
inline_parts e h = layer_inline (out-Expr e) (sym (inline_is e) ∙ h)
