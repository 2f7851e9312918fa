-- The sizes of left sides and of assignments.
use Rattle.std.proofs.Common.{◌≡◌, Bool, true, false, List, [], ◌∷◌, Option, Some, None, refl, sym, ap, ap₂, ◌∙◌, subst, inl, inr}
use Rattle.std.proofs.lemmas.Bool.{false≢true}
use Rattle.std.specs.Prelude.{◌&&◌, if◌then◌else◌, All}
use Rattle.std.proofs.lemmas.List.Elements.{All-nil, All-cons, All-head, All-tail}
use Rattle.std.specs.Option.{option_or}
use Rattle.jz_tree.specs.Span.{Span}
use Rattle.jz_tree.specs.Size.{Size}
use Rattle.jz_tree.specs.declared.expr.BinOp.{BinOp}
use Rattle.jz_tree.specs.declared.expr.BinOp.TheVariants as op
use Rattle.jz_tree.specs.declared.expr.Expr.{Expr}
use Rattle.jz_tree.specs.declared.expr.Expr.TheVariants as expr
use Rattle.jz_tree.specs.declared.expr.Var.{Var}
use Rattle.jz_tree.specs.declared.expr.Expr.TheOpen.{Expr-F}
use Rattle.jz_tree.specs.declared.expr.Expr.TheViews.{out-Expr, roll-Expr, roll-out-Expr}
use Rattle.jz_tree.specs.declared.expr.Expr.TheFolds.{fold-roll-Expr}
use Rattle.jz_tree.specs.declared.stmt.Lval.{Lval}
use Rattle.jz_tree.specs.declared.stmt.Lval.TheVariants as lval
use Rattle.jz_tree.specs.Operators.{carries}
use Rattle.jz_type_names.specs.declared.kinds.Kind.{Kind}
use Rattle.jz_type_names.specs.declared.kinds.Kind.TheVariants as kind
use Rattle.jz_type_names.specs.Kinds.{Known, known_of, is_array}
use Rattle.jz_type_sizes.specs.Wants.{known_size, word_size}
use Rattle.jz_type_sizes.specs.Operators.{group_of, group_size}
use Rattle.jz_type_sizes.specs.Sides.{left_form}
use Rattle.jz_type_sizes.specs.Values.{value_typing}
use Rattle.jz_judgement.specs.Places.{Place, word, unsized}
use Rattle.jz_judgement.specs.HasType as judged
use Rattle.jz_judgement.specs.HasType.{Layer, Term, value, left, result, HasType, Operates}
use Rattle.jz_judgement.specs.Lefts as lefts
use Rattle.jz_judgement.specs.Lefts.{IsSound, IsFlag, IsProduct, Wants, Leaves, Holds, Takes, Values, value_term}
use Rattle.jz_judgement.proofs.Nothing.{none_not, same_some}
use Rattle.jz_meaning.proofs.LeftSideLemmas.{or_assoc, size_bin}
use Rattle.jz_meaning.specs.Values.{ref_of, own_size, size_of_operation, expr_step, ty_step, access_step, decl_step, var_step}
use Rattle.jz_meaning.specs.Assignments.{left_size, left_sizes, left_span, as_expr, is_flag, updated_layer, updated, last_left, whole_of}
use Rattle.jz_run_laws.specs.Counted.{Counted}
use Rattle.jz_run_laws.specs.Lefts.{IsCountedLeft, typed_lefts}
use Rattle.jz_run_laws.proofs.SameKinds.{known_plain, known_cells}
use Rattle.jz_run_laws.proofs.Sizes.{meant_layer, operation_size, right_type, size_law, variable_law, access_law}

-- ---- one left side
not_whole : (b : Bool) (v : Var) → (if b then Some v else None) ≡ None → b ≡ false
not_whole true v e = absurd cc
not_whole false v e = refl

pub left_law : (d : Lval) → IsCountedLeft d → IsSound d → left_size d ≡ (left_form d).size
left_law (lval.Skip at) c s = refl
left_law (lval.Var v) c s =
    known_plain (known_of v) (ref_of v).kind ((variable_law v).1 c.0) (not_whole (is_array (known_of v)) v c.1)
left_law (lval.Cell v i) c (lefts.cell z h j) = known_cells (known_of v) (ref_of v).kind z ((variable_law v).1 c.0.0) h
left_law (lval.Store a) c s = (access_law a).0 ∙ (access_law a).1

-- ---- several
pub lefts_law : (to : List Lval) → All IsCountedLeft to → All IsSound to → left_sizes to ≡ typed_lefts to
lefts_law [] c s = refl
lefts_law (d ∷ ds) c s =
    ap₂ option_or (left_law d (All-head IsCountedLeft d ds c) (All-head IsSound d ds s))
    (lefts_law ds (All-tail IsCountedLeft d ds c) (All-tail IsSound d ds s))

-- ---- what is well typed has sound left sides
wants_sound : (d : Lval) (p : Place) → Wants d p → IsSound d
wants_sound d p (lefts.number h) = lefts.variable
wants_sound d p (lefts.bool h) = lefts.variable
wants_sound d p (lefts.variable h) = lefts.variable
wants_sound d p (lefts.cell {z = z} h j) = lefts.cell z h j
wants_sound d p (lefts.access h j) = lefts.access j

pub leaves_sound : (d : Lval) (p : Place) → Leaves d p → IsSound d
leaves_sound d p lefts.nothing = lefts.nothing
leaves_sound d p (lefts.array h) = lefts.variable
leaves_sound d p (lefts.number h i t) = lefts.variable
leaves_sound d p (lefts.access h j) = lefts.access j

pub holds_sound : (p : Place) (d : Lval) → Holds p d → IsSound d
holds_sound p d h = elim h [ inl w ↦ wants_sound d p w | inr l ↦ leaves_sound d p l ]

pub flag_sound : (d : Lval) → IsFlag d → IsSound d
flag_sound d lefts.nothing = lefts.nothing
flag_sound d (lefts.variable h) = lefts.variable

takes_sound : (d : Lval) (x : Term) → Takes d x → IsSound d
takes_sound d x (lefts.wanted p w h) = wants_sound d p w
takes_sound d x (lefts.left p l o h) = leaves_sound d p l

takes_type : (d : Lval) (x : Term) → Takes d x → (p : Place) × HasType x p
takes_type d x (lefts.wanted p w h) = (p, h)
takes_type d x (lefts.left p l o h) = (p, h)

product_sound : (h l : Lval) (x : Term) → IsProduct h l x → IsSound h × IsSound l
product_sound h l x (lefts.words z s a b t) = (holds_sound (word z) h a, holds_sound (word z) l b)
product_sound h l x (lefts.numbers a b t) = (leaves_sound h unsized a, leaves_sound l unsized b)

product_type : (h l : Lval) (x : Term) → IsProduct h l x → (p : Place) × HasType x p
product_type h l x (lefts.words z s a b t) = (word z, t)
product_type h l x (lefts.numbers a b t) = (unsized, t)

all_one : (d : Lval) → IsSound d → All IsSound (d ∷ [])
all_one d s = All-cons IsSound d [] s (All-nil IsSound)

pub sound_lefts : (to : List Lval) (o : Option BinOp) (e : Expr) → Values to o e → All IsSound to
sound_lefts to o e lefts.nothing = All-nil IsSound
sound_lefts to o e (lefts.one {d = d} t) = all_one d (takes_sound d (value_term o d e) t)
sound_lefts to o e (lefts.product {h = h} {l = l} k t) =
    All-cons IsSound h (l ∷ []) (product_sound h l (value_term o l e) t).0 (all_one l (product_sound h l (value_term o l e) t).1)
sound_lefts to o e (lefts.flagged {c = c} {d = d} k f t) =
    All-cons IsSound c (d ∷ []) (flag_sound c f) (all_one d (takes_sound d (value_term o d e) t))

pub value_type : (to : List Lval) (d : Lval) (o : Option BinOp) (e : Expr) → last_left to ≡ Some d → Values to o e → (p : Place) × HasType (value_term o d e) p
value_type to d o e last lefts.nothing = absurd (none_not d last)
value_type to d o e last (lefts.one {d = x} t) =
    subst (λ y. (p : Place) × HasType (value_term o y e) p) (same_some x d last) (takes_type x (value_term o x e) t)
value_type to d o e last (lefts.product {h = h} {l = x} k t) =
    subst (λ y. (p : Place) × HasType (value_term o y e) p) (same_some x d last) (product_type h x (value_term o x e) t)
value_type to d o e last (lefts.flagged {c = c} {d = x} k f t) =
    subst (λ y. (p : Place) × HasType (value_term o y e) p) (same_some x d last) (takes_type x (value_term o x e) t)

-- ---- `d op e`
layer_own : (x : Layer) → own_size (roll-Expr x) ≡ (meant_layer x).size
layer_own x = ap (λ m. m.size) (fold-roll-Expr _ _ _ _ _ expr_step ty_step access_step decl_step var_step x)

pub expression_own : (e : Expr) → own_size e ≡ (meant_layer (out-Expr e)).size
expression_own e = ap own_size (sym (roll-out-Expr e)) ∙ layer_own (out-Expr e)

carried : (o p : BinOp) → carries o p ≡ true → (x y z : Option Size) → size_of_operation p (size_of_operation o x y) z ≡ size_of_operation o x (size_of_operation p y z)
carried op.Add op.Add h x y z = or_assoc x y z
carried op.Sub op.Sub h x y z = or_assoc x y z
carried o p h x y z = absurd (false≢true h)

both_true : (a b : Bool) → (a && b) ≡ true → a ≡ true
both_true true b h = refl
both_true false b h = absurd (false≢true h)

chosen_own : (t : Bool) (o p : BinOp) (d e a c : Expr) (at : Span) → (t ≡ true → carries o p ≡ true) → own_size e ≡ size_of_operation p (own_size a) (own_size c)
    → own_size (if t then expr.Bin p (expr.Bin o d a at) c at else expr.Bin o d e at) ≡ size_of_operation o (own_size d) (own_size e)
chosen_own false o p d e a c at k own = size_bin o d e at
chosen_own true o p d e a c at k own =
    size_bin p (expr.Bin o d a at) c at
    ∙ ap (λ s. size_of_operation p s (own_size c)) (size_bin o d a at)
    ∙ carried o p (k refl) (own_size d) (own_size a) (own_size c)
    ∙ ap (size_of_operation o (own_size d)) (sym own)

updated_own : (o : BinOp) (d e : Expr) (at : Span) (x : Layer) → own_size e ≡ (meant_layer x).size → own_size (updated_layer o d e at x) ≡ size_of_operation o (own_size d) (own_size e)
updated_own o d e at (Expr-F.Bin p a c inner) own =
    chosen_own (carries o p && is_flag c) o p d e a c at (both_true (carries o p) (is_flag c)) own
updated_own o d e at (Expr-F.Num n x) own = size_bin o d e at
updated_own o d e at (Expr-F.Expr::Bool b x) own = size_bin o d e at
updated_own o d e at (Expr-F.Var v) own = size_bin o d e at
updated_own o d e at (Expr-F.Cell v i) own = size_bin o d e at
updated_own o d e at (Expr-F.Load a) own = size_bin o d e at
updated_own o d e at (Expr-F.Neg a x) own = size_bin o d e at
updated_own o d e at (Expr-F.Not a x) own = size_bin o d e at
updated_own o d e at (Expr-F.Cast z s a x) own = size_bin o d e at

-- a left side where it is read
read_own : (d : Lval) (r : Expr) → as_expr d ≡ Some r → own_size r ≡ left_size d
read_own (lval.Skip at) r e = absurd (none_not r e)
read_own (lval.Var v) r e = ap own_size (sym (same_some (expr.Var v) r e) ∙ sym (expr.rolls-Var v)) ∙ layer_own (Expr-F.Var v)
read_own (lval.Cell v i) r e = ap own_size (sym (same_some (expr.Cell v i) r e) ∙ sym (expr.rolls-Cell v i)) ∙ layer_own (Expr-F.Cell v i)
read_own (lval.Store a) r e = ap own_size (sym (same_some (expr.Load a) r e) ∙ sym (expr.rolls-Load a)) ∙ layer_own (Expr-F.Load a)

whole_own : (d : Lval) (o : BinOp) (e w : Expr) (r : Option Expr) → as_expr d ≡ r → updated r o e (left_span d) ≡ Some w → own_size w ≡ size_of_operation o (left_size d) (own_size e)
whole_own d o e w None is u = absurd (none_not w u)
whole_own d o e w (Some r) is u =
    ap own_size (sym (same_some (updated_layer o r e (left_span d) (out-Expr e)) w u))
    ∙ updated_own o r e (left_span d) (out-Expr e) (expression_own e)
    ∙ ap (λ s. size_of_operation o s (own_size e)) (read_own d r is)

operated : (o : BinOp) (d : Lval) (e : Expr) (p : Place) → HasType (result o d e) p → (q : Place) × HasType (value e) q
operated o d e p (judged.updated h) = right_type o (left d) (value e) p h

value_own : (d : Lval) (o : Option BinOp) (e w : Expr) (p : Place) → IsCountedLeft d → IsSound d → Counted e → whole_of (Some d) o e ≡ Some w
    → HasType (value_term o d e) p → own_size w ≡ (value_typing o d e).form.size
value_own d None e w p c s k u t = ap own_size (sym (same_some e w u)) ∙ size_law e p k t
value_own d (Some o) e w p c s k u t =
    whole_own d o e w (as_expr d) refl u
    ∙ operation_size o (left_size d) (own_size e)
    ∙ ap₂ (group_size (group_of o)) (left_law d c s) (size_law e (operated o d e p t).0 k (operated o d e p t).1)

-- ---- the last of several
last_of : (P : Lval → Type 0) (to : List Lval) (d : Lval) → last_left to ≡ Some d → All P to → P d
last_of P [] d e h = absurd (none_not d e)
last_of P (x ∷ []) d e h = subst P (same_some x d e) (All-head P x [] h)
last_of P (x ∷ y ∷ ds) d e h = last_of P (y ∷ ds) d e (All-tail P x (y ∷ ds) h)

pub assignment_law : (to : List Lval) (d : Lval) (o : Option BinOp) (e w : Expr) → last_left to ≡ Some d → whole_of (Some d) o e ≡ Some w
    → All IsCountedLeft to → Counted e → Values to o e
    → option_or (left_sizes to) (own_size w) ≡ option_or (typed_lefts to) (value_typing o d e).form.size
assignment_law to d o e w last u c k v =
    ap₂ option_or (lefts_law to c (sound_lefts to o e v))
    (value_own d o e w (value_type to d o e last v).0 (last_of IsCountedLeft to d last c) (last_of IsSound to d last (sound_lefts to o e v))
    k u (value_type to d o e last v).1)

-- ---- flags
bool_none : (k : Known) → lefts.IsBool k → known_size k ≡ None
bool_none None h = absurd h
bool_none (Some d) h = kind_none d.kind h
  where
    kind_none : (k : Kind) → lefts.BoolKind k → word_size k ≡ None
    kind_none kind.Int h = absurd h
    kind_none kind.Truth h = refl
    kind_none (kind.Word z) h = absurd h
    kind_none (kind.Array z) h = absurd h

pub flag_none : (d : Lval) → IsFlag d → (left_form d).size ≡ None
flag_none d lefts.nothing = refl
flag_none d (lefts.variable {v = v} h) = bool_none (known_of v) h
