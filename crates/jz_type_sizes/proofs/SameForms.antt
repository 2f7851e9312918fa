-- The earliest wrong place is that of the list of all.
use Rattle.std.proofs.Common.{◌≡◌, Bool, true, false, not, ◌&&◌, List, [], ◌++◌, Option, Some, None, refl, sym, ap, ◌∙◌, subst}
use Rattle.std.specs.Prelude.{if◌then◌else◌}
use Rattle.jz_tree.specs.declared.expr.Storage.{Storage}
use Rattle.jz_tree.specs.Span.{Span}
use Rattle.jz_tree.specs.Size.{Size}
use Rattle.jz_tree.specs.declared.expr.BinOp.{BinOp}
use Rattle.jz_tree.specs.declared.expr.Expr.{Expr}
use Rattle.jz_tree.specs.declared.expr.Ty.{Ty}
use Rattle.jz_tree.specs.declared.expr.Access.{Access}
use Rattle.jz_tree.specs.declared.expr.Decl.{Decl}
use Rattle.jz_tree.specs.declared.expr.Var.{Var}
use Rattle.jz_tree.specs.declared.expr.Expr.TheOpen.{Expr-F, Ty-F, Access-F, Decl-F, Var-F}
use Rattle.jz_tree.specs.declared.expr.Expr.TheViews.{roll-Expr, roll-Ty, roll-Access, roll-Decl, roll-Var}
use Rattle.jz_tree.specs.declared.expr.Expr.TheFolds.{fold-Ty, fold-Decl, fold-Var, fold-roll-Expr, fold-roll-Ty, fold-roll-Access, fold-roll-Decl, fold-roll-Var, ind-Expr, map-Expr, map-Ty, map-Access, map-Decl, map-Var}
use Rattle.jz_type_names.specs.Order.{unless, earlier, earliest}
use Rattle.jz_type_names.proofs.Earliest.{earliest-append}
use Rattle.jz_type_names.specs.declared.kinds.Kind.{Kind}
use Rattle.jz_type_names.specs.declared.kinds.Declared.{Declared}
use Rattle.jz_type_names.specs.Kinds.{Known, kind_step, declared_step}
use Rattle.jz_type_sizes.specs.declared.wants.Want.{Want}
use Rattle.jz_type_sizes.specs.declared.wants.Want.TheVariants as want
use Rattle.jz_type_sizes.specs.declared.wants.Form.{Form}
use Rattle.jz_type_sizes.specs.Wants.{fits_truth, fits_word, fits_access, fits_cell, cell_size, cast_want, index_want}
use Rattle.jz_type_sizes.specs.Operators.{group_of, gives, stops, compared_size, left_of, right_of, takes_carry}
use Rattle.jz_type_sizes.specs.Typings.{Typing, typing, typing_of_access, typing_step, access_typing, neg_form, left_want, right_want}
use Rattle.jz_type_sizes.specs.InnerFound.{Found, found_of, found_in_access, found_step, access_found, left_inline}

-- both say the same
pub record IsSame (t : Typing) (f : Found) : Type 0 where
  pub form : f.form ≡ t.form
  pub first : (w : Want) → f.first f.form.inline w ≡ earliest (t.wrong w)

abbrev ExprLaw : Expr → Type 0
ExprLaw e = IsSame (typing e) (found_of e)

abbrev AccessLaw : Access → Type 0
AccessLaw a = IsSame (typing_of_access a) (found_in_access a)

-- the two folds of what holds no expression of its own
abbrev ty_typed : Ty → Kind
ty_typed = fold-Ty Typing Kind Typing Declared (Known × Span) typing_step kind_step access_typing declared_step (λ v. (v.decl, v.span))

abbrev ty_found : Ty → Kind
ty_found = fold-Ty Found Kind Found Declared (Known × Span) found_step kind_step access_found declared_step (λ v. (v.decl, v.span))

abbrev decl_typed : Decl → Declared
decl_typed = fold-Decl Typing Kind Typing Declared (Known × Span) typing_step kind_step access_typing declared_step (λ v. (v.decl, v.span))

abbrev decl_found : Decl → Declared
decl_found = fold-Decl Found Kind Found Declared (Known × Span) found_step kind_step access_found declared_step (λ v. (v.decl, v.span))

abbrev var_typed : Var → Known × Span
var_typed = fold-Var Typing Kind Typing Declared (Known × Span) typing_step kind_step access_typing declared_step (λ v. (v.decl, v.span))

abbrev var_found : Var → Known × Span
var_found = fold-Var Found Kind Found Declared (Known × Span) found_step kind_step access_found declared_step (λ v. (v.decl, v.span))

abbrev TyLaw : Ty → Type 0
TyLaw t = ty_typed t ≡ ty_found t

abbrev DeclLaw : Decl → Type 0
DeclLaw d = decl_typed d ≡ decl_found d

abbrev VarLaw : Var → Type 0
VarLaw v = var_typed v ≡ var_found v

abbrev Proved : Type 0
Proved = Expr-F ((e : Expr) × ExprLaw e) ((t : Ty) × TyLaw t) ((a : Access) × AccessLaw a) ((d : Decl) × DeclLaw d) ((v : Var) × VarLaw v)

abbrev bare : Proved → Expr-F Expr Ty Access Decl Var
bare y = map-Expr _ _ _ _ _ _ _ _ _ _ (λ e. e.0) (λ e. e.0) (λ e. e.0) (λ e. e.0) (λ e. e.0) y

two : (xs ys : List Span) (x y : Option Span) → x ≡ earliest xs → y ≡ earliest ys → earlier x y ≡ earliest (xs ++ ys)
two xs ys x y p q = ap (λ z. earlier z y) p ∙ ap (earlier (earliest xs)) q ∙ sym (earliest-append xs ys)

left_is : (a b : Bool) → left_inline (b && a) a b ≡ a
left_is true true = refl
left_is false true = refl
left_is true false = refl
left_is false false = refl

stopped : (b : Bool) (x : Option Span) (xs : List Span) → x ≡ earliest xs → (if b then None else x) ≡ earliest (if b then [] else xs)
stopped true x xs e = refl
stopped false x xs e = e

-- ---- layers
-- variables
abbrev Named : Type 0
Named = Known × Span

var_same : (p q : Named) → p ≡ q → IsSame (typing_step (Expr-F.Var p)) (found_step (Expr-F.Var q))
var_same p q e = subst (λ q. IsSame (typing_step (Expr-F.Var p)) (found_step (Expr-F.Var q))) e (record { form = refl; first = λ w. refl })

cell_same : (p q : Named) (i : Typing) (j : Found) → p ≡ q → IsSame i j → IsSame (typing_step (Expr-F.Cell p i)) (found_step (Expr-F.Cell q j))
cell_same p q i j e h = subst (λ q. IsSame (typing_step (Expr-F.Cell p i)) (found_step (Expr-F.Cell q j))) e (record { form = refl; first = λ w. two (unless (fits_cell (cell_size p.0) w) p.1) (i.wrong index_want) _ _ refl (h.first index_want) })

access_same : (z : Option Size) (u : Bool) (at : Span) (i : Typing) (j : Found) → IsSame i j
    → IsSame (access_typing (record { size = z; at = i; unaligned = u; span = at })) (access_found (record { size = z; at = j; unaligned = u; span = at }))
access_same z u at i j h = record { form = refl; first = λ w. two (unless (fits_access z w) at) (i.wrong index_want) _ _ refl (h.first index_want) }

neg_same : (at : Span) (i : Typing) (j : Found) → IsSame i j → IsSame (typing_step (Expr-F.Neg i at)) (found_step (Expr-F.Neg j at))
neg_same at i j h = record { form = ap neg_form h.form; first = λ w. two (unless (not (fits_truth w)) at) (if fits_truth w then [] else i.wrong w) _ _ refl (stopped (fits_truth w) _ (i.wrong w) (h.first w)) }

cast_same : (z : Size) (s : Bool) (at : Span) (i : Typing) (j : Found) → IsSame i j → IsSame (typing_step (Expr-F.Cast z s i at)) (found_step (Expr-F.Cast z s j at))
cast_same z s at i j h = record { form = refl; first = λ w. two (unless (fits_word z w) at) (i.wrong (cast_want i.form.size)) _ _ refl (h.first _ ∙ ap (λ g. earliest (i.wrong (cast_want g.size))) h.form) }

abbrev with_form : Form → (Bool → Want → Option Span) → Found
with_form g p = record { form = g; first = p }

abbrev Finds : Typing → Form → (Bool → Want → Option Span) → Type 0
Finds t g p = (w : Want) → p g.inline w ≡ earliest (t.wrong w)

abbrev BinSame : BinOp → Span → Typing → Typing → Found → Found → Type 0
BinSame o at a b f g = IsSame (typing_step (Expr-F.Bin o a b at)) (found_step (Expr-F.Bin o f g at))

bin_operands : (o : BinOp) (a b : Typing) (p q : Bool → Want → Option Span) (w : Want) → Finds a a.form p → Finds b b.form q
    → earlier
    (q b.form.inline (right_of (group_of o) (takes_carry o w && b.form.truth) (compared_size (group_of o) a.form.size b.form.size) w))
    (p (left_inline (b.form.inline && a.form.inline) a.form.inline b.form.inline) (left_of (group_of o) o (b.form.inline && a.form.inline) (compared_size (group_of o) a.form.size b.form.size) w))
    ≡ earliest (b.wrong (right_want o a.form b.form w) ++ a.wrong (left_want o a.form b.form w))
bin_operands o a b p q w ha hb =
    subst
    (λ i. earlier
    (q b.form.inline (right_of (group_of o) (takes_carry o w && b.form.truth) (compared_size (group_of o) a.form.size b.form.size) w))
    (p i (left_of (group_of o) o (b.form.inline && a.form.inline) (compared_size (group_of o) a.form.size b.form.size) w))
    ≡ earliest (b.wrong (right_want o a.form b.form w) ++ a.wrong (left_want o a.form b.form w)))
    (sym (left_is a.form.inline b.form.inline))
    (two (b.wrong (right_want o a.form b.form w)) (a.wrong (left_want o a.form b.form w)) _ _ (hb (right_want o a.form b.form w)) (ha (left_want o a.form b.form w)))

bin_at : (o : BinOp) (at : Span) (a b : Typing) (p q : Bool → Want → Option Span) → Finds a a.form p → Finds b b.form q → BinSame o at a b (with_form a.form p) (with_form b.form q)
bin_at o at a b p q ha hb = record {
  form = refl;
  first = λ w.
      two (unless (gives (group_of o) w) at) (if stops (group_of o) w then [] else b.wrong (right_want o a.form b.form w) ++ a.wrong (left_want o a.form b.form w)) _ _ refl
      (stopped (stops (group_of o) w) _ (b.wrong (right_want o a.form b.form w) ++ a.wrong (left_want o a.form b.form w)) (bin_operands o a b p q w ha hb));
}

bin_left : (o : BinOp) (at : Span) (a b : Typing) (f : Form) (p q : Bool → Want → Option Span) → a.form ≡ f → Finds a f p → Finds b b.form q → BinSame o at a b (with_form f p) (with_form b.form q)
bin_left o at a b f p q e ha hb = subst (λ f. Finds a f p → BinSame o at a b (with_form f p) (with_form b.form q)) e (λ h. bin_at o at a b p q h hb) ha

bin_same : (o : BinOp) (at : Span) (a b : Typing) (f g : Found) → IsSame a f → IsSame b g → BinSame o at a b f g
bin_same o at a b f g ha hb =
    subst (λ k. Finds b k g.first → BinSame o at a b f (with_form k g.first)) (sym hb.form) (λ h. bin_left o at a b f.form f.first g.first (sym ha.form) ha.first h) hb.first

-- ---- all expressions
abbrev typed_layer : Expr-F Expr Ty Access Decl Var → Typing
typed_layer x = typing_step (map-Expr _ _ _ _ _ Typing Kind Typing Declared (Known × Span) typing ty_typed typing_of_access decl_typed var_typed x)

abbrev found_layer : Expr-F Expr Ty Access Decl Var → Found
found_layer x = found_step (map-Expr _ _ _ _ _ Found Kind Found Declared (Known × Span) found_of ty_found found_in_access decl_found var_found x)

layer_same : (y : Proved) → IsSame (typed_layer (bare y)) (found_layer (bare y))
layer_same (Expr-F.Num n at) = record { form = refl; first = λ w. refl }
layer_same (Expr-F.Expr::Bool b at) = record { form = refl; first = λ w. refl }
layer_same (Expr-F.Var v) = var_same _ _ v.1
layer_same (Expr-F.Cell v i) = cell_same _ _ _ _ v.1 i.1
layer_same (Expr-F.Load a) = a.1
layer_same (Expr-F.Neg a at) = neg_same at _ _ a.1
layer_same (Expr-F.Not a at) = a.1
layer_same (Expr-F.Cast z s a at) = cast_same z s at _ _ a.1
layer_same (Expr-F.Bin o a b at) = bin_same o at _ _ _ _ a.1 b.1

expr_case : (y : Proved) → ExprLaw (roll-Expr (bare y))
expr_case y =
    subst (λ t. IsSame t (found_of (roll-Expr (bare y)))) (sym (fold-roll-Expr Typing Kind Typing Declared (Known × Span) typing_step kind_step access_typing declared_step (λ v. (v.decl, v.span)) (bare y)))
    (subst (λ f. IsSame (typed_layer (bare y)) f) (sym (fold-roll-Expr Found Kind Found Declared (Known × Span) found_step kind_step access_found declared_step (λ v. (v.decl, v.span)) (bare y))) (layer_same y))

access_case : (y : Access-F ((e : Expr) × ExprLaw e) ((t : Ty) × TyLaw t) ((a : Access) × AccessLaw a) ((d : Decl) × DeclLaw d) ((v : Var) × VarLaw v))
    → AccessLaw (roll-Access (map-Access _ _ _ _ _ _ _ _ _ _ (λ e. e.0) (λ e. e.0) (λ e. e.0) (λ e. e.0) (λ e. e.0) y))
access_case y =
    let x = map-Access _ _ _ _ _ Expr Ty Access Decl Var (λ e. e.0) (λ e. e.0) (λ e. e.0) (λ e. e.0) (λ e. e.0) y in
    subst (λ t. IsSame t (found_in_access (roll-Access x))) (sym (fold-roll-Access Typing Kind Typing Declared (Known × Span) typing_step kind_step access_typing declared_step (λ v. (v.decl, v.span)) x))
    (subst (λ f. IsSame (access_typing (record { size = x.size; at = typing x.at; unaligned = x.unaligned; span = x.span })) f) (sym (fold-roll-Access Found Kind Found Declared (Known × Span) found_step kind_step access_found declared_step (λ v. (v.decl, v.span)) x))
    (access_same x.size x.unaligned x.span _ _ y.at.1))

ty_case : (y : Ty-F ((e : Expr) × ExprLaw e) ((t : Ty) × TyLaw t) ((a : Access) × AccessLaw a) ((d : Decl) × DeclLaw d) ((v : Var) × VarLaw v))
    → TyLaw (roll-Ty (map-Ty _ _ _ _ _ _ _ _ _ _ (λ e. e.0) (λ e. e.0) (λ e. e.0) (λ e. e.0) (λ e. e.0) y))
ty_case y =
    let x = map-Ty _ _ _ _ _ Expr Ty Access Decl Var (λ e. e.0) (λ e. e.0) (λ e. e.0) (λ e. e.0) (λ e. e.0) y in
    fold-roll-Ty Typing Kind Typing Declared (Known × Span) typing_step kind_step access_typing declared_step (λ v. (v.decl, v.span)) x
    ∙ kinds x
    ∙ sym (fold-roll-Ty Found Kind Found Declared (Known × Span) found_step kind_step access_found declared_step (λ v. (v.decl, v.span)) x)
  where
    kinds : (x : Ty-F Expr Ty Access Decl Var)
        → kind_step (map-Ty _ _ _ _ _ Typing Kind Typing Declared (Known × Span) typing ty_typed typing_of_access decl_typed var_typed x)
        ≡ kind_step (map-Ty _ _ _ _ _ Found Kind Found Declared (Known × Span) found_of ty_found found_in_access decl_found var_found x)
    kinds Ty-F.Int = refl
    kinds Ty-F.Ty::Bool = refl
    kinds (Ty-F.Word z) = refl
    kinds (Ty-F.Array z n) = refl

decl_case : (y : Decl-F ((e : Expr) × ExprLaw e) ((t : Ty) × TyLaw t) ((a : Access) × AccessLaw a) ((d : Decl) × DeclLaw d) ((v : Var) × VarLaw v))
    → DeclLaw (roll-Decl (map-Decl _ _ _ _ _ _ _ _ _ _ (λ e. e.0) (λ e. e.0) (λ e. e.0) (λ e. e.0) (λ e. e.0) y))
decl_case y =
    let x = map-Decl _ _ _ _ _ Expr Ty Access Decl Var (λ e. e.0) (λ e. e.0) (λ e. e.0) (λ e. e.0) (λ e. e.0) y in
    fold-roll-Decl Typing Kind Typing Declared (Known × Span) typing_step kind_step access_typing declared_step (λ v. (v.decl, v.span)) x
    ∙ ap (declaring y.storage) y.ty.1
    ∙ sym (fold-roll-Decl Found Kind Found Declared (Known × Span) found_step kind_step access_found declared_step (λ v. (v.decl, v.span)) x)
  where
    declaring : Storage → Kind → Declared
    declaring s k = record { storage = s; kind = k }

abbrev VarProved : Type 0
VarProved = Var-F ((e : Expr) × ExprLaw e) ((t : Ty) × TyLaw t) ((a : Access) × AccessLaw a) ((d : Decl) × DeclLaw d) ((v : Var) × VarLaw v)

abbrev bare_var : VarProved → Var-F Expr Ty Access Decl Var
bare_var y = map-Var _ _ _ _ _ Expr Ty Access Decl Var (λ e. e.0) (λ e. e.0) (λ e. e.0) (λ e. e.0) (λ e. e.0) y

abbrev named : {A B C E : Type 0} → Var-F A B C Declared E → Known × Span
named v = (v.decl, v.span)

abbrev typed_named : Var-F Expr Ty Access Decl Var → Known × Span
typed_named x = named (map-Var _ _ _ _ _ Typing Kind Typing Declared (Known × Span) typing ty_typed typing_of_access decl_typed var_typed x)

abbrev found_named : Var-F Expr Ty Access Decl Var → Known × Span
found_named x = named (map-Var _ _ _ _ _ Found Kind Found Declared (Known × Span) found_of ty_found found_in_access decl_found var_found x)

named_same : (y : VarProved) → typed_named (bare_var y) ≡ found_named (bare_var y)
named_same y = elim y.decl as (λ d. typed_named (bare_var (record y { decl = d })) ≡ found_named (bare_var (record y { decl = d }))) [ None ↦ refl | Some d ↦ ap (λ z. (Some z, y.span)) d.1 ]

var_case : (y : VarProved) → VarLaw (roll-Var (bare_var y))
var_case y =
    fold-roll-Var Typing Kind Typing Declared (Known × Span) typing_step kind_step access_typing declared_step (λ v. (v.decl, v.span)) (bare_var y)
    ∙ named_same y
    ∙ sym (fold-roll-Var Found Kind Found Declared (Known × Span) found_step kind_step access_found declared_step (λ v. (v.decl, v.span)) (bare_var y))

pub same : (e : Expr) → IsSame (typing e) (found_of e)
same =
    ind-Expr ExprLaw TyLaw AccessLaw DeclLaw VarLaw
    (λ x y is. subst (λ z. ExprLaw (roll-Expr z)) is (expr_case y))
    (λ x y is. subst (λ z. TyLaw (roll-Ty z)) is (ty_case y))
    (λ x y is. subst (λ z. AccessLaw (roll-Access z)) is (access_case y))
    (λ x y is. subst (λ z. DeclLaw (roll-Decl z)) is (decl_case y))
    (λ x y is. subst (λ z. VarLaw (roll-Var z)) is (var_case y))

pub same_form : (e : Expr) → (found_of e).form ≡ (typing e).form
same_form e = (same e).form

pub same_first : (e : Expr) (w : Want) → (found_of e).first (found_of e).form.inline w ≡ earliest ((typing e).wrong w)
same_first e w = (same e).first w
