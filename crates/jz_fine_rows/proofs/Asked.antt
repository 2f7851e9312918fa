-- What the limits ask of the count of a shift: a number is not below zero.
use Rattle.std.proofs.Common.{◌≡◌, ℤ, pos, negsuc, Bool, true, false, ◌&&◌, List, [], ◌∷◌, ◌++◌, Option, Some, None, refl, sym, ap, ◌∙◌, subst, if◌then◌else◌}
use Rattle.std.proofs.lemmas.Bool.{false≢true, true≢false}
use Rattle.x64_insn.specs.Size.{Size}
use Rattle.jz_tree.specs.Span.{Span}
use Rattle.jz_tree.specs.Operators.{is_shift}
use Rattle.jz_tree.specs.declared.expr.BinOp.{BinOp}
use Rattle.jz_tree.specs.declared.expr.Expr.{Expr}
use Rattle.jz_tree.specs.declared.expr.Access.{Access}
use Rattle.jz_tree.specs.declared.expr.Expr.TheOpen.{Expr-F}
use Rattle.jz_tree.specs.declared.expr.Expr.TheViews.{out-Expr, roll-Expr, roll-out-Expr}
use Rattle.jz_tree.specs.declared.expr.Expr.TheFolds.{para-Access, para-roll-Expr, fold-roll-Expr, map-Expr}
use Rattle.jz_integers.specs.declared.constant.Constant.{Constant}
use Rattle.jz_integers.specs.declared.constant.Constant.TheVariants as constant
use Rattle.jz_integers.specs.Integers.{value_step, inline_value, the_number}
use Rattle.jz_type_names.specs.Kinds.{is_inline}
use Rattle.jz_type_names.specs.Parts.{span_of}
use Rattle.jz_judgement.specs.HasType.{Layer}
use Rattle.jz_unroll.proofs.InlineParts.{inline_layer, inline_is, inline_out}
use Rattle.jz_limits.specs.declared.limit.Limit.{Limit}
use Rattle.jz_limits.specs.Values.{no_numbers}
use Rattle.jz_limits.specs.Asked as limits
use Rattle.jz_limits.specs.Asked.{unless, Told, Beside, is_count, bad_count, counted, part_operands, told_as, told_step, told}
use Rattle.jz_terms.specs.Terms.{num, term_of}
use Rattle.jz_terms.proofs.Bridge.{term_layer}
use Rattle.jz_plain_operands.specs.Plain.{NotNegative}
use Rattle.jz_plain_operands.proofs.Layers.{term_out}

abbrev constant_of : Expr → Option Constant
constant_of e = inline_value no_numbers e

number_value : (i : ℤ) (at : Span) → constant_of (roll-Expr (Expr-F.Num i at)) ≡ Some (constant.Int i)
number_value i at = fold-roll-Expr _ _ _ _ _ value_step (λ t. tt) (λ a. tt) (λ d. tt) (λ v. None) (Expr-F.Num i at)

-- ---- counts
count_positive : (z : Size) (i : ℤ) (at : Span) → is_count (Some z) (Some i) ≡ true → NotNegative (num i at)
count_positive z (pos m) at h = tt
count_positive z (negsuc m) at h = absurd (false≢true h)

unless_none : (b : Bool) (l : Limit) → unless b l ≡ [] → b ≡ true
unless_none true l h = refl
unless_none false l h = absurd cc

number_counted : (z : Size) (e : Expr) (i : ℤ) (at : Span) (parts : List Limit) → out-Expr e ≡ Expr-F.Num i at → counted no_numbers (Some z) e parts ≡ [] → NotNegative (num i at)
number_counted z e i at parts s h =
    let b : is_inline e ≡ true = inline_out e ∙ ap inline_layer s in
    let q = sym (ap (λ b. if b then bad_count (Some z) (constant_of e) (span_of e) else parts) b) ∙ h in
    let v : the_number (constant_of e) ≡ Some i = ap (λ x. the_number (constant_of x)) (sym (roll-out-Expr e) ∙ ap roll-Expr s) ∙ ap the_number (number_value i at) in
    count_positive z i at (sym (ap (is_count (Some z)) v) ∙ unless_none (is_count (Some z) (the_number (constant_of e))) _ q)

pub not_negative : (z : Size) (e : Expr) (parts : List Limit) → counted no_numbers (Some z) e parts ≡ [] → NotNegative (term_of e)
not_negative z e parts h = subst NotNegative (sym (term_out e)) (by_form (out-Expr e) refl)
  where
    by_form : (l : Layer) → out-Expr e ≡ l → NotNegative (term_layer l)
    by_form (Expr-F.Num i at) s = number_counted z e i at parts s h
    by_form (Expr-F.Expr::Bool b at) s = tt
    by_form (Expr-F.Var v) s = tt
    by_form (Expr-F.Cell v i) s = tt
    by_form (Expr-F.Load a) s = tt
    by_form (Expr-F.Neg a at) s = tt
    by_form (Expr-F.Not a at) s = tt
    by_form (Expr-F.Cast y g a at) s = tt
    by_form (Expr-F.Bin o a b at) s = tt

-- ---- of an operation on two
abbrev access_told : Access → Told
access_told = para-Access Told (Unit {0}) Told (Unit {0}) (Unit {0}) (told_step no_numbers) (λ t. tt) (limits.access_step no_numbers) (λ d. tt) (λ v. tt)

abbrev beside : Layer → Beside
beside x = map-Expr _ _ _ _ _ _ _ _ _ _ (λ y. (y, told no_numbers y)) (λ y. (y, tt)) (λ y. (y, access_told y)) (λ y. (y, tt)) (λ y. (y, tt)) x

told_is : (x : Layer) → told no_numbers (roll-Expr x) ≡ told_step no_numbers (beside x)
told_is x = para-roll-Expr Told (Unit {0}) Told (Unit {0}) (Unit {0}) (told_step no_numbers) (λ t. tt) (limits.access_step no_numbers) (λ d. tt) (λ v. tt) x

told_out : (e : Expr) → told no_numbers e ≡ told_step no_numbers (beside (out-Expr e))
told_out e = ap (told no_numbers) (sym (roll-out-Expr e)) ∙ told_is (out-Expr e)

outside : (b : Bool) (v : Option Constant) (at : Span) (x : Beside) (z : Option Size) → b ≡ false → (told_as no_numbers b v at x).operands z ≡ part_operands no_numbers x z
outside true v at x z e = absurd (true≢false e)
outside false v at x z e = refl

behind_none : {A : Type 0} (xs ys : List A) → xs ++ ys ≡ [] → ys ≡ []
behind_none [] ys h = h
behind_none (x ∷ xs) ys h = absurd cc

if_shift : {A : Type 0} (b : Bool) (x y w : A) → b ≡ true → (if b then x else y) ≡ w → x ≡ w
if_shift true x y w e h = h
if_shift false x y w e h = absurd (false≢true e)

-- the count of a shift passes no limit of its own
pub count_asked : (z : Size) (e : Expr) (o : BinOp) (a b : Expr) (at : Span) → out-Expr e ≡ Expr-F.Bin o a b at → (is_inline a && is_inline b) ≡ false → is_shift o ≡ true → (told no_numbers e).operands (Some z) ≡ []
    → counted no_numbers (Some z) b ((told no_numbers b).operands (Some z)) ≡ []
count_asked z e o a b at s n f h =
    let l : Layer = Expr-F.Bin o a b at in
    let w = roll-Expr l in
    let k = sym (ap (λ (t : Told). t.operands (Some z)) (told_out e ∙ ap (λ x. told_step no_numbers (beside x)) s)) ∙ h in
    let m = sym (outside (is_inline w) (constant_of w) (span_of w) (beside l) (Some z) (inline_is l ∙ n)) ∙ k in
    if_shift (is_shift o) _ _ _ f (behind_none ((told no_numbers a).operands (Some z)) _ m)
