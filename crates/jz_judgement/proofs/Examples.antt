-- Examples of what the judgement says.
use Rattle.std.specs.Prelude.{◌≡◌, ℕ, pos, [], ◌∷◌, Some, None}
use mathlib.Core.Path.{refl, sym, subst}
use mathlib.Core.Logic.{inr}
use Rattle.jz_tree.specs.Span.{Span}
use Rattle.jz_tree.specs.Size.{Size}
use Rattle.jz_tree.specs.Size.TheVariants as sizes
use Rattle.jz_tree.specs.declared.expr.Storage.TheVariants as storage
use Rattle.jz_tree.specs.declared.expr.BinOp.{BinOp}
use Rattle.jz_tree.specs.declared.expr.BinOp.TheVariants as op
use Rattle.jz_tree.specs.declared.expr.Expr.{Expr}
use Rattle.jz_tree.specs.declared.expr.Var.{Var}
use Rattle.jz_tree.specs.declared.expr.Expr.TheOpen.{Expr-F}
use Rattle.jz_tree.specs.declared.expr.Expr.TheViews.{roll-Expr, out-roll-Expr}
use Rattle.jz_tree.specs.declared.stmt.Lval.TheVariants as lval
use Rattle.jz_type_names.specs.declared.kinds.Kind.{Kind}
use Rattle.jz_type_names.specs.declared.kinds.Kind.TheVariants as kind
use Rattle.jz_type_names.specs.Kinds.{Known, known_of}
use Rattle.jz_judgement.specs.Places.{Place, integer, truth, word, unsized, Goes, IsWordOf}
use Rattle.jz_judgement.specs.HasType.{Layer, value, Says, LayerSays, HasType, Types, expression, number, variable, operation, carry, words}
use Rattle.jz_judgement.specs.Lefts as lefts
use Rattle.jz_judgement.specs.Lefts.{Values}

abbrev at : ℕ → Span
at c = record { line = 1; col = c }

abbrev three : Expr
three = roll-Expr (Expr-F.Num (pos 3) (at 1))

abbrev var : Var → Expr
var v = roll-Expr (Expr-F.Var v)

abbrev bin : BinOp → Expr → Expr → Expr
bin o a b = roll-Expr (Expr-F.Bin o a b (at 1))

abbrev declared : Kind → Known
declared k = Some (record { storage = storage.Reg; kind = k })

of_form : (x : Layer) (p : Place) → Types x p → HasType (value (roll-Expr x)) p
of_form x p h = expression (subst (λ y. Types y p) (sym (out-roll-Expr x)) h)

form_of : (x : Layer) (p : Place) → HasType (value (roll-Expr x)) p → Types x p
form_of x p (expression h) = subst (λ y. Types y p) (out-roll-Expr x) h

says_form : (x : Layer) (z : Size) → Says (value (roll-Expr x)) z → LayerSays x z
says_form x z (expression s) = subst (λ y. LayerSays y z) (out-roll-Expr x) s

form_says : (x : Layer) (z : Size) → LayerSays x z → Says (value (roll-Expr x)) z
form_says x z s = expression (subst (λ y. LayerSays y z) (sym (out-roll-Expr x)) s)

-- 3 is an integer, and a word of any size, as an index too; it is no bool
three_as_integer : HasType (value three) integer
three_as_integer = of_form _ integer (number tt)

three_as_word : (z : Size) → HasType (value three) (word z)
three_as_word z = of_form _ (word z) (number tt)

no_bool : Types (Expr-F.Num (pos 3) (at 1)) truth → ⊥
no_bool (number h) = h

three_is_no_bool : HasType (value three) truth → ⊥
three_is_no_bool h = no_bool (form_of _ truth h)

-- a variable has its size alone
word_as_declared : (v : Var) (z : Size) → known_of v ≡ declared (kind.Word z) → HasType (value (var v)) (word z)
word_as_declared v z e = of_form _ (word z) (variable (subst (λ k. Goes k (word z)) (sym e) refl))

bool_as_declared : (v : Var) → known_of v ≡ declared kind.Truth → HasType (value (var v)) truth
bool_as_declared v e = of_form _ truth (variable (subst (λ k. Goes k truth) (sym e) tt))

no_integer : (v : Var) (z : Size) → known_of v ≡ declared (kind.Word z) → Types (Expr-F.Var v) integer → ⊥
no_integer v z e (variable g) = subst (λ k. Goes k integer) e g

word_is_no_integer : (v : Var) (z : Size) → known_of v ≡ declared (kind.Word z) → HasType (value (var v)) integer → ⊥
word_is_no_integer v z e h = no_integer v z e (form_of _ integer h)

-- x + c, where c is a bool
sum_with_a_bool : (x c : Var) → known_of x ≡ declared (kind.Word sizes.S64) → known_of c ≡ declared kind.Truth
    → HasType (value (bin op.Add (var x) (var c))) (word sizes.S64)
sum_with_a_bool x c e f = of_form _ (word sizes.S64) (operation (carry tt tt (word_as_declared x sizes.S64 e) (bool_as_declared c f)))

-- 3 <s x
signed_test : (x : Var) → known_of x ≡ declared (kind.Word sizes.S32) → HasType (value (bin op.LtS three (var x))) truth
signed_test x e =
    of_form _ truth
    (operation (words sizes.S32 refl (inr (form_says _ sizes.S32 (variable (subst (λ k. IsWordOf sizes.S32 k) (sym e) refl)))) (three_as_word sizes.S32) (word_as_declared x sizes.S32 e)))

-- _ = 3
nothing_is_three : Values (lval.Skip (at 1) ∷ []) None three
nothing_is_three = lefts.one (lefts.left unsized lefts.nothing lefts.number (of_form _ unsized (number tt)))
