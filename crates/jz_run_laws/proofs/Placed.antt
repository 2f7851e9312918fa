-- The size that a place asks for, which is that of what stands there.
use Rattle.std.proofs.Common.{◌≡◌, Bool, Option, Some, None, refl, sym, ap, ◌∙◌, subst}
use Rattle.std.specs.Option.{option_or}
use Rattle.jz_tree.specs.Size.{Size}
use Rattle.jz_tree.specs.declared.expr.Expr.{Expr}
use Rattle.jz_tree.specs.declared.expr.BinOp.{BinOp}
use Rattle.jz_tree.specs.declared.expr.BinOp.TheVariants as op
use Rattle.jz_type_sizes.specs.declared.operators.Group.{Group}
use Rattle.jz_type_sizes.specs.declared.operators.Group.TheVariants as group
use Rattle.jz_type_sizes.specs.Operators.{group_of, group_size}
use Rattle.jz_type_sizes.specs.Typings.{Typing, typing}
use Rattle.jz_judgement.specs.Places.{Place, integer, truth, word, stated, unsized, IsSum}
use Rattle.jz_judgement.specs.HasType as judged
use Rattle.jz_judgement.specs.HasType.{Term, value, HasType, Says, OperandSays, Operates}
use Rattle.jz_run_laws.specs.Rows.{place_size}
use Rattle.jz_judgement.proofs.Layers.{Judged}
use Rattle.jz_judgement.proofs.Expressions.{judged_of}
use Rattle.jz_judgement.proofs.Nothing.{none_not}

placed : {t : Typing} {H : Place → Type 0} {S : Size → Type 0} {k : Bool} → Judged t H S k → (p : Place) → H p → (y : Size) → t.form.size ≡ Some y → place_size p ≡ Some y
placed j integer h y e = sym (j.agrees.whole (j.agrees.right integer h)) ∙ e
placed j truth h y e = sym (j.apart.size (j.apart.bool (j.agrees.right truth h))) ∙ e
placed j (word z) h y e = ap (λ (x : Size). Some x) (sym (j.agrees.one y z (j.agrees.right (word z) h) e))
placed j (stated z) h y e = ap (λ (x : Size). Some x) (sym (j.agrees.stated y z (j.agrees.right (stated z) h) e))
placed j unsized h y e = sym (j.agrees.free (j.agrees.right unsized h)) ∙ e

pub size_at : (e : Expr) (p : Place) → HasType (value e) p → (y : Size) → (typing e).form.size ≡ Some y → place_size p ≡ Some y
size_at e p h = placed (judged_of e) p h

-- ---- operations
pub sum_group : (o : BinOp) → IsSum o → group_of o ≡ group.Arith
sum_group op.Add h = refl
sum_group op.Sub h = refl
sum_group o h = absurd h

no_shift : group.Shift ≡ group.Arith → ⊥
no_shift e = cc

no_compare : group.Compare ≡ group.Arith → ⊥
no_compare e = cc

no_logic : group.Logic ≡ group.Arith → ⊥
no_logic e = cc

-- where both are at one place the first that has a size has that of the second
second_size : (p : Place) (a b : Option Size) (z : Size) → ((y : Size) → a ≡ Some y → place_size p ≡ Some y) → ((y : Size) → b ≡ Some y → place_size p ≡ Some y) → b ≡ Some z → option_or a b ≡ Some z
second_size p None b z f g e = e
second_size p (Some y) b z f g e = sym (f y refl) ∙ g z e

abbrev SaidOf : Expr → Size → Type 0
SaidOf a z = (typing a).form.size ≡ Some z

by_second : (o : BinOp) (a b : Expr) (p : Place) (z : Size) → group_of o ≡ group.Arith → Operates o (value a) (value b) p → SaidOf b z → option_or (typing a).form.size (typing b).form.size ≡ Some z
by_second o a b p z g (judged.arithmetic h t k x y) e = second_size p (typing a).form.size (typing b).form.size z (size_at a p x) (size_at b p y) e
by_second o a b p z g (judged.carry s t x y) e = absurd (none_not z (size_at b truth y z e))
by_second o a b p z g (judged.shift h t k x y) e = absurd (no_shift (sym h ∙ g))
by_second o a b p z g (judged.integers h k x y) e = absurd (no_compare (sym h ∙ g))
by_second o a b p z g (judged.words q h s x y) e = absurd (no_compare (sym h ∙ g))
by_second o a b p z g (judged.logic h x y) e = absurd (no_logic (sym h ∙ g))

first_size : (a b : Option Size) (z : Size) → a ≡ Some z → option_or a b ≡ Some z
first_size None b z e = absurd (none_not z e)
first_size (Some y) b z e = e

abbrev grouped : Group → Expr → Expr → Option Size
grouped g a b = group_size g (typing a).form.size (typing b).form.size

pub operation_says : (o : BinOp) (a b : Expr) (p : Place) (z : Size) → Operates o (value a) (value b) p
    → (Says (value a) z → SaidOf a z) → (Says (value b) z → SaidOf b z)
    → OperandSays o (value a) (value b) z → grouped (group_of o) a b ≡ Some z
operation_says o a b p z t f g (judged.first h s) =
    subst (λ x. grouped x a b ≡ Some z) (sym h) (first_size (typing a).form.size (typing b).form.size z (f s))
operation_says o a b p z t f g (judged.second h s) =
    subst (λ x. grouped x a b ≡ Some z) (sym h) (by_second o a b p z h t (g s))
operation_says o a b p z t f g (judged.shifted h s) = subst (λ x. grouped x a b ≡ Some z) (sym h) (f s)
