-- What is left of an expression on a stack.
use Rattle.std.proofs.Common.{◌≡◌, ◌<◌, ◌+◌, List, [], ◌∷◌, ◌++◌, Option, Some, None, flat_map, refl, sym, ap, ◌∙◌, arith, append_assoc, append-nil}
use Rattle.std.specs.Borrow.{Bor}
use Rattle.jz_tree.specs.declared.expr.Expr.{Expr}
use Rattle.jz_type_names.specs.Lent.{this}
use Rattle.jz_type_names.specs.InnerLists.{count_in, count_of}

-- what stands in the expressions of a stack, of which the last comes first
abbrev pub stacked : {A : Type 0} → (Expr → List A) → List Expr → List A
stacked f [] = []
stacked f (e ∷ es) = stacked f es ++ f e

pub count-append : (xs ys : List Expr) → count_of (xs ++ ys) ≡ count_of xs + count_of ys
count-append [] ys = omega arith
count-append (x ∷ xs) ys = let ih = count-append xs ys in omega (arith, ih)

pub stacked-append : {A : Type 0} (f : Expr → List A) (xs ys : List Expr) → stacked f (xs ++ ys) ≡ stacked f ys ++ stacked f xs
stacked-append f [] ys = sym (append-nil (stacked f ys))
stacked-append f (x ∷ xs) ys = ap (λ l. l ++ f x) (stacked-append f xs ys) ∙ append_assoc (stacked f ys) (stacked f xs) (f x)

stacked-this : {A : Type 0} (f : Expr → List A) (a b : Option (Bor Expr)) → stacked f (this a) ++ stacked f (this b) ≡ flat_map f (this a ++ this b)
stacked-this f None None = refl
stacked-this f None (Some b) = sym (append-nil (f b.now))
stacked-this f (Some a) None = refl
stacked-this f (Some a) (Some b) = ap (λ l. f a.now ++ l) (sym (append-nil (f b.now)))

-- an expression is taken from the stack, and its operands are put there
pub one_turn : {A : Type 0} (f : Expr → List A) (done more whole : List A) (xs : List Expr) (e : Expr) (a b : Option (Bor Expr))
    → done ++ stacked f (xs ++ e ∷ []) ≡ whole → f e ≡ more ++ flat_map f (this a ++ this b) → (done ++ more) ++ stacked f ((xs ++ this b) ++ this a) ≡ whole
one_turn f done more whole xs e a b h k =
    let left : stacked f ((xs ++ this b) ++ this a) ≡ flat_map f (this a ++ this b) ++ stacked f xs =
    stacked-append f (xs ++ this b) (this a) ∙ (ap (λ l. stacked f (this a) ++ l) (stacked-append f xs (this b))
    ∙ (sym (append_assoc (stacked f (this a)) (stacked f (this b)) (stacked f xs)) ∙ ap (λ l. l ++ stacked f xs) (stacked-this f a b)))
    in let both : more ++ (flat_map f (this a ++ this b) ++ stacked f xs) ≡ stacked f (xs ++ e ∷ []) =
    sym (append_assoc more _ (stacked f xs)) ∙ (ap (λ l. l ++ stacked f xs) (sym k) ∙ sym (stacked-append f xs (e ∷ [])))
    in ap (λ l. (done ++ more) ++ l) left ∙ (append_assoc done more _ ∙ (ap (λ l. done ++ l) both ∙ h))

count-this : (a b : Option (Bor Expr)) → count_of (this a ++ this b) ≡ count_of (this a) + count_of (this b)
count-this a b = count-append (this a) (this b)

pub less_left : (xs : List Expr) (e : Expr) (a b : Option (Bor Expr)) → count_of (this a ++ this b) < count_in e → count_of ((xs ++ this b) ++ this a) < count_of (xs ++ e ∷ [])
less_left xs e a b h =
    omega (arith, h, count-this a b, count-append (xs ++ this b) (this a), count-append xs (this b), count-append xs (e ∷ []))
