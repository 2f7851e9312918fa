-- The earlier of places, and the earliest of two lists, one after the other.
use Rattle.std.proofs.Common.{◌≡◌, Bool, true, false, List, [], ◌∷◌, ◌++◌, Option, Some, None, flat_map, refl, sym, ap, ap₂, ◌∙◌, arith}
use Rattle.std.specs.Prelude.{if◌then◌else◌}
use Rattle.std.proofs.lemmas.Bool.Decides.{nat_tests}
use Rattle.jz_tree.specs.Span.{Span}
use Rattle.jz_type_names.specs.Order.{is_before, earlier, earliest, first_in}

pub before_trans : (a b c : Span) → is_before a b ≡ true → is_before b c ≡ true → is_before a c ≡ true
before_trans a b c p q = grind (arith, nat_tests)

pub before_not : (a b c : Span) → is_before a b ≡ false → is_before b c ≡ false → is_before a c ≡ false
before_not a b c p q = grind (arith, nat_tests)

three : (x y z : Span) (yx zy zx : Bool) → is_before y x ≡ yx → is_before z y ≡ zy → is_before z x ≡ zx
    → earlier (if yx then Some y else Some x) (Some z) ≡ earlier (Some x) (if zy then Some z else Some y)
three x y z true true zx p q r = simp (q, before_trans z y x q p)
three x y z true false zx p q r = simp (q, p)
three x y z false true zx p q r = refl
three x y z false false zx p q r = simp (p, before_not z y x q p)

pub earlier-assoc : (a b c : Option Span) → earlier (earlier a b) c ≡ earlier a (earlier b c)
earlier-assoc None b c = refl
earlier-assoc (Some x) None c = refl
earlier-assoc (Some x) (Some y) None = elim (is_before y x) as (λ b. earlier (if b then Some y else Some x) None ≡ (if b then Some y else Some x)) [ true ↦ refl | false ↦ refl ]
earlier-assoc (Some x) (Some y) (Some z) = three x y z _ _ _ refl refl refl

pub none-earlier : (a : Option Span) → earlier None a ≡ a
none-earlier a = refl

pub earlier-none : (a : Option Span) → earlier a None ≡ a
earlier-none None = refl
earlier-none (Some x) = refl

pub earliest-append : (xs ys : List Span) → earliest (xs ++ ys) ≡ earlier (earliest xs) (earliest ys)
earliest-append [] ys = sym (none-earlier (earliest ys))
earliest-append (x ∷ xs) ys = ap (earlier (Some x)) (earliest-append xs ys) ∙ sym (earlier-assoc (Some x) (earliest xs) (earliest ys))

-- the earliest place of items, one after the other, is that of all of them
pub first_over : {A : Type 0} (places : A → List Span) (as' : List A) → first_in places as' ≡ earliest (flat_map places as')
first_over places [] = refl
first_over places (a ∷ as') = ap (earlier (earliest (places a))) (first_over places as') ∙ sym (earliest-append (places a) (flat_map places as'))

pub first_in-is : {A : Type 0} (places : A → List Span) (as' : List A) → earliest (flat_map places as') ≡ first_in places as'
first_in-is places as' = sym (first_over places as')

-- of what is found in two lists the earlier is the earliest of both
pub both_earliest : (xs ys : List Span) (a b : Option Span) → a ≡ earliest xs → b ≡ earliest ys → earlier a b ≡ earliest (xs ++ ys)
both_earliest xs ys a b p q = ap₂ earlier p q ∙ sym (earliest-append xs ys)

pub ruleset earlier_laws = (earlier-assoc, none-earlier, earlier-none)

-- for loops over what a definition says by `flat_map`
pub ruleset joining = (earliest-append, first_in-is)
