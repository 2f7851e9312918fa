-- The flags that lead the results.
use Rattle.std.proofs.Common.{◌≡◌, ℕ, ◌-◌, ◌≤◌, List, [], ◌∷◌, length, take, drop, get_or, Option, None, refl, sym, ap, ◌∙◌, subst, arith}
use Rattle.std.proofs.lemmas.List.{take_rest}
use Rattle.jz_tree.specs.declared.stmt.Lval.{Lval}
use Rattle.jz_operations.specs.declared.operation.Pinned.{Pinned}
use Rattle.jz_operations.specs.declared.operation.Flags.{Flags}
use Rattle.jz_homes.specs.Homes.{Homes}
use Rattle.jz_flag_rows.specs.Results.{IsFlag, AreTwo, two, AreFour, four, AreFive, five}
use Rattle.jz_instructions.specs.InnerRows.{NeverLed}

-- ---- a slice of so many or more
module _ {A : Type 0} where
  pub two_up : (xs : List A) (a b : A) → 2 ≤ length xs → a ≡ get_or xs 0 a → b ≡ get_or xs 1 b → xs ≡ a ∷ b ∷ take (length xs - 2) (drop 2 xs)
  two_up [] a b l e f = absurd (omega (arith, l))
  two_up (x ∷ []) a b l e f = absurd (omega (arith, l))
  two_up (x ∷ y ∷ xs) a b l e f = ap (λ u. u ∷ y ∷ xs) (sym e) ∙ ap (λ u. a ∷ u ∷ xs) (sym f) ∙ ap (λ r. a ∷ b ∷ r) (sym (take_rest (x ∷ y ∷ xs) 2))

  pub four_up : (xs : List A) (a b c d : A) → 4 ≤ length xs → a ≡ get_or xs 0 a → b ≡ get_or xs 1 b → c ≡ get_or xs 2 c → d ≡ get_or xs 3 d → xs ≡ a ∷ b ∷ c ∷ d ∷ take (length xs - 4) (drop 4 xs)
  four_up [] a b c d l e f g h = absurd (omega (arith, l))
  four_up (x ∷ []) a b c d l e f g h = absurd (omega (arith, l))
  four_up (x ∷ y ∷ []) a b c d l e f g h = absurd (omega (arith, l))
  four_up (x ∷ y ∷ z ∷ []) a b c d l e f g h = absurd (omega (arith, l))
  four_up (x ∷ y ∷ z ∷ w ∷ xs) a b c d l e f g h =
      ap (λ u. u ∷ y ∷ z ∷ w ∷ xs) (sym e) ∙ ap (λ u. a ∷ u ∷ z ∷ w ∷ xs) (sym f) ∙ ap (λ u. a ∷ b ∷ u ∷ w ∷ xs) (sym g) ∙ ap (λ u. a ∷ b ∷ c ∷ u ∷ xs) (sym h)
      ∙ ap (λ r. a ∷ b ∷ c ∷ d ∷ r) (sym (take_rest (x ∷ y ∷ z ∷ w ∷ xs) 4))

  pub five_up : (xs : List A) (a b c d i : A) → 5 ≤ length xs → a ≡ get_or xs 0 a → b ≡ get_or xs 1 b → c ≡ get_or xs 2 c → d ≡ get_or xs 3 d → i ≡ get_or xs 4 i → xs ≡ a ∷ b ∷ c ∷ d ∷ i ∷ take (length xs - 5) (drop 5 xs)
  five_up [] a b c d i l e f g h j = absurd (omega (arith, l))
  five_up (x ∷ []) a b c d i l e f g h j = absurd (omega (arith, l))
  five_up (x ∷ y ∷ []) a b c d i l e f g h j = absurd (omega (arith, l))
  five_up (x ∷ y ∷ z ∷ []) a b c d i l e f g h j = absurd (omega (arith, l))
  five_up (x ∷ y ∷ z ∷ w ∷ []) a b c d i l e f g h j = absurd (omega (arith, l))
  five_up (x ∷ y ∷ z ∷ w ∷ v ∷ xs) a b c d i l e f g h j =
      ap (λ u. u ∷ y ∷ z ∷ w ∷ v ∷ xs) (sym e) ∙ ap (λ u. a ∷ u ∷ z ∷ w ∷ v ∷ xs) (sym f) ∙ ap (λ u. a ∷ b ∷ u ∷ w ∷ v ∷ xs) (sym g) ∙ ap (λ u. a ∷ b ∷ c ∷ u ∷ v ∷ xs) (sym h)
      ∙ ap (λ u. a ∷ b ∷ c ∷ d ∷ u ∷ xs) (sym j) ∙ ap (λ r. a ∷ b ∷ c ∷ d ∷ i ∷ r) (sym (take_rest (x ∷ y ∷ z ∷ w ∷ v ∷ xs) 5))

module _ (home : Homes) where
  abbrev Flag : Lval → Option Pinned → Type 0
  Flag d k = IsFlag home d k

  -- ---- OF, CF
  two_parts : (o c : Lval) (more : List Lval) (fl : Flags) (rest : List Lval) → AreTwo home (o ∷ c ∷ more) fl rest → ((a b : Option Pinned) → Flag o a → Flag c b → ⊥) → ⊥
  two_parts o c more fl rest (two {ko = a} {kc = b} r f g) none = none a b f g

  pub no_two : (to : List Lval) (o c : Lval) (more : List Lval) → to ≡ o ∷ c ∷ more → ((a b : Option Pinned) → Flag o a → Flag c b → ⊥) → NeverLed (AreTwo home to)
  no_two to o c more is none fl rest h = two_parts o c more fl rest (subst (λ t. AreTwo home t fl rest) is h) none

  pub two_led : (to : List Lval) (o c : Lval) (more : List Lval) (a b : Option Pinned) → to ≡ o ∷ c ∷ more → Flag o a → Flag c b → AreTwo home to (record { of = a; cf = b; sf = None; pf = None; zf = None }) more
  two_led to o c more a b is f g = subst (λ t. AreTwo home t (record { of = a; cf = b; sf = None; pf = None; zf = None }) more) (sym is) (two more f g)

  pub few_two : (to : List Lval) → ((o c : Lval) (more : List Lval) → to ≡ o ∷ c ∷ more → ⊥) → NeverLed (AreTwo home to)
  few_two to none fl rest (two {o = o} {c = c} r f g) = none o c rest refl

  -- ---- OF, SF, PF, ZF
  four_parts : (o s p z : Lval) (more : List Lval) (fl : Flags) (rest : List Lval) → AreFour home (o ∷ s ∷ p ∷ z ∷ more) fl rest → ((a b c d : Option Pinned) → Flag o a → Flag s b → Flag p c → Flag z d → ⊥) → ⊥
  four_parts o s p z more fl rest (four {ko = a} {ks = b} {kp = c} {kz = d} r f g h k) none = none a b c d f g h k

  pub no_four : (to : List Lval) (o s p z : Lval) (more : List Lval) → to ≡ o ∷ s ∷ p ∷ z ∷ more → ((a b c d : Option Pinned) → Flag o a → Flag s b → Flag p c → Flag z d → ⊥) → NeverLed (AreFour home to)
  no_four to o s p z more is none fl rest h = four_parts o s p z more fl rest (subst (λ t. AreFour home t fl rest) is h) none

  pub four_led : (to : List Lval) (o s p z : Lval) (more : List Lval) (a b c d : Option Pinned) → to ≡ o ∷ s ∷ p ∷ z ∷ more → Flag o a → Flag s b → Flag p c → Flag z d → AreFour home to (record { of = a; cf = None; sf = b; pf = c; zf = d }) more
  four_led to o s p z more a b c d is f g h k = subst (λ t. AreFour home t (record { of = a; cf = None; sf = b; pf = c; zf = d }) more) (sym is) (four more f g h k)

  pub few_four : (to : List Lval) → ((o s p z : Lval) (more : List Lval) → to ≡ o ∷ s ∷ p ∷ z ∷ more → ⊥) → NeverLed (AreFour home to)
  few_four to none fl rest (four {o = o} {s = s} {p = p} {z = z} r f g h k) = none o s p z rest refl

  -- ---- all five
  five_parts : (o c s p z : Lval) (more : List Lval) (fl : Flags) (rest : List Lval) → AreFive home (o ∷ c ∷ s ∷ p ∷ z ∷ more) fl rest → ((a b d e i : Option Pinned) → Flag o a → Flag c b → Flag s d → Flag p e → Flag z i → ⊥) → ⊥
  five_parts o c s p z more fl rest (five {ko = a} {kc = b} {ks = d} {kp = e} {kz = i} r f g h k l) none = none a b d e i f g h k l

  pub no_five : (to : List Lval) (o c s p z : Lval) (more : List Lval) → to ≡ o ∷ c ∷ s ∷ p ∷ z ∷ more → ((a b d e i : Option Pinned) → Flag o a → Flag c b → Flag s d → Flag p e → Flag z i → ⊥) → NeverLed (AreFive home to)
  no_five to o c s p z more is none fl rest h = five_parts o c s p z more fl rest (subst (λ t. AreFive home t fl rest) is h) none

  pub five_led : (to : List Lval) (o c s p z : Lval) (more : List Lval) (a b d e i : Option Pinned) → to ≡ o ∷ c ∷ s ∷ p ∷ z ∷ more → Flag o a → Flag c b → Flag s d → Flag p e → Flag z i → AreFive home to (record { of = a; cf = b; sf = d; pf = e; zf = i }) more
  five_led to o c s p z more a b d e i is f g h k l = subst (λ t. AreFive home t (record { of = a; cf = b; sf = d; pf = e; zf = i }) more) (sym is) (five more f g h k l)

  pub few_five : (to : List Lval) → ((o c s p z : Lval) (more : List Lval) → to ≡ o ∷ c ∷ s ∷ p ∷ z ∷ more → ⊥) → NeverLed (AreFive home to)
  few_five to none fl rest (five {o = o} {c = c} {s = s} {p = p} {z = z} r f g h k l) = none o c s p z rest refl
