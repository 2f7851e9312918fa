-- Places in a text, and the earliest of several.
use Rattle.std.specs.Prelude.{◌<◌, ◌≡◌, ◌⊎◌, Bool, ◌&&◌, ◌||◌, nat_lt, nat_eq, if◌then◌else◌, List, [], ◌∷◌, Option, Some, None, Result, IfOk}
use Rattle.jz_tree.specs.Span.{Span}

-- a stands before b in the text
abbrev pub is_before : Span → Span → Bool
is_before a b = nat_lt a.line b.line || (nat_eq a.line b.line && nat_lt a.col b.col)

-- the same as a fact
abbrev pub Before : Span → Span → Type 0
Before a b = (a.line < b.line) ⊎ ((a.line ≡ b.line) × (a.col < b.col))

-- the place is wrong unless the test is passed
abbrev pub unless : Bool → Span → List Span
unless fine at = if fine then [] else at ∷ []

-- the earlier of two places, if there is one
abbrev pub earlier : Option Span → Option Span → Option Span
earlier None b = b
earlier (Some x) None = Some x
earlier (Some x) (Some y) = if is_before y x then Some y else Some x

-- the earliest of several places, if there is one
abbrev pub earliest : List Span → Option Span
earliest [] = None
earliest (a ∷ as') = earlier (Some a) (earliest as')

-- the earliest of the places of several items, item by item
abbrev pub first_in : {A : Type 0} → (A → List Span) → List A → Option Span
first_in places [] = None
first_in places (a ∷ as') = earlier (earliest (places a)) (first_in places as')

-- what is found, unless memory is wanting, is the earliest of these places
abbrev pub FindsEarliest : {E : Type 0} → Result (Option Span) E → List Span → Type 0
FindsEarliest result places = IfOk result (λ at. at ≡ earliest places)

-- what is found, unless memory is wanting, is the earliest of the places of these items
abbrev pub FindsFirst : {A E : Type 0}
    → Result (Option Span) E → (A → List Span) → List A → Type 0
FindsFirst result places items = IfOk result (λ at. at ≡ first_in places items)

-- the place at which something stands, and before which nothing of the kind stands; none, where
-- nothing of the kind stands anywhere
pub data IsEarliest (Wrong : Span → Type 0) : Option Span → Type 0 where
  nowhere : ((at : Span) → Wrong at → ⊥) → IsEarliest Wrong None
  here : {at : Span}
      → Wrong at
      → ((there : Span) → Wrong there → Before at there ⊎ (at ≡ there))
      → IsEarliest Wrong (Some at)
