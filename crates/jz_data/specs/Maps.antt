-- What a function makes of a list's items, one after another. R says what it may give of an item.
use Rattle.std.specs.Prelude.{◌≡◌, ◌⊎◌, List, ◌∷◌, ◌++◌, Result, Ok, Err, IfOk, map}
use Rattle.std.specs.List.{AllZip}
use Rattle.std.specs.Fn.{Shared, FnReturns}
use Rattle.std.specs.declared.alloc.AllocError.{AllocError}

module _ {A B E : Type 0} (R : A → Result B E → Type 0) where
  -- each of the items has its value, in order
  abbrev pub Maps : List A → List B → Type 0
  Maps xs ys = AllZip (λ x y. R x (Ok y)) xs ys

  -- where the values are those of a function g, the list is that of g's values
  abbrev pub IsImage : List A → Result (List B) E → Type 0
  IsImage xs result =
      (g : A → B) → ((x : A) (y : B) → R x (Ok y) → y ≡ g x) → IfOk result (λ ys. ys ≡ map g xs)

  -- some item has the cause e, and each of those before it a value
  pub record FailsFirst (xs : List A) (e : E) : Type 0 where
    pub before : List A
    pub values : List B
    pub item : A
    pub after : List A
    pub parts : xs ≡ before ++ item ∷ after
    pub maps : Maps before values
    pub fails : R item (Err e)

-- the failure e is want of memory, or that of the first item that fails
abbrev pub IsFailure : {A B E : Type 0} → (AllocError → E → Type 0) → (A → Result B E → Type 0) → List A → E → Type 0
IsFailure gives R xs e = ((full : AllocError) × gives full e) ⊎ FailsFirst R xs e

-- a call of the value f, which takes its argument, may give r of x
abbrev pub Gives : {F A R : Type 0} → Shared F (A × Unit {0}) R → F → A → R → Type 0
Gives g f x r = FnReturns g f (x, tt) r
