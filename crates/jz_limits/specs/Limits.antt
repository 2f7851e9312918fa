-- The first limit of an expansion, of all that is met in expanded order.
use Rattle.std.specs.Prelude.{ℕ, suc, ◌≡◌, ◌≤◌, List, [], ◌∷◌, ◌++◌, All}
pub use Rattle.jz_limits.specs.declared.limit.Limit.{Limit}
use Rattle.jz_limits.specs.declared.limit.Limit.TheVariants.{Expand}

-- what is met: one more statement, or something that passes a limit of its own
pub data Step : Type 0 where
  one : Step
  passing : Limit → Step

-- how many statements there may be
abbrev pub most_statements : ℕ
most_statements = 65536

abbrev pub count_of : List Step → ℕ
count_of [] = 0
count_of (one ∷ steps) = suc (count_of steps)
count_of (passing l ∷ steps) = count_of steps

-- a step passes that limit, where so many statements stand before it
abbrev pub Passes : ℕ → Step → Limit → Type 0
Passes n one l = (most_statements ≤ n) × (l ≡ Expand)
Passes n (passing m) l = l ≡ m

-- there are no more statements than there may be, and nothing passes another limit
pub record IsWithin (steps : List Step) : Type 0 where
  pub few : count_of steps ≤ most_statements
  pub none : All (λ step. step ≡ one) steps

-- one of the steps passes this limit, and all before it is within the limits
pub record IsFirstLimit (steps : List Step) (limit : Limit) : Type 0 where
  pub before : List Step
  pub here : Step
  pub after : List Step
  pub parts : steps ≡ before ++ here ∷ after
  pub within : IsWithin before
  pub passes : Passes (count_of before) here limit
