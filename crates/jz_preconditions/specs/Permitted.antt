-- The values of a parameter that its range and its alignment permit, and the least of them.
use Rattle.std.specs.Prelude.{◌≡◌, ◌<◌, ◌≤◌, ◌*◌, ℕ, List, map, Option, Some, None, IfSome, unwrap_or}
use Rattle.std.specs.FinMap.{get}
use Rattle.jz_tree.specs.Memory.{Memory}
use Rattle.jz_tree.specs.declared.expr.Var.{Var}
use Rattle.jz_tree.specs.declared.program.Fun.{Fun}
use Rattle.jz_type_names.specs.Kinds.{known_of}
use Rattle.jz_type_names.specs.Scopes.{text_of}
use Rattle.jz_preconditions.specs.Naming.{values_of}
use Rattle.jz_preconditions.specs.Bounds.{range_of, multiple_of, least_by}
use Rattle.jz_preconditions.specs.Stating.{preconditions_of}
use Rattle.jz_preconditions.specs.Meeting.{MeetsPreconditions}

-- a value of a parameter that its range and its alignment permit
pub record IsPermitted (f : Fun) (v : Var) (n : ℕ) : Type 0 where
  pub value : n < values_of (known_of v)
  pub range : IfSome (range_of (preconditions_of f) (text_of v)) (λ i. (i.low ≤ n) × (n ≤ i.high))
  pub multiple : IfSome (multiple_of (preconditions_of f) (text_of v)) (λ m. (k : ℕ) × (n ≡ k * m))

-- the least one, where there is one
abbrev pub least_permitted : Fun → Var → Option ℕ
least_permitted f v =
    least_by (values_of (known_of v)) (range_of (preconditions_of f) (text_of v))
    (unwrap_or (multiple_of (preconditions_of f) (text_of v)) 1)

-- it is permitted, and no less one is; where there is none, nothing is permitted
abbrev pub IsLeastPermitted : Fun → Var → Option ℕ → Type 0
IsLeastPermitted f v None = (n : ℕ) → IsPermitted f v n → ⊥
IsLeastPermitted f v (Some n) =
    IsPermitted f v n × ((k : ℕ) → IsPermitted f v k → n ≤ k)

-- each parameter's least permitted value
abbrev pub least_arguments : Fun → List ℕ
least_arguments f = map (λ p. unwrap_or (least_permitted f p.var) 0) f.params

-- these words meet the preconditions, with a memory whose bytes are zero
pub record MeetsWithZeros (f : Fun) (words : List ℕ) : Type 0 where
  pub memory : Memory
  pub zeros : (q b : ℕ) → get memory q ≡ Some b → b ≡ 0
  pub meets : MeetsPreconditions f words memory
