-- Lists of references.
use Rattle.std.specs.Prelude.{ℕ, List, [], ◌∷◌, map, Option, Some, None}
use Rattle.std.specs.Borrow.{Bor}
use Rattle.jz_tree.specs.declared.expr.Var.{Var}
use Rattle.jz_tree.specs.Span.{Span}
use Rattle.jz_type_names.specs.Scopes.{Name, name_of}

-- what the references of a list refer to
abbrev pub these : {A : Type 0} → List (Bor A) → List A
these xs = map (λ x. x.now) xs

-- what one reference refers to, if there is one
abbrev pub this : {A : Type 0} → Option (Bor A) → List A
this None = []
this (Some x) = x.now ∷ []

abbrev pub paired_lists : {A B : Type 0} → List (Bor A × Bor B) → List (A × B)
paired_lists xs = map (λ x. (x.0.now, x.1.now)) xs

-- the names of the variables that references refer to, each with its place
abbrev pub var_names : List (Bor Var) → List Name
var_names vs = map name_of (these vs)

-- a name that a reference refers to, with its place, if there is one
abbrev pub call_of : Option (Bor (List ℕ) × Span) → List Name
call_of None = []
call_of (Some c) = (c.0.now, c.1) ∷ []
