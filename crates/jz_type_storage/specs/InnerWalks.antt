-- Names that are set, as a list, and what a walk over a flow makes of them.
use Rattle.std.specs.Prelude.{ℕ, ◌≤◌, ◌≡◌, List, ◌++◌, length, take, Option, Result, IfOk}
use Rattle.std.specs.List.{list_any}
use Rattle.std.specs.Str.{bytes_eq}
use Rattle.jz_tree.specs.Span.{Span}
use Rattle.jz_type_storage.specs.declared.walk.Assigned.{Assigned}
use Rattle.jz_type_storage.specs.Paths.{Flow, assigning, flow_step}
use Rattle.jz_type_storage.specs.InnerSurely.{Names, having, both, put, after, first}
use Rattle.jz_tree.specs.declared.stmt.StmtKind.{StmtKind}
use Rattle.jz_tree.specs.declared.stmt.StmtKind.TheFolds.{fold-StmtKind}

-- the names in a list
unfoldable pub members : List (List ℕ) → Names
members ks n = list_any (bytes_eq n) ks

-- what an assignment does
abbrev pub flow_of_assigned : Assigned → Flow
flow_of_assigned a = assigning a.to.now a.op.now a.rhs.now a.cond.now

-- the earliest read along a flow of a name that is asked and not surely set, where names are set
-- before
abbrev pub unset_read : List (List ℕ) → Flow → List (List ℕ) → Option Span
unset_read asked g set = first (members asked) g (members set)

-- that read was found, unless memory was short
abbrev pub FindsUnset : {E : Type 0} → Result (Option Span) E → List (List ℕ) → Flow → List (List ℕ) → Type 0
FindsUnset result asked g set = IfOk result (λ at. at ≡ unset_read asked g set)

-- the second list begins with the first
pub record Grows (old new : List (List ℕ)) : Type 0 where
  pub within : length old ≤ length new
  pub keeps : take (length old) new ≡ old

-- the walk found the earliest read of what is not surely set, and added what the flow surely sets
pub record Walks (asked : Names) (g : Flow) (old : List (List ℕ)) (found : Option Span) (new : List (List ℕ)) : Type 0 where
  pub first : found ≡ first asked g (members old)
  pub after : members new ≡ after asked g (members old)
  pub grows : Grows old new

-- the walk was done, unless memory was short
abbrev pub HasWalked : {E : Type 0} → Result (Option Span) E
    → List (List ℕ) → Flow → List (List ℕ) → List (List ℕ) → Type 0
HasWalked result asked g old new = IfOk result (λ found. Walks (members asked) g old found new)

-- one name was added
pub record Adds (old : List (List ℕ)) (m : List ℕ) (new : List (List ℕ)) : Type 0 where
  pub has : members new ≡ having m (members old)
  pub grows : Grows old new

-- one name was added, where it is asked
pub record Puts (asked : Names) (old : List (List ℕ)) (m : List ℕ) (new : List (List ℕ)) : Type 0 where
  pub has : members new ≡ put asked m (members old)
  pub grows : Grows old new

-- several names were added
pub record AddsAll (old ms new : List (List ℕ)) : Type 0 where
  pub has : members new ≡ members (old ++ ms)
  pub grows : Grows old new

-- to the names at the beginning of the second list were added those of the first list that the
-- second has
pub record Joins (start first second new : List (List ℕ)) : Type 0 where
  pub has : Grows start second → members new ≡ both (members (start ++ first)) (members second)
  pub grows : Grows start new

abbrev pub flow_of_kind : StmtKind → Flow
flow_of_kind = fold-StmtKind Flow Flow flow_step (λ s. s.kind)
