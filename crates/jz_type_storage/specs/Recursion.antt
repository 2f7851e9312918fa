-- Recursion: no function reaches itself. Ranks of functions show that none does.
use Rattle.std.specs.Prelude.{◌≡◌, ◌<◌, ℕ, List, length, flat_map, Option, Some, None, Contains, slice_get, slice_index_or}
use Rattle.jz_tree.specs.Span.{Span}
use Rattle.jz_tree.specs.declared.program.Program.{Program}
use Rattle.jz_tree.specs.declared.program.Fun.{Fun}
use Rattle.jz_type_names.specs.Scopes.{Name, function_named}
use Rattle.jz_type_names.specs.Order.{IsEarliest}
use Rattle.jz_type_names.specs.Parts.{called_by, statements_of, layer_of}
use Rattle.jz_type_storage.specs.Numbers.{number_named, AreBelow}
use Rattle.jz_type_storage.specs.declared.recursion.Ranking.{Ranking}
use Rattle.jz_type_storage.specs.declared.recursion.Ranking.TheVariants.{Ranked, Recursive}

-- what stands in the body of a function as a call
abbrev pub callees : Fun → List Name
callees f = flat_map (λ s. called_by (layer_of s)) (statements_of f.body)

-- a call in f is one of g
abbrev pub Calls : Program → Fun → Fun → Type 0
Calls p f g = (n : Name) × Contains (callees f) n × (function_named n.0 p.funs ≡ Some g)

-- by one or more calls
pub data Reaches (p : Program) : Fun → Fun → Type 0 where
  calls : {f g : Fun} → Calls p f g → Reaches p f g
  further : {f g h : Fun} → Reaches p f g → Calls p g h → Reaches p f h

pub record IsRecursive (p : Program) (at : Span) : Type 0 where
  pub function : Fun
  pub among : Contains p.funs function
  pub place : function.span ≡ at
  pub reaches : Reaches p function function

-- a call in the function at i is of the function at j, which is the first of its name
pub record CallsAt (p : Program) (i j : ℕ) : Type 0 where
  pub caller : Fun
  pub there : slice_get p.funs i ≡ Some caller
  pub name : Name
  pub among : Contains (callees caller) name
  pub numbered : number_named name.0 p.funs ≡ Some j

-- a rank for each function, below the number of functions; a function that is called has a lower
-- rank than the one that calls it
pub record IsRanked (p : Program) (ranks : List ℕ) : Type 0 where
  pub same : length ranks ≡ length p.funs
  pub below : AreBelow ranks (length p.funs)
  pub falls : (i j : ℕ) → CallsAt p i j → slice_index_or ranks j 0 < slice_index_or ranks i 0

-- ranks, and no function reaches itself; or that is the earliest name of one that does
abbrev pub Tells : Program → Ranking → Type 0
Tells p (Ranked ranks) = IsRanked p ranks × IsEarliest (IsRecursive p) None
Tells p (Recursive at) = IsEarliest (IsRecursive p) (Some at)

-- the name of the function that reaches itself, if there is one
abbrev pub recursive_of : Ranking → Option Span
recursive_of (Ranked ranks) = None
recursive_of (Recursive at) = Some at
