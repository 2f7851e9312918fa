-- What is surely set after a flow, and the earliest read of what is not surely set before it, by
-- sets.
use Rattle.std.specs.Prelude.{ℕ, Bool, not, ◌&&◌, ◌||◌, if◌then◌else◌, List, Option, Some, None}
use Rattle.std.specs.Str.{bytes_eq}
use Rattle.jz_tree.specs.Span.{Span}
use Rattle.jz_type_names.specs.Scopes.{Name}
use Rattle.jz_type_names.specs.Order.{earlier}
use Rattle.jz_type_storage.specs.Paths.{Event, Reads, Sets, Flow, Skip, Does, Then, Either, Repeat}

-- a set of names, as a test
abbrev pub Names : Type 0
Names = List ℕ → Bool

abbrev pub having : List ℕ → Names → Names
having m s n = s n || bytes_eq n m

abbrev pub both : Names → Names → Names
both s t n = s n && t n

-- which names are asked
module _ (asked : Names) where
  abbrev pub put : List ℕ → Names → Names
  put m s = if asked m then having m s else s

  abbrev pub missing : Name → Names → Option Span
  missing n s = if asked n.0 && not (s n.0) then Some n.1 else None

  abbrev pub after_event : Event → Names → Names
  after_event (Reads n) s = s
  after_event (Sets m) s = put m s

  abbrev pub first_event : Event → Names → Option Span
  first_event (Reads n) s = missing n s
  first_event (Sets m) s = None

  -- what is surely set after it
  abbrev pub after : Flow → Names → Names
  after Skip s = s
  after (Does e) s = after_event e s
  after (Then a b) s = after b (after a s)
  after (Either a b) s = both (after a s) (after b s)
  after (Repeat a) s = s

  -- the earliest read of what is not
  abbrev pub first : Flow → Names → Option Span
  first Skip s = None
  first (Does e) s = first_event e s
  first (Then a b) s = earlier (first a s) (first b (after a s))
  first (Either a b) s = earlier (first a s) (first b s)
  first (Repeat a) s = first a s
