-- What the code borrows from the text.
use Rattle.std.specs.Prelude.{ℕ}
use Rattle.jz_tree.specs.Span.{Span}
use Rattle.jz_meaning.specs.Statements.{Counter}
use Rattle.jz_meaning.specs.Runs.{Callees, callees_of}
use Rattle.jz_copies.specs.declared.callable.Callable.{Callable}
use Rattle.jz_first_limit.specs.declared.turns.Counter as borrowed

-- the functions that can be called where calls may be so deep
abbrev pub callees_in : Callable → ℕ → Callees
callees_in callable left = callees_of callable.funs.now left

abbrev pub counter_at : borrowed.Counter → Span → Counter
counter_at c at =
    record { counter = c.counter.now; from = c.from.now; down = c.down; to = c.to.now; at = at }
