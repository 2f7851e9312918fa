-- What a body has to be, whatever places its variables get.
use Rattle.std.specs.Prelude.{◌≡◌, ◌<◌, ℕ, List, Some, None, IsTrue, IsFalse, length, slice_index_or, ⊤}
use Rattle.x64_insn.specs.declared.types.Place.TheVariants as place
use Rattle.x64_insn.specs.declared.types.Reg.TheVariants as reg
use Rattle.jz_ir.specs.declared.code.Kind.{Kind}
use Rattle.jz_ir.specs.declared.code.Kind.TheVariants.{Word}
use Rattle.jz_ir.specs.Order.{number_of, has_place}
use Rattle.jz_ir.specs.Paths.{among}
use Rattle.jz_runs.specs.Trees.{done, op, quiet, choose, loop, each, call}
use Rattle.jz_operations.specs.declared.operation.Condition.TheVariants as condition
use Rattle.jz_operations.specs.declared.operation.Operation.{Operation}
use Rattle.jz_operations.specs.Rows.{outputs, accesses}
use Rattle.jz_operations.specs.Reading.{fixed_of, written_in}
use Rattle.jz_placing.specs.Variables.{Asked, always, asks, Body}
use Rattle.jz_placing.specs.Placing.{HasOneAccess, Asks}

module _ (kinds : List Kind) where
  -- the words that it writes are variables for words, it leaves nothing in the stack pointer, and
  -- accesses memory or a cell once at most
  pub record IsSorted (o : Operation) : Type 0 where
    pub words : (v : ℕ) → IsTrue (among (written_in (outputs o.action)) v)
        → (v < length kinds) × (slice_index_or kinds v Word ≡ Word)
    pub stack : IsFalse (has_place (fixed_of o) (number_of (place.Reg reg.Rsp)))
    pub one : HasOneAccess (accesses o.action)

  -- a test is a condition behind an operation, or a flag that is a variable
  abbrev pub TestSorted : Asked → Type 0
  TestSorted always = ⊤
  TestSorted (asks (Some o) (condition.Cc c)) = IsSorted o
  TestSorted (asks None (condition.Flag v no')) = ⊤
  TestSorted _ = ⊥

  abbrev pub AreSorted : Body → Type 0
  AreSorted done = ⊤
  AreSorted (op o r) = IsSorted o × AreSorted r
  AreSorted (quiet o r) = AreSorted r
  AreSorted (choose c a b r) = TestSorted c × Asks c × AreSorted a × AreSorted b × AreSorted r
  AreSorted (loop q p c b r) = AreSorted p × TestSorted c × AreSorted b × AreSorted r
  AreSorted (each f b r) = absurd f
  AreSorted (call c b r) = absurd c
