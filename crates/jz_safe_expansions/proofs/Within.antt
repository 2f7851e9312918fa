-- Both notions of a body within the limits.
use Rattle.jz_runs.specs.Trees.{done, op, quiet, choose, loop, each, call}
use Rattle.jz_meaning.specs.Statements.{Block}
use Rattle.jz_expanded_heads.specs.PlainExpansions.{IsWithinBody}
use Rattle.jz_expanded_limits.specs.WithinBodies as limits

-- a body within the limits
pub within_so : (b : Block) → limits.IsWithinBody b → IsWithinBody b
within_so done w = tt
within_so (op o r) w = (w.0, within_so r w.1)
within_so (quiet o r) w = within_so r w
within_so (choose t a b r) w = (w.0, within_so a w.1, within_so b w.2, within_so r w.3)
within_so (loop h q t b r) w = (w.0, within_so q w.1, within_so b w.2, within_so r w.3)
within_so (each i b r) w = (within_so b w.0, within_so r w.1)
within_so (call c b r) w = absurd w
