-- The inline variables of a function whose calls are copies of what they call.
use Rattle.std.specs.Prelude.{ℕ, suc, ◌+◌, ◌≡◌, List, ⊤}
use Rattle.jz_runs.specs.Trees.{done, op, quiet, choose, loop, each, call}
use Rattle.jz_meaning.specs.Statements.{Block}
use Rattle.jz_pass.specs.Copying.{copies}
use Rattle.jz_unroll.specs.Values.{InlineNames}
use Rattle.jz_unrolling_laws.specs.CalledBodies.{inlines_of}

-- in a tree whose copies have the numbers from c on, in each copy those of the function that is
-- called
abbrev pub HasNames : InlineNames → ℕ → Block → Type 0
HasNames names c done = ⊤
HasNames names c (op o r) = HasNames names c r
HasNames names c (quiet o r) = HasNames names c r
HasNames names c (choose p a b r) =
    HasNames names c a × HasNames names (c + copies a) b
    × HasNames names (c + copies a + copies b) r
HasNames names c (loop h q p b r) =
    HasNames names c q × HasNames names (c + copies q) b
    × HasNames names (c + copies q + copies b) r
HasNames names c (each f b r) = HasNames names c b × HasNames names (c + copies b) r
HasNames names c (call q b r) =
    ((n : List ℕ) → names n c ≡ inlines_of q.callee n) × HasNames names (suc c) b
    × HasNames names (suc c + copies b) r
