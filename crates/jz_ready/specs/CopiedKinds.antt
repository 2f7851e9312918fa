-- What the variables of a function are declared to be where its calls are copies of what they call.
use Rattle.std.specs.Prelude.{ℕ, List, [], ◌∷◌, ◌++◌, Option, Some, None, slice_get}
use Rattle.jz_tree.specs.declared.program.Fun.{Fun}
use Rattle.jz_tree.specs.declared.program.Program.{Program}
use Rattle.jz_runs.specs.Trees.{done, op, quiet, choose, loop, each, call}
use Rattle.jz_meaning.specs.declared.access.Kind.{Kind}
use Rattle.jz_meaning.specs.declared.access.Kind.TheVariants as kind
use Rattle.jz_meaning.specs.Statements.{Block}
use Rattle.jz_meaning.specs.Runs.{body_of}
use Rattle.jz_run_laws.specs.Kinds.{Kinds}
use Rattle.jz_typed_runs.specs.TypedTexts.{kinds_in}

-- the functions that are copied, in the order of the copies: those that a body calls stand behind
-- its function
abbrev pub callees_of : Block → List Fun
callees_of done = []
callees_of (op o r) = callees_of r
callees_of (quiet o r) = callees_of r
callees_of (choose p a b r) = callees_of a ++ (callees_of b ++ callees_of r)
callees_of (loop h q p b r) = callees_of q ++ (callees_of b ++ callees_of r)
callees_of (each i b r) = callees_of b ++ callees_of r
callees_of (call q b r) = q.callee ∷ (callees_of b ++ callees_of r)

abbrev pub kind_in : Program → Option Fun → List ℕ → Kind
kind_in p None n = kind.Undeclared
kind_in p (Some f) n = kinds_in p f n 0

-- the function itself is the copy 0
abbrev pub copied_kinds : Program → Fun → Kinds
copied_kinds p f n c = kind_in p (slice_get (f ∷ callees_of (body_of p f)) c) n
