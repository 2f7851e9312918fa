-- Bodies whose assignments to one left side or to two have rows, and whose intrinsics.
use Rattle.std.specs.Prelude.{◌≡◌, false, [], ◌∷◌, None, ⊤}
use Rattle.jz_type_rows.specs.Matching.{sets_inline}
use Rattle.jz_runs.specs.Trees.{done, op, quiet, choose, loop, each, call}
use Rattle.jz_meaning.specs.Statements.{Operation, assign, instruction, Block}
use Rattle.jz_kept_patterns.proofs.Selecting.{AlwaysMatches, PairAlways, InstructionAlways}

-- what sets one inline variable alone needs none
abbrev pub IfRow : Operation → Type 0
IfRow (assign (d ∷ []) o e c at) = sets_inline (d ∷ []) c ≡ false → AlwaysMatches d o e c
IfRow (assign (f ∷ d ∷ []) o e None at) = PairAlways f d o e
IfRow (instruction to n args at) = InstructionAlways to n args
IfRow _ = ⊤

abbrev pub IfRows : Block → Type 0
IfRows done = ⊤
IfRows (op o r) = IfRow o × IfRows r
IfRows (quiet o r) = IfRows r
IfRows (choose c a b r) = IfRows a × IfRows b × IfRows r
IfRows (loop h q c b r) = IfRows q × IfRows b × IfRows r
IfRows (each i b r) = IfRows b × IfRows r
IfRows (call c b r) = IfRows b × IfRows r

abbrev pub HasRow : Operation → Type 0
HasRow (assign (d ∷ []) o e c at) = AlwaysMatches d o e c
HasRow (assign (f ∷ d ∷ []) o e None at) = PairAlways f d o e
HasRow (instruction to n args at) = InstructionAlways to n args
HasRow _ = ⊤

abbrev pub HaveRows : Block → Type 0
HaveRows done = ⊤
HaveRows (op o r) = HasRow o × HaveRows r
HaveRows (quiet o r) = HaveRows r
HaveRows (choose c a b r) = HaveRows a × HaveRows b × HaveRows r
HaveRows (loop h q c b r) = HaveRows q × HaveRows b × HaveRows r
HaveRows (each i b r) = HaveRows b × HaveRows r
HaveRows (call c b r) = HaveRows b × HaveRows r
