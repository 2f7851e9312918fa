-- Trees that have assignments and instructions alone: nothing in them is without a meaning.
use Rattle.jz_runs.specs.Trees.{done, op, quiet, choose, loop, each, call}
use Rattle.jz_meaning.specs.Statements.{Operation, assign, instruction, unset, meaningless, Block}
use Rattle.jz_run_laws.specs.Kinds.{Kinds}
use Rattle.jz_scalars.specs.Ready.{IsReady}
use Rattle.jz_one_expansion.proofs.ScalarTrees.{tree_made}

abbrev pub IsSpoken : Operation → Type 0
IsSpoken (assign to o e c at) = Unit {0}
IsSpoken (instruction to n args at) = Unit {0}
IsSpoken (unset xs) = ⊥
IsSpoken (meaningless at) = ⊥

abbrev pub AreSpoken : Block → Type 0
AreSpoken done = Unit {0}
AreSpoken (op o r) = IsSpoken o × AreSpoken r
AreSpoken (quiet o r) = AreSpoken r
AreSpoken (choose c a b r) = AreSpoken a × AreSpoken b × AreSpoken r
AreSpoken (loop w p c b r) = AreSpoken p × AreSpoken b × AreSpoken r
AreSpoken (each f b r) = ⊥
AreSpoken (call c b r) = ⊥

-- what is ready for scalars is so
pub ready_spoken : (kinds : Kinds) (t : Block) → IsReady kinds t → AreSpoken t
ready_spoken kinds done h = tt
ready_spoken kinds (op (assign to o e c at) r) h = (tt, ready_spoken kinds r h.1)
ready_spoken kinds (op (instruction to n args at) r) h = (tt, ready_spoken kinds r h.1)
ready_spoken kinds (op (unset xs) r) h = absurd h.0
ready_spoken kinds (op (meaningless at) r) h = absurd h.0
ready_spoken kinds (quiet o r) h = ready_spoken kinds r h
ready_spoken kinds (choose c a b r) h =
    (ready_spoken kinds a h.1, ready_spoken kinds b h.2, ready_spoken kinds r h.3)
ready_spoken kinds (loop w p c b r) h =
    (ready_spoken kinds p h.1, ready_spoken kinds b h.2, ready_spoken kinds r h.3)
ready_spoken kinds (each f b r) h = absurd h
ready_spoken kinds (call c b r) h = absurd h

-- and stays so
pub made_spoken : (t : Block) → AreSpoken t → AreSpoken (tree_made t)
unfolding tree_made
made_spoken done h = tt
made_spoken (op (assign to o e c at) r) h = (tt, made_spoken r h.1)
made_spoken (op (instruction to n args at) r) h = (tt, made_spoken r h.1)
made_spoken (op (unset xs) r) h = absurd h.0
made_spoken (op (meaningless at) r) h = absurd h.0
made_spoken (quiet o r) h = made_spoken r h
made_spoken (choose c a b r) h = (made_spoken a h.0, made_spoken b h.1, made_spoken r h.2)
made_spoken (loop w p c b r) h = (made_spoken p h.0, made_spoken b h.1, made_spoken r h.2)
made_spoken (each f b r) h = absurd h
made_spoken (call c b r) h = absurd h
