-- A leak holds a cut exactly where its run was cut: of functions, from that of their bodies.
use Rattle.std.proofs.Common.{ℕ, List, subst}
use Rattle.x64_insn.specs.Memory.{Memory}
use Rattle.jz_tree.specs.declared.expr.Var.{Var}
use Rattle.jz_runs.specs.RunLeaks.{Leak}
use Rattle.jz_runs.specs.Cuts.{IsWhole}
use Rattle.jz_runs.specs.Rules.{stuck, went, Outcome, End, Cut, Stuck}
use Rattle.jz_runs.proofs.Held.{held}
use Rattle.jz_meaning.specs.declared.value.Stuck as code
use Rattle.jz_meaning.specs.Attempts.{Evaluation}
use Rattle.jz_meaning.specs.States.{State, Value}
use Rattle.jz_meaning.specs.Statements.{source}
use Rattle.jz_meaning.specs.Runs.{outcome_of_body, outcome_of_words, result_words}
use Rattle.jz_meaning.specs.CutLaws.{HoldsItsCut, BodiesHoldCuts, FunctionsHoldCuts}

words_held : (memory : Memory) (n : ℕ) (l : Leak) (ws : Evaluation (List Value)) → IsWhole l → HoldsItsCut (outcome_of_words memory n l ws)
words_held memory n l (stuck w) h = tt
words_held memory n l (went ns vs) h = h

body_held : (xs : List Var) (o : Outcome State code.Stuck Leak) → HoldsItsCut o → HoldsItsCut (outcome_of_body xs o)
body_held xs (End s n l) h = words_held s.memory n l (result_words xs s.store) h
body_held xs (Cut l) h = h
body_held xs (Stuck w) h = tt

pub bodies_hold_cuts : BodiesHoldCuts
bodies_hold_cuts b n s o g = held source g

pub functions_hold_cuts : FunctionsHoldCuts
functions_hold_cuts p f words memory n o g = subst HoldsItsCut g.gives (body_held f.result g.out (held source g.goes))
