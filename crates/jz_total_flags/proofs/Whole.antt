-- Bodies over variables, statement by statement.
use Rattle.std.proofs.Common.{[], ◌∷◌, None, refl}
use Rattle.jz_words.specs.declared.size.Size.TheVariants.{S8}
use Rattle.jz_runs.specs.Trees.{done, op, quiet, choose, loop, each, call}
use Rattle.jz_meaning.specs.Statements as source
use Rattle.jz_meaning.specs.Statements.{Block, assign, instruction}
use Rattle.jz_operations.specs.declared.operation.Action.TheVariants as action
use Rattle.jz_operations.specs.declared.operation.Operation.{Operation}
use Rattle.jz_operations.specs.Rows.{Frame}
use Rattle.jz_placing.specs.Variables.{Body}
use Rattle.jz_change.specs.Changes.{Change, ends, ops, stays_if, stays_while}
use Rattle.jz_pass.specs.Operations.{in_turn}
use Rattle.jz_pass.specs.Unrolling.{Unrolls, u_done, u_op, u_quiet, u_if, u_while}
use Rattle.jz_homes.specs.Homes.{Homes, IsHoming}
use Rattle.jz_row_operations.specs.Codes.{plain}
use Rattle.jz_every_row.specs.Bodies.{lowering, without_marks}
use Rattle.jz_total_flags.specs.Ready.{HasOperations}
use Rattle.jz_total_flags.specs.Bodies.{IsReadyOperation, IsReadyBody, HasPattern, HavePatterns, ReadyBodiesAreLowered}
use Rattle.jz_total_flags.proofs.Assignments.{assignments}
use Rattle.jz_total_flags.proofs.Pairs.{pairs}
use Rattle.jz_total_flags.proofs.Instructions.{instructions}
use Rattle.jz_total_flags.proofs.Tests.{tests_there, loop_tests_there}

pub operations_there : (frame : Frame) (home : Homes) (o : source.Operation) → IsHoming frame home → IsReadyOperation home o → HasPattern o → HasOperations home o
operations_there frame home (assign (d ∷ []) o e c at) homing r p = assignments frame home d o e c at homing r p
operations_there frame home (assign (f ∷ d ∷ []) o e None at) homing r p = pairs frame home f d o e at homing r p
operations_there frame home (instruction to n args at) homing r p = instructions frame home to n args at homing r p
operations_there frame home o homing r p = absurd r

-- any operation stands for a mark
no_operation : Operation
no_operation = plain (record { line = 0; col = 0 }) (action.Bswap S8 0)

record Made (home : Homes) (b : Block) : Type 0 where
  pub marked : Body
  pub change : Change
  pub made : Unrolls (lowering home) b tt done marked tt change

module _ (frame : Frame) (home : Homes) (homing : IsHoming frame home) where
  made_there : (b : Block) → IsReadyBody home b → HavePatterns b → Made home b
  made_there done r p = record { marked = done; change = ends; made = u_done }
  made_there (op o b) r p =
      let k = operations_there frame home o homing r.0 p.0 in
      let m = made_there b r.1 p.1 in
      record { marked = in_turn k.0 m.marked; change = ops k.1 m.change; made = u_op {os = k.0} {is = k.1} k.2 m.made }
  made_there (quiet o b) r p = let m = made_there b r p in record { marked = quiet no_operation m.marked; change = m.change; made = u_quiet tt m.made }
  made_there (choose c a b t) r p =
      let k = tests_there home c r.0 in
      let x = made_there a r.1 p.0 in
      let y = made_there b r.2 p.1 in
      let m = made_there t r.3 p.2 in
      record { marked = choose k.0 x.marked y.marked m.marked; change = stays_if [] k.1 x.change y.change m.change; made = u_if {os = []} {is = []} (refl, refl, k.2) x.made y.made tt tt m.made }
  made_there (loop q before c b t) r p =
      let k = loop_tests_there home c r.0 in
      let x = made_there before r.1 p.0 in
      let y = made_there b r.2 p.1 in
      let m = made_there t r.3 p.2 in
      record { marked = loop q x.marked k.0 y.marked m.marked; change = stays_while x.change [] k.1 y.change m.change; made = u_while {os = []} {is = []} tt (refl, refl, k.2) x.made y.made tt tt m.made }
  made_there (each f b t) r p = absurd r
  made_there (call c b t) r p = absurd r

pub ready_lowered : ReadyBodiesAreLowered
ready_lowered frame home b homing r p = let m = made_there frame home homing b r p in (without_marks m.marked, m.change, record { marked = m.marked; made = m.made; body = refl })
