-- The law of placing: runs of a body over variables, and of its instructions.
use Rattle.std.proofs.Common.{◌≡◌, ℕ, Bool, ◌∙◌}
use Rattle.std.specs.Prelude.{Some, None}
use Rattle.jz_words.specs.Memory.{Memory}
use Rattle.x64_insn.specs.declared.types.Place.{Place}
use Rattle.jz_ir.specs.Tree as ir
use Rattle.jz_live.specs.Lives.{live_before}
use Rattle.jz_leak.specs.RunLeaks.{Leak}
use Rattle.jz_runs.specs.Trees.{done, op, quiet, choose, loop, each, call}
use Rattle.jz_runs.specs.Rules.{Outcome, Goes}
use Rattle.jz_operations.specs.declared.operation.Condition.TheVariants as condition
use Rattle.jz_operations.specs.Values.{State}
use Rattle.jz_operations.specs.Rows.{Frame}
use Rattle.jz_operations.specs.Reading.{seen_of}
use Rattle.jz_operations.specs.Frames.{IsLaid}
use Rattle.jz_placing.specs.Instructions.{Machine, instructions}
use Rattle.jz_placing.specs.Variables.{Asked, always, asks, Body, variables, test_of}
use Rattle.jz_placing.specs.Flow.{asked_op, flow}
use Rattle.jz_placing.specs.Following.{Follows}
use Rattle.jz_placing.specs.Placing.{code_of, leak_of, numbers, test_numbers, IsMetTest, Asks, AreMet, StandsBeside}
use Rattle.jz_placing.proofs.Runs.{OneTest, IsFollowed, follow}
use Rattle.jz_placing.proofs.Machine.{agrees_less, put_op, put_test, one_op, always_test, compared_test, flag_test}

module _ (frame : Frame) (places : ℕ → Place) (slots : ℕ → ℕ) (end low : ℕ) (laid : IsLaid frame slots end) (r0 m0 : Memory) where
  abbrev A : (ℕ → Bool) → State → Machine → Type 0
  A = StandsBeside places frame slots end low r0 m0

  loop_test : (c : Asked) (on off : ℕ → Bool) → IsMetTest places c on off → OneTest (variables frame) instructions seen_of test_of (put_op frame places slots end low laid r0 m0) (put_test frame places slots end low laid r0 m0) (numbers slots low) (test_numbers slots low) A (test_of c) c on off
  loop_test always on off h = always_test frame places slots end low laid r0 m0 on off
  loop_test (asks (Some o) (condition.Cc c)) on off h = compared_test frame places slots end low laid r0 m0 o c on off h.placed h.one
  loop_test (asks None (condition.Flag v no')) on off h = flag_test frame places slots end low laid r0 m0 v no' on off
  loop_test (asks (Some o) (condition.Flag v no')) on off h = absurd h
  loop_test (asks None (condition.Cc c)) on off h = absurd h

  if_test : (c : Asked) (on off : ℕ → Bool) → IsMetTest places c on off → Asks c → OneTest (variables frame) instructions seen_of test_of (put_op frame places slots end low laid r0 m0) (put_test frame places slots end low laid r0 m0) (numbers slots low) (test_numbers slots low) A (Some (asked_op (test_of c))) c on off
  if_test always on off h k = absurd k
  if_test (asks (Some o) (condition.Cc c)) on off h k = compared_test frame places slots end low laid r0 m0 o c on off h.placed h.one
  if_test (asks None (condition.Flag v no')) on off h k = flag_test frame places slots end low laid r0 m0 v no' on off
  if_test (asks (Some o) (condition.Flag v no')) on off h k = absurd h
  if_test (asks None (condition.Cc c)) on off h k = absurd h

  followed : (t : Body) (rest : ir.Tree) (behind : ℕ → Bool) → AreMet places t rest behind → IsFollowed (variables frame) instructions seen_of test_of (put_op frame places slots end low laid r0 m0) (put_test frame places slots end low laid r0 m0) (numbers slots low) (test_numbers slots low) A t rest behind
  followed done rest behind h = tt
  followed (op o r) rest behind h = (one_op frame places slots end low laid r0 m0 o _ h.0.placed h.0.one, followed r rest behind h.1)
  followed (quiet o r) rest behind h = ((λ B s s' a. a), followed r rest behind h)
  followed (choose c a b r) rest behind h = (if_test c _ _ h.0 h.1, followed a ir.done _ h.2, followed b ir.done _ h.3, followed r rest behind h.4)
  followed (loop q p c b r) rest behind h = (followed p ir.done _ h.0, loop_test c _ _ h.1, followed b ir.done _ h.2, followed r rest behind h.3)
  followed (each f b r) rest behind h = absurd f
  followed (call c b r) rest behind h = absurd c

  same : (B C : ℕ → Bool) (σ : State) (b : Machine) → ((v : ℕ) → B v ≡ C v) → A B σ b → A C σ b
  same B C σ b e a = agrees_less frame places slots end low laid r0 m0 B C σ b (λ v t. e v ∙ t) a

  pub places_law : (t : Body) (rest : ir.Tree) (behind : ℕ → Bool) (n : ℕ) (σ : State) (o : Outcome State (Unit {0}) Leak) (b : Machine) → AreMet places t rest behind → Goes (variables frame) t n σ o
      → A (λ v. live_before v (flow seen_of test_of t rest) (behind v)) σ b
      → Follows (Goes instructions (code_of places slots t) n b) (A (λ v. live_before v rest (behind v))) (leak_of slots low t) o
  places_law t rest behind n σ o b met g a =
      follow (variables frame) instructions seen_of test_of (put_op frame places slots end low laid r0 m0) (put_test frame places slots end low laid r0 m0) (numbers slots low) (test_numbers slots low) A
      same g rest behind (followed t rest behind met) b a
