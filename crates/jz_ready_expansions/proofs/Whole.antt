-- Typing, limits and parts of each statement, together.
use Rattle.std.proofs.Common.{◌≡◌, true, [], ◌∷◌, Some, None, inl, inr}
use Rattle.std.specs.Prelude.{◌⊎◌}
use Rattle.jz_runs.specs.Trees.{done, op, quiet, choose, loop, each, call}
use Rattle.jz_meaning.specs.Statements.{Operation, assign, instruction, unset, meaningless, Condition, Block}
use Rattle.jz_function_runs.specs.FunctionRuns.{plain_body}
use Rattle.jz_homes.specs.Homes.{Homes}
use Rattle.jz_kept_types.specs.Operations.{IsTyped, IsTypedTest, IsTypedBody}
use Rattle.jz_select.specs.Look.{look_of}
use Rattle.jz_select.specs.Shapes.{has_flags}
use Rattle.jz_row_laws.proofs.Booleans.{or_parts}
use Rattle.jz_row_classes.specs.RowClasses.{IsClassed, IsClassedTest, IsClassedBody}
use Rattle.jz_total_rows.proofs.InlineValues.{condition_truth}
use Rattle.jz_total_flags.specs.Ready.{IsReadyCondition, IsReadyLoopTest}
use Rattle.jz_total_flags.specs.Bodies.{IsReadyOperation, IsReadyBody}
use Rattle.jz_expanded_types.proofs.Expanded.{expansions_are_typed}
use Rattle.jz_expanded_classes.proofs.Whole.{expansions_are_classed}
use Rattle.jz_expanded_limits.specs.WithinBodies.{IsWithin, IsWithinTest, IsWithinBody}
use Rattle.jz_expanded_limits.proofs.Whole.{expansions_are_within}
use Rattle.jz_ready_expansions.specs.ExpandedBodies.{IsExpandedOperation, IsExpandedTest, IsExpandedLoopTest, IsExpandedBody}
use Rattle.jz_ready_expansions.specs.ReadyExpansions.{ExpansionsAreReady}

module _ (home : Homes) where
  ready_operation : (o : Operation) → IsTyped o → IsWithin o → IsClassed o → IsExpandedOperation home o → IsReadyOperation home o
  ready_operation (assign [] o e c at) t w m x = absurd m
  ready_operation (assign (d ∷ []) o e c at) t w m x = record { left = x.0; right = x.1; condition = x.2; typed = t.0; typed_condition = t.1; within = w }
  ready_operation (assign (f ∷ d ∷ []) o e None at) t w m x = record { first = x.0; second = x.1; right = x.2; typed = t.0; within = w }
  ready_operation (assign (f ∷ d ∷ []) o e (Some c) at) t w m x = absurd m
  ready_operation (assign (f ∷ d ∷ y ∷ ds) o e c at) t w m x = absurd m
  ready_operation (instruction to n args at) t w m x = record { lefts = x.0; operands = x.1; typed = t; within = w }
  ready_operation (unset vs) t w m x = absurd x
  ready_operation (meaningless at) t w m x = absurd m

  ready_test : (c : Condition) → IsTypedTest c → IsWithinTest c → IsClassedTest c → IsExpandedTest home c.cond → IsReadyCondition home c.cond
  ready_test c t w m x = record { expanded = x.0; typed = t; matches = flags (or_parts (has_flags c.cond) (look_of c.cond).condition m); within = w }
    where
      flags : (has_flags c.cond ≡ true) ⊎ ((look_of c.cond).condition ≡ true) → has_flags c.cond ≡ true
      flags (inl h) = h
      flags (inr h) = let k = condition_truth home c.cond x.0 h in absurd (x.1 k.0 k.1 k.2)

  ready_loop_test : (c : Condition) → IsTypedTest c → IsWithinTest c → IsClassedTest c → IsExpandedLoopTest home c.cond → IsReadyLoopTest home c.cond
  ready_loop_test c t w m (inl x) = inl (ready_test c t w m x)
  ready_loop_test c t w m (inr x) = inr x

  pub ready_body : (b : Block) → IsTypedBody b → IsWithinBody b → IsClassedBody b → IsExpandedBody home b → IsReadyBody home b
  ready_body done t w m x = tt
  ready_body (op o r) t w m x = (ready_operation o t.0 w.0 m.0 x.0, ready_body r t.1 w.1 m.1 x.1)
  ready_body (quiet o r) t w m x = ready_body r t w m x
  ready_body (choose c a b r) t w m x =
      (ready_test c t.0 w.0 m.0 x.0, ready_body a t.1 w.1 m.1 x.1, ready_body b t.2 w.2 m.2 x.2, ready_body r t.3 w.3 m.3 x.3)
  ready_body (loop h q c b r) t w m x =
      (ready_loop_test c t.0 w.0 m.0 x.0, ready_body q t.1 w.1 m.1 x.1, ready_body b t.2 w.2 m.2 x.2, ready_body r t.3 w.3 m.3 x.3)
  ready_body (each i b r) t w m x = absurd x
  ready_body (call c b r) t w m x = absurd x

pub expansions_are_ready : ExpansionsAreReady
expansions_are_ready p f g k count home typed text has exported x parts =
    ready_body home (plain_body g) (expansions_are_typed p f g k count typed text has x) (expansions_are_within p f g k count typed text has exported x) (expansions_are_classed p f g k count typed text has x) parts
