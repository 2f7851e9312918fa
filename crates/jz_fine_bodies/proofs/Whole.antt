-- Each statement and each test of a body.
use Rattle.std.proofs.Common.{◌≡◌, Bool, [], ◌∷◌, Option, Some, None}
use Rattle.std.proofs.lemmas.List.Elements.{All-head, All-tail}
use Rattle.jz_tree.specs.declared.expr.Expr.{Expr}
use Rattle.jz_tree.specs.declared.stmt.Lval.{Lval}
use Rattle.jz_runs.specs.Trees.{done, op, quiet, choose, loop, each, call}
use Rattle.jz_meaning.specs.States.{Key}
use Rattle.jz_meaning.specs.Statements.{Operation, assign, instruction, unset, meaningless, Condition, Block}
use Rattle.jz_run_laws.specs.Kinds.{Kinds}
use Rattle.jz_flow.specs.Soundness.{AllAre}
use Rattle.jz_limits.specs.Values.{no_numbers}
use Rattle.jz_limits.specs.Asked.{asked}
use Rattle.jz_kept_types.specs.Operations.{IsTyped, IsTypedTest, IsTypedBody}
use Rattle.jz_fine_rows.specs.RowClasses.{IsClassed, IsClassedTest, IsClassedBody}
use Rattle.jz_fact_runs.specs.Fine.{IsFine, IsFineTest}
use Rattle.jz_fine_rows.specs.Plain.{IsPlainLeft}
use Rattle.jz_fine_rows.proofs.Answers.{answer_there}
use Rattle.jz_plain_expansions.specs.PlainExpansions.{IfPlain, ArePlain, IsMarkPlain, IsPlainTest, IsPlainBody, IsWithinBody}
use Rattle.jz_fine_rows.specs.Prepared as rows
use Rattle.jz_fine_rows.proofs.Assigned.{assignments_are_fine}
use Rattle.jz_fine_results.proofs.Pairs.{pairs_are_fine}
use Rattle.jz_fine_results.proofs.Instructions.{instructions_are_fine}
use Rattle.jz_fine_bodies.specs.FineBodies.{BodiesAreFine}
use Rattle.jz_fine_bodies.proofs.Within.{instruction_fits}

module _ (kinds : Kinds) (in_frame : Key → Bool) where
  abbrev L : Lval → Type 0
  L d = IsPlainLeft kinds in_frame d

  if_plain : (c : Option Expr) → IfPlain kinds in_frame c → rows.IfPlain kinds in_frame c
  if_plain None h = tt
  if_plain (Some e) h = h

  operation_fine : (o : Operation) → ArePlain kinds in_frame o → IsTyped o → IsClassed o → asked no_numbers o ≡ [] → IsFine kinds in_frame o
  operation_fine (assign [] o e c at) p t r w = absurd r
  operation_fine (assign (d ∷ []) o e c at) p t r w =
      assignments_are_fine kinds in_frame d o e c at
      (record { left = All-head L d [] p.0; right = p.1; condition = if_plain c p.2; typed = t.0; typed_condition = t.1; classes = r; within = w })
  operation_fine (assign (b ∷ d ∷ []) o e None at) p t r w =
      pairs_are_fine kinds in_frame b d o e (All-head L b (d ∷ []) p.0) (All-head L d [] (All-tail L b (d ∷ []) p.0)) p.1 t.0 r
  operation_fine (assign (b ∷ d ∷ []) o e (Some c) at) p t r w = absurd r
  operation_fine (assign (a ∷ b ∷ d ∷ ds) o e c at) p t r w = absurd r
  operation_fine (instruction to n args at) p t r w = instructions_are_fine kinds in_frame to n args p.0 p.1 (instruction_fits to n args at w) t r
  operation_fine (unset xs) p t r w = absurd p
  operation_fine (meaningless at) p t r w = absurd p

  test_fine : (t : Condition) → IsPlainTest kinds in_frame t → IsTypedTest t → IsClassedTest t → IsFineTest kinds in_frame t
  test_fine t p h r = answer_there kinds in_frame t.cond p h r

  mark_fine : (o : Operation) → IsMarkPlain kinds in_frame o → IsFine kinds in_frame o
  mark_fine (unset xs) p = p
  mark_fine (assign to o e c at) p = absurd p
  mark_fine (instruction to n args at) p = absurd p
  mark_fine (meaningless at) p = absurd p

  all_fine : (b : Block) → IsPlainBody kinds in_frame b → IsTypedBody b → IsClassedBody b → IsWithinBody b → AllAre (IsFine kinds in_frame) (IsFineTest kinds in_frame) b
  all_fine done p t r w = tt
  all_fine (op o b) p t r w = (operation_fine o p.0 t.0 r.0 w.0, all_fine b p.1 t.1 r.1 w.1)
  all_fine (quiet o b) p t r w = (mark_fine o p.0, all_fine b p.1 t r w)
  all_fine (choose c x y b) p t r w =
      (test_fine c p.0 t.0 r.0, all_fine x p.1 t.1 r.1 w.1, all_fine y p.2 t.2 r.2 w.2, all_fine b p.3 t.3 r.3 w.3)
  all_fine (loop h q c x b) p t r w =
      (test_fine c p.0 t.0 r.0, all_fine q p.1 t.1 r.1 w.1, all_fine x p.2 t.2 r.2 w.2, all_fine b p.3 t.3 r.3 w.3)
  all_fine (each i x b) p t r w = absurd p
  all_fine (call c x b) p t r w = absurd p

pub bodies_are_fine : BodiesAreFine
bodies_are_fine kinds in_frame b p t r w = all_fine kinds in_frame b p t r w
