-- A function over variables keeps the runs, and is what the placing of variables asks.
use Rattle.std.proofs.Common.{◌≡◌, ℕ, ◌*◌, ◌^◌, ◌<◌, ◌≤◌, List, length, map, sym, ap, subst, arith}
use Rattle.std.specs.Prelude.{◌⊎◌}
use Rattle.std.proofs.Common.{inl, inr}
use Rattle.std.proofs.lemmas.Bool.{cases_lt}
use Rattle.x64_insn.specs.declared.types.Place.{Place}
use Rattle.jz_tree.specs.declared.program.Fun.{Fun}
use Rattle.jz_type_names.specs.Scopes.{variables_of}
use Rattle.jz_meaning.specs.Runs.{block}
use Rattle.jz_change.specs.Changes.{Change}
use Rattle.jz_change.specs.Views.{change_of}
use Rattle.jz_correct.specs.Registers.{argument_registers, result_registers}
use Rattle.jz_place.specs.declared.tree.Passed.{Passed}
use Rattle.jz_place.specs.Bodies.{body_of}
use Rattle.jz_codable.specs.Ready.{parts_of, IsShort}
use Rattle.jz_homes.specs.Homes.{IsHoming}
use Rattle.jz_every_row.specs.Bodies.{IsLowered}
use Rattle.jz_every_row.proofs.Bodies.{bodies_carry, bodies_have_cases}
use Rattle.jz_lowered.specs.Functions.{ArePassed, AreKinds}
use Rattle.jz_lowered.proofs.Coded.{functions_ready}
use Rattle.jz_meaning.specs.Lengths.{statements_in}
use Rattle.jz_short.proofs.Thrice.{thrice}
use Rattle.jz_operands.specs.TableHomes.{homes_by, homes_of}
use Rattle.jz_homing.specs.declared.homing.Homing.{Homing}
use Rattle.jz_homing.specs.Tables.{Table, table_in, no_homes, frame_of}
use Rattle.jz_homing.proofs.EntryLemmas.{none_entered, all_entered}
use Rattle.jz_homing.proofs.HomingLemmas.{table_is_homing, table_has_kinds}
use Rattle.jz_lowering.specs.declared.functions.LoweredFun.{LoweredFun}
use Rattle.jz_lowering.specs.declared.parts.Lowered.{Lowered}
use Rattle.jz_lowering.specs.Becoming.{no_callees, Becomes}
use Rattle.jz_lowering.proofs.BecomingLemmas.{alone}
use Rattle.jz_lowering.proofs.CodeOfParts.{ready_code, lowered_code, never_both}
use Rattle.jz_lowering.proofs.FormLemmas.{plain_formed}
use Rattle.jz_lowering.specs.Parts.{parts_in}
use Rattle.jz_lowering.specs.Laws.{ReadyFunctionsHaveCode, LoweredFunctionsHaveCode}
use Rattle.jz_lowering.specs.Functions.{plain_body, table_of, homes_for, all_places, IsFunctionLowered, KeepsRuns, KeepsCases, IsReadyFun}

homing_for : (f : Fun) → IsHoming (frame_of (table_of f).stack) (homes_for f)
homing_for f = table_is_homing (table_of f) (all_entered no_homes (variables_of f) none_entered)

kinds_for : (f : Fun) → AreKinds (homes_for f) (table_of f).kinds
kinds_for f = table_has_kinds (table_of f) (all_entered no_homes (variables_of f) none_entered)

pub keeps_runs : (f : Fun) (l : LoweredFun) (k : Change) → IsFunctionLowered f l k → KeepsRuns f l k
keeps_runs f l k h places met =
    bodies_carry places (frame_of l.stack) (homes_for f) (subst (λ s. IsHoming (frame_of s) (homes_for f)) (sym h.stack) (homing_for f)) (plain_body f) (body_of l.ir.body) k h.lowered.body met

pub keeps_cases : (f : Fun) (l : LoweredFun) (k : Change) → IsFunctionLowered f l k → KeepsCases f l k
keeps_cases f l k h = bodies_have_cases (homes_for f) (plain_body f) (body_of l.ir.body) k h.lowered.body

pub is_ready : (f : Fun) (l : LoweredFun) (k : Change) → IsFunctionLowered f l k → IsShort l.ir → IsReadyFun l
is_ready f l k h short = functions_ready (homes_for f) f (plain_body f) l.ir k h.lowered (plain_formed f) short

at_most_long : (a b : ℕ) → a ≤ 3 * b → b < 2 ^ 24 → a < 2 ^ 26
at_most_long a b e f = omega (arith, e, f)

-- what is not short is long in the source too, or has many variables
pub is_long : (f : Fun) (l : LoweredFun) (k : Change) → IsFunctionLowered f l k → (IsShort l.ir → ⊥) → (2 ^ 24 ≤ statements_in (plain_body f)) ⊎ (2 ^ 32 ≤ length (table_of f).kinds)
is_long f l k h none = by (cases_lt (statements_in (plain_body f)) (2 ^ 24)) (cases_lt (length (table_of f).kinds) (2 ^ 32))
  where
    by : (statements_in (plain_body f) < 2 ^ 24) ⊎ (2 ^ 24 ≤ statements_in (plain_body f)) → (length (table_of f).kinds < 2 ^ 32) ⊎ (2 ^ 32 ≤ length (table_of f).kinds) → (2 ^ 24 ≤ statements_in (plain_body f)) ⊎ (2 ^ 32 ≤ length (table_of f).kinds)
    by (inr few) m = inl few
    by (inl few) (inr many) = inr many
    by (inl few) (inl many) = absurd (none (record {
      count = subst (λ ks. length ks < 2 ^ 32) (sym h.kinds) many;
      short = at_most_long (parts_of (body_of l.ir.body)) (statements_in (plain_body f)) (thrice (homes_for f) (plain_body f) (body_of l.ir.body) k h.lowered.body) few;
    }))

pub ready_have_code : ReadyFunctionsHaveCode
ready_have_code f at r p first =
    never_both (homes_for f) (parts_in (plain_body f)) at (ready_code (homes_for f) (frame_of (table_of f).stack) (homing_for f) (plain_body f) r p) first

pub lowered_have_code : LoweredFunctionsHaveCode
lowered_have_code f l k at h first = never_both (homes_for f) (parts_in (plain_body f)) at (lowered_code (homes_for f) (plain_body f) (body_of l.ir.body) k h.lowered.body) first

pub same_homes : (f : Fun) (h : Homing) → table_in h ≡ table_of f → homes_of h.homes ≡ homes_for f
same_homes f h e = ap (λ (t : Table). homes_by t.entries) e

pub function_is : (f : Fun) (h : Homing) (entry results : List Passed) (made : Lowered) (in_use : List Place) → table_in h ≡ table_of f → ArePassed (homes_of h.homes) argument_registers (map (λ p. p.var) f.params) entry
    → ArePassed (homes_of h.homes) result_registers f.result results → Becomes (homes_of h.homes) (block no_callees f.body) made.nodes made.steps → in_use ≡ all_places
    → IsFunctionLowered f (record {
      ir = record { entry = entry; body = made.nodes; results = results; kinds = h.kinds; in_use = in_use };
      stack = h.stack;
      change = record { steps = made.steps };
    }) (change_of (record { steps = made.steps }))
function_is f h entry results made in_use e a r b places =
    let same = same_homes f h e in
    let held : h.kinds ≡ (table_of f).kinds = ap (λ (t : Table). t.kinds) e in
    record {
      lowered = record {
        entry = subst (λ q. ArePassed q argument_registers (map (λ p. p.var) f.params) entry) same a;
        body =
            subst (λ q. IsLowered q (plain_body f) (body_of made.nodes) (change_of (record { steps = made.steps }))) same
            (alone (homes_of h.homes) (block no_callees f.body) made.nodes made.steps b);
        returned = subst (λ q. ArePassed q result_registers f.result results) same r;
        kinds = subst (AreKinds (homes_for f)) (sym held) (kinds_for f);
      };
      kinds = held;
      stack = ap (λ (t : Table). t.stack) e;
      in_use = places;
    }
