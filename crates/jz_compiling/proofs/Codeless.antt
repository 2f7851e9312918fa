-- A function that has no bytes, and one that has.
use Rattle.std.proofs.Common.{◌≡◌, inl, inr, ℕ, ◌<◌, ◌≤◌, List, Option, map, sym, ◌∙◌, subst, arith}
use Rattle.x64_insn.specs.declared.types.Place.{Place}
use Rattle.jz_tree.specs.declared.program.Fun.{Fun}
use Rattle.jz_change.specs.Changes.{Change}
use Rattle.jz_change.specs.Views.{change_of}
use Rattle.jz_ir.specs.Tree as ir
use Rattle.jz_ir.specs.Places.{Out, placed, refused, FirstFit}
use Rattle.jz_operations.specs.Reading.{seen_of}
use Rattle.jz_placing.specs.Variables.{test_of}
use Rattle.jz_placing.specs.Flow.{flow, then_ops}
use Rattle.jz_alloc.specs.declared.placing.NoPlace.{NoPlace}
use Rattle.jz_alloc.specs.Answers.{IsEvidence}
use Rattle.jz_alloc.proofs.Seating.{one_out}
use Rattle.jz_place.specs.declared.tree.Ir.{Ir}
use Rattle.jz_place.specs.Bodies.{entry_op, return_op, whole_of, seen_code, LiveInWhole}
use Rattle.jz_codable.specs.Ready.{IsReady}
use Rattle.jz_lowering.specs.declared.functions.LoweredFun.{LoweredFun}
use Rattle.jz_lowering.specs.Functions.{plain_body, homes_for, IsFunctionLowered}
use Rattle.jz_correct.specs.Registers.{argument_registers, result_registers}
use Rattle.jz_listing.specs.declared.compiled.Compiled.{Compiled}
use Rattle.jz_stack.specs.Laying.{end_from}
use Rattle.jz_code.specs.declared.code.NoCode.{NoCode}
use Rattle.jz_code.specs.declared.code.NoCode.TheVariants as no
use Rattle.jz_code.specs.Made.{AreFirst, HasNoCode}
use Rattle.jz_one_function.specs.Laws.{AreOne}
use Rattle.jz_one_function.proofs.Bodies.{one_function}
use Rattle.jz_compiling.specs.Made.{IsMadeOf}
use Rattle.jz_compiling.specs.Refused.{stack_end, IsCodeless}

-- ---- what machine code says of the function over variables
pub no_code : (g : Fun) (l : LoweredFun) (why : NoCode) → IsFunctionLowered g l (change_of l.change) → IsReady l.ir → HasNoCode l.ir l.stack why → IsCodeless g why
no_code g l no.Frame is ready (inl h) = subst (λ s. 65536 < end_from 0 s) is.stack h
no_code g l no.Frame is ready (inr h) = absurd h.1
no_code g l (no.Place n) is ready (inl h) = absurd h
no_code g l (no.Place n) is ready (inr h) = (subst (λ s. end_from 0 s ≤ 65536) is.stack h.0, record { lowered = l; is_lowered = is; ready = ready; evidence = h.1 })

-- ---- one of both
never_placed : (v : ℕ) (ps qs : List (Option ℕ)) → refused v ps ≡ placed qs → ⊥
never_placed v ps qs e = cc

same_whole : (l m : Ir) → AreOne l m → whole_of l ≡ whole_of m
same_whole l m o = λ i. then_ops (map entry_op (o.entry i)) (flow seen_of test_of (o.body i) (then_ops (map return_op (o.results i)) ir.done))

module _ (l m : Ir) (one : AreOne l m) (kinds : l.kinds ≡ m.kinds) (in_use : l.in_use ≡ m.in_use) where
  moved : (out : Out) → FirstFit (seen_code m).ops m.kinds m.in_use (LiveInWhole m) out → FirstFit (seen_code l).ops l.kinds l.in_use (LiveInWhole l) out
  moved out h =
      subst (λ (t : ir.Tree). FirstFit (ir.ops_of t) l.kinds l.in_use (ir.LiveInTree t) out) (sym (same_whole l m one))
      (subst (λ ks. FirstFit (seen_code m).ops ks l.in_use (LiveInWhole m) out) (sym kinds)
      (subst (λ us. FirstFit (seen_code m).ops m.kinds us (LiveInWhole m) out) (sym in_use) h))

  placed_or_not : (places : List Place) (n : NoPlace) → AreFirst l places → IsEvidence (seen_code m) (LiveInWhole m) n → ⊥
  placed_or_not places n first evidence = never_placed n.variable evidence.places _ (one_out _ _ _ (moved (refused n.variable evidence.places) evidence.is_first) first)

pub not_codeless : (g : Fun) (k : Change) (c : Compiled) (why : NoCode) → IsMadeOf g k c → IsCodeless g why → ⊥
not_codeless g k c no.Frame h large =
    let within : stack_end g ≤ 65536 = subst (λ s. end_from 0 s ≤ 65536) h.is_lowered.stack h.is_code.within in
    absurd (omega (arith, within, large))
not_codeless g k c (no.Place n) h left =
    let m : LoweredFun = left.1.lowered in
    let is : IsFunctionLowered g m (change_of m.change) = left.1.is_lowered in
    let one = one_function (homes_for g) argument_registers result_registers g (plain_body g) h.lowered.ir m.ir (change_of h.lowered.change) (change_of m.change) h.is_lowered.lowered is.lowered in
    placed_or_not h.lowered.ir m.ir one.0 (h.is_lowered.kinds ∙ sym is.kinds) (h.is_lowered.in_use ∙ sym is.in_use) h.is_code.places n h.is_code.first left.1.evidence
