-- The bytes of a tree do what the tree does.
use Rattle.std.proofs.Common.{◌≡◌, ℕ, ◌+◌, ◌*◌, ◌%◌, ◌^◌, ◌<◌, ◌≤◌, true, false, List, [], ◌∷◌, ◌++◌, length, refl, sym, ap, subst, arith}
use Rattle.std.specs.Prelude.{Option, Some, slice_index}
use Rattle.jz_words.specs.declared.size.Size.TheVariants.{S64}
use Rattle.x64_insn.specs.declared.types.Reg.TheVariants as reg
use Rattle.x64_insn.specs.Rows.{with_reg}
use Rattle.jz_leak.specs.declared.event.Event.{Event}
use Rattle.jz_leak.specs.declared.event.Event.TheVariants as event
use Rattle.jz_leak.specs.RunLeaks.{Leak}
use Rattle.jz_leak.specs.Applying.{body_events}
use Rattle.jz_runs.specs.Rules.{End, Cut, Goes}
use Rattle.x64_machine.specs.Steps.{Config, steps_of}
use Rattle.jz_placing.specs.Instructions.{Machine, Code, instructions}
use Rattle.jz_linear.specs.Plain.{state_at, IsPlainCode}
use Rattle.jz_linear.specs.Lines.{linear_of, cases_of}
use Rattle.jz_linear.specs.LineRuns.{place_of}
use Rattle.x64_assemble.specs.Assembling.{Wide, offset_of, all_wide, total, target_in, insns_of_lines, bytes_of_lines, AreSpellable}
use Rattle.x64_assemble.specs.CodeRuns.{Going, EndsAt, NeverFaults, entered_at, left_at, Returns, MatchesEnd, MatchesCut, DoesAs}
use Rattle.x64_assemble.proofs.LineSteps.{config_in}
use Rattle.x64_assemble.proofs.LineRunsOn.{CanReturn}
use Rattle.x64_assemble.proofs.TreeRuns as tree
use Rattle.x64_assemble.proofs.Spellable.{linear_spellable, widths_of_lines, insns_counted}

no_offset : (ws : List Wide) → offset_of ws 0 ≡ 0
no_offset [] = refl
no_offset (w ∷ ws) = refl

-- entered at its first byte
pub config_first : (ws : List Wide) (base rsp0 target : ℕ) (s0 : Machine) → config_in ws base rsp0 (Some target) 0 s0 ≡ entered_at base rsp0 target s0
config_first ws base rsp0 target s0 =
    let e : base + offset_of ws 0 ≡ base = omega (arith, no_offset ws) in
    ap (λ r. record { state = state_at s0 r; memory = s0.memory; ended = false; entry_rsp = rsp0; entry_return = Some target }) e

same_target : (a b : ℕ) → ◌≡◌ {A = Option ℕ} (Some a) (Some b) → b ≡ a
same_target a b e = cc

module _ (t : Code) (ok : IsPlainCode t) (short : total (linear_of t) < 2 ^ 31) (base rsp0 target : ℕ) (fits : base + length (bytes_of_lines (linear_of t)) ≤ 2 ^ 64) (s0 : Machine) (back : Returns t rsp0 target s0) where
  abbrev ws : List Wide
  ws = all_wide (linear_of t)

  abbrev code : List ℕ
  code = bytes_of_lines (linear_of t)

  abbrev insns : ℕ
  insns = length (insns_of_lines (linear_of t))

  abbrev start : Config
  start = config_in ws base rsp0 (Some target) 0 s0

  start_is : start ≡ entered_at base rsp0 target s0
  start_is = config_first ws base rsp0 target s0

  are : AreSpellable (insns_of_lines (linear_of t))
  are = linear_spellable t ok short

  counted : insns ≡ length ws
  counted = insns_counted (target_in ws (place_of (linear_of t))) 0 ws

  can : (n left : ℕ) (s1 : Machine) (l : Leak) → Goes instructions t n s0 (End s1 left l) → CanReturn rsp0 (Some target) s1
  can n left s1 l g = record { target = target; stack = back.stack n left s1 l g; slot = back.slot n left s1 l g; return = refl }

  -- behind the return, by the stack pointer before it and the return address
  abbrev behind : Machine → ℕ → ℕ → Config
  behind s1 rsp to = record {
    state = record (with_reg (state_at s1 0) S64 reg.Rsp ((rsp + 8) % 2 ^ 64)) { rip = to };
    memory = s1.memory;
    ended = true;
    entry_rsp = rsp0;
    entry_return = Some target;
  }

  abbrev shown : Leak → ℕ → List Event
  shown l rsp = body_events l rsp0 (cases_of t) ++ event.Addr rsp ∷ []

  as_end : (k rsp to : ℕ) (s1 : Machine) (l : Leak) → rsp ≡ rsp0 → to ≡ target → EndsAt code base k start (shown l rsp) (behind s1 rsp to) → EndsAt code base k (entered_at base rsp0 target s0) (shown l rsp0) (left_at rsp0 target s1)
  as_end k rsp to s1 l e f h =
      subst (λ c. EndsAt code base k c (shown l rsp0) (left_at rsp0 target s1)) start_is
      (subst (λ x. EndsAt code base k start (shown l rsp0) (behind s1 rsp0 x)) f
      (subst (λ x. EndsAt code base k start (shown l x) (behind s1 x to)) e h))

  does_end : (n left : ℕ) (s1 : Machine) (l : Leak) → Goes instructions t n s0 (End s1 left l) → MatchesEnd t code insns base rsp0 target s0 n s1 l
  does_end n left s1 l g =
      let e = tree.ends t ok ws (widths_of_lines (linear_of t)) are base code refl fits rsp0 rsp0 (Some target) s0 n left s1 l (can n left s1 l g) g in
      let most : e.k ≤ length ws * (n + 1) = e.within in
      record {
        steps = e.k;
        within = subst (λ x. e.k ≤ x * (n + 1)) (sym counted) most;
        ends = as_end e.k (slice_index s1.regs 4) e.target s1 l (back.stack n left s1 l g) (same_target target e.target e.same) e.ends;
      }

  does_cut : (n : ℕ) (l : Leak) → Goes instructions t n s0 (Cut l) → MatchesCut t code insns base rsp0 target s0 n l
  does_cut n l g =
      let h = tree.halts t ok ws (widths_of_lines (linear_of t)) are base code refl fits rsp0 rsp0 (Some target) s0 n l g in
      let least : n ≤ h.k + length ws = h.enough in
      let most : h.k ≤ length ws * (n + 1) = h.within in
      record {
        running = subst (λ c. (steps_of code base c n).after.ended ≡ false) start_is
            (tree.still t ok ws (widths_of_lines (linear_of t)) are base code refl fits rsp0 rsp0 (Some target) s0 back.never_stuck can n l g);
        steps = h.k;
        enough = subst (λ x. n ≤ h.k + x) (sym counted) least;
        within = subst (λ x. h.k ≤ x * (n + 1)) (sym counted) most;
        there = h.there;
        going = subst (λ c. Going code base h.k c (body_events l rsp0 (cases_of t)) h.there) start_is h.going_on;
      }

  pub does_as : DoesAs t code insns base rsp0 target s0
  does_as = record {
    ends = does_end;
    cuts = does_cut;
    faults = subst (λ c. NeverFaults code base c) start_is (tree.no_fault t ok ws (widths_of_lines (linear_of t)) are base code refl fits rsp0 rsp0 (Some target) s0 back.never_stuck can);
  }
