-- What the events of a body have to do with those of its instructions.
use Rattle.std.specs.Prelude.{◌≡◌, ◌≤◌, ℕ, ◌-◌, List, ⊤}
use Rattle.x64_insn.specs.declared.types.Place.{Place}
use Rattle.x64_insn.specs.declared.types.Reg.{Reg}
use Rattle.jz_leak.specs.RunLeaks.{Leak}
use Rattle.jz_leak.specs.Applying.{apply_of, Fits}
use Rattle.jz_runs.specs.Rules.{Outcome, End, Cut, Stuck}
use Rattle.jz_placing.specs.Variables.{Body}
use Rattle.jz_placing.specs.Placing.{code_of, leak_of}
use Rattle.jz_linear.specs.Lines.{cases_of}
use Rattle.jz_stack.specs.Framed.{framed_tr}
use Rattle.jz_events.specs.Cases.{transformer_over}

-- what a run leaks that isn't stuck
abbrev pub OfLeak : {S W : Type 0} → (Leak → Type 0) → Outcome S W Leak → Type 0
OfLeak P (End s n l) = P l
OfLeak P (Cut l) = P l
OfLeak P (Stuck w) = ⊤

module _ (slots : ℕ → ℕ) (size at : ℕ) (saved : List Reg) (t : Body) where
  -- the leak fits the transformer
  abbrev pub LeakIsFor : Leak → Type 0
  LeakIsFor l = Fits (transformer_over slots size at saved t) l

  -- the transformer makes of the leak what that of the instructions makes of theirs, wherever the
  -- stack pointer is
  abbrev pub ShowsTheSame : (ℕ → Place) → Leak → Type 0
  ShowsTheSame places l =
      (rsp0 : ℕ) → size ≤ rsp0
      → apply_of (transformer_over slots size at saved t) l rsp0
      ≡ apply_of (framed_tr size at saved (cases_of (code_of places slots t)))
      (leak_of slots (rsp0 - size) t l) rsp0
