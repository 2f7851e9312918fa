-- What the leaks of a body over variables become: the events of its operations, and those of the
-- jumps of its tests.
use Rattle.std.specs.Prelude.{ℕ, Bool, true, false, not, List, [], ◌∷◌, slice_index}
use Rattle.x64_insn.specs.declared.types.Reg.{Reg}
use Rattle.jz_leak.specs.declared.transformer.Out.{Out}
use Rattle.jz_leak.specs.declared.transformer.Out.TheVariants as out
use Rattle.jz_leak.specs.declared.transformer.Case.{Case}
use Rattle.jz_leak.specs.declared.transformer.Case.TheVariants as case
use Rattle.jz_leak.specs.declared.transformer.Transformer.{Transformer}
use Rattle.jz_runs.specs.Trees.{done, op, quiet, choose, loop, each, call}
use Rattle.jz_placing.specs.Variables.{Asked, always, asks, Body}
use Rattle.jz_stack.specs.Framed.{framed_tr}
use Rattle.jz_events.specs.declared.frame.FrameShape.{FrameShape}
use Rattle.jz_events.specs.Outs.{operation_outs, asked_outs}

-- whether a jump is taken; `true` has none
abbrev pub jump_outs : Asked → Bool → List Out
jump_outs always taken = []
jump_outs (asks o k) taken = out.Branch taken ∷ []

-- by where stack variables stand above the stack pointer, and the size of the frame
module _ (slots : ℕ → ℕ) (size : ℕ) where
  -- An `if` jumps to the other part where its test is false. A `while` that is written with a body
  -- jumps out of it where its test is false; one without (q is true then) jumps back where it is
  -- true.
  abbrev pub if_case : Asked → List Case → List Case → Case
  if_case c a b =
      case.If (asked_outs slots size c) (jump_outs c false) (record { cases = a })
      (jump_outs c true) (record { cases = b })

  abbrev pub while_case : Bool → List Case → Asked → List Case → Case
  while_case q p c b =
      case.While (record { cases = p }) (asked_outs slots size c) (jump_outs c q)
      (record { cases = b }) (jump_outs c (not q))

  -- a case for each item
  abbrev pub cases_over : Body → List Case
  cases_over done = []
  cases_over (op o r) = case.Op (operation_outs slots size o.action) ∷ cases_over r
  cases_over (quiet o r) = cases_over r
  cases_over (choose c a b r) = if_case c (cases_over a) (cases_over b) ∷ cases_over r
  cases_over (loop q p c b r) = while_case q (cases_over p) c (cases_over b) ∷ cases_over r
  cases_over (each f b r) = absurd f
  cases_over (call c b r) = absurd c

-- the slots of saved registers, the body, the slots again and that of the return
abbrev pub transformer_over : (slots : ℕ → ℕ) (size at : ℕ) → List Reg → Body → Transformer
transformer_over slots size at saved t = framed_tr size at saved (cases_over slots size t)

-- by the tables of a frame
abbrev pub slots_of : FrameShape → ℕ → ℕ
slots_of f v = slice_index f.slots.now v

abbrev pub transformer_in : FrameShape → Body → Transformer
transformer_in f t = transformer_over (slots_of f) f.size f.first f.saved.now t
