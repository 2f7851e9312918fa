-- The events of an operation over variables, by the numbers that it leaks: an access to memory has
-- its address among them; a cell of a stack variable stands in the frame, so its event counts from
-- the stack pointer at entry.
use Rattle.std.specs.Prelude.{ℕ, Bool, true, false, List, [], ◌∷◌, Option, Some, None, pos, ◌-ℤ◌}
use Rattle.std.specs.Option.{option_or}
use Rattle.jz_words.specs.declared.size.Size.{Size}
use Rattle.jz_words.specs.Sizes.{bytes_of}
use Rattle.x64_insn.specs.declared.types.Wide.TheVariants as wide
use Rattle.jz_leak.specs.declared.transformer.Form.{Form}
use Rattle.jz_leak.specs.declared.transformer.Form.TheVariants as form
use Rattle.jz_leak.specs.declared.transformer.Out.{Out}
use Rattle.jz_leak.specs.declared.transformer.Out.TheVariants as out
use Rattle.jz_operations.specs.declared.operation.Cell.{Cell}
use Rattle.jz_operations.specs.declared.operation.Arg.{Arg}
use Rattle.jz_operations.specs.declared.operation.Arg.TheVariants as arg
use Rattle.jz_operations.specs.declared.operation.Action.{Action}
use Rattle.jz_operations.specs.declared.operation.Action.TheVariants as action
use Rattle.jz_operations.specs.Rows.{Output, accesses}
use Rattle.jz_operations.specs.Insns.{displacement}
use Rattle.jz_placing.specs.Variables.{Asked, always, asks}

-- of a division: high word, low word and divisor, behind the number of an access that leaks one
abbrev pub division_outs : Bool → Bool → List Out
division_outs false leaks = []
division_outs true false =
    out.Div (form.Leaked 0) (form.Leaked 1) (form.Leaked 2) ∷ []
division_outs true true =
    out.Div (form.Leaked 1) (form.Leaked 2) (form.Leaked 3) ∷ []

-- an access, and behind it the division
abbrev pub access_outs : Bool → Option (Form × Bool) → List Out
access_outs d None = division_outs d false
access_outs d (Some f) = out.Addr f.0 ∷ division_outs d f.1

abbrev pub divides : Action → Bool
divides (action.Wide wide.Div s l h rm) = true
divides (action.Wide wide.Idiv s l h rm) = true
divides other = false

-- by where stack variables stand above the stack pointer, and the size of the frame
module _ (slots : ℕ → ℕ) (size : ℕ) where
  -- the address of a cell, and whether a number of it leaks: that of a cell with an index, its
  -- index
  abbrev pub cell_form : Size → Cell → Option ℕ → Form × Bool
  cell_form s c None = (form.Frame (displacement slots c s -ℤ pos size), false)
  cell_form s c (Some v) = (form.Indexed (pos (slots c.of) -ℤ pos size) (bytes_of s) 0, true)

  -- that of an operand, where it is in memory
  abbrev pub arg_form : Size → Arg → Option (Form × Bool)
  arg_form s (arg.Mem a) = Some (form.Leaked 0, true)
  arg_form s (arg.Cell c) = Some (cell_form s c c.index)
  arg_form s other = None

  -- of the operands that are accessed one at most is in memory
  abbrev pub first_form : List Output → Option (Form × Bool)
  first_form [] = None
  first_form (o ∷ os) = option_or (arg_form o.0 o.1) (first_form os)

  abbrev pub operation_outs : Action → List Out
  operation_outs a = access_outs (divides a) (first_form (accesses a))

  -- of a test, without its jump
  abbrev pub asked_outs : Asked → List Out
  asked_outs always = []
  asked_outs (asks None k) = []
  asked_outs (asks (Some o) k) = operation_outs o.action
