-- What the placing of variables sees of a few operations.
use Rattle.std.proofs.Common.{◌≡◌, ℕ, List, [], ◌∷◌, Some, None, refl, pos}
use Rattle.jz_words.specs.declared.size.Size.TheVariants.{S8, S64}
use Rattle.jz_ir.specs.Span.{Span}
use Rattle.x64_insn.specs.declared.types.Alu.TheVariants as alu
use Rattle.x64_insn.specs.declared.types.Wide.TheVariants as wide
use Rattle.x64_insn.specs.declared.types.Shift.TheVariants as shift
use Rattle.x64_insn.specs.declared.types.Reg.TheVariants as reg
use Rattle.x64_insn.specs.declared.types.Flag.TheVariants.{Of, Cf, Sf, Pf, Zf}
use Rattle.x64_insn.specs.declared.types.Place.{Place}
use Rattle.x64_insn.specs.declared.types.Place.TheVariants as place
use Rattle.jz_ir.specs.declared.code.Need.{Need}
use Rattle.jz_operations.specs.declared.operation.Pinned.{Pinned}
use Rattle.jz_operations.specs.declared.operation.Arg.TheVariants as arg
use Rattle.jz_operations.specs.declared.operation.Action.{Action}
use Rattle.jz_operations.specs.declared.operation.Action.TheVariants as action
use Rattle.jz_operations.specs.declared.operation.Flags.{Flags}
use Rattle.jz_operations.specs.declared.operation.Operation.{Operation}
use Rattle.jz_operations.specs.Reading.{reads_of, writes_of, fixed_of, needs_of}

at : ℕ → Span
at n = record { line = 1; col = n }

pin : ℕ → ℕ → Pinned
pin v n = record { variable = v; span = at n }

no_flag : Flags
no_flag = record { of = None; cf = None; sf = None; pf = None; zf = None }

-- ---- `cf, x = x + [p + 8 * i + 16] + c`, where c is both flags
carries : Operation
carries = record {
  span = at 1;
  action = action.Alu alu.Adc S64 (arg.Var 0) (arg.Mem (record { base = Some 1; index = Some (2, 8); disp = pos 16 })) (Some (pin 3 9));
  flags = record no_flag { cf = Some (pin 3 5) };
}

carries_reads : reads_of carries ≡ 0 ∷ 1 ∷ 2 ∷ 3 ∷ []
unfolding carries no_flag pin
carries_reads = refl

carries_writes : writes_of carries ≡ 0 ∷ 3 ∷ []
unfolding carries no_flag pin
carries_writes = refl

carries_fixed : fixed_of carries ≡ place.Flag Of ∷ place.Flag Sf ∷ place.Flag Pf ∷ place.Flag Zf ∷ []
unfolding carries no_flag pin
carries_fixed = refl

carries_needs : needs_of carries ≡ record { variable = 3; place = place.Flag Cf; span = at 9 } ∷ record { variable = 3; place = place.Flag Cf; span = at 5 } ∷ []
unfolding carries no_flag pin
carries_needs = refl

-- ---- `r = a / s[j]`: the quotient of RDX and RAX, the remainder is left in RDX
divides : Operation
divides = record {
  span = at 1;
  action = action.Wide wide.Div S64 (Some (pin 4 2)) None (arg.Cell (record { of = 0; index = Some 7; offset = pos 1 }));
  flags = no_flag;
}

divides_reads : reads_of divides ≡ 7 ∷ 4 ∷ []
unfolding divides no_flag pin
divides_reads = refl

divides_writes : writes_of divides ≡ 4 ∷ []
unfolding divides no_flag pin
divides_writes = refl

divides_fixed : fixed_of divides ≡ place.Reg reg.Rdx ∷ place.Flag Of ∷ place.Flag Cf ∷ place.Flag Sf ∷ place.Flag Pf ∷ place.Flag Zf ∷ []
unfolding divides no_flag pin
divides_fixed = refl

-- ---- `x <<r= n`: a rotation by CL writes OF and CF alone
rotates : Operation
rotates = record { span = at 1; action = action.ShiftBy shift.Rol S8 (arg.Var 0) (pin 1 8); flags = no_flag }

rotates_reads : reads_of rotates ≡ 0 ∷ 1 ∷ []
unfolding rotates no_flag pin
rotates_reads = refl

rotates_needs : needs_of rotates ≡ record { variable = 1; place = place.Reg reg.Rcx; span = at 8 } ∷ []
unfolding rotates no_flag pin
rotates_needs = refl
