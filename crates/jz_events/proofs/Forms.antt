-- The events of an operation over variables are those of its instruction, where cells leak their addresses.
use Rattle.std.proofs.Common.{◌≡◌, ℕ, ◌+◌, ◌-◌, ◌*◌, ◌%◌, ◌^◌, ◌≤◌, Bool, true, false, List, [], ◌∷◌, refl, sym, ap, ◌∙◌, arith, ℤ, pos, negsuc, ◌+ℤ◌, ◌-ℤ◌, ◌*ℤ◌}
use Rattle.std.specs.Prelude.{Option, Some, None, slice_index}
use Rattle.std.proofs.lemmas.Int.{ints}
use Rattle.jz_words.specs.declared.size.Size.{Size}
use Rattle.jz_words.specs.declared.size.Size.TheVariants.{S8, S16, S32, S64}
use Rattle.jz_words.specs.Sizes.{bytes_of}
use Rattle.jz_words.specs.Words.{residue}
use Rattle.x64_insn.specs.declared.types.Place.{Place}
use Rattle.x64_insn.specs.declared.types.Reg.{Reg}
use Rattle.x64_insn.specs.declared.types.Operand.{Operand}
use Rattle.x64_insn.specs.declared.types.Wide.TheVariants as wide
use Rattle.jz_leak.specs.declared.event.Event.TheVariants as event
use Rattle.jz_leak.specs.declared.transformer.Form.TheVariants as form
use Rattle.jz_leak.specs.declared.transformer.Out.{Out}
use Rattle.jz_leak.specs.declared.transformer.Out.TheVariants as out
use Rattle.jz_leak.specs.Applying.{events_for}
use Rattle.jz_operations.specs.declared.operation.Cell.{Cell}
use Rattle.jz_operations.specs.declared.operation.Arg.{Arg}
use Rattle.jz_operations.specs.declared.operation.Arg.TheVariants as arg
use Rattle.jz_operations.specs.declared.operation.Action.{Action}
use Rattle.jz_operations.specs.declared.operation.Action.TheVariants as action
use Rattle.jz_operations.specs.declared.operation.Operation.{Operation}
use Rattle.jz_operations.specs.Rows.{Output, accesses}
use Rattle.jz_operations.specs.Insns.{operand_of, extend_of, sign_of, insn_of, displacement}
use Rattle.jz_operations.specs.Standing.{cell_address}
use Rattle.jz_placing.specs.Variables.{Asked, always, asks}
use Rattle.jz_placing.specs.Placing.{test_for, cell_by_address, accesses_by_address, numbers, test_numbers}
use Rattle.jz_linear.specs.Lines as lines
use Rattle.jz_linear.specs.Lines.{outs_of, either_outs, test_outs}
use Rattle.jz_events.specs.Outs.{division_outs, access_outs, divides, cell_form, first_form, operation_outs, asked_outs}

-- the events of an instruction, by whether an operand is in memory
abbrev machine_outs : Bool → List Output → List Out
machine_outs d [] = division_outs d false
machine_outs d ((s, arg.Mem a) ∷ os) = out.Addr (form.Leaked 0) ∷ division_outs d true
machine_outs d ((s, arg.Cell c) ∷ os) = out.Addr (form.Leaked 0) ∷ division_outs d true
machine_outs d ((s, arg.Var v) ∷ os) = machine_outs d os
machine_outs d ((s, arg.Imm i) ∷ os) = machine_outs d os
machine_outs d ((s, arg.At r p) ∷ os) = machine_outs d os

-- ---- instructions
module _ (places : ℕ → Place) (slots : ℕ → ℕ) where
  one_arg : (s z : Size) (a : Arg) → lines.access_outs (operand_of places slots a s) ≡ machine_outs false ((z, a) ∷ [])
  one_arg s z (arg.Var v) = refl
  one_arg s z (arg.Imm i) = refl
  one_arg s z (arg.Mem a) = refl
  one_arg s z (arg.Cell c) = refl
  one_arg s z (arg.At r p) = refl

  two_args : (s z : Size) (a b : Arg) → either_outs (operand_of places slots a s) (operand_of places slots b z) ≡ machine_outs false ((s, a) ∷ (z, b) ∷ [])
  two_args s z (arg.Var v) b = one_arg z z b
  two_args s z (arg.Imm i) b = one_arg z z b
  two_args s z (arg.Mem a) b = refl
  two_args s z (arg.Cell c) b = refl
  two_args s z (arg.At r p) b = one_arg z z b

  division_arg : (s : Size) (a : Arg) → lines.division_outs (operand_of places slots a s) ≡ machine_outs true ((s, a) ∷ [])
  division_arg s (arg.Var v) = refl
  division_arg s (arg.Imm i) = refl
  division_arg s (arg.Mem a) = refl
  division_arg s (arg.Cell c) = refl
  division_arg s (arg.At r p) = refl

  extended : (sign : Bool) (to from : Size) (r : Reg) (rm : Operand) → outs_of (extend_of sign to from r rm) ≡ lines.access_outs rm
  extended true to from r rm = refl
  extended false S8 from r rm = refl
  extended false S16 from r rm = refl
  extended false S32 from r rm = refl
  extended false S64 S8 r rm = refl
  extended false S64 S16 r rm = refl
  extended false S64 S32 r rm = refl
  extended false S64 S64 r rm = refl

  no_outs : (s : Size) → outs_of (sign_of s) ≡ []
  no_outs S8 = refl
  no_outs S16 = refl
  no_outs S32 = refl
  no_outs S64 = refl

  outs_are : (a : Action) → outs_of (insn_of places slots a) ≡ machine_outs (divides a) (accesses a)
  outs_are (action.Alu o s to from p) = two_args s s to from
  outs_are (action.Mov s to from) = two_args s s to from
  outs_are (action.Extend sign to from v rm) = extended sign to from _ (operand_of places slots rm from) ∙ one_arg from from rm
  outs_are (action.Lea v a) = refl
  outs_are (action.One o s rm) = one_arg s s rm
  outs_are (action.Wide wide.Mul s l h rm) = one_arg s s rm
  outs_are (action.Wide wide.Imul s l h rm) = one_arg s s rm
  outs_are (action.Wide wide.Div s l h rm) = division_arg s rm
  outs_are (action.Wide wide.Idiv s l h rm) = division_arg s rm
  outs_are (action.Imul s v rm) = one_arg s s rm
  outs_are (action.ImulBy s v rm i) = one_arg s s rm
  outs_are (action.Shift kind s rm n) = one_arg s s rm
  outs_are (action.ShiftBy kind s rm p) = one_arg s s rm
  outs_are (action.Bswap s v) = refl
  outs_are (action.Sign s l h) = no_outs s
  outs_are (action.Set c rm) = one_arg S8 S8 rm
  outs_are (action.Cmov c s v rm) = one_arg s s rm

-- ---- addresses of cells
cell_signs : (s : Size) (r slot o : ℕ) (a : ℤ) → pos r +ℤ (pos slot +ℤ (pos (bytes_of s) *ℤ negsuc o)) ≡ a → residue S64 a ≡ (r + slot + bytes_of s * residue S64 (negsuc o)) % 2 ^ 64
cell_signs S8 r slot o (pos j) f = let l : j + 1 * (o + 1) ≡ r + slot = omega (arith, ints, f) in omega (arith, l)
cell_signs S16 r slot o (pos j) f = let l : j + 2 * (o + 1) ≡ r + slot = omega (arith, ints, f) in omega (arith, l)
cell_signs S32 r slot o (pos j) f = let l : j + 4 * (o + 1) ≡ r + slot = omega (arith, ints, f) in omega (arith, l)
cell_signs S64 r slot o (pos j) f = let l : j + 8 * (o + 1) ≡ r + slot = omega (arith, ints, f) in omega (arith, l)
cell_signs S8 r slot o (negsuc j) f = let l : r + slot + j + 1 ≡ 1 * (o + 1) = omega (arith, ints, f) in omega (arith, l)
cell_signs S16 r slot o (negsuc j) f = let l : r + slot + j + 1 ≡ 2 * (o + 1) = omega (arith, ints, f) in omega (arith, l)
cell_signs S32 r slot o (negsuc j) f = let l : r + slot + j + 1 ≡ 4 * (o + 1) = omega (arith, ints, f) in omega (arith, l)
cell_signs S64 r slot o (negsuc j) f = let l : r + slot + j + 1 ≡ 8 * (o + 1) = omega (arith, ints, f) in omega (arith, l)

cell_sum : (s : Size) (r slot : ℕ) (off : ℤ) → residue S64 (pos r +ℤ (pos slot +ℤ (pos (bytes_of s) *ℤ off))) ≡ (r + slot + bytes_of s * residue S64 (pos 0 +ℤ off)) % 2 ^ 64
cell_sum S8 r slot (pos o) = omega (arith, ints)
cell_sum S16 r slot (pos o) = omega (arith, ints)
cell_sum S32 r slot (pos o) = omega (arith, ints)
cell_sum S64 r slot (pos o) = omega (arith, ints)
cell_sum s r slot (negsuc o) =
    let z : negsuc o ≡ pos 0 +ℤ negsuc o = omega (arith, ints) in
    cell_signs s r slot o (pos r +ℤ (pos slot +ℤ (pos (bytes_of s) *ℤ negsuc o))) refl ∙ ap (λ (x : ℤ). (r + slot + bytes_of s * residue S64 x) % 2 ^ 64) z

module _ (slots : ℕ → ℕ) (size rsp0 : ℕ) (le : size ≤ rsp0) where
  down : (d : ℤ) → pos rsp0 +ℤ (d -ℤ pos size) ≡ pos (rsp0 - size) +ℤ d
  down d = omega (arith, ints, le)

  frame_is : (c : Cell) (s : Size) → residue S64 (pos rsp0 +ℤ (displacement slots c s -ℤ pos size)) ≡ cell_address (rsp0 - size) (slots c.of) s (residue S64 (pos 0 +ℤ c.offset))
  frame_is c s = ap (residue S64) (down (displacement slots c s)) ∙ cell_sum s (rsp0 - size) (slots c.of) c.offset

  indexed_is : (slot : ℕ) (s : Size) (i : ℕ) → residue S64 (pos (rsp0 + bytes_of s * i) +ℤ (pos slot -ℤ pos size)) ≡ cell_address (rsp0 - size) slot s i
  indexed_is slot s i =
      let whole : pos (rsp0 + bytes_of s * i) +ℤ (pos slot -ℤ pos size) ≡ pos (rsp0 - size + slot + bytes_of s * i) = omega (arith, ints, le) in
      ap (residue S64) whole

  same_division : (d : Bool) (a : ℕ) (ns : List ℕ) → events_for ns rsp0 (division_outs d false) ≡ events_for (a ∷ ns) rsp0 (division_outs d true)
  same_division false a ns = refl
  same_division true a ns = refl

  cell_shows : (s : Size) (c : Cell) (i : Option ℕ) (d : Bool) (ns : List ℕ)
      → events_for ns rsp0 (access_outs d (Some (cell_form slots size s c i))) ≡ events_for (cell_by_address slots (rsp0 - size) s c i ns) rsp0 (out.Addr (form.Leaked 0) ∷ division_outs d true)
  cell_shows s c None d ns =
      let at = cell_address (rsp0 - size) (slots c.of) s (residue S64 (pos 0 +ℤ c.offset)) in
      ap (λ a. event.Addr a ∷ events_for ns rsp0 (division_outs d false)) (frame_is c s) ∙ ap (λ es. event.Addr at ∷ es) (same_division d at ns)
  cell_shows s c (Some v) false [] = ap (λ a. event.Addr a ∷ []) (indexed_is (slots c.of) s 0)
  cell_shows s c (Some v) true [] = ap (λ a. event.Addr a ∷ event.Div 0 0 0 ∷ []) (indexed_is (slots c.of) s 0)
  cell_shows s c (Some v) false (n ∷ ns) = ap (λ a. event.Addr a ∷ []) (indexed_is (slots c.of) s n)
  cell_shows s c (Some v) true (n ∷ ns) = ap (λ a. event.Addr a ∷ event.Div (slice_index ns 0) (slice_index ns 1) (slice_index ns 2) ∷ []) (indexed_is (slots c.of) s n)

  list_shows : (d : Bool) (os : List Output) (ns : List ℕ) → events_for ns rsp0 (access_outs d (first_form slots size os)) ≡ events_for (accesses_by_address slots (rsp0 - size) os ns) rsp0 (machine_outs d os)
  list_shows d [] ns = refl
  list_shows d ((s, arg.Mem a) ∷ os) ns = refl
  list_shows d ((s, arg.Cell c) ∷ os) ns = cell_shows s c c.index d ns
  list_shows d ((s, arg.Var v) ∷ os) ns = list_shows d os ns
  list_shows d ((s, arg.Imm i) ∷ os) ns = list_shows d os ns
  list_shows d ((s, arg.At r p) ∷ os) ns = list_shows d os ns

  module _ (places : ℕ → Place) where
    pub operation_shows : (o : Operation) (ns : List ℕ) → events_for ns rsp0 (operation_outs slots size o.action) ≡ events_for (numbers slots (rsp0 - size) o ns) rsp0 (outs_of (insn_of places slots o.action))
    operation_shows o ns = list_shows (divides o.action) (accesses o.action) ns ∙ ap (events_for (numbers slots (rsp0 - size) o ns) rsp0) (sym (outs_are places slots o.action))

    pub test_shows : (k : Asked) (ns : List ℕ) → events_for ns rsp0 (asked_outs slots size k) ≡ events_for (test_numbers slots (rsp0 - size) k ns) rsp0 (test_outs (test_for places slots k))
    test_shows always ns = refl
    test_shows (asks None k) ns = refl
    test_shows (asks (Some o) k) ns = operation_shows o ns
