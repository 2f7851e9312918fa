-- How long the fields are.
use Rattle.std.proofs.Common.{◌≡◌, ℕ, ◌≤◌, List, Bool, true, false, Option, Some, None, sym, ap, ◌∙◌, subst, arith, if◌then◌else◌, ◌==◌, Ok}
use Rattle.std.specs.Prelude.{unwrap_or}
use Rattle.x64_insn.specs.Size.{Size}
use Rattle.x64_insn.specs.Size.TheVariants.{S8, S16, S32, S64}
use Rattle.x64_insn.specs.declared.types.Width.{Width}
use Rattle.x64_insn.specs.declared.types.Width.TheVariants.{Rel8, Rel32}
use Rattle.x64_insn.specs.declared.table.Row.{Row}
use Rattle.x64_insn.specs.declared.table.Row.TheVariants as row
use Rattle.x64_insn.specs.Table.{row_of, size_by, prefixed_size, reg_field, immediate_by, width_length, immediate_length}
use Rattle.x64_insn.specs.Encoding.{displacement_length}
use Rattle.x64_decode.specs.declared.reading.FieldsRead.{FieldsRead}
use Rattle.x64_decode.specs.Decoding.{parts, row_immediate, immediate_bytes}
use Rattle.x64_decode.specs.InnerReading.{parts_read, immediate_limit, AreShort}
use Rattle.x64_decode.proofs.PartsRead.{AreParts, parts_reads}

either : (b : Bool) (x y k : ℕ) → x ≤ k → y ≤ k → (if b then x else y) ≤ k
either true x y k h i = h
either false x y k h i = i

displacement_small : (m s : Option ℕ) → displacement_length m s ≤ 4
unfolding displacement_length
displacement_small None s = omega arith
displacement_small (Some m) s =
    let none : 0 ≤ 4 = omega arith in let one : 1 ≤ 4 = omega arith in let four : 4 ≤ 4 = omega arith in
    either _ _ _ 4 (either _ _ _ 4 four none) (either _ _ _ 4 one (either _ _ _ 4 four none))

sized_small : (z : Size) → immediate_by z ≤ 4
sized_small S8 = omega arith
sized_small S16 = omega arith
sized_small S32 = omega arith
sized_small S64 = omega arith

jump_small : (w : Width) → width_length w ≤ 4
jump_small Rel8 = omega arith
jump_small Rel32 = omega arith

to_eight : (n : ℕ) → n ≤ 4 → n ≤ 8
to_eight n h = omega (arith, h)

immediate_small : (p r : Option ℕ) (n : ℕ) (w : Row) → immediate_length w p r n ≤ immediate_limit w
immediate_small p r n (row.AluRmImm operands) = to_eight _ (sized_small (size_by operands p r))
immediate_small p r n row.AluRmImm8 = omega arith
immediate_small p r n (row.MovRmImm operands) = to_eight _ (sized_small (size_by operands p r))
immediate_small p r n row.MovRegImm64 = omega arith
immediate_small p r n row.ImulRmImm = sized_small (prefixed_size p r)
immediate_small p r n row.ImulRmImm8 = omega arith
immediate_small p r n (row.ShiftImm operands) = omega arith
immediate_small p r n (row.Group3 operands) =
    let none : 0 ≤ 8 = omega arith in
    either (n == 0) _ 0 8 (to_eight _ (sized_small (size_by operands p r))) none
immediate_small p r n (row.Jcc condition width) = jump_small width
immediate_small p r n (row.Jmp width) = jump_small width
immediate_small p r n row.Call = omega arith
immediate_small p r n other = omega arith

limit_small : (w : Row) → immediate_limit w ≤ 8
limit_small row.ImulRmImm = omega arith
limit_small row.ImulRmImm8 = omega arith
limit_small (row.ShiftImm operands) = omega arith
limit_small (row.Jcc condition width) = omega arith
limit_small (row.Jmp width) = omega arith
limit_small row.Call = omega arith
limit_small other = omega arith

-- an immediate has the bytes of its row
pub short : (bs rest : List ℕ) (f : FieldsRead) → parts bs ≡ Ok (parts_read f, rest) → row_of f.escape f.opcode ≡ Some f.row → AreShort f
unfolding AreParts immediate_bytes
short bs rest f h e =
    let ok = (parts_reads.found bs rest (parts_read f) h).1 in
    let d = ok.1.1.1.1.1.1.0.0 in
    let i = ok.1.1.1.1.1.1.1.0 ∙ ap (row_immediate f.operand_size f.rex (reg_field (unwrap_or f.modrm 0))) e in
    let by_row = subst (λ n. n ≤ immediate_limit f.row) (sym i) (immediate_small f.operand_size f.rex (reg_field (unwrap_or f.modrm 0)) f.row) in
    record {
      displacement = subst (λ n. n ≤ 4) (sym d) (displacement_small f.modrm f.sib);
      immediate = omega (arith, by_row, limit_small f.row);
      by_row = by_row;
    }
