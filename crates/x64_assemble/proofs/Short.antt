-- How many bytes the lines of a tree have.
use Rattle.std.proofs.Common.{◌≡◌, ℕ, ◌+◌, ◌*◌, ◌≤◌, Bool, true, false, List, [], ◌∷◌, ◌++◌, length, ap, arith, length-append, if◌then◌else◌}
use Rattle.std.specs.Prelude.{Option, Some, None, unwrap_or}
use Rattle.std.specs.Option.{option_to_list}
use Rattle.jz_words.specs.declared.size.Size.{Size}
use Rattle.jz_words.specs.declared.size.Size.TheVariants.{S8, S16, S32, S64}
use Rattle.x64_insn.specs.declared.types.Insn.{Insn}
use Rattle.x64_insn.specs.declared.types.Insn.TheVariants as insn
use Rattle.x64_insn.specs.declared.types.Width.{Width}
use Rattle.x64_insn.specs.declared.types.Width.TheVariants.{Rel8, Rel32}
use Rattle.x64_insn.specs.declared.table.Row.{Row}
use Rattle.x64_insn.specs.declared.table.Row.TheVariants as row
use Rattle.x64_insn.specs.Table.{reg_field, immediate_by, width_length, immediate_length}
use Rattle.x64_insn.specs.Encoding.{Fields, spelling_of, displacement_length, AreFields}
use Rattle.x64_insn.specs.Chosen.{chosen_bytes, is_spelled}
use Rattle.x64_insn.proofs.ChosenSpelling.{chosen_spells}
use Rattle.jz_runs.specs.Trees.{done, op, quiet, choose, loop, each, call}
use Rattle.jz_placing.specs.Instructions.{Test, always, if_holds, Code}
use Rattle.jz_linear.specs.declared.line.Line.{Line}
use Rattle.jz_linear.specs.declared.line.Line.TheVariants as line
use Rattle.jz_linear.specs.Plain.{IsPlainTest, IsPlainCode}
use Rattle.jz_linear.specs.Lines.{negated, labels_in, parts_in, is_empty, test_lines, else_lines, choice_lines, jump_lines, turn_lines, loop_lines, lines_of, linear_of}
use Rattle.x64_assemble.specs.Assembling.{total}
use Rattle.x64_assemble.proofs.CodeFound.{total_more}
use Rattle.x64_assemble.proofs.Spellable.{ret_spelled}

-- ---- one instruction
option_short : (o : Option ℕ) → length (option_to_list o) ≤ 1
option_short None = omega arith
option_short (Some b) = omega arith

by_tests : (a b c d : Bool) → (if a then (if b then 4 else 0) else (if c then 1 else (if d then 4 else 0))) ≤ 4
by_tests true true c d = omega arith
by_tests true false c d = omega arith
by_tests false b true d = omega arith
by_tests false b false true = omega arith
by_tests false b false false = omega arith

displacement_short : (modrm sib : Option ℕ) → displacement_length modrm sib ≤ 4
unfolding displacement_length
displacement_short None sib = omega arith
displacement_short (Some m) sib = by_tests _ _ _ _

by_size : (s : Size) → immediate_by s ≤ 4
by_size S8 = omega arith
by_size S16 = omega arith
by_size S32 = omega arith
by_size S64 = omega arith

by_width : (w : Width) → width_length w ≤ 4
by_width Rel8 = omega arith
by_width Rel32 = omega arith

wider : (n : ℕ) → n ≤ 4 → n ≤ 8
wider n h = omega (arith, h)

if_first : (b : Bool) (s : Size) → (if b then immediate_by s else 0) ≤ 8
if_first true s = wider (immediate_by s) (by_size s)
if_first false s = omega arith

immediate_short : (r : Row) (operand_size rex : Option ℕ) (field : ℕ) → immediate_length r operand_size rex field ≤ 8
immediate_short (row.AluRmReg a o) p x f = omega arith
immediate_short (row.AluRegRm a o) p x f = omega arith
immediate_short (row.AluRmImm o) p x f = wider _ (by_size _)
immediate_short row.AluRmImm8 p x f = omega arith
immediate_short (row.MovRmReg o) p x f = omega arith
immediate_short (row.MovRegRm o) p x f = omega arith
immediate_short (row.MovRmImm o) p x f = wider _ (by_size _)
immediate_short row.MovRegImm64 p x f = omega arith
immediate_short (row.Extend s z) p x f = omega arith
immediate_short row.Lea p x f = omega arith
immediate_short (row.Group3 o) p x f = if_first _ _
immediate_short (row.IncDec o) p x f = omega arith
immediate_short row.ImulRegRm p x f = omega arith
immediate_short row.ImulRmImm p x f = wider _ (by_size _)
immediate_short row.ImulRmImm8 p x f = omega arith
immediate_short (row.ShiftImm o) p x f = omega arith
immediate_short (row.ShiftOne o) p x f = omega arith
immediate_short (row.ShiftCl o) p x f = omega arith
immediate_short row.Bswap p x f = omega arith
immediate_short row.CdqCqo p x f = omega arith
immediate_short (row.Set c) p x f = omega arith
immediate_short (row.Cmov c) p x f = omega arith
immediate_short (row.Jcc c w) p x f = wider _ (by_width w)
immediate_short (row.Jmp w) p x f = wider _ (by_width w)
immediate_short row.Call p x f = omega arith
immediate_short row.Ret p x f = omega arith

eight_long : (a b c d e g h i : List ℕ) → length (a ++ (b ++ (c ++ (d ++ (e ++ (g ++ (h ++ i))))))) ≡ length a + length b + length c + length d + length e + length g + length h + length i
eight_long a b c d e g h i =
    omega (arith, length-append a (b ++ (c ++ (d ++ (e ++ (g ++ (h ++ i)))))), length-append b (c ++ (d ++ (e ++ (g ++ (h ++ i))))), length-append c (d ++ (e ++ (g ++ (h ++ i)))), length-append d (e ++ (g ++ (h ++ i))), length-append e (g ++ (h ++ i)), length-append g (h ++ i), length-append h i)

fields_short : (f : Fields) → AreFields f → length (spelling_of f) ≤ 18
unfolding spelling_of
fields_short f are =
    let all = eight_long (option_to_list f.operand_size) (option_to_list f.rex) (option_to_list f.escape) (f.opcode ∷ []) (option_to_list f.modrm) (option_to_list f.sib) f.displacement f.immediate in
    let a = option_short f.operand_size in
    let b = option_short f.rex in
    let c = option_short f.escape in
    let m = option_short f.modrm in
    let s = option_short f.sib in
    let d = displacement_short f.modrm f.sib in
    let d1 = are.displacement.0 in
    let i = immediate_short are.row f.operand_size f.rex (reg_field (unwrap_or f.modrm 0)) in
    let i1 = are.immediate.0 in
    omega (arith, all, a, b, c, m, s, d, d1, i, i1)

insn_short : (i : Insn) → is_spelled i ≡ true → length (chosen_bytes i) ≤ 18
insn_short i h = let s = chosen_spells i h in let n = fields_short s.0 s.1 in let e = ap length s.2 in omega (arith, n, e)

-- ---- lines
total_both : (a b : List Line) → total (a ++ b) ≡ total a + total b
total_both [] b = omega arith
total_both (x ∷ a) b = let e = total_more x (a ++ b) in let f = total_more x a in let g = total_both a b in omega (arith, e, f, g)

test_short : (i : Option Insn) (c : _) → IsPlainTest (if_holds i c) → total (test_lines i) ≤ 18
test_short None c is = omega arith
test_short (Some i) c is = let n = insn_short i is.1 in let e = total_more (line.Insn i) [] in omega (arith, n, e)

else_short : (n : ℕ) (e : Bool) (b : List Line) → total (else_lines n e b) ≤ 5 + total b
else_short n true b = omega arith
else_short n false b = let e = total_both b (line.Label (n + 1) ∷ []) in omega (arith, e)

choice_short : (t : Test) (n : ℕ) (e : Bool) (a b : List Line) → IsPlainTest t → total (choice_lines t n e a b) ≤ 29 + total a + total b
choice_short always n e a b is = let x = total_both a (else_lines n e b) in let y = else_short n e b in omega (arith, x, y)
choice_short (if_holds i c) n e a b is =
    let x = total_both a (else_lines n e b) in
    let y = else_short n e b in
    let z = total_both (test_lines i) (line.Jcc (negated c) n ∷ (a ++ else_lines n e b)) in
    let w = test_short i c is in
    let j = total_more (line.Jcc (negated c) n) (a ++ else_lines n e b) in
    omega (arith, x, y, z, w, j)

jumps_short : (q : Bool) (c : _) (n : ℕ) (b : List Line) → total (jump_lines q c n b) ≤ 11 + total b
jumps_short false c n b =
    let x = total_both b (line.Jmp n ∷ line.Label (n + 1) ∷ []) in
    let y = total_more (line.Jcc (negated c) (n + 1)) (b ++ line.Jmp n ∷ line.Label (n + 1) ∷ []) in
    let z = total_more (line.Jmp n) (line.Label (n + 1) ∷ []) in
    omega (arith, x, y, z)
jumps_short true c n b = let y = total_more (line.Jcc c n) b in omega (arith, y)

turn_short : (q : Bool) (t : Test) (n : ℕ) (b : List Line) → IsPlainTest t → total (turn_lines q t n b) ≤ 29 + total b
turn_short q always n b is = let x = total_both b (line.Jmp n ∷ []) in let z = total_more (line.Jmp n) [] in omega (arith, x, z)
turn_short q (if_holds i c) n b is =
    let x = total_both (test_lines i) (jump_lines q c n b) in
    let y = jumps_short q c n b in
    let w = test_short i c is in
    omega (arith, x, y, w)

tree_short : (t : Code) (n : ℕ) → IsPlainCode t → total (lines_of t n) ≤ 29 * parts_in t
tree_short done n is = omega arith
tree_short (op i r) n is = let x = insn_short i is.0.1 in let y = tree_short r n is.1 in let z = total_more (line.Insn i) (lines_of r n) in omega (arith, x, y, z)
tree_short (quiet i r) n is = tree_short r n is
tree_short (choose c a b r) n is =
    let la = lines_of a (n + 2) in
    let lb = lines_of b (n + 2 + labels_in a) in
    let lr = lines_of r (n + 2 + labels_in a + labels_in b) in
    let x = total_both (choice_lines c n (is_empty b) la lb) lr in
    let y = choice_short c n (is_empty b) la lb is.0 in
    let ha = tree_short a (n + 2) is.2 in
    let hb = tree_short b (n + 2 + labels_in a) is.3 in
    let hr = tree_short r (n + 2 + labels_in a + labels_in b) is.4 in
    omega (arith, x, y, ha, hb, hr)
tree_short (loop q p c b r) n is =
    let lp = lines_of p (n + 2) in
    let lb = lines_of b (n + 2 + labels_in p) in
    let lr = lines_of r (n + 2 + labels_in p + labels_in b) in
    let x = total_both (loop_lines q c n lp lb) lr in
    let k = total_more (line.Label n) (lp ++ turn_lines q c n lb) in
    let y = total_both lp (turn_lines q c n lb) in
    let z = turn_short q c n lb is.0 in
    let hp = tree_short p (n + 2) is.2 in
    let hb = tree_short b (n + 2 + labels_in p) is.3 in
    let hr = tree_short r (n + 2 + labels_in p + labels_in b) is.4 in
    omega (arith, x, k, y, z, hp, hb, hr)
tree_short (each f b r) n is = absurd f
tree_short (call c b r) n is = absurd c

ret_short : length (chosen_bytes insn.Ret) ≤ 18
ret_short = insn_short insn.Ret ret_spelled

pub linear_short : (t : Code) → IsPlainCode t → total (linear_of t) ≤ 29 * parts_in t + 18
linear_short t is =
    let x = total_both (lines_of t 0) (line.Insn insn.Ret ∷ []) in
    let y = tree_short t 0 is in
    let z = total_more (line.Insn insn.Ret) [] in
    let r = ret_short in
    omega (arith, x, y, z, r)

pub few_labels : (t : Code) → labels_in t ≤ 2 * parts_in t
few_labels done = omega arith
few_labels (op i r) = let h = few_labels r in omega (arith, h)
few_labels (quiet i r) = few_labels r
few_labels (choose c a b r) = let ha = few_labels a in let hb = few_labels b in let hr = few_labels r in omega (arith, ha, hb, hr)
few_labels (loop q p c b r) = let hp = few_labels p in let hb = few_labels b in let hr = few_labels r in omega (arith, hp, hb, hr)
few_labels (each f b r) = absurd f
few_labels (call c b r) = absurd c
