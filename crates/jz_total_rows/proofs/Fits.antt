-- Operands that an instruction has fields for, and the operations of them that can be encoded.
use Rattle.std.proofs.Common.{◌≡◌, ℕ, ◌*◌, ◌<◌, ◌≤◌, Bool, true, false, not, ◌&&◌, Option, Some, None, refl, sym, ap, subst, arith, ℤ, pos, ◌+ℤ◌, ◌-ℤ◌, ◌*ℤ◌, ◌<ℤ◌, ◌≤ℤ◌}
use Rattle.std.specs.Prelude.{nat_lt, int_le, int_lt}
use Rattle.std.proofs.lemmas.Bool.{false≢true, true≢false, and_parts, cond_both, ltb-true, ltb-false, lt-ltb}
use Rattle.std.proofs.lemmas.Int.{ints}
use Rattle.jz_words.specs.declared.size.Size.{Size}
use Rattle.jz_words.specs.declared.size.Size.TheVariants.{S8, S16, S32, S64}
use Rattle.jz_words.specs.Sizes.{bits_of, bytes_of, half, modulus, signed}
use Rattle.jz_words.specs.Words.{residue}
use Rattle.jz_words.specs.Readings.{reading_of, fits_bytes}
use Rattle.jz_words.proofs.Residues.{residue_below, signed_of_residue}
use Rattle.x64_insn.specs.declared.types.Alu.{Alu}
use Rattle.x64_insn.specs.declared.types.One.{One}
use Rattle.x64_insn.specs.declared.types.One.TheVariants as one
use Rattle.x64_insn.specs.declared.types.Shift.{Shift}
use Rattle.x64_insn.specs.declared.types.Place.TheVariants as place
use Rattle.x64_insn.specs.declared.types.Reg.{Reg}
use Rattle.x64_insn.specs.declared.types.Reg.TheVariants as reg
use Rattle.x64_insn.specs.declared.types.Mem.{Mem}
use Rattle.x64_insn.specs.declared.types.Operand.TheVariants as operand
use Rattle.x64_insn.specs.Table.{immediate_by}
use Rattle.x64_insn.specs.Chosen.{is_spelled, is_address, is_rm, is_test, mov_length}
use Rattle.x64_insn.proofs.Immediates.{fits_within, within_fits}
use Rattle.jz_operations.specs.declared.operation.Pinned.{Pinned}
use Rattle.jz_operations.specs.declared.operation.Address.{Address}
use Rattle.jz_operations.specs.declared.operation.Arg.{Arg}
use Rattle.jz_operations.specs.declared.operation.Arg.TheVariants as arg
use Rattle.jz_operations.specs.declared.operation.Action.TheVariants as action
use Rattle.jz_operations.specs.declared.operation.Condition.{Condition}
use Rattle.jz_operations.specs.Insns.{mem_of, slot_of, operand_of}
use Rattle.jz_encodable.specs.Encodable.{is_spelled_at}
use Rattle.jz_row_operations.specs.Rows.{IsWide}
use Rattle.jz_homes.specs.Sums.{Sum, IsAddress, of_base, of_both, of_swapped}
use Rattle.jz_total_rows.proofs.Summed.{is_field, AreFields}

-- ---- operands
-- what can be written, and what stands in memory or in a cell
abbrev pub is_place : Arg → Bool
is_place (arg.Var v) = true
is_place (arg.Mem m) = true
is_place (arg.Cell c) = true
is_place _ = false

abbrev pub is_kept : Arg → Bool
is_kept (arg.Mem m) = true
is_kept (arg.Cell c) = true
is_kept _ = false

-- with each variable in RAX, and each stack variable so far above the stack pointer
abbrev pub fit_at : ℕ → Size → Arg → Bool
fit_at d z (arg.Imm i) = fits_bytes (immediate_by z) i
fit_at d z (arg.Mem m) = is_address (mem_of (λ v. place.Reg reg.Rax) (λ v. d) m)
fit_at d z (arg.Cell c) = is_address (slot_of (λ v. place.Reg reg.Rax) (λ v. d) c z)
fit_at d z _ = true

-- in a frame below its limit
abbrev pub Fits : Size → Arg → Type 0
Fits z x = (d : ℕ) → d ≤ 65536 → fit_at d z x ≡ true

both_true : (a b : Bool) → a ≡ true → b ≡ true → (a && b) ≡ true
both_true true b e f = f
both_true false b e f = e

-- ---- numbers
-- the signed reading of a word is in the range of its size
signed_in : (z : Size) (a : ℕ) → modulus z ≡ 2 * half z → a < modulus z → ((pos 0 -ℤ pos (half z)) ≤ℤ signed z a) × (signed z a <ℤ pos (half z))
unfolding signed
signed_in z a e l =
    cond_both (nat_lt a (half z)) (pos a) (pos a -ℤ pos (modulus z)) (λ i. ((pos 0 -ℤ pos (half z)) ≤ℤ i) × (i <ℤ pos (half z)))
    (λ t. let k = ltb-true a (half z) t in (omega (arith, ints), omega (arith, ints, k)))
    (λ f. let k = ltb-false a (half z) f in (omega (arith, ints, k, e), omega (arith, ints, l, e)))

pub reading_in : (z : Size) (i : ℤ) → modulus z ≡ 2 * half z → ((pos 0 -ℤ pos (half z)) ≤ℤ reading_of z i) × (reading_of z i <ℤ pos (half z))
reading_in z i e = signed_in z (residue z i) e (residue_below z i)

-- a number that 32 bits hold is an immediate of its size, and one of 64 bits is one of MOV
pub immediate_fits : (z : Size) (i : ℤ) → fits_bytes 4 (reading_of z i) ≡ true → fits_bytes (immediate_by z) (reading_of z i) ≡ true
immediate_fits S8 i h = let r = reading_in S8 i refl in within_fits 1 (reading_of S8 i) r.0 r.1
immediate_fits S16 i h = let r = reading_in S16 i refl in within_fits 2 (reading_of S16 i) r.0 r.1
immediate_fits S32 i h = h
immediate_fits S64 i h = h

pub moved_fits : (z : Size) (i : ℤ) (r : Reg) → fits_bytes (mov_length z (operand.Reg r)) (reading_of z i) ≡ true
moved_fits S8 i r = let w = reading_in S8 i refl in within_fits 1 (reading_of S8 i) w.0 w.1
moved_fits S16 i r = let w = reading_in S16 i refl in within_fits 2 (reading_of S16 i) w.0 w.1
moved_fits S32 i r = let w = reading_in S32 i refl in within_fits 4 (reading_of S32 i) w.0 w.1
moved_fits S64 i r = let w = reading_in S64 i refl in within_fits 8 (reading_of S64 i) w.0 w.1

-- ---- addresses
pub address_fits : (z : Size) (t : Sum) (m : Address) → IsAddress t m → AreFields t.terms → fits_bytes 4 (reading_of S64 t.number) ≡ true → Fits z (arg.Mem m)
address_fits z t m (of_base b i) f h = λ d l. h
address_fits z t m (of_both b j k i) f h = λ d l. both_true (is_field k) (fits_bytes 4 (reading_of S64 i)) f.1.0 h
address_fits z t m (of_swapped b j k i ne) f h = λ d l. both_true (is_field k) (fits_bytes 4 (reading_of S64 i)) f.0 h

-- ---- cells
-- where a displacement is one of 32 bits
cell_in : (z : Size) (d : ℕ) (i : ℤ) → d ≤ 65536 → (pos 0 -ℤ pos 2147483648) ≤ℤ (i *ℤ pos (bytes_of z)) → (i *ℤ pos (bytes_of z)) <ℤ pos 1073741824 → fits_bytes 4 (pos d +ℤ (pos (bytes_of z) *ℤ i)) ≡ true
cell_in S8 d i l a b = within_fits 4 (pos d +ℤ (pos 1 *ℤ i)) (omega (arith, ints, a)) (omega (arith, ints, b, l))
cell_in S16 d i l a b = within_fits 4 (pos d +ℤ (pos 2 *ℤ i)) (omega (arith, ints, a)) (omega (arith, ints, b, l))
cell_in S32 d i l a b = within_fits 4 (pos d +ℤ (pos 4 *ℤ i)) (omega (arith, ints, a)) (omega (arith, ints, b, l))
cell_in S64 d i l a b = within_fits 4 (pos d +ℤ (pos 8 *ℤ i)) (omega (arith, ints, a)) (omega (arith, ints, b, l))

-- and then the offset is its own signed reading
offset_is : (z : Size) (i : ℤ) → (pos 0 -ℤ pos 2147483648) ≤ℤ (i *ℤ pos (bytes_of z)) → (i *ℤ pos (bytes_of z)) <ℤ pos 1073741824 → reading_of S64 i ≡ i
offset_is S8 i a b = signed_of_residue S64 i (omega (arith, ints, a)) (omega (arith, ints, b))
offset_is S16 i a b = signed_of_residue S64 i (omega (arith, ints, a)) (omega (arith, ints, b))
offset_is S32 i a b = signed_of_residue S64 i (omega (arith, ints, a)) (omega (arith, ints, b))
offset_is S64 i a b = signed_of_residue S64 i (omega (arith, ints, a)) (omega (arith, ints, b))

ranges : (i low high : ℤ) → (int_le low i && int_lt i high) ≡ true → (low ≤ℤ i) × (i <ℤ high)
ranges i low high h = let t = and_parts (int_le low i) (int_lt i high) h in (grind (arith, ints), grind (arith, ints))

abbrev pub in_range : Size → ℤ → Bool
in_range z i = int_le (pos 0 -ℤ pos 2147483648) (i *ℤ pos (bytes_of z)) && int_lt (i *ℤ pos (bytes_of z)) (pos 1073741824)

index_field : (z : Size) → is_field (bytes_of z) ≡ true
index_field S8 = refl
index_field S16 = refl
index_field S32 = refl
index_field S64 = refl

pub cell_fits : (z : Size) (w : ℕ) (b : Option ℕ) (i : ℤ) → in_range z i ≡ true → Fits z (arg.Cell (record { of = w; index = b; offset = reading_of S64 i }))
cell_fits z w b i h =
    let r = ranges (i *ℤ pos (bytes_of z)) (pos 0 -ℤ pos 2147483648) (pos 1073741824) h in
    subst (λ k. Fits z (arg.Cell (record { of = w; index = b; offset = k }))) (sym (offset_is z i r.0 r.1)) (by_index b r.0 r.1)
  where
    by_index : (b : Option ℕ) → (pos 0 -ℤ pos 2147483648) ≤ℤ (i *ℤ pos (bytes_of z)) → (i *ℤ pos (bytes_of z)) <ℤ pos 1073741824 → Fits z (arg.Cell (record { of = w; index = b; offset = i }))
    by_index None p q = λ d l. cell_in z d i l p q
    by_index (Some v) p q = λ d l. both_true (is_field (bytes_of z)) (fits_bytes 4 (pos d +ℤ (pos (bytes_of z) *ℤ i))) (index_field z) (cell_in z d i l p q)

scalar_in : (z : Size) (d : ℕ) → d ≤ 65536 → fits_bytes 4 (pos d +ℤ (pos (bytes_of z) *ℤ pos 0)) ≡ true
scalar_in S8 d l = within_fits 4 (pos d +ℤ (pos 1 *ℤ pos 0)) (omega (arith, ints)) (omega (arith, ints, l))
scalar_in S16 d l = within_fits 4 (pos d +ℤ (pos 2 *ℤ pos 0)) (omega (arith, ints)) (omega (arith, ints, l))
scalar_in S32 d l = within_fits 4 (pos d +ℤ (pos 4 *ℤ pos 0)) (omega (arith, ints)) (omega (arith, ints, l))
scalar_in S64 d l = within_fits 4 (pos d +ℤ (pos 8 *ℤ pos 0)) (omega (arith, ints)) (omega (arith, ints, l))

pub scalar_fits : (z : Size) (w : ℕ) → Fits z (arg.Cell (record { of = w; index = None; offset = pos 0 }))
scalar_fits z w = λ d l. scalar_in z d l

-- ---- operations
no_two : true ≡ false → (P : Type 0) → P
no_two e P = absurd (true≢false e)

pub alu_spelled : (d : ℕ) (op : Alu) (z : Size) (b y : Arg) (c : Option Pinned) → is_test op ≡ false → is_place b ≡ true → (is_kept b && is_kept y) ≡ false → fit_at d z b ≡ true → fit_at d z y ≡ true → is_spelled_at d (action.Alu op z b y c) ≡ true
unfolding is_spelled
alu_spelled d op z (arg.Var v) (arg.Var w) c t p n f g = refl
alu_spelled d op z (arg.Var v) (arg.Imm i) c t p n f g = g
alu_spelled d op z (arg.Var v) (arg.Mem m) c t p n f g = both_true (not (is_test op)) (fit_at d z (arg.Mem m)) (ap not t) g
alu_spelled d op z (arg.Var v) (arg.Cell k) c t p n f g = both_true (not (is_test op)) (fit_at d z (arg.Cell k)) (ap not t) g
alu_spelled d op z (arg.Var v) (arg.At r q) c t p n f g = refl
alu_spelled d op z (arg.Mem m) (arg.Var w) c t p n f g = f
alu_spelled d op z (arg.Mem m) (arg.Imm i) c t p n f g = both_true (fit_at d z (arg.Mem m)) (fits_bytes (immediate_by z) i) f g
alu_spelled d op z (arg.Mem m) (arg.Mem k) c t p n f g = no_two n _
alu_spelled d op z (arg.Mem m) (arg.Cell k) c t p n f g = no_two n _
alu_spelled d op z (arg.Mem m) (arg.At r q) c t p n f g = f
alu_spelled d op z (arg.Cell m) (arg.Var w) c t p n f g = f
alu_spelled d op z (arg.Cell m) (arg.Imm i) c t p n f g = both_true (fit_at d z (arg.Cell m)) (fits_bytes (immediate_by z) i) f g
alu_spelled d op z (arg.Cell m) (arg.Mem k) c t p n f g = no_two n _
alu_spelled d op z (arg.Cell m) (arg.Cell k) c t p n f g = no_two n _
alu_spelled d op z (arg.Cell m) (arg.At r q) c t p n f g = f
alu_spelled d op z (arg.Imm i) y c t p n f g = absurd (false≢true p)
alu_spelled d op z (arg.At r q) y c t p n f g = absurd (false≢true p)

four_eight : (i : ℤ) → fits_bytes 4 i ≡ true → fits_bytes 8 i ≡ true
four_eight i h = let w = fits_within 4 i h in let a = w.0 in let b = w.1 in within_fits 8 i (omega (arith, ints, a)) (omega (arith, ints, b))

pub longer : (z : Size) (i : ℤ) (r : Reg) → fits_bytes (immediate_by z) i ≡ true → fits_bytes (mov_length z (operand.Reg r)) i ≡ true
longer S8 i r h = h
longer S16 i r h = h
longer S32 i r h = h
longer S64 i r h = four_eight i h

shorter : (z : Size) (i : ℤ) (m : Mem) → fits_bytes (immediate_by z) i ≡ true → fits_bytes (mov_length z (operand.Mem m)) i ≡ true
shorter S8 i m h = h
shorter S16 i m h = h
shorter S32 i m h = h
shorter S64 i m h = h

pub mov_spelled : (d : ℕ) (z : Size) (b x : Arg) → is_place b ≡ true → (is_kept b && is_kept x) ≡ false → fit_at d z b ≡ true → fit_at d z x ≡ true → is_spelled_at d (action.Mov z b x) ≡ true
unfolding is_spelled
mov_spelled d z (arg.Var v) (arg.Var w) p n f g = refl
mov_spelled d z (arg.Var v) (arg.Imm i) p n f g = longer z i reg.Rax g
mov_spelled d z (arg.Var v) (arg.Mem m) p n f g = g
mov_spelled d z (arg.Var v) (arg.Cell k) p n f g = g
mov_spelled d z (arg.Var v) (arg.At r q) p n f g = refl
mov_spelled d z (arg.Mem m) (arg.Var w) p n f g = f
mov_spelled d z (arg.Mem m) (arg.Imm i) p n f g = both_true (fit_at d z (arg.Mem m)) _ f (shorter z i (mem_of (λ v. place.Reg reg.Rax) (λ v. d) m) g)
mov_spelled d z (arg.Mem m) (arg.Mem k) p n f g = no_two n _
mov_spelled d z (arg.Mem m) (arg.Cell k) p n f g = no_two n _
mov_spelled d z (arg.Mem m) (arg.At r q) p n f g = f
mov_spelled d z (arg.Cell m) (arg.Var w) p n f g = f
mov_spelled d z (arg.Cell m) (arg.Imm i) p n f g = both_true (fit_at d z (arg.Cell m)) _ f (shorter z i (slot_of (λ v. place.Reg reg.Rax) (λ v. d) m z) g)
mov_spelled d z (arg.Cell m) (arg.Mem k) p n f g = no_two n _
mov_spelled d z (arg.Cell m) (arg.Cell k) p n f g = no_two n _
mov_spelled d z (arg.Cell m) (arg.At r q) p n f g = f
mov_spelled d z (arg.Imm i) x p n f g = absurd (false≢true p)
mov_spelled d z (arg.At r q) x p n f g = absurd (false≢true p)

-- any number goes to a register by itself
pub number_spelled : (d : ℕ) (z : Size) (v : ℕ) (i : ℤ) → is_spelled_at d (action.Mov z (arg.Var v) (arg.Imm (reading_of z i))) ≡ true
unfolding is_spelled
number_spelled d z v i = moved_fits z i reg.Rax

pub one_spelled : (d : ℕ) (op : One) (z : Size) (b : Arg) → is_place b ≡ true → fit_at d z b ≡ true → is_spelled_at d (action.One op z b) ≡ true
unfolding is_spelled
one_spelled d op z (arg.Var v) p f = refl
one_spelled d op z (arg.Mem m) p f = f
one_spelled d op z (arg.Cell m) p f = f
one_spelled d op z (arg.Imm i) p f = absurd (false≢true p)
one_spelled d op z (arg.At r q) p f = absurd (false≢true p)

counts : (n : ℕ) (z : Size) → n < bits_of z → nat_lt n 256 ≡ true
counts n S8 l = lt-ltb n 256 (omega (arith, l))
counts n S16 l = lt-ltb n 256 (omega (arith, l))
counts n S32 l = lt-ltb n 256 (omega (arith, l))
counts n S64 l = lt-ltb n 256 (omega (arith, l))

pub shift_spelled : (d : ℕ) (kind : Shift) (z : Size) (b : Arg) (n : ℕ) → n < bits_of z → is_place b ≡ true → fit_at d z b ≡ true → is_spelled_at d (action.Shift kind z b n) ≡ true
unfolding is_spelled
shift_spelled d kind z (arg.Var v) n l p f = counts n z l
shift_spelled d kind z (arg.Mem m) n l p f = both_true (fit_at d z (arg.Mem m)) (nat_lt n 256) f (counts n z l)
shift_spelled d kind z (arg.Cell m) n l p f = both_true (fit_at d z (arg.Cell m)) (nat_lt n 256) f (counts n z l)
shift_spelled d kind z (arg.Imm i) n l p f = absurd (false≢true p)
shift_spelled d kind z (arg.At r q) n l p f = absurd (false≢true p)

pub shift_by_spelled : (d : ℕ) (kind : Shift) (z : Size) (b : Arg) (k : Pinned) → is_place b ≡ true → fit_at d z b ≡ true → is_spelled_at d (action.ShiftBy kind z b k) ≡ true
unfolding is_spelled
shift_by_spelled d kind z (arg.Var v) k p f = refl
shift_by_spelled d kind z (arg.Mem m) k p f = both_true (fit_at d z (arg.Mem m)) true f refl
shift_by_spelled d kind z (arg.Cell m) k p f = both_true (fit_at d z (arg.Cell m)) true f refl
shift_by_spelled d kind z (arg.Imm i) k p f = absurd (false≢true p)
shift_by_spelled d kind z (arg.At r q) k p f = absurd (false≢true p)

-- what is read by an operation of 16 bits or more
pub imul_spelled : (d : ℕ) (z : Size) (v : ℕ) (y : Arg) → IsWide z → is_place y ≡ true → fit_at d z y ≡ true → is_spelled_at d (action.Imul z v y) ≡ true
unfolding is_spelled
imul_spelled d S8 v y w p f = absurd w
imul_spelled d S16 v y w p f = one_spelled d one.Not S16 y p f
imul_spelled d S32 v y w p f = one_spelled d one.Not S32 y p f
imul_spelled d S64 v y w p f = one_spelled d one.Not S64 y p f

pub cmov_spelled : (d : ℕ) (c : Condition) (z : Size) (v : ℕ) (y : Arg) → IsWide z → is_place y ≡ true → fit_at d z y ≡ true → is_spelled_at d (action.Cmov c z v y) ≡ true
unfolding is_spelled
cmov_spelled d c S8 v y w p f = absurd w
cmov_spelled d c S16 v y w p f = one_spelled d one.Not S16 y p f
cmov_spelled d c S32 v y w p f = one_spelled d one.Not S32 y p f
cmov_spelled d c S64 v y w p f = one_spelled d one.Not S64 y p f

by_number : (d : ℕ) (z : Size) (v : ℕ) (x : Arg) (i : ℤ) → is_place x ≡ true → fit_at d z x ≡ true → fits_bytes (immediate_by z) i ≡ true
    → (is_rm (operand_of (λ v. place.Reg reg.Rax) (λ v. d) x z) && fits_bytes (immediate_by z) i) ≡ true
by_number d z v (arg.Var w) i p f g = g
by_number d z v (arg.Mem m) i p f g = both_true (fit_at d z (arg.Mem m)) (fits_bytes (immediate_by z) i) f g
by_number d z v (arg.Cell m) i p f g = both_true (fit_at d z (arg.Cell m)) (fits_bytes (immediate_by z) i) f g
by_number d z v (arg.Imm j) i p f g = absurd (false≢true p)
by_number d z v (arg.At r q) i p f g = absurd (false≢true p)

pub imul_by_spelled : (d : ℕ) (z : Size) (v : ℕ) (x : Arg) (i : ℤ) → IsWide z → is_place x ≡ true → fit_at d z x ≡ true → fits_bytes (immediate_by z) i ≡ true → is_spelled_at d (action.ImulBy z v x i) ≡ true
unfolding is_spelled
imul_by_spelled d S8 v x i w p f g = absurd w
imul_by_spelled d S16 v x i w p f g = by_number d S16 v x i p f g
imul_by_spelled d S32 v x i w p f g = by_number d S32 v x i p f g
imul_by_spelled d S64 v x i w p f g = by_number d S64 v x i p f g

-- ---- a smaller word in a larger one
as_one : (d : ℕ) (from : Size) (y : Arg) → is_place y ≡ true → fit_at d from y ≡ true → is_rm (operand_of (λ v. place.Reg reg.Rax) (λ v. d) y from) ≡ true
as_one d z (arg.Var v) p f = refl
as_one d z (arg.Mem m) p f = f
as_one d z (arg.Cell m) p f = f
as_one d z (arg.Imm i) p f = absurd (false≢true p)
as_one d z (arg.At r q) p f = absurd (false≢true p)

pub extend_spelled : (d : ℕ) (sign : Bool) (to from : Size) (v : ℕ) (y : Arg) → bits_of from < bits_of to → is_place y ≡ true → fit_at d from y ≡ true → is_spelled_at d (action.Extend sign to from v y) ≡ true
unfolding is_spelled
extend_spelled d sign S8 S8 v y l p f = absurd (omega (arith, l))
extend_spelled d sign S8 S16 v y l p f = absurd (omega (arith, l))
extend_spelled d sign S8 S32 v y l p f = absurd (omega (arith, l))
extend_spelled d sign S8 S64 v y l p f = absurd (omega (arith, l))
extend_spelled d sign S16 S16 v y l p f = absurd (omega (arith, l))
extend_spelled d sign S16 S32 v y l p f = absurd (omega (arith, l))
extend_spelled d sign S16 S64 v y l p f = absurd (omega (arith, l))
extend_spelled d sign S32 S32 v y l p f = absurd (omega (arith, l))
extend_spelled d sign S32 S64 v y l p f = absurd (omega (arith, l))
extend_spelled d sign S64 S64 v y l p f = absurd (omega (arith, l))
extend_spelled d true S16 S8 v y l p f = as_one d S8 y p f
extend_spelled d true S32 S8 v y l p f = as_one d S8 y p f
extend_spelled d true S64 S8 v y l p f = as_one d S8 y p f
extend_spelled d true S32 S16 v y l p f = as_one d S16 y p f
extend_spelled d true S64 S16 v y l p f = as_one d S16 y p f
extend_spelled d true S64 S32 v y l p f = as_one d S32 y p f
extend_spelled d false S16 S8 v y l p f = as_one d S8 y p f
extend_spelled d false S32 S8 v y l p f = as_one d S8 y p f
extend_spelled d false S64 S8 v y l p f = as_one d S8 y p f
extend_spelled d false S32 S16 v y l p f = as_one d S16 y p f
extend_spelled d false S64 S16 v y l p f = as_one d S16 y p f
extend_spelled d false S64 S32 v y l p f = moved_spelled y p f
  where
    moved_spelled : (y : Arg) → is_place y ≡ true → fit_at d S32 y ≡ true → is_spelled_at d (action.Mov S32 (arg.Var v) y) ≡ true
    moved_spelled (arg.Var w) p f = mov_spelled d S32 (arg.Var v) (arg.Var w) refl refl refl f
    moved_spelled (arg.Mem m) p f = mov_spelled d S32 (arg.Var v) (arg.Mem m) refl refl refl f
    moved_spelled (arg.Cell m) p f = mov_spelled d S32 (arg.Var v) (arg.Cell m) refl refl refl f
    moved_spelled (arg.Imm i) p f = absurd (false≢true p)
    moved_spelled (arg.At r q) p f = absurd (false≢true p)
