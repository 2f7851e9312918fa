-- An operation whose instruction has a spelling with its variables in RAX, and its stack variables
-- at 0 and at 65,536, has one wherever they are.
use Rattle.std.proofs.Common.{◌≡◌, ℕ, ◌≤◌, Bool, true, false, not, ◌&&◌, inl, inr, List, [], ◌∷◌, ◌++◌, Option, Some, None, refl, subst, arith, ℤ, pos, ◌+ℤ◌, ◌*ℤ◌}
use Rattle.std.specs.Prelude.{◌≢◌, ◌==◌, ◌||◌, IsTrue, nat_eq}
use Rattle.std.specs.Option.{option_to_list}
use Rattle.std.proofs.lemmas.Bool.{and_parts, eq-eqb, eqb-true, or_cases, or_left, or_right}
use Rattle.std.proofs.lemmas.Int.{ints}
use Rattle.jz_words.specs.declared.size.Size.{Size}
use Rattle.jz_words.specs.declared.size.Size.TheVariants.{S8, S16, S32, S64}
use Rattle.jz_words.specs.Sizes.{bytes_of}
use Rattle.x64_insn.specs.declared.types.Place.{Place}
use Rattle.x64_insn.specs.declared.types.Place.TheVariants as place
use Rattle.x64_insn.specs.declared.types.Reg.{Reg}
use Rattle.x64_insn.specs.declared.types.Reg.TheVariants as reg
use Rattle.x64_insn.specs.declared.types.Alu.{Alu}
use Rattle.x64_insn.specs.declared.types.Wide.{Wide}
use Rattle.x64_insn.specs.declared.types.Wide.TheVariants as wide
use Rattle.x64_insn.specs.declared.types.Count.TheVariants as count
use Rattle.x64_insn.specs.declared.types.Operand.{Operand}
use Rattle.x64_insn.specs.Table.{number_of, immediate_by}
use Rattle.x64_insn.specs.Chosen.{fits_bytes, is_index, is_address, is_rm, is_register, is_test, are_alu_operands, mov_length, are_mov_operands, is_extension, is_no_byte, is_count, is_spelled}
use Rattle.x64_insn.proofs.Immediates.{fits_within, within_fits}
use Rattle.x64_insn.proofs.Registers.{same_register}
use Rattle.jz_ir.specs.Paths.{among}
use Rattle.jz_operations.specs.declared.operation.Arg.{Arg}
use Rattle.jz_operations.specs.declared.operation.Arg.TheVariants as arg
use Rattle.jz_operations.specs.declared.operation.Action.{Action}
use Rattle.jz_operations.specs.declared.operation.Action.TheVariants as action
use Rattle.jz_operations.specs.declared.operation.Operation.{Operation}
use Rattle.jz_operations.specs.declared.operation.Pinned.{Pinned}
use Rattle.jz_operations.specs.declared.rows.Input.{Input}
use Rattle.jz_operations.specs.declared.rows.Input.TheVariants.{Word}
use Rattle.jz_operations.specs.Rows.{low_at, high_at, wide_inputs, inputs, outputs, accesses}
use Rattle.jz_operations.specs.Reading.{index_var, address_vars, found_by, is_var, reads_in, found_in, asked_by}
use Rattle.jz_operations.specs.Insns.{reg_of, index_of, mem_of, scaled_by, operand_of, extend_of, insn_of, Fits, AllFit}
use Rattle.jz_encodable.specs.Encodable.{AreNear, IsOffStack, IsEncodable, is_spelled_at, can_encode}

-- ---- tests and lists
both_true : (a b : Bool) → a ≡ true → b ≡ true → (a && b) ≡ true
both_true true b e f = f
both_true false b e f = e

first : (a b : Bool) → (a && b) ≡ true → a ≡ true
first a b h = (and_parts a b h).0

second : (a b : Bool) → (a && b) ≡ true → b ≡ true
second a b h = (and_parts a b h).1

front : (xs ys : List ℕ) (v : ℕ) → IsTrue (among xs v) → IsTrue (among (xs ++ ys) v)
front [] ys v h = absurd cc
front (x ∷ xs) ys v h = elim (or_cases (nat_eq x v) (among xs v) h) [
  | inl e ↦ or_left (nat_eq x v) (among (xs ++ ys) v) e
  | inr r ↦ or_right (nat_eq x v) (among (xs ++ ys) v) (front xs ys v r)
]

back : (xs ys : List ℕ) (v : ℕ) → IsTrue (among ys v) → IsTrue (among (xs ++ ys) v)
back [] ys v h = h
back (x ∷ xs) ys v h = or_right (nat_eq x v) (among (xs ++ ys) v) (back xs ys v h)

itself : (v : ℕ) (vs : List ℕ) → IsTrue (among (v ∷ vs) v)
itself v vs = or_left (nat_eq v v) (among vs v) (eq-eqb v v refl)

-- ---- displacements
between : (n : ℕ) (i : ℤ) → n ≤ 65536 → fits_bytes 4 (pos 0 +ℤ i) ≡ true → fits_bytes 4 (pos 65536 +ℤ i) ≡ true → fits_bytes 4 (pos n +ℤ i) ≡ true
between n i le a b =
    let p = fits_within 4 (pos 0 +ℤ i) a in
    let q = fits_within 4 (pos 65536 +ℤ i) b in
    let p0 = p.0 in
    let q1 = q.1 in
    within_fits 4 (pos n +ℤ i) (omega (arith, ints, p0, le)) (omega (arith, ints, q1, le))

-- ---- indexes
no_stack_pointer : (n : ℕ) (b : Bool) → nat_eq n 4 ≡ b → (n ≡ 4 → ⊥) → not b ≡ true
no_stack_pointer n true e ne = absurd (ne (eqb-true n 4 e))
no_stack_pointer n false e ne = refl

not_four : (r : Reg) → r ≢ reg.Rsp → not (number_of r == 4) ≡ true
not_four r ne = no_stack_pointer (number_of r) (number_of r == 4) refl (λ e. ne (same_register r reg.Rsp e))

scale_of : (s : Size) → ((bytes_of s == 1) || ((bytes_of s == 2) || ((bytes_of s == 4) || (bytes_of s == 8)))) ≡ true
scale_of S8 = refl
scale_of S16 = refl
scale_of S32 = refl
scale_of S64 = refl

abbrev in_rax : ℕ → Place
in_rax v = place.Reg reg.Rax

abbrev at_end : ℕ → ℕ → ℕ
at_end d v = d

module _ (places : ℕ → Place) (slots : ℕ → ℕ) (near : AreNear slots) where
  abbrev Away : List ℕ → Type 0
  Away vs = (v : ℕ) → IsTrue (among vs v) → reg_of (places v) ≢ reg.Rsp

  abbrev here : Arg → Size → Operand
  here a s = operand_of places slots a s

  abbrev low : Arg → Size → Operand
  low a s = operand_of in_rax (at_end 0) a s

  abbrev high : Arg → Size → Operand
  high a s = operand_of in_rax (at_end 65536) a s

  index_spelled : (i : ℕ × ℕ) → reg_of (places i.0) ≢ reg.Rsp → is_index (index_of in_rax (at_end 0) (Some i)) ≡ true → is_index (index_of places slots (Some i)) ≡ true
  index_spelled i away h =
      both_true (not (number_of (reg_of (places i.0)) == 4)) ((i.1 == 1) || ((i.1 == 2) || ((i.1 == 4) || (i.1 == 8)))) (not_four (reg_of (places i.0)) away) h

  address_by : (b : Option ℕ) (i : Option (ℕ × ℕ)) (d : ℤ) → Away (option_to_list b ++ index_var i) → is_address (mem_of in_rax (at_end 0) (record { base = b; index = i; disp = d })) ≡ true
      → is_address (mem_of places slots (record { base = b; index = i; disp = d })) ≡ true
  address_by None None d away h = h
  address_by (Some v) None d away h = h
  address_by None (Some i) d away h =
      let s = is_index (index_of in_rax (at_end 0) (Some i)) in
      both_true (is_index (index_of places slots (Some i))) (fits_bytes 4 d) (index_spelled i (away i.0 (itself i.0 [])) (first s (fits_bytes 4 d) h)) (second s (fits_bytes 4 d) h)
  address_by (Some b) (Some i) d away h =
      let s = is_index (index_of in_rax (at_end 0) (Some i)) in
      both_true (is_index (index_of places slots (Some i))) (fits_bytes 4 d) (index_spelled i (away i.0 (back (b ∷ []) (i.0 ∷ []) i.0 (itself i.0 []))) (first s (fits_bytes 4 d) h))
      (second s (fits_bytes 4 d) h)

  cell_by : (s : Size) (i : Option ℕ) (n : ℕ) (x : ℤ) → n ≤ 65536 → Away (option_to_list i) → (is_index (scaled_by in_rax (at_end 0) s i) && fits_bytes 4 (pos 0 +ℤ x)) ≡ true
      → (is_index (scaled_by in_rax (at_end 65536) s i) && fits_bytes 4 (pos 65536 +ℤ x)) ≡ true → (is_index (scaled_by places slots s i) && fits_bytes 4 (pos n +ℤ x)) ≡ true
  cell_by s None n x le away l h = between n x le l h
  cell_by s (Some v) n x le away l h =
      let k = is_index (scaled_by in_rax (at_end 0) s (Some v)) in
      both_true (is_index (scaled_by places slots s (Some v))) (fits_bytes 4 (pos n +ℤ x))
      (both_true (not (number_of (reg_of (places v)) == 4)) ((bytes_of s == 1) || ((bytes_of s == 2) || ((bytes_of s == 4) || (bytes_of s == 8)))) (not_four (reg_of (places v)) (away v (itself v []))) (scale_of s))
      (between n x le (second k (fits_bytes 4 (pos 0 +ℤ x)) l) (second k (fits_bytes 4 (pos 65536 +ℤ x)) h))

  -- ---- operands
  rm_spelled : (a : Arg) (s : Size) → Away (found_by a) → is_rm (low a s) ≡ true → is_rm (high a s) ≡ true → is_rm (here a s) ≡ true
  rm_spelled (arg.Var v) s away l h = refl
  rm_spelled (arg.Imm i) s away l h = l
  rm_spelled (arg.Mem a) s away l h = address_by a.base a.index a.disp away l
  rm_spelled (arg.Cell c) s away l h = cell_by s c.index (slots c.of) (pos (bytes_of s) *ℤ c.offset) (near c.of) away l h
  rm_spelled (arg.At r p) s away l h = refl

  register_is : (a : Arg) (s : Size) → is_register (low a s) ≡ true → is_register (here a s) ≡ true
  register_is (arg.Var v) s h = refl
  register_is (arg.Imm i) s h = h
  register_is (arg.Mem a) s h = h
  register_is (arg.Cell c) s h = h
  register_is (arg.At r p) s h = refl

  -- an access in the place of the source, whose destination is a register
  source_spelled : (to : Arg) (s : Size) (x0 x1 x : Bool) → (x0 ≡ true → x1 ≡ true → x ≡ true) → (is_register (low to s) && x0) ≡ true → (is_register (high to s) && x1) ≡ true → (is_register (here to s) && x) ≡ true
  source_spelled to s x0 x1 x f l h =
      both_true (is_register (here to s)) x (register_is to s (first (is_register (low to s)) x0 l)) (f (second (is_register (low to s)) x0 l) (second (is_register (high to s)) x1 h))

  with_immediate : (to : Arg) (s : Size) (b : Bool) → Away (found_by to) → (is_rm (low to s) && b) ≡ true → (is_rm (high to s) && b) ≡ true → (is_rm (here to s) && b) ≡ true
  with_immediate to s b away l h = both_true (is_rm (here to s)) b (rm_spelled to s away (first (is_rm (low to s)) b l) (first (is_rm (high to s)) b h)) (second (is_rm (low to s)) b l)

  behind : (b x0 x1 x : Bool) → (x0 ≡ true → x1 ≡ true → x ≡ true) → (b && x0) ≡ true → (b && x1) ≡ true → (b && x) ≡ true
  behind b x0 x1 x f l h = both_true b x (first b x0 l) (f (second b x0 l) (second b x1 h))

  alu_spelled : (o : Alu) (s : Size) (to from : Arg) → Away (found_by to) → Away (found_by from) → are_alu_operands o s (low to s) (low from s) ≡ true → are_alu_operands o s (high to s) (high from s) ≡ true
      → are_alu_operands o s (here to s) (here from s) ≡ true
  alu_spelled o s to (arg.Var v) f g l h = rm_spelled to s f l h
  alu_spelled o s to (arg.Imm i) f g l h = with_immediate to s (fits_bytes (immediate_by s) i) f l h
  alu_spelled o s to (arg.Mem a) f g l h =
      behind (not (is_test o)) (is_register (low to s) && is_rm (low (arg.Mem a) s)) (is_register (high to s) && is_rm (high (arg.Mem a) s)) (is_register (here to s) && is_rm (here (arg.Mem a) s))
      (source_spelled to s (is_rm (low (arg.Mem a) s)) (is_rm (high (arg.Mem a) s)) (is_rm (here (arg.Mem a) s)) (rm_spelled (arg.Mem a) s g)) l h
  alu_spelled o s to (arg.Cell c) f g l h =
      behind (not (is_test o)) (is_register (low to s) && is_rm (low (arg.Cell c) s)) (is_register (high to s) && is_rm (high (arg.Cell c) s)) (is_register (here to s) && is_rm (here (arg.Cell c) s))
      (source_spelled to s (is_rm (low (arg.Cell c) s)) (is_rm (high (arg.Cell c) s)) (is_rm (here (arg.Cell c) s)) (rm_spelled (arg.Cell c) s g)) l h
  alu_spelled o s to (arg.At r p) f g l h = rm_spelled to s f l h

  low_length : (s : Size) (to : Arg) → mov_length s (low to s) ≡ mov_length s (here to s)
  low_length S8 to = refl
  low_length S16 to = refl
  low_length S32 to = refl
  low_length S64 (arg.Var v) = refl
  low_length S64 (arg.Imm i) = refl
  low_length S64 (arg.Mem a) = refl
  low_length S64 (arg.Cell c) = refl
  low_length S64 (arg.At r p) = refl

  mov_spelled : (s : Size) (to from : Arg) → Away (found_by to) → Away (found_by from) → are_mov_operands s (low to s) (low from s) ≡ true → are_mov_operands s (high to s) (high from s) ≡ true
      → are_mov_operands s (here to s) (here from s) ≡ true
  mov_spelled s to (arg.Var v) f g l h = rm_spelled to s f l h
  mov_spelled s to (arg.Imm i) f g l h =
      let a = fits_bytes (mov_length s (low to s)) i in
      let b = fits_bytes (mov_length s (high to s)) i in
      both_true (is_rm (here to s)) (fits_bytes (mov_length s (here to s)) i) (rm_spelled to s f (first (is_rm (low to s)) a l) (first (is_rm (high to s)) b h))
      (subst (λ n. fits_bytes n i ≡ true) (low_length s to) (second (is_rm (low to s)) a l))
  mov_spelled s to (arg.Mem a) f g l h = source_spelled to s (is_rm (low (arg.Mem a) s)) (is_rm (high (arg.Mem a) s)) (is_rm (here (arg.Mem a) s)) (rm_spelled (arg.Mem a) s g) l h
  mov_spelled s to (arg.Cell c) f g l h = source_spelled to s (is_rm (low (arg.Cell c) s)) (is_rm (high (arg.Cell c) s)) (is_rm (here (arg.Cell c) s)) (rm_spelled (arg.Cell c) s g) l h
  mov_spelled s to (arg.At r p) f g l h = rm_spelled to s f l h

  none_away : Away []
  none_away v t = absurd cc

  extension_spelled : (b : Bool) (rm : Arg) (s : Size) → Away (found_by rm) → (b && is_rm (low rm s)) ≡ true → (b && is_rm (high rm s)) ≡ true → (b && is_rm (here rm s)) ≡ true
  extension_spelled b rm s away l h = behind b (is_rm (low rm s)) (is_rm (high rm s)) (is_rm (here rm s)) (rm_spelled rm s away) l h

  extend_spelled : (sign : Bool) (to from : Size) (v : ℕ) (rm : Arg) → Away (found_by rm) → is_spelled (extend_of sign to from reg.Rax (low rm from)) ≡ true → is_spelled (extend_of sign to from reg.Rax (high rm from)) ≡ true
      → is_spelled (extend_of sign to from (reg_of (places v)) (here rm from)) ≡ true
  unfolding is_spelled
  extend_spelled true to from v rm away l h = extension_spelled (is_extension true to from) rm from away l h
  extend_spelled false S8 from v rm away l h = extension_spelled (is_extension false S8 from) rm from away l h
  extend_spelled false S16 from v rm away l h = extension_spelled (is_extension false S16 from) rm from away l h
  extend_spelled false S32 from v rm away l h = extension_spelled (is_extension false S32 from) rm from away l h
  extend_spelled false S64 S8 v rm away l h = extension_spelled (is_extension false S64 S8) rm S8 away l h
  extend_spelled false S64 S16 v rm away l h = extension_spelled (is_extension false S64 S16) rm S16 away l h
  extend_spelled false S64 S32 v rm away l h = mov_spelled S32 (arg.Var v) rm none_away away l h
  extend_spelled false S64 S64 v rm away l h = extension_spelled (is_extension false S64 S64) rm S64 away l h

  -- ---- actions
  abbrev read_in : Action → List ℕ
  read_in a = reads_in (inputs a) ++ (found_in (outputs a) ++ asked_by a)

  of_inputs : (a : Action) → Away (read_in a) → Away (reads_in (inputs a))
  of_inputs a away v t = away v (front (reads_in (inputs a)) (found_in (outputs a) ++ asked_by a) v t)

  of_outputs : (a : Action) → Away (read_in a) → Away (found_in (outputs a))
  of_outputs a away v t = away v (back (reads_in (inputs a)) (found_in (outputs a) ++ asked_by a) v (front (found_in (outputs a)) (asked_by a) v t))

  of_first : (s : Size) (x : Arg) (is : List Input) → Away (reads_in (Word s x ∷ is)) → Away (found_by x)
  of_first s x is away v t = away v (front (is_var x ++ found_by x) (reads_in is) v (back (is_var x) (found_by x) v t))

  of_rest : (s : Size) (x : Arg) (is : List Input) → Away (reads_in (Word s x ∷ is)) → Away (reads_in is)
  of_rest s x is away v t = away v (back (is_var x ++ found_by x) (reads_in is) v t)

  of_output : (s : Size) (x : Arg) → Away (found_in ((s, x) ∷ [])) → Away (found_by x)
  of_output s x away v t = away v (front (found_by x) [] v t)

  of_wide : (o : Wide) (s : Size) (l h : Option Pinned) (rm : Arg) → Away (reads_in (wide_inputs o s l h rm)) → Away (found_by rm)
  of_wide wide.Mul s l h rm away = of_first s rm (Word s (low_at l) ∷ []) away
  of_wide wide.Imul s l h rm away = of_first s rm (Word s (low_at l) ∷ []) away
  of_wide wide.Div s l h rm away = of_first s rm (Word s (low_at l) ∷ Word s (high_at h) ∷ []) away
  of_wide wide.Idiv s l h rm away = of_first s rm (Word s (low_at l) ∷ Word s (high_at h) ∷ []) away

  pub action_spelled : (a : Action) → Away (read_in a) → is_spelled_at 0 a ≡ true → is_spelled_at 65536 a ≡ true → is_spelled (insn_of places slots a) ≡ true
  unfolding is_spelled
  action_spelled (action.Alu o s to from p) away l h =
      let i = of_inputs (action.Alu o s to from p) away in
      alu_spelled o s to from (of_first s to (Word s from ∷ []) i) (of_first s from [] (of_rest s to (Word s from ∷ []) i)) l h
  action_spelled (action.Mov s to from) away l h =
      mov_spelled s to from (of_output s to (of_outputs (action.Mov s to from) away)) (of_first s from [] (of_inputs (action.Mov s to from) away)) l h
  action_spelled (action.Extend sign to from v rm) away l h = extend_spelled sign to from v rm (of_first from rm [] (of_inputs (action.Extend sign to from v rm) away)) l h
  action_spelled (action.Lea v a) away l h =
      let i = of_inputs (action.Lea v a) away in
      address_by a.base a.index a.disp (λ w t. i w (front (address_vars a) [] w t)) l
  action_spelled (action.One o s rm) away l h = rm_spelled rm s (of_first s rm [] (of_inputs (action.One o s rm) away)) l h
  action_spelled (action.Wide o s a b rm) away l h = extension_spelled (is_no_byte s) rm s (of_wide o s a b rm (of_inputs (action.Wide o s a b rm) away)) l h
  action_spelled (action.Imul s v rm) away l h =
      let i = of_inputs (action.Imul s v rm) away in
      extension_spelled (is_no_byte s) rm s (of_first s rm [] (of_rest s (arg.Var v) (Word s rm ∷ []) i)) l h
  action_spelled (action.ImulBy s v rm n) away l h =
      let f = with_immediate rm s (fits_bytes (immediate_by s) n) (of_first s rm [] (of_inputs (action.ImulBy s v rm n) away)) in
      let b = fits_bytes (immediate_by s) n in
      behind (is_no_byte s) (is_rm (low rm s) && b) (is_rm (high rm s) && b) (is_rm (here rm s) && b) f l h
  action_spelled (action.Shift kind s rm n) away l h = with_immediate rm s (is_count (count.Imm n)) (of_first s rm [] (of_inputs (action.Shift kind s rm n) away)) l h
  action_spelled (action.ShiftBy kind s rm p) away l h =
      with_immediate rm s (is_count count.Cl) (of_first s rm (Word S8 (arg.At reg.Rcx (Some p)) ∷ []) (of_inputs (action.ShiftBy kind s rm p) away)) l h
  action_spelled (action.Bswap s v) away l h = l
  action_spelled (action.Sign s x y) away l h = l
  action_spelled (action.Set c rm) away l h = rm_spelled rm S8 (of_output S8 rm (of_outputs (action.Set c rm) away)) l h
  action_spelled (action.Cmov c s v rm) away l h = extension_spelled (is_no_byte s) rm s (of_first s rm (Word s (arg.Var v) ∷ []) (of_inputs (action.Cmov c s v rm) away)) l h

-- ---- displacements
module _ (slots : ℕ → ℕ) (near : AreNear slots) where
  abbrev low_one : Arg → Size → Operand
  low_one a s = operand_of in_rax (at_end 0) a s

  abbrev high_one : Arg → Size → Operand
  high_one a s = operand_of in_rax (at_end 65536) a s

  rm_fits : (a : Arg) (s : Size) → is_rm (low_one a s) ≡ true → is_rm (high_one a s) ≡ true → Fits slots s a
  rm_fits (arg.Var v) s l h = tt
  rm_fits (arg.Imm i) s l h = tt
  rm_fits (arg.Mem a) s l h = tt
  rm_fits (arg.Cell c) s l h =
      let x = pos (bytes_of s) *ℤ c.offset in
      between (slots c.of) x (near c.of) (second (is_index (scaled_by in_rax (at_end 0) s c.index)) (fits_bytes 4 (pos 0 +ℤ x)) l)
      (second (is_index (scaled_by in_rax (at_end 65536) s c.index)) (fits_bytes 4 (pos 65536 +ℤ x)) h)
  rm_fits (arg.At r p) s l h = tt

  register_fits : (a : Arg) (s : Size) → is_register (low_one a s) ≡ true → Fits slots s a
  register_fits (arg.Var v) s l = tt
  register_fits (arg.Imm i) s l = tt
  register_fits (arg.Mem a) s l = tt
  register_fits (arg.Cell c) s l = absurd cc
  register_fits (arg.At r p) s l = tt

  -- a source beside a register, and alone
  beside : (to from : Arg) (s : Size) → (is_register (low_one to s) && is_rm (low_one from s)) ≡ true → (is_register (high_one to s) && is_rm (high_one from s)) ≡ true → AllFit slots ((s, to) ∷ (s, from) ∷ [])
  beside to from s l h = (
    register_fits to s (first (is_register (low_one to s)) (is_rm (low_one from s)) l),
    (rm_fits from s (second (is_register (low_one to s)) (is_rm (low_one from s)) l) (second (is_register (high_one to s)) (is_rm (high_one from s)) h), tt),
  )

  alu_fits : (o : Alu) (s : Size) (to from : Arg) → are_alu_operands o s (low_one to s) (low_one from s) ≡ true → are_alu_operands o s (high_one to s) (high_one from s) ≡ true → AllFit slots ((s, to) ∷ (s, from) ∷ [])
  alu_fits o s to (arg.Var v) l h = (rm_fits to s l h, (tt, tt))
  alu_fits o s to (arg.Imm i) l h = let b = fits_bytes (immediate_by s) i in (rm_fits to s (first (is_rm (low_one to s)) b l) (first (is_rm (high_one to s)) b h), (tt, tt))
  alu_fits o s to (arg.Mem a) l h =
      beside to (arg.Mem a) s (second (not (is_test o)) (is_register (low_one to s) && is_rm (low_one (arg.Mem a) s)) l) (second (not (is_test o)) (is_register (high_one to s) && is_rm (high_one (arg.Mem a) s)) h)
  alu_fits o s to (arg.Cell c) l h =
      beside to (arg.Cell c) s (second (not (is_test o)) (is_register (low_one to s) && is_rm (low_one (arg.Cell c) s)) l) (second (not (is_test o)) (is_register (high_one to s) && is_rm (high_one (arg.Cell c) s)) h)
  alu_fits o s to (arg.At r p) l h = (rm_fits to s l h, (tt, tt))

  mov_fits : (s : Size) (to from : Arg) → are_mov_operands s (low_one to s) (low_one from s) ≡ true → are_mov_operands s (high_one to s) (high_one from s) ≡ true → AllFit slots ((s, to) ∷ (s, from) ∷ [])
  mov_fits s to (arg.Var v) l h = (rm_fits to s l h, (tt, tt))
  mov_fits s to (arg.Imm i) l h =
      (rm_fits to s (first (is_rm (low_one to s)) (fits_bytes (mov_length s (low_one to s)) i) l) (first (is_rm (high_one to s)) (fits_bytes (mov_length s (high_one to s)) i) h), (tt, tt))
  mov_fits s to (arg.Mem a) l h = beside to (arg.Mem a) s l h
  mov_fits s to (arg.Cell c) l h = beside to (arg.Cell c) s l h
  mov_fits s to (arg.At r p) l h = (rm_fits to s l h, (tt, tt))

  behind_fits : (b : Bool) (rm : Arg) (s : Size) → (b && is_rm (low_one rm s)) ≡ true → (b && is_rm (high_one rm s)) ≡ true → AllFit slots ((s, rm) ∷ [])
  behind_fits b rm s l h = (rm_fits rm s (second b (is_rm (low_one rm s)) l) (second b (is_rm (high_one rm s)) h), tt)

  before_fits : (b : Bool) (rm : Arg) (s : Size) → (is_rm (low_one rm s) && b) ≡ true → (is_rm (high_one rm s) && b) ≡ true → AllFit slots ((s, rm) ∷ [])
  before_fits b rm s l h = (rm_fits rm s (first (is_rm (low_one rm s)) b l) (first (is_rm (high_one rm s)) b h), tt)

  extend_fits : (sign : Bool) (to from : Size) (rm : Arg) → is_spelled (extend_of sign to from reg.Rax (low_one rm from)) ≡ true → is_spelled (extend_of sign to from reg.Rax (high_one rm from)) ≡ true
      → AllFit slots ((from, rm) ∷ [])
  unfolding is_spelled
  extend_fits true to from rm l h = behind_fits (is_extension true to from) rm from l h
  extend_fits false S8 from rm l h = behind_fits (is_extension false S8 from) rm from l h
  extend_fits false S16 from rm l h = behind_fits (is_extension false S16 from) rm from l h
  extend_fits false S32 from rm l h = behind_fits (is_extension false S32 from) rm from l h
  extend_fits false S64 S8 rm l h = behind_fits (is_extension false S64 S8) rm S8 l h
  extend_fits false S64 S16 rm l h = behind_fits (is_extension false S64 S16) rm S16 l h
  extend_fits false S64 S32 rm l h = (mov_fits S32 (arg.Var 0) rm l h).1
  extend_fits false S64 S64 rm l h = behind_fits (is_extension false S64 S64) rm S64 l h

  pub action_fits : (a : Action) → is_spelled_at 0 a ≡ true → is_spelled_at 65536 a ≡ true → AllFit slots (accesses a)
  unfolding is_spelled
  action_fits (action.Alu o s to from p) l h = alu_fits o s to from l h
  action_fits (action.Mov s to from) l h = mov_fits s to from l h
  action_fits (action.Extend sign to from v rm) l h = extend_fits sign to from rm l h
  action_fits (action.Lea v a) l h = tt
  action_fits (action.One o s rm) l h = (rm_fits rm s l h, tt)
  action_fits (action.Wide o s a b rm) l h = behind_fits (is_no_byte s) rm s l h
  action_fits (action.Imul s v rm) l h = behind_fits (is_no_byte s) rm s l h
  action_fits (action.ImulBy s v rm n) l h =
      let b = fits_bytes (immediate_by s) n in
      before_fits b rm s (second (is_no_byte s) (is_rm (low_one rm s) && b) l) (second (is_no_byte s) (is_rm (high_one rm s) && b) h)
  action_fits (action.Shift kind s rm n) l h = before_fits (is_count (count.Imm n)) rm s l h
  action_fits (action.ShiftBy kind s rm p) l h = before_fits (is_count count.Cl) rm s l h
  action_fits (action.Bswap s v) l h = tt
  action_fits (action.Sign s x y) l h = tt
  action_fits (action.Set c rm) l h = (rm_fits rm S8 l h, tt)
  action_fits (action.Cmov c s v rm) l h = behind_fits (is_no_byte s) rm s l h

-- ---- operations
pub encodable : (o : Operation) → IsTrue (can_encode o.action) → IsEncodable o
encodable o h =
    let l = first (is_spelled_at 0 o.action) (is_spelled_at 65536 o.action) h in
    let k = second (is_spelled_at 0 o.action) (is_spelled_at 65536 o.action) h in
    record {
      spelled = λ places slots near off. action_spelled places slots near o.action off.reads l k;
      fits = λ slots near. action_fits slots near o.action l k;
    }

off : (o : Operation) → IsOffStack in_rax o
off o = record { reads = λ v t e. absurd cc; writes = λ v t e. absurd cc }

pub at_both : (o : Operation) → IsEncodable o → IsTrue (can_encode o.action)
at_both o e =
    both_true (is_spelled_at 0 o.action) (is_spelled_at 65536 o.action) (e.spelled in_rax (at_end 0) (λ v. omega arith) (off o)) (e.spelled in_rax (at_end 65536) (λ v. omega arith) (off o))
