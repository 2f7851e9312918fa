-- What the parts of an rm operand name: that operand.
use Rattle.std.proofs.Common.{◌≡◌, ℕ, ◌+◌, ◌*◌, ◌/◌, ◌%◌, ◌^◌, ◌<◌, List, [], Bool, true, false, not, Option, Some, None, ℤ, pos, refl, sym, ap, ◌∙◌, subst, arith}
use Rattle.std.specs.Prelude.{◌&&◌, ◌||◌, ◌==◌, if◌then◌else◌}
use Rattle.std.proofs.lemmas.Bool.{false≢true, and_parts, cond_both}
use Rattle.std.proofs.lemmas.Bool.Decides.{nat_tests}
use Rattle.std.proofs.lemmas.Int.{ints}
use Rattle.x64_insn.specs.declared.types.Reg.{Reg}
use Rattle.x64_insn.specs.declared.types.Base.{Base}
use Rattle.x64_insn.specs.declared.types.Base.TheVariants as base
use Rattle.x64_insn.specs.declared.types.Mem.{Mem}
use Rattle.x64_insn.specs.Table.{number_of, reg_of}
use Rattle.x64_insn.specs.Encoding.{is_byte, signed_from, signed_of, StandsIf, AreBytes}
use Rattle.x64_insn.specs.Chosen.{RmParts, fits_bytes, is_zero, mode_for, displacement_for, index_code, scale_code, sib_with, based_parts, address_parts, is_index, is_index_of, is_address}
use Rattle.x64_insn.proofs.Registers.{reg_of_number, number_small}
use Rattle.x64_insn.proofs.Immediates.{within, one_byte, four_bytes, signed_are_bytes}
use Rattle.x64_insn.proofs.ModrmFields.{index_field_is, scale_field_is, low_field_is, sib_small, length_by, index_by, memory_by}

-- ---- registers
pub register_is : (high low : ℕ) (r : Reg) → high ≡ number_of r / 8 → low ≡ number_of r % 8 → reg_of (8 * high + low) ≡ r
register_is high low r h l = let e : 8 * high + low ≡ number_of r = omega (arith, h, l) in ap reg_of e ∙ reg_of_number r

pub high_small : (r : Reg) → number_of r / 8 < 2
high_small r = omega (arith, number_small r)

pub low_small : (r : Reg) → number_of r % 8 < 8
low_small r = omega arith

-- ---- the displacement behind a base register
record Moded (mode low : ℕ) (disp : ℤ) (ds : List ℕ) : Type 0 where
  small : mode < 3
  names_base : ((mode == 0) && (low == 5)) ≡ false
  bytes : AreBytes (if mode == 0 then (if low == 5 then 4 else 0) else if mode == 1 then 1 else if mode == 2 then 4 else 0) ds
  value : signed_of ds ≡ disp

no_bytes : signed_of [] ≡ pos 0
unfolding signed_from
no_bytes = refl

zero_is : (i : ℤ) → is_zero i ≡ true → i ≡ pos 0
zero_is i h = let w = within (pos 0) (pos 1) i h in omega (arith, ints, w.0, w.1)

no_five : (low : ℕ) → not (low == 5) ≡ true → (low == 5) ≡ false
no_five low h = grind (arith, nat_tests, h)

without_bytes : (low : ℕ) (disp : ℤ) → (low == 5) ≡ false → disp ≡ pos 0 → Moded 0 low disp []
without_bytes low disp e z = record {
  small = omega arith;
  names_base = e;
  bytes = rw e (refl, refl);
  value = no_bytes ∙ sym z;
}

moded : (low : ℕ) (disp : ℤ) → fits_bytes 4 disp ≡ true → Moded (mode_for low disp) low disp (displacement_for (mode_for low disp) disp)
moded low disp h =
    cond_both (is_zero disp && not (low == 5)) 0 (if fits_bytes 1 disp then 1 else 2) (λ m. Moded m low disp (displacement_for m disp))
    (λ e. let t = and_parts (is_zero disp) (not (low == 5)) e in without_bytes low disp (no_five low t.1) (zero_is disp t.0))
    (λ e. cond_both (fits_bytes 1 disp) 1 2 (λ m. Moded m low disp (displacement_for m disp))
    (λ k. record { small = omega arith; names_base = refl; bytes = signed_are_bytes 1 disp; value = one_byte disp k })
    (λ k. record { small = omega arith; names_base = refl; bytes = signed_are_bytes 4 disp; value = four_bytes disp h }))

-- ---- indices
scale_is : (s : ℕ) → ((s == 1) || ((s == 2) || ((s == 4) || (s == 8)))) ≡ true → 2 ^ (if s == 1 then 0 else if s == 2 then 1 else if s == 4 then 2 else 3) ≡ s
scale_is s h =
    cond_both (s == 1) 0 (if s == 2 then 1 else if s == 4 then 2 else 3) (λ z. 2 ^ z ≡ s)
    (λ e. let v : 1 ≡ s = grind (arith, nat_tests, e) in v)
    (λ a. cond_both (s == 2) 1 (if s == 4 then 2 else 3) (λ z. 2 ^ z ≡ s)
    (λ e. let v : 2 ≡ s = grind (arith, nat_tests, e) in v)
    (λ b. cond_both (s == 4) 2 3 (λ z. 2 ^ z ≡ s)
    (λ e. let v : 4 ≡ s = grind (arith, nat_tests, e) in v)
    (λ c. let v : 8 ≡ s = grind (arith, nat_tests, a, b, c, h) in v)))

scale_small : (index : Option (Reg × ℕ)) → scale_code index < 4
scale_small None = omega arith
scale_small (Some i) =
    cond_both (i.1 == 1) 0 (if i.1 == 2 then 1 else if i.1 == 4 then 2 else 3) (λ z. z < 4) (λ e. omega arith)
    (λ e. cond_both (i.1 == 2) 1 (if i.1 == 4 then 2 else 3) (λ z. z < 4) (λ k. omega arith)
    (λ k. cond_both (i.1 == 4) 2 3 (λ z. z < 4) (λ l. omega arith) (λ l. omega arith)))

no_four : (n : ℕ) → not (n == 4) ≡ true → (n == 4) ≡ false
no_four n h = grind (arith, nat_tests, h)

some_index : (r : Reg) (s k : ℕ) → (number_of r == 4) ≡ false → 2 ^ k ≡ s → index_by (number_of r) k ≡ Some (r, s)
some_index r s k e p = rw (e, reg_of_number r, p) refl

index_back : (index : Option (Reg × ℕ)) → is_index index ≡ true → index_by (index_code index) (scale_code index) ≡ index
index_back None h = refl
index_back (Some i) h = let t = and_parts (not (number_of i.0 == 4)) ((i.1 == 1) || ((i.1 == 2) || ((i.1 == 4) || (i.1 == 8)))) h in some_index i.0 i.1 _ (no_four (number_of i.0) t.0) (scale_is i.1 t.1)

code_small : (index : Option (Reg × ℕ)) → index_code index < 16
code_small None = omega arith
code_small (Some i) = number_small i.0

index_is : (low : ℕ) (index : Option (Reg × ℕ)) → low < 8 → is_index index ≡ true → index_by (8 * (index_code index / 8) + sib_with low index / 8 % 8) (sib_with low index / 64) ≡ index
index_is low index h k =
    let c : index_code index % 8 < 8 = omega arith in
    let p = index_field_is (scale_code index) (index_code index % 8) low c h in
    let n : 8 * (index_code index / 8) + sib_with low index / 8 % 8 ≡ index_code index = omega (arith, p) in
    let s = scale_field_is (scale_code index) (index_code index % 8) low c h in
    ap (λ m. index_by m (sib_with low index / 64)) n ∙ ap (λ m. index_by (index_code index) m) s ∙ index_back index k

sib_low : (low : ℕ) (index : Option (Reg × ℕ)) → low < 8 → sib_with low index % 8 ≡ low
sib_low low index h = let c : index_code index % 8 < 8 = omega arith in low_field_is (scale_code index) (index_code index % 8) low c h

sib_byte_ok : (low : ℕ) (index : Option (Reg × ℕ)) → low < 8 → is_byte (sib_with low index) ≡ true
sib_byte_ok low index h =
    let c : index_code index % 8 < 8 = omega arith in
    let small = sib_small (scale_code index) (index_code index % 8) low (scale_small index) c h in grind (arith, nat_tests, small)

-- ---- addresses
-- the parts are those of this address
pub record Addressed (p : RmParts) (a : Mem) : Type 0 where
  pub mode_small : p.mode < 3
  pub field_small : p.field < 8
  pub x_small : p.x < 2
  pub b_small : p.b < 2
  pub sib_stands : StandsIf (p.field == 4) is_byte p.sib
  pub bytes : AreBytes (length_by p.mode p.field p.sib) p.displacement
  pub reads : memory_by p.mode p.field p.x p.b p.sib p.displacement ≡ a

no_sib : (low : ℕ) → (low == 4) ≡ false → StandsIf (low == 4) is_byte None
no_sib low e = subst (λ (v : Bool). StandsIf v is_byte None) (sym e) tt

-- a base register alone
plain : (r : Reg) (mode low b : ℕ) (disp : ℤ) (ds : List ℕ) → low ≡ number_of r % 8 → b ≡ number_of r / 8 → (low == 4) ≡ false → Moded mode low disp ds
    → Addressed (record { mode = mode; field = low; x = 0; b = b; sib = None; displacement = ds }) (record { base = base.Reg r; index = None; disp = disp })
plain r mode low b disp ds l h e m = record {
  mode_small = omega (arith, m.small);
  field_small = omega (arith, l);
  x_small = omega arith;
  b_small = omega (arith, h, high_small r);
  sib_stands = no_sib low e;
  bytes = m.bytes;
  reads = rw (e, m.names_base, register_is b low r h l, m.value) refl;
}

sib_reads : (r : Reg) (mode low b : ℕ) (index : Option (Reg × ℕ)) (disp : ℤ) (ds : List ℕ) → low ≡ number_of r % 8 → b ≡ number_of r / 8 → is_index index ≡ true → Moded mode low disp ds
    → memory_by mode 4 (index_code index / 8) b (Some (sib_with low index)) ds ≡ record { base = base.Reg r; index = index; disp = disp }
sib_reads r mode low b index disp ds l h k m =
    let small : low < 8 = omega (arith, l) in
    rw (index_is low index small k, sib_low low index small, m.names_base, register_is b low r h l, m.value) refl

-- a base register with a SIB
behind_sib : (r : Reg) (mode low b : ℕ) (index : Option (Reg × ℕ)) (disp : ℤ) (ds : List ℕ) → low ≡ number_of r % 8 → b ≡ number_of r / 8 → is_index index ≡ true → Moded mode low disp ds
    → Addressed (record { mode = mode; field = 4; x = index_code index / 8; b = b; sib = Some (sib_with low index); displacement = ds }) (record { base = base.Reg r; index = index; disp = disp })
behind_sib r mode low b index disp ds l h k m =
    let small : low < 8 = omega (arith, l) in
    record {
      mode_small = omega (arith, m.small);
      field_small = omega arith;
      x_small = omega (arith, code_small index);
      b_small = omega (arith, h, high_small r);
      sib_stands = sib_byte_ok low index small;
      bytes = rw (sib_low low index small) m.bytes;
      reads = sib_reads r mode low b index disp ds l h k m;
    }

based : (r : Reg) (index : Option (Reg × ℕ)) (disp : ℤ) → is_index index ≡ true → fits_bytes 4 disp ≡ true → Addressed (based_parts r index disp) (record { base = base.Reg r; index = index; disp = disp })
based r None disp k h =
    let m = moded (number_of r % 8) disp h in
    cond_both (not (number_of r % 8 == 4)) _ _ (λ p. Addressed p (record { base = base.Reg r; index = None; disp = disp }))
    (λ e. plain r _ (number_of r % 8) (number_of r / 8) disp _ refl refl (no_four (number_of r % 8) e) m)
    (λ e. behind_sib r _ (number_of r % 8) (number_of r / 8) None disp _ refl refl refl m)
based r (Some i) disp k h = behind_sib r _ (number_of r % 8) (number_of r / 8) (Some i) disp _ refl refl k (moded (number_of r % 8) disp h)

-- without a base
alone : (index : Option (Reg × ℕ)) (disp : ℤ) → is_index index ≡ true → fits_bytes 4 disp ≡ true → Addressed (address_parts base.Absent index disp) (record { base = base.Absent; index = index; disp = disp })
alone index disp k h =
    let small : 5 < 8 = omega arith in
    record {
      mode_small = omega arith;
      field_small = omega arith;
      x_small = omega (arith, code_small index);
      b_small = omega arith;
      sib_stands = sib_byte_ok 5 index small;
      bytes = rw (sib_low 5 index small) (signed_are_bytes 4 disp);
      reads = rw (index_is 5 index small k, sib_low 5 index small, four_bytes disp h) refl;
    }

-- from the next instruction on
from_next : (disp : ℤ) → fits_bytes 4 disp ≡ true → Addressed (address_parts base.Rip None disp) (record { base = base.Rip; index = None; disp = disp })
from_next disp h = record {
  mode_small = omega arith;
  field_small = omega arith;
  x_small = omega arith;
  b_small = omega arith;
  sib_stands = tt;
  bytes = signed_are_bytes 4 disp;
  reads = rw (four_bytes disp h) refl;
}

by_base : (b : Base) (index : Option (Reg × ℕ)) (disp : ℤ) → is_index_of b index ≡ true → fits_bytes 4 disp ≡ true → Addressed (address_parts b index disp) (record { base = b; index = index; disp = disp })
by_base (base.Reg r) index disp k h = based r index disp k h
by_base base.Absent index disp k h = alone index disp k h
by_base base.Rip None disp k h = from_next disp h
by_base base.Rip (Some i) disp k h = absurd (false≢true k)

pub addressed : (a : Mem) → is_address a ≡ true → Addressed (address_parts a.base a.index a.disp) a
addressed a h = let t = and_parts (is_index_of a.base a.index) (fits_bytes 4 a.disp) h in by_base a.base a.index a.disp t.0 t.1
