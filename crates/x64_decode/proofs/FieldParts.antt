-- The fields by their names are the fields as nested pairs.
use Rattle.std.proofs.Common.{◌≡◌, ℕ, true, Option, Some, None, refl, sym, ap, ◌∙◌, subst, arith}
use Rattle.std.specs.Prelude.{IfSome, IsTrue, ◌==◌, unwrap_or}
use Rattle.std.proofs.lemmas.Bool.{false≢true}
use Rattle.std.proofs.lemmas.Bool.Decides.{nat_tests}
use Rattle.x64_insn.specs.declared.table.Row.{Row}
use Rattle.x64_insn.specs.Table.{allows, reg_field}
use Rattle.x64_insn.specs.Encoding.{Fields, AreFields, is_rex, StandsIf, AreBytes}
use Rattle.x64_decode.specs.Decoding.{may_be_rex, may_be_opcode, is_allowed, row_has_modrm, row_takes, may_be_modrm, row_immediate, immediate_bytes, Parts, fields_of}
use Rattle.x64_decode.proofs.ByteReaders.{PrefixPasses}
use Rattle.x64_decode.proofs.PartsRead.{AreParts, eq_of}

abbrev pub parts_of : Fields → Parts
parts_of f = (f.operand_size, (f.rex, (f.escape, (f.opcode, (f.modrm, (f.sib, (f.displacement, f.immediate)))))))

-- ---- from the names to the pairs
same_byte : (k : ℕ) (p : Option ℕ) → IfSome p (λ b. b ≡ k) → PrefixPasses (λ b. b == k) p
same_byte k None h = tt
same_byte k (Some b) h = grind (arith, nat_tests)

a_rex : (p r : Option ℕ) → IfSome r (λ b. IsTrue (is_rex p b)) → PrefixPasses (may_be_rex p) r
a_rex p None h = tt
a_rex p (Some b) h = h

pub to_parts : (f : Fields) → AreFields f → AreParts (parts_of f)
unfolding AreParts may_be_opcode may_be_modrm immediate_bytes
to_parts f h =
    let w = sym h.in_table in (
      same_byte 0x66 f.operand_size h.operand_size,
      (
        a_rex f.operand_size f.rex h.rex,
        (
          same_byte 0x0F f.escape h.escape,
          (
            ap (is_allowed f.operand_size f.rex) h.in_table ∙ h.prefixes,
            (
              subst (λ (x : Option Row). StandsIf (row_has_modrm x) (row_takes x f.rex) f.modrm) w h.modrm,
              (
                h.sib,
                (h.displacement, subst (λ (x : Option Row). AreBytes (row_immediate f.operand_size f.rex (reg_field (unwrap_or f.modrm 0)) x) f.immediate) w h.immediate),
              ),
            ),
          ),
        ),
      ),
    )

-- ---- from the pairs to the names
some_row : (w : Option Row) (p r : Option ℕ) → is_allowed p r w ≡ true → (x : Row) × (w ≡ Some x) × (allows x p r ≡ true)
some_row None p r h = absurd (false≢true h)
some_row (Some x) p r h = (x, refl, h)

that_byte : (k : ℕ) (p : Option ℕ) → PrefixPasses (λ b. b == k) p → IfSome p (λ b. b ≡ k)
that_byte k None h = tt
that_byte k (Some b) h = eq_of b k h

rex_so : (p r : Option ℕ) → PrefixPasses (may_be_rex p) r → IfSome r (λ b. IsTrue (is_rex p b))
rex_so p None h = tt
rex_so p (Some b) h = h

pub to_fields : (a : Parts) → AreParts a → AreFields (fields_of a)
unfolding AreParts may_be_opcode may_be_modrm immediate_bytes
to_fields a h =
    let w = some_row _ _ _ h.1.1.1.0 in
    record {
      row = w.0;
      in_table = w.1;
      operand_size = that_byte 0x66 a.0 h.0;
      rex = rex_so a.0 a.1.0 h.1.0;
      escape = that_byte 0x0F a.1.1.0 h.1.1.0;
      prefixes = w.2;
      modrm = subst (λ (x : Option Row). StandsIf (row_has_modrm x) (row_takes x a.1.0) a.1.1.1.1.0) w.1 h.1.1.1.1.0;
      sib = h.1.1.1.1.1.0;
      displacement = h.1.1.1.1.1.1.0;
      immediate = subst (λ (x : Option Row). AreBytes (row_immediate a.0 a.1.0 (reg_field (unwrap_or a.1.1.1.1.0 0)) x) a.1.1.1.1.1.1.1) w.1 h.1.1.1.1.1.1.1;
    }
