-- A preserved register that the code does not name is at an end as it was.
use Rattle.std.proofs.Common.{◌≡◌, Bool, true, false, ◌||◌, List, ◌++◌, refl, sym, ◌∙◌, arith}
use Rattle.std.specs.Prelude.{Some, None}
use Rattle.std.specs.List.{list_any}
use Rattle.std.proofs.lemmas.Bool.Decides.{nat_tests}
use Rattle.std.proofs.lemmas.List.Folds.{list_any-append}
use Rattle.x64_insn.specs.declared.types.Reg.{Reg}
use Rattle.x64_insn.specs.declared.types.Reg.TheVariants as reg
use Rattle.x64_insn.specs.declared.types.Operand.{Operand}
use Rattle.x64_insn.specs.declared.types.Operand.TheVariants as operand
use Rattle.x64_insn.specs.declared.types.Insn.{Insn}
use Rattle.x64_insn.specs.declared.types.Insn.TheVariants as insn
use Rattle.jz_runs.specs.Trees.{done, op, quiet, choose, loop, each, call}
use Rattle.jz_placing.specs.Instructions.{Test, always, if_holds, Code}
use Rattle.jz_linear.specs.Plain.{is_plain, IsPlainTest, IsPlainCode}
use Rattle.jz_linear.proofs.KeptRegs.{is_reg, sets_operand, Every, Spares, SparesTest}
use Rattle.jz_correct.specs.Frames.{operand_names, names}
use Rattle.jz_stack.specs.Framed.{test_insns, insns_in}
use Rattle.jz_code.proofs.Shapes.{IsOther}

left_false : (a b : Bool) → (a || b) ≡ false → a ≡ false
left_false true b e = absurd cc
left_false false b e = refl

right_false : (a b : Bool) → (a || b) ≡ false → b ≡ false
right_false true b e = absurd cc
right_false false b e = e

both_false : (a b : Bool) → a ≡ false → b ≡ false → (a || b) ≡ false
both_false true b e f = e
both_false false b e f = f

module _ (r : Reg) (is : IsOther r) where
  not_rax : is_reg reg.Rax r ≡ false
  not_rax = let h = is.not_rax in grind (arith, nat_tests, h)

  not_rdx : is_reg reg.Rdx r ≡ false
  not_rdx = let h = is.not_rdx in grind (arith, nat_tests, h)

  operand_spared : (o : Operand) → operand_names o r ≡ false → sets_operand o r ≡ false
  operand_spared (operand.Reg q) e = e
  operand_spared (operand.Imm i) e = refl
  operand_spared (operand.Mem a) e = refl

  spared : (i : Insn) → is_plain i ≡ true → names i r ≡ false → Spares r i
  spared (insn.Alu o s to from) p e = operand_spared to (left_false _ _ e)
  spared (insn.Mov s to from) p e = operand_spared to (left_false _ _ e)
  spared (insn.Extend sign to from q rm) p e = left_false _ _ e
  spared (insn.Lea q a) p e = left_false _ _ e
  spared (insn.One o s rm) p e = operand_spared rm e
  spared (insn.Wide o s rm) p e = both_false _ _ not_rax not_rdx
  spared (insn.Imul s q rm) p e = left_false _ _ e
  spared (insn.ImulBy s q rm i) p e = left_false _ _ e
  spared (insn.Shift k s rm n) p e = operand_spared rm e
  spared (insn.Bswap s q) p e = e
  spared insn.Cdq p e = not_rdx
  spared insn.Cqo p e = not_rdx
  spared (insn.Set c rm) p e = operand_spared rm e
  spared (insn.Cmov c s q rm) p e = left_false _ _ e
  spared (insn.Jcc c w d) p e = absurd cc
  spared (insn.Jmp w d) p e = absurd cc
  spared (insn.Call d) p e = absurd cc
  spared insn.Ret p e = absurd cc

  abbrev named : List Insn → Bool
  named is' = list_any (λ i. names i r) is'

  first_false : (xs ys : List Insn) → named (xs ++ ys) ≡ false → named xs ≡ false
  first_false xs ys e = left_false (named xs) (named ys) (sym (list_any-append (λ i. names i r) xs ys) ∙ e)

  rest_false : (xs ys : List Insn) → named (xs ++ ys) ≡ false → named ys ≡ false
  rest_false xs ys e = right_false (named xs) (named ys) (sym (list_any-append (λ i. names i r) xs ys) ∙ e)

  test_spared : (c : Test) → IsPlainTest c → named (test_insns c) ≡ false → SparesTest r c
  test_spared always p e = tt
  test_spared (if_holds None k) p e = tt
  test_spared (if_holds (Some i) k) p e = spared i p.0 (left_false _ _ e)

  pub all_spared : (t : Code) → IsPlainCode t → named (insns_in t) ≡ false → Every (Spares r) (SparesTest r) t
  all_spared done p e = tt
  all_spared (op i t) p e = let q = p.0 in (spared i q.0 (left_false _ _ e), all_spared t p.1 (right_false _ _ e))
  all_spared (quiet i t) p e = all_spared t p e
  all_spared (choose c a b t) p e =
      let x = rest_false (test_insns c) (insns_in a ++ (insns_in b ++ insns_in t)) e in
      let y = rest_false (insns_in a) (insns_in b ++ insns_in t) x in (
        test_spared c p.0 (first_false (test_insns c) (insns_in a ++ (insns_in b ++ insns_in t)) e),
        all_spared a p.2 (first_false (insns_in a) (insns_in b ++ insns_in t) x),
        all_spared b p.3 (first_false (insns_in b) (insns_in t) y),
        all_spared t p.4 (rest_false (insns_in b) (insns_in t) y),
      )
  all_spared (loop q s c b t) p e =
      let x = rest_false (insns_in s) (test_insns c ++ (insns_in b ++ insns_in t)) e in
      let y = rest_false (test_insns c) (insns_in b ++ insns_in t) x in (
        test_spared c p.0 (first_false (test_insns c) (insns_in b ++ insns_in t) x),
        all_spared s p.2 (first_false (insns_in s) (test_insns c ++ (insns_in b ++ insns_in t)) e),
        all_spared b p.3 (first_false (insns_in b) (insns_in t) y),
        all_spared t p.4 (rest_false (insns_in b) (insns_in t) y),
      )
  all_spared (each f b t) p e = absurd p
  all_spared (call c b t) p e = absurd p
