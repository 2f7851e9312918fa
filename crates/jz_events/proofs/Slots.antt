-- The accesses to slots, one more of them.
use Rattle.std.proofs.Common.{◌≡◌, ℕ, ◌+◌, ◌*◌, ◌<◌, List, [], ◌∷◌, ◌++◌, length, get_or, drop, sym, ap, ◌∙◌, arith, append_assoc, pos, ◌-ℤ◌}
use Rattle.std.proofs.lemmas.List.{drop_more}
use Rattle.x64_insn.specs.declared.types.Reg.{Reg}
use Rattle.x64_insn.specs.declared.types.Reg.TheVariants as reg
use Rattle.jz_leak.specs.declared.transformer.Form.TheVariants as form
use Rattle.jz_leak.specs.declared.transformer.Out.{Out}
use Rattle.jz_leak.specs.declared.transformer.Out.TheVariants as out
use Rattle.jz_stack.specs.Framed.{slot_outs}

-- what was pushed with what is left are all
abbrev pub AreSlots : (size : ℕ) (rs : List Reg) (first k : ℕ) (start now : List Out) → Type 0
AreSlots size rs first k start now = now ++ slot_outs size (first + 8 * k) (drop k rs) ≡ start ++ slot_outs size first rs

pub slots_on : (size : ℕ) (rs : List Reg) (first k offset : ℕ) (start now new : List Out) (x : Out) → k < length rs → AreSlots size rs first k start now → offset ≡ first + 8 * k → x ≡ out.Addr (form.Frame (pos offset -ℤ pos size)) → new ≡ now ++ x ∷ []
    → AreSlots size rs first (k + 1) start new
slots_on size rs first k offset start now new x lt h at is e =
    let here = out.Addr (form.Frame (pos (first + 8 * k) -ℤ pos size)) in
    let one_off : drop k rs ≡ get_or rs k reg.Rax ∷ drop (k + 1) rs = drop_more rs k reg.Rax lt in
    let next : first + 8 * (k + 1) ≡ first + 8 * k + 8 = omega arith in
    ap (λ l. l ++ slot_outs size (first + 8 * (k + 1)) (drop (k + 1) rs)) (e ∙ ap (λ y. now ++ y ∷ []) (is ∙ ap (λ o. out.Addr (form.Frame (pos o -ℤ pos size))) at))
    ∙ append_assoc now (here ∷ []) (slot_outs size (first + 8 * (k + 1)) (drop (k + 1) rs))
    ∙ ap (λ a. now ++ here ∷ slot_outs size a (drop (k + 1) rs)) next
    ∙ ap (λ l. now ++ slot_outs size (first + 8 * k) l) (sym one_off) ∙ h
