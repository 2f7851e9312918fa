-- A body with its frame: the stack pointer goes down, preserved registers are saved, and behind the
-- body all is undone.
use Rattle.std.specs.Prelude.{ℕ, ◌+◌, ◌==◌, pos, ◌-ℤ◌, List, [], ◌∷◌, ◌++◌, Some, None, if◌then◌else◌}
use Rattle.jz_words.specs.declared.size.Size.TheVariants.{S64}
use Rattle.x64_insn.specs.declared.types.Reg.{Reg}
use Rattle.x64_insn.specs.declared.types.Reg.TheVariants as reg
use Rattle.x64_insn.specs.declared.types.Mem.{Mem}
use Rattle.x64_insn.specs.declared.types.Base.TheVariants as base
use Rattle.x64_insn.specs.declared.types.Alu.TheVariants as alu
use Rattle.x64_insn.specs.declared.types.Operand.TheVariants as operand
use Rattle.x64_insn.specs.declared.types.Insn.{Insn}
use Rattle.x64_insn.specs.declared.types.Insn.TheVariants as insn
use Rattle.jz_leak.specs.declared.transformer.Form.TheVariants as form
use Rattle.jz_leak.specs.declared.transformer.Out.{Out}
use Rattle.jz_leak.specs.declared.transformer.Out.TheVariants as out
use Rattle.jz_leak.specs.declared.transformer.Case.{Case}
use Rattle.jz_leak.specs.declared.transformer.Transformer.{Transformer}
use Rattle.jz_leak.specs.RunLeaks.{Leak, over, ran, chose, chose_cut, looped, looped_cut, each as each_item, each_cut, called, called_cut}
use Rattle.jz_runs.specs.Trees.{Tree, done, op, quiet, choose, loop, each, call}
use Rattle.jz_placing.specs.Instructions.{Test, always, if_holds, Code}

-- one tree behind another
abbrev pub then_tree : {O T F C : Type 0} → Tree O T F C → Tree O T F C → Tree O T F C
then_tree done r = r
then_tree (op o x) r = op o (then_tree x r)
then_tree (quiet o x) r = quiet o (then_tree x r)
then_tree (choose c a b x) r = choose c a b (then_tree x r)
then_tree (loop q p c b x) r = loop q p c b (then_tree x r)
then_tree (each f b x) r = each f b (then_tree x r)
then_tree (call c b x) r = call c b (then_tree x r)

-- one leak behind another; nothing stands behind a cut
abbrev pub join : Leak → Leak → Leak
join over l = l
join (ran ns a) l = ran ns (join a l)
join (chose ns z a b) l = chose ns z a (join b l)
join (chose_cut ns z a) l = chose_cut ns z a
join (looped ts a) l = looped ts (join a l)
join (looped_cut ts) l = looped_cut ts
join (each_item rs a) l = each_item rs (join a l)
join (each_cut rs) l = each_cut rs
join (called ns b ms a) l = called ns b ms (join a l)
join (called_cut ns b) l = called_cut ns b

-- ---- the instructions of a body, those of tests too
abbrev pub test_insns : Test → List Insn
test_insns always = []
test_insns (if_holds None c) = []
test_insns (if_holds (Some i) c) = i ∷ []

abbrev pub insns_in : Code → List Insn
insns_in done = []
insns_in (op i r) = i ∷ insns_in r
insns_in (quiet i r) = insns_in r
insns_in (choose c a b r) = test_insns c ++ (insns_in a ++ (insns_in b ++ insns_in r))
insns_in (loop q p c b r) = insns_in p ++ (test_insns c ++ (insns_in b ++ insns_in r))
insns_in (each f b r) = []
insns_in (call c b r) = []

-- ---- slots of preserved registers, one above the other, so far above the stack pointer
abbrev pub slot_of : ℕ → Mem
slot_of o = record { base = base.Reg reg.Rsp; index = None; disp = pos o }

abbrev pub save : Reg → ℕ → Insn
save r at = insn.Mov S64 (operand.Mem (slot_of at)) (operand.Reg r)

abbrev pub load : Reg → ℕ → Insn
load r at = insn.Mov S64 (operand.Reg r) (operand.Mem (slot_of at))

abbrev pub saves : ℕ → List Reg → Code → Code
saves at [] t = t
saves at (r ∷ rs) t = op (save r at) (saves (at + 8) rs t)

abbrev pub loads : ℕ → List Reg → Code → Code
loads at [] t = t
loads at (r ∷ rs) t = op (load r at) (loads (at + 8) rs t)

abbrev pub down : ℕ → Insn
down size = insn.Alu alu.Sub S64 (operand.Reg reg.Rsp) (operand.Imm (pos size))

abbrev pub up : ℕ → Insn
up size = insn.Alu alu.Add S64 (operand.Reg reg.Rsp) (operand.Imm (pos size))

-- a frame of that size, the first slot so far above the stack pointer
abbrev pub framed : ℕ → ℕ → List Reg → Code → Code
framed size at saved body =
    if size == 0 then body
    else op (down size) (saves at saved (then_tree body (loads at saved (op (up size) done))))

-- ---- what a framed function shows: the slots, counted from the stack pointer at entry, the body's
-- events, the slots again and that of the return
abbrev pub slot_outs : ℕ → ℕ → List Reg → List Out
slot_outs size at [] = []
slot_outs size at (r ∷ rs) =
    out.Addr (form.Frame (pos at -ℤ pos size)) ∷ slot_outs size (at + 8) rs

abbrev pub framed_tr : ℕ → ℕ → List Reg → List Case → Transformer
framed_tr size at saved cases = record {
  before = slot_outs size at saved;
  body = record { cases = cases };
  after = slot_outs size at saved ++ out.Addr (form.Frame (pos 0)) ∷ [];
}
