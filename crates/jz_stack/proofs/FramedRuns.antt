-- A run of a body is a run of the body with its frame.
use Rattle.std.proofs.Common.{◌≡◌, ℕ, ◌+◌, ◌-◌, ◌*◌, ◌^◌, ◌<◌, ◌≤◌, Bool, true, false, List, [], ◌∷◌, length, refl, sym, ap, ◌∙◌, subst, arith, if◌then◌else◌, ◌==◌}
use Rattle.std.specs.Prelude.{is_some, pos, slice_index, slice_set}
use Rattle.std.specs.FinMap.{get}
use Rattle.std.proofs.lemmas.Int.{ints}
use Rattle.std.proofs.lemmas.List.{get_or-set_other, get_or-set_same}
use Rattle.x64_insn.specs.declared.types.Reg.{Reg}
use Rattle.x64_insn.specs.declared.types.FaultKind.{FaultKind}
use Rattle.x64_insn.specs.Chosen.{fits_bytes, is_spelled}
use Rattle.x64_insn.specs.Table.{number_of}
use Rattle.x64_insn.proofs.Immediates.{within_fits}
use Rattle.jz_leak.specs.RunLeaks as leak
use Rattle.jz_leak.specs.RunLeaks.{Leak}
use Rattle.jz_runs.specs.Trees.{done, op, quiet, choose, loop, each, call}
use Rattle.jz_runs.specs.Rules.{Outcome, End, Cut, Stuck, after, Goes, finished, did}
use Rattle.jz_placing.specs.Instructions.{Machine, Code, instructions}
use Rattle.jz_linear.specs.Plain.{IsPlain, IsPlainCode}
use Rattle.jz_stack.specs.Framed.{then_tree, join, save, load, saves, loads, down, up, framed}
use Rattle.jz_stack.proofs.Joined.{joined, after_both}
use Rattle.jz_stack.proofs.Prologue.{rsp_of, Moved, goes_down, goes_up, saved_memory, AreSaved, slots_leak, saves_go, restored, loads_go}
use Rattle.jz_stack.specs.FrameRuns.{NoneIsRsp}

-- what a frame asks of a state at entry
pub record HasRoom (size at : ℕ) (saved : List Reg) (rsp0 : ℕ) (s0 : Machine) : Type 0 where
  pub some : (size == 0) ≡ false
  pub stack : rsp_of s0 ≡ rsp0
  pub above : size ≤ rsp0
  pub below : rsp0 < 2 ^ 64
  pub slots : at + 8 * length saved ≤ size
  pub valid : (q : ℕ) → rsp0 - size ≤ q → q < rsp0 → is_some (get s0.memory q) ≡ true
  pub none : NoneIsRsp saved
  pub sixteen : length s0.regs ≡ 16

module _ (size at : ℕ) (saved : List Reg) (rsp0 : ℕ) (s0 : Machine) (room : HasRoom size at saved rsp0 s0) (body : Code) where
  abbrev pub low : ℕ
  low = rsp0 - size

  pub moved_down : Moved (down size) s0 (rsp_of s0 - size)
  moved_down = let a = room.above in let b = room.below in let e = room.stack in goes_down size s0 (omega (arith, a, e)) (omega (arith, b, e))

  -- where the body begins
  abbrev pub entered : Machine
  entered = record (moved_down.now) { memory = saved_memory low at saved moved_down.now.regs s0.memory }

  pub entered_regs : entered.regs ≡ slice_set s0.regs 4 low
  entered_regs = moved_down.regs ∙ ap (λ x. slice_set s0.regs 4 (x - size)) room.stack

  pub entered_rsp : rsp_of entered ≡ low
  entered_rsp = ap (λ rs. slice_index rs 4) entered_regs ∙ get_or-set_same s0.regs 4 low 0 (let n = room.sixteen in omega (arith, n))

  -- what is leaked round the body
  abbrev pub around : Leak → Leak
  around l = leak.ran [] (slots_leak low at saved (join l (slots_leak low at saved (leak.ran [] leak.over))))

  abbrev pub before : Leak → Leak
  before l = leak.ran [] (slots_leak low at saved l)

  abbrev pub epilogue : Code
  epilogue = loads at saved (op (up size) done)

  framed_is : framed size at saved body ≡ op (down size) (saves at saved (then_tree body epilogue))
  framed_is = ap (λ b. if b then body else op (down size) (saves at saved (then_tree body epilogue))) room.some

  -- all up to the body
  begins : (n : ℕ) (o : Outcome Machine FaultKind Leak) → Goes instructions (then_tree body epilogue) n entered o → Goes instructions (framed size at saved body) n s0 (after before o)
  begins n o g =
      let d = moved_down in
      let a = room.above in
      let b = room.below in
      let slots = room.slots in
      let rsp : rsp_of d.now ≡ low = ap (λ rs. slice_index rs 4) entered_regs ∙ get_or-set_same s0.regs 4 low 0 (let n = room.sixteen in omega (arith, n)) in
      let start : Goes instructions (then_tree body epilogue) n (record (d.now) { memory = saved_memory (rsp_of d.now) at saved d.now.regs d.now.memory }) o =
      subst (λ x. Goes instructions (then_tree body epilogue) n (record (d.now) { memory = saved_memory x at saved d.now.regs d.now.memory }) o) (sym rsp)
      (subst (λ m. Goes instructions (then_tree body epilogue) n (record (d.now) { memory = saved_memory low at saved d.now.regs m }) o) (sym d.memory) g) in
      let s = saves_go saved at d.now (then_tree body epilogue) n o (omega (arith, rsp, slots, a, b)) (λ q l h. ap (λ m. is_some (get m q)) d.memory ∙ room.valid q (omega (arith, l, rsp)) (omega (arith, h, rsp, slots, a))) start in
      let s1 : Goes instructions (saves at saved (then_tree body epilogue)) n d.now (after (slots_leak low at saved) o) =
      subst (λ x. Goes instructions (saves at saved (then_tree body epilogue)) n d.now (after (slots_leak x at saved) o)) rsp s in
      subst (λ t. Goes instructions t n s0 (after before o)) (sym framed_is)
      (subst (λ (p : Outcome Machine FaultKind Leak). Goes instructions (op (down size) (saves at saved (then_tree body epilogue))) n s0 p) (after_both (leak.ran []) (slots_leak low at saved) o) (did d.moves s1))

  -- the body ends: so does all, with the saved registers and the stack pointer as they were
  pub record Undone (n left : ℕ) (s1 : Machine) (l : Leak) : Type 0 where
    pub last : Machine
    pub goes : Goes instructions (framed size at saved body) n s0 (End last left (around l))
    pub regs : last.regs ≡ slice_set (restored saved entered.regs s1.regs) 4 rsp0
    pub memory : last.memory ≡ s1.memory

  restored_rsp : (rs : List Reg) (old regs : List ℕ) → NoneIsRsp rs → slice_index (restored rs old regs) 4 ≡ slice_index regs 4
  restored_rsp [] old regs h = refl
  restored_rsp (r ∷ rs) old regs h = restored_rsp rs old _ h.1 ∙ get_or-set_other regs (number_of r) 4 _ 0 (λ e. h.0 (sym e))

  pub framed_end : (n left : ℕ) (s1 : Machine) (l : Leak) → Goes instructions body n entered (End s1 left l) → rsp_of s1 ≡ low → AreSaved low at saved entered.regs s1.memory → Undone n left s1 l
  framed_end n left s1 l g rsp are =
      let a = room.above in
      let b = room.below in
      let slots = room.slots in
      let s2 : Machine = record s1 { regs = restored saved entered.regs s1.regs } in
      let rsp2 : rsp_of s2 ≡ low = restored_rsp saved entered.regs s1.regs room.none ∙ rsp in
      let u = goes_up size s2 (omega (arith, rsp2, a, b)) in
      let rest : Goes instructions epilogue left s1 (after (slots_leak low at saved) (End u.now left (leak.ran [] leak.over))) =
      loads_go saved at low s1 entered.regs (op (up size) done) left (End u.now left (leak.ran [] leak.over)) rsp (omega (arith, slots, a, b)) room.none are (did u.moves finished) in
      let both = joined instructions epilogue g _ rest in
      let back : rsp_of s2 + size ≡ rsp0 = omega (arith, rsp2, a) in
      record {
        last = u.now;
        goes = begins n _ both;
        regs = u.regs ∙ ap (slice_set s2.regs 4) back;
        memory = u.memory;
      }

  pub framed_cut : (n : ℕ) (l : Leak) → Goes instructions body n entered (Cut l) → Goes instructions (framed size at saved body) n s0 (Cut (before l))
  framed_cut n l g = begins n (Cut l) (joined instructions epilogue g)

  pub framed_stuck : (n : ℕ) (w : FaultKind) → Goes instructions body n entered (Stuck w) → Goes instructions (framed size at saved body) n s0 (Stuck w)
  framed_stuck n w g = begins n (Stuck w) (joined instructions epilogue g)

-- ---- what jz_linear takes
small : (n : ℕ) → n < 2 ^ 31 → fits_bytes 4 (pos n) ≡ true
small n lt = within_fits 4 (pos n) (omega (arith, ints)) (omega (arith, ints, lt))

down_plain : (size : ℕ) → size < 2 ^ 31 → IsPlain (down size)
unfolding is_spelled
down_plain size lt = (refl, small size lt)

up_plain : (size : ℕ) → size < 2 ^ 31 → IsPlain (up size)
unfolding is_spelled
up_plain size lt = (refl, small size lt)

save_plain : (r : Reg) (at : ℕ) → at < 2 ^ 31 → IsPlain (save r at)
unfolding is_spelled
save_plain r at lt = (refl, small at lt)

load_plain : (r : Reg) (at : ℕ) → at < 2 ^ 31 → IsPlain (load r at)
unfolding is_spelled
load_plain r at lt = (refl, small at lt)

saves_placed : (rs : List Reg) (at : ℕ) (t : Code) → at + 8 * length rs < 2 ^ 31 → IsPlainCode t → IsPlainCode (saves at rs t)
saves_placed [] at t lt is = is
saves_placed (r ∷ rs) at t lt is = (save_plain r at (omega (arith, lt)), saves_placed rs (at + 8) t (omega (arith, lt)) is)

loads_placed : (rs : List Reg) (at : ℕ) (t : Code) → at + 8 * length rs < 2 ^ 31 → IsPlainCode t → IsPlainCode (loads at rs t)
loads_placed [] at t lt is = is
loads_placed (r ∷ rs) at t lt is = (load_plain r at (omega (arith, lt)), loads_placed rs (at + 8) t (omega (arith, lt)) is)

both_placed : (a b : Code) → IsPlainCode a → IsPlainCode b → IsPlainCode (then_tree a b)
both_placed done b h g = g
both_placed (op i r) b h g = (h.0, both_placed r b h.1 g)
both_placed (quiet i r) b h g = both_placed r b h g
both_placed (choose c x y r) b h g = (h.0, h.1, h.2, h.3, both_placed r b h.4 g)
both_placed (loop q p c y r) b h g = (h.0, h.1, h.2, h.3, both_placed r b h.4 g)
both_placed (each f y r) b h g = absurd f
both_placed (call c y r) b h g = absurd c

pub framed_plain : (size at : ℕ) (saved : List Reg) (body : Code) (z : Bool) → (size == 0) ≡ z → size < 2 ^ 31 → at + 8 * length saved ≤ size → IsPlainCode body → IsPlainCode (framed size at saved body)
framed_plain size at saved body true e lt le is = subst (λ b. IsPlainCode (if b then body else op (down size) (saves at saved (then_tree body (loads at saved (op (up size) done)))))) (sym e) is
framed_plain size at saved body false e lt le is =
    subst (λ b. IsPlainCode (if b then body else op (down size) (saves at saved (then_tree body (loads at saved (op (up size) done)))))) (sym e)
    (down_plain size lt, saves_placed saved at _ (omega (arith, lt, le)) (both_placed body (loads at saved (op (up size) done)) is (loads_placed saved at (op (up size) done) (omega (arith, lt, le)) (up_plain size lt, tt))))
