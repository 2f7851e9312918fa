-- The frame of a function has its slots in it, and its code is short.
use Rattle.std.proofs.Common.{◌≡◌, ◌≢◌, ℕ, zero, suc, ◌+◌, ◌*◌, ◌/◌, ◌^◌, ◌<◌, ◌≤◌, ◌⊎◌, inl, inr, Bool, true, false, List, [], ◌∷◌, length, refl, sym, ap, ◌∙◌, subst, arith, cond, ◌==◌, if◌then◌else◌}
use Rattle.std.specs.Prelude.{Contains, slice_index_or}
use Rattle.std.specs.List.{list_any, filter}
use Rattle.std.proofs.lemmas.Bool.Decides.{nat_tests}
use Rattle.x64_insn.specs.declared.types.Insn.{Insn}
use Rattle.x64_insn.specs.declared.types.Reg.{Reg}
use Rattle.x64_insn.specs.declared.types.Reg.TheVariants as reg
use Rattle.x64_insn.specs.Table.{number_of}
use Rattle.jz_runs.specs.Trees.{done, op, quiet, choose, loop, each, call}
use Rattle.jz_placing.specs.Instructions.{Code}
use Rattle.jz_linear.specs.Plain.{IsPlainCode}
use Rattle.jz_linear.specs.Lines.{labels_in, parts_in, linear_of}
use Rattle.jz_correct.specs.Frames.{preserved_registers, names, rounded_up, saved_of, frame_end, frame_size}
use Rattle.x64_assemble.specs.Assembling.{total}
use Rattle.x64_assemble.proofs.Short.{linear_short, few_labels}
use Rattle.jz_stack.specs.Framed.{then_tree, saves, loads, down, up, framed}
use Rattle.jz_stack.specs.FrameRuns.{Shape, NoneIsRsp, Among, NotAmong, IsShape}
use Rattle.jz_stack.proofs.FramedRuns.{framed_plain}
use Rattle.jz_stack.proofs.NodeFrames.{filter_short}

-- ---- preserved registers
pub member : (rs : List Reg) (r : Reg) → Contains rs r → Among rs r
member rs r h = by_place rs h.0 h.1 h.2
  where
    by_place : (rs : List Reg) (k : ℕ) → k < length rs → slice_index_or rs k r ≡ r → Among rs r
    by_place [] k lt e = absurd (omega (arith, lt))
    by_place (q ∷ rs) zero lt e = inl e
    by_place (q ∷ rs) (suc k) lt e = inr (by_place rs k (omega (arith, lt)) e)

-- RAX, RDX and the stack pointer are none of them
pub record IsOther (r : Reg) : Type 0 where
  pub not_rax : number_of r ≢ 0
  pub not_rdx : number_of r ≢ 2
  pub not_rsp : number_of r ≢ 4

other : (q r : Reg) → q ≡ r → IsOther q → IsOther r
other q r e h = subst IsOther e h

pub preserved_other : (r : Reg) → Among preserved_registers r → IsOther r
preserved_other r (inl e) = other reg.Rbx r e (record { not_rax = λ k. omega (arith, k); not_rdx = λ k. omega (arith, k); not_rsp = λ k. omega (arith, k) })
preserved_other r (inr (inl e)) = other reg.Rbp r e (record { not_rax = λ k. omega (arith, k); not_rdx = λ k. omega (arith, k); not_rsp = λ k. omega (arith, k) })
preserved_other r (inr (inr (inl e))) = other reg.R12 r e (record { not_rax = λ k. omega (arith, k); not_rdx = λ k. omega (arith, k); not_rsp = λ k. omega (arith, k) })
preserved_other r (inr (inr (inr (inl e)))) = other reg.R13 r e (record { not_rax = λ k. omega (arith, k); not_rdx = λ k. omega (arith, k); not_rsp = λ k. omega (arith, k) })
preserved_other r (inr (inr (inr (inr (inl e))))) = other reg.R14 r e (record { not_rax = λ k. omega (arith, k); not_rdx = λ k. omega (arith, k); not_rsp = λ k. omega (arith, k) })
preserved_other r (inr (inr (inr (inr (inr (inl e)))))) = other reg.R15 r e (record { not_rax = λ k. omega (arith, k); not_rdx = λ k. omega (arith, k); not_rsp = λ k. omega (arith, k) })
preserved_other r (inr (inr (inr (inr (inr (inr e)))))) = absurd e

-- ---- registers by a test
pub among_filtered : (p : Reg → Bool) (rs : List Reg) (r : Reg) → Among rs r → p r ≡ true → Among (filter p rs) r
among_filtered p [] r a t = absurd a
among_filtered p (q ∷ rs) r a t = by_test (p q) refl a (λ s. among_filtered p rs r s t)
  where
    by_test : (b : Bool) → p q ≡ b → (q ≡ r) ⊎ Among rs r → (Among rs r → Among (filter p rs) r) → Among (cond b (q ∷ filter p rs) (filter p rs)) r
    by_test true e (inl s) k = inl s
    by_test true e (inr s) k = inr (k s)
    by_test false e (inl s) k = absurd (let z : p r ≡ false = subst (λ x. p x ≡ false) s e in let j : true ≡ false = sym t ∙ z in cc)
    by_test false e (inr s) k = k s

pub not_among_filtered : (p : Reg → Bool) (rs : List Reg) (r : Reg) → ((q : Reg) → p q ≡ true → number_of q ≢ number_of r) → NotAmong (filter p rs) r
not_among_filtered p [] r h = tt
not_among_filtered p (q ∷ rs) r h = by_test (p q) refl (not_among_filtered p rs r h)
  where
    by_test : (b : Bool) → p q ≡ b → NotAmong (filter p rs) r → NotAmong (cond b (q ∷ filter p rs) (filter p rs)) r
    by_test true e k = (h q e, k)
    by_test false e k = k

none_filtered : (p : Reg → Bool) (rs : List Reg) → NoneIsRsp rs → NoneIsRsp (filter p rs)
none_filtered p [] h = tt
none_filtered p (q ∷ rs) h = by_test (p q) (none_filtered p rs h.1)
  where
    by_test : (b : Bool) → NoneIsRsp (filter p rs) → NoneIsRsp (cond b (q ∷ filter p rs) (filter p rs))
    by_test true k = (h.0, k)
    by_test false k = k

pub saved_none : (is : List Insn) → NoneIsRsp (saved_of is)
saved_none is =
    none_filtered (λ r. list_any (λ i. names i r) is) preserved_registers
    ((λ e. omega (arith, e)), ((λ e. omega (arith, e)), ((λ e. omega (arith, e)), ((λ e. omega (arith, e)), ((λ e. omega (arith, e)), ((λ e. omega (arith, e)), tt))))))

pub saved_few : (is : List Insn) → length (saved_of is) ≤ 6
saved_few is = filter_short (λ r. list_any (λ i. names i r) is) preserved_registers

-- ---- the shape
size_above : (end : ℕ) (b : Bool) → (end == 0) ≡ b → (rounded_up 8 end ≤ frame_size end) × (end ≤ frame_size end) × (frame_size end ≤ end + 32)
size_above end true e =
    let z : end ≡ 0 = grind (arith, nat_tests, e) in
    subst (λ x. (rounded_up 8 x ≤ frame_size x) × (x ≤ frame_size x) × (frame_size x ≤ x + 32)) (sym z) (omega arith, omega arith, omega arith)
size_above end false e =
    let k : frame_size end ≡ 16 * ((end + 7) / 16) + 8 = ap (λ b. if b then 0 else 16 * ((end + 7) / 16) + 8) e in
    (omega (arith, k), omega (arith, k), omega (arith, k))

slots_within : (end : ℕ) (saved : List Reg) → end ≤ 65536 → length saved ≤ 6 → (rounded_up 8 end + 8 * length saved ≤ frame_size (frame_end end saved)) × (frame_size (frame_end end saved) < 2 ^ 31)
slots_within end [] le few = let h = size_above end (end == 0) refl in (omega (arith, h.0), omega (arith, h.2, le))
slots_within end (r ∷ rs) le few =
    let top = rounded_up 8 end + 8 * length (r ∷ rs) in
    let h = size_above top (top == 0) refl in
    let up : rounded_up 8 end ≤ 65536 = omega (arith, le) in
    (h.1, omega (arith, h.2, up, few))

abbrev pub shape_of : ℕ → List Reg → Shape
shape_of end saved = record { size = frame_size (frame_end end saved); at = rounded_up 8 end; saved = saved }

pub is_shape : (end : ℕ) (saved : List Reg) → end ≤ 65536 → length saved ≤ 6 → NoneIsRsp saved → IsShape (shape_of end saved)
is_shape end saved le few none = let h = slots_within end saved le few in record { slots = h.0; small = h.1; none = none }

pub slots_small : (end : ℕ) (saved : List Reg) → end ≤ 65536 → length saved ≤ 6 → rounded_up 8 end + 8 * length saved < 2 ^ 31
slots_small end saved le few = let h = slots_within end saved le few in omega (arith, h.0, h.1)

-- ---- how many parts a frame adds
parts_then : (a b : Code) → parts_in (then_tree a b) ≡ parts_in a + parts_in b
parts_then done b = omega arith
parts_then (op i r) b = let h = parts_then r b in omega (arith, h)
parts_then (quiet i r) b = parts_then r b
parts_then (choose c x y r) b = let h = parts_then r b in omega (arith, h)
parts_then (loop q p c y r) b = let h = parts_then r b in omega (arith, h)
parts_then (each f y r) b = absurd f
parts_then (call c y r) b = absurd c

parts_saves : (rs : List Reg) (at : ℕ) (t : Code) → parts_in (saves at rs t) ≡ length rs + parts_in t
parts_saves [] at t = omega arith
parts_saves (r ∷ rs) at t = let h = parts_saves rs (at + 8) t in omega (arith, h)

parts_loads : (rs : List Reg) (at : ℕ) (t : Code) → parts_in (loads at rs t) ≡ length rs + parts_in t
parts_loads [] at t = omega arith
parts_loads (r ∷ rs) at t = let h = parts_loads rs (at + 8) t in omega (arith, h)

framed_parts : (size at : ℕ) (saved : List Reg) (body : Code) → parts_in (framed size at saved body) ≤ parts_in body + 2 * length saved + 2
framed_parts size at saved body = by_size (size == 0)
  where
    around : Code
    around = op (down size) (saves at saved (then_tree body (loads at saved (op (up size) done))))

    by_size : (b : Bool) → parts_in (cond b body around) ≤ parts_in body + 2 * length saved + 2
    by_size true = omega arith
    by_size false =
        let x = parts_saves saved at (then_tree body (loads at saved (op (up size) done))) in
        let y = parts_then body (loads at saved (op (up size) done)) in
        let z = parts_loads saved at (op (up size) done) in
        let w : parts_in (op (up size) done) ≡ 1 = refl in
        let v : parts_in around ≡ 1 + parts_in (saves at saved (then_tree body (loads at saved (op (up size) done)))) = refl in
        omega (arith, x, y, z, w, v)

-- a function is short enough to become bytes
module _ (end : ℕ) (saved : List Reg) (le : end ≤ 65536) (few : length saved ≤ 6) (none : NoneIsRsp saved) (body : Code) (short : parts_in body < 2 ^ 26) (ok : IsPlainCode body) where
  abbrev whole : Code
  whole = framed (frame_size (frame_end end saved)) (rounded_up 8 end) saved body

  pub whole_plain : IsPlainCode whole
  whole_plain =
      let is = is_shape end saved le few none in
      let size = frame_size (frame_end end saved) in
      framed_plain size (rounded_up 8 end) saved body (size == 0) refl is.small is.slots ok

  parts_few : parts_in whole < 2 ^ 26 + 16
  parts_few = let h = framed_parts (frame_size (frame_end end saved)) (rounded_up 8 end) saved body in omega (arith, h, few, short)

  pub whole_short : total (linear_of whole) < 2 ^ 31
  whole_short = let h = linear_short whole whole_plain in let k = parts_few in omega (arith, h, k)

  pub whole_few : labels_in whole < 2 ^ 32
  whole_few = let h = few_labels whole in let k = parts_few in omega (arith, h, k)
