-- The frame names no preserved register that the body does not name.
use Rattle.std.proofs.Common.{◌≡◌, ◌≢◌, ℕ, ◌+◌, Bool, true, false, ◌||◌, List, [], ◌∷◌, ◌++◌, refl, sym, ap, ◌∙◌, subst, arith, append_assoc, cond, ◌==◌}
use Rattle.std.specs.List.{list_any, filter}
use Rattle.std.proofs.lemmas.Bool.Decides.{nat_tests}
use Rattle.std.proofs.lemmas.List.Folds.{list_any-append}
use Rattle.x64_insn.specs.declared.types.Reg.{Reg}
use Rattle.x64_insn.specs.declared.types.Reg.TheVariants as reg
use Rattle.x64_insn.specs.Table.{number_of}
use Rattle.x64_insn.proofs.Registers.{same_register}
use Rattle.jz_runs.specs.Trees.{done, op, quiet, choose, loop, each, call}
use Rattle.jz_placing.specs.Instructions.{Code}
use Rattle.jz_place.specs.declared.placed.PlacedNode.{PlacedNode}
use Rattle.jz_place.specs.Codes.{code_in}
use Rattle.jz_correct.specs.Frames.{is_reg, names, preserved_registers, saved_of}
use Rattle.jz_stack.specs.Framed.{then_tree, test_insns, insns_in, save, load, saves, loads, down, up, framed}
use Rattle.jz_stack.proofs.NodeFrames.{any_names}

-- ---- the instructions of one tree behind another
insns_both : (a b : Code) → insns_in (then_tree a b) ≡ insns_in a ++ insns_in b
insns_both done b = refl
insns_both (op i a) b = ap (λ l. i ∷ l) (insns_both a b)
insns_both (quiet i a) b = insns_both a b
insns_both (choose c x y a) b =
    let t = test_insns c in
    let ix = insns_in x in
    let iy = insns_in y in
    ap (λ l. t ++ (ix ++ (iy ++ l))) (insns_both a b) ∙ ap (λ l. t ++ (ix ++ l)) (sym (append_assoc iy (insns_in a) (insns_in b)))
    ∙ ap (λ l. t ++ l) (sym (append_assoc ix (iy ++ insns_in a) (insns_in b))) ∙ sym (append_assoc t (ix ++ (iy ++ insns_in a)) (insns_in b))
insns_both (loop q x c y a) b =
    let t = test_insns c in
    let ix = insns_in x in
    let iy = insns_in y in
    ap (λ l. ix ++ (t ++ (iy ++ l))) (insns_both a b) ∙ ap (λ l. ix ++ (t ++ l)) (sym (append_assoc iy (insns_in a) (insns_in b)))
    ∙ ap (λ l. ix ++ l) (sym (append_assoc t (iy ++ insns_in a) (insns_in b))) ∙ sym (append_assoc ix (t ++ (iy ++ insns_in a)) (insns_in b))
insns_both (each f x a) b = absurd f
insns_both (call c x a) b = absurd c

-- ---- a register that is not the stack pointer
module _ (r : Reg) (ne : number_of r ≢ 4) where
  no_rsp : is_reg reg.Rsp r ≡ false
  no_rsp = grind (arith, nat_tests, ne)

  or_none : (b : Bool) → (b || false) ≡ b
  or_none true = refl
  or_none false = refl

  save_names : (q : Reg) (at : ℕ) → names (save q at) r ≡ is_reg q r
  save_names q at = ap (λ b. (b || false) || is_reg q r) no_rsp

  load_names : (q : Reg) (at : ℕ) → names (load q at) r ≡ is_reg q r
  load_names q at = ap (λ b. is_reg q r || (b || false)) no_rsp ∙ or_none (is_reg q r)

  or_assoc : (a b c : Bool) → (a || (b || c)) ≡ ((a || b) || c)
  or_assoc true b c = refl
  or_assoc false b c = refl

  saves_named : (rs : List Reg) (at : ℕ) (t : Code) → any_names r (saves at rs t) ≡ (list_any (λ q. is_reg q r) rs || any_names r t)
  saves_named [] at t = refl
  saves_named (q ∷ rs) at t =
      ap (λ b. b || any_names r (saves (at + 8) rs t)) (save_names q at) ∙ ap (λ b. is_reg q r || b) (saves_named rs (at + 8) t)
      ∙ or_assoc (is_reg q r) (list_any (λ q. is_reg q r) rs) (any_names r t)

  loads_named : (rs : List Reg) (at : ℕ) (t : Code) → any_names r (loads at rs t) ≡ (list_any (λ q. is_reg q r) rs || any_names r t)
  loads_named [] at t = refl
  loads_named (q ∷ rs) at t =
      ap (λ b. b || any_names r (loads (at + 8) rs t)) (load_names q at) ∙ ap (λ b. is_reg q r || b) (loads_named rs (at + 8) t)
      ∙ or_assoc (is_reg q r) (list_any (λ q. is_reg q r) rs) (any_names r t)

  down_names : (size : ℕ) → names (down size) r ≡ false
  down_names size = ap (λ b. b || false) no_rsp

  up_names : (size : ℕ) → names (up size) r ≡ false
  up_names size = ap (λ b. b || false) no_rsp

  both_named : (a b : Code) → any_names r (then_tree a b) ≡ (any_names r a || any_names r b)
  both_named a b = ap (list_any (λ i. names i r)) (insns_both a b) ∙ list_any-append (λ i. names i r) (insns_in a) (insns_in b)

  -- the frame's instructions name the saved registers
  around_named : (size at : ℕ) (rs : List Reg) (body : Code)
      → any_names r (op (down size) (saves at rs (then_tree body (loads at rs (op (up size) done)))))
      ≡ (list_any (λ q. is_reg q r) rs || (any_names r body || (list_any (λ q. is_reg q r) rs || false)))
  around_named size at rs body =
      let s = list_any (λ q. is_reg q r) rs in
      ap (λ b. b || any_names r (saves at rs (then_tree body (loads at rs (op (up size) done))))) (down_names size)
      ∙ saves_named rs at (then_tree body (loads at rs (op (up size) done)))
      ∙ ap (λ b. s || b) (both_named body (loads at rs (op (up size) done)) ∙ ap (λ b. any_names r body || b) (loads_named rs at (op (up size) done) ∙ ap (λ b. s || (b || false)) (up_names size)))

  absorbed : (a p : Bool) → (a ≡ true → p ≡ true) → (a || (p || (a || false))) ≡ p
  absorbed true true h = refl
  absorbed true false h = sym (h refl)
  absorbed false true h = refl
  absorbed false false h = refl

-- ---- what is saved
same_reg : (q r : Reg) → is_reg q r ≡ true → q ≡ r
same_reg q r h = same_register q r (grind (arith, nat_tests, h))

module _ (p : Reg → Bool) (r : Reg) where
  saved_here : (q : Reg) (rest : Bool) → (rest ≡ true → p r ≡ true) → (b : Bool) → (b || rest) ≡ true → is_reg q r ≡ b → p q ≡ true → p r ≡ true
  saved_here q rest more true e is t = subst (λ x. p x ≡ true) (same_reg q r is) t
  saved_here q rest more false e is t = more e

  saved_by : (q : Reg) (rs : List Reg) → (list_any (λ x. is_reg x r) (filter p rs) ≡ true → p r ≡ true) → (b : Bool) → p q ≡ b → list_any (λ x. is_reg x r) (cond b (q ∷ filter p rs) (filter p rs)) ≡ true → p r ≡ true
  saved_by q rs more true t e = saved_here q (list_any (λ x. is_reg x r) (filter p rs)) more (is_reg q r) e refl t
  saved_by q rs more false t e = more e

  any_saved : (rs : List Reg) → list_any (λ x. is_reg x r) (filter p rs) ≡ true → p r ≡ true
  any_saved [] h = absurd cc
  any_saved (q ∷ rs) h = saved_by q rs (λ e. any_saved rs e) (p q) refl h

-- a test of registers that agrees on those that are not the stack pointer
filter_as : (p q : Reg → Bool) → ((r : Reg) → number_of r ≢ 4 → q r ≡ p r) → filter q preserved_registers ≡ filter p preserved_registers
filter_as p q same =
    let a = same reg.Rbx (λ e. absurd (omega (arith, e))) in
    let b = same reg.Rbp (λ e. absurd (omega (arith, e))) in
    let c = same reg.R12 (λ e. absurd (omega (arith, e))) in
    let d = same reg.R13 (λ e. absurd (omega (arith, e))) in
    let f = same reg.R14 (λ e. absurd (omega (arith, e))) in
    let g = same reg.R15 (λ e. absurd (omega (arith, e))) in
    rw (a, b, c, d, f, g) refl

pub saved_all : (size at : ℕ) (body : Code) → saved_of (insns_in (framed size at (saved_of (insns_in body)) body)) ≡ saved_of (insns_in body)
saved_all size at body = by_size (size == 0)
  where
    saved : List Reg
    saved = saved_of (insns_in body)

    around : Code
    around = op (down size) (saves at (saved_of (insns_in body)) (then_tree body (loads at (saved_of (insns_in body)) (op (up size) done))))

    agrees : (r : Reg) → number_of r ≢ 4 → any_names r around ≡ any_names r body
    agrees r ne = around_named r ne size at (saved_of (insns_in body)) body
        ∙ absorbed r ne (list_any (λ q. is_reg q r) (saved_of (insns_in body))) (any_names r body) (λ h. any_saved (λ x. any_names x body) r preserved_registers h)

    by_size : (b : Bool) → saved_of (insns_in (cond b body around)) ≡ saved_of (insns_in body)
    by_size true = refl
    by_size false = filter_as (λ r. any_names r body) (λ r. any_names r around) agrees

pub named_all : (size at : ℕ) (saved sliced : List Reg) (body made : List PlacedNode) → saved ≡ saved_of (insns_in (code_in body)) → sliced ≡ saved → code_in made ≡ framed size at sliced (code_in body) → saved ≡ saved_of (insns_in (code_in made))
named_all size at saved sliced body made e s code =
    e ∙ sym (saved_all size at (code_in body)) ∙ ap (λ x. saved_of (insns_in (framed size at x (code_in body)))) (sym (s ∙ e)) ∙ ap (λ t. saved_of (insns_in t)) (sym code)
