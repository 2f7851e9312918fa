-- Lines of a tree that have less than 2^31 bytes with wide jumps have spellings.
use Rattle.std.proofs.Common.{◌≡◌, ℕ, zero, suc, ◌+◌, ◌^◌, ◌<◌, ◌≤◌, Bool, true, false, List, [], ◌∷◌, ◌++◌, length, refl, ap, arith, pos, ◌-ℤ◌}
use Rattle.std.specs.Prelude.{Option, Some, None, map}
use Rattle.std.proofs.lemmas.Int.{ints}
use Rattle.x64_insn.specs.declared.types.Insn.{Insn}
use Rattle.x64_insn.specs.declared.types.Insn.TheVariants as insn
use Rattle.x64_insn.specs.Chosen.{fits_bytes, chosen_bytes, is_spelled}
use Rattle.x64_insn.proofs.ChosenSpelling.{chosen_spells}
use Rattle.x64_insn.proofs.Immediates.{within_fits}
use Rattle.jz_runs.specs.Trees.{done, op, quiet, choose, loop, each, call}
use Rattle.jz_linear.specs.declared.line.Line.{Line}
use Rattle.jz_linear.specs.declared.line.Line.TheVariants as line
use Rattle.jz_placing.specs.Instructions.{Test, always, if_holds, Code}
use Rattle.jz_linear.specs.Plain.{IsPlainCode, IsPlainTest}
use Rattle.jz_linear.specs.Lines.{negated, labels_in, is_empty, test_lines, else_lines, choice_lines, turn_lines, loop_lines, lines_of, linear_of}
use Rattle.jz_linear.specs.LineRuns.{instructions_in, place_of}
use Rattle.x64_assemble.specs.Assembling.{Wide, size_of, offset_of, insns_from, wide_line, all_wide, insns_of_lines, assembled, AreSpellable, AreSpelled, AllSpelled}

pub near : (a b : ℕ) → a < 2 ^ 31 → b < 2 ^ 31 → fits_bytes 4 (pos a -ℤ pos b) ≡ true
near a b h k = within_fits 4 (pos a -ℤ pos b) (omega (arith, ints, h, k)) (omega (arith, ints, h, k))

pub offset_below : (ws : List Wide) (k : ℕ) → offset_of ws k ≤ offset_of ws (length ws)
offset_below [] k = omega arith
offset_below (w ∷ ws) zero = omega arith
offset_below (w ∷ ws) (suc k) = let h = offset_below ws k in omega (arith, h)

spelled_from : (target : ℕ → ℕ) → ((l : ℕ) → target l < 2 ^ 31) → (ls : List Line) (at : ℕ) → AllSpelled ls → at + offset_of (map wide_line ls) (length (map wide_line ls)) < 2 ^ 31 → AreSpellable (insns_from target at (map wide_line ls))
unfolding is_spelled
spelled_from target below [] at all lt = tt
spelled_from target below (line.Insn i ∷ ls) at all lt = (all.0, spelled_from target below ls _ all.1 (omega (arith, lt)))
spelled_from target below (line.Label l ∷ ls) at all lt = (refl, spelled_from target below ls _ all (omega (arith, lt)))
spelled_from target below (line.Jcc c l ∷ ls) at all lt = (near (target l) (at + 6) (below l) (omega (arith, lt)), spelled_from target below ls _ all (omega (arith, lt)))
spelled_from target below (line.Jmp l ∷ ls) at all lt = (near (target l) (at + 5) (below l) (omega (arith, lt)), spelled_from target below ls _ all (omega (arith, lt)))
spelled_from target below (line.Call l ∷ ls) at all lt = (near (target l) (at + 5) (below l) (omega (arith, lt)), spelled_from target below ls _ all (omega (arith, lt)))

no_labels_left : (ls : List Line) → AllSpelled ls → AllSpelled (instructions_in ls)
no_labels_left [] h = tt
no_labels_left (line.Label l ∷ ls) h = no_labels_left ls h
no_labels_left (line.Insn i ∷ ls) h = (h.0, no_labels_left ls h.1)
no_labels_left (line.Jcc c l ∷ ls) h = no_labels_left ls h
no_labels_left (line.Jmp l ∷ ls) h = no_labels_left ls h
no_labels_left (line.Call l ∷ ls) h = no_labels_left ls h

pub lines_spellable : (ls : List Line) → AllSpelled ls → offset_of (all_wide ls) (length (all_wide ls)) < 2 ^ 31 → AreSpellable (insns_of_lines ls)
lines_spellable ls all lt =
    spelled_from (λ l. offset_of (all_wide ls) (place_of ls l)) (λ l. let h = offset_below (all_wide ls) (place_of ls l) in omega (arith, h, lt)) (instructions_in ls) 0 (no_labels_left ls all) (omega (arith, lt))

-- ---- the lines of a tree
spelled_both : (a b : List Line) → AllSpelled a → AllSpelled b → AllSpelled (a ++ b)
spelled_both [] b h g = g
spelled_both (line.Label l ∷ a) b h g = spelled_both a b h g
spelled_both (line.Insn i ∷ a) b h g = (h.0, spelled_both a b h.1 g)
spelled_both (line.Jcc c l ∷ a) b h g = spelled_both a b h g
spelled_both (line.Jmp l ∷ a) b h g = spelled_both a b h g
spelled_both (line.Call l ∷ a) b h g = spelled_both a b h g

test_spelled : (i : Option Insn) (c : _) (b : List Line) → IsPlainTest (if_holds i c) → AllSpelled b → AllSpelled (test_lines i ++ b)
test_spelled None c b is h = h
test_spelled (Some i) c b is h = (is.1, h)

else_spelled : (n : ℕ) (e : Bool) (b : List Line) → AllSpelled b → AllSpelled (else_lines n e b)
else_spelled n true b h = h
else_spelled n false b h = spelled_both b (line.Label (n + 1) ∷ []) h tt

choice_spelled : (t : Test) (n : ℕ) (e : Bool) (a b : List Line) → IsPlainTest t → AllSpelled a → AllSpelled b → AllSpelled (choice_lines t n e a b)
choice_spelled always n e a b is h g = spelled_both a (else_lines n e b) h (else_spelled n e b g)
choice_spelled (if_holds i c) n e a b is h g = test_spelled i c (line.Jcc (negated c) n ∷ (a ++ else_lines n e b)) is (spelled_both a (else_lines n e b) h (else_spelled n e b g))

turn_spelled : (q : Bool) (t : Test) (n : ℕ) (b : List Line) → IsPlainTest t → AllSpelled b → AllSpelled (turn_lines q t n b)
turn_spelled q always n b is h = spelled_both b (line.Jmp n ∷ []) h tt
turn_spelled false (if_holds i c) n b is h = test_spelled i c _ is (spelled_both b (line.Jmp n ∷ line.Label (n + 1) ∷ []) h tt)
turn_spelled true (if_holds i c) n b is h = test_spelled i c (line.Jcc c n ∷ b) is h

tree_spelled : (t : Code) (n : ℕ) → IsPlainCode t → AllSpelled (lines_of t n)
tree_spelled done n is = tt
tree_spelled (op i r) n is = (is.0.1, tree_spelled r n is.1)
tree_spelled (quiet i r) n is = tree_spelled r n is
tree_spelled (choose c a b r) n is =
    spelled_both (choice_lines c n (is_empty b) (lines_of a (n + 2)) (lines_of b (n + 2 + labels_in a))) (lines_of r (n + 2 + labels_in a + labels_in b))
    (choice_spelled c n (is_empty b) _ _ is.0 (tree_spelled a (n + 2) is.2) (tree_spelled b (n + 2 + labels_in a) is.3)) (tree_spelled r (n + 2 + labels_in a + labels_in b) is.4)
tree_spelled (loop q p c b r) n is =
    spelled_both (loop_lines q c n (lines_of p (n + 2)) (lines_of b (n + 2 + labels_in p))) (lines_of r (n + 2 + labels_in p + labels_in b))
    (spelled_both (lines_of p (n + 2)) (turn_lines q c n (lines_of b (n + 2 + labels_in p))) (tree_spelled p (n + 2) is.2) (turn_spelled q c n _ is.0 (tree_spelled b (n + 2 + labels_in p) is.3)))
    (tree_spelled r (n + 2 + labels_in p + labels_in b) is.4)
tree_spelled (each f b r) n is = absurd f
tree_spelled (call c b r) n is = absurd c

pub ret_spelled : is_spelled insn.Ret ≡ true
unfolding is_spelled
ret_spelled = refl

pub linear_spelled : (t : Code) → IsPlainCode t → AllSpelled (linear_of t)
linear_spelled t is = spelled_both (lines_of t 0) (line.Insn insn.Ret ∷ []) (tree_spelled t 0 is) (ret_spelled, tt)

pub linear_spellable : (t : Code) → IsPlainCode t → offset_of (all_wide (linear_of t)) (length (all_wide (linear_of t))) < 2 ^ 31 → AreSpellable (insns_of_lines (linear_of t))
linear_spellable t is lt = lines_spellable (linear_of t) (linear_spelled t is) lt

-- the lines with wide jumps are the lines
wide_lines : (ls : List Line) → map (λ (w : Wide). w.line) (map wide_line ls) ≡ ls
wide_lines [] = refl
wide_lines (l ∷ ls) = ap (λ x. l ∷ x) (wide_lines ls)

pub widths_of_lines : (ls : List Line) → map (λ (w : Wide). w.line) (all_wide ls) ≡ instructions_in ls
widths_of_lines ls = wide_lines (instructions_in ls)

-- ---- the code as spellings
pub code_spelled : (is : List Insn) → AreSpellable is → AreSpelled is (assembled is)
code_spelled [] h = refl
code_spelled (i ∷ is) h = (chosen_bytes i, assembled is, refl, chosen_spells i h.0, code_spelled is h.1)

-- one instruction for each line that is no label
pub insns_counted : (target : ℕ → ℕ) (at : ℕ) (ws : List Wide) → length (insns_from target at ws) ≡ length ws
insns_counted target at [] = refl
insns_counted target at (w ∷ ws) = ap suc (insns_counted target (at + size_of w) ws)
