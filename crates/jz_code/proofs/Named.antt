-- The lines of a tree name the registers that its instructions name.
use Rattle.std.proofs.Common.{◌≡◌, ℕ, ◌+◌, Bool, true, false, ◌||◌, List, [], ◌∷◌, ◌++◌, refl, sym, ap, ◌∙◌, cond}
use Rattle.std.specs.Prelude.{Option, Some, None}
use Rattle.std.specs.List.{list_any, filter}
use Rattle.std.proofs.lemmas.List.Folds.{list_any-append}
use Rattle.x64_insn.specs.declared.types.Reg.{Reg}
use Rattle.x64_insn.specs.declared.types.Insn.{Insn}
use Rattle.x64_insn.specs.declared.types.Insn.TheVariants as insn
use Rattle.x64_insn.specs.declared.types.Cond.{Cond}
use Rattle.jz_runs.specs.Trees.{done, op, quiet, choose, loop, each, call}
use Rattle.jz_placing.specs.Instructions.{Test, always, if_holds, Code}
use Rattle.jz_linear.specs.declared.line.Line.{Line}
use Rattle.jz_linear.specs.declared.line.Line.TheVariants as line
use Rattle.jz_linear.specs.Lines.{negated, labels_in, is_empty, test_lines, else_lines, choice_lines, jump_lines, turn_lines, loop_lines, lines_of, linear_of}
use Rattle.jz_linear.specs.LineRuns.{place_of}
use Rattle.jz_correct.specs.Frames.{preserved_registers, names, saved_of}
use Rattle.x64_assemble.specs.Assembling.{insns_from, all_wide, target_in, insns_of_lines}
use Rattle.jz_stack.specs.Framed.{test_insns, insns_in}

filter_same : (p q : Reg → Bool) → ((r : Reg) → p r ≡ q r) → (rs : List Reg) → filter p rs ≡ filter q rs
filter_same p q h [] = refl
filter_same p q h (r ∷ rs) = ap (λ b. cond b (r ∷ filter p rs) (filter p rs)) (h r) ∙ ap (λ l. cond (q r) (r ∷ l) l) (filter_same p q h rs)

or_none : (b : Bool) → (b || false) ≡ b
or_none true = refl
or_none false = refl

or_assoc : (a b c : Bool) → ((a || b) || c) ≡ (a || (b || c))
or_assoc true b c = refl
or_assoc false b c = refl

module _ (r : Reg) where
  abbrev line_names : Line → Bool
  line_names (line.Insn i) = names i r
  line_names (line.Label l) = false
  line_names (line.Jcc c l) = false
  line_names (line.Jmp l) = false
  line_names (line.Call l) = false

  abbrev in_lines : List Line → Bool
  in_lines ls = list_any line_names ls

  abbrev in_insns : List Insn → Bool
  in_insns is = list_any (λ i. names i r) is

  both : (xs ys : List Line) → in_lines (xs ++ ys) ≡ (in_lines xs || in_lines ys)
  both xs ys = list_any-append line_names xs ys

  both_insns : (xs ys : List Insn) → in_insns (xs ++ ys) ≡ (in_insns xs || in_insns ys)
  both_insns xs ys = list_any-append (λ i. names i r) xs ys

  -- ---- lines as instructions
  as_insns : (target : ℕ → ℕ) (ls : List Line) (at : ℕ) → in_insns (insns_from target at (all_wide ls)) ≡ in_lines ls
  as_insns target [] at = refl
  as_insns target (line.Label l ∷ ls) at = as_insns target ls at
  as_insns target (line.Insn i ∷ ls) at = ap (λ b. names i r || b) (as_insns target ls _)
  as_insns target (line.Jcc c l ∷ ls) at = as_insns target ls _
  as_insns target (line.Jmp l ∷ ls) at = as_insns target ls _
  as_insns target (line.Call l ∷ ls) at = as_insns target ls _

  -- ---- the lines of a tree
  compare_is : (i : Option Insn) (c : Cond) → in_lines (test_lines i) ≡ in_insns (test_insns (if_holds i c))
  compare_is None c = refl
  compare_is (Some i) c = refl

  else_is : (n : ℕ) (e : Bool) (b : List Line) → in_lines (else_lines n e b) ≡ in_lines b
  else_is n true b = refl
  else_is n false b = both b (line.Label (n + 1) ∷ []) ∙ or_none (in_lines b)

  choice_is : (c : Test) (n : ℕ) (e : Bool) (a b : List Line) → in_lines (choice_lines c n e a b) ≡ (in_insns (test_insns c) || (in_lines a || in_lines b))
  choice_is always n e a b = both a (else_lines n e b) ∙ ap (λ x. in_lines a || x) (else_is n e b)
  choice_is (if_holds i c) n e a b =
      both (test_lines i) (line.Jcc (negated c) n ∷ (a ++ else_lines n e b))
      ∙ ap (λ x. x || in_lines (a ++ else_lines n e b)) (compare_is i c)
      ∙ ap (λ x. in_insns (test_insns (if_holds i c)) || x) (both a (else_lines n e b) ∙ ap (λ x. in_lines a || x) (else_is n e b))

  jump_is : (q : Bool) (c : Cond) (n : ℕ) (b : List Line) → in_lines (jump_lines q c n b) ≡ in_lines b
  jump_is false c n b = both b (line.Jmp n ∷ line.Label (n + 1) ∷ []) ∙ or_none (in_lines b)
  jump_is true c n b = refl

  turn_is : (q : Bool) (c : Test) (n : ℕ) (b : List Line) → in_lines (turn_lines q c n b) ≡ (in_insns (test_insns c) || in_lines b)
  turn_is q always n b = both b (line.Jmp n ∷ []) ∙ or_none (in_lines b)
  turn_is q (if_holds i c) n b =
      both (test_lines i) (jump_lines q c n b) ∙ ap (λ x. x || in_lines (jump_lines q c n b)) (compare_is i c)
      ∙ ap (λ x. in_insns (test_insns (if_holds i c)) || x) (jump_is q c n b)

  tree_is : (t : Code) (n : ℕ) → in_lines (lines_of t n) ≡ in_insns (insns_in t)
  tree_is done n = refl
  tree_is (op i t) n = ap (λ b. names i r || b) (tree_is t n)
  tree_is (quiet i t) n = tree_is t n
  tree_is (choose c a b t) n =
      let la = lines_of a (n + 2) in
      let lb = lines_of b (n + 2 + labels_in a) in
      let lt = lines_of t (n + 2 + labels_in a + labels_in b) in
      let x = in_insns (test_insns c) in
      both (choice_lines c n (is_empty b) la lb) lt
      ∙ ap (λ y. y || in_lines lt) (choice_is c n (is_empty b) la lb)
      ∙ ap (λ y. (x || (y || in_lines lb)) || in_lines lt) (tree_is a (n + 2))
      ∙ ap (λ y. (x || (in_insns (insns_in a) || y)) || in_lines lt) (tree_is b (n + 2 + labels_in a))
      ∙ ap (λ y. (x || (in_insns (insns_in a) || in_insns (insns_in b))) || y) (tree_is t (n + 2 + labels_in a + labels_in b))
      ∙ or_assoc x (in_insns (insns_in a) || in_insns (insns_in b)) (in_insns (insns_in t))
      ∙ ap (λ y. x || y) (or_assoc (in_insns (insns_in a)) (in_insns (insns_in b)) (in_insns (insns_in t)))
      ∙ ap (λ y. x || (in_insns (insns_in a) || y)) (sym (both_insns (insns_in b) (insns_in t)))
      ∙ ap (λ y. x || y) (sym (both_insns (insns_in a) (insns_in b ++ insns_in t)))
      ∙ sym (both_insns (test_insns c) (insns_in a ++ (insns_in b ++ insns_in t)))
  tree_is (loop q p c b t) n =
      let lp = lines_of p (n + 2) in
      let lb = lines_of b (n + 2 + labels_in p) in
      let lt = lines_of t (n + 2 + labels_in p + labels_in b) in
      let x = in_insns (test_insns c) in
      let ip = in_insns (insns_in p) in
      both (loop_lines q c n lp lb) lt
      ∙ ap (λ y. y || in_lines lt) (both lp (turn_lines q c n lb))
      ∙ ap (λ y. (in_lines lp || y) || in_lines lt) (turn_is q c n lb)
      ∙ ap (λ y. (y || (x || in_lines lb)) || in_lines lt) (tree_is p (n + 2))
      ∙ ap (λ y. (ip || (x || y)) || in_lines lt) (tree_is b (n + 2 + labels_in p))
      ∙ ap (λ y. (ip || (x || in_insns (insns_in b))) || y) (tree_is t (n + 2 + labels_in p + labels_in b))
      ∙ or_assoc ip (x || in_insns (insns_in b)) (in_insns (insns_in t))
      ∙ ap (λ y. ip || y) (or_assoc x (in_insns (insns_in b)) (in_insns (insns_in t)))
      ∙ ap (λ y. ip || (x || y)) (sym (both_insns (insns_in b) (insns_in t)))
      ∙ ap (λ y. ip || y) (sym (both_insns (test_insns c) (insns_in b ++ insns_in t)))
      ∙ sym (both_insns (insns_in p) (test_insns c ++ (insns_in b ++ insns_in t)))
  tree_is (each f b t) n = absurd f
  tree_is (call c b t) n = absurd c

  linear_is : (t : Code) → in_insns (insns_of_lines (linear_of t)) ≡ in_insns (insns_in t)
  linear_is t =
      as_insns (target_in (all_wide (linear_of t)) (place_of (linear_of t))) (linear_of t) 0
      ∙ both (lines_of t 0) (line.Insn insn.Ret ∷ []) ∙ or_none (in_lines (lines_of t 0)) ∙ tree_is t 0

pub saved_of_lines : (t : Code) → saved_of (insns_of_lines (linear_of t)) ≡ saved_of (insns_in t)
saved_of_lines t = filter_same (λ r. list_any (λ i. names i r) (insns_of_lines (linear_of t))) (λ r. list_any (λ i. names i r) (insns_in t)) (λ r. linear_is r t) preserved_registers
