-- The lines of a tree: each jump names a label that stands in them.
use Rattle.std.proofs.Common.{ℕ, ◌+◌, inl, inr, ⊎_elim, Bool, true, false, List, [], ◌∷◌, ◌++◌, refl}
use Rattle.std.specs.Prelude.{Option, Some, None}
use Rattle.x64_insn.specs.declared.types.Insn.{Insn}
use Rattle.x64_insn.specs.declared.types.Insn.TheVariants as insn
use Rattle.jz_runs.specs.Trees.{done, op, quiet, choose, loop, each, call}
use Rattle.jz_linear.specs.declared.line.Line.{Line}
use Rattle.jz_linear.specs.declared.line.Line.TheVariants as line
use Rattle.jz_placing.specs.Instructions.{Test, always, if_holds, Code}
use Rattle.jz_linear.specs.Lines.{negated, labels_in, is_empty, test_lines, else_lines, choice_lines, turn_lines, loop_lines, lines_of, linear_of}
use Rattle.x64_assemble.specs.Assembling.{Stands, Named}

stands_front : (a b : List Line) (l : ℕ) → Stands a l → Stands (a ++ b) l
stands_front [] b l h = absurd h
stands_front (line.Label k ∷ a) b l h = ⊎_elim (λ e. inl e) (λ r. inr (stands_front a b l r)) h
stands_front (line.Insn i ∷ a) b l h = stands_front a b l h
stands_front (line.Jcc c k ∷ a) b l h = stands_front a b l h
stands_front (line.Jmp k ∷ a) b l h = stands_front a b l h
stands_front (line.Call k ∷ a) b l h = stands_front a b l h

stands_back : (a b : List Line) (l : ℕ) → Stands b l → Stands (a ++ b) l
stands_back [] b l h = h
stands_back (line.Label k ∷ a) b l h = inr (stands_back a b l h)
stands_back (line.Insn i ∷ a) b l h = stands_back a b l h
stands_back (line.Jcc c k ∷ a) b l h = stands_back a b l h
stands_back (line.Jmp k ∷ a) b l h = stands_back a b l h
stands_back (line.Call k ∷ a) b l h = stands_back a b l h

-- labels that stand in more
named_in : (xs ys ls : List Line) → ((l : ℕ) → Stands xs l → Stands ys l) → Named xs ls → Named ys ls
named_in xs ys [] f h = tt
named_in xs ys (line.Label k ∷ ls) f h = named_in xs ys ls f h
named_in xs ys (line.Insn i ∷ ls) f h = named_in xs ys ls f h
named_in xs ys (line.Jcc c k ∷ ls) f h = (f k h.0, named_in xs ys ls f h.1)
named_in xs ys (line.Jmp k ∷ ls) f h = (f k h.0, named_in xs ys ls f h.1)
named_in xs ys (line.Call k ∷ ls) f h = (f k h.0, named_in xs ys ls f h.1)

named_both : (xs a b : List Line) → Named xs a → Named xs b → Named xs (a ++ b)
named_both xs [] b h g = g
named_both xs (line.Label k ∷ a) b h g = named_both xs a b h g
named_both xs (line.Insn i ∷ a) b h g = named_both xs a b h g
named_both xs (line.Jcc c k ∷ a) b h g = (h.0, named_both xs a b h.1 g)
named_both xs (line.Jmp k ∷ a) b h g = (h.0, named_both xs a b h.1 g)
named_both xs (line.Call k ∷ a) b h g = (h.0, named_both xs a b h.1 g)

one_behind_other : (a b : List Line) → Named a a → Named b b → Named (a ++ b) (a ++ b)
one_behind_other a b h g = named_both (a ++ b) a b (named_in a (a ++ b) a (stands_front a b) h) (named_in b (a ++ b) b (stands_back a b) g)

behind_test : (i : Option Insn) (xs ls : List Line) → Named xs ls → Named xs (test_lines i ++ ls)
behind_test None xs ls h = h
behind_test (Some i) xs ls h = h

test_stands : (i : Option Insn) (ls : List Line) (l : ℕ) → Stands ls l → Stands (test_lines i ++ ls) l
test_stands None ls l h = h
test_stands (Some i) ls l h = h

else_stands : (n : ℕ) (e : Bool) (b : List Line) → Stands (else_lines n e b) n
else_stands n true b = inl refl
else_stands n false b = inl refl

else_keeps : (n : ℕ) (e : Bool) (b : List Line) (l : ℕ) → Stands b l → Stands (else_lines n e b) l
else_keeps n true b l h = inr h
else_keeps n false b l h = inr (stands_front b (line.Label (n + 1) ∷ []) l h)

else_named : (n : ℕ) (e : Bool) (xs b : List Line) → ((l : ℕ) → Stands (else_lines n e b) l → Stands xs l) → Named xs b → Named xs (else_lines n e b)
else_named n true xs b f h = h
else_named n false xs b f h = (f (n + 1) (inr (stands_back b (line.Label (n + 1) ∷ []) (n + 1) (inl refl))), named_both xs b (line.Label (n + 1) ∷ []) h tt)

choice_named : (t : Test) (n : ℕ) (e : Bool) (a b : List Line) → Named a a → Named b b → Named (choice_lines t n e a b) (choice_lines t n e a b)
choice_named always n e a b h g =
    let rest = a ++ else_lines n e b in
    named_both rest a (else_lines n e b) (named_in a rest a (stands_front a (else_lines n e b)) h)
    (else_named n e rest b (stands_back a (else_lines n e b)) (named_in b rest b (λ l s. stands_back a (else_lines n e b) l (else_keeps n e b l s)) g))
choice_named (if_holds i c) n e a b h g =
    let rest = a ++ else_lines n e b in
    let tail = line.Jcc (negated c) n ∷ rest in
    let all = test_lines i ++ tail in
    let lift : (l : ℕ) → Stands rest l → Stands all l = λ l s. test_stands i tail l s in
    behind_test i all tail (
      lift n (stands_back a (else_lines n e b) n (else_stands n e b)),
      named_both all a (else_lines n e b) (named_in a all a (λ l s. lift l (stands_front a (else_lines n e b) l s)) h)
          (else_named n e all b (λ l s. lift l (stands_back a (else_lines n e b) l s)) (named_in b all b (λ l s. lift l (stands_back a (else_lines n e b) l (else_keeps n e b l s))) g)),
    )

-- the head of a loop stands before its turns
turn_named : (q : Bool) (t : Test) (n : ℕ) (xs b : List Line) → Stands xs n → ((l : ℕ) → Stands (turn_lines q t n b) l → Stands xs l) → Named xs b → Named xs (turn_lines q t n b)
turn_named q always n xs b s f h = named_both xs b (line.Jmp n ∷ []) h (s, tt)
turn_named false (if_holds i c) n xs b s f h =
    let back = line.Jmp n ∷ line.Label (n + 1) ∷ [] in
    behind_test i xs _ (f (n + 1) (test_stands i (line.Jcc (negated c) (n + 1) ∷ (b ++ back)) (n + 1) (stands_back b back (n + 1) (inl refl))), named_both xs b back h (s, tt))
turn_named true (if_holds i c) n xs b s f h = behind_test i xs (line.Jcc c n ∷ b) (s, h)

turn_keeps : (q : Bool) (t : Test) (n : ℕ) (b : List Line) (l : ℕ) → Stands b l → Stands (turn_lines q t n b) l
turn_keeps q always n b l h = stands_front b (line.Jmp n ∷ []) l h
turn_keeps false (if_holds i c) n b l h = test_stands i (line.Jcc (negated c) (n + 1) ∷ (b ++ line.Jmp n ∷ line.Label (n + 1) ∷ [])) l (stands_front b (line.Jmp n ∷ line.Label (n + 1) ∷ []) l h)
turn_keeps true (if_holds i c) n b l h = test_stands i (line.Jcc c n ∷ b) l h

loop_named : (q : Bool) (t : Test) (n : ℕ) (p b : List Line) → Named p p → Named b b → Named (loop_lines q t n p b) (loop_lines q t n p b)
loop_named q t n p b h g =
    let turn = turn_lines q t n b in
    let all = loop_lines q t n p b in
    named_both all p turn (named_in p all p (λ l s. inr (stands_front p turn l s)) h)
    (turn_named q t n all b (inl refl) (λ l s. inr (stands_back p turn l s)) (named_in b all b (λ l s. inr (stands_back p turn l (turn_keeps q t n b l s))) g))

tree_named : (t : Code) (n : ℕ) → Named (lines_of t n) (lines_of t n)
tree_named done n = tt
tree_named (op i r) n = named_in (lines_of r n) (line.Insn i ∷ lines_of r n) (lines_of r n) (λ l s. s) (tree_named r n)
tree_named (quiet i r) n = tree_named r n
tree_named (choose c a b r) n =
    one_behind_other (choice_lines c n (is_empty b) (lines_of a (n + 2)) (lines_of b (n + 2 + labels_in a))) (lines_of r (n + 2 + labels_in a + labels_in b))
    (choice_named c n (is_empty b) (lines_of a (n + 2)) (lines_of b (n + 2 + labels_in a)) (tree_named a (n + 2)) (tree_named b (n + 2 + labels_in a))) (tree_named r (n + 2 + labels_in a + labels_in b))
tree_named (loop q p c b r) n =
    one_behind_other (loop_lines q c n (lines_of p (n + 2)) (lines_of b (n + 2 + labels_in p))) (lines_of r (n + 2 + labels_in p + labels_in b))
    (loop_named q c n (lines_of p (n + 2)) (lines_of b (n + 2 + labels_in p)) (tree_named p (n + 2)) (tree_named b (n + 2 + labels_in p))) (tree_named r (n + 2 + labels_in p + labels_in b))
tree_named (each f b r) n = absurd f
tree_named (call c b r) n = absurd c

-- what `assemble` asks of the lines of a tree
pub linear_named : (t : Code) → Named (linear_of t) (linear_of t)
linear_named t = one_behind_other (lines_of t 0) (line.Insn insn.Ret ∷ []) (tree_named t 0) tt
