-- Where lines stand: the place of each, and of each label.
use Rattle.std.proofs.Common.{◌≡◌, ◌≢◌, ℕ, suc, ◌+◌, ◌<◌, ◌≤◌, Bool, true, false, List, [], ◌∷◌, ◌++◌, length, refl, sym, ap, ◌∙◌, subst, arith, append_assoc, length-append, ◌⊎◌, inl, inr, ⊎_elim, if◌then◌else◌, ◌==◌}
use Rattle.std.specs.Prelude.{Option, Some, None}
use Rattle.std.proofs.lemmas.Bool.Decides.{nat_tests}
use Rattle.x64_insn.specs.declared.types.Insn.{Insn}
use Rattle.x64_insn.specs.declared.types.Cond.{Cond}
use Rattle.x64_insn.specs.declared.types.Insn.TheVariants as insn
use Rattle.jz_runs.specs.Trees.{done, op, quiet, choose, loop, each, call}
use Rattle.jz_linear.specs.declared.line.Line.{Line}
use Rattle.jz_linear.specs.declared.line.Line.TheVariants as line
use Rattle.jz_placing.specs.Instructions.{Test, always, if_holds, Code}
use Rattle.jz_linear.specs.Lines.{negated, labels_in, is_empty, test_lines, else_lines, choice_lines, turn_lines, loop_lines, lines_of, linear_of}
use Rattle.jz_linear.specs.LineRuns.{Lacks, Once, instructions_in, place_of, at_place, Resolved, resolved}

-- how many instructions they are
abbrev pub count : List Line → ℕ
count ls = length (instructions_in ls)

pub in_both : (a b : List Line) → instructions_in (a ++ b) ≡ instructions_in a ++ instructions_in b
in_both [] b = refl
in_both (line.Label l ∷ a) b = in_both a b
in_both (line.Insn i ∷ a) b = ap (λ x. line.Insn i ∷ x) (in_both a b)
in_both (line.Jcc c l ∷ a) b = ap (λ x. line.Jcc c l ∷ x) (in_both a b)
in_both (line.Jmp l ∷ a) b = ap (λ x. line.Jmp l ∷ x) (in_both a b)
in_both (line.Call l ∷ a) b = ap (λ x. line.Call l ∷ x) (in_both a b)

pub count_both : (a b : List Line) → count (a ++ b) ≡ count a + count b
count_both a b = ap length (in_both a b) ∙ length-append (instructions_in a) (instructions_in b)

-- ---- lines at a place
abbrev pub HasAt : Resolved → ℕ → List Line → Type 0
HasAt c pc [] = Unit {0}
HasAt c pc (line.Label l ∷ ls) = (c.place l ≡ pc) × HasAt c pc ls
HasAt c pc (line.Insn i ∷ ls) = (at_place c.code pc ≡ Some (line.Insn i)) × HasAt c (pc + 1) ls
HasAt c pc (line.Jcc k l ∷ ls) = (at_place c.code pc ≡ Some (line.Jcc k l)) × HasAt c (pc + 1) ls
HasAt c pc (line.Jmp l ∷ ls) = (at_place c.code pc ≡ Some (line.Jmp l)) × HasAt c (pc + 1) ls
HasAt c pc (line.Call l ∷ ls) = (at_place c.code pc ≡ Some (line.Call l)) × HasAt c (pc + 1) ls

pub has_front : (c : Resolved) (pc : ℕ) (a b : List Line) → HasAt c pc (a ++ b) → HasAt c pc a
has_front c pc [] b h = tt
has_front c pc (line.Label l ∷ a) b h = (h.0, has_front c pc a b h.1)
has_front c pc (line.Insn i ∷ a) b h = (h.0, has_front c (pc + 1) a b h.1)
has_front c pc (line.Jcc k l ∷ a) b h = (h.0, has_front c (pc + 1) a b h.1)
has_front c pc (line.Jmp l ∷ a) b h = (h.0, has_front c (pc + 1) a b h.1)
has_front c pc (line.Call l ∷ a) b h = (h.0, has_front c (pc + 1) a b h.1)

behind_one : (c : Resolved) (pc : ℕ) (a b : List Line) → HasAt c (pc + 1 + count a) b → HasAt c (pc + suc (count a)) b
behind_one c pc a b h = let e : pc + 1 + count a ≡ pc + suc (count a) = omega arith in subst (λ n. HasAt c n b) e h

pub has_back : (c : Resolved) (pc : ℕ) (a b : List Line) → HasAt c pc (a ++ b) → HasAt c (pc + count a) b
has_back c pc [] b h = let e : pc ≡ pc + 0 = omega arith in subst (λ n. HasAt c n b) e h
has_back c pc (line.Label l ∷ a) b h = has_back c pc a b h.1
has_back c pc (line.Insn i ∷ a) b h = behind_one c pc a b (has_back c (pc + 1) a b h.1)
has_back c pc (line.Jcc k l ∷ a) b h = behind_one c pc a b (has_back c (pc + 1) a b h.1)
has_back c pc (line.Jmp l ∷ a) b h = behind_one c pc a b (has_back c (pc + 1) a b h.1)
has_back c pc (line.Call l ∷ a) b h = behind_one c pc a b (has_back c (pc + 1) a b h.1)

-- ---- labels
lacks_both : (a b : List Line) (k : ℕ) → Lacks a k → Lacks b k → Lacks (a ++ b) k
lacks_both [] b k h g = g
lacks_both (line.Label l ∷ a) b k h g = (h.0, lacks_both a b k h.1 g)
lacks_both (line.Insn i ∷ a) b k h g = lacks_both a b k h g
lacks_both (line.Jcc c l ∷ a) b k h g = lacks_both a b k h g
lacks_both (line.Jmp l ∷ a) b k h g = lacks_both a b k h g
lacks_both (line.Call l ∷ a) b k h g = lacks_both a b k h g

lacks_front : (a : List Line) (l : ℕ) (b : List Line) (k : ℕ) → Lacks (a ++ line.Label l ∷ b) k → l ≢ k
lacks_front [] l b k h = h.0
lacks_front (line.Label m ∷ a) l b k h = lacks_front a l b k h.1
lacks_front (line.Insn i ∷ a) l b k h = lacks_front a l b k h
lacks_front (line.Jcc c m ∷ a) l b k h = lacks_front a l b k h
lacks_front (line.Jmp m ∷ a) l b k h = lacks_front a l b k h
lacks_front (line.Call m ∷ a) l b k h = lacks_front a l b k h

-- a label that stands once does not stand before its place
lacks_before : (a : List Line) (l : ℕ) (b : List Line) → Once (a ++ line.Label l ∷ b) → Lacks a l
lacks_before [] l b h = tt
lacks_before (line.Label m ∷ a) l b h = ((λ e. lacks_front a l b m h.0 (sym e)), lacks_before a l b h.1)
lacks_before (line.Insn i ∷ a) l b h = lacks_before a l b h
lacks_before (line.Jcc c m ∷ a) l b h = lacks_before a l b h
lacks_before (line.Jmp m ∷ a) l b h = lacks_before a l b h
lacks_before (line.Call m ∷ a) l b h = lacks_before a l b h

same_label : (l : ℕ) → (l == l) ≡ true
same_label l = grind (arith, nat_tests)

other_label : (l k : ℕ) → l ≢ k → (l == k) ≡ false
other_label l k h = grind (arith, nat_tests, h)

place_behind : (a : List Line) (l : ℕ) (b : List Line) → Lacks a l → place_of (a ++ line.Label l ∷ b) l ≡ count a
place_behind [] l b h = ap (λ z. if z then 0 else place_of b l) (same_label l)
place_behind (line.Label m ∷ a) l b h = ap (λ z. if z then 0 else place_of (a ++ line.Label l ∷ b) l) (other_label m l h.0) ∙ place_behind a l b h.1
place_behind (line.Insn i ∷ a) l b h = let e = place_behind a l b h in omega (arith, e)
place_behind (line.Jcc c m ∷ a) l b h = let e = place_behind a l b h in omega (arith, e)
place_behind (line.Jmp m ∷ a) l b h = let e = place_behind a l b h in omega (arith, e)
place_behind (line.Call m ∷ a) l b h = let e = place_behind a l b h in omega (arith, e)

seam : {A : Type 0} (xs ys : List A) (x : A) → at_place (xs ++ x ∷ ys) (length xs) ≡ Some x
seam [] ys x = refl
seam (z ∷ xs) ys x = seam xs ys x

-- each line stands where it stands
module _ (all : List Line) (once : Once all) where
  shifted : (a b : List Line) (x : Line) → all ≡ a ++ x ∷ b → all ≡ (a ++ x ∷ []) ++ b
  shifted a b x e = e ∙ sym (append_assoc a (x ∷ []) b)

  found : (a b : List Line) (x : Line) → all ≡ a ++ x ∷ b → instructions_in (x ∷ b) ≡ x ∷ instructions_in b → at_place (instructions_in all) (count a) ≡ Some x
  found a b x e s = ap (λ ls. at_place (instructions_in ls) (count a)) e ∙ ap (λ xs. at_place xs (count a)) (in_both a (x ∷ b) ∙ ap (λ xs. instructions_in a ++ xs) s) ∙ seam (instructions_in a) (instructions_in b) x

  one_on : (a b : List Line) (x : Line) → count (x ∷ []) ≡ 1 → HasAt (resolved all) (count (a ++ x ∷ [])) b → HasAt (resolved all) (count a + 1) b
  one_on a b x e h = let n : count (a ++ x ∷ []) ≡ count a + 1 = omega (arith, count_both a (x ∷ []), e) in subst (λ m. HasAt (resolved all) m b) n h

  has_from : (a b : List Line) → all ≡ a ++ b → HasAt (resolved all) (count a) b
  has_from a [] e = tt
  has_from a (line.Label l ∷ b) e =
      let here : place_of all l ≡ count a = ap (λ ls. place_of ls l) e ∙ place_behind a l b (lacks_before a l b (subst Once e once)) in
      let n : count (a ++ line.Label l ∷ []) ≡ count a = omega (arith, count_both a (line.Label l ∷ [])) in
      (here, subst (λ m. HasAt (resolved all) m b) n (has_from (a ++ line.Label l ∷ []) b (shifted a b (line.Label l) e)))
  has_from a (line.Insn i ∷ b) e = (found a b (line.Insn i) e refl, one_on a b (line.Insn i) refl (has_from (a ++ line.Insn i ∷ []) b (shifted a b (line.Insn i) e)))
  has_from a (line.Jcc c l ∷ b) e = (found a b (line.Jcc c l) e refl, one_on a b (line.Jcc c l) refl (has_from (a ++ line.Jcc c l ∷ []) b (shifted a b (line.Jcc c l) e)))
  has_from a (line.Jmp l ∷ b) e = (found a b (line.Jmp l) e refl, one_on a b (line.Jmp l) refl (has_from (a ++ line.Jmp l ∷ []) b (shifted a b (line.Jmp l) e)))
  has_from a (line.Call l ∷ b) e = (found a b (line.Call l) e refl, one_on a b (line.Call l) refl (has_from (a ++ line.Call l ∷ []) b (shifted a b (line.Call l) e)))

  pub has_all : HasAt (resolved all) 0 all
  has_all = has_from [] all refl

-- ---- the labels of a tree
-- their labels are some of lo .. hi - 1, each once
record Owns (ls : List Line) (lo hi : ℕ) : Type 0 where
  once : Once ls
  below : (k : ℕ) → k < lo → Lacks ls k
  above : (k : ℕ) → hi ≤ k → Lacks ls k

once_both : (a b : List Line) → Once a → Once b → ((k : ℕ) → Lacks a k ⊎ Lacks b k) → Once (a ++ b)
once_both [] b h g d = g
once_both (line.Label l ∷ a) b h g d =
    (lacks_both a b l h.0 (⊎_elim (λ x. absurd (x.0 refl)) (λ y. y) (d l)), once_both a b h.1 g (λ k. ⊎_elim (λ x. inl x.1) (λ y. inr y) (d k)))
once_both (line.Insn i ∷ a) b h g d = once_both a b h g d
once_both (line.Jcc c l ∷ a) b h g d = once_both a b h g d
once_both (line.Jmp l ∷ a) b h g d = once_both a b h g d
once_both (line.Call l ∷ a) b h g d = once_both a b h g d

split_at : (k m : ℕ) → (k < m) ⊎ (m ≤ k)
split_at k m = grind arith

owns_none : (n : ℕ) → Owns [] n n
owns_none n = record { once = tt; below = λ k lt. tt; above = λ k le. tt }

owns_label : (n : ℕ) → Owns (line.Label n ∷ []) n (n + 1)
owns_label n = record { once = (tt, tt); below = λ k lt. ((λ e. absurd (omega (arith, e, lt))), tt); above = λ k le. ((λ e. absurd (omega (arith, e, le))), tt) }

owns_wide : {ls : List Line} {lo hi : ℕ} (lo' hi' : ℕ) → Owns ls lo hi → lo' ≤ lo → hi ≤ hi' → Owns ls lo' hi'
owns_wide lo' hi' o l h = record { once = o.once; below = λ k lt. o.below k (omega (arith, lt, l)); above = λ k le. o.above k (omega (arith, le, h)) }

-- lower ones before higher ones, and the other way round
owns_up : (a b : List Line) (lo mid hi : ℕ) → lo ≤ mid → mid ≤ hi → Owns a lo mid → Owns b mid hi → Owns (a ++ b) lo hi
owns_up a b lo mid hi l h p q = record {
  once = once_both a b p.once q.once (λ k. ⊎_elim (λ lt. inr (q.below k lt)) (λ le. inl (p.above k le)) (split_at k mid));
  below = λ k lt. lacks_both a b k (p.below k lt) (q.below k (omega (arith, lt, l)));
  above = λ k le. lacks_both a b k (p.above k (omega (arith, le, h))) (q.above k le);
}

owns_down : (a b : List Line) (lo mid hi : ℕ) → lo ≤ mid → mid ≤ hi → Owns a mid hi → Owns b lo mid → Owns (a ++ b) lo hi
owns_down a b lo mid hi l h p q = record {
  once = once_both a b p.once q.once (λ k. ⊎_elim (λ lt. inl (p.below k lt)) (λ le. inr (q.above k le)) (split_at k mid));
  below = λ k lt. lacks_both a b k (p.below k (omega (arith, lt, l))) (q.below k lt);
  above = λ k le. lacks_both a b k (p.above k le) (q.above k (omega (arith, le, h)));
}

is_or_not : (k m : ℕ) → (k ≡ m) ⊎ (m ≢ k)
is_or_not k m = ⊎_elim (λ lt. inr (λ e. absurd (omega (arith, e, lt)))) (λ le. ⊎_elim (λ less. inl (omega (arith, le, less))) (λ more. inr (λ e. absurd (omega (arith, e, more)))) (split_at k (m + 1))) (split_at k m)

-- lines before a label at their end
once_last : (b : List Line) (l : ℕ) → Once b → Lacks b l → Once (b ++ line.Label l ∷ [])
once_last b l h g = once_both b (line.Label l ∷ []) h (tt, tt) (λ k. ⊎_elim (λ e. inl (subst (Lacks b) (sym e) g)) (λ ne. inr (ne, tt)) (is_or_not k l))

owns_behind : (i : Option Insn) (c : Cond) (l : ℕ) (ls : List Line) (lo hi : ℕ) → Owns ls lo hi → Owns (test_lines i ++ (line.Jcc c l ∷ ls)) lo hi
owns_behind None c l ls lo hi o = record { once = o.once; below = o.below; above = o.above }
owns_behind (Some i) c l ls lo hi o = record { once = o.once; below = o.below; above = o.above }

else_lacks : (n : ℕ) (e : Bool) (b : List Line) (k : ℕ) → n ≢ k → n + 1 ≢ k → Lacks b k → Lacks (else_lines n e b) k
else_lacks n true b k h g l = (h, l)
else_lacks n false b k h g l = (h, lacks_both b (line.Label (n + 1) ∷ []) k l (g, tt))

else_once : (n : ℕ) (e : Bool) (b : List Line) → Once b → Lacks b n → Lacks b (n + 1) → Once (else_lines n e b)
else_once n true b h g l = (g, h)
else_once n false b h g l = (lacks_both b (line.Label (n + 1) ∷ []) n g ((λ e. absurd (omega (arith, e))), tt), once_last b (n + 1) h l)

sides_own : (n : ℕ) (e : Bool) (a b : List Line) (m m' : ℕ) → n + 2 ≤ m → m ≤ m' → Owns a (n + 2) m → Owns b m m' → Owns (a ++ else_lines n e b) n m'
sides_own n e a b m m' l h p q = record {
  once = once_both a (else_lines n e b) p.once (else_once n e b q.once (q.below n (omega (arith, l))) (q.below (n + 1) (omega (arith, l))))
      (λ k. ⊎_elim (λ lt. inl (p.below k lt)) (λ le. ⊎_elim (λ lt. inr (else_lacks n e b k (λ x. absurd (omega (arith, x, le))) (λ x. absurd (omega (arith, x, le))) (q.below k lt))) (λ ge. inl (p.above k ge)) (split_at k m)) (split_at k (n + 2)));
  below = λ k lt. lacks_both a (else_lines n e b) k (p.below k (omega (arith, lt))) (else_lacks n e b k (λ x. absurd (omega (arith, x, lt))) (λ x. absurd (omega (arith, x, lt))) (q.below k (omega (arith, lt, l))));
  above = λ k le. lacks_both a (else_lines n e b) k (p.above k (omega (arith, le, h))) (else_lacks n e b k (λ x. absurd (omega (arith, x, le, l, h))) (λ x. absurd (omega (arith, x, le, l, h))) (q.above k le));
}

choice_owns : (c : Test) (n : ℕ) (e : Bool) (a b : List Line) (m m' : ℕ) → n + 2 ≤ m → m ≤ m' → Owns a (n + 2) m → Owns b m m' → Owns (choice_lines c n e a b) n m'
choice_owns always n e a b m m' l h p q = sides_own n e a b m m' l h p q
choice_owns (if_holds i c) n e a b m m' l h p q = owns_behind i (negated c) n (a ++ else_lines n e b) n m' (sides_own n e a b m m' l h p q)

turn_lacks : (q : Bool) (c : Test) (n : ℕ) (b : List Line) (k : ℕ) → n + 1 ≢ k → Lacks b k → Lacks (turn_lines q c n b) k
turn_lacks q always n b k h l = lacks_both b (line.Jmp n ∷ []) k l tt
turn_lacks false (if_holds None c) n b k h l = lacks_both b (line.Jmp n ∷ line.Label (n + 1) ∷ []) k l (h, tt)
turn_lacks false (if_holds (Some i) c) n b k h l = lacks_both b (line.Jmp n ∷ line.Label (n + 1) ∷ []) k l (h, tt)
turn_lacks true (if_holds None c) n b k h l = l
turn_lacks true (if_holds (Some i) c) n b k h l = l

turn_once : (q : Bool) (c : Test) (n : ℕ) (b : List Line) → Once b → Lacks b (n + 1) → Once (turn_lines q c n b)
turn_once q always n b h l = once_both b (line.Jmp n ∷ []) h tt (λ k. inr tt)
turn_once false (if_holds None c) n b h l = once_both b (line.Jmp n ∷ line.Label (n + 1) ∷ []) h (tt, tt) (λ k. ⊎_elim (λ e. inl (subst (Lacks b) (sym e) l)) (λ ne. inr (ne, tt)) (is_or_not k (n + 1)))
turn_once false (if_holds (Some i) c) n b h l = once_both b (line.Jmp n ∷ line.Label (n + 1) ∷ []) h (tt, tt) (λ k. ⊎_elim (λ e. inl (subst (Lacks b) (sym e) l)) (λ ne. inr (ne, tt)) (is_or_not k (n + 1)))
turn_once true (if_holds None c) n b h l = h
turn_once true (if_holds (Some i) c) n b h l = h

loop_owns : (q : Bool) (c : Test) (n : ℕ) (p b : List Line) (m m' : ℕ) → n + 2 ≤ m → m ≤ m' → Owns p (n + 2) m → Owns b m m' → Owns (loop_lines q c n p b) n m'
loop_owns q c n p b m m' l h x y =
    let turn = turn_lines q c n b in record {
      once = (
        lacks_both p turn n (x.below n (omega arith)) (turn_lacks q c n b n (λ e. absurd (omega (arith, e))) (y.below n (omega (arith, l)))),
        once_both p turn x.once (turn_once q c n b y.once (y.below (n + 1) (omega (arith, l))))
            (λ k. ⊎_elim (λ lt. inl (x.below k lt)) (λ le. ⊎_elim (λ lt. inr (turn_lacks q c n b k (λ e. absurd (omega (arith, e, le))) (y.below k lt))) (λ ge. inl (x.above k ge)) (split_at k m)) (split_at k (n + 2))),
      );
      below = λ k lt. ((λ e. absurd (omega (arith, e, lt))), lacks_both p turn k (x.below k (omega (arith, lt))) (turn_lacks q c n b k (λ e. absurd (omega (arith, e, lt))) (y.below k (omega (arith, lt, l)))));
      above = λ k le. ((λ e. absurd (omega (arith, e, le, l, h))), lacks_both p turn k (x.above k (omega (arith, le, h))) (turn_lacks q c n b k (λ e. absurd (omega (arith, e, le, l, h))) (y.above k le)));
    }

tree_owns : (t : Code) (n : ℕ) → Owns (lines_of t n) n (n + labels_in t)
tree_owns done n = owns_wide n (n + 0) (owns_none n) (omega arith) (omega arith)
tree_owns (op i r) n = let o = tree_owns r n in record { once = o.once; below = o.below; above = o.above }
tree_owns (quiet i r) n = tree_owns r n
tree_owns (choose c a b r) n =
    let m = n + 2 + labels_in a in
    let m' = m + labels_in b in
    let both = choice_owns c n (is_empty b) (lines_of a (n + 2)) (lines_of b m) m m' (omega arith) (omega arith) (tree_owns a (n + 2)) (tree_owns b m) in
    owns_wide n (n + (2 + labels_in a + labels_in b + labels_in r)) (owns_up (choice_lines c n (is_empty b) (lines_of a (n + 2)) (lines_of b m)) (lines_of r m') n m' (m' + labels_in r) (omega arith) (omega arith) both (tree_owns r m')) (omega arith) (omega arith)
tree_owns (loop q p c b r) n =
    let m = n + 2 + labels_in p in
    let m' = m + labels_in b in
    let both = loop_owns q c n (lines_of p (n + 2)) (lines_of b m) m m' (omega arith) (omega arith) (tree_owns p (n + 2)) (tree_owns b m) in
    owns_wide n (n + (2 + labels_in p + labels_in b + labels_in r)) (owns_up (loop_lines q c n (lines_of p (n + 2)) (lines_of b m)) (lines_of r m') n m' (m' + labels_in r) (omega arith) (omega arith) both (tree_owns r m')) (omega arith) (omega arith)
tree_owns (each f b r) n = absurd f
tree_owns (call c b r) n = absurd c

-- each label of a tree's code stands in it once
pub linear_once : (t : Code) → Once (linear_of t)
linear_once t = once_both (lines_of t 0) (line.Insn insn.Ret ∷ []) (tree_owns t 0).once tt (λ k. inr tt)
