-- A body that sets no inline variable, but for counters of loops, leaves what is known.
use Rattle.std.proofs.Common.{◌≡◌, ℕ, List, [], ◌∷◌, Option, Some, None, Bool, true, false, refl, ap, ◌∙◌, arith, bytes_eq}
use Rattle.std.specs.Prelude.{ℤ, ◌==◌, ◌&&◌, if◌then◌else◌}
use Rattle.std.proofs.Math.Path.{fun_ext}
use Rattle.std.proofs.lemmas.Bool.{and_parts}
use Rattle.std.proofs.lemmas.Bool.Decides.{nat_tests}
use Rattle.jz_tree.proofs.Texts.{bytes_eq-true}
use Rattle.jz_tree.specs.declared.expr.Expr.{Expr}
use Rattle.jz_tree.specs.declared.expr.Var.{Var}
use Rattle.jz_type_names.specs.Kinds.{is_inline}
use Rattle.jz_type_names.specs.Parts.{span_of}
use Rattle.jz_integers.specs.Integers.{KnownNumbers, inline_value}
use Rattle.jz_meaning.specs.Assignments.{whole_of}
use Rattle.jz_runs.specs.Trees.{done, op, quiet, choose, loop, each, call}
use Rattle.jz_meaning.specs.Statements.{Operation, assign, instruction, unset, meaningless, Block}
use Rattle.jz_meaning.specs.Values.{ref_of}
use Rattle.jz_limits.specs.Values.{with_number, number_of, number_in, truth_of, first_left, set_to, known_after}
use Rattle.jz_limits.specs.Asked.{asked_condition}
use Rattle.jz_limits.specs.Walks.{Walk, limits, behind, followed, silent, constant_steps, taken, arms, rounds, counted_values, walk}
use Rattle.jz_unrolling_laws.specs.CalledBodies.{IsStillOp, IsStill}

-- ---- numbers

same_copy : (a b : ℕ) → (a == b) ≡ true → a ≡ b
same_copy a b q = grind (arith, nat_tests, q)

-- with the number that it has
pub same_number : (v : Var) (e : KnownNumbers) → with_number e v (number_of e v) ≡ e
same_number v e = fun_ext (λ n. fun_ext (λ c. by_test n c (bytes_eq (ref_of v).name n && (ref_of v).copy == c) refl))
  where
    by_test : (n : List ℕ) (c : ℕ) (b : Bool) → (bytes_eq (ref_of v).name n && (ref_of v).copy == c) ≡ b → (if b then number_of e v else e n c) ≡ e n c
    by_test n c true q =
        let p = and_parts (bytes_eq (ref_of v).name n) _ q in
        ap (λ m. e m (ref_of v).copy) (bytes_eq-true (ref_of v).name n p.0) ∙ ap (e n) (same_copy (ref_of v).copy c p.1)
    by_test n c false q = refl

-- the later one stays
pub last_number : (v : Var) (e : KnownNumbers) (a b : Option ℤ) → with_number (with_number e v a) v b ≡ with_number e v b
last_number v e a b = fun_ext (λ n. fun_ext (λ c. by_test n c (bytes_eq (ref_of v).name n && (ref_of v).copy == c)))
  where
    by_test : (n : List ℕ) (c : ℕ) (t : Bool) → (if t then b else (if t then a else e n c)) ≡ (if t then b else e n c)
    by_test n c true = refl
    by_test n c false = refl

-- ---- walks

pub still_op : (o : Operation) (e : KnownNumbers) → IsStillOp o → known_after e o ≡ e
still_op (assign to o x c at) e h = ap (λ d. set_to e d (whole_of (first_left d) o x) c) h
still_op (instruction to n args at) e h = refl
still_op (unset vs) e h = refl
still_op (meaningless at) e h = refl

pub still_arms : (c : Expr) (A B : KnownNumbers → Walk) (e : KnownNumbers) → (A e).known ≡ e → (B e).known ≡ e → (arms c A B e).known ≡ e
still_arms c A B e a b = by_test (is_inline c)
  where
    by_answer : (z : Option Bool) → (taken z (A e) (B e) (silent e)).known ≡ e
    by_answer None = refl
    by_answer (Some true) = a
    by_answer (Some false) = b

    by_test : (t : Bool) → (if t then behind (constant_steps (span_of c) (truth_of (inline_value e c))) (taken (truth_of (inline_value e c)) (A e) (B e) (silent e))
        else behind (limits (asked_condition e c)) (followed (A e) B)).known ≡ e
    by_test true = by_answer (truth_of (inline_value e c))
    by_test false = ap (λ k. (B k).known) a ∙ b

still_rounds : (v : Var) (W : KnownNumbers → Walk) (zs : List ℤ) (e : KnownNumbers) (b : Option ℤ) → ((k : KnownNumbers) → (W k).known ≡ k) → with_number (rounds v W zs e).known v b ≡ with_number e v b
still_rounds v W [] e b h = refl
still_rounds v W (z ∷ zs) e b h =
    still_rounds v W zs (W (with_number e v (Some z))).known b h
    ∙ ap (λ k. with_number k v b) (h (with_number e v (Some z)))
    ∙ last_number v e (Some z) b

pub still_walk : (t : Block) (e : KnownNumbers) → IsStill t → (walk t e).known ≡ e
unfolding walk
still_walk done e h = refl
still_walk (op o r) e h = ap (λ k. (walk r k).known) (still_op o e h.0) ∙ still_walk r e h.1
still_walk (quiet o r) e h = absurd h
still_walk (choose p a b r) e h =
    ap (λ k. (walk r k).known) (still_arms p.cond (walk a) (walk b) e (still_walk a e h.0) (still_walk b e h.1)) ∙ still_walk r e h.2
still_walk (loop l q p b r) e h =
    ap (λ k. (walk r (arms p.cond (walk b) silent k).known).known) (still_walk q e h.0)
    ∙ ap (λ k. (walk r k).known) (still_arms p.cond (walk b) silent e (still_walk b e h.1) refl) ∙ still_walk r e h.2
still_walk (each f b r) e h =
    ap (λ k. (walk r k).known)
    (still_rounds f.counter (walk b) (counted_values f.down (number_in e f.from) (number_in e f.to)) e (number_of e f.counter) (λ k. still_walk b k h.0) ∙ same_number f.counter e)
    ∙ still_walk r e h.1
still_walk (call q b r) e h = still_walk r e h
