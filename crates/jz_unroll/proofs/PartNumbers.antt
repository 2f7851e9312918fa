-- Parts of a statement, one after another, and how many numbers each of them leaks.
use Rattle.std.proofs.Common.{◌≡◌, ℕ, List, [], ◌∷◌, ◌++◌, length, Option, Some, None, Bool, true, false, refl, ap, sym, ◌∙◌, arith, length-append}
use Rattle.std.specs.Prelude.{nat_lt, if◌then◌else◌, ◌||◌}
use Rattle.std.specs.Option.{option_or}
use Rattle.jz_tree.specs.Span.{Span}
use Rattle.jz_tree.specs.Size.{Size}
use Rattle.jz_tree.specs.Size.TheVariants.{S64}
use Rattle.jz_tree.specs.Memory.{Memory}
use Rattle.jz_runs.specs.Rules.{stuck, went}
use Rattle.jz_meaning.specs.declared.access.Kind.{Kind}
use Rattle.jz_meaning.specs.declared.access.Kind.TheVariants as kind
use Rattle.jz_meaning.specs.declared.value.Why.TheVariants.{Bounds, Align}
use Rattle.jz_meaning.specs.Attempts.{Evaluation, stuck_at, numbers_first, and_then, defined}
use Rattle.jz_meaning.specs.States.{Value, word, boolean, integer, State}
use Rattle.jz_meaning.specs.Operators.{word_of}
use Rattle.jz_meaning.specs.Values.{Ref, key_of, cell_key, in_cells, index_at, MemoryAccess, is_aligned, accessed, after_store, store_word, store_at}
use Rattle.jz_meaning.specs.Assignments.{word_value, held, held_or_unset, with_value, in_cell}
use Rattle.jz_meaning.proofs.AttemptLemmas.{first_then}

pub none_first : {A : Type 0} (g : Evaluation A) → numbers_first [] g ≡ g
none_first (stuck w) = refl
none_first (went ns a) = refl

pub then_then : {A B D : Type 0} (g : Evaluation A) (f : A → Evaluation B) (h : B → Evaluation D) → and_then (and_then g f) h ≡ and_then g (λ x. and_then (f x) h)
then_then (stuck w) f h = refl
then_then (went ns a) f h = sym (first_then ns (f a) h)

-- what has gone, part by part
pub then_went : {A B : Type 0} (g : Evaluation A) (f : A → Evaluation B) (ns : List ℕ) (b : B) → and_then g f ≡ went ns b → (ms : List ℕ) × (a : A) × (ks : List ℕ) × (g ≡ went ms a) × (f a ≡ went ks b) × (ns ≡ ms ++ ks)
then_went (stuck w) f ns b e = absurd cc
then_went {A} {B} (went ms a) f ns b e = let r = by_rest (f a) refl e in (ms, a, r.0, refl, r.1, r.2)
  where
    by_rest : (r : Evaluation B) → f a ≡ r → numbers_first ms r ≡ went ns b → (ks : List ℕ) × (f a ≡ went ks b) × (ns ≡ ms ++ ks)
    by_rest (stuck w) q e2 = absurd cc
    by_rest (went ks b2) q e2 = let p : b2 ≡ b = cc in let n : ns ≡ ms ++ ks = cc in (ks, q ∙ ap (went ks) p, n)

pub held_none : (at : Span) (k : Kind) (v : Value) (ns : List ℕ) (h : Value) → held at k v ≡ went ns h → length ns ≡ 0
held_none at (kind.Word z) v ns h e = of_word (word_of z v) e
  where
    of_word : (o : Option ℕ) → and_then (defined at o) (λ a. went [] (word z a)) ≡ went ns h → length ns ≡ 0
    of_word None e = absurd cc
    of_word (Some a) e = let q : ns ≡ [] = cc in ap length q
held_none at kind.Int (integer n) ns h e = let q : ns ≡ [] = cc in ap length q
held_none at kind.Int (word s a) ns h e = absurd cc
held_none at kind.Int (boolean c) ns h e = absurd cc
held_none at kind.Bool (boolean c) ns h e = let q : ns ≡ [] = cc in ap length q
held_none at kind.Bool (word s a) ns h e = absurd cc
held_none at kind.Bool (integer n) ns h e = absurd cc
held_none at (kind.Array s n) v ns h e = absurd cc
held_none at kind.Undeclared v ns h e = absurd cc

-- ---- how many numbers

pub no_numbers : {A B : Type 0} (o : Option A) (at : Span) (f : A → Evaluation B) (m : ℕ) → ((a : A) (ns : List ℕ) (b : B) → f a ≡ went ns b → length ns ≡ m) → (ns : List ℕ) (b : B) → and_then (defined at o) f ≡ went ns b → length ns ≡ m
no_numbers None at f m h ns b e = absurd cc
no_numbers (Some a) at f m h ns b e = h a ns b (sym (none_first (f a)) ∙ e)

cells_numbers : (at : Span) (k : Kind) (i : ℕ) (ns : List ℕ) (j : ℕ) → in_cells at k i ≡ went ns j → length ns ≡ 1
cells_numbers at kind.Undeclared i ns j e = absurd cc
cells_numbers at kind.Int i ns j e = absurd cc
cells_numbers at kind.Bool i ns j e = absurd cc
cells_numbers at (kind.Word z) i ns j e = absurd cc
cells_numbers at (kind.Array z n) i ns j e = by_test (nat_lt i n) e
  where
    by_test : (b : Bool) → (if b then went (i ∷ []) i else stuck_at at Bounds) ≡ went ns j → length ns ≡ 1
    by_test true q = let p : ns ≡ i ∷ [] = cc in ap length p
    by_test false q = absurd cc

pub index_numbers : (r : Ref) (v : Value) (ns : List ℕ) (j : ℕ) → index_at r v ≡ went ns j → length ns ≡ 1
index_numbers r v ns j e = no_numbers (word_of S64 v) r.span (in_cells r.span r.kind) 1 (λ a ms b q. cells_numbers r.span r.kind a ms b q) ns j e

pub in_cell_numbers : (r : Ref) (i : ℕ) (z : Option Size) (v : Option Value) (s : State) (ns : List ℕ) (s1 : State) → in_cell r i z v s ≡ went ns s1 → length ns ≡ 0
in_cell_numbers r i None v s ns s1 e = absurd cc
in_cell_numbers r i (Some z) None s ns s1 e = absurd cc
in_cell_numbers r i (Some z) (Some v) s ns s1 e =
    let p = then_went (word_value r.span z v) (λ w. went [] (with_value s (cell_key r i) (Some w))) ns s1 e in
    let a = no_numbers (word_of z v) r.span (λ n. went [] (word z n)) 0 (λ n ms b q. (let w : ms ≡ [] = cc in ap length w)) p.0 p.1 p.3 in
    let b : p.2 ≡ [] = (let w = p.4 in cc) in
    omega (arith, a, ap length b, length-append p.0 p.2, ap length p.5)

pub var_numbers : (r : Ref) (v : Value) (s : State) (ns : List ℕ) (s1 : State) → and_then (held_or_unset r.span r.kind (Some v)) (λ h. went [] (with_value s (key_of r) h)) ≡ went ns s1 → length ns ≡ 0
var_numbers r v s ns s1 e =
    let p = then_went (held_or_unset r.span r.kind (Some v)) (λ h. went [] (with_value s (key_of r) h)) ns s1 e in
    let q = then_went (held r.span r.kind v) (λ h. went [] (Some h)) p.0 p.1 p.3 in
    let a = held_none r.span r.kind v q.0 q.1 q.3 in
    let b : q.2 ≡ [] = (let w = q.4 in cc) in
    let c : p.2 ≡ [] = (let w = p.4 in cc) in
    omega (arith, a, ap length b, ap length c, length-append p.0 p.2, length-append q.0 q.2, ap length p.5, ap length q.5)

pub accessed_numbers : {A : Type 0} (at : Span) (u : Bool) (z : Size) (a : ℕ) (o : Option A) (ns : List ℕ) (b : A) → accessed at u z a o ≡ went ns b → length ns ≡ 1
accessed_numbers at u z a None ns b e = absurd cc
accessed_numbers {A} at u z a (Some y) ns b e = by_test (u || is_aligned z a) e
  where
    by_test : (t : Bool) → (if t then went (a ∷ []) y else stuck_at at Align) ≡ went ns b → length ns ≡ 1
    by_test true q = let p : ns ≡ a ∷ [] = cc in ap length p
    by_test false q = absurd cc

store_word_numbers : (at : Span) (u : Bool) (z : Option Size) (a : ℕ) (v : Value) (m : Memory) (ns : List ℕ) (m1 : Memory) → store_word at u z a (Some v) m ≡ went ns m1 → length ns ≡ 1
store_word_numbers at u None a v m ns m1 e = absurd cc
store_word_numbers at u (Some z) a v m ns m1 e = no_numbers (word_of z v) at (λ b. accessed at u z a (after_store m a z b)) 1 (λ b ms y q. accessed_numbers at u z a (after_store m a z b) ms y q) ns m1 e

pub store_numbers : (p : MemoryAccess) (z : Option Size) (n : Value) (v : Value) (m : Memory) (ns : List ℕ) (m1 : Memory) → store_at p z n (Some v) m ≡ went ns m1 → length ns ≡ 1
store_numbers p z n v m ns m1 e = no_numbers (word_of S64 n) p.span (λ a. store_word p.span p.unaligned (option_or p.size z) a (Some v) m) 1 (λ a ms y q. store_word_numbers p.span p.unaligned (option_or p.size z) a v m ms y q) ns m1 e
