-- What is written to a left side that carries what is declared of it leaves values of the declared
-- sorts.
use Rattle.std.proofs.Common.{◌≡◌, ℕ, List, [], ◌∷◌, ◌==◌, Bool, true, false, Option, Some, None, refl, ap, sym, ◌∙◌, subst, nat_lt, if◌then◌else◌, eqb-true}
use Rattle.std.proofs.lemmas.Bool.{and_parts}
use Rattle.std.specs.Str.{bytes_eq}
use Rattle.jz_tree.proofs.Texts.{bytes_eq-true}
use Rattle.jz_tree.specs.Span.{Span}
use Rattle.jz_tree.specs.Size.{Size}
use Rattle.jz_tree.specs.Size.TheVariants.{S64}
use Rattle.jz_tree.specs.Memory.{Memory}
use Rattle.jz_tree.specs.declared.stmt.Lval.{Lval}
use Rattle.jz_tree.specs.declared.stmt.Lval.TheVariants as lval
use Rattle.jz_runs.specs.Rules.{went}
use Rattle.jz_meaning.specs.declared.access.Kind.{Kind}
use Rattle.jz_meaning.specs.declared.access.Kind.TheVariants as kind
use Rattle.jz_meaning.specs.declared.value.Why.TheVariants.{Bounds}
use Rattle.jz_meaning.specs.Attempts.{Evaluation, stuck_at, and_then}
use Rattle.jz_meaning.specs.States.{Value, word, boolean, integer, Key, Store, State, same_key, put}
use Rattle.jz_meaning.specs.Operators.{word_at}
use Rattle.jz_meaning.specs.Values.{size_of, Ref, key_of, cell_key, in_cells, index_at, ref_of, access_of, evaluated, store_at}
use Rattle.jz_meaning.specs.Assignments.{word_value, held, held_or_unset, with_value, in_cell, written}
use Rattle.jz_meaning.specs.Shapes.{words, flags, integers, sort_of, Sorts, HoldsSorts}
use Rattle.jz_run_laws.specs.Kinds.{Kinds, part_of, kind_at, sort_of_kind, sorts_of}
use Rattle.jz_run_laws.specs.DeclaredKinds.{LeftDeclared}
use Rattle.jz_run_laws.specs.Kept.{IfWent}
use Rattle.jz_run_laws.proofs.Parts.{AnyOf, IfThere, there_if, there_is, went_then, went_any}
use Rattle.jz_unroll.proofs.PartNumbers.{then_then}

-- what a variable of a kind may hold, by its sort alone
abbrev IsHeld : Kind → Value → Type 0
IsHeld (kind.Word z) v = sort_of v ≡ words
IsHeld kind.Bool v = sort_of v ≡ flags
IsHeld kind.Int v = sort_of v ≡ integers
IsHeld _ v = ⊥

held_if : (c : Bool) (z : Size) (v : Value) → IsHeld (if c then kind.Word z else kind.Undeclared) v → sort_of v ≡ words
held_if true z v h = h
held_if false z v h = absurd h

part_sort : (k : Kind) (cell : Option ℕ) (v : Value) → IsHeld (part_of k cell) v → sort_of v ≡ sort_of_kind k
part_sort (kind.Word z) None v h = h
part_sort kind.Bool None v h = h
part_sort kind.Int None v h = h
part_sort kind.Undeclared None v h = absurd h
part_sort (kind.Array z n) None v h = absurd h
part_sort (kind.Array z n) (Some i) v h = held_if (nat_lt i n) z v h
part_sort kind.Undeclared (Some i) v h = absurd h
part_sort kind.Int (Some i) v h = absurd h
part_sort kind.Bool (Some i) v h = absurd h
part_sort (kind.Word z) (Some i) v h = absurd h

-- an array has words
array_if : (c : Bool) (y z : Size) (n : ℕ) → (if c then kind.Word y else kind.Undeclared) ≡ kind.Array z n → ⊥
array_if true y z n e = absurd cc
array_if false y z n e = absurd cc

array_sort : (k : Kind) (cell : Option ℕ) (z : Size) (n : ℕ) → part_of k cell ≡ kind.Array z n → words ≡ sort_of_kind k
array_sort k None z n e = sym (ap sort_of_kind e)
array_sort (kind.Array y m) (Some i) z n e = absurd (array_if (nat_lt i m) y z n e)
array_sort kind.Undeclared (Some i) z n e = absurd cc
array_sort kind.Int (Some i) z n e = absurd cc
array_sort kind.Bool (Some i) z n e = absurd cc
array_sort (kind.Word y) (Some i) z n e = absurd cc

-- ---- one key

same_sort : (sorts : Sorts) (k q : Key) → same_key k q ≡ true → sorts k.name k.copy ≡ sorts q.name q.copy
same_sort sorts k q e =
    let p = and_parts (bytes_eq k.name q.name) _ e in
    let r = and_parts (k.copy == q.copy) _ p.1 in
    let n : k.name ≡ q.name = bytes_eq-true k.name q.name p.0 in
    let c : k.copy ≡ q.copy = eqb-true k.copy q.copy r.0 in
    ap (λ x. sorts x k.copy) n ∙ ap (sorts q.name) c

put_sorted : (sorts : Sorts) (store : Store) (k : Key) (v : Option Value) → HoldsSorts sorts store → IfThere (λ u. sort_of u ≡ sorts k.name k.copy) v → HoldsSorts sorts (put store k v)
put_sorted sorts store k v h m = λ q u e. by_test q u (same_key k q) refl e
  where
    by_test : (q : Key) (u : Value) (c : Bool) → same_key k q ≡ c → (if c then v else store q) ≡ Some u → sort_of u ≡ sorts q.name q.copy
    by_test q u true e p = there_is (λ x. sort_of x ≡ sorts k.name k.copy) v u p m ∙ same_sort sorts k q e
    by_test q u false e p = h q u p

-- ---- left sides

held_so : (at : Span) (k : Kind) (v : Value) → IfWent (IsHeld k) (held at k v)
held_so at (kind.Word z) v = went_then (AnyOf {A = ℕ}) (IsHeld (kind.Word z)) (word_at at z v) (λ a. went [] (word z a)) (went_any (word_at at z v)) (λ a t. refl)
held_so at kind.Int (integer i) = refl
held_so at kind.Int (word z a) = tt
held_so at kind.Int (boolean c) = tt
held_so at kind.Bool (boolean c) = refl
held_so at kind.Bool (word z a) = tt
held_so at kind.Bool (integer i) = tt
held_so at kind.Undeclared v = tt
held_so at (kind.Array z n) v = tt

held_or_unset_so : (at : Span) (k : Kind) (v : Option Value) → IfWent (IfThere (IsHeld k)) (held_or_unset at k v)
held_or_unset_so at k None = tt
held_or_unset_so at k (Some v) = went_then (IsHeld k) (IfThere (IsHeld k)) (held at k v) (λ u. went [] (Some u)) (held_so at k v) (λ u q. q)

abbrev Sorted : Sorts → State → Type 0
Sorted sorts s = HoldsSorts sorts s.store

cell_sorted : (kinds : Kinds) (x : Ref) (k : Kind) (n : ℕ) (v : Option Value) (s : State) → (z : Size) (m : ℕ) → k ≡ kind.Array z m → kind_at kinds (key_of x) ≡ k → Sorted (sorts_of kinds) s → IfWent (Sorted (sorts_of kinds)) (in_cell x n (size_of k) v s)
cell_sorted kinds x (kind.Array z m) n None s y l q e h = tt
cell_sorted kinds x (kind.Array z m) n (Some v) s y l q e h =
    went_then (IsHeld (kind.Word z)) (Sorted (sorts_of kinds)) (word_value x.span z v) (λ w. went [] (with_value s (cell_key x n) (Some w))) (held_so x.span (kind.Word z) v)
    (λ w q. put_sorted (sorts_of kinds) s.store (cell_key x n) (Some w) h (q ∙ array_sort (kinds x.name x.copy) x.cell z m e))
cell_sorted kinds x kind.Undeclared n v s y l q e h = absurd cc
cell_sorted kinds x kind.Int n v s y l q e h = absurd cc
cell_sorted kinds x kind.Bool n v s y l q e h = absurd cc
cell_sorted kinds x (kind.Word z) n v s y l q e h = absurd cc

-- behind an index there is an array
index_if : {A : Type 0} (P : A → Type 0) (at : Span) (k : Kind) (i : ℕ) (f : ℕ → Evaluation A) → ((z : Size) (m n : ℕ) → k ≡ kind.Array z m → IfWent P (f n)) → IfWent P (and_then (in_cells at k i) f)
index_if P at kind.Undeclared i f h = tt
index_if P at kind.Int i f h = tt
index_if P at kind.Bool i f h = tt
index_if P at (kind.Word z) i f h = tt
index_if {A} P at (kind.Array z m) i f h = by_test (nat_lt i m)
  where
    by_test : (c : Bool) → IfWent P (and_then (if c then went (i ∷ []) i else stuck_at at Bounds) f)
    by_test true = went_then (λ n. n ≡ i) P (went (i ∷ []) i) f refl (λ n q. h z m n refl)
    by_test false = tt

written_if : (kinds : Kinds) (z : Option Size) (d : Lval) (v : Option Value) (s : State) → LeftDeclared kinds d → Sorted (sorts_of kinds) s → IfWent (Sorted (sorts_of kinds)) (written z d v s)
written_if kinds z (lval.Skip at) v s e h = h
written_if kinds z (lval.Var x) v s e h =
    let r = ref_of x in
    went_then (IfThere (IsHeld r.kind)) (Sorted (sorts_of kinds)) (held_or_unset r.span r.kind v) (λ u. went [] (with_value s (key_of r) u)) (held_or_unset_so r.span r.kind v)
    (λ u q. put_sorted (sorts_of kinds) s.store (key_of r) u h (there_if (λ w. sort_of w ≡ sort_of_kind (kinds r.name r.copy)) u (λ w i. part_sort (kinds r.name r.copy) r.cell w (subst (λ k. IsHeld k w) (sym e) (there_is (IsHeld r.kind) u w i q)))))
written_if kinds z (lval.Cell x i) v s e h =
    let r = ref_of x in
    went_then (AnyOf {A = Value}) (Sorted (sorts_of kinds)) (evaluated i (Some S64) s) (λ j. and_then (index_at r j) (λ n. in_cell r n (size_of r.kind) v s)) (went_any (evaluated i (Some S64) s)) (λ j t. at_index r j e)
  where
    at_index : (r : Ref) (j : Value) → kind_at kinds (key_of r) ≡ r.kind → IfWent (Sorted (sorts_of kinds)) (and_then (index_at r j) (λ n. in_cell r n (size_of r.kind) v s))
    at_index r j e = subst (IfWent (Sorted (sorts_of kinds))) (sym (then_then (word_at r.span S64 j) (in_cells r.span r.kind) (λ n. in_cell r n (size_of r.kind) v s)))
        (went_then (AnyOf {A = ℕ}) (Sorted (sorts_of kinds)) (word_at r.span S64 j) (λ a. and_then (in_cells r.span r.kind a) (λ n. in_cell r n (size_of r.kind) v s)) (went_any (word_at r.span S64 j))
        (λ a t. index_if (Sorted (sorts_of kinds)) r.span r.kind a (λ n. in_cell r n (size_of r.kind) v s) (λ y m n q. cell_sorted kinds r r.kind n v s y m q e h)))
written_if kinds z (lval.Store a) v s e h =
    let p = access_of a in
    went_then (AnyOf {A = Value}) (Sorted (sorts_of kinds)) (p.at s) (λ n. and_then (store_at p z n v s.memory) (λ m. went [] (record s { memory = m }))) (went_any (p.at s))
    (λ n t. went_then (AnyOf {A = Memory}) (Sorted (sorts_of kinds)) (store_at p z n v s.memory) (λ m. went [] (record s { memory = m })) (went_any (store_at p z n v s.memory)) (λ m q. h))

pub written_sorted : (kinds : Kinds) (z : Option Size) (d : Lval) (v : Option Value) (s t : State) (ns : List ℕ) → LeftDeclared kinds d → HoldsSorts (sorts_of kinds) s.store → written z d v s ≡ went ns t → HoldsSorts (sorts_of kinds) t.store
written_sorted kinds z d v s t ns e h q = subst (IfWent (Sorted (sorts_of kinds))) q (written_if kinds z d v s e h)
