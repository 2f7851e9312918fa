-- One key of a store gets a value of its kind.
use Rattle.std.proofs.Common.{◌≡◌, ◌<◌, ℕ, ◌==◌, Bool, true, false, Option, Some, None, refl, ap, sym, subst, nat_lt, if◌then◌else◌, lt-ltb, eqb-true}
use Rattle.std.proofs.lemmas.Bool.{and_parts}
use Rattle.std.specs.Str.{bytes_eq}
use Rattle.jz_tree.proofs.Texts.{bytes_eq-true}
use Rattle.jz_tree.specs.Size.{Size}
use Rattle.jz_tree.specs.Sizes.{modulus}
use Rattle.jz_meaning.specs.declared.access.Kind.{Kind}
use Rattle.jz_meaning.specs.declared.access.Kind.TheVariants as kind
use Rattle.jz_meaning.specs.States.{Value, word, boolean, integer, Key, Store, State, same_cell, same_key, put}
use Rattle.jz_meaning.specs.Assignments.{with_value}
use Rattle.jz_meaning.specs.Shapes.{HoldsSorts, sort_of}
use Rattle.jz_run_laws.specs.Kinds.{Kinds, cell_of, part_of, kind_at, FitsSize, IsOfKind, HoldsKinds, IsOfKinds, sort_of_kind, sorts_of}
use Rattle.jz_run_laws.proofs.Parts.{IfThere, there_if, there_is}
use Rattle.jz_run_laws.proofs.Expressions.{StoreFits, StateFits}

cells_same : (a b : Option ℕ) → same_cell a b ≡ true → a ≡ b
cells_same None None e = refl
cells_same None (Some j) e = absurd cc
cells_same (Some i) None e = absurd cc
cells_same (Some i) (Some j) e = ap Some (eqb-true i j e)

keys_same : (a b : Key) → same_key a b ≡ true → a ≡ b
keys_same a b e =
    let p = and_parts (bytes_eq a.name b.name) _ e in
    let q = and_parts (a.copy == b.copy) _ p.1 in
    let n : a.name ≡ b.name = bytes_eq-true a.name b.name p.0 in
    let c : a.copy ≡ b.copy = eqb-true a.copy b.copy q.0 in
    let d : a.cell ≡ b.cell = cells_same a.cell b.cell q.1 in
    λ i. record { name = n i; copy = c i; cell = d i }

-- nothing, or a value of a kind
abbrev pub MayBe : Kind → Option Value → Type 0
MayBe k = IfThere (IsOfKind k)

put_by : (c : Bool) (kinds : Kinds) (store : Store) (k q : Key) (v : Option Value) → same_key k q ≡ c → HoldsKinds kinds store → MayBe (kind_at kinds k) v → MayBe (kind_at kinds q) (if c then v else store q)
put_by true kinds store k q v e h m = subst (λ x. MayBe (kind_at kinds x) v) (keys_same k q e) m
put_by false kinds store k q v e h m = there_if (IsOfKind (kind_at kinds q)) (store q) (h q)

pub put_keeps : (kinds : Kinds) (store : Store) (k : Key) (v : Option Value) → HoldsKinds kinds store → MayBe (kind_at kinds k) v → HoldsKinds kinds (put store k v)
put_keeps kinds store k v h m = λ q u e. there_is (IsOfKind (kind_at kinds q)) (put store k v q) u e (put_by (same_key k q) kinds store k q v refl h m)

-- what a store holds at a key
pub held_at : (kinds : Kinds) (store : Store) (k : Key) → HoldsKinds kinds store → MayBe (kind_at kinds k) (store k)
held_at kinds store k h = there_if (IsOfKind (kind_at kinds k)) (store k) (h k)

pub set_keeps : (kinds : Kinds) (s : State) (k : Key) (v : Option Value) → IsOfKinds kinds s → MayBe (kind_at kinds k) v → IsOfKinds kinds (with_value s k v)
set_keeps kinds s k v h m = record { variables = put_keeps kinds s.store k v h.variables m; bytes = h.bytes }

-- ---- values of a kind fit their size

kind_fits : (k : Kind) (v : Value) → IsOfKind k v → FitsSize v
kind_fits k (boolean c) h = tt
kind_fits k (integer i) h = tt
kind_fits (kind.Word z) (word y a) h = subst (λ x. a < modulus x) (sym h.0) h.1
kind_fits kind.Undeclared (word y a) h = absurd h
kind_fits kind.Int (word y a) h = absurd h
kind_fits kind.Bool (word y a) h = absurd h
kind_fits (kind.Array z n) (word y a) h = absurd h

pub store_fits : (kinds : Kinds) (store : Store) → HoldsKinds kinds store → StoreFits store
store_fits kinds store h = λ k. there_if FitsSize (store k) (λ v e. kind_fits (kind_at kinds k) v (h k v e))

pub state_fits : (kinds : Kinds) (s : State) → IsOfKinds kinds s → StateFits s
state_fits kinds s h = (store_fits kinds s.store h.variables, h.bytes)

-- ---- cells

within : (c : Bool) (i n : ℕ) (z : Size) → nat_lt i n ≡ c → i < n → (if c then kind.Word z else kind.Undeclared) ≡ kind.Word z
within true i n z e lt = refl
within false i n z e lt = let t = lt-ltb i n lt in absurd cc

cell_within : (z : Size) (n i : ℕ) → i < n → cell_of (kind.Array z n) i ≡ kind.Word z
cell_within z n i lt = within (nat_lt i n) i n z refl lt

no_array_if : (c : Bool) (y z : Size) (n : ℕ) → (if c then kind.Word y else kind.Undeclared) ≡ kind.Array z n → ⊥
no_array_if true y z n e = absurd cc
no_array_if false y z n e = absurd cc

no_array : (k : Kind) (i : ℕ) (z : Size) (n : ℕ) → cell_of k i ≡ kind.Array z n → ⊥
no_array (kind.Array y m) i z n e = no_array_if (nat_lt i m) y z n e
no_array kind.Undeclared i z n e = absurd cc
no_array kind.Int i z n e = absurd cc
no_array kind.Bool i z n e = absurd cc
no_array (kind.Word y) i z n e = absurd cc

-- what is an array has words as its cells
pub cells_are_words : (k : Kind) (cell : Option ℕ) (z : Size) (n i : ℕ) → part_of k cell ≡ kind.Array z n → i < n → cell_of k i ≡ kind.Word z
cells_are_words k None z n i e lt = subst (λ x. cell_of x i ≡ kind.Word z) (sym e) (cell_within z n i lt)
cells_are_words k (Some j) z n i e lt = absurd (no_array k j z n e)

-- ---- sorts

sort_if : (c : Bool) (z : Size) (v : Value) → IsOfKind (if c then kind.Word z else kind.Undeclared) v → sort_of v ≡ sort_of_kind (kind.Word z)
sort_if true z (word y a) h = refl
sort_if true z (boolean c) h = absurd h
sort_if true z (integer i) h = absurd h
sort_if false z v h = absurd h

sort_kept : (k : Kind) (v : Value) → IsOfKind k v → sort_of v ≡ sort_of_kind k
sort_kept (kind.Word z) (word y a) h = refl
sort_kept (kind.Word z) (boolean c) h = absurd h
sort_kept (kind.Word z) (integer i) h = absurd h
sort_kept kind.Bool (boolean c) h = refl
sort_kept kind.Bool (word y a) h = absurd h
sort_kept kind.Bool (integer i) h = absurd h
sort_kept kind.Int (integer i) h = refl
sort_kept kind.Int (word y a) h = absurd h
sort_kept kind.Int (boolean c) h = absurd h
sort_kept kind.Undeclared v h = absurd h
sort_kept (kind.Array z n) v h = absurd h

part_sort : (k : Kind) (cell : Option ℕ) (v : Value) → IsOfKind (part_of k cell) v → sort_of v ≡ sort_of_kind k
part_sort k None v h = sort_kept k v h
part_sort (kind.Array z n) (Some i) v h = sort_if (nat_lt i n) z v h
part_sort kind.Undeclared (Some i) v h = absurd h
part_sort kind.Int (Some i) v h = absurd h
part_sort kind.Bool (Some i) v h = absurd h
part_sort (kind.Word z) (Some i) v h = absurd h

pub kinds_sorted : (kinds : Kinds) (store : Store) → HoldsKinds kinds store → HoldsSorts (sorts_of kinds) store
kinds_sorted kinds store h = λ k v e. part_sort (kinds k.name k.copy) k.cell v (h k v e)
