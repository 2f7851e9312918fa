-- What is written to left sides is of the kinds that are declared of them.
use Rattle.std.proofs.Common.{◌≡◌, ◌<◌, ℕ, List, ◌∷◌, [], Bool, true, false, Option, Some, None, All, refl, sym, subst, nat_lt, if◌then◌else◌, ltb-true}
use Rattle.std.proofs.lemmas.List.Elements.{All-head, All-tail}
use Rattle.jz_tree.specs.Span.{Span}
use Rattle.jz_tree.specs.Size.{Size}
use Rattle.jz_tree.specs.Size.TheVariants.{S64}
use Rattle.jz_tree.specs.declared.stmt.Lval.{Lval}
use Rattle.jz_tree.specs.declared.stmt.Lval.TheVariants as lval
use Rattle.jz_meaning.specs.declared.access.Kind.{Kind}
use Rattle.jz_meaning.specs.declared.access.Kind.TheVariants as kind
use Rattle.jz_meaning.specs.declared.value.Why.TheVariants.{Bounds}
use Rattle.jz_meaning.specs.Rules.{went}
use Rattle.jz_meaning.specs.Attempts.{stuck_at, and_then}
use Rattle.jz_meaning.specs.States.{Value, word, boolean, integer, State}
use Rattle.jz_meaning.specs.Operators.{word_at}
use Rattle.jz_meaning.specs.Values.{size_of, Ref, key_of, cell_key, in_cells, index_at, ref_of, access_of, evaluated, store_at}
use Rattle.jz_meaning.specs.Assignments.{word_value, held, held_or_unset, with_value, in_cell, written, Results, all_written}
use Rattle.jz_run_laws.specs.Kinds.{Kinds, kind_at, FitsSize, IsOfKind, HoldsBytes, IsOfKinds}
use Rattle.jz_run_laws.specs.DeclaredKinds.{LeftDeclared}
use Rattle.jz_run_laws.specs.Kept.{IfWent}
use Rattle.jz_run_laws.proofs.Parts.{AnyOf, went_then, went_any}
use Rattle.jz_run_laws.proofs.Bounds.{IsBelow}
use Rattle.jz_run_laws.proofs.Bytes.{store_bytes}
use Rattle.jz_run_laws.proofs.Operators.{MayFit}
use Rattle.jz_run_laws.proofs.Expressions.{word_at_below}
use Rattle.jz_run_laws.proofs.Stores.{MayBe, set_keeps, cells_are_words}

-- ---- what is held of a value

word_held : (at : Span) (z : Size) (v : Value) → FitsSize v → IfWent (IsOfKind (kind.Word z)) (word_value at z v)
word_held at z v h = went_then (IsBelow z) (IsOfKind (kind.Word z)) (word_at at z v) (λ a. went [] (word z a)) (word_at_below at z v h) (λ a lt. (refl, lt))

pub held_so : (at : Span) (k : Kind) (v : Value) → FitsSize v → IfWent (IsOfKind k) (held at k v)
held_so at (kind.Word z) v h = word_held at z v h
held_so at kind.Int (integer i) h = tt
held_so at kind.Int (word z a) h = tt
held_so at kind.Int (boolean c) h = tt
held_so at kind.Bool (boolean c) h = tt
held_so at kind.Bool (word z a) h = tt
held_so at kind.Bool (integer i) h = tt
held_so at kind.Undeclared v h = tt
held_so at (kind.Array z n) v h = tt

held_or_unset_so : (at : Span) (k : Kind) (v : Option Value) → MayFit v → IfWent (MayBe k) (held_or_unset at k v)
held_or_unset_so at k None h = tt
held_or_unset_so at k (Some v) h = went_then (IsOfKind k) (MayBe k) (held at k v) (λ u. went [] (Some u)) (held_so at k v h) (λ u q. q)

-- ---- cells

-- there is such a cell
abbrev IsCell : Kind → ℕ → Type 0
IsCell (kind.Array z n) i = i < n
IsCell _ i = ⊥

index_if : (c : Bool) (at : Span) (z : Size) (n i : ℕ) → nat_lt i n ≡ c → IfWent (IsCell (kind.Array z n)) (if c then went (i ∷ []) i else stuck_at at Bounds)
index_if true at z n i e = ltb-true i n e
index_if false at z n i e = tt

cells_within : (at : Span) (k : Kind) (i : ℕ) → IfWent (IsCell k) (in_cells at k i)
cells_within at (kind.Array z n) i = index_if (nat_lt i n) at z n i refl
cells_within at kind.Undeclared i = tt
cells_within at kind.Int i = tt
cells_within at kind.Bool i = tt
cells_within at (kind.Word z) i = tt

index_within : (x : Ref) (v : Value) → IfWent (IsCell x.kind) (index_at x v)
index_within x v = went_then (AnyOf {A = ℕ}) (IsCell x.kind) (word_at x.span S64 v) (in_cells x.span x.kind) (went_any (word_at x.span S64 v)) (λ i t. cells_within x.span x.kind i)

cell_keeps : (kinds : Kinds) (x : Ref) (k : Kind) (n : ℕ) (v : Option Value) (s : State) → kind_at kinds (key_of x) ≡ k → IsCell k n → MayFit v → IsOfKinds kinds s → IfWent (IsOfKinds kinds) (in_cell x n (size_of k) v s)
cell_keeps kinds x (kind.Array z m) n None s e lt f h = tt
cell_keeps kinds x (kind.Array z m) n (Some v) s e lt f h =
    went_then (IsOfKind (kind.Word z)) (IsOfKinds kinds) (word_value x.span z v) (λ w. went [] (with_value s (cell_key x n) (Some w))) (word_held x.span z v f)
    (λ w q. set_keeps kinds s (cell_key x n) (Some w) h (subst (λ k. IsOfKind k w) (sym (cells_are_words (kinds x.name x.copy) x.cell z m n e lt)) q))
cell_keeps kinds x kind.Undeclared n v s e lt f h = absurd lt
cell_keeps kinds x kind.Int n v s e lt f h = absurd lt
cell_keeps kinds x kind.Bool n v s e lt f h = absurd lt
cell_keeps kinds x (kind.Word z) n v s e lt f h = absurd lt

-- ---- left sides

pub written_keeps : (kinds : Kinds) (z : Option Size) (d : Lval) (v : Option Value) (s : State) → LeftDeclared kinds d → MayFit v → IsOfKinds kinds s → IfWent (IsOfKinds kinds) (written z d v s)
written_keeps kinds z (lval.Skip at) v s e f h = h
written_keeps kinds z (lval.Var x) v s e f h =
    let r = ref_of x in
    went_then (MayBe r.kind) (IsOfKinds kinds) (held_or_unset r.span r.kind v) (λ u. went [] (with_value s (key_of r) u)) (held_or_unset_so r.span r.kind v f)
    (λ u q. set_keeps kinds s (key_of r) u h (subst (λ k. MayBe k u) (sym e) q))
written_keeps kinds z (lval.Cell x i) v s e f h =
    let r = ref_of x in
    went_then (AnyOf {A = Value}) (IsOfKinds kinds) (evaluated i (Some S64) s) (λ j. and_then (index_at r j) (λ n. in_cell r n (size_of r.kind) v s)) (went_any (evaluated i (Some S64) s))
    (λ j t. went_then (IsCell r.kind) (IsOfKinds kinds) (index_at r j) (λ n. in_cell r n (size_of r.kind) v s) (index_within r j)
    (λ n lt. cell_keeps kinds r r.kind n v s e lt f h))
written_keeps kinds z (lval.Store a) v s e f h =
    let p = access_of a in
    went_then (AnyOf {A = Value}) (IsOfKinds kinds) (p.at s) (λ n. and_then (store_at p z n v s.memory) (λ m. went [] (record s { memory = m }))) (went_any (p.at s))
    (λ n t. went_then HoldsBytes (IsOfKinds kinds) (store_at p z n v s.memory) (λ m. went [] (record s { memory = m })) (store_bytes p z n v s.memory h.bytes)
    (λ m q. record { variables = h.variables; bytes = q }))

pub all_written_keeps : (kinds : Kinds) (at : Span) (z : Option Size) (ds : List Lval) (vs : Results) (s : State) → All (LeftDeclared kinds) ds → All MayFit vs → IsOfKinds kinds s → IfWent (IsOfKinds kinds) (all_written at z ds vs s)
all_written_keeps kinds at z [] [] s e f h = h
all_written_keeps kinds at z [] (v ∷ vs) s e f h = tt
all_written_keeps kinds at z (d ∷ ds) [] s e f h = tt
all_written_keeps kinds at z (d ∷ ds) (v ∷ vs) s e f h =
    went_then (IsOfKinds kinds) (IsOfKinds kinds) (written z d v s) (λ t. all_written at z ds vs t)
    (written_keeps kinds z d v s (All-head (LeftDeclared kinds) d ds e) (All-head MayFit v vs f) h)
    (λ t q. all_written_keeps kinds at z ds vs t (All-tail (LeftDeclared kinds) d ds e) (All-tail MayFit v vs f) q)
