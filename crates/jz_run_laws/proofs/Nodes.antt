-- Operations, marks and counters keep kinds.
use Rattle.std.proofs.Common.{ℕ, zero, suc, List, ◌∷◌, [], Some, None, sym, subst}
use Rattle.jz_tree.specs.declared.expr.Var.{Var}
use Rattle.jz_tree.specs.Spellings.{spelled}
use Rattle.jz_meaning.specs.declared.access.Kind.{Kind}
use Rattle.jz_meaning.specs.declared.access.Kind.TheVariants as kind
use Rattle.jz_meaning.specs.States.{integer, Store}
use Rattle.jz_meaning.specs.Values.{Ref, key_of, cell_key, ref_of}
use Rattle.jz_meaning.specs.Statements.{assign, instruction, unset, meaningless, no_cells, without, all_unset}
use Rattle.jz_run_laws.specs.Kinds.{Kinds, HoldsKinds}
use Rattle.jz_run_laws.specs.Kept.{OperationsKeep, MarksKeep, CountersBegin, CountersRestore}
use Rattle.jz_run_laws.proofs.Stores.{MayBe, put_keeps, held_at, set_keeps}
use Rattle.jz_run_laws.proofs.RightSides.{assigned_keeps}
use Rattle.jz_run_laws.proofs.Instructions.{instruction_keeps}

pub operations_keep : OperationsKeep
operations_keep kinds (assign to o e c at) s d h = assigned_keeps kinds to o e c at s d h
operations_keep kinds (instruction to n args at) s d h = instruction_keeps kinds (spelled n) to args at s d h
operations_keep kinds (unset xs) s d h = h
operations_keep kinds (meaningless at) s d h = tt

-- ---- marks

no_cells_keep : (kinds : Kinds) (n : ℕ) (x : Ref) (store : Store) → HoldsKinds kinds store → HoldsKinds kinds (no_cells n x store)
no_cells_keep kinds zero x store h = h
no_cells_keep kinds (suc n) x store h = put_keeps kinds (no_cells n x store) (cell_key x n) None (no_cells_keep kinds n x store h) tt

without_keeps : (kinds : Kinds) (k : Kind) (x : Ref) (store : Store) → HoldsKinds kinds store → HoldsKinds kinds (without k x store)
without_keeps kinds (kind.Array z n) x store h = no_cells_keep kinds n x store h
without_keeps kinds _ x store h = put_keeps kinds store (key_of x) None h tt

unset_keeps : (kinds : Kinds) (xs : List Var) (store : Store) → HoldsKinds kinds store → HoldsKinds kinds (all_unset xs store)
unset_keeps kinds [] store h = h
unset_keeps kinds (x ∷ xs) store h = unset_keeps kinds xs (without (ref_of x).kind (ref_of x) store) (without_keeps kinds (ref_of x).kind (ref_of x) store h)

pub marks_keep : MarksKeep
marks_keep kinds (assign to o e c at) s h = h
marks_keep kinds (instruction to n args at) s h = h
marks_keep kinds (unset xs) s h = record { variables = unset_keeps kinds xs s.store h.variables; bytes = h.bytes }
marks_keep kinds (meaningless at) s h = h

-- ---- counters

pub counters_begin : CountersBegin
counters_begin kinds f i s d h =
    let k = key_of (ref_of f.counter) in
    set_keeps kinds s k (Some (integer i)) h (subst (λ y. MayBe y (Some (integer i))) (sym d) tt)

pub counters_restore : CountersRestore
counters_restore kinds f before s b h =
    let k = key_of (ref_of f.counter) in
    set_keeps kinds s k (before.store k) h (held_at kinds before.store k b.variables)
