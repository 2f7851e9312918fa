-- The operations of statements do what the statements do, by both tables.
use Rattle.std.proofs.Common.{◌≡◌, ℕ, zero, suc, Bool, true, false, List, [], ◌∷◌, Option, Some, None, refl, sym, subst, inr}
use Rattle.std.specs.Prelude.{⊤}
use Rattle.x64_insn.specs.declared.types.Place.{Place}
use Rattle.jz_tree.specs.declared.expr.Var.{Var}
use Rattle.jz_runs.specs.Trees.{choose}
use Rattle.jz_meaning.specs.declared.access.Kind.{Kind}
use Rattle.jz_meaning.specs.declared.access.Kind.TheVariants as kind
use Rattle.jz_meaning.specs.States.{Value, Key, same_key, Store, put, State}
use Rattle.jz_meaning.specs.Values.{Ref, key_of, cell_key, ref_of}
use Rattle.jz_meaning.specs.Statements.{Operation, Condition, Counter, Block, unset, assign, instruction, meaningless, no_cells, without, all_unset, quiets, source}
use Rattle.jz_operations.specs.declared.operation.Operation.{Operation as Made}
use Rattle.jz_operations.specs.Values as over
use Rattle.jz_operations.specs.Rows.{Frame}
use Rattle.jz_placing.specs.Variables.{Asked, Body, variables}
use Rattle.jz_change.specs.declared.change.Numbers.{Numbers}
use Rattle.jz_change.specs.Changes.{Change}
use Rattle.jz_pass.specs.Operations.{in_turn, DoAll, do_none}
use Rattle.jz_pass.specs.Unrolling.{Knowing, Unrolls, u_done, u_op, u_quiet, u_if, u_arm, u_while, u_once, u_for, IsKnown}
use Rattle.jz_pass.specs.Cases.{AsMany, none_each, HasItems}
use Rattle.jz_homes.specs.Homes.{Homes, IsHoming, IsRelated}
use Rattle.jz_flag_runs.specs.Lowering.{tests_each}
use Rattle.jz_flag_runs.specs.Keeping.{DoesAs, AnswersAs}
use Rattle.jz_flag_runs.proofs.HasItems.{lowers_many}
use Rattle.jz_flag_runs.proofs.Known.{op_goes, loop_test_goes}
use Rattle.jz_flag_runs.specs.Laws.{AreNeedsMet}
use Rattle.jz_flag_runs.proofs.Whole.{flags_go, flag_tests_go, flags_many}
use Rattle.jz_every_row.specs.Statements.{Makes, by_row, by_flags, MakesTest, by_comparison, by_flag, MakesLoopTest, by_loop_test, by_loop_flag}
use Rattle.jz_every_row.specs.Bodies.{lowering, without_marks, HasNeedsMet}

-- ---- marks: what is unset may still be there
put_less : (b : Bool) (store : Store) (key k : Key) (v : Value) → same_key key k ≡ b → put store key None k ≡ Some v → store k ≡ Some v
put_less true store key k v e h = absurd (let f : ◌≡◌ {A = Option Value} None (Some v) = rw e at h in cc)
put_less false store key k v e h = rw e at h

no_cells_less : (n : ℕ) (x : Ref) (store : Store) (k : Key) (v : Value) → no_cells n x store k ≡ Some v → store k ≡ Some v
no_cells_less zero x store k v e = e
no_cells_less (suc n) x store k v e = no_cells_less n x store k v (put_less (same_key (cell_key x n) k) (no_cells n x store) (cell_key x n) k v refl e)

without_less : (d : Kind) (x : Ref) (store : Store) (k : Key) (v : Value) → without d x store k ≡ Some v → store k ≡ Some v
without_less (kind.Array z n) x store k v e = no_cells_less n x store k v e
without_less (kind.Word z) x store k v e = put_less (same_key (key_of x) k) store (key_of x) k v refl e
without_less kind.Int x store k v e = put_less (same_key (key_of x) k) store (key_of x) k v refl e
without_less kind.Bool x store k v e = put_less (same_key (key_of x) k) store (key_of x) k v refl e
without_less kind.Undeclared x store k v e = put_less (same_key (key_of x) k) store (key_of x) k v refl e

unset_less : (xs : List Var) (store : Store) (k : Key) (v : Value) → all_unset xs store k ≡ Some v → store k ≡ Some v
unset_less [] store k v e = e
unset_less (x ∷ xs) store k v e = without_less (ref_of x).kind (ref_of x) store k v (unset_less xs (without (ref_of x).kind (ref_of x) store) k v e)

pub marks_keep : (home : Homes) (o : Operation) (s : State) (σ : over.State) → IsRelated home s σ → IsRelated home (quiets o s) σ
marks_keep home (unset xs) s σ h = record { holds = λ k x v e f. h.holds k x v e (unset_less xs s.store k v f); memory = h.memory; bytes = h.bytes }
marks_keep home (assign to o e c at) s σ h = h
marks_keep home (instruction to n args at) s σ h = h
marks_keep home (meaningless at) s σ h = h

-- ---- statements and tests
pub does_as : (places : ℕ → Place) (home : Homes) (o : Operation) (os : List Made) (items : List Numbers) → AreNeedsMet places os → Makes home o os items → DoesAs home o os items
does_as places home o os items met (by_row l) frame s t σ ns homing h run = op_goes frame home homing o os items s t σ ns l h run
does_as places home o os items met (by_flags l) frame s t σ ns homing h run = flags_go places home o os items met l frame s t σ ns homing h run

pub answers_as : (home : Homes) (c : Condition) (a : Asked) (i : Numbers) → MakesTest home c a i → AnswersAs home c a i
answers_as home c a i (by_comparison l) frame s σ ns z homing h run = loop_test_goes frame home homing c a i s σ ns z (tests_each l) h run
answers_as home c a i (by_flag l) frame s σ ns z homing h run = flag_tests_go home c a i l frame s σ ns z homing h run

pub loop_answers_as : (home : Homes) (c : Condition) (a : Asked) (i : Numbers) → MakesLoopTest home c a i → AnswersAs home c a i
loop_answers_as home c a i (by_loop_test l) frame s σ ns z homing h run = loop_test_goes frame home homing c a i s σ ns z l h run
loop_answers_as home c a i (by_loop_flag l) frame s σ ns z homing h run = flag_tests_go home c a i l frame s σ ns z homing h run

-- with places for all that the operations need
abbrev pub placed : (ℕ → Place) → Homes → Knowing Operation Condition Counter ⊤ Made Asked
placed places home = record {
  Op = λ o k os items k1. Makes home o os items × AreNeedsMet places os;
  Quiet = λ o k o2 k1. ⊤;
  Test = λ t k os items asked i. (os ≡ []) × (items ≡ []) × MakesTest home t asked i;
  LoopTest = λ t k os items asked i. (os ≡ []) × (items ≡ []) × MakesLoopTest home t asked i;
  Constant = λ t k answer. ⊥;
  Values = λ f k is. ⊥;
  Less = λ k0 k. ⊤;
  set = λ f i k. k;
  restore = λ f k k1. k;
}

turn_met : (places : ℕ → Place) (os : List Made) (u : Body) → HasNeedsMet places (without_marks (in_turn os u)) → AreNeedsMet places os × HasNeedsMet places (without_marks u)
turn_met places [] u m = (tt, m)
turn_met places (o ∷ os) u m = let k = turn_met places os u m.1 in ((m.0, k.0), k.1)

pub unrolls_met : (places : ℕ → Place) (home : Homes) {e e1 : ⊤} {b : Block} {rest u : Body} {k : Change} → Unrolls (lowering home) b e rest u e1 k → HasNeedsMet places (without_marks u) → Unrolls (placed places home) b e rest u e1 k
unrolls_met places home u_done m = u_done
unrolls_met places home (u_op {u = u} {os = os} l r) m = let k = turn_met places os u m in u_op (l, k.0) (unrolls_met places home r k.1)
unrolls_met places home (u_quiet l r) m = u_quiet l (unrolls_met places home r m)
unrolls_met places home (u_if {u = u} {a2 = a2} {b2 = b2} {os = os} {p2 = p2} l x y ea eb r) m =
    let k = turn_met places os (choose p2 a2 b2 u) m in
    u_if l (unrolls_met places home x k.1.0) (unrolls_met places home y k.1.1) ea eb (unrolls_met places home r k.1.2)
unrolls_met places home (u_arm c x r) m = absurd c
unrolls_met places home (u_while e0 l q b eb e3 r) m = u_while e0 l (unrolls_met places home q m.0) (unrolls_met places home b m.1) eb e3 (unrolls_met places home r m.2)
unrolls_met places home (u_once q c r) m = absurd c
unrolls_met places home (u_for v e r) m = absurd v

module _ (places : ℕ → Place) (frame : Frame) (home : Homes) (homing : IsHoming frame home) where
  pub no_operations : (ns : List ℕ) (os : List Made) (items : List Numbers) (σ : over.State) → os ≡ [] → items ≡ [] → DoAll (variables frame) ns os items σ σ
  no_operations ns os items σ e f = subst (λ x. DoAll (variables frame) ns x items σ σ) (sym e) (subst (λ y. DoAll (variables frame) ns [] y σ σ) (sym f) do_none)

  abbrev pub lowering_known : IsKnown source (variables frame) (placed places home)
  lowering_known = record {
    Relates = λ k s σ. IsRelated home s σ;
    Fails = λ w w2. ⊤;
    Exact = ⊥;
    settles = λ w w2. inr tt;
    less_so = λ k0 k s σ l h. h;
    op_went = λ o k k1 os items s t σ ns l h run. does_as places home o os items l.1 l.0 frame s t σ ns homing h run;
    op_stuck = λ o k k1 os items s σ w x l h run. absurd x;
    quiet_so = λ o k k1 o2 s σ l h. marks_keep home o s σ h;
    test_went = λ c k os items a i s σ ns z l h run. let g = answers_as home c a i l.2 frame s σ ns z homing h run in (σ, no_operations ns os items σ l.0 l.1, g.has, g.answers, g.agrees);
    test_stuck = λ c k os items a i s σ w x l h run. absurd x;
    loop_test_went = λ c k os items a i s σ ns z l h run. let g = loop_answers_as home c a i l.2 frame s σ ns z homing h run in (σ, no_operations ns os items σ l.0 l.1, g.has, g.answers, g.agrees);
    loop_test_stuck = λ c k os items a i s σ w x l h run. absurd x;
    constant_so = λ c k z s σ l. absurd l;
    values_so = λ f k is s σ l. absurd l;
    set_so = λ f i k0 k is s σ l. absurd l;
    restore_so = λ f k k1 is s s1 σ σ1 l. absurd l;
  }

-- ---- each operation has its item
pub makes_many : (home : Homes) (o : Operation) (os : List Made) (items : List Numbers) → Makes home o os items → AsMany os items
makes_many home o os items (by_row l) = lowers_many home o os items l
makes_many home o os items (by_flags l) = flags_many home o os items l

nothing_many : (os : List Made) (items : List Numbers) → os ≡ [] → items ≡ [] → AsMany os items
nothing_many os items e f = subst (λ x. AsMany x items) (sym e) (subst (λ y. AsMany {O = Made} [] y) (sym f) none_each)

pub lowering_items : (home : Homes) → HasItems (lowering home)
lowering_items home = record {
  ops = λ o k k1 os items l. makes_many home o os items l;
  tests = λ c k os items a i l. nothing_many os items l.0 l.1;
  loop_tests = λ c k os items a i l. nothing_many os items l.0 l.1;
}
