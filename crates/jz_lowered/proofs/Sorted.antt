-- Operations of statements are what the placing of variables asks.
use Rattle.std.proofs.Common.{◌≡◌, ℕ, ◌<◌, Bool, true, false, List, [], ◌∷◌, ◌++◌, length, Option, Some, None, refl, sym, ap, ◌∙◌, subst}
use Rattle.std.specs.Prelude.{nat_eq, not, ◌&&◌, IsTrue, slice_index_or, if◌then◌else◌, All, ⊤}
use Rattle.std.proofs.lemmas.Bool.{eqb-true}
use Rattle.std.proofs.lemmas.List.Elements.{All-head, All-tail}
use Rattle.jz_io.specs.declared.span.Span.{Span}
use Rattle.jz_words.specs.declared.size.Size.{Size}
use Rattle.x64_insn.specs.declared.types.Flag.{Flag}
use Rattle.x64_insn.specs.declared.types.Flag.TheVariants.{Of, Cf, Sf, Pf, Zf}
use Rattle.x64_insn.specs.declared.types.Place.{Place}
use Rattle.x64_insn.specs.declared.types.Alu.TheVariants as alu
use Rattle.x64_insn.specs.declared.types.Cond.{Cond}
use Rattle.jz_tree.specs.declared.expr.BinOp.{BinOp}
use Rattle.jz_tree.specs.declared.expr.BinOp.TheVariants as o
use Rattle.jz_tree.specs.declared.expr.Expr.{Expr}
use Rattle.jz_tree.specs.declared.stmt.Lval.{Lval}
use Rattle.jz_meaning.specs.Statements.{Condition}
use Rattle.jz_meaning.specs.Statements as statements
use Rattle.jz_meaning.specs.States.{Key}
use Rattle.jz_meaning.specs.Values.{key_of, ref_of}
use Rattle.jz_ir.specs.declared.code.Kind.{Kind}
use Rattle.jz_ir.specs.declared.code.Kind.TheVariants.{Word}
use Rattle.jz_ir.specs.Order.{has_place}
use Rattle.jz_ir.specs.Paths.{among}
use Rattle.jz_operations.specs.declared.operation.Pinned.{Pinned}
use Rattle.jz_operations.specs.declared.operation.Arg.{Arg}
use Rattle.jz_operations.specs.declared.operation.Arg.TheVariants as arg
use Rattle.jz_operations.specs.declared.operation.Condition.{Condition as Choice}
use Rattle.jz_operations.specs.declared.operation.Condition.TheVariants as condition
use Rattle.jz_operations.specs.declared.operation.Action.{Action}
use Rattle.jz_operations.specs.declared.operation.Action.TheVariants as action
use Rattle.jz_operations.specs.declared.operation.Operation.{Operation}
use Rattle.jz_operations.specs.Rows.{Output, outputs, changes, flags_of}
use Rattle.jz_operations.specs.Reading.{written_in, left_in, five_flags, flag_left, flags_left, fixed_of}
use Rattle.jz_operations.proofs.Somes.{same_some}
use Rattle.jz_encodable.specs.Encodable.{CanEncode}
use Rattle.jz_placing.specs.Variables.{Asked}
use Rattle.jz_placing.specs.Placing.{Asks}
use Rattle.jz_change.specs.declared.change.Numbers.{Numbers}
use Rattle.jz_place.specs.Sorts.{IsSorted, TestSorted}
use Rattle.jz_homes.specs.Homes.{Homes, in_register}
use Rattle.jz_homes.specs.Operands.{Leaks, IsDest, to_word, to_scalar, to_cell, to_memory}
use Rattle.jz_row_operations.specs.Codes.{no_flag, plain, lasting}
use Rattle.jz_row_operations.specs.Rows.{IsSumOp, alu_of, commutes, IsCarryOp, carry_alu, shift_of}
use Rattle.jz_row_operations.specs.Table.{same_arg, is_imm, is_free, brought, behind, nothing}
use Rattle.jz_row_operations.specs.Lowering.{HasRow, moves, sums, carries, signs, times, times_by, shifts, shifts_by, extends, lowest, IsCompared, compares, denies, Lowers, sets, sets_if, LowersTest, tests, LowersLoopTest, tests_each, never_false}
use Rattle.jz_lowered.specs.Functions.{AreKinds}
use Rattle.jz_lowered.proofs.Accesses.{one_operand, accessed_once}

-- ---- no operation leaves anything in the stack pointer
no_flag_there : (p : Option Pinned) (c : Bool) (f : Flag) (rest : List Place) → has_place rest 20 ≡ false → has_place (flag_left p c f ++ rest) 20 ≡ false
no_flag_there None true Of rest e = e
no_flag_there None true Cf rest e = e
no_flag_there None true Sf rest e = e
no_flag_there None true Pf rest e = e
no_flag_there None true Zf rest e = e
no_flag_there None false f rest e = e
no_flag_there (Some p) true f rest e = e
no_flag_there (Some p) false f rest e = e

pub no_flags_there : (ps : List (Option Pinned)) (cs : List Bool) (fs : List Flag) → has_place (flags_left ps cs fs) 20 ≡ false
no_flags_there [] cs fs = refl
no_flags_there (p ∷ ps) [] fs = refl
no_flags_there (p ∷ ps) (c ∷ cs) [] = refl
no_flags_there (p ∷ ps) (c ∷ cs) (f ∷ fs) = no_flag_there p c f (flags_left ps cs fs) (no_flags_there ps cs fs)

nothing_left : (at : Span) (a : Action) → left_in (outputs a) ≡ [] → has_place (fixed_of (plain at a)) 20 ≡ false
nothing_left at a e = ap (λ l. has_place (l ++ flags_left (flags_of no_flag) (changes a) five_flags) 20) e ∙ no_flags_there (flags_of no_flag) (changes a) five_flags

-- ---- what is written
sum_outputs : (o : BinOp) (z : Size) (b u : Arg) (c : Option Pinned) → IsSumOp o → outputs (action.Alu (alu_of o) z b u c) ≡ (z, b) ∷ []
sum_outputs o.Add z b u c h = refl
sum_outputs o.Sub z b u c h = refl
sum_outputs o.And z b u c h = refl
sum_outputs o.Or z b u c h = refl
sum_outputs o.Xor z b u c h = refl
sum_outputs _ z b u c h = absurd h

carry_outputs : (o : BinOp) (z : Size) (b u : Arg) (c : Option Pinned) → IsCarryOp o → outputs (action.Alu (carry_alu o) z b u c) ≡ (z, b) ∷ []
carry_outputs o.Add z b u c h = refl
carry_outputs o.Sub z b u c h = refl
carry_outputs _ z b u c h = absurd h

module _ (home : Homes) (kinds : List Kind) (are : AreKinds home kinds) where
  -- what is written is a variable for a word
  abbrev pub AreWords : List Output → Type 0
  AreWords os = (v : ℕ) → IsTrue (among (written_in os) v) → (v < length kinds) × (slice_index_or kinds v Word ≡ Word)

  pub one_by : (b : Bool) (n v : ℕ) → nat_eq n v ≡ b → IsTrue (among (n ∷ []) v) → n ≡ v
  one_by true n v e h = eqb-true n v e
  one_by false n v e h = absurd (let k : false ≡ true = sym (rw e refl) ∙ h in cc)

  -- a destination
  pub record IsWritten (z : Size) (b : Arg) : Type 0 where
    pub words : AreWords ((z, b) ∷ [])
    pub left : left_in ((z, b) ∷ []) ≡ []

  pub written : {z : Size} {d : Lval} {b : Arg} {r : Leaks} → IsDest home z d b r → IsWritten z b
  written {z} (to_word x n kind' h) = record {
    words = λ v t. let e = one_by (nat_eq n v) n v refl t in subst (λ m. (m < length kinds) × (slice_index_or kinds m Word ≡ Word)) e (are.words _ n z h);
    left = refl;
  }
  written (to_scalar x w kind' h) = record { words = λ v t. absurd (let k : false ≡ true = t in cc); left = refl }
  written (to_cell x e n w t b i cells is at) = record { words = λ v h. absurd (let k : false ≡ true = h in cc); left = refl }
  written (to_memory a t m size is at) = record { words = λ v h. absurd (let k : false ≡ true = h in cc); left = refl }

  sorted_one : (at : Span) (a : Action) (z : Size) (b : Arg) → outputs a ≡ (z, b) ∷ [] → IsWritten z b → CanEncode a → IsSorted kinds (plain at a)
  sorted_one at a z b e w can = record {
    words = subst AreWords (sym e) w.words;
    stack = nothing_left at a (ap left_in e ∙ w.left);
    one = accessed_once a can;
  }

  -- ---- all operations of a row
  abbrev pub AllSorted : List Operation → Type 0
  AllSorted [] = ⊤
  AllSorted (o ∷ os) = IsSorted kinds o × AllSorted os

  last_sorted : (at : Span) (a : Action) (z : Size) (b : Arg) → outputs a ≡ (z, b) ∷ [] → IsWritten z b → All CanEncode (a ∷ []) → AllSorted (lasting at no_flag (a ∷ []))
  last_sorted at a z b e w once = (sorted_one at a z b e w (All-head CanEncode a [] once), tt)

  two_sorted : (at : Span) (a c : Action) (z : Size) (b : Arg) → outputs a ≡ (z, b) ∷ [] → outputs c ≡ (z, b) ∷ [] → IsWritten z b → All CanEncode (a ∷ c ∷ []) → AllSorted (lasting at no_flag (a ∷ c ∷ []))
  two_sorted at a c z b e f w once = (sorted_one at a z b e w (All-head CanEncode a (c ∷ []) once), last_sorted at c z b f w (All-tail CanEncode a (c ∷ []) once))

  way_sorted : (s1 s2 s3 : Bool) (f : Arg → Action) (at : Span) (z : Size) (b x y : Arg) (acts : List Action) → ((u : Arg) → outputs (f u) ≡ (z, b) ∷ []) → IsWritten z b
      → behind f (if s1 then Some ([], y) else if s2 then Some ([], x) else if s3 then Some (action.Mov z b x ∷ [], y) else None) ≡ Some acts → All CanEncode acts → AllSorted (lasting at no_flag acts)
  way_sorted true s2 s3 f at z b x y acts o w e = subst (λ l. All CanEncode l → AllSorted (lasting at no_flag l)) (same_some _ acts e) (λ once. last_sorted at (f y) z b (o y) w once)
  way_sorted false true s3 f at z b x y acts o w e = subst (λ l. All CanEncode l → AllSorted (lasting at no_flag l)) (same_some _ acts e) (λ once. last_sorted at (f x) z b (o x) w once)
  way_sorted false false true f at z b x y acts o w e = subst (λ l. All CanEncode l → AllSorted (lasting at no_flag l)) (same_some _ acts e) (λ once. two_sorted at (action.Mov z b x) (f y) z b refl (o y) w once)
  way_sorted false false false f at z b x y acts o w e = absurd cc

  brought_sorted : (swaps : Bool) (f : Arg → Action) (at : Span) (z : Size) (b x y : Arg) (acts : List Action) → ((u : Arg) → outputs (f u) ≡ (z, b) ∷ []) → IsWritten z b → behind f (brought swaps z b x y) ≡ Some acts → All CanEncode acts → AllSorted (lasting at no_flag acts)
  brought_sorted swaps f at z b x y acts o w e once = way_sorted (same_arg b x) (swaps && same_arg b y) (is_free b y) f at z b x y acts o w e once

  pub row_sorted : {z : Size} {d : Lval} {e : Expr} {acts : List Action} {items : List Numbers} (at : Span) → HasRow home z d e acts items → All CanEncode acts → AllSorted (lasting at no_flag acts)
  row_sorted {z} at (moves {x = x} {b = b} ia id) once = last_sorted at (action.Mov z b x) z b refl (written id) once
  row_sorted {z} at (sums {o} {x = x} {y = y} {b = b} {acts = acts} there h ia ic id nn e) once = brought_sorted (commutes o) (λ u. action.Alu (alu_of o) z b u None) at z b x y acts (λ u. sum_outputs o z b u None h) (written id) e once
  row_sorted {z} at (carries {o} {x = x} {y = y} {b = b} {acts = acts} f c inner there h ia ic id nn isf span e) once = brought_sorted (commutes o) (λ u. action.Alu (carry_alu o) z b u (Some c)) at z b x y acts (λ u. carry_outputs o z b u (Some c) h) (written id) e once
  row_sorted {z} at (signs {o} {x = x} {b = b} {acts = acts} sign ia id ni e) once = brought_sorted false (λ u. action.One o z b) at z b x nothing acts (λ u. refl) (written id) e once
  row_sorted {z} at (times {x = x} {y = y} {m = m} {acts = acts} there wide ia ic id ni e) once = brought_sorted (not (is_imm x)) (action.Imul z m) at z (arg.Var m) x y acts (λ u. refl) (written id) e once
  row_sorted {z} at (times_by {x = x} {i = i} {m = m} there wide ia ic id ni) once = last_sorted at (action.ImulBy z m x i) z (arg.Var m) refl (written id) once
  row_sorted {z} at (shifts {o} {x = x} {b = b} {acts = acts} n there where' h below ia id ni e) once = brought_sorted false (λ u. action.Shift (shift_of o) z b n) at z b x nothing acts (λ u. refl) (written id) e once
  row_sorted {z} at (shifts_by {o} {x = x} {b = b} {acts = acts} v c where' inner there h isv span ia id e) once = brought_sorted false (λ u. action.ShiftBy (shift_of o) z b c) at z b x (arg.Var c.variable) acts (λ u. refl) (written id) e once
  row_sorted {z} at (extends {y = y} {from = from} {m = m} sign there own smaller ia ni id) once = last_sorted at (action.Extend sign z from m y) z (arg.Var m) refl (written id) once
  row_sorted {z} at (lowest {m = m} {n = n} there own le ia id) once = last_sorted at (action.Mov z (arg.Var m) (arg.Var n)) z (arg.Var m) refl (written id) once

  -- ---- comparisons write nothing
  pub compared_sorted : {at : Span} {e : Expr} {o : Operation} {c : Cond} {p q : Leaks} → IsCompared home at e o c p q → IsSorted kinds o
  compared_sorted {at} (compares {z = z} {x = x} {y = y} here is size ia ib ni once) = record {
    words = λ v h. absurd (let k : false ≡ true = h in cc);
    stack = nothing_left at (action.Alu alu.Cmp z x y None) refl;
    one = accessed_once (action.Alu alu.Cmp z x y None) once;
  }
  compared_sorted (denies here h) = compared_sorted h

  pub moved_sorted : (at : Span) (c : Choice) (z : Size) (m : ℕ) (y : Arg) (k : Key) → home k ≡ Some (in_register m z) → IsSorted kinds (plain at (action.Cmov c z m y))
  moved_sorted at c z m y k h = record {
    words = λ v t. let e = one_by (nat_eq m v) m v refl t in subst (λ n. (n < length kinds) × (slice_index_or kinds n Word ≡ Word)) e (are.words k m z h);
    stack = nothing_left at (action.Cmov c z m y) refl;
    one = one_operand z y;
  }

  pub lowers_sorted : (o : statements.Operation) (os : List Operation) (items : List Numbers) → Lowers home o os items → AllSorted os
  lowers_sorted o os items (sets {at = at} whole size row once) = row_sorted at row once
  lowers_sorted o os items (sets_if {x} {y = y} {c = c} {m = m} {at = at} z wide kind' h ie ni cmp can) = (compared_sorted cmp, (moved_sorted at (condition.Cc c) z m y (key_of (ref_of x)) h, tt))

  -- ---- tests
  pub test_sorted : (t : Condition) (a : Asked) (i : Numbers) → LowersTest home t a i → TestSorted kinds a × Asks a
  test_sorted t a i (tests h) = (compared_sorted h, tt)

  pub loop_test_sorted : (t : Condition) (a : Asked) (i : Numbers) → LowersLoopTest home t a i → TestSorted kinds a
  loop_test_sorted t a i (tests_each h) = (test_sorted t a i h).0
  loop_test_sorted t a i (never_false here e) = tt
