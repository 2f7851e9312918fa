-- Register arrays as scalars keep the runs.
use Rattle.std.proofs.Common.{◌≡◌, ℕ, suc, ◌+◌, ◌≤◌, List, [], ◌∷◌, ◌++◌, map, length, Option, Some, Bool, true, false, refl, ap, sym, ◌∙◌, subst, arith, append_assoc, length-append, inl}
use Rattle.std.specs.Prelude.{slice_index, option_map, All, ⊤}
use Rattle.std.proofs.lemmas.List.Elements.{All-nil, All-cons, All-head, All-tail}
use Rattle.jz_tree.specs.Span.{Span}
use Rattle.jz_tree.specs.declared.expr.BinOp.{BinOp}
use Rattle.jz_tree.specs.declared.expr.Expr.{Expr}
use Rattle.jz_tree.specs.Spellings.{spelled}
use Rattle.jz_tree.specs.declared.intrinsic.Instance.{Instance}
use Rattle.jz_tree.specs.declared.stmt.Lval.{Lval}
use Rattle.jz_runs.specs.Rules.{stuck, went}
use Rattle.jz_meaning.specs.declared.value.Stuck.{Stuck}
use Rattle.jz_meaning.specs.Attempts.{Evaluation}
use Rattle.jz_meaning.specs.States.{State}
use Rattle.jz_meaning.specs.Assignments.{bool_in, assigned}
use Rattle.jz_meaning.specs.Intrinsics.{instruction_done}
use Rattle.jz_meaning.specs.Statements.{Operation, Condition, does, source, quiets}
use Rattle.jz_run_laws.specs.Kinds.{Kinds, IsOfKinds, sorts_of}
use Rattle.jz_run_laws.specs.DeclaredKinds.{LeftDeclared}
use Rattle.jz_run_laws.specs.Kept.{IfWent}
use Rattle.jz_run_laws.proofs.Stores.{kinds_sorted}
use Rattle.jz_run_laws.proofs.RightSides.{assigned_keeps}
use Rattle.jz_run_laws.proofs.Instructions.{instruction_keeps}
use Rattle.jz_run_laws.proofs.Nodes.{marks_keep}
use Rattle.jz_change.specs.declared.change.Number.TheVariants.{Nth}
use Rattle.jz_change.specs.declared.change.Numbers.{Numbers}
use Rattle.jz_change.specs.Changes.{number_in, numbers_in}
use Rattle.jz_change.specs.Fitting.{HasNumber, HasThese}
use Rattle.jz_pass.specs.Operations.{DoAll, do_none, do_one, OneFails, fails_here, TestFails, fails_at_test}
use Rattle.jz_pass.specs.Unrolling.{IsKnown}
use Rattle.jz_pass.specs.Rewriting.{knowing_of}
use Rattle.jz_arrays.specs.Cells.{sort_in, with_scalars, left_with_scalars, Mask, numbers_kept, mask_of, instruction_mask, assign_mask}
use Rattle.jz_arrays.specs.Arrays.{places, numbers_left, IsRead, IsLeft, IsAssign, IsInstruction, ArraysOp, assigns, instructs, ArraysTest, tests, arrays, IsOneState}
use Rattle.jz_arrays.specs.ScalarLaws.{IsThinned}
use Rattle.jz_arrays.proofs.Assigning.{AreLeft, bool_thin, assigned_thin}
use Rattle.jz_arrays.proofs.Instructing.{instruction_thin}
use Rattle.jz_arrays.proofs.Sorted.{written_sorted}

-- ---- the numbers that are left

at_seam : (pre : List ℕ) (n : ℕ) (post : List ℕ) → slice_index (pre ++ n ∷ post) (length pre) ≡ n
at_seam [] n post = refl
at_seam (y ∷ pre) n post = at_seam pre n post

places_so : (m : Mask) (pre ns : List ℕ) (i : ℕ) → i ≡ length pre → length ns ≡ length m → map (number_in (pre ++ ns)) (places i m) ≡ numbers_kept m ns
places_so [] pre [] i q e = refl
places_so [] pre (n ∷ ns) i q e = absurd cc
places_so (b ∷ m) pre [] i q e = absurd cc
places_so (true ∷ m) pre (n ∷ ns) i q e =
    let here : slice_index (pre ++ n ∷ ns) i ≡ n = ap (slice_index (pre ++ n ∷ ns)) q ∙ at_seam pre n ns in
    let more : map (number_in (pre ++ n ∷ ns)) (places (suc i) m) ≡ numbers_kept m ns = subst (λ l. map (number_in l) (places (suc i) m) ≡ numbers_kept m ns) (append_assoc pre (n ∷ []) ns) (places_so m (pre ++ n ∷ []) ns (suc i) (omega (arith, q, length-append pre (n ∷ []))) (omega (arith, e))) in
    ap (λ y. y ∷ map (number_in (pre ++ n ∷ ns)) (places (suc i) m)) here ∙ ap (λ l. n ∷ l) more
places_so (false ∷ m) pre (n ∷ ns) i q e =
    subst (λ l. map (number_in l) (places (suc i) m) ≡ numbers_kept m ns) (append_assoc pre (n ∷ []) ns) (places_so m (pre ++ n ∷ []) ns (suc i) (omega (arith, q, length-append pre (n ∷ []))) (omega (arith, e)))

places_there : (m : Mask) (i : ℕ) (all : List ℕ) → i + length m ≤ length all → All (HasNumber all) (places i m)
places_there [] i all le = All-nil (HasNumber all)
places_there (true ∷ m) i all le = All-cons (HasNumber all) (Nth i) (places (suc i) m) (omega (arith, le)) (places_there m (suc i) all (omega (arith, le)))
places_there (false ∷ m) i all le = places_there m (suc i) all (omega (arith, le))

thin_went : {A : Type 0} (m : Mask) (g h : Evaluation A) (ns : List ℕ) (a : A) → IsThinned m g h → g ≡ went ns a → HasThese ns (numbers_left m) × (h ≡ went (numbers_in (numbers_left m) ns) a)
thin_went m g h ns a t q =
    let k : (length ns ≡ length m) × (h ≡ went (numbers_kept m ns) a) = subst (λ y. IsThinned m y h) q t in
    (places_there m 0 ns (omega (arith, k.0)), k.1 ∙ ap (λ l. went l a) (sym (places_so m [] ns 0 refl k.0)))

thin_stuck : {A : Type 0} (m : Mask) (g h : Evaluation A) (w : Stuck) → IsThinned m g h → g ≡ stuck w → h ≡ stuck w
thin_stuck m g h w t q = subst (λ y. IsThinned m y h) q t

-- ---- statements

went_so : {A : Type 0} (P : A → Type 0) (g : Evaluation A) (ns : List ℕ) (a : A) → IfWent P g → g ≡ went ns a → P a
went_so P g ns a h q = subst (IfWent P) q h

module _ (kinds : Kinds) where
  all_left : (to : List Lval) → All (IsLeft kinds) to → AreLeft (sorts_of kinds) to
  all_left [] h = tt
  all_left (d ∷ ds) h =
      let l = All-head (IsLeft kinds) d ds h in
      (record { fixed = l.fixed; keeps = λ z v s t ns held q. written_sorted kinds z d v s t ns l.declared held q }, all_left ds (All-tail (IsLeft kinds) d ds h))

  all_declared : (to : List Lval) → All (IsLeft kinds) to → All (LeftDeclared kinds) to
  all_declared [] h = All-nil (LeftDeclared kinds)
  all_declared (d ∷ ds) h = All-cons (LeftDeclared kinds) d ds (All-head (IsLeft kinds) d ds h).declared (all_declared ds (All-tail (IsLeft kinds) d ds h))

  assign_thin : (to : List Lval) (op : Option BinOp) (e : Expr) (c : Option Expr) (at : Span) (s t : State) → IsAssign kinds to op e c → IsOneState kinds s t
      → IsThinned (assign_mask (sort_in (sorts_of kinds)) to op e c) (assigned to op e c at s) (assigned (map left_with_scalars to) op (with_scalars e) (option_map with_scalars c) at t)
  assign_thin to op e c at s t i r =
      subst (λ y. IsThinned (assign_mask (sort_in (sorts_of kinds)) to op e c) (assigned to op e c at s) (assigned (map left_with_scalars to) op (with_scalars e) (option_map with_scalars c) at y)) r.one
      (assigned_thin (sorts_of kinds) s (kinds_sorted kinds s.store r.held.variables) to op e c at (all_left to i.lefts) i.whole i.condition i.old)

  instructed_thin : (i : Option Instance) (to : List Lval) (args : List Expr) (at : Span) (s t : State) → IsInstruction kinds i to args → IsOneState kinds s t
      → IsThinned (instruction_mask (sort_in (sorts_of kinds)) i to args) (instruction_done i to args at s) (instruction_done i (map left_with_scalars to) (map with_scalars args) at t)
  instructed_thin i to args at s t h r =
      subst (λ y. IsThinned (instruction_mask (sort_in (sorts_of kinds)) i to args) (instruction_done i to args at s) (instruction_done i (map left_with_scalars to) (map with_scalars args) at y)) r.one
      (instruction_thin (sorts_of kinds) s (kinds_sorted kinds s.store r.held.variables) i to args at (all_left to h.lefts) h.operands h.flags)

  pub op_went : (o : Operation) (os : List Operation) (is : List Numbers) (s s1 t : State) (ns : List ℕ) → ArraysOp kinds o os is → IsOneState kinds s t → does o s ≡ went ns s1 → (t1 : State) × DoAll source ns os is t t1 × IsOneState kinds s1 t1
  op_went o os is s s1 t ns (assigns {to} {op} {e} {c} {at} i) r q =
      let m = assign_mask (sort_in (sorts_of kinds)) to op e c in
      let g = thin_went m (assigned to op e c at s) (assigned (map left_with_scalars to) op (with_scalars e) (option_map with_scalars c) at t) ns s1 (assign_thin to op e c at s t i r) q in
      (s1, do_one g.0 g.1 do_none, record { one = refl; held = went_so (IsOfKinds kinds) (assigned to op e c at s) ns s1 (assigned_keeps kinds to op e c at s (all_declared to i.lefts) r.held) q })
  op_went o os is s s1 t ns (instructs {to} {n} {args} {at} i) r q =
      let m = instruction_mask (sort_in (sorts_of kinds)) (spelled n) to args in
      let g = thin_went m (instruction_done (spelled n) to args at s) (instruction_done (spelled n) (map left_with_scalars to) (map with_scalars args) at t) ns s1 (instructed_thin (spelled n) to args at s t i r) q in
      (s1, do_one g.0 g.1 do_none, record { one = refl; held = went_so (IsOfKinds kinds) (instruction_done (spelled n) to args at s) ns s1 (instruction_keeps kinds (spelled n) to args at s (all_declared to i.lefts) r.held) q })

  pub op_stuck : (o : Operation) (os : List Operation) (is : List Numbers) (s t : State) (w : Stuck) → ArraysOp kinds o os is → IsOneState kinds s t → does o s ≡ stuck w → (w2 : Stuck) × (w ≡ w2) × OneFails source w2 os t
  op_stuck o os is s t w (assigns {to} {op} {e} {c} {at} i) r q =
      let m = assign_mask (sort_in (sorts_of kinds)) to op e c in
      (w, refl, fails_here (thin_stuck m (assigned to op e c at s) (assigned (map left_with_scalars to) op (with_scalars e) (option_map with_scalars c) at t) w (assign_thin to op e c at s t i r) q))
  op_stuck o os is s t w (instructs {to} {n} {args} {at} i) r q =
      let m = instruction_mask (sort_in (sorts_of kinds)) (spelled n) to args in
      (w, refl, fails_here (thin_stuck m (instruction_done (spelled n) to args at s) (instruction_done (spelled n) (map left_with_scalars to) (map with_scalars args) at t) w (instructed_thin (spelled n) to args at s t i r) q))

  condition_thin : (p : Condition) (s t : State) → IsOneState kinds s t → IsRead (sorts_of kinds) (Some p.cond) → IsThinned (mask_of (sort_in (sorts_of kinds)) p.cond) (bool_in p.at p.cond s) (bool_in p.at (with_scalars p.cond) t)
  condition_thin p s t r k =
      subst (λ y. IsThinned (mask_of (sort_in (sorts_of kinds)) p.cond) (bool_in p.at p.cond s) (bool_in p.at (with_scalars p.cond) y)) r.one
      (bool_thin (sorts_of kinds) s (kinds_sorted kinds s.store r.held.variables) p.at p.cond k)

  pub test_went : (p : Condition) (os : List Operation) (is : List Numbers) (p2 : Condition) (i : Numbers) (s t : State) (ns : List ℕ) (z : Bool) → ArraysTest kinds p os is p2 i → IsOneState kinds s t → bool_in p.at p.cond s ≡ went ns z
      → (t1 : State) × DoAll source ns os is t t1 × HasThese ns i × (bool_in p2.at p2.cond t1 ≡ went (numbers_in i ns) z) × IsOneState kinds s t1
  test_went p os is p2 i s t ns z (tests k) r q =
      let g = thin_went (mask_of (sort_in (sorts_of kinds)) p.cond) (bool_in p.at p.cond s) (bool_in p.at (with_scalars p.cond) t) ns z (condition_thin p s t r k) q in
      (t, do_none, g.0, g.1, r)

  pub test_stuck : (p : Condition) (os : List Operation) (is : List Numbers) (p2 : Condition) (i : Numbers) (s t : State) (w : Stuck) → ArraysTest kinds p os is p2 i → IsOneState kinds s t → bool_in p.at p.cond s ≡ stuck w → (w2 : Stuck) × (w ≡ w2) × TestFails source w2 os p2 t
  test_stuck p os is p2 i s t w (tests k) r q =
      (w, refl, fails_at_test (thin_stuck (mask_of (sort_in (sorts_of kinds)) p.cond) (bool_in p.at p.cond s) (bool_in p.at (with_scalars p.cond) t) w (condition_thin p s t r k) q))

  abbrev pub arrays_known : IsKnown source source (knowing_of (arrays kinds))
  arrays_known = record {
    Relates = λ e s t. IsOneState kinds s t;
    Fails = λ w w2. w ≡ w2;
    Exact = ⊤;
    settles = λ w w2. inl tt;
    less_so = λ e0 e s t k r. r;
    op_went = λ o e e1 os is s s1 t ns k r q. op_went o os is s s1 t ns k r q;
    op_stuck = λ o e e1 os is s t w x k r q. op_stuck o os is s t w k r q;
    quiet_so = λ o e e1 o2 s t q r. record { one = ap (quiets o) r.one ∙ ap (λ y. quiets y t) q; held = marks_keep kinds o s r.held };
    test_went = λ p e os is p2 i s t ns z k r q. test_went p os is p2 i s t ns z k r q;
    test_stuck = λ p e os is p2 i s t w x k r q. test_stuck p os is p2 i s t w k r q;
    loop_test_went = λ p e os is p2 i s t ns z k r q. test_went p os is p2 i s t ns z k r q;
    loop_test_stuck = λ p e os is p2 i s t w x k r q. test_stuck p os is p2 i s t w k r q;
    constant_so = λ p e z s t k. absurd k;
    values_so = λ f e is s t k. absurd k;
    set_so = λ f i e0 e is s t k r. absurd k;
    restore_so = λ f e e1 is s s1 t t1 k r r1. absurd k;
  }
