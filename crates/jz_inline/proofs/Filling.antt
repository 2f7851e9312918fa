-- The arguments and the mark make in the copy what the callee's variables are as it begins.
use Rattle.std.proofs.Common.{◌≡◌, ℕ, zero, suc, ◌+◌, ◌<◌, List, [], ◌∷◌, ◌++◌, map, length, Some, None, Bool, true, false, refl, ap, sym, ◌∙◌, subst, arith, inl, inr, append-nil, append_assoc, length-append}
use Rattle.std.specs.Prelude.{if◌then◌else◌, ◌⊎◌, nat_lt}
use Rattle.std.proofs.lemmas.Bool.Decides.{nat_tests}
use Rattle.std.specs.Str.{bytes_eq}
use Rattle.jz_tree.specs.Size.{Size}
use Rattle.jz_tree.specs.declared.expr.Expr.{Expr}
use Rattle.jz_tree.specs.declared.expr.Var.{Var}
use Rattle.jz_tree.specs.declared.program.Fun.{Fun}
use Rattle.jz_tree.specs.declared.program.Param.{Param}
use Rattle.jz_tree.specs.declared.stmt.Lval.TheVariants as lval
use Rattle.jz_runs.specs.Rules.{stuck, went}
use Rattle.jz_meaning.specs.declared.access.Kind.{Kind}
use Rattle.jz_meaning.specs.declared.value.Stuck.{Stuck}
use Rattle.jz_meaning.specs.Attempts.{Evaluation, and_then}
use Rattle.jz_meaning.specs.States.{Value, Key, Store, State, same_key, put, empty_store}
use Rattle.jz_meaning.specs.Values.{size_of, Ref, key_of, cell_key, ref_of}
use Rattle.jz_meaning.specs.Assignments.{held, with_value}
use Rattle.jz_meaning.specs.Shapes.{words, sort_of, HoldsSorts}
use Rattle.jz_meaning.specs.Statements.{unset, Call, no_cells, without, all_unset, does, quiets, copied, array_passed, passed, all_passed, enters, source}
use Rattle.jz_meaning.specs.declared.access.Kind.TheVariants as kind
use Rattle.jz_change.specs.Changes.{number_in, numbers_in}
use Rattle.jz_change.specs.declared.change.Numbers.TheVariants.{These}
use Rattle.jz_change.specs.Fitting.{HasThese}
use Rattle.jz_pass.specs.Operations.{DoAll, do_none, do_one, OneFails, fails_here, fails_later}
use Rattle.jz_bodies.specs.Scopes.{Scope, a_scalar, Has, Sets, Reads}
use Rattle.jz_bodies.specs.Calls.{is_array, IsLent, lent_here, lent_later, PlaceOf, itself, its_cell, OneHas, AreApart, params_of, vars_of, IsArgument, of_array, of_value, AreArguments, IsCall}
use Rattle.jz_inline.specs.Names.{Names, var_in, expr_in}
use Rattle.jz_inline.proofs.Copies.{ScopeCopy, key_in, ref_in, Agrees, IsBelow, Stands, Within, callee_copy}
use Rattle.jz_inline.specs.Calls.{callee_names, set_one, call_place, argument_ops, from, argument_items}
use Rattle.jz_inline.specs.Widths.{width}
use Rattle.jz_inline.proofs.Widths.{same_width}
use Rattle.jz_inline.proofs.Reading.{ref_so, value_so}
use Rattle.jz_inline.proofs.Writing.{same_key-true}
use Rattle.jz_inline.proofs.Naming.{same_key-refl, own_copy, place, lent_at, lent_fact, sets_has, lent_has, callee_below, new_has, new_right, bytes_same, Own, Lent}
use Rattle.jz_inline.proofs.Entering.{none_first, first_stuck, then_went, then_stuck, value_for, set_var, passed_value, value_width, value_sort, from_so, from_within}

-- ---- cells that are copied, and what is unset

pub copied_at : (n : ℕ) (to from : Ref) (source store : Store) (k : Key) → ((i : ℕ) × (i < n) × (k ≡ cell_key to i) × (copied n to from source store k ≡ source (cell_key from i))) ⊎ (((i : ℕ) → i < n → k ≡ cell_key to i → ⊥) × (copied n to from source store k ≡ store k))
copied_at zero to from source store k = inr (λ i lt e. omega (arith, lt), refl)
copied_at (suc n) to from source store k = by_test (same_key (cell_key to n) k) refl (copied_at n to from source store k)
  where
    by_test : (b : Bool) → same_key (cell_key to n) k ≡ b → ((i : ℕ) × (i < n) × (k ≡ cell_key to i) × (copied n to from source store k ≡ source (cell_key from i))) ⊎ (((i : ℕ) → i < n → k ≡ cell_key to i → ⊥) × (copied n to from source store k ≡ store k)) →
        ((i : ℕ) × (i < suc n) × (k ≡ cell_key to i) × (copied (suc n) to from source store k ≡ source (cell_key from i))) ⊎ (((i : ℕ) → i < suc n → k ≡ cell_key to i → ⊥) × (copied (suc n) to from source store k ≡ store k))
    by_test true q r = inl (n, omega arith, sym (same_key-true (cell_key to n) k q), ap (λ b. if b then source (cell_key from n) else copied n to from source store k) q)
    by_test false q (inl (i, lt, e, v)) = inl (i, omega (arith, lt), e, ap (λ b. if b then source (cell_key from n) else copied n to from source store k) q ∙ v)
    by_test false q (inr (h, v)) = inr (other, ap (λ b. if b then source (cell_key from n) else copied n to from source store k) q ∙ v)
      where
        other : (i : ℕ) → i < suc n → k ≡ cell_key to i → ⊥
        other i lt e = at_last (nat_lt i n) refl
          where
            at_last : (b : Bool) → nat_lt i n ≡ b → ⊥
            at_last true p = h i (grind (arith, nat_tests, p)) e
            at_last false p =
                let same : i ≡ n = grind (arith, nat_tests, p, lt) in
                let t : same_key (cell_key to n) k ≡ true = ap (λ j. same_key (cell_key to j) k) (sym same) ∙ ap (same_key (cell_key to i)) e ∙ same_key-refl (cell_key to i) in
                absurd cc

pub no_cells_at : (n : ℕ) (x : Ref) (store : Store) (k : Key) → ((i : ℕ) × (i < n) × (k ≡ cell_key x i) × (no_cells n x store k ≡ None)) ⊎ (((i : ℕ) → i < n → k ≡ cell_key x i → ⊥) × (no_cells n x store k ≡ store k))
no_cells_at zero x store k = inr (λ i lt e. omega (arith, lt), refl)
no_cells_at (suc n) x store k = by_test (same_key (cell_key x n) k) refl (no_cells_at n x store k)
  where
    by_test : (b : Bool) → same_key (cell_key x n) k ≡ b → ((i : ℕ) × (i < n) × (k ≡ cell_key x i) × (no_cells n x store k ≡ None)) ⊎ (((i : ℕ) → i < n → k ≡ cell_key x i → ⊥) × (no_cells n x store k ≡ store k)) →
        ((i : ℕ) × (i < suc n) × (k ≡ cell_key x i) × (no_cells (suc n) x store k ≡ None)) ⊎ (((i : ℕ) → i < suc n → k ≡ cell_key x i → ⊥) × (no_cells (suc n) x store k ≡ store k))
    by_test true q r = inl (n, omega arith, sym (same_key-true (cell_key x n) k q), ap (λ b. if b then None else no_cells n x store k) q)
    by_test false q (inl (i, lt, e, v)) = inl (i, omega (arith, lt), e, ap (λ b. if b then None else no_cells n x store k) q ∙ v)
    by_test false q (inr (h, v)) = inr (other, ap (λ b. if b then None else no_cells n x store k) q ∙ v)
      where
        other : (i : ℕ) → i < suc n → k ≡ cell_key x i → ⊥
        other i lt e = at_last (nat_lt i n) refl
          where
            at_last : (b : Bool) → nat_lt i n ≡ b → ⊥
            at_last true p = h i (grind (arith, nat_tests, p)) e
            at_last false p =
                let same : i ≡ n = grind (arith, nat_tests, p, lt) in
                let t : same_key (cell_key x n) k ≡ true = ap (λ j. same_key (cell_key x j) k) (sym same) ∙ ap (same_key (cell_key x i)) e ∙ same_key-refl (cell_key x i) in
                absurd cc

without_at : (r : Ref) (store : Store) (k : Key) → (PlaceOf r k × (without r.kind r store k ≡ None)) ⊎ ((PlaceOf r k → ⊥) × (without r.kind r store k ≡ store k))
without_at r store k = by_kind r.kind refl
  where
    of_scalar : is_array r.kind ≡ false → (PlaceOf r k × (put store (key_of r) None k ≡ None)) ⊎ ((PlaceOf r k → ⊥) × (put store (key_of r) None k ≡ store k))
    of_scalar f = by_test (same_key (key_of r) k) refl
      where
        by_test : (b : Bool) → same_key (key_of r) k ≡ b → (PlaceOf r k × (put store (key_of r) None k ≡ None)) ⊎ ((PlaceOf r k → ⊥) × (put store (key_of r) None k ≡ store k))
        by_test true q = inl (itself f (sym (same_key-true (key_of r) k q)), ap (λ b. if b then None else store k) q)
        by_test false q = inr (not_place, ap (λ b. if b then None else store k) q)
          where
            not_place : PlaceOf r k → ⊥
            not_place (itself f2 e) = let t : same_key (key_of r) k ≡ true = ap (same_key (key_of r)) e ∙ same_key-refl (key_of r) in absurd cc
            not_place (its_cell z n i e lt w) = let t : is_array r.kind ≡ true = ap is_array e in absurd cc

    by_kind : (kd : Kind) → r.kind ≡ kd → (PlaceOf r k × (without kd r store k ≡ None)) ⊎ ((PlaceOf r k → ⊥) × (without kd r store k ≡ store k))
    by_kind kind.Undeclared q = of_scalar (ap is_array q)
    by_kind kind.Int q = of_scalar (ap is_array q)
    by_kind kind.Bool q = of_scalar (ap is_array q)
    by_kind (kind.Word z) q = of_scalar (ap is_array q)
    by_kind (kind.Array z n) q = of_cells (no_cells_at n r store k)
      where
        not_place : ((i : ℕ) → i < n → k ≡ cell_key r i → ⊥) → PlaceOf r k → ⊥
        not_place h (itself f w) = let t : is_array r.kind ≡ true = ap is_array q in absurd cc
        not_place h (its_cell z2 n2 i e lt w) = let same : n2 ≡ n = cc in h i (subst (λ m. i < m) same lt) w

        of_cells : ((i : ℕ) × (i < n) × (k ≡ cell_key r i) × (no_cells n r store k ≡ None)) ⊎ (((i : ℕ) → i < n → k ≡ cell_key r i → ⊥) × (no_cells n r store k ≡ store k)) → (PlaceOf r k × (no_cells n r store k ≡ None)) ⊎ ((PlaceOf r k → ⊥) × (no_cells n r store k ≡ store k))
        of_cells (inl (i, lt, e, v)) = inl (its_cell z n i q lt e, v)
        of_cells (inr (h, v)) = inr (not_place h, v)

-- the mark unsets these variables with their cells, and nothing else
pub unset_at : (vs : List Var) (store : Store) (k : Key) → (OneHas (vars_of vs) k × (all_unset vs store k ≡ None)) ⊎ ((OneHas (vars_of vs) k → ⊥) × (all_unset vs store k ≡ store k))
unset_at [] store k = inr (λ h. h, refl)
unset_at (v ∷ vs) store k = by_rest (unset_at vs (without (ref_of v).kind (ref_of v) store) k) (without_at (ref_of v) store k)
  where
    after : Store
    after = without (ref_of v).kind (ref_of v) store

    neither : (PlaceOf (ref_of v) k → ⊥) → (OneHas (vars_of vs) k → ⊥) → OneHas (vars_of (v ∷ vs)) k → ⊥
    neither a b (inl p) = a p
    neither a b (inr o) = b o

    by_rest : (OneHas (vars_of vs) k × (all_unset vs after k ≡ None)) ⊎ ((OneHas (vars_of vs) k → ⊥) × (all_unset vs after k ≡ after k)) → (PlaceOf (ref_of v) k × (after k ≡ None)) ⊎ ((PlaceOf (ref_of v) k → ⊥) × (after k ≡ store k)) →
        (OneHas (vars_of (v ∷ vs)) k × (all_unset vs after k ≡ None)) ⊎ ((OneHas (vars_of (v ∷ vs)) k → ⊥) × (all_unset vs after k ≡ store k))
    by_rest (inl (o, e)) w = inl (inr o, e)
    by_rest (inr (h, e)) (inl (p, f)) = inl (inl p, e ∙ f)
    by_rest (inr (h, e)) (inr (n, f)) = inr (neither n h, e ∙ f)

-- ---- the arguments

module _ (scopes : Fun → Scope) (x : ScopeCopy) (c : ℕ) (q : Call) (below : IsBelow x c) (is : IsCall x.scope (scopes q.callee) q) (s t0 : State) (st : Stands x s t0) where
  abbrev G : Scope
  G = scopes q.callee

  abbrev In : Names
  In = callee_names x.names c q.callee.params q.args

  -- the callee's variables that are set so far, D, are so in the copy
  pub record Filled (D : Key → Type 0) (store : Store) (t : State) : Type 0 where
    pub same : (k : Key) → Has G k → D k → t.store (key_in In k) ≡ store k
    pub none : (k : Key) → (D k → ⊥) → store k ≡ None
    pub kept : (k : Key) → k.copy < c → t.store k ≡ t0.store k
    pub within : Within (callee_copy scopes x c q) (suc c) t0 t
    pub memory : t.memory ≡ t0.memory
    pub sorted : HoldsSorts G.sorts store

  agrees_still : {D : Key → Type 0} {store : Store} {t : State} → Filled D store t → Agrees x s t
  agrees_still f = record { store = λ k h. f.kept (key_in x.names k) (below.below k h) ∙ st.agrees.store k h; memory = f.memory ∙ st.agrees.memory }

  abbrev More : (Key → Type 0) → Ref → Key → Type 0
  More D r k = D k ⊎ PlaceOf r k

  apart_in : (k k2 : Key) → Sets G k → Has G k2 → same_key (key_in In k) (key_in In k2) ≡ same_key k k2
  apart_in = (callee_below scopes x c q below is).apart

  -- a parameter that is no array
  filled_value : {D : Key → Type 0} {store : Store} {t : State} (r : Ref) (h : Value) → Filled D store t → is_array r.kind ≡ false → r.cell ≡ None → G.sets_scalar r ≡ true → sort_of h ≡ G.sorts r.name r.copy → Filled (More D r) (put store (key_of r) (Some h)) (with_value t (key_in In (key_of r)) (Some h))
  filled_value {D} {store} {t} r h f na nc sets sort = record { same = same2; none = none2; kept = kept2; within = within2; memory = f.memory; sorted = sorted2 }
    where
      K : Key
      K = key_of r

      sk : Sets G K
      sk = a_scalar r sets

      copy : (key_in In K).copy ≡ c
      copy = by_place (place scopes x c q below is K (sets_has G is.scope K sk))
        where
          by_place : Own scopes x c q below is K ⊎ Lent q.callee.params q.args K → (key_in In K).copy ≡ c
          by_place (inl o) = own_copy scopes x c q below is K o
          by_place (inr (p, y, z, n, i, l, e, lt, same)) = let d : Some i ≡ r.cell = ap (λ (b : Key). b.cell) (sym same) in absurd cc

      same2 : (k : Key) → Has G k → More D r k → put t.store (key_in In K) (Some h) (key_in In k) ≡ put store K (Some h) k
      same2 k hk m = ap (λ b. if b then Some h else t.store (key_in In k)) (apart_in K k sk hk) ∙ by_test (same_key K k) refl m
        where
          by_test : (b : Bool) → same_key K k ≡ b → More D r k → (if same_key K k then Some h else t.store (key_in In k)) ≡ (if same_key K k then Some h else store k)
          by_test true e m = rw e
          by_test false e (inl d) = ap (λ v. if same_key K k then Some h else v) (f.same k hk d)
          by_test false e (inr (itself a w)) = let z : same_key K k ≡ true = ap (same_key K) w ∙ same_key-refl K in absurd cc
          by_test false e (inr (its_cell z n i a lt w)) = let b : is_array r.kind ≡ true = ap is_array a in absurd cc

      none2 : (k : Key) → (More D r k → ⊥) → put store K (Some h) k ≡ None
      none2 k m = by_test (same_key K k) refl
        where
          by_test : (b : Bool) → same_key K k ≡ b → put store K (Some h) k ≡ None
          by_test true e = absurd (m (inr (itself na (sym (same_key-true K k e)))))
          by_test false e = ap (λ b. if b then Some h else store k) e ∙ f.none k (λ d. m (inl d))

      off : (k : Key) → (key_in In K ≡ k → ⊥) → put t.store (key_in In K) (Some h) k ≡ t.store k
      off k n = by_test (same_key (key_in In K) k) refl
        where
          by_test : (b : Bool) → same_key (key_in In K) k ≡ b → put t.store (key_in In K) (Some h) k ≡ t.store k
          by_test true e = absurd (n (same_key-true (key_in In K) k e))
          by_test false e = ap (λ b. if b then Some h else t.store k) e

      kept2 : (k : Key) → k.copy < c → put t.store (key_in In K) (Some h) k ≡ t0.store k
      kept2 k lt = off k (λ e. omega (arith, ap (λ (b : Key). b.copy) e, copy, lt)) ∙ f.kept k lt

      within2 : Within (callee_copy scopes x c q) (suc c) t0 (with_value t (key_in In K) (Some h))
      within2 k lt out = off k (λ e. out K sk e) ∙ f.within k lt out

      sorted2 : HoldsSorts G.sorts (put store K (Some h))
      sorted2 k u e = by_test (same_key K k) refl
        where
          by_test : (b : Bool) → same_key K k ≡ b → sort_of u ≡ G.sorts k.name k.copy
          by_test true d = let v : Some h ≡ Some u = ap (λ b. if b then Some h else store k) (sym d) ∙ e in let w : h ≡ u = cc in ap sort_of (sym w) ∙ sort ∙ ap (λ (b : Key). G.sorts b.name b.copy) (same_key-true K k d)
          by_test false d = f.sorted k u (ap (λ b. if b then Some h else store k) (sym d) ∙ e)

  -- a parameter that is an array
  filled_array : {D : Key → Type 0} {store : Store} {t : State} (r y : Ref) (z : Size) (n : ℕ) → Filled D store t → IsLent q.callee.params q.args r y → r.kind ≡ kind.Array z n → Filled (More D r) (copied n r y s.store store) t
  filled_array {D} {store} {t} r y z n f l kd = record { same = same2; none = none2; kept = f.kept; within = f.within; memory = f.memory; sorted = sorted2 }
    where
      fact : (y.kind ≡ kind.Array z n) × (x.scope.has_array y ≡ true) × (x.scope.sorts y.name y.copy ≡ words) × (G.sorts r.name r.copy ≡ words)
      fact = lent_fact x.scope G q.callee.params q.args r y z n is.arguments l kd

      same2 : (k : Key) → Has G k → More D r k → t.store (key_in In k) ≡ copied n r y s.store store k
      same2 k hk m = by_copied (copied_at n r y s.store store k) m
        where
          by_copied : ((i : ℕ) × (i < n) × (k ≡ cell_key r i) × (copied n r y s.store store k ≡ s.store (cell_key y i))) ⊎ (((i : ℕ) → i < n → k ≡ cell_key r i → ⊥) × (copied n r y s.store store k ≡ store k)) → More D r k → t.store (key_in In k) ≡ copied n r y s.store store k
          by_copied (inl (i, lt, e, v)) m =
              let has = lent_has scopes x c q below is r y z n i l kd lt in
              ap (λ b. t.store (key_in In b)) e ∙ ap t.store (lent_at scopes x c q below is r y i l) ∙ f.kept (key_in x.names (cell_key y i)) (below.below (cell_key y i) has) ∙ st.agrees.store (cell_key y i) has ∙ sym v
          by_copied (inr (h, v)) (inl d) = f.same k hk d ∙ sym v
          by_copied (inr (h, v)) (inr (itself a w)) = let b : is_array r.kind ≡ true = ap is_array kd in absurd cc
          by_copied (inr (h, v)) (inr (its_cell z2 n2 i e lt w)) = let same : n2 ≡ n = cc in absurd (h i (subst (λ j. i < j) same lt) w)

      none2 : (k : Key) → (More D r k → ⊥) → copied n r y s.store store k ≡ None
      none2 k m = by_copied (copied_at n r y s.store store k)
        where
          by_copied : ((i : ℕ) × (i < n) × (k ≡ cell_key r i) × (copied n r y s.store store k ≡ s.store (cell_key y i))) ⊎ (((i : ℕ) → i < n → k ≡ cell_key r i → ⊥) × (copied n r y s.store store k ≡ store k)) → copied n r y s.store store k ≡ None
          by_copied (inl (i, lt, e, v)) = absurd (m (inr (its_cell z n i kd lt e)))
          by_copied (inr (h, v)) = v ∙ f.none k (λ d. m (inl d))

      sorted2 : HoldsSorts G.sorts (copied n r y s.store store)
      sorted2 k u e = by_copied (copied_at n r y s.store store k)
        where
          by_copied : ((i : ℕ) × (i < n) × (k ≡ cell_key r i) × (copied n r y s.store store k ≡ s.store (cell_key y i))) ⊎ (((i : ℕ) → i < n → k ≡ cell_key r i → ⊥) × (copied n r y s.store store k ≡ store k)) → sort_of u ≡ G.sorts k.name k.copy
          by_copied (inl (i, lt, d, v)) = st.sorted (cell_key y i) u (sym v ∙ e) ∙ fact.2 ∙ sym fact.3 ∙ ap (λ (b : Key). G.sorts b.name b.copy) (sym d)
          by_copied (inr (h, v)) = f.sorted k u (sym v ∙ e)

  -- so far and with all these
  abbrev pub Done : (Key → Type 0) → List Ref → Key → Type 0
  Done D [] k = D k
  Done D (r ∷ rs) k = Done (More D r) rs k

  pub record Passed (D : Key → Type 0) (ps : List Param) (es : List Expr) (all : List ℕ) (i : ℕ) (t : State) (end : Store) : Type 0 where
    pub to : State
    pub go : DoAll source all (argument_ops x.names In (call_place q.to q.at) ps es) (argument_items i ps es) t to
    pub filled : Filled (Done D (params_of ps)) end to

  abbrev Lends : List Param → List Expr → Type 0
  Lends ps es = (r y : Ref) → IsLent ps es r y → IsLent q.callee.params q.args r y

  -- a copy of an argument that is no array
  op_is : (p : Param) (e : Expr) (t : State) → Agrees x s t → is_array (ref_of p.var).kind ≡ false → Reads x.scope e → does (set_one (lval.Var (var_in In p.var)) (expr_in x.names e) (call_place q.to q.at)) t ≡ and_then (value_for (ref_of p.var) e s) (λ h. went [] (with_value t (key_in In (key_of (ref_of p.var))) (Some h)))
  op_is p e t a na rd =
      let r = ref_so In p.var in
      set_var (var_in In p.var) (expr_in x.names e) (call_place q.to q.at) t (ap (λ (v : Ref). is_array v.kind) r ∙ na)
      ∙ ap (λ (v : Ref). and_then (value_for v (expr_in x.names e) t) (λ h. went [] (with_value t (key_of v) (Some h)))) r
      ∙ ap (λ y. and_then (and_then y (held (ref_of p.var).span (ref_of p.var).kind)) (λ h. went [] (with_value t (key_in In (key_of (ref_of p.var))) (Some h)))) (value_so x s t a e rd (size_of (ref_of p.var).kind))

  pub passes : {D : Key → Type 0} (ps : List Param) (es : List Expr) → AreArguments x.scope G ps es → Lends ps es → (store end : Store) (t : State) (ns all pre post : List ℕ) (i : ℕ) → Filled D store t → all_passed q.at ps es s store ≡ went ns end → all ≡ pre ++ (ns ++ post) → i ≡ length pre → Passed D ps es all i t end
  passes {D} [] [] a l store end t ns all pre post i f e q1 q2 = let same : store ≡ end = cc in record { to = t; go = do_none; filled = subst (λ v. Filled D v t) same f }
  passes [] (e ∷ es) a l store end t ns all pre post i f e1 q1 q2 = elim a [ ]
  passes (p ∷ ps) [] a l store end t ns all pre post i f e q1 q2 = elim a [ ]
  passes {D} (p ∷ ps) (e ∷ es) a l store end t ns all pre post i f e1 q1 q2 =
      by_argument (λ store2 t2 ns2 pre2 i2 f2 e2 qa qb. passes {D = More D (ref_of p.var)} ps es a.1 (λ r2 y2 l2. l r2 y2 (lent_later l2)) store2 end t2 ns2 all pre2 post i2 f2 e2 qa qb) a.0
    where
      r : Ref
      r = ref_of p.var

      by_argument : ((store2 : Store) (t2 : State) (ns2 pre2 : List ℕ) (i2 : ℕ) → Filled (More D (ref_of p.var)) store2 t2 → all_passed q.at ps es s store2 ≡ went ns2 end → all ≡ pre2 ++ (ns2 ++ post) → i2 ≡ length pre2 → Passed (More D (ref_of p.var)) ps es all i2 t2 end) → IsArgument x.scope G r e → Passed D (p ∷ ps) (e ∷ es) all i t end
      by_argument next (of_array {y} {z} {n} kd ao yk ha s1 s2 hr) =
          let ia : is_array r.kind ≡ true = ap is_array kd in
          let lent = l r y (lent_here ia ao) in
          let one : passed q.at r.kind r e s store ≡ went [] (copied n r y s.store store) = ap (λ k. passed q.at k r e s store) kd ∙ ap (λ o. array_passed q.at n r o s.store store) ao in
          let two : all_passed q.at ps es s (copied n r y s.store store) ≡ went ns end = sym (none_first _) ∙ ap (λ v. and_then v (all_passed q.at ps es s)) (sym one) ∙ e1 in
          let m = next (copied n r y s.store store) t ns pre i (filled_array r y z n f lent kd) two q1 q2 in
          record {
            to = m.to;
            go = subst (λ b. DoAll source all (if b then argument_ops x.names In (call_place q.to q.at) ps es else (set_one (lval.Var (var_in In p.var)) (expr_in x.names e) (call_place q.to q.at) ∷ argument_ops x.names In (call_place q.to q.at) ps es)) (if b then argument_items i ps es else (These (from i (width e)) ∷ argument_items (i + width e) ps es)) t m.to) (sym ia) m.go;
            filled = m.filled;
          }
      by_argument next (of_value na nc rd fixed sets sort) =
          let cut = then_went (passed q.at r.kind r e s store) (all_passed q.at ps es s) ns end e1 in
          let v = then_went (value_for r e s) (λ h. went [] (put store (key_of r) (Some h))) cut.0 cut.1 (sym (passed_value q.at r e s store na) ∙ cut.3) in
          let h : Value = v.1 in
          let st2 : cut.1 ≡ put store (key_of r) (Some h) = (let z = v.4 in cc) in
          let none : v.2 ≡ [] = (let z = v.4 in cc) in
          let w : length v.0 ≡ width e = value_width x.scope.sorts r e s v.0 h st.sorted fixed v.3 ∙ sym (same_width x.scope below.scope e rd) in
          let t2 : State = with_value t (key_in In (key_of r)) (Some h) in
          let nums : cut.0 ≡ v.0 = v.5 ∙ ap (λ b. v.0 ++ b) none ∙ append-nil v.0 in
          let q3 : all ≡ pre ++ (v.0 ++ (cut.2 ++ post)) = q1 ∙ ap (λ b. pre ++ (b ++ post)) (cut.5 ∙ ap (λ b. b ++ cut.2) nums) ∙ ap (λ b. pre ++ b) (append_assoc v.0 cut.2 post) in
          let here : numbers_in (These (from i (width e))) all ≡ v.0 = subst (λ b. map (number_in all) (from i b) ≡ v.0) w (from_so i all pre v.0 (cut.2 ++ post) q2 q3) in
          let done1 : does (set_one (lval.Var (var_in In p.var)) (expr_in x.names e) (call_place q.to q.at)) t ≡ went (numbers_in (These (from i (width e))) all) t2
          = op_is p e t (agrees_still f) na rd ∙ ap (λ b. and_then b (λ h. went [] (with_value t (key_in In (key_of r)) (Some h)))) v.3 ∙ ap (λ b. went b t2) (append-nil v.0 ∙ sym here) in
          let there : HasThese all (These (from i (width e))) = from_within all i (width e) (omega (arith, q2, w, ap length q3, length-append pre (v.0 ++ (cut.2 ++ post)), length-append v.0 (cut.2 ++ post))) in
          let f2 = filled_value r h f na nc sets (value_sort r e s v.0 h (G.sorts r.name r.copy) sort v.3) in
          let m = next (put store (key_of r) (Some h)) t2 cut.2 (pre ++ v.0) (i + width e) f2 (ap (all_passed q.at ps es s) (sym st2) ∙ cut.4) (q3 ∙ sym (append_assoc pre v.0 (cut.2 ++ post))) (omega (arith, q2, w, length-append pre v.0)) in
          record {
            to = m.to;
            go = subst (λ b. DoAll source all (if b then argument_ops x.names In (call_place q.to q.at) ps es else (set_one (lval.Var (var_in In p.var)) (expr_in x.names e) (call_place q.to q.at) ∷ argument_ops x.names In (call_place q.to q.at) ps es)) (if b then argument_items i ps es else (These (from i (width e)) ∷ argument_items (i + width e) ps es)) t m.to) (sym na) (do_one there done1 m.go);
            filled = m.filled;
          }

  -- an argument that is stuck
  pub passes_not : {D : Key → Type 0} (ps : List Param) (es : List Expr) → AreArguments x.scope G ps es → Lends ps es → (store : Store) (t : State) (w : Stuck) → Filled D store t → all_passed q.at ps es s store ≡ stuck w → OneFails source w (argument_ops x.names In (call_place q.to q.at) ps es) t
  passes_not [] [] a l store t w f e = absurd cc
  passes_not [] (e ∷ es) a l store t w f e1 = elim a [ ]
  passes_not (p ∷ ps) [] a l store t w f e = elim a [ ]
  passes_not {D} (p ∷ ps) (e ∷ es) a l store t w f e1 = by_argument (λ store2 t2 f2 e2. passes_not {D = More D (ref_of p.var)} ps es a.1 (λ r2 y2 l2. l r2 y2 (lent_later l2)) store2 t2 w f2 e2) a.0
    where
      r : Ref
      r = ref_of p.var

      by_argument : ((store2 : Store) (t2 : State) → Filled (More D (ref_of p.var)) store2 t2 → all_passed q.at ps es s store2 ≡ stuck w → OneFails source w (argument_ops x.names In (call_place q.to q.at) ps es) t2) → IsArgument x.scope G r e → OneFails source w (argument_ops x.names In (call_place q.to q.at) (p ∷ ps) (e ∷ es)) t
      by_argument next (of_array {y} {z} {n} kd ao yk ha s1 s2 hr) =
          let ia : is_array r.kind ≡ true = ap is_array kd in
          let lent = l r y (lent_here ia ao) in
          let one : passed q.at r.kind r e s store ≡ went [] (copied n r y s.store store) = ap (λ k. passed q.at k r e s store) kd ∙ ap (λ o. array_passed q.at n r o s.store store) ao in
          let two : all_passed q.at ps es s (copied n r y s.store store) ≡ stuck w = sym (none_first _) ∙ ap (λ v. and_then v (all_passed q.at ps es s)) (sym one) ∙ e1 in
          let m = next (copied n r y s.store store) t (filled_array r y z n f lent kd) two in
          subst (λ b. OneFails source w (if b then argument_ops x.names In (call_place q.to q.at) ps es else (set_one (lval.Var (var_in In p.var)) (expr_in x.names e) (call_place q.to q.at) ∷ argument_ops x.names In (call_place q.to q.at) ps es)) t) (sym ia) m
      by_argument next (of_value na nc rd fixed sets sort) =
          subst (λ b. OneFails source w (if b then argument_ops x.names In (call_place q.to q.at) ps es else (set_one (lval.Var (var_in In p.var)) (expr_in x.names e) (call_place q.to q.at) ∷ argument_ops x.names In (call_place q.to q.at) ps es)) t) (sym na)
          (by_value (value_for r e s) refl)
        where
          start : does (set_one (lval.Var (var_in In p.var)) (expr_in x.names e) (call_place q.to q.at)) t ≡ and_then (value_for r e s) (λ h. went [] (with_value t (key_in In (key_of r)) (Some h)))
          start = op_is p e t (agrees_still f) na rd

          by_value : (v : Evaluation Value) → value_for r e s ≡ v → OneFails source w (set_one (lval.Var (var_in In p.var)) (expr_in x.names e) (call_place q.to q.at) ∷ argument_ops x.names In (call_place q.to q.at) ps es) t
          by_value (stuck k) d =
              let z : and_then (and_then (value_for r e s) (λ h. went [] (put store (key_of r) (Some h)))) (all_passed q.at ps es s) ≡ stuck w = ap (λ b. and_then b (all_passed q.at ps es s)) (sym (passed_value q.at r e s store na)) ∙ e1 in
              let z2 : stuck k ≡ stuck w = ap (λ b. and_then (and_then b (λ h. went [] (put store (key_of r) (Some h)))) (all_passed q.at ps es s)) (sym d) ∙ z in
              fails_here (start ∙ ap (λ b. and_then b (λ h. went [] (with_value t (key_in In (key_of r)) (Some h)))) d ∙ (let p : k ≡ w = cc in ap stuck p))
          by_value (went ns h) d =
              let z : and_then (and_then (value_for r e s) (λ h. went [] (put store (key_of r) (Some h)))) (all_passed q.at ps es s) ≡ stuck w = ap (λ b. and_then b (all_passed q.at ps es s)) (sym (passed_value q.at r e s store na)) ∙ e1 in
              let z2 : and_then (went (ns ++ []) (put store (key_of r) (Some h))) (all_passed q.at ps es s) ≡ stuck w = ap (λ b. and_then (and_then b (λ h. went [] (put store (key_of r) (Some h)))) (all_passed q.at ps es s)) (sym d) ∙ z in
              let f2 = filled_value r h f na nc sets (value_sort r e s ns h (G.sorts r.name r.copy) sort d) in
              fails_later (start ∙ ap (λ b. and_then b (λ h. went [] (with_value t (key_in In (key_of r)) (Some h)))) d)
              (next (put store (key_of r) (Some h)) (with_value t (key_in In (key_of r)) (Some h)) f2 (first_stuck (ns ++ []) (all_passed q.at ps es s (put store (key_of r) (Some h))) w z2))

  -- ---- the mark

  done_first : (D : Key → Type 0) (rs : List Ref) (k : Key) → D k → Done D rs k
  done_first D [] k d = d
  done_first D (r ∷ rs) k d = done_first (More D r) rs k (inl d)

  done_of : (D : Key → Type 0) (rs : List Ref) (k : Key) → OneHas rs k → Done D rs k
  done_of D [] k o = absurd o
  done_of D (r ∷ rs) k (inl p) = done_first (More D r) rs k (inr p)
  done_of D (r ∷ rs) k (inr o) = done_of (More D r) rs k o

  of_done : (D : Key → Type 0) (rs : List Ref) (k : Key) → Done D rs k → D k ⊎ OneHas rs k
  of_done D [] k d = inl d
  of_done D (r ∷ rs) k d = sorted (of_done (More D r) rs k d)
    where
      sorted : More D r k ⊎ OneHas rs k → D k ⊎ OneHas (r ∷ rs) k
      sorted (inl (inl d)) = inl d
      sorted (inl (inr p)) = inr (inl p)
      sorted (inr o) = inr (inr o)

  abbrev Nothing : Key → Type 0
  Nothing k = ⊥

  start : Filled Nothing empty_store t0
  start = record { same = λ k h d. absurd d; none = λ k n. refl; kept = λ k lt. refl; within = λ k lt out. refl; memory = refl; sorted = λ k u e. absurd cc }

  place_image : (r : Ref) (k2 : Key) → PlaceOf (ref_in In r) k2 → (k : Key) × PlaceOf r k × (key_in In k ≡ k2)
  place_image r k2 (itself f e) = (key_of r, itself f refl, sym e)
  place_image r k2 (its_cell z n i kd lt e) = (cell_key r i, its_cell z n i kd lt refl, sym e)

  var_image : (vs : List Var) (k2 : Key) → OneHas (vars_of (map (var_in In) vs)) k2 → (k : Key) × OneHas (vars_of vs) k × (key_in In k ≡ k2)
  var_image [] k2 o = absurd o
  var_image (v ∷ vs) k2 (inl p) = let z = place_image (ref_of v) k2 (subst (λ (r : Ref). PlaceOf r k2) (ref_so In v) p) in (z.0, inl z.1, z.2)
  var_image (v ∷ vs) k2 (inr o) = let z = var_image vs k2 o in (z.0, inr z.1, z.2)

  place_back : (r : Ref) (k : Key) → PlaceOf r k → PlaceOf (ref_in In r) (key_in In k)
  place_back r k (itself f e) = itself f (ap (key_in In) e)
  place_back r k (its_cell z n i kd lt e) = its_cell z n i kd lt (ap (key_in In) e)

  var_back : (vs : List Var) (k : Key) → OneHas (vars_of vs) k → OneHas (vars_of (map (var_in In) vs)) (key_in In k)
  var_back [] k o = absurd o
  var_back (v ∷ vs) k (inl p) = inl (subst (λ (r : Ref). PlaceOf r (key_in In k)) (sym (ref_so In v)) (place_back (ref_of v) k p))
  var_back (v ∷ vs) k (inr o) = inr (var_back vs k o)

  place_name : (r : Ref) (k : Key) → PlaceOf r k → k.name ≡ r.name
  place_name r k (itself f e) = ap (λ (b : Key). b.name) e
  place_name r k (its_cell z n i kd lt e) = ap (λ (b : Key). b.name) e

  apart_both : (rs qs : List Ref) (k : Key) → AreApart (rs ++ qs) → OneHas rs k → OneHas qs k → ⊥
  apart_both [] qs k h o p = o
  apart_both (r ∷ rs) qs k h (inl a) p =
      let n = new_has r qs k (new_right r rs qs h.0) p in
      let t : bytes_eq r.name k.name ≡ true = ap (bytes_eq r.name) (place_name r k a) ∙ bytes_same r.name in absurd cc
  apart_both (r ∷ rs) qs k h (inr o) p = apart_both rs qs k h.1 o p

  pub entered : (s1 : State) (ns : List ℕ) → enters q s ≡ went ns s1 →
      (t1 : State) × DoAll source ns (argument_ops x.names In (call_place q.to q.at) q.callee.params q.args) (argument_items 0 q.callee.params q.args) t0 t1
      × Stands (callee_copy scopes x c q) s1 (quiets (unset (map (var_in In) q.callee.vars)) t1) × Within (callee_copy scopes x c q) (suc c) t0 (quiets (unset (map (var_in In) q.callee.vars)) t1)
  entered s1 ns e =
      let p = then_went (all_passed q.at q.callee.params q.args s empty_store) (λ store. went [] (record { store = store; memory = s.memory })) ns s1 e in
      let m = passes {D = Nothing} q.callee.params q.args is.arguments (λ r y l. l) empty_store p.1 t0 p.0 ns [] p.2 0 start p.3 p.5 refl in
      let state : s1 ≡ record { store = p.1; memory = s.memory } = (let z = p.4 in cc) in
      (m.to, m.go, subst (λ v. Stands (callee_copy scopes x c q) v (quiets (unset (map (var_in In) q.callee.vars)) m.to)) (sym state) (record { agrees = record { store = agree p.1 m.to m.filled; memory = m.filled.memory ∙ st.agrees.memory }; sorted = m.filled.sorted }), inside p.1 m.to m.filled)
    where
      marked : State → Store
      marked t1 = all_unset (map (var_in In) q.callee.vars) t1.store

      not_marked : (k k2 : Key) → Has G k → OneHas (vars_of q.callee.vars) k2 → key_in In k2 ≡ key_in In k → k2 ≡ k
      not_marked k k2 h o e = same_key-true k2 k (sym (apart_in k2 k (is.own k2 o) h) ∙ ap (λ b. same_key b (key_in In k)) e ∙ same_key-refl (key_in In k))

      agree : (store : Store) (t1 : State) → Filled (Done Nothing (params_of q.callee.params)) store t1 → (k : Key) → Has G k → marked t1 (key_in In k) ≡ store k
      agree store t1 f k h = by_owner (is.owned k h) (unset_at (map (var_in In) q.callee.vars) t1.store (key_in In k))
        where
          by_owner : OneHas (params_of q.callee.params) k ⊎ OneHas (vars_of q.callee.vars) k →
              (OneHas (vars_of (map (var_in In) q.callee.vars)) (key_in In k) × (marked t1 (key_in In k) ≡ None)) ⊎ ((OneHas (vars_of (map (var_in In) q.callee.vars)) (key_in In k) → ⊥) × (marked t1 (key_in In k) ≡ t1.store (key_in In k))) → marked t1 (key_in In k) ≡ store k
          by_owner (inl o) (inl (a, b)) =
              let z = var_image q.callee.vars (key_in In k) a in
              absurd (apart_both (params_of q.callee.params) (vars_of q.callee.vars) k is.apart o (subst (OneHas (vars_of q.callee.vars)) (not_marked k z.0 h z.1 z.2) z.1))
          by_owner (inl o) (inr (n, b)) = b ∙ f.same k h (done_of Nothing (params_of q.callee.params) k o)
          by_owner (inr o) (inl (a, b)) = b ∙ sym (f.none k not_done)
            where
              not_done : Done Nothing (params_of q.callee.params) k → ⊥
              not_done d = by_list (of_done Nothing (params_of q.callee.params) k d)
                where
                  by_list : ⊥ ⊎ OneHas (params_of q.callee.params) k → ⊥
                  by_list (inl z) = z
                  by_list (inr z) = apart_both (params_of q.callee.params) (vars_of q.callee.vars) k is.apart z o
          by_owner (inr o) (inr (n, b)) = absurd (n (var_back q.callee.vars k o))

      inside : (store : Store) (t1 : State) → Filled (Done Nothing (params_of q.callee.params)) store t1 → Within (callee_copy scopes x c q) (suc c) t0 (record t1 { store = marked t1 })
      inside store t1 f k lt out = by_mark (unset_at (map (var_in In) q.callee.vars) t1.store k)
        where
          by_mark : (OneHas (vars_of (map (var_in In) q.callee.vars)) k × (marked t1 k ≡ None)) ⊎ ((OneHas (vars_of (map (var_in In) q.callee.vars)) k → ⊥) × (marked t1 k ≡ t1.store k)) → marked t1 k ≡ t0.store k
          by_mark (inl (a, b)) = let z = var_image q.callee.vars k a in absurd (out z.0 (is.own z.0 z.1) z.2)
          by_mark (inr (n, b)) = b ∙ f.within k lt out

  pub entered_not : (w : Stuck) → enters q s ≡ stuck w → OneFails source w (argument_ops x.names In (call_place q.to q.at) q.callee.params q.args) t0
  entered_not w e = by_part (then_stuck (all_passed q.at q.callee.params q.args s empty_store) ended_in w e)
    where
      ended_in : Store → Evaluation State
      ended_in a = went [] (record { store = a; memory = s.memory })

      by_part : (all_passed q.at q.callee.params q.args s empty_store ≡ stuck w) ⊎ ((ms : List ℕ) × (a : Store) × (all_passed q.at q.callee.params q.args s empty_store ≡ went ms a) × (ended_in a ≡ stuck w)) → OneFails source w (argument_ops x.names In (call_place q.to q.at) q.callee.params q.args) t0
      by_part (inl p) = passes_not {D = Nothing} q.callee.params q.args is.arguments (λ r y l. l) empty_store t0 w start p
      by_part (inr (ms, a, p, z)) = let y : went [] (record { store = a; memory = s.memory }) ≡ stuck w = z in absurd cc
