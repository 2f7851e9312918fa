-- A left side of a copied body is written in the copy as it is written in the body.
use Rattle.std.proofs.Common.{◌≡◌, ℕ, ◌<◌, ◌==◌, List, [], ◌∷◌, ◌++◌, map, Option, Some, None, Bool, true, false, refl, ap, sym, ◌∙◌, subst, arith}
use Rattle.std.specs.Prelude.{nat_lt, if◌then◌else◌}
use Rattle.std.proofs.lemmas.Bool.{and_parts}
use Rattle.std.proofs.lemmas.Bool.Decides.{nat_tests}
use Rattle.std.specs.Str.{bytes_eq}
use Rattle.jz_data.proofs.Texts.{bytes_eq-true}
use Rattle.jz_tree.specs.Span.{Span}
use Rattle.jz_tree.specs.Size.{Size}
use Rattle.jz_tree.specs.Size.TheVariants.{S64}
use Rattle.jz_tree.specs.Memory.{Memory}
use Rattle.jz_tree.specs.declared.stmt.Lval.{Lval}
use Rattle.jz_tree.specs.declared.stmt.Lval.TheVariants as lval
use Rattle.jz_runs.specs.Rules.{stuck, went}
use Rattle.jz_meaning.specs.declared.access.Kind.{Kind}
use Rattle.jz_meaning.specs.declared.value.Why.TheVariants.{Bounds}
use Rattle.jz_meaning.specs.Attempts.{Evaluation, stuck_at, numbers_first, and_then, defined}
use Rattle.jz_meaning.specs.States.{Value, word, boolean, integer, Key, State, same_cell, same_key, put}
use Rattle.jz_meaning.specs.Operators.{word_at, word_of}
use Rattle.jz_meaning.specs.Values.{size_of, Ref, key_of, cell_key, in_cells, index_at, MemoryAccess, store_at, ref_of, access_of, evaluated}
use Rattle.jz_meaning.specs.Assignments.{word_value, held, held_or_unset, with_value, in_cell, written, Results, all_written}
use Rattle.jz_meaning.specs.Shapes.{Sort, words, sort_of, HoldsSorts}
use Rattle.jz_meaning.specs.declared.access.Kind.TheVariants as kind
use Rattle.jz_pass.specs.Keeping.{Alike, both_stuck, both_went}
use Rattle.jz_bodies.specs.Scopes.{a_scalar, a_cell, Has, Sets, SortIs, Writes, AllWritten}
use Rattle.jz_inline.specs.Names.{expr_in, lval_in}
use Rattle.jz_inline.proofs.Copies.{ScopeCopy, key_in, ref_in, IsBelow, Stands, Within}
use Rattle.jz_inline.proofs.Reading.{ref_so, value_so, access_so}

-- ---- keys

same_cell-true : (a b : Option ℕ) → same_cell a b ≡ true → a ≡ b
same_cell-true None None e = refl
same_cell-true (Some i) (Some j) e = ap Some (grind (arith, nat_tests, e))
same_cell-true None (Some j) e = absurd cc
same_cell-true (Some i) None e = absurd cc

pub same_key-true : (a b : Key) → same_key a b ≡ true → a ≡ b
same_key-true a b e =
    let p = and_parts (bytes_eq a.name b.name) _ e in
    let q = and_parts (a.copy == b.copy) _ p.1 in
    let n : a.name ≡ b.name = bytes_eq-true _ _ p.0 in
    let c : a.copy ≡ b.copy = grind (arith, nat_tests, q.0) in
    let i = same_cell-true a.cell b.cell q.1 in
    λ z. record { name = n z; copy = c z; cell = i z }

-- ---- what goes alike

pub alike_first : {A B : Type 0} {P : A → B → Type 0} {f : Evaluation A} {g : Evaluation B} (ns : List ℕ) → Alike P f g → Alike P (numbers_first ns f) (numbers_first ns g)
alike_first ns both_stuck = both_stuck
alike_first ns (both_went p) = both_went p

pub alike_then : {A B D : Type 0} {P : B → D → Type 0} (g : Evaluation A) (f : A → Evaluation B) (h : A → Evaluation D) → ((ns : List ℕ) (a : A) → g ≡ went ns a → Alike P (f a) (h a)) → Alike P (and_then g f) (and_then g h)
alike_then (stuck w) f h k = both_stuck
alike_then (went ns a) f h k = alike_first ns (k ns a refl)

pub alike_on : {A B D E : Type 0} {P : A → B → Type 0} {Q : D → E → Type 0} {g : Evaluation A} {k : Evaluation B} (f : A → Evaluation D) (h : B → Evaluation E) → Alike P g k → ((a : A) (b : B) → P a b → Alike Q (f a) (h b)) → Alike Q (and_then g f) (and_then k h)
alike_on f h both_stuck next = both_stuck
alike_on f h (both_went {ns} {a} {b} p) next = alike_first ns (next a b p)

pub alike_index : {A B : Type 0} {P : A → B → Type 0} (at : Span) (k : Kind) (g : Evaluation ℕ) (f : ℕ → Evaluation A) (h : ℕ → Evaluation B) → ((z : Size) (n i : ℕ) → k ≡ kind.Array z n → i < n → Alike P (f i) (h i)) → Alike P (and_then (and_then g (in_cells at k)) f) (and_then (and_then g (in_cells at k)) h)
alike_index at k (stuck w) f h same = both_stuck
alike_index at kind.Undeclared (went ns i) f h same = both_stuck
alike_index at kind.Int (went ns i) f h same = both_stuck
alike_index at kind.Bool (went ns i) f h same = both_stuck
alike_index at (kind.Word s) (went ns i) f h same = both_stuck
alike_index {P} at (kind.Array z n) (went ns i) f h same = by_test (nat_lt i n) refl
  where
    by_test : (b : Bool) → nat_lt i n ≡ b → Alike P (and_then (numbers_first ns (if nat_lt i n then went (i ∷ []) i else stuck_at at Bounds)) f) (and_then (numbers_first ns (if nat_lt i n then went (i ∷ []) i else stuck_at at Bounds)) h)
    by_test true q =
        subst (λ b. Alike P (and_then (numbers_first ns (if b then went (i ∷ []) i else stuck_at at Bounds)) f) (and_then (numbers_first ns (if b then went (i ∷ []) i else stuck_at at Bounds)) h)) (sym q)
        (alike_first _ (same z n i refl (grind (arith, nat_tests, q))))
    by_test false q =
        subst (λ b. Alike P (and_then (numbers_first ns (if b then went (i ∷ []) i else stuck_at at Bounds)) f) (and_then (numbers_first ns (if b then went (i ∷ []) i else stuck_at at Bounds)) h)) (sym q) both_stuck

-- ---- the sort of what is held

word_held : (at : Span) (s : Size) (o : Option ℕ) (ns : List ℕ) (h : Value) → and_then (defined at o) (λ a. went [] (word s a)) ≡ went ns h → sort_of h ≡ words
word_held at s None ns h e = absurd cc
word_held at s (Some a) ns h e = let q : h ≡ word s a = cc in ap sort_of q

pub held_sort : (at : Span) (k : Kind) (v : Value) (ns : List ℕ) (h : Value) (z : Sort) → SortIs k z → held at k v ≡ went ns h → sort_of h ≡ z
held_sort at (kind.Word s) v ns h z i e = word_held at s (word_of s v) ns h e ∙ sym i
held_sort at kind.Int (integer n) ns h z i e = let q : h ≡ integer n = cc in ap sort_of q ∙ sym i
held_sort at kind.Int (word s a) ns h z i e = absurd cc
held_sort at kind.Int (boolean c) ns h z i e = absurd cc
held_sort at kind.Bool (boolean c) ns h z i e = let q : h ≡ boolean c = cc in ap sort_of q ∙ sym i
held_sort at kind.Bool (word s a) ns h z i e = absurd cc
held_sort at kind.Bool (integer n) ns h z i e = absurd cc
held_sort at (kind.Array s n) v ns h z i e = absurd cc
held_sort at kind.Undeclared v ns h z i e = absurd cc

-- ---- one variable or cell

module _ (x : ScopeCopy) (c : ℕ) (below : IsBelow x c) where
  -- at the end of a part that begins in t
  abbrev pub Ends : State → State → State → Type 0
  Ends t s1 t1 = Stands x s1 t1 × Within x c t t1

  pub put_so : (s t : State) (k : Key) (v : Option Value) → Stands x s t → Sets x.scope k → ((u : Value) → v ≡ Some u → sort_of u ≡ x.scope.sorts k.name k.copy) → Ends t (with_value s k v) (with_value t (key_in x.names k) v)
  put_so s t k v st sets sort = (record { agrees = record { store = agree; memory = st.agrees.memory }; sorted = sorted }, within)
    where
      agree : (q : Key) → Has x.scope q → put t.store (key_in x.names k) v (key_in x.names q) ≡ put s.store k v q
      agree q has = ap (λ b. if b then v else t.store (key_in x.names q)) (below.apart k q sets has) ∙ ap (λ y. if same_key k q then v else y) (st.agrees.store q has)

      sorted : HoldsSorts x.scope.sorts (put s.store k v)
      sorted q u e = by_test (same_key k q) refl
        where
          by_test : (b : Bool) → same_key k q ≡ b → sort_of u ≡ x.scope.sorts q.name q.copy
          by_test true h = sort u (ap (λ b. if b then v else s.store q) (sym h) ∙ e) ∙ ap (λ (y : Key). x.scope.sorts y.name y.copy) (same_key-true k q h)
          by_test false h = st.sorted q u (ap (λ b. if b then v else s.store q) (sym h) ∙ e)

      within : Within x c t (with_value t (key_in x.names k) v)
      within q lt out = by_test (same_key (key_in x.names k) q) refl
        where
          by_test : (b : Bool) → same_key (key_in x.names k) q ≡ b → put t.store (key_in x.names k) v q ≡ t.store q
          by_test true h = absurd (out k sets (same_key-true (key_in x.names k) q h))
          by_test false h = ap (λ b. if b then v else t.store q) h

  memory_so : (s t : State) (m : Memory) → Stands x s t → Ends t (record s { memory = m }) (record t { memory = m })
  memory_so s t m st = (record { agrees = record { store = st.agrees.store; memory = refl }; sorted = st.sorted }, λ k lt out. refl)

  some_same : {A : Type 0} (u v : A) → Some u ≡ Some v → u ≡ v
  some_same u v e = cc

  var_so : (s t : State) (r : Ref) (v : Option Value) → Stands x s t → x.scope.sets_scalar r ≡ true → SortIs r.kind (x.scope.sorts r.name r.copy) →
      Alike (Ends t) (and_then (held_or_unset r.span r.kind v) (λ h. went [] (with_value s (key_of r) h))) (and_then (held_or_unset r.span r.kind v) (λ h. went [] (with_value t (key_in x.names (key_of r)) h)))
  var_so s t r None st sets sort = both_went (put_so s t (key_of r) None st (a_scalar r sets) (λ u e. absurd cc))
  var_so s t r (Some v) st sets sort = alike_held (held r.span r.kind v) refl
    where
      alike_held : (g : Evaluation Value) → held r.span r.kind v ≡ g → Alike (Ends t) (and_then (and_then g (λ h. went [] (Some h))) (λ h. went [] (with_value s (key_of r) h))) (and_then (and_then g (λ h. went [] (Some h))) (λ h. went [] (with_value t (key_in x.names (key_of r)) h)))
      alike_held (stuck w) e = both_stuck
      alike_held (went ns h) e = alike_first (ns ++ []) (both_went (put_so s t (key_of r) (Some h) st (a_scalar r sets) (λ u q. ap sort_of (sym (some_same h u q)) ∙ held_sort r.span r.kind v ns h (x.scope.sorts r.name r.copy) sort e)))

  in_cell_so : (s t : State) (r : Ref) (z0 : Size) (n i : ℕ) (z : Option Size) (v : Option Value) → Stands x s t → x.scope.sets_array r ≡ true → x.scope.sorts r.name r.copy ≡ words → r.kind ≡ kind.Array z0 n → i < n → Alike (Ends t) (in_cell r i z v s) (in_cell (ref_in x.names r) i z v t)
  in_cell_so s t r z0 n i None v st sets sort k lt = both_stuck
  in_cell_so s t r z0 n i (Some z) None st sets sort k lt = both_stuck
  in_cell_so s t r z0 n i (Some z) (Some v) st sets sort k lt =
      alike_then (word_value r.span z v) (λ w. went [] (with_value s (cell_key r i) (Some w))) (λ w. went [] (with_value t (cell_key (ref_in x.names r) i) (Some w)))
      (λ ns w e. both_went (put_so s t (cell_key r i) (Some w) st (a_cell r z0 n i sets k lt) (λ u q. ap sort_of (sym (some_same w u q)) ∙ word_held r.span z (word_of z v) ns w e ∙ sym sort)))

  pub written_so : (s t : State) (z : Option Size) (d : Lval) (v : Option Value) → Stands x s t → Writes x.scope d → Alike (Ends t) (written z d v s) (written z (lval_in x.names d) v t)
  written_so s t z (lval.Skip at) v st w = both_went (st, λ k lt out. refl)
  written_so s t z (lval.Var a) v st w =
      subst (λ (r : Ref). Alike (Ends t) (written z (lval.Var a) v s) (and_then (held_or_unset r.span r.kind v) (λ h. went [] (with_value t (key_of r) h)))) (sym (ref_so x.names a)) (var_so s t (ref_of a) v st w.0 w.1)
  written_so s t z (lval.Cell a i) v st w =
      let r = ref_of a in
      subst (λ (p : Ref). Alike (Ends t) (written z (lval.Cell a i) v s) (and_then (evaluated (expr_in x.names i) (Some S64) t) (λ j. and_then (index_at p j) (λ n. in_cell p n (size_of p.kind) v t)))) (sym (ref_so x.names a))
      (subst (λ g. Alike (Ends t) (written z (lval.Cell a i) v s) (and_then g (λ j. and_then (index_at (ref_in x.names r) j) (λ n. in_cell (ref_in x.names r) n (size_of r.kind) v t)))) (sym (value_so x s t st.agrees i w.2 (Some S64)))
      (alike_then (evaluated i (Some S64) s) (λ j. and_then (index_at r j) (λ n. in_cell r n (size_of r.kind) v s)) (λ j. and_then (index_at (ref_in x.names r) j) (λ n. in_cell (ref_in x.names r) n (size_of r.kind) v t))
      (λ ns j e. alike_index r.span r.kind (word_at r.span S64 j) (λ n. in_cell r n (size_of r.kind) v s) (λ n. in_cell (ref_in x.names r) n (size_of r.kind) v t)
      (λ z0 n m k lt. in_cell_so s t r z0 n m (size_of r.kind) v st w.0 w.1 k lt))))
  written_so s t z (lval.Store a) v st w =
      let p = access_of a in let l = access_so x s t st.agrees a in
      subst (λ (q : MemoryAccess). Alike (Ends t) (written z (lval.Store a) v s) (and_then (q.at t) (λ n. and_then (store_at q z n v t.memory) (λ m. went [] (record t { memory = m }))))) (sym l.1)
      (subst (λ g. Alike (Ends t) (written z (lval.Store a) v s) (and_then g (λ n. and_then (store_at p z n v t.memory) (λ m. went [] (record t { memory = m }))))) (sym (l.2 w))
      (subst (λ m0. Alike (Ends t) (written z (lval.Store a) v s) (and_then (p.at s) (λ n. and_then (store_at p z n v m0) (λ m. went [] (record t { memory = m }))))) (sym st.agrees.memory)
      (alike_then (p.at s) (λ n. and_then (store_at p z n v s.memory) (λ m. went [] (record s { memory = m }))) (λ n. and_then (store_at p z n v s.memory) (λ m. went [] (record t { memory = m })))
      (λ ns n e. alike_then (store_at p z n v s.memory) (λ m. went [] (record s { memory = m })) (λ m. went [] (record t { memory = m })) (λ ms m e2. both_went (memory_so s t m st))))))

  further : (t s1 t1 s2 t2 : State) → Ends t s1 t1 → Ends t1 s2 t2 → Ends t s2 t2
  further t s1 t1 s2 t2 a b = (b.0, λ k lt out. b.1 k lt out ∙ a.1 k lt out)

  pub alike_further : (t s1 t1 : State) (f g : Evaluation State) → Ends t s1 t1 → Alike (Ends t1) f g → Alike (Ends t) f g
  alike_further t s1 t1 _ _ a both_stuck = both_stuck
  alike_further t s1 t1 _ _ a (both_went {a = s2} {b = t2} p) = both_went (further t s1 t1 s2 t2 a p)

  pub all_written_so : (at : Span) (s t : State) (z : Option Size) (ds : List Lval) (vs : Results) → Stands x s t → AllWritten x.scope ds → Alike (Ends t) (all_written at z ds vs s) (all_written at z (map (lval_in x.names) ds) vs t)
  all_written_so at s t z [] [] st w = both_went (st, λ k lt out. refl)
  all_written_so at s t z [] (v ∷ vs) st w = both_stuck
  all_written_so at s t z (d ∷ ds) [] st w = both_stuck
  all_written_so at s t z (d ∷ ds) (v ∷ vs) st w =
      alike_on (λ s1. all_written at z ds vs s1) (λ t1. all_written at z (map (lval_in x.names) ds) vs t1) (written_so s t z d v st w.0)
      (λ s1 t1 e. alike_further t s1 t1 _ _ e (all_written_so at s1 t1 z ds vs e.0 w.1))
