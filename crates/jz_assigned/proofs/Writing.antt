-- Where its conditions are given an assignment to a cell or to memory is not stuck.
use Rattle.std.proofs.Common.{◌≡◌, ◌⊎◌, ℕ, ◌+◌, ◌^◌, ◌<◌, ◌≤◌, [], ◌∷◌, Option, Some, None, Bool, true, false, refl, ap, sym, subst, arith, rules, if◌then◌else◌}
use Rattle.std.specs.Prelude.{◌||◌, nat_lt}
use Rattle.std.specs.Option.{option_or}
use Rattle.jz_tree.specs.Span.{Span}
use Rattle.x64_insn.specs.Size.{Size}
use Rattle.x64_insn.specs.Size.TheVariants.{S64}
use Rattle.x64_insn.specs.Sizes.{bytes_of}
use Rattle.x64_insn.specs.Words.{residue}
use Rattle.x64_insn.specs.Memory.{stored}
use Rattle.jz_tree.specs.declared.expr.BinOp.{BinOp}
use Rattle.jz_tree.specs.declared.expr.Expr.{Expr}
use Rattle.jz_tree.specs.declared.expr.Access.{Access}
use Rattle.jz_tree.specs.declared.expr.Var.{Var}
use Rattle.jz_tree.specs.declared.stmt.Lval.{Lval}
use Rattle.jz_tree.specs.declared.stmt.Lval.TheVariants as lval
use Rattle.jz_runs.specs.Rules.{stuck, went}
use Rattle.jz_meaning.specs.declared.access.Kind.TheVariants as kind
use Rattle.jz_meaning.specs.declared.value.Why.TheVariants.{Bounds, Address, Align}
use Rattle.jz_meaning.specs.Attempts.{Evaluation, stuck_at, and_then, defined}
use Rattle.jz_meaning.specs.States.{Value, word, boolean, integer, Key, State}
use Rattle.jz_meaning.specs.Operators.{word_at, same_size}
use Rattle.jz_meaning.specs.Values.{Ref, MemoryAccess, Meaning, cell_key, ref_of, own_size, size_of, in_cells, index_at, is_aligned, accessed, after_store, store_word, store_at}
use Rattle.jz_meaning.specs.Assignments as values
use Rattle.jz_meaning.specs.Assignments.{Results, left_sizes, left_size, whole_of, as_expr, word_value, with_value, written, all_written, results_of, conditioned, assigned_whole}
use Rattle.jz_meaning.specs.Statements as source
use Rattle.jz_meaning.specs.Statements.{assign}
use Rattle.jz_run_laws.specs.Kinds.{Kinds}
use Rattle.jz_terms.specs.Terms.{Place, term_of, place_of, means}
use Rattle.jz_terms.proofs.Bridge.{term_so, access_at}
use Rattle.jz_intervals.specs.declared.interval.Interval.{Interval}
use Rattle.jz_facts.specs.Facts.{Facts, Given}
use Rattle.jz_facts.specs.Intervals.{size_or_64, interval, is_multiple}
use Rattle.jz_fact_laws.specs.Saying.{Yields, In, is_number}
use Rattle.jz_fact_laws.proofs.Ranges.{Good, term_ok}
use Rattle.jz_unstuck.specs.Conditions.{named, memory, unless, or_else, readings, sum_of, in_some_reading, bounds_of, asks, asks_access, asks_expr, asks_left, asks_lefts, asks_assign, asks_operation}
use Rattle.jz_standing.specs.Typing.{sizes_of, NoNumbers, IsArray, IsSum, IsWord, IsCellAssigned, IsStored}
use Rattle.jz_standing.specs.Standing.{Stands}
use Rattle.jz_standing.proofs.Held.{holds}
use Rattle.jz_standing.proofs.SumForms.{sum_word}
use Rattle.jz_standing.proofs.Making.{OfSize, same_size-refl}
use Rattle.jz_standing.proofs.Plain.{plain_word}
use Rattle.jz_unstuck.proofs.Totals.{Bytes, bytes_valid}
use Rattle.jz_unstuck.proofs.Sums.{met, both_met, Runs, runs_then, StandsFor, total_of, held_vars, totals}
use Rattle.jz_unstuck.proofs.Regions.{bytes_there}
use Rattle.jz_unstuck.proofs.Firm.{word_of_value, some_size, IsAligned, may_be_aligned, aligned_at, word_runs}
use Rattle.jz_assigned.proofs.Cells.{access_so}

runs_with : {A : Type 0} (P Q : A → Type 0) (e : Evaluation A) → Runs P e → Yields Q e → Runs (λ x. P x × Q x) e
runs_with P Q (stuck k) h q = h
runs_with P Q (went ns x) h q = (h, q)

pub word_goes : (at : Span) (z : Size) (k : Bool) (v : Value) → OfSize z k v → Runs (λ a. Unit {0}) (word_at at z v)
word_goes at z k (word y n) h = subst (λ u. Runs (λ a. Unit {0}) (defined at (if same_size z u then Some n else None))) (sym h) (subst (λ c. Runs (λ a. Unit {0}) (defined at (if c then Some n else None))) (sym (same_size-refl z)) tt)
word_goes at z k (integer j) h = tt
word_goes at z k (boolean c) h = absurd h

module _ (g : Given) (kinds : Kinds) (in_frame : Key → Bool) (entry : Key → ℕ) (s : Facts) (st : State) (H : Stands g kinds in_frame entry s st) (nn : NoNumbers kinds) where
  -- one value, to one left side
  abbrev IsOne : Size → Results → Type 0
  IsOne z vs = (k : Bool) × (v : Value) × (vs ≡ Some v ∷ []) × OfSize z k v

  one_value : (d : Lval) (w : Expr) (at : Span) (zo : Option Size) (z : Size) → IsWord kinds in_frame zo z (term_of w) → asks_expr g s zo w ≡ None → Runs (IsOne z) (results_of (d ∷ []) w at zo st)
  one_value d w at zo z i q =
      subst (λ (m : Meaning). Runs (IsOne z) (and_then (m.run zo st) (λ v. went [] (Some v ∷ [])))) (sym (term_so w))
      (runs_then (OfSize z (is_number (term_of w))) (IsOne z) ((means (term_of w)).run zo st) (λ v. went [] (Some v ∷ []))
      (word_runs g kinds in_frame entry s st H nn (term_of w) zo z i q) (λ v h. (is_number (term_of w), v, refl, h)))

  -- of one left side without a condition
  one_goes : (d : Lval) (m : Option Expr) (w : Expr) (at : Span) (z : Size) → m ≡ Some w
      → IsWord kinds in_frame (option_or (left_sizes (d ∷ [])) (own_size w)) z (term_of w)
      → asks_expr g s (option_or (left_sizes (d ∷ [])) (own_size w)) w ≡ None
      → ((k : Bool) (v : Value) → OfSize z k v → Runs (λ t. Unit {0}) (written (option_or (left_sizes (d ∷ [])) (own_size w)) d (Some v) st))
      → Runs (λ t. Unit {0}) (assigned_whole (d ∷ []) m None at st)
  one_goes d m w at z p i q f = subst (λ u. Runs (λ t. Unit {0}) (assigned_whole (d ∷ []) u None at st)) (sym p) (
      let zo = option_or (left_sizes (d ∷ [])) (own_size w) in
      runs_then (IsOne z) (λ t. Unit {0}) (results_of (d ∷ []) w at zo st) (λ vs. and_then (conditioned (d ∷ []) None at vs st) (λ ws. all_written at zo (d ∷ []) ws st)) (one_value d w at zo z i q) (λ vs h.
      runs_then (λ ws. ws ≡ Some h.1 ∷ []) (λ t. Unit {0}) (went [] vs) (λ ws. all_written at zo (d ∷ []) ws st) h.2 (λ ws k.
      subst (λ us. Runs (λ t. Unit {0}) (all_written at zo (d ∷ []) us st)) (sym k)
      (runs_then (λ t. Unit {0}) (λ t. Unit {0}) (written zo d (Some h.1) st) (λ t. went [] t) (f h.0 h.1 h.3) (λ t u. tt)))))

  -- ---- cells

  within : (at : Span) (z : Size) (m a : ℕ) (i : Interval) → nat_lt i.hi m ≡ true → In i a → Runs (λ n. Unit {0}) (in_cells at (kind.Array z m) a)
  within at z m a i e h = by (nat_lt a m) refl
    where
      by : (c : Bool) → nat_lt a m ≡ c → Runs (λ n. Unit {0}) (if c then went (a ∷ []) a else stuck_at at Bounds)
      by true q = tt
      by false q = let x : i.hi < m = grind (arith, rules, e) in let y : m ≤ a = grind (arith, rules, q) in let l = h.1 in absurd (omega (arith, x, y, l))

  index_word : (at : Span) (i : Interval) (t : ℕ) (k : Bool) (v : Value) (j : _) → StandsFor j k v → Good i k S64 v → Runs (In i) (word_at at S64 v)
  index_word at i t k (word z a) j h p = subst (λ y. Runs (In i) (word_at at S64 (word y a))) (sym h.0) (p.1 h.0)
  index_word at i t k (integer b) j h p = p.1
  index_word at i t k (boolean c) j h p = absurd h

  index_goes : (x : Ref) (z : Size) (m : ℕ) → x.kind ≡ kind.Array z m → (i : Interval) (k : Bool) (v : Value) (j : _) → bounds_of (kind.Array z m) i ≡ true → StandsFor j k v → Good i k S64 v → Runs (λ n. Unit {0}) (index_at x v)
  index_goes x z m e i k v j b h p =
      subst (λ d. Runs (λ n. Unit {0}) (and_then (word_at x.span S64 v) (in_cells x.span d))) (sym e)
      (runs_then (In i) (λ n. Unit {0}) (word_at x.span S64 v) (in_cells x.span (kind.Array z m)) (index_word x.span i 0 k v j h p) (λ a q. within x.span z m a i b q))

  -- the index is evaluated here, and the cell written in a state behind
  pub cell_goes : (later : State) (x : Var) (i : Expr) (z : Size) (m : ℕ) (zo : Option Size) → IsArray kinds in_frame (ref_of x) z m → IsSum kinds in_frame (term_of i) → asks_left g s zo (lval.Cell x i) ≡ None → (k : Bool) (v : Value) → OfSize z k v → Runs (λ t. Unit {0}) (and_then ((means (term_of i)).run (Some S64) st) (λ u. and_then (index_at (ref_of x) u) (λ n. values.in_cell (ref_of x) n (left_size (lval.Cell x i)) (Some v) later)))
  cell_goes later x i z m zo A j q k v h =
      let r = ref_of x in
      let t = term_of i in
      let a = both_met (asks_expr g s (Some S64) i) _ q in
      let b : bounds_of (kind.Array z m) (interval g s S64 t) ≡ true = subst (λ d. bounds_of d (interval g s S64 t) ≡ true) A.is (met (bounds_of r.kind (interval g s S64 t)) r.span Bounds (named r.name r.cell) a.1) in
      let Q : Value → Type 0 = λ (u : Value). StandsFor (total_of st t) (is_number t) u × Good (interval g s S64 t) (is_number t) S64 u in
      runs_then Q (λ t. Unit {0}) ((means t).run (Some S64) st) (λ u. and_then (index_at r u) (λ n. values.in_cell r n (left_size (lval.Cell x i)) (Some v) later))
      (runs_with (StandsFor (total_of st t) (is_number t)) (Good (interval g s S64 t) (is_number t) S64) ((means t).run (Some S64) st)
      (totals g kinds in_frame entry s st H nn t j (held_vars g kinds in_frame entry s st H nn t j a.0))
      (term_ok g (sizes_of kinds) entry s st (holds g kinds in_frame entry s st nn H) t (plain_word kinds in_frame t (Some S64) S64 (sum_word kinds in_frame t j)) S64 (Some S64))) (λ u p.
      runs_then (λ n. Unit {0}) (λ t. Unit {0}) (index_at r u) (λ n. values.in_cell r n (left_size (lval.Cell x i)) (Some v) later) (index_goes r z m A.is (interval g s S64 t) (is_number t) u (total_of st t) b p.0 p.1) (λ n c.
      subst (λ (y : Option Size). Runs (λ t. Unit {0}) (values.in_cell r n y (Some v) later)) (sym (ap size_of A.is))
      (runs_then (λ w. Unit {0}) (λ t. Unit {0}) (word_value r.span z v) (λ w. went [] (with_value later (cell_key r n) (Some w)))
      (runs_then (λ w. Unit {0}) (λ w. Unit {0}) (word_at r.span z v) (λ a. went [] (word z a)) (word_goes r.span z k v h) (λ a c. tt)) (λ w c. tt))))

  -- ---- memory

  stored_goes : (at : Span) (u : Bool) (z : Size) (a : ℕ) (k : Bool) (v : Value) → OfSize z k v → (a + bytes_of z ≤ 2 ^ 64) × Bytes st.memory a (bytes_of z) → (u || is_aligned z a) ≡ true → Runs (λ m. Unit {0}) (store_word at u (Some z) a (Some v) st.memory)
  stored_goes at u z a k v h b q =
      runs_then (λ c. Unit {0}) (λ m. Unit {0}) (word_at at z v) (λ c. accessed at u z a (after_store st.memory a z c)) (word_goes at z k v h) (λ c t.
      subst (λ d. Runs (λ m. Unit {0}) (accessed at u z a (if d then Some (stored st.memory a (bytes_of z) c) else None))) (sym (bytes_valid st.memory a (bytes_of z) b.0 b.1))
      (subst (λ d. Runs (λ m. Unit {0}) (if d then went (a ∷ []) (stored st.memory a (bytes_of z) c) else stuck_at at Align)) (sym q) tt))

  -- the address is evaluated here, and the memory is this one, in a state behind
  pub place_goes : (later : State) (p : Place) (zo : Option Size) (z : Size) (k : Bool) (v : Value) → IsSum kinds in_frame p.at → option_or p.spot.size zo ≡ Some z → OfSize z k v
      → or_else (asks g s (Some S64) p.at) (asks_access g s p.spot (size_or_64 (option_or p.spot.size zo)) p.at) ≡ None
      → Runs (λ t. Unit {0}) (and_then ((access_at p).at st) (λ n. and_then (store_at (access_at p) zo n (Some v) st.memory) (λ m. went [] (record later { memory = m }))))
  place_goes later p zo z k v i e h q =
      let t = p.at in
      let d = both_met (asks g s (Some S64) t) _ q in
      let y : asks_access g s p.spot z t ≡ None = subst (λ u. asks_access g s p.spot (size_or_64 u) t ≡ None) e d.1 in
      let f = both_met (unless (in_some_reading g s (bytes_of z) (readings (sum_of t))) p.spot.span Address memory) _ y in
      let r = met (in_some_reading g s (bytes_of z) (readings (sum_of t))) p.spot.span Address memory f.0 in
      let u = met (p.spot.unaligned || is_multiple g s t (bytes_of z)) p.spot.span Align memory f.1 in
      let held = held_vars g kinds in_frame entry s st H nn t i d.0 in
      let Q : Value → Type 0 = λ (c : Value). StandsFor (total_of st t) (is_number t) c × ((p.spot.unaligned ≡ true) ⊎ IsAligned z c) in
      runs_then Q (λ t. Unit {0}) ((means t).run (Some S64) st) (λ n. and_then (store_at (access_at p) zo n (Some v) st.memory) (λ m. went [] (record later { memory = m })))
      (runs_with (StandsFor (total_of st t) (is_number t)) (λ c. (p.spot.unaligned ≡ true) ⊎ IsAligned z c) ((means t).run (Some S64) st) (totals g kinds in_frame entry s st H nn t i held) (may_be_aligned g kinds in_frame entry s st H nn p.spot.unaligned z t i u)) (λ n c.
      runs_then (λ m. Unit {0}) (λ t. Unit {0}) (store_at (access_at p) zo n (Some v) st.memory) (λ m. went [] (record later { memory = m }))
      (runs_then (λ a. a ≡ residue S64 (total_of st t)) (λ m. Unit {0}) (word_at p.spot.span S64 n) (λ a. store_word p.spot.span p.spot.unaligned (option_or p.spot.size zo) a (Some v) st.memory) (word_of_value p.spot.span (total_of st t) (is_number t) n c.0) (λ a l.
      subst (λ y. Runs (λ m. Unit {0}) (store_word p.spot.span p.spot.unaligned y a (Some v) st.memory)) (sym e)
      (stored_goes p.spot.span p.spot.unaligned z a k v h (bytes_there g kinds in_frame entry s st H nn (bytes_of z) (some_size z) t i held r a l) (aligned_at g kinds in_frame entry s st H nn p.spot.unaligned z (total_of st t) (is_number t) n a c.0 l c.1)))) (λ m c. tt))

  -- ---- statements

  last_of_one : (d : Lval) (zo : Option Size) → asks_lefts g s zo (d ∷ []) ≡ None → asks_left g s zo d ≡ None
  last_of_one d zo q = (both_met (asks_left g s zo d) _ q).0

  some_same : {A : Type 0} {a b : A} → Some a ≡ Some b → a ≡ b
  some_same e = cc e

  -- what is evaluated, where the left side is read by itself
  abbrev Given_whole : Lval → Option BinOp → Expr → Expr → Type 0
  Given_whole d o e w = whole_of (Some d) o e ≡ Some w

  pub cell_runs : (x : Var) (i : Expr) (o : Option BinOp) (e : Expr) (at : Span) → IsCellAssigned kinds in_frame x i o e → asks_operation g (assign (lval.Cell x i ∷ []) o e None at) s ≡ None → Runs (λ t. Unit {0}) (source.does (assign (lval.Cell x i ∷ []) o e None at) st)
  cell_runs x i o e at c q = by (whole_of (Some (lval.Cell x i)) o e) refl (has_whole o)
    where
      has_whole : (o : Option BinOp) → (w : Expr) × Given_whole (lval.Cell x i) o e w
      has_whole None = (e, refl)
      has_whole (Some op) = (_, refl)

      by : (m : Option Expr) → whole_of (Some (lval.Cell x i)) o e ≡ m → (w : Expr) × Given_whole (lval.Cell x i) o e w → Runs (λ t. Unit {0}) (source.does (assign (lval.Cell x i ∷ []) o e None at) st)
      by m p (w, r) =
          let d = lval.Cell x i in
          let zo = option_or (left_sizes (d ∷ [])) (own_size w) in
          let a : asks_assign g s (d ∷ []) (Some w) None ≡ None = subst (λ m. asks_assign g s (d ∷ []) m None ≡ None) r q in
          let b = both_met (asks_expr g s zo w) _ a in
          let z : zo ≡ Some c.size = ap (λ k. option_or (option_or (size_of k) None) (own_size w)) c.array.is in
          one_goes d (whole_of (Some d) o e) w at c.size r (subst (λ u. IsWord kinds in_frame u c.size (term_of w)) (sym z) (c.value w r)) b.0 (λ k v h.
          subst (λ (e : Meaning). Runs (λ t. Unit {0}) (and_then (e.run (Some S64) st) (λ u. and_then (index_at (ref_of x) u) (λ n. values.in_cell (ref_of x) n (left_size d) (Some v) st)))) (sym (term_so i))
          (cell_goes st x i c.size c.cells zo c.array c.index (last_of_one d zo b.1) k v h))

  pub store_runs : (l : Access) (o : Option BinOp) (e : Expr) (at : Span) → IsStored kinds in_frame l o e → asks_operation g (assign (lval.Store l ∷ []) o e None at) s ≡ None → Runs (λ t. Unit {0}) (source.does (assign (lval.Store l ∷ []) o e None at) st)
  store_runs l o e at c q = by (has_whole o)
    where
      has_whole : (o : Option BinOp) → (w : Expr) × Given_whole (lval.Store l) o e w
      has_whole None = (e, refl)
      has_whole (Some op) = (_, refl)

      by : (w : Expr) × Given_whole (lval.Store l) o e w → Runs (λ t. Unit {0}) (source.does (assign (lval.Store l ∷ []) o e None at) st)
      by (w, r) =
          let d = lval.Store l in
          let zo = option_or (left_sizes (d ∷ [])) (own_size w) in
          let a : asks_assign g s (d ∷ []) (Some w) None ≡ None = subst (λ m. asks_assign g s (d ∷ []) m None ≡ None) r q in
          let b = both_met (asks_expr g s zo w) _ a in
          let f = c.value w r in
          one_goes d (whole_of (Some d) o e) w at c.size r f.1 b.0 (λ k v h.
          subst (λ (y : MemoryAccess). Runs (λ t. Unit {0}) (and_then (y.at st) (λ n. and_then (store_at y zo n (Some v) st.memory) (λ m. went [] (record st { memory = m }))))) (sym (access_so l))
          (place_goes st (place_of l) zo c.size k v c.address f.0 h (last_of_one d zo b.1)))
