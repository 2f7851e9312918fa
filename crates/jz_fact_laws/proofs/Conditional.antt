-- Behind an assignment to a variable under a condition the facts of both hold.
use Rattle.std.proofs.Common.{◌≡◌, ◌⊎◌, inl, inr, ℕ, [], ◌∷◌, Option, Some, None, Bool, true, false, refl, ap, sym, ◌∙◌, subst, ◌&&◌, if◌then◌else◌}
use Rattle.std.specs.Option.{option_or}
use Rattle.std.proofs.Math.Path.{fun_ext}
use Rattle.jz_tree.specs.Span.{Span}
use Rattle.x64_insn.specs.Size.{Size}
use Rattle.jz_tree.specs.declared.expr.BinOp.{BinOp}
use Rattle.jz_tree.specs.declared.expr.Expr.{Expr}
use Rattle.jz_tree.specs.declared.expr.Expr.TheVariants as expr
use Rattle.jz_tree.specs.declared.expr.Var.{Var}
use Rattle.jz_tree.specs.declared.stmt.Lval.TheVariants as lval
use Rattle.jz_runs.specs.Rules.{stuck, went}
use Rattle.jz_meaning.specs.declared.access.Kind.{Kind}
use Rattle.jz_meaning.specs.declared.access.Kind.TheVariants as kind
use Rattle.jz_meaning.specs.Attempts.{Evaluation, and_then, defined}
use Rattle.jz_meaning.specs.States.{Value, word, boolean, integer, Key, same_key, Store, put, State}
use Rattle.jz_meaning.specs.Operators.{same_size, word_at}
use Rattle.jz_meaning.specs.Values.{key_of, ref_of, own_size, evaluated, size_of, Meaning}
use Rattle.jz_meaning.specs.Assignments.{assigned_whole, Results, left_sizes, left_size, whole_of, as_expr, held, held_or_unset, with_value, written, all_written, results_of, old_value, chosen, conditioned, bool_in}
use Rattle.jz_meaning.specs.Statements as source
use Rattle.jz_meaning.specs.Statements.{assign}
use Rattle.jz_meaning.proofs.Widths.{equal_sizes}
use Rattle.jz_flow.specs.Sets.{Below, common}
use Rattle.jz_facts.specs.Terms.{Term, means, term_of}
use Rattle.jz_facts.proofs.Bridge.{term_so}
use Rattle.jz_facts.proofs.TermForms.{term_var}
use Rattle.jz_facts.specs.Facts.{Facts, Given}
use Rattle.jz_facts.specs.Intervals.{size_or_64}
use Rattle.jz_facts.specs.Holding.{assigned, does, renewed, gained, the_word}
use Rattle.jz_fact_laws.specs.Saying.{Holds, Yields, Fits, is_number, IsAssigned}
use Rattle.jz_fact_laws.proofs.Fitting.{yields_then, yields_defined, yields_all}
use Rattle.jz_fact_laws.proofs.Setting.{same_key-true, written_ok}
use Rattle.jz_fact_laws.proofs.MultipleTerms.{multiple_ok}
use Rattle.jz_fact_laws.proofs.Law.{Known, known, written_then}

-- of fewer facts
pub fewer_hold : (g : Given) (sizes : Key → Option Size) (entry : Key → ℕ) (a b : Facts) (st : State) → Below a b → Holds g sizes entry b st → Holds g sizes entry a st
fewer_hold g sizes entry a b st l H = record { says = λ f e. H.says f (l f e); fits = H.fits; sized = H.sized; bytes = H.bytes; ranges = H.ranges }

first_part : (a b : Bool) → (a && b) ≡ true → a ≡ true
first_part true b e = refl
first_part false b e = e

second_part : (a b : Bool) → (a && b) ≡ true → b ≡ true
second_part true b e = e
second_part false b e = absurd (cc e)

common_first : (a b : Facts) → Below (common a b) a
common_first a b f e = first_part (a f) (b f) e

common_second : (a b : Facts) → Below (common a b) b
common_second a b f e = second_part (a f) (b f) e

-- what a variable has is written back
put_same : (store : Store) (k : Key) (v : Option Value) → store k ≡ v → put store k v ≡ store
put_same store k v e = fun_ext (λ q. by q (same_key k q) refl)
  where
    by : (q : Key) (c : Bool) → same_key k q ≡ c → (if c then v else store q) ≡ store q
    by q true h = sym e ∙ ap store (same_key-true k q h)
    by q false h = refl

same_state : (st : State) (k : Key) (v : Option Value) → st.store k ≡ v → with_value st k v ≡ st
same_state st k v e = λ i. record { store = put_same st.store k v e i; memory = st.memory }

module _ (g : Given) (sizes : Key → Option Size) (entry : Key → ℕ) (s : Facts) (st : State) (H : Holds g sizes entry s st) where
  -- an old value is held as it is
  held_same : (at : Span) (k : Kind) (old : Value) → Fits old → Yields (λ h. h ≡ old) (held at k old)
  held_same at (kind.Word y) (word t n) f = yields_then (λ a. word y a ≡ word t n) (λ h. h ≡ word t n) (word_at at y (word t n)) (λ a. went [] (word y a)) (yields_defined (λ a. word y a ≡ word t n) at (if same_size y t then Some n else None) (λ a e. by (same_size y t) refl a e)) (λ a h. h)
    where
      some_same : (a b : ℕ) → Some a ≡ Some b → a ≡ b
      some_same a b e = cc e

      by : (c : Bool) → same_size y t ≡ c → (a : ℕ) → (if c then Some n else None) ≡ Some a → word y a ≡ word t n
      by true q a e = ap (word y) (sym (some_same n a e)) ∙ ap (λ z. word z n) (equal_sizes y t q)
      by false q a e = absurd (cc e)
  held_same at (kind.Word y) (boolean c) f = tt
  held_same at (kind.Word y) (integer j) f = absurd f
  held_same at kind.Bool (boolean c) f = refl
  held_same at kind.Bool (word t n) f = tt
  held_same at kind.Bool (integer j) f = absurd f
  held_same at kind.Int (integer j) f = absurd f
  held_same at kind.Int (word t n) f = tt
  held_same at kind.Int (boolean c) f = tt
  held_same at kind.Undeclared v f = tt
  held_same at (kind.Array y n) v f = tt

  written_back : (at : Span) (z : Option Size) (x : Var) (old : Value) → st.store (key_of (ref_of x)) ≡ Some old → Yields (λ t. t ≡ st) (all_written at z (lval.Var x ∷ []) (Some old ∷ []) st)
  written_back at z x old e =
      let r = ref_of x in
      yields_then (λ t. t ≡ st) (λ t. t ≡ st) (written z (lval.Var x) (Some old) st) (λ t. went [] t)
      (yields_then (λ o. o ≡ Some old) (λ t. t ≡ st) (held_or_unset r.span r.kind (Some old)) (λ h. went [] (with_value st (key_of r) h))
      (yields_then (λ h. h ≡ old) (λ o. o ≡ Some old) (held r.span r.kind old) (λ h. went [] (Some h)) (held_same r.span r.kind old (H.fits (key_of r) old e)) (λ h q. ap Some q))
      (λ o q. same_state st (key_of r) o (e ∙ sym q)))
      (λ t q. q)

  old_is : (at : Span) (x : Var) → Yields (λ old. st.store (key_of (ref_of x)) ≡ Some old) (old_value (lval.Var x ∷ []) at st)
  old_is at x =
      yields_then (λ e. e ≡ expr.Var x) (λ old. st.store (key_of (ref_of x)) ≡ Some old) (defined at (as_expr (lval.Var x))) (λ e. evaluated e (left_size (lval.Var x)) st) refl (λ e q.
      subst (λ (m : Meaning). Yields (λ old. st.store (key_of (ref_of x)) ≡ Some old) (m.run (left_size (lval.Var x)) st)) (sym (term_so e ∙ ap means (term_var e x q)))
      (yields_defined (λ old. st.store (key_of (ref_of x)) ≡ Some old) (ref_of x).span (st.store (key_of (ref_of x))) (λ v i. i)))

  anything : {A : Type 0} (e : Evaluation A) → Yields (λ v. Unit {0}) e
  anything (stuck w) = tt
  anything (went ns v) = tt

  -- behind the assignment, and as it was
  abbrev Behind : Var → Size → Term → Facts
  Behind x z t = renewed (key_of (ref_of x)) (gained g s (ref_of x).kind (the_word z t)) s

  abbrev Both : Var → Size → Term → State → Type 0
  Both x z t st' = Holds g sizes entry (common (Behind x z t) s) st'

  -- what is known of the value of a term
  abbrev KnownValue : Size → Term → Value → Type 0
  KnownValue z t v = Known g sizes entry s st H (λ t p z w. multiple_ok g sizes entry s st H t p z w) z t v

  -- the results are the value, or the old one
  abbrev IsOne : Var → Value → Results → Type 0
  IsOne x v ws = (ws ≡ Some v ∷ []) ⊎ ((old : Value) × ((ws ≡ Some old ∷ []) × (st.store (key_of (ref_of x)) ≡ Some old)))

  one_of : (at : Span) (x : Var) (c : Expr) (v : Value) → Yields (IsOne x v) (conditioned (lval.Var x ∷ []) (Some c) at (Some v ∷ []) st)
  one_of at x c v =
      yields_then (λ b. Unit {0}) (IsOne x v) (bool_in at c st) (λ b. and_then (old_value (lval.Var x ∷ []) at st) (λ old. went [] (chosen b (Some v ∷ []) old))) (anything _) (λ b u.
      yields_then (λ old. st.store (key_of (ref_of x)) ≡ Some old) (IsOne x v) (old_value (lval.Var x ∷ []) at st) (λ old. went [] (chosen b (Some v ∷ []) old)) (old_is at x) (λ old i. pick b old i))
    where
      pick : (b : Bool) (old : Value) → st.store (key_of (ref_of x)) ≡ Some old → IsOne x v (chosen b (Some v ∷ []) old)
      pick true old i = inl refl
      pick false old i = inr (old, (refl, i))

  back_ok : (at : Span) (zo : Option Size) (x : Var) (z : Size) (t : Term) (old : Value) → st.store (key_of (ref_of x)) ≡ Some old → Yields (Both x z t) (all_written at zo (lval.Var x ∷ []) (Some old ∷ []) st)
  back_ok at zo x z t old i =
      yields_all (λ t'. t' ≡ st) (Both x z t) (all_written at zo (lval.Var x ∷ []) (Some old ∷ []) st)
      (λ t' j. subst (Both x z t) (sym j) (fewer_hold g sizes entry (common (Behind x z t) s) s st (common_second (Behind x z t) s) H))
      (written_back at zo x old i)

  pub assign_if_ok : (x : Var) (o : Option BinOp) (e : Expr) (c : Expr) (at : Span) → IsAssigned sizes x o e → Yields (λ t. Holds g sizes entry (does g (assign (lval.Var x ∷ []) o e (Some c) at) s) t) (source.does (assign (lval.Var x ∷ []) o e (Some c) at) st)
  assign_if_ok x o e c at h = by (whole_of (Some (lval.Var x)) o e) refl
    where
      by : (m : Option Expr) → whole_of (Some (lval.Var x)) o e ≡ m → Yields (λ t. Holds g sizes entry (assigned g (lval.Var x ∷ []) m (Some c) s) t) (assigned_whole (lval.Var x ∷ []) m (Some c) at st)
      by None q = tt
      by (Some w) q =
          let zo = option_or (left_sizes (lval.Var x ∷ [])) (own_size w) in
          let z = size_or_64 zo in
          let t = term_of w in
          let run : Yields (KnownValue z t) (evaluated w zo st) = subst (λ (m : Meaning). Yields (KnownValue z t) (m.run zo st)) (sym (term_so w)) (known g sizes entry s st H (λ t p z w. multiple_ok g sizes entry s st H t p z w) z t zo (h.plain w q)) in
          yields_then (λ (vs : Results). (v : Value) × (vs ≡ Some v ∷ []) × KnownValue z t v) (Both x z t) (results_of (lval.Var x ∷ []) w at zo st) (λ vs. and_then (conditioned (lval.Var x ∷ []) (Some c) at vs st) (λ ws. all_written at zo (lval.Var x ∷ []) ws st))
          (yields_then (KnownValue z t) (λ (vs : Results). (v : Value) × (vs ≡ Some v ∷ []) × KnownValue z t v) (evaluated w zo st) (λ v. went [] (Some v ∷ [])) run (λ v k. (v, refl, k)))
          (λ vs k.
          subst (λ us. Yields (Both x z t) (and_then (conditioned (lval.Var x ∷ []) (Some c) at us st) (λ ws. all_written at zo (lval.Var x ∷ []) ws st))) (sym k.1)
          (yields_then (IsOne x k.0) (Both x z t) (conditioned (lval.Var x ∷ []) (Some c) at (Some k.0 ∷ []) st) (λ ws. all_written at zo (lval.Var x ∷ []) ws st) (one_of at x c k.0) (λ ws i. finish w k.0 k.2 ws i)))
        where
          finish : (w : Expr) (v : Value) → KnownValue (size_or_64 (option_or (left_sizes (lval.Var x ∷ [])) (own_size w))) (term_of w) v → (ws : Results) → IsOne x v ws → Yields (Both x (size_or_64 (option_or (left_sizes (lval.Var x ∷ [])) (own_size w))) (term_of w)) (all_written at (option_or (left_sizes (lval.Var x ∷ [])) (own_size w)) (lval.Var x ∷ []) ws st)
          finish w v k ws (inl j) =
              let zo = option_or (left_sizes (lval.Var x ∷ [])) (own_size w) in
              let z = size_or_64 zo in
              let t = term_of w in
              subst (λ us. Yields (Both x z t) (all_written at zo (lval.Var x ∷ []) us st)) (sym j)
              (yields_all (λ t'. Holds g sizes entry (Behind x z t) t') (Both x z t) (all_written at zo (lval.Var x ∷ []) (Some v ∷ []) st)
              (λ t' a. fewer_hold g sizes entry (common (Behind x z t) s) (Behind x z t) t' (common_first (Behind x z t) s) a)
              (written_then g sizes entry s st H (λ t p z w. multiple_ok g sizes entry s st H t p z w) at zo x v (λ t'. Holds g sizes entry (Behind x z t) t')
              (written_ok g sizes entry s st H (ref_of x) (ref_of x).kind z t (is_number t) v
              (λ y c. (sym (ap (λ kn. size_or_64 (option_or (option_or (size_of kn) None) (own_size w))) c), h.sized y c))
              h.no_number k.0 k.1 k.2)))
          finish w v k ws (inr (old, (j, i))) =
              let zo = option_or (left_sizes (lval.Var x ∷ [])) (own_size w) in
              subst (λ us. Yields (Both x (size_or_64 zo) (term_of w)) (all_written at zo (lval.Var x ∷ []) us st)) (sym j) (back_ok at zo x (size_or_64 zo) (term_of w) old i)
