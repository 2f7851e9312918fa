-- The law of one operation: an assignment to a variable, and a test.
use Rattle.std.proofs.Common.{◌≡◌, ◌⊎◌, inl, inr, ℕ, [], ◌∷◌, Option, Some, None, Bool, true, refl, ap, sym, subst}
use Rattle.std.specs.Option.{option_or}
use Rattle.jz_tree.specs.Span.{Span}
use Rattle.x64_insn.specs.Size.{Size}
use Rattle.jz_tree.specs.declared.expr.BinOp.{BinOp}
use Rattle.jz_tree.specs.declared.expr.Expr.{Expr}
use Rattle.jz_tree.specs.declared.expr.Var.{Var}
use Rattle.jz_tree.specs.declared.stmt.Lval.TheVariants as lval
use Rattle.jz_runs.specs.Rules.{stuck, went}
use Rattle.jz_meaning.specs.Attempts.{Evaluation, and_then}
use Rattle.jz_meaning.specs.States.{Value, word, boolean, integer, Key, State}
use Rattle.jz_meaning.specs.Values.{key_of, ref_of, own_size, evaluated, size_of, Meaning}
use Rattle.jz_meaning.specs.Assignments.{assigned_whole, Results, left_sizes, whole_of, written, all_written, results_of, conditioned, truth as truth_of}
use Rattle.jz_meaning.specs.Statements as source
use Rattle.jz_meaning.specs.Statements.{assign, Condition}
use Rattle.jz_facts.specs.Terms.{Term, means, term_of}
use Rattle.jz_facts.specs.Facts.{Fact, Facts, Given}
use Rattle.jz_facts.specs.Intervals.{interval, size_or_64}
use Rattle.jz_facts.specs.Holding.{assigned, does, renewed, gained, the_word}
use Rattle.jz_facts.specs.Tests.{adds, tested}
use Rattle.jz_fact_laws.specs.Saying.{Says, Holds, Yields, is_number, IsPlain, AreSized, IsAssigned}
use Rattle.jz_fact_laws.proofs.Fitting.{yields_then}
use Rattle.jz_fact_laws.proofs.Ranges.{Good, term_ok}
use Rattle.jz_facts.proofs.Bridge.{term_so}
use Rattle.jz_fact_laws.proofs.Setting.{CopyOf, copy_ok, MultipleValue, written_ok}
use Rattle.jz_fact_laws.proofs.Testing.{either, test_ok}

module _ (g : Given) (sizes : Key → Option Size) (entry : Key → ℕ) (s : Facts) (st : State) (H : Holds g sizes entry s st)
    (MO : (t : Term) → IsPlain sizes t → (z : Size) (w : Option Size) → Yields (MultipleValue g sizes entry s st H z t) ((means t).run w st)) where
  -- what is known of the value of a term
  abbrev pub Known : Size → Term → Value → Type 0
  Known z t v = Good (interval g s z t) (is_number t) z v × CopyOf g sizes entry s st H t v × MultipleValue g sizes entry s st H z t v

  pub known : (z : Size) (t : Term) (w : Option Size) → IsPlain sizes t → Yields (Known z t) ((means t).run w st)
  known z t w p = by ((means t).run w st) (term_ok g sizes entry s st H t p z w) (copy_ok g sizes entry s st H t w) (MO t p z w)
    where
      by : (e : Evaluation Value) → Yields (Good (interval g s z t) (is_number t) z) e → Yields (CopyOf g sizes entry s st H t) e → Yields (MultipleValue g sizes entry s st H z t) e → Yields (Known z t) e
      by (stuck k) a b c = tt
      by (went ns v) a b c = (a, b, c)

  pub written_then : (at : Span) (z : Option Size) (x : Var) (v : Value) (P : State → Type 0) → Yields P (written z (lval.Var x) (Some v) st) → Yields P (all_written at z (lval.Var x ∷ []) (Some v ∷ []) st)
  written_then at z x v P h = yields_then P P (written z (lval.Var x) (Some v) st) (λ t. went [] t) h (λ t q. q)

  pub assign_ok : (x : Var) (o : Option BinOp) (e : Expr) (at : Span) → IsAssigned sizes x o e → Yields (λ t. Holds g sizes entry (does g (assign (lval.Var x ∷ []) o e None at) s) t) (source.does (assign (lval.Var x ∷ []) o e None at) st)
  assign_ok x o e at h = by (whole_of (Some (lval.Var x)) o e) refl
    where
      by : (m : Option Expr) → whole_of (Some (lval.Var x)) o e ≡ m → Yields (λ t. Holds g sizes entry (assigned g (lval.Var x ∷ []) m None s) t) (assigned_whole (lval.Var x ∷ []) m None at st)
      by None q = tt
      by (Some w) q =
          let zo = option_or (left_sizes (lval.Var x ∷ [])) (own_size w) in
          let z = size_or_64 zo in
          let t = term_of w in
          let Q = λ (t' : State). Holds g sizes entry (renewed (key_of (ref_of x)) (gained g s (ref_of x).kind (the_word z t)) s) t' in
          let run : Yields (Known z t) (evaluated w zo st) = subst (λ (m : Meaning). Yields (Known z t) (m.run zo st)) (sym (term_so w)) (known z t zo (h.plain w q)) in
          yields_then (λ (vs : Results). (v : Value) × (vs ≡ Some v ∷ []) × Known z t v) Q (results_of (lval.Var x ∷ []) w at zo st) (λ vs. and_then (conditioned (lval.Var x ∷ []) None at vs st) (λ ws. all_written at zo (lval.Var x ∷ []) ws st))
          (yields_then (Known z t) (λ (vs : Results). (v : Value) × (vs ≡ Some v ∷ []) × Known z t v) (evaluated w zo st) (λ v. went [] (Some v ∷ [])) run (λ v k. (v, refl, k)))
          (λ vs k.
          subst (λ us. Yields Q (and_then (conditioned (lval.Var x ∷ []) None at us st) (λ ws. all_written at zo (lval.Var x ∷ []) ws st))) (sym k.1)
          (yields_then (λ us. us ≡ Some k.0 ∷ []) Q (went [] (Some k.0 ∷ [])) (λ ws. all_written at zo (lval.Var x ∷ []) ws st) refl (λ us i.
          subst (λ ws. Yields Q (all_written at zo (lval.Var x ∷ []) ws st)) (sym i)
          (written_then at zo x k.0 Q
          (written_ok g sizes entry s st H (ref_of x) (ref_of x).kind z t (is_number t) k.0
          (λ y c. (sym (ap (λ kn. size_or_64 (option_or (option_or (size_of kn) None) (own_size w))) c), h.sized y c))
          h.no_number k.2.0 k.2.1 k.2.2)))))

  -- a test with its answer
  pub tested_ok : (c : Condition) → IsPlain sizes (term_of c.cond) → AreSized st None (term_of c.cond) → Yields (λ z. Holds g sizes entry (tested g c z s) st) (source.tests c st)
  tested_ok c p u =
      let run = subst (λ (m : Meaning). Yields (λ v. (z : Bool) → v ≡ boolean z → (f : Fact) → adds g s (term_of c.cond) z f ≡ true → Says entry st.store f) (m.run None st)) (sym (term_so c.cond)) (test_ok g sizes entry s st H MO (term_of c.cond) None p u) in
      yields_then (λ v. (z : Bool) → v ≡ boolean z → (f : Fact) → adds g s (term_of c.cond) z f ≡ true → Says entry st.store f) (λ z. Holds g sizes entry (tested g c z s) st) (evaluated c.cond None st) (truth_of c.at) run (λ v h. by v h)
    where
      by : (v : Value) → ((z : Bool) → v ≡ boolean z → (f : Fact) → adds g s (term_of c.cond) z f ≡ true → Says entry st.store f) → Yields (λ z. Holds g sizes entry (tested g c z s) st) (truth_of c.at v)
      by (boolean z) h = record { says = λ f e. two f (either (s f) (adds g s (term_of c.cond) z f) e); fits = H.fits; sized = H.sized; bytes = H.bytes; ranges = H.ranges }
        where
          two : (f : Fact) → (s f ≡ true) ⊎ (adds g s (term_of c.cond) z f ≡ true) → Says entry st.store f
          two f (inl e) = H.says f e
          two f (inr e) = h z refl f e
      by (word y n) h = tt
      by (integer j) h = tt
