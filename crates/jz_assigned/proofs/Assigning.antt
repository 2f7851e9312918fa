-- Where a run stands before an assignment to a variable it stands behind it, and where its conditions
-- are given it is not stuck.
use Rattle.std.proofs.Common.{◌≡◌, ℕ, [], ◌∷◌, Option, Some, None, Bool, true, false, refl, ap, sym, ◌∙◌, subst, if◌then◌else◌}
use Rattle.std.specs.Option.{option_or}
use Rattle.std.proofs.lemmas.Bool.{and_parts}
use Rattle.std.proofs.lemmas.List.Elements.{All-nil, All-cons}
use Rattle.jz_tree.specs.Span.{Span}
use Rattle.x64_insn.specs.Size.{Size}
use Rattle.jz_tree.specs.declared.expr.BinOp.{BinOp}
use Rattle.jz_tree.specs.declared.expr.Expr.{Expr}
use Rattle.jz_tree.specs.declared.expr.Expr.TheVariants as expr
use Rattle.jz_tree.specs.declared.expr.Var.{Var}
use Rattle.jz_tree.specs.declared.stmt.Lval.TheVariants as lval
use Rattle.jz_runs.specs.Rules.{stuck, went}
use Rattle.jz_meaning.specs.declared.access.Kind.{Kind}
use Rattle.jz_meaning.specs.declared.access.Kind.TheVariants as kind
use Rattle.jz_meaning.specs.Attempts.{Evaluation, and_then, defined}
use Rattle.jz_meaning.specs.States.{Value, word, boolean, integer, Key, same_key, State}
use Rattle.jz_meaning.specs.Operators.{word_at, same_size}
use Rattle.jz_meaning.specs.Values.{Ref, Meaning, key_of, ref_of, own_size, evaluated, size_of}
use Rattle.jz_meaning.specs.Assignments.{Results, left_sizes, left_size, whole_of, held, held_or_unset, with_value, written, all_written, results_of, old_value, chosen, conditioned, bool_in, truth as truth_of, assigned_whole}
use Rattle.jz_meaning.specs.Statements as source
use Rattle.jz_meaning.specs.Statements.{assign}
use Rattle.jz_run_laws.specs.Kinds.{Kinds, IsOfKinds}
use Rattle.jz_run_laws.specs.DeclaredKinds.{LeftDeclared}
use Rattle.jz_run_laws.specs.Kept.{IfWent}
use Rattle.jz_run_laws.proofs.Nodes.{operations_keep}
use Rattle.jz_terms.specs.Terms.{Term, var, term_of, means}
use Rattle.jz_terms.proofs.Bridge.{term_so}
use Rattle.jz_terms.proofs.TermForms.{term_var}
use Rattle.jz_facts.specs.Facts.{Fact, Set, Cell, AtLeast, AtMost, Under, Is, Multiple, Facts, Given, subject}
use Rattle.jz_facts.specs.Holding.{does, assigned, renewed, gained, the_word}
use Rattle.jz_facts.specs.Intervals.{size_or_64}
use Rattle.jz_fact_laws.specs.Saying.{Holds, Yields, IsAssigned, is_number}
use Rattle.jz_fact_laws.proofs.Fitting.{yields_then}
use Rattle.jz_fact_laws.proofs.Setting.{same_key-true}
use Rattle.jz_fact_laws.proofs.Holding.{assignments_hold}
use Rattle.jz_fact_laws.proofs.Conditional.{assign_if_ok}
use Rattle.jz_unstuck.specs.Conditions.{asks, asks_expr, asks_if, asks_old, asks_assign, asks_operation}
use Rattle.jz_standing.specs.Typing.{whole, sizes_of, NoNumbers, IsScalar, IsWord, IsAnswer, IsWordAssigned, HasAnswer}
use Rattle.jz_standing.specs.Standing.{is_of_cell, AreValid, Stands}
use Rattle.jz_standing.proofs.Held.{holds}
use Rattle.jz_standing.proofs.Making.{OfSize, IsTruth, same_size-refl}
use Rattle.jz_standing.proofs.Typed.{any_yields}
use Rattle.jz_standing.proofs.Plain.{plain_word, scalar_size}
use Rattle.jz_unstuck.proofs.Sums.{Runs, runs_then, both_met}
use Rattle.jz_unstuck.proofs.Firm.{word_runs, answer_runs}

pub if_went : {A : Type 0} (P : A → Type 0) (e : Evaluation A) → IfWent P e → Yields P e
if_went P (stuck k) h = tt
if_went P (went ns x) h = h

pub three : {A : Type 0} (P Q R S : A → Type 0) (e : Evaluation A) → ((x : A) → P x → Q x → R x → S x) → Yields P e → Yields Q e → Yields R e → Yields S e
three P Q R S (stuck k) f p q r = tt
three P Q R S (went ns x) f p q r = f x p q r

module _ (g : Given) (kinds : Kinds) (in_frame : Key → Bool) (entry : Key → ℕ) (s : Facts) (st : State) (H : Stands g kinds in_frame entry s st) (nn : NoNumbers kinds) where
  -- ---- the memory stays

  memory_stays : (at : Span) (zo : Option Size) (x : Var) (ws : Results) → Yields (λ t. t.memory ≡ st.memory) (all_written at zo (lval.Var x ∷ []) ws st)
  memory_stays at zo x [] = tt
  memory_stays at zo x (v ∷ []) =
      let r = ref_of x in
      yields_then (λ t. t.memory ≡ st.memory) (λ t. t.memory ≡ st.memory) (written zo (lval.Var x) v st) (λ t. went [] t)
      (yields_then (λ h. Unit {0}) (λ t. t.memory ≡ st.memory) (held_or_unset r.span r.kind v) (λ h. went [] (with_value st (key_of r) h)) (any_yields _) (λ h u. refl)) (λ t q. q)
  memory_stays at zo x (v ∷ w ∷ ws) =
      yields_then (λ t. Unit {0}) (λ t. t.memory ≡ st.memory) (written zo (lval.Var x) v st) (λ t. all_written at zo [] (w ∷ ws) t) (any_yields _) (λ t u. tt)

  memory_same : (x : Var) (m : Option Expr) (c : Option Expr) (at : Span) → Yields (λ t. t.memory ≡ st.memory) (assigned_whole (lval.Var x ∷ []) m c at st)
  memory_same x None c at = tt
  memory_same x (Some w) c at =
      let zo = option_or (left_sizes (lval.Var x ∷ [])) (own_size w) in
      yields_then (λ vs. Unit {0}) (λ t. t.memory ≡ st.memory) (results_of (lval.Var x ∷ []) w at zo st) (λ vs. and_then (conditioned (lval.Var x ∷ []) c at vs st) (λ ws. all_written at zo (lval.Var x ∷ []) ws st)) (any_yields _) (λ vs u.
      yields_then (λ ws. Unit {0}) (λ t. t.memory ≡ st.memory) (conditioned (lval.Var x ∷ []) c at vs st) (λ ws. all_written at zo (lval.Var x ∷ []) ws st) (any_yields _) (λ ws u. memory_stays at zo x ws))

  -- ---- the facts are of scalars or cells

  pub gained_scalar : (k : Kind) (z : Size) (t : Term) (f : Fact) → gained g s k (the_word z t) f ≡ true → is_of_cell f ≡ false
  gained_scalar k z t (Set v) e = refl
  gained_scalar k z t (AtLeast v c) e = refl
  gained_scalar k z t (AtMost v c) e = refl
  gained_scalar k z t (Under v x) e = refl
  gained_scalar k z t (Is v x) e = refl
  gained_scalar k z t (Multiple v m) e = refl
  gained_scalar (kind.Word y) z t (Cell a j) e = absurd (cc e)
  gained_scalar kind.Bool z t (Cell a j) e = absurd (cc e)
  gained_scalar kind.Int z t (Cell a j) e = absurd (cc e)
  gained_scalar kind.Undeclared z t (Cell a j) e = absurd (cc e)
  gained_scalar (kind.Array y n) z t (Cell a j) e = absurd (cc e)

  renewed_apart : (x : Ref) (z : Size) (t : Term) → in_frame (whole (key_of x)) ≡ false → (f : Fact) → renewed (key_of x) (gained g s x.kind (the_word z t)) s f ≡ true → in_frame (whole (subject f)) ≡ is_of_cell f
  renewed_apart x z t i f e = by (same_key (subject f) (key_of x)) refl e
    where
      by : (c : Bool) → same_key (subject f) (key_of x) ≡ c → (if c then gained g s x.kind (the_word z t) f else s f) ≡ true → in_frame (whole (subject f)) ≡ is_of_cell f
      by true q e = ap (λ k. in_frame (whole k)) (same_key-true (subject f) (key_of x) q) ∙ i ∙ sym (gained_scalar x.kind z t f e)
      by false q e = H.apart f e

  apart_behind : (x : Var) (m : Option Expr) (c : Option Expr) → in_frame (whole (key_of (ref_of x))) ≡ false → (f : Fact) → assigned g (lval.Var x ∷ []) m c s f ≡ true → in_frame (whole (subject f)) ≡ is_of_cell f
  apart_behind x None c i f e = H.apart f e
  apart_behind x (Some w) None i f e = renewed_apart (ref_of x) (size_or_64 (option_or (left_sizes (lval.Var x ∷ [])) (own_size w))) (term_of w) i f e
  apart_behind x (Some w) (Some c) i f e = H.apart f (and_parts _ (s f) e).1

  -- ---- it stands

  in_order : (x : Var) (o : Option BinOp) (e : Expr) → IsWordAssigned kinds in_frame x o e → IsAssigned (sizes_of kinds) x o e
  in_order x o e i = record {
    plain = λ w q. plain_word kinds in_frame (term_of w) (Some i.size) i.size (i.value w q);
    sized = λ y q. subst (λ z. sizes_of kinds (key_of (ref_of x)) ≡ Some z) (same (sym i.is ∙ q)) (scalar_size kinds in_frame (ref_of x) i.size i.is i.scalar);
    no_number = λ q. absurd (cc (sym i.is ∙ q));
  }
    where
      same : {y z : Size} → kind.Word y ≡ kind.Word z → y ≡ z
      same e = cc e

  facts_behind : (x : Var) (o : Option BinOp) (e : Expr) (c : Option Expr) (at : Span) → IsWordAssigned kinds in_frame x o e → Yields (λ t. Holds g (sizes_of kinds) entry (does g (assign (lval.Var x ∷ []) o e c at) s) t) (source.does (assign (lval.Var x ∷ []) o e c at) st)
  facts_behind x o e None at i = assignments_hold g (sizes_of kinds) entry s st (holds g kinds in_frame entry s st nn H) x o e at (in_order x o e i)
  facts_behind x o e (Some c) at i = assign_if_ok g (sizes_of kinds) entry s st (holds g kinds in_frame entry s st nn H) x o e c at (in_order x o e i)

  pub assigned_stands : (x : Var) (o : Option BinOp) (e : Expr) (c : Option Expr) (at : Span) → IsWordAssigned kinds in_frame x o e → Yields (λ t. Stands g kinds in_frame entry (does g (assign (lval.Var x ∷ []) o e c at) s) t) (source.does (assign (lval.Var x ∷ []) o e c at) st)
  assigned_stands x o e c at i =
      three (λ t. Holds g (sizes_of kinds) entry (does g (assign (lval.Var x ∷ []) o e c at) s) t) (IsOfKinds kinds) (λ t. t.memory ≡ st.memory) (λ t. Stands g kinds in_frame entry (does g (assign (lval.Var x ∷ []) o e c at) s) t) (source.does (assign (lval.Var x ∷ []) o e c at) st)
      (λ t h k m. record {
        says = h.says;
        apart = apart_behind x (whole_of (Some (lval.Var x)) o e) c i.scalar.apart;
        kept = k;
        ranges = H.ranges;
        least = H.least;
        regions = subst (λ d. AreValid entry d g.regions) (sym m) H.regions;
      })
      (facts_behind x o e c at i)
      (if_went (IsOfKinds kinds) (source.does (assign (lval.Var x ∷ []) o e c at) st) (operations_keep kinds (assign (lval.Var x ∷ []) o e c at) st (All-cons (LeftDeclared kinds) (lval.Var x) [] i.scalar.declared (All-nil (LeftDeclared kinds))) H.kept))
      (memory_same x (whole_of (Some (lval.Var x)) o e) c at)

  -- ---- it is not stuck

  word_held : (at : Span) (z : Size) (k : Bool) (v : Value) → OfSize z k v → Runs (λ h. Unit {0}) (and_then (word_at at z v) (λ a. went [] (word z a)))
  word_held at z k (word y n) h = subst (λ u. Runs (λ h. Unit {0}) (and_then (defined at (if same_size z u then Some n else None)) (λ a. went [] (word z a)))) (sym h) (subst (λ c. Runs (λ h. Unit {0}) (and_then (defined at (if c then Some n else None)) (λ a. went [] (word z a)))) (sym (same_size-refl z)) tt)
  word_held at z k (integer j) h = tt
  word_held at z k (boolean c) h = absurd h

  write_runs : (at : Span) (zo : Option Size) (x : Var) (z : Size) (k : Bool) (v : Value) → (ref_of x).kind ≡ kind.Word z → OfSize z k v → Runs (λ t. Unit {0}) (all_written at zo (lval.Var x ∷ []) (Some v ∷ []) st)
  write_runs at zo x z k v e h =
      let r = ref_of x in
      runs_then (λ t. Unit {0}) (λ t. Unit {0}) (written zo (lval.Var x) (Some v) st) (λ t. went [] t)
      (runs_then (λ u. Unit {0}) (λ t. Unit {0}) (held_or_unset r.span r.kind (Some v)) (λ u. went [] (with_value st (key_of r) u))
      (runs_then (λ u. Unit {0}) (λ u. Unit {0}) (held r.span r.kind v) (λ u. went [] (Some u)) (subst (λ d. Runs (λ u. Unit {0}) (held r.span d v)) (sym e) (word_held r.span z k v h)) (λ u t. tt)) (λ u t. tt)) (λ t u. tt)

  -- one word
  IsOne : Size → Results → Type 0
  IsOne z vs = (k : Bool) × (v : Value) × (vs ≡ Some v ∷ []) × OfSize z k v

  size_is : (x : Var) (z : Size) (w : Expr) → (ref_of x).kind ≡ kind.Word z → option_or (left_sizes (lval.Var x ∷ [])) (own_size w) ≡ Some z
  size_is x z w e = ap (λ d. option_or (option_or (size_of d) None) (own_size w)) e

  value_runs : (x : Var) (w : Expr) (at : Span) (zo : Option Size) (z : Size) → zo ≡ Some z → IsWord kinds in_frame (Some z) z (term_of w) → asks_expr g s zo w ≡ None → Runs (IsOne z) (results_of (lval.Var x ∷ []) w at zo st)
  unfolding IsOne
  value_runs x w at zo z e i q =
      subst (λ (m : Meaning). Runs (IsOne z) (and_then (m.run zo st) (λ v. went [] (Some v ∷ [])))) (sym (term_so w))
      (runs_then (OfSize z (is_number (term_of w))) (IsOne z) ((means (term_of w)).run zo st) (λ v. went [] (Some v ∷ []))
      (word_runs g kinds in_frame entry s st H nn (term_of w) zo z (subst (λ u. IsWord kinds in_frame u z (term_of w)) (sym e) i) q) (λ v h. (is_number (term_of w), v, refl, h)))

  answer_goes : (at : Span) (c : Expr) → IsAnswer kinds in_frame (term_of c) → asks_expr g s None c ≡ None → Runs (λ b. Unit {0}) (bool_in at c st)
  answer_goes at c i q =
      subst (λ (m : Meaning). Runs (λ b. Unit {0}) (and_then (m.run None st) (truth_of at))) (sym (term_so c))
      (runs_then IsTruth (λ b. Unit {0}) ((means (term_of c)).run None st) (truth_of at) (answer_runs g kinds in_frame entry s st H nn (term_of c) None i q) (λ v h. by v h))
    where
      by : (v : Value) → IsTruth v → Runs (λ b. Unit {0}) (truth_of at v)
      by (boolean b) h = tt
      by (word z n) h = absurd h
      by (integer j) h = absurd h

  old_runs : (x : Var) (z : Size) (at : Span) → (ref_of x).kind ≡ kind.Word z → IsScalar kinds in_frame (ref_of x) → asks_expr g s (left_size (lval.Var x)) (expr.Var x) ≡ None → Runs (OfSize z false) (old_value (lval.Var x ∷ []) at st)
  old_runs x z at e i q =
      let t : term_of (expr.Var x) ≡ var (ref_of x) = term_var (expr.Var x) x refl in
      runs_then (λ d. d ≡ expr.Var x) (OfSize z false) (went [] (expr.Var x)) (λ d. evaluated d (left_size (lval.Var x)) st) refl (λ d p.
      subst (λ d. Runs (OfSize z false) (evaluated d (left_size (lval.Var x)) st)) (sym p)
      (subst (λ (m : Meaning). Runs (OfSize z false) (m.run (left_size (lval.Var x)) st)) (sym (term_so (expr.Var x) ∙ ap means t))
      (word_runs g kinds in_frame entry s st H nn (var (ref_of x)) (left_size (lval.Var x)) z (e, i) (subst (λ u. asks g s (left_size (lval.Var x)) u ≡ None) t q))))

  condition_runs : (x : Var) (z : Size) (at : Span) (c : Option Expr) (vs : Results) → (ref_of x).kind ≡ kind.Word z → IsScalar kinds in_frame (ref_of x) → HasAnswer kinds in_frame c → asks_if g s None c ≡ None → asks_old g s c (Some (lval.Var x)) ≡ None → IsOne z vs → Runs (IsOne z) (conditioned (lval.Var x ∷ []) c at vs st)
  unfolding IsOne
  condition_runs x z at None vs e i a p q h = h
  condition_runs x z at (Some c) vs e i a p q h =
      runs_then (λ b. Unit {0}) (IsOne z) (bool_in at c st) (λ b. and_then (old_value (lval.Var x ∷ []) at st) (λ old. went [] (chosen b vs old))) (answer_goes at c a p) (λ b u.
      runs_then (OfSize z false) (IsOne z) (old_value (lval.Var x ∷ []) at st) (λ old. went [] (chosen b vs old)) (old_runs x z at e i q) (λ old k. pick b old k))
    where
      pick : (b : Bool) (old : Value) → OfSize z false old → IsOne z (chosen b vs old)
      pick true old k = h
      pick false old k = (false, old, refl, k)

  whole_runs : (x : Var) (m : Option Expr) (w : Expr) (c : Option Expr) (at : Span) (z : Size) → m ≡ Some w → (ref_of x).kind ≡ kind.Word z → IsScalar kinds in_frame (ref_of x) → IsWord kinds in_frame (Some z) z (term_of w) → HasAnswer kinds in_frame c → asks_assign g s (lval.Var x ∷ []) m c ≡ None → Runs (λ t. Unit {0}) (assigned_whole (lval.Var x ∷ []) m c at st)
  unfolding IsOne
  whole_runs x None w c at z p e i v a q = absurd (cc p)
  whole_runs x (Some u) w c at z p e i v a q =
      let zo = option_or (left_sizes (lval.Var x ∷ [])) (own_size u) in
      let f = both_met (asks_expr g s zo u) _ q in
      let d = both_met (asks_if g s None c) _ f.1 in
      let l = both_met (asks_old g s c (Some (lval.Var x))) _ d.1 in
      runs_then (IsOne z) (λ t. Unit {0}) (results_of (lval.Var x ∷ []) u at zo st) (λ vs. and_then (conditioned (lval.Var x ∷ []) c at vs st) (λ ws. all_written at zo (lval.Var x ∷ []) ws st))
      (value_runs x u at zo z (size_is x z u e) (subst (λ w. IsWord kinds in_frame (Some z) z (term_of w)) (sym (same p)) v) f.0) (λ vs h.
      runs_then (IsOne z) (λ t. Unit {0}) (conditioned (lval.Var x ∷ []) c at vs st) (λ ws. all_written at zo (lval.Var x ∷ []) ws st) (condition_runs x z at c vs e i a d.0 l.0 h) (λ ws k.
      subst (λ us. Runs (λ t. Unit {0}) (all_written at zo (lval.Var x ∷ []) us st)) (sym k.2) (write_runs at zo x z k.0 k.1 e k.3)))
    where
      same : Some u ≡ Some w → u ≡ w
      same e = cc e

  pub assigned_runs : (x : Var) (o : Option BinOp) (e : Expr) (c : Option Expr) (at : Span) → IsWordAssigned kinds in_frame x o e → HasAnswer kinds in_frame c → asks_operation g (assign (lval.Var x ∷ []) o e c at) s ≡ None → Runs (λ t. Unit {0}) (source.does (assign (lval.Var x ∷ []) o e c at) st)
  assigned_runs x None e c at i a q = whole_runs x (whole_of (Some (lval.Var x)) None e) e c at i.size refl i.is i.scalar (i.value e refl) a q
  assigned_runs x (Some op) e c at i a q = by (whole_of (Some (lval.Var x)) (Some op) e) refl
    where
      by : (m : Option Expr) → whole_of (Some (lval.Var x)) (Some op) e ≡ m → Runs (λ t. Unit {0}) (assigned_whole (lval.Var x ∷ []) (whole_of (Some (lval.Var x)) (Some op) e) c at st)
      by None p = absurd (cc p)
      by (Some w) p = whole_runs x (whole_of (Some (lval.Var x)) (Some op) e) w c at i.size p i.is i.scalar (i.value w p) a q
