-- Where a run stands behind two results, and that it is not stuck.
use Rattle.std.proofs.Common.{◌≡◌, ◌⊎◌, inl, inr, ◌<◌, ℕ, [], ◌∷◌, Option, Some, None, Bool, true, false, refl, ap, sym, ◌∙◌, subst, if◌then◌else◌}
use Rattle.std.specs.Prelude.{◌&&◌}
use Rattle.std.specs.Option.{option_or}
use Rattle.std.proofs.lemmas.List.Elements.{All-nil, All-cons}
use Rattle.jz_tree.specs.Span.{Span}
use Rattle.x64_insn.specs.Size.{Size}
use Rattle.jz_tree.specs.declared.expr.BinOp.{BinOp}
use Rattle.jz_tree.specs.declared.expr.Expr.{Expr}
use Rattle.jz_tree.specs.declared.expr.Expr.TheOpen.{Expr-F}
use Rattle.jz_tree.specs.declared.expr.Expr.TheViews.{out-Expr, roll-Expr, roll-out-Expr}
use Rattle.jz_tree.specs.declared.expr.Var.{Var}
use Rattle.jz_tree.specs.declared.stmt.Lval.{Lval}
use Rattle.jz_tree.specs.declared.stmt.Lval.TheVariants as lval
use Rattle.jz_runs.specs.Rules.{stuck, went}
use Rattle.jz_meaning.specs.declared.access.Kind.{Kind}
use Rattle.jz_meaning.specs.declared.access.Kind.TheVariants as kind
use Rattle.jz_meaning.specs.declared.value.Why.TheVariants.{Init}
use Rattle.jz_meaning.specs.Attempts.{Evaluation, stuck_at, and_then}
use Rattle.jz_meaning.specs.States.{Value, word, boolean, integer, Key, same_key, Store, put, State}
use Rattle.jz_meaning.specs.Operators.{word_at, binary}
use Rattle.jz_meaning.specs.Values.{Ref, Meaning, key_of, ref_of, own_size}
use Rattle.jz_meaning.specs.Assignments.{Layer, Results, left_sizes, held_or_unset, with_value, written, all_written as all_put, word_in, bool_in, truth as truth_of, two_results, with_two, with_three, two_of, conditioned, assigned_whole}
use Rattle.jz_meaning.specs.Statements as source
use Rattle.jz_meaning.specs.Statements.{assign}
use Rattle.jz_run_laws.specs.Kinds.{Kinds, IsOfKinds}
use Rattle.jz_run_laws.specs.DeclaredKinds.{LeftDeclared}
use Rattle.jz_run_laws.proofs.Nodes.{operations_keep}
use Rattle.jz_terms.specs.Terms.{Term, bin, term_of, means}
use Rattle.jz_terms.proofs.Bridge.{term_so, term_is}
use Rattle.jz_facts.specs.Facts.{Fact, Set, Cell, AtLeast, AtMost, Under, Is, Multiple, Facts, Given, subject}
use Rattle.jz_facts.specs.Intervals.{size_or_64}
use Rattle.jz_facts.specs.Holding.{some_value, the_word, renewed, gained, assigned, does, all_written}
use Rattle.jz_facts.specs.Holding as holding
use Rattle.jz_fact_laws.specs.Saying.{Says, Holds, Yields, IsPlain, is_number}
use Rattle.jz_fact_laws.proofs.Fitting.{yields_then, yields_all}
use Rattle.jz_fact_laws.proofs.Setting.{same_key-true, same_key-refl, written_ok}
use Rattle.jz_fact_laws.proofs.MultipleTerms.{multiple_ok}
use Rattle.jz_fact_laws.proofs.Law.{Known, known}
use Rattle.jz_alarms.specs.Conditions.{asks, asks_expr, asks_left, asks_lefts, asks_assign, asks_operation}
use Rattle.jz_standing.specs.Typing.{whole, sizes_of, NoNumbers, IsScalar}
use Rattle.jz_instructed.specs.Instructed.{Shape, a_flag, a_word, a_pinned, TakesShape}
use Rattle.jz_two_results.specs.TwoResults.{Pair, of_sum, of_difference, of_product, op_of, before, last_of, IsPair, IsCarriedPair, IsPaired}
use Rattle.jz_standing.specs.Standing.{is_of_cell, Stands}
use Rattle.jz_standing.proofs.Held.{holds}
use Rattle.jz_standing.proofs.Typed.{flag_typed, typed, any_yields}
use Rattle.jz_standing.proofs.Plain.{plain_flag, plain_word, scalar_size}
use Rattle.jz_instructed.proofs.Sums.{both_met, Runs, runs_then, runs_yields}
use Rattle.jz_instructed.proofs.Marks.{seat, says_same, put_elsewhere, scalar_elsewhere}
use Rattle.jz_instructed.proofs.Assigning.{if_went, three, gained_scalar}
use Rattle.jz_instructed.proofs.Instructing.{IsGot}
use Rattle.jz_instructed.proofs.Lasts.{Behind, cell_behind, store_behind}
use Rattle.jz_instructed.proofs.Lefts.{Half, word_held, declared_left, Before, here, as_here, half_behind, flag_run, pinned_run, last_goes}
use Rattle.jz_instructed.proofs.Operands.{word_in_runs, bool_in_runs}
use Rattle.jz_words.proofs.Residues.{residue_below}
use Rattle.jz_fact_laws.proofs.Ranges.{Good, term_ok}
use Rattle.jz_intervals.specs.declared.interval.Interval.{Interval}
use Rattle.jz_facts.specs.Intervals.{interval}
use Rattle.x64_insn.specs.Sizes.{modulus}
use Rattle.jz_standing.specs.Typing.{IsFlag}
use Rattle.jz_terms.specs.Terms.{num, truth, var, cell, load, neg, inv, cast}
use Rattle.jz_standing.proofs.Making.{OfSize}
use Rattle.jz_two_results.proofs.Carries.{IsBelow, carried_of, carries_go}
use Rattle.jz_two_results.proofs.Pairs.{IsPairOf, pair_of, results_go}

-- ---- a pair and its term

pair_term : (w : Expr) (o : BinOp) (a b : Expr) (at : Span) → out-Expr w ≡ Expr-F.Bin o a b at → term_of w ≡ bin o (term_of a) (term_of b) at
pair_term w o a b at e = ap term_of (sym (roll-out-Expr w) ∙ ap roll-Expr e) ∙ term_is (Expr-F.Bin o a b at)

as_binary : (p : Pair) (P : Value → Type 0) (a b : Term) (at : Span) (z : Size) (st : State) → Yields P ((means (bin (op_of p) a b at)).run (Some z) st) → Yields P (and_then ((means a).run (Some z) st) (λ v. and_then ((means b).run (Some z) st) (λ u. binary (op_of p) at (Some z) v u)))
as_binary of_sum P a b at z st h = h
as_binary of_difference P a b at z st h = h
as_binary of_product P a b at z st h = h

as_asked : (g : Given) (s : Facts) (p : Pair) (a b : Term) (at : Span) (z : Size) → asks g s (Some z) (bin (op_of p) a b at) ≡ None → (asks g s (Some z) a ≡ None) × (asks g s (Some z) b ≡ None)
as_asked g s of_sum a b at z q = let c = both_met (asks g s (Some z) a) _ q in (c.0, (both_met (asks g s (Some z) b) _ c.1).0)
as_asked g s of_difference a b at z q = let c = both_met (asks g s (Some z) a) _ q in (c.0, (both_met (asks g s (Some z) b) _ c.1).0)
as_asked g s of_product a b at z q = let c = both_met (asks g s (Some z) a) _ q in (c.0, (both_met (asks g s (Some z) b) _ c.1).0)

as_carried : (p : Pair) (P : Value → Type 0) (a b c : Term) (inner at : Span) (z : Size) (st : State) → Yields P ((means (bin (op_of p) (bin (op_of p) a b inner) c at)).run (Some z) st) → Yields P (and_then (and_then ((means a).run (Some z) st) (λ v. and_then ((means b).run (Some z) st) (λ u. binary (op_of p) inner (Some z) v u))) (λ s. and_then ((means c).run (Some z) st) (λ c. binary (op_of p) at (Some z) s c)))
as_carried of_sum P a b c inner at z st h = h
as_carried of_difference P a b c inner at z st h = h
as_carried of_product P a b c inner at z st h = h

below : (i : Interval) (k : Bool) (z : Size) (v : Value) → OfSize z k v → Good i k z v → IsBelow z v
below i k z (word y n) h q = subst (λ y. n < modulus y) h q.0
below i k z (integer j) h q = residue_below z j
below i k z (boolean c) h q = absurd h

two_so : {A : Type 0} (P Q R : A → Type 0) (e : Evaluation A) → ((x : A) → P x → Q x → R x) → Yields P e → Yields Q e → Yields R e
two_so P Q R (stuck k) f p q = tt
two_so P Q R (went ns x) f p q = f x p q

-- ---- keys and facts

put_here : (store : Store) (k q : Key) (v : Option Value) → q ≡ k → put store k v q ≡ v
put_here store k q v e = ap (λ c. if c then v else store q) (ap (same_key k) e ∙ same_key-refl k)

seat_subject : (f : Fact) → is_of_cell f ≡ false → seat f ≡ subject f
seat_subject (Set v) e = refl
seat_subject (AtLeast v c) e = refl
seat_subject (AtMost v c) e = refl
seat_subject (Under v x) e = refl
seat_subject (Is v x) e = refl
seat_subject (Multiple v m) e = refl
seat_subject (Cell a j) e = absurd (cc e)

what_went : {A B : Type 0} (P : B → Type 0) (v : A) (f : A → B) (e : Evaluation A) → Runs (λ h. h ≡ v) e → Yields P (and_then e (λ h. went [] (f h))) → P (f v)
what_went P v f (stuck k) h q = absurd h
what_went P v f (went ns x) h q = subst (λ y. P (f y)) h q

-- the word of the last left side has the size of the statement
abbrev IsLast : Shape → Size → Type 0
IsLast a_flag z = ⊥
IsLast (a_word y) z = y ≡ z
IsLast (a_pinned y) z = y ≡ z

-- a cell or memory may be the last one
abbrev is_word_last : Pair → Bool
is_word_last of_sum = true
is_word_last of_difference = true
is_word_last of_product = false

runs_all : {A : Type 0} (P Q : A → Type 0) (e : Evaluation A) → ((x : A) → P x → Q x) → Runs P e → Runs Q e
runs_all P Q (stuck k) f h = h
runs_all P Q (went ns x) f h = f x h

module _ (g : Given) (kinds : Kinds) (in_frame : Key → Bool) (entry : Key → ℕ) (s : Facts) (st : State) (H : Stands g kinds in_frame entry s st) (nn : NoNumbers kinds) where
  abbrev There : Type 0
  There = Holds g (sizes_of kinds) entry s st

  so : There
  so = holds g kinds in_frame entry s st nn H

  abbrev KnownHere : Size → Term → Value → Type 0
  KnownHere z t v = Known g (sizes_of kinds) entry s st so (λ t p z w. multiple_ok g (sizes_of kinds) entry s st so t p z w) z t v

  abbrev HalfHere : Facts → State → Type 0
  HalfHere f t = Half g kinds in_frame entry s st.memory f t

  -- ---- the value

  pair_yields : (p : Pair) (z : Size) (w : Expr) (at : Span) → IsPair kinds in_frame p z w → Yields (IsPairOf p z (KnownHere z (term_of w))) (two_of (out-Expr w) at (Some z) st)
  pair_yields p z w at i =
      let a = i.left in
      let b = i.right in
      let P : Value → Type 0 = KnownHere z (term_of w) in
      let e = pair_term w (op_of p) a b i.at i.is in
      let plain : IsPlain (sizes_of kinds) (term_of w) = subst (IsPlain (sizes_of kinds)) (sym e) (i.no_number, plain_word kinds in_frame (term_of a) (Some z) z i.first, plain_word kinds in_frame (term_of b) (Some z) z i.second) in
      let run = subst (λ t. Yields P ((means t).run (Some z) st)) e (known g (sizes_of kinds) entry s st so (λ t p z w. multiple_ok g (sizes_of kinds) entry s st so t p z w) z (term_of w) (Some z) plain) in
      subst (λ (l : Layer). Yields (IsPairOf p z P) (two_of l at (Some z) st)) (sym i.is)
      (subst (λ c. Yields (IsPairOf p z P) (if c then with_three (op_of p) (out-Expr a) a b i.at z st else with_two (op_of p) a b i.at z st)) (sym i.no_flag)
      (subst (λ (m : Meaning). Yields (IsPairOf p z P) (and_then (and_then (m.run (Some z) st) (word_at i.at z)) (λ x. and_then (word_in i.at z b st) (λ y. two_results (op_of p) i.at z x y false)))) (sym (term_so a))
      (subst (λ (m : Meaning). Yields (IsPairOf p z P) (and_then (and_then ((means (term_of a)).run (Some z) st) (word_at i.at z)) (λ x. and_then (and_then (m.run (Some z) st) (word_at i.at z)) (λ y. two_results (op_of p) i.at z x y false)))) (sym (term_so b))
      (pair_of p i.at z P (is_number (term_of a)) (is_number (term_of b)) i.no_number ((means (term_of a)).run (Some z) st) ((means (term_of b)).run (Some z) st)
      (typed g kinds in_frame entry s st H (term_of a) (Some z) z i.first)
      (typed g kinds in_frame entry s st H (term_of b) (Some z) z i.second)
      (as_binary p P (term_of a) (term_of b) i.at z st run)))))

  pair_goes : (p : Pair) (z : Size) (w : Expr) (at : Span) → IsPair kinds in_frame p z w → asks_expr g s (Some z) w ≡ None → Runs (λ vs. Unit {0}) (two_of (out-Expr w) at (Some z) st)
  pair_goes p z w at i q =
      let a = i.left in
      let b = i.right in
      let c = as_asked g s p (term_of a) (term_of b) i.at z (subst (λ t. asks g s (Some z) t ≡ None) (pair_term w (op_of p) a b i.at i.is) q) in
      subst (λ (l : Layer). Runs (λ vs. Unit {0}) (two_of l at (Some z) st)) (sym i.is)
      (subst (λ c. Runs (λ vs. Unit {0}) (if c then with_three (op_of p) (out-Expr a) a b i.at z st else with_two (op_of p) a b i.at z st)) (sym i.no_flag)
      (runs_then (λ x. Unit {0}) (λ vs. Unit {0}) (word_in i.at z a st) (λ x. and_then (word_in i.at z b st) (λ y. two_results (op_of p) i.at z x y false)) (word_in_runs g kinds in_frame entry s st H nn i.at z a i.first c.0) (λ x u.
      runs_then (λ y. Unit {0}) (λ vs. Unit {0}) (word_in i.at z b st) (λ y. two_results (op_of p) i.at z x y false) (word_in_runs g kinds in_frame entry s st H nn i.at z b i.second c.1) (λ y u. results_go p i.at z x y))))

  -- ---- with a flag

  -- a flag is the same where a word is wanted
  flag_same : (t : Term) → IsFlag kinds in_frame t → (w : Option Size) → (means t).run w st ≡ (means t).run None st
  flag_same (var x) i w = refl
  flag_same (num n at) i w = absurd i
  flag_same (truth b at) i w = absurd i
  flag_same (cell x j) i w = absurd i
  flag_same (load p a) i w = absurd i
  flag_same (neg a at) i w = absurd i
  flag_same (inv a at) i w = absurd i
  flag_same (cast y sign a at) i w = absurd i
  flag_same (bin op a b at) i w = absurd i

  abbrev Three : Pair → Span → Size → Expr → Expr → Expr → Evaluation Results
  Three p at z a b c = and_then (word_in at z a st) (λ x. and_then (word_in at z b st) (λ y. and_then (bool_in at c st) (two_results (op_of p) at z x y)))

  -- the forms of both layers
  three_is : (p : Pair) (z : Size) (w : Expr) (at : Span) (i : IsCarriedPair kinds in_frame p z w) (Q : Evaluation Results → Type 0) → Q (Three p i.at z i.left i.right i.flag) → Q (two_of (out-Expr w) at (Some z) st)
  three_is p z w at i Q h =
      subst (λ (l : Layer). Q (two_of l at (Some z) st)) (sym i.is)
      (subst (λ c. Q (if c then with_three (op_of p) (out-Expr i.inner) i.inner i.flag i.at z st else with_two (op_of p) i.inner i.flag i.at z st)) (sym i.by_flag)
      (subst (λ (l : Layer). Q (with_three (op_of p) l i.inner i.flag i.at z st)) (sym i.inner_is)
      (subst (λ c. Q (if c then Three p i.at z i.left i.right i.flag else stuck_at i.at Init)) (sym i.may_carry) h)))

  carried_term : (p : Pair) (z : Size) (w : Expr) (i : IsCarriedPair kinds in_frame p z w) → term_of w ≡ bin (op_of p) (bin (op_of p) (term_of i.left) (term_of i.right) i.inner_at) (term_of i.flag) i.at
  carried_term p z w i = pair_term w (op_of p) i.inner i.flag i.at i.is ∙ ap (λ t. bin (op_of p) t (term_of i.flag) i.at) (pair_term i.inner (op_of p) i.left i.right i.inner_at i.inner_is)

  carried_yields : (p : Pair) (z : Size) (w : Expr) (at : Span) → IsCarriedPair kinds in_frame p z w → Yields (IsPairOf p z (KnownHere z (term_of w))) (two_of (out-Expr w) at (Some z) st)
  carried_yields p z w at i =
      let a = term_of i.left in
      let b = term_of i.right in
      let c = term_of i.flag in
      let P : Value → Type 0 = KnownHere z (term_of w) in
      let e = carried_term p z w i in
      let pb = plain_word kinds in_frame b (Some z) z i.second in
      let plain : IsPlain (sizes_of kinds) (term_of w) = subst (IsPlain (sizes_of kinds)) (sym e) (ap (λ k. k && is_number c) i.no_number, (i.no_number, plain_word kinds in_frame a (Some z) z i.first, pb), plain_flag kinds in_frame c i.third) in
      let run = subst (λ t. Yields P ((means t).run (Some z) st)) e (known g (sizes_of kinds) entry s st so (λ t p z w. multiple_ok g (sizes_of kinds) entry s st so t p z w) z (term_of w) (Some z) plain) in
      let R = IsPairOf p z P in
      three_is p z w at i (Yields R)
      (subst (λ (m : Meaning). Yields R (and_then (and_then (m.run (Some z) st) (word_at i.at z)) (λ x. and_then (word_in i.at z i.right st) (λ y. and_then (bool_in i.at i.flag st) (two_results (op_of p) i.at z x y))))) (sym (term_so i.left))
      (subst (λ (m : Meaning). Yields R (and_then (and_then ((means a).run (Some z) st) (word_at i.at z)) (λ x. and_then (and_then (m.run (Some z) st) (word_at i.at z)) (λ y. and_then (bool_in i.at i.flag st) (two_results (op_of p) i.at z x y))))) (sym (term_so i.right))
      (subst (λ (m : Meaning). Yields R (and_then (and_then ((means a).run (Some z) st) (word_at i.at z)) (λ x. and_then (and_then ((means b).run (Some z) st) (word_at i.at z)) (λ y. and_then (and_then (m.run None st) (truth_of i.at)) (two_results (op_of p) i.at z x y))))) (sym (term_so i.flag))
      (carried_of p i.may_carry i.inner_at i.at z P (is_number a) (is_number b) i.no_number ((means a).run (Some z) st) ((means b).run (Some z) st) ((means c).run None st)
      (typed g kinds in_frame entry s st H a (Some z) z i.first)
      (typed g kinds in_frame entry s st H b (Some z) z i.second)
      (two_so (OfSize z (is_number b)) (Good (interval g s z b) (is_number b) z) (IsBelow z) ((means b).run (Some z) st) (below (interval g s z b) (is_number b) z) (typed g kinds in_frame entry s st H b (Some z) z i.second) (term_ok g (sizes_of kinds) entry s st so b pb z (Some z)))
      (flag_typed g kinds in_frame entry s st H c None i.third)
      (subst (λ (f : Evaluation Value). Yields P (and_then (and_then ((means a).run (Some z) st) (λ v. and_then ((means b).run (Some z) st) (λ u. binary (op_of p) i.inner_at (Some z) v u))) (λ s. and_then f (λ c. binary (op_of p) i.at (Some z) s c)))) (flag_same c i.third (Some z))
      (as_carried p P a b c i.inner_at i.at z st run))))))

  flag_asked : (p : Pair) (a b c : Term) (inner at : Span) (z : Size) → asks g s (Some z) (bin (op_of p) (bin (op_of p) a b inner) c at) ≡ None → ((asks g s (Some z) a ≡ None) × (asks g s (Some z) b ≡ None)) × (asks g s (Some z) c ≡ None)
  flag_asked p a b c inner at z q = let d = as_asked g s p (bin (op_of p) a b inner) c at z q in (as_asked g s p a b inner z d.0, d.1)

  carried_goes : (p : Pair) (z : Size) (w : Expr) (at : Span) → IsCarriedPair kinds in_frame p z w → asks_expr g s (Some z) w ≡ None → Runs (λ vs. Unit {0}) (two_of (out-Expr w) at (Some z) st)
  carried_goes p z w at i q =
      let c = flag_asked p (term_of i.left) (term_of i.right) (term_of i.flag) i.inner_at i.at z (subst (λ t. asks g s (Some z) t ≡ None) (carried_term p z w i) q) in
      three_is p z w at i (Runs (λ vs. Unit {0}))
      (runs_then (λ x. Unit {0}) (λ vs. Unit {0}) (word_in i.at z i.left st) (λ x. and_then (word_in i.at z i.right st) (λ y. and_then (bool_in i.at i.flag st) (two_results (op_of p) i.at z x y))) (word_in_runs g kinds in_frame entry s st H nn i.at z i.left i.first c.0.0) (λ x u.
      runs_then (λ y. Unit {0}) (λ vs. Unit {0}) (word_in i.at z i.right st) (λ y. and_then (bool_in i.at i.flag st) (two_results (op_of p) i.at z x y)) (word_in_runs g kinds in_frame entry s st H nn i.at z i.right i.second c.0.1) (λ y u.
      runs_then (λ b. Unit {0}) (λ vs. Unit {0}) (bool_in i.at i.flag st) (two_results (op_of p) i.at z x y) (bool_in_runs g kinds in_frame entry s st H nn i.at (Some z) i.flag i.third c.1) (λ b u. carries_go p i.may_carry i.at z x y b))))

  abbrev IsEither : Pair → Size → Expr → Type 0
  IsEither p z w = IsPair kinds in_frame p z w ⊎ IsCarriedPair kinds in_frame p z w

  either_yields : (p : Pair) (z : Size) (w : Expr) (at : Span) → IsEither p z w → Yields (IsPairOf p z (KnownHere z (term_of w))) (two_of (out-Expr w) at (Some z) st)
  either_yields p z w at (inl i) = pair_yields p z w at i
  either_yields p z w at (inr i) = carried_yields p z w at i

  either_goes : (p : Pair) (z : Size) (w : Expr) (at : Span) → IsEither p z w → asks_expr g s (Some z) w ≡ None → Runs (λ vs. Unit {0}) (two_of (out-Expr w) at (Some z) st)
  either_goes p z w at (inl i) q = pair_goes p z w at i q
  either_goes p z w at (inr i) q = carried_goes p z w at i q

  -- ---- the left sides

  word_half : (r : Ref) (z n : _) (t : Term) → KnownHere z t (word z n) → r.kind ≡ kind.Word z → IsScalar kinds in_frame r → (f1 : Facts) (t1 : State) → HalfHere f1 t1 → HalfHere (renewed (key_of r) (gained g s r.kind (the_word z t)) f1) (with_value t1 (key_of r) (Some (word z n)))
  word_half r z n t K e i f1 t1 h1 = record {
    says = λ f q. says f (same_key (subject f) k) refl q;
    apart = λ f q. apart f (same_key (subject f) k) refl q;
    memory = h1.memory;
  }
    where
      k : Key
      k = key_of r

      v : Option Value
      v = Some (word z n)

      new : Facts
      new = gained g s r.kind (the_word z t)

      no_int : (d : Kind) → d ≡ kind.Word z → d ≡ kind.Int → ⊥
      no_int d p q = absurd (cc (sym q ∙ p))

      behind : Holds g (sizes_of kinds) entry (renewed k new s) (with_value st k v)
      behind = what_went (Holds g (sizes_of kinds) entry (renewed k new s)) v (with_value st k) (held_or_unset r.span r.kind v) (word_held g kinds in_frame entry s st.memory r.span r.kind z n e)
          (written_ok g (sizes_of kinds) entry s st so r r.kind z t (is_number t) (word z n) (λ y c. (same (sym c ∙ e), subst (λ u. sizes_of kinds k ≡ Some u) (sym (same (sym c ∙ e))) (scalar_size kinds in_frame r z e i))) (no_int r.kind e) K.0 K.1 K.2)
        where
          same : {y z : Size} → kind.Word y ≡ kind.Word z → y ≡ z
          same e = cc e

      says : (f : Fact) (c : Bool) → same_key (subject f) k ≡ c → (if c then new f else f1 f) ≡ true → Says entry (put t1.store k v) f
      says f true q p =
          let j = seat_subject f (gained_scalar g kinds in_frame entry s st H nn r.kind z t f p) ∙ same_key-true (subject f) k q in
          says_same entry (put st.store k v) (put t1.store k v) f (put_here t1.store k (seat f) v j ∙ sym (put_here st.store k (seat f) v j)) (behind.says f (ap (λ c. if c then new f else s f) q ∙ p))
      says f false q p = says_same entry t1.store (put t1.store k v) f (put_elsewhere t1.store k (seat f) v (scalar_elsewhere in_frame k f i.apart (h1.apart f p) q)) (h1.says f p)

      apart : (f : Fact) (c : Bool) → same_key (subject f) k ≡ c → (if c then new f else f1 f) ≡ true → in_frame (whole (subject f)) ≡ is_of_cell f
      apart f true q p = ap (λ q. in_frame (whole q)) (same_key-true (subject f) k q) ∙ i.apart ∙ sym (gained_scalar g kinds in_frame entry s st H nn r.kind z t f p)
      apart f false q p = h1.apart f p

  abbrev BehindHere : Facts → State → Type 0
  BehindHere f t = Behind g in_frame entry f t

  -- the word of the term, to a register
  word_run : (zo : Option Size) (x : Var) (z n : _) (t : Term) → KnownHere z t (word z n) → (ref_of x).kind ≡ kind.Word z → IsScalar kinds in_frame (ref_of x) → (f : Facts) (u : State) → HalfHere f u → Runs (HalfHere (renewed (key_of (ref_of x)) (gained g s (ref_of x).kind (the_word z t)) f)) (written zo (lval.Var x) (Some (word z n)) u)
  word_run zo x z n t K e c f u h =
      let r = ref_of x in
      let F : State → Type 0 = HalfHere (renewed (key_of r) (gained g s r.kind (the_word z t)) f) in
      runs_then (λ v. v ≡ Some (word z n)) F (held_or_unset r.span r.kind (Some (word z n))) (λ v. went [] (with_value u (key_of r) v)) (word_held g kinds in_frame entry s st.memory r.span r.kind z n e) (λ v p.
      subst (λ v. F (with_value u (key_of r) v)) (sym p) (word_half r z n t K e c f u h))

  as_behind : (f : Facts) (e : Evaluation State) → Runs (HalfHere f) e → Yields (BehindHere f) e
  as_behind f e h = yields_all (HalfHere f) (BehindHere f) e (λ u k. half_behind g kinds in_frame entry s st H nn f u k) (runs_yields (HalfHere f) e h)

  last_yields : (h : Shape) (zo : Option Size) (b : Lval) (z n : _) (t : Term) → IsLast h z → TakesShape kinds in_frame h b → KnownHere z t (word z n) → (f : Facts) (u : State) → HalfHere f u → Yields (BehindHere (holding.written g s b (the_word z t) f)) (written zo b (Some (word z n)) u)
  last_yields h zo (lval.Skip p) z n t l i K f u k = half_behind g kinds in_frame entry s st H nn f u k
  last_yields (a_word y) zo (lval.Var x) z n t l i K f u k = as_behind (renewed (key_of (ref_of x)) (gained g s (ref_of x).kind (the_word z t)) f) (written zo (lval.Var x) (Some (word z n)) u) (word_run zo x z n t K (i.0 ∙ ap kind.Word l) i.1 f u k)
  last_yields (a_pinned y) zo (lval.Var x) z n t l i K f u k = as_behind (renewed (key_of (ref_of x)) (gained g s (ref_of x).kind (the_word z t)) f) (written zo (lval.Var x) (Some (word z n)) u) (word_run zo x z n t K (i.0 ∙ ap kind.Word l) i.1 f u k)
  last_yields (a_word y) zo (lval.Cell x j) z n t l i K f u k = cell_behind g in_frame entry kinds x j y i.0 i.1 zo (Some (word z n)) f u (half_behind g kinds in_frame entry s st H nn f u k)
  last_yields (a_word y) zo (lval.Store a) z n t l i K f u k = store_behind g in_frame entry a zo (Some (word z n)) f u (half_behind g kinds in_frame entry s st H nn f u k)
  last_yields a_flag zo (lval.Var x) z n t l i K f u k = absurd l
  last_yields a_flag zo (lval.Cell x j) z n t l i K f u k = absurd i
  last_yields a_flag zo (lval.Store a) z n t l i K f u k = absurd i
  last_yields (a_pinned y) zo (lval.Cell x j) z n t l i K f u k = absurd i
  last_yields (a_pinned y) zo (lval.Store a) z n t l i K f u k = absurd i

  -- before a sum or a difference a flag is written, and before a product a register
  first_run : (p : Pair) (zo : Option Size) (d : Lval) (z : Size) (o : Option Value) → IsGot some_value (before p z) o → TakesShape kinds in_frame (before p z) d → Runs (λ u. HalfHere (holding.written g s d some_value s) u × (is_word_last p ≡ true → Before g kinds in_frame entry s st H nn u)) (written zo d o st)
  first_run of_sum zo d z o q i = runs_all (λ u. HalfHere (holding.written g s d some_value s) u × Before g kinds in_frame entry s st H nn u) (λ u. HalfHere (holding.written g s d some_value s) u × (true ≡ true → Before g kinds in_frame entry s st H nn u)) (written zo d o st) (λ u k. (k.0, λ e. k.1)) (flag_run g kinds in_frame entry s st H nn zo d some_value o q i s st (here g kinds in_frame entry s st H nn) (as_here g kinds in_frame entry s st H nn))
  first_run of_difference zo d z o q i = runs_all (λ u. HalfHere (holding.written g s d some_value s) u × Before g kinds in_frame entry s st H nn u) (λ u. HalfHere (holding.written g s d some_value s) u × (true ≡ true → Before g kinds in_frame entry s st H nn u)) (written zo d o st) (λ u k. (k.0, λ e. k.1)) (flag_run g kinds in_frame entry s st H nn zo d some_value o q i s st (here g kinds in_frame entry s st H nn) (as_here g kinds in_frame entry s st H nn))
  first_run of_product zo d z o q i = runs_all (HalfHere (holding.written g s d some_value s)) (λ u. HalfHere (holding.written g s d some_value s) u × (false ≡ true → Before g kinds in_frame entry s st H nn u)) (written zo d o st) (λ u k. (k, λ e. absurd (cc e))) (pinned_run g kinds in_frame entry s st H nn zo d some_value z o q i s st (here g kinds in_frame entry s st H nn))

  is_last : (p : Pair) (z : Size) → IsLast (last_of p z) z
  is_last of_sum z = refl
  is_last of_difference z = refl
  is_last of_product z = refl

  abbrev FactsBehind : Lval → Lval → Size → Term → Facts
  FactsBehind d b z t = all_written g s (d ∷ b ∷ []) (some_value ∷ the_word z t ∷ []) s

  both_yield : (p : Pair) (zo : Option Size) (at : Span) (d b : Lval) (z n : _) (o : Option Value) (t : Term) → IsGot some_value (before p z) o → TakesShape kinds in_frame (before p z) d → TakesShape kinds in_frame (last_of p z) b → KnownHere z t (word z n) → Yields (BehindHere (FactsBehind d b z t)) (all_put at zo (d ∷ b ∷ []) (o ∷ Some (word z n) ∷ []) st)
  both_yield p zo at d b z n o t q i j K =
      let f1 : Facts = holding.written g s d some_value s in
      let F : State → Type 0 = BehindHere (holding.written g s b (the_word z t) f1) in
      let P : State → Type 0 = λ (u : State). HalfHere f1 u × (is_word_last p ≡ true → Before g kinds in_frame entry s st H nn u) in
      yields_then P F (written zo d o st) (λ u. all_put at zo (b ∷ []) (Some (word z n) ∷ []) u) (runs_yields P (written zo d o st) (first_run p zo d z o q i)) (λ u k.
      yields_then F F (written zo b (Some (word z n)) u) (λ u. went [] u) (last_yields (last_of p z) zo b z n t (is_last p z) j K f1 u k.0) (λ u l. l))

  last_run : (p : Pair) (zo : Option Size) (b : Lval) (z n : _) → zo ≡ Some z → TakesShape kinds in_frame (last_of p z) b → asks_left g s zo b ≡ None → (u : State) → u.memory ≡ st.memory → (is_word_last p ≡ true → Before g kinds in_frame entry s st H nn u) → Runs (λ t. Unit {0}) (written zo b (Some (word z n)) u)
  last_run of_sum zo b z n e i a u m k = last_goes g kinds in_frame entry s st H nn zo b z n e i a u m (k refl)
  last_run of_difference zo b z n e i a u m k = last_goes g kinds in_frame entry s st H nn zo b z n e i a u m (k refl)
  last_run of_product zo (lval.Skip p) z n e i a u m k = tt
  last_run of_product zo (lval.Var x) z n e i a u m k =
      let r = ref_of x in
      runs_then (λ v. v ≡ Some (word z n)) (λ t. Unit {0}) (held_or_unset r.span r.kind (Some (word z n))) (λ v. went [] (with_value u (key_of r) v)) (word_held g kinds in_frame entry s st.memory r.span r.kind z n i.0) (λ v p. tt)
  last_run of_product zo (lval.Cell x j) z n e i a u m k = absurd i
  last_run of_product zo (lval.Store l) z n e i a u m k = absurd i

  both_run : (p : Pair) (zo : Option Size) (at : Span) (d b : Lval) (z n : _) (o : Option Value) → zo ≡ Some z → IsGot some_value (before p z) o → TakesShape kinds in_frame (before p z) d → TakesShape kinds in_frame (last_of p z) b → asks_lefts g s zo (d ∷ b ∷ []) ≡ None → Runs (λ t. Unit {0}) (all_put at zo (d ∷ b ∷ []) (o ∷ Some (word z n) ∷ []) st)
  both_run p zo at d b z n o e q i j a =
      let f1 : Facts = holding.written g s d some_value s in
      let c = both_met (asks_left g s zo b) _ (both_met (asks_left g s zo d) _ a).1 in
      let P : State → Type 0 = λ (u : State). HalfHere f1 u × (is_word_last p ≡ true → Before g kinds in_frame entry s st H nn u) in
      runs_then P (λ t. Unit {0}) (written zo d o st) (λ u. all_put at zo (b ∷ []) (Some (word z n) ∷ []) u) (first_run p zo d z o q i) (λ u k.
      runs_then (λ t. Unit {0}) (λ t. Unit {0}) (written zo b (Some (word z n)) u) (λ u. went [] u) (last_run p zo b z n e j c.0 u k.0.memory k.1) (λ t l. tt))

  -- ---- statements

  pub paired_stands : (d b : Lval) (o : Option BinOp) (e : Expr) (at : Span) → IsPaired kinds in_frame d b o e → Yields (Stands g kinds in_frame entry (does g (assign (d ∷ b ∷ []) o e None at) s)) (source.does (assign (d ∷ b ∷ []) o e None at) st)
  paired_stands d b o e at i =
      let p = i.pair in
      let z = i.size in
      let w = i.whole in
      let to = d ∷ b ∷ [] in
      let zo = option_or (left_sizes to) (own_size w) in
      let Q : Results → Type 0 = IsPairOf p z (KnownHere z (term_of w)) in
      let B : State → Type 0 = BehindHere (FactsBehind d b z (term_of w)) in
      three (BehindHere (does g (assign to o e None at) s)) (IsOfKinds kinds) (λ t. Unit {0}) (Stands g kinds in_frame entry (does g (assign to o e None at) s)) (source.does (assign to o e None at) st)
      (λ t h k u. record { says = h.says; apart = h.apart; kept = k; ranges = H.ranges; least = H.least; regions = h.valid })
      (subst (λ m. Yields (BehindHere (assigned g to m None s)) (assigned_whole to m None at st)) (sym i.is)
      (subst (λ u. Yields (BehindHere (FactsBehind d b (size_or_64 u) (term_of w))) (and_then (two_of (out-Expr w) at u st) (λ vs. and_then (conditioned to None at vs st) (λ ws. all_put at u to ws st)))) (sym i.sized)
      (yields_then Q B (two_of (out-Expr w) at (Some z) st) (λ vs. and_then (conditioned to None at vs st) (λ ws. all_put at (Some z) to ws st)) (either_yields p z w at i.value)
      (λ vs k. yields_then (λ ws. ws ≡ k.0 ∷ Some (word z k.1) ∷ []) B (went [] vs) (λ ws. all_put at (Some z) to ws st) k.2 (λ ws l.
      subst (λ us. Yields B (all_put at (Some z) to us st)) (sym l) (both_yield p (Some z) at d b z k.1 k.0 (term_of w) k.3 i.first i.last k.4))))))
      (if_went (IsOfKinds kinds) (source.does (assign to o e None at) st) (operations_keep kinds (assign to o e None at) st (All-cons (LeftDeclared kinds) d (b ∷ []) (declared_left kinds in_frame (before p z) d i.first) (All-cons (LeftDeclared kinds) b [] (declared_left kinds in_frame (last_of p z) b i.last) (All-nil (LeftDeclared kinds)))) H.kept))
      (any_yields _)

  with_pair : {A : Type 0} (P Q : A → Type 0) (e : Evaluation A) → Runs P e → Yields Q e → Runs Q e
  with_pair P Q (stuck k) h q = h
  with_pair P Q (went ns x) h q = q

  pub paired_runs : (d b : Lval) (o : Option BinOp) (e : Expr) (at : Span) → IsPaired kinds in_frame d b o e → asks_operation g (assign (d ∷ b ∷ []) o e None at) s ≡ None → Runs (λ t. Unit {0}) (source.does (assign (d ∷ b ∷ []) o e None at) st)
  paired_runs d b o e at i q =
      let p = i.pair in
      let z = i.size in
      let w = i.whole in
      let to = d ∷ b ∷ [] in
      let zo = option_or (left_sizes to) (own_size w) in
      let Q : Results → Type 0 = IsPairOf p z (KnownHere z (term_of w)) in
      let a : asks_assign g s to (Some w) None ≡ None = subst (λ m. asks_assign g s to m None ≡ None) i.is q in
      let c = both_met (asks_expr g s zo w) _ a in
      subst (λ m. Runs (λ t. Unit {0}) (assigned_whole to m None at st)) (sym i.is)
      (subst (λ u. Runs (λ t. Unit {0}) (and_then (two_of (out-Expr w) at u st) (λ vs. and_then (conditioned to None at vs st) (λ ws. all_put at u to ws st)))) (sym i.sized)
      (runs_then Q (λ t. Unit {0}) (two_of (out-Expr w) at (Some z) st) (λ vs. and_then (conditioned to None at vs st) (λ ws. all_put at (Some z) to ws st))
      (with_pair (λ vs. Unit {0}) Q (two_of (out-Expr w) at (Some z) st) (either_goes p z w at i.value (subst (λ u. asks_expr g s u w ≡ None) i.sized c.0)) (either_yields p z w at i.value))
      (λ vs k. runs_then (λ ws. ws ≡ k.0 ∷ Some (word z k.1) ∷ []) (λ t. Unit {0}) (went [] vs) (λ ws. all_put at (Some z) to ws st) k.2 (λ ws l.
      subst (λ us. Runs (λ t. Unit {0}) (all_put at (Some z) to us st)) (sym l) (both_run p (Some z) at d b z k.1 k.0 refl k.3 i.first i.last (subst (λ u. asks_lefts g s u to ≡ None) i.sized c.1))))))
