-- What the operands of an instruction give, and that they do give it where conditions are met.
use Rattle.std.proofs.Common.{◌≡◌, ℕ, ◌<◌, List, Option, Some, None, Bool, true, false, sym, subst, if◌then◌else◌}
use Rattle.std.specs.Option.{option_or}
use Rattle.jz_tree.specs.Span.{Span}
use Rattle.x64_insn.specs.Size.{Size}
use Rattle.x64_insn.specs.Sizes.{modulus}
use Rattle.jz_tree.specs.declared.expr.BinOp.{BinOp}
use Rattle.jz_tree.specs.declared.expr.Expr.{Expr}
use Rattle.jz_runs.specs.Rules.{stuck, went}
use Rattle.jz_meaning.specs.Attempts.{Evaluation, numbers_first, and_then, defined}
use Rattle.jz_meaning.specs.States.{Value, word, boolean, integer, Key, State}
use Rattle.jz_meaning.specs.Operators.{word_at, same_size}
use Rattle.jz_meaning.specs.declared.value.Why.TheVariants.{Divide}
use Rattle.jz_meaning.specs.Values.{Meaning, right_wanted}
use Rattle.jz_meaning.specs.Assignments.{word_in, bool_in, truth as truth_of}
use Rattle.jz_run_laws.specs.Kinds.{Kinds}
use Rattle.jz_terms.specs.Terms.{Term, num, truth, var, cell, load, neg, inv, cast, bin, term_of, means, size_in}
use Rattle.jz_terms.proofs.Bridge.{term_so}
use Rattle.jz_intervals.specs.declared.interval.Interval.{Interval}
use Rattle.jz_facts.specs.Facts.{Facts, Given}
use Rattle.jz_facts.specs.Intervals.{size_or_64, interval}
use Rattle.jz_fact_laws.specs.Saying.{Yields, In, is_number}
use Rattle.jz_fact_laws.proofs.Ranges.{Good, term_ok}
use Rattle.jz_assigned.specs.Conditions.{Alarm, division, or_else, unless, divides, asks, asks_expr}
use Rattle.jz_words.proofs.Residues.{residue_below}
use Rattle.jz_standing.specs.Typing.{sizes_of, NoNumbers, IsFlag, IsWord, IsAnswer}
use Rattle.jz_standing.specs.Standing.{Stands}
use Rattle.jz_standing.proofs.Held.{holds}
use Rattle.jz_standing.proofs.Making.{OfSize, IsTruth, same_size-refl}
use Rattle.jz_standing.proofs.Typed.{compared_wanted}
use Rattle.jz_standing.proofs.Plain.{plain_word}
use Rattle.jz_assigned.proofs.Sums.{both_met, Runs, runs_then}
use Rattle.jz_assigned.proofs.Firm.{word_runs, answer_runs}
use Rattle.jz_assigned.proofs.Writing.{word_goes}

-- ---- it went where conditions are met, and whatever they are this is so of what came out

abbrev pub Does : {A : Type 0} → Bool → (A → Type 0) → Evaluation A → Type 0
Does true Q e = Runs Q e
Does false Q (stuck k) = Unit {0}
Does false Q (went ns x) = Q x

abbrev pub IfAsked : Bool → Option Alarm → Type 0
IfAsked true a = a ≡ None
IfAsked false a = Unit {0}

pub both_asked : (c : Bool) (a b : Option Alarm) → IfAsked c (or_else a b) → IfAsked c a × IfAsked c b
both_asked true a b q = both_met a b q
both_asked false a b q = (tt, tt)

pub does_went : {A : Type 0} (c : Bool) (Q : A → Type 0) (ns : List ℕ) (x : A) → Q x → Does c Q (went ns x)
does_went true Q ns x h = h
does_went false Q ns x h = h

does_first : {A : Type 0} (Q : A → Type 0) (ns : List ℕ) (e : Evaluation A) → Does false Q e → Does false Q (numbers_first ns e)
does_first Q ns (stuck w) h = tt
does_first Q ns (went ms y) h = h

pub does_then : {A B : Type 0} (c : Bool) (Q : A → Type 0) (R : B → Type 0) (e : Evaluation A) (f : A → Evaluation B) → Does c Q e → ((x : A) → Q x → Does c R (f x)) → Does c R (and_then e f)
does_then true Q R e f h k = runs_then Q R e f h k
does_then false Q R (stuck w) f h k = tt
does_then false Q R (went ns x) f h k = does_first R ns (f x) (k x h)

pub does_yield : {A : Type 0} (Q : A → Type 0) (e : Evaluation A) → Yields Q e → Does false Q e
does_yield Q (stuck k) h = tt
does_yield Q (went ns x) h = h

pub yields_done : {A : Type 0} (Q : A → Type 0) (e : Evaluation A) → Does false Q e → Yields Q e
yields_done Q (stuck k) h = tt
yields_done Q (went ns x) h = h

-- whether it goes, and what comes out anyway
pub does_both : {A : Type 0} (c : Bool) (P Q : A → Type 0) (e : Evaluation A) → Does c P e → Yields Q e → Does c (λ x. P x × Q x) e
does_both true P Q (stuck k) h q = h
does_both true P Q (went ns x) h q = (h, q)
does_both false P Q (stuck k) h q = tt
does_both false P Q (went ns x) h q = (h, q)

pub does_any : {A : Type 0} (e : Evaluation A) → Does false (λ x. Unit {0}) e
does_any (stuck k) = tt
does_any (went ns x) = tt

-- a word in its interval
abbrev pub IsIn : Interval → Size → ℕ → Type 0
IsIn i z n = In i n × (n < modulus z)

in_word : (at : Span) (i : Interval) (z : Size) (k : Bool) (v : Value) → OfSize z k v → Good i k z v → Runs (IsIn i z) (word_at at z v)
in_word at i z k (word y n) h q = subst (λ u. Runs (λ m. In i m × (m < modulus z)) (defined at (if same_size z u then Some n else None))) (sym h) (subst (λ c. Runs (λ m. In i m × (m < modulus z)) (defined at (if c then Some n else None))) (sym (same_size-refl z)) (q.1 h, subst (λ u. n < modulus u) h q.0))
in_word at i z k (integer j) h q = (q.1, residue_below z j)
in_word at i z k (boolean c) h q = absurd h

module _ (g : Given) (kinds : Kinds) (in_frame : Key → Bool) (entry : Key → ℕ) (s : Facts) (st : State) (H : Stands g kinds in_frame entry s st) (nn : NoNumbers kinds) where
  -- ---- words

  pub word_in_runs : (at : Span) (z : Size) (a : Expr) → IsWord kinds in_frame (Some z) z (term_of a) → asks_expr g s (Some z) a ≡ None → Runs (λ n. Unit {0}) (word_in at z a st)
  word_in_runs at z a i q =
      subst (λ (m : Meaning). Runs (λ n. Unit {0}) (and_then (m.run (Some z) st) (word_at at z))) (sym (term_so a))
      (runs_then (OfSize z (is_number (term_of a))) (λ n. Unit {0}) ((means (term_of a)).run (Some z) st) (word_at at z) (word_runs g kinds in_frame entry s st H nn (term_of a) (Some z) z i q) (λ v h. word_goes at z (is_number (term_of a)) v h))

  pub word_does : (c : Bool) (at : Span) (z : Size) (a : Expr) → IsWord kinds in_frame (Some z) z (term_of a) → IfAsked c (asks_expr g s (Some z) a) → Does c (λ n. Unit {0}) (word_in at z a st)
  word_does true at z a i q = word_in_runs at z a i q
  word_does false at z a i q = does_any (word_in at z a st)

  with_good : {A : Type 0} (P Q : A → Type 0) (e : Evaluation A) → Runs P e → Yields Q e → Runs (λ x. P x × Q x) e
  with_good P Q (stuck k) h q = h
  with_good P Q (went ns x) h q = (h, q)

  pub word_in_interval : (at : Span) (z : Size) (a : Expr) → IsWord kinds in_frame (Some z) z (term_of a) → asks_expr g s (Some z) a ≡ None → Runs (IsIn (interval g s z (term_of a)) z) (word_in at z a st)
  word_in_interval at z a i q =
      let t = term_of a in
      let k = is_number t in
      let Q : Value → Type 0 = λ (v : Value). OfSize z k v × Good (interval g s z t) k z v in
      subst (λ (m : Meaning). Runs (IsIn (interval g s z t) z) (and_then (m.run (Some z) st) (word_at at z))) (sym (term_so a))
      (runs_then Q (IsIn (interval g s z t) z) ((means t).run (Some z) st) (word_at at z)
      (with_good (OfSize z k) (Good (interval g s z t) k z) ((means t).run (Some z) st) (word_runs g kinds in_frame entry s st H nn t (Some z) z i q)
      (term_ok g (sizes_of kinds) entry s st (holds g kinds in_frame entry s st nn H) t (plain_word kinds in_frame t (Some z) z i) z (Some z)))
      (λ v h. in_word at (interval g s z t) z k v h.0 h.1))

  -- ---- flags and answers

  abbrev AsksBoth : BinOp → Term → Term → Span → Option Size → Option Alarm
  AsksBoth op a b at v = or_else (asks g s v a) (or_else (asks g s (right_wanted op v) b) (unless (divides g s op (size_or_64 v) b) at Divide division))

  -- a condition asks the same whatever size is wanted
  answer_asks : (t : Term) (w u : Option Size) → IsAnswer kinds in_frame t → asks g s w t ≡ None → asks g s u t ≡ None
  answer_asks (truth b at) w u i q = q
  answer_asks (var x) w u i q = q
  answer_asks (inv a at) w u i q = answer_asks a (option_or w (size_in a)) (option_or u (size_in a)) i q
  answer_asks (bin op a b at) w u i q = subst (λ v. AsksBoth op a b at v ≡ None) (compared_wanted op u (size_in a) (size_in b) i.0) (subst (λ v. AsksBoth op a b at v ≡ None) (sym (compared_wanted op w (size_in a) (size_in b) i.0)) q)
  answer_asks (num n at) w u i q = absurd i
  answer_asks (cell x j) w u i q = absurd i
  answer_asks (load p a) w u i q = absurd i
  answer_asks (neg a at) w u i q = absurd i
  answer_asks (cast y sign a at) w u i q = absurd i

  from_truth : (at : Span) (v : Value) → IsTruth v → Runs (λ b. Unit {0}) (truth_of at v)
  from_truth at (boolean b) h = tt
  from_truth at (word z n) h = absurd h
  from_truth at (integer j) h = absurd h

  pub answer_in_runs : (at : Span) (w : Option Size) (c : Expr) → IsAnswer kinds in_frame (term_of c) → asks_expr g s w c ≡ None → Runs (λ b. Unit {0}) (bool_in at c st)
  answer_in_runs at w c i q =
      subst (λ (m : Meaning). Runs (λ b. Unit {0}) (and_then (m.run None st) (truth_of at))) (sym (term_so c))
      (runs_then IsTruth (λ b. Unit {0}) ((means (term_of c)).run None st) (truth_of at) (answer_runs g kinds in_frame entry s st H nn (term_of c) None i (answer_asks (term_of c) w None i q)) (λ v h. from_truth at v h))

  flag_answer : (t : Term) → IsFlag kinds in_frame t → IsAnswer kinds in_frame t
  flag_answer (var x) i = i
  flag_answer (num n at) i = absurd i
  flag_answer (truth b at) i = absurd i
  flag_answer (cell x j) i = absurd i
  flag_answer (load p a) i = absurd i
  flag_answer (neg a at) i = absurd i
  flag_answer (inv a at) i = absurd i
  flag_answer (cast y sign a at) i = absurd i
  flag_answer (bin op a b at) i = absurd i

  pub bool_in_runs : (at : Span) (w : Option Size) (c : Expr) → IsFlag kinds in_frame (term_of c) → asks_expr g s w c ≡ None → Runs (λ b. Unit {0}) (bool_in at c st)
  bool_in_runs at w c i q = answer_in_runs at w c (flag_answer (term_of c) i) q

  pub answer_does : (d : Bool) (at : Span) (w : Option Size) (c : Expr) → IsAnswer kinds in_frame (term_of c) → IfAsked d (asks_expr g s w c) → Does d (λ b. Unit {0}) (bool_in at c st)
  answer_does true at w c i q = answer_in_runs at w c i q
  answer_does false at w c i q = does_any (bool_in at c st)

  pub flag_does : (d : Bool) (at : Span) (w : Option Size) (c : Expr) → IsFlag kinds in_frame (term_of c) → IfAsked d (asks_expr g s w c) → Does d (λ b. Unit {0}) (bool_in at c st)
  flag_does d at w c i q = answer_does d at w c (flag_answer (term_of c) i) q
