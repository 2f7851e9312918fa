-- Where a run stands behind an instruction, and that it is not stuck.
use Rattle.std.proofs.Common.{◌≡◌, inl, inr, ℕ, ◌+◌, ◌*◌, ◌/◌, ◌%◌, ◌<◌, ◌≤◌, List, [], ◌∷◌, Option, Some, None, Bool, true, false, refl, sym, subst, arith, rules, ℤ, pos, if◌then◌else◌}
use Rattle.std.specs.Prelude.{◌==◌, nat_lt}
use Rattle.std.proofs.lemmas.Nat.{div_below}
use Rattle.std.proofs.Math.Nat.{mul-le-mul_left}
use Rattle.jz_tree.specs.Span.{Span}
use Rattle.x64_insn.specs.Size.{Size}
use Rattle.x64_insn.specs.Size.TheVariants.{S8, S64}
use Rattle.x64_insn.specs.Sizes.{modulus}
use Rattle.x64_insn.specs.Words.{carried}
use Rattle.x64_insn.specs.Shifts.{masked}
use Rattle.x64_insn.specs.Products.{no_flags, double_word, quotient_answer}
use Rattle.jz_tree.specs.declared.expr.BinOp.TheVariants as o
use Rattle.jz_tree.specs.declared.expr.Expr.{Expr}
use Rattle.jz_tree.specs.declared.stmt.Lval.{Lval}
use Rattle.jz_tree.specs.declared.intrinsic.Intrinsic.{Intrinsic}
use Rattle.jz_tree.specs.declared.intrinsic.Intrinsic.TheVariants as name
use Rattle.jz_tree.specs.declared.intrinsic.Instance.{Instance}
use Rattle.jz_runs.specs.Rules.{went}
use Rattle.jz_meaning.specs.declared.access.Kind.TheVariants as kind
use Rattle.jz_meaning.specs.declared.value.Why.TheVariants.{Divide}
use Rattle.jz_meaning.specs.Attempts.{Evaluation, and_then}
use Rattle.jz_meaning.specs.States.{Value, word, boolean, integer, Key, State}
use Rattle.jz_meaning.specs.Values.{Ref, Meaning, evaluated}
use Rattle.jz_meaning.specs.Assignments.{Results, word_in, bool_in, all_written as all_put}
use Rattle.jz_meaning.specs.Intrinsics.{before_value, shift_results, divided_by, division_results, of_condition, of_one, intrinsic_results, intrinsic_size, sized_results, instruction_done}
use Rattle.jz_run_laws.specs.Kinds.{Kinds, IsOfKinds}
use Rattle.jz_run_laws.proofs.Instructions.{instruction_keeps}
use Rattle.jz_terms.specs.Terms.{Term, num, var, bin, term_of, means}
use Rattle.jz_terms.proofs.Bridge.{term_so}
use Rattle.jz_intervals.specs.declared.interval.Interval.{Interval}
use Rattle.jz_facts.specs.Facts.{Facts, Given}
use Rattle.jz_facts.specs.Intervals.{size_or_64, interval}
use Rattle.jz_facts.specs.Holding.{all_written, counted, instruction_gets, instructed}
use Rattle.jz_fact_laws.specs.Saying.{Yields, In}
use Rattle.jz_fact_laws.proofs.Fitting.{yields_then}
use Rattle.jz_assigned.specs.Conditions.{division, asks, asks_expr, asks_each, asks_division, asks_instruction}
use Rattle.jz_standing.specs.Typing.{NoNumbers, IsScalar, IsCount}
use Rattle.jz_standing.specs.Standing.{Stands}
use Rattle.jz_standing.proofs.Counts.{counted as counted_by}
use Rattle.jz_standing.proofs.SumForms.{sum_word}
use Rattle.jz_standing.proofs.Making.{OfSize}
use Rattle.jz_standing.proofs.Typed.{typed, any_yields}
use Rattle.jz_assigned.proofs.Sums.{met, both_met, Runs, runs_then}
use Rattle.jz_assigned.proofs.Firm.{word_runs}
use Rattle.jz_assigned.proofs.Assigning.{if_went, three}
use Rattle.jz_instructed.specs.Instructed.{shapes_of, flags_and_two, Form, one_word, two_words, three_words, with_carry, with_count, an_address, a_condition, form_of, CountFits, AreOperands, IsInstructed}
use Rattle.jz_instructed.proofs.Instructing.{AreGot, WithNumber, WithMask, WithCount, TwoWords, OneWord, WithCarry, Row, by_one, by_two, by_carry, by_count, by_division, by_address, by_condition, row_of, ended}
use Rattle.jz_instructed.proofs.Lasts.{Behind}
use Rattle.jz_instructed.proofs.Lefts.{declared, here, as_here, lefts_yield, lefts_go}
use Rattle.jz_instructed.proofs.Operands.{Does, IfAsked, both_asked, does_went, does_then, does_any, does_yield, yields_done, IsIn, word_does, word_in_interval, flag_does, answer_does}

-- a count as it is written
abbrev written_count : Term → Option ℕ
written_count (num (pos n) at) = Some n
written_count t = None

-- ---- quotients

-- the double word of a high word below the divisor has a quotient that is a word
quotient_there : (z : Size) (high low d : ℕ) → high < d → low < modulus z → nat_lt (double_word z high low / d) (modulus z) ≡ true
quotient_there z high low d h l = below (double_word z high low / d) (modulus z) (div_below (double_word z high low) d (modulus z) (positive high d h) (product high low d (modulus z) h l))
  where
    positive : (a d : ℕ) → a < d → 0 < d
    positive a d h = omega (arith, h)

    below : (a b : ℕ) → a < b → nat_lt a b ≡ true
    below a b h = grind (arith, rules, h)

    product : (a b d m : ℕ) → a < d → b < m → a * m + b < m * d
    product a b d m h l =
        let s : a + 1 ≤ d = omega (arith, h) in
        let x : m * (a + 1) ≤ m * d = mul-le-mul_left m s in
        let y : m * (a + 1) ≡ a * m + m = grind arith in
        omega (arith, x, y, l)

no_zero : (a d : ℕ) → a < d → (d == 0) ≡ false
no_zero a d h = grind (arith, rules, h)

abbrev Divided : Option ℕ → Size → Results → Type 0
Divided n z vs = AreGot (instruction_gets name.Div n) (flags_and_two z) vs

quotient_got : (n : Option ℕ) (at : Span) (z : Size) (ns : List ℕ) (nil fits : Bool) (q r : ℕ) → Yields (Divided n z) (divided_by at z ns (if nil then None else if fits then Some (record { high = r; low = q; flags = no_flags }) else None))
quotient_got n at z ns true fits q r = tt
quotient_got n at z ns false true q r = (inl refl, (inl refl, (inl refl, (inl refl, (inl refl, ((_, refl), ((_, refl), tt)))))))
quotient_got n at z ns false false q r = tt

division_got : (n : Option ℕ) (at : Span) (z : Size) (high low d : ℕ) → Yields (Divided n z) (division_results at z high low d)
unfolding quotient_answer
division_got n at z high low d = quotient_got n at z (high ∷ low ∷ d ∷ []) (d == 0) (nat_lt (double_word z high low / d) (modulus z)) (double_word z high low / d) (double_word z high low % d)

division_goes : (n : Option ℕ) (at : Span) (z : Size) (high low d : ℕ) → high < d → low < modulus z → Runs (Divided n z) (division_results at z high low d)
unfolding quotient_answer
division_goes n at z high low d h l =
    let ns : List ℕ = high ∷ low ∷ d ∷ [] in
    let q : ℕ = double_word z high low / d in
    let r : ℕ = double_word z high low % d in
    subst (λ c. Runs (Divided n z) (divided_by at z ns (if c then None else if nat_lt q (modulus z) then Some (record { high = r; low = q; flags = no_flags }) else None))) (sym (no_zero high d h))
    (subst (λ c. Runs (Divided n z) (divided_by at z ns (if c then Some (record { high = r; low = q; flags = no_flags }) else None))) (sym (quotient_there z high low d h l))
    (inl refl, (inl refl, (inl refl, (inl refl, (inl refl, ((_, refl), ((_, refl), tt))))))))

module _ (g : Given) (kinds : Kinds) (in_frame : Key → Bool) (entry : Key → ℕ) (s : Facts) (st : State) (H : Stands g kinds in_frame entry s st) (nn : NoNumbers kinds) (c : Bool) where
  abbrev Got : Intrinsic → Option ℕ → Size → Results → Type 0
  Got i n z vs = AreGot (instruction_gets i n) (shapes_of i z) vs

  abbrev Operands : Form → Size → List Expr → Type 0
  Operands f z es = AreOperands kinds in_frame f z es

  abbrev Word : Span → Size → Expr → Evaluation ℕ
  Word at z a = word_in at z a st

  -- ---- by the operands

  one_does : (i : Intrinsic) (n : Option ℕ) (at : Span) (z : Size) → OneWord i n at z → (es : List Expr) → Operands one_word z es → IfAsked c (asks_each g s (Some z) es) → Does c (Got i n z) (intrinsic_results i at z es st)
  one_does i n at z R (a ∷ []) p q =
      let d = both_asked c (asks_expr g s (Some z) a) None q in
      subst (λ (f : List Expr → State → Evaluation Results). Does c (Got i n z) (f (a ∷ []) st)) (sym R.is)
      (does_then c (λ x. Unit {0}) (Got i n z) (Word at z a) (λ x. went [] (R.f x)) (word_does g kinds in_frame entry s st H nn c at z a p d.0) (λ x u. does_went c (Got i n z) [] (R.f x) (R.got x)))
  one_does i n at z R [] p q = absurd p
  one_does i n at z R (a ∷ b ∷ es) p q = absurd p

  two_do : (i : Intrinsic) (n : Option ℕ) (at : Span) (z : Size) → TwoWords i n at z → (es : List Expr) → Operands two_words z es → IfAsked c (asks_each g s (Some z) es) → Does c (Got i n z) (intrinsic_results i at z es st)
  two_do i n at z R (a ∷ b ∷ []) p q =
      let d = both_asked c (asks_expr g s (Some z) a) (asks_each g s (Some z) (b ∷ [])) q in
      let e = both_asked c (asks_expr g s (Some z) b) None d.1 in
      subst (λ (f : List Expr → State → Evaluation Results). Does c (Got i n z) (f (a ∷ b ∷ []) st)) (sym R.is)
      (does_then c (λ x. Unit {0}) (Got i n z) (Word at z a) (λ x. and_then (Word at z b) (λ y. went [] (R.f x y))) (word_does g kinds in_frame entry s st H nn c at z a p.0 d.0) (λ x u.
      does_then c (λ y. Unit {0}) (Got i n z) (Word at z b) (λ y. went [] (R.f x y)) (word_does g kinds in_frame entry s st H nn c at z b p.1 e.0) (λ y u. does_went c (Got i n z) [] (R.f x y) (R.got x y))))
  two_do i n at z R [] p q = absurd p
  two_do i n at z R (a ∷ []) p q = absurd p
  two_do i n at z R (a ∷ b ∷ k ∷ es) p q = absurd p

  carry_does : (i : Intrinsic) (n : Option ℕ) (at : Span) (z : Size) → WithCarry i n at z → (es : List Expr) → Operands with_carry z es → IfAsked c (asks_each g s (Some z) es) → Does c (Got i n z) (intrinsic_results i at z es st)
  carry_does i n at z R (a ∷ b ∷ k ∷ []) p q =
      let d = both_asked c (asks_expr g s (Some z) a) (asks_each g s (Some z) (b ∷ k ∷ [])) q in
      let e = both_asked c (asks_expr g s (Some z) b) (asks_each g s (Some z) (k ∷ [])) d.1 in
      let f = both_asked c (asks_expr g s (Some z) k) None e.1 in
      subst (λ (f : List Expr → State → Evaluation Results). Does c (Got i n z) (f (a ∷ b ∷ k ∷ []) st)) (sym R.is)
      (does_then c (λ x. Unit {0}) (Got i n z) (Word at z a) (λ x. and_then (Word at z b) (λ y. and_then (bool_in at k st) (λ h. went [] (R.f x y h)))) (word_does g kinds in_frame entry s st H nn c at z a p.0 d.0) (λ x u.
      does_then c (λ y. Unit {0}) (Got i n z) (Word at z b) (λ y. and_then (bool_in at k st) (λ h. went [] (R.f x y h))) (word_does g kinds in_frame entry s st H nn c at z b p.1 e.0) (λ y u.
      does_then c (λ h. Unit {0}) (Got i n z) (bool_in at k st) (λ h. went [] (R.f x y h)) (flag_does g kinds in_frame entry s st H nn c at (Some z) k p.2 f.0) (λ h u. does_went c (Got i n z) [] (R.f x y h) (R.got x y h)))))
  carry_does i n at z R [] p q = absurd p
  carry_does i n at z R (a ∷ []) p q = absurd p
  carry_does i n at z R (a ∷ b ∷ []) p q = absurd p
  carry_does i n at z R (a ∷ b ∷ k ∷ d ∷ es) p q = absurd p

  -- ---- counts

  module _ (i : Intrinsic) (at : Span) (z : Size) (R : WithCount i at z) where
    abbrev Shifts : Term → Type 0
    Shifts t = CountFits z t → IfAsked c (asks g s (Some z) t) → (a : ℕ) → Does c (Got i (written_count t) z) (and_then ((means t).run (Some S8) st) (λ v. shift_results R.keep R.shift_of at z a v))

    mask_does : (x : Ref) (n : ℤ) (t m : Span) → x.kind ≡ kind.Word S8 → IsScalar kinds in_frame x → IfAsked c (asks g s (Some z) (bin o.And (var x) (num n t) m)) → Does c (OfSize S8 false) ((means (bin o.And (var x) (num n t) m)).run (Some S8) st)
    mask_does x n t m e k q = by c q
      where
        by : (d : Bool) → IfAsked d (asks g s (Some z) (bin o.And (var x) (num n t) m)) → Does d (OfSize S8 false) ((means (bin o.And (var x) (num n t) m)).run (Some S8) st)
        by true q = word_runs g kinds in_frame entry s st H nn (bin o.And (var x) (num n t) m) (Some S8) S8 (refl, refl, (e, k), inr (inl (refl, tt))) q
        by false q = does_yield (OfSize S8 false) ((means (bin o.And (var x) (num n t) m)).run (Some S8) st) (typed g kinds in_frame entry s st H (bin o.And (var x) (num n t) m) (Some S8) S8 (refl, refl, (e, k), inr (inl (refl, tt))))

    by_byte : (a : ℕ) (v : Value) → OfSize S8 false v → Does c (Got i None z) (shift_results R.keep R.shift_of at z a v)
    by_byte a (word y n) h = does_went c (Got i None z) [] (WithMask R.keep R.shift_of z a (masked z n)) (R.by_mask a n)
    by_byte a (integer j) h = absurd (cc h)
    by_byte a (boolean b) h = absurd h

    shifts : (t : Term) → IsCount kinds in_frame t → Shifts t
    shifts = counted_by kinds in_frame Shifts
        (λ n m f q a. does_went c (Got i (Some n) z) [] (WithNumber R.keep R.shift_of z a (masked z n)) (R.by_number a n f))
        (λ x n t m e k f q a. does_then c (OfSize S8 false) (Got i None z) ((means (bin o.And (var x) (num n t) m)).run (Some S8) st) (λ v. shift_results R.keep R.shift_of at z a v) (mask_does x n t m e k q) (λ v h. by_byte a v h))

    count_does : (es : List Expr) → Operands with_count z es → IfAsked c (asks_each g s (Some z) es) → Does c (Got i (counted es) z) (intrinsic_results i at z es st)
    count_does (a ∷ n ∷ []) p q =
        let d = both_asked c (asks_expr g s (Some z) a) (asks_each g s (Some z) (n ∷ [])) q in
        let e = both_asked c (asks_expr g s (Some z) n) None d.1 in
        let G : Results → Type 0 = Got i (written_count (term_of n)) z in
        subst (λ (f : List Expr → State → Evaluation Results). Does c G (f (a ∷ n ∷ []) st)) (sym R.is)
        (does_then c (λ x. Unit {0}) G (Word at z a) (λ x. and_then (evaluated n (Some S8) st) (λ v. shift_results R.keep R.shift_of at z x v)) (word_does g kinds in_frame entry s st H nn c at z a p.0 d.0) (λ x u.
        subst (λ (m : Meaning). Does c G (and_then (m.run (Some S8) st) (λ v. shift_results R.keep R.shift_of at z x v))) (sym (term_so n)) (shifts (term_of n) p.1 p.2 e.0 x)))
    count_does [] p q = absurd p
    count_does (a ∷ []) p q = absurd p
    count_does (a ∷ b ∷ k ∷ es) p q = absurd p

  -- ---- divisions, addresses and conditions

  division_does : (d : Bool) (n : Option ℕ) (at : Span) (z : Size) (es : List Expr) → Operands three_words z es → IfAsked d (asks_each g s (Some z) es) → IfAsked d (asks_division g s name.Div z es at) → Does d (Got name.Div n z) (intrinsic_results name.Div at z es st)
  division_does true n at z (a ∷ b ∷ k ∷ []) p q l =
      let d = both_met (asks_expr g s (Some z) a) _ q in
      let e = both_met (asks_expr g s (Some z) b) _ d.1 in
      let f = both_met (asks_expr g s (Some z) k) _ e.1 in
      let i : Interval = interval g s z (term_of a) in
      let j : Interval = interval g s z (term_of b) in
      let h : Interval = interval g s z (term_of k) in
      let m : nat_lt i.hi h.lo ≡ true = met (nat_lt i.hi h.lo) at Divide division l in
      runs_then (IsIn i z) (Got name.Div n z) (Word at z a) (λ x. and_then (Word at z b) (λ y. and_then (Word at z k) (division_results at z x y))) (word_in_interval g kinds in_frame entry s st H nn at z a p.0 d.0) (λ x hx.
      runs_then (IsIn j z) (Got name.Div n z) (Word at z b) (λ y. and_then (Word at z k) (division_results at z x y)) (word_in_interval g kinds in_frame entry s st H nn at z b p.1 e.0) (λ y hy.
      runs_then (IsIn h z) (Got name.Div n z) (Word at z k) (division_results at z x y) (word_in_interval g kinds in_frame entry s st H nn at z k p.2 f.0) (λ w hw.
      division_goes n at z x y w (less x w i h hx.0 hw.0 m) hy.1)))
    where
      less : (x w : ℕ) (i h : Interval) → In i x → In h w → nat_lt i.hi h.lo ≡ true → x < w
      less x w i h p q m = let a : i.hi < h.lo = grind (arith, rules, m) in let b = p.1 in let d = q.0 in omega (arith, a, b, d)
  division_does false n at z (a ∷ b ∷ k ∷ []) p q l =
      does_then false (λ x. Unit {0}) (Got name.Div n z) (Word at z a) (λ x. and_then (Word at z b) (λ y. and_then (Word at z k) (division_results at z x y))) (does_any (Word at z a)) (λ x hx.
      does_then false (λ y. Unit {0}) (Got name.Div n z) (Word at z b) (λ y. and_then (Word at z k) (division_results at z x y)) (does_any (Word at z b)) (λ y hy.
      does_then false (λ w. Unit {0}) (Got name.Div n z) (Word at z k) (division_results at z x y) (does_any (Word at z k)) (λ w hw.
      does_yield (Got name.Div n z) (division_results at z x y w) (division_got n at z x y w))))
  division_does d n at z [] p q l = absurd p
  division_does d n at z (a ∷ []) p q l = absurd p
  division_does d n at z (a ∷ b ∷ []) p q l = absurd p
  division_does d n at z (a ∷ b ∷ k ∷ h ∷ es) p q l = absurd p

  abbrev ResultsDo : Intrinsic → Span → Size → Option Size → List Lval → List Expr → Type 0
  ResultsDo i at z zo to es = intrinsic_size i zo to es ≡ Some z → Operands (form_of i) z es → IfAsked c (asks_each g s (Some z) es) → IfAsked c (asks_division g s i z es at) → Does c (Got i (counted es) z) (intrinsic_results i at z es st)

  same : {y z : Size} → Some y ≡ Some z → y ≡ z
  same e = cc e

  lea_at : (n : Option ℕ) (at : Span) (es : List Expr) → Operands an_address S64 es → IfAsked c (asks_each g s (Some S64) es) → Does c (Got name.Lea n S64) (of_one (λ a. before_value [] S64 a) at S64 es st)
  lea_at n at (a ∷ []) p q = does_then c (λ x. Unit {0}) (Got name.Lea n S64) (Word at S64 a) (λ x. went [] (before_value [] S64 x)) (word_does g kinds in_frame entry s st H nn c at S64 a (sum_word kinds in_frame (term_of a) p) (both_asked c (asks_expr g s (Some S64) a) None q).0) (λ x u. does_went c (Got name.Lea n S64) [] (before_value [] S64 x) ((_, refl), tt))
  lea_at n at [] p q = absurd p
  lea_at n at (a ∷ b ∷ es) p q = absurd p

  lea_does : (at : Span) (z : Size) (zo : Option Size) (to : List Lval) (es : List Expr) → ResultsDo name.Lea at z zo to es
  lea_does at z zo to es l p q d = subst (λ z. Operands an_address z es → IfAsked c (asks_each g s (Some z) es) → Does c (Got name.Lea (counted es) z) (of_one (λ a. before_value [] S64 a) at S64 es st)) (same l) (lea_at (counted es) at es) p q

  set_at : (n : Option ℕ) (at : Span) (es : List Expr) → Operands a_condition S8 es → IfAsked c (asks_each g s (Some S8) es) → Does c (Got name.Setcc n S8) (of_condition at es st)
  set_at n at (k ∷ []) p q = does_then c (λ x. Unit {0}) (Got name.Setcc n S8) (bool_in at k st) (λ x. went [] (Some (word S8 (carried x)) ∷ [])) (answer_does g kinds in_frame entry s st H nn c at (Some S8) k p (both_asked c (asks_expr g s (Some S8) k) None q).0) (λ x u. does_went c (Got name.Setcc n S8) [] (Some (word S8 (carried x)) ∷ []) ((_, refl), tt))
  set_at n at [] p q = absurd p
  set_at n at (a ∷ b ∷ es) p q = absurd p

  set_does : (at : Span) (z : Size) (zo : Option Size) (to : List Lval) (es : List Expr) → ResultsDo name.Setcc at z zo to es
  set_does at z zo to es l p q d = subst (λ z. Operands a_condition z es → IfAsked c (asks_each g s (Some z) es) → Does c (Got name.Setcc (counted es) z) (of_condition at es st)) (same l) (set_at (counted es) at es) p q

  -- ---- each instruction

  results_do : (i : Intrinsic) (at : Span) (z : Size) (zo : Option Size) (to : List Lval) (es : List Expr) → ResultsDo i at z zo to es
  results_do i at z zo to es l p q d = by (row_of i)
    where
      by : Row i → Does c (Got i (counted es) z) (intrinsic_results i at z es st)
      by (by_one e R) = one_does i (counted es) at z (R (counted es) at z) es (subst (λ f. Operands f z es) e p) q
      by (by_two e R) = two_do i (counted es) at z (R (counted es) at z) es (subst (λ f. Operands f z es) e p) q
      by (by_carry e R) = carry_does i (counted es) at z (R (counted es) at z) es (subst (λ f. Operands f z es) e p) q
      by (by_count e R) = count_does i at z (R at z) es (subst (λ f. Operands f z es) e p) q
      by (by_division e) = subst (λ j. ResultsDo j at z zo to es) (sym e) (λ l p q d. division_does c (counted es) at z es p q d) l p q d
      by (by_address e) = subst (λ j. ResultsDo j at z zo to es) (sym e) (lea_does at z zo to es) l p q d
      by (by_condition e) = subst (λ j. ResultsDo j at z zo to es) (sym e) (set_does at z zo to es) l p q d

module _ (g : Given) (kinds : Kinds) (in_frame : Key → Bool) (entry : Key → ℕ) (s : Facts) (st : State) (H : Stands g kinds in_frame entry s st) (nn : NoNumbers kinds) where
  abbrev Comes : Intrinsic → Option ℕ → Size → Results → Type 0
  Comes i n z vs = AreGot (instruction_gets i n) (shapes_of i z) vs

  pub instructed_stands : (i : Option Instance) (to : List Lval) (args : List Expr) (at : Span) → IsInstructed kinds in_frame i to args → Yields (Stands g kinds in_frame entry (instructed g i to args s)) (instruction_done i to args at st)
  instructed_stands None to args at p = absurd p
  instructed_stands (Some i) to args at p =
      let zo = intrinsic_size i.name i.size to args in
      let z = p.0 in
      let n = counted args in
      let facts : Facts = all_written g s to (instruction_gets i.name n) s in
      let B : State → Type 0 = Behind g in_frame entry facts in
      three B (IsOfKinds kinds) (λ t. Unit {0}) (Stands g kinds in_frame entry facts) (instruction_done (Some i) to args at st)
      (λ t h k u. record { says = h.says; apart = h.apart; kept = k; ranges = H.ranges; least = H.least; regions = h.valid })
      (yields_then (Comes i.name n z) B (sized_results i.name at zo args st) (λ vs. all_put at zo to vs st)
      (subst (λ u. Yields (Comes i.name n z) (sized_results i.name at u args st)) (sym p.1) (yields_done (Comes i.name n z) (intrinsic_results i.name at z args st) (results_do g kinds in_frame entry s st H nn false i.name at z i.size to args p.1 p.2 tt tt)))
      (λ vs q. lefts_yield g kinds in_frame entry s st H nn at zo to (instruction_gets i.name n) (shapes_of i.name z) vs s st z (ended i.name z) q p.3 (here g kinds in_frame entry s st H nn) (as_here g kinds in_frame entry s st H nn)))
      (if_went (IsOfKinds kinds) (instruction_done (Some i) to args at st) (instruction_keeps kinds (Some i) to args at st (declared kinds in_frame (shapes_of i.name z) to p.3) H.kept))
      (any_yields _)

  pub instructed_runs : (i : Option Instance) (to : List Lval) (args : List Expr) (at : Span) → IsInstructed kinds in_frame i to args → asks_instruction g s i to args at ≡ None → Runs (λ t. Unit {0}) (instruction_done i to args at st)
  instructed_runs None to args at p q = absurd p
  instructed_runs (Some i) to args at p q =
      let zo = intrinsic_size i.name i.size to args in
      let z = p.0 in
      let n = counted args in
      let a = both_met (asks_each g s zo args) _ q in
      let b = both_met (asks_division g s i.name (size_or_64 zo) args at) _ a.1 in
      let d : asks_division g s i.name z args at ≡ None = subst (λ u. asks_division g s i.name (size_or_64 u) args at ≡ None) p.1 b.0 in
      runs_then (Comes i.name n z) (λ t. Unit {0}) (sized_results i.name at zo args st) (λ vs. all_put at zo to vs st)
      (subst (λ u. Runs (Comes i.name n z) (sized_results i.name at u args st)) (sym p.1) (results_do g kinds in_frame entry s st H nn true i.name at z i.size to args p.1 p.2 (subst (λ u. asks_each g s u args ≡ None) p.1 a.0) d))
      (λ vs h. lefts_go g kinds in_frame entry s st H nn at zo to (instruction_gets i.name n) (shapes_of i.name z) vs s st z p.1 b.1 (ended i.name z) h p.3 (here g kinds in_frame entry s st H nn) (as_here g kinds in_frame entry s st H nn))
