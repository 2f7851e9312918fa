-- A body whose calls are copies of what they call can be unrolled where each part of it, and of the
-- bodies that it calls, has values where a walk comes to it.
use Rattle.std.proofs.Common.{◌≡◌, ℕ, suc, ◌+◌, ◌<◌, List, [], ◌∷◌, Some, Bool, true, false, refl, ap, sym, ◌∙◌, subst, arith, inl, inr}
use Rattle.std.specs.Prelude.{⊤, ℤ, ◌⊎◌, if◌then◌else◌}
use Rattle.jz_tree.specs.declared.expr.Expr.{Expr}
use Rattle.jz_tree.specs.declared.expr.Var.{Var}
use Rattle.jz_type_names.specs.Kinds.{is_inline}
use Rattle.jz_type_names.specs.Parts.{span_of}
use Rattle.jz_integers.specs.Integers.{KnownNumbers, inline_value, the_number}
use Rattle.jz_integers.specs.declared.constant.Constant.TheVariants as constant
use Rattle.jz_runs.specs.Trees.{done, op, quiet, choose, loop, each, call}
use Rattle.jz_meaning.specs.Statements.{Condition, Counter, Block}
use Rattle.jz_meaning.specs.Values.{ref_of}
use Rattle.jz_change.specs.declared.change.Numbers.TheVariants.{Same}
use Rattle.jz_pass.specs.Copying.{copies, inlined}
use Rattle.jz_pass.specs.Operations.{in_turn}
use Rattle.jz_unrolling_laws.specs.Names.{Names, var_in, expr_in, test_in, counter_in}
use Rattle.jz_unrolling_laws.specs.Calls.{call_place, result_ops, names_of_callee, inline_calls}
use Rattle.jz_limits.specs.Values.{no_numbers, truth_of, number_in, known_after}
use Rattle.jz_limits.specs.Asked.{asked_condition}
use Rattle.jz_limits.specs.Walks.{Walk, limits, behind, followed, silent, constant_steps, taken, arms, rounds, counted_values, with_arguments, walk}
use Rattle.jz_unroll.specs.Values.{InlineNames, has_values}
use Rattle.jz_unroll.specs.Unrolling.{with_number, number_of, HasValue, tested, UnrollsLoopTest, loops, always, HasValues, IsConstant, marked}
use Rattle.jz_unrolling.specs.Forgetting.{forgotten}
use Rattle.jz_unrolling.specs.Fits.{fits_done, fits_quiet, fits_if, fits_arm, fits_while, fits_once, fits_for, FitsEach, fits_none, fits_more}
use Rattle.jz_unrolling_laws.specs.AskedLaws.{of_text, is_text}
use Rattle.jz_unrolling_laws.specs.CalledBodies.{ByTest, Inlines, inlines_of, IsNamedCounter, IsNamed, IsStill, IsAsked, IsTaken, FitsRounds, FitsCalled}
use Rattle.jz_unrolling_laws.proofs.CopiedValues.{copied_inline}
use Rattle.jz_copied_values.specs.CopiedNames.{HasNames}
use Rattle.jz_copied_values.proofs.StillWalks.{still_arms, still_walk}
use Rattle.jz_copied_values.proofs.CopiedOperations.{values_copied, value_copied}
use Rattle.jz_copied_values.proofs.CopiedNumbers.{IsCopy, Agrees, not_behind, copied_int, copied_number}
use Rattle.jz_copied_values.proofs.CalledNames.{callee_copy}
use Rattle.jz_copied_values.proofs.CalledNumbers.{mark_elsewhere, mark_none, marked_numbers, begun}
use Rattle.jz_copied_values.proofs.CopiedForgetting.{forgotten_none, vars_own, spared}
use Rattle.jz_copied_values.proofs.CopiedCalls.{FitsTo, Ends, op_before, set_ends, op_fits, arguments_fit, results_fit}

-- ---- walks over tests

arms_taken : (c : Expr) (A B : KnownNumbers → Walk) (e : KnownNumbers) (z : Bool) → is_inline c ≡ true → inline_value e c ≡ Some (constant.Bool z) → (arms c A B e).known ≡ (if z then A e else B e).known
arms_taken c A B e z inline value =
    ap (λ b. (if b then behind (constant_steps (span_of c) (truth_of (inline_value e c))) (taken (truth_of (inline_value e c)) (A e) (B e) (silent e))
    else behind (limits (asked_condition e c)) (followed (A e) B)).known) inline
    ∙ ap (λ v. (taken (truth_of v) (A e) (B e) (silent e)).known) value ∙ by_answer z
  where
    by_answer : (b : Bool) → (taken (Some b) (A e) (B e) (silent e)).known ≡ (if b then A e else B e).known
    by_answer true = refl
    by_answer false = refl

module _ (names : InlineNames) where
  abbrev In : (i : Inlines) (m : Names) (c0 : ℕ) → Type 0
  In i m c0 = IsCopy names i m c0

  -- a piece of a copy, alone
  abbrev Alone : Names → ℕ → Block → KnownNumbers → KnownNumbers → Type 0
  Alone m c0 t e1 k = FitsTo names (Ends names m c0 e1 k) t k

  alone_done : (m : Names) (c0 : ℕ) (e k k1 : KnownNumbers) → Ends names m c0 e k k1 → FitsTo names (Ends names m c0 e k) done k1
  alone_done m c0 e k k1 h = (k1, fits_done, h)

  ends_then : (m : Names) (c0 : ℕ) (e1 e2 k k1 k2 : KnownNumbers) → Ends names m c0 e1 k k1 → Ends names m c0 e2 k1 k2 → Ends names m c0 e2 k k2
  ends_then m c0 e1 e2 k k1 k2 a b = record { agrees = b.agrees; before = λ n x lt. b.before n x lt ∙ a.before n x lt }

  -- ---- what is forgotten

  forgets : (i : Inlines) (m : Names) (c0 c d : ℕ) (a b : Block) (e k : KnownNumbers) → In i m c0 → c0 < c → c0 < d → HasNames names c a → HasNames names d b → IsNamed i a → IsNamed i b → IsStill a → IsStill b → Agrees names m e k
      → Ends names m c0 e k (forgotten names (inlined inline_calls m d b done) (forgotten names (inlined inline_calls m c a done) k))
  forgets i m c0 c d a b e k copy up up2 has has2 named named2 still still2 agree =
      let first : Block = inlined inline_calls m c a done in
      let second : Block = inlined inline_calls m d b done in
      record {
        agrees = record {
          numbers = λ n.
              spared names b i m c0 d done (forgotten names first k) (m n).0 (m n).1 copy up2 has2 named2 (not_behind names i m c0 copy n d up2) (inl still2)
              ∙ spared names a i m c0 c done k (m n).0 (m n).1 copy up has named (not_behind names i m c0 copy n c up) (inl still)
              ∙ agree.numbers n;
          only = λ n x out. forgotten_none names second (forgotten names first k) n x (forgotten_none names first k n x (agree.only n x out));
        };
        before = λ n x lt.
            spared names b i m c0 d done (forgotten names first k) n x copy up2 has2 named2 (omega (arith, lt, up2)) (inl still2)
            ∙ spared names a i m c0 c done k n x copy up has named (omega (arith, lt, up)) (inl still);
      }

  -- ---- tests

  module _ (i : Inlines) (m : Names) (c0 : ℕ) (copy : In i m c0) where
    constant_in : (p : Condition) (e k : KnownNumbers) (z : Bool) → is_text p.cond ≡ true → Agrees names m e k → is_inline p.cond ≡ true → HasValue e p.cond (constant.Bool z) → IsConstant (test_in m p) k z
    constant_in p e k z text agree inline value = (copied_inline m p.cond ∙ inline, value_copied names i m copy.named e k agree.numbers p.cond (constant.Bool z) text value)

    asked_in : (p : Condition) (e k : KnownNumbers) → is_text p.cond ≡ true → Agrees names m e k → IsAsked i p.cond e → (is_inline (expr_in m p.cond) ≡ false) × (has_values names k (expr_in m p.cond) ≡ true)
    asked_in p e k text agree h = (copied_inline m p.cond ∙ h.0, values_copied names i m copy.named e k agree.numbers p.cond text ∙ h.1)

    -- the test of a `while` that stays
    abbrev Tests : Condition → KnownNumbers → Type 0
    Tests p k = (p2 : Condition) × UnrollsLoopTest names (test_in m p) k [] [] p2 Same

    -- ---- rounds

    abbrev Body : Counter → Block → (KnownNumbers → Type 0) → (KnownNumbers → Walk) → Type 0
    Body f t F W = (e k : KnownNumbers) → F e → Agrees names m e k → Alone m c0 t (W e).known k

    record Rounds (f : Counter) (t : Block) (zs : List ℤ) (e1 k : KnownNumbers) : Type 0 where
      pub behind : KnownNumbers
      pub fits : FitsEach names (counter_in m f) t zs k behind
      pub ends : Ends names m c0 e1 k behind

    rounds_fit : (f : Counter) (t : Block) (F : KnownNumbers → Type 0) (W : KnownNumbers → Walk) (zs : List ℤ) (e k : KnownNumbers) → IsNamedCounter i f → Body f t F W → FitsRounds f.counter F W zs e → Agrees names m e k → Rounds f t zs (rounds f.counter W zs e).known k
    rounds_fit f t F W [] e k named body fits agree = record { behind = k; fits = fits_none; ends = record { agrees = agree; before = λ n a lt. refl } }
    rounds_fit f t F W (z ∷ zs) e k named body fits agree =
        let e0 : KnownNumbers = with_number e f.counter (Some z) in
        let k0 : KnownNumbers = with_number k (var_in m f.counter) (Some z) in
        let set : Ends names m c0 e0 k k0 = set_ends names i m c0 copy e k agree f.counter (Some z) named.text named.counter.named in
        let one : Alone m c0 t (W e0).known k0 = body e0 k0 fits.0 set.agrees in
        let more : Rounds f t zs (rounds f.counter W zs (W e0).known).known one.0 = rounds_fit f t F W zs (W e0).known one.0 named body fits.1 one.2.agrees in
        record {
          behind = more.behind;
          fits = fits_more one.1 more.fits;
          ends = record { agrees = more.ends.agrees; before = λ n a lt. more.ends.before n a lt ∙ one.2.before n a lt ∙ set.before n a lt };
        }

    -- the counter is what it was
    restored : (v : Var) (e e1 k k1 : KnownNumbers) → of_text (ref_of v) ≡ true → i (ref_of v).name ≡ true → Agrees names m e k → Ends names m c0 e1 k k1 → Ends names m c0 (with_number e1 v (number_of e v)) k (with_number k1 (var_in m v) (number_of k (var_in m v)))
    restored v e e1 k k1 text inline agree ends =
        subst (λ z. Ends names m c0 (with_number e1 v (number_of e v)) k (with_number k1 (var_in m v) z)) (sym (copied_number names i m c0 copy v e k text agree))
        (ends_then m c0 e1 (with_number e1 v (number_of e v)) k k1 (with_number k1 (var_in m v) (number_of e v)) ends (set_ends names i m c0 copy e1 k1 ends.agrees v (number_of e v) text inline))

  -- ---- bodies

  more_up : (a c n : ℕ) → a < c → a < c + n
  more_up a c n lt = omega (arith, lt)

  -- before whatever follows
  pub tree_fits : (Post : KnownNumbers → Type 0) (t : Block) (i : Inlines) (m : Names) (c0 c : ℕ) (e k : KnownNumbers) (rest : Block) → In i m c0 → c0 < c → HasNames names c t → IsNamed i t → FitsCalled i t e → Agrees names m e k
      → ((k1 : KnownNumbers) → Ends names m c0 (walk t e).known k k1 → FitsTo names Post rest k1) → FitsTo names Post (inlined inline_calls m c t rest) k
  unfolding walk
  tree_fits Post done i m c0 c e k rest copy up has named fits agree next = next k (record { agrees = agree; before = λ n a lt. refl })
  tree_fits Post (op o r) i m c0 c e k rest copy up has named fits agree next =
      let one = op_fits names i m c0 copy e k agree o named.0 fits.0 in
      op_before names Post (inline_calls.op_in m o) (inlined inline_calls m c r rest) k one.behind one.made one.numbers one.plain one.rule
      (tree_fits Post r i m c0 c (known_after e o) one.behind rest copy up has named.1 fits.1 one.ends.agrees
      (λ k1 h. next k1 (ends_then m c0 (known_after e o) (walk r (known_after e o)).known k one.behind k1 one.ends h)))
  tree_fits Post (quiet o r) i m c0 c e k rest copy up has named fits agree next = absurd named
  tree_fits Post (choose p a b r) i m c0 c e k rest copy up has named fits agree next =
      by_test fits.0
      (λ h. tree_fits (Ends names m c0 (walk a e).known k) a i m c0 c e k done copy up has.0 named.1 h agree (λ k1 q. alone_done m c0 (walk a e).known k k1 q))
      (λ h. tree_fits (Ends names m c0 (walk b e).known k) b i m c0 (c + copies a) e k done copy up1 has.1 named.2 h agree (λ k1 q. alone_done m c0 (walk b e).known k k1 q))
      (λ k1 h. tree_fits Post r i m c0 (c + copies a + copies b) (arms p.cond (walk a) (walk b) e).known k1 rest copy up2 has.2 named.3 fits.1 h.agrees
      (λ k2 q. next k2 (ends_then m c0 (arms p.cond (walk a) (walk b) e).known (walk r (arms p.cond (walk a) (walk b) e).known).known k k1 k2 h q)))
    where
      up1 : c0 < c + copies a
      up1 = more_up c0 c (copies a) up

      up2 : c0 < c + copies a + copies b
      up2 = more_up c0 (c + copies a) (copies b) up1

      first : Block
      first = inlined inline_calls m c a done

      second : Block
      second = inlined inline_calls m (c + copies a) b done

      last : Block
      last = inlined inline_calls m (c + copies a + copies b) r rest

      known : KnownNumbers
      known = (arms p.cond (walk a) (walk b) e).known

      arm : (z : Bool) → ByTest z (FitsCalled i a e) (FitsCalled i b e) → (FitsCalled i a e → Alone m c0 first (walk a e).known k) → (FitsCalled i b e → Alone m c0 second (walk b e).known k)
          → Alone m c0 (if z then first else second) (if z then walk a e else walk b e).known k
      arm true h fa fb = fa h
      arm false h fa fb = fb h

      by_test : (IsTaken p.cond e (FitsCalled i a e) (FitsCalled i b e) ⊎ (IsAsked i p.cond e × IsStill a × IsStill b × FitsCalled i a e × FitsCalled i b (walk a e).known))
          → (FitsCalled i a e → Alone m c0 first (walk a e).known k) → (FitsCalled i b e → Alone m c0 second (walk b e).known k)
          → ((k1 : KnownNumbers) → Ends names m c0 known k k1 → FitsTo names Post last k1) → FitsTo names Post (choose (test_in m p) first second last) k
      by_test (inl (inline, (z, value, h))) fa fb more =
          let one = arm z h fa fb in
          let ends : Ends names m c0 known k one.0 = subst (λ w. Ends names m c0 w k one.0) (sym (arms_taken p.cond (walk a) (walk b) e z inline value.1)) one.2 in
          let after = more one.0 ends in
          (after.0, fits_arm z (constant_in i m c0 copy p e k z named.0 agree inline value) one.1 after.1, after.2)
      by_test (inr (asked, still, still2, ha, hb)) fa fb more =
          let k1 : KnownNumbers = forgotten names second (forgotten names first k) in
          let same : known ≡ e = still_arms p.cond (walk a) (walk b) e (still_walk a e still) (still_walk b e still2) in
          let ends : Ends names m c0 known k k1 = subst (λ w. Ends names m c0 w k k1) (sym same) (forgets i m c0 c (c + copies a) a b e k copy up up1 has.0 has.1 named.1 named.2 still still2 agree) in
          let one = fa ha in
          let two = fb (subst (FitsCalled i b) (still_walk a e still) hb) in
          let after = more k1 ends in
          let test = asked_in i m c0 copy p e k named.0 agree asked in
          (after.0, fits_if (tested test.0 test.1) one.1 two.1 after.1, after.2)
  tree_fits Post (loop l q p b r) i m c0 c e k rest copy up has named fits agree next =
      by_test fits.3
      (λ k1 a. tree_fits (Ends names m c0 (walk q e).known k1) q i m c0 c e k1 done copy up has.0 named.1 fits.2 a (λ k2 h. alone_done m c0 (walk q e).known k1 k2 h))
      (λ k1 h a. tree_fits (Ends names m c0 (walk b (walk q e).known).known k1) b i m c0 (c + copies q) (walk q e).known k1 done copy up1 has.1 named.2 h a (λ k2 w. alone_done m c0 (walk b (walk q e).known).known k1 k2 w))
      (λ k1 h. tree_fits Post r i m c0 (c + copies q + copies b) known k1 rest copy up2 has.2 named.3 fits.4 h.agrees
      (λ k2 w. next k2 (ends_then m c0 known (walk r known).known k k1 k2 h w)))
    where
      up1 : c0 < c + copies q
      up1 = more_up c0 c (copies q) up

      up2 : c0 < c + copies q + copies b
      up2 = more_up c0 (c + copies q) (copies b) up1

      first : Block
      first = inlined inline_calls m c q done

      second : Block
      second = inlined inline_calls m (c + copies q) b done

      last : Block
      last = inlined inline_calls m (c + copies q + copies b) r rest

      -- behind the prologue, and behind the loop
      inside : KnownNumbers
      inside = (walk q e).known

      known : KnownNumbers
      known = (arms p.cond (walk b) silent (walk q e).known).known

      same_inside : inside ≡ e
      same_inside = still_walk q e fits.0

      same_known : known ≡ e
      same_known = ap (λ w. (arms p.cond (walk b) silent w).known) same_inside ∙ still_arms p.cond (walk b) silent e (still_walk b e fits.1) refl

      stays_so : (IsConstant (test_in m p) k false → ⊥) → ((k1 : KnownNumbers) → Agrees names m inside k1 → Tests i m c0 copy p k1) → FitsCalled i b inside
          → ((k1 : KnownNumbers) → Agrees names m e k1 → Alone m c0 first inside k1) → ((k1 : KnownNumbers) → FitsCalled i b inside → Agrees names m inside k1 → Alone m c0 second (walk b inside).known k1)
          → ((k1 : KnownNumbers) → Ends names m c0 known k k1 → FitsTo names Post last k1) → FitsTo names Post (loop l first (test_in m p) second last) k
      stays_so never test hb fq fb more =
          let k0 : KnownNumbers = forgotten names second (forgotten names first k) in
          let ends : Ends names m c0 e k k0 = forgets i m c0 c (c + copies q) q b e k copy up up1 has.0 has.1 named.1 named.2 fits.0 fits.1 agree in
          let one = fq k0 ends.agrees in
          let two = fb one.0 hb one.2.agrees in
          let after = more k0 (subst (λ w. Ends names m c0 w k k0) (sym same_known) ends) in
          (after.0, fits_while never one.1 (test one.0 one.2.agrees).1 two.1 after.1, after.2)

      by_test : (IsTaken p.cond inside (FitsCalled i b inside) ⊤ ⊎ (IsAsked i p.cond inside × FitsCalled i b inside))
          → ((k1 : KnownNumbers) → Agrees names m e k1 → Alone m c0 first inside k1) → ((k1 : KnownNumbers) → FitsCalled i b inside → Agrees names m inside k1 → Alone m c0 second (walk b inside).known k1)
          → ((k1 : KnownNumbers) → Ends names m c0 known k k1 → FitsTo names Post last k1) → FitsTo names Post (loop l first (test_in m p) second last) k
      by_test (inl (inline, (true, value, h))) fq fb more =
          let here : HasValue e p.cond (constant.Bool true) = subst (λ w. HasValue w p.cond (constant.Bool true)) same_inside value in
          let is = constant_in i m c0 copy p e k true named.0 agree inline here in
          stays_so
          (λ other. (let yes_so = is.1.1 in let no_so = other.1.1 in absurd cc))
          (λ k1 a. (let now = constant_in i m c0 copy p inside k1 true named.0 a inline value in (_, always now.0 now.1)))
          h fq fb more
      by_test (inl (inline, (false, value, h))) fq fb more =
          let here : HasValue e p.cond (constant.Bool false) = subst (λ w. HasValue w p.cond (constant.Bool false)) same_inside value in
          let one = fq k agree in
          let after = more one.0 (subst (λ w. Ends names m c0 w k one.0) (same_inside ∙ sym same_known) one.2) in
          (after.0, fits_once (constant_in i m c0 copy p e k false named.0 agree inline here) one.1 (constant_in i m c0 copy p inside one.0 false named.0 one.2.agrees inline value) after.1, after.2)
      by_test (inr (asked, h)) fq fb more =
          stays_so
          (λ other. (let inline_so = other.0 in let plain_so = (asked_in i m c0 copy p inside k named.0 (subst (λ w. Agrees names m w k) (sym same_inside) agree) asked).0 in absurd cc))
          (λ k1 a. (let now = asked_in i m c0 copy p inside k1 named.0 a asked in (_, loops now.0 now.1)))
          h fq fb more
  tree_fits Post (each f b r) i m c0 c e k rest copy up has named fits agree next =
      let zs : List ℤ = counted_values f.down (number_in e f.from) (number_in e f.to) in
      let first : Block = inlined inline_calls m c b done in
      let from = fits.0.0 in
      let to = fits.0.1 in
      let v : Var = f.counter in
      let e1 : KnownNumbers = (rounds v (walk b) zs e).known in
      let e2 : KnownNumbers = with_number e1 v (number_of e v) in
      let made : Rounds i m c0 copy f first zs e1 k =
      rounds_fit i m c0 copy f first (FitsCalled i b) (walk b) zs e k named.0
      (λ e3 k3 h a. tree_fits (Ends names m c0 (walk b e3).known k3) b i m c0 c e3 k3 done copy up has.0 named.1 h a (λ k4 w. alone_done m c0 (walk b e3).known k3 k4 w)) fits.1 agree in
      let k2 : KnownNumbers = with_number made.behind (var_in m v) (number_of k (var_in m v)) in
      let ends : Ends names m c0 e2 k k2 = restored i m c0 copy v e e1 k made.behind named.0.text named.0.counter.named agree made.ends in
      let values : HasValues names (counter_in m f) k zs = record {
        counter = copied_int names i m c0 copy v named.0.counter;
        first = from.0;
        bound = to.0;
        from = value_copied names i m copy.named e k agree.numbers f.from (constant.Int from.0) named.0.from.0 from.1;
        to = value_copied names i m copy.named e k agree.numbers f.to (constant.Int to.0) named.0.to.0 to.1;
        values = ap (λ w. counted_values f.down w (number_in e f.to)) (ap the_number from.1.1) ∙ ap (λ w. counted_values f.down (Some from.0) w) (ap the_number to.1.1);
      } in
      let after = tree_fits Post r i m c0 (c + copies b) e2 k2 rest copy (more_up c0 c (copies b) up) has.1 named.2 fits.2 ends.agrees (λ k3 h. next k3 (ends_then m c0 e2 (walk r e2).known k k2 k3 ends h)) in
      (after.0, fits_for (copied_inline m f.from ∙ named.0.from.1) (copied_inline m f.to ∙ named.0.to.1) values made.fits after.1, after.2)
  tree_fits Post (call q b r) i m c0 c e k rest copy up has named fits agree next =
      let j : Inlines = inlines_of q.callee in
      let inner : Names = names_of_callee m c q in
      let at = call_place q.to q.at in
      let below : IsCopy names j inner c = callee_copy names i j m c0 c copy up has.0 q.callee.params q.args named.0.arguments in
      let given : KnownNumbers = with_arguments e q.callee.params q.args no_numbers in
      let last : Block = inlined inline_calls m (suc c + copies b) r rest in
      let back : Block = in_turn (result_ops m inner at q.to q.callee.result) last in
      let body : Block = inlined inline_calls inner (suc c) b back in
      let before : KnownNumbers = λ n a. k n c in
      arguments_fit names i j m inner c0 c copy below up e at Post q.callee.params q.args before k (quiet (inline_calls.mark m c q) body) named.0.arguments fits.0 agree (λ n. refl)
      (λ k1 agree1 set1 before1.
      (let k2 : KnownNumbers = marked_numbers inner c q.callee.vars k1 in
      let own = vars_own names i j m c q named.0 in
      let start : Agrees names inner given k2 = record {
        numbers = begun names i q.callee inner c below e q.args before k1 named.0.apart named.0.arguments own agree1.only set1;
        only = λ n a out. mark_none inner c q.callee.vars k1 n a (agree1.only n a out);
      } in
      let inside = tree_fits Post b j inner c (suc c) given k2 back below (omega arith) has.1 named.1 fits.2 start
      (λ k3 ends3.
      (let kept : (n : List ℕ) (a : ℕ) → a < c → k3 n a ≡ k1 n a = λ n a lt. ends3.before n a lt ∙ mark_elsewhere inner c q.callee.vars k1 n a own (λ same. omega (arith, same, lt)) in
      let agree3 : Agrees names m e k3 = record { numbers = λ n. kept (m n).0 (m n).1 (not_behind names i m c0 copy n c up) ∙ agree1.numbers n; only = ends3.agrees.only } in
      results_fit names i j m inner c0 c copy below up e at Post k3 agree3 q.to q.callee.result last named.0.results fits.1
      (tree_fits Post r i m c0 (suc c + copies b) e k3 rest copy (omega (arith, up)) has.2 named.2 fits.3 agree3
      (λ k4 ends4. next k4 (record {
        agrees = ends4.agrees;
        before = λ n a lt. ends4.before n a lt ∙ kept n a (omega (arith, lt, up)) ∙ before1 n a (omega (arith, lt, up));
      }))))) in
      (inside.0, fits_quiet marked inside.1, inside.2)))
