-- What each statement asks, with what its parts ask.
use Rattle.std.proofs.Common.{◌≡◌, ℕ, suc, ◌+◌, Bool, true, false, [], Option, Some, None, refl, sym, ◌∙◌, subst, arith}
use Rattle.std.specs.Prelude.{Result, Ok, Err, IfErr, IsErrAnd}
use Rattle.jz_tree.specs.Failure.{Failure}
use Rattle.jz_tree.specs.Failure.TheVariants as failure
use Rattle.jz_tree.specs.Failures.{IfRefused}
use Rattle.jz_runs.specs.Trees.{done, op, quiet, choose, loop}
use Rattle.jz_meaning.specs.Statements.{Operation, Condition, Block}
use Rattle.jz_flow.specs.Sets.{common}
use Rattle.jz_flow.specs.Flow.{IsHead, After, OneTurn}
use Rattle.jz_flow.specs.Alarms.{FirstOf}
use Rattle.jz_facts.specs.Facts.{Facts}
use Rattle.jz_facts.specs.Holding.{does, quieted}
use Rattle.jz_facts.specs.Tests.{tested, leaves}
use Rattle.jz_facts.specs.Along.{fact_steps}
use Rattle.jz_fact_sets.specs.declared.given.Given as code
use Rattle.jz_fact_sets.specs.Kept.{given_of}
use Rattle.jz_block_facts.specs.Heads.{loops}
use Rattle.jz_alarms.specs.Conditions.{Alarm, asks_operation, asks_test}
use Rattle.jz_first_alarm.specs.InnerAsking.{FirstIn, Goes, Stops}

refused_too : {C : Type 0} (e : Failure C) (P Q : C → Type 0) → ((c : C) → P c → Q c) → IfRefused e P → IfRefused e Q
refused_too (failure.Refused c) P Q f h = f c h
refused_too failure.OutOfMemory P Q f h = tt

-- what holds of a refusal that is handed on
pub handed_on : {A C : Type 0} (r : Result A (Failure C)) (e : Failure C) (P Q : C → Type 0) → IsErrAnd r (λ v. v ≡ e) → ((c : C) → P c → Q c) → IfRefused e P → IfErr r (λ v. IfRefused v Q)
handed_on (Ok x) e P Q is f h = tt
handed_on (Err v) e P Q is f h = refused_too v P Q f (subst (λ w. IfRefused w P) (sym is) h)

-- of what comes first there is none
skipped : {P : Type 0} (x w : Option Alarm) → x ≡ None → P → FirstOf x w P
skipped x w e p = record { now = λ a h. absurd (let q = sym e ∙ h in cc q); later = λ h. p }

-- there is one
told : {P : Type 0} (x : Option Alarm) (a : Alarm) → x ≡ Some a → FirstOf x (Some a) P
told x a e = record { now = λ b h. sym e ∙ h; later = λ h. absurd (let q = sym e ∙ h in cc q) }

module _ (g : code.Given) where
  AfterOf : Block → Facts → Facts → Type 0
  AfterOf = After (fact_steps (given_of g))

  pub op_goes : (o : Operation) (i : ℕ) (s t : Facts) → asks_operation (given_of g) o s ≡ None → t ≡ does (given_of g) o s → Goes g (op o) i s i t
  op_goes o i s t n e = record {
    next = omega arith;
    after = λ r z f. subst (λ x. After (fact_steps (given_of g)) r x z) e f;
    first = λ xs r w f. skipped (asks_operation (given_of g) o s) w n (subst (λ x. FirstIn g r x w xs) e f);
  }

  pub op_stops : (o : Operation) (s : Facts) (a : Alarm) → asks_operation (given_of g) o s ≡ Some a → Stops g (op o) s a
  op_stops o s a e xs r = told (asks_operation (given_of g) o s) a e

  pub quiet_goes : (o : Operation) (i : ℕ) (s t : Facts) → t ≡ quieted o s → Goes g (quiet o) i s i t
  quiet_goes o i s t e = record {
    next = omega arith;
    after = λ r z f. subst (λ x. After (fact_steps (given_of g)) r x z) e f;
    first = λ xs r w f. subst (λ x. FirstIn g r x w xs) e f;
  }

  -- ---- `if`

  module _ (c : Condition) (a b : Block → Block) (s : Facts) (none : asks_test (given_of g) c s ≡ None) where
    pub choose_goes : (i j k : ℕ) (x y t : Facts) → Goes g a i (tested (given_of g) c true s) j x → Goes g b j (tested (given_of g) c false s) k y → t ≡ common x y
        → Goes g (choose c (a done) (b done)) i s k t
    choose_goes i j k x y t p q e = record {
      next = count i j k (loops (a done)) (loops (b done)) p.next q.next;
      after = λ r z f. (x, y, p.after done x refl, q.after done y refl, subst (λ u. After (fact_steps (given_of g)) r u z) e f);
      first = λ xs r w f. skipped (asks_test (given_of g) c s) w none (
        None,
        p.first [] done None refl,
        skipped None w refl (
          None,
          q.first [] done None refl,
          skipped None w refl (x, y, p.after done x refl, q.after done y refl, subst (λ u. FirstIn g r u w xs) e f),
        ),
      );
    }
      where
        count : (i j k n m : ℕ) → j ≡ i + n → k ≡ j + m → k ≡ i + (n + m + 0)
        count i j k n m h l = omega (arith, h, l)

    pub first_arm_stops : (v : Alarm) → Stops g a (tested (given_of g) c true s) v → Stops g (choose c (a done) (b done)) s v
    first_arm_stops v p xs r = skipped (asks_test (given_of g) c s) (Some v) none (Some v, p [] done, told (Some v) v refl)

    pub second_arm_stops : (i j : ℕ) (x : Facts) (v : Alarm) → Goes g a i (tested (given_of g) c true s) j x → Stops g b (tested (given_of g) c false s) v → Stops g (choose c (a done) (b done)) s v
    second_arm_stops i j x v p q xs r =
        skipped (asks_test (given_of g) c s) (Some v) none (None, p.first [] done None refl, skipped None (Some v) refl (Some v, q [] done, told (Some v) v refl))

  pub test_stops : (c : Condition) (a b : Block) (s : Facts) (v : Alarm) → asks_test (given_of g) c s ≡ Some v → Stops g (choose c a b) s v
  test_stops c a b s v e xs r = told (asks_test (given_of g) c s) v e

  -- ---- `while`

  module _ (w0 : Bool) (p : Block → Block) (c : Condition) (b : Block → Block) (s h : Facts) (head : IsHead (OneTurn (fact_steps (given_of g)) (p done) c (b done)) s h) where
    pub prologue_stops : (v : Alarm) → Stops g p h v → Stops g (loop w0 (p done) c (b done)) s v
    prologue_stops v q xs r = (h, head, Some v, q [] done, told (Some v) v refl)

    module _ (i j : ℕ) (q : Facts) (turn : Goes g p (suc i) h j q) where
      pub loop_test_stops : (v : Alarm) → asks_test (given_of g) c q ≡ Some v → Stops g (loop w0 (p done) c (b done)) s v
      loop_test_stops v e xs r = (h, head, None, turn.first [] done None refl, skipped None (Some v) refl (q, turn.after done q refl, told (asks_test (given_of g) c q) v e))

      pub body_stops : (v : Alarm) → asks_test (given_of g) c q ≡ None → Stops g b (tested (given_of g) c true q) v → Stops g (loop w0 (p done) c (b done)) s v
      body_stops v n z xs r = (
        h,
        head,
        None,
        turn.first [] done None refl,
        skipped None (Some v) refl (
          q,
          turn.after done q refl,
          skipped (asks_test (given_of g) c q) (Some v) n (Some v, z [] done, told (Some v) v refl),
        ),
      )

      pub loop_goes : (k : ℕ) (y t : Facts) → asks_test (given_of g) c q ≡ None → Goes g b j (tested (given_of g) c true q) k y → t ≡ leaves (given_of g) c h q
          → Goes g (loop w0 (p done) c (b done)) i s k t
      loop_goes k y t n z e = record {
        next = count i j k (loops (p done)) (loops (b done)) turn.next z.next;
        after = λ r u f. (h, q, head, turn.after done q refl, subst (λ x. After (fact_steps (given_of g)) r x u) e f);
        first = λ xs r w f. (
          h,
          head,
          None,
          turn.first [] done None refl,
          skipped None w refl (
            q,
            turn.after done q refl,
            skipped (asks_test (given_of g) c q) w n (
              None,
              z.first [] done None refl,
              skipped None w refl (subst (λ x. FirstIn g r x w xs) e f),
            ),
          ),
        );
      }
        where
          count : (i j k n m : ℕ) → j ≡ suc i + n → k ≡ j + m → k ≡ i + suc (n + m + 0)
          count i j k n m h l = omega (arith, h, l)
