-- What is met, one part after another.
use Rattle.std.proofs.Common.{◌≡◌, ℕ, zero, suc, ◌+◌, ◌-◌, ◌≤◌, ◌<◌, Bool, true, false, List, [], ◌∷◌, ◌++◌, Some, None, refl, sym, ap, ◌∙◌, subst, if◌then◌else◌, arith, append-nil}
use Rattle.std.specs.Prelude.{nat_le, replicate}
use Rattle.std.proofs.lemmas.Bool.Decides.{nat_tests}
use Rattle.jz_integers.specs.Integers.{KnownNumbers}
use Rattle.jz_meaning.specs.Statements.{Operation}
use Rattle.jz_limits.specs.declared.limit.Limit.{Limit}
use Rattle.jz_limits.specs.Limits.{Step, one, passing, most_statements, count_of}
use Rattle.jz_limits.specs.declared.limit.Limit.TheVariants.{Expand}
use Rattle.jz_limits.specs.InnerFirst.{first_from}
use Rattle.jz_limits.specs.InnerLooked.{first}
use Rattle.jz_limits.specs.Asked.{asked}
use Rattle.jz_limits.specs.Values.{known_after}
use Rattle.jz_limits.specs.Walks.{Walk, limits, behind, followed, silent, operation_walk}
use Rattle.jz_limits.proofs.First.{count-append}
use Rattle.jz_first_limit.specs.declared.met.Met.{Met}
use Rattle.jz_first_limit.specs.declared.met.Met.TheVariants.{Within, Passed}
use Rattle.jz_first_limit.specs.InnerMet.{MeetsSteps, Knows, Meets}

-- ---- lists of steps

no_limit : {A : Type 0} → (l : Limit) → Some l ≡ None → A
no_limit l e = absurd cc

not_none : {A : Type 0} → (l : Limit) → None ≡ Some l → A
not_none l e = absurd cc

on_by : (t : Bool) (n : ℕ) (a b : List Step) → (first_from (suc n) a ≡ None → first_from (suc n) (a ++ b) ≡ first_from (suc n + count_of a) b) → (if t then Some Expand else first_from (suc n) a) ≡ None → (if t then Some Expand else first_from (suc n) (a ++ b)) ≡ first_from (n + suc (count_of a)) b
on_by true n a b go h = no_limit Expand h
on_by false n a b go h = let e : suc n + count_of a ≡ n + suc (count_of a) = omega arith in go h ∙ ap (λ k. first_from k b) e

-- nothing was found in the first part
pub first_on : (n : ℕ) (a b : List Step) → first_from n a ≡ None → first_from n (a ++ b) ≡ first_from (n + count_of a) b
first_on n [] b h = let e : n ≡ n + 0 = omega arith in ap (λ k. first_from k b) e
first_on n (passing l ∷ a) b h = no_limit l h
first_on n (one ∷ a) b h = on_by (nat_le most_statements n) n a b (first_on (suc n) a b) h

stops_by : (t : Bool) (n : ℕ) (a b : List Step) (l : Limit) → (first_from (suc n) a ≡ Some l → first_from (suc n) (a ++ b) ≡ Some l) → (if t then Some Expand else first_from (suc n) a) ≡ Some l → (if t then Some Expand else first_from (suc n) (a ++ b)) ≡ Some l
stops_by true n a b l go h = h
stops_by false n a b l go h = go h

-- one was
pub first_stops : (n : ℕ) (a b : List Step) (l : Limit) → first_from n a ≡ Some l → first_from n (a ++ b) ≡ Some l
first_stops n [] b l h = not_none l h
first_stops n (passing m ∷ a) b l h = h
first_stops n (one ∷ a) b l h = stops_by (nat_le most_statements n) n a b l (first_stops (suc n) a b l) h

-- ---- steps, and then a walk

pub steps_then : (n m : ℕ) (ss : List Step) (w : Walk) (r : Met) (k : KnownNumbers) → MeetsSteps n ss (Within m) → Meets m w r k → Meets n (behind ss w) r k
steps_then n m ss w (Within j) k h g = (
  record {
    none = first_on n ss w.steps h.none ∙ (ap (λ i. first_from i w.steps) (sym h.count) ∙ g.0.none);
    count = omega (arith, count-append ss w.steps, h.count, g.0.count);
    few = g.0.few;
  },
  g.1,
)
steps_then n m ss w (Passed l) k h g = (first_on n ss w.steps h.none ∙ (ap (λ i. first_from i w.steps) (sym h.count) ∙ g.0), tt)

pub steps_stop : (n : ℕ) (ss : List Step) (w : Walk) (l : Limit) (k : KnownNumbers) → MeetsSteps n ss (Passed l) → Meets n (behind ss w) (Passed l) k
steps_stop n ss w l k h = (first_stops n ss w.steps l h, tt)

pub walk_then : (n m : ℕ) (w : Walk) (rest : KnownNumbers → Walk) (r : Met) (j k : KnownNumbers) → Meets n w (Within m) j → Meets m (rest j) r k → Meets n (followed w rest) r k
walk_then n m w rest r j k h g = steps_then n m w.steps (rest w.known) r k h.0 (subst (λ e. Meets m (rest e) r k) h.1 g)

pub walk_stop : (n : ℕ) (w : Walk) (rest : KnownNumbers → Walk) (l : Limit) (j k : KnownNumbers) → Meets n w (Passed l) j → Meets n (followed w rest) (Passed l) k
walk_stop n w rest l j k h = steps_stop n w.steps (rest w.known) l k h.0

pub stopped : (n : ℕ) (w : Walk) (l : Limit) (j k : KnownNumbers) → Meets n w (Passed l) j → Meets n w (Passed l) k
stopped n w l j k h = (h.0, tt)

pub nothing_met : (n : ℕ) (e : KnownNumbers) → n ≤ most_statements → Meets n (silent e) (Within n) e
nothing_met n e few = (record { none = refl; count = omega arith; few = few }, refl)

-- nothing stands behind it
pub ends : (n : ℕ) (w : Walk) (r : Met) (k : KnownNumbers) → Meets n w r k → Meets n (followed w silent) r k
ends n w r k h = (subst (λ ss. MeetsSteps n ss r) (sym (append-nil w.steps)) h.0, h.1)

-- ---- limits

pub none_first : (ls : List Limit) → None ≡ first ls → ls ≡ []
none_first [] h = refl
none_first (l ∷ ls) h = not_none l h

pub limits_none : (n : ℕ) (ls : List Limit) (w : Walk) (r : Met) (k : KnownNumbers) → None ≡ first ls → Meets n w r k → Meets n (behind (limits ls) w) r k
limits_none n ls w r k h g = subst (λ l. Meets n (behind (limits l) w) r k) (sym (none_first ls h)) g

pub limits_first : (n : ℕ) (ls : List Limit) (ss : List Step) (l : Limit) → Some l ≡ first ls → first_from n (limits ls ++ ss) ≡ Some l
limits_first n [] ss l h = no_limit l h
limits_first n (m ∷ ls) ss l h = sym h

pub limits_stop : (n : ℕ) (ls : List Limit) (w : Walk) (l : Limit) (k : KnownNumbers) → Some l ≡ first ls → Meets n (behind (limits ls) w) (Passed l) k
limits_stop n ls w l k h = (limits_first n ls w.steps l h, tt)

-- ---- one statement, and its limits

pub one_stops : (n : ℕ) (ls : List Limit) (l : Limit) → MeetsSteps n (one ∷ []) (Passed l) → MeetsSteps n (one ∷ limits ls) (Passed l)
one_stops n ls l h = first_stops n (one ∷ []) (limits ls) l h

pub one_alone : (n m : ℕ) (ls : List Limit) → None ≡ first ls → MeetsSteps n (one ∷ []) (Within m) → MeetsSteps n (one ∷ limits ls) (Within m)
one_alone n m ls h g = subst (λ l. MeetsSteps n (one ∷ limits l) (Within m)) (sym (none_first ls h)) g

pub one_limited : (n m : ℕ) (ls : List Limit) (l : Limit) → Some l ≡ first ls → MeetsSteps n (one ∷ []) (Within m) → MeetsSteps n (one ∷ limits ls) (Passed l)
one_limited n m ls l h g =
    first_on n (one ∷ []) (limits ls) g.none ∙ (ap (first_from (n + 1)) (sym (append-nil (limits ls))) ∙ limits_first (n + 1) ls [] l h)

-- ---- several

few_by : (t : Bool) (n k : ℕ) → nat_le most_statements n ≡ t → n + suc k ≤ most_statements → first_from (suc n) (replicate k one) ≡ None → (if t then Some Expand else first_from (suc n) (replicate k one)) ≡ None
few_by true n k e le h = absurd (let x : most_statements ≤ n = grind (arith, nat_tests, e) in omega (arith, x, le))
few_by false n k e le h = h

few_more : (k n : ℕ) → n + k ≤ most_statements → first_from n (replicate k one) ≡ None
few_more zero n le = refl
few_more (suc k) n le = few_by (nat_le most_statements n) n k refl le (few_more k (suc n) (omega (arith, le)))

many_by : (t : Bool) (n k : ℕ) → nat_le most_statements n ≡ t → (n < most_statements → first_from (suc n) (replicate k one) ≡ Some Expand) → (if t then Some Expand else first_from (suc n) (replicate k one)) ≡ Some Expand
many_by true n k e h = refl
many_by false n k e h = h (grind (arith, nat_tests, e))

many_more : (k n : ℕ) → n ≤ most_statements → most_statements < n + k → first_from n (replicate k one) ≡ Some Expand
many_more zero n le lt = absurd (omega (arith, le, lt))
many_more (suc k) n le lt = many_by (nat_le most_statements n) n k refl (λ below. many_more k (suc n) (omega (arith, below)) (omega (arith, lt)))

count_ones : (k : ℕ) → count_of (replicate k one) ≡ k
count_ones zero = refl
count_ones (suc k) = ap suc (count_ones k)

pub several_fit : (n k : ℕ) → n + k ≤ most_statements → MeetsSteps n (replicate k one) (Within (n + k))
several_fit n k le = record { none = few_more k n le; count = ap (λ m. n + m) (sym (count_ones k)); few = le }

pub several_pass : (n k : ℕ) → n ≤ most_statements → most_statements < n + k → MeetsSteps n (replicate k one) (Passed Expand)
several_pass n k le lt = many_more k n le lt

replicate_both : (a b : ℕ) → replicate (a + b) one ≡ replicate a one ++ replicate b one
replicate_both zero b = let e : 0 + b ≡ b = omega arith in ap (λ k. replicate k one) e
replicate_both (suc a) b = let e : suc a + b ≡ suc (a + b) = omega arith in ap (λ k. replicate k one) e ∙ ap (λ xs. one ∷ xs) (replicate_both a b)

-- a part of them, and then the rest
both_steps : (n m : ℕ) (a b : List Step) (r : Met) → MeetsSteps n a (Within m) → MeetsSteps m b r → MeetsSteps n (a ++ b) r
both_steps n m a b (Within j) h g =
    record {
      none = first_on n a b h.none ∙ (ap (λ i. first_from i b) (sym h.count) ∙ g.none);
      count = omega (arith, count-append a b, h.count, g.count);
      few = g.few;
    }
both_steps n m a b (Passed l) h g = first_on n a b h.none ∙ (ap (λ i. first_from i b) (sym h.count) ∙ g)

past_eight : (a t : ℕ) → (a + t) - 8 ≡ (a - 8) + (t - (8 - a))
past_eight a t = omega arith

pub eight_then : (n m a t : ℕ) (r : Met) → MeetsSteps n (replicate (a - 8) one) (Within m) → MeetsSteps m (replicate (t - (8 - a)) one) r → MeetsSteps n (replicate ((a + t) - 8) one) r
eight_then n m a t r h g =
    subst (λ ss. MeetsSteps n ss r) (sym (ap (λ k. replicate k one) (past_eight a t) ∙ replicate_both (a - 8) (t - (8 - a))))
    (both_steps n m (replicate (a - 8) one) (replicate (t - (8 - a)) one) r h g)

pub eight_stops : (n a t : ℕ) (l : Limit) → MeetsSteps n (replicate (a - 8) one) (Passed l) → MeetsSteps n (replicate ((a + t) - 8) one) (Passed l)
eight_stops n a t l h =
    subst (λ ss. first_from n ss ≡ Some l) (sym (ap (λ k. replicate k one) (past_eight a t) ∙ replicate_both (a - 8) (t - (8 - a))))
    (first_stops n (replicate (a - 8) one) (replicate (t - (8 - a)) one) l h)

-- ---- loops over parts

-- how far a loop has come: what is left makes of it what all make of the first
pub record IsLeft (n : ℕ) (all : Walk) (m : ℕ) (left : Walk) : Type 0 where
  pub steps : first_from n all.steps ≡ first_from m left.steps
  pub count : n + count_of all.steps ≡ m + count_of left.steps
  pub few : m ≤ most_statements
  pub known : left.known ≡ all.known

pub all_left : (n : ℕ) (w : Walk) → n ≤ most_statements → IsLeft n w n w
all_left n w few = record { steps = refl; count = refl; few = few; known = refl }

pub next_left : (n m j : ℕ) (all left p : Walk) (rest : KnownNumbers → Walk) (k : KnownNumbers) → IsLeft n all m left → left ≡ followed p rest → Meets m p (Within j) k → IsLeft n all j (rest k)
next_left n m j all left p rest k h e g =
    let here = subst (λ w. IsLeft n all m w) e h in
    subst (λ x. IsLeft n all j (rest x)) (sym g.1)
    (record {
      steps = here.steps ∙ (first_on m p.steps (rest p.known).steps g.0.none ∙ ap (λ i. first_from i (rest p.known).steps) (sym g.0.count));
      count = omega (arith, here.count, count-append p.steps (rest p.known).steps, g.0.count);
      few = g.0.few;
      known = here.known;
    })

pub left_stops : (n m : ℕ) (all left p : Walk) (rest : KnownNumbers → Walk) (l : Limit) (j k : KnownNumbers) → IsLeft n all m left → left ≡ followed p rest → Meets m p (Passed l) j → Meets n all (Passed l) k
left_stops n m all left p rest l j k h e g =
    (h.steps ∙ (ap (λ (w : Walk). first_from m w.steps) e ∙ first_stops m p.steps (rest p.known).steps l g.0), tt)

pub none_left : (n m : ℕ) (all left : Walk) (k : KnownNumbers) → IsLeft n all m left → left ≡ silent k → Meets n all (Within m) k
none_left n m all left k h e =
    let here = subst (λ w. IsLeft n all m w) e h in
    (record { none = here.steps; count = omega (arith, here.count); few = here.few }, here.known)

-- ---- operations

pub knows_same : (r : Met) (e : KnownNumbers) → Knows r e e
knows_same (Within m) e = refl
knows_same (Passed l) e = tt

pub operation_met : (n : ℕ) (o : Operation) (e k : KnownNumbers) (r : Met) → MeetsSteps n (one ∷ limits (asked e o)) r → Knows r k (known_after e o) → Meets n (operation_walk o e) r k
operation_met n o e k r h g = (h, g)
