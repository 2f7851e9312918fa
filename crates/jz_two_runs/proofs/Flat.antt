-- Two runs of a body without calls and `for` that leak the same go together.
use Rattle.std.proofs.Common.{◌≡◌, ℕ, ℤ, zero, suc, ◌<◌, Bool, true, false, if◌then◌else◌, List, [], ◌∷◌, Option, Some, None, refl, sym, ap, ◌∙◌, subst, arith, true≢false}
use Rattle.std.specs.Prelude.{⊤}
use Rattle.jz_runs.specs.Trees.{Tree, done, op, quiet, choose, loop, each, call}
use Rattle.jz_leak.specs.RunLeaks.{Leak, over, ran, chose, chose_cut, looped, looped_cut, Turns, left, turn, prologue_cut, wanted, body_cut}
use Rattle.jz_runs.specs.Rules.{Attempt, stuck, went, Parts, Outcome, End, Cut, Stuck, after, Goes, loop_left, loop_cut, loop_stuck, Loops, in_prologue, prologue_stuck, tested_not, leaves_loop, no_turn, in_body, body_stuck, more_turns}
use Rattle.jz_runs.proofs.Steady.{run, ran_so, not_more, has_outcome}
use Rattle.jz_change.specs.Changes.{Change, Changes}
use Rattle.jz_pass.specs.Operations.{in_turn}
use Rattle.jz_pass.specs.Unrolling.{Knowing, Unrolls, u_done, u_op, u_quiet, u_if, u_arm, u_while, u_once, u_for, UnrollsEach, u_none, u_more}
use Rattle.jz_two_runs.specs.Two.{together, alike, same_answer, two, GoTogether, SameLeak}
use Rattle.jz_two_runs.specs.Telling.{IsFlat}
use Rattle.jz_two_runs.proofs.Comparing.{Compared, agree, first_not, second_not, differ, compared, agreed, first_stuck, second_stuck, differing, answers_same, answer_itself, alike_went, answers_apart}

-- ---- outcomes as they are put together

abbrev bind : {S W L N : Type 0} → Outcome S W L → (L → N) → (ℕ → S → L → Outcome S W N) → Outcome S W N
bind (End s n l) last go = go n s l
bind (Cut l) last go = Cut (last l)
bind (Stuck w) last go = Stuck w

abbrev on : {S W A L : Type 0} → Attempt W A → (List ℕ → A → Outcome S W L) → Outcome S W L
on (stuck w) go = Stuck w
on (went ns v) go = go ns v

abbrev take_turn : {S W : Type 0} → Leak → List ℕ → ℕ → (ℕ → Outcome S W Turns) → Outcome S W Turns
take_turn lp ns zero go = Cut (wanted lp ns)
take_turn lp ns (suc m) go = go m

-- ---- what is so of a leak, where there is one

abbrev Leaks : {S W L : Type 0} → (L → Type 0) → Outcome S W L → Type 0
Leaks P (End s n l) = P l
Leaks P (Cut l) = P l
Leaks P (Stuck w) = ⊤

leaks_after : {S W L N : Type 0} (P : N → Type 0) (f : L → N) → ((l : L) → P (f l)) → (o : Outcome S W L) → Leaks P (after f o)
leaks_after P f h (End s n l) = h l
leaks_after P f h (Cut l) = h l
leaks_after P f h (Stuck w) = tt

leaks_bind : {S W L N : Type 0} (P : N → Type 0) (last : L → N) (go : ℕ → S → L → Outcome S W N) → ((l : L) → P (last l)) → ((n : ℕ) (s : S) (l : L) → Leaks P (go n s l)) → (o : Outcome S W L) → Leaks P (bind o last go)
leaks_bind P last go a b (End s n l) = b n s l
leaks_bind P last go a b (Cut l) = a l
leaks_bind P last go a b (Stuck w) = tt

leaks_on : {S W A L : Type 0} (P : L → Type 0) (go : List ℕ → A → Outcome S W L) → ((ns : List ℕ) (a : A) → Leaks P (go ns a)) → (x : Attempt W A) → Leaks P (on x go)
leaks_on P go h (stuck w) = tt
leaks_on P go h (went ns a) = h ns a

-- two leaks, of which one is at an end and the other one at a cut, or that are not the same; or one is stuck
abbrev Apart : {S W L : Type 0} → Outcome S W L → Outcome S W L → Type 0
Apart (End s n l) (End t m k) = l ≡ k → ⊥
Apart (End s n l) (Cut k) = ⊤
Apart (End s n l) (Stuck v) = ⊤
Apart (Cut l) (End t m k) = ⊤
Apart (Cut l) (Cut k) = l ≡ k → ⊥
Apart (Cut l) (Stuck v) = ⊤
Apart (Stuck w) (End t m k) = ⊤
Apart (Stuck w) (Cut k) = ⊤
Apart (Stuck w) (Stuck v) = ⊤

-- by a part of the leak that is not the same
apart_by : {S W L K : Type 0} (part : L → K) (x y : K) (o q : Outcome S W L) → Leaks (λ l. part l ≡ x) o → Leaks (λ l. part l ≡ y) q → (x ≡ y → ⊥) → Apart o q
apart_by part x y (End s n l) (End t m k) a b d = λ e. d (sym a ∙ ap part e ∙ b)
apart_by part x y (End s n l) (Cut k) a b d = tt
apart_by part x y (End s n l) (Stuck v) a b d = tt
apart_by part x y (Cut l) (End t m k) a b d = tt
apart_by part x y (Cut l) (Cut k) a b d = λ e. d (sym a ∙ ap part e ∙ b)
apart_by part x y (Cut l) (Stuck v) a b d = tt
apart_by part x y (Stuck w) (End t m k) a b d = tt
apart_by part x y (Stuck w) (Cut k) a b d = tt
apart_by part x y (Stuck w) (Stuck v) a b d = tt

-- what is so far the same, and then apart
apart_after : {S W L N : Type 0} (f : L → N) → ((l k : L) → f l ≡ f k → l ≡ k) → (o q : Outcome S W L) → Apart o q → Apart (after f o) (after f q)
apart_after f i (End s n l) (End t m k) h = λ e. h (i l k e)
apart_after f i (End s n l) (Cut k) h = tt
apart_after f i (End s n l) (Stuck v) h = tt
apart_after f i (Cut l) (End t m k) h = tt
apart_after f i (Cut l) (Cut k) h = λ e. h (i l k e)
apart_after f i (Cut l) (Stuck v) h = tt
apart_after f i (Stuck w) (End t m k) h = tt
apart_after f i (Stuck w) (Cut k) h = tt
apart_after f i (Stuck w) (Stuck v) h = tt

-- ---- both, and what they do together

abbrev Joins : {S W L : Type 0} → Outcome (S × S) ⊤ L → Outcome S W L → Outcome S W L → Type 0
Joins (End p n l) o q = (o ≡ End p.0 n l) × (q ≡ End p.1 n l)
Joins (Cut l) o q = (o ≡ Cut l) × (q ≡ Cut l)
Joins (Stuck w) o q = Apart o q

joins_after : {S W L N : Type 0} (f : L → N) → ((l k : L) → f l ≡ f k → l ≡ k) → (x : Outcome (S × S) ⊤ L) (o q : Outcome S W L) → Joins x o q → Joins (after f x) (after f o) (after f q)
joins_after f i (End p n l) o q h = (ap (after f) h.0, ap (after f) h.1)
joins_after f i (Cut l) o q h = (ap (after f) h.0, ap (after f) h.1)
joins_after f i (Stuck w) o q h = apart_after f i o q h

apart_first : {S W L : Type 0} (v : W) (u : Outcome S W L) → Apart (Stuck v) u
apart_first v (End s n l) = tt
apart_first v (Cut l) = tt
apart_first v (Stuck w) = tt

apart_second : {S W L : Type 0} (u : Outcome S W L) (v : W) → Apart u (Stuck v)
apart_second (End s n l) v = tt
apart_second (Cut l) v = tt
apart_second (Stuck w) v = tt

-- a part of the leak: whether it is whole, and what it is
abbrev PartOf : {L N : Type 0} → (N → Option (Bool × L)) → Bool → L → N → Type 0
PartOf part z l y = part y ≡ Some (z, l)

some_pair : {A B : Type 0} {a c : A} {b d : B} → ◌≡◌ {A = Option (A × B)} (Some (a, b)) (Some (c, d)) → (a ≡ c) × (b ≡ d)
some_pair {A} {B} {a} {c} {b} {d} e = let p : ◌≡◌ {A = A × B} (a, b) (c, d) = cc in (ap (λ (x : A × B). x.0) p, ap (λ (x : A × B). x.1) p)

joins_bind : {S W L N : Type 0} (part : N → Option (Bool × L)) (last : L → N) (gox : ℕ → S × S → L → Outcome (S × S) ⊤ N) (go : ℕ → S → L → Outcome S W N)
    → ((l : L) → PartOf part true l (last l)) → ((n : ℕ) (s : S) (l : L) → Leaks (PartOf part false l) (go n s l))
    → (x : Outcome (S × S) ⊤ L) (o q : Outcome S W L) → Joins x o q → ((n : ℕ) (p : S × S) (l : L) → Joins (gox n p l) (go n p.0 l) (go n p.1 l)) → Joins (bind x last gox) (bind o last go) (bind q last go)
joins_bind part last gox go cut whole (End p n l) o q h more = subst (λ u. Joins (gox n p l) (bind u last go) (bind q last go)) (sym h.0) (subst (λ u. Joins (gox n p l) (go n p.0 l) (bind u last go)) (sym h.1) (more n p l))
joins_bind part last gox go cut whole (Cut l) o q h more = (ap (λ u. bind u last go) h.0, ap (λ u. bind u last go) h.1)
joins_bind {S} {W} {L} part last gox go cut whole (Stuck w) o q h more = by_both o q h
  where
    by_both : (o q : Outcome S W L) → Apart o q → Apart (bind o last go) (bind q last go)
    by_both (End s n l) (End t m k) h = apart_by part (Some (false, l)) (Some (false, k)) (go n s l) (go m t k) (whole n s l) (whole m t k) (λ e. h (some_pair e).1)
    by_both (End s n l) (Cut k) h = apart_by part (Some (false, l)) (Some (true, k)) (go n s l) (Cut (last k)) (whole n s l) (cut k) (λ e. true≢false (sym (some_pair e).0))
    by_both (End s n l) (Stuck v) h = apart_second (go n s l) v
    by_both (Cut l) (End t m k) h = apart_by part (Some (true, l)) (Some (false, k)) (Cut (last l)) (go m t k) (cut l) (whole m t k) (λ e. true≢false (some_pair e).0)
    by_both (Cut l) (Cut k) h = apart_by {S = S} {W = W} part (Some (true, l)) (Some (true, k)) (Cut (last l)) (Cut (last k)) (cut l) (cut k) (λ e. h (some_pair e).1)
    by_both (Cut l) (Stuck v) h = tt
    by_both (Stuck v) q h = apart_first v (bind q last go)

-- numbers of a part in front
joins_on : {S W A L : Type 0} (part : L → Option (List ℕ)) (gox : List ℕ → A × A → Outcome (S × S) ⊤ L) (go : List ℕ → A → Outcome S W L)
    → ((ns : List ℕ) (a : A) → Leaks (λ l. part l ≡ Some ns) (go ns a)) → (x y : Attempt W A) → ((ns : List ℕ) (p : A × A) → Joins (gox ns p) (go ns p.0) (go ns p.1)) → Joins (on (together x y) gox) (on x go) (on y go)
joins_on {S} {W} {A} part gox go has x y more = by_parts (compared x y)
  where
    by_parts : Compared x y → Joins (on (together x y) gox) (on x go) (on y go)
    by_parts (agree {ns} {a} {b} p q) = subst (λ z. Joins (on z gox) (on x go) (on y go)) (sym (agreed p q)) (subst (λ z. Joins (gox ns (a, b)) (on z go) (on y go)) (sym p) (subst (λ z. Joins (gox ns (a, b)) (go ns a) (on z go)) (sym q) (more ns (a, b))))
    by_parts (first_not {w} p) = subst (λ z. Joins (on z gox) (on x go) (on y go)) (sym (first_stuck y p)) (subst (λ z. Apart (on z go) (on y go)) (sym p) (apart_first w (on y go)))
    by_parts (second_not {w} q) = subst (λ z. Joins (on z gox) (on x go) (on y go)) (sym (second_stuck x q)) (subst (λ z. Apart (on x go) (on z go)) (sym q) (apart_second (on x go) w))
    by_parts (differ {ns} {ms} {a} {b} p q n) =
        subst (λ z. Joins (on z gox) (on x go) (on y go)) (sym (differing p q n))
        (subst (λ z. Apart (on z go) (on y go)) (sym p) (subst (λ z. Apart (go ns a) (on z go)) (sym q)
        (apart_by part (Some ns) (Some ms) (go ns a) (go ms b) (has ns a) (has ms b) (λ e. n (let f : ns ≡ ms = cc in f)))))

-- numbers and an answer in front
joins_test : {S W L : Type 0} (part : L → Option (List ℕ × Bool)) (gox : List ℕ → Bool → Outcome (S × S) ⊤ L) (go goes : List ℕ → Bool → Outcome S W L)
    → ((ns : List ℕ) (z : Bool) → Leaks (λ l. part l ≡ Some (ns, z)) (go ns z)) → ((ns : List ℕ) (z : Bool) → Leaks (λ l. part l ≡ Some (ns, z)) (goes ns z)) → (x y : Attempt W Bool)
    → ((ns : List ℕ) (z : Bool) → Joins (gox ns z) (go ns z) (goes ns z)) → Joins (on (alike same_answer (together x y)) gox) (on x go) (on y goes)
joins_test {S} {W} part gox go goes has have x y more = by_parts (compared x y)
  where
    by_answers : (ns : List ℕ) (a b : Bool) → x ≡ went ns a → y ≡ went ns b → (t : Bool) → same_answer a b ≡ t → Joins (on (alike same_answer (together x y)) gox) (on x go) (on y goes)
    by_answers ns a b p q true t =
        let r : y ≡ went ns a = q ∙ ap (went ns) (sym (answers_same a b t)) in
        subst (λ z. Joins (on z gox) (on x go) (on y goes)) (sym (alike_went same_answer answer_itself p r)) (subst (λ z. Joins (gox ns a) (on z go) (on y goes)) (sym p) (subst (λ z. Joins (gox ns a) (go ns a) (on z goes)) (sym r) (more ns a)))
    by_answers ns a b p q false t =
        let n : a ≡ b → ⊥ = (λ e. (let f : same_answer a b ≡ true = ap (λ c. same_answer c b) e ∙ answer_itself b in absurd cc)) in
        subst (λ z. Joins (on z gox) (on x go) (on y goes)) (sym (answers_apart same_answer answers_same p q n))
        (subst (λ z. Apart (on z go) (on y goes)) (sym p) (subst (λ z. Apart (go ns a) (on z goes)) (sym q)
        (apart_by part (Some (ns, a)) (Some (ns, b)) (go ns a) (goes ns b) (has ns a) (have ns b) (λ e. n (some_pair e).1))))

    by_parts : Compared x y → Joins (on (alike same_answer (together x y)) gox) (on x go) (on y goes)
    by_parts (agree {ns} {a} {b} p q) = by_answers ns a b p q (same_answer a b) refl
    by_parts (first_not {w} p) = subst (λ z. Joins (on z gox) (on x go) (on y goes)) (sym (ap (alike same_answer) (first_stuck y p))) (subst (λ z. Apart (on z go) (on y goes)) (sym p) (apart_first w (on y goes)))
    by_parts (second_not {w} q) = subst (λ z. Joins (on z gox) (on x go) (on y goes)) (sym (ap (alike same_answer) (second_stuck x q))) (subst (λ z. Apart (on x go) (on z goes)) (sym q) (apart_second (on x go) w))
    by_parts (differ {ns} {ms} {a} {b} p q n) =
        subst (λ z. Joins (on z gox) (on x go) (on y goes)) (sym (ap (alike same_answer) (differing p q n)))
        (subst (λ z. Apart (on z go) (on y goes)) (sym p) (subst (λ z. Apart (go ns a) (on z goes)) (sym q)
        (apart_by part (Some (ns, a)) (Some (ms, b)) (go ns a) (goes ms b) (has ns a) (have ms b) (λ e. n (some_pair e).0))))

-- ---- the parts of a leak

abbrev op_numbers : Leak → Option (List ℕ)
op_numbers (ran ns l) = Some ns
op_numbers _ = None

abbrev test_of : Leak → Option (List ℕ × Bool)
test_of (chose ns z a l) = Some (ns, z)
test_of (chose_cut ns z a) = Some (ns, z)
test_of _ = None

abbrev arm_of : Leak → Option (Bool × Leak)
arm_of (chose ns z a l) = Some (false, a)
arm_of (chose_cut ns z a) = Some (true, a)
arm_of _ = None

abbrev turns_in : Leak → Option (Bool × Turns)
turns_in (looped ts l) = Some (false, ts)
turns_in (looped_cut ts) = Some (true, ts)
turns_in _ = None

abbrev prologue_of : Turns → Option (Bool × Leak)
prologue_of (left p ns) = Some (false, p)
prologue_of (turn p ns b ts) = Some (false, p)
prologue_of (prologue_cut p) = Some (true, p)
prologue_of (wanted p ns) = Some (false, p)
prologue_of (body_cut p ns b) = Some (false, p)

abbrev turn_test : Turns → Option (List ℕ × Bool)
turn_test (left p ns) = Some (ns, false)
turn_test (turn p ns b ts) = Some (ns, true)
turn_test (prologue_cut p) = None
turn_test (wanted p ns) = Some (ns, true)
turn_test (body_cut p ns b) = Some (ns, true)

abbrev body_of : Turns → Option (Bool × Leak)
body_of (turn p ns b ts) = Some (false, b)
body_of (body_cut p ns b) = Some (true, b)
body_of _ = None

-- ---- turns

abbrev tested : {O T F C S W : Type 0} (M : Parts O T F C S W) (c : T) → (ℕ → S → Outcome S W Leak) → (ℕ → S → Outcome S W Turns) → ℕ → S → Leak → List ℕ → Bool → Outcome S W Turns
tested M c b more m s1 lp ns z =
    if z
    then (take_turn lp ns m (λ m1. bind (b m1 (M.settled c s1)) (body_cut lp ns) (λ m2 s2 lb. after (turn lp ns lb) (more m2 s2))))
    else End (M.settled c s1) m (left lp ns)

abbrev turns_of : {O T F C S W : Type 0} (M : Parts O T F C S W) (c : T) → (ℕ → S → Outcome S W Leak) → (ℕ → S → Outcome S W Leak) → ℕ → ℕ → S → Outcome S W Turns
turns_of M c p b zero n s = Cut (prologue_cut over)
turns_of M c p b (suc k) n s = bind (p n s) prologue_cut (λ m s1 lp. on (M.tests c s1) (tested M c b (turns_of M c p b k) m s1 lp))

module _ {O T F C S W : Type 0} (M : Parts O T F C S W) (c : T) where
  looped_so : {p b : Tree O T F C} (k : ℕ) {n : ℕ} {s : S} {o : Outcome S W Turns} → Loops M p c b n s o → n < k → turns_of M c (run M p) (run M b) k n s ≡ o
  looped_so zero g lt = absurd (omega arith)
  looped_so (suc k) (in_prologue g) lt = let e = ran_so M g in rw e
  looped_so (suc k) (prologue_stuck g) lt = let e = ran_so M g in rw e
  looped_so (suc k) (tested_not g q) lt = let e = ran_so M g in rw (e, q)
  looped_so (suc k) (leaves_loop g q) lt = let e = ran_so M g in rw (e, q)
  looped_so (suc k) (no_turn g q) lt = let e = ran_so M g in rw (e, q)
  looped_so (suc k) (in_body g q h) lt = let e = ran_so M g in let f = ran_so M h in rw (e, q, f)
  looped_so (suc k) (body_stuck g q h) lt = let e = ran_so M g in let f = ran_so M h in rw (e, q, f)
  looped_so (suc k) (more_turns g q h i) lt = let e = ran_so M g in let f = ran_so M h in let j = looped_so k i (omega (arith, not_more M g, not_more M h)) in rw (e, q, f, j)

  abbrev looping : Tree O T F C → Tree O T F C → Tree O T F C → ℕ → S → Outcome S W Leak
  looping p b r n s = bind (turns_of M c (run M p) (run M b) (suc n) n s) looped_cut (λ m s1 ts. after (looped ts) (run M r m s1))

  loop_so : {w : Bool} {p b r : Tree O T F C} {n : ℕ} {s : S} {o : Outcome S W Leak} → Goes M (loop w p c b r) n s o → looping p b r n s ≡ o
  loop_so {r} {n} (loop_left g h) = let f = ran_so M h in ap (λ x. bind x looped_cut (λ m s1 ts. after (looped ts) (run M r m s1))) (looped_so (suc n) g (omega arith)) ∙ rw f
  loop_so {r} {n} (loop_cut g) = ap (λ x. bind x looped_cut (λ m s1 ts. after (looped ts) (run M r m s1))) (looped_so (suc n) g (omega arith))
  loop_so {r} {n} (loop_stuck g) = ap (λ x. bind x looped_cut (λ m s1 ts. after (looped ts) (run M r m s1))) (looped_so (suc n) g (omega arith))

  loop_is : (w : Bool) (p b r : Tree O T F C) (n : ℕ) (s : S) → looping p b r n s ≡ run M (loop w p c b r) n s
  loop_is w p b r n s = let g = has_outcome M (loop w p c b r) n s in loop_so g.1 ∙ sym (ran_so M g.1)

  -- what is so of each leak of a turn from its test on
  leaks_tested : (P : Turns → Type 0) (b : ℕ → S → Outcome S W Leak) (more : ℕ → S → Outcome S W Turns) (m : ℕ) (s1 : S) (lp : Leak) (ns : List ℕ) (z : Bool)
      → (z ≡ false → P (left lp ns)) → (z ≡ true → P (wanted lp ns)) → ((l : Leak) → z ≡ true → P (body_cut lp ns l)) → ((l : Leak) (ts : Turns) → z ≡ true → P (turn lp ns l ts)) → Leaks P (tested M c b more m s1 lp ns z)
  leaks_tested P b more m s1 lp ns false e w d t = e refl
  leaks_tested P b more zero s1 lp ns true e w d t = w refl
  leaks_tested P b more (suc m) s1 lp ns true e w d t =
      leaks_bind P (body_cut lp ns) (λ m2 s2 lb. after (turn lp ns lb) (more m2 s2)) (λ l. d l refl) (λ m2 s2 lb. leaks_after P (turn lp ns lb) (λ ts. t lb ts refl) (more m2 s2)) (b m (M.settled c s1))

module _ {O T F C S W : Type 0} (M : Parts O T F C S W) where
  abbrev Both : Parts O T F C (S × S) ⊤
  Both = two M

  -- what is done together is what each does
  abbrev Joined : {L : Type 0} → (ℕ → S × S → Outcome (S × S) ⊤ L) → (ℕ → S → Outcome S W L) → Type 0
  Joined x f = (n : ℕ) (p : S × S) → Joins (x n p) (f n p.0) (f n p.1)

  module _ (c : T) (px : ℕ → S × S → Outcome (S × S) ⊤ Leak) (p : ℕ → S → Outcome S W Leak) (bx : ℕ → S × S → Outcome (S × S) ⊤ Leak) (b : ℕ → S → Outcome S W Leak) (jp : Joined px p) (jb : Joined bx b) where
    tested_joined : (mx : ℕ → S × S → Outcome (S × S) ⊤ Turns) (more : ℕ → S → Outcome S W Turns) → Joined mx more → (m : ℕ) (q : S × S) (lp : Leak) (ns : List ℕ) (z : Bool) → Joins (tested Both c bx mx m q lp ns z) (tested M c b more m q.0 lp ns z) (tested M c b more m q.1 lp ns z)
    tested_joined mx more j m q lp ns false = (refl, refl)
    tested_joined mx more j zero q lp ns true = (refl, refl)
    tested_joined mx more j (suc m) q lp ns true =
        joins_bind body_of (body_cut lp ns) (λ m2 q2 lb. after (turn lp ns lb) (mx m2 q2)) (λ m2 s2 lb. after (turn lp ns lb) (more m2 s2)) (λ l. refl) (λ m2 s2 lb. leaks_after (PartOf body_of false lb) (turn lp ns lb) (λ ts. refl) (more m2 s2))
        (bx m (M.settled c q.0, M.settled c q.1)) (b m (M.settled c q.0)) (b m (M.settled c q.1)) (jb m (M.settled c q.0, M.settled c q.1))
        (λ m2 q2 lb. joins_after (turn lp ns lb) (λ l k e. cc) (mx m2 q2) (more m2 q2.0) (more m2 q2.1) (j m2 q2))

    turns_joined : (k : ℕ) → Joined (turns_of Both c px bx k) (turns_of M c p b k)
    turns_joined zero n q = (refl, refl)
    turns_joined (suc k) n q =
        joins_bind prologue_of prologue_cut (λ m r lp. on (Both.tests c r) (tested Both c bx (turns_of Both c px bx k) m r lp)) (λ m s1 lp. on (M.tests c s1) (tested M c b (turns_of M c p b k) m s1 lp)) (λ l. refl)
        (λ m s1 lp. leaks_on (PartOf prologue_of false lp) (tested M c b (turns_of M c p b k) m s1 lp) (λ ns z. leaks_tested M c (PartOf prologue_of false lp) b (turns_of M c p b k) m s1 lp ns z (λ e. refl) (λ e. refl) (λ l e. refl) (λ l ts e. refl)) (M.tests c s1))
        (px n q) (p n q.0) (p n q.1) (jp n q)
        (λ m r lp. joins_test turn_test (tested Both c bx (turns_of Both c px bx k) m r lp) (tested M c b (turns_of M c p b k) m r.0 lp) (tested M c b (turns_of M c p b k) m r.1 lp)
        (λ ns z. by_test m r.0 lp ns z) (λ ns z. by_test m r.1 lp ns z) (M.tests c r.0) (M.tests c r.1) (λ ns z. tested_joined (turns_of Both c px bx k) (turns_of M c p b k) (turns_joined k) m r lp ns z))
      where
        by_test : (m : ℕ) (s1 : S) (lp : Leak) (ns : List ℕ) (z : Bool) → Leaks (λ l. turn_test l ≡ Some (ns, z)) (tested M c b (turns_of M c p b k) m s1 lp ns z)
        by_test m s1 lp ns z = leaks_tested M c (λ l. turn_test l ≡ Some (ns, z)) b (turns_of M c p b k) m s1 lp ns z (λ e. ap (λ y. Some (ns, y)) (sym e)) (λ e. ap (λ y. Some (ns, y)) (sym e)) (λ l e. ap (λ y. Some (ns, y)) (sym e)) (λ l ts e. ap (λ y. Some (ns, y)) (sym e))

  -- ---- bodies

  abbrev chosen_run : ℕ → T → Tree O T F C → Tree O T F C → Tree O T F C → S → List ℕ → Bool → Outcome S W Leak
  chosen_run n c a b r s ns z = bind (if z then run M a n (M.settled c s) else run M b n (M.settled c s)) (chose_cut ns z) (λ m s1 l. after (chose ns z l) (run M r m s1))

  leaks_chosen : (P : Leak → Type 0) (n : ℕ) (c : T) (a b r : Tree O T F C) (s : S) (ns : List ℕ) (z : Bool) → ((l : Leak) → P (chose_cut ns z l)) → ((l k : Leak) → P (chose ns z l k)) → Leaks P (chosen_run n c a b r s ns z)
  leaks_chosen P n c a b r s ns z cut whole =
      leaks_bind P (chose_cut ns z) (λ m s1 l. after (chose ns z l) (run M r m s1)) cut (λ m s1 l. leaks_after P (chose ns z l) (λ k. whole l k) (run M r m s1)) (if z then run M a n (M.settled c s) else run M b n (M.settled c s))

  -- an arm, and what follows it
  joins_arm : (c : T) (a b r : Tree O T F C) (n : ℕ) (p : S × S) (ns : List ℕ) (z : Bool) → Joins (run Both a n (M.settled c p.0, M.settled c p.1)) (run M a n (M.settled c p.0)) (run M a n (M.settled c p.1))
      → Joins (run Both b n (M.settled c p.0, M.settled c p.1)) (run M b n (M.settled c p.0)) (run M b n (M.settled c p.1)) → Joined (run Both r) (run M r)
      → Joins (bind (if z then run Both a n (M.settled c p.0, M.settled c p.1) else run Both b n (M.settled c p.0, M.settled c p.1)) (chose_cut ns z) (λ m q l. after (chose ns z l) (run Both r m q))) (chosen_run n c a b r p.0 ns z) (chosen_run n c a b r p.1 ns z)
  joins_arm c a b r n p ns true ja jb jr =
      joins_bind arm_of (chose_cut ns true) (λ m q l. after (chose ns true l) (run Both r m q)) (λ m t l. after (chose ns true l) (run M r m t)) (λ l. refl) (λ m t l. leaks_after (PartOf arm_of false l) (chose ns true l) (λ k. refl) (run M r m t))
      (run Both a n (M.settled c p.0, M.settled c p.1)) (run M a n (M.settled c p.0)) (run M a n (M.settled c p.1)) ja (λ m q l. joins_after (chose ns true l) (λ x y e. cc) (run Both r m q) (run M r m q.0) (run M r m q.1) (jr m q))
  joins_arm c a b r n p ns false ja jb jr =
      joins_bind arm_of (chose_cut ns false) (λ m q l. after (chose ns false l) (run Both r m q)) (λ m t l. after (chose ns false l) (run M r m t)) (λ l. refl) (λ m t l. leaks_after (PartOf arm_of false l) (chose ns false l) (λ k. refl) (run M r m t))
      (run Both b n (M.settled c p.0, M.settled c p.1)) (run M b n (M.settled c p.0)) (run M b n (M.settled c p.1)) jb (λ m q l. joins_after (chose ns false l) (λ x y e. cc) (run Both r m q) (run M r m q.0) (run M r m q.1) (jr m q))

  joined : (b : Tree O T F C) → IsFlat b → Joined (run Both b) (run M b)
  joined done f n p = (refl, refl)
  joined (op o r) f n p =
      joins_on op_numbers (λ ns s1. after (ran ns) (run Both r n s1)) (λ ns s1. after (ran ns) (run M r n s1)) (λ ns a. leaks_after (λ l. op_numbers l ≡ Some ns) (ran ns) (λ l. refl) (run M r n a)) (M.does o p.0) (M.does o p.1)
      (λ ns q. joins_after (ran ns) (λ l k e. cc) (run Both r n q) (run M r n q.0) (run M r n q.1) (joined r f n q))
  joined (quiet o r) f n p = joined r f n (M.quiets o p.0, M.quiets o p.1)
  joined (choose c a b r) f n p =
      let s1 : S × S = (M.settled c p.0, M.settled c p.1) in
      joins_test test_of (λ ns z. bind (if z then run Both a n s1 else run Both b n s1) (chose_cut ns z) (λ m q l. after (chose ns z l) (run Both r m q))) (chosen_run n c a b r p.0) (chosen_run n c a b r p.1)
      (λ ns z. leaks_chosen (λ l. test_of l ≡ Some (ns, z)) n c a b r p.0 ns z (λ l. refl) (λ l k. refl)) (λ ns z. leaks_chosen (λ l. test_of l ≡ Some (ns, z)) n c a b r p.1 ns z (λ l. refl) (λ l k. refl)) (M.tests c p.0) (M.tests c p.1)
      (λ ns z. joins_arm c a b r n p ns z (joined a f.0 n s1) (joined b f.1 n s1) (joined r f.2))
  joined (loop w q c b r) f n p =
      subst (λ x. Joins x (run M (loop w q c b r) n p.0) (run M (loop w q c b r) n p.1)) (loop_is Both c w q b r n p)
      (subst (λ x. Joins (looping Both c q b r n p) x (run M (loop w q c b r) n p.1)) (loop_is M c w q b r n p.0)
      (subst (λ x. Joins (looping Both c q b r n p) (looping M c q b r n p.0) x) (loop_is M c w q b r n p.1)
      (joins_bind turns_in looped_cut (λ m y ts. after (looped ts) (run Both r m y)) (λ m y ts. after (looped ts) (run M r m y)) (λ l. refl) (λ m y ts. leaks_after (PartOf turns_in false ts) (looped ts) (λ k. refl) (run M r m y))
      (turns_of Both c (run Both q) (run Both b) (suc n) n p) (turns_of M c (run M q) (run M b) (suc n) n p.0) (turns_of M c (run M q) (run M b) (suc n) n p.1)
      (turns_joined c (run Both q) (run M q) (run Both b) (run M b) (joined q f.0) (joined b f.1) (suc n) n p)
      (λ m y ts. joins_after (looped ts) (λ l k e. cc) (run Both r m y) (run M r m y.0) (run M r m y.1) (joined r f.2 m y)))))
  joined (each g b r) f n p = absurd f
  joined (call q b r) f n p = absurd f

  -- two runs that leak the same go together
  pub flat_together : (b : Tree O T F C) → IsFlat b → (n : ℕ) (s t : S) (o q : Outcome S W Leak) → Goes M b n s o → Goes M b n t q → SameLeak o q → GoTogether M b n s t
  flat_together b f n s t o q g h same =
      let x = has_outcome Both b n (s, t) in
      by_outcome x.0 x.1 (subst (λ y. Joins y o q) (ran_so Both x.1) (subst (λ y. Joins (run Both b n (s, t)) y q) (ran_so M g) (subst (λ y. Joins (run Both b n (s, t)) (run M b n s) y) (ran_so M h) (joined b f n (s, t)))))
    where
      clash : (u v : Outcome S W Leak) → Apart u v → SameLeak u v → ⊥
      clash (End a m l) (End d k j) x e = x e.1
      clash (End a m l) (Cut j) x e = absurd e
      clash (End a m l) (Stuck j) x e = absurd e
      clash (Cut l) (End d k j) x e = absurd e
      clash (Cut l) (Cut j) x e = x e
      clash (Cut l) (Stuck j) x e = absurd e
      clash (Stuck w) (End d k j) x e = absurd e
      clash (Stuck w) (Cut j) x e = absurd e
      clash (Stuck w) (Stuck j) x e = absurd e

      by_outcome : (x : Outcome (S × S) ⊤ Leak) → Goes Both b n (s, t) x → Joins x o q → GoTogether M b n s t
      by_outcome (End p m l) y j = record { out = End p m l; goes = y; whole = tt }
      by_outcome (Cut l) y j = record { out = Cut l; goes = y; whole = tt }
      by_outcome (Stuck w) y j = absurd (clash o q j same)

-- ---- what loops and calls become

in_turn_flat : {O T F C : Type 0} (os : List O) (rest : Tree O T F C) → IsFlat rest → IsFlat (in_turn os rest)
in_turn_flat [] rest f = f
in_turn_flat (o ∷ os) rest f = in_turn_flat os rest f

module _ {O T F C E O2 T2 F2 C2 : Type 0} (K : Knowing O T F E O2 T2) where
  mutual
    pub flat_made : {b : Tree O T F C} {e e1 : E} {rest u : Tree O2 T2 F2 C2} {k : Change} → Unrolls K b e rest u e1 k → IsFlat rest → IsFlat u
    flat_made u_done f = f
    flat_made (u_op {u} {os} x h) f = in_turn_flat os u (flat_made h f)
    flat_made (u_quiet x h) f = flat_made h f
    flat_made (u_if {u} {a2} {b2} {os} {p2} x ha hb la lb h) f = in_turn_flat os (choose p2 a2 b2 u) (flat_made ha tt, flat_made hb tt, flat_made h f)
    flat_made (u_arm x ha h) f = flat_made ha (flat_made h f)
    flat_made (u_while {os} l x hq hb lb le h) f = (flat_made hq (in_turn_flat os done tt), flat_made hb tt, flat_made h f)
    flat_made (u_once hq x h) f = flat_made hq (flat_made h f)
    flat_made (u_for x hs h) f = flat_rounds hs (flat_made h f)

    flat_rounds : {c : F} {b : Tree O T F C} {is : List ℤ} {e e1 : E} {rest u : Tree O2 T2 F2 C2} {ts : Changes} → UnrollsEach K c b is e rest u e1 ts → IsFlat rest → IsFlat u
    flat_rounds u_none f = f
    flat_rounds (u_more hb h) f = flat_made hb (flat_rounds h f)
