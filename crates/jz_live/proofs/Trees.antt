-- What is live in code with branches and loops: one pass from the back, and at a loop one more.
use Rattle.std.proofs.Common.{◌≡◌, ℕ, inl, inr, List, [], ◌∷◌, Bool, true, false, ◌||◌, IsTrue, Option, Some, None, map, refl, ap}
use Rattle.std.proofs.lemmas.Bool.{or_cases, or_left, or_right}
use Rattle.std.proofs.lemmas.List.{map-append}
use Rattle.std.specs.List.{All}
use Rattle.std.proofs.lemmas.List.Elements.{All-nil, All-cons, All-append}
use Rattle.jz_ir.specs.declared.code.Op.{Op}
use Rattle.jz_ir.specs.Paths.{IsLive, read_here, read_later, IsLiveAfter}
use Rattle.jz_ir.specs.Tree.{Tree, done, op, choose, loop, Frame, at, test, Step, s_done, s_op, s_then, s_else, s_loop, s_more, s_leave, s_ever, states, at_test}
use Rattle.jz_live.specs.InnerLives.{transfer, reads, writes, test_before, test_after, live_before, live_after_each}
use Rattle.jz_live.proofs.Backward.{before_cases, before_read, before_later}

module _ (v : ℕ) where
  abbrev pub lives_at : List Frame → Bool
  lives_at [] = false
  lives_at (at t ∷ k) = live_before v t (lives_at k)
  lives_at (test p c b r ∷ k) = test_before v c (live_before v b (live_before v (loop p c b r) (lives_at k))) (live_before v r (lives_at k))

pub before_more : (r w a b : Bool) → (IsTrue a → IsTrue b) → IsTrue (transfer r w a) → IsTrue (transfer r w b)
before_more r w a b f h = elim (before_cases r w a h) [ inl x ↦ before_read r w b x | inr x ↦ before_later r w b x.0 (f x.1) ]

-- if it is live at a loop's head with what its body gives, it was so with nothing behind the body
pub once : (v : ℕ) (p : Tree) (c : Option Op) (b : Tree) (l : Bool) (x : Bool) → live_before v p (test_before v c (live_before v b false) l) ≡ x → IsTrue (live_before v p (test_before v c (live_before v b x) l)) → IsTrue (live_before v p (test_before v c (live_before v b false) l))
once v p c b l true e h = e
once v p c b l false e h = h

-- backwards over one operation
pub step_back : {s t : List Frame} {o : Op} (v : ℕ) → Step s o t → IsTrue (transfer (reads v o) (writes v o) (lives_at v t)) → IsTrue (lives_at v s)
step_back v (s_done d) h = step_back v d h
step_back v s_op h = h
step_back v (s_then {k} {c} {a} {b} {r}) h = before_more (reads v c) (writes v c) (live_before v a (live_before v r (lives_at v k))) _ (or_left _ _) h
step_back v (s_else {k} {c} {a} {b} {r}) h = before_more (reads v c) (writes v c) (live_before v b (live_before v r (lives_at v k))) _ (or_right _ _) h
step_back v (s_loop {k} {s} {o} {p} {c} {b} {r} d) h = once v p c b (live_before v r (lives_at v k)) _ refl (step_back v d h)
step_back v (s_more {k} {p} {c} {b} {r}) h = before_more (reads v c) (writes v c) (live_before v b (live_before v (loop p (Some c) b r) (lives_at v k))) _ (or_left _ _) h
step_back v (s_leave {k} {p} {c} {b} {r}) h = before_more (reads v c) (writes v c) (live_before v r (lives_at v k)) _ (or_right _ _) h
step_back v (s_ever d) h = step_back v d h

pub complete : (v : ℕ) {s : List Frame} → IsLive Step v s → IsTrue (lives_at v s)
complete v (read_here {o = o} d r) = step_back v d (before_read (reads v o) (writes v o) _ r)
complete v (read_later {o = o} d w l) = step_back v d (before_later (reads v o) (writes v o) _ w (complete v l))

-- a step from elsewhere is one from here
lift : {s s' : List Frame} (v : ℕ) → ((o : Op) (t : List Frame) → Step s o t → Step s' o t) → IsLive Step v s → IsLive Step v s'
lift v f (read_here d r) = read_here (f _ _ d) r
lift v f (read_later d w l) = read_later (f _ _ d) w l

pub sound : (v : ℕ) (t : Tree) (k : List Frame) (x : Bool) → (IsTrue x → IsLive Step v k) → IsTrue (live_before v t x) → IsLive Step v (at t ∷ k)
sound v done k x f h = lift v (λ _ _ d. s_done d) (f h)
sound v (op o t) k x f h = elim (before_cases (reads v o) (writes v o) (live_before v t x) h) [
  | inl r ↦ read_here s_op r
  | inr z ↦ read_later s_op z.0 (sound v t k x f z.1)
]
sound v (choose c a b r) k x f h = elim (before_cases (reads v c) (writes v c) (live_before v a (live_before v r x) || live_before v b (live_before v r x)) h) [
  | inl y ↦ read_here s_then y
  | inr z ↦ elim (or_cases (live_before v a (live_before v r x)) (live_before v b (live_before v r x)) z.1) [
    | inl y ↦ read_later s_then z.0 (sound v a (at r ∷ k) (live_before v r x) (sound v r k x f) y)
    | inr y ↦ read_later s_else z.0 (sound v b (at r ∷ k) (live_before v r x) (sound v r k x f) y)
  ]
]
sound v (loop p None b r) k x f h = lift v (λ _ _ d. s_loop d) (sound v p (test p None b r ∷ k) (live_before v b false) (λ y. lift v (λ _ _ d. s_ever d) (sound v b (at (loop p None b r) ∷ k) false (λ e. cc) y)) h)
sound v (loop p (Some c) b r) k x f h = lift v (λ _ _ d. s_loop d) (sound v p (test p (Some c) b r ∷ k) (transfer (reads v c) (writes v c) (live_before v b false || live_before v r x)) (λ y. elim (before_cases (reads v c) (writes v c) (live_before v b false || live_before v r x) y) [
  | inl e ↦ read_here s_more e
  | inr z ↦ elim (or_cases (live_before v b false) (live_before v r x) z.1) [
    | inl e ↦ read_later s_more z.0 (sound v b (at (loop p (Some c) b r) ∷ k) false (λ e'. cc) e)
    | inr e ↦ read_later s_leave z.0 (sound v r k x f e)
  ]
]) h)

pub sound_at : (v : ℕ) (s : List Frame) → IsTrue (lives_at v s) → IsLive Step v s
sound_at v [] h = cc
sound_at v (at t ∷ k) h = sound v t k (lives_at v k) (sound_at v k) h
sound_at v (test p None b r ∷ k) h = lift v (λ _ _ d. s_ever d) (sound v b (at (loop p None b r) ∷ k) (live_before v (loop p None b r) (lives_at v k)) (sound v (loop p None b r) k (lives_at v k) (sound_at v k)) h)
sound_at v (test p (Some c) b r ∷ k) h = elim (before_cases (reads v c) (writes v c) (live_before v b (live_before v (loop p (Some c) b r) (lives_at v k)) || live_before v r (lives_at v k)) h) [
  | inl e ↦ read_here s_more e
  | inr z ↦ elim (or_cases (live_before v b (live_before v (loop p (Some c) b r) (lives_at v k))) (live_before v r (lives_at v k)) z.1) [
    | inl e ↦ read_later s_more z.0 (sound v b (at (loop p (Some c) b r) ∷ k) (live_before v (loop p (Some c) b r) (lives_at v k)) (sound v (loop p (Some c) b r) k (lives_at v k) (sound_at v k)) e)
    | inr e ↦ read_later s_leave z.0 (sound v r k (lives_at v k) (sound_at v k) e)
  ]
]

-- whether it is live after the operation at a state
abbrev pub after_at : ℕ → List Frame → Bool
after_at v (at (op o t) ∷ k) = live_before v t (lives_at v k)
after_at v (at (choose c a b r) ∷ k) = live_before v a (live_before v r (lives_at v k)) || live_before v b (live_before v r (lives_at v k))
after_at v (test p (Some c) b r ∷ k) = live_before v b (live_before v (loop p (Some c) b r) (lives_at v k)) || live_before v r (lives_at v k)
after_at v _ = false

pub data IsHead : List Frame → Type 0 where
  h_op : {o : Op} {t : Tree} {k : List Frame} → IsHead (at (op o t) ∷ k)
  h_choose : {c : Op} {a b r : Tree} {k : List Frame} → IsHead (at (choose c a b r) ∷ k)
  h_test : {c : Op} {p b r : Tree} {k : List Frame} → IsHead (test p (Some c) b r ∷ k)

pub after_sound : (v : ℕ) {s : List Frame} → IsHead s → IsTrue (after_at v s) → IsLiveAfter Step v s
after_sound v (h_op {o} {t} {k}) h = (o, at t ∷ k, s_op, sound_at v (at t ∷ k) h)
after_sound v (h_choose {c} {a} {b} {r} {k}) h = elim (or_cases (live_before v a (live_before v r (lives_at v k))) (live_before v b (live_before v r (lives_at v k))) h) [
  | inl y ↦ (c, at a ∷ at r ∷ k, s_then, sound_at v (at a ∷ at r ∷ k) y)
  | inr y ↦ (c, at b ∷ at r ∷ k, s_else, sound_at v (at b ∷ at r ∷ k) y)
]
after_sound v (h_test {c} {p} {b} {r} {k}) h = elim (or_cases (live_before v b (live_before v (loop p (Some c) b r) (lives_at v k))) (live_before v r (lives_at v k)) h) [
  | inl y ↦ (c, at b ∷ at (loop p (Some c) b r) ∷ k, s_more, sound_at v (at b ∷ at (loop p (Some c) b r) ∷ k) y)
  | inr y ↦ (c, at r ∷ k, s_leave, sound_at v (at r ∷ k) y)
]

after_step : (v : ℕ) {s t : List Frame} {o : Op} → IsHead s → Step s o t → IsTrue (lives_at v t) → IsTrue (after_at v s)
after_step v h_op s_op h = h
after_step v h_choose s_then h = or_left _ _ h
after_step v h_choose s_else h = or_right _ _ h
after_step v h_test s_more h = or_left _ _ h
after_step v h_test s_leave h = or_right _ _ h

pub after_complete : (v : ℕ) {s : List Frame} → IsHead s → IsLiveAfter Step v s → IsTrue (after_at v s)
after_complete v i (o, t, d, l) = after_step v i d (complete v l)

-- each state of the list is at an operation
heads_test : (p : Tree) (c : Option Op) (b r : Tree) (k : List Frame) → All IsHead (at_test p c b r k)
heads_test p None b r k = All-nil IsHead
heads_test p (Some c) b r k = All-cons IsHead _ [] h_test (All-nil IsHead)

pub heads : (t : Tree) (k : List Frame) → All IsHead (states t k)
heads done k = All-nil IsHead
heads (op o t) k = All-cons IsHead _ _ h_op (heads t k)
heads (choose c a b r) k = All-cons IsHead _ _ h_choose (All-append IsHead _ _ (heads a (at r ∷ k)) (All-append IsHead _ _ (heads b (at r ∷ k)) (heads r k)))
heads (loop p c b r) k = All-append IsHead _ _ (heads p (test p c b r ∷ k)) (All-append IsHead _ _ (heads_test p c b r k) (All-append IsHead _ _ (heads b (at (loop p c b r) ∷ k)) (heads r k)))

-- the computed list is that of the states
tests_are : (v : ℕ) (p : Tree) (c : Option Op) (b r : Tree) (k : List Frame) → map (after_at v) (at_test p c b r k) ≡ test_after v c (live_before v b (live_before v (loop p c b r) (lives_at v k))) (live_before v r (lives_at v k))
tests_are v p None b r k = refl
tests_are v p (Some c) b r k = refl

pub afters_are : (v : ℕ) (t : Tree) (k : List Frame) → map (after_at v) (states t k) ≡ live_after_each v t (lives_at v k)
afters_are v done k = refl
afters_are v (op o t) k = ap (λ x. live_before v t (lives_at v k) ∷ x) (afters_are v t k)
afters_are v (choose c a b r) k = simp (map-append, afters_are v a (at r ∷ k), afters_are v b (at r ∷ k), afters_are v r k)
afters_are v (loop p c b r) k = simp (map-append, afters_are v p (test p c b r ∷ k), tests_are v p c b r k, afters_are v b (at (loop p c b r) ∷ k), afters_are v r k)
