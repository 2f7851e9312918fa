-- Stretches of steps, with the bounds that add up.
use Rattle.std.proofs.Common.{◌≡◌, ℕ, ◌+◌, ◌*◌, ◌<◌, ◌≤◌, List, [], ◌++◌, refl, sym, ap, subst, arith, append_assoc, append-nil}
use Rattle.jz_leak.specs.declared.event.Event.{Event}
use Rattle.jz_runs.specs.Rules.{Outcome, End, Cut, Stuck, after}
use Rattle.x64_insn.specs.declared.types.FaultKind.{FaultKind}
use Rattle.jz_placing.specs.Instructions.{Machine}
use Rattle.jz_linear.specs.LineRuns.{Resolved, Steps, Runs, stops, runs}

pub runs_as : {c : Resolved} {j k pc pc' : ℕ} {s s' : Machine} {es fs : List Event} → Runs c j pc s es pc' s' → j ≡ k → es ≡ fs → Runs c k pc s fs pc' s'
runs_as {c} {j} {k} {pc} {pc'} {s} {s'} {es} {fs} g e f = subst (λ n. Runs c n pc s fs pc' s') e (subst (λ l. Runs c j pc s l pc' s') f g)

pub runs_both : {c : Resolved} {j k pc pc1 pc2 : ℕ} {s s1 s2 : Machine} {es fs : List Event} → Runs c j pc s es pc1 s1 → Runs c k pc1 s1 fs pc2 s2 → Runs c (j + k) pc s (es ++ fs) pc2 s2
runs_both stops h = runs_as h (omega arith) refl
runs_both {fs = gs} (runs {es} {fs} s g) h = runs_as (runs s (runs_both g h)) (omega arith) (sym (append_assoc es fs gs))

-- A stretch that takes t turns: its steps are bounded from above, by the places and the turns, and from below.
pub record Moves (c : Resolved) (size t pc : ℕ) (s : Machine) (es : List Event) (pc' : ℕ) (s' : Machine) : Type 0 where
  pub k : ℕ
  pub goes : Runs c k pc s es pc' s'
  pub most : k + pc ≤ pc' + size * t
  pub least : t ≤ k

module _ {c : Resolved} {size : ℕ} where
  pub rest_here : (pc : ℕ) (s : Machine) → Moves c size 0 pc s [] pc s
  rest_here pc s = record { k = 0; goes = stops; most = omega arith; least = omega arith }

  -- a step forward
  pub forward : {pc pc' : ℕ} {s s' : Machine} {es : List Event} → Steps c pc s es pc' s' → pc < pc' → Moves c size 0 pc s es pc' s'
  forward {es} e lt = record { k = 1; goes = runs_as (runs e stops) refl (append-nil es); most = omega arith; least = omega arith }

  -- a step back, which is the one step of a turn
  pub backward : {pc pc' : ℕ} {s s' : Machine} {es : List Event} → Steps c pc s es pc' s' → pc < size → Moves c size 1 pc s es pc' s'
  backward {es} e lt = record { k = 1; goes = runs_as (runs e stops) refl (append-nil es); most = omega arith; least = omega arith }

  pub moves_both : {t u pc pc1 pc2 : ℕ} {s s1 s2 : Machine} {es fs : List Event} → Moves c size t pc s es pc1 s1 → Moves c size u pc1 s1 fs pc2 s2 → Moves c size (t + u) pc s (es ++ fs) pc2 s2
  moves_both m n = record { k = m.k + n.k; goes = runs_both m.goes n.goes; most = omega (arith, m.most, n.most); least = omega (arith, m.least, n.least) }

  pub moves_as : {t u pc pc' pc'' : ℕ} {s s' : Machine} {es fs : List Event} → Moves c size t pc s es pc' s' → t ≡ u → es ≡ fs → pc' ≡ pc'' → Moves c size u pc s fs pc'' s'
  moves_as {pc} {s} {s'} {fs} m p r z = record { k = m.k; goes = subst (λ n. Runs c m.k pc s fs n s') z (runs_as m.goes refl r); most = omega (arith, m.most, ap (λ t. size * t) p, z); least = omega (arith, m.least, p) }

-- ---- what a part of the code does
-- It went through, from pc to pc', with these events.
pub record Went (c : Resolved) (size pc pc' n : ℕ) (s : Machine) (es : List Event) (s' : Machine) (left : ℕ) : Type 0 where
  pub t : ℕ
  pub spent : n ≡ left + t
  pub moves : Moves c size t pc s es pc' s'

-- It has taken all n turns, and wants one more: of the turns that are begun, each owes a step that is its own instruction. The bound is
-- taken against the part's end, since a jump may have gone back already.
pub record Halted (c : Resolved) (size pc pc' n : ℕ) (s : Machine) (es : List Event) : Type 0 where
  pub k : ℕ
  pub pc1 : ℕ
  pub s1 : Machine
  pub goes : Runs c k pc s es pc1 s1
  pub most : k + pc ≤ pc' + size * n
  pub least : n + pc ≤ k + pc'
  pub inside : pc1 < pc'

pub data Follows {L : Type 0} (c : Resolved) (size pc pc' n : ℕ) (s : Machine) (A : L → List Event) : Outcome Machine FaultKind L → Type 0 where
  went_on : {s' : Machine} {left : ℕ} {l : L} → Went c size pc pc' n s (A l) s' left → Follows c size pc pc' n s A (End s' left l)
  halted : {l : L} → Halted c size pc pc' n s (A l) → Follows c size pc pc' n s A (Cut l)
  stays_stuck : {w : FaultKind} → Follows c size pc pc' n s A (Stuck w)

module _ {c : Resolved} {size : ℕ} where
  pub went_of : {L : Type 0} {pc pc' n m : ℕ} {s s' : Machine} {A : L → List Event} {l : L} → Follows c size pc pc' n s A (End s' m l) → Went c size pc pc' n s (A l) s' m
  went_of (went_on w) = w

  pub halted_of : {L : Type 0} {pc pc' n : ℕ} {s : Machine} {A : L → List Event} {l : L} → Follows c size pc pc' n s A (Cut l) → Halted c size pc pc' n s (A l)
  halted_of (halted h) = h

  pub ends_at : {L : Type 0} {pc pc1 pc2 n : ℕ} {s : Machine} {A : L → List Event} {o : Outcome Machine FaultKind L} → pc1 ≡ pc2 → Follows c size pc pc1 n s A o → Follows c size pc pc2 n s A o
  ends_at {pc} {n} {s} {A} {o} e r = subst (λ q. Follows c size pc q n s A o) e r

  -- a stretch before a cut part, of which w turns more are begun in the part's own room
  pub lead_halted : {t pc pc1 pc2 pc' n m : ℕ} {s s1 : Machine} {es fs gs : List Event} (w : ℕ) →
      Moves c size t pc s es pc1 s1 → w + pc + pc2 ≤ pc1 + pc' → pc2 ≤ pc' → n ≡ m + w + t → gs ≡ es ++ fs →
      Halted c size pc1 pc2 m s1 fs → Halted c size pc pc' n s gs
  lead_halted w lead room le e is r = record {
    k = lead.k + r.k;
    pc1 = r.pc1;
    s1 = r.s1;
    goes = runs_as (runs_both lead.goes r.goes) refl (sym is);
    most = omega (arith, lead.most, r.most, ap (λ x. size * x) e, le);
    least = omega (arith, lead.least, r.least, room, e);
    inside = omega (arith, r.inside, le);
  }

  -- a stretch before a part
  pub lead_follows : {L M : Type 0} {t pc pc1 pc' n m : ℕ} {s s1 : Machine} {es : List Event} {A : L → List Event} {o : Outcome Machine FaultKind L} (g : L → M) (B : M → List Event) →
      Moves c size t pc s es pc1 s1 → pc ≤ pc1 → n ≡ m + t → ((l : L) → B (g l) ≡ es ++ A l) →
      Follows c size pc1 pc' m s1 A o → Follows c size pc pc' n s B (after g o)
  lead_follows g B lead le e is (went_on {l} r) = went_on (record { t = _; spent = omega (arith, r.spent, e); moves = moves_as (moves_both lead r.moves) refl (sym (is l)) refl })
  lead_follows g B lead le e is (halted {l} r) = halted (lead_halted 0 lead (omega (arith, le)) (omega arith) (omega (arith, e)) (is l) r)
  lead_follows g B lead le e is stays_stuck = stays_stuck
