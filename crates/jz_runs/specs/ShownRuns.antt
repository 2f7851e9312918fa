-- Runs with what is shown of their leak: of a body, of the turns of a `while`, of the rounds of a
-- `for`, and of the statements of a body before whatever follows them.
use Rattle.std.specs.Prelude.{◌≡◌, ◌<◌, ℕ, ℤ, List, ◌++◌}
use Rattle.jz_leak.specs.RunLeaks.{Leak, Turns, Rounds}
use Rattle.jz_runs.specs.Trees.{Tree}
use Rattle.jz_runs.specs.Rules.{Attempt, stuck, went, Parts, Outcome, End, Cut, Stuck, after}
use Rattle.jz_runs.specs.Rules.{Goes, Loops, Counts}
use Rattle.jz_runs.specs.Views.{View, leak_view, turns_view, rounds_view}

-- these first
abbrev pub before : {S W X : Type 0} → List X → Outcome S W (List X) → Outcome S W (List X)
before xs = after (λ l. xs ++ l)

-- ---- whole runs

pub record Runs {O T F C S W X Y Z : Type 0} (V : View X Y Z) (M : Parts O T F C S W)
    (t : Tree O T F C) (n : ℕ) (s : S) (o : Outcome S W (List X)) : Type 0 where
  pub out : Outcome S W Leak
  pub goes : Goes M t n s out
  pub is : after (leak_view V) out ≡ o

pub record RunsTurns {O T F C S W X Y Z : Type 0} (V : View X Y Z) (M : Parts O T F C S W)
    (p : Tree O T F C) (c : T) (b : Tree O T F C) (n : ℕ) (s : S) (o : Outcome S W (List Y))
    : Type 0 where
  pub out : Outcome S W Turns
  pub goes : Loops M p c b n s out
  pub is : after (turns_view V) out ≡ o

pub record RunsRounds {O T F C S W X Y Z : Type 0} (V : View X Y Z) (M : Parts O T F C S W) (f : F)
    (b : Tree O T F C) (js : List ℤ) (n : ℕ) (s : S) (o : Outcome S W (List Z)) : Type 0 where
  pub out : Outcome S W Rounds
  pub goes : Counts M f b js n s out
  pub is : after (rounds_view V) out ≡ o

-- ---- pieces

-- a piece of a body, before whatever follows it: at its end what follows goes on, at a cut nothing
-- does
abbrev pub Leads :
    {O T F C S W X Y Z : Type 0} (V : View X Y Z) (M : Parts O T F C S W)
    (piece : Tree O T F C → Tree O T F C) (n : ℕ) (s : S) (o : Outcome S W (List X)) → Type 0
Leads {O} {T} {F} {C} {S} {W} {X} {Y} {Z} V M piece n s (End s1 m xs) =
    (r : Tree O T F C) (o : Outcome S W (List X)) → Runs V M r m s1 o
    → Runs V M (piece r) n s (before xs o)
Leads {O} {T} {F} {C} {S} {W} {X} {Y} {Z} V M piece n s (Cut xs) =
    (r : Tree O T F C) → Runs V M (piece r) n s (Cut xs)
Leads {O} {T} {F} {C} {S} {W} {X} {Y} {Z} V M piece n s (Stuck w) =
    (r : Tree O T F C) → Runs V M (piece r) n s (Stuck w)

-- what the outcome of an inner run makes of that of its statement: the state afterwards, and what
-- is shown where it ended and where it was cut
abbrev pub finished_outcome :
    {S W X Y : Type 0} → (S → S) → (List Y → List X) → (List Y → List X) → Outcome S W (List Y)
    → Outcome S W (List X)
finished_outcome g f h (End s n ys) = End (g s) n (f ys)
finished_outcome g f h (Cut ys) = Cut (h ys)
finished_outcome g f h (Stuck w) = Stuck w

-- a call whose callee came to its end
abbrev pub call_left_outcome :
    {S W X Y Z : Type 0} → View X Y Z → List ℕ → ℕ → List X → Attempt W S → Outcome S W (List X)
call_left_outcome v ns k xs (stuck w) = Stuck w
call_left_outcome v ns k xs (went ms s) = End s k (v.call ns xs ms)

abbrev pub call_outcome :
    {S W X Y Z : Type 0} → View X Y Z → (S → Attempt W S) → List ℕ → Outcome S W (List X)
    → Outcome S W (List X)
call_outcome v leave ns (End t k xs) = call_left_outcome v ns k xs (leave t)
call_outcome v leave ns (Cut xs) = Cut (v.cut_call ns xs)
call_outcome v leave ns (Stuck w) = Stuck w

-- ---- one turn

-- a turn: the last one, whose test is false; one with another test after it; one that is cut
pub data TurnOutcome (S W Y : Type 0) : Type 0 where
  last : S → ℕ → List Y → TurnOutcome S W Y
  more : S → ℕ → List Y → TurnOutcome S W Y
  cut : List Y → TurnOutcome S W Y
  stuck_in : W → TurnOutcome S W Y

-- what a turn makes of the turns from it on; one with another test after it leaves fewer turns
abbrev pub IsTurn :
    {O T F C S W X Y Z : Type 0} (V : View X Y Z) (M : Parts O T F C S W) (p : Tree O T F C) (c : T)
    (b : Tree O T F C) (n : ℕ) (s : S) (o : TurnOutcome S W Y) → Type 0
IsTurn V M p c b n s (last t m ys) = RunsTurns V M p c b n s (End t m ys)
IsTurn {O} {T} {F} {C} {S} {W} {X} {Y} {Z} V M p c b n s (more t m ys) =
    (m < n)
    × ((o : Outcome S W (List Y)) → RunsTurns V M p c b m t o
    → RunsTurns V M p c b n s (before ys o))
IsTurn V M p c b n s (cut ys) = RunsTurns V M p c b n s (Cut ys)
IsTurn V M p c b n s (stuck_in w) = RunsTurns V M p c b n s (Stuck w)

-- the same from the test on, where this is shown of a prologue that came to its end
pub record IsTested {O T F C S W X Y Z : Type 0} (V : View X Y Z) (M : Parts O T F C S W) (c : T)
    (b : Tree O T F C) (xs : List X) (m : ℕ) (t : S) (o : TurnOutcome S W Y) : Type 0 where
  pub so :
      (p : Tree O T F C) (n : ℕ) (s : S) → Runs V M p n s (End t m xs) → IsTurn V M p c b n s o

-- ---- a run so far: what follows from here on makes the whole, behind what was shown

pub record Passed {O T F C S W X Y Z : Type 0} (V : View X Y Z) (M : Parts O T F C S W)
    (whole rest : Tree O T F C → Tree O T F C) (n : ℕ) (s : S) (seen : List X) (m : ℕ) (t : S)
    : Type 0 where
  pub so :
      (r : Tree O T F C) (o : Outcome S W (List X)) → Runs V M (rest r) m t o
      → Runs V M (whole r) n s (before seen o)

pub record Turned {O T F C S W X Y Z : Type 0} (V : View X Y Z) (M : Parts O T F C S W)
    (p : Tree O T F C) (c : T) (b : Tree O T F C) (n : ℕ) (s : S) (seen : List Y) (m : ℕ) (t : S)
    : Type 0 where
  pub so :
      (o : Outcome S W (List Y)) → RunsTurns V M p c b m t o
      → RunsTurns V M p c b n s (before seen o)

pub record Counted {O T F C S W X Y Z : Type 0} (V : View X Y Z) (M : Parts O T F C S W) (f : F)
    (b : Tree O T F C) (js : List ℤ) (n : ℕ) (s : S) (seen : List Z) (ks : List ℤ) (m : ℕ) (t : S)
    : Type 0 where
  pub so :
      (o : Outcome S W (List Z)) → RunsRounds V M f b ks m t o
      → RunsRounds V M f b js n s (before seen o)
