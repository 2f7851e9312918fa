-- What a run leaks. Where the run is cut, the last item of each open list holds the cut, and
-- nothing stands behind it.
use Rattle.std.specs.Prelude.{ℕ, Bool, List}

mutual
  -- the items of a body, one for each statement that leaks
  pub data Leak : Type 0 where
    -- no further item
    over : Leak
    -- the numbers of an operation
    ran : List ℕ → Leak → Leak
    -- the numbers of a test, its answer, the leak of the arm
    chose : List ℕ → Bool → Leak → Leak → Leak
    chose_cut : List ℕ → Bool → Leak → Leak
    -- the turns of a `while`
    looped : Turns → Leak → Leak
    looped_cut : Turns → Leak
    -- the rounds of a `for`
    each : Rounds → Leak → Leak
    each_cut : Rounds → Leak
    -- the numbers of the arguments, the leak of the callee, the numbers of the left sides
    called : List ℕ → Leak → List ℕ → Leak → Leak
    called_cut : List ℕ → Leak → Leak

  -- the turns of a `while`: the leak of the prologue and the numbers of the test, and where that is
  -- true the leak of the body
  pub data Turns : Type 0 where
    -- the test is false
    left : Leak → List ℕ → Turns
    turn : Leak → List ℕ → Leak → Turns → Turns
    -- the prologue is cut
    prologue_cut : Leak → Turns
    -- the test is true, and no turn is left
    wanted : Leak → List ℕ → Turns
    -- the body is cut
    body_cut : Leak → List ℕ → Leak → Turns

  -- the leaks of the body of a `for`, one for each value of the counter
  pub data Rounds : Type 0 where
    no_round : Rounds
    round : Leak → Rounds → Rounds
    round_cut : Leak → Rounds
