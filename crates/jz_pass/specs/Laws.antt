-- The law of a pass: what the runs of a program say of the runs of what the pass makes of it.
use Rattle.std.specs.Prelude.{ℕ, ◌≡◌, ⊤}
use Rattle.jz_leak.specs.RunLeaks.{Leak}
use Rattle.jz_runs.specs.Rules.{Outcome, End, Cut, Stuck}
use Rattle.jz_change.specs.Changes.{Change, map_of}
use Rattle.jz_change.specs.Fitting.{LeakFits}

-- the runs of a program: from an input, with so many true tests of `while` left, to an outcome;
-- what an end gives is a V, and why a run is stuck a W
abbrev pub Runs : (I V W : Type 0) → Type 1
Runs I V W = I → ℕ → Outcome V W Leak → Type 0

-- what of one language stands for what of another
pub record Relating (I J V V2 W W2 : Type 0) : Type 1 where
  -- the inputs, what ends give, and why runs are stuck
  pub Starts : I → J → Type 0
  pub Ends : V → V2 → Type 0
  pub Fails : W → W2 → Type 0
  -- holds where stuck runs are shown too, as between trees; elsewhere nothing is owed of them
  pub Exact : Type 0

-- what follows of an outcome in the other language: an end there, with as many turns left, or a
-- cut, each with the leak that the change gives of one that it is for; or, where that is shown, a
-- run that is stuck alike
pub data Follows {I J V V2 W W2 : Type 0} (R : Relating I J V V2 W W2) (k : Change)
    (Comes : Outcome V2 W2 Leak → Type 0) : Outcome V W Leak → Type 0 where
  has_ended :
      {v : V} {m : ℕ} {l : Leak} (v2 : V2)
      → R.Ends v v2 → LeakFits l k → Comes (End v2 m (map_of k l)) → Follows R k Comes (End v m l)
  was_cut : {l : Leak} → LeakFits l k → Comes (Cut (map_of k l)) → Follows R k Comes (Cut l)
  was_stuck :
      {w : W} → (R.Exact → (w2 : W2) × R.Fails w w2 × Comes (Stuck w2))
      → Follows R k Comes (Stuck w)

-- for each number of turns and inputs that stand for each other
pub record Carries {I J V V2 W W2 : Type 0} (R : Relating I J V V2 W W2) (From : Runs I V W)
    (To : Runs J V2 W2) (k : Change) : Type 0 where
  -- each run of the program is followed by one of what was made of it
  pub forth :
      (i : I) (j : J) (n : ℕ) (o : Outcome V W Leak)
      → R.Starts i j → From i n o → Follows R k (To j n) o
  -- and where that is stuck, the program is, for a reason that the other stands for
  pub back :
      (i : I) (j : J) (n : ℕ) (w2 : W2)
      → R.Starts i j → To j n (Stuck w2) → (w : W) × R.Fails w w2 × From i n (Stuck w)

-- one language, then a second and a third
abbrev pub both :
    {I J K V V2 V3 W W2 W3 : Type 0} → Relating I J V V2 W W2 → Relating J K V2 V3 W2 W3
    → Relating I K V V3 W W3
both {J} {V2} {W2} R Q = record {
  Starts = λ i k. (j : J) × R.Starts i j × Q.Starts j k;
  Ends = λ v v3. (v2 : V2) × R.Ends v v2 × Q.Ends v2 v3;
  Fails = λ w w3. (w2 : W2) × R.Fails w w2 × Q.Fails w2 w3;
  Exact = R.Exact × Q.Exact;
}

-- between trees: a stuck run is shown too, as one that is stuck for the same reason
abbrev pub between_trees :
    {I J V V2 W : Type 0} → (I → J → Type 0) → (V → V2 → Type 0) → Relating I J V V2 W W
between_trees Starts Ends = record {
  Starts = Starts;
  Ends = Ends;
  Fails = λ w w2. w ≡ w2;
  Exact = ⊤;
}
