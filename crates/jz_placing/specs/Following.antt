-- One run follows another.
use Rattle.std.specs.Prelude.{ℕ}
use Rattle.jz_runs.specs.Rules.{Outcome, End, Cut, Stuck}

-- Some outcome of which Runs is true follows this one: it ends with as many turns left, in a state
-- that Ends relates, and with what maps makes of the leak; or it is cut with what maps makes of the
-- leak. Of a run that is stuck nothing is said.
pub data Follows {S S' W W' L L' : Type 0} (Runs : Outcome S' W' L' → Type 0)
    (Ends : S → S' → Type 0) (maps : L → L') : Outcome S W L → Type 0 where
  ended :
      {s : S} {n : ℕ} {l : L} (s' : S') → Runs (End s' n (maps l)) → Ends s s'
      → Follows Runs Ends maps (End s n l)
  was_cut : {l : L} → Runs (Cut (maps l)) → Follows Runs Ends maps (Cut l)
  was_stuck : {w : W} → Follows Runs Ends maps (Stuck w)
