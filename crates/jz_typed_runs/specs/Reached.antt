-- What a run comes to: the parts that it does, each in the state in which it is done.
use Rattle.std.specs.Prelude.{◌≡◌, ℕ, suc, ℤ, Bool, true, List, ◌∷◌, if◌then◌else◌}
use Rattle.jz_meaning.specs.RunLeaks.{Leak, Turns, Rounds}
use Rattle.jz_meaning.specs.Trees.{Tree, op, quiet, choose, loop, each, call}
use Rattle.jz_meaning.specs.Rules.{Parts, went, End, Goes, Loops, Counts}

-- a part of a statement; of a call the results, with the state in which the callee ended
pub data Part (O T F C S : Type 0) : Type 0 where
  operation : O → Part O T F C S
  test : T → Part O T F C S
  bounds : F → Part O T F C S
  arguments : C → Part O T F C S
  results : C → S → Part O T F C S

-- into: what a call calls
mutual
  -- the run of a body of k from this state comes to that part, of a body of j, in that state
  pub data Comes {K O T F C S W : Type 0} (M : Parts O T F C S W) (into : C → K) :
      K → Tree O T F C → ℕ → S → K → Part O T F C S → S → Type 0 where
    does : {k : K} {o : O} {r : Tree O T F C} {n : ℕ} {s : S}
        → Comes M into k (op o r) n s k (operation o) s
    past :
        {k j : K} {o : O} {r : Tree O T F C} {n : ℕ} {s s1 t : S} {ns : List ℕ} {p : Part O T F C S}
        → M.does o s ≡ went ns s1 → Comes M into k r n s1 j p t → Comes M into k (op o r) n s j p t
    past_quiet :
        {k j : K} {o : O} {r : Tree O T F C} {n : ℕ} {s t : S} {p : Part O T F C S}
        → Comes M into k r n (M.quiets o s) j p t → Comes M into k (quiet o r) n s j p t
    asks :
        {k : K} {c : T} {a b r : Tree O T F C} {n : ℕ} {s : S}
        → Comes M into k (choose c a b r) n s k (test c) s
    in_arm :
        {k j : K} {c : T} {a b r : Tree O T F C} {n : ℕ} {s t : S} {ns : List ℕ} {z : Bool}
        {p : Part O T F C S} → M.tests c s ≡ went ns z
        → Comes M into k (if z then a else b) n (M.settled c s) j p t
        → Comes M into k (choose c a b r) n s j p t
    past_arm :
        {k j : K} {c : T} {a b r : Tree O T F C} {n m : ℕ} {s s1 t : S} {ns : List ℕ} {z : Bool}
        {l : Leak} {p : Part O T F C S} → M.tests c s ≡ went ns z
        → Goes M (if z then a else b) n (M.settled c s) (End s1 m l) → Comes M into k r m s1 j p t
        → Comes M into k (choose c a b r) n s j p t
    in_turns :
        {k j : K} {q : Bool} {g : Tree O T F C} {c : T} {b r : Tree O T F C} {n : ℕ} {s t : S}
        {p : Part O T F C S} → ComesInTurns M into k g c b n s j p t
        → Comes M into k (loop q g c b r) n s j p t
    past_turns :
        {k j : K} {q : Bool} {g : Tree O T F C} {c : T} {b r : Tree O T F C} {n m : ℕ} {s s1 t : S}
        {ts : Turns} {p : Part O T F C S} → Loops M g c b n s (End s1 m ts)
        → Comes M into k r m s1 j p t
        → Comes M into k (loop q g c b r) n s j p t
    counts :
        {k : K} {f : F} {b r : Tree O T F C} {n : ℕ} {s : S}
        → Comes M into k (each f b r) n s k (bounds f) s
    in_rounds :
        {k j : K} {f : F} {b r : Tree O T F C} {n : ℕ} {s t : S} {ns : List ℕ} {is : List ℤ}
        {p : Part O T F C S} → M.counts f s ≡ went ns is → ComesInRounds M into k f b is n s j p t
        → Comes M into k (each f b r) n s j p t
    past_rounds :
        {k j : K} {f : F} {b r : Tree O T F C} {n m : ℕ} {s s1 t : S} {ns : List ℕ} {is : List ℤ}
        {ls : Rounds} {p : Part O T F C S} → M.counts f s ≡ went ns is
        → Counts M f b is n s (End s1 m ls) → Comes M into k r m (M.restores f s s1) j p t
        → Comes M into k (each f b r) n s j p t
    enters :
        {k : K} {c : C} {b r : Tree O T F C} {n : ℕ} {s : S}
        → Comes M into k (call c b r) n s k (arguments c) s
    in_call :
        {k j : K} {c : C} {b r : Tree O T F C} {n : ℕ} {s s1 t : S} {ns : List ℕ}
        {p : Part O T F C S}
        → M.enters c s ≡ went ns s1 → Comes M into (into c) b n s1 j p t
        → Comes M into k (call c b r) n s j p t
    leaves :
        {k : K} {c : C} {b r : Tree O T F C} {n m : ℕ} {s s1 s2 : S} {ns : List ℕ} {l : Leak}
        → M.enters c s ≡ went ns s1 → Goes M b n s1 (End s2 m l)
        → Comes M into k (call c b r) n s k (results c s2) s
    past_call :
        {k j : K} {c : C} {b r : Tree O T F C} {n m : ℕ} {s s1 s2 s3 t : S} {ns ms : List ℕ}
        {l : Leak}
        {p : Part O T F C S} → M.enters c s ≡ went ns s1 → Goes M b n s1 (End s2 m l)
        → M.leaves c s s2 ≡ went ms s3 → Comes M into k r m s3 j p t
        → Comes M into k (call c b r) n s j p t

  -- in the turns of a `while`
  pub data ComesInTurns {K O T F C S W : Type 0} (M : Parts O T F C S W) (into : C → K) :
      K → Tree O T F C → T → Tree O T F C → ℕ → S → K → Part O T F C S → S → Type 0 where
    in_prologue :
        {k j : K} {g : Tree O T F C} {c : T} {b : Tree O T F C} {n : ℕ} {s t : S}
        {p : Part O T F C S}
        → Comes M into k g n s j p t → ComesInTurns M into k g c b n s j p t
    asks_turn :
        {k : K} {g : Tree O T F C} {c : T} {b : Tree O T F C} {n m : ℕ} {s s1 : S} {l : Leak}
        → Goes M g n s (End s1 m l) → ComesInTurns M into k g c b n s k (test c) s1
    in_body :
        {k j : K} {g : Tree O T F C} {c : T} {b : Tree O T F C} {n m : ℕ} {s s1 t : S} {ns : List ℕ}
        {l : Leak} {p : Part O T F C S} → Goes M g n s (End s1 (suc m) l)
        → M.tests c s1 ≡ went ns true → Comes M into k b m (M.settled c s1) j p t
        → ComesInTurns M into k g c b n s j p t
    next_turn :
        {k j : K} {g : Tree O T F C} {c : T} {b : Tree O T F C} {n m m2 : ℕ} {s s1 s2 t : S}
        {ns : List ℕ} {l lb : Leak} {p : Part O T F C S} → Goes M g n s (End s1 (suc m) l)
        → M.tests c s1 ≡ went ns true → Goes M b m (M.settled c s1) (End s2 m2 lb)
        → ComesInTurns M into k g c b m2 s2 j p t → ComesInTurns M into k g c b n s j p t

  -- in the rounds of a `for`
  pub data ComesInRounds {K O T F C S W : Type 0} (M : Parts O T F C S W) (into : C → K) :
      K → F → Tree O T F C → List ℤ → ℕ → S → K → Part O T F C S → S → Type 0 where
    in_round :
        {k j : K} {f : F} {b : Tree O T F C} {i : ℤ} {is : List ℤ} {n : ℕ} {s t : S}
        {p : Part O T F C S} → Comes M into k b n (M.begins f i s) j p t
        → ComesInRounds M into k f b (i ∷ is) n s j p t
    next_round :
        {k j : K} {f : F} {b : Tree O T F C} {i : ℤ} {is : List ℤ} {n m : ℕ} {s s1 t : S} {l : Leak}
        {p : Part O T F C S} → Goes M b n (M.begins f i s) (End s1 m l)
        → ComesInRounds M into k f b is m s1 j p t → ComesInRounds M into k f b (i ∷ is) n s j p t
