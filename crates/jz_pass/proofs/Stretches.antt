-- What a part of a tree does, whatever follows it.
use Rattle.std.proofs.Common.{◌≡◌, ℕ, suc, true, false, List, [], ◌∷◌, ℤ, refl, sym, ◌∙◌, subst}
use Rattle.jz_leak.specs.RunLeaks.{Leak, over, ran, Turns, turn, Rounds, round}
use Rattle.jz_leak.specs.Applying.{is_cut, is_cut_in_turns, is_cut_in_rounds}
use Rattle.jz_runs.specs.Trees.{Tree, done, op, quiet, choose}
use Rattle.jz_runs.specs.Rules.{Parts, went, Outcome, End, Cut, Stuck, after, Goes, finished, did, did_not, quieted, chose_not, Loops, prologue_stuck, tested_not, more_turns, Counts, more_counts}
use Rattle.std.proofs.lemmas.List.Elements.{All-nil, All-cons}
use Rattle.jz_change.specs.declared.change.Numbers.{Numbers}
use Rattle.jz_change.specs.declared.change.Numbers.TheVariants.{Same}
use Rattle.jz_change.specs.Changes.{numbers_in, Change, operations, map_before, map_turns, map_each}
use Rattle.jz_change.specs.Fitting.{HasThese, HasAll, LeakFits, LeakTurnsFit, turns_turn, LeakEachFits, same_round}
use Rattle.jz_pass.specs.Operations.{in_turn, DoAll, do_none, do_one, OneFails, fails_here, fails_later, TestFails, fails_at_test, fails_before, fails_behind}

pub after_twice : {S W L L1 L2 : Type 0} (f : L1 → L2) (g : L → L1) (w : Outcome S W L) → after f (after g w) ≡ after (λ l. f (g l)) w
after_twice f g (End s n l) = refl
after_twice f g (Cut l) = refl
after_twice f g (Stuck w) = refl

pub after_none : {S W L : Type 0} (w : Outcome S W L) → after (λ l. l) w ≡ w
after_none (End s n l) = refl
after_none (Cut l) = refl
after_none (Stuck w) = refl

-- no item names a number, and the item with the same numbers does not either
pub none_there : (ns : List ℕ) → HasAll ns []
none_there ns = All-nil (HasThese ns)

pub same_there : (ns : List ℕ) → HasAll ns (Same ∷ [])
same_there ns = All-cons (HasThese ns) Same [] tt (All-nil (HasThese ns))

module _ {O T F C S W : Type 0} (N : Parts O T F C S W) where
  abbrev pub Body : Type 0
  Body = Tree O T F C

  -- it ends, with so many turns left, and what follows goes on there
  abbrev pub Leads : (Body → Body) → ℕ → S → (Leak → Leak) → ℕ → S → Type 0
  Leads g n s A m s1 = (rest : Body) (w : Outcome S W Leak) → Goes N rest m s1 w → Goes N (g rest) n s (after A w)

  -- it is cut or stuck, whatever follows
  abbrev pub Stops : (Body → Body) → ℕ → S → Outcome S W Leak → Type 0
  Stops g n s o = (rest : Body) → Goes N (g rest) n s o

  pub leads_on : (g h : Body → Body) {n m p : ℕ} {s s1 s2 : S} (A B : Leak → Leak) → Leads g n s A m s1 → Leads h m s1 B p s2 → Leads (λ rest. g (h rest)) n s (λ l. A (B l)) p s2
  leads_on g h {n} {s} A B f k rest w run = subst (Goes N (g (h rest)) n s) (after_twice A B w) (f (h rest) (after B w) (k rest w run))

  pub alone : {g : Body → Body} {n m : ℕ} {s s1 : S} {A : Leak → Leak} → Leads g n s A m s1 → Goes N (g done) n s (End s1 m (A over))
  alone {m} {s1} f = f done (End s1 m over) finished

  pub ops_lead : {all : List ℕ} {os : List O} {is : List Numbers} {s s1 : S} {n : ℕ} → DoAll N all os is s s1 → Leads (in_turn os) n s (operations is all) n s1
  ops_lead {s} {n} do_none rest w run = subst (Goes N rest n s) (sym (after_none w)) run
  ops_lead {all} {s} {n} (do_one {o} {os} {i} {is} h d more) rest w run =
      subst (Goes N (op o (in_turn os rest)) n s) (after_twice (ran (numbers_in i all)) (operations is all) w) (did d (ops_lead more rest w run))

  pub ops_stop : {w : W} {os : List O} {s : S} {n : ℕ} → OneFails N w os s → Stops (in_turn os) n s (Stuck w)
  ops_stop (fails_here d) rest = did_not d
  ops_stop (fails_later d f) rest = did d (ops_stop f rest)

  -- the numbers of all are there
  pub all_there : {all : List ℕ} {os : List O} {is : List Numbers} {s s1 : S} → DoAll N all os is s s1 → HasAll all is
  all_there {all} do_none = All-nil (HasThese all)
  all_there {all} (do_one {i} {is} h d more) = All-cons (HasThese all) i is h (all_there more)

  -- operations of which one is stuck, or the test behind them, of an `if` or of a `while` whose prologue goes so far
  pub test_stops : {w : W} {os : List O} {p : T} {s : S} {n : ℕ} (a b r : Tree O T F C) → TestFails N w os p s → Goes N (in_turn os (choose p a b r)) n s (Stuck w)
  test_stops a b r (fails_at_test q) = chose_not q
  test_stops a b r (fails_before d) = did_not d
  test_stops a b r (fails_behind d f) = did d (test_stops a b r f)

  pub loop_stops : {w : W} {os : List O} {p : T} {q b : Tree O T F C} {s s1 : S} {n m : ℕ} (A : Leak → Leak) → TestFails N w os p s1 → ((v : Outcome S W Leak) → Goes N (in_turn os done) m s1 v → Goes N q n s (after A v)) → Loops N q p b n s (Stuck w)
  loop_stops {s1} {m} A (fails_at_test q) go = tested_not (go (End s1 m over) finished) q
  loop_stops {w} A (fails_before d) go = prologue_stuck (go (Stuck w) (did_not d))
  loop_stops {q} {s} {n} A (fails_behind {ns} d f) go = loop_stops (λ l. A (ran ns l)) f (λ v run. subst (Goes N q n s) (after_twice A (ran ns) v) (go (after (ran ns) v) (did d run)))

  pub quiet_leads : (o : O) {n : ℕ} {s : S} → Leads (quiet o) n s (λ l. l) n (N.quiets o s)
  quiet_leads o {n} {s} rest w run = subst (Goes N (quiet o rest) n s) (sym (after_none w)) (quieted run)

module _ {S U W O' T' F' C' : Type 0} (N : Parts O' T' F' C' U W) where
  -- g does what has this outcome, with the leak that the change makes of it; P: where it ends
  pub data Matches (g : Tree O' T' F' C' → Tree O' T' F' C') (n : ℕ) (t : U) (k : Change) (P : S → U → Type 0) : Outcome S W Leak → Type 0 where
    m_end : {x : S} {m : ℕ} {l : Leak} (t1 : U) → P x t1 → LeakFits l k → is_cut l ≡ false → Leads N g n t (map_before l k) m t1 → Matches g n t k P (End x m l)
    m_cut : {l : Leak} → LeakFits l k → is_cut l ≡ true → Stops N g n t (Cut (map_before l k over)) → Matches g n t k P (Cut l)
    m_stuck : {w : W} → Stops N g n t (Stuck w) → Matches g n t k P (Stuck w)

  pub record Ended (g : Tree O' T' F' C' → Tree O' T' F' C') (n : ℕ) (t : U) (k : Change) (P : S → U → Type 0) (x : S) (m : ℕ) (l : Leak) : Type 0 where
    pub at : U
    pub relates : P x at
    pub fits : LeakFits l k
    pub whole : is_cut l ≡ false
    pub on : Leads N g n t (map_before l k) m at

  pub ended : {g : Tree O' T' F' C' → Tree O' T' F' C'} {n m : ℕ} {t : U} {k : Change} {P : S → U → Type 0} {x : S} {l : Leak} → Matches g n t k P (End x m l) → Ended g n t k P x m l
  ended (m_end t1 p f w h) = record { at = t1; relates = p; fits = f; whole = w; on = h }

  pub cut_so : {g : Tree O' T' F' C' → Tree O' T' F' C'} {n : ℕ} {t : U} {k : Change} {P : S → U → Type 0} {l : Leak} → Matches g n t k P (Cut l) → LeakFits l k × (is_cut l ≡ true) × Stops N g n t (Cut (map_before l k over))
  cut_so (m_cut f w h) = (f, w, h)

  pub stuck_so : {g : Tree O' T' F' C' → Tree O' T' F' C'} {n : ℕ} {t : U} {k : Change} {P : S → U → Type 0} {w : W} → Matches g n t k P (Stuck w) → Stops N g n t (Stuck w)
  stuck_so (m_stuck h) = h

  pub weaken : {g : Tree O' T' F' C' → Tree O' T' F' C'} {n : ℕ} {t : U} {k : Change} {P Q : S → U → Type 0} {w : Outcome S W Leak} → ((x : S) (z : U) → P x z → Q x z) → Matches g n t k P w → Matches g n t k Q w
  weaken f (m_end {x} t1 p ft wh h) = m_end t1 (f x t1 p) ft wh h
  weaken f (m_cut ft wh h) = m_cut ft wh h
  weaken f (m_stuck h) = m_stuck h

  -- a statement that has gone through, and what follows it
  pub goes_through : (g h : Tree O' T' F' C' → Tree O' T' F' C') {n m : ℕ} {t t1 : U} {k k2 : Change} {P : S → U → Type 0} {w : Outcome S W Leak} (A f : Leak → Leak) → Leads N g n t A m t1 →
      ((l next : Leak) → map_before (f l) k2 next ≡ A (map_before l k next)) → ((l : Leak) → LeakFits l k → LeakFits (f l) k2) → ((l : Leak) → is_cut (f l) ≡ is_cut l) →
      Matches h m t1 k P w → Matches (λ rest. g (h rest)) n t k2 P (after f w)
  goes_through g h {n} {t} {k} {k2} A f go eq fit keep (m_end {l} t2 p ft wh run) =
      m_end t2 p (fit l ft) (keep l ∙ wh)
      (λ rest w r. subst (λ B. Goes N (g (h rest)) n t (after B w)) (let q : (λ next. A (map_before l k next)) ≡ map_before (f l) k2 = (λ i next. sym (eq l next) i) in q)
      (subst (Goes N (g (h rest)) n t) (after_twice A (map_before l k) w) (go (h rest) _ (run rest w r))))
  goes_through g h {n} {t} {k} {k2} A f go eq fit keep (m_cut {l} ft wh run) =
      m_cut (fit l ft) (keep l ∙ wh) (λ rest. subst (λ z. Goes N (g (h rest)) n t (Cut z)) (sym (eq l over)) (go (h rest) _ (run rest)))
  goes_through g h A f go eq fit keep (m_stuck run) = m_stuck (λ rest. go (h rest) _ (run rest))

module _ {S U W W' O' T' F' C' : Type 0} (N : Parts O' T' F' C' U W') where
  -- the turns of a `while` that stays one; Fate: what is owed where they are stuck
  pub data LoopMatches (p : Tree O' T' F' C') (c : T') (b : Tree O' T' F' C') (n : ℕ) (t : U) (kp : Change) (is : List Numbers) (i : Numbers) (kb : Change) (P : S → U → Type 0) (Fate : W → Type 0) : Outcome S W Turns → Type 0 where
    l_end : {x : S} {m : ℕ} {ts : Turns} (t1 : U) → P x t1 → LeakTurnsFit ts kp is i kb → is_cut_in_turns ts ≡ false → Loops N p c b n t (End t1 m (map_turns ts kp is i kb)) → LoopMatches p c b n t kp is i kb P Fate (End x m ts)
    l_cut : {ts : Turns} → LeakTurnsFit ts kp is i kb → is_cut_in_turns ts ≡ true → Loops N p c b n t (Cut (map_turns ts kp is i kb)) → LoopMatches p c b n t kp is i kb P Fate (Cut ts)
    l_stuck : {w : W} → Fate w → LoopMatches p c b n t kp is i kb P Fate (Stuck w)

  pub one_turn : {p b : Tree O' T' F' C'} {c : T'} {n m m2 : ℕ} {t t1 t2 : U} {kp kb : Change} {is : List Numbers} {i : Numbers} {P Q : S → U → Type 0} {Later Fate : W → Type 0} {w : Outcome S W Turns} (ns : List ℕ) (l lb : Leak) → HasAll ns is → HasThese ns i → LeakFits l kp → is_cut l ≡ false → LeakFits lb kb → is_cut lb ≡ false →
      Goes N p n t (End t1 (suc m) (map_before l kp (operations is ns over))) → N.tests c t1 ≡ went (numbers_in i ns) true → Goes N b m (N.settled c t1) (End t2 m2 (map_before lb kb over)) → ((x : S) (z : U) → P x z → Q x z) → ((e : W) → Later e → Fate e) →
      LoopMatches p c b m2 t2 kp is i kb P Later w → LoopMatches p c b n t kp is i kb Q Fate (after (turn l ns lb) w)
  one_turn ns l lb all these f fw f2 fw2 g q h imp stops (l_end {x} t3 r ft wh k) = l_end t3 (imp x t3 r) (turns_turn all these fw f fw2 f2 ft) wh (more_turns g q h k)
  one_turn ns l lb all these f fw f2 fw2 g q h imp stops (l_cut ft wh k) = l_cut (turns_turn all these fw f fw2 f2 ft) wh (more_turns g q h k)
  one_turn ns l lb all these f fw f2 fw2 g q h imp stops (l_stuck {w} k) = l_stuck (stops w k)

module _ {S U W O' T' F' C' : Type 0} (N : Parts O' T' F' C' U W) where
  -- the rounds of a `for` that stays one
  pub data EachMatches (f : F') (b : Tree O' T' F' C') (is : List ℤ) (n : ℕ) (t : U) (kb : Change) (P : S → U → Type 0) : Outcome S W Rounds → Type 0 where
    c_end : {x : S} {m : ℕ} {rs : Rounds} (t1 : U) → P x t1 → LeakEachFits rs kb → is_cut_in_rounds rs ≡ false → Counts N f b is n t (End t1 m (map_each rs kb)) → EachMatches f b is n t kb P (End x m rs)
    c_cut : {rs : Rounds} → LeakEachFits rs kb → is_cut_in_rounds rs ≡ true → Counts N f b is n t (Cut (map_each rs kb)) → EachMatches f b is n t kb P (Cut rs)
    c_stuck : {w : W} → Counts N f b is n t (Stuck w) → EachMatches f b is n t kb P (Stuck w)

  pub one_round : {f : F'} {b : Tree O' T' F' C'} {i : ℤ} {is : List ℤ} {n m : ℕ} {t t1 : U} {kb : Change} {P Q : S → U → Type 0} {w : Outcome S W Rounds} (l : Leak) → LeakFits l kb → is_cut l ≡ false →
      Goes N b n (N.begins f i t) (End t1 m (map_before l kb over)) → ((x : S) (z : U) → P x z → Q x z) → EachMatches f b is m t1 kb P w → EachMatches f b (i ∷ is) n t kb Q (after (round l) w)
  one_round l ft wh g imp (c_end {x} t2 p fts whs h) = c_end t2 (imp x t2 p) (same_round wh ft fts) whs (more_counts g h)
  one_round l ft wh g imp (c_cut fts whs h) = c_cut (same_round wh ft fts) whs (more_counts g h)
  one_round l ft wh g imp (c_stuck h) = c_stuck (more_counts g h)
