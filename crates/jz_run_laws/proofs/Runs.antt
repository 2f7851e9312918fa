-- What the parts of statements keep of a state, a run keeps.
use Rattle.std.proofs.Common.{◌≡◌, ℕ, List, ℤ, Bool, true, false, subst, if◌then◌else◌}
use Rattle.jz_meaning.specs.RunLeaks as leak
use Rattle.jz_meaning.specs.RunLeaks.{Leak, Turns, Rounds}
use Rattle.jz_meaning.specs.Trees.{Tree}
use Rattle.jz_meaning.specs.Rules.{Parts, Attempt, went, Outcome, End, Cut, Stuck, after, Goes, finished, did, did_not, quieted, chosen, chosen_cut, chosen_stuck, chose_not, loop_left, loop_cut, loop_stuck, counted, counted_cut, counted_stuck, counted_not, call_ended, call_cut, call_stuck, entered_not, left_not, Loops, in_prologue, prologue_stuck, tested_not, leaves_loop, no_turn, in_body, body_stuck, more_turns, Counts, no_count, more_counts, count_cut, count_stuck}
use Rattle.jz_run_laws.specs.Nodes.{AllNodes}
use Rattle.jz_run_laws.specs.Kept.{IfWent, AtEnd}

-- what is put in front of what was leaked changes no state
end_after : {S W L M : Type 0} (P : S → Type 0) (f : L → M) (o : Outcome S W L) → AtEnd P o → AtEnd P (after f o)
end_after P f (End s n l) h = h
end_after P f (Cut l) h = h
end_after P f (Stuck w) h = h

gone : {W A : Type 0} (P : A → Type 0) (g : Attempt W A) (ns : List ℕ) (x : A) → g ≡ went ns x → IfWent P g → P x
gone P g ns x e h = subst (IfWent P) e h

module _ {O T F C K : Type 0} (Op : K → O → Type 0) (Counter : K → F → Type 0) (Call : K → K → C → Type 0) where
  abbrev Said : K → Tree O T F C → Type 0
  Said = AllNodes {T = T} Op Counter Call

  arm : (k : K) (a b : Tree O T F C) (z : Bool) → Said k a → Said k b → Said k (if z then a else b)
  arm k a b true ha hb = ha
  arm k a b false ha hb = hb

  -- what each part keeps; of a call there are two sides
  pub record Keeps {S W : Type 0} (M : Parts O T F C S W) (P : K → S → Type 0) : Type 0 where
    pub operations : (k : K) (o : O) (s : S) → Op k o → P k s → IfWent (P k) (M.does o s)
    pub marks : (k : K) (o : O) (s : S) → Op k o → P k s → P k (M.quiets o s)
    pub tests : (k : K) (c : T) (s : S) → P k s → P k (M.settled c s)
    pub beginning : (k : K) (f : F) (i : ℤ) (s : S) → Counter k f → P k s → P k (M.begins f i s)
    pub restored : (k : K) (f : F) (s t : S) → P k s → P k t → P k (M.restores f s t)
    pub entered : (k j : K) (c : C) (s : S) → Call k j c → P k s → IfWent (P j) (M.enters c s)
    pub left : (k j : K) (c : C) (s t : S) → Call k j c → P k s → P j t → IfWent (P k) (M.leaves c s t)

  module _ {S W : Type 0} (M : Parts O T F C S W) (P : K → S → Type 0) (keeps : Keeps M P) where
    mutual
      pub kept : {t : Tree O T F C} {n : ℕ} {s : S} {o : Outcome S W Leak} (k : K) → Goes M t n s o → Said k t → P k s → AtEnd (P k) o
      kept k finished a h = h
      kept k (did {o} {s} {s1} {ns} {w} q g) a h = end_after (P k) (leak.ran ns) w (kept k g a.1 (gone (P k) (M.does o s) ns s1 q (keeps.operations k o s a.0 h)))
      kept k (did_not q) a h = tt
      kept k (quieted {o} {s} g) a h = kept k g a.1 (keeps.marks k o s a.0 h)
      kept k (chosen {c} {a = x} {b = y} {s} {ns} {z} {l} {w} q g r) a h =
          let there = kept k g (arm k x y z a.0 a.1) (keeps.tests k c s h) in
          end_after (P k) (leak.chose ns z l) w (kept k r a.2 there)
      kept k (chosen_cut q g) a h = tt
      kept k (chosen_stuck q g) a h = tt
      kept k (chose_not q) a h = tt
      kept k (loop_left {ts} {w} g r) a h =
          let there = kept_turns k g a.0 a.1 h in
          end_after (P k) (leak.looped ts) w (kept k r a.2 there)
      kept k (loop_cut g) a h = tt
      kept k (loop_stuck g) a h = tt
      kept k (counted {f} {s} {s1} {ls} {w} q g r) a h =
          let there = kept_rounds k g a.0 a.1 h in
          end_after (P k) (leak.each ls) w (kept k r a.2 (keeps.restored k f s s1 h there))
      kept k (counted_cut q g) a h = tt
      kept k (counted_stuck q g) a h = tt
      kept k (counted_not q) a h = tt
      kept k (call_ended {c} {s} {s1} {s2} {s3} {ns} {ms} {l} {w} q g e r) a h =
          let inside = kept a.0.0 g a.0.2 (gone (P a.0.0) (M.enters c s) ns s1 q (keeps.entered k a.0.0 c s a.0.1 h)) in
          end_after (P k) (leak.called ns l ms) w (kept k r a.1 (gone (P k) (M.leaves c s s2) ms s3 e (keeps.left k a.0.0 c s s2 a.0.1 h inside)))
      kept k (call_cut q g) a h = tt
      kept k (call_stuck q g) a h = tt
      kept k (entered_not q) a h = tt
      kept k (left_not q g e) a h = tt

      pub kept_turns : {p : Tree O T F C} {c : T} {b : Tree O T F C} {n : ℕ} {s : S} {o : Outcome S W Turns} (k : K) → Loops M p c b n s o → Said k p → Said k b → P k s → AtEnd (P k) o
      kept_turns k (in_prologue g) a b h = tt
      kept_turns k (prologue_stuck g) a b h = tt
      kept_turns k (tested_not g q) a b h = tt
      kept_turns k (leaves_loop {c} {s1} g q) a b h = let there = kept k g a h in keeps.tests k c s1 there
      kept_turns k (no_turn g q) a b h = tt
      kept_turns k (in_body g q r) a b h = tt
      kept_turns k (body_stuck g q r) a b h = tt
      kept_turns k (more_turns {c} {s1} {ns} {l} {lb} {w} g q r i) a b h =
          let there = kept k g a h in
          let again = kept k r b (keeps.tests k c s1 there) in
          end_after (P k) (leak.turn l ns lb) w (kept_turns k i a b again)

      pub kept_rounds : {f : F} {b : Tree O T F C} {is : List ℤ} {n : ℕ} {s : S} {o : Outcome S W Rounds} (k : K) → Counts M f b is n s o → Counter k f → Said k b → P k s → AtEnd (P k) o
      kept_rounds k no_count a b h = h
      kept_rounds k (more_counts {f} {i} {s} {l} {w} g r) a b h =
          let there = kept k g b (keeps.beginning k f i s a h) in
          end_after (P k) (leak.round l) w (kept_rounds k r a b there)
      kept_rounds k (count_cut g) a b h = tt
      kept_rounds k (count_stuck g) a b h = tt
