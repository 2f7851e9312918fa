-- A leak holds a cut exactly where its run was cut, at each depth.
use Rattle.std.proofs.Common.{ℕ, Bool, List, ℤ}
use Rattle.jz_runs.specs.Trees.{Tree}
use Rattle.jz_leak.specs.RunLeaks as leak
use Rattle.jz_leak.specs.RunLeaks.{Leak, Turns, Rounds}
use Rattle.jz_leak.specs.Cuts.{IsWhole, AreWhole, RoundsWhole, IsBroken, AreBroken, RoundsBroken}
use Rattle.jz_runs.specs.Rules.{Parts, Outcome, End, Cut, Stuck, after, Goes, finished, did, did_not, quieted, chosen, chosen_cut, chosen_stuck, chose_not, loop_left, loop_cut, loop_stuck, counted, counted_cut, counted_stuck, counted_not, call_ended, call_cut, call_stuck, entered_not, left_not, Loops, in_prologue, prologue_stuck, tested_not, leaves_loop, no_turn, in_body, body_stuck, more_turns, Counts, no_count, more_counts, count_cut, count_stuck}
use Rattle.jz_runs.specs.Laws.{HoldsCut}

-- what is put in front of what was leaked is whole
held_after : {S W L M : Type 0} (f : L → M) (V B : L → Type 0) (V' B' : M → Type 0) → ((l : L) → V l → V' (f l)) → ((l : L) → B l → B' (f l)) → (o : Outcome S W L) → HoldsCut V B o → HoldsCut V' B' (after f o)
held_after f V B V' B' whole broken (End s n l) h = whole l h
held_after f V B V' B' whole broken (Cut l) h = broken l h
held_after f V B V' B' whole broken (Stuck w) h = tt

module _ {O T F C S W : Type 0} (M : Parts O T F C S W) where
  mutual
    pub held : {t : Tree O T F C} {n : ℕ} {s : S} {o : Outcome S W Leak} → Goes M t n s o → HoldsCut IsWhole IsBroken o
    held finished = tt
    held (did {ns} {w} q g) = held_after (leak.ran ns) IsWhole IsBroken IsWhole IsBroken (λ l h. h) (λ l h. h) w (held g)
    held (did_not q) = tt
    held (quieted g) = held g
    held (chosen {ns} {z} {l} {w} q g h) = let a = held g in held_after (leak.chose ns z l) IsWhole IsBroken IsWhole IsBroken (λ x y. (a, y)) (λ x y. (a, y)) w (held h)
    held (chosen_cut q g) = held g
    held (chosen_stuck q g) = tt
    held (chose_not q) = tt
    held (loop_left {ts} {w} g h) = let a = held_turns g in held_after (leak.looped ts) IsWhole IsBroken IsWhole IsBroken (λ x y. (a, y)) (λ x y. (a, y)) w (held h)
    held (loop_cut g) = held_turns g
    held (loop_stuck g) = tt
    held (counted {ls} {w} q g h) = let a = held_rounds g in held_after (leak.each ls) IsWhole IsBroken IsWhole IsBroken (λ x y. (a, y)) (λ x y. (a, y)) w (held h)
    held (counted_cut q g) = held_rounds g
    held (counted_stuck q g) = tt
    held (counted_not q) = tt
    held (call_ended {ns} {ms} {l} {w} q g k h) = let a = held g in held_after (leak.called ns l ms) IsWhole IsBroken IsWhole IsBroken (λ x y. (a, y)) (λ x y. (a, y)) w (held h)
    held (call_cut q g) = held g
    held (call_stuck q g) = tt
    held (entered_not q) = tt
    held (left_not q g k) = tt

    pub held_turns : {p : Tree O T F C} {c : T} {b : Tree O T F C} {n : ℕ} {s : S} {o : Outcome S W Turns} → Loops M p c b n s o → HoldsCut AreWhole AreBroken o
    held_turns (in_prologue g) = held g
    held_turns (prologue_stuck g) = tt
    held_turns (tested_not g q) = tt
    held_turns (leaves_loop g q) = held g
    held_turns (no_turn g q) = held g
    held_turns (in_body g q k) = (held g, held k)
    held_turns (body_stuck g q k) = tt
    held_turns (more_turns {ns} {l} {lb} {w} g q k i) =
        let a = held g in let b = held k in
        held_after (leak.turn l ns lb) AreWhole AreBroken AreWhole AreBroken (λ x y. (a, b, y)) (λ x y. (a, b, y)) w (held_turns i)

    pub held_rounds : {f : F} {b : Tree O T F C} {is : List ℤ} {n : ℕ} {s : S} {o : Outcome S W Rounds} → Counts M f b is n s o → HoldsCut RoundsWhole RoundsBroken o
    held_rounds no_count = tt
    held_rounds (more_counts {l} {w} g h) = let a = held g in held_after (leak.round l) RoundsWhole RoundsBroken RoundsWhole RoundsBroken (λ x y. (a, y)) (λ x y. (a, y)) w (held_rounds h)
    held_rounds (count_cut g) = held g
    held_rounds (count_stuck g) = tt
