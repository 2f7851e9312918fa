-- Marks that do nothing are left out.
use Rattle.std.proofs.Common.{◌≡◌, ℕ, Bool, true, false, refl, ap, ◌∙◌, subst}
use Rattle.std.specs.Prelude.{if◌then◌else◌}
use Rattle.jz_leak.specs.RunLeaks.{Leak, Turns}
use Rattle.jz_runs.specs.Trees.{Tree, done, op, quiet, choose, loop, each, call}
use Rattle.jz_runs.specs.Rules.{Parts, Outcome, Goes, finished, did, did_not, quieted, chosen, chosen_cut, chosen_stuck, chose_not, loop_left, loop_cut, loop_stuck, counted, counted_cut, counted_stuck, counted_not, call_ended, call_cut, call_stuck, entered_not, left_not, Loops, in_prologue, prologue_stuck, tested_not, leaves_loop, no_turn, in_body, body_stuck, more_turns}
use Rattle.jz_pass.specs.Cases.{Cases, if_case, while_case, for_case, call_case, op_case, no_case, cases_before}
use Rattle.jz_every_row.specs.Bodies.{without_marks}

module _ {O T S W : Type 0} (M : Parts O T ⊥ ⊥ S W) (same : (o : O) (s : S) → M.quiets o s ≡ s) where
  at_arm : (z : Bool) (a b : Tree O T ⊥ ⊥) {n : ℕ} {s : S} {w : Outcome S W Leak} → Goes M (without_marks (if z then a else b)) n s w → Goes M (if z then without_marks a else without_marks b) n s w
  at_arm true a b g = g
  at_arm false a b g = g

  mutual
    pub unmarked : {t : Tree O T ⊥ ⊥} {n : ℕ} {s : S} {w : Outcome S W Leak} → Goes M t n s w → Goes M (without_marks t) n s w
    unmarked finished = finished
    unmarked (did q g) = did q (unmarked g)
    unmarked (did_not q) = did_not q
    unmarked {n = n} {s = s} (quieted {o} {r} {w} g) = subst (λ x. Goes M (without_marks r) n x w) (same o s) (unmarked g)
    unmarked (chosen {a} {b} {z} q g h) = chosen q (at_arm z a b (unmarked g)) (unmarked h)
    unmarked (chosen_cut {a} {b} {z} q g) = chosen_cut q (at_arm z a b (unmarked g))
    unmarked (chosen_stuck {a} {b} {z} q g) = chosen_stuck q (at_arm z a b (unmarked g))
    unmarked (chose_not q) = chose_not q
    unmarked (loop_left g h) = loop_left (unmarked_turns g) (unmarked h)
    unmarked (loop_cut g) = loop_cut (unmarked_turns g)
    unmarked (loop_stuck g) = loop_stuck (unmarked_turns g)
    unmarked (counted {f} q g h) = absurd f
    unmarked (counted_cut {f} q g) = absurd f
    unmarked (counted_stuck {f} q g) = absurd f
    unmarked (counted_not {f} q) = absurd f
    unmarked (call_ended {c} q g k h) = absurd c
    unmarked (call_cut {c} q g) = absurd c
    unmarked (call_stuck {c} q g) = absurd c
    unmarked (entered_not {c} q) = absurd c
    unmarked (left_not {c} q g k) = absurd c

    unmarked_turns : {p : Tree O T ⊥ ⊥} {c : T} {b : Tree O T ⊥ ⊥} {n : ℕ} {s : S} {w : Outcome S W Turns} → Loops M p c b n s w → Loops M (without_marks p) c (without_marks b) n s w
    unmarked_turns (in_prologue g) = in_prologue (unmarked g)
    unmarked_turns (prologue_stuck g) = prologue_stuck (unmarked g)
    unmarked_turns (tested_not g q) = tested_not (unmarked g) q
    unmarked_turns (leaves_loop g q) = leaves_loop (unmarked g) q
    unmarked_turns (no_turn g q) = no_turn (unmarked g) q
    unmarked_turns (in_body g q h) = in_body (unmarked g) q (unmarked h)
    unmarked_turns (body_stuck g q h) = body_stuck (unmarked g) q (unmarked h)
    unmarked_turns (more_turns g q h k) = more_turns (unmarked g) q (unmarked h) (unmarked_turns k)

-- they have no case
pub same_cases : {O T F C : Type 0} (t : Tree O T F C) (Y : Cases) → cases_before (without_marks t) Y ≡ cases_before t Y
same_cases done Y = refl
same_cases (op o r) Y = ap op_case (same_cases r Y)
same_cases (quiet o r) Y = same_cases r Y
same_cases (choose c a b r) Y = ap (λ x. if_case x (cases_before (without_marks b) no_case) (cases_before (without_marks r) Y)) (same_cases a no_case) ∙ ap (λ x. if_case (cases_before a no_case) x (cases_before (without_marks r) Y)) (same_cases b no_case) ∙ ap (if_case (cases_before a no_case) (cases_before b no_case)) (same_cases r Y)
same_cases (loop q p c b r) Y = ap (λ x. while_case x (cases_before (without_marks b) no_case) (cases_before (without_marks r) Y)) (same_cases p no_case) ∙ ap (λ x. while_case (cases_before p no_case) x (cases_before (without_marks r) Y)) (same_cases b no_case) ∙ ap (while_case (cases_before p no_case) (cases_before b no_case)) (same_cases r Y)
same_cases (each f b r) Y = ap (λ x. for_case x (cases_before (without_marks r) Y)) (same_cases b no_case) ∙ ap (for_case (cases_before b no_case)) (same_cases r Y)
same_cases (call c b r) Y = ap (λ x. call_case x (cases_before (without_marks r) Y)) (same_cases b no_case) ∙ ap (call_case (cases_before b no_case)) (same_cases r Y)
