-- Worked examples of what a change makes of a leak: each step, and a cut in each place.
use Rattle.std.specs.Prelude.{ℕ, ◌≡◌, refl, true, false, [], ◌∷◌}
use Rattle.jz_leak.specs.RunLeaks.{Leak, over, ran, chose, chose_cut, looped, looped_cut, each, each_cut, called, called_cut, left, turn, prologue_cut, wanted, body_cut, no_round, round, round_cut}
use Rattle.jz_change.specs.declared.change.Number.TheVariants.{Fixed, Nth}
use Rattle.jz_change.specs.declared.change.Numbers.{Numbers}
use Rattle.jz_change.specs.declared.change.Numbers.TheVariants.{Same, These}
use Rattle.jz_change.specs.Changes.{Change, ends, ops, stays_if, arm, stays_while, once, stays_for, unrolled, opened, none, more, map_of}

-- an operation that stays, and the second of its numbers
abbrev one_op : Change → Change
one_op = ops (Same ∷ [])

abbrev second : Numbers
second = These (Nth 1 ∷ [])

abbrev leak : ℕ → Leak
leak n = ran (n ∷ []) over

-- a turn that was wanted, in a `while` that stays
abbrev cut : Leak
cut = looped_cut (wanted over (3 ∷ []))

abbrev cut_part : Change
cut_part = stays_while ends [] Same ends ends

pub operation : map_of (ops (These (Nth 1 ∷ Fixed 9 ∷ []) ∷ Same ∷ []) (ops [] ends)) (ran (5 ∷ 7 ∷ []) (leak 1)) ≡ ran (7 ∷ 9 ∷ []) (ran (5 ∷ 7 ∷ []) over)
operation = refl

pub kept_if : map_of (stays_if (second ∷ []) second ends (one_op ends) (one_op ends)) (chose (5 ∷ 7 ∷ []) false (leak 1) (leak 2)) ≡ ran (7 ∷ []) (chose (7 ∷ []) false (leak 1) (leak 2))
kept_if = refl

pub kept_if_cut : map_of (stays_if [] second cut_part ends (one_op ends)) (chose_cut (5 ∷ 7 ∷ []) true cut) ≡ chose_cut (7 ∷ []) true cut
kept_if_cut = refl

pub pruned_if : map_of (arm true (second ∷ []) (one_op ends) (one_op ends)) (chose (5 ∷ 7 ∷ []) true (leak 1) (leak 2)) ≡ ran (7 ∷ []) (ran (1 ∷ []) (leak 2))
pruned_if = refl

pub pruned_if_cut : map_of (arm true [] cut_part (one_op ends)) (chose_cut [] true cut) ≡ cut
pruned_if_cut = refl

pub kept_while :
    map_of (stays_while (one_op ends) (Same ∷ []) second (one_op ends) (one_op ends)) (looped (turn (leak 1) (5 ∷ 7 ∷ []) (leak 2) (left (leak 3) (6 ∷ 8 ∷ []))) (leak 4))
    ≡ looped (turn (ran (1 ∷ []) (ran (5 ∷ 7 ∷ []) over)) (7 ∷ []) (leak 2) (left (ran (3 ∷ []) (ran (6 ∷ 8 ∷ []) over)) (8 ∷ []))) (leak 4)
kept_while = refl

pub cut_in_a_prologue : map_of (stays_while cut_part (Same ∷ []) second ends (one_op ends)) (looped_cut (prologue_cut cut)) ≡ looped_cut (prologue_cut cut)
cut_in_a_prologue = refl

pub cut_at_a_test : map_of (stays_while (one_op ends) [] second ends (one_op ends)) (looped_cut (wanted (leak 1) (5 ∷ 7 ∷ []))) ≡ looped_cut (wanted (leak 1) (7 ∷ []))
cut_at_a_test = refl

pub cut_in_a_body : map_of (stays_while (one_op ends) [] second cut_part (one_op ends)) (looped_cut (body_cut (leak 1) (5 ∷ 7 ∷ []) cut)) ≡ looped_cut (body_cut (leak 1) (7 ∷ []) cut)
cut_in_a_body = refl

pub pruned_while : map_of (once (one_op ends) (second ∷ []) (one_op ends)) (looped (left (leak 1) (5 ∷ 7 ∷ [])) (leak 2)) ≡ ran (1 ∷ []) (ran (7 ∷ []) (leak 2))
pruned_while = refl

pub pruned_while_cut : map_of (once cut_part (second ∷ []) (one_op ends)) (looped_cut (prologue_cut cut)) ≡ cut
pruned_while_cut = refl

pub kept_for : map_of (stays_for (ops (second ∷ []) ends) (one_op ends)) (each (round (ran (1 ∷ 2 ∷ []) over) (round (ran (3 ∷ 4 ∷ []) over) no_round)) (leak 5)) ≡ each (round (leak 2) (round (leak 4) no_round)) (leak 5)
kept_for = refl

pub kept_for_cut : map_of (stays_for cut_part (one_op ends)) (each_cut (round_cut cut)) ≡ each_cut (round_cut cut)
kept_for_cut = refl

pub unrolled_for : map_of (unrolled (more (one_op ends) (more (ops [] ends) none)) (one_op ends)) (each (round (leak 1) (round (leak 2) no_round)) (leak 5)) ≡ ran (1 ∷ []) (leak 5)
unrolled_for = refl

pub unrolled_for_cut : map_of (unrolled (more (one_op ends) (more cut_part (more (one_op ends) none))) (one_op ends)) (each_cut (round (leak 1) (round_cut cut))) ≡ ran (1 ∷ []) cut
unrolled_for_cut = refl

pub opened_call : map_of (opened (Same ∷ []) (one_op ends) (second ∷ []) (one_op ends)) (called (1 ∷ []) (leak 2) (3 ∷ 4 ∷ []) (leak 5)) ≡ ran (1 ∷ []) (ran (2 ∷ []) (ran (4 ∷ []) (leak 5)))
opened_call = refl

pub opened_call_cut : map_of (opened (Same ∷ []) cut_part (second ∷ []) (one_op ends)) (called_cut (1 ∷ []) cut) ≡ ran (1 ∷ []) cut
opened_call_cut = refl
