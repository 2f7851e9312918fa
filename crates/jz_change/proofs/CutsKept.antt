-- What a change gives is cut where the leak is.
use Rattle.std.proofs.Common.{◌≡◌, ℕ, Bool, true, false, List, [], ◌∷◌, refl, ap, ◌∙◌}
use Rattle.std.specs.Prelude.{if◌then◌else◌}
use Rattle.jz_leak.specs.RunLeaks.{Leak, over, Turns, Rounds}
use Rattle.jz_leak.specs.Applying.{is_cut, is_cut_in_turns, is_cut_in_rounds}
use Rattle.jz_change.specs.declared.change.Numbers.{Numbers}
use Rattle.jz_change.specs.Changes.{Change, Changes, operations, map_before, map_once, map_rounds, map_of}
use Rattle.jz_change.specs.Fitting.{LeakFits, fits_over, fits_ran, fits_if, fits_if_cut, fits_arm, fits_arm_cut, fits_while, fits_while_cut, fits_once, fits_once_cut, fits_for, fits_for_cut, fits_unrolled, fits_unrolled_cut, fits_opened, fits_opened_cut, LeakOnceFits, once_left, once_cut, LeakRoundsFit, own_none, own_round, own_cut}

operations_cut : (is : List Numbers) (ns : List ℕ) (k : Leak) → is_cut (operations is ns k) ≡ is_cut k
operations_cut [] ns k = refl
operations_cut (i ∷ is) ns k = operations_cut is ns k

-- the cut of one part or of another
abbrev or_cut : Bool → Bool → Bool
or_cut z y = if z then true else y

mutual
  cut_kept : {l : Leak} {a : Change} → LeakFits l a → (k : Leak) → is_cut (map_before l a k) ≡ or_cut (is_cut l) (is_cut k)
  cut_kept fits_over k = refl
  cut_kept (fits_ran {ns} {is} g f) k = operations_cut is ns _ ∙ cut_kept f k
  cut_kept (fits_if {ns} {pre} g u w f f2) k = operations_cut pre ns _ ∙ cut_kept f2 k
  cut_kept (fits_if_cut {ns} {pre} g u w f) k = operations_cut pre ns _
  cut_kept (fits_arm {ns} {l} {pre} {r} g w f f2) k = operations_cut pre ns _ ∙ cut_kept f (map_before l r k) ∙ ap (λ z. or_cut z (is_cut (map_before l r k))) w ∙ cut_kept f2 k
  cut_kept (fits_arm_cut {ns} {pre} g w f) k = operations_cut pre ns _ ∙ cut_kept f over ∙ ap (λ z. or_cut z false) w
  cut_kept (fits_while w f f2) k = cut_kept f2 k
  cut_kept (fits_while_cut w f) k = refl
  cut_kept (fits_once {l} {r} w o f2) k = once_kept o (map_before l r k) ∙ ap (λ z. or_cut z (is_cut (map_before l r k))) w ∙ cut_kept f2 k
  cut_kept (fits_once_cut w o) k = once_kept o over ∙ ap (λ z. or_cut z false) w
  cut_kept (fits_for w f f2) k = cut_kept f2 k
  cut_kept (fits_for_cut w f) k = refl
  cut_kept (fits_unrolled {l} {r} w f f2) k = rounds_kept f (map_before l r k) ∙ ap (λ z. or_cut z (is_cut (map_before l r k))) w ∙ cut_kept f2 k
  cut_kept (fits_unrolled_cut w f) k = rounds_kept f over ∙ ap (λ z. or_cut z false) w
  cut_kept (fits_opened {ns} {ms} {l} {xs} {ys} {r} g w f g2 f2) k =
      operations_cut xs ns _ ∙ cut_kept f (operations ys ms (map_before l r k)) ∙ ap (λ z. or_cut z (is_cut (operations ys ms (map_before l r k)))) w ∙ operations_cut ys ms _ ∙ cut_kept f2 k
  cut_kept (fits_opened_cut {ns} {xs} g w f) k = operations_cut xs ns _ ∙ cut_kept f over ∙ ap (λ z. or_cut z false) w

  once_kept : {ts : Turns} {tp : Change} {pre : List Numbers} → LeakOnceFits ts tp pre → (k : Leak) → is_cut (map_once ts tp pre k) ≡ or_cut (is_cut_in_turns ts) (is_cut k)
  once_kept (once_left {ns} {pre} g w f) k = cut_kept f (operations pre ns k) ∙ ap (λ z. or_cut z (is_cut (operations pre ns k))) w ∙ operations_cut pre ns k
  once_kept (once_cut w f) k = cut_kept f over ∙ ap (λ z. or_cut z false) w

  rounds_kept : {rs : Rounds} {ts : Changes} → LeakRoundsFit rs ts → (k : Leak) → is_cut (map_rounds rs ts k) ≡ or_cut (is_cut_in_rounds rs) (is_cut k)
  rounds_kept own_none k = refl
  rounds_kept (own_round {rs} {ts} w f f2) k = cut_kept f (map_rounds rs ts k) ∙ ap (λ z. or_cut z (is_cut (map_rounds rs ts k))) w ∙ rounds_kept f2 k
  rounds_kept (own_cut w f) k = cut_kept f over ∙ ap (λ z. or_cut z false) w

cut_alone : (z : Bool) → or_cut z false ≡ z
cut_alone true = refl
cut_alone false = refl

pub map_cut : {l : Leak} {a : Change} → LeakFits l a → is_cut (map_of a l) ≡ is_cut l
map_cut {l} f = cut_kept f over ∙ cut_alone (is_cut l)
