-- The view of items shows what `items_of` does.
use Rattle.std.proofs.Common.{◌≡◌, List, [], ◌∷◌, true, false, refl, ap, ap₂}
use Rattle.jz_leak.specs.declared.leak.Leak.{Leak as ShownLeak}
use Rattle.jz_leak.specs.declared.leak.Item.{Item}
use Rattle.jz_leak.specs.declared.leak.Item.TheVariants as item
use Rattle.jz_leak.specs.declared.leak.Turn.{Turn}
use Rattle.jz_leak.specs.RunLeaks.{Leak, over, ran, chose, chose_cut, looped, looped_cut, each, each_cut, called, called_cut, Turns, left, turn, prologue_cut, wanted, body_cut, Rounds, no_round, round, round_cut}
use Rattle.jz_leak.specs.Shown.{items_of, turns_of, rounds_of}
use Rattle.jz_runs.specs.Views.{leak_view, turns_view, rounds_view, leak_of, turn_of, items_view}

mutual
  pub items_so : (l : Leak) → leak_view items_view l ≡ items_of l
  items_so over = refl
  items_so (ran ns l) = ap (λ is. item.Op ns ∷ is) (items_so l)
  items_so (chose ns z a l) = ap₂ (λ is js. item.If ns z (leak_of is) ∷ js) (items_so a) (items_so l)
  items_so (chose_cut ns z a) = ap (λ is. item.If ns z (leak_of is) ∷ []) (items_so a)
  items_so (looped ts l) = ap₂ (λ xs js. item.While xs ∷ js) (turns_so ts) (items_so l)
  items_so (looped_cut ts) = ap (λ xs. item.While xs ∷ []) (turns_so ts)
  items_so (each rs l) = ap₂ (λ xs js. item.For xs ∷ js) (rounds_so rs) (items_so l)
  items_so (each_cut rs) = ap (λ xs. item.For xs ∷ []) (rounds_so rs)
  items_so (called ns b ms l) = ap₂ (λ is js. item.Call ns (leak_of is) ms ∷ js) (items_so b) (items_so l)
  items_so (called_cut ns b) = ap (λ is. item.Call ns (leak_of is) [] ∷ []) (items_so b)

  pub turns_so : (ts : Turns) → turns_view items_view ts ≡ turns_of ts
  turns_so (left p ns) = ap (λ is. turn_of is ns false [] ∷ []) (items_so p)
  turns_so (turn p ns b ts) = ap₂ (λ x xs. x ∷ xs) (ap₂ (λ is js. turn_of is ns true js) (items_so p) (items_so b)) (turns_so ts)
  turns_so (prologue_cut p) = ap (λ is. turn_of is [] false [] ∷ []) (items_so p)
  turns_so (wanted p ns) = ap (λ is. turn_of is ns true (item.Cut ∷ []) ∷ []) (items_so p)
  turns_so (body_cut p ns b) = ap₂ (λ is js. turn_of is ns true js ∷ []) (items_so p) (items_so b)

  pub rounds_so : (rs : Rounds) → rounds_view items_view rs ≡ rounds_of rs
  rounds_so no_round = refl
  rounds_so (round a rs) = ap₂ (λ is ls. leak_of is ∷ ls) (items_so a) (rounds_so rs)
  rounds_so (round_cut a) = ap (λ is. leak_of is ∷ []) (items_so a)
