-- The leak of a run, as it is shown.
use Rattle.std.specs.Prelude.{◌≡◌, ℕ, List, [], ◌∷◌, true, false}
use Rattle.jz_leak.specs.declared.event.Event.{Event}
use Rattle.jz_leak.specs.declared.leak.Leak.{Leak as ShownLeak}
use Rattle.jz_leak.specs.declared.leak.Item.{Item}
use Rattle.jz_leak.specs.declared.leak.Item.TheVariants as item
use Rattle.jz_leak.specs.declared.leak.Turn.{Turn}
use Rattle.jz_leak.specs.declared.transformer.Transformer.{Transformer}
use Rattle.jz_leak.specs.RunLeaks.{Leak, over, ran, chose, chose_cut, looped, looped_cut, each, each_cut, called, called_cut, Turns, left, turn, prologue_cut, wanted, body_cut, Rounds, no_round, round, round_cut}
use Rattle.jz_leak.specs.Applying.{apply_of, Fits}

-- Each enclosing list ends with the item that holds the cut. Parts that were not reached are empty,
-- an answer that was not reached is false, and the turn that was wanted has a body that is cut at
-- once.
abbrev mutual
  pub items_of : Leak → List Item
  items_of over = []
  items_of (ran ns l) = item.Op ns ∷ items_of l
  items_of (chose ns z a l) = item.If ns z (record { items = items_of a }) ∷ items_of l
  items_of (chose_cut ns z a) = item.If ns z (record { items = items_of a }) ∷ []
  items_of (looped ts l) = item.While (turns_of ts) ∷ items_of l
  items_of (looped_cut ts) = item.While (turns_of ts) ∷ []
  items_of (each rs l) = item.For (rounds_of rs) ∷ items_of l
  items_of (each_cut rs) = item.For (rounds_of rs) ∷ []
  items_of (called ns b ms l) = item.Call ns (record { items = items_of b }) ms ∷ items_of l
  items_of (called_cut ns b) = item.Call ns (record { items = items_of b }) [] ∷ []

  pub turns_of : Turns → List Turn
  turns_of (left p ns) =
      record {
        prologue = record { items = items_of p };
        numbers = ns;
        more = false;
        body = record { items = [] };
      }
      ∷ []
  turns_of (turn p ns b ts) =
      record {
        prologue = record { items = items_of p };
        numbers = ns;
        more = true;
        body = record { items = items_of b };
      }
      ∷ turns_of ts
  turns_of (prologue_cut p) =
      record {
        prologue = record { items = items_of p };
        numbers = [];
        more = false;
        body = record { items = [] };
      }
      ∷ []
  turns_of (wanted p ns) =
      record {
        prologue = record { items = items_of p };
        numbers = ns;
        more = true;
        body = record { items = item.Cut ∷ [] };
      }
      ∷ []
  turns_of (body_cut p ns b) =
      record {
        prologue = record { items = items_of p };
        numbers = ns;
        more = true;
        body = record { items = items_of b };
      }
      ∷ []

  pub rounds_of : Rounds → List ShownLeak
  rounds_of no_round = []
  rounds_of (round a rs) = record { items = items_of a } ∷ rounds_of rs
  rounds_of (round_cut a) = record { items = items_of a } ∷ []

-- the leak as it is shown
abbrev pub shown_of : Leak → ShownLeak
shown_of l = record { items = items_of l }

-- what is shown is a leak that fits the transformer
abbrev pub ShowsFitting : Transformer → ShownLeak → Type 0
ShowsFitting tr shown = (l : Leak) × (shown_of l ≡ shown) × Fits tr l

-- where what is shown is a leak that fits the transformer, these are the events that it gives of it
abbrev pub AreEventsOf : Transformer → ShownLeak → ℕ → List Event → Type 0
AreEventsOf tr shown rsp0 events =
    (l : Leak) → shown_of l ≡ shown → Fits tr l → events ≡ apply_of tr l rsp0
