-- A leak and a transformer that are walked in step. At a cut, or where a case is missing or of
-- another kind, the walk stops. Private contracts alone cite what stands here.
use Rattle.std.specs.Prelude.{◌≡◌, ℕ, Bool, if◌then◌else◌, List, [], ◌∷◌, ◌++◌, map}
use Rattle.jz_leak.specs.declared.event.Event.{Event}
use Rattle.jz_leak.specs.declared.transformer.Out.{Out}
use Rattle.jz_leak.specs.declared.transformer.Tr.{Tr}
use Rattle.jz_leak.specs.declared.transformer.Case.{Case}
use Rattle.jz_leak.specs.declared.transformer.Case.TheOpen.{Case-F}
use Rattle.jz_leak.specs.declared.transformer.Case.TheViews.{out-Case}
use Rattle.jz_leak.specs.declared.leak.Leak.{Leak}
use Rattle.jz_leak.specs.declared.leak.Item.{Item}
use Rattle.jz_leak.specs.declared.leak.Turn.{Turn}
use Rattle.jz_leak.specs.declared.leak.Item.TheOpen.{Item-F, Leak-F, Turn-F}
use Rattle.jz_leak.specs.declared.leak.Item.TheFolds.{fold-Item, fold-Leak, fold-Turn}
use Rattle.jz_leak.specs.declared.walk.LoopParts.{LoopParts}
use Rattle.jz_leak.specs.declared.walk.Reach.{Reach}
use Rattle.jz_leak.specs.declared.walk.Reach.TheVariants.{End, Stop}
use Rattle.jz_leak.specs.Applying.{Layer, Loop, events_for}

-- the events of a walk, and how far it came
pub record Walk : Type 0 where
  pub events : List Event
  pub reach : Reach

-- nothing is left to walk
abbrev pub done : Walk
done = record { events = []; reach = End }

-- nothing was shown, and nothing follows
abbrev pub stopped_walk : Walk
stopped_walk = record { events = []; reach = Stop }

-- a list of events
abbrev pub shown_walk : List Event → Walk
shown_walk es = record { events = es; reach = End }

-- what is left of a walk behind one that came so far
abbrev pub behind : Reach → Walk → Walk
behind End w = w
behind Stop w = stopped_walk

infixr 5 ◌▹◌
-- one walk behind another
abbrev pub ◌▹◌ : Walk → Walk → Walk
a ▹ b = record { events = a.events ++ (behind a.reach b).events; reach = (behind a.reach b).reach }

-- items and their cases, or rounds and their trees, one after another
abbrev pub walk_in_step : {A : Type 0} → List (A → Walk) → List A → Walk
walk_in_step [] xs = done
walk_in_step (f ∷ fs) [] = stopped_walk
walk_in_step (f ∷ fs) (x ∷ xs) = f x ▹ walk_in_step fs xs

-- one turn after another, each with the same parts
abbrev pub turns_walk : List (Loop → Walk) → Loop → Walk
turns_walk [] loop = done
turns_walk (f ∷ fs) loop = f loop ▹ turns_walk fs loop

module _ (rsp0 : ℕ) where
  -- one item with its case
  abbrev pub layer_walk : Item-F (Case → Walk) (Tr → Walk) (Loop → Walk) → Layer → Walk
  layer_walk (Item-F.Op ns) (Case-F.Op outs) = shown_walk (events_for ns rsp0 outs)
  layer_walk (Item-F.If ns answer arm) (Case-F.If test then_outs then_tr else_outs else_tr) =
      shown_walk (events_for ns rsp0 test)
      ▹ (if answer then shown_walk (events_for ns rsp0 then_outs) ▹ arm then_tr
      else (shown_walk (events_for ns rsp0 else_outs) ▹ arm else_tr))
  layer_walk (Item-F.While turns) (Case-F.While prologue test more_outs body leave_outs) =
      turns_walk turns
      (record {
        prologue = prologue;
        test = test;
        more_outs = more_outs;
        body = body;
        leave_outs = leave_outs;
      })
  layer_walk (Item-F.For rounds) (Case-F.For trs) = walk_in_step rounds trs
  layer_walk (Item-F.Call ns callee ms) (Case-F.Call arguments body results) =
      (shown_walk (events_for ns rsp0 arguments) ▹ callee body)
      ▹ shown_walk (events_for ms rsp0 results)
  layer_walk _ _ = stopped_walk

  abbrev pub item_step : Item-F (Case → Walk) (Tr → Walk) (Loop → Walk) → Case → Walk
  item_step i c = layer_walk i (out-Case c)

  abbrev pub leak_step : Leak-F (Case → Walk) (Tr → Walk) (Loop → Walk) → Tr → Walk
  leak_step l t = walk_in_step l.items t.cases

  abbrev pub turn_step : Turn-F (Case → Walk) (Tr → Walk) (Loop → Walk) → Loop → Walk
  turn_step t loop =
      t.prologue loop.prologue
      ▹ (shown_walk (events_for t.numbers rsp0 loop.test)
      ▹ (if t.more then shown_walk (events_for t.numbers rsp0 loop.more_outs) ▹ t.body loop.body
      else shown_walk (events_for t.numbers rsp0 loop.leave_outs)))

  abbrev pub item_walk : Item → Case → Walk
  item_walk = fold-Item _ _ _ item_step leak_step turn_step

  abbrev pub leak_walk : Leak → Tr → Walk
  leak_walk = fold-Leak _ _ _ item_step leak_step turn_step

  abbrev pub turn_walk : Turn → Loop → Walk
  turn_walk = fold-Turn _ _ _ item_step leak_step turn_step

  -- the events of a list, and then those of a leak
  abbrev pub arm_walk : List ℕ → List Out → Leak → Tr → Walk
  arm_walk ns outs l t = shown_walk (events_for ns rsp0 outs) ▹ leak_walk l t

  -- an `if`, by its numbers, its answer and the leak of its arm
  abbrev pub choice_walk : List ℕ → Bool → Leak → Case → Walk
  choice_walk ns answer arm c = layer_walk (Item-F.If ns answer (leak_walk arm)) (out-Case c)

  -- a `while`, by its turns
  abbrev pub loop_walk : List Turn → Case → Walk
  loop_walk turns c = layer_walk (Item-F.While (map turn_walk turns)) (out-Case c)

  -- the turns of a `while`, each by the same parts
  abbrev pub while_walk : List Turn → Loop → Walk
  while_walk turns loop = turns_walk (map turn_walk turns) loop

  -- the rounds of a `for`, each by its own tree
  abbrev pub rounds_walk : List Leak → List Tr → Walk
  rounds_walk rounds trs = walk_in_step (map leak_walk rounds) trs

  -- a call, by the numbers of its arguments, the leak of the callee and the numbers of its left
  -- sides
  abbrev pub call_walk : List ℕ → Leak → List ℕ → Case → Walk
  call_walk ns callee ms c = layer_walk (Item-F.Call ns (leak_walk callee) ms) (out-Case c)

-- the parts that a walk over turns is given
abbrev pub loop_of : LoopParts → Loop
loop_of parts = record {
  prologue = parts.prologue.now;
  test = parts.test.now;
  more_outs = parts.more_outs.now;
  body = parts.body.now;
  leave_outs = parts.leave_outs.now;
}

-- the walk's events were put behind those that were there, and it came so far
pub record Adds (old new : List Event) (w : Walk) (reach : Reach) : Type 0 where
  pub events : new ≡ old ++ w.events
  pub reached : reach ≡ w.reach
