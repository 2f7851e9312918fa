-- The walk of each kind of item, and what the loops of a walk keep.
use Rattle.std.proofs.Common.{◌≡◌, ℕ, Bool, List, ◌++◌, sym, ap, ◌∙◌}
use Rattle.std.specs.Prelude.{map}
use Rattle.jz_leak.specs.declared.event.Event.{Event}
use Rattle.jz_leak.specs.declared.transformer.Tr.{Tr}
use Rattle.jz_leak.specs.declared.transformer.Case.{Case}
use Rattle.jz_leak.specs.declared.transformer.Case.TheViews.{out-Case}
use Rattle.jz_leak.specs.declared.leak.Leak.{Leak}
use Rattle.jz_leak.specs.declared.leak.Item.{Item}
use Rattle.jz_leak.specs.declared.leak.Turn.{Turn}
use Rattle.jz_leak.specs.declared.leak.Item.TheVariants as item
use Rattle.jz_leak.specs.declared.leak.Item.TheOpen.{Item-F}
use Rattle.jz_leak.specs.declared.leak.Item.TheFolds.{fold-roll-Item, fold-roll-Leak, fold-roll-Turn}
use Rattle.jz_leak.specs.Applying.{Loop}
use Rattle.jz_leak.specs.InnerWalks.{Walk, layer_walk, item_step, leak_step, turn_step, item_walk, leak_walk, turn_walk, walk_in_step}

-- the events so far and those of the rest are those of before and all of them
pub record Continues (old now : List Event) (rest all : Walk) : Type 0 where
  pub events : now ++ rest.events ≡ old ++ all.events
  pub reached : rest.reach ≡ all.reach

-- ---- each kind of item
pub op_walk : (rsp0 : ℕ) (ns : List ℕ) (c : Case) → item_walk rsp0 (item.Op ns) c ≡ layer_walk rsp0 (Item-F.Op ns) (out-Case c)
op_walk rsp0 ns c = ap (λ i. item_walk rsp0 i c) (sym (item.rolls-Op ns)) ∙ ap (λ f. f c) (fold-roll-Item _ _ _ (item_step rsp0) (leak_step rsp0) (turn_step rsp0) (Item-F.Op ns))

pub if_walk : (rsp0 : ℕ) (ns : List ℕ) (z : Bool) (arm : Leak) (c : Case) → item_walk rsp0 (item.If ns z arm) c ≡ layer_walk rsp0 (Item-F.If ns z (leak_walk rsp0 arm)) (out-Case c)
if_walk rsp0 ns z arm c = ap (λ i. item_walk rsp0 i c) (sym (item.rolls-If ns z arm)) ∙ ap (λ f. f c) (fold-roll-Item _ _ _ (item_step rsp0) (leak_step rsp0) (turn_step rsp0) (Item-F.If ns z arm))

pub while_walk : (rsp0 : ℕ) (turns : List Turn) (c : Case) → item_walk rsp0 (item.While turns) c ≡ layer_walk rsp0 (Item-F.While (map (turn_walk rsp0) turns)) (out-Case c)
while_walk rsp0 turns c = ap (λ i. item_walk rsp0 i c) (sym (item.rolls-While turns)) ∙ ap (λ f. f c) (fold-roll-Item _ _ _ (item_step rsp0) (leak_step rsp0) (turn_step rsp0) (Item-F.While turns))

pub for_walk : (rsp0 : ℕ) (rounds : List Leak) (c : Case) → item_walk rsp0 (item.For rounds) c ≡ layer_walk rsp0 (Item-F.For (map (leak_walk rsp0) rounds)) (out-Case c)
for_walk rsp0 rounds c = ap (λ i. item_walk rsp0 i c) (sym (item.rolls-For rounds)) ∙ ap (λ f. f c) (fold-roll-Item _ _ _ (item_step rsp0) (leak_step rsp0) (turn_step rsp0) (Item-F.For rounds))

pub call_walk : (rsp0 : ℕ) (ns : List ℕ) (callee : Leak) (ms : List ℕ) (c : Case) → item_walk rsp0 (item.Call ns callee ms) c ≡ layer_walk rsp0 (Item-F.Call ns (leak_walk rsp0 callee) ms) (out-Case c)
call_walk rsp0 ns callee ms c = ap (λ i. item_walk rsp0 i c) (sym (item.rolls-Call ns callee ms)) ∙ ap (λ f. f c) (fold-roll-Item _ _ _ (item_step rsp0) (leak_step rsp0) (turn_step rsp0) (Item-F.Call ns callee ms))

pub leak_walk_is : (rsp0 : ℕ) (is : List Item) (t : Tr) → leak_walk rsp0 (record { items = is }) t ≡ walk_in_step (map (item_walk rsp0) is) t.cases
leak_walk_is rsp0 is t = ap (λ f. f t) (fold-roll-Leak _ _ _ (item_step rsp0) (leak_step rsp0) (turn_step rsp0) (record { items = is }))

pub turn_walk_is : (rsp0 : ℕ) (t : Turn) (loop : Loop)
    → turn_walk rsp0 t loop ≡ turn_step rsp0 (record { prologue = leak_walk rsp0 t.prologue; numbers = t.numbers; more = t.more; body = leak_walk rsp0 t.body }) loop
turn_walk_is rsp0 t loop = ap (λ f. f loop) (fold-roll-Turn _ _ _ (item_step rsp0) (leak_step rsp0) (turn_step rsp0) (record { prologue = t.prologue; numbers = t.numbers; more = t.more; body = t.body }))
