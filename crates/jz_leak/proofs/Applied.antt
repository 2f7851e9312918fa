-- The walk over what is shown of a leak that fits a transformer is what the transformer makes of the leak.
use Rattle.std.proofs.Common.{◌≡◌, ℕ, Bool, true, false, if◌then◌else◌, List, [], ◌∷◌, ◌++◌, refl, sym, ap, ◌∙◌, append_assoc, append-nil}
use Rattle.std.specs.Prelude.{map}
use Rattle.jz_leak.specs.declared.event.Event.{Event}
use Rattle.jz_leak.specs.declared.transformer.Tr.{Tr}
use Rattle.jz_leak.specs.declared.transformer.Transformer.{Transformer}
use Rattle.jz_leak.specs.declared.transformer.Case.{Case}
use Rattle.jz_leak.specs.declared.transformer.Case.TheOpen.{Case-F}
use Rattle.jz_leak.specs.declared.transformer.Case.TheViews.{out-Case, out-roll-Case}
use Rattle.jz_leak.specs.declared.transformer.Case.TheVariants as case
use Rattle.jz_leak.specs.declared.leak.Leak.{Leak as ShownLeak}
use Rattle.jz_leak.specs.declared.leak.Item.{Item}
use Rattle.jz_leak.specs.declared.leak.Item.TheVariants as item
use Rattle.jz_leak.specs.declared.leak.Item.TheOpen.{Item-F}
use Rattle.jz_leak.specs.declared.leak.Item.TheFolds.{fold-roll-Item}
use Rattle.jz_leak.specs.declared.walk.Reach.{Reach}
use Rattle.jz_leak.specs.declared.walk.Reach.TheVariants.{End, Stop}
use Rattle.jz_leak.specs.RunLeaks.{Leak, over, ran, chose, chose_cut, looped, looped_cut, each, each_cut, called, called_cut, Turns, left, turn, prologue_cut, wanted, body_cut, Rounds, no_round, round, round_cut}
use Rattle.jz_leak.specs.Applying.{Layer, Loop, events_for, is_cut, is_cut_in_turns, is_cut_in_rounds, op_events, if_events, while_events, for_events, call_events, begun_call_events, body_events, turns_events, rounds_events, apply_of, OpFits, IfFits, WhileFits, ForFits, CallFits, BegunCallFits, CasesFit, TurnsFit, RoundsFit, Fits}
use Rattle.jz_leak.specs.Shown.{items_of, turns_of, rounds_of, shown_of}
use Rattle.jz_leak.specs.InnerWalks.{Walk, done, stopped_walk, shown_walk, ◌▹◌, Adds, layer_walk, item_step, leak_step, turn_step, item_walk, leak_walk, turn_walk, walk_in_step, turns_walk}
use Rattle.jz_leak.proofs.Walking.{op_walk, if_walk, while_walk, for_walk, call_walk, leak_walk_is, turn_walk_is}

-- how far a walk comes
abbrev pub came : Bool → Reach
came true = Stop
came false = End

abbrev pub made : List Event → Bool → Walk
made es z = record { events = es; reach = came z }

-- ---- one walk behind another
abbrev stretch : Reach → List Event → Walk
stretch r es = record { events = es; reach = r }

same_events : (xs ys : List Event) (r : Reach) → xs ≡ ys → stretch r xs ≡ stretch r ys
same_events xs ys r e = ap (stretch r) e

then_made : (a b : Walk) (es fs : List Event) (z : Bool) → a ≡ made es false → b ≡ made fs z → a ▹ b ≡ made (es ++ fs) z
then_made a b es fs z p q = ap (λ x. x ▹ b) p ∙ ap (λ y. made es false ▹ y) q

-- nothing stands behind a cut
last_made : (a : Walk) (es : List Event) → a ≡ made es true → a ▹ done ≡ made es true
last_made a es p = ap (λ x. x ▹ done) p ∙ same_events (es ++ []) es Stop (append-nil es)

-- ---- each kind of item, by the layer of its case
op_made : (rsp0 : ℕ) (ns : List ℕ) (c : Case) → OpFits ns c → layer_walk rsp0 (Item-F.Op ns) (out-Case c) ≡ made (op_events rsp0 ns c) false
op_made rsp0 ns (case.Op outs) h = ap (layer_walk rsp0 (Item-F.Op ns)) (ap out-Case (sym (case.rolls-Op outs)) ∙ out-roll-Case (Case-F.Op outs))
op_made rsp0 ns _ h = absurd h

if_made : (rsp0 : ℕ) (ns : List ℕ) (z : Bool) (arm : Tr → Walk) (ArmFits : List Case → Type 0) (events : List Case → List Event) (cut : Bool) (c : Layer)
    → ((t : Tr) → ArmFits t.cases → arm t ≡ made (events t.cases) cut) → IfFits ns z ArmFits c
    → layer_walk rsp0 (Item-F.If ns z arm) c ≡ made (if_events rsp0 ns z events c) cut
if_made rsp0 ns true arm ArmFits events cut (Case-F.If test then_outs then_tr else_outs else_tr) known h =
    ap (λ w. shown_walk (events_for ns rsp0 test) ▹ (shown_walk (events_for ns rsp0 then_outs) ▹ w)) (known then_tr h.3)
if_made rsp0 ns false arm ArmFits events cut (Case-F.If test then_outs then_tr else_outs else_tr) known h =
    ap (λ w. shown_walk (events_for ns rsp0 test) ▹ (shown_walk (events_for ns rsp0 else_outs) ▹ w)) (known else_tr h.3)
if_made rsp0 ns z arm ArmFits events cut _ known h = absurd h

while_made : (rsp0 : ℕ) (turns : List (Loop → Walk)) (AllFit : Loop → Type 0) (events : Loop → List Event) (cut : Bool) (c : Layer)
    → ((loop : Loop) → AllFit loop → turns_walk turns loop ≡ made (events loop) cut) → WhileFits AllFit c
    → layer_walk rsp0 (Item-F.While turns) c ≡ made (while_events events c) cut
while_made rsp0 turns AllFit events cut (Case-F.While prologue test more_outs body leave_outs) known h = known _ h
while_made rsp0 turns AllFit events cut _ known h = absurd h

for_made : (rsp0 : ℕ) (rounds : List (Tr → Walk)) (AllFit : List Tr → Type 0) (events : List Tr → List Event) (cut : Bool) (c : Layer)
    → ((trs : List Tr) → AllFit trs → walk_in_step rounds trs ≡ made (events trs) cut) → ForFits AllFit c
    → layer_walk rsp0 (Item-F.For rounds) c ≡ made (for_events events c) cut
for_made rsp0 rounds AllFit events cut (Case-F.For trs) known h = known trs h
for_made rsp0 rounds AllFit events cut _ known h = absurd h

call_made : (rsp0 : ℕ) (ns ms : List ℕ) (callee : Tr → Walk) (CalleeFits : List Case → Type 0) (events : List Case → List Event) (c : Layer)
    → ((t : Tr) → CalleeFits t.cases → callee t ≡ made (events t.cases) false) → CallFits ns ms CalleeFits c
    → layer_walk rsp0 (Item-F.Call ns callee ms) c ≡ made (call_events rsp0 ns ms events c) false
call_made rsp0 ns ms callee CalleeFits events (Case-F.Call arguments body results) known h =
    ap (λ w. (shown_walk (events_for ns rsp0 arguments) ▹ w) ▹ shown_walk (events_for ms rsp0 results)) (known body h.1)
call_made rsp0 ns ms callee CalleeFits events _ known h = absurd h

begun_call_made : (rsp0 : ℕ) (ns : List ℕ) (callee : Tr → Walk) (CalleeFits : List Case → Type 0) (events : List Case → List Event) (c : Layer)
    → ((t : Tr) → CalleeFits t.cases → callee t ≡ made (events t.cases) true) → BegunCallFits ns CalleeFits c
    → layer_walk rsp0 (Item-F.Call ns callee []) c ≡ made (begun_call_events rsp0 ns events c) true
begun_call_made rsp0 ns callee CalleeFits events (Case-F.Call arguments body results) known h =
    ap (λ w. (shown_walk (events_for ns rsp0 arguments) ▹ w) ▹ shown_walk (events_for [] rsp0 results)) (known body h.1)
    ∙ same_events _ _ Stop (append-nil (events_for ns rsp0 arguments ++ events body.cases))
begun_call_made rsp0 ns callee CalleeFits events _ known h = absurd h

-- ---- a turn
-- the walk of a turn, by those of its prologue and its body
turn_parts : (rsp0 : ℕ) (p b : List Item) (ns : List ℕ) (z : Bool) (loop : Loop) (v w : Walk)
    → leak_walk rsp0 (record { items = p }) loop.prologue ≡ v → leak_walk rsp0 (record { items = b }) loop.body ≡ w
    → turn_walk rsp0 (record { prologue = record { items = p }; numbers = ns; more = z; body = record { items = b } }) loop
    ≡ v ▹ (shown_walk (events_for ns rsp0 loop.test) ▹ (if z then shown_walk (events_for ns rsp0 loop.more_outs) ▹ w else shown_walk (events_for ns rsp0 loop.leave_outs)))
turn_parts rsp0 p b ns z loop v w e f =
    turn_walk_is rsp0 (record { prologue = record { items = p }; numbers = ns; more = z; body = record { items = b } }) loop
    ∙ ap (λ x. x ▹ (shown_walk (events_for ns rsp0 loop.test) ▹ (if z then shown_walk (events_for ns rsp0 loop.more_outs) ▹ leak_walk rsp0 (record { items = b }) loop.body else shown_walk (events_for ns rsp0 loop.leave_outs)))) e
    ∙ ap (λ y. v ▹ (shown_walk (events_for ns rsp0 loop.test) ▹ (if z then shown_walk (events_for ns rsp0 loop.more_outs) ▹ y else shown_walk (events_for ns rsp0 loop.leave_outs)))) f

cut_at_once : (rsp0 : ℕ) (cs : List Case) → walk_in_step (map (item_walk rsp0) (item.Cut ∷ [])) cs ≡ stopped_walk
cut_at_once rsp0 [] = refl
cut_at_once rsp0 (c ∷ cs) =
    ap (λ w. w ▹ done)
    (ap (λ i. item_walk rsp0 i c) (sym item.rolls-Cut) ∙ ap (λ f. f c) (fold-roll-Item _ _ _ (item_step rsp0) (leak_step rsp0) (turn_step rsp0) Item-F.Cut))

-- ---- lists of events in other brackets
nest : (a t m b : List Event) → a ++ (t ++ (m ++ b)) ≡ ((a ++ t) ++ m) ++ b
nest a t m b = sym (append_assoc a t (m ++ b)) ∙ sym (append_assoc (a ++ t) m b)

-- ---- the law
-- a tree, by its cases
tree_made : (l : Leak) (rsp0 : ℕ) (t : Tr) (z : Bool) → is_cut l ≡ z → walk_in_step (map (item_walk rsp0) (items_of l)) t.cases ≡ made (body_events l rsp0 t.cases) (is_cut l)
    → leak_walk rsp0 (record { items = items_of l }) t ≡ made (body_events l rsp0 t.cases) z
tree_made l rsp0 t z e known = leak_walk_is rsp0 (items_of l) t ∙ known ∙ ap (made (body_events l rsp0 t.cases)) e

mutual
  pub items_applied : (l : Leak) (rsp0 : ℕ) (cs : List Case) → CasesFit l cs → walk_in_step (map (item_walk rsp0) (items_of l)) cs ≡ made (body_events l rsp0 cs) (is_cut l)
  items_applied over rsp0 [] h = refl
  items_applied over rsp0 (c ∷ cs) h = absurd h
  items_applied (ran ns l) rsp0 [] h = absurd h
  items_applied (ran ns l) rsp0 (c ∷ cs) h =
      then_made _ _ _ _ (is_cut l) (op_walk rsp0 ns c ∙ op_made rsp0 ns c h.0) (items_applied l rsp0 cs h.1)
  items_applied (chose ns z a l) rsp0 [] h = absurd h
  items_applied (chose ns z a l) rsp0 (c ∷ cs) h =
      then_made _ _ _ _ (is_cut l)
      (if_walk rsp0 ns z (record { items = items_of a }) c
      ∙ if_made rsp0 ns z _ (CasesFit a) (body_events a rsp0) false (out-Case c) (λ t f. tree_made a rsp0 t false h.0 (items_applied a rsp0 t.cases f)) h.1)
      (items_applied l rsp0 cs h.2)
  items_applied (chose_cut ns z a) rsp0 [] h = absurd h
  items_applied (chose_cut ns z a) rsp0 (c ∷ cs) h =
      last_made _ _
      (if_walk rsp0 ns z (record { items = items_of a }) c
      ∙ if_made rsp0 ns z _ (CasesFit a) (body_events a rsp0) true (out-Case c) (λ t f. tree_made a rsp0 t true h.0 (items_applied a rsp0 t.cases f)) h.1)
  items_applied (looped ts l) rsp0 [] h = absurd h
  items_applied (looped ts l) rsp0 (c ∷ cs) h =
      then_made _ _ _ _ (is_cut l)
      (while_walk rsp0 (turns_of ts) c
      ∙ while_made rsp0 (map (turn_walk rsp0) (turns_of ts)) (TurnsFit ts) (turns_events ts rsp0) false (out-Case c) (λ loop f. turns_applied ts rsp0 loop f ∙ ap (made (turns_events ts rsp0 loop)) h.0) h.1)
      (items_applied l rsp0 cs h.2)
  items_applied (looped_cut ts) rsp0 [] h = absurd h
  items_applied (looped_cut ts) rsp0 (c ∷ cs) h =
      last_made _ _
      (while_walk rsp0 (turns_of ts) c
      ∙ while_made rsp0 (map (turn_walk rsp0) (turns_of ts)) (TurnsFit ts) (turns_events ts rsp0) true (out-Case c) (λ loop f. turns_applied ts rsp0 loop f ∙ ap (made (turns_events ts rsp0 loop)) h.0) h.1)
  items_applied (each rs l) rsp0 [] h = absurd h
  items_applied (each rs l) rsp0 (c ∷ cs) h =
      then_made _ _ _ _ (is_cut l)
      (for_walk rsp0 (rounds_of rs) c
      ∙ for_made rsp0 (map (leak_walk rsp0) (rounds_of rs)) (RoundsFit rs) (rounds_events rs rsp0) false (out-Case c) (λ trs f. rounds_applied rs rsp0 trs f ∙ ap (made (rounds_events rs rsp0 trs)) h.0) h.1)
      (items_applied l rsp0 cs h.2)
  items_applied (each_cut rs) rsp0 [] h = absurd h
  items_applied (each_cut rs) rsp0 (c ∷ cs) h =
      last_made _ _
      (for_walk rsp0 (rounds_of rs) c
      ∙ for_made rsp0 (map (leak_walk rsp0) (rounds_of rs)) (RoundsFit rs) (rounds_events rs rsp0) true (out-Case c) (λ trs f. rounds_applied rs rsp0 trs f ∙ ap (made (rounds_events rs rsp0 trs)) h.0) h.1)
  items_applied (called ns b ms l) rsp0 [] h = absurd h
  items_applied (called ns b ms l) rsp0 (c ∷ cs) h =
      then_made _ _ _ _ (is_cut l)
      (call_walk rsp0 ns (record { items = items_of b }) ms c
      ∙ call_made rsp0 ns ms _ (CasesFit b) (body_events b rsp0) (out-Case c) (λ t f. tree_made b rsp0 t false h.0 (items_applied b rsp0 t.cases f)) h.1)
      (items_applied l rsp0 cs h.2)
  items_applied (called_cut ns b) rsp0 [] h = absurd h
  items_applied (called_cut ns b) rsp0 (c ∷ cs) h =
      last_made _ _
      (call_walk rsp0 ns (record { items = items_of b }) [] c
      ∙ begun_call_made rsp0 ns _ (CasesFit b) (body_events b rsp0) (out-Case c) (λ t f. tree_made b rsp0 t true h.0 (items_applied b rsp0 t.cases f)) h.1)

  turns_applied : (ts : Turns) (rsp0 : ℕ) (loop : Loop) → TurnsFit ts loop → turns_walk (map (turn_walk rsp0) (turns_of ts)) loop ≡ made (turns_events ts rsp0 loop) (is_cut_in_turns ts)
  turns_applied (left p ns) rsp0 loop h =
      ap (λ w. w ▹ done) (turn_parts rsp0 (items_of p) [] ns false loop _ _ (tree_made p rsp0 loop.prologue false h.0 (items_applied p rsp0 loop.prologue.cases h.1.0)) refl)
      ∙ same_events _ _ End (append-nil _ ∙ sym (append_assoc (body_events p rsp0 loop.prologue.cases) (events_for ns rsp0 loop.test) (events_for ns rsp0 loop.leave_outs)))
  turns_applied (turn p ns b ts) rsp0 loop h =
      ap (λ w. w ▹ turns_walk (map (turn_walk rsp0) (turns_of ts)) loop)
      (turn_parts rsp0 (items_of p) (items_of b) ns true loop _ _ (tree_made p rsp0 loop.prologue false h.0 (items_applied p rsp0 loop.prologue.cases h.1.0)) (tree_made b rsp0 loop.body false h.2 (items_applied b rsp0 loop.body.cases h.3)))
      ∙ then_made _ _ _ _ (is_cut_in_turns ts) refl (turns_applied ts rsp0 loop h.4)
      ∙ same_events _ _ (came (is_cut_in_turns ts)) (ap (λ x. x ++ turns_events ts rsp0 loop) (nest (body_events p rsp0 loop.prologue.cases) (events_for ns rsp0 loop.test) (events_for ns rsp0 loop.more_outs) (body_events b rsp0 loop.body.cases)))
  turns_applied (prologue_cut p) rsp0 loop h =
      ap (λ w. w ▹ done) (turn_parts rsp0 (items_of p) [] [] false loop _ _ (tree_made p rsp0 loop.prologue true h.0 (items_applied p rsp0 loop.prologue.cases h.1)) refl)
      ∙ same_events _ _ Stop (append-nil _ ∙ append-nil _)
  turns_applied (wanted p ns) rsp0 loop h =
      ap (λ w. w ▹ done)
      (turn_parts rsp0 (items_of p) (item.Cut ∷ []) ns true loop _ _ (tree_made p rsp0 loop.prologue false h.0 (items_applied p rsp0 loop.prologue.cases h.1.0))
      (leak_walk_is rsp0 (item.Cut ∷ []) loop.body ∙ cut_at_once rsp0 loop.body.cases))
      ∙ same_events _ _ Stop (append-nil _ ∙ ap (λ x. body_events p rsp0 loop.prologue.cases ++ (events_for ns rsp0 loop.test ++ x)) (append-nil (events_for ns rsp0 loop.more_outs))
      ∙ sym (append_assoc (body_events p rsp0 loop.prologue.cases) (events_for ns rsp0 loop.test) (events_for ns rsp0 loop.more_outs)))
  turns_applied (body_cut p ns b) rsp0 loop h =
      ap (λ w. w ▹ done)
      (turn_parts rsp0 (items_of p) (items_of b) ns true loop _ _ (tree_made p rsp0 loop.prologue false h.0 (items_applied p rsp0 loop.prologue.cases h.1.0)) (tree_made b rsp0 loop.body true h.2 (items_applied b rsp0 loop.body.cases h.3)))
      ∙ same_events _ _ Stop (append-nil _ ∙ nest (body_events p rsp0 loop.prologue.cases) (events_for ns rsp0 loop.test) (events_for ns rsp0 loop.more_outs) (body_events b rsp0 loop.body.cases))

  rounds_applied : (rs : Rounds) (rsp0 : ℕ) (ts : List Tr) → RoundsFit rs ts → walk_in_step (map (leak_walk rsp0) (rounds_of rs)) ts ≡ made (rounds_events rs rsp0 ts) (is_cut_in_rounds rs)
  rounds_applied no_round rsp0 [] h = refl
  rounds_applied no_round rsp0 (t ∷ ts) h = absurd h
  rounds_applied (round a rs) rsp0 [] h = absurd h
  rounds_applied (round a rs) rsp0 (t ∷ ts) h = then_made _ _ _ _ (is_cut_in_rounds rs) (tree_made a rsp0 t false h.0 (items_applied a rsp0 t.cases h.1)) (rounds_applied rs rsp0 ts h.2)
  rounds_applied (round_cut a) rsp0 [] h = absurd h
  rounds_applied (round_cut a) rsp0 (t ∷ ts) h = last_made _ _ (tree_made a rsp0 t true h.0 (items_applied a rsp0 t.cases h.1))

-- ---- what `apply` meets
-- the walk over a body, where what is shown is a leak that fits
body_applied : (tr : Transformer) (leak : ShownLeak) (rsp0 : ℕ) (l : Leak) → shown_of l ≡ leak → Fits tr l → leak_walk rsp0 leak tr.body ≡ made (body_events l rsp0 tr.body.cases) (is_cut l)
body_applied tr leak rsp0 l e f = ap (λ x. leak_walk rsp0 x tr.body) (sym e) ∙ leak_walk_is rsp0 (items_of l) tr.body ∙ items_applied l rsp0 tr.body.cases f.body

-- the events before the body and those of the body
up_to_body : (tr : Transformer) (leak : ShownLeak) (rsp0 : ℕ) (l : Leak) → shown_of l ≡ leak → Fits tr l → (none : List ℕ) (start first mid : List Event) (reach : Reach)
    → none ≡ [] → start ≡ [] → first ≡ start ++ events_for none rsp0 tr.before → Adds first mid (leak_walk rsp0 leak tr.body) reach
    → (mid ≡ events_for [] rsp0 tr.before ++ body_events l rsp0 tr.body.cases) × (reach ≡ came (is_cut l))
up_to_body tr leak rsp0 l e f none start first mid reach empty begun one adds =
    let walked = body_applied tr leak rsp0 l e f in
    let before : first ≡ events_for [] rsp0 tr.before = one ∙ ap (λ x. x ++ events_for none rsp0 tr.before) begun ∙ ap (λ ns. events_for ns rsp0 tr.before) empty in
    (adds.events ∙ ap (λ (w : Walk). first ++ w.events) walked ∙ ap (λ x. x ++ body_events l rsp0 tr.body.cases) before, adds.reached ∙ ap (λ (w : Walk). w.reach) walked)

with_last : (z : Bool) (head new last : List Event) → came z ≡ End → new ≡ head ++ last → new ≡ head ++ (if z then [] else last)
with_last true head new last e more = absurd (cc)
with_last false head new last e more = more

without_last : (z : Bool) (head last : List Event) → (came z ≡ End → ⊥) → head ≡ head ++ (if z then [] else last)
without_last true head last e = sym (append-nil head)
without_last false head last e = absurd (e refl)

-- the body ended, and the last list was put behind it
pub all_applied : (tr : Transformer) (leak : ShownLeak) (rsp0 : ℕ) (l : Leak) → shown_of l ≡ leak → Fits tr l → (none : List ℕ) (start first mid new : List Event) (reach : Reach)
    → none ≡ [] → start ≡ [] → first ≡ start ++ events_for none rsp0 tr.before → Adds first mid (leak_walk rsp0 leak tr.body) reach
    → reach ≡ End → new ≡ mid ++ events_for none rsp0 tr.after → new ≡ apply_of tr l rsp0
all_applied tr leak rsp0 l e f none start first mid new reach empty begun one adds ended more =
    let known = up_to_body tr leak rsp0 l e f none start first mid reach empty begun one adds in
    with_last (is_cut l) (events_for [] rsp0 tr.before ++ body_events l rsp0 tr.body.cases) new (events_for [] rsp0 tr.after) (sym known.1 ∙ ended)
    (more ∙ ap (λ x. x ++ events_for none rsp0 tr.after) known.0 ∙ ap (λ ns. (events_for [] rsp0 tr.before ++ body_events l rsp0 tr.body.cases) ++ events_for ns rsp0 tr.after) empty)

-- the body was cut
pub cut_applied : (tr : Transformer) (leak : ShownLeak) (rsp0 : ℕ) (l : Leak) → shown_of l ≡ leak → Fits tr l → (none : List ℕ) (start first mid : List Event) (reach : Reach)
    → none ≡ [] → start ≡ [] → first ≡ start ++ events_for none rsp0 tr.before → Adds first mid (leak_walk rsp0 leak tr.body) reach
    → (reach ≡ End → ⊥) → mid ≡ apply_of tr l rsp0
cut_applied tr leak rsp0 l e f none start first mid reach empty begun one adds not_ended =
    let known = up_to_body tr leak rsp0 l e f none start first mid reach empty begun one adds in
    known.0 ∙ without_last (is_cut l) (events_for [] rsp0 tr.before ++ body_events l rsp0 tr.body.cases) (events_for [] rsp0 tr.after) (λ q. not_ended (known.1 ∙ q))
