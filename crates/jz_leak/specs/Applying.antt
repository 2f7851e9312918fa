-- What a transformer makes of a leak: the leaks that fit it, and the machine's events that it
-- gives. A form sees the numbers of its item, constants and the stack pointer at entry.
use Rattle.std.specs.Prelude.{ℕ, ◌+◌, ◌*◌, ◌<◌, ◌≡◌, Bool, true, false, if◌then◌else◌, pos, ◌+ℤ◌, List, [], ◌∷◌, ◌++◌, map, length, slice_index, All, ⊤}
use Rattle.jz_words.specs.declared.size.Size.TheVariants.{S64}
use Rattle.jz_words.specs.Words.{residue}
use Rattle.jz_leak.specs.declared.event.Event.{Event}
use Rattle.jz_leak.specs.declared.event.Event.TheVariants as event
use Rattle.jz_leak.specs.declared.transformer.Form.{Form}
use Rattle.jz_leak.specs.declared.transformer.Form.TheVariants as form
use Rattle.jz_leak.specs.declared.transformer.Out.{Out}
use Rattle.jz_leak.specs.declared.transformer.Out.TheVariants as out
use Rattle.jz_leak.specs.declared.transformer.Tr.{Tr}
use Rattle.jz_leak.specs.declared.transformer.Case.{Case}
use Rattle.jz_leak.specs.declared.transformer.Case.TheVariants.{Op}
use Rattle.jz_leak.specs.declared.transformer.Case.TheOpen.{Case-F}
use Rattle.jz_leak.specs.declared.transformer.Case.TheViews.{out-Case}
use Rattle.jz_leak.specs.declared.transformer.Transformer.{Transformer}
use Rattle.jz_leak.specs.RunLeaks.{Leak, over, ran, chose, chose_cut, looped, looped_cut, each, each_cut, called, called_cut, Turns, left, turn, prologue_cut, wanted, body_cut, Rounds, no_round, round, round_cut}

-- ---- events

-- the number of a form, by the numbers of its item and the stack pointer at entry
abbrev pub number_of : List ℕ → ℕ → Form → ℕ
number_of ns rsp0 (form.Num n) = n
number_of ns rsp0 (form.Leaked i) = slice_index ns i
number_of ns rsp0 (form.Frame offset) = residue S64 (pos rsp0 +ℤ offset)
number_of ns rsp0 (form.Indexed offset factor i) =
    residue S64 (pos (rsp0 + factor * slice_index ns i) +ℤ offset)

-- the event of a form of event, by the same
abbrev pub event_of : List ℕ → ℕ → Out → Event
event_of ns rsp0 (out.Branch taken) = event.Branch taken
event_of ns rsp0 (out.Addr address) = event.Addr (number_of ns rsp0 address)
event_of ns rsp0 (out.Div high low divisor) =
    event.Div (number_of ns rsp0 high) (number_of ns rsp0 low) (number_of ns rsp0 divisor)

-- and of a list of them, in order
abbrev pub events_for : List ℕ → ℕ → List Out → List Event
events_for ns rsp0 outs = map (event_of ns rsp0) outs

-- ---- cuts

-- the run was cut
abbrev pub is_cut : Leak → Bool
is_cut over = false
is_cut (ran ns l) = is_cut l
is_cut (chose ns z a l) = is_cut l
is_cut (chose_cut ns z a) = true
is_cut (looped ts l) = is_cut l
is_cut (looped_cut ts) = true
is_cut (each rs l) = is_cut l
is_cut (each_cut rs) = true
is_cut (called ns b ms l) = is_cut l
is_cut (called_cut ns b) = true

-- it was cut in one of the turns
abbrev pub is_cut_in_turns : Turns → Bool
is_cut_in_turns (left p ns) = false
is_cut_in_turns (turn p ns b ts) = is_cut_in_turns ts
is_cut_in_turns (prologue_cut p) = true
is_cut_in_turns (wanted p ns) = true
is_cut_in_turns (body_cut p ns b) = true

-- it was cut in one of the rounds
abbrev pub is_cut_in_rounds : Rounds → Bool
is_cut_in_rounds no_round = false
is_cut_in_rounds (round a rs) = is_cut_in_rounds rs
is_cut_in_rounds (round_cut a) = true

-- ---- applying

-- a case, its trees not opened
abbrev pub Layer : Type 0
Layer = Case-F Case Tr

-- the parts of a `while`
pub record Loop : Type 0 where
  pub prologue : Tr
  pub test : List Out
  pub more_outs : List Out
  pub body : Tr
  pub leave_outs : List Out

-- the events of an operation
abbrev pub op_events : ℕ → List ℕ → Case → List Event
op_events rsp0 ns (Op outs) = events_for ns rsp0 outs
op_events rsp0 ns _ = []

-- the events of the condition, then those of its answer and of the arm
abbrev pub if_events : ℕ → List ℕ → Bool → (List Case → List Event) → Layer → List Event
if_events rsp0 ns z arm (Case-F.If test then_outs then_tr else_outs else_tr) =
    events_for ns rsp0 test
    ++ (if z then events_for ns rsp0 then_outs ++ arm then_tr.cases
    else (events_for ns rsp0 else_outs ++ arm else_tr.cases))
if_events rsp0 ns z arm _ = []

-- the events of the turns, with the parts of the case
abbrev pub while_events : (Loop → List Event) → Layer → List Event
while_events turns (Case-F.While prologue test more_outs body leave_outs) =
    turns
    (record {
      prologue = prologue;
      test = test;
      more_outs = more_outs;
      body = body;
      leave_outs = leave_outs;
    })
while_events turns _ = []

-- the events of the rounds, with the trees of the case
abbrev pub for_events : (List Tr → List Event) → Layer → List Event
for_events rounds (Case-F.For trs) = rounds trs
for_events rounds _ = []

-- the events of the arguments, of the callee and of the results
abbrev pub call_events : ℕ → List ℕ → List ℕ → (List Case → List Event) → Layer → List Event
call_events rsp0 ns ms callee (Case-F.Call arguments body results) =
    events_for ns rsp0 arguments ++ callee body.cases ++ events_for ms rsp0 results
call_events rsp0 ns ms callee _ = []

-- a call that is cut: the events of its results are not reached
abbrev pub begun_call_events : ℕ → List ℕ → (List Case → List Event) → Layer → List Event
begun_call_events rsp0 ns callee (Case-F.Call arguments body results) =
    events_for ns rsp0 arguments ++ callee body.cases
begun_call_events rsp0 ns callee _ = []

-- the events of a turn up to its condition
abbrev pub head_events : ℕ → List ℕ → (List Case → List Event) → Loop → List Event
head_events rsp0 ns prologue loop = prologue loop.prologue.cases ++ events_for ns rsp0 loop.test

-- items and cases in step; at a cut everything stops
abbrev mutual
  pub body_events : Leak → ℕ → List Case → List Event
  body_events (ran ns l) rsp0 (c ∷ cs) = op_events rsp0 ns c ++ body_events l rsp0 cs
  body_events (chose ns z a l) rsp0 (c ∷ cs) =
      if_events rsp0 ns z (body_events a rsp0) (out-Case c) ++ body_events l rsp0 cs
  body_events (chose_cut ns z a) rsp0 (c ∷ cs) =
      if_events rsp0 ns z (body_events a rsp0) (out-Case c)
  body_events (looped ts l) rsp0 (c ∷ cs) =
      while_events (turns_events ts rsp0) (out-Case c) ++ body_events l rsp0 cs
  body_events (looped_cut ts) rsp0 (c ∷ cs) = while_events (turns_events ts rsp0) (out-Case c)
  body_events (each rs l) rsp0 (c ∷ cs) =
      for_events (rounds_events rs rsp0) (out-Case c) ++ body_events l rsp0 cs
  body_events (each_cut rs) rsp0 (c ∷ cs) = for_events (rounds_events rs rsp0) (out-Case c)
  body_events (called ns b ms l) rsp0 (c ∷ cs) =
      call_events rsp0 ns ms (body_events b rsp0) (out-Case c) ++ body_events l rsp0 cs
  body_events (called_cut ns b) rsp0 (c ∷ cs) =
      begun_call_events rsp0 ns (body_events b rsp0) (out-Case c)
  body_events _ rsp0 cs = []

  -- each turn by the same parts
  pub turns_events : Turns → ℕ → Loop → List Event
  turns_events (left p ns) rsp0 loop =
      head_events rsp0 ns (body_events p rsp0) loop ++ events_for ns rsp0 loop.leave_outs
  turns_events (turn p ns b ts) rsp0 loop =
      head_events rsp0 ns (body_events p rsp0) loop ++ events_for ns rsp0 loop.more_outs
      ++ body_events b rsp0 loop.body.cases ++ turns_events ts rsp0 loop
  turns_events (prologue_cut p) rsp0 loop = body_events p rsp0 loop.prologue.cases
  turns_events (wanted p ns) rsp0 loop =
      head_events rsp0 ns (body_events p rsp0) loop ++ events_for ns rsp0 loop.more_outs
  turns_events (body_cut p ns b) rsp0 loop =
      head_events rsp0 ns (body_events p rsp0) loop ++ events_for ns rsp0 loop.more_outs
      ++ body_events b rsp0 loop.body.cases

  -- each round by a tree of its own
  pub rounds_events : Rounds → ℕ → List Tr → List Event
  rounds_events (round a rs) rsp0 (t ∷ ts) = body_events a rsp0 t.cases ++ rounds_events rs rsp0 ts
  rounds_events (round_cut a) rsp0 (t ∷ ts) = body_events a rsp0 t.cases
  rounds_events _ rsp0 ts = []

-- what stands behind the body is reached where the run was not cut
abbrev pub last_events : Leak → ℕ → List Out → List Event
last_events l rsp0 outs = if is_cut l then [] else events_for [] rsp0 outs

-- the events that a function's transformer gives
abbrev pub apply_of : Transformer → Leak → ℕ → List Event
apply_of tr l rsp0 =
    events_for [] rsp0 tr.before ++ body_events l rsp0 tr.body.cases ++ last_events l rsp0 tr.after

-- ---- fitting

-- each leaked number that a form names is there
abbrev pub HasNumbers : List ℕ → Form → Type 0
HasNumbers ns (form.Num n) = ⊤
HasNumbers ns (form.Leaked i) = i < length ns
HasNumbers ns (form.Frame offset) = ⊤
HasNumbers ns (form.Indexed offset factor i) = i < length ns

-- each leaked number that an event names is there
abbrev pub OutFits : List ℕ → Out → Type 0
OutFits ns (out.Branch taken) = ⊤
OutFits ns (out.Addr address) = HasNumbers ns address
OutFits ns (out.Div high low divisor) =
    HasNumbers ns high × HasNumbers ns low × HasNumbers ns divisor

-- and each that a list names
abbrev pub OutsFit : List ℕ → List Out → Type 0
OutsFit ns outs = All (OutFits ns) outs

-- the case of an operation, its list over the numbers of the operation
abbrev pub OpFits : List ℕ → Case → Type 0
OpFits ns (Op outs) = OutsFit ns outs
OpFits ns _ = ⊥

-- the lists of both answers see the numbers of the condition
abbrev pub IfFits : List ℕ → Bool → (List Case → Type 0) → Layer → Type 0
IfFits ns z ArmFits (Case-F.If test then_outs then_tr else_outs else_tr) =
    OutsFit ns test
    × OutsFit ns then_outs
    × OutsFit ns else_outs
    × ArmFits (if z then then_tr.cases else else_tr.cases)
IfFits ns z ArmFits _ = ⊥

-- the case of a `while`, its parts such that the turns fit them
abbrev pub WhileFits : (Loop → Type 0) → Layer → Type 0
WhileFits TurnsFit (Case-F.While prologue test more_outs body leave_outs) =
    TurnsFit
    (record {
      prologue = prologue;
      test = test;
      more_outs = more_outs;
      body = body;
      leave_outs = leave_outs;
    })
WhileFits TurnsFit _ = ⊥

-- the case of a `for`, its trees such that the rounds fit them
abbrev pub ForFits : (List Tr → Type 0) → Layer → Type 0
ForFits RoundsFit (Case-F.For trs) = RoundsFit trs
ForFits RoundsFit _ = ⊥

-- the case of a call: the lists see the numbers of the arguments, and those of the left sides
abbrev pub CallFits : List ℕ → List ℕ → (List Case → Type 0) → Layer → Type 0
CallFits ns ms CalleeFits (Case-F.Call arguments body results) =
    OutsFit ns arguments × CalleeFits body.cases × OutsFit ms results
CallFits ns ms CalleeFits _ = ⊥

-- of a call that is cut the list of the results is not reached
abbrev pub BegunCallFits : List ℕ → (List Case → Type 0) → Layer → Type 0
BegunCallFits ns CalleeFits (Case-F.Call arguments body results) =
    OutsFit ns arguments × CalleeFits body.cases
BegunCallFits ns CalleeFits _ = ⊥

-- a turn whose prologue ended: the lists of the condition and of both answers see its numbers
abbrev pub HeadFits : List ℕ → (List Case → Type 0) → Loop → Type 0
HeadFits ns PrologueFits loop =
    PrologueFits loop.prologue.cases
    × OutsFit ns loop.test
    × OutsFit ns loop.more_outs
    × OutsFit ns loop.leave_outs

-- Up to the cut a case for each item, of its kind; a part holds the cut exactly where its item says
-- so, as nothing stands behind a cut.
abbrev mutual
  pub CasesFit : Leak → List Case → Type 0
  CasesFit over [] = ⊤
  CasesFit (ran ns l) (c ∷ cs) = OpFits ns c × CasesFit l cs
  CasesFit (chose ns z a l) (c ∷ cs) =
      (is_cut a ≡ false) × IfFits ns z (CasesFit a) (out-Case c) × CasesFit l cs
  CasesFit (chose_cut ns z a) (c ∷ cs) = (is_cut a ≡ true) × IfFits ns z (CasesFit a) (out-Case c)
  CasesFit (looped ts l) (c ∷ cs) =
      (is_cut_in_turns ts ≡ false) × WhileFits (TurnsFit ts) (out-Case c) × CasesFit l cs
  CasesFit (looped_cut ts) (c ∷ cs) =
      (is_cut_in_turns ts ≡ true) × WhileFits (TurnsFit ts) (out-Case c)
  CasesFit (each rs l) (c ∷ cs) =
      (is_cut_in_rounds rs ≡ false) × ForFits (RoundsFit rs) (out-Case c) × CasesFit l cs
  CasesFit (each_cut rs) (c ∷ cs) =
      (is_cut_in_rounds rs ≡ true) × ForFits (RoundsFit rs) (out-Case c)
  CasesFit (called ns b ms l) (c ∷ cs) =
      (is_cut b ≡ false) × CallFits ns ms (CasesFit b) (out-Case c) × CasesFit l cs
  CasesFit (called_cut ns b) (c ∷ cs) =
      (is_cut b ≡ true) × BegunCallFits ns (CasesFit b) (out-Case c)
  CasesFit _ cs = ⊥

  pub TurnsFit : Turns → Loop → Type 0
  TurnsFit (left p ns) loop = (is_cut p ≡ false) × HeadFits ns (CasesFit p) loop
  TurnsFit (turn p ns b ts) loop =
      (is_cut p ≡ false)
      × HeadFits ns (CasesFit p) loop
      × (is_cut b ≡ false)
      × CasesFit b loop.body.cases
      × TurnsFit ts loop
  TurnsFit (prologue_cut p) loop = (is_cut p ≡ true) × CasesFit p loop.prologue.cases
  TurnsFit (wanted p ns) loop = (is_cut p ≡ false) × HeadFits ns (CasesFit p) loop
  TurnsFit (body_cut p ns b) loop =
      (is_cut p ≡ false)
      × HeadFits ns (CasesFit p) loop
      × (is_cut b ≡ true)
      × CasesFit b loop.body.cases

  -- a tree for each round; at a cut there may be more of them
  pub RoundsFit : Rounds → List Tr → Type 0
  RoundsFit no_round [] = ⊤
  RoundsFit (round a rs) (t ∷ ts) = (is_cut a ≡ false) × CasesFit a t.cases × RoundsFit rs ts
  RoundsFit (round_cut a) (t ∷ ts) = (is_cut a ≡ true) × CasesFit a t.cases
  RoundsFit _ ts = ⊥

-- the leak fits the transformer
pub record Fits (tr : Transformer) (l : Leak) : Type 0 where
  pub before : OutsFit [] tr.before
  pub body : CasesFit l tr.body.cases
  pub after : OutsFit [] tr.after
