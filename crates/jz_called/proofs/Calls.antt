-- From each start the bytes do what the body does.
use Rattle.std.proofs.Common.{◌≡◌, ℕ, ◌+◌, ◌-◌, ◌*◌, ◌%◌, ◌^◌, ◌<◌, ◌≤◌, ◌⊎◌, inl, inr, Bool, true, false, List, [], ◌∷◌, length, Option, Some, None, refl, sym, ap, ◌∙◌, subst, arith}
use Rattle.std.specs.Prelude.{is_some, slice_get}
use Rattle.std.specs.List.{AllByRecursion}
use Rattle.std.specs.FinMap.{get}
use Rattle.std.proofs.Math.Nat.{mod-eq_of_lt}
use Rattle.std.proofs.lemmas.Bool.{cases_lt}
use Rattle.jz_words.specs.declared.size.Size.{Size}
use Rattle.jz_words.specs.Memory.{Memory, loaded}
use Rattle.jz_words.specs.Sizes.{modulus}
use Rattle.x64_insn.specs.declared.types.Place.{Place}
use Rattle.x64_insn.specs.declared.types.Place.TheVariants as place
use Rattle.x64_insn.specs.declared.types.State as machine
use Rattle.x64_insn.specs.Rows.{place_of, known, reg_word}
use Rattle.jz_leak.specs.declared.event.Event.{Event}
use Rattle.jz_leak.specs.RunLeaks.{Leak}
use Rattle.jz_leak.specs.Applying.{apply_of}
use Rattle.jz_runs.specs.Rules.{End, Cut, Stuck, Goes}
use Rattle.jz_ir.specs.Places.{place_at}
use Rattle.jz_listing.specs.declared.compiled.Arg.{Arg}
use Rattle.jz_listing.specs.declared.compiled.Compiled.{Compiled}
use Rattle.x64_machine.specs.Steps.{Config, steps_of}
use Rattle.x64_same_events.specs.SameEvents.{ReturnsFromEntry}
use Rattle.jz_operations.specs.declared.operation.Stacked.{Stacked}
use Rattle.jz_operations.specs.Values.{Value, word, State}
use Rattle.jz_operations.specs.Insns.{reg_of}
use Rattle.jz_operations.specs.Standing.{Stands}
use Rattle.jz_placing.specs.Instructions.{Machine, state_of}
use Rattle.jz_placing.specs.Variables.{variables}
use Rattle.jz_place.specs.declared.tree.Ir.{Ir}
use Rattle.jz_place.specs.declared.tree.Passed.{Passed}
use Rattle.jz_place.specs.Bodies.{body_of}
use Rattle.jz_correct.specs.Starts.{AreOfSizes, AreInRegisters, IsIn, IsInOne, frame_at, regions_for, MeetsPreconditions, IsStart}
use Rattle.jz_correct.specs.Ends.{EndsAfter}
use Rattle.jz_correct.specs.Agreement.{Agrees, NeverFaults, EndsWith}
use Rattle.jz_correct.proofs.SlotLoads.{loads}
use Rattle.jz_code.specs.CodeRuns.{EndsAt, entered_at}
use Rattle.jz_code.specs.Laying.{frame_of}
use Rattle.jz_code.specs.declared.code.MachineCode.{MachineCode}
use Rattle.jz_codable.specs.Ready.{IsReady}
use Rattle.jz_code.specs.Entries.{IsWordAt, StandsAtEntry, ResultStands, StandsAtReturn}
use Rattle.jz_code.specs.Runs.{DoesAsItsBody}
use Rattle.jz_code.specs.Made.{IsCodeOf, function_of}
use Rattle.jz_called.specs.Called.{HasCode, IsArgument, Begins, AreResults, EndsToo, GoesOnToo, DoesAsCalled}
use Rattle.jz_called.proofs.Entering.{IsSeated, seated}

-- ---- options
no_value : {A : Type 0} (o : Option A) → ((x : A) → o ≡ Some x → ⊥) → o ≡ None
no_value None h = refl
no_value (Some x) h = absurd (h x refl)

some_value : {A : Type 0} (o : Option A) → is_some o ≡ true → (x : A) × (o ≡ Some x)
some_value None h = cc
some_value (Some x) h = (x, refl)

is_there : {A : Type 0} (o : Option A) (x : A) → o ≡ Some x → is_some o ≡ true
is_there o x e = ap is_some e

none_some : {A : Type 0} (o : Option A) (x : A) → o ≡ None → o ≡ Some x → ⊥
none_some o x e h = let k = sym e ∙ h in cc

-- ---- arguments
-- the word of an argument is the lowest bits of its register
stands : (list : List Place) (st : machine.State) (p : Passed) (s : Size) (w : ℕ) → IsSeated list p → w < modulus s → reg_word st s p.reg ≡ w → Stands (word s w) (place_at list p.variable.variable) st
stands list st p s w seat lt e =
    let same : place.Reg (reg_of (place_at list p.variable.variable)) ≡ place.Reg p.reg = ap (λ q. place.Reg (reg_of q)) seat.0 in
    (seat.0 ∙ sym same, seat.1, ap (λ r. reg_word st s (reg_of r)) seat.0 ∙ e ∙ small w (modulus s) lt)
  where
    small : (n m : ℕ) → n < m → n ≡ n % m
    small n m lt = sym (mod-eq_of_lt lt)

arguments : (list : List Place) (st : machine.State) (args : List Arg) (words : List ℕ) (ps : List Passed) → AllByRecursion (IsSeated list) ps → AreOfSizes args words → AreInRegisters args words st
    → (v : ℕ) (x : Value) → IsArgument args words ps v x → IsWordAt x (place_at list v) st
arguments list st [] words ps seats sizes there v x h = absurd h
arguments list st (a ∷ args) [] ps seats sizes there v x h = absurd h
arguments list st (a ∷ args) (w ∷ words) [] seats sizes there v x h = absurd h
arguments list st (a ∷ args) (w ∷ words) (p ∷ ps) seats sizes there v x (inl h) =
    subst (λ y. IsWordAt y (place_at list v) st) (sym h.2)
    (subst (λ u. Stands (word a.size w) (place_at list u) st) h.0 (stands list st p a.size w seats.0 sizes.0 (ap (λ r. reg_word st a.size r) (sym h.1) ∙ there.0)))
arguments list st (a ∷ args) (w ∷ words) (p ∷ ps) seats sizes there v x (inr h) = arguments list st args words ps seats.1 sizes.1 there.1 v x h

-- ---- results
results_are : (τ : State) (last : Config) (args : List Arg) (ps : List Passed) (ws : List ℕ) → AllByRecursion (ResultStands τ last) ps → AreResults τ args ps ws → AreInRegisters args ws last.state
results_are τ last [] [] [] stand h = tt
results_are τ last [] [] (w ∷ ws) stand h = absurd h
results_are τ last [] (p ∷ ps) ws stand h = absurd h
results_are τ last (a ∷ args) [] ws stand h = absurd h
results_are τ last (a ∷ args) (p ∷ ps) [] stand h = absurd h
results_are τ last (a ∷ args) (p ∷ ps) (w ∷ ws) stand h =
    let r = h.0 in
    let v = r.1 in
    let s = stand.0 (word a.size v.0) v.1 in
    (ap (λ q. reg_word last.state a.size q) r.0 ∙ s.2 ∙ sym v.2, results_are τ last args ps ws stand.1 h.1)

-- ---- one call
module _ (f : Ir) (vs : List Stacked) (m : MachineCode) (c : Compiled) (ready : IsReady f) (code : IsCodeOf f vs m) (has : HasCode c m) where
  module _ (words : List ℕ) (memory : Memory) (σ : State) (meets : MeetsPreconditions c words memory) (begins : Begins f c.args words memory σ) (never : (n : ℕ) → Goes (variables (frame_of vs)) (body_of f.body) n σ (Stuck tt) → ⊥) (rsp0 base : ℕ) (s : Config) (start : IsStart c words memory rsp0 base s) where
    slot : (t : ℕ) × (loaded s.memory rsp0 8 ≡ Some t)
    slot = loads s.memory rsp0 8 start.room_above (λ q l r. start.stack_valid q (omega (arith, l), omega (arith, r)))

    abbrev here : Machine
    here = record { regs = s.state.regs; flags = s.state.flags; memory = s.memory }

    is_entered : entered_at base rsp0 slot.0 here ≡ s
    is_entered =
        ap (λ (x : ℕ). record { state = record { regs = s.state.regs; rip = x; flags = s.state.flags }; memory = s.memory; ended = false; entry_rsp = rsp0; entry_return = Some slot.0 }) (sym start.entry)
        ∙ ap (λ (x : Bool). record { state = s.state; memory = s.memory; ended = x; entry_rsp = rsp0; entry_return = Some slot.0 }) (sym start.running)
        ∙ ap (λ (x : ℕ). record { state = s.state; memory = s.memory; ended = s.ended; entry_rsp = x; entry_return = Some slot.0 }) (sym start.entry_stack)
        ∙ ap (λ (x : Option ℕ). record { state = s.state; memory = s.memory; ended = s.ended; entry_rsp = s.entry_rsp; entry_return = x }) (sym (start.entry_return ∙ slot.1))

    -- the input's bytes are those of the regions
    in_regions : (q b : ℕ) → get σ.memory q ≡ Some b → IsInOne (regions_for c words) q
    in_regions q b e = (meets.covered q).0 (is_there (get memory q) b (ap (λ x. get x q) (sym begins.bytes) ∙ e))

    holds : (q b : ℕ) → get σ.memory q ≡ Some b → get s.memory q ≡ Some b
    holds q b e = start.region_holds q (in_regions q b e) ∙ ap (λ x. get x q) (sym begins.bytes) ∙ e

    outside : (q : ℕ) → (IsInOne (regions_for c words) q → ⊥) → get σ.memory q ≡ None
    outside q h = no_value (get σ.memory q) (λ b e. h (in_regions q b e))

    inside : (q : ℕ) → IsInOne (regions_for c words) q → is_some (get σ.memory q) ≡ true
    inside q h = ap (λ x. is_some (get x q)) begins.bytes ∙ (meets.covered q).1 h

    entry : StandsAtEntry f (λ v. place_at code.places v) m.frame rsp0 slot.0 σ here
    entry = subst (λ z. StandsAtEntry f (λ v. place_at code.places v) z rsp0 slot.0 σ here) has.frame (record {
      room = record {
        sixteen = start.machine.registers;
        stack = start.stack;
        below = start.room_below;
        above = start.room_above;
        valid = λ q l r. start.stack_valid q (l, omega (arith, r, start.room_below));
      };
      flags = start.machine.flags;
      words = start.machine.words;
      return = slot.1;
      vars = λ v x wanted e. arguments code.places (state_of here) c.args words f.entry (seated f code.places ready.within code.rule) meets.sizes start.arguments v x (begins.vars v x e);
      no_left = begins.left;
      no_flag = λ g b e. none_some (known (slice_get σ.flags (place_of g))) b (begins.flags g) e;
      no_cell = begins.cells;
      bytes = holds;
      apart = λ q l r. outside q (λ h. start.stack_apart q (l, omega (arith, r, start.room_below)) h);
    })

    does : DoesAsItsBody f (function_of m) base rsp0 slot.0 σ here (frame_of vs)
    does = code.runs base rsp0 slot.0 σ here (subst (λ bs. base + length bs ≤ 2 ^ 64) has.code start.code_fits) entry never

    no_fault : NeverFaults c.code base s
    no_fault = subst (λ bs. NeverFaults bs base s) (sym has.code) (subst (λ d. NeverFaults m.bytes base d) is_entered does.faults)

    -- ---- where the body ends
    agrees : (τ : State) (last : Config) (ws : List ℕ) → StandsAtReturn f m.frame rsp0 σ here τ last → AreResults τ c.rets f.results ws → Agrees c words rsp0 s ws τ.memory last
    agrees τ last ws r given = record {
      given = results_are τ last c.rets f.results ws r.results given;
      regions = λ q h. let b = some_value (get τ.memory q) (r.valid q ∙ inside q h) in r.bytes q b.0 b.1 ∙ sym b.1;
      others = λ q no_region no_frame. r.others q (outside q no_region) (beyond q no_frame);
      preserved = r.preserved;
      stack = r.stack;
    }
      where
        beyond : (q : ℕ) → (IsIn (frame_at rsp0 c.frame) q → ⊥) → (q < rsp0 - m.frame) ⊎ (rsp0 ≤ q)
        beyond q away = beyond_by m.frame has.frame (cases_lt q (rsp0 - m.frame)) (cases_lt q rsp0)
          where
            beyond_by : (z : ℕ) → c.frame ≡ z → (q < rsp0 - z) ⊎ (rsp0 - z ≤ q) → (q < rsp0) ⊎ (rsp0 ≤ q) → (q < rsp0 - z) ⊎ (rsp0 ≤ q)
            beyond_by z e (inl l) k = inl l
            beyond_by z e (inr g) (inr k) = inr k
            beyond_by z e (inr g) (inl k) = absurd (away (omega (arith, g, e), omega (arith, k, g, e, start.room_below)))

    ends_after : (bs : List ℕ) (k : ℕ) (es : List Event) (d last : Config) → EndsAt bs base k d es last → EndsAfter bs base d k
    ends_after bs k es d last e = record { ended = ap (λ r. r.after.ended) e.is ∙ e.ended; before = e.before }

    ends_with : (bs : List ℕ) (k : ℕ) (es : List Event) (last : Config) (ws : List ℕ) (mem : Memory) → bs ≡ c.code → EndsAt bs base k s es last → Agrees c words rsp0 s ws mem last → EndsWith c words rsp0 base s k ws mem es
    ends_with bs k es last ws mem eb e a = record {
      ends = subst (λ x. EndsAfter x base s k) eb (ends_after bs k es s last e);
      agrees = subst (λ x. Agrees c words rsp0 s ws mem (steps_of x base s k).after) eb (subst (λ x. Agrees c words rsp0 s ws mem x) (sym (ap (λ r. r.after) e.is)) a);
      shown = ap (λ x. (steps_of x base s k).events) (sym eb) ∙ ap (λ r. r.events) e.is;
      no_fault = no_fault;
    }

    ends_too : (n left : ℕ) (τ : State) (l : Leak) (ws : List ℕ) → Goes (variables (frame_of vs)) (body_of f.body) n σ (End τ left l) → AreResults τ c.rets f.results ws → EndsToo m c words rsp0 base s n ws τ.memory l
    ends_too n left τ l ws g given =
        let r = does.ends n left τ l g in
        let e : EndsAt m.bytes base r.steps s (apply_of m.transformer l rsp0) r.last = subst (λ d. EndsAt m.bytes base r.steps d (apply_of m.transformer l rsp0) r.last) is_entered r.ends in
        record {
          fits = does.ends_fit n left τ l g;
          steps = r.steps;
          within = subst (λ i. r.steps ≤ i * (n + 1)) (sym has.insns) r.within;
          ends = ends_with m.bytes r.steps (apply_of m.transformer l rsp0) r.last ws τ.memory (sym has.code) e (agrees τ r.last ws r.returned given);
          returns = subst (λ bs. ReturnsFromEntry bs base s r.steps) (sym has.code) e.returns;
        }

    -- ---- where it runs on
    goes_too : (n : ℕ) (l : Leak) → Goes (variables (frame_of vs)) (body_of f.body) n σ (Cut l) → GoesOnToo m c words rsp0 base s n l
    goes_too n l g =
        let r = does.goes_on n l g in
        let to : (k : ℕ) → steps_of m.bytes base (entered_at base rsp0 slot.0 here) k ≡ steps_of c.code base s k = λ k. ap (λ d. steps_of m.bytes base d k) is_entered ∙ ap (λ bs. steps_of bs base s k) (sym has.code) in
        record {
          fits = does.cuts_fit n l g;
          running = ap (λ x. x.after.ended) (sym (to n)) ∙ r.running;
          steps = r.steps;
          enough = subst (λ i. n ≤ r.steps + i) (sym has.insns) r.enough;
          within = subst (λ i. r.steps ≤ i * (n + 1)) (sym has.insns) r.within;
          running_there = ap (λ x. x.after.ended) (sym (to r.steps)) ∙ r.going.opens r.steps (omega arith);
          shown = ap (λ x. x.events) (sym (to r.steps)) ∙ ap (λ x. x.events) r.going.is;
          no_fault = no_fault;
          returns = subst (λ bs. ReturnsFromEntry bs base s r.steps) (sym has.code) (subst (λ d. ReturnsFromEntry m.bytes base d r.steps) is_entered r.going.returns);
        }

pub called : (f : Ir) (vs : List Stacked) (m : MachineCode) (c : Compiled) → IsReady f → IsCodeOf f vs m → HasCode c m → DoesAsCalled f vs m c
called f vs m c ready code has = record {
  ends = λ words memory σ meets begins never rsp0 base s start n left τ l ws g given. ends_too f vs m c ready code has words memory σ meets begins never rsp0 base s start n left τ l ws g given;
  goes_on = λ words memory σ meets begins never rsp0 base s start n l g. goes_too f vs m c ready code has words memory σ meets begins never rsp0 base s start n l g;
}
