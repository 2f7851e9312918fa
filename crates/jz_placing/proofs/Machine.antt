-- Operations and tests over variables, in their places: one step of the machine each.
use Rattle.std.proofs.Common.{◌≡◌, ℕ, Bool, true, false, ◌||◌, not, IsTrue, List, [], ◌∷◌, ◌++◌, refl, sym, ap, ◌∙◌, subst, if◌then◌else◌}
use Rattle.std.specs.Prelude.{Option, Some, None, option_map}
use Rattle.jz_words.specs.Memory.{Memory}
use Rattle.x64_insn.specs.declared.types.Place.{Place}
use Rattle.x64_insn.specs.declared.types.FaultKind.{FaultKind}
use Rattle.x64_insn.specs.declared.types.Flag.{Flag}
use Rattle.x64_insn.specs.declared.types.Reg.TheVariants as reg
use Rattle.x64_insn.specs.declared.types.State as machine
use Rattle.x64_insn.specs.Rows.{After, reg_value, known, flag_of, holds}
use Rattle.x64_insn.specs.declared.types.Insn.{Insn}
use Rattle.jz_ir.specs.Paths.{among}
use Rattle.jz_live.specs.Lives.{transfer, test_before}
use Rattle.jz_runs.specs.Rules.{Attempt, stuck, went}
use Rattle.jz_operations.specs.declared.operation.Operation.{Operation}
use Rattle.jz_operations.specs.declared.operation.Condition.{Condition}
use Rattle.jz_operations.specs.declared.operation.Condition.TheVariants as condition
use Rattle.jz_operations.specs.Values.{Value, word, boolean, State}
use Rattle.jz_operations.specs.Rows.{Frame, inputs, outputs, accesses, access_numbers, asked, inputs_in, computed, put_all, Done, step, holds_in, truth, denied}
use Rattle.jz_operations.proofs.Somes.{some_then, same_some}
use Rattle.jz_operations.specs.Reading.{seen_of}
use Rattle.jz_operations.specs.Insns.{insn_of, cond_of, is_set, is_clear, flag_of as flag_in}
use Rattle.jz_live.proofs.Backward.{before_read, before_later}
use Rattle.std.proofs.lemmas.Bool.Decides.{nat_tests}
use Rattle.std.proofs.Common.{arith}
use Rattle.x64_insn.specs.declared.types.Flag.TheVariants.{Of, Cf, Sf, Pf, Zf}
use Rattle.jz_operations.specs.Standing.{Agrees, IsPlaced, goes_first, division_of}
use Rattle.jz_operations.proofs.Placed.{placed_step}
use Rattle.jz_operations.proofs.FlagFacts.{holds_too}
use Rattle.std.specs.Option.{option_to_list}
use Rattle.jz_placing.specs.Instructions.{Machine, state_of, machine_of, by_effect, numbers_of, division_numbers, Test, instructions}
use Rattle.jz_placing.specs.Instructions as insn
use Rattle.jz_operations.specs.Frames.{IsLaid}
use Rattle.x64_insn.specs.declared.types.Cond.{Cond}
use Rattle.jz_placing.specs.Variables.{Asked, always, asks, by_step, variables, test_seen, test_of}
use Rattle.jz_placing.specs.Variables as over
use Rattle.jz_placing.specs.Placing.{test_for, numbers, test_numbers, HasOneAccess, HoldsAt, StandsBeside}
use Rattle.jz_placing.proofs.Holding.{holding_laws}
use Rattle.jz_placing.proofs.Numbers.{numbers_are}
use Rattle.jz_placing.proofs.Runs.{OneOp, OneTest}

-- a step shows the numbers of its accesses
pub shown_is : (frame : Frame) (o : Operation) (σ : State) (d : Done) → step frame o σ ≡ Some d → access_numbers (accesses o.action) σ ≡ Some d.shown
shown_is frame o σ d e =
    let a = some_then (asked o.action σ) _ d e in
    let i = some_then (inputs_in frame (inputs o.action) σ) _ d a.2 in
    let c = some_then (computed o.action a.0 i.0) _ d i.2 in
    let s = some_then (access_numbers (accesses o.action) σ) _ d c.2 in
    let w = some_then (put_all frame (outputs o.action) c.0.words σ) _ d s.2 in
    s.1 ∙ ap (λ (x : Done). Some x.shown) (same_some _ d w.2)

-- what is done, where it goes on
pub record Stepped (x : Option Done) (ns : List ℕ) (τ : State) : Type 0 where
  pub done : Done
  pub steps : x ≡ Some done
  pub numbers : over.numbers_of done ≡ ns
  pub state : done.state ≡ τ

stepped : (x : Option Done) (ns : List ℕ) (τ : State) → by_step x ≡ went ns τ → Stepped x ns τ
stepped None ns τ e = absurd cc
stepped (Some d) ns τ e = record { done = d; steps = refl; numbers = cc; state = cc }

module _ (frame : Frame) (places : ℕ → Place) (slots : ℕ → ℕ) (end low : ℕ) (laid : IsLaid frame slots end) (r0 m0 : Memory) where
  abbrev Holds : (ℕ → ℕ → Option ℕ) → Memory → ℕ → Memory → Type 0
  Holds = HoldsAt frame slots end low r0 m0

  abbrev pub Agree : (ℕ → Bool) → State → Machine → Type 0
  Agree live σ b = StandsBeside places frame slots end low r0 m0 live σ b

  -- fewer variables are live
  pub agrees_less : (A B : ℕ → Bool) (σ : State) (b : Machine) → ((v : ℕ) → IsTrue (B v) → IsTrue (A v)) → Agree A σ b → Agree B σ b
  agrees_less A B σ b less a = record { vars = λ v x live e. a.vars v x (less v live) e; left = a.left; flags = a.flags; holds = a.holds; sixteen = a.sixteen; five = a.five }

  -- an operation is one instruction
  pub record Does (o : Operation) (behind : ℕ → Bool) (σ1 : State) (b : Machine) (ns : List ℕ) : Type 0 where
    pub now : Machine
    pub does : insn.does (insn_of places slots o.action) b ≡ went (numbers slots low o ns) now
    pub agrees : Agree behind σ1 now

  at_zero : (a : After) → a.state.rip ≡ 0 → state_of (machine_of a) ≡ a.state
  at_zero a e = ap (λ x. record { regs = a.state.regs; rip = x; flags = a.state.flags }) (sym e)

  module _ (o : Operation) (before behind : ℕ → Bool) (is : IsPlaced places (λ v. IsTrue (before v)) (λ v. IsTrue (behind v)) o) (one : HasOneAccess (accesses o.action)) where
    pub operation_does : (σ σ1 : State) (b : Machine) (ns : List ℕ) → Agree before σ b → (variables frame).does o σ ≡ went ns σ1 → Does o behind σ1 b ns
    operation_does σ σ1 b ns a e =
        let k = stepped (step frame o σ) ns σ1 e in
        let st = state_of b in
        let laws = holding_laws frame slots end low laid r0 m0 in
        let p = placed_step frame places slots Holds laws (λ v. IsTrue (before v)) (λ v. IsTrue (behind v)) o is σ st b.memory 0 a k.done k.steps in
        let rsp : reg_value st reg.Rsp ≡ low = a.holds.stack in
        let leak : numbers_of p.after.leak ≡ option_to_list (goes_first slots low (accesses o.action) σ) ++ division_numbers (division_of k.done.division) =
        ap (λ x. option_to_list x ++ division_numbers p.after.leak.div) (p.addr ∙ ap (λ r. goes_first slots r (accesses o.action) σ) rsp) ∙ ap (λ x. option_to_list (goes_first slots low (accesses o.action) σ) ++ division_numbers x) p.div in
        let placed' : option_to_list (goes_first slots low (accesses o.action) σ) ++ division_numbers (division_of k.done.division) ≡ numbers slots low o ns =
        numbers_are slots low σ (accesses o.action) k.done.shown (division_numbers (division_of k.done.division)) one (shown_is frame o σ k.done k.steps) ∙ ap (numbers slots low o) k.numbers in
        record {
          now = machine_of p.after;
          does = ap by_effect p.row ∙ ap (λ x. went x (machine_of p.after)) (leak ∙ placed');
          agrees = subst (λ x. Agrees places Holds (λ v. IsTrue (behind v)) σ1 x p.after.memory) (sym (at_zero p.after p.rip))
              (subst (λ x. Agrees places Holds (λ v. IsTrue (behind v)) x p.after.state p.after.memory) k.state p.agrees);
        }

  -- the test that is asked of a machine
  abbrev pub put_test : Asked → Test
  put_test c = test_for places slots c

  abbrev pub put_op : Operation → Insn
  put_op o = insn_of places slots o.action

  -- what placing asks of an operation gives what is asked of it for runs
  pub one_op : (o : Operation) (behind : ℕ → Bool) → IsPlaced places (λ v. IsTrue (transfer (among (seen_of o).reads v) (among (seen_of o).writes v) (behind v))) (λ v. IsTrue (behind v)) o → HasOneAccess (accesses o.action)
      → OneOp (variables frame) instructions seen_of test_of put_op put_test (numbers slots low) (test_numbers slots low) Agree o behind
  one_op o behind is one = record {
    goes = λ σ σ1 b ns a e. let d = operation_does o (λ v. transfer (among (seen_of o).reads v) (among (seen_of o).writes v) (behind v)) behind is one σ σ1 b ns a e in (d.now, d.does, d.agrees);
  }

  -- ---- tests
  told_so : (ns ms : List ℕ) (z : Bool) (x : Option Bool) → over.answer ns x ≡ went ms z → (x ≡ Some z) × (ns ≡ ms)
  told_so ns ms z None e = absurd cc
  told_so ns ms z (Some y) e = (cc, cc)

  answered_so : (k : Condition) (x : Attempt (Unit {0}) State) (ms : List ℕ) (z : Bool) → over.answer_behind k x ≡ went ms z → (τ : State) × (x ≡ went ms τ) × (holds_in k τ ≡ Some z)
  answered_so k (stuck w) ms z e = absurd cc
  answered_so k (went ns τ) ms z e = let t = told_so ns ms z (holds_in k τ) e in (τ, ap (λ l. went l τ) t.1, t.0)

  either : (z : Bool) (a b : Bool) → IsTrue (if z then a else b) → IsTrue (a || b)
  either true a b t = rw t refl
  either false true b t = refl
  either false false b t = t

  -- behind the branch fewer variables are live
  to_branch : (on off : ℕ → Bool) (z : Bool) (σ : State) (b : Machine) → Agree (λ v. on v || off v) σ b → Agree (λ v. if z then on v else off v) σ b
  to_branch on off z σ b a = agrees_less (λ v. on v || off v) (λ v. if z then on v else off v) σ b (λ v t. either z (on v) (off v) t) a

  pub always_test : (on off : ℕ → Bool) → OneTest (variables frame) instructions seen_of test_of put_op put_test (numbers slots low) (test_numbers slots low) Agree None always on off
  always_test on off = record { goes = λ σ b ns z a e. (went_same ns z e, branch ns z e σ b a) }
    where
      went_same : (ns : List ℕ) (z : Bool) → ◌≡◌ {A = Attempt (Unit {0}) Bool} (went [] true) (went ns z) → ◌≡◌ {A = Attempt FaultKind Bool} (went [] true) (went ns z)
      went_same ns z e = let k : [] ≡ ns = cc in let j : true ≡ z = cc in cc

      branch : (ns : List ℕ) (z : Bool) → ◌≡◌ {A = Attempt (Unit {0}) Bool} (went [] true) (went ns z) → (σ : State) (b : Machine) → Agree on σ b → Agree (λ v. if z then on v else off v) σ b
      branch ns true e σ b a = a
      branch ns false e σ b a = absurd cc

  module _ (o : Operation) (c : Cond) (on off : ℕ → Bool)
      (is : IsPlaced places (λ v. IsTrue (test_before v (Some (seen_of o)) (on v) (off v))) (λ v. IsTrue (on v || off v)) o) (one : HasOneAccess (accesses o.action)) where
    compared_goes : (σ : State) (b : Machine) (ns : List ℕ) (z : Bool) → Agree (λ v. test_before v (Some (seen_of o)) (on v) (off v)) σ b → (variables frame).tests (asks (Some o) (condition.Cc c)) σ ≡ went ns z
        → (instructions.tests (put_test (asks (Some o) (condition.Cc c))) b ≡ went (numbers slots low o ns) z)
        × Agree (λ v. if z then on v else off v) ((variables frame).settled (asks (Some o) (condition.Cc c)) σ) (instructions.settled (put_test (asks (Some o) (condition.Cc c))) b)
    compared_goes σ b ns z a e =
        let t = answered_so (condition.Cc c) ((variables frame).does o σ) ns z e in
        let d = operation_does o (λ v. test_before v (Some (seen_of o)) (on v) (off v)) (λ v. on v || off v) is one σ t.0 b ns a t.1 in
        let h : holds c (state_of d.now) ≡ Some z = holds_too (record { regs = []; rip = 0; flags = t.0.flags }) (state_of d.now) (λ f x k. d.agrees.flags f x k) c z t.2 in (
          ap (λ x. insn.answer_behind c x) d.does ∙ ap (λ x. insn.answer (numbers slots low o ns) x) h,
          subst (λ τ. Agree (λ v. if z then on v else off v) τ (instructions.settled (put_test (asks (Some o) (condition.Cc c))) b)) (sym (ap (λ x. over.state_behind σ x) t.1))
              (subst (λ y. Agree (λ v. if z then on v else off v) t.0 y) (sym (ap (λ x. insn.state_behind b x) d.does)) (to_branch on off z t.0 d.now d.agrees)),
        )

    pub compared_test : OneTest (variables frame) instructions seen_of test_of put_op put_test (numbers slots low) (test_numbers slots low) Agree (Some (seen_of o)) (asks (Some o) (condition.Cc c)) on off
    compared_test = record { goes = compared_goes }

  -- a flag that stands in its place
  set_holds : (f : Flag) (t : Bool) (st : machine.State) → known (flag_of st f) ≡ Some t → holds (is_set f) st ≡ Some t
  unfolding holds
  set_holds Of t st e = e
  set_holds Cf t st e = e
  set_holds Sf t st e = e
  set_holds Pf t st e = e
  set_holds Zf t st e = e

  clear_holds : (f : Flag) (t : Bool) (st : machine.State) → known (flag_of st f) ≡ Some t → holds (is_clear f) st ≡ Some (not t)
  unfolding holds
  clear_holds Of t st e = rw e refl
  clear_holds Cf t st e = rw e refl
  clear_holds Sf t st e = rw e refl
  clear_holds Pf t st e = rw e refl
  clear_holds Zf t st e = rw e refl

  flag_holds : (no' : Bool) (f : Flag) (t z : Bool) (st : machine.State) → known (flag_of st f) ≡ Some t → denied no' t ≡ z → holds (if no' then is_clear f else is_set f) st ≡ Some z
  flag_holds true f t z st e d = clear_holds f t st e ∙ ap Some d
  flag_holds false f t z st e d = set_holds f t st e ∙ ap Some d

  a_truth : (no' z : Bool) (x : Option Value) → option_map (denied no') (truth x) ≡ Some z → (t : Bool) × (x ≡ Some (boolean t)) × (denied no' t ≡ z)
  a_truth no' z None e = absurd cc
  a_truth no' z (Some (word s n)) e = absurd cc
  a_truth no' z (Some (boolean t)) e = (t, refl, cc)

  module _ (v : ℕ) (no' : Bool) (on off : ℕ → Bool) where
    flag_goes : (σ : State) (b : Machine) (ns : List ℕ) (z : Bool) → Agree (λ u. test_before u (Some (test_seen None (condition.Flag v no'))) (on u) (off u)) σ b → (variables frame).tests (asks None (condition.Flag v no')) σ ≡ went ns z
        → (instructions.tests (put_test (asks None (condition.Flag v no'))) b ≡ went ns z) × Agree (λ u. if z then on u else off u) σ b
    flag_goes σ b ns z a e =
        let t = told_so [] ns z (holds_in (condition.Flag v no') σ) e in
        let k = a_truth no' z (σ.vars v) t.0 in
        let live : IsTrue (test_before v (Some (test_seen None (condition.Flag v no'))) (on v) (off v)) = before_read (among (v ∷ []) v) (among [] v) (on v || off v) (among_itself v) in
        let st = a.vars v (boolean k.0) live k.1 in
        let h : holds (cond_of places slots (condition.Flag v no')) (state_of b) ≡ Some z = flag_holds no' (flag_in (places v)) k.0 z (state_of b) st.1 k.2 in (
          ap (λ x. insn.answer [] x) h ∙ ap (λ l. went l z) t.1,
          to_branch on off z σ b (agrees_less (λ u. test_before u (Some (test_seen None (condition.Flag v no'))) (on u) (off u)) (λ u. on u || off u) σ b
              (λ u l. before_later (among (v ∷ []) u) (among [] u) (on u || off u) refl l) a),
        )
      where
        among_itself : (v : ℕ) → IsTrue (among (v ∷ []) v)
        among_itself v = grind (arith, nat_tests)

    pub flag_test : OneTest (variables frame) instructions seen_of test_of put_op put_test (numbers slots low) (test_numbers slots low) Agree (Some (test_seen None (condition.Flag v no'))) (asks None (condition.Flag v no')) on off
    flag_test = record { goes = flag_goes }
