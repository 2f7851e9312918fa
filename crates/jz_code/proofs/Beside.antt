-- From the entry of a function on, its bytes do what its body over variables does.
use Rattle.std.proofs.Common.{◌≡◌, ◌≢◌, ℕ, ◌+◌, ◌-◌, ◌*◌, ◌%◌, ◌^◌, ◌<◌, ◌≤◌, ◌⊎◌, inl, inr, ⊎_elim, Bool, true, false, List, [], ◌∷◌, length, IsTrue, cond, refl, sym, ap, ◌∙◌, subst, arith}
use Rattle.std.specs.Prelude.{Option, Some, None, is_some, slice_index, Contains}
use Rattle.std.specs.FinMap.{get}
use Rattle.std.specs.List.{AllByRecursion, list_any, filter}
use Rattle.std.proofs.lemmas.List.{get_or-set_other, get_or-set_same, length-set}
use Rattle.jz_words.specs.Sizes.{modulus}
use Rattle.x64_insn.specs.declared.types.Place.{Place}
use Rattle.x64_insn.specs.declared.types.Place.TheVariants as place
use Rattle.x64_insn.specs.declared.types.Reg.{Reg}
use Rattle.x64_insn.specs.declared.types.Reg.TheVariants as reg
use Rattle.x64_insn.specs.declared.types.State as machine
use Rattle.x64_insn.specs.declared.types.FaultKind.{FaultKind}
use Rattle.x64_insn.specs.Table.{number_of}
use Rattle.x64_insn.proofs.Registers.{same_register}
use Rattle.jz_ir.specs.Places.{place_at}
use Rattle.jz_leak.specs.RunLeaks.{Leak}
use Rattle.jz_runs.specs.Rules.{Outcome, End, Cut, Stuck, Goes}
use Rattle.jz_runs.proofs.Steady.{one_outcome, has_outcome}
use Rattle.x64_machine.specs.Steps.{Config}
use Rattle.jz_live.specs.Lives.{live_before}
use Rattle.jz_operations.specs.Values.{Value, word, boolean, State}
use Rattle.jz_operations.specs.Rows.{Frame}
use Rattle.jz_operations.specs.Insns.{reg_of}
use Rattle.jz_operations.specs.Standing.{Stands}
use Rattle.jz_operations.specs.Frames.{IsLaid, Holds}
use Rattle.jz_operations.proofs.Bytes.{loaded_same}
use Rattle.jz_placing.specs.Instructions.{Machine, state_of, Code, instructions}
use Rattle.jz_placing.specs.Variables.{variables}
use Rattle.jz_placing.specs.Following.{Follows, ended, was_cut, was_stuck}
use Rattle.jz_placing.specs.Placing.{code_of, leak_of}
use Rattle.jz_place.specs.declared.tree.Ir.{Ir}
use Rattle.jz_place.specs.declared.tree.Passed.{Passed}
use Rattle.jz_place.specs.Bodies.{body_of, returns_of}
use Rattle.jz_place.specs.Laws.{AtEntry, AtReturn, KeepsRuns}
use Rattle.jz_linear.specs.Plain.{IsPlainCode}
use Rattle.jz_linear.specs.Lines.{linear_of}
use Rattle.jz_linear.proofs.KeptRegs.{register_kept}
use Rattle.jz_correct.specs.Frames.{preserved_registers, names, saved_of}
use Rattle.x64_assemble.specs.Assembling.{total}
use Rattle.x64_assemble.specs.CodeRuns.{Going, EndsAt, entered_at}
use Rattle.jz_stack.specs.Framed.{insns_in, framed}
use Rattle.jz_stack.specs.FrameRuns as frames
use Rattle.jz_stack.specs.FrameRuns.{Shape, Among, NotAmong, IsShape, IsBegun, Keeps, BodyKeeps, FunctionDoes}
use Rattle.jz_stack.proofs.FrameLaw.{function_does}
use Rattle.jz_events.specs.Cases.{transformer_over}
use Rattle.jz_events.proofs.Law.{all_fit, all_show}
use Rattle.jz_code.specs.Entries.{IsWordAt, StandsAtEntry, ResultStands, StandsAtReturn}
use Rattle.jz_code.specs.Runs.{Function, RunEnds, RunGoesOn, DoesAsItsBody}
use Rattle.jz_code.proofs.Trees.{each_lives, both_each}
use Rattle.jz_code.proofs.Shapes.{member, preserved_other, among_filtered, not_among_filtered}
use Rattle.jz_code.proofs.Unnamed.{all_spared}

-- ---- outcomes
end_stuck : {S W L : Type 0} {s : S} {n : ℕ} {l : L} {w : W} → ◌≡◌ {A = Outcome S W L} (End s n l) (Stuck w) → ⊥
end_stuck e = cc

cut_stuck : {S W L : Type 0} {l : L} {w : W} → ◌≡◌ {A = Outcome S W L} (Cut l) (Stuck w) → ⊥
cut_stuck e = cc

end_cut : {S W L : Type 0} {s : S} {n : ℕ} {l k : L} → ◌≡◌ {A = Outcome S W L} (End s n l) (Cut k) → ⊥
end_cut e = cc

same_end : {S W L : Type 0} {s t : S} {n m : ℕ} {l k : L} → ◌≡◌ {A = Outcome S W L} (End s n l) (End t m k) → s ≡ t
same_end e = cc

abbrev Followed : (Outcome Machine FaultKind Leak → Type 0) → (State → Machine → Type 0) → (Leak → Leak) → Outcome State (Unit {0}) Leak → Type 0
Followed Runs Ends maps (End τ n l) = (t : Machine) × Runs (End t n (maps l)) × Ends τ t
Followed Runs Ends maps (Cut l) = Runs (Cut (maps l))
Followed Runs Ends maps (Stuck w) = Unit {0}

followed : {Runs : Outcome Machine FaultKind Leak → Type 0} {Ends : State → Machine → Type 0} {maps : Leak → Leak} {o : Outcome State (Unit {0}) Leak} → Follows Runs Ends maps o → Followed Runs Ends maps o
followed (ended t r e) = (t, r, e)
followed (was_cut r) = r
followed was_stuck = tt

no_byte : (x y : Option ℕ) → is_some x ≡ is_some y → y ≡ None → x ≡ None
no_byte None y e f = refl
no_byte (Some b) None e f = absurd cc
no_byte (Some b) (Some d) e f = absurd cc

none_there : {A : Type 0} (n : ℕ) → ◌≡◌ {A = Option ℕ} None (Some n) → A
none_there n e = cc

-- ---- registers
other_register : (r : Reg) → r ≢ reg.Rsp → number_of r ≢ 4
other_register r ne e = ne (same_register r reg.Rsp e)

-- a word stays in its register where that keeps its number
stands_too : (x : Value) (r : Reg) (st now : machine.State) → slice_index now.regs (number_of r) ≡ slice_index st.regs (number_of r) → Stands x (place.Reg r) st → Stands x (place.Reg r) now
stands_too (word z n) r st now e h = (h.0, h.1, ap (λ y. y % modulus z) e ∙ h.2)
stands_too (boolean b) r st now e h = absurd (let k = h.0 in cc)

word_register : (x : Value) (p : Place) (st : machine.State) → IsWordAt x p st → (p ≡ place.Reg (reg_of p)) × (reg_of p ≢ reg.Rsp) × Stands x p st
word_register (word z n) p st h = (h.0, h.1, h)
word_register (boolean b) p st h = absurd h

result_register : (x : Value) (r : Reg) (st : machine.State) → Stands x (place.Reg r) st → r ≢ reg.Rsp
result_register (word z n) r st h = h.1
result_register (boolean b) r st h = absurd (let k = h.0 in cc)

module _ (f : Ir) (list : List Place) (frame : Frame) (slots : ℕ → ℕ) (end : ℕ) (laid : IsLaid frame slots end) (shape : Shape)
    (is_saved : shape.saved ≡ saved_of (insns_in (code_of (λ v. place_at list v) slots (body_of f.body))))
    (is_shape : IsShape shape) (below : end ≤ shape.at) (plain : IsPlainCode (code_of (λ v. place_at list v) slots (body_of f.body)))
    (short : total (linear_of (framed shape.size shape.at shape.saved (code_of (λ v. place_at list v) slots (body_of f.body)))) < 2 ^ 31)
    (keeps_all : KeepsRuns f (λ v. place_at list v) slots (code_of (λ v. place_at list v) slots (body_of f.body)))
    (registers : AllByRecursion (λ p. place_at list p.variable.variable ≡ place.Reg p.reg) f.results)
    (free : AllByRecursion (λ p. Contains preserved_registers p.reg → ⊥) f.results) where
  abbrev places : ℕ → Place
  places v = place_at list v

  abbrev code : Code
  code = code_of places slots (body_of f.body)

  abbrev made : Function
  made = record {
    bytes = frames.code_of shape code;
    insns = frames.insns_of shape code;
    size = shape.size;
    transformer = transformer_over slots shape.size shape.at shape.saved (body_of f.body);
  }

  module _ (base rsp0 target : ℕ) (σ : State) (s : Machine) (code_fits : base + length made.bytes ≤ 2 ^ 64) (entry : StandsAtEntry f places shape.size rsp0 target σ s)
      (never : (n : ℕ) → Goes (variables frame) (body_of f.body) n σ (Stuck tt) → ⊥) (b : Machine) (begun : IsBegun shape rsp0 s b) where
    abbrev low : ℕ
    low = rsp0 - shape.size

    abbrev maps : Leak → Leak
    maps = leak_of slots low (body_of f.body)

    -- ---- where the body begins
    regs_stay : (r : Reg) → number_of r ≢ 4 → slice_index b.regs (number_of r) ≡ slice_index s.regs (number_of r)
    regs_stay r ne = ap (λ rs. slice_index rs (number_of r)) begun.regs ∙ get_or-set_other s.regs 4 (number_of r) low 0 ne

    stack_is : slice_index b.regs 4 ≡ low
    stack_is = ap (λ rs. slice_index rs 4) begun.regs ∙ get_or-set_same s.regs 4 low 0 (let room = entry.room in let n = room.sixteen in omega (arith, n))

    order : (q : ℕ) → (q < low + shape.at) ⊎ ((low + shape.at + 8 * length shape.saved ≤ q) ⊎ ((low + shape.at ≤ q) × (q < low + shape.at + 8 * length shape.saved)))
    order q = grind arith

    outside : (q d : ℕ) → get σ.memory q ≡ Some d → (q < low + shape.at) ⊎ (low + shape.at + 8 * length shape.saved ≤ q)
    outside q d e =
        let room = entry.room in
        let h = is_shape.slots in
        let le = room.below in
        ⊎_elim (λ lt. inl lt) (λ o. ⊎_elim (λ g. inr g) (λ p. let l = p.0 in let g = p.1 in none_there d (sym (entry.apart q (omega (arith, l)) (omega (arith, g, h, le))) ∙ e)) o) (order q)

    held : Holds frame slots end b.memory σ.cells σ.memory low b.memory
    held =
        let room = entry.room in
        let h = is_shape.slots in
        let le = room.below in
        let top = room.above in
        record {
          bytes = λ q d e. begun.memory q (outside q d e) ∙ entry.bytes q d e;
          apart = λ q l g. entry.apart q l (omega (arith, g, below, h, le));
          words = λ v z i n has e. none_there n (sym (entry.no_cell v i) ∙ e);
          valid = λ q l g. ap is_some (begun.memory q (inl (omega (arith, g, below)))) ∙ room.valid q l (omega (arith, g, below, h, le));
          fits = omega (arith, below, h, le, top);
          others = λ q none out. refl;
        }

    var_stands : (x : Value) (p : Place) → IsWordAt x p (state_of s) → Stands x p (state_of b)
    var_stands x p h =
        let w = word_register x p (state_of s) h in
        let there : Stands x (place.Reg (reg_of p)) (state_of s) = subst (λ q. Stands x q (state_of s)) w.0 w.2 in
        subst (λ q. Stands x q (state_of b)) (sym w.0) (stands_too x (reg_of p) (state_of s) (state_of b) (regs_stay (reg_of p) (other_register (reg_of p) w.1)) there)

    at_entry : AtEntry f places frame slots end low σ.memory b.memory σ b
    at_entry = record {
      vars = λ v x live e. var_stands x (places v) (entry.vars v x live e);
      left = λ r x e. absurd (let k : None ≡ Some x = sym (entry.no_left r) ∙ e in cc);
      flags = λ g t e. absurd (entry.no_flag g t e);
      holds = record {
        stack = stack_is;
        same = λ q. refl;
        holds = subst (λ (x : ℕ). Holds frame slots end b.memory σ.cells σ.memory x b.memory) (sym stack_is) held;
      };
      sixteen = ap length begun.regs ∙ length-set s.regs 4 low ∙ entry.room.sixteen;
      five = begun.flags entry.flags;
    }

    -- ---- the run that follows
    abbrev Returns : State → Machine → Type 0
    Returns = AtReturn f places frame slots end low σ.memory b.memory

    follow : (n : ℕ) (o : Outcome State (Unit {0}) Leak) → Goes (variables frame) (body_of f.body) n σ o → Followed (Goes instructions code n b) Returns maps o
    follow n o g = followed (keeps_all frame end low σ.memory b.memory n σ o b laid g at_entry)

    code_never : (n : ℕ) (w : FaultKind) → Goes instructions code n b (Stuck w) → ⊥
    code_never n w g = let x = has_outcome (variables frame) (body_of f.body) n σ in by_outcome x.0 x.1 (follow n x.0 x.1)
      where
        by_outcome : (o : Outcome State (Unit {0}) Leak) → Goes (variables frame) (body_of f.body) n σ o → Followed (Goes instructions code n b) Returns maps o → ⊥
        by_outcome (End τ m l) r h = end_stuck (one_outcome instructions h.1 g)
        by_outcome (Cut l) r h = cut_stuck (one_outcome instructions h g)
        by_outcome (Stuck tt) r h = never n r

    -- the end of the code is that of a run of the body
    ends_so : (n left : ℕ) (t : Machine) (k : Leak) → Goes instructions code n b (End t left k) → (τ : State) × Returns τ t
    ends_so n left t k g = let x = has_outcome (variables frame) (body_of f.body) n σ in by_outcome x.0 x.1 (follow n x.0 x.1)
      where
        by_outcome : (o : Outcome State (Unit {0}) Leak) → Goes (variables frame) (body_of f.body) n σ o → Followed (Goes instructions code n b) Returns maps o → (τ : State) × Returns τ t
        by_outcome (End τ m l) r h = (τ, subst (Returns τ) (same_end (one_outcome instructions h.1 g)) h.2)
        by_outcome (Cut l) r h = absurd (end_cut (one_outcome instructions g h))
        by_outcome (Stuck tt) r h = absurd (never n r)

    -- ---- what stays
    stays : (τ : State) (t : Machine) → Returns τ t → (q : ℕ) → get σ.memory q ≡ None → (q < low) ⊎ (low + end ≤ q) → get t.memory q ≡ get b.memory q
    stays τ t h q none out =
        let rsp = h.holds.stack in
        h.holds.holds.others q (no_byte (get τ.memory q) (get σ.memory q) (h.holds.same q) none) (⊎_elim (λ lt. inl (omega (arith, lt, rsp))) (λ le. inr (omega (arith, le, rsp))) out)

    others_stay : (τ : State) (t : Machine) → Returns τ t → (q : ℕ) → get σ.memory q ≡ None → (q < low) ⊎ (rsp0 ≤ q) → get t.memory q ≡ get s.memory q
    others_stay τ t h q none out =
        let room = entry.room in
        let slots_in' = is_shape.slots in
        let le = room.below in
        stays τ t h q none (⊎_elim (λ lt. inl lt) (λ ge. inr (omega (arith, ge, below, slots_in', le))) out)
        ∙ begun.memory q (⊎_elim (λ lt. inl (omega (arith, lt))) (λ ge. inr (omega (arith, ge, slots_in', le))) out)

    keeps_by : (τ : State) (t : Machine) → Returns τ t → Keeps shape rsp0 target b t
    keeps_by τ t h =
        let room = entry.room in
        let top = room.above in
        let le = room.below in
        let slots_in' = is_shape.slots in
        record {
          sixteen = h.sixteen;
          stack = h.holds.stack;
          slots = λ q l g. stays τ t h q (entry.apart q (omega (arith, l)) (omega (arith, g, slots_in', le))) (inr (omega (arith, l, below)));
          return = loaded_same t.memory s.memory rsp0 8 top (λ q l g. others_stay τ t h q (entry.apart q (omega (arith, l, le)) g) (inr l)) ∙ entry.return;
        }

    body_keeps : BodyKeeps shape code rsp0 target b
    body_keeps = record {
      never_stuck = code_never;
      keeps = λ n left t k g. let x = ends_so n left t k g in keeps_by x.0 t x.1;
    }

    -- ---- the registers of the caller
    not_saved : (r : Reg) → (t : Bool) → list_any (λ i. names i r) (insns_in code) ≡ t → t ≡ false → NotAmong shape.saved r
    not_saved r t e z =
        subst (λ rs. NotAmong rs r) (sym is_saved)
        (not_among_filtered (λ x. list_any (λ i. names i x) (insns_in code)) preserved_registers r
        (λ q pq same. absurd (let k : list_any (λ i. names i r) (insns_in code) ≡ true = subst (λ x. list_any (λ i. names i x) (insns_in code) ≡ true) (same_register q r same) pq in let j : true ≡ false = sym k ∙ e ∙ z in cc)))

    preserved_by : (r : Reg) → Contains preserved_registers r → (n left : ℕ) (t : Machine) (k : Leak) → Goes instructions code n b (End t left k) → (last : Config) → frames.IsUndone shape.saved rsp0 s t last
        → (z : Bool) → list_any (λ i. names i r) (insns_in code) ≡ z → slice_index last.state.regs (number_of r) ≡ slice_index s.regs (number_of r)
    preserved_by r among n left t k g last undone true e =
        let w = entry.words r in
        let saved_there : Among shape.saved r = subst (λ rs. Among rs r) (sym is_saved) (among_filtered (λ x. list_any (λ i. names i x) (insns_in code)) preserved_registers r (member preserved_registers r among) e) in
        undone.back r saved_there ∙ omega (arith, w)
    preserved_by r among n left t k g last undone false e =
        let o = preserved_other r (member preserved_registers r among) in
        let kept = register_kept r g (all_spared r o code plain e) in
        undone.others r (not_saved r false e refl) o.not_rsp ∙ kept.word ∙ regs_stay r o.not_rsp

    -- ---- the results
    unsaved : (r : Reg) → (Contains preserved_registers r → ⊥) → (q : Reg) → Among preserved_registers q → number_of q ≢ number_of r
    unsaved r free' q a e = free' (subst (Contains preserved_registers) (same_register q r e) (contains q a))
      where
        contains : (q : Reg) → Among preserved_registers q → Contains preserved_registers q
        contains q (inl e) = (0, omega arith, e)
        contains q (inr (inl e)) = (1, omega arith, e)
        contains q (inr (inr (inl e))) = (2, omega arith, e)
        contains q (inr (inr (inr (inl e)))) = (3, omega arith, e)
        contains q (inr (inr (inr (inr (inl e))))) = (4, omega arith, e)
        contains q (inr (inr (inr (inr (inr (inl e)))))) = (5, omega arith, e)
        contains q (inr (inr (inr (inr (inr (inr e)))))) = absurd e

    not_among : (rs : List Reg) (r : Reg) → ((q : Reg) → Among rs q → number_of q ≢ number_of r) → NotAmong rs r
    not_among [] r h = tt
    not_among (q ∷ rs) r h = (h q (inl refl), not_among rs r (λ x a. h x (inr a)))

    filtered_from : (p : Reg → Bool) (rs : List Reg) (r : Reg) → Among (filter p rs) r → Among rs r
    filtered_from p [] r a = a
    filtered_from p (q ∷ rs) r a = by_test (p q) a (λ x. filtered_from p rs r x)
      where
        by_test : (z : Bool) → Among (cond z (q ∷ filter p rs) (filter p rs)) r → (Among (filter p rs) r → Among rs r) → Among (q ∷ rs) r
        by_test true (inl e) k = inl e
        by_test true (inr x) k = inr (k x)
        by_test false x k = inr (k x)

    result_unsaved : (r : Reg) → (Contains preserved_registers r → ⊥) → NotAmong shape.saved r
    result_unsaved r free' =
        subst (λ rs. NotAmong rs r) (sym is_saved)
        (not_among (saved_of (insns_in code)) r (λ q a. unsaved r free' q (filtered_from (λ x. list_any (λ i. names i x) (insns_in code)) preserved_registers q a)))

    result_by : (τ : State) (t : Machine) → Returns τ t → (last : Config) → frames.IsUndone shape.saved rsp0 s t last → (p : Passed) → IsTrue (live_before p.variable.variable (returns_of f) false)
        → (places p.variable.variable ≡ place.Reg p.reg) × (Contains preserved_registers p.reg → ⊥) → ResultStands τ last p
    result_by τ t h last undone p live q x e =
        let there : Stands x (place.Reg p.reg) (state_of t) = subst (λ y. Stands x y (state_of t)) q.0 (h.vars p.variable.variable x live e) in
        let ne = other_register p.reg (result_register x p.reg (state_of t) there) in
        stands_too x p.reg (state_of t) last.state (undone.others p.reg (result_unsaved p.reg q.1) ne) there

    returned : (τ : State) (n left : ℕ) (t : Machine) (k : Leak) → Goes instructions code n b (End t left k) → Returns τ t → (last : Config) → frames.IsUndone shape.saved rsp0 s t last → StandsAtReturn f shape.size rsp0 σ s τ last
    returned τ n left t k g h last undone = record {
      results = each_lives f.results (λ p. (places p.variable.variable ≡ place.Reg p.reg) × (Contains preserved_registers p.reg → ⊥)) (ResultStands τ last) (λ p live q. result_by τ t h last undone p live q)
          (both_each f.results (λ p. places p.variable.variable ≡ place.Reg p.reg) (λ p. Contains preserved_registers p.reg → ⊥) registers free);
      bytes = λ q d e. ap (λ m. get m q) undone.memory ∙ h.holds.holds.bytes q d e;
      valid = h.holds.same;
      others = λ q none out. ap (λ m. get m q) undone.memory ∙ others_stay τ t h q none out;
      preserved = λ r among. preserved_by r among n left t k g last undone (list_any (λ i. names i r) (insns_in code)) refl;
      stack = undone.stack;
    }

    -- ---- the bytes
    module _ (does : FunctionDoes shape code base rsp0 target s b) where
      run_ends : (n left : ℕ) (τ : State) (l : Leak) → Goes (variables frame) (body_of f.body) n σ (End τ left l) → RunEnds f made base rsp0 target σ s n τ l
      run_ends n left τ l g =
          let h = follow n (End τ left l) g in
          let e = does.ends n left h.0 (maps l) h.1 in
          let shown = all_show frame slots shape.size shape.at shape.saved (body_of f.body) places n σ (End τ left l) g rsp0 entry.room.below in
          record {
            steps = e.steps;
            within = e.within;
            last = e.last;
            ends = subst (λ es. EndsAt made.bytes base e.steps (entered_at base rsp0 target s) es e.last) (sym shown) e.ends;
            returned = returned τ n left h.0 (maps l) h.1 h.2 e.last e.undone;
          }

      run_goes_on : (n : ℕ) (l : Leak) → Goes (variables frame) (body_of f.body) n σ (Cut l) → RunGoesOn f made base rsp0 target σ s n l
      run_goes_on n l g =
          let h = follow n (Cut l) g in
          let c = does.cuts n (maps l) h in
          let shown = all_show frame slots shape.size shape.at shape.saved (body_of f.body) places n σ (Cut l) g rsp0 entry.room.below in
          record {
            running = c.running;
            steps = c.steps;
            enough = c.enough;
            within = c.within;
            there = c.there;
            going = subst (λ es. Going made.bytes base c.steps (entered_at base rsp0 target s) es c.there) (sym shown) c.going;
          }

      all_does : DoesAsItsBody f made base rsp0 target σ s frame
      all_does = record {
        ends = run_ends;
        goes_on = run_goes_on;
        faults = does.faults;
        ends_fit = λ n left τ l g. all_fit frame slots shape.size shape.at shape.saved (body_of f.body) n σ (End τ left l) g;
        cuts_fit = λ n l g. all_fit frame slots shape.size shape.at shape.saved (body_of f.body) n σ (Cut l) g;
      }

  pub function_runs : (base rsp0 target : ℕ) (σ : State) (s : Machine) → base + length made.bytes ≤ 2 ^ 64 → StandsAtEntry f places shape.size rsp0 target σ s
      → ((n : ℕ) → Goes (variables frame) (body_of f.body) n σ (Stuck tt) → ⊥) → DoesAsItsBody f made base rsp0 target σ s frame
  function_runs base rsp0 target σ s code_fits entry never =
      let law = function_does shape.size shape.at shape.saved is_shape code plain base rsp0 target short code_fits s entry.room in
      all_does base rsp0 target σ s code_fits entry never law.0 law.1 (law.2 (body_keeps base rsp0 target σ s code_fits entry never law.0 law.1))
