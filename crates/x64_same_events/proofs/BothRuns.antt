-- Two runs of one code, step by step.
use Rattle.std.proofs.Common.{◌≡◌, ◌⊎◌, inl, inr, ◌<◌, ◌≤◌, ℕ, zero, suc, ◌+◌, ◌-◌, ◌%◌, ◌^◌, Bool, true, false, ◌&&◌, List, [], ◌∷◌, ◌++◌, length, drop, Option, Some, None, refl, sym, ap, subst, ◌∙◌, arith, if◌then◌else◌, ⊎_elim, length-append}
use Rattle.std.proofs.lemmas.Bool.{cases_lt}
use Rattle.std.specs.Prelude.{◌≢◌, is_some, nat_lt, nat_le, Result, Ok, Err}
use Rattle.std.proofs.lemmas.Bool.Decides.{nat_tests}
use Rattle.x64_insn.specs.declared.types.Insn.{Insn}
use Rattle.x64_insn.specs.declared.types.Insn.TheVariants as insn
use Rattle.x64_insn.specs.declared.types.StepLeak.{StepLeak}
use Rattle.x64_insn.specs.declared.types.FaultKind.{FaultKind}
use Rattle.x64_insn.specs.declared.types.FaultKind.TheVariants.{NoInsn}
use Rattle.x64_insn.specs.Rows.{After, effect_of}
use Rattle.jz_leak.specs.declared.event.Event.{Event}
use Rattle.jz_leak.specs.declared.event.Event.TheVariants as event
use Rattle.x64_decode.specs.declared.Decoded.{Decoded}
use Rattle.x64_decode.specs.declared.Decoded.TheVariants as decoded
use Rattle.x64_decode.specs.Decoding.{decoded_of}
use Rattle.x64_machine.specs.declared.step.Step.TheVariants.{Fault}
use Rattle.x64_machine.specs.Steps.{Config, Moved, Ran, insn_at, at_entry, is_ret, moved, by_insn, step_of, branches_of, accesses_of, divisions_of, events_of, steps_of}
use Rattle.x64_machine.proofs.MachineRunning.{end_stays}
use Rattle.x64_same_events.specs.SameEvents.{ReturnsFromEntry, Begins}
use Rattle.x64_same_events.proofs.BothEffects.{ShowsAsMuch, AtOnePlace, BothLeave, effects, returns_show, next_place, jump_place}

-- ---- what stands at a place of the code, wherever that stands

place_below : (base y n : ℕ) → base + y < 2 ^ 64 → (base + y) % 2 ^ 64 ≡ base + y
place_below base y n lt = omega (arith, lt)

found : (code : List ℕ) (base y : ℕ) → y < 2 ^ 64 → base + length code ≤ 2 ^ 64 → insn_at code base ((base + y) % 2 ^ 64) ≡ (if nat_lt y (length code) then decoded_of (drop y code) else decoded.Unknown)
unfolding insn_at
found code base y lt fits = ⊎_elim inside outside (cases_lt (base + y) (2 ^ 64))
  where
    seen : ℕ → Decoded
    seen r = if nat_le base r && nat_lt (r - base) (length code) then decoded_of (drop (r - base) code) else decoded.Unknown

    inside : base + y < 2 ^ 64 → seen ((base + y) % 2 ^ 64) ≡ (if nat_lt y (length code) then decoded_of (drop y code) else decoded.Unknown)
    inside low =
        let e : (base + y) % 2 ^ 64 ≡ base + y = omega (arith, low) in
        let p : nat_le base (base + y) ≡ true = grind (arith, nat_tests) in
        let q : base + y - base ≡ y = omega arith in
        ap seen e ∙ ap (λ (b : Bool). if b && nat_lt (base + y - base) (length code) then decoded_of (drop (base + y - base) code) else decoded.Unknown) p
        ∙ ap (λ (x : ℕ). if nat_lt x (length code) then decoded_of (drop x code) else decoded.Unknown) q

    outside : 2 ^ 64 ≤ base + y → seen ((base + y) % 2 ^ 64) ≡ (if nat_lt y (length code) then decoded_of (drop y code) else decoded.Unknown)
    outside high =
        let r = (base + y) % 2 ^ 64 in
        let e : r < base = omega (arith, high, lt) in
        let p : nat_le base r ≡ false = grind (arith, nat_tests, e) in
        let u : length code ≤ y = omega (arith, high, fits) in
        let v : nat_lt y (length code) ≡ false = grind (arith, nat_tests, u) in
        ap (λ (b : Bool). if b && nat_lt (r - base) (length code) then decoded_of (drop (r - base) code) else decoded.Unknown) p
        ∙ sym (ap (λ (b : Bool). if b then decoded_of (drop y code) else decoded.Unknown) v)

pub found_alike : (code : List ℕ) (base other r q : ℕ) → base + length code ≤ 2 ^ 64 → other + length code ≤ 2 ^ 64 → AtOnePlace base other r q → insn_at code base r ≡ insn_at code other q
found_alike code base other r q f g h =
    ap (insn_at code base) h.2 ∙ found code base h.0 h.1 f ∙ sym (found code other h.0 h.1 g) ∙ sym (ap (insn_at code other) h.3)

-- no code has no instruction
none_there : (base r : ℕ) → insn_at [] base r ≡ decoded.Unknown
unfolding insn_at
none_there base r = by (nat_le base r) (nat_lt (r - base) 0) (grind (arith, nat_tests))
  where
    by : (b c : Bool) → c ≡ false → (if b && c then decoded_of (drop (r - base) []) else decoded.Unknown) ≡ decoded.Unknown
    by true true e = absurd (cc e)
    by true false e = refl
    by false c e = refl

-- ---- events of a step

some_length : (a b : Option Bool) → is_some a ≡ is_some b → length (branches_of a) ≡ length (branches_of b)
some_length None None e = refl
some_length None (Some y) e = absurd (cc e)
some_length (Some x) None e = absurd (cc e)
some_length (Some x) (Some y) e = refl

access_length : (a b : Option ℕ) → is_some a ≡ is_some b → length (accesses_of a) ≡ length (accesses_of b)
access_length None None e = refl
access_length None (Some y) e = absurd (cc e)
access_length (Some x) None e = absurd (cc e)
access_length (Some x) (Some y) e = refl

division_length : (a b : Option (ℕ × ℕ × ℕ)) → is_some a ≡ is_some b → length (divisions_of a) ≡ length (divisions_of b)
division_length None None e = refl
division_length None (Some y) e = absurd (cc e)
division_length (Some x) None e = absurd (cc e)
division_length (Some x) (Some y) e = refl

as_many : (l r : StepLeak) → ShowsAsMuch l r → length (events_of l) ≡ length (events_of r)
as_many l r h =
    length-append (branches_of l.branch ++ accesses_of l.addr) (divisions_of l.div)
    ∙ ap (λ (n : ℕ). n + length (divisions_of l.div)) (length-append (branches_of l.branch) (accesses_of l.addr))
    ∙ ap (λ (n : ℕ). n + length (accesses_of l.addr) + length (divisions_of l.div)) (some_length l.branch r.branch h.0)
    ∙ ap (λ (n : ℕ). length (branches_of r.branch) + n + length (divisions_of l.div)) (access_length l.addr r.addr h.1)
    ∙ ap (λ (n : ℕ). length (branches_of r.branch) + length (accesses_of r.addr) + n) (division_length l.div r.div h.2)
    ∙ sym (ap (λ (n : ℕ). n + length (divisions_of r.div)) (length-append (branches_of r.branch) (accesses_of r.addr)))
    ∙ sym (length-append (branches_of r.branch ++ accesses_of r.addr) (divisions_of r.div))

abbrev first_event : Event → List Event → Event
first_event d [] = d
first_event d (x ∷ xs) = x

abbrev taken : Event → Bool
taken (event.Branch t) = t
taken (event.Addr a) = false
taken (event.Div h l d) = false

same_branch : (l r : StepLeak) → ShowsAsMuch l r → events_of l ≡ events_of r → l.branch ≡ r.branch
same_branch l r h e = by l.branch r.branch refl refl h.0
  where
    by : (a b : Option Bool) → l.branch ≡ a → r.branch ≡ b → is_some a ≡ is_some b → l.branch ≡ r.branch
    by None None p q i = p ∙ sym q
    by None (Some y) p q i = absurd (cc i)
    by (Some x) None p q i = absurd (cc i)
    by (Some x) (Some y) p q i =
        let f : branches_of (Some x) ++ accesses_of l.addr ++ divisions_of l.div ≡ branches_of (Some y) ++ accesses_of r.addr ++ divisions_of r.div =
        sym (ap (λ (o : Option Bool). branches_of o ++ accesses_of l.addr ++ divisions_of l.div) p) ∙ e ∙ ap (λ (o : Option Bool). branches_of o ++ accesses_of r.addr ++ divisions_of r.div) q in
        p ∙ ap Some (ap (λ (es : List Event). taken (first_event (event.Branch x) es)) f) ∙ sym q

-- ---- one step

-- both have ended, or both go on at one place
abbrev pub BothGo : ℕ → ℕ → Config → Config → Type 0
BothGo base other c d =
    ((c.ended ≡ true) × (d.ended ≡ true)) ⊎ ((c.ended ≡ false) × (d.ended ≡ false) × AtOnePlace base other c.state.rip d.state.rip)

-- they show as much, and go on alike where they show the same
abbrev pub BothStep : ℕ → ℕ → Moved → Moved → Type 0
BothStep base other m k =
    (length (events_of m.leak) ≡ length (events_of k.leak)) × (events_of m.leak ≡ events_of k.leak → BothGo base other m.after k.after)

module _ (base other : ℕ) (c d : Config) where
  done_both : (ends also : Bool) (i : Bool) → ends ≡ i → also ≡ i → (P : ℕ → ℕ → Type 0) → (i ≡ false → (r q : ℕ) → P r q → AtOnePlace base other r q) → (x y : Result After FaultKind) → BothLeave P x y
      → ((f : FaultKind) → (moved c ends x).answer ≢ Fault f) → ((f : FaultKind) → (moved d also y).answer ≢ Fault f) → BothStep base other (moved c ends x) (moved d also y)
  done_both ends also i e f P on (Err p) y h nf ng = absurd (nf p refl)
  done_both ends also i e f P on (Ok a) (Err q) h nf ng = absurd (ng q refl)
  done_both ends also true e f P on (Ok a) (Ok b) h nf ng = (as_many a.leak b.leak h.0, λ q. inl (e, f))
  done_both ends also false e f P on (Ok a) (Ok b) h nf ng = (as_many a.leak b.leak h.0, λ q. inr (e, f, on refl a.state.rip b.state.rip (h.1 (same_branch a.leak b.leak h.0 q))))

  insn_both : (i : Insn) (len : ℕ) → AtOnePlace base other c.state.rip d.state.rip → (i ≡ insn.Ret → at_entry c ≡ true) → (i ≡ insn.Ret → at_entry d ≡ true)
      → ((f : FaultKind) → (by_insn c (decoded.Insn i len)).answer ≢ Fault f) → ((f : FaultKind) → (by_insn d (decoded.Insn i len)).answer ≢ Fault f)
      → BothStep base other (by_insn c (decoded.Insn i len)) (by_insn d (decoded.Insn i len))
  insn_both i len on ret rut nf ng = by (is_ret i) refl
    where
      is_a_ret : (j : Insn) → is_ret j ≡ true → j ≡ insn.Ret
      is_a_ret insn.Ret e = refl
      is_a_ret (insn.Alu op s to from) e = absurd (cc e)
      is_a_ret (insn.Mov s to from) e = absurd (cc e)
      is_a_ret (insn.Extend sign to from r rm) e = absurd (cc e)
      is_a_ret (insn.Lea r a) e = absurd (cc e)
      is_a_ret (insn.One op s rm) e = absurd (cc e)
      is_a_ret (insn.Wide op s rm) e = absurd (cc e)
      is_a_ret (insn.Imul s r rm) e = absurd (cc e)
      is_a_ret (insn.ImulBy s r rm n) e = absurd (cc e)
      is_a_ret (insn.Shift h s rm n) e = absurd (cc e)
      is_a_ret (insn.Bswap s r) e = absurd (cc e)
      is_a_ret insn.Cdq e = absurd (cc e)
      is_a_ret insn.Cqo e = absurd (cc e)
      is_a_ret (insn.Set q rm) e = absurd (cc e)
      is_a_ret (insn.Cmov q s r rm) e = absurd (cc e)
      is_a_ret (insn.Jcc q width n) e = absurd (cc e)
      is_a_ret (insn.Jmp width n) e = absurd (cc e)
      is_a_ret (insn.Call n) e = absurd (cc e)

      on_next : AtOnePlace base other ((c.state.rip + len) % 2 ^ 64) ((d.state.rip + len) % 2 ^ 64)
      on_next = next_place base other c.state.rip d.state.rip len on

      ends_so : (x : Bool) → x ≡ true → (y : Bool) → y ≡ true → (x && y) ≡ true
      ends_so true e true f = refl
      ends_so true e false f = absurd (cc f)
      ends_so false e y f = absurd (cc e)

      not_so : (x y : Bool) → x ≡ false → (x && y) ≡ false
      not_so true y e = absurd (cc e)
      not_so false y e = refl

      ret_leaves : i ≡ insn.Ret → BothLeave (λ r q. Unit {0}) (effect_of i ((c.state.rip + len) % 2 ^ 64) c.state c.memory) (effect_of i ((d.state.rip + len) % 2 ^ 64) d.state d.memory)
      ret_leaves e = subst (λ (j : Insn). BothLeave (λ r q. Unit {0}) (effect_of j ((c.state.rip + len) % 2 ^ 64) c.state c.memory) (effect_of j ((d.state.rip + len) % 2 ^ 64) d.state d.memory)) (sym e) (returns_show c.state d.state c.memory d.memory)

      by : (b : Bool) → is_ret i ≡ b → BothStep base other (by_insn c (decoded.Insn i len)) (by_insn d (decoded.Insn i len))
      by true e =
          let r = is_a_ret i e in
          done_both (is_ret i && at_entry c) (is_ret i && at_entry d) true (ends_so (is_ret i) e (at_entry c) (ret r)) (ends_so (is_ret i) e (at_entry d) (rut r)) (λ p q. Unit {0}) (λ f. absurd (cc f))
          _ _ (ret_leaves r) nf ng
      by false e =
          done_both (is_ret i && at_entry c) (is_ret i && at_entry d) false (not_so (is_ret i) (at_entry c) e) (not_so (is_ret i) (at_entry d) e) (AtOnePlace base other) (λ f r q h. h)
          _ _ (effects (AtOnePlace base other) ((c.state.rip + len) % 2 ^ 64) ((d.state.rip + len) % 2 ^ 64) c.state d.state c.memory d.memory on_next (jump_place base other ((c.state.rip + len) % 2 ^ 64) ((d.state.rip + len) % 2 ^ 64) on_next) i e) nf ng

  decoded_both : (x : Decoded) → AtOnePlace base other c.state.rip d.state.rip → ((len : ℕ) → x ≡ decoded.Insn insn.Ret len → at_entry c ≡ true) → ((len : ℕ) → x ≡ decoded.Insn insn.Ret len → at_entry d ≡ true)
      → ((f : FaultKind) → (by_insn c x).answer ≢ Fault f) → ((f : FaultKind) → (by_insn d x).answer ≢ Fault f) → BothStep base other (by_insn c x) (by_insn d x)
  decoded_both decoded.Unknown on ret rut nf ng = absurd (nf _ refl)
  decoded_both decoded.Truncated on ret rut nf ng = absurd (nf _ refl)
  decoded_both (decoded.Insn i len) on ret rut nf ng = insn_both i len on (λ e. ret len (ap (λ (j : Insn). decoded.Insn j len) e)) (λ e. rut len (ap (λ (j : Insn). decoded.Insn j len) e)) nf ng

-- ---- whole runs

-- a run that never faults, and within so many steps its RET ends it
pub record GoesOn (code : List ℕ) (base : ℕ) (c : Config) (k : ℕ) : Type 0 where
  pub fits : base + length code ≤ 2 ^ 64
  pub no_fault : (j : ℕ) (f : FaultKind) → (step_of code base (steps_of code base c j).after).answer ≢ Fault f
  pub returns : ReturnsFromEntry code base c k

module _ (code : List ℕ) (base : ℕ) where
  running_step : (c : Config) → c.ended ≡ false → step_of code base c ≡ by_insn c (insn_at code base c.state.rip)
  unfolding step_of
  running_step c e = rw e refl

  no_step : (c : Config) → (steps_of code base c zero).after ≡ c
  unfolding steps_of
  no_step c = refl

  more_steps : (c : Config) (k : ℕ) → (steps_of code base c (suc k)).after ≡ (steps_of code base (step_of code base c).after k).after
  unfolding steps_of
  more_steps c k = refl

  more_events : (c : Config) (k : ℕ) → (steps_of code base c (suc k)).events ≡ events_of (step_of code base c).leak ++ (steps_of code base (step_of code base c).after k).events
  unfolding steps_of
  more_events c k = refl

  no_events : (c : Config) → (steps_of code base c zero).events ≡ []
  unfolding steps_of
  no_events c = refl

  -- nothing is shown behind the end
  silent : (k : ℕ) (c : Config) → c.ended ≡ true → (steps_of code base c k).events ≡ []
  silent k c e = ap (λ (r : Ran). r.events) (end_stays code base k c e)

  next_goes : (c : Config) (k : ℕ) → GoesOn code base c (suc k) → GoesOn code base (step_of code base c).after k
  next_goes c k g = record {
    fits = g.fits;
    no_fault = λ j f e. g.no_fault (suc j) f (ap (λ (x : Config). (step_of code base x).answer) (more_steps c j) ∙ e);
    returns = λ j len lt e i. ap at_entry (sym (more_steps c j)) ∙ g.returns (suc j) len (omega (arith, lt)) (ap (λ (x : Config). x.ended) (more_steps c j) ∙ e) (ap (λ (x : Config). insn_at code base x.state.rip) (more_steps c j) ∙ i);
  }

  here_no_fault : (c : Config) (k : ℕ) → GoesOn code base c k → (f : FaultKind) → (step_of code base c).answer ≢ Fault f
  here_no_fault c k g f e = g.no_fault zero f (ap (λ (x : Config). (step_of code base x).answer) (no_step c) ∙ e)

  here_returns : (c : Config) (k : ℕ) → GoesOn code base c (suc k) → c.ended ≡ false → (len : ℕ) → insn_at code base c.state.rip ≡ decoded.Insn insn.Ret len → at_entry c ≡ true
  here_returns c k g e len i = ap at_entry (sym (no_step c)) ∙ g.returns zero len (omega arith) (ap (λ (x : Config). x.ended) (no_step c) ∙ e) (ap (λ (x : Config). insn_at code base x.state.rip) (no_step c) ∙ i)

-- equal lists whose fronts are as long have equal fronts and backs
fronts : (xs ys ps qs : List Event) → length xs ≡ length ys → xs ++ ps ≡ ys ++ qs → (xs ≡ ys) × (ps ≡ qs)
fronts [] [] ps qs n e = (refl, e)
fronts [] (y ∷ ys) ps qs n e = absurd (cc n)
fronts (x ∷ xs) [] ps qs n e = absurd (cc n)
fronts (x ∷ xs) (y ∷ ys) ps qs n e =
    let h = fronts xs ys ps qs (omega (arith, n)) (ap (drop 1) e) in
    (ap (λ (z : Event). z ∷ xs) (ap (first_event x) e) ∙ ap (λ (zs : List Event). y ∷ zs) h.0, h.1)

module _ (code : List ℕ) (base other : ℕ) where
  one_step : (k : ℕ) (c d : Config) → GoesOn code base c (suc k) → GoesOn code other d (suc k) → (c.ended ≡ false) → (d.ended ≡ false) → AtOnePlace base other c.state.rip d.state.rip → BothStep base other (step_of code base c) (step_of code other d)
  one_step k c d g h e f on =
      let same : insn_at code base c.state.rip ≡ insn_at code other d.state.rip = found_alike code base other c.state.rip d.state.rip g.fits h.fits on in
      let x : step_of code other d ≡ by_insn d (insn_at code base c.state.rip) = running_step code other d f ∙ ap (by_insn d) (sym same) in
      subst (λ (m : Moved). BothStep base other m (step_of code other d)) (sym (running_step code base c e))
      (subst (λ (m : Moved). BothStep base other (by_insn c (insn_at code base c.state.rip)) m) (sym x)
      (decoded_both base other c d (insn_at code base c.state.rip) on (here_returns code base c k g e) (λ len i. here_returns code other d k h f len (sym same ∙ i))
      (λ p i. here_no_fault code base c (suc k) g p (ap (λ (m : Moved). m.answer) (running_step code base c e) ∙ i))
      (λ p i. here_no_fault code other d (suc k) h p (ap (λ (m : Moved). m.answer) x ∙ i))))

  both_show : (k i j : ℕ) (c d : Config) → GoesOn code base c k → GoesOn code other d k → BothGo base other c d → k ≤ i → k ≤ j
      → (steps_of code base c i).events ≡ (steps_of code other d j).events → (steps_of code base c k).events ≡ (steps_of code other d k).events
  both_show zero i j c d g h b le more e = no_events code base c ∙ sym (no_events code other d)
  both_show (suc k) zero j c d g h b le more e = absurd (omega (arith, le))
  both_show (suc k) (suc i) zero c d g h b le more e = absurd (omega (arith, more))
  both_show (suc k) (suc i) (suc j) c d g h (inl x) le more e = silent code base (suc k) c x.0 ∙ sym (silent code other (suc k) d x.1)
  both_show (suc k) (suc i) (suc j) c d g h (inr x) le more e =
      let s = one_step k c d g h x.0 x.1 x.2 in
      let f = fronts (events_of (step_of code base c).leak) (events_of (step_of code other d).leak) (steps_of code base (step_of code base c).after i).events (steps_of code other (step_of code other d).after j).events s.0
      (sym (more_events code base c i) ∙ e ∙ more_events code other d j) in
      let r = both_show k i j (step_of code base c).after (step_of code other d).after (next_goes code base c k g) (next_goes code other d k h) (s.1 f.0) (omega (arith, le)) (omega (arith, more)) f.1 in
      more_events code base c k ∙ ap (λ (es : List Event). es ++ (steps_of code base (step_of code base c).after k).events) f.0
      ∙ ap (λ (es : List Event). events_of (step_of code other d).leak ++ es) r ∙ sym (more_events code other d k)

  some_code : (is : List ℕ) (n : ℕ) (c : Config) → c.ended ≡ false → ((f : FaultKind) → (step_of is n c).answer ≢ Fault f) → 0 < length is
  some_code [] n c e nf =
      absurd (nf NoInsn (ap (λ (m : Moved). m.answer) (running_step [] n c e ∙ ap (by_insn c) (none_there n c.state.rip))))
  some_code (x ∷ xs) n c e nf = omega arith

  pub same_events : (s t : Config) → Begins code base s → Begins code other t → (i j k : ℕ) → k ≤ i → k ≤ j → ReturnsFromEntry code base s k → ReturnsFromEntry code other t k
      → (steps_of code base s i).events ≡ (steps_of code other t j).events → (steps_of code base s k).events ≡ (steps_of code other t k).events
  same_events s t a b i j k le more ret rut e =
      both_show k i j s t first second
      (inr (a.running, b.running, (0, omega arith, at_begin base s.state.rip a.entry (below base s first a.running a.fits), at_begin other t.state.rip b.entry (below other t second b.running b.fits)))) le more e
    where
      first : GoesOn code base s k
      first = record { fits = a.fits; no_fault = a.no_fault; returns = ret }

      second : GoesOn code other t k
      second = record { fits = b.fits; no_fault = b.no_fault; returns = rut }

      below : (n : ℕ) (c : Config) → GoesOn code n c k → c.ended ≡ false → n + length code ≤ 2 ^ 64 → n < 2 ^ 64
      below n c g f fits = let p = some_code code n c f (here_no_fault code n c k g) in omega (arith, p, fits)

      at_begin : (n r : ℕ) → r ≡ n → n < 2 ^ 64 → r ≡ (n + 0) % 2 ^ 64
      at_begin n r h lt = omega (arith, h, lt)
