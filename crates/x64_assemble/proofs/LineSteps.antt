-- A step of lines is a step of the machine over their bytes.
use Rattle.std.proofs.Common.{◌≡◌, ℕ, zero, suc, ◌+◌, ◌-◌, ◌%◌, ◌^◌, ◌<◌, ◌≤◌, Bool, true, false, List, [], ◌∷◌, ◌++◌, length, drop, refl, sym, ap, ◌∙◌, subst, arith, append_assoc, length-append, if◌then◌else◌, ℤ, pos, ◌+ℤ◌, ◌-ℤ◌}
use Rattle.std.specs.Prelude.{Option, Some, None, Ok, map, ◌&&◌, nat_le, nat_lt}
use Rattle.std.specs.Option.{option_to_list}
use Rattle.std.proofs.Math.Seq.{drop-append_seam}
use Rattle.std.proofs.lemmas.Bool.{le-leb, lt-ltb}
use Rattle.std.proofs.lemmas.Int.{ints}
use Rattle.jz_words.specs.declared.size.Size.TheVariants.{S64}
use Rattle.jz_words.specs.Words.{residue}
use Rattle.x64_insn.specs.declared.types.Insn.{Insn}
use Rattle.x64_insn.specs.declared.types.Insn.TheVariants as insn
use Rattle.x64_insn.specs.declared.types.Width.{Width}
use Rattle.x64_insn.specs.declared.types.Width.TheVariants.{Rel8, Rel32}
use Rattle.x64_insn.specs.declared.types.Cond.{Cond}
use Rattle.x64_insn.specs.declared.types.StepLeak.{StepLeak}
use Rattle.x64_insn.specs.Rows.{After, effect_of, holds, no_event, target_of, jcc_row, jmp_row}
use Rattle.x64_insn.specs.Encoding.{Fields, spelling_of, Spells}
use Rattle.x64_insn.specs.Chosen.{chosen_fields, chosen_bytes, is_spelled}
use Rattle.x64_insn.proofs.ChosenSpelling.{chosen_spells}
use Rattle.x64_decode.specs.declared.Decoded.TheVariants as decoded
use Rattle.x64_decode.specs.Decoding.{decoded_of}
use Rattle.x64_decode.proofs.DecodeExact.{read_again}
use Rattle.jz_leak.specs.declared.event.Event.{Event}
use Rattle.x64_machine.specs.declared.step.Step.TheVariants.{Running, Ended}
use Rattle.x64_machine.specs.Steps.{Config, Moved, insn_at, is_ret, at_entry, moved, by_insn, step_of, events_of}
use Rattle.jz_linear.specs.declared.line.Line.{Line}
use Rattle.jz_linear.specs.declared.line.Line.TheVariants as line
use Rattle.jz_placing.specs.Instructions.{Machine}
use Rattle.jz_linear.specs.Plain.{state_at, is_plain}
use Rattle.jz_linear.specs.LineRuns.{at_place, Resolved, Steps, executed, jumped, taken, passed}
use Rattle.jz_linear.proofs.PlainInsns.{moved_to, same_anywhere, holds_at}
use Rattle.x64_assemble.specs.Assembling.{Wide, line_of, line_size, size_of, offset_of, as_insn, insns_from, target_in, insns_of, assembled, AreSpellable}

-- ---- steps whose instruction is known
-- the instruction at a place in the code
pub insn_there : (code : List ℕ) (base place rip : ℕ) → rip ≡ base + place → place < length code → insn_at code base rip ≡ decoded_of (drop place code)
unfolding insn_at
insn_there code base place rip e lt =
    let less : rip - base ≡ place = omega (arith, e) in
    let from : nat_le base rip ≡ true = le-leb base rip (omega (arith, e)) in
    let below : nat_lt (rip - base) (length code) ≡ true = lt-ltb (rip - base) (length code) (omega (arith, less, lt)) in
    ap (λ b. if b && nat_lt (rip - base) (length code) then decoded_of (drop (rip - base) code) else decoded.Unknown) from
    ∙ ap (λ b. if b then decoded_of (drop (rip - base) code) else decoded.Unknown) below
    ∙ ap (λ n. decoded_of (drop n code)) less

-- what an instruction leaves, as a step
abbrev pub made : Config → Bool → After → Moved
made c ends a = record {
  answer = if ends then Ended else Running;
  leak = a.leak;
  after = record c { state = a.state; memory = a.memory; ended = ends };
}

going_on : (code : List ℕ) (base : ℕ) (c : Config) → c.ended ≡ false → step_of code base c ≡ by_insn c (insn_at code base c.state.rip)
unfolding step_of
going_on code base c e = ap (λ b. if b then record { answer = Ended; leak = no_event; after = c } else by_insn c (insn_at code base c.state.rip)) e

pub step_made : (code : List ℕ) (base : ℕ) (c : Config) (i : Insn) (len : ℕ) (ends : Bool) (a : After) → c.ended ≡ false
    → insn_at code base c.state.rip ≡ decoded.Insn i len → (is_ret i && at_entry c) ≡ ends → effect_of i ((c.state.rip + len) % 2 ^ 64) c.state c.memory ≡ Ok a
    → step_of code base c ≡ made c ends a
step_made code base c i len ends a e at is does =
    going_on code base c e ∙ ap (by_insn c) at ∙ ap (λ b. moved c b (effect_of i ((c.state.rip + len) % 2 ^ 64) c.state c.memory)) is ∙ ap (moved c ends) does

-- ---- the bytes of an instruction
fourth : (a b c : List ℕ) (x : ℕ) (rest : List ℕ) → 0 < length (a ++ (b ++ (c ++ ((x ∷ []) ++ rest))))
fourth a b c x rest = omega (
  arith,
  length-append a (b ++ (c ++ ((x ∷ []) ++ rest))),
  length-append b (c ++ ((x ∷ []) ++ rest)),
  length-append c ((x ∷ []) ++ rest),
)

some_byte : (f : Fields) → 0 < length (spelling_of f)
unfolding spelling_of
some_byte f = fourth (option_to_list f.operand_size) (option_to_list f.rex) (option_to_list f.escape) f.opcode _

pub spelled_some : (bs : List ℕ) (i : Insn) → Spells bs i → 0 < length bs
spelled_some bs i h = subst (λ xs. 0 < length xs) h.2 (some_byte h.0)

-- as many bytes as the line says, whatever the displacement
pub jcc_long : (c : Cond) (w : Width) (d : ℤ) (l : ℕ) → length (chosen_bytes (insn.Jcc c w d)) ≡ line_size (line.Jcc c l) w
unfolding chosen_bytes chosen_fields spelling_of
jcc_long c Rel8 d l = refl
jcc_long c Rel32 d l = refl

pub jmp_long : (w : Width) (d : ℤ) (l : ℕ) → length (chosen_bytes (insn.Jmp w d)) ≡ line_size (line.Jmp l) w
unfolding chosen_bytes chosen_fields spelling_of
jmp_long Rel8 d l = refl
jmp_long Rel32 d l = refl

pub call_long : (w : Width) (d : ℤ) (l : ℕ) → length (chosen_bytes (insn.Call d)) ≡ line_size (line.Call l) w
unfolding chosen_bytes chosen_fields spelling_of
call_long w d l = refl

abbrev pub IsLabel : Line → Type 0
IsLabel (line.Label l) = Unit {0}
IsLabel _ = ⊥

long_as : (target : ℕ → ℕ) (x : Line) (w : Width) (next : ℕ) → (IsLabel x → ⊥) → length (chosen_bytes (as_insn target x w next)) ≡ line_size x w
long_as target (line.Insn i) w next h = refl
long_as target (line.Label l) w next h = absurd (h tt)
long_as target (line.Jcc c l) w next h = jcc_long c w _ l
long_as target (line.Jmp l) w next h = jmp_long w _ l
long_as target (line.Call l) w next h = call_long w _ l

abbrev pub NoLabels : List Wide → Type 0
NoLabels [] = Unit {0}
NoLabels (w ∷ ws) = (IsLabel w.line → ⊥) × NoLabels ws

-- the bytes at a place
record Cut (target : ℕ → ℕ) (at : ℕ) (ws : List Wide) (k : ℕ) (w : Wide) : Type 0 where
  front : List ℕ
  rest : List ℕ
  bytes : assembled (insns_from target at ws) ≡ front ++ (chosen_bytes (as_insn target w.line w.width (at + offset_of ws (suc k))) ++ rest)
  long : length front ≡ offset_of ws k
  next : offset_of ws (suc k) ≡ offset_of ws k + size_of w
  spelled : is_spelled (as_insn target w.line w.width (at + offset_of ws (suc k))) ≡ true

cut_at : (target : ℕ → ℕ) (ws : List Wide) (k : ℕ) (at : ℕ) (w : Wide) → NoLabels ws → AreSpellable (insns_from target at ws) → at_place ws k ≡ Some w → Cut target at ws k w
cut_at target [] k at w nl are e = absurd cc
cut_at target (x ∷ ws) zero at w nl are e =
    let same : x ≡ w = cc in
    let n : at + (size_of x + offset_of ws 0) ≡ at + size_of x = omega (arith, zero_offset ws) in
    subst (λ y. Cut target at (x ∷ ws) 0 y) same (record {
      front = [];
      rest = assembled (insns_from target (at + size_of x) ws);
      bytes = ap (λ m. chosen_bytes (as_insn target x.line x.width m) ++ assembled (insns_from target (at + size_of x) ws)) (sym n);
      long = refl;
      next = omega (arith, zero_offset ws);
      spelled = ap (λ m. is_spelled (as_insn target x.line x.width m)) n ∙ are.0;
    })
  where
    zero_offset : (ws : List Wide) → offset_of ws 0 ≡ 0
    zero_offset [] = refl
    zero_offset (w ∷ ws) = refl
cut_at target (x ∷ ws) (suc k) at w nl are e =
    let c = cut_at target ws k (at + size_of x) w nl.1 are.1 e in
    let i = as_insn target x.line x.width (at + size_of x) in
    let n : at + size_of x + offset_of ws (suc k) ≡ at + (size_of x + offset_of ws (suc k)) = omega arith in
    record {
      front = chosen_bytes i ++ c.front;
      rest = c.rest;
      bytes = ap (λ bs. chosen_bytes i ++ bs) (c.bytes ∙ ap (λ m. c.front ++ (chosen_bytes (as_insn target w.line w.width m) ++ c.rest)) n) ∙ sym (append_assoc (chosen_bytes i) c.front _);
      long = omega (arith, length-append (chosen_bytes i) c.front, c.long, long_as target x.line x.width (at + size_of x) nl.0);
      next = omega (arith, c.next);
      spelled = ap (λ m. is_spelled (as_insn target w.line w.width m)) (sym n) ∙ c.spelled;
    }

-- ---- displacements
back_to : (base o t : ℕ) → base + t < 2 ^ 64 → residue S64 (pos (base + o) +ℤ (pos t -ℤ pos o)) ≡ base + t
back_to base o t lt =
    let e : pos (base + o) +ℤ (pos t -ℤ pos o) ≡ pos (base + t) = omega (arith, ints) in
    ap (residue S64) e ∙ omega (arith, lt)

-- the lines, with the places of labels
abbrev pub lines_in : List Wide → (ℕ → ℕ) → Resolved
lines_in ws place = record { code = map line_of ws; place = place }

-- the machine where the lines stand at a place; the entry's stack pointer and return address never change
abbrev pub config_in : List Wide → ℕ → ℕ → Option ℕ → ℕ → Machine → Config
config_in ws base entry_rsp entry_return pc s = record {
  state = state_at s (base + offset_of ws pc);
  memory = s.memory;
  ended = false;
  entry_rsp = entry_rsp;
  entry_return = entry_return;
}

-- ---- one step
module _ (ws : List Wide) (place : ℕ → ℕ) (nl : NoLabels ws) (are : AreSpellable (insns_of ws place)) (base : ℕ) (code : List ℕ) (is : code ≡ assembled (insns_of ws place)) (fits : base + length code ≤ 2 ^ 64) where
  abbrev lines : Resolved
  lines = lines_in ws place

  abbrev target : ℕ → ℕ
  target = target_in ws place

  with_width : (xs : List Wide) (k : ℕ) (x : Line) → at_place (map line_of xs) k ≡ Some x → (w : Wide) × (at_place xs k ≡ Some w) × (w.line ≡ x)
  with_width [] k x e = absurd cc
  with_width (w ∷ xs) zero x e = (w, refl, cc)
  with_width (w ∷ xs) (suc k) x e = with_width xs k x e

  -- what stands at a place: where its bytes begin and end, and that it is decoded there
  pub record Stands (pc : ℕ) (i : Insn) : Type 0 where
    pub here : (rip : ℕ) → rip ≡ base + offset_of ws pc → insn_at code base rip ≡ decoded.Insn i (length (chosen_bytes i))
    pub behind : offset_of ws pc + length (chosen_bytes i) ≡ offset_of ws (suc pc)
    pub below : offset_of ws pc < length code
    pub till : offset_of ws (suc pc) ≤ length code

  stands : (pc : ℕ) (w : Wide) → at_place ws pc ≡ Some w → (IsLabel w.line → ⊥) → Stands pc (as_insn target w.line w.width (offset_of ws (suc pc)))
  stands pc w e ll =
      let c = cut_at target ws pc 0 w nl are e in
      let i = as_insn target w.line w.width (offset_of ws (suc pc)) in
      let zero_on : 0 + offset_of ws (suc pc) ≡ offset_of ws (suc pc) = omega arith in
      let spelled : is_spelled i ≡ true = ap (λ m. is_spelled (as_insn target w.line w.width m)) (sym zero_on) ∙ c.spelled in
      let bytes : code ≡ c.front ++ (chosen_bytes i ++ c.rest) = is ∙ c.bytes ∙ ap (λ m. c.front ++ (chosen_bytes (as_insn target w.line w.width m) ++ c.rest)) zero_on in
      let some = spelled_some (chosen_bytes i) i (chosen_spells i spelled) in
      let long = long_as target w.line w.width (offset_of ws (suc pc)) ll in
      let all : length code ≡ length c.front + (length (chosen_bytes i) + length c.rest) = omega (arith, ap length bytes, length-append c.front (chosen_bytes i ++ c.rest), length-append (chosen_bytes i) c.rest) in
      record {
        here = λ rip at. insn_there code base (length c.front) rip (omega (arith, at, c.long)) (omega (arith, all, some))
            ∙ ap (λ xs. decoded_of (drop (length c.front) xs)) bytes ∙ ap decoded_of (drop-append_seam c.front (chosen_bytes i ++ c.rest)) ∙ read_again (chosen_bytes i) c.rest i (chosen_spells i spelled);
        behind = omega (arith, long, c.next);
        below = omega (arith, all, some, c.long);
        till = omega (arith, all, long, c.next, c.long);
      }

  place_some : {A : Type 0} (xs : List A) (k : ℕ) (x : A) → at_place xs k ≡ Some x → k < length xs
  place_some [] k x e = absurd cc
  place_some (y ∷ xs) zero x e = omega arith
  place_some (y ∷ xs) (suc k) x e = let h = place_some xs k x e in omega (arith, h)

  some_place : {A : Type 0} (xs : List A) (k : ℕ) → k < length xs → (x : A) × (at_place xs k ≡ Some x)
  some_place [] k lt = absurd (omega (arith, lt))
  some_place (y ∷ xs) zero lt = (y, refl)
  some_place (y ∷ xs) (suc k) lt = some_place xs k (omega (arith, lt))

  pub stands_line : (pc : ℕ) (x : Line) → at_place lines.code pc ≡ Some x → (IsLabel x → ⊥) → (w : Width) × Stands pc (as_insn target x w (offset_of ws (suc pc)))
  stands_line pc x e ll =
      let v = with_width ws pc x e in
      (v.0.width, subst (λ l. Stands pc (as_insn target l v.0.width (offset_of ws (suc pc)))) v.2 (stands pc v.0 v.1 (λ h. ll (subst IsLabel v.2 h))))

  no_labels_at : (xs : List Wide) (k : ℕ) (w : Wide) → NoLabels xs → at_place xs k ≡ Some w → IsLabel w.line → ⊥
  no_labels_at [] k w h e l = absurd cc
  no_labels_at (x ∷ xs) zero w h e l = let same : x ≡ w = cc in h.0 (subst (λ y. IsLabel y.line) (sym same) l)
  no_labels_at (x ∷ xs) (suc k) w h e l = no_labels_at xs k w h.1 e l

  -- a place of an instruction lies inside the code
  pub inside : (pc : ℕ) → pc < length ws → offset_of ws pc < length code
  inside pc lt = let v = some_place ws pc lt in (stands pc v.0 v.1 (no_labels_at ws pc v.0 nl v.1)).below

  plain_goes_on : (i : Insn) → is_plain i ≡ true → is_ret i ≡ false
  plain_goes_on insn.Ret h = absurd cc
  plain_goes_on _ h = refl

  module _ (entry_rsp : ℕ) (entry_return : Option ℕ) where
    abbrev at : ℕ → Machine → Config
    at pc s = config_in ws base entry_rsp entry_return pc s

    -- the machine makes this step, and shows these events
    pub record Made (pc : ℕ) (s : Machine) (es : List Event) (pc1 : ℕ) (s1 : Machine) : Type 0 where
      pub leak : StepLeak
      pub step : step_of code base (at pc s) ≡ record { answer = Running; leak = leak; after = at pc1 s1 }
      pub shows : events_of leak ≡ es

    next_rip : (pc : ℕ) (i : Insn) → Stands pc i → suc pc < length ws → (base + offset_of ws pc + length (chosen_bytes i)) % 2 ^ 64 ≡ base + offset_of ws (suc pc)
    next_rip pc i t lt = let b = t.behind in let n = inside (suc pc) lt in omega (arith, b, n, fits)

    jump_does : (w : Width) (d : ℤ) (next rip : ℕ) (s : Machine) → effect_of (insn.Jmp w d) next (state_at s rip) s.memory ≡ Ok (record { state = state_at s (target_of next d); memory = s.memory; leak = no_event })
    unfolding jmp_row
    jump_does w d next rip s = refl

    jcc_does : (k : Cond) (w : Width) (d : ℤ) (next rip : ℕ) (s : Machine) (z : Bool) → holds k (state_at s 0) ≡ Some z
        → effect_of (insn.Jcc k w d) next (state_at s rip) s.memory ≡ Ok (record { state = state_at s (if z then target_of next d else next); memory = s.memory; leak = record { branch = Some z; addr = None; div = None } })
    unfolding jcc_row
    jcc_does k w d next rip s z e = rw (holds_at k s rip, e) refl

    pub made_step : {pc pc1 : ℕ} {s s1 : Machine} {es : List Event} → Steps lines pc s es pc1 s1 → suc pc < length ws → pc1 < length ws → Made pc s es pc1 s1
    made_step {pc} {s} (executed i a e plain does) lt lt1 =
        let t = (stands_line pc (line.Insn i) e (λ h. h)).1 in
        let rip = base + offset_of ws pc in
        let next = (rip + length (chosen_bytes i)) % 2 ^ 64 in
        let n : suc pc ≡ pc + 1 = omega arith in
        let to : next ≡ base + offset_of ws (pc + 1) = next_rip pc i t lt ∙ ap (λ k. base + offset_of ws k) n in
        let row : effect_of i next (state_at s rip) s.memory ≡ Ok (record a { state = record a.state { rip = next } }) = same_anywhere next rip s i plain ∙ ap (moved_to next) does in
        let step = step_made code base (at pc s) i (length (chosen_bytes i)) false _ refl (t.here rip refl) (ap (λ b. b && at_entry (at pc s)) (plain_goes_on i plain)) row in
        record {
          leak = a.leak;
          step = step ∙ ap (λ r. led_to a r) to;
          shows = refl;
        }
      where
        led_to : After → ℕ → Moved
        led_to a r = made (at pc s) false (record a { state = record a.state { rip = r } })
    made_step {pc} {s} (jumped l e) lt lt1 =
        let j = stands_line pc (line.Jmp l) e (λ h. h) in
        let d = pos (target l) -ℤ pos (offset_of ws (suc pc)) in
        let i = insn.Jmp j.0 d in
        let rip = base + offset_of ws pc in
        let next = (rip + length (chosen_bytes i)) % 2 ^ 64 in
        let room = inside (place l) lt1 in
        let to : target_of next d ≡ base + offset_of ws (place l) = ap (λ m. target_of m d) (next_rip pc i j.1 lt) ∙ back_to base (offset_of ws (suc pc)) (target l) (omega (arith, room, fits)) in
        let step = step_made code base (at pc s) i (length (chosen_bytes i)) false _ refl (j.1.here rip refl) refl (jump_does j.0 d next rip s) in
        record {
          leak = no_event;
          step = step ∙ ap (λ r. made (at pc s) false (record { state = state_at s r; memory = s.memory; leak = no_event })) to;
          shows = refl;
        }
    made_step {pc} {s} (taken k l e h) lt lt1 =
        let j = stands_line pc (line.Jcc k l) e (λ h. h) in
        let d = pos (target l) -ℤ pos (offset_of ws (suc pc)) in
        let i = insn.Jcc k j.0 d in
        let rip = base + offset_of ws pc in
        let next = (rip + length (chosen_bytes i)) % 2 ^ 64 in
        let room = inside (place l) lt1 in
        let to : target_of next d ≡ base + offset_of ws (place l) = ap (λ m. target_of m d) (next_rip pc i j.1 lt) ∙ back_to base (offset_of ws (suc pc)) (target l) (omega (arith, room, fits)) in
        let step = step_made code base (at pc s) i (length (chosen_bytes i)) false _ refl (j.1.here rip refl) refl (jcc_does k j.0 d next rip s true h) in
        record {
          leak = record { branch = Some true; addr = None; div = None };
          step = step ∙ ap (λ r. made (at pc s) false (record { state = state_at s r; memory = s.memory; leak = record { branch = Some true; addr = None; div = None } })) to;
          shows = refl;
        }
    made_step {pc} {s} (passed k l e h) lt lt1 =
        let j = stands_line pc (line.Jcc k l) e (λ h. h) in
        let d = pos (target l) -ℤ pos (offset_of ws (suc pc)) in
        let i = insn.Jcc k j.0 d in
        let rip = base + offset_of ws pc in
        let next = (rip + length (chosen_bytes i)) % 2 ^ 64 in
        let n : suc pc ≡ pc + 1 = omega arith in
        let to : next ≡ base + offset_of ws (pc + 1) = next_rip pc i j.1 lt ∙ ap (λ k. base + offset_of ws k) n in
        let step = step_made code base (at pc s) i (length (chosen_bytes i)) false _ refl (j.1.here rip refl) refl (jcc_does k j.0 d next rip s false h) in
        record {
          leak = record { branch = Some false; addr = None; div = None };
          step = step ∙ ap (λ r. made (at pc s) false (record { state = state_at s r; memory = s.memory; leak = record { branch = Some false; addr = None; div = None } })) to;
          shows = refl;
        }
