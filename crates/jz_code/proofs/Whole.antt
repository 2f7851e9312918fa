-- What is made of a function is its machine code.
use Rattle.std.proofs.Common.{◌≡◌, ℕ, ◌+◌, ◌*◌, ◌^◌, ◌<◌, ◌≤◌, inl, inr, List, length, refl, sym, ap, ◌∙◌, subst, arith}
use Rattle.std.specs.Prelude.{slice_index}
use Rattle.jz_data.specs.declared.failure.Failure.{Failure}
use Rattle.jz_data.specs.declared.failure.Failure.TheVariants.{Refused, OutOfMemory}
use Rattle.jz_data.specs.Failures.{IfRefused}
use Rattle.x64_insn.specs.declared.types.Place.{Place}
use Rattle.x64_insn.specs.declared.types.Reg.{Reg}
use Rattle.jz_leak.specs.declared.transformer.Transformer.{Transformer}
use Rattle.jz_ir.specs.Places.{place_at, IsPlacing}
use Rattle.jz_operations.specs.declared.operation.Stacked.{Stacked}
use Rattle.jz_encodable.specs.Encodable.{AreNear}
use Rattle.jz_placing.specs.Instructions.{Code}
use Rattle.jz_placing.specs.Placing.{code_of}
use Rattle.jz_place.specs.declared.tree.Ir.{Ir}
use Rattle.jz_place.specs.Bodies.{body_of, seen_code, LiveInWhole}
use Rattle.jz_place.specs.declared.placed.PlacedNode.{PlacedNode}
use Rattle.jz_place.specs.Codes.{code_in}
use Rattle.jz_place.specs.Laws.{AreGood, KeepsRuns}
use Rattle.jz_linear.specs.Plain.{IsPlainCode}
use Rattle.jz_linear.specs.Lines.{labels_in, parts_in, linear_of}
use Rattle.jz_correct.specs.Frames.{rounded_up, saved_of, frame_end, frame_size}
use Rattle.x64_assemble.specs.Assembling.{AreSpelled, total, insns_of_lines, bytes_of_lines}
use Rattle.x64_assemble.proofs.Spellable.{linear_spellable, code_spelled}
use Rattle.jz_stack.specs.Laying.{offsets_from, end_from, frame_of}
use Rattle.jz_stack.specs.Framed.{insns_in, framed}
use Rattle.jz_stack.specs.FrameRuns.{NoneIsRsp}
use Rattle.jz_stack.proofs.Laid.{laid}
use Rattle.jz_stack.proofs.SavedAll.{saved_all}
use Rattle.jz_events.specs.Cases.{transformer_over}
use Rattle.jz_code.specs.declared.code.MachineCode.{MachineCode}
use Rattle.jz_code.specs.declared.code.NoCode.{NoCode}
use Rattle.jz_codable.specs.Ready.{IsReady}
use Rattle.jz_code.specs.Runs.{Function, DoesAll}
use Rattle.jz_code.specs.Made.{AreFirst, slots_by, IsCodeOf, IsTooLarge, IsUnplaced, HasNoCode}
use Rattle.jz_code.proofs.Trees.{results_in_registers}
use Rattle.jz_code.proofs.Plain.{parts_are, code_plain, slots_near}
use Rattle.jz_code.proofs.Shapes.{saved_none, saved_few, shape_of, is_shape, slots_small, whole_plain, whole_short, whole_few}
use Rattle.jz_code.proofs.Beside.{function_runs}
use Rattle.jz_code.proofs.Named.{saved_of_lines}

module _ (f : Ir) (vs : List Stacked) (list : List Place) (ready : IsReady f) (within : end_from 0 vs ≤ 65536) (first : AreFirst f list) (rule : IsPlacing (seen_code f) (LiveInWhole f) list) where
  abbrev end : ℕ
  end = end_from 0 vs

  abbrev places : ℕ → Place
  places v = place_at list v

  abbrev code : Code
  code = code_of places (slots_by vs) (body_of f.body)

  abbrev saved : List Reg
  saved = saved_of (insns_in code)

  abbrev size : ℕ
  size = frame_size (frame_end end saved)

  abbrev whole : Code
  whole = framed size (rounded_up 8 end) saved code

  none : NoneIsRsp saved
  none = saved_none (insns_in code)

  few : length saved ≤ 6
  few = saved_few (insns_in code)

  plain : IsPlainCode code
  plain = code_plain f list rule (slots_by vs) (slots_near vs within) ready

  parts_few : parts_in code < 2 ^ 26
  parts_few = let h = parts_are places (slots_by vs) (body_of f.body) in let k = ready.short in omega (arith, h, k)

  all_plain : IsPlainCode whole
  all_plain = whole_plain end saved within few none code parts_few plain

  all_short : total (linear_of whole) < 2 ^ 31
  all_short = whole_short end saved within few none code parts_few plain

  all_few : labels_in whole < 2 ^ 32
  all_few = whole_few end saved within few none code parts_few plain

  good : AreGood f list
  good = record { within = ready.within; rule = rule; sorted = ready.sorted }

  abbrev made : Function
  made = record {
    bytes = bytes_of_lines (linear_of whole);
    insns = length (insns_of_lines (linear_of whole));
    size = size;
    transformer = transformer_over (slots_by vs) size (rounded_up 8 end) saved (body_of f.body);
  }

  does_all : KeepsRuns f places (slots_by vs) code → DoesAll f (frame_of vs) places made
  does_all keeps base rsp0 target σ s fits entry never =
      function_runs f list (frame_of vs) (slots_by vs) end (laid vs) (shape_of end saved) refl (is_shape end saved within few none) (omega arith) plain all_short keeps
      (results_in_registers f list ready.within rule) ready.results base rsp0 target σ s fits entry never

  function_is : (b : List ℕ) (i z : ℕ) (t : Transformer) → b ≡ made.bytes → i ≡ made.insns → z ≡ made.size → t ≡ made.transformer → made ≡ record { bytes = b; insns = i; size = z; transformer = t }
  function_is b i z t eb ei ez et =
      sym (ap (λ x. record { bytes = x; insns = i; size = z; transformer = t }) eb ∙ ap (λ x. record { bytes = made.bytes; insns = x; size = z; transformer = t }) ei
      ∙ ap (λ x. record { bytes = made.bytes; insns = made.insns; size = x; transformer = t }) ez ∙ ap (λ x. record { bytes = made.bytes; insns = made.insns; size = made.size; transformer = x }) et)

  code_is : KeepsRuns f places (slots_by vs) code → (m : MachineCode) → m.bytes ≡ made.bytes → m.insns ≡ made.insns → m.frame ≡ size → m.saved ≡ saved → m.transformer ≡ made.transformer → IsCodeOf f vs m
  code_is keeps m eb ei ez es et = record {
    within = within;
    insns = insns_of_lines (linear_of whole);
    spelled = subst (AreSpelled (insns_of_lines (linear_of whole))) (sym eb) (code_spelled (insns_of_lines (linear_of whole)) (linear_spellable whole all_plain all_short));
    counted = ei;
    saved = es ∙ sym (saved_all size (rounded_up 8 end) code) ∙ sym (saved_of_lines whole);
    frame = ez ∙ ap (λ rs. frame_size (frame_end end rs)) (sym es);
    transformer = et ∙ ap (λ z. transformer_over (slots_by vs) z (rounded_up 8 end) saved (body_of f.body)) (sym ez)
        ∙ ap (λ rs. transformer_over (slots_by vs) m.frame (rounded_up 8 end) rs (body_of f.body)) (sym es);
    places = list;
    first = first;
    rule = rule;
    runs = subst (DoesAll f (frame_of vs) places) (function_is m.bytes m.insns m.frame m.transformer eb ei ez et) (does_all keeps);
  }

  -- ---- by the tables of the code
  module _ (offsets : List ℕ) (last : ℕ) (eo : offsets ≡ offsets_from 0 vs) (ee : last ≡ end) (body : List PlacedNode) (eb : code_in body ≡ code_of places (λ v. slice_index offsets v) (body_of f.body)) where
    slots_are : ◌≡◌ {A = ℕ → ℕ} (λ v. slice_index offsets v) (slots_by vs)
    slots_are = ap (λ (o : List ℕ). λ v. slice_index o v) eo

    body_is : code_in body ≡ code
    body_is = eb ∙ ap (λ (s : ℕ → ℕ). code_of places s (body_of f.body)) slots_are

    module _ (rs : List Reg) (z : ℕ) (nodes : List PlacedNode) (es : rs ≡ saved_of (insns_in (code_in body))) (ez : z ≡ frame_size (frame_end last rs)) (ec : code_in nodes ≡ framed z (rounded_up 8 last) rs (code_in body)) where
      saved_is : rs ≡ saved
      saved_is = es ∙ ap (λ t. saved_of (insns_in t)) body_is

      size_is : z ≡ size
      size_is = ez ∙ ap (λ e. frame_size (frame_end e rs)) ee ∙ ap (λ x. frame_size (frame_end end x)) saved_is

      whole_is : code_in nodes ≡ whole
      whole_is =
          ec ∙ ap (λ x. framed x (rounded_up 8 last) rs (code_in body)) size_is ∙ ap (λ e. framed size (rounded_up 8 e) rs (code_in body)) ee
          ∙ ap (λ x. framed size (rounded_up 8 end) x (code_in body)) saved_is ∙ ap (λ t. framed size (rounded_up 8 end) saved t) body_is

      pub made_plain : IsPlainCode (code_in nodes)
      made_plain = subst IsPlainCode (sym whole_is) all_plain

      pub made_few : labels_in (code_in nodes) < 2 ^ 32
      made_few = subst (λ t. labels_in t < 2 ^ 32) (sym whole_is) all_few

      pub made_short : total (linear_of (code_in nodes)) < 2 ^ 31
      made_short = subst (λ t. total (linear_of t) < 2 ^ 31) (sym whole_is) all_short

      pub slots_low : rounded_up 8 last + 8 * length rs < 2 ^ 31
      slots_low =
          let h = slots_small end saved within few in
          let a : rounded_up 8 last ≡ rounded_up 8 end = ap (rounded_up 8) ee in
          let b : length rs ≡ length saved = ap length saved_is in
          omega (arith, h, a, b)

      pub finished_is : (AreGood f list → KeepsRuns f places (λ v. slice_index offsets v) (code_in body)) → (m : MachineCode)
          → m.bytes ≡ bytes_of_lines (linear_of (code_in nodes)) → m.insns ≡ length (insns_of_lines (linear_of (code_in nodes))) → m.frame ≡ z → m.saved ≡ rs
          → m.transformer ≡ transformer_over (λ v. slice_index offsets v) z (rounded_up 8 last) rs (body_of f.body) → IsCodeOf f vs m
      finished_is h m b i x s t =
          code_is
          (subst (λ c. KeepsRuns f places (slots_by vs) c) body_is (subst (λ (o : ℕ → ℕ). KeepsRuns f places o (code_in body)) slots_are (h good)))
          m (b ∙ ap (λ c. bytes_of_lines (linear_of c)) whole_is) (i ∙ ap (λ c. length (insns_of_lines (linear_of c))) whole_is) (x ∙ size_is) (s ∙ saved_is)
          (t ∙ ap (λ (o : ℕ → ℕ). transformer_over o z (rounded_up 8 last) rs (body_of f.body)) slots_are ∙ ap (λ y. transformer_over (slots_by vs) y (rounded_up 8 last) rs (body_of f.body)) size_is
          ∙ ap (λ e. transformer_over (slots_by vs) size (rounded_up 8 e) rs (body_of f.body)) ee ∙ ap (λ y. transformer_over (slots_by vs) size (rounded_up 8 end) y (body_of f.body)) saved_is)

pub table_near : (vs : List Stacked) (offsets : List ℕ) → end_from 0 vs ≤ 65536 → offsets ≡ offsets_from 0 vs → AreNear (λ v. slice_index offsets v)
table_near vs offsets le e = subst (λ (o : List ℕ). AreNear (λ v. slice_index o v)) (sym e) (slots_near vs le)

-- ---- refusals
pub too_large : (f : Ir) (vs : List Stacked) (e : Failure NoCode) → IfRefused e (IsTooLarge vs) → IfRefused e (HasNoCode f vs)
too_large f vs (Refused c) h = inl h
too_large f vs OutOfMemory h = h

pub unplaced : (f : Ir) (vs : List Stacked) (e : Failure NoCode) → end_from 0 vs ≤ 65536 → IfRefused e (IsUnplaced f) → IfRefused e (HasNoCode f vs)
unplaced f vs (Refused c) le h = inr (le, h)
unplaced f vs OutOfMemory le h = h

-- ---- the transformer by the tables of the code
pub made_transformer : (f : Ir) (offsets slots : List ℕ) (z first last : ℕ) (rs saved : List Reg) (t : Transformer) → slots ≡ offsets → first ≡ rounded_up 8 last → saved ≡ rs
    → t ≡ transformer_over (λ v. slice_index slots v) z first saved (body_of f.body) → t ≡ transformer_over (λ v. slice_index offsets v) z (rounded_up 8 last) rs (body_of f.body)
made_transformer f offsets slots z first last rs saved t es ef er e =
    e ∙ ap (λ (o : List ℕ). transformer_over (λ v. slice_index o v) z first saved (body_of f.body)) es
    ∙ ap (λ a. transformer_over (λ v. slice_index offsets v) z a saved (body_of f.body)) ef ∙ ap (λ x. transformer_over (λ v. slice_index offsets v) z (rounded_up 8 last) x (body_of f.body)) er
