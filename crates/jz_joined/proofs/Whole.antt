-- The frame, the lists of saved registers, and the whole.
use Rattle.std.proofs.Common.{◌≡◌, ℕ, ◌+◌, List, [], ◌∷◌, ◌++◌, map, refl, sym, ap, ◌∙◌, subst, pos, ◌-ℤ◌}
use Rattle.x64_insn.specs.declared.types.Insn.{Insn}
use Rattle.x64_insn.specs.declared.types.Reg.{Reg}
use Rattle.jz_leak.specs.declared.transformer.Form.TheVariants as form
use Rattle.jz_leak.specs.declared.transformer.Out.TheVariants as out
use Rattle.jz_leak.specs.declared.transformer.Transformer.{Transformer}
use Rattle.jz_tree.specs.declared.program.Fun.{Fun}
use Rattle.jz_tree.specs.declared.program.Program.{Program}
use Rattle.jz_operations.specs.declared.operation.Stacked.{Stacked}
use Rattle.jz_listing.specs.declared.compiled.Compiled.{Compiled}
use Rattle.jz_correct.specs.Frames.{rounded_up, saved_of, saved_slots, slots_from, frame_end, frame_size}
use Rattle.jz_correct.specs.Assembled as correct
use Rattle.jz_called.specs.Assembling as assembling
use Rattle.jz_called.specs.Laying as laying
use Rattle.jz_called.specs.Framed.{slot_outs}
use Rattle.jz_compiled.specs.Layout as layout
use Rattle.jz_compiled.specs.Layout.{StackVariable, stack_variables_of, layout_end}
use Rattle.jz_compiled.specs.Showing.{slot_access, saving_accesses}
use Rattle.jz_compiled.specs.Correct.{IsCompilation}
use Rattle.jz_joined.specs.Making.{IsMade, IsMadeWhole}
use Rattle.jz_joined.proofs.Joining.{carries}

-- ---- the frame
abbrev stacked_as : StackVariable → Stacked
stacked_as v = record { size = v.cell; count = v.count }

end_same : (end : ℕ) (vs : List StackVariable) → laying.end_from end (map stacked_as vs) ≡ layout.end_from end vs
end_same end [] = refl
end_same end (v ∷ vs) = end_same (layout.ends_at end v) vs

-- ---- the slots
slots_same : (size at : ℕ) (rs : List Reg) → slot_outs size at rs ≡ map (slot_access size) (slots_from at rs)
slots_same size at [] = refl
slots_same size at (r ∷ rs) = ap (λ os. out.Addr (form.Frame (pos at -ℤ pos size)) ∷ os) (slots_same size (at + 8) rs)

-- ---- the code
spelled_same : (is : List Insn) (bytes : List ℕ) → assembling.AreSpelled is bytes → correct.AreSpelled is bytes
spelled_same [] bytes h = h
spelled_same (i ∷ is) bytes h = (h.0, h.1, h.2, h.3, spelled_same is h.1 h.4)

module _ (p : Program) (f : Fun) (c : Compiled) (whole : IsMadeWhole p f c) where
  abbrev made : IsMade p f c
  made = whole.made

  ends : laying.end_from 0 made.stack ≡ layout_end p f
  ends = ap (λ vs. laying.end_from 0 vs) whole.stack ∙ end_same 0 (stack_variables_of p f)

  saves : slot_outs made.code.frame (rounded_up 8 (laying.end_from 0 made.stack)) made.code.saved ≡ saving_accesses p f c
  saves =
      slots_same made.code.frame (rounded_up 8 (laying.end_from 0 made.stack)) made.code.saved
      ∙ ap (λ z. map (slot_access z) (saved_slots (laying.end_from 0 made.stack) made.code.saved)) (sym made.has.frame)
      ∙ ap (λ e. map (slot_access c.frame) (saved_slots e made.code.saved)) ends
      ∙ ap (λ rs. map (slot_access c.frame) (saved_slots (layout_end p f) rs)) (sym whole.saved)

  saved_all : c.saved ≡ saved_of made.is_code.insns
  saved_all = whole.saved ∙ made.is_code.saved

  frame : c.frame ≡ layout.frame_bytes p f made.is_code.insns
  frame =
      made.has.frame ∙ made.is_code.frame ∙ ap (λ e. frame_size (frame_end e made.code.saved)) ends
      ∙ ap (λ rs. frame_size (frame_end (layout_end p f) rs)) made.is_code.saved

  pub compilation : IsCompilation p f c
  compilation = record {
    name = whole.name;
    args = made.listed.args;
    rets = made.listed.rets;
    pre = made.listed.pre;
    insns = made.is_code.insns;
    spelled = spelled_same made.is_code.insns c.code (subst (assembling.AreSpelled made.is_code.insns) (sym made.has.code) made.is_code.spelled);
    counted = made.has.insns ∙ made.is_code.counted;
    frame = frame;
    saved = saved_all;
    before = ap (λ (t : Transformer). t.before) made.transformer ∙ ap (λ (t : Transformer). t.before) made.is_code.transformer ∙ saves;
    after = ap (λ (t : Transformer). t.after) made.transformer ∙ ap (λ (t : Transformer). t.after) made.is_code.transformer
        ∙ ap (λ os. os ++ out.Addr (form.Frame (pos 0)) ∷ []) saves;
    places = whole.places;
    carries = carries p f c made;
  }

pub correct_as_made : (p : Program) (f : Fun) (c : Compiled) → IsMadeWhole p f c → IsCompilation p f c
correct_as_made p f c whole = compilation p f c whole
