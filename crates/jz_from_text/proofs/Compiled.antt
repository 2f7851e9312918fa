-- From the calls of the compiler to correct compilation.
use Rattle.std.proofs.Common.{◌≡◌, ℕ, ◌+◌, true, List, [], ◌∷◌, ◌++◌, map, pos, ◌-ℤ◌, All, refl, sym, ap, ◌∙◌, subst}
use Rattle.std.proofs.lemmas.List.Elements.{All-contains}
use Rattle.x64_insn.specs.declared.types.Insn.{Insn}
use Rattle.x64_insn.specs.declared.types.Reg.{Reg}
use Rattle.jz_leak.specs.declared.transformer.Form.TheVariants as form
use Rattle.jz_leak.specs.declared.transformer.Out.TheVariants as out
use Rattle.jz_leak.specs.declared.transformer.Transformer.{Transformer}
use Rattle.jz_tree.specs.declared.program.Fun.{Fun}
use Rattle.jz_tree.specs.declared.program.Program.{Program}
use Rattle.jz_type_names.specs.Scopes.{variables_of}
use Rattle.jz_type_rows.specs.Exports.{is_exported}
use Rattle.jz_texts.proofs.Declaring.{declarations_law}
use Rattle.jz_meaning.specs.Runs.{body_of}
use Rattle.jz_change.specs.Views.{change_of}
use Rattle.jz_inline.specs.Functions.{own_names}
use Rattle.jz_inlining.specs.Inlined.{inlined_function}
use Rattle.jz_bodies.proofs.Whole.{IsKnown, all_known}
use Rattle.jz_distinct.proofs.Framed.{typed_differ}
use Rattle.jz_distinct.specs.Declared.{Differ, stack_of}
use Rattle.jz_distinct.proofs.Places.{of_declarations}
use Rattle.jz_expanded_runs.specs.Expanded.{Expanded}
use Rattle.jz_listing.specs.declared.compiled.Compiled.{Compiled}
use Rattle.jz_correct.specs.Frames.{rounded_up, saved_slots, slots_from, frame_end, frame_size}
use Rattle.jz_correct.specs.Registers.{argument_registers, result_registers}
use Rattle.jz_correct.specs.Assembled as correct
use Rattle.x64_assemble.specs.Assembling as assembling
use Rattle.jz_stack.specs.Laying as laying
use Rattle.jz_stack.specs.Framed.{slot_outs}
use Rattle.jz_compiled.specs.Layout as layout
use Rattle.jz_compiled.specs.Layout.{StackVariable, layout_of, layout_end, stack_variables_of}
use Rattle.jz_compiled.specs.Lines.{AreArgumentLines, AreResultLines, listed_preconditions}
use Rattle.jz_compiled.specs.Showing.{CasesStayIn, slot_access, saving_accesses}
use Rattle.jz_compiled.specs.Matching.{CarriesOver}
use Rattle.jz_compiled.specs.Correct.{IsCompilation}
use Rattle.jz_compiling.specs.SignatureLaws.{stacked_as, IsUnstacked}
use Rattle.jz_compiling.proofs.StackLemmas.{stack_is}
use Rattle.jz_compiling.specs.Making.{IsExpandedTo, IsMade}
use Rattle.jz_expanded_runs.proofs.Followed.{expansions_keep_runs}
use Rattle.jz_compiling.specs.Made.{KeepsHead, HasPlainHead}
use Rattle.jz_compiling.proofs.Expanded.{made, carries_over}
use Rattle.jz_from_text.specs.Laws.{IsCompiledFrom}
use Rattle.jz_from_text.proofs.Head.{plain_head}
use Rattle.jz_from_text.proofs.Parameters.{unstacked}

-- ---- the frame
end_same : (end : ℕ) (vs : List StackVariable) → laying.end_from end (map stacked_as vs) ≡ layout.end_from end vs
end_same end [] = refl
end_same end (v ∷ vs) = end_same (layout.ends_at end v) vs

slots_same : (size at : ℕ) (rs : List Reg) → slot_outs size at rs ≡ map (slot_access size) (slots_from at rs)
slots_same size at [] = refl
slots_same size at (r ∷ rs) = ap (λ os. out.Addr (form.Frame (pos at -ℤ pos size)) ∷ os) (slots_same size (at + 8) rs)

spelled_same : (is : List Insn) (bytes : List ℕ) → assembling.AreSpelled is bytes → correct.AreSpelled is bytes
spelled_same [] bytes h = h
spelled_same (i ∷ is) bytes h = (h.0, h.1, h.2, h.3, spelled_same is h.1 h.4)

-- ---- the whole
module _ (p : Program) (f : Fun) (e : Expanded) (c : Compiled) (h : IsCompiledFrom p f e c) where
  known : IsKnown p f
  known = All-contains (IsKnown p) p.funs f (all_known p h.typed h.text) h.there

  differ : Differ (variables_of (inlined_function p f))
  differ = typed_differ p f (declarations_law p h.typed h.text) h.text h.there

  pub head : KeepsHead f e.fun
  head = record {
    notes = ap (λ (x : Fun). x.notes) h.expansion.function ∙ h.expansion.head.notes;
    name = ap (λ (x : Fun). x.name) h.expansion.function ∙ h.expansion.head.name;
    params = ap (λ (x : Fun). x.params) h.expansion.function ∙ h.expansion.head.params;
    rets = ap (λ (x : Fun). x.rets) h.expansion.function ∙ h.expansion.head.rets;
    result = ap (λ (x : Fun). x.result) h.expansion.function ∙ h.expansion.head.result;
  }

  pub expands : IsExpandedTo p f e.fun (change_of e.change)
  expands = expansions_keep_runs p f e.fun (change_of e.change) e.count h.typed h.text h.there h.exported h.expansion

  lines : AreResultLines result_registers f.result f.rets c.rets
  lines = subst (λ xs. AreResultLines result_registers xs f.rets c.rets) head.result (subst (λ ts. AreResultLines result_registers e.fun.result ts c.rets) head.rets h.made.rets)

  pub plain : HasPlainHead e.fun
  plain = subst HasPlainHead (sym h.expansion.function) (plain_head p f h.expansion.unrolled known h.expansion.head differ c.rets lines)

  abbrev pub is_made : IsMade p f c
  is_made = made p f e.fun (change_of e.change) c h.there head expands h.made plain h.safe

  pub carries : CarriesOver p f c
  carries = carries_over p f e.fun (change_of e.change) c h.there head expands h.made plain h.safe

  params_unstacked : All IsUnstacked f.params
  params_unstacked = All-contains (λ (q : Fun). is_exported q.kind ≡ true → All IsUnstacked q.params) p.funs f (unstacked p h.typed) h.there h.exported

  stack : h.made.lowered.stack ≡ map stacked_as (stack_variables_of p f)
  stack =
      h.made.is_lowered.stack ∙ (of_declarations e.fun plain.differ).stack ∙ ap stack_of h.expansion.function
      ∙ stack_is p f h.expansion.unrolled h.expansion.head differ params_unstacked

  -- ---- the frame
  ends : laying.end_from 0 h.made.lowered.stack ≡ layout_end p f
  ends = ap (λ vs. laying.end_from 0 vs) stack ∙ end_same 0 (stack_variables_of p f)

  saves : slot_outs h.made.code.frame (rounded_up 8 (laying.end_from 0 h.made.lowered.stack)) h.made.code.saved ≡ saving_accesses p f c
  saves =
      slots_same h.made.code.frame (rounded_up 8 (laying.end_from 0 h.made.lowered.stack)) h.made.code.saved
      ∙ ap (λ z. map (slot_access z) (saved_slots (laying.end_from 0 h.made.lowered.stack) h.made.code.saved)) (sym h.made.has.frame)
      ∙ ap (λ e. map (slot_access c.frame) (saved_slots e h.made.code.saved)) ends
      ∙ ap (λ rs. map (slot_access c.frame) (saved_slots (layout_end p f) rs)) (sym h.made.saved)

  frame : c.frame ≡ layout.frame_bytes p f h.made.is_code.insns
  frame =
      h.made.has.frame ∙ h.made.is_code.frame ∙ ap (λ e. frame_size (frame_end e h.made.code.saved)) ends
      ∙ ap (λ rs. frame_size (frame_end (layout_end p f) rs)) h.made.is_code.saved

  pub compilation : CasesStayIn (layout_of p f) c.frame own_names 1 (body_of p f) c.tr.body.cases → IsCompilation p f c
  compilation stays = record {
    name = h.made.name ∙ head.name;
    args = subst (λ ps. AreArgumentLines argument_registers ps c.args) head.params h.made.args;
    rets = lines;
    pre = h.made.pre ∙ ap (λ ps. listed_preconditions (record e.fun { params = ps })) head.params ∙ ap (λ ns. listed_preconditions (record e.fun { params = f.params; notes = ns })) head.notes;
    insns = h.made.is_code.insns;
    spelled = spelled_same h.made.is_code.insns c.code (subst (assembling.AreSpelled h.made.is_code.insns) (sym h.made.has.code) h.made.is_code.spelled);
    counted = h.made.has.insns ∙ h.made.is_code.counted;
    frame = frame;
    saved = h.made.saved ∙ h.made.is_code.saved;
    before = ap (λ (t : Transformer). t.before) h.made.transformer ∙ ap (λ (t : Transformer). t.before) h.made.is_code.transformer ∙ saves;
    after = ap (λ (t : Transformer). t.after) h.made.transformer ∙ ap (λ (t : Transformer). t.after) h.made.is_code.transformer
        ∙ ap (λ os. os ++ out.Addr (form.Frame (pos 0)) ∷ []) saves;
    places = stays;
    carries = carries;
  }
