-- From the calls of the compiler to correct compilation, with what the transformer shows of the frame.
use Rattle.std.proofs.Common.{◌≡◌, ℕ, true, List, [], ◌∷◌, ◌≤◌, All, refl, sym, ap, ◌∙◌, subst, map}
use Rattle.std.proofs.lemmas.List.Elements.{All-contains}
use Rattle.jz_leak.specs.declared.transformer.Transformer.{Transformer}
use Rattle.jz_leak.specs.declared.transformer.Case.{Case}
use Rattle.jz_tree.specs.declared.program.Fun.{Fun}
use Rattle.jz_tree.specs.declared.program.Program.{Program}
use Rattle.jz_type_names.specs.Scopes.{variables_of}
use Rattle.jz_type_rows.specs.Exports.{is_exported}
use Rattle.jz_texts.proofs.Declaring.{declarations_law}
use Rattle.jz_typed_runs.specs.TypedTexts.{IsTypedText}
use Rattle.jz_meaning.specs.Runs.{body_of}
use Rattle.jz_change.specs.Changes.{Change}
use Rattle.jz_change.specs.Composing.{compose_of}
use Rattle.jz_change.specs.Flattening.{flat}
use Rattle.jz_change.specs.Views.{change_of}
use Rattle.jz_inline.specs.Functions.{own_names}
use Rattle.jz_inlining.specs.Inlined.{inlined_function}
use Rattle.jz_bodies.proofs.Whole.{IsKnown, all_known}
use Rattle.jz_from_text.proofs.Framed.{typed_differ}
use Rattle.jz_place.specs.Bodies as ir
use Rattle.jz_declared.specs.Declared.{Differ, kept_of, stack_of}
use Rattle.jz_declared.specs.Laws.{IsOfDeclarations}
use Rattle.jz_declared.proofs.Places.{of_declarations}
use Rattle.jz_from_text.specs.Functions.{plain_body, table_of, homes_for}
use Rattle.jz_expansion_cases.specs.Expanded.{Expanded}
use Rattle.jz_listing.specs.declared.compiled.Compiled.{Compiled}
use Rattle.jz_correct.specs.Frames.{saved_of, frame_end, frame_size}
use Rattle.jz_correct.specs.Registers.{result_registers}
use Rattle.jz_stack.specs.Laying as laying
use Rattle.jz_events.specs.Cases.{cases_over}
use Rattle.jz_code.specs.Made.{slots_by}
use Rattle.jz_compiled.specs.Layout as layout
use Rattle.jz_compiled.specs.Layout.{StackVariable, layout_of, stack_variables_of}
use Rattle.jz_compiled.specs.Lines.{AreResultLines}
use Rattle.jz_compiled.specs.Showing.{OutsStayIn, CasesStayIn}
use Rattle.jz_compiled.specs.Correct.{IsCompilation}
use Rattle.jz_from_text.specs.SignatureLaws.{stacked_as, IsUnstacked}
use Rattle.jz_from_text.proofs.StackLemmas.{stack_is}
use Rattle.jz_from_text.specs.Made.{HasPlainHead}
use Rattle.jz_from_text.specs.Laws.{IsCompiledFrom}
use Rattle.jz_from_text.proofs.Head.{plain_head}
use Rattle.jz_from_text.proofs.Parameters.{unstacked}
use Rattle.jz_from_text.proofs.Compiled.{compilation}
use Rattle.jz_case_names.specs.Listed.{AreLeft}
use Rattle.jz_item_names.specs.Names.{named_items}
use Rattle.jz_expansion_cases.proofs.Passes.{expansion_between}
use Rattle.jz_lowering_cases.specs.Staying.{ArePlaced, IsSmall}
use Rattle.jz_lowering_cases.proofs.Whole.{stay}
use Rattle.jz_shown_places.specs.Laws.{IsIndexed}
use Rattle.jz_shown_places.proofs.Left.{stays}
use Rattle.jz_shown_places.proofs.Placed.{named_as, named_is, placed, small_frame}

end_same : (end : ℕ) (vs : List StackVariable) → laying.end_from end (map stacked_as vs) ≡ layout.end_from end vs
end_same end [] = refl
end_same end (v ∷ vs) = end_same (layout.ends_at end v) vs

module _ (p : Program) (f : Fun) (e : Expanded) (c : Compiled) (h : IsCompiledFrom p f e c) (indexed : IsIndexed e.fun) where
  known : IsKnown p f
  known = All-contains (IsKnown p) p.funs f (all_known p h.typed h.text) h.there

  differ : Differ (variables_of (inlined_function p f))
  differ = typed_differ p f (declarations_law p h.typed h.text) h.text h.there

  result : e.fun.result ≡ f.result
  result = ap (λ (x : Fun). x.result) h.expansion.function ∙ h.expansion.head.result

  rets : e.fun.rets ≡ f.rets
  rets = ap (λ (x : Fun). x.rets) h.expansion.function ∙ h.expansion.head.rets

  lines : AreResultLines result_registers f.result f.rets c.rets
  lines = subst (λ xs. AreResultLines result_registers xs f.rets c.rets) result (subst (λ ts. AreResultLines result_registers e.fun.result ts c.rets) rets h.made.rets)

  plain : HasPlainHead e.fun
  plain = subst HasPlainHead (sym h.expansion.function) (plain_head p f h.expansion.unrolled known h.expansion.head differ c.rets lines)

  declared : IsOfDeclarations e.fun (table_of e.fun)
  declared = of_declarations e.fun plain.differ

  params_unstacked : All IsUnstacked f.params
  params_unstacked = All-contains (λ (q : Fun). is_exported q.kind ≡ true → All IsUnstacked q.params) p.funs f (unstacked p h.typed) h.there h.exported

  stack_kept : h.made.lowered.stack ≡ stack_of e.fun
  stack_kept = h.made.is_lowered.stack ∙ declared.stack

  stack : h.made.lowered.stack ≡ map stacked_as (stack_variables_of p f)
  stack = stack_kept ∙ ap stack_of h.expansion.function ∙ stack_is p f h.expansion.unrolled h.expansion.head differ params_unstacked

  ends : laying.end_from 0 h.made.lowered.stack ≡ layout.layout_end p f
  ends = ap (λ vs. laying.end_from 0 vs) stack ∙ end_same 0 (stack_variables_of p f)

  are_placed : ArePlaced (homes_for e.fun) (layout_of p f) (slots_by h.made.lowered.stack)
  are_placed =
      placed e.fun (homes_for e.fun) (stack_variables_of p f) declared.homes
      (ap (λ (x : Fun). map named_as (kept_of x)) h.expansion.function ∙ named_is p f h.expansion.unrolled h.expansion.head differ params_unstacked)
      h.made.lowered.stack stack_kept

  frame : h.made.code.frame ≡ frame_size (frame_end (layout.end_from 0 (stack_variables_of p f)) (saved_of h.made.is_code.insns))
  frame =
      h.made.is_code.frame ∙ ap (λ n. frame_size (frame_end n h.made.code.saved)) ends
      ∙ ap (λ rs. frame_size (frame_end (layout.layout_end p f) rs)) h.made.is_code.saved

  small : IsSmall (layout_of p f) h.made.code.frame
  small =
      subst (IsSmall (layout_of p f)) (sym frame)
      (small_frame (stack_variables_of p f) h.made.is_code.insns (subst (λ n. n ≤ 65536) ends h.made.is_code.within))

  abbrev first : Change
  first = change_of e.change

  abbrev second : Change
  second = change_of h.made.lowered.change

  abbrev cases : List Case
  cases = cases_over (slots_by h.made.lowered.stack) h.made.code.frame (ir.body_of h.made.lowered.ir.body)

  typed : IsTypedText p
  typed = record { typed = h.typed; text = h.text }

  left : AreLeft (OutsStayIn (layout_of p f) h.made.code.frame) (named_items own_names 1 (body_of p f)) (flat (compose_of first second) cases).cases
  left =
      stay (layout_of p f) h.made.code.frame small (homes_for e.fun) (slots_by h.made.lowered.stack) are_placed (plain_body e.fun) (ir.body_of h.made.lowered.ir.body) first second (named_items own_names 1 (body_of p f)) indexed
      h.made.is_lowered.lowered.body (expansion_between p f typed h.there e.fun first e.count h.expansion)

  printed : c.tr.body.cases ≡ (flat (compose_of first second) cases).cases
  printed =
      ap (λ (t : Transformer). t.body.cases) h.made.transformer
      ∙ ap (λ (t : Transformer). (flat (compose_of first second) t.body.cases).cases) h.made.is_code.transformer

  pub cases_stay : CasesStayIn (layout_of p f) c.frame own_names 1 (body_of p f) c.tr.body.cases
  cases_stay =
      subst (λ n. CasesStayIn (layout_of p f) n own_names 1 (body_of p f) c.tr.body.cases) (sym h.made.has.frame)
      (subst (CasesStayIn (layout_of p f) h.made.code.frame own_names 1 (body_of p f)) (sym printed)
      (stays (layout_of p f) h.made.code.frame (body_of p f) own_names 1 (flat (compose_of first second) cases).cases left))

  pub is_compilation : IsCompilation p f c
  is_compilation = compilation p f e c h cases_stay
