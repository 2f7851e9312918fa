-- What is made of an expansion that is found to be safe is a compilation of each function that has it.
use Rattle.std.proofs.Common.{◌≡◌, ◌≤◌, inl, inr, sym, ap, ◌∙◌, subst}
use Rattle.std.proofs.Math.Logic.{∥∥₁_elim}
use Rattle.jz_tree.specs.declared.program.Fun.{Fun}
use Rattle.jz_tree.specs.declared.program.Program.{Program}
use Rattle.jz_change.specs.declared.change.Change.{Change as Code}
use Rattle.jz_change.specs.Views.{change_of}
use Rattle.jz_compiling.specs.Functions.{Refuses}
use Rattle.jz_listing.specs.declared.compiled.Compiled.{Compiled}
use Rattle.jz_correct.specs.Frames.{frame_end, frame_size}
use Rattle.jz_correct.specs.Registers.{argument_registers}
use Rattle.jz_stack.specs.Laying.{end_from}
use Rattle.jz_compiled.specs.Lines.{AreArgumentLines}
use Rattle.jz_compiling.specs.declared.compiling.NotCompiled.{NotCompiled}
use Rattle.jz_compiling.specs.declared.compiling.NotCompiled.TheVariants as uncompiled
use Rattle.jz_compiling.specs.Made.{IsMadeOf}
use Rattle.jz_compiling.specs.Refused.{HasNoHead, IsCodeless, IsNotCompiled}
use Rattle.jz_compiling.proofs.Codeless.{not_codeless}
use Rattle.jz_shown_places.specs.FromTextLaws.{IsCompiledFrom}
use Rattle.jz_shown_places.proofs.Placed.{frame_is_low}
use Rattle.jz_shown_places.proofs.Whole.{is_compilation}
use Rattle.jz_safe.specs.Texts.{IsExpandedFrom}
use Rattle.jz_safe.specs.declared.certificate.Safe.{Safe}
use Rattle.jz_safe.proofs.Runs.{safe_runs_on}
use Rattle.jz_whole_pipeline.specs.Correctness.{IsCorrectOf, HasPlaces, IsRefusedFor}
use Rattle.jz_whole_pipeline.proofs.Indexed.{is_indexed}
use Rattle.jz_whole_pipeline.proofs.Lines.{has_head}

-- ---- what is made
-- it is made of the expansion that was handed in
pub moved : (s : Safe) (c : Compiled) (g : Fun) (k : Code) → g ≡ s.expanded.fun → k ≡ s.expanded.change → IsMadeOf g (change_of k) c → IsMadeOf s.expanded.fun (change_of s.expanded.change) c
moved s c g k fun change made = subst (λ x. IsMadeOf x (change_of s.expanded.change) c) fun (subst (λ x. IsMadeOf g (change_of x) c) change made)

module _ (s : Safe) (c : Compiled) (made : IsMadeOf s.expanded.fun (change_of s.expanded.change) c) where
  -- the lines of the arguments are those of the function of the text
  lines_of : (p : Program) (f : Fun) → IsExpandedFrom p f s.expanded → AreArgumentLines argument_registers f.params c.args
  lines_of p f x = subst (λ ps. AreArgumentLines argument_registers ps c.args) (ap (λ (h : Fun). h.params) x.expansion.function ∙ x.expansion.head.params) made.args

  pub compiled_from : (p : Program) (f : Fun) → IsExpandedFrom p f s.expanded → IsCompiledFrom p f s.expanded c
  compiled_from p f x = record {
    typed = x.typed;
    text = x.text;
    there = x.there;
    exported = x.exported;
    expansion = x.expansion;
    made = made;
    safe = safe_runs_on s p f c x (lines_of p f x);
  }

  pub correct_of : IsCorrectOf s.expanded c
  correct_of p f x = is_compilation p f s.expanded c (compiled_from p f x) (is_indexed s)

  pub has_places : HasPlaces s.expanded.fun
  has_places = λ why less. not_codeless s.expanded.fun (change_of s.expanded.change) c why made less

  pub is_small : c.frame ≤ 65592
  is_small =
      subst (λ n. n ≤ 65592)
      (sym (made.has.frame ∙ made.is_code.frame ∙ ap (λ rs. frame_size (frame_end (end_from 0 made.lowered.stack) rs)) made.is_code.saved))
      (frame_is_low (end_from 0 made.lowered.stack) made.is_code.insns made.is_code.within)

-- ---- what is refused
one_absurd : (x y : ⊥) → x ≡ y
one_absurd x y = absurd x

pub refused_for : (s : Safe) (g : Fun) → g ≡ s.expanded.fun → (w : NotCompiled) → IsNotCompiled g w → IsRefusedFor s.expanded.fun w
refused_for s g fun (uncompiled.Code why) h = subst (λ x. IsCodeless x why) fun h
refused_for s g fun (uncompiled.At at) (inl h) =
    absurd (∥∥₁_elim s.text one_absurd (λ t. has_head t.program t.source s.expanded t.from at (subst (λ x. HasNoHead x at) fun h)))
refused_for s g fun (uncompiled.At at) (inr h) = subst (λ x. Refuses x at) fun h
