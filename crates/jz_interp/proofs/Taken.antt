-- The function at a place of a program, and the words that it takes.
use Rattle.std.proofs.Common.{◌≡◌, ℕ, List, Some, None, sym, ap, ◌∙◌, subst}
use Rattle.std.specs.Prelude.{slice_get}
use Rattle.std.specs.List.{AllZip}
use Rattle.std.proofs.lemmas.Option.{slice_get_within, get_or_from_slice_get}
use Rattle.jz_tree.specs.Word as code_word
use Rattle.jz_tree.specs.declared.program.Program.{Program}
use Rattle.jz_tree.specs.declared.program.Fun.{Fun}
use Rattle.jz_meaning.specs.Values.{ref_of}
use Rattle.jz_meaning.specs.Runs.{FitsKind}
use Rattle.jz_interp.specs.Outcomes.{values_of, Takes}

some_one : {A : Type 0} (x y : A) → Some x ≡ Some y → x ≡ y
some_one x y e = cc

module _ (p q : Program) (place : ℕ) (words : List code_word.Word) (same : q ≡ p) where
  there : (f : Fun) → slice_get q.funs place ≡ Some f → slice_get p.funs place ≡ Some f
  there f e = ap (λ r. slice_get r.funs place) (sym same) ∙ e

  pub taken : (f : Fun) → slice_get q.funs place ≡ Some f → AllZip (λ x v. FitsKind (ref_of x.var).kind v) f.params (values_of words) → Takes p place words
  taken f e all =
      record {
        function = f;
        there = there f e;
        input = record { of_program = (place, slice_get_within p.funs place f (there f e), get_or_from_slice_get p.funs place f f (there f e)); arguments = all };
      }

  pub takes_all : (f : Fun) → slice_get q.funs place ≡ Some f → Takes p place words → AllZip (λ x v. FitsKind (ref_of x.var).kind v) f.params (values_of words)
  takes_all f e t = subst (λ g. AllZip (λ x v. FitsKind (ref_of x.var).kind v) g.params (values_of words)) (some_one t.function f (sym t.there ∙ there f e)) t.input.arguments

  pub takes_none : slice_get q.funs place ≡ None → Takes p place words → ⊥
  takes_none e t = absurd (none_is (sym e ∙ ap (λ r. slice_get r.funs place) same ∙ t.there))
    where
      none_is : None ≡ Some t.function → ⊥
      none_is h = absurd cc
