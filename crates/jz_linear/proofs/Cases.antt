-- The cases of `if` and `while`, opened.
use Rattle.std.proofs.Common.{◌≡◌, Bool, List, sym, ap, ◌∙◌}
use Rattle.std.specs.Prelude.{not}
use Rattle.jz_leak.specs.declared.transformer.Out.{Out}
use Rattle.jz_leak.specs.declared.transformer.Tr.{Tr}
use Rattle.jz_leak.specs.declared.transformer.Case.TheOpen.{Case-F}
use Rattle.jz_leak.specs.declared.transformer.Case.TheViews.{out-Case, out-roll-Case}
use Rattle.jz_leak.specs.declared.transformer.Case.TheVariants as case
use Rattle.jz_leak.specs.Applying.{Loop}
use Rattle.jz_placing.specs.Instructions.{Test, Code}
use Rattle.jz_linear.specs.Lines.{test_outs, jump_outs, cases_of}

-- the parts of the case of a `while`
abbrev pub parts : Code → Test → Bool → Code → Loop
parts p t q b = record {
  prologue = record { cases = cases_of p };
  test = test_outs t;
  more_outs = jump_outs t q;
  body = record { cases = cases_of b };
  leave_outs = jump_outs t (not q);
}

pub out_if : (f g h : List Out) (a b : Tr) → out-Case (case.If f g a h b) ≡ Case-F.If f g a h b
out_if f g h a b = ap out-Case (sym (case.rolls-If f g a h b)) ∙ out-roll-Case (Case-F.If f g a h b)

pub out_while : (p b : Tr) (f g h : List Out) → out-Case (case.While p f g b h) ≡ Case-F.While p f g b h
out_while p b f g h = ap out-Case (sym (case.rolls-While p f g b h)) ∙ out-roll-Case (Case-F.While p f g b h)
