-- When a function is unrollable once its calls are copies of what they call.
use Rattle.std.specs.Prelude.{◌≡◌, false, All, Contains}
use Rattle.jz_tree.specs.declared.program.Fun.{Fun}
use Rattle.jz_tree.specs.declared.program.Program.{Program}
use Rattle.jz_types.specs.TypedPrograms.{IsTypedProgram}
use Rattle.jz_texts.specs.Texts.{IsText}
use Rattle.jz_meaning.specs.Values.{ref_of}
use Rattle.jz_meaning.specs.Runs.{body_of}
use Rattle.jz_limits.specs.Values.{no_numbers}
use Rattle.jz_inlining.specs.Inlined.{inlined_function}
use Rattle.jz_copied_values.specs.Unrolled.{IsUnrollable}
use Rattle.jz_copied_values.specs.CalledBodies.{inlines_of, IsNamed, FitsCalled}

-- of a typed program that comes of a text: where the body of a function, and the bodies that it
-- calls, have values when a walk comes to them, and no result is inline
abbrev pub CopiesUnrollable : Type 0
CopiesUnrollable =
    (p : Program) (f : Fun) → IsTypedProgram p → IsText p → Contains p.funs f
    → IsNamed (inlines_of f) (body_of p f) → FitsCalled (inlines_of f) (body_of p f) no_numbers
    → All (λ v. inlines_of f (ref_of v).name ≡ false) f.result
    → IsUnrollable (inlined_function p f)
