-- A function of a typed text that is within the limits has what unrolling asks for.
use Rattle.std.specs.Prelude.{◌≡◌, true, false, All, Contains}
use Rattle.jz_tree.specs.declared.program.Fun.{Fun}
use Rattle.jz_tree.specs.declared.program.Program.{Program}
use Rattle.jz_type_rows.specs.Exports.{is_exported}
use Rattle.jz_meaning.specs.Runs.{body_of}
use Rattle.jz_meaning.specs.Values.{ref_of}
use Rattle.jz_inline_laws.specs.TypedTexts.{IsTypedText}
use Rattle.jz_limits.specs.Values.{no_numbers}
use Rattle.jz_first_limit.specs.FirstLimits.{IsWithinLimits}
use Rattle.jz_inline_laws.specs.AskedLaws.{of_text}
use Rattle.jz_inline_laws.specs.CalledBodies.{inlines_of, IsNamed, FitsCalled}

-- what stands in each body, with the bodies that it calls
abbrev pub NamedLaw : Type 0
NamedLaw =
    (p : Program) → IsTypedText p → All (λ f. IsNamed (inlines_of f) (body_of p f)) p.funs

-- of a function that is exported no parameter is inline. Of another one that is, nothing is known
-- where it stands alone, and `n = 3 if true` asks for its old value
abbrev pub CalledLaw : Type 0
CalledLaw =
    (p : Program) (f : Fun)
    → IsTypedText p → Contains p.funs f → is_exported f.kind ≡ true → IsWithinLimits p f
    → FitsCalled (inlines_of f) (body_of p f) no_numbers

-- no result is inline
abbrev pub ResultsLaw : Type 0
ResultsLaw =
    (p : Program) (f : Fun)
    → IsTypedText p → Contains p.funs f
    → All (λ v. (of_text (ref_of v) ≡ true) × (inlines_of f (ref_of v).name ≡ false)) f.result
