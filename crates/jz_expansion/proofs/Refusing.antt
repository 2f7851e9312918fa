-- Nothing else is refused than the first limit: a function that is within the limits is unrollable.
use Rattle.std.proofs.Common.{◌≡◌, ℕ, true, sym, subst}
use Rattle.std.specs.Prelude.{Contains}
use Rattle.std.proofs.Math.Logic.{∥∥₁_map}
use Rattle.std.proofs.lemmas.List.Elements.{All-contains}
use Rattle.jz_tree.specs.declared.program.Fun.{Fun}
use Rattle.jz_tree.specs.declared.program.Program.{Program}
use Rattle.jz_type_rows.specs.Exports.{is_exported}
use Rattle.jz_types.specs.TypedPrograms.{IsTypedProgram}
use Rattle.jz_texts.specs.Texts.{IsText}
use Rattle.jz_meaning.specs.Runs.{body_of}
use Rattle.jz_walked_laws.specs.TypedTexts.{IsTypedText}
use Rattle.jz_first_limit.specs.Counts.{Passes}
use Rattle.jz_first_limit.specs.CopyLimit.{CopyLimit}
use Rattle.jz_first_limit.specs.CopyLimit.TheVariants as copies
use Rattle.jz_first_limit.specs.FirstLimits.{IsWithinLimits}
use Rattle.jz_inlining.specs.declared.inlining.Inlined.{Inlined}
use Rattle.jz_inlining.specs.Inlined.{IsExport, IsInlined, inlined_function}
use Rattle.jz_unrolling.specs.Unrolled.{IsUnrollable}
use Rattle.jz_walked_laws.specs.CalledBodies.{inlines_of, IsNamed}
use Rattle.jz_walked_laws.proofs.Whole.{named_law, called_law, results_law}
use Rattle.jz_unrollable.proofs.Unrollable.{unrollable}
use Rattle.jz_expansion.proofs.Followed.{same_at, contains_at}
use Rattle.jz_expansion.specs.Expanding.{IsCountedAt}

-- the only limit of copies
pub too_many : (p : Program) (f : Fun) (limit : CopyLimit) → Passes p f limit → Passes p f copies.Expand
too_many p f copies.Expand h = h

-- ---- within the limits

within_unrollable : (p : Program) (f : Fun) → IsTypedText p → Contains p.funs f → is_exported f.kind ≡ true → IsWithinLimits p f → IsUnrollable (inlined_function p f)
within_unrollable p f h has exported within =
    unrollable p f h.typed h.text has
    (All-contains (λ g. IsNamed (inlines_of g) (body_of p g)) p.funs f (named_law p h) has)
    (called_law p f h has exported within)
    (λ j q l. (results_law p f h has j q l).1)

-- of the function at that place
pub rounds_unrollable : (p : Program) (place n : ℕ) (i : Inlined) → IsCountedAt p place n → IsInlined p place i → IsExport p place → ∥ IsTypedProgram p ∥₁ → IsText p → ∥ IsUnrollable i.fun ∥₁
rounds_unrollable p place n i counted made export typed text =
    ∥∥₁_map typed
    (λ t. subst IsUnrollable (sym made.made.function)
    (within_unrollable p made.source (record { typed = t; text = text }) (contains_at p place made.source made.there)
    (subst (λ (f : Fun). is_exported f.kind ≡ true) (same_at p place export.function made.source export.there made.there) export.exported)
    (subst (IsWithinLimits p) (same_at p place counted.0 made.source counted.1 made.there) counted.2)))
