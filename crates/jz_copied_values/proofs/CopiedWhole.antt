-- The whole body of a function.
use Rattle.std.proofs.Common.{refl, arith, inl}
use Rattle.jz_runs.specs.Trees.{done}
use Rattle.jz_unrolling_laws.specs.Functions.{own_names}
use Rattle.jz_limits.specs.Values.{no_numbers}
use Rattle.jz_limits.specs.Walks.{walk}
use Rattle.jz_unrolling.specs.Fits.{fits_done}
use Rattle.jz_copied_values.specs.CopiedLaws.{CopiesFit}
use Rattle.jz_copied_values.proofs.CopiedCalls.{Ends}
use Rattle.jz_copied_values.proofs.CopiedTrees.{tree_fits}

-- the function's own variables are the copy 0, and nothing is known of any
pub whole_fits : CopiesFit
whole_fits names i t own has named fits =
    let made = tree_fits names (Ends names own_names 0 (walk t no_numbers).known no_numbers) t i own_names 0 1 no_numbers no_numbers done
    (record { named = own; place = λ n. inl refl }) (omega arith) has named fits (record { numbers = λ n. refl; only = λ n c out. refl })
    (λ k1 h. (k1, fits_done, h)) in
    (made.0, made.1)
