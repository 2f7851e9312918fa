use Rattle.std.proofs.Common.{◌≡◌, refl, ap, ◌∙◌, subst, length, Err}
use Rattle.jz_meaning.specs.Runs.{callees_of}
use Rattle.jz_copies.specs.declared.extent.Extent.{Extent}
use Rattle.jz_copies.specs.InnerCounts.{callees_in, block_depths, IsFurther, IsWalked}
use Rattle.jz_copies.proofs.Walks.{extent_of, passed_of}
use Rattle.jz_copies.proofs.walk.copied_extent.Goals as goal

pub returns-in-Ok-clause-within : goal.returns-in-Ok-clause-within
returns-in-Ok-clause-within c =
    let none : Extent = record { count = 0; deepest = 0 } in
    let same : callees_in c.in_ok-callable.callable c.len.result ≡ callees_of c.args.program.now.funs (length c.args.program.now.funs)
    = ap (callees_of c.in_ok-callable.callable.funs.now) c.len.ensures ∙ ap (λ fs. callees_of fs (length fs)) c.in_ok-callable.ensures in
    extent_of c.args.program.now c.args.fun.now none c.in-Ok.extent (refl, refl)
    (subst (λ cs. IsFurther none (block_depths cs 1 c.args.fun.now.body) c.in-Ok.extent) same c.in-Ok.ensures)

pub returns-clause-passed : goal.returns-clause-passed
returns-clause-passed c =
    let none : Extent = record { count = 0; deepest = 0 } in
    let same : callees_in c.in_ok-callable.callable c.len.result ≡ callees_of c.args.program.now.funs (length c.args.program.now.funs)
    = ap (callees_of c.in_ok-callable.callable.funs.now) c.len.ensures ∙ ap (λ fs. callees_of fs (length fs)) c.in_ok-callable.ensures in
    passed_of c.args.program.now c.args.fun.now none c.in-Err.limit (refl, refl)
    (subst (λ cs. IsWalked none (block_depths cs 1 c.args.fun.now.body) (Err c.in-Err.limit)) same c.in-Err.ensures)
