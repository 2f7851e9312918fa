use Rattle.std.proofs.Common.{subst}
use Rattle.jz_runs.specs.Trees.{done}
use Rattle.jz_change.specs.Views.{change_of}
use Rattle.jz_pass.specs.Cases.{no_case}
use Rattle.jz_pass.specs.Rewriting.{knowing_of, all_before, RewritesTo}
use Rattle.jz_pass.proofs.Bodies.{unrolling_carries}
use Rattle.jz_pass.proofs.CasesKept.{unrolled_cases}
use Rattle.jz_pass.proofs.Rewriting.{whole_rewrites}
use Rattle.jz_pass.proofs.rewrite.Rewrite.run.Goals as goal

pub returns-clause-law : goal.returns-clause-law
returns-clause-law g c =
    let L = g.L.Local in let local = c.args.self.now.local in let ss = c.args.ss.now in let m = c.in_ok-statements.field-0.statements in let steps = c.in_ok-statements.field-0.steps in
    unrolling_carries L.parts L.new_parts (knowing_of (L.rewriting local)) (L.known local) tt tt (all_before L.before ss done) (all_before L.new_before m done) (change_of (record { steps = steps }))
    (whole_rewrites (L.rewriting local) L.before L.new_before ss m steps (subst (λ xs. RewritesTo (L.rewriting local) L.before L.new_before xs m steps) c.as_slice.ensures c.in_ok-statements.ensures.made))

pub returns-clause-cases : goal.returns-clause-cases
returns-clause-cases g c =
    let L = g.L.Local in let local = c.args.self.now.local in let ss = c.args.ss.now in let m = c.in_ok-statements.field-0.statements in let steps = c.in_ok-statements.field-0.steps in
    unrolled_cases (knowing_of (L.rewriting local)) (L.items local) no_case
    (whole_rewrites (L.rewriting local) L.before L.new_before ss m steps (subst (λ xs. RewritesTo (L.rewriting local) L.before L.new_before xs m steps) c.as_slice.ensures c.in_ok-statements.ensures.made))

pub returns-clause-made : goal.returns-clause-made
returns-clause-made g c =
    let L = g.L.Local in let local = c.args.self.now.local in let ss = c.args.ss.now in let m = c.in_ok-statements.field-0.statements in let steps = c.in_ok-statements.field-0.steps in
    whole_rewrites (L.rewriting local) L.before L.new_before ss m steps (subst (λ xs. RewritesTo (L.rewriting local) L.before L.new_before xs m steps) c.as_slice.ensures c.in_ok-statements.ensures.made)
