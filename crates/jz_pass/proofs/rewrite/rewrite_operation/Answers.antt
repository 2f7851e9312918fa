use Rattle.std.proofs.Common.{subst, sym, ◌∷◌, []}
use Rattle.jz_pass.specs.Rewriting.{RewritesTo}
use Rattle.jz_pass.proofs.Rewriting.{op_rewrites}
use Rattle.jz_pass.proofs.rewrite.rewrite_operation.Goals as goal

pub returns-clause-made : goal.returns-clause-made
returns-clause-made g c =
    let L = g.L.Local in let s = c.args.s.now in
    let made = c.in_ok-made.made in
    subst (λ steps. RewritesTo (L.rewriting c.args.local.now) L.before L.new_before (s ∷ []) made.statements steps) (sym c.in_ok-steps.ensures)
    (op_rewrites (L.rewriting c.args.local.now) L.before L.new_before s (L.shape s) made.statements made.items c.requires (g.met.L.Local.has_tree s) c.in_ok-made.ensures.made)
