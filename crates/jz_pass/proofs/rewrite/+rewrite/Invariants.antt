use Rattle.std.proofs.Common.{◌+◌, ◌*◌, take}
use Rattle.jz_pass.specs.Rewriting.{RewritesTo, sizes}
use Rattle.jz_pass.proofs.rewrite.+rewrite.Given as goal

abbrev pub decreases-rewrite_all : goal.decreases-rewrite_all
decreases-rewrite_all g l = 3 * sizes g.L.Local.size l.ss.now + 2

abbrev pub decreases-rewrite_one : goal.decreases-rewrite_one
decreases-rewrite_one g l = 3 * g.L.Local.size l.s.now + 1

abbrev pub decreases-rewrite_if : goal.decreases-rewrite_if
decreases-rewrite_if g l = 3 * g.L.Local.size l.s.now

abbrev pub decreases-rewrite_while : goal.decreases-rewrite_while
decreases-rewrite_while g l = 3 * g.L.Local.size l.s.now

abbrev pub invariant-rewrite_all-loop-s : goal.invariant-rewrite_all-loop-s
invariant-rewrite_all-loop-s g l = RewritesTo (g.L.Local.rewriting l.local) g.L.Local.before g.L.Local.new_before (take l.s-index l.ss) l.statements l.steps
