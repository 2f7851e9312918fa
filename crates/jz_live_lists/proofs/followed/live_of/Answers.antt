use Rattle.jz_ir.specs.Tree.{tree_of}
use Rattle.jz_live_lists.proofs.FollowedLemmas.{rows_count, rows_exact}
use Rattle.jz_live_lists.proofs.followed.live_of.Goals as goal

pub returns-clause-rows : goal.returns-clause-rows
returns-clause-rows c = rows_count c.args.followed.now (tree_of c.args.code.now) (tree_of c.in_ok-narrow.narrow) c.in_ok-rows.rows.items c.in_ok-narrow.ensures c.in_ok-rows.ensures.rows

pub returns-clause-exact : goal.returns-clause-exact
returns-clause-exact c = rows_exact c.args.followed.now (tree_of c.args.code.now) (tree_of c.in_ok-narrow.narrow) c.in_ok-rows.rows.items c.in_ok-narrow.ensures c.in_ok-rows.ensures.rows c.in_ok-rows.ensures.exact
