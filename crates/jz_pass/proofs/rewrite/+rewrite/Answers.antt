use Rattle.std.proofs.Common.{rules, ◌+◌, ◌*◌, ◌<◌, ◌≤◌, [], ◌∷◌, ◌++◌, take, subst, sym, arith}
use Rattle.std.proofs.lemmas.List.Elements.{Contains-get_or}
use Rattle.std.specs.Prelude.{Contains}
use Rattle.jz_pass.specs.Rewriting.{RewritesTo, RefusesOne, sizes}
use Rattle.jz_pass.proofs.Rewriting.{one_more, if_rewrites, while_rewrites, item_below}
use Rattle.jz_pass.proofs.Refusing.{passed_refused, err_refused, refused_here, refused_in, refused_in_first, refused_in_second}
use Rattle.jz_pass.proofs.rewrite.+rewrite.Goals as goal

pub rewrite_all-rewrite_one-requires : goal.rewrite_all-rewrite_one-requires
rewrite_all-rewrite_one-requires g t c κs within =
    let size = g.L.Local.size in
    let x : size c.s-item.result ≤ sizes size c.args.ss.now = item_below size c.args.ss.now c.loop-s.s-index c.s-item.result (search rules) (search rules) in
    let below : 3 * size c.s-item.result + 1 < t = omega (arith, x, c.decreases) in
    (below, within)

pub rewrite_all-returns-in_err-made-clause-refused : goal.rewrite_all-returns-in_err-made-clause-refused
rewrite_all-returns-in_err-made-clause-refused g t c =
    let L = g.L.Local in let refuses = L.refuses c.args.local.now in let ss = c.args.ss.now in let s = c.s-item.result in
    let in_ss : Contains ss s = subst (Contains ss) (sym (search rules)) (Contains-get_or ss c.loop-s.s-index s (search rules)) in
    passed_refused c.from_residual.result c.in_err-made.field-0.0 (RefusesOne L.shape refuses (s ∷ [])) (RefusesOne L.shape refuses ss) c.from_residual.ensures.1
    (λ cause r. refused_in L.shape refuses ss s cause in_ss r) c.in_err-made.ensures.refused

pub rewrite_all-loop-s-preserved : goal.rewrite_all-loop-s-preserved
rewrite_all-loop-s-preserved g t c =
    let L = g.L.Local in let R = L.rewriting c.args.local.now in let ss = c.args.ss.now in let i = c.loop-s.s-index in let s = c.s-item.result in let made = c.in_ok-made.made in
    subst (λ m. RewritesTo R L.before L.new_before (take (i + 1) ss) m c.append-in-loop-s.new.self) (sym c.in_ok-append.ensures.ok)
    (subst (λ steps. RewritesTo R L.before L.new_before (take (i + 1) ss) (c.loop-s.statements ++ made.statements) steps) (sym c.in_ok-append-2.ensures.ok)
    (one_more R L.before L.new_before ss i s s c.loop-s.statements made.statements c.loop-s.steps made.steps (search rules) (search rules) c.loop-s.invariant c.in_ok-made.ensures.made))

pub rewrite_if-returns-in_err-then_arm-clause-refused : goal.rewrite_if-returns-in_err-then_arm-clause-refused
rewrite_if-returns-in_err-then_arm-clause-refused g t c =
    let L = g.L.Local in let refuses = L.refuses c.args.local.now in let s = c.args.s.now in
    passed_refused c.from_residual.result c.in_err-then_arm.field-0.0 (RefusesOne L.shape refuses c.first.result.now) (RefusesOne L.shape refuses (s ∷ [])) c.from_residual.ensures.1
    (refused_in_first L.shape refuses s c.first.result.now c.first.ensures) c.in_err-then_arm.ensures.refused

pub rewrite_if-returns-in_err-else_arm-clause-refused : goal.rewrite_if-returns-in_err-else_arm-clause-refused
rewrite_if-returns-in_err-else_arm-clause-refused g t c =
    let L = g.L.Local in let refuses = L.refuses c.args.local.now in let s = c.args.s.now in
    passed_refused c.from_residual-in_err-else_arm.result c.in_err-else_arm.field-0.0 (RefusesOne L.shape refuses c.second.result.now) (RefusesOne L.shape refuses (s ∷ [])) c.from_residual-in_err-else_arm.ensures.1
    (refused_in_second L.shape refuses s c.second.result.now c.second.ensures) c.in_err-else_arm.ensures.refused

pub rewrite_if-returns-in_err-made-clause-refused : goal.rewrite_if-returns-in_err-made-clause-refused
rewrite_if-returns-in_err-made-clause-refused g t c =
    let L = g.L.Local in let refuses = L.refuses c.args.local.now in let s = c.args.s.now in
    passed_refused c.from_residual-in_err-made.result c.in_err-made.field-0.0 (refuses s) (RefusesOne L.shape refuses (s ∷ [])) c.from_residual-in_err-made.ensures.1
    (refused_here L.shape refuses s) c.in_err-made.ensures.refused

pub rewrite_if-returns-clause-made : goal.rewrite_if-returns-clause-made
rewrite_if-returns-clause-made g t c =
    let L = g.L.Local in let R = L.rewriting c.args.local.now in let s = c.args.s.now in let made = c.in_ok-made.made in
    let x = c.in_ok-then_arm.then_arm in let y = c.in_ok-else_arm.else_arm in
    subst (λ steps. RewritesTo R L.before L.new_before (s ∷ []) made.statements steps) (sym c.in_ok-steps.ensures)
    (if_rewrites R L.before L.new_before s (L.shape s) x.statements y.statements made.statements made.items made.numbers x.steps y.steps c.requires (g.met.L.Local.has_tree s)
    (subst (λ ss. RewritesTo R L.before L.new_before ss x.statements x.steps) c.first.ensures c.in_ok-then_arm.ensures.made)
    (subst (λ ss. RewritesTo R L.before L.new_before ss y.statements y.steps) c.second.ensures c.in_ok-else_arm.ensures.made) c.in_ok-made.ensures.made)

pub rewrite_one-returns-in-Operation-clause-refused : goal.rewrite_one-returns-in-Operation-clause-refused
rewrite_one-returns-in-Operation-clause-refused g t c =
    let L = g.L.Local in let refuses = L.refuses c.args.local.now in let s = c.args.s.now in
    err_refused c.rewrite_operation.result (refuses s) (RefusesOne L.shape refuses (s ∷ [])) (refused_here L.shape refuses s) c.rewrite_operation.ensures.refused

pub rewrite_one-returns-in-Quiet-clause-refused : goal.rewrite_one-returns-in-Quiet-clause-refused
rewrite_one-returns-in-Quiet-clause-refused g t c =
    let L = g.L.Local in let refuses = L.refuses c.args.local.now in let s = c.args.s.now in
    err_refused c.rewrite_quiet.result (refuses s) (RefusesOne L.shape refuses (s ∷ [])) (refused_here L.shape refuses s) c.rewrite_quiet.ensures.refused

pub rewrite_one-returns-in-Other-clause-refused : goal.rewrite_one-returns-in-Other-clause-refused
rewrite_one-returns-in-Other-clause-refused g t c = refused_here g.L.Local.shape (g.L.Local.refuses c.args.local.now) c.args.s.now c.refusal.result c.refusal.ensures

pub rewrite_while-returns-in_err-prologue-clause-refused : goal.rewrite_while-returns-in_err-prologue-clause-refused
rewrite_while-returns-in_err-prologue-clause-refused g t c =
    let L = g.L.Local in let refuses = L.refuses c.args.local.now in let s = c.args.s.now in
    passed_refused c.from_residual.result c.in_err-prologue.field-0.0 (RefusesOne L.shape refuses c.first.result.now) (RefusesOne L.shape refuses (s ∷ [])) c.from_residual.ensures.1
    (refused_in_first L.shape refuses s c.first.result.now c.first.ensures) c.in_err-prologue.ensures.refused

pub rewrite_while-returns-in_err-body-clause-refused : goal.rewrite_while-returns-in_err-body-clause-refused
rewrite_while-returns-in_err-body-clause-refused g t c =
    let L = g.L.Local in let refuses = L.refuses c.args.local.now in let s = c.args.s.now in
    passed_refused c.from_residual-in_err-body.result c.in_err-body.field-0.0 (RefusesOne L.shape refuses c.second.result.now) (RefusesOne L.shape refuses (s ∷ [])) c.from_residual-in_err-body.ensures.1
    (refused_in_second L.shape refuses s c.second.result.now c.second.ensures) c.in_err-body.ensures.refused

pub rewrite_while-returns-in_err-made-clause-refused : goal.rewrite_while-returns-in_err-made-clause-refused
rewrite_while-returns-in_err-made-clause-refused g t c =
    let L = g.L.Local in let refuses = L.refuses c.args.local.now in let s = c.args.s.now in
    passed_refused c.from_residual-in_err-made.result c.in_err-made.field-0.0 (refuses s) (RefusesOne L.shape refuses (s ∷ [])) c.from_residual-in_err-made.ensures.1
    (refused_here L.shape refuses s) c.in_err-made.ensures.refused

pub rewrite_while-returns-clause-made : goal.rewrite_while-returns-clause-made
rewrite_while-returns-clause-made g t c =
    let L = g.L.Local in let R = L.rewriting c.args.local.now in let s = c.args.s.now in let made = c.in_ok-made.made in
    let x = c.in_ok-prologue.prologue in let y = c.in_ok-body.body in
    subst (λ steps. RewritesTo R L.before L.new_before (s ∷ []) made.statements steps) (sym c.in_ok-steps.ensures)
    (while_rewrites R L.before L.new_before s (L.shape s) x.statements y.statements made.statements made.items made.numbers x.steps y.steps c.requires (g.met.L.Local.has_tree s)
    (subst (λ ss. RewritesTo R L.before L.new_before ss x.statements x.steps) c.first.ensures c.in_ok-prologue.ensures.made)
    (subst (λ ss. RewritesTo R L.before L.new_before ss y.statements y.steps) c.second.ensures c.in_ok-body.ensures.made) c.in_ok-made.ensures.made)
