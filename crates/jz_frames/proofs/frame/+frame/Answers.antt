use Rattle.std.proofs.Common.{◌≡◌, ◌+◌, ◌-◌, List, [], ◌∷◌, ◌++◌, length, map, drop, ap, subst, ap₂, ◌∙◌, rules, arith}
use Rattle.jz_tree.specs.declared.expr.Var.{Var}
use Rattle.jz_tree.specs.declared.program.Fun.{Fun}
use Rattle.jz_type_names.specs.Parts.{layer_of, statements_of}
use Rattle.jz_type_names.specs.Lent.{these}
use Rattle.jz_inline.specs.Names.{Names, var_in}
use Rattle.jz_inline.specs.Calls.{callee_names}
use Rattle.jz_inline.specs.CopiedNames.{names_of}
use Rattle.jz_frames.specs.Frames.{Called, own_params, frame_in, layer_called}
use Rattle.jz_frames.specs.InnerFrames.{here_of, calls_from}
use Rattle.jz_frames.proofs.Merging.{IsBegun, all_to_come, all_there}
use Rattle.jz_frames.proofs.Here.{one_brings, none_these}
use Rattle.jz_frames.proofs.Needed.{copies_needed}
use Rattle.jz_frames.proofs.frame.+frame.Goals as goal

pub push_call-returns-in_ok-push_frame-in-Some : goal.push_call-returns-in_ok-push_frame-in-Some
push_call-returns-in_ok-push_frame-in-Some t c =
    let fs : List Fun = c.args.walk.now.callable.funs.now in
    let names : Names = names_of c.args.names.now in
    let vs : List Var = drop c.args.declared c.args.vars.now in
    let j = c.args.out.now.next in
    let k : Called = record { at = c.in-Some.call.span; of = c.in-Some.call.of.now; args = c.in-Some.call.args.now } in
    let is : layer_called fs c.args.left (layer_of c.args.stmt.now) ≡ k ∷ [] = c.call_here.ensures ∙ ap here_of c.in-Some.is in
    let inner : names_of c.in_ok-inner-in-Some.inner ≡ callee_names names j k.of.params k.args = c.in_ok-inner-in-Some.ensures in
    one_brings fs c.args.left names (layer_of c.args.stmt.now) k c.args.out.now c.push_frame.new.out c.args.declared c.in_ok-at-in-Some.at c.args.vars.now is
    (c.in_ok-push_frame-in-Some.ensures.vars
    ∙ ap (λ l. l ++ frame_in fs (c.args.left - 1) (names_of c.in_ok-inner-in-Some.inner) (j + 1) k.of) c.in_ok-push_params-in-Some.ensures
    ∙ ap₂ (λ l n. (l ++ own_params n k.of.params) ++ frame_in fs (c.args.left - 1) n (j + 1) k.of) c.in_ok-at-in-Some.ensures.0 inner)
    c.in_ok-push_frame-in-Some.ensures.next
    c.in_ok-at-in-Some.ensures.1

pub push_frame-loop-stmt-init : goal.push_frame-loop-stmt-init
push_frame-loop-stmt-init t c =
    let fs : List Fun = c.args.walk.now.callable.funs.now in
    let same : these c.into_iter-stmt-iterator.result.rest.items ≡ statements_of c.args.fun.now.body = search rules in
    all_to_come fs c.args.left (names_of c.args.names.now) c.args.fun.now c.args.out.now
    (calls_from fs c.args.left (these c.into_iter-stmt-iterator.result.rest.items)) (ap (calls_from fs c.args.left) same)
    (copies_needed fs c.args.left c.args.fun.now)

pub push_frame-returns : goal.push_frame-returns
push_frame-returns t c =
    let fs : List Fun = c.args.walk.now.callable.funs.now in
    let ended : length c.loop-stmt.stmt-iterator.rest.items ≡ 0 = omega (arith, c.loop-stmt.stmt-iterator.rest.ok, c.in-None.ensures.steps.0) in
    let none : these c.loop-stmt.stmt-iterator.rest.items ≡ [] = none_these c.loop-stmt.stmt-iterator.rest.items ended in
    let left : IsBegun fs c.args.left (names_of c.args.names.now) c.args.fun.now c.args.out.now c.loop-stmt.out (drop c.loop-stmt.declared c.args.fun.now.vars) []
    = subst (λ ss. IsBegun fs c.args.left (names_of c.args.names.now) c.args.fun.now c.args.out.now c.loop-stmt.out (drop c.loop-stmt.declared c.args.fun.now.vars) (calls_from fs c.args.left ss)) none c.loop-stmt.invariant in
    all_there fs c.args.left (names_of c.args.names.now) c.args.fun.now c.args.out.now c.loop-stmt.out (drop c.loop-stmt.declared c.args.fun.now.vars) c.push_rest.new.out left
    (c.in_ok-push_rest.ensures ∙ ap (λ vs. c.loop-stmt.out.vars ++ map (var_in (names_of c.args.names.now)) (drop c.loop-stmt.declared vs)) c.as_slice-2.ensures)
