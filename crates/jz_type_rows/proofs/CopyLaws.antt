-- The earliest of what is wrong with the arguments and results of a call.
use Rattle.std.proofs.Common.{◌≡◌, ℕ, List, [], flat_map, Option, Some, ap, ◌∙◌}
use Rattle.jz_tree.specs.Span.{Span}
use Rattle.jz_tree.specs.declared.expr.Expr.{Expr}
use Rattle.jz_tree.specs.declared.stmt.Lval.{Lval}
use Rattle.jz_type_names.specs.Order.{earlier, earliest, first_in}
use Rattle.jz_type_names.proofs.Earliest.{first_over, both_earliest}
use Rattle.jz_type_rows.specs.declared.callee.Callee.{Callee}
use Rattle.jz_type_rows.specs.Copies.{Given, Passed, given_results, numbers_back, passed_from, not_back, not_passed, passed_twice, passed_wrongly, wrong_arguments, copied_by_call}

pub wrongly_is : (g : Callee) (to : List Lval) (args : List Expr) (rs : List Given) (ns : List ℕ) (ps qs : List Passed) (a b : Option Span)
    → rs ≡ given_results g to → ns ≡ numbers_back args rs → ps ≡ passed_from 0 args → qs ≡ passed_from 0 args
    → a ≡ first_in (not_back g.written ns) ps → b ≡ earliest (passed_twice g.written [] qs)
    → earlier a b ≡ earliest (passed_wrongly g to args)
wrongly_is g to args rs ns ps qs a b hr hn hp hq ha hb =
    both_earliest (flat_map (not_back g.written (numbers_back args (given_results g to))) (passed_from 0 args)) (passed_twice g.written [] (passed_from 0 args)) a b
    (ha
    ∙ (ap (λ m. first_in (not_back g.written m) ps) (hn ∙ ap (numbers_back args) hr)
    ∙ (ap (first_in (not_back g.written (numbers_back args (given_results g to)))) hp
    ∙ first_over (not_back g.written (numbers_back args (given_results g to))) (passed_from 0 args))))
    (hb ∙ ap (λ q. earliest (passed_twice g.written [] q)) hq)

pub by_call_is : (g : Callee) (to : List Lval) (args : List Expr) (rs : List Given) (a b : Option Span)
    → rs ≡ given_results g to → a ≡ first_in (not_passed args) rs → b ≡ earliest (wrong_arguments g to args)
    → earlier a b ≡ earliest (copied_by_call (Some g) to args)
by_call_is g to args rs a b hr ha hb =
    both_earliest (flat_map (not_passed args) (given_results g to)) (wrong_arguments g to args) a b
    (ha ∙ (ap (first_in (not_passed args)) hr ∙ first_over (not_passed args) (given_results g to))) hb
