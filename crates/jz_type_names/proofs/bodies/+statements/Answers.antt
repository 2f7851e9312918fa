use Rattle.std.proofs.Common.{◌≡◌, ◌++◌, [], ◌∷◌, ap, sym, ◌∙◌, append_assoc, flat_map, drop, ◌+◌}
use Rattle.jz_type_names.specs.Parts.{statements_in}
use Rattle.jz_type_names.specs.Lent.{these}
use Rattle.jz_type_names.specs.InnerNested.{nested_of}
use Rattle.jz_type_names.proofs.Lists.{next_item, these-push}
use Rattle.jz_type_names.proofs.NestedLaws.{statements_out}
use Rattle.jz_type_names.proofs.bodies.+statements.Goals as goal

pub add_statements-loop-stmt-preserved : goal.add_statements-loop-stmt-preserved
add_statements-loop-stmt-preserved t c =
    let s = c.stmt-item.result
    in let old = these c.loop-stmt.list.items
    in let grown : these c.add_nested.new.list.items ≡ old ++ statements_in s =
    c.in_ok-add_nested.ensures ∙ (ap (λ l. l ++ nested_of s.kind) (ap these c.in_ok-push.ensures.items ∙ these-push _ _)
    ∙ (append_assoc old (s ∷ []) (nested_of s.kind) ∙ ap (λ l. old ++ l) (sym (statements_out s))))
    in ap (λ l. l ++ flat_map statements_in (drop (c.loop-stmt.stmt-index + 1) c.as_slice-stmt-items.result.now)) grown
    ∙ next_item statements_in old _ c.as_slice-stmt-items.result.now c.loop-stmt.stmt-index s c.loop-stmt-test.true c.stmt-item.is c.loop-stmt.invariant
