use Rattle.std.proofs.Common.{◌≡◌, ℕ, ◌-◌, ◌≤◌, List, ◌∷◌, length, take, drop, None, rules, arith}
use Rattle.jz_tree.specs.declared.stmt.Lval.{Lval}
use Rattle.jz_operands.specs.TableHomes.{homes_of}
use Rattle.jz_instructions.proofs.LeadLemmas.{two_up, two_led}
use Rattle.jz_instructions.proofs.leading.two_led.Goals as goal

pub returns-in_ok-cf-in-len2-up : goal.returns-in_ok-cf-in-len2-up
returns-in_ok-cf-in-len2-up c =
    let to = c.args.to.now in
    let l : 2 ≤ length to = omega (arith, c.in-len2-up.len_at_least) in
    let rest = take (length to - 2) (drop 2 to) in
    let is : to ≡ c.of-item.result ∷ c.cf-item.result ∷ rest = two_up to c.of-item.result c.cf-item.result l c.of-item.is c.cf-item.is in
    two_led (homes_of c.args.homes.now) to c.of-item.result c.cf-item.result rest c.in_ok-of-in-len2-up.of c.in_ok-cf-in-len2-up.cf is c.in_ok-of-in-len2-up.ensures c.in_ok-cf-in-len2-up.ensures
