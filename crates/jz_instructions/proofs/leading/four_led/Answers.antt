use Rattle.std.proofs.Common.{◌≡◌, ℕ, ◌-◌, ◌≤◌, List, ◌∷◌, length, take, drop, None, rules, arith}
use Rattle.jz_tree.specs.declared.stmt.Lval.{Lval}
use Rattle.jz_operands.specs.TableHomes.{homes_of}
use Rattle.jz_instructions.proofs.LeadLemmas.{four_up, no_four, four_led}
use Rattle.jz_instructions.proofs.leading.four_led.Goals as goal

pub returns-in_err-pf-in-len4-up : goal.returns-in_err-pf-in-len4-up
returns-in_err-pf-in-len4-up c =
    let to = c.args.to.now in
    let l : 4 ≤ length to = omega (arith, c.in-len4-up.len_at_least) in
    let rest = take (length to - 4) (drop 4 to) in
    let is : to ≡ c.of-item.result ∷ c.sf-item.result ∷ c.pf-item.result ∷ c.zf-item.result ∷ rest = four_up to c.of-item.result c.sf-item.result c.pf-item.result c.zf-item.result l c.of-item.is c.sf-item.is c.pf-item.is c.zf-item.is in
    let none : c.from_residual-in_err-pf-in-len4-up.result ≡ None = search rules in
    rw none (no_four (homes_of c.args.homes.now) to c.of-item.result c.sf-item.result c.pf-item.result c.zf-item.result rest is (λ a b d e f g h k. c.in_err-pf-in-len4-up.ensures d h))

pub returns-in_err-zf-in-len4-up : goal.returns-in_err-zf-in-len4-up
returns-in_err-zf-in-len4-up c =
    let to = c.args.to.now in
    let l : 4 ≤ length to = omega (arith, c.in-len4-up.len_at_least) in
    let rest = take (length to - 4) (drop 4 to) in
    let is : to ≡ c.of-item.result ∷ c.sf-item.result ∷ c.pf-item.result ∷ c.zf-item.result ∷ rest = four_up to c.of-item.result c.sf-item.result c.pf-item.result c.zf-item.result l c.of-item.is c.sf-item.is c.pf-item.is c.zf-item.is in
    let none : c.from_residual-in_err-zf-in-len4-up.result ≡ None = search rules in
    rw none (no_four (homes_of c.args.homes.now) to c.of-item.result c.sf-item.result c.pf-item.result c.zf-item.result rest is (λ a b d e f g h k. c.in_err-zf-in-len4-up.ensures e k))

pub returns-in_ok-zf-in-len4-up : goal.returns-in_ok-zf-in-len4-up
returns-in_ok-zf-in-len4-up c =
    let to = c.args.to.now in
    let l : 4 ≤ length to = omega (arith, c.in-len4-up.len_at_least) in
    let rest = take (length to - 4) (drop 4 to) in
    let is : to ≡ c.of-item.result ∷ c.sf-item.result ∷ c.pf-item.result ∷ c.zf-item.result ∷ rest = four_up to c.of-item.result c.sf-item.result c.pf-item.result c.zf-item.result l c.of-item.is c.sf-item.is c.pf-item.is c.zf-item.is in
    four_led (homes_of c.args.homes.now) to c.of-item.result c.sf-item.result c.pf-item.result c.zf-item.result rest c.in_ok-of-in-len4-up.of c.in_ok-sf-in-len4-up.sf c.in_ok-pf-in-len4-up.pf c.in_ok-zf-in-len4-up.zf is c.in_ok-of-in-len4-up.ensures c.in_ok-sf-in-len4-up.ensures c.in_ok-pf-in-len4-up.ensures c.in_ok-zf-in-len4-up.ensures
