use Rattle.std.proofs.Common.{◌≡◌, ℕ, ◌-◌, ◌≤◌, List, ◌∷◌, length, take, drop, None, rules, arith}
use Rattle.jz_tree.specs.declared.stmt.Lval.{Lval}
use Rattle.jz_operands.specs.TableHomes.{homes_of}
use Rattle.jz_instructions.proofs.LeadLemmas.{five_up, no_five, five_led}
use Rattle.jz_instructions.proofs.leading.five_led.Goals as goal

pub returns-in_err-sf-in-len5-up : goal.returns-in_err-sf-in-len5-up
returns-in_err-sf-in-len5-up c =
    let to = c.args.to.now in
    let l : 5 ≤ length to = omega (arith, c.in-len5-up.len_at_least) in
    let rest = take (length to - 5) (drop 5 to) in
    let is : to ≡ c.of-item.result ∷ c.cf-item.result ∷ c.sf-item.result ∷ c.pf-item.result ∷ c.zf-item.result ∷ rest = five_up to c.of-item.result c.cf-item.result c.sf-item.result c.pf-item.result c.zf-item.result l c.of-item.is c.cf-item.is c.sf-item.is c.pf-item.is c.zf-item.is in
    let none : c.from_residual-in_err-sf-in-len5-up.result ≡ None = search rules in
    rw none (no_five (homes_of c.args.homes.now) to c.of-item.result c.cf-item.result c.sf-item.result c.pf-item.result c.zf-item.result rest is (λ a b d e i f g h k m. c.in_err-sf-in-len5-up.ensures d h))

pub returns-in_err-pf-in-len5-up : goal.returns-in_err-pf-in-len5-up
returns-in_err-pf-in-len5-up c =
    let to = c.args.to.now in
    let l : 5 ≤ length to = omega (arith, c.in-len5-up.len_at_least) in
    let rest = take (length to - 5) (drop 5 to) in
    let is : to ≡ c.of-item.result ∷ c.cf-item.result ∷ c.sf-item.result ∷ c.pf-item.result ∷ c.zf-item.result ∷ rest = five_up to c.of-item.result c.cf-item.result c.sf-item.result c.pf-item.result c.zf-item.result l c.of-item.is c.cf-item.is c.sf-item.is c.pf-item.is c.zf-item.is in
    let none : c.from_residual-in_err-pf-in-len5-up.result ≡ None = search rules in
    rw none (no_five (homes_of c.args.homes.now) to c.of-item.result c.cf-item.result c.sf-item.result c.pf-item.result c.zf-item.result rest is (λ a b d e i f g h k m. c.in_err-pf-in-len5-up.ensures e k))

pub returns-in_err-zf-in-len5-up : goal.returns-in_err-zf-in-len5-up
returns-in_err-zf-in-len5-up c =
    let to = c.args.to.now in
    let l : 5 ≤ length to = omega (arith, c.in-len5-up.len_at_least) in
    let rest = take (length to - 5) (drop 5 to) in
    let is : to ≡ c.of-item.result ∷ c.cf-item.result ∷ c.sf-item.result ∷ c.pf-item.result ∷ c.zf-item.result ∷ rest = five_up to c.of-item.result c.cf-item.result c.sf-item.result c.pf-item.result c.zf-item.result l c.of-item.is c.cf-item.is c.sf-item.is c.pf-item.is c.zf-item.is in
    let none : c.from_residual-in_err-zf-in-len5-up.result ≡ None = search rules in
    rw none (no_five (homes_of c.args.homes.now) to c.of-item.result c.cf-item.result c.sf-item.result c.pf-item.result c.zf-item.result rest is (λ a b d e i f g h k m. c.in_err-zf-in-len5-up.ensures i m))

pub returns-in_ok-zf-in-len5-up : goal.returns-in_ok-zf-in-len5-up
returns-in_ok-zf-in-len5-up c =
    let to = c.args.to.now in
    let l : 5 ≤ length to = omega (arith, c.in-len5-up.len_at_least) in
    let rest = take (length to - 5) (drop 5 to) in
    let is : to ≡ c.of-item.result ∷ c.cf-item.result ∷ c.sf-item.result ∷ c.pf-item.result ∷ c.zf-item.result ∷ rest = five_up to c.of-item.result c.cf-item.result c.sf-item.result c.pf-item.result c.zf-item.result l c.of-item.is c.cf-item.is c.sf-item.is c.pf-item.is c.zf-item.is in
    five_led (homes_of c.args.homes.now) to c.of-item.result c.cf-item.result c.sf-item.result c.pf-item.result c.zf-item.result rest c.in_ok-of-in-len5-up.of c.in_ok-cf-in-len5-up.cf c.in_ok-sf-in-len5-up.sf c.in_ok-pf-in-len5-up.pf c.in_ok-zf-in-len5-up.zf is c.in_ok-of-in-len5-up.ensures c.in_ok-cf-in-len5-up.ensures c.in_ok-sf-in-len5-up.ensures c.in_ok-pf-in-len5-up.ensures c.in_ok-zf-in-len5-up.ensures
