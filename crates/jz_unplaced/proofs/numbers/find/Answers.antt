use Rattle.std.proofs.Common.{◌≤◌, arith, rules}
use Rattle.jz_unplaced.proofs.numbers.find.Goals as goal

pub returns : goal.returns
returns c =
    let many = c.count-count.ensures in
    let le : c.count-count.result ≤ c.args.number = search rules in
    omega (arith, many, le)
