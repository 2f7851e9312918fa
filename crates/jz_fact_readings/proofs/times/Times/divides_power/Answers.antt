use Rattle.std.proofs.Common.{◌≡◌, ◌%◌, ◌^◌, sym, subst}
use Rattle.std.specs.Prelude.{◌==◌, nat_le}
use Rattle.jz_fact_readings.specs.Multiples.{times_of}
use Rattle.jz_fact_readings.proofs.Powers.{by_two, by_four, by_eight}
use Rattle.jz_fact_readings.proofs.times.Times.divides_power.Goals as goal

pub returns-in-Two : goal.returns-in-Two
returns-in-Two c = subst (λ t. nat_le 1 c.args.power ≡ (2 ^ c.args.power % times_of t == 0)) (sym c.in-Two.is) (by_two c.args.power)

pub returns-in-Four : goal.returns-in-Four
returns-in-Four c = subst (λ t. nat_le 2 c.args.power ≡ (2 ^ c.args.power % times_of t == 0)) (sym c.in-Four.is) (by_four c.args.power)

pub returns-in-Eight : goal.returns-in-Eight
returns-in-Eight c = subst (λ t. nat_le 3 c.args.power ≡ (2 ^ c.args.power % times_of t == 0)) (sym c.in-Eight.is) (by_eight c.args.power)
