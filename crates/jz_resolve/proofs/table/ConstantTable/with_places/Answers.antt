use Rattle.std.proofs.Math.Path.{fun_ext}
use Rattle.jz_type_names.proofs.UnknownLaws.{constants_are}
use Rattle.jz_resolve.proofs.table.ConstantTable.with_places.Goals as goal

pub returns-clause-places : goal.returns-clause-places
returns-clause-places c = constants_are c.in_ok-places.places c.args.consts.now c.in_ok-places.ensures

pub returns-clause-values : goal.returns-clause-values
returns-clause-values c = fun_ext c.new.ensures
