use Rattle.std.proofs.Common.{rules, flat_map}
use Rattle.jz_type_storage.specs.Declarations.{is_kept, unkept, unkept_param, unkept_ret, unkept_in}
use Rattle.jz_type_storage.proofs.Joins.{three_joined}
use Rattle.jz_type_storage.proofs.declarations.wrongly_kept.Goals as goal

pub returns : goal.returns
unfolding unkept_in
returns c =
    let f = c.args.fun.now in
    three_joined (flat_map unkept_param f.params) (flat_map (unkept is_kept) f.vars) (flat_map (unkept_ret f.span) f.rets)
    c.params_unkept.result c.vars_unkept-vars.result c.rets_unkept-rets.result c.earlier_of.result c.earlier_of-2.result
    (search rules) (search rules) (search rules) c.earlier_of.ensures.is c.earlier_of-2.ensures.is
