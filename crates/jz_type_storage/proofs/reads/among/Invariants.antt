use Rattle.std.proofs.Common.{◌≡◌, drop, map}
use Rattle.jz_type_names.specs.Order.{earlier}
use Rattle.jz_type_names.specs.Scopes.{name_of}
use Rattle.jz_type_storage.specs.Paths.{in_turn, reads}
use Rattle.jz_type_storage.specs.InnerSurely.{first}
use Rattle.jz_type_storage.specs.InnerWalks.{members}
use Rattle.jz_type_storage.proofs.reads.among.Given as goal

abbrev pub invariant-loop-var : goal.invariant-loop-var
invariant-loop-var l =
    let a = members l.asked.keys in
    let s = members l.set.keys in
    earlier l.best (first a (in_turn (map (λ v. reads (name_of v.now)) (drop l.var-index l.vars))) s) ≡ first a (in_turn (map (λ v. reads (name_of v.now)) l.vars)) s
