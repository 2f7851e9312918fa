use Rattle.std.proofs.Common.{◌≡◌, ◌++◌, map}
use Rattle.jz_resolve.specs.Programs.{resolved_const}
use Rattle.jz_resolve.specs.Tables.{values_in, places_in}
use Rattle.jz_resolve.proofs.program.resolve_consts.Given as goal

abbrev pub invariant-loop-c : goal.invariant-loop-c
invariant-loop-c l =
    l.done ++ map (resolved_const (places_in l.constants) (values_in l.constants)) l.c-iterator.rest.items
    ≡ map (resolved_const (places_in l.constants) (values_in l.constants)) l.fn.consts
