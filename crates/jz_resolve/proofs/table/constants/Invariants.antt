use Rattle.std.proofs.Common.{take}
use Rattle.std.proofs.Common.{◌≡◌}
use Rattle.jz_type_names.specs.Scopes.{constant_place}
use Rattle.jz_resolve.specs.Numbering.{values_of}
use Rattle.jz_resolve.specs.Tables.{values_in, places_in}
use Rattle.jz_resolve.proofs.table.constants.Given as goal

abbrev pub invariant-loop-c : goal.invariant-loop-c
invariant-loop-c l = (values_in l.table ≡ values_of (take l.c-index l.c-items)) × (places_in l.table ≡ constant_place l.consts)
