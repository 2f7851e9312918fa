use Rattle.std.proofs.Common.{sym, subst}
use Rattle.jz_type_names.specs.Scopes.{variables_of}
use Rattle.jz_operands.specs.TableHomes.{entries_of}
use Rattle.jz_homing.specs.Tables.{no_homes}
use Rattle.jz_homing.specs.InnerTables.{AreEntries}
use Rattle.jz_homing.proofs.EntryLemmas.{none_entered, all_entered}
use Rattle.jz_homing.proofs.HomingLemmas.{is_homing, are_kinds}
use Rattle.jz_homing.specs.Refusals.{IsHomeless}
use Rattle.jz_homing.proofs.HandedOn.{handed_cause}
use Rattle.jz_homing.proofs.homing.homing_of.Goals as goal

pub returns-clause-homing : goal.returns-clause-homing
returns-clause-homing c =
    let h = c.in_ok-table.table in
    is_homing (entries_of h.homes) h.kinds h.stack (subst AreEntries (sym c.in_ok-table.ensures.made) (all_entered no_homes (variables_of c.args.fun.now) none_entered))

pub returns-clause-kinds : goal.returns-clause-kinds
returns-clause-kinds c =
    let h = c.in_ok-table.table in
    are_kinds (entries_of h.homes) h.kinds h.stack (subst AreEntries (sym c.in_ok-table.ensures.made) (all_entered no_homes (variables_of c.args.fun.now) none_entered))

pub returns-in_err-table-clause-refused : goal.returns-in_err-table-clause-refused
returns-in_err-table-clause-refused c =
    let none = IsHomeless no_homes (variables_of c.args.fun.now) in
    handed_cause none none c.from_residual.result c.in_err-table.field-0.0 c.from_residual.ensures.1 c.in_err-table.ensures.refused (λ s h. h)
