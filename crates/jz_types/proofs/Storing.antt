-- Where variables are first kept, set or read as their storage does not allow.
use Rattle.std.proofs.Common.{◌≡◌, ◌++◌, Option, sym, subst}
use Rattle.std.specs.Prelude.{Contains}
use Rattle.jz_tree.specs.Span.{Span}
use Rattle.jz_tree.specs.declared.program.Program.{Program}
use Rattle.jz_type_names.specs.Order.{earlier, earliest, IsEarliest}
use Rattle.jz_type_names.proofs.Earliest.{both_earliest}
use Rattle.jz_type_names.proofs.Firsts.{earliest_is, earlier_of_two}
use Rattle.jz_type_storage.specs.Declarations.{wrongly_kept}
use Rattle.jz_type_storage.specs.Settings.{wrongly_set}
use Rattle.jz_type_storage.specs.Paths.{IsReadUnsetIn}
use Rattle.jz_types.specs.declared.fault.TypeRule.TheVariants.{Storage}
use Rattle.jz_types.specs.Rules.{BreaksIn}

pub first_misplaced : (p q : Program) (kept set read : Option Span) → kept ≡ earliest (wrongly_kept q) → set ≡ earliest (wrongly_set q) → IsEarliest (IsReadUnsetIn q) read
    → IsEarliest (BreaksIn p q Storage) (earlier (earlier kept set) read)
first_misplaced p q kept set read k s h =
    earlier_of_two
    (λ at. Contains (wrongly_kept q ++ wrongly_set q) at)
    (IsReadUnsetIn q)
    (earlier kept set)
    read
    (subst (IsEarliest (λ at. Contains (wrongly_kept q ++ wrongly_set q) at)) (sym (both_earliest (wrongly_kept q) (wrongly_set q) kept set k s)) (earliest_is (wrongly_kept q ++ wrongly_set q)))
    h
