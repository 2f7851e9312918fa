-- The rule by which the items of a body become those of its operations.
use Rattle.std.proofs.Common.{◌≡◌, ℕ, List, [], sym, subst}
use Rattle.std.proofs.lemmas.List.Elements.{All-nil}
use Rattle.jz_meaning.specs.Statements.{Condition}
use Rattle.jz_meaning.specs.Statements as statements
use Rattle.jz_operations.specs.declared.operation.Operation.{Operation}
use Rattle.jz_placing.specs.Variables.{Asked}
use Rattle.jz_change.specs.declared.change.Numbers.{Numbers}
use Rattle.jz_homes.specs.Homes.{Homes}
use Rattle.jz_flag_rows.specs.Conditions.{LowersFlagTest, asks_flag}
use Rattle.jz_every_row.specs.Statements.{Makes, by_row, by_flags, MakesTest, by_comparison, by_flag, MakesLoopTest, by_loop_test, by_loop_flag}
use Rattle.jz_every_row.specs.Bodies.{lowering}
use Rattle.jz_every_row.proofs.Known.{makes_many}
use Rattle.jz_events.specs.Outs.{operation_outs, asked_outs}
use Rattle.jz_compiled.specs.Layout.{Name, Place}
use Rattle.jz_compiled.specs.Showing.{OutStaysIn}
use Rattle.jz_case_names.specs.Items.{Come, none_come}
use Rattle.jz_case_names.proofs.Unrolled.{RuleComes}
use Rattle.jz_item_names.specs.Names.{keys_in, operation_keys, IsLeaked}
use Rattle.jz_item_names.specs.Names as names
use Rattle.jz_lowering_cases.specs.Staying.{shown_of, Shows, ArePlaced, IsSmall, OperationInside, TestInside}
use Rattle.jz_lowering_cases.proofs.Rows.{AllLeaked, OpsStay, come_of, ops_stay, lowers_leaked, test_shows, loop_test_shows}
use Rattle.jz_lowering_cases.proofs.FlagRows.{flags_leaked, flags_stay}

made_leaked : (home : Homes) (o : statements.Operation) (os : List Operation) (items : List Numbers) → Makes home o os items → AllLeaked items
made_leaked home o os items (by_row h) = lowers_leaked home o os items h
made_leaked home o os items (by_flags h) = flags_leaked home o os items h

module _ (home : Homes) (places : List Place) (slots : ℕ → ℕ) (size : ℕ) (placed : ArePlaced home places slots) (small : IsSmall places size) where
  made_stay : (o : statements.Operation) (os : List Operation) (items : List Numbers) → OperationInside home o → Makes home o os items → OpsStay home places slots size placed small (operation_keys o) os
  made_stay o os items inside (by_row h) = ops_stay home places slots size placed small o os items inside h
  made_stay o os items inside (by_flags h) = flags_stay home places slots size placed small o os items inside h

  op_comes : (o : statements.Operation) (os : List Operation) (items : List Numbers) → OperationInside home o → Makes home o os items → Come (Shows places size) (λ (x : Operation). operation_outs slots size x.action) (operation_keys o) os items
  op_comes o os items inside l =
      come_of home places slots size placed small (operation_keys o) (makes_many home o os items l) (made_stay o os items inside l) (made_leaked home o os items l)

  flag_test_shows : (t : Condition) (asked : Asked) (i : Numbers) → LowersFlagTest home t asked i → Shows places size (keys_in t.cond) i (asked_outs slots size asked)
  flag_test_shows t asked i (asks_flag h) = record { stays = All-nil (OutStaysIn places size (keys_in t.cond)); leaked = All-nil IsLeaked }

  made_test_shows : (t : Condition) (asked : Asked) (i : Numbers) → TestInside home t → MakesTest home t asked i → Shows places size (keys_in t.cond) i (asked_outs slots size asked)
  made_test_shows t asked i inside (by_comparison h) = test_shows home places slots size placed small t asked i inside h
  made_test_shows t asked i inside (by_flag h) = flag_test_shows t asked i h

  made_loop_test_shows : (t : Condition) (asked : Asked) (i : Numbers) → TestInside home t → MakesLoopTest home t asked i → Shows places size (keys_in t.cond) i (asked_outs slots size asked)
  made_loop_test_shows t asked i inside (by_loop_test h) = loop_test_shows home places slots size placed small t asked i inside h
  made_loop_test_shows t asked i inside (by_loop_flag h) = flag_test_shows t asked i h

  nothing_comes : (a : List Name) (os : List Operation) (items : List Numbers) → os ≡ [] → items ≡ [] → Come (Shows places size) (λ (x : Operation). operation_outs slots size x.action) a os items
  nothing_comes a os items e f =
      subst (λ x. Come (Shows places size) (λ (y : Operation). operation_outs slots size y.action) a x items) (sym e) (subst (Come (Shows places size) (λ (y : Operation). operation_outs slots size y.action) a []) (sym f) none_come)

  pub lowering_rule : RuleComes (lowering home) (OperationInside home) (TestInside home) (Shows places size) names.plain (shown_of slots size)
  lowering_rule = record {
    ops = λ o e e1 os is inside l. op_comes o os is inside l;
    tests = λ t e os is asked i inside l. (nothing_comes (keys_in t.cond) os is l.0 l.1, made_test_shows t asked i inside l.2);
    loop_tests = λ t e os is asked i inside l. (nothing_comes (keys_in t.cond) os is l.0 l.1, made_loop_test_shows t asked i inside l.2);
  }
