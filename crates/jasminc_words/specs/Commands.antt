-- The program's command with its subcommands, as `clap` sees it.
use Rattle.std.specs.Prelude.{◌≡◌, true, false, Some, codes}
use Rattle.clap.specs.Lexer.{usize_max}
use Rattle.clap.specs.Words.{App, Rule, Text, app_of, new_app, new_rule, rule_of}
use Rattle.clap.specs.Words.{with_rule, with_subcommand}
use Rattle.clap.specs.declared.builder.arg.Arg.{Arg}
use Rattle.clap.specs.declared.builder.command.Command.{Command}
use Rattle.clap.specs.declared.builder.command.Command.TheViews.{out-Command}
use Rattle.clap.specs.declared.builder.action.ArgAction.TheVariants.{Set, Append}

-- the argument is this one, and of its own command alone
pub record IsArg (rule : Rule) (a : Arg) : Type 0 where
  pub rule_is : rule_of a ≡ rule
  pub local : a.global ≡ false

pub record IsCommand (app : App) (c : Command) : Type 0 where
  pub app_is : app_of c ≡ app
  pub local : (out-Command c).has_globals ≡ false

-- ---- arguments
-- a word that has to be there
abbrev pub required_rule : Text → Rule
required_rule id = record (new_rule id) { required = true; action = Some Set }

-- any number of words
abbrev pub items_rule : Rule
items_rule = record (new_rule (codes "ITEM")) {
  range = Some (record { start_inclusive = 0; end_inclusive = usize_max });
  action = Some Append;
}

-- `--fuel` and a word
abbrev pub fuel_rule : Rule
fuel_rule = record (new_rule (codes "fuel")) { long = Some (codes "fuel"); action = Some Set }

-- ---- commands
-- the name, then `FILE`
abbrev pub file_app : Text → App
file_app name = with_rule (new_app name) (required_rule (codes "FILE"))

-- the name, then `FILE FUN ITEM..`, and `--fuel N` among them
abbrev pub run_app : Text → App
run_app name =
    with_rule (with_rule (with_rule (with_rule (new_app name) (required_rule (codes "FILE")))
    (required_rule (codes "FUN"))) items_rule) fuel_rule

-- the name, then `SEED SIZE`
abbrev pub number_app : Text → App
number_app name =
    with_rule (with_rule (new_app name) (required_rule (codes "SEED")))
    (required_rule (codes "SIZE"))

-- `selfrun SEED SIZE`, and `--fuel N` among them
abbrev pub selfrun_app : App
selfrun_app = with_rule (number_app (codes "selfrun")) fuel_rule

-- no help words are offered, and a subcommand has to be there
abbrev pub bare_app : App
bare_app = let a = new_app (codes "jasminc") in record a {
  top = record a.top {
    disable_help_flag = true;
    disable_help_subcommand = true;
    subcommand_required = true;
  };
}

-- the commands that read a file and call nothing stand beside `exec`, `interp` and `leak`
abbrev pub run_commands : App
run_commands =
    with_subcommand (with_subcommand (with_subcommand (with_subcommand bare_app
    (file_app (codes "compile")).top) (run_app (codes "exec")).top) (run_app (codes "interp")).top)
    (run_app (codes "leak")).top

abbrev pub file_commands : App
file_commands =
    with_subcommand (with_subcommand (with_subcommand run_commands (file_app (codes "disasm")).top)
    (file_app (codes "check")).top) (file_app (codes "ct")).top

abbrev pub jasminc_app : App
jasminc_app =
    with_subcommand (with_subcommand file_commands (number_app (codes "gen")).top) selfrun_app.top
