-- A function without a first alarm has none by what is given of it.
use Rattle.std.proofs.Common.{◌≡◌, None, map, flat_map, refl, subst}
use Rattle.jz_tree.specs.declared.program.Fun.{Fun}
use Rattle.jz_preconditions.specs.Stating.{preconditions_of}
use Rattle.jz_facts.specs.Facts.{Given}
use Rattle.jz_fact_sets.specs.declared.given.Given as code
use Rattle.jz_fact_sets.specs.Kept.{given_of}
use Rattle.jz_given.specs.Giving.{param_of, variables, region_of}
use Rattle.jz_function_runs.specs.FunctionRuns.{plain_body}
use Rattle.jz_alarms.specs.Alarms.{IsFirstAlarm}
use Rattle.jz_first_alarm.specs.FirstAlarms.{HasFirstAlarm}
use Rattle.jz_never_stuck.specs.Safety.{HasNoAlarm}

module _ (f : Fun) (h : HasFirstAlarm f (preconditions_of f) None) where
  given : code.Given
  given = record {
    constants = h.0.consts;
    params = map (param_of (preconditions_of f)) f.params;
    regions = flat_map (region_of (variables f.params)) (preconditions_of f);
  }

  same : h.0 ≡ given_of given
  unfolding given
  same = λ i. record { consts = h.0.consts; params = h.1.params i; regions = h.1.regions i }

  pub no_alarm : HasNoAlarm (plain_body f) f
  unfolding given
  no_alarm = record {
    given = given;
    made = record { params = refl; regions = refl };
    none = subst (λ (g : Given). IsFirstAlarm g (plain_body f) f.result None) same h.2;
  }
