-- What the walk of a whole body gives, and what is given of a function.
use Rattle.std.proofs.Common.{◌≡◌, ℕ, List, map, flat_map, length, Option, Some, None, sym, ap, ◌∙◌, subst}
use Rattle.std.proofs.lemmas.List.{length-map}
use Rattle.jz_tree.specs.declared.expr.Var.{Var}
use Rattle.jz_tree.specs.declared.program.Fun.{Fun}
use Rattle.jz_tree.specs.declared.stmt.Stmt.{Stmt}
use Rattle.jz_annotations.specs.declared.precondition.Pre.{Pre}
use Rattle.jz_intervals.specs.Constants.{constants, is_among}
use Rattle.jz_runs.specs.Trees.{done}
use Rattle.jz_meaning.specs.Runs.{block}
use Rattle.jz_facts.specs.Facts.{Facts}
use Rattle.jz_body_numbers.specs.Numbers.{of_function}
use Rattle.jz_fact_sets.specs.declared.given.Given as code
use Rattle.jz_fact_sets.specs.Kept.{given_of, start_of, region_of}
use Rattle.jz_given.specs.Giving as giving
use Rattle.jz_block_facts.specs.Heads.{no_callees, plain_block}
use Rattle.jz_alarms.specs.Conditions as conditions
use Rattle.jz_alarms.specs.Conditions.{asks_results}
use Rattle.jz_asked.specs.declared.alarms.Alarm.{Alarm}
use Rattle.jz_asked.specs.Asked.{alarm_of, found_of}
use Rattle.jz_first_alarm.specs.FirstAlarms.{IsGiven}
use Rattle.jz_first_alarm.specs.InnerAsking.{FirstIn, Goes, Stops}

-- what a refusal by an alarm says, and none
pub none_left : (found : Option Alarm) (o : Option conditions.Alarm) → found_of found ≡ o → found ≡ None → o ≡ None
none_left found o e n = sym e ∙ ap found_of n

pub one_left : (found : Option Alarm) (o : Option conditions.Alarm) (a : Alarm) → found_of found ≡ o → found ≡ Some a → o ≡ Some (alarm_of a)
one_left found o a e n = sym e ∙ ap found_of n

module _ (g : code.Given) (ss : List Stmt) (xs : List Var) (s e : Facts) (same : s ≡ e) where
  -- behind a body there are the results
  pub whole : (n : ℕ) (t : Facts) (w : Option conditions.Alarm) → Goes g (block no_callees ss) 0 s n t → asks_results xs t ≡ w → FirstIn g (plain_block ss) e w xs
  whole n t w l h = subst (λ x. FirstIn g (plain_block ss) x w xs) same (l.first xs done w (sym h))

  pub stopped : (a : conditions.Alarm) → Stops g (block no_callees ss) s a → FirstIn g (plain_block ss) e (Some a) xs
  stopped a h = subst (λ x. FirstIn g (plain_block ss) x (Some a) xs) same (h xs done)

-- ---- what is given

pub given_is : (f : Fun) (ps : List Pre) (m : code.Given) → ((c : ℕ) → is_among c m.constants ≡ is_among c (constants (of_function f.body ps))) → m.params ≡ map (giving.param_of ps) f.params
    → m.regions ≡ flat_map (giving.region_of (giving.variables f.params)) ps → IsGiven f ps (given_of m)
given_is f ps m all p r = record {
  constants = all;
  params = ap (map start_of) p;
  regions = ap (map region_of) r;
}

pub as_many : (f : Fun) (ps : List Pre) (m : code.Given) → m.params ≡ map (giving.param_of ps) f.params → length m.params ≡ length f.params
as_many f ps m e = ap length e ∙ length-map f.params (giving.param_of ps)
