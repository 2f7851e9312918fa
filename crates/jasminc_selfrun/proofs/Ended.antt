-- The end of a run on items that is summed up.
use Rattle.std.proofs.Common.{◌≡◌, ℕ, List, ap, ◌∙◌, subst}
use Rattle.jz_tree.specs.declared.program.Fun.{Fun}
use Rattle.jz_leak.specs.declared.event.Event.{Event}
use Rattle.jz_items.specs.declared.item.Item.{Item}
use Rattle.jz_items.specs.Items.{words_of}
use Rattle.jz_listing.specs.declared.compiled.Compiled.{Compiled}
use Rattle.x64_machine.specs.declared.machine.Machine.{Machine}
use Rattle.x64_machine.specs.MachineRuns.{code_of, base_of, config_of}
use Rattle.x64_machine.specs.Steps.{Config, steps_of}
use Rattle.jasminc_lines.specs.Lines.{cut_line}
use Rattle.jasminc_steps.specs.Starting.{code_base, exec_start}
use Rattle.jasminc_steps.specs.Stepping.{Finishes}
use Rattle.jasminc_steps.specs.declared.stepping.Finish.TheVariants as finish
use Rattle.jasminc_runs.specs.declared.telling.Ran.TheVariants as ran
use Rattle.jasminc_runs.specs.Starting.{IsLoaded}
use Rattle.jasminc_selfrun.specs.declared.summing.Origin.{Origin}
use Rattle.jasminc_selfrun.specs.Summary.{summary_text}
use Rattle.jasminc_selfrun.specs.Running.{RunsTo}

module _ (o : Origin) (c : Compiled) (f : Fun) (words : List ℕ) (items : List Item) (machine : Machine) (h : IsLoaded c f words items machine) where
  there : (P : List ℕ → ℕ → Config → Type 0) → P (code_of machine) (base_of machine) (config_of machine) → P c.code code_base (exec_start (words_of items) h.memory)
  there P p =
      subst (λ (d : Config). P c.code code_base d) h.config_is (subst (λ b. P c.code b (config_of machine)) h.base_is
      (subst (λ bs. P bs (base_of machine) (config_of machine)) h.code_is p))

  -- it ended, and the summary tells it
  pub ended_run : (fuel k : ℕ) (now : Config) (events : List Event) (output : List ℕ)
      → Finishes (code_of machine) (base_of machine) (config_of machine) fuel now (finish.Ended k events)
      → output ≡ summary_text o c now.state events k → RunsTo o c f words items fuel (ran.Ended output)
  ended_run fuel k now events output fin text =
      let end = there (λ code base start. Finishes code base start fuel now (finish.Ended k events)) fin in
      record {
        memory = h.memory;
        is_start = h.is_start;
        told = record {
          steps = k;
          within = end.0;
          ends = end.1;
          text = text ∙ ap (λ es. summary_text o c now.state es k) end.2
              ∙ ap (λ (d : Config). summary_text o c d.state (steps_of c.code code_base (exec_start (words_of items) h.memory) k).events k) end.3;
        };
      }

  -- it was cut, and the line says so
  pub cut_run : (fuel : ℕ) (now : Config) (events : List Event) (output : List ℕ)
      → Finishes (code_of machine) (base_of machine) (config_of machine) fuel now (finish.Cut events)
      → output ≡ cut_line fuel → RunsTo o c f words items fuel (ran.Cut output)
  cut_run fuel now events output fin text =
      let cut = there (λ code base start. Finishes code base start fuel now (finish.Cut events)) fin in
      record {
        memory = h.memory;
        is_start = h.is_start;
        told = record { still = cut.0; text = text };
      }
