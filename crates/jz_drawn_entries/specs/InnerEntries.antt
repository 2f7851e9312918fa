-- The labels at entry.
use Rattle.std.specs.Prelude.{◌≡◌, ℕ, List, if◌then◌else◌}
use Rattle.jz_tree.specs.declared.program.Param.{Param}
use Rattle.jz_meaning.specs.States.{Key}
use Rattle.jz_labels.specs.ConstantTime.{secret_parameters, all_but}
use Rattle.jz_drawn_labels.specs.declared.table.Table.{Table}
use Rattle.jz_drawn_labels.specs.Kept.{nodes_of}

-- the secret ones of these parameters have the label
pub record HasSecrets (ps : List Param) (n : ℕ) (old new : Table) : Type 0 where
  pub floor : new.floor ≡ old.floor
  pub nodes :
      (k : Key)
      → nodes_of new k ≡ (if all_but (secret_parameters ps) k then nodes_of old k else n)
