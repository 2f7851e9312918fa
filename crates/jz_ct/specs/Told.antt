-- What is told of a function.
use Rattle.std.specs.Prelude.{Option, Some, None}
use Rattle.jz_tree.specs.declared.program.Fun.{Fun}
use Rattle.jz_function_runs.specs.FunctionRuns.{plain_body}
use Rattle.jz_labels.specs.Labels as labels
use Rattle.jz_labels.specs.Required as required
use Rattle.jz_labels.specs.ConstantTime as constant
use Rattle.jz_required.specs.Kept.{reason_of}
use Rattle.jz_ct.specs.declared.breach.Breach.{Breach}
use Rattle.jz_ct.specs.declared.breach.Secret.{Secret}
use Rattle.jz_ct.specs.declared.breach.Secret.TheVariants as secret
use Rattle.jz_ct.specs.declared.judging.Ct.{Ct}
use Rattle.jz_ct.specs.declared.judging.Ct.TheVariants as ct

abbrev pub secret_of : Secret → labels.Secret
secret_of (secret.Variable name cell) = labels.named name cell
secret_of secret.Memory = labels.memory

abbrev pub breach_of : Breach → required.Breach
breach_of b = record { span = b.span; why = reason_of b.why; secret = secret_of b.secret }

abbrev pub told_by : Ct → Option required.Breach
told_by ct.Yes = None
told_by (ct.No b) = Some (breach_of b)

-- ---- an expanded function, in which no call is left

abbrev pub IsConstantTime : Fun → Type 0
IsConstantTime f = constant.IsConstantTime f.params (plain_body f)

abbrev pub HasFirstBreach : Fun → Option required.Breach → Type 0
HasFirstBreach f w = constant.IsFirstBreach f.params (plain_body f) w
