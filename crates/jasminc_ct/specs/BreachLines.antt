-- The line of a breach, without its line feed.
use Rattle.std.specs.Prelude.{ℕ, List, ◌++◌, codes}
use Rattle.jz_text.specs.Texts.{span_text}
use Rattle.jz_required.specs.declared.part.Reason.{Reason}
use Rattle.jz_required.specs.declared.part.Reason.TheVariants as reason
use Rattle.jz_ct.specs.declared.breach.Secret.{Secret}
use Rattle.jz_ct.specs.declared.breach.Secret.TheVariants as secret
use Rattle.jz_variable_text.specs.Variables.{variable_text}
use Rattle.jasminc_ct.specs.declared.breaches.FunBreach.{FunBreach}

unfoldable pub kind_name : Reason → List ℕ
kind_name reason.Branch = codes "Branch"
kind_name reason.Address = codes "Address"
kind_name reason.Divide = codes "Divide"

abbrev pub secret_text : Secret → List ℕ
secret_text (secret.Variable name cell) = variable_text name cell
secret_text secret.Memory = codes "mem"

abbrev pub breach_line : FunBreach → List ℕ
breach_line x =
    codes "ct " ++ x.fun ++ codes " no " ++ span_text x.breach.span ++ codes " "
    ++ kind_name x.breach.why ++ codes " " ++ secret_text x.breach.secret
