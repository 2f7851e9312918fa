-- The answer as the code gives it.
use Rattle.std.specs.Prelude.{List, Option, Some, None}
use Rattle.jz_tree.specs.declared.stmt.Stmt.{Stmt}
use Rattle.jz_runs.specs.Trees.{done}
use Rattle.jz_meaning.specs.Runs.{block}
use Rattle.jz_meaning.specs.Statements.{Block}
use Rattle.jz_labels.specs.Required.{Breach}
use Rattle.jz_required.specs.declared.part.Required.{Required}
use Rattle.jz_required.specs.Readings.{secret_of}
use Rattle.jz_required.specs.Kept.{origin_of, reason_of}

-- statements in which no call is left
abbrev pub plain_block : List Stmt → Block
plain_block ss = block (λ n. None) ss done

abbrev pub breach_of : Required → Breach
breach_of r = record {
  span = r.span;
  why = reason_of r.why;
  secret = secret_of (origin_of r.part);
}

abbrev pub told : Option Required → Option Breach
told None = None
told (Some r) = Some (breach_of r)
