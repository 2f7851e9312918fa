-- What is known of the parts of an expansion, together.
use Rattle.std.proofs.Common.{◌≡◌, ℕ}
use Rattle.jz_tree.specs.declared.program.Fun.{Fun}
use Rattle.jz_tree.specs.declared.program.Program.{Program}
use Rattle.jz_change.specs.Changes.{Change}
use Rattle.jz_function_runs.specs.FunctionRuns.{plain_body}
use Rattle.jz_expanded_classes.proofs.Expanded.{expansions_are_typed}
use Rattle.jz_expanded_heads.specs.Variables.{frame_of}
use Rattle.jz_expanded_heads.specs.PlainExpansions.{expanded_kinds, IsWithinBody}
use Rattle.jz_expanded_heads.proofs.Whole.{expansions_are_plain}
use Rattle.jz_expanded_limits.proofs.Whole.{expansions_are_within}
use Rattle.jz_expanded_classes.proofs.Whole.{expansions_are_classed}
use Rattle.jz_expanded_runs.proofs.Followed.{expansions_keep_runs}
use Rattle.jz_expanded_heads.specs.HeadLaws.{IsFineHead}
use Rattle.jz_expanded_heads.proofs.Heads.{heads_are_fine}
use Rattle.jz_fine_bodies.proofs.Whole.{bodies_are_fine}
use Rattle.jz_expanded_heads.specs.Safety.{IsFineFunction, SharesHead}
use Rattle.jz_safe_functions.proofs.Whole as functions
use Rattle.jz_safe_expansions.specs.SafeExpansions.{IsExpandedExport, ExpansionsAreFine, SafeIsNeverStuck, SourceIsNeverStuck}
use Rattle.jz_safe_expansions.proofs.Within.{within_so}

module _ (p : Program) (f g : Fun) (k : Change) (count : ℕ) (x : IsExpandedExport p f g k count) where
  head : IsFineHead (expanded_kinds p f) (frame_of p f) g × SharesHead f g
  head = heads_are_fine p f g k count x.typed x.text x.there x.exported x.expansion

  within : IsWithinBody (plain_body g)
  within = within_so (plain_body g) (expansions_are_within p f g k count x.typed x.text x.there x.exported x.expansion)

  fine : IsFineFunction (plain_body g) g
  fine = record {
    kinds = expanded_kinds p f;
    in_frame = frame_of p f;
    no_numbers = head.0.no_numbers;
    params = head.0.params;
    differ = head.0.differ;
    body =
        bodies_are_fine (expanded_kinds p f) (frame_of p f) (plain_body g)
        (expansions_are_plain p f g k count x.typed x.text x.there x.expansion within)
        (expansions_are_typed p f g k count x.typed x.text x.there x.expansion)
        (expansions_are_classed p f g k count x.typed x.text x.there x.expansion) within;
    results = head.0.results;
  }

pub expansions_are_fine : ExpansionsAreFine
expansions_are_fine p f g k count x = fine p f g k count x

pub safe_never : SafeIsNeverStuck
safe_never p f g k count c x none lines = functions.safe_never p f g c x.there (head p f g k count x).1 (fine p f g k count x) none lines

pub source_never : SourceIsNeverStuck
source_never p f g k count words values memory n w x none meets are run =
    functions.source_never p f g k words values memory n w x.there (head p f g k count x).1
    (expansions_keep_runs p f g k count x.typed x.text x.there x.exported x.expansion) (fine p f g k count x) none meets are run
