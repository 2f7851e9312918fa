-- The variable of a line `ct` is a name.
use Rattle.std.proofs.Common.{ℕ, Some, sym, subst}
use Rattle.jz_tree.specs.declared.program.Fun.{Fun}
use Rattle.jz_tree.specs.declared.program.Program.{Program}
use Rattle.jz_io.specs.declared.verdict.Ct.{Ct}
use Rattle.jz_io.specs.declared.verdict.Ct.TheVariants as ct
use Rattle.jz_change.specs.Changes.{Change}
use Rattle.jz_function_runs.specs.FunctionRuns.{plain_body}
use Rattle.jz_flow.specs.Alarms.{no_more}
use Rattle.jz_labels.specs.Operations.{plain_of, tested_by}
use Rattle.jz_labels.specs.Labels.{Publics, Secret, named, memory, label_steps}
use Rattle.jz_labels.specs.Required.{Breach, breach_asks}
use Rattle.jz_labels.specs.ConstantTime.{at_entry}
use Rattle.jz_ct.specs.Told.{HasFirstBreach}
use Rattle.jz_copied_variables.specs.Variables.{frame_of}
use Rattle.jz_plain_expansions.specs.PlainExpansions.{expanded_kinds, IsWithinBody, IsPlainBody}
use Rattle.jz_plain_expansions.proofs.Whole.{expansions_are_plain}
use Rattle.jz_expanded_limits.proofs.Whole.{expansions_are_within}
use Rattle.jz_safe_expansions.specs.SafeExpansions.{IsExpandedExport}
use Rattle.jz_safe_expansions.proofs.Within.{within_so}
use Rattle.jz_verdict.specs.Said.{secret_text, reason_of, IsSaidOf, IsSaid}
use Rattle.jz_listing.specs.Listable.{IsVariable, IsListableCt}
use Rattle.jz_parse_laws.specs.Names.{AreNamed}
use Rattle.jz_listable.specs.Sizes.{HasSmallPlace}
use Rattle.jz_listable.proofs.Words.{identifier_named}
use Rattle.jz_listable.proofs.Variables.{text_bytes, memory_bytes}
use Rattle.jz_listable.proofs.Terms.{IsNamed, IfBreach, operation_named, test_named}
use Rattle.jz_listable.proofs.Firsts.{HasParts, first_so}
use Rattle.jz_listable.proofs.Operations.{OperationOver, TestOver, body_over}
use Rattle.jz_listable.proofs.Called.{variable_named_so}

-- ---- the secret of a first breach
module _ (p : Program) (f g : Fun) (k : Change) (count : ℕ) (names : AreNamed p) (x : IsExpandedExport p f g k count) where
  within : IsWithinBody (plain_body g)
  within = within_so (plain_body g) (expansions_are_within p f g k count x.typed x.text x.there x.exported x.expansion)

  plain : IsPlainBody (expanded_kinds p f) (frame_of p f) (plain_body g)
  plain = expansions_are_plain p f g k count x.typed x.text x.there x.expansion within

  parts : HasParts OperationOver TestOver (plain_body g)
  parts = body_over (expanded_kinds p f) (frame_of p f) (variable_named_so p names f x.there) (plain_body g) plain

  pub first_named : (b : Breach) → HasFirstBreach g (Some b) → IsNamed b.secret
  first_named b h =
      let arrays : Publics = h.0 in
      first_so (label_steps plain_of tested_by arrays) (breach_asks plain_of tested_by arrays) IfBreach tt OperationOver TestOver
      (λ o s over. operation_named arrays (plain_of o) s over) (λ c s over. test_named arrays (tested_by c) s over)
      (plain_body g) parts (at_entry g.params) (Some b) no_more h.2 (λ s e. subst IfBreach (sym e) tt)

-- ---- what is said
secret_bytes : (x : Secret) → IsNamed x → IsVariable (secret_text x)
secret_bytes (named name cell) h = text_bytes name cell (identifier_named name h)
secret_bytes memory h = memory_bytes

said_named : (p : Program) (f g : Fun) (k : Change) (count : ℕ) → AreNamed p → IsExpandedExport p f g k count → (said : Ct) → IsSaidOf g said → HasSmallPlace said → IsListableCt said
said_named p f g k count names x ct.Yes is small = tt
said_named p f g k count names x (ct.No at why var) is small =
    let secret : Secret = is.0 in (
      small.0,
      small.1,
      subst IsVariable (sym is.1) (secret_bytes secret (first_named p f g k count names x (record { span = at; why = reason_of why; secret = secret }) is.2)),
    )

pub said_listable : (p : Program) (f g : Fun) (k : Change) (count : ℕ) → AreNamed p → IsExpandedExport p f g k count → (said : Ct) → IsSaid p f said → HasSmallPlace said → IsListableCt said
said_listable p f g k count names x said is small =
    said_named p f is.expanded is.change is.count names
    (record { typed = x.typed; text = x.text; there = x.there; exported = x.exported; expansion = is.expansion }) said is.said_of small
