-- Compiled functions of typed texts.
use Rattle.std.proofs.Common.{◌≡◌, List, subst}
use Rattle.jz_io.specs.declared.verdict.Ct.{Ct}
use Rattle.jz_io.specs.declared.verdict.Ct.TheVariants as ct
use Rattle.jz_tree.specs.declared.program.Fun.{Fun}
use Rattle.jz_tree.specs.declared.program.Param.{Param}
use Rattle.jz_tree.specs.declared.program.Program.{Program}
use Rattle.jz_meaning.specs.Statements.{Block}
use Rattle.jz_change.specs.Views.{change_of}
use Rattle.jz_function_runs.specs.FunctionRuns.{plain_body}
use Rattle.jz_from_text.specs.Expanded.{Expanded}
use Rattle.jz_one_unrolling.proofs.One.{one_unrolling}
use Rattle.jz_constant_time.proofs.Expansions.{expansions_same}
use Rattle.jz_listing.specs.declared.compiled.Compiled.{Compiled}
use Rattle.jz_labels.specs.ConstantTime as labels
use Rattle.jz_verdict.specs.Told.{IsConstantTime}
use Rattle.jz_from_text.specs.Laws.{IsCompiledFrom}
use Rattle.jz_from_text.proofs.Compiled.{is_made}
use Rattle.jz_verdict.specs.Said.{IsSaid, IsSaidOf}
use Rattle.jz_constant_time.specs.SafeExpansions.{IsExpandedExport}
use Rattle.jz_constant_time.specs.Shown.{ShowsNothingSecret}
use Rattle.jz_constant_time.proofs.Whole.{made_shows_nothing_secret}
use Rattle.jz_no_secrets.specs.NoSecrets.{CompiledShowsNothingSecret, SaidShowsNothingSecret}

module _ (p : Program) (f : Fun) (e : Expanded) (c : Compiled) (h : IsCompiledFrom p f e c) where
  is_export : IsExpandedExport p f e.fun (change_of e.change) e.count
  is_export = record { typed = h.typed; text = h.text; there = h.there; exported = h.exported; expansion = h.expansion }

  shown : IsConstantTime e.fun → ShowsNothingSecret f c
  shown constant words others memory other rsp0 base place s t a b same k =
      made_shows_nothing_secret p f (change_of e.change) e.count c (is_made p f e c h) is_export constant words others memory other rsp0 base place s t a b same k

  -- what is said of another expansion of the function is so of this one
  told_too : (said : Ct) → said ≡ ct.Yes → IsSaid p f said → IsConstantTime e.fun
  told_too said listed x =
      let of : IsConstantTime x.expanded = subst (IsSaidOf x.expanded) listed x.said_of in
      let one = expansions_same one_unrolling p f x.expanded e.fun x.change (change_of e.change) x.count e.count x.expansion h.expansion in
      subst (λ (ps : List Param). labels.IsConstantTime ps (plain_body e.fun)) one.same.params
      (subst (λ (b : Block). labels.IsConstantTime x.expanded.params b) one.same.body of)

pub compiled_shows_nothing_secret : CompiledShowsNothingSecret
compiled_shows_nothing_secret p f e c h constant words others memory other rsp0 base place s t a b same k =
    shown p f e c h constant words others memory other rsp0 base place s t a b same k

pub said_shows_nothing_secret : SaidShowsNothingSecret
said_shows_nothing_secret p f e c h said listed words others memory other rsp0 base place s t a b same k =
    shown p f e c h (told_too p f e c h c.ct listed said) words others memory other rsp0 base place s t a b same k
