-- What one safe export function comes to.
use Rattle.std.proofs.Common.{◌≡◌, ℕ, List, Some, ap, ◌∙◌, sym, subst}
use Rattle.std.specs.Prelude.{slice_get}
use Rattle.jz_io.specs.declared.verdict.Ct.{Ct}
use Rattle.jz_io.specs.declared.verdict.Ct.TheVariants as ct
use Rattle.jz_tree.specs.declared.program.Fun.{Fun}
use Rattle.jz_tree.specs.declared.program.Program.{Program}
use Rattle.jz_alloc.specs.declared.placing.NoPlace as numbered
use Rattle.jz_change.specs.Views.{change_of}
use Rattle.jz_verdict.specs.Expanded.{Expanded}
use Rattle.jz_verdict.proofs.Followed.{same_at}
use Rattle.jz_code.specs.declared.code.NoCode.TheVariants as no
use Rattle.jz_listing.specs.declared.compiled.Compiled.{Compiled}
use Rattle.jz_whole_pipeline.specs.NotCompiled.{NotCompiled}
use Rattle.jz_whole_pipeline.specs.NotCompiled.TheVariants as uncompiled
use Rattle.jz_declared.specs.Declared.{Held}
use Rattle.jz_unplaced.specs.declared.unplaced.Unplaced.{Unplaced}
use Rattle.jz_unplaced.specs.Names.{refusal_of}
use Rattle.jz_whole_pipeline.specs.Made.{IsMadeOf}
use Rattle.jz_whole_pipeline.specs.Texts.{IsExpandedFrom}
use Rattle.jz_whole_pipeline.specs.Safe.{Safe}
use Rattle.jz_verdict.specs.Said.{IsSaid, IsSaidOf}
use Rattle.jz_no_secrets.specs.Shown.{ShowsNothingSecret}
use Rattle.jz_no_secrets.proofs.Whole.{said_shows_nothing_secret}
use Rattle.jz_whole_pipeline.proofs.Compiled.{compiled_from}
use Rattle.jz_whole_pipeline.specs.Correctness.{IsRefusedFor}
use Rattle.jasminc_check.proofs.ExpansionsReadying.{expansion_at}
use Rattle.jasminc_compile.specs.declared.outcome.Outcome.TheVariants.{Made, Not}
use Rattle.jasminc_compile.specs.declared.outcome.Unmade.{Unmade}
use Rattle.jasminc_compile.specs.declared.outcome.Unmade.TheVariants as unmade
use Rattle.jasminc_compile.specs.declared.safety.SafeFun.{SafeFun}
use Rattle.jasminc_compile.specs.SafeFunctions.{IsSafeFun}
use Rattle.jasminc_compile.specs.InnerMaking.{IsCompiledFrom, IsRefusedAt, IsNamedAt, IsNameAt, IsUnmadeAt, IsOutcomeAt}
use Rattle.jasminc_compile.proofs.Heads.{held_same}

-- what a listing says of an expansion is said of what is compiled
pub said_there : (e x : Expanded) (t u : Ct) → x ≡ e → u ≡ t → IsSaidOf x.fun t → IsSaidOf e.fun u
said_there e x t u same is h = subst (λ (z : Ct). IsSaidOf e.fun z) (sym is) (subst (λ (z : Expanded). IsSaidOf z.fun t) same h)

-- ---- a function
shows_nothing : (p : Program) (f : Fun) (s : Safe) (c : Compiled) → IsMadeOf s.expanded.fun (change_of s.expanded.change) c → IsExpandedFrom p f s.expanded → IsSaid p f c.ct → c.ct ≡ ct.Yes → ShowsNothingSecret f c
shows_nothing p f s c made from said listed = λ words others memory other rsp0 base place x y a b same k.
    said_shows_nothing_secret p f s.expanded c (compiled_from s c made p f from) said listed words others memory other rsp0 base place x y a b same k

told : (p : Program) (f : Fun) (s : SafeFun) (c : Compiled) → IsSafeFun p f s → IsCompiledFrom s.safe.expanded c → IsSaid p f c.ct
told p f s c h m = record {
  expanded = s.safe.expanded.fun;
  change = change_of s.safe.expanded.change;
  count = s.safe.expanded.count;
  expansion = h.from.expansion;
  said_of = m.said;
}

pub outcome_made : (p : Program) (f : Fun) (s : SafeFun) (c : Compiled) → IsSafeFun p f s → IsCompiledFrom s.safe.expanded c → IsOutcomeAt p s.place (Made c)
outcome_made p f s c h m = (
  f,
  h.there,
  record {
    expanded = s.safe.expanded.fun;
    change = change_of s.safe.expanded.change;
    count = s.safe.expanded.count;
    from = h.from;
    none = h.none;
    bytes = m.made;
    placed = m.placed;
    small = m.small;
    correct = record { compilation = m.correct p f h.from; ct = told p f s c h m };
    secrets = shows_nothing p f s.safe c m.made h.from (told p f s c h m);
  },
)

-- ---- or why there is none
pub refused_there : (p : Program) (f : Fun) (s : SafeFun) (why : NotCompiled) → IsSafeFun p f s → IsRefusedFor s.safe.expanded.fun why → IsRefusedAt p s.place why
refused_there p f s why h r = record {
  expanded = s.safe.expanded;
  at = record { source = f; there = h.there; expansion = h.from.expansion };
  refused = r;
}

pub outcome_not : (p : Program) (place : ℕ) (u : Unmade) → IsUnmadeAt p place u → IsOutcomeAt p place (Not u)
outcome_not p place u h = (h.function, h.there, h.unmade)

module _ (p : Program) (place : ℕ) where
  pub too_large : (name : List ℕ) → IsNameAt p place name → IsRefusedAt p place (uncompiled.Code no.Frame) → IsUnmadeAt p place (unmade.Frame name)
  too_large name (f, there, is) r = record {
    function = r.at.source;
    there = r.at.there;
    unmade = (
      is ∙ ap (λ (g : Fun). g.name) (same_at p place f r.at.source there r.at.there),
      record {
        expanded = r.expanded.fun;
        change = change_of r.expanded.change;
        count = r.expanded.count;
        expansion = r.at.expansion;
        over = r.refused;
      },
    );
  }

  pub no_place : (n : numbered.NoPlace) (u : Unplaced) → IsNamedAt p place n u → IsRefusedAt p place (uncompiled.Code (no.Place n)) → IsUnmadeAt p place (unmade.NoPlace u)
  no_place n u k r =
      let own = expansion_at p place r.at.source k.expanded r.at.there k.at in
      record {
        function = r.at.source;
        there = r.at.there;
        unmade = record {
          expanded = r.expanded.fun;
          change = change_of r.expanded.change;
          count = r.expanded.count;
          expansion = r.at.expansion;
          refusal = n;
          codeless = r.refused;
          named = k.named
              ∙ ap (λ (hs : List Held). refusal_of hs n)
              (held_same p r.at.source k.expanded.fun r.expanded.fun (change_of k.expanded.change) (change_of r.expanded.change) k.expanded.count r.expanded.count own r.at.expansion);
        };
      }
