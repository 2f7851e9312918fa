-- What an export function within the limits has, and what its expansion is.
use Rattle.std.proofs.Common.{◌≡◌, ℕ, ◌<◌, [], length, Some, None, true, subst}
use Rattle.std.specs.Prelude.{slice_get}
use Rattle.std.proofs.lemmas.Option.{slice_get_within}
use Rattle.std.proofs.lemmas.List.Elements.{All-contains}
use Rattle.jz_tree.specs.declared.program.Fun.{Fun}
use Rattle.jz_tree.specs.declared.program.Program.{Program}
use Rattle.jz_type_rows.specs.Exports.{is_exported}
use Rattle.jz_preconditions.specs.Refusals.{refused_places}
use Rattle.jz_limits.specs.declared.limit.Limit.{Limit}
use Rattle.jz_first_limit.specs.FirstLimits.{IsWithinLimits}
use Rattle.jz_first_limit.proofs.Answering.{one_answer}
use Rattle.jz_change.specs.Views.{change_of}
use Rattle.jz_expansion.specs.Inlined.{IsExport}
use Rattle.jz_expansion.specs.Expansions.{IsExpansion}
use Rattle.jz_expansion.specs.Expanding.{IsExpandedAt, PassesAt}
use Rattle.jz_expansion.specs.declared.expanded.Expanded.{Expanded}
use Rattle.jz_expansion.proofs.Followed.{same_at, contains_at}
use Rattle.jz_stated.proofs.Annotated.{asked_well}
use Rattle.jasminc_source.specs.Exports.{WithinIfExported}
use Rattle.jasminc_expansions.specs.Ready.{IsReadyAt, IsAmong}

module _ (p : Program) (place : ℕ) (h : IsReadyAt p place) where
  pub ready_below : place < length p.funs
  ready_below = slice_get_within p.funs place h.function h.there

  pub ready_export : IsExport p place
  ready_export = record { function = h.function; there = h.there; exported = h.exported }

  pub never_passes : (limit : Limit) → PassesAt p place limit → ⊥
  never_passes limit x =
      let same = same_at p place h.function x.0 h.there x.1 in
      let e : None ≡ Some limit = one_answer p x.0 None (Some limit) (subst (IsWithinLimits p) same h.within) x.2 in
      cc

  -- no precondition of it is refused
  pub none_refused : (f : Fun) → slice_get p.funs place ≡ Some f → refused_places f ≡ []
  none_refused f e =
      subst (λ (g : Fun). refused_places g ≡ []) (same_at p place h.function f h.there e)
      (asked_well p h.function h.typed (contains_at p place h.function h.there) h.exported)

-- of what stands there the expansion is that of the function
pub expansion_at : (p : Program) (place : ℕ) (f : Fun) (r : Expanded) → slice_get p.funs place ≡ Some f → IsExpandedAt p place r → IsExpansion p f r.fun (change_of r.change) r.count
expansion_at p place f r there x =
    subst (λ (g : Fun). IsExpansion p g r.fun (change_of r.change) r.count) (same_at p place x.source f x.there there) x.expansion

-- an export function among them is within the limits
pub among_ready : (p : Program) (place : ℕ) (h : IsAmong p place) (f : Fun) → slice_get p.funs place ≡ Some f → is_exported f.kind ≡ true → IsReadyAt p place
among_ready p place h f there exported = record {
  typed = h.typed;
  text = h.text;
  function = f;
  there = there;
  exported = exported;
  within = All-contains (WithinIfExported p) p.funs f h.within (contains_at p place f there) exported;
}
