-- The first export function that passes a limit, as far as a loop has come.
use Rattle.std.proofs.Common.{◌≡◌, ℕ, suc, ◌+◌, ◌<◌, ◌≤◌, List, [], ◌∷◌, ◌++◌, length, get_or, take, drop, refl, sym, ap, ◌∙◌, subst, arith, inl, inr}
use Rattle.std.specs.Prelude.{All}
use Rattle.std.proofs.Math.Seq.{split_at}
use Rattle.std.proofs.lemmas.List.Elements.{All-push, All-contains, Contains-append_right, Contains-append_left}
use Rattle.std.proofs.lemmas.List.{take_more, take_all}
use Rattle.jz_tree.specs.declared.program.Fun.{Fun}
use Rattle.jz_tree.specs.declared.program.Program.{Program}
use Rattle.jz_limits.specs.declared.limit.Limit.{Limit}
use Rattle.jz_first_limit.specs.FirstLimits.{IsWithinLimits, PassesFirst}
use Rattle.jz_limits.proofs.First.{none_within}
use Rattle.jz_limits.specs.Walks.{steps_of}
use Rattle.jasminc_source.specs.declared.limits.FunLimit.{FunLimit}
use Rattle.jasminc_source.specs.Exports.{WithinIfExported, PassesIfExported, HasLimit}

module _ (p : Program) (i : ℕ) (f : Fun) (lt : i < length p.funs) (ix : f ≡ get_or p.funs i f) (before : All (WithinIfExported p) (take i p.funs)) where
  -- one more within
  pub one_more : WithinIfExported p f → All (WithinIfExported p) (take (i + 1) p.funs)
  one_more here =
      subst (All (WithinIfExported p)) (sym (take_more p.funs i f lt ∙ ap (λ g. take i p.funs ++ g ∷ []) (sym ix)))
      (All-push (WithinIfExported p) (take i p.funs) f before here)

  -- or the first that is not
  pub limit_here : (name : List ℕ) (limit : Limit) → name ≡ f.name → PassesIfExported p f limit → HasLimit p (record { fun = name; limit = limit })
  limit_here name limit is passes = record {
    front = take i p.funs;
    function = f;
    rest = drop (suc i) p.funs;
    split = split_at p.funs i f lt ∙ ap (λ g. take i p.funs ++ g ∷ drop (suc i) p.funs) (sym ix);
    earlier = before;
    named = is;
    passes = passes;
  }

-- all have been seen
pub all_within : (p : Program) (i : ℕ) → length p.funs ≤ i → All (WithinIfExported p) (take i p.funs) → All (WithinIfExported p) p.funs
all_within p i le h = subst (All (WithinIfExported p)) (take_all i p.funs le) h

within_passes_none : (p : Program) (f : Fun) (l : Limit) → IsWithinLimits p f → PassesFirst p f l → ⊥
within_passes_none p f l w (inl x) = let most = w.0 in let more = x.0 in absurd (omega (arith, most, more))
within_passes_none p f l w (inr x) = none_within (steps_of p f) l w.1 x.1

-- where each is within, none passes a limit
pub none_passes : (p : Program) (l : FunLimit) → All (WithinIfExported p) p.funs → HasLimit p l → ⊥
none_passes p l within h =
    let all : All (WithinIfExported p) (h.front ++ h.function ∷ h.rest) = subst (All (WithinIfExported p)) h.split within in
    within_passes_none p h.function l.limit
    (All-contains (WithinIfExported p) (h.front ++ h.function ∷ h.rest) h.function all
    (Contains-append_right h.front (h.function ∷ h.rest) h.function (Contains-append_left (h.function ∷ []) h.rest h.function (0, omega arith, refl))) h.passes.0)
    h.passes.1
