-- What allocation answers, over any liveness.
use Rattle.std.specs.Prelude.{◌≡◌, ◌↔◌, ℕ, Bool, IsTrue, List, Option, map}
use Rattle.std.specs.List.{All, AllPairs, Contains, filter, range_with_len}
use Rattle.x64_insn.specs.declared.types.Place.{Place}
use Rattle.jz_ir.specs.declared.code.Code.{Code}
use Rattle.jz_ir.specs.declared.code.Kind.{Kind}
use Rattle.jz_ir.specs.declared.code.Op.{Op}
use Rattle.jz_ir.specs.Order.{number_of}
use Rattle.jz_ir.specs.Places.{meets, refused, FirstFit, FirstHolder}
use Rattle.jz_alloc.specs.declared.evidence.Holder.{Holder}
use Rattle.jz_alloc.specs.declared.needs.Needed.{Needed}
use Rattle.jz_alloc.specs.declared.placing.NoPlace.{NoPlace}
use Rattle.jz_alloc.specs.Needs.{need_before, Wants}

-- for each place below the bound that passes one holder, in the order of places
abbrev pub HoldsEach :
    List Op → (ℕ → ℕ → Type 0) → List (Option ℕ) → ℕ → (ℕ → Bool) → ℕ → List Holder → Type 0
HoldsEach ops Live places variable passes bound holders =
    (map (λ holder. number_of holder.place) holders ≡ filter passes (range_with_len 0 bound))
    × All
    (λ holder.
    FirstHolder ops Live places variable (number_of holder.place) holder.span holder.variable)
    holders

module _ (ops : List Op) (kinds : List Kind) (in_use : List Place) (Live : ℕ → ℕ → Type 0) where
  -- the first variable that first fit leaves without a place; each of its needs once, in the order
  -- of the text; and for each place that meets them all the first operation at which it is kept
  -- from there
  pub record Explained (refusal : NoPlace) : Type 0 where
    pub places : List (Option ℕ)
    pub is_first : FirstFit ops kinds in_use Live (refused refusal.variable places)
    pub text_order : AllPairs (λ first second. IsTrue (need_before first second)) refusal.needs
    pub each_need :
        (needed : Needed) → Contains refusal.needs needed ↔ Wants refusal.variable needed ops
    pub holders :
        HoldsEach ops Live places refusal.variable (meets kinds in_use ops refusal.variable) 20
        refusal.holders

abbrev pub IsEvidence : Code → (ℕ → ℕ → Type 0) → NoPlace → Type 0
IsEvidence code Live refusal = Explained code.ops code.kinds code.in_use Live refusal
