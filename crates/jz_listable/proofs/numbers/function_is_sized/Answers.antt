use Rattle.std.proofs.Common.{◌<◌, ℕ, List, subst}
use Rattle.std.specs.Prelude.{All}
use Rattle.jz_listable.proofs.numbers.function_is_sized.Goals as goal

pub returns : goal.returns
returns c = record {
  frame = c.number_is_sized.ensures;
  insns = c.number_is_sized-2.ensures;
  code = subst (λ (bs : List ℕ). All (λ b. b < 256) bs) c.as_slice.ensures c.bytes_are_sized.ensures;
  tr = c.transformer_is_sized.ensures;
  place = c.place_is_sized.ensures;
}
