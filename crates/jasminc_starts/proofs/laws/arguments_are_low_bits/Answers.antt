use Rattle.jasminc_starts.proofs.Arguments.{low_bits_of}
use Rattle.jasminc_starts.proofs.laws.arguments_are_low_bits.Goals as goal

pub returns : goal.returns
returns c = low_bits_of
