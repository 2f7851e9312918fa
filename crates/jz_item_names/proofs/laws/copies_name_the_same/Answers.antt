use Rattle.jz_runs.specs.Trees.{done}
use Rattle.jz_case_names.specs.Items.{no_item}
use Rattle.jz_item_names.proofs.Inlined.{inlined_named}
use Rattle.jz_item_names.proofs.laws.copies_name_the_same.Goals as goal

pub returns : goal.returns
returns c = λ b named k. inlined_named b named k done no_item
