-- The indices that the code reads.
use Rattle.std.specs.Prelude.{Option, Some, None}
use Rattle.jz_select.specs.declared.comparing.Index.{Index}
use Rattle.jz_select.specs.Trees.{Tree, index_of}

abbrev pub index_if : Option Index → Option Tree
index_if None = None
index_if (Some i) = Some (index_of i.at.now)
