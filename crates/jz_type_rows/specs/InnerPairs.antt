-- Two lists in step.
use Rattle.jz_type_rows.specs.declared.pairs.Pair.{Pair}

abbrev pub pair_of : {A B : Type 0} → Pair A B → A × B
pair_of p = (p.left.now, p.right.now)
