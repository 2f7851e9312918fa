-- A refusal by the names of variables: the number of a variable is its place among those that the
-- declarations of the function stand for.
use Rattle.std.specs.Prelude.{ℕ, List, [], map, option_map, None, slice_index_or}
use Rattle.jz_meaning.specs.States.{Key}
use Rattle.jz_declared.specs.Declared.{Held}
use Rattle.jz_alloc.specs.declared.evidence.Holder as numbered_holder
use Rattle.jz_alloc.specs.declared.placing.NoPlace as numbered
use Rattle.jz_unplaced.specs.declared.unplaced.Named.{Named}
use Rattle.jz_unplaced.specs.declared.unplaced.Holder.{Holder}
use Rattle.jz_unplaced.specs.declared.unplaced.Unplaced.{Unplaced}

-- which call it belongs to is not told
abbrev pub named_by : Key → Named
named_by k = record { name = k.name; cell = k.cell }

abbrev pub nameless : Named
nameless = record { name = []; cell = None }

-- the name of the variable of this number
abbrev pub name_at : List Held → ℕ → Named
name_at hs n = slice_index_or (map (λ h. named_by h.key) hs) n nameless

abbrev pub holder_of : List Held → numbered_holder.Holder → Holder
holder_of hs h = record {
  place = h.place;
  variable = option_map (name_at hs) h.variable;
  span = h.span;
}

abbrev pub refusal_of : List Held → numbered.NoPlace → Unplaced
refusal_of hs n = record {
  variable = name_at hs n.variable;
  needs = n.needs;
  holders = map (holder_of hs) n.holders;
}
