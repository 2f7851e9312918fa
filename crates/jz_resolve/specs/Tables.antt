-- What a table of constants holds.
use Rattle.std.specs.Prelude.{◌≡◌, List}
use Rattle.jz_tree.specs.declared.program.Const.{Const}
use Rattle.jz_type_names.specs.Scopes.{PlacesByName, constant_place}
use Rattle.jz_type_names.specs.Tables.{item_in, place_in}
use Rattle.jz_resolve.specs.declared.table.ConstantTable.{ConstantTable}
use Rattle.jz_resolve.specs.Numbering.{Values, values_of}

abbrev pub values_in : ConstantTable → Values
values_in t = item_in t.values

abbrev pub places_in : ConstantTable → PlacesByName
places_in t = place_in t.places

-- it has the values of these constants, and the place of the first of each name
pub record IsTable (t : ConstantTable) (cs : List Const) : Type 0 where
  pub values : values_in t ≡ values_of cs
  pub places : places_in t ≡ constant_place cs
