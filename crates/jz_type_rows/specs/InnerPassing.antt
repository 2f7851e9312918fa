-- Arrays that are passed, as the code keeps them.
use Rattle.jz_type_rows.specs.declared.copies.Argument.{Argument}
use Rattle.jz_type_rows.specs.Copies.{Passed}

abbrev pub passed_of : Argument → Passed
passed_of p = (p.number, p.array.now)
