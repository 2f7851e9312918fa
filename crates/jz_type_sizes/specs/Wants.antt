-- What fits a place, by what the place wants.
use Rattle.std.specs.Prelude.{Bool, true, false, if◌then◌else◌, Option, Some, None}
use Rattle.jz_tree.specs.Size.{Size}
use Rattle.jz_tree.specs.Size.TheVariants as sizes
use Rattle.jz_type_names.specs.declared.kinds.Kind.{Kind}
use Rattle.jz_type_names.specs.declared.kinds.Kind.TheVariants as kind
use Rattle.jz_type_names.specs.Kinds.{Known, same_size, is_inline_int}
use Rattle.jz_type_sizes.specs.declared.wants.Want.{Want}
use Rattle.jz_type_sizes.specs.declared.wants.Want.TheVariants as want
use Rattle.jz_type_sizes.specs.declared.wants.Form.{Form}

-- an integer, as a number or an inline variable: it is taken modulo 2 to the size of a word
abbrev pub fits_int : Want → Bool
fits_int want.Truth = false
fits_int want.AnyWord = false
fits_int _ = true

abbrev pub fits_truth : Want → Bool
fits_truth want.Truth = true
fits_truth _ = false

abbrev pub fits_word : Size → Want → Bool
fits_word z (want.Word y) = same_size z y
fits_word z want.AnyWord = true
fits_word z (want.Sized y) = same_size z y
fits_word z _ = false

-- an access without a size has that of its place, where a word is wanted and nothing more
abbrev pub fits_access : Option Size → Want → Bool
fits_access (Some z) w = fits_word z w
fits_access None (want.Word y) = true
fits_access None w = false

-- an array as a whole is no value
abbrev pub fits_kind : Kind → Want → Bool
fits_kind kind.Int w = fits_int w
fits_kind kind.Truth w = fits_truth w
fits_kind (kind.Word z) w = fits_word z w
fits_kind (kind.Array z) w = false

-- an unknown name counts as an inline integer: that it is unknown is told by another rule
abbrev pub fits_known : Known → Want → Bool
fits_known None w = fits_int w
fits_known (Some d) w = fits_kind d.kind w

-- a cell, by the size of the array's cells; what is no array has none
abbrev pub fits_cell : Option Size → Want → Bool
fits_cell None w = false
fits_cell (Some z) w = fits_word z w

-- ---- what variables say
abbrev pub word_size : Kind → Option Size
word_size (kind.Word z) = Some z
word_size _ = None

abbrev pub known_size : Known → Option Size
known_size None = None
known_size (Some d) = word_size d.kind

abbrev pub array_size : Kind → Option Size
array_size (kind.Array z) = Some z
array_size _ = None

abbrev pub cell_size : Known → Option Size
cell_size None = None
cell_size (Some d) = array_size d.kind

abbrev pub is_truth : Kind → Bool
is_truth kind.Truth = true
is_truth _ = false

abbrev pub known_truth : Known → Bool
known_truth None = false
known_truth (Some d) = is_truth d.kind

-- what the operand of a cast wants: a word that says its size itself, and nothing in it that leaves
-- its size to the place
abbrev pub cast_want : Option Size → Want
cast_want None = want.AnyWord
cast_want (Some z) = want.Sized z

-- an index or an address: a number, or a word of 64 bits that says so itself
abbrev pub index_want : Want
index_want = want.Sized sizes.S64

-- what operands want where their size is this; without one they are integers, or of an operation
-- that only words have words
abbrev pub sized_want : Bool → Option Size → Want
sized_want words (Some z) = want.Word z
sized_want words None = if words then want.AnyWord else want.Int

-- what a place wants that leaves the size to the value: a word of that size, or what has none
abbrev pub own_size : Option Size → Want
own_size (Some z) = want.Word z
own_size None = want.Unsized

-- ---- what an expression is by itself
abbrev pub no_form : Form
no_form = record { size = None; truth = false; inline = false }

abbrev pub form_of_size : Option Size → Form
form_of_size z = record { size = z; truth = false; inline = false }

-- of a number, and of a bool that is written
abbrev pub number_form : Form
number_form = record { size = None; truth = false; inline = true }

abbrev pub bool_form : Form
bool_form = record { size = None; truth = true; inline = true }

abbrev pub var_form : Known → Form
var_form k = record { size = known_size k; truth = known_truth k; inline = is_inline_int k }

-- what the type of an expression itself asks of its parts
abbrev pub own_want : Form → Want
own_want f = if f.truth then want.Truth else own_size f.size
