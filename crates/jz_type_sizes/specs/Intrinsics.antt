-- Statements that name an instruction.
use Rattle.std.specs.Prelude.{Bool, true, false, ◌&&◌, nat_eq, is_some, if◌then◌else◌, List, [], ◌∷◌, ◌++◌, length, flat_map, Option, Some, None}
use Rattle.std.specs.Option.{option_or}
use Rattle.jz_tree.specs.Span.{Span}
use Rattle.jz_tree.specs.Size.{Size}
use Rattle.jz_tree.specs.Size.TheVariants as sizes
use Rattle.jz_tree.specs.declared.expr.Expr.{Expr}
use Rattle.jz_tree.specs.declared.stmt.Lval.{Lval}
use Rattle.jz_type_names.specs.Order.{unless}
use Rattle.jz_type_names.specs.Kinds.{array_of}
use Rattle.jz_type_sizes.specs.declared.signatures.Role.{Role}
use Rattle.jz_type_sizes.specs.declared.signatures.Role.TheVariants as role
use Rattle.jz_type_sizes.specs.declared.wants.Want.{Want}
use Rattle.jz_type_sizes.specs.declared.wants.Want.TheVariants as want
use Rattle.jz_type_sizes.specs.Wants.{own_size, index_want}
use Rattle.jz_type_sizes.specs.Typings.{typing}
use Rattle.jz_type_sizes.specs.Worded.{is_worded}
use Rattle.jz_type_sizes.specs.Firsts.{wrong_beside}
use Rattle.jz_type_sizes.specs.Sides.{left_form, within, any_size, takes}
use Rattle.jz_type_sizes.specs.Signatures.{Signature}

-- z is the intrinsic's size
abbrev pub role_want : Option Size → Role → Want
role_want z role.Flag = want.Truth
role_want z role.Value = own_size z
role_want z role.Count = want.Word sizes.S8
role_want z role.Condition = want.Truth
role_want z role.Address = index_want
role_want z role.Byte = want.Word sizes.S8

abbrev pub value_size : Role → Option Size → Option Size
value_size role.Value z = z
value_size _ z = None

-- the size of the first left side that is a value
abbrev pub result_size : List Role → List Lval → Option Size
result_size rs [] = None
result_size [] (d ∷ ds) = None
result_size (r ∷ rs) (d ∷ ds) = option_or (value_size r (left_form d).size) (result_size rs ds)

abbrev pub is_value : Role → Bool
is_value role.Value = true
is_value _ = false

-- the size of the first argument that is a word, if that has one
abbrev pub argument_size : List Role → List Expr → Option Size
argument_size rs [] = None
argument_size [] (e ∷ es) = None
argument_size (r ∷ rs) (e ∷ es) =
    if is_value r && is_worded e then (typing e).form.size else argument_size rs es

-- the size of an intrinsic: that of its name, else of its value, else of the first argument that is
-- a word
abbrev pub size_of_intrinsic : Signature → List Lval → List Expr → Option Size
size_of_intrinsic g to args =
    option_or g.size (option_or (result_size g.results to) (argument_size g.arguments args))

-- of an array another rule speaks
abbrev pub argument_wrong : Option Size → Role → Expr → List Span
argument_wrong z r e = if is_some (array_of e) then [] else (typing e).wrong (role_want z r)

abbrev pub role_size : Option Size → Role → Option Size
role_size z role.Value = z
role_size z _ = any_size

-- a result of another type is told at the name of the intrinsic
abbrev pub result_wrong : Option Size → Span → Role → Lval → List Span
result_wrong z at r d = within (role_size z r) d ++ unless (takes (role_want z r) d) at

abbrev pub none_more : Expr → List Span
none_more e = []

abbrev pub are_counted : Signature → List Lval → List Expr → Bool
are_counted g to args =
    nat_eq (length args) (length g.arguments) && nat_eq (length to) (length g.results)

abbrev pub instance_wrong : Option Size → Signature → List Lval → List Expr → Span → List Span
instance_wrong z g to args at =
    wrong_beside (result_wrong z at) (within any_size) g.results to
    ++ unless (are_counted g to args) at
    ++ wrong_beside (argument_wrong z) none_more g.arguments args

-- with the size that it has
abbrev pub signature_wrong : Signature → List Lval → List Expr → Span → List Span
signature_wrong g to args at = instance_wrong (size_of_intrinsic g to args) g to args at

-- an unknown intrinsic is told by another rule; its arguments are asked nothing
abbrev pub intrinsic_wrong : Option Signature → List Lval → List Expr → Span → List Span
intrinsic_wrong None to args at = flat_map (within any_size) to
intrinsic_wrong (Some g) to args at = signature_wrong g to args at
