-- The needs of a variable, in the order of the text.
use Rattle.std.specs.Prelude.{◌≡◌, ℕ, Bool, List, nat_eq, nat_lt, if◌then◌else◌}
use Rattle.std.specs.List.{Any}
use Rattle.jz_ir.specs.declared.code.Op.{Op}
use Rattle.jz_ir.specs.declared.code.Need.{Need}
use Rattle.jz_ir.specs.Order.{number_of}
use Rattle.jz_alloc.specs.declared.needs.Needed.{Needed}

-- by column and place
abbrev pub in_line_before : Needed → Needed → Bool
in_line_before first second =
    if nat_eq first.span.col second.span.col
    then nat_lt (number_of first.place) (number_of second.place)
    else nat_lt first.span.col second.span.col

-- by line, column and place
abbrev pub need_before : Needed → Needed → Bool
need_before first second =
    if nat_eq first.span.line second.span.line
    then in_line_before first second
    else nat_lt first.span.line second.span.line

-- the place of a need, and where the text says so
abbrev pub needed_by : Need → Needed
needed_by need = record { place = need.place; span = need.span }

-- some operation has this need of the variable
abbrev pub Wants : ℕ → Needed → List Op → Type 0
Wants variable needed ops =
    Any
    (λ op. Any (λ need. (need.variable ≡ variable) × (needed_by need ≡ needed)) op.needs)
    ops
