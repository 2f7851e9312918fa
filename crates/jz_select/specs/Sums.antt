-- The sums of addresses and indexes.
use Rattle.std.specs.Prelude.{ℕ, ◌+◌, Bool, true, false, ◌&&◌, nat_le, nat_lt, if◌then◌else◌}
use Rattle.jz_select.specs.declared.class.Sum.{Sum}

-- three stands for more
abbrev pub capped_count : ℕ → ℕ → ℕ
capped_count a b = if nat_lt (a + b) 3 then a + b else 3

-- the terms of both
abbrev pub joined_sum : Sum → Sum → Sum
joined_sum a b = record {
  plain = capped_count a.plain b.plain;
  scaled = capped_count a.scaled b.scaled;
  good = a.good && b.good;
}

abbrev pub sum_of : ℕ → ℕ → Bool → Sum
sum_of p s g = record { plain = p; scaled = s; good = g }

-- one term that is added: inline, a register, a register times a scale, or none of these
abbrev pub term : Bool → Bool → Bool → Sum
term inline reg scaled =
    if inline then sum_of 0 0 true
    else if reg then sum_of 1 0 true
    else if scaled then sum_of 0 1 true
    else sum_of 0 0 false

-- one term that is taken away
abbrev pub taken_sum : Bool → Sum
taken_sum inline = sum_of 0 0 inline

-- at most one base and one index, which may be a register alone; where two registers stand alone,
-- one is the index
abbrev pub is_sum : Sum → Bool
is_sum s = s.good && (nat_le s.scaled 1 && nat_le (s.plain + s.scaled) 2)

-- the same with a base
abbrev pub is_address : Sum → Bool
is_address s = is_sum s && nat_le 1 s.plain

-- an index of a stack array: inline, or one register with inline terms
abbrev pub is_index : Sum → Bool
is_index s = s.good && (nat_le s.plain 1 && nat_le s.scaled 0)
