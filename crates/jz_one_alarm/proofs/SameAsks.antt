-- Conditions, by the set of the constants.
use Rattle.std.proofs.Common.{◌≡◌, ℕ, zero, suc, List, [], ◌∷◌, Option, Some, None, Bool, refl, ap, ap₂, ◌∙◌, ℤ, pos, ◌+ℤ◌}
use Rattle.std.specs.Prelude.{◌+◌, ◌*◌, nat_le, nat_lt, int_le, ◌&&◌, ◌||◌}
use Rattle.std.specs.Option.{option_or}
use Rattle.std.proofs.Math.Path.{fun_ext}
use Rattle.jz_tree.specs.Span.{Span}
use Rattle.x64_insn.specs.Size.{Size}
use Rattle.x64_insn.specs.Size.TheVariants.{S64}
use Rattle.x64_insn.specs.Sizes.{bytes_of, half}
use Rattle.jz_tree.specs.declared.expr.BinOp.{BinOp}
use Rattle.jz_tree.specs.declared.expr.BinOp.TheVariants as o
use Rattle.jz_tree.specs.declared.expr.Expr.{Expr}
use Rattle.jz_tree.specs.declared.stmt.Lval.{Lval}
use Rattle.jz_tree.specs.declared.stmt.Lval.TheVariants as lval
use Rattle.jz_tree.specs.declared.intrinsic.Intrinsic.{Intrinsic}
use Rattle.jz_tree.specs.declared.intrinsic.Intrinsic.TheVariants as name
use Rattle.jz_tree.specs.declared.intrinsic.Instance.{Instance}
use Rattle.jz_tree.specs.Spellings.{spelled}
use Rattle.jz_meaning.specs.declared.access.Kind.{Kind}
use Rattle.jz_meaning.specs.declared.access.Kind.TheVariants as kind
use Rattle.jz_meaning.specs.declared.value.Why.TheVariants.{Bounds, Address, Align, Init, Divide}
use Rattle.jz_meaning.specs.States.{Key}
use Rattle.jz_meaning.specs.Values.{Ref, key_of, ref_of, own_size, left_wanted, right_wanted}
use Rattle.jz_meaning.specs.Assignments.{left_sizes, last_left, whole_of, as_expr, left_size}
use Rattle.jz_meaning.specs.Intrinsics.{intrinsic_size}
use Rattle.jz_meaning.specs.Statements.{Operation, assign, instruction, unset, meaningless, Condition}
use Rattle.jz_flow.specs.Alarms.{Asks}
use Rattle.jz_terms.specs.Terms.{Spot, Term, num, truth, var, cell, load, neg, inv, cast, bin, term_of, place_of, size_in}
use Rattle.jz_intervals.specs.declared.interval.Interval.{Interval}
use Rattle.jz_facts.specs.Facts.{Fact, Cell, Is, Facts, Start, Region, Given}
use Rattle.jz_facts.specs.Intervals.{size_or_64, interval}
use Rattle.jz_alarms.specs.Conditions.{named, memory, division, Alarm, or_else, unless, sum_of, Reading, readings, bounds_of, scaled_interval, least_length, below_length, is_inside, in_some_region, in_some_reading, asks_access, all_cells, cell_set, asks_index, divides, asks, asks_if, asks_each, asks_left, asks_lefts, asks_old, asks_assign, asks_division, asks_instruction, asks_operation, asks_test}
use Rattle.jz_alarms.specs.Alarms.{fact_asks}
use Rattle.jz_one_alarm.proofs.SameNumbers.{AreAlike}
use Rattle.jz_one_alarm.proofs.SameIntervals.{given, interval_same, is_multiple_same}

module _ (cs ds : List ℕ) (P : List Start) (R : List Region) (E : AreAlike cs ds) where
  abbrev G : Given
  G = given cs P R

  abbrev H : Given
  H = given ds P R

  module _ (s : Facts) where
    range_same : (z : Size) (t : Term) → interval G s z t ≡ interval H s z t
    range_same z t = interval_same cs ds P R E s z t

    -- ---- addresses

    abbrev Times : ℕ → Interval → Interval
    Times k j = record { lo = k * j.lo; hi = k * j.hi }

    scaled_same : (i : Option (Ref × ℕ)) → scaled_interval G s i ≡ scaled_interval H s i
    scaled_same None = refl
    scaled_same (Some i) = ap (Times i.1) (range_same S64 (var i.0))

    abbrev region : Key → ℕ → Option Key → ℕ → Region
    region of times by plus = record { of = of; times = times; by = by; plus = plus }

    length_by : (of : Key) (times : ℕ) (b : Option Key) (plus : ℕ) → least_length G s (region of times b plus) ≡ least_length H s (region of times b plus)
    length_by of times None plus = refl
    length_by of times (Some y) plus = refl

    length_same : (r : Region) → least_length G s r ≡ least_length H s r
    length_same r = length_by r.of r.times r.by r.plus

    below_by : (i : Option (Ref × ℕ)) (of : Key) (times : ℕ) (b : Option Key) (plus : ℕ) (d : ℤ) → below_length G s i (region of times b plus) d ≡ below_length H s i (region of times b plus) d
    below_by None of times b plus d = refl
    below_by (Some i) of times None plus d = refl
    below_by (Some i) of times (Some y) plus d = refl

    abbrev Inside : ℕ → Reading → Region → Interval → ℕ → Bool → Bool
    Inside k a r j n b =
        s (Is (key_of a.base) r.of) && (int_le (pos 0) (pos j.lo +ℤ a.more)
        && (int_le (pos (j.hi + k) +ℤ a.more) (pos n) || b))

    inside_same : (k : ℕ) (a : Reading) (r : Region) → is_inside G s k a r ≡ is_inside H s k a r
    inside_same k a r =
        ap (λ j. Inside k a r j (least_length G s r) (below_length G s a.index r (pos k +ℤ a.more))) (scaled_same a.index)
        ∙ ap₂ (λ n b. Inside k a r (scaled_interval H s a.index) n b) (length_same r) (below_by a.index r.of r.times r.by r.plus (pos k +ℤ a.more))

    regions_same : (k : ℕ) (a : Reading) (rs : List Region) → in_some_region G s k a rs ≡ in_some_region H s k a rs
    regions_same k a [] = refl
    regions_same k a (r ∷ rs) = ap₂ (λ x y. x || y) (inside_same k a r) (regions_same k a rs)

    readings_same : (k : ℕ) (more : List Reading) → in_some_reading G s k more ≡ in_some_reading H s k more
    readings_same k [] = refl
    readings_same k (a ∷ more) = ap₂ (λ x y. x || y) (regions_same k a R) (readings_same k more)

    access_same : (p : Spot) (z : Size) (a : Term) → asks_access G s p z a ≡ asks_access H s p z a
    access_same p z a =
        ap₂ (λ x y. or_else (unless x p.span Address memory) (unless (p.unaligned || y) p.span Align memory))
        (readings_same (bytes_of z) (readings (sum_of a))) (is_multiple_same cs ds P R E s a (bytes_of z))

    -- ---- arrays

    cells_same : (a : Key) (n : ℕ) → all_cells G s a n ≡ all_cells H s a n
    cells_same a zero = refl
    cells_same a (suc n) = ap (λ b. s (Cell a n) && b) (cells_same a n)

    set_same : (x : Ref) (k : Kind) (i : Term) → cell_set G s x k i ≡ cell_set H s x k i
    set_same x (kind.Array z n) (num i at) = refl
    set_same x (kind.Array z n) (truth b at) = cells_same (key_of x) n
    set_same x (kind.Array z n) (var y) = cells_same (key_of x) n
    set_same x (kind.Array z n) (cell y i) = cells_same (key_of x) n
    set_same x (kind.Array z n) (load p a) = cells_same (key_of x) n
    set_same x (kind.Array z n) (neg a at) = cells_same (key_of x) n
    set_same x (kind.Array z n) (inv a at) = cells_same (key_of x) n
    set_same x (kind.Array z n) (cast y sign a at) = cells_same (key_of x) n
    set_same x (kind.Array z n) (bin op a b at) = cells_same (key_of x) n
    set_same x kind.Bool i = refl
    set_same x kind.Int i = refl
    set_same x kind.Undeclared i = refl
    set_same x (kind.Word z) i = refl

    index_same : (x : Ref) (i : Term) → asks_index G s x i ≡ asks_index H s x i
    index_same x i = ap (λ j. unless (bounds_of x.kind j) x.span Bounds (named x.name x.cell)) (range_same S64 i)

    -- ---- divisors

    divides_same : (op : BinOp) (z : Size) (b : Term) → divides G s op z b ≡ divides H s op z b
    divides_same o.Div z b = ap (λ j. nat_le 1 j.lo) (range_same z b)
    divides_same o.Rem z b = ap (λ j. nat_le 1 j.lo) (range_same z b)
    divides_same o.DivS z b = ap (λ j. nat_le 1 j.lo && nat_lt j.hi (half z)) (range_same z b)
    divides_same o.RemS z b = ap (λ j. nat_le 1 j.lo && nat_lt j.hi (half z)) (range_same z b)
    divides_same o.OrElse z b = refl
    divides_same o.AndThen z b = refl
    divides_same o.Or z b = refl
    divides_same o.Xor z b = refl
    divides_same o.And z b = refl
    divides_same o.Eq z b = refl
    divides_same o.Ne z b = refl
    divides_same o.Lt z b = refl
    divides_same o.Le z b = refl
    divides_same o.Gt z b = refl
    divides_same o.Ge z b = refl
    divides_same o.LtS z b = refl
    divides_same o.LeS z b = refl
    divides_same o.GtS z b = refl
    divides_same o.GeS z b = refl
    divides_same o.Shl z b = refl
    divides_same o.Shr z b = refl
    divides_same o.Sar z b = refl
    divides_same o.Rol z b = refl
    divides_same o.Ror z b = refl
    divides_same o.Add z b = refl
    divides_same o.Sub z b = refl
    divides_same o.Mul z b = refl

    -- ---- terms

    then_same : {a b c d : Option Alarm} → a ≡ c → b ≡ d → or_else a b ≡ or_else c d
    then_same p q = ap₂ or_else p q

    pub asks_same : (w : Option Size) (t : Term) → asks G s w t ≡ asks H s w t
    asks_same w (num i at) = refl
    asks_same w (truth b at) = refl
    asks_same w (var x) = refl
    asks_same w (cell x i) = then_same (asks_same (Some S64) i) (then_same (index_same x i) (ap (λ b. unless b x.span Init (named x.name x.cell)) (set_same x x.kind i)))
    asks_same w (load p a) = then_same (asks_same (Some S64) a) (access_same p (size_or_64 (option_or p.size w)) a)
    asks_same w (neg a at) = asks_same (option_or w (size_in a)) a
    asks_same w (inv a at) = asks_same (option_or w (size_in a)) a
    asks_same w (cast z sign a at) = asks_same (size_in a) a
    asks_same w (bin op a b at) =
        let v = left_wanted op w (size_in a) (size_in b) in
        then_same (asks_same v a) (then_same (asks_same (right_wanted op v) b) (ap (λ c. unless c at Divide division) (divides_same op (size_or_64 v) b)))

    if_same : (w : Option Size) (e : Option Expr) → asks_if G s w e ≡ asks_if H s w e
    if_same w None = refl
    if_same w (Some e) = asks_same w (term_of e)

    each_same : (w : Option Size) (es : List Expr) → asks_each G s w es ≡ asks_each H s w es
    each_same w [] = refl
    each_same w (e ∷ es) = then_same (asks_same w (term_of e)) (each_same w es)

    -- ---- operations

    left_same : (z : Option Size) (d : Lval) → asks_left G s z d ≡ asks_left H s z d
    left_same z (lval.Skip at) = refl
    left_same z (lval.Var x) = refl
    left_same z (lval.Cell x i) = then_same (asks_same (Some S64) (term_of i)) (index_same (ref_of x) (term_of i))
    left_same z (lval.Store a) = then_same (asks_same (Some S64) (place_of a).at) (access_same (place_of a).spot (size_or_64 (option_or (place_of a).spot.size z)) (place_of a).at)

    lefts_same : (z : Option Size) (ds : List Lval) → asks_lefts G s z ds ≡ asks_lefts H s z ds
    lefts_same z [] = refl
    lefts_same z (d ∷ ds) = then_same (left_same z d) (lefts_same z ds)

    old_same : (c : Option Expr) (d : Option Lval) → asks_old G s c d ≡ asks_old H s c d
    old_same None d = refl
    old_same (Some c) None = refl
    old_same (Some c) (Some d) = if_same (left_size d) (as_expr d)

    assign_same : (to : List Lval) (m cond : Option Expr) → asks_assign G s to m cond ≡ asks_assign H s to m cond
    assign_same to None cond = refl
    assign_same to (Some e) cond =
        let z = option_or (left_sizes to) (own_size e) in
        then_same (asks_same z (term_of e)) (then_same (if_same None cond) (then_same (old_same cond (last_left to)) (lefts_same z to)))

    quotient_same : (z : Size) (es : List Expr) (at : Span) → asks_division G s name.Div z es at ≡ asks_division H s name.Div z es at
    quotient_same z [] at = refl
    quotient_same z (a ∷ []) at = refl
    quotient_same z (a ∷ b ∷ []) at = refl
    quotient_same z (a ∷ b ∷ d ∷ []) at = ap₂ (λ (i j : Interval). unless (nat_lt i.hi j.lo) at Divide division) (range_same z (term_of a)) (range_same z (term_of d))
    quotient_same z (a ∷ b ∷ d ∷ e ∷ es) at = refl

    division_same : (i : Intrinsic) (z : Size) (es : List Expr) (at : Span) → asks_division G s i z es at ≡ asks_division H s i z es at
    division_same name.Div z es at = quotient_same z es at
    division_same name.Add z es at = refl
    division_same name.Sub z es at = refl
    division_same name.And z es at = refl
    division_same name.Or z es at = refl
    division_same name.Xor z es at = refl
    division_same name.Adc z es at = refl
    division_same name.Sbb z es at = refl
    division_same name.Neg z es at = refl
    division_same name.Inc z es at = refl
    division_same name.Dec z es at = refl
    division_same name.Not z es at = refl
    division_same name.Bswap z es at = refl
    division_same name.Lea z es at = refl
    division_same name.Cmp z es at = refl
    division_same name.Test z es at = refl
    division_same name.Shl z es at = refl
    division_same name.Shr z es at = refl
    division_same name.Sar z es at = refl
    division_same name.Rol z es at = refl
    division_same name.Ror z es at = refl
    division_same name.Imul z es at = refl
    division_same name.Mul z es at = refl
    division_same name.Setcc z es at = refl

    instruction_same : (i : Option Instance) (to : List Lval) (args : List Expr) (at : Span) → asks_instruction G s i to args at ≡ asks_instruction H s i to args at
    instruction_same None to args at = refl
    instruction_same (Some i) to args at =
        let z = intrinsic_size i.name i.size to args in
        then_same (each_same z args) (then_same (division_same i.name (size_or_64 z) args at) (lefts_same z to))

  operation_same : (o : Operation) (s : Facts) → asks_operation G o s ≡ asks_operation H o s
  operation_same (assign to o e c at) s = assign_same s to (whole_of (last_left to) o e) c
  operation_same (instruction to n args at) s = instruction_same s (spelled n) to args at
  operation_same (unset xs) s = refl
  operation_same (meaningless at) s = refl

  test_same : (c : Condition) (s : Facts) → asks_test G c s ≡ asks_test H c s
  test_same c s = asks_same s None (term_of c.cond)

  abbrev With : (Operation → Facts → Option Alarm) → (Condition → Facts → Option Alarm) → Asks Operation Condition Fact Alarm
  With p q = record { op = p; test = q }

  pub all_asks_same : fact_asks G ≡ fact_asks H
  all_asks_same =
      ap (λ p. With p (asks_test G)) (fun_ext (λ o. fun_ext (λ s. operation_same o s)))
      ∙ ap (λ q. With (asks_operation H) q) (fun_ext (λ c. fun_ext (λ s. test_same c s)))
