-- Two changes one after another. Where nothing fits, what stands there may be anything, as no leak
-- reaches it.
use Rattle.std.specs.Prelude.{◌≡◌, if◌then◌else◌, List, [], ◌∷◌, ◌++◌, map, slice_index_or}
use Rattle.jz_leak.specs.RunLeaks.{Leak}
use Rattle.jz_change.specs.declared.change.Number.{Number}
use Rattle.jz_change.specs.declared.change.Number.TheVariants.{Fixed, Nth}
use Rattle.jz_change.specs.declared.change.Numbers.{Numbers}
use Rattle.jz_change.specs.declared.change.Numbers.TheVariants.{Same, These}
use Rattle.jz_change.specs.Changes.{Change, ends, ops, stays_if, arm, stays_while, once, stays_for, unrolled, opened, Changes, none, more, map_of}
use Rattle.jz_change.specs.Fitting.{LeakFits}

-- ---- numbers of numbers

-- a number of an item that has these
abbrev pub number_by : List Number → Number → Number
number_by xs (Fixed n) = Fixed n
number_by xs (Nth i) = slice_index_or xs i (Fixed 0)

-- the numbers of an item, by those of an item between
abbrev pub numbers_by : Numbers → Numbers → Numbers
numbers_by i Same = i
numbers_by Same (These ys) = These ys
numbers_by (These xs) (These ys) = These (map (number_by xs) ys)

-- and of so many items
abbrev pub all_by : Numbers → List Numbers → List Numbers
all_by i js = map (numbers_by i) js

-- ---- the first steps of a change

-- what stands behind the first step
abbrev pub behind : Change → Change
behind ends = ends
behind (ops is r) = r
behind (stays_if pre i ta tb r) = r
behind (arm z pre ta r) = r
behind (stays_while tp pre i tb r) = r
behind (once tp pre r) = r
behind (stays_for tb r) = r
behind (unrolled ts r) = r
behind (opened xs tb ys r) = r

-- what the first step makes of an operation with these numbers
abbrev pub head_ops : Numbers → Change → List Numbers
head_ops i (ops js r) = all_by i js
head_ops i _ = []

-- what the first steps make of so many operations, and the steps behind them
pub record FrontOps : Type 0 where
  pub items : List Numbers
  pub rest : Change

abbrev pub add_ops : List Numbers → FrontOps → FrontOps
add_ops is f = record { items = is ++ f.items; rest = f.rest }

abbrev pub first_ops : List Numbers → Change → FrontOps
first_ops [] b = record { items = []; rest = b }
first_ops (i ∷ is) b = add_ops (head_ops i b) (first_ops is (behind b))

-- ---- composing

-- a change and then the first steps of another are this, and those steps are left
pub record JoinedChange : Type 0 where
  pub change : Change
  pub rest : Change

pub record JoinedRounds : Type 0 where
  pub changes : Changes
  pub rest : Change

abbrev pub add_step : (Change → Change) → JoinedChange → JoinedChange
add_step step j = record { change = step j.change; rest = j.rest }

-- an `if` that the first change keeps; the second keeps it or prunes an arm
abbrev pub join_if :
    List Numbers → Numbers → (Change → JoinedChange) → (Change → JoinedChange) → Change → Change
    → Change
join_if xs i a b (stays_if pre j ta tb s) r =
    stays_if (xs ++ all_by i pre) (numbers_by i j) (a ta).change (b tb).change r
join_if xs i a b (arm z pre ta s) r =
    arm z (xs ++ all_by i pre) ((if z then a else b) ta).change r
join_if xs i a b _ r = ops [] r

-- a `while` that the first change keeps; the second keeps it or prunes it as false at once
abbrev pub join_while :
    List Numbers → Numbers → (Change → JoinedChange) → (Change → JoinedChange) → Change → Change
    → Change
join_while pre i p b (stays_while tp pre2 j tb s) r =
    stays_while (p tp).change ((first_ops pre (p tp).rest).items ++ all_by i pre2) (numbers_by i j)
    (b tb).change
    r
join_while pre i p b (once tp pre2 s) r =
    once (p tp).change ((first_ops pre (p tp).rest).items ++ all_by i pre2) r
join_while pre i p b _ r = ops [] r

-- one change, and then each of these
abbrev pub join_every : (Change → JoinedChange) → Changes → Changes
join_every b none = none
join_every b (more t ts) = more (b t).change (join_every b ts)

-- a `for` that the first change keeps; the second keeps it or sets its rounds one after another
abbrev pub join_for : (Change → JoinedChange) → Change → Change → Change
join_for b (stays_for tb s) r = stays_for (b tb).change r
join_for b (unrolled ts s) r = unrolled (join_every b ts) r
join_for b _ r = ops [] r

-- the first step of the second change by one of these, and what follows by the steps behind it
abbrev pub join_first :
    (Change → JoinedChange) → (Change → Change → Change) → Change → JoinedChange
join_first next step b = add_step (step b) (next (behind b))

abbrev mutual
  pub join : Change → Change → JoinedChange
  join ends b = record { change = ends; rest = b }
  join (ops is r) b = add_step (ops (first_ops is b).items) (join r (first_ops is b).rest)
  join (stays_if pre i ta tb r) b =
      join_first (join r) (join_if (first_ops pre b).items i (join ta) (join tb))
      (first_ops pre b).rest
  join (arm z pre ta r) b =
      add_step (arm z (first_ops pre b).items (join ta (first_ops pre b).rest).change)
      (join r (join ta (first_ops pre b).rest).rest)
  join (stays_while tp pre i tb r) b =
      join_first (join r) (join_while pre i (join tp) (join tb)) b
  join (once tp pre r) b =
      add_step (once (join tp b).change (first_ops pre (join tp b).rest).items)
      (join r (first_ops pre (join tp b).rest).rest)
  join (stays_for tb r) b = join_first (join r) (join_for (join tb)) b
  join (unrolled ts r) b =
      add_step (unrolled (join_rounds ts b).changes) (join r (join_rounds ts b).rest)
  join (opened xs tb ys r) b =
      add_step
      (opened (first_ops xs b).items (join tb (first_ops xs b).rest).change
      (first_ops ys (join tb (first_ops xs b).rest).rest).items)
      (join r (first_ops ys (join tb (first_ops xs b).rest).rest).rest)

  pub join_rounds : Changes → Change → JoinedRounds
  join_rounds none b = record { changes = none; rest = b }
  join_rounds (more t ts) b = record {
    changes = more (join t b).change (join_rounds ts (join t b).rest).changes;
    rest = (join_rounds ts (join t b).rest).rest;
  }

-- the composition of two changes
abbrev pub compose_of : Change → Change → Change
compose_of a b = (join a b).change

-- c does at once what a does and then b: what fits both fits c, and becomes the same
pub record Composes (a b c : Change) : Type 0 where
  pub fits : (l : Leak) → LeakFits l a → LeakFits (map_of a l) b → LeakFits l c
  pub maps :
      (l : Leak) → LeakFits l a → LeakFits (map_of a l) b → map_of c l ≡ map_of b (map_of a l)
