-- What a pass between two languages makes of a leak: a step for each item, with the steps of what
-- follows behind it.
use Rattle.std.specs.Prelude.{ℕ, Bool, if◌then◌else◌, List, [], ◌∷◌, map, slice_index}
use Rattle.jz_leak.specs.RunLeaks.{Leak, over, ran, chose, chose_cut, looped, looped_cut, each, each_cut, called, called_cut, Turns, left, turn, prologue_cut, wanted, body_cut, Rounds, no_round, round, round_cut}
use Rattle.jz_change.specs.declared.change.Number.{Number}
use Rattle.jz_change.specs.declared.change.Number.TheVariants.{Fixed, Nth}
use Rattle.jz_change.specs.declared.change.Numbers.{Numbers}
use Rattle.jz_change.specs.declared.change.Numbers.TheVariants.{Same, These}

-- ---- numbers

-- a number of an item, by the numbers of the item that it comes from
abbrev pub number_in : List ℕ → Number → ℕ
number_in ns (Fixed n) = n
number_in ns (Nth i) = slice_index ns i

-- the numbers of an item, by the same
abbrev pub numbers_in : Numbers → List ℕ → List ℕ
numbers_in Same ns = ns
numbers_in (These xs) ns = map (number_in ns) xs

-- ---- changes

mutual
  pub data Change : Type 0 where
    -- no further item
    ends : Change
    -- an operation becomes so many
    ops : List Numbers → Change → Change
    -- an `if` stays one, behind so many operations; its numbers, its arms
    stays_if : List Numbers → Numbers → Change → Change → Change → Change
    -- of an `if` the arm of this answer is left, behind so many operations
    arm : Bool → List Numbers → Change → Change → Change
    -- a `while` stays one: its prologue, the operations behind that, its numbers, its body
    stays_while : Change → List Numbers → Numbers → Change → Change → Change
    -- of a `while` that is false at once the prologue is left, before so many operations
    once : Change → List Numbers → Change → Change
    -- a `for` stays one, with one change for all rounds
    stays_for : Change → Change → Change
    -- the rounds of a `for`, one after another, each with its change
    unrolled : Changes → Change → Change
    -- the arguments, the body and the results of a call, one after another
    opened : List Numbers → Change → List Numbers → Change → Change

  pub data Changes : Type 0 where
    none : Changes
    more : Change → Changes → Changes

-- ---- the leak that a change gives

-- operations with their numbers, before what follows
abbrev pub operations : List Numbers → List ℕ → Leak → Leak
operations [] ns next = next
operations (i ∷ is) ns next = ran (numbers_in i ns) (operations is ns next)

-- what a change gives of a leak, before what follows; behind a cut nothing follows
abbrev mutual
  pub map_before : Leak → Change → Leak → Leak
  map_before (ran ns l) (ops is r) next = operations is ns (map_before l r next)
  map_before (chose ns z a l) (stays_if pre i ta tb r) next =
      operations pre ns
      (chose (numbers_in i ns) z (map_before a (if z then ta else tb) over) (map_before l r next))
  map_before (chose ns z a l) (arm y pre ta r) next =
      operations pre ns (map_before a ta (map_before l r next))
  map_before (chose_cut ns z a) (stays_if pre i ta tb r) next =
      operations pre ns
      (chose_cut (numbers_in i ns) z (map_before a (if z then ta else tb) over))
  map_before (chose_cut ns z a) (arm y pre ta r) next = operations pre ns (map_before a ta over)
  map_before (looped ts l) (stays_while tp pre i tb r) next =
      looped (map_turns ts tp pre i tb) (map_before l r next)
  map_before (looped_cut ts) (stays_while tp pre i tb r) next =
      looped_cut (map_turns ts tp pre i tb)
  map_before (looped ts l) (once tp pre r) next = map_once ts tp pre (map_before l r next)
  map_before (looped_cut ts) (once tp pre r) next = map_once ts tp pre over
  map_before (each rs l) (stays_for tb r) next = each (map_each rs tb) (map_before l r next)
  map_before (each_cut rs) (stays_for tb r) next = each_cut (map_each rs tb)
  map_before (each rs l) (unrolled ts r) next = map_rounds rs ts (map_before l r next)
  map_before (each_cut rs) (unrolled ts r) next = map_rounds rs ts over
  map_before (called ns b ms l) (opened xs tb ys r) next =
      operations xs ns (map_before b tb (operations ys ms (map_before l r next)))
  map_before (called_cut ns b) (opened xs tb ys r) next = operations xs ns (map_before b tb over)
  map_before l t next = next

  -- the turns of a `while` that stays one
  pub map_turns : Turns → Change → List Numbers → Numbers → Change → Turns
  map_turns (left p ns) tp pre i tb =
      left (map_before p tp (operations pre ns over)) (numbers_in i ns)
  map_turns (turn p ns b ts) tp pre i tb =
      turn (map_before p tp (operations pre ns over)) (numbers_in i ns) (map_before b tb over)
      (map_turns ts tp pre i tb)
  map_turns (prologue_cut p) tp pre i tb = prologue_cut (map_before p tp over)
  map_turns (wanted p ns) tp pre i tb =
      wanted (map_before p tp (operations pre ns over)) (numbers_in i ns)
  map_turns (body_cut p ns b) tp pre i tb =
      body_cut (map_before p tp (operations pre ns over)) (numbers_in i ns) (map_before b tb over)

  -- the one turn of a `while` that is false at once
  pub map_once : Turns → Change → List Numbers → Leak → Leak
  map_once (left p ns) tp pre next = map_before p tp (operations pre ns next)
  map_once (prologue_cut p) tp pre next = map_before p tp over
  map_once _ tp pre next = next

  -- rounds that stay
  pub map_each : Rounds → Change → Rounds
  map_each no_round tb = no_round
  map_each (round a rs) tb = round (map_before a tb over) (map_each rs tb)
  map_each (round_cut a) tb = round_cut (map_before a tb over)

  -- rounds one after another
  pub map_rounds : Rounds → Changes → Leak → Leak
  map_rounds (round a rs) (more t ts) next = map_before a t (map_rounds rs ts next)
  map_rounds (round_cut a) (more t ts) next = map_before a t over
  map_rounds rs ts next = next

-- the leak that a change gives
abbrev pub map_of : Change → Leak → Leak
map_of t l = map_before l t over
