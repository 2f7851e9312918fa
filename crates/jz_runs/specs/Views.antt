-- What is shown of a leak, whatever that is: what is shown of each statement, one after another.
use Rattle.std.specs.Prelude.{ℕ, Bool, true, false, List, [], ◌∷◌, ◌++◌}
use Rattle.jz_leak.specs.declared.leak.Leak.{Leak as ShownLeak}
use Rattle.jz_leak.specs.declared.leak.Item.{Item}
use Rattle.jz_leak.specs.declared.leak.Item.TheVariants as item
use Rattle.jz_leak.specs.declared.leak.Turn.{Turn}
use Rattle.jz_leak.specs.RunLeaks.{Leak, over, ran, chose, chose_cut, looped, looped_cut, each, each_cut, called, called_cut, Turns, left, turn, prologue_cut, wanted, body_cut, Rounds, no_round, round, round_cut}

-- A body is shown as a list of X, the turns of a `while` as one of Y, the rounds of a `for` as one
-- of Z. This is what is shown of each statement, turn and round, by what is shown of the bodies in
-- it; of those in which the run is cut it is said apart.
pub record View (X Y Z : Type 0) : Type 0 where
  -- an operation, by its numbers
  pub operation : List ℕ → List X
  -- `if`, by the numbers of its test, the answer and the arm
  pub choice : List ℕ → Bool → List X → List X
  pub cut_choice : List ℕ → Bool → List X → List X
  -- `while`, by its turns
  pub turns : List Y → List X
  pub cut_turns : List Y → List X
  -- `for`, by its rounds
  pub rounds : List Z → List X
  pub cut_rounds : List Z → List X
  -- a call, by the numbers of its arguments, the callee and the numbers of its left sides
  pub call : List ℕ → List X → List ℕ → List X
  pub cut_call : List ℕ → List X → List X
  -- a turn, by the prologue, the numbers of the test, and where that is true the body: the last
  -- one; one with another test after it; one whose prologue is cut; one that is wanted where no
  -- turn is left; one whose body is cut
  pub last_turn : List X → List ℕ → List Y
  pub whole_turn : List X → List ℕ → List X → List Y
  pub cut_prologue : List X → List Y
  pub wanted_turn : List X → List ℕ → List Y
  pub cut_turn : List X → List ℕ → List X → List Y
  -- a round, by the body
  pub whole_round : List X → List Z
  pub cut_round : List X → List Z

-- what is shown of a leak
abbrev mutual
  pub leak_view : {X Y Z : Type 0} → View X Y Z → Leak → List X
  leak_view v over = []
  leak_view v (ran ns l) = v.operation ns ++ leak_view v l
  leak_view v (chose ns z a l) = v.choice ns z (leak_view v a) ++ leak_view v l
  leak_view v (chose_cut ns z a) = v.cut_choice ns z (leak_view v a)
  leak_view v (looped ts l) = v.turns (turns_view v ts) ++ leak_view v l
  leak_view v (looped_cut ts) = v.cut_turns (turns_view v ts)
  leak_view v (each rs l) = v.rounds (rounds_view v rs) ++ leak_view v l
  leak_view v (each_cut rs) = v.cut_rounds (rounds_view v rs)
  leak_view v (called ns b ms l) = v.call ns (leak_view v b) ms ++ leak_view v l
  leak_view v (called_cut ns b) = v.cut_call ns (leak_view v b)

  pub turns_view : {X Y Z : Type 0} → View X Y Z → Turns → List Y
  turns_view v (left p ns) = v.last_turn (leak_view v p) ns
  turns_view v (turn p ns b ts) =
      v.whole_turn (leak_view v p) ns (leak_view v b) ++ turns_view v ts
  turns_view v (prologue_cut p) = v.cut_prologue (leak_view v p)
  turns_view v (wanted p ns) = v.wanted_turn (leak_view v p) ns
  turns_view v (body_cut p ns b) = v.cut_turn (leak_view v p) ns (leak_view v b)

  pub rounds_view : {X Y Z : Type 0} → View X Y Z → Rounds → List Z
  rounds_view v no_round = []
  rounds_view v (round a rs) = v.whole_round (leak_view v a) ++ rounds_view v rs
  rounds_view v (round_cut a) = v.cut_round (leak_view v a)

-- ---- items

-- a leak of these items, and a turn
abbrev pub leak_of : List Item → ShownLeak
leak_of is = record { items = is }

abbrev pub turn_of : List Item → List ℕ → Bool → List Item → Turn
turn_of is ns z js = record { prologue = leak_of is; numbers = ns; more = z; body = leak_of js }

-- an item for each statement that leaks
abbrev pub items_view : View Item Turn ShownLeak
items_view =
    record {
      operation = λ ns. item.Op ns ∷ [];
      choice = λ ns z is. item.If ns z (leak_of is) ∷ [];
      cut_choice = λ ns z is. item.If ns z (leak_of is) ∷ [];
      turns = λ ts. item.While ts ∷ [];
      cut_turns = λ ts. item.While ts ∷ [];
      rounds = λ ls. item.For ls ∷ [];
      cut_rounds = λ ls. item.For ls ∷ [];
      call = λ ns is ms. item.Call ns (leak_of is) ms ∷ [];
      cut_call = λ ns is. item.Call ns (leak_of is) [] ∷ [];
      last_turn = λ is ns. turn_of is ns false [] ∷ [];
      whole_turn = λ is ns js. turn_of is ns true js ∷ [];
      cut_prologue = λ is. turn_of is [] false [] ∷ [];
      wanted_turn = λ is ns. turn_of is ns true (item.Cut ∷ []) ∷ [];
      cut_turn = λ is ns js. turn_of is ns true js ∷ [];
      whole_round = λ is. leak_of is ∷ [];
      cut_round = λ is. leak_of is ∷ [];
    }
