-- The leaks that a change is for.
use Rattle.std.specs.Prelude.{ℕ, ◌≡◌, ◌<◌, Bool, true, false, if◌then◌else◌, List, length, All, ⊤}
use Rattle.jz_leak.specs.RunLeaks.{Leak, over, ran, chose, chose_cut, looped, looped_cut, each, each_cut, called, called_cut, Turns, left, turn, prologue_cut, wanted, body_cut, Rounds, no_round, round, round_cut}
use Rattle.jz_leak.specs.Applying.{is_cut, is_cut_in_turns, is_cut_in_rounds}
use Rattle.jz_change.specs.declared.change.Number.{Number}
use Rattle.jz_change.specs.declared.change.Number.TheVariants.{Fixed, Nth}
use Rattle.jz_change.specs.declared.change.Numbers.{Numbers}
use Rattle.jz_change.specs.declared.change.Numbers.TheVariants.{Same, These}
use Rattle.jz_change.specs.Changes.{Change, ends, ops, stays_if, arm, stays_while, once, stays_for, unrolled, opened, Changes, none, more}

-- ---- the leaked numbers that a change names are there

-- the one that a number names
abbrev pub HasNumber : List ℕ → Number → Type 0
HasNumber ns (Fixed n) = ⊤
HasNumber ns (Nth i) = i < length ns

-- those of an item
abbrev pub HasThese : List ℕ → Numbers → Type 0
HasThese ns Same = ⊤
HasThese ns (These xs) = All (HasNumber ns) xs

-- those of so many items
abbrev pub HasAll : List ℕ → List Numbers → Type 0
HasAll ns is = All (HasThese ns) is

-- ---- fitting

-- Up to the cut a step for each item, of its kind, and each leaked number that it names is there. A
-- part holds the cut exactly where its item says so.
mutual
  pub data LeakFits : Leak → Change → Type 0 where
    fits_over : LeakFits over ends
    fits_ran :
        {ns : List ℕ} {l : Leak} {is : List Numbers} {r : Change}
        → HasAll ns is → LeakFits l r → LeakFits (ran ns l) (ops is r)
    fits_if :
        {ns : List ℕ} {z : Bool} {a l : Leak} {pre : List Numbers} {i : Numbers}
        {ta tb r : Change}
        → HasAll ns pre → HasThese ns i → is_cut a ≡ false → LeakFits a (if z then ta else tb)
        → LeakFits l r → LeakFits (chose ns z a l) (stays_if pre i ta tb r)
    fits_if_cut :
        {ns : List ℕ} {z : Bool} {a : Leak} {pre : List Numbers} {i : Numbers} {ta tb r : Change}
        → HasAll ns pre → HasThese ns i → is_cut a ≡ true → LeakFits a (if z then ta else tb)
        → LeakFits (chose_cut ns z a) (stays_if pre i ta tb r)
    -- the answer is that of the arm that is left
    fits_arm :
        {ns : List ℕ} {z : Bool} {a l : Leak} {pre : List Numbers} {ta r : Change}
        → HasAll ns pre → is_cut a ≡ false → LeakFits a ta → LeakFits l r
        → LeakFits (chose ns z a l) (arm z pre ta r)
    fits_arm_cut :
        {ns : List ℕ} {z : Bool} {a : Leak} {pre : List Numbers} {ta r : Change}
        → HasAll ns pre → is_cut a ≡ true → LeakFits a ta
        → LeakFits (chose_cut ns z a) (arm z pre ta r)
    fits_while :
        {ts : Turns} {l : Leak} {pre : List Numbers} {i : Numbers} {tp tb r : Change}
        → is_cut_in_turns ts ≡ false → LeakTurnsFit ts tp pre i tb → LeakFits l r
        → LeakFits (looped ts l) (stays_while tp pre i tb r)
    fits_while_cut :
        {ts : Turns} {pre : List Numbers} {i : Numbers} {tp tb r : Change}
        → is_cut_in_turns ts ≡ true → LeakTurnsFit ts tp pre i tb
        → LeakFits (looped_cut ts) (stays_while tp pre i tb r)
    fits_once :
        {ts : Turns} {l : Leak} {pre : List Numbers} {tp r : Change}
        → is_cut_in_turns ts ≡ false → LeakOnceFits ts tp pre → LeakFits l r
        → LeakFits (looped ts l) (once tp pre r)
    fits_once_cut :
        {ts : Turns} {pre : List Numbers} {tp r : Change}
        → is_cut_in_turns ts ≡ true → LeakOnceFits ts tp pre
        → LeakFits (looped_cut ts) (once tp pre r)
    fits_for :
        {rs : Rounds} {l : Leak} {tb r : Change}
        → is_cut_in_rounds rs ≡ false → LeakEachFits rs tb → LeakFits l r
        → LeakFits (each rs l) (stays_for tb r)
    fits_for_cut :
        {rs : Rounds} {tb r : Change}
        → is_cut_in_rounds rs ≡ true → LeakEachFits rs tb
        → LeakFits (each_cut rs) (stays_for tb r)
    fits_unrolled :
        {rs : Rounds} {l : Leak} {ts : Changes} {r : Change}
        → is_cut_in_rounds rs ≡ false → LeakRoundsFit rs ts → LeakFits l r
        → LeakFits (each rs l) (unrolled ts r)
    fits_unrolled_cut :
        {rs : Rounds} {ts : Changes} {r : Change}
        → is_cut_in_rounds rs ≡ true → LeakRoundsFit rs ts
        → LeakFits (each_cut rs) (unrolled ts r)
    fits_opened :
        {ns ms : List ℕ} {b l : Leak} {xs ys : List Numbers} {tb r : Change}
        → HasAll ns xs → is_cut b ≡ false → LeakFits b tb → HasAll ms ys → LeakFits l r
        → LeakFits (called ns b ms l) (opened xs tb ys r)
    fits_opened_cut :
        {ns : List ℕ} {b : Leak} {xs ys : List Numbers} {tb r : Change}
        → HasAll ns xs → is_cut b ≡ true → LeakFits b tb
        → LeakFits (called_cut ns b) (opened xs tb ys r)

  -- each turn of a `while` that stays one, by the same parts
  pub data LeakTurnsFit : Turns → Change → List Numbers → Numbers → Change → Type 0 where
    turns_left :
        {p : Leak} {ns : List ℕ} {tp tb : Change} {pre : List Numbers} {i : Numbers}
        → HasAll ns pre → HasThese ns i → is_cut p ≡ false → LeakFits p tp
        → LeakTurnsFit (left p ns) tp pre i tb
    turns_turn :
        {p b : Leak} {ns : List ℕ} {ts : Turns} {tp tb : Change} {pre : List Numbers} {i : Numbers}
        → HasAll ns pre → HasThese ns i → is_cut p ≡ false → LeakFits p tp → is_cut b ≡ false
        → LeakFits b tb → LeakTurnsFit ts tp pre i tb → LeakTurnsFit (turn p ns b ts) tp pre i tb
    turns_prologue_cut :
        {p : Leak} {tp tb : Change} {pre : List Numbers} {i : Numbers}
        → is_cut p ≡ true → LeakFits p tp → LeakTurnsFit (prologue_cut p) tp pre i tb
    turns_wanted :
        {p : Leak} {ns : List ℕ} {tp tb : Change} {pre : List Numbers} {i : Numbers}
        → HasAll ns pre → HasThese ns i → is_cut p ≡ false → LeakFits p tp
        → LeakTurnsFit (wanted p ns) tp pre i tb
    turns_body_cut :
        {p b : Leak} {ns : List ℕ} {tp tb : Change} {pre : List Numbers} {i : Numbers}
        → HasAll ns pre → HasThese ns i → is_cut p ≡ false → LeakFits p tp → is_cut b ≡ true
        → LeakFits b tb → LeakTurnsFit (body_cut p ns b) tp pre i tb

  -- exactly one turn, whose test is false, or a cut before it
  pub data LeakOnceFits : Turns → Change → List Numbers → Type 0 where
    once_left :
        {p : Leak} {ns : List ℕ} {tp : Change} {pre : List Numbers}
        → HasAll ns pre → is_cut p ≡ false → LeakFits p tp → LeakOnceFits (left p ns) tp pre
    once_cut :
        {p : Leak} {tp : Change} {pre : List Numbers}
        → is_cut p ≡ true → LeakFits p tp → LeakOnceFits (prologue_cut p) tp pre

  -- each round of a `for` that stays one, by the same change
  pub data LeakEachFits : Rounds → Change → Type 0 where
    same_none : {tb : Change} → LeakEachFits no_round tb
    same_round :
        {a : Leak} {rs : Rounds} {tb : Change}
        → is_cut a ≡ false → LeakFits a tb → LeakEachFits rs tb → LeakEachFits (round a rs) tb
    same_cut :
        {a : Leak} {tb : Change} → is_cut a ≡ true → LeakFits a tb
        → LeakEachFits (round_cut a) tb

  -- a change for each round; at a cut there may be more of them
  pub data LeakRoundsFit : Rounds → Changes → Type 0 where
    own_none : LeakRoundsFit no_round none
    own_round :
        {a : Leak} {rs : Rounds} {t : Change} {ts : Changes}
        → is_cut a ≡ false → LeakFits a t → LeakRoundsFit rs ts
        → LeakRoundsFit (round a rs) (more t ts)
    own_cut :
        {a : Leak} {t : Change} {ts : Changes} → is_cut a ≡ true → LeakFits a t
        → LeakRoundsFit (round_cut a) (more t ts)
