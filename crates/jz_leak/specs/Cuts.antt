-- Which leaks runs have: the cut, where there is one, is the last item of each list that is open,
-- and nothing else is cut.
use Rattle.std.specs.Prelude.{⊤}
use Rattle.jz_leak.specs.RunLeaks.{Leak, over, ran, chose, chose_cut, looped, looped_cut, each, each_cut, called, called_cut, Turns, left, turn, prologue_cut, wanted, body_cut, Rounds, no_round, round, round_cut}

-- no part is cut
abbrev mutual
  pub IsWhole : Leak → Type 0
  IsWhole over = ⊤
  IsWhole (ran ns l) = IsWhole l
  IsWhole (chose ns z a l) = IsWhole a × IsWhole l
  IsWhole (chose_cut ns z a) = ⊥
  IsWhole (looped ts l) = AreWhole ts × IsWhole l
  IsWhole (looped_cut ts) = ⊥
  IsWhole (each rs l) = RoundsWhole rs × IsWhole l
  IsWhole (each_cut rs) = ⊥
  IsWhole (called ns b ms l) = IsWhole b × IsWhole l
  IsWhole (called_cut ns b) = ⊥

  -- the turns of a `while` that was left
  pub AreWhole : Turns → Type 0
  AreWhole (left p ns) = IsWhole p
  AreWhole (turn p ns b ts) = IsWhole p × IsWhole b × AreWhole ts
  AreWhole (prologue_cut p) = ⊥
  AreWhole (wanted p ns) = ⊥
  AreWhole (body_cut p ns b) = ⊥

  pub RoundsWhole : Rounds → Type 0
  RoundsWhole no_round = ⊤
  RoundsWhole (round a rs) = IsWhole a × RoundsWhole rs
  RoundsWhole (round_cut a) = ⊥

-- the last part is cut, and all before it is whole
abbrev mutual
  pub IsBroken : Leak → Type 0
  IsBroken over = ⊥
  IsBroken (ran ns l) = IsBroken l
  IsBroken (chose ns z a l) = IsWhole a × IsBroken l
  IsBroken (chose_cut ns z a) = IsBroken a
  IsBroken (looped ts l) = AreWhole ts × IsBroken l
  IsBroken (looped_cut ts) = AreBroken ts
  IsBroken (each rs l) = RoundsWhole rs × IsBroken l
  IsBroken (each_cut rs) = RoundsBroken rs
  IsBroken (called ns b ms l) = IsWhole b × IsBroken l
  IsBroken (called_cut ns b) = IsBroken b

  -- in the prologue, in the body, or where a turn was wanted
  pub AreBroken : Turns → Type 0
  AreBroken (left p ns) = ⊥
  AreBroken (turn p ns b ts) = IsWhole p × IsWhole b × AreBroken ts
  AreBroken (prologue_cut p) = IsBroken p
  AreBroken (wanted p ns) = IsWhole p
  AreBroken (body_cut p ns b) = IsWhole p × IsBroken b

  pub RoundsBroken : Rounds → Type 0
  RoundsBroken no_round = ⊥
  RoundsBroken (round a rs) = IsWhole a × RoundsBroken rs
  RoundsBroken (round_cut a) = IsBroken a
