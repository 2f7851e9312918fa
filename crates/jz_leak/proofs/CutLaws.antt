-- A whole leak is none that was cut, and a broken one is.
use Rattle.std.proofs.Common.{◌≡◌, Bool, true, false, refl}
use Rattle.jz_leak.specs.RunLeaks.{Leak, over, ran, chose, chose_cut, looped, looped_cut, each, each_cut, called, called_cut, Turns, left, turn, prologue_cut, wanted, body_cut, Rounds, no_round, round, round_cut}
use Rattle.jz_leak.specs.Cuts.{IsWhole, AreWhole, RoundsWhole, IsBroken, AreBroken, RoundsBroken}
use Rattle.jz_leak.specs.Applying.{is_cut, is_cut_in_turns, is_cut_in_rounds}

pub whole_uncut : (l : Leak) → IsWhole l → is_cut l ≡ false
whole_uncut over h = refl
whole_uncut (ran ns l) h = whole_uncut l h
whole_uncut (chose ns z a l) h = whole_uncut l h.1
whole_uncut (chose_cut ns z a) h = absurd h
whole_uncut (looped ts l) h = whole_uncut l h.1
whole_uncut (looped_cut ts) h = absurd h
whole_uncut (each rs l) h = whole_uncut l h.1
whole_uncut (each_cut rs) h = absurd h
whole_uncut (called ns b ms l) h = whole_uncut l h.1
whole_uncut (called_cut ns b) h = absurd h

pub broken_cut : (l : Leak) → IsBroken l → is_cut l ≡ true
broken_cut over h = absurd h
broken_cut (ran ns l) h = broken_cut l h
broken_cut (chose ns z a l) h = broken_cut l h.1
broken_cut (chose_cut ns z a) h = refl
broken_cut (looped ts l) h = broken_cut l h.1
broken_cut (looped_cut ts) h = refl
broken_cut (each rs l) h = broken_cut l h.1
broken_cut (each_cut rs) h = refl
broken_cut (called ns b ms l) h = broken_cut l h.1
broken_cut (called_cut ns b) h = refl

pub turns_uncut : (ts : Turns) → AreWhole ts → is_cut_in_turns ts ≡ false
turns_uncut (left p ns) h = refl
turns_uncut (turn p ns b ts) h = turns_uncut ts h.2
turns_uncut (prologue_cut p) h = absurd h
turns_uncut (wanted p ns) h = absurd h
turns_uncut (body_cut p ns b) h = absurd h

pub turns_cut : (ts : Turns) → AreBroken ts → is_cut_in_turns ts ≡ true
turns_cut (left p ns) h = absurd h
turns_cut (turn p ns b ts) h = turns_cut ts h.2
turns_cut (prologue_cut p) h = refl
turns_cut (wanted p ns) h = refl
turns_cut (body_cut p ns b) h = refl

pub rounds_uncut : (rs : Rounds) → RoundsWhole rs → is_cut_in_rounds rs ≡ false
rounds_uncut no_round h = refl
rounds_uncut (round a rs) h = rounds_uncut rs h.1
rounds_uncut (round_cut a) h = absurd h

pub rounds_cut : (rs : Rounds) → RoundsBroken rs → is_cut_in_rounds rs ≡ true
rounds_cut no_round h = absurd h
rounds_cut (round a rs) h = rounds_cut rs h.1
rounds_cut (round_cut a) h = refl
