-- A leak whose numbers are changed, item by item.
use Rattle.std.specs.Prelude.{ℕ, if◌then◌else◌, List}
use Rattle.jz_leak.specs.RunLeaks.{Leak, ran, chose, chose_cut, looped, looped_cut, Turns, left, turn, prologue_cut, wanted, body_cut}
use Rattle.jz_runs.specs.Trees.{Tree, done, op, quiet, choose, loop, each, call}

abbrev pub on_ran : (List ℕ → List ℕ) → (Leak → Leak) → Leak → Leak
on_ran f g (ran ns l) = ran (f ns) (g l)
on_ran f g l = l

abbrev pub on_chose : (List ℕ → List ℕ) → (Leak → Leak) → (Leak → Leak) → (Leak → Leak)
    → Leak → Leak
on_chose f a b g (chose ns z x l) = chose (f ns) z (if z then a x else b x) (g l)
on_chose f a b g (chose_cut ns z x) = chose_cut (f ns) z (if z then a x else b x)
on_chose f a b g l = l

abbrev pub on_turns : (List ℕ → List ℕ) → (Leak → Leak) → (Leak → Leak) → Turns → Turns
on_turns f p b (left x ns) = left (p x) (f ns)
on_turns f p b (turn x ns y ts) = turn (p x) (f ns) (b y) (on_turns f p b ts)
on_turns f p b (prologue_cut x) = prologue_cut (p x)
on_turns f p b (wanted x ns) = wanted (p x) (f ns)
on_turns f p b (body_cut x ns y) = body_cut (p x) (f ns) (b y)

abbrev pub on_looped : (Turns → Turns) → (Leak → Leak) → Leak → Leak
on_looped f g (looped ts l) = looped (f ts) (g l)
on_looped f g (looped_cut ts) = looped_cut (f ts)
on_looped f g l = l

-- the numbers of each operation and each test, by the operation and the test
module _ {O T F C : Type 0} (numbers : O → List ℕ → List ℕ)
    (test_numbers : T → List ℕ → List ℕ) where
  abbrev pub renumbered : Tree O T F C → Leak → Leak
  renumbered done l = l
  renumbered (op o r) l = on_ran (numbers o) (renumbered r) l
  renumbered (quiet o r) l = renumbered r l
  renumbered (choose c a b r) l =
      on_chose (test_numbers c) (renumbered a) (renumbered b) (renumbered r) l
  renumbered (loop q p c b r) l =
      on_looped (on_turns (test_numbers c) (renumbered p) (renumbered b)) (renumbered r) l
  renumbered (each f b r) l = l
  renumbered (call c b r) l = l
