-- Operations one after another, and what they leak together.
use Rattle.std.specs.Prelude.{ℕ, ◌≡◌, List, [], ◌∷◌}
use Rattle.jz_runs.specs.Trees.{Tree, op}
use Rattle.jz_runs.specs.Rules.{Parts, stuck, went}
use Rattle.jz_change.specs.declared.change.Numbers.{Numbers}
use Rattle.jz_change.specs.Changes.{numbers_in}
use Rattle.jz_change.specs.Fitting.{HasThese}

-- operations, before what follows
abbrev pub in_turn : {O T F C : Type 0} → List O → Tree O T F C → Tree O T F C
in_turn [] rest = rest
in_turn (o ∷ os) rest = op o (in_turn os rest)

module _ {O T F C S W : Type 0} (M : Parts O T F C S W) where
  -- from a state to another, each with its numbers out of all that there are
  pub data DoAll (all : List ℕ) : List O → List Numbers → S → S → Type 0 where
    do_none : {s : S} → DoAll all [] [] s s
    do_one :
        {o : O} {os : List O} {i : Numbers} {is : List Numbers} {s s1 s2 : S}
        → HasThese all i → M.does o s ≡ went (numbers_in i all) s1 → DoAll all os is s1 s2
        → DoAll all (o ∷ os) (i ∷ is) s s2

  -- one of them is stuck, for this reason
  pub data OneFails (w : W) : List O → S → Type 0 where
    fails_here : {o : O} {os : List O} {s : S} → M.does o s ≡ stuck w → OneFails w (o ∷ os) s
    fails_later :
        {o : O} {os : List O} {s s1 : S} {ns : List ℕ}
        → M.does o s ≡ went ns s1 → OneFails w os s1 → OneFails w (o ∷ os) s

  -- operations and then a test: one of them is stuck, or the test is
  pub data TestFails (w : W) : List O → T → S → Type 0 where
    fails_at_test : {p : T} {s : S} → M.tests p s ≡ stuck w → TestFails w [] p s
    fails_before :
        {o : O} {os : List O} {p : T} {s : S} → M.does o s ≡ stuck w → TestFails w (o ∷ os) p s
    fails_behind :
        {o : O} {os : List O} {p : T} {s s1 : S} {ns : List ℕ}
        → M.does o s ≡ went ns s1 → TestFails w os p s1 → TestFails w (o ∷ os) p s
