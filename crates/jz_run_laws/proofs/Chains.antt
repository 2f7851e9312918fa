-- Without recursion the number of functions is deep enough: what may still be called gets less with each call.
use Rattle.std.proofs.Common.{◌≡◌, ◌+◌, ◌<◌, ◌≤◌, ◌⊎◌, ℕ, zero, suc, inl, inr, List, [], ◌∷◌, length, Some, refl, sym, ap, ◌∙◌, subst, arith}
use Rattle.std.specs.Prelude.{slice_get}
use Rattle.jz_tree.specs.declared.program.Fun.{Fun}
use Rattle.jz_tree.specs.declared.program.Program.{Program}
use Rattle.jz_types.specs.InnerNumbers.{directly, further}
use Rattle.jz_types.specs.InnerNumbers.{graph_of, Has, row_of, Leads}
use Rattle.jz_types.specs.Recursion.{CallsAt}
use Rattle.jz_types.proofs.Bridge.{closed, called_at, stands, cycle_down}
use Rattle.jz_types.proofs.Ranked.{same_length}
use Rattle.jz_run_laws.specs.Depths.{HasNoRecursion}

-- ---- lists of numbers
abbrev In : ℕ → List ℕ → Type 0
In i [] = ⊥
In i (x ∷ xs) = (x ≡ i) ⊎ In i xs

abbrev without : (i : ℕ) (xs : List ℕ) → In i xs → List ℕ
without i [] m = []
without i (x ∷ xs) (inl e) = xs
without i (x ∷ xs) (inr m) = x ∷ without i xs m

one_less : (i : ℕ) (xs : List ℕ) (m : In i xs) → suc (length (without i xs m)) ≡ length xs
one_less i [] m = absurd m
one_less i (x ∷ xs) (inl e) = refl
one_less i (x ∷ xs) (inr m) = ap suc (one_less i xs m)

kept : (i j : ℕ) (xs : List ℕ) (m : In i xs) → (j ≡ i → ⊥) → In j xs → In j (without i xs m)
kept i j [] m other h = absurd m
kept i j (x ∷ xs) (inl e) other (inl h) = absurd (other (sym h ∙ e))
kept i j (x ∷ xs) (inl e) other (inr h) = h
kept i j (x ∷ xs) (inr m) other (inl h) = inl h
kept i j (x ∷ xs) (inr m) other (inr h) = inr (kept i j xs m other h)

some_in : (i : ℕ) (xs : List ℕ) → In i xs → 0 < length xs
some_in i [] m = absurd m
some_in i (x ∷ xs) m = omega arith

abbrev under : ℕ → List ℕ
under zero = []
under (suc n) = n ∷ under n

last_or_under : (i n : ℕ) → i < n + 1 → (n ≡ i) ⊎ (i < n)
last_or_under i n lt = grind arith

in_under : (n i : ℕ) → i < n → In i (under n)
in_under zero i lt = absurd (omega (arith, lt))
in_under (suc n) i lt = elim (last_or_under i n (omega (arith, lt))) [ inl e ↦ inl e | inr l ↦ inr (in_under n i l) ]

length_under : (n : ℕ) → length (under n) ≡ n
length_under zero = refl
length_under (suc n) = ap suc (length_under n)

-- ---- what may still be called
joined : (g : List (List ℕ)) (i j k : ℕ) → Leads g i j → Leads g j k → Leads g i k
joined g i j k p (directly h) = further p h
joined g i j k p (further {j = m} q h) = further (joined g i j m p q) h

pub record MayCall (p : Program) (i d : ℕ) : Type 0 where
  left : List ℕ
  enough : length left ≤ d
  own : In i left
  led : (j : ℕ) → Leads (graph_of p.funs) i j → In j left

pub may_none : (p : Program) (i : ℕ) → MayCall p i 0 → ⊥
may_none p i m = let some = some_in i m.left m.own in let le = m.enough in omega (arith, some, le)

not_again : (p : Program) → HasNoRecursion p → (i : ℕ) (f : Fun) → slice_get p.funs i ≡ Some f → Leads (graph_of p.funs) i i → ⊥
not_again p never i f there l =
    let a = stands p.funs i f there in
    never f.span (record { function = f; among = (i, a.within, a.is); place = refl; reaches = cycle_down p i f l a })

module _ (p : Program) (never : HasNoRecursion p) (i j d : ℕ) (c : CallsAt p i j) (m : MayCall p i (suc d)) where
  step : Has (row_of (graph_of p.funs) i) j
  step = called_at p i j c

  still : (k : ℕ) → Leads (graph_of p.funs) i k → In k (without i m.left m.own)
  still k l = kept i k m.left m.own (λ e. not_again p never i c.caller c.there (subst (λ x. Leads (graph_of p.funs) i x) e l)) (m.led k l)

  pub may_down : MayCall p j d
  may_down = record {
    left = without i m.left m.own;
    enough = let less = one_less i m.left m.own in let le = m.enough in omega (arith, less, le);
    own = still j (directly step);
    led = λ k l. still k (joined (graph_of p.funs) i j k (directly step) l);
  }

led_under : (p : Program) (i j : ℕ) → Leads (graph_of p.funs) i j → j < length p.funs
led_under p i j (directly h) = let lt = closed p.funs i j h in let e = same_length p in omega (arith, lt, e)
led_under p i k (further {j = j} l h) = let lt = closed p.funs j k h in let e = same_length p in omega (arith, lt, e)

pub may_begin : (p : Program) (i d : ℕ) → i < length p.funs → length p.funs ≤ d → MayCall p i d
may_begin p i d lt le = record {
  left = under (length p.funs);
  enough = let e = length_under (length p.funs) in omega (arith, e, le);
  own = in_under (length p.funs) i lt;
  led = λ j l. in_under (length p.funs) j (led_under p i j l);
}
