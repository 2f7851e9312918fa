-- What a name calls is the same at two depths, each of which is deep enough, whatever that is: a depth is more than none, and with each
-- call one less is deep enough.
use Rattle.std.proofs.Common.{◌≡◌, ◌<◌, ℕ, zero, suc, inl, inr, List, [], ◌∷◌, flat_map, get_or, Option, Some, None, refl, sym, ap, ◌∙◌, subst, arith}
use Rattle.std.specs.Prelude.{Contains, slice_get}
use Rattle.std.proofs.lemmas.List.Elements.{Contains-append_left, Contains-append_right}
use Rattle.jz_tree.specs.declared.program.Fun.{Fun}
use Rattle.jz_tree.specs.declared.program.Program.{Program}
use Rattle.jz_meaning.specs.Trees.{done}
use Rattle.jz_type_names.specs.Scopes.{function_named}
use Rattle.jz_type_names.specs.Parts.{called_by, layer_of, statements_of}
use Rattle.jz_types.specs.Numbers.{number_named}
use Rattle.jz_types.specs.Recursion.{CallsAt, IsRanked}
use Rattle.jz_types.proofs.Naming.{named_or_nobody, named_by_number}
use Rattle.jz_types.proofs.Bridge.{found}
use Rattle.jz_meaning.specs.Statements.{Block}
use Rattle.jz_meaning.specs.Runs.{Callee, block, with_tree, callees_of}
use Rattle.jz_run_laws.proofs.SameTrees.{Agree, same_block}

in_flat : {X A : Type 0} (f : X → List A) (xs : List X) (x : X) (a : A) → Contains xs x → Contains (f x) a → Contains (flat_map f xs) a
in_flat f [] x a (k, lt, e) c = absurd (omega (arith, lt))
in_flat f (y ∷ ys) x a (zero, lt, e) c = Contains-append_left (f y) (flat_map f ys) a (subst (λ z. Contains (f z) a) (sym e) c)
in_flat f (y ∷ ys) x a (suc k, lt, e) c = Contains-append_right (f y) (flat_map f ys) a (in_flat f ys x a (k, omega (arith, lt), e) c)

same_number : (o : Option ℕ) (j k : ℕ) → o ≡ Some j → o ≡ Some k → j ≡ k
same_number o j k p q = cc

pub nobody_called : (fs : List Fun) (d : ℕ) (n : List ℕ) → function_named n fs ≡ None → callees_of fs d n ≡ None
nobody_called fs zero n h = refl
nobody_called fs (suc d) n h = ap (with_tree (λ ss. block (callees_of fs d) ss done)) h

abbrev callee : Fun → Block → Option Callee
callee f b = Some (record { of = f; body = b })

called : (fs : List Fun) (d : ℕ) (n : List ℕ) (f : Fun) → function_named n fs ≡ Some f → callees_of fs (suc d) n ≡ callee f (block (callees_of fs d) f.body done)
called fs d n f h = ap (with_tree (λ ss. block (callees_of fs d) ss done)) h

-- what the function at i calls is the same at two depths
abbrev Below : Program → ℕ → ℕ → ℕ → Type 0
Below p d e i = (j : ℕ) → CallsAt p i j → (m : List ℕ) → number_named m p.funs ≡ Some j → callees_of p.funs d m ≡ callees_of p.funs e m

agree : (p : Program) (d e i : ℕ) (f : Fun) → slice_get p.funs i ≡ Some f → Below p d e i → Agree (callees_of p.funs d) (callees_of p.funs e) (statements_of f.body)
agree p d e i f there below = λ s c n k.
    elim (named_or_nobody n.0 p.funs) [
      | inl o ↦ nobody_called p.funs d n.0 o.0 ∙ sym (nobody_called p.funs e n.0 o.0)
      | inr q ↦ below q.number
          (record {
            caller = f;
            there = there;
            name = n;
            among = in_flat (λ s. called_by (layer_of s)) (statements_of f.body) s n c k;
            numbered = q.numbered;
          })
          n.0 q.numbered
    ]

one_deeper : (p : Program) (d e : ℕ) (n : List ℕ) (i : ℕ) → number_named n p.funs ≡ Some i → Below p d e i → callees_of p.funs (suc d) n ≡ callees_of p.funs (suc e) n
one_deeper p d e n i h below =
    let m = named_by_number n p.funs i h in
    let at : m.number ≡ i = same_number (number_named n p.funs) m.number i m.numbered h in
    let there : slice_get p.funs i ≡ Some m.function = subst (λ k. slice_get p.funs k ≡ Some m.function) at (found p.funs m.number m.function m.there) in
    let same = same_block (callees_of p.funs d) (callees_of p.funs e) m.function.body (agree p d e i m.function there below) in
    called p.funs d n m.function m.named ∙ (ap (λ (b : Block → Block). callee m.function (b done)) same ∙ sym (called p.funs e n m.function m.named))

module _ (p : Program) (Deep : ℕ → ℕ → Type 0) (some : (i : ℕ) → Deep i 0 → ⊥) (down : (i j d : ℕ) → CallsAt p i j → Deep i (suc d) → Deep j d) where
  pub same_calls : (d e : ℕ) (n : List ℕ) (i : ℕ) → number_named n p.funs ≡ Some i → Deep i d → Deep i e → callees_of p.funs d n ≡ callees_of p.funs e n
  same_calls zero e n i h x y = absurd (some i x)
  same_calls (suc d) zero n i h x y = absurd (some i y)
  same_calls (suc d) (suc e) n i h x y = one_deeper p d e n i h (λ j c m k. same_calls d e m j k (down i j d c x) (down i j e c y))

-- ---- above the rank
abbrev Above : List ℕ → ℕ → ℕ → Type 0
Above ranks i d = get_or ranks i 0 < d

above_none : (ranks : List ℕ) (i : ℕ) → Above ranks i 0 → ⊥
above_none ranks i lt = omega (arith, lt)

above_down : (p : Program) (ranks : List ℕ) → IsRanked p ranks → (i j d : ℕ) → CallsAt p i j → Above ranks i (suc d) → Above ranks j d
above_down p ranks r i j d c lt = let less = r.falls i j c in omega (arith, less, lt)

pub same_above : (p : Program) (ranks : List ℕ) (n : List ℕ) (i d e : ℕ) → IsRanked p ranks → number_named n p.funs ≡ Some i → get_or ranks i 0 < d → get_or ranks i 0 < e
    → callees_of p.funs d n ≡ callees_of p.funs e n
same_above p ranks n i d e r h x y = same_calls p (Above ranks) (above_none ranks) (above_down p ranks r) d e n i h x y
