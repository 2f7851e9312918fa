-- The earliest function that reaches itself, among those above one.
use Rattle.std.proofs.Common.{◌≡◌, ℕ, ◌<◌, ◌+◌, ◌⊎◌, inl, inr, Bool, true, false, not, List, Option, None, length, get_or, refl, sym, subst, arith}
use Rattle.std.specs.Prelude.{◌↔◌, IsTrue}
use Rattle.jz_tree.specs.Span.{Span}
use Rattle.jz_tree.specs.declared.program.Fun.{Fun}
use Rattle.jz_tree.specs.declared.program.Program.{Program}
use Rattle.jz_type_names.specs.Order.{earlier, earliest, unless, IsEarliest, nowhere, here}
use Rattle.jz_type_storage.specs.Recursion.{IsRecursive}
use Rattle.jz_type_storage.specs.InnerNumbers.{graph_of, Leads}
use Rattle.jz_type_storage.proofs.Naming.{At}
use Rattle.jz_type_names.proofs.Firsts.{same_wrong, earlier_of_two}
use Rattle.jz_type_storage.proofs.Bridge.{at_same, cycle_down, cycle_up}

pub record Cyclic (g : List (List ℕ)) (fs : List Fun) (k : ℕ) (at : Span) : Type 0 where
  pub number : ℕ
  pub below : number < k
  pub function : Fun
  pub there : At fs number function
  pub place : function.span ≡ at
  pub leads : Leads g number number

-- one function
abbrev One : List (List ℕ) → ℕ → Fun → Span → Type 0
One g i f at = (f.span ≡ at) × Leads g i i

pub cyclic_none : (g : List (List ℕ)) (fs : List Fun) → IsEarliest (Cyclic g fs 0) None
cyclic_none g fs = nowhere (λ at c. let lt = c.below in omega (arith, lt))

more_to : (g : List (List ℕ)) (fs : List Fun) (i : ℕ) (f : Fun) (at : Span) → At fs i f → Cyclic g fs i at ⊎ One g i f at → Cyclic g fs (i + 1) at
more_to g fs i f at a (inl c) = record {
  number = c.number;
  below = let lt = c.below in omega (arith, lt);
  function = c.function;
  there = c.there;
  place = c.place;
  leads = c.leads;
}
more_to g fs i f at a (inr o) = record { number = i; below = omega arith; function = f; there = a; place = o.0; leads = o.1 }

below_or_not : (i k : ℕ) → k < i + 1 → (k < i) ⊎ (k ≡ i)
below_or_not i k h = grind arith

more_from : (g : List (List ℕ)) (fs : List Fun) (i : ℕ) (f : Fun) (at : Span) → At fs i f → Cyclic g fs (i + 1) at → Cyclic g fs i at ⊎ One g i f at
more_from g fs i f at a c = elim (below_or_not i c.number c.below) [
  | inl lt ↦ inl (record { number = c.number; below = lt; function = c.function; there = c.there; place = c.place; leads = c.leads })
  | inr e ↦ inr (
    subst (λ h. h.span ≡ at) (at_same fs i c.function f (subst (λ k. At fs k c.function) e c.there) a) c.place,
    subst (λ k. Leads g k k) e c.leads,
  )
]

one_is : (g : List (List ℕ)) (i : ℕ) (f : Fun) (b : Bool) → IsTrue b ↔ Leads g i i → IsEarliest (One g i f) (earliest (unless (not b) f.span))
one_is g i f true h = here (refl, h.0 refl) (λ there o. inr o.0)
one_is g i f false h = nowhere (λ at o. let t : IsTrue false = h.1 o.1 in absurd cc)

pub cyclic_more : (g : List (List ℕ)) (fs : List Fun) (i : ℕ) (f : Fun) (b : Bool) (best r next : Option Span)
    → i < length fs → f ≡ get_or fs i f → IsEarliest (Cyclic g fs i) best → IsTrue b ↔ Leads g i i
    → r ≡ earliest (unless (not b) f.span) → next ≡ earlier best r → IsEarliest (Cyclic g fs (i + 1)) next
cyclic_more g fs i f b best r next lt is held asked one e =
    let a : At fs i f = record { within = lt; is = sym is }
    in let own : IsEarliest (One g i f) r = subst (IsEarliest (One g i f)) (sym one) (one_is g i f b asked)
    in let both = earlier_of_two (Cyclic g fs i) (One g i f) best r held own
    in subst (IsEarliest (Cyclic g fs (i + 1))) (sym e)
    (same_wrong _ (Cyclic g fs (i + 1)) (λ at. (more_to g fs i f at a, more_from g fs i f at a)) (earlier best r) both)

in_program : (p : Program) (at : Span) → Cyclic (graph_of p.funs) p.funs (length p.funs) at ↔ IsRecursive p at
in_program p at = (
  λ c. record {
    function = c.function;
    among = (c.number, c.there.within, c.there.is);
    place = c.place;
    reaches = cycle_down p c.number c.function c.leads c.there;
  },
  λ r.
      let j = cycle_up p r.among.0 r.function r.reaches (record { within = r.among.1; is = r.among.2 })
      in record { number = j.number; below = j.there.within; function = r.function; there = j.there; place = r.place; leads = j.leads },
)

pub cyclic_all : (p : Program) (fs : List Fun) (i : ℕ) (best : Option Span)
    → fs ≡ p.funs → i ≡ length fs → IsEarliest (Cyclic (graph_of p.funs) fs i) best → IsEarliest (IsRecursive p) best
cyclic_all p fs i best f n held =
    let h1 : IsEarliest (Cyclic (graph_of p.funs) fs (length fs)) best = subst (λ k. IsEarliest (Cyclic (graph_of p.funs) fs k) best) n held
    in let h2 : IsEarliest (Cyclic (graph_of p.funs) p.funs (length p.funs)) best = subst (λ gs. IsEarliest (Cyclic (graph_of p.funs) gs (length gs)) best) f h1
    in same_wrong _ _ (in_program p) best h2
