-- Parameters that have their bits, one after another.
use Rattle.std.proofs.Common.{◌≡◌, ℕ, ◌+◌, ◌-◌, ◌/◌, ◌%◌, ◌<◌, ◌≤◌, List, [], ◌∷◌, length, drop, Bool, true, false, refl, ap, sym, ◌∙◌, min, arith, if◌then◌else◌}
use Rattle.std.specs.Prelude.{◌==◌, ◌&&◌, ◌||◌, get_or}
use Rattle.std.proofs.Math.ListN.{drop_of_length-le}
use Rattle.std.proofs.lemmas.List.{at_drop_more}
use Rattle.jz_meaning.specs.States.{Key, same_key}
use Rattle.jz_facts.specs.Facts.{hi_of}
use Rattle.jz_fact_sets.specs.declared.given.Parameter.{Parameter}
use Rattle.jz_layers.specs.Spots.{variable_key}
use Rattle.jz_fact_sets.specs.Kept.{start_of, is_named, one_below, below_all}

module _ (ps : List Parameter) (i : ℕ) (p : Parameter) (l : i < length ps) (e : p ≡ get_or ps i p) where
  named_here : (bits : ℕ) (x : Key) → is_named (drop i ps) bits x ≡ (((bits % 2 == 1) && same_key (variable_key p.var) x) || is_named (drop (i + 1) ps) (bits / 2) x)
  named_here bits x =
      at_drop_more (λ qs. is_named qs bits x) ps i p l
      ∙ ap (λ (q : Parameter). ((bits % 2 == 1) && same_key (variable_key q.var) x) || is_named (drop (i + 1) ps) (bits / 2) x) (sym e)

  pub named_yes : (bits : ℕ) (x : Key) → ((bits % 2 == 1) && same_key (variable_key p.var) x) ≡ true → true ≡ is_named (drop i ps) bits x
  named_yes bits x h = sym (named_here bits x ∙ ap (λ b. b || is_named (drop (i + 1) ps) (bits / 2) x) h)

  pub named_no : (bits : ℕ) (x : Key) → ((bits % 2 == 1) && same_key (variable_key p.var) x) ≡ false → is_named (drop (i + 1) ps) (bits / 2) x ≡ is_named (drop i ps) bits x
  named_no bits x h = sym (named_here bits x ∙ ap (λ b. b || is_named (drop (i + 1) ps) (bits / 2) x) h)

pub named_end : (ps : List Parameter) (i bits : ℕ) (x : Key) → length ps ≤ i → false ≡ is_named (drop i ps) bits x
named_end ps i bits x l = sym (ap (λ qs. is_named qs bits x) (drop_of_length-le ps l))

-- ---- the least of their ends

lower_first : (a b c : ℕ) → min a (min b c) ≡ min b (min a c)
lower_first a b c = omega arith

module _ (all : List Parameter) (bits : ℕ) where
  below_min : (h m : ℕ) (ds : List Parameter) → below_all all bits (min h m) ds ≡ min h (below_all all bits m ds)
  below_min h m [] = refl
  below_min h m (p ∷ ps) = by (is_named all bits (variable_key p.var)) (below_min h m ps)
    where
      by : (c : Bool) → below_all all bits (min h m) ps ≡ min h (below_all all bits m ps)
          → (if c then min (hi_of (start_of p) - 1) (below_all all bits (min h m) ps) else below_all all bits (min h m) ps)
          ≡ min h (if c then min (hi_of (start_of p) - 1) (below_all all bits m ps) else below_all all bits m ps)
      by true k = ap (min (hi_of (start_of p) - 1)) k ∙ lower_first (hi_of (start_of p) - 1) h (below_all all bits m ps)
      by false k = k

  one_more : (p : Parameter) (m : ℕ) (ds : List Parameter) → below_all all bits (one_below all bits p m) ds ≡ one_below all bits p (below_all all bits m ds)
  one_more p m ds = by (is_named all bits (variable_key p.var))
    where
      by : (c : Bool) → below_all all bits (if c then min (hi_of (start_of p) - 1) m else m) ds ≡ (if c then min (hi_of (start_of p) - 1) (below_all all bits m ds) else below_all all bits m ds)
      by true = below_min (hi_of (start_of p) - 1) m ds
      by false = refl

  pub below_next : (ps : List Parameter) (i : ℕ) (p : Parameter) (m n : ℕ) → i < length ps → p ≡ get_or ps i p → n ≡ one_below all bits p m → below_all all bits n (drop (i + 1) ps) ≡ below_all all bits m (drop i ps)
  below_next ps i p m n l e h =
      ap (λ k. below_all all bits k (drop (i + 1) ps)) h
      ∙ one_more p m (drop (i + 1) ps)
      ∙ ap (λ (q : Parameter). one_below all bits q (below_all all bits m (drop (i + 1) ps))) e
      ∙ sym (at_drop_more (λ qs. below_all all bits m qs) ps i p l)

  pub below_end : (ps : List Parameter) (i m : ℕ) → length ps ≤ i → m ≡ below_all all bits m (drop i ps)
  below_end ps i m l = sym (ap (below_all all bits m) (drop_of_length-le ps l))
