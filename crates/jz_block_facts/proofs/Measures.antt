-- How much is known, as a number that falls; and how much there is to walk.
use Rattle.std.proofs.Common.{◌≡◌, ◌⊎◌, inl, inr, ℕ, zero, suc, ◌+◌, ◌<◌, ◌≤◌, List, [], ◌∷◌, ◌++◌, map, length, get_or, Option, Some, None, Bool, true, false, refl, sym, ap, ◌∙◌, subst, arith}
use Rattle.std.specs.Prelude.{cond}
use Rattle.std.specs.Map.{lookup}
use Rattle.indexmap.specs.IndexMap.{IndexMap}
use Rattle.jz_layers.specs.declared.named.Named.{Named}
use Rattle.jz_layers.specs.declared.layers.Layers.{Layers}
use Rattle.jz_layers.specs.Spots.{Spot, same_spot, spot_of, or_below, nowhere, entry_in, over, seen_from, seen_in, Occurs}
use Rattle.jz_layers.specs.Layered.{seen}
use Rattle.jz_layers.proofs.SpotLemmas.{same_spot-true}
use Rattle.jz_tree.specs.declared.expr.Expr.{Expr}
use Rattle.jz_tree.specs.declared.stmt.Stmt.{Stmt}
use Rattle.jz_tree.specs.declared.stmt.StmtKind.{StmtKind}
use Rattle.jz_tree.specs.declared.stmt.StmtKind.TheVariants as kind
use Rattle.jz_tree.specs.declared.stmt.StmtKind.TheOpen.{StmtKind-F}
use Rattle.jz_tree.specs.declared.stmt.StmtKind.TheFolds.{fold-Stmt, fold-StmtKind, fold-roll-Stmt, fold-roll-StmtKind}
use Rattle.jz_fact_sets.specs.declared.knowledge.Knowledge.{Knowledge}
use Rattle.jz_fact_sets.specs.Knowing.{nothing}
use Rattle.jz_fact_sets.specs.Kept.{known_or, known_at}
use Rattle.jz_fact_sets.specs.Meeting.{amount, Falls}

-- ---- what is known

abbrev pub total : List Spot → (Spot → Knowledge) → ℕ
total [] know = 0
total (k ∷ ks) know = amount (know k) + total ks know

total_within : (ks : List Spot) (old new : Spot → Knowledge) → ((k : Spot) → amount (new k) ≤ amount (old k)) → total ks new ≤ total ks old
total_within [] old new h = omega arith
total_within (k ∷ ks) old new h = let x = h k in let y = total_within ks old new h in omega (arith, x, y)

total_less : (ks : List Spot) (old new : Spot → Knowledge) (at : Spot) → Occurs ks at → ((k : Spot) → amount (new k) ≤ amount (old k)) → amount (new at) < amount (old at) → total ks new < total ks old
total_less [] old new at o h l = absurd o
total_less (k ∷ ks) old new at (inl e) h l =
    let x = ap (λ q. amount (new q)) e in
    let y = ap (λ q. amount (old q)) e in
    let z = total_within ks old new h in
    omega (arith, x, y, z, l)
total_less (k ∷ ks) old new at (inr o) h l = let x = h k in let y = total_less ks old new at o h l in omega (arith, x, y)

-- ---- the spots of tables

abbrev pub spots_in : List (Named × Knowledge) → List Spot → List Spot
spots_in [] ks = ks
spots_in (e ∷ es) ks = spot_of e.0 ∷ spots_in es ks

occurs_behind : (es : List (Named × Knowledge)) (ks : List Spot) (k : Spot) → Occurs ks k → Occurs (spots_in es ks) k
occurs_behind [] ks k o = o
occurs_behind (e ∷ es) ks k o = inr (occurs_behind es ks k o)

occurs_by : (b : Bool) (x : Named × Knowledge) (es : List (Named × Knowledge)) (ks : List Spot) (k : Spot) (v : Knowledge) → same_spot k (spot_of x.0) ≡ b
    → (lookup (λ n. same_spot k (spot_of n)) es ≡ Some v → Occurs (spots_in es ks) k)
    → cond b (Some x.1) (lookup (λ n. same_spot k (spot_of n)) es) ≡ Some v → Occurs (spots_in (x ∷ es) ks) k
occurs_by true x es ks k v q on h = inl (sym (same_spot-true k (spot_of x.0) q))
occurs_by false x es ks k v q on h = inr (on h)

occurs_there : (es : List (Named × Knowledge)) (ks : List Spot) (k : Spot) (v : Knowledge) → lookup (λ n. same_spot k (spot_of n)) es ≡ Some v → Occurs (spots_in es ks) k
occurs_there [] ks k v e = absurd (cc e)
occurs_there (x ∷ es) ks k v e = occurs_by (same_spot k (spot_of x.0)) x es ks k v refl (occurs_there es ks k v) e

module _ {S : Type 0} where
  abbrev pub all_spots : List (IndexMap Named Knowledge S) → List Spot
  all_spots [] = []
  all_spots (m ∷ ms) = spots_in m.entries (all_spots ms)

  found_from : (f : Spot → Option Knowledge) (ms : List (IndexMap Named Knowledge S)) (k : Spot) (v : Knowledge) → seen_from f ms k ≡ Some v → Occurs (all_spots ms) k ⊎ (f k ≡ Some v)
  found_from f [] k v e = inr e
  found_from f (m ∷ ms) k v e = by (found_from (over m f) ms k v e)
    where
      at : (o : Option Knowledge) → entry_in m k ≡ o → or_below o (f k) ≡ Some v → Occurs (all_spots (m ∷ ms)) k ⊎ (f k ≡ Some v)
      at None p q = inr q
      at (Some x) p q = inl (occurs_there m.entries (all_spots ms) k x p)

      by : Occurs (all_spots ms) k ⊎ (over m f k ≡ Some v) → Occurs (all_spots (m ∷ ms)) k ⊎ (f k ≡ Some v)
      by (inl o) = inl (occurs_behind m.entries (all_spots ms) k o)
      by (inr h) = at (entry_in m k) refl h

abbrev pub spots_of : Layers Knowledge → List Spot
spots_of s = all_spots (s.top ∷ s.below.items)

known_there : (s : Layers Knowledge) (k : Spot) → 0 < amount (known_at s k) → Occurs (spots_of s) k
known_there s k l = by (seen s k) refl
  where
    none : known_at s k ≡ nothing → Occurs (spots_of s) k
    none e = let x = ap amount e in absurd (omega (arith, x, l))

    at : (o : Option Knowledge) → entry_in s.top k ≡ o → (v : Knowledge) → or_below o (seen_in s.below.items k) ≡ Some v → Occurs (spots_of s) k
    at (Some x) p v e = occurs_there s.top.entries (all_spots s.below.items) k x p
    at None p v e = below (found_from nowhere s.below.items k v e)
      where
        below : Occurs (all_spots s.below.items) k ⊎ (nowhere k ≡ Some v) → Occurs (spots_of s) k
        below (inl o) = occurs_behind s.top.entries (all_spots s.below.items) k o
        below (inr q) = absurd (cc q)

    by : (o : Option Knowledge) → seen s k ≡ o → Occurs (spots_of s) k
    by None e = none (ap known_or e)
    by (Some v) e = at (entry_in s.top k) refl v e

-- what falls was known at first
pub falls_to : (s : Layers Knowledge) (old new : Spot → Knowledge) → ((k : Spot) → amount (old k) ≤ amount (known_at s k)) → Falls old new → total (spots_of s) new < total (spots_of s) old
falls_to s old new h f =
    let l = f.less in
    let m = h f.at in
    let p : 0 < amount (known_at s f.at) = omega (arith, l, m) in
    total_less (spots_of s) old new f.at (known_there s f.at p) f.nowhere_more l

-- ---- statements

abbrev pub add : List ℕ → ℕ
add [] = 0
add (n ∷ ns) = n + add ns

abbrev pub sum_of : Option (List ℕ) → ℕ
sum_of None = 0
sum_of (Some ns) = add ns

abbrev pub kind_weight : StmtKind-F ℕ ℕ → ℕ
kind_weight (StmtKind-F.Assign to op rhs cond) = 1
kind_weight (StmtKind-F.If c a b) = 1 + add a + add b
kind_weight (StmtKind-F.While p c b) = 1 + add p + sum_of b
kind_weight (StmtKind-F.For i from down to b) = 1 + add b
kind_weight (StmtKind-F.Mark xs) = 1

abbrev pub weight : Stmt → ℕ
weight = fold-Stmt _ _ kind_weight (λ s. s.kind)

abbrev pub weights : List Stmt → ℕ
weights ss = add (map weight ss)

abbrev pub body_weight : Option (List Stmt) → ℕ
body_weight None = 0
body_weight (Some ss) = weights ss

weight_kind : StmtKind → ℕ
weight_kind = fold-StmtKind _ _ kind_weight (λ s. s.kind)

weight_is : (s : Stmt) → weight s ≡ weight_kind s.kind
unfolding weight_kind
weight_is s = fold-roll-Stmt _ _ kind_weight (λ s. s.kind) (record { notes = s.notes; span = s.span; kind = s.kind })

pub weight_if : (s : Stmt) (c : Expr) (a b : List Stmt) → s.kind ≡ kind.If c a b → weight s ≡ 1 + weights a + weights b
unfolding weight_kind
weight_if s c a b e = weight_is s ∙ ap weight_kind e ∙ ap weight_kind (sym (kind.rolls-If c a b)) ∙ fold-roll-StmtKind _ _ kind_weight (λ s. s.kind) (StmtKind-F.If c a b)

pub weight_while : (s : Stmt) (p : List Stmt) (c : Expr) (b : Option (List Stmt)) → s.kind ≡ kind.While p c b → weight s ≡ 1 + weights p + body_weight b
unfolding weight_kind
weight_while s p c None e = weight_is s ∙ ap weight_kind e ∙ ap weight_kind (sym (kind.rolls-While p c None)) ∙ fold-roll-StmtKind _ _ kind_weight (λ s. s.kind) (StmtKind-F.While p c None)
weight_while s p c (Some b) e = weight_is s ∙ ap weight_kind e ∙ ap weight_kind (sym (kind.rolls-While p c (Some b))) ∙ fold-roll-StmtKind _ _ kind_weight (λ s. s.kind) (StmtKind-F.While p c (Some b))

pub weights_at : (ss : List Stmt) (i : ℕ) (s : Stmt) → i < length ss → s ≡ get_or ss i s → weight s ≤ weights ss
weights_at [] i s lt e = absurd (omega arith)
weights_at (x ∷ ss) zero s lt e = let h = ap weight e in omega (arith, h)
weights_at (x ∷ ss) (suc i) s lt e = let h = weights_at ss i s (omega arith) e in omega (arith, h)
