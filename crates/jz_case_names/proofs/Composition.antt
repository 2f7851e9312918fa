-- Two changes with the same items between them: the composition goes from the first items to the last.
use Rattle.std.proofs.Common.{◌≡◌, true, false, List, ◌++◌, refl, sym, subst}
use Rattle.jz_change.specs.declared.change.Numbers.{Numbers}
use Rattle.jz_change.specs.Changes.{Change, Changes}
use Rattle.jz_change.specs.Composing.{numbers_by, all_by, behind, first_ops, join_if, join_every, join, join_rounds, compose_of}
use Rattle.jz_case_names.specs.Items.{Items, no_item, if_item, AreFirst, no_ops, one_op, Gives, gives_none, gives_ops, gives_if, gives_arm, gives_while, gives_once, gives_for, gives_unrolled, gives_opened, GiveEach, give_none, give_more, IsBetween}

first_on : {A B : Type 0} {R : A → Numbers → B → Type 0} {a : A} {xs ys : List Numbers} {Y Y1 Y2 : Items B} → AreFirst R a xs Y Y1 → AreFirst R a ys Y1 Y2 → AreFirst R a (xs ++ ys) Y Y2
first_on no_ops h = h
first_on (one_op x g) h = one_op x (first_on g h)

-- from one relation and then another
module _ {A B C : Type 0} (R : A → Numbers → B → Type 0) (Q : B → Numbers → C → Type 0) (RQ : A → Numbers → C → Type 0) (both : (a : A) (b : B) (c : C) (i j : Numbers) → R a i b → Q b j c → RQ a (numbers_by i j) c) where
  first_by : {a : A} {b : B} {is : List Numbers} {Y Y2 : Items C} (i : Numbers) → R a i b → AreFirst Q b is Y Y2 → AreFirst RQ a (all_by i is) Y Y2
  first_by i x no_ops = no_ops
  first_by {a} {b} i x (one_op {i = j} {b = c} y g) = one_op (both a b c i j x y) (first_by i x g)

  -- what is left of the second change, and the items between
  record Taken (a : A) (is : List Numbers) (k : Change) (Y2 : Items B) (Z Z2 : Items C) : Type 0 where
    mid : Items C
    first : AreFirst RQ a (first_ops is k).items Z mid
    rest : Gives Q (first_ops is k).rest Y2 mid Z2

  taken : {a : A} {is : List Numbers} {k : Change} {Y Y2 : Items B} {Z Z2 : Items C} → AreFirst R a is Y Y2 → Gives Q k Y Z Z2 → Taken a is k Y2 Z Z2
  taken no_ops h = record { mid = _; first = no_ops; rest = h }
  taken (one_op {i} x g) (gives_ops k h) = let r = taken g h in record { mid = r.mid; first = first_on (first_by i x k) r.first; rest = r.rest }

  pub record Joined (s t : Change) (X : Items A) (Y2 : Items B) (Z Z2 : Items C) : Type 0 where
    pub mid : Items C
    pub made : Gives RQ (join s t).change X Z mid
    pub rest : Gives Q (join s t).rest Y2 mid Z2

  -- of what nothing is left
  at_end : {t : Change} {Z Z2 : Items C} → Gives Q t no_item Z Z2 → Z ≡ Z2
  at_end gives_none = refl

  whole : {s t : Change} {X : Items A} {Z Z2 : Items C} → Joined s t X no_item Z Z2 → Gives RQ (join s t).change X Z Z2
  whole {s} {t} {X} {Z} r = subst (Gives RQ (join s t).change X Z) (at_end r.rest) r.made

  -- what is joined with a part, whatever it meets
  abbrev Meets : Change → Items A → Items B → Items B → Type 0
  Meets s X Y Y2 = (t : Change) (Z Z2 : Items C) → Gives Q t Y Z Z2 → Joined s t X Y2 Z Z2

  -- an `if` that the first change keeps
  record IfJoined (xs : List Numbers) (i : Numbers) (ta tb r left : Change) (a : A) (XA XB X : Items A) (Y2 : Items B) (Z Z2 : Items C) : Type 0 where
    mid : Items C
    made : Gives RQ (join_if xs i (join ta) (join tb) left (join r (behind left)).change) (if_item a XA XB X) Z mid
    rest : Gives Q (join r (behind left)).rest Y2 mid Z2

  if_joined : {xs : List Numbers} {i : Numbers} {ta tb r left : Change} {a : A} {b : B} {XA XB X : Items A} {YA YB Y1 Y2 : Items B} {Z Z1 Z2 : Items C}
      → AreFirst RQ a xs Z Z1 → R a i b → Gives Q left (if_item b YA YB Y1) Z1 Z2 → Meets ta XA YA no_item → Meets tb XB YB no_item → Meets r X Y1 Y2 → IfJoined xs i ta tb r left a XA XB X Y2 Z Z2
  if_joined {i} {a} {b} g x (gives_if {i = j} {b = c} k y k1 k2 k3) ca cb cr =
      let s = cr _ _ _ k3 in record { mid = s.mid; made = gives_if (first_on g (first_by i x k)) (both a b c i j x y) (whole (ca _ _ _ k1)) (whole (cb _ _ _ k2)) s.made; rest = s.rest }
  if_joined {i} g x (gives_arm {z = true} k k1 k3) ca cb cr = let s = cr _ _ _ k3 in record { mid = s.mid; made = gives_arm (first_on g (first_by i x k)) (whole (ca _ _ _ k1)) s.made; rest = s.rest }
  if_joined {i} g x (gives_arm {z = false} k k1 k3) ca cb cr = let s = cr _ _ _ k3 in record { mid = s.mid; made = gives_arm (first_on g (first_by i x k)) (whole (cb _ _ _ k1)) s.made; rest = s.rest }

  -- what stands behind the prologue of a `while`
  behind_prologue : {a : A} {b : B} {pre pre2 : List Numbers} {t : Change} {P1 : Items B} {Z Z1 Z2 : Items C} (i : Numbers) → R a i b
      → AreFirst R a pre P1 no_item → Gives Q t P1 Z Z1 → AreFirst Q b pre2 Z1 Z2 → AreFirst RQ a ((first_ops pre t).items ++ all_by i pre2) Z Z2
  behind_prologue {a} {pre2} {Z2} i x g h k = let t = taken g h in first_on t.first (subst (λ y. AreFirst RQ a (all_by i pre2) y Z2) (sym (at_end t.rest)) (first_by i x k))

  -- one change, and then each of these
  every : {tb : Change} {ts : Changes} {XB : Items A} {YB : Items B} {Z Z2 : Items C} → Meets tb XB YB no_item → GiveEach Q ts YB Z Z2 → GiveEach RQ (join_every (join tb) ts) XB Z Z2
  every c give_none = give_none
  every c (give_more k h) = give_more (whole (c _ _ _ k)) (every c h)

  record RoundsJoined (ts : Changes) (t : Change) (XB : Items A) (Y2 : Items B) (Z Z2 : Items C) : Type 0 where
    mid : Items C
    made : GiveEach RQ (join_rounds ts t).changes XB Z mid
    rest : Gives Q (join_rounds ts t).rest Y2 mid Z2

  mutual
    pub joined : {s t : Change} {X : Items A} {Y Y2 : Items B} {Z Z2 : Items C} → Gives R s X Y Y2 → Gives Q t Y Z Z2 → Joined s t X Y2 Z Z2
    joined gives_none h = record { mid = _; made = gives_none; rest = h }
    joined (gives_ops g a) h = let t = taken g h in let r = joined a t.rest in record { mid = r.mid; made = gives_ops t.first r.made; rest = r.rest }
    joined (gives_if {i} g x a1 a2 a) h =
        let t = taken g h in let r = if_joined {i = i} t.first x t.rest (λ b Z Z2 k. joined a1 k) (λ b Z Z2 k. joined a2 k) (λ b Z Z2 k. joined a k) in
        record { mid = r.mid; made = r.made; rest = r.rest }
    joined (gives_arm g a1 a) h = let t = taken g h in let r1 = joined a1 t.rest in let r = joined a r1.rest in record { mid = r.mid; made = gives_arm t.first r1.made r.made; rest = r.rest }
    joined (gives_while {i} {a = n} {b = m} a1 g x a2 a) (gives_while {i = j} {b = c} k1 k y k2 h) =
        let r1 = joined a1 k1 in let r = joined a h in
        record { mid = r.mid; made = gives_while r1.made (behind_prologue i x g r1.rest k) (both n m c i j x y) (whole (joined a2 k2)) r.made; rest = r.rest }
    joined (gives_while {i} a1 g x a2 a) (gives_once k1 k h) =
        let r1 = joined a1 k1 in let r = joined a h in
        record { mid = r.mid; made = gives_once r1.made (behind_prologue i x g r1.rest k) r.made; rest = r.rest }
    joined (gives_once a1 g a) h =
        let r1 = joined a1 h in let t = taken g r1.rest in let r = joined a t.rest in record { mid = r.mid; made = gives_once r1.made t.first r.made; rest = r.rest }
    joined (gives_for a1 a) (gives_for k h) = let r = joined a h in record { mid = r.mid; made = gives_for (whole (joined a1 k)) r.made; rest = r.rest }
    joined (gives_for a1 a) (gives_unrolled k h) = let r = joined a h in record { mid = r.mid; made = gives_unrolled (every (λ b Z Z2 x. joined a1 x) k) r.made; rest = r.rest }
    joined (gives_unrolled a1 a) h = let r1 = joined_rounds a1 h in let r = joined a r1.rest in record { mid = r.mid; made = gives_unrolled r1.made r.made; rest = r.rest }
    joined (gives_opened g1 a1 g2 a) h =
        let t = taken g1 h in let r1 = joined a1 t.rest in let u = taken g2 r1.rest in let r = joined a u.rest in
        record { mid = r.mid; made = gives_opened t.first r1.made u.first r.made; rest = r.rest }

    joined_rounds : {ts : Changes} {t : Change} {XB : Items A} {Y Y2 : Items B} {Z Z2 : Items C} → GiveEach R ts XB Y Y2 → Gives Q t Y Z Z2 → RoundsJoined ts t XB Y2 Z Z2
    joined_rounds give_none h = record { mid = _; made = give_none; rest = h }
    joined_rounds (give_more a1 a) h = let r1 = joined a1 h in let r = joined_rounds a r1.rest in record { mid = r.mid; made = give_more r1.made r.made; rest = r.rest }

  -- two changes with the same items between them
  pub between_both : {X : Items A} {Y : Items B} {Z : Items C} {s t : Change} → IsBetween R X Y s → IsBetween Q Y Z t → IsBetween RQ X Z (compose_of s t)
  between_both f g = whole (joined f g)
