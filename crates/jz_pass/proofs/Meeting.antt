-- Two changes with the same cases between them: the composition goes from the first cases to the last.
use Rattle.std.proofs.Common.{◌≡◌, true, false, List, ◌++◌, refl, sym, subst}
use Rattle.jz_change.specs.declared.change.Numbers.{Numbers}
use Rattle.jz_change.specs.Changes.{Change, Changes}
use Rattle.jz_change.specs.Composing.{all_by, behind, first_ops, join_if, join_every, join, join_rounds, compose_of}
use Rattle.jz_pass.specs.Cases.{Cases, no_case, if_case, AreFirst, no_items, one_item, Gives, gives_none, gives_ops, gives_if, gives_arm, gives_while, gives_once, gives_for, gives_unrolled, gives_opened, GiveEach, give_none, give_more, IsBetween}

first_on : {xs ys : List Numbers} {Y Y1 Y2 : Cases} → AreFirst xs Y Y1 → AreFirst ys Y1 Y2 → AreFirst (xs ++ ys) Y Y2
first_on no_items h = h
first_on (one_item g) h = one_item (first_on g h)

first_by : {is : List Numbers} {Y Y2 : Cases} (i : Numbers) → AreFirst is Y Y2 → AreFirst (all_by i is) Y Y2
first_by i no_items = no_items
first_by i (one_item g) = one_item (first_by i g)

-- what is left of the second change, and the cases between
record Taken (is : List Numbers) (b : Change) (Y2 Z Z2 : Cases) : Type 0 where
  mid : Cases
  first : AreFirst (first_ops is b).items Z mid
  rest : Gives (first_ops is b).rest Y2 mid Z2

taken : {is : List Numbers} {b : Change} {Y Y2 Z Z2 : Cases} → AreFirst is Y Y2 → Gives b Y Z Z2 → Taken is b Y2 Z Z2
taken no_items h = record { mid = _; first = no_items; rest = h }
taken (one_item {i} g) (gives_ops k h) = let r = taken g h in record { mid = r.mid; first = first_on (first_by i k) r.first; rest = r.rest }

pub record Joined (a b : Change) (X Y2 Z Z2 : Cases) : Type 0 where
  pub mid : Cases
  pub made : Gives (join a b).change X Z mid
  pub rest : Gives (join a b).rest Y2 mid Z2

-- of what nothing is left
at_end : {b : Change} {Z Z2 : Cases} → Gives b no_case Z Z2 → Z ≡ Z2
at_end gives_none = refl

whole : {a b : Change} {X Z Z2 : Cases} → Joined a b X no_case Z Z2 → Gives (join a b).change X Z Z2
whole {a} {b} {X} {Z} r = subst (Gives (join a b).change X Z) (at_end r.rest) r.made

-- what is joined with a part, whatever it meets
abbrev Meets : Change → Cases → Cases → Cases → Type 0
Meets a X Y Y2 = (b : Change) (Z Z2 : Cases) → Gives b Y Z Z2 → Joined a b X Y2 Z Z2

-- an `if` that the first change keeps
record IfJoined (xs : List Numbers) (i : Numbers) (ta tb r left : Change) (XA XB X Y2 Z Z2 : Cases) : Type 0 where
  mid : Cases
  made : Gives (join_if xs i (join ta) (join tb) left (join r (behind left)).change) (if_case XA XB X) Z mid
  rest : Gives (join r (behind left)).rest Y2 mid Z2

if_joined : {xs : List Numbers} {i : Numbers} {ta tb r left : Change} {XA XB X A B Y1 Y2 Z Z1 Z2 : Cases} → AreFirst xs Z Z1 → Gives left (if_case A B Y1) Z1 Z2 → Meets ta XA A no_case → Meets tb XB B no_case → Meets r X Y1 Y2 → IfJoined xs i ta tb r left XA XB X Y2 Z Z2
if_joined {i} g (gives_if k k1 k2 k3) ca cb cr = let s = cr _ _ _ k3 in record { mid = s.mid; made = gives_if (first_on g (first_by i k)) (whole (ca _ _ _ k1)) (whole (cb _ _ _ k2)) s.made; rest = s.rest }
if_joined {i} g (gives_arm {z = true} k k1 k3) ca cb cr = let s = cr _ _ _ k3 in record { mid = s.mid; made = gives_arm (first_on g (first_by i k)) (whole (ca _ _ _ k1)) s.made; rest = s.rest }
if_joined {i} g (gives_arm {z = false} k k1 k3) ca cb cr = let s = cr _ _ _ k3 in record { mid = s.mid; made = gives_arm (first_on g (first_by i k)) (whole (cb _ _ _ k1)) s.made; rest = s.rest }

-- what stands behind the prologue of a `while`
behind_prologue : {pre pre2 : List Numbers} {b : Change} {P1 Z Z1 Z2 : Cases} (i : Numbers) → AreFirst pre P1 no_case → Gives b P1 Z Z1 → AreFirst pre2 Z1 Z2 → AreFirst ((first_ops pre b).items ++ all_by i pre2) Z Z2
behind_prologue {pre2} {Z2} i g h k = let t = taken g h in first_on t.first (subst (λ y. AreFirst (all_by i pre2) y Z2) (sym (at_end t.rest)) (first_by i k))

-- one change, and then each of these
every : {tb : Change} {ts : Changes} {XB B Z Z2 : Cases} → Meets tb XB B no_case → GiveEach ts B Z Z2 → GiveEach (join_every (join tb) ts) XB Z Z2
every c give_none = give_none
every c (give_more k h) = give_more (whole (c _ _ _ k)) (every c h)

record RoundsJoined (ts : Changes) (b : Change) (XB Y2 Z Z2 : Cases) : Type 0 where
  mid : Cases
  made : GiveEach (join_rounds ts b).changes XB Z mid
  rest : Gives (join_rounds ts b).rest Y2 mid Z2

mutual
  pub joined : {a b : Change} {X Y Y2 Z Z2 : Cases} → Gives a X Y Y2 → Gives b Y Z Z2 → Joined a b X Y2 Z Z2
  joined gives_none h = record { mid = _; made = gives_none; rest = h }
  joined (gives_ops g a) h = let t = taken g h in let r = joined a t.rest in record { mid = r.mid; made = gives_ops t.first r.made; rest = r.rest }
  joined (gives_if {i} g a1 a2 a) h =
      let t = taken g h in let r = if_joined {i = i} t.first t.rest (λ b Z Z2 k. joined a1 k) (λ b Z Z2 k. joined a2 k) (λ b Z Z2 k. joined a k) in
      record { mid = r.mid; made = r.made; rest = r.rest }
  joined (gives_arm g a1 a) h = let t = taken g h in let r1 = joined a1 t.rest in let r = joined a r1.rest in record { mid = r.mid; made = gives_arm t.first r1.made r.made; rest = r.rest }
  joined (gives_while {i} a1 g a2 a) (gives_while k1 k k2 h) =
      let r1 = joined a1 k1 in let r = joined a h in
      record { mid = r.mid; made = gives_while r1.made (behind_prologue i g r1.rest k) (whole (joined a2 k2)) r.made; rest = r.rest }
  joined (gives_while {i} a1 g a2 a) (gives_once k1 k h) =
      let r1 = joined a1 k1 in let r = joined a h in
      record { mid = r.mid; made = gives_once r1.made (behind_prologue i g r1.rest k) r.made; rest = r.rest }
  joined (gives_once a1 g a) h =
      let r1 = joined a1 h in let t = taken g r1.rest in let r = joined a t.rest in record { mid = r.mid; made = gives_once r1.made t.first r.made; rest = r.rest }
  joined (gives_for a1 a) (gives_for k h) = let r = joined a h in record { mid = r.mid; made = gives_for (whole (joined a1 k)) r.made; rest = r.rest }
  joined (gives_for a1 a) (gives_unrolled k h) = let r = joined a h in record { mid = r.mid; made = gives_unrolled (every (λ b Z Z2 x. joined a1 x) k) r.made; rest = r.rest }
  joined (gives_unrolled a1 a) h = let r1 = joined_rounds a1 h in let r = joined a r1.rest in record { mid = r.mid; made = gives_unrolled r1.made r.made; rest = r.rest }
  joined (gives_opened g1 a1 g2 a) h =
      let t = taken g1 h in let r1 = joined a1 t.rest in let u = taken g2 r1.rest in let r = joined a u.rest in
      record { mid = r.mid; made = gives_opened t.first r1.made u.first r.made; rest = r.rest }

  joined_rounds : {ts : Changes} {b : Change} {XB Y Y2 Z Z2 : Cases} → GiveEach ts XB Y Y2 → Gives b Y Z Z2 → RoundsJoined ts b XB Y2 Z Z2
  joined_rounds give_none h = record { mid = _; made = give_none; rest = h }
  joined_rounds (give_more a1 a) h = let r1 = joined a1 h in let r = joined_rounds a r1.rest in record { mid = r.mid; made = give_more r1.made r.made; rest = r.rest }

-- two changes with the same cases between them
pub between_both : {X Y Z : Cases} {a b : Change} → IsBetween X Y a → IsBetween Y Z b → IsBetween X Z (compose_of a b)
between_both f g = whole (joined f g)
