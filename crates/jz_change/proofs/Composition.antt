-- A leak that fits a change, and whose change fits another, fits their composition, and this makes of it what one change makes of what
-- the other makes of it.
use Rattle.std.proofs.Common.{◌≡◌, ℕ, Bool, true, false, if◌then◌else◌, List, ◌++◌, refl, sym, ap, ◌∙◌}
use Rattle.jz_leak.specs.RunLeaks.{Leak, over, chose, chose_cut, looped, looped_cut, each, each_cut, Turns, prologue_cut, Rounds, round_cut}
use Rattle.jz_leak.specs.Applying.{is_cut, is_cut_in_turns, is_cut_in_rounds}
use Rattle.jz_change.specs.declared.change.Numbers.{Numbers}
use Rattle.jz_change.specs.Changes.{numbers_in, Change, Changes, operations, map_before, map_turns, map_once, map_each, map_rounds, map_of}
use Rattle.jz_change.specs.Fitting.{HasThese, HasAll, LeakFits, fits_over, fits_ran, fits_if, fits_if_cut, fits_arm, fits_arm_cut, fits_while, fits_while_cut, fits_once, fits_once_cut, fits_for, fits_for_cut, fits_unrolled, fits_unrolled_cut, fits_opened, fits_opened_cut, LeakTurnsFit, turns_left, turns_turn, turns_prologue_cut, turns_wanted, turns_body_cut, LeakOnceFits, once_left, once_cut, LeakEachFits, same_none, same_round, same_cut, LeakRoundsFit, own_none, own_round, own_cut}
use Rattle.jz_change.specs.Composing.{numbers_by, all_by, first_ops, JoinedChange, JoinedRounds, join_if, join_every, join_first, join, join_rounds, compose_of, Composes}
use Rattle.jz_change.proofs.Operations.{numbers_so, both_so, these_there, both_there, ops_taken}

-- ---- nothing is behind a cut

mutual
  cut_next : {l : Leak} {t : Change} → LeakFits l t → is_cut l ≡ true → (x y : Leak) → map_before l t x ≡ map_before l t y
  cut_next fits_over h x y = absurd cc
  cut_next (fits_ran {ns} {is} g f) h x y = ap (operations is ns) (cut_next f h x y)
  cut_next (fits_if {ns} {z} {a} {pre} {i} {ta} {tb} g t w f f2) h x y = ap (λ k. operations pre ns (chose (numbers_in i ns) z (map_before a (if z then ta else tb) over) k)) (cut_next f2 h x y)
  cut_next (fits_if_cut g t w f) h x y = refl
  cut_next (fits_arm {ns} {a} {pre} {ta} g w f f2) h x y = ap (λ k. operations pre ns (map_before a ta k)) (cut_next f2 h x y)
  cut_next (fits_arm_cut g w f) h x y = refl
  cut_next (fits_while {ts} {pre} {i} {tp} {tb} w f f2) h x y = ap (looped (map_turns ts tp pre i tb)) (cut_next f2 h x y)
  cut_next (fits_while_cut w f) h x y = refl
  cut_next (fits_once {ts} {pre} {tp} w o f2) h x y = ap (map_once ts tp pre) (cut_next f2 h x y)
  cut_next (fits_once_cut w o) h x y = refl
  cut_next (fits_for {rs} {tb} w f f2) h x y = ap (each (map_each rs tb)) (cut_next f2 h x y)
  cut_next (fits_for_cut w f) h x y = refl
  cut_next (fits_unrolled {rs} {ts} w f f2) h x y = ap (map_rounds rs ts) (cut_next f2 h x y)
  cut_next (fits_unrolled_cut w f) h x y = refl
  cut_next (fits_opened {ns} {ms} {b} {xs} {ys} {tb} g w f g2 f2) h x y = ap (λ k. operations xs ns (map_before b tb (operations ys ms k))) (cut_next f2 h x y)
  cut_next (fits_opened_cut g w f) h x y = refl

-- nor behind a cut turn or round
once_next : {ts : Turns} {tp : Change} {pre : List Numbers} → LeakOnceFits ts tp pre → is_cut_in_turns ts ≡ true → (x y : Leak) → map_once ts tp pre x ≡ map_once ts tp pre y
once_next (once_left g w f) h x y = absurd cc
once_next (once_cut w f) h x y = refl

rounds_next : {rs : Rounds} {ts : Changes} → LeakRoundsFit rs ts → is_cut_in_rounds rs ≡ true → (x y : Leak) → map_rounds rs ts x ≡ map_rounds rs ts y
rounds_next own_none h x y = absurd cc
rounds_next (own_round {a} {t} w f f2) h x y = ap (map_before a t) (rounds_next f2 h x y)
rounds_next (own_cut w f) h x y = refl

-- ---- what is owed of a leak l, before k, of which a change and the steps of another make m

pub record Joins (l k : Leak) (m : Leak → Leak) (j : JoinedChange) : Type 0 where
  pub fits : LeakFits l j.change
  pub more_fits : is_cut l ≡ false → LeakFits k j.rest
  pub maps : (z : Leak) → m z ≡ map_before l j.change (map_before k j.rest z)

-- the same of what makes the same
behind_ops : {l k : Leak} {m m2 : Leak → Leak} {j : JoinedChange} → ((z : Leak) → m z ≡ m2 z) → Joins l k m2 j → Joins l k m j
behind_ops e s = record { fits = s.fits; more_fits = s.more_fits; maps = λ z. e z ∙ s.maps z }

-- ---- an `if` that the first change keeps

abbrev ArmJoins : Leak → Leak → (Change → JoinedChange) → Type 0
ArmJoins a a1 j = (c : Change) → LeakFits a1 c → Joins a over (map_before a1 c) (j c)

record ArmsJoin (z : Bool) (a a1 : Leak) (ja jb : Change → JoinedChange) (ta tb : Change) : Type 0 where
  fits : LeakFits a (if z then (ja ta).change else (jb tb).change)
  maps : map_before a1 (if z then ta else tb) over ≡ map_before a (if z then (ja ta).change else (jb tb).change) over

arms_join : (z : Bool) (a a1 : Leak) (ja jb : Change → JoinedChange) (ta tb : Change) → ArmJoins a a1 (if z then ja else jb) → LeakFits a1 (if z then ta else tb) → ArmsJoin z a a1 ja jb ta tb
arms_join true a a1 ja jb ta tb arms h = let s = arms ta h in record { fits = s.fits; maps = s.maps over }
arms_join false a a1 ja jb ta tb arms h = let s = arms tb h in record { fits = s.fits; maps = s.maps over }

pick : (z : Bool) (ta tb : Change) (P : (Change → JoinedChange) → Type 0) → P (join (if z then ta else tb)) → P (if z then join ta else join tb)
pick true ta tb P p = p
pick false ta tb P p = p

if_joins : {b : Change} (ns : List ℕ) (i : Numbers) (xs : List Numbers) (z : Bool) (a a1 l k k2 : Leak) (ja jb jr : Change → JoinedChange)
    → HasAll ns xs → HasThese ns i → is_cut a ≡ false → ArmJoins a a1 (if z then ja else jb) → ((c : Change) → LeakFits k2 c → Joins l k (map_before k2 c) (jr c)) → LeakFits (chose (numbers_in i ns) z a1 k2) b
    → Joins (chose ns z a l) k (λ y. operations xs ns (map_before (chose (numbers_in i ns) z a1 k2) b y)) (join_first jr (join_if xs i ja jb) b)
if_joins ns i xs z a a1 l k k2 ja jb jr t u w arms next (fits_if {pre} {i = j} {ta} {tb} {r} g t2 w2 f f2) =
    let p = arms_join z a a1 ja jb ta tb arms f in let s = next r f2 in
    record {
      fits = fits_if (both_there ns xs i pre t u g) (these_there ns i j u t2) w p.fits s.fits;
      more_fits = s.more_fits;
      maps = λ y.
          both_so xs pre i ns (chose (numbers_in j (numbers_in i ns)) z (map_before a1 (if z then ta else tb) over) (map_before k2 r y))
          ∙ ap (operations (xs ++ all_by i pre) ns) (let e = numbers_so i j ns in let d = p.maps in let x = s.maps y in rw (e, d, x));
    }
if_joins ns i xs z a a1 l k k2 ja jb jr t u w arms next (fits_arm {pre} {ta} {r} g w2 f f2) =
    let p = arms ta f in let s = next r f2 in
    record {
      fits = fits_arm (both_there ns xs i pre t u g) w p.fits s.fits;
      more_fits = s.more_fits;
      maps = λ y. both_so xs pre i ns _ ∙ ap (operations (xs ++ all_by i pre) ns) (p.maps _ ∙ ap (map_before a ((if z then ja else jb) ta).change) (s.maps y));
    }

if_cut_joins : {b : Change} (ns : List ℕ) (i : Numbers) (xs : List Numbers) (z : Bool) (a a1 k : Leak) (ja jb jr : Change → JoinedChange)
    → HasAll ns xs → HasThese ns i → is_cut a ≡ true → ArmJoins a a1 (if z then ja else jb) → LeakFits (chose_cut (numbers_in i ns) z a1) b
    → Joins (chose_cut ns z a) k (λ y. operations xs ns (map_before (chose_cut (numbers_in i ns) z a1) b y)) (join_first jr (join_if xs i ja jb) b)
if_cut_joins ns i xs z a a1 k ja jb jr t u w arms (fits_if_cut {pre} {i = j} {ta} {tb} g t2 w2 f) =
    let p = arms_join z a a1 ja jb ta tb arms f in
    record {
      fits = fits_if_cut (both_there ns xs i pre t u g) (these_there ns i j u t2) w p.fits;
      more_fits = λ e. absurd cc;
      maps = λ y. both_so xs pre i ns _ ∙ ap (operations (xs ++ all_by i pre) ns) (let e = numbers_so i j ns in let d = p.maps in rw (e, d));
    }
if_cut_joins ns i xs z a a1 k ja jb jr t u w arms (fits_arm_cut {pre} {ta} g w2 f) =
    let p = arms ta f in
    record {
      fits = fits_arm_cut (both_there ns xs i pre t u g) w p.fits;
      more_fits = λ e. absurd cc;
      maps = λ y. both_so xs pre i ns _ ∙ ap (operations (xs ++ all_by i pre) ns) (p.maps over);
    }

-- ---- the turns of a `while`, and rounds

record TurnsJoin (ts : Turns) (tp2 : Change) (pre2 : List Numbers) (j : Numbers) (tb2 : Change) (ts1 : Turns) (tp : Change) (pre : List Numbers) (i : Numbers) (tb : Change) : Type 0 where
  fits : LeakTurnsFit ts tp pre i tb
  maps : map_turns ts1 tp2 pre2 j tb2 ≡ map_turns ts tp pre i tb

record OnceJoins (ts ts1 : Turns) (tp2 : Change) (pre2 : List Numbers) (tp : Change) (pre : List Numbers) : Type 0 where
  fits : LeakOnceFits ts tp pre
  maps : (z : Leak) → map_once ts1 tp2 pre2 z ≡ map_once ts tp pre z

record EachJoins (rs rs1 : Rounds) (tb2 tb : Change) : Type 0 where
  fits : LeakEachFits rs tb
  maps : map_each rs1 tb2 ≡ map_each rs tb

record EveryJoins (rs rs1 : Rounds) (ts2 ts : Changes) : Type 0 where
  fits : LeakRoundsFit rs ts
  maps : (z : Leak) → map_rounds rs1 ts2 z ≡ map_rounds rs ts z

record RoundsJoin (rs : Rounds) (k : Leak) (m : Leak → Leak) (j : JoinedRounds) : Type 0 where
  fits : LeakRoundsFit rs j.changes
  more_fits : is_cut_in_rounds rs ≡ false → LeakFits k j.rest
  maps : (z : Leak) → m z ≡ map_rounds rs j.changes (map_before k j.rest z)

-- the prologue of a turn, the operations that the first change has behind it, and those of the second
record HeadJoins (ns : List ℕ) (i : Numbers) (pre2 : List Numbers) (p : Leak) (m : Leak → Leak) (tp : Change) (pre : List Numbers) : Type 0 where
  there : HasAll ns (pre ++ all_by i pre2)
  fits : LeakFits p tp
  maps : (z : Leak) → m (operations pre2 (numbers_in i ns) z) ≡ map_before p tp (operations (pre ++ all_by i pre2) ns z)

head_joins : {m : Leak → Leak} {q : JoinedChange} (ns : List ℕ) (pre pre2 : List Numbers) (i : Numbers) (p : Leak)
    → HasAll ns pre → HasThese ns i → HasAll (numbers_in i ns) pre2 → is_cut p ≡ false → Joins p (operations pre ns over) m q → HeadJoins ns i pre2 p m q.change (first_ops pre q.rest).items
head_joins {q} ns pre pre2 i p g u g2 w s =
    let t = ops_taken pre ns over g (s.more_fits w) in
    let os = (first_ops pre q.rest).items in
    record {
      there = both_there ns os i pre2 t.there u g2;
      fits = s.fits;
      maps = λ z. s.maps (operations pre2 (numbers_in i ns) z) ∙ ap (map_before p q.change) (t.maps (operations pre2 (numbers_in i ns) z) ∙ both_so os pre2 i ns z);
    }

-- ---- the law

mutual
  pub joins : {l : Leak} {a b : Change} → LeakFits l a → (k : Leak) → LeakFits (map_before l a k) b → Joins l k (map_before (map_before l a k) b) (join a b)
  joins fits_over k h = record { fits = fits_over; more_fits = λ w. h; maps = λ z. refl }
  joins {b} (fits_ran {ns} {l} {is} {r} g f) k h =
      let t = ops_taken is ns (map_before l r k) g h in
      let s = joins f k t.fits in
      record { fits = fits_ran t.there s.fits; more_fits = s.more_fits; maps = λ z. t.maps z ∙ ap (operations (first_ops is b).items ns) (s.maps z) }
  joins {b} (fits_if {ns} {z} {a} {l} {pre} {i} {ta} {tb} {r} g u w f f2) k h =
      let a1 = map_before a (if z then ta else tb) over in
      let t = ops_taken pre ns (chose (numbers_in i ns) z a1 (map_before l r k)) g h in
      behind_ops t.maps
      (if_joins ns i (first_ops pre b).items z a a1 l k (map_before l r k) (join ta) (join tb) (join r) t.there u w (pick z ta tb (ArmJoins a a1) (λ c e. joins f over e)) (λ c e. joins f2 k e) t.fits)
  joins {b} (fits_if_cut {ns} {z} {a} {pre} {i} {ta} {tb} {r} g u w f) k h =
      let a1 = map_before a (if z then ta else tb) over in
      let t = ops_taken pre ns (chose_cut (numbers_in i ns) z a1) g h in
      behind_ops t.maps
      (if_cut_joins ns i (first_ops pre b).items z a a1 k (join ta) (join tb) (join r) t.there u w (pick z ta tb (ArmJoins a a1) (λ c e. joins f over e)) t.fits)
  joins {b} (fits_arm {ns} {a} {l} {pre} {ta} {r} g w f f2) k h =
      let t = ops_taken pre ns (map_before a ta (map_before l r k)) g h in
      let s = joins f (map_before l r k) t.fits in
      let s2 = joins f2 k (s.more_fits w) in
      record {
        fits = fits_arm t.there w s.fits s2.fits;
        more_fits = s2.more_fits;
        maps = λ y. t.maps y ∙ ap (operations (first_ops pre b).items ns) (s.maps y ∙ ap (map_before a (join ta (first_ops pre b).rest).change) (s2.maps y));
      }
  joins {b} (fits_arm_cut {ns} {a} {pre} {ta} g w f) k h =
      let t = ops_taken pre ns (map_before a ta over) g h in
      let s = joins f over t.fits in
      record {
        fits = fits_arm_cut t.there w s.fits;
        more_fits = λ e. absurd cc;
        maps = λ y. t.maps y ∙ ap (operations (first_ops pre b).items ns) (s.maps y ∙ cut_next s.fits w y over);
      }
  joins (fits_while w f f2) k (fits_while w2 h h2) =
      let q = turns_join f h in let s = joins f2 k h2 in
      record { fits = fits_while w q.fits s.fits; more_fits = s.more_fits; maps = λ z. let x = q.maps in let y = s.maps z in rw (x, y) }
  joins (fits_while {ts} {pre} {i} {tp} w f f2) k (fits_once {pre = pre2} {tp = tp2} w2 h h2) =
      let q = once_joins f h in let s = joins f2 k h2 in
      record {
        fits = fits_once w q.fits s.fits;
        more_fits = s.more_fits;
        maps = λ z. q.maps _ ∙ ap (map_once ts (join tp tp2).change ((first_ops pre (join tp tp2).rest).items ++ all_by i pre2)) (s.maps z);
      }
  joins (fits_while_cut w f) k (fits_while_cut w2 h) =
      let q = turns_join f h in
      record { fits = fits_while_cut w q.fits; more_fits = λ e. absurd cc; maps = λ z. ap looped_cut q.maps }
  joins (fits_while_cut w f) k (fits_once_cut w2 h) =
      let q = once_joins f h in
      record { fits = fits_once_cut w q.fits; more_fits = λ e. absurd cc; maps = λ z. q.maps over }
  joins {b} (fits_once {l} {r} w (once_left {p} {ns} {tp} {pre} g w2 f) f2) k h =
      let s = joins f (operations pre ns (map_before l r k)) h in
      let t = ops_taken pre ns (map_before l r k) g (s.more_fits w2) in
      let s2 = joins f2 k t.fits in
      record {
        fits = fits_once w (once_left t.there w2 s.fits) s2.fits;
        more_fits = s2.more_fits;
        maps = λ z. s.maps z ∙ ap (map_before p (join tp b).change) (t.maps z ∙ ap (operations (first_ops pre (join tp b).rest).items ns) (s2.maps z));
      }
  joins (fits_once w (once_cut w2 f) f2) k h = absurd cc
  joins (fits_once_cut w (once_left g w2 f)) k h = absurd cc
  joins (fits_once_cut w (once_cut w2 f)) k h =
      let s = joins f over h in
      record { fits = fits_once_cut w (once_cut w2 s.fits); more_fits = λ e. absurd cc; maps = λ z. s.maps z ∙ cut_next s.fits w2 z over }
  joins (fits_for w f f2) k (fits_for w2 h h2) =
      let q = each_joins f h in let s = joins f2 k h2 in
      record { fits = fits_for w q.fits s.fits; more_fits = s.more_fits; maps = λ z. let x = q.maps in let y = s.maps z in rw (x, y) }
  joins (fits_for {rs} {tb} w f f2) k (fits_unrolled {ts = ts2} w2 h h2) =
      let q = every_joins f h in let s = joins f2 k h2 in
      record { fits = fits_unrolled w q.fits s.fits; more_fits = s.more_fits; maps = λ z. q.maps _ ∙ ap (map_rounds rs (join_every (join tb) ts2)) (s.maps z) }
  joins (fits_for_cut w f) k (fits_for_cut w2 h) =
      let q = each_joins f h in
      record { fits = fits_for_cut w q.fits; more_fits = λ e. absurd cc; maps = λ z. ap each_cut q.maps }
  joins (fits_for_cut w f) k (fits_unrolled_cut w2 h) =
      let q = every_joins f h in
      record { fits = fits_unrolled_cut w q.fits; more_fits = λ e. absurd cc; maps = λ z. q.maps over }
  joins {b} (fits_unrolled {rs} {l} {ts} {r} w f f2) k h =
      let q = rounds_join f (map_before l r k) h in
      let s = joins f2 k (q.more_fits w) in
      record { fits = fits_unrolled w q.fits s.fits; more_fits = s.more_fits; maps = λ z. q.maps z ∙ ap (map_rounds rs (join_rounds ts b).changes) (s.maps z) }
  joins (fits_unrolled_cut w f) k h =
      let q = rounds_join f over h in
      record { fits = fits_unrolled_cut w q.fits; more_fits = λ e. absurd cc; maps = λ z. q.maps z ∙ rounds_next q.fits w z over }
  joins {b} (fits_opened {ns} {ms} {b = lb} {l} {xs} {ys} {tb} {r} g w f g2 f2) k h =
      let t = ops_taken xs ns (map_before lb tb (operations ys ms (map_before l r k))) g h in
      let s = joins f (operations ys ms (map_before l r k)) t.fits in
      let u = ops_taken ys ms (map_before l r k) g2 (s.more_fits w) in
      let s2 = joins f2 k u.fits in
      let j = join tb (first_ops xs b).rest in
      record {
        fits = fits_opened t.there w s.fits u.there s2.fits;
        more_fits = s2.more_fits;
        maps = λ z. t.maps z ∙ ap (operations (first_ops xs b).items ns) (s.maps z ∙ ap (map_before lb j.change) (u.maps z ∙ ap (operations (first_ops ys j.rest).items ms) (s2.maps z)));
      }
  joins {b} (fits_opened_cut {ns} {b = lb} {xs} {tb} g w f) k h =
      let t = ops_taken xs ns (map_before lb tb over) g h in
      let s = joins f over t.fits in
      record {
        fits = fits_opened_cut t.there w s.fits;
        more_fits = λ e. absurd cc;
        maps = λ z. t.maps z ∙ ap (operations (first_ops xs b).items ns) (s.maps z ∙ cut_next s.fits w z over);
      }

  turns_join : {ts : Turns} {tp tb tp2 tb2 : Change} {pre pre2 : List Numbers} {i j : Numbers} → LeakTurnsFit ts tp pre i tb → LeakTurnsFit (map_turns ts tp pre i tb) tp2 pre2 j tb2
      → TurnsJoin ts tp2 pre2 j tb2 (map_turns ts tp pre i tb) (join tp tp2).change ((first_ops pre (join tp tp2).rest).items ++ all_by i pre2) (numbers_by i j) (join tb tb2).change
  turns_join {pre2} {j} (turns_left {p} {ns} {pre} {i} g u w f) (turns_left g2 u2 w2 h) =
      let d = head_joins ns pre pre2 i p g u g2 w (joins f (operations pre ns over) h) in
      record { fits = turns_left d.there (these_there ns i j u u2) w d.fits; maps = let x = d.maps over in let y = numbers_so i j ns in rw (x, y) }
  turns_join {pre2} {j} (turns_turn {p} {ns} {pre} {i} g u w f w3 f3 f4) (turns_turn g2 u2 w2 h w4 h3 h4) =
      let d = head_joins ns pre pre2 i p g u g2 w (joins f (operations pre ns over) h) in
      let s = joins f3 over h3 in
      let q = turns_join f4 h4 in
      record {
        fits = turns_turn d.there (these_there ns i j u u2) w d.fits w3 s.fits q.fits;
        maps = let x = d.maps over in let y = numbers_so i j ns in let v = s.maps over in let o = q.maps in rw (x, y, v, o);
      }
  turns_join (turns_prologue_cut w f) (turns_prologue_cut w2 h) =
      let s = joins f over h in
      record { fits = turns_prologue_cut w s.fits; maps = ap prologue_cut (s.maps over) }
  turns_join {pre2} {j} (turns_wanted {p} {ns} {pre} {i} g u w f) (turns_wanted g2 u2 w2 h) =
      let d = head_joins ns pre pre2 i p g u g2 w (joins f (operations pre ns over) h) in
      record { fits = turns_wanted d.there (these_there ns i j u u2) w d.fits; maps = let x = d.maps over in let y = numbers_so i j ns in rw (x, y) }
  turns_join {pre2} {j} (turns_body_cut {p} {ns} {pre} {i} g u w f w3 f3) (turns_body_cut g2 u2 w2 h w4 h3) =
      let d = head_joins ns pre pre2 i p g u g2 w (joins f (operations pre ns over) h) in
      let s = joins f3 over h3 in
      record {
        fits = turns_body_cut d.there (these_there ns i j u u2) w d.fits w3 s.fits;
        maps = let x = d.maps over in let y = numbers_so i j ns in let v = s.maps over in rw (x, y, v);
      }

  once_joins : {ts : Turns} {tp tb tp2 : Change} {pre pre2 : List Numbers} {i : Numbers} → LeakTurnsFit ts tp pre i tb → LeakOnceFits (map_turns ts tp pre i tb) tp2 pre2
      → OnceJoins ts (map_turns ts tp pre i tb) tp2 pre2 (join tp tp2).change ((first_ops pre (join tp tp2).rest).items ++ all_by i pre2)
  once_joins {pre2} (turns_left {p} {ns} {pre} {i} g u w f) (once_left g2 w2 h) =
      let d = head_joins ns pre pre2 i p g u g2 w (joins f (operations pre ns over) h) in
      record { fits = once_left d.there w d.fits; maps = d.maps }
  once_joins (turns_turn g u w f w3 f3 f4) h = elim h [ ]
  once_joins (turns_prologue_cut w f) (once_cut w2 h) =
      let s = joins f over h in
      record { fits = once_cut w s.fits; maps = λ z. s.maps over }
  once_joins (turns_wanted g u w f) h = elim h [ ]
  once_joins (turns_body_cut g u w f w3 f3) h = elim h [ ]

  each_joins : {rs : Rounds} {tb tb2 : Change} → LeakEachFits rs tb → LeakEachFits (map_each rs tb) tb2 → EachJoins rs (map_each rs tb) tb2 (join tb tb2).change
  each_joins same_none same_none = record { fits = same_none; maps = refl }
  each_joins (same_round w f f2) (same_round w2 h h2) =
      let s = joins f over h in let q = each_joins f2 h2 in
      record { fits = same_round w s.fits q.fits; maps = let x = s.maps over in let y = q.maps in rw (x, y) }
  each_joins (same_cut w f) (same_cut w2 h) = let s = joins f over h in record { fits = same_cut w s.fits; maps = ap round_cut (s.maps over) }

  every_joins : {rs : Rounds} {tb : Change} {ts2 : Changes} → LeakEachFits rs tb → LeakRoundsFit (map_each rs tb) ts2 → EveryJoins rs (map_each rs tb) ts2 (join_every (join tb) ts2)
  every_joins same_none own_none = record { fits = own_none; maps = λ z. refl }
  every_joins (same_round {a} {tb} w f f2) (own_round {t = t2} w2 h h2) =
      let s = joins f over h in let q = every_joins f2 h2 in
      record { fits = own_round w s.fits q.fits; maps = λ z. s.maps _ ∙ ap (map_before a (join tb t2).change) (q.maps z) }
  every_joins (same_cut w f) (own_cut w2 h) = let s = joins f over h in record { fits = own_cut w s.fits; maps = λ z. s.maps over }

  rounds_join : {rs : Rounds} {ts : Changes} {b : Change} → LeakRoundsFit rs ts → (k : Leak) → LeakFits (map_rounds rs ts k) b → RoundsJoin rs k (map_before (map_rounds rs ts k) b) (join_rounds ts b)
  rounds_join own_none k h = record { fits = own_none; more_fits = λ w. h; maps = λ z. refl }
  rounds_join {b} (own_round {a} {rs} {t} {ts} w f f2) k h =
      let s = joins f (map_rounds rs ts k) h in
      let q = rounds_join f2 k (s.more_fits w) in
      record { fits = own_round w s.fits q.fits; more_fits = q.more_fits; maps = λ z. s.maps z ∙ ap (map_before a (join t b).change) (q.maps z) }
  rounds_join (own_cut w f) k h =
      let s = joins f over h in
      record { fits = own_cut w s.fits; more_fits = λ e. absurd cc; maps = λ z. s.maps z ∙ cut_next s.fits w z over }

-- ---- whole leaks

pub composition_fits : {l : Leak} {a b : Change} → LeakFits l a → LeakFits (map_of a l) b → LeakFits l (compose_of a b)
composition_fits f h = (joins f over h).fits

pub composition_maps : {l : Leak} {a b : Change} → LeakFits l a → LeakFits (map_of a l) b → map_of (compose_of a b) l ≡ map_of b (map_of a l)
composition_maps f h = sym ((joins f over h).maps over)

pub composes : (a b : Change) → Composes a b (compose_of a b)
composes a b = record {
  fits = λ l f h. composition_fits f h;
  maps = λ l f h. composition_maps f h;
}
