-- Two trees that a tree becomes, where what is known of both agrees.
use Rattle.std.proofs.Common.{◌≡◌, List, [], ◌∷◌, Bool, false, refl, ap, sym, ◌∙◌, subst}
use Rattle.std.specs.Prelude.{ℤ, if◌then◌else◌}
use Rattle.jz_runs.specs.Trees.{Tree, done, op, quiet, choose, loop, each}
use Rattle.jz_change.specs.declared.change.Numbers.{Numbers}
use Rattle.jz_change.specs.Changes.{Change, ops, stays_if, arm, stays_while, once, unrolled, Changes, more}
use Rattle.jz_pass.specs.Operations.{in_turn}
use Rattle.jz_pass.specs.Unrolling.{Knowing, Unrolls, u_done, u_op, u_quiet, u_if, u_arm, u_while, u_once, u_for, UnrollsEach, u_none, u_more}

-- where what is known agrees, parts become one, and what is known behind them agrees
pub record IsOne {O T F E O2 T2 : Type 0} (K : Knowing O T F E O2 T2) : Type 1 where
  pub Agree : E → E → Type 0
  pub turned : (e f : E) → Agree e f → Agree f e
  pub under : (e0 e f : E) → K.Less e0 e → Agree e f → Agree e0 f
  pub op :
      (o : O) (e f e1 f1 : E) (os ps : List O2) (is js : List Numbers)
      → K.Op o e os is e1 → K.Op o f ps js f1 → Agree e f
      → (os ≡ ps) × (is ≡ js) × Agree e1 f1
  pub quiet :
      (o : O) (e f e1 f1 : E) (o2 p2 : O2)
      → K.Quiet o e o2 e1 → K.Quiet o f p2 f1 → Agree e f → (o2 ≡ p2) × Agree e1 f1
  pub test :
      (p : T) (e f : E) (os ps : List O2) (is js : List Numbers) (p2 q2 : T2) (i j : Numbers)
      → K.Test p e os is p2 i → K.Test p f ps js q2 j → Agree e f
      → (os ≡ ps) × (is ≡ js) × (p2 ≡ q2) × (i ≡ j)
  pub loop_test :
      (p : T) (e f : E) (os ps : List O2) (is js : List Numbers) (p2 q2 : T2) (i j : Numbers)
      → K.LoopTest p e os is p2 i → K.LoopTest p f ps js q2 j → Agree e f
      → (os ≡ ps) × (is ≡ js) × (p2 ≡ q2) × (i ≡ j)
  pub no_test :
      (p : T) (e f : E) (os : List O2) (is : List Numbers) (p2 : T2) (i : Numbers) (z : Bool)
      → K.Test p e os is p2 i → K.Constant p f z → ⊥
  pub no_loop_test :
      (p : T) (e f : E) (os : List O2) (is : List Numbers) (p2 : T2) (i : Numbers)
      → K.LoopTest p e os is p2 i → K.Constant p f false → Agree e f → ⊥
  pub constant :
      (p : T) (e f : E) (y z : Bool) → K.Constant p e y → K.Constant p f z → Agree e f → y ≡ z
  pub values :
      (g : F) (e f : E) (is js : List ℤ) → K.Values g e is → K.Values g f js → Agree e f
      → is ≡ js
  pub set : (g : F) (i : ℤ) (e f : E) → Agree e f → Agree (K.set g i e) (K.set g i f)
  pub restore :
      (g : F) (e f e1 f1 : E) → Agree e f → Agree e1 f1
      → Agree (K.restore g e e1) (K.restore g f f1)

-- ---- changes

same_ops : (is js : List Numbers) (k l : Change) → is ≡ js → k ≡ l → ops is k ≡ ops js l
same_ops is js k l p q = ap (λ z. ops z k) p ∙ ap (ops js) q

same_if : (is js : List Numbers) (i j : Numbers) (ta tb k sa sb l : Change) → is ≡ js → i ≡ j → ta ≡ sa → tb ≡ sb → k ≡ l → stays_if is i ta tb k ≡ stays_if js j sa sb l
same_if is js i j ta tb k sa sb l p q x y z = cc

same_while : (tq sq : Change) (is js : List Numbers) (i j : Numbers) (tb k sb l : Change) → tq ≡ sq → is ≡ js → i ≡ j → tb ≡ sb → k ≡ l → stays_while tq is i tb k ≡ stays_while sq js j sb l
same_while tq sq is js i j tb k sb l x p q y z = cc

-- ---- trees

module _ {O2 T2 F2 C2 : Type 0} where
  in_turn_same : (os ps : List O2) (u v : Tree O2 T2 F2 C2) → os ≡ ps → u ≡ v → in_turn os u ≡ in_turn ps v
  in_turn_same os ps u v p q = ap (λ z. in_turn z u) p ∙ ap (in_turn ps) q

  chosen_same : (p q : T2) (a b u c d v : Tree O2 T2 F2 C2) → p ≡ q → a ≡ c → b ≡ d → u ≡ v → choose p a b u ≡ choose q c d v
  chosen_same p q a b u c d v x y z w = cc

  loop_same : (h : Bool) (q2 r2 : Tree O2 T2 F2 C2) (p s : T2) (b u c v : Tree O2 T2 F2 C2) → q2 ≡ r2 → p ≡ s → b ≡ c → u ≡ v → loop h q2 p b u ≡ loop h r2 s c v
  loop_same h q2 r2 p s b u c v x y z w = cc

-- ---- what is known

module _ {O T F E O2 T2 : Type 0} (K : Knowing O T F E O2 T2) (L : IsOne K) where
  below : (e0 f0 e f : E) → K.Less e0 e → K.Less f0 f → L.Agree e f → L.Agree e0 f0
  below e0 f0 e f l m a = L.turned f0 e0 (L.under f0 f e0 m (L.turned e0 f (L.under e0 e f l a)))

-- ---- what becomes of a tree

module _ {O T F C E O2 T2 F2 C2 : Type 0} (K : Knowing O T F E O2 T2) (L : IsOne K) where
  turned_arm : (a0 b0 : Tree O T F C) (y z : Bool) {f f1 : E} {u v : Tree O2 T2 F2 C2} {l : Change} → y ≡ z → Unrolls K (if z then a0 else b0) f u v f1 l → Unrolls K (if y then a0 else b0) f u v f1 l
  turned_arm a0 b0 y z {f} {f1} {u} {v} {l} q d = subst (λ w. Unrolls K (if w then a0 else b0) f u v f1 l) (sym q) d

  turned_rounds : (n : F) (b : Tree O T F C) (is js : List ℤ) {f f1 : E} {u v : Tree O2 T2 F2 C2} {ss : Changes} → is ≡ js → UnrollsEach K n b js f u v f1 ss → UnrollsEach K n b is f u v f1 ss
  turned_rounds n b is js {f} {f1} {u} {v} {ss} q d = subst (λ w. UnrollsEach K n b w f u v f1 ss) (sym q) d

  mutual
    pub once_made : {t : Tree O T F C} {e f e2 f2 : E} {rest other u v : Tree O2 T2 F2 C2} {k l : Change} → Unrolls K t e rest u e2 k → Unrolls K t f other v f2 l → L.Agree e f → L.Agree e2 f2 × (k ≡ l) × (rest ≡ other → u ≡ v)
    once_made u_done u_done a = (a, refl, λ q. q)
    once_made {t = op o r} {e} {f} (u_op {e1} {u} {os} {is} {k} h d) (u_op {e1 = f1} {u = v} {os = ps} {is = js} {k = l} g c) a =
        let x = L.op o e f e1 f1 os ps is js h g a in
        let y = once_made d c x.2 in
        (y.0, same_ops is js k l x.1 y.1, λ q. in_turn_same os ps u v x.0 (y.2 q))
    once_made {t = quiet o r} {e} {f} (u_quiet {e1} {u} {o2} h d) (u_quiet {e1 = f1} {u = v} {o2 = p2} g c) a =
        let x = L.quiet o e f e1 f1 o2 p2 h g a in
        let y = once_made d c x.1 in
        (y.0, y.1, λ q. ap (λ z. quiet z u) x.0 ∙ ap (quiet p2) (y.2 q))
    once_made {t = choose t a0 b0 r} {e} {f} (u_if {ea} {eb} {e0} {u} {a2} {b2} {os} {is} {p2} {i} {ta} {tb} {k} h da db la lb d) (u_if {ea = fa} {eb = fb} {e0 = f0} {u = v} {a2 = c2} {b2 = d2} {os = ps} {is = js} {p2 = q2} {i = j} {ta = sa} {tb = sb} {k = l} g ca cb ma mb c) a =
        let x = L.test t e f os ps is js p2 q2 i j h g a in
        let pa = once_made da ca a in
        let pb = once_made db cb a in
        let y = once_made d c (below K L e0 f0 ea fa la ma pa.0) in (
          y.0,
          same_if is js i j ta tb k sa sb l x.1 x.3 pa.1 pb.1 y.1,
          λ q. in_turn_same os ps (choose p2 a2 b2 u) (choose q2 c2 d2 v) x.0 (chosen_same p2 q2 a2 b2 u c2 d2 v x.2 (pa.2 refl) (pb.2 refl) (y.2 q)),
        )
    once_made {t = choose t a0 b0 r} {e} {f} (u_arm {e1} {z = y0} {ta} {k} h da d) (u_arm {e1 = f1} {z = z0} {ta = sa} {k = l} g ca c) a =
        let x = L.constant t e f y0 z0 h g a in
        let pa = once_made da (turned_arm a0 b0 y0 z0 x ca) a in
        let y = once_made d c pa.0 in
        (y.0, ap (λ z. arm z [] ta k) x ∙ (ap (λ m. arm z0 [] m k) pa.1 ∙ ap (arm z0 [] sa) y.1), λ q. pa.2 (y.2 q))
    once_made {t = choose t a0 b0 r} {e} {f} (u_if {os} {is} {p2} {i} h da db la lb d) (u_arm {z} g ca c) a = absurd (L.no_test t e f os is p2 i z h g)
    once_made {t = choose t a0 b0 r} {e} {f} (u_arm {z} h da d) (u_if {os} {is} {p2} {i} g ca cb ma mb c) a = absurd (L.no_test t f e os is p2 i z g h)
    once_made {t = loop w q0 t b0 r} {e} {f} (u_while {e0} {eq} {eb} {e3} {u} {q2} {b2} {os} {is} {p2} {i} {tq} {tb} {k} l0 h dq db lb lr d) (u_while {e0 = f0} {eq = fq} {eb = fb} {e3 = f3} {u = v} {q2 = r2} {b2 = c2} {os = ps} {is = js} {p2 = s2} {i = j} {tq = sq} {tb = sb} {k = l} m0 g cq cb mb mr c) a =
        let pq = once_made dq cq (below K L e0 f0 e f l0 m0 a) in
        let x = L.loop_test t eq fq os ps is js p2 s2 i j h g pq.0 in
        let pb = once_made db cb pq.0 in
        let y = once_made d c (below K L e3 f3 eq fq lr mr pq.0) in (
          y.0,
          same_while tq sq is js i j tb k sb l pq.1 x.1 x.3 pb.1 y.1,
          λ q. loop_same w q2 r2 p2 s2 b2 u c2 v (pq.2 (in_turn_same os ps done done x.0 refl)) x.2 (pb.2 refl) (y.2 q),
        )
    once_made {t = loop w q0 t b0 r} {e} {f} (u_once {e1} {tq} {k} dq h d) (u_once {e1 = f1} {tq = sq} {k = l} cq g c) a =
        let pq = once_made dq cq a in
        let y = once_made d c pq.0 in
        (y.0, ap (λ m. once m [] k) pq.1 ∙ ap (once sq []) y.1, λ q. pq.2 (y.2 q))
    once_made {t = loop w q0 t b0 r} {e} {f} (u_while {e0} {eq} {os} {is} {p2} {i} l0 h dq db lb lr d) (u_once {e1 = f1} cq g c) a =
        absurd (L.no_loop_test t eq f1 os is p2 i h g (once_made dq cq (L.under e0 e f l0 a)).0)
    once_made {t = loop w q0 t b0 r} {e} {f} (u_once {e1} dq h d) (u_while {e0 = f0} {eq = fq} {os} {is} {p2} {i} m0 g cq cb mb mr c) a =
        absurd (L.no_loop_test t fq e1 os is p2 i g h (L.turned e1 fq (once_made dq cq (L.turned f0 e (L.under f0 f e m0 (L.turned e f a)))).0))
    once_made {t = each n b0 r} {e} {f} (u_for {e1} {is} {ts} {k} h ds d) (u_for {e1 = f1} {is = js} {ts = ss} {k = l} g cs c) a =
        let x = L.values n e f is js h g a in
        let z = each_made ds (turned_rounds n b0 is js x cs) a in
        let y = once_made d c (L.restore n e f e1 f1 a z.0) in
        (y.0, ap (λ m. unrolled m k) z.1 ∙ ap (unrolled ss) y.1, λ q. z.2 (y.2 q))

    each_made : {n : F} {b : Tree O T F C} {is : List ℤ} {e f e2 f2 : E} {rest other u v : Tree O2 T2 F2 C2} {ts ss : Changes} → UnrollsEach K n b is e rest u e2 ts → UnrollsEach K n b is f other v f2 ss → L.Agree e f → L.Agree e2 f2 × (ts ≡ ss) × (rest ≡ other → u ≡ v)
    each_made u_none u_none a = (a, refl, λ q. q)
    each_made {n} {b} {is = i ∷ is} {e} {f} (u_more {t} {ts} d ds) (u_more {t = s} {ts = ss} c cs) a =
        let x = once_made d c (L.set n i e f a) in
        let y = each_made ds cs x.0 in
        (y.0, ap (λ m. more m ts) x.1 ∙ ap (more s) y.1, λ q. x.2 (y.2 q))
