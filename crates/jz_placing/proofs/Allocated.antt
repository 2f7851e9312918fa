-- Allocated places meet what is asked of each operation.
use Rattle.std.proofs.Common.{◌≡◌, ◌≢◌, ℕ, ◌<◌, Bool, true, false, not, ◌||◌, inl, inr, IsTrue, IsFalse, List, [], ◌∷◌, ◌++◌, Some, None, length, get_or, refl, sym, ap, ◌∙◌, subst, arith, true≢false, nat_eq}
use Rattle.std.specs.List.{All, list_all}
use Rattle.std.proofs.lemmas.List.Folds.{list_all_at}
use Rattle.jz_ir.specs.declared.code.Need.{Need}
use Rattle.jz_ir.proofs.Numbers.{one_place}
use Rattle.std.proofs.lemmas.List.{get_or-map, length-map}
use Rattle.std.proofs.lemmas.Bool.{eq-eqb, eqb-true, or_cases, and_parts, not_from_true, both_ways}
use Rattle.std.proofs.lemmas.List.Elements.{All-head, All-tail, All-from_get_or}
use Rattle.x64_insn.specs.declared.types.Place.{Place}
use Rattle.jz_runs.specs.Trees.{done, op, quiet, choose, loop, each, call}
use Rattle.jz_ir.specs.declared.code.Op.{Op}
use Rattle.jz_ir.specs.declared.code.Code.{Code}
use Rattle.jz_ir.specs.Order.{number_of, has_place}
use Rattle.jz_ir.specs.Paths.{among, IsLiveAfter}
use Rattle.jz_ir.specs.Places.{no_op, op_at, place_at, IsPlacing, IsWithin, kind_has, op_fits, need_fits}
use Rattle.jz_ir.specs.Tree as ir
use Rattle.jz_ir.specs.Tree.{Frame, at, test, Step, states, at_test, op_of, ops_of, LiveInTree}
use Rattle.jz_live.specs.Lives.{live_before}
use Rattle.jz_live.proofs.Backward.{before_read, before_later}
use Rattle.jz_live.proofs.Trees.{lives_at, after_at, after_sound, IsHead, h_op, h_choose, h_test}
use Rattle.jz_operations.specs.declared.operation.Operation.{Operation}
use Rattle.jz_operations.specs.declared.operation.Condition.TheVariants as condition
use Rattle.jz_operations.specs.Reading.{seen_of}
use Rattle.jz_operations.specs.Standing as standing
use Rattle.jz_placing.specs.Flow.{asked_op, flow, then_ops}
use Rattle.jz_placing.specs.Variables.{Asked, always, asks, Body, test_of}
use Rattle.jz_placing.specs.Placing.{IsMet, IsMetTest, AreMet, Suits, SuitsTest, AreSuited}
use Rattle.jz_placing.proofs.Fronts.{front_of, back_of}

-- ---- what a placing does at one operation
module _ (places : List Place) where
  -- each need of the operation is met
  abbrev pub NeedsMet : Op → Type 0
  NeedsMet x = All (λ n. place_at places n.variable ≡ n.place) x.needs

  -- what an operation writes stands apart from what is live behind it, and what is live across it is kept from its fixed writes
  pub record IsPlacedAt (st : List Frame) : Type 0 where
    pub needs : NeedsMet (op_of st)
    pub apart : (u v : ℕ) → u ≢ v → IsTrue (among (op_of st).writes u) → IsLiveAfter Step v st → place_at places u ≢ place_at places v
    pub kept : (v : ℕ) → IsTrue (has_place (op_of st).fixed (number_of (place_at places v))) → IsFalse (among (op_of st).writes v) → IsLiveAfter Step v st → ⊥

  -- the same by any set
  record Keeps (x : Op) (behind : ℕ → Bool) : Type 0 where
    apart : (u v : ℕ) → u ≢ v → IsTrue (among x.writes u) → IsTrue (behind v) → place_at places u ≢ place_at places v
    kept : (v : ℕ) → IsTrue (has_place x.fixed (number_of (place_at places v))) → IsFalse (among x.writes v) → IsTrue (behind v) → ⊥

  keeps : {st : List Frame} → IsHead st → IsPlacedAt st → Keeps (op_of st) (λ v. after_at v st)
  keeps h p = record {
    apart = λ u v n w l. p.apart u v n w (after_sound v h l);
    kept = λ v f w l. p.kept v f w (after_sound v h l);
  }

-- ---- what is asked of an operation besides
module _ (list : List Place) where
  abbrev places : ℕ → Place
  places v = place_at list v

  needs_met : (ks : List Need) → All (λ n. place_at list n.variable ≡ n.place) ks → standing.NeedsMet places ks
  needs_met [] a = tt
  needs_met (k ∷ ks) a = (All-head (λ (n : Need). place_at list n.variable ≡ n.place) k ks a, needs_met ks (All-tail (λ (n : Need). place_at list n.variable ≡ n.place) k ks a))

  met_op : (o : Operation) (behind : ℕ → Bool) → NeedsMet list (seen_of o) → Keeps list (seen_of o) behind → Suits list o → IsMet places o behind
  met_op o behind n k s = record {
    placed = record {
      reads = λ v t. before_read (among (seen_of o).reads v) (among (seen_of o).writes v) (behind v) t;
      others = λ v live out. before_later (among (seen_of o).reads v) (among (seen_of o).writes v) (behind v) out live;
      needs = needs_met (seen_of o).needs n;
      words = s.words;
      stack = s.stack;
      apart = λ u v w live ne. k.apart u v ne w live;
      kept = λ v live out t. k.kept v t out live;
    };
    one = s.one;
  }

  met_test : (c : Asked) (on off : ℕ → Bool) → SuitsTest list c → NeedsMet list (asked_op (test_of c)) → Keeps list (asked_op (test_of c)) (λ v. on v || off v) → IsMetTest places c on off
  met_test always on off s n k = tt
  met_test (asks (Some o) (condition.Cc c)) on off s n k = met_op o (λ v. on v || off v) n k s
  met_test (asks None (condition.Flag v no')) on off s n k = tt
  met_test (asks (Some o) (condition.Flag v no')) on off s n k = absurd s
  met_test (asks None (condition.Cc c)) on off s n k = absurd s

  loop_met : (c : Asked) (p b r : ir.Tree) (st : List Frame) → SuitsTest list c → All (IsPlacedAt list) (at_test p (test_of c) b r st)
      → IsMetTest places c (λ v. live_before v b (live_before v (ir.loop p (test_of c) b r) (lives_at v st))) (λ v. live_before v r (lives_at v st))
  loop_met always p b r st s a = tt
  loop_met (asks (Some o) (condition.Cc c)) p b r st s a =
      let h = All-head (IsPlacedAt list) (test p (Some (seen_of o)) b r ∷ st) [] a in met_op o _ h.needs (keeps list h_test h) s
  loop_met (asks None (condition.Flag v no')) p b r st s a = tt
  loop_met (asks (Some o) (condition.Flag v no')) p b r st s a = absurd s
  loop_met (asks None (condition.Cc c)) p b r st s a = absurd s

  abbrev stream : Body → ir.Tree → ir.Tree
  stream t rest = flow seen_of test_of t rest

  abbrev P : List Frame → Type 0
  P st = IsPlacedAt list st

  pub met : (t : Body) (rest : ir.Tree) (st : List Frame) → AreSuited list t → All P (states (stream t rest) st)
      → AreMet places t rest (λ v. lives_at v st)
  met done rest st x a = tt
  met (op o r) rest st x a =
      let h = All-head P (at (ir.op (seen_of o) (stream r rest)) ∷ st) (states (stream r rest) st) a in
      (met_op o (λ v. live_before v (stream r rest) (lives_at v st)) h.needs (keeps list h_op h) x.0, met r rest st x.1 (All-tail P (at (ir.op (seen_of o) (stream r rest)) ∷ st) (states (stream r rest) st) a))
  met (quiet o r) rest st x a = met r rest st x a
  met (choose c y z r) rest st x a =
      let k : List Frame = at (stream r rest) ∷ st in
      let front : List Frame = at (ir.choose (asked_op (test_of c)) (stream y ir.done) (stream z ir.done) (stream r rest)) ∷ st in
      let h = All-head P front (states (stream y ir.done) k ++ (states (stream z ir.done) k ++ states (stream r rest) st)) a in
      let t = All-tail P front (states (stream y ir.done) k ++ (states (stream z ir.done) k ++ states (stream r rest) st)) a in
      let u = back_of P (states (stream y ir.done) k) (states (stream z ir.done) k ++ states (stream r rest) st) t in (
        met_test c (λ v. live_before v (stream y ir.done) (lives_at v k)) (λ v. live_before v (stream z ir.done) (lives_at v k)) x.0 h.needs (keeps list h_choose h),
        x.1,
        met y ir.done k x.2 (front_of P (states (stream y ir.done) k) (states (stream z ir.done) k ++ states (stream r rest) st) t),
        met z ir.done k x.3 (front_of P (states (stream z ir.done) k) (states (stream r rest) st) u),
        met r rest st x.4 (back_of P (states (stream z ir.done) k) (states (stream r rest) st) u),
      )
  met (loop q p c b r) rest st x a =
      let sp = stream p ir.done in
      let sb = stream b ir.done in
      let sr = stream r rest in
      let kp : List Frame = test sp (test_of c) sb sr ∷ st in
      let kb : List Frame = at (ir.loop sp (test_of c) sb sr) ∷ st in
      let back : List (List Frame) = states sb kb ++ states sr st in
      let t = back_of P (states sp kp) (at_test sp (test_of c) sb sr st ++ back) a in
      let u = back_of P (at_test sp (test_of c) sb sr st) back t in (
        met p ir.done kp x.0 (front_of P (states sp kp) (at_test sp (test_of c) sb sr st ++ back) a),
        loop_met c sp sb sr st x.1 (front_of P (at_test sp (test_of c) sb sr st) back t),
        met b ir.done kb x.2 (front_of P (states sb kb) (states sr st) u),
        met r rest st x.3 (back_of P (states sb kb) (states sr st) u),
      )
  met (each f b r) rest st x a = absurd f
  met (call c b r) rest st x a = absurd c

-- ---- from the rule for places to each operation
holds_at : {X : Type 0} (p : X → Bool) (xs : List X) (i : ℕ) (d : X) → i < length xs → IsTrue (list_all p xs) → IsTrue (p (get_or xs i d))
holds_at p xs i d lt h = go (p (get_or xs i d)) refl
  where
    go : (b : Bool) → p (get_or xs i d) ≡ b → IsTrue b
    go true e = refl
    go false e = absurd (true≢false (sym h ∙ list_all_at p xs i d lt e))

module _ (code : Code) (Live : ℕ → ℕ → Type 0) (places : List Place) (within : IsWithin code) (p : IsPlacing code Live places) where
  need_met : (i : ℕ) → i < length code.ops → NeedsMet places (op_at code.ops i)
  need_met i lt j d k =
      let n : Need = get_or (op_at code.ops i).needs j d in
      let v : ℕ = n.variable in
      let q : ℕ = number_of (place_at places v) in
      let l : v < length code.kinds = (within i no_op lt).needs j d k in
      let m = (and_parts (kind_has code.kinds code.in_use v q) (list_all (op_fits v q) code.ops) (p.meets_needs v l)).1 in
      let f = holds_at (need_fits v q) (op_at code.ops i).needs j d k (holds_at (op_fits v q) code.ops i no_op lt m) in
      elim (or_cases (not (nat_eq v v)) (nat_eq (number_of n.place) q) f) [
        | inl x ↦ absurd (both_ways (not (nat_eq v v)) (not_from_true (nat_eq v v) (eq-eqb v v refl)) x)
        | inr x ↦ one_place (place_at places v) n.place (sym (eqb-true (number_of n.place) q x))
      ]

module _ (t : ir.Tree) (code : Code) (places : List Place) (within : IsWithin code) (same : code.ops ≡ ops_of t) (p : IsPlacing code (LiveInTree t) places) where
  op_is : (i : ℕ) → i < length (states t []) → op_at code.ops i ≡ op_of (get_or (states t []) i [])
  op_is i lt = ap (λ x. op_at x i) same ∙ get_or-map op_of (states t []) i [] no_op lt

  pub placed_at : All (IsPlacedAt places) (states t [])
  placed_at = All-from_get_or (IsPlacedAt places) (states t []) [] (λ i lt. record {
    needs = subst (λ x. NeedsMet places x) (op_is i lt) (need_met code (LiveInTree t) places within p i (let e : length code.ops ≡ length (states t []) = ap length same ∙ length-map (states t []) op_of in omega (arith, e, lt)));
    apart = λ u v n w l. p.apart i u v n (ap (λ (x : Op). among x.writes u) (op_is i lt) ∙ w) l;
    kept = λ v f w l. p.kept i v (ap (λ (x : Op). has_place x.fixed (number_of (place_at places v))) (op_is i lt) ∙ f, ap (λ (x : Op). among x.writes v) (op_is i lt) ∙ w, l);
  })

-- ---- places by the rule of placing, over the entry, the body and the return
behind_entry : (places : List Place) (xs : List Op) (t : ir.Tree) (st : List Frame) → All (IsPlacedAt places) (states (then_ops xs t) st) → All (IsPlacedAt places) (states t st)
behind_entry places [] t st a = a
behind_entry places (x ∷ xs) t st a = behind_entry places xs t st (All-tail (IsPlacedAt places) (at (ir.op x (then_ops xs t)) ∷ st) (states (then_ops xs t) st) a)

pub placing_met : (list : List Place) (entry back : List Op) (t : Body) (code : Code) → IsWithin code
    → code.ops ≡ ops_of (then_ops entry (flow seen_of test_of t (then_ops back ir.done))) → IsPlacing code (LiveInTree (then_ops entry (flow seen_of test_of t (then_ops back ir.done)))) list → AreSuited list t
    → AreMet (λ v. place_at list v) t (then_ops back ir.done) (λ v. false)
placing_met list entry back t code within same p suits =
    met list t (then_ops back ir.done) [] suits
    (behind_entry list entry (flow seen_of test_of t (then_ops back ir.done)) [] (placed_at (then_ops entry (flow seen_of test_of t (then_ops back ir.done))) code list within same p))
