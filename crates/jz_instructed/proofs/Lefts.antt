-- Where a run stands behind several left sides, and that they are not stuck.
use Rattle.std.proofs.Common.{◌≡◌, ◌⊎◌, inl, inr, ℕ, List, [], ◌∷◌, Option, Some, None, Bool, true, false, refl, ap, sym, ◌∙◌, subst, if◌then◌else◌}
use Rattle.std.specs.Prelude.{IsSome, All}
use Rattle.std.specs.Option.{option_or}
use Rattle.std.proofs.lemmas.List.Elements.{All-nil, All-cons}
use Rattle.jz_tree.specs.Span.{Span}
use Rattle.x64_insn.specs.Size.{Size}
use Rattle.x64_insn.specs.Memory.{Memory}
use Rattle.jz_tree.specs.declared.expr.Var.{Var}
use Rattle.jz_tree.specs.declared.stmt.Lval.{Lval}
use Rattle.jz_tree.specs.declared.stmt.Lval.TheVariants as lval
use Rattle.jz_runs.specs.Rules.{stuck, went}
use Rattle.jz_meaning.specs.declared.access.Kind.{Kind}
use Rattle.jz_meaning.specs.declared.access.Kind.TheVariants as kind
use Rattle.jz_meaning.specs.Attempts.{Evaluation, and_then, defined}
use Rattle.jz_meaning.specs.States.{Value, word, boolean, Key, same_key, put, State}
use Rattle.jz_meaning.specs.Values.{Ref, key_of, ref_of}
use Rattle.jz_meaning.specs.Assignments.{Results, held_or_unset, with_value, written, all_written as all_put}
use Rattle.jz_run_laws.specs.Kinds.{Kinds, kind_at}
use Rattle.jz_run_laws.specs.DeclaredKinds.{LeftDeclared}
use Rattle.jz_terms.specs.Terms.{place_of}
use Rattle.jz_facts.specs.Facts.{Fact, Set, Cell, AtLeast, AtMost, Under, Is, Multiple, Facts, Given, subject}
use Rattle.jz_facts.specs.Holding as holding
use Rattle.jz_facts.specs.Holding.{Gets, none, some_value, the_word, renewed, only_set, gained, all_written}
use Rattle.jz_fact_laws.specs.Saying.{Yields, Says}
use Rattle.jz_fact_laws.proofs.Fitting.{yields_then, yields_all}
use Rattle.jz_fact_laws.proofs.Setting.{same_key-true, same_key-refl}
use Rattle.jz_assigned.specs.Conditions.{asks_left, asks_lefts}
use Rattle.jz_standing.specs.Typing.{whole, NoNumbers, IsScalar}
use Rattle.jz_standing.specs.Standing.{is_of_cell, AreValid, Stands}
use Rattle.jz_standing.proofs.Making.{same_size-refl}
use Rattle.jz_assigned.proofs.Sums.{both_met, Runs, runs_then, runs_yields}
use Rattle.jz_assigned.proofs.Marks.{seat, says_same, put_elsewhere, scalar_elsewhere}
use Rattle.jz_instructed.specs.Instructed.{Shape, a_flag, a_word, a_pinned, TakesShape, TakeShapes}
use Rattle.jz_instructed.proofs.Instructing.{IsGot, AreGot, ArePinned, IsEnded}
use Rattle.jz_instructed.proofs.Lasts.{AsBefore, Behind, cell_behind, store_behind, cell_last, store_last}

module _ (g : Given) (kinds : Kinds) (in_frame : Key → Bool) (entry : Key → ℕ) (first : Facts) (m : Memory) where
  -- the facts hold of this state, whose memory is m
  pub record Half (s : Facts) (t : State) : Type 0 where
    pub says : (f : Fact) → s f ≡ true → Says entry t.store f
    pub apart : (f : Fact) → s f ≡ true → in_frame (whole (subject f)) ≡ is_of_cell f
    pub memory : t.memory ≡ m

  -- what a flag or a word gains: that it is set, or nothing
  abbrev pub Gains : Gets → Facts → Type 0
  Gains none new = (f : Fact) → new f ≡ true → ⊥
  Gains some_value new = (f : Fact) → new f ≡ true → only_set f ≡ true
  Gains (the_word z t) new = ⊥

  pub gains : (k : Kind) (y : Gets) (h : Shape) (o : Option Value) → IsGot y h o → Gains y (gained g first k y)
  gains k none h o e = λ f q. absurd (cc q)
  gains kind.Bool some_value h o e = λ f q. q
  gains kind.Int some_value h o e = λ f q. q
  gains kind.Undeclared some_value h o e = λ f q. q
  gains (kind.Word z) some_value h o e = λ f q. q
  gains (kind.Array z n) some_value h o e = λ f q. q
  gains k (the_word z t) a_flag o e = absurd e
  gains k (the_word z t) (a_word y) o e = absurd e
  gains k (the_word z t) (a_pinned y) o e = absurd e

  -- one variable gets a value, or none
  pub one_half : (k : Key) (y : Gets) (new : Facts) (v : Option Value) (s : Facts) (t : State) → in_frame (whole k) ≡ false → Gains y new → (y ≡ some_value → IsSome v) → Half s t → Half (renewed k new s) (with_value t k v)
  one_half k y new v s t i n p H = record {
    says = λ f e. says f (same_key (subject f) k) refl e;
    apart = λ f e. apart f (same_key (subject f) k) refl e;
    memory = H.memory;
  }
    where
      at_key : (q : Key) → q ≡ k → IsSome v → IsSome (put t.store k v q)
      at_key q e h = subst IsSome (sym (ap (λ c. if c then v else t.store q) (ap (same_key k) e ∙ same_key-refl k))) h

      set_says : (f : Fact) → subject f ≡ k → IsSome v → only_set f ≡ true → Says entry (put t.store k v) f
      set_says (Set q) e h o = at_key q e h
      set_says (Cell a j) e h o = absurd (cc o)
      set_says (AtLeast q c) e h o = absurd (cc o)
      set_says (AtMost q c) e h o = absurd (cc o)
      set_says (Under q x) e h o = absurd (cc o)
      set_says (Is q x) e h o = absurd (cc o)
      set_says (Multiple q c) e h o = absurd (cc o)

      set_apart : (f : Fact) → subject f ≡ k → only_set f ≡ true → in_frame (whole (subject f)) ≡ is_of_cell f
      set_apart (Set q) e o = ap (λ r. in_frame (whole r)) e ∙ i
      set_apart (Cell a j) e o = absurd (cc o)
      set_apart (AtLeast q c) e o = absurd (cc o)
      set_apart (AtMost q c) e o = absurd (cc o)
      set_apart (Under q x) e o = absurd (cc o)
      set_apart (Is q x) e o = absurd (cc o)
      set_apart (Multiple q c) e o = absurd (cc o)

      new_says : (y : Gets) → Gains y new → (y ≡ some_value → IsSome v) → (f : Fact) → subject f ≡ k → new f ≡ true → Says entry (put t.store k v) f
      new_says none n p f e q = absurd (n f q)
      new_says some_value n p f e q = set_says f e (p refl) (n f q)
      new_says (the_word z u) n p f e q = absurd n

      new_apart : (y : Gets) → Gains y new → (f : Fact) → subject f ≡ k → new f ≡ true → in_frame (whole (subject f)) ≡ is_of_cell f
      new_apart none n f e q = absurd (n f q)
      new_apart some_value n f e q = set_apart f e (n f q)
      new_apart (the_word z u) n f e q = absurd n

      says : (f : Fact) (c : Bool) → same_key (subject f) k ≡ c → (if c then new f else s f) ≡ true → Says entry (put t.store k v) f
      says f true q e = new_says y n p f (same_key-true (subject f) k q) e
      says f false q e = says_same entry t.store (put t.store k v) f (put_elsewhere t.store k (seat f) v (scalar_elsewhere in_frame k f i (H.apart f e) q)) (H.says f e)

      apart : (f : Fact) (c : Bool) → same_key (subject f) k ≡ c → (if c then new f else s f) ≡ true → in_frame (whole (subject f)) ≡ is_of_cell f
      apart f true q e = new_apart y n f (same_key-true (subject f) k q) e
      apart f false q e = H.apart f e

  -- ---- one left side

  flag_held : (at : Span) (k : Kind) (o : Option Value) → k ≡ kind.Bool → (o ≡ None) ⊎ ((b : Bool) × (o ≡ Some (boolean b))) → Runs (λ h. h ≡ o) (held_or_unset at k o)
  flag_held at k o e (inl q) = subst (λ u. Runs (λ h. h ≡ u) (held_or_unset at k u)) (sym q) refl
  flag_held at k o e (inr (b, q)) = subst (λ u. Runs (λ h. h ≡ u) (held_or_unset at k u)) (sym q) (subst (λ d. Runs (λ h. h ≡ Some (boolean b)) (held_or_unset at d (Some (boolean b)))) (sym e) refl)

  pub word_held : (at : Span) (k : Kind) (z : Size) (n : ℕ) → k ≡ kind.Word z → Runs (λ h. h ≡ Some (word z n)) (held_or_unset at k (Some (word z n)))
  word_held at k z n e = subst (λ d. Runs (λ h. h ≡ Some (word z n)) (held_or_unset at d (Some (word z n)))) (sym e) (subst (λ c. Runs (λ h. h ≡ Some (word z n)) (and_then (and_then (defined at (if c then Some n else None)) (λ a. went [] (word z a))) (λ h. went [] (Some h)))) (sym (same_size-refl z)) refl)

  pub is_there : (y : Gets) (h : Shape) (o : Option Value) → IsGot y h o → y ≡ some_value → IsSome o
  is_there some_value a_flag o (b, q) e = subst IsSome (sym q) refl
  is_there some_value (a_word z) o (n, q) e = subst IsSome (sym q) refl
  is_there some_value (a_pinned z) o (n, q) e = subst IsSome (sym q) refl
  is_there none a_flag o q e = absurd (cc e)
  is_there none (a_word z) o q e = absurd q
  is_there none (a_pinned z) o q e = absurd q
  is_there (the_word z t) a_flag o q e = absurd q
  is_there (the_word z t) (a_word u) o q e = absurd q
  is_there (the_word z t) (a_pinned u) o q e = absurd q

  abbrev pub TakesRef : Shape → Ref → Type 0
  TakesRef a_flag x = (x.kind ≡ kind.Bool) × IsScalar kinds in_frame x
  TakesRef (a_word z) x = (x.kind ≡ kind.Word z) × IsScalar kinds in_frame x
  TakesRef (a_pinned z) x = (x.kind ≡ kind.Word z) × IsScalar kinds in_frame x

  pub left_held : (x : Ref) (y : Gets) (h : Shape) (o : Option Value) → IsGot y h o → TakesRef h x → Runs (λ u. u ≡ o) (held_or_unset x.span x.kind o)
  left_held x none a_flag o q i = flag_held x.span x.kind o i.0 q
  left_held x some_value a_flag o q i = flag_held x.span x.kind o i.0 (inr q)
  left_held x some_value (a_word z) o (n, q) i = subst (λ u. Runs (λ h. h ≡ u) (held_or_unset x.span x.kind u)) (sym q) (word_held x.span x.kind z n i.0)
  left_held x some_value (a_pinned z) o (n, q) i = subst (λ u. Runs (λ h. h ≡ u) (held_or_unset x.span x.kind u)) (sym q) (word_held x.span x.kind z n i.0)
  left_held x none (a_word z) o q i = absurd q
  left_held x none (a_pinned z) o q i = absurd q
  left_held x (the_word z t) a_flag o q i = absurd q
  left_held x (the_word z t) (a_word u) o q i = absurd q
  left_held x (the_word z t) (a_pinned u) o q i = absurd q

  pub takes : (h : Shape) (x : Var) → TakesShape kinds in_frame h (lval.Var x) → TakesRef h (ref_of x)
  takes a_flag x i = i
  takes (a_word z) x i = i
  takes (a_pinned z) x i = i

  pub scalar : (h : Shape) (x : Ref) → TakesRef h x → IsScalar kinds in_frame x
  scalar a_flag x i = i.1
  scalar (a_word z) x i = i.1
  scalar (a_pinned z) x i = i.1

pub declared_left : (kinds : Kinds) (in_frame : Key → Bool) (h : Shape) (d : Lval) → TakesShape kinds in_frame h d → LeftDeclared kinds d
declared_left kinds in_frame h (lval.Skip at) i = tt
declared_left kinds in_frame a_flag (lval.Var x) i = i.1.declared
declared_left kinds in_frame (a_word z) (lval.Var x) i = i.1.declared
declared_left kinds in_frame (a_pinned z) (lval.Var x) i = i.1.declared
declared_left kinds in_frame (a_word z) (lval.Cell x j) i = i.1.declared
declared_left kinds in_frame (a_word z) (lval.Store a) i = tt
declared_left kinds in_frame a_flag (lval.Cell x j) i = absurd i
declared_left kinds in_frame (a_pinned z) (lval.Cell x j) i = absurd i
declared_left kinds in_frame a_flag (lval.Store a) i = absurd i
declared_left kinds in_frame (a_pinned z) (lval.Store a) i = absurd i

pub declared : (kinds : Kinds) (in_frame : Key → Bool) (hs : List Shape) (ds : List Lval) → TakeShapes kinds in_frame hs ds → All (LeftDeclared kinds) ds
declared kinds in_frame [] [] i = All-nil (LeftDeclared kinds)
declared kinds in_frame (h ∷ hs) (d ∷ ds) i = All-cons (LeftDeclared kinds) d ds (declared_left kinds in_frame h d i.0) (declared kinds in_frame hs ds i.1)
declared kinds in_frame [] (d ∷ ds) i = absurd i
declared kinds in_frame (h ∷ hs) [] i = absurd i

pub runs_any : {A : Type 0} (Q : A → Type 0) (e : Evaluation A) → Runs Q e → Runs (λ x. Unit {0}) e
runs_any Q (stuck k) h = h
runs_any Q (went ns x) h = tt

word_got : (z : Size) (y : Gets) (o : Option Value) → IsGot y (a_word z) o → (n : ℕ) × (o ≡ Some (word z n))
word_got z some_value o q = q
word_got z none o q = absurd q
word_got z (the_word u t) o q = absurd q

module _ (g : Given) (kinds : Kinds) (in_frame : Key → Bool) (entry : Key → ℕ) (s : Facts) (st : State) (H : Stands g kinds in_frame entry s st) (nn : NoNumbers kinds) where
  abbrev pub HalfHere : Facts → State → Type 0
  HalfHere f t = Half g kinds in_frame entry s st.memory f t

  abbrev pub BehindHere : Facts → State → Type 0
  BehindHere f t = Behind g in_frame entry f t

  abbrev pub Before : State → Type 0
  Before t = AsBefore kinds in_frame st t

  pub here : HalfHere s st
  here = record { says = H.says; apart = H.apart; memory = refl }

  pub as_here : Before st
  as_here k n = refl

  pub half_behind : (f : Facts) (t : State) → HalfHere f t → BehindHere f t
  half_behind f t h = record { says = h.says; apart = h.apart; valid = subst (λ d. AreValid entry d g.regions) (sym h.memory) H.regions }

  flag_kept : (k : Key) (v : Option Value) (t : State) → kind_at kinds k ≡ kind.Bool → Before t → Before (with_value t k v)
  flag_kept k v t e b q n = put_elsewhere t.store k q v (λ p. n (ap (kind_at kinds) (sym p) ∙ e)) ∙ b q n

  -- ---- a register or a flag

  pub register_run : (zo : Option Size) (x : Var) (y : Gets) (h : Shape) (o : Option Value) → IsGot y h o → TakesShape kinds in_frame h (lval.Var x) → (f : Facts) (t : State) → HalfHere f t → Runs (HalfHere (renewed (key_of (ref_of x)) (gained g s (ref_of x).kind y) f)) (written zo (lval.Var x) o t)
  register_run zo x y h o q i f t p =
      let r = ref_of x in
      let j = takes g kinds in_frame entry s st.memory h x i in
      runs_then (λ v. v ≡ o) (HalfHere (renewed (key_of r) (gained g s r.kind y) f)) (held_or_unset r.span r.kind o) (λ v. went [] (with_value t (key_of r) v)) (left_held g kinds in_frame entry s st.memory r y h o q j) (λ v e.
      one_half g kinds in_frame entry s st.memory (key_of r) y (gained g s r.kind y) v f t (scalar g kinds in_frame entry s st.memory h r j).apart (gains g kinds in_frame entry s st.memory r.kind y h o q) (λ p. subst IsSome (sym e) (is_there g kinds in_frame entry s st.memory y h o q p)) p)

  pub flag_run : (zo : Option Size) (d : Lval) (y : Gets) (o : Option Value) → IsGot y a_flag o → TakesShape kinds in_frame a_flag d → (f : Facts) (t : State) → HalfHere f t → Before t → Runs (λ u. HalfHere (holding.written g s d y f) u × Before u) (written zo d o t)
  flag_run zo (lval.Skip p) y o q i f t h b = (h, b)
  flag_run zo (lval.Var x) y o q i f t h b =
      let r = ref_of x in
      runs_then (λ v. v ≡ o) (λ u. HalfHere (renewed (key_of r) (gained g s r.kind y) f) u × Before u) (held_or_unset r.span r.kind o) (λ v. went [] (with_value t (key_of r) v)) (left_held g kinds in_frame entry s st.memory r y a_flag o q i) (λ v e. (
        one_half g kinds in_frame entry s st.memory (key_of r) y (gained g s r.kind y) v f t i.1.apart (gains g kinds in_frame entry s st.memory r.kind y a_flag o q) (λ p. subst IsSome (sym e) (is_there g kinds in_frame entry s st.memory y a_flag o q p)) h,
        flag_kept (key_of r) v t (i.1.declared ∙ i.0) b,
      ))
  flag_run zo (lval.Cell x j) y o q i f t h b = absurd i
  flag_run zo (lval.Store a) y o q i f t h b = absurd i

  pub pinned_run : (zo : Option Size) (d : Lval) (y : Gets) (z : Size) (o : Option Value) → IsGot y (a_pinned z) o → TakesShape kinds in_frame (a_pinned z) d → (f : Facts) (t : State) → HalfHere f t → Runs (HalfHere (holding.written g s d y f)) (written zo d o t)
  pinned_run zo (lval.Skip p) y z o q i f t h = h
  pinned_run zo (lval.Var x) y z o q i f t h = register_run zo x y (a_pinned z) o q i f t h
  pinned_run zo (lval.Cell x j) y z o q i f t h = absurd i
  pinned_run zo (lval.Store a) y z o q i f t h = absurd i

  -- ---- the last one

  last_yields : (zo : Option Size) (d : Lval) (y : Gets) (z : Size) (o : Option Value) → IsGot y (a_word z) o → TakesShape kinds in_frame (a_word z) d → (f : Facts) (t : State) → HalfHere f t → Yields (BehindHere (holding.written g s d y f)) (written zo d o t)
  last_yields zo (lval.Skip p) y z o q i f t h = half_behind f t h
  last_yields zo (lval.Var x) y z o q i f t h =
      let F : Facts = renewed (key_of (ref_of x)) (gained g s (ref_of x).kind y) f in
      yields_all (HalfHere F) (BehindHere F) (written zo (lval.Var x) o t) (λ u k. half_behind F u k) (runs_yields (HalfHere F) (written zo (lval.Var x) o t) (register_run zo x y (a_word z) o q i f t h))
  last_yields zo (lval.Cell x j) y z o q i f t h = cell_behind g in_frame entry kinds x j z i.0 i.1 zo o f t (half_behind f t h)
  last_yields zo (lval.Store a) y z o q i f t h = store_behind g in_frame entry a zo o f t (half_behind f t h)

  pub last_goes : (zo : Option Size) (d : Lval) (z : Size) (n : ℕ) → zo ≡ Some z → TakesShape kinds in_frame (a_word z) d → asks_left g s zo d ≡ None → (t : State) → t.memory ≡ st.memory → Before t → Runs (λ u. Unit {0}) (written zo d (Some (word z n)) t)
  last_goes zo (lval.Skip p) z n e i a t m b = tt
  last_goes zo (lval.Var x) z n e i a t m b =
      let r = ref_of x in
      runs_then (λ v. v ≡ Some (word z n)) (λ u. Unit {0}) (held_or_unset r.span r.kind (Some (word z n))) (λ v. went [] (with_value t (key_of r) v)) (word_held g kinds in_frame entry s st.memory r.span r.kind z n i.0) (λ v p. tt)
  last_goes zo (lval.Cell x j) z n e i a t m b = cell_last g kinds in_frame entry s st H nn x j z i.0 i.1 i.2 zo a false (word z n) refl t b
  last_goes zo (lval.Store l) z n e i a t m b = store_last g kinds in_frame entry s st H nn l z zo (ap (option_or (place_of l).spot.size) e ∙ i.0) i.1 a false (word z n) refl t b m

  -- ---- all of them

  pinned_lefts : (at : Span) (zo : Option Size) (ds : List Lval) (ys : List Gets) (hs : List Shape) (os : Results) (f : Facts) (t : State) → ArePinned hs → AreGot ys hs os → TakeShapes kinds in_frame hs ds → HalfHere f t → Runs (HalfHere (all_written g s ds ys f)) (all_put at zo ds os t)
  pinned_lefts at zo [] [] [] [] f t e q i h = h
  pinned_lefts at zo (d ∷ ds) (y ∷ ys) (a_pinned z ∷ hs) (o ∷ os) f t e q i h =
      let F : Facts = holding.written g s d y f in
      runs_then (HalfHere F) (HalfHere (all_written g s ds ys F)) (written zo d o t) (λ u. all_put at zo ds os u) (pinned_run zo d y z o q.0 i.0 f t h) (λ u k. pinned_lefts at zo ds ys hs os F u e q.1 i.1 k)
  pinned_lefts at zo ds ys (a_flag ∷ hs) os f t e q i h = absurd e
  pinned_lefts at zo ds ys (a_word z ∷ hs) os f t e q i h = absurd e
  pinned_lefts at zo ds (y ∷ ys) [] os f t e q i h = absurd q
  pinned_lefts at zo ds [] (a_pinned z ∷ hs) os f t e q i h = absurd q
  pinned_lefts at zo ds (y ∷ ys) (a_pinned z ∷ hs) [] f t e q i h = absurd q
  pinned_lefts at zo ds [] [] (o ∷ os) f t e q i h = absurd q
  pinned_lefts at zo [] (y ∷ ys) (a_pinned z ∷ hs) (o ∷ os) f t e q i h = absurd i
  pinned_lefts at zo (d ∷ ds) [] [] [] f t e q i h = absurd i

  pub lefts_yield : (at : Span) (zo : Option Size) (ds : List Lval) (ys : List Gets) (hs : List Shape) (os : Results) (f : Facts) (t : State) → (z : Size) → IsEnded z hs → AreGot ys hs os → TakeShapes kinds in_frame hs ds → HalfHere f t → Before t → Yields (BehindHere (all_written g s ds ys f)) (all_put at zo ds os t)
  lefts_yield at zo [] [] [] [] f t r e q i h b = half_behind f t h
  lefts_yield at zo (d ∷ ds) (y ∷ ys) (a_flag ∷ hs) (o ∷ os) f t r e q i h b =
      let F : Facts = holding.written g s d y f in
      let P : State → Type 0 = λ (u : State). HalfHere F u × Before u in
      yields_then P (BehindHere (all_written g s ds ys F)) (written zo d o t) (λ u. all_put at zo ds os u) (runs_yields P (written zo d o t) (flag_run zo d y o q.0 i.0 f t h b)) (λ u k. lefts_yield at zo ds ys hs os F u r e q.1 i.1 k.0 k.1)
  lefts_yield at zo (d ∷ []) (y ∷ []) (a_word z ∷ []) (o ∷ []) f t r e q i h b =
      let F : Facts = holding.written g s d y f in
      yields_then (BehindHere F) (BehindHere F) (written zo d o t) (λ u. went [] u) (last_yields zo d y z o q.0 i.0 f t h) (λ u k. k)
  lefts_yield at zo (d ∷ ds) (y ∷ ys) (a_pinned z ∷ hs) (o ∷ os) f t r e q i h b =
      let F : Facts = all_written g s (d ∷ ds) (y ∷ ys) f in
      let E : Evaluation State = all_put at zo (d ∷ ds) (o ∷ os) t in
      yields_all (HalfHere F) (BehindHere F) E (λ u k. half_behind F u k) (runs_yields (HalfHere F) E (pinned_lefts at zo (d ∷ ds) (y ∷ ys) (a_pinned z ∷ hs) (o ∷ os) f t e q i h))
  lefts_yield at zo ds (y ∷ ys) [] os f t r e q i h b = absurd q
  lefts_yield at zo ds [] (x ∷ hs) os f t r e q i h b = absurd q
  lefts_yield at zo ds (y ∷ ys) (x ∷ hs) [] f t r e q i h b = absurd q
  lefts_yield at zo ds [] [] (o ∷ os) f t r e q i h b = absurd q
  lefts_yield at zo [] (y ∷ ys) (x ∷ hs) (o ∷ os) f t r e q i h b = absurd i
  lefts_yield at zo (d ∷ ds) [] [] [] f t r e q i h b = absurd i
  lefts_yield at zo ds ys (a_word z ∷ x ∷ hs) os f t r e q i h b = absurd (cc e.1)
  lefts_yield at zo ds (y ∷ v ∷ ys) (a_word z ∷ []) (o ∷ os) f t r e q i h b = absurd q.1
  lefts_yield at zo ds (y ∷ []) (a_word z ∷ []) (o ∷ w ∷ os) f t r e q i h b = absurd q.1
  lefts_yield at zo (d ∷ c ∷ ds) (y ∷ []) (a_word z ∷ []) (o ∷ []) f t r e q i h b = absurd i.1

  pub lefts_go : (at : Span) (zo : Option Size) (ds : List Lval) (ys : List Gets) (hs : List Shape) (os : Results) (f : Facts) (t : State) → (z : Size) → zo ≡ Some z → asks_lefts g s zo ds ≡ None → IsEnded z hs → AreGot ys hs os → TakeShapes kinds in_frame hs ds → HalfHere f t → Before t → Runs (λ u. Unit {0}) (all_put at zo ds os t)
  lefts_go at zo [] [] [] [] f t r l a e q i h b = tt
  lefts_go at zo (d ∷ ds) (y ∷ ys) (a_flag ∷ hs) (o ∷ os) f t r l a e q i h b =
      let F : Facts = holding.written g s d y f in
      runs_then (λ (u : State). HalfHere F u × Before u) (λ u. Unit {0}) (written zo d o t) (λ u. all_put at zo ds os u) (flag_run zo d y o q.0 i.0 f t h b) (λ u k. lefts_go at zo ds ys hs os F u r l (both_met (asks_left g s zo d) _ a).1 e q.1 i.1 k.0 k.1)
  lefts_go at zo (d ∷ []) (y ∷ []) (a_word z ∷ []) (o ∷ []) f t r l a e q i h b =
      let w = word_got z y o q.0 in
      subst (λ v. Runs (λ u. Unit {0}) (and_then (written zo d v t) (λ u. went [] u))) (sym w.1)
      (runs_then (λ u. Unit {0}) (λ u. Unit {0}) (written zo d (Some (word z w.0)) t) (λ u. went [] u) (last_goes zo d z w.0 (l ∙ ap Some (sym e.0)) i.0 (both_met (asks_left g s zo d) _ a).0 t h.memory b) (λ u k. tt))
  lefts_go at zo (d ∷ ds) (y ∷ ys) (a_pinned z ∷ hs) (o ∷ os) f t r l a e q i h b =
      runs_any (HalfHere (all_written g s (d ∷ ds) (y ∷ ys) f)) (all_put at zo (d ∷ ds) (o ∷ os) t) (pinned_lefts at zo (d ∷ ds) (y ∷ ys) (a_pinned z ∷ hs) (o ∷ os) f t e q i h)
  lefts_go at zo ds (y ∷ ys) [] os f t r l a e q i h b = absurd q
  lefts_go at zo ds [] (x ∷ hs) os f t r l a e q i h b = absurd q
  lefts_go at zo ds (y ∷ ys) (x ∷ hs) [] f t r l a e q i h b = absurd q
  lefts_go at zo ds [] [] (o ∷ os) f t r l a e q i h b = absurd q
  lefts_go at zo [] (y ∷ ys) (x ∷ hs) (o ∷ os) f t r l a e q i h b = absurd i
  lefts_go at zo (d ∷ ds) [] [] [] f t r l a e q i h b = absurd i
  lefts_go at zo ds ys (a_word z ∷ x ∷ hs) os f t r l a e q i h b = absurd (cc e.1)
  lefts_go at zo ds (y ∷ v ∷ ys) (a_word z ∷ []) (o ∷ os) f t r l a e q i h b = absurd q.1
  lefts_go at zo ds (y ∷ []) (a_word z ∷ []) (o ∷ w ∷ os) f t r l a e q i h b = absurd q.1
  lefts_go at zo (d ∷ c ∷ ds) (y ∷ []) (a_word z ∷ []) (o ∷ []) f t r l a e q i h b = absurd i.1
