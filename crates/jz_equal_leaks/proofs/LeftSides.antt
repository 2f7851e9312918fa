-- Left sides in states that agree: the same is leaked, and the states agree behind them.
use Rattle.std.proofs.Common.{◌≡◌, ℕ, Bool, true, false, List, [], ◌∷◌, map, Option, Some, None, refl, sym, ap, subst, ◌∙◌, if◌then◌else◌}
use Rattle.std.specs.Prelude.{◌||◌}
use Rattle.std.specs.Option.{option_or}
use Rattle.std.proofs.lemmas.Bool.{true≢false}
use Rattle.std.proofs.lemmas.Slice.Eq.{bytes_eq-Decides}
use Rattle.std.proofs.Common.{arith}
use Rattle.std.proofs.lemmas.Bool.Decides.{nat_tests}
use Rattle.std.specs.Prelude.{◌==◌}
use Rattle.jz_tree.specs.Span.{Span}
use Rattle.x64_insn.specs.Size.{Size}
use Rattle.x64_insn.specs.Size.TheVariants.{S64}
use Rattle.x64_insn.specs.Memory.{Memory}
use Rattle.jz_tree.specs.declared.expr.Expr.{Expr}
use Rattle.jz_tree.specs.declared.expr.Access.{Access}
use Rattle.jz_tree.specs.declared.expr.Expr.TheOpen.{Access-F}
use Rattle.jz_tree.specs.declared.expr.Expr.TheViews.{out-Access, roll-Access, roll-out-Access}
use Rattle.jz_tree.specs.declared.expr.Expr.TheFolds.{fold-roll-Access}
use Rattle.jz_tree.specs.declared.expr.Ty.{Ty}
use Rattle.jz_tree.specs.declared.expr.Decl.{Decl}
use Rattle.jz_tree.specs.declared.expr.Var.{Var}
use Rattle.jz_tree.specs.declared.stmt.Lval.{Lval}
use Rattle.jz_tree.specs.declared.stmt.Lval.TheVariants as lval
use Rattle.jz_runs.specs.Rules.{stuck, went}
use Rattle.jz_meaning.specs.declared.access.Kind.{Kind}
use Rattle.jz_meaning.specs.declared.access.Kind.TheVariants as kind
use Rattle.jz_meaning.specs.declared.value.Why.TheVariants.{Address, Align, Init}
use Rattle.jz_meaning.specs.Attempts.{Evaluation, stuck_at, and_then}
use Rattle.jz_meaning.specs.States.{Value, word, boolean, integer, Key, same_cell, same_key, Store, put, State}
use Rattle.jz_meaning.specs.Operators.{word_at}
use Rattle.jz_meaning.specs.Values.{Ref, key_of, cell_key, ref_of, index_at, MemoryAccess, Meaning, expr_step, ty_step, access_step, decl_step, var_step, meaning_of, access_of, is_aligned, accessed, after_store, store_word, address_at, store_at, evaluated}
use Rattle.jz_meaning.specs.Assignments.{Results, left_size, word_value, held, held_or_unset, with_value, in_cell, written, all_written}
use Rattle.jz_terms.specs.Terms.{Term, Place, term_of, place_of, means}
use Rattle.jz_terms.proofs.Bridge.{term_so, place_is, access_at}
use Rattle.jz_labels.specs.Operations.{Left, nothing, scalar, element, bytes, left_of}
use Rattle.jz_labels.specs.Labels.{Publics, first, secret_in, with_label, labelled, all_labelled}
use Rattle.jz_labels.specs.Required.{Address as AddressBreach, breach_in, breach_in_place, breach_in_left, breach_in_lefts, into_public}
use Rattle.jz_labels.proofs.Keys.{keys_same}
use Rattle.jz_equal_leaks.specs.TwoRuns.{BothGive}
use Rattle.jz_equal_leaks.specs.Fixed.{whole, IsScalar, IsArray, IsFixed, IsFixedLeft, AreFixedLefts}
use Rattle.jz_equal_leaks.specs.Agreeing.{Agree}
use Rattle.jz_equal_leaks.proofs.Parts.{Any, give_stuck, stuck_give, less_give, itself, equal_give, then_give, Silent, silent_give, silent_then, silent_defined}
use Rattle.jz_equal_leaks.proofs.Values.{first_none, no_secret, term_same}
use Rattle.jz_equal_leaks.proofs.Links.{Linked, silent_linked, silent_word, expr_same}

-- ---- an access is that of its place

rolled_so : (x : Access-F Expr Ty Access Decl Var) → access_of (roll-Access x) ≡ access_at (place_of (roll-Access x))
rolled_so x =
    fold-roll-Access _ _ _ _ _ expr_step ty_step access_step decl_step var_step x
    ∙ ap (λ (m : Meaning). record { size = x.size; at = m.run (Some S64); unaligned = x.unaligned; span = x.span }) (term_so x.at)
    ∙ ap access_at (sym (place_is x))

access_so : (a : Access) → access_of a ≡ access_at (place_of a)
access_so a = subst (λ b. access_of b ≡ access_at (place_of b)) (roll-out-Access a) (rolled_so (out-Access a))

-- ---- keys

number_same : (i : ℕ) → (i == i) ≡ true
number_same i = grind (arith, nat_tests)

cell_same : (c : Option ℕ) → same_cell c c ≡ true
cell_same None = refl
cell_same (Some i) = number_same i

pub key_itself : (k : Key) → same_key k k ≡ true
key_itself k = let a = (bytes_eq-Decides k.name k.name).1 refl in let b = number_same k.copy in let c = cell_same k.cell in rw (a, b, c)

pub other_key : (a b : Key) (c : Bool) → same_key b a ≡ c → same_key a b ≡ false → c ≡ false
other_key a b true e h = absurd (true≢false (sym (ap (same_key a) (keys_same b a e) ∙ key_itself a) ∙ h))
other_key a b false e h = refl

-- ---- what is kept of a value

silent_held : (at : Span) (k : Kind) (v : Value) → Silent (held at k v)
silent_held at (kind.Word s) v = silent_then (word_at at s v) (λ n. went [] (word s n)) (silent_word at s v) (λ n. refl)
silent_held at kind.Int (integer i) = refl
silent_held at kind.Int (word s n) = tt
silent_held at kind.Int (boolean c) = tt
silent_held at kind.Bool (boolean c) = refl
silent_held at kind.Bool (word s n) = tt
silent_held at kind.Bool (integer i) = tt
silent_held at kind.Undeclared v = tt
silent_held at (kind.Array s n) v = tt

silent_unset : (at : Span) (k : Kind) (v : Option Value) → Silent (held_or_unset at k v)
silent_unset at k None = refl
silent_unset at k (Some v) = silent_then (held at k v) (λ h. went [] (Some h)) (silent_held at k v) (λ h. refl)

abbrev value_or : Value → Option Value → Value
value_or d None = d
value_or d (Some q) = q

some_same : (p q : Value) → Some p ≡ Some q → p ≡ q
some_same p q e = ap (value_or p) e

-- ---- a store leaks its address

stored_if : (at : Span) (u : Bool) (z : Size) (n : ℕ) (x y : Option Memory) → BothGive (Any {A = Memory}) (accessed at u z n x) (accessed at u z n y)
stored_if at u z n None None = tt
stored_if at u z n None (Some y) = stuck_give (Any {A = Memory}) (accessed at u z n (Some y)) (record { span = at; why = Address })
stored_if at u z n (Some x) None = give_stuck (Any {A = Memory}) (accessed at u z n (Some x)) (record { span = at; why = Address })
stored_if at u z n (Some x) (Some y) = by (u || is_aligned z n)
  where
    by : (c : Bool) → BothGive (Any {A = Memory}) (if c then went (n ∷ []) x else stuck_at at Align) (if c then went (n ∷ []) y else stuck_at at Align)
    by true = (refl, tt)
    by false = tt

words_stored : (at : Span) (u : Bool) (o : Option Size) (n : ℕ) (v w : Option Value) (m k : Memory) → BothGive (Any {A = Memory}) (store_word at u o n v m) (store_word at u o n w k)
words_stored at u None n v w m k = tt
words_stored at u (Some z) n None w m k = stuck_give (Any {A = Memory}) (store_word at u (Some z) n w k) (record { span = at; why = Init })
words_stored at u (Some z) n (Some v) None m k = give_stuck (Any {A = Memory}) (store_word at u (Some z) n (Some v) m) (record { span = at; why = Init })
words_stored at u (Some z) n (Some v) (Some w) m k =
    then_give (Any {A = ℕ}) (Any {A = Memory}) (word_at at z v) (word_at at z w) _ _ (silent_give (word_at at z v) (word_at at z w) (silent_word at z v) (silent_word at z w))
    (λ x y r. stored_if at u z n (after_store m n z x) (after_store k n z y))

memory_written : (p : MemoryAccess) (z : Option Size) (j : Value) (v w : Option Value) (m k : Memory) → BothGive (Any {A = Memory}) (store_at p z j v m) (store_at p z j w k)
memory_written p z j v w m k =
    then_give (λ (x y : ℕ). x ≡ y) (Any {A = Memory}) (address_at p j) (address_at p j) _ _ (itself (λ (x y : ℕ). x ≡ y) (address_at p j) (λ x. refl))
    (λ x y r. subst (λ (q : ℕ). BothGive (Any {A = Memory}) (store_word p.span p.unaligned (option_or p.size z) x v m) (store_word p.span p.unaligned (option_or p.size z) q w k)) r (words_stored p.span p.unaligned (option_or p.size z) x v w m k))

module _ (in_frame : Key → Bool) (arrays : Publics) (z : Bool) where
  -- ---- one key more

  module _ (s : Publics) (a b : State) (g : Agree in_frame arrays s a b) where
    scalar_set : (x : Ref) → IsScalar in_frame x → (h k : Option Value) → Linked z h k → Agree in_frame arrays (with_label (key_of x) z s) (with_value a (key_of x) h) (with_value b (key_of x) k)
    scalar_set x f h k l = record { scalars = λ q i e. at_scalar q (same_key (key_of x) q) refl i e; cells = λ q i e. at_cell q (same_key (key_of x) q) refl i e }
      where
        labelled_so : (q : Key) (c : Bool) → same_key q (key_of x) ≡ c → c ≡ true → (if c then z else s q) ≡ true → z ≡ true
        labelled_so q true r t e = e
        labelled_so q false r t e = absurd (cc t)

        before_so : (q : Key) (c : Bool) → c ≡ false → (if c then z else s q) ≡ true → s q ≡ true
        before_so q true t e = absurd (cc t)
        before_so q false t e = e

        at_scalar : (q : Key) (c : Bool) → same_key (key_of x) q ≡ c → in_frame (whole q) ≡ false → with_label (key_of x) z s q ≡ true → (if c then h else a.store q) ≡ (if c then k else b.store q)
        at_scalar q true r i e =
            l (labelled_so q (same_key q (key_of x)) refl (ap (λ (y : Key). same_key y (key_of x)) (sym (keys_same (key_of x) q r)) ∙ key_itself (key_of x)) e)
        at_scalar q false r i e = g.scalars q i (before_so q (same_key q (key_of x)) (other_key (key_of x) q (same_key q (key_of x)) refl r) e)

        at_cell : (q : Key) (c : Bool) → same_key (key_of x) q ≡ c → in_frame (whole q) ≡ true → arrays (whole q) ≡ true → (if c then h else a.store q) ≡ (if c then k else b.store q)
        at_cell q true r i e = absurd (true≢false (sym i ∙ ap (λ (y : Key). in_frame (whole y)) (sym (keys_same (key_of x) q r)) ∙ f))
        at_cell q false r i e = g.cells q i e

    cell_set : (x : Ref) → IsArray in_frame x → (n : ℕ) (h k : Option Value) → Linked z h k → (z ≡ false → arrays (key_of x) ≡ false) → Agree in_frame arrays s (with_value a (cell_key x n) h) (with_value b (cell_key x n) k)
    cell_set x f n h k l u = record { scalars = λ q i e. at_scalar q (same_key (cell_key x n) q) refl i e; cells = λ q i e. at_cell q (same_key (cell_key x n) q) refl i e }
      where
        entire : whole (key_of x) ≡ key_of x
        entire = ap (λ (c : Option ℕ). record { name = x.name; copy = x.copy; cell = c }) (sym f.1)

        public_so : (v : Bool) → z ≡ v → arrays (key_of x) ≡ true → z ≡ true
        public_so true r e = r
        public_so false r e = absurd (true≢false (sym e ∙ u r))

        at_scalar : (q : Key) (c : Bool) → same_key (cell_key x n) q ≡ c → in_frame (whole q) ≡ false → s q ≡ true → (if c then h else a.store q) ≡ (if c then k else b.store q)
        at_scalar q true r i e = absurd (true≢false (sym f.0 ∙ ap (λ (y : Key). in_frame (whole y)) (keys_same (cell_key x n) q r) ∙ i))
        at_scalar q false r i e = g.scalars q i e

        at_cell : (q : Key) (c : Bool) → same_key (cell_key x n) q ≡ c → in_frame (whole q) ≡ true → arrays (whole q) ≡ true → (if c then h else a.store q) ≡ (if c then k else b.store q)
        at_cell q true r i e = l (public_so z refl (ap arrays (sym entire) ∙ ap (λ (y : Key). arrays (whole y)) (keys_same (cell_key x n) q r) ∙ e))
        at_cell q false r i e = g.cells q i e

    -- ---- one left side

    cell_given : (x : Ref) → IsArray in_frame x → (n : ℕ) (y : Option Size) (v w : Option Value) → Linked z v w → (z ≡ false → arrays (key_of x) ≡ false) → BothGive (Agree in_frame arrays s) (in_cell x n y v a) (in_cell x n y w b)
    cell_given x f n None v w l u = tt
    cell_given x f n (Some y) None w l u = stuck_give (Agree in_frame arrays s) (in_cell x n (Some y) w b) (record { span = x.span; why = Init })
    cell_given x f n (Some y) (Some v) None l u = give_stuck (Agree in_frame arrays s) (in_cell x n (Some y) (Some v) a) (record { span = x.span; why = Init })
    cell_given x f n (Some y) (Some v) (Some w) l u =
        then_give (Linked {A = Value} z) (Agree in_frame arrays s) (word_value x.span y v) (word_value x.span y w) _ _
        (silent_linked z (word_value x.span y) v w (λ q. silent_then (word_at x.span y q) (λ m. went [] (word y m)) (silent_word x.span y q) (λ m. refl)) (λ e. some_same v w (l e)))
        (λ h k r. (refl, cell_set x f n (Some h) (Some k) (λ e. ap Some (r e)) u))

    element_written : (y : Option Size) (x : Var) (i : Expr) (v w : Option Value) → Linked z v w → IsArray in_frame (ref_of x) → IsFixed in_frame (term_of i) → secret_in arrays s (term_of i) ≡ None → (z ≡ false → arrays (key_of (ref_of x)) ≡ false)
        → BothGive (Agree in_frame arrays s) (written y (lval.Cell x i) v a) (written y (lval.Cell x i) w b)
    element_written y x i v w l f fi n u =
        then_give (λ (p q : Value). p ≡ q) (Agree in_frame arrays s) (evaluated i (Some S64) a) (evaluated i (Some S64) b) _ _
        (equal_give (λ (p q : Value). p ≡ q) (evaluated i (Some S64) a) (evaluated i (Some S64) b) (expr_same in_frame arrays s a b g i fi n (Some S64)) (λ p. refl))
        (λ p q r. then_give (λ (m k : ℕ). m ≡ k) (Agree in_frame arrays s) (index_at (ref_of x) p) (index_at (ref_of x) q) _ _
        (equal_give (λ (m k : ℕ). m ≡ k) (index_at (ref_of x) p) (index_at (ref_of x) q) (ap (index_at (ref_of x)) r) (λ m. refl))
        (λ m k t. subst (λ (j : ℕ). BothGive (Agree in_frame arrays s) (in_cell (ref_of x) m (left_size (lval.Cell x i)) v a) (in_cell (ref_of x) j (left_size (lval.Cell x i)) w b)) t
        (cell_given (ref_of x) f m (left_size (lval.Cell x i)) v w l u)))

    place_written : (p : Place) (y : Option Size) (v w : Option Value) → IsFixed in_frame p.at → secret_in arrays s p.at ≡ None
        → BothGive (Agree in_frame arrays s)
        (and_then ((access_at p).at a) (λ n. and_then (store_at (access_at p) y n v a.memory) (λ m. went [] (record a { memory = m }))))
        (and_then ((access_at p).at b) (λ n. and_then (store_at (access_at p) y n w b.memory) (λ m. went [] (record b { memory = m }))))
    place_written p y v w f n =
        then_give (λ (i j : Value). i ≡ j) (Agree in_frame arrays s) ((access_at p).at a) ((access_at p).at b) _ _
        (equal_give (λ (i j : Value). i ≡ j) ((access_at p).at a) ((access_at p).at b) (term_same in_frame arrays s a b g p.at f n (Some S64)) (λ i. refl))
        (λ i j r. then_give (Any {A = Memory}) (Agree in_frame arrays s) (store_at (access_at p) y i v a.memory) (store_at (access_at p) y j w b.memory) _ _
        (subst (λ (q : Value). BothGive (Any {A = Memory}) (store_at (access_at p) y i v a.memory) (store_at (access_at p) y q w b.memory)) r (memory_written (access_at p) y i v w a.memory b.memory))
        (λ m k t. (refl, record { scalars = g.scalars; cells = g.cells })))

    left_written : (d : Lval) (y : Option Size) (v w : Option Value) → Linked z v w → IsFixedLeft in_frame (left_of d) → breach_in_left arrays s (left_of d) ≡ None → (z ≡ false → into_public arrays (left_of d ∷ []) ≡ None)
        → BothGive (Agree in_frame arrays (labelled z (left_of d) s)) (written y d v a) (written y d w b)
    left_written (lval.Skip at) y v w l f n u = (refl, g)
    left_written (lval.Var x) y v w l f n u =
        then_give (Linked {A = Option Value} z) (Agree in_frame arrays (labelled z (scalar (ref_of x)) s)) (held_or_unset (ref_of x).span (ref_of x).kind v) (held_or_unset (ref_of x).span (ref_of x).kind w) _ _
        (silent_linked z (held_or_unset (ref_of x).span (ref_of x).kind) v w (silent_unset (ref_of x).span (ref_of x).kind) l)
        (λ h k r. (refl, scalar_set (ref_of x) f h k r))
    left_written (lval.Cell x i) y v w l f n u =
        let e = first_none (breach_in arrays s (term_of i)) (breach_in_place arrays s (ref_of x).span (term_of i)) n in
        element_written y x i v w l f.0 f.1 (no_secret (ref_of x).span AddressBreach (secret_in arrays s (term_of i)) e.1)
        (λ q. not_public (arrays (key_of (ref_of x))) (key_of (ref_of x)) (u q))
      where
        not_public : (c : Bool) (k : Key) → (if c then Some k else None) ≡ None → c ≡ false
        not_public true k e = absurd (cc e)
        not_public false k e = refl
    left_written (lval.Store p) y v w l f n u =
        let e = first_none (breach_in arrays s (place_of p).at) (breach_in_place arrays s (place_of p).spot.span (place_of p).at) n in
        subst (λ (q : MemoryAccess). BothGive (Agree in_frame arrays s) (and_then (q.at a) (λ n. and_then (store_at q y n v a.memory) (λ m. went [] (record a { memory = m })))) (and_then (q.at b) (λ n. and_then (store_at q y n w b.memory) (λ m. went [] (record b { memory = m }))))) (sym (access_so p))
        (place_written (place_of p) y v w f (no_secret (place_of p).spot.span AddressBreach (secret_in arrays s (place_of p).at) e.1))

  -- ---- all of them, each labelled before the next is evaluated

  abbrev first_of : Option Value → Results → Option Value
  first_of d [] = d
  first_of d (v ∷ vs) = v

  abbrev rest_of : Results → Results
  rest_of [] = []
  rest_of (v ∷ vs) = vs

  this_public : (d : Left) (ds : List Left) → into_public arrays (d ∷ ds) ≡ None → (into_public arrays (d ∷ []) ≡ None) × (into_public arrays ds ≡ None)
  this_public nothing ds e = (refl, e)
  this_public (scalar x) ds e = (refl, e)
  this_public (element x i) ds e = by (arrays (key_of x)) e
    where
      by : (c : Bool) → (if c then Some (key_of x) else into_public arrays ds) ≡ None → ((if c then Some (key_of x) else None) ≡ None) × (into_public arrays ds ≡ None)
      by true e = absurd (cc e)
      by false e = (refl, e)
  this_public (bytes p a) ds e = (refl, e)

  pub lefts_written : (at : Span) (y : Option Size) (ds : List Lval) (vs ws : Results) → Linked z vs ws → (s : Publics) (a b : State) → Agree in_frame arrays s a b
      → AreFixedLefts in_frame (map left_of ds) → breach_in_lefts arrays z (map left_of ds) s ≡ None → (z ≡ false → into_public arrays (map left_of ds) ≡ None)
      → BothGive (Agree in_frame arrays (all_labelled z (map left_of ds) s)) (all_written at y ds vs a) (all_written at y ds ws b)
  lefts_written at y [] [] [] l s a b g f n u = (refl, g)
  lefts_written at y [] [] (w ∷ ws) l s a b g f n u = tt
  lefts_written at y [] (v ∷ vs) [] l s a b g f n u = tt
  lefts_written at y [] (v ∷ vs) (w ∷ ws) l s a b g f n u = tt
  lefts_written at y (d ∷ ds) [] ws l s a b g f n u = stuck_give (Agree in_frame arrays (all_labelled z (map left_of (d ∷ ds)) s)) (all_written at y (d ∷ ds) ws b) (record { span = at; why = Init })
  lefts_written at y (d ∷ ds) (v ∷ vs) [] l s a b g f n u = give_stuck (Agree in_frame arrays (all_labelled z (map left_of (d ∷ ds)) s)) (all_written at y (d ∷ ds) (v ∷ vs) a) (record { span = at; why = Init })
  lefts_written at y (d ∷ ds) (v ∷ vs) (w ∷ ws) l s a b g f n u =
      let e = first_none (breach_in_left arrays s (left_of d)) (breach_in_lefts arrays z (map left_of ds) (labelled z (left_of d) s)) n in
      then_give (Agree in_frame arrays (labelled z (left_of d) s)) (Agree in_frame arrays (all_labelled z (map left_of ds) (labelled z (left_of d) s))) (written y d v a) (written y d w b) _ _
      (left_written s a b g d y v w (λ q. ap (first_of v) (l q)) f.0 e.0 (λ q. (this_public (left_of d) (map left_of ds) (u q)).0))
      (λ t r k. lefts_written at y ds vs ws (λ q. ap rest_of (l q)) (labelled z (left_of d) s) t r k f.1 e.1 (λ q. (this_public (left_of d) (map left_of ds) (u q)).1))
