-- What stands for each other where inline variables are set, unset and left alone.
use Rattle.std.proofs.Common.{◌≡◌, ℕ, zero, suc, List, [], ◌∷◌, Option, Some, None, Bool, true, false, refl, ap, sym, ◌∙◌, eqb-true}
use Rattle.std.specs.Prelude.{ℤ, ◌==◌, ◌&&◌, not, is_none, if◌then◌else◌}
use Rattle.std.specs.Str.{bytes_eq}
use Rattle.std.proofs.lemmas.Bool.{and_parts}
use Rattle.jz_tree.proofs.Texts.{bytes_eq-true}
use Rattle.jz_tree.specs.declared.expr.Var.{Var}
use Rattle.jz_integers.specs.Integers.{KnownNumbers}
use Rattle.jz_meaning.specs.declared.access.Kind.{Kind}
use Rattle.jz_meaning.specs.declared.access.Kind.TheVariants as kind
use Rattle.jz_meaning.specs.Assignments.{with_value}
use Rattle.jz_meaning.specs.States.{Value, integer, Key, Store, State, same_cell, same_key, put}
use Rattle.jz_meaning.specs.Statements.{no_cells, without, all_unset}
use Rattle.jz_meaning.specs.Values.{Ref, key_of, cell_key, ref_of}
use Rattle.jz_unroll.specs.Values.{InlineNames, is_inline_var}
use Rattle.jz_unroll.specs.Unrolling.{with_number, all_unknown, marked_vars, KnowsLess}
use Rattle.jz_unroll.specs.ValueLaws.{HoldsKnown, KnowsInline, StandsFor}

-- ---- keys

clash : {A : Type 0} {b : Bool} → b ≡ true → b ≡ false → A
clash {A} {b} p q = absurd cc

-- one name and copy have one answer
same_names : (names : InlineNames) (k q : Key) → same_key k q ≡ true → names k.name k.copy ≡ names q.name q.copy
same_names names k q e =
    let p = and_parts (bytes_eq k.name q.name) _ e in
    let r = and_parts (k.copy == q.copy) _ p.1 in
    let n : k.name ≡ q.name = bytes_eq-true k.name q.name p.0 in
    let c : k.copy ≡ q.copy = eqb-true k.copy q.copy r.0 in
    ap (λ x. names x k.copy) n ∙ ap (names q.name) c

-- another name or copy is another key
other_key : (a : Bool) (b c : Bool) → (a && b) ≡ false → (a && (b && c)) ≡ false
other_key true true c e = absurd cc
other_key true false c e = refl
other_key false b c e = refl

same_both : (a b c : Bool) → (a && b) ≡ true → (a && (b && c)) ≡ c
same_both true true c e = refl
same_both true false c e = absurd cc
same_both false b c e = absurd cc

whole_cells : (a b : Option ℕ) → is_none a ≡ true → is_none b ≡ true → same_cell a b ≡ true
whole_cells None None p q = refl
whole_cells None (Some j) p q = absurd cc
whole_cells (Some i) b p q = absurd cc

put_other : (store : Store) (k q : Key) (v : Option Value) → same_key k q ≡ false → put store k v q ≡ store q
put_other store k q v e = ap (λ (b : Bool). if b then v else store q) e

put_same : (store : Store) (k q : Key) (v : Option Value) → same_key k q ≡ true → put store k v q ≡ v
put_same store k q v e = ap (λ (b : Bool). if b then v else store q) e

-- two names with different answers are no one key
apart : (names : InlineNames) (k q : Key) → names k.name k.copy ≡ false → names q.name q.copy ≡ true → same_key k q ≡ false
apart names k q e f = by_test (same_key k q) refl
  where
    by_test : (c : Bool) → same_key k q ≡ c → c ≡ false
    by_test false p = refl
    by_test true p = absurd (let x : names q.name q.copy ≡ false = sym (same_names names k q p) ∙ e in cc)

apart_too : (names : InlineNames) (k q : Key) → names k.name k.copy ≡ true → names q.name q.copy ≡ false → same_key k q ≡ false
apart_too names k q e f = by_test (same_key k q) refl
  where
    by_test : (c : Bool) → same_key k q ≡ c → c ≡ false
    by_test false p = refl
    by_test true p = absurd (let x : names k.name k.copy ≡ false = same_names names k q p ∙ f in cc)

module _ (names : InlineNames) where
  -- ---- a variable that is not inline

  put_alike : (s t : State) (k q : Key) (v : Option Value) (c : Bool) → same_key k q ≡ c → t.store q ≡ s.store q → put t.store k v q ≡ put s.store k v q
  put_alike s t k q v true e h = put_same t.store k q v e ∙ sym (put_same s.store k q v e)
  put_alike s t k q v false e h = put_other t.store k q v e ∙ h ∙ sym (put_other s.store k q v e)

  pub put_stands : (e : KnownNumbers) (s t : State) (k : Key) (v : Option Value) → names k.name k.copy ≡ false → StandsFor names e s t → StandsFor names e (with_value s k v) (with_value t k v)
  put_stands e s t k v plain h = record {
    known = λ r i w q. put_other s.store k (key_of r) v (apart names k (key_of r) plain (h.inline r.name r.copy i q)) ∙ h.known r i w q;
    inline = h.inline;
    differs = record {
      variables = λ q f. put_alike s t k q v (same_key k q) refl (h.differs.variables q f);
      memory = h.differs.memory;
    };
  }

  -- ---- an inline variable

  -- it has this number, or none that is known
  abbrev Has : Option ℤ → Option Value → Type 0
  Has n w = (i : ℤ) → n ≡ Some i → w ≡ Some (integer i)

  number_known : (e : KnownNumbers) (v : Var) (n : Option ℤ) (w : Option Value) (s : State) → is_none (ref_of v).cell ≡ true → HoldsKnown e s → Has n w
      → (r : Ref) (i : ℤ) → is_none r.cell ≡ true → with_number e v n r.name r.copy ≡ Some i → put s.store (key_of (ref_of v)) w (key_of r) ≡ Some (integer i)
  number_known e v n w s whole h has r i z q = by_test (bytes_eq (ref_of v).name r.name && (ref_of v).copy == r.copy) refl q
    where
      by_test : (c : Bool) → (bytes_eq (ref_of v).name r.name && (ref_of v).copy == r.copy) ≡ c → (if c then n else e r.name r.copy) ≡ Some i → put s.store (key_of (ref_of v)) w (key_of r) ≡ Some (integer i)
      by_test true p x =
          let one : same_key (key_of (ref_of v)) (key_of r) ≡ true = same_both (bytes_eq (ref_of v).name r.name) ((ref_of v).copy == r.copy) (same_cell (ref_of v).cell r.cell) p ∙ whole_cells (ref_of v).cell r.cell whole z in
          put_same s.store (key_of (ref_of v)) (key_of r) w one ∙ has i x
      by_test false p x =
          let other : same_key (key_of (ref_of v)) (key_of r) ≡ false = other_key (bytes_eq (ref_of v).name r.name) ((ref_of v).copy == r.copy) (same_cell (ref_of v).cell r.cell) p in
          put_other s.store (key_of (ref_of v)) (key_of r) w other ∙ h r i z x

  name_same : (v : Var) (n : List ℕ) (c : ℕ) → (bytes_eq (ref_of v).name n && (ref_of v).copy == c) ≡ true → names n c ≡ is_inline_var names v
  name_same v n c p =
      let q = and_parts (bytes_eq (ref_of v).name n) _ p in
      let x : (ref_of v).name ≡ n = bytes_eq-true (ref_of v).name n q.0 in
      let y : (ref_of v).copy ≡ c = eqb-true (ref_of v).copy c q.1 in
      ap (λ m. names m c) (sym x) ∙ ap (names (ref_of v).name) (sym y)

  number_inline : (e : KnownNumbers) (v : Var) (o : Option ℤ) → is_inline_var names v ≡ true → KnowsInline names e → KnowsInline names (with_number e v o)
  number_inline e v o k h = λ n c i q. by_test n c i (bytes_eq (ref_of v).name n && (ref_of v).copy == c) refl q
    where
      by_test : (n : List ℕ) (c : ℕ) (i : ℤ) (b : Bool) → (bytes_eq (ref_of v).name n && (ref_of v).copy == c) ≡ b → (if b then o else e n c) ≡ Some i → names n c ≡ true
      by_test n c i true p x = name_same v n c p ∙ k
      by_test n c i false p x = h n c i x

  pub number_stands : (e : KnownNumbers) (s t : State) (v : Var) (n : Option ℤ) (w : Option Value) → is_inline_var names v ≡ true → is_none (ref_of v).cell ≡ true → ((i : ℤ) → n ≡ Some i → w ≡ Some (integer i)) → StandsFor names e s t
      → StandsFor names (with_number e v n) (with_value s (key_of (ref_of v)) w) t
  number_stands e s t v n w named whole has h = record {
    known = λ r i z q. number_known e v n w s whole h.known has r i z q;
    inline = number_inline e v n named h.inline;
    differs = record {
      variables = λ q f. h.differs.variables q f ∙ sym (put_other s.store (key_of (ref_of v)) q w (apart_too names (key_of (ref_of v)) q named f));
      memory = h.differs.memory;
    };
  }

  -- ---- marks

  -- the stores before and after differ at this name and copy alone
  abbrev Elsewhere : Ref → Store → Store → Type 0
  Elsewhere x before behind = (q : Key) → (bytes_eq x.name q.name && x.copy == q.copy) ≡ false → behind q ≡ before q

  cells_elsewhere : (n : ℕ) (x : Ref) (store : Store) → Elsewhere x store (no_cells n x store)
  cells_elsewhere zero x store = λ q f. refl
  cells_elsewhere (suc n) x store = λ q f. put_other (no_cells n x store) (cell_key x n) q None (other_key (bytes_eq x.name q.name) (x.copy == q.copy) (same_cell (Some n) q.cell) f) ∙ cells_elsewhere n x store q f

  key_elsewhere : (x : Ref) (store : Store) → Elsewhere x store (put store (key_of x) None)
  key_elsewhere x store = λ q f. put_other store (key_of x) q None (other_key (bytes_eq x.name q.name) (x.copy == q.copy) (same_cell x.cell q.cell) f)

  unset_elsewhere : (k : Kind) (x : Ref) (store : Store) → Elsewhere x store (without k x store)
  unset_elsewhere (kind.Array z n) x store = cells_elsewhere n x store
  unset_elsewhere kind.Undeclared x store = key_elsewhere x store
  unset_elsewhere kind.Int x store = key_elsewhere x store
  unset_elsewhere kind.Bool x store = key_elsewhere x store
  unset_elsewhere (kind.Word z) x store = key_elsewhere x store

  -- two stores that are alike at a key are so behind
  cells_alike : (n : ℕ) (x : Ref) (a b : Store) (q : Key) → b q ≡ a q → no_cells n x b q ≡ no_cells n x a q
  cells_alike zero x a b q h = h
  cells_alike (suc n) x a b q h = ap (λ (y : Option Value). if same_key (cell_key x n) q then None else y) (cells_alike n x a b q h)

  unset_alike : (k : Kind) (x : Ref) (a b : Store) (q : Key) → b q ≡ a q → without k x b q ≡ without k x a q
  unset_alike (kind.Array z n) x a b q h = cells_alike n x a b q h
  unset_alike kind.Undeclared x a b q h = ap (λ (y : Option Value). if same_key (key_of x) q then None else y) h
  unset_alike kind.Int x a b q h = ap (λ (y : Option Value). if same_key (key_of x) q then None else y) h
  unset_alike kind.Bool x a b q h = ap (λ (y : Option Value). if same_key (key_of x) q then None else y) h
  unset_alike (kind.Word z) x a b q h = ap (λ (y : Option Value). if same_key (key_of x) q then None else y) h

  abbrev unset_one : Var → State → State
  unset_one v s = record s { store = without (ref_of v).kind (ref_of v) s.store }

  unset_known : (e : KnownNumbers) (s : State) (v : Var) → HoldsKnown e s → HoldsKnown (with_number e v None) (unset_one v s)
  unset_known e s v h = λ r i z q. by_test r i z (bytes_eq (ref_of v).name r.name && (ref_of v).copy == r.copy) refl q
    where
      by_test : (r : Ref) (i : ℤ) → is_none r.cell ≡ true → (c : Bool) → (bytes_eq (ref_of v).name r.name && (ref_of v).copy == r.copy) ≡ c → (if c then None else e r.name r.copy) ≡ Some i → without (ref_of v).kind (ref_of v) s.store (key_of r) ≡ Some (integer i)
      by_test r i z true p x = absurd cc
      by_test r i z false p x = unset_elsewhere (ref_of v).kind (ref_of v) s.store (key_of r) p ∙ h r i z x

  unset_inline : (e : KnownNumbers) (v : Var) → KnowsInline names e → KnowsInline names (with_number e v None)
  unset_inline e v h = λ n c i q. by_test n c i (bytes_eq (ref_of v).name n && (ref_of v).copy == c) q
    where
      by_test : (n : List ℕ) (c : ℕ) (i : ℤ) (b : Bool) → (if b then None else e n c) ≡ Some i → names n c ≡ true
      by_test n c i true x = absurd cc
      by_test n c i false x = h n c i x

  -- an inline variable is unset in the one state alone
  dropped_stands : (e : KnownNumbers) (s t : State) (v : Var) → is_inline_var names v ≡ true → StandsFor names e s t → StandsFor names (with_number e v None) (unset_one v s) t
  dropped_stands e s t v named h = record {
    known = unset_known e s v h.known;
    inline = unset_inline e v h.inline;
    differs = record {
      variables = λ q f. h.differs.variables q f ∙ sym (unset_elsewhere (ref_of v).kind (ref_of v) s.store q (elsewhere q f (bytes_eq (ref_of v).name q.name && (ref_of v).copy == q.copy) refl));
      memory = h.differs.memory;
    };
  }
    where
      elsewhere : (q : Key) → names q.name q.copy ≡ false → (c : Bool) → (bytes_eq (ref_of v).name q.name && (ref_of v).copy == q.copy) ≡ c → c ≡ false
      elsewhere q f false p = refl
      elsewhere q f true p = absurd (let x : names q.name q.copy ≡ true = name_same v q.name q.copy p ∙ named in cc)

  -- any other one in both
  kept_stands : (e : KnownNumbers) (s t : State) (v : Var) → StandsFor names e s t → StandsFor names (with_number e v None) (unset_one v s) (unset_one v t)
  kept_stands e s t v h = record {
    known = unset_known e s v h.known;
    inline = unset_inline e v h.inline;
    differs = record {
      variables = λ q f. unset_alike (ref_of v).kind (ref_of v) s.store t.store q (h.differs.variables q f);
      memory = h.differs.memory;
    };
  }

  abbrev unset_all : List Var → State → State
  unset_all vs s = record s { store = all_unset vs s.store }

  pub mark_stands : (vs : List Var) (e : KnownNumbers) (s t : State) → StandsFor names e s t → StandsFor names (all_unknown e vs) (unset_all vs s) (unset_all (marked_vars names vs) t)
  mark_stands [] e s t h = h
  mark_stands (v ∷ vs) e s t h = by_name (λ e2 s2 t2 h2. mark_stands vs e2 s2 t2 h2) (is_inline_var names v) refl
    where
      by_name : ((e2 : KnownNumbers) (s2 t2 : State) → StandsFor names e2 s2 t2 → StandsFor names (all_unknown e2 vs) (unset_all vs s2) (unset_all (marked_vars names vs) t2))
          → (c : Bool) → is_inline_var names v ≡ c → StandsFor names (all_unknown (with_number e v None) vs) (unset_all vs (unset_one v s)) (unset_all (if not c then v ∷ marked_vars names vs else marked_vars names vs) t)
      by_name more true p = more (with_number e v None) (unset_one v s) t (dropped_stands e s t v p h)
      by_name more false p = more (with_number e v None) (unset_one v s) (unset_one v t) (kept_stands e s t v h)

  -- ---- less is known

  pub less_stands : (e0 e : KnownNumbers) (s t : State) → KnowsLess e0 e → StandsFor names e s t → StandsFor names e0 s t
  less_stands e0 e s t le h = record {
    known = λ r i z q. h.known r i z (le r.name r.copy i q);
    inline = λ n c i q. h.inline n c i (le n c i q);
    differs = h.differs;
  }
