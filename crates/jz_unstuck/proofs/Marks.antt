-- Where a run stands before a mark it stands behind it.
use Rattle.std.proofs.Common.{◌≡◌, ℕ, zero, suc, List, [], ◌∷◌, Option, Some, None, Bool, true, false, true≢false, refl, ap, sym, ◌∙◌, subst, if◌then◌else◌, ◌<◌, ◌≤◌, ◌%◌}
use Rattle.std.specs.Prelude.{not, ◌||◌, IsSome}
use Rattle.std.proofs.lemmas.Bool.{and_parts}
use Rattle.jz_tree.specs.Span.{Span}
use Rattle.jz_tree.specs.declared.expr.Var.{Var}
use Rattle.jz_meaning.specs.declared.access.Kind.{Kind}
use Rattle.jz_meaning.specs.declared.access.Kind.TheVariants as kind
use Rattle.jz_meaning.specs.States.{Value, Key, same_key, Store, put, State}
use Rattle.jz_meaning.specs.Values.{Ref, key_of, cell_key, ref_of}
use Rattle.jz_meaning.specs.Statements.{unset, no_cells, without, all_unset, quiets}
use Rattle.jz_run_laws.specs.Kinds.{Kinds}
use Rattle.jz_run_laws.proofs.Nodes.{marks_keep}
use Rattle.jz_facts.specs.Facts.{Fact, Set, Cell, AtLeast, AtMost, Under, Is, Multiple, Facts, Given, subject}
use Rattle.jz_facts.specs.Holding.{is_of, is_marked, quieted}
use Rattle.jz_fact_laws.specs.Saying.{HasWord, Says}
use Rattle.jz_fact_laws.proofs.Setting.{same_key-true, same_key-refl}
use Rattle.jz_standing.specs.Typing.{whole, IsMark, AreMarks}
use Rattle.jz_standing.specs.Standing.{is_of_cell, Stands}

-- where a fact looks
abbrev pub seat : Fact → Key
seat (Cell a k) = record { name = a.name; copy = a.copy; cell = Some k }
seat f = subject f

pub says_same : (entry : Key → ℕ) (store other : Store) (f : Fact) → other (seat f) ≡ store (seat f) → Says entry store f → Says entry other f
says_same entry store other (Set v) e h = subst IsSome (sym e) h
says_same entry store other (Cell a k) e h = subst IsSome (sym e) h
says_same entry store other (AtLeast v c) e h = subst (λ o. HasWord o (λ n. c ≤ n)) (sym e) h
says_same entry store other (AtMost v c) e h = subst (λ o. HasWord o (λ n. n ≤ c)) (sym e) h
says_same entry store other (Under v x) e h = subst (λ o. HasWord o (λ n. n < entry x)) (sym e) h
says_same entry store other (Is v x) e h = subst (λ o. HasWord o (λ n. n ≡ entry x)) (sym e) h
says_same entry store other (Multiple v m) e h = subst (λ o. HasWord o (λ n. n % m ≡ 0)) (sym e) h

pub put_elsewhere : (store : Store) (k q : Key) (v : Option Value) → (k ≡ q → ⊥) → put store k v q ≡ store q
put_elsewhere store k q v n = by (same_key k q) refl
  where
    by : (c : Bool) → same_key k q ≡ c → (if c then v else store q) ≡ store q
    by true e = absurd (n (same_key-true k q e))
    by false e = refl

cells_elsewhere : (n : ℕ) (x : Ref) (store : Store) (q : Key) → (whole (key_of x) ≡ whole q → ⊥) → no_cells n x store q ≡ store q
cells_elsewhere zero x store q h = refl
cells_elsewhere (suc n) x store q h = put_elsewhere (no_cells n x store) (cell_key x n) q None (λ e. h (ap whole e)) ∙ cells_elsewhere n x store q h

apart_keys : (a b : Key) → same_key a b ≡ false → b ≡ a → ⊥
apart_keys a b e h = true≢false (sym (same_key-refl a) ∙ ap (same_key a) (sym h) ∙ e)

module _ (in_frame : Key → Bool) where
  -- a scalar, of a fact on another one or on a cell
  pub scalar_elsewhere : (k : Key) (f : Fact) → in_frame (whole k) ≡ false → in_frame (whole (subject f)) ≡ is_of_cell f → same_key (subject f) k ≡ false → k ≡ seat f → ⊥
  scalar_elsewhere k (Cell a j) i p e h = true≢false (sym p ∙ ap (λ q. in_frame (whole q)) (sym h) ∙ i)
  scalar_elsewhere k (Set v) i p e h = apart_keys v k e h
  scalar_elsewhere k (AtLeast v c) i p e h = apart_keys v k e h
  scalar_elsewhere k (AtMost v c) i p e h = apart_keys v k e h
  scalar_elsewhere k (Under v x) i p e h = apart_keys v k e h
  scalar_elsewhere k (Is v x) i p e h = apart_keys v k e h
  scalar_elsewhere k (Multiple v m) i p e h = apart_keys v k e h

  whole_seat : (f : Fact) → whole (seat f) ≡ whole (subject f)
  whole_seat (Cell a j) = refl
  whole_seat (Set v) = refl
  whole_seat (AtLeast v c) = refl
  whole_seat (AtMost v c) = refl
  whole_seat (Under v x) = refl
  whole_seat (Is v x) = refl
  whole_seat (Multiple v m) = refl

  one_mark : (name : List ℕ) (copy : ℕ) (cell : Option ℕ) (k : Kind) (at : Span) (store : Store) (f : Fact)
      → IsMark in_frame k (record { name = name; copy = copy; cell = cell })
      → in_frame (whole (subject f)) ≡ is_of_cell f
      → is_of (record { name = name; copy = copy; cell = cell; kind = k; span = at }) (subject f) ≡ false
      → without k (record { name = name; copy = copy; cell = cell; kind = k; span = at }) store (seat f) ≡ store (seat f)
  one_mark name copy cell (kind.Array z n) at store f i p e = cells_elsewhere n (record { name = name; copy = copy; cell = cell; kind = kind.Array z n; span = at }) store (seat f) (λ h. apart_keys (whole (subject f)) (record { name = name; copy = copy; cell = None }) e (h ∙ whole_seat f))
  one_mark name copy cell (kind.Word z) at store f i p e = put_elsewhere store (record { name = name; copy = copy; cell = cell }) (seat f) None (scalar_elsewhere (record { name = name; copy = copy; cell = cell }) f i p e)
  one_mark name copy cell kind.Bool at store f i p e = put_elsewhere store (record { name = name; copy = copy; cell = cell }) (seat f) None (scalar_elsewhere (record { name = name; copy = copy; cell = cell }) f i p e)
  one_mark name copy cell kind.Int at store f i p e = put_elsewhere store (record { name = name; copy = copy; cell = cell }) (seat f) None (scalar_elsewhere (record { name = name; copy = copy; cell = cell }) f i p e)
  one_mark name copy cell kind.Undeclared at store f i p e = put_elsewhere store (record { name = name; copy = copy; cell = cell }) (seat f) None (scalar_elsewhere (record { name = name; copy = copy; cell = cell }) f i p e)

  neither : (a b : Bool) → not (a || b) ≡ true → (a ≡ false) × (not b ≡ true)
  neither true b e = absurd (cc e)
  neither false b e = (refl, e)

  all_marks : (entry : Key → ℕ) (xs : List Var) (store : Store) (f : Fact) → AreMarks in_frame xs → in_frame (whole (subject f)) ≡ is_of_cell f → not (is_marked xs (subject f)) ≡ true → Says entry store f → Says entry (all_unset xs store) f
  all_marks entry [] store f i p e h = h
  all_marks entry (x ∷ xs) store f i p e h =
      let r = ref_of x in
      let n = neither (is_of r (subject f)) (is_marked xs (subject f)) e in
      all_marks entry xs (without r.kind r store) f i.1 p n.1 (says_same entry store (without r.kind r store) f (one_mark r.name r.copy r.cell r.kind r.span store f i.0 p n.0) h)

module _ (g : Given) (kinds : Kinds) (in_frame : Key → Bool) (entry : Key → ℕ) (s : Facts) (st : State) (H : Stands g kinds in_frame entry s st) where
  pub marked_stands : (xs : List Var) → AreMarks in_frame xs → Stands g kinds in_frame entry (quieted (unset xs) s) (quiets (unset xs) st)
  marked_stands xs i = record {
    says = λ f e. let p = and_parts (s f) (not (is_marked xs (subject f))) e in all_marks in_frame entry xs st.store f i (H.apart f p.0) p.1 (H.says f p.0);
    apart = λ f e. H.apart f (and_parts (s f) (not (is_marked xs (subject f))) e).0;
    kept = marks_keep kinds (unset xs) st H.kept;
    ranges = H.ranges;
    least = H.least;
    regions = H.regions;
  }
