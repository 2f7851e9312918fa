-- First fit over tables.
use Rattle.std.proofs.Common.{◌≡◌, ◌≢◌, ℕ, suc, ◌+◌, ◌/◌, ◌<◌, ◌≤◌, ◌⊎◌, inl, inr, ◌↔◌, List, [], ◌∷◌, false, ◌||◌, IsTrue, length, get_or, set, drop, replicate, Option, Some, None, refl, sym, ap, ◌∙◌, subst, arith, nat_eq, get_or-set_same, get_or-set_other, drop-cons, add-one, length-set}
use Rattle.std.proofs.lemmas.Bool.{false_from_ne_true, cases_eq, cases_lt, eq-eqb, eqb-true, or_cases, or_left, or_right}
use Rattle.std.proofs.lemmas.List.{get_or-replicate, get_or_past, get_or_default, drop_all, length-replicate}
use Rattle.std.proofs.lemmas.List.Elements.{All-set}
use Rattle.jz_bits.specs.Has.{has}
use Rattle.jz_ir.specs.Places.{Out, placed, refused, First, all_placed, one_placed, one_left, Free}
use Rattle.jz_alloc.specs.Tables.{row_has, AllWide}
use Rattle.jz_alloc.specs.Fit.{IsOpen, MeetsIn, ConflictsIn, TakenIn}

-- what the tables say of the places so far
pub record Keeps (taken rows : List (List ℕ)) (places : List (Option ℕ)) (busy holders : List (List ℕ)) : Type 0 where
  pub busy_if : (q v : ℕ) → q < 20 → IsTrue (row_has busy q v) → IsTrue (row_has taken q v) ⊎ ((u : ℕ) × (get_or places u None ≡ Some q) × IsTrue (row_has rows u v))
  pub busy_taken : (q v : ℕ) → q < 20 → IsTrue (row_has taken q v) → IsTrue (row_has busy q v)
  pub busy_by : (q v u : ℕ) → q < 20 → get_or places u None ≡ Some q → IsTrue (row_has rows u v) → IsTrue (row_has busy q v)
  pub held : (q u : ℕ) → q < 20 → IsTrue (row_has holders q u) ↔ (get_or places u None ≡ Some q)

module _ (meets taken rows : List (List ℕ)) (places : List (Option ℕ)) (busy holders : List (List ℕ)) (k : Keeps taken rows places busy holders) (v q : ℕ) (lt : q < 20) where
  pub free_from_open : IsOpen meets busy holders (get_or rows v []) v q → Free (MeetsIn meets) (ConflictsIn rows) (TakenIn taken) places v q
  free_from_open o = record {
    apart = λ u e h. elim h [
      | inl c ↦ (let t = k.busy_by q v u lt e c in let f = o.not_busy in cc)
      | inr c ↦ o.not_held (u, c, (k.held q u lt).1 e)
    ];
    untaken = λ t. let b = k.busy_taken q v lt t in let f = o.not_busy in cc;
  }

  pub open_from_free : IsTrue (row_has meets q v) → Free (MeetsIn meets) (ConflictsIn rows) (TakenIn taken) places v q → IsOpen meets busy holders (get_or rows v []) v q
  open_from_free m f = record {
    meets_needs = m;
    not_busy = false_from_ne_true _ (λ b. elim (k.busy_if q v lt b) [ inl t ↦ f.untaken t | inr (u, e, c) ↦ f.apart u e (inl c) ]);
    not_held = λ (u, c, h). f.apart u ((k.held q u lt).0 h) (inr c);
  }

same_row : (rows : List (List ℕ)) (q : ℕ) (r : List ℕ) → q < length rows → (w : ℕ) → row_has (set rows q r) q w ≡ has r w
same_row rows q r lt w = ap (λ x. has x w) (get_or-set_same rows q r [] lt)

other_row : (rows : List (List ℕ)) (q p : ℕ) (r : List ℕ) → p ≢ q → (w : ℕ) → row_has (set rows q r) p w ≡ row_has rows p w
other_row rows q p r ne w = ap (λ x. has x w) (get_or-set_other rows q p r [] ne)

-- what makes a place busy for w
abbrev Source : List (List ℕ) → List (List ℕ) → List (Option ℕ) → ℕ → ℕ → Type 0
Source taken rows places p w = IsTrue (row_has taken p w) ⊎ ((u : ℕ) × (get_or places u None ≡ Some p) × IsTrue (row_has rows u w))

-- a variable gets its place
module _ (taken rows : List (List ℕ)) (places : List (Option ℕ)) (busy holders : List (List ℕ)) (k : Keeps taken rows places busy holders) (v q : ℕ) (r h : List ℕ) (vl : v < length places) (none : get_or places v None ≡ None) (ql : q < 20) (bl : length busy ≡ 20) (hl : length holders ≡ 20) (rs : (w : ℕ) → has r w ≡ (row_has busy q w || row_has rows v w)) (hs : (w : ℕ) → has h w ≡ (nat_eq w v || row_has holders q w)) where
  here : get_or (set places v (Some q)) v None ≡ Some q
  here = get_or-set_same places v (Some q) None vl

  kept : (u p : ℕ) → get_or places u None ≡ Some p → get_or (set places v (Some q)) u None ≡ Some p
  kept u p e = let ne : u ≢ v = λ s. (let t = subst (λ x. get_or places x None ≡ Some p) s e in cc) in rw (get_or-set_other places v u (Some q) None ne) e

  old_or_new : (u p : ℕ) → get_or (set places v (Some q)) u None ≡ Some p → ((u ≡ v) × (q ≡ p)) ⊎ ((u ≢ v) × (get_or places u None ≡ Some p))
  old_or_new u p e = elim (cases_eq u v) [
    | inl s ↦ inl (s, (let t : get_or (set places v (Some q)) v None ≡ Some p = subst (λ x. get_or (set places v (Some q)) x None ≡ Some p) s e in let z = here in cc))
    | inr ne ↦ inr (ne, sym (get_or-set_other places v u (Some q) None ne) ∙ e)
  ]

  row_kept : (p w : ℕ) → IsTrue (row_has busy p w) → IsTrue (row_has (set busy q r) p w)
  row_kept p w t = elim (cases_eq p q) [
    | inl s ↦ rw s (same_row busy q r (omega arith) w ∙ rs w ∙ or_left (row_has busy q w) (row_has rows v w) (subst (λ x. IsTrue (row_has busy x w)) s t))
    | inr ne ↦ other_row busy q p r ne w ∙ t
  ]

  source_kept : (p w : ℕ) → Source taken rows places p w → Source taken rows (set places v (Some q)) p w
  source_kept p w (inl t) = inl t
  source_kept p w (inr (u, e, c)) = inr (u, kept u p e, c)

  source_same : (w : ℕ) → IsTrue (row_has (set busy q r) q w) → Source taken rows (set places v (Some q)) q w
  source_same w b = elim (or_cases (row_has busy q w) (row_has rows v w) (sym (same_row busy q r (omega arith) w ∙ rs w) ∙ b)) [
    | inl o ↦ source_kept q w (k.busy_if q w ql o)
    | inr c ↦ inr (v, here, c)
  ]

  held_same : (u : ℕ) → IsTrue (row_has (set holders q h) q u) ↔ (get_or (set places v (Some q)) u None ≡ Some q)
  held_same u =
      let e : row_has (set holders q h) q u ≡ (nat_eq u v || row_has holders q u) = same_row holders q h (omega arith) u ∙ hs u in (
        λ t. elim (or_cases (nat_eq u v) (row_has holders q u) (sym e ∙ t)) [
          | inl s ↦ subst (λ x. get_or (set places v (Some q)) x None ≡ Some q) (sym (eqb-true u v s)) here
          | inr o ↦ kept u q ((k.held q u ql).0 o)
        ],
        λ f. e ∙ elim (old_or_new u q f) [
          | inl z ↦ or_left (nat_eq u v) (row_has holders q u) (subst (λ x. IsTrue (nat_eq x v)) (sym z.0) (eq-eqb v v refl))
          | inr z ↦ or_right (nat_eq u v) (row_has holders q u) ((k.held q u ql).1 z.1)
        ],
      )

  held_other : (p u : ℕ) → p < 20 → p ≢ q → IsTrue (row_has (set holders q h) p u) ↔ (get_or (set places v (Some q)) u None ≡ Some p)
  held_other p u lt ne = (
    λ t. kept u p ((k.held p u lt).0 (sym (other_row holders q p h ne u) ∙ t)),
    λ f. other_row holders q p h ne u ∙ elim (old_or_new u p f) [
      | inl z ↦ absurd (ne (sym z.1))
      | inr z ↦ (k.held p u lt).1 z.1
    ],
  )

  pub more_placed : Keeps taken rows (set places v (Some q)) (set busy q r) (set holders q h)
  more_placed = record {
    busy_if = λ p w lt b. elim (cases_eq p q) [
      | inl s ↦ subst (λ x. Source taken rows (set places v (Some q)) x w) (sym s) (source_same w (subst (λ x. IsTrue (row_has (set busy q r) x w)) s b))
      | inr ne ↦ source_kept p w (k.busy_if p w lt (sym (other_row busy q p r ne w) ∙ b))
    ];
    busy_taken = λ p w lt t. row_kept p w (k.busy_taken p w lt t);
    busy_by = λ p w u lt e c. elim (old_or_new u p e) [
      | inl z ↦ subst (λ x. IsTrue (row_has (set busy q r) x w)) z.1 (same_row busy q r (omega arith) w ∙ rs w ∙ or_right (row_has busy q w) (row_has rows v w) (subst (λ x. IsTrue (row_has rows x w)) z.0 c))
      | inr z ↦ row_kept p w (k.busy_by p w u lt z.1 c)
    ];
    held = λ p u lt. elim (cases_eq p q) [
      | inl s ↦ subst (λ x. IsTrue (row_has (set holders q h) x u) ↔ (get_or (set places v (Some q)) u None ≡ Some x)) (sym s) (held_same u)
      | inr ne ↦ held_other p u lt ne
    ];
  }

-- what the loop keeps
pub record Placing (meets taken rows : List (List ℕ)) (order : List ℕ) (i : ℕ) (places : List (Option ℕ)) (busy holders : List (List ℕ)) : Type 0 where
  pub places_len : length places ≡ length rows
  pub busy_len : length busy ≡ 20
  pub holders_len : length holders ≡ 20
  pub busy_wide : AllWide (length rows) busy
  pub holders_wide : AllWide (length rows) holders
  pub keeps : Keeps taken rows places busy holders
  pub pending : (j : ℕ) → i ≤ j → j < length order → get_or places (get_or order j 0) None ≡ None
  pub forward : (o : Out) → First (MeetsIn meets) (ConflictsIn rows) (TakenIn taken) (drop i order) places o → First (MeetsIn meets) (ConflictsIn rows) (TakenIn taken) order (replicate (length rows) None) o

-- all row of holders are empty, and nothing is placed
pub none_placed : (n i : ℕ) → get_or {A = Option ℕ} (replicate n None) i None ≡ None
none_placed n i = elim (cases_lt i n) [
  | inl h ↦ get_or-replicate n i None None h
  | inr h ↦ get_or_past (replicate n None) i None (rw length-replicate h)
]

pub begun : (meets taken rows : List (List ℕ)) (order : List ℕ) (places : List (Option ℕ)) (holders : List (List ℕ)) → places ≡ replicate (length rows) None → length taken ≡ 20 → length holders ≡ 20 → AllWide (length rows) taken → AllWide (length rows) holders → ((q v : ℕ) → q < 20 → row_has holders q v ≡ false) → Placing meets taken rows order 0 places taken holders
begun meets taken rows order places holders e tl hl tw hw emp =
    let ne : (u q : ℕ) → get_or places u None ≡ Some q → ⊥ = λ u q f. let g : get_or places u None ≡ None = subst (λ x. get_or x u None ≡ None) (sym e) (none_placed (length rows) u) in cc in
    record {
      places_len = ap length e ∙ length-replicate (length rows) None;
      busy_len = tl;
      holders_len = hl;
      busy_wide = tw;
      holders_wide = hw;
      keeps = record {
        busy_if = λ q v lt t. inl t;
        busy_taken = λ q v lt t. t;
        busy_by = λ q v u lt f c. absurd (ne u q f);
        held = λ q u lt. (λ t. let f = emp q u lt in cc, λ f. absurd (ne u q f));
      };
      pending = λ j le lt. subst (λ x. get_or x (get_or order j 0) None ≡ None) (sym e) (none_placed (length rows) (get_or order j 0));
      forward = λ o f. subst (λ x. First (MeetsIn meets) (ConflictsIn rows) (TakenIn taken) order x o) e f;
    }

module _ (meets taken rows : List (List ℕ)) (order : List ℕ) (i : ℕ) (places : List (Option ℕ)) (busy holders : List (List ℕ)) (p : Placing meets taken rows order i places busy holders) where
  pub ended : length order ≤ i → First (MeetsIn meets) (ConflictsIn rows) (TakenIn taken) order (replicate (length rows) None) (placed places)
  ended le = p.forward (placed places) (subst (λ x. First (MeetsIn meets) (ConflictsIn rows) (TakenIn taken) x places (placed places)) (sym (drop_all i order le)) all_placed)

  pub left_over : (v : ℕ) → i < length order → v ≡ get_or order i v → ((q : ℕ) → q < 20 → IsOpen meets busy holders (get_or rows v []) v q → ⊥) → First (MeetsIn meets) (ConflictsIn rows) (TakenIn taken) order (replicate (length rows) None) (refused v places)
  left_over v lt e shut = p.forward (refused v places) (subst (λ x. First (MeetsIn meets) (ConflictsIn rows) (TakenIn taken) x places (refused v places)) (sym (drop-cons order i v lt)) (subst (λ x. First (MeetsIn meets) (ConflictsIn rows) (TakenIn taken) (x ∷ drop (suc i) order) places (refused v places)) e (one_left (λ q m f. shut q m.0 (open_from_free meets taken rows places busy holders p.keeps v q m.0 m.1 f)))))

  pub put : (v q : ℕ) (r h : List ℕ) → i < length order → ((a b : ℕ) → a < b → b < length order → get_or order a 0 ≢ get_or order b 0) → v ≡ get_or order i v → v < length rows → q < 20 → IsOpen meets busy holders (get_or rows v []) v q → ((x : ℕ) → x < q → IsOpen meets busy holders (get_or rows v []) v x → ⊥) → length r ≡ length rows / 64 + 1 → length h ≡ length rows / 64 + 1 → ((w : ℕ) → has r w ≡ (row_has busy q w || row_has rows v w)) → ((w : ℕ) → has h w ≡ (nat_eq w v || row_has holders q w)) → Placing meets taken rows order (i + 1) (set places v (Some q)) (set busy q r) (set holders q h)
  put v q r h lt dist e vl ql o first rw' hw rs hs =
      let v0 : v ≡ get_or order i 0 = e ∙ get_or_default order i v 0 lt in
      let none : get_or places v None ≡ None = subst (λ x. get_or places x None ≡ None) (sym v0) (p.pending i (omega arith) lt) in
      record {
        places_len = length-set places v (Some q) ∙ p.places_len;
        busy_len = length-set busy q r ∙ p.busy_len;
        holders_len = length-set holders q h ∙ p.holders_len;
        busy_wide = All-set (λ x. length x ≡ length rows / 64 + 1) busy q r rw' p.busy_wide;
        holders_wide = All-set (λ x. length x ≡ length rows / 64 + 1) holders q h hw p.holders_wide;
        keeps = more_placed taken rows places busy holders p.keeps v q r h (omega (arith, p.places_len)) none ql p.busy_len p.holders_len rs hs;
        pending = λ j le jl. let ne : get_or order j 0 ≢ v = λ s. dist i j (omega arith) jl (sym v0 ∙ sym s) in rw (get_or-set_other places v (get_or order j 0) (Some q) None ne) (p.pending j (omega arith) jl);
        forward = λ o' f. p.forward o' (subst (λ x. First (MeetsIn meets) (ConflictsIn rows) (TakenIn taken) x places o') (sym (drop-cons order i v lt)) (subst (λ x. First (MeetsIn meets) (ConflictsIn rows) (TakenIn taken) (x ∷ drop (suc i) order) places o') e (one_placed (record {
          meets_needs = (ql, o.meets_needs);
          free = free_from_open meets taken rows places busy holders p.keeps v q ql o;
          is_first = λ x xl m f'. first x xl (open_from_free meets taken rows places busy holders p.keeps v x m.0 m.1 f');
        }) (subst (λ x. First (MeetsIn meets) (ConflictsIn rows) (TakenIn taken) (drop x order) (set places v (Some q)) o') (add-one i) f))));
      }

-- the same, as a call saw it
module _ (meets b b' h h' rows : List (List ℕ)) (v : ℕ) (r : List ℕ) (be : b' ≡ b) (he : h' ≡ h) (re : r ≡ get_or rows v r) (lt : v < length rows) where
  row_there : r ≡ get_or rows v []
  row_there = re ∙ get_or_default rows v r [] lt

  pub to_call : (q : ℕ) → IsOpen meets b h (get_or rows v []) v q → IsOpen meets b' h' r v q
  to_call q o = subst (λ x. IsOpen meets x h' r v q) (sym be) (subst (λ x. IsOpen meets b x r v q) (sym he) (subst (λ x. IsOpen meets b h x v q) (sym row_there) o))

  pub from_call : (q : ℕ) → IsOpen meets b' h' r v q → IsOpen meets b h (get_or rows v []) v q
  from_call q o = subst (λ x. IsOpen meets x h (get_or rows v []) v q) be (subst (λ x. IsOpen meets b' x (get_or rows v []) v q) he (subst (λ x. IsOpen meets b' h' x v q) row_there o))
