-- The homes that a table says, where it has the declarations.
use Rattle.std.proofs.Common.{◌≡◌, ◌⊎◌, inl, inr, ℕ, ◌<◌, Bool, true, false, List, Option, Some, None, refl, sym, ap, ◌∙◌, subst, arith, lt-ltb}
use Rattle.std.specs.Prelude.{slice_get, nat_lt, if◌then◌else◌}
use Rattle.std.proofs.lemmas.Bool.Decides.{nat_tests}
use Rattle.jz_words.specs.declared.size.Size.{Size}
use Rattle.jz_tree.specs.declared.program.Fun.{Fun}
use Rattle.jz_type_names.specs.Scopes.{variables_of}
use Rattle.jz_meaning.specs.States.{Key}
use Rattle.jz_meaning.specs.Values.{Ref, cell_key}
use Rattle.jz_operations.proofs.Somes.{same_some}
use Rattle.jz_homes.specs.Homes as homes
use Rattle.jz_homes.specs.Homes.{in_register, in_flag, in_cell}
use Rattle.jz_operands.specs.declared.homes.Home.{Home}
use Rattle.jz_operands.specs.declared.homes.Home.TheVariants.{Word, Flag, Slot, Cells}
use Rattle.jz_operands.specs.TableHomes.{scalar_home, home_within}
use Rattle.jz_homing.specs.Tables.{Table, no_homes, with_vars}
use Rattle.jz_declared.specs.Declared.{Differ, What, a_word, a_flag, Held, own_key, held_of, Kept, a_scalar, an_array, cells_of, key_in, kept_of, home_at, IsHeld, IsKept, AreDeclared}
use Rattle.jz_declared.specs.Laws.{IsOfDeclarations}
use Rattle.jz_declared.proofs.Growing.{entry_of, kept_key, kept_entry, FromKept, Has, declared_has, own, CellsApart, declared_apart}

entry_home : (n : ℕ) (w : What) → scalar_home (Some (entry_of n w)) ≡ Some (home_at n w)
entry_home n (a_word z) = refl
entry_home n a_flag = refl

no_array : (n w m : ℕ) (z : Size) (h : What) → Cells w z m ≡ entry_of n h → ⊥
no_array n w m z (a_word y) e = absurd cc
no_array n w m z a_flag e = absurd cc

module _ (hs : List Held) (cs : List Kept) (t : Table) (has : Has hs cs t) (apart : CellsApart t) where
  -- ---- in registers and flags
  held_within : (k : Key) (c : Option ℕ) (n : ℕ) (w : What) → k.cell ≡ c → t.entries k ≡ Some (entry_of n w) → home_within c (t.entries (own k)) (t.entries k) ≡ Some (home_at n w)
  held_within k None n w at e = ap (home_within None (t.entries (own k))) e ∙ entry_home n w
  held_within k (Some i) n w at e =
      ap (λ a. home_within (Some i) a (t.entries k)) (apart k i (entry_of n w) at e) ∙ ap (home_within (Some i) None) e ∙ entry_home n w

  -- ---- in the frame
  first_cell : (w i : ℕ) (z : Size) → i < 1 → ◌≡◌ {A = Option homes.Home} (Some (in_cell w 0 z)) (Some (in_cell w i z))
  first_cell w i z less = let e : ◌≡◌ {A = ℕ} 0 i = omega (arith, less) in ap (λ j. Some (in_cell w j z)) e

  kept_within : (w i : ℕ) (c : Kept) → slice_get cs w ≡ Some c → i < (cells_of c).count → home_within (key_in c i).cell (t.entries (own (key_in c i))) (t.entries (key_in c i)) ≡ Some (in_cell w i (cells_of c).size)
  kept_within w i (a_scalar x z) e less = ap (home_within None (t.entries (own_key x))) (has.kept w (a_scalar x z) e) ∙ first_cell w i z less
  kept_within w i (an_array x z n) e less =
      ap (λ a. home_within (Some i) a (t.entries (cell_key x i))) (has.kept w (an_array x z n) e)
      ∙ ap (λ b. if b then Some (in_cell w i z) else None) (lt-ltb i n less)

  -- ---- nothing else
  scalar_from : (k : Key) (x : homes.Home) (y : Home) → t.entries k ≡ Some y → scalar_home (Some y) ≡ Some x → IsHeld hs k x ⊎ IsKept cs k x
  scalar_from k x y e f = elim (has.others k y e) [
    | inl h ↦ inl (record {
      number = h.number;
      held = h.held;
      there = h.there;
      key = h.key;
      home = same_some x (home_at h.number h.held.what) (sym f ∙ ap (λ u. scalar_home (Some u)) h.entry ∙ entry_home h.number h.held.what);
    })
    | inr c ↦ inr (by_kept k x y c c.kept refl f)
  ]
    where
      by_kept : (k : Key) (x : homes.Home) (y : Home) (c : FromKept cs k y) (g : Kept) → c.kept ≡ g → scalar_home (Some y) ≡ Some x → IsKept cs k x
      by_kept k x y c (a_scalar r z) is f = record {
        number = c.number;
        kept = a_scalar r z;
        cell = 0;
        there = c.there ∙ ap Some is;
        within = omega arith;
        key = c.key ∙ ap kept_key is;
        home = same_some x (in_cell c.number 0 z) (sym f ∙ ap (λ u. scalar_home (Some u)) (c.entry ∙ ap (kept_entry c.number) is));
      }
      by_kept k x y c (an_array r z n) is f =
          absurd (let g : ◌≡◌ {A = Option homes.Home} None (Some x) = ap (λ u. scalar_home (Some u)) (sym (c.entry ∙ ap (kept_entry c.number) is)) ∙ f in cc)

  from_entry : (k : Key) (x : homes.Home) (o : Option Home) → t.entries k ≡ o → scalar_home o ≡ Some x → IsHeld hs k x ⊎ IsKept cs k x
  from_entry k x None e f = absurd cc
  from_entry k x (Some y) e f = scalar_from k x y e f

  whole_key : (k : Key) (r : Ref) (i : ℕ) → k.cell ≡ Some i → own k ≡ own_key r → k ≡ cell_key r i
  whole_key k r i c e = λ j. record { name = ap (λ (q : Key). q.name) e j; copy = ap (λ (q : Key). q.copy) e j; cell = c j }

  array_from : (k : Key) (x : homes.Home) (i w m : ℕ) (z : Size) → k.cell ≡ Some i → t.entries (own k) ≡ Some (Cells w z m) → i < m → in_cell w i z ≡ x → IsKept cs k x
  array_from k x i w m z at e less is = elim (has.others (own k) (Cells w z m) e) [
    | inl h ↦ absurd (no_array h.number w m z h.held.what h.entry)
    | inr c ↦ by_array c c.kept refl
  ]
    where
      by_array : (c : FromKept cs (own k) (Cells w z m)) (g : Kept) → c.kept ≡ g → IsKept cs k x
      by_array c (a_scalar r y) s = absurd (let f : Cells w z m ≡ Slot c.number y = c.entry ∙ ap (kept_entry c.number) s in cc)
      by_array c (an_array r y n) s =
          let f : Cells w z m ≡ Cells c.number y n = c.entry ∙ ap (kept_entry c.number) s in
          let number : w ≡ c.number = cc in
          let size : z ≡ y = cc in
          let count : m ≡ n = cc in
          record {
            number = c.number;
            kept = an_array r y n;
            cell = i;
            there = c.there ∙ ap Some s;
            within = subst (λ q. i < q) count less;
            key = whole_key k r i at (c.key ∙ ap kept_key s);
            home = sym is ∙ ap (λ q. in_cell q i z) number ∙ ap (λ q. in_cell c.number i q) size;
          }

  array_by : (b : Bool) (k : Key) (x : homes.Home) (i w m : ℕ) (z : Size) → k.cell ≡ Some i → t.entries (own k) ≡ Some (Cells w z m) → nat_lt i m ≡ b → (if b then Some (in_cell w i z) else None) ≡ Some x → IsKept cs k x
  array_by true k x i w m z at e less f = array_from k x i w m z at e (below i m less) (same_some (in_cell w i z) x f)
    where
      below : (i m : ℕ) → nat_lt i m ≡ true → i < m
      below i m h = grind (arith, nat_tests, h)
  array_by false k x i w m z at e less f = absurd cc

  others_by : (k : Key) (x : homes.Home) (c : Option ℕ) (a : Option Home) → k.cell ≡ c → t.entries (own k) ≡ a → home_within c a (t.entries k) ≡ Some x → IsHeld hs k x ⊎ IsKept cs k x
  others_by k x None a at e f = from_entry k x (t.entries k) refl f
  others_by k x (Some i) None at e f = from_entry k x (t.entries k) refl f
  others_by k x (Some i) (Some (Word m z)) at e f = from_entry k x (t.entries k) refl f
  others_by k x (Some i) (Some (Flag m)) at e f = from_entry k x (t.entries k) refl f
  others_by k x (Some i) (Some (Slot w z)) at e f = from_entry k x (t.entries k) refl f
  others_by k x (Some i) (Some (Cells w z m)) at e f = inr (array_by (nat_lt i m) k x i w m z at e refl f)

  all_declared : AreDeclared hs cs (λ k. home_within k.cell (t.entries (own k)) (t.entries k))
  all_declared = record {
    held = λ n h e. held_within h.key h.key.cell n h.what refl (has.held n h e);
    kept = kept_within;
    others = λ k x e. others_by k x k.cell (t.entries (own k)) refl refl e;
  }

pub of_declarations : (f : Fun) → Differ (variables_of f) → IsOfDeclarations f (with_vars no_homes (variables_of f))
of_declarations f differ =
    let has = declared_has (variables_of f) differ in
    record {
      homes = all_declared (held_of f) (kept_of f) (with_vars no_homes (variables_of f)) has (declared_apart (variables_of f) differ);
      kinds = has.kinds;
      stack = has.stack;
    }
