-- One place stays one place, and what is apart stays apart.
use Rattle.std.proofs.Common.{◌≡◌, ◌⊎◌, inl, inr, ℕ, ℤ, pos, negsuc, Bool, true, false, ◌&&◌, ◌||◌, not, Option, Some, None, refl, sym, ap, ap₂, ◌∙◌, subst, if◌then◌else◌}
use Rattle.std.proofs.lemmas.Bool.{false≢true, true≢false, and_parts, and_from}
use Rattle.jz_tree.specs.declared.expr.BinOp.{BinOp}
use Rattle.jz_integers.specs.declared.constant.Constant.{Constant}
use Rattle.jz_integers.specs.declared.constant.Constant.TheVariants as constant
use Rattle.jz_integers.specs.Integers.{joined, with_right, is_settled, minus, opposite, the_number}
use Rattle.jz_select.specs.Trees.{Named, names_eq, Tree, Number, Truth, Name, CellOf, Loaded, Minus, Opposite, CastTo, Both, numbered_tree, tree_eq}
use Rattle.jz_select.specs.Places.{Answers, is_number, one_cell, same_index, elsewhere, one_or_apart}
use Rattle.jz_select.specs.Rows.{is_same_place, is_apart_from}
use Rattle.jz_select.proofs.TreeLaws.{tree_one, tree_self}
use Rattle.jz_meetings.specs.Meetings.{tree_value, no_values, index_tree, stands, Place, Nothing, Whole, CellAt, AtMemory, meets}
use Rattle.jz_meetings.specs.Turns.{Turn, word_name, word_of, or_tree, cell_or, turned, place_or, turned_place, IsConstant, IsTurn, IsNumeral, Indexed, OverTree}
use Rattle.jz_meetings.proofs.Nowhere.{two_are, other, stands_apart}
use Rattle.jz_meetings.specs.KeptMeetings.{pulled, KeepsMeeting, IsSet, IsSetPlace, MeetingsAreKept}

-- ---- truths
either : (b : Bool) → (b ≡ true) ⊎ (b ≡ false)
either true = inl refl
either false = inr refl

not_so : (b : Bool) → (b ≡ true → ⊥) → b ≡ false
not_so true n = absurd (n refl)
not_so false n = refl

clash : {A : Type 0} (b : Bool) → b ≡ true → b ≡ false → A
clash b t f = absurd (true≢false (sym t ∙ f))

or_split : (a b : Bool) → (a || b) ≡ true → (a ≡ true) ⊎ (b ≡ true)
or_split true b e = inl refl
or_split false b e = inr e

or_first : (a b : Bool) → a ≡ true → (a || b) ≡ true
or_first a b e = ap (λ x. x || b) e

or_last : (a b : Bool) → b ≡ true → (a || b) ≡ true
or_last true b e = refl
or_last false b e = e

or_none : (a b : Bool) → (a || b) ≡ false → (a ≡ false) × (b ≡ false)
or_none true b e = absurd (true≢false e)
or_none false b e = (refl, e)

pub elsewhere_apart : (b : Bool) → is_apart_from (elsewhere b) ≡ true → b ≡ false
elsewhere_apart true p = absurd (false≢true p)
elsewhere_apart false p = refl

elsewhere_not_same : (b : Bool) → is_same_place (elsewhere b) ≡ true → ⊥
elsewhere_not_same true p = false≢true p
elsewhere_not_same false p = false≢true p

one_apart : (b : Bool) → is_apart_from (one_or_apart b) ≡ true → b ≡ false
one_apart true p = absurd (false≢true p)
one_apart false p = refl

one_same : (b : Bool) → is_same_place (one_or_apart b) ≡ true → b ≡ true
one_same true p = refl
one_same false p = absurd (false≢true p)

one_is : (b : Bool) → b ≡ true → is_same_place (one_or_apart b) ≡ true
one_is b e = ap (λ x. is_same_place (one_or_apart x)) e

-- ---- names
name_same : (v w : Named) → Name v ≡ Name w → v ≡ w
name_same v w e = cc

pub name_one : (v w : Named) → names_eq v w ≡ true → v ≡ w
name_one v w e = name_same v w (tree_one (Name v) (Name w) e)

pub name_self : (v : Named) → names_eq v v ≡ true
name_self v = tree_self (Name v)

some_none : (n : ℕ) → Some n ≡ None → ⊥
some_none n e = cc

-- a word of a cell is no variable that is none
word_other : (v w : Named) (n : ℕ) → w.cell ≡ None → names_eq (word_name v n) w ≡ false
word_other v w n e = not_so (names_eq (word_name v n) w) (λ h. some_none n (ap (λ (x : Named). x.cell) (name_one (word_name v n) w h) ∙ e))

other_word : (v w : Named) (n : ℕ) → v.cell ≡ None → names_eq v (word_name w n) ≡ false
other_word v w n e = not_so (names_eq v (word_name w n)) (λ h. some_none n (sym (ap (λ (x : Named). x.cell) (name_one v (word_name w n) h)) ∙ e))

same_number : (n m : ℕ) → Some n ≡ Some m → n ≡ m
same_number n m e = cc

-- words of one number of arrays of one name
pub word_one : (v w : Named) (n m : ℕ) → v.cell ≡ None → w.cell ≡ None → names_eq (word_name v n) (word_name w m) ≡ true → (v ≡ w) × (n ≡ m)
word_one v w n m e f h =
    let s : word_name v n ≡ word_name w m = name_one (word_name v n) (word_name w m) h in (
      λ i. record { name = (s i).name; copy = (s i).copy; cell = (e ∙ sym f) i },
      same_number n m (ap (λ (x : Named). x.cell) s),
    )

-- ---- values
abbrev pub Values : Option Constant → Option Constant → Type 0
Values x y = (c : Constant) → x ≡ Some c → y ≡ Some c

pub made : (g : Option Constant → Option Constant) (x y : Option Constant) → g None ≡ None → Values x y → Values (g x) (g y)
made g None y n f c e = absurd (let h : None ≡ Some c = sym n ∙ e in cc)
made g (Some d) y n f c e = ap g (f d refl) ∙ e

right_made : (s : Bool) (o : BinOp) (d : Constant) (x y : Option Constant) → Values x y → Values (if s then Some d else with_right o d x) (if s then Some d else with_right o d y)
right_made true o d x y f c e = e
right_made false o d x y f c e = made (with_right o d) x y refl f c e

pub joined_made : (o : BinOp) (p q x y : Option Constant) → Values p q → Values x y → Values (joined o p x) (joined o q y)
joined_made o None q x y f g c e = absurd cc
joined_made o (Some d) q x y f g c e = ap (λ z. joined o z y) (f d refl) ∙ right_made (is_settled o d) o d x y g c e

number_some : (v : Option Constant) (n : ℤ) → the_number v ≡ Some n → v ≡ Some (constant.Int n)
number_some None n e = absurd cc
number_some (Some (constant.Int m)) n e = ap (λ x. Some (constant.Int x)) (same m n e)
  where
    same : (m n : ℤ) → Some m ≡ Some n → m ≡ n
    same m n e = cc
number_some (Some (constant.Bool b)) n e = absurd cc

module _ (t : Turn) (turn : IsTurn t) where
  whole_written : (s b : Tree) (o : Option Tree) → t.whole s ≡ o → Values (tree_value no_values s) (tree_value no_values b) → Values (tree_value no_values s) (tree_value no_values (or_tree o b))
  whole_written s b None q h c e = h c e
  whole_written s b (Some d) q h c e = turn.written s d c q e

  turned_written : (s : Tree) → Values (tree_value no_values s) (tree_value no_values (turned t s))
  turned_written (Number n) c e = e
  turned_written (Truth b) c e = e
  turned_written (Name v) c e = absurd cc
  turned_written (CellOf v j) c e = absurd cc
  turned_written (Loaded a) c e = absurd cc
  turned_written (Minus a) c e =
      whole_written (Minus a) (Minus (turned t a)) (t.whole (Minus a)) refl (made minus (tree_value no_values a) (tree_value no_values (turned t a)) refl (turned_written a)) c e
  turned_written (Opposite a) c e =
      whole_written (Opposite a) (Opposite (turned t a)) (t.whole (Opposite a)) refl (made opposite (tree_value no_values a) (tree_value no_values (turned t a)) refl (turned_written a)) c e
  turned_written (CastTo z signed a) c e = absurd cc
  turned_written (Both o a b) c e =
      whole_written (Both o a b) (Both o (turned t a) (turned t b)) (t.whole (Both o a b)) refl
      (joined_made o (tree_value no_values a) (tree_value no_values (turned t a)) (tree_value no_values b) (tree_value no_values (turned t b)) (turned_written a) (turned_written b)) c e

  -- ---- indexes
  abbrev Behind : Tree → Tree
  Behind s = index_tree (turned t s)

  behind_by : (s : Tree) (w : Option ℤ) → the_number (tree_value no_values s) ≡ w → Behind (numbered_tree w s) ≡ Behind s
  behind_by s None e = refl
  behind_by s (Some n) e = sym (ap (λ x. numbered_tree (the_number x) (turned t s)) (turned_written s (constant.Int n) (number_some (tree_value no_values s) n e)))

  -- an index behind is that of the index
  behind : (s : Tree) → Behind (index_tree s) ≡ Behind s
  behind s = behind_by s (the_number (tree_value no_values s)) refl

  module _ (answers : Answers) where
    abbrev A : Answers
    A = pulled t answers

    one_self : (x : Tree) → one_cell answers x x ≡ true
    one_self x = or_first (tree_eq x x) (not (is_number x && is_number x) && answers x x) (tree_self x)

    by_numbers : (x y : Tree) → tree_eq x y ≡ false → (not (is_number x && is_number y) && one_cell answers (Behind x) (Behind y)) ≡ one_cell answers (Behind x) (Behind y)
    by_numbers (Number m) (Number n) e = sym (ap (λ b. b || false) e)
    by_numbers (Number m) (Truth b) e = refl
    by_numbers (Number m) (Name v) e = refl
    by_numbers (Number m) (CellOf v j) e = refl
    by_numbers (Number m) (Loaded a) e = refl
    by_numbers (Number m) (Minus a) e = refl
    by_numbers (Number m) (Opposite a) e = refl
    by_numbers (Number m) (CastTo z s a) e = refl
    by_numbers (Number m) (Both o a b) e = refl
    by_numbers (Truth b) y e = refl
    by_numbers (Name v) y e = refl
    by_numbers (CellOf v j) y e = refl
    by_numbers (Loaded a) y e = refl
    by_numbers (Minus a) y e = refl
    by_numbers (Opposite a) y e = refl
    by_numbers (CastTo z s a) y e = refl
    by_numbers (Both o a b) y e = refl

    by_equal : (x y : Tree) (b : Bool) → tree_eq x y ≡ b → one_cell A x y ≡ one_cell answers (Behind x) (Behind y)
    by_equal x y true e =
        or_first (tree_eq x y) (not (is_number x && is_number y) && A x y) e
        ∙ sym (ap (λ z. one_cell answers (Behind x) (Behind z)) (sym (tree_one x y e)) ∙ one_self (Behind x))
    by_equal x y false e = ap (λ b. b || (not (is_number x && is_number y) && A x y)) e ∙ by_numbers x y e

    -- one cell before is one behind
    cells_so : (k j : Tree) → one_cell A (index_tree k) (index_tree j) ≡ one_cell answers (Behind k) (Behind j)
    cells_so k j = by_equal (index_tree k) (index_tree j) (tree_eq (index_tree k) (index_tree j)) refl ∙ ap₂ (λ x y. one_cell answers x y) (behind k) (behind j)

    cell_itself : (k : Tree) → one_cell A (index_tree k) (index_tree k) ≡ true
    cell_itself k = or_first (tree_eq (index_tree k) (index_tree k)) (not (is_number (index_tree k) && is_number (index_tree k)) && A (index_tree k) (index_tree k)) (tree_self (index_tree k))

    -- ---- words
    record IsWord (v : Named) (j : Tree) (w : Named) : Type 0 where
      pub cell : ℕ
      pub index : j ≡ Number (pos cell)
      pub name : w ≡ word_name v cell
      pub there : t.cells v cell ≡ true

    some_name : (v w : Named) → Some v ≡ Some w → v ≡ w
    some_name v w e = cc

    word_if : (v w : Named) (n : ℕ) (b : Bool) → t.cells v n ≡ b → (if b then Some (word_name v n) else None) ≡ Some w → IsWord v (Number (pos n)) w
    word_if v w n true q e = record { cell = n; index = refl; name = sym (some_name (word_name v n) w e); there = q }
    word_if v w n false q e = absurd cc

    word_is : (v : Named) (j : Tree) (w : Named) → word_of t v j ≡ Some w → IsWord v j w
    word_is v (Number (pos n)) w e = word_if v w n (t.cells v n) refl e
    word_is v (Number (negsuc n)) w e = absurd cc
    word_is v (Truth b) w e = absurd cc
    word_is v (Name u) w e = absurd cc
    word_is v (CellOf u i) w e = absurd cc
    word_is v (Loaded a) w e = absurd cc
    word_is v (Minus a) w e = absurd cc
    word_is v (Opposite a) w e = absurd cc
    word_is v (CastTo z s a) w e = absurd cc
    word_is v (Both o a b) w e = absurd cc

    constant_stands : (d : Named) (i : Option Tree) (c : Tree) → IsConstant c → stands answers d i c ≡ true → ⊥
    constant_stands d i (Number n) k e = false≢true e
    constant_stands d i (Truth b) k e = false≢true e
    constant_stands d i (Name v) k e = k
    constant_stands d i (CellOf v j) k e = k
    constant_stands d i (Loaded a) k e = k
    constant_stands d i (Minus a) k e = k
    constant_stands d i (Opposite a) k e = k
    constant_stands d i (CastTo z s a) k e = k
    constant_stands d i (Both o a b) k e = k

    module _ (P : Named → Type 0) (registers : Named → Bool) (table : (v : Named) (n : ℕ) → t.cells v n ≡ true → registers v ≡ true) where
      abbrev Over : Tree → Type 0
      Over s = OverTree P registers s

      none_some : (w : Named) → None ≡ Some w → ⊥
      none_some w e = cc

      no_word : (v : Named) (j : Tree) (o : Option Named) → word_of t v j ≡ o → registers v ≡ false → o ≡ None
      no_word v j None q r = refl
      no_word v j (Some w) q r = let h = word_is v j w q in clash (registers v) (table v h.cell h.there) r

      -- ---- where a variable stands behind it stood before
      record Reflects (d : Named) (i : Option Tree) (d' : Named) (i' : Option Tree) : Type 0 where
        pub of_name : (v : Named) → P v → names_eq (t.name v) d' ≡ true → names_eq v d ≡ true
        pub of_cell : (v : Named) (j : Tree) → P v → (names_eq (t.name v) d' && same_index answers i' (Behind j)) ≡ true → (names_eq v d && same_index A i (index_tree j)) ≡ true
        pub of_word : (v : Named) (j : Tree) (w : Named) → P v → word_of t v j ≡ Some w → names_eq w d' ≡ true → (names_eq v d && same_index A i (index_tree j)) ≡ true

      module _ (d : Named) (i : Option Tree) (d' : Named) (i' : Option Tree) (r : Reflects d i d' i') where
        abbrev Back : Tree → Tree → Type 0
        Back s b = stands answers d' i' b ≡ true → stands A d i s ≡ true

        whole_back : (s b : Tree) (o : Option Tree) → t.whole s ≡ o → Back s b → Back s (or_tree o b)
        whole_back s b None q h e = h e
        whole_back s b (Some c) q h e = absurd (constant_stands d' i' c (turn.constant s c q) e)

        cell_back : (v : Named) (j : Tree) (o : Option Named) → word_of t v j ≡ o → P v → Back j (turned t j) → Back (CellOf v j) (cell_or (t.name v) (turned t j) o)
        cell_back v j None q p h e =
            elim (or_split (names_eq (t.name v) d' && same_index answers i' (Behind j)) (stands answers d' i' (turned t j)) e) [
              | inl x ↦ or_first (names_eq v d && same_index A i (index_tree j)) (stands A d i j) (r.of_cell v j p x)
              | inr y ↦ or_last (names_eq v d && same_index A i (index_tree j)) (stands A d i j) (h y)
            ]
        cell_back v j (Some w) q p h e = or_first (names_eq v d && same_index A i (index_tree j)) (stands A d i j) (r.of_word v j w p q e)

        both_back : (f : BinOp) (a b x y : Tree) → Back a x → Back b y → Back (Both f a b) (Both f x y)
        both_back f a b x y g h e =
            elim (or_split (stands answers d' i' y) (stands answers d' i' x) e) [
              | inl z ↦ or_first (stands A d i b) (stands A d i a) (h z)
              | inr z ↦ or_last (stands A d i b) (stands A d i a) (g z)
            ]

        stands_back : (s : Tree) → Over s → Back s (turned t s)
        stands_back (Number n) o e = absurd (false≢true e)
        stands_back (Truth b) o e = absurd (false≢true e)
        stands_back (Name v) o e = whole_back (Name v) (Name (t.name v)) (t.whole (Name v)) refl (r.of_name v o) e
        stands_back (CellOf v j) o e = cell_back v j (word_of t v j) refl o.0 (stands_back j o.2) e
        stands_back (Loaded a) o e = stands_back a o e
        stands_back (Minus a) o e = whole_back (Minus a) (Minus (turned t a)) (t.whole (Minus a)) refl (stands_back a o) e
        stands_back (Opposite a) o e = whole_back (Opposite a) (Opposite (turned t a)) (t.whole (Opposite a)) refl (stands_back a o) e
        stands_back (CastTo z s a) o e = stands_back a o e
        stands_back (Both f a b) o e =
            whole_back (Both f a b) (Both f (turned t a) (turned t b)) (t.whole (Both f a b)) refl (both_back f a b (turned t a) (turned t b) (stands_back a o.0) (stands_back b o.1)) e

        stands_none : (s : Tree) → Over s → stands A d i s ≡ false → stands answers d' i' (turned t s) ≡ false
        stands_none s o e = not_so (stands answers d' i' (turned t s)) (λ h. clash (stands A d i s) (stands_back s o h) e)

      -- ---- a destination and what it becomes
      module _ (d : Named) (set : IsSet t P d) where
        whole_reflects : Reflects d None (t.name d) None
        whole_reflects = record {
          of_name = λ v p e. set.apart v p e;
          of_cell = λ v j p e. (let x = and_parts (names_eq (t.name v) (t.name d)) true e in and_from (names_eq v d) true (set.apart v p x.0) refl);
          of_word = λ v j w p q e. (let h = word_is v j w q in
              clash (names_eq (word_name v h.cell) (t.name d)) (sym (ap (λ x. names_eq x (t.name d)) h.name) ∙ e) (word_other v (t.name d) h.cell set.entire.1));
        }

        cell_reflects : (k : Tree) → Reflects d (Some (index_tree k)) (t.name d) (Some (Behind k))
        cell_reflects k = record {
          of_name = λ v p e. set.apart v p e;
          of_cell = λ v j p e. (let x = and_parts (names_eq (t.name v) (t.name d)) (one_cell answers (Behind k) (Behind j)) e in
              and_from (names_eq v d) (one_cell A (index_tree k) (index_tree j)) (set.apart v p x.0) (cells_so k j ∙ x.1));
          of_word = λ v j w p q e. (let h = word_is v j w q in
              clash (names_eq (word_name v h.cell) (t.name d)) (sym (ap (λ x. names_eq x (t.name d)) h.name) ∙ e) (word_other v (t.name d) h.cell set.entire.1));
        }

        word_reflects : (k : Tree) (u : Named) → IsWord d k u → Reflects d (Some (index_tree k)) u None
        word_reflects k u c = record {
          of_name = λ v p e. clash (names_eq (t.name v) (word_name d c.cell)) (sym (ap (names_eq (t.name v)) c.name) ∙ e) (other_word (t.name v) d c.cell (set.others v p).1);
          of_cell = λ v j p e. (let x = and_parts (names_eq (t.name v) u) true e in
              clash (names_eq (t.name v) (word_name d c.cell)) (sym (ap (names_eq (t.name v)) c.name) ∙ x.0) (other_word (t.name v) d c.cell (set.others v p).1));
          of_word = λ v j w p q e. one_word v j w p (word_is v j w q) e;
        }
          where
            one_word : (v : Named) (j : Tree) (w : Named) → P v → IsWord v j w → names_eq w u ≡ true → (names_eq v d && one_cell A (index_tree k) (index_tree j)) ≡ true
            one_word v j w p h e =
                let s = word_one v d h.cell c.cell (set.others v p).0 set.entire.0 (sym (ap₂ (λ x y. names_eq x y) h.name c.name) ∙ e) in
                let same : j ≡ k = h.index ∙ (ap (λ n. Number (pos n)) s.1 ∙ sym c.index) in
                and_from (names_eq v d) (one_cell A (index_tree k) (index_tree j)) (ap (λ x. names_eq x d) s.0 ∙ name_self d) (ap (λ x. one_cell A (index_tree k) (index_tree x)) same ∙ cell_itself k)

      -- ---- apart, where it stands nowhere
      cell_apart : (d : Named) (k u : Tree) → stands answers d (Some (index_tree k)) u ≡ false → is_apart_from (meets answers (CellAt d k) u) ≡ true
      cell_apart d k (CellOf v j) e = by_name (names_eq v d) refl
        where
          by_name : (b : Bool) → names_eq v d ≡ b
              → is_apart_from (if b then one_or_apart (one_cell answers (index_tree k) (index_tree j)) else elsewhere (stands answers d (Some (index_tree k)) (CellOf v j))) ≡ true
          by_name true q =
              two_are (one_cell answers (index_tree k) (index_tree j))
              (sym (ap (λ b. b && one_cell answers (index_tree k) (index_tree j)) q) ∙ (or_none (names_eq v d && one_cell answers (index_tree k) (index_tree j)) (stands answers d (Some (index_tree k)) j) e).0)
          by_name false q = other (stands answers d (Some (index_tree k)) (CellOf v j)) e
      cell_apart d k (Number n) e = other false refl
      cell_apart d k (Truth b) e = other false refl
      cell_apart d k (Name v) e = other (names_eq v d) e
      cell_apart d k (Loaded a) e = other (stands answers d (Some (index_tree k)) a) e
      cell_apart d k (Minus a) e = other (stands answers d (Some (index_tree k)) a) e
      cell_apart d k (Opposite a) e = other (stands answers d (Some (index_tree k)) a) e
      cell_apart d k (CastTo z s a) e = other (stands answers d (Some (index_tree k)) a) e
      cell_apart d k (Both o a b) e = other (stands answers d (Some (index_tree k)) (Both o a b)) e

      -- what is apart stands nowhere
      nowhere : (d : Named) (u : Tree) → is_apart_from (meets A (Whole d) u) ≡ true → stands A d None u ≡ false
      nowhere d (Name v) e = one_apart (names_eq v d) e
      nowhere d (Number n) e = refl
      nowhere d (Truth b) e = refl
      nowhere d (CellOf v j) e = elsewhere_apart (stands A d None (CellOf v j)) e
      nowhere d (Loaded a) e = elsewhere_apart (stands A d None a) e
      nowhere d (Minus a) e = elsewhere_apart (stands A d None a) e
      nowhere d (Opposite a) e = elsewhere_apart (stands A d None a) e
      nowhere d (CastTo z s a) e = elsewhere_apart (stands A d None a) e
      nowhere d (Both o a b) e = elsewhere_apart (stands A d None (Both o a b)) e

      -- but for another cell of its array
      abbrev OtherCell : Named → Tree → Tree → Type 0
      OtherCell d k u = (j : Tree) × (u ≡ CellOf d j) × (one_cell A (index_tree k) (index_tree j) ≡ false)

      no_cell : (d : Named) (k u : Tree) → is_apart_from (meets A (CellAt d k) u) ≡ true → OtherCell d k u ⊎ (stands A d (Some (index_tree k)) u ≡ false)
      no_cell d k (CellOf v j) e = by_name (names_eq v d) refl e
        where
          by_name : (b : Bool) → names_eq v d ≡ b
              → is_apart_from (if b then one_or_apart (one_cell A (index_tree k) (index_tree j)) else elsewhere (stands A d (Some (index_tree k)) (CellOf v j))) ≡ true
              → OtherCell d k (CellOf v j) ⊎ (stands A d (Some (index_tree k)) (CellOf v j) ≡ false)
          by_name true q h = inl (j, ap (λ x. CellOf x j) (name_one v d q), one_apart (one_cell A (index_tree k) (index_tree j)) h)
          by_name false q h = inr (elsewhere_apart (stands A d (Some (index_tree k)) (CellOf v j)) h)
      no_cell d k (Number n) e = inr refl
      no_cell d k (Truth b) e = inr refl
      no_cell d k (Name v) e = inr (elsewhere_apart (names_eq v d) e)
      no_cell d k (Loaded a) e = inr (elsewhere_apart (stands A d (Some (index_tree k)) a) e)
      no_cell d k (Minus a) e = inr (elsewhere_apart (stands A d (Some (index_tree k)) a) e)
      no_cell d k (Opposite a) e = inr (elsewhere_apart (stands A d (Some (index_tree k)) a) e)
      no_cell d k (CastTo z s a) e = inr (elsewhere_apart (stands A d (Some (index_tree k)) a) e)
      no_cell d k (Both o a b) e = inr (elsewhere_apart (stands A d (Some (index_tree k)) (Both o a b)) e)

      -- ---- two cells of one array
      numerals_one : (m n : ℤ) → one_cell A (Number m) (Number n) ≡ true → Number m ≡ Number n
      numerals_one m n e = tree_one (Number m) (Number n) (by (tree_eq (Number m) (Number n)) e)
        where
          by : (b : Bool) → (b || false) ≡ true → b ≡ true
          by true h = refl
          by false h = absurd (false≢true h)

      numeral_index : (j : Tree) (n : ℤ) → j ≡ Number n → index_tree j ≡ Number n
      numeral_index j n e = ap index_tree e

      -- one cell, one word
      one_word : (d : Named) (k j : Tree) → Indexed P registers d k → Indexed P registers d j → one_cell A (index_tree k) (index_tree j) ≡ true → word_of t d k ≡ word_of t d j
      one_word d k j x y e = by_table (registers d) refl
        where
          by_table : (b : Bool) → registers d ≡ b → word_of t d k ≡ word_of t d j
          by_table true q =
              let m = x q in
              let n = y q in
              let same = numerals_one m.0 n.0 (sym (ap₂ (λ u v. one_cell A u v) (numeral_index k m.0 m.1) (numeral_index j n.0 n.1)) ∙ e) in
              ap (word_of t d) (m.1 ∙ (same ∙ sym n.1))
          by_table false q = no_word d k (word_of t d k) refl q ∙ sym (no_word d j (word_of t d j) refl q)

      -- ---- one place
      same_whole : (d : Named) (s : Tree) → t.whole (Name d) ≡ None → is_same_place (meets A (Whole d) s) ≡ true → is_same_place (meets answers (Whole (t.name d)) (turned t s)) ≡ true
      same_whole d (Name v) set e =
          let q = name_one v d (one_same (names_eq v d) e) in
          subst (λ x. is_same_place (meets answers (Whole (t.name d)) (turned t (Name x))) ≡ true) (sym q)
          (ap (λ o. is_same_place (meets answers (Whole (t.name d)) (or_tree o (Name (t.name d))))) set ∙ one_is (names_eq (t.name d) (t.name d)) (name_self (t.name d)))
      same_whole d (Number n) set e = absurd (false≢true e)
      same_whole d (Truth b) set e = absurd (false≢true e)
      same_whole d (CellOf v j) set e = absurd (elsewhere_not_same (stands A d None (CellOf v j)) e)
      same_whole d (Loaded a) set e = absurd (elsewhere_not_same (stands A d None a) e)
      same_whole d (Minus a) set e = absurd (elsewhere_not_same (stands A d None a) e)
      same_whole d (Opposite a) set e = absurd (elsewhere_not_same (stands A d None a) e)
      same_whole d (CastTo z s a) set e = absurd (elsewhere_not_same (stands A d None a) e)
      same_whole d (Both o a b) set e = absurd (elsewhere_not_same (stands A d None (Both o a b)) e)

      words_same : (d : Named) (k j : Tree) (o : Option Named) → one_cell answers (Behind k) (Behind j) ≡ true
          → is_same_place (meets answers (place_or (t.name d) (turned t k) o) (cell_or (t.name d) (turned t j) o)) ≡ true
      words_same d k j None e =
          ap (λ b. is_same_place (if b then one_or_apart (one_cell answers (Behind k) (Behind j)) else elsewhere (stands answers (t.name d) (Some (Behind k)) (CellOf (t.name d) (turned t j))))) (name_self (t.name d))
          ∙ one_is (one_cell answers (Behind k) (Behind j)) e
      words_same d k j (Some w) e = one_is (names_eq w w) (name_self w)

      same_cells : (d : Named) (k j : Tree) → Indexed P registers d k → Indexed P registers d j → one_cell A (index_tree k) (index_tree j) ≡ true
          → is_same_place (meets answers (turned_place t (CellAt d k)) (turned t (CellOf d j))) ≡ true
      same_cells d k j x y e =
          subst (λ o. is_same_place (meets answers (place_or (t.name d) (turned t k) (word_of t d k)) (cell_or (t.name d) (turned t j) o)) ≡ true) (one_word d k j x y e)
          (words_same d k j (word_of t d k) (sym (cells_so k j) ∙ e))

      same_cell : (d : Named) (k s : Tree) → Indexed P registers d k → Over s → is_same_place (meets A (CellAt d k) s) ≡ true → is_same_place (meets answers (turned_place t (CellAt d k)) (turned t s)) ≡ true
      same_cell d k (CellOf v j) x o e = by_name (names_eq v d) refl e
        where
          by_name : (b : Bool) → names_eq v d ≡ b
              → is_same_place (if b then one_or_apart (one_cell A (index_tree k) (index_tree j)) else elsewhere (stands A d (Some (index_tree k)) (CellOf v j))) ≡ true
              → is_same_place (meets answers (turned_place t (CellAt d k)) (turned t (CellOf v j))) ≡ true
          by_name true q h =
              let n = name_one v d q in
              subst (λ x. is_same_place (meets answers (turned_place t (CellAt d k)) (turned t (CellOf x j))) ≡ true) (sym n)
              (same_cells d k j x (subst (λ u. Indexed P registers u j) n o.1) (one_same (one_cell A (index_tree k) (index_tree j)) h))
          by_name false q h = absurd (elsewhere_not_same (stands A d (Some (index_tree k)) (CellOf v j)) h)
      same_cell d k (Number n) x o e = absurd (false≢true e)
      same_cell d k (Truth b) x o e = absurd (false≢true e)
      same_cell d k (Name v) x o e = absurd (elsewhere_not_same (names_eq v d) e)
      same_cell d k (Loaded a) x o e = absurd (elsewhere_not_same (stands A d (Some (index_tree k)) a) e)
      same_cell d k (Minus a) x o e = absurd (elsewhere_not_same (stands A d (Some (index_tree k)) a) e)
      same_cell d k (Opposite a) x o e = absurd (elsewhere_not_same (stands A d (Some (index_tree k)) a) e)
      same_cell d k (CastTo z s a) x o e = absurd (elsewhere_not_same (stands A d (Some (index_tree k)) a) e)
      same_cell d k (Both f a b) x o e = absurd (elsewhere_not_same (stands A d (Some (index_tree k)) (Both f a b)) e)

      same_memory : (k s : Tree) → is_same_place (meets A (AtMemory k) s) ≡ true → is_same_place (meets answers (AtMemory (turned t k)) (turned t s)) ≡ true
      same_memory k (Loaded a) e =
          let q = tree_one k a (one_same (tree_eq k a) e) in
          one_is (tree_eq (turned t k) (turned t a)) (ap (λ x. tree_eq (turned t k) (turned t x)) (sym q) ∙ tree_self (turned t k))
      same_memory k (Number n) e = absurd (false≢true e)
      same_memory k (Truth b) e = absurd (false≢true e)
      same_memory k (Name v) e = absurd (false≢true e)
      same_memory k (CellOf v j) e = absurd (false≢true e)
      same_memory k (Minus a) e = absurd (false≢true e)
      same_memory k (Opposite a) e = absurd (false≢true e)
      same_memory k (CastTo z s a) e = absurd (false≢true e)
      same_memory k (Both o a b) e = absurd (false≢true e)

      -- ---- apart
      apart_whole : (d : Named) (s : Tree) → IsSet t P d → Over s → is_apart_from (meets A (Whole d) s) ≡ true → is_apart_from (meets answers (Whole (t.name d)) (turned t s)) ≡ true
      apart_whole d s set o e = stands_apart answers (t.name d) (turned t s) (stands_none d None (t.name d) None (whole_reflects d set) s o (nowhere d s e))

      -- of a cell that stands nowhere in it
      apart_free : (d : Named) (k s : Tree) (w : Option Named) → word_of t d k ≡ w → IsSet t P d → Over s → stands A d (Some (index_tree k)) s ≡ false
          → is_apart_from (meets answers (place_or (t.name d) (turned t k) w) (turned t s)) ≡ true
      apart_free d k s None q set o e =
          cell_apart (t.name d) (turned t k) (turned t s) (stands_none d (Some (index_tree k)) (t.name d) (Some (Behind k)) (cell_reflects d set k) s o e)
      apart_free d k s (Some w) q set o e = stands_apart answers w (turned t s) (stands_none d (Some (index_tree k)) w None (word_reflects d set k w (word_is d k w q)) s o e)

      -- of another cell of its array
      two_words : (d u w : Named) (k j : Tree) → d.cell ≡ None → IsWord d k u → IsWord d j w → one_cell A (index_tree k) (index_tree j) ≡ false → names_eq w u ≡ false
      two_words d u w k j n a b e =
          not_so (names_eq w u) (λ h.
          (let s = word_one d d b.cell a.cell n n (sym (ap₂ (λ x y. names_eq x y) b.name a.name) ∙ h) in
          let same : j ≡ k = b.index ∙ (ap (λ i. Number (pos i)) s.1 ∙ sym a.index) in
          clash (one_cell A (index_tree k) (index_tree j)) (ap (λ x. one_cell A (index_tree k) (index_tree x)) same ∙ cell_itself k) e))

      numeral_free : (d : Named) (i : Option Tree) (j : Tree) → IsNumeral j → stands answers d i (turned t j) ≡ false
      numeral_free d i j n = ap (λ x. stands answers d i (turned t x)) n.1

      apart_words : (d : Named) (k j : Tree) (a b : Option Named) → word_of t d k ≡ a → word_of t d j ≡ b → IsSet t P d → Indexed P registers d j → one_cell A (index_tree k) (index_tree j) ≡ false
          → is_apart_from (meets answers (place_or (t.name d) (turned t k) a) (cell_or (t.name d) (turned t j) b)) ≡ true
      apart_words d k j None None p q set x e =
          ap (λ b. is_apart_from (if b then one_or_apart (one_cell answers (Behind k) (Behind j)) else elsewhere (stands answers (t.name d) (Some (Behind k)) (CellOf (t.name d) (turned t j))))) (name_self (t.name d))
          ∙ two_are (one_cell answers (Behind k) (Behind j)) (sym (cells_so k j) ∙ e)
      apart_words d k j None (Some w) p q set x e =
          let h = word_is d j w q in
          other (names_eq w (t.name d)) (ap (λ y. names_eq y (t.name d)) h.name ∙ word_other d (t.name d) h.cell set.entire.1)
      apart_words d k j (Some u) None p q set x e =
          let h = word_is d k u p in
          let n : names_eq (t.name d) u ≡ false = ap (names_eq (t.name d)) h.name ∙ other_word (t.name d) d h.cell set.entire.1 in
          other (stands answers u None (CellOf (t.name d) (turned t j)))
          (ap₂ (λ y z. (y && true) || z) n (numeral_free u None j (x (table d h.cell h.there))))
      apart_words d k j (Some u) (Some w) p q set x e = two_are (names_eq w u) (two_words d u w k j set.entire.0 (word_is d k u p) (word_is d j w q) e)

      apart_cell : (d : Named) (k s : Tree) → IsSet t P d → Over s → is_apart_from (meets A (CellAt d k) s) ≡ true → is_apart_from (meets answers (turned_place t (CellAt d k)) (turned t s)) ≡ true
      apart_cell d k s set o e =
          elim (no_cell d k s e) [
            | inl c ↦ subst (λ x. is_apart_from (meets answers (turned_place t (CellAt d k)) (turned t x)) ≡ true) (sym c.1)
                (apart_words d k c.0 (word_of t d k) (word_of t d c.0) refl refl set (subst Over c.1 o).1 c.2)
            | inr n ↦ apart_free d k s (word_of t d k) refl set o n
          ]

      pub by_place : (p : Place) (s : Tree) → IsSetPlace t P registers p → Over s → KeepsMeeting p (meets A p s) (meets answers (turned_place t p) (turned t s))
      by_place Nothing s set o = record { same = λ e. absurd (false≢true e); apart = λ n e. absurd n }
      by_place (Whole d) s set o = record { same = same_whole d s set.1; apart = λ n. apart_whole d s set.0 o }
      by_place (CellAt d k) s set o = record { same = same_cell d k s set.1 o; apart = λ n. apart_cell d k s set.0 o }
      by_place (AtMemory k) s set o = record { same = same_memory k s; apart = λ n e. absurd n }

pub meetings_are_kept : MeetingsAreKept
meetings_are_kept t read registers answers p s turn table set over = by_place t turn answers (λ v. read v ≡ true) registers table p s set over
