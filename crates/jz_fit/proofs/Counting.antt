-- Lists of operations by paths.
use Rattle.std.proofs.Common.{◌≡◌, ℕ, ◌<◌, ◌↔◌, Bool, true, false, not, ◌&&◌, List, [], IsTrue, IsFalse, length, get_or, map, refl, sym, ap, ◌∙◌, subst, arith, nat_lt}
use Rattle.std.specs.List.{All}
use Rattle.std.proofs.lemmas.Bool.{and_from, and_parts, lt-ltb, ltb-true, not-true, not_from_false}
use Rattle.std.proofs.lemmas.List.{length-map}
use Rattle.std.proofs.lemmas.List.Elements.{All-from_get_or}
use Rattle.jz_bits.specs.Has.{has}
use Rattle.jz_ir.specs.declared.code.Op.{Op}
use Rattle.jz_ir.specs.Paths.{among}
use Rattle.jz_ir.specs.Places.{op_at}
use Rattle.jz_ir.specs.Tree.{Tree, states, ops_of, op_of, LiveInTree}
use Rattle.jz_live_lists.specs.Followed.{FollowedLive}
use Rattle.jz_fit.specs.InnerSpots.{list_at, AreWithin, Counts}
use Rattle.jz_fit.specs.InnerSeats.{AreFollowed}
use Rattle.jz_fit.proofs.Elements.{all_below}
use Rattle.jz_fit.proofs.Seating.{wrote}

module _ (ops : List Op) (Live : ℕ → ℕ → Type 0) (after writes lives crosses : List (List ℕ)) (v : ℕ) (al : length after ≡ length ops)
    (exact : (i : ℕ) → i < length ops → IsTrue (among (list_at after i) v) ↔ Live i v)
    (wr : (i : ℕ) → among (list_at writes v) i ≡ (nat_lt i (length ops) && among (op_at ops i).writes v))
    (lr : (i : ℕ) → among (list_at lives v) i ≡ (nat_lt i (length after) && among (list_at after i) v))
    (cr : (i : ℕ) → among (list_at crosses v) i ≡ (nat_lt i (length ops) && (not (among (op_at ops i).writes v) && among (list_at after i) v))) where
  lived : (i : ℕ) → IsTrue (among (list_at lives v) i) → (i < length ops) × Live i v
  lived i a =
      let z = and_parts (nat_lt i (length after)) (among (list_at after i) v) (sym (lr i) ∙ a) in
      let il : i < length ops = omega (arith, ltb-true i (length after) z.0, al) in
      (il, (exact i il).0 z.1)

  lives_here : (i : ℕ) → (i < length ops) × Live i v → IsTrue (among (list_at lives v) i)
  lives_here i (il, l) = lr i ∙ and_from (nat_lt i (length after)) (among (list_at after i) v) (lt-ltb i (length after) (omega (arith, il, al))) ((exact i il).1 l)

  crossed : (i : ℕ) → IsTrue (among (list_at crosses v) i) → (i < length ops) × IsFalse (among (op_at ops i).writes v) × Live i v
  crossed i a =
      let z = and_parts (nat_lt i (length ops)) (not (among (op_at ops i).writes v) && among (list_at after i) v) (sym (cr i) ∙ a) in
      let y = and_parts (not (among (op_at ops i).writes v)) (among (list_at after i) v) z.1 in
      let il : i < length ops = ltb-true i (length ops) z.0 in
      (il, not-true (among (op_at ops i).writes v) y.0, (exact i il).0 y.1)

  crosses_here : (i : ℕ) → (i < length ops) × IsFalse (among (op_at ops i).writes v) × Live i v → IsTrue (among (list_at crosses v) i)
  crosses_here i (il, w, l) =
      cr i ∙ and_from (nat_lt i (length ops)) (not (among (op_at ops i).writes v) && among (list_at after i) v) (lt-ltb i (length ops) il)
      (and_from (not (among (op_at ops i).writes v)) (among (list_at after i) v) (not_from_false (among (op_at ops i).writes v) w) ((exact i il).1 l))

  pub counts : Counts ops Live (list_at writes v) (list_at lives v) (list_at crosses v) v
  counts = record {
    writes_are = λ i. (
      λ a. (and_parts (nat_lt i (length ops)) (among (op_at ops i).writes v) (sym (wr i) ∙ a)).1,
      λ w. wr i ∙ and_from (nat_lt i (length ops)) (among (op_at ops i).writes v) (lt-ltb i (length ops) (wrote ops i v w)) w,
    );
    lives_are = λ i. (lived i, lives_here i);
    crosses_are = λ i. (crossed i, crosses_here i);
  }

-- each list is one of operations
module _ (ops : List Op) (Live : ℕ → ℕ → Type 0) (writes lives crosses : List ℕ) (v : ℕ) (k : Counts ops Live writes lives crosses v) where
  pub writes_below : All (λ i. i < length ops) writes
  writes_below = all_below writes (length ops) (λ i a. wrote ops i v ((k.writes_are i).0 a))

  pub lives_below : All (λ i. i < length ops) lives
  lives_below = all_below lives (length ops) (λ i a. ((k.lives_are i).0 a).0)

-- ---- what is told of the followed variables
pub ops_count : (t : Tree) (ops : List Op) → ops ≡ ops_of t → length ops ≡ length (states t [])
ops_count t ops e = ap length e ∙ length-map (states t []) op_of

pub rows_within : (t : Tree) (rows : List (List ℕ)) (f : List ℕ) (count : ℕ) → ((v : ℕ) → IsTrue (has f v) → v < count) → ((i : ℕ) → i < length rows → (v : ℕ) → IsTrue (among (get_or rows i []) v) ↔ FollowedLive f t i v) → AreWithin count rows
rows_within t rows f count b e = All-from_get_or (λ list. All (λ i. i < count) list) rows [] (λ i lt. all_below (get_or rows i []) count (λ v a. b v ((e i lt v).0 a).0))

pub followed_exact : (t : Tree) (ops : List Op) (rows : List (List ℕ)) (f : List ℕ) → length rows ≡ length ops → ((i : ℕ) → i < length rows → (v : ℕ) → IsTrue (among (get_or rows i []) v) ↔ FollowedLive f t i v) → (v : ℕ) → IsTrue (has f v) → (i : ℕ) → i < length ops → IsTrue (among (list_at rows i) v) ↔ LiveInTree t i v
followed_exact t ops rows f c e v h i lt =
    let z = e i (omega (arith, lt, c)) v in
    (λ a. (z.0 a).1, λ l. z.1 (h, l))
