-- Which numbers of a statement its operations show, by their places.
use Rattle.std.proofs.Common.{◌≡◌, ℕ, ◌+◌, ◌<◌, Bool, true, false, List, [], ◌∷◌, ◌++◌, map, length, refl, sym, ap, ◌∙◌, subst, arith, append_assoc, length-append}
use Rattle.std.specs.Prelude.{slice_index, All}
use Rattle.std.proofs.lemmas.List.Elements.{All-nil, All-cons, All-head, All-tail}
use Rattle.jz_change.specs.declared.change.Number.{Number}
use Rattle.jz_change.specs.declared.change.Number.TheVariants.{Nth}
use Rattle.jz_change.specs.declared.change.Numbers.{Numbers}
use Rattle.jz_change.specs.declared.change.Numbers.TheVariants.{These}
use Rattle.jz_change.specs.Changes.{number_in, numbers_in}
use Rattle.jz_change.specs.Fitting.{HasNumber, HasThese}
use Rattle.jz_homes.specs.Operands.{Leaks, silent, hidden, told, shown_of, count_of, IsCounted}
use Rattle.jz_row_operations.specs.Lowering.{numbers_from, both_shown}

-- these are there, and are what is shown
pub record ArePlaced (all : List ℕ) (xs : List Number) (sh : List ℕ) : Type 0 where
  pub has : All (HasNumber all) xs
  pub gives : map (number_in all) xs ≡ sh

pub record IsItem (all : List ℕ) (i : Numbers) (sh : List ℕ) : Type 0 where
  pub has : HasThese all i
  pub gives : numbers_in i all ≡ sh

pub data AreItems (all : List ℕ) : List Numbers → List (List ℕ) → Type 0 where
  no_items : AreItems all [] []
  more_items : {i : Numbers} {is : List Numbers} {s : List ℕ} {ss : List (List ℕ)} → IsItem all i s → AreItems all is ss → AreItems all (i ∷ is) (s ∷ ss)

pub item : {all : List ℕ} {xs : List Number} {sh : List ℕ} → ArePlaced all xs sh → IsItem all (These xs) sh
item h = record { has = h.has; gives = h.gives }

pub one_item : {all : List ℕ} {xs : List Number} {sh : List ℕ} → ArePlaced all xs sh → AreItems all (These xs ∷ []) (sh ∷ [])
one_item h = more_items (item h) no_items

pub nothing_placed : (all : List ℕ) → ArePlaced all [] []
nothing_placed all = record { has = All-nil (HasNumber all); gives = refl }

all_joined : (all : List ℕ) (xs ys : List Number) → All (HasNumber all) xs → All (HasNumber all) ys → All (HasNumber all) (xs ++ ys)
all_joined all [] ys h k = k
all_joined all (x ∷ xs) ys h k = All-cons (HasNumber all) x (xs ++ ys) (All-head (HasNumber all) x xs h) (all_joined all xs ys (All-tail (HasNumber all) x xs h) k)

map_joined : (f : Number → ℕ) (xs ys : List Number) → map f (xs ++ ys) ≡ map f xs ++ map f ys
map_joined f [] ys = refl
map_joined f (x ∷ xs) ys = ap (λ l. f x ∷ l) (map_joined f xs ys)

pub both_placed : {all : List ℕ} {xs ys : List Number} {a b : List ℕ} → ArePlaced all xs a → ArePlaced all ys b → ArePlaced all (xs ++ ys) (a ++ b)
both_placed {all} {xs} {ys} {a} {b} h k = record {
  has = all_joined all xs ys h.has k.has;
  gives = map_joined (number_in all) xs ys ∙ ap (λ l. l ++ map (number_in all) ys) h.gives ∙ ap (λ l. a ++ l) k.gives;
}

-- ---- the numbers of one part, behind those of others
at_seam : (pre : List ℕ) (n : ℕ) (post : List ℕ) → slice_index (pre ++ n ∷ post) (length pre) ≡ n
at_seam [] n post = refl
at_seam (y ∷ pre) n post = at_seam pre n post

seam_there : (pre : List ℕ) (n : ℕ) (post : List ℕ) → length pre < length (pre ++ n ∷ post)
seam_there pre n post = let e = length-append pre (n ∷ post) in omega (arith, e)

one_placed : (pre : List ℕ) (n : ℕ) (post : List ℕ) → ArePlaced (pre ++ n ∷ post) (Nth (length pre) ∷ []) (n ∷ [])
one_placed pre n post = record {
  has = All-cons (HasNumber (pre ++ n ∷ post)) (Nth (length pre)) [] (seam_there pre n post) (All-nil (HasNumber (pre ++ n ∷ post)));
  gives = ap (λ x. x ∷ []) (at_seam pre n post);
}

pub counted_length : (p : Leaks) (a : List ℕ) → IsCounted p a → count_of p ≡ length a
counted_length silent a h = ap length (sym h)
counted_length hidden a h = ap length (sym h.1)
counted_length told a h = ap length (sym h.1)

pub placed_behind : (pre : List ℕ) (k : ℕ) → k ≡ length pre → (q : Leaks) (b c : List ℕ) → IsCounted q b → ArePlaced (pre ++ (b ++ c)) (numbers_from q k) (shown_of q b)
placed_behind pre k e silent b c h = nothing_placed (pre ++ (b ++ c))
placed_behind pre k e hidden b c h = nothing_placed (pre ++ (b ++ c))
placed_behind pre k e told b c h =
    subst (λ l. ArePlaced (pre ++ (l ++ c)) (Nth k ∷ []) l) (sym h.1)
    (subst (λ i. ArePlaced (pre ++ (h.0 ∷ c)) (Nth i ∷ []) (h.0 ∷ [])) (sym e) (one_placed pre h.0 c))

pub first_placed : (p : Leaks) (a b : List ℕ) → IsCounted p a → ArePlaced (a ++ b) (numbers_from p 0) (shown_of p a)
first_placed p a b h = placed_behind [] 0 refl p a b h

pub next_placed : (p q : Leaks) (a b c : List ℕ) → IsCounted p a → IsCounted q b → ArePlaced (a ++ (b ++ c)) (numbers_from q (count_of p)) (shown_of q b)
next_placed p q a b c h k = placed_behind a (count_of p) (counted_length p a h) q b c k

pub third_placed : (p q r : Leaks) (a b c d : List ℕ) → IsCounted p a → IsCounted q b → IsCounted r c → ArePlaced (a ++ (b ++ (c ++ d))) (numbers_from r (count_of p + count_of q)) (shown_of r c)
third_placed p q r a b c d h k l =
    let e = length-append a b in
    let f = counted_length p a h in
    let g = counted_length q b k in
    subst (λ all. ArePlaced all (numbers_from r (count_of p + count_of q)) (shown_of r c)) (append_assoc a b (c ++ d))
    (placed_behind (a ++ b) (count_of p + count_of q) (omega (arith, e, f, g)) r c d l)

-- ---- the operations of a row
-- what is shown, by the way in which the first operand comes to the destination
abbrev pub shown_in : Bool → Bool → List ℕ → List ℕ → List (List ℕ)
shown_in true s first second = (first ++ second) ∷ []
shown_in false true first second = (second ++ first) ∷ []
shown_in false false first second = first ∷ second ∷ []

pub row_items : (s1 s2 : Bool) {all : List ℕ} {xs ys : List Number} {a b : List ℕ} → ArePlaced all xs a → ArePlaced all ys b → AreItems all (both_shown s1 s2 xs ys) (shown_in s1 s2 a b)
row_items true s2 h k = one_item (both_placed h k)
row_items false true h k = one_item (both_placed k h)
row_items false false h k = more_items (item h) (one_item k)

pub at_numbers : {ns all : List ℕ} {is : List Numbers} {ss : List (List ℕ)} → ns ≡ all → AreItems all is ss → AreItems ns is ss
at_numbers {ns} {all} {is} {ss} e h = subst (λ l. AreItems l is ss) (sym e) h
