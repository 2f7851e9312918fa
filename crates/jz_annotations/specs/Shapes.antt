-- What an annotation's entry says: the shapes of its string.
use Rattle.std.specs.Prelude.{◌≡◌, ◌<◌, ◌^◌, ◌||◌, ◌==◌, ℕ, Bool, true, List, [], ◌∷◌, ◌++◌, Some, None, codes}
use Rattle.std.specs.List.{list_all}
use Rattle.jz_lex.specs.LexingWords.{is_word, is_numeral, value_of_numeral}
use Rattle.jz_tree.specs.declared.program.Note.{Note}
use Rattle.jz_tree.specs.declared.program.NoteValue.TheVariants.{Str}
use Rattle.jz_annotations.specs.declared.precondition.Pre.{Pre}
use Rattle.jz_annotations.specs.declared.precondition.Pre.TheVariants.{Region, Range, Align}

-- a tab or a space
unfoldable pub is_space : ℕ → Bool
is_space b = (b == 9) || (b == 32)

-- these parts in their order; between two of them there may be spaces and tabs
abbrev pub IsMadeOf : List (List ℕ) → List ℕ → Type 0
IsMadeOf [] s = s ≡ []
IsMadeOf (w ∷ []) s = s ≡ w
IsMadeOf (w ∷ (v ∷ ws)) s =
    (gap : List ℕ) × (rest : List ℕ)
    × (list_all is_space gap ≡ true) × (s ≡ w ++ (gap ++ rest)) × IsMadeOf (v ∷ ws) rest

-- a numeral of the language, and the number that it writes, which is below a limit
pub record Numbers (limit : ℕ) (w : List ℕ) (n : ℕ) : Type 0 where
  pub numeral : is_numeral w ≡ true
  pub value : value_of_numeral w ≡ n
  pub below : n < limit

-- what a parameter may be a multiple of
abbrev pub is_alignment : ℕ → Bool
is_alignment n = (n == 1) || ((n == 2) || ((n == 4) || (n == 8)))

-- What a string writes behind an entry's name. A region has k*v + c, k*v, v or c bytes, where k and
-- c are below 2 ^ 32; the ends of a range are below 2 ^ 64.
pub data Writes : List ℕ → List ℕ → Pre → Type 0 where
  sum : {s p k v c : List ℕ} {m n : ℕ}
      → IsMadeOf (p ∷ codes ":" ∷ k ∷ codes "*" ∷ v ∷ codes "+" ∷ c ∷ []) s
      → is_word p ≡ true → Numbers (2 ^ 32) k m → is_word v ≡ true → Numbers (2 ^ 32) c n
      → Writes (codes "region") s (Region p m (Some v) n)
  product : {s p k v : List ℕ} {m : ℕ}
      → IsMadeOf (p ∷ codes ":" ∷ k ∷ codes "*" ∷ v ∷ []) s
      → is_word p ≡ true → Numbers (2 ^ 32) k m → is_word v ≡ true
      → Writes (codes "region") s (Region p m (Some v) 0)
  variable : {s p v : List ℕ}
      → IsMadeOf (p ∷ codes ":" ∷ v ∷ []) s
      → is_word p ≡ true → is_word v ≡ true
      → Writes (codes "region") s (Region p 1 (Some v) 0)
  constant : {s p c : List ℕ} {n : ℕ}
      → IsMadeOf (p ∷ codes ":" ∷ c ∷ []) s
      → is_word p ≡ true → Numbers (2 ^ 32) c n
      → Writes (codes "region") s (Region p 0 None n)
  range : {s x a b : List ℕ} {m n : ℕ}
      → IsMadeOf (x ∷ codes ":" ∷ a ∷ codes ".." ∷ b ∷ []) s
      → is_word x ≡ true → Numbers (2 ^ 64) a m → Numbers (2 ^ 64) b n
      → Writes (codes "range") s (Range x m n)
  align : {s p a : List ℕ} {m : ℕ}
      → IsMadeOf (p ∷ codes ":" ∷ a ∷ []) s
      → is_word p ≡ true → Numbers (2 ^ 64) a m → is_alignment m ≡ true
      → Writes (codes "align") s (Align p m)

-- an entry with such a string
pub record Says (n : Note) (p : Pre) : Type 0 where
  pub string : List ℕ
  pub valued : n.value ≡ Str string
  pub writes : Writes n.name string p
