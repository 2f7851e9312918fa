-- What a reader tells of a grammar.
use Rattle.std.specs.Prelude.{◌≡◌, ◌<◌, ℕ, zero, suc, List, [], ◌∷◌, ◌++◌, Bool, true, false, ◌&&◌, nat_lt, Option, Some, None, Ok, Err, if◌then◌else◌}
use Rattle.jz_lex.specs.declared.token.Token.{Token}
use Rattle.jz_grammar.specs.Causes.{Cause, Unexpected, TooDeep}
use Rattle.jz_grammar.specs.Kinds.{Kind, is_in, has}
use Rattle.jz_grammar.specs.Readers.{Answer, Reader}
use Rattle.jz_grammar.specs.Grammar.{Marked, Lang, plain, Within}

-- how phrases begin, which tokens after one would go on with it, and whether the empty one is there
pub record Shape : Type 0 where
  pub starts : List Kind
  pub goes : List Kind
  pub empties : Bool

-- the first token, if there is one
abbrev pub head_of : List Token → Option Token
head_of [] = None
head_of (t ∷ ts) = Some t

-- how a list begins that has this shape
abbrev pub First : Shape → List Marked → Type 0
First s [] = s.empties ≡ true
First s (x ∷ xs) = is_in s.starts x.0 ≡ true

-- what is read of a phrase and what follows it, if at e no more may be nested
abbrev pub outcome : {A : Type 0} → ℕ → List Marked → A → List Token → Answer A
outcome e [] a rest = Ok (a, rest)
outcome e (x ∷ xs) a rest = if nat_lt x.1 e then Err (TooDeep, x.0 ∷ plain xs ++ rest) else outcome e xs a rest

-- for TooDeep, the next token is there and is too deep
abbrev pub Next : Cause → ℕ → List Marked → List Token → Type 0
Next Unexpected e ys rest = Unit {0}
Next TooDeep e [] rest = ⊥
Next TooDeep e (y ∷ ys) [] = ⊥
Next TooDeep e (y ∷ ys) (t ∷ ts) = (y.0 ≡ t) × (y.1 < e)

-- a phrase whose first tokens are pre, all within the limit
abbrev pub Begun : {A : Type 0} → Lang A → ℕ → List Token → Cause → List Token → Type 0
Begun {A} lang e pre k rest = (xs : List Marked) × (ys : List Marked) × (a : A) × lang (xs ++ ys) a × Within e xs × (plain xs ≡ pre) × Next k e ys rest

-- a phrase of these tokens, all within the limit
abbrev pub Whole : {A : Type 0} → Lang A → ℕ → List Token → A → Type 0
Whole lang e pre a = (xs : List Marked) × lang xs a × Within e xs × (plain xs ≡ pre)

-- What is read, and where it stops, is decided by the tokens before and by the next one.
pub record Found {A : Type 0} (read : Reader A) (lang : ℕ → Lang A) (ts : List Token) (a : A) (rest : List Token) : Type 0 where
  pub pre : List Token
  pub splits : ts ≡ pre ++ rest
  pub stays : (other : List Token) → head_of rest ≡ head_of other → read (pre ++ other) ≡ Ok (a, other)
  pub whole : (e : ℕ) → Whole (lang e) e pre a

pub record Stopped {A : Type 0} (read : Reader A) (lang : ℕ → Lang A) (ts : List Token) (k : Cause) (rest : List Token) : Type 0 where
  pub pre : List Token
  pub splits : ts ≡ pre ++ rest
  pub stays : (other : List Token) → head_of rest ≡ head_of other → read (pre ++ other) ≡ Err (k, other)
  pub begins : (e : ℕ) → 1 < e → Begun (lang e) e pre k rest

-- A reader of the phrases of a grammar; e is how much more may be nested in the grammar than the
-- reader goes.
pub record IsReader {A : Type 0} (read : Reader A) (lang : ℕ → Lang A) (s : Shape) : Type 0 where
  pub first : (e : ℕ) (xs : List Marked) (a : A) → lang e xs a → First s xs
  pub again : (e : ℕ) (xs : List Marked) (a : A) (rest : List Token) → lang e xs a → has s.goes rest ≡ false → read (plain xs ++ rest) ≡ outcome e xs a rest
  pub found : (ts rest : List Token) (a : A) → read ts ≡ Ok (a, rest) → Found read lang ts a rest
  pub stop : (ts rest : List Token) (k : Cause) → read ts ≡ Err (k, rest) → Stopped read lang ts k rest

-- the shape of one token of these kinds
abbrev pub one_shape : List Kind → Shape
one_shape ks = record { starts = ks; goes = []; empties = false }

-- the shape of no token
abbrev pub empty_shape : Shape
empty_shape = record { starts = []; goes = []; empties = true }

-- the shape of one after the other
abbrev pub both : Shape → Shape → Shape
both s r = record { starts = (if s.empties then s.starts ++ r.starts else s.starts); goes = (if r.empties then s.goes ++ r.goes else r.goes); empties = (s.empties && r.empties) }

-- the shape of one or the other
abbrev pub either : Shape → Shape → Shape
either s r = record { starts = s.starts ++ r.starts; goes = s.goes ++ (r.goes ++ (if r.empties then s.starts else [])); empties = r.empties }

-- phrases that are not empty
abbrev pub full : List Kind → List Kind → Shape
full starts goes = record { starts = starts; goes = goes; empties = false }

-- the shape of any number
abbrev pub many_shape : List Kind → List Kind → Shape
many_shape starts goes = record { starts = starts; goes = starts ++ goes; empties = true }

-- where one more may be nested there is a phrase
abbrev pub HasPhrase : {A : Type 0} → (ℕ → Lang A) → Type 0
HasPhrase {A} lang = (e : ℕ) → 0 < e → (xs : List Marked) × (a : A) × lang e xs a

-- where a phrase begins with a token of ks, none of ls comes after it, and the reader takes that
-- token
pub record Second {A : Type 0} (ks ls : List Kind) (read : Reader A) (lang : ℕ → Lang A) : Type 0 where
  pub next : (e : ℕ) (x y : Marked) (xs : List Marked) (a : A) → lang e (x ∷ y ∷ xs) a → is_in ks x.0 ≡ true → is_in ls y.0 ≡ false
  pub takes : (t : Token) (ts : List Token) (k : Cause) → is_in ks t ≡ true → read (t ∷ ts) ≡ Err (k, t ∷ ts) → ⊥
