-- What holds of each phrase whose identifiers have a property.
use Rattle.std.proofs.Common.{◌≡◌, inl, inr, ℕ, zero, suc, List, [], ◌∷◌, ◌++◌, true, Option, Some, None, refl, subst}
use Rattle.std.specs.Prelude.{All}
use Rattle.std.proofs.lemmas.List.Elements.{All-nil, All-cons, All-head, All-tail, All-append}
use Rattle.jz_tree.specs.Span.{Span}
use Rattle.jz_lex.specs.declared.token.Token.{Token}
use Rattle.jz_lex.specs.declared.token.TokenKind.{TokenKind}
use Rattle.jz_lex.specs.declared.token.TokenKind.TheVariants as kind
use Rattle.jz_grammar.specs.Kinds.{Kind, identifier, token_kind, member, is_in}
use Rattle.jz_grammar.specs.Grammar.{Marked, Lang, plain, ◌▸◌, ◌⊕◌, ◌⇒◌, never, opens, each, maybe}
use Rattle.jz_grammar.specs.Tokens.{name_in, name_of}
use Rattle.jz_grammar.specs.Parts.{or_empty, joined_lists}
use Rattle.jz_parse_expr.specs.Table as e

-- ---- lists
abbrev pub IfSome : {A : Type 0} → (A → Type 0) → Option A → Type 0
IfSome P None = Unit {0}
IfSome P (Some a) = P a

pub or_all : {A : Type 0} (P : A → Type 0) (o : Option (List A)) → IfSome (All P) o → All P (or_empty o)
or_all P None h = All-nil P
or_all P (Some xs) h = h

pub joined_all : {A : Type 0} (P : A → Type 0) (xss : List (List A)) → All (All P) xss → All P (joined_lists xss)
joined_all P [] h = All-nil P
joined_all P (xs ∷ xss) h = All-append P xs (joined_lists xss) (All-head (All P) xs xss h) (joined_all P xss (All-tail (All P) xs xss h))

abbrev pub AnyOf : {A : Type 0} → A → Type 0
AnyOf a = Unit {0}

module _ (N : List ℕ → Type 0) where
  -- an identifier has the property
  abbrev pub Named : Token → Type 0
  Named t = (s : List ℕ) → t.kind ≡ kind.Ident s → N s

  -- each identifier among these has it
  abbrev pub AllNamed : List Marked → Type 0
  AllNamed [] = Unit {0}
  AllNamed (x ∷ xs) = Named x.0 × AllNamed xs

  front : (xs ys : List Marked) → AllNamed (xs ++ ys) → AllNamed xs
  front [] ys h = tt
  front (x ∷ xs) ys h = (h.0, front xs ys h.1)

  back : (xs ys : List Marked) → AllNamed (xs ++ ys) → AllNamed ys
  back [] ys h = h
  back (x ∷ xs) ys h = back xs ys h.1

  pub all_named : (xs : List Marked) → All Named (plain xs) → AllNamed xs
  all_named [] h = tt
  all_named (x ∷ xs) h = (All-head Named x.0 (plain xs) h, all_named xs (All-tail Named x.0 (plain xs) h))

  -- P holds of what each phrase stands for whose identifiers have the property
  abbrev pub Gives : {A : Type 0} → Lang A → (A → Type 0) → Type 0
  Gives {A} l P = (xs : List Marked) (a : A) → AllNamed xs → l xs a → P a

  pub anything : {A : Type 0} (l : Lang A) → Gives l AnyOf
  anything l xs a n h = tt

  pub none : {A : Type 0} (P : A → Type 0) → Gives never P
  none P xs a n h = absurd h

  pub two : {A B : Type 0} {l : Lang A} {m : Lang B} {P : A → Type 0} {Q : B → Type 0} → Gives l P → Gives m Q → Gives (l ▸ m) (λ p. P p.0 × Q p.1)
  two L M xs p n h =
      let both : AllNamed (h.0 ++ h.1) = subst AllNamed h.4 n in
      (L h.0 p.0 (front h.0 h.1 both) h.2, M h.1 p.1 (back h.0 h.1 both) h.3)

  pub seen : {A B : Type 0} {l : Lang A} {P : A → Type 0} (Q : B → Type 0) (to : A → B) → ((a : A) → P a → Q (to a)) → Gives l P → Gives (l ⇒ to) Q
  seen Q to so L xs b n h = subst Q h.2 (so h.0 (L xs h.0 n h.1))

  pub either : {A : Type 0} {l m : Lang A} {P : A → Type 0} → Gives l P → Gives m P → Gives (l ⊕ m) P
  either L M xs a n (inl h) = L xs a n h
  either L M xs a n (inr h) = M xs a n h

  pub every : {A : Type 0} {l : Lang A} (P : A → Type 0) → Gives l P → Gives (each l) (All P)
  every P L xs [] n h = All-nil P
  every P L xs (a ∷ as') n h =
      let both : AllNamed (h.0 ++ h.1) = subst AllNamed h.4 n in
      All-cons P a as' (L h.0 a (front h.0 h.1 both) h.2) (every P L h.1 as' (back h.0 h.1 both) h.3)

  pub perhaps : {A : Type 0} {l : Lang A} (P : A → Type 0) → Gives l P → Gives (maybe l) (IfSome P)
  perhaps P L xs o n (inl h) = subst (IfSome P) h.2 (L xs h.0 n h.1)
  perhaps P L xs o n (inr h) = subst (IfSome P) h.1 tt

  pub within : {A : Type 0} (ks : List Kind) (inner : ℕ → Lang A) (P : A → Type 0) (d : ℕ) → ((b : ℕ) → Gives (inner b) P) → Gives (opens ks inner d) (λ p. P p.1)
  within ks inner P zero L xs p n h = absurd h.1
  within ks inner P (suc d) L xs p n h =
      let both : AllNamed (h.1.0 ++ h.1.1) = subst AllNamed h.1.4 n in
      subst (λ z. P z.1) h.2 (L d h.1.1 h.0.1 (back h.1.0 h.1.1 both) h.1.3)

  -- ---- a name
  named_in : (k : TokenKind) → member (token_kind k) (identifier ∷ []) ≡ true → ((s : List ℕ) → k ≡ kind.Ident s → N s) → N (name_in k)
  named_in (kind.Ident s) h n = n s refl
  named_in (kind.Keyword s) h n = absurd (let no : ⊥ = cc in no)
  named_in (kind.Num i) h n = absurd (let no : ⊥ = cc in no)
  named_in (kind.Cast size signed) h n = absurd (let no : ⊥ = cc in no)
  named_in (kind.Str s) h n = absurd (let no : ⊥ = cc in no)
  named_in (kind.Sign s) h n = absurd (let no : ⊥ = cc in no)
  named_in kind.End h n = absurd (let no : ⊥ = cc in no)

  abbrev pub OfName : List ℕ × Span → Type 0
  OfName n = N n.0

  pub name : (d : ℕ) → Gives (e.name d) OfName
  unfolding is_in name_of
  name d xs m n h =
      let one : AllNamed ((h.0, d) ∷ []) = subst AllNamed h.1.0 n in
      subst OfName h.2 (named_in h.0.kind h.1.1 one.0)
