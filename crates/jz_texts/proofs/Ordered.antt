-- The tokens of a text stand one behind the other.
use Rattle.std.proofs.Common.{◌≡◌, inl, inr, ℕ, ◌+◌, ◌==◌, List, [], ◌∷◌, ◌++◌, Bool, true, false, refl, sym, ◌∙◌, subst, if◌then◌else◌, arith}
use Rattle.std.specs.Prelude.{All, AllPairs}
use Rattle.std.proofs.lemmas.List.Elements.{All-nil, All-cons, All-head, All-tail, All-weaker}
use Rattle.std.proofs.lemmas.List.Kept.{AllPairs-cons}
use Rattle.std.proofs.lemmas.Bool.{false≢true}
use Rattle.jz_tree.specs.Span.{Span}
use Rattle.jz_lex.specs.declared.token.Token.{Token}
use Rattle.jz_lex.specs.declared.token.TokenKind.TheVariants as kind
use Rattle.jz_lex.specs.LexingWords.{is_lexeme, kind_of_word}
use Rattle.jz_lex.specs.Lexing.{Part, Skipped, Lexeme, first_place, after, UpTo, IsLexed}
use Rattle.jz_lex.proofs.LexingWords.{no_empty}
use Rattle.jz_type_names.specs.Order.{Before}
use Rattle.jz_type_names.proofs.Standing.{AtLeast, before_before, least_least}
use Rattle.jz_texts.proofs.Lists.{pairs_nil, pairs_head, pairs_tail}

-- ---- places behind bytes
abbrev below : Span → Span
below s = record { line = s.line + 1; col = 1 }

abbrev beside : Span → Span
beside s = record { line = s.line; col = s.col + 1 }

below_behind : (s : Span) → Before s (below s)
below_behind s = inl (omega arith)

beside_behind : (s : Span) → Before s (beside s)
beside_behind s = inr (refl, omega arith)

before_least : (a b c : Span) → Before a b → AtLeast b c → Before a c
before_least a b c p (inl q) = before_before a b c p q
before_least a b c p (inr e) = subst (Before a) e p

least_before : (a b c : Span) → AtLeast a b → Before b c → Before a c
least_before a b c (inl p) q = before_before a b c p q
least_before a b c (inr e) q = subst (λ x. Before x c) (sym e) q

stepped : (c : Bool) (s : Span) (bs : List ℕ) → AtLeast (below s) (after (below s) bs) → AtLeast (beside s) (after (beside s) bs) → Before s (if c then after (below s) bs else after (beside s) bs)
stepped true s bs p q = before_least s (below s) (after (below s) bs) (below_behind s) p
stepped false s bs p q = before_least s (beside s) (after (beside s) bs) (beside_behind s) q

at_or_behind : (s : Span) (bs : List ℕ) → AtLeast s (after s bs)
at_or_behind s [] = inr refl
at_or_behind s (b ∷ bs) = inl (stepped (b == 10) s bs (at_or_behind (below s) bs) (at_or_behind (beside s) bs))

ahead : (s : Span) (b : ℕ) (bs : List ℕ) → Before s (after s (b ∷ bs))
ahead s b bs = stepped (b == 10) s bs (at_or_behind (below s) bs) (at_or_behind (beside s) bs)

lexeme_ahead : (s : Span) (w more : List ℕ) → is_lexeme w more ≡ true → Before s (after s w)
lexeme_ahead s [] more h = absurd (false≢true (sym (no_empty more) ∙ h))
lexeme_ahead s (b ∷ bs) more h = ahead s b bs

-- ---- tokens
abbrev pub InTurn : Token → Token → Type 0
InTurn t u = Before t.span u.span

-- from s on, and before e
pub record AreFrom (s e : Span) (ts : List Token) : Type 0 where
  pub least : All (λ t. AtLeast s t.span) ts
  pub most : All (λ t. Before t.span e) ts
  pub turn : AllPairs InTurn ts
  pub ends : AtLeast s e

none_from : (s : Span) (ts : List Token) → ts ≡ [] → AreFrom s s ts
none_from s ts e =
    subst (AreFrom s s) (sym e)
    (record { least = All-nil (λ t. AtLeast s t.span); most = All-nil (λ t. Before t.span s); turn = pairs_nil InTurn; ends = inr refl })

sooner_from : (s r e : Span) (ts : List Token) → AtLeast s r → AreFrom r e ts → AreFrom s e ts
sooner_from s r e ts p h =
    record {
      least = All-weaker (λ t. AtLeast r t.span) (λ t. AtLeast s t.span) (λ t q. least_least s r t.span p q) ts h.least;
      most = h.most;
      turn = h.turn;
      ends = least_least s r e p h.ends;
    }

one_from : (s r e : Span) (t : Token) (ts : List Token) → t.span ≡ s → Before s r → AreFrom r e ts → AreFrom s e (t ∷ ts)
one_from s r e t ts is p h =
    record {
      least = All-cons (λ t. AtLeast s t.span) t ts (inr (sym is)) (All-weaker (λ t. AtLeast r t.span) (λ t. AtLeast s t.span) (λ t q. least_least s r t.span (inl p) q) ts h.least);
      most = All-cons (λ t. Before t.span e) t ts (subst (λ x. Before x e) (sym is) (before_least s r e p h.ends)) h.most;
      turn =
          AllPairs-cons InTurn t ts
          (All-weaker (λ u. AtLeast r u.span) (InTurn t) (λ u q. subst (λ x. Before x u.span) (sym is) (before_least s r u.span p q)) ts h.least)
          h.turn;
      ends = least_least s r e (inl p) h.ends;
    }

tokens_from : (parts : List Part) (s : Span) (text : List ℕ) (ts : List Token) (e : Span) (rest : List ℕ) → UpTo s text parts ts e rest → AreFrom s e ts
tokens_from [] s text ts e rest h = subst (λ x. AreFrom s x ts) h.1 (none_from s ts h.2)
tokens_from (Skipped w ∷ parts) s text ts e rest h = sooner_from s (after s w) e ts (at_or_behind s w) (tokens_from parts (after s w) h.0 ts e rest h.3)
tokens_from (Lexeme w ∷ parts) s text ts e rest h =
    subst (AreFrom s e) (sym h.6)
    (one_from s (after s w) e (record { kind = kind_of_word w; span = s }) h.1 refl (lexeme_ahead s w h.0 h.4.0) (tokens_from parts (after s w) h.0 h.1 e rest h.7))

-- ---- with the end
ended : (e : Span) (t : Token) (ts : List Token) → t.span ≡ e → All (λ u. Before u.span e) ts → AllPairs InTurn ts → AllPairs InTurn (ts ++ t ∷ [])
ended e t [] is m h = AllPairs-cons InTurn t [] (All-nil (InTurn t)) (pairs_nil InTurn)
ended e t (u ∷ ts) is m h =
    AllPairs-cons InTurn u (ts ++ t ∷ []) (last ts (pairs_head InTurn u ts h)) (ended e t ts is (All-tail (λ u. Before u.span e) u ts m) (pairs_tail InTurn u ts h))
  where
    last : (us : List Token) → All (InTurn u) us → All (InTurn u) (us ++ t ∷ [])
    last [] k = All-cons (InTurn u) t [] (subst (Before u.span) (sym is) (All-head (λ u. Before u.span e) u ts m)) (All-nil (InTurn u))
    last (v ∷ us) k = All-cons (InTurn u) v (us ++ t ∷ []) (All-head (InTurn u) v us k) (last us (All-tail (InTurn u) v us k))

pub in_turn : (text : List ℕ) (ts : List Token) → IsLexed text ts → AllPairs InTurn ts
in_turn text ts h =
    let from = tokens_from h.0 first_place text h.1 h.2 [] h.3 in
    subst (AllPairs InTurn) (sym h.4) (ended h.2 (record { kind = kind.End; span = h.2 }) h.1 refl from.most from.turn)
