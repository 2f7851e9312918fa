-- A level, operator by operator.
use Rattle.std.proofs.Common.{◌≡◌, ℕ, zero, suc, ◌-◌, ◌<◌, ◌≤◌, List, [], ◌∷◌, ◌++◌, length, true, false, Ok, Err, refl, sym, ap, ◌∙◌, arith, ◌||◌, codes}
use Rattle.jz_tree.specs.Span.{Span}
use Rattle.jz_grammar.specs.Token.{Token}
use Rattle.jz_grammar.specs.Causes.{Cause}
use Rattle.jz_grammar.specs.Kinds.{Kind, number, identifier, word, token_kind, is_in, has}
use Rattle.jz_grammar.specs.Readers.{Answer, Reader, ◌>>=◌, through, many, leaf}
use Rattle.jz_grammar.proofs.Basics.{member_append}
use Rattle.jz_grammar.proofs.Combine.{many_next, many_done, shorter}
use Rattle.jz_tree.specs.declared.expr.Expr.{Expr}
use Rattle.jz_tree.specs.declared.expr.Expr.TheVariants as e
use Rattle.jz_tree.specs.declared.expr.BinOp.{BinOp}
use Rattle.jz_parse_expr.specs.Operators.{ops_of, op_of}
use Rattle.jz_parse_expr.specs.Trees.{chain}
use Rattle.jz_parse_expr.specs.Readers as r
use Rattle.jz_parse_expr.proofs.Levels.{goes_of, item_reads}
use Rattle.jz_parse_expr.proofs.Laws.{unary_reads}

-- an operator with its right side
abbrev Pair : Type 0
Pair = BinOp × (Span × Expr)

pub rest_done : (sub : Reader (Span × Expr)) (k : ℕ) (a : Span × Expr) (ts : List Token) → has (ops_of k) ts ≡ false → r.rest_of sub k a ts ≡ Ok (a, ts)
unfolding r.rest_of
rest_done sub k a ts h = ap (through (λ ps. chain a ps)) (many_done (r.operand sub k) (ops_of k) ts h)

module _ (d k : ℕ) (small : k ≤ 9) where
  abbrev sub : Reader (Span × Expr)
  sub = r.levels (r.unary d) k

  abbrev more : Reader (List Pair)
  more = many (ops_of k) (r.operand sub k)

  -- what is read behind an operator that is read so
  abbrev after_op : Span × Expr → Answer BinOp → Answer (Span × Expr)
  after_op a z = through {A = List Pair} (λ ps. chain a ps) (through {A = Pair × List Pair} (λ p. p.0 ∷ p.1) ((◌>>=◌ {B = Pair} z (λ x. sub x.1 >>= λ y. Ok ((x.0, y.0), y.1))) >>= λ x. more x.1 >>= λ y. Ok ((x.0, y.0), y.1)))

  -- and behind its right side
  abbrev after_sub : Span × Expr → BinOp → Answer (Span × Expr) → Answer (Span × Expr)
  after_sub a op z = through {A = List Pair} (λ ps. chain a ps) (through {A = Pair × List Pair} (λ p. p.0 ∷ p.1) ((◌>>=◌ {B = Pair} z (λ y. Ok ((op, y.0), y.1))) >>= λ x. more x.1 >>= λ y. Ok ((x.0, y.0), y.1)))

  next : (a : Span × Expr) (ts : List Token) → has (ops_of k) ts ≡ true → r.rest_of sub k a ts ≡ after_op a (leaf (ops_of k) op_of ts)
  unfolding r.rest_of
  next a ts i = ap (through (λ ps. chain a ps)) (many_next (ops_of k) (goes_of k) (item_reads d (unary_reads d) k small) ts i)

  last : (s from : Span) (a b : Expr) (op : BinOp) (q : Answer (List Pair)) → through {A = List Pair} (λ ps. chain (s, a) ps) (through {A = Pair × List Pair} (λ p. p.0 ∷ p.1) (q >>= λ y. Ok (((op, (from, b)), y.0), y.1))) ≡ through (λ ps. chain (s, e.Bin op a b s) ps) q
  last s from a b op (Ok x) = refl
  last s from a b op (Err x) = refl

  next_is : (s from : Span) (a b : Expr) (ts us vs : List Token) (op : BinOp) → has (ops_of k) ts ≡ true → leaf (ops_of k) op_of ts ≡ Ok (op, us) → sub us ≡ Ok ((from, b), vs) → r.rest_of sub k (s, a) ts ≡ r.rest_of sub k (s, e.Bin op a b s) vs
  unfolding r.rest_of
  next_is s from a b ts us vs op i x y = next (s, a) ts i ∙ ap (λ z. after_op (s, a) z) x ∙ ap (λ z. after_sub (s, a) op z) y ∙ last s from a b op (more vs)

  op_wrong : (a : Span × Expr) (ts us : List Token) (w : Cause) → has (ops_of k) ts ≡ true → leaf (ops_of k) op_of ts ≡ Err (w, us) → r.rest_of sub k a ts ≡ Err (w, us)
  op_wrong a ts us w i x = next a ts i ∙ ap (λ z. after_op a z) x

  sub_wrong : (a : Span × Expr) (ts us vs : List Token) (op : BinOp) (w : Cause) → has (ops_of k) ts ≡ true → leaf (ops_of k) op_of ts ≡ Ok (op, us) → sub us ≡ Err (w, vs) → r.rest_of sub k a ts ≡ Err (w, vs)
  sub_wrong a ts us vs op w i x y = next a ts i ∙ ap (λ z. after_op a z) x ∙ ap (λ z. after_sub a op z) y

  -- what is left is shorter
  less : (b : Span × Expr) (ts us vs : List Token) (op : BinOp) → leaf (ops_of k) op_of ts ≡ Ok (op, us) → sub us ≡ Ok (b, vs) → length vs < length ts
  less b ts us vs op x y = shorter (ops_of k) (goes_of k) (item_reads d (unary_reads d) k small) ts vs (op, b)
      (ap (λ z. ◌>>=◌ {B = Pair} z (λ x. sub x.1 >>= λ y. Ok ((x.0, y.0), y.1))) x ∙ ap (λ z. ◌>>=◌ {B = Pair} z (λ y. Ok ((op, y.0), y.1))) y)

pub rest_next : (d k : ℕ) (s from : Span) (a b : Expr) (ts us vs : List Token) (op : BinOp) → k ≤ 9 → has (ops_of k) ts ≡ true → leaf (ops_of k) op_of ts ≡ Ok (op, us) → r.levels (r.unary d) k us ≡ Ok ((from, b), vs) → r.rest_of (r.levels (r.unary d) k) k (s, a) ts ≡ r.rest_of (r.levels (r.unary d) k) k (s, e.Bin op a b s) vs
rest_next d k s from a b ts us vs op h i x y = next_is d k h s from a b ts us vs op i x y

pub rest_op_err : (d k : ℕ) (a : Span × Expr) (ts us : List Token) (w : Cause) → k ≤ 9 → has (ops_of k) ts ≡ true → leaf (ops_of k) op_of ts ≡ Err (w, us) → r.rest_of (r.levels (r.unary d) k) k a ts ≡ Err (w, us)
rest_op_err d k a ts us w h i x = op_wrong d k h a ts us w i x

pub rest_sub_err : (d k : ℕ) (a : Span × Expr) (ts us vs : List Token) (op : BinOp) (w : Cause) → k ≤ 9 → has (ops_of k) ts ≡ true → leaf (ops_of k) op_of ts ≡ Ok (op, us) → r.levels (r.unary d) k us ≡ Err (w, vs) → r.rest_of (r.levels (r.unary d) k) k a ts ≡ Err (w, vs)
rest_sub_err d k a ts us vs op w h i x y = sub_wrong d k h a ts us vs op w i x y

pub rest_shorter : (d k : ℕ) (b : Span × Expr) (ts us vs : List Token) (op : BinOp) → k ≤ 9 → leaf (ops_of k) op_of ts ≡ Ok (op, us) → r.levels (r.unary d) k us ≡ Ok (b, vs) → length vs < length ts
rest_shorter d k b ts us vs op h x y = less d k h b ts us vs op x y

pub level_zero : (u : Reader (Span × Expr)) (k : ℕ) (ts : List Token) → k ≡ 0 → r.levels u k ts ≡ u ts
unfolding r.levels
level_zero u k ts h = ap (λ z. r.levels u z ts) h

level_by : (u : Reader (Span × Expr)) (k : ℕ) (ts : List Token) → r.levels u (suc k) ts ≡ (r.levels u k ts >>= λ x. r.rest_of (r.levels u k) k x.0 x.1)
unfolding r.levels r.rest_of
level_by u k ts = step (r.levels u k ts)
  where
    last' : (a : Span × Expr) (q : Answer (List Pair)) → through {A = (Span × Expr) × List Pair} (λ p. chain p.0 p.1) (q >>= λ y. Ok ((a, y.0), y.1)) ≡ through (λ ps. chain a ps) q
    last' a (Ok x) = refl
    last' a (Err x) = refl

    step : (q : Answer (Span × Expr)) → through {A = (Span × Expr) × List Pair} (λ p. chain p.0 p.1) (q >>= λ x. many (ops_of k) (r.operand (r.levels u k) k) x.1 >>= λ y. Ok ((x.0, y.0), y.1)) ≡ (q >>= λ x. through (λ ps. chain x.0 ps) (many (ops_of k) (r.operand (r.levels u k) k) x.1))
    step (Ok x) = last' x.0 (many (ops_of k) (r.operand (r.levels u k) k) x.1)
    step (Err x) = refl

pub level_ok : (u : Reader (Span × Expr)) (k : ℕ) (ts rest : List Token) (a : Span × Expr) → (k ≡ 0 → ⊥) → r.levels u (k - 1) ts ≡ Ok (a, rest) → r.levels u k ts ≡ r.rest_of (r.levels u (k - 1)) (k - 1) a rest
level_ok u zero ts rest a n h = absurd (n refl)
level_ok u (suc k) ts rest a n h = let s : suc k - 1 ≡ k = omega arith in
    level_by u k ts ∙ ap (λ z. r.levels u z ts >>= λ x. r.rest_of (r.levels u z) z x.0 x.1) (sym s) ∙ ap (λ z. z >>= λ x. r.rest_of (r.levels u (suc k - 1)) (suc k - 1) x.0 x.1) h

pub level_err : (u : Reader (Span × Expr)) (k : ℕ) (ts rest : List Token) (w : Cause) → (k ≡ 0 → ⊥) → r.levels u (k - 1) ts ≡ Err (w, rest) → r.levels u k ts ≡ Err (w, rest)
level_err u zero ts rest w n h = absurd (n refl)
level_err u (suc k) ts rest w n h = let s : suc k - 1 ≡ k = omega arith in
    level_by u k ts ∙ ap (λ z. r.levels u z ts >>= λ x. r.rest_of (r.levels u z) z x.0 x.1) (sym s) ∙ ap (λ z. z >>= λ x. r.rest_of (r.levels u (suc k - 1)) (suc k - 1) x.0 x.1) h

in_either : (ks ls : List Kind) (t : Token) → is_in (ks ++ ls) t ≡ (is_in ks t || is_in ls t)
unfolding is_in
in_either ks ls t = member_append ks ls (token_kind t.kind)

pub begins_is : (ts : List Token) → has r.expr_starts ts ≡ (has (number ∷ []) ts || (has (identifier ∷ []) ts || (has (word (codes "true") ∷ []) ts || (has (word (codes "false") ∷ []) ts || has r.signed_starts ts))))
begins_is ts = has_either (number ∷ []) (identifier ∷ word (codes "true") ∷ word (codes "false") ∷ r.signed_starts) ts
    ∙ ap (λ z. has (number ∷ []) ts || z) (has_either (identifier ∷ []) (word (codes "true") ∷ word (codes "false") ∷ r.signed_starts) ts
    ∙ ap (λ z. has (identifier ∷ []) ts || z) (has_either (word (codes "true") ∷ []) (word (codes "false") ∷ r.signed_starts) ts
    ∙ ap (λ z. has (word (codes "true") ∷ []) ts || z) (has_either (word (codes "false") ∷ []) r.signed_starts ts)))
  where
    has_either : (ks ls : List Kind) (us : List Token) → has (ks ++ ls) us ≡ (has ks us || has ls us)
    has_either ks ls [] = refl
    has_either ks ls (t ∷ us) = in_either ks ls t
