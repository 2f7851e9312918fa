-- Lists, item by item.
use Rattle.std.proofs.Common.{◌≡◌, ℕ, ◌<◌, List, [], ◌∷◌, ◌++◌, length, true, false, ◌||◌, Ok, Err, refl, sym, ap, ◌∙◌, append-nil, append_assoc, codes}
use Rattle.jz_tree.specs.Span.{Span}
use Rattle.jz_grammar.specs.Token.{Token}
use Rattle.jz_grammar.specs.Causes.{Cause}
use Rattle.jz_grammar.specs.Kinds.{Kind, token_kind, word, sign, is_in, has}
use Rattle.jz_grammar.specs.Readers.{Answer, Reader, ◌>>=◌, through, many}
use Rattle.jz_grammar.specs.Grammar.{Lang}
use Rattle.jz_grammar.proofs.Laws.{IsReader, full}
use Rattle.jz_grammar.proofs.Basics.{member_append}
use Rattle.jz_grammar.proofs.Combine.{shorter, many_next, many_done}
use Rattle.jz_grammar.proofs.Samples.{identifier_reads}
use Rattle.jz_grammar.proofs.Steps.{more_done, more_next, more_wrong}
use Rattle.jz_grammar.specs.Tokens.{name_of}
use Rattle.jz_tree.specs.declared.expr.Var.{Var}
use Rattle.jz_tree.specs.declared.program.Const.{Const}
use Rattle.jz_tree.specs.declared.program.Fun.{Fun}
use Rattle.jz_tree.specs.declared.program.Param.{Param}
use Rattle.jz_tree.specs.declared.program.Ret.{Ret}
use Rattle.jz_tree.specs.declared.stmt.Stmt.{Stmt}
use Rattle.jz_grammar.specs.TokenReaders.{name}
use Rattle.jz_parse.specs.StmtReaders.{stmt_starts, stmt_goes}
use Rattle.jz_parse.specs.declared.function.Item.{Item}
use Rattle.jz_parse.specs.declared.function.Item.TheVariants.{Declares, Does}
use Rattle.jz_parse.specs.declared.program.Part.{Part}
use Rattle.jz_parse.specs.declared.program.Part.TheVariants.{Constant, Function}
use Rattle.jz_parse.specs.Trees.{vars_in, stmts_in, consts_in, funs_in}
use Rattle.jz_grammar.specs.Parts.{joined_lists}
use Rattle.jz_parse.specs.InnerReaders as r
use Rattle.jz_parse.proofs.DeclareLaws.{brackets, next_group_law, next_rtype_law, next_name_law}
use Rattle.jz_parse.proofs.FunctionLaws.{item_law, next_used_law, part_law}

-- ---- choices of tokens
has_either : (ks ls : List Kind) (ts : List Token) → has (ks ++ ls) ts ≡ (has ks ts || has ls ts)
unfolding is_in
has_either ks ls [] = refl
has_either ks ls (t ∷ ts) = member_append ks ls (token_kind t.kind)

pub begins_storage : (ts : List Token) → has r.storages ts ≡ (has (r.keyword (codes "reg")) ts || (has (r.keyword (codes "stack")) ts || has (r.keyword (codes "inline")) ts))
begins_storage ts =
    has_either (r.keyword (codes "reg")) (word (codes "stack") ∷ word (codes "inline") ∷ []) ts
    ∙ ap (λ z. has (r.keyword (codes "reg")) ts || z) (has_either (r.keyword (codes "stack")) (r.keyword (codes "inline")) ts)

pub begins_group : (ts : List Token) → has r.group_starts ts ≡ (has (r.mark (codes "#")) ts || has r.storages ts)
begins_group ts = has_either (r.mark (codes "#")) r.storages ts

pub begins_name : (ts : List Token) → has r.next_starts ts ≡ (has r.commas ts || has r.ids ts)
begins_name ts = has_either r.commas r.ids ts

pub begins_item : (ts : List Token) → has r.item_starts ts ≡ (has r.storages ts || has stmt_starts ts)
begins_item ts = has_either r.storages stmt_starts ts

pub begins_names : (ts : List Token) → has r.names_starts ts ≡ (has r.ids ts || has (r.mark (codes "(")) ts)
begins_names ts = has_either r.ids (r.mark (codes "(")) ts

pub begins_part : (ts : List Token) → has r.part_starts ts ≡ (has (r.keyword (codes "param")) ts || (has (r.mark (codes "#")) ts || (has (r.keyword (codes "inline")) ts || has (r.keyword (codes "export")) ts)))
begins_part ts =
    has_either (r.keyword (codes "param")) (sign (codes "#") ∷ word (codes "inline") ∷ word (codes "export") ∷ []) ts
    ∙ ap (λ z. has (r.keyword (codes "param")) ts || z) (has_either (r.mark (codes "#")) (word (codes "inline") ∷ word (codes "export") ∷ []) ts
    ∙ ap (λ z. has (r.mark (codes "#")) ts || z) (has_either (r.keyword (codes "inline")) (r.keyword (codes "export")) ts))

-- ---- one item more
module _ {A : Type 0} {f : Reader A} {l : ℕ → Lang A} (ks go : List Kind) (F : IsReader f l (full ks go)) where
  many_ok : (a : A) (ts us : List Token) → has ks ts ≡ true → f ts ≡ Ok (a, us) → many ks f ts ≡ through (λ as'. a ∷ as') (many ks f us)
  many_ok a ts us h e =
      many_next ks go F ts h
      ∙ ap (λ z. through {A = A × List A} (λ w. w.0 ∷ w.1) (z >>= λ x. many ks f x.1 >>= λ y. Ok ((x.0, y.0), y.1))) e
      ∙ last (many ks f us)
    where
      last : (w : Answer (List A)) → through {A = A × List A} (λ w. w.0 ∷ w.1) (w >>= λ y. Ok ((a, y.0), y.1)) ≡ through (λ as'. a ∷ as') w
      last (Ok y) = refl
      last (Err e) = refl

  many_err : (ts us : List Token) (k : Cause) → has ks ts ≡ true → f ts ≡ Err (k, us) → many ks f ts ≡ Err (k, us)
  many_err ts us k h e = many_next ks go F ts h ∙ ap (λ z. through {A = A × List A} (λ w. w.0 ∷ w.1) (z >>= λ x. many ks f x.1 >>= λ y. Ok ((x.0, y.0), y.1))) e

-- ---- names
pub names_done : (out : List (List ℕ × Span)) (ts : List Token) → has r.ids ts ≡ false → r.names_more out ts ≡ Ok (out, ts)
unfolding r.names_more
names_done out ts h = more_done r.ids [] (identifier_reads name_of 0) out ts h

pub names_next : (out : List (List ℕ × Span)) (a : List ℕ × Span) (ts us : List Token) → has r.ids ts ≡ true → name ts ≡ Ok (a, us) → r.names_more out ts ≡ r.names_more (out ++ a ∷ []) us
unfolding r.names_more
names_next out a ts us h e = more_next r.ids [] (identifier_reads name_of 0) out a ts us h e

pub names_wrong : (out : List (List ℕ × Span)) (ts us : List Token) (k : Cause) → has r.ids ts ≡ true → name ts ≡ Err (k, us) → r.names_more out ts ≡ Err (k, us)
unfolding r.names_more
names_wrong out ts us k h e = more_wrong r.ids [] (identifier_reads name_of 0) out ts us k h e

pub names_shorter : (a : List ℕ × Span) (ts us : List Token) → name ts ≡ Ok (a, us) → length us < length ts
names_shorter a ts us e = shorter r.ids [] (identifier_reads name_of 0) ts us a e

-- ---- groups of parameters
pub groups_done : (d : ℕ) (out : List Param) (ts : List Token) → has r.commas ts ≡ false → r.groups_more d out ts ≡ Ok (out, ts)
unfolding r.groups_more
groups_done d out ts h = ap (through (λ gs. out ++ joined_lists gs)) (many_done (r.next_group d) r.commas ts h) ∙ ap (λ z. Ok (z, ts)) (append-nil out)

pub groups_next : (d : ℕ) (out ps : List Param) (ts us : List Token) → has r.commas ts ≡ true → r.next_group d ts ≡ Ok (ps, us) → r.groups_more d out ts ≡ r.groups_more d (out ++ ps) us
unfolding r.groups_more
groups_next d out ps ts us h e =
    ap (through (λ gs. out ++ joined_lists gs)) (many_ok r.commas r.ids (next_group_law d) ps ts us h e) ∙ last (many r.commas (r.next_group d) us)
  where
    last : (w : Answer (List (List Param))) → through {A = List (List Param)} (λ gs. out ++ joined_lists gs) (through (λ gs. ps ∷ gs) w) ≡ through (λ gs. (out ++ ps) ++ joined_lists gs) w
    last (Ok y) = ap (λ z. Ok (z, y.1)) (sym (append_assoc out ps (joined_lists y.0)))
    last (Err x) = refl

pub groups_wrong : (d : ℕ) (out : List Param) (ts us : List Token) (k : Cause) → has r.commas ts ≡ true → r.next_group d ts ≡ Err (k, us) → r.groups_more d out ts ≡ Err (k, us)
unfolding r.groups_more
groups_wrong d out ts us k h e = ap (through (λ gs. out ++ joined_lists gs)) (many_err r.commas r.ids (next_group_law d) ts us k h e)

pub groups_shorter : (d : ℕ) (ps : List Param) (ts us : List Token) → r.next_group d ts ≡ Ok (ps, us) → length us < length ts
groups_shorter d ps ts us e = shorter r.commas r.ids (next_group_law d) ts us ps e

-- ---- results
pub rtypes_done : (d : ℕ) (out : List Ret) (ts : List Token) → has r.commas ts ≡ false → r.rtypes_more d out ts ≡ Ok (out, ts)
unfolding r.rtypes_more
rtypes_done d out ts h = more_done r.commas brackets (next_rtype_law d) out ts h

pub rtypes_next : (d : ℕ) (out : List Ret) (a : Ret) (ts us : List Token) → has r.commas ts ≡ true → r.next_rtype d ts ≡ Ok (a, us) → r.rtypes_more d out ts ≡ r.rtypes_more d (out ++ a ∷ []) us
unfolding r.rtypes_more
rtypes_next d out a ts us h e = more_next r.commas brackets (next_rtype_law d) out a ts us h e

pub rtypes_wrong : (d : ℕ) (out : List Ret) (ts us : List Token) (k : Cause) → has r.commas ts ≡ true → r.next_rtype d ts ≡ Err (k, us) → r.rtypes_more d out ts ≡ Err (k, us)
unfolding r.rtypes_more
rtypes_wrong d out ts us k h e = more_wrong r.commas brackets (next_rtype_law d) out ts us k h e

pub rtypes_shorter : (d : ℕ) (a : Ret) (ts us : List Token) → r.next_rtype d ts ≡ Ok (a, us) → length us < length ts
rtypes_shorter d a ts us e = shorter r.commas brackets (next_rtype_law d) ts us a e

-- ---- names that are declared
pub declared_done : (out : List (List ℕ × Span)) (ts : List Token) → has r.next_starts ts ≡ false → r.declared_more out ts ≡ Ok (out, ts)
unfolding r.declared_more
declared_done out ts h = more_done r.next_starts [] (next_name_law 0) out ts h

pub declared_next : (out : List (List ℕ × Span)) (a : List ℕ × Span) (ts us : List Token) → has r.next_starts ts ≡ true → r.next_name ts ≡ Ok (a, us) → r.declared_more out ts ≡ r.declared_more (out ++ a ∷ []) us
unfolding r.declared_more
declared_next out a ts us h e = more_next r.next_starts [] (next_name_law 0) out a ts us h e

pub declared_wrong : (out : List (List ℕ × Span)) (ts us : List Token) (k : Cause) → has r.next_starts ts ≡ true → r.next_name ts ≡ Err (k, us) → r.declared_more out ts ≡ Err (k, us)
unfolding r.declared_more
declared_wrong out ts us k h e = more_wrong r.next_starts [] (next_name_law 0) out ts us k h e

pub declared_shorter : (a : List ℕ × Span) (ts us : List Token) → r.next_name ts ≡ Ok (a, us) → length us < length ts
declared_shorter a ts us e = shorter r.next_starts [] (next_name_law 0) ts us a e

-- ---- declarations and statements
pub items_done : (d : ℕ) (vars : List Var) (stmts : List Stmt) (ts : List Token) → has r.item_starts ts ≡ false → r.items_more d vars stmts ts ≡ Ok ((vars, stmts), ts)
unfolding r.items_more
items_done d vars stmts ts h = ap (through (λ is. (vars ++ vars_in is, stmts ++ stmts_in is))) (many_done (r.item d) r.item_starts ts h) ∙ ap (λ z. Ok ((z, stmts ++ []), ts)) (append-nil vars) ∙ ap (λ z. Ok ((vars, z), ts)) (append-nil stmts)

pub items_declares : (d : ℕ) (vars vs : List Var) (stmts : List Stmt) (ts us : List Token) → has r.item_starts ts ≡ true → r.item d ts ≡ Ok (Declares vs, us) → r.items_more d vars stmts ts ≡ r.items_more d (vars ++ vs) stmts us
unfolding r.items_more
items_declares d vars vs stmts ts us h e =
    ap (through (λ is. (vars ++ vars_in is, stmts ++ stmts_in is))) (many_ok r.item_starts stmt_goes (item_law d) (Declares vs) ts us h e)
    ∙ last (many r.item_starts (r.item d) us)
  where
    last : (w : Answer (List Item)) → through {A = List Item} {B = List Var × List Stmt} (λ is. (vars ++ vars_in is, stmts ++ stmts_in is)) (through (λ is. Declares vs ∷ is) w) ≡ through (λ is. ((vars ++ vs) ++ vars_in is, stmts ++ stmts_in is)) w
    last (Ok y) = ap (λ z. Ok ((z, stmts ++ stmts_in y.0), y.1)) (sym (append_assoc vars vs (vars_in y.0)))
    last (Err x) = refl

pub items_does : (d : ℕ) (vars : List Var) (s : Stmt) (stmts : List Stmt) (ts us : List Token) → has r.item_starts ts ≡ true → r.item d ts ≡ Ok (Does s, us) → r.items_more d vars stmts ts ≡ r.items_more d vars (stmts ++ s ∷ []) us
unfolding r.items_more
items_does d vars s stmts ts us h e =
    ap (through (λ is. (vars ++ vars_in is, stmts ++ stmts_in is))) (many_ok r.item_starts stmt_goes (item_law d) (Does s) ts us h e)
    ∙ last (many r.item_starts (r.item d) us)
  where
    last : (w : Answer (List Item)) → through {A = List Item} {B = List Var × List Stmt} (λ is. (vars ++ vars_in is, stmts ++ stmts_in is)) (through (λ is. Does s ∷ is) w) ≡ through (λ is. (vars ++ vars_in is, (stmts ++ s ∷ []) ++ stmts_in is)) w
    last (Ok y) = ap (λ z. Ok ((vars ++ vars_in y.0, z), y.1)) (sym (append_assoc stmts (s ∷ []) (stmts_in y.0)))
    last (Err x) = refl

pub items_wrong : (d : ℕ) (vars : List Var) (stmts : List Stmt) (ts us : List Token) (k : Cause) → has r.item_starts ts ≡ true → r.item d ts ≡ Err (k, us) → r.items_more d vars stmts ts ≡ Err (k, us)
unfolding r.items_more
items_wrong d vars stmts ts us k h e = ap (through (λ is. (vars ++ vars_in is, stmts ++ stmts_in is))) (many_err r.item_starts stmt_goes (item_law d) ts us k h e)

pub items_shorter : (d : ℕ) (i : Item) (ts us : List Token) → r.item d ts ≡ Ok (i, us) → length us < length ts
items_shorter d i ts us e = shorter r.item_starts stmt_goes (item_law d) ts us i e

-- ---- variables that are used
pub used_done : (out : List Var) (ts : List Token) → has r.commas ts ≡ false → r.used_more out ts ≡ Ok (out, ts)
unfolding r.used_more
used_done out ts h = more_done r.commas [] (next_used_law 0) out ts h

pub used_next : (out : List Var) (a : Var) (ts us : List Token) → has r.commas ts ≡ true → r.next_used ts ≡ Ok (a, us) → r.used_more out ts ≡ r.used_more (out ++ a ∷ []) us
unfolding r.used_more
used_next out a ts us h e = more_next r.commas [] (next_used_law 0) out a ts us h e

pub used_wrong : (out : List Var) (ts us : List Token) (k : Cause) → has r.commas ts ≡ true → r.next_used ts ≡ Err (k, us) → r.used_more out ts ≡ Err (k, us)
unfolding r.used_more
used_wrong out ts us k h e = more_wrong r.commas [] (next_used_law 0) out ts us k h e

pub used_shorter : (a : Var) (ts us : List Token) → r.next_used ts ≡ Ok (a, us) → length us < length ts
used_shorter a ts us e = shorter r.commas [] (next_used_law 0) ts us a e

-- ---- constants and functions
pub parts_done : (d : ℕ) (consts : List Const) (funs : List Fun) (ts : List Token) → has r.part_starts ts ≡ false → r.parts_more d consts funs ts ≡ Ok ((consts, funs), ts)
unfolding r.parts_more
parts_done d consts funs ts h = ap (through (λ ps. (consts ++ consts_in ps, funs ++ funs_in ps))) (many_done (r.part d) r.part_starts ts h) ∙ ap (λ z. Ok ((z, funs ++ []), ts)) (append-nil consts) ∙ ap (λ z. Ok ((consts, z), ts)) (append-nil funs)

pub parts_constant : (d : ℕ) (consts : List Const) (a : Const) (funs : List Fun) (ts us : List Token) → has r.part_starts ts ≡ true → r.part d ts ≡ Ok (Constant a, us) → r.parts_more d consts funs ts ≡ r.parts_more d (consts ++ a ∷ []) funs us
unfolding r.parts_more
parts_constant d consts a funs ts us h e =
    ap (through (λ ps. (consts ++ consts_in ps, funs ++ funs_in ps))) (many_ok r.part_starts [] (part_law d) (Constant a) ts us h e)
    ∙ last (many r.part_starts (r.part d) us)
  where
    last : (w : Answer (List Part)) → through {A = List Part} {B = List Const × List Fun} (λ ps. (consts ++ consts_in ps, funs ++ funs_in ps)) (through (λ ps. Constant a ∷ ps) w) ≡ through (λ ps. ((consts ++ a ∷ []) ++ consts_in ps, funs ++ funs_in ps)) w
    last (Ok y) = ap (λ z. Ok ((z, funs ++ funs_in y.0), y.1)) (sym (append_assoc consts (a ∷ []) (consts_in y.0)))
    last (Err x) = refl

pub parts_function : (d : ℕ) (consts : List Const) (a : Fun) (funs : List Fun) (ts us : List Token) → has r.part_starts ts ≡ true → r.part d ts ≡ Ok (Function a, us) → r.parts_more d consts funs ts ≡ r.parts_more d consts (funs ++ a ∷ []) us
unfolding r.parts_more
parts_function d consts a funs ts us h e =
    ap (through (λ ps. (consts ++ consts_in ps, funs ++ funs_in ps))) (many_ok r.part_starts [] (part_law d) (Function a) ts us h e)
    ∙ last (many r.part_starts (r.part d) us)
  where
    last : (w : Answer (List Part)) → through {A = List Part} {B = List Const × List Fun} (λ ps. (consts ++ consts_in ps, funs ++ funs_in ps)) (through (λ ps. Function a ∷ ps) w) ≡ through (λ ps. (consts ++ consts_in ps, (funs ++ a ∷ []) ++ funs_in ps)) w
    last (Ok y) = ap (λ z. Ok ((consts ++ consts_in y.0, z), y.1)) (sym (append_assoc funs (a ∷ []) (funs_in y.0)))
    last (Err x) = refl

pub parts_wrong : (d : ℕ) (consts : List Const) (funs : List Fun) (ts us : List Token) (k : Cause) → has r.part_starts ts ≡ true → r.part d ts ≡ Err (k, us) → r.parts_more d consts funs ts ≡ Err (k, us)
unfolding r.parts_more
parts_wrong d consts funs ts us k h e = ap (through (λ ps. (consts ++ consts_in ps, funs ++ funs_in ps))) (many_err r.part_starts [] (part_law d) ts us k h e)

pub parts_shorter : (d : ℕ) (p : Part) (ts us : List Token) → r.part d ts ≡ Ok (p, us) → length us < length ts
parts_shorter d p ts us e = shorter r.part_starts [] (part_law d) ts us p e
