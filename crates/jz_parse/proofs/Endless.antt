-- The end of a text stands in no constant and in no function.
use Rattle.std.proofs.Common.{◌≡◌, ⊎_elim, ℕ, zero, suc, List, [], ◌∷◌, ◌++◌, true, false, refl, sym, subst, codes}
use Rattle.jz_grammar.specs.Token.{Token}
use Rattle.jz_grammar.specs.Kinds.{Kind, identifier, word, number, cast, string, sign, end, span_of, disjoint, is_in}
use Rattle.jz_grammar.specs.Grammar.{Marked, Lang, token, ◌▸◌, ◌⊕◌, ◌⇒◌, never, then_by, opens, each, maybe}
use Rattle.jz_grammar.proofs.Basics.{in_apart}
use Rattle.jz_tree.specs.Span.{Span}
use Rattle.jz_grammar.specs.Tokens.{name_of, number_of_token, cast_of, string_of, word_types, size_of_token}
use Rattle.jz_tree.specs.declared.expr.Expr.{Expr}
use Rattle.jz_parse_expr.specs.Operators.{ops_of, op_of, level_count}
use Rattle.jz_parse_expr.specs.Table as e
use Rattle.jz_parse.specs.NotesTable as n
use Rattle.jz_parse.specs.StmtTrees.{assignments, operation_of}
use Rattle.jz_parse.specs.Table as s
use Rattle.jz_parse.specs.Table.{Low}
use Rattle.jz_parse.specs.Grammar as g

-- none of the tokens is an end
abbrev pub NoEnd : List Marked → Type 0
NoEnd [] = Unit {0}
NoEnd (x ∷ xs) = (is_in (end ∷ []) x.0 ≡ false) × NoEnd xs

no_end_append : (xs ys : List Marked) → NoEnd xs → NoEnd ys → NoEnd (xs ++ ys)
no_end_append [] ys h k = k
no_end_append (x ∷ xs) ys h k = (h.0, no_end_append xs ys h.1 k)

-- no phrase has an end in it
pub record IsEndless {A : Type 0} (l : Lang A) : Type 0 where
  pub inner : (xs : List Marked) (a : A) → l xs a → NoEnd xs

-- ---- by how phrases are made
plain : {A : Type 0} (ks : List Kind) (to : Token → A) (d : ℕ) → disjoint ks (end ∷ []) ≡ true → IsEndless (token ks d ⇒ to)
plain ks to d apart = record { inner = λ xs a h. subst NoEnd (sym h.1.0) (in_apart ks (end ∷ []) h.0 apart h.1.1, tt) }

none : {A : Type 0} → IsEndless {A = A} never
none = record { inner = λ xs a h. absurd h }

two : {A B : Type 0} {l : Lang A} {m : Lang B} → IsEndless l → IsEndless m → IsEndless (l ▸ m)
two L M = record { inner = λ xs p h. subst NoEnd (sym h.4) (no_end_append h.0 h.1 (L.inner h.0 p.0 h.2) (M.inner h.1 p.1 h.3)) }

by : {A B : Type 0} {l : Lang A} {m : A → Lang B} → IsEndless l → ((a : A) → IsEndless (m a)) → IsEndless (then_by l m)
by L M = record { inner = λ xs p h. subst NoEnd (sym h.4) (no_end_append h.0 h.1 (L.inner h.0 p.0 h.2) ((M p.0).inner h.1 p.1 h.3)) }

either : {A : Type 0} {l m : Lang A} → IsEndless l → IsEndless m → IsEndless (l ⊕ m)
either L M = record { inner = λ xs a h. ⊎_elim (λ i. L.inner xs a i) (λ i. M.inner xs a i) h }

seen : {A B : Type 0} {l : Lang A} (to : A → B) → IsEndless l → IsEndless (l ⇒ to)
seen to L = record { inner = λ xs b h. L.inner xs h.0 h.1 }

any : {A : Type 0} {l : Lang A} → IsEndless l → IsEndless (each l)
any {A} {l = l} L = record { inner = all }
  where
    all : (xs : List Marked) (as' : List A) → each l xs as' → NoEnd xs
    all xs [] h = subst NoEnd (sym h) tt
    all xs (a ∷ as') h = subst NoEnd (sym h.4) (no_end_append h.0 h.1 (L.inner h.0 a h.2) (all h.1 as' h.3))

perhaps : {A : Type 0} {l : Lang A} → IsEndless l → IsEndless (maybe l)
perhaps L = either (seen _ L) (record { inner = λ xs a h. subst NoEnd (sym h.0) tt })

within : {A : Type 0} (ks : List Kind) (inner : ℕ → Lang A) (d : ℕ) → disjoint ks (end ∷ []) ≡ true → ((b : ℕ) → IsEndless (inner b)) → IsEndless (opens ks inner d)
within ks inner zero apart L = record { inner = λ xs p h. absurd h.1 }
within ks inner (suc d) apart L = record { inner = λ xs p h. subst NoEnd (sym h.1.4) (no_end_append h.1.0 h.1.1 (subst NoEnd (sym h.1.2.0) (in_apart ks (end ∷ []) h.0.0 apart h.1.2.1, tt)) ((L d).inner h.1.1 h.0.1 h.1.3)) }

the : (t : List ℕ) (d : ℕ) → IsEndless (e.the t d)
the t d = plain (sign t ∷ []) span_of d refl

key : (t : List ℕ) (d : ℕ) → IsEndless (e.key t d)
key t d = plain (word t ∷ []) span_of d refl

name : (d : ℕ) → IsEndless (e.name d)
name d = plain (identifier ∷ []) name_of d refl

word_type : (d : ℕ) → IsEndless (e.word_type d)
word_type d = plain word_types size_of_token d refl

-- ---- expressions
operators_apart : (k : ℕ) → disjoint (ops_of k) (end ∷ []) ≡ true
operators_apart zero = refl
operators_apart (suc zero) = refl
operators_apart (suc (suc zero)) = refl
operators_apart (suc (suc (suc zero))) = refl
operators_apart (suc (suc (suc (suc zero)))) = refl
operators_apart (suc (suc (suc (suc (suc zero))))) = refl
operators_apart (suc (suc (suc (suc (suc (suc zero)))))) = refl
operators_apart (suc (suc (suc (suc (suc (suc (suc zero))))))) = refl
operators_apart (suc (suc (suc (suc (suc (suc (suc (suc zero)))))))) = refl
operators_apart (suc (suc (suc (suc (suc (suc (suc (suc (suc k))))))))) = refl

levels : (unary : Lang (Span × Expr)) (k d : ℕ) → IsEndless unary → IsEndless (e.levels unary k d)
levels unary zero d U = U
levels unary (suc k) d U = seen _ (two (levels unary k d U) (any (two (plain (ops_of k) op_of d (operators_apart k)) (levels unary k d U))))

module _ (low : ℕ → Lang (Span × Expr)) (L : (b : ℕ) → IsEndless (low b)) where
  inner_expr : (b : ℕ) → IsEndless (e.expr_at (low b) b)
  inner_expr b = levels (low b) level_count b (L b)

  bracket : (d : ℕ) → IsEndless (e.bracket low d)
  bracket d = seen _ (within (sign (codes "[") ∷ []) _ d refl (λ b. two (inner_expr b) (the (codes "]") b)))

  cast_access : (d : ℕ) → IsEndless (e.cast_access low d)
  cast_access d = seen _ (two (within (sign (codes "(") ∷ []) _ d refl (λ b. two (word_type b) (the (codes ")") b))) (bracket d))

  plain_access : (d : ℕ) → IsEndless (e.plain_access low d)
  plain_access d = seen _ (within (sign (codes "[") ∷ []) _ d refl (λ b. two (perhaps (seen _ (two (the (codes ":") b) (word_type b)))) (two (inner_expr b) (the (codes "]") b))))

  unary_of : (d : ℕ) → IsEndless (e.unary_of low d)
  unary_of d =
      either (seen _ (plain (number ∷ []) number_of_token d refl))
      (either (seen _ (two (name d) (perhaps (bracket d))))
      (either (seen _ (key (codes "true") d))
      (either (seen _ (key (codes "false") d))
      (either (seen _ (within (sign (codes "-") ∷ []) low d refl L))
      (either (seen _ (within (sign (codes "!") ∷ []) low d refl L))
      (either (seen _ (plain_access d))
      (either (seen _ (cast_access d))
      (either (seen _ (within (sign (codes "(") ∷ []) _ d refl (λ b. two (plain (cast ∷ []) cast_of b refl) (two (the (codes ")") b) (L b)))))
      (seen _ (within (sign (codes "(") ∷ []) _ d refl (λ b. two (inner_expr b) (the (codes ")") b))))))))))))

unary : (d : ℕ) → IsEndless (e.unary d)
unary zero = unary_of (λ _. never) (λ b. none) zero
unary (suc d) = unary_of (λ _. e.unary d) (λ b. unary d) (suc d)

expr : (d : ℕ) → IsEndless (e.expr d)
expr d = seen _ (levels (e.unary d) level_count d (unary d))

index : (d : ℕ) → IsEndless (e.index d)
index d = bracket e.unary unary d

access : (d : ℕ) → IsEndless (e.access d)
access d = either (seen _ (cast_access e.unary unary d)) (seen _ (plain_access e.unary unary d))

-- ---- annotations
note_value : (d : ℕ) → IsEndless (n.note_value d)
note_value d =
    either (seen _ (plain (identifier ∷ []) name_of d refl))
    (either (seen _ (plain (number ∷ []) number_of_token d refl)) (seen _ (plain (string ∷ []) string_of d refl)))

entry : (at : Span) (d : ℕ) → IsEndless (n.entry at d)
entry at d = seen _ (two (name d) (perhaps (seen _ (two (the (codes "=") d) (note_value d)))))

entry_list : (at : Span) (d : ℕ) → IsEndless (n.entry_list at d)
entry_list at d = seen _ (two (entry at d) (any (seen _ (two (the (codes ",") d) (entry at d)))))

entries : (at : Span) (d : ℕ) → IsEndless (n.entries at d)
entries at d = either (seen _ (entry at d)) (seen _ (within (sign (codes "[") ∷ []) _ d refl (λ b. two (entry_list at b) (the (codes "]") b))))

notes : (d : ℕ) → IsEndless (n.notes d)
notes d = seen _ (any (seen _ (by (the (codes "#") d) (λ at. entries at d))))

-- ---- statements
args : (d : ℕ) → IsEndless (s.args d)
args d = seen _ (two (expr d) (any (seen _ (two (the (codes ",") d) (expr d)))))

call_args : (d : ℕ) → IsEndless (s.call_args d)
call_args d = seen _ (within (sign (codes "(") ∷ []) _ d refl (λ b. two (perhaps (args b)) (the (codes ")") b)))

rhs : (d : ℕ) → IsEndless (s.rhs d)
rhs d = either (seen _ (expr d)) (either (seen _ (two (name d) (call_args d))) (seen _ (two (the (codes "#") d) (two (name d) (call_args d)))))

lval : (d : ℕ) → IsEndless (s.lval d)
lval d = either (seen _ (key (codes "_") d)) (either (seen _ (two (name d) (perhaps (index d)))) (seen _ (access d)))

condition : (d : ℕ) → IsEndless (s.condition d)
condition d = perhaps (seen _ (two (key (codes "if") d) (expr d)))

assign : (d : ℕ) → IsEndless (s.assign d)
assign d = seen _ (two (lval d) (two (any (seen _ (two (the (codes ",") d) (lval d)))) (two (plain assignments operation_of d refl) (two (rhs d) (two (condition d) (the (codes ";") d))))))

call : (d : ℕ) → IsEndless (s.call d)
call d = seen _ (two (name d) (two (call_args d) (the (codes ";") d)))

test : (d : ℕ) → IsEndless (s.test d)
test d = seen _ (within (sign (codes "(") ∷ []) _ d refl (λ b. two (expr b) (the (codes ")") b)))

direction : (d : ℕ) → IsEndless (s.direction d)
direction d = either (seen _ (key (codes "to") d)) (seen _ (key (codes "downto") d))

module _ (low : ℕ → Low) (I : (b : ℕ) → IsEndless (low b).ifs) (S : (b : ℕ) → IsEndless (low b).stmts) where
  block : (d : ℕ) → IsEndless (s.block low d)
  block d = seen _ (within (sign (codes "{") ∷ []) _ d refl (λ b. two (any (S b)) (the (codes "}") b)))

  else_arm : (d : ℕ) → IsEndless (s.else_arm low d)
  else_arm d = seen _ (two (key (codes "else") d) (either (seen _ (within (word (codes "if") ∷ []) (λ b. (low b).ifs) d refl I)) (block d)))

  if_rest : (d : ℕ) → IsEndless (s.if_rest low d)
  if_rest d = seen _ (two (expr d) (two (block d) (perhaps (else_arm d))))

  if_form : (d : ℕ) → IsEndless (s.if_form low d)
  if_form d = seen _ (two (key (codes "if") d) (if_rest d))

  body : (d : ℕ) → IsEndless (s.body low d)
  body d = either (seen _ (block d)) (seen _ (perhaps (the (codes ";") d)))

  while : (d : ℕ) → IsEndless (s.while low d)
  while d = seen _ (two (key (codes "while") d) (two (seen _ (perhaps (block d))) (two (test d) (body d))))

  for : (d : ℕ) → IsEndless (s.for low d)
  for d = seen _ (two (key (codes "for") d) (two (name d) (two (the (codes "=") d) (two (expr d) (two (direction d) (two (expr d) (block d)))))))

  stmt_in : (d : ℕ) → IsEndless (s.stmt_in low d)
  stmt_in d = seen _ (two (notes d) (either (assign d) (either (call d) (either (if_form d) (either (while d) (for d))))))

abbrev Both : Low → Type 0
Both low = IsEndless low.ifs × IsEndless low.stmts

nested_in : (d : ℕ) → Both (s.nested_in d)
nested_in zero = (if_rest (λ _. record { ifs = never; stmts = never }) (λ b. none) (λ b. none) zero, stmt_in (λ _. record { ifs = never; stmts = never }) (λ b. none) (λ b. none) zero)
nested_in (suc d) = (if_rest (λ _. s.nested_in d) (λ b. (nested_in d).0) (λ b. (nested_in d).1) (suc d), stmt_in (λ _. s.nested_in d) (λ b. (nested_in d).0) (λ b. (nested_in d).1) (suc d))

stmt : (d : ℕ) → IsEndless (s.stmt d)
stmt d = (nested_in d).1

-- ---- functions and constants
comma : {A : Type 0} (l : ℕ → Lang A) (d : ℕ) → IsEndless (l d) → IsEndless (g.comma l d)
comma l d L = seen _ (two (the (codes ",") d) L)

storage : (d : ℕ) → IsEndless (g.storage d)
storage d = either (seen _ (key (codes "reg") d)) (either (seen _ (key (codes "stack") d)) (seen _ (key (codes "inline") d)))

value_type : (d : ℕ) → IsEndless (g.value_type d)
value_type d = either (seen _ (key (codes "int") d)) (either (seen _ (key (codes "bool") d)) (seen _ (two (word_type d) (perhaps (index d)))))

declaration : (d : ℕ) → IsEndless (g.declaration d)
declaration d = seen _ (two (storage d) (value_type d))

group : (d : ℕ) → IsEndless (g.group d)
group d = seen _ (two (notes d) (two (declaration d) (seen _ (two (name d) (any (name d))))))

params : (d : ℕ) → IsEndless (g.params d)
params d = seen _ (within (sign (codes "(") ∷ []) _ d refl (λ b. two (perhaps (seen _ (two (group b) (any (comma g.group b (group b)))))) (the (codes ")") b)))

rtype : (d : ℕ) → IsEndless (g.rtype d)
rtype d = seen _ (two (notes d) (declaration d))

results : (d : ℕ) → IsEndless (g.results d)
results d = seen _ (perhaps (seen _ (two (the (codes "->") d) (seen _ (two (rtype d) (any (comma g.rtype d (rtype d))))))))

decl : (d : ℕ) → IsEndless (g.decl d)
decl d = seen _ (two (declaration d) (two (seen _ (two (name d) (any (seen _ (two (perhaps (the (codes ",") d)) (name d)))))) (the (codes ";") d)))

items : (d : ℕ) → IsEndless (g.items d)
items d = seen _ (any (either (seen _ (decl d)) (seen _ (stmt d))))

variables : (d : ℕ) → IsEndless (g.variables d)
variables d = seen _ (two (seen _ (name d)) (any (comma g.variable_used d (seen _ (name d)))))

names : (d : ℕ) → IsEndless (g.names d)
names d = either (variables d) (seen _ (within (sign (codes "(") ∷ []) _ d refl (λ b. two (variables b) (the (codes ")") b))))

ending : (d : ℕ) → IsEndless (g.ending d)
ending d = seen _ (perhaps (seen _ (two (key (codes "return") d) (two (perhaps (names d)) (the (codes ";") d)))))

function_body : (d : ℕ) → IsEndless (g.body d)
function_body d = seen _ (within (sign (codes "{") ∷ []) _ d refl (λ b. two (items b) (two (ending b) (the (codes "}") b))))

kind : (d : ℕ) → IsEndless (g.kind d)
kind d = either (seen _ (key (codes "inline") d)) (seen _ (key (codes "export") d))

function : (d : ℕ) → IsEndless (g.function d)
function d = seen _ (two (notes d) (two (kind d) (two (key (codes "fn") d) (two (name d) (two (params d) (two (results d) (function_body d)))))))

constant : (d : ℕ) → IsEndless (g.constant d)
constant d = seen _ (two (key (codes "param") d) (two (key (codes "int") d) (two (name d) (two (the (codes "=") d) (two (expr d) (the (codes ";") d))))))

pub parts : (d : ℕ) → IsEndless (g.parts d)
parts d = seen _ (any (either (seen _ (constant d)) (seen _ (function d))))
