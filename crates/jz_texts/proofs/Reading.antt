-- A program that is read from a text is one of a text.
use Rattle.std.proofs.Common.{◌≡◌, inl, inr, ℕ, List, [], ◌∷◌, ◌++◌, Option, Some, None, map, refl, sym, ap, subst}
use Rattle.std.specs.Prelude.{All, AllPairs}
use Rattle.std.specs.List.{cons_option}
use Rattle.std.proofs.lemmas.List.{map-append}
use Rattle.std.proofs.lemmas.List.Elements.{All-nil, All-cons, All-append, All-map, All-weaker}
use Rattle.jz_tree.specs.Span.{Span}
use Rattle.jz_grammar.specs.Token.{Token}
use Rattle.jz_grammar.specs.Grammar.{Marked, plain, each}
use Rattle.jz_tree.specs.declared.program.Fun.{Fun}
use Rattle.jz_tree.specs.declared.program.Param.{Param}
use Rattle.jz_parse.specs.declared.program.Part.{Part}
use Rattle.jz_parse.specs.Trees.{defined_by, funs_in}
use Rattle.jz_parse.specs.Grammar as g
use Rattle.jz_parse.specs.Deriving.{most_nested}
use Rattle.jz_type_names.specs.Order.{Before}
use Rattle.jz_type_names.specs.Scopes.{variables_of}
use Rattle.jz_type_names.specs.Parts.{layer_of, statements_of}
use Rattle.jz_types.specs.Carried.{used_by}
use Rattle.jz_texts.specs.Texts.{IsPlain, HasDecl, IsUnmarked, IsTextFun, ReadLaw}
use Rattle.jz_texts.proofs.Lists.{IsPart, nothing, kept, behind, part_pairs, pairs_map}
use Rattle.jz_texts.proofs.Ordered.{InTurn, in_turn}
use Rattle.jz_texts.proofs.Standing.{function_ascends}
use Rattle.jz_texts.proofs.Variables.{PlainOne}
use Rattle.jz_texts.proofs.Plain.{IsOwn, OwnParam, FunPlain, function}

-- ---- functions
own_params : (ps : List Param) → All OwnParam ps → All IsOwn (map (λ p. p.var) ps)
own_params ps h = All-map IsOwn (λ p. p.var) ps h

own_all : (f : Fun) → FunPlain f → All IsOwn (variables_of f)
own_all f h = All-append IsOwn (map (λ p. p.var) f.params) f.vars (own_params f.params h.params) h.vars

text_fun : (d : ℕ) (xs : List Marked) (f : Fun) → g.function d xs f → AllPairs Before (map (λ (x : Marked). x.0.span) xs) → IsTextFun f
text_fun d xs f h a =
    let p = function d xs f h in
    let own = own_all f p in
    record {
      declared = All-weaker IsOwn IsPlain (λ v q. q.0) (variables_of f) own;
      declarations = All-weaker IsOwn HasDecl (λ v q. q.1) (variables_of f) own;
      ascending = function_ascends d xs f h a;
      used = (All-weaker PlainOne (λ s. All IsPlain (used_by (layer_of s))) (λ s q. q.0) (statements_of f.body) p.body, p.result);
      unmarked = All-weaker PlainOne (λ s. IsUnmarked (layer_of s)) (λ s q. q.1) (statements_of f.body) p.body;
    }

-- ---- the whole program
abbrev places : List Marked → List Span
places xs = map (λ (x : Marked). x.0.span) xs

in_front : (us vs : List Span) → IsPart us (us ++ vs)
in_front [] vs = nothing
in_front (u ∷ us) vs = kept (in_front us vs)

all_of : (us : List Span) → IsPart us us
all_of [] = nothing
all_of (u ∷ us) = kept (all_of us)

taken_apart : (ys zs xs : List Marked) → xs ≡ ys ++ zs → AllPairs Before (places xs) → AllPairs Before (places ys) × AllPairs Before (places zs)
taken_apart ys zs xs e a =
    let h : AllPairs Before (places ys ++ places zs) = subst (AllPairs Before) (map-append (λ (x : Marked). x.0.span) ys zs) (subst (λ w. AllPairs Before (places w)) e a) in
    (part_pairs Before (in_front (places ys) (places zs)) h, part_pairs Before (behind (places ys) (all_of (places zs))) h)

abbrev IfFunction : Option Fun → Type 0
IfFunction None = Unit {0}
IfFunction (Some f) = IsTextFun f

part_fun : (d : ℕ) (xs : List Marked) (p : Part) → g.part d xs p → AllPairs Before (places xs) → IfFunction (defined_by p)
part_fun d xs p (inl h) a = subst (λ z. IfFunction (defined_by z)) h.2 tt
part_fun d xs p (inr h) a = subst (λ z. IfFunction (defined_by z)) h.2 (text_fun d xs h.0 h.1 a)

one_more : (o : Option Fun) (fs : List Fun) → IfFunction o → All IsTextFun fs → All IsTextFun (cons_option o fs)
one_more None fs h k = k
one_more (Some f) fs h k = All-cons IsTextFun f fs h k

each_fun : (d : ℕ) (xs : List Marked) (ps : List Part) → each (g.part d) xs ps → AllPairs Before (places xs) → All IsTextFun (funs_in ps)
each_fun d xs [] h a = All-nil IsTextFun
each_fun d xs (p ∷ ps) h a =
    let t = taken_apart h.0 h.1 xs h.4 a in
    one_more (defined_by p) (funs_in ps) (part_fun d h.0 p h.2 t.0) (each_fun d h.1 ps h.3 t.1)

spans_of : (xs : List Marked) → map (λ (t : Token). t.span) (plain xs) ≡ places xs
spans_of [] = refl
spans_of (x ∷ xs) = ap (λ l. x.0.span ∷ l) (spans_of xs)

pub read_so : ReadLaw
read_so text tokens p lexed h =
    let turn : AllPairs InTurn (plain h.0) = subst (AllPairs InTurn) (sym h.2) (in_turn text tokens lexed) in
    let a : AllPairs Before (places h.0) = subst (AllPairs Before) (spans_of h.0) (pairs_map Before (λ (t : Token). t.span) (plain h.0) turn) in
    let whole = h.1 in
    let parts = whole.1.2 in
    let first = taken_apart whole.1.0 whole.1.1 h.0 whole.1.4 a in
    let funs : All IsTextFun whole.0.0.1 = subst (λ z. All IsTextFun z.1) parts.2 (each_fun most_nested whole.1.0 parts.0 parts.1 first.0) in
    subst (λ z. All IsTextFun z.funs) whole.2 funs
