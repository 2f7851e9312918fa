-- What is declared in a function of a text, or in one that it calls, has an identifier as its name.
use Rattle.std.proofs.Common.{◌≡◌, ℕ, zero, suc, Bool, true, false, List, [], ◌∷◌, ◌++◌, length, Option, Some, None, cond, refl, sym, ap, ◌∙◌, subst}
use Rattle.std.specs.Prelude.{⊤, All, Contains, flat_map, slice_get, option_map, option_and_then, option_to_list}
use Rattle.std.specs.Option.{option_or}
use Rattle.std.specs.Str.{bytes_eq}
use Rattle.std.proofs.lemmas.List.Elements.{All-nil, All-cons, All-head, All-tail, All-append, All-contains}
use Rattle.x64_insn.specs.Size.{Size}
use Rattle.jz_tree.specs.Span.{Span}
use Rattle.jz_tree.specs.declared.expr.BinOp.{BinOp}
use Rattle.jz_tree.specs.declared.expr.Decl.{Decl}
use Rattle.jz_tree.specs.declared.expr.Expr.{Expr}
use Rattle.jz_tree.specs.declared.expr.Var.{Var}
use Rattle.jz_tree.specs.declared.expr.Expr.TheViews.{out-Var}
use Rattle.jz_tree.specs.declared.stmt.Rhs.{Rhs}
use Rattle.jz_tree.specs.declared.stmt.Rhs.TheVariants as rhs
use Rattle.jz_tree.specs.declared.stmt.Stmt.{Stmt}
use Rattle.jz_tree.specs.declared.stmt.StmtKind.TheOpen.{StmtKind-F}
use Rattle.jz_tree.specs.declared.program.Const.{Const}
use Rattle.jz_tree.specs.declared.program.Fun.{Fun}
use Rattle.jz_tree.specs.declared.program.Program.{Program}
use Rattle.jz_lex.specs.Identifiers.{IsIdentifier}
use Rattle.jz_lex.proofs.LexingWords.{same_is}
use Rattle.jz_type_names.specs.Parts.{Layer, layer_of, statements_of}
use Rattle.jz_type_names.specs.Scopes.{variables_of, variable_named, constant_named, constant_place, function_named}
use Rattle.jz_resolve.specs.Numbering.{constant_decl}
use Rattle.jz_types.specs.Carried.{declared_in}
use Rattle.jz_meaning.specs.declared.access.Kind.{Kind}
use Rattle.jz_meaning.specs.declared.access.Kind.TheVariants as kind
use Rattle.jz_meaning.specs.Values.{Ref, kind_or, declared_kind, ref_of}
use Rattle.jz_meaning.specs.Runs.{body_of}
use Rattle.jz_run_laws.specs.Kinds.{part_of}
use Rattle.jz_copies.specs.Called.{called_function}
use Rattle.jz_frames.specs.Frames.{Called, right_called, layer_called, calls_in}
use Rattle.jz_ready.specs.CopiedKinds.{callees_of, kind_in, copied_kinds}
use Rattle.jz_unrollable.proofs.CalledFuns.{funs_with, funs_in, funs_are}
use Rattle.jz_plain_operands.specs.Plain.{IsPlain, a_word, a_slot, a_flag, an_array}
use Rattle.jz_plain_expansions.specs.PlainExpansions.{without_int, expanded_kinds}
use Rattle.jz_copied_variables.specs.Variables.{frame_of}
use Rattle.jz_parse_laws.specs.Names.{IsCalled, HasNames, AreNamed}
use Rattle.jz_listable.proofs.Terms.{HasName}

-- ---- kinds that are declared
no_word : (z : Size) → kind.Word z ≡ kind.Undeclared → ⊥
no_word z e = cc

no_flag : kind.Bool ≡ kind.Undeclared → ⊥
no_flag e = cc

no_array : (z : Size) (n : ℕ) → kind.Array z n ≡ kind.Undeclared → ⊥
no_array z n e = cc

-- ---- what is found has the name
found_by : {A : Type 0} (name : A → List ℕ) (n : List ℕ) (x : A) (rest : Option A) (b : Bool) → bytes_eq n (name x) ≡ b → IsIdentifier (name x) → ((y : A) → rest ≡ Some y → IsIdentifier n) → (y : A) → cond b (Some x) rest ≡ Some y
    → IsIdentifier n
found_by name n x rest true e h k y f = subst IsIdentifier (sym (same_is n (name x) e)) h
found_by name n x rest false e h k y f = k y f

variable_found : (n : List ℕ) (vs : List Var) → All IsCalled vs → (v : Var) → variable_named n vs ≡ Some v → IsIdentifier n
variable_found n [] h v e = absurd cc
variable_found n (w ∷ vs) h v e =
    found_by (λ x. (out-Var x).name) n w (variable_named n vs) (bytes_eq n (out-Var w).name) refl (All-head IsCalled w vs h) (variable_found n vs (All-tail IsCalled w vs h)) v e

abbrev IsConst : Const → Type 0
IsConst c = IsIdentifier c.name

constant_found : (n : List ℕ) (cs : List Const) → All IsConst cs → (c : Const) → constant_named n cs ≡ Some c → IsIdentifier n
constant_found n [] h c e = absurd cc
constant_found n (d ∷ cs) h c e =
    found_by (λ x. x.name) n d (constant_named n cs) (bytes_eq n d.name) refl (All-head IsConst d cs h) (constant_found n cs (All-tail IsConst d cs h)) c e

-- ---- what is declared in a function
by_constant : (n : List ℕ) (o : Option Const) → ((c : Const) → o ≡ Some c → IsIdentifier n) → (d : Decl) → option_map (λ at. constant_decl) (option_map (λ c. c.span) o) ≡ Some d → IsIdentifier n
by_constant n None h d e = absurd cc
by_constant n (Some c) h d e = h c refl

by_variable : (n : List ℕ) (o : Option Var) (rest : Option Decl) → ((v : Var) → o ≡ Some v → IsIdentifier n) → ((d : Decl) → rest ≡ Some d → IsIdentifier n) → (d : Decl)
    → option_or (option_and_then (λ v. (out-Var v).decl) o) rest ≡ Some d → IsIdentifier n
by_variable n None rest h k d e = k d e
by_variable n (Some v) rest h k d e = h v refl

module _ (p : Program) (named : AreNamed p) where
  declared_named : (f : Fun) → HasNames f → (n : List ℕ) (d : Decl) → declared_in p f n ≡ Some d → IsIdentifier n
  declared_named f h n d e =
      by_variable n (variable_named n (variables_of f)) (option_map (λ at. constant_decl) (constant_place p.consts n)) (variable_found n (variables_of f) h.declared)
      (by_constant n (constant_named n p.consts) (constant_found n p.consts named.consts)) d e

  kind_named : (n : List ℕ) (o : Option Decl) → ((d : Decl) → o ≡ Some d → IsIdentifier n) → (kind_or (option_map declared_kind o) ≡ kind.Undeclared → ⊥) → IsIdentifier n
  kind_named n None h k = absurd (k refl)
  kind_named n (Some d) h k = h d refl

  in_function : (n : List ℕ) (o : Option Fun) → ((f : Fun) → o ≡ Some f → HasNames f) → (kind_in p o n ≡ kind.Undeclared → ⊥) → IsIdentifier n
  in_function n None h k = absurd (k refl)
  in_function n (Some f) h k = kind_named n (declared_in p f n) (declared_named f (h f refl) n) k

  -- ---- the functions that are copied
  function_found : (n : List ℕ) (fs : List Fun) → All HasNames fs → (f : Fun) → function_named n fs ≡ Some f → HasNames f
  function_found n [] h f e = absurd cc
  function_found n (g ∷ gs) h f e = by_test (bytes_eq n g.name) (All-head HasNames g gs h) (function_found n gs (All-tail HasNames g gs h) f) e
    where
      by_test : (b : Bool) → HasNames g → (function_named n gs ≡ Some f → HasNames f) → cond b (Some g) (function_named n gs) ≡ Some f → HasNames f
      by_test true here rest s = let is : g ≡ f = cc in subst HasNames is here
      by_test false here rest s = rest s

  called_found : (depth : ℕ) (o : Option BinOp) (n : List ℕ) (c : Option Expr) (f : Fun) → called_function p.funs depth o n c ≡ Some f → HasNames f
  called_found zero o n c f e = absurd cc
  called_found (suc d) (Some o) n c f e = absurd cc
  called_found (suc d) None n (Some c) f e = absurd cc
  called_found (suc d) None n None f e = function_found n p.funs named.funs f e

  abbrev CallsNamed : List Called → Type 0
  CallsNamed [] = ⊤
  CallsNamed (c ∷ cs) = HasNames c.of × CallsNamed cs

  both_named : (cs ds : List Called) → CallsNamed cs → CallsNamed ds → CallsNamed (cs ++ ds)
  both_named [] ds h k = k
  both_named (c ∷ cs) ds h k = (h.0, both_named cs ds h.1 k)

  one_call : (o : Option Fun) (args : List Expr) (at : Span) → ((f : Fun) → o ≡ Some f → HasNames f) → CallsNamed (option_to_list (option_map (λ f. record { at = at; of = f; args = args }) o))
  one_call None args at h = tt
  one_call (Some f) args at h = (h f refl, tt)

  right_calls : (depth : ℕ) (o : Option BinOp) (r : Rhs) (c : Option Expr) → CallsNamed (right_called p.funs depth o r c)
  right_calls depth o (rhs.Value e) c = tt
  right_calls depth o (rhs.Call n args at) c = one_call (called_function p.funs depth o n c) args at (called_found depth o n c)
  right_calls depth o (rhs.Intrinsic n args at) c = tt

  layer_calls : (depth : ℕ) (l : Layer) → CallsNamed (layer_called p.funs depth l)
  layer_calls depth (StmtKind-F.Assign to o r c) = right_calls depth o r c
  layer_calls depth (StmtKind-F.If c a b) = tt
  layer_calls depth (StmtKind-F.While q c b) = tt
  layer_calls depth (StmtKind-F.For i from down to b) = tt
  layer_calls depth (StmtKind-F.Mark xs) = tt

  all_calls : (depth : ℕ) (ss : List Stmt) → CallsNamed (flat_map (λ s. layer_called p.funs depth (layer_of s)) ss)
  all_calls depth [] = tt
  all_calls depth (s ∷ ss) =
      both_named (layer_called p.funs depth (layer_of s)) (flat_map (λ t. layer_called p.funs depth (layer_of t)) ss) (layer_calls depth (layer_of s)) (all_calls depth ss)

  with_named : (inside : Fun → List Fun) → ((f : Fun) → All HasNames (inside f)) → (cs : List Called) → CallsNamed cs → All HasNames (funs_with inside cs)
  with_named inside more [] h = All-nil HasNames
  with_named inside more (c ∷ cs) h =
      All-cons HasNames c.of (inside c.of ++ funs_with inside cs) h.0
      (All-append HasNames (inside c.of) (funs_with inside cs) (more c.of) (with_named inside more cs h.1))

  funs_named : (depth : ℕ) (f : Fun) → All HasNames (funs_in p.funs depth f)
  funs_named zero f = All-nil HasNames
  funs_named (suc depth) f = with_named (funs_in p.funs depth) (funs_named depth) (calls_in p.funs (suc depth) f.body) (all_calls (suc depth) (statements_of f.body))

  callees_named : (f : Fun) → All HasNames (callees_of (body_of p f))
  callees_named f = subst (All HasNames) (sym (funs_are p.funs (length p.funs) f)) (funs_named (length p.funs) f)

  -- ---- the variables of an expansion
  at_place : (fs : List Fun) (i : ℕ) → All HasNames fs → (f : Fun) → slice_get fs i ≡ Some f → HasNames f
  at_place [] i h f e = absurd cc
  at_place (g ∷ fs) zero h f e = let is : g ≡ f = cc in subst HasNames is (All-head HasNames g fs h)
  at_place (g ∷ fs) (suc i) h f e = at_place fs i (All-tail HasNames g fs h) f e

  undeclared : (c : Option ℕ) → part_of kind.Undeclared c ≡ kind.Undeclared
  undeclared None = refl
  undeclared (Some i) = refl

  -- what is declared as something is declared in the function of its copy
  still_there : (k : Kind) (c : Option ℕ) (x : Kind) → part_of (without_int k) c ≡ x → (x ≡ kind.Undeclared → ⊥) → k ≡ kind.Undeclared → ⊥
  still_there k c x e some none = some (sym e ∙ ap (λ y. part_of (without_int y) c) none ∙ undeclared c)

  module _ (f : Fun) (has : Contains p.funs f) where
    all_named : All HasNames (f ∷ callees_of (body_of p f))
    all_named = All-cons HasNames f (callees_of (body_of p f)) (All-contains HasNames p.funs f named.funs has) (callees_named f)

    ref_named : (r : Ref) → part_of (expanded_kinds p f r.name r.copy) r.cell ≡ r.kind → (r.kind ≡ kind.Undeclared → ⊥) → HasName r
    ref_named r e some =
        in_function r.name (slice_get (f ∷ callees_of (body_of p f)) r.copy) (at_place (f ∷ callees_of (body_of p f)) r.copy all_named)
        (still_there (copied_kinds p f r.name r.copy) r.cell r.kind e some)

    pub variable_named_so : (v : Var) → IsPlain (expanded_kinds p f) (frame_of p f) v → HasName (ref_of v)
    variable_named_so v (a_word z d k s) = ref_named (ref_of v) s.declared (λ e. no_word z (sym k ∙ e))
    variable_named_so v (a_slot z d k s) = ref_named (ref_of v) s.declared (λ e. no_word z (sym k ∙ e))
    variable_named_so v (a_flag d k s) = ref_named (ref_of v) s.declared (λ e. no_flag (sym k ∙ e))
    variable_named_so v (an_array z n d a) = ref_named (ref_of v) a.declared (λ e. no_array z n (sym a.is ∙ e))
