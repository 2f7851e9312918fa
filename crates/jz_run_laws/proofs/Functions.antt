-- Runs of bodies and of functions keep kinds.
use Rattle.std.proofs.Common.{ℕ, List, ◌∷◌, [], Some, All, sym, subst}
use Rattle.std.specs.List.{AllZip}
use Rattle.std.proofs.lemmas.List.Elements.{All-nil, All-cons, All-head, All-tail}
use Rattle.jz_tree.specs.Span.{Span}
use Rattle.jz_tree.specs.Memory.{Memory}
use Rattle.jz_tree.specs.declared.expr.Var.{Var}
use Rattle.jz_tree.specs.declared.program.Param.{Param}
use Rattle.jz_meaning.specs.RunLeaks.{Leak}
use Rattle.jz_meaning.specs.Rules.{stuck, went, Outcome, End, Cut, Stuck}
use Rattle.jz_meaning.specs.declared.access.Kind.{Kind}
use Rattle.jz_meaning.specs.declared.access.Kind.TheVariants as kind
use Rattle.jz_meaning.specs.declared.value.Stuck as code
use Rattle.jz_meaning.specs.Attempts.{Evaluation, and_then}
use Rattle.jz_meaning.specs.States.{Value, word, boolean, integer, Store, State, empty_store, put}
use Rattle.jz_meaning.specs.Values.{key_of, variable_value, ref_of}
use Rattle.jz_meaning.specs.Statements.{source}
use Rattle.jz_meaning.specs.Runs.{FitsKind, with_arguments, only_word, result_word, result_words, outcome_of_words, outcome_of_body, entry_state, body_of}
use Rattle.jz_run_laws.specs.Kinds.{Kinds, FitsSize, IsOfKind, HoldsKinds, HoldsBytes, IsOfKinds}
use Rattle.jz_run_laws.specs.DeclaredKinds.{OperationDeclared, CounterDeclared, ParamDeclared, CallDeclared}
use Rattle.jz_run_laws.specs.Kept.{IfWent, AtEnd, IsReturned, BodiesKeep, EntriesKeep, FunctionsKeep}
use Rattle.jz_run_laws.proofs.Parts.{went_then, went_defined}
use Rattle.jz_run_laws.proofs.Runs.{Keeps, kept}
use Rattle.jz_run_laws.proofs.Expressions.{StoreFits}
use Rattle.jz_run_laws.proofs.Stores.{put_keeps, store_fits}
use Rattle.jz_run_laws.proofs.Nodes.{operations_keep, marks_keep, counters_begin, counters_restore}
use Rattle.jz_run_laws.proofs.Calls.{nothing_held, calls_enter, calls_leave}

-- ---- bodies

parts_keep : Keeps OperationDeclared CounterDeclared CallDeclared source IsOfKinds
parts_keep =
    record {
      operations = operations_keep;
      marks = λ k o s d h. marks_keep k o s h;
      tests = λ k c s h. h;
      beginning = counters_begin;
      restored = counters_restore;
      entered = calls_enter;
      left = calls_leave;
    }

pub bodies_keep : BodiesKeep
bodies_keep kinds b n s o d h g = kept OperationDeclared CounterDeclared CallDeclared source IsOfKinds parts_keep kinds g d h

-- ---- functions

argument_kind : (k : Kind) (v : Value) → FitsKind k v → IsOfKind k v
argument_kind (kind.Word z) (word y a) h = h
argument_kind (kind.Word z) (boolean c) h = absurd h
argument_kind (kind.Word z) (integer i) h = absurd h
argument_kind kind.Undeclared v h = absurd h
argument_kind kind.Int v h = absurd h
argument_kind kind.Bool v h = absurd h
argument_kind (kind.Array z n) v h = absurd h

arguments_keep : (kinds : Kinds) (ps : List Param) (vs : List Value) (store : Store) → All (ParamDeclared kinds) ps → AllZip (λ q v. FitsKind (ref_of q.var).kind v) ps vs → HoldsKinds kinds store → HoldsKinds kinds (with_arguments ps vs store)
arguments_keep kinds [] vs store d f h = h
arguments_keep kinds (p ∷ ps) [] store d f h = h
arguments_keep kinds (p ∷ ps) (v ∷ vs) store d f h =
    arguments_keep kinds ps vs (put store (key_of (ref_of p.var)) (Some v)) (All-tail (ParamDeclared kinds) p ps d) f.1
    (put_keeps kinds store (key_of (ref_of p.var)) (Some v) h (subst (λ k. IsOfKind k v) (sym (All-head (ParamDeclared kinds) p ps d)) (argument_kind (ref_of p.var).kind v f.0)))

pub entries_keep : EntriesKeep
entries_keep kinds p f words memory d i h =
    record { variables = arguments_keep kinds f.params words empty_store d i.arguments (nothing_held kinds); bytes = h }

only_word_fits : (at : Span) (v : Value) → FitsSize v → IfWent FitsSize (only_word at v)
only_word_fits at (word z a) h = h
only_word_fits at (boolean c) h = tt
only_word_fits at (integer i) h = tt

result_fits : (x : Var) (store : Store) → StoreFits store → IfWent FitsSize (result_word x store)
result_fits x store h =
    went_then FitsSize FitsSize (variable_value (ref_of x) store) (only_word (ref_of x).span) (went_defined FitsSize (ref_of x).span (store (key_of (ref_of x))) (h (key_of (ref_of x))))
    (λ v q. only_word_fits (ref_of x).span v q)

results_fit : (xs : List Var) (store : Store) → StoreFits store → IfWent (All FitsSize) (result_words xs store)
results_fit [] store h = All-nil FitsSize
results_fit (x ∷ xs) store h =
    went_then FitsSize (All FitsSize) (result_word x store) (λ v. and_then (result_words xs store) (λ vs. went [] (v ∷ vs))) (result_fits x store h)
    (λ v q. went_then (All FitsSize) (All FitsSize) (result_words xs store) (λ vs. went [] (v ∷ vs)) (results_fit xs store h) (λ vs r. All-cons FitsSize v vs q r))

words_returned : (memory : Memory) (n : ℕ) (l : Leak) (g : Evaluation (List Value)) → HoldsBytes memory → IfWent (All FitsSize) g → AtEnd IsReturned (outcome_of_words memory n l g)
words_returned memory n l (stuck w) h f = tt
words_returned memory n l (went ns vs) h f = (f, h)

body_returned : (kinds : Kinds) (xs : List Var) (o : Outcome State code.Stuck Leak) → AtEnd (IsOfKinds kinds) o → AtEnd IsReturned (outcome_of_body xs o)
body_returned kinds xs (End s n l) h = words_returned s.memory n l (result_words xs s.store) h.bytes (results_fit xs s.store (store_fits kinds s.store h.variables))
body_returned kinds xs (Cut l) h = tt
body_returned kinds xs (Stuck w) h = tt

pub functions_keep : FunctionsKeep
functions_keep kinds p f words memory n o d b h r =
    subst (AtEnd IsReturned) r.gives
    (body_returned kinds f.result r.out (bodies_keep kinds (body_of p f) n (entry_state f words memory) r.out b (entries_keep kinds p f words memory d r.input h) r.goes))
