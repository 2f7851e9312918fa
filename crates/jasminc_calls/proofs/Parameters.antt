-- The parameters of an export function are words, and items are arguments of them.
use Rattle.std.proofs.Common.{◌≡◌, ℕ, ◌%◌, ◌<◌, Bool, true, false, not, ◌&&◌, ◌||◌, List, [], ◌∷◌, length, Option, Some, None, map, refl, sym, ap, ◌∙◌, subst, arith}
use Rattle.std.specs.Prelude.{All, option_map, nat_le}
use Rattle.std.proofs.lemmas.List.{length-map}
use Rattle.std.specs.List.{list_all, AllZip}
use Rattle.std.proofs.lemmas.Bool.{and_parts, false≢true}
use Rattle.std.proofs.lemmas.List.Elements.{All-nil, All-cons, All-head, All-tail, All-map, All-weaker, All-contains}
use Rattle.jz_tree.specs.Size.{Size}
use Rattle.jz_tree.specs.Size.TheVariants.{S8, S16, S32, S64}
use Rattle.jz_tree.specs.Sizes.{modulus}
use Rattle.jz_tree.specs.declared.expr.Storage.TheVariants as storage
use Rattle.jz_tree.specs.declared.expr.Ty.{Ty}
use Rattle.jz_tree.specs.declared.expr.Decl.{Decl}
use Rattle.jz_tree.specs.declared.expr.Var.{Var}
use Rattle.jz_tree.specs.declared.expr.Expr.TheOpen.{Ty-F}
use Rattle.jz_tree.specs.declared.expr.Expr.TheViews.{out-Ty, out-Var}
use Rattle.jz_tree.specs.declared.program.Fun.{Fun}
use Rattle.jz_tree.specs.declared.program.Param.{Param}
use Rattle.jz_tree.specs.declared.program.Program.{Program}
use Rattle.jz_type_names.specs.declared.kinds.Kind as known
use Rattle.jz_type_names.specs.Kinds.{Known, declared_of, known_of, kind_of, kind_step, is_word_kind, is_register_word, same_storage}
use Rattle.jz_type_names.specs.Scopes.{constant_place}
use Rattle.jz_type_names.proofs.Empty.{passed, all_empty, no_member}
use Rattle.jz_type_rows.specs.Exports.{is_exported, has_shape, is_word_param, is_word_result, misshapen_places}
use Rattle.jz_type_rows.specs.Programs.{in_functions}
use Rattle.jz_resolve.specs.Numbering.{values_of}
use Rattle.jz_resolve.specs.Numbering as numbering
use Rattle.jz_resolve.specs.Programs.{counted_param, resolved_whole, resolved_program}
use Rattle.jz_types.specs.TypedPrograms.{IsTypedProgram}
use Rattle.jz_types.specs.declared.fault.TypeRule.TheVariants as rule
use Rattle.jz_meaning.specs.declared.access.Kind as meant
use Rattle.jz_meaning.specs.declared.access.Kind.TheVariants as kind
use Rattle.jz_meaning.specs.Values.{ref_of}
use Rattle.jz_meaning.specs.Runs.{FitsKind}
use Rattle.jz_run_laws.specs.Counted.{TyLayer, counted_type, counted_decl}
use Rattle.jz_run_laws.proofs.SameKinds as same
use Rattle.jz_run_laws.proofs.SameKinds.{SameKind, SameKnown}
use Rattle.jz_run_laws.proofs.Sizes.{variable_law}
use Rattle.jz_preconditions.specs.Naming.{values_of_kind}
use Rattle.jz_preconditions.specs.Naming as asked
use Rattle.jz_preconditions.specs.Refusals.{refused_places}
use Rattle.jz_preconditions.specs.Meeting.{IsArgument}
use Rattle.jz_items.specs.declared.item.Item.{Item}
use Rattle.jz_items.specs.Items.{word_of, words_of}
use Rattle.jz_stated.proofs.Annotated.{var_known, asked_well}
use Rattle.jasminc_calls.specs.Calls.{IsTypedExport, argument, argument_values, bits_of, argument_words}

-- ---- a word in a register is a word
counted_layer : (x : TyLayer) → is_word_kind (kind_step x) ≡ true → counted_type x ≡ true
counted_layer Ty-F.Int e = refl
counted_layer Ty-F.Ty::Bool e = refl
counted_layer (Ty-F.Word z) e = refl
counted_layer (Ty-F.Array z n) e = absurd (false≢true e)

counted_word : (d : Option Decl) → is_register_word (option_map declared_of d) ≡ true → counted_decl d ≡ true
counted_word None e = refl
counted_word (Some d) e = counted_layer (out-Ty d.ty) (and_parts (same_storage d.storage storage.Reg) (is_word_kind (kind_of d.ty)) e).1

same_word : (k : known.Kind) (m : meant.Kind) → SameKind k m → is_word_kind k ≡ true → (z : Size) × (m ≡ kind.Word z)
same_word k m same.int e = absurd (false≢true e)
same_word k m same.bool e = absurd (false≢true e)
same_word k m (same.word z) e = (z, refl)
same_word k m (same.array z n) e = absurd (false≢true e)

known_word : (k : Known) (m : meant.Kind) → SameKnown k m → is_register_word k ≡ true → (z : Size) × (m ≡ kind.Word z)
known_word None m s e = absurd (false≢true e)
known_word (Some d) m s e = same_word d.kind m s (and_parts (same_storage d.storage storage.Reg) (is_word_kind d.kind) e).1

word_kind : (v : Var) → is_register_word (known_of v) ≡ true → (z : Size) × ((ref_of v).kind ≡ kind.Word z)
word_kind v e = known_word (known_of v) (ref_of v).kind ((variable_law v).1 (counted_word (out-Var v).decl e)) e

-- ---- the parameters of export functions
abbrev IsWord : Param → Type 0
IsWord p = is_word_param p ≡ true

abbrev TakesWords : Fun → Type 0
TakesWords f = is_exported f.kind ≡ true → All IsWord f.params

each_so : {A : Type 0} (test : A → Bool) (xs : List A) → list_all test xs ≡ true → All (λ x. test x ≡ true) xs
each_so test [] e = All-nil (λ x. test x ≡ true)
each_so test (x ∷ xs) e = let p = and_parts (test x) (list_all test xs) e in All-cons (λ y. test y ≡ true) x xs p.0 (each_so test xs p.1)

not_or : (a b : Bool) → (not a || b) ≡ true → a ≡ true → b ≡ true
not_or true b e f = e
not_or false b e f = absurd (false≢true f)

shape_words : (f : Fun) → misshapen_places f ≡ [] → TakesWords f
shape_words f e x =
    let shape = not_or (is_exported f.kind) (has_shape f) (passed (not (is_exported f.kind) || has_shape f) f.span e) x in
    let three = (and_parts (nat_le (length f.params) 6 && nat_le (length f.rets) 2 && list_all is_word_param f.params) (list_all is_word_result f.rets) shape).0 in
    each_so is_word_param f.params (and_parts (nat_le (length f.params) 6 && nat_le (length f.rets) 2) (list_all is_word_param f.params) three).1

module _ (p : Program) where
  abbrev values : numbering.Values
  values = values_of p.consts

  counted_words : (q : Param) → IsWord q → IsWord (counted_param values q)
  counted_words q e = ap is_register_word (var_known p q.var) ∙ e

  resolved_words : (f : Fun) → TakesWords f → TakesWords (resolved_whole (constant_place p.consts) values f)
  resolved_words f h x = All-map IsWord (counted_param values) f.params (All-weaker IsWord (λ q. IsWord (counted_param values q)) counted_words f.params (h x))

  all_words : in_functions misshapen_places p ≡ [] → All TakesWords (resolved_program p).funs
  all_words e =
      All-map TakesWords (resolved_whole (constant_place p.consts) values) p.funs
      (All-weaker (λ f. misshapen_places f ≡ []) (λ f. TakesWords (resolved_whole (constant_place p.consts) values f)) (λ f h. resolved_words f (shape_words f h)) p.funs (all_empty misshapen_places p.funs e))

takes_words : (q : Program) → IsTypedProgram q → All TakesWords q.funs
takes_words q h =
    subst (λ z. All TakesWords z.funs) (sym h.same)
    (all_words h.source (no_member (in_functions misshapen_places h.source) (λ at c. h.typed rule.ExportShape at c)))

-- ---- items are arguments
fewer : (z : Size) (n : ℕ) → n % modulus z < modulus z
fewer S8 n = omega arith
fewer S16 n = omega arith
fewer S32 n = omega arith
fewer S64 n = omega arith

one_fits : (k : meant.Kind) (n : ℕ) → (z : Size) × (k ≡ kind.Word z) → FitsKind k (argument k n)
one_fits k n w = subst (λ m. FitsKind m (argument m n)) (sym w.1) (refl, fewer w.0 n)

all_fit : (ps : List Param) (ns : List ℕ) → All IsWord ps → length ns ≡ length ps → AllZip (λ q v. FitsKind (ref_of q.var).kind v) ps (argument_values ps ns)
all_fit [] [] w e = tt
all_fit [] (n ∷ ns) w e = absurd (omega (arith, e))
all_fit (p ∷ ps) [] w e = absurd (omega (arith, e))
all_fit (p ∷ ps) (n ∷ ns) w e =
    (one_fits (ref_of p.var).kind n (word_kind p.var (All-head IsWord p ps w)), all_fit ps ns (All-tail IsWord p ps w) (omega (arith, e)))

-- one for each parameter, of its size
pub arguments_fit : (p : Program) (f : Fun) (items : List Item) → IsTypedExport p f → length items ≡ length f.params → AllZip (λ q v. FitsKind (ref_of q.var).kind v) f.params (argument_values f.params (words_of items))
arguments_fit p f items h many =
    all_fit f.params (words_of items) (All-contains TakesWords p.funs f (takes_words p h.typed) h.among h.exported) (length-map items word_of ∙ many)

-- ---- argument words are below the counts of their sizes
small_word : (k : known.Kind) (m : meant.Kind) (n : ℕ) → SameKind k m → is_word_kind k ≡ true → bits_of (argument m n) < values_of_kind k
small_word k m n same.int e = absurd (false≢true e)
small_word k m n same.bool e = absurd (false≢true e)
small_word k m n (same.word z) e = fewer z n
small_word k m n (same.array z l) e = absurd (false≢true e)

small_known : (k : Known) (m : meant.Kind) (n : ℕ) → SameKnown k m → is_register_word k ≡ true → bits_of (argument m n) < asked.values_of k
small_known None m n s e = absurd (false≢true e)
small_known (Some d) m n s e = small_word d.kind m n s (and_parts (same_storage d.storage storage.Reg) (is_word_kind d.kind) e).1

all_small : (ps : List Param) (ns : List ℕ) → All IsWord ps → length ns ≡ length ps → AllZip IsArgument ps (map bits_of (argument_values ps ns))
all_small [] [] w e = tt
all_small [] (n ∷ ns) w e = absurd (omega (arith, e))
all_small (p ∷ ps) [] w e = absurd (omega (arith, e))
all_small (p ∷ ps) (n ∷ ns) w e =
    let r : is_register_word (known_of p.var) ≡ true = All-head IsWord p ps w in (
      small_known (known_of p.var) (ref_of p.var).kind n ((variable_law p.var).1 (counted_word (out-Var p.var).decl r)) r,
      all_small ps ns (All-tail IsWord p ps w) (omega (arith, e)),
    )

pub are_arguments : (p : Program) (f : Fun) (items : List Item) → IsTypedExport p f → length items ≡ length f.params → AllZip IsArgument f.params (argument_words f items)
are_arguments p f items h many =
    all_small f.params (words_of items) (All-contains TakesWords p.funs f (takes_words p h.typed) h.among h.exported) (length-map items word_of ∙ many)

-- ---- no precondition of an export function is refused
pub none_refused : (p : Program) (f : Fun) → IsTypedExport p f → refused_places f ≡ []
none_refused p f h = asked_well p f h.typed h.among h.exported
