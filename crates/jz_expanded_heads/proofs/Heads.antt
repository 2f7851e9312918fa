-- What is known of the variables of the head.
use Rattle.std.proofs.Common.{◌≡◌, ◌≤◌, ℕ, suc, Bool, true, false, ◌&&◌, List, [], ◌∷◌, ◌++◌, map, length, Option, Some, None, refl, sym, ap, ◌∙◌, subst, bytes_eq, if◌then◌else◌}
use Rattle.std.specs.Prelude.{nat_lt, All, AllPairs, Contains, option_map, slice_get}
use Rattle.std.proofs.lemmas.Bool.{and_parts, and_from, false≢true}
use Rattle.std.proofs.lemmas.List.Elements.{All-nil, All-cons, All-head, All-tail, All-contains}
use Rattle.jz_tree.specs.Size.{Size}
use Rattle.jz_tree.specs.declared.expr.Storage.{Storage}
use Rattle.jz_tree.specs.declared.expr.Storage.TheVariants as storage
use Rattle.jz_tree.specs.declared.expr.Decl.{Decl}
use Rattle.jz_tree.specs.declared.expr.Var.{Var}
use Rattle.jz_tree.specs.declared.expr.Expr.TheViews.{out-Var}
use Rattle.jz_tree.specs.declared.program.Fun.{Fun}
use Rattle.jz_tree.specs.declared.program.Param.{Param}
use Rattle.jz_tree.specs.declared.program.Ret.{Ret}
use Rattle.jz_tree.specs.declared.program.Program.{Program}
use Rattle.jz_type_names.specs.declared.kinds.Kind as scoped
use Rattle.jz_type_names.specs.declared.kinds.Kind.TheVariants as scope
use Rattle.jz_type_names.specs.Kinds.{Known, declared_of, known_of, kind_of, same_storage, same_kind, is_word_kind, is_array_kind, is_register_word, is_register_array, inline_int, is_inline_int, written_length}
use Rattle.jz_type_rows.specs.Exports.{is_exported}
use Rattle.jz_type_sizes.specs.Calls.{same_length, agrees, is_declared}
use Rattle.jz_judgement.specs.WellTyped as well
use Rattle.jz_judgement.specs.WellTyped.{InPairs, Returned}
use Rattle.jz_types.specs.TypedPrograms.{IsTypedProgram}
use Rattle.jz_types.specs.Carried.{declared_in}
use Rattle.jz_texts.specs.Texts.{IsText}
use Rattle.jz_texts.specs.Declared.{AreApart}
use Rattle.jz_texts.proofs.Lists.{pairs_head, pairs_tail}
use Rattle.jz_meaning.specs.declared.access.Kind.{Kind}
use Rattle.jz_meaning.specs.declared.access.Kind.TheVariants as kind
use Rattle.jz_meaning.specs.States.{Key}
use Rattle.jz_meaning.specs.Values.{ref_of}
use Rattle.jz_meaning.specs.Runs.{body_of}
use Rattle.jz_run_laws.specs.Kinds.{Kinds, cell_of, part_of}
use Rattle.jz_typed_runs.proofs.Declaring.{IsKept, kept_used, kept_params}
use Rattle.jz_bodies.proofs.Refs.{bytes_same, ref_name, ref_copy, ref_cell}
use Rattle.jz_bodies.proofs.Whole as whole
use Rattle.jz_bodies.proofs.Whole.{all_known}
use Rattle.jz_change.specs.Changes.{Change}
use Rattle.jz_plain_expansions.specs.CopiedKinds.{callees_of, copied_kinds}
use Rattle.jz_plain_expansions.specs.Expansions.{IsExpansion}
use Rattle.jz_standing.specs.Typing.{NoNumbers, IsScalar}
use Rattle.jz_fact_entry.specs.Entry.{IsOther, DifferByName}
use Rattle.jz_never_stuck.specs.Fine.{IsResult, AreResults}
use Rattle.jz_never_stuck.specs.Safety.{SharesHead}
use Rattle.jz_plain_expansions.specs.Plain.{IsPlain, a_word, a_slot, a_flag, an_array}
use Rattle.jz_plain_expansions.specs.Variables.{is_framed, framed_in, frame_of, copy_known, known_at, IsSeen}
use Rattle.jz_plain_expansions.proofs.Legal.{legal}
use Rattle.jz_plain_expansions.specs.PlainExpansions.{without_int, expanded_kinds}
use Rattle.jz_plain_expansions.proofs.Variables.{plain_seen}
use Rattle.jz_expanded_heads.specs.HeadLaws.{IsFineHead, HeadsAreFine}
use Rattle.jz_expanded_heads.proofs.Words.{IsWord, IsWordRet, HasWords, IfExported, exported_words}

-- ---- words in registers
word_not_array : (s : Bool) (k : scoped.Kind) → (s && is_word_kind k) ≡ true → (s && is_array_kind k) ≡ false
word_not_array true (scope.Word z) h = refl
word_not_array true scope.Int h = absurd (false≢true h)
word_not_array true scope.Truth h = absurd (false≢true h)
word_not_array true (scope.Array z) h = absurd (false≢true h)
word_not_array false k h = absurd (false≢true h)

no_array : (k : Known) → is_register_word k ≡ true → is_register_array k ≡ false
no_array None h = absurd (false≢true h)
no_array (Some d) h = word_not_array (same_storage d.storage storage.Reg) d.kind h

register_not_inline : (s : Storage) (k : scoped.Kind) → (same_storage s storage.Reg && is_word_kind k) ≡ true → inline_int s k ≡ false
register_not_inline storage.Reg k h = refl
register_not_inline storage.Stack k h = refl
register_not_inline storage.Inline k h = absurd (false≢true h)

no_inline : (k : Known) → is_register_word k ≡ true → is_inline_int k ≡ false
no_inline None h = absurd (false≢true h)
no_inline (Some d) h = register_not_inline d.storage d.kind h

stored_so : (a b : Storage) → same_storage a b ≡ true → same_storage a storage.Reg ≡ true → same_storage b storage.Reg ≡ true
stored_so storage.Reg storage.Reg h r = refl
stored_so storage.Reg storage.Stack h r = absurd (false≢true h)
stored_so storage.Reg storage.Inline h r = absurd (false≢true h)
stored_so storage.Stack b h r = absurd (false≢true r)
stored_so storage.Inline b h r = absurd (false≢true r)

word_so : (k m : scoped.Kind) → same_kind k m ≡ true → is_word_kind k ≡ true → is_word_kind m ≡ true
word_so (scope.Word z) (scope.Word y) h r = refl
word_so (scope.Word z) scope.Int h r = absurd (false≢true h)
word_so (scope.Word z) scope.Truth h r = absurd (false≢true h)
word_so (scope.Word z) (scope.Array y) h r = absurd (false≢true h)
word_so scope.Int m h r = absurd (false≢true r)
word_so scope.Truth m h r = absurd (false≢true r)
word_so (scope.Array z) m h r = absurd (false≢true r)

-- ---- no variable is an inline integer
no_int : (k : Kind) → without_int k ≡ kind.Int → ⊥
no_int kind.Int e = cc
no_int kind.Undeclared e = cc
no_int kind.Bool e = cc
no_int (kind.Word z) e = cc
no_int (kind.Array z n) e = cc

word_no : (b : Bool) (z : Size) → (if b then kind.Word z else kind.Undeclared) ≡ kind.Int → ⊥
word_no true z e = cc
word_no false z e = cc

cell_no : (k : Kind) (n : ℕ) → cell_of k n ≡ kind.Int → ⊥
cell_no (kind.Array z m) n e = word_no (nat_lt n m) z e
cell_no kind.Int n e = cc
cell_no kind.Undeclared n e = cc
cell_no kind.Bool n e = cc
cell_no (kind.Word z) n e = cc

part_no : (k : Kind) (c : Option ℕ) → part_of (without_int k) c ≡ kind.Int → ⊥
part_no k None e = no_int k e
part_no k (Some n) e = cell_no (without_int k) n e

-- ---- names
others : (q : Param) (ps : List Param) (vs : List Var) → All (AreApart q.var) (map (λ (r : Param). r.var) ps ++ vs) → IsOther q ps
others q [] vs h = tt
others q (r ∷ ps) vs h =
    let a = All-head (AreApart q.var) r.var (map (λ (r : Param). r.var) ps ++ vs) h in
    ((λ e. false≢true (sym a.one ∙ (ap (bytes_eq (out-Var q.var).name) (sym e) ∙ bytes_same (out-Var q.var).name))), others q ps vs (All-tail (AreApart q.var) r.var (map (λ (r : Param). r.var) ps ++ vs) h))

differ_of : (ps : List Param) (vs : List Var) → AllPairs AreApart (map (λ (r : Param). r.var) ps ++ vs) → DifferByName ps
differ_of [] vs h = tt
differ_of (q ∷ ps) vs h =
    (others q ps vs (pairs_head AreApart q.var (map (λ (r : Param). r.var) ps ++ vs) h), differ_of ps vs (pairs_tail AreApart q.var (map (λ (r : Param). r.var) ps ++ vs) h))

-- ---- a word of the head, with what is known of it
pub record IsHeadWord (p : Program) (f : Fun) (v : Var) : Type 0 where
  pub seen : IsSeen (copied_kinds p f) (frame_of p f) (known_at p f) v
  pub plain : IsPlain (expanded_kinds p f) (frame_of p f) v
  pub word : is_register_word (known_of v) ≡ true

pub record HasHead (p : Program) (f g : Fun) : Type 0 where
  pub params : All (IsHeadWord p f) (map (λ (q : Param). q.var) g.params)
  pub results : All (IsHeadWord p f) g.result
  pub few_params : length g.params ≤ 6
  pub few_results : length g.result ≤ 2

one_more : (a b : ℕ) → a ≡ b → suc a ≡ suc b
one_more a b e = ap suc e

module _ (p : Program) (f : Fun) (k : whole.IsKnown p f) where
  abbrev C : Kinds
  C = copied_kinds p f

  abbrev F : Key → Bool
  F = frame_of p f

  abbrev D : Kinds
  D = expanded_kinds p f

  abbrev Kept : Var → Type 0
  Kept v = IsKept (declared_in p f) v

  -- a variable of the function itself
  seen_own : (v : Var) → Kept v → IsSeen C F (known_at p f) v
  seen_own v h =
      let zero : (ref_of v).copy ≡ 0 = ref_copy v ∙ h.plain.0 in
      let name : declared_in p f (ref_of v).name ≡ Some h.decl = ap (declared_in p f) (ref_name v) ∙ (sym h.carries ∙ h.some) in
      record {
        decl = h.decl;
        is = h.some;
        kept = legal p f k (out-Var v).name h.decl (sym h.carries ∙ h.some);
        counted = h.counted;
        declared = ap (λ c. part_of (C (ref_of v).name c) (ref_of v).cell) zero ∙ h.own_kind;
        framed = ap (λ c. framed_in p (slice_get (f ∷ callees_of (body_of p f)) c) (ref_of v).name) zero ∙ ap is_framed name;
        stored = ap (copy_known p f (ref_of v).name) zero ∙ (ap (option_map declared_of) name ∙ sym (ap (option_map declared_of) h.some));
        entire = ref_cell v ∙ h.plain.1;
      }

  by_plain : (v : Var) → IsPlain D F v → is_register_word (known_of v) ≡ true → IsResult D F v
  by_plain v (a_word z d e s) h = record { size = z; is = e; scalar = s }
  by_plain v (a_slot z d e s) h = record { size = z; is = e; scalar = s }
  by_plain v (a_flag d e s) h = absurd (false≢true (sym (ap is_register_word d) ∙ h))
  by_plain v (an_array z n d a) h = absurd (false≢true (sym (ap is_register_word d) ∙ h))

  head_word : (v : Var) → Kept v → is_register_word (known_of v) ≡ true → IsHeadWord p f v
  head_word v h w = record { seen = seen_own v h; plain = plain_seen C F v (seen_own v h) (no_array (known_of v) w) (no_inline (known_of v) w); word = w }

  word_there : (v : Var) → Kept v → is_register_word (known_of v) ≡ true → IsResult D F v
  word_there v h w = by_plain v (head_word v h w).plain w

  head_params : (ps : List Param) → All (λ (q : Param). Kept q.var) ps → All IsWord ps → All (IsHeadWord p f) (map (λ (q : Param). q.var) ps)
  head_params [] h w = All-nil (IsHeadWord p f)
  head_params (q ∷ ps) h w =
      All-cons (IsHeadWord p f) q.var (map (λ (r : Param). r.var) ps)
      (head_word q.var (All-head (λ (r : Param). Kept r.var) q ps h) (All-head IsWord q ps w))
      (head_params ps (All-tail (λ (r : Param). Kept r.var) q ps h) (All-tail IsWord q ps w))

  params_there : (ps : List Param) → All (λ (q : Param). Kept q.var) ps → All IsWord ps → All (λ (q : Param). IsScalar D F (ref_of q.var)) ps
  params_there [] h w = All-nil (λ (q : Param). IsScalar D F (ref_of q.var))
  params_there (q ∷ ps) h w =
      All-cons (λ (q : Param). IsScalar D F (ref_of q.var)) q ps
      (word_there q.var (All-head (λ (q : Param). Kept q.var) q ps h) (All-head IsWord q ps w)).scalar
      (params_there ps (All-tail (λ (q : Param). Kept q.var) q ps h) (All-tail IsWord q ps w))

  -- what is returned is declared as the result is
  returned_word : (d : Decl) (v : Var) → Kept v → is_declared d v ≡ true → is_register_word (Some (declared_of d)) ≡ true → is_register_word (known_of v) ≡ true
  returned_word d v h s w =
      let a = subst (λ o. agrees d o ≡ true) h.some s in
      let b = and_parts (same_storage d.storage h.decl.storage) (same_kind (kind_of d.ty) (kind_of h.decl.ty) && same_length (written_length d) (written_length h.decl)) a in
      let c = and_parts (same_kind (kind_of d.ty) (kind_of h.decl.ty)) (same_length (written_length d) (written_length h.decl)) b.1 in
      let e = and_parts (same_storage d.storage storage.Reg) (is_word_kind (kind_of d.ty)) w in
      ap is_register_word (ap (option_map declared_of) h.some)
      ∙ and_from (same_storage h.decl.storage storage.Reg) (is_word_kind (kind_of h.decl.ty)) (stored_so d.storage h.decl.storage b.0 e.0) (word_so (kind_of d.ty) (kind_of h.decl.ty) c.0 e.1)

  results_there : (rs : List Ret) (vs : List Var) → InPairs Returned rs vs → All IsWordRet rs → All Kept vs → AreResults D F vs
  results_there [] [] well.none w h = tt
  results_there [] (v ∷ vs) t w h = elim t [ ]
  results_there (r ∷ rs) [] t w h = elim t [ ]
  results_there (r ∷ rs) (v ∷ vs) (well.next same rest) w h =
      let o = All-head Kept v vs h in
      (word_there v o (returned_word r.decl v o same (All-head IsWordRet r rs w)), results_there rs vs rest (All-tail IsWordRet r rs w) (All-tail Kept v vs h))

  head_results : (rs : List Ret) (vs : List Var) → InPairs Returned rs vs → All IsWordRet rs → All Kept vs → All (IsHeadWord p f) vs × (length vs ≡ length rs)
  head_results [] [] well.none w h = (All-nil (IsHeadWord p f), refl)
  head_results [] (v ∷ vs) t w h = elim t [ ]
  head_results (r ∷ rs) [] t w h = elim t [ ]
  head_results (r ∷ rs) (v ∷ vs) (well.next same rest) w h =
      let o = All-head Kept v vs h in
      let more = head_results rs vs rest (All-tail IsWordRet r rs w) (All-tail Kept v vs h) in
      (All-cons (IsHeadWord p f) v vs (head_word v o (returned_word r.decl v o same (All-head IsWordRet r rs w))) more.0, one_more (length vs) (length rs) more.1)

  numbers_there : NoNumbers D
  numbers_there c e = part_no (C c.name c.copy) c.cell e

  module _ (w : HasWords f) (g : Fun) (params : g.params ≡ f.params) (result : g.result ≡ f.result) where
    has_head : HasHead p f g
    has_head =
        let results = head_results f.rets f.result k.well.0 w.rets (kept_used p f k.text k.names).1 in
        record {
          params = subst (λ ps. All (IsHeadWord p f) (map (λ (q : Param). q.var) ps)) (sym params) (head_params f.params (kept_params p f k.text k.names) w.params);
          results = subst (All (IsHeadWord p f)) (sym result) results.0;
          few_params = subst (λ ps. length ps ≤ 6) (sym params) w.few_params;
          few_results = subst (λ vs. length vs ≤ 2) (sym result) (subst (λ n. n ≤ 2) (sym results.1) w.few_rets);
        }

    head_there : IsFineHead D F g
    head_there = record {
      no_numbers = numbers_there;
      params = subst (All (λ (q : Param). IsScalar D F (ref_of q.var))) (sym params) (params_there f.params (kept_params p f k.text k.names) w.params);
      differ = subst DifferByName (sym params) (differ_of f.params f.vars k.names.differ);
      results = subst (AreResults D F) (sym result) (results_there f.rets f.result k.well.0 w.rets (kept_used p f k.text k.names).1);
    }

module _ (p : Program) (f g : Fun) (c : Change) (count : ℕ) (typed : IsTypedProgram p) (text : IsText p) (has : Contains p.funs f) (exported : is_exported f.kind ≡ true) (x : IsExpansion p f g c count) where
  known : whole.IsKnown p f
  known = All-contains (whole.IsKnown p) p.funs f (all_known p typed text) has

  words : HasWords f
  words = All-contains IfExported p.funs f (exported_words p typed) has exported

  same_params : g.params ≡ f.params
  same_params = ap (λ (h : Fun). h.params) x.function ∙ x.head.params

  same_result : g.result ≡ f.result
  same_result = ap (λ (h : Fun). h.result) x.function ∙ x.head.result

  same_notes : g.notes ≡ f.notes
  same_notes = ap (λ (h : Fun). h.notes) x.function ∙ x.head.notes

  head_fine : IsFineHead (expanded_kinds p f) (frame_of p f) g × SharesHead f g
  head_fine = (head_there p f known words g same_params same_result, record { params = same_params; notes = same_notes })

  pub head_words : HasHead p f g
  head_words = has_head p f known words g same_params same_result

pub heads_are_fine : HeadsAreFine
heads_are_fine p f g c count typed text has exported x = head_fine p f g c count typed text has exported x
