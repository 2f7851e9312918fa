-- Register arrays that become scalars: the numbers that are left tell those that are dropped.
use Rattle.std.proofs.Common.{◌≡◌, ℕ, List, [], ◌∷◌, length, Bool, refl, sym, ◌∙◌, subst}
use Rattle.std.specs.Prelude.{option_map, map, All}
use Rattle.std.proofs.lemmas.List.Elements.{All-head, All-tail}
use Rattle.jz_tree.specs.Spellings.{spelled}
use Rattle.jz_tree.specs.declared.stmt.Lval.{Lval}
use Rattle.jz_runs.specs.Rules.{went}
use Rattle.jz_meaning.specs.Attempts.{Evaluation}
use Rattle.jz_meaning.specs.States.{State}
use Rattle.jz_meaning.specs.Assignments.{bool_in, assigned}
use Rattle.jz_meaning.specs.Intrinsics.{instruction_done}
use Rattle.jz_meaning.specs.Shapes.{HoldsSorts}
use Rattle.jz_meaning.specs.Statements.{Operation, assign, instruction, Condition, does, source}
use Rattle.jz_run_laws.specs.Kinds.{Kinds, sorts_of}
use Rattle.jz_run_laws.proofs.Stores.{kinds_sorted}
use Rattle.jz_change.specs.declared.change.Numbers.{Numbers}
use Rattle.jz_change.specs.Changes.{numbers_in}
use Rattle.jz_pass.specs.Operations.{DoAll, do_none, do_one}
use Rattle.jz_pass.specs.Rewriting.{knowing_of}
use Rattle.jz_arrays.specs.Cells.{sort_in, with_scalars, left_with_scalars, Mask, numbers_kept, mask_of, instruction_mask, assign_mask}
use Rattle.jz_arrays.specs.Arrays.{numbers_left, IsLeft, ArraysOp, assigns, instructs, ArraysTest, tests, arrays, IsOneState}
use Rattle.jz_arrays.specs.ScalarLaws.{IsThinned}
use Rattle.jz_arrays.proofs.Assigning.{AreLeft, bool_thin, assigned_thin}
use Rattle.jz_arrays.proofs.Instructing.{instruction_thin}
use Rattle.jz_arrays.proofs.Sorted.{written_sorted}
use Rattle.jz_arrays.proofs.Keeping.{op_went, test_went, arrays_known}
use Rattle.jz_two_runs.specs.Telling.{HaveSame, IsTold}
use Rattle.jz_told_numbers.specs.Dropped.{numbers_dropped, SameDropped}
use Rattle.jz_told_numbers.proofs.Masks.{numbers_by_parts}
use Rattle.jz_told_numbers.proofs.Assignments.{bool_drops, assigned_drops}
use Rattle.jz_told_numbers.proofs.Instructions.{instruction_drops}

-- the numbers of the one operation are those that the mask keeps
one_item : (o : Operation) (m : Mask) (ns : List ℕ) (t t1 x : State) → DoAll source ns (o ∷ []) (numbers_left m ∷ []) t t1 → does o t ≡ went (numbers_kept m ns) x → numbers_in (numbers_left m) ns ≡ numbers_kept m ns
one_item o m ns t t1 x (do_one {s1} a e d) q = let p : went (numbers_in (numbers_left m) ns) s1 ≡ went (numbers_kept m ns) x = sym e ∙ q in cc

no_item : (is : List Numbers) (ns : List ℕ) (t t1 : State) → DoAll source ns [] is t t1 → t ≡ t1
no_item is ns t t1 do_none = refl

thinned : {A : Type 0} (m : Mask) (g h : Evaluation A) (ns : List ℕ) (a : A) → IsThinned m g h → g ≡ went ns a → (length ns ≡ length m) × (h ≡ went (numbers_kept m ns) a)
thinned m g h ns a t q = subst (λ y. IsThinned m y h) q t

dropped_so : {A : Type 0} (m : Mask) (g h : Evaluation A) (ns ms : List ℕ) (a b : A) → SameDropped m g h → g ≡ went ns a → h ≡ went ms b → numbers_dropped m ns ≡ numbers_dropped m ms
dropped_so m g h ns ms a b d p q = subst (λ y. SameDropped m y (went ms b)) p (subst (SameDropped m g) q d)

module _ (kinds : Kinds) where
  abbrev held_sorts : (s t : State) → IsOneState kinds s t → HoldsSorts (sorts_of kinds) s.store
  held_sorts s t o = kinds_sorted kinds s.store o.held.variables

  all_left : (to : List Lval) → All (IsLeft kinds) to → AreLeft (sorts_of kinds) to
  all_left [] h = tt
  all_left (d ∷ ds) h =
      let l = All-head (IsLeft kinds) d ds h in
      (record { fixed = l.fixed; keeps = λ z v s t ns held q. written_sorted kinds z d v s t ns l.declared held q }, all_left ds (All-tail (IsLeft kinds) d ds h))

  op_told : (o : Operation) (os : List Operation) (is : List Numbers) (s r s1 r1 t u : State) (ns ms : List ℕ) → ArraysOp kinds o os is → IsOneState kinds s t → IsOneState kinds r u → does o s ≡ went ns s1 → does o r ≡ went ms r1 → HaveSame is ns ms → ns ≡ ms
  op_told o os is s r s1 r1 t u ns ms (assigns {to} {op} {e} {c} {at} i) x y p q h =
      let sorts = sorts_of kinds in let m = assign_mask (sort_in sorts) to op e c in let l = all_left to i.lefts in
      let two = assign (map left_with_scalars to) op (with_scalars e) (option_map with_scalars c) at in
      let a = thinned m (assigned to op e c at s) (does two s) ns s1 (assigned_thin sorts s (held_sorts s t x) to op e c at l i.whole i.condition i.old) p in
      let b = thinned m (assigned to op e c at r) (does two r) ms r1 (assigned_thin sorts r (held_sorts r u y) to op e c at l i.whole i.condition i.old) q in
      let f = op_went kinds (assign to op e c at) (two ∷ []) (numbers_left m ∷ []) s s1 t ns (assigns i) x p in
      let g = op_went kinds (assign to op e c at) (two ∷ []) (numbers_left m ∷ []) r r1 u ms (assigns i) y q in
      let one = one_item two m ns t f.0 s1 f.1 (subst (λ z. does two z ≡ went (numbers_kept m ns) s1) x.one a.1) in
      let other = one_item two m ms u g.0 r1 g.1 (subst (λ z. does two z ≡ went (numbers_kept m ms) r1) y.one b.1) in
      numbers_by_parts m ns ms a.0 b.0 (sym one ∙ h.0 ∙ other)
      (dropped_so m (assigned to op e c at s) (assigned to op e c at r) ns ms s1 r1 (assigned_drops sorts s r (held_sorts s t x) (held_sorts r u y) to op e c at l i.whole i.condition i.old) p q)
  op_told o os is s r s1 r1 t u ns ms (instructs {to} {n} {args} {at} i) x y p q h =
      let sorts = sorts_of kinds in let m = instruction_mask (sort_in sorts) (spelled n) to args in let l = all_left to i.lefts in
      let two = instruction (map left_with_scalars to) n (map with_scalars args) at in
      let a = thinned m (instruction_done (spelled n) to args at s) (does two s) ns s1 (instruction_thin sorts s (held_sorts s t x) (spelled n) to args at l i.operands i.flags) p in
      let b = thinned m (instruction_done (spelled n) to args at r) (does two r) ms r1 (instruction_thin sorts r (held_sorts r u y) (spelled n) to args at l i.operands i.flags) q in
      let f = op_went kinds (instruction to n args at) (two ∷ []) (numbers_left m ∷ []) s s1 t ns (instructs i) x p in
      let g = op_went kinds (instruction to n args at) (two ∷ []) (numbers_left m ∷ []) r r1 u ms (instructs i) y q in
      let one = one_item two m ns t f.0 s1 f.1 (subst (λ z. does two z ≡ went (numbers_kept m ns) s1) x.one a.1) in
      let other = one_item two m ms u g.0 r1 g.1 (subst (λ z. does two z ≡ went (numbers_kept m ms) r1) y.one b.1) in
      numbers_by_parts m ns ms a.0 b.0 (sym one ∙ h.0 ∙ other)
      (dropped_so m (instruction_done (spelled n) to args at s) (instruction_done (spelled n) to args at r) ns ms s1 r1 (instruction_drops sorts s r (held_sorts s t x) (held_sorts r u y) (spelled n) to args at l i.operands i.flags) p q)

  -- what a test shows is what is kept
  test_item : (p : Condition) (s t : State) (ns : List ℕ) (z : Bool) → ArraysTest kinds p [] [] (record { cond = with_scalars p.cond; at = p.at }) (numbers_left (mask_of (sort_in (sorts_of kinds)) p.cond)) → IsOneState kinds s t → bool_in p.at p.cond s ≡ went ns z → bool_in p.at (with_scalars p.cond) s ≡ went (numbers_kept (mask_of (sort_in (sorts_of kinds)) p.cond) ns) z
      → numbers_in (numbers_left (mask_of (sort_in (sorts_of kinds)) p.cond)) ns ≡ numbers_kept (mask_of (sort_in (sorts_of kinds)) p.cond) ns
  test_item p s t ns z k x q e =
      let m = mask_of (sort_in (sorts_of kinds)) p.cond in
      let y = test_went kinds p [] [] (record { cond = with_scalars p.cond; at = p.at }) (numbers_left m) s t ns z k x q in
      let same : s ≡ y.0 = x.one ∙ no_item [] ns t y.0 y.1 in
      let f : bool_in p.at (with_scalars p.cond) y.0 ≡ went (numbers_kept m ns) z = subst (λ v. bool_in p.at (with_scalars p.cond) v ≡ went (numbers_kept m ns) z) same e in
      let g : went (numbers_in (numbers_left m) ns) z ≡ went (numbers_kept m ns) z = sym y.3 ∙ f in
      cc

  test_told : (p : Condition) (os : List Operation) (is : List Numbers) (p2 : Condition) (i : Numbers) (s r t u : State) (ns ms : List ℕ) (y z : Bool) → ArraysTest kinds p os is p2 i → IsOneState kinds s t → IsOneState kinds r u → bool_in p.at p.cond s ≡ went ns y → bool_in p.at p.cond r ≡ went ms z → numbers_in i ns ≡ numbers_in i ms → ns ≡ ms
  test_told p os is p2 i s r t u ns ms y z (tests k) x w e f h =
      let sorts = sorts_of kinds in let m = mask_of (sort_in sorts) p.cond in
      let a = thinned m (bool_in p.at p.cond s) (bool_in p.at (with_scalars p.cond) s) ns y (bool_thin sorts s (held_sorts s t x) p.at p.cond k) e in
      let b = thinned m (bool_in p.at p.cond r) (bool_in p.at (with_scalars p.cond) r) ms z (bool_thin sorts r (held_sorts r u w) p.at p.cond k) f in
      numbers_by_parts m ns ms a.0 b.0 (sym (test_item p s t ns y (tests k) x e a.1) ∙ h ∙ test_item p r u ms z (tests k) w f b.1)
      (dropped_so m (bool_in p.at p.cond s) (bool_in p.at p.cond r) ns ms y z (bool_drops sorts s r (held_sorts s t x) (held_sorts r u w) p.at p.cond k) e f)

  pub arrays_told : IsTold {M = source} {N = source} {K = knowing_of (arrays kinds)} (arrays_known kinds)
  arrays_told = record {
    op_told = λ o e e1 os is s r s1 r1 t u ns ms k x y p q h. op_told o os is s r s1 r1 t u ns ms k x y p q h;
    test_told = λ p e os is p2 i s r t u ns ms y z k x w a b h g. test_told p os is p2 i s r t u ns ms y z k x w a b g;
    loop_test_told = λ p e os is p2 i s r t u ns ms y z k x w a b h g. test_told p os is p2 i s r t u ns ms y z k x w a b g;
  }
