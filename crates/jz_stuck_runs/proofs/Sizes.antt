-- Each instruction of a typed program has one size.
use Rattle.std.proofs.Common.{◌≡◌, ℕ, true, false, List, [], ◌∷◌, Option, Some, None, flat_map, refl, sym, subst}
use Rattle.std.specs.Prelude.{◌&&◌, All, option_map}
use Rattle.std.specs.Option.{option_or}
use Rattle.std.proofs.lemmas.Bool.{false≢true, and_parts}
use Rattle.std.proofs.lemmas.List.Elements.{All-weaker, All-contains}
use Rattle.jz_tree.specs.Span.{Span}
use Rattle.jz_tree.specs.Size.{Size}
use Rattle.jz_tree.specs.Size.TheVariants.{S64}
use Rattle.jz_tree.specs.declared.expr.Expr.{Expr}
use Rattle.jz_tree.specs.declared.stmt.Lval.{Lval}
use Rattle.jz_tree.specs.declared.stmt.Rhs.TheVariants as rhs
use Rattle.jz_tree.specs.declared.stmt.StmtKind.TheOpen.{StmtKind-F}
use Rattle.jz_tree.specs.declared.program.Fun.{Fun}
use Rattle.jz_tree.specs.declared.program.Program.{Program}
use Rattle.jz_tree.specs.declared.intrinsic.Intrinsic.{Intrinsic}
use Rattle.jz_tree.specs.declared.intrinsic.Intrinsic.TheVariants as name
use Rattle.jz_tree.specs.declared.intrinsic.Instance.{Instance}
use Rattle.jz_tree.specs.Spellings.{spelled}
use Rattle.jz_type_names.specs.Kinds.{array_of}
use Rattle.jz_type_names.specs.Parts.{layer_of, statements_of}
use Rattle.jz_type_names.proofs.Empty.{both, all_empty}
use Rattle.jz_type_sizes.specs.declared.signatures.Role.TheVariants as role
use Rattle.jz_type_sizes.specs.Mismatches.{among}
use Rattle.jz_type_sizes.specs.Signatures.{operands_of, results_of, signature_of, instance_signature}
use Rattle.jz_type_sizes.specs.Intrinsics.{size_of_intrinsic, result_size, argument_size}
use Rattle.jz_type_rows.specs.Copies.{array_left, array_arg}
use Rattle.jz_select.specs.declared.shaping.Flags.TheVariants as flags
use Rattle.jz_select.specs.Sums.{is_sum}
use Rattle.jz_select.specs.Look.{terms_of}
use Rattle.jz_select.specs.Operands.{dest_of}
use Rattle.jz_select.specs.Rows.{is_r, is_longest, class_size}
use Rattle.jz_select.specs.Shapes.{Asked, whichever, value_behind, address_shape, intrinsic_shape, named_shape}
use Rattle.jz_judgement.specs.WellTyped as well
use Rattle.jz_judgement.specs.WellTyped.{InPairs, Output, Instructs, WellTyped}
use Rattle.jz_judgement.proofs.Nothing.{neither_size}
use Rattle.jz_types.specs.Carried.{declared_in}
use Rattle.jz_meaning.specs.Intrinsics.{intrinsic_size}
use Rattle.jz_run_laws.specs.Counted.{Counted}
use Rattle.jz_run_laws.specs.Lefts.{IsCountedLeft}
use Rattle.jz_run_laws.specs.OneSize.{takes_size, IsNoArray}
use Rattle.jz_run_laws.proofs.InstructionSizes.{intrinsic_law}
use Rattle.jz_row_laws.proofs.Copied.{Matches}
use Rattle.jz_stuck_runs.specs.Sizes.{gives_byte, HasOneSize, SizeLaw}
use Rattle.jz_stuck_runs.proofs.Expressions.{counted_of}
use Rattle.jz_stuck_runs.proofs.Statements.{IsGood, IsReady, all_ready}
use Rattle.jz_stuck_runs.proofs.LeftSides.{counted_left}
use Rattle.jz_stuck_runs.proofs.Trees.{assign_parts}
use Rattle.jz_stuck_runs.proofs.RowSizes.{Typed, named_fits, sized}
use Rattle.jz_stuck_runs.proofs.Instructing.{operands_typed, lea_size}
use Rattle.jz_stuck_runs.proofs.Whole.{no_array_there, lefts_are, plain_lefts, with_parts}

module _ (to : List Lval) (args : List Expr) (counted : All IsCountedLeft to) (counted_args : All Counted args) (plain : All IsNoArray args) where
  record IsSized (m : Intrinsic) (z : Option Size) : Type 0 where
    pub size : Size
    pub found : size_of_intrinsic (signature_of m z) to args ≡ Some size
    pub done_at : intrinsic_size m z to args ≡ Some size

  by_size : (asked : Asked) (m : Intrinsic) (i : Instance) (o : Option Size) → takes_size m ≡ true → Instructs (Some (signature_of m i.size)) to args → size_of_intrinsic (signature_of m i.size) to args ≡ o
      → InPairs (Output o) (results_of m) to → InPairs (Typed o) (operands_of m) args → Matches (intrinsic_shape asked m i to args) → IsSized m i.size
  by_size asked m i None t g e outs ins r =
      absurd (sized asked m i to args t (neither_size i.size (option_or (result_size (results_of m) to) (argument_size (operands_of m) args)) e).0 outs ins r)
  by_size asked m i (Some y) t g e outs ins r = record { size = y; found = e; done_at = intrinsic_law m i.size to args y t counted counted_args plain g e }

lea_sized : (i : Instance) (o : Option Size) (to : List Lval) (args : List Expr) → InPairs (Output o) (role.Value ∷ []) to → InPairs (Typed o) (role.Address ∷ []) args → Matches (address_shape i (value_behind flags.Zero to) args)
    → size_of_intrinsic (signature_of name.Lea i.size) to args ≡ Some S64
lea_sized i o to args (well.next {b = d} v well.none) (well.next {b = a} t well.none) m =
    let fits = named_fits name.Lea (is_r (dest_of d) && (is_longest (option_or i.size (class_size (dest_of d))) && is_sum (terms_of a))) m in
    lea_size i.size d None (and_parts (is_longest (option_or i.size (class_size (dest_of d)))) _ (and_parts (is_r (dest_of d)) _ fits).1).0

module _ (to : List Lval) (args : List Expr) (counted : All IsCountedLeft to) (counted_args : All Counted args) (plain : All IsNoArray args) where
  abbrev Sized : Intrinsic → Option Size → Type 0
  Sized m z = IsSized to args counted counted_args plain m z

  by_name : (asked : Asked) (m : Intrinsic) (i : Instance) (o : Option Size) → gives_byte m ≡ false → Instructs (Some (signature_of m i.size)) to args → size_of_intrinsic (signature_of m i.size) to args ≡ o
      → InPairs (Output o) (results_of m) to → InPairs (Typed o) (operands_of m) args → Matches (intrinsic_shape asked m i to args) → Sized m i.size
  by_name asked name.Setcc i o b g e outs ins r = absurd (false≢true (sym b))
  by_name asked name.Lea i o b g e outs ins r = record { size = S64; found = lea_sized i o to args outs ins r; done_at = refl }
  by_name asked name.Add i o b g e outs ins r = by_size to args counted counted_args plain asked name.Add i o refl g e outs ins r
  by_name asked name.Sub i o b g e outs ins r = by_size to args counted counted_args plain asked name.Sub i o refl g e outs ins r
  by_name asked name.And i o b g e outs ins r = by_size to args counted counted_args plain asked name.And i o refl g e outs ins r
  by_name asked name.Or i o b g e outs ins r = by_size to args counted counted_args plain asked name.Or i o refl g e outs ins r
  by_name asked name.Xor i o b g e outs ins r = by_size to args counted counted_args plain asked name.Xor i o refl g e outs ins r
  by_name asked name.Adc i o b g e outs ins r = by_size to args counted counted_args plain asked name.Adc i o refl g e outs ins r
  by_name asked name.Sbb i o b g e outs ins r = by_size to args counted counted_args plain asked name.Sbb i o refl g e outs ins r
  by_name asked name.Neg i o b g e outs ins r = by_size to args counted counted_args plain asked name.Neg i o refl g e outs ins r
  by_name asked name.Inc i o b g e outs ins r = by_size to args counted counted_args plain asked name.Inc i o refl g e outs ins r
  by_name asked name.Dec i o b g e outs ins r = by_size to args counted counted_args plain asked name.Dec i o refl g e outs ins r
  by_name asked name.Not i o b g e outs ins r = by_size to args counted counted_args plain asked name.Not i o refl g e outs ins r
  by_name asked name.Bswap i o b g e outs ins r = by_size to args counted counted_args plain asked name.Bswap i o refl g e outs ins r
  by_name asked name.Cmp i o b g e outs ins r = by_size to args counted counted_args plain asked name.Cmp i o refl g e outs ins r
  by_name asked name.Test i o b g e outs ins r = by_size to args counted counted_args plain asked name.Test i o refl g e outs ins r
  by_name asked name.Shl i o b g e outs ins r = by_size to args counted counted_args plain asked name.Shl i o refl g e outs ins r
  by_name asked name.Shr i o b g e outs ins r = by_size to args counted counted_args plain asked name.Shr i o refl g e outs ins r
  by_name asked name.Sar i o b g e outs ins r = by_size to args counted counted_args plain asked name.Sar i o refl g e outs ins r
  by_name asked name.Rol i o b g e outs ins r = by_size to args counted counted_args plain asked name.Rol i o refl g e outs ins r
  by_name asked name.Ror i o b g e outs ins r = by_size to args counted counted_args plain asked name.Ror i o refl g e outs ins r
  by_name asked name.Imul i o b g e outs ins r = by_size to args counted counted_args plain asked name.Imul i o refl g e outs ins r
  by_name asked name.Mul i o b g e outs ins r = by_size to args counted counted_args plain asked name.Mul i o refl g e outs ins r
  by_name asked name.Div i o b g e outs ins r = by_size to args counted counted_args plain asked name.Div i o refl g e outs ins r

  one_size : (asked : Asked) (x : Option Instance) (i : Instance) → x ≡ Some i → gives_byte i.name ≡ false → Instructs (option_map instance_signature x) to args → Matches (named_shape asked x to args) → HasOneSize i to args
  one_size asked x i is b g r =
      by_one (subst (λ x. Instructs (option_map instance_signature x) to args) is g) (subst (λ x. Matches (named_shape asked x to args)) is r)
    where
      by_one : Instructs (Some (instance_signature i)) to args → Matches (named_shape asked (Some i) to args) → HasOneSize i to args
      by_one (well.instance_of outs ins) r =
          let o = size_of_intrinsic (instance_signature i) to args in
          let y = by_name asked i.name i o b (well.instance_of outs ins) refl outs (operands_typed o ins plain) r in
          record { size = y.size; found = y.found; done_at = y.done_at }

statement_sized : (q : Program) (f : Fun) (to : List Lval) (n : List ℕ) (args : List Expr) (at : Span) (i : Instance) → spelled n ≡ Some i → gives_byte i.name ≡ false
    → IsGood q f (StmtKind-F.Assign to None (rhs.Intrinsic n args at) None) → HasOneSize i to args
statement_sized q f to n args at i is b g = by_type g.typed
  where
    by_type : WellTyped (among q.funs) (StmtKind-F.Assign to None (rhs.Intrinsic n args at) None) → HasOneSize i to args
    by_type (well.assigned v t) =
        let p = assign_parts q f to None (rhs.Intrinsic n args at) args None refl g in
        let no = both (flat_map array_left to) (flat_map array_arg args) g.copied in
        let l = with_parts (declared_in q f) to (lefts_are q f to p.lefts p.vars p.inline) (plain_lefts to no.0) in
        let plain = All-weaker (λ e. array_arg e ≡ []) IsNoArray (λ e x. no_array_there (array_of e) x) args (all_empty array_arg args no.1) in
        let r = g.row refl in
        one_size to args (λ j d lt. counted_left (declared_in q f) _ (l j d lt)) (λ j d lt. counted_of (declared_in q f) _ (p.rights j d lt)) plain (whichever r.0) (spelled n) i is b v r.1

pub size_law : SizeLaw
size_law q f s to n args at i typed has of_function is spell b =
    let ready = All-contains (IsReady q) q.funs f (all_ready q typed) has in
    let good = All-contains (λ s. IsGood q f (layer_of s)) (statements_of f.body) s ready.good of_function in
    statement_sized q f to n args at i spell b (subst (IsGood q f) is good)
