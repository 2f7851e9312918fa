-- Parameters and results one after another.
use Rattle.std.proofs.Common.{◌≡◌, ℕ, ◌+◌, ◌<◌, ◌≤◌, List, [], ◌∷◌, ◌++◌, map, length, take, drop, get_or, Option, Some, None, refl, sym, ap, ◌∙◌, subst, inl, length-append}
use Rattle.std.specs.Prelude.{slice_get}
use Rattle.std.proofs.lemmas.List.{take_more, take_all, take-append-drop, drop_more, map-append}
use Rattle.jz_words.specs.declared.size.Size.{Size}
use Rattle.jz_tree.specs.Span.{Span}
use Rattle.jz_meaning.specs.Values.{key_of, ref_of}
use Rattle.x64_insn.specs.declared.types.Reg.{Reg}
use Rattle.jz_tree.specs.declared.expr.Var.{Var}
use Rattle.jz_tree.specs.declared.expr.Expr.TheViews.{out-Var}
use Rattle.jz_tree.specs.declared.program.Param.{Param}
use Rattle.jz_place.specs.declared.tree.Passed.{Passed}
use Rattle.jz_homes.specs.Homes.{Home, Homes, in_register, in_flag, in_cell}
use Rattle.jz_operands.specs.declared.homes.Home.TheVariants.{Flag, Slot, Cells}
use Rattle.jz_operands.specs.TableHomes.{scalar_home}
use Rattle.jz_operands.specs.Refusals.{IsNoScalar}
use Rattle.jz_lowered.specs.Functions.{ArePassed, none_passed, one_passed}
use Rattle.jz_homing.proofs.HomelessLemmas.{span_is}
use Rattle.jz_lowering.specs.Passing.{IsNoWord, CannotPass, IsFirstUnpassed}
use Rattle.jz_lowering.specs.InnerPassing.{IsPassed, PassesNext}

module _ (home : Homes) where
  -- from the place k on, so many of them
  pub record Passing (rs : List Reg) (xs : List Var) (ps : List Passed) : Type 0 where
    pub are : ArePassed home rs xs ps
    pub many : length ps ≡ length xs

  -- one more behind those that there are
  more : (rs : List Reg) (xs : List Var) (ps : List Passed) (x : Var) (r : Reg) (p : Passed) → slice_get rs (length ps) ≡ Some r → IsPassed home x r p → ArePassed home rs xs ps → ArePassed home rs (xs ++ x ∷ []) (ps ++ p ∷ [])
  more [] xs ps x r p got is none_passed = absurd cc
  more (q ∷ rs) xs ps x r p got is none_passed = let e : q ≡ r = cc in one_passed is.size is.at is.span (is.reg ∙ sym e) none_passed
  more rs xs ps x r p got is (one_passed {rs = qs} {xs = ys} {ps = os} z at span reg next) = one_passed z at span reg (more qs ys os x r p got is next)

  pub passing_none : (rs : List Reg) (ps : List Passed) → ps ≡ [] → Passing rs [] ps
  passing_none rs ps e = subst (Passing rs []) (sym e) (record { are = none_passed; many = refl })

  pub passing_next : (rs : List Reg) (xs : List Var) (x : Var) (ps qs : List Passed) → PassesNext home rs x ps qs → Passing rs xs ps → Passing rs (xs ++ x ∷ []) qs
  passing_next rs xs x ps qs n h =
      subst (Passing rs (xs ++ x ∷ [])) (sym n.added)
      (record {
        are = more rs xs ps x n.reg n.passed n.next n.is h.are;
        many = length-append ps (n.passed ∷ []) ∙ ap (λ k. k + 1) h.many ∙ sym (length-append xs (x ∷ []));
      })

  pub param_next : (rs : List Reg) (params : List Param) (i : ℕ) (x : Param) (ps qs : List Passed) → i < length params → x ≡ get_or params i x → PassesNext home rs x.var ps qs → Passing rs (map (λ p. p.var) (take i params)) ps
      → Passing rs (map (λ p. p.var) (take (i + 1) params)) qs
  param_next rs params i x ps qs lt is n h =
      let more : take (i + 1) params ≡ take i params ++ x ∷ [] = take_more params i x lt ∙ ap (λ y. take i params ++ y ∷ []) (sym is) in
      let vars : map (λ (p : Param). p.var) (take (i + 1) params) ≡ map (λ (p : Param). p.var) (take i params) ++ x.var ∷ [] =
      ap (map (λ (p : Param). p.var)) more ∙ map-append (λ (p : Param). p.var) (take i params) (x ∷ []) in
      subst (λ l. Passing rs l qs) (sym vars) (passing_next rs (map (λ p. p.var) (take i params)) x.var ps qs n h)

  pub var_next : (rs : List Reg) (xs : List Var) (i : ℕ) (x : Var) (ps qs : List Passed) → i < length xs → x ≡ get_or xs i x → PassesNext home rs x ps qs → Passing rs (take i xs) ps → Passing rs (take (i + 1) xs) qs
  var_next rs xs i x ps qs lt is n h =
      let more : take (i + 1) xs ≡ take i xs ++ x ∷ [] = take_more xs i x lt ∙ ap (λ y. take i xs ++ y ∷ []) (sym is) in
      subst (λ l. Passing rs l qs) (sym more) (passing_next rs (take i xs) x ps qs n h)

  -- the next one can not be passed
  pub unpassed : (rs : List Reg) (xs : List Var) (ys zs : List Var) (x : Var) (ps : List Passed) (at : Span) → xs ≡ ys ++ (x ∷ zs) → Passing rs ys ps → CannotPass home rs (length ps) x → at ≡ (ref_of x).span → IsFirstUnpassed home rs xs at
  unpassed rs xs ys zs x ps at e h none is = record {
    front = ys;
    var = x;
    back = zs;
    split = e;
    passed = ps;
    before = h.are;
    none = subst (λ n. CannotPass home rs n x) h.many none;
    stands = sym is;
  }

  pub param_refused : (rs : List Reg) (params : List Param) (i : ℕ) (x : Param) (ps : List Passed) (at : Span) → i < length params → x ≡ get_or params i x → Passing rs (map (λ p. p.var) (take i params)) ps → CannotPass home rs (length ps) x.var → at ≡ (ref_of x.var).span
      → IsFirstUnpassed home rs (map (λ p. p.var) params) at
  param_refused rs params i x ps at lt is h none place =
      let whole : params ≡ take i params ++ (x ∷ drop (i + 1) params) = sym (take-append-drop i params) ∙ ap (λ l. take i params ++ l) (drop_more params i x lt ∙ ap (λ y. y ∷ drop (i + 1) params) (sym is)) in
      let vars : map (λ (p : Param). p.var) params ≡ map (λ (p : Param). p.var) (take i params) ++ (x.var ∷ map (λ (p : Param). p.var) (drop (i + 1) params)) =
      ap (map (λ (p : Param). p.var)) whole ∙ map-append (λ (p : Param). p.var) (take i params) (x ∷ drop (i + 1) params) in
      unpassed rs (map (λ (p : Param). p.var) params) (map (λ (p : Param). p.var) (take i params)) (map (λ (p : Param). p.var) (drop (i + 1) params)) x.var ps at vars h none place

  pub var_refused : (rs : List Reg) (xs : List Var) (i : ℕ) (x : Var) (ps : List Passed) (at : Span) → i < length xs → x ≡ get_or xs i x → Passing rs (take i xs) ps → CannotPass home rs (length ps) x → at ≡ (ref_of x).span → IsFirstUnpassed home rs xs at
  var_refused rs xs i x ps at lt is h none place =
      let whole : xs ≡ take i xs ++ (x ∷ drop (i + 1) xs) = sym (take-append-drop i xs) ∙ ap (λ l. take i xs ++ l) (drop_more xs i x lt ∙ ap (λ y. y ∷ drop (i + 1) xs) (sym is)) in
      unpassed rs xs (take i xs) (drop (i + 1) xs) x ps at whole h none place

  -- the next register is there, or it is not
  pub passes : (rs : List Reg) (x : Var) (before behind : List Passed) (r : Reg) (p : Passed) → slice_get rs (length before) ≡ Some r → IsPassed home x r p → behind ≡ before ++ p ∷ [] → PassesNext home rs x before behind
  passes rs x before behind r p next is added = record { reg = r; passed = p; next = next; is = is; added = added }

  pub none_left : (rs : List Reg) (x : Var) (n : ℕ) → slice_get rs n ≡ None → ((out-Var x).span ≡ (ref_of x).span) × CannotPass home rs n x
  none_left rs x n e = (sym (span_is x), inl e)

  -- what is no word in a variable
  pub no_scalar_word : (x : Var) → IsNoScalar (home (key_of (ref_of x))) → IsNoWord home x
  no_scalar_word x none n z h = subst IsNoScalar h none

  flag_word : (m n : ℕ) (z : Size) → ◌≡◌ {A = Option Home} (Some (in_flag m)) (Some (in_register n z)) → ⊥
  flag_word m n z e = absurd cc

  cell_word : (w i n : ℕ) (y z : Size) → ◌≡◌ {A = Option Home} (Some (in_cell w i y)) (Some (in_register n z)) → ⊥
  cell_word w i n y z e = absurd cc

  none_word : (n : ℕ) (z : Size) → ◌≡◌ {A = Option Home} None (Some (in_register n z)) → ⊥
  none_word n z e = absurd cc

  pub flag_no_word : (x : Var) (m : ℕ) → home (key_of (ref_of x)) ≡ scalar_home (Some (Flag m)) → IsNoWord home x
  flag_no_word x m e n z h = flag_word m n z (sym e ∙ h)

  pub slot_no_word : (x : Var) (w : ℕ) (y : Size) → home (key_of (ref_of x)) ≡ scalar_home (Some (Slot w y)) → IsNoWord home x
  slot_no_word x w y e n z h = cell_word w 0 n y z (sym e ∙ h)

  pub array_no_word : (x : Var) (w : ℕ) (y : Size) (m : ℕ) → home (key_of (ref_of x)) ≡ scalar_home (Some (Cells w y m)) → IsNoWord home x
  array_no_word x w y m e n z h = none_word n z (sym e ∙ h)

  pub params_passed : (rs : List Reg) (params : List Param) (i : ℕ) (ps : List Passed) → length params ≤ i → Passing rs (map (λ p. p.var) (take i params)) ps → ArePassed home rs (map (λ p. p.var) params) ps
  params_passed rs params i ps e h = subst (λ l. ArePassed home rs (map (λ p. p.var) l) ps) (take_all i params e) h.are

  pub vars_passed : (rs : List Reg) (xs : List Var) (i : ℕ) (ps : List Passed) → length xs ≤ i → Passing rs (take i xs) ps → ArePassed home rs xs ps
  vars_passed rs xs i ps e h = subst (λ l. ArePassed home rs l ps) (take_all i xs e) h.are
