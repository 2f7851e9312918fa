-- The cases of a function over variables, behind the changes before it.
use Rattle.std.proofs.Common.{◌≡◌, ℕ, ◌+◌, ◌*◌, ◌<◌, ◌≤◌, ◌^◌, Bool, true, false, not, List, [], ◌∷◌, ◌++◌, refl, sym, ap, ◌∙◌, subst, arith, ℤ, pos, negsuc, ◌+ℤ◌, ◌-ℤ◌, ◌≤ℤ◌, ◌<ℤ◌}
use Rattle.std.specs.Prelude.{All, Contains, slice_index_or}
use Rattle.std.proofs.lemmas.Int.{ints}
use Rattle.std.proofs.lemmas.List.Elements.{All-nil, All-cons, All-append, All-map, All-weaker, All-contains}
use Rattle.jz_words.specs.declared.size.Size.TheVariants.{S64}
use Rattle.jz_words.specs.Sizes.{bytes_of, signed, half}
use Rattle.jz_words.specs.Words.{residue}
use Rattle.jz_words.proofs.Residues.{signed_of_residue}
use Rattle.jz_leak.specs.declared.transformer.Form.{Form}
use Rattle.jz_leak.specs.declared.transformer.Form.TheVariants as form
use Rattle.jz_leak.specs.declared.transformer.Out.{Out}
use Rattle.jz_leak.specs.declared.transformer.Out.TheVariants as out
use Rattle.jz_leak.specs.declared.transformer.Case.{Case}
use Rattle.jz_leak.specs.declared.transformer.Case.TheVariants as case
use Rattle.jz_leak.specs.declared.transformer.Case.TheOpen.{Case-F}
use Rattle.jz_leak.specs.declared.transformer.Case.TheViews.{out-Case, out-roll-Case}
use Rattle.jz_runs.specs.Trees.{done, op, quiet, choose, loop, each, call}
use Rattle.jz_meaning.specs.Statements.{Block}
use Rattle.jz_placing.specs.Variables.{Asked, always, asks, Body}
use Rattle.jz_change.specs.declared.change.Number.{Number}
use Rattle.jz_change.specs.declared.change.Number.TheVariants.{Fixed, Nth}
use Rattle.jz_change.specs.declared.change.Numbers.{Numbers}
use Rattle.jz_change.specs.declared.change.Numbers.TheVariants.{Same, These}
use Rattle.jz_change.specs.Changes.{Change}
use Rattle.jz_change.specs.Composing.{numbers_by, compose_of}
use Rattle.jz_change.specs.Flattening.{form_of, indexed_form, form_by, out_by, outs_by, tr_of, flat}
use Rattle.jz_homes.specs.Homes.{Homes}
use Rattle.jz_every_row.specs.Bodies.{lowering, without_marks, IsLowered}
use Rattle.jz_events.specs.Outs.{operation_outs, asked_outs}
use Rattle.jz_events.specs.Cases.{jump_outs, if_case, while_case, cases_over}
use Rattle.jz_compiled.specs.Layout.{Name, Place}
use Rattle.jz_compiled.specs.Showing.{LiesInPlace, FormStaysIn, OutStaysIn, OutsStayIn}
use Rattle.jz_case_names.specs.Items.{Items, no_item, op_item, if_item, while_item, items_before, items_of, IsBetween}
use Rattle.jz_case_names.specs.Listed.{IfSuits, WhileSuits, AreCases, AreLeft}
use Rattle.jz_case_names.proofs.Composition.{between_both}
use Rattle.jz_case_names.proofs.Unrolled.{unrolled_items}
use Rattle.jz_case_names.proofs.Flat.{all_flat}
use Rattle.jz_item_names.specs.Names.{plain, IsLeaked, AreLeaked, NamesOf}
use Rattle.jz_item_names.proofs.Numbers.{number_at, leaked_both}
use Rattle.jz_lowering_cases.specs.Staying.{shown_of, Shows, ArePlaced, OperationInside, TestInside, HasCellsInside, IsSmall, IsListOf, the_list, no_jump, a_jump}
use Rattle.jz_lowering_cases.proofs.Rules.{lowering_rule}

-- ---- marks have no items
same_item : (f : Items (List Out) → Items (List Out) → Items (List Out) → Items (List Out)) {x y z x' y' z' : Items (List Out)} → x ≡ x' → y ≡ y' → z ≡ z' → f x y z ≡ f x' y' z'
same_item f p q r = λ i. f (p i) (q i) (r i)

unmarked : (slots : ℕ → ℕ) (size : ℕ) (u : Body) (Y : Items (List Out)) → items_before (shown_of slots size) (without_marks u) Y ≡ items_before (shown_of slots size) u Y
unmarked slots size done Y = refl
unmarked slots size (op o r) Y = ap (op_item (operation_outs slots size o.action)) (unmarked slots size r Y)
unmarked slots size (quiet o r) Y = unmarked slots size r Y
unmarked slots size (choose c a b r) Y =
    same_item (if_item (asked_outs slots size c)) (unmarked slots size a no_item) (unmarked slots size b no_item) (unmarked slots size r Y)
unmarked slots size (loop q p c b r) Y =
    same_item (while_item (asked_outs slots size c)) (unmarked slots size p no_item) (unmarked slots size b no_item) (unmarked slots size r Y)
unmarked slots size (each f b r) Y = absurd f
unmarked slots size (call c b r) Y = absurd c

-- ---- the cases of a body
module _ (slots : ℕ → ℕ) (size : ℕ) where
  abbrev K : List Out → List Out → Type 0
  K = IsListOf

  jumps : (b : List Out) (c : Asked) (taken : Bool) → IsListOf b (jump_outs c taken)
  jumps b always taken = no_jump refl
  jumps b (asks o k) taken = a_jump taken refl

  module _ (c : Asked) (A B : List Case → Type 0) (a b : List Case) (ha : A a) (hb : B b) where
    if_is : IfSuits K (asked_outs slots size c) A B (out-Case (if_case slots size c a b))
    if_is =
        let v = Case-F.If (asked_outs slots size c) (jump_outs c false) (tr_of a) (jump_outs c true) (tr_of b) in
        subst (λ x. IfSuits K (asked_outs slots size c) A B (out-Case x)) (case.rolls-If (asked_outs slots size c) (jump_outs c false) (tr_of a) (jump_outs c true) (tr_of b))
        (subst (IfSuits K (asked_outs slots size c) A B) (sym (out-roll-Case v)) (the_list refl, jumps (asked_outs slots size c) c false, ha, jumps (asked_outs slots size c) c true, hb))

    while_is : (q : Bool) → WhileSuits K (asked_outs slots size c) A B (out-Case (while_case slots size q a c b))
    while_is q =
        let v = Case-F.While (tr_of a) (asked_outs slots size c) (jump_outs c q) (tr_of b) (jump_outs c (not q)) in
        subst (λ x. WhileSuits K (asked_outs slots size c) A B (out-Case x)) (case.rolls-While (tr_of a) (asked_outs slots size c) (jump_outs c q) (tr_of b) (jump_outs c (not q)))
        (subst (WhileSuits K (asked_outs slots size c) A B) (sym (out-roll-Case v)) (ha, the_list refl, jumps (asked_outs slots size c) c q, hb, jumps (asked_outs slots size c) c (not q)))

  cases_are : (u : Body) → AreCases K (items_of (shown_of slots size) u) (cases_over slots size u)
  cases_are done = tt
  cases_are (op o r) = (the_list refl, cases_are r)
  cases_are (quiet o r) = cases_are r
  cases_are (choose c a b r) =
      (if_is c (AreCases K (items_of (shown_of slots size) a)) (AreCases K (items_of (shown_of slots size) b)) (cases_over slots size a) (cases_over slots size b) (cases_are a) (cases_are b), cases_are r)
  cases_are (loop q p c b r) =
      (while_is c (AreCases K (items_of (shown_of slots size) p)) (AreCases K (items_of (shown_of slots size) b)) (cases_over slots size p) (cases_over slots size b) (cases_are p) (cases_are b) q, cases_are r)
  cases_are (each f b r) = absurd f
  cases_are (call c b r) = absurd c

-- ---- numbers of another item
not_low : (n m : ℕ) → (pos 0 -ℤ pos m) ≤ℤ pos n
not_low n m = omega (arith, ints)

low : (n m : ℕ) → n + 1 ≤ m → (pos 0 -ℤ pos m) ≤ℤ negsuc n
low n m le = omega (arith, ints, le)

high : (n m : ℕ) → n < m → pos n <ℤ pos m
high n m lt = omega (arith, ints, lt)

not_high : (n m : ℕ) → negsuc n <ℤ pos m
not_high n m = omega (arith, ints)

module _ (places : List Place) (size : ℕ) (small : IsSmall places size) where
  -- an offset that lies in a place is a signed number of 64 bits
  low_enough : (o s : ℕ) (x : ℤ) → s ≤ 2 ^ 32 → (pos o -ℤ pos s) ≤ℤ x → (pos 0 -ℤ pos (half S64)) ≤ℤ x
  low_enough o s (pos n) h l = not_low n (half S64)
  low_enough o s (negsuc n) h l = let le : n + 1 + o ≤ s = omega (arith, ints, l) in low n (half S64) (omega (arith, le, h))

  high_enough : (e s : ℕ) (x : ℤ) → e ≤ 2 ^ 32 → x <ℤ (pos e -ℤ pos s) → x <ℤ pos (half S64)
  high_enough e s (pos n) h l = let lt : n + s < e = omega (arith, ints, l) in high n (half S64) (omega (arith, lt, h))
  high_enough e s (negsuc n) h l = not_high n (half S64)

  stays_itself : (names : List Name) (x : ℤ) → LiesInPlace places size names x → signed S64 (residue S64 x) ≡ x
  stays_itself names x h =
      let q = h.0 in
      let within = All-contains (λ (p : Place). p.offset + p.of.count * bytes_of p.of.cell ≤ 2 ^ 32) places q small.ends h.1 in
      signed_of_residue S64 x (low_enough q.offset size x small.size h.3) (high_enough (q.offset + q.of.count * bytes_of q.of.cell) size x within h.4)

  module _ (a : List Name) where
    -- a scaled number that is not there
    not_there : (o : ℤ) (s n : ℕ) → n ≡ 0 → LiesInPlace places size a o → LiesInPlace places size a (signed S64 (residue S64 (pos (s * n) +ℤ o)))
    not_there o s n e h =
        subst (LiesInPlace places size a)
        (sym (ap (λ m. signed S64 (residue S64 (pos (s * m) +ℤ o))) e ∙ ap (λ z. signed S64 (residue S64 z)) (nothing_more s o) ∙ stays_itself a o h)) h
      where
        nothing_more : (s : ℕ) (o : ℤ) → (pos (s * 0) +ℤ o) ≡ o
        nothing_more s o = omega (arith, ints)

    number_stays : (x : Number) → FormStaysIn places size a (form_of x)
    number_stays (Fixed n) = tt
    number_stays (Nth i) = tt

    indexed_stays : (o : ℤ) (s : ℕ) (x : Number) → IsLeaked x → LiesInPlace places size a o → FormStaysIn places size a (indexed_form o s x)
    indexed_stays o s (Fixed n) e h = not_there o s n e h
    indexed_stays o s (Nth i) e h = h

    module _ (xs : List Number) (leaked : All IsLeaked xs) where
      form_stays : (f : Form) → FormStaysIn places size a f → FormStaysIn places size a (form_by xs f)
      form_stays (form.Num n) h = tt
      form_stays (form.Leaked i) h = number_stays (slice_index_or xs i (Fixed 0))
      form_stays (form.Frame o) h = h
      form_stays (form.Indexed o s i) h = indexed_stays o s (slice_index_or xs i (Fixed 0)) (number_at xs i leaked) h

      out_stays : (o : Out) → OutStaysIn places size a o → OutStaysIn places size a (out_by xs o)
      out_stays (out.Branch taken) h = tt
      out_stays (out.Addr f) h = form_stays f h
      out_stays (out.Div x y z) h = (form_stays x h.0, form_stays y h.1, form_stays z h.2)

    outs_stay : (i : Numbers) (outs : List Out) → AreLeaked i → OutsStayIn places size a outs → OutsStayIn places size a (outs_by i outs)
    outs_stay Same outs e h = h
    outs_stay (These xs) outs e h = All-map (OutStaysIn places size a) (out_by xs) outs (λ k d lt. out_stays xs e _ (h k d lt))

  -- ---- fewer names
  lies_more : (a b : List Name) (o : ℤ) → All (Contains a) b → LiesInPlace places size b o → LiesInPlace places size a o
  lies_more a b o f h = (h.0, h.1, All-contains (Contains a) b h.0.of.name f h.2, h.3, h.4)

  form_more : (a b : List Name) (x : Form) → All (Contains a) b → FormStaysIn places size b x → FormStaysIn places size a x
  form_more a b (form.Num n) f h = tt
  form_more a b (form.Leaked i) f h = tt
  form_more a b (form.Frame o) f h = lies_more a b o f h
  form_more a b (form.Indexed o s i) f h = lies_more a b o f h

  out_more : (a b : List Name) (x : Out) → All (Contains a) b → OutStaysIn places size b x → OutStaysIn places size a x
  out_more a b (out.Branch taken) f h = tt
  out_more a b (out.Addr x) f h = form_more a b x f h
  out_more a b (out.Div x y z) f h = (form_more a b x f h.0, form_more a b y f h.1, form_more a b z f h.2)

  outs_more : (a b : List Name) (outs : List Out) → All (Contains a) b → OutsStayIn places size b outs → OutsStayIn places size a outs
  outs_more a b outs f h = All-weaker (OutStaysIn places size b) (OutStaysIn places size a) (λ x k. out_more a b x f k) outs h

  -- the names of an item, and then what its operations show
  names_show : (a b : List Name) (outs : List Out) (i j : Numbers) → NamesOf a i b → Shows places size b j outs → Shows places size a (numbers_by i j) outs
  names_show a b outs i j h g = record { stays = outs_more a b outs h.among g.stays; leaked = leaked_both i j h.leaked g.leaked }

  no_outs : (a : List Name) → OutsStayIn places size a []
  no_outs a = All-nil (OutStaysIn places size a)

  more_outs : (a : List Name) (xs ys : List Out) → OutsStayIn places size a xs → OutsStayIn places size a ys → OutsStayIn places size a (xs ++ ys)
  more_outs a xs ys h g = All-append (OutStaysIn places size a) xs ys h g

  one_branch : (a : List Name) (taken : Bool) → OutsStayIn places size a (out.Branch taken ∷ [])
  one_branch a taken = All-cons (OutStaysIn places size a) (out.Branch taken) [] tt (All-nil (OutStaysIn places size a))

  listed_stays : (a : List Name) (i : Numbers) (b outs : List Out) → Shows places size a i b → IsListOf b outs → OutsStayIn places size a (outs_by i outs)
  listed_stays a i b outs h (the_list e) = subst (λ os. OutsStayIn places size a (outs_by i os)) (sym e) (outs_stay a i b h.leaked h.stays)
  listed_stays a i b outs h (no_jump e) = subst (λ os. OutsStayIn places size a (outs_by i os)) (sym e) (outs_stay a i [] h.leaked (no_outs a))
  listed_stays a i b outs h (a_jump taken e) = subst (λ os. OutsStayIn places size a (outs_by i os)) (sym e) (outs_stay a i (out.Branch taken ∷ []) h.leaked (one_branch a taken))

  -- ---- the whole
  module _ (home : Homes) (slots : ℕ → ℕ) (placed : ArePlaced home places slots) (b : Block) (u : Body) (first second : Change) (X : Items (List Name)) (inside : HasCellsInside home b) (lowered : IsLowered home b u second) (named : IsBetween NamesOf X (items_of plain b) first) where
    shown : IsBetween (Shows places size) (items_of plain b) (items_of (shown_of slots size) u) second
    shown =
        subst (λ Y. IsBetween (Shows places size) (items_of plain b) Y second)
        (sym (ap (items_of (shown_of slots size)) lowered.body ∙ unmarked slots size lowered.marked no_item))
        (unrolled_items (lowering home) (OperationInside home) (TestInside home) (Shows places size) plain (shown_of slots size) (lowering_rule home places slots size placed small) no_item inside lowered.made)

    both : IsBetween (Shows places size) X (items_of (shown_of slots size) u) (compose_of first second)
    both = between_both NamesOf (Shows places size) (Shows places size) (λ a c outs i j h g. names_show a c outs i j h g) named shown

    pub stay : AreLeft (OutsStayIn places size) X (flat (compose_of first second) (cases_over slots size u)).cases
    stay = all_flat (Shows places size) (OutsStayIn places size) IsListOf no_outs more_outs listed_stays both (cases_over slots size u) (cases_are slots size u)
