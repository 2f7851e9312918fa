-- What a change and the cases behind it are together: a list of events that suits its item, for each item of the change.
use Rattle.std.proofs.Common.{Bool, true, false, List, [], ◌∷◌, ◌++◌, All, sym, subst}
use Rattle.std.specs.Prelude.{if◌then◌else◌, map}
use Rattle.std.proofs.lemmas.List.Elements.{All-nil, All-cons, All-map}
use Rattle.jz_leak.specs.declared.transformer.Out.{Out}
use Rattle.jz_leak.specs.declared.transformer.Tr.{Tr}
use Rattle.jz_leak.specs.declared.transformer.Case.{Case}
use Rattle.jz_leak.specs.declared.transformer.Case.TheVariants.{Op}
use Rattle.jz_leak.specs.declared.transformer.Case.TheOpen.{Case-F}
use Rattle.jz_leak.specs.declared.transformer.Case.TheViews.{out-Case, roll-Case, out-roll-Case}
use Rattle.jz_leak.specs.Applying.{Layer}
use Rattle.jz_change.specs.declared.change.Numbers.{Numbers}
use Rattle.jz_change.specs.Changes.{Change, Changes}
use Rattle.jz_change.specs.Flattening.{outs_by, FrontOuts, first_outs, FlatCases, FlatRounds, tr_of, flat_arm, flat_if, flat_while, flat_once, flat_for, flat_first, flat, flat_rounds}
use Rattle.jz_case_names.specs.Items.{Items, no_item, if_item, while_item, for_item, AreFirst, no_ops, one_op, Gives, gives_none, gives_ops, gives_if, gives_arm, gives_while, gives_once, gives_for, gives_unrolled, gives_opened, GiveEach, give_none, give_more, IsBetween}
use Rattle.jz_case_names.specs.Listed.{IfAny, IfSuits, WhileSuits, ForSuits, CallSuits, AreCases, AreLeft}

any_of : (Has : List Case → Type 0) (cs : List Case) → Has cs → IfAny Has cs
any_of Has [] h = tt
any_of Has (c ∷ cs) h = h

module _ {A B : Type 0} (R : A → Numbers → B → Type 0) (S : A → List Out → Type 0) (T : B → List Out → Type 0)
    (nothing : (a : A) → S a []) (together : (a : A) (xs ys : List Out) → S a xs → S a ys → S a (xs ++ ys)) (by : (a : A) (i : Numbers) (b : B) (outs : List Out) → R a i b → T b outs → S a (outs_by i outs)) where
  -- ---- operations
  record Front (a : A) (Y2 : Items B) (f : FrontOuts) : Type 0 where
    outs : S a f.outs
    rest : AreCases T Y2 f.rest

  front : {a : A} {is : List Numbers} {Y Y2 : Items B} → AreFirst R a is Y Y2 → (cs : List Case) → AreCases T Y cs → Front a Y2 (first_outs is cs)
  front {a} no_ops cs h = record { outs = nothing a; rest = h }
  front (one_op x g) [] h = absurd h
  front {a} (one_op {i} {is} {b} x g) (Op outs ∷ cs) h =
      let r = front g cs h.1 in
      record { outs = together a (outs_by i outs) (first_outs is cs).outs (by a i b outs x h.0) r.outs; rest = r.rest }
  front (one_op x g) (_ ∷ cs) h = absurd h.0

  -- ---- one case
  pub record Flat (X : Items A) (Y2 : Items B) (f : FlatCases) : Type 0 where
    pub left : AreLeft S X f.cases
    pub rest : AreCases T Y2 f.rest

  abbrev Flats : Items A → Items B → Items B → (List Case → FlatCases) → Type 0
  Flats X Y Y2 f = (cs : List Case) → AreCases T Y cs → Flat X Y2 (f cs)

  if_left : (a : A) (b : B) (i : Numbers) (outs : List Out) (XA XB : Items A) (YA YB : Items B) (fa fb : List Case → FlatCases) (v : Layer) → R a i b → S a outs → Flats XA YA no_item fa → Flats XB YB no_item fb
      → IfSuits T b (AreCases T YA) (AreCases T YB) v → IfSuits S a (IfAny (AreLeft S XA)) (IfAny (AreLeft S XB)) (out-Case (flat_if outs i fa fb v))
  if_left a b i outs XA XB YA YB fa fb (Case-F.If test then_outs then_tr else_outs else_tr) x o ka kb h =
      subst (IfSuits S a (IfAny (AreLeft S XA)) (IfAny (AreLeft S XB)))
      (sym (out-roll-Case (Case-F.If (outs ++ outs_by i test) (outs_by i then_outs) (tr_of (fa then_tr.cases).cases) (outs_by i else_outs) (tr_of (fb else_tr.cases).cases)))) (
        together a outs (outs_by i test) o (by a i b test x h.0),
        by a i b then_outs x h.1,
        any_of (AreLeft S XA) (fa then_tr.cases).cases (ka then_tr.cases h.2).left,
        by a i b else_outs x h.3,
        any_of (AreLeft S XB) (fb else_tr.cases).cases (kb else_tr.cases h.4).left,
      )
  if_left a b i outs XA XB YA YB fa fb _ x o ka kb h = absurd h

  if_first : (a : A) (b : B) (i : Numbers) (outs : List Out) (XA XB X : Items A) (YA YB Y Y2 : Items B) (fa fb fr : List Case → FlatCases) (cs : List Case) → R a i b → S a outs → Flats XA YA no_item fa → Flats XB YB no_item fb → Flats X Y Y2 fr
      → AreCases T (if_item b YA YB Y) cs → Flat (if_item a XA XB X) Y2 (flat_first fr (flat_if outs i fa fb) cs)
  if_first a b i outs XA XB X YA YB Y Y2 fa fb fr [] x o ka kb kr h = absurd h
  if_first a b i outs XA XB X YA YB Y Y2 fa fb fr (c ∷ cs) x o ka kb kr h =
      let r = kr cs h.1 in
      record { left = (if_left a b i outs XA XB YA YB fa fb (out-Case c) x o ka kb h.0, r.left); rest = r.rest }

  while_left : (a : A) (b : B) (pre : List Numbers) (i : Numbers) (XP XB : Items A) (P P1 YB : Items B) (fp fb : List Case → FlatCases) (v : Layer) → R a i b → AreFirst R a pre P1 no_item → Flats XP P P1 fp → Flats XB YB no_item fb
      → WhileSuits T b (AreCases T P) (AreCases T YB) v → WhileSuits S a (AreLeft S XP) (IfAny (AreLeft S XB)) (out-Case (flat_while pre i fp fb v))
  while_left a b pre i XP XB P P1 YB fp fb (Case-F.While prologue test more_outs body leave_outs) x g kp kb h =
      let r = kp prologue.cases h.0 in
      let f = front g (fp prologue.cases).rest r.rest in
      let os = (first_outs pre (fp prologue.cases).rest).outs in
      subst (WhileSuits S a (AreLeft S XP) (IfAny (AreLeft S XB)))
      (sym (out-roll-Case (Case-F.While (tr_of (fp prologue.cases).cases) (os ++ outs_by i test) (outs_by i more_outs) (tr_of (fb body.cases).cases) (outs_by i leave_outs)))) (
        r.left,
        together a os (outs_by i test) f.outs (by a i b test x h.1),
        by a i b more_outs x h.2,
        any_of (AreLeft S XB) (fb body.cases).cases (kb body.cases h.3).left,
        by a i b leave_outs x h.4,
      )
  while_left a b pre i XP XB P P1 YB fp fb _ x g kp kb h = absurd h

  while_first : (a : A) (b : B) (pre : List Numbers) (i : Numbers) (XP XB X : Items A) (P P1 YB Y Y2 : Items B) (fp fb fr : List Case → FlatCases) (cs : List Case) → R a i b → AreFirst R a pre P1 no_item → Flats XP P P1 fp → Flats XB YB no_item fb → Flats X Y Y2 fr
      → AreCases T (while_item b P YB Y) cs → Flat (while_item a XP XB X) Y2 (flat_first fr (flat_while pre i fp fb) cs)
  while_first a b pre i XP XB X P P1 YB Y Y2 fp fb fr [] x g kp kb kr h = absurd h
  while_first a b pre i XP XB X P P1 YB Y Y2 fp fb fr (c ∷ cs) x g kp kb kr h =
      let r = kr cs h.1 in
      record { left = (while_left a b pre i XP XB P P1 YB fp fb (out-Case c) x g kp kb h.0, r.left); rest = r.rest }

  rounds_left : (XB : Items A) (YB : Items B) (fb : List Case → FlatCases) (trs : List Tr) → Flats XB YB no_item fb → All (λ (t : Tr). AreCases T YB t.cases) trs → All (λ (t : Tr). AreLeft S XB t.cases) (map (λ (t : Tr). tr_of (fb t.cases).cases) trs)
  rounds_left XB YB fb trs kb h = All-map (λ (t : Tr). AreLeft S XB t.cases) (λ (t : Tr). tr_of (fb t.cases).cases) trs (λ k d lt. (kb _ (h k d lt)).left)

  for_left : (XB : Items A) (YB : Items B) (fb : List Case → FlatCases) (v : Layer) → Flats XB YB no_item fb → ForSuits T (AreCases T YB) v → ForSuits S (AreLeft S XB) (out-Case (flat_for fb v))
  for_left XB YB fb (Case-F.For trs) kb h = subst (ForSuits S (AreLeft S XB)) (sym (out-roll-Case (Case-F.For (map (λ (t : Tr). tr_of (fb t.cases).cases) trs)))) (rounds_left XB YB fb trs kb h)
  for_left XB YB fb _ kb h = absurd h

  for_first : (XB X : Items A) (YB Y Y2 : Items B) (fb fr : List Case → FlatCases) (cs : List Case) → Flats XB YB no_item fb → Flats X Y Y2 fr → AreCases T (for_item YB Y) cs → Flat (for_item XB X) Y2 (flat_first fr (flat_for fb) cs)
  for_first XB X YB Y Y2 fb fr [] kb kr h = absurd h
  for_first XB X YB Y Y2 fb fr (c ∷ cs) kb kr h =
      let r = kr cs h.1 in
      record { left = (for_left XB YB fb (out-Case c) kb h.0, r.left); rest = r.rest }

  -- ---- what is pruned
  arm_left : (a : A) (z : Bool) (outs : List Out) (XA XB : Items A) (cs : List Case) → S a outs → AreLeft S (if z then XA else XB) cs → IfSuits S a (IfAny (AreLeft S XA)) (IfAny (AreLeft S XB)) (out-Case (roll-Case (flat_arm z outs cs)))
  arm_left a true outs XA XB cs o h =
      subst (IfSuits S a (IfAny (AreLeft S XA)) (IfAny (AreLeft S XB))) (sym (out-roll-Case (flat_arm true outs cs))) (o, nothing a, any_of (AreLeft S XA) cs h, nothing a, tt)
  arm_left a false outs XA XB cs o h =
      subst (IfSuits S a (IfAny (AreLeft S XA)) (IfAny (AreLeft S XB))) (sym (out-roll-Case (flat_arm false outs cs))) (o, nothing a, tt, nothing a, any_of (AreLeft S XB) cs h)

  once_left : (a : A) (outs : List Out) (XP XB : Items A) (cs : List Case) → S a outs → AreLeft S XP cs → WhileSuits S a (AreLeft S XP) (IfAny (AreLeft S XB)) (out-Case (roll-Case (flat_once outs cs)))
  once_left a outs XP XB cs o h = subst (WhileSuits S a (AreLeft S XP) (IfAny (AreLeft S XB))) (sym (out-roll-Case (flat_once outs cs))) (h, o, nothing a, tt, nothing a)

  -- ---- all of them
  record FlatEach (XB : Items A) (Y2 : Items B) (f : FlatRounds) : Type 0 where
    left : All (λ (t : Tr). AreLeft S XB t.cases) f.trs
    rest : AreCases T Y2 f.rest

  mutual
    pub flat_items : {k : Change} {X : Items A} {Y Y2 : Items B} → Gives R k X Y Y2 → (cs : List Case) → AreCases T Y cs → Flat X Y2 (flat k cs)
    flat_items gives_none cs h = record { left = tt; rest = h }
    flat_items (gives_ops {is} g n) cs h =
        let f = front g cs h in
        let r = flat_items n (first_outs is cs).rest f.rest in
        record { left = (f.outs, r.left); rest = r.rest }
    flat_items (gives_if {pre} {i} {ta} {tb} {r} {a} {b} {XA} {XB} {X} {YA} {YB} {Y1} {Y2} g x ga gb n) cs h =
        let f = front g cs h in
        if_first a b i (first_outs pre cs).outs XA XB X YA YB Y1 Y2 (flat ta) (flat tb) (flat r) (first_outs pre cs).rest x f.outs
        (λ ds d. flat_items ga ds d) (λ ds d. flat_items gb ds d) (λ ds d. flat_items n ds d) f.rest
    flat_items (gives_arm {z} {pre} {ta} {a} {XA} {XB} g ga n) cs h =
        let f = front g cs h in
        let s = flat_items ga (first_outs pre cs).rest f.rest in
        let m = flat ta (first_outs pre cs).rest in
        let r = flat_items n m.rest s.rest in
        record { left = (arm_left a z (first_outs pre cs).outs XA XB m.cases f.outs s.left, r.left); rest = r.rest }
    flat_items (gives_while {pre} {i} {tp} {tb} {r} {a} {b} {XP} {XB} {X} {P} {P1} {YB} {Y} {Y2} gp g x gb n) cs h =
        while_first a b pre i XP XB X P P1 YB Y Y2 (flat tp) (flat tb) (flat r) cs x g (λ ds d. flat_items gp ds d) (λ ds d. flat_items gb ds d) (λ ds d. flat_items n ds d) h
    flat_items (gives_once {pre} {tp} {a} {XP} {XB} gp g n) cs h =
        let s = flat_items gp cs h in
        let m = flat tp cs in
        let f = front g m.rest s.rest in
        let r = flat_items n (first_outs pre m.rest).rest f.rest in
        record { left = (once_left a (first_outs pre m.rest).outs XP XB m.cases f.outs s.left, r.left); rest = r.rest }
    flat_items (gives_for {tb} {r} {XB} {X} {YB} {Y} {Y2} gb n) cs h =
        for_first XB X YB Y Y2 (flat tb) (flat r) cs (λ ds d. flat_items gb ds d) (λ ds d. flat_items n ds d) h
    flat_items (gives_unrolled {ts} {XB} gr n) cs h =
        let s = flat_each gr cs h in
        let m = flat_rounds ts cs in
        let r = flat_items n m.rest s.rest in
        record { left = (subst (ForSuits S (AreLeft S XB)) (sym (out-roll-Case (Case-F.For m.trs))) s.left, r.left); rest = r.rest }
    flat_items (gives_opened {xs} {ys} {tb} {a} {XB} g1 gb g2 n) cs h =
        let f = front g1 cs h in
        let s = flat_items gb (first_outs xs cs).rest f.rest in
        let m = flat tb (first_outs xs cs).rest in
        let u = front g2 m.rest s.rest in
        let r = flat_items n (first_outs ys m.rest).rest u.rest in
        record {
          left = (subst (CallSuits S a (AreLeft S XB)) (sym (out-roll-Case (Case-F.Call (first_outs xs cs).outs (tr_of m.cases) (first_outs ys m.rest).outs))) (f.outs, s.left, u.outs), r.left);
          rest = r.rest;
        }

    flat_each : {ts : Changes} {XB : Items A} {Y Y2 : Items B} → GiveEach R ts XB Y Y2 → (cs : List Case) → AreCases T Y cs → FlatEach XB Y2 (flat_rounds ts cs)
    flat_each {XB} give_none cs h = record { left = All-nil (λ (t : Tr). AreLeft S XB t.cases); rest = h }
    flat_each {XB} (give_more {t} {ts} g gs) cs h =
        let s = flat_items g cs h in
        let m = flat t cs in
        let r = flat_each gs m.rest s.rest in
        record { left = All-cons (λ (w : Tr). AreLeft S XB w.cases) (tr_of m.cases) (flat_rounds ts m.rest).trs s.left r.left; rest = r.rest }

  -- of a whole body
  pub all_flat : {k : Change} {X : Items A} {Y : Items B} → IsBetween R X Y k → (cs : List Case) → AreCases T Y cs → AreLeft S X (flat k cs).cases
  all_flat g cs h = (flat_items g cs h).left
