-- The leaks of a tree fit its cases; and a leak is cut exactly where its run is.
use Rattle.std.proofs.Common.{◌≡◌, ℕ, Bool, true, false, List, [], sym, subst, if◌then◌else◌}
use Rattle.std.specs.Prelude.{Some, None, not}
use Rattle.std.proofs.lemmas.List.Elements.{All-nil, All-cons}
use Rattle.x64_insn.specs.declared.types.Insn.{Insn}
use Rattle.x64_insn.specs.declared.types.FaultKind.{FaultKind}
use Rattle.x64_insn.specs.Rows.{effect_of}
use Rattle.jz_leak.specs.declared.transformer.Out.TheVariants as out
use Rattle.jz_leak.specs.declared.transformer.Tr.{Tr}
use Rattle.jz_leak.specs.declared.transformer.Case.TheViews.{out-Case}
use Rattle.jz_leak.specs.declared.transformer.Case.TheVariants as case
use Rattle.jz_leak.specs.RunLeaks as leak
use Rattle.jz_leak.specs.RunLeaks.{Leak, Turns}
use Rattle.jz_leak.specs.Cuts.{IsWhole, AreWhole, IsBroken, AreBroken}
use Rattle.jz_leak.proofs.CutLaws.{whole_uncut, broken_cut, turns_uncut, turns_cut}
use Rattle.jz_runs.specs.Laws.{HoldsCut}
use Rattle.jz_runs.proofs.Held.{held, held_turns}
use Rattle.jz_leak.specs.Applying.{is_cut, is_cut_in_turns, OutFits, OutsFit, IfFits, WhileFits, CasesFit, TurnsFit}
use Rattle.jz_runs.specs.Trees.{Tree, op, choose, loop}
use Rattle.jz_runs.specs.Rules.{went, Parts, Outcome, End, Cut, Stuck, after, Goes, finished, did, did_not, quieted, chosen, chosen_cut, chosen_stuck, chose_not, loop_left, loop_cut, loop_stuck, counted, counted_cut, counted_stuck, counted_not, call_ended, call_cut, call_stuck, entered_not, left_not, Loops, in_prologue, prologue_stuck, tested_not, leaves_loop, no_turn, in_body, body_stuck, more_turns}
use Rattle.jz_placing.specs.Instructions.{Machine, does, Test, always, if_holds, tests, Code, instructions}
use Rattle.jz_linear.specs.Plain.{state_at, IsPlain, IsPlainTest, IsPlainCode}
use Rattle.jz_linear.specs.Lines.{outs_of, test_outs, jump_outs, cases_of}
use Rattle.jz_linear.proofs.PlainInsns.{shown_by}
use Rattle.jz_linear.proofs.Cases.{parts, out_if, out_while}
use Rattle.jz_linear.proofs.Follow.{did_so, answered_so}

-- ---- where a run is cut its leak is
abbrev pub CutTold : {S W L : Type 0} → (L → Bool) → Outcome S W L → Type 0
CutTold cut (End s n l) = cut l ≡ false
CutTold cut (Cut l) = cut l ≡ true
CutTold cut (Stuck w) = Unit {0}

told_of : {S W L : Type 0} (whole broken : L → Type 0) (cut : L → Bool) → ((l : L) → whole l → cut l ≡ false) → ((l : L) → broken l → cut l ≡ true) → (o : Outcome S W L) → HoldsCut whole broken o → CutTold cut o
told_of whole broken cut no_cut is_cut (End s n l) h = no_cut l h
told_of whole broken cut no_cut is_cut (Cut l) h = is_cut l h
told_of whole broken cut no_cut is_cut (Stuck w) h = tt

module _ {O T F C S W : Type 0} (M : Parts O T F C S W) where
  pub told : {t : Tree O T F C} {n : ℕ} {s : S} {o : Outcome S W Leak} → Goes M t n s o → CutTold is_cut o
  told {o} g = told_of IsWhole IsBroken is_cut whole_uncut broken_cut o (held M g)

  pub told_turns : {p : Tree O T F C} {c : T} {b : Tree O T F C} {n : ℕ} {s : S} {o : Outcome S W Turns} → Loops M p c b n s o → CutTold is_cut_in_turns o
  told_turns {o} g = told_of AreWhole AreBroken is_cut_in_turns turns_uncut turns_cut o (held_turns M g)

-- ---- leaks of a tree fit its cases
abbrev pub Fitting : {L : Type 0} → (L → Type 0) → Outcome Machine FaultKind L → Type 0
Fitting P (End s n l) = P l
Fitting P (Cut l) = P l
Fitting P (Stuck w) = Unit {0}

fitting_after : {L M : Type 0} (f : L → M) (P : L → Type 0) (Q : M → Type 0) → ((l : L) → P l → Q (f l)) → (o : Outcome Machine FaultKind L) → Fitting P o → Fitting Q (after f o)
fitting_after f P Q go (End s n l) h = go l h
fitting_after f P Q go (Cut l) h = go l h
fitting_after f P Q go (Stuck w) h = tt

insn_fits : (i : Insn) (s s1 : Machine) (ns : List ℕ) → IsPlain i → does i s ≡ went ns s1 → OutsFit ns (outs_of i)
insn_fits i s s1 ns plain e =
    let d = did_so (effect_of i 0 (state_at s 0) s.memory) ns s1 e in
    subst (λ n. OutsFit n (outs_of i)) d.2 (shown_by i 0 (state_at s 0) s.memory d.0 plain.0 d.1).fits

test_fits : (t : Test) (s : Machine) (ns : List ℕ) (z : Bool) → IsPlainTest t → tests t s ≡ went ns z → OutsFit ns (test_outs t)
test_fits always s ns z is e = All-nil (OutFits ns)
test_fits (if_holds None k) s ns z is e = All-nil (OutFits ns)
test_fits (if_holds (Some i) k) s ns z is e = let a = answered_so k (does i s) ns z e in insn_fits i s a.0 ns is a.1

jump_fits : (t : Test) (taken : Bool) (ns : List ℕ) → OutsFit ns (jump_outs t taken)
jump_fits always taken ns = All-nil (OutFits ns)
jump_fits (if_holds i k) taken ns = All-cons (OutFits ns) (out.Branch taken) [] tt (All-nil (OutFits ns))

arm_is : (z : Bool) (a b : Code) (l : Leak) → CasesFit l (cases_of (if z then a else b)) → CasesFit l (if z then cases_of a else cases_of b)
arm_is true a b l h = h
arm_is false a b l h = h

tr_is : (z : Bool) (a b : Tr) (l : Leak) → CasesFit l (if z then a.cases else b.cases) → CasesFit l (if z then a else b).cases
tr_is true a b l h = h
tr_is false a b l h = h

if_fits : (t : Test) (a b : Code) (s : Machine) (ns : List ℕ) (z : Bool) (l : Leak) → IsPlainTest t → tests t s ≡ went ns z → CasesFit l (cases_of (if z then a else b))
    → IfFits ns z (CasesFit l) (out-Case (case.If (test_outs t) (jump_outs t false) (record { cases = cases_of a }) (jump_outs t true) (record { cases = cases_of b })))
if_fits t a b s ns z l is e h =
    subst (IfFits ns z (CasesFit l)) (sym (out_if (test_outs t) (jump_outs t false) (jump_outs t true) (record { cases = cases_of a }) (record { cases = cases_of b })))
    (test_fits t s ns z is e, jump_fits t false ns, jump_fits t true ns, by_side z h)
  where
    by_side : (z : Bool) → CasesFit l (cases_of (if z then a else b)) → CasesFit l (if z then cases_of a else cases_of b)
    by_side true h = h
    by_side false h = h

while_fits : (p : Code) (t : Test) (q : Bool) (b : Code) (ts : Turns) → TurnsFit ts (parts p t q b)
    → WhileFits (TurnsFit ts) (out-Case (case.While (record { cases = cases_of p }) (test_outs t) (jump_outs t q) (record { cases = cases_of b }) (jump_outs t (not q))))
while_fits p t q b ts h = subst (WhileFits (TurnsFit ts)) (sym (out_while (record { cases = cases_of p }) (record { cases = cases_of b }) (test_outs t) (jump_outs t q) (jump_outs t (not q)))) h

arm_plain : (z : Bool) (a b : Code) → IsPlainCode a → IsPlainCode b → IsPlainCode (if z then a else b)
arm_plain true a b h g = h
arm_plain false a b h g = g

mutual
  pub fits : {t : Code} {n : ℕ} {s : Machine} {o : Outcome Machine FaultKind Leak} → Goes instructions t n s o → IsPlainCode t → Fitting (λ l. CasesFit l (cases_of t)) o
  fits finished is = tt
  fits {s} (did {o} {r} {s1} {ns} {w} q g) is = fitting_after (leak.ran ns) (λ l. CasesFit l (cases_of r)) (λ l. CasesFit l (cases_of (op o r))) (λ l h. (insn_fits o s s1 ns is.0 q, h)) w (fits g is.1)
  fits (did_not q) is = tt
  fits (quieted g) is = fits g is
  fits {s} (chosen {c = t} {a} {b} {r} {ns} {z} {l} {w} q g h) is =
      fitting_after (leak.chose ns z l) (λ x. CasesFit x (cases_of r)) (λ x. CasesFit x (cases_of (choose t a b r)))
      (λ x y. (told instructions g, if_fits t a b s ns z l is.0 q (fits g (arm_plain z a b is.2 is.3)), y)) w (fits h is.4)
  fits {s} (chosen_cut {c = t} {a} {b} {r} {ns} {z} {l} q g) is = (told instructions g, if_fits t a b s ns z l is.0 q (fits g (arm_plain z a b is.2 is.3)))
  fits (chosen_stuck q g) is = tt
  fits (chose_not q) is = tt
  fits (loop_left {q} {p} {c = t} {b} {r} {ts} {w} g h) is =
      fitting_after (leak.looped ts) (λ x. CasesFit x (cases_of r)) (λ x. CasesFit x (cases_of (loop q p t b r)))
      (λ x y. (told_turns instructions g, while_fits p t q b ts (turns_fit g q is.0 is.2 is.3), y)) w (fits h is.4)
  fits (loop_cut {q} {p} {c = t} {b} {ts} g) is = (told_turns instructions g, while_fits p t q b ts (turns_fit g q is.0 is.2 is.3))
  fits (loop_stuck g) is = tt
  fits (counted {f} q g h) is = absurd f
  fits (counted_cut {f} q g) is = absurd f
  fits (counted_stuck {f} q g) is = absurd f
  fits (counted_not {f} q) is = absurd f
  fits (call_ended {c = f} q g k h) is = absurd f
  fits (call_cut {c = f} q g) is = absurd f
  fits (call_stuck {c = f} q g) is = absurd f
  fits (entered_not {c = f} q) is = absurd f
  fits (left_not {c = f} q g k) is = absurd f

  turns_fit : {p : Code} {t : Test} {b : Code} {n : ℕ} {s : Machine} {o : Outcome Machine FaultKind Turns} → Loops instructions p t b n s o → (q : Bool) → IsPlainTest t → IsPlainCode p → IsPlainCode b → Fitting (λ ts. TurnsFit ts (parts p t q b)) o
  turns_fit (in_prologue g) q it ip ib = (told instructions g, fits g ip)
  turns_fit (prologue_stuck g) q it ip ib = tt
  turns_fit (tested_not g e) q it ip ib = tt
  turns_fit {t} (leaves_loop {s1} {ns} g e) q it ip ib = (told instructions g, (fits g ip, test_fits t s1 ns false it e, jump_fits t q ns, jump_fits t (not q) ns))
  turns_fit {t} (no_turn {s1} {ns} g e) q it ip ib = (told instructions g, (fits g ip, test_fits t s1 ns true it e, jump_fits t q ns, jump_fits t (not q) ns))
  turns_fit {t} (in_body {s1} {ns} g e k) q it ip ib = (told instructions g, (fits g ip, test_fits t s1 ns true it e, jump_fits t q ns, jump_fits t (not q) ns), told instructions k, fits k ib)
  turns_fit (body_stuck g e k) q it ip ib = tt
  turns_fit {p} {t} {b} (more_turns {s1} {ns} {l} {lb} {w} g e k i) q it ip ib =
      fitting_after (leak.turn l ns lb) (λ ts. TurnsFit ts (parts p t q b)) (λ ts. TurnsFit ts (parts p t q b))
      (λ ts y. (told instructions g, (fits g ip, test_fits t s1 ns true it e, jump_fits t q ns, jump_fits t (not q) ns), told instructions k, fits k ib, y)) w (turns_fit i q it ip ib)
