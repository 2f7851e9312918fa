-- The functions of a text for which constant time is answered with a line for each.
use Rattle.std.proofs.Common.{◌≡◌, ℕ, Bool, true, false, List, [], ◌∷◌, refl, sym, ◌∙◌, subst}
use Rattle.std.specs.Prelude.{All, Contains}
use Rattle.std.proofs.lemmas.Bool.{false≢true}
use Rattle.std.proofs.lemmas.List.Elements.{All-nil, All-cons, All-contains}
use Rattle.jz_tree.specs.declared.program.Fun.{Fun}
use Rattle.jz_tree.specs.declared.program.Program.{Program}
use Rattle.jz_type_rows.specs.Exports.{is_exported}
use Rattle.jz_runs.specs.Rules.{End, Cut, Stuck}
use Rattle.jz_meaning.specs.declared.value.Stuck.{Stuck as Reason}
use Rattle.jz_meaning.specs.Runs.{FunOutcome, IsRun}
use Rattle.jz_constant_leaks.specs.SafeExpansions.{IsExpandedExport}
use Rattle.jz_checked.specs.CheckedLaws.{IsNeverStuck}
use Rattle.jz_checked.proofs.Whole.{checked_never}
use Rattle.jasminc_source.proofs.Causing.{types_one, text_typed}
use Rattle.jasminc_check.specs.Answers as safety
use Rattle.jasminc_ct.specs.Answers.{Gives}
use Rattle.jasminc_ct.specs.Judging.{IsConstant, ConstantIfExported, YesLine, AreConstant}
use Rattle.jasminc_expansions.proofs.Typing.{text_text}
use Rattle.jz_constant_leaks.specs.ConstantLeaks.{LeakAlike}
use Rattle.jz_constant_leaks.proofs.Alike.{expansions_same, functions_alike}
use Rattle.jz_judged.specs.JudgedLaws.{BothLeakAlike, InputsLeakAlike, LeaksNothingSecret, InputsLeakNothingSecret, JudgedLeakNothingSecret, CheckedLeakNothingSecret}

-- ---- each function of a text

module _ (p : Program) where
  each_constant : (fs : List Fun) (text : List ℕ) → AreConstant p fs text → All (ConstantIfExported p) fs
  each_constant [] text h = All-nil (ConstantIfExported p)
  each_constant (f ∷ fs) text h = by (is_exported f.kind) refl h (λ rest. each_constant fs rest)
    where
      by : (b : Bool) → is_exported f.kind ≡ b → YesLine b p f (AreConstant p fs) text → ((rest : List ℕ) → AreConstant p fs rest → All (ConstantIfExported p) fs) → All (ConstantIfExported p) (f ∷ fs)
      by true e (s, rest, q, r) on = All-cons (ConstantIfExported p) f fs (λ x. s) (on rest r)
      by false e r on = All-cons (ConstantIfExported p) f fs (λ x. absurd (false≢true (sym e ∙ x))) (on text r)

module _ (text output : List ℕ) (g : Gives text output) (f : Fun) (has : Contains g.program.funs f) (exported : is_exported f.kind ≡ true) where
  judged : IsConstant g.program f
  judged = All-contains (ConstantIfExported g.program) g.program.funs f (each_constant g.program g.program.funs output g.constant) has exported

  is_export : IsExpandedExport g.program f judged.expanded judged.change judged.count
  is_export = record {
    typed = text_typed text g.program g.types;
    text = text_text text g.program g.types;
    there = has;
    exported = exported;
    expansion = judged.expansion;
  }

  alike : LeaksNothingSecret g.program f
  alike = record {
    expanded = judged.expanded;
    change = judged.change;
    count = judged.count;
    expansion = judged.expansion;
    expansions = expansions_same g.program f judged.expanded judged.change judged.count is_export judged.constant;
    sources = functions_alike g.program f judged.expanded judged.change judged.count is_export judged.constant;
  }

  -- ---- where no input is stuck

  module _ (safe : List ℕ) (h : safety.Gives text safe) where
    never : IsNeverStuck g.program f
    never =
        subst (λ (q : Program). Contains q.funs f → IsNeverStuck q f) (types_one text h.program g.program h.types g.types)
        (λ there. checked_never text safe h f there exported) has

    strict : (o q : FunOutcome) → ((w : Reason) → o ≡ Stuck w → ⊥) → ((w : Reason) → q ≡ Stuck w → ⊥) → LeakAlike judged.change o q → BothLeakAlike judged.change o q
    strict (End r n l) (End s m j) a b e = e
    strict (End r n l) (Cut j) a b e = e
    strict (End r n l) (Stuck v) a b e = absurd (b v refl)
    strict (Cut l) (End s m j) a b e = e
    strict (Cut l) (Cut j) a b e = e
    strict (Cut l) (Stuck v) a b e = absurd (b v refl)
    strict (Stuck w) q a b e = absurd (a w refl)

    inputs : InputsLeakAlike g.program f judged.change
    inputs words others values ours memory other meets meet are were equal n o q a b =
        strict o q
        (λ w e. never words values memory n w meets are (subst (λ (y : FunOutcome). IsRun g.program f values memory n y) e a))
        (λ w e. never others ours other n w meet were (subst (λ (y : FunOutcome). IsRun g.program f ours other n y) e b))
        (functions_alike g.program f judged.expanded judged.change judged.count is_export judged.constant (record { words = values; memory = memory }) (record { words = ours; memory = other }) meets.bytes meet.bytes equal n o q a b)

    alike_too : InputsLeakNothingSecret g.program f
    alike_too = record {
      expanded = judged.expanded;
      change = judged.change;
      count = judged.count;
      expansion = judged.expansion;
      inputs = inputs;
    }

pub judged_alike : JudgedLeakNothingSecret
judged_alike text output g f has exported = alike text output g f has exported

pub checked_alike : CheckedLeakNothingSecret
checked_alike text output safe g h f has exported = alike_too text output g f has exported safe h
