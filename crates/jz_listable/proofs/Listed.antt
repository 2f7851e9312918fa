-- A compiled function of a text can be listed.
use Rattle.std.proofs.Common.{◌≡◌, List, [], ◌∷◌, map, sym, ◌∙◌, subst}
use Rattle.std.specs.Prelude.{All}
use Rattle.std.proofs.lemmas.List.Elements.{All-nil, All-cons, All-head, All-tail, All-contains}
use Rattle.x64_insn.specs.declared.types.Reg.{Reg}
use Rattle.jz_tree.specs.declared.expr.Var.{Var}
use Rattle.jz_tree.specs.declared.expr.Expr.TheViews.{out-Var}
use Rattle.jz_tree.specs.declared.program.Param.{Param}
use Rattle.jz_tree.specs.declared.program.Ret.{Ret}
use Rattle.jz_texts.proofs.Lists.{parted, unmapped}
use Rattle.jz_meaning.specs.Values.{ref_of}
use Rattle.jz_bodies.proofs.Refs.{ref_name}
use Rattle.jz_parse_laws.specs.Names.{IsCalled, HasNames}
use Rattle.jz_correct.specs.Registers.{argument_registers, result_registers}
use Rattle.jz_compiled.specs.Lines.{AreArgumentLines, AreResultLines}
use Rattle.jz_listing.specs.declared.compiled.Arg.{Arg}
use Rattle.jz_listing.specs.Listable.{IsName, IsListableArg, IsListablePre}
use Rattle.jz_listable.specs.Made.{CorrectIsListable}
use Rattle.jz_listable.proofs.Words.{identifier_named}
use Rattle.jz_listable.proofs.Stated.{preconditions_listable}
use Rattle.jz_listable.proofs.Secrets.{said_listable}

abbrev OfParam : Param → Type 0
OfParam q = IsCalled q.var

-- ---- lines
line_named : (v : Var) (a : Arg) → a.name ≡ (ref_of v).name → IsCalled v → IsListableArg a
line_named v a e h = subst IsName (sym (e ∙ ref_name v)) (identifier_named (out-Var v).name h)

arguments_named : (rs : List Reg) (ps : List Param) (args : List Arg) → All OfParam ps → AreArgumentLines rs ps args → All IsListableArg args
arguments_named rs [] [] h k = All-nil IsListableArg
arguments_named [] [] (a ∷ args) h k = absurd k
arguments_named (r ∷ rs) [] (a ∷ args) h k = absurd k
arguments_named [] (q ∷ ps) args h k = absurd k
arguments_named (r ∷ rs) (q ∷ ps) [] h k = absurd k
arguments_named (r ∷ rs) (q ∷ ps) (a ∷ args) h k =
    All-cons IsListableArg a args (line_named q.var a k.0.0 (All-head OfParam q ps h)) (arguments_named rs ps args (All-tail OfParam q ps h) k.1)

results_named : (rs : List Reg) (vs : List Var) (ts : List Ret) (args : List Arg) → All IsCalled vs → AreResultLines rs vs ts args → All IsListableArg args
results_named rs vs ts [] h k = All-nil IsListableArg
results_named [] [] [] (a ∷ args) h k = absurd k
results_named (r ∷ rs) [] [] (a ∷ args) h k = absurd k
results_named [] [] (t ∷ ts) (a ∷ args) h k = absurd k
results_named (r ∷ rs) [] (t ∷ ts) (a ∷ args) h k = absurd k
results_named [] (v ∷ vs) ts (a ∷ args) h k = absurd k
results_named (r ∷ rs) (v ∷ vs) [] (a ∷ args) h k = absurd k
results_named (r ∷ rs) (v ∷ vs) (t ∷ ts) (a ∷ args) h k =
    All-cons IsListableArg a args (line_named v a k.0.0 (All-head IsCalled v vs h)) (results_named rs vs ts args (All-tail IsCalled v vs h) k.1)

-- ---- functions
pub correct_listable : CorrectIsListable
correct_listable p f g k count c names x correct sizes =
    let made = correct.compilation in
    let own = All-contains HasNames p.funs f names.funs x.there in
    let params = unmapped IsCalled (λ (q : Param). q.var) f.params (parted IsCalled (map (λ (q : Param). q.var) f.params) f.vars own.declared).0 in
    record {
      name = subst IsName (sym made.name) (identifier_named f.name own.name);
      args = arguments_named argument_registers f.params c.args params made.args;
      rets = results_named result_registers f.result f.rets c.rets own.used.1 made.rets;
      pre = subst (All IsListablePre) (sym made.pre) (preconditions_listable f);
      frame = sizes.frame;
      insns = sizes.insns;
      code = sizes.code;
      tr = sizes.tr;
      ct = said_listable p f g k count names x c.ct correct.ct sizes.place;
    }
