-- A program that is read has the names of its text.
use Rattle.std.proofs.Common.{ℕ, List, map, sym, subst}
use Rattle.std.specs.Prelude.{All}
use Rattle.std.proofs.lemmas.List.Elements.{All-append, All-map, All-weaker}
use Rattle.jz_lex.specs.declared.token.Token.{Token}
use Rattle.jz_lex.specs.Identifiers.{IsIdentifier}
use Rattle.jz_lex.proofs.Identifiers.{tokens_spelled}
use Rattle.jz_tree.specs.declared.program.Fun.{Fun}
use Rattle.jz_tree.specs.declared.program.Program.{Program}
use Rattle.jz_parse.specs.Deriving.{most_nested, DerivesProgram}
use Rattle.jz_type_names.specs.Parts.{layer_of, statements_of, called_by}
use Rattle.jz_types.specs.Carried.{used_by}
use Rattle.jz_parse_laws.specs.Names.{IsCalled, IsNamed, HasNames, NamesLaw}
use Rattle.jz_parse_laws.specs.Setting.{SetsOrCalls, SettingLaw}
use Rattle.jz_parse_laws.proofs.Phrases.{Named, all_named}
use Rattle.jz_parse_laws.proofs.Bodies.{One}
use Rattle.jz_parse_laws.proofs.Functions.{OfFun, OfProgram, program}

of_tokens : (N : List ℕ → Type 0) (tokens : List Token) (p : Program) → DerivesProgram tokens p → All (Named N) tokens → OfProgram N p
of_tokens N tokens p h n = program N most_nested h.0 p (all_named N h.0 (subst (All (Named N)) (sym h.2) n)) h.1

-- ---- names
fun_named : (f : Fun) → OfFun IsIdentifier f → HasNames f
fun_named f h =
    record {
      name = h.name;
      declared = All-append IsCalled (map (λ p. p.var) f.params) f.vars (All-map IsCalled (λ p. p.var) f.params h.params) h.vars;
      used = (All-weaker (One IsIdentifier) (λ s. All IsCalled (used_by (layer_of s))) (λ s o. o.used) (statements_of f.body) h.body, h.result);
      called = All-weaker (One IsIdentifier) (λ s. All IsNamed (called_by (layer_of s))) (λ s o. o.called) (statements_of f.body) h.body;
    }

pub read_named : NamesLaw
read_named text tokens p lexed h =
    let d = of_tokens IsIdentifier tokens p h (tokens_spelled text tokens lexed) in
    record { consts = d.0; funs = All-weaker (OfFun IsIdentifier) HasNames fun_named p.funs d.1 }

-- ---- what is set
abbrev Any : List ℕ → Type 0
Any s = Unit {0}

pub read_set : SettingLaw
read_set tokens p h =
    All-weaker (OfFun Any) (λ f. All (λ s. SetsOrCalls (layer_of s)) (statements_of f.body))
    (λ f d. All-weaker (One Any) (λ s. SetsOrCalls (layer_of s)) (λ s o. o.sets) (statements_of f.body) d.body) p.funs
    (of_tokens Any tokens p h (λ k d lt s e. tt)).1
