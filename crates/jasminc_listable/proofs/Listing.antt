-- Each function that is made of a text can be listed.
use Rattle.std.proofs.Common.{ℕ, List, [], ◌∷◌, sym, subst}
use Rattle.std.specs.Prelude.{All}
use Rattle.std.specs.List.{AllZip}
use Rattle.std.proofs.lemmas.List.Elements.{All-nil, All-cons, All-head, All-tail}
use Rattle.jz_tree.specs.declared.program.Fun.{Fun}
use Rattle.jz_tree.specs.declared.program.Program.{Program}
use Rattle.jz_parse.specs.Reading.{Reads}
use Rattle.jz_parse_laws.specs.Names.{AreNamed}
use Rattle.jz_parse_laws.proofs.Reading.{read_named}
use Rattle.jz_parse_laws.proofs.Resolved.{stay_named}
use Rattle.jz_listing.specs.declared.compiled.Compiled.{Compiled}
use Rattle.jz_listing.specs.Listable.{IsListable, AreListable}
use Rattle.jz_listable.specs.Sizes.{HasSizes}
use Rattle.jz_listable.proofs.Listed.{correct_listable}
use Rattle.jasminc_source.specs.Texts.{TypesAs}
use Rattle.jasminc_compile.specs.Making.{IsMade}
use Rattle.jasminc_compile.specs.SafeFunctions.{exports_of}
use Rattle.jasminc_listable.specs.CanBeListed.{CanBeListed}

written_named : (text : List ℕ) (p : Program) → Reads text p → AreNamed p
unfolding Reads
written_named text p h = read_named text h.0 p h.1 h.2

typed_named : (text : List ℕ) (p : Program) → TypesAs text p → AreNamed p
typed_named text p h = subst AreNamed (sym h.is) (stay_named h.written (written_named text h.written h.reads))

module _ (p : Program) (names : AreNamed p) where
  one_listable : (f : Fun) (c : Compiled) → IsMade p f c → HasSizes c → IsListable c
  one_listable f c m sizes = correct_listable p f m.expanded m.change m.count c names m.from m.correct sizes

  all_listable : (fs : List Fun) (cs : List Compiled) → AllZip (IsMade p) fs cs → All HasSizes cs → AreListable cs
  all_listable [] [] h sizes = All-nil IsListable
  all_listable [] (c ∷ cs) h sizes = absurd h
  all_listable (f ∷ fs) [] h sizes = absurd h
  all_listable (f ∷ fs) (c ∷ cs) h sizes =
      All-cons IsListable c cs (one_listable f c h.0 (All-head HasSizes c cs sizes)) (all_listable fs cs h.1 (All-tail HasSizes c cs sizes))

pub can_be_listed : (cs : List Compiled) → All HasSizes cs → CanBeListed cs
can_be_listed cs sizes text p types made = all_listable p (typed_named text p types) (exports_of p.funs) cs made sizes
