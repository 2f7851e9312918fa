-- What the export function of a name is compiled to.
use Rattle.std.proofs.Common.{◌≡◌, ℕ, Bool, true, false, if◌then◌else◌, ◌&&◌, List, [], ◌∷◌, cond, Option, None, Some, refl, ap, ◌∙◌, subst, arith}
use Rattle.std.specs.Prelude.{slice_get}
use Rattle.std.specs.List.{AllZip}
use Rattle.std.specs.Str.{bytes_eq}
use Rattle.jz_tree.specs.declared.program.Fun.{Fun}
use Rattle.jz_tree.specs.declared.program.Program.{Program}
use Rattle.jz_type_rows.specs.Exports.{is_exported}
use Rattle.jz_listing.specs.declared.compiled.Compiled.{Compiled}
use Rattle.jasminc_source.specs.Exports.{export_named}
use Rattle.jasminc_runs.specs.Calling.{IsRunnable}
use Rattle.jasminc_leaks.specs.Leaking.{IsRunnableAt}
use Rattle.jasminc_compile.specs.SafeFunctions.{exports_of}
use Rattle.jasminc_compile.specs.Making.{IsMade}
use Rattle.jasminc_called.specs.declared.making.MadeFor.{MadeFor}
use Rattle.jasminc_called.specs.Making.{compiled_named, IsCompiledAs, IsMadeFor}

-- ---- by name
none_is_none : (f : Fun) → ◌≡◌ {A = Option Fun} None (Some f) → ⊥
none_is_none f e = cc

one_named : (g f : Fun) → ◌≡◌ {A = Option Fun} (Some g) (Some f) → g ≡ f
one_named g f e = cc

pub record NamedMade (p : Program) (name : List ℕ) (made : List Compiled) (f : Fun) : Type 0 where
  pub compiled : Compiled
  pub compiled_is : compiled_named name made ≡ Some compiled
  pub is_made : IsMade p f compiled

-- the first export function of the name is made into the first of the name
pub named_made : (p : Program) (name : List ℕ) (fs : List Fun) (made : List Compiled) (f : Fun) → AllZip (IsMade p) (exports_of fs) made → export_named name fs ≡ Some f → NamedMade p name made f
named_made p name [] made f m e = absurd (none_is_none f e)
named_made p name (g ∷ gs) made f m e = by (is_exported g.kind) made m e (λ xs k h. named_made p name gs xs f k h)
  where
    here : (c : Compiled) (cs : List Compiled) → IsMade p g c → (t : Bool) → bytes_eq g.name name ≡ t → (if t then Some g else export_named name gs) ≡ Some f
        → (export_named name gs ≡ Some f → NamedMade p name cs f) → NamedMade p name (c ∷ cs) f
    here c cs made true q h later =
        let same : g ≡ f = one_named g f h in
        let name_is : c.name ≡ g.name = made.correct.compilation.name in
        record {
          compiled = c;
          compiled_is = ap (λ (z : Bool). if z then Some c else compiled_named name cs) (ap (λ n. bytes_eq n name) name_is ∙ q);
          is_made = subst (λ (k : Fun). IsMade p k c) same made;
        }
    here c cs made false q h later =
        let l = later h in
        let name_is : c.name ≡ g.name = made.correct.compilation.name in
        record {
          compiled = l.compiled;
          compiled_is = ap (λ (z : Bool). if z then Some c else compiled_named name cs) (ap (λ n. bytes_eq n name) name_is ∙ q) ∙ l.compiled_is;
          is_made = l.is_made;
        }

    by : (b : Bool) (xs : List Compiled) → AllZip (IsMade p) (cond b (g ∷ exports_of gs) (exports_of gs)) xs → (if (b && bytes_eq g.name name) then Some g else export_named name gs) ≡ Some f
        → ((ys : List Compiled) → AllZip (IsMade p) (exports_of gs) ys → export_named name gs ≡ Some f → NamedMade p name ys f) → NamedMade p name xs f
    by false xs k h on = on xs k h
    by true [] k h on = absurd k
    by true (c ∷ cs) k h on = here c cs k.0 (bytes_eq g.name name) refl h (on cs k.1)

-- ---- of what was made
same_fun : (f g : Fun) (o : Option Fun) → o ≡ Some f → o ≡ Some g → f ≡ g
same_fun f g o p q = cc

same_compiled : (c d : Compiled) (o : Option Compiled) → o ≡ Some c → o ≡ Some d → c ≡ d
same_compiled c d o p q = cc

module _ (text fun : List ℕ) (m : MadeFor) (h : IsMadeFor text fun m) where
  pub one_compiled : (c : Compiled) × (compiled_named fun m.functions ≡ Some c)
  one_compiled =
      let named = named_made m.typed.program fun m.typed.program.funs m.functions h.function h.are_made h.found in
      (named.compiled, named.compiled_is)

  pub compiled_as : (c : Compiled) → compiled_named fun m.functions ≡ Some c → IsCompiledAs m.typed.program fun m.functions c
  compiled_as c is =
      let named = named_made m.typed.program fun m.typed.program.funs m.functions h.function h.are_made h.found in
      record {
        function = h.function;
        found = h.found;
        compiled_is = is;
        is_made = subst (λ (d : Compiled). IsMade m.typed.program h.function d) (same_compiled named.compiled c (compiled_named fun m.functions) named.compiled_is is) named.is_made;
      }

  -- it is the function at the place
  pub function_so : (f : Fun) → slice_get m.typed.program.funs m.place ≡ Some f → (c : Compiled) → (k : IsCompiledAs m.typed.program fun m.functions c) → k.function ≡ f
  function_so f there c k =
      same_fun k.function h.function (export_named fun m.typed.program.funs) k.found h.found
      ∙ same_fun h.function f (slice_get m.typed.program.funs m.place) h.there there

-- ---- what is made is run
pub runnable : (p : Program) (f : Fun) (c : Compiled) → IsMade p f c → IsRunnable p f c
runnable p f c m = record {
  is_export = record { typed = m.from.typed; among = m.from.there; exported = m.from.exported };
  compilation = m.correct.compilation;
  small = let small = m.small in omega (arith, small);
}

pub runnable_at : (text fun : List ℕ) (m : MadeFor) → IsMadeFor text fun m → (c : Compiled) → IsCompiledAs m.typed.program fun m.functions c → IsRunnableAt m.typed.program m.place c
runnable_at text fun m h c k = record {
  function = h.function;
  there = h.there;
  runnable = subst (λ (g : Fun). IsRunnable m.typed.program g c) (function_so text fun m h h.function h.there c k) (runnable m.typed.program k.function c k.is_made);
}

pub runnable_there : (text fun : List ℕ) (m : MadeFor) → IsMadeFor text fun m → (f : Fun) → slice_get m.typed.program.funs m.place ≡ Some f → (c : Compiled) → IsCompiledAs m.typed.program fun m.functions c
    → (p : Program) × IsRunnable p f c
runnable_there text fun m h f there c k = (
  m.typed.program,
  subst (λ (g : Fun). IsRunnable m.typed.program g c) (function_so text fun m h f there c k) (runnable m.typed.program k.function c k.is_made),
)
