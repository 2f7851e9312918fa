-- What a parse of words comes to, for any command that is simple.
use Rattle.std.proofs.Common.{◌≡◌, ◌∙◌, ap, sym, subst, refl, true, List, [], ◌∷◌, None, inl, inr}
use Rattle.clap.specs.Words.{App, Text, Kinds, HasKind, IsAmong, HasMatchesOf, kind_of, fault_of, is_simple, is_simple_and_free, subcommand_of, subcommand_rows_of}
use Rattle.clap.specs.declared.error.Error.{Error}
use Rattle.clap.specs.declared.error.kind.ErrorKind.{ErrorKind}
use Rattle.clap.specs.declared.error.kind.ErrorKind.TheVariants.{OutOfMemory}
use Rattle.clap.specs.declared.parser.matches.ArgMatches.{ArgMatches}
use Rattle.jasminc_words.specs.Commands.{jasminc_app}
use Rattle.jasminc_words.specs.Wanted.{none_or, wanted_in, wanted_command}
use Rattle.jasminc_words.proofs.Adding.{none_or_empty, none_or_some}

among_some : (k : ErrorKind) (ks : Kinds) → IsAmong k ks → ks ≡ [] → ⊥
among_some k [] h none = h
among_some k (x ∷ xs) h none = cc

module _ (a b : App) (texts : List Text) (same : a ≡ b) (simple : is_simple b ≡ true) (free : is_simple_and_free b ≡ true) where
  free_too : is_simple_and_free a ≡ true
  free_too = subst (λ (x : App). is_simple_and_free x ≡ true) (sym same) free

  simple_too : is_simple a ≡ true
  simple_too = subst (λ (x : App). is_simple x ≡ true) (sym same) simple

  -- there are matches where no step fails, and they are the command's
  pub matched : (m : ArgMatches) → HasMatchesOf a texts m → (is_simple_and_free a ≡ true → fault_of a texts ≡ [])
      → (fault_of b texts ≡ []) × (none_or (fault_of b texts) (wanted_in (subcommand_of b texts)) ≡ wanted_in (subcommand_rows_of m))
  matched m has clear =
      let none : fault_of b texts ≡ [] = subst (λ (x : App). fault_of x texts ≡ []) same (clear free_too) in
      let rows : subcommand_rows_of m ≡ subcommand_of b texts = (subst (λ (x : App). subcommand_rows_of m ≡ subcommand_of x texts) same (has simple_too).1) in
      (none, none_or_empty (fault_of b texts) (wanted_in (subcommand_of b texts)) none ∙ ap wanted_in (sym rows))

  -- and a refusal where one does
  pub refused : (e : Error) → (is_simple_and_free a ≡ true → HasKind (fault_of a texts) e) → (kind_of e ≡ OutOfMemory → ⊥)
      → (fault_of b texts ≡ [] → ⊥) × (none_or (fault_of b texts) (wanted_in (subcommand_of b texts)) ≡ None)
  refused e fails other =
      let has : HasKind (fault_of b texts) e = subst (λ (x : App). HasKind (fault_of x texts) e) same (fails free_too) in
      let some : fault_of b texts ≡ [] → ⊥ = elim has [
        | inl memory ↦ absurd (other memory)
        | inr among ↦ among_some (kind_of e) (fault_of b texts) among
      ] in
      (some, none_or_some (fault_of b texts) (wanted_in (subcommand_of b texts)) some)

pub command_is : (texts : List Text) → wanted_command texts ≡ none_or (fault_of jasminc_app texts) (wanted_in (subcommand_of jasminc_app texts))
unfolding wanted_command
command_is texts = refl
