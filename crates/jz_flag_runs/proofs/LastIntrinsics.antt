-- INC, DEC and NOT, whose flags are not all listed, and LEA.
use Rattle.std.proofs.Common.{◌≡◌, ℕ, ◌<◌, true, false, List, [], ◌∷◌, ◌++◌, None, refl, sym, subst}
use Rattle.std.proofs.lemmas.Nat.{mod_below}
use Rattle.jz_words.specs.declared.size.Size.{Size}
use Rattle.jz_words.specs.Sizes.{modulus}
use Rattle.jz_words.proofs.Residues.{some_words}
use Rattle.x64_insn.specs.declared.types.FlagVal.{FlagVal}
use Rattle.x64_insn.specs.declared.types.One.TheVariants as one
use Rattle.x64_insn.specs.Answers.{flags_of as answer_flags, one_answer, sum_answer, difference_answer}
use Rattle.x64_insn.specs.Products.{no_flags}
use Rattle.jz_tree.specs.declared.stmt.Lval.{Lval}
use Rattle.jz_meaning.specs.Intrinsics.{all_flags, first_two, all_but_carry}
use Rattle.jz_operations.specs.declared.operation.Flags.{Flags}
use Rattle.jz_operations.specs.Rows.{all_five, one_changes, flags_of}
use Rattle.jz_homes.specs.Homes.{Homes}
use Rattle.jz_flag_rows.specs.Results.{IsFlag, AreFour, four, AreTwo, two}
use Rattle.jz_flag_runs.proofs.FlagLefts.{AreFlags, no_more, taken, unlisted, unset}
use Rattle.jz_flag_runs.proofs.Intrinsics.{FiveTo}

-- the left sides of OF, SF, PF and ZF; CF has no variable
pub record FourTo (home : Homes) (ls : List Lval) (fl : Flags) : Type 0 where
  pub l1 : Lval
  pub l3 : Lval
  pub l4 : Lval
  pub l5 : Lval
  pub are : ls ≡ l1 ∷ l3 ∷ l4 ∷ l5 ∷ []
  pub none : flags_of fl ≡ fl.of ∷ None ∷ fl.sf ∷ fl.pf ∷ fl.zf ∷ []
  pub to1 : IsFlag home l1 fl.of
  pub to3 : IsFlag home l3 fl.sf
  pub to4 : IsFlag home l4 fl.pf
  pub to5 : IsFlag home l5 fl.zf

four_by : (home : Homes) (ls : List Lval) (fl : Flags) (a b c d e : FlagVal) → FourTo home ls fl → AreFlags home ls (flags_of fl) (true ∷ false ∷ true ∷ true ∷ true ∷ []) (a ∷ b ∷ c ∷ d ∷ e ∷ []) (all_but_carry (a ∷ b ∷ c ∷ d ∷ e ∷ []))
four_by home ls fl a b c d e k =
    subst (λ ps. AreFlags home ls ps (true ∷ false ∷ true ∷ true ∷ true ∷ []) (a ∷ b ∷ c ∷ d ∷ e ∷ []) (all_but_carry (a ∷ b ∷ c ∷ d ∷ e ∷ []))) (sym k.none)
    (subst (λ ms. AreFlags home ms (fl.of ∷ None ∷ fl.sf ∷ fl.pf ∷ fl.zf ∷ []) (true ∷ false ∷ true ∷ true ∷ true ∷ []) (a ∷ b ∷ c ∷ d ∷ e ∷ []) (all_but_carry (a ∷ b ∷ c ∷ d ∷ e ∷ []))) (sym k.are)
    (taken k.l1 fl.of a k.to1 (unlisted false b (taken k.l3 fl.sf c k.to3 (taken k.l4 fl.pf d k.to4 (taken k.l5 fl.zf e k.to5 no_more))))))

-- INC and DEC, for `one_flag_row`
pub inc_flags : (home : Homes) (ls : List Lval) (fl : Flags) (z : Size) (a : ℕ) → FourTo home ls fl → AreFlags home ls (flags_of fl) (one_changes one.Inc) (one_answer one.Inc z a no_flags).flags (all_but_carry (one_answer one.Inc z a no_flags).flags)
unfolding one_answer sum_answer answer_flags
inc_flags home ls fl z a k = four_by home ls fl _ _ _ _ _ k

pub dec_flags : (home : Homes) (ls : List Lval) (fl : Flags) (z : Size) (a : ℕ) → FourTo home ls fl → AreFlags home ls (flags_of fl) (one_changes one.Dec) (one_answer one.Dec z a no_flags).flags (all_but_carry (one_answer one.Dec z a no_flags).flags)
unfolding one_answer difference_answer answer_flags
dec_flags home ls fl z a k = four_by home ls fl _ _ _ _ _ k

pub inc_small : (z : Size) (a : ℕ) → (one_answer one.Inc z a no_flags).value < modulus z
unfolding one_answer sum_answer
inc_small z a = mod_below _ (modulus z) (some_words z)

pub dec_small : (z : Size) (a : ℕ) → (one_answer one.Dec z a no_flags).value < modulus z
unfolding one_answer difference_answer
dec_small z a = mod_below _ (modulus z) (some_words z)

-- NOT has no flags
not_list : (home : Homes) (fs : List FlagVal) (a b c d e : FlagVal) → fs ≡ a ∷ b ∷ c ∷ d ∷ e ∷ [] → AreFlags home [] (None ∷ None ∷ None ∷ None ∷ None ∷ []) (one_changes one.Not) fs []
not_list home fs a b c d e f = subst (λ gs. AreFlags home [] (None ∷ None ∷ None ∷ None ∷ None ∷ []) (one_changes one.Not) gs []) (sym f) (unlisted false a (unlisted false b (unlisted false c (unlisted false d (unlisted false e no_more)))))

pub not_flags : (home : Homes) (z : Size) (a : ℕ) → AreFlags home [] (None ∷ None ∷ None ∷ None ∷ None ∷ []) (one_changes one.Not) (one_answer one.Not z a no_flags).flags []
unfolding one_answer
not_flags home z a = not_list home no_flags _ _ _ _ _ refl

-- ---- left sides before others
pub record FourBefore (home : Homes) (to : List Lval) (fl : Flags) (rest : List Lval) : Type 0 where
  pub ls : List Lval
  pub joined : to ≡ ls ++ rest
  pub four : FourTo home ls fl

pub four_before : {home : Homes} {to : List Lval} {fl : Flags} {rest : List Lval} → AreFour home to fl rest → FourBefore home to fl rest
four_before (four {o} {s} {p} {z} rest ho hs hp hz) = record {
  ls = o ∷ s ∷ p ∷ z ∷ [];
  joined = refl;
  four = record { l1 = o; l3 = s; l4 = p; l5 = z; are = refl; none = refl; to1 = ho; to3 = hs; to4 = hp; to5 = hz };
}

-- the left sides of OF and CF; the others have no variable
pub record TwoTo (home : Homes) (ls : List Lval) (fl : Flags) : Type 0 where
  pub l1 : Lval
  pub l2 : Lval
  pub are : ls ≡ l1 ∷ l2 ∷ []
  pub none : flags_of fl ≡ fl.of ∷ fl.cf ∷ None ∷ None ∷ None ∷ []
  pub to1 : IsFlag home l1 fl.of
  pub to2 : IsFlag home l2 fl.cf

pub record TwoBefore (home : Homes) (to : List Lval) (fl : Flags) (rest : List Lval) : Type 0 where
  pub ls : List Lval
  pub joined : to ≡ ls ++ rest
  pub two : TwoTo home ls fl

pub two_before : {home : Homes} {to : List Lval} {fl : Flags} {rest : List Lval} → AreTwo home to fl rest → TwoBefore home to fl rest
two_before (two {o} {c} rest ho hc) = record { ls = o ∷ c ∷ []; joined = refl; two = record { l1 = o; l2 = c; are = refl; none = refl; to1 = ho; to2 = hc } }

-- rotations
pub two_flags : (home : Homes) (ls : List Lval) (fl : Flags) (a b c d e : FlagVal) → TwoTo home ls fl → AreFlags home ls (flags_of fl) (true ∷ true ∷ false ∷ false ∷ false ∷ []) (a ∷ b ∷ c ∷ d ∷ e ∷ []) (first_two (a ∷ b ∷ c ∷ d ∷ e ∷ []))
two_flags home ls fl a b c d e k =
    subst (λ ps. AreFlags home ls ps (true ∷ true ∷ false ∷ false ∷ false ∷ []) (a ∷ b ∷ c ∷ d ∷ e ∷ []) (first_two (a ∷ b ∷ c ∷ d ∷ e ∷ []))) (sym k.none)
    (subst (λ ms. AreFlags home ms (fl.of ∷ fl.cf ∷ None ∷ None ∷ None ∷ []) (true ∷ true ∷ false ∷ false ∷ false ∷ []) (a ∷ b ∷ c ∷ d ∷ e ∷ []) (first_two (a ∷ b ∷ c ∷ d ∷ e ∷ []))) (sym k.are)
    (taken k.l1 fl.of a k.to1 (taken k.l2 fl.cf b k.to2 (unlisted false c (unlisted false d (unlisted false e no_more))))))

-- those that the source unsets
pub five_unset : (home : Homes) (ls : List Lval) (fl : Flags) (a b c d e : FlagVal) → FiveTo home ls fl → AreFlags home ls (flags_of fl) all_five (a ∷ b ∷ c ∷ d ∷ e ∷ []) (all_flags no_flags)
five_unset home ls fl a b c d e k =
    subst (λ ms. AreFlags home ms (flags_of fl) all_five (a ∷ b ∷ c ∷ d ∷ e ∷ []) (all_flags no_flags)) (sym k.are)
    (unset k.l1 fl.of a k.to1 (unset k.l2 fl.cf b k.to2 (unset k.l3 fl.sf c k.to3 (unset k.l4 fl.pf d k.to4 (unset k.l5 fl.zf e k.to5 no_more)))))

pub two_unset : (home : Homes) (ls : List Lval) (fl : Flags) (a b c d e : FlagVal) → TwoTo home ls fl → AreFlags home ls (flags_of fl) (true ∷ true ∷ false ∷ false ∷ false ∷ []) (a ∷ b ∷ c ∷ d ∷ e ∷ []) (first_two no_flags)
two_unset home ls fl a b c d e k =
    subst (λ ps. AreFlags home ls ps (true ∷ true ∷ false ∷ false ∷ false ∷ []) (a ∷ b ∷ c ∷ d ∷ e ∷ []) (first_two no_flags)) (sym k.none)
    (subst (λ ms. AreFlags home ms (fl.of ∷ fl.cf ∷ None ∷ None ∷ None ∷ []) (true ∷ true ∷ false ∷ false ∷ false ∷ []) (a ∷ b ∷ c ∷ d ∷ e ∷ []) (first_two no_flags)) (sym k.are)
    (unset k.l1 fl.of a k.to1 (unset k.l2 fl.cf b k.to2 (unlisted false c (unlisted false d (unlisted false e no_more))))))
