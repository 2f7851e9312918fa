-- What a test with its answer adds. All is taken from the facts before it.
use Rattle.std.specs.Prelude.{ℕ, ◌+◌, ◌-◌, ◌==◌, nat_le, Bool, true, false, not, ◌&&◌, ◌||◌, if◌then◌else◌}
use Rattle.std.specs.Option.{option_or}
use Rattle.x64_insn.specs.Size.{Size}
use Rattle.x64_insn.specs.Words.{residue}
use Rattle.jz_tree.specs.declared.expr.BinOp.{BinOp}
use Rattle.jz_tree.specs.declared.expr.BinOp.TheVariants as o
use Rattle.jz_meaning.specs.States.{Key, same_key}
use Rattle.jz_meaning.specs.Values.{key_of}
use Rattle.jz_meaning.specs.Statements.{Condition}
use Rattle.jz_terms.specs.Terms.{Term, num, truth, var, inv, bin, term_of, size_in}
use Rattle.jz_facts.specs.Facts.{AtLeast, AtMost, Under, Is, Multiple, Facts, Given, is_among, multiples}
use Rattle.jz_facts.specs.Intervals.{size_or_64, interval, multiple}
use Rattle.jz_facts.specs.Holding.{copied}

-- the term is this variable
abbrev pub is_var : Term → Key → Bool
is_var (var x) v = same_key v (key_of x)
is_var t v = false

-- both facts of one and of the other
infixl 20 ◌and◌
abbrev pub ◌and◌ : Facts → Facts → Facts
(a and b) f = a f || b f

module _ (g : Given) where
  -- of the variable a: AtMost with c at least n; AtLeast with c at most n
  abbrev pub at_most : Term → ℕ → Facts
  at_most a n (AtMost v c) = is_var a v && (is_among c g.consts && nat_le n c)
  at_most a n f = false

  abbrev pub at_least : Term → ℕ → Facts
  at_least a n (AtLeast v c) = is_var a v && (is_among c g.consts && nat_le c n)
  at_least a n f = false

  -- below all that b is below; and also what b is
  abbrev pub under : Facts → Term → Term → Facts
  under s a b (Under v x) = is_var a v && copied s b (λ y. Under y x)
  under s a b f = false

  abbrev pub under_what_is : Facts → Term → Term → Facts
  under_what_is s a b (Under v x) = is_var a v && copied s b (λ y. Is y x)
  under_what_is s a b f = false

  abbrev pub is_the_same : Facts → Term → Term → Facts
  is_the_same s a b (Is v x) = is_var a v && copied s b (λ y. Is y x)
  is_the_same s a b (Multiple v m) =
      is_var a v && (is_among m multiples && multiple g s b m)
  is_the_same s a b f = false

  -- a < b, a <= b, a == b, a != b, as words of this size
  abbrev pub less : Facts → Size → Term → Term → Facts
  less s z a b =
      let i = interval g s z a in let j = interval g s z b in
      at_most a (j.hi - 1)
      and (at_least b (i.lo + 1) and (under s a b and under_what_is s a b))

  abbrev pub less_or_same : Facts → Size → Term → Term → Facts
  less_or_same s z a b =
      let i = interval g s z a in let j = interval g s z b in
      at_most a j.hi and (at_least b i.lo and under s a b)

  abbrev pub same : Facts → Size → Term → Term → Facts
  same s z a b =
      (less_or_same s z a b and less_or_same s z b a)
      and (is_the_same s a b and is_the_same s b a)

  abbrev pub not_zero : Size → Term → Term → Facts
  not_zero z a (num i at) = if residue z i == 0 then at_least a 1 else (λ f. false)
  not_zero z a t = λ f. false

  -- the comparison is true
  abbrev pub by_true : BinOp → Facts → Size → Term → Term → Facts
  by_true o.Lt s z a b = less s z a b
  by_true o.Le s z a b = less_or_same s z a b
  by_true o.Gt s z a b = less s z b a
  by_true o.Ge s z a b = less_or_same s z b a
  by_true o.Eq s z a b = same s z a b
  by_true o.Ne s z a b = not_zero z a b
  by_true op s z a b = λ f. false

  abbrev pub opposite : BinOp → BinOp
  opposite o.Lt = o.Ge
  opposite o.Le = o.Gt
  opposite o.Gt = o.Le
  opposite o.Ge = o.Lt
  opposite o.Eq = o.Ne
  opposite o.Ne = o.Eq
  opposite op = o.Or

  -- what an answer adds; `!c` adds what c adds for the other answer
  abbrev pub adds : Facts → Term → Bool → Facts
  adds s (inv a at) z = adds s a (not z)
  adds s (bin op a b at) z =
      let y = size_or_64 (option_or (size_in a) (size_in b)) in
      by_true (if z then op else opposite op) s y a b
  adds s t z = λ f. false

  abbrev pub tested : Condition → Bool → Facts → Facts
  tested c z s = s and adds s (term_of c.cond) z

  -- `while (true)` has behind it the facts at its head
  abbrev pub leaving : Condition → Term → Facts → Facts → Facts
  leaving c (truth true at) h s = h
  leaving c t h s = tested c false s

  abbrev pub leaves : Condition → Facts → Facts → Facts
  leaves c h s = leaving c (term_of c.cond) h s
