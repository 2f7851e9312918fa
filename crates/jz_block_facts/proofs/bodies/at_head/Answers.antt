use Rattle.std.proofs.Common.{◌≡◌, length, get_or, Option, Some, refl, sym, ap, subst, ◌∙◌}
use Rattle.std.specs.Prelude.{slice_get}
use Rattle.std.proofs.lemmas.Option.{slice_get_within, slice_get_read}
use Rattle.jz_runs.specs.Trees.{done}
use Rattle.jz_meaning.specs.Runs.{statement_tree}
use Rattle.jz_fact_sets.specs.Kept.{facts_of}
use Rattle.jz_block_facts.specs.Heads.{no_callees, laid, AreHeads, IsHeadOf}
use Rattle.jz_block_facts.proofs.LaidFacts.{returned, facts_seen}
use Rattle.jz_block_facts.proofs.Leading.{first_place}
use Rattle.jz_block_facts.proofs.Turning.{first_head}
use Rattle.jz_block_facts.proofs.bodies.at_head.Goals as goal

pub walk_statement-requires : goal.walk_statement-requires
walk_statement-requires c =
    first_place c.args.given.now (statement_tree no_callees c.args.stmt.now) (facts_of c.args.given.now c.open.new.self) c.new-heads.result c.new-heads.ensures c.requires.different c.requires.words c.requires.plain

same_some : {A : Type 0} (o : Option A) (a b : A) → o ≡ Some a → o ≡ Some b → a ≡ b
same_some o a b e f = let h : Some a ≡ Some b = sym e ∙ f in cc h

pub returns : goal.returns
returns c =
    let g = c.args.given.now in
    let t = statement_tree no_callees c.args.stmt.now done in
    let hs = c.walk_statement.new.heads in
    let zero = c.in_ok-head.head in
    let four = c.close.new.self in
    let s = facts_of g zero in
    let heads = subst (AreHeads g t 0 hs) (facts_seen g zero c.open.new.self c.in_ok-open.ensures.seen) (c.in_ok-walk_statement.ensures.leads.heads hs (λ k i j. refl) done tt) in
    let f = first_head g t hs s c.requires.turns heads in
    let e = c.index-as_slice-first.result in
    let is : e ≡ get_or hs 0 e = c.index-as_slice-first.is ∙ ap (λ l. get_or l 0 e) c.as_slice.ensures in
    let read = slice_get_read hs (length hs) 0 e refl (slice_get_within hs 0 f.0 f.1) is in
    let back = returned zero four c.walk_statement.new.set.below.items (c.in_ok-walk_statement.ensures.below ∙ c.in_ok-open.ensures.below) c.close.ensures.below in
    let head : IsHeadOf g t s (facts_of g c.lay.new.set) =
    subst (IsHeadOf g t s)
    (ap (λ m. laid g m s) (same_some (slice_get hs 0) f.0 e f.1 read) ∙ ap (laid g e) (sym (facts_seen g zero four back.1)) ∙ sym (c.in_ok-lay.ensures.facts g))
    f.2 in
    subst (λ from. IsHeadOf g t from (facts_of g c.lay.new.set)) (facts_seen g c.args.set.now zero c.in_ok-head.ensures) head
