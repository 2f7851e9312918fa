use Rattle.std.proofs.Common.{rules, ◌≡◌, ℕ, true, List, Some, None, cond}
use Rattle.std.specs.Prelude.{is_some}
use Rattle.std.specs.Str.{bytes_eq}
use Rattle.indexmap.specs.IndexMap.{get}
use Rattle.jz_type_storage.proofs.Naming.{number_more, number_kept}
use Rattle.jz_type_storage.proofs.numbers.Numbers.add.Goals as goal

pub returns-in_ok-insert : goal.returns-in_ok-insert
returns-in_ok-insert c =
    let old = get bytes_eq c.args.self.now.numbers
    in let new = get bytes_eq c.insert.new.self
    in let free : old c.args.fun.now.name ≡ None = search rules
    in let put : (q : List ℕ) → new q ≡ cond (bytes_eq c.args.fun.now.name q) (Some c.args.number) (old q) = search rules
    in λ fs held len. record { named = number_more fs c.args.fun.now old held.named c.args.number new free len put }

pub returns-else-not-contains_key : goal.returns-else-not-contains_key
returns-else-not-contains_key c =
    let old = get bytes_eq c.args.self.now.numbers
    in let there : is_some (old c.args.fun.now.name) ≡ true = search rules
    in λ fs held len. record { named = number_kept fs c.args.fun.now old held.named there }
