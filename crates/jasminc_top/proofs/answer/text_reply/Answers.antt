use Rattle.std.proofs.Common.{refl}
use Rattle.jasminc_words.specs.Wanted.{gen}
use Rattle.jasminc_top.proofs.answer.text_reply.Goals as goal

pub returns : goal.returns
returns c = λ seed size. record {
  command = gen seed size;
  is = refl;
  clear = λ r lt never. never;
  gives = record { text_is = refl; ok = refl; none = c.new.ensures };
}
