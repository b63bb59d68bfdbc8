-- The cases of specs/Cases hold: each side computes to the same word.
-- specs/Integer stands below. Assumes nothing.
use mathlib.Core.Path.{refl}
use Rattle.basis.specs.Integer.{modulo, integer_of, word_of, unary, binary, truth, ordered, flipped}
use Rattle.basis.specs.Integer.{sub_of, mul_of, quot_of, rem_of, neg_of, mag_of, inc_of, dec_of, eq_of, ne_of, leq_of, geq_of, leu_of, geu_of, and_of, or_of, not_of}
use Rattle.basis.specs.Cases.{minus, Others}

pub others : Others
unfolding minus modulo integer_of word_of unary binary truth ordered flipped sub_of mul_of quot_of rem_of neg_of mag_of inc_of dec_of eq_of ne_of leq_of geq_of leu_of geu_of and_of or_of not_of
others =
    record {
      subtract = refl;
      multiply = refl;
      divisor_negative = refl;
      remainder_positive = refl;
      both_negative = refl;
      quotient_by_zero = refl;
      remainder_by_zero = refl;
      negate = refl;
      negate_least = refl;
      absolute = refl;
      absolute_least = refl;
      increment = refl;
      decrement = refl;
      equal = refl;
      differ = refl;
      signed = refl;
      signed_back = refl;
      unsigned = refl;
      unsigned_back = refl;
      and = refl;
      or = refl;
      not = refl;
    }
