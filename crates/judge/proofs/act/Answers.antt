-- `judge::act` meets its contract: each byte of the flat match does what its row says. For each byte where it stops early and what its calls ask,
-- and then what its last call answers; the short forms last. Assumes nothing.
-- Above: `judge`; below: Ways, the ways through an arm, and Arms of `plan`, its outcome.
use mathlib.Core.Path.{refl, sym, ◌∙◌}
use native.Mathlib.Omega.{arith}
use borrow.Author.Rules.{rules}
use Rattle.basis.specs.Integer.{mul_of, quot_of, rem_of, or_of, and_of, add_of, sub_of, eq_of, ne_of, leq_of, geq_of, leu_of, geu_of, mag_of, neg_of, not_of, inc_of, dec_of}
use Rattle.operand.specs.Operand.{UB, SB, B, W}
use Rattle.pmachine.specs.Meaning.{globals, up}
use Rattle.pmachine.specs.Opcode.{opcode, row_in, appendix_b}
use Rattle.pmachine.specs.Decoding.{lawful}
use Rattle.plan.proofs.Decodes.{fetched-DB, here, at_globals, walked, strayed}
use Rattle.plan.proofs.Arms.{sldc, sldl, sldo, gap_low, slla, sstl, gap_high, sind, keys, no_key, bad, moves}
use Rattle.plan.proofs.Arms.{lacks, con, pol, blk, cas, bin, un, div, dup, swp, nop, chk, sta, ind, lod, adr, sto, jmp, bra, cal, ret, bad_lod, bad_adr, bad_sto, bad_cal}
use Rattle.judge.proofs.Ways.{unknown, short, bare, cut, one, cut_second, deep, both, cut_middle, cut_third, all_three, rec_fits, near}
use Rattle.judge.proofs.act.Goals as goal

-- LDCB
pub returns-in_default-unsigned : goal.returns-in_default-unsigned
unfolding opcode row_in appendix_b lawful keys
returns-in_default-unsigned c = cut c.requires.0 _ c.in-128.is refl c.unsigned.ensures c.in_default-unsigned.is

pub returns-in-Ok : goal.returns-in-Ok
unfolding opcode row_in appendix_b lawful keys
returns-in-Ok c = one c.requires.0 _ c.in-128.is refl c.unsigned.ensures c.in-Ok.is refl (con c.requires.0 _ _ (c.push.ensures _))

-- LDCI
pub returns-in_default-wide : goal.returns-in_default-wide
unfolding opcode row_in appendix_b lawful keys
returns-in_default-wide c = cut c.requires.0 _ c.in-129.is refl c.wide.ensures c.in_default-wide.is

pub returns-in-Ok-wide : goal.returns-in-Ok-wide
unfolding opcode row_in appendix_b lawful keys
returns-in-Ok-wide c = one c.requires.0 _ c.in-129.is refl c.wide.ensures c.in-Ok-wide.is refl (con c.requires.0 _ _ (c.push-in-129.ensures _))

-- LCO
pub returns-in_default-big : goal.returns-in_default-big
unfolding opcode row_in appendix_b lawful keys
returns-in_default-big c = cut c.requires.0 _ c.in-130.is refl c.big.ensures c.in_default-big.is

pub returns-in-Ok-big : goal.returns-in-Ok-big
unfolding opcode row_in appendix_b lawful keys
returns-in-Ok-big c = one c.requires.0 _ c.in-130.is refl c.big.ensures c.in-Ok-big.is refl (pol c.requires.0 _ _ (c.pool_offset.ensures _))

-- LLA
pub returns-in_default-big-2 : goal.returns-in_default-big-2
unfolding opcode row_in appendix_b lawful keys
returns-in_default-big-2 c = cut c.requires.0 _ c.in-132.is refl c.big-in-132.ensures c.in_default-big-2.is

pub returns-in-Ok-big-2 : goal.returns-in-Ok-big-2
unfolding opcode row_in appendix_b lawful keys
returns-in-Ok-big-2 c = one c.requires.0 _ c.in-132.is refl c.big-in-132.ensures c.in-Ok-big-2.is refl (adr c.requires.0 _ (up 0) (here _ _) _ (c.address.ensures _))

-- LDO
pub returns-in_default-big-3 : goal.returns-in_default-big-3
unfolding opcode row_in appendix_b lawful keys
returns-in_default-big-3 c = cut c.requires.0 _ c.in-133.is refl c.big-in-133.ensures c.in_default-big-3.is

pub returns-in-Ok-big-3 : goal.returns-in-Ok-big-3
unfolding opcode row_in appendix_b lawful keys
returns-in-Ok-big-3 c = one c.requires.0 _ c.in-133.is refl c.big-in-133.ensures c.in-Ok-big-3.is refl (lod c.requires.0 _ globals (at_globals _ _) _ (c.load.ensures _))

-- LAO
pub returns-in_default-big-4 : goal.returns-in_default-big-4
unfolding opcode row_in appendix_b lawful keys
returns-in_default-big-4 c = cut c.requires.0 _ c.in-134.is refl c.big-in-134.ensures c.in_default-big-4.is

pub returns-in-Ok-big-4 : goal.returns-in-Ok-big-4
unfolding opcode row_in appendix_b lawful keys
returns-in-Ok-big-4 c = one c.requires.0 _ c.in-134.is refl c.big-in-134.ensures c.in-Ok-big-4.is refl (adr c.requires.0 _ globals (at_globals _ _) _ (c.address-in-134.ensures _))

-- LDL
pub returns-in_default-big-5 : goal.returns-in_default-big-5
unfolding opcode row_in appendix_b lawful keys
returns-in_default-big-5 c = cut c.requires.0 _ c.in-135.is refl c.big-in-135.ensures c.in_default-big-5.is

pub returns-in-Ok-big-5 : goal.returns-in-Ok-big-5
unfolding opcode row_in appendix_b lawful keys
returns-in-Ok-big-5 c = one c.requires.0 _ c.in-135.is refl c.big-in-135.ensures c.in-Ok-big-5.is refl (lod c.requires.0 _ (up 0) (here _ _) _ (c.load-in-135.ensures _))

-- LDA
pub returns-in_default-unsigned-2 : goal.returns-in_default-unsigned-2
unfolding opcode row_in appendix_b lawful keys
returns-in_default-unsigned-2 c = cut c.requires.0 _ c.in-136.is refl (c.unsigned-in-136.ensures ∙ sym (fetched-DB _ _)) c.in_default-unsigned-2.is

pub returns-in_default-big-6 : goal.returns-in_default-big-6
unfolding opcode row_in appendix_b lawful keys
returns-in_default-big-6 c = cut_second c.requires.0 _ c.in-136.is refl c.unsigned-in-136.ensures c.in-Ok-unsigned.is c.big-in-136.ensures c.in_default-big-6.is

pub returns-then-d-gt-DEEPEST : goal.returns-then-d-gt-DEEPEST
unfolding opcode row_in appendix_b lawful keys
returns-then-d-gt-DEEPEST c = deep c.requires.0 _ c.in-136.is refl c.unsigned-in-136.ensures c.in-Ok-unsigned.is c.big-in-136.ensures c.in-Ok-big-6.is c.if-d-gt-DEEPEST.true

pub returns-in_default-reach : goal.returns-in_default-reach
unfolding opcode row_in appendix_b lawful keys
returns-in_default-reach c = both c.requires.0 _ c.in-136.is refl c.unsigned-in-136.ensures c.in-Ok-unsigned.is c.big-in-136.ensures c.in-Ok-big-6.is c.if-d-gt-DEEPEST.false refl (bad_adr c.requires.0 _ (up _) (strayed _ _ _ _ c.reach.ensures c.in_default-reach.is) _ (bad _ _ 9))

pub address-requires-in-136 : goal.address-requires-in-136
address-requires-in-136 c = (omega arith, (rec_fits c.requires.0 _ c.reach.ensures c.in-Some.is, c.requires.0.small))

pub returns-in-Some : goal.returns-in-Some
unfolding opcode row_in appendix_b lawful keys
returns-in-Some c = both c.requires.0 _ c.in-136.is refl c.unsigned-in-136.ensures c.in-Ok-unsigned.is c.big-in-136.ensures c.in-Ok-big-6.is c.if-d-gt-DEEPEST.false refl (adr c.requires.0 _ (up _) (walked _ _ _ _ c.reach.ensures _ c.in-Some.is) _ (c.address-in-136.ensures _))

-- LOD
pub returns-in_default-unsigned-3 : goal.returns-in_default-unsigned-3
unfolding opcode row_in appendix_b lawful keys
returns-in_default-unsigned-3 c = cut c.requires.0 _ c.in-137.is refl (c.unsigned-in-137.ensures ∙ sym (fetched-DB _ _)) c.in_default-unsigned-3.is

pub returns-in_default-big-7 : goal.returns-in_default-big-7
unfolding opcode row_in appendix_b lawful keys
returns-in_default-big-7 c = cut_second c.requires.0 _ c.in-137.is refl c.unsigned-in-137.ensures c.in-Ok-unsigned-2.is c.big-in-137.ensures c.in_default-big-7.is

pub returns-then-d-gt-DEEPEST-2 : goal.returns-then-d-gt-DEEPEST-2
unfolding opcode row_in appendix_b lawful keys
returns-then-d-gt-DEEPEST-2 c = deep c.requires.0 _ c.in-137.is refl c.unsigned-in-137.ensures c.in-Ok-unsigned-2.is c.big-in-137.ensures c.in-Ok-big-7.is c.if-d-gt-DEEPEST-2.true

pub returns-in_default-reach-2 : goal.returns-in_default-reach-2
unfolding opcode row_in appendix_b lawful keys
returns-in_default-reach-2 c = both c.requires.0 _ c.in-137.is refl c.unsigned-in-137.ensures c.in-Ok-unsigned-2.is c.big-in-137.ensures c.in-Ok-big-7.is c.if-d-gt-DEEPEST-2.false refl (bad_lod c.requires.0 _ (up _) (strayed _ _ _ _ c.reach-in-137.ensures c.in_default-reach-2.is) _ (bad _ _ 9))

pub load-requires-in-137 : goal.load-requires-in-137
load-requires-in-137 c = (omega arith, rec_fits c.requires.0 _ c.reach-in-137.ensures c.in-Some-reach.is)

pub returns-in-Some-reach : goal.returns-in-Some-reach
unfolding opcode row_in appendix_b lawful keys
returns-in-Some-reach c = both c.requires.0 _ c.in-137.is refl c.unsigned-in-137.ensures c.in-Ok-unsigned-2.is c.big-in-137.ensures c.in-Ok-big-7.is c.if-d-gt-DEEPEST-2.false refl (lod c.requires.0 _ (up _) (walked _ _ _ _ c.reach-in-137.ensures _ c.in-Some-reach.is) _ (c.load-in-137.ensures _))

-- UJP
pub returns-in_default-signed : goal.returns-in_default-signed
unfolding opcode row_in appendix_b lawful keys
returns-in_default-signed c = cut c.requires.0 _ c.in-138.is refl c.signed.ensures c.in_default-signed.is

pub jump-requires : goal.jump-requires
jump-requires c = near c.requires.0 SB _ c.signed.ensures c.in-Ok-signed.is

pub returns-in-Ok-signed : goal.returns-in-Ok-signed
unfolding opcode row_in appendix_b lawful keys
returns-in-Ok-signed c = one c.requires.0 _ c.in-138.is refl c.signed.ensures c.in-Ok-signed.is refl (jmp c.requires.0 _ _ (c.jump.ensures _))

-- JPL
pub returns-in_default-wide-2 : goal.returns-in_default-wide-2
unfolding opcode row_in appendix_b lawful keys
returns-in_default-wide-2 c = cut c.requires.0 _ c.in-139.is refl c.wide-in-139.ensures c.in_default-wide-2.is

pub jump-requires-in-139 : goal.jump-requires-in-139
jump-requires-in-139 c = near c.requires.0 W _ c.wide-in-139.ensures c.in-Ok-wide-2.is

pub returns-in-Ok-wide-2 : goal.returns-in-Ok-wide-2
unfolding opcode row_in appendix_b lawful keys
returns-in-Ok-wide-2 c = one c.requires.0 _ c.in-139.is refl c.wide-in-139.ensures c.in-Ok-wide-2.is refl (jmp c.requires.0 _ _ (c.jump-in-139.ensures _))

-- CPL
pub returns-in_default-unsigned-4 : goal.returns-in_default-unsigned-4
unfolding opcode row_in appendix_b lawful keys
returns-in_default-unsigned-4 c = cut c.requires.0 _ c.in-144.is refl c.unsigned-in-144.ensures c.in_default-unsigned-4.is

pub call-requires : goal.call-requires
call-requires c = (omega arith, near c.requires.0 UB _ c.unsigned-in-144.ensures c.in-Ok-unsigned-3.is)

pub returns-in-Ok-unsigned-3 : goal.returns-in-Ok-unsigned-3
unfolding opcode row_in appendix_b lawful keys
returns-in-Ok-unsigned-3 c = one c.requires.0 _ c.in-144.is refl c.unsigned-in-144.ensures c.in-Ok-unsigned-3.is refl (cal c.requires.0 _ (up 0) (here _ _) _ (c.call.ensures _) c.enter.ensures)

-- CPG
pub returns-in_default-unsigned-5 : goal.returns-in_default-unsigned-5
unfolding opcode row_in appendix_b lawful keys
returns-in_default-unsigned-5 c = cut c.requires.0 _ c.in-145.is refl c.unsigned-in-145.ensures c.in_default-unsigned-5.is

pub call-requires-in-145 : goal.call-requires-in-145
call-requires-in-145 c = (omega arith, near c.requires.0 UB _ c.unsigned-in-145.ensures c.in-Ok-unsigned-4.is)

pub returns-in-Ok-unsigned-4 : goal.returns-in-Ok-unsigned-4
unfolding opcode row_in appendix_b lawful keys
returns-in-Ok-unsigned-4 c = one c.requires.0 _ c.in-145.is refl c.unsigned-in-145.ensures c.in-Ok-unsigned-4.is refl (cal c.requires.0 _ globals (at_globals _ _) _ (c.call-in-145.ensures _) c.enter-in-145.ensures)

-- CPI
pub returns-in_default-unsigned-6 : goal.returns-in_default-unsigned-6
unfolding opcode row_in appendix_b lawful keys
returns-in_default-unsigned-6 c = cut c.requires.0 _ c.in-146.is refl (c.unsigned-in-146.ensures ∙ sym (fetched-DB _ _)) c.in_default-unsigned-6.is

pub returns-in_default-unsigned-7 : goal.returns-in_default-unsigned-7
unfolding opcode row_in appendix_b lawful keys
returns-in_default-unsigned-7 c = cut_second c.requires.0 _ c.in-146.is refl c.unsigned-in-146.ensures c.in-Ok-unsigned-5.is c.unsigned-in-146-2.ensures c.in_default-unsigned-7.is

pub returns-then-d-gt-DEEPEST-3 : goal.returns-then-d-gt-DEEPEST-3
unfolding opcode row_in appendix_b lawful keys
returns-then-d-gt-DEEPEST-3 c = deep c.requires.0 _ c.in-146.is refl c.unsigned-in-146.ensures c.in-Ok-unsigned-5.is c.unsigned-in-146-2.ensures c.in-Ok-unsigned-6.is c.if-d-gt-DEEPEST-3.true

pub returns-in_default-reach-3 : goal.returns-in_default-reach-3
unfolding opcode row_in appendix_b lawful keys
returns-in_default-reach-3 c = both c.requires.0 _ c.in-146.is refl c.unsigned-in-146.ensures c.in-Ok-unsigned-5.is c.unsigned-in-146-2.ensures c.in-Ok-unsigned-6.is c.if-d-gt-DEEPEST-3.false refl (bad_cal c.requires.0 _ (up _) (strayed _ _ _ _ c.reach-in-146.ensures c.in_default-reach-3.is) _ (bad _ _ 9))

pub call-requires-in-146 : goal.call-requires-in-146
call-requires-in-146 c = (omega (arith, rec_fits c.requires.0 _ c.reach-in-146.ensures c.in-Some-reach-2.is), near c.requires.0 UB _ c.unsigned-in-146-2.ensures c.in-Ok-unsigned-6.is)

pub returns-in-Some-reach-2 : goal.returns-in-Some-reach-2
unfolding opcode row_in appendix_b lawful keys
returns-in-Some-reach-2 c = both c.requires.0 _ c.in-146.is refl c.unsigned-in-146.ensures c.in-Ok-unsigned-5.is c.unsigned-in-146-2.ensures c.in-Ok-unsigned-6.is c.if-d-gt-DEEPEST-3.false refl (cal c.requires.0 _ (up _) (walked _ _ _ _ c.reach-in-146.ensures _ c.in-Some-reach-2.is) _ (c.call-in-146.ensures _) c.enter-in-146.ensures)

-- RPU
pub returns-in_default-big-8 : goal.returns-in_default-big-8
unfolding opcode row_in appendix_b lawful keys
returns-in_default-big-8 c = cut c.requires.0 _ c.in-150.is refl c.big-in-150.ensures c.in_default-big-8.is

pub returns-in-Ok-big-8 : goal.returns-in-Ok-big-8
unfolding opcode row_in appendix_b lawful keys
returns-in-Ok-big-8 c = one c.requires.0 _ c.in-150.is refl c.big-in-150.ensures c.in-Ok-big-8.is refl (ret c.requires.0 _ _ (c.give_back.ensures _))

-- STL
pub returns-in_default-big-9 : goal.returns-in_default-big-9
unfolding opcode row_in appendix_b lawful keys
returns-in_default-big-9 c = cut c.requires.0 _ c.in-164.is refl c.big-in-164.ensures c.in_default-big-9.is

pub returns-in-Ok-big-9 : goal.returns-in-Ok-big-9
unfolding opcode row_in appendix_b lawful keys
returns-in-Ok-big-9 c = one c.requires.0 _ c.in-164.is refl c.big-in-164.ensures c.in-Ok-big-9.is refl (sto c.requires.0 _ (up 0) (here _ _) _ (c.store.ensures _))

-- SRO
pub returns-in_default-big-10 : goal.returns-in_default-big-10
unfolding opcode row_in appendix_b lawful keys
returns-in_default-big-10 c = cut c.requires.0 _ c.in-165.is refl c.big-in-165.ensures c.in_default-big-10.is

pub returns-in-Ok-big-10 : goal.returns-in-Ok-big-10
unfolding opcode row_in appendix_b lawful keys
returns-in-Ok-big-10 c = one c.requires.0 _ c.in-165.is refl c.big-in-165.ensures c.in-Ok-big-10.is refl (sto c.requires.0 _ globals (at_globals _ _) _ (c.store-in-165.ensures _))

-- STR
pub returns-in_default-unsigned-8 : goal.returns-in_default-unsigned-8
unfolding opcode row_in appendix_b lawful keys
returns-in_default-unsigned-8 c = cut c.requires.0 _ c.in-166.is refl (c.unsigned-in-166.ensures ∙ sym (fetched-DB _ _)) c.in_default-unsigned-8.is

pub returns-in_default-big-11 : goal.returns-in_default-big-11
unfolding opcode row_in appendix_b lawful keys
returns-in_default-big-11 c = cut_second c.requires.0 _ c.in-166.is refl c.unsigned-in-166.ensures c.in-Ok-unsigned-7.is c.big-in-166.ensures c.in_default-big-11.is

pub returns-then-d-gt-DEEPEST-4 : goal.returns-then-d-gt-DEEPEST-4
unfolding opcode row_in appendix_b lawful keys
returns-then-d-gt-DEEPEST-4 c = deep c.requires.0 _ c.in-166.is refl c.unsigned-in-166.ensures c.in-Ok-unsigned-7.is c.big-in-166.ensures c.in-Ok-big-11.is c.if-d-gt-DEEPEST-4.true

pub returns-then-region-r : goal.returns-then-region-r
unfolding opcode row_in appendix_b lawful keys
returns-then-region-r c = both c.requires.0 _ c.in-166.is refl c.unsigned-in-166.ensures c.in-Ok-unsigned-7.is c.big-in-166.ensures c.in-Ok-big-11.is c.if-d-gt-DEEPEST-4.false refl (lacks c.requires.0 _ _ 1 0 (bad _ _ 3) c.if-region-r.true)

pub returns-in_default-reach-4 : goal.returns-in_default-reach-4
unfolding opcode row_in appendix_b lawful keys
returns-in_default-reach-4 c = both c.requires.0 _ c.in-166.is refl c.unsigned-in-166.ensures c.in-Ok-unsigned-7.is c.big-in-166.ensures c.in-Ok-big-11.is c.if-d-gt-DEEPEST-4.false refl (bad_sto c.requires.0 _ (up _) (strayed _ _ _ _ c.reach-in-166.ensures c.in_default-reach-4.is) _ (bad _ _ 9) c.if-region-r.false)

pub store-requires-in-166 : goal.store-requires-in-166
store-requires-in-166 c = (omega arith, (rec_fits c.requires.0 _ c.reach-in-166.ensures c.in-Some-reach-3.is, c.requires.0.small))

pub returns-in-Some-reach-3 : goal.returns-in-Some-reach-3
unfolding opcode row_in appendix_b lawful keys
returns-in-Some-reach-3 c = both c.requires.0 _ c.in-166.is refl c.unsigned-in-166.ensures c.in-Ok-unsigned-7.is c.big-in-166.ensures c.in-Ok-big-11.is c.if-d-gt-DEEPEST-4.false refl (sto c.requires.0 _ (up _) (walked _ _ _ _ c.reach-in-166.ensures _ c.in-Some-reach-3.is) _ (c.store-in-166.ensures _))

-- SLOD1
pub returns-in_default-big-12 : goal.returns-in_default-big-12
unfolding opcode row_in appendix_b lawful keys
returns-in_default-big-12 c = cut c.requires.0 _ c.in-173.is refl c.big-in-173.ensures c.in_default-big-12.is

pub returns-in_default-reach-5 : goal.returns-in_default-reach-5
unfolding opcode row_in appendix_b lawful keys
returns-in_default-reach-5 c = one c.requires.0 _ c.in-173.is refl c.big-in-173.ensures c.in-Ok-big-12.is refl (bad_lod c.requires.0 _ (up 1) (strayed _ _ _ _ c.reach-in-173.ensures c.in_default-reach-5.is) _ (bad _ _ 9))

pub load-requires-in-173 : goal.load-requires-in-173
load-requires-in-173 c = (omega arith, rec_fits c.requires.0 1 c.reach-in-173.ensures c.in-Some-reach-4.is)

pub returns-in-Some-reach-4 : goal.returns-in-Some-reach-4
unfolding opcode row_in appendix_b lawful keys
returns-in-Some-reach-4 c = one c.requires.0 _ c.in-173.is refl c.big-in-173.ensures c.in-Ok-big-12.is refl (lod c.requires.0 _ (up 1) (walked _ _ _ _ c.reach-in-173.ensures _ c.in-Some-reach-4.is) _ (c.load-in-173.ensures _))

-- SLOD2
pub returns-in_default-big-13 : goal.returns-in_default-big-13
unfolding opcode row_in appendix_b lawful keys
returns-in_default-big-13 c = cut c.requires.0 _ c.in-174.is refl c.big-in-174.ensures c.in_default-big-13.is

pub returns-in_default-reach-6 : goal.returns-in_default-reach-6
unfolding opcode row_in appendix_b lawful keys
returns-in_default-reach-6 c = one c.requires.0 _ c.in-174.is refl c.big-in-174.ensures c.in-Ok-big-13.is refl (bad_lod c.requires.0 _ (up 2) (strayed _ _ _ _ c.reach-in-174.ensures c.in_default-reach-6.is) _ (bad _ _ 9))

pub load-requires-in-174 : goal.load-requires-in-174
load-requires-in-174 c = (omega arith, rec_fits c.requires.0 2 c.reach-in-174.ensures c.in-Some-reach-5.is)

pub returns-in-Some-reach-5 : goal.returns-in-Some-reach-5
unfolding opcode row_in appendix_b lawful keys
returns-in-Some-reach-5 c = one c.requires.0 _ c.in-174.is refl c.big-in-174.ensures c.in-Ok-big-13.is refl (lod c.requires.0 _ (up 2) (walked _ _ _ _ c.reach-in-174.ensures _ c.in-Some-reach-5.is) _ (c.load-in-174.ensures _))

-- FJP
pub returns-in_default-signed-2 : goal.returns-in_default-signed-2
unfolding opcode row_in appendix_b lawful keys
returns-in_default-signed-2 c = cut c.requires.0 _ c.in-212.is refl c.signed-in-212.ensures c.in_default-signed-2.is

pub returns-then-region-r-2 : goal.returns-then-region-r-2
unfolding opcode row_in appendix_b lawful keys
returns-then-region-r-2 c = one c.requires.0 _ c.in-212.is refl c.signed-in-212.ensures c.in-Ok-signed-2.is refl (lacks c.requires.0 _ _ 1 0 (bad _ _ 3) c.if-region-r-2.true)

pub branch-region-requires-clause-next_bound : goal.branch-region-requires-clause-next_bound
branch-region-requires-clause-next_bound c = near c.requires.0 SB _ c.signed-in-212.ensures c.in-Ok-signed-2.is

pub returns-else-region-r-2 : goal.returns-else-region-r-2
unfolding opcode row_in appendix_b lawful keys
returns-else-region-r-2 c = one c.requires.0 _ c.in-212.is refl c.signed-in-212.ensures c.in-Ok-signed-2.is refl (bra c.requires.0 _ 0 _ c.if-region-r-2.false (c.branch-region.ensures _))

-- FJPL
pub returns-in_default-wide-3 : goal.returns-in_default-wide-3
unfolding opcode row_in appendix_b lawful keys
returns-in_default-wide-3 c = cut c.requires.0 _ c.in-213.is refl c.wide-in-213.ensures c.in_default-wide-3.is

pub returns-then-region-r-3 : goal.returns-then-region-r-3
unfolding opcode row_in appendix_b lawful keys
returns-then-region-r-3 c = one c.requires.0 _ c.in-213.is refl c.wide-in-213.ensures c.in-Ok-wide-3.is refl (lacks c.requires.0 _ _ 1 0 (bad _ _ 3) c.if-region-r-3.true)

pub branch-region-requires-in-213-clause-next_bound : goal.branch-region-requires-in-213-clause-next_bound
branch-region-requires-in-213-clause-next_bound c = near c.requires.0 W _ c.wide-in-213.ensures c.in-Ok-wide-3.is

pub returns-else-region-r-3 : goal.returns-else-region-r-3
unfolding opcode row_in appendix_b lawful keys
returns-else-region-r-3 c = one c.requires.0 _ c.in-213.is refl c.wide-in-213.ensures c.in-Ok-wide-3.is refl (bra c.requires.0 _ 0 _ c.if-region-r-3.false (c.branch-region-in-213.ensures _))

-- IND
pub returns-in_default-big-14 : goal.returns-in_default-big-14
unfolding opcode row_in appendix_b lawful keys
returns-in_default-big-14 c = cut c.requires.0 _ c.in-230.is refl c.big-in-230.ensures c.in_default-big-14.is

pub returns-in-Ok-big-14 : goal.returns-in-Ok-big-14
unfolding opcode row_in appendix_b lawful keys
returns-in-Ok-big-14 c = one c.requires.0 _ c.in-230.is refl c.big-in-230.ensures c.in-Ok-big-14.is refl (ind c.requires.0 _ _ (c.index.ensures _))

-- SCPI1
pub returns-in_default-unsigned-9 : goal.returns-in_default-unsigned-9
unfolding opcode row_in appendix_b lawful keys
returns-in_default-unsigned-9 c = cut c.requires.0 _ c.in-239.is refl c.unsigned-in-239.ensures c.in_default-unsigned-9.is

pub returns-in_default-reach-7 : goal.returns-in_default-reach-7
unfolding opcode row_in appendix_b lawful keys
returns-in_default-reach-7 c = one c.requires.0 _ c.in-239.is refl c.unsigned-in-239.ensures c.in-Ok-unsigned-8.is refl (bad_cal c.requires.0 _ (up 1) (strayed _ _ _ _ c.reach-in-239.ensures c.in_default-reach-7.is) _ (bad _ _ 9))

pub call-requires-in-239 : goal.call-requires-in-239
call-requires-in-239 c = (omega (arith, rec_fits c.requires.0 1 c.reach-in-239.ensures c.in-Some-reach-6.is), near c.requires.0 UB _ c.unsigned-in-239.ensures c.in-Ok-unsigned-8.is)

pub returns-in-Some-reach-6 : goal.returns-in-Some-reach-6
unfolding opcode row_in appendix_b lawful keys
returns-in-Some-reach-6 c = one c.requires.0 _ c.in-239.is refl c.unsigned-in-239.ensures c.in-Ok-unsigned-8.is refl (cal c.requires.0 _ (up 1) (walked _ _ _ _ c.reach-in-239.ensures _ c.in-Some-reach-6.is) _ (c.call-in-239.ensures _) c.enter-in-239.ensures)

-- SCPI2
pub returns-in_default-unsigned-10 : goal.returns-in_default-unsigned-10
unfolding opcode row_in appendix_b lawful keys
returns-in_default-unsigned-10 c = cut c.requires.0 _ c.in-240.is refl c.unsigned-in-240.ensures c.in_default-unsigned-10.is

pub returns-in_default-reach-8 : goal.returns-in_default-reach-8
unfolding opcode row_in appendix_b lawful keys
returns-in_default-reach-8 c = one c.requires.0 _ c.in-240.is refl c.unsigned-in-240.ensures c.in-Ok-unsigned-9.is refl (bad_cal c.requires.0 _ (up 2) (strayed _ _ _ _ c.reach-in-240.ensures c.in_default-reach-8.is) _ (bad _ _ 9))

pub call-requires-in-240 : goal.call-requires-in-240
call-requires-in-240 c = (omega (arith, rec_fits c.requires.0 2 c.reach-in-240.ensures c.in-Some-reach-7.is), near c.requires.0 UB _ c.unsigned-in-240.ensures c.in-Ok-unsigned-9.is)

pub returns-in-Some-reach-7 : goal.returns-in-Some-reach-7
unfolding opcode row_in appendix_b lawful keys
returns-in-Some-reach-7 c = one c.requires.0 _ c.in-240.is refl c.unsigned-in-240.ensures c.in-Ok-unsigned-9.is refl (cal c.requires.0 _ (up 2) (walked _ _ _ _ c.reach-in-240.ensures _ c.in-Some-reach-7.is) _ (c.call-in-240.ensures _) c.enter-in-240.ensures)

-- TJP
pub returns-in_default-signed-3 : goal.returns-in_default-signed-3
unfolding opcode row_in appendix_b lawful keys
returns-in_default-signed-3 c = cut c.requires.0 _ c.in-241.is refl c.signed-in-241.ensures c.in_default-signed-3.is

pub returns-then-region-r-4 : goal.returns-then-region-r-4
unfolding opcode row_in appendix_b lawful keys
returns-then-region-r-4 c = one c.requires.0 _ c.in-241.is refl c.signed-in-241.ensures c.in-Ok-signed-3.is refl (lacks c.requires.0 _ _ 1 0 (bad _ _ 3) c.if-region-r-4.true)

pub branch-region-requires-in-241-clause-next_bound : goal.branch-region-requires-in-241-clause-next_bound
branch-region-requires-in-241-clause-next_bound c = near c.requires.0 SB _ c.signed-in-241.ensures c.in-Ok-signed-3.is

pub returns-else-region-r-4 : goal.returns-else-region-r-4
unfolding opcode row_in appendix_b lawful keys
returns-else-region-r-4 c = one c.requires.0 _ c.in-241.is refl c.signed-in-241.ensures c.in-Ok-signed-3.is refl (bra c.requires.0 _ 1 _ c.if-region-r-4.false (c.branch-region-in-241.ensures _))

-- LDC
pub returns-in_default-unsigned-11 : goal.returns-in_default-unsigned-11
unfolding opcode row_in appendix_b lawful keys
returns-in_default-unsigned-11 c = cut c.requires.0 _ c.in-131.is refl c.unsigned-in-131.ensures c.in_default-unsigned-11.is

pub returns-in_default-big-15 : goal.returns-in_default-big-15
unfolding opcode row_in appendix_b lawful keys
returns-in_default-big-15 c = cut_middle c.requires.0 _ c.in-131.is refl c.unsigned-in-131.ensures c.in-Ok-unsigned-10.is c.big-in-131.ensures c.in_default-big-15.is

pub returns-in_default-unsigned-12 : goal.returns-in_default-unsigned-12
unfolding opcode row_in appendix_b lawful keys
returns-in_default-unsigned-12 c = cut_third c.requires.0 _ c.in-131.is refl c.unsigned-in-131.ensures c.in-Ok-unsigned-10.is c.big-in-131.ensures c.in-Ok-big-15.is c.unsigned-in-131-2.ensures c.in_default-unsigned-12.is

pub returns-in-Ok-unsigned-11 : goal.returns-in-Ok-unsigned-11
unfolding opcode row_in appendix_b lawful keys
returns-in-Ok-unsigned-11 c = all_three c.requires.0 _ c.in-131.is refl c.unsigned-in-131.ensures c.in-Ok-unsigned-10.is c.big-in-131.ensures c.in-Ok-big-15.is c.unsigned-in-131-2.ensures c.in-Ok-unsigned-11.is refl refl refl (blk c.requires.0 _ _ _ _ (c.block.ensures _) c.words_at.ensures)

-- XJP
pub returns-in_default-big-16 : goal.returns-in_default-big-16
unfolding opcode row_in appendix_b lawful keys
returns-in_default-big-16 c = cut c.requires.0 _ c.in-214.is refl c.big-in-214.ensures c.in_default-big-16.is

pub returns-then-region-r-5 : goal.returns-then-region-r-5
unfolding opcode row_in appendix_b lawful keys
returns-then-region-r-5 c = one c.requires.0 _ c.in-214.is refl c.big-in-214.ensures c.in-Ok-big-16.is refl (lacks c.requires.0 _ _ 1 0 (bad _ _ 3) c.if-region-r-5.true)

pub choose-requires : goal.choose-requires
choose-requires c = (omega (arith, c.requires.0.ranged.sp_high, c.requires.0.small), near c.requires.0 B _ c.big-in-214.ensures c.in-Ok-big-16.is)

pub returns-else-region-r-5 : goal.returns-else-region-r-5
unfolding opcode row_in appendix_b lawful keys
returns-else-region-r-5 c = one c.requires.0 _ c.in-214.is refl c.big-in-214.ensures c.in-Ok-big-16.is refl (cas c.requires.0 _ _ c.if-region-r-5.false (c.choose.ensures _) (rw c.word_of.ensures at c.case_at.ensures))

-- MPI
pub returns-in-140 : goal.returns-in-140
unfolding opcode row_in appendix_b lawful keys
returns-in-140 c = bare c.requires.0 _ c.in-140.is refl (bin c.requires.0 _ mul_of (c.two_words.ensures _))

-- DVI
pub returns-in-141 : goal.returns-in-141
unfolding opcode row_in appendix_b lawful keys
returns-in-141 c = bare c.requires.0 _ c.in-141.is refl (div c.requires.0 _ quot_of (c.divide.ensures _))

-- MODI
pub returns-in-143 : goal.returns-in-143
unfolding opcode row_in appendix_b lawful keys
returns-in-143 c = bare c.requires.0 _ c.in-143.is refl (div c.requires.0 _ rem_of (c.divide-in-143.ensures _))

-- LDCN
pub returns-in-152 : goal.returns-in-152
unfolding opcode row_in appendix_b lawful keys
returns-in-152 c = bare c.requires.0 _ c.in-152.is refl (con c.requires.0 _ _ (c.push-in-152.ensures _))

-- NOP
pub returns-in-156 : goal.returns-in-156
unfolding opcode row_in appendix_b lawful keys
returns-in-156 c = bare c.requires.0 _ c.in-156.is refl (nop c.requires.0 _ (moves _ _ _ _))

-- LOR
pub returns-in-160 : goal.returns-in-160
unfolding opcode row_in appendix_b lawful keys
returns-in-160 c = bare c.requires.0 _ c.in-160.is refl (bin c.requires.0 _ or_of (c.two_words-in-160.ensures _))

-- LAND
pub returns-in-161 : goal.returns-in-161
unfolding opcode row_in appendix_b lawful keys
returns-in-161 c = bare c.requires.0 _ c.in-161.is refl (bin c.requires.0 _ and_of (c.two_words-in-161.ensures _))

-- ADI
pub returns-in-162 : goal.returns-in-162
unfolding opcode row_in appendix_b lawful keys
returns-in-162 c = bare c.requires.0 _ c.in-162.is refl (bin c.requires.0 _ add_of (c.two_words-in-162.ensures _))

-- SBI
pub returns-in-163 : goal.returns-in-163
unfolding opcode row_in appendix_b lawful keys
returns-in-163 c = bare c.requires.0 _ c.in-163.is refl (bin c.requires.0 _ sub_of (c.two_words-in-163.ensures _))

-- EQUI
pub returns-in-176 : goal.returns-in-176
unfolding opcode row_in appendix_b lawful keys
returns-in-176 c = bare c.requires.0 _ c.in-176.is refl (bin c.requires.0 _ eq_of (c.two_words-in-176.ensures _))

-- NEQI
pub returns-in-177 : goal.returns-in-177
unfolding opcode row_in appendix_b lawful keys
returns-in-177 c = bare c.requires.0 _ c.in-177.is refl (bin c.requires.0 _ ne_of (c.two_words-in-177.ensures _))

-- LEQI
pub returns-in-178 : goal.returns-in-178
unfolding opcode row_in appendix_b lawful keys
returns-in-178 c = bare c.requires.0 _ c.in-178.is refl (bin c.requires.0 _ leq_of (c.two_words-in-178.ensures _))

-- GEQI
pub returns-in-179 : goal.returns-in-179
unfolding opcode row_in appendix_b lawful keys
returns-in-179 c = bare c.requires.0 _ c.in-179.is refl (bin c.requires.0 _ geq_of (c.two_words-in-179.ensures _))

-- LEUSW
pub returns-in-180 : goal.returns-in-180
unfolding opcode row_in appendix_b lawful keys
returns-in-180 c = bare c.requires.0 _ c.in-180.is refl (bin c.requires.0 _ leu_of (c.two_words-in-180.ensures _))

-- GEUSW
pub returns-in-181 : goal.returns-in-181
unfolding opcode row_in appendix_b lawful keys
returns-in-181 c = bare c.requires.0 _ c.in-181.is refl (bin c.requires.0 _ geu_of (c.two_words-in-181.ensures _))

-- SWAP
pub returns-in-189 : goal.returns-in-189
unfolding opcode row_in appendix_b lawful keys
returns-in-189 c = bare c.requires.0 _ c.in-189.is refl (swp c.requires.0 _ (c.swap.ensures _))

-- STO
pub returns-in-196 : goal.returns-in-196
unfolding opcode row_in appendix_b lawful keys
returns-in-196 c = bare c.requires.0 _ c.in-196.is refl (sta c.requires.0 _ (c.store_at.ensures _))

-- CHK
pub returns-in-203 : goal.returns-in-203
unfolding opcode row_in appendix_b lawful keys
returns-in-203 c = bare c.requires.0 _ c.in-203.is refl (chk c.requires.0 _ (c.check_range.ensures _))

-- ABI
pub returns-in-224 : goal.returns-in-224
unfolding opcode row_in appendix_b lawful keys
returns-in-224 c = bare c.requires.0 _ c.in-224.is refl (un c.requires.0 _ mag_of (c.one_word.ensures _))

-- NGI
pub returns-in-225 : goal.returns-in-225
unfolding opcode row_in appendix_b lawful keys
returns-in-225 c = bare c.requires.0 _ c.in-225.is refl (un c.requires.0 _ neg_of (c.one_word-in-225.ensures _))

-- DUP1
pub returns-in-226 : goal.returns-in-226
unfolding opcode row_in appendix_b lawful keys
returns-in-226 c = bare c.requires.0 _ c.in-226.is refl (dup c.requires.0 _ (c.duplicate.ensures _))

-- LNOT
pub returns-in-229 : goal.returns-in-229
unfolding opcode row_in appendix_b lawful keys
returns-in-229 c = bare c.requires.0 _ c.in-229.is refl (un c.requires.0 _ not_of (c.one_word-in-229.ensures _))

-- INCI
pub returns-in-237 : goal.returns-in-237
unfolding opcode row_in appendix_b lawful keys
returns-in-237 c = bare c.requires.0 _ c.in-237.is refl (un c.requires.0 _ inc_of (c.one_word-in-237.ensures _))

-- DECI
pub returns-in-238 : goal.returns-in-238
unfolding opcode row_in appendix_b lawful keys
returns-in-238 c = bare c.requires.0 _ c.in-238.is refl (un c.requires.0 _ dec_of (c.one_word-in-238.ensures _))

-- the short forms
pub returns-in-0-to-31 : goal.returns-in-0-to-31
unfolding opcode row_in appendix_b lawful keys
returns-in-0-to-31 c = short c.requires.0 _ c.args.op (sldc c.args.op (omega arith)) (con c.requires.0 _ _ (c.push-in-0-to-31.ensures _))

pub returns-in-32-to-47 : goal.returns-in-32-to-47
unfolding opcode row_in appendix_b lawful keys
returns-in-32-to-47 c = short c.requires.0 _ c.args.op (sldl c.args.op (omega arith) (omega arith)) (lod c.requires.0 _ (up 0) (here _ _) _ (c.load-in-32-to-47.ensures _))

pub returns-in-48-to-63 : goal.returns-in-48-to-63
unfolding opcode row_in appendix_b lawful keys
returns-in-48-to-63 c = short c.requires.0 _ c.args.op (sldo c.args.op (omega arith) (omega arith)) (lod c.requires.0 _ globals (at_globals _ _) _ (c.load-in-48-to-63.ensures _))

pub returns-in-96-to-103 : goal.returns-in-96-to-103
unfolding opcode row_in appendix_b lawful keys
returns-in-96-to-103 c = short c.requires.0 _ c.args.op (slla c.args.op (omega arith) (omega arith)) (adr c.requires.0 _ (up 0) (here _ _) _ (c.address-in-96-to-103.ensures _))

pub returns-in-104-to-111 : goal.returns-in-104-to-111
unfolding opcode row_in appendix_b lawful keys
returns-in-104-to-111 c = short c.requires.0 _ c.args.op (sstl c.args.op (omega arith) (omega arith)) (sto c.requires.0 _ (up 0) (here _ _) _ (c.store-in-104-to-111.ensures _))

pub returns-in-120-to-127 : goal.returns-in-120-to-127
unfolding opcode row_in appendix_b lawful keys
returns-in-120-to-127 c = short c.requires.0 _ c.args.op (sind c.args.op (omega arith) (omega arith)) (ind c.requires.0 _ _ (c.index-in-120-to-127.ensures _))

pub returns-in_default : goal.returns-in_default
unfolding opcode row_in appendix_b lawful keys
returns-in_default c = unknown c.requires.0 _ c.args.op (gap_low c.args.op (omega arith) (omega arith))

pub returns-in_default-2 : goal.returns-in_default-2
unfolding opcode row_in appendix_b lawful keys
returns-in_default-2 c = unknown c.requires.0 _ c.args.op (gap_high c.args.op (omega arith) (omega arith))

pub returns-in_default-3 : goal.returns-in_default-3
unfolding opcode row_in appendix_b lawful keys
returns-in_default-3 c = unknown c.requires.0 _ c.args.op (no_key c.args.op (omega arith) (omega arith) (search rules))
