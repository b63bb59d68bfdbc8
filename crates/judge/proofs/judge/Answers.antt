-- `judge::judge` meets its contract: there is no first byte, or what its arm answers. Assumes nothing.
use native.Mathlib.Omega.{arith}
use Rattle.judge.proofs.First.{decoded_in, stops, goes_on}
use Rattle.judge.proofs.judge.Goals as goal

pub returns-in_default : goal.returns-in_default
returns-in_default c = stops c.args.seg.now c.args.shared.now c.args.region.now c.args.r _ c.decode.ensures c.in_default.is

pub act-requires : goal.act-requires
act-requires c = (c.requires, omega (arith, decoded_in c.args.seg.now c.args.r.counter _ _ c.decode.ensures c.in-Decoded.is))

pub returns : goal.returns
returns c = goes_on c.args.seg.now c.args.shared.now c.args.region.now c.args.r _ c.decode.ensures _ c.in-Decoded.is c.act.ensures
