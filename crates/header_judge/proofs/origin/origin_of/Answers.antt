-- `origin_of` gives the socket and the die that a header names.
-- The bytes of its layout are there because a size was found. Assumes nothing.
use native.Mathlib.Omega.{arith}
use Rattle.header_judge.proofs.Sizes.{size_there}
use Rattle.header_judge.proofs.origin.origin_of.Goals as goal

pub read_le-requires : goal.read_le-requires
read_le-requires c =
    let a = c.args in
    omega (arith, size_there a.s.now a.word a.flags c.in-Six.ensures c.requires)

pub read_le-requires-in-Six : goal.read_le-requires-in-Six
read_le-requires-in-Six c =
    let a = c.args in
    omega (arith, size_there a.s.now a.word a.flags c.in-Six.ensures c.requires)

pub read_le-requires-in-LegacyServer : goal.read_le-requires-in-LegacyServer
read_le-requires-in-LegacyServer c =
    let a = c.args in
    omega (arith, size_there a.s.now a.word a.flags c.in-LegacyServer.ensures c.requires)
