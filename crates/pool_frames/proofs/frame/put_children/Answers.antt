-- `pool_frames::frame::put_children` meets its contract: as many children as the count says, and at most three.
-- Assumes nothing.
use native.Mathlib.Omega.{arith}
use Rattle.pool_frames.proofs.Parts.{children-size, put-none, put_one, put-pair, put_three}
use Rattle.pool_frames.proofs.frame.put_children.Goals as goal

pub returns-then-x-lt1 : goal.returns-then-x-lt1
returns-then-x-lt1 c = let x = c.args.x in put-none _ x.c0 x.c1 x.c2 _ _ c.if-x-lt1.true

pub put_u16-requires : goal.put_u16-requires
put_u16-requires c = let x = c.args.x in omega (arith, c.requires, children-size x.count x.c0 x.c1 x.c2)

pub returns-then-x-lt2 : goal.returns-then-x-lt2
returns-then-x-lt2 c = let x = c.args.x in put_one _ x.c0 x.c1 x.c2 _ _ c.put_u16.ensures c.if-x-lt1.false c.if-x-lt2.true

pub put_u16-requires-2 : goal.put_u16-requires-2
put_u16-requires-2 c = let x = c.args.x in omega (arith, c.requires, children-size x.count x.c0 x.c1 x.c2)

pub returns-then-x-lt3 : goal.returns-then-x-lt3
returns-then-x-lt3 c = let x = c.args.x in put-pair _ x.c0 x.c1 x.c2 _ _ c.put_u16.ensures c.put_u16-2.ensures c.if-x-lt2.false c.if-x-lt3.true

pub put_u16-requires-3 : goal.put_u16-requires-3
put_u16-requires-3 c = let x = c.args.x in omega (arith, c.requires, children-size x.count x.c0 x.c1 x.c2)

pub returns : goal.returns
returns c = let x = c.args.x in put_three _ x.c0 x.c1 x.c2 _ _ c.put_u16.ensures c.put_u16-2.ensures c.put_u16-3.ensures c.if-x-lt3.false
