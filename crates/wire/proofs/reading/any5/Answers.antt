-- By the ones that its window begins with, and by what is left below the wall.
use mathlib.Core.Path.{refl}
use native.Mathlib.Omega.{arith}
use Rattle.wire.proofs.Whole5.{some-ones, window-fits, way-five-before, way-five-full, way-five-short, way-five-off, way-five-cut, way-five-none, way-five-one}
use Rattle.wire.proofs.reading.any5.Goals as goal

pub returns-then-e-a : goal.returns-then-e-a
returns-then-e-a c = way-five-before _ _ _ c.if-e-a.true

pub returns-then-left-lt5 : goal.returns-then-left-lt5
returns-then-left-lt5 c = way-five-none _ _ _ _ (omega arith) c.window-x.ensures c.if-x-lt72057594037927936.true c.if-left-lt5.true

pub returns-then-x-lt72057594037927936 : goal.returns-then-x-lt72057594037927936
returns-then-x-lt72057594037927936 c = way-five-one _ _ _ _ (omega arith) c.window-x.ensures c.if-x-lt72057594037927936.true c.if-left-lt5.false _ refl

pub leading-n-requires : goal.leading-n-requires
leading-n-requires c = window-fits _ _ _ c.window-x.ensures

pub returns-then-left-lt8 : goal.returns-then-left-lt8
returns-then-left-lt8 c = way-five-short _ _ _ _ (omega arith) c.window-x.ensures _ c.leading-n.ensures (omega arith) c.if-left-lt8.true

pub returns-then-n-ge8 : goal.returns-then-n-ge8
returns-then-n-ge8 c = way-five-full _ _ _ _ (omega arith) c.window-x.ensures _ c.leading-n.ensures (omega arith) c.if-left-lt8.false

pub returns-then-left-n : goal.returns-then-left-n
returns-then-left-n c = way-five-off _ _ _ _ (omega arith) c.window-x.ensures _ c.leading-n.ensures (omega arith) c.if-left-n.true

pub cut5-requires : goal.cut5-requires
cut5-requires c = (some-ones _ _ c.if-x-lt72057594037927936.false c.leading-n.ensures, omega arith)

pub returns : goal.returns
returns c = way-five-cut _ _ _ _ (omega arith) c.window-x.ensures _ c.leading-n.ensures _ _ (omega arith) c.if-left-n.false refl c.cut5.ensures
