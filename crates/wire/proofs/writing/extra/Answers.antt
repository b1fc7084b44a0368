-- By the least power of 16 that v is below.
use native.Mathlib.Omega.{arith}
use Rattle.wire.proofs.WriteWays.{extra-is}
use Rattle.wire.proofs.writing.extra.Goals as goal

pub returns-then-v-lt16 : goal.returns-then-v-lt16
returns-then-v-lt16 c = extra-is 0 _ (omega arith) (omega arith) (omega arith)

pub returns-then-v-lt256 : goal.returns-then-v-lt256
returns-then-v-lt256 c = extra-is 1 _ (omega arith) (omega arith) (omega arith)

pub returns-then-v-lt4096 : goal.returns-then-v-lt4096
returns-then-v-lt4096 c = extra-is 2 _ (omega arith) (omega arith) (omega arith)

pub returns-then-v-lt65536 : goal.returns-then-v-lt65536
returns-then-v-lt65536 c = extra-is 3 _ (omega arith) (omega arith) (omega arith)

pub returns-then-v-lt1048576 : goal.returns-then-v-lt1048576
returns-then-v-lt1048576 c = extra-is 4 _ (omega arith) (omega arith) (omega arith)

pub returns-then-v-lt16777216 : goal.returns-then-v-lt16777216
returns-then-v-lt16777216 c = extra-is 5 _ (omega arith) (omega arith) (omega arith)

pub returns-then-v-lt268435456 : goal.returns-then-v-lt268435456
returns-then-v-lt268435456 c = extra-is 6 _ (omega arith) (omega arith) (omega arith)

pub returns : goal.returns
returns c = extra-is 7 _ (omega arith) (omega arith) (omega arith)
