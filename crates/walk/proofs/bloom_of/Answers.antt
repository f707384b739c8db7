-- `walk::bloom_of` meets its contract.
use Rattle.walk.proofs.bloom_of.Goals as goal

pub returns-in-Passed : goal.returns-in-Passed
returns-in-Passed c = rw c.in-Passed.is

pub returns-in-Searched : goal.returns-in-Searched
returns-in-Searched c = rw c.in-Searched.is
