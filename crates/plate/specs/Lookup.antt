-- What a lookup answers: a number, 0 for done, and the plate. Assumes nothing.
use Rattle.std.specs.Prelude.{ℕ}

pub record Lookup : Type 0 where
  pub number : ℕ
  pub plate : ℕ
